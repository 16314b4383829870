-- A group of a dense node that is found or made keeps the rules, but that it may be empty.
use Rattle.std.proofs.Common.{◌≡◌, ℕ, Bool, true, Some, List, ◌∷◌, Result, Ok, Err, IfOk, Option, None, sym, ap, ◌∙◌, subst, inl, inr, ⊎_elim, refl}
use Rattle.std.specs.Prelude.{◌↔◌}
use Rattle.rec_bytes.specs.declared.key.Key.{Key}
use Rattle.rec_bytes.specs.declared.shape.Shape.{Shape}
use Rattle.rec_bytes.specs.Format as format
use Rattle.rec_bytes.specs.Space.{SameButReads, State, WritesOnly}
use Rattle.store_rules.specs.Ends.{Regroups}
use Rattle.store_rules.specs.Views.{Records, rec_at}
use Rattle.group_store.specs.declared.group_row.GroupRow.{GroupRow}
use Rattle.group_store.specs.Finding.{IsFound}
use Rattle.group_store.specs.GroupChain.{IsDense, IsGroupChain, LacksGroup}
use Rattle.group_store.specs.Spreading.{AreExactBut, HasCountedGroups, HasOpened, KeepsBut}
use Rattle.group_store.proofs.GroupRules.{IsGroupChain-HasGroups, row_of_group}
use Rattle.group_store.proofs.Leaves.{leaves_both, leaves_read}
use Rattle.group_store.proofs.Regrouping.{regroups_both, regroups_read}

pub if_ok : {T E : Type 0} (r : Result T E) (P Q : T → Type 0) → ((x : T) → P x → Q x) → IfOk r P → IfOk r Q
if_ok (Ok x) P Q f p = f x p
if_ok (Err e) P Q f p = tt

-- what holds of a space holds of it after reads
pub writes_after : (s now end : State) (keys : List Key) → SameButReads s now → WritesOnly now end keys → WritesOnly s end keys
writes_after s now end keys same writes = record {
  each = λ q w. ⊎_elim (λ k. inl (subst (λ (t : Key → Bool). t q ≡ true) (ap (λ (t : State). t.written) same)
      k)) (λ k. inr k) (writes.each q w);
}

pub keeps_then : (s now : State) (node : ℕ) (rest : List ℕ) (most : ℕ) (empty : List ℕ) → SameButReads s now → KeepsBut s.records s.shape node rest most empty
    → KeepsBut now.records now.shape node rest most empty
keeps_then s now node rest most empty same keeps = subst (λ (t : State). KeepsBut t.records t.shape node rest most empty) (sym same) keeps

-- one group more may be empty
pub keeps_more : (records : Records) (shape : Shape) (node g : ℕ) (rest : List ℕ) (most : ℕ) (empty : List ℕ) → KeepsBut records shape node rest most empty
    → KeepsBut records shape node rest most (g ∷ empty)
keeps_more records shape node g rest most empty keeps = record {
  others = keeps.others;
  linked = keeps.linked;
  grouped = record {
    owned = keeps.grouped.owned;
    each = λ n d. let h = keeps.grouped.each n d in record {
      members = h.members;
      chain = h.chain;
      only = h.only;
      filled = λ k i. ⊎_elim (λ f. inl f)
          (λ j. inr (inr j)) (h.filled k i);
      all = h.all;
      once = h.once;
    };
  };
}

-- a group that is found
pub opened_found : (s now : State) (node label : ℕ) (row : GroupRow) → SameButReads s now → IsFound s.records node label (Some row)
    → (rest : List ℕ) (most : ℕ) (empty : List ℕ)
    → KeepsBut s.records s.shape node rest most empty → KeepsBut now.records now.shape node rest most (row.id ∷ empty) × HasOpened s now node label row.id rest
opened_found s now node label row same found rest most empty keeps = (
  keeps_then s now node rest most (row.id ∷ empty) same (keeps_more s.records s.shape node row.id rest most empty keeps),
  subst (λ (t : State). HasOpened s t node label row.id rest) (sym same) (record {
    group = row_of_group s.records node row.id found.1.member
        ∙ (λ i. Some (record { id = row.id; label = (ap (λ (r : GroupRow). r.label) (sym found.1.is) ∙ found.1.typed) i; owner = found.1.member.owner i }));
    dense = found.0;
    regroups = regroups_read s now.reads node;
    leaves = leaves_read s (record s { reads = now.reads }) node refl;
    rels = λ x. refl;
    exact = λ h. h;
    counted = λ h. h;
  }),
)

-- where none is found the node has none
pub none_found : (s : State) (node label : ℕ) (rest : List ℕ) (most : ℕ) (empty : List ℕ) → KeepsBut s.records s.shape node rest most empty
    → (dense : IsDense s.records node) (found : Option GroupRow) → found ≡ None
    → ((xs : List ℕ) → IsGroupChain s.records node xs → (found ≡ None) ↔ LacksGroup s.records node label) → LacksGroup s.records node label
none_found s node label rest most empty keeps dense found is exact =
    let has = keeps.grouped.each node dense in
    (exact has.members (IsGroupChain-HasGroups s.records s.shape node keeps.others.ranges has)).0 is

-- a group that is made after reads
pub opened_made : (s now end : State) (node label id : ℕ) (rest : List ℕ) (most : ℕ) (empty : List ℕ) → SameButReads s now
    → KeepsBut end.records end.shape node rest most (id ∷ empty) × HasOpened now end node label id rest
    → KeepsBut end.records end.shape node rest most (id ∷ empty) × HasOpened s end node label id rest
opened_made s now end node label id rest most empty same made = (
  made.0,
  record {
    group = made.1.group;
    dense = made.1.dense;
    regroups = regroups_both s now end node (subst (λ (t : State). Regroups s t node) (sym same) (regroups_read s now.reads node)) made.1.regroups;
    leaves = leaves_both s now end node (subst (λ (t : State). Regroups s t node) (sym same) (regroups_read s now.reads node)) (leaves_read s now node same)
        made.1.leaves;
    rels = λ x. made.1.rels x ∙ ap (λ (t : State). rec_at t.records format.relationships_file x) same;
    exact = λ h. made.1.exact (subst (λ (t : State). AreExactBut t.records node rest) (sym same) h);
    counted = λ h. made.1.counted (subst (λ (t : State). HasCountedGroups t.records node) (sym same) h);
  },
)
