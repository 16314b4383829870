-- What a closed head leaves of the store.
use Rattle.std.proofs.Common.{◌≡◌, ℕ, nat_eq, Bool, true, false, not, cond, List, [], ◌∷◌, ◌++◌, refl, sym, ap, subst, ⊎_elim, arith}
use Rattle.rec_bytes.specs.declared.key.Key.{Key}
use Rattle.rec_bytes.specs.Format as format
use Rattle.rec_bytes.specs.Space.{SameButReads, State}
use Rattle.store_rules.specs.Rules.{GroupHead, Head, KeepsRules, SparseHead, is_filled}
use Rattle.store_rules.specs.Views.{group_at, kind_at, rec_at}
use Rattle.group_store.specs.Closing.{CanClose, HasClosed}
use Rattle.group_store.specs.Dropping.{IsOnChain, dropped}
use Rattle.group_store.specs.GroupChain.{IsGroupOf}
use Rattle.group_store.proofs.ChainHeads.{chain_of, is_chain}
use Rattle.group_store.proofs.DroppedRules.{dropped_rules}
use Rattle.group_store.proofs.GroupRules.{group_of_row}
use Rattle.group_store.proofs.Openings.{is_not, keeps_read, regroups_read}

-- the head of a record, by its parts
abbrev pub head_at : ℕ → ℕ → ℕ → Head
head_at file id place = record { key = record { file = file; id = id }; field = place }

-- a head in a group of the node
module _ (s : State) (file id place node most : ℕ) (empty : List ℕ) (is : file ≡ format.groups_file) (can : CanClose s (head_at file id place) node most empty)
  where
    in_group : GroupHead (kind_at s.records format.nodes_file) (group_at s.records) (head_at file id place) node
    in_group = ⊎_elim (λ (k : SparseHead (kind_at s.records format.nodes_file) (head_at file id place) node). absurd (let f = ap (λ (h : Head). h.key.file)
        k.is in omega arith)) (λ k. k) can.owns

    keeps : KeepsRules s.records s.shape most (id ∷ empty)
    keeps = subst (λ (gs : List ℕ). KeepsRules s.records s.shape most (gs ++ empty)) (ap (λ f. cond (nat_eq f format.groups_file) (id ∷ []) []) is) can.keeps

    member : IsGroupOf s.records node id
    member = subst (IsGroupOf s.records node) (sym (ap (λ (k : Key). k.id) in_group.key))
        (group_of_row s.records s.shape node in_group.row.id in_group.row keeps.ranges in_group.group in_group.owner)

    pub closable : (xs : List ℕ) × IsOnChain s node id xs
    closable =
        let chain = is_chain s.records s.shape keeps node in_group.dense in (
          chain_of s.records s.shape keeps node in_group.dense,
          record {
            chain = chain;
            member = chain.all id member;
            mark =
                (keeps.ranges.metas format.groups_file refl).high;
          },
        )

    pub closed_by : (t : State) (dropped_is : Bool) → dropped_is ≡ not (is_filled (rec_at s.records format.groups_file id))
        → (dropped_is ≡ false → SameButReads s t) → (dropped_is ≡ true → t ≡ dropped s node id)
        → t.shape ≡ s.shape → HasClosed s t node most empty
    closed_by t true told kept made shape =
        let r = dropped_rules s node id most empty keeps member (is_false (is_filled (rec_at s.records format.groups_file id)) (sym told)) t (made refl)
        shape in
        record { keeps = r.0; regroups = r.1; group_kinds = r.3; kind = r.2 }
      where
        is_false : (b : Bool) → not b ≡ true → b ≡ false
        is_false true e = cc
        is_false false e = refl
    closed_by t false told kept made shape = record {
      keeps = keeps_read s t (kept refl) most empty (is_not s.records s.shape most id empty (is_true (is_filled (rec_at s.records format.groups_file id))
          (sym told)) keeps);
      regroups = regroups_read s t (kept refl) node;
      kind = ap (λ (z : State). kind_at z.records format.nodes_file node) (kept refl);
      group_kinds = λ g group is ne. ap (λ (z : State). kind_at z.records format.groups_file g) (kept refl);
    }
      where
        is_true : (b : Bool) → not b ≡ false → b ≡ true
        is_true true e = refl
        is_true false e = cc
