-- What an opened head, or a closed one, leaves of the store.
use Rattle.std.proofs.Common.{◌≡◌, ℕ, true, List, ◌∷◌, Err, refl, sym, ap, ◌∙◌, subst, inl, inr, ⊎_elim}
use Rattle.rec_bytes.specs.declared.shape.Shape.{Shape}
use Rattle.rec_bytes.specs.Format as format
use Rattle.rec_bytes.specs.Space.{SameButReads, State}
use Rattle.store_rules.specs.Ends.{Regroups}
use Rattle.store_rules.specs.Rules.{KeepsRules, is_filled}
use Rattle.store_rules.specs.Views.{Records, rec_at}
use Rattle.rec_bytes.specs.declared.fault.Fault.{Fault}
use Rattle.rec_bytes.specs.declared.fault.Fault.TheVariants.{Memory, Disk, Damaged}
use Rattle.rec_bytes.specs.Fault.{NotDamaged}

-- a fault that is handed on
pub handed : (A B : Type 0) (fault : Fault) → NotDamaged {T = A} (Err fault) → NotDamaged {T = B} (Err fault)
handed A B Memory h = tt
handed A B Disk h = tt
handed A B (Damaged damage) h = h

-- ---- groups that may be empty

-- one that isn't empty needn't be named
pub is_not : (s : Records) (shape : Shape) (most g : ℕ) (empty : List ℕ) → is_filled (rec_at s format.groups_file g) ≡ true
    → KeepsRules s shape most (g ∷ empty) → KeepsRules s shape most empty
is_not s shape most g empty filled well = record {
  ranges = well.ranges;
  split = well.split;
  kept = well.kept;
  linked = well.linked;
  grouped = record {
    owned = well.grouped.owned;
    each = λ n d. let h = well.grouped.each n d in record {
      members = h.members;
      chain = h.chain;
      only = h.only;
      filled = λ k i. ⊎_elim (λ f. inl f) (λ j. ⊎_elim (λ e. inl (ap (λ z. is_filled (rec_at s format.groups_file z)) e ∙ filled)) (λ l. inr l) j)
          (h.filled k i);
      all = h.all;
      once = h.once;
    };
  };
  exact = well.exact;
  properties = well.properties;
  named = well.named;
  defined = well.defined;
  names = well.names;
  degrees = well.degrees;
}

-- ---- spaces that differ in their reads alone
module _ (s t : State) (same : SameButReads s t) where
  pub keeps_read : (most : ℕ) (empty : List ℕ) → KeepsRules s.records s.shape most empty → KeepsRules t.records t.shape most empty
  keeps_read most empty well = subst (λ (z : State). KeepsRules z.records z.shape most empty) (sym same) well

  pub regroups_read : (n : ℕ) → Regroups s t n
  regroups_read n = subst (λ (z : State). Regroups s z n) (sym same) (record {
    shape = refl;
    graph = refl;
    nodes = λ x. refl;
    rels = λ x. refl;
    degrees = λ x. refl;
    kinds = λ m ne. refl;
    groups = λ g row is ne. is;
    metas = λ file ne. refl;
    others = λ key a b c d. refl;
  })
