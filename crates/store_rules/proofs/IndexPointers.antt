-- What a record of the index that fits says of its numbers.
use Rattle.std.proofs.Common.{◌≡◌, ◌⊎◌, ℕ, zero, suc, ◌+◌, ◌*◌, ◌<◌, true, false, nat_eq, nat_lt, Some, List, [], ◌∷◌}
use Rattle.std.proofs.Common.{sym, ap, ◌∙◌, subst, inl, inr, ⊎_elim, arith, refl, Option, None}
use Rattle.std.proofs.lemmas.Bool.{eqb-true, or_cases, true≢false}
use Rattle.std.proofs.lemmas.Bool.Decides.{nat_tests}
use Rattle.rec_bytes.specs.declared.record.Rec.{Rec}
use Rattle.rec_bytes.specs.Format as format
use Rattle.rec_bytes.specs.Record.{field}
use Rattle.store_rules.specs.Ranges.{Fits, Layout, Pointer, all_point, layout_by, may, must, pointers_from, points}
use Rattle.store_rules.proofs.LinkFits.{IsLow}
use Rattle.store_rules.proofs.NumberLaws.{and_parts}

abbrev HasPointer : Pointer → List Pointer → Type 0
HasPointer p [] = ⊥
HasPointer p (q ∷ qs) = (p ≡ q) ⊎ HasPointer p qs

abbrev pointers_of : Option Layout → List Pointer
pointers_of None = []
pointers_of (Some layout) = layout.pointers

pointer_points : (marks : ℕ → ℕ) (r : Rec) (p : Pointer) (ps : List Pointer) → HasPointer p ps → all_point marks r ps ≡ true → points marks r p ≡ true
pointer_points marks r p [] i all = elim i [ ]
pointer_points marks r p (q ∷ qs) (inl e) all = ap (points marks r) e ∙ (and_parts (points marks r q) (all_point marks r qs) all).0
pointer_points marks r p (q ∷ qs) (inr i) all = pointer_points marks r p qs i (and_parts (points marks r q) (all_point marks r qs) all).1

low_of : (marks : ℕ → ℕ) (r : Rec) (place into : ℕ) → points marks r (may place into) ≡ true → IsLow (marks into) (field 4 r place)
low_of marks r place into h = ⊎_elim
    (λ (lt : nat_lt (field 4 r place) (marks into) ≡ true). inr (grind (arith, nat_tests)))
    (λ (none : nat_eq (field 4 r place) format.nil ≡ true). inl (eqb-true (field 4 r place) format.nil none))
    (or_cases (nat_lt (field 4 r place) (marks into)) (nat_eq (field 4 r place) format.nil) h)

below_of : (marks : ℕ → ℕ) (r : Rec) (place into : ℕ) → points marks r (must place into) ≡ true → field 4 r place < marks into
below_of marks r place into h = ⊎_elim
    (λ (lt : nat_lt (field 4 r place) (marks into) ≡ true). grind (arith, nat_tests))
    (λ (no : false ≡ true). absurd (true≢false (sym no)))
    (or_cases (nat_lt (field 4 r place) (marks into)) false h)

-- so many numbers from a place on
from_has : (pointer : ℕ → Pointer) (n at c : ℕ) → c < n → HasPointer (pointer (at + 4 * c)) (pointers_from n pointer at)
from_has pointer zero at c lt = absurd (omega arith)
from_has pointer (suc n) at zero lt = inl (ap pointer (omega arith))
from_has pointer (suc n) at (suc c) lt = inr (subst (λ z. HasPointer (pointer z) (pointers_from n pointer (at + 4))) (omega arith) (from_has pointer n (at + 4)
    c (omega arith)))

-- a pointer of its kind's layout points
pub laid_points : (marks : ℕ → ℕ) (r : Rec) (kind : ℕ) (p : Pointer) → field 1 r format.kind ≡ kind → Fits marks format.index_file r
    → HasPointer p (pointers_of (layout_by format.index_file r kind)) → points marks r p ≡ true
laid_points marks r kind p is fits i =
    let same : layout_by format.index_file r kind ≡ Some fits.layout = sym (ap (layout_by format.index_file r) is) ∙ fits.is in
    pointer_points marks r p fits.layout.pointers (subst (λ (z : Option Layout). HasPointer p (pointers_of z)) same i) fits.point

module _ (marks : ℕ → ℕ) (r : Rec) (fits : Fits marks format.index_file r) where
  -- a definition
  module _ (is : field 1 r format.kind ≡ format.definition) where
    pub definition_next_low : IsLow (marks format.index_file) (field 4 r format.definition_next)
    definition_next_low = low_of marks r format.definition_next format.index_file
        (laid_points marks r format.definition (may format.definition_next format.index_file) is fits (inl refl))

    pub definition_heads_low : (c : ℕ) → c < 12 → field 4 r (format.definition_heads + 4 * c) < marks format.index_file
    definition_heads_low c lt = below_of marks r (format.definition_heads + 4 * c) format.index_file
        (laid_points marks r format.definition (must (format.definition_heads + 4 * c) format.index_file) is fits
        (inr (from_has (λ place. must place format.index_file) 12 format.definition_heads c lt)))

  -- a record of heads
  pub heads_first_low : field 1 r format.kind ≡ format.heads → (place : ℕ) → place < 15
      → IsLow (marks format.index_file) (field 4 r (format.heads_first + 4 * place))
  heads_first_low is place lt = low_of marks r (format.heads_first + 4 * place) format.index_file
      (laid_points marks r format.heads (may (format.heads_first + 4 * place) format.index_file) is fits (from_has (λ place. may place format.index_file)
      15 format.heads_first place lt))

  -- an entry
  module _ (is : field 1 r format.kind ≡ format.indexed) where
    pub entry_node_low : field 4 r format.indexed_node < marks format.nodes_file
    entry_node_low = below_of marks r format.indexed_node format.nodes_file
        (laid_points marks r format.indexed (must format.indexed_node format.nodes_file) is fits (inl refl))

    pub entry_previous_low : IsLow (marks format.index_file) (field 4 r format.indexed_previous)
    entry_previous_low = low_of marks r format.indexed_previous format.index_file
        (laid_points marks r format.indexed (may format.indexed_previous format.index_file) is fits (inr (inl refl)))

    pub entry_next_low : IsLow (marks format.index_file) (field 4 r format.indexed_next)
    entry_next_low = low_of marks r format.indexed_next format.index_file
        (laid_points marks r format.indexed (may format.indexed_next format.index_file) is fits (inr (inr (inl refl))))
