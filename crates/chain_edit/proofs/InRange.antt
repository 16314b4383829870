-- Where all records are in range, links of relationships and of sparse nodes are right.
use Rattle.std.proofs.Common.{◌≡◌, ◌≢◌, ⊎_elim, inl, inr, ℕ, ◌+◌, ◌<◌, ◌≤◌, nat_eq, nat_lt, Bool, true, false, ◌&&◌, cond, None, Some, List, ◌∷◌, []}
use Rattle.std.proofs.Common.{refl, sym, ap, ◌∙◌, subst, arith}
use Rattle.std.proofs.lemmas.Bool.{or_cases}
use Rattle.std.proofs.lemmas.Bool.Decides.{nat_tests}
use Rattle.rec_bytes.specs.declared.record.Rec.{Rec}
use Rattle.rec_bytes.specs.Format as format
use Rattle.rec_bytes.specs.Record.{field}
use Rattle.rec_bytes.specs.Space.{State}
use Rattle.store_rules.specs.Chains.{next_in, prev_in}
use Rattle.store_rules.specs.Ranges.{AreInRange, Fits, Layout, Pointer, all_point, free_layout, group_layout, layout_by, may, must, node_layout}
use Rattle.store_rules.specs.Ranges.{points, relationship_layout}
use Rattle.store_rules.specs.Views.{high, kind_at, rec_at}
use Rattle.store_rules.proofs.GroupLaws.{IsFirstPlace}
use Rattle.store_rules.proofs.LinkFits.{IsLow}
use Rattle.store_rules.proofs.NumberLaws.{and_parts, eq_false}
use Rattle.store_rules.proofs.ViewLaws.{kind_below, kind_low}
use Rattle.rel_store.specs.Loading.{rel_mark, rel_room}
use Rattle.chain_edit.specs.Chains.{next_of, prev_of}
use Rattle.chain_edit.specs.Links.{IsRightLink}

pub low_points : (marks : ℕ → ℕ) (r : Rec) (place into : ℕ) → points marks r (may place into) ≡ true → IsLow (marks into) (field 4 r place)
low_points marks r place into h = ⊎_elim
    (λ (low : nat_lt (field 4 r place) (marks into) ≡ true). inr (grind (arith, nat_tests)))
    (λ (none : (true && nat_eq (field 4 r place) format.nil) ≡ true). inl (let e = (and_parts true (nat_eq (field 4 r place) format.nil) none).1 in grind
    (arith, nat_tests)))
    (or_cases (nat_lt (field 4 r place) (marks into)) (true && nat_eq (field 4 r place) format.nil) h)

-- ---- relationships

abbrev pointers : List Pointer
pointers = must format.relationship_source format.nodes_file ∷ must format.relationship_target format.nodes_file
    ∷ may format.relationship_source_previous format.relationships_file ∷ may format.relationship_source_next format.relationships_file
    ∷ may format.relationship_target_previous format.relationships_file ∷ may format.relationship_target_next format.relationships_file
    ∷ may format.relationship_first_property format.properties_file ∷ []

used_is : (pointed : Layout) (layout : Layout) → Some pointed ≡ Some layout → pointed ≡ layout
used_is pointed layout h = cc

-- the layout of a relationship in use
rel_layout : (r : Rec) (kind : ℕ) (layout : Layout) → kind ≢ 0 → layout_by format.relationships_file r kind ≡ Some layout → relationship_layout ≡ Some layout
rel_layout r kind layout live is = by (nat_eq kind 0) (nat_eq kind 1) (eq_false kind 0 live) is
  where
    by : (free related : Bool) → free ≡ false → cond free (free_layout format.relationships_file) (cond related relationship_layout None) ≡ Some layout
        → relationship_layout ≡ Some layout
    by true related e h = absurd cc
    by false true e h = h
    by false false e h = absurd cc

-- each of the four links of a record in use that fits
four_low : (marks : ℕ → ℕ) (r : Rec) → field 1 r format.kind ≢ 0 → Fits marks format.relationships_file r → let mark = marks format.relationships_file in
    IsLow mark (field 4 r 16) × IsLow mark (field 4 r 20) × IsLow mark (field 4 r 24) × IsLow mark (field 4 r 28)
four_low marks r used fits =
    let point : all_point marks r pointers ≡ true = subst (λ (l : Layout). all_point marks r l.pointers ≡ true)
    (sym (used_is _ fits.layout (rel_layout r (field 1 r format.kind) fits.layout used fits.is))) fits.point in
    let a = and_parts _ _ point in
    let b = and_parts _ _ a.1 in
    let c = and_parts _ _ b.1 in
    let d = and_parts _ _ c.1 in
    let e = and_parts _ _ d.1 in
    let f = and_parts _ _ e.1 in (
      low_points marks r 16 format.relationships_file c.0,
      low_points marks r 20 format.relationships_file d.0,
      low_points marks r 24 format.relationships_file
          e.0,
      low_points marks r 28 format.relationships_file f.0,
    )

-- so those that a chain of a node uses
pub prev_low : (marks : ℕ → ℕ) (r : Rec) (n : ℕ) → field 1 r format.kind ≢ 0 → Fits marks format.relationships_file r → IsLow (marks format.relationships_file)
    (prev_in r n)
prev_low marks r n used fits = by (nat_eq (field 4 r 8) n)
  where
    by : (t : Bool) → IsLow (marks format.relationships_file) (field 4 r (cond t 16 24))
    by true = (four_low marks r used fits).0
    by false = (four_low marks r used fits).2

pub next_low : (marks : ℕ → ℕ) (r : Rec) (n : ℕ) → field 1 r format.kind ≢ 0 → Fits marks format.relationships_file r → IsLow (marks format.relationships_file)
    (next_in r n)
next_low marks r n used fits = by (nat_eq (field 4 r 8) n)
  where
    by : (t : Bool) → IsLow (marks format.relationships_file) (field 4 r (cond t 16 24 + 4))
    by true = (four_low marks r used fits).1
    by false = (four_low marks r used fits).3

-- ---- heads

-- the first link of a sparse node that fits
pub sparse_low : (marks : ℕ → ℕ) (r : Rec) → field 1 r format.kind ≡ format.sparse → Fits marks format.nodes_file r → IsLow (marks format.relationships_file)
    (field 4 r format.node_first_link)
sparse_low marks r kind fits =
    let is : node_layout format.relationships_file ≡ Some fits.layout = ap (layout_by format.nodes_file r) (sym kind) ∙ fits.is in
    let point : all_point marks r (may format.node_first_link format.relationships_file ∷ may format.node_first_property format.properties_file ∷ []) ≡ true
    = subst (λ (l : Layout). all_point marks r l.pointers ≡ true) (sym (used_is _ fits.layout is)) fits.point in
    low_points marks r format.node_first_link format.relationships_file (and_parts _ _ point).0

-- the layout of a group in use
layout_of_group : (r : Rec) (kind : ℕ) (layout : Layout) → kind ≢ 0 → layout_by format.groups_file r kind ≡ Some layout → (size : ℕ) ×
    (group_layout size ≡ Some layout)
layout_of_group r kind layout live is = by (nat_eq kind 0) (nat_eq kind 1) (nat_eq kind 2) (eq_false kind 0 live) is
  where
    by : (free grouped counted : Bool) → free ≡ false → cond free (free_layout format.groups_file) (cond grouped (group_layout 28)
        (cond counted (group_layout 40) None)) ≡ Some layout → (size : ℕ) × (group_layout size ≡ Some layout)
    by true grouped counted e h = absurd cc
    by false true counted e h = (28, h)
    by false false true e h = (40, h)
    by false false false e h = absurd cc

abbrev group_pointers : List Pointer
group_pointers = must format.group_owner format.nodes_file ∷ may format.group_previous format.groups_file ∷ may format.group_next format.groups_file
    ∷ may format.group_first_out format.relationships_file ∷ may format.group_first_in format.relationships_file ∷ may format.group_first_loop
    format.relationships_file ∷ []

-- the first links of a group that fits
pub group_low : (marks : ℕ → ℕ) (r : Rec) (at : ℕ) → IsFirstPlace at → field 1 r format.kind ≢ 0 → Fits marks format.groups_file r → IsLow
    (marks format.relationships_file) (field 4 r at)
group_low marks r at place used fits =
    let is = layout_of_group r (field 1 r format.kind) fits.layout used fits.is in
    let point : all_point marks r group_pointers ≡ true = subst (λ (l : Layout). all_point marks r l.pointers ≡ true) (sym (used_is _ fits.layout is.1))
    fits.point in
    let a = and_parts (points marks r (must format.group_owner format.nodes_file)) _ point in
    let b = and_parts (points marks r (may format.group_previous format.groups_file)) _ a.1 in
    let c = and_parts (points marks r (may format.group_next format.groups_file)) _ b.1 in
    let d = and_parts (points marks r (may format.group_first_out format.relationships_file)) _ c.1 in
    let e = and_parts (points marks r (may format.group_first_in format.relationships_file)) _ d.1 in
    let f = and_parts (points marks r (may format.group_first_loop format.relationships_file)) true e.1 in
    ⊎_elim (λ (k : at ≡ 20). subst (λ z. IsLow (marks format.relationships_file) (field 4 r z)) (sym k) (low_points marks r 20 format.relationships_file d.0))
    (λ k. ⊎_elim (λ (l : at ≡ 24). subst (λ z. IsLow (marks format.relationships_file) (field 4 r z)) (sym l) (low_points marks r 24 format.relationships_file
    e.0))
    (λ (l : at ≡ 28). subst (λ z. IsLow (marks format.relationships_file) (field 4 r z)) (sym l) (low_points marks r 28 format.relationships_file f.0)) k) place

-- ---- in a store whose records are in range

module _ (s : State) (ranges : AreInRange s.records s.shape) where
  mark : rel_mark s ≤ rel_room s
  mark = (ranges.metas format.relationships_file refl).high

  rel_fits : (x : ℕ) → kind_at s.records format.relationships_file x ≢ 0 → (field 1 (rec_at s.records format.relationships_file x) format.kind ≢ 0) × Fits
      (high s.records) format.relationships_file (rec_at s.records format.relationships_file x)
  rel_fits x live =
      let r = rec_at s.records format.relationships_file x in
      let lt : x < rel_mark s = kind_below (rel_mark s) r x live in
      (λ e. live (kind_low (rel_mark s) r x lt ∙ e), ranges.fit format.relationships_file x refl lt)

  pub right_prev : (x n : ℕ) → kind_at s.records format.relationships_file x ≢ 0 → IsRightLink s (prev_of s.records n x)
  right_prev x n live = let f = rel_fits x live in record {
    low = prev_low (high s.records) (rec_at s.records format.relationships_file x) n f.0 f.1;
    mark =
        mark;
  }

  pub right_next : (x n : ℕ) → kind_at s.records format.relationships_file x ≢ 0 → IsRightLink s (next_of s.records n x)
  right_next x n live = let f = rel_fits x live in record {
    low = next_low (high s.records) (rec_at s.records format.relationships_file x) n f.0 f.1;
    mark =
        mark;
  }
