-- The record of a group that gets its numbers.
use Rattle.std.proofs.Common.{◌≡◌, ◌⊎◌, ℕ, ◌+◌, ◌<◌, ◌≤◌, ◌^◌, nat_lt, nat_eq, Bool, true, false, ◌&&◌, ◌||◌, Some, []}
use Rattle.std.proofs.Common.{◌∷◌, sym, ap, ◌∙◌, subst, inl, inr, ⊎_elim, arith, refl}
use Rattle.std.proofs.lemmas.Bool.{cases_lt}
use Rattle.std.proofs.lemmas.Bool.Decides.{nat_tests}
use Rattle.rec_bytes.specs.declared.record.Rec.{Rec}
use Rattle.rec_bytes.specs.Format as format
use Rattle.rec_bytes.specs.Record.{field, with_field}
use Rattle.rec_bytes.proofs.Numbers.{field-with_field_other, field-with_field_same}
use Rattle.store_rules.specs.Ranges.{Fits, IsBlankOutside, Layout, Pointer, all_point, bytes_of, is_in, layout_by, may, must, points}
use Rattle.group_store.specs.declared.raising.Counts.{Counts}
use Rattle.group_store.specs.Raising.{raised}

-- the layout of a group, by how many bytes are in use from its type on
abbrev layout_is : ℕ → Layout
layout_is size = record {
  pointers = must format.group_owner format.nodes_file ∷ may format.group_previous format.groups_file ∷ may format.group_next format.groups_file
      ∷ may format.group_first_out format.relationships_file ∷ may format.group_first_in format.relationships_file
      ∷ may format.group_first_loop format.relationships_file ∷ [];
  used = bytes_of format.kind 1 ∷ bytes_of format.group_type size ∷ [];
}

inner : (a b : Layout) → Some a ≡ Some b → a ≡ b
inner a b e = cc

-- a byte that is in none of the ranges
apart : (i at size : ℕ) → is_in i (bytes_of at size) ≡ false → (i < at) ⊎ (at + size ≤ i)
apart i at size out = ⊎_elim (λ (lt : i < at). inl lt)
    (λ (ge : at ≤ i). ⊎_elim (λ (lt : i < at + size). absurd (let e : true ≡ false = sym (inside ge lt) ∙ out in cc)) (λ (le : at + size ≤ i). inr le)
    (cases_lt i (at + size))) (cases_lt i at)
  where
    inside : at ≤ i → i < at + size → is_in i (bytes_of at size) ≡ true
    inside ge lt = grind (arith, nat_tests)

outside : (i at size : ℕ) → (i < at) ⊎ (at + size ≤ i) → is_in i (bytes_of at size) ≡ false
outside i at size (inl lt) = grind (arith, nat_tests)
outside i at size (inr le) = grind (arith, nat_tests)

or_false : (a b : Bool) → (a || b) ≡ false → (a ≡ false) × (b ≡ false)
or_false true b e = absurd cc
or_false false b e = (refl, e)

both_false : (a b : Bool) → a ≡ false → b ≡ false → (a || (b || false)) ≡ false
both_false a b e f = λ i. e i || (f i || false)

module _ (r : Rec) (counts : Counts) (out : counts.out < 2 ^ 32) (into : counts.into < 2 ^ 32) (loops : counts.loops < 2 ^ 32) where
  abbrev r1 : Rec
  r1 = with_field 1 r format.kind format.counted

  abbrev r2 : Rec
  r2 = with_field 4 r1 format.group_out_count counts.out

  abbrev r3 : Rec
  r3 = with_field 4 r2 format.group_in_count counts.into

  abbrev rec : Rec
  rec = raised r counts

  -- its kind
  pub kind_is : field 1 rec format.kind ≡ format.counted
  kind_is =
      field-with_field_other 4 r3 format.group_loop_count counts.loops 1 format.kind (omega arith) (inr (omega arith))
      ∙ field-with_field_other 4 r2 format.group_in_count counts.into 1 format.kind (omega arith) (inr (omega arith))
      ∙ field-with_field_other 4 r1 format.group_out_count counts.out 1 format.kind (omega arith) (inr (omega arith))
      ∙ field-with_field_same 1 r format.kind format.counted (omega arith) (omega arith)

  -- all that stands apart from the kind and the numbers
  pub stays : (n at : ℕ) → at + n ≤ 64 → 1 ≤ at → (at + n ≤ 32) ⊎ (44 ≤ at) → field n rec at ≡ field n r at
  stays n at within low out =
      field-with_field_other 4 r3 format.group_loop_count counts.loops n at within
      (⊎_elim (λ (le : at + n ≤ 32). inr (omega arith)) (λ (ge : 44 ≤ at). inl (omega arith)) out)
      ∙ field-with_field_other 4 r2 format.group_in_count counts.into n at within
      (⊎_elim (λ (le : at + n ≤ 32). inr (omega arith)) (λ (ge : 44 ≤ at). inl (omega arith)) out)
      ∙ field-with_field_other 4 r1 format.group_out_count counts.out n at within
      (⊎_elim (λ (le : at + n ≤ 32). inr (omega arith)) (λ (ge : 44 ≤ at). inl (omega arith)) out)
      ∙ field-with_field_other 1 r format.kind format.counted n at within (inl (omega arith))

  pub same : (at : ℕ) → (4 ≤ at) × (at + 4 ≤ 32) → field 4 rec at ≡ field 4 r at
  same at within = stays 4 at (let a = within.1 in omega arith) (let a = within.0 in omega arith) (inl within.1)

  -- its numbers
  pub out_is : field 4 rec format.group_out_count ≡ counts.out
  out_is =
      field-with_field_other 4 r3 format.group_loop_count counts.loops 4 format.group_out_count (omega arith) (inr (omega arith))
      ∙ field-with_field_other 4 r2 format.group_in_count counts.into 4 format.group_out_count (omega arith) (inr (omega arith))
      ∙ field-with_field_same 4 r1 format.group_out_count counts.out (omega arith) out

  pub into_is : field 4 rec format.group_in_count ≡ counts.into
  into_is =
      field-with_field_other 4 r3 format.group_loop_count counts.loops 4 format.group_in_count (omega arith) (inr (omega arith))
      ∙ field-with_field_same 4 r2 format.group_in_count counts.into (omega arith) into

  pub loops_is : field 4 rec format.group_loop_count ≡ counts.loops
  loops_is = field-with_field_same 4 r3 format.group_loop_count counts.loops (omega arith) loops

  -- it fits where it did
  module _ (marks : ℕ → ℕ) (grouped : field 1 r format.kind ≡ format.grouped) (fits : Fits marks format.groups_file r) where
    layout_was : layout_is 28 ≡ fits.layout
    layout_was = inner (layout_is 28) fits.layout (ap (layout_by format.groups_file r) (sym grouped) ∙ fits.is)

    point_was : all_point marks r (layout_is 28).pointers ≡ true
    point_was = subst (λ (l : Layout). all_point marks r l.pointers ≡ true) (sym layout_was) fits.point

    blank_was : IsBlankOutside (layout_is 28).used r
    blank_was = subst (λ (l : Layout). IsBlankOutside l.used r) (sym layout_was) fits.blank

    one : (p : Pointer) → (4 ≤ p.place) × (p.place + 4 ≤ 32) → points marks rec p ≡ points marks r p
    one p within = ap (λ v. nat_lt v (marks p.into) || (p.optional && nat_eq v format.nil)) (same p.place within)

    point_now : all_point marks rec (layout_is 28).pointers ≡ true
    point_now =
        (λ i. one (must format.group_owner format.nodes_file) (omega arith, omega arith) i
        && (one (may format.group_previous format.groups_file) (omega arith, omega arith) i
        && (one (may format.group_next format.groups_file) (omega arith, omega arith) i
        && (one (may format.group_first_out format.relationships_file) (omega arith, omega arith) i
        && (one (may format.group_first_in format.relationships_file) (omega arith, omega arith) i
        && (one (may format.group_first_loop format.relationships_file) (omega arith, omega arith) i
        && true)))))) ∙ point_was

    blank_now : IsBlankOutside (layout_is 40).used rec
    blank_now i lt out =
        let a = or_false (is_in i (bytes_of format.kind 1)) (is_in i (bytes_of format.group_type 40) || false) out in
        let b = or_false (is_in i (bytes_of format.group_type 40)) false a.1 in
        let low : 1 ≤ i = ⊎_elim (λ (l : i < 0). absurd (omega arith)) (λ (g : 0 + 1 ≤ i). omega arith) (apart i format.kind 1 a.0) in
        let beside : (i < 4) ⊎ (44 ≤ i) = ⊎_elim (λ (l : i < 4). inl l) (λ (g : 4 + 40 ≤ i). inr (omega arith)) (apart i format.group_type 40 b.0) in
        stays 1 i (omega arith) low (⊎_elim (λ (l : i < 4). inl (omega arith)) (λ (g : 44 ≤ i). inr g) beside)
        ∙ blank_was i lt (both_false (is_in i (bytes_of format.kind 1)) (is_in i (bytes_of format.group_type 28)) a.0
        (outside i format.group_type 28 (⊎_elim (λ (l : i < 4). inl l) (λ (g : 44 ≤ i). inr (omega arith)) beside)))

    pub fits_now : Fits marks format.groups_file rec
    fits_now = record { layout = layout_is 40; is = ap (layout_by format.groups_file rec) kind_is; point = point_now; blank = blank_now }
