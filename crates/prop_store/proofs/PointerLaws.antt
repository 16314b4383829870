-- What a record that fits says of its links to properties and blocks, and of its kind.
use Rattle.std.specs.Prelude.{nat_le}
use Rattle.std.proofs.Common.{◌≡◌, ◌≢◌, ◌⊎◌, ℕ, nat_lt, nat_eq, Bool, true, false, cond, ◌&&◌, Option, None, Some, List}
use Rattle.std.proofs.Common.{[], ◌∷◌, sym, ap, ◌∙◌, subst, inl, inr, ⊎_elim, arith, refl}
use Rattle.std.proofs.lemmas.Bool.{eqb-true, or_cases, true≢false}
use Rattle.std.proofs.lemmas.Bool.Decides.{nat_tests}
use Rattle.std.specs.Int.{cast_signed}
use mir.Syntax.{w64}
use Rattle.rec_bytes.specs.declared.record.Rec.{Rec}
use Rattle.rec_bytes.specs.Format as format
use Rattle.rec_bytes.specs.Record.{field, text_in}
use Rattle.store_rules.specs.Properties.{Content, Number, Truth, Inline, Long}
use Rattle.store_rules.specs.PropertyChange.{property_place}
use Rattle.store_rules.specs.Ranges.{Fits, Layout, Pointer, all_point, bytes_of, free_layout, laid, may, next_property}
use Rattle.store_rules.specs.Ranges.{node_layout, points, relationship_layout}
use Rattle.store_rules.proofs.LinkFits.{IsLow}
use Rattle.store_rules.proofs.NumberLaws.{and_parts, eq_false}
use Rattle.prop_store.specs.PropertyRow.{HasContent}
use Rattle.prop_store.proofs.ElementSteps.{IsElementFile}

-- ---- the pointers of a layout

abbrev HasPointer : Pointer → List Pointer → Type 0
HasPointer p [] = ⊥
HasPointer p (q ∷ qs) = (p ≡ q) ⊎ HasPointer p qs

abbrev pointers_of : Option Layout → List Pointer
pointers_of None = []
pointers_of (Some layout) = layout.pointers

-- each pointer of a record that fits points
pointer_points : (marks : ℕ → ℕ) (r : Rec) (p : Pointer) (ps : List Pointer) → HasPointer p ps → all_point marks r ps ≡ true → points marks r p ≡ true
pointer_points marks r p [] i all = elim i [ ]
pointer_points marks r p (q ∷ qs) (inl e) all = ap (points marks r) e ∙ (and_parts (points marks r q) (all_point marks r qs) all).0
pointer_points marks r p (q ∷ qs) (inr i) all = pointer_points marks r p qs i (and_parts (points marks r q) (all_point marks r qs) all).1

low_of : (marks : ℕ → ℕ) (r : Rec) (place into : ℕ) → points marks r (may place into) ≡ true → IsLow (marks into) (field 4 r place)
low_of marks r place into h = ⊎_elim
    (λ (lt : nat_lt (field 4 r place) (marks into) ≡ true). inr (grind (arith, nat_tests)))
    (λ (none : nat_eq (field 4 r place) format.nil ≡ true). inl (eqb-true (field 4 r place) format.nil none))
    (or_cases (nat_lt (field 4 r place) (marks into)) (nat_eq (field 4 r place) format.nil) h)

low_pointer : (marks : ℕ → ℕ) (file : ℕ) (r : Rec) (place into : ℕ) → (h : Fits marks file r) → HasPointer (may place into) h.layout.pointers
    → IsLow (marks into) (field 4 r place)
low_pointer marks file r place into h i = low_of marks r place into (pointer_points marks r (may place into) h.layout.pointers i h.point)

-- where the layout is this one its pointers are these
laid_out : (p : Pointer) (o : Option Layout) (layout : Layout) → o ≡ Some layout → HasPointer p (pointers_of o) → HasPointer p layout.pointers
laid_out p o layout is i = subst (λ (z : Option Layout). HasPointer p (pointers_of z)) is i

none_laid : (layout : Layout) → None ≡ Some layout → ⊥
none_laid layout e = cc

-- ---- elements

abbrev first_of_node : Pointer
first_of_node = may format.node_first_property format.properties_file

abbrev first_of_rel : Pointer
first_of_rel = may format.relationship_first_property format.properties_file

node_has : (free sparse dense : Bool) (layout : Layout) → free ≡ false → cond free (free_layout format.nodes_file)
    (cond sparse (node_layout format.relationships_file) (cond dense (node_layout format.groups_file) None)) ≡ Some layout
    → HasPointer first_of_node layout.pointers
node_has true sparse dense layout e h = absurd (true≢false e)
node_has false true dense layout e h = laid_out first_of_node (node_layout format.relationships_file) layout h (inr (inl refl))
node_has false false true layout e h = laid_out first_of_node (node_layout format.groups_file) layout h (inr (inl refl))
node_has false false false layout e h = absurd (none_laid layout h)

rel_has : (free related : Bool) (layout : Layout) → free ≡ false → cond free (free_layout format.relationships_file)
    (cond related relationship_layout None) ≡ Some layout → HasPointer first_of_rel layout.pointers
rel_has true related layout e h = absurd (true≢false e)
rel_has false true layout e h = laid_out first_of_rel relationship_layout layout h (inr (inr (inr (inr (inr (inr (inl refl)))))))
rel_has false false layout e h = absurd (none_laid layout h)

node_low : (marks : ℕ → ℕ) (r : Rec) → field 1 r format.kind ≢ format.free_kind → Fits marks format.nodes_file r
    → IsLow (marks format.properties_file) (field 4 r format.node_first_property)
node_low marks r used h = low_pointer marks format.nodes_file r format.node_first_property format.properties_file h
    (node_has (nat_eq (field 1 r format.kind) format.free_kind) (nat_eq (field 1 r format.kind) format.sparse) (nat_eq (field 1 r format.kind) format.dense)
    h.layout (eq_false (field 1 r format.kind) format.free_kind used) h.is)

rel_low : (marks : ℕ → ℕ) (r : Rec) → field 1 r format.kind ≢ format.free_kind → Fits marks format.relationships_file r
    → IsLow (marks format.properties_file) (field 4 r format.relationship_first_property)
rel_low marks r used h = low_pointer marks format.relationships_file r format.relationship_first_property format.properties_file h
    (rel_has (nat_eq (field 1 r format.kind) format.free_kind) (nat_eq (field 1 r format.kind) format.related) h.layout (eq_false (field 1 r format.kind)
    format.free_kind used) h.is)

-- the first property of an element in use
pub element_low : (marks : ℕ → ℕ) (file : ℕ) (r : Rec) → IsElementFile file → field 1 r format.kind ≢ format.free_kind → Fits marks file r
    → IsLow (marks format.properties_file) (field 4 r (property_place file))
element_low marks file r is used h = ⊎_elim
    (λ (e : file ≡ format.nodes_file). subst (λ f. Fits marks f r → IsLow (marks format.properties_file) (field 4 r (property_place f))) (sym e)
    (node_low marks r used) h)
    (λ (e : file ≡ format.relationships_file). subst (λ f. Fits marks f r → IsLow (marks format.properties_file) (field 4 r (property_place f))) (sym e)
    (rel_low marks r used) h) is

-- ---- properties

abbrev first_block : Pointer
first_block = may format.property_first_block format.strings_file

property_has : (free a b c d : Bool) (size : ℕ) (layout : Layout) → free ≡ false
    → cond free (free_layout format.properties_file)
    (cond a (laid (next_property ∷ []) (bytes_of format.kind 1 ∷ bytes_of format.property_key 8 ∷ bytes_of format.property_number 8 ∷ []))
    (cond b (laid (next_property ∷ []) (bytes_of format.kind 1 ∷ bytes_of format.property_key 8 ∷ bytes_of format.property_truth 1 ∷ []))
    (cond c (laid (next_property ∷ []) (bytes_of format.kind 1 ∷ bytes_of format.property_length 10 ∷ bytes_of format.property_text size ∷ []))
    (cond d (laid (next_property ∷ first_block ∷ []) (bytes_of format.kind 1 ∷ bytes_of format.property_length 14 ∷ [])) None)))) ≡ Some layout
    → HasPointer next_property layout.pointers × ((a ≡ false) → (b ≡ false) → (c ≡ false) → HasPointer first_block layout.pointers)
property_has true a b c d size layout e h = absurd (true≢false e)
property_has false true b c d size layout e h = (laid_out next_property _ layout h (inl refl), λ x y z. absurd (true≢false x))
property_has false false true c d size layout e h = (laid_out next_property _ layout h (inl refl), λ x y z. absurd (true≢false y))
property_has false false false true d size layout e h = (laid_out next_property _ layout h (inl refl), λ x y z. absurd (true≢false z))
property_has false false false false true size layout e h = (
  laid_out next_property _ layout h (inl refl),
  λ x y z. laid_out first_block _ layout h
      (inr (inl refl)),
)
property_has false false false false false size layout e h = absurd (none_laid layout h)

module _ (marks : ℕ → ℕ) (r : Rec) (used : field 1 r format.kind ≢ format.free_kind) (h : Fits marks format.properties_file r) where
  abbrev kind : ℕ
  kind = field 1 r format.kind

  abbrev size : ℕ
  size = field 2 r format.property_length

  abbrev is_bool : Bool
  is_bool = nat_eq kind format.bool && nat_le (field 1 r format.property_truth) 1

  abbrev is_inline : Bool
  is_inline = nat_eq kind format.text_inline && nat_le size 40

  abbrev is_long : Bool
  is_long = nat_eq kind format.text_in_blocks && (nat_lt 40 size && nat_le size 1024)

  has : HasPointer next_property h.layout.pointers × ((nat_eq kind format.int ≡ false) → (is_bool ≡ false) → (is_inline ≡ false) → HasPointer first_block
      h.layout.pointers)
  has = property_has (nat_eq kind format.free_kind) (nat_eq kind format.int) is_bool is_inline is_long size h.layout (eq_false kind format.free_kind used) h.is

  -- the next property
  pub next_low : IsLow (marks format.properties_file) (field 4 r format.property_next)
  next_low = low_pointer marks format.properties_file r format.property_next format.properties_file h has.0

  -- the first block of a text in blocks
  pub first_low : kind ≡ format.text_in_blocks → IsLow (marks format.strings_file) (field 4 r format.property_first_block)
  first_low long = low_pointer marks format.properties_file r format.property_first_block format.strings_file h
      (has.1 (eq_false kind format.int (λ e. omega arith)) (ap (λ b. b && nat_le (field 1 r format.property_truth) 1) (eq_false kind format.bool
      (λ e. omega arith))) (ap (λ b. b && nat_le size 40) (eq_false kind format.text_inline (λ e. omega arith))))

  -- it says a value
  pub content_if_fits : HasContent r
  content_if_fits =
      let k = by (nat_eq kind format.free_kind) (nat_eq kind format.int) is_bool is_inline is_long (Number (cast_signed w64 (field 8 r format.property_number)))
      (Truth (nat_eq (field 1 r format.property_truth) 1))
      (Inline (text_in r format.property_text size)) (Long size (field 4 r format.property_first_block)) (free_layout format.properties_file) _ _ _ _
      (eq_false kind format.free_kind used) h.is in
      record { content = k.0; is = k.1 }
    where
      by : (free a b c d : Bool) (x y z w : Content) (o first second third fourth : Option Layout) → free ≡ false
          → cond free o (cond a first (cond b second (cond c third (cond d fourth None)))) ≡ Some h.layout
          → (content : Content) × (cond a (Some x) (cond b (Some y) (cond c (Some z) (cond d (Some w) None))) ≡ Some content)
      by true a b c d x y z w o first second third fourth e l = absurd (true≢false e)
      by false true b c d x y z w o first second third fourth e l = (x, refl)
      by false false true c d x y z w o first second third fourth e l = (y, refl)
      by false false false true d x y z w o first second third fourth e l = (z, refl)
      by false false false false true x y z w o first second third fourth e l = (w, refl)
      by false false false false false x y z w o first second third fourth e l = absurd (none_laid h.layout l)

-- ---- blocks

abbrev next_block : Pointer
next_block = may format.block_next format.strings_file

block_has : (free block ok : Bool) (bytes : ℕ) (layout : Layout) → free ≡ false
    → cond free (free_layout format.strings_file)
    (cond block (cond ok (laid (next_block ∷ []) (bytes_of format.kind 2 ∷ bytes_of format.block_next 4 ∷ bytes_of format.block_text bytes ∷ [])) None) None)
    ≡ Some layout → HasPointer next_block layout.pointers × (block ≡ true)
block_has true block ok bytes layout e h = absurd (true≢false e)
block_has false true true bytes layout e h = (laid_out next_block _ layout h (inl refl), refl)
block_has false true false bytes layout e h = absurd (none_laid layout h)
block_has false false ok bytes layout e h = absurd (none_laid layout h)

module _ (marks : ℕ → ℕ) (r : Rec) (used : field 1 r format.kind ≢ format.free_kind) (h : Fits marks format.strings_file r) where
  abbrev bytes : ℕ
  bytes = field 1 r format.block_length

  of_block : HasPointer next_block h.layout.pointers × (nat_eq (field 1 r format.kind) format.block ≡ true)
  of_block = block_has (nat_eq (field 1 r format.kind) format.free_kind) (nat_eq (field 1 r format.kind) format.block) (nat_lt 0 bytes && nat_le bytes 48) bytes
      h.layout (eq_false (field 1 r format.kind) format.free_kind used) h.is

  -- the next block
  pub next_block_low : IsLow (marks format.strings_file) (field 4 r format.block_next)
  next_block_low = low_pointer marks format.strings_file r format.block_next format.strings_file h of_block.0

  pub block_if_fits : field 1 r format.kind ≡ format.block
  block_if_fits = eqb-true (field 1 r format.kind) format.block of_block.1
