-- The walks that a list of properties has through its records: one through the properties, and one through the blocks of each long text.
use Rattle.std.proofs.Common.{◌≡◌, ◌≢◌, ℤ, ℕ, eqb-true, nat_eq, nat_le, nat_lt, Bool, true, false, cond, ◌&&◌, None}
use Rattle.std.proofs.Common.{Some, List, [], ◌∷◌, length, drop, sym, ap, ◌∙◌, subst, arith, refl, length-drop}
use Rattle.std.specs.Int.{cast_signed}
use mir.Syntax.{w64}
use Rattle.plain_graph.specs.declared.value.Value.{Value}
use Rattle.plain_graph.specs.declared.value.Value.TheVariants as values
use Rattle.rec_bytes.specs.declared.record.Rec.{Rec}
use Rattle.rec_bytes.specs.Format as format
use Rattle.rec_bytes.specs.Record.{field, text_in}
use Rattle.store_rules.specs.Chains.{IsWalk}
use Rattle.store_rules.specs.Properties.{AreBlocks, AreLinked, Inline, Long, Number, Property, PropertyRecords, Truth}
use Rattle.store_rules.specs.Properties.{content_by, content_for, content_of, first_property, ids_of, long_text}
use Rattle.store_rules.specs.Properties.{next_property}
use Rattle.store_rules.specs.Rules.{ArePieces}

-- the members from one on are determined
pub walk_is : (next : ℕ → ℕ) (from : ℕ) (xs ys : List ℕ) → IsWalk next from xs → IsWalk next from ys → xs ≡ ys
walk_is next from [] [] h k = refl
walk_is next from [] (y ∷ ys) h k = absurd (k.1 (sym k.0 ∙ h))
walk_is next from (x ∷ xs) [] h k = absurd (h.1 (sym h.0 ∙ k))
walk_is next from (x ∷ xs) (y ∷ ys) h k =
    let same : x ≡ y = sym h.0 ∙ k.0 in
    λ i. same i ∷ walk_is next (next x) xs ys h.2 (subst (λ z. IsWalk next (next z) ys) (sym same) k.2) i

-- properties that are linked are a walk from the first one on
pub linked_walk : (files : PropertyRecords) (es : List Property) → AreLinked files es → IsWalk (next_property files.properties) (first_property es) (ids_of es)
linked_walk files [] h = refl
linked_walk files (e ∷ es) h = (
  refl,
  (λ z. let low = h.0.low in omega arith),
  subst (λ z. IsWalk (next_property files.properties) z (ids_of es))
      (sym h.0.next_is) (linked_walk files es h.1),
)

-- the blocks of a text are pieces of its length
pub blocks_pieces : (string_file : ℕ → Rec) (text : List ℕ) (bs : List ℕ) → AreBlocks string_file text bs
    → ArePieces (λ b. field 1 (string_file b) format.block_length) (length text) bs
blocks_pieces string_file text [] h = ap length h
blocks_pieces string_file text (b ∷ []) h =
    let none = ap length h.1 in
    let rest = length-drop 48 text in
    let some = h.0.some in
    let size = h.0.size in
    (omega arith, some, omega arith)
blocks_pieces string_file text (b ∷ c ∷ bs) h =
    let rest = length-drop 48 text in
    let more = h.1.0.some in
    let size = h.0.size in (
      omega arith,
      omega arith,
      subst (λ n. ArePieces (λ b. field 1 (string_file b) format.block_length) n (c ∷ bs)) rest (blocks_pieces string_file
          (drop 48 text) (c ∷ bs) h.1),
    )

-- ---- long texts

-- The value is a long text, whose length and first block the record has.
pub record IsLong (r : Rec) (value : Value) (first : ℕ) : Type 0 where
  pub text : List ℕ
  pub is : value ≡ values.Text text
  pub long : long_text value ≡ text
  pub size : field 2 r format.property_length ≡ length text
  pub first_is : field 4 r format.property_first_block ≡ first

-- a property of that kind has a long text
pub long_of_kind : (r : Rec) (value : Value) (first : ℕ) → content_of r ≡ Some (content_for value first) → field 1 r format.kind ≡ format.text_in_blocks
    → IsLong r value first
long_of_kind r value first is kind =
    by (nat_lt 40 (field 2 r format.property_length) && nat_le (field 2 r format.property_length) 1024) value
    (ap (λ k. content_by r k (field 2 r format.property_length)) (sym kind) ∙ is)
  where
    text_by : (text : List ℕ) (b : Bool) → nat_le (length text) 40 ≡ b → Some
        (Long (field 2 r format.property_length) (field 4 r format.property_first_block)) ≡ Some (cond b (Inline text) (Long (length text) first))
        → IsLong r (values.Text text) first
    text_by text true t e = absurd cc
    text_by text false t e = record { text = text; is = refl; long = ap (λ b. cond b [] text) t; size = cc; first_is = cc }

    by : (b : Bool) (value : Value) → cond b (Some (Long (field 2 r format.property_length) (field 4 r format.property_first_block))) None ≡ Some
        (content_for value first) → IsLong r value first
    by false value e = absurd cc
    by true (values.Int number) e = absurd cc
    by true (values.Bool truth) e = absurd cc
    by true (values.Text text) e = text_by text (nat_le (length text) 40) refl e

-- and a property with a long text has that kind
pub kind_of_long : (r : Rec) (value : Value) (first : ℕ) → content_of r ≡ Some (content_for value first) → long_text value ≢ []
    → field 1 r format.kind ≡ format.text_in_blocks
kind_of_long r value first is some = by value some is
  where
    kind : ℕ
    kind = field 1 r format.kind

    size : ℕ
    size = field 2 r format.property_length

    tests : (a b c d e : Bool) (number : ℤ) (truth : Bool) (text : List ℕ) (n m k : ℕ) → nat_eq kind format.text_in_blocks ≡ d
        → cond a (Some (Number number)) (cond b (Some (Truth truth)) (cond c (Some (Inline text)) (cond (d && e) (Some (Long n m)) None))) ≡ Some (Long k first)
        → kind ≡ format.text_in_blocks
    tests true b c d e number truth text n m k q z = absurd cc
    tests false true c d e number truth text n m k q z = absurd cc
    tests false false true d e number truth text n m k q z = absurd cc
    tests false false false true e number truth text n m k q z = eqb-true kind format.text_in_blocks q
    tests false false false false e number truth text n m k q z = absurd cc

    by_text : (text : List ℕ) (b : Bool) → (cond b [] text ≢ []) → content_of r ≡ Some (cond b (Inline text) (Long (length text) first))
        → kind ≡ format.text_in_blocks
    by_text text true some e = absurd (some refl)
    by_text text false some e = tests (nat_eq kind format.int) (nat_eq kind format.bool && nat_le (field 1 r format.property_truth) 1)
        (nat_eq kind format.text_inline && nat_le size 40) (nat_eq kind format.text_in_blocks)
        (nat_lt 40 size && nat_le size 1024) (cast_signed w64 (field 8 r format.property_number)) (nat_eq (field 1 r format.property_truth) 1)
        (text_in r format.property_text size) size (field 4 r format.property_first_block) (length text) refl e

    by : (value : Value) → long_text value ≢ [] → content_of r ≡ Some (content_for value first) → kind ≡ format.text_in_blocks
    by (values.Int number) some e = absurd (some refl)
    by (values.Bool truth) some e = absurd (some refl)
    by (values.Text text) some e = by_text text (nat_le (length text) 40) some e
