-- What a property's record says of its value and its blocks.
use Rattle.std.specs.Prelude.{nat_le}
use Rattle.std.proofs.Common.{◌≡◌, ◌≤◌, ◌∙◌, ℕ, List, [], ◌∷◌, length, nat_lt, nat_eq, Bool, true, false, cond, ◌&&◌, Some, None, ap, sym, arith, subst, refl}
use Rattle.std.specs.Option.{option_map}
use Rattle.std.specs.Int.{cast_signed}
use mir.Syntax.{w64}
use Rattle.std.proofs.lemmas.Bool.Decides.{nat_tests}
use Rattle.plain_graph.specs.declared.value.Value.{Value}
use Rattle.plain_graph.specs.declared.value.Value.TheVariants as values
use Rattle.rec_bytes.specs.declared.record.Rec.{Rec}
use Rattle.rec_bytes.specs.Format as format
use Rattle.rec_bytes.specs.Record.{field, text_in}
use Rattle.rec_bytes.proofs.Texts.{length-text_in}
use Rattle.store_rules.specs.Properties.{AreBlocks, Number, Truth, Inline, Long, content_for, content_of, head_of}
use Rattle.prop_store.specs.Blocks.{HasText}
use Rattle.prop_store.specs.Form.{form_in, form_of}
use Rattle.prop_store.specs.PropertyRow.{HasContent, HasValue}
use Rattle.prop_store.specs.declared.form.Form.{Form}
use Rattle.prop_store.specs.declared.form.Form.TheVariants as forms
use Rattle.prop_store.proofs.PropertyRecords.{by_length, form_in-content, short_false, short_true}

pub no_blocks : (string_file : ℕ → Rec) (blocks : List ℕ) → AreBlocks string_file [] blocks → blocks ≡ []
no_blocks string_file [] h = refl
no_blocks string_file (b ∷ bs) h = absurd (let some = h.0.some in omega arith)

-- the text that a record is read to have stands there
inline_content : (r : Rec) (text : List ℕ) → content_of r ≡ Some (Inline text) → text_in r format.property_text (length text) ≡ text
inline_content r text is =
    let size = field 2 r format.property_length in
    let k = by (nat_eq (field 1 r format.kind) format.int) (nat_eq (field 1 r format.kind) format.bool && nat_le (field 1 r format.property_truth) 1)
    (nat_eq (field 1 r format.kind) format.text_inline && nat_le size 40)
    (nat_eq (field 1 r format.kind) format.text_in_blocks && (nat_lt 40 size && nat_le size 1024)) (cast_signed w64 (field 8 r format.property_number))
    (nat_eq (field 1 r format.property_truth) 1)
    (text_in r format.property_text size) size (field 4 r format.property_first_block) is in
    let few : size ≤ 40 = fits (field 1 r format.kind) size k.0 in
    let long : length text ≡ size = ap (λ (t : List ℕ). length t) (sym k.1) ∙ length-text_in r format.property_text size (omega arith) in
    ap (text_in r format.property_text) long ∙ k.1
  where
    fits : (kind size : ℕ) → (nat_eq kind format.text_inline && nat_le size 40) ≡ true → size ≤ 40
    fits kind size e = grind (arith, nat_tests)

    by : (a b c d : Bool) (number : _) (truth : Bool) (t : List ℕ) (size first : ℕ)
        → cond a (Some (Number number)) (cond b (Some (Truth truth)) (cond c (Some (Inline t)) (cond d (Some (Long size first)) None))) ≡ Some (Inline text)
        → (c ≡ true) × (t ≡ text)
    by true b c d number truth t size first e = absurd cc
    by false true c d number truth t size first e = absurd cc
    by false false true d number truth t size first e = (refl, cc)
    by false false false true number truth t size first e = absurd cc
    by false false false false number truth t size first e = absurd cc

-- what a property's form means of its value and its blocks
abbrev pub Means : (ℕ → Rec) → Rec → Value → List ℕ → Form → Type 0
Means string_file r value blocks (forms.Number number) = (value ≡ values.Int number) × (blocks ≡ [])
Means string_file r value blocks (forms.Truth truth) = (value ≡ values.Bool truth) × (blocks ≡ [])
Means string_file r value blocks (forms.Inline size) = (value ≡ values.Text (text_in r format.property_text size)) × (blocks ≡ [])
Means string_file r value blocks (forms.Long size first) = (text : List ℕ) × (value ≡ values.Text text) × HasText string_file first size text blocks

module _ (string_file : ℕ → Rec) (r : Rec) where
  means_for : (value : Value) (blocks : List ℕ) → HasValue string_file r value blocks
      → Means string_file r value blocks (form_of (content_for value (head_of blocks)))
  means_for (values.Int n) blocks has = (refl, no_blocks string_file blocks has.are)
  means_for (values.Bool b) blocks has = (refl, no_blocks string_file blocks has.are)
  means_for (values.Text text) blocks has = by_length text
      (λ short.
      let e = short_true text short in
      let none : AreBlocks string_file [] blocks = subst (λ b. AreBlocks string_file (cond b [] text) blocks) e has.are in
      let is : content_of r ≡ Some (Inline text) = has.content ∙ ap (λ b. Some (cond b (Inline text) (Long (length text) (head_of blocks)))) e in
      subst (λ b. Means string_file r (values.Text text) blocks (form_of (cond b (Inline text) (Long (length text) (head_of blocks))))) (sym e)
      (ap (λ t. values.Text t) (sym (inline_content r text is)), no_blocks string_file blocks none))
      (λ long.
      let e = short_false text long in
      let all : AreBlocks string_file text blocks = subst (λ b. AreBlocks string_file (cond b [] text) blocks) e has.are in
      subst (λ b. Means string_file r (values.Text text) blocks (form_of (cond b (Inline text) (Long (length text) (head_of blocks))))) (sym e)
      (text, refl, record { are = all; size_is = refl; first_is = refl }))

  pub means : (value : Value) (blocks : List ℕ) (form : Form) → HasValue string_file r value blocks → form_in r ≡ Some form
      → Means string_file r value blocks form
  means value blocks form has is =
      let same : Some (form_of (content_for value (head_of blocks))) ≡ Some form = sym (ap (option_map form_of) has.content) ∙ sym (form_in-content r) ∙ is in
      subst (Means string_file r value blocks) (inner same) (means_for value blocks has)
    where
      inner : {a b : Form} → Some a ≡ Some b → a ≡ b
      inner e = cc

-- a property's record has a form
pub no_form : (r : Rec) → HasContent r → form_in r ≡ None → ⊥
no_form r has none =
    let e : Some (form_of has.content) ≡ None = sym (ap (option_map form_of) has.is) ∙ sym (form_in-content r) ∙ none in
    cc

-- only a long text has blocks
pub none_if_short : (string_file : ℕ → Rec) (r : Rec) (value : Value) (blocks : List ℕ) (form : Form) → HasValue string_file r value blocks
    → form_in r ≡ Some form → ((size first : ℕ) → form ≡ forms.Long size first → ⊥) → blocks ≡ []
none_if_short string_file r value blocks form has is short = by form (means string_file r value blocks form has is) short
  where
    by : (form : Form) → Means string_file r value blocks form → ((size first : ℕ) → form ≡ forms.Long size first → ⊥) → blocks ≡ []
    by (forms.Number n) m short = m.1
    by (forms.Truth b) m short = m.1
    by (forms.Inline size) m short = m.1
    by (forms.Long size first) m short = absurd (short size first refl)
