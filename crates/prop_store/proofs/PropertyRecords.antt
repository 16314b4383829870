-- What is written in the record of a property is what is read of it.
use Rattle.std.proofs.Common.{◌≡◌, ◌≢◌, ◌<◌, ◌≤◌, ◌^◌, ◌+◌, ◌∙◌, ℕ, List, length, nat_le, nat_lt, nat_eq, Bool, true}
use Rattle.std.proofs.Common.{false, cond, ◌&&◌, ℤ, zero, suc, Some, None, Option, ap, inl, inr, sym, arith, refl}
use Rattle.std.proofs.Common.{⊎_elim}
use Rattle.std.specs.Option.{option_map}
use Rattle.std.proofs.lemmas.Bool.{cases_lt}
use Rattle.std.proofs.lemmas.Bool.Decides.{nat_tests}
use Rattle.std.proofs.lemmas.Int.{to_z-of_z}
use Rattle.std.proofs.Math.Facts.{Fits-of_z}
use Rattle.std.specs.Int.{cast_signed, cast_unsigned}
use Rattle.std.specs.Int.RustNames.{FitsSigned}
use mir.Syntax.{w64}
use Rattle.plain_graph.specs.Forms.{IsKept}
use Rattle.plain_graph.specs.declared.value.Value.{Value}
use Rattle.plain_graph.specs.declared.value.Value.TheVariants as values
use Rattle.rec_bytes.specs.declared.record.Rec.{Rec}
use Rattle.rec_bytes.specs.Format as format
use Rattle.rec_bytes.specs.Record.{field, text_in, with_field, with_text, zeros}
use Rattle.rec_bytes.proofs.Numbers.{Apart, field-with_field_same, field-with_field_other}
use Rattle.rec_bytes.proofs.Texts.{field-with_text_other, length-text_in, text_in-with_field_other, text_in-with_text_same}
use Rattle.store_rules.specs.Properties.{Content, Number, Truth, Inline, Long, content_by, content_for, content_of}
use Rattle.prop_store.specs.Form.{form_in, form_of, truth_in}
use Rattle.prop_store.specs.declared.form.Form.{Form}
use Rattle.prop_store.specs.declared.form.Form.TheVariants as forms
use Rattle.prop_store.specs.PropertyRecord.{keyed, property_body, property_record}

-- what stands apart from the link to the next property stays where the link changes
pub before_next : (r : Rec) (next m other : ℕ) → other + m ≤ 64 → Apart 4 format.property_next m other
    → field m (with_field 4 r format.property_next next) other ≡ field m r other
before_next r next m other fits apart = field-with_field_other 4 r format.property_next next m other fits apart

kind_of_keyed : (kind key : ℕ) → kind < 256 → field 1 (keyed kind key) format.kind ≡ kind
kind_of_keyed kind key small = field-with_field_other 4 (with_field 1 zeros format.kind kind) format.property_key key 1 format.kind (omega arith)
    (inr (omega arith)) ∙ field-with_field_same 1 zeros format.kind kind (omega arith) (omega arith)

-- the tests on lengths
pub short_true : (text : List ℕ) → length text ≤ 40 → nat_le (length text) 40 ≡ true
short_true text short = grind (arith, nat_tests)

pub short_false : (text : List ℕ) → 40 < length text → nat_le (length text) 40 ≡ false
short_false text long = grind (arith, nat_tests)

-- a text is short or long
pub by_length : {P : Type 0} (text : List ℕ) → (length text ≤ 40 → P) → (40 < length text → P) → P
by_length text short long = ⊎_elim (λ (lt : length text < 41). short (omega arith)) (λ (ge : 41 ≤ length text). long (omega arith)) (cases_lt (length text) 41)

-- ---- what stands in the record, by the kind of its value

module _ (key first next : ℕ) where
  pub kind-int_record : (n : ℤ) → field 1 (property_record key (values.Int n) first next) format.kind ≡ format.int
  kind-int_record n =
      before_next (property_body key (values.Int n) first) next 1 format.kind (omega arith) (inr (omega arith))
      ∙ field-with_field_other 8 (keyed format.int key) format.property_number (cast_unsigned w64 n) 1 format.kind (omega arith) (inr (omega arith))
      ∙ kind_of_keyed format.int key (omega arith)

  number-int_record : (n : ℤ) → FitsSigned w64 n → field 8 (property_record key (values.Int n) first next) format.property_number ≡ cast_unsigned w64 n
  number-int_record n fits =
      before_next (property_body key (values.Int n) first) next 8 format.property_number (omega arith) (inl (omega arith))
      ∙ field-with_field_same 8 (keyed format.int key) format.property_number (cast_unsigned w64 n) (omega arith) (omega (arith, Fits-of_z fits))

  pub kind-bool_record : (b : Bool) → field 1 (property_record key (values.Bool b) first next) format.kind ≡ format.bool
  kind-bool_record b =
      before_next (property_body key (values.Bool b) first) next 1 format.kind (omega arith) (inr (omega arith))
      ∙ field-with_field_other 1 (keyed format.bool key) format.property_truth (cond b 1 0) 1 format.kind (omega arith) (inr (omega arith))
      ∙ kind_of_keyed format.bool key (omega arith)

  pub truth-bool_record : (b : Bool) → field 1 (property_record key (values.Bool b) first next) format.property_truth ≡ cond b 1 0
  truth-bool_record b =
      let small : cond b 1 0 < 256 = elim b as (λ z. cond z 1 0 < 256) [ true ↦ omega arith | false ↦ omega arith ] in
      before_next (property_body key (values.Bool b) first) next 1 format.property_truth (omega arith) (inl (omega arith))
      ∙ field-with_field_same 1 (keyed format.bool key) format.property_truth (cond b 1 0) (omega arith) (omega (arith, small))

  module _ (text : List ℕ) (short : length text ≤ 40) where
    abbrev inline_sized : Rec
    inline_sized = with_field 2 (keyed format.text_inline key) format.property_length (length text)

    pub inline-is : property_record key (values.Text text) first next ≡ with_field 4
        (with_text (with_field 2 (keyed format.text_inline key) format.property_length (length text)) format.property_text text) format.property_next next
    inline-is = rw (short_true text short) refl

    pub kind-inline_record : field 1 (property_record key (values.Text text) first next) format.kind ≡ format.text_inline
    kind-inline_record =
        ap (λ r. field 1 r format.kind) inline-is ∙ before_next (with_text inline_sized format.property_text text) next 1 format.kind (omega arith)
        (inr (omega arith))
        ∙ field-with_text_other inline_sized format.property_text text 1 format.kind (omega arith) (inl (omega arith))
        ∙ field-with_field_other 2 (keyed format.text_inline key) format.property_length (length text) 1 format.kind (omega arith) (inr (omega arith))
        ∙ kind_of_keyed format.text_inline key (omega arith)

    pub size-inline_record : field 2 (property_record key (values.Text text) first next) format.property_length ≡ length text
    size-inline_record =
        ap (λ r. field 2 r format.property_length) inline-is ∙ before_next (with_text inline_sized format.property_text text) next 2 format.property_length
        (omega arith) (inr (omega arith))
        ∙ field-with_text_other inline_sized format.property_text text 2 format.property_length (omega arith) (inl (omega arith))
        ∙ field-with_field_same 2 (keyed format.text_inline key) format.property_length (length text) (omega arith) (omega arith)

    text-inline_record : text_in (property_record key (values.Text text) first next) format.property_text (length text) ≡ text
    text-inline_record =
        ap (λ r. text_in r format.property_text (length text)) inline-is
        ∙ text_in-with_field_other 4 (with_text inline_sized format.property_text text) format.property_next next format.property_text (length text)
        (omega arith) (inl (omega arith)) ∙ text_in-with_text_same inline_sized format.property_text text (omega arith)

  module _ (text : List ℕ) (long : 40 < length text) (most : length text ≤ 1024) where
    abbrev long_sized : Rec
    long_sized = with_field 2 (keyed format.text_in_blocks key) format.property_length (length text)

    pub long-is : property_record key (values.Text text) first next ≡ with_field 4
        (with_field 4 (with_field 2 (keyed format.text_in_blocks key) format.property_length (length text)) format.property_first_block first)
        format.property_next next
    long-is = rw (short_false text long) refl

    pub kind-long_record : field 1 (property_record key (values.Text text) first next) format.kind ≡ format.text_in_blocks
    kind-long_record =
        ap (λ r. field 1 r format.kind) long-is ∙ before_next (with_field 4 long_sized format.property_first_block first) next 1 format.kind (omega arith)
        (inr (omega arith))
        ∙ field-with_field_other 4 long_sized format.property_first_block first 1 format.kind (omega arith) (inr (omega arith))
        ∙ field-with_field_other 2 (keyed format.text_in_blocks key) format.property_length (length text) 1 format.kind (omega arith) (inr (omega arith))
        ∙ kind_of_keyed format.text_in_blocks key (omega arith)

    pub size-long_record : field 2 (property_record key (values.Text text) first next) format.property_length ≡ length text
    size-long_record =
        ap (λ r. field 2 r format.property_length) long-is ∙ before_next (with_field 4 long_sized format.property_first_block first) next 2
        format.property_length (omega arith) (inr (omega arith))
        ∙ field-with_field_other 4 long_sized format.property_first_block first 2 format.property_length (omega arith) (inr (omega arith))
        ∙ field-with_field_same 2 (keyed format.text_in_blocks key) format.property_length (length text) (omega arith) (omega arith)

    pub first-long_record : first < 2 ^ 32 → field 4 (property_record key (values.Text text) first next) format.property_first_block ≡ first
    first-long_record small =
        ap (λ r. field 4 r format.property_first_block) long-is ∙ before_next (with_field 4 long_sized format.property_first_block first) next 4
        format.property_first_block (omega arith) (inl (omega arith))
        ∙ field-with_field_same 4 long_sized format.property_first_block first (omega arith) (omega arith)

-- the value that was written is the content that is read
pub content_of-property_record : (key first next : ℕ) (value : Value) → IsKept value → first < 2 ^ 32
    → content_of (property_record key value first next) ≡ Some (content_for value first)
content_of-property_record key first next (values.Int n) kept small =
    rw (kind-int_record key first next n, number-int_record key first next n kept) (ap (λ z. Some (Number z)) (to_z-of_z w64 n kept))
content_of-property_record key first next (values.Bool b) kept small =
    rw (kind-bool_record key first next b, truth-bool_record key first next b)
    (elim b as (λ z. cond (nat_le (cond z 1 0) 1) (Some (Truth (nat_eq (cond z 1 0) 1))) None ≡ Some (Truth z)) [ true ↦ refl | false ↦ refl ])
content_of-property_record key first next (values.Text text) kept small =
    let r = property_record key (values.Text text) first next in
    by_length text
    (λ short.
    ap (λ k. content_by r k (field 2 r format.property_length)) (kind-inline_record key first next text short)
    ∙ ap (content_by r format.text_inline) (size-inline_record key first next text short)
    ∙ ap (λ b. cond b (Some (Inline (text_in r format.property_text (length text)))) None) (short_true text short)
    ∙ ap (λ t. Some (Inline t)) (text-inline_record key first next text short)
    ∙ ap (λ b. Some (cond b (Inline text) (Long (length text) first))) (sym (short_true text short)))
    (λ long.
    let low : nat_lt 40 (length text) ≡ true = grind (arith, nat_tests) in
    let high : nat_le (length text) 1024 ≡ true = grind (arith, nat_tests) in
    ap (λ k. content_by r k (field 2 r format.property_length)) (kind-long_record key first next text long kept)
    ∙ ap (content_by r format.text_in_blocks) (size-long_record key first next text long kept)
    ∙ ap (λ b. cond b (Some (Long (length text) (field 4 r format.property_first_block))) None) (ap (λ b. b && nat_le (length text) 1024) low ∙ high)
    ∙ ap (λ f. Some (Long (length text) f)) (first-long_record key first next text long kept small)
    ∙ ap (λ b. Some (cond b (Inline text) (Long (length text) first))) (sym (short_false text long)))

-- and so are the property after it, and the key
pub next-property_record : (key first next : ℕ) (value : Value) → next < 2 ^ 32 → field 4 (property_record key value first next) format.property_next ≡ next
next-property_record key first next value small = field-with_field_same 4 (property_body key value first) format.property_next next (omega arith) (omega arith)

pub key-property_record : (key first next : ℕ) (value : Value) → key < 2 ^ 32 → field 4 (property_record key value first next) format.property_key ≡ key
key-property_record key first next value small = before_next (property_body key value first) next 4 format.property_key (omega arith) (inr (omega arith))
    ∙ in_body value
  where
    in_keyed : (kind : ℕ) → field 4 (keyed kind key) format.property_key ≡ key
    in_keyed kind = field-with_field_same 4 (with_field 1 zeros format.kind kind) format.property_key key (omega arith) (omega arith)

    in_sized : (kind size : ℕ) → field 4 (with_field 2 (keyed kind key) format.property_length size) format.property_key ≡ key
    in_sized kind size = field-with_field_other 2 (keyed kind key) format.property_length size 4 format.property_key (omega arith) (inl (omega arith))
        ∙ in_keyed kind

    in_text : (text : List ℕ) (b : Bool) → (b ≡ true → length text ≤ 40)
        → field 4 (cond b (with_text (with_field 2 (keyed format.text_inline key) format.property_length (length text)) format.property_text text)
        (with_field 4 (with_field 2 (keyed format.text_in_blocks key) format.property_length (length text)) format.property_first_block first))
        format.property_key ≡ key
    in_text text true short = field-with_text_other (with_field 2 (keyed format.text_inline key) format.property_length (length text)) format.property_text text
        4 format.property_key (omega arith) (inl (omega arith)) ∙ in_sized format.text_inline (length text)
    in_text text false short = field-with_field_other 4 (with_field 2 (keyed format.text_in_blocks key) format.property_length (length text))
        format.property_first_block first 4 format.property_key (omega arith) (inr (omega arith)) ∙ in_sized format.text_in_blocks (length text)

    in_body : (value : Value) → field 4 (property_body key value first) format.property_key ≡ key
    in_body (values.Int n) = field-with_field_other 8 (keyed format.int key) format.property_number (cast_unsigned w64 n) 4 format.property_key (omega arith)
        (inr (omega arith)) ∙ in_keyed format.int
    in_body (values.Bool b) = field-with_field_other 1 (keyed format.bool key) format.property_truth (cond b 1 0) 4 format.property_key (omega arith)
        (inr (omega arith)) ∙ in_keyed format.bool
    in_body (values.Text text) = in_text text (nat_le (length text) 40) (λ e. grind (arith, nat_tests))

-- another property after it changes neither the content nor the key
pub content_of-with_next : (r : Rec) (next : ℕ) → content_of (with_field 4 r format.property_next next) ≡ content_of r
content_of-with_next r next =
    let s = with_field 4 r format.property_next next in
    let kind : field 1 s format.kind ≡ field 1 r format.kind = before_next r next 1 format.kind (omega arith) (inr (omega arith)) in
    let size : field 2 s format.property_length ≡ field 2 r format.property_length =
    before_next r next 2 format.property_length (omega arith) (inr (omega arith)) in
    let number : field 8 s format.property_number ≡ field 8 r format.property_number =
    before_next r next 8 format.property_number (omega arith) (inl (omega arith)) in
    let truth : field 1 s format.property_truth ≡ field 1 r format.property_truth =
    before_next r next 1 format.property_truth (omega arith) (inl (omega arith)) in
    let first : field 4 s format.property_first_block ≡ field 4 r format.property_first_block =
    before_next r next 4 format.property_first_block (omega arith) (inl (omega arith)) in
    ap (λ k. content_by s k (field 2 s format.property_length)) kind ∙ ap (content_by s (field 1 r format.kind)) size
    ∙ by (field 1 r format.kind) (field 2 r format.property_length) number truth first
  where
    by : (kind size : ℕ) → field 8 (with_field 4 r format.property_next next) format.property_number ≡ field 8 r format.property_number
        → field 1 (with_field 4 r format.property_next next) format.property_truth ≡ field 1 r format.property_truth
        → field 4 (with_field 4 r format.property_next next) format.property_first_block ≡ field 4 r format.property_first_block
        → content_by (with_field 4 r format.property_next next) kind size ≡ content_by r kind size
    by kind size number truth first = rw (number, truth, first) (inline (nat_eq kind format.int) (nat_eq kind format.bool && nat_le
        (field 1 r format.property_truth) 1) (nat_eq kind format.text_inline && nat_le size 40)
        (Some (Number (cast_signed w64 (field 8 r format.property_number)))) (Some (Truth (nat_eq (field 1 r format.property_truth) 1)))
        (cond (nat_eq kind format.text_in_blocks && (nat_lt 40 size && nat_le size 1024)) (Some (Long size (field 4 r format.property_first_block))) None)
        (text_in (with_field 4 r format.property_next next) format.property_text size) (text_in r format.property_text size)
        (λ e. text size (fits kind size e)))
      where
        text : (size : ℕ) → size ≤ 40 → text_in (with_field 4 r format.property_next next) format.property_text size ≡ text_in r format.property_text size
        text size few = text_in-with_field_other 4 r format.property_next next format.property_text size (omega arith) (inl (omega arith))

        fits : (kind size : ℕ) → (nat_eq kind format.text_inline && nat_le size 40) ≡ true → size ≤ 40
        fits kind size e = grind (arith, nat_tests)

        inline : (a b c : Bool) (x y z : Option Content) (s t : List ℕ) → (c ≡ true → s ≡ t)
            → cond a x (cond b y (cond c (Some (Inline s)) z)) ≡ cond a x (cond b y (cond c (Some (Inline t)) z))
        inline a b true x y z s t same = ap (λ u. cond a x (cond b y (Some (Inline u)))) (same refl)
        inline a b false x y z s t same = refl

pub key-with_next : (r : Rec) (next : ℕ) → field 4 (with_field 4 r format.property_next next) format.property_key ≡ field 4 r format.property_key
key-with_next r next = before_next r next 4 format.property_key (omega arith) (inr (omega arith))

-- the code reads what the rules read
pub form_in-content : (r : Rec) → form_in r ≡ option_map form_of (content_of r)
form_in-content r =
    let kind = field 1 r format.kind in
    let size = field 2 r format.property_length in
    let truth = field 1 r format.property_truth in
    same (nat_eq kind format.int) (nat_eq kind format.bool) (nat_eq kind format.text_inline) (nat_eq kind format.text_in_blocks) (nat_le truth 1)
    (nat_le size 40) (nat_lt 40 size && nat_le size 1024)
    (nat_eq truth 1) (truth_in truth) (text_in r format.property_text size) size (cast_signed w64 (field 8 r format.property_number))
    (field 4 r format.property_first_block)
    (truth_by truth) (λ e. grind (arith, nat_tests)) (λ e. grind (arith, nat_tests)) (λ e. grind (arith, nat_tests))
    (λ e. let few : size ≤ 40 = grind (arith, nat_tests) in length-text_in r format.property_text size (omega arith))
  where
    truth_by : (truth : ℕ) → truth_in truth ≡ cond (nat_le truth 1) (Some (forms.Truth (nat_eq truth 1))) None
    truth_by zero = refl
    truth_by (suc zero) = refl
    truth_by (suc (suc n)) =
        let a : nat_eq (suc (suc n)) 0 ≡ false = grind (arith, nat_tests) in
        let b : nat_eq (suc (suc n)) 1 ≡ false = grind (arith, nat_tests) in
        let c : nat_le (suc (suc n)) 1 ≡ false = grind (arith, nat_tests) in
        rw (a, b, c) refl

    same : (int bool inline long low short right one : Bool) (truth : Option Form) (text : List ℕ) (size : ℕ) (number : ℤ) (first : ℕ)
        → truth ≡ cond low (Some (forms.Truth one)) None → (bool ≡ true → inline ≡ false) → (bool ≡ true → long ≡ false) → (inline ≡ true → long ≡ false)
        → (short ≡ true → length text ≡ size)
        → cond int (Some (forms.Number number)) (cond bool truth (cond inline (cond short (Some (forms.Inline size)) None)
        (cond long (cond right (Some (forms.Long size first)) None) None)))
        ≡ option_map form_of (cond int (Some (Number number)) (cond (bool && low) (Some (Truth one)) (cond (inline && short) (Some (Inline text))
        (cond (long && right) (Some (Long size first)) None))))
    same true bool inline long low short right one truth text size number first t b c d len = refl
    same false true inline long true short right one truth text size number first t b c d len = t
    same false true inline long false short right one truth text size number first t b c d len = t ∙ rw (b refl, c refl) refl
    same false false true long low true right one truth text size number first t b c d len = ap (λ n. Some (forms.Inline n)) (sym (len refl))
    same false false true long low false right one truth text size number first t b c d len = rw (d refl) refl
    same false false false true low short true one truth text size number first t b c d len = refl
    same false false false true low short false one truth text size number first t b c d len = refl
    same false false false false low short right one truth text size number first t b c d len = refl

-- a record with a content is in use
pub used-content : (r : Rec) (c : Content) → content_of r ≡ Some c → field 1 r format.kind ≢ format.free_kind
used-content r c is free = none (ap (λ k. content_by r k (field 2 r format.property_length)) (sym free) ∙ is)
  where
    none : content_by r 0 (field 2 r format.property_length) ≡ Some c → ⊥
    none e = cc

-- it is one in use
pub used-property_record : (key first next : ℕ) (value : Value) → IsKept value → field 1 (property_record key value first next) format.kind ≢ format.free_kind
used-property_record key first next (values.Int n) kept e = let k = kind-int_record key first next n in omega arith
used-property_record key first next (values.Bool b) kept e = let k = kind-bool_record key first next b in omega arith
used-property_record key first next (values.Text text) kept e = by_length text
    (λ (short : length text ≤ 40). let k = kind-inline_record key first next text short in omega arith)
    (λ (long : 40 < length text). let k = kind-long_record key first next text long kept in omega arith)
