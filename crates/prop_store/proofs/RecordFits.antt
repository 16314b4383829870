-- Records of properties and of blocks that are written fit their files.
use Rattle.std.specs.Prelude.{nat_le}
use Rattle.std.proofs.Common.{◌≡◌, ◌≢◌, ◌⊎◌, ⊎_elim, inl, inr, ℕ, ◌+◌, ◌<◌, ◌≤◌, ◌^◌, nat_eq, nat_lt, Bool, true, false}
use Rattle.std.proofs.Common.{◌&&◌, ◌||◌, cond, List, [], ◌∷◌, length, None, Some, refl, sym, ap, ◌∙◌, subst, arith}
use Rattle.std.specs.List.{list_any}
use Rattle.std.specs.Int.{cast_unsigned}
use mir.Syntax.{w64}
use Rattle.std.proofs.lemmas.Bool.{cases_lt}
use Rattle.std.proofs.lemmas.Bool.Decides.{nat_tests}
use Rattle.plain_graph.specs.Forms.{IsKept}
use Rattle.plain_graph.specs.declared.value.Value.{Value}
use Rattle.plain_graph.specs.declared.value.Value.TheVariants as values
use Rattle.rec_bytes.specs.declared.record.Rec.{Rec}
use Rattle.rec_bytes.specs.Format as format
use Rattle.rec_bytes.specs.Record.{field, with_field, with_text, zeros}
use Rattle.rec_bytes.proofs.Numbers.{Apart, field-with_field_other, field-with_field_same}
use Rattle.rec_bytes.proofs.Texts.{field-with_text_other}
use Rattle.store_rules.specs.Ranges.{Fits, Layout, Range, all_point, block_layout, bytes_of, free_layout, is_in, laid}
use Rattle.store_rules.specs.Ranges.{layout_by, may, next_property, points, property_layout}
use Rattle.store_rules.proofs.LinkFits.{IsLow, low_points}
use Rattle.store_rules.proofs.NumberLaws.{and_parts, eq_false}
use Rattle.id_freelist.proofs.Leaving.{byte_of_zeros}
use Rattle.prop_store.specs.BlockRecord.{block_record}
use Rattle.prop_store.specs.PropertyRecord.{keyed, property_body, property_record}
use Rattle.prop_store.proofs.BlockRecords.{kind-block_record, next-block_record, size-block_record}
use Rattle.prop_store.proofs.PropertyRecords.{before_next, by_length, first-long_record, inline-is, kind-int_record}
use Rattle.prop_store.proofs.PropertyRecords.{kind-bool_record, kind-inline_record, kind-long_record, long-is}
use Rattle.prop_store.proofs.PropertyRecords.{next-property_record, short_true, size-inline_record, size-long_record}
use Rattle.prop_store.proofs.PropertyRecords.{truth-bool_record}

-- ---- bytes that no range has

abbrev Outside : ℕ → List Range → Type 0
Outside i [] = Unit {0}
Outside i (p ∷ ps) = ((i < p.at) ⊎ (p.at + p.size ≤ i)) × Outside i ps

outside : (i : ℕ) (ps : List Range) → list_any (is_in i) ps ≡ false → Outside i ps
outside i [] out = tt
outside i (p ∷ ps) out = let k = none (is_in i p) (list_any (is_in i) ps) out in (apart p k.0, outside i ps k.1)
  where
    none : (a b : Bool) → (a || b) ≡ false → (a ≡ false) × (b ≡ false)
    none true b e = absurd cc
    none false b e = (refl, e)

    apart : (p : Range) → is_in i p ≡ false → (i < p.at) ⊎ (p.at + p.size ≤ i)
    apart p e = ⊎_elim (λ (l : i < p.at). inl l) (λ (ge : p.at ≤ i). inr (grind (arith, nat_tests))) (cases_lt i p.at)

-- a byte outside of a range stands apart from what is written within
within : (n at i from size : ℕ) → (i < from) ⊎ (from + size ≤ i) → from ≤ at → at + n ≤ from + size → Apart n at 1 i
within n at i from size out low high = ⊎_elim (λ (h : i < from). inr (omega arith)) (λ (h : from + size ≤ i). inl (omega arith)) out

-- what is written within leaves the byte
byte_stays : (n : ℕ) (r : Rec) (at value i from size : ℕ) → i < 64 → (i < from) ⊎ (from + size ≤ i) → from ≤ at → at + n ≤ from + size → field 1 r i ≡ 0
    → field 1 (with_field n r at value) i ≡ 0
byte_stays n r at value i from size lt out low high blank = field-with_field_other n r at value 1 i (omega arith) (within n at i from size out low high) ∙ blank

text_stays : (r : Rec) (at : ℕ) (text : List ℕ) (i : ℕ) → i < 64 → (i < at) ⊎ (at + length text ≤ i) → field 1 r i ≡ 0 → field 1 (with_text r at text) i ≡ 0
text_stays r at text i lt out blank = field-with_text_other r at text 1 i (omega arith) (⊎_elim (λ (h : i < at). inl (omega arith)) (λ h. inr h) out) ∙ blank

-- the kind and the key are written alone
byte_of_keyed : (kind key i : ℕ) → i < 64 → (i < 0) ⊎ (1 ≤ i) → (i < 4) ⊎ (8 ≤ i) → field 1 (keyed kind key) i ≡ 0
byte_of_keyed kind key i lt first out = byte_stays 4 (with_field 1 zeros format.kind kind) format.property_key key i 4 4 lt out (omega arith) (omega arith)
    (byte_stays 1 zeros format.kind kind i 0 1 lt first (omega arith) (omega arith) (byte_of_zeros i lt))

-- a byte outside of a longer range is outside of its first part
part_out : (i from size long : ℕ) → size ≤ long → (i < from) ⊎ (from + long ≤ i) → (i < from) ⊎ (from + size ≤ i)
part_out i from size long le out = ⊎_elim (λ h. inl h) (λ (h : from + long ≤ i). inr (omega arith)) out

-- a byte outside of length, key and next is outside of the key
within_out : (i : ℕ) → (i < 2) ⊎ (12 ≤ i) → (i < 4) ⊎ (8 ≤ i)
within_out i out = ⊎_elim (λ (h : i < 2). inl (omega arith)) (λ (h : 12 ≤ i). inr (omega arith)) out

-- ---- numbers that name records

all_low : (marks : ℕ → ℕ) (r : Rec) (next : ℕ) → field 4 r format.property_next ≡ next → IsLow (marks format.properties_file) next
    → all_point marks r (next_property ∷ []) ≡ true
all_low marks r next is low = rw (is, low_points next (marks format.properties_file) low) refl

long_low : (marks : ℕ → ℕ) (r : Rec) (first next : ℕ) → field 4 r format.property_next ≡ next → field 4 r format.property_first_block ≡ first
    → IsLow (marks format.properties_file) next → IsLow (marks format.strings_file) first
    → all_point marks r (next_property ∷ may format.property_first_block format.strings_file ∷ []) ≡ true
long_low marks r first next next_is first_is low first_low = rw (
  next_is,
  first_is,
  low_points next (marks format.properties_file) low,
  low_points first
      (marks format.strings_file) first_low,
) refl

-- ---- the record of a property

-- the layout of a property by its kind
abbrev layout_with : List Range → Layout
layout_with used = record { pointers = next_property ∷ []; used = used }

abbrev long_layout : Layout
long_layout = record {
  pointers = next_property ∷ may format.property_first_block format.strings_file ∷ [];
  used = bytes_of format.kind 1 ∷ bytes_of
      format.property_length 14 ∷ [];
}

module _ (marks : ℕ → ℕ) (key first next : ℕ) (small : next < 2 ^ 32) (low : IsLow (marks format.properties_file) next) where
  int_fits : (n : _) → Fits marks format.properties_file (property_record key (values.Int n) first next)
  int_fits n =
      let r = property_record key (values.Int n) first next in
      record {
        layout = layout_with (bytes_of format.kind 1 ∷ bytes_of format.property_key 8 ∷ bytes_of format.property_number 8 ∷ []);
        is = ap (layout_by format.properties_file r) (kind-int_record key first next n);
        point = all_low marks r next (next-property_record key first next (values.Int n) small) low;
        blank = λ i lt out.
            let o = outside i (bytes_of format.kind 1 ∷ bytes_of format.property_key 8 ∷ bytes_of format.property_number 8 ∷ []) out in
            byte_stays 4 (property_body key (values.Int n) first) format.property_next next i 4 8 lt o.1.0 (omega arith) (omega arith)
            (byte_stays 8 (keyed format.int key) format.property_number (cast_unsigned w64 n) i 16 8 lt o.1.1.0 (omega arith) (omega arith)
            (byte_of_keyed format.int key i lt o.0 (part_out i 4 4 8 (omega arith) o.1.0)));
      }

  bool_fits : (b : Bool) → Fits marks format.properties_file (property_record key (values.Bool b) first next)
  bool_fits b =
      let r = property_record key (values.Bool b) first next in
      record {
        layout = layout_with (bytes_of format.kind 1 ∷ bytes_of format.property_key 8 ∷ bytes_of format.property_truth 1 ∷ []);
        is = ap (layout_by format.properties_file r) (kind-bool_record key first next b)
            ∙ rw (truth-bool_record key first next b) (elim b as (λ z. cond (nat_le (cond z 1 0) 1)
            (Some (layout_with (bytes_of format.kind 1 ∷ bytes_of format.property_key 8 ∷ bytes_of format.property_truth 1 ∷ []))) None ≡ Some
            (layout_with (bytes_of format.kind 1 ∷ bytes_of format.property_key 8 ∷ bytes_of format.property_truth 1 ∷ [])))
            [ true ↦ refl | false ↦ refl ]);
        point = all_low marks r next (next-property_record key first next (values.Bool b) small) low;
        blank = λ i lt out.
            let o = outside i (bytes_of format.kind 1 ∷ bytes_of format.property_key 8 ∷ bytes_of format.property_truth 1 ∷ []) out in
            byte_stays 4 (property_body key (values.Bool b) first) format.property_next next i 4 8 lt o.1.0 (omega arith) (omega arith)
            (byte_stays 1 (keyed format.bool key) format.property_truth (cond b 1 0) i 16 1 lt o.1.1.0 (omega arith) (omega arith)
            (byte_of_keyed format.bool key i lt o.0 (part_out i 4 4 8 (omega arith) o.1.0)));
      }

  inline_fits : (text : List ℕ) → length text ≤ 40 → Fits marks format.properties_file (property_record key (values.Text text) first next)
  inline_fits text short =
      let size = length text in
      let used = bytes_of format.kind 1 ∷ bytes_of format.property_length 10 ∷ bytes_of format.property_text size ∷ [] in
      let sized = with_field 2 (keyed format.text_inline key) format.property_length size in
      let r = property_record key (values.Text text) first next in
      record {
        layout = layout_with used;
        is = ap (layout_by format.properties_file r) (kind-inline_record key first next text short)
            ∙ ap (property_layout r format.text_inline) (size-inline_record key first next text short)
            ∙ ap (λ b. cond b (Some (layout_with used)) None) (short_true text short);
        point = all_low marks r next (next-property_record key first next (values.Text text) small) low;
        blank = λ i lt out.
            let o = outside i used out in
            ap (λ q. field 1 q i) (inline-is key first next text short)
            ∙ byte_stays 4 (with_text sized format.property_text text) format.property_next next i 2 10 lt o.1.0 (omega arith) (omega arith)
            (text_stays sized format.property_text text i lt o.1.1.0
            (byte_stays 2 (keyed format.text_inline key) format.property_length size i 2 10 lt o.1.0 (omega arith) (omega arith)
            (byte_of_keyed format.text_inline key i lt o.0 (within_out i o.1.0))));
      }

  long_fits : (text : List ℕ) → 40 < length text → length text ≤ 1024 → first < 2 ^ 32 → IsLow (marks format.strings_file) first
      → Fits marks format.properties_file (property_record key (values.Text text) first next)
  long_fits text long most fits first_low =
      let size = length text in
      let sized = with_field 2 (keyed format.text_in_blocks key) format.property_length size in
      let r = property_record key (values.Text text) first next in
      let right : (nat_lt 40 size && nat_le size 1024) ≡ true = grind (arith, nat_tests) in
      record {
        layout = long_layout;
        is = ap (layout_by format.properties_file r) (kind-long_record key first next text long most)
            ∙ ap (property_layout r format.text_in_blocks) (size-long_record key first next text long most) ∙ ap (λ b. cond b (Some long_layout) None) right;
        point = long_low marks r first next (next-property_record key first next (values.Text text) small)
            (first-long_record key first next text long most fits) low first_low;
        blank = λ i lt out.
            let o = outside i long_layout.used out in
            ap (λ q. field 1 q i) (long-is key first next text long most)
            ∙ byte_stays 4 (with_field 4 sized format.property_first_block first) format.property_next next i 2 14 lt o.1.0 (omega arith) (omega arith)
            (byte_stays 4 sized format.property_first_block first i 2 14 lt o.1.0 (omega arith) (omega arith)
            (byte_stays 2 (keyed format.text_in_blocks key) format.property_length size i 2 14 lt o.1.0 (omega arith) (omega arith)
            (byte_of_keyed format.text_in_blocks key i lt o.0 (within_out i (part_out i 2 10 14 (omega arith) o.1.0)))));
      }

-- the record of a property fits, where what it names is none or below the marks
pub Fits-property_record : (marks : ℕ → ℕ) (key first next : ℕ) (value : Value) → IsKept value → first < 2 ^ 32 → next < 2 ^ 32
    → IsLow (marks format.strings_file) first → IsLow (marks format.properties_file) next
    → Fits marks format.properties_file (property_record key value first next)
Fits-property_record marks key first next (values.Int n) kept fits small first_low low = int_fits marks key first next small low n
Fits-property_record marks key first next (values.Bool b) kept fits small first_low low = bool_fits marks key first next small low b
Fits-property_record marks key first next (values.Text text) kept fits small first_low low =
    by_length text (inline_fits marks key first next small low text) (λ long. long_fits marks key first next small low text long kept fits first_low)

-- ---- another property after one

-- its link is among the bytes that are in use, and among what may name a record
record HasNext (layout : Layout) : Type 0 where
  pointers : (layout.pointers ≡ next_property ∷ []) ⊎ (layout.pointers ≡ next_property ∷ may format.property_first_block format.strings_file ∷ [])
  used : (i : ℕ) → list_any (is_in i) layout.used ≡ false → (i < 8) ⊎ (12 ≤ i)

module _ (r : Rec) (kind size : ℕ) (layout : Layout) where
  has_next : property_layout r kind size ≡ Some layout → HasNext layout
  has_next = by (nat_eq kind format.int) (nat_eq kind format.bool && nat_le (field 1 r format.property_truth) 1)
      (nat_eq kind format.text_inline && nat_le size 40) (nat_eq kind format.text_in_blocks && (nat_lt 40 size && nat_le size 1024))
    where
      short : (used : List Range) → ((i : ℕ) → Outside i used → (i < 8) ⊎ (12 ≤ i)) → laid (next_property ∷ []) used ≡ Some layout → HasNext layout
      short used out e =
          let same : layout_with used ≡ layout = cc in
          subst HasNext same (record { pointers = inl refl; used = λ i o. out i (outside i used o) })

      keyed_out : (i : ℕ) → (i < 4) ⊎ (12 ≤ i) → (i < 8) ⊎ (12 ≤ i)
      keyed_out i o = ⊎_elim (λ (h : i < 4). inl (omega arith)) (λ h. inr h) o

      sized_out : (i : ℕ) → (i < 2) ⊎ (12 ≤ i) → (i < 8) ⊎ (12 ≤ i)
      sized_out i o = ⊎_elim (λ (h : i < 2). inl (omega arith)) (λ h. inr h) o

      by : (a b c d : Bool)
          → cond a (laid (next_property ∷ []) (bytes_of format.kind 1 ∷ bytes_of format.property_key 8 ∷ bytes_of format.property_number 8 ∷ []))
          (cond b (laid (next_property ∷ []) (bytes_of format.kind 1 ∷ bytes_of format.property_key 8 ∷ bytes_of format.property_truth 1 ∷ []))
          (cond c (laid (next_property ∷ []) (bytes_of format.kind 1 ∷ bytes_of format.property_length 10 ∷ bytes_of format.property_text size ∷ []))
          (cond d (laid (next_property ∷ may format.property_first_block format.strings_file ∷ []) (bytes_of format.kind 1 ∷ bytes_of format.property_length 14
          ∷ [])) None))) ≡ Some layout
          → HasNext layout
      by true b c d e = short (bytes_of format.kind 1 ∷ bytes_of format.property_key 8 ∷ bytes_of format.property_number 8 ∷ []) (λ i o. keyed_out i o.1.0) e
      by false true c d e = short (bytes_of format.kind 1 ∷ bytes_of format.property_key 8 ∷ bytes_of format.property_truth 1 ∷ []) (λ i o. keyed_out i o.1.0) e
      by false false true d e = short (bytes_of format.kind 1 ∷ bytes_of format.property_length 10 ∷ bytes_of format.property_text size ∷ [])
          (λ i o. sized_out i o.1.0) e
      by false false false true e =
          let same : long_layout ≡ layout = cc in
          subst HasNext same (record { pointers = inr refl; used = λ i o. sized_out i (part_out i 2 10 14 (omega arith) (outside i long_layout.used o).1.0) })
      by false false false false e = absurd cc

-- a property's record fits with another property after it
pub Fits-with_next : (marks : ℕ → ℕ) (r : Rec) (next : ℕ) → field 1 r format.kind ≢ format.free_kind → next < 2 ^ 32 → IsLow (marks format.properties_file) next
    → Fits marks format.properties_file r
    → Fits marks format.properties_file (with_field 4 r format.property_next next)
Fits-with_next marks r next used small low h =
    let s = with_field 4 r format.property_next next in
    let some : nat_eq (field 1 r format.kind) format.free_kind ≡ false = eq_false (field 1 r format.kind) format.free_kind used in
    let its = has_next r (field 1 r format.kind) (field 2 r format.property_length) h.layout (sym (in_use r (field 1 r format.kind) some) ∙ h.is) in
    let first : field 4 s format.property_first_block ≡ field 4 r format.property_first_block =
    before_next r next 4 format.property_first_block (omega arith) (inl (omega arith)) in
    let here : field 4 s format.property_next ≡ next = field-with_field_same 4 r format.property_next next (omega arith) (omega arith) in
    record {
      layout = h.layout;
      is =
          ap (layout_by format.properties_file s) (before_next r next 1 format.kind (omega arith) (inr (omega arith)))
          ∙ in_use s (field 1 r format.kind) some ∙ ap (property_layout s (field 1 r format.kind))
          (before_next r next 2 format.property_length (omega arith) (inr (omega arith)))
          ∙ by_truth r s (field 1 r format.kind) (field 2 r format.property_length)
          (before_next r next 1 format.property_truth (omega arith) (inl (omega arith)))
          ∙ sym (in_use r (field 1 r format.kind) some) ∙ h.is;
      point = ⊎_elim
          (λ e. ap (all_point marks s) e ∙ all_low marks s next here low)
          (λ e.
          let old = and_parts (points marks r next_property) (all_point marks r (may format.property_first_block format.strings_file ∷ []))
          (sym (ap (all_point marks r) e) ∙ h.point) in
          ap (all_point marks s) e ∙ rw (here, low_points next (marks format.properties_file) low)
          (ap (λ v. (nat_lt v (marks format.strings_file) || (true && nat_eq v format.nil)) && true) first ∙ old.1))
          its.pointers;
      blank = λ i lt out. field-with_field_other 4 r format.property_next next 1 i (omega arith)
          (within 4 format.property_next i 8 4 (its.used i out) (omega arith) (omega arith)) ∙ h.blank i lt out;
    }
  where
    in_use : (r : Rec) (kind : ℕ) → nat_eq kind format.free_kind ≡ false
        → layout_by format.properties_file r kind ≡ property_layout r kind (field 2 r format.property_length)
    in_use r kind e = ap (λ b. cond b (free_layout format.properties_file) (property_layout r kind (field 2 r format.property_length))) e

    by_truth : (r s : Rec) (kind size : ℕ) → field 1 s format.property_truth ≡ field 1 r format.property_truth
        → property_layout s kind size ≡ property_layout r kind size
    by_truth r s kind size e = rw e refl

-- ---- the record of a block

-- it fits, where it has bytes, and what it names is none or below the mark
pub Fits-block_record : (marks : ℕ → ℕ) (text : List ℕ) (next : ℕ) → 0 < length text → length text ≤ 48 → next < 2 ^ 32 → IsLow (marks format.strings_file) next
    → Fits marks format.strings_file (block_record text next)
Fits-block_record marks text next some few small low =
    let size = length text in
    let used = bytes_of format.kind 2 ∷ bytes_of format.block_next 4 ∷ bytes_of format.block_text size ∷ [] in
    let table : Layout = record { pointers = may format.block_next format.strings_file ∷ []; used = used } in
    let one = with_field 1 zeros format.kind format.block in
    let two = with_field 1 one format.block_length size in
    let r = block_record text next in
    let right : (nat_lt 0 size && nat_le size 48) ≡ true = grind (arith, nat_tests) in
    record {
      layout = table;
      is = ap (layout_by format.strings_file r) (kind-block_record text next few) ∙ ap block_layout (size-block_record text next few)
          ∙ ap (λ b. cond b (Some table) None) right;
      point = rw (next-block_record text next few small, low_points next (marks format.strings_file) low) refl;
      blank = λ i lt out.
          let o = outside i used out in
          byte_stays 4 (with_text two format.block_text text) format.block_next next i 4 4 lt o.1.0 (omega arith) (omega arith)
          (text_stays two format.block_text text i lt o.1.1.0
          (byte_stays 1 one format.block_length size i 0 2 lt o.0 (omega arith) (omega arith) (byte_stays 1 zeros format.kind format.block i 0 2 lt o.0
          (omega arith) (omega arith) (byte_of_zeros i lt))));
    }
