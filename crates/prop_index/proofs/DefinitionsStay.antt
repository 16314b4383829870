-- The indexes of the graph stay where an entry is added or taken out.
use Rattle.std.proofs.Common.{◌≡◌, ◌≢◌, ⊎_elim, ℕ, zero, suc, ◌<◌, ◌≤◌, Bool, true, false, ◌&&◌, nat_eq, nat_lt}
use Rattle.std.proofs.Common.{if◌then◌else◌, cond, Option, None, Some, List, ◌++◌, length, ap, sym, ◌∙◌, inr, arith}
use Rattle.std.specs.List.{flat_map}
use Rattle.std.proofs.lemmas.Bool.{cases_lt}
use Rattle.plain_graph.specs.Graph.{Index}
use Rattle.rec_bytes.specs.declared.key.Key.{Key}
use Rattle.rec_bytes.specs.declared.record.Rec.{Rec}
use Rattle.rec_bytes.specs.Format as format
use Rattle.rec_bytes.specs.Meta as metas
use Rattle.rec_bytes.specs.Record.{field}
use Rattle.rec_bytes.specs.RecordFiles.{meta_key_of}
use Rattle.rec_bytes.proofs.Numbers.{field-with_field_other}
use Rattle.store_rules.specs.Graph.{index_from, indexes_from, indexes_of, is_definition_of}
use Rattle.store_rules.specs.IndexChange.{IsEntryGone, IsEntryMade}
use Rattle.store_rules.specs.Indexes.{index_rec, next_entry, previous_entry}
use Rattle.store_rules.specs.Rows.{collect, ids, option_list}
use Rattle.store_rules.specs.Views.{Records, high, key_in, kind_at, rec_at, text_of}
use Rattle.store_rules.proofs.EntryGone.{kind_kept}
use Rattle.store_rules.proofs.MetaLaws.{high_fits}
use Rattle.store_rules.proofs.NumberLaws.{eq_false, nat_cases}
use Rattle.store_rules.proofs.RowLaws.{append_none}
use Rattle.store_rules.proofs.ViewLaws.{kind_below, kind_high, kind_low}
use Rattle.prop_index.specs.Defining.{SameElsewhere}

-- numbers that fail a test from a mark on add nothing
ids_below : (test : ℕ → Bool) (m n : ℕ) → m ≤ n → ((x : ℕ) → m ≤ x → test x ≡ false) → ids test n ≡ ids test m
ids_below test m zero le none = let e : 0 ≡ m = omega (arith, le) in ap (ids test) e
ids_below test m (suc n) le none = ⊎_elim
    (λ (lt : n < m). let e : suc n ≡ m = omega (arith, le, lt) in ap (ids test) e)
    (λ (ge : m ≤ n). ap (λ b. ids test n ++ option_list (cond b (Some n) None)) (none n ge) ∙ append_none (ids test n) ∙ ids_below test m n ge none)
    (cases_lt n m)

abbrev test_in : Records → ℕ → ℕ → ℕ → Bool
test_in records label key y = is_definition_of (kind_at records format.index_file) (rec_at records format.index_file) label key y

-- a record of another kind is no definition
not_defined : (records : Records) (label key y : ℕ) → kind_at records format.index_file y ≢ format.definition → test_in records label key y ≡ false
not_defined records label key y other =
    ap (λ b. b && (nat_eq (field 4 (rec_at records format.index_file y) format.definition_label) label && nat_eq (field 4 (rec_at records format.index_file y)
    format.definition_key) key))
    (eq_false (kind_at records format.index_file y) format.definition other)

module _ (s t : Records) (elsewhere : SameElsewhere s t) (grows : high s format.index_file ≤ high t format.index_file)
    (same : (label key y : ℕ) → test_in t label key y ≡ test_in s label key y) where
  names_rec : rec_at t format.names_file ≡ rec_at s format.names_file
  names_rec = λ i x. elsewhere (key_in format.names_file x) (λ e. omega (arith, e)) (λ e. let f = ap (λ (k : Key). k.file) e in omega (arith, f)) i

  names_mark : high t format.names_file ≡ high s format.names_file
  names_mark = ap (λ (r : Rec). (metas.meta_of r).high) (elsewhere (meta_key_of format.names_file) (λ e. omega (arith, e)) (λ e. let i = ap (λ (k : Key). k.id)
      e in omega (arith, i)))

  past_none : (label key x : ℕ) → high s format.index_file ≤ x → test_in s label key x ≡ false
  past_none label key x le = not_defined s label key x (λ e. let k = kind_high (high s format.index_file) (rec_at s format.index_file x) x le in omega
      (arith, e, k))

  found_same : (label key : ℕ) → ids (test_in t label key) (high t format.index_file) ≡ ids (test_in s label key) (high s format.index_file)
  found_same label key = ap (λ (f : ℕ → Bool). ids f (high t format.index_file)) (λ i y. same label key y i)
      ∙ ids_below (test_in s label key) (high s format.index_file) (high t format.index_file) grows (past_none label key)

  abbrev names : ℕ → Rec
  names = rec_at s format.names_file

  from_same : (label key : ℕ) → index_from (kind_at t format.index_file) (rec_at t format.index_file) (high t format.index_file) names label key ≡ index_from
      (kind_at s format.index_file) (rec_at s format.index_file) (high s format.index_file) names label key
  from_same label key = ap (λ (found : List ℕ). if nat_lt 0 (length found) then Some (record { label = text_of (names label); key = text_of (names key) }) else
      None) (found_same label key)

  pub graph_indexes : indexes_of t ≡ indexes_of s
  graph_indexes =
      (λ i. indexes_from (kind_at t format.index_file) (rec_at t format.index_file) (high t format.index_file) (names_rec i) (names_mark i))
      ∙ ap (λ (from : ℕ → ℕ → Option Index). flat_map (λ label. collect (from label) (high s format.names_file))
      (ids (λ label. true) (high s format.names_file))) (λ i label key. from_same label key i)

-- tests of a record whose kind stays, and which stays if it is a definition
test_kept : (s t : Records) (label key y : ℕ) → kind_at t format.index_file y ≡ kind_at s format.index_file y
    → (kind_at s format.index_file y ≡ format.definition → index_rec t y ≡ index_rec s y) → test_in t label key y ≡ test_in s label key y
test_kept s t label key y kinds stays = ⊎_elim
    (λ (is : kind_at s format.index_file y ≡ format.definition). let rec = stays is in
    λ i. nat_eq (kinds i) format.definition && (nat_eq (field 4 (rec i) format.definition_label) label && nat_eq (field 4 (rec i) format.definition_key) key))
    (λ (other : kind_at s format.index_file y ≢ format.definition). not_defined t label key y (λ e. other (sym kinds ∙ e)) ∙ sym
    (not_defined s label key y other))
    (nat_cases (kind_at s format.index_file y) format.definition)

test_none : (s t : Records) (label key y : ℕ) → kind_at s format.index_file y ≢ format.definition → kind_at t format.index_file y ≢ format.definition
    → test_in t label key y ≡ test_in s label key y
test_none s t label key y was is = not_defined t label key y is ∙ sym (not_defined s label key y was)

live_some : (s : Records) (y : ℕ) → y < high s format.index_file → y ≢ format.nil
live_some s y low e = let fits = high_fits s format.index_file in omega (arith, low, e, fits)

defined_low : (s : Records) (y : ℕ) → kind_at s format.index_file y ≡ format.definition → y < high s format.index_file
defined_low s y is = kind_below (high s format.index_file) (index_rec s y) y (λ e. omega (arith, e, is))

-- ---- an entry came

module _ (s t : Records) (x hid place node hash : ℕ) (made : IsEntryMade s t x hid place node hash) (heads : kind_at s format.index_file hid ≡ format.heads)
    (begins : field 4 (index_rec s hid) place ≢ format.nil → kind_at s format.index_file (field 4 (index_rec s hid) place) ≡ format.indexed)
    (behind : 4 ≤ place) where
  abbrev first : ℕ
  first = field 4 (index_rec s hid) place

  made_byte : (y : ℕ) → y ≢ x → y ≢ format.nil → field 1 (index_rec t y) format.kind ≡ field 1 (index_rec s y) format.kind
  made_byte y ne some = ⊎_elim
      (λ (e : y ≡ hid). ap (λ z. field 1 (index_rec t z) format.kind) e ∙ ap (λ (r : Rec). field 1 r format.kind) made.head
      ∙ field-with_field_other 4 (index_rec s hid) place x 1 format.kind (omega arith) (inr (omega (arith, behind)))
      ∙ ap (λ z. field 1 (index_rec s z) format.kind) (sym e))
      (λ (apart : y ≢ hid). ⊎_elim
      (λ (e : y ≡ first). ap (λ z. field 1 (index_rec t z) format.kind) e ∙ ap (λ (r : Rec). field 1 r format.kind) (made.after (λ none. some (e ∙ none)))
      ∙ field-with_field_other 4 (index_rec s first) format.indexed_previous x 1 format.kind (omega arith) (inr (omega arith))
      ∙ ap (λ z. field 1 (index_rec s z) format.kind) (sym e))
      (λ (far : y ≢ first). ap (λ (r : Rec). field 1 r format.kind) (made.others y ne far apart)) (nat_cases y first))
      (nat_cases y hid)

  made_kind : (y : ℕ) → y ≢ x → kind_at t format.index_file y ≡ kind_at s format.index_file y
  made_kind y ne = ⊎_elim
      (λ (lt : y < high t format.index_file).
      let under = made.only y ne lt in
      kind_low (high t format.index_file) (index_rec t y) y lt ∙ made_byte y ne (live_some t y lt)
      ∙ sym (kind_low (high s format.index_file) (index_rec s y) y under))
      (λ (ge : high t format.index_file ≤ y).
      let grows = made.grows in
      kind_high (high t format.index_file) (index_rec t y) y ge ∙ sym (kind_high (high s format.index_file) (index_rec s y) y (omega (arith, grows, ge))))
      (cases_lt y (high t format.index_file))

  made_stays : (y : ℕ) → y ≢ x → kind_at s format.index_file y ≡ format.definition → index_rec t y ≡ index_rec s y
  made_stays y ne is = made.others y ne
      (λ e. let some : first ≢ format.nil = λ none. live_some s y (defined_low s y is) (e ∙ none) in let k = begins some in let q = ap
      (kind_at s format.index_file) e in omega (arith, is, k, q))
      (λ e. let q = ap (kind_at s format.index_file) e in omega (arith, is, heads, q))

  made_tests : (label key y : ℕ) → test_in t label key y ≡ test_in s label key y
  made_tests label key y = ⊎_elim
      (λ (e : y ≡ x). test_none s t label key y
      (λ is. let k = made.fresh in let q = ap (kind_at s format.index_file) e in omega (arith, is, k, q))
      (λ is. let k = made.kind in let q = ap (kind_at t format.index_file) e in omega (arith, is, k, q)))
      (λ (ne : y ≢ x). test_kept s t label key y (made_kind y ne) (made_stays y ne)) (nat_cases y x)

  pub made_graph : SameElsewhere s t → indexes_of t ≡ indexes_of s
  made_graph elsewhere = graph_indexes s t elsewhere made.grows made_tests

-- ---- an entry went

module _ (s t : Records) (x hid place : ℕ) (went : IsEntryGone s t x hid place) (entry : kind_at s format.index_file x ≡ format.indexed)
    (heads : kind_at s format.index_file hid ≡ format.heads)
    (next_is : next_entry s x ≢ format.nil → kind_at s format.index_file (next_entry s x) ≡ format.indexed)
    (previous_is : previous_entry s x ≢ format.nil → kind_at s format.index_file (previous_entry s x) ≡ format.indexed) (behind : 4 ≤ place) where
  abbrev after : ℕ
  after = next_entry s x

  abbrev before : ℕ
  before = previous_entry s x

  gone_byte : (y : ℕ) → y ≢ x → y ≢ format.nil → field 1 (index_rec t y) format.kind ≡ field 1 (index_rec s y) format.kind
  gone_byte y ne some = ⊎_elim
      (λ (e : y ≡ after). ap (λ z. field 1 (index_rec t z) format.kind) e ∙ ap (λ (r : Rec). field 1 r format.kind) (went.after (λ none. some (e ∙ none)))
      ∙ field-with_field_other 4 (index_rec s after) format.indexed_previous before 1 format.kind (omega arith) (inr (omega arith))
      ∙ ap (λ z. field 1 (index_rec s z) format.kind) (sym e))
      (λ (not_after : y ≢ after). ⊎_elim
      (λ (e : y ≡ before). ap (λ z. field 1 (index_rec t z) format.kind) e ∙ ap (λ (r : Rec). field 1 r format.kind) (went.before (λ none. some (e ∙ none)))
      ∙ field-with_field_other 4 (index_rec s before) format.indexed_next after 1 format.kind (omega arith) (inr (omega arith))
      ∙ ap (λ z. field 1 (index_rec s z) format.kind) (sym e))
      (λ (not_before : y ≢ before). ⊎_elim
      (λ (e : y ≡ hid). ⊎_elim
      (λ (none : before ≡ format.nil). ap (λ z. field 1 (index_rec t z) format.kind) e ∙ ap (λ (r : Rec). field 1 r format.kind) (went.head none)
      ∙ field-with_field_other 4 (index_rec s hid) place after 1 format.kind (omega arith) (inr (omega (arith, behind)))
      ∙ ap (λ z. field 1 (index_rec s z) format.kind) (sym e))
      (λ (one : before ≢ format.nil). ap (λ (r : Rec). field 1 r format.kind) (went.others y ne not_after not_before (λ none. absurd (one none))))
      (nat_cases before format.nil))
      (λ (not_hid : y ≢ hid). ap (λ (r : Rec). field 1 r format.kind) (went.others y ne not_after not_before (λ none. not_hid))) (nat_cases y hid))
      (nat_cases y before))
      (nat_cases y after)

  gone_kind : (y : ℕ) → y ≢ x → kind_at t format.index_file y ≡ kind_at s format.index_file y
  gone_kind y ne = ⊎_elim
      (λ (lt : y < high s format.index_file). kind_kept s t y went.mark (gone_byte y ne (live_some s y lt)))
      (λ (ge : high s format.index_file ≤ y).
      let mark = went.mark in
      kind_high (high t format.index_file) (index_rec t y) y (omega (arith, mark, ge)) ∙ sym (kind_high (high s format.index_file) (index_rec s y) y ge))
      (cases_lt y (high s format.index_file))

  gone_stays : (y : ℕ) → y ≢ x → kind_at s format.index_file y ≡ format.definition → index_rec t y ≡ index_rec s y
  gone_stays y ne is =
      let some = live_some s y (defined_low s y is) in
      went.others y ne
      (λ e. let k = next_is (λ none. some (e ∙ none)) in let q = ap (kind_at s format.index_file) e in omega (arith, is, k, q))
      (λ e. let k = previous_is (λ none. some (e ∙ none)) in let q = ap (kind_at s format.index_file) e in omega (arith, is, k, q))
      (λ none e. let q = ap (kind_at s format.index_file) e in omega (arith, is, heads, q))

  gone_tests : (label key y : ℕ) → test_in t label key y ≡ test_in s label key y
  gone_tests label key y = ⊎_elim
      (λ (e : y ≡ x). test_none s t label key y
      (λ is. let q = ap (kind_at s format.index_file) e in omega (arith, is, entry, q))
      (λ is. let k = went.gone in let q = ap (kind_at t format.index_file) e in omega (arith, is, k, q)))
      (λ (ne : y ≢ x). test_kept s t label key y (gone_kind y ne) (gone_stays y ne)) (nat_cases y x)

  pub gone_graph : SameElsewhere s t → indexes_of t ≡ indexes_of s
  gone_graph elsewhere = graph_indexes s t elsewhere (let mark = went.mark in omega (arith, mark)) gone_tests

-- nothing changed
pub same_graph : (s t : Records) → t ≡ s → indexes_of t ≡ indexes_of s
same_graph s t same = ap indexes_of same
