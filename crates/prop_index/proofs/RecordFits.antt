-- Records of the index that are written fit its file.
use Rattle.std.proofs.Common.{◌≡◌, ◌≢◌, ◌⊎◌, ⊎_elim, ℕ, zero, suc, ◌+◌, ◌-◌, ◌*◌, drop, ◌<◌, ◌≤◌, ◌^◌, nat_lt, true}
use Rattle.std.proofs.Common.{false, List, [], ◌∷◌, refl, sym, ap, ◌∙◌, subst, inl, inr, arith}
use Rattle.std.specs.Prelude.{replicate}
use Rattle.std.specs.List.{list_any}
use Rattle.std.proofs.lemmas.List.{drop-replicate}
use Rattle.std.proofs.lemmas.Bool.{cases_lt}
use Rattle.std.proofs.lemmas.Bool.Decides.{nat_tests}
use Rattle.rec_bytes.specs.declared.record.Rec.{Rec}
use Rattle.rec_bytes.specs.Format as format
use Rattle.rec_bytes.specs.Record.{as_64, field, with_bytes, with_field, zeros}
use Rattle.rec_bytes.specs.Tables.{AllFit, Fields, is_clear}
use Rattle.rec_bytes.proofs.Numbers.{field-with_field_other, field-with_field_same}
use Rattle.rec_bytes.proofs.Tables.{field-with_fields, field-with_fields_other}
use Rattle.store_rules.specs.Ranges.{Fits, Layout, all_point, bytes_of, is_in, layout_by, may, must, pointers_from}
use Rattle.store_rules.proofs.LinkFits.{IsLow, low_points}
use Rattle.store_rules.proofs.NumberLaws.{lt_true, nat_cases}
use Rattle.id_freelist.proofs.Leaving.{byte_of_zeros}
use Rattle.prop_index.specs.DefinitionRecord.{empty_heads}
use Rattle.prop_index.specs.Linking.{entry_fields, entry_record}

-- a byte that is none of the first and none from a place on, so many
pub apart_bytes : (i size : ℕ) → list_any (is_in i) (bytes_of format.kind 1 ∷ bytes_of 4 size ∷ []) ≡ false → ((1 ≤ i) × (i < 4)) ⊎ (4 + size ≤ i)
apart_bytes i size out = ⊎_elim
    (λ (l : i < 4). inl ((let a : 1 ≤ i = grind (arith, nat_tests) in a), l))
    (λ (ge : 4 ≤ i). ⊎_elim (λ (l : i < 4 + size). absurd (let a : 4 + size ≤ i = grind (arith, nat_tests) in omega arith)) (λ (k : 4 + size ≤ i). inr k)
    (cases_lt i (4 + size)))
    (cases_lt i 4)

pub entry-kind : (node next hash : ℕ) → node < 2 ^ 32 → next < 2 ^ 32 → hash < 2 ^ 64 → field 1 (entry_record node next hash) format.kind ≡ format.indexed
entry-kind node next hash a b c = field-with_fields 1 zeros (entry_fields node next hash) format.kind format.indexed refl
    (omega arith, (a, (omega arith, (b, (c, tt))))) refl

module _ (marks : ℕ → ℕ) (node next hash : ℕ) (known : node < marks format.nodes_file) (node_fits : node < 2 ^ 32) (low : IsLow (marks format.index_file) next)
    (next_fits : next < 2 ^ 32) (hash_fits : hash < 2 ^ 64) where
  abbrev rec : Rec
  rec = entry_record node next hash

  abbrev table : Fields
  table = entry_fields node next hash

  fit : AllFit table
  fit = (omega arith, (node_fits, (omega arith, (next_fits, (hash_fits, tt)))))

  abbrev layout : Layout
  layout = record {
    pointers = must format.indexed_node format.nodes_file ∷ may format.indexed_previous format.index_file ∷ may format.indexed_next format.index_file ∷ [];
    used = bytes_of format.kind 1 ∷ bytes_of format.indexed_node 20 ∷ [];
  }

  kind_is : field 1 rec format.kind ≡ format.indexed
  kind_is = entry-kind node next hash node_fits next_fits hash_fits

  node_is : field 4 rec format.indexed_node ≡ node
  node_is = field-with_fields 4 zeros table format.indexed_node node refl fit refl

  previous_is : field 4 rec format.indexed_previous ≡ format.nil
  previous_is = field-with_fields 4 zeros table format.indexed_previous format.nil refl fit refl

  next_is : field 4 rec format.indexed_next ≡ next
  next_is = field-with_fields 4 zeros table format.indexed_next next refl fit refl

  points : all_point marks rec layout.pointers ≡ true
  points = rw (
    node_is,
    previous_is,
    next_is,
    lt_true node (marks format.nodes_file) known,
    low_points format.nil (marks format.index_file)
        (inl refl),
    low_points next (marks format.index_file) low,
  ) refl

  clear : (i : ℕ) → ((1 ≤ i) × (i < 4)) ⊎ (24 ≤ i) → is_clear i 1 table ≡ true
  clear i (inl k) = let a = k.0 in let b = k.1 in grind (arith, nat_tests)
  clear i (inr k) = grind (arith, nat_tests)

  -- an entry of a node that was given out, before another one or none
  pub fits-entry_record : Fits marks format.index_file rec
  fits-entry_record = record {
    layout = layout;
    is = ap (layout_by format.index_file rec) kind_is;
    point = points;
    blank = λ i lt out. field-with_fields_other 1 zeros table i (omega arith) (clear i (apart_bytes i 20 out)) ∙ byte_of_zeros i lt;
  }

-- ---- heads of empty buckets

-- four bytes 255 are no record
abbrev ff : Rec
ff = record { bytes = replicate 64 255 }

-- a number stands first in what is left behind a place
shift : (at : ℕ) (xs : List ℕ) → field 4 (record { bytes = xs }) at ≡ field 4 (record { bytes = drop at xs }) 0
unfolding field
shift at xs = refl

lead : (rest : List ℕ) → field 4 (record { bytes = 255 ∷ 255 ∷ 255 ∷ 255 ∷ rest }) 0 ≡ format.nil
unfolding field
lead rest = refl

ff-number : (at : ℕ) → at + 4 ≤ 64 → field 4 ff at ≡ format.nil
ff-number at fits =
    let four : 64 - at ≡ suc (suc (suc (suc (60 - at)))) = omega arith in
    shift at (replicate 64 255) ∙ ap (λ (xs : List ℕ). field 4 (record { bytes = xs }) 0) (drop-replicate at 64 255 ∙ ap (λ m. replicate m 255) four)
    ∙ lead (replicate (60 - at) 255)

-- each first entry is none
pub empty_heads-nil : (place : ℕ) → place < 15 → field 4 empty_heads (format.heads_first + 4 * place) ≡ format.nil
empty_heads-nil place low =
    field-with_field_other 1 (with_field 4 ff format.kind 0) format.kind format.heads 4 (format.heads_first + 4 * place) (omega arith) (inl (omega arith))
    ∙ field-with_field_other 4 ff format.kind 0 4 (format.heads_first + 4 * place) (omega arith) (inl (omega arith))
    ∙ ff-number (format.heads_first + 4 * place) (omega arith)

pub empty_heads-kind : field 1 empty_heads format.kind ≡ format.heads
empty_heads-kind = field-with_field_same 1 (with_field 4 ff format.kind 0) format.kind format.heads (omega arith) (omega arith)

one : field 1 empty_heads 1 ≡ 0
unfolding field with_field with_bytes as_64
one = refl

two : field 1 empty_heads 2 ≡ 0
unfolding field with_field with_bytes as_64
two = refl

three : field 1 empty_heads 3 ≡ 0
unfolding field with_field with_bytes as_64
three = refl

empty_heads-blank : (i : ℕ) → 1 ≤ i → i < 4 → field 1 empty_heads i ≡ 0
empty_heads-blank i low high = ⊎_elim (λ (e : i ≡ 1). ap (field 1 empty_heads) e ∙ one)
    (λ (ne : i ≢ 1). ⊎_elim (λ (e : i ≡ 2). ap (field 1 empty_heads) e ∙ two) (λ (nt : i ≢ 2). let e : i ≡ 3 = omega arith in ap (field 1 empty_heads) e
    ∙ three) (nat_cases i 2)) (nat_cases i 1)

nil_points : (marks : ℕ → ℕ) (n b : ℕ) → 1 ≤ b → b + n ≤ 16 → all_point marks empty_heads
    (pointers_from n (λ place. may place format.index_file) (4 * b)) ≡ true
nil_points marks zero b low fits = refl
nil_points marks (suc n) b low fits =
    let at : 4 * b ≡ format.heads_first + 4 * (b - 1) = omega arith in
    let none : field 4 empty_heads (4 * b) ≡ format.nil = ap (field 4 empty_heads) at ∙ empty_heads-nil (b - 1) (omega arith) in
    let rest : all_point marks empty_heads (pointers_from n (λ place. may place format.index_file) (4 * b + 4)) ≡ true
    = subst (λ at. all_point marks empty_heads (pointers_from n (λ place. may place format.index_file) at) ≡ true) (omega arith)
    (nil_points marks n (b + 1) (omega arith) (omega arith)) in
    rw (none, low_points format.nil (marks format.index_file) (inl refl), rest) refl

pub fits-empty_heads : (marks : ℕ → ℕ) → Fits marks format.index_file empty_heads
fits-empty_heads marks = record {
  layout = heads_table;
  is = ap (layout_by format.index_file empty_heads) empty_heads-kind;
  point = nil_points marks format.heads_count 1 (omega arith) (omega arith);
  blank = λ i lt out. ⊎_elim (λ (k : (1 ≤ i) × (i < 4)). empty_heads-blank i k.0 k.1) (λ (k : 64 ≤ i). absurd (omega arith)) (apart_bytes i 60 out);
}
  where
    heads_table : Layout
    heads_table = record {
      pointers = pointers_from format.heads_count (λ place. may place format.index_file) format.heads_first;
      used = bytes_of format.kind 1
          ∷ bytes_of format.heads_first 60 ∷ [];
    }

-- ---- a definition

must_points : (marks : ℕ → ℕ) (rec : Rec) (n b : ℕ) → ((c : ℕ) → b ≤ c → c < b + n → field 4 rec (4 * c) < marks format.index_file)
    → all_point marks rec (pointers_from n (λ place. must place format.index_file) (4 * b)) ≡ true
must_points marks rec zero b low = refl
must_points marks rec (suc n) b low =
    let here : nat_lt (field 4 rec (4 * b)) (marks format.index_file) ≡ true =
    lt_true (field 4 rec (4 * b)) (marks format.index_file) (low b (omega arith) (omega arith)) in
    let rest : all_point marks rec (pointers_from n (λ place. must place format.index_file) (4 * b + 4)) ≡ true
    = subst (λ at. all_point marks rec (pointers_from n (λ place. must place format.index_file) at) ≡ true) (omega arith)
    (must_points marks rec n (b + 1) (λ c le lt. low c (omega arith) (omega arith))) in
    rw (here, rest) refl

pub fits-definition : (marks : ℕ → ℕ) (rec : Rec) → field 1 rec format.kind ≡ format.definition → ((i : ℕ) → 1 ≤ i → i < 4 → field 1 rec i ≡ 0)
    → IsLow (marks format.index_file) (field 4 rec format.definition_next)
    → ((c : ℕ) → c < 12 → field 4 rec (format.definition_heads + 4 * c) < marks format.index_file) → Fits marks format.index_file rec
fits-definition marks rec kind blank next low = record {
  layout = definition_table;
  is = ap (layout_by format.index_file rec) kind;
  point = rw (
    low_points (field 4 rec format.definition_next) (marks format.index_file) next,
    heads,
  ) refl;
  blank = λ i lt out. ⊎_elim (λ (k : (1 ≤ i) × (i < 4)). blank i k.0 k.1) (λ (k : 64 ≤ i). absurd (omega arith)) (apart_bytes i 60 out);
}
  where
    definition_table : Layout
    definition_table = record {
      pointers = may format.definition_next format.index_file ∷ pointers_from format.definition_head_count (λ place. must place format.index_file)
          format.definition_heads;
      used = bytes_of format.kind 1 ∷ bytes_of format.definition_label 60 ∷ [];
    }

    heads : all_point marks rec (pointers_from format.definition_head_count (λ place. must place format.index_file) format.definition_heads) ≡ true
    heads = must_points marks rec 12 4 (λ c le lt. let e : 4 * c ≡ format.definition_heads + 4 * (c - 4) = omega arith in subst
        (λ at. field 4 rec at < marks format.index_file) (sym e) (low (c - 4) (omega arith)))
