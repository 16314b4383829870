-- The values of a map are in the order of their keys, as a sort by the keys leaves them.
use Rattle.std.proofs.Common.{All, find, nat_eq, ◌≡◌, ◌<◌, ℕ, ◌+◌, Bool, true, false, cond, None, Some, List, [], ◌∷◌}
use Rattle.std.proofs.Common.{map, option_map, inl, inr, refl, sym, ap, ◌∙◌, length, arith}
use Rattle.std.specs.FinMap as maps
use Rattle.std.specs.FinMap.Entries as entries
use Rattle.std.specs.Cmp.{IsStrictWeakOrder}
use Rattle.std.specs.Cmp.Lexicographic.{nat_list_cmp_total}
use Rattle.std.specs.Ordering.{is_eq, is_lt, ordering_reverse}
use Rattle.std.specs.declared.cmp.Ordering.{Ordering}
use Rattle.std.specs.declared.cmp.Ordering.TheVariants.{Less, Equal, Greater}
use Rattle.std.proofs.lemmas.List.{length-map}
use Rattle.std.proofs.lemmas.List.Sums.{sum_by-cons}
use Rattle.std.proofs.lemmas.Simd.{map-map}
use Rattle.std.specs.List.{sum_by}
use Rattle.plain_graph.specs.Properties.{blocks_in, blocks_of}
use Rattle.std.proofs.lemmas.List.Elements.{All-cons, All-nil}
use Rattle.std.proofs.lemmas.List.Sorted.{ranks_by}
use Rattle.plain_graph.specs.Sorting.{placed, sorted}
use Rattle.plain_graph.specs.declared.value.Value.{Value}
use Rattle.plain_graph.proofs.PropertyLaws.{AreApart, blocks_in-from_entries, len-from_entries, order}
use Rattle.prop_store.specs.Finding.{property_of, value_of}
use Rattle.prop_store.specs.Reading.{block_total, prop_of}
use Rattle.prop_store.specs.declared.prop.Prop.{Prop}
use Rattle.prop_store.proofs.Keys.{absent_key}
use Rattle.rec_bytes.specs.Format as format
use Rattle.rec_bytes.specs.declared.record.Rec.{Rec}
use Rattle.store_rules.specs.Chains.{In}
use Rattle.store_rules.specs.Properties.{AreOnce, Property, keys_of, map_of, named_property}
use Rattle.store_rules.specs.Rules.{AreNames}
use Rattle.store_rules.specs.Views.{Records, rec_at}
use Rattle.traversal_run.specs.KeyValues.{entry_below, named_entry, row_below}
use Rattle.traversal_run.specs.Viewing.{property_reads}
use Rattle.traversal_run.specs.declared.key_values.Named.{Named}
use Rattle.traversal_run.proofs.Owned.{find-named}

-- keys give an order of rows
pub rows_order : IsStrictWeakOrder row_below
rows_order = ranks_by nat_list_cmp_total (λ (row : Named). row.key.now)

abbrev Entry : Type 0
Entry = List ℕ × Value

-- the key of one entry is below that of another
abbrev below : Entry → Entry → Bool
below a b = is_lt (order a.0 b.0)

-- an entry of a new key is put where a sort places it
put-placed : (k : List ℕ) (v : Value) (es : List Entry) → entries.find order k es ≡ None → entries.put order k v es ≡ placed below (k, v) es
put-placed k v [] none = refl
put-placed k v (e ∷ es) none = by (order k e.0) (order e.0 k) (nat_list_cmp_total.antisymm e.0 k) (put-placed k v es) none
  where
    by : (o p : Ordering) → p ≡ ordering_reverse o → (entries.find order k es ≡ None → entries.put order k v es ≡ placed below (k, v) es)
        → cond (is_eq o) (Some e.1) (entries.find order k es) ≡ None
        → entries.by_order o ((k, v) ∷ e ∷ es) ((e.0, v) ∷ es) (e ∷ entries.put order k v es) ≡ cond (is_lt p) (e ∷ placed below (k, v) es) ((k, v) ∷ e ∷ es)
    by Less p is later lack = rw is refl
    by Equal p is later lack = absurd cc
    by Greater p is later lack = rw is (ap (λ rest. e ∷ rest) (later lack))

-- an empty map has no entries
no_entries : maps.entries (maps.empty {X = Value} {R = order}) ≡ []
no_entries = none (maps.entries (maps.empty {X = Value} {R = order})) (sym (maps.len-entries (maps.empty {X = Value} {R = order})) ∙ maps.len-empty order Value)
  where
    none : (es : List Entry) → length es ≡ 0 → es ≡ []
    none [] e = refl
    none (x ∷ es) e = absurd (omega arith)

-- so the entries of a map are those that it is made of, sorted
pub entries-from_entries : (es : List Entry) → AreApart es → maps.entries (maps.from_entries {R = order} es) ≡ sorted below es
entries-from_entries [] apart = no_entries
entries-from_entries (e ∷ es) apart =
    let lack = sym (maps.get-entries (maps.from_entries {R = order} es) e.0) ∙ maps.get-from_entries nat_list_cmp_total es e.0 ∙ apart.0 in
    maps.entries-insert nat_list_cmp_total (maps.from_entries {R = order} es) e.0 e.1
    ∙ put-placed e.0 e.1 (maps.entries (maps.from_entries {R = order} es)) lack
    ∙ ap (placed below e) (entries-from_entries es apart.1)

module _ (name_file : ℕ → Rec) (names : ℕ) (named : AreNames name_file names) where
  -- no text comes twice among the keys of an element
  are_apart : (es : List Property) → ((k : ℕ) → In k (keys_of es) → k < names) → AreOnce (keys_of es) → AreApart (map (named_property name_file) es)
  are_apart [] known once = tt
  are_apart (e ∷ es) known once = (
    find-named name_file names named es e.key (known e.key (inl refl)) (λ k i. known k (inr i)) ∙ ap (option_map (λ (p : Property). p.value))
        (absent_key es e.key once.0),
    are_apart es (λ k i. known k (inr i)) once.1,
  )

-- the rows in order are the entries of the map
pub entries-sorted : (records : Records) (names : ℕ) → AreNames (rec_at records format.names_file) names → (es : List Property)
    → ((k : ℕ) → In k (keys_of es) → k < names) → AreOnce (keys_of es)
    → sorted entry_below (map (named_entry records) (map prop_of es)) ≡ maps.entries (map_of (rec_at records format.names_file) es)
entries-sorted records names named es known once =
    let own = map (named_property (rec_at records format.names_file)) es in
    ap (sorted entry_below) (map-map (named_entry records) prop_of es) ∙ sym
    (entries-from_entries own (are_apart (rec_at records format.names_file) names named es known once))

-- what their values take
blocks_read : (name_file : ℕ → Rec) (es : List Property) → sum_by blocks_of (map (λ (e : Entry). e.1) (map (named_property name_file) es)) ≡ block_total
    (map prop_of es)
blocks_read name_file [] = refl
blocks_read name_file (e ∷ es) =
    sum_by-cons blocks_of e.value (map (λ (e : Entry). e.1) (map (named_property name_file) es))
    ∙ ap (λ (n : ℕ). blocks_of e.value + n) (blocks_read name_file es)
    ∙ sym (sum_by-cons (λ (prop : Prop). blocks_of prop.value) (prop_of e) (map prop_of es))

-- so many reads the properties of an element take as were read
pub reads-read : (records : Records) (names : ℕ) → AreNames (rec_at records format.names_file) names → (es : List Property)
    → ((k : ℕ) → In k (keys_of es) → k < names) → AreOnce (keys_of es)
    → length (map prop_of es) + block_total (map prop_of es) ≡ property_reads (map_of (rec_at records format.names_file) es)
reads-read records names named es known once =
    let name_file = rec_at records format.names_file in
    let apart = are_apart name_file names named es known once in
    let count : length (map prop_of es) ≡ maps.len (map_of name_file es) = length-map es prop_of ∙ sym (length-map es (named_property name_file))
    ∙ sym (len-from_entries (map (named_property name_file) es) apart) in
    let blocks : block_total (map prop_of es) ≡ blocks_in (map_of name_file es) = sym (blocks_read name_file es)
    ∙ sym (blocks_in-from_entries (map (named_property name_file) es) apart) in
    λ i. count i + blocks i

-- what holds of the keys holds of the properties that were read
pub all_known : (n : ℕ) (es : List Property) → ((k : ℕ) → In k (keys_of es) → k < n) → All (λ (prop : Prop). prop.key < n) (map prop_of es)
all_known n [] known = All-nil (λ (prop : Prop). prop.key < n)
all_known n (e ∷ es) known = All-cons (λ (prop : Prop). prop.key < n) (prop_of e) (map prop_of es) (known e.key (inl refl))
    (all_known n es (λ k i. known k (inr i)))

-- what is found among them is the value of the key
pub find-read : (key : ℕ) (es : List Property) → option_map (λ (prop : Prop). prop.value)
    (find (λ (prop : Prop). nat_eq prop.key key) (map prop_of es)) ≡ value_of es key
find-read key [] = refl
find-read key (e ∷ es) = by (nat_eq e.key key) (find-read key es)
  where
    by : (b : Bool) → option_map (λ (prop : Prop). prop.value) (find (λ (prop : Prop). nat_eq prop.key key) (map prop_of es)) ≡ value_of es key
        → option_map (λ (prop : Prop). prop.value) (cond b (Some (prop_of e)) (find (λ (prop : Prop). nat_eq prop.key key) (map prop_of es))) ≡ option_map
        (λ (p : Property). p.value) (cond b (Some e) (property_of es key))
    by true later = refl
    by false later = later
