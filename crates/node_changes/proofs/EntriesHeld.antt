-- The values that a node has in indexes, and what they are of entries.
use Rattle.std.specs.Prelude.{is_some}
use Rattle.std.proofs.Common.{◌≡◌, ◌≢◌, ℕ, zero, suc, ◌+◌, ◌-◌, ◌<◌, ◌≤◌, nat_eq, Bool, true, false, ◌||◌, cond, Option}
use Rattle.std.proofs.Common.{None, Some, List, [], ◌∷◌, ◌++◌, length, map, take, get_or, inl, inr, refl, ap, sym, ◌∙◌}
use Rattle.std.proofs.Common.{arith}
use Rattle.std.proofs.lemmas.Bool.{true≢false}
use Rattle.plain_graph.specs.declared.value.Value.{Value}
use Rattle.prop_index.specs.declared.listing.IndexPair.{IndexPair}
use Rattle.prop_index.specs.Finding.{IsPair}
use Rattle.prop_index.specs.Listing.{pair_of}
use Rattle.prop_index.proofs.IndexCounts.{index_count}
use Rattle.prop_index.proofs.LinkRules.{free_list, store_room}
use Rattle.rec_bytes.specs.Format as format
use Rattle.rec_bytes.specs.Record.{field}
use Rattle.rec_bytes.specs.RecordFiles.{room_of}
use Rattle.rec_bytes.specs.Space.{State, meta_of}
use Rattle.store_rules.specs.Chains.{In}
use Rattle.store_rules.specs.Indexes.{AreIndexed, Entries, indexed_key, indexed_label, node_value}
use Rattle.store_rules.specs.Rows.{option_list}
use Rattle.store_rules.specs.Views.{Records, high, is_live, kind_at, rec_at}
use Rattle.store_rules.proofs.Counts.{length-ids}
use Rattle.store_rules.proofs.NumberLaws.{and_parts, eq_true}
use Rattle.node_changes.specs.Entries.{held_at, held_of, is_held, is_listed, is_pair, without_held, without_old}
use Rattle.node_changes.specs.declared.entries.IndexedValue.{IndexedValue}
use Rattle.node_changes.proofs.EntriesGone.{eq_of, listed_in, met, own_met}
use Rattle.store_rules.specs.Rules.{IsWhole}

-- a test that passes or doesn't
pub on_bool : {P : Type 0} (b : Bool) → (b ≡ true → P) → (b ≡ false → P) → P
on_bool true pass fail = pass refl
on_bool false pass fail = fail refl

pub none_of : {X : Type 0} (xs : List X) → length xs ≡ 0 → xs ≡ []
none_of [] e = refl
none_of (x ∷ xs) e = absurd (omega (arith, e))

-- the value of a key as one that is held
abbrev pub held_if : ℕ → ℕ → ℕ → Option Value → Option IndexedValue
held_if label key node None = None
held_if label key node (Some v) = Some (record { label = label; key = key; node = node; value = Some v })

-- A node in use holds the value that is met of the pair's key.
pub held_met : (records : Records) (label node : ℕ) (pair : IndexPair) → pair.label ≡ label → kind_at records format.nodes_file node ≢ 0
    → label ≡ field 4 (rec_at records format.nodes_file node) format.node_label → (o : Option Value) → met records node pair.key ≡ o
    → held_at records label node pair ≡ held_if label pair.key node o
held_met records label node pair same used is o here =
    rw (eq_true pair.label label same) (ap (λ (v : Option Value). cond (is_some v) (held_as v) nothing) (own_met records node label pair.key used is ∙ here)
    ∙ by o)
  where
    nothing : Option IndexedValue
    nothing = None

    held_as : Option Value → Option IndexedValue
    held_as v = Some (record { label = label; key = pair.key; node = node; value = v })

    by : (v : Option Value) → cond (is_some v) (held_as v) nothing ≡ held_if label pair.key node v
    by None = refl
    by (Some v) = refl

plus_one : (i : ℕ) → i + 1 ≡ suc i
plus_one i = omega arith

-- one pair more
held_next : (records : Records) (label node : ℕ) (pairs : List IndexPair) (i : ℕ) (d : IndexPair) → i < length pairs
    → held_of records label node (take (suc i) pairs) ≡ held_of records label node (take i pairs) ++ option_list (held_at records label node (get_or pairs i d))
held_next records label node [] i d lt = absurd (omega (arith, lt))
held_next records label node (x ∷ xs) zero d lt = one (is_held records label node x)
    (record { label = label; key = x.key; node = node; value = node_value records label x.key node })
  where
    one : (b : Bool) (h : IndexedValue) → cond b (h ∷ []) [] ≡ option_list (cond b (Some h) None)
    one true h = refl
    one false h = refl
held_next records label node (x ∷ xs) (suc i) d lt =
    on (is_held records label node x) (record { label = label; key = x.key; node = node; value = node_value records label x.key node })
    (held_of records label node (take (suc i) xs)) (held_of records label node (take i xs)) (option_list (held_at records label node (get_or xs i d)))
    (held_next records label node xs i d (omega (arith, lt)))
  where
    on : (b : Bool) (h : IndexedValue) (all one more : List IndexedValue) → all ≡ one ++ more → cond b (h ∷ all) all ≡ cond b (h ∷ one) one ++ more
    on true h all one more e = ap (λ (zs : List IndexedValue). h ∷ zs) e
    on false h all one more e = e

pub held_more : (records : Records) (label node : ℕ) (pairs : List IndexPair) (i : ℕ) (d : IndexPair) → i < length pairs
    → held_of records label node (take (i + 1) pairs) ≡ held_of records label node (take i pairs) ++ option_list (held_at records label node (get_or pairs i d))
held_more records label node pairs i d lt = ap (λ n. held_of records label node (take n pairs)) (plus_one i) ∙ held_next records label node pairs i d lt

pub option_few : (o : Option IndexedValue) → length (option_list o) ≤ 1
option_few None = omega arith
option_few (Some x) = omega arith

-- ---- they leave one after another

without_next : (wanted : Entries) (held : List IndexedValue) (i : ℕ) (d : IndexedValue) → i < length held
    → without_held wanted (take (suc i) held) ≡ without_old (without_held wanted (take i held)) (Some (get_or held i d))
without_next wanted [] i d lt = absurd (omega (arith, lt))
without_next wanted (x ∷ xs) zero d lt = refl
without_next wanted (x ∷ xs) (suc i) d lt = without_next (without_old wanted (Some x)) xs i d (omega (arith, lt))

pub without_more : (wanted : Entries) (held : List IndexedValue) (i : ℕ) (d : IndexedValue) → i < length held
    → without_held wanted (take (i + 1) held) ≡ without_old (without_held wanted (take i held)) (Some (get_or held i d))
without_more wanted held i d lt = ap (λ n. without_held wanted (take n held)) (plus_one i) ∙ without_next wanted held i d lt

-- ---- how many records are live

pub store_live : (s : State) → IsWhole s → (meta_of s format.index_file).live ≤ room_of s.shape format.index_file
store_live s store =
    let exact = (free_list s store).1.exact in
    let few = length-ids (is_live s.records format.index_file) (high s.records format.index_file) in
    let room = store_room s store in
    omega (arith, exact, few, room)

-- a pair that is listed is that of a definition
pub definition_of : (s : Records) (ds : List ℕ) (label key : ℕ) → is_listed (map (pair_of s) ds) label key ≡ true → (d : ℕ) × (In d ds × IsPair s label key d)
definition_of s [] label key is = absurd (true≢false (sym is))
definition_of s (d ∷ ds) label key is = by (is_pair label key (pair_of s d)) refl is (definition_of s ds label key)
  where
    by : (b : Bool) → is_pair label key (pair_of s d) ≡ b → (b || is_listed (map (pair_of s) ds) label key) ≡ true
        → (is_listed (map (pair_of s) ds) label key ≡ true → (x : ℕ) × (In x ds × IsPair s label key x)) → (x : ℕ) × (In x (d ∷ ds) × IsPair s label key x)
    by true at h later =
        let p = and_parts (nat_eq (indexed_label s d) label) (nat_eq (indexed_key s d) key) at in
        (d, (inl refl, (eq_of (indexed_label s d) label p.0, eq_of (indexed_key s d) key p.1)))
    by false at h later = let r = later h in (r.0, (inr r.1.0, r.1.1))

pub no_definition : (s : Records) (ds : List ℕ) (label key : ℕ) → is_listed (map (pair_of s) ds) label key ≡ false → (d : ℕ) → In d ds → ¬ IsPair s label key d
no_definition s ds label key none d i pair = true≢false (sym (listed_in s ds d label key i (sym pair.0) (sym pair.1)) ∙ none)

-- where one is live, one less is less
pub some_live : (s : State) (wanted : Entries) (ix : AreIndexed s.records wanted) → IsWhole s → (d : ℕ) → In d ix.definitions → (now : ℕ)
    → now ≡ (meta_of s format.index_file).live - 1 → now < (meta_of s format.index_file).live
some_live s wanted ix store d i now is =
    let free = free_list s store in
    let count = index_count s.records wanted ix free.0 free.1 in
    let some = in_some ix.definitions d i in
    omega (arith, is, count, some)
  where
    in_some : (ds : List ℕ) (d : ℕ) → In d ds → 0 < length ds
    in_some [] d i = elim i [ ]
    in_some (x ∷ xs) d i = omega arith
