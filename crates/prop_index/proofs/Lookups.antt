-- A lookup in a store.
use Rattle.std.proofs.Common.{◌≡◌, ◌≢◌, ◌⊎◌, ⊎_elim, ◌<◌, ◌+◌, ◌*◌, ℕ, true, List, [], ◌∷◌, length, refl, sym, ◌∙◌, subst, inl, inr, arith}
use Rattle.std.specs.List.Sorted.{IsNonDecreasing, IsPermutation}
use Rattle.std.specs.Prelude.{Result, Err, IfErr}
use Rattle.std.specs.Result.{IsErrAnd}
use Rattle.std.proofs.lemmas.Result.{err_from_is_err_and}
use Rattle.plain_graph.specs.declared.value.Value.{Value}
use Rattle.rec_bytes.specs.declared.fault.Fault.{Fault}
use Rattle.rec_bytes.specs.declared.fault.Fault.TheVariants as fault
use Rattle.rec_bytes.specs.Fault as faults
use Rattle.rec_bytes.specs.Format as format
use Rattle.rec_bytes.specs.RecordFiles.{is_meta_file, room_of}
use Rattle.rec_bytes.specs.Space.{SameButReads, State, meta_of}
use Rattle.id_freelist.specs.Taking.{IsRanged}
use Rattle.rec_bytes.specs.declared.shape.Shape.{Shape}
use Rattle.prop_index.specs.Blaming as blaming
use Rattle.store_rules.specs.Chains.{In, IsWalk}
use Rattle.store_rules.specs.Hashes.{bucket_of, hash_of}
use Rattle.store_rules.specs.Indexes.{IsIndexed, entry_node, first_definition, indexed_key, indexed_label, next_definition, wanted_in}
use Rattle.store_rules.specs.Ranges.{AreInRange}
use Rattle.store_rules.specs.Views.{Records, high, kind_at, rec_at}
use Rattle.store_rules.proofs.NumberLaws.{nat_cases}
use Rattle.store_rules.proofs.PropertyWalks.{walk_is}
use Rattle.store_rules.proofs.Shapes.{high_most}
use Rattle.store_rules.proofs.ViewLaws.{kind_below}
use Rattle.prop_store.specs.Changing.{HasElement}
use Rattle.prop_store.specs.Owner.{IsOwner}
use Rattle.prop_store.specs.Reading.{ReadsAtMost}
use Rattle.prop_store.proofs.ElementChanges.{has_properties}
use Rattle.prop_store.proofs.ElementGraphs.{listed_at, owns_listed}
use Rattle.prop_store.proofs.ReadCounts.{reads_more, reads_then}
use Rattle.prop_index.specs.Collecting.{AreNodesReadable}
use Rattle.prop_index.specs.Finding.{AreOfOthers, IsPair}
use Rattle.prop_index.specs.Gathering.{AreEntries, AreReadable, IsListedNode, count_hashed, node_owner, nodes_with}
use Rattle.prop_index.specs.Heads.{IsFoundBucket}
use Rattle.prop_index.specs.Looking.{BlamesBroken, IsLookupCause, IsRefusal, ReadsForEither, ReadsForLookup, ReadsForRefusal, found_in, of_fault}
use Rattle.prop_index.specs.Reading.{HasRoom}
use Rattle.prop_index.specs.declared.heads.Bucket.{Bucket}
use Rattle.prop_index.specs.declared.lookup_fault.LookupFault.{LookupFault}
use Rattle.prop_index.proofs.Buckets.{bucket-chain, chain-entries, chain-reread}
use Rattle.prop_index.proofs.Found.{found_sorted, node_of_entry, walk}
use Rattle.prop_index.proofs.Reread.{node_after, room_after, same_records}

-- a fault that is no damage is a refusal
pub refusal_of : (records : Records) (label key : ℕ) (f : Fault) → faults.NotDamaged {T = ℕ} (Err f) → IsRefusal records label key (of_fault f)
refusal_of records label key fault.Memory is = tt
refusal_of records label key fault.Disk is = tt
refusal_of records label key (fault.Damaged damage) is = is

fault_caused : (records : Records) (label key : ℕ) (f : Fault) → IsLookupCause records label key (of_fault f)
fault_caused records label key fault.Memory = tt
fault_caused records label key fault.Disk = tt
fault_caused records label key (fault.Damaged damage) = tt

-- a fault of a read says nothing of the pair
pub caused_exit : {T : Type 0} (records : Records) (label key : ℕ) (r : Result T LookupFault) (f : Fault) → IsErrAnd r (λ e. e ≡ of_fault f)
    → IfErr r (IsLookupCause records label key)
caused_exit {T = T} records label key r f h =
    let p = err_from_is_err_and r h in
    subst (λ (z : Result T LookupFault). IfErr z (IsLookupCause records label key)) (sym p.1)
    (subst (IsLookupCause records label key) (sym p.2) (fault_caused records label key f))

pub refused_exit : {T U : Type 0} (records : Records) (label key : ℕ) (r : Result T LookupFault) (q : Result U Fault) (f : Fault) → q ≡ Err f
    → IsErrAnd r (λ e. e ≡ of_fault f) → faults.NotDamaged q
    → IfErr r (IsRefusal records label key)
refused_exit {T = T} records label key r q f is h sound =
    let p = err_from_is_err_and r h in
    subst (λ (z : Result T LookupFault). IfErr z (IsRefusal records label key)) (sym p.1)
    (subst (IsRefusal records label key) (sym p.2) (refusal_of records label key f (subst faults.NotDamaged is sound)))

module _ (s : State) (store : IsIndexed s.records s.shape) where
  -- any list of the definitions is theirs
  pub definitions_are : (ds : List ℕ) → IsWalk (next_definition s.records) (first_definition s.records) ds → ds ≡ store.indexes.definitions
  definitions_are ds walked = walk_is (next_definition s.records) (first_definition s.records) ds store.indexes.definitions walked store.indexes.walk

  pub has_room : (file : ℕ) → is_meta_file file ≡ true → HasRoom s file
  has_room file is = let ranges : AreInRange s.records s.shape = store.store.ranges in (ranges.metas file is).high

  pub has_range : IsRanged (meta_of s format.index_file) (room_of s.shape format.index_file)
  has_range = let ranges : AreInRange s.records s.shape = store.store.ranges in let is = ranges.metas format.index_file refl in record {
    mark = is.high;
    first =
        is.free;
  }

  -- a node in use can be read
  node_listed : (n : ℕ) → kind_at s.records format.nodes_file n ≢ format.free_kind → IsListedNode s n
  node_listed n used =
      let low : n < high s.records format.nodes_file = kind_below (high s.records format.nodes_file) (rec_at s.records format.nodes_file n) n used in
      let most = high_most s.records s.shape format.nodes_file store.store.ranges refl in
      let is : IsOwner (node_owner n) = record { key = record { file = refl; id = omega arith }; file = inl refl; place = refl } in
      let has : HasElement s (node_owner n) = record { store = store.store; used = used } in
      let es = listed_at s (node_owner n) is has in
      let owned = has_properties s (node_owner n) es (owns_listed s (node_owner n) is has) in
      record { room = has_room format.nodes_file refl; low = low; used = used; properties = es; has = owned }

  -- each node can be read
  pub nodes_readable : AreNodesReadable s
  nodes_readable = record { room = has_room format.nodes_file refl; each = node_listed }

  -- ---- the bucket that was found
  module _ (label key : ℕ) (value : Value) (hash : ℕ) (hashed : hash ≡ hash_of value) (bucket : Bucket)
      (found : IsFoundBucket s.records store.indexes.definitions label key hash bucket)
      (z : State) (same : SameButReads s z) where
    abbrev d : ℕ
    d = found.definition

    abbrev pub entries : List ℕ
    entries = store.indexes.lists d (bucket_of hash)

    pub are_entries : AreEntries z bucket.first entries
    are_entries = chain-entries z bucket.first entries (chain-reread s z bucket.first entries same (bucket-chain s.records (wanted_in s.records) store.indexes
        label key hash bucket found))

    pub are_readable : AreReadable z hash entries
    are_readable = record {
      room = room_after s z format.index_file same (has_room format.index_file refl);
      nodes = λ x i e. subst (λ (r : Records). IsListedNode z (entry_node r x)) (sym (same_records s z same))
          (node_after s z (entry_node s.records x) same (node_listed (entry_node s.records x) (node_of_entry s store d found.listed value x
          (subst (λ h. In x (store.indexes.lists d (bucket_of h))) hashed i))));
    }

    pub found_is : (nodes sorted : List ℕ) → nodes ≡ nodes_with z.records key hash value entries → IsPermutation nodes sorted → IsNonDecreasing sorted
        → sorted ≡ found_in s.records label key value
    found_is nodes sorted is moved ascends =
        let nodes_are : nodes ≡ nodes_with s.records (indexed_key s.records d) (hash_of value) value (store.indexes.lists d (bucket_of (hash_of value)))
        = is ∙ (λ i. nodes_with (same_records s z same i) (sym found.pair.1 i) (hashed i) value (store.indexes.lists d (bucket_of (hashed i)))) in
        found_sorted s store d found.listed value sorted (subst (λ (ns : List ℕ). IsPermutation ns sorted) nodes_are moved) ascends
        ∙ (λ i. found_in s.records (found.pair.0 i) (found.pair.1 i) value)

    pub lookup_reads : (after : State) → ReadsAtMost (2 + length store.indexes.definitions) s z
        → ReadsAtMost (length entries + 55 * count_hashed z.records hash entries) z after
        → ReadsForLookup label key value s after
    lookup_reads after first later =
        let xs = store.indexes.lists d (bucket_of (hash_of value)) in
        let gathered : ReadsAtMost (length xs + 55 * count_hashed s.records (hash_of value) xs) z after
        = subst (λ (n : ℕ). ReadsAtMost n z after)
        (λ i. length (store.indexes.lists d (bucket_of (hashed i))) + 55 * count_hashed (same_records s z same i) (hashed i) (store.indexes.lists d
        (bucket_of (hashed i)))) later in
        record {
          definitions = store.indexes.definitions;
          walk = store.indexes.walk;
          definition = d;
          listed = found.listed;
          pair = found.pair;
          entries = xs;
          bucket = walk s store d found.listed value;
          reads = reads_then (2 + length store.indexes.definitions) (length xs + 55 * count_hashed s.records (hash_of value) xs) _ s z after (omega arith) first
              gathered;
        }

-- The pair has a definition among these.
record IsPairListed (records : Records) (ds : List ℕ) (label key : ℕ) : Type 0 where
  pub definition : ℕ
  pub listed : In definition ds
  pub pair : IsPair records label key definition

-- so it is, or all are of others
pair_listed : (records : Records) (label key : ℕ) (ds : List ℕ) → IsPairListed records ds label key ⊎ AreOfOthers records ds label key
pair_listed records label key [] = inr (λ d i. elim i [ ])
pair_listed records label key (e ∷ es) = by (nat_cases (indexed_label records e) label) (nat_cases (indexed_key records e) key)
    (pair_listed records label key es)
  where
    past : (¬ IsPair records label key e) → IsPairListed records es label key ⊎ AreOfOthers records es label key → IsPairListed records (e ∷ es) label key
        ⊎ AreOfOthers records (e ∷ es) label key
    past other (inl h) = inl (record { definition = h.definition; listed = inr h.listed; pair = h.pair })
    past other (inr h) = inr (λ d i. ⊎_elim (λ (at : d ≡ e). subst (λ x. ¬ IsPair records label key x) (sym at) other) (λ (j : In d es). h d j) i)

    by : (indexed_label records e ≡ label) ⊎ (indexed_label records e ≢ label) → (indexed_key records e ≡ key) ⊎ (indexed_key records e ≢ key)
        → IsPairListed records es label key ⊎ AreOfOthers records es label key → IsPairListed records (e ∷ es) label key
        ⊎ AreOfOthers records (e ∷ es) label key
    by (inl same_label) (inl same_key) rest = inl (record { definition = e; listed = inl refl; pair = (same_label, same_key) })
    by (inl same_label) (inr other) rest = past (λ p. other p.1) rest
    by (inr other) same_key rest = past (λ p. other p.0) rest

-- the reads that end before a bucket is read
pub early_reads : (s : State) (store : IsIndexed s.records s.shape) (label key : ℕ) (value : Value) (z : State)
    → ReadsAtMost (2 + length store.indexes.definitions) s z
    → (AreOfOthers s.records store.indexes.definitions label key → ReadsAtMost (1 + length store.indexes.definitions) s z) → ReadsForEither label key value s z
early_reads s store label key value z most none = ⊎_elim
    (λ (h : IsPairListed s.records store.indexes.definitions label key). inl (record {
      definitions = store.indexes.definitions;
      walk = store.indexes.walk;
      definition = h.definition;
      listed = h.listed;
      pair = h.pair;
      entries = store.indexes.lists h.definition (bucket_of (hash_of value));
      bucket = walk s store h.definition h.listed value;
      reads = reads_more (2 + length store.indexes.definitions) _ s z (omega arith) most;
    }))
    (λ (h : AreOfOthers s.records store.indexes.definitions label key). inr (record {
      definitions = store.indexes.definitions;
      walk = store.indexes.walk;
      none = h;
      reads = none h;
    }))
    (pair_listed s.records label key store.indexes.definitions)

fault_reads : (label key : ℕ) (value : Value) (s z : State) (f : Fault) → ReadsForEither label key value s z → ReadsForRefusal label key value s z (of_fault f)
fault_reads label key value s z fault.Memory is = is
fault_reads label key value s z fault.Disk is = is
fault_reads label key value s z (fault.Damaged damage) is = is

pub reads_exit : {T : Type 0} (label key : ℕ) (value : Value) (s z : State) (r : Result T LookupFault) (f : Fault) → IsErrAnd r (λ e. e ≡ of_fault f)
    → ReadsForEither label key value s z
    → IfErr r (ReadsForRefusal label key value s z)
reads_exit {T = T} label key value s z r f h is =
    let p = err_from_is_err_and r h in
    subst (λ (q : Result T LookupFault). IfErr q (ReadsForRefusal label key value s z)) (sym p.1)
    (subst (ReadsForRefusal label key value s z) (sym p.2) (fault_reads label key value s z f is))

-- what reads blame
pub read_lookup : (records : Records) (shape : Shape) (f : Fault) → blaming.BlamesBroken records shape f → BlamesBroken records shape (of_fault f)
read_lookup records shape fault.Memory is = tt
read_lookup records shape fault.Disk is = tt
read_lookup records shape (fault.Damaged damage) is = is
