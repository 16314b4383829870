-- A walk of a bucket, so far.
use Rattle.std.proofs.Common.{◌≡◌, ◌≢◌, ℕ, ◌+◌, ◌*◌, ◌≤◌, Bool, true, false, cond, List, [], ◌∷◌, ◌++◌, length, map}
use Rattle.std.proofs.Common.{refl, ap, sym, ◌∙◌, subst, inl, inr, arith, append_assoc}
use Rattle.std.specs.List.{filter}
use Rattle.plain_graph.specs.declared.value.Value.{Value}
use Rattle.rec_bytes.specs.Format as format
use Rattle.rec_bytes.specs.Space.{State}
use Rattle.store_rules.specs.Chains.{In, IsWalk}
use Rattle.store_rules.specs.Indexes.{entry_node, next_entry}
use Rattle.store_rules.specs.Views.{Records}
use Rattle.store_rules.proofs.RowLaws.{append_none}
use Rattle.prop_store.specs.Reading.{ReadsAtMost}
use Rattle.prop_store.proofs.ReadCounts.{reads_none, reads_then}
use Rattle.prop_index.specs.Gathering.{AreEntries, count_hashed, is_hashed, is_picked, nodes_with}

pub nodes_with-cons : (records : Records) (key hash : ℕ) (value : Value) (x : ℕ) (xs : List ℕ)
    → nodes_with records key hash value (x ∷ xs) ≡ cond (is_picked records key hash value x) (entry_node records x ∷ []) [] ++ nodes_with records key hash value
    xs
nodes_with-cons records key hash value x xs = by (is_picked records key hash value x)
  where
    by : (b : Bool) → map (entry_node records) (cond b (x ∷ filter (is_picked records key hash value) xs) (filter (is_picked records key hash value) xs))
        ≡ cond b (entry_node records x ∷ []) [] ++ map (entry_node records) (filter (is_picked records key hash value) xs)
    by true = refl
    by false = refl

pub count_hashed-cons : (records : Records) (hash x : ℕ) (xs : List ℕ) → count_hashed records hash (x ∷ xs) ≡ cond (is_hashed records hash x) 1 0 + count_hashed
    records hash xs
count_hashed-cons records hash x xs = by (is_hashed records hash x)
  where
    by : (b : Bool) → length (cond b (x ∷ filter (is_hashed records hash) xs) (filter (is_hashed records hash) xs)) ≡ cond b 1 0 + length
        (filter (is_hashed records hash) xs)
    by true = omega arith
    by false = omega arith

-- Those that are left, of which there were so many before, and the nodes of those passed.
pub record IsGathered (old now : State) (key hash : ℕ) (value : Value) (xs : List ℕ) (at count : ℕ) (nodes : List ℕ) : Type 0 where
  pub rest : List ℕ
  pub walk : IsWalk (next_entry old.records) at rest
  pub counted : length rest + count ≡ length xs
  pub part : (x : ℕ) → In x rest → In x xs
  pub gathered : nodes ++ nodes_with old.records key hash value rest ≡ nodes_with old.records key hash value xs
  pub hashed : ℕ
  pub all_hashed : hashed + count_hashed old.records hash rest ≡ count_hashed old.records hash xs
  pub reads : ReadsAtMost (count + 55 * hashed) old now

pub gather_begins : (s : State) (key hash : ℕ) (value : Value) (xs : List ℕ) (first : ℕ) (nodes : List ℕ) → nodes ≡ [] → AreEntries s first xs
    → IsGathered s s key hash value xs first 0 nodes
gather_begins s key hash value xs first nodes none are = record {
  rest = xs;
  walk = are.walk;
  counted = omega arith;
  part = λ x i. i;
  gathered = ap (λ ns. ns ++ nodes_with s.records key hash value xs) none;
  hashed = 0;
  all_hashed = omega arith;
  reads = reads_none _ s;
}

module _ (old now : State) (key hash : ℕ) (value : Value) (xs : List ℕ) (at count : ℕ) (nodes : List ℕ)
    (h : IsGathered old now key hash value xs at count nodes) where
  -- the next one is among them, and one is left for it
  pub gather_here : at ≢ format.nil → In at xs × (count + 1 ≤ length xs)
  gather_here some = by h.rest h.walk h.counted h.part
    where
      by : (rest : List ℕ) → IsWalk (next_entry old.records) at rest → length rest + count ≡ length xs → ((x : ℕ) → In x rest → In x xs) → In at xs
          × (count + 1 ≤ length xs)
      by [] walk counted part = absurd (some walk)
      by (x ∷ ys) walk counted part = (part at (inl walk.0), omega arith)

  -- where no more are left the chain has ended
  pub gather_ends : length xs ≤ count → at ≡ format.nil
  gather_ends many = by h.rest h.walk h.counted
    where
      by : (rest : List ℕ) → IsWalk (next_entry old.records) at rest → length rest + count ≡ length xs → at ≡ format.nil
      by [] walk counted = walk
      by (x ∷ ys) walk counted = absurd (omega arith)

  -- at the end all were passed
  pub gather_over : at ≡ format.nil → nodes ≡ nodes_with old.records key hash value xs
  gather_over end = by h.rest h.walk h.gathered
    where
      by : (rest : List ℕ) → IsWalk (next_entry old.records) at rest → nodes ++ nodes_with old.records key hash value rest ≡ nodes_with old.records key hash
          value xs → nodes ≡ nodes_with old.records key hash value xs
      by [] walk all = sym (append_none nodes) ∙ all
      by (x ∷ ys) walk all = absurd (walk.1 (sym walk.0 ∙ end))

  -- its reads, wherever it ends
  pub gather_cost : ReadsAtMost (length xs + 55 * count_hashed old.records hash xs) old now
  gather_cost =
      let counted = h.counted in
      let all = h.all_hashed in
      reads_then (count + 55 * h.hashed) 0 (length xs + 55 * count_hashed old.records hash xs) old now now (omega (arith, counted, all)) h.reads
      (reads_none 0 now)

  -- one more was passed
  pub gather_on : (after : State) (to : ℕ) (more : List ℕ) → at ≢ format.nil → to ≡ next_entry old.records at
      → more ≡ nodes ++ cond (is_picked old.records key hash value at) (entry_node old.records at ∷ []) []
      → ReadsAtMost (1 + 55 * cond (is_hashed old.records hash at) 1 0) now after → IsGathered old after key hash value xs to (count + 1) more
  gather_on after to more some next added reads = by h.rest h.walk h.counted h.part h.gathered h.all_hashed
    where
      by : (rest : List ℕ) → IsWalk (next_entry old.records) at rest → length rest + count ≡ length xs → ((x : ℕ) → In x rest → In x xs)
          → nodes ++ nodes_with old.records key hash value rest ≡ nodes_with old.records key hash value xs
          → h.hashed + count_hashed old.records hash rest ≡ count_hashed old.records hash xs → IsGathered old after key hash value xs to (count + 1) more
      by [] walk counted part gathered all = absurd (some walk)
      by (x ∷ ys) walk counted part gathered all =
          let one = count_hashed-cons old.records hash x ys in
          let here : is_hashed old.records hash at ≡ is_hashed old.records hash x = ap (is_hashed old.records hash) walk.0 in
          let counts : Bool → ℕ = λ b. cond b 1 0 in
          let same : counts (is_hashed old.records hash at) ≡ counts (is_hashed old.records hash x) = ap counts here in
          record {
            rest = ys;
            walk = subst (λ n. IsWalk (next_entry old.records) n ys) (ap (next_entry old.records) (sym walk.0) ∙ sym next) walk.2;
            counted = omega arith;
            part = λ y i. part y (inr i);
            gathered = ap (λ ns. ns ++ nodes_with old.records key hash value ys)
                (added ∙ ap (λ z. nodes ++ cond (is_picked old.records key hash value z) (entry_node old.records z ∷ []) []) walk.0)
                ∙ append_assoc nodes _ _ ∙ ap (λ ns. nodes ++ ns) (sym (nodes_with-cons old.records key hash value x ys)) ∙ gathered;
            hashed = h.hashed + cond (is_hashed old.records hash at) 1 0;
            all_hashed = omega (arith, one, same, all);
            reads = reads_then (count + 55 * h.hashed) (1 + 55 * cond (is_hashed old.records hash at) 1 0) _ old now after (omega arith) h.reads reads;
          }
