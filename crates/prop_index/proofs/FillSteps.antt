-- One entry more of an index that is made.
use Rattle.std.proofs.Common.{◌≡◌, ◌≢◌, ⊎_elim, ℕ, ◌+◌, ◌*◌, ◌/◌, ◌%◌, ◌<◌, Bool, true, false, ◌&&◌, ◌||◌, nat_eq, List}
use Rattle.std.proofs.Common.{[], ◌∷◌, ◌++◌, length, refl, ap, sym, ◌∙◌, subst, inl, inr, arith, length-append, take}
use Rattle.std.proofs.Common.{get_or}
use Rattle.std.specs.Prelude.{Err}
use Rattle.std.specs.List.{AllPairs, Contains, list_any}
use Rattle.std.proofs.lemmas.List.{get_or-take, length-take-le}
use Rattle.std.proofs.lemmas.List.Folds.{list_any-append}
use Rattle.rec_bytes.specs.declared.record.Rec.{Rec}
use Rattle.rec_bytes.specs.Format as format
use Rattle.rec_bytes.specs.Record.{field}
use Rattle.rec_bytes.specs.declared.key.Key.{Key}
use Rattle.rec_bytes.specs.Space.{IsAmong, State, meta_of}
use Rattle.id_freelist.specs.TakeFault as takes
use Rattle.id_freelist.specs.declared.take_fault.TakeFault.{TakeFault}
use Rattle.id_freelist.specs.declared.take_fault.TakeFault.TheVariants as fault
use Rattle.prop_store.specs.Touching.{TouchesOnly}
use Rattle.prop_index.specs.Touching.{index_keys}
use Rattle.store_rules.specs.Chains.{In, IsWalk}
use Rattle.store_rules.specs.Hashes.{bucket_of}
use Rattle.store_rules.specs.IndexChange.{IsEntryMade}
use Rattle.store_rules.specs.Indexes.{AreIndexed, Entries, Entry, first_definition, first_entry, heads_of, index_rec}
use Rattle.store_rules.specs.Indexes.{indexed_key, indexed_label, is_entry, next_definition, with_entry}
use Rattle.store_rules.specs.Views.{high, kind_at, rec_at}
use Rattle.store_rules.proofs.BucketChange.{IsBucketChanged}
use Rattle.store_rules.proofs.ChainLaws.{walk_stays}
use Rattle.store_rules.proofs.EntryMade as em
use Rattle.store_rules.proofs.IndexFrames.{indexed_same}
use Rattle.store_rules.proofs.Members.{contains_first, contains_later}
use Rattle.store_rules.proofs.MetaLaws.{high_fits}
use Rattle.store_rules.proofs.NumberLaws.{eq_false, nat_cases}
use Rattle.store_rules.proofs.ViewLaws.{kind_below}
use Rattle.store_rules.proofs.PropertyWalks.{walk_is}
use Rattle.prop_index.specs.Defining.{HasLeft, SameElsewhere}
use Rattle.prop_index.specs.DefinitionRecord.{head_of}
use Rattle.prop_index.specs.Entering.{IsIndexFull, IsMishap}
use Rattle.prop_index.specs.Filling.{IsEmptyIndex, IsFilled, entry_for, with_contents}
use Rattle.prop_index.specs.Finding.{IsPair}
use Rattle.prop_index.specs.Heads.{BeginsRight, IsFoundBucket, IsHead, IsHeadPlace}
use Rattle.prop_index.specs.declared.entry_row.Content.{Content}
use Rattle.prop_index.specs.declared.finding.Definition.{Definition}
use Rattle.prop_index.specs.declared.heads.Bucket.{Bucket}
use Rattle.prop_index.proofs.Changed.{entered_in, first_right}
use Rattle.store_rules.specs.Rules.{IsWhole}

-- no entries yet
pub filled-none : (s : State) (wanted : Entries) (ix : AreIndexed s.records wanted) (label key : ℕ) → IsWhole s → IsFilled s s wanted ix label key []
filled-none s wanted ix label key store = record {
  indexes = indexed_same s.records wanted (with_contents wanted label key []) ix (λ d e i l k. refl);
  first = refl;
  definitions = λ e i. refl;
  live = omega arith;
  shape = refl;
  others = λ q file meta. refl;
  kept = store;
}

-- an entry of another node is none of these
unlike : (label key node hash : ℕ) (contents : List Content) → ((c : Content) → Contains contents c → c.node ≢ node)
    → list_any (λ c. is_entry (record { label = label; key = key; node = node; hash = hash }) (entry_for label key c)) contents ≡ false
unlike label key node hash [] other = refl
unlike label key node hash (c ∷ cs) other =
    let here : nat_eq node c.node ≡ false = eq_false node c.node (λ e. other c (contains_first c cs) (sym e)) in
    let rest = unlike label key node hash cs (λ k i. other k (contains_later c cs k i)) in
    by (nat_eq label label) (nat_eq key key) here rest
  where
    by : (a b : Bool) → nat_eq node c.node ≡ false → list_any (λ k. is_entry (record { label = label; key = key; node = node; hash = hash })
        (entry_for label key k)) cs ≡ false
        → ((a && (b && (nat_eq node c.node && nat_eq hash c.hash))) || list_any (λ k. is_entry (record { label = label; key = key; node = node; hash = hash })
        (entry_for label key k)) cs) ≡ false
    by true true q r = rw (q, r) refl
    by true false q r = r
    by false b q r = r

module _ (s m : State) (wanted : Entries) (ix : AreIndexed s.records wanted) (label key : ℕ) (definition : Definition)
    (empty : IsEmptyIndex s.records wanted ix label key definition) (p : List Content)
    (old : IsFilled s m wanted ix label key p) (c : Content) where
  abbrev d : ℕ
  d = definition.id

  abbrev b : ℕ
  b = bucket_of c.hash

  abbrev entries : Entries
  entries = with_contents wanted label key p

  walked : IsWalk (next_definition m.records) (first_definition m.records) ix.definitions
  walked = subst (λ f. IsWalk (next_definition m.records) f ix.definitions) (sym old.first)
      (walk_stays (next_definition s.records) (next_definition m.records) (first_definition s.records) ix.definitions
      (λ e i. ap (λ (r : Rec). field 4 r format.definition_next) (old.definitions e i)) ix.walk)

  -- the definitions are those that there were
  pub definitions_same : ix.definitions ≡ old.indexes.definitions
  definitions_same = walk_is (next_definition m.records) (first_definition m.records) ix.definitions old.indexes.definitions walked old.indexes.walk

  listed : In d old.indexes.definitions
  listed = subst (In d) definitions_same empty.listed

  rec_now : index_rec m.records d ≡ definition.rec
  rec_now = old.definitions d empty.listed ∙ sym empty.rec_is

  head_is : (k : ℕ) → head_of definition.rec k ≡ heads_of m.records d k
  head_is k = ap (λ (r : Rec). field 4 r (format.definition_heads + 4 * k)) (sym rec_now)

  module _ (bucket : Bucket) (id_is : bucket.slot.id ≡ head_of definition.rec (b / 15)) (place_is : bucket.slot.place ≡ format.heads_first + 4 * (b % 15))
      (first_is : bucket.first ≡ first_entry m.records d b) where
    slot_is : bucket.slot.id ≡ heads_of m.records d (b / 15)
    slot_is = id_is ∙ head_is (b / 15)

    pub fill_head : IsHead m.records bucket
    fill_head = record {
      heads = ap (kind_at m.records format.index_file) slot_is ∙ old.indexes.heads d (b / 15) listed (omega arith);
      first_is = first_is ∙ (λ i. field 4 (index_rec m.records (sym slot_is i)) (sym place_is i));
    }

    pair_now : IsPair m.records label key d
    pair_now = (
      ap (λ (r : Rec). field 4 r format.definition_label) (old.definitions d empty.listed) ∙ empty.pair.0,
      ap
          (λ (r : Rec). field 4 r format.definition_key) (old.definitions d empty.listed) ∙ empty.pair.1,
    )

    found : IsFoundBucket m.records old.indexes.definitions label key c.hash bucket
    found = record {
      definition = d;
      listed = listed;
      pair = pair_now;
      is = record { id_is = slot_is; place_is = place_is; head = fill_head };
    }

    pub fill_begins : BeginsRight m.records bucket
    fill_begins = first_right m.records entries old.indexes label key c bucket found

    pub fill_place : IsHeadPlace bucket.slot.place
    fill_place = record { number = b % 15; low = omega arith; is = place_is }

    module _ (t : State) (id : ℕ) (made : IsEntryMade m.records t.records id bucket.slot.id bucket.slot.place c.node c.hash) where
      made_at : IsEntryMade m.records t.records id (heads_of m.records d (b / 15)) (format.heads_first + 4 * (b % 15)) c.node c.hash
      made_at = subst (λ (q : ℕ × ℕ). IsEntryMade m.records t.records id q.0 q.1 c.node c.hash) (λ i. (slot_is i, place_is i)) made

      -- a definition is neither the entry, nor the one that stood first, nor the heads
      rec_kept : (e : ℕ) → In e ix.definitions → index_rec t.records e ≡ index_rec m.records e
      rec_kept e i =
          let kind = old.indexes.defined e (subst (In e) definitions_same i) in
          let under = kind_below (high m.records format.index_file) (rec_at m.records format.index_file e) e (λ q. omega (arith, kind, q)) in
          let fits = high_fits m.records format.index_file in
          made.others e
          (λ q. let f = made.fresh in let z = ap (kind_at m.records format.index_file) q in omega (arith, kind, f, z))
          (λ q. let at : e ≡ bucket.first = q ∙ sym fill_head.first_is in ⊎_elim
          (λ (n : bucket.first ≡ format.nil). omega (arith, at, n, under, fits))
          (λ (some : bucket.first ≢ format.nil). let f = fill_begins some in let z = ap (kind_at m.records format.index_file) at in omega (arith, kind, f, z))
          (nat_cases bucket.first format.nil))
          (λ q. let f = fill_head.heads in let z = ap (kind_at m.records format.index_file) q in omega (arith, kind, f, z))

      module _ (apart : (k : Content) → Contains p k → k.node ≢ c.node) (live : (meta_of t format.index_file).live ≡ (meta_of m format.index_file).live + 1)
          (shape : t.shape ≡ m.shape) (others : SameElsewhere m.records t.records) (kept : IsWhole t) where
        abbrev one : Entry
        one = entry_for label key c

        unwanted : entries one ≡ false
        unwanted = rw (unlike label key c.node c.hash p apart, empty.unwanted one refl refl) refl

        changed : IsBucketChanged m.records t.records entries (with_entry entries (record {
          label = indexed_label m.records d;
          key = indexed_key m.records d;
          node = c.node;
          hash = c.hash;
        })) old.indexes d b (id ∷ old.indexes.lists d b)
        changed = em.entry_made m.records t.records entries old.indexes d id c.node c.hash listed made_at
            (ap entries (λ i. record { label = pair_now.0 i; key = pair_now.1 i; node = c.node; hash = c.hash }) ∙ unwanted)

        -- the first entries
        pub first_same : (k : ℕ) → k < 180 → k ≢ b → first_entry t.records d k ≡ first_entry m.records d k
        first_same k lt ne = changed.others d k listed lt (λ _ q. ne q)

        pub first_new : first_entry t.records d b ≡ id
        first_new = changed.bucket.chain.0

        entered : AreIndexed t.records (with_entry entries one)
        entered = entered_in m.records entries old.indexes label key c bucket found t.records (λ right. (id, made)) unwanted

        more_is : (e : Entry) → with_contents wanted label key (p ++ c ∷ []) e ≡ with_entry entries one e
        more_is e = ap (λ q. q || wanted e) (list_any-append (λ k. is_entry e (entry_for label key k)) p (c ∷ []))
            ∙ by (list_any (λ k. is_entry e (entry_for label key k)) p) (is_entry e one) (wanted e)
          where
            by : (x y z : Bool) → ((x || (y || false)) || z) ≡ (y || (x || z))
            by true true z = refl
            by true false z = refl
            by false true z = refl
            by false false z = refl

        pub filled-more : IsFilled s t wanted ix label key (p ++ c ∷ [])
        filled-more = record {
          indexes = indexed_same t.records (with_entry entries one) (with_contents wanted label key (p ++ c ∷ [])) entered (λ f e i l k. more_is e);
          first = made.first ∙ old.first;
          definitions = λ e i. rec_kept e i ∙ old.definitions e i;
          live = let a = old.live in let k = length-append p (c ∷ []) in omega (arith, live, a, k);
          shape = shape ∙ old.shape;
          others = λ q file meta. others q file meta ∙ old.others q file meta;
          kept = kept;
        }

-- ---- the contents

-- those before a place are of other nodes than the one there
pub ascending_apart : (contents : List Content) (i : ℕ) (c : Content) → AllPairs (λ a b. a.node < b.node) contents → i < length contents
    → ((d : Content) → get_or contents i d ≡ c)
    → (k : Content) → Contains (take i contents) k → k.node ≢ c.node
ascending_apart contents i c ascend low is k (j, lt, at) e =
    let few : length (take i contents) ≡ i = length-take-le i contents (omega (arith, low)) in
    let under : j < i = omega (arith, lt, few) in
    let place : get_or contents j k ≡ k = sym (get_or-take i contents j k under) ∙ at in
    let less : (get_or contents j k).node < (get_or contents i k).node = ascend j i k under low in
    let a = ap (λ (z : Content). z.node) place in let b = ap (λ (z : Content). z.node) (is k) in omega (arith, less, a, b, e)

-- all but the index's file is left by a change of its records
pub elsewhere_of : (tells : Type 0) (s t : State) (ids : List ℕ) → tells → TouchesOnly tells s t (index_keys ids) → SameElsewhere s.records t.records
elsewhere_of tells s t ids told h q file meta = ⊎_elim (λ (e : t.records q ≡ s.records q). e) (λ i. absurd (out ids i)) ((h.stays told).each q)
  where
    out : (xs : List ℕ) → IsAmong q (index_keys xs) → ⊥
    out [] (inl e) = meta e
    out [] (inr i) = i
    out (x ∷ xs) (inl e) = file (ap (λ (k : Key). k.file) e)
    out (x ∷ xs) (inr i) = out xs i

-- where there is room, only memory or the disk is to blame
pub index_mishap : (s : State) (f : TakeFault) → IsIndexFull s f → takes.NotDamaged {T = ℕ} (Err f) → HasLeft s 1 → IsMishap f
index_mishap s (fault.Full file live) is sound left = let a = is.1 in let b = is.2 in absurd (omega (arith, a, b, left))
index_mishap s fault.Memory is sound left = tt
index_mishap s fault.Disk is sound left = tt
index_mishap s (fault.Damaged damage) is sound left = sound
