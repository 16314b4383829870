-- The records of heads and the entries of all definitions, by the lists that were seen.
use Rattle.std.proofs.Common.{◌≡◌, ◌≢◌, ◌⊎◌, ℕ, ◌+◌, ◌*◌, ◌/◌, ◌%◌, ◌<◌, Bool, true, false, List, [], ◌∷◌, length}
use Rattle.std.proofs.Common.{get_or, sym, ap, ◌∙◌, subst, inl, inr, ⊎_elim, arith, refl}
use Rattle.std.specs.Prelude.{⊤}
use Rattle.std.specs.Bool.{Decides}
use Rattle.std.proofs.lemmas.Bool.{cases_Bool, true≢false}
use Rattle.rec_bytes.specs.Format as format
use Rattle.record_lists.specs.Heads.{AmongHeads, AtHead, HeadKeeps, IsOnce, IsTwice}
use Rattle.record_lists.specs.Seen.{is_among, is_seen}
use Rattle.record_lists.proofs.LiveLaws.{live_below}
use Rattle.record_lists.proofs.LineLaws.{among_from_in, in_from_among}
use Rattle.store_rules.specs.Breaking.{damage}
use Rattle.store_rules.specs.Chains.{In}
use Rattle.store_rules.specs.IndexBreaking.{AreDefinitions, DefinitionKeeps, EachKeeps, HeadRecordKeeps, IndexBreaks}
use Rattle.store_rules.specs.IndexBreaking.{IsAmongDefinitions, IsBucketList, IsHeadRecord, IsInBucket, IsOfAnIndex}
use Rattle.store_rules.specs.IndexBreaking.IndexBreaks.{LeftOver, WrongDefinition, WrongEntry, WrongHead}
use Rattle.store_rules.specs.IndexBreaking.IsOfAnIndex.{Defines, Enters, Heads}
use Rattle.store_rules.specs.Indexes.{heads_of, indexed_key, indexed_label}
use Rattle.store_rules.specs.Properties.{AreOnce}
use Rattle.store_rules.specs.Views.{Records, high, is_live, kind_at}
use Rattle.store_rules.proofs.IndexParts.{definitions_same}
use Rattle.store_rules.proofs.OnceLaws.{once_walk}
use Rattle.index_check.specs.Buckets.{AreItsEntries}
use Rattle.index_check.specs.Definitions.{definition_of}
use Rattle.index_check.specs.HeadRecords.{IsHeadItem}
use Rattle.index_check.specs.Indexing.{AreAllHeld, AreAllSeen, IsRight}
use Rattle.index_check.proofs.PlaceLaws.{in_place, many_of, many_place, many_same, place_of, place_once, twelve_of, twelve_place, twelve_same}

abbrev pub Always : ℕ → Type 0
Always k = ⊤

module _ (records : Records) (ids : List ℕ) (are : AreDefinitions records ids) where
  among : (d : ℕ) → In d ids → IsAmongDefinitions records d
  among d i = record { members = ids; list = are; member = i }

  listed : (d : ℕ) → IsAmongDefinitions records d → In d ids
  listed d a = subst (In d) (definitions_same records a.members ids a.list are) a.member

  ids_once : AreOnce ids
  ids_once = once_walk _ _ ids are.walk

  -- a definition's record is of no other kind
  not_defined : (x kind : ℕ) → kind ≢ format.definition → kind_at records format.index_file x ≡ kind → In x ids → ⊥
  not_defined x kind other is i = other (sym is ∙ are.defined x i)

  -- ---- records of heads

  abbrev pub HeadLists : ℕ → List ℕ → Type 0
  HeadLists = IsHeadItem records ids

  abbrev head_definition : ℕ → ℕ
  head_definition k = definition_of 12 ids k

  head_in : (k : ℕ) → k < 12 * length ids → In (head_definition k) ids
  head_in k lt = in_place ids (k / 12) (twelve_place (length ids) k lt).0

  -- what is at a number is a record of heads
  head_of : (k p : ℕ) → k < 12 * length ids → AtHead Always HeadLists k p → IsHeadRecord records (head_definition k) (k % 12) p
      × (kind_at records format.index_file p ≡ format.heads)
  head_of k p lt at =
      let is : p ≡ heads_of records (head_definition k) (k % 12) = one (subst (In p) at.listed.are at.member) in (
        record { definition = among (head_definition k) (head_in k lt); low = (twelve_place (length ids) k lt).1; is = sym is },
        ap (kind_at records format.index_file) is ∙ at.listed.kind,
      )
    where
      one : {a b : ℕ} → In a (b ∷ []) → a ≡ b
      one (inl e) = e
      one (inr i) = elim i [ ]

  -- the number of a record of heads
  record HeadNumber (d c : ℕ) : Type 0 where
    number : ℕ
    below : number < 12 * length ids
    definition : head_definition number ≡ d
    place : number % 12 ≡ c

  head_number : (d c : ℕ) → In d ids → c < 12 → HeadNumber d c
  head_number d c i low =
      let at = place_of d ids i in
      let s = twelve_of (length ids) at.place c at.low low in
      record {
        number = 12 * at.place + c;
        below = s.below;
        definition = ap (λ i. get_or ids i 0) s.place ∙ at.is;
        place = s.rest;
      }

  -- a definition that keeps the rule has its records of heads
  head_kept : (k : ℕ) → k < 12 * length ids → DefinitionKeeps records (head_definition k) → HeadKeeps Always HeadLists k
  head_kept k lt keeps = record {
    list = λ _. (
      heads_of records (head_definition k) (k % 12) ∷ [],
      record {
        kind = keeps.heads (k % 12)
            (twelve_place (length ids) k lt).1;
        are = refl;
      },
    );
  }

  pub no_heads : (k : ℕ) → k < 12 * length ids → (HeadKeeps Always HeadLists k → ⊥) → IndexBreaks records (damage format.index_file (head_definition k) 8)
  no_heads k lt bad = WrongDefinition (head_definition k) (among (head_definition k) (head_in k lt)) (λ keeps. bad (head_kept k lt keeps))

  -- a record of heads that is met twice
  pub head_twice : (seen : List Bool) → ((p : ℕ) → is_seen seen p ≡ is_among ids p) → (p : ℕ) → IsTwice Always HeadLists (12 * length ids) seen p
      → IndexBreaks records (damage format.index_file p 8)
  head_twice seen told p t =
      let now = head_of t.head p t.below t.here in
      WrongHead p (λ keeps. ⊎_elim
      (λ (m : is_seen seen p ≡ true). not_defined p format.heads (λ e. absurd (omega arith)) now.1 (in_from_among p ids (sym (told p) ∙ m)))
      (λ (a : AmongHeads Always HeadLists t.head p).
      let below : a.id < t.head = a.below in
      let under : t.head < 12 * length ids = t.below in
      let earlier = head_of a.id p (omega arith) a.here in
      let one = keeps.once (head_definition a.id) (a.id % 12) (head_definition t.head) (t.head % 12) earlier.0 now.0 in
      let places = place_once ids ids_once (a.id / 12) (t.head / 12) (twelve_place (length ids) a.id (omega arith)).0 (twelve_place (length ids) t.head under).0
      one.0 in
      let same = twelve_same a.id t.head places one.1 in
      omega arith)
      t.before)

  module _ (keeps : (k : ℕ) → k < 12 * length ids → HeadKeeps Always HeadLists k) where
    head_item : (d c : ℕ) (n : HeadNumber d c) → AtHead Always HeadLists n.number (heads_of records d c)
    head_item d c n =
        let l = (keeps n.number n.below).list tt in
        record {
          must = tt;
          items = l.0;
          listed = l.1;
          member = subst (In (heads_of records d c)) (sym l.1.are) (inl (λ j. heads_of records (sym n.definition j)
              (sym n.place j)));
        }

    pub heads_kept : (d c : ℕ) → In d ids → c < 12 → kind_at records format.index_file (heads_of records d c) ≡ format.heads
    heads_kept d c i low =
        let n = head_number d c i low in
        let l = (keeps n.number n.below).list tt in
        (λ j. kind_at records format.index_file (heads_of records (sym n.definition j) (sym n.place j))) ∙ l.1.kind

    -- a record of heads is at its number
    head_number_of : (d c p : ℕ) → (a : IsHeadRecord records d c p) → (n : HeadNumber d c) × AtHead Always HeadLists n.number p
    head_number_of d c p a = let n = head_number d c (listed d a.definition) a.low in (n, subst (AtHead Always HeadLists n.number) a.is (head_item d c n))

    pub heads_once : ((p : ℕ) → IsOnce Always HeadLists (12 * length ids) p) → (p : ℕ) → HeadRecordKeeps records p
    heads_once once p = record {
      once = λ d c e k a b.
          let n = head_number_of d c p a in
          let m = head_number_of e k p b in
          let same = once p n.0.number m.0.number n.0.below m.0.below n.1 m.1 in
          (sym n.0.definition ∙ ap head_definition same ∙ m.0.definition, sym n.0.place ∙ ap (λ z. z % 12) same ∙ m.0.place);
    }

    -- just the records of heads are among the items
    pub heads_among : (p : ℕ) → AmongHeads Always HeadLists (12 * length ids) p → IsOfAnIndex records p
    heads_among p a = Heads (head_definition a.id) (a.id % 12) (head_of a.id p a.below a.here).0

    pub among_heads : (d c p : ℕ) → IsHeadRecord records d c p → AmongHeads Always HeadLists (12 * length ids) p
    among_heads d c p a = let n = head_number_of d c p a in record { id = n.0.number; below = n.0.below; here = n.1 }

  -- ---- entries

  abbrev pub BucketLists : ℕ → List ℕ → Type 0
  BucketLists = AreItsEntries records ids

  abbrev bucket_definition : ℕ → ℕ
  bucket_definition k = definition_of 180 ids k

  bucket_in : (k : ℕ) → k < 180 * length ids → In (bucket_definition k) ids
  bucket_in k lt = in_place ids (k / 180) (many_place (length ids) k lt).0

  -- what is at a number is an entry
  entry_at : (k x : ℕ) → k < 180 * length ids → AtHead Always BucketLists k x → IsInBucket records (bucket_definition k) (k % 180) x
  entry_at k x lt at = record {
    definition = among (bucket_definition k) (bucket_in k lt);
    low = (many_place (length ids) k lt).1;
    members = at.items;
    list = at.listed;
    member = at.member;
  }

  -- the number of a bucket
  record BucketNumber (d c : ℕ) : Type 0 where
    number : ℕ
    below : number < 180 * length ids
    definition : bucket_definition number ≡ d
    place : number % 180 ≡ c

  bucket_number : (d c : ℕ) → In d ids → c < 180 → BucketNumber d c
  bucket_number d c i low =
      let at = place_of d ids i in
      let s = many_of (length ids) at.place c at.low low in
      record {
        number = 180 * at.place + c;
        below = s.below;
        definition = ap (λ z. get_or ids z 0) s.place ∙ at.is;
        place = s.rest;
      }

  pub no_bucket : (k : ℕ) → k < 180 * length ids → (HeadKeeps Always BucketLists k → ⊥) → IndexBreaks records (damage format.index_file (bucket_definition k) 8)
  no_bucket k lt bad = WrongDefinition (bucket_definition k) (among (bucket_definition k) (bucket_in k lt))
      (λ keeps. bad (record { list = λ _. keeps.buckets (k % 180) (many_place (length ids) k lt).1 }))

  -- an entry that is met twice
  pub entry_twice : (seen : List Bool) → ((p : ℕ) → is_seen seen p ≡ true → (In p ids) ⊎ AmongHeads Always HeadLists (12 * length ids) p)
      → (x : ℕ) → IsTwice Always BucketLists (180 * length ids) seen x → IndexBreaks records (damage format.index_file x 8)
  entry_twice seen told x t =
      let now = entry_at t.head x t.below t.here in
      let kind = now.list.kind x now.member in
      WrongEntry x (λ keeps. ⊎_elim
      (λ (m : is_seen seen x ≡ true). ⊎_elim
      (λ (i : In x ids). not_defined x format.indexed (λ e. absurd (omega arith)) kind i)
      (λ (a : AmongHeads Always HeadLists (12 * length ids) x). let other = (head_of a.id x a.below a.here).1 in let both = sym kind ∙ other in absurd
      (omega arith))
      (told x m))
      (λ (a : AmongHeads Always BucketLists t.head x).
      let below : a.id < t.head = a.below in
      let under : t.head < 180 * length ids = t.below in
      let earlier = entry_at a.id x (omega arith) a.here in
      let one = keeps.once (bucket_definition a.id) (a.id % 180) (bucket_definition t.head) (t.head % 180) earlier now in
      let places = place_once ids ids_once (a.id / 180) (t.head / 180) (many_place (length ids) a.id (omega arith)).0 (many_place (length ids) t.head under).0
      one in
      let same = many_same a.id t.head places (sym (earlier.list.hash x earlier.member) ∙ now.list.hash x now.member) in
      omega arith)
      t.before)

  module _ (keeps : (k : ℕ) → k < 180 * length ids → HeadKeeps Always BucketLists k) where
    pub buckets_kept : (d c : ℕ) → In d ids → c < 180 → (members : List ℕ) × IsBucketList records d c members
    buckets_kept d c i low =
        let n = bucket_number d c i low in
        let l = (keeps n.number n.below).list tt in
        (l.0, subst (λ z. IsBucketList records z c l.0) n.definition (subst (λ z. IsBucketList records (bucket_definition n.number) z l.0) n.place l.1))

    -- an entry is at its number
    bucket_number_of : (d c x : ℕ) → IsInBucket records d c x → (n : BucketNumber d c) × AtHead Always BucketLists n.number x
    bucket_number_of d c x at =
        let n = bucket_number d c (listed d at.definition) at.low in (
          n,
          record {
            must = tt;
            items = at.members;
            listed = subst (λ z. IsBucketList records z (n.number % 180) at.members) (sym n.definition)
                (subst (λ z. IsBucketList records d z at.members) (sym n.place) at.list);
            member = at.member;
          },
        )

    pub entries_once : ((x : ℕ) → IsOnce Always BucketLists (180 * length ids) x) → (d c e k x : ℕ) → IsInBucket records d c x → IsInBucket records e k x
        → d ≡ e
    entries_once once d c e k x at too =
        let n = bucket_number_of d c x at in
        let m = bucket_number_of e k x too in
        sym n.0.definition ∙ ap bucket_definition (once x n.0.number m.0.number n.0.below m.0.below n.1 m.1) ∙ m.0.definition

    pub all_told : (old mid new : List Bool) → ((p : ℕ) → is_seen old p ≡ is_among ids p)
        → ((k : ℕ) → k < 12 * length ids → HeadKeeps Always HeadLists k)
        → ((p : ℕ) → Decides (is_seen mid p) ((is_seen old p ≡ true) ⊎ AmongHeads Always HeadLists (12 * length ids) p))
        → ((p : ℕ) → Decides (is_seen new p) ((is_seen mid p ≡ true) ⊎ AmongHeads Always BucketLists (180 * length ids) p))
        → (x : ℕ) → Decides (is_seen new x) (IsOfAnIndex records x)
    all_told old mid new first has then last x = (
      (λ m. ⊎_elim
          (λ (k : is_seen mid x ≡ true). ⊎_elim
          (λ (o : is_seen old x ≡ true). Defines (among x (in_from_among x ids (sym (first x) ∙ o))))
          (λ (a : AmongHeads Always HeadLists (12 * length ids) x). heads_among has x a)
          ((then x).0 k))
          (λ (a : AmongHeads Always BucketLists (180 * length ids) x). Enters (bucket_definition a.id) (a.id % 180) (entry_at a.id x a.below a.here))
          ((last x).0 m)),
      (λ of. by of),
    )
      where
        by : IsOfAnIndex records x → is_seen new x ≡ true
        by (Defines a) = (last x).1 (inl ((then x).1 (inl (first x ∙ among_from_in x ids (listed x a)))))
        by (Heads d c a) = (last x).1 (inl ((then x).1 (inr (among_heads has d c x a))))
        by (Enters d c at) = let n = bucket_number_of d c x at in (last x).1 (inr (record { id = n.0.number; below = n.0.below; here = n.1 }))

-- a record in use that was not seen is of no index
pub left_over : (records : Records) (ids : List ℕ) (seen : List Bool) → AreAllSeen records ids seen → (x : ℕ)
    → ((is_live records format.index_file x ≡ true → is_seen seen x ≡ true) → ⊥) → IndexBreaks records (damage format.index_file x 8)
left_over records ids seen all x bad = ⊎_elim
    (λ (live : is_live records format.index_file x ≡ true). LeftOver x live (λ of. bad (λ _. (all.told x).1 of)))
    (λ (free : is_live records format.index_file x ≡ false). absurd (bad (λ live. absurd (true≢false (sym live ∙ free)))))
    (cases_Bool (is_live records format.index_file x))

-- and where each record in use has one, it is of an index
pub all_held : (records : Records) (ids : List ℕ) (seen : List Bool) → AreAllSeen records ids seen
    → ((x : ℕ) → x < high records format.index_file → is_live records format.index_file x ≡ true → is_seen seen x ≡ true) → AreAllHeld records ids
all_held records ids seen all each = record {
  listed = all.listed;
  held = λ x live. (all.told x).0 (each x (live_below records format.index_file x live) live);
}

-- where each definition's lists are right, its rule holds, if no other has its pair
pub each_keeps : (records : Records) (ids : List ℕ) → AreDefinitions records ids
    → ((d e : ℕ) → In d ids → In e ids → indexed_label records e ≡ indexed_label records d
    → indexed_key records e ≡ indexed_key records d → e ≡ d) → AreAllHeld records ids → ((d : ℕ) → In d ids → IsRight records d) → EachKeeps records
each_keeps records ids are alone all right = record {
  meta = record { members = ids; list = are };
  definition = λ d a. record {
    alone = λ e b l k. alone d e (listed records ids are d a) (listed records ids are e b) l k;
    heads = λ c lt. all.listed.heads d c (listed records ids are d a) lt;
    buckets = λ b lt. all.listed.buckets d b (listed records ids are d a) lt;
  };
  head = all.listed.head_once;
  entry = λ x. record {
    once = λ d b e c at too. all.listed.entry_once d b e c x at too;
    wanted = λ d b at. (right d (listed records ids are d at.definition)).wanted b x at;
  };
  node = λ n. record {
    has = λ d value a is. (right d (listed records ids are d a)).has n value is;
    once = λ d b x c y at too p q. (right d (listed records ids are d at.definition)).once b x c y at too (p ∙ sym q);
  };
  held = all.held;
}
