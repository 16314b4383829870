-- What an entry that was added or taken out leaves of the rule of an index.
use Rattle.std.proofs.Common.{◌≡◌, ◌/◌, ◌%◌, ◌*◌, ◌+◌, ◌&&◌, ◌||◌, not, ⊎_elim, ℕ, Bool, true, false, List, refl, ap, sym, ◌∙◌, subst, arith}
use Rattle.std.proofs.lemmas.Bool.{true≢false}
use Rattle.rec_bytes.specs.Format as format
use Rattle.store_rules.specs.Chains.{In}
use Rattle.store_rules.specs.Hashes.{bucket_of}
use Rattle.store_rules.specs.IndexChange.{IsEntryGone, IsEntryMade}
use Rattle.store_rules.specs.Indexes.{AreIndexed, Entries, Entry, entry_in, heads_of, indexed_key, indexed_label}
use Rattle.store_rules.specs.Indexes.{is_entry, next_entry, with_entry, without_entry}
use Rattle.store_rules.specs.Views.{Records}
use Rattle.store_rules.proofs.ChainLaws.{walk_of_chain}
use Rattle.store_rules.proofs.ChainSteps.{first_in}
use Rattle.store_rules.proofs.EntryGone.{entry_cases, leaves}
use Rattle.store_rules.proofs.EntryMade.{enters}
use Rattle.store_rules.proofs.IndexFrames.{indexed_same}
use Rattle.prop_index.specs.Entering.{IsMade}
use Rattle.prop_index.specs.Finding.{IsPair}
use Rattle.prop_index.specs.Heads.{BeginsRight, IsFoundBucket}
use Rattle.prop_index.specs.Leaving.{IsDropped, IsNoneOf, NoneThere, OneGone}
use Rattle.prop_index.specs.declared.entry_row.Content.{Content}
use Rattle.prop_index.specs.declared.heads.Bucket.{Bucket}
use Rattle.prop_index.proofs.Buckets.{bucket-chain}

-- a test and a false one
and_none : (t w : Bool) → w ≡ false → (not t && w) ≡ w
and_none true w none = sym none
and_none false w none = refl

module _ (s : Records) (wanted : Entries) (ix : AreIndexed s wanted) (label key : ℕ) (content : Content) where
  abbrev one : Entry
  one = record { label = label; key = key; node = content.node; hash = content.hash }

  -- ---- no index of the pair

  module _ (none : (d : ℕ) → In d ix.definitions → ¬ IsPair s label key d) where
    not_one : (d : ℕ) (e : Entry) → In d ix.definitions → e.label ≡ indexed_label s d → e.key ≡ indexed_key s d → is_entry e one ≡ false
    not_one d e i l k = ⊎_elim
        (λ (p : e ≡ one). absurd (none d i (sym l ∙ ap (λ (z : Entry). z.label) p, sym k ∙ ap (λ (z : Entry). z.key) p)))
        (λ (p : is_entry e one ≡ false). p) (entry_cases e one)

    pub unlisted_entered : AreIndexed s (with_entry wanted one)
    unlisted_entered = indexed_same s wanted (with_entry wanted one) ix (λ d e i l k. ap (λ t. t || wanted e) (not_one d e i l k))

    pub unlisted_left : AreIndexed s (without_entry wanted one)
    unlisted_left = indexed_same s wanted (without_entry wanted one) ix (λ d e i l k. ap (λ t. not t && wanted e) (not_one d e i l k))

  -- ---- the bucket of an index

  module _ (bucket : Bucket) (found : IsFoundBucket s ix.definitions label key content.hash bucket) where
    abbrev d : ℕ
    d = found.definition

    abbrev b : ℕ
    b = bucket_of content.hash

    abbrev xs : List ℕ
    xs = ix.lists d b

    -- the entry, as the definition has it
    one_is : one ≡ record { label = indexed_label s d; key = indexed_key s d; node = content.node; hash = content.hash }
    one_is = λ i. record { label = sym found.pair.0 i; key = sym found.pair.1 i; node = content.node; hash = content.hash }

    pub first_right : BeginsRight s bucket
    first_right some =
        let is = bucket-chain s wanted ix label key content.hash bucket found in
        ⊎_elim (λ (n : bucket.first ≡ format.nil). absurd (some n)) (λ (m : In bucket.first xs). is.kind bucket.first m)
        (first_in (next_entry s) bucket.first xs (walk_of_chain _ _ _ _ xs is.chain))

    pub entered_in : (t : Records) → IsMade s t bucket content → wanted one ≡ false → AreIndexed t (with_entry wanted one)
    entered_in t made unwanted =
        let has = made first_right in
        let is : IsEntryMade s t has.0 (heads_of s d (b / 15)) (format.heads_first + 4 * (b % 15)) content.node content.hash
        = subst (λ (p : ℕ × ℕ). IsEntryMade s t has.0 p.0 p.1 content.node content.hash) (λ i. (found.is.id_is i, found.is.place_is i)) has.1 in
        subst (λ (e : Entry). AreIndexed t (with_entry wanted e)) (sym one_is)
        (enters s t wanted ix d has.0 content.node content.hash found.listed is (ap wanted (sym one_is) ∙ unwanted))

    -- an entry that isn't there wasn't wanted
    unwanted_none : IsNoneOf s xs content → (w : Bool) → wanted one ≡ w → wanted one ≡ false
    unwanted_none none false e = e
    unwanted_none none true e =
        let has = ix.all d one found.listed (sym found.pair.0) (sym found.pair.1) e in
        absurd (none has.id has.member (ap (λ (z : Entry). z.node) has.is, ap (λ (z : Entry). z.hash) has.is))

    -- no entry says what isn't wanted
    pub none_wanted : wanted one ≡ false → IsNoneOf s xs content
    none_wanted unwanted x member says =
        let is = ix.buckets d b found.listed (omega arith) in
        let same : entry_in s d x ≡ one = λ i. record { label = found.pair.0 i; key = found.pair.1 i; node = says.0 i; hash = says.1 i } in
        true≢false (sym (is.wanted_is x member) ∙ ap wanted same ∙ unwanted)

    none_left : IsNoneOf s xs content → AreIndexed s (without_entry wanted one)
    none_left none = indexed_same s wanted (without_entry wanted one) ix (λ f e i l k. ⊎_elim
        (λ (p : e ≡ one). and_none (is_entry e one) (wanted e) (ap wanted p ∙ unwanted_none none (wanted one) refl))
        (λ (p : is_entry e one ≡ false). ap (λ t. not t && wanted e) p) (entry_cases e one))

    pub left_in : (t : Records) → IsDropped s t xs bucket.slot content → AreIndexed t (without_entry wanted one)
    left_in t (NoneThere none same) = subst (λ (r : Records). AreIndexed r (without_entry wanted one)) (sym same) (none_left none)
    left_in t (OneGone x member says gone) =
        let is : IsEntryGone s t x (heads_of s d (b / 15)) (format.heads_first + 4 * (b % 15))
        = subst (λ (p : ℕ × ℕ). IsEntryGone s t x p.0 p.1) (λ i. (found.is.id_is i, found.is.place_is i)) gone in
        let same : entry_in s d x ≡ one = λ i. record { label = found.pair.0 i; key = found.pair.1 i; node = says.0 i; hash = says.1 i } in
        subst (λ (e : Entry). AreIndexed t (without_entry wanted e)) same (leaves s t wanted ix d b x found.listed (omega arith) member is)
