-- Buckets that are found, and their entries.
use Rattle.std.proofs.Common.{◌≡◌, ◌≢◌, ◌<◌, ◌%◌, ℕ, List, ap, sym, ◌∙◌, subst, arith, ⊎_elim}
use Rattle.rec_bytes.specs.Format as format
use Rattle.rec_bytes.specs.Record.{field}
use Rattle.rec_bytes.specs.Space.{SameButReads, State}
use Rattle.store_rules.specs.Chains.{In, IsChain}
use Rattle.store_rules.specs.Hashes.{bucket_of}
use Rattle.store_rules.specs.Indexes.{AreIndexed, Entries, first_entry, index_rec, next_entry, previous_entry}
use Rattle.store_rules.specs.Views.{Records, high, rec_at}
use Rattle.store_rules.proofs.ChainLaws.{walk_of_chain}
use Rattle.store_rules.proofs.Members.{length-once_below}
use Rattle.store_rules.proofs.OnceLaws.{once_walk}
use Rattle.store_rules.proofs.ViewLaws.{kind_below}
use Rattle.prop_index.specs.Gathering.{AreEntries}
use Rattle.prop_index.specs.Heads.{BeginsRight, IsBucketOf, IsFoundBucket, IsHead, IsHeadPlace, IsOpened}
use Rattle.prop_index.specs.Leaving.{IsBucketChain}
use Rattle.store_rules.proofs.ChainSteps.{after_in, before_in, first_before}
use Rattle.prop_index.specs.declared.heads.Bucket.{Bucket}

-- it begins where the definition says
pub bucket-first : (records : Records) (d number : ℕ) (bucket : Bucket) → IsBucketOf records d number bucket → bucket.first ≡ first_entry records d number
bucket-first records d number bucket is = is.head.first_is ∙ (λ i. field 4 (index_rec records (is.id_is i)) (is.place_is i))

-- its entries are those of the index
pub bucket-chain : (s : Records) (wanted : Entries) (ix : AreIndexed s wanted) (label key hash : ℕ) (bucket : Bucket)
    (found : IsFoundBucket s ix.definitions label key hash bucket)
    → IsBucketChain s bucket.first (ix.lists found.definition (bucket_of hash))
bucket-chain s wanted ix label key hash bucket found =
    let is = ix.buckets found.definition (bucket_of hash) found.listed (omega arith) in
    record {
      chain = subst (λ f. IsChain (next_entry s) (previous_entry s) format.nil f (ix.lists found.definition (bucket_of hash)))
          (sym (bucket-first s found.definition (bucket_of hash) bucket found.is)) is.chain;
      kind = is.kind;
    }

-- there are no more of them than were given out
pub chain-entries : (s : State) (first : ℕ) (xs : List ℕ) → IsBucketChain s.records first xs → AreEntries s first xs
chain-entries s first xs is =
    let walk = walk_of_chain _ _ _ _ xs is.chain in
    record {
      walk = walk;
      few = length-once_below xs (high s.records format.index_file) (once_walk _ _ xs walk)
          (λ x i. kind_below (high s.records format.index_file) (rec_at s.records format.index_file x) x (λ e. let k = is.kind x i in omega (arith, e, k)));
      kind = is.kind;
    }

-- after reads they are what they were
pub chain-reread : (s z : State) (first : ℕ) (xs : List ℕ) → SameButReads s z → IsBucketChain s.records first xs → IsBucketChain z.records first xs
chain-reread s z first xs same is = subst (λ (r : Records). IsBucketChain r first xs) (sym (ap (λ (y : State). y.records) same)) is

pub head-reread : (s z : State) (bucket : Bucket) → SameButReads s z → IsHead s.records bucket → IsHead z.records bucket
head-reread s z bucket same is = subst (λ (r : Records). IsHead r bucket) (sym (ap (λ (y : State). y.records) same)) is

pub opened-reread : (s z : State) (bucket : Bucket) → SameButReads s z → IsOpened s.records bucket → IsOpened z.records bucket
opened-reread s z bucket same is = subst (λ (r : Records). IsOpened r bucket) (sym (ap (λ (y : State). y.records) same)) is

-- the place of a first entry
pub head-place : (records : Records) (d number : ℕ) (bucket : Bucket) → IsBucketOf records d number bucket → IsHeadPlace bucket.slot.place
head-place records d number bucket is = record { number = number % 15; low = omega arith; is = is.place_is }

-- an entry of it is below the mark, and so is what is next to one
pub entry-low : (s : Records) (first : ℕ) (xs : List ℕ) → IsBucketChain s first xs → (x : ℕ) → In x xs → x < high s format.index_file
entry-low s first xs is x member = kind_below (high s format.index_file) (rec_at s format.index_file x) x (λ e. let k = is.kind x member in omega (arith, e, k))

-- what is next to an entry is an entry of the bucket, unless it is none
pub before-member : (s : Records) (first x : ℕ) (xs : List ℕ) → IsBucketChain s first xs → In x xs → previous_entry s x ≢ format.nil
    → In (previous_entry s x) xs
before-member s first x xs is member some = ⊎_elim
    (λ (e : first ≡ x). absurd (some (first_before (next_entry s) (previous_entry s) format.nil first xs x is.chain member e)))
    (λ (m : In (previous_entry s x) xs). m)
    (before_in (next_entry s) (previous_entry s) format.nil first xs x is.chain member)

pub after-member : (s : Records) (first x : ℕ) (xs : List ℕ) → IsBucketChain s first xs → In x xs → next_entry s x ≢ format.nil → In (next_entry s x) xs
after-member s first x xs is member some = ⊎_elim
    (λ (e : next_entry s x ≡ format.nil). absurd (some e))
    (λ (m : In (next_entry s x) xs). m)
    (after_in (next_entry s) first xs x (walk_of_chain _ _ _ _ xs is.chain) member)

pub before-low : (s : Records) (first x : ℕ) (xs : List ℕ) → IsBucketChain s first xs → In x xs → previous_entry s x ≢ format.nil
    → previous_entry s x < high s format.index_file
before-low s first x xs is member some = entry-low s first xs is (previous_entry s x) (before-member s first x xs is member some)

pub after-low : (s : Records) (first x : ℕ) (xs : List ℕ) → IsBucketChain s first xs → In x xs → next_entry s x ≢ format.nil
    → next_entry s x < high s format.index_file
after-low s first x xs is member some = entry-low s first xs is (next_entry s x) (after-member s first x xs is member some)
