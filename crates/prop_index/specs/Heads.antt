-- The first entries of buckets.
use Rattle.std.specs.Prelude.{◌≡◌, ◌≢◌, ℕ, ◌+◌, ◌*◌, ◌/◌, ◌%◌, ◌<◌, List, Option, None, Some}
use Rattle.rec_bytes.specs.declared.record.Rec.{Rec}
use Rattle.rec_bytes.specs.Format as format
use Rattle.rec_bytes.specs.Record.{field}
use Rattle.store_rules.specs.Chains.{In}
use Rattle.store_rules.specs.Hashes.{bucket_of}
use Rattle.store_rules.specs.IndexBreaking.{HasHead}
use Rattle.store_rules.specs.Indexes.{heads_of, index_rec}
use Rattle.store_rules.specs.Views.{Records, kind_at}
use Rattle.prop_index.specs.Finding.{AreOfOthers, IsPair}
use Rattle.prop_index.specs.declared.heads.Bucket.{Bucket}
use Rattle.prop_index.specs.declared.heads.Slot.{Slot}

-- the place of the first entry of a bucket, by the record of the definition
pub record IsSlotOf (rec : Rec) (number : ℕ) (slot : Slot) : Type 0 where
  pub id_is : slot.id ≡ field 4 rec (format.definition_heads + 4 * (number / 15))
  pub place_is : slot.place ≡ format.heads_first + 4 * (number % 15)

-- a record of heads names the first entry of the bucket
pub record IsHead (records : Records) (bucket : Bucket) : Type 0 where
  pub heads : kind_at records format.index_file bucket.slot.id ≡ format.heads
  pub first_is : bucket.first ≡ field 4 (index_rec records bucket.slot.id) bucket.slot.place

-- its entries begin with none or with one
abbrev pub BeginsRight : Records → Bucket → Type 0
BeginsRight records bucket =
    bucket.first ≢ format.nil → kind_at records format.index_file bucket.first ≡ format.indexed

-- the place is that of a first entry in a record of heads
pub record IsHeadPlace (place : ℕ) : Type 0 where
  pub number : ℕ
  pub low : number < 15
  pub is : place ≡ format.heads_first + 4 * number

-- the bucket of the definition is that of this number
pub record IsBucketOf (records : Records) (d number : ℕ) (bucket : Bucket) : Type 0 where
  pub id_is : bucket.slot.id ≡ heads_of records d (number / 15)
  pub place_is : bucket.slot.place ≡ format.heads_first + 4 * (number % 15)
  pub head : IsHead records bucket

-- The bucket is that of this hash, in the index of a label and a key.
pub record IsFoundBucket (records : Records) (definitions : List ℕ) (label key hash : ℕ)
    (bucket : Bucket) : Type 0 where
  pub definition : ℕ
  pub listed : In definition definitions
  pub pair : IsPair records label key definition
  pub is : IsBucketOf records definition (bucket_of hash) bucket

-- so it is, or no definition has the label and the key
abbrev pub IsBucketSought : Records → List ℕ → ℕ → ℕ → ℕ → Option Bucket → Type 0
IsBucketSought records definitions label key hash None = AreOfOthers records definitions label key
IsBucketSought records definitions label key hash (Some bucket) =
    IsFoundBucket records definitions label key hash bucket

-- The bucket is that of this number, of a definition of the label and the key, to which the chain
-- leads.
pub record IsBucketMet (records : Records) (label key number : ℕ) (bucket : Bucket)
    : Type 0 where
  pub definition : ℕ
  pub pair : IsPair records label key definition
  pub has : HasHead records definition number
  pub is : IsBucketOf records definition number bucket

abbrev pub IfBucketMet : Records → ℕ → ℕ → ℕ → Option Bucket → Type 0
IfBucketMet records label key number None = Unit {0}
IfBucketMet records label key number (Some bucket) = IsBucketMet records label key number bucket

-- An entry can be put in front: the head is one and leads to none or to an entry.
pub record IsOpened (records : Records) (bucket : Bucket) : Type 0 where
  pub head : IsHead records bucket
  pub begins : BeginsRight records bucket
  pub place : IsHeadPlace bucket.slot.place
