-- The entries of all buckets of a definition.
use Rattle.std.specs.Prelude.{ℕ, ◌<◌, List}
use Rattle.store_rules.specs.Chains.{In}
use Rattle.store_rules.specs.IndexBreaking.{IsBucketList}
use Rattle.store_rules.specs.Properties.{AreOnce}
use Rattle.store_rules.specs.Views.{Records}

-- the entry is in one of the first n buckets
pub record IsEntryBelow (records : Records) (d n x : ℕ) : Type 0 where
  pub bucket : ℕ
  pub below : bucket < n
  pub members : List ℕ
  pub list : IsBucketList records d bucket members
  pub member : In x members

-- a list of one of the first n buckets, which has these entries among others
pub record HasBucketIn (records : Records) (d b : ℕ) (entries : List ℕ) : Type 0 where
  pub members : List ℕ
  pub list : IsBucketList records d b members
  pub all : (x : ℕ) → In x members → In x entries

-- the first n buckets have just these entries, none twice
pub record AreEntriesTo (records : Records) (d n : ℕ) (entries : List ℕ) : Type 0 where
  pub each : (b : ℕ) → b < n → HasBucketIn records d b entries
  pub only : (x : ℕ) → In x entries → IsEntryBelow records d n x
  pub once : AreOnce entries

-- one of the 180 buckets has no list
pub record LacksBucket (records : Records) (d : ℕ) : Type 0 where
  pub bucket : ℕ
  pub low : bucket < 180
  pub none : (members : List ℕ) → ¬ IsBucketList records d bucket members
