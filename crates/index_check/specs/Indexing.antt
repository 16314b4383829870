-- What one index is to be like, and what its check finds.
use Rattle.std.specs.Prelude.{◌≡◌, ℕ, ◌<◌, Bool, true, Some, Option, None, List}
use Rattle.std.specs.Bool.{Decides}
use Rattle.plain_graph.specs.declared.value.Value.{Value}
use Rattle.rec_bytes.specs.declared.damage.Damage.{Damage}
use Rattle.rec_bytes.specs.Format as format
use Rattle.record_lists.specs.Seen.{is_seen}
use Rattle.store_rules.specs.Chains.{In}
use Rattle.store_rules.specs.IndexBreaking.{HeadRecordKeeps, IndexBreaks, IsAmongDefinitions}
use Rattle.store_rules.specs.IndexBreaking.{IsBucketList, IsEntered, IsInBucket, IsOfAnIndex}
use Rattle.store_rules.specs.Indexes.{AreIndexed, entry_in, entry_node, heads_of, indexed_key}
use Rattle.store_rules.specs.Indexes.{indexed_label, node_value, wanted_in}
use Rattle.store_rules.specs.Views.{Records, is_live, kind_at}
use Rattle.index_check.specs.Definitions.{definition_at}
use Rattle.index_check.specs.declared.definitions.Definition.{Definition}

-- the definition was read, and is one of the store
pub record IsGiven (records : Records) (d : Definition) : Type 0 where
  pub among : IsAmongDefinitions records d.id
  pub is : d ≡ definition_at records d.id

-- Each entry of the definition is wanted, each node that has a value for it has an entry, and no
-- node has two.
pub record IsRight (records : Records) (d : ℕ) : Type 0 where
  pub wanted : (b x : ℕ) → IsInBucket records d b x
      → wanted_in records (entry_in records d x) ≡ true
  pub has : (n : ℕ) (value : Value)
      → node_value records (indexed_label records d) (indexed_key records d) n ≡ Some value
      → IsEntered records d n
  pub once : (b x c y : ℕ) → IsInBucket records d b x → IsInBucket records d c y
      → entry_node records x ≡ entry_node records y → x ≡ y

-- the record breaks the eighth rule
pub record BreaksIndexRule (records : Records) (damage : Damage) : Type 0 where
  pub rule_is : damage.rule ≡ 8
  pub breaks : IndexBreaks records damage

-- the eighth rule is decided: it is kept, or a record breaks it
abbrev pub DecidesIndexRule : Records → Option Damage → Type 0
DecidesIndexRule records None = AreIndexed records (wanted_in records)
DecidesIndexRule records (Some damage) = BreaksIndexRule records damage

-- ---- the lists of all definitions

-- Each definition has its records of heads and its buckets, and no record is in two of these lists.
pub record AreAllListed (records : Records) (ids : List ℕ) : Type 0 where
  pub heads : (d c : ℕ) → In d ids → c < 12
      → kind_at records format.index_file (heads_of records d c) ≡ format.heads
  pub buckets : (d b : ℕ) → In d ids → b < 180
      → (members : List ℕ) × IsBucketList records d b members
  pub head_once : (h : ℕ) → HeadRecordKeeps records h
  pub entry_once : (d b e c x : ℕ) → IsInBucket records d b x → IsInBucket records e c x → d ≡ e

-- besides, just these records and the definitions are seen
pub record AreAllSeen (records : Records) (ids : List ℕ) (seen : List Bool) : Type 0 where
  pub listed : AreAllListed records ids
  pub told : (x : ℕ) → Decides (is_seen seen x) (IsOfAnIndex records x)

-- besides, each record in use is one of them
pub record AreAllHeld (records : Records) (ids : List ℕ) : Type 0 where
  pub listed : AreAllListed records ids
  pub held : (x : ℕ) → is_live records format.index_file x ≡ true → IsOfAnIndex records x
