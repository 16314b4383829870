-- What the eighth rule asks of each record of a store with indexes, and which records break it.
use Rattle.std.specs.Prelude.{◌≡◌, ◌≢◌, ℕ, zero, suc, ◌/◌, ◌<◌, ◌≤◌, true, false, List, length}
use Rattle.std.specs.Prelude.{Some}
use Rattle.plain_graph.specs.declared.value.Value.{Value}
use Rattle.rec_bytes.specs.declared.damage.Damage.{Damage}
use Rattle.rec_bytes.specs.Format as format
use Rattle.store_rules.specs.Chains.{In, IsChain, IsWalk}
use Rattle.store_rules.specs.Hashes.{bucket_of}
use Rattle.store_rules.specs.Indexes.{entry_hash, entry_in, entry_node, first_definition}
use Rattle.store_rules.specs.Indexes.{first_entry, heads_of, indexed_key, indexed_label}
use Rattle.store_rules.specs.Indexes.{next_definition, next_entry, node_value, previous_entry}
use Rattle.store_rules.specs.Indexes.{wanted_in}
use Rattle.store_rules.specs.Views.{Records, high, is_live, kind_at}

-- ---- the lists that the records lead through

-- The definitions of a store are these, in the order of their chain.
pub record AreDefinitions (records : Records) (members : List ℕ) : Type 0 where
  pub walk : IsWalk (next_definition records) (first_definition records) members
  pub few : length members ≤ 16
  pub defined : (d : ℕ) → In d members
      → kind_at records format.index_file d ≡ format.definition

-- a definition of the store
pub record IsAmongDefinitions (records : Records) (d : ℕ) : Type 0 where
  pub members : List ℕ
  pub list : AreDefinitions records members
  pub member : In d members

-- The bucket of this number is a chain of these, from the first one that a record of heads names.
-- Each is an entry, and has a hash of the bucket.
pub record IsBucketList (records : Records) (d b : ℕ) (members : List ℕ) : Type 0 where
  pub head : kind_at records format.index_file (heads_of records d (b / 15)) ≡ format.heads
  pub chain : IsChain (next_entry records) (previous_entry records) format.nil
      (first_entry records d b) members
  pub kind : (x : ℕ) → In x members → kind_at records format.index_file x ≡ format.indexed
  pub hash : (x : ℕ) → In x members → bucket_of (entry_hash records x) ≡ b

-- the record is the one of this number among the twelve of a definition
pub record IsHeadRecord (records : Records) (d c h : ℕ) : Type 0 where
  pub definition : IsAmongDefinitions records d
  pub low : c < 12
  pub is : heads_of records d c ≡ h

-- the entry is in this bucket of a definition
pub record IsInBucket (records : Records) (d b x : ℕ) : Type 0 where
  pub definition : IsAmongDefinitions records d
  pub low : b < 180
  pub members : List ℕ
  pub list : IsBucketList records d b members
  pub member : In x members

-- ---- what the rule says of one record

-- the eighth rule of the meta record of the indexes: there are definitions
pub record HasDefinitions (records : Records) : Type 0 where
  pub members : List ℕ
  pub list : AreDefinitions records members

-- the eighth rule of a definition: no other one has its label and its key, its records of heads are
-- heads, and it has its buckets
pub record DefinitionKeeps (records : Records) (d : ℕ) : Type 0 where
  pub alone : (e : ℕ) → IsAmongDefinitions records e
      → indexed_label records e ≡ indexed_label records d
      → indexed_key records e ≡ indexed_key records d → e ≡ d
  pub heads : (c : ℕ) → c < 12
      → kind_at records format.index_file (heads_of records d c) ≡ format.heads
  pub buckets : (b : ℕ) → b < 180 → (members : List ℕ) × IsBucketList records d b members

-- the eighth rule of a record of heads: it is one of one definition
pub record HeadRecordKeeps (records : Records) (h : ℕ) : Type 0 where
  pub once : (d c e k : ℕ) → IsHeadRecord records d c h → IsHeadRecord records e k h
      → (d ≡ e) × (c ≡ k)

-- the eighth rule of an entry: it is one of one definition, and its node has a value of its hash
pub record EntryKeeps (records : Records) (x : ℕ) : Type 0 where
  pub once : (d b e c : ℕ) → IsInBucket records d b x → IsInBucket records e c x → d ≡ e
  pub wanted : (d b : ℕ) → IsInBucket records d b x
      → wanted_in records (entry_in records d x) ≡ true

-- the definition has an entry of the node
pub record IsEntered (records : Records) (d n : ℕ) : Type 0 where
  pub bucket : ℕ
  pub entry : ℕ
  pub there : IsInBucket records d bucket entry
  pub node : entry_node records entry ≡ n

-- the eighth rule of a node: each definition of its label whose key it has has one entry of it
pub record IndexedNodeKeeps (records : Records) (n : ℕ) : Type 0 where
  pub has : (d : ℕ) (value : Value) → IsAmongDefinitions records d
      → node_value records (indexed_label records d) (indexed_key records d) n ≡ Some value
      → IsEntered records d n
  pub once : (d b x c y : ℕ) → IsInBucket records d b x → IsInBucket records d c y
      → entry_node records x ≡ n → entry_node records y ≡ n → x ≡ y

-- the record is a definition, or a head or an entry of one
pub data IsOfAnIndex (records : Records) (x : ℕ) : Type 0 where
  Defines : IsAmongDefinitions records x → IsOfAnIndex records x
  Heads : (d c : ℕ) → IsHeadRecord records d c x → IsOfAnIndex records x
  Enters : (d b : ℕ) → IsInBucket records d b x → IsOfAnIndex records x

-- each record keeps the rule
pub record EachKeeps (records : Records) : Type 0 where
  pub meta : HasDefinitions records
  pub definition : (d : ℕ) → IsAmongDefinitions records d → DefinitionKeeps records d
  pub head : (h : ℕ) → HeadRecordKeeps records h
  pub entry : (x : ℕ) → EntryKeeps records x
  pub node : (n : ℕ) → IndexedNodeKeeps records n
  pub held : (x : ℕ) → is_live records format.index_file x ≡ true → IsOfAnIndex records x

-- ---- what the links lead to, also where they make no right list

-- The chain of the definitions leads to the record. It goes on as long as it leads to definitions.
pub data LeadsToDefinition (records : Records) : ℕ → Type 0 where
  FirstDefinition : (d : ℕ) → first_definition records ≡ d → d ≢ format.nil
      → LeadsToDefinition records d
  NextDefinition : (d e : ℕ) → LeadsToDefinition records d
      → kind_at records format.index_file d ≡ format.definition
      → next_definition records d ≡ e → e ≢ format.nil → LeadsToDefinition records e

-- The chain leads to a definition, whose record of heads for this bucket is one.
pub record HasHead (records : Records) (d b : ℕ) : Type 0 where
  pub leads : LeadsToDefinition records d
  pub defined : kind_at records format.index_file d ≡ format.definition
  pub low : b < 180
  pub head : kind_at records format.index_file (heads_of records d (b / 15)) ≡ format.heads

-- The bucket leads to the record after so many entries. It goes on as long as it leads to entries.
pub data LeadsToEntry (records : Records) (d b : ℕ) : ℕ → ℕ → Type 0 where
  FirstEntry : (x : ℕ) → HasHead records d b → first_entry records d b ≡ x → x ≢ format.nil
      → LeadsToEntry records d b zero x
  NextEntry : (n x y : ℕ) → LeadsToEntry records d b n x
      → kind_at records format.index_file x ≡ format.indexed
      → next_entry records x ≡ y → y ≢ format.nil → LeadsToEntry records d b (suc n) y

abbrev pub index_damage : ℕ → ℕ → Damage
index_damage file id = record { file = file; id = id; rule = 8 }

-- The record breaks the eighth rule: what the rule says of it is false. Or it was given out, a link
-- of the indexes leads to it, and it is of another kind; it stands in a bucket after as many
-- entries as were given out; or it is an entry of a bucket that isn't wanted there.
pub data IndexBreaks (records : Records) : Damage → Type 0 where
  WrongDefinitions : ¬ HasDefinitions records
      → IndexBreaks records (index_damage format.meta_file format.index_file)
  WrongDefinition : (d : ℕ) → IsAmongDefinitions records d → ¬ DefinitionKeeps records d
      → IndexBreaks records (index_damage format.index_file d)
  WrongHead : (h : ℕ) → ¬ HeadRecordKeeps records h
      → IndexBreaks records (index_damage format.index_file h)
  WrongEntry : (x : ℕ) → ¬ EntryKeeps records x
      → IndexBreaks records (index_damage format.index_file x)
  WrongNode : (n : ℕ) → ¬ IndexedNodeKeeps records n
      → IndexBreaks records (index_damage format.nodes_file n)
  LeftOver : (x : ℕ) → is_live records format.index_file x ≡ true → ¬ IsOfAnIndex records x
      → IndexBreaks records (index_damage format.index_file x)
  OtherDefinition : (d : ℕ) → LeadsToDefinition records d → d < high records format.index_file
      → kind_at records format.index_file d ≢ format.definition
      → IndexBreaks records (index_damage format.index_file d)
  OtherHead : (d c : ℕ) → LeadsToDefinition records d
      → kind_at records format.index_file d ≡ format.definition → c < 12
      → heads_of records d c < high records format.index_file
      → kind_at records format.index_file (heads_of records d c) ≢ format.heads
      → IndexBreaks records (index_damage format.index_file (heads_of records d c))
  OtherEntry : (d b n x : ℕ) → LeadsToEntry records d b n x → x < high records format.index_file
      → kind_at records format.index_file x ≢ format.indexed
      → IndexBreaks records (index_damage format.index_file x)
  LateEntry : (d b n x : ℕ) → LeadsToEntry records d b n x
      → high records format.index_file ≤ n
      → IndexBreaks records (index_damage format.index_file x)
  UnwantedEntry : (d b n x : ℕ) → LeadsToEntry records d b n x
      → kind_at records format.index_file x ≡ format.indexed
      → wanted_in records (entry_in records d x) ≡ false
      → IndexBreaks records (index_damage format.index_file x)
