-- What an index that is made makes of a store, and why none is made.
use Rattle.std.specs.Prelude.{◌≡◌, ℕ, ◌+◌, ◌<◌, ◌≤◌, List, ◌∷◌, length, map}
use Rattle.std.specs.List.{Contains}
use Rattle.rec_bytes.specs.Format as format
use Rattle.rec_bytes.specs.Space.{SameButReads, State, meta_of}
use Rattle.store_rules.specs.Chains.{In}
use Rattle.store_rules.specs.Indexes.{IsIndexed}
use Rattle.store_rules.specs.Views.{Records, high}
use Rattle.prop_index.specs.Collecting.{contents_in}
use Rattle.prop_index.specs.Defining.{HasLeft, SameElsewhere}
use Rattle.prop_index.specs.Finding.{IsPair}
use Rattle.prop_index.specs.Listing.{ArePairsMet, pair_of}
use Rattle.prop_index.specs.declared.listing.IndexPair.{IndexPair}
use Rattle.prop_index.specs.declared.make_fault.MakeFault.{MakeFault}
use Rattle.prop_index.specs.declared.make_fault.MakeFault.TheVariants as makes

-- how many nodes of the label have the key
abbrev pub count_of : Records → ℕ → ℕ → ℕ
count_of records label key = length (contents_in records label key (high records format.nodes_file))

abbrev pub pair_is : ℕ → ℕ → IndexPair
pair_is label key = record { label = label; key = key }

-- one of these definitions is of the pair
pub record HasPair (records : Records) (definitions : List ℕ) (label key : ℕ) : Type 0 where
  pub definition : ℕ
  pub listed : In definition definitions
  pub pair : IsPair records label key definition

-- none of them is
abbrev pub LacksPair : Records → List ℕ → ℕ → ℕ → Type 0
LacksPair records definitions label key =
    (d : ℕ) → In d definitions → ¬ IsPair records label key d

-- none is, and there may be one more
pub record MayDefine (records : Records) (definitions : List ℕ) (label key : ℕ) : Type 0 where
  pub lacked : LacksPair records definitions label key
  pub few : length definitions < 16

-- The pair has an index now, in front of the others. Its entries are those of the nodes, and only
-- the file of the indexes is other than it was.
pub record WritesIndex (old new : State) (label key : ℕ) (was : IsIndexed old.records old.shape)
    : Type 0 where
  pub store : IsIndexed new.records new.shape
  pub pairs : map (pair_of new.records) store.indexes.definitions
      ≡ pair_is label key ∷ map (pair_of old.records) was.indexes.definitions
  pub others : SameElsewhere old.records new.records

-- So it has, and it could have one. The count is that of its entries.
pub record MakesIndex (old new : State) (label key : ℕ) (was : IsIndexed old.records old.shape)
    (count : ℕ) : Type 0 where
  pub written : WritesIndex old new label key was
  pub may : MayDefine old.records was.indexes.definitions label key
  pub count_is : count ≡ count_of old.records label key
  pub few : count ≤ 1024
  pub room : HasLeft old (13 + count)

-- why the pair can't get an index
abbrev pub IsPairFault : Records → List ℕ → ℕ → ℕ → MakeFault → Type 0
IsPairFault records definitions label key makes.There = HasPair records definitions label key
IsPairFault records definitions label key makes.Many =
    LacksPair records definitions label key × (length definitions ≡ 16)
IsPairFault records definitions label key (makes.TooLarge count) = ⊥
IsPairFault records definitions label key (makes.Full live) = ⊥
IsPairFault records definitions label key makes.Memory = Unit {0}
IsPairFault records definitions label key makes.Disk = Unit {0}
IsPairFault records definitions label key (makes.Damaged damage) = ⊥

-- In a store each refusal says what is so, and no earlier one does. No record is damaged.
abbrev pub IsMakeRefusal : (s : State) → IsIndexed s.records s.shape → ℕ → ℕ → MakeFault → Type 0
IsMakeRefusal s was label key makes.There = HasPair s.records was.indexes.definitions label key
IsMakeRefusal s was label key makes.Many =
    LacksPair s.records was.indexes.definitions label key
    × (length was.indexes.definitions ≡ 16)
IsMakeRefusal s was label key (makes.TooLarge count) =
    MayDefine s.records was.indexes.definitions label key
    × (count ≡ count_of s.records label key) × (1024 < count)
IsMakeRefusal s was label key (makes.Full live) =
    MayDefine s.records was.indexes.definitions label key
    × (count_of s.records label key ≤ 1024)
    × (live ≡ (meta_of s format.index_file).live)
    × (¬ HasLeft s (13 + count_of s.records label key))
IsMakeRefusal s was label key makes.Memory = Unit {0}
IsMakeRefusal s was label key makes.Disk = Unit {0}
IsMakeRefusal s was label key (makes.Damaged damage) = ⊥

-- ---- why none is made, by what the records say, whether or not they keep the rules

-- the pair is one of those of the definitions to which the chain leads
pub record HasPairMet (records : Records) (label key : ℕ) : Type 0 where
  pub pairs : List IndexPair
  pub met : ArePairsMet records pairs
  pub there : Contains pairs (pair_is label key)

-- they are as many as there may be
pub record AreManyMet (records : Records) : Type 0 where
  pub pairs : List IndexPair
  pub met : ArePairsMet records pairs
  pub many : length pairs ≡ 16

abbrev pub IsPairCause : Records → ℕ → ℕ → MakeFault → Type 0
IsPairCause records label key makes.There = HasPairMet records label key
IsPairCause records label key makes.Many = AreManyMet records
IsPairCause records label key (makes.TooLarge count) = ⊥
IsPairCause records label key (makes.Full live) = ⊥
IsPairCause records label key makes.Memory = Unit {0}
IsPairCause records label key makes.Disk = Unit {0}
IsPairCause records label key (makes.Damaged damage) = Unit {0}

-- The count of nodes with the key is the one that is told, and the file has no room for so many
-- records. A record that is blamed has a clause of its own.
abbrev pub IsMakeCause : State → ℕ → ℕ → MakeFault → Type 0
IsMakeCause s label key makes.There = HasPairMet s.records label key
IsMakeCause s label key makes.Many = AreManyMet s.records
IsMakeCause s label key (makes.TooLarge count) =
    (count ≡ count_of s.records label key) × (1024 < count)
IsMakeCause s label key (makes.Full live) =
    (live ≡ (meta_of s format.index_file).live) × (¬ HasLeft s (13 + count_of s.records label key))
IsMakeCause s label key makes.Memory = Unit {0}
IsMakeCause s label key makes.Disk = Unit {0}
IsMakeCause s label key (makes.Damaged damage) = Unit {0}

-- where the file is full nothing was written
abbrev pub IsUnwrittenFull : State → State → MakeFault → Type 0
IsUnwrittenFull s t makes.There = Unit {0}
IsUnwrittenFull s t makes.Many = Unit {0}
IsUnwrittenFull s t (makes.TooLarge count) = Unit {0}
IsUnwrittenFull s t (makes.Full live) = SameButReads s t
IsUnwrittenFull s t makes.Memory = Unit {0}
IsUnwrittenFull s t makes.Disk = Unit {0}
IsUnwrittenFull s t (makes.Damaged damage) = Unit {0}
