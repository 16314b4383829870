-- The blocks of a long text.
use Rattle.std.specs.Prelude.{◌≡◌, ◌≢◌, ◌⊎◌, ◌<◌, ◌-◌, ℕ, List, [], ◌∷◌, length, min}
use Rattle.rec_bytes.specs.declared.damage.Damage.{Damage}
use Rattle.rec_bytes.specs.declared.fault.Fault.{Fault}
use Rattle.rec_bytes.specs.declared.fault.Fault.TheVariants.{Memory, Disk, Damaged}
use Rattle.rec_bytes.specs.declared.key.Key.{Key}
use Rattle.rec_bytes.specs.declared.record.Rec.{Rec}
use Rattle.rec_bytes.specs.Format as format
use Rattle.rec_bytes.specs.Record.{field}
use Rattle.rec_bytes.specs.Space.{State}
use Rattle.store_rules.specs.Breaking.{HasBlock, IsLong, block_size, damage, first_block}
use Rattle.store_rules.specs.Breaking.{next_block, text_size}
use Rattle.store_rules.specs.Chains.{In}
use Rattle.store_rules.specs.Properties.{AreBlocks, AreOnce, head_of}
use Rattle.store_rules.specs.Views.{Records, key_in, kind_at}
use Rattle.prop_store.specs.GivenOut.{IsLinkDamage, holder_of}

-- the record is one of a block of so many bytes
pub record HasBlockForm (r : Rec) (size : ℕ) : Type 0 where
  pub kind : field 1 r format.kind ≡ format.block
  pub length_is : field 1 r format.block_length ≡ size

-- The blocks from this one on have a text of so many bytes.
pub record HasText (string_file : ℕ → Rec) (first size : ℕ) (text blocks : List ℕ) : Type 0 where
  pub are : AreBlocks string_file text blocks
  pub size_is : length text ≡ size
  pub first_is : first ≡ head_of blocks

-- a block's, or that of one that is not in use
abbrev pub IsBlockKind : ℕ → Type 0
IsBlockKind kind = (kind ≡ format.free_kind) ⊎ (kind ≡ format.block)

-- The block is in use and has so many bytes.
pub record IsBlockOf (records : Records) (b size : ℕ) : Type 0 where
  pub some : b ≢ format.nil
  pub used : kind_at records format.strings_file b ≢ format.free_kind
  pub size_is : block_size records b ≡ size

-- Why there is no block of so many bytes of the property's text where a link leads to one: the link
-- leads to none that was given out, the record is of no known kind, or it is not such a block.
pub data IsBlockDamage (s : State) (p : ℕ) (from : Key) (b size : ℕ) : Damage → Type 0 where
  BadLink : (d : Damage) → b ≢ format.nil → IsLinkDamage s from format.strings_file b d
      → IsBlockDamage s p from b size d
  Unknown : ¬ IsBlockKind (kind_at s.records format.strings_file b)
      → IsBlockDamage s p from b size (damage format.strings_file b 1)
  NotSuch : ¬ IsBlockOf s.records b size
      → IsBlockDamage s p from b size (damage format.properties_file p 5)

abbrev pub IsBlockFault : State → ℕ → Key → ℕ → ℕ → Fault → Type 0
IsBlockFault s p from b size Memory = Unit {0}
IsBlockFault s p from b size Disk = Unit {0}
IsBlockFault s p from b size (Damaged d) = IsBlockDamage s p from b size d

-- These are the first blocks of a text of so many bytes from one on. They lead to this one, and so
-- many bytes are left.
abbrev pub ArePassed : Records → (from size : ℕ) → List ℕ → (at left : ℕ) → Type 0
ArePassed records from size [] at left = (from ≡ at) × (size ≡ left)
ArePassed records from size (b ∷ bs) at left =
    (from ≡ b) × (0 < size) × IsBlockOf records b (min 48 size)
    × ArePassed records (next_block records b) (size - 48) bs at left

-- The property has a text in blocks, of which this is the first, and of so many bytes.
pub record IsTextOf (records : Records) (p first size : ℕ) : Type 0 where
  pub long : IsLong records p
  pub first_is : first ≡ first_block records p
  pub size_is : size ≡ text_size records p

-- Why the property has no text: after some of its blocks there is no next one, or there is one
-- after the last.
pub data IsTextDamage (s : State) (p : ℕ) : Damage → Type 0 where
  NoBlock : (bs : List ℕ) (at left : ℕ) (d : Damage)
      → ArePassed s.records (first_block s.records p) (text_size s.records p) bs at left → 0 < left
      → IsBlockDamage s p (holder_of format.strings_file (key_in format.properties_file p) bs) at
      (min 48 left) d
      → IsTextDamage s p d
  TooMany : (bs : List ℕ) (at : ℕ)
      → ArePassed s.records (first_block s.records p) (text_size s.records p) bs at 0
      → at ≢ format.nil → IsTextDamage s p (damage format.properties_file p 5)

abbrev pub IsTextFault : State → ℕ → Fault → Type 0
IsTextFault s p Memory = Unit {0}
IsTextFault s p Disk = Unit {0}
IsTextFault s p (Damaged d) = IsLong s.records p × IsTextDamage s p d

-- the property has each of these blocks
abbrev pub HasBlocks : Records → ℕ → List ℕ → Type 0
HasBlocks records p bs = (b : ℕ) → In b bs → HasBlock records p b

-- These blocks are in use, and none comes twice.
pub record AreUsedOnce (records : Records) (bs : List ℕ) : Type 0 where
  pub once : AreOnce bs
  pub used : (b : ℕ) → In b bs → kind_at records format.strings_file b ≢ format.free_kind
