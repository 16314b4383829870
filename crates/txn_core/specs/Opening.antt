-- What the opening of a store finds, and why one is refused.
use Rattle.std.specs.Prelude.{◌≡◌, ◌≢◌, ◌⊎◌, ◌≤◌, ℕ, List, [], ◌∷◌, nat_lt, if◌then◌else◌}
use Rattle.disk_model.specs.Contents.{Files}
use Rattle.disk_model.specs.Spans.{AtEachMoment}
use Rattle.disk_model.specs.declared.disk.Disk.{Ghosts}
use Rattle.rec_bytes.specs.Creation.{creation_pairs, own_key, raised, raising_pairs}
use Rattle.rec_bytes.specs.Format.{log_file, newest_version}
use Rattle.rec_bytes.specs.Pairs.{Pairs}
use Rattle.rec_bytes.specs.Shape.{version_of}
use Rattle.rec_bytes.specs.Space.{laid_over}
use Rattle.rec_bytes.specs.declared.key.Key.{Key}
use Rattle.rec_bytes.specs.declared.record.Rec.{Rec}
use Rattle.rec_bytes.specs.declared.shape.Shape.{Shape}
use Rattle.redo_log.specs.Entries.{HasEntries, open_byte}
use Rattle.record_file.specs.Records.{IsUnmade, record_at}
use Rattle.record_file.specs.Redone.{Redoes}
use Rattle.recovery.specs.Finding.{IsMade, Refuses}
use Rattle.recovery.specs.declared.recover_fault.RecoverFault.TheVariants as recover
use Rattle.txn_core.specs.Config.{Suits, shape_of}
use Rattle.txn_core.specs.declared.config.Config.{Config}
use Rattle.txn_core.specs.declared.open_fault.OpenFault.{OpenFault}
use Rattle.txn_core.specs.declared.open_fault.OpenFault.TheVariants.{
  Memory,
  Disk,
  NotAStore,
  Damaged,
  ConfigDiffers,
}

-- the records of a new store over those of a content
abbrev pub made_over : Files → Shape → Key → Rec
made_over content shape = laid_over (record_at content) (creation_pairs shape)

-- a store of this shape stands in the content
pub record HoldsStore (content : Files) (shape : Shape) : Type 0 where
  pub space : Key → Rec
  pub redoes : Redoes content space
  pub made : IsMade space shape

-- The store that is opened over this content: a new one where none was made, of the shape that is
-- asked for; else the one whose records the content redoes to, of a shape that suits, as it is in
-- the newest version.
abbrev pub Opens : Files → Config → Shape → (Key → Rec) → Type 0
Opens content config shape space =
    (IsUnmade content × (shape ≡ shape_of config) × (space ≡ made_over content shape))
    ⊎ ((before : Key → Rec) × Redoes content before × IsMade before shape × Suits config shape
    × (space ≡ raised shape before))

-- a content that redoes to the records of a store as they were, or as they are in the newest
-- version
abbrev pub IsOldOrRaised : Shape → (Key → Rec) → Files → Type 0
IsOldOrRaised shape space left = Redoes left space ⊎ Redoes left (raised shape space)

-- the entry that brings a store of these records to the newest version, and none where it is of
-- that
abbrev pub raising_entries : Shape → (Key → Rec) → List Pairs
raising_entries shape space =
    if nat_lt (version_of (space own_key)) newest_version then raising_pairs shape ∷ [] else []

-- the log has these entries and no other
abbrev pub HasOnly : Files → List Pairs → Type 0
HasOnly content entries = (tail : ℕ) × HasEntries content entries tail

-- What an opening leaves in the log: the entry of a new store; else that of the raise, if there is
-- one.
abbrev pub HasOpeningEntry : Files → Shape → Files → Type 0
HasOpeningEntry content shape left =
    (IsUnmade content × HasOnly left (creation_pairs shape ∷ []))
    ⊎ ((before : Key → Rec) × Redoes content before × HasOnly left (raising_entries shape before))

-- a content with no store and the same records, or with the new one
abbrev pub IsOldOrNew : Files → Shape → Files → Type 0
IsOldOrNew content shape left =
    (IsUnmade left × (record_at left ≡ record_at content)) ⊎ Redoes left (made_over content shape)

-- Why the store of this content is not opened.
abbrev pub RefusesOpening : Files → Config → OpenFault → Type 0
RefusesOpening content config Memory = Unit {0}
RefusesOpening content config Disk = Unit {0}
RefusesOpening content config NotAStore = Refuses content recover.NotAStore
RefusesOpening content config (Damaged damage) = Refuses content (recover.Damaged damage)
RefusesOpening content config (ConfigDiffers stored asked) =
    HoldsStore content stored × (asked ≡ config) × ¬ Suits config stored

-- why a store that stands is not opened: memory or the disk, or another shape is asked for
abbrev pub OnlyDiffers : Shape → Config → OpenFault → Type 0
OnlyDiffers shape config Memory = Unit {0}
OnlyDiffers shape config Disk = Unit {0}
OnlyDiffers shape config NotAStore = ⊥
OnlyDiffers shape config (Damaged damage) = ⊥
OnlyDiffers shape config (ConfigDiffers stored asked) =
    (stored ≡ shape) × (asked ≡ config) × ¬ Suits config shape

-- why no store is made: memory or the disk
abbrev pub IsWant : OpenFault → Type 0
IsWant Memory = Unit {0}
IsWant Disk = Unit {0}
IsWant NotAStore = ⊥
IsWant (Damaged damage) = ⊥
IsWant (ConfigDiffers stored asked) = ⊥

-- another shape is asked for
abbrev pub IsAskedOther : OpenFault → Type 0
IsAskedOther Memory = ⊥
IsAskedOther Disk = ⊥
IsAskedOther NotAStore = ⊥
IsAskedOther (Damaged damage) = ⊥
IsAskedOther (ConfigDiffers stored asked) = Unit {0}

-- The store has the records that it had, of the version that it had: what is read redoes to them,
-- and so does each image that came later.
pub record StaysAsItWas {D : Type 0} (g : Ghosts D) (old new : D) (space : Key → Rec) : Type 0 where
  pub read : Redoes (g.reads new) space
  pub crash : g.tells_images → AtEachMoment g old new
      (λ left. g.may_leave old left ⊎ Redoes left space)

-- A store of the newest version, whose log has no entry.
pub record IsClean (content : Files) : Type 0 where
  pub no_entry : content log_file 0 ≢ open_byte
  pub shape : Shape
  pub store : HoldsStore content shape
  pub newest : newest_version ≤ version_of (store.space own_key)

-- the files are refused for what they hold
abbrev pub IsRefusal : OpenFault → Type 0
IsRefusal Memory = ⊥
IsRefusal Disk = ⊥
IsRefusal NotAStore = Unit {0}
IsRefusal (Damaged damage) = Unit {0}
IsRefusal (ConfigDiffers stored asked) = ⊥
