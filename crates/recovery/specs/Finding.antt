-- What recovery finds on a disk, and why it refuses one.
use Rattle.std.specs.Prelude.{◌≡◌, ◌⊎◌, ℕ, ◌<◌, Some, None, true}
use Rattle.disk_model.specs.Contents.{Files}
use Rattle.disk_model.specs.Spans.{OnlyReads}
use Rattle.disk_model.specs.declared.disk.Disk.{Ghosts}
use Rattle.rec_bytes.specs.Creation.{own_key}
use Rattle.rec_bytes.specs.Format.{meta_file, meta_records}
use Rattle.rec_bytes.specs.MetaForm.{IsMetaRight}
use Rattle.rec_bytes.specs.RecordFiles.{meta_key_of}
use Rattle.rec_bytes.specs.Shape.{is_allowed, shape_of_record, version_of}
use Rattle.rec_bytes.specs.declared.damage.Damage.{Damage}
use Rattle.rec_bytes.specs.declared.key.Key.{Key}
use Rattle.rec_bytes.specs.declared.record.Rec.{Rec}
use Rattle.rec_bytes.specs.declared.shape.Shape.{Shape}
use Rattle.record_file.specs.Records.{IsUnmade}
use Rattle.record_file.specs.Redone.{Redoes}
use Rattle.recovery.specs.LoggedMetas.{IsLogDamage}
use Rattle.recovery.specs.RecoverFault.{meta_rule}
use Rattle.recovery.specs.declared.found.Found.{Found}
use Rattle.recovery.specs.declared.found.Found.TheVariants as found
use Rattle.recovery.specs.declared.recover_fault.RecoverFault.{RecoverFault}
use Rattle.recovery.specs.declared.recover_fault.RecoverFault.TheVariants as faults

-- the record of this number in the meta file is one that a store of this shape may have, of the
-- version that it says
abbrev pub HasMetaRight : (Key → Rec) → Shape → ℕ → Type 0
HasMetaRight space shape id =
    IsMetaRight (version_of (space own_key)) shape id (space (meta_key_of id))

-- so is each record of the meta file
abbrev pub HasMetasRight : (Key → Rec) → Shape → Type 0
HasMetasRight space shape = (id : ℕ) → id < meta_records → HasMetaRight space shape id

-- A store of this shape was made: its own record says the shape, and each record of the meta file
-- is right.
pub record IsMade (space : Key → Rec) (shape : Shape) : Type 0 where
  pub own : shape_of_record (space own_key) ≡ Some shape
  pub metas : HasMetasRight space shape

-- what is found stands on the disk: a store of this shape, or none
abbrev pub IsFound : Files → (Key → Rec) → Found → Type 0
IsFound content space (found.Made shape) = IsMade space shape
IsFound content space found.Unmade = IsUnmade content

-- a store that is found is of a shape that one may have
abbrev pub IsAllowed : Found → Type 0
IsAllowed (found.Made shape) = is_allowed shape ≡ true
IsAllowed found.Unmade = Unit {0}

-- the log is of the right form, so the content redoes to some space
abbrev pub IsIntact : Files → Type 0
IsIntact content = (space : Key → Rec) × Redoes content space

-- the content is a store or none was made in it
abbrev pub Stands : Files → (Key → Rec) → Type 0
Stands content space = IsUnmade content ⊎ ((shape : Shape) × IsMade space shape)

-- the entries of the log make a store of the content, or none was made in it
abbrev pub IsRecoverable : Files → Type 0
IsRecoverable content = (space : Key → Rec) × Redoes content space × Stands content space

-- The disk was only read, unless its log and its records make a store, or none was made in them:
-- files that are no store, or a broken one, are left as they were, whatever the answer is.
abbrev pub IsCareful : {D : Type 0} → Ghosts D → D → D → Type 0
IsCareful g old now = g.tells_reads → OnlyReads g old now ⊎ IsRecoverable (g.reads old)

-- the store's own record says no shape, and yet something was written
abbrev pub IsNoStore : Files → (Key → Rec) → Type 0
IsNoStore content space = (shape_of_record (space own_key) ≡ None) × ¬ IsUnmade content

-- The damage names the first record of the meta file that isn't right.
pub record IsMetaDamage (space : Key → Rec) (shape : Shape) (damage : Damage) : Type 0 where
  pub in_file : damage.file ≡ meta_file
  pub by_rule : damage.rule ≡ meta_rule
  pub has_meta : damage.id < meta_records
  pub wrong : ¬ HasMetaRight space shape damage.id
  pub lower : (id : ℕ) → id < damage.id → HasMetaRight space shape id

-- Why records are refused that the log makes: they are no store's, or a record of the meta file
-- isn't right.
abbrev pub RefusesRecords : Files → (Key → Rec) → RecoverFault → Type 0
RefusesRecords content space faults.Disk = ⊥
RefusesRecords content space faults.NotAStore = IsNoStore content space
RefusesRecords content space (faults.Damaged damage) =
    (shape : Shape) × (shape_of_record (space own_key) ≡ Some shape)
    × IsMetaDamage space shape damage

-- Why a content is refused: for the form of its log, or for the records that the log makes.
abbrev pub Refuses : Files → RecoverFault → Type 0
Refuses content faults.Disk = Unit {0}
Refuses content faults.NotAStore =
    (space : Key → Rec) × Redoes content space × RefusesRecords content space faults.NotAStore
Refuses content (faults.Damaged damage) =
    IsLogDamage content damage ⊎ ((space : Key → Rec) × Redoes content space
    × RefusesRecords content space (faults.Damaged damage))
