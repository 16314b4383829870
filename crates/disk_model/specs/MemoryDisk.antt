-- A disk in memory that can fail and can lose power: its state, when a call fails, and what a loss
-- of power leaves.
use Rattle.std.specs.Prelude.{
  ◌≡◌,
  ◌⊎◌,
  ◌↔◌,
  ℕ,
  ◌+◌,
  ◌≤◌,
  ◌<◌,
  List,
  [],
  ◌∷◌,
  ◌++◌,
  length,
  take,
  Option,
  Some,
  None,
  refl,
}
use Rattle.std.specs.List.{AllByRecursion, Contains}
use Rattle.std.proofs.Common.{sym, subst}
use Rattle.std.proofs.Math.Nat.{le_refl, le_antisymm}
use Rattle.std.proofs.Math.Seq.{take-length}
use Rattle.fault_count.specs.Cause.{raised}
use Rattle.disk_model.specs.Contents.{Files, Same, poked}
use Rattle.disk_model.specs.PlainDisk.{file_of, rooms_of, contents, rooms}
use Rattle.disk_model.specs.Calls.{Call, Tore, FitsFile, Allows, content_since, bytes_kept}

-- The files as they were on the disk at first, and the kept calls since, the oldest first. A place
-- that was poked had its byte from the first: `pokes` says how many calls had been kept when it was
-- poked last, and these don't count there. The plan of faults: the numbers of the calls that fail,
-- and the number from which all fail. How many calls and bytes of writes have room, and how many
-- calls were made and how many failed.
pub record MemoryDiskState : Type 0 where
  pub base : List (List ℕ)
  pub pokes : List (List ℕ)
  pub calls : List Call
  pub fails : List ℕ
  pub stop : Option ℕ
  pub most_calls : ℕ
  pub most_bytes : ℕ
  pub made : ℕ
  pub faults : ℕ

-- what a read gives: the base with the bytes of each kept write laid over it where the write counts
abbrev pub content_of : MemoryDiskState → Files
content_of disk = content_since (contents disk.base) (contents disk.pokes) disk.calls

-- the contents that a loss of power at this moment may leave
abbrev pub MayLeave : MemoryDiskState → Files → Type 0
MayLeave disk image = Allows (contents disk.base) (contents disk.pokes) disk.calls image

-- the contents that a loss of power may have left at some moment since t calls were kept
abbrev pub LeftSince : MemoryDiskState → ℕ → Files → Type 0
LeftSince disk t image =
    (k : ℕ) × (t ≤ k) × (k ≤ length disk.calls)
    × Allows (contents disk.base) (contents disk.pokes) (take k disk.calls) image

-- each image after is an image before with this byte at the place, and each of those is one after
abbrev pub ArePoked : ℕ → ℕ → ℕ → (Files → Type 0) → (Files → Type 0) → Type 0
ArePoked file at byte old new =
    (image : Files) → new image
    ↔ ((before : Files) × old before × Same (poked file at byte before) image)

-- the call's number is this one or a later one
abbrev pub IsStopped : Option ℕ → ℕ → Type 0
IsStopped None number = ⊥
IsStopped (Some stop) number = stop ≤ number

-- the plan makes the call of this number fail
abbrev pub FailsAt : List ℕ → Option ℕ → ℕ → Type 0
FailsAt fails stop number = Contains fails number ⊎ IsStopped stop number

-- the plan makes the next call fail; the first has the number 1
abbrev pub NextFails : MemoryDiskState → Type 0
NextFails disk = FailsAt disk.fails disk.stop (raised disk.made)

-- n bytes from a place on pass the room of the file
abbrev pub PassesFile : MemoryDiskState → ℕ → ℕ → ℕ → Type 0
PassesFile disk file at n = length (file_of disk.base file) < at + n

-- no call more has room
abbrev pub IsFull : MemoryDiskState → Type 0
IsFull disk = disk.most_calls ≤ length disk.calls

-- n bytes of a write more have no room
abbrev pub PassesBytes : MemoryDiskState → ℕ → Type 0
PassesBytes disk n = disk.most_bytes < bytes_kept disk.calls + n

-- After a failing write: it is kept where the plan made it fail, its bytes don't pass the file's
-- room, and one more call has room; otherwise nothing changes but the counts.
abbrev pub IsAfterFailedWrite : MemoryDiskState → ℕ → ℕ → ℕ → MemoryDiskState → Type 0
IsAfterFailedWrite old file at n new =
    (NextFails old × (¬ PassesFile old file at n) × (¬ IsFull old) × (new ≡ record old {
      calls =
          old.calls ++ Tore file at n ∷ [];
      made = raised old.made;
      faults = raised old.faults;
    }))
    ⊎ ((¬ NextFails old ⊎ (PassesFile old file at n ⊎ IsFull old))
    × (new ≡ record old { made = raised old.made; faults = raised old.faults }))

-- These files are what a read gives. Each has the room that it had in the base, and no kept call
-- passes it. Each of its places was poked after calls that were kept, or never.
pub record IsRead (base pokes files : List (List ℕ)) (calls : List Call) : Type 0 where
  pub count : length base ≡ length (rooms 0)
  pub same_rooms : rooms_of files ≡ rooms_of base
  pub poke_rooms : rooms_of pokes ≡ rooms_of base
  pub past : (file place : ℕ) → contents pokes file place ≤ length calls
  pub reads : Same (content_since (contents base) (contents pokes) calls) (contents files)
  pub fits : AllByRecursion (FitsFile base) calls

-- what a read gives is an image
pub reads_image : (disk : MemoryDiskState) → MayLeave disk (content_of disk)
reads_image disk file place settled = refl

-- an image of now is one since each earlier moment
pub image_counts : (disk : MemoryDiskState) (t : ℕ) (image : Files) → t ≤ length disk.calls
    → MayLeave disk image → LeftSince disk t image
image_counts disk t image earlier leaves = (
  length disk.calls,
  earlier,
  le_refl (length disk.calls),
  subst
      (λ calls. Allows (contents disk.base) (contents disk.pokes) calls image)
      (sym (take-length disk.calls))
      leaves,
)

-- since now there are the images of now alone
pub image_only : (disk : MemoryDiskState) (image : Files) → LeftSince disk (length disk.calls) image
    → MayLeave disk image
image_only disk image since =
    let is_now : since.0 ≡ length disk.calls = le_antisymm since.2 since.1 in
    subst
    (λ calls. Allows (contents disk.base) (contents disk.pokes) calls image)
    (take-length disk.calls)
    (subst (λ k. Allows (contents disk.base) (contents disk.pokes) (take k disk.calls) image) is_now
    since.3)
