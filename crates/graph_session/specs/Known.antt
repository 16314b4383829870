-- A disk as it is seen by one who knows what it tells of its reads, or who doesn't.
use Rattle.std.specs.Prelude.{Bool, true, false}
use Rattle.disk_model.specs.declared.disk.Disk.{Ghosts}

-- what is told holds, where it is known
abbrev pub TellsIf : Bool → Type 0 → Type 0
TellsIf true tells = tells
TellsIf false tells = ⊥

-- The disk, which tells what it reads only where that is known. So what is said of it where nothing
-- is known holds of each disk, also of one that tells its reads and holds no store.
abbrev pub as_known : {D : Type 0} → Bool → Ghosts D → Ghosts D
as_known known g = record g { tells_reads = TellsIf known g.tells_reads }
