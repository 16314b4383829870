-- What snapshots see after a commit.
use Rattle.std.specs.Prelude.{◌≡◌, ℕ, true}
use Rattle.disk_model.specs.declared.disk.Disk.{Ghosts}
use Rattle.rec_bytes.specs.declared.key.Key.{Key}
use Rattle.rec_bytes.specs.declared.record.Rec.{Rec}
use Rattle.record_file.specs.Redone.{Redoes}
use Rattle.snap_store.specs.Layers.{is_open, sees}
use Rattle.snap_store.specs.Snaps.{Snapshots}

-- Whatever records are read of the disk, each snapshot that is still open sees over them what it
-- saw over these.
abbrev pub KeepsSights :
    {D : Type 0} → Ghosts D → (Key → Rec) → D → Snapshots → Snapshots → Type 0
KeepsSights g committed disk old new =
    g.tells_reads → (space : Key → Rec) → Redoes (g.reads disk) space
    → (reader : ℕ) → is_open reader new.open_ones ≡ true
    → sees new.open_ones reader space ≡ sees old.open_ones reader committed
