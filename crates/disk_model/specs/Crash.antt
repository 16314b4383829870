-- The images that a disk in memory can be asked for.
use Rattle.std.specs.Prelude.{ℕ, ◌%◌, if◌then◌else◌}
use Rattle.disk_model.specs.declared.memory_disk.Crash.{Crash}
use Rattle.disk_model.specs.declared.memory_disk.Crash.TheVariants.{Old, New, Fill, Mixed}
use Rattle.disk_model.specs.Contents.{Files}
use Rattle.disk_model.specs.Calls.{pending_since, synced_since}
use Rattle.disk_model.specs.Generator.{drawn}
use Rattle.disk_model.specs.PlainDisk.{contents}
use Rattle.disk_model.specs.Places.{count_before}
use Rattle.disk_model.specs.MemoryDisk.{MemoryDiskState, content_of}

-- how many pending places come before this one: all of the files before, and the lower ones of its
-- own file
abbrev pub pending_before : MemoryDiskState → ℕ → ℕ → ℕ
pending_before disk file place =
    count_before (pending_since (contents disk.pokes) disk.calls) disk.base file place

-- the image of this choice: at a place that is not pending what a read gives, at a pending one what
-- the choice says
abbrev pub left_by : Crash → MemoryDiskState → Files
left_by Old disk file place =
    if pending_since (contents disk.pokes) disk.calls file place
    then synced_since (contents disk.base) (contents disk.pokes) disk.calls file place
    else content_of disk file place
left_by New disk file place = content_of disk file place
left_by (Fill byte) disk file place =
    if pending_since (contents disk.pokes) disk.calls file place then byte
    else content_of disk file place
left_by (Mixed seed) disk file place =
    if pending_since (contents disk.pokes) disk.calls file place
    then drawn seed (pending_before disk file place) % 256
    else content_of disk file place
