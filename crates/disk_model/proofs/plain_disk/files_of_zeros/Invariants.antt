use Rattle.std.proofs.Common.{◌≡◌, take}
use Rattle.disk_model.specs.PlainDisk.{rooms_of, AllZeros}
use Rattle.disk_model.proofs.plain_disk.files_of_zeros.Given as goal

abbrev pub invariant-loop-room : goal.invariant-loop-room
invariant-loop-room l =
    record { rooms : rooms_of l.files.items ≡ take l.room-index l.room-items; zeros : AllZeros l.files.items }
