use Rattle.std.proofs.Common.{◌≡◌, take}
use Rattle.disk_model.specs.PlainDisk.{rooms_of, AllZeros}
use Rattle.disk_model.proofs.marks.no_marks.Given as goal

abbrev pub invariant-loop-file : goal.invariant-loop-file
invariant-loop-file l =
    record { rooms : rooms_of l.marks.items ≡ rooms_of (take l.file-index l.files); zeros : AllZeros l.marks.items }
