use Rattle.std.proofs.Common.{◌≡◌, take}
use Rattle.disk_model.specs.PlainDisk.{rooms_of, AllZeros}
use Rattle.disk_model.proofs.poke_times.never_poked.Given as goal

abbrev pub invariant-loop-file : goal.invariant-loop-file
invariant-loop-file l =
    record { rooms : rooms_of l.pokes.items ≡ rooms_of (take l.file-index l.files); zeros : AllZeros l.pokes.items }
