use Rattle.std.proofs.Common.{◌≡◌, drop}
use Rattle.rec_bytes.specs.RecordFiles.{room_in, room_of, rooms_of}
use Rattle.rec_bytes.proofs.record_files.room_of.Given as goal

-- what is left of the list says the room
abbrev pub invariant-loop-entry : goal.invariant-loop-entry
invariant-loop-entry l = room_in (rooms_of (drop l.entry-index l.entry-items)) l.shape l.file ≡ room_of l.shape l.file
