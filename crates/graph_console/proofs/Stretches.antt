-- What a stretch of a run leaves of the count of faults.
use Rattle.std.proofs.Common.{arith}
use Rattle.disk_model.specs.declared.disk.Disk.{Ghosts}
use Rattle.graph_session.specs.Console.{Onward, SessionView}

-- no call, no fault
pub onward_none : {D : Type 0} {g : Ghosts D} {session : SessionView D} → Onward g session session
onward_none = record { disk_later = omega arith }

-- one stretch after the other
pub onward_on : {D : Type 0} {g : Ghosts D} {first old new : SessionView D} → Onward g first old → Onward g old new → Onward g first new
onward_on one two = record { disk_later = omega (arith, one.disk_later, two.disk_later) }
