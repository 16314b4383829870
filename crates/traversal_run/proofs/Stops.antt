-- Why a run stops, told of a part of it and of the whole.
use Rattle.traversal_run.specs.Stop.{MayStop}
use Rattle.traversal_run.specs.declared.stop.Stop.{Stop}
use Rattle.traversal_run.specs.declared.stop.Stop.TheVariants as stops

-- what is known of a stop is known in weaker words
pub may_stop : (ended past all some : Type 0) (stop : Stop) → (ended → all) → (past → some) → MayStop ended past stop → MayStop all some stop
may_stop ended past all some stops.End e p may = e may
may_stop ended past all some stops.Memory e p may = tt
may_stop ended past all some stops.Disk e p may = tt
may_stop ended past all some (stops.Damaged damage) e p may = may
may_stop ended past all some stops.PastCount e p may = p may
