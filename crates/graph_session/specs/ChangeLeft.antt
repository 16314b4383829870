-- What a change that is answered leaves of the records, whatever they are, and tells of them.
use Rattle.std.specs.Prelude.{◌≡◌, ℕ, List}
use Rattle.plain_graph.specs.LineChanges.{mutated_reply}
use Rattle.plain_graph.specs.Reply.{Reply}
use Rattle.plain_graph.specs.declared.command.Command.{Command}
use Rattle.plain_graph.specs.declared.command.Command.TheVariants as commands
use Rattle.plain_graph.specs.declared.item.Item.{Item}
use Rattle.store_rules.specs.Views.{Records}
use Rattle.graph_ops.specs.ChangeLeft.{LeavesChange, LeavesMutation}
use Rattle.graph_ops.specs.NewIds.{GetsFreeIds}

-- A mutating query made its changes in turn, on some results of its reading part: which these are
-- is not said, so nothing is said of what `drop()` deletes. Its new elements have the identifiers
-- of their free list, and then those from the mark on. Any other line makes one change.
abbrev pub LeavesRecords : Command → Reply → Records → Records → List (List ℕ) → Type 0
LeavesRecords (commands.Mutate reading mutation) reply old new names =
    (items : List Item) × (results : List Item) × (reply ≡ mutated_reply results)
    × GetsFreeIds mutation results old × LeavesMutation mutation items results old new names
LeavesRecords command reply old new names = LeavesChange command reply old new names
