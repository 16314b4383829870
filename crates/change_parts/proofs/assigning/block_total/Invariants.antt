use Rattle.std.proofs.Common.{◌≡◌, ◌*◌, ◌≤◌, take}
use Rattle.change_parts.specs.Assigning.{assigned_blocks}
use Rattle.change_parts.proofs.assigning.block_total.Given as goal

abbrev pub invariant-loop-assignment : goal.invariant-loop-assignment
invariant-loop-assignment l =
    (l.blocks ≡ assigned_blocks l.pairs (take l.assignment-index l.assigned)) × (l.blocks ≤ 22 * l.assignment-index)
