use Rattle.std.proofs.Common.{get_or}
use Rattle.change_parts.proofs.Assigned.{pair_form}
use Rattle.change_parts.proofs.assigning.block_total.Goals as goal

-- each value is one that a store may keep
pub block_count-blocks-requires : goal.block_count-blocks-requires
block_count-blocks-requires c =
    let i = c.loop-assignment.assignment-index in
    let place = (get_or c.args.assigned.now i (record { key = 0; pair = 0 })).pair in
    (pair_form c.args.pairs.now place c.index-pairs-assignment.result c.requires.pairs (c.requires.placed i (record { key = 0; pair = 0 })
    c.loop-assignment-test.true)).1
