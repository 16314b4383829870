use Rattle.std.proofs.Common.{drop, arith, length-drop}
use Rattle.disk_model.proofs.Lays.{sync_count-most}
use Rattle.disk_model.proofs.call_log.sync_counts.Goals as goal

pub count_sync-requires-clause-counts : goal.count_sync-requires-clause-counts
count_sync-requires-clause-counts c file =
    let most = sync_count-most (drop c.loop-i.i c.args.calls.now) file in
    omega (arith, most, length-drop c.loop-i.i c.args.calls.now, c.loop-i.invariant.counts file)
