use Rattle.std.proofs.Common.{subst, sym}
use Rattle.graph_console.specs.Follow.{EndsFollow}
use Rattle.graph_console.proofs.Follows.{ends_follow, lacks_follow}
use Rattle.graph_console.proofs.follow.follow.Goals as goal

pub returns-in-Ok-clause-follows : goal.returns-in-Ok-clause-follows
returns-in-Ok-clause-follows g c = λ k.
    ends_follow (Unit {0}) c.args.options c.taken.result.now _ _ c.end_with_line.result
    (subst (EndsFollow (Unit {0}) c.args.options) (sym c.taken.ensures) c.in-Ok.ensures)
    (c.end_with_line.ensures.written k)

pub returns-in-Err-clause-follows : goal.returns-in-Err-clause-follows
returns-in-Err-clause-follows g c = λ k.
    lacks_follow (Unit {0}) c.args.options _ _ c.end_without_memory.result (c.end_without_memory.ensures.written k)
