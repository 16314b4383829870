use Rattle.traversal_run.proofs.LeftRows.{takes-if}
use Rattle.traversal_run.proofs.source.Left.take_first.Goals as goal

pub returns-in-Among-clause-some : goal.returns-in-Among-clause-some
returns-in-Among-clause-some c = takes-if c.args.self.now c.in-Among.ids c.take_first.new.self c.take_first.result c.in-Among.is c.take_first.ensures.some
    c.take_first.ensures.ascends
