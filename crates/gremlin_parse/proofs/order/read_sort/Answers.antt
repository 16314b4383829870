use Rattle.gremlin_parse.proofs.OrderReads.{sort_leads}
use Rattle.gremlin_parse.proofs.order.read_sort.Goals as goal

pub returns-in-Ok-clause-ok : goal.returns-in-Ok-clause-ok
returns-in-Ok-clause-ok c = sort_leads c.args.bytes.now c.in-Ok.read.1.now c.in-Ok.read.0 c.in-Ok.ensures.ok
