use Rattle.std.proofs.Common.{rules}
use Rattle.gremlin_parse.proofs.text.escaped.Goals as goal

pub returns-in-110 : goal.returns-in-110
returns-in-110 c = search rules
