use Rattle.std.proofs.Common.{sym, ◌∙◌, arith}
use Rattle.traversal_run.proofs.NamesKnown.{names_at, names_enough}
use Rattle.traversal_run.proofs.naming.text_of.Goals as goal

pub returns-then-number-count-clause-is : goal.returns-then-number-count-clause-is
returns-then-number-count-clause-is c = λ records shape store lt. let same = sym c.text.ensures.is
    ∙ names_at records shape c.args.names.now.names store c.args.number lt in cc

pub returns-else-number-count-clause-is : goal.returns-else-number-count-clause-is
returns-else-number-count-clause-is c = λ records shape store lt.
    let enough = names_enough records shape c.args.names.now.names store in
    let count = c.count.ensures.value in
    absurd (omega (arith, c.if-number-count.false))
