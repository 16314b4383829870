use Rattle.gremlin_parse.proofs.Exits.{never_ok}
use Rattle.gremlin_parse.proofs.argument.read_argument.Goals as goal

pub returns-in_ok-word-in-Element-clause-ok : goal.returns-in_ok-word-in-Element-clause-ok
returns-in_ok-word-in-Element-clause-ok c = rw c.in-Element.is c.in_ok-word-in-Element.ensures.ok

pub returns-in_ok-direction-in-Direction-clause-ok : goal.returns-in_ok-direction-in-Direction-clause-ok
returns-in_ok-direction-in-Direction-clause-ok c = rw c.in-Direction.is c.in_ok-direction-in-Direction.ensures.ok

pub returns-in_ok-name-in-Name-clause-ok : goal.returns-in_ok-name-in-Name-clause-ok
returns-in_ok-name-in-Name-clause-ok c = rw c.in-Name.is c.in_ok-name-in-Name.ensures.ok

pub returns-in_ok-number-in-Number-clause-ok : goal.returns-in_ok-number-in-Number-clause-ok
returns-in_ok-number-in-Number-clause-ok c = rw c.in-Number.is c.in_ok-number-in-Number.ensures.ok

pub returns-in_ok-value-in-Value-clause-ok : goal.returns-in_ok-value-in-Value-clause-ok
returns-in_ok-value-in-Value-clause-ok c = rw c.in-Value.is c.in_ok-value-in-Value.ensures.ok

pub returns-in_err-word-in-Element-clause-ok : goal.returns-in_err-word-in-Element-clause-ok
returns-in_err-word-in-Element-clause-ok c = never_ok c.from_residual.result _ _ c.from_residual.ensures.1

pub returns-in_err-direction-in-Direction-clause-ok : goal.returns-in_err-direction-in-Direction-clause-ok
returns-in_err-direction-in-Direction-clause-ok c = never_ok c.from_residual-in_err-direction-in-Direction.result _ _
    c.from_residual-in_err-direction-in-Direction.ensures.1

pub returns-in_err-name-in-Name-clause-ok : goal.returns-in_err-name-in-Name-clause-ok
returns-in_err-name-in-Name-clause-ok c = never_ok c.from_residual-in_err-name-in-Name.result _ _ c.from_residual-in_err-name-in-Name.ensures.1

pub returns-in_err-number-in-Number-clause-ok : goal.returns-in_err-number-in-Number-clause-ok
returns-in_err-number-in-Number-clause-ok c = never_ok c.from_residual-in_err-number-in-Number.result _ _ c.from_residual-in_err-number-in-Number.ensures.1

pub returns-in_err-value-in-Value-clause-ok : goal.returns-in_err-value-in-Value-clause-ok
returns-in_err-value-in-Value-clause-ok c = never_ok c.from_residual-in_err-value-in-Value.result _ _ c.from_residual-in_err-value-in-Value.ensures.1
