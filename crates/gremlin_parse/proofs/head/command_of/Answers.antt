use Rattle.std.proofs.Common.{refl}
use Rattle.std.proofs.lemmas.Result.{IfOk-weaker}
use Rattle.gremlin_parse.specs.Commands.{built}
use Rattle.gremlin_parse.proofs.head.command_of.Goals as goal

pub returns-in-Alone-clause-ok : goal.returns-in-Alone-clause-ok
unfolding built
returns-in-Alone-clause-ok c = rw (c.in-Alone.is, c.plain_command.ensures) refl

pub returns-in-Set-clause-ok : goal.returns-in-Set-clause-ok
returns-in-Set-clause-ok c = rw c.in-Set.is (IfOk-weaker c.set_of.result _ _ (λ command is. is c.args.last) c.set_of.ensures.ok)

pub returns-in-Unset-clause-ok : goal.returns-in-Unset-clause-ok
returns-in-Unset-clause-ok c = rw c.in-Unset.is (IfOk-weaker c.unset_of.result _ _ (λ command is. is c.args.last) c.unset_of.ensures.ok)

pub returns-in-Index-clause-ok : goal.returns-in-Index-clause-ok
returns-in-Index-clause-ok c = rw c.in-Index.is (IfOk-weaker c.index_of.result _ _ (λ command is. is c.args.last) c.index_of.ensures.ok)

pub returns-in-Find-clause-ok : goal.returns-in-Find-clause-ok
returns-in-Find-clause-ok c = rw c.in-Find.is (IfOk-weaker c.find_of.result _ _ (λ command is. is c.args.last) c.find_of.ensures.ok)

pub returns-in-Expand-clause-ok : goal.returns-in-Expand-clause-ok
returns-in-Expand-clause-ok c = rw c.in-Expand.is (IfOk-weaker c.expand_of.result _ _ (λ command is. is c.args.last) c.expand_of.ensures.ok)

pub returns-in-Delete-clause-ok : goal.returns-in-Delete-clause-ok
returns-in-Delete-clause-ok c = rw c.in-Delete.is (c.delete_of.ensures c.args.last)
