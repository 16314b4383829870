use Rattle.std.proofs.Common.{Some, sym, subst}
use Rattle.std.proofs.lemmas.Result.{IfOk-weaker, IfErr-weaker}
use Rattle.plain_graph.specs.declared.command.Command.TheVariants as commands
use Rattle.gremlin_parse.specs.Queries.{StopsFrom, is_loose, opened, turn}
use Rattle.gremlin_parse.specs.Turns.{KeptFrom}
use Rattle.gremlin_parse.specs.declared.step_word.ChangeWord.{ChangeWord}
use Rattle.gremlin_parse.specs.declared.step_word.StepWord.TheVariants as words
use Rattle.gremlin_parse.proofs.mutation.read_change.Goals as goal

pub returns-in-Drop-clause-err : goal.returns-in-Drop-clause-err
returns-in-Drop-clause-err c =
    IfErr-weaker c.read_drop.result _ _
    (λ stop at query same. subst (λ (word : ChangeWord). StopsFrom (opened query (words.Change word)) c.args.bytes.now stop) (sym c.in-Drop.is) (at query))
    c.read_drop.ensures.err

pub returns-in-Drop-clause-ok : goal.returns-in-Drop-clause-ok
returns-in-Drop-clause-ok c =
    IfOk-weaker c.read_drop.result _ _
    (λ mutation kept query same. subst (λ (word : ChangeWord). KeptFrom turn is_loose (commands.Mutate (Some query) mutation) (opened query (words.Change word))
    c.args.bytes.now) (sym c.in-Drop.is) (kept query))
    c.read_drop.ensures.ok

pub returns-in-AddE-clause-err : goal.returns-in-AddE-clause-err
returns-in-AddE-clause-err c =
    IfErr-weaker c.read_new_edges.result _ _
    (λ stop at query same. subst (λ (word : ChangeWord). StopsFrom (opened query (words.Change word)) c.args.bytes.now stop) (sym c.in-AddE.is) (at query same))
    c.read_new_edges.ensures.err

pub returns-in-AddE-clause-ok : goal.returns-in-AddE-clause-ok
returns-in-AddE-clause-ok c =
    IfOk-weaker c.read_new_edges.result _ _
    (λ mutation kept query same. subst (λ (word : ChangeWord). KeptFrom turn is_loose (commands.Mutate (Some query) mutation) (opened query (words.Change word))
    c.args.bytes.now) (sym c.in-AddE.is) (kept query same))
    c.read_new_edges.ensures.ok

pub returns-in-Property-clause-err : goal.returns-in-Property-clause-err
returns-in-Property-clause-err c =
    IfErr-weaker c.read_values.result _ _
    (λ stop at query same. subst (λ (word : ChangeWord). StopsFrom (opened query (words.Change word)) c.args.bytes.now stop) (sym c.in-Property.is)
    (at query same))
    c.read_values.ensures.err

pub returns-in-Property-clause-ok : goal.returns-in-Property-clause-ok
returns-in-Property-clause-ok c =
    IfOk-weaker c.read_values.result _ _
    (λ mutation kept query same. subst (λ (word : ChangeWord). KeptFrom turn is_loose (commands.Mutate (Some query) mutation) (opened query (words.Change word))
    c.args.bytes.now) (sym c.in-Property.is) (kept query same))
    c.read_values.ensures.ok
