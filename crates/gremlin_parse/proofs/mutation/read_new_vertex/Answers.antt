use Rattle.std.proofs.Common.{ℕ, List, None, sym, subst}
use Rattle.std.proofs.lemmas.Result.{err_from_is_err_and}
use Rattle.plain_graph.specs.declared.command.Command.TheVariants as commands
use Rattle.plain_graph.specs.declared.mutation.Mutation.TheVariants as mutations
use Rattle.plain_graph.specs.declared.pairs.Pair.{Pair}
use Rattle.gremlin_parse.specs.Queries.{Quote, VertexLabel, is_loose, turn}
use Rattle.gremlin_parse.specs.Turns.{KeptFrom}
use Rattle.gremlin_parse.proofs.QueryReads.{stop_of_memory}
use Rattle.gremlin_parse.proofs.MutationReads.{PropertiesKept, PropertiesStop, stop_in_vertex_label}
use Rattle.gremlin_parse.proofs.MutationReads.{stop_after_vertex_label, stop_in_vertex_properties, vertex_kept}
use Rattle.gremlin_parse.proofs.Exits.{never_ok}
use Rattle.gremlin_parse.proofs.mutation.read_new_vertex.Goals as goal

pub returns-in_err-name-clause-err : goal.returns-in_err-name-clause-err
returns-in_err-name-clause-err c =
    let p = err_from_is_err_and c.from_residual.result c.from_residual.ensures.1 in
    rw (p.1, p.2) (stop_in_vertex_label c.args.bytes.now c.in_err-name.field-0.0 c.in_err-name.ensures.err)

pub returns-in_err-rest-clause-err : goal.returns-in_err-rest-clause-err
returns-in_err-rest-clause-err c =
    let p = err_from_is_err_and c.from_residual-in_err-rest.result c.from_residual-in_err-rest.ensures.1 in
    rw (p.1, p.2) (stop_after_vertex_label c.in_ok-name.name.now c.args.bytes.now c.in_ok-name.at_close.now c.in_err-rest.field-0.0 c.in_ok-name.ensures.ok
    c.in_err-rest.ensures.err)

pub returns-in_err-label-clause-err : goal.returns-in_err-label-clause-err
returns-in_err-label-clause-err c =
    let p = err_from_is_err_and c.from_residual-in_err-label.result c.from_residual-in_err-label.ensures.1 in
    rw (p.1, p.2) (stop_of_memory (Quote VertexLabel) c.args.bytes.now c.in_err-label.field-0.0 c.in_err-label.ensures.err)

pub returns-in_err-pairs-clause-err : goal.returns-in_err-pairs-clause-err
returns-in_err-pairs-clause-err c =
    let p = err_from_is_err_and c.from_residual-in_err-pairs.result c.from_residual-in_err-pairs.ensures.1 in
    rw (p.1, p.2) (stop_in_vertex_properties c.in_ok-name.name.now c.args.bytes.now c.in_ok-name.at_close.now c.in_ok-rest.rest.now c.in_err-pairs.field-0.0
    c.in_ok-name.ensures.ok c.in_ok-rest.ensures.ok (subst (λ (first : List Pair). PropertiesStop 0 first c.in_ok-rest.rest.now c.in_err-pairs.field-0.0)
    c.new.ensures.items c.in_err-pairs.ensures.err))

pub returns-clause-ok : goal.returns-clause-ok
returns-clause-ok c =
    let pairs = c.in_ok-pairs.pairs in
    let kept = subst (λ (first : List Pair). PropertiesKept 0 first pairs c.in_ok-rest.rest.now) c.new.ensures.items c.in_ok-pairs.ensures.ok in
    subst (λ (label : List ℕ). KeptFrom turn is_loose (commands.Mutate None (mutations.AddV label pairs)) (Quote VertexLabel) c.args.bytes.now)
    (sym c.in_ok-label.ensures.ok) (vertex_kept c.in_ok-name.name.now c.args.bytes.now c.in_ok-name.at_close.now c.in_ok-rest.rest.now pairs
    c.in_ok-name.ensures.ok c.in_ok-rest.ensures.ok kept)

pub returns-in_err-name-clause-ok : goal.returns-in_err-name-clause-ok
returns-in_err-name-clause-ok c = never_ok c.from_residual.result _ _ c.from_residual.ensures.1

pub returns-in_err-rest-clause-ok : goal.returns-in_err-rest-clause-ok
returns-in_err-rest-clause-ok c = never_ok c.from_residual-in_err-rest.result _ _ c.from_residual-in_err-rest.ensures.1

pub returns-in_err-label-clause-ok : goal.returns-in_err-label-clause-ok
returns-in_err-label-clause-ok c = never_ok c.from_residual-in_err-label.result _ _ c.from_residual-in_err-label.ensures.1

pub returns-in_err-pairs-clause-ok : goal.returns-in_err-pairs-clause-ok
returns-in_err-pairs-clause-ok c = never_ok c.from_residual-in_err-pairs.result _ _ c.from_residual-in_err-pairs.ensures.1
