use Rattle.std.proofs.Common.{◌+◌, ℕ, List, Some, sym, subst}
use Rattle.std.proofs.lemmas.Result.{err_from_is_err_and}
use Rattle.plain_graph.specs.declared.command.Command.TheVariants as commands
use Rattle.plain_graph.specs.declared.mutation.Mutation.TheVariants as mutations
use Rattle.plain_graph.specs.declared.pairs.Pair.{Pair}
use Rattle.gremlin_parse.specs.Queries.{Quote, EdgeType, is_loose, turn}
use Rattle.gremlin_parse.specs.Stages.{steps_of}
use Rattle.gremlin_parse.specs.Turns.{KeptFrom}
use Rattle.gremlin_parse.proofs.QueryReads.{stop_of_memory}
use Rattle.gremlin_parse.proofs.MutationReads.{PropertiesKept, PropertiesStop, none_yet, stop_in_type, stop_after_type}
use Rattle.gremlin_parse.proofs.MutationReads.{stop_in_to, stop_in_edge_properties, edges_kept}
use Rattle.gremlin_parse.proofs.Exits.{never_ok}
use Rattle.gremlin_parse.proofs.mutation.read_new_edges.Goals as goal

pub returns-in_err-name-clause-err : goal.returns-in_err-name-clause-err
returns-in_err-name-clause-err c =
    let p = err_from_is_err_and c.from_residual.result c.from_residual.ensures.1 in
    rw (p.1, p.2) (λ query same. stop_in_type c.args.bytes.now c.in_err-name.field-0.0 c.in_err-name.ensures.err query)

pub returns-in_err-at_dot-clause-err : goal.returns-in_err-at_dot-clause-err
returns-in_err-at_dot-clause-err c =
    let p = err_from_is_err_and c.from_residual-in_err-at_dot.result c.from_residual-in_err-at_dot.ensures.1 in
    rw (p.1, p.2) (λ query same. stop_after_type c.in_ok-name.name.now c.args.bytes.now c.in_ok-name.at_close.now c.in_err-at_dot.field-0.0
    c.in_ok-name.ensures.ok c.in_err-at_dot.ensures.err query)

pub returns-in_err-to-clause-err : goal.returns-in_err-to-clause-err
returns-in_err-to-clause-err c =
    let p = err_from_is_err_and c.from_residual-in_err-to.result c.from_residual-in_err-to.ensures.1 in
    rw (p.1, p.2) (λ query same. stop_in_to c.in_ok-name.name.now c.args.bytes.now c.in_ok-name.at_close.now c.in_ok-at_dot.at_dot.now c.in_err-to.field-0.0
    c.in_ok-name.ensures.ok c.in_ok-at_dot.ensures.ok c.in_err-to.ensures.err query)

pub returns-in_err-label-clause-err : goal.returns-in_err-label-clause-err
returns-in_err-label-clause-err c =
    let p = err_from_is_err_and c.from_residual-in_err-label.result c.from_residual-in_err-label.ensures.1 in
    rw (p.1, p.2) (λ query same. stop_of_memory (Quote (EdgeType query)) c.args.bytes.now c.in_err-label.field-0.0 c.in_err-label.ensures.err)

pub returns-in_err-pairs-clause-err : goal.returns-in_err-pairs-clause-err
returns-in_err-pairs-clause-err c =
    let p = err_from_is_err_and c.from_residual-in_err-pairs.result c.from_residual-in_err-pairs.ensures.1 in
    rw (p.1, p.2) (λ query same. stop_in_edge_properties query (c.args.before + 1) c.in_ok-name.name.now c.args.bytes.now c.in_ok-name.at_close.now
    c.in_ok-at_dot.at_dot.now c.in_ok-to.rest.now c.in_ok-to.to c.in_err-pairs.field-0.0 c.in_ok-name.ensures.ok c.in_ok-at_dot.ensures.ok
    c.in_ok-to.ensures.ok (subst (λ (first : List Pair). PropertiesStop (c.args.before + 1) first c.in_ok-to.rest.now c.in_err-pairs.field-0.0)
    c.new.ensures.items c.in_err-pairs.ensures.err) (none_yet (steps_of query) c.args.before same))

pub returns-clause-ok : goal.returns-clause-ok
returns-clause-ok c = λ query same.
    let pairs = c.in_ok-pairs.pairs in
    let to = c.in_ok-to.to in
    let kept = subst (λ (first : List Pair). PropertiesKept (c.args.before + 1) first pairs c.in_ok-to.rest.now) c.new.ensures.items c.in_ok-pairs.ensures.ok in
    subst (λ (label : List ℕ). KeptFrom turn is_loose (commands.Mutate (Some query) (mutations.AddE label to pairs)) (Quote (EdgeType query)) c.args.bytes.now)
    (sym c.in_ok-label.ensures.ok) (edges_kept query (c.args.before + 1) c.in_ok-name.name.now c.args.bytes.now c.in_ok-name.at_close.now
    c.in_ok-at_dot.at_dot.now c.in_ok-to.rest.now to pairs c.in_ok-name.ensures.ok c.in_ok-at_dot.ensures.ok c.in_ok-to.ensures.ok kept
    (none_yet (steps_of query) c.args.before same))

pub returns-in_err-name-clause-ok : goal.returns-in_err-name-clause-ok
returns-in_err-name-clause-ok c = never_ok c.from_residual.result _ _ c.from_residual.ensures.1

pub returns-in_err-at_dot-clause-ok : goal.returns-in_err-at_dot-clause-ok
returns-in_err-at_dot-clause-ok c = never_ok c.from_residual-in_err-at_dot.result _ _ c.from_residual-in_err-at_dot.ensures.1

pub returns-in_err-to-clause-ok : goal.returns-in_err-to-clause-ok
returns-in_err-to-clause-ok c = never_ok c.from_residual-in_err-to.result _ _ c.from_residual-in_err-to.ensures.1

pub returns-in_err-label-clause-ok : goal.returns-in_err-label-clause-ok
returns-in_err-label-clause-ok c = never_ok c.from_residual-in_err-label.result _ _ c.from_residual-in_err-label.ensures.1

pub returns-in_err-pairs-clause-ok : goal.returns-in_err-pairs-clause-ok
returns-in_err-pairs-clause-ok c = never_ok c.from_residual-in_err-pairs.result _ _ c.from_residual-in_err-pairs.ensures.1
