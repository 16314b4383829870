use Rattle.std.proofs.Common.{◌+◌, List, sym, subst}
use Rattle.std.proofs.lemmas.Result.{err_from_is_err_and}
use Rattle.plain_graph.specs.declared.pairs.Pair.{Pair}
use Rattle.gremlin_parse.specs.Queries.{Changed}
use Rattle.gremlin_parse.specs.Values.{value_of}
use Rattle.gremlin_parse.proofs.Runs.{is_nothing}
use Rattle.gremlin_parse.proofs.QueryReads.{stop_of_memory}
use Rattle.gremlin_parse.proofs.MutationReads.{PropertiesSoFar, PropertiesKept, no_properties, one_property_more}
use Rattle.gremlin_parse.proofs.MutationReads.{stop_in_names_of_properties, stop_in_property, properties_kept}
use Rattle.gremlin_parse.proofs.Exits.{never_ok}
use Rattle.gremlin_parse.proofs.mutation.read_properties.Goals as goal

pub loop-rest-init : goal.loop-rest-init
loop-rest-init c = no_properties c.args.before c.args.first.items c.args.bytes.now c.requires

pub returns-in_err-at_key-clause-err : goal.returns-in_err-at_key-clause-err
returns-in_err-at_key-clause-err c =
    let p = err_from_is_err_and c.from_residual.result c.from_residual.ensures.1 in
    rw (p.1, p.2) (stop_in_names_of_properties c.args.before c.args.first.items c.args.bytes.now c.loop-rest.pairs.items c.loop-rest.count c.loop-rest.rest.now
    c.in_err-at_key.field-0.0 c.loop-rest.invariant c.in_err-at_key.ensures.err)

pub returns-in_err-key-clause-err : goal.returns-in_err-key-clause-err
returns-in_err-key-clause-err c =
    let p = err_from_is_err_and c.from_residual-in_err-key.result c.from_residual-in_err-key.ensures.1 in
    rw (p.1, p.2) (stop_in_property c.args.before c.args.first.items c.args.bytes.now c.loop-rest.pairs.items c.loop-rest.count c.loop-rest.rest.now
    c.in_ok-at_key.at_key.now c.in_err-key.field-0.0 c.loop-rest.invariant c.in_ok-at_key.ensures.ok c.in_err-key.ensures.err)

pub returns-in_err-push_pair-clause-err : goal.returns-in_err-push_pair-clause-err
returns-in_err-push_pair-clause-err c =
    let p = err_from_is_err_and c.from_residual-in_err-push_pair.result c.from_residual-in_err-push_pair.ensures.1 in
    rw (p.1, p.2) (λ subject same. stop_of_memory (Changed subject c.args.first.items) c.args.bytes.now c.in_err-push_pair.field-0.0
    c.in_err-push_pair.ensures.err)

pub loop-rest-preserved : goal.loop-rest-preserved
loop-rest-preserved c =
    let more = one_property_more c.args.before c.args.first.items c.args.bytes.now c.loop-rest.pairs.items c.loop-rest.count c.loop-rest.rest.now
    c.in_ok-at_key.at_key.now c.in_ok-key.after.now c.in_ok-key.key.now (value_of c.in_ok-key.value) c.loop-rest.invariant c.in_ok-at_key.ensures.early
    c.in_ok-at_key.ensures.ok c.in_ok-key.ensures.ok in
    subst (λ (list : List Pair). PropertiesSoFar c.args.before c.args.first.items c.args.bytes.now list (c.loop-rest.count + 1) c.in_ok-key.after.now)
    (sym c.in_ok-push_pair.ensures.ok) more

pub returns-clause-ok : goal.returns-clause-ok
returns-clause-ok c =
    subst (λ (list : List Pair). PropertiesKept c.args.before c.args.first.items list c.args.bytes.now) (sym c.new.ensures)
    (properties_kept c.args.before c.args.first.items c.args.bytes.now c.loop-rest.pairs.items c.loop-rest.count c.loop-rest.rest.now c.loop-rest.invariant
    (is_nothing c.loop-rest.rest.now c.is_empty.result c.is_empty.ensures c.loop-rest-test.false))

pub returns-in_err-at_key-clause-ok : goal.returns-in_err-at_key-clause-ok
returns-in_err-at_key-clause-ok c = never_ok c.from_residual.result _ _ c.from_residual.ensures.1

pub returns-in_err-key-clause-ok : goal.returns-in_err-key-clause-ok
returns-in_err-key-clause-ok c = never_ok c.from_residual-in_err-key.result _ _ c.from_residual-in_err-key.ensures.1

pub returns-in_err-push_pair-clause-ok : goal.returns-in_err-push_pair-clause-ok
returns-in_err-push_pair-clause-ok c = never_ok c.from_residual-in_err-push_pair.result _ _ c.from_residual-in_err-push_pair.ensures.1
