use Rattle.std.proofs.Common.{◌+◌, ◌++◌, ◌∷◌, [], ◌∙◌, ap, List, subst}
use Rattle.std.proofs.lemmas.Result.{err_from_is_err_and}
use Rattle.plain_graph.specs.declared.pairs.Pair.{Pair}
use Rattle.gremlin_parse.specs.Queries.{Quote, PairKey, OfChange, Elements}
use Rattle.gremlin_parse.specs.Stages.{steps_of}
use Rattle.gremlin_parse.specs.Values.{value_of}
use Rattle.gremlin_parse.proofs.QueryReads.{stop_of_memory}
use Rattle.gremlin_parse.proofs.MutationReads.{PropertiesKept, PropertiesStop, one_so_far, stop_in_later_values, values_kept}
use Rattle.gremlin_parse.proofs.Exits.{never_ok}
use Rattle.gremlin_parse.proofs.mutation.read_values.Goals as goal

pub returns-in_err-key-clause-err : goal.returns-in_err-key-clause-err
returns-in_err-key-clause-err c =
    let p = err_from_is_err_and c.from_residual.result c.from_residual.ensures.1 in
    rw (p.1, p.2) (λ query same. c.in_err-key.ensures.err (OfChange (Elements query) []))

pub returns-in_err-push_pair-clause-err : goal.returns-in_err-push_pair-clause-err
returns-in_err-push_pair-clause-err c =
    let p = err_from_is_err_and c.from_residual-in_err-push_pair.result c.from_residual-in_err-push_pair.ensures.1 in
    rw (p.1, p.2) (λ query same. stop_of_memory (Quote (PairKey (OfChange (Elements query) []))) c.args.bytes.now c.in_err-push_pair.field-0.0
    c.in_err-push_pair.ensures.err)

pub returns-in_err-pairs-clause-err : goal.returns-in_err-pairs-clause-err
returns-in_err-pairs-clause-err c =
    let p = err_from_is_err_and c.from_residual-in_err-pairs.result c.from_residual-in_err-pairs.ensures.1 in
    let one = c.in_ok-push_pair.ensures.ok ∙ ap (λ (list : List Pair). list ++ record { key = c.in_ok-key.key.now; value = value_of c.in_ok-key.value } ∷ [])
    c.new-first.ensures.items in
    rw (p.1, p.2) (λ query same. stop_in_later_values query (c.args.before + 1) c.in_ok-key.key.now c.args.bytes.now c.in_ok-key.rest.now
    (value_of c.in_ok-key.value) c.in_err-pairs.field-0.0 c.in_ok-key.ensures.ok (subst (λ (first : List Pair). PropertiesStop (c.args.before + 1)
    first c.in_ok-key.rest.now c.in_err-pairs.field-0.0) one c.in_err-pairs.ensures.err) (one_so_far (steps_of query) c.args.before c.in_ok-key.key.now
    (value_of c.in_ok-key.value) same))

pub returns-clause-ok : goal.returns-clause-ok
returns-clause-ok c = λ query same.
    let one = c.in_ok-push_pair.ensures.ok ∙ ap (λ (list : List Pair). list ++ record { key = c.in_ok-key.key.now; value = value_of c.in_ok-key.value } ∷ [])
    c.new-first.ensures.items in
    values_kept query (c.args.before + 1) c.in_ok-key.key.now c.args.bytes.now c.in_ok-key.rest.now (value_of c.in_ok-key.value) c.in_ok-pairs.pairs
    c.in_ok-key.ensures.ok (subst (λ (first : List Pair). PropertiesKept (c.args.before + 1) first c.in_ok-pairs.pairs c.in_ok-key.rest.now)
    one c.in_ok-pairs.ensures.ok) (one_so_far (steps_of query) c.args.before c.in_ok-key.key.now (value_of c.in_ok-key.value) same)

pub returns-in_err-key-clause-ok : goal.returns-in_err-key-clause-ok
returns-in_err-key-clause-ok c = never_ok c.from_residual.result _ _ c.from_residual.ensures.1

pub returns-in_err-push_pair-clause-ok : goal.returns-in_err-push_pair-clause-ok
returns-in_err-push_pair-clause-ok c = never_ok c.from_residual-in_err-push_pair.result _ _ c.from_residual-in_err-push_pair.ensures.1

pub returns-in_err-pairs-clause-ok : goal.returns-in_err-pairs-clause-ok
returns-in_err-pairs-clause-ok c = never_ok c.from_residual-in_err-pairs.result _ _ c.from_residual-in_err-pairs.ensures.1
