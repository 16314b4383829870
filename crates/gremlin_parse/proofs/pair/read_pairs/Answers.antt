use Rattle.std.proofs.Common.{List, sym, subst}
use Rattle.std.specs.List.{AllByRecursion}
use Rattle.std.proofs.lemmas.Result.{err_from_is_err_and}
use Rattle.plain_graph.specs.declared.pairs.Pair.{Pair}
use Rattle.gremlin_parse.specs.Grammar.{pairs_to_end, IsMadeOf, IsBounded}
use Rattle.gremlin_parse.specs.Values.{value_of}
use Rattle.gremlin_parse.proofs.Runs.{not_empty, is_nothing}
use Rattle.gremlin_parse.proofs.Pairs.{PairsSoFar, pair_more, pairs_stop, pairs_read, pairs_bounded, not_at_end, at_end}
use Rattle.gremlin_parse.proofs.Exits.{never_ok}
use Rattle.gremlin_parse.proofs.pair.read_pairs.Goals as goal

pub returns-in_err-key-clause-err : goal.returns-in_err-key-clause-err
returns-in_err-key-clause-err c =
    let p = err_from_is_err_and c.from_residual.result c.from_residual.ensures.1 in
    let rest = c.loop-rest.rest.now in
    let blanks = c.skip_blanks.result.now in
    rw (p.1, p.2) (pairs_stop c.args.bytes.now rest c.loop-rest.pairs.items c.in_err-key.field-0.0 c.loop-rest.invariant
    (not_at_end rest blanks c.skip_blanks.ensures.takes (not_empty blanks c.is_empty.result c.is_empty.ensures c.loop-rest-test.true))
    c.in_err-key.ensures.err)

pub loop-rest-preserved : goal.loop-rest-preserved
loop-rest-preserved c =
    let rest = c.loop-rest.rest.now in
    let blanks = c.skip_blanks.result.now in
    let more = pair_more c.args.bytes.now rest c.in_ok-key.after.now c.loop-rest.pairs.items c.in_ok-key.key.now (value_of c.in_ok-key.value)
    c.loop-rest.invariant (not_at_end rest blanks c.skip_blanks.ensures.takes (not_empty blanks c.is_empty.result c.is_empty.ensures c.loop-rest-test.true))
    c.in_ok-key.ensures.ok in
    subst (λ (list : List Pair). PairsSoFar c.args.bytes.now list c.in_ok-key.after.now) (sym c.in_ok-push_pair.ensures.ok) more

pub returns-clause-ok : goal.returns-clause-ok
returns-clause-ok c =
    let rest = c.loop-rest.rest.now in
    let blanks = c.skip_blanks.result.now in
    let end = at_end rest blanks c.skip_blanks.ensures.takes (is_nothing blanks c.is_empty.result c.is_empty.ensures c.loop-rest-test.false) in
    subst (λ (list : List Pair). IsMadeOf (pairs_to_end list) c.args.bytes.now) (sym c.new.ensures)
    (pairs_read c.args.bytes.now rest c.loop-rest.pairs.items c.loop-rest.invariant end)

pub returns-clause-bounds : goal.returns-clause-bounds
returns-clause-bounds c = subst (λ (list : List Pair). AllByRecursion IsBounded (pairs_to_end list)) (sym c.new.ensures)
    (pairs_bounded c.args.bytes.now c.loop-rest.rest.now c.loop-rest.pairs.items c.loop-rest.invariant)

pub returns-in_err-key-clause-ok : goal.returns-in_err-key-clause-ok
returns-in_err-key-clause-ok c = never_ok c.from_residual.result _ _ c.from_residual.ensures.1

pub returns-in_err-key-clause-bounds : goal.returns-in_err-key-clause-bounds
returns-in_err-key-clause-bounds c = never_ok c.from_residual.result _ _ c.from_residual.ensures.1

pub returns-in_err-push_pair-clause-ok : goal.returns-in_err-push_pair-clause-ok
returns-in_err-push_pair-clause-ok c = never_ok c.from_residual-in_err-push_pair.result _ _ c.from_residual-in_err-push_pair.ensures.1

pub returns-in_err-push_pair-clause-bounds : goal.returns-in_err-push_pair-clause-bounds
returns-in_err-push_pair-clause-bounds c = never_ok c.from_residual-in_err-push_pair.result _ _ c.from_residual-in_err-push_pair.ensures.1
