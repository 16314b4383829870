use Rattle.std.proofs.Common.{List, ℕ, sym, subst, arith, true}
use Rattle.std.proofs.lemmas.Result.{err_from_is_err_and}
use Rattle.gremlin_parse.specs.Queries.{after_names, LeadsTo}
use Rattle.gremlin_parse.proofs.QueryReads.{NamesSoFar, before_names, stop_in_names, names_more, names_done, stop_of_memory}
use Rattle.gremlin_parse.proofs.Exits.{never_ok}
use Rattle.gremlin_parse.proofs.step.read_some_names.Goals as goal

pub loop-more-init : goal.loop-more-init
loop-more-init c = (
  subst (λ (names : List (List ℕ)). NamesSoFar c.args.bytes.now true names c.args.bytes.now) (sym c.new-names.ensures.items) (before_names c.args.bytes.now),
  omega arith,
)

pub returns-in_err-name-clause-err : goal.returns-in_err-name-clause-err
returns-in_err-name-clause-err c =
    let p = err_from_is_err_and c.from_residual.result c.from_residual.ensures.1 in
    rw (p.1, p.2) (stop_in_names c.args.bytes.now c.loop-more.rest.now c.loop-more.names.items c.loop-more.more c.in_err-name.field-0.0 c.loop-more-test.true
    c.loop-more.invariant.0 c.in_err-name.ensures.err)

pub returns-in_err-push_name-clause-err : goal.returns-in_err-push_name-clause-err
returns-in_err-push_name-clause-err c =
    let p = err_from_is_err_and c.from_residual-in_err-push_name.result c.from_residual-in_err-push_name.ensures.1 in
    rw (p.1, p.2) (λ purpose place quotes. stop_of_memory place c.args.bytes.now c.in_err-push_name.field-0.0 c.in_err-push_name.ensures.err)

pub loop-more-preserved : goal.loop-more-preserved
loop-more-preserved c =
    let before = c.loop-more.invariant.1 in
    let less = c.in_ok-name.ensures.less in (
      subst (λ (names : List (List ℕ)). NamesSoFar c.args.bytes.now c.in_ok-name.again names c.in_ok-name.after.now) (sym c.in_ok-push_name.ensures.ok)
          (names_more c.args.bytes.now c.loop-more.rest.now c.in_ok-name.after.now c.in_ok-name.name.now c.loop-more.names.items
          c.loop-more.more c.in_ok-name.again c.loop-more-test.true c.loop-more.invariant.0 c.in_ok-name.ensures.ok),
      omega (arith, before, less),
    )

pub returns-clause-ok : goal.returns-clause-ok
returns-clause-ok c = λ purpose place quotes.
    subst (λ (names : List (List ℕ)). LeadsTo place c.args.bytes.now (after_names purpose names) c.loop-more.rest.now) (sym c.new.ensures)
    (names_done c.args.bytes.now c.loop-more.rest.now c.loop-more.names.items c.loop-more.more c.loop-more-test.false c.loop-more.invariant.0 purpose place
    quotes)

pub returns-clause-within : goal.returns-clause-within
returns-clause-within c = c.loop-more.invariant.1

pub returns-in_err-name-clause-ok : goal.returns-in_err-name-clause-ok
returns-in_err-name-clause-ok c = never_ok c.from_residual.result _ _ c.from_residual.ensures.1

pub returns-in_err-name-clause-within : goal.returns-in_err-name-clause-within
returns-in_err-name-clause-within c = never_ok c.from_residual.result _ _ c.from_residual.ensures.1

pub returns-in_err-push_name-clause-ok : goal.returns-in_err-push_name-clause-ok
returns-in_err-push_name-clause-ok c = never_ok c.from_residual-in_err-push_name.result _ _ c.from_residual-in_err-push_name.ensures.1

pub returns-in_err-push_name-clause-within : goal.returns-in_err-push_name-clause-within
returns-in_err-push_name-clause-within c = never_ok c.from_residual-in_err-push_name.result _ _ c.from_residual-in_err-push_name.ensures.1
