use Rattle.std.proofs.Common.{inl, inr, refl}
use Rattle.std.proofs.lemmas.Result.{err_from_is_err_and}
use Rattle.gremlin_parse.specs.Values.{value_of}
use Rattle.gremlin_parse.proofs.Pairs.{pair_shorter}
use Rattle.gremlin_parse.proofs.Exits.{never_ok}
use Rattle.gremlin_parse.proofs.pair.read_pair.Goals as goal

pub returns-in_err-value-clause-err : goal.returns-in_err-value-clause-err
returns-in_err-value-clause-err c =
    let p = err_from_is_err_and c.from_residual-in_err-value.result c.from_residual-in_err-value.ensures.1 in
    rw (p.1, p.2) (inr (
      tt,
      c.in_ok-at_key.at_key.now,
      c.in_ok-at_key.ensures.ok,
      inr (
        c.in_ok-key.key.now,
        c.in_ok-key.after_key.now,
        c.in_ok-key.ensures.ok,
        inr (tt, c.in_ok-at_value.at_value.now, c.in_ok-at_value.ensures.ok, inl c.in_err-value.ensures.err),
      ),
    ))

pub returns-clause-less : goal.returns-clause-less
returns-clause-less c =
    pair_shorter c.in_ok-key.key.now (value_of c.in_ok-value.value) c.args.bytes.now c.in_ok-value.rest.now (
      c.in_ok-at_key.at_key.now,
      c.in_ok-at_key.ensures.ok,
      (
        c.in_ok-key.after_key.now,
        c.in_ok-key.ensures.ok,
        (c.in_ok-at_value.at_value.now, c.in_ok-at_value.ensures.ok, (c.in_ok-value.rest.now, c.in_ok-value.ensures.ok, refl)),
      ),
    )

pub returns-in_err-value-clause-ok : goal.returns-in_err-value-clause-ok
returns-in_err-value-clause-ok c = never_ok c.from_residual-in_err-value.result _ _ c.from_residual-in_err-value.ensures.1

pub returns-in_err-value-clause-less : goal.returns-in_err-value-clause-less
returns-in_err-value-clause-less c = never_ok c.from_residual-in_err-value.result _ _ c.from_residual-in_err-value.ensures.1

pub returns-in_err-at_key-clause-ok : goal.returns-in_err-at_key-clause-ok
returns-in_err-at_key-clause-ok c = never_ok c.from_residual.result _ _ c.from_residual.ensures.1

pub returns-in_err-at_key-clause-less : goal.returns-in_err-at_key-clause-less
returns-in_err-at_key-clause-less c = never_ok c.from_residual.result _ _ c.from_residual.ensures.1

pub returns-in_err-key-clause-ok : goal.returns-in_err-key-clause-ok
returns-in_err-key-clause-ok c = never_ok c.from_residual-in_err-key.result _ _ c.from_residual-in_err-key.ensures.1

pub returns-in_err-key-clause-less : goal.returns-in_err-key-clause-less
returns-in_err-key-clause-less c = never_ok c.from_residual-in_err-key.result _ _ c.from_residual-in_err-key.ensures.1

pub returns-in_err-at_value-clause-ok : goal.returns-in_err-at_value-clause-ok
returns-in_err-at_value-clause-ok c = never_ok c.from_residual-in_err-at_value.result _ _ c.from_residual-in_err-at_value.ensures.1

pub returns-in_err-at_value-clause-less : goal.returns-in_err-at_value-clause-less
returns-in_err-at_value-clause-less c = never_ok c.from_residual-in_err-at_value.result _ _ c.from_residual-in_err-at_value.ensures.1
