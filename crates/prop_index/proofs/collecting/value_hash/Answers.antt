use Rattle.std.proofs.Common.{arith, rules}
use Rattle.prop_index.specs.Blaming.{BlamesBroken}
use Rattle.prop_store.proofs.Exits.{same_has}
use Rattle.prop_index.proofs.IndexBlames.{any_read}
use Rattle.rec_bytes.proofs.Causes.{never_ok, ok_cause}
use Rattle.prop_index.proofs.collecting.value_hash.Goals as goal

pub returns-in_err-value-clause-damaged : goal.returns-in_err-value-clause-damaged
returns-in_err-value-clause-damaged g c tells used =
    let s = g.R.Reads.state c.args.space.now in
    same_has (BlamesBroken s.records s.shape) c.from_residual.result c.in_err-value.field-0.0 c.from_residual.ensures.1
    (any_read s.records s.shape c.in_err-value.field-0.0 (c.in_err-value.ensures.damaged tells used))

pub returns-in_err-value-clause-met : goal.returns-in_err-value-clause-met
returns-in_err-value-clause-met g c _ = never_ok c.from_residual.result _ _ c.from_residual.ensures.1

pub returns-in_err-value-clause-onward : goal.returns-in_err-value-clause-onward
returns-in_err-value-clause-onward g c = search rules

pub returns-clause-cause : goal.returns-clause-cause
returns-clause-cause g c = ok_cause _ _ _ _ (omega arith)
