use Rattle.std.proofs.Common.{arith, rules}
use Rattle.prop_index.proofs.IndexTouches.{index_wrote}
use Rattle.rec_bytes.proofs.Causes.{never_ok, ok_cause}
use Rattle.prop_index.proofs.linking.back.Goals as goal

pub returns-clause-touches : goal.returns-clause-touches
returns-clause-touches g c = index_wrote 1 _ _ c.args.id (omega arith) c.in_ok-set_number.ensures.wrote

pub returns-in_err-set_number-clause-ok : goal.returns-in_err-set_number-clause-ok
returns-in_err-set_number-clause-ok g c _ = never_ok c.from_residual.result _ _ c.from_residual.ensures.1

pub returns-in_err-set_number-clause-onward : goal.returns-in_err-set_number-clause-onward
returns-in_err-set_number-clause-onward g c = search rules

pub returns-clause-cause : goal.returns-clause-cause
returns-clause-cause g c = ok_cause _ _ _ _ (omega arith)
