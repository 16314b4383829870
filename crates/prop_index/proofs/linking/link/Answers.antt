use Rattle.std.proofs.Common.{arith, rules}
use Rattle.prop_index.proofs.IndexTouches.{only_front_put, only_wrote, put_then_back, then_head}
use Rattle.rec_bytes.proofs.Causes.{never_ok, ok_cause}
use Rattle.prop_index.proofs.Causes.{space_passed}
use Rattle.prop_store.proofs.Causes.{later_on}
use Rattle.prop_index.proofs.linking.link.Goals as goal

pub returns-in_err-back-clause-touches : goal.returns-in_err-back-clause-touches
returns-in_err-back-clause-touches g c =
    put_then_back c.args.id c.args.slot.id c.args.first _ _ _ (only_front_put c.args.id c.args.slot.id c.args.first _ _ _ c.in_ok-put.ensures.ok)
    c.in_err-back.ensures.keys

pub returns-in_err-set_number-clause-touches : goal.returns-in_err-set_number-clause-touches
returns-in_err-set_number-clause-touches g c =
    then_head c.args.id c.args.slot.id c.args.first _ _ _
    (put_then_back c.args.id c.args.slot.id c.args.first _ _ _ (only_front_put c.args.id c.args.slot.id c.args.first _ _ _ c.in_ok-put.ensures.ok)
    c.in_ok-back.ensures.keys)
    (only_wrote _ _ c.args.slot.id c.in_err-set_number.ensures.wrote)

pub returns-clause-touches : goal.returns-clause-touches
returns-clause-touches g c =
    then_head c.args.id c.args.slot.id c.args.first _ _ _
    (put_then_back c.args.id c.args.slot.id c.args.first _ _ _ (only_front_put c.args.id c.args.slot.id c.args.first _ _ _ c.in_ok-put.ensures.ok)
    c.in_ok-back.ensures.keys)
    (only_wrote _ _ c.args.slot.id c.in_ok-set_number.ensures.wrote)

pub returns-in_err-put-clause-ok : goal.returns-in_err-put-clause-ok
returns-in_err-put-clause-ok g c _ = never_ok c.from_residual.result _ _ c.from_residual.ensures.1

pub returns-in_err-put-clause-onward : goal.returns-in_err-put-clause-onward
returns-in_err-put-clause-onward g c = search rules

pub returns-in_err-back-clause-ok : goal.returns-in_err-back-clause-ok
returns-in_err-back-clause-ok g c _ = never_ok c.from_residual-in_err-back.result _ _ c.from_residual-in_err-back.ensures.1

pub returns-in_err-set_number-clause-ok : goal.returns-in_err-set_number-clause-ok
returns-in_err-set_number-clause-ok g c _ = never_ok c.from_residual-in_err-set_number.result _ _ c.from_residual-in_err-set_number.ensures.1

pub returns-clause-cause : goal.returns-clause-cause
returns-clause-cause g c = ok_cause _ _ _ _ (omega arith)

pub returns-in_err-back-clause-onward : goal.returns-in_err-back-clause-onward
returns-in_err-back-clause-onward g c = g.met.S.Reads.further_onward _ _ _ c.in_ok-put.ensures.onward c.in_err-back.ensures.onward

pub returns-in_err-set_number-clause-onward : goal.returns-in_err-set_number-clause-onward
returns-in_err-set_number-clause-onward g c =
    g.met.S.Reads.further_onward _ _ _ (g.met.S.Reads.further_onward _ _ _ c.in_ok-put.ensures.onward c.in_ok-back.ensures.onward)
    c.in_err-set_number.ensures.onward

pub returns-clause-onward : goal.returns-clause-onward
returns-clause-onward g c =
    g.met.S.Reads.further_onward _ _ _ (g.met.S.Reads.further_onward _ _ _ c.in_ok-put.ensures.onward c.in_ok-back.ensures.onward)
    c.in_ok-set_number.ensures.onward

pub returns-in_err-put-clause-cause : goal.returns-in_err-put-clause-cause
returns-in_err-put-clause-cause g c =
    space_passed _ _ _ c.from_residual.result c.in_err-put.field-0.0 (omega arith) c.in_err-put.ensures.cause c.from_residual.ensures.1

pub returns-in_err-back-clause-cause : goal.returns-in_err-back-clause-cause
returns-in_err-back-clause-cause g c =
    space_passed _ _ _ c.from_residual-in_err-back.result c.in_err-back.field-0.0 c.in_ok-put.ensures.cause.later c.in_err-back.ensures.cause
    c.from_residual-in_err-back.ensures.1

pub returns-in_err-set_number-clause-cause : goal.returns-in_err-set_number-clause-cause
returns-in_err-set_number-clause-cause g c =
    space_passed _ _ _ c.from_residual-in_err-set_number.result c.in_err-set_number.field-0.0
    (later_on c.in_ok-put.ensures.cause.later c.in_ok-back.ensures.cause.later) c.in_err-set_number.ensures.cause c.from_residual-in_err-set_number.ensures.1

pub set_number-requires-clause-key : goal.set_number-requires-clause-key
set_number-requires-clause-key g c = c.requires.slot

pub set_number-requires-clause-place : goal.set_number-requires-clause-place
set_number-requires-clause-place g c = c.requires.place
