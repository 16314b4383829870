use Rattle.std.proofs.Common.{arith, rules}
use Rattle.prop_index.proofs.IndexTouches.{index_given, index_then}
use Rattle.rec_bytes.proofs.Causes.{never_ok, ok_cause}
use Rattle.prop_index.proofs.Causes.{space_passed}
use Rattle.prop_store.proofs.Causes.{later_on}
use Rattle.prop_index.proofs.unlinking.unlink.Goals as goal

pub returns-in_err-give-clause-touches : goal.returns-in_err-give-clause-touches
returns-in_err-give-clause-touches g c = index_given 3 _ _ c.args.id (omega arith)
    (record { writes = c.in_err-give.ensures.writes; stays = c.in_err-give.ensures.stays })

pub returns-in_err-back-clause-touches : goal.returns-in_err-back-clause-touches
returns-in_err-back-clause-touches g c =
    index_then 1 1 3 _ _ _ (omega arith) (index_given 1 _ _ c.args.id (omega arith)
    (record { writes = c.in_ok-give.ensures.writes; stays = c.in_ok-give.ensures.stays })) c.in_err-back.ensures.touches

pub returns-in_err-lead-clause-touches : goal.returns-in_err-lead-clause-touches
returns-in_err-lead-clause-touches g c =
    index_then 2 1 3 _ _ _ (omega arith) (index_then 1 1 2 _ _ _ (omega arith) (index_given 1 _ _ c.args.id (omega arith)
    (record { writes = c.in_ok-give.ensures.writes; stays = c.in_ok-give.ensures.stays }))
    c.in_ok-back.ensures.touches) c.in_err-lead.ensures.touches

pub returns-clause-touches : goal.returns-clause-touches
returns-clause-touches g c =
    index_then 2 1 3 _ _ _ (omega arith) (index_then 1 1 2 _ _ _ (omega arith) (index_given 1 _ _ c.args.id (omega arith)
    (record { writes = c.in_ok-give.ensures.writes; stays = c.in_ok-give.ensures.stays }))
    c.in_ok-back.ensures.touches) c.in_ok-lead.ensures.touches

pub returns-in_err-give-clause-ok : goal.returns-in_err-give-clause-ok
returns-in_err-give-clause-ok g c _ = never_ok c.from_residual.result _ _ c.from_residual.ensures.1

pub returns-in_err-give-clause-onward : goal.returns-in_err-give-clause-onward
returns-in_err-give-clause-onward g c = search rules

pub returns-in_err-back-clause-ok : goal.returns-in_err-back-clause-ok
returns-in_err-back-clause-ok g c _ = never_ok c.from_residual-in_err-back.result _ _ c.from_residual-in_err-back.ensures.1

pub returns-in_err-lead-clause-ok : goal.returns-in_err-lead-clause-ok
returns-in_err-lead-clause-ok g c _ = never_ok c.from_residual-in_err-lead.result _ _ c.from_residual-in_err-lead.ensures.1

pub returns-clause-cause : goal.returns-clause-cause
returns-clause-cause g c = ok_cause _ _ _ _ (omega arith)

pub returns-in_err-give-clause-cause : goal.returns-in_err-give-clause-cause
returns-in_err-give-clause-cause g c =
    space_passed _ _ _ c.from_residual.result c.in_err-give.field-0.0 (omega arith) c.in_err-give.ensures.cause c.from_residual.ensures.1

pub returns-in_err-back-clause-cause : goal.returns-in_err-back-clause-cause
returns-in_err-back-clause-cause g c =
    space_passed _ _ _ c.from_residual-in_err-back.result c.in_err-back.field-0.0 c.in_ok-give.ensures.cause.later c.in_err-back.ensures.cause
    c.from_residual-in_err-back.ensures.1

pub returns-in_err-lead-clause-cause : goal.returns-in_err-lead-clause-cause
returns-in_err-lead-clause-cause g c =
    space_passed _ _ _ c.from_residual-in_err-lead.result c.in_err-lead.field-0.0 (later_on c.in_ok-give.ensures.cause.later c.in_ok-back.ensures.cause.later)
    c.in_err-lead.ensures.cause c.from_residual-in_err-lead.ensures.1

pub returns-in_err-back-clause-onward : goal.returns-in_err-back-clause-onward
returns-in_err-back-clause-onward g c = g.met.S.Reads.further_onward _ _ _ c.in_ok-give.ensures.onward c.in_err-back.ensures.onward

pub returns-in_err-lead-clause-onward : goal.returns-in_err-lead-clause-onward
returns-in_err-lead-clause-onward g c =
    g.met.S.Reads.further_onward _ _ _ (g.met.S.Reads.further_onward _ _ _ c.in_ok-give.ensures.onward c.in_ok-back.ensures.onward) c.in_err-lead.ensures.onward

pub returns-clause-onward : goal.returns-clause-onward
returns-clause-onward g c =
    g.met.S.Reads.further_onward _ _ _ (g.met.S.Reads.further_onward _ _ _ c.in_ok-give.ensures.onward c.in_ok-back.ensures.onward) c.in_ok-lead.ensures.onward

pub lead-requires-clause-slot : goal.lead-requires-clause-slot
lead-requires-clause-slot g c = c.requires.slot

pub lead-requires-clause-place : goal.lead-requires-clause-place
lead-requires-clause-place g c = c.requires.place

pub lead-requires-clause-before : goal.lead-requires-clause-before
lead-requires-clause-before g c = c.requires.before
