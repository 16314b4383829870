use Rattle.std.specs.Prelude.{Err}
use Rattle.std.proofs.Common.{ℕ, subst, sym, arith}
use Rattle.rec_bytes.specs.Fault.{NotDamaged}
use Rattle.rec_bytes.specs.declared.fault.Fault.{Fault}
use Rattle.prop_index.proofs.IndexNamed.{broken_after, broken_back, can_ranged, index_sound, named_after, named_cause, unwritten_handed}
use Rattle.prop_index.proofs.IndexBlames.{blames_reread}
use Rattle.prop_index.proofs.IndexTouches.{index_same, index_then}
use Rattle.prop_index.proofs.leaving.leave.Goals as goal

pub returns-in-Err-clause-not_damaged : goal.returns-in-Err-clause-not_damaged
returns-in-Err-clause-not_damaged g c tells wanted free ix can =
    let s = g.S.Reads.state c.args.space.now in
    let told : NotDamaged {T = ℕ} (Err c.in-Err.fault) = index_sound s wanted ix (can_ranged s free can) c.args.label c.args.key c.in-Err.fault
    (c.in-Err.ensures.wrong tells) in
    subst (λ (f : Fault). NotDamaged {T = ℕ} (Err f)) (sym (c.name_index.ensures.passed told)) told

pub returns-in-Err-clause-listed : goal.returns-in-Err-clause-listed
returns-in-Err-clause-listed g c tells ds are =
    named_after (g.S.Reads.state c.args.space.now) (g.S.Reads.state c.leave_bucket.new.space) c.args.label c.args.key c.in-Err.fault c.name_index.result
    c.in-Err.ensures.unwritten c.name_index.ensures.passed (c.in-Err.ensures.wrong tells) (c.name_index.ensures.named tells) ds are

pub returns-in-Err-clause-damaged : goal.returns-in-Err-clause-damaged
returns-in-Err-clause-damaged g c tells =
    let s = g.S.Reads.state c.args.space.now in
    let t = g.S.Reads.state c.leave_bucket.new.space in
    broken_back s t c.in-Err.fault c.name_index.result c.in-Err.ensures.unwritten c.name_index.ensures.passed
    (broken_after s t c.args.label c.args.key c.in-Err.fault c.name_index.result c.in-Err.ensures.unwritten c.name_index.ensures.passed
    (c.in-Err.ensures.wrong tells) (c.in-Err.ensures.other tells) (c.name_index.ensures.damaged tells))

pub returns-in-Err-clause-damaged_after : goal.returns-in-Err-clause-damaged_after
returns-in-Err-clause-damaged_after g c tells =
    let s = g.S.Reads.state c.args.space.now in
    let t = g.S.Reads.state c.leave_bucket.new.space in
    blames_reread t (g.S.Reads.state c.name_index.new.space) c.name_index.result c.name_index.ensures.same
    (broken_after s t c.args.label c.args.key c.in-Err.fault c.name_index.result c.in-Err.ensures.unwritten c.name_index.ensures.passed
    (c.in-Err.ensures.wrong tells) (c.in-Err.ensures.other tells) (c.name_index.ensures.damaged tells))

pub returns-in-Err-clause-names : goal.returns-in-Err-clause-names
returns-in-Err-clause-names g c tells = c.name_index.ensures.names tells (c.in-Err.ensures.names tells)

pub returns-in-Err-clause-unwritten : goal.returns-in-Err-clause-unwritten
returns-in-Err-clause-unwritten g c =
    unwritten_handed ℕ (g.S.Reads.state c.args.space.now) (g.S.Reads.state c.leave_bucket.new.space) (g.S.Reads.state c.name_index.new.space) c.in-Err.fault
    c.name_index.result c.in-Err.ensures.unwritten c.name_index.ensures.passed c.name_index.ensures.same

pub returns-in-Err-clause-touches : goal.returns-in-Err-clause-touches
returns-in-Err-clause-touches g c = index_then 3 0 3 _ _ _ (omega arith) c.in-Err.ensures.touches (index_same 0 _ _ c.name_index.ensures.same)

pub returns-in-Err-clause-onward : goal.returns-in-Err-clause-onward
returns-in-Err-clause-onward g c = g.met.S.Reads.further_onward _ _ _ c.in-Err.ensures.onward c.name_index.ensures.onward

pub returns-in-Err-clause-cause : goal.returns-in-Err-clause-cause
returns-in-Err-clause-cause g c = named_cause _ _ _ c.in-Err.fault c.name_index.result c.in-Err.ensures.cause c.name_index.ensures.later
    c.name_index.ensures.disk
