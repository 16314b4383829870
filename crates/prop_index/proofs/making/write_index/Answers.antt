use Rattle.std.specs.Prelude.{Result, Ok, Err, OnOk}
use Rattle.std.proofs.Common.{◌+◌, ap, sym, subst, length, arith, rules}
use Rattle.std.proofs.lemmas.Result.{err_from_is_err_and}
use Rattle.rec_bytes.specs.Format as format
use Rattle.rec_bytes.specs.RecordFiles.{room_of}
use Rattle.id_freelist.specs.ListDamage.{BlamesList}
use Rattle.id_freelist.proofs.ListSteps.{blames_before}
use Rattle.prop_index.specs.Filling.{AreFillable, IsFilled}
use Rattle.prop_index.proofs.ContentsWanted.{contents_fillable}
use Rattle.prop_index.proofs.IndexMade.{before, empty_index, index_more, index_written, ix_defined, written_touches}
use Rattle.prop_index.specs.Defining.{HasLeft}
use Rattle.prop_index.specs.Entering.{IsNotFull}
use Rattle.prop_index.proofs.Counting.{counts_left}
use Rattle.prop_index.proofs.IndexBlames.{if_err, take_has}
use Rattle.rec_bytes.proofs.Causes.{never_ok}
use Rattle.prop_index.proofs.Causes.{take_cause_after, take_cause_passed}
use Rattle.prop_index.proofs.PairStands.{pair_stands}
use Rattle.prop_index.proofs.making.write_index.Goals as goal

on_ok : {T E : Type 0} {P Q : Type 0} (r : Result T E) → (P → Q) → OnOk r P → OnOk r Q
on_ok (Ok x) f p = f p
on_ok (Err e) f p = tt

pub returns-clause-written : goal.returns-clause-written
returns-clause-written g c tells was named may contents_are =
    let s = g.S.Reads.state c.args.space.now in
    let m = g.S.Reads.state c.define.new.space in
    let t = g.S.Reads.state c.fill.new.space in
    let definition = c.in_ok-definition.definition in
    let added = c.in_ok-definition.ensures.added tells was.store named in
    let ix = ix_defined s m c.args.label c.args.key definition was may added in
    let fillable = subst (AreFillable m.records) (sym contents_are) (contents_fillable s.records m.records c.args.label c.args.key added.others) in
    on_ok c.fill.result
    (λ filled. index_written s m c.args.label c.args.key definition was may added t
    (subst (IsFilled m t (before s m c.args.label c.args.key definition was may added) ix c.args.label c.args.key) contents_are filled))
    (c.fill.ensures.filled tells (before s m c.args.label c.args.key definition was may added) ix c.args.label c.args.key
    (empty_index s m c.args.label c.args.key definition was may added) fillable added.kept)

pub returns-in_err-definition-clause-mishap : goal.returns-in_err-definition-clause-mishap
returns-in_err-definition-clause-mishap g c tells was named may contents_are left =
    let p = err_from_is_err_and c.from_residual.result c.from_residual.ensures.1 in
    rw (p.1, p.2) (c.in_err-definition.ensures.mishap tells was.store (omega (arith, left)))

pub returns-clause-mishap : goal.returns-clause-mishap
returns-clause-mishap g c tells was named may contents_are left =
    let s = g.S.Reads.state c.args.space.now in
    let m = g.S.Reads.state c.define.new.space in
    let definition = c.in_ok-definition.definition in
    let added = c.in_ok-definition.ensures.added tells was.store named in
    let ix = ix_defined s m c.args.label c.args.key definition was may added in
    let fillable = subst (AreFillable m.records) (sym contents_are) (contents_fillable s.records m.records c.args.label c.args.key added.others) in
    let live = added.live in
    let room = ap (λ z. room_of z format.index_file) added.shape in
    c.fill.ensures.mishap tells (before s m c.args.label c.args.key definition was may added) ix c.args.label c.args.key
    (empty_index s m c.args.label c.args.key definition was may added) fillable added.kept
    (omega (arith, left, live, room))

pub returns-in_err-definition-clause-touches : goal.returns-in_err-definition-clause-touches
returns-in_err-definition-clause-touches g c = index_more 13 (13 + length c.args.contents.now) _ _ (omega arith) c.in_err-definition.ensures.touches

pub returns-clause-touches : goal.returns-clause-touches
returns-clause-touches g c = written_touches _ _ _ c.in_ok-definition.definition (length c.args.contents.now) c.in_ok-definition.ensures.touched
    c.fill.ensures.touches

pub returns-in_err-definition-clause-roomy : goal.returns-in_err-definition-clause-roomy
returns-in_err-definition-clause-roomy g c tells left =
    let s = g.S.Reads.state c.args.space.now in
    let fewer : HasLeft s 13 = omega (arith, left) in
    take_has IsNotFull c.from_residual.result c.in_err-definition.field-0.0 c.from_residual.ensures.1 (c.in_err-definition.ensures.roomy tells fewer)

pub returns-clause-roomy : goal.returns-clause-roomy
returns-clause-roomy g c tells left =
    let s = g.S.Reads.state c.args.space.now in
    let m = g.S.Reads.state c.define.new.space in
    c.fill.ensures.roomy tells (counts_left s m 13 (length c.args.contents.now) (13 + length c.args.contents.now) (c.in_ok-definition.ensures.counted tells)
    (omega arith) left)

pub returns-in_err-definition-clause-written : goal.returns-in_err-definition-clause-written
returns-in_err-definition-clause-written g c _ _ _ _ _ = never_ok c.from_residual.result _ _ c.from_residual.ensures.1

pub returns-in_err-definition-clause-onward : goal.returns-in_err-definition-clause-onward
returns-in_err-definition-clause-onward g c = search rules

pub returns-in_err-definition-clause-damaged : goal.returns-in_err-definition-clause-damaged
returns-in_err-definition-clause-damaged g c tells =
    let s = g.S.Reads.state c.args.space.now in
    take_has (BlamesList s format.index_file) c.from_residual.result c.in_err-definition.field-0.0 c.from_residual.ensures.1
    (c.in_err-definition.ensures.damaged tells)

pub returns-clause-damaged : goal.returns-clause-damaged
returns-clause-damaged g c tells =
    let s = g.S.Reads.state c.args.space.now in
    let m = g.S.Reads.state c.define.new.space in
    let kept = c.in_ok-definition.ensures.kept tells in
    if_err c.fill.result (λ fault why. blames_before s m format.index_file fault kept.keeps.harmless why) (c.fill.ensures.damaged tells kept.used)

pub returns-in_err-definition-clause-cause : goal.returns-in_err-definition-clause-cause
returns-in_err-definition-clause-cause g c =
    take_cause_passed _ _ _ c.from_residual.result c.in_err-definition.field-0.0 (omega arith) c.in_err-definition.ensures.cause c.from_residual.ensures.1

pub returns-clause-cause : goal.returns-clause-cause
returns-clause-cause g c = take_cause_after _ _ _ c.fill.result c.in_ok-definition.ensures.cause.later c.fill.ensures.cause

pub returns-clause-onward : goal.returns-clause-onward
returns-clause-onward g c = g.met.S.Reads.further_onward _ _ _ c.in_ok-definition.ensures.onward c.fill.ensures.onward

pub returns-clause-stands : goal.returns-clause-stands
returns-clause-stands g c tells =
    let m = g.S.Reads.state c.define.new.space in
    let t = g.S.Reads.state c.fill.new.space in
    let definition = c.in_ok-definition.definition in
    on_ok c.fill.result (pair_stands m t c.args.label c.args.key definition (c.in_ok-definition.ensures.defined tells))
    (c.fill.ensures.leaves_others tells (c.in_ok-definition.ensures.kept tells).used)

pub returns-in_err-definition-clause-stands : goal.returns-in_err-definition-clause-stands
returns-in_err-definition-clause-stands g c _ = never_ok c.from_residual.result _ _ c.from_residual.ensures.1
