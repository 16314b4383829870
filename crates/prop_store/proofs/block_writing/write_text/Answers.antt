use Rattle.std.proofs.Common.{◌<◌, ◌-◌, ◌*◌, [], length, drop, ap, arith, refl, rules, length-drop}
use Rattle.std.proofs.lemmas.Result.{err_from_is_err_and}
use Rattle.std.proofs.lemmas.List.{drop_all}
use Rattle.rec_bytes.specs.Format.{strings_file}
use Rattle.prop_store.specs.FileChange.{blocks_for}
use Rattle.prop_store.proofs.BlockSteps.{blocks_are, drop-piece, keeps_now, length-numbered_piece, may_follow, no_room, nothing_stands, one_written}
use Rattle.prop_store.proofs.FileSteps.{beside_none, beside_then}
use Rattle.id_freelist.specs.TakeFault.{BlamesBroken}
use Rattle.prop_store.specs.SetFault.{IsTextCause}
use Rattle.id_freelist.specs.ListDamage.{BlamesList}
use Rattle.id_freelist.proofs.ListSteps.{blames_before, harms_none_then}
use Rattle.prop_store.proofs.Midway.{take_has, text_caused_more}
use Rattle.prop_store.proofs.Touches.{touches_more, touches_reads, touches_then}
use Rattle.rec_bytes.proofs.Causes.{never_ok}
use Rattle.prop_store.proofs.block_writing.write_text.Goals as goal

pub loop-left-init : goal.loop-left-init
loop-left-init g c =
    let old = g.S.Reads.state c.args.space.now in
    let text = c.args.text.now in
    let count = blocks_are (length text) c.div_ceil-left.result c.div_ceil-left.ensures in
    record {
      stands = λ tells keeps. nothing_stands old (drop (48 * c.div_ceil-left.result) text) (drop_all (48 * c.div_ceil-left.result) text (omega arith)) keeps;
      few = omega arith;
      beside = λ tells. beside_none strings_file old.records;
      harmless = λ tells d why. why;
      touches = touches_reads [] 0 _ old old refl;
      onward = search rules;
      later = omega arith;
    }

pub write_block-requires-clause-few : goal.write_block-requires-clause-few
write_block-requires-clause-few g c = let lt : c.loop-left.left - 1 < blocks_for (length c.args.text.now) = let few = c.loop-left.invariant.few in
    omega arith in
    let size = length-numbered_piece (c.loop-left.left - 1) c.args.text.now lt in
    let is = ap length c.piece_at.ensures in
    omega (arith, size.1, is)

pub loop-left-preserved : goal.loop-left-preserved
loop-left-preserved g c =
    let old = g.S.Reads.state c.args.space.now in
    let now = g.S.Reads.state c.loop-left.space in
    let then = g.S.Reads.state c.write_block.new.space in
    let text = c.args.text.now in
    let left = c.loop-left.left in
    let few = c.loop-left.invariant.few in
    let some = c.loop-left-test.true in
    let lt : left - 1 < blocks_for (length text) = omega arith in
    let size = length-numbered_piece (left - 1) text lt in
    record {
      stands = λ tells keeps.
          let shape = (g.met.S.Reads.onward_shape _ _ c.loop-left.invariant.onward) in
          let stands = c.loop-left.invariant.stands tells keeps in
          one_written old now (drop (48 * left) text) c.loop-left.first shape stands then (drop (48 * (left - 1)) text) c.piece_at.result.now
          c.in_ok-first.first c.piece_at.ensures (drop-piece (left - 1) left text (omega arith)) size.2
          (c.in_ok-first.ensures.written tells (keeps_now old now (drop (48 * left) text) c.loop-left.first shape stands)
          (may_follow old now (drop (48 * left) text) c.loop-left.first shape stands));
      few = omega arith;
      beside = λ tells. beside_then strings_file old.records now.records then.records (c.loop-left.invariant.beside tells)
          (c.in_ok-first.ensures.other_files tells);
      harmless = λ tells. harms_none_then old now then strings_file (c.loop-left.invariant.harmless tells) (c.in_ok-first.ensures.harmless tells);
      touches = touches_then [] 0 (blocks_for (length text) - left) 0 1 0 _ old now then (omega arith) (omega arith) c.loop-left.invariant.touches
          c.write_block.ensures.touches;
      onward = g.met.S.Reads.further_onward _ _ _ c.loop-left.invariant.onward c.in_ok-first.ensures.onward;
      later = omega (arith, c.loop-left.invariant.later, c.in_ok-first.ensures.cause.later);
    }

pub returns-in_err-first-clause-refused : goal.returns-in_err-first-clause-refused
returns-in_err-first-clause-refused g c tells keeps =
    let p = err_from_is_err_and c.from_residual.result c.from_residual.ensures.1 in
    let old = g.S.Reads.state c.args.space.now in
    let now = g.S.Reads.state c.loop-left.space in
    let text = c.args.text.now in
    let left = c.loop-left.left in
    let few = c.loop-left.invariant.few in
    let some = c.loop-left-test.true in
    let shape = (g.met.S.Reads.onward_shape _ _ c.loop-left.invariant.onward) in
    let stands = c.loop-left.invariant.stands tells keeps in
    let rest = length-drop (48 * left) text in
    rw (p.1, p.2) (no_room old now (drop (48 * left) text) c.loop-left.first shape stands (blocks_for (length text)) c.in_err-first.field-0.0 (omega arith)
    (c.in_err-first.ensures.refused tells (keeps_now old now (drop (48 * left) text) c.loop-left.first shape stands)))

pub returns-in_err-first-clause-touches : goal.returns-in_err-first-clause-touches
returns-in_err-first-clause-touches g c =
    let count = blocks_for (length c.args.text.now) in
    let few = c.loop-left.invariant.few in
    let some = c.loop-left-test.true in
    touches_then [] 0 (count - c.loop-left.left) 0 1 0 count _ (g.S.Reads.state c.loop-left.space) _ (omega arith) (omega arith) c.loop-left.invariant.touches
    c.write_block.ensures.touches

pub returns-clause-touches : goal.returns-clause-touches
returns-clause-touches g c = touches_more [] 0 _ 0 _ _ _ (omega arith) (omega arith) c.loop-left.invariant.touches

pub returns-in_err-first-clause-damaged : goal.returns-in_err-first-clause-damaged
returns-in_err-first-clause-damaged g c tells =
    let old = g.S.Reads.state c.args.space.now in
    let now = g.S.Reads.state c.loop-left.space in
    take_has (BlamesList old strings_file) c.from_residual.result c.in_err-first.field-0.0 c.from_residual.ensures.1
    (blames_before old now strings_file c.in_err-first.field-0.0 (c.loop-left.invariant.harmless tells) (c.in_err-first.ensures.damaged tells))

pub returns-in_err-first-clause-harmless : goal.returns-in_err-first-clause-harmless
returns-in_err-first-clause-harmless g c _ = never_ok c.from_residual.result _ _ c.from_residual.ensures.1

pub returns-clause-harmless : goal.returns-clause-harmless
returns-clause-harmless g c tells = c.loop-left.invariant.harmless tells

pub returns-in_err-first-clause-caused : goal.returns-in_err-first-clause-caused
returns-in_err-first-clause-caused g c tells =
    let t = g.S.Reads.state c.write_block.new.space in
    let count = blocks_for (length c.args.text.now) in
    let few = c.loop-left.invariant.few in
    let some = c.loop-left-test.true in
    take_has (IsTextCause t count) c.from_residual.result c.in_err-first.field-0.0 c.from_residual.ensures.1
    (text_caused_more t count (omega arith) c.in_err-first.field-0.0 (c.in_err-first.ensures.caused tells))

pub returns-in_err-first-clause-damaged_after : goal.returns-in_err-first-clause-damaged_after
returns-in_err-first-clause-damaged_after g c tells =
    let t = g.S.Reads.state c.write_block.new.space in
    take_has (BlamesBroken t.records t.shape) c.from_residual.result c.in_err-first.field-0.0 c.from_residual.ensures.1
    (c.in_err-first.ensures.damaged_after tells)

pub returns-in_err-first-clause-written : goal.returns-in_err-first-clause-written
returns-in_err-first-clause-written g c _ = never_ok c.from_residual.result _ _ c.from_residual.ensures.1

pub returns-in_err-first-clause-other_files : goal.returns-in_err-first-clause-other_files
returns-in_err-first-clause-other_files g c _ = never_ok c.from_residual.result _ _ c.from_residual.ensures.1
