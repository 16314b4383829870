use Rattle.std.proofs.Common.{[], arith, refl, rules}
use Rattle.std.proofs.lemmas.Result.{err_from_is_err_and}
use Rattle.rec_bytes.specs.Format.{strings_file}
use Rattle.prop_store.proofs.BlockSteps.{beside_put, block_written, cannot_take}
use Rattle.id_freelist.specs.TakeFault.{BlamesBroken}
use Rattle.prop_store.specs.SetFault.{IsTextCause}
use Rattle.id_freelist.specs.ListDamage.{BlamesList}
use Rattle.id_freelist.proofs.ListSteps.{blames_list, list_of_space, put_harms_none}
use Rattle.prop_store.proofs.BlockRecords.{used_block}
use Rattle.prop_store.proofs.Midway.{take_has, take_still, take_still_space, text_caused, text_caused_space}
use Rattle.prop_store.proofs.Touches.{touches_block, touches_block_taken, touches_more, touches_same, touches_then}
use Rattle.rec_bytes.proofs.Causes.{never_ok}
use Rattle.prop_store.proofs.block_writing.write_block.Goals as goal

pub returns-in_err-id-clause-refused : goal.returns-in_err-id-clause-refused
returns-in_err-id-clause-refused g c tells keeps =
    let p = err_from_is_err_and c.from_residual.result c.from_residual.ensures.1 in
    rw (p.1, p.2) (cannot_take (g.S.Reads.state c.args.space.now) c.in_err-id.field-0.0 (c.in_err-id.ensures.refused tells)
    (c.in_err-id.ensures.not_damaged tells)
    keeps)

pub returns-clause-written : goal.returns-clause-written
returns-clause-written g c tells keeps follows =
    block_written _ (g.S.Reads.state c.take.new.space) _ c.args.piece.now c.args.next c.in_ok-id.id c.block_record.result c.requires.some c.requires.few
    c.ranges.next.fits c.block_record.ensures (c.in_ok-id.ensures.taken tells) c.in_ok-id.ensures.small c.in_ok-id.ensures.key
    c.in_ok-put.ensures.ok keeps follows

pub returns-clause-other_files : goal.returns-clause-other_files
returns-clause-other_files g c tells = beside_put (g.S.Reads.state c.args.space.now) (g.S.Reads.state c.take.new.space)
    (g.S.Reads.state c.put.new.self) strings_file
    c.in_ok-id.id c.block_record.result (c.in_ok-id.ensures.ok tells) c.in_ok-put.ensures.ok

pub returns-in_err-id-clause-touches : goal.returns-in_err-id-clause-touches
returns-in_err-id-clause-touches g c = touches_more [] 0 0 0 1 _ _ (omega arith) (omega arith)
    (touches_block_taken _ _ (record { writes = c.take.ensures.writes; stays = c.take.ensures.stays }))

pub returns-in_err-put-clause-touches : goal.returns-in_err-put-clause-touches
returns-in_err-put-clause-touches g c =
    let took = touches_block_taken (g.S.Reads.state c.args.space.now) (g.S.Reads.state c.take.new.space)
    (record { writes = c.take.ensures.writes; stays = c.take.ensures.stays }) in
    touches_same [] 0 0 0 1 _ _ _ (omega arith) (omega arith) c.in_err-put.ensures.err took

pub returns-clause-touches : goal.returns-clause-touches
returns-clause-touches g c =
    let took = touches_block_taken (g.S.Reads.state c.args.space.now) (g.S.Reads.state c.take.new.space)
    (record { writes = c.take.ensures.writes; stays = c.take.ensures.stays }) in
    touches_then [] 0 0 0 1 0 1 _ _ _ (omega arith) (omega arith) took (touches_block (g.S.Reads.state c.take.new.space) (g.S.Reads.state c.put.new.self)
    c.in_ok-id.id c.block_record.result c.in_ok-put.ensures.ok)

pub returns-in_err-id-clause-damaged : goal.returns-in_err-id-clause-damaged
returns-in_err-id-clause-damaged g c tells =
    let s = g.S.Reads.state c.args.space.now in
    take_has (BlamesList s strings_file) c.from_residual.result c.in_err-id.field-0.0 c.from_residual.ensures.1
    (blames_list s strings_file c.in_err-id.field-0.0 (c.in_err-id.ensures.refused tells))

pub returns-in_err-put-clause-damaged : goal.returns-in_err-put-clause-damaged
returns-in_err-put-clause-damaged g c tells =
    let s = g.S.Reads.state c.args.space.now in
    take_has (BlamesList s strings_file) c.from_residual-in_err-put.result _ c.from_residual-in_err-put.ensures.1
    (list_of_space s strings_file c.in_err-put.field-0.0)

pub returns-clause-harmless : goal.returns-clause-harmless
returns-clause-harmless g c tells =
    put_harms_none (g.S.Reads.state c.args.space.now) (g.S.Reads.state c.take.new.space) (g.S.Reads.state c.put.new.self) strings_file c.in_ok-id.id
    c.block_record.result refl (c.in_ok-id.ensures.ok tells) c.in_ok-id.ensures.is (c.in_ok-id.ensures.undamaged tells)
    (c.in_ok-id.ensures.fresh tells) c.in_ok-id.ensures.key.id c.in_ok-id.ensures.small c.in_ok-put.ensures.ok
    (used_block c.args.piece.now c.args.next c.block_record.result c.requires.few c.block_record.ensures)

pub returns-in_err-id-clause-harmless : goal.returns-in_err-id-clause-harmless
returns-in_err-id-clause-harmless g c _ = never_ok c.from_residual.result _ _ c.from_residual.ensures.1

pub returns-in_err-put-clause-harmless : goal.returns-in_err-put-clause-harmless
returns-in_err-put-clause-harmless g c _ = never_ok c.from_residual-in_err-put.result _ _ c.from_residual-in_err-put.ensures.1

pub returns-in_err-id-clause-caused : goal.returns-in_err-id-clause-caused
returns-in_err-id-clause-caused g c tells =
    let s = g.S.Reads.state c.args.space.now in
    let t = g.S.Reads.state c.take.new.space in
    take_has (IsTextCause t 1) c.from_residual.result c.in_err-id.field-0.0 c.from_residual.ensures.1
    (text_caused s t c.in_err-id.field-0.0 (c.in_err-id.ensures.refused tells) c.in_err-id.ensures.err)

pub returns-in_err-id-clause-damaged_after : goal.returns-in_err-id-clause-damaged_after
returns-in_err-id-clause-damaged_after g c tells =
    let s = g.S.Reads.state c.args.space.now in
    let t = g.S.Reads.state c.take.new.space in
    take_has (BlamesBroken t.records t.shape) c.from_residual.result c.in_err-id.field-0.0 c.from_residual.ensures.1
    (take_still s t c.in_err-id.field-0.0 (c.in_err-id.ensures.damaged tells) c.in_err-id.ensures.err)

pub returns-in_err-put-clause-damaged_after : goal.returns-in_err-put-clause-damaged_after
returns-in_err-put-clause-damaged_after g c tells =
    let t = g.S.Reads.state c.put.new.self in
    take_has (BlamesBroken t.records t.shape) c.from_residual-in_err-put.result _ c.from_residual-in_err-put.ensures.1
    (take_still_space t c.in_err-put.field-0.0)

pub returns-in_err-put-clause-caused : goal.returns-in_err-put-clause-caused
returns-in_err-put-clause-caused g c tells =
    let t = g.S.Reads.state c.put.new.self in
    take_has (IsTextCause t 1) c.from_residual-in_err-put.result _ c.from_residual-in_err-put.ensures.1 (text_caused_space t 1 c.in_err-put.field-0.0)

pub returns-in_err-id-clause-written : goal.returns-in_err-id-clause-written
returns-in_err-id-clause-written g c _ = never_ok c.from_residual.result _ _ c.from_residual.ensures.1

pub returns-in_err-id-clause-other_files : goal.returns-in_err-id-clause-other_files
returns-in_err-id-clause-other_files g c _ = never_ok c.from_residual.result _ _ c.from_residual.ensures.1

pub returns-in_err-id-clause-onward : goal.returns-in_err-id-clause-onward
returns-in_err-id-clause-onward g c = search rules

pub returns-in_err-put-clause-written : goal.returns-in_err-put-clause-written
returns-in_err-put-clause-written g c _ = never_ok c.from_residual-in_err-put.result _ _ c.from_residual-in_err-put.ensures.1

pub returns-in_err-put-clause-other_files : goal.returns-in_err-put-clause-other_files
returns-in_err-put-clause-other_files g c _ = never_ok c.from_residual-in_err-put.result _ _ c.from_residual-in_err-put.ensures.1
