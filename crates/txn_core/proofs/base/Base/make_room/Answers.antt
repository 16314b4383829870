use Rattle.std.proofs.Common.{ap, inl, arith, length, []}
use Rattle.std.proofs.lemmas.Result.{on_ok_weaker, on_err_weaker}
use Rattle.rec_bytes.specs.Pairs.{Pairs, merged}
use Rattle.rec_bytes.proofs.PairLaws.{growth_by_le}
use Rattle.txn_core.specs.Outcomes.{HasFailed, IsCheckpointed}
use Rattle.txn_core.proofs.Kept.{kept_at_once}
use Rattle.txn_core.proofs.Sets.{length-merged}
use Rattle.txn_core.proofs.base.Base.make_room.Goals as goal

pub returns-then-has_room-clause-crash : goal.returns-then-has_room-clause-crash
returns-then-has_room-clause-crash g c reads images =
    let b = c.args.self.now in
    kept_at_once g.D.Disk b.disk.now b.metas.records b.changed.pairs b.tail g.met.D.Disk.only_now (b.kept c.requires.live) reads images

pub returns-clause-room : goal.returns-clause-room
returns-clause-room g c =
    let b = c.checkpoint.new.self in
    on_ok_weaker {P = IsCheckpointed {D = g.row.D.Denot} {g = g.D.Disk} c.args.self.now b} c.checkpoint.result
    (λ done. omega (
      arith,
      growth_by_le b.changed.pairs b.own.pairs,
      ap (λ (pairs : Pairs). length pairs) done.changed,
      b.bounded.room,
      b.bounded.few,
    )) c.checkpoint.ensures.done

pub returns-clause-few : goal.returns-clause-few
returns-clause-few g c =
    let b = c.checkpoint.new.self in
    on_ok_weaker {P = IsCheckpointed {D = g.row.D.Denot} {g = g.D.Disk} c.args.self.now b} c.checkpoint.result
    (λ done. omega (
      arith,
      ap (λ (pairs : Pairs). length (merged pairs b.own.pairs)) done.changed,
      length-merged [] b.own.pairs tt,
      growth_by_le [] b.own.pairs,
      b.bounded.few,
    )) c.checkpoint.ensures.done

pub returns-clause-failed : goal.returns-clause-failed
returns-clause-failed g c =
    let b = c.checkpoint.new.self in
    on_err_weaker {P = HasFailed {D = g.row.D.Denot} {g = g.D.Disk} c.args.self.now b} c.checkpoint.result
    (λ failed. record {
      failed = failed.failed;
      stored = record {
        read = λ reads. inl (failed.stored.read reads);
        images = λ reads images image left. inl (failed.stored.images reads images image left);
      };
    }) c.checkpoint.ensures.failed
