use Rattle.std.proofs.Common.{◌≡◌, ◌∙◌, ap, inl, sym, []}
use Rattle.std.proofs.lemmas.Result.{on_err_weaker}
use Rattle.disk_model.specs.Contents.{Files}
use Rattle.rec_bytes.specs.Pairs.{Held}
use Rattle.rec_bytes.specs.Space.{laid_over}
use Rattle.disk_model.proofs.Spans.{at_each_moment_on, at_each_moment_weaker}
use Rattle.txn_core.specs.Base.{committed, working}
use Rattle.txn_core.specs.Outcomes.{IsInDoubt}
use Rattle.txn_core.proofs.Kept.{Either-same, kept_now, on_disk}
use Rattle.txn_core.proofs.Sets.{empty_pairs}
use Rattle.rec_bytes.proofs.Causes.{never_ok}
use Rattle.txn_core.proofs.base.Base.write_own.Goals as goal

pub returns-then-len-eq0-clause-crash : goal.returns-then-len-eq0-clause-crash
returns-then-len-eq0-clause-crash g c reads images =
    let b = c.args.self.now in
    kept_now g.D.Disk b.disk.now b.metas.records b.changed.pairs b.tail _ g.met.D.Disk.only_now (b.kept c.requires.live) reads images
    (λ left redoes. inl redoes)

pub returns-then-len-eq0-clause-done : goal.returns-then-len-eq0-clause-done
returns-then-len-eq0-clause-done g c =
    let b = c.args.self.now in
    let none : b.own.pairs ≡ [] = empty_pairs b.own.pairs (sym c.len.ensures.value ∙ c.if-len-eq0.true) in
    let same : committed b ≡ working b = ap (laid_over (committed b)) (sym none) in
    record {
      space = λ reads. same;
      stored = on_disk g.D.Disk b.disk.now b.metas.records b.changed.pairs b.tail _ (b.kept c.requires.live) (λ reads. same);
      live = c.requires.live;
    }

pub returns-clause-crash : goal.returns-clause-crash
returns-clause-crash g c reads images =
    let disk = g.D.Disk in
    let b = c.args.self.now in
    let mid = c.make_room.new.self in
    at_each_moment_on disk b.disk.now mid.disk.now c.append_own.new.self.disk.now _ _
    (at_each_moment_weaker disk b.disk.now mid.disk.now _ _ (c.make_room.ensures.crash reads images) (λ left redoes. inl redoes))
    (c.append_own.ensures.crash reads images)
    (λ left. Either-same left (committed mid) (committed b) b.own.pairs mid.own.pairs (c.in_ok-make_room.ensures.done reads) (ap (λ (held : Held). held.pairs)
    c.make_room.ensures.own))

pub returns-clause-failed : goal.returns-clause-failed
returns-clause-failed g c =
    let b = c.args.self.now in
    let mid = c.make_room.new.self in
    let now = c.append_own.new.self in
    on_err_weaker {P = IsInDoubt {D = g.row.D.Denot} {g = g.D.Disk} mid now} c.append_own.result
    (λ failed.
    let same = λ (reads : g.D.Disk.tells_reads) (left : Files). Either-same left (committed mid) (committed b) b.own.pairs mid.own.pairs
    (c.in_ok-make_room.ensures.done reads) (ap (λ (held : Held). held.pairs) c.make_room.ensures.own) in
    record {
      failed = failed.failed;
      stored = record {
        read = λ reads. same reads _ (failed.stored.read reads);
        images = λ reads images image left. same reads image
            (failed.stored.images reads images image left);
      };
    }) c.append_own.ensures.failed

pub returns-in_err-make_room-clause-done : goal.returns-in_err-make_room-clause-done
returns-in_err-make_room-clause-done g c = never_ok c.from_residual.result _ _ c.from_residual.ensures.1
