use Rattle.std.proofs.Common.{rules, refl, arith, ap, length}
use Rattle.rec_bytes.specs.Pairs.{Pairs}
use Rattle.std.proofs.lemmas.Bool.{false≢true}
use Rattle.std.proofs.lemmas.Result.{err_from_is_err_and}
use Rattle.txn_core.proofs.Kept.{appended_space, before_or_after, cached_appended, kept_appended, on_disk, on_disk_at, read_before_or_after}
use Rattle.txn_core.proofs.MarkLaws.{marks-appended}
use Rattle.txn_core.proofs.base.Base.append_own.Goals as goal

pub returns-in_err-self-clause-crash : goal.returns-in_err-self-clause-crash
returns-in_err-self-clause-crash g c reads images =
    let b = c.args.self.now in
    before_or_after g.D.Disk b.disk.now c.append.new.disk b.metas.records b.changed.pairs b.own.pairs b.tail (b.kept c.requires.live) reads images
    (c.append.ensures.crash reads images)

pub returns-clause-crash : goal.returns-clause-crash
returns-clause-crash g c reads images =
    let b = c.args.self.now in
    before_or_after g.D.Disk b.disk.now c.append.new.disk b.metas.records b.changed.pairs b.own.pairs b.tail (b.kept c.requires.live) reads images
    (c.append.ensures.crash reads images)

pub returns-in_err-self-clause-failed : goal.returns-in_err-self-clause-failed
returns-in_err-self-clause-failed g c =
    let b = c.args.self.now in
    let p = err_from_is_err_and c.from_residual.result c.from_residual.ensures.1 in
    let kept = b.kept c.requires.live in
    rw p.1 (record {
      failed = refl;
      stored = on_disk_at g.D.Disk b.disk.now c.append.new.disk _ g.met.D.Disk.counts_now
          (λ reads. read_before_or_after g.D.Disk b.disk.now c.append.new.disk b.metas.records b.changed.pairs b.own.pairs b.tail kept reads
          (c.append.ensures.read reads) (c.append.ensures.elsewhere reads))
          (λ reads images. before_or_after g.D.Disk b.disk.now c.append.new.disk b.metas.records b.changed.pairs b.own.pairs b.tail kept reads images
          (c.append.ensures.crash reads images));
    })

pub invariant_of-self-2 : goal.invariant_of-self-2
invariant_of-self-2 g c =
    let b = c.args.self.now in
    record {
      allowed = b.allowed;
      room = b.room;
      cached = λ reads. cached_appended g.D.Disk b.disk.now c.append.new.disk b.cache b.own.pairs b.tail (c.append.ensures.elsewhere reads) (b.cached reads);
      bounded = record {
        room = omega (arith, c.merge.ensures.room, b.bounded.room);
        few = b.bounded.few;
        closed = b.bounded.closed;
        most = omega
            (arith, ap (λ (pairs : Pairs). length pairs) c.merge.ensures.pairs, c.requires.few);
      };
      marked = marks-appended b.metas.records b.changed.pairs b.own.pairs c.merge.new.self.pairs b.marks.of_files c.merge.ensures.finds b.marked;
      kept = λ live.
          kept_appended g.D.Disk b.disk.now c.append.new.disk b.metas.records b.changed.pairs b.own.pairs c.merge.new.self.pairs b.tail c.in_ok-self.field-0
          g.met.D.Disk.counts_now (b.kept c.requires.live) c.merge.ensures.finds
          c.in_ok-self.ensures.next (λ reads. c.in_ok-self.ensures.appended reads) c.in_ok-self.ensures.settled c.append.ensures.elsewhere
          c.append.ensures.crash;
    }

pub returns-clause-done : goal.returns-clause-done
returns-clause-done g c =
    let b = c.args.self.now in
    let kept = b.kept c.requires.live in
    let now =
    kept_appended g.D.Disk b.disk.now c.append.new.disk b.metas.records b.changed.pairs b.own.pairs c.merge.new.self.pairs b.tail c.in_ok-self.field-0
    g.met.D.Disk.counts_now kept c.merge.ensures.finds
    c.in_ok-self.ensures.next (λ reads. c.in_ok-self.ensures.appended reads) c.in_ok-self.ensures.settled c.append.ensures.elsewhere c.append.ensures.crash in
    let space = λ (reads : g.D.Disk.tells_reads).
    appended_space g.D.Disk b.disk.now c.append.new.disk b.metas.records b.changed.pairs b.own.pairs c.merge.new.self.pairs b.tail c.in_ok-self.field-0 kept now
    c.merge.ensures.finds reads (c.append.ensures.elsewhere reads) in
    record {
      space = space;
      stored = on_disk g.D.Disk c.append.new.disk b.metas.records c.merge.new.self.pairs c.in_ok-self.field-0 _ now space;
      live = search rules;
    }

pub invariant_of-self : goal.invariant_of-self
invariant_of-self g c =
    let b = c.args.self.now in
    record {
      allowed = b.allowed;
      room = b.room;
      cached = λ reads. cached_appended g.D.Disk b.disk.now c.append.new.disk b.cache b.own.pairs b.tail (c.append.ensures.elsewhere reads) (b.cached reads);
      bounded = b.bounded;
      marked = b.marked;
      kept = λ live. absurd (false≢true live);
    }
