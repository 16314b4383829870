use Rattle.std.proofs.Common.{rules, refl, sym, ◌∙◌, ap, subst, arith, length}
use Rattle.std.proofs.lemmas.Bool.{false≢true}
use Rattle.std.proofs.lemmas.Result.{err_from_is_err_and}
use Rattle.rec_bytes.specs.Pairs.{Pairs}
use Rattle.rec_bytes.specs.Space.{laid_over}
use Rattle.rec_bytes.specs.declared.key.Key.{Key}
use Rattle.rec_bytes.specs.declared.record.Rec.{Rec}
use Rattle.record_file.specs.Records.{record_at}
use Rattle.record_file.specs.MetaFile.{AreMetasOf}
use Rattle.page_cache.specs.Pages.{Pages}
use Rattle.page_cache.proofs.Forgetting.{without_pages-room}
use Rattle.txn_core.proofs.Kept.{checkpoint_crash, checkpoint_read, kept_settled, on_disk, on_disk_at, plain_space}
use Rattle.txn_core.proofs.base.Base.checkpoint.Goals as goal

pub returns-in_err-checkpoint-clause-crash : goal.returns-in_err-checkpoint-clause-crash
returns-in_err-checkpoint-clause-crash g c reads images =
    let b = c.args.self.now in
    checkpoint_crash g.D.Disk b.disk.now c.checkpoint.new.disk b.metas.records b.changed.pairs b.tail (b.kept c.requires.live) reads images
    (c.checkpoint.ensures.crash reads images)

pub returns-in_err-checkpoint-clause-failed : goal.returns-in_err-checkpoint-clause-failed
returns-in_err-checkpoint-clause-failed g c =
    let b = c.args.self.now in
    let p = err_from_is_err_and c.from_residual.result c.from_residual.ensures.1 in
    let kept = b.kept c.requires.live in
    rw p.1 (record {
      failed = refl;
      stored = on_disk_at g.D.Disk b.disk.now c.checkpoint.new.disk _ g.met.D.Disk.counts_now
          (λ reads. checkpoint_read g.D.Disk b.disk.now c.checkpoint.new.disk b.metas.records b.changed.pairs b.tail kept reads
          (c.checkpoint.ensures.read reads))
          (λ reads images. checkpoint_crash g.D.Disk b.disk.now c.checkpoint.new.disk b.metas.records b.changed.pairs b.tail kept reads images
          (c.checkpoint.ensures.crash reads images));
    })

pub invariant_of-self : goal.invariant_of-self
invariant_of-self g c =
    let b = c.args.self.now in
    let disk = g.D.Disk in
    record {
      allowed = b.allowed;
      room = ap (λ (pages : Pages). pages.cap) c.forget_all.ensures.pages ∙ without_pages-room b.changed.pairs b.cache ∙ b.room;
      cached = λ reads. c.forget_all.ensures.agrees (disk.reads b.disk.now) (disk.reads c.checkpoint.new.disk) c.checkpoint.ensures.elsewhere (b.cached reads);
      bounded = b.bounded;
      marked = b.marked;
      kept = λ live. absurd (false≢true live);
    }

pub invariant_of-self-2 : goal.invariant_of-self-2
invariant_of-self-2 g c =
    let b = c.args.self.now in
    let disk = g.D.Disk in
    record {
      allowed = b.allowed;
      room = ap (λ (pages : Pages). pages.cap) c.forget_all.ensures.pages ∙ without_pages-room b.changed.pairs b.cache ∙ b.room;
      cached = λ reads. c.forget_all.ensures.agrees (disk.reads b.disk.now) (disk.reads c.checkpoint.new.disk) c.checkpoint.ensures.elsewhere (b.cached reads);
      bounded = record {
        room = omega (arith, c.clear.ensures.room, ap (λ (pairs : Pairs). length pairs) c.clear.ensures.pairs, b.bounded.room);
        few =
            b.bounded.few;
        closed = b.bounded.closed;
        most = omega (arith, ap (λ (pairs : Pairs). length pairs) c.clear.ensures.pairs);
      };
      marked = c.over-self.ensures;
      kept = λ live.
          kept_settled disk c.checkpoint.new.disk c.refresh.new.self.records c.clear.new.self.pairs c.clear.ensures.pairs c.in_ok-checkpoint.ensures.emptied
          c.in_ok-checkpoint.ensures.settled
          (λ reads. subst (λ (records : Key → Rec). AreMetasOf records c.refresh.new.self.records) (sym (c.in_ok-checkpoint.ensures.space reads))
          (c.refresh.ensures (record_at (disk.reads b.disk.now)) ((b.kept c.requires.live).held reads)));
    }

pub returns-clause-crash : goal.returns-clause-crash
returns-clause-crash g c reads images =
    let b = c.args.self.now in
    checkpoint_crash g.D.Disk b.disk.now c.checkpoint.new.disk b.metas.records b.changed.pairs b.tail (b.kept c.requires.live) reads images
    (c.checkpoint.ensures.crash reads images)

pub returns-clause-done : goal.returns-clause-done
returns-clause-done g c =
    let b = c.args.self.now in
    let disk = g.D.Disk in
    let kept = b.kept c.requires.live in
    let now =
    kept_settled disk c.checkpoint.new.disk c.refresh.new.self.records c.clear.new.self.pairs c.clear.ensures.pairs c.in_ok-checkpoint.ensures.emptied
    c.in_ok-checkpoint.ensures.settled
    (λ reads. subst (λ (records : Key → Rec). AreMetasOf records c.refresh.new.self.records) (sym (c.in_ok-checkpoint.ensures.space reads))
    (c.refresh.ensures (record_at (disk.reads b.disk.now)) (kept.held reads))) in
    let space = λ (reads : disk.tells_reads).
    plain_space disk c.checkpoint.new.disk c.refresh.new.self.records c.clear.new.self.pairs 0 now reads
    ∙ ap (laid_over (record_at (disk.reads c.checkpoint.new.disk))) c.clear.ensures.pairs
    ∙ c.in_ok-checkpoint.ensures.space reads
    ∙ sym (plain_space disk b.disk.now b.metas.records b.changed.pairs b.tail kept reads) in
    record {
      space = space;
      changed = c.clear.ensures.pairs;
      tail = refl;
      no_entry = c.in_ok-checkpoint.ensures.emptied;
      settled = c.in_ok-checkpoint.ensures.settled;
      stored = on_disk disk c.checkpoint.new.disk c.refresh.new.self.records c.clear.new.self.pairs 0 _ now space;
      live = search rules;
    }
