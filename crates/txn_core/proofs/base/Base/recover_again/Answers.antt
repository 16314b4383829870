use Rattle.std.proofs.Common.{rules, refl, ◌∙◌, ap, subst, arith, length}
use Rattle.rec_bytes.specs.Pairs.{Pairs}
use Rattle.rec_bytes.specs.Space.{laid_over}
use Rattle.record_file.specs.Records.{record_at}
use Rattle.page_cache.specs.Pages.{Pages}
use Rattle.txn_core.specs.Again.{IsOld}
use Rattle.txn_core.proofs.Kept.{kept_settled, on_disk, plain_space}
use Rattle.rec_bytes.proofs.Causes.{never_ok}
use Rattle.txn_core.proofs.base.Base.recover_again.Goals as goal

pub invariant_of-self-2 : goal.invariant_of-self-2
invariant_of-self-2 g c =
    let b = c.args.self.now in
    record {
      allowed = b.allowed;
      room = ap (λ (pages : Pages). pages.cap) c.clear.ensures.empty ∙ b.room;
      cached = λ reads. c.clear.ensures.agrees (g.D.Disk.reads c.find_again.new.disk);
      bounded = record {
        room = omega (arith, c.clear-2.ensures.room, ap (λ (pairs : Pairs). length pairs) c.clear-2.ensures.pairs, b.bounded.room);
        few =
            b.bounded.few;
        closed = b.bounded.closed;
        most = omega (arith, ap (λ (pairs : Pairs). length pairs) c.clear-2.ensures.pairs);
      };
      marked = c.over-self.ensures;
      kept = λ live. kept_settled g.D.Disk c.find_again.new.disk c.in_ok-self.field-0.records c.clear-2.new.self.pairs c.clear-2.ensures.pairs
          c.in_ok-self.ensures.emptied c.in_ok-self.ensures.settled c.in_ok-self.ensures.metas;
    }

pub returns-clause-done : goal.returns-clause-done
returns-clause-done g c =
    let disk = g.D.Disk in
    let now = kept_settled disk c.find_again.new.disk c.in_ok-self.field-0.records c.clear-2.new.self.pairs c.clear-2.ensures.pairs c.in_ok-self.ensures.emptied
    c.in_ok-self.ensures.settled c.in_ok-self.ensures.metas in
    record {
      space = λ reads space redoes.
          plain_space disk c.find_again.new.disk c.in_ok-self.field-0.records c.clear-2.new.self.pairs 0 now reads
          ∙ ap (laid_over (record_at (disk.reads c.find_again.new.disk))) c.clear-2.ensures.pairs
          ∙ c.in_ok-self.ensures.space reads space redoes;
      store = c.in_ok-self.ensures.store;
      newest = λ reads old.
          c.in_ok-self.ensures.newest reads (subst IsOld (plain_space disk c.find_again.new.disk c.in_ok-self.field-0.records c.clear-2.new.self.pairs 0 now
          reads ∙ ap (laid_over (record_at (disk.reads c.find_again.new.disk))) c.clear-2.ensures.pairs) old);
      changed = c.clear-2.ensures.pairs;
      tail = refl;
      no_entry = c.in_ok-self.ensures.emptied;
      settled = c.in_ok-self.ensures.settled;
      stored = on_disk disk c.find_again.new.disk c.in_ok-self.field-0.records c.clear-2.new.self.pairs 0 _ now (λ reads. refl);
      live = search rules;
    }

pub returns-in_err-self-clause-done : goal.returns-in_err-self-clause-done
returns-in_err-self-clause-done g c = never_ok c.from_residual.result _ _ c.from_residual.ensures.1
