use Rattle.std.proofs.Common.{rules, ap, sym, subst, arith, length}
use Rattle.rec_bytes.specs.Pairs.{IsOrdered, Pairs, growth_by}
use Rattle.txn_core.specs.Marks.{AreMarks}
use Rattle.txn_core.proofs.MarkLaws.{marks-kept}
use Rattle.txn_core.proofs.Sets.{length-merged, length-other}
use Rattle.rec_bytes.proofs.Causes.{never_ok}
use Rattle.txn_core.proofs.base.Base.keep.Goals as goal

pub invariant_of-self-2 : goal.invariant_of-self-2
invariant_of-self-2 g c =
    let b = c.args.self.now in
    let was = b.bounded in
    let draft = c.args.draft.now.pairs in
    let same = c.reserve.ensures.pairs in
    record {
      allowed = c.args.self.now.allowed;
      room = c.args.self.now.room;
      cached = c.args.self.now.cached;
      bounded = record {
        room = was.room;
        few = omega (
          arith,
          ap (λ (pairs : Pairs). length pairs) c.merge.ensures.pairs,
          ap (λ (pairs : Pairs). length pairs) same,
          ap (λ (pairs : Pairs). growth_by pairs draft) same,
          length-merged c.reserve.new.self.pairs draft (subst IsOrdered (sym same) c.len-2.ensures.rising),
        );
        closed = λ closed. search rules;
        most = was.most;
      };
      marked = marks-kept b.metas.records b.changed.pairs c.reserve.new.self.pairs draft c.merge.new.self.pairs b.marks.of_files c.refresh.new.self.of_files
          c.merge.ensures.finds
          (subst (λ (own : Pairs). AreMarks b.metas.records b.changed.pairs own b.marks.of_files) (sym same) b.marked) c.refresh.ensures;
      kept = c.args.self.now.kept;
    }

pub returns-then-len-gt-MOST_WRITES-clause-succeeds : goal.returns-then-len-gt-MOST_WRITES-clause-succeeds
returns-then-len-gt-MOST_WRITES-clause-succeeds g c fits room = absurd
    (omega (arith, fits, c.if-len-gt-MOST_WRITES.true, c.len.ensures.value, length-other c.args.self.now.own.pairs c.args.draft.now.pairs c.len.ensures.rising))

pub returns-in_err-reserve-clause-own : goal.returns-in_err-reserve-clause-own
returns-in_err-reserve-clause-own g c = never_ok c.from_residual.result _ _ c.from_residual.ensures.1

pub returns-in_err-reserve-clause-fits : goal.returns-in_err-reserve-clause-fits
returns-in_err-reserve-clause-fits g c = never_ok c.from_residual.result _ _ c.from_residual.ensures.1
