use Rattle.std.proofs.Common.{arith, rules}
use Rattle.disk_model.proofs.Spans.{only_reads_on}
use Rattle.redo_log.proofs.Rising.{rising_goes_on, rising_ends}
use Rattle.rec_bytes.proofs.Causes.{never_ok}
use Rattle.redo_log.proofs.log_reader.LogReader.has_rising_keys.Goals as goal

pub returns-in_err-key-clause-keeps : goal.returns-in_err-key-clause-keeps
returns-in_err-key-clause-keeps g c = λ told content has. c.key_at.ensures.keeps told content (c.loop-index.invariant.keeps told content has)

pub returns-then-not-is_next_key-clause-keys : goal.returns-then-not-is_next_key-clause-keys
returns-then-not-is_next_key-clause-keys g c = λ told content has.
    rising_ends content c.args.start c.loop-index.index c.args.count c.loop-index.last c.in_ok-key.key _ (omega arith)
    (c.in_ok-key.ensures.key told content (c.loop-index.invariant.keeps told content has)) c.if-not-is_next_key.ensures.1
    (c.loop-index.invariant.keys told content has)

pub returns-then-not-is_next_key-clause-keeps : goal.returns-then-not-is_next_key-clause-keeps
returns-then-not-is_next_key-clause-keeps g c = λ told content has. c.key_at.ensures.keeps told content (c.loop-index.invariant.keeps told content has)

pub loop-index-preserved : goal.loop-index-preserved
loop-index-preserved g c = record {
  keys = λ told content has.
      rising_goes_on content c.args.start c.loop-index.index c.args.count c.loop-index.last c.in_ok-key.key _ (omega arith)
      (c.in_ok-key.ensures.key told content (c.loop-index.invariant.keeps told content has)) (c.if-not-is_next_key.ensures.0 (search rules))
      (c.loop-index.invariant.keys told content has);
  keeps = λ told content has. c.key_at.ensures.keeps told content (c.loop-index.invariant.keeps told content has);
  only_reads = only_reads_on g.D.Disk c.args.disk.now c.loop-index.disk c.key_at.new.disk c.loop-index.invariant.only_reads c.key_at.ensures.only_reads;
  later = omega (arith, c.loop-index.invariant.later, c.key_at.ensures.cause.later);
}

pub returns-in_err-key-clause-keys : goal.returns-in_err-key-clause-keys
returns-in_err-key-clause-keys g c _ _ _ = never_ok c.from_residual.result _ _ c.from_residual.ensures.1
