use Rattle.record_lists.proofs.Causes.{cause_passed}
use Rattle.std.proofs.Common.{arith, rules}
use Rattle.rec_bytes.proofs.Causes.{never_ok, ok_cause}
use Rattle.record_lists.proofs.OnlyReads.{is_read-none, is_read-on, is_read-get}
use Rattle.store_check.proofs.texts.lengths_of.Goals as goal

pub returns-in_err-rec-clause-read : goal.returns-in_err-rec-clause-read
returns-in_err-rec-clause-read g c =
    is_read-on g.R.Reads g.met.R.Reads.further_onward _ _ _ c.loop-id.invariant.read (is_read-get g.R.Reads _ _ c.in_err-rec.ensures.state
    c.in_err-rec.ensures.onward c.in_err-rec.ensures.cause.later)

pub returns-in_default-clause-read : goal.returns-in_default-clause-read
returns-in_default-clause-read g c =
    is_read-on g.R.Reads g.met.R.Reads.further_onward _ _ _ c.loop-id.invariant.read (is_read-get g.R.Reads _ _ c.in_ok-rec.ensures.state
    c.in_ok-rec.ensures.onward c.in_ok-rec.ensures.cause.later)

pub returns-in_err-rec-clause-cause : goal.returns-in_err-rec-clause-cause
returns-in_err-rec-clause-cause g c =
    cause_passed _ _ _ c.from_residual.result c.in_err-rec.field-0.0 c.loop-id.invariant.read.later c.in_err-rec.ensures.cause c.from_residual.ensures.1

pub returns-in_default-clause-cause : goal.returns-in_default-clause-cause
returns-in_default-clause-cause g c = record {
  later = let later = c.in_ok-rec.ensures.cause.later in omega (arith, c.loop-id.invariant.read.later, later);
  disk = λ blamed. absurd cc;
}

pub loop-id-init : goal.loop-id-init
loop-id-init g c = record {
  lengths = λ tells. search rules;
  read = is_read-none g.R.Reads g.met.R.Reads.stays_onward c.args.space.now;
}

pub returns-in_err-rec-clause-lengths : goal.returns-in_err-rec-clause-lengths
returns-in_err-rec-clause-lengths g c _ = never_ok c.from_residual.result _ _ c.from_residual.ensures.1

pub returns-clause-cause : goal.returns-clause-cause
returns-clause-cause g c = ok_cause _ _ _ _ c.loop-id.invariant.read.later

pub returns-clause-read : goal.returns-clause-read
returns-clause-read g c =
    c.loop-id.invariant.read
