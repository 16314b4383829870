use Rattle.std.proofs.Common.{rules, arith, ◌≡◌, true, sym, subst}
use Rattle.store_rules.specs.Views.{Records}
use Rattle.record_lists.proofs.HeadLaws.{one_more}
use Rattle.rec_bytes.proofs.Causes.{never_ok, ok_cause}
use Rattle.record_lists.proofs.Causes.{cause_passed}
use Rattle.record_lists.proofs.OnlyReads.{is_read-none, is_read-on}
use Rattle.record_lists.proofs.sentence.find_false.Goals as goal

pub loop-id-init : goal.loop-id-init
loop-id-init g c = record {
  all = λ t x lt. absurd (omega arith);
  read = is_read-none g.R.Reads g.met.R.Reads.stays_onward c.args.space.now;
}

pub holds-requires-clause-suits : goal.holds-requires-clause-suits
holds-requires-clause-suits g c = subst (g.S.Sentence.suits c.args.sentence.now) (sym c.loop-id.invariant.read.records) c.requires.suits

pub loop-id-preserved : goal.loop-id-preserved
loop-id-preserved g c =
    let records = (g.R.Reads.state c.args.space.now).records in
    let says = g.S.Sentence.says c.args.sentence.now in
    let inv = c.loop-id.invariant in
    let well : c.in_ok-holds.field-0 ≡ true = search rules in
    record {
      all = λ t. one_more (says records) c.loop-id.id (inv.all t) (subst (λ (r : Records). says r c.loop-id.id) inv.read.records
          ((c.in_ok-holds.ensures.told t).0 well));
      read = is_read-on g.R.Reads g.met.R.Reads.further_onward c.args.space.now c.loop-id.space c.holds.new.space inv.read c.in_ok-holds.ensures.read;
    }

pub returns-in_err-holds-clause-none : goal.returns-in_err-holds-clause-none
returns-in_err-holds-clause-none g c _ = never_ok c.from_residual.result _ _ c.from_residual.ensures.1

pub returns-in_err-holds-clause-found : goal.returns-in_err-holds-clause-found
returns-in_err-holds-clause-found g c _ = never_ok c.from_residual.result _ _ c.from_residual.ensures.1

pub returns-then-not-branch-clause-cause : goal.returns-then-not-branch-clause-cause
returns-then-not-branch-clause-cause g c = ok_cause _ _ _ _ (omega (arith, c.loop-id.invariant.read.later, c.in_ok-holds.ensures.read.later))

pub returns-clause-cause : goal.returns-clause-cause
returns-clause-cause g c = ok_cause _ _ _ _ c.loop-id.invariant.read.later

pub returns-in_err-holds-clause-read : goal.returns-in_err-holds-clause-read
returns-in_err-holds-clause-read g c =
    is_read-on g.R.Reads g.met.R.Reads.further_onward _ _ _ c.loop-id.invariant.read c.in_err-holds.ensures.read

pub returns-in_err-holds-clause-cause : goal.returns-in_err-holds-clause-cause
returns-in_err-holds-clause-cause g c =
    cause_passed _ _ _ c.from_residual.result c.in_err-holds.field-0.0 c.loop-id.invariant.read.later c.in_err-holds.ensures.cause c.from_residual.ensures.1

pub returns-then-not-branch-clause-read : goal.returns-then-not-branch-clause-read
returns-then-not-branch-clause-read g c =
    is_read-on g.R.Reads g.met.R.Reads.further_onward _ _ _ c.loop-id.invariant.read c.in_ok-holds.ensures.read

pub returns-clause-read : goal.returns-clause-read
returns-clause-read g c =
    c.loop-id.invariant.read
