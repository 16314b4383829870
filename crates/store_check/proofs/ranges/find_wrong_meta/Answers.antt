use Rattle.std.proofs.Common.{rules, arith, ◌≡◌, ◌≤◌, true, subst}
use Rattle.rec_bytes.specs.declared.shape.Shape.{Shape}
use Rattle.rec_bytes.specs.Format.{most_ids}
use Rattle.rec_bytes.specs.RecordFiles.{is_meta_file}
use Rattle.rec_bytes.proofs.RecordFiles.{is_meta_file-record, is_record_file-low}
use Rattle.store_rules.specs.Views.{Records, high}
use Rattle.store_rules.specs.Breaking.{IsMetaKept}
use Rattle.record_lists.proofs.HeadLaws.{one_more}
use Rattle.rec_bytes.proofs.Causes.{never_ok, ok_cause}
use Rattle.record_lists.proofs.Causes.{cause_passed}
use Rattle.record_lists.proofs.OnlyReads.{is_read-none, is_read-on}
use Rattle.store_check.proofs.ranges.find_wrong_meta.Goals as goal

pub loop-id-init : goal.loop-id-init
loop-id-init g c = record {
  all = λ t n lt. absurd (omega (arith, lt));
  low = λ f lt is. absurd (omega (arith, lt));
  read = is_read-none g.R.Reads g.met.R.Reads.stays_onward c.args.space.now;
}

pub loop-id-preserved : goal.loop-id-preserved
loop-id-preserved g c =
    let s = g.R.Reads.state c.args.space.now in
    let inv = c.loop-id.invariant in
    let id = c.loop-id.id in
    let well : c.in_ok-is_meta_kept.field-0 ≡ true = search rules in
    record {
      all = λ t. one_more (λ n. IsMetaKept s.records s.shape n) id (inv.all t)
          (subst (λ (r : Records). IsMetaKept r s.shape id) inv.read.records
          (subst (λ (h : Shape). IsMetaKept (g.R.Reads.state c.loop-id.space).records h id) (g.met.R.Reads.onward_shape _ _ inv.read.onward)
          ((c.in_ok-is_meta_kept.ensures.right t).0 well)));
      low = one_more (λ f. is_meta_file f ≡ true → high s.records f ≤ most_ids) id inv.low
          (λ is. subst (λ (r : Records). high r id ≤ most_ids) inv.read.records (c.in_ok-is_meta_kept.ensures.low well is));
      read = is_read-on g.R.Reads g.met.R.Reads.further_onward c.args.space.now c.loop-id.space c.is_meta_kept.new.space inv.read
          c.in_ok-is_meta_kept.ensures.read;
    }

pub returns-clause-none : goal.returns-clause-none
returns-clause-none g c t id lt = c.loop-id.invariant.all t id (let low = lt in omega arith)

pub returns-clause-low : goal.returns-clause-low
returns-clause-low g c f is = c.loop-id.invariant.low f (let low = is_record_file-low f (is_meta_file-record f is) in omega arith) is

pub returns-in_err-is_meta_kept-clause-none : goal.returns-in_err-is_meta_kept-clause-none
returns-in_err-is_meta_kept-clause-none g c _ = never_ok c.from_residual.result _ _ c.from_residual.ensures.1

pub returns-in_err-is_meta_kept-clause-found : goal.returns-in_err-is_meta_kept-clause-found
returns-in_err-is_meta_kept-clause-found g c _ = never_ok c.from_residual.result _ _ c.from_residual.ensures.1

pub returns-in_err-is_meta_kept-clause-id : goal.returns-in_err-is_meta_kept-clause-id
returns-in_err-is_meta_kept-clause-id g c = never_ok c.from_residual.result _ _ c.from_residual.ensures.1

pub returns-in_err-is_meta_kept-clause-low : goal.returns-in_err-is_meta_kept-clause-low
returns-in_err-is_meta_kept-clause-low g c = never_ok c.from_residual.result _ _ c.from_residual.ensures.1

pub returns-clause-cause : goal.returns-clause-cause
returns-clause-cause g c = ok_cause _ _ _ _ c.loop-id.invariant.read.later

pub returns-in_err-is_meta_kept-clause-read : goal.returns-in_err-is_meta_kept-clause-read
returns-in_err-is_meta_kept-clause-read g c =
    is_read-on g.R.Reads g.met.R.Reads.further_onward _ _ _ c.loop-id.invariant.read c.in_err-is_meta_kept.ensures.read

pub returns-in_err-is_meta_kept-clause-cause : goal.returns-in_err-is_meta_kept-clause-cause
returns-in_err-is_meta_kept-clause-cause g c =
    cause_passed _ _ _ c.from_residual.result c.in_err-is_meta_kept.field-0.0 c.loop-id.invariant.read.later
    c.in_err-is_meta_kept.ensures.cause c.from_residual.ensures.1

pub returns-clause-read : goal.returns-clause-read
returns-clause-read g c =
    c.loop-id.invariant.read

pub returns-then-not-branch-clause-read : goal.returns-then-not-branch-clause-read
returns-then-not-branch-clause-read g c = is_read-on g.R.Reads g.met.R.Reads.further_onward _ _ _ c.loop-id.invariant.read c.is_meta_kept.ensures.read

pub returns-then-not-branch-clause-cause : goal.returns-then-not-branch-clause-cause
returns-then-not-branch-clause-cause g c = ok_cause _ _ _ _ (returns-then-not-branch-clause-read g c).later
