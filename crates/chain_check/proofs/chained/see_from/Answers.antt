use Rattle.std.proofs.Common.{◌≡◌, true, arith, rules, sym, subst}
use Rattle.store_rules.specs.Breaking.{IsOwnedBy}
use Rattle.store_rules.specs.Views.{Records}
use Rattle.record_lists.specs.Seen.{is_seen}
use Rattle.chain_check.specs.Chained.{next_group}
use Rattle.chain_check.proofs.ChainedLaws.{come_first, come_last, come_next, owned_low}
use Rattle.record_lists.proofs.Causes.{cause_passed}
use Rattle.rec_bytes.proofs.Causes.{never_ok, ok_cause}
use Rattle.record_lists.proofs.OnlyReads.{is_read-none, is_read-on}
use Rattle.chain_check.proofs.chained.see_from.Goals as goal

pub loop-at-init : goal.loop-at-init
loop-at-init g c = record {
  come = λ t. come_first (g.R.Reads.state c.args.space.now).records c.args.node c.args.first (c.requires.dense t) (c.requires.first t) c.args.seen.now
      (c.requires.clear t);
  read = is_read-none g.R.Reads g.met.R.Reads.stays_onward c.args.space.now;
}

pub loop-at-preserved : goal.loop-at-preserved
loop-at-preserved g c =
    let records = (g.R.Reads.state c.args.space.now).records in
    let inv = c.loop-at.invariant in
    record {
      come = λ t.
          let now = (g.R.Reads.state c.loop-at.space).records in
          let owned : IsOwnedBy now c.args.node c.loop-at.at × (next_group now c.loop-at.at ≡ c.in-Some.next) = search (rules, c.in_ok-next.ensures.owned t) in
          come_next records c.args.node c.args.first c.args.seen.now c.loop-at.seen c.loop-at.at c.in-Some.next c.loop-at-test.true (inv.come t)
          (subst (λ (r : Records). IsOwnedBy r c.args.node c.loop-at.at) inv.read.records owned.0)
          (subst (λ (r : Records). next_group r c.loop-at.at ≡ c.in-Some.next) inv.read.records owned.1);
      read = is_read-on g.R.Reads g.met.R.Reads.further_onward c.args.space.now c.loop-at.space c.next_owned.new.space inv.read c.in_ok-next.ensures.read;
    }

pub returns-in_default-clause-seen : goal.returns-in_default-clause-seen
returns-in_default-clause-seen g c = λ t.
    let records = (g.R.Reads.state c.args.space.now).records in
    let inv = c.loop-at.invariant in
    let now = (g.R.Reads.state c.loop-at.space).records in
    let none : ¬ IsOwnedBy now c.args.node c.loop-at.at = search (rules, c.in_ok-next.ensures.none t) in
    come_last records c.args.node c.args.first (c.requires.dense t) (c.requires.first t) c.args.seen.now c.loop-at.seen c.loop-at.at (inv.come t)
    (λ own. absurd (none (subst (λ (r : Records). IsOwnedBy r c.args.node c.loop-at.at) (sym inv.read.records) own)))

pub returns-else-not-seen-at-clause-seen : goal.returns-else-not-seen-at-clause-seen
returns-else-not-seen-at-clause-seen g c = λ t.
    let records = (g.R.Reads.state c.args.space.now).records in
    let is : is_seen c.loop-at.seen c.loop-at.at ≡ true = search rules in
    come_last records c.args.node c.args.first (c.requires.dense t) (c.requires.first t) c.args.seen.now c.loop-at.seen c.loop-at.at
    (c.loop-at.invariant.come t) (λ own. is)

pub returns-after-loop-at-clause-seen : goal.returns-after-loop-at-clause-seen
returns-after-loop-at-clause-seen g c = λ t.
    let records = (g.R.Reads.state c.args.space.now).records in
    come_last records c.args.node c.args.first (c.requires.dense t) (c.requires.first t) c.args.seen.now c.loop-at.seen c.loop-at.at
    (c.loop-at.invariant.come t)
    (λ own. absurd (let low = owned_low records c.args.node c.loop-at.at own in omega (arith, c.loop-at-test.false, c.loop-at.auto.seen, c.requires.seen)))

pub returns-in_err-next-clause-cause : goal.returns-in_err-next-clause-cause
returns-in_err-next-clause-cause g c =
    cause_passed _ _ _ c.from_residual.result c.in_err-next.field-0.0 c.loop-at.invariant.read.later c.in_err-next.ensures.cause c.from_residual.ensures.1

pub returns-in_err-next-clause-seen : goal.returns-in_err-next-clause-seen
returns-in_err-next-clause-seen g c _ = never_ok c.from_residual.result _ _ c.from_residual.ensures.1

pub returns-in_err-next-clause-read : goal.returns-in_err-next-clause-read
returns-in_err-next-clause-read g c =
    is_read-on g.R.Reads g.met.R.Reads.further_onward _ _ _ c.loop-at.invariant.read c.in_err-next.ensures.read

pub returns-after-loop-at-clause-read : goal.returns-after-loop-at-clause-read
returns-after-loop-at-clause-read g c = c.loop-at.invariant.read

pub returns-after-loop-at-clause-cause : goal.returns-after-loop-at-clause-cause
returns-after-loop-at-clause-cause g c = ok_cause _ _ _ _ (returns-after-loop-at-clause-read g c).later

pub returns-else-not-seen-at-clause-read : goal.returns-else-not-seen-at-clause-read
returns-else-not-seen-at-clause-read g c = c.loop-at.invariant.read

pub returns-else-not-seen-at-clause-cause : goal.returns-else-not-seen-at-clause-cause
returns-else-not-seen-at-clause-cause g c = ok_cause _ _ _ _ (returns-else-not-seen-at-clause-read g c).later

pub returns-in_default-clause-read : goal.returns-in_default-clause-read
returns-in_default-clause-read g c = is_read-on g.R.Reads g.met.R.Reads.further_onward _ _ _ c.loop-at.invariant.read c.in_ok-next.ensures.read

pub returns-in_default-clause-cause : goal.returns-in_default-clause-cause
returns-in_default-clause-cause g c = ok_cause _ _ _ _ (returns-in_default-clause-read g c).later
