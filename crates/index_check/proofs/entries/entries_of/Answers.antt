use Rattle.std.proofs.Common.{ap, arith, length, rules, subst, sym, ◌++◌, ◌+◌, ◌<◌, ◌∙◌, ◌≡◌}
use Rattle.std.specs.List.{All}
use Rattle.rec_bytes.specs.Format as format
use Rattle.rec_bytes.specs.declared.meta.Meta.{Meta}
use Rattle.store_rules.specs.IndexBreaking.{IsBucketList}
use Rattle.store_rules.specs.Views.{Records, high}
use Rattle.record_lists.proofs.Causes.{cause_passed}
use Rattle.index_check.specs.Entries.{AreEntriesTo}
use Rattle.index_check.proofs.EntryLaws.{entries_more, entries_none, low_more}
use Rattle.rec_bytes.proofs.Causes.{never_ok, ok_cause}
use Rattle.record_lists.proofs.OnlyReads.{is_read-none, is_read-on}
use Rattle.prop_store.proofs.Causes.{later_on}
use Rattle.index_check.proofs.entries.entries_of.Goals as goal

pub loop-number-init : goal.loop-number-init
loop-number-init g c =
    let records = (g.R.Reads.state c.args.space.now).records in
    record {
      are = λ tells. subst (AreEntriesTo records c.args.definition 0) (sym c.new-entries.ensures.items) (entries_none records c.args.definition);
      low = λ k d lt. let none : length c.new-entries.result.items ≡ 0 = ap length c.new-entries.ensures.items in absurd (omega arith);
      read = is_read-none g.R.Reads g.met.R.Reads.stays_onward c.args.space.now;
    }

pub loop-number-preserved : goal.loop-number-preserved
loop-number-preserved g c =
    let records = (g.R.Reads.state c.args.space.now).records in
    let inv = c.loop-number.invariant in
    let d = c.args.definition in
    let n = c.loop-number.number in
    let ids = c.in-Some.ids.items in
    let items : c.extend_from_slice.new.self.items ≡ c.loop-number.entries.items ++ ids = c.in-Ok.ensures.items
    ∙ ap (λ xs. c.loop-number.entries.items ++ xs) c.deref.ensures.value in
    let mark : c.meta-records.result.high ≡ high records format.index_file = ap (λ (m : Meta). m.high) c.meta-records.ensures in
    let few : All (λ x. x < c.meta-records.result.high) ids = search (rules, c.in_ok-ids.ensures.low) in
    record {
      are = λ tells.
          let found : IsBucketList (g.R.Reads.state c.loop-number.space).records d n ids = search (rules, c.in_ok-ids.ensures.found tells) in
          subst (AreEntriesTo records d (n + 1)) (sym items) (entries_more records d n c.loop-number.entries.items ids (inv.are tells)
          (subst (λ (r : Records). IsBucketList r d n ids) inv.read.records found));
      low = low_more c.meta-records.result.high format.most_ids c.loop-number.entries.items ids c.extend_from_slice.new.self.items
          (omega (arith, c.requires.low)) items inv.low few;
      read = is_read-on g.R.Reads g.met.R.Reads.further_onward c.args.space.now c.loop-number.space c.bucket_at.new.space inv.read c.in_ok-ids.ensures.read;
    }

pub returns-in_err-ids-clause-cause : goal.returns-in_err-ids-clause-cause
returns-in_err-ids-clause-cause g c =
    cause_passed _ _ _ c.from_residual.result c.in_err-ids.field-0.0 c.loop-number.invariant.read.later c.in_err-ids.ensures.cause c.from_residual.ensures.1

pub returns-in_err-ids-clause-read : goal.returns-in_err-ids-clause-read
returns-in_err-ids-clause-read g c =
    is_read-on g.R.Reads g.met.R.Reads.further_onward c.args.space.now c.loop-number.space c.bucket_at.new.space c.loop-number.invariant.read
    c.in_err-ids.ensures.read

pub returns-clause-found : goal.returns-clause-found
returns-clause-found g c = λ tells.
    let records = (g.R.Reads.state c.args.space.now).records in
    let all : c.loop-number.number ≡ 180 = omega arith in
    subst (λ n. AreEntriesTo records c.args.definition n c.loop-number.entries.items) all (c.loop-number.invariant.are tells)

pub returns-in_default-clause-read : goal.returns-in_default-clause-read
returns-in_default-clause-read g c =
    is_read-on g.R.Reads g.met.R.Reads.further_onward _ _ _ c.loop-number.invariant.read c.in_ok-ids.ensures.read

pub returns-in_default-extend_from_slice-clause-read : goal.returns-in_default-extend_from_slice-clause-read
returns-in_default-extend_from_slice-clause-read g c =
    is_read-on g.R.Reads g.met.R.Reads.further_onward _ _ _ c.loop-number.invariant.read c.in_ok-ids.ensures.read

pub returns-in_default-extend_from_slice-clause-cause : goal.returns-in_default-extend_from_slice-clause-cause
returns-in_default-extend_from_slice-clause-cause g c = record {
  later = let later = c.in_ok-ids.ensures.cause.later in omega (arith, c.loop-number.invariant.read.later, later);
  disk = λ blamed. absurd cc;
}

pub returns-in_err-ids-clause-found : goal.returns-in_err-ids-clause-found
returns-in_err-ids-clause-found g c _ = never_ok c.from_residual.result _ _ c.from_residual.ensures.1

pub returns-in_err-ids-clause-none : goal.returns-in_err-ids-clause-none
returns-in_err-ids-clause-none g c _ = never_ok c.from_residual.result _ _ c.from_residual.ensures.1

pub returns-in_err-ids-clause-low : goal.returns-in_err-ids-clause-low
returns-in_err-ids-clause-low g c = never_ok c.from_residual.result _ _ c.from_residual.ensures.1

pub returns-clause-cause : goal.returns-clause-cause
returns-clause-cause g c = ok_cause _ _ _ _ c.loop-number.invariant.read.later

pub returns-in_default-clause-cause : goal.returns-in_default-clause-cause
returns-in_default-clause-cause g c = ok_cause _ _ _ _ (later_on c.loop-number.invariant.read.later c.in_ok-ids.ensures.cause.later)
