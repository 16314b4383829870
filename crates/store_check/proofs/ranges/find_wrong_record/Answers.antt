use Rattle.std.proofs.Common.{rules, arith, ◌≤◌, ◌<◌, ℕ, IfNone, slice_index_or, sym, subst}
use Rattle.rec_bytes.specs.declared.record_files.RecordFile.{RecordFile}
use Rattle.rec_bytes.specs.declared.record_files.RecordRoom.TheVariants.{Fixed}
use Rattle.rec_bytes.specs.Format.{most_ids}
use Rattle.store_rules.specs.Views.{Records, high}
use Rattle.store_check.specs.Fitting.{FitsAt}
use Rattle.store_check.proofs.FileLaws.{entry_is, holds_all, holds_more, holds_none}
use Rattle.rec_bytes.proofs.Causes.{never_ok, ok_cause}
use Rattle.record_lists.proofs.Causes.{cause_passed}
use Rattle.record_lists.proofs.OnlyReads.{is_read-none, is_read-on}
use Rattle.store_check.proofs.ranges.find_wrong_record.Goals as goal

pub loop-entry-init : goal.loop-entry-init
loop-entry-init g c = record {
  all = λ t. holds_none c.all_but_meta-entry-items.result.now _;
  read = is_read-none g.R.Reads g.met.R.Reads.stays_onward c.args.space.now;
}

pub find_wrong-requires-clause-file : goal.find_wrong-requires-clause-file
find_wrong-requires-clause-file g c = entry_is c.all_but_meta-entry-items.result.now c.all_but_meta-entry-items.ensures c.loop-entry.entry-index _
    c.loop-entry-test.true

pub find_wrong-requires-clause-mark : goal.find_wrong-requires-clause-mark
find_wrong-requires-clause-mark g c =
    let other : RecordFile = record { file = 0; room = Fixed 0 } in
    let file = (slice_index_or c.all_but_meta-entry-items.result.now c.loop-entry.entry-index other).file in
    subst (λ (r : Records). high r file ≤ most_ids) (sym c.loop-entry.invariant.read.records) (c.requires file (find_wrong-requires-clause-file g c))

pub returns-clause-none : goal.returns-clause-none
returns-clause-none g c t f x is lt =
    let records = (g.R.Reads.state c.args.space.now).records in
    holds_all c.all_but_meta-entry-items.result.now c.all_but_meta-entry-items.ensures c.loop-entry.entry-index
    (λ file. (y : ℕ) → y < high records file → FitsAt records file y)
    (omega (arith, c.loop-entry-test.false)) (c.loop-entry.invariant.all t) f is x lt

pub returns-in-Some-clause-file : goal.returns-in-Some-clause-file
returns-in-Some-clause-file g c = entry_is c.all_but_meta-entry-items.result.now c.all_but_meta-entry-items.ensures c.loop-entry.entry-index _
    c.loop-entry-test.true

pub loop-entry-preserved : goal.loop-entry-preserved
loop-entry-preserved g c =
    let records = (g.R.Reads.state c.args.space.now).records in
    let inv = c.loop-entry.invariant in
    let items = c.all_but_meta-entry-items.result.now in
    let other : RecordFile = record { file = 0; room = Fixed 0 } in
    let file = (slice_index_or items c.loop-entry.entry-index other).file in
    record {
      all = λ t.
          let none : IfNone c.in_ok-id.field-0 ((y : ℕ) → y < high records file → FitsAt records file y)
          = subst (λ (r : Records). IfNone c.in_ok-id.field-0 ((y : ℕ) → y < high r file → FitsAt r file y)) inv.read.records (c.in_ok-id.ensures.none t) in
          let each : (y : ℕ) → y < high records file → FitsAt records file y = search (rules, none) in
          holds_more items c.loop-entry.entry-index other (λ f. (y : ℕ) → y < high records f → FitsAt records f y) c.loop-entry-test.true (inv.all t) each;
      read = is_read-on g.R.Reads g.met.R.Reads.further_onward c.args.space.now c.loop-entry.space c.find_wrong.new.space inv.read c.in_ok-id.ensures.read;
    }

pub returns-in_err-id-clause-none : goal.returns-in_err-id-clause-none
returns-in_err-id-clause-none g c _ = never_ok c.from_residual.result _ _ c.from_residual.ensures.1

pub returns-in_err-id-clause-found : goal.returns-in_err-id-clause-found
returns-in_err-id-clause-found g c _ = never_ok c.from_residual.result _ _ c.from_residual.ensures.1

pub returns-in_err-id-clause-file : goal.returns-in_err-id-clause-file
returns-in_err-id-clause-file g c = never_ok c.from_residual.result _ _ c.from_residual.ensures.1

pub returns-clause-cause : goal.returns-clause-cause
returns-clause-cause g c = ok_cause _ _ _ _ c.loop-entry.invariant.read.later

pub returns-in_err-id-clause-read : goal.returns-in_err-id-clause-read
returns-in_err-id-clause-read g c =
    is_read-on g.R.Reads g.met.R.Reads.further_onward _ _ _ c.loop-entry.invariant.read c.in_err-id.ensures.read

pub returns-in_err-id-clause-cause : goal.returns-in_err-id-clause-cause
returns-in_err-id-clause-cause g c =
    cause_passed _ _ _ c.from_residual.result c.in_err-id.field-0.0 c.loop-entry.invariant.read.later c.in_err-id.ensures.cause c.from_residual.ensures.1

pub returns-clause-read : goal.returns-clause-read
returns-clause-read g c =
    c.loop-entry.invariant.read

pub returns-in-Some-clause-read : goal.returns-in-Some-clause-read
returns-in-Some-clause-read g c = is_read-on g.R.Reads g.met.R.Reads.further_onward _ _ _ c.loop-entry.invariant.read c.find_wrong.ensures.read

pub returns-in-Some-clause-cause : goal.returns-in-Some-clause-cause
returns-in-Some-clause-cause g c = ok_cause _ _ _ _ (returns-in-Some-clause-read g c).later
