use Rattle.std.proofs.Common.{arith, ◌≢◌, ◌≤◌, ℕ, List, slice_index_or, sym, subst}
use Rattle.rec_bytes.specs.declared.record_files.RecordFile.{RecordFile}
use Rattle.rec_bytes.specs.declared.record_files.RecordRoom.TheVariants.{Fixed}
use Rattle.rec_bytes.specs.Format.{most_ids, names_file}
use Rattle.store_rules.specs.Rules.{IsSplit}
use Rattle.store_rules.specs.Views.{Records, high, is_live}
use Rattle.store_rules.proofs.MetaLaws.{meta_of_reused}
use Rattle.store_check.proofs.FileLaws.{entry_is, holds_all, holds_none, reused-not_names, reused-of}
use Rattle.record_lists.proofs.Causes.{cause_passed}
use Rattle.rec_bytes.proofs.Causes.{never_ok, ok_cause}
use Rattle.record_lists.proofs.OnlyReads.{is_read-none, is_read-on}
use Rattle.store_check.proofs.free.check_reused.Goals as goal

pub loop-entry-init : goal.loop-entry-init
loop-entry-init g c = record {
  all = λ t. holds_none c.all_but_meta-entry-items.result.now _;
  read = is_read-none g.R.Reads g.met.R.Reads.stays_onward c.args.space.now;
}

pub returns-clause-sound : goal.returns-clause-sound
returns-clause-sound g c t f is =
    let records = (g.R.Reads.state c.args.space.now).records in
    holds_all c.all_but_meta-entry-items.result.now c.all_but_meta-entry-items.ensures c.loop-entry.entry-index
    (λ file. file ≢ names_file → (free : List ℕ) × IsSplit records file (is_live records file) free)
    (omega (arith, c.loop-entry-test.false)) (c.loop-entry.invariant.all t) f (meta_of_reused f is) (reused-not_names f is)

pub check_free-requires-clause-file : goal.check_free-requires-clause-file
check_free-requires-clause-file g c = reused-of _ (entry_is c.all_but_meta-entry-items.result.now c.all_but_meta-entry-items.ensures c.loop-entry.entry-index _
    c.loop-entry-test.true) c.if-entry-eq-NAMES.false

pub check_free-requires-clause-mark : goal.check_free-requires-clause-mark
check_free-requires-clause-mark g c =
    let other : RecordFile = record { file = 0; room = Fixed 0 } in
    let file = (slice_index_or c.all_but_meta-entry-items.result.now c.loop-entry.entry-index other).file in
    subst (λ (r : Records). high r file ≤ most_ids) (sym c.loop-entry.invariant.read.records)
    (c.requires file (meta_of_reused file (check_free-requires-clause-file g c)))

pub returns-in_err-damage-clause-read : goal.returns-in_err-damage-clause-read
returns-in_err-damage-clause-read g c =
    is_read-on g.R.Reads g.met.R.Reads.further_onward _ _ _ c.loop-entry.invariant.read c.in_err-damage.ensures.read

pub returns-in-Some-clause-read : goal.returns-in-Some-clause-read
returns-in-Some-clause-read g c =
    is_read-on g.R.Reads g.met.R.Reads.further_onward _ _ _ c.loop-entry.invariant.read c.in_ok-damage.ensures.read

pub returns-in_err-damage-clause-cause : goal.returns-in_err-damage-clause-cause
returns-in_err-damage-clause-cause g c =
    cause_passed _ _ _ c.from_residual.result c.in_err-damage.field-0.0 c.loop-entry.invariant.read.later c.in_err-damage.ensures.cause
    c.from_residual.ensures.1

pub returns-in_err-damage-clause-sound : goal.returns-in_err-damage-clause-sound
returns-in_err-damage-clause-sound g c _ = never_ok c.from_residual.result _ _ c.from_residual.ensures.1

pub returns-in_err-damage-clause-broken : goal.returns-in_err-damage-clause-broken
returns-in_err-damage-clause-broken g c _ = never_ok c.from_residual.result _ _ c.from_residual.ensures.1

pub returns-clause-cause : goal.returns-clause-cause
returns-clause-cause g c = ok_cause _ _ _ _ c.loop-entry.invariant.read.later

pub returns-clause-read : goal.returns-clause-read
returns-clause-read g c =
    c.loop-entry.invariant.read

pub returns-in-Some-clause-cause : goal.returns-in-Some-clause-cause
returns-in-Some-clause-cause g c = ok_cause _ _ _ _ (returns-in-Some-clause-read g c).later
