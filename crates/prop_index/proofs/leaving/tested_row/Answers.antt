use Rattle.std.specs.Prelude.{IfSome}
use Rattle.std.proofs.Common.{◌≡◌, ◌≢◌, ◌⊎◌, Option, Some, inl, inr, refl, ap, sym, ◌∙◌, subst, ⊎_elim, arith}
use Rattle.rec_bytes.specs.declared.record.Rec.{Rec}
use Rattle.rec_bytes.specs.Format as format
use Rattle.rec_bytes.specs.Key.{IsKey}
use Rattle.rec_bytes.specs.Meta.{IsLinkBelow}
use Rattle.rec_bytes.specs.Record.{field}
use Rattle.rec_bytes.specs.Space.{State, meta_of}
use Rattle.rec_bytes.proofs.Causes.{never_ok, ok_cause}
use Rattle.store_rules.specs.Indexes.{first_entry, next_entry, previous_entry}
use Rattle.store_rules.specs.Views.{Records, key_in, kind_at}
use Rattle.prop_store.proofs.Causes.{cause_passed, later_on}
use Rattle.prop_store.proofs.Exits.{same_has}
use Rattle.prop_index.specs.Blaming.{IsEntryAt, NamesIndexes}
use Rattle.prop_index.specs.Leaving.{IsEntryBefore, IsEntryRow, IsEntrySought, IsLedTo}
use Rattle.prop_index.specs.Naming.{BlamesBucket}
use Rattle.prop_index.specs.declared.entry_row.EntryRow.{EntryRow}
use Rattle.prop_index.proofs.Causes.{told_cause}
use Rattle.prop_index.proofs.IndexNamed.{before_lacks, bucket_before, leads_again, mark_bucket, mark_names, marks_before, some_entry}
use Rattle.prop_index.proofs.Reread.{same_records, same_then}
use Rattle.prop_index.proofs.leaving.tested_row.Goals as goal

pub returns-in_default-clause-found : goal.returns-in_default-clause-found
returns-in_default-clause-found g c tells xs are =
    subst (IsEntrySought (g.R.Reads.state c.args.space.now).records xs c.args.content) c.in_default.is (c.in_ok-row.ensures.found tells xs are)

pub returns-clause-found : goal.returns-clause-found
returns-clause-found g c tells xs are =
    subst (IsEntrySought (g.R.Reads.state c.args.space.now).records xs c.args.content) c.in-Some.is (c.in_ok-row.ensures.found tells xs are)

pub returns-clause-row : goal.returns-clause-row
returns-clause-row g c tells = subst (λ (o : Option EntryRow). IfSome o (IsEntryRow (g.R.Reads.state c.args.space.now).records)) c.in-Some.is
    (c.in_ok-row.ensures.row tells)

pub returns-clause-between : goal.returns-clause-between
returns-clause-between g c tells d b h =
    let s = g.R.Reads.state c.args.space.now in
    let now = g.R.Reads.state c.find_entry.new.space in
    let same = c.in_ok-row.ensures.same in
    let row = c.in-Some.row in
    let led = subst (λ (o : Option EntryRow). IfSome o (λ r. IsLedTo s.records d b r.before r.id)) c.in-Some.is
    (c.in_ok-row.ensures.led tells d b (subst (IsEntryAt s d b 0 c.args.bucket.first) (sym c.out_of_range-named.ensures) h)) in
    let apart = subst (λ (o : Option EntryRow). IfSome o (λ r. r.before ≢ r.id)) c.in-Some.is (c.in_ok-row.ensures.apart tells) in
    let read = subst (λ (o : Option EntryRow). IfSome o (IsEntryRow s.records)) c.in-Some.is (c.in_ok-row.ensures.row tells) in
    let before_is : field 4 row.rec format.indexed_previous ≡ row.before = sym c.number-before.ensures ∙ c.if-before-row.false in
    let other : field 4 row.rec format.indexed_previous ≢ row.id = λ e. apart (sym before_is ∙ e) in
    let records = same_records s now same in
    record {
      before = λ some. ⊎_elim
          (λ (f : (row.before ≡ format.nil) × (first_entry s.records d b ≡ row.id)). absurd (some (before_is ∙ f.0)))
          (λ (e : IsEntryBefore s.records d b row.before row.id). ap (kind_at s.records format.index_file) before_is ∙ e.used) led.from;
      after = λ some. ap (kind_at s.records format.index_file) (sym c.number-after.ensures)
          ∙ ap (λ (r : Records). kind_at r format.index_file c.number-after.result) (sym records)
          ∙ c.in_ok-test_after.ensures.used tells (λ e. some (sym c.number-after.ensures ∙ e));
      other = other;
      another = λ e. other
          (ap (λ (r : Rec). field 4 r format.indexed_previous) read.rec_is ∙ ap (previous_entry s.records) (sym e)
          ∙ ap (previous_entry s.records) (sym c.number-after.ensures)
          ∙ ap (λ (r : Records). previous_entry r c.number-after.result) (sym records)
          ∙ c.in_ok-test_after.ensures.back tells (λ none. some_entry s.records d b led.count row.id led.leads (sym e ∙ sym c.number-after.ensures ∙ none)));
      free = subst (λ (z : State). IsLinkBelow (meta_of z format.index_file).free (meta_of z format.index_file).high) same c.in_ok-test_free.ensures.free;
    }

pub returns-in_err-row-clause-wrong : goal.returns-in_err-row-clause-wrong
returns-in_err-row-clause-wrong g c tells d b h =
    let s = g.R.Reads.state c.args.space.now in
    same_has (BlamesBucket s d b) c.from_residual.result c.in_err-row.field-0.0 c.from_residual.ensures.1
    (c.in_err-row.ensures.wrong tells (ap (λ z. z.file) c.out_of_range-named.ensures) d b (subst (IsEntryAt s d b 0 c.args.bucket.first)
    (sym c.out_of_range-named.ensures) h))

pub returns-in_err-test_free-clause-wrong : goal.returns-in_err-test_free-clause-wrong
returns-in_err-test_free-clause-wrong g c tells d b h =
    let s = g.R.Reads.state c.args.space.now in
    let now = g.R.Reads.state c.find_entry.new.space in
    let fault = c.in_err-test_free.field-0.0 in
    same_has (BlamesBucket s d b) c.from_residual-in_err-test_free.result fault c.from_residual-in_err-test_free.ensures.1
    (mark_bucket s d b fault (marks_before s now fault c.in_ok-row.ensures.same c.in_err-test_free.ensures.wrong))

pub returns-then-before-row-clause-wrong : goal.returns-then-before-row-clause-wrong
returns-then-before-row-clause-wrong g c tells d b h =
    let s = g.R.Reads.state c.args.space.now in
    let row = c.in-Some.row in
    let led = subst (λ (o : Option EntryRow). IfSome o (λ r. IsLedTo s.records d b r.before r.id)) c.in-Some.is
    (c.in_ok-row.ensures.led tells d b (subst (IsEntryAt s d b 0 c.args.bucket.first) (sym c.out_of_range-named.ensures) h)) in
    let read = subst (λ (o : Option EntryRow). IfSome o (IsEntryRow s.records)) c.in-Some.is (c.in_ok-row.ensures.row tells) in
    subst (BlamesBucket s d b) (sym c.damaged.ensures) (inr (
      refl,
      before_lacks s.records d b row.before row.id led
          (λ e. c.if-before-row.true (c.number-before.ensures ∙ ap (λ (r : Rec). field 4 r format.indexed_previous) read.rec_is ∙ e)),
    ))

pub returns-in_err-test_after-clause-wrong : goal.returns-in_err-test_after-clause-wrong
returns-in_err-test_after-clause-wrong g c tells d b h =
    let s = g.R.Reads.state c.args.space.now in
    let now = g.R.Reads.state c.find_entry.new.space in
    let same = c.in_ok-row.ensures.same in
    let records = same_records s now same in
    let row = c.in-Some.row in
    let led = subst (λ (o : Option EntryRow). IfSome o (λ r. IsLedTo s.records d b r.before r.id)) c.in-Some.is
    (c.in_ok-row.ensures.led tells d b (subst (IsEntryAt s d b 0 c.args.bucket.first) (sym c.out_of_range-named.ensures) h)) in
    let read = subst (λ (o : Option EntryRow). IfSome o (IsEntryRow s.records)) c.in-Some.is (c.in_ok-row.ensures.row tells) in
    let fault = c.in_err-test_after.field-0.0 in
    same_has (BlamesBucket s d b) c.from_residual-in_err-test_after.result fault c.from_residual-in_err-test_after.ensures.1
    (bucket_before s now d b fault same (c.in_err-test_after.ensures.wrong tells d b led.count
    (leads_again s.records now.records d b led.count row.id records led.leads)
    (ap (λ (r : Records). kind_at r format.index_file row.id) records ∙ read.used)
    (ap (λ (r : Records). next_entry r row.id) records ∙ ap (λ (r : Rec). field 4 r format.indexed_next) (sym read.rec_is) ∙ sym c.number-after.ensures)))

pub returns-in_err-row-clause-found : goal.returns-in_err-row-clause-found
returns-in_err-row-clause-found g c _ _ _ = never_ok c.from_residual.result _ _ c.from_residual.ensures.1

pub returns-in_err-row-clause-row : goal.returns-in_err-row-clause-row
returns-in_err-row-clause-row g c _ = never_ok c.from_residual.result _ _ c.from_residual.ensures.1

pub returns-in_err-row-clause-between : goal.returns-in_err-row-clause-between
returns-in_err-row-clause-between g c _ _ _ _ = never_ok c.from_residual.result _ _ c.from_residual.ensures.1

pub returns-in_err-row-clause-key : goal.returns-in_err-row-clause-key
returns-in_err-row-clause-key g c = never_ok c.from_residual.result _ _ c.from_residual.ensures.1

pub returns-in_err-row-clause-before : goal.returns-in_err-row-clause-before
returns-in_err-row-clause-before g c = never_ok c.from_residual.result _ _ c.from_residual.ensures.1

pub returns-in_err-row-clause-after : goal.returns-in_err-row-clause-after
returns-in_err-row-clause-after g c = never_ok c.from_residual.result _ _ c.from_residual.ensures.1

pub returns-in_err-test_free-clause-found : goal.returns-in_err-test_free-clause-found
returns-in_err-test_free-clause-found g c _ _ _ = never_ok c.from_residual-in_err-test_free.result _ _ c.from_residual-in_err-test_free.ensures.1

pub returns-in_err-test_free-clause-row : goal.returns-in_err-test_free-clause-row
returns-in_err-test_free-clause-row g c _ = never_ok c.from_residual-in_err-test_free.result _ _ c.from_residual-in_err-test_free.ensures.1

pub returns-in_err-test_free-clause-between : goal.returns-in_err-test_free-clause-between
returns-in_err-test_free-clause-between g c _ _ _ _ = never_ok c.from_residual-in_err-test_free.result _ _ c.from_residual-in_err-test_free.ensures.1

pub returns-in_err-test_free-clause-key : goal.returns-in_err-test_free-clause-key
returns-in_err-test_free-clause-key g c = never_ok c.from_residual-in_err-test_free.result _ _ c.from_residual-in_err-test_free.ensures.1

pub returns-in_err-test_free-clause-before : goal.returns-in_err-test_free-clause-before
returns-in_err-test_free-clause-before g c = never_ok c.from_residual-in_err-test_free.result _ _ c.from_residual-in_err-test_free.ensures.1

pub returns-in_err-test_free-clause-after : goal.returns-in_err-test_free-clause-after
returns-in_err-test_free-clause-after g c = never_ok c.from_residual-in_err-test_free.result _ _ c.from_residual-in_err-test_free.ensures.1

pub returns-in_err-test_after-clause-found : goal.returns-in_err-test_after-clause-found
returns-in_err-test_after-clause-found g c _ _ _ = never_ok c.from_residual-in_err-test_after.result _ _ c.from_residual-in_err-test_after.ensures.1

pub returns-in_err-test_after-clause-row : goal.returns-in_err-test_after-clause-row
returns-in_err-test_after-clause-row g c _ = never_ok c.from_residual-in_err-test_after.result _ _ c.from_residual-in_err-test_after.ensures.1

pub returns-in_err-test_after-clause-between : goal.returns-in_err-test_after-clause-between
returns-in_err-test_after-clause-between g c _ _ _ _ = never_ok c.from_residual-in_err-test_after.result _ _ c.from_residual-in_err-test_after.ensures.1

pub returns-in_err-test_after-clause-key : goal.returns-in_err-test_after-clause-key
returns-in_err-test_after-clause-key g c = never_ok c.from_residual-in_err-test_after.result _ _ c.from_residual-in_err-test_after.ensures.1

pub returns-in_err-test_after-clause-before : goal.returns-in_err-test_after-clause-before
returns-in_err-test_after-clause-before g c = never_ok c.from_residual-in_err-test_after.result _ _ c.from_residual-in_err-test_after.ensures.1

pub returns-in_err-test_after-clause-after : goal.returns-in_err-test_after-clause-after
returns-in_err-test_after-clause-after g c = never_ok c.from_residual-in_err-test_after.result _ _ c.from_residual-in_err-test_after.ensures.1

pub returns-in_err-row-clause-names : goal.returns-in_err-row-clause-names
returns-in_err-row-clause-names g c tells = same_has NamesIndexes c.from_residual.result c.in_err-row.field-0.0 c.from_residual.ensures.1
    (c.in_err-row.ensures.names tells (inl (ap (λ z. z.file) c.out_of_range-named.ensures)))

pub returns-in_err-test_free-clause-names : goal.returns-in_err-test_free-clause-names
returns-in_err-test_free-clause-names g c tells =
    same_has NamesIndexes c.from_residual-in_err-test_free.result c.in_err-test_free.field-0.0 c.from_residual-in_err-test_free.ensures.1
    (mark_names _ c.in_err-test_free.field-0.0 c.in_err-test_free.ensures.wrong)

pub returns-then-before-row-clause-names : goal.returns-then-before-row-clause-names
returns-then-before-row-clause-names g c tells = subst NamesIndexes (sym c.damaged.ensures) (inl refl)

pub returns-in_err-test_after-clause-names : goal.returns-in_err-test_after-clause-names
returns-in_err-test_after-clause-names g c tells =
    same_has NamesIndexes c.from_residual-in_err-test_after.result c.in_err-test_after.field-0.0 c.from_residual-in_err-test_after.ensures.1
    (c.in_err-test_after.ensures.names tells)

pub returns-in_err-test_after-clause-same : goal.returns-in_err-test_after-clause-same
returns-in_err-test_after-clause-same g c = same_then (g.R.Reads.state c.args.space.now) (g.R.Reads.state c.find_entry.new.space)
    (g.R.Reads.state c.test_after.new.space) c.in_ok-row.ensures.same c.in_err-test_after.ensures.same

pub returns-clause-same : goal.returns-clause-same
returns-clause-same g c = same_then (g.R.Reads.state c.args.space.now) (g.R.Reads.state c.find_entry.new.space) (g.R.Reads.state c.test_after.new.space)
    c.in_ok-row.ensures.same c.in_ok-test_after.ensures.same

pub returns-in_err-row-clause-cause : goal.returns-in_err-row-clause-cause
returns-in_err-row-clause-cause g c =
    cause_passed _ _ _ c.from_residual.result c.in_err-row.field-0.0 (omega arith) c.in_err-row.ensures.cause c.from_residual.ensures.1

pub returns-in_err-test_free-clause-cause : goal.returns-in_err-test_free-clause-cause
returns-in_err-test_free-clause-cause g c =
    cause_passed _ _ _ c.from_residual-in_err-test_free.result c.in_err-test_free.field-0.0 c.in_ok-row.ensures.cause.later
    c.in_err-test_free.ensures.cause c.from_residual-in_err-test_free.ensures.1

pub returns-then-before-row-clause-cause : goal.returns-then-before-row-clause-cause
returns-then-before-row-clause-cause g c = told_cause _ _ _ _ c.in_ok-row.ensures.cause.later c.damaged.ensures

pub returns-in_err-test_after-clause-cause : goal.returns-in_err-test_after-clause-cause
returns-in_err-test_after-clause-cause g c =
    cause_passed _ _ _ c.from_residual-in_err-test_after.result c.in_err-test_after.field-0.0 c.in_ok-row.ensures.cause.later
    c.in_err-test_after.ensures.cause c.from_residual-in_err-test_after.ensures.1

pub returns-clause-cause : goal.returns-clause-cause
returns-clause-cause g c = ok_cause _ _ _ _ (later_on c.in_ok-row.ensures.cause.later c.in_ok-test_after.ensures.cause.later)

pub returns-in_err-test_after-clause-onward : goal.returns-in_err-test_after-clause-onward
returns-in_err-test_after-clause-onward g c = g.met.R.Reads.further_onward _ _ _ c.in_ok-row.ensures.onward c.in_err-test_after.ensures.onward

pub returns-clause-onward : goal.returns-clause-onward
returns-clause-onward g c = g.met.R.Reads.further_onward _ _ _ c.in_ok-row.ensures.onward c.in_ok-test_after.ensures.onward

pub returns-clause-before : goal.returns-clause-before
returns-clause-before g c some =
    let key = subst (λ (o : Option EntryRow). IfSome o (λ r. r.before ≢ format.nil → IsKey (key_in format.index_file r.before))) c.in-Some.is
    c.in_ok-row.ensures.before in
    let is = sym c.number-before.ensures ∙ c.if-before-row.false in
    subst (λ z. IsKey (key_in format.index_file z)) (sym is) (key (λ none. some (is ∙ none)))

pub returns-clause-after : goal.returns-clause-after
returns-clause-after g c some =
    subst (λ z. IsKey (key_in format.index_file z)) c.number-after.ensures (c.in_ok-test_after.ensures.key (λ none. some (sym c.number-after.ensures ∙ none)))

pub returns-clause-key : goal.returns-clause-key
returns-clause-key g c = subst (λ (o : Option EntryRow). IfSome o (λ row. IsKey (key_in format.index_file row.id))) c.in-Some.is c.in_ok-row.ensures.key
