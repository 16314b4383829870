use Rattle.std.proofs.Common.{rules, arith, ◌≡◌, ◌≢◌, ◌≤◌, ◌+◌, ◌*◌, ◌/◌, ◌%◌, ◌∙◌, ℕ, Option, None, Some, IfNone, IfSome, List, ap, sym, subst}
use Rattle.rec_bytes.specs.Format as format
use Rattle.rec_bytes.specs.Record.{field}
use Rattle.record_lists.specs.Lines.{IsLineIn}
use Rattle.store_rules.specs.Indexes.{heads_of}
use Rattle.store_rules.specs.Views.{Records, high, kind_at}
use Rattle.index_check.specs.Buckets.{bucket_line}
use Rattle.index_check.specs.HeadRecords.{IsHeadRead}
use Rattle.index_check.specs.declared.head_records.HeadRecord.{HeadRecord}
use Rattle.index_check.proofs.BucketLaws.{IsBucketLine, bucket_of_line, line_is, line_of_bucket}
use Rattle.record_lists.proofs.Causes.{cause_passed}
use Rattle.rec_bytes.proofs.Causes.{never_ok, ok_cause}
use Rattle.record_lists.proofs.OnlyReads.{is_read-on}
use Rattle.index_check.proofs.buckets.bucket_at.Goals as goal

pub returns-in_default-clause-none : goal.returns-in_default-clause-none
returns-in_default-clause-none g c = λ tells xs h.
    let records = (g.R.Reads.state c.args.space.now).records in
    let none : kind_at records format.index_file (heads_of records c.args.definition (c.args.number / 15)) ≢ format.heads =
    search (rules, c.in_ok-head.ensures.none tells) in
    none h.head

-- what is found and what isn't, by other words
some_is : {A : Type 0} {P Q : A → Type 0} (o : Option A) → ((a : A) → P a → Q a) → IfSome o P → IfSome o Q
some_is None to h = tt
some_is (Some a) to h = to a h

none_is : {A P Q : Type 0} (o : Option A) → (P → Q) → IfNone o P → IfNone o Q
none_is None to h = to h
none_is (Some a) to h = tt

-- the bucket's line is the one that was followed
first_is : (records after : Records) (d b : ℕ) (head : HeadRecord) (n first : ℕ) → IsHeadRead records d (b / 15) head → after ≡ records
    → n ≡ high records format.index_file
    → first ≡ field 4 head.rec (format.heads_first + 4 * (b % 15)) → IsLineIn (bucket_line b) after n first ≡ IsBucketLine records d b
first_is records after d b head n first read same mark is = line_is records d b after n first same mark
    (is ∙ ap (λ r. field 4 r (format.heads_first + 4 * (b % 15))) read.rec_is)

pub returns-clause-found : goal.returns-clause-found
returns-clause-found g c = λ tells.
    let records = (g.R.Reads.state c.args.space.now).records in
    let d = c.args.definition in
    let b = c.args.number in
    let read : IsHeadRead records d (b / 15) c.in-Some.head = search (rules, c.in_ok-head.ensures.found tells) in
    let is = first_is records _ d b c.in-Some.head c.args.records c.number-first.result read c.in_ok-head.ensures.read.records c.requires.records
    c.number-first.ensures in
    let room : high records format.index_file ≤ format.most_ids = omega (arith, c.requires.records, c.requires.low) in
    some_is c.in_ok-ids.ids (λ v line. bucket_of_line records d b room read.kind v.items (subst (λ (l : List ℕ → Type 0). l v.items) is line))
    (c.in_ok-ids.ensures.found tells)

pub returns-clause-none : goal.returns-clause-none
returns-clause-none g c = λ tells.
    let records = (g.R.Reads.state c.args.space.now).records in
    let d = c.args.definition in
    let b = c.args.number in
    let read : IsHeadRead records d (b / 15) c.in-Some.head = search (rules, c.in_ok-head.ensures.found tells) in
    let is = first_is records _ d b c.in-Some.head c.args.records c.number-first.result read c.in_ok-head.ensures.read.records c.requires.records
    c.number-first.ensures in
    none_is c.in_ok-ids.ids (λ none xs h. none xs (subst (λ (l : List ℕ → Type 0). l xs) (sym is) (line_of_bucket records d b xs h)))
    (c.in_ok-ids.ensures.none tells)

pub returns-in_err-ids-clause-cause : goal.returns-in_err-ids-clause-cause
returns-in_err-ids-clause-cause g c =
    cause_passed _ _ _ c.from_residual-in_err-ids.result c.in_err-ids.field-0.0 c.in_ok-head.ensures.cause.later c.in_err-ids.ensures.cause
    c.from_residual-in_err-ids.ensures.1

pub returns-in_err-head-clause-found : goal.returns-in_err-head-clause-found
returns-in_err-head-clause-found g c _ = never_ok c.from_residual.result _ _ c.from_residual.ensures.1

pub returns-in_err-head-clause-none : goal.returns-in_err-head-clause-none
returns-in_err-head-clause-none g c _ = never_ok c.from_residual.result _ _ c.from_residual.ensures.1

pub returns-in_err-head-clause-low : goal.returns-in_err-head-clause-low
returns-in_err-head-clause-low g c = never_ok c.from_residual.result _ _ c.from_residual.ensures.1

pub returns-in_err-head-clause-read : goal.returns-in_err-head-clause-read
returns-in_err-head-clause-read g c =
    c.in_err-head.ensures.read

pub returns-in_err-ids-clause-found : goal.returns-in_err-ids-clause-found
returns-in_err-ids-clause-found g c _ = never_ok c.from_residual-in_err-ids.result _ _ c.from_residual-in_err-ids.ensures.1

pub returns-in_err-ids-clause-none : goal.returns-in_err-ids-clause-none
returns-in_err-ids-clause-none g c _ = never_ok c.from_residual-in_err-ids.result _ _ c.from_residual-in_err-ids.ensures.1

pub returns-in_err-ids-clause-low : goal.returns-in_err-ids-clause-low
returns-in_err-ids-clause-low g c = never_ok c.from_residual-in_err-ids.result _ _ c.from_residual-in_err-ids.ensures.1

pub returns-clause-cause : goal.returns-clause-cause
returns-clause-cause g c = ok_cause _ _ _ _ (omega arith)

pub returns-in_err-head-clause-cause : goal.returns-in_err-head-clause-cause
returns-in_err-head-clause-cause g c =
    cause_passed _ _ _ c.from_residual.result c.in_err-head.field-0.0 (omega arith) c.in_err-head.ensures.cause c.from_residual.ensures.1

pub returns-in_err-ids-clause-read : goal.returns-in_err-ids-clause-read
returns-in_err-ids-clause-read g c =
    is_read-on g.R.Reads g.met.R.Reads.further_onward _ _ _ c.in_ok-head.ensures.read c.in_err-ids.ensures.read

pub returns-in_default-clause-cause : goal.returns-in_default-clause-cause
returns-in_default-clause-cause g c = ok_cause _ _ _ _ c.in_ok-head.ensures.cause.later
