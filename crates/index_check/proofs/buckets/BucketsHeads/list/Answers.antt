use Rattle.std.proofs.Common.{rules, ◌%◌, ℕ, List, arith}
use Rattle.store_rules.specs.IndexBreaking.{IsBucketList}
use Rattle.store_rules.proofs.IndexParts.{bucket_same}
use Rattle.index_check.specs.Definitions.{definition_of}
use Rattle.rec_bytes.proofs.Causes.{never_ok, ok_cause}
use Rattle.record_lists.proofs.Causes.{cause_passed}
use Rattle.index_check.proofs.buckets.BucketsHeads.list.Goals as goal

pub returns-in-Some-clause-told : goal.returns-in-Some-clause-told
returns-in-Some-clause-told g c = λ tells.
    let records = (g.R.Reads.state c.args.space.now).records in
    let d = definition_of 180 c.args.self.now.ids.now c.args.id in
    let b = c.args.id % 180 in
    let ids = c.in-Some.ids.items in
    let found : IsBucketList records d b ids = search (rules, c.in_ok-ids.ensures.found tells) in
    (tt, found, (λ (xs : List ℕ) (h : IsBucketList records d b xs). bucket_same records d b xs ids h found))

pub returns-in-None-clause-told : goal.returns-in-None-clause-told
returns-in-None-clause-told g c = λ tells.
    let records = (g.R.Reads.state c.args.space.now).records in
    let d = definition_of 180 c.args.self.now.ids.now c.args.id in
    let b = c.args.id % 180 in
    let none : (xs : List ℕ) → ¬ IsBucketList records d b xs = search (rules, c.in_ok-ids.ensures.none tells) in
    (tt, none)

pub returns-in_err-ids-clause-told : goal.returns-in_err-ids-clause-told
returns-in_err-ids-clause-told g c _ = never_ok c.from_residual.result _ _ c.from_residual.ensures.1

pub returns-in_err-ids-clause-low : goal.returns-in_err-ids-clause-low
returns-in_err-ids-clause-low g c = never_ok c.from_residual.result _ _ c.from_residual.ensures.1

pub returns-in-Some-clause-cause : goal.returns-in-Some-clause-cause
returns-in-Some-clause-cause g c = ok_cause _ _ _ _ c.in_ok-ids.ensures.cause.later

pub returns-in-None-clause-cause : goal.returns-in-None-clause-cause
returns-in-None-clause-cause g c = ok_cause _ _ _ _ c.in_ok-ids.ensures.cause.later

pub returns-in_err-ids-clause-read : goal.returns-in_err-ids-clause-read
returns-in_err-ids-clause-read g c =
    c.in_err-ids.ensures.read

pub returns-in_err-ids-clause-cause : goal.returns-in_err-ids-clause-cause
returns-in_err-ids-clause-cause g c =
    cause_passed _ _ _ c.from_residual.result c.in_err-ids.field-0.0 (omega arith) c.in_err-ids.ensures.cause c.from_residual.ensures.1

pub returns-in-Some-clause-read : goal.returns-in-Some-clause-read
returns-in-Some-clause-read g c =
    c.in_ok-ids.ensures.read

pub returns-in-None-clause-read : goal.returns-in-None-clause-read
returns-in-None-clause-read g c =
    c.in_ok-ids.ensures.read
