use Rattle.std.proofs.Common.{subst, arith}
use Rattle.rec_bytes.specs.Space.{SameButReads}
use Rattle.rec_bytes.proofs.Causes.{never_ok, ok_cause}
use Rattle.store_rules.specs.Hashes.{bucket_of}
use Rattle.store_rules.specs.Views.{Records}
use Rattle.prop_store.proofs.Causes.{cause_passed, later_on}
use Rattle.prop_store.proofs.Exits.{same_has}
use Rattle.prop_store.proofs.ReadCounts.{reads_same}
use Rattle.prop_index.specs.Blaming.{NamesIndexes}
use Rattle.prop_index.specs.Heads.{BeginsRight, IfBucketMet, IsBucketSought}
use Rattle.prop_index.specs.Naming.{BlamesIndex, BlamesOther}
use Rattle.prop_index.proofs.Buckets.{head-place}
use Rattle.prop_index.proofs.IndexBlames.{entry_begins, entry_reread}
use Rattle.prop_index.proofs.IndexNamed.{broken_other, bucket_before, bucket_index, bucket_names, bucket_other, other_before}
use Rattle.prop_index.proofs.Reread.{same_records, same_then}
use Rattle.prop_index.proofs.opening.tested_bucket.Goals as goal

pub returns-in_default-clause-found : goal.returns-in_default-clause-found
returns-in_default-clause-found g c tells wanted ix =
    let s = g.R.Reads.state c.args.space.now in
    subst (IsBucketSought s.records ix.definitions c.args.label c.args.key c.args.hash) c.in_default.is (c.in_ok-bucket.ensures.found tells wanted ix)

pub returns-clause-found : goal.returns-clause-found
returns-clause-found g c tells wanted ix =
    let s = g.R.Reads.state c.args.space.now in
    subst (IsBucketSought s.records ix.definitions c.args.label c.args.key c.args.hash) c.in-Some.is (c.in_ok-bucket.ensures.found tells wanted ix)

pub returns-clause-opened : goal.returns-clause-opened
returns-clause-opened g c tells =
    let s = g.R.Reads.state c.args.space.now in
    let now = g.R.Reads.state c.find_bucket.new.space in
    let same : SameButReads s now = reads_same 18 s now c.in_ok-bucket.ensures.at_most in
    let met = subst (IfBucketMet s.records c.args.label c.args.key (bucket_of c.args.hash)) c.in-Some.is (c.in_ok-bucket.ensures.met tells) in
    record {
      head = met.is.head;
      begins = subst (λ (r : Records). BeginsRight r c.in-Some.bucket) (same_records s now same) (c.in_ok-test_first.ensures.right tells);
      place = head-place s.records met.definition _ c.in-Some.bucket met.is;
    }

pub returns-in_err-bucket-clause-wrong : goal.returns-in_err-bucket-clause-wrong
returns-in_err-bucket-clause-wrong g c tells =
    same_has (BlamesIndex (g.R.Reads.state c.args.space.now) c.args.label c.args.key) c.from_residual.result c.in_err-bucket.field-0.0
    c.from_residual.ensures.1 (c.in_err-bucket.ensures.wrong tells)

pub returns-in_err-test_first-clause-wrong : goal.returns-in_err-test_first-clause-wrong
returns-in_err-test_first-clause-wrong g c tells =
    let s = g.R.Reads.state c.args.space.now in
    let now = g.R.Reads.state c.find_bucket.new.space in
    let same : SameButReads s now = reads_same 18 s now c.in_ok-bucket.ensures.at_most in
    let number = bucket_of c.args.hash in
    let bucket = c.in-Some.bucket in
    let met = subst (IfBucketMet s.records c.args.label c.args.key number) c.in-Some.is (c.in_ok-bucket.ensures.met tells) in
    let fault = c.in_err-test_first.field-0.0 in
    same_has (BlamesIndex s c.args.label c.args.key) c.from_residual-in_err-test_first.result fault c.from_residual-in_err-test_first.ensures.1
    (bucket_index s c.args.label c.args.key number bucket met fault (bucket_before s now met.definition number fault same
    (c.in_err-test_first.ensures.wrong tells met.definition number
    (entry_reread s now met.definition number 0 bucket.first _ same (entry_begins s c.args.label c.args.key number bucket met)))))

pub returns-in_err-bucket-clause-other : goal.returns-in_err-bucket-clause-other
returns-in_err-bucket-clause-other g c tells =
    let s = g.R.Reads.state c.args.space.now in
    same_has (BlamesOther s) c.from_residual.result c.in_err-bucket.field-0.0 c.from_residual.ensures.1
    (broken_other s c.in_err-bucket.field-0.0 (c.in_err-bucket.ensures.damaged tells))

pub returns-in_err-test_first-clause-other : goal.returns-in_err-test_first-clause-other
returns-in_err-test_first-clause-other g c tells =
    let s = g.R.Reads.state c.args.space.now in
    let now = g.R.Reads.state c.find_bucket.new.space in
    let same : SameButReads s now = reads_same 18 s now c.in_ok-bucket.ensures.at_most in
    let number = bucket_of c.args.hash in
    let bucket = c.in-Some.bucket in
    let met = subst (IfBucketMet s.records c.args.label c.args.key number) c.in-Some.is (c.in_ok-bucket.ensures.met tells) in
    let fault = c.in_err-test_first.field-0.0 in
    same_has (BlamesOther s) c.from_residual-in_err-test_first.result fault c.from_residual-in_err-test_first.ensures.1
    (other_before s now fault same (bucket_other now met.definition number fault (c.in_err-test_first.ensures.wrong tells met.definition number
    (entry_reread s now met.definition number 0 bucket.first _ same (entry_begins s c.args.label c.args.key number bucket met)))))

pub returns-in_err-bucket-clause-names : goal.returns-in_err-bucket-clause-names
returns-in_err-bucket-clause-names g c tells =
    same_has NamesIndexes c.from_residual.result c.in_err-bucket.field-0.0 c.from_residual.ensures.1 (c.in_err-bucket.ensures.names tells)

pub returns-in_err-test_first-clause-names : goal.returns-in_err-test_first-clause-names
returns-in_err-test_first-clause-names g c tells =
    let s = g.R.Reads.state c.args.space.now in
    let now = g.R.Reads.state c.find_bucket.new.space in
    let same : SameButReads s now = reads_same 18 s now c.in_ok-bucket.ensures.at_most in
    let number = bucket_of c.args.hash in
    let bucket = c.in-Some.bucket in
    let met = subst (IfBucketMet s.records c.args.label c.args.key number) c.in-Some.is (c.in_ok-bucket.ensures.met tells) in
    let fault = c.in_err-test_first.field-0.0 in
    same_has NamesIndexes c.from_residual-in_err-test_first.result fault c.from_residual-in_err-test_first.ensures.1
    (bucket_names now met.definition number fault (c.in_err-test_first.ensures.wrong tells met.definition number
    (entry_reread s now met.definition number 0 bucket.first _ same (entry_begins s c.args.label c.args.key number bucket met))))

pub returns-in_err-bucket-clause-same : goal.returns-in_err-bucket-clause-same
returns-in_err-bucket-clause-same g c = reads_same 18 _ _ c.in_err-bucket.ensures.at_most

pub returns-in_default-clause-same : goal.returns-in_default-clause-same
returns-in_default-clause-same g c = reads_same 18 _ _ c.in_ok-bucket.ensures.at_most

pub returns-in_err-test_first-clause-same : goal.returns-in_err-test_first-clause-same
returns-in_err-test_first-clause-same g c = same_then (g.R.Reads.state c.args.space.now) (g.R.Reads.state c.find_bucket.new.space)
    (g.R.Reads.state c.test_first.new.space) (reads_same 18 _ _ c.in_ok-bucket.ensures.at_most) c.in_err-test_first.ensures.same

pub returns-clause-same : goal.returns-clause-same
returns-clause-same g c = same_then (g.R.Reads.state c.args.space.now) (g.R.Reads.state c.find_bucket.new.space) (g.R.Reads.state c.test_first.new.space)
    (reads_same 18 _ _ c.in_ok-bucket.ensures.at_most) c.in_ok-test_first.ensures.same

pub returns-in_err-bucket-clause-found : goal.returns-in_err-bucket-clause-found
returns-in_err-bucket-clause-found g c _ _ _ = never_ok c.from_residual.result _ _ c.from_residual.ensures.1

pub returns-in_err-bucket-clause-opened : goal.returns-in_err-bucket-clause-opened
returns-in_err-bucket-clause-opened g c _ = never_ok c.from_residual.result _ _ c.from_residual.ensures.1

pub returns-in_err-bucket-clause-key : goal.returns-in_err-bucket-clause-key
returns-in_err-bucket-clause-key g c = never_ok c.from_residual.result _ _ c.from_residual.ensures.1

pub returns-in_err-bucket-clause-place : goal.returns-in_err-bucket-clause-place
returns-in_err-bucket-clause-place g c = never_ok c.from_residual.result _ _ c.from_residual.ensures.1

pub returns-in_err-bucket-clause-first : goal.returns-in_err-bucket-clause-first
returns-in_err-bucket-clause-first g c = never_ok c.from_residual.result _ _ c.from_residual.ensures.1

pub returns-in_err-test_first-clause-found : goal.returns-in_err-test_first-clause-found
returns-in_err-test_first-clause-found g c _ _ _ = never_ok c.from_residual-in_err-test_first.result _ _ c.from_residual-in_err-test_first.ensures.1

pub returns-in_err-test_first-clause-opened : goal.returns-in_err-test_first-clause-opened
returns-in_err-test_first-clause-opened g c _ = never_ok c.from_residual-in_err-test_first.result _ _ c.from_residual-in_err-test_first.ensures.1

pub returns-in_err-test_first-clause-key : goal.returns-in_err-test_first-clause-key
returns-in_err-test_first-clause-key g c = never_ok c.from_residual-in_err-test_first.result _ _ c.from_residual-in_err-test_first.ensures.1

pub returns-in_err-test_first-clause-place : goal.returns-in_err-test_first-clause-place
returns-in_err-test_first-clause-place g c = never_ok c.from_residual-in_err-test_first.result _ _ c.from_residual-in_err-test_first.ensures.1

pub returns-in_err-test_first-clause-first : goal.returns-in_err-test_first-clause-first
returns-in_err-test_first-clause-first g c = never_ok c.from_residual-in_err-test_first.result _ _ c.from_residual-in_err-test_first.ensures.1

pub returns-in_err-bucket-clause-cause : goal.returns-in_err-bucket-clause-cause
returns-in_err-bucket-clause-cause g c =
    cause_passed _ _ _ c.from_residual.result c.in_err-bucket.field-0.0 (omega arith) c.in_err-bucket.ensures.cause c.from_residual.ensures.1

pub returns-in_err-test_first-clause-cause : goal.returns-in_err-test_first-clause-cause
returns-in_err-test_first-clause-cause g c =
    cause_passed _ _ _ c.from_residual-in_err-test_first.result c.in_err-test_first.field-0.0 c.in_ok-bucket.ensures.cause.later
    c.in_err-test_first.ensures.cause c.from_residual-in_err-test_first.ensures.1

pub returns-clause-cause : goal.returns-clause-cause
returns-clause-cause g c = ok_cause _ _ _ _ (later_on c.in_ok-bucket.ensures.cause.later c.in_ok-test_first.ensures.cause.later)

pub returns-in_err-test_first-clause-onward : goal.returns-in_err-test_first-clause-onward
returns-in_err-test_first-clause-onward g c = g.met.R.Reads.further_onward _ _ _ c.in_ok-bucket.ensures.onward c.in_err-test_first.ensures.onward

pub returns-clause-onward : goal.returns-clause-onward
returns-clause-onward g c = g.met.R.Reads.further_onward _ _ _ c.in_ok-bucket.ensures.onward c.in_ok-test_first.ensures.onward
