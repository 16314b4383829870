use Rattle.std.specs.Prelude.{Result, Ok, Err, OnOk}
use Rattle.std.proofs.Common.{refl, subst}
use Rattle.rec_bytes.specs.Format as format
use Rattle.prop_store.proofs.ReadCounts.{reads_same}
use Rattle.prop_index.specs.Reading.{IsReadFault}
use Rattle.prop_index.proofs.IndexBlames.{if_err}
use Rattle.prop_index.proofs.IndexNamed.{entry_fault}
use Rattle.prop_index.proofs.opening.test_first.Goals as goal

on_ok : {T E : Type 0} {P Q : Type 0} (r : Result T E) → (P → Q) → OnOk r P → OnOk r Q
on_ok (Ok x) f p = f p
on_ok (Err e) f p = tt

pub returns-clause-right : goal.returns-clause-right
returns-clause-right g c tells = on_ok c.record_at.result (λ used some. used) (c.record_at.ensures.used tells)

pub returns-clause-key : goal.returns-clause-key
returns-clause-key g c = on_ok c.record_at.result (λ key some. key) c.record_at.ensures.key

pub returns-clause-wrong : goal.returns-clause-wrong
returns-clause-wrong g c tells d b h =
    let s = g.R.Reads.state c.args.space.now in
    let first = c.args.bucket.first in
    if_err c.record_at.result
    (λ fault why. entry_fault s d b 0 first _ h c.if-bucket-eq-NIL.false refl fault (subst (λ named. IsReadFault s first format.indexed named fault)
    c.out_of_range-named.ensures why))
    (c.record_at.ensures.damaged tells)

pub returns-clause-same : goal.returns-clause-same
returns-clause-same g c = reads_same 1 _ _ c.record_at.ensures.at_most
