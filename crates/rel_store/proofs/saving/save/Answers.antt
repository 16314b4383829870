use Rattle.std.proofs.Common.{◌≡◌, ap, ◌∙◌, subst, sym, OnOk, Result, Ok, Err}
use Rattle.rec_bytes.specs.Space.{State, after_put}
use Rattle.rec_bytes.proofs.Spaces.{put_same}
use Rattle.store_rules.specs.Ranges.{IsBlankOutside}
use Rattle.rel_store.specs.declared.rel_row.RelRow.{RelRow}
use Rattle.rel_store.specs.RelRecord.{rel_key, rel_record, rel_used}
use Rattle.rel_store.proofs.RelRecords.{blank-rel_record}
use Rattle.rel_store.proofs.saving.save.Goals as goal

blank_on : {T E : Type 0} (r : Result T E) (s t : State) (row : RelRow) → OnOk r (t ≡ after_put s (rel_key row.id) (rel_record row))
    → OnOk r (IsBlankOutside rel_used (t.records (rel_key row.id)))
blank_on (Ok x) s t row is = subst (IsBlankOutside rel_used) (sym (ap (λ (z : State). z.records (rel_key row.id)) is ∙ put_same s.records (rel_key row.id)
    (rel_record row))) (blank-rel_record row)
blank_on (Err e) s t row is = tt

pub returns-clause-blank : goal.returns-clause-blank
returns-clause-blank g c = blank_on c.save.result (g.S.Reads.state c.args.space.now) (g.S.Reads.state c.save.new.space) c.args.row.now c.save.ensures.ok
