use Rattle.std.proofs.Common.{subst}
use Rattle.rec_bytes.specs.declared.fault.Fault.{Fault}
use Rattle.graph_session.specs.Drafting.{BlamesFound, IsStopped}
use Rattle.graph_session.specs.Jobs.{change_command}
use Rattle.graph_session.specs.declared.answer.Answer.TheVariants as answers
use Rattle.graph_session.proofs.SeenDamage.{drafts-dropped, names-dropped, seen-beneath}
use Rattle.graph_session.proofs.session.Session.draft.Goals as goal

pub returns-in-Ok-broken_record-clause-only : goal.returns-in-Ok-broken_record-clause-only
returns-in-Ok-broken_record-clause-only g c =
    drafts-dropped c.draft_any.ensures.only c.count-names.result c.count-names.ensures.value c.broken_record.ensures.drops c.broken_record.ensures.cause.later

pub returns-in-Ok-broken_record-clause-blames : goal.returns-in-Ok-broken_record-clause-blames
returns-in-Ok-broken_record-clause-blames g c = λ told none.
    let met = c.in-Err-Fault-Damaged in
    let blames = BlamesFound (change_command c.args.change) c.args.self.now in
    let stopped = IsStopped (change_command c.args.change) c.args.self.now c.draft_any.new.self.store.base.disk.now in
    seen-beneath c.draft_any.ensures.only (change_command c.args.change)
    ((subst (λ (f : Fault). stopped (answers.Fault f)) met.field-0-0-is (subst stopped met.field-0-is met.ensures.drafts)) told) met.met
    c.in-Ok-broken_record.damage
    (subst (λ (f : Fault). blames (answers.Fault f)) met.field-0-0-is (subst blames met.field-0-is met.ensures.found) told)
    c.broken_record.new.self.names.names
    (names-dropped c.draft_any.ensures.only c.count-names.result c.count-names.ensures.value c.broken_record.ensures.drops)
    (c.in-Ok-broken_record.ensures.broken told) none

pub returns-in-Err-Memory-clause-only : goal.returns-in-Err-Memory-clause-only
returns-in-Err-Memory-clause-only g c =
    drafts-dropped c.draft_any.ensures.only c.count-names.result c.count-names.ensures.value c.broken_record.ensures.drops c.broken_record.ensures.cause.later

pub returns-in-Err-Disk-clause-only : goal.returns-in-Err-Disk-clause-only
returns-in-Err-Disk-clause-only g c =
    drafts-dropped c.draft_any.ensures.only c.count-names.result c.count-names.ensures.value c.broken_record.ensures.drops c.broken_record.ensures.cause.later
