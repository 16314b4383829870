use Rattle.std.proofs.Common.{arith, ◌<◌, ◌∙◌, sym}
use Rattle.store_rules.specs.Views.{high}
use Rattle.store_rules.proofs.NumberLaws.{eq_true}
use Rattle.record_lists.proofs.RecordLaws.{free_read, live_read}
use Rattle.record_lists.proofs.Causes.{cause_passed}
use Rattle.record_lists.proofs.OnlyReads.{is_read-get}
use Rattle.record_lists.proofs.unseen.HeldSentence.holds.Goals as goal

pub returns-then-byte-eq-FREE-clause-told : goal.returns-then-byte-eq-FREE-clause-told
returns-then-byte-eq-FREE-clause-told g c = λ tells.
    let records = (g.R.Reads.state c.args.space.now).records in
    let file = c.args.self.now.file in
    let lt : c.args.id < high records file = omega (arith, c.requires.id, c.requires.suits.records_are) in (
      (λ _ live. absurd (free_read records file c.args.id c.in_ok-rec.rec lt (c.in_ok-rec.ensures.got tells) (sym c.byte.ensures ∙ c.if-byte-eq-FREE.true)
          live)),
      (λ _. eq_true c.byte.result 0 c.if-byte-eq-FREE.true),
    )

pub returns-else-byte-eq-FREE-clause-told : goal.returns-else-byte-eq-FREE-clause-told
returns-else-byte-eq-FREE-clause-told g c = λ tells.
    let records = (g.R.Reads.state c.args.space.now).records in
    let file = c.args.self.now.file in
    let lt : c.args.id < high records file = omega (arith, c.requires.id, c.requires.suits.records_are) in
    let live = live_read records file c.args.id c.in_ok-rec.rec lt (c.in_ok-rec.ensures.got tells) (λ z. c.if-byte-eq-FREE.false (c.byte.ensures ∙ z)) in
    ((λ e _. e), (λ h. h live))

pub returns-in_err-rec-clause-read : goal.returns-in_err-rec-clause-read
returns-in_err-rec-clause-read g c =
    is_read-get g.R.Reads _ _ c.in_err-rec.ensures.state c.in_err-rec.ensures.onward c.in_err-rec.ensures.cause.later

pub returns-in_err-rec-clause-cause : goal.returns-in_err-rec-clause-cause
returns-in_err-rec-clause-cause g c =
    cause_passed _ _ _ c.from_residual.result c.in_err-rec.field-0.0 (omega arith) c.in_err-rec.ensures.cause c.from_residual.ensures.1
