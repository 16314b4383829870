use Rattle.std.proofs.Common.{arith, ◌≡◌, ◌<◌, ◌∙◌, not, ap, sym}
use Rattle.std.proofs.lemmas.Bool.{ltb-true}
use Rattle.rec_bytes.specs.declared.meta.Meta.{Meta}
use Rattle.rec_bytes.specs.Format.{index_file, names_file}
use Rattle.store_rules.specs.Views.{Records, high}
use Rattle.store_rules.proofs.NumberLaws.{eq_false, lt_true}
use Rattle.store_check.proofs.DefinitionLaws.{key_named, label_named, named_keeps, other_keeps}
use Rattle.record_lists.proofs.Causes.{cause_passed}
use Rattle.record_lists.proofs.OnlyReads.{is_read-get}
use Rattle.rec_bytes.proofs.Causes.{ok_cause}
use Rattle.store_check.proofs.definitions.DefinedSentence.holds.Goals as goal

pub returns-then-byte-ne-DEFINITION-clause-told : goal.returns-then-byte-ne-DEFINITION-clause-told
returns-then-byte-ne-DEFINITION-clause-told g c = λ tells.
    let records = (g.R.Reads.state c.args.space.now).records in
    let lt : c.args.id < high records index_file = omega (arith, c.requires.id, c.requires.suits.mark) in (
      (λ _. other_keeps records c.args.id c.in_ok-rec.rec lt (c.in_ok-rec.ensures.got tells) (λ e. c.if-byte-ne-DEFINITION.true (c.byte.ensures ∙ e))),
      (λ _. ap not (eq_false c.byte.result 1 c.if-byte-ne-DEFINITION.true)),
    )

pub returns-then-label-names-clause-told : goal.returns-then-label-names-clause-told
returns-then-label-names-clause-told g c = λ tells.
    let records = (g.R.Reads.state c.args.space.now).records in
    let lt : c.args.id < high records index_file = omega (arith, c.requires.id, c.requires.suits.mark) in
    let got = c.in_ok-rec.ensures.got tells in
    let names : c.meta-names.result.high ≡ high records names_file = ap (λ (m : Meta). m.high) c.meta-names.ensures
    ∙ ap (λ (r : Records). high r names_file) (ap (λ s. s.records) c.in_ok-rec.ensures.state) in
    let label = c.number-label.ensures in
    let key = c.number-key.ensures in (
      (λ e. let b = ltb-true c.number-key.result c.meta-names.result.high e in named_keeps records c.args.id c.in_ok-rec.rec lt got
          (omega (arith, c.if-label-names.true)) (omega arith)),
      (λ h. let b = key_named records c.args.id c.in_ok-rec.rec lt got (sym c.byte.ensures ∙ c.if-byte-ne-DEFINITION.false) h in lt_true c.number-key.result
          c.meta-names.result.high (omega arith)),
    )

pub returns-else-label-names-clause-told : goal.returns-else-label-names-clause-told
returns-else-label-names-clause-told g c = λ tells.
    let records = (g.R.Reads.state c.args.space.now).records in
    let lt : c.args.id < high records index_file = omega (arith, c.requires.id, c.requires.suits.mark) in
    let got = c.in_ok-rec.ensures.got tells in
    let names : c.meta-names.result.high ≡ high records names_file = ap (λ (m : Meta). m.high) c.meta-names.ensures
    ∙ ap (λ (r : Records). high r names_file) (ap (λ s. s.records) c.in_ok-rec.ensures.state) in
    let label = c.number-label.ensures in (
      (λ e. let b = ltb-true c.number-label.result c.meta-names.result.high e in absurd (omega (arith, c.if-label-names.false))),
      (λ h. let b = label_named records c.args.id c.in_ok-rec.rec lt got (sym c.byte.ensures ∙ c.if-byte-ne-DEFINITION.false) h in lt_true c.number-label.result
          c.meta-names.result.high (omega arith)),
    )

pub returns-in_err-rec-clause-read : goal.returns-in_err-rec-clause-read
returns-in_err-rec-clause-read g c =
    is_read-get g.R.Reads _ _ c.in_err-rec.ensures.state c.in_err-rec.ensures.onward c.in_err-rec.ensures.cause.later

pub returns-in_err-rec-clause-cause : goal.returns-in_err-rec-clause-cause
returns-in_err-rec-clause-cause g c =
    cause_passed _ _ _ c.from_residual.result c.in_err-rec.field-0.0 (omega arith) c.in_err-rec.ensures.cause c.from_residual.ensures.1

pub returns-else-label-names-clause-read : goal.returns-else-label-names-clause-read
returns-else-label-names-clause-read g c =
    is_read-get g.R.Reads _ _ c.in_ok-rec.ensures.state c.in_ok-rec.ensures.onward c.in_ok-rec.ensures.cause.later

pub returns-else-label-names-clause-cause : goal.returns-else-label-names-clause-cause
returns-else-label-names-clause-cause g c = ok_cause _ _ _ _ (returns-else-label-names-clause-read g c).later

pub returns-then-byte-ne-DEFINITION-clause-read : goal.returns-then-byte-ne-DEFINITION-clause-read
returns-then-byte-ne-DEFINITION-clause-read g c =
    is_read-get g.R.Reads _ _ c.in_ok-rec.ensures.state c.in_ok-rec.ensures.onward c.in_ok-rec.ensures.cause.later

pub returns-then-byte-ne-DEFINITION-clause-cause : goal.returns-then-byte-ne-DEFINITION-clause-cause
returns-then-byte-ne-DEFINITION-clause-cause g c = ok_cause _ _ _ _ (returns-then-byte-ne-DEFINITION-clause-read g c).later

pub returns-then-label-names-clause-read : goal.returns-then-label-names-clause-read
returns-then-label-names-clause-read g c =
    is_read-get g.R.Reads _ _ c.in_ok-rec.ensures.state c.in_ok-rec.ensures.onward c.in_ok-rec.ensures.cause.later

pub returns-then-label-names-clause-cause : goal.returns-then-label-names-clause-cause
returns-then-label-names-clause-cause g c = ok_cause _ _ _ _ (returns-then-label-names-clause-read g c).later
