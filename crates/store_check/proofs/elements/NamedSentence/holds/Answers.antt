use Rattle.std.proofs.Common.{arith, ◌≡◌, ◌<◌, ◌∙◌, ℕ, true, nat_lt, ap, sym}
use Rattle.std.proofs.lemmas.Bool.Decides.{nat_tests}
use Rattle.rec_bytes.specs.declared.meta.Meta.{Meta}
use Rattle.rec_bytes.specs.Format.{names_file, node_label}
use Rattle.rec_bytes.specs.Record.{field}
use Rattle.store_rules.specs.Views.{Records, high}
use Rattle.store_rules.proofs.NumberLaws.{eq_true, lt_true}
use Rattle.store_rules.specs.Breaking.{label_of}
use Rattle.record_lists.proofs.RecordLaws.{free_read, live_read}
use Rattle.record_lists.proofs.Causes.{cause_passed}
use Rattle.record_lists.proofs.OnlyReads.{is_read-get}
use Rattle.rec_bytes.proofs.Causes.{ok_cause}
use Rattle.store_check.proofs.elements.NamedSentence.holds.Goals as goal

below : (a b : ℕ) → nat_lt a b ≡ true → a < b
below a b h = grind (arith, nat_tests)

pub returns-then-byte-eq-FREE-clause-told : goal.returns-then-byte-eq-FREE-clause-told
returns-then-byte-eq-FREE-clause-told g c = λ tells.
    let records = (g.R.Reads.state c.args.space.now).records in
    let file = c.args.self.now.file in
    let lt : c.args.id < high records file = omega (arith, c.requires.id, c.requires.suits.elements) in (
      (λ _ live. absurd (free_read records file c.args.id c.in_ok-rec.rec lt (c.in_ok-rec.ensures.got tells) (sym c.byte.ensures ∙ c.if-byte-eq-FREE.true)
          live)),
      (λ _. eq_true c.byte.result 0 c.if-byte-eq-FREE.true),
    )

pub returns-else-byte-eq-FREE-clause-told : goal.returns-else-byte-eq-FREE-clause-told
returns-else-byte-eq-FREE-clause-told g c = λ tells.
    let records = (g.R.Reads.state c.args.space.now).records in
    let file = c.args.self.now.file in
    let lt : c.args.id < high records file = omega (arith, c.requires.id, c.requires.suits.elements) in
    let got = c.in_ok-rec.ensures.got tells in
    let mark : c.meta.result.high ≡ high records names_file = ap (λ (m : Meta). m.high) c.meta.ensures
    ∙ ap (λ (r : Records). high r names_file) (ap (λ s. s.records) c.in_ok-rec.ensures.state) in
    let label : c.number.result ≡ label_of records file c.args.id = c.number.ensures ∙ ap (λ r. field 4 r node_label) got in (
      (λ e _. let b = below c.number.result c.meta.result.high e in omega arith),
      (λ h. let b = h (live_read records file c.args.id c.in_ok-rec.rec lt got (λ z. c.if-byte-eq-FREE.false (c.byte.ensures ∙ z))) in lt_true c.number.result
          c.meta.result.high (omega arith)),
    )

pub returns-in_err-rec-clause-read : goal.returns-in_err-rec-clause-read
returns-in_err-rec-clause-read g c =
    is_read-get g.R.Reads _ _ c.in_err-rec.ensures.state c.in_err-rec.ensures.onward c.in_err-rec.ensures.cause.later

pub returns-in_err-rec-clause-cause : goal.returns-in_err-rec-clause-cause
returns-in_err-rec-clause-cause g c =
    cause_passed _ _ _ c.from_residual.result c.in_err-rec.field-0.0 (omega arith) c.in_err-rec.ensures.cause c.from_residual.ensures.1

pub returns-else-byte-eq-FREE-clause-read : goal.returns-else-byte-eq-FREE-clause-read
returns-else-byte-eq-FREE-clause-read g c =
    is_read-get g.R.Reads _ _ c.in_ok-rec.ensures.state c.in_ok-rec.ensures.onward c.in_ok-rec.ensures.cause.later

pub returns-else-byte-eq-FREE-clause-cause : goal.returns-else-byte-eq-FREE-clause-cause
returns-else-byte-eq-FREE-clause-cause g c = ok_cause _ _ _ _ (returns-else-byte-eq-FREE-clause-read g c).later

pub returns-then-byte-eq-FREE-clause-read : goal.returns-then-byte-eq-FREE-clause-read
returns-then-byte-eq-FREE-clause-read g c =
    is_read-get g.R.Reads _ _ c.in_ok-rec.ensures.state c.in_ok-rec.ensures.onward c.in_ok-rec.ensures.cause.later

pub returns-then-byte-eq-FREE-clause-cause : goal.returns-then-byte-eq-FREE-clause-cause
returns-then-byte-eq-FREE-clause-cause g c = ok_cause _ _ _ _ (returns-then-byte-eq-FREE-clause-read g c).later
