use Rattle.std.proofs.Common.{rules, arith, ◌<◌, ◌≢◌, ◌∙◌, sym, refl}
use Rattle.std.specs.Bool.{Decides}
use Rattle.std.proofs.lemmas.Bool.{true≢false}
use Rattle.rec_bytes.specs.Format.{relationships_file}
use Rattle.rec_bytes.specs.Record.{field}
use Rattle.store_rules.specs.Views.{high}
use Rattle.record_lists.specs.Seen.{is_seen}
use Rattle.chain_check.specs.Kinds.{kind_of}
use Rattle.chain_check.specs.NodeChains.{EndHolds, end_in}
use Rattle.chain_check.proofs.EndLaws.{hold_both, hold_from, hold_to, none_holds}
use Rattle.record_lists.proofs.RecordLaws.{kind_read}
use Rattle.record_lists.proofs.Causes.{cause_passed}
use Rattle.record_lists.proofs.OnlyReads.{is_read-get}
use Rattle.rec_bytes.proofs.Causes.{ok_cause}
use Rattle.chain_check.proofs.chains.AttachedSentence.holds.Goals as goal

pub returns-then-byte-eq-FREE-clause-told : goal.returns-then-byte-eq-FREE-clause-told
returns-then-byte-eq-FREE-clause-told g c = λ tells.
    let records = (g.R.Reads.state c.args.space.now).records in
    let lt : c.args.id < high records relationships_file = omega (arith, c.requires.id, c.requires.suits.relationships) in
    let kind = kind_read records relationships_file c.args.id c.in_ok-rec.rec lt (c.in_ok-rec.ensures.got tells) in (
      (λ _. none_holds (kind_of c.args.self.now.kinds.now) records c.args.self.now.seen.now c.args.id (kind ∙ sym c.byte.ensures ∙ c.if-byte-eq-FREE.true)),
      (λ _. refl),
    )

pub returns-then-leaves-clause-told : goal.returns-then-leaves-clause-told
returns-then-leaves-clause-told g c = λ tells.
    let records = (g.R.Reads.state c.args.space.now).records in
    let lt : c.args.id < high records relationships_file = omega (arith, c.requires.id, c.requires.suits.relationships) in
    let r = c.in_ok-rec.rec in
    let seen = c.args.self.now.seen.now in
    let kind = kind_of c.args.self.now.kinds.now in
    let some : field 1 r 0 ≢ 0 = λ z. c.if-byte-eq-FREE.false (c.byte.ensures ∙ z) in
    let got = c.in_ok-rec.ensures.got tells in
    let from : Decides c.end_holds-leaves.result (EndHolds kind (field 4 r 8) (is_seen seen (end_in r (field 4 r 8) c.args.id))) = search rules in
    let to : Decides c.end_holds-enters.result (EndHolds kind (field 4 r 12) (is_seen seen (end_in r (field 4 r 12) c.args.id))) = search rules in (
      (λ e. hold_both kind records seen c.args.id r lt got some (from.0 c.if-leaves.true) (to.0 e)),
      (λ h. to.1 (hold_to kind records seen c.args.id r lt got
          some h)),
    )

pub returns-else-leaves-clause-told : goal.returns-else-leaves-clause-told
returns-else-leaves-clause-told g c = λ tells.
    let records = (g.R.Reads.state c.args.space.now).records in
    let lt : c.args.id < high records relationships_file = omega (arith, c.requires.id, c.requires.suits.relationships) in
    let r = c.in_ok-rec.rec in
    let seen = c.args.self.now.seen.now in
    let kind = kind_of c.args.self.now.kinds.now in
    let some : field 1 r 0 ≢ 0 = λ z. c.if-byte-eq-FREE.false (c.byte.ensures ∙ z) in
    let got = c.in_ok-rec.ensures.got tells in
    let from : Decides c.end_holds-leaves.result (EndHolds kind (field 4 r 8) (is_seen seen (end_in r (field 4 r 8) c.args.id))) = search rules in
    ((λ e. absurd (true≢false (sym e ∙ c.if-leaves.false))), (λ h. from.1 (hold_from kind records seen c.args.id r lt got some h)))

pub returns-in_err-rec-clause-cause : goal.returns-in_err-rec-clause-cause
returns-in_err-rec-clause-cause g c =
    cause_passed _ _ _ c.from_residual.result c.in_err-rec.field-0.0 (omega arith) c.in_err-rec.ensures.cause c.from_residual.ensures.1

pub returns-then-leaves-clause-read : goal.returns-then-leaves-clause-read
returns-then-leaves-clause-read g c =
    is_read-get g.R.Reads _ _ c.in_ok-rec.ensures.state c.in_ok-rec.ensures.onward c.in_ok-rec.ensures.cause.later

pub returns-else-leaves-clause-read : goal.returns-else-leaves-clause-read
returns-else-leaves-clause-read g c =
    is_read-get g.R.Reads _ _ c.in_ok-rec.ensures.state c.in_ok-rec.ensures.onward c.in_ok-rec.ensures.cause.later

pub returns-in_err-rec-clause-read : goal.returns-in_err-rec-clause-read
returns-in_err-rec-clause-read g c =
    is_read-get g.R.Reads _ _ c.in_err-rec.ensures.state c.in_err-rec.ensures.onward c.in_err-rec.ensures.cause.later

pub returns-then-byte-eq-FREE-clause-read : goal.returns-then-byte-eq-FREE-clause-read
returns-then-byte-eq-FREE-clause-read g c =
    is_read-get g.R.Reads _ _ c.in_ok-rec.ensures.state c.in_ok-rec.ensures.onward c.in_ok-rec.ensures.cause.later

pub returns-then-byte-eq-FREE-clause-cause : goal.returns-then-byte-eq-FREE-clause-cause
returns-then-byte-eq-FREE-clause-cause g c = ok_cause _ _ _ _ (returns-then-byte-eq-FREE-clause-read g c).later

pub returns-else-leaves-clause-cause : goal.returns-else-leaves-clause-cause
returns-else-leaves-clause-cause g c = ok_cause _ _ _ _ (returns-else-leaves-clause-read g c).later

pub returns-then-leaves-clause-cause : goal.returns-then-leaves-clause-cause
returns-then-leaves-clause-cause g c = ok_cause _ _ _ _ (returns-then-leaves-clause-read g c).later
