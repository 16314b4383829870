use Rattle.std.proofs.Common.{arith, ◌≡◌, ◌<◌, ◌∙◌, IfOk, ap, sym, refl}
use Rattle.std.specs.Bool.{Decides}
use Rattle.std.proofs.lemmas.Result.{IfOk-weaker}
use Rattle.rec_bytes.specs.Format as format
use Rattle.store_rules.specs.Views.{high, kind_at}
use Rattle.chain_check.specs.Counts.{AreAsLong, CountsHold}
use Rattle.chain_check.proofs.GroupCountLaws.{counts_decided}
use Rattle.record_lists.proofs.RecordLaws.{kind_read}
use Rattle.record_lists.proofs.Causes.{cause_passed}
use Rattle.chain_check.proofs.Causes.{cause_later}
use Rattle.record_lists.proofs.OnlyReads.{is_read-get, is_read-on}
use Rattle.rec_bytes.proofs.Causes.{ok_cause}
use Rattle.chain_check.proofs.counts.CountsSentence.holds.Goals as goal

pub returns-then-byte-ne-COUNTED-clause-told : goal.returns-then-byte-ne-COUNTED-clause-told
returns-then-byte-ne-COUNTED-clause-told g c = λ tells.
    let records = (g.R.Reads.state c.args.space.now).records in
    let lt : c.args.id < high records format.groups_file = omega (arith, c.requires.id, c.requires.suits.groups) in
    let kind = kind_read records format.groups_file c.args.id c.in_ok-rec.rec lt (c.in_ok-rec.ensures.got tells) in
    ((λ _ counted. absurd (c.if-byte-ne-COUNTED.true (c.byte.ensures ∙ sym kind ∙ counted))), (λ _. refl))

pub returns-clause-told : goal.returns-clause-told
returns-clause-told g c = λ tells.
    let records = (g.R.Reads.state c.args.space.now).records in
    let after = (g.R.Reads.state c.get.new.self).records in
    let id = c.args.id in
    let is_seen = c.args.self.now.relationships in
    let lt : id < high records format.groups_file = omega (arith, c.requires.id, c.requires.suits.groups) in
    let got = c.in_ok-rec.ensures.got tells in
    let counted : kind_at records format.groups_file id ≡ 2 = kind_read records format.groups_file id c.in_ok-rec.rec lt got ∙ sym c.byte.ensures
    ∙ c.if-byte-ne-COUNTED.false in
    let told : IfOk c.are_as_long.result (λ are. Decides are (AreAsLong after is_seen c.in_ok-rec.rec)) = c.are_as_long.ensures.told tells in
    IfOk-weaker c.are_as_long.result (λ are. Decides are (AreAsLong after is_seen c.in_ok-rec.rec)) (λ holds. Decides holds (CountsHold records id))
    (λ b d. counts_decided records after is_seen id c.in_ok-rec.rec b (ap (λ s. s.records) c.in_ok-rec.ensures.state) c.requires.suits.relationships got counted
    d) told

pub returns-in_err-rec-clause-read : goal.returns-in_err-rec-clause-read
returns-in_err-rec-clause-read g c =
    is_read-get g.R.Reads _ _ c.in_err-rec.ensures.state c.in_err-rec.ensures.onward c.in_err-rec.ensures.cause.later

pub returns-in_err-rec-clause-cause : goal.returns-in_err-rec-clause-cause
returns-in_err-rec-clause-cause g c =
    cause_passed _ _ _ c.from_residual.result c.in_err-rec.field-0.0 (omega arith) c.in_err-rec.ensures.cause c.from_residual.ensures.1

pub returns-clause-read : goal.returns-clause-read
returns-clause-read g c =
    is_read-on g.R.Reads g.met.R.Reads.further_onward _ _ _ (is_read-get g.R.Reads _ _ c.in_ok-rec.ensures.state c.in_ok-rec.ensures.onward
    c.in_ok-rec.ensures.cause.later) c.are_as_long.ensures.read

pub returns-clause-cause : goal.returns-clause-cause
returns-clause-cause g c =
    cause_later _ _ _ c.are_as_long.result (is_read-get g.R.Reads _ _ c.in_ok-rec.ensures.state c.in_ok-rec.ensures.onward
    c.in_ok-rec.ensures.cause.later).later c.are_as_long.ensures.cause

pub returns-then-byte-ne-COUNTED-clause-read : goal.returns-then-byte-ne-COUNTED-clause-read
returns-then-byte-ne-COUNTED-clause-read g c =
    is_read-get g.R.Reads _ _ c.in_ok-rec.ensures.state c.in_ok-rec.ensures.onward c.in_ok-rec.ensures.cause.later

pub returns-then-byte-ne-COUNTED-clause-cause : goal.returns-then-byte-ne-COUNTED-clause-cause
returns-then-byte-ne-COUNTED-clause-cause g c = ok_cause _ _ _ _ (returns-then-byte-ne-COUNTED-clause-read g c).later
