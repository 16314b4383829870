use Rattle.std.proofs.Common.{arith, ◌≡◌, ◌<◌, ◌∙◌, ap, sym}
use Rattle.rec_bytes.specs.Format as format
use Rattle.rec_bytes.specs.Record.{field}
use Rattle.store_rules.specs.Views.{first_link, high}
use Rattle.chain_check.specs.NodeChains.{IsDense}
use Rattle.chain_check.proofs.GroupChainLaws.{found_is}
use Rattle.record_lists.proofs.RecordLaws.{kind_read}
use Rattle.record_lists.proofs.Causes.{cause_passed}
use Rattle.record_lists.proofs.OnlyReads.{is_read-get, is_read-on}
use Rattle.rec_bytes.proofs.Causes.{ok_cause}
use Rattle.chain_check.proofs.groups.OwnersHeads.list.Goals as goal

pub returns-then-byte-ne-DENSE-clause-told : goal.returns-then-byte-ne-DENSE-clause-told
returns-then-byte-ne-DENSE-clause-told g c = λ tells is.
    let records = (g.R.Reads.state c.args.space.now).records in
    let lt : c.args.id < high records format.nodes_file = omega (arith, c.requires.id, c.requires.suits.nodes) in
    let kind = kind_read records format.nodes_file c.args.id c.in_ok-rec.rec lt (c.in_ok-rec.ensures.got tells) in
    c.if-byte-ne-DENSE.true (c.byte.ensures ∙ sym kind ∙ is)

pub returns-clause-told : goal.returns-clause-told
returns-clause-told g c = λ tells.
    let records = (g.R.Reads.state c.args.space.now).records in
    let id = c.args.id in
    let lt : id < high records format.nodes_file = omega (arith, c.requires.id, c.requires.suits.nodes) in
    let got = c.in_ok-rec.ensures.got tells in
    let is : IsDense records id = kind_read records format.nodes_file id c.in_ok-rec.rec lt got ∙ sym c.byte.ensures ∙ c.if-byte-ne-DENSE.false in
    let first : c.number-first.result ≡ first_link records id = c.number-first.ensures ∙ ap (λ r. field 4 r format.node_first_link) got in
    found_is records id (g.R.Reads.state c.get.new.self).records c.args.self.now.groups c.number-first.result c.in_ok-found.found
    (ap (λ s. s.records) c.in_ok-rec.ensures.state) c.requires.suits.groups c.requires.suits.few_groups first is (c.in_ok-found.ensures.told tells)

pub returns-in_err-rec-clause-read : goal.returns-in_err-rec-clause-read
returns-in_err-rec-clause-read g c =
    is_read-get g.R.Reads _ _ c.in_err-rec.ensures.state c.in_err-rec.ensures.onward c.in_err-rec.ensures.cause.later

pub returns-in_err-rec-clause-cause : goal.returns-in_err-rec-clause-cause
returns-in_err-rec-clause-cause g c =
    cause_passed _ _ _ c.from_residual.result c.in_err-rec.field-0.0 (omega arith) c.in_err-rec.ensures.cause c.from_residual.ensures.1

pub returns-in_err-found-clause-read : goal.returns-in_err-found-clause-read
returns-in_err-found-clause-read g c =
    is_read-on g.R.Reads g.met.R.Reads.further_onward _ _ _ (is_read-get g.R.Reads _ _ c.in_ok-rec.ensures.state c.in_ok-rec.ensures.onward
    c.in_ok-rec.ensures.cause.later) c.in_err-found.ensures.read

pub returns-in_err-found-clause-cause : goal.returns-in_err-found-clause-cause
returns-in_err-found-clause-cause g c =
    cause_passed _ _ _ c.from_residual-in_err-found.result c.in_err-found.field-0.0 c.in_ok-rec.ensures.cause.later
    c.in_err-found.ensures.cause c.from_residual-in_err-found.ensures.1

pub returns-clause-read : goal.returns-clause-read
returns-clause-read g c =
    is_read-on g.R.Reads g.met.R.Reads.further_onward _ _ _ (is_read-get g.R.Reads _ _ c.in_ok-rec.ensures.state c.in_ok-rec.ensures.onward
    c.in_ok-rec.ensures.cause.later) c.in_ok-found.ensures.read

pub returns-clause-cause : goal.returns-clause-cause
returns-clause-cause g c = ok_cause _ _ _ _ (returns-clause-read g c).later

pub returns-then-byte-ne-DENSE-clause-read : goal.returns-then-byte-ne-DENSE-clause-read
returns-then-byte-ne-DENSE-clause-read g c =
    is_read-get g.R.Reads _ _ c.in_ok-rec.ensures.state c.in_ok-rec.ensures.onward c.in_ok-rec.ensures.cause.later

pub returns-then-byte-ne-DENSE-clause-cause : goal.returns-then-byte-ne-DENSE-clause-cause
returns-then-byte-ne-DENSE-clause-cause g c = ok_cause _ _ _ _ (returns-then-byte-ne-DENSE-clause-read g c).later
