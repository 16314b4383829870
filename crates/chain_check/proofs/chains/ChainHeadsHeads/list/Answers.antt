use Rattle.std.proofs.Common.{arith, ◌≡◌, ◌<◌, ◌∙◌, ap, sym}
use Rattle.rec_bytes.specs.Format as format
use Rattle.rec_bytes.specs.Record.{field}
use Rattle.store_rules.specs.Views.{first_link, high}
use Rattle.chain_check.specs.NodeChains.{IsSparse}
use Rattle.chain_check.proofs.RowLaws.{row_found}
use Rattle.record_lists.proofs.RecordLaws.{kind_read}
use Rattle.rec_bytes.proofs.Causes.{never_ok, ok_cause}
use Rattle.record_lists.proofs.Causes.{cause_passed}
use Rattle.chain_check.proofs.Causes.{no_memory}
use Rattle.record_lists.proofs.OnlyReads.{is_read-get}
use Rattle.chain_check.proofs.chains.ChainHeadsHeads.list.Goals as goal

pub returns-then-byte-ne-SPARSE-clause-told : goal.returns-then-byte-ne-SPARSE-clause-told
returns-then-byte-ne-SPARSE-clause-told g c = λ tells is.
    let records = (g.R.Reads.state c.args.space.now).records in
    let lt : c.args.id < high records format.nodes_file = omega (arith, c.requires.id, c.requires.suits.nodes) in
    let kind = kind_read records format.nodes_file c.args.id c.in_ok-rec.rec lt (c.in_ok-rec.ensures.got tells) in
    c.if-byte-ne-SPARSE.true (c.byte.ensures ∙ sym kind ∙ is)

pub returns-clause-told : goal.returns-clause-told
returns-clause-told g c = λ tells.
    let records = (g.R.Reads.state c.args.space.now).records in
    let id = c.args.id in
    let lt : id < high records format.nodes_file = omega (arith, c.requires.id, c.requires.suits.nodes) in
    let got = c.in_ok-rec.ensures.got tells in
    let is : IsSparse records id = kind_read records format.nodes_file id c.in_ok-rec.rec lt got ∙ sym c.byte.ensures ∙ c.if-byte-ne-SPARSE.false in
    let first : c.number-first.result ≡ first_link records id = c.number-first.ensures ∙ ap (λ r. field 4 r format.node_first_link) got in
    row_found c.args.self.now.rows.now records id c.number-first.result c.in-Ok.found (IsSparse records id) c.requires.suits.few_rows first is
    c.in-Ok.ensures.found

pub returns-in_err-rec-clause-told : goal.returns-in_err-rec-clause-told
returns-in_err-rec-clause-told g c _ = never_ok c.from_residual.result _ _ c.from_residual.ensures.1

pub returns-in_err-rec-clause-low : goal.returns-in_err-rec-clause-low
returns-in_err-rec-clause-low g c = never_ok c.from_residual.result _ _ c.from_residual.ensures.1

pub returns-then-byte-ne-SPARSE-clause-cause : goal.returns-then-byte-ne-SPARSE-clause-cause
returns-then-byte-ne-SPARSE-clause-cause g c = ok_cause _ _ _ _ c.in_ok-rec.ensures.cause.later

pub returns-clause-cause : goal.returns-clause-cause
returns-clause-cause g c = ok_cause _ _ _ _ c.in_ok-rec.ensures.cause.later

pub returns-in_err-rec-clause-read : goal.returns-in_err-rec-clause-read
returns-in_err-rec-clause-read g c =
    is_read-get g.R.Reads _ _ c.in_err-rec.ensures.state c.in_err-rec.ensures.onward c.in_err-rec.ensures.cause.later

pub returns-in_err-rec-clause-cause : goal.returns-in_err-rec-clause-cause
returns-in_err-rec-clause-cause g c =
    cause_passed _ _ _ c.from_residual.result c.in_err-rec.field-0.0 (omega arith) c.in_err-rec.ensures.cause c.from_residual.ensures.1

pub returns-then-byte-ne-SPARSE-clause-read : goal.returns-then-byte-ne-SPARSE-clause-read
returns-then-byte-ne-SPARSE-clause-read g c =
    is_read-get g.R.Reads _ _ c.in_ok-rec.ensures.state c.in_ok-rec.ensures.onward c.in_ok-rec.ensures.cause.later

pub returns-clause-read : goal.returns-clause-read
returns-clause-read g c =
    is_read-get g.R.Reads _ _ c.in_ok-rec.ensures.state c.in_ok-rec.ensures.onward c.in_ok-rec.ensures.cause.later

pub returns-in_default-clause-read : goal.returns-in_default-clause-read
returns-in_default-clause-read g c = is_read-get g.R.Reads _ _ c.in_ok-rec.ensures.state c.in_ok-rec.ensures.onward c.in_ok-rec.ensures.cause.later

pub returns-in_default-clause-cause : goal.returns-in_default-clause-cause
returns-in_default-clause-cause g c = no_memory _ _ (returns-in_default-clause-read g c).later
