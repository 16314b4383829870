use Rattle.std.proofs.Common.{arith, ◌∙◌, ap, subst, sym}
use Rattle.rec_bytes.specs.Format.{nodes_file}
use Rattle.store_rules.specs.Views.{Records}
use Rattle.record_lists.proofs.RecordLaws.{kind_read}
use Rattle.chain_check.specs.NodeChains.{IsDense}
use Rattle.chain_check.proofs.ChainedLaws.{not_dense}
use Rattle.record_lists.proofs.Causes.{cause_passed}
use Rattle.chain_check.proofs.Causes.{cause_later}
use Rattle.rec_bytes.proofs.Causes.{never_ok, ok_cause}
use Rattle.record_lists.proofs.OnlyReads.{is_read-get, is_read-on}
use Rattle.chain_check.proofs.chained.see_chain.Goals as goal

pub returns-then-byte-ne-DENSE-clause-seen : goal.returns-then-byte-ne-DENSE-clause-seen
returns-then-byte-ne-DENSE-clause-seen g c = λ tells.
    let records = (g.R.Reads.state c.args.space.now).records in
    let kind = kind_read records nodes_file c.args.node c.in_ok-rec.rec c.requires.node (c.in_ok-rec.ensures.got tells) in
    not_dense records c.args.node c.args.seen.now (λ (dense : IsDense records c.args.node). c.if-byte-ne-DENSE.true (c.byte.ensures ∙ sym kind ∙ dense))

pub see_from-requires-clause-dense : goal.see_from-requires-clause-dense
see_from-requires-clause-dense g c = λ tells.
    let records = (g.R.Reads.state c.args.space.now).records in
    let kind = kind_read records nodes_file c.args.node c.in_ok-rec.rec c.requires.node (c.in_ok-rec.ensures.got tells) in
    subst (λ (r : Records). IsDense r c.args.node) (sym (ap (λ s. s.records) c.in_ok-rec.ensures.state)) (kind ∙ sym c.byte.ensures ∙ c.if-byte-ne-DENSE.false)

pub returns-in_err-rec-clause-cause : goal.returns-in_err-rec-clause-cause
returns-in_err-rec-clause-cause g c =
    cause_passed _ _ _ c.from_residual.result c.in_err-rec.field-0.0 (omega arith) c.in_err-rec.ensures.cause c.from_residual.ensures.1

pub returns-in_err-rec-clause-seen : goal.returns-in_err-rec-clause-seen
returns-in_err-rec-clause-seen g c _ = never_ok c.from_residual.result _ _ c.from_residual.ensures.1

pub returns-in_err-rec-clause-read : goal.returns-in_err-rec-clause-read
returns-in_err-rec-clause-read g c =
    is_read-get g.R.Reads _ _ c.in_err-rec.ensures.state c.in_err-rec.ensures.onward c.in_err-rec.ensures.cause.later

pub returns-clause-read : goal.returns-clause-read
returns-clause-read g c =
    is_read-on g.R.Reads g.met.R.Reads.further_onward _ _ _ (is_read-get g.R.Reads _ _ c.in_ok-rec.ensures.state c.in_ok-rec.ensures.onward
    c.in_ok-rec.ensures.cause.later) c.see_from.ensures.read

pub returns-clause-cause : goal.returns-clause-cause
returns-clause-cause g c =
    cause_later _ _ _ c.see_from.result (is_read-get g.R.Reads _ _ c.in_ok-rec.ensures.state c.in_ok-rec.ensures.onward
    c.in_ok-rec.ensures.cause.later).later c.see_from.ensures.cause

pub returns-then-byte-ne-DENSE-clause-read : goal.returns-then-byte-ne-DENSE-clause-read
returns-then-byte-ne-DENSE-clause-read g c =
    is_read-get g.R.Reads _ _ c.in_ok-rec.ensures.state c.in_ok-rec.ensures.onward c.in_ok-rec.ensures.cause.later

pub returns-then-byte-ne-DENSE-clause-cause : goal.returns-then-byte-ne-DENSE-clause-cause
returns-then-byte-ne-DENSE-clause-cause g c = ok_cause _ _ _ _ (returns-then-byte-ne-DENSE-clause-read g c).later
