use Rattle.std.proofs.Common.{rules, ◌≡◌, length, nat_eq, ap, subst, ◌∙◌, arith}
use Rattle.rec_bytes.specs.Format as format
use Rattle.rec_bytes.specs.Record.{field}
use Rattle.record_lists.specs.Lines.{IsLineIn}
use Rattle.chain_check.specs.NodeChains.{chain_line, side_at}
use Rattle.chain_check.proofs.GroupCountLaws.{as_long}
use Rattle.rec_bytes.proofs.Causes.{never_ok, ok_cause}
use Rattle.record_lists.proofs.Causes.{cause_passed}
use Rattle.chain_check.proofs.counts.is_as_long.Goals as goal

pub returns-in-Some-clause-told : goal.returns-in-Some-clause-told
returns-in-Some-clause-told g c = λ tells.
    let records = (g.R.Reads.state c.args.space.now).records in
    let r = c.args.rec.now in
    let first = c.args.first in
    let high = c.args.high in
    let ids = c.in-Some.ids.items in
    let found : IsLineIn (chain_line c.side_at.result c.number.result) records high c.number-start.result ids =
    search (rules, c.in_ok-ids.ensures.found tells) in
    let side = c.side_at.ensures ∙ ap (side_at first) c.number-2.ensures in
    let line : IsLineIn (chain_line (side_at first (field 4 r format.group_type)) (field 4 r format.group_owner)) records high (field 4 r first) ids
    = subst (λ f. IsLineIn (chain_line (side_at first (field 4 r format.group_type)) (field 4 r format.group_owner)) records high f ids) c.number-start.ensures
    (subst (λ n. IsLineIn (chain_line (side_at first (field 4 r format.group_type)) n) records high c.number-start.result ids) c.number.ensures
    (subst (λ s. IsLineIn (chain_line s c.number.result) records high c.number-start.result ids) side found)) in
    let size : c.len.result ≡ length ids = search rules in
    as_long records high r first c.args.count ids (nat_eq c.number-in-Some.result c.len.result) c.requires.high line
    (ap (λ n. nat_eq n c.len.result) c.number-in-Some.ensures ∙ ap (nat_eq (field 4 r c.args.count)) size)

pub returns-in_err-ids-clause-told : goal.returns-in_err-ids-clause-told
returns-in_err-ids-clause-told g c _ = never_ok c.from_residual.result _ _ c.from_residual.ensures.1

pub returns-in_err-ids-clause-read : goal.returns-in_err-ids-clause-read
returns-in_err-ids-clause-read g c =
    c.in_err-ids.ensures.read

pub returns-in_err-ids-clause-cause : goal.returns-in_err-ids-clause-cause
returns-in_err-ids-clause-cause g c =
    cause_passed _ _ _ c.from_residual.result c.in_err-ids.field-0.0 (omega arith) c.in_err-ids.ensures.cause c.from_residual.ensures.1

pub returns-in-None-clause-read : goal.returns-in-None-clause-read
returns-in-None-clause-read g c = c.follow.ensures.read

pub returns-in-None-clause-cause : goal.returns-in-None-clause-cause
returns-in-None-clause-cause g c = ok_cause _ _ _ _ (returns-in-None-clause-read g c).later

pub returns-in-Some-clause-read : goal.returns-in-Some-clause-read
returns-in-Some-clause-read g c = c.follow.ensures.read

pub returns-in-Some-clause-cause : goal.returns-in-Some-clause-cause
returns-in-Some-clause-cause g c = ok_cause _ _ _ _ (returns-in-Some-clause-read g c).later
