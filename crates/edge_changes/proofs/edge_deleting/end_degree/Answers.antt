use Rattle.std.proofs.Common.{◌∙◌, sym, inl, inr, refl, rules}
use Rattle.node_store.proofs.Rows.{kind-row_at-None}
use Rattle.group_store.proofs.KeptHeads.{node_known}
use Rattle.change_parts.specs.ChangeFault.{of_row}
use Rattle.edge_changes.specs.EdgeDeleting.{BlamesEnd}
use Rattle.edge_changes.proofs.EdgeBlames.{load_blamed}
use Rattle.change_parts.proofs.Elements.{used_of}
use Rattle.change_parts.proofs.Exits.{fault_exit}
use Rattle.rec_bytes.proofs.Causes.{never_ok, ok_cause}
use Rattle.edge_changes.proofs.edge_deleting.end_degree.Goals as goal

pub returns-in_err-row-clause-damaged : goal.returns-in_err-row-clause-damaged
returns-in_err-row-clause-damaged g c tells label =
    let s = g.R.Reads.state c.args.space.now in
    fault_exit of_row (BlamesEnd s c.args.rel c.args.node label) c.in_err-row.field-0.0 c.from_residual.result c.from_residual.ensures.1
    (load_blamed s c.args.rel c.args.node label c.in_err-row.field-0.0 (c.in_err-row.ensures.damaged tells))

pub returns-in_default-clause-damaged : goal.returns-in_default-clause-damaged
returns-in_default-clause-damaged g c tells label =
    let s = g.R.Reads.state c.args.space.now in
    inr (refl, inl (kind-row_at-None s.records c.args.node (sym (sym c.in_default.is ∙ c.in_ok-row.ensures.found tells))))

pub returns-clause-kind : goal.returns-clause-kind
returns-clause-kind g c tells =
    let s = g.R.Reads.state c.args.space.now in
    node_known s c.args.node (c.in_ok-row.ensures.known tells) (used_of s c.args.node c.in-Some.row (sym c.in-Some.is ∙ c.in_ok-row.ensures.found tells)).0

pub returns-in_err-row-clause-found : goal.returns-in_err-row-clause-found
returns-in_err-row-clause-found g c _ = never_ok c.from_residual.result _ _ c.from_residual.ensures.1

pub returns-in_err-row-clause-kind : goal.returns-in_err-row-clause-kind
returns-in_err-row-clause-kind g c _ = never_ok c.from_residual.result _ _ c.from_residual.ensures.1

pub returns-in_err-row-clause-key : goal.returns-in_err-row-clause-key
returns-in_err-row-clause-key g c = never_ok c.from_residual.result _ _ c.from_residual.ensures.1

pub returns-in_err-row-clause-onward : goal.returns-in_err-row-clause-onward
returns-in_err-row-clause-onward g c = search rules

pub returns-clause-cause : goal.returns-clause-cause
returns-clause-cause g c = ok_cause _ _ _ _ c.in_ok-row.ensures.cause.later
