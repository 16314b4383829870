use Rattle.std.proofs.Common.{rules}
use Rattle.rec_bytes.proofs.Causes.{never_ok}
use Rattle.group_store.proofs.dropping.read_lead.Goals as goal

pub returns-in_err-rec-clause-got_node : goal.returns-in_err-rec-clause-got_node
returns-in_err-rec-clause-got_node g c _ = never_ok c.from_residual.result _ _ c.from_residual.ensures.1

pub returns-in_err-rec-clause-got_before : goal.returns-in_err-rec-clause-got_before
returns-in_err-rec-clause-got_before g c _ = never_ok c.from_residual.result _ _ c.from_residual.ensures.1

pub returns-in_err-rec-clause-linked : goal.returns-in_err-rec-clause-linked
returns-in_err-rec-clause-linked g c _ = never_ok c.from_residual.result _ _ c.from_residual.ensures.1

pub returns-in_err-rec-clause-onward : goal.returns-in_err-rec-clause-onward
returns-in_err-rec-clause-onward g c = search rules

pub returns-in_err-rec-2-clause-got_node : goal.returns-in_err-rec-2-clause-got_node
returns-in_err-rec-2-clause-got_node g c _ = never_ok c.from_residual-in_err-rec-2.result _ _ c.from_residual-in_err-rec-2.ensures.1

pub returns-in_err-rec-2-clause-got_before : goal.returns-in_err-rec-2-clause-got_before
returns-in_err-rec-2-clause-got_before g c _ = never_ok c.from_residual-in_err-rec-2.result _ _ c.from_residual-in_err-rec-2.ensures.1

pub returns-in_err-rec-2-clause-linked : goal.returns-in_err-rec-2-clause-linked
returns-in_err-rec-2-clause-linked g c _ = never_ok c.from_residual-in_err-rec-2.result _ _ c.from_residual-in_err-rec-2.ensures.1
