use Rattle.std.proofs.Common.{◌∙◌, ap, map}
use Rattle.plain_graph.specs.ElementMaps.{pair_of}
use Rattle.traversal_run.specs.KeyValues.{entries_of}
use Rattle.traversal_run.proofs.TakenRows.{pairs-rows}
use Rattle.rec_bytes.proofs.Causes.{never_ok}
use Rattle.traversal_run.proofs.viewing.map_of.Goals as goal

pub returns-clause-found : goal.returns-clause-found
returns-clause-found g c = λ store properties read. (
  c.in_ok-label.ensures,
  c.in_ok-pairs.ensures.are
      ∙ ap (map pair_of) (c.in_ok-rows.ensures store properties read ∙ ap (entries_of properties) (c.deref.ensures.value ∙ c.in_ok-keys.ensures))
      ∙ pairs-rows properties c.args.keys.now,
)

pub returns-in_err-label-clause-found : goal.returns-in_err-label-clause-found
returns-in_err-label-clause-found g c _ _ _ = never_ok c.from_residual.result _ _ c.from_residual.ensures.1

pub returns-in_err-label-clause-kept : goal.returns-in_err-label-clause-kept
returns-in_err-label-clause-kept g c = never_ok c.from_residual.result _ _ c.from_residual.ensures.1

pub returns-in_err-keys-clause-found : goal.returns-in_err-keys-clause-found
returns-in_err-keys-clause-found g c _ _ _ = never_ok c.from_residual-in_err-keys.result _ _ c.from_residual-in_err-keys.ensures.1

pub returns-in_err-keys-clause-kept : goal.returns-in_err-keys-clause-kept
returns-in_err-keys-clause-kept g c = never_ok c.from_residual-in_err-keys.result _ _ c.from_residual-in_err-keys.ensures.1

pub returns-in_err-rows-clause-found : goal.returns-in_err-rows-clause-found
returns-in_err-rows-clause-found g c _ _ _ = never_ok c.from_residual-in_err-rows.result _ _ c.from_residual-in_err-rows.ensures.1

pub returns-in_err-rows-clause-kept : goal.returns-in_err-rows-clause-kept
returns-in_err-rows-clause-kept g c = never_ok c.from_residual-in_err-rows.result _ _ c.from_residual-in_err-rows.ensures.1

pub returns-in_err-pairs-clause-found : goal.returns-in_err-pairs-clause-found
returns-in_err-pairs-clause-found g c _ _ _ = never_ok c.from_residual-in_err-pairs.result _ _ c.from_residual-in_err-pairs.ensures.1

pub returns-in_err-pairs-clause-kept : goal.returns-in_err-pairs-clause-kept
returns-in_err-pairs-clause-kept g c = never_ok c.from_residual-in_err-pairs.result _ _ c.from_residual-in_err-pairs.ensures.1
