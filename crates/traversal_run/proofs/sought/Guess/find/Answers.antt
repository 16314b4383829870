use Rattle.std.proofs.Common.{Some, sym, ap, ◌∙◌}
use Rattle.traversal_run.proofs.NamesKnown.{is_text-same}
use Rattle.traversal_run.proofs.sought.Guess.find.Goals as goal

pub returns-then-is_text-clause-some : goal.returns-then-is_text-clause-some
returns-then-is_text-clause-some c =
    c.text.ensures.is ∙ ap Some (is_text-same c.text.result.now c.args.text.now (sym c.is_text.ensures ∙ c.if-is_text.true))
