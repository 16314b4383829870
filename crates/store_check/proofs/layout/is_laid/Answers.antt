use Rattle.std.proofs.Common.{sym, ◌∙◌}
use Rattle.store_rules.specs.Views.{high}
use Rattle.store_check.proofs.LayoutLaws.{laid_by, not_laid}
use Rattle.store_check.proofs.layout.is_laid.Goals as goal

pub returns-then-all_point : goal.returns-then-all_point
returns-then-all_point g c =
    laid_by (high (g.R.Reads.state c.args.space.now).records) c.args.rec.now c.args.pointers.now c.args.used.now c.is_blank_outside.result
    (sym c.all_point.ensures ∙ c.if-all_point.true) c.is_blank_outside.ensures

pub returns-else-all_point : goal.returns-else-all_point
returns-else-all_point g c =
    not_laid (high (g.R.Reads.state c.args.space.now).records) c.args.rec.now c.args.pointers.now c.args.used.now c.all_point.result c.all_point.ensures
    c.if-all_point.false
