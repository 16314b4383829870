use Rattle.std.proofs.Common.{rules}
use Rattle.std.proofs.lemmas.Fn.{filter_same}
use Rattle.expand.specs.Matching.{is_met_at}
use Rattle.expand.proofs.matching.kept.Goals as goal

pub returns : goal.returns
returns c = filter_same _ (is_met_at c.args.end c.args.labels.now c.args.node) _ (λ x b f' called. search rules) _ _ c.retain.ensures.filtered
