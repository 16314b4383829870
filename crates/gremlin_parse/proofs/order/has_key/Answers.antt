use Rattle.std.proofs.Common.{ℕ, Option, List, [], sym, ap, ◌∙◌}
use Rattle.std.specs.Prelude.{unwrap_or}
use Rattle.gremlin_parse.specs.OrderKeys.{has_key, starts_quote}
use Rattle.gremlin_parse.proofs.order.has_key.Goals as goal

pub returns-in-Some : goal.returns-in-Some
unfolding has_key
returns-in-Some c = c.starts_quote.ensures ∙ ap (λ (found : Option (List ℕ)). starts_quote (unwrap_or found [])) (sym c.in-Some.ensures.some)

pub returns-in-None : goal.returns-in-None
unfolding has_key
returns-in-None c = ap (λ (found : Option (List ℕ)). starts_quote (unwrap_or found [])) (sym c.in-None.ensures.none)
