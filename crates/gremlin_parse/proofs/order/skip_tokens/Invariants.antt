use Rattle.std.proofs.Common.{◌≡◌, ℕ, List, map, drop}
use Rattle.std.specs.Borrow.{Bor}
use Rattle.gremlin_parse.specs.OrderKeys.{after_tokens}
use Rattle.gremlin_parse.proofs.order.skip_tokens.Given as goal

abbrev pub invariant-loop-token : goal.invariant-loop-token
invariant-loop-token l = after_tokens (map (λ (t : Bor (List ℕ)). t.now) (drop l.token-index l.tokens)) l.rest ≡ after_tokens
    (map (λ (t : Bor (List ℕ)). t.now) l.tokens) l.fn.bytes
