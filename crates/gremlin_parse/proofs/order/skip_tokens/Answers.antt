use Rattle.std.proofs.Common.{sym, ◌∙◌}
use Rattle.gremlin_parse.proofs.OrderTokens.{token_read, token_left}
use Rattle.gremlin_parse.proofs.order.skip_tokens.Goals as goal

pub returns-in_default-clause-none : goal.returns-in_default-clause-none
returns-in_default-clause-none c = sym c.loop-token.invariant ∙ token_left c.args.tokens.now c.loop-token.token-index _ c.loop-token.rest.now
    c.in_default.field-0 c.loop-token-test.true c.in_default.ensures.err

pub loop-token-preserved : goal.loop-token-preserved
loop-token-preserved c = token_read c.args.tokens.now c.loop-token.token-index _ c.loop-token.rest.now c.in-Ok.after.now c.loop-token-test.true
    c.in-Ok.ensures.ok ∙ c.loop-token.invariant
