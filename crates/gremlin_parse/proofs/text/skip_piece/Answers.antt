use Rattle.gremlin_parse.proofs.Runs.{first_and_rest}
use Rattle.gremlin_parse.proofs.Texts.{plain_piece, escape_piece}
use Rattle.gremlin_parse.proofs.Exits.{never_ok}
use Rattle.gremlin_parse.proofs.text.skip_piece.Goals as goal

pub returns-clause-ok : goal.returns-clause-ok
returns-clause-ok c = escape_piece c.args.quote _ c.args.bytes.now _ c.in_ok-rest.rest.now (first_and_rest c.args.bytes.now c.in-len1-up.len_at_least)
    c.if-first-ne92.false c.in_ok-rest.ensures.ok

pub returns-then-first-ne92-clause-ok : goal.returns-then-first-ne92-clause-ok
returns-then-first-ne92-clause-ok c = plain_piece c.args.quote _ c.args.bytes.now _ (first_and_rest c.args.bytes.now c.in-len1-up.len_at_least)
    c.if-first-quote.false c.if-first-ne92.true

pub returns-in_err-rest-clause-ok : goal.returns-in_err-rest-clause-ok
returns-in_err-rest-clause-ok c = never_ok c.from_residual.result _ _ c.from_residual.ensures.1
