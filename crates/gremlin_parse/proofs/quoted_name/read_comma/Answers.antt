use Rattle.std.proofs.Common.{cond}
use Rattle.gremlin_parse.proofs.QueryReads.{token_shorter}
use Rattle.gremlin_parse.proofs.Exits.{never_ok}
use Rattle.gremlin_parse.proofs.quoted_name.read_comma.Goals as goal

pub returns-clause-less : goal.returns-clause-less
returns-clause-less c = token_shorter (cond c.in_ok-more.more 44 41) c.args.bytes.now c.skip_blanks.result.now
    (c.in_ok-more.rest.now, c.in_ok-more.ensures.ok, c.skip_blanks.ensures)

pub returns-in_err-more-clause-ok : goal.returns-in_err-more-clause-ok
returns-in_err-more-clause-ok c = never_ok c.from_residual.result _ _ c.from_residual.ensures.1

pub returns-in_err-more-clause-less : goal.returns-in_err-more-clause-less
returns-in_err-more-clause-less c = never_ok c.from_residual.result _ _ c.from_residual.ensures.1
