use Rattle.std.proofs.Common.{◌≡◌, ◌-◌, drop, get_or, length, take, arith}
use Rattle.gremlin_parse.proofs.Tags.{at_first, reads_tag}
use Rattle.gremlin_parse.proofs.Exits.{never_ok}
use Rattle.gremlin_parse.proofs.tag.read_tag.Goals as goal

pub returns-in_ok-session-in-64-clause-ok : goal.returns-in_ok-session-in-64-clause-ok
returns-in_ok-session-in-64-clause-ok c =
    let bytes = c.skip_blanks.result.now in
    let is : get_or bytes 0 0 ≡ 64 = omega arith in
    reads_tag c.args.line.now bytes (take (length bytes - 1) (drop 1 bytes)) c.in_ok-session-in-64.session c.in_ok-session-in-64.rest.now
    c.skip_blanks.ensures.takes
    (at_first bytes c.in-64.len_at_least is) c.in_ok-session-in-64.ensures.ok

pub returns-in_err-session-in-64-clause-ok : goal.returns-in_err-session-in-64-clause-ok
returns-in_err-session-in-64-clause-ok c = never_ok c.from_residual.result _ _ c.from_residual.ensures.1
