use Rattle.std.proofs.lemmas.Result.{IfErr-weaker, IfOk-weaker}
use Rattle.gremlin_parse.specs.Commands.{IsTail, KeepsTail}
use Rattle.gremlin_parse.specs.Lines.{NeedsMemory}
use Rattle.gremlin_parse.proofs.Exits.{ok_of_both}
use Rattle.gremlin_parse.proofs.Leftmost.{no_fault_of, only_command}
use Rattle.gremlin_parse.proofs.Lines.{spells_of_tail, stop_in_tag, stop_of_line}
use Rattle.gremlin_parse.proofs.Tags.{named_is, names_none_at, rest_is}
use Rattle.gremlin_parse.proofs.reader.read_line.Goals as goal

pub returns-in-Ok-clause-session : goal.returns-in-Ok-clause-session
returns-in-Ok-clause-session c = named_is c.args.line.now c.in-Ok.session c.in-Ok.rest.now c.in-Ok.ensures.ok

pub returns-in-Ok-clause-spelled : goal.returns-in-Ok-clause-spelled
returns-in-Ok-clause-spelled c =
    let line = c.args.line.now in
    let rest = c.in-Ok.rest.now in
    let bytes = c.skip_blanks.result.now in
    ok_of_both c.parse_tail.result (λ command. IsTail command bytes) (λ command. KeepsTail command bytes) _
    (λ command. spells_of_tail line rest bytes command (rest_is line c.in-Ok.session rest c.in-Ok.ensures.ok) c.skip_blanks.ensures.takes)
    c.parse_tail.ensures.ok c.parse_tail.ensures.bounds

pub returns-in-Ok-clause-only : goal.returns-in-Ok-clause-only
returns-in-Ok-clause-only c =
    let line = c.args.line.now in
    let rest = c.in-Ok.rest.now in
    let bytes = c.skip_blanks.result.now in
    IfOk-weaker c.parse_tail.result (λ command. IsTail command bytes) _
    (λ command. only_command line rest bytes command (rest_is line c.in-Ok.session rest c.in-Ok.ensures.ok) c.skip_blanks.ensures.takes)
    c.parse_tail.ensures.ok

pub returns-in-Ok-clause-no_fault : goal.returns-in-Ok-clause-no_fault
returns-in-Ok-clause-no_fault c =
    let line = c.args.line.now in
    let rest = c.in-Ok.rest.now in
    let bytes = c.skip_blanks.result.now in
    ok_of_both c.parse_tail.result (λ command. IsTail command bytes) (λ command. KeepsTail command bytes) _
    (λ command. no_fault_of line rest bytes command (rest_is line c.in-Ok.session rest c.in-Ok.ensures.ok) c.skip_blanks.ensures.takes)
    c.parse_tail.ensures.ok c.parse_tail.ensures.bounds

pub returns-in-Ok-clause-err : goal.returns-in-Ok-clause-err
returns-in-Ok-clause-err c = IfErr-weaker c.parse_tail.result _ _ (λ stop. stop_of_line c.args.line.now c.in-Ok.session c.in-Ok.rest.now
    c.skip_blanks.result.now stop c.in-Ok.ensures.ok c.skip_blanks.ensures.takes) c.parse_tail.ensures.err

pub returns-in-Err-clause-session : goal.returns-in-Err-clause-session
returns-in-Err-clause-session c = names_none_at c.args.line.now c.in-Err.stop c.in-Err.ensures.err

pub returns-in-Err-clause-err : goal.returns-in-Err-clause-err
returns-in-Err-clause-err c = stop_in_tag (NeedsMemory c.args.line.now) c.args.line.now c.in-Err.stop c.in-Err.ensures.err
