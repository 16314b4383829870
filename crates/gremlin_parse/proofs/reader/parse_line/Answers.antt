use Rattle.std.proofs.Common.{◌≡◌, sym, ◌∙◌}
use Rattle.gremlin_parse.specs.Lines.{NeedsMemory}
use Rattle.gremlin_parse.specs.declared.line_fault.LineFault.TheVariants as faults
use Rattle.gremlin_parse.proofs.Leftmost.{fault_is_leftmost, stop_within, no_command_at, no_such_command}
use Rattle.gremlin_parse.proofs.Commands.{spelled_form}
use Rattle.gremlin_parse.proofs.reader.parse_line.Goals as goal

pub returns-in-Ok-clause-spelled : goal.returns-in-Ok-clause-spelled
returns-in-Ok-clause-spelled c = rw c.in-Ok.is at c.read_line-session.ensures.spelled

pub returns-in-Ok-clause-only : goal.returns-in-Ok-clause-only
returns-in-Ok-clause-only c = rw c.in-Ok.is at c.read_line-session.ensures.only

pub returns-in-Ok-clause-no_fault : goal.returns-in-Ok-clause-no_fault
returns-in-Ok-clause-no_fault c = rw c.in-Ok.is at c.read_line-session.ensures.no_fault

pub returns-in-Ok-clause-form : goal.returns-in-Ok-clause-form
returns-in-Ok-clause-form c = spelled_form c.args.line.now c.in-Ok.command (rw c.in-Ok.is at c.read_line-session.ensures.spelled)

pub fault_of-requires : goal.fault_of-requires
fault_of-requires c = stop_within (NeedsMemory c.args.line.now) c.args.line.now c.in-Err.stop (rw c.in-Err.is at c.read_line-session.ensures.err)

pub returns-in-Err-clause-fault : goal.returns-in-Err-clause-fault
returns-in-Err-clause-fault c = λ some.
    rw c.fault_of.ensures (fault_is_leftmost (NeedsMemory c.args.line.now) c.args.line.now c.in-Err.stop
    (rw c.in-Err.is at c.read_line-session.ensures.err) (λ same. some (c.fault_of.ensures ∙ same)))

pub returns-in-Err-clause-none : goal.returns-in-Err-clause-none
returns-in-Err-clause-none c = λ some.
    no_command_at (NeedsMemory c.args.line.now) c.args.line.now c.in-Err.stop (rw c.in-Err.is at c.read_line-session.ensures.err)
    (λ same. some (c.fault_of.ensures ∙ same))

pub returns-in-Err-clause-memory : goal.returns-in-Err-clause-memory
returns-in-Err-clause-memory c = λ same.
    let is : c.fault_of.result ≡ faults.Memory = cc in
    no_such_command c.args.line.now c.in-Err.stop (rw c.in-Err.is at c.read_line-session.ensures.err) (sym c.fault_of.ensures ∙ is)
