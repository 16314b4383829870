use Rattle.std.proofs.Common.{◌∙◌, Err, ap, sym}
use Rattle.graph_session.proofs.Judging.{gives-broken, gives-fault, gives-sound}
use Rattle.graph_session.proofs.questions.verdicts.give_verdict.Goals as goal

pub returns-in-Ok-Sound-clause-gives : goal.returns-in-Ok-Sound-clause-gives
returns-in-Ok-Sound-clause-gives g c = λ names.
    let met = c.in-Ok-Sound.ensures in
    gives-sound names (record { same = met.same; onward = met.onward; later = met.cause.later }) (λ told. met.sound told c.in-Ok-Sound.field-0-is)
    (rw c.sound.ensures at c.give_line.ensures.gives)

pub returns-in-Ok-Broken-clause-gives : goal.returns-in-Ok-Broken-clause-gives
returns-in-Ok-Broken-clause-gives g c = λ names.
    let met = c.in-Ok-Broken.ensures in
    gives-broken names (record { same = met.same; onward = met.onward; later = met.cause.later }) c.in-Ok-Broken.damage
    (λ told. rw c.in-Ok-Broken.field-0-is at (met.broken told)) (λ told store. sym c.in-Ok-Broken.field-0-is ∙ met.only told store)
    (rw (c.as_bytes.ensures, c.broken.ensures) at c.give_line-in-Ok-Broken.ensures.gives)

pub returns-in-Err-clause-gives : goal.returns-in-Err-clause-gives
returns-in-Err-clause-gives g c = λ names.
    let met = c.in-Err.ensures in
    gives-fault names (record { same = met.same; onward = met.onward; later = met.cause.later }) c.in-Err.fault (λ is. met.cause.disk (ap Err is))
    (rw c.from.ensures at c.give_answer.ensures.gives)
