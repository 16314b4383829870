use Rattle.std.proofs.Common.{List, ◌∙◌, subst, sym}
use Rattle.gremlin_parse.specs.Keywords.{Entry, LeavesTable, TakesWord}
use Rattle.gremlin_parse.specs.Queries.{words_after}
use Rattle.gremlin_parse.specs.Stages.{step_fault}
use Rattle.gremlin_parse.specs.Stopping.{StopsWith}
use Rattle.gremlin_parse.specs.declared.step_word.StepWord.{StepWord}
use Rattle.gremlin_parse.proofs.LeftWords.{read_faulty}
use Rattle.gremlin_parse.proofs.QueryReads.{table_after}
use Rattle.gremlin_parse.proofs.step_word.read_step_word.Goals as goal

pub stop_at_prefix-requires : goal.stop_at_prefix-requires
stop_at_prefix-requires c = subst (λ (table : List (Entry StepWord)). StopsWith (LeavesTable table c.args.bytes.now) c.in-Err.no_word) c.words_after.ensures
    c.in-Err.ensures.err

pub returns-in-None-clause-ok : goal.returns-in-None-clause-ok
returns-in-None-clause-ok c = subst (λ (table : List (Entry StepWord)). TakesWord table c.args.bytes.now c.in-Ok.word c.in-Ok.rest.now)
    c.words_after.ensures c.in-Ok.ensures.ok

pub returns-in-None-clause-no_fault : goal.returns-in-None-clause-no_fault
returns-in-None-clause-no_fault c = sym c.step_fault.ensures ∙ c.in-None.is

pub returns-in-Some-clause-err : goal.returns-in-Some-clause-err
returns-in-Some-clause-err c = read_faulty (words_after c.args.is_ordered) (step_fault c.args.stage) c.args.bytes.now (table_after c.args.is_ordered)
    c.in-Ok.rest.now c.in-Ok.word c.in-Some.token
    (subst (λ (table : List (Entry StepWord)). TakesWord table c.args.bytes.now c.in-Ok.word c.in-Ok.rest.now) c.words_after.ensures c.in-Ok.ensures.ok)
    (sym c.step_fault.ensures ∙ c.in-Some.is)
