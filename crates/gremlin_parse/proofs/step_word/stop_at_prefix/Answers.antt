use Rattle.std.proofs.Common.{List, ap, ◌∙◌, refl, sym}
use Rattle.gremlin_parse.specs.Keywords.{Entry, whole_word}
use Rattle.gremlin_parse.specs.Queries.{words_after}
use Rattle.gremlin_parse.specs.Stages.{step_fault}
use Rattle.gremlin_parse.specs.declared.step_word.StepWord.{StepWord}
use Rattle.gremlin_parse.proofs.LeftWords.{faultless_left, none_left}
use Rattle.gremlin_parse.proofs.step_word.stop_at_prefix.Goals as goal

pub returns-in-Some-step_fault : goal.returns-in-Some-step_fault
returns-in-Some-step_fault c = (
  c.in-Some.word,
  ap (λ (table : List (Entry StepWord)). whole_word table c.args.bytes.now) (sym c.words_after.ensures) ∙ sym c.whole_word.ensures ∙ c.in-Some.is,
  sym c.step_fault.ensures ∙ c.in-Some-step_fault.is,
  refl,
)

pub returns-in-None : goal.returns-in-None
returns-in-None c = faultless_left (words_after c.args.is_ordered) (step_fault c.args.stage) c.args.bytes.now c.in-Some.word
    (ap (λ (table : List (Entry StepWord)). whole_word table c.args.bytes.now) (sym c.words_after.ensures) ∙ sym c.whole_word.ensures ∙ c.in-Some.is)
    (sym c.step_fault.ensures ∙ c.in-None.is) c.args.no_word c.requires

pub returns-in_default : goal.returns-in_default
returns-in_default c = none_left (words_after c.args.is_ordered) (step_fault c.args.stage) c.args.bytes.now
    (ap (λ (table : List (Entry StepWord)). whole_word table c.args.bytes.now) (sym c.words_after.ensures) ∙ sym c.whole_word.ensures ∙ c.in_default.is)
    c.args.no_word c.requires
