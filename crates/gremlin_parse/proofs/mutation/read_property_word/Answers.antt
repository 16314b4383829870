use Rattle.std.proofs.lemmas.Result.{IfErr-weaker, IfOk-weaker}
use Rattle.gremlin_parse.specs.Queries.{property_words}
use Rattle.gremlin_parse.specs.Stages.{late_fault}
use Rattle.gremlin_parse.proofs.MutationReads.{property_in_time}
use Rattle.gremlin_parse.proofs.LeftWords.{words_left}
use Rattle.gremlin_parse.proofs.mutation.read_property_word.Goals as goal

pub returns-clause-ok : goal.returns-clause-ok
returns-clause-ok c = c.read_keyword.ensures.ok

pub returns-clause-no_fault : goal.returns-clause-no_fault
returns-clause-no_fault c = IfOk-weaker c.read_keyword.result _ _ (λ r takes. property_in_time c.args.before c.args.bytes.now r.1.now r.0
    c.in_default.ensures.none takes) c.read_keyword.ensures.ok

pub returns-clause-err : goal.returns-clause-err
returns-clause-err c = IfErr-weaker c.read_keyword.result _ _ (words_left property_words (λ _ _. late_fault c.args.before) c.args.bytes.now
    c.in_default.ensures.none) c.read_keyword.ensures.err
