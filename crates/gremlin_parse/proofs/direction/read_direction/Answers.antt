use Rattle.std.proofs.Common.{refl}
use Rattle.std.proofs.lemmas.Result.{IfOk-weaker, IfErr-weaker}
use Rattle.gremlin_parse.specs.Grammar.{direction_name}
use Rattle.gremlin_parse.specs.Arguments.{direction_words}
use Rattle.gremlin_parse.proofs.Words.{word_read, word_leaves}
use Rattle.gremlin_parse.proofs.direction.read_direction.Goals as goal

pub returns-clause-err : goal.returns-clause-err
returns-clause-err c = IfErr-weaker c.read_keyword.result _ _ (λ stop at. word_leaves direction_words c.args.bytes.now stop at) c.read_keyword.ensures.err

pub returns-clause-ok : goal.returns-clause-ok
returns-clause-ok c = IfOk-weaker c.read_keyword.result _ _ (λ r reads. word_read direction_name direction_words (refl, (refl, (refl, tt))) c.args.bytes.now
    r.1.now r.0 reads) c.read_keyword.ensures.ok
