use Rattle.std.proofs.Common.{refl}
use Rattle.std.proofs.lemmas.Result.{err_from_is_err_and}
use Rattle.gremlin_parse.specs.Queries.{relation_name, relation_words}
use Rattle.gremlin_parse.proofs.Words.{word_read, word_leaves}
use Rattle.gremlin_parse.proofs.Exits.{never_ok}
use Rattle.gremlin_parse.proofs.comparison.read_relation.Goals as goal

pub returns-in_err-relation-clause-err : goal.returns-in_err-relation-clause-err
returns-in_err-relation-clause-err c =
    let p = err_from_is_err_and c.from_residual.result c.from_residual.ensures.1 in
    rw (p.1, p.2) (word_leaves relation_words c.args.bytes.now c.in_err-relation.field-0.0 c.in_err-relation.ensures.err)

pub returns-clause-ok : goal.returns-clause-ok
returns-clause-ok c = (
  c.in_ok-relation.after.now,
  word_read relation_name relation_words (refl, (refl, (refl, (refl, (refl, (refl, tt)))))) c.args.bytes.now
      c.in_ok-relation.after.now c.in_ok-relation.relation c.in_ok-relation.ensures.ok,
  c.skip_blanks.ensures,
)

pub returns-in_err-relation-clause-ok : goal.returns-in_err-relation-clause-ok
returns-in_err-relation-clause-ok c = never_ok c.from_residual.result _ _ c.from_residual.ensures.1
