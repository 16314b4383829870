use Rattle.std.proofs.Common.{refl}
use Rattle.std.proofs.lemmas.Result.{err_from_is_err_and}
use Rattle.gremlin_parse.specs.Queries.{sort_name, sort_words}
use Rattle.gremlin_parse.proofs.Exits.{never_ok}
use Rattle.gremlin_parse.proofs.Words.{word_read, word_leaves}
use Rattle.gremlin_parse.proofs.order.read_sort_name.Goals as goal

pub returns-in_err-descending-clause-err : goal.returns-in_err-descending-clause-err
returns-in_err-descending-clause-err c =
    let p = err_from_is_err_and c.from_residual.result c.from_residual.ensures.1 in
    rw (p.1, p.2) (word_leaves sort_words c.args.bytes.now c.in_err-descending.field-0.0 c.in_err-descending.ensures.err)

pub returns-clause-ok : goal.returns-clause-ok
returns-clause-ok c = (
  c.in_ok-descending.after.now,
  word_read sort_name sort_words (refl, (refl, tt)) c.args.bytes.now c.in_ok-descending.after.now
      c.in_ok-descending.descending c.in_ok-descending.ensures.ok,
  c.skip_blanks.ensures,
)

pub returns-in_err-descending-clause-ok : goal.returns-in_err-descending-clause-ok
returns-in_err-descending-clause-ok c = never_ok c.from_residual.result _ _ c.from_residual.ensures.1
