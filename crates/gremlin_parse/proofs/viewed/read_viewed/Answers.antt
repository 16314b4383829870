use Rattle.std.proofs.Common.{List, ℕ, ap, sym, subst, ◌∙◌}
use Rattle.std.specs.List.{AllByRecursion}
use Rattle.std.proofs.lemmas.Result.{err_from_is_err_and}
use Rattle.gremlin_parse.specs.Arguments.{contents_in, listed, spaced}
use Rattle.gremlin_parse.specs.Grammar.{IsBounded, IsMadeOf}
use Rattle.gremlin_parse.specs.Symbols.{LeavesOne, ReadsAll}
use Rattle.gremlin_parse.specs.Views.{viewed_of, viewed_to_end}
use Rattle.gremlin_parse.specs.declared.argument.Argument.{Argument}
use Rattle.gremlin_parse.specs.declared.argument.Givens.{Givens}
use Rattle.gremlin_parse.specs.declared.viewed.Viewed.{Viewed}
use Rattle.gremlin_parse.proofs.Views.{stop_at_gap, stop_at_view_end, stop_at_view_word, stop_in_number, view_bounded, view_read}
use Rattle.gremlin_parse.proofs.Exits.{never_ok}
use Rattle.gremlin_parse.proofs.viewed.read_viewed.Goals as goal

pub returns-in_err-at_word-clause-err : goal.returns-in_err-at_word-clause-err
returns-in_err-at_word-clause-err c =
    let p = err_from_is_err_and c.from_residual.result c.from_residual.ensures.1 in
    rw (p.1, p.2) (stop_at_gap ⊥ c.args.bytes.now c.in_err-at_word.field-0.0 c.in_err-at_word.ensures.err)

pub returns-in_err-word-clause-err : goal.returns-in_err-word-clause-err
returns-in_err-word-clause-err c =
    let p = err_from_is_err_and c.from_residual-in_err-word.result c.from_residual-in_err-word.ensures.1 in
    rw (p.1, p.2) (stop_at_view_word ⊥ c.args.bytes.now c.in_ok-at_word.at_word.now c.in_err-word.field-0.0 c.in_ok-at_word.ensures.ok
    c.in_err-word.ensures.err)

-- the arguments of the word that was read
abbrev Given : List Argument → Givens → List ℕ → List ℕ → Type 0
Given list givens after rest = ReadsAll (spaced list) (contents_in list (listed givens)) after rest

pub returns-in_err-givens-clause-err : goal.returns-in_err-givens-clause-err
returns-in_err-givens-clause-err c =
    let p = err_from_is_err_and c.from_residual-in_err-givens.result c.from_residual-in_err-givens.ensures.1 in
    let stop = c.in_err-givens.field-0.0 in
    let leaves = subst (λ (list : List Argument). LeavesOne (spaced list) c.in_ok-word.after.now stop) c.view_arguments.ensures.are
    c.in_err-givens.ensures.err in
    rw (p.1, p.2) (stop_in_number ⊥ c.args.bytes.now c.in_ok-at_word.at_word.now c.in_ok-word.after.now c.in_ok-word.word stop c.in_ok-at_word.ensures.ok
    c.in_ok-word.ensures.ok leaves)

pub returns-in_err-read_end-clause-err : goal.returns-in_err-read_end-clause-err
returns-in_err-read_end-clause-err c =
    let p = err_from_is_err_and c.from_residual-in_err-read_end.result c.from_residual-in_err-read_end.ensures.1 in
    let reads = subst (λ (list : List Argument). Given list c.in_ok-givens.givens c.in_ok-word.after.now c.in_ok-givens.rest.now) c.view_arguments.ensures.are
    c.in_ok-givens.ensures.ok in
    rw (p.1, p.2) (stop_at_view_end ⊥ c.args.bytes.now c.in_ok-at_word.at_word.now c.in_ok-word.after.now c.in_ok-givens.rest.now c.skip_blanks.result.now
    c.in_ok-word.word c.in_ok-givens.givens c.in_err-read_end.field-0.0 c.in_ok-at_word.ensures.ok c.in_ok-word.ensures.ok reads c.skip_blanks.ensures
    c.in_err-read_end.ensures.err)

pub returns-clause-ok : goal.returns-clause-ok
returns-clause-ok c =
    let reads = subst (λ (list : List Argument). Given list c.in_ok-givens.givens c.in_ok-word.after.now c.in_ok-givens.rest.now) c.view_arguments.ensures.are
    c.in_ok-givens.ensures.ok in
    let is = c.viewed_of.ensures ∙ ap (viewed_of c.in_ok-word.word) c.number.ensures in
    subst (λ (viewed : Viewed). IsMadeOf (viewed_to_end viewed) c.args.bytes.now) (sym is)
    (view_read c.args.bytes.now c.in_ok-at_word.at_word.now c.in_ok-word.after.now c.in_ok-givens.rest.now c.skip_blanks.result.now c.in_ok-word.word
    c.in_ok-givens.givens c.in_ok-at_word.ensures.ok c.in_ok-word.ensures.ok reads c.skip_blanks.ensures c.in_ok-read_end.ensures.ok)

pub returns-clause-bounds : goal.returns-clause-bounds
returns-clause-bounds c =
    let reads = subst (λ (list : List Argument). Given list c.in_ok-givens.givens c.in_ok-word.after.now c.in_ok-givens.rest.now) c.view_arguments.ensures.are
    c.in_ok-givens.ensures.ok in
    let is = c.viewed_of.ensures ∙ ap (viewed_of c.in_ok-word.word) c.number.ensures in
    subst (λ (viewed : Viewed). AllByRecursion IsBounded (viewed_to_end viewed)) (sym is)
    (view_bounded c.in_ok-word.after.now c.in_ok-givens.rest.now c.skip_blanks.result.now c.in_ok-word.word c.in_ok-givens.givens reads c.skip_blanks.ensures)

pub returns-in_err-at_word-clause-ok : goal.returns-in_err-at_word-clause-ok
returns-in_err-at_word-clause-ok c = never_ok c.from_residual.result _ _ c.from_residual.ensures.1

pub returns-in_err-at_word-clause-bounds : goal.returns-in_err-at_word-clause-bounds
returns-in_err-at_word-clause-bounds c = never_ok c.from_residual.result _ _ c.from_residual.ensures.1

pub returns-in_err-word-clause-ok : goal.returns-in_err-word-clause-ok
returns-in_err-word-clause-ok c = never_ok c.from_residual-in_err-word.result _ _ c.from_residual-in_err-word.ensures.1

pub returns-in_err-word-clause-bounds : goal.returns-in_err-word-clause-bounds
returns-in_err-word-clause-bounds c = never_ok c.from_residual-in_err-word.result _ _ c.from_residual-in_err-word.ensures.1

pub returns-in_err-givens-clause-ok : goal.returns-in_err-givens-clause-ok
returns-in_err-givens-clause-ok c = never_ok c.from_residual-in_err-givens.result _ _ c.from_residual-in_err-givens.ensures.1

pub returns-in_err-givens-clause-bounds : goal.returns-in_err-givens-clause-bounds
returns-in_err-givens-clause-bounds c = never_ok c.from_residual-in_err-givens.result _ _ c.from_residual-in_err-givens.ensures.1

pub returns-in_err-read_end-clause-ok : goal.returns-in_err-read_end-clause-ok
returns-in_err-read_end-clause-ok c = never_ok c.from_residual-in_err-read_end.result _ _ c.from_residual-in_err-read_end.ensures.1

pub returns-in_err-read_end-clause-bounds : goal.returns-in_err-read_end-clause-bounds
returns-in_err-read_end-clause-bounds c = never_ok c.from_residual-in_err-read_end.result _ _ c.from_residual-in_err-read_end.ensures.1
