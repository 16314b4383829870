use Rattle.std.proofs.Common.{List, ℕ, sym, subst, ◌∙◌}
use Rattle.std.proofs.lemmas.Result.{err_from_is_err_and, IfOk-weaker, IfErr-weaker}
use Rattle.gremlin_parse.specs.Symbols.{AnyValue, Reads, Leaves}
use Rattle.gremlin_parse.specs.Values.{value_of}
use Rattle.gremlin_parse.proofs.Runs.{first_and_rest}
use Rattle.gremlin_parse.proofs.Words.{truth_read}
use Rattle.gremlin_parse.proofs.Values.{integer_leaves, truth_leaves}
use Rattle.gremlin_parse.proofs.Exits.{never_ok}
use Rattle.gremlin_parse.proofs.value.read_value.Goals as goal

pub returns-then-is_quote-clause-ok : goal.returns-then-is_quote-clause-ok
returns-then-is_quote-clause-ok c =
    let bytes_are = first_and_rest c.args.bytes.now c.in-len1-up.len_at_least in
    IfOk-weaker c.read_text.result _ _
    (λ r reads. subst (λ (bytes : List ℕ). Reads AnyValue (value_of r.0) bytes r.1.now) (sym bytes_are) reads)
    c.read_text.ensures.ok

pub returns-then-is_quote-clause-err : goal.returns-then-is_quote-clause-err
returns-then-is_quote-clause-err c =
    let bytes_are = first_and_rest c.args.bytes.now c.in-len1-up.len_at_least in
    IfErr-weaker c.read_text.result _ _
    (λ stop at. subst (λ (bytes : List ℕ). Leaves AnyValue bytes stop) (sym bytes_are) at)
    c.read_text.ensures.err

pub returns-clause-ok : goal.returns-clause-ok
returns-clause-ok c = truth_read c.args.bytes.now c.in_ok-truth.rest.now c.in_ok-truth.truth c.in_ok-truth.ensures.ok

pub returns-in_err-number-clause-err : goal.returns-in_err-number-clause-err
returns-in_err-number-clause-err c =
    let p = err_from_is_err_and c.from_residual.result c.from_residual.ensures.1 in
    rw (p.1, p.2) (integer_leaves c.args.bytes.now c.in_err-number.field-0.0 c.in-len1-up.len_at_least (sym c.is_integer_start.ensures
    ∙ c.if-is_integer_start.true) c.in_err-number.ensures.err)

pub returns-in_err-truth-clause-err : goal.returns-in_err-truth-clause-err
returns-in_err-truth-clause-err c =
    let p = err_from_is_err_and c.from_residual-in_err-truth.result c.from_residual-in_err-truth.ensures.1 in
    rw (p.1, p.2) (truth_leaves c.args.bytes.now c.in_err-truth.field-0.0 c.in-len1-up.len_at_least (sym c.is_quote.ensures ∙ c.if-is_quote.false)
    (sym c.is_integer_start.ensures ∙ c.if-is_integer_start.false) c.in_err-truth.ensures.err)

pub returns-in_err-number-clause-ok : goal.returns-in_err-number-clause-ok
returns-in_err-number-clause-ok c = never_ok c.from_residual.result _ _ c.from_residual.ensures.1

pub returns-in_err-truth-clause-ok : goal.returns-in_err-truth-clause-ok
returns-in_err-truth-clause-ok c = never_ok c.from_residual-in_err-truth.result _ _ c.from_residual-in_err-truth.ensures.1
