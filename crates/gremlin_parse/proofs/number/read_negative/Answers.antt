use Rattle.std.proofs.Common.{◌∷◌, ℤ, sym, subst, rules, arith}
use Rattle.std.proofs.lemmas.Int.{to_z-of_z}
use Rattle.std.specs.Int.RustNames.{FitsSigned}
use mir.Syntax.{w64}
use Rattle.plain_graph.specs.declared.value.Value.TheVariants as values
use Rattle.gremlin_parse.specs.Symbols.{AnyValue, Reads, LeavesInteger}
use Rattle.gremlin_parse.proofs.Integers.{reads_negative, bad_negative}
use Rattle.gremlin_parse.proofs.number.read_negative.Goals as goal

pub returns-in-Some-value_of-clause-ok : goal.returns-in-Some-value_of-clause-ok
returns-in-Some-value_of-clause-ok c =
    let fits : FitsSigned w64 c.negated.result = search rules in
    let reads = reads_negative c.negated.result c.in-Some-value_of.size _ c.args.after.now c.in-Some.rest.now c.negated.ensures
    c.in-Some-value_of.ensures.some.0 c.in-Some-value_of.ensures.some.1 c.in-Some.ensures.some in
    subst (λ (z : ℤ). Reads AnyValue (values.Int z) (45 ∷ c.args.after.now) c.in-Some.rest.now) (sym (to_z-of_z w64 c.negated.result fits)) reads

pub returns-in-None-clause-err : goal.returns-in-None-clause-err
returns-in-None-clause-err c =
    subst (LeavesInteger (45 ∷ c.args.after.now)) (sym c.wide_number.ensures)
    (bad_negative _ _ c.args.after.now c.in-Some.rest.now c.in-Some.ensures.some c.in-None.ensures.none (omega arith))
