use Rattle.std.proofs.Common.{arith, ◌≡◌, ℕ, ◌+◌, ◌<◌, true, false, cond, None, Some, List, length, drop, get_or, ap, sym, ◌∙◌}
use Rattle.std.specs.List.{list_any}
use Rattle.std.proofs.lemmas.List.{at_drop_all, at_drop_more}
use Rattle.index_check.specs.Definitions.{are_twins, twin_in}
use Rattle.index_check.specs.declared.definitions.Definition.{Definition}
use Rattle.index_check.proofs.definitions.find_twin.Goals as goal

abbrev blank : Definition
blank = record { id = 0; label = 0; key = 0 }

-- the definition at a place, and those after it
twin_step : (all : List Definition) (i : ℕ) (d : Definition) → i < length all
    → twin_in all (drop i all) ≡ cond (list_any (are_twins (get_or all i d)) all) (Some (get_or all i d).id) (twin_in all (drop (i + 1) all))
unfolding twin_in
twin_step all i d lt = at_drop_more (twin_in all) all i d lt

twin_end : (all : List Definition) (i : ℕ) → length all ≡ i → twin_in all (drop i all) ≡ None
unfolding twin_in
twin_end all i e = at_drop_all (twin_in all) all i (omega arith)

pub returns-then-has_twin : goal.returns-then-has_twin
returns-then-has_twin c =
    let all = c.args.definitions.now in
    let i = c.loop-definition.definition-index in
    let found : list_any (are_twins (get_or all i blank)) all ≡ true = sym c.has_twin.ensures ∙ c.if-has_twin.true in
    sym (ap (λ b. cond b (Some (get_or all i blank).id) (twin_in all (drop (i + 1) all))) found)
    ∙ sym (twin_step all i blank c.loop-definition-test.true) ∙ c.loop-definition.invariant

pub loop-definition-preserved : goal.loop-definition-preserved
loop-definition-preserved c =
    let all = c.args.definitions.now in
    let i = c.loop-definition.definition-index in
    let none : list_any (are_twins (get_or all i blank)) all ≡ false = sym c.has_twin.ensures ∙ c.if-has_twin.false in
    sym (ap (λ b. cond b (Some (get_or all i blank).id) (twin_in all (drop (i + 1) all))) none)
    ∙ sym (twin_step all i blank c.loop-definition-test.true) ∙ c.loop-definition.invariant

pub returns : goal.returns
returns c =
    let all = c.args.definitions.now in
    let i = c.loop-definition.definition-index in
    sym (twin_end all i (omega arith)) ∙ c.loop-definition.invariant
