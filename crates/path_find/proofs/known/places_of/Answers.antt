use Rattle.std.proofs.Common.{◌≡◌, ◌+◌, ◌++◌, ◌∷◌, [], ℕ, Bool, true, false, not, cond, nat_eq, get_or, List, sym, ap, subst, ◌∙◌}
use Rattle.std.specs.List.{list_any}
use Rattle.std.proofs.lemmas.List.{get_or_default}
use Rattle.plain_graph.specs.Levels.{level_of}
use Rattle.path_find.proofs.KnownLevels.{AreSomePlaces, places_more, places_twice}
use Rattle.rec_bytes.proofs.Causes.{never_ok}
use Rattle.path_find.proofs.known.places_of.Goals as goal

not_true : (b : Bool) → not b ≡ true → b ≡ false
not_true true e = sym e
not_true false e = λ i. false

not_false : (b : Bool) → not b ≡ false → b ≡ true
not_false true e = λ i. true
not_false false e = sym e

pub returns-then-not-is_new-clause-none : goal.returns-then-not-is_new-clause-none
returns-then-not-is_new-clause-none c =
    let levels = c.args.levels.now in
    let index = c.loop-level.level-index in
    let row = get_or levels index (level_of 0 0) in
    let known = not_false (list_any (nat_eq row.node) c.loop-level.places) (sym c.in_ok-is_new.ensures.is_new ∙ c.if-not-is_new.true) in
    places_twice levels c.loop-level.places index c.loop-level.invariant c.loop-level-test.true row
    (λ d. get_or_default levels index d (level_of 0 0) c.loop-level-test.true) known

pub loop-level-preserved : goal.loop-level-preserved
loop-level-preserved c =
    let levels = c.args.levels.now in
    let index = c.loop-level.level-index in
    let row = get_or levels index (level_of 0 0) in
    let places = c.loop-level.places in
    let fresh = not_true (list_any (nat_eq row.node) places) (sym c.in_ok-is_new.ensures.is_new ∙ c.if-not-is_new.false) in
    let added = c.in_ok-is_new.ensures.added ∙ ap (λ b. cond b (places ++ row.node ∷ []) places) c.if-not-is_new.false in
    subst (λ (nodes : List ℕ). AreSomePlaces levels nodes (index + 1)) (sym added)
    (places_more levels places index c.loop-level.invariant c.loop-level-test.true row (λ d. get_or_default levels index d (level_of 0 0)
    c.loop-level-test.true) fresh)

pub returns-in_err-is_new-clause-some : goal.returns-in_err-is_new-clause-some
returns-in_err-is_new-clause-some c = never_ok c.from_residual.result _ _ c.from_residual.ensures.1

pub returns-in_err-is_new-clause-distinct : goal.returns-in_err-is_new-clause-distinct
returns-in_err-is_new-clause-distinct c = never_ok c.from_residual.result _ _ c.from_residual.ensures.1

pub returns-in_err-is_new-clause-none : goal.returns-in_err-is_new-clause-none
returns-in_err-is_new-clause-none c = never_ok c.from_residual.result _ _ c.from_residual.ensures.1
