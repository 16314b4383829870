use Rattle.std.proofs.Common.{◌≡◌, ◌<◌, ◌^◌, ℕ, nat_eq, true, List, All, arith}
use Rattle.std.specs.List.{list_any}
use Rattle.std.proofs.lemmas.Map.Steps.{length-le_from_distinct_below}
use Rattle.std.proofs.lemmas.List.Elements.{All-contains}
use Rattle.indexmap.proofs.CallerLemmas.{Contains-list_any}
use borrow.Author.Tests.{eqb-true}
use Rattle.path_find.proofs.tree.Tree.len.Goals as goal

below : (nodes : List ℕ) → All (λ node. node < 2 ^ 32) nodes → (q : ℕ) → list_any (nat_eq q) nodes ≡ true → q < 2 ^ 32
below nodes all q has = All-contains (λ x. x < 2 ^ 32) nodes q all (Contains-list_any nat_eq eqb-true nodes q has)

pub returns-clause-few : goal.returns-clause-few
returns-clause-few c =
    let few = length-le_from_distinct_below c.self.inside.nodes.keys (2 ^ 32) c.len.ensures.unique (below c.self.inside.nodes.keys c.self.invariant) in
    let is = c.len.ensures.len in
    omega (arith, few, is)
