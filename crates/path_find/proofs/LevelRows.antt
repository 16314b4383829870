-- The levels of the rows of a search, in their order and by ascending identifier.
use Rattle.std.proofs.Common.{◌≡◌, ◌≢◌, ◌<◌, ℕ, nat_eq, Bool, false, List, length, get_or, Contains, sym, ap, subst, ◌∙◌, arith}
use Rattle.std.specs.List.Sorted.{IsNonDecreasingBy, IsPermutation}
use Rattle.std.proofs.lemmas.Bool.{eqb-false}
use Rattle.std.proofs.lemmas.Bool.Decides.{nat_tests}
use Rattle.std.proofs.lemmas.List.Elements.{Contains-get_or}
use Rattle.std.proofs.lemmas.List.Sorted.{Contains-permutation, IsPermutation-sym}
use Rattle.std.proofs.lemmas.Map.Keys.{IsDistinct-IsPermutation, IsDistinct-from_apart, apart_from_distinct}
use Rattle.plain_graph.specs.Levels.{level_of}
use Rattle.path_find.specs.Reading.{AreLevelsInOrder, AreLevelsOf, IsSomeTree, node_of}
use Rattle.path_find.specs.Tree.{Rows, row_count}
use Rattle.plain_graph.specs.declared.node_level.NodeLevel.{NodeLevel}

-- the two have one node
same_node : NodeLevel → NodeLevel → Bool
same_node a b = nat_eq a.node b.node

flips : (a b : NodeLevel) → same_node a b ≡ same_node b a
unfolding same_node
flips a b = grind (arith, nat_tests)

apart : (a b : ℕ) → a ≢ b → nat_eq a b ≡ false
apart a b h = grind (arith, nat_tests, h)

module _ (rows : Rows) where
  module _ (tree : IsSomeTree rows) (levels sorted : List NodeLevel) (are : AreLevelsInOrder rows (row_count rows) levels) (moved : IsPermutation levels sorted)
      (up : IsNonDecreasingBy node_of sorted) where
    differs : (i j : ℕ) (d : NodeLevel) → i < j → j < length levels → same_node (get_or levels i d) (get_or levels j d) ≡ false
    unfolding same_node
    differs i j d lt low =
        let long = are.long in
        let a = ap node_of (are.each i d (omega (arith, long))) in
        let b = ap node_of (are.each j d (omega (arith, long))) in
        apart (get_or levels i d).node (get_or levels j d).node (λ e. tree.tree.distinct i j lt (omega (arith, long)) (sym a ∙ e ∙ b))

    sorted_apart : (i j : ℕ) (d : NodeLevel) → i < j → j < length sorted → (get_or sorted i d).node ≢ (get_or sorted j d).node
    unfolding same_node
    sorted_apart i j d lt low = eqb-false _ _ (apart_from_distinct same_node sorted i j d (IsDistinct-IsPermutation same_node flips levels sorted moved
        (IsDistinct-from_apart same_node levels differs)) lt low)

    pub levels-sorted : AreLevelsOf rows sorted
    levels-sorted = record {
      ascend = λ i j d lt low. let ne = sorted_apart i j d lt low in let le = up i j d (omega arith) low in omega (arith, ne, le);
      only = λ level has.
          let there = Contains-permutation sorted levels level (IsPermutation-sym levels sorted moved) has in
          let low : there.0 < row_count rows = let lt = there.1 in let long = are.long in omega (arith, lt, long) in
          let is = sym (are.each there.0 level low) ∙ there.2 in
          record { row = there.0; low = low; node = ap node_of is; is = ap (λ (l : NodeLevel). l.level) is };
      all = λ i low.
          let d = level_of 0 0 in
          let here = Contains-get_or levels i d (let long = are.long in omega (arith, long)) in
          Contains-permutation levels sorted _ moved (subst (Contains levels) (are.each i d low) here);
    }
