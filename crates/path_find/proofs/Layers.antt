-- A search by whole levels goes on by one.
use Rattle.std.proofs.Common.{◌≡◌, ◌<◌, ◌≤◌, inl, inr, ℕ, zero, suc, ◌+◌, refl, ◌∙◌, arith}
use Rattle.std.proofs.lemmas.Bool.{cases_lt}
use Rattle.path_find.specs.Growing.{Extends}
use Rattle.path_find.specs.Reach.{AreLayers, GrowsFrom}
use Rattle.path_find.specs.Tree.{IsTree, Rows, level_at, one_row, parent_at, row_count}
use Rattle.path_find.proofs.SearchSteps.{tree_begin}

-- the first node alone
pub layers_begin : (node : ℕ) → AreLayers (one_row node) 0 0
layers_begin node = record {
  tree = tree_begin node;
  within = omega arith;
  most = λ i low. by i low;
  below = λ i lt. absurd (omega arith);
  complete = λ i low less. absurd (omega arith);
}
  where
    by : (i : ℕ) → i < 1 → level_at (one_row node) i ≤ 0
    by zero low = omega arith
    by (suc i) low = absurd (omega arith)

-- ---- rows that stay

pub grows-none : (rows : Rows) (done : ℕ) → GrowsFrom rows rows done
grows-none rows done = record {
  more = omega arith;
  nodes = λ i lt. refl;
  levels = λ i lt. refl;
  later = λ i le lt. absurd (omega arith);
}

-- on by the neighbours of one more row
pub grows-on : (a b c : Rows) (done at : ℕ) → done ≤ at → GrowsFrom a b done → Extends b c at → GrowsFrom a c done
grows-on a b c done at past first then = record {
  more = let x = first.more in let y = then.more in omega (arith, x, y);
  nodes = λ i lt. let x = first.more in then.nodes i (omega (arith, x)) ∙ first.nodes i lt;
  levels = λ i lt. let x = first.more in then.levels i (omega (arith, x)) ∙ first.levels i lt;
  later = λ i le lt. elim (cases_lt i (row_count b)) [
    | inl low ↦ let same = then.parents i low in let old = first.later i le low in omega (arith, same, old)
    | inr ge ↦ let new = then.later i ge lt in omega (arith, new, past)
  ];
}

-- ---- a level more

module _ (old new : Rows) (done depth : ℕ) (layers : AreLayers old done depth) (tree : IsTree new (row_count old)) (grows : GrowsFrom old new done) where
  -- a new row has that level
  level_new : (i : ℕ) → row_count old ≤ i → i < row_count new → level_at new i ≡ depth + 1
  level_new i ge low =
      let some = layers.tree.some in
      let pos : 0 < i = omega (arith, some, ge) in
      let early = tree.early i pos low in
      let late = grows.later i ge low in
      let grown = (tree.grown i pos low).level in
      let same = grows.levels (parent_at new i) early in
      let most = layers.most (parent_at new i) early in
      elim (cases_lt (level_at old (parent_at new i)) depth) [
        | inl less ↦ let first = layers.complete (parent_at new i) early less in absurd (omega (arith, first, late))
        | inr at ↦ omega (arith, grown, same, most, at)
      ]

  pub layers_on : AreLayers new (row_count old) (depth + 1)
  layers_on = record {
    tree = tree;
    within = grows.more;
    most = λ i low. elim (cases_lt i (row_count old)) [
      | inl early ↦ let same = grows.levels i early in let most = layers.most i early in omega (arith, same, most)
      | inr late ↦ let is = level_new i late low in omega (arith, is)
    ];
    below = λ i early. let same = grows.levels i early in let most = layers.most i early in omega (arith, same, most);
    complete = λ i low less. elim (cases_lt i (row_count old)) [
      | inl early ↦ early
      | inr late ↦ let is = level_new i late low in absurd (omega (arith, is, less))
    ];
  }
