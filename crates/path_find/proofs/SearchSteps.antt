-- The steps of a search.
use Rattle.std.proofs.Common.{◌≡◌, ◌<◌, ◌≤◌, inl, inr, ℕ, zero, suc, ◌+◌, take, true, refl, sym, ap, ◌∙◌, arith}
use Rattle.std.proofs.lemmas.Bool.{cases_lt}
use Rattle.plain_graph.specs.Adjacency.{Adjacency}
use Rattle.path_find.specs.Growing.{Extends}
use Rattle.path_find.specs.Search.{AreNearer, IsFoundWithin, IsSearched}
use Rattle.path_find.specs.Tree.{IsTree, Rows, Spans, level_at, node_at, one_row, row_count}
use Rattle.path_find.proofs.Costs.{take_same}
use Rattle.path_find.proofs.TreeWalks.{level-rises}

-- ---- the first node alone

module _ (from : ℕ) where
  pub tree_begin : IsTree (one_row from) 0
  tree_begin = record {
    some = omega arith;
    parents = refl;
    levels = refl;
    root = refl;
    distinct = λ i j lt low. absurd (omega arith);
    grown = λ i pos low. absurd (omega arith);
    order = λ i j pos lt low. absurd (omega arith);
    early = λ i pos low. absurd (omega arith);
  }

  pub spans_begin : (near : Adjacency) → near.is_node from ≡ true → Spans near (one_row from) 0
  spans_begin near is = record {
    nodes = λ i low. by i low;
    edges = λ i pos low. absurd (omega arith);
    found = λ i node lt next. absurd (omega arith);
  }
    where
      by : (i : ℕ) → i < 1 → near.is_node (node_at (one_row from) i) ≡ true
      by zero low = is
      by (suc i) low = absurd (omega arith)

-- ---- on by one row

module _ (rows new : Rows) (at to : ℕ) (tree : IsTree rows at) (tree' : IsTree new (at + 1)) (low : at < row_count rows) (extends : Extends rows new at) where
  pub nearer_on : ((target : ℕ) → target < row_count rows → node_at rows target ≡ to → level_at rows at < level_at rows target) → AreNearer new (at + 1) to
  nearer_on before target i target_low is lt i_low =
      let up = level-rises rows at tree (level_at rows i) i at refl (omega (arith, lt)) low in
      let up_same = extends.levels i (omega (arith, lt, low)) in
      elim (cases_lt target (row_count rows)) [
        | inl old ↦
            let less = before target old (sym (extends.nodes target old) ∙ is) in
            let same = extends.levels target old in
            omega (arith, up, up_same, less, same)
        | inr late ↦
            let some = tree.some in
            let grown = (tree'.grown target (omega (arith, some)) target_low).level in
            let parent = ap (level_at new) (extends.later target late target_low) in
            let same = extends.levels at low in
            omega (arith, up, up_same, grown, parent, same)
      ]

  pub first_kept : take (at + 1) new.nodes ≡ take (at + 1) rows.nodes
  first_kept = let more = extends.more in take_same (at + 1) new.nodes rows.nodes (omega (arith, low, more)) (omega (arith, low))
      (λ i lt. extends.nodes i (omega (arith, lt, low)))

  pub first_on : (from : ℕ) → node_at rows 0 ≡ from → node_at new 0 ≡ from
  first_on from is = extends.nodes 0 tree.some ∙ is

-- a row with no neighbours
pub tree_past : (rows : Rows) (at : ℕ) → IsTree rows at → IsTree rows (at + 1)
tree_past rows at tree = record {
  some = tree.some;
  parents = tree.parents;
  levels = tree.levels;
  root = tree.root;
  distinct = tree.distinct;
  grown = tree.grown;
  order = tree.order;
  early = λ i pos lt. let early = tree.early i pos lt in omega (arith, early);
}

-- and it is nearer than the target
pub nearer_past : (rows : Rows) (at to : ℕ) → IsTree rows at → at < row_count rows
    → ((target : ℕ) → target < row_count rows → node_at rows target ≡ to → level_at rows at < level_at rows target) → AreNearer rows (at + 1) to
nearer_past rows at to tree low before target i target_low is lt i_low =
    let up = level-rises rows at tree (level_at rows i) i at refl (omega (arith, lt)) low in
    let less = before target target_low is in
    omega (arith, up, less)

-- ---- the end

module _ (rows : Rows) (at from to : ℕ) (tree : IsTree rows at) (first : node_at rows 0 ≡ from) (nearer : AreNearer rows at to) where
  -- all rows are done
  abbrev pub searched_all : row_count rows ≤ at → IsSearched rows from to
  searched_all all = record { done = at; tree = tree; first = first; nearer = nearer; left = λ i late low. absurd (omega arith) }

  -- or those nearer than the target
  abbrev pub searched_near : at < row_count rows → IsFoundWithin rows to (level_at rows at) → IsSearched rows from to
  searched_near low found = record {
    done = at;
    tree = tree;
    first = first;
    nearer = nearer;
    left = λ i late i_low. record {
      row = found.row;
      low = found.low;
      is = found.is;
      within = let within = found.within in let up = level-rises rows at tree (level_at rows at) at i refl late i_low in omega (arith, within, up);
    };
  }
