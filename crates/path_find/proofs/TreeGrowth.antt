-- A search goes on by one node.
use Rattle.std.proofs.Common.{◌≡◌, ◌≢◌, ◌<◌, ◌≤◌, ◌⊎◌, inl, inr, ℕ, suc, ◌+◌, nat_eq, Bool, true, false, cond, List, []}
use Rattle.std.proofs.Common.{◌∷◌, length, slice_index, Contains, refl, sym, ap, subst, ◌∙◌, arith}
use Rattle.std.specs.List.{list_any}
use Rattle.std.specs.List.Sorted.{IsNonDecreasing}
use Rattle.std.proofs.lemmas.Bool.{cases_lt}
use Rattle.std.proofs.lemmas.Cmp.{nat_eq_equiv}
use Rattle.std.proofs.lemmas.List.{get_or_append_left, get_or_push, length_push}
use Rattle.std.proofs.lemmas.List.Elements.{Contains-get_or, at_from_Contains}
use Rattle.std.proofs.lemmas.List.Folds.{list_any_at}
use Rattle.indexmap.proofs.CallerLemmas.{Contains-list_any}
use borrow.Author.Tests.{eqb-true}
use Rattle.plain_graph.specs.Adjacency.{Adjacency}
use Rattle.path_find.specs.Growing.{Extends, IsGrowing, IsSpanning}
use Rattle.path_find.specs.Tree.{AreNeighbours, IsBefore, IsFoundBy, IsGrown, IsTree, Rows, Spans, level_at, node_at, parent_at, row_count, with_node, with_row}

clash : true ≡ false → ⊥
clash e = cc

-- ---- rows that stay

pub extends-none : (rows : Rows) (at : ℕ) → Extends rows rows at
extends-none rows at = record {
  more = omega arith;
  nodes = λ i lt. refl;
  parents = λ i lt. refl;
  levels = λ i lt. refl;
  later = λ i le lt. absurd (omega arith);
}

pub extends-on : (a b c : Rows) (at : ℕ) → Extends a b at → Extends b c at → Extends a c at
extends-on a b c at first then = record {
  more = let x = first.more in let y = then.more in omega (arith, x, y);
  nodes = λ i lt. let x = first.more in then.nodes i (omega (arith, x)) ∙ first.nodes i lt;
  parents = λ i lt. let x = first.more in then.parents i (omega (arith, x)) ∙ first.parents i lt;
  levels = λ i lt. let x = first.more in then.levels i (omega (arith, x)) ∙ first.levels i lt;
  later = λ i le lt. elim (cases_lt i (row_count b)) [
    | inl low ↦ then.parents i low ∙ first.later i le low
    | inr ge ↦ then.later i ge lt
  ];
}

-- ---- one more row

module _ (rows : Rows) (at : ℕ) (ends : List ℕ) (given : ℕ) (grows : IsGrowing rows at ends given) (node level : ℕ)
    (is_level : level ≡ level_at rows at + 1) where
  new : Rows
  new = with_row rows node at level

  nodes_kept : (i : ℕ) → i < row_count rows → node_at new i ≡ node_at rows i
  unfolding new
  nodes_kept i lt = get_or_append_left rows.nodes (node ∷ []) 0 i lt

  parents_kept : (i : ℕ) → i < row_count rows → parent_at new i ≡ parent_at rows i
  unfolding new
  parents_kept i lt = let long = grows.tree.parents in get_or_append_left rows.parents (at ∷ []) 0 i (omega (arith, long))

  levels_kept : (i : ℕ) → i < row_count rows → level_at new i ≡ level_at rows i
  unfolding new
  levels_kept i lt = let long = grows.tree.levels in get_or_append_left rows.levels (level ∷ []) 0 i (omega (arith, long))

  node_last : (i : ℕ) → row_count rows ≡ i → node_at new i ≡ node
  unfolding new
  node_last i is = get_or_push rows.nodes node 0 i is

  parent_last : (i : ℕ) → row_count rows ≡ i → parent_at new i ≡ at
  unfolding new
  parent_last i is = get_or_push rows.parents at 0 i (grows.tree.parents ∙ is)

  level_last : (i : ℕ) → row_count rows ≡ i → level_at new i ≡ level
  unfolding new
  level_last i is = get_or_push rows.levels level 0 i (grows.tree.levels ∙ is)

  count_more : row_count new ≡ row_count rows + 1
  unfolding new
  count_more = length_push rows.nodes node

  parents_more : length new.parents ≡ row_count new
  unfolding new
  parents_more = let long = grows.tree.parents in let a = length_push rows.parents at in let b = length_push rows.nodes node in omega (arith, long, a, b)

  levels_more : length new.levels ≡ row_count new
  unfolding new
  levels_more = let long = grows.tree.levels in let a = length_push rows.levels level in let b = length_push rows.nodes node in omega (arith, long, a, b)

  -- an old row or the new one
  old_or_last : (i : ℕ) → i < row_count new → (i < row_count rows) ⊎ (row_count rows ≡ i)
  old_or_last i lt = let more = count_more in elim (cases_lt i (row_count rows)) [ inl low ↦ inl low | inr ge ↦ inr (omega (arith, more)) ]

  extends_one : Extends rows new at
  extends_one = record {
    more = let more = count_more in omega (arith, more);
    nodes = nodes_kept;
    parents = parents_kept;
    levels = levels_kept;
    later = λ i le lt. let more = count_more in parent_last i (omega (arith, more));
  }

  module _ (fresh : list_any (nat_eq node) rows.nodes ≡ false) (after : (i : ℕ) → 0 < i → i < row_count rows → parent_at rows i ≡ at → node_at rows i ≤ node)
    where
      other : (i : ℕ) → i < row_count rows → node_at rows i ≢ node
      other i lt same =
          let same_back : node ≡ node_at rows i = sym same in
          clash (sym (list_any_at (nat_eq node) rows.nodes i 0 lt (subst (λ n. nat_eq node n ≡ true) same_back (nat_eq_equiv.refl node))) ∙ fresh)

      row_grown : (i : ℕ) → 0 < i → i < row_count new → IsGrown new i
      row_grown i pos lt = elim (old_or_last i lt) [
        | inl low ↦
            let old = grows.tree.grown i pos low in
            let earlier = old.earlier in
            let parent = parents_kept i low in
            let up : level_at new (parent_at new i) ≡ level_at rows (parent_at rows i) = ap (level_at new) parent
            ∙ levels_kept (parent_at rows i) (omega (arith, earlier)) in
            record { earlier = omega (arith, earlier, parent); level = levels_kept i low ∙ old.level ∙ ap suc (sym up) }
        | inr last ↦
            let parent = parent_last i last in
            let low = grows.low in
            let up : level_at new (parent_at new i) ≡ level_at rows at = ap (level_at new) parent ∙ levels_kept at low in
            let mine = level_last i last in
            record { earlier = omega (arith, parent, low); level = omega (arith, mine, up, is_level) }
      ]

      row_order : (i j : ℕ) → 0 < i → i < j → j < row_count new → IsBefore new i j
      row_order i j pos lt low = elim (old_or_last j low) [
        | inl old ↦
            let a = parents_kept i (omega arith) in
            let b = parents_kept j old in
            let x = nodes_kept i (omega arith) in
            let y = nodes_kept j old in
            elim (grows.tree.order i j pos lt old) [
              | inl below ↦ inl (omega (arith, a, b))
              | inr same ↦ let e = same.0 in let less = same.1 in inr (omega (arith, a, b, e), omega (arith, x, y, less))
            ]
        | inr last ↦
            let a = parents_kept i (omega arith) in
            let b = parent_last j last in
            let x = nodes_kept i (omega arith) in
            let y = node_last j last in
            let early = grows.tree.early i pos (omega arith) in
            elim (cases_lt (parent_at rows i) at) [
              | inl below ↦ inl (omega (arith, a, b))
              | inr ge ↦
                  let same : parent_at rows i ≡ at = omega (arith, early) in
                  let most = after i pos (omega arith) same in
                  let differ = other i (omega arith) in
                  inr (omega (arith, a, b, same), omega (arith, x, y, most, differ))
            ]
      ]

      row_distinct : (i j : ℕ) → i < j → j < row_count new → node_at new i ≢ node_at new j
      row_distinct i j lt low same = elim (old_or_last j low) [
        | inl old ↦ grows.tree.distinct i j lt old (sym (nodes_kept i (omega arith)) ∙ same ∙ nodes_kept j old)
        | inr last ↦ other i (omega arith) (sym (nodes_kept i (omega arith)) ∙ same ∙ node_last j last)
      ]

      tree_kept : IsTree new (at + 1)
      tree_kept = record {
        some = let more = count_more in omega (arith, more);
        parents = parents_more;
        levels = levels_more;
        root = levels_kept 0 grows.tree.some ∙ grows.tree.root;
        distinct = row_distinct;
        grown = row_grown;
        order = row_order;
        early = λ i pos low. elim (old_or_last i low) [
          | inl old ↦ let a = parents_kept i old in let b = grows.tree.early i pos old in omega (arith, a, b)
          | inr last ↦ let a = parent_last i last in omega (arith, a)
        ];
      }

      row_found : (last found : ℕ) → IsFoundBy rows last found → IsFoundBy new last found
      row_found last found old = record {
        row = old.row;
        low = let low = old.low in let more = count_more in omega (arith, low, more);
        is = nodes_kept old.row old.low ∙ old.is;
        by = elim old.by [ inl none ↦ inl none | inr le ↦ let a = parents_kept old.row old.low in inr (omega (arith, a)) ];
      }

      last_found : IsFoundBy new at node
      last_found = record {
        row = row_count rows;
        low = let more = count_more in omega (arith, more);
        is = node_last (row_count rows) refl;
        by = let a = parent_last (row_count rows) refl in inr (omega (arith, a));
      }

      spans_kept : (near : Adjacency) → Spans near rows at → near.is_node node ≡ true → Contains (near.next (node_at rows at)) node → Spans near new at
      spans_kept near spans is_node next = record {
        nodes = λ i low. elim (old_or_last i low) [
          | inl old ↦ subst (λ n. near.is_node n ≡ true) (sym (nodes_kept i old)) (spans.nodes i old)
          | inr last ↦ subst (λ n. near.is_node n ≡ true) (sym (node_last i last)) is_node
        ];
        edges = λ i pos low. elim (old_or_last i low) [
          | inl old ↦
              let earlier = (grows.tree.grown i pos old).earlier in
              let up : node_at new (parent_at new i) ≡ node_at rows (parent_at rows i) = ap (node_at new) (parents_kept i old)
              ∙ nodes_kept (parent_at rows i) (omega (arith, earlier)) in
              subst (λ n. Contains (near.next n) (node_at new i)) (sym up)
              (subst (Contains (near.next (node_at rows (parent_at rows i)))) (sym (nodes_kept i old)) (spans.edges i pos old))
          | inr last ↦
              let up : node_at new (parent_at new i) ≡ node_at rows at = ap (node_at new) (parent_last i last) ∙ nodes_kept at grows.low in
              subst (λ n. Contains (near.next n) (node_at new i)) (sym up) (subst (Contains (near.next (node_at rows at))) (sym (node_last i last)) next)
        ];
        found = λ i end lt next'. let low = grows.low in row_found i end (spans.found i end lt (subst (λ n. Contains (near.next n) end)
            (nodes_kept i (omega (arith, low))) next'));
      }

      before_kept : IsNonDecreasing ends → (k : ℕ) → k < length ends → slice_index ends k ≡ node → given ≡ k → (i : ℕ) → 0 < i → i < row_count new
          → parent_at new i ≡ at → (j : ℕ) → k + 1 ≤ j → j < length ends → node_at new i ≤ slice_index ends j
      before_kept ascend k in_ends is here i pos low from j le short = elim (old_or_last i low) [
        | inl old ↦
            let x = nodes_kept i old in
            let most = grows.before i pos old (sym (parents_kept i old) ∙ from) j (omega arith) short in
            omega (arith, x, most)
        | inr last ↦
            let x = node_last i last in
            let less = ascend k j 0 (omega arith) short in
            omega (arith, x, less, is)
      ]

-- ---- a node that may be there

-- what the next neighbour leaves
pub record IsStep (old new : Rows) (at : ℕ) (ends : List ℕ) (given : ℕ) : Type 0 where
  pub grows : IsGrowing new at ends (given + 1)
  pub extends : Extends old new at
  pub spans : (near : Adjacency) → AreNeighbours near (node_at old at) ends → IsSpanning near old at ends given → IsSpanning near new at ends (given + 1)

module _ (rows : Rows) (at : ℕ) (ends : List ℕ) (given : ℕ) (grows : IsGrowing rows at ends given) (level : ℕ)
    (is_level : level ≡ level_at rows at + 1) (ascend : IsNonDecreasing ends) (short : given < length ends) (node : ℕ) (is : slice_index ends given ≡ node)
  where
    found_more : (new : Rows) → ((j : ℕ) → j < given → IsFoundBy new at (slice_index ends j)) → IsFoundBy new at node → (j : ℕ) → j < given + 1
        → IsFoundBy new at (slice_index ends j)
    found_more new found last j lt = elim (cases_lt j given) [
      | inl less ↦ found j less
      | inr ge ↦ let here : j ≡ given = omega arith in subst (IsFoundBy new at) (sym (ap (slice_index ends) here ∙ is)) last
    ]

    step_new : list_any (nat_eq node) rows.nodes ≡ false → IsStep rows (with_row rows node at level) at ends given
    unfolding new
    step_new fresh =
        let after : (i : ℕ) → 0 < i → i < row_count rows → parent_at rows i ≡ at
        → node_at rows i ≤ node = λ i pos low from. let most = grows.before i pos low from given (omega arith) short in omega (arith, most, is) in
        record {
          grows = record {
            tree = tree_kept rows at ends given grows node level is_level fresh after;
            low = let low = grows.low in let more = count_more rows at ends given grows node level is_level in omega (arith, low, more);
            before = before_kept rows at ends given grows node level is_level fresh after ascend given short is refl;
          };
          extends = extends_one rows at ends given grows node level is_level;
          spans = λ near are old.
              let here = subst (Contains ends) is (Contains-get_or ends given 0 short) in
              record {
                spans = spans_kept rows at ends given grows node level is_level fresh after near old.spans (are.nodes node here) (are.only node here);
                found = found_more (with_row rows node at level)
                    (λ j lt. row_found rows at ends given grows node level is_level fresh after at (slice_index ends j) (old.found j lt))
                    (last_found rows at ends given grows node level is_level fresh after);
              };
        }

    step_old : list_any (nat_eq node) rows.nodes ≡ true → IsStep rows rows at ends given
    step_old known =
        record {
          grows = record {
            tree = grows.tree;
            low = grows.low;
            before = λ i pos low from j le lt. grows.before i pos low from j (omega arith) lt;
          };
          extends = extends-none rows at;
          spans = λ near are old.
              let there = at_from_Contains rows.nodes node (Contains-list_any nat_eq eqb-true rows.nodes node known) in
              record {
                spans = old.spans;
                found = found_more rows old.found (record {
                  row = there.0;
                  low = there.1;
                  is = there.2 0;
                  by = elim (cases_lt 0 there.0) [
                    | inl pos ↦ let early = grows.tree.early there.0 pos there.1 in inr (omega (arith, early))
                    | inr le ↦ inl (omega arith)
                  ];
                });
              };
        }

    pub step : IsStep rows (with_node rows node at level) at ends given
    step = by (list_any (nat_eq node) rows.nodes) refl
      where
        by : (known : Bool) → list_any (nat_eq node) rows.nodes ≡ known → IsStep rows (cond known rows (with_row rows node at level)) at ends given
        by true is_known = step_old is_known
        by false is_known = step_new is_known

-- ---- begin and end

-- a row that has given none of its neighbours
pub growing-begin : (rows : Rows) (at : ℕ) (ends : List ℕ) → IsTree rows at → at < row_count rows → IsGrowing rows at ends 0
growing-begin rows at ends tree low = record {
  tree = record {
    some = tree.some;
    parents = tree.parents;
    levels = tree.levels;
    root = tree.root;
    distinct = tree.distinct;
    grown = tree.grown;
    order = tree.order;
    early = λ i pos lt. let early = tree.early i pos lt in omega (arith, early);
  };
  low = low;
  before = λ i pos lt from j le short. let early = tree.early i pos lt in absurd (omega (arith, early, from));
}

pub spanning-begin : (near : Adjacency) (rows : Rows) (at : ℕ) (ends : List ℕ) → Spans near rows at → IsSpanning near rows at ends 0
spanning-begin near rows at ends spans = record { spans = spans; found = λ j lt. absurd (omega arith) }

-- one that has given all
pub spanning-end : (near : Adjacency) (rows : Rows) (at : ℕ) (ends : List ℕ) → IsSpanning near rows at ends (length ends)
    → AreNeighbours near (node_at rows at) ends → Spans near rows (at + 1)
spanning-end near rows at ends all are = record {
  nodes = all.spans.nodes;
  edges = all.spans.edges;
  found = λ i end lt next. elim (cases_lt i at) [
    | inl less ↦ all.spans.found i end less next
    | inr ge ↦
        let here : i ≡ at = omega arith in
        let there = at_from_Contains ends end (are.all end (subst (λ k. Contains (near.next (node_at rows k)) end) here next)) in
        subst (λ k. IsFoundBy rows k end) (sym here) (subst (IsFoundBy rows at) (there.2 0) (all.found there.0 there.1))
  ];
}
