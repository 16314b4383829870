-- What a search by breadth answers.
use Rattle.std.proofs.Common.{◌≡◌, ◌<◌, ◌≤◌, ◌⊎◌, inl, inr, ℕ, ◌+◌, List, [], ◌∷◌, length, Contains, refl, sym, ap, subst, ◌∙◌, arith}
use Rattle.std.proofs.lemmas.Bool.{cases_lt}
use Rattle.std.proofs.lemmas.List.Elements.{Contains-get_or}
use Rattle.plain_graph.specs.Adjacency.{Adjacency}
use Rattle.plain_graph.specs.Reached.{HoldReached, IsAnswer}
use Rattle.plain_graph.specs.Levels.{HasLevel, level_of}
use Rattle.path_find.specs.Reading.{AreLevelsOf}
use Rattle.path_find.specs.Search.{IsSearched}
use Rattle.path_find.specs.Tree.{Rows, Spans, level_at, node_at, parent_at, row_count, way_to}
use Rattle.plain_graph.specs.Walks.{HasNoWalk, IsDistance, IsNotAfter, IsShortest, IsWalk, LeadsTo}
use Rattle.plain_graph.specs.declared.node_level.NodeLevel.{NodeLevel}
use Rattle.path_find.proofs.TreeWalks.{length-way_to, level-least, one_row, reached, way_to-leads, way_to-least}

module _ (near : Adjacency) (rows : Rows) (from to : ℕ) (searched : IsSearched rows from to) (spans : Spans near rows searched.done) where
  -- up to a level the neighbours of all rows are found
  abbrev pub IsComplete : ℕ → Type 0
  IsComplete most = (i : ℕ) → i < row_count rows → level_at rows i < most → i < searched.done

  -- the nodes of the walk to a row
  abbrev pub row_walk : ℕ → List ℕ
  row_walk i = node_at rows 0 ∷ way_to rows (level_at rows i) i

  row_leads : (i : ℕ) → i < row_count rows → IsWalk near from (node_at rows i) (row_walk i)
  row_leads i low = (searched.first, way_to-leads rows searched.done searched.tree near spans (level_at rows i) i low refl)

  -- a walk from the first node on leads from the first row
  from_root : (first : ℕ) (later : List ℕ) (node : ℕ) → first ≡ from → LeadsTo near first later node → LeadsTo near (node_at rows 0) later node
  from_root first later node is leads = subst (λ n. LeadsTo near n later node) (is ∙ sym searched.first) leads

  row_shortest : (i : ℕ) → i < row_count rows → ((n : ℕ) → IsComplete n ⊎ (level_at rows i ≤ n)) → IsShortest near from (node_at rows i) (row_walk i)
  row_shortest i low bound = record {
    leads = row_leads i low;
    least = λ other walk. least other walk;
  }
    where
      least : (other : List ℕ) → IsWalk near from (node_at rows i) other → length (row_walk i) ≤ length other
      least [] walk = absurd walk
      least (first ∷ later) walk =
          let long = length-way_to rows searched.done searched.tree (level_at rows i) i in
          elim (bound (length later)) [
            | inl complete ↦
                let most = level-least rows searched.done searched.tree near spans (length later) complete i later low
                (from_root first later (node_at rows i) walk.0 walk.1) (omega arith) in
                omega (arith, long, most)
            | inr le ↦ omega (arith, long, le)
          ]

  row_distance : (i : ℕ) → i < row_count rows → ((n : ℕ) → IsComplete n ⊎ (level_at rows i ≤ n)) → IsDistance near from (node_at rows i) (level_at rows i)
  row_distance i low bound = record {
    walk = row_walk i;
    shortest = row_shortest i low bound;
    long = let long = length-way_to rows searched.done searched.tree (level_at rows i) i in omega (arith, long);
  }

  -- where a walk leads there is a row
  record HasRow (node : ℕ) : Type 0 where
    row : ℕ
    low : row < row_count rows
    is : node_at rows row ≡ node

  walked : (node first : ℕ) (later : List ℕ) → IsComplete (length later) → IsWalk near from node (first ∷ later) → HasRow node
  walked node first later complete walk =
      let root = searched.tree.root in
      let there = reached rows searched.done searched.tree near spans (length later) complete later (node_at rows 0) node 0 searched.tree.some refl
      (from_root first later node walk.0 walk.1) (omega (arith, root)) in
      record { row = there.row; low = there.low; is = there.is }

  module _ (levels : List NodeLevel) (are : AreLevelsOf rows levels) (IsAllowed : ℕ → Type 0)
      (allowed : (i : ℕ) → i < row_count rows → IsAllowed (level_at rows i)) (full : (n : ℕ) → IsAllowed n → IsComplete n)
      (bound : (i : ℕ) → i < row_count rows → (n : ℕ) → IsComplete n ⊎ (level_at rows i ≤ n)) where
    all_held : (node edges : ℕ) (walk : List ℕ) → IsWalk near from node walk → length walk ≡ edges + 1 → IsAllowed edges → HasLevel levels node
    all_held node edges [] walk long may = absurd walk
    all_held node edges (first ∷ later) walk long may =
        let same : edges ≡ length later = omega (arith, long) in
        let there = walked node first later (full (length later) (subst IsAllowed same may)) walk in
        (level_at rows there.row, subst (λ n. Contains levels (level_of n (level_at rows there.row))) there.is (are.all there.row there.low))

    pub held : HoldReached near from IsAllowed levels
    held = record {
      ascend = are.ascend;
      each = λ level has.
          let at = are.only level has in (
            subst IsAllowed at.is (allowed at.row at.low),
            subst (λ n. IsDistance near from n level.level) at.node (subst (IsDistance near from (node_at rows at.row)) at.is (row_distance at.row at.low
                (bound at.row at.low))),
          );
      all = all_held;
    }

  -- ---- the target is found

  module _ (goal : ℕ) (low : goal < row_count rows) (is : node_at rows goal ≡ to) where
    goal_complete : IsComplete (level_at rows goal)
    goal_complete i lt less = elim (cases_lt i searched.done) [
      | inl early ↦ early
      | inr late ↦
          let found = searched.left i late lt in
          let same = ap (level_at rows) (one_row rows searched.done searched.tree found.row goal found.low low (found.is ∙ sym is)) in
          let within = found.within in
          absurd (omega (arith, same, within))
    ]

    goal_most : (i : ℕ) → i < row_count rows → level_at rows i ≤ level_at rows goal
    goal_most i lt = elim (cases_lt 0 i) [
      | inl pos ↦
          let grown = searched.tree.grown i pos lt in
          let earlier = grown.earlier in
          let level = grown.level in
          let nearer = searched.nearer goal (parent_at rows i) low is (searched.tree.early i pos lt) (omega (arith, earlier, lt)) in
          omega (arith, nearer, level)
      | inr le ↦ let none : i ≡ 0 = omega arith in let same = ap (level_at rows) none in let root = searched.tree.root in omega (arith, same, root)
    ]

    goal_bound : (i : ℕ) → i < row_count rows → (n : ℕ) → IsComplete n ⊎ (level_at rows i ≤ n)
    goal_bound i lt n = elim (cases_lt (level_at rows goal) n) [
      | inl more ↦ let most = goal_most i lt in inr (omega (arith, most))
      | inr le ↦ inl (λ j j_lt less. goal_complete j j_lt (omega arith))
    ]

    goal_first : (other : List ℕ) → IsWalk near from to other → length other ≡ length (row_walk goal) → IsNotAfter (row_walk goal) other
    goal_first [] walk long = absurd walk
    goal_first (first ∷ later) walk long =
        let mine = length-way_to rows searched.done searched.tree (level_at rows goal) goal in
        let leads = subst (LeadsTo near (node_at rows 0) later) (sym is) (from_root first later to walk.0 walk.1) in
        inr (
          searched.first ∙ sym walk.0,
          way_to-least rows searched.done searched.tree near spans (level_at rows goal) goal_complete (level_at rows goal) goal later low refl (omega arith)
              leads (omega (arith, mine, long)),
        )

    -- the way to it is the answer
    pub found_answer : (levels : List NodeLevel) → AreLevelsOf rows levels → IsAnswer near from to (row_walk goal) levels
    found_answer levels are =
        let long = length-way_to rows searched.done searched.tree (level_at rows goal) goal in (
          record {
            shortest = subst (λ n. IsShortest near from n (row_walk goal)) is (row_shortest goal low (goal_bound goal low));
            first = goal_first;
          },
          held levels are (λ edges. edges ≤ length (way_to rows (level_at rows goal) goal))
              (λ i lt. let most = goal_most i lt in omega (arith, most, long))
              (λ n le i lt less. goal_complete i lt (omega (arith, long, le)))
              goal_bound,
        )

  -- ---- it is not found

  module _ (none : ¬ Contains rows.nodes to) where
    none_complete : (n : ℕ) → IsComplete n
    none_complete n i lt less = elim (cases_lt i searched.done) [
      | inl early ↦ early
      | inr late ↦ let found = searched.left i late lt in absurd (none (subst (Contains rows.nodes) found.is (Contains-get_or rows.nodes found.row 0
          found.low)))
    ]

    none_leads : HasNoWalk near from to
    none_leads [] walk = walk
    none_leads (first ∷ later) walk = let there = walked to first later (none_complete (length later)) walk in
        none (subst (Contains rows.nodes) there.is (Contains-get_or rows.nodes there.row 0 there.low))

    -- there is no walk
    pub no_answer : (levels : List NodeLevel) → AreLevelsOf rows levels → IsAnswer near from to [] levels
    no_answer levels are = (none_leads, held levels are (λ edges. Unit {0}) (λ i lt. tt) (λ n may. none_complete n) (λ i lt n. inl (none_complete n)))
