-- What the rows of a search by breadth say of walks.
use Rattle.std.proofs.Common.{◌≡◌, ◌<◌, ◌≤◌, ◌⊎◌, inl, inr, ℕ, zero, suc, ◌+◌, List, [], ◌∷◌, ◌++◌, length, Contains, refl, sym, ap, subst, ◌∙◌, arith}
use Rattle.std.proofs.lemmas.Bool.{cases_lt}
use Rattle.std.proofs.lemmas.List.{length_push}
use Rattle.plain_graph.specs.Adjacency.{Adjacency}
use Rattle.path_find.specs.Tree.{IsTree, Rows, Spans, level_at, node_at, parent_at, row_count, way_to}
use Rattle.plain_graph.specs.Walks.{IsNotAfter, LeadsTo}
use Rattle.path_find.proofs.ListOrder.{IsEarlier, earlier-last, earlier-push, not_after-earlier, not_after-push}
use Rattle.path_find.proofs.Lists.{three_ways}
use Rattle.path_find.proofs.WalkLaws.{LeadsTo-push, last_edge}

module _ (rows : Rows) (done : ℕ) (tree : IsTree rows done) where
  -- only the first row has level 0
  pub row_first : (i : ℕ) → i < row_count rows → level_at rows i ≡ 0 → i ≡ 0
  row_first i low is = elim (cases_lt 0 i) [
    | inl pos ↦ let grown = (tree.grown i pos low).level in absurd (omega (arith, grown))
    | inr le ↦ omega arith
  ]

  pub row_later : (i l : ℕ) → level_at rows i ≡ suc l → 0 < i
  row_later i l is = elim (cases_lt 0 i) [
    | inl pos ↦ pos
    | inr le ↦ let none : i ≡ 0 = omega arith in let root = tree.root in let same = ap (level_at rows) none in absurd (omega (arith, root, same))
  ]

  pub parent_level : (i l : ℕ) → i < row_count rows → level_at rows i ≡ suc l → level_at rows (parent_at rows i) ≡ l
  parent_level i l low is = let grown = (tree.grown i (row_later i l is) low).level in omega (arith, grown)

  pub parent_low : (i l : ℕ) → i < row_count rows → level_at rows i ≡ suc l → parent_at rows i < row_count rows
  parent_low i l low is = let earlier = (tree.grown i (row_later i l is) low).earlier in omega (arith, earlier)

  -- a level is at most the number of its row
  pub level-low : (l i : ℕ) → i < row_count rows → level_at rows i ≡ l → l ≤ i
  level-low zero i low is = omega arith
  level-low (suc l) i low is =
      let rest = level-low l (parent_at rows i) (parent_low i l low is) (parent_level i l low is) in
      let earlier = (tree.grown i (row_later i l is) low).earlier in
      omega (arith, rest, earlier)

  -- levels never fall
  pub level-rises : (l i j : ℕ) → level_at rows i ≡ l → i ≤ j → j < row_count rows → l ≤ level_at rows j
  level-rises zero i j is le low = omega arith
  level-rises (suc l) i j is le low = elim (cases_lt i j) [
    | inl lt ↦
        let pos = row_later i l is in
        let grown = tree.grown j (omega arith) low in
        let level = grown.level in
        let earlier = grown.earlier in
        let ordered : parent_at rows i ≤ parent_at rows j = elim (tree.order i j pos lt low)
        [ inl below ↦ omega arith | inr same ↦ let e = same.0 in omega (arith, e) ] in
        let rest = level-rises l (parent_at rows i) (parent_at rows j) (parent_level i l (omega arith) is) ordered (omega (arith, earlier)) in
        omega (arith, rest, level)
    | inr ge ↦ let same : i ≡ j = omega arith in let e = ap (level_at rows) same in omega (arith, e)
  ]

  pub length-way_to : (l i : ℕ) → length (way_to rows l i) ≡ l
  length-way_to zero i = refl
  length-way_to (suc l) i = let long = length_push (way_to rows l (parent_at rows i)) (node_at rows i) in let rest = length-way_to l (parent_at rows i) in
      omega (arith, long, rest)

  -- rows of a level stand in the order of their ways
  pub way_to-order : (l i j : ℕ) → level_at rows i ≡ l → level_at rows j ≡ l → i < j → j < row_count rows → IsEarlier (way_to rows l i) (way_to rows l j)
  way_to-order zero i j is is' lt low = let none = row_first j low is' in absurd (omega (arith, none))
  way_to-order (suc l) i j is is' lt low =
      let pos = row_later i l is in
      let mine = parent_level i l (omega arith) is in
      let other = parent_level j l low is' in
      elim (tree.order i j pos lt low) [
        | inl below ↦ earlier-push (way_to rows l (parent_at rows i)) (way_to rows l (parent_at rows j)) (node_at rows i) (node_at rows j)
            (way_to-order l (parent_at rows i) (parent_at rows j) mine other below (parent_low j l low is'))
        | inr same ↦ subst (λ p. IsEarlier (way_to rows l (parent_at rows i) ++ node_at rows i ∷ []) (way_to rows l p ++ node_at rows j ∷ [])) same.0
            (earlier-last (way_to rows l (parent_at rows i)) (node_at rows i) (node_at rows j) same.1)
      ]

  -- a node has one row
  pub one_row : (i j : ℕ) → i < row_count rows → j < row_count rows → node_at rows i ≡ node_at rows j → i ≡ j
  one_row i j low low' same = elim (three_ways i j) [
    | inl lt ↦ absurd (tree.distinct i j lt low' same)
    | inr other ↦ elim other [ inl eq ↦ eq | inr gt ↦ absurd (tree.distinct j i gt low (sym same)) ]
  ]

  module _ (near : Adjacency) (spans : Spans near rows done) where
    -- the way to a row is a walk
    pub way_to-leads : (l i : ℕ) → i < row_count rows → level_at rows i ≡ l → LeadsTo near (node_at rows 0) (way_to rows l i) (node_at rows i)
    way_to-leads zero i low is = (spans.nodes 0 tree.some, ap (node_at rows) (sym (row_first i low is)))
    way_to-leads (suc l) i low is =
        LeadsTo-push near (way_to rows l (parent_at rows i)) (node_at rows 0) (node_at rows (parent_at rows i)) (node_at rows i)
        (way_to-leads l (parent_at rows i) (parent_low i l low is) (parent_level i l low is))
        (spans.edges i (row_later i l is) low) (spans.nodes i low)

    -- a row that is found from one of the first has a level of at most one more
    level-found : (i j : ℕ) → i < row_count rows → j < row_count rows → (j ≡ 0) ⊎ (parent_at rows j ≤ i) → level_at rows j ≤ suc (level_at rows i)
    level-found i j low low' by = elim (cases_lt 0 j) [
      | inl pos ↦ elim by [
        | inl none ↦ absurd (omega arith)
        | inr le ↦ let grown = (tree.grown j pos low').level in let rest = level-rises (level_at rows (parent_at rows j)) (parent_at rows j) i refl le low in
            omega (arith, grown, rest)
      ]
      | inr le ↦ let none : j ≡ 0 = omega arith in let root = tree.root in let same = ap (level_at rows) none in omega (arith, root, same)
    ]

    -- Up to a level the rows are all among the first.
    module _ (most : ℕ) (complete : (i : ℕ) → i < row_count rows → level_at rows i < most → i < done) where
      pub record IsReached (to steps : ℕ) : Type 0 where
        pub row : ℕ
        pub low : row < row_count rows
        pub is : node_at rows row ≡ to
        pub level : level_at rows row ≤ steps

      -- where a walk leads from a row, there is a row
      pub reached : (later : List ℕ) (at to i : ℕ) → i < row_count rows → node_at rows i ≡ at → LeadsTo near at later to → level_at rows i + length later ≤ most
          → IsReached to (level_at rows i + length later)
      reached [] at to i low is leads few = record { row = i; low = low; is = is ∙ leads.1; level = omega arith }
      reached (node ∷ later) at to i low is leads few =
          let next = spans.found i node (complete i low (omega arith)) (subst (λ n. Contains (near.next n) node) (sym is) leads.1) in
          let step = level-found i next.row low next.low next.by in
          let rest = reached later node to next.row next.low next.is leads.2 (omega (arith, step)) in
          let level = rest.level in
          record { row = rest.row; low = rest.low; is = rest.is; level = omega (arith, step, level) }

      -- no walk to a row is shorter than its level
      pub level-least : (i : ℕ) (other : List ℕ) → i < row_count rows → LeadsTo near (node_at rows 0) other (node_at rows i) → length other ≤ most
          → level_at rows i ≤ length other
      level-least i other low leads few =
          let root = tree.root in
          let there = reached other (node_at rows 0) (node_at rows i) 0 tree.some refl leads (omega (arith, root)) in
          let same = ap (level_at rows) (one_row there.row i there.low low there.is) in
          let level = there.level in
          omega (arith, same, level, root)

      -- the way to a row is the least of the walks of its length
      pub way_to-least : (l i : ℕ) (other : List ℕ) → i < row_count rows → level_at rows i ≡ l → l ≤ most → LeadsTo near (node_at rows 0) other (node_at rows i)
          → length other ≡ l → IsNotAfter (way_to rows l i) other
      way_to-least zero i other low is few leads long = tt
      way_to-least (suc l) i [] low is few leads long = absurd (omega arith)
      way_to-least (suc l) i (node ∷ later) low is few leads long =
          let last = last_edge near later (node_at rows 0) node (node_at rows i) leads in
          let pushed = length_push last.before (node_at rows i) in
          let same_long = ap length last.is in
          let before_long : length last.before ≡ l = omega (arith, pushed, same_long) in
          let root = tree.root in
          let there = reached last.before (node_at rows 0) last.from 0 tree.some refl last.leads (omega (arith, root, before_long)) in
          let there_level = there.level in
          let found = spans.found there.row (node_at rows i) (complete there.row there.low (omega (arith, there_level, root, before_long)))
          (subst (λ n. Contains (near.next n) (node_at rows i)) (sym there.is) last.edge) in
          let mine : found.row ≡ i = one_row found.row i found.low low found.is in
          let pos = row_later i l is in
          let from_there : parent_at rows i ≤ there.row = elim found.by [
            | inl none ↦ absurd (omega arith)
            | inr le ↦ subst (λ k. parent_at rows k ≤ there.row) mine le
          ] in
          let up = parent_level i l low is in
          let above = level-rises l (parent_at rows i) there.row up from_there there.low in
          let there_is : level_at rows there.row ≡ l = omega (arith, above, there_level, root, before_long) in
          let rest = way_to-least l there.row last.before there.low there_is (omega arith)
          (subst (LeadsTo near (node_at rows 0) last.before) (sym there.is) last.leads) before_long in
          let upto : IsNotAfter (way_to rows l (parent_at rows i)) last.before = elim (cases_lt (parent_at rows i) there.row) [
            | inl lt ↦ not_after-earlier (way_to rows l (parent_at rows i)) (way_to rows l there.row) last.before
                (way_to-order l (parent_at rows i) there.row up there_is lt there.low) rest
            | inr ge ↦ let same : there.row ≡ parent_at rows i = omega arith in subst (λ p. IsNotAfter (way_to rows l p) last.before) same rest
          ] in
          let lengths = length-way_to l (parent_at rows i) in
          subst (IsNotAfter (way_to rows (suc l) i)) (sym last.is)
          (not_after-push (way_to rows l (parent_at rows i)) last.before (node_at rows i) (lengths ∙ sym before_long) upto)
