-- The way on from a node is the least of the walks of its length.
use Rattle.std.proofs.Common.{◌≡◌, ◌<◌, ◌≤◌, inl, inr, ℕ, suc, List, [], ◌∷◌, ◌++◌, length, Contains, append_assoc, refl, sym, ap, subst, ◌∙◌, arith}
use Rattle.std.proofs.lemmas.Bool.{cases_lt}
use Rattle.std.proofs.lemmas.List.{length_push}
use Rattle.plain_graph.specs.Adjacency.{Adjacency}
use Rattle.plain_graph.specs.Walks.{IsNotAfter, LeadsTo}
use Rattle.std.specs.List.Sorted.{IsNonDecreasing}
use Rattle.std.proofs.lemmas.List.Elements.{Contains-get_or, at_from_Contains}
use Rattle.path_find.specs.Meeting.{CanDescend, HasNearer, IsDescent, IsFirstAtLevel, IsNextRow, SomeAtLevel}
use Rattle.path_find.specs.Reach.{AreLayers}
use Rattle.path_find.specs.Tree.{AreNeighbours, Rows, Spans, level_at, node_at, parent_at, row_count, way_to}
use Rattle.path_find.proofs.Opposites.{AreOpposite, turn}
use Rattle.path_find.proofs.TreeWalks.{length-way_to, level-least, parent_level, parent_low, reached, row_first, row_later, way_to-leads}
use Rattle.path_find.proofs.WalkLaws.{LeadsTo-push}

-- on by one node
pub descent_on : (near : Adjacency) (rows : Rows) (start at next level below : ℕ) (way new : List ℕ) → level ≡ suc below
    → ((rest : List ℕ) → length rest ≡ level → IsDescent near rows at rest → IsDescent near rows start (way ++ rest))
    → IsNextRow near rows at below next → new ≡ way ++ node_at rows next ∷ []
    → (rest : List ℕ) → length rest ≡ below → IsDescent near rows next rest → IsDescent near rows start (new ++ rest)
descent_on near rows start at next level below way new is old step pushed rest long descends =
    let one = old (node_at rows next ∷ rest) (omega (arith, is, long)) (next, refl, subst (λ n. IsNextRow near rows at n next) (sym long) step, descends) in
    subst (λ (list : List ℕ). IsDescent near rows start (list ++ rest)) (sym pushed)
    (subst (IsDescent near rows start) (sym (append_assoc way (node_at rows next ∷ []) rest)) one)

-- the first of a node's neighbours that has a level is the least
pub next_from_first : (near : Adjacency) (rows : Rows) (at level row : ℕ) (ends : List ℕ) → AreNeighbours near (node_at rows at) ends → IsNonDecreasing ends
    → HasNearer near rows at level
    → (SomeAtLevel rows level ends → IsFirstAtLevel rows level ends row) → IsNextRow near rows at level row
next_from_first near rows at level row ends are ascend nearer pick =
    let there = at_from_Contains ends (node_at rows nearer.row) (are.all (node_at rows nearer.row) nearer.edge) in
    let first = pick (record {
      place = there.0;
      short = there.1;
      row = nearer.row;
      is = record { low = nearer.low; exact = nearer.exact; is = sym (there.2 0) };
    }) in
    let place = first.place in
    let mine = first.is.is in
    record {
      low = first.is.low;
      edge = are.only (node_at rows row) (subst (Contains ends) (sym mine) (Contains-get_or ends place 0 first.short));
      exact = first.is.exact;
      least = λ other low edge exact.
          let also = at_from_Contains ends (node_at rows other) (are.all (node_at rows other) edge) in
          let k = also.0 in
          let other_is = also.2 0 in
          elim (cases_lt k place) [
            | inl lt ↦ absurd (first.before k lt other (record { low = low; exact = exact; is = sym other_is }))
            | inr ge ↦ let less = ascend place k 0 ge also.1 in omega (arith, less, mine, other_is)
          ];
    }

module _ (near back : Adjacency) (there : AreOpposite near back) (return : AreOpposite back near) (rows : Rows) (done depth : ℕ)
    (layers : AreLayers rows done depth) (spans : Spans back rows done) where
  -- from each row but the first there is a neighbour a level lower
  pub can_descend : CanDescend near rows
  can_descend at level low is =
      let pos = row_later rows done layers.tree at level is in
      record {
        there = return.node (node_at rows at) (spans.nodes at low);
        row = parent_at rows at;
        low = parent_low rows done layers.tree at level low is;
        edge = return.edge (node_at rows (parent_at rows at)) (node_at rows at) (spans.edges at pos low);
        exact = parent_level rows done layers.tree at level low is;
      }

  -- a row from which a walk leads to the first
  pub record IsBehind (node most : ℕ) : Type 0 where
    pub row : ℕ
    pub low : row < row_count rows
    pub is : node_at rows row ≡ node
    pub level : level_at rows row ≤ most

  pub behind : (later : List ℕ) (node : ℕ) → LeadsTo near node later (node_at rows 0) → length later ≤ depth → IsBehind node (length later)
  behind later node leads few =
      let turned = turn near back there later node (node_at rows 0) leads in
      let root = layers.tree.root in
      let long = turned.long in
      let found = reached rows done layers.tree back spans depth layers.complete turned.later (node_at rows 0) node 0 layers.tree.some refl turned.leads
      (omega (arith, root, long, few)) in
      let level = found.level in
      record { row = found.row; low = found.low; is = found.is; level = omega (arith, level, root, long) }

  -- a neighbour's level is at most one lower
  not_lower : (at row level : ℕ) → at < row_count rows → row < row_count rows → Contains (near.next (node_at rows at)) (node_at rows row)
      → level_at rows at ≡ suc level → level_at rows row ≤ level → level_at rows row ≡ level
  not_lower at row level at_low low edge is most =
      let way = way_to rows (level_at rows row) row in
      let leads = way_to-leads rows done layers.tree back spans (level_at rows row) row low refl in
      let long = length-way_to rows done layers.tree (level_at rows row) row in
      let more = length_push way (node_at rows at) in
      let pushed = LeadsTo-push back way (node_at rows 0) (node_at rows row) (node_at rows at) leads (there.edge (node_at rows at) (node_at rows row) edge)
      (spans.nodes at at_low) in
      let deep = layers.most at at_low in
      let least = level-least rows done layers.tree back spans depth layers.complete at (way ++ node_at rows at ∷ []) at_low pushed
      (omega (arith, more, long, most, is, deep)) in
      omega (arith, more, long, most, is, least)

  pub descent-leads : (way : List ℕ) (at : ℕ) → at < row_count rows → length way ≡ level_at rows at → IsDescent near rows at way
      → LeadsTo near (node_at rows at) way (node_at rows 0)
  descent-leads [] at low long descends = (
    return.node (node_at rows at) (spans.nodes at low),
    ap (node_at rows) (row_first rows done layers.tree at low
        (sym long)),
  )
  descent-leads (node ∷ way) at low long descends =
      let row = descends.0 in
      let next = descends.2 in (
        return.node (node_at rows at) (spans.nodes at low),
        subst (Contains (near.next (node_at rows at))) descends.1 next.edge,
        subst (λ n. LeadsTo near n way (node_at rows 0)) descends.1 (descent-leads way row next.low (sym next.exact) descends.3),
      )

  pub descent-least : (way : List ℕ) (at : ℕ) (other : List ℕ) → at < row_count rows → length way ≡ level_at rows at → IsDescent near rows at way
      → LeadsTo near (node_at rows at) other (node_at rows 0) → length other ≡ length way → IsNotAfter way other
  descent-least [] at other low long descends leads same = tt
  descent-least (node ∷ way) at [] low long descends leads same = absurd (omega (arith, same))
  descent-least (node ∷ way) at (other ∷ later) low long descends leads same =
      let row = descends.0 in
      let next = descends.2 in
      let deep = layers.most at low in
      let found = behind later other leads.2 (omega (arith, same, long, deep)) in
      let found_level = found.level in
      let edge = subst (Contains (near.next (node_at rows at))) (sym found.is) leads.1 in
      let exact = not_lower at found.row (length way) low found.low edge (sym long) (omega (arith, found_level, same)) in
      let first = next.least found.row found.low edge exact in
      let is = descends.1 in
      let other_is = found.is in
      elim (cases_lt node other) [
        | inl lt ↦ inl lt
        | inr ge ↦
            let equal : node ≡ other = omega (arith, first, is, other_is, ge) in
            inr (
              equal,
              descent-least way row later next.low (sym next.exact) descends.3
                  (subst (λ n. LeadsTo near n later (node_at rows 0)) (sym equal ∙ sym is) leads.2) (omega (arith, same)),
            )
      ]
