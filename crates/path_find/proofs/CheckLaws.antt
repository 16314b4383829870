-- What the tests of a walk and of levels say together.
use Rattle.std.proofs.Common.{◌≡◌, ◌<◌, ◌≤◌, ℕ, zero, suc, ◌+◌, ◌-◌, Bool, true, false, Option, None, Some, List, []}
use Rattle.std.proofs.Common.{◌∷◌, length, get_or, nat_lt, nat_le, Contains, sym, refl, subst, arith}
use Rattle.std.specs.Bool.{IsTrue, OnFalse, OnTrue}
use Rattle.std.specs.Prelude.{◌↔◌}
use Rattle.std.proofs.lemmas.Bool.Decides.{nat_tests}
use Rattle.std.proofs.lemmas.List.Elements.{All-contains, Contains-get_or}
use Rattle.plain_graph.specs.Adjacency.{Adjacency}
use Rattle.plain_graph.specs.Levels.{AreLevels, IsCertified, IsShortestOrNone}
use Rattle.plain_graph.specs.Walks.{LeadsTo}
use Rattle.plain_graph.specs.declared.node_level.NodeLevel.{NodeLevel}
use Rattle.path_find.specs.Checking.{AllSpread, AreDistinct, AreIn, HaveEnds, IsChecked, IsSpreadAt, IsStep, IsWalkOrNone, edges_of, is_last, is_past}
use Rattle.path_find.specs.Tree.{AreNeighbours}
use Rattle.path_find.proofs.Certificates.{certified}

-- ---- the whole

module _ (near : Adjacency) (levels : List NodeLevel) where
  are_levels : (edges : Option ℕ) → AreDistinct levels → AllSpread near levels edges → AreLevels near levels
  are_levels edges distinct all = record { distinct = distinct; nodes = λ k d lt. (all (get_or levels k d) (Contains-get_or levels k d lt)).node }

  node_of_all : AreLevels near levels → (row : NodeLevel) → Contains levels row → near.is_node row.node ≡ true
  node_of_all are row has = All-contains (λ (r : NodeLevel). near.is_node r.node ≡ true) levels row are.nodes has

  -- the tests prove what is to be proved
  pub certified-from_tests : (from to : ℕ) (walk : List ℕ) → IsChecked near from to walk levels → IsCertified near from to walk levels
  certified-from_tests from to [] is =
      record { are = are_levels None is.distinct is.spread; start = is.ends.0; end = is.ends.1; spread = λ row has. (is.spread row has).spread }
  certified-from_tests from to (first ∷ later) is = (
    is.leads,
    record {
      are = are_levels (Some (length later)) is.distinct is.spread;
      start = is.ends.0;
      end = is.ends.1;
      within = λ k d lt. (is.spread (get_or levels k d) (Contains-get_or levels k d lt)).within;
      spread = λ row has. (is.spread row has).spread;
    },
  )

  -- and the other way round
  pub tests-from_certified : (from to : ℕ) (walk : List ℕ) → IsCertified near from to walk levels → IsChecked near from to walk levels
  tests-from_certified from to [] is = record {
    distinct = is.are.distinct;
    ends = (is.start, is.end);
    leads = tt;
    spread = λ row has. record { node = node_of_all is.are row has; within = tt; spread = is.spread row has };
  }
  tests-from_certified from to (first ∷ later) is = record {
    distinct = is.1.are.distinct;
    ends = (is.1.start, is.1.end);
    leads = is.0;
    spread = λ row has. record {
      node = node_of_all is.1.are row has;
      within = All-contains (λ (r : NodeLevel). r.level ≤ length later) levels row is.1.within has;
      spread = is.1.spread row has;
    };
  }

-- ---- one row

past_above : (row : NodeLevel) (edges : ℕ) → nat_lt edges row.level ≡ true → edges < row.level
past_above row edges is = grind (arith, nat_tests)

not_past : (row : NodeLevel) (edges : ℕ) → nat_lt edges row.level ≡ false → row.level ≤ edges
not_past row edges is = grind (arith, nat_tests)

last_above : (row : NodeLevel) (edges : ℕ) → nat_le edges row.level ≡ true → edges ≤ row.level
last_above row edges is = grind (arith, nat_tests)

not_last : (row : NodeLevel) (edges : ℕ) → nat_le edges row.level ≡ false → row.level < edges
not_last row edges is = grind (arith, nat_tests)

clash : true ≡ false → ⊥
clash e = cc

module _ (near : Adjacency) (levels : List NodeLevel) (row : NodeLevel) where
  pub past_fails : (edges : Option ℕ) → is_past row edges ≡ true → ¬ IsSpreadAt near levels edges row
  past_fails None past is = clash (sym past)
  past_fails (Some edges) past is = let above = past_above row edges past in let most = is.within in omega (arith, above, most)

  pub last_spreads : (edges : Option ℕ) → is_past row edges ≡ false → is_last row edges ≡ true → near.is_node row.node ≡ true → IsSpreadAt near levels edges row
  last_spreads None inner last there = absurd (clash (sym last))
  last_spreads (Some edges) inner last there = record {
    node = there;
    within = not_past row edges inner;
    spread = λ lt. let above = last_above row edges last in absurd (omega (arith, above, lt));
  }

  within_of : (edges : Option ℕ) → is_past row edges ≡ false → near.is_node row.node ≡ true → AreIn levels edges row (near.next row.node)
      → IsSpreadAt near levels edges row
  within_of None inner there held = record { node = there; within = tt; spread = held }
  within_of (Some edges) inner there held = record { node = there; within = not_past row edges inner; spread = held }

  -- the same nodes are in the levels
  held_on : (edges : Option ℕ) (ends others : List ℕ) → ((end : ℕ) → Contains others end → Contains ends end) → AreIn levels edges row ends
      → AreIn levels edges row others
  held_on None ends others some held = λ end has. held end (some end has)
  held_on (Some edges) ends others some held = λ lt end has. held lt end (some end has)

  module _ (ends : List ℕ) (are : AreNeighbours near row.node ends) where
    pub inner_spreads : (edges : Option ℕ) → is_past row edges ≡ false → near.is_node row.node ≡ true → AreIn levels edges row ends
        → IsSpreadAt near levels edges row
    inner_spreads edges inner there held = within_of edges inner there (held_on edges ends (near.next row.node) are.all held)

    pub inner_fails : (edges : Option ℕ) → ¬ AreIn levels edges row ends → ¬ IsSpreadAt near levels edges row
    inner_fails edges far is = far (held_on edges (near.next row.node) ends are.only is.spread)

-- a row that isn't at the last level is below it
pub inner_below : (row : NodeLevel) (edges : ℕ) → is_last row (Some edges) ≡ false → row.level < edges
inner_below row edges inner = not_last row edges inner

-- ---- the steps of a walk

module _ (near : Adjacency) where
  leads_from : (later : List ℕ) (at to : ℕ) → ((k : ℕ) → k < length later → IsStep near (get_or (at ∷ later) k 0) (get_or later k 0))
      → get_or (at ∷ later) (length later) 0 ≡ to → near.is_node to ≡ true → LeadsTo near at later to
  leads_from [] at to steps last there = (subst (λ n. near.is_node n ≡ true) (sym last) there, last)
  leads_from (node ∷ later) at to steps last there = (
    (steps 0 (omega arith)).there,
    (steps 0 (omega arith)).edge,
    leads_from later node to
        (λ k lt. steps (suc k) (omega arith)) last there,
  )

  step_in : (later : List ℕ) (at to : ℕ) → LeadsTo near at later to → (k : ℕ) → k < length later → IsStep near (get_or (at ∷ later) k 0) (get_or later k 0)
  step_in [] at to leads k lt = absurd (omega arith)
  step_in (node ∷ later) at to leads zero lt = record { there = leads.0; edge = leads.1 }
  step_in (node ∷ later) at to leads (suc k) lt = step_in later node to leads.2 k (omega arith)

  last_in : (later : List ℕ) (at to : ℕ) → LeadsTo near at later to → (get_or (at ∷ later) (length later) 0 ≡ to) × (near.is_node to ≡ true)
  last_in [] at to leads = (leads.1, subst (λ n. near.is_node n ≡ true) leads.1 leads.0)
  last_in (node ∷ later) at to leads = last_in later node to leads.2

  -- the tests of a list that isn't empty prove a walk, and the other way round
  pub walk-from_steps : (from to : ℕ) (walk : List ℕ) → get_or walk 0 0 ≡ from → get_or walk (length walk - 1) 0 ≡ to
      → ((k : ℕ) → k < length walk - 1 → IsStep near (get_or walk k 0) (get_or walk (k + 1) 0)) → near.is_node to ≡ true → IsWalkOrNone near from to walk
  walk-from_steps from to [] first last steps there = tt
  walk-from_steps from to (node ∷ later) first last steps there =
      let whole : length (node ∷ later) - 1 ≡ length later = omega arith in (
        first,
        leads_from later node to (λ k lt. let more : k + 1 ≡ suc k = omega arith in subst (λ n. IsStep near (get_or (node ∷ later) k 0)
            (get_or (node ∷ later) n 0)) more (steps k (omega arith))) (subst (λ n. get_or (node ∷ later) n 0 ≡ to) whole last) there,
      )

  pub last-from_walk : (from to : ℕ) (walk : List ℕ) → 0 < length walk → IsWalkOrNone near from to walk → (get_or walk (length walk - 1) 0 ≡ to)
      × (near.is_node to ≡ true)
  last-from_walk from to [] some is = absurd (omega arith)
  last-from_walk from to (node ∷ later) some is = let last = last_in later node to is.1 in let whole : length later ≡ length (node ∷ later) - 1 = omega arith in
      (subst (λ n. get_or (node ∷ later) n 0 ≡ to) whole last.0, last.1)

  pub step-from_walk : (from to : ℕ) (walk : List ℕ) → IsWalkOrNone near from to walk → (k : ℕ) → k < length walk - 1
      → IsStep near (get_or walk k 0) (get_or walk (k + 1) 0)
  step-from_walk from to [] is k lt = absurd (omega arith)
  step-from_walk from to (node ∷ later) is k lt = let more : suc k ≡ k + 1 = omega arith in
      subst (λ n. IsStep near (get_or (node ∷ later) k 0) (get_or (node ∷ later) n 0)) more (step_in later node to is.1 k (omega arith))

-- ---- decisions

module _ (near : Adjacency) (levels : List NodeLevel) (from to : ℕ) (walk : List ℕ) where
  pub not_certified : ¬ IsChecked near from to walk levels → IsTrue false ↔ IsCertified near from to walk levels
  not_certified fails = (λ e. absurd (clash (sym e)), λ is. absurd (fails (tests-from_certified near levels from to walk is)))

  pub is_certified : (all : Bool) → AreDistinct levels → HaveEnds levels from to (edges_of walk) → IsWalkOrNone near from to walk
      → OnTrue all (AllSpread near levels (edges_of walk)) → OnFalse all (¬ AllSpread near levels (edges_of walk))
      → IsTrue all ↔ IsCertified near from to walk levels
  is_certified true distinct ends leads spread far =
      (λ e. certified-from_tests near levels from to walk (record { distinct = distinct; ends = ends; leads = leads; spread = spread }), λ is. refl)
  is_certified false distinct ends leads spread far = not_certified (λ is. far is.spread)

  -- and what is true proves
  pub proves_shortest : (told : Bool) → (IsTrue told ↔ IsCertified near from to walk levels) → IsTrue told → IsShortestOrNone near from to walk
  proves_shortest told decides e = certified near levels from to walk (decides.0 e)
