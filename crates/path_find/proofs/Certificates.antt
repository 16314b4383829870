-- Levels that keep their rules prove what they are to prove.
use Rattle.std.proofs.Common.{◌≡◌, ◌≤◌, inl, inr, ℕ, suc, ◌+◌, List, [], ◌∷◌, length, Contains, refl, sym, ap, subst, ◌∙◌, arith}
use Rattle.std.proofs.lemmas.Bool.{cases_lt}
use Rattle.plain_graph.specs.Adjacency.{Adjacency}
use Rattle.plain_graph.specs.Walks.{HasNoWalk, IsWalk, LeadsTo}
use Rattle.plain_graph.specs.Levels.{AreLevels, AreLevelsFor, AreLevelsOfNoWalk, HasLevel, IsCertified, IsShortestOrNone, level_of}
use Rattle.plain_graph.specs.declared.node_level.NodeLevel.{NodeLevel}
use Rattle.path_find.proofs.Lists.{places}

module _ (near : Adjacency) (levels : List NodeLevel) where
  -- a node has one level
  one_level : AreLevels near levels → (node a b : ℕ) → Contains levels (level_of node a) → Contains levels (level_of node b) → a ≡ b
  one_level are node a b first second =
      places (a ≡ b) levels (level_of node a) (level_of node b) first second
      (λ i j lt low x y. let d = level_of node a in absurd (are.distinct i j d lt low (ap (λ (r : NodeLevel). r.node) (x d ∙ ap (λ l. level_of node l) refl)
      ∙ sym (ap (λ (r : NodeLevel). r.node) (y d)))))
      (λ i j lt low x y. let d = level_of node a in absurd (are.distinct i j d lt low (ap (λ (r : NodeLevel). r.node) (x d) ∙ sym
      (ap (λ (r : NodeLevel). r.node) (y d)))))
      (λ e. ap (λ (r : NodeLevel). r.level) e)

  module _ (from to edges : ℕ) (rules : AreLevelsFor near from to edges levels) where
    -- from a node of a level on there are at least so many edges to go
    pub length-from_level : (later : List ℕ) (at level : ℕ) → Contains levels (level_of at level) → LeadsTo near at later to → edges ≤ level + length later
    length-from_level [] at level has leads = let same : level ≡ edges =
        one_level rules.are to level edges (subst (λ n. Contains levels (level_of n level)) leads.1 has) rules.end in omega (arith, same)
    length-from_level (node ∷ later) at level has leads = elim (cases_lt level edges) [
      | inl lt ↦
          let next = rules.spread (level_of at level) has lt node leads.1 in
          let rest = length-from_level later node next.0 next.1 leads.2 in
          let most = next.2 in
          omega (arith, rest, most)
      | inr le ↦ omega arith
    ]

    -- no walk is shorter
    pub length-certified : (other : List ℕ) → IsWalk near from to other → suc edges ≤ length other
    length-certified [] walk = absurd walk
    length-certified (first ∷ later) walk = let least = length-from_level later first 0 (subst (λ n. Contains levels (level_of n 0)) (sym walk.0) rules.start)
        walk.1 in omega (arith, least)

  module _ (from to : ℕ) (rules : AreLevelsOfNoWalk near from to levels) where
    -- each node that is reached has a level
    level-reached : (later : List ℕ) (at : ℕ) → HasLevel levels at → LeadsTo near at later to → HasLevel levels to
    level-reached [] at has leads = subst (HasLevel levels) leads.1 has
    level-reached (node ∷ later) at has leads = level-reached later node (rules.spread (level_of at has.0) has.1 node leads.1) leads.2

    pub no_walk-certified : HasNoWalk near from to
    no_walk-certified [] walk = walk
    no_walk-certified (first ∷ later) walk = rules.end (level-reached later first (subst (HasLevel levels) (sym walk.0) rules.start) walk.1)

  -- what levels prove
  pub certified : (from to : ℕ) (walk : List ℕ) → IsCertified near from to walk levels → IsShortestOrNone near from to walk
  certified from to [] holds = no_walk-certified from to holds
  certified from to (first ∷ later) holds = record { leads = holds.0; least = length-certified from to (length later) holds.1 }
