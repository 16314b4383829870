-- Levels by the places of their nodes.
use Rattle.std.proofs.Common.{◌≡◌, ◌≢◌, ◌<◌, inl, inr, ℕ, ◌+◌, nat_eq, true, false, List, [], ◌∷◌, ◌++◌, length, get_or}
use Rattle.std.proofs.Common.{map, take, Contains, sym, ap, subst, ◌∙◌, arith}
use Rattle.std.specs.List.{list_any}
use Rattle.std.proofs.lemmas.Bool.{cases_lt}
use Rattle.std.proofs.lemmas.Cmp.{nat_eq_equiv}
use Rattle.std.proofs.lemmas.List.{get_or-map, get_or-take, length-map, length-take-le, map-append, take_more}
use Rattle.std.proofs.lemmas.List.Elements.{at_from_Contains}
use Rattle.std.proofs.lemmas.List.Folds.{list_any_at}
use Rattle.indexmap.proofs.CallerLemmas.{Contains-list_any}
use borrow.Author.Tests.{eqb-true}
use Rattle.path_find.specs.Checking.{AreDistinct}
use Rattle.plain_graph.specs.Levels.{level_of}
use Rattle.path_find.specs.Reading.{node_of}
use Rattle.plain_graph.specs.declared.node_level.NodeLevel.{NodeLevel}
use Rattle.path_find.proofs.Lists.{places}

clash : true ≡ false → ⊥
clash e = cc

-- a node has one level
pub one_level : (levels : List NodeLevel) → AreDistinct levels → (node a b : ℕ) → Contains levels (level_of node a) → Contains levels (level_of node b) → a ≡ b
one_level levels distinct node a b first second =
    places (a ≡ b) levels (level_of node a) (level_of node b) first second
    (λ i j lt low x y. let d = level_of node a in absurd (distinct i j d lt low (ap node_of (x d) ∙ sym (ap node_of (y d)))))
    (λ i j lt low x y. let d = level_of node a in absurd (distinct i j d lt low (ap node_of (x d) ∙ sym (ap node_of (y d)))))
    (λ e. ap (λ (r : NodeLevel). r.level) e)

-- ---- the places of some of the rows

pub record AreSomePlaces (levels : List NodeLevel) (nodes : List ℕ) (count : ℕ) : Type 0 where
  pub are : nodes ≡ map node_of (take count levels)
  pub distinct : (i j : ℕ) (d : NodeLevel) → i < j → j < count → (get_or levels i d).node ≢ (get_or levels j d).node

module _ (levels : List NodeLevel) (nodes : List ℕ) (count : ℕ) (some : AreSomePlaces levels nodes count) (short : count < length levels) where
  nodes_long : length nodes ≡ count
  nodes_long = ap length some.are ∙ length-map (take count levels) node_of ∙ length-take-le count levels (omega arith)

  node_at_place : (i : ℕ) (d : NodeLevel) → i < count → get_or nodes i 0 ≡ (get_or levels i d).node
  node_at_place i d lt = let long = length-take-le count levels (omega arith) in ap (λ (list : List ℕ). get_or list i 0) some.are
      ∙ get_or-map node_of (take count levels) i d 0 (omega (arith, long)) ∙ ap node_of (get_or-take count levels i d lt)

  pub places_more : (row : NodeLevel) → ((d : NodeLevel) → get_or levels count d ≡ row) → list_any (nat_eq row.node) nodes ≡ false
      → AreSomePlaces levels (nodes ++ row.node ∷ []) (count + 1)
  places_more row at fresh = record {
    are = ap (λ (list : List ℕ). list ++ row.node ∷ []) some.are ∙ sym (map-append node_of (take count levels) (row ∷ []))
        ∙ ap (map node_of) (ap (λ r. take count levels ++ r ∷ []) (sym (at row)) ∙ sym (take_more levels count row short));
    distinct = λ i j d lt low. elim (cases_lt j count) [
      | inl old ↦ some.distinct i j d lt old
      | inr last ↦
          let here : j ≡ count = omega arith in
          λ same.
          let mine : get_or nodes i 0 ≡ row.node = node_at_place i d (omega arith) ∙ same ∙ ap (λ k. (get_or levels k d).node) here ∙ ap node_of (at d) in
          let long = nodes_long in
          clash (sym (list_any_at (nat_eq row.node) nodes i 0 (omega (arith, long)) (subst (λ n. nat_eq row.node n ≡ true) (sym mine)
          (nat_eq_equiv.refl row.node))) ∙ fresh)
    ];
  }

  pub places_twice : (row : NodeLevel) → ((d : NodeLevel) → get_or levels count d ≡ row) → list_any (nat_eq row.node) nodes ≡ true → ¬ AreDistinct levels
  places_twice row at known distinct =
      let there = at_from_Contains nodes row.node (Contains-list_any nat_eq eqb-true nodes row.node known) in
      let long = nodes_long in
      let lt = there.1 in
      distinct there.0 count row (omega (arith, long, lt)) short (sym (node_at_place there.0 row (omega (arith, long, lt))) ∙ there.2 0 ∙ sym
      (ap node_of (at row)))
