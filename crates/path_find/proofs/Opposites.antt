-- Neighbours by edges seen from their other ends.
use Rattle.std.proofs.Common.{◌≡◌, ℕ, Bool, true, false, nat_eq, ◌&&◌, cond, List, [], ◌∷◌, ◌++◌, length, map, Contains}
use Rattle.std.proofs.Common.{refl, sym, ap, subst, ◌∙◌, arith, ⊎_elim}
use Rattle.std.specs.List.{filter}
use Rattle.std.proofs.lemmas.List.{length_push}
use Rattle.std.proofs.lemmas.List.Elements.{Contains-append_cases, Contains-append_left, Contains-append_right}
use borrow.Author.Tests.{eqb-true}
use Rattle.std.proofs.lemmas.Cmp.{nat_eq_equiv}
use Rattle.plain_graph.specs.Adjacency.{Adjacency}
use Rattle.plain_graph.specs.Walks.{LeadsTo}
use Rattle.plain_graph.specs.declared.direction.Direction.{Direction}
use Rattle.plain_graph.specs.declared.direction.Direction.TheVariants as directions
use Rattle.rec_bytes.specs.Space.{State}
use Rattle.rel_store.specs.declared.edge_row.EdgeRow.{EdgeRow}
use Rattle.expand.specs.Expanding.{rows_of}
use Rattle.expand.specs.Matching.{is_wanted, rows_at}
use Rattle.store_rules.proofs.Members.{contains_filter, contains_image, filter_contains, image_contains}
use Rattle.path_find.specs.Ends.{row_end}
use Rattle.path_find.specs.Meeting.{reversed}
use Rattle.path_find.specs.Reads.{neighbours_at}
use Rattle.path_find.proofs.WalkLaws.{LeadsTo-push}

-- the same nodes, and each edge of the one leads back by the other
pub record AreOpposite (near back : Adjacency) : Type 0 where
  pub node : (n : ℕ) → near.is_node n ≡ true → back.is_node n ≡ true
  pub edge : (a b : ℕ) → Contains (near.next a) b → Contains (back.next b) a

-- ---- by the rows of a store

both-true : (p q : Bool) → (p && q) ≡ true → (p ≡ true) × (q ≡ true)
both-true true q is = (refl, is)
both-true false q is = absurd cc

and-true : (p q : Bool) → p ≡ true → q ≡ true → (p && q) ≡ true
and-true p q first second = rw (first, second) refl

module _ (labels : List ℕ) (rows : List EdgeRow) where
  abbrev is_leaving : ℕ → EdgeRow → Bool
  is_leaving node row = nat_eq row.from node && is_wanted labels row.label

  abbrev is_entering : ℕ → EdgeRow → Bool
  is_entering node row = nat_eq row.to node && is_wanted labels row.label

  abbrev leaving : ℕ → List EdgeRow
  leaving node = filter (is_leaving node) rows

  abbrev entering : ℕ → List EdgeRow
  entering node = filter (is_entering node) rows

  record IsEdge (a b : ℕ) : Type 0 where
    row : EdgeRow
    has : Contains rows row
    wanted : is_wanted labels row.label ≡ true
    from : row.from ≡ a
    to : row.to ≡ b

  end_leaving : (row : EdgeRow) (a : ℕ) → row.from ≡ a → row_end a row ≡ row.to
  end_leaving row a is = subst (λ n. row_end n row ≡ row.to) is (ap (λ b. cond b row.to row.from) (nat_eq_equiv.refl row.from))

  end_entering : (row : EdgeRow) (a : ℕ) → row.to ≡ a → row_end a row ≡ row.from
  end_entering row a is = by (nat_eq row.from a) refl
    where
      by : (b : Bool) → nat_eq row.from a ≡ b → cond b row.to row.from ≡ row.from
      by true same = is ∙ sym (eqb-true row.from a same)
      by false same = refl

  leaves : (a b : ℕ) → Contains (map (row_end a) (leaving a)) b → IsEdge a b
  leaves a b has =
      let image = contains_image (row_end a) (leaving a) b has in
      let row = image.0 in
      let kept = contains_filter (is_leaving a) rows row image.1 in
      let both = both-true (nat_eq row.from a) (is_wanted labels row.label) kept.1 in
      let from = eqb-true row.from a both.0 in
      record { row = row; has = kept.0; wanted = both.1; from = from; to = sym (end_leaving row a from) ∙ sym image.2 }

  enters : (a b : ℕ) → Contains (map (row_end a) (entering a)) b → IsEdge b a
  enters a b has =
      let image = contains_image (row_end a) (entering a) b has in
      let row = image.0 in
      let kept = contains_filter (is_entering a) rows row image.1 in
      let both = both-true (nat_eq row.to a) (is_wanted labels row.label) kept.1 in
      let to = eqb-true row.to a both.0 in
      record { row = row; has = kept.0; wanted = both.1; from = sym (end_entering row a to) ∙ sym image.2; to = to }

  equal : (m n : ℕ) → m ≡ n → nat_eq m n ≡ true
  equal m n is = subst (λ k. nat_eq m k ≡ true) is (nat_eq_equiv.refl m)

  leaves_back : (a b : ℕ) → IsEdge a b → Contains (map (row_end a) (leaving a)) b
  leaves_back a b edge =
      let kept = filter_contains (is_leaving a) rows edge.row edge.has (and-true (nat_eq edge.row.from a) (is_wanted labels edge.row.label)
      (equal edge.row.from a edge.from) edge.wanted) in
      subst (Contains (map (row_end a) (leaving a))) (end_leaving edge.row a edge.from ∙ edge.to) (image_contains (row_end a) (leaving a) edge.row kept)

  enters_back : (a b : ℕ) → IsEdge b a → Contains (map (row_end a) (entering a)) b
  enters_back a b edge =
      let kept = filter_contains (is_entering a) rows edge.row edge.has
      (and-true (nat_eq edge.row.to a) (is_wanted labels edge.row.label) (equal edge.row.to a edge.to) edge.wanted) in
      subst (Contains (map (row_end a) (entering a))) (end_entering edge.row a edge.to ∙ edge.from) (image_contains (row_end a) (entering a) edge.row kept)

  map-both : (node : ℕ) (xs ys : List EdgeRow) → map (row_end node) (xs ++ ys) ≡ map (row_end node) xs ++ map (row_end node) ys
  map-both node [] ys = refl
  map-both node (x ∷ xs) ys = ap (λ (list : List ℕ). row_end node x ∷ list) (map-both node xs ys)

  both_back : (a b : ℕ) → Contains (map (row_end a) (leaving a ++ entering a)) b → Contains (map (row_end b) (leaving b ++ entering b)) a
  both_back a b has =
      subst (λ (list : List ℕ). Contains list a) (sym (map-both b (leaving b) (entering b)))
      (⊎_elim
      (λ (first : Contains (map (row_end a) (leaving a)) b). Contains-append_right (map (row_end b) (leaving b)) (map (row_end b) (entering b)) a
      (enters_back b a (leaves a b first)))
      (λ (second : Contains (map (row_end a) (entering a)) b). Contains-append_left (map (row_end b) (leaving b)) (map (row_end b) (entering b)) a
      (leaves_back b a (enters a b second)))
      (Contains-append_cases (map (row_end a) (leaving a)) (map (row_end a) (entering a)) b (subst (λ (list : List ℕ). Contains list b) (map-both a (leaving a)
      (entering a)) has)))

  edge_back : (direction : Direction) (a b : ℕ) → Contains (map (row_end a) (rows_at direction labels a rows)) b
      → Contains (map (row_end b) (rows_at (reversed direction) labels b rows)) a
  edge_back directions.Outgoing a b has = enters_back b a (leaves a b has)
  edge_back directions.Incoming a b has = leaves_back b a (enters a b has)
  edge_back directions.Both a b has = both_back a b has

pub reversed-twice : (direction : Direction) → reversed (reversed direction) ≡ direction
reversed-twice directions.Outgoing = refl
reversed-twice directions.Incoming = refl
reversed-twice directions.Both = refl

pub opposite : (s : State) (direction : Direction) (labels : List ℕ) → AreOpposite (neighbours_at s direction labels)
    (neighbours_at s (reversed direction) labels)
opposite s direction labels = record { node = λ n is. is; edge = edge_back labels (rows_of s.records) direction }

pub opposite_back : (s : State) (direction : Direction) (labels : List ℕ)
    → AreOpposite (neighbours_at s (reversed direction) labels) (neighbours_at s direction labels)
opposite_back s direction labels =
    subst (λ (d : Direction). AreOpposite (neighbours_at s (reversed direction) labels) (neighbours_at s d labels)) (reversed-twice direction)
    (opposite s (reversed direction) labels)

-- ---- walks, turned round

pub record IsTurned (back : Adjacency) (at to count : ℕ) : Type 0 where
  pub later : List ℕ
  pub leads : LeadsTo back to later at
  pub long : length later ≡ count

pub turn : (near back : Adjacency) → AreOpposite near back → (later : List ℕ) (at to : ℕ) → LeadsTo near at later to → IsTurned back at to (length later)
turn near back opp [] at to leads = record {
  later = [];
  leads = (subst (λ n. back.is_node n ≡ true) leads.1 (opp.node at leads.0), sym leads.1);
  long = refl;
}
turn near back opp (node ∷ later) at to leads =
    let rest = turn near back opp later node to leads.2 in
    let long = rest.long in
    let more = length_push rest.later at in
    record {
      later = rest.later ++ at ∷ [];
      leads = LeadsTo-push back rest.later to node at rest.leads (opp.edge at node leads.1) (opp.node at leads.0);
      long = omega (arith, long, more);
    }
