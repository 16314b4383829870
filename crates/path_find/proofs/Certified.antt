-- What a search answers proves what it is to prove.
use Rattle.std.proofs.Common.{◌≡◌, ◌≤◌, ℕ, ◌+◌, true, List, [], ◌∷◌, ◌++◌, length, get_or, Contains, refl, subst, arith}
use Rattle.std.proofs.lemmas.List.{length_push}
use Rattle.std.proofs.lemmas.List.Elements.{Contains-get_or}
use Rattle.plain_graph.specs.Adjacency.{Adjacency}
use Rattle.plain_graph.specs.Reached.{HoldReached, IsAnswer}
use Rattle.plain_graph.specs.Levels.{AreLevels, HasLevelUpTo, IsCertified, IsShortestOrNone, level_of}
use Rattle.plain_graph.specs.Walks.{IsWalk, LeadsTo}
use Rattle.plain_graph.specs.declared.node_level.NodeLevel.{NodeLevel}
use Rattle.path_find.proofs.WalkLaws.{LeadsTo-push}

-- the walk of an answer is a shortest one
pub shortest_or_none : (near : Adjacency) (from to : ℕ) (walk : List ℕ) (levels : List NodeLevel) → IsAnswer near from to walk levels
    → IsShortestOrNone near from to walk
shortest_or_none near from to [] levels is = is.0
shortest_or_none near from to (first ∷ later) levels is = is.0.shortest

module _ (near : Adjacency) (closed : (node end : ℕ) → Contains (near.next node) end → near.is_node end ≡ true) (from : ℕ) where
  -- the target of a walk is a node
  there : (later : List ℕ) (at to : ℕ) → LeadsTo near at later to → near.is_node to ≡ true
  there [] at to leads = subst (λ n. near.is_node n ≡ true) leads.1 leads.0
  there (node ∷ later) at to leads = there later node to leads.2

  walk_there : (walk : List ℕ) (to : ℕ) → IsWalk near from to walk → near.is_node to ≡ true
  walk_there [] to walk = absurd walk
  walk_there (first ∷ later) to walk = there later first to walk.1

  -- on by one edge
  further : (walk : List ℕ) (to node : ℕ) → IsWalk near from to walk → Contains (near.next to) node → IsWalk near from node (walk ++ node ∷ [])
  further [] to node walk edge = absurd walk
  further (first ∷ later) to node walk edge = (walk.0, LeadsTo-push near later first to node walk.1 edge (closed to node edge))

  module _ (IsAllowed : ℕ → Type 0) (levels : List NodeLevel) (held : HoldReached near from IsAllowed levels) where
    are_levels : AreLevels near levels
    are_levels = record {
      distinct = λ i j d lt low same. let less = held.ascend i j d lt low in omega (arith, less, same);
      nodes = λ k d lt. let distance = (held.each (get_or levels k d) (Contains-get_or levels k d lt)).1 in
          walk_there distance.walk (get_or levels k d).node distance.shortest.leads;
    }

    -- the least level of a node that is reached
    at_most : (node edges : ℕ) (walk : List ℕ) → IsWalk near from node walk → length walk ≡ edges + 1 → IsAllowed edges → HasLevelUpTo levels node edges
    at_most node edges walk leads long may =
        let level = held.all node edges walk leads long may in
        let distance = (held.each (level_of node level.0) level.1).1 in
        let least = distance.shortest.least walk leads in
        let its = distance.long in
        (level.0, level.1, omega (arith, least, its, long))

    neighbour_level : (row : NodeLevel) → Contains levels row → (node : ℕ) → Contains (near.next row.node) node → IsAllowed (row.level + 1)
        → HasLevelUpTo levels node (row.level + 1)
    neighbour_level row has node edge may =
        let distance = (held.each row has).1 in
        let more = length_push distance.walk node in
        let long = distance.long in
        at_most node (row.level + 1) (distance.walk ++ node ∷ []) (further distance.walk row.node node distance.shortest.leads edge) (omega (arith, more, long))
        may

  pub certified_answer : (to : ℕ) → near.is_node from ≡ true → (walk : List ℕ) (levels : List NodeLevel) → IsAnswer near from to walk levels
      → IsCertified near from to walk levels
  certified_answer to is [] levels answer =
      let start = at_most (λ edges. Unit {0}) levels answer.1 from 0 (from ∷ []) (refl, (is, refl)) refl tt in
      record {
        are = are_levels (λ edges. Unit {0}) levels answer.1;
        start = (start.0, start.1);
        end = λ has. let distance = (answer.1.each (level_of to has.0) has.1).1 in answer.0 distance.walk distance.shortest.leads;
        spread = λ row has node edge. let level = neighbour_level (λ edges. Unit {0}) levels answer.1 row has node edge tt in (level.0, level.1);
      }
  certified_answer to is (first ∷ later) levels answer =
      let start = at_most (λ edges. edges ≤ length later) levels answer.1 from 0 (from ∷ []) (refl, (is, refl)) refl (omega arith) in
      let zero_is : start.0 ≡ 0 = let most = start.2 in omega (arith, most) in
      let end = at_most (λ edges. edges ≤ length later) levels answer.1 to (length later) (first ∷ later) answer.0.shortest.leads (omega arith) (omega arith) in
      let distance = (answer.1.each (level_of to end.0) end.1).1 in
      let short = answer.0.shortest.least distance.walk distance.shortest.leads in
      let long = distance.long in
      let most = end.2 in
      let end_is : end.0 ≡ length later = omega (arith, short, long, most) in (
        answer.0.shortest.leads,
        record {
          are = are_levels (λ edges. edges ≤ length later) levels answer.1;
          start = subst (λ l. Contains levels (level_of from l)) zero_is start.1;
          end = subst (λ l. Contains levels (level_of to l)) end_is end.1;
          within = λ k d lt. (answer.1.each (get_or levels k d) (Contains-get_or levels k d lt)).0;
          spread = λ row has less node edge. neighbour_level (λ edges. edges ≤ length later) levels answer.1 row has node edge (omega arith);
        },
      )
