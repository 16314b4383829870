-- The stores that changes are made in.
use Rattle.std.specs.Prelude.{◌≡◌, ℕ, List}
use Rattle.plain_graph.specs.Graph.{Graph}
use Rattle.rec_bytes.specs.Space.{State}
use Rattle.store_rules.specs.Graph.{graph_in, graph_of, names_of}
use Rattle.store_rules.specs.Indexes.{AreIndexed, IsIndexed, wanted_in}
use Rattle.store_rules.specs.Rules.{IsWellFormed}

-- A store that keeps the rules, and its names beside it.
pub record IsStore (s : State) (kept : List (List ℕ)) : Type 0 where
  pub store : IsIndexed s.records s.shape
  pub names : kept ≡ names_of s.records

-- In the middle of a change the rules hold but that of the indexes.
pub record IsMidway (s : State) (kept : List (List ℕ)) : Type 0 where
  pub store : IsWellFormed s.records s.shape
  pub names : kept ≡ names_of s.records

-- The indexes are of what the nodes have, where they were before.
abbrev pub KeepsIndexes : State → State → Type 0
KeepsIndexes s t = AreIndexed s.records (wanted_in s.records)
    → AreIndexed t.records (wanted_in t.records)

-- The store has these names now, and the nodes, the edges and the indexes that it had.
pub record KeepsElements (s t : State) (kept : List (List ℕ)) : Type 0 where
  pub store : IsMidway t kept
  pub shape : t.shape ≡ s.shape
  pub nodes : (graph_in t).nodes ≡ (graph_in s).nodes
  pub edges : (graph_in t).edges ≡ (graph_in s).edges
  pub indexes : (graph_in t).indexes ≡ (graph_in s).indexes
  pub keeps : KeepsIndexes s t
