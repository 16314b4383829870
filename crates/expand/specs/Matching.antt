-- The relationships at a node among rows in any order, and in the order of the model.
use Rattle.std.specs.Prelude.{◌≡◌, ◌≢◌, ◌<◌, ℕ, nat_eq, Bool, true, ◌&&◌, ◌||◌, List, [], ◌∷◌, ◌++◌}
use Rattle.std.specs.Prelude.{AllPairs, Contains}
use Rattle.std.specs.List.{filter, list_any}
use Rattle.plain_graph.specs.declared.direction.Direction.{Direction}
use Rattle.plain_graph.specs.declared.direction.Direction.TheVariants as directions
use Rattle.rel_store.specs.declared.edge_row.EdgeRow.{EdgeRow}
use Rattle.expand.specs.declared.matching.End.{End}
use Rattle.expand.specs.declared.matching.End.TheVariants as ends

-- the identifier of a row
abbrev pub id_of : EdgeRow → ℕ
id_of row = row.id

-- the node at an end
abbrev pub end_of : End → EdgeRow → ℕ
end_of ends.Source row = row.from
end_of ends.Target row = row.to

-- the type is one of these, or none is given
abbrev pub is_wanted : List ℕ → ℕ → Bool
is_wanted [] label = true
is_wanted (first ∷ labels) label = list_any (nat_eq label) (first ∷ labels)

-- the node is this end of a relationship of these types
abbrev pub is_met_at : End → List ℕ → ℕ → EdgeRow → Bool
is_met_at end labels node row = nat_eq (end_of end row) node && is_wanted labels row.label

-- so for a direction
abbrev pub is_met : Direction → List ℕ → ℕ → EdgeRow → Bool
is_met directions.Outgoing labels node row = is_met_at ends.Source labels node row
is_met directions.Incoming labels node row = is_met_at ends.Target labels node row
is_met directions.Both labels node row =
    is_met_at ends.Source labels node row || is_met_at ends.Target labels node row

-- the relationship leaves the node or enters it
abbrev pub is_at : ℕ → EdgeRow → Bool
is_at node row = nat_eq row.from node || nat_eq row.to node

-- of rows by ascending identifier, those at the node in a direction and of these types
abbrev pub rows_at : Direction → List ℕ → ℕ → List EdgeRow → List EdgeRow
rows_at directions.Outgoing labels node rows = filter (is_met_at ends.Source labels node) rows
rows_at directions.Incoming labels node rows = filter (is_met_at ends.Target labels node) rows
rows_at directions.Both labels node rows =
    filter (is_met_at ends.Source labels node) rows
    ++ filter (is_met_at ends.Target labels node) rows

-- The rows are some of the edges, in any order, each once, and among them all that pass the test.
-- The edges stand by ascending identifier.
pub record IsPart (test : EdgeRow → Bool) (rows edges : List EdgeRow) : Type 0 where
  pub ascends : AllPairs (λ a b. id_of a < id_of b) edges
  pub distinct : AllPairs (λ a b. id_of a ≢ id_of b) rows
  pub only : (row : EdgeRow) → Contains rows row → Contains edges row
  pub all : (row : EdgeRow) → Contains edges row → test row ≡ true → Contains rows row
