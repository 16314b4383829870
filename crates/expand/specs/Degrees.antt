-- How many edges a node has in a direction, by the numbers of its groups or by its edges.
use Rattle.std.specs.Prelude.{◌≡◌, ◌⊎◌, ℕ, ◌+◌, min, Bool, true, false, ◌&&◌, not}
use Rattle.std.specs.Prelude.{if◌then◌else◌, List, [], ◌∷◌, length}
use Rattle.std.specs.List.{filter, list_any}
use Rattle.plain_graph.specs.declared.direction.Direction.{Direction}
use Rattle.plain_graph.specs.declared.direction.Direction.TheVariants as directions
use Rattle.rec_bytes.specs.Space.{State, after_gets}
use Rattle.node_store.specs.declared.node_row.NodeRow.{NodeRow}
use Rattle.rel_store.specs.declared.edge_row.EdgeRow.{EdgeRow}
use Rattle.group_store.specs.declared.group_row.GroupRow.{GroupRow}
use Rattle.group_store.specs.Walking.{HasGroupRows}
use Rattle.expand.specs.declared.matching.End.TheVariants as ends
use Rattle.expand.specs.Expanding.{HasDenseRows}
use Rattle.expand.specs.Matching.{is_met_at, is_wanted}

-- as a number of eight bytes can say it
abbrev pub as_number : ℕ → ℕ
as_number count = min count 18446744073709551615

-- how many relationships of a counted group are met in a direction; a loop is met in each
abbrev pub count_on : Direction → GroupRow → ℕ
count_on directions.Outgoing group = group.out_count + group.loop_count
count_on directions.Incoming group = group.in_count + group.loop_count
count_on directions.Both group =
    group.out_count + group.loop_count + (group.in_count + group.loop_count)

-- those of the groups of these types
abbrev pub counted_sum : Direction → List ℕ → List GroupRow → ℕ
counted_sum direction labels [] = 0
counted_sum direction labels (group ∷ groups) =
    (if is_wanted labels group.label then count_on direction group else 0)
    + counted_sum direction labels groups

-- one of these types is without numbers
abbrev pub lacks_counts : List ℕ → List GroupRow → Bool
lacks_counts labels groups =
    list_any (λ (group : GroupRow). is_wanted labels group.label && not group.counted) groups

-- how many of the rows are met
abbrev pub rows_count : Direction → List ℕ → ℕ → List EdgeRow → ℕ
rows_count directions.Outgoing labels node rows =
    length (filter (is_met_at ends.Source labels node) rows)
rows_count directions.Incoming labels node rows =
    length (filter (is_met_at ends.Target labels node) rows)
rows_count directions.Both labels node rows =
    length (filter (is_met_at ends.Source labels node) rows)
    + length (filter (is_met_at ends.Target labels node) rows)

-- The groups of these types are counted, and theirs is the number, with a read for each group.
pub record HasSum (s t : State) (row : NodeRow) (direction : Direction) (labels : List ℕ)
    (count : ℕ) : Type 0 where
  pub groups : List GroupRow
  pub listed : HasGroupRows s.records row.id row.first groups
  pub counted : lacks_counts labels groups ≡ false
  pub is : count ≡ as_number (counted_sum direction labels groups)
  pub read : t ≡ after_gets (length groups) s

-- One of them isn't, and the number is that of the relationships that were read.
pub record HasRows (s t : State) (row : NodeRow) (direction : Direction) (labels : List ℕ)
    (count : ℕ) : Type 0 where
  pub rows : List EdgeRow
  pub has : HasDenseRows s t row direction labels rows
  pub groups : List GroupRow
  pub listed : HasGroupRows s.records row.id row.first groups
  pub uncounted : lacks_counts labels groups ≡ true
  pub is : count ≡ as_number (rows_count direction labels row.id rows)

-- the number of a dense node
abbrev pub IsDenseDegree : State → State → NodeRow → Direction → List ℕ → ℕ → Type 0
IsDenseDegree s t row direction labels count =
    HasSum s t row direction labels count ⊎ HasRows s t row direction labels count
