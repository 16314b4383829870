-- What the edges of a node are told as.
use Rattle.std.specs.Prelude.{◌≡◌, ℕ, List, map, true}
use Rattle.plain_graph.specs.declared.direction.Direction.{Direction}
use Rattle.plain_graph.specs.declared.item.Item.{Item}
use Rattle.plain_graph.specs.declared.item.Item.TheVariants as items
use Rattle.plain_graph.specs.declared.refusal.Refusal.TheVariants as refusals
use Rattle.rel_store.specs.declared.edge_row.EdgeRow.{EdgeRow}
use Rattle.prop_store.specs.Reading.{ReadsAtMost}
use Rattle.rec_bytes.specs.Space.{State}
use Rattle.expand.proofs.ModelEdges.{StandFor}
use Rattle.expand.specs.Costs.{are_unknown, most_reads}
use Rattle.expand.specs.declared.expand_fault.ExpandFault.{ExpandFault}
use Rattle.expand.specs.declared.expand_fault.ExpandFault.TheVariants as faults
use Rattle.rec_bytes.specs.declared.fault.Fault.TheVariants as read_faults
use Rattle.graph_session.specs.declared.answer.Answer.{Answer}
use Rattle.graph_session.specs.declared.answer.Answer.TheVariants as answers

-- the result of a row whose type has this name
abbrev pub item_of : List ℕ → EdgeRow → Item
item_of label row = items.Edge row.id label row.from row.to

abbrev pub items_of : List ℕ → List EdgeRow → List Item
items_of label rows = map (item_of label) rows

-- the answer where the edges are not known
abbrev pub answer_for : ExpandFault → Answer
answer_for (faults.NoNode id) = answers.Refused (refusals.NoNode id)
answer_for faults.Memory = answers.Fault read_faults.Memory
answer_for faults.Disk = answers.Fault read_faults.Disk
answer_for (faults.Damaged damage) = answers.Fault (read_faults.Damaged damage)

-- the result is an edge whose type has this name
abbrev pub IsEdge : List ℕ → Item → Type 0
IsEdge label item = (row : EdgeRow) × (item ≡ item_of label row)

-- What a line reads of the edges at a node, of these types or of all where none is named: nothing,
-- or no more than `expand` does for their numbers. Of types that are no names of the store it reads
-- the node alone.
pub data ReadsForEdges (id : ℕ) (direction : Direction) (types : List (List ℕ))
    (old new : State) : Type 0 where
  NoRead : new ≡ old → ReadsForEdges id direction types old new
  ByNumbers : (numbers : List ℕ) → StandFor old.records numbers types
      → ReadsAtMost (most_reads old direction numbers id) old new
      → (are_unknown old.records types ≡ true → ReadsAtMost 1 old new)
      → ReadsForEdges id direction types old new
