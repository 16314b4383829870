-- What the nodes that an index finds are told as.
use Rattle.std.specs.Prelude.{ℕ, List}
use Rattle.plain_graph.specs.Reply.{item_line}
use Rattle.plain_graph.specs.declared.item.Item.TheVariants as items
use Rattle.plain_graph.specs.declared.refusal.Refusal.TheVariants as refusals
use Rattle.prop_index.specs.declared.lookup_fault.LookupFault.{LookupFault}
use Rattle.prop_index.specs.declared.lookup_fault.LookupFault.TheVariants as faults
use Rattle.rec_bytes.specs.declared.fault.Fault.TheVariants as read_faults
use Rattle.graph_session.specs.declared.answer.Answer.{Answer}
use Rattle.graph_session.specs.declared.answer.Answer.TheVariants as answers

-- the line of a node
abbrev pub vertex_line : ℕ → List ℕ
vertex_line id = item_line (items.Vertex id)

-- the answer where no nodes are found
abbrev pub answer_for : LookupFault → Answer
answer_for faults.NoIndex = answers.Refused refusals.NoIndex
answer_for faults.Memory = answers.Fault read_faults.Memory
answer_for faults.Disk = answers.Fault read_faults.Disk
answer_for (faults.Damaged damage) = answers.Fault (read_faults.Damaged damage)
