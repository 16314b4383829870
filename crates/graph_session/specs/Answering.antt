-- The reply of an answer.
use Rattle.std.specs.Prelude.{[]}
use Rattle.plain_graph.specs.LineChanges.{mutated_reply}
use Rattle.plain_graph.specs.Reply.{DamagedRecord, DiskFailed, Done, EdgeMade, Fault, Faulted}
use Rattle.plain_graph.specs.Reply.{NoMemory, NodeMade, Refused, Reply}
use Rattle.rec_bytes.specs.declared.fault.Fault.{Fault as StopFault}
use Rattle.rec_bytes.specs.declared.fault.Fault.TheVariants as faults
use Rattle.graph_session.specs.declared.answer.Answer.{Answer}
use Rattle.graph_session.specs.declared.answer.Answer.TheVariants as answers

-- the fault that a reply ends with where records were not read to their end
abbrev pub stop_of : StopFault → Fault
stop_of faults.Memory = NoMemory
stop_of faults.Disk = DiskFailed
stop_of (faults.Damaged damage) = DamagedRecord damage.file damage.id

abbrev pub reply_of : Answer → Reply
reply_of answers.Done = Done
reply_of (answers.NodeMade id) = NodeMade id
reply_of (answers.EdgeMade id) = EdgeMade id
reply_of (answers.Results results) = mutated_reply results.items.items
reply_of (answers.Refused why) = Refused why
reply_of (answers.Fault fault) = Faulted [] (stop_of fault)
