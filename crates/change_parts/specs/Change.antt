-- What a change of a command leaves of a store, and why one is refused.
use Rattle.std.specs.Prelude.{◌≡◌, ◌≢◌, ℕ, nat_eq, if◌then◌else◌, List}
use Rattle.plain_graph.specs.Changes.{Changes, Weighs}
use Rattle.plain_graph.specs.Graph.{Graph}
use Rattle.plain_graph.specs.Refusals.{FirstReason, NoReason, Reason, change_reasons, most_names}
use Rattle.plain_graph.specs.Refusals.{most_properties}
use Rattle.plain_graph.specs.Reply.{Reply}
use Rattle.plain_graph.specs.declared.command.Command.{Command}
use Rattle.plain_graph.specs.declared.refusal.Refusal.{Refusal}
use Rattle.plain_graph.specs.declared.refusal.Refusal.TheVariants as refusals
use Rattle.rec_bytes.specs.Format as format
use Rattle.rec_bytes.specs.RecordFiles.{room_of}
use Rattle.rec_bytes.specs.declared.shape.Shape.{Shape}
use Rattle.rec_bytes.specs.Space.{State, meta_of}
use Rattle.change_parts.specs.Degrees.{HasDegree}
use Rattle.change_parts.specs.Store.{IsStore}
use Rattle.change_parts.specs.declared.change_fault.ChangeFault.{ChangeFault}
use Rattle.change_parts.specs.declared.change_fault.ChangeFault.TheVariants.{NoNode, NoEdge}
use Rattle.change_parts.specs.declared.change_fault.ChangeFault.TheVariants.{HasRelationships, Full}
use Rattle.change_parts.specs.declared.change_fault.ChangeFault.TheVariants.{IndexThere}
use Rattle.change_parts.specs.declared.change_fault.ChangeFault.TheVariants.{TooManyIndexes}
use Rattle.change_parts.specs.declared.change_fault.ChangeFault.TheVariants.{IndexTooLarge}
use Rattle.change_parts.specs.declared.change_fault.ChangeFault.TheVariants.{NamesFull, PropsFull}
use Rattle.change_parts.specs.declared.change_fault.ChangeFault.TheVariants.{Memory, Disk, Damaged}
use Rattle.store_rules.specs.Graph.{graph_in}

-- The store has the change of the command, with this reply and this weight, and no reason refused
-- it.
pub record MakesChange (command : Command) (reply : Reply) (weight : ℕ) (old new : State)
    (names : List (List ℕ)) : Type 0 where
  pub store : IsStore new names
  pub changes : Changes old.shape.limit (graph_in old) command reply (graph_in new)
  pub weighs : Weighs old.shape.threshold (graph_in old) command weight
  pub free : NoReason change_reasons old.shape.limit (graph_in old) command

-- which part of the graph has no room, by its file
abbrev pub full_of : ℕ → Refusal
full_of file =
    if nat_eq file format.nodes_file then refusals.FullNodes
    else if nat_eq file format.relationships_file then refusals.FullEdges
    else if nat_eq file format.properties_file then refusals.FullProperties
    else if nat_eq file format.index_file then refusals.FullIndex
    else refusals.FullStrings

-- The first of these reasons that holds refuses the command so. A failure of the machine is none of
-- them. In a store no record is damaged, and the file of groups, which no graph shows, isn't full.
abbrev pub IsRefusedBy : List Reason → ℕ → Graph → Command → ChangeFault → Type 0
IsRefusedBy reasons limit graph command (NoNode id) =
    FirstReason reasons limit graph command (refusals.NoNode id)
IsRefusedBy reasons limit graph command (NoEdge id) =
    FirstReason reasons limit graph command (refusals.NoEdge id)
IsRefusedBy reasons limit graph command (HasRelationships id degree) =
    FirstReason reasons limit graph command (refusals.HasRelationships id)
IsRefusedBy reasons limit graph command IndexThere =
    FirstReason reasons limit graph command refusals.IndexThere
IsRefusedBy reasons limit graph command TooManyIndexes =
    FirstReason reasons limit graph command refusals.TooManyIndexes
IsRefusedBy reasons limit graph command (IndexTooLarge count) =
    FirstReason reasons limit graph command (refusals.IndexTooLarge count)
IsRefusedBy reasons limit graph command (Full file live) =
    (file ≢ format.groups_file) × FirstReason reasons limit graph command (full_of file)
IsRefusedBy reasons limit graph command (NamesFull count) =
    FirstReason reasons limit graph command refusals.FullNames
IsRefusedBy reasons limit graph command (PropsFull count) =
    FirstReason reasons limit graph command refusals.TooManyProperties
IsRefusedBy reasons limit graph command Memory = Unit {0}
IsRefusedBy reasons limit graph command Disk = Unit {0}
IsRefusedBy reasons limit graph command (Damaged damage) = ⊥

-- so is a change, for any of its reasons
abbrev pub IsRefusal : ℕ → Graph → Command → ChangeFault → Type 0
IsRefusal limit graph command fault = IsRefusedBy change_reasons limit graph command fault

-- What a refusal counts is so: how many relationships the node has, how many records of the file
-- are live, and how many names or properties there may be.
abbrev pub IsCounted : State → ChangeFault → Type 0
IsCounted s (NoNode id) = Unit {0}
IsCounted s (NoEdge id) = Unit {0}
IsCounted s (HasRelationships id degree) = HasDegree s.records id degree
IsCounted s IndexThere = Unit {0}
IsCounted s TooManyIndexes = Unit {0}
IsCounted s (IndexTooLarge count) = Unit {0}
IsCounted s (Full file live) = live ≡ (meta_of s file).live
IsCounted s (NamesFull count) = count ≡ most_names
IsCounted s (PropsFull count) = count ≡ most_properties
IsCounted s Memory = Unit {0}
IsCounted s Disk = Unit {0}
IsCounted s (Damaged damage) = Unit {0}

-- So is what a refusal of a value counts. A file is full with as many records as it has room for.
abbrev pub IsSetCount : Shape → ChangeFault → Type 0
IsSetCount shape (NoNode id) = Unit {0}
IsSetCount shape (NoEdge id) = Unit {0}
IsSetCount shape (HasRelationships id degree) = ⊥
IsSetCount shape IndexThere = ⊥
IsSetCount shape TooManyIndexes = ⊥
IsSetCount shape (IndexTooLarge count) = ⊥
IsSetCount shape (Full file live) = live ≡ room_of shape file
IsSetCount shape (NamesFull count) = count ≡ most_names
IsSetCount shape (PropsFull count) = count ≡ most_properties
IsSetCount shape Memory = Unit {0}
IsSetCount shape Disk = Unit {0}
IsSetCount shape (Damaged damage) = Unit {0}
