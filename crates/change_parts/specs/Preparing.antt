-- What is at hand before the record of a new element is written.
use Rattle.std.specs.Prelude.{◌≡◌, ◌⊎◌, ℕ, ◌+◌, ◌-◌, List, [], ◌∷◌, Some, length, slice_get}
use Rattle.std.specs.FinMap as maps
use Rattle.plain_graph.specs.Changes.{properties_weight}
use Rattle.plain_graph.specs.Graph.{UsesNames}
use Rattle.plain_graph.specs.Properties.{blocks_in, keys_in, no_properties, with_pairs}
use Rattle.plain_graph.specs.Refusals.{NoReason, Reason, names_full, properties_full, strings_full}
use Rattle.plain_graph.specs.Refusals.{most_names, most_properties, too_many_properties}
use Rattle.plain_graph.specs.declared.command.Command.TheVariants as commands
use Rattle.plain_graph.specs.declared.pairs.Pair.{Pair}
use Rattle.rec_bytes.specs.Format as format
use Rattle.rec_bytes.specs.Space.{State}
use Rattle.change_parts.specs.Assigning.{AreAssigned, HasPropertyRoom, HasTooMany, LacksNames}
use Rattle.change_parts.specs.Assigning.{assigned_blocks}
use Rattle.change_parts.specs.Rooms.{LacksRoom}
use Rattle.change_parts.specs.Store.{KeepsElements}
use Rattle.change_parts.specs.declared.change_fault.ChangeFault.{ChangeFault}
use Rattle.change_parts.specs.declared.change_fault.ChangeFault.TheVariants.{NoNode, NoEdge}
use Rattle.change_parts.specs.declared.change_fault.ChangeFault.TheVariants.{HasRelationships, Full}
use Rattle.change_parts.specs.declared.change_fault.ChangeFault.TheVariants.{IndexThere}
use Rattle.change_parts.specs.declared.change_fault.ChangeFault.TheVariants.{TooManyIndexes}
use Rattle.change_parts.specs.declared.change_fault.ChangeFault.TheVariants.{IndexTooLarge}
use Rattle.change_parts.specs.declared.change_fault.ChangeFault.TheVariants.{NamesFull, PropsFull}
use Rattle.change_parts.specs.declared.change_fault.ChangeFault.TheVariants.{Memory, Disk, Damaged}
use Rattle.change_parts.specs.declared.preparing.Prepared.{Prepared}
use Rattle.store_rules.specs.Graph.{graph_in}

-- the reasons that the names and the properties of a new element give, for a node and an edge alike
abbrev pub line_reasons : List Reason
line_reasons = names_full ∷ too_many_properties ∷ properties_full ∷ strings_full ∷ []

-- the properties of a new element need so many records of the file
abbrev pub NeedForPairs : List Pair → ℕ → ℕ → Type 0
NeedForPairs pairs file count =
    ((file ≡ format.properties_file) × (count ≡ maps.len (with_pairs no_properties pairs)))
    ⊎ ((file ≡ format.strings_file) × (count ≡ blocks_in (with_pairs no_properties pairs)))

-- Why the names and the properties of a new element are refused, by what the records say.
abbrev pub IsLineCause : State → List (List ℕ) → List ℕ → List Pair → ChangeFault → Type 0
IsLineCause s names label pairs (NoNode id) = ⊥
IsLineCause s names label pairs (NoEdge id) = ⊥
IsLineCause s names label pairs (HasRelationships id degree) = ⊥
IsLineCause s names label pairs IndexThere = ⊥
IsLineCause s names label pairs TooManyIndexes = ⊥
IsLineCause s names label pairs (IndexTooLarge count) = ⊥
IsLineCause s names label pairs (Full file live) =
    (count : ℕ) × NeedForPairs pairs file count × LacksRoom s file count (Full file live)
IsLineCause s names label pairs (NamesFull count) =
    LacksNames names (label ∷ keys_in pairs) × (count ≡ most_names)
IsLineCause s names label pairs (PropsFull count) = HasTooMany pairs × (count ≡ most_properties)
IsLineCause s names label pairs Memory = Unit {0}
IsLineCause s names label pairs Disk = Unit {0}
IsLineCause s names label pairs (Damaged damage) = ⊥

-- The label and the keys are names now, the element may have its properties, and there is room for
-- them.
pub record IsPrepared (s t : State) (names : List (List ℕ)) (label : List ℕ) (pairs : List Pair)
    (prepared : Prepared) : Type 0 where
  pub kept : KeepsElements s t names
  pub label_is : slice_get names prepared.label ≡ Some label
  pub assigned : AreAssigned names pairs prepared.assigned.items
  pub room : HasPropertyRoom t (length prepared.assigned.items)
      (assigned_blocks pairs prepared.assigned.items)
  pub uses : UsesNames (graph_in s).names (label ∷ keys_in pairs) names
  pub weighs : prepared.weight ≡ properties_weight (with_pairs no_properties pairs)
      + (length names - length (graph_in s).names)
  pub free : NoReason line_reasons s.shape.limit (graph_in s) (commands.Node label pairs)
