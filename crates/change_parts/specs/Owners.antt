-- Elements as owners of properties.
use Rattle.std.specs.Prelude.{◌≡◌, false, None}
use Rattle.plain_graph.specs.Graph.{Graph, has_edge, has_node}
use Rattle.plain_graph.specs.declared.command.Target.{Target}
use Rattle.plain_graph.specs.declared.command.Target.TheVariants as targets
use Rattle.prop_store.specs.declared.owner.Owner.{Owner}
use Rattle.rec_bytes.specs.Format as format
use Rattle.rec_bytes.specs.Space.{State}
use Rattle.store_rules.specs.Views.{key_in}
use Rattle.node_store.specs.Loading as nodes
use Rattle.rel_store.specs.Loading as rels
use Rattle.change_parts.specs.Damage.{IsBroken}
use Rattle.change_parts.specs.declared.change_fault.ChangeFault.{ChangeFault}
use Rattle.change_parts.specs.declared.change_fault.ChangeFault.TheVariants.{NoNode, NoEdge}
use Rattle.change_parts.specs.declared.change_fault.ChangeFault.TheVariants.{HasRelationships, Full}
use Rattle.change_parts.specs.declared.change_fault.ChangeFault.TheVariants.{IndexThere}
use Rattle.change_parts.specs.declared.change_fault.ChangeFault.TheVariants.{TooManyIndexes}
use Rattle.change_parts.specs.declared.change_fault.ChangeFault.TheVariants.{IndexTooLarge}
use Rattle.change_parts.specs.declared.change_fault.ChangeFault.TheVariants.{NamesFull, PropsFull}
use Rattle.change_parts.specs.declared.change_fault.ChangeFault.TheVariants.{Memory, Disk, Damaged}

-- the record of an element, and the place of its first property
abbrev pub owner_of : Target → Owner
owner_of (targets.Node id) =
    record { key = key_in format.nodes_file id; field = format.node_first_property }
owner_of (targets.Edge id) =
    record { key = key_in format.relationships_file id; field = format.relationship_first_property }

-- why an element isn't found: it isn't there, or the disk failed
abbrev pub IsMissing : Graph → Target → ChangeFault → Type 0
IsMissing graph target (NoNode id) = (target ≡ targets.Node id) × (has_node graph id ≡ false)
IsMissing graph target (NoEdge id) = (target ≡ targets.Edge id) × (has_edge graph id ≡ false)
IsMissing graph target (HasRelationships id degree) = ⊥
IsMissing graph target IndexThere = ⊥
IsMissing graph target TooManyIndexes = ⊥
IsMissing graph target (IndexTooLarge count) = ⊥
IsMissing graph target (Full file live) = ⊥
IsMissing graph target (NamesFull count) = ⊥
IsMissing graph target (PropsFull count) = ⊥
IsMissing graph target Memory = ⊥
IsMissing graph target Disk = Unit {0}
IsMissing graph target (Damaged damage) = ⊥

-- So it is over any records, where one that is read may be damaged too.
abbrev pub MayMiss : ChangeFault → Type 0
MayMiss (NoNode id) = Unit {0}
MayMiss (NoEdge id) = Unit {0}
MayMiss (HasRelationships id degree) = ⊥
MayMiss IndexThere = ⊥
MayMiss TooManyIndexes = ⊥
MayMiss (IndexTooLarge count) = ⊥
MayMiss (Full file live) = ⊥
MayMiss (NamesFull count) = ⊥
MayMiss (PropsFull count) = ⊥
MayMiss Memory = ⊥
MayMiss Disk = Unit {0}
MayMiss (Damaged damage) = Unit {0}

-- Why it isn't found by what its record says, which may be damaged.
abbrev pub IsAbsent : State → Target → ChangeFault → Type 0
IsAbsent s target (NoNode id) = (target ≡ targets.Node id) × (nodes.row_at s.records id ≡ None)
IsAbsent s target (NoEdge id) = (target ≡ targets.Edge id) × (rels.row_at s.records id ≡ None)
IsAbsent s target (HasRelationships id degree) = ⊥
IsAbsent s target IndexThere = ⊥
IsAbsent s target TooManyIndexes = ⊥
IsAbsent s target (IndexTooLarge count) = ⊥
IsAbsent s target (Full file live) = ⊥
IsAbsent s target (NamesFull count) = ⊥
IsAbsent s target (PropsFull count) = ⊥
IsAbsent s target Memory = ⊥
IsAbsent s target Disk = Unit {0}
IsAbsent s target (Damaged damage) = IsBroken s damage
