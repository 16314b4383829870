-- What changes that are made leave of the records, whatever they are, and tell of them.
use Rattle.std.specs.Prelude.{◌≡◌, ◌≢◌, ℕ, List, [], ◌∷◌, ◌++◌, None}
use Rattle.plain_graph.specs.Mutations.{changes_of, results_of}
use Rattle.plain_graph.specs.Reply.{EdgeMade, NodeMade, Reply}
use Rattle.plain_graph.specs.declared.command.Command.{Command}
use Rattle.plain_graph.specs.declared.command.Command.TheVariants as commands
use Rattle.plain_graph.specs.declared.command.Target.TheVariants as targets
use Rattle.plain_graph.specs.declared.item.Item.{Item}
use Rattle.plain_graph.specs.declared.mutation.Mutation.{Mutation}
use Rattle.rec_bytes.specs.Format as format
use Rattle.rec_bytes.specs.Space.{meta_in}
use Rattle.store_rules.specs.Views.{Records}
use Rattle.id_freelist.specs.Taking.{taken_id}
use Rattle.rel_store.specs.Loading as rels
use Rattle.change_parts.specs.Causes.{HasDefinition}
use Rattle.change_parts.specs.Degrees.{HasDegree}
use Rattle.edge_changes.specs.EdgeDeleting.{IsUnusedEdge}
use Rattle.edge_changes.specs.EdgePlacing.{IsEdgeLabelled}
use Rattle.node_changes.specs.NodeAdding.{IsNodeLabelled}
use Rattle.node_changes.specs.NodeDeleting.{IsUnused}
use Rattle.node_changes.specs.PropertySetting.{GivesKey, LosesKey}

-- A new node has the first free identifier of the nodes, or else the mark, and a new edge that of
-- the relationships. It is in use, and has its label; an edge leads from the one node to the other.
-- The records of an element lead to the value that was set; the property that they led to is in use
-- no more where its key is taken away. A node that is deleted had no relationships, and is in use
-- no more. An edge that is deleted was there, and is in use no more. A new index has a definition.
-- The names are those afterwards.
abbrev pub LeavesChange : Command → Reply → Records → Records → List (List ℕ) → Type 0
LeavesChange (commands.Node label pairs) reply old new names =
    (reply ≡ NodeMade (taken_id (meta_in old format.nodes_file)))
    × IsNodeLabelled new names (taken_id (meta_in old format.nodes_file)) label
LeavesChange (commands.Edge from label to pairs) reply old new names =
    (reply ≡ EdgeMade (taken_id (meta_in old format.relationships_file)))
    × IsEdgeLabelled new names (taken_id (meta_in old format.relationships_file)) from label to
LeavesChange (commands.Set target key value) reply old new names =
    GivesKey new names target key value
LeavesChange (commands.Unset target key) reply old new names =
    LosesKey old new names target key
LeavesChange (commands.Delete (targets.Node id)) reply old new names =
    HasDegree old id 0 × IsUnused new id
LeavesChange (commands.Delete (targets.Edge id)) reply old new names =
    (rels.row_at old id ≢ None) × IsUnusedEdge new id
LeavesChange (commands.Index label key) reply old new names = HasDefinition new names label key
LeavesChange _ reply old new names = Unit {0}

-- Each is made in the records that the one before left, with these replies. The names after each
-- are the first of the last ones.
abbrev pub LeavesEach : List Command → List Reply → Records → Records → List (List ℕ) → Type 0
LeavesEach [] replies old new names = (replies ≡ []) × (new ≡ old)
LeavesEach (command ∷ later) replies old new names =
    (reply : Reply) × (rest : List Reply) × (between : Records)
    × (held : List (List ℕ)) × (more : List (List ℕ))
    × (replies ≡ reply ∷ rest) × (names ≡ held ++ more)
    × LeavesChange command reply old between held × LeavesEach later rest between new names

-- The changes that the steps ask for on these results are made so, and these are the results that
-- they show.
abbrev pub LeavesMutation
    : Mutation → List Item → List Item → Records → Records → List (List ℕ) → Type 0
LeavesMutation mutation results shown old new names =
    (replies : List Reply) × (shown ≡ results_of mutation results replies)
    × LeavesEach (changes_of mutation results) replies old new names
