-- What a list of changes leaves of a store, and why one is refused.
use Rattle.std.specs.Prelude.{◌≡◌, ◌≢◌, ◌⊎◌, ℕ, ◌≤◌, min, List, ◌∷◌, ◌++◌}
use Rattle.plain_graph.specs.Graph.{Graph}
use Rattle.plain_graph.specs.Reply.{Reply}
use Rattle.plain_graph.specs.declared.command.Command.{Command}
use Rattle.plain_graph.specs.declared.command.Command.TheVariants as commands
use Rattle.plain_graph.specs.declared.item.Item.{Item}
use Rattle.plain_graph.specs.declared.refusal.Refusal.{Refusal}
use Rattle.plain_graph.specs.declared.refusal.Refusal.TheVariants as refusals
use Rattle.rec_bytes.specs.Format as format
use Rattle.rec_bytes.specs.Space.{State}
use Rattle.store_rules.specs.Writes.{WritesAtMost}
use Rattle.change_parts.specs.Causes.{IsCausedAfter}
use Rattle.change_parts.specs.Change.{full_of}
use Rattle.change_parts.specs.Store.{IsStore}
use Rattle.change_parts.specs.declared.change_fault.ChangeFault.{ChangeFault}
use Rattle.change_parts.specs.declared.change_fault.ChangeFault.TheVariants.{NoNode, NoEdge}
use Rattle.change_parts.specs.declared.change_fault.ChangeFault.TheVariants.{HasRelationships, Full}
use Rattle.change_parts.specs.declared.change_fault.ChangeFault.TheVariants.{IndexThere}
use Rattle.change_parts.specs.declared.change_fault.ChangeFault.TheVariants.{TooManyIndexes}
use Rattle.change_parts.specs.declared.change_fault.ChangeFault.TheVariants.{IndexTooLarge}
use Rattle.change_parts.specs.declared.change_fault.ChangeFault.TheVariants.{NamesFull, PropsFull}
use Rattle.change_parts.specs.declared.change_fault.ChangeFault.TheVariants.{Memory, Disk, Damaged}
use Rattle.plain_graph.specs.Mutations.{ChangesEach, MakesEach, RefusesEach, WeighsEach, changes_of}
use Rattle.plain_graph.specs.Mutations.{results_of}
use Rattle.plain_graph.specs.declared.mutation.Mutation.{Mutation}
use Rattle.plain_graph.specs.declared.mutation.Mutation.TheVariants as mutations
use Rattle.graph_ops.specs.ChangeLeft.{LeavesEach}
use Rattle.graph_ops.specs.declared.mutating.NewEdge.{NewEdge}
use Rattle.store_rules.specs.Graph.{graph_in}

-- the greatest weight that is told of a list of changes
abbrev pub most_told : ℕ
most_told = 4096

-- what the changes of a line weigh at most where there is memory for them
abbrev pub most_drafted : ℕ
most_drafted = 16384

-- The store has all changes of the list, with these replies. No change was refused, whatever
-- identifiers new elements get, and what they weigh together is told up to the greatest weight.
pub record MakesChanges (commands : List Command) (replies : List Reply) (weight : ℕ)
    (old new : State) (names : List (List ℕ)) : Type 0 where
  pub store : IsStore new names
  pub changes : ChangesEach old.shape.limit (graph_in old) commands replies (graph_in new)
  pub total : ℕ
  pub weighs : WeighsEach old.shape.limit old.shape.threshold (graph_in old) commands total
  pub only : (other : ℕ)
      → WeighsEach old.shape.limit old.shape.threshold (graph_in old) commands other
      → other ≡ total
  pub told : weight ≡ min total most_told
  pub free : (why : Refusal) → ¬ RefusesEach old.shape.limit (graph_in old) commands why

-- The steps changed the store so, and these are the results that they show.
abbrev pub MakesMutation : Mutation → List Item → List Item → ℕ → State → State → List (List ℕ)
    → Type 0
MakesMutation mutation items shown weight old new names =
    (replies : List Reply) × (shown ≡ results_of mutation items replies)
    × MakesChanges (changes_of mutation items) replies weight old new names

-- The first change of the list that is refused is refused so. A failure of the machine is no
-- refusal. In a store no record is damaged, and the file of groups isn't full.
abbrev pub IsListRefusal : ℕ → Graph → List Command → ChangeFault → Type 0
IsListRefusal limit graph commands (NoNode id) =
    RefusesEach limit graph commands (refusals.NoNode id)
IsListRefusal limit graph commands (NoEdge id) =
    RefusesEach limit graph commands (refusals.NoEdge id)
IsListRefusal limit graph commands (HasRelationships id degree) =
    RefusesEach limit graph commands (refusals.HasRelationships id)
IsListRefusal limit graph commands IndexThere = RefusesEach limit graph commands refusals.IndexThere
IsListRefusal limit graph commands TooManyIndexes =
    RefusesEach limit graph commands refusals.TooManyIndexes
IsListRefusal limit graph commands (IndexTooLarge count) =
    RefusesEach limit graph commands (refusals.IndexTooLarge count)
IsListRefusal limit graph commands (Full file live) =
    (file ≢ format.groups_file) × RefusesEach limit graph commands (full_of file)
IsListRefusal limit graph commands (NamesFull count) =
    RefusesEach limit graph commands refusals.FullNames
IsListRefusal limit graph commands (PropsFull count) =
    RefusesEach limit graph commands refusals.TooManyProperties
IsListRefusal limit graph commands Memory = Unit {0}
IsListRefusal limit graph commands Disk = Unit {0}
IsListRefusal limit graph commands (Damaged damage) = ⊥

-- ---- new edges

-- the command that adds such an edge from a node
abbrev pub command_from : ℕ → NewEdge → Command
command_from from edge = commands.Edge from edge.label.now edge.to edge.pairs.now

-- the steps that ask for such an edge from each vertex of the results
abbrev pub steps_for : NewEdge → Mutation
steps_for edge = mutations.AddE edge.label.now edge.to edge.pairs.now

-- ---- parts of a list

-- The changes were made one after the other.
pub record MakesList (commands : List Command) (replies : List Reply) (weight : ℕ)
    (old new : State) (names : List (List ℕ)) : Type 0 where
  pub store : IsStore new names
  pub each : MakesEach old.shape.limit old.shape.threshold (graph_in old) commands replies weight
      (graph_in new)

-- Where the space tells, the changes leave this of its records, with what is said of the replies.
-- In a store they were made so. Over every space the weight bounds what became written.
pub record MakesPart (tells : Type 0) (commands : List Command) (Shown : List Reply → Type 0)
    (weight : ℕ) (old new : State) (before names : List (List ℕ)) : Type 0 where
  pub made : tells → (replies : List Reply) × Shown replies
      × LeavesEach commands replies old.records new.records names
      × (IsStore old before → MakesList commands replies weight old new names)
  pub few : weight ≤ most_drafted
  pub writes : WritesAtMost weight old new

-- nothing is said of the replies
abbrev pub any_replies : List Reply → Type 0
any_replies replies = Unit {0}

-- ---- why one of them is refused

-- One of the changes is refused so, by the space as it is left. The names by then are those before
-- and some more.
pub record IsListCause (commands : List Command) (t : State) (names now : List (List ℕ))
    (fault : ChangeFault) : Type 0 where
  pub before : List Command
  pub command : Command
  pub after : List Command
  pub split : commands ≡ before ++ command ∷ after
  pub more : List (List ℕ)
  pub rest : List (List ℕ)
  pub held : now ≡ (names ++ more) ++ rest
  pub caused : IsCausedAfter command t (names ++ more) now fault

-- so it is, or there was no memory
abbrev pub IsListCaused
    : List Command → State → List (List ℕ) → List (List ℕ) → ChangeFault → Type 0
IsListCaused commands t names now fault =
    (fault ≡ Memory) ⊎ IsListCause commands t names now fault
