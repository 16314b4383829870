-- A line that asks of elements: what it is told, and why it isn't.
use Rattle.std.proofs.Common.{◌≡◌, ◌≢◌, ◌⊎◌, ℕ, false, true, Err, List, inl, inr, refl, ap, subst}
use Rattle.fault_count.specs.Cause.{Rose}
use Rattle.stream_io.specs.declared.streams.Sink.{Ghosts as SinkGhosts}
use Rattle.plain_graph.specs.Changes.{IsChange}
use Rattle.plain_graph.specs.Graph.{Graph, empty_graph, has_node}
use Rattle.plain_graph.specs.Kinds.{AreQuestions, Kind, Question}
use Rattle.plain_graph.specs.Lines.{Asked, At, AtEdge, Between, IsFormed, IsQuestion, Nowhere, Reading, Shows, asked_of, kind_of}
use Rattle.plain_graph.specs.Reply.{Refused, Told, prefixed_text}
use Rattle.plain_graph.specs.declared.command.Command.{Command}
use Rattle.plain_graph.specs.declared.command.Command.TheVariants as commands
use Rattle.plain_graph.specs.declared.refusal.Refusal.{Refusal}
use Rattle.plain_graph.specs.declared.refusal.Refusal.TheVariants as refusals
use Rattle.plain_graph.proofs.LineLaws.{change_first}
use Rattle.rec_bytes.specs.Space.{State}
use Rattle.rec_bytes.specs.declared.space.Reads.{Ghosts as SpaceGhosts}
use Rattle.store_rules.specs.Breaking.{Breaks}
use Rattle.store_rules.specs.Graph.{graph_of}
use Rattle.expand.specs.Expanding.{IsExpandFault, TellsNode}
use Rattle.expand.specs.declared.expand_fault.ExpandFault.{ExpandFault}
use Rattle.expand.specs.declared.expand_fault.ExpandFault.TheVariants as faults
use Rattle.path_find.specs.Finding.{IsPathFault, TellsEnds}
use Rattle.traversal_run.specs.Reading.{IsRead}
use Rattle.graph_session.specs.Answer.{Gives}
use Rattle.graph_session.specs.Answering.{reply_of}
use Rattle.graph_session.specs.EdgeResults.{answer_for}
use Rattle.graph_session.specs.MayStep.{IsRefusable, TellsMissing}
use Rattle.graph_session.specs.Questions.{GivesReading}
use Rattle.graph_session.specs.State.{AreSpared, IsSpared}
use Rattle.graph_session.specs.declared.turn.Turn.{Turn}
use Rattle.graph_session.proofs.Questioned.{Asks, OfStore, asks-damaged, asks-disk, asks-memory, asks-refused, asks-told}
use Rattle.graph_session.proofs.Reasons.{AsksNode, AsksSome, HasAsked, HasElements, LacksElement, empty-lacks, unchanging-refused}
use Rattle.graph_session.proofs.Spelling.{asks-unchanging}

-- A line that asks of elements: it reads, and some answer has its form.
pub record AsksElements (command : Command) : Type 0 where
  pub question : IsQuestion command
  pub some : AsksSome (asked_of command)
  pub reading : Reading
  pub formed : IsFormed command reading

-- a node that is missing is said to be
tells-node : (asked : Asked) → AsksNode asked → (id : ℕ) → TellsMissing asked (refusals.NoNode id)
tells-node Nowhere nodes id = absurd nodes
tells-node (At node) nodes id = (id, refl)
tells-node (Between from to) nodes id = (id, refl)
tells-node (AtEdge edge) nodes id = absurd nodes

-- lines of this kind may lack memory, but for one that asks of no element
reads-lacks : (kind : Kind) → AreQuestions kind → ¬ AreSpared kind
reads-lacks Question reads spared = spared
reads-lacks kind reads spared = absurd reads

module _ {command : Command} (asks : AsksElements command) where
  -- it is no line that asks of no element
  other-than : (other : Command) → ¬ AsksSome (asked_of other) → command ≢ other
  other-than other none is = none (subst (λ (c : Command). AsksSome (asked_of c)) is asks.some)

  asks-unspared : ¬ IsSpared command
  asks-unspared (inl spared) = reads-lacks (kind_of command) asks.question spared
  asks-unspared (inr (inl is)) = other-than commands.Stats (λ some. some) is
  asks-unspared (inr (inr is)) = other-than commands.Release (λ some. some) is

  pub elements-asked : Asks command
  elements-asked = record {
    question = asks.question;
    unspared = asks-unspared;
    unchecked = other-than commands.Check (λ some. some);
    reading = asks.reading;
    formed = asks.formed;
  }

  asks-idle : ¬ IsChange command
  asks-idle = asks-unchanging command asks.question

  -- some graph refuses it
  asks-refusable : IsRefusable command
  asks-refusable =
      let missing = empty-lacks (asked_of command) asks.some in
      (0, empty_graph, missing.0, change_first 0 empty_graph command missing.0 (unchanging-refused command asks-idle 0 empty_graph missing.0 missing.1))

-- a line that asks of elements asks of no index
asks-no_index : (command : Command) → AsksSome (asked_of command) → (graph : Graph) → HasAsked graph command
asks-no_index (commands.Find label key value) some graph = absurd some
asks-no_index (commands.Query query) some graph = absurd some
asks-no_index (commands.Mutate reading mutation) some graph = absurd some
asks-no_index command some graph = tt

-- ---- faults

-- which is said to be missing is the one of the line
pub one-missing : (V : Type 0) (fault : ExpandFault) (node : ℕ) (graph : Graph) → TellsNode {T = V} (Err fault) node (has_node graph node) → (id : ℕ)
    → fault ≡ faults.NoNode id → LacksElement graph (At node) (refusals.NoNode id)
one-missing V fault node graph tells id is =
    let lacks = subst (λ (f : ExpandFault). TellsNode {T = V} (Err f) node (has_node graph node)) is tells in
    (lacks.1, ap (λ (n : ℕ). refusals.NoNode n) lacks.0)

-- or the first of the two that is
pub end-missing : (V : Type 0) (fault : ExpandFault) (from to : ℕ) (graph : Graph)
    → TellsEnds {T = V} (Err fault) from to (has_node graph from) (has_node graph to) → (id : ℕ) → fault ≡ faults.NoNode id
    → LacksElement graph (Between from to) (refusals.NoNode id)
end-missing V fault from to graph tells id is = by (subst (λ (f : ExpandFault). TellsEnds {T = V} (Err f) from to (has_node graph from) (has_node graph to))
    is tells)
  where
    by : ((id ≡ from) × (has_node graph from ≡ false)) ⊎ ((id ≡ to) × (has_node graph from ≡ true) × (has_node graph to ≡ false))
        → LacksElement graph (Between from to) (refusals.NoNode id)
    by (inl (same, missing)) = inl (missing, ap (λ (n : ℕ). refusals.NoNode n) same)
    by (inr (same, found, missing)) = inr (found, (missing, ap (λ (n : ℕ). refusals.NoNode n) same))

-- a record that is said to be damaged breaks a rule
abbrev pub BlamesBroken : State → ExpandFault → Type 0
BlamesBroken s (faults.Damaged damage) = Breaks s.records s.shape damage
BlamesBroken s _ = Unit {0}

pub one-blamed : (s : State) (node : ℕ) (fault : ExpandFault) → IsExpandFault s node fault → BlamesBroken s fault
one-blamed s node (faults.NoNode id) told = tt
one-blamed s node faults.Memory told = tt
one-blamed s node faults.Disk told = tt
one-blamed s node (faults.Damaged damage) told = told

pub end-blamed : (s : State) (from to : ℕ) (fault : ExpandFault) → IsPathFault s from to fault → BlamesBroken s fault
end-blamed s from to (faults.NoNode id) told = tt
end-blamed s from to faults.Memory told = tt
end-blamed s from to faults.Disk told = tt
end-blamed s from to (faults.Damaged damage) told = told

-- ---- what is given

module _ {R K : Type 0} {space : SpaceGhosts R} {sink : SinkGhosts K} {names : List (List ℕ)} {command : Command} (asks : AsksElements command) {a b : R}
    (read : IsRead space a b) {prefix : List ℕ} {before after : K} {turn : Turn} where
  -- the reading was told
  pub gives-told : (reading : Reading) → IsFormed command reading → reading.is_past ≡ false
      → OfStore space names a (λ graph. HasElements graph (asked_of command)) → OfStore space names a (λ graph. Shows graph command reading)
      → Gives sink (prefixed_text prefix (Told reading.lines reading.last)) before after turn
      → GivesReading space sink names command prefix a b before after turn
  gives-told reading formed none has shows gives = asks-told (elements-asked asks) read reading formed none has
      (λ told store. asks-no_index command asks.some (graph_of (space.state a).records)) shows gives

  -- an element is missing
  pub gives-missing : (why : Refusal) → TellsMissing (asked_of command) why → OfStore space names a (λ graph. LacksElement graph (asked_of command) why)
      → Gives sink (prefixed_text prefix (Refused why)) before after turn → GivesReading space sink names command prefix a b before after turn
  gives-missing why tells lacks gives =
      asks-refused (elements-asked asks) read why (asks-refusable asks) (inl tells)
      (λ told store limit. unchanging-refused command (asks-idle asks) limit (graph_of (space.state a).records) why (lacks told store)) gives

  -- what is asked of nodes is not known
  pub gives-unknown : AsksNode (asked_of command) → (fault : ExpandFault) → (fault ≡ faults.Disk → Rose (space.faults a) (space.faults b))
      → OfStore space names a (λ graph. (id : ℕ) → fault ≡ faults.NoNode id → LacksElement graph (asked_of command) (refusals.NoNode id))
      → (space.tells → BlamesBroken (space.state a) fault)
      → Gives sink (prefixed_text prefix (reply_of (answer_for fault))) before after turn → GivesReading space sink names command prefix a b before after turn
  gives-unknown nodes (faults.NoNode id) rose missing blames gives = gives-missing (refusals.NoNode id) (tells-node (asked_of command) nodes id)
      (λ told store. missing told store id refl) gives
  gives-unknown nodes faults.Memory rose missing blames gives = asks-memory (elements-asked asks) read gives
  gives-unknown nodes faults.Disk rose missing blames gives = asks-disk (elements-asked asks) read (rose refl) gives
  gives-unknown nodes (faults.Damaged damage) rose missing blames gives = asks-damaged (elements-asked asks) read damage (λ told. inl (blames told)) gives
