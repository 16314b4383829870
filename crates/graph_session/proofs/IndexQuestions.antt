-- A line that asks of an index: what it is told, and why it isn't.
use Rattle.std.proofs.Common.{◌≡◌, ◌≢◌, ◌∙◌, ℕ, Option, None, Some, List, [], ◌∷◌, map, inl, inr, refl, sym, ap, subst}
use Rattle.fault_count.specs.Cause.{Rose}
use Rattle.stream_io.specs.declared.streams.Sink.{Ghosts as SinkGhosts}
use Rattle.plain_graph.specs.Graph.{Graph, Index, empty_graph}
use Rattle.plain_graph.specs.Indexes.{scan}
use Rattle.plain_graph.specs.Lines.{asked_of, index_of, listed}
use Rattle.plain_graph.specs.Meaning.{meaning}
use Rattle.plain_graph.specs.Refusals.{lacks_index}
use Rattle.plain_graph.specs.Reply.{Told, end_text, item_line, prefixed_text}
use Rattle.plain_graph.specs.declared.command.Command.{Command}
use Rattle.plain_graph.specs.declared.command.Command.TheVariants as commands
use Rattle.plain_graph.specs.declared.item.Item.TheVariants as items
use Rattle.plain_graph.specs.declared.refusal.Refusal.TheVariants as refusals
use Rattle.plain_graph.specs.declared.value.Value.{Value}
use Rattle.plain_graph.proofs.LineLaws.{change_first}
use Rattle.rec_bytes.specs.declared.space.Reads.{Ghosts as SpaceGhosts}
use Rattle.store_rules.specs.Graph.{graph_of}
use Rattle.prop_index.specs.Looking.{BlamesBroken}
use Rattle.prop_index.specs.declared.lookup_fault.LookupFault.{LookupFault}
use Rattle.prop_index.specs.declared.lookup_fault.LookupFault.TheVariants as faults
use Rattle.traversal_run.specs.FoundNodes.{HasIndex, IsIndexRefusal}
use Rattle.traversal_run.specs.Reading.{IsRead}
use Rattle.graph_session.specs.Answer.{Gives}
use Rattle.graph_session.specs.Answering.{reply_of}
use Rattle.graph_session.specs.IndexResults.{answer_for, vertex_line}
use Rattle.graph_session.specs.MayStep.{IsRefusable, TellsUnindexed}
use Rattle.graph_session.specs.Questions.{GivesReading}
use Rattle.graph_session.specs.State.{IsSpared}
use Rattle.graph_session.specs.declared.turn.Turn.{Turn}
use Rattle.graph_session.proofs.Questioned.{Asks, OfStore, asks-damaged, asks-disk, asks-memory, asks-refused, asks-told}
use Rattle.graph_session.proofs.Reasons.{HasElements, empty-unindexed, unindexed-refused}
use Rattle.graph_session.proofs.Spelling.{asks-unchanging}

-- ---- any line that may ask of an index

module _ {R K : Type 0} {space : SpaceGhosts R} {sink : SinkGhosts K} {names : List (List ℕ)} {command : Command} (asks : Asks command)
    (elements : (graph : Graph) → HasElements graph (asked_of command)) {a b : R} (read : IsRead space a b) {prefix : List ℕ}
    {before after : K} {turn : Turn} where
  -- there is none
  no-index : (asked : Option Index) → index_of command ≡ asked → asked ≢ None
      → OfStore space names a (λ graph. lacks_index (index_of command) graph refusals.NoIndex)
      → Gives sink (prefixed_text prefix (reply_of (answer_for faults.NoIndex))) before after turn
      → GivesReading space sink names command prefix a b before after turn
  no-index None is some lacks gives = absurd (some refl)
  no-index (Some index) is some lacks gives =
      let idle = asks-unchanging command asks.question in
      let refusable : IsRefusable command = (
        0,
        empty_graph,
        refusals.NoIndex,
        change_first 0 empty_graph command refusals.NoIndex
            (unindexed-refused command idle 0 empty_graph refusals.NoIndex (elements empty_graph)
            (subst (λ (o : Option Index). lacks_index o empty_graph refusals.NoIndex) (sym is) (empty-unindexed index))),
      ) in
      asks-refused asks read refusals.NoIndex refusable (inr (subst (λ (o : Option Index). TellsUnindexed o refusals.NoIndex) (sym is) refl))
      (λ told store limit. unindexed-refused command idle limit (graph_of (space.state a).records) refusals.NoIndex
      (elements (graph_of (space.state a).records)) (lacks told store)) gives

  -- what it begins with is not known
  pub asks-unfound : (fault : LookupFault) → (fault ≡ faults.NoIndex → index_of command ≢ None) → (fault ≡ faults.Disk → Rose (space.faults a) (space.faults b))
      → OfStore space names a (λ graph. fault ≡ faults.NoIndex → lacks_index (index_of command) graph refusals.NoIndex)
      → (space.tells → BlamesBroken (space.state a).records (space.state a).shape fault)
      → Gives sink (prefixed_text prefix (reply_of (answer_for fault))) before after turn → GivesReading space sink names command prefix a b before after turn
  asks-unfound faults.NoIndex some rose refused blames gives = no-index (index_of command) refl (some refl) (λ told store. refused told store refl) gives
  asks-unfound faults.Memory some rose refused blames gives = asks-memory asks read gives
  asks-unfound faults.Disk some rose refused blames gives = asks-disk asks read (rose refl) gives
  asks-unfound (faults.Damaged damage) some rose refused blames gives = asks-damaged asks read damage blames gives

-- ---- `find`

-- the lines of nodes are those of their items
vertex_lines : (nodes : List ℕ) → map item_line (map items.Vertex nodes) ≡ map vertex_line nodes
vertex_lines [] = refl
vertex_lines (id ∷ later) = ap (λ (lines : List (List ℕ)). vertex_line id ∷ lines) (vertex_lines later)

module _ (label key : List ℕ) (value : Value) where
  -- such a line may lack memory
  finds-unspared : ¬ IsSpared (commands.Find label key value)
  finds-unspared (inl spared) = spared
  finds-unspared (inr (inl e)) = cc
  finds-unspared (inr (inr e)) = cc

  finds : Asks (commands.Find label key value)
  finds = record { question = tt; unspared = finds-unspared; unchecked = λ e. cc; reading = listed []; formed = ([], refl) }

  module _ {R K : Type 0} {space : SpaceGhosts R} {sink : SinkGhosts K} {names : List (List ℕ)} {a b : R} (read : IsRead space a b) {prefix : List ℕ}
      {before after : K} {turn : Turn} where
    -- the nodes were told
    pub gives-found : (nodes : List ℕ) → OfStore space names a (λ graph. HasIndex graph label key)
        → OfStore space names a (λ graph. map items.Vertex nodes ≡ meaning graph (scan label key value))
        → Gives sink (prefixed_text prefix (Told (map vertex_line nodes) end_text)) before after turn
        → GivesReading space sink names (commands.Find label key value) prefix a b before after turn
    gives-found nodes there is gives =
        asks-told finds read (listed (map vertex_line nodes)) (nodes, refl) refl (λ told store. tt) there
        (λ told store. ap listed (sym (vertex_lines nodes) ∙ ap (map item_line) (is told store))) gives

    -- they are not known
    pub gives-unfound : (fault : LookupFault) → (fault ≡ faults.Disk → Rose (space.faults a) (space.faults b))
        → OfStore space names a (λ graph. IsIndexRefusal graph label key fault)
        → (space.tells → BlamesBroken (space.state a).records (space.state a).shape fault)
        → Gives sink (prefixed_text prefix (reply_of (answer_for fault))) before after turn
        → GivesReading space sink names (commands.Find label key value) prefix a b before after turn
    gives-unfound fault rose refused blames gives =
        asks-unfound finds (λ graph. tt) read fault (λ is e. cc) rose
        (λ told store is. (subst (IsIndexRefusal (graph_of (space.state a).records) label key) is (refused told store), refl))
        blames gives
