-- What the lines that ask for a walk read, by their replies.
use Rattle.std.specs.Prelude.{◌≡◌, ℕ, ◌+◌, List, map}
use Rattle.stream_io.specs.declared.streams.Sink.{Ghosts as SinkGhosts}
use Rattle.plain_graph.specs.Lines.{IsFound, level_text, types_of, walk_reading}
use Rattle.plain_graph.specs.Reached.{IsLeastOrNone}
use Rattle.plain_graph.specs.Reply.{DiskFailed, Faulted, NoMemory, Refused, Reply, Told}
use Rattle.plain_graph.specs.Reply.{prefixed_text}
use Rattle.plain_graph.specs.declared.node_level.NodeLevel.{NodeLevel}
use Rattle.rec_bytes.specs.Space.{State}
use Rattle.prop_store.specs.Reading.{ReadsAtMost}
use Rattle.store_rules.specs.Graph.{graph_of}
use Rattle.path_find.specs.Costs.{TwoSearches, path_reads, searches_reads}
use Rattle.path_find.specs.Meeting.{reversed}
use Rattle.path_find.specs.Reads.{StandFor, adjacency_of}
use Rattle.graph_session.specs.Answer.{Gives}
use Rattle.graph_session.specs.declared.question.Route.{Route}
use Rattle.graph_session.specs.declared.turn.Turn.{Turn}

-- No more was read than `find_path` does for this answer, by numbers that stand for the types.
pub record ReadsForLevels (route : Route) (walk : List ℕ) (levels : List NodeLevel)
    (old new : State) : Type 0 where
  pub numbers : List ℕ
  pub stand : StandFor old.records numbers (types_of route.label.now)
  pub within : ReadsAtMost (path_reads old route.direction numbers walk levels) old new

-- No more was read than `find_walk` does for this walk, by numbers that stand for the types.
pub record ReadsForWalk (route : Route) (walk : List ℕ) (old new : State) : Type 0 where
  pub numbers : List ℕ
  pub stand : StandFor old.records numbers (types_of route.label.now)
  pub searches : TwoSearches
      (adjacency_of old route.direction (types_of route.label.now))
      (adjacency_of old (reversed route.direction) (types_of route.label.now))
      route.from route.to walk
  pub within : ReadsAtMost (searches_reads old route.direction numbers searches + 2) old new

-- the lines are those of levels that are found, with these reads
abbrev pub CostsLevels : Route → State → State → List (List ℕ) → List ℕ → Type 0
CostsLevels route old new lines last =
    (walk : List ℕ) × (levels : List NodeLevel)
    × IsFound (graph_of old.records) route.from route.to route.direction route.label.now
    walk levels
    × (lines ≡ map level_text levels) × ReadsForLevels route walk levels old new

-- the lines are those of a walk that is found, or of none, with these reads
abbrev pub CostsWalk : Route → State → State → List (List ℕ) → List ℕ → Type 0
CostsWalk route old new lines last =
    (walk : List ℕ)
    × IsLeastOrNone (adjacency_of old route.direction (types_of route.label.now))
    route.from route.to walk
    × (lines ≡ (walk_reading walk).lines) × (last ≡ (walk_reading walk).last)
    × ReadsForWalk route walk old new

-- What is read by the reply: this, where it tells what was asked for. Where one of the two nodes is
-- missing, it is no more than those. Nothing is said where memory lacked or the disk failed.
abbrev pub CostsReply : (List (List ℕ) → List ℕ → Type 0) → State → State → Reply → Type 0
CostsReply Costs old new (Told lines last) = Costs lines last
CostsReply Costs old new (Refused why) = ReadsAtMost 2 old new
CostsReply Costs old new (Faulted lines NoMemory) = Unit {0}
CostsReply Costs old new (Faulted lines DiskFailed) = Unit {0}
CostsReply Costs old new _ = ⊥

-- A reply was given to the sink, with this prefix before each line, and this is so of it.
pub record GivesAt {K : Type 0} (sink : SinkGhosts K) (IsSo : Reply → Type 0) (prefix : List ℕ)
    (before after : K) (turn : Turn) : Type 0 where
  pub reply : Reply
  pub gives : Gives sink (prefixed_text prefix reply) before after turn
  pub costs : IsSo reply
