-- What the lines that ask for a walk read: why by their replies.
use Rattle.std.proofs.Common.{◌≡◌, ℕ, ◌+◌, List, [], inl, subst}
use Rattle.stream_io.specs.declared.streams.Sink.{Ghosts as SinkGhosts}
use Rattle.plain_graph.specs.Lines.{types_of}
use Rattle.plain_graph.specs.Reply.{DiskFailed, Faulted, NoMemory, Refused, prefixed_text}
use Rattle.plain_graph.specs.declared.refusal.Refusal.TheVariants as refusals
use Rattle.rec_bytes.specs.Space.{State}
use Rattle.prop_store.specs.Reading.{ReadsAtMost}
use Rattle.store_rules.proofs.Breaches.{none_at_all}
use Rattle.expand.specs.declared.expand_fault.ExpandFault.{ExpandFault}
use Rattle.expand.specs.declared.expand_fault.ExpandFault.TheVariants as faults
use Rattle.path_find.specs.Costs.{ReadsEnds, TwoSearches, searches_reads}
use Rattle.path_find.specs.Finding.{IsPathFault}
use Rattle.path_find.specs.Meeting.{reversed}
use Rattle.path_find.specs.Reads.{StandFor, adjacency_of}
use Rattle.traversal_run.specs.Reading.{IsNamedStore}
use Rattle.graph_session.specs.Answer.{Gives}
use Rattle.graph_session.specs.Answering.{reply_of}
use Rattle.graph_session.specs.EdgeResults.{answer_for}
use Rattle.graph_session.specs.Walks.{CostsReply, GivesAt, ReadsForWalk}
use Rattle.graph_session.specs.declared.question.Route.{Route}
use Rattle.graph_session.specs.declared.turn.Turn.{Turn}

-- the types are those of the line
pub walk-reads : (route : Route) (types : List (List ℕ)) → types_of route.label.now ≡ types → (walk numbers : List ℕ) (old new : State)
    → StandFor old.records numbers types
    → (searches : TwoSearches (adjacency_of old route.direction types) (adjacency_of old (reversed route.direction) types) route.from route.to walk)
    → ReadsAtMost (searches_reads old route.direction numbers searches + 2) old new → ReadsForWalk route walk old new
walk-reads route types is walk numbers old new =
    subst (λ (ts : List (List ℕ)). StandFor old.records numbers ts
    → (searches : TwoSearches (adjacency_of old route.direction ts) (adjacency_of old (reversed route.direction) ts) route.from route.to walk)
    → ReadsAtMost (searches_reads old route.direction numbers searches + 2) old new → ReadsForWalk route walk old new) is
    (λ stand searches within. record { numbers = numbers; stand = stand; searches = searches; within = within })

module _ {K : Type 0} {sink : SinkGhosts K} (Costs : List (List ℕ) → List ℕ → Type 0) (old new : State) (names : List (List ℕ))
    (store : IsNamedStore old.records old.shape names) (from to : ℕ) {prefix : List ℕ} {before after : K} {turn : Turn} where
  -- where no walk is found; a store has no damaged record
  pub costs-fault : (fault : ExpandFault) → ReadsEnds old new fault → IsPathFault old from to fault
      → Gives sink (prefixed_text prefix (reply_of (answer_for fault))) before after turn → GivesAt sink (CostsReply Costs old new) prefix before after turn
  costs-fault (faults.NoNode id) ends why gives = record {
    reply = Refused (refusals.NoNode id);
    gives = gives;
    costs = record { count = ends.count; within = ends.within; is = ends.is };
  }
  costs-fault faults.Memory ends why gives = record { reply = Faulted [] NoMemory; gives = gives; costs = tt }
  costs-fault faults.Disk ends why gives = record { reply = Faulted [] DiskFailed; gives = gives; costs = tt }
  costs-fault (faults.Damaged damage) ends why gives =
      absurd (none_at_all old.records old.shape (record { store = store.store; indexes = store.indexes }) damage (inl why))
