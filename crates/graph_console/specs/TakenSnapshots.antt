-- The snapshots that are open in a run, and what they see.
use Rattle.std.specs.Prelude.{◌≡◌, ℕ, List, ◌∷◌, ◌++◌}
use Rattle.std.specs.List.{AllByRecursion}
use Rattle.plain_graph.specs.Graph.{Graph}
use Rattle.plain_graph.specs.Reply.{Done}
use Rattle.plain_graph.specs.declared.command.Command.TheVariants as commands
use Rattle.graph_session.specs.Exchange.{Exchange}
use Rattle.graph_session.specs.SharedExchange.{AsksForSnapshot}
use Rattle.graph_session.specs.Snapshots.{SharedState}
use Rattle.graph_session.specs.State.{SpellsLine, session_in}
use Rattle.graph_console.specs.Run.{Run}

-- the line takes a snapshot for this session
abbrev pub TakesSnapshot : ℕ → Exchange → Type 0
TakesSnapshot reader x =
    (session_in x.line ≡ reader) × SpellsLine x.line commands.Snapshot × (x.reply ≡ Done)

-- it takes one for this session, or releases its own
abbrev pub MovesSnapshot : ℕ → Exchange → Type 0
MovesSnapshot reader x =
    (session_in x.line ≡ reader) × AsksForSnapshot x.line × (x.reply ≡ Done)

-- The session took its snapshot in the run, and has had it since. It sees the graph that was
-- committed then.
pub record HasTaken (tells : Type 0) (first : SharedState) (run : List Exchange) (reader : ℕ)
    (graph : Graph) : Type 0 where
  pub before : List Exchange
  pub taking : Exchange
  pub later : List Exchange
  pub run_is : run ≡ before ++ taking ∷ later
  pub state : SharedState
  pub leads : Run tells first before state
  pub takes : TakesSnapshot reader taking
  pub graph_is : graph ≡ state.writer.committed
  pub since : AllByRecursion (λ x. ¬ MovesSnapshot reader x) later
