-- The transactions of a run.
use Rattle.std.specs.Prelude.{◌≡◌, ◌⊎◌, is_some, List, [], ◌∷◌, ◌++◌}
use Rattle.stream_io.specs.Lines.{InputLine}
use Rattle.plain_graph.specs.Graph.{Graph}
use Rattle.plain_graph.specs.declared.command.Command.TheVariants as commands
use Rattle.graph_session.specs.Exchange.{Exchange}
use Rattle.graph_session.specs.SharedExchange.{TakesSharedStep}
use Rattle.graph_session.specs.SnapshotEffects.{Confirms}
use Rattle.graph_session.specs.Snapshots.{SharedState}
use Rattle.graph_session.specs.State.{Failed, Live, SpellsLine, Standing, State, session_in}
use Rattle.graph_session.specs.Tapping.{Acknowledges}

-- the line is one of the session that writes
abbrev pub IsOfWriter : InputLine → Type 0
IsOfWriter line = session_in line ≡ 0

-- the exchange, from this state of the session that writes, acknowledges a transaction of it
abbrev pub AcknowledgesFrom : State → Exchange → Type 0
AcknowledgesFrom old x = Acknowledges (is_some old.open_one) x.line x.reply

-- the second of the graphs that were left open
abbrev pub IsSecondOf : Standing → Graph → Type 0
IsSecondOf Live graph = ⊥
IsSecondOf (Failed []) graph = ⊥
IsSecondOf (Failed (a ∷ [])) graph = ⊥
IsSecondOf (Failed (a ∷ b ∷ more)) graph = graph ≡ b

-- A `reopen` of the session that writes finds the second of the graphs that were left open.
abbrev pub FindsSecond : State → Exchange → State → Type 0
FindsSecond old x new =
    IsOfWriter x.line × Confirms x.reply × SpellsLine x.line commands.Reopen
    × IsSecondOf old.standing new.committed

-- The graphs that an exchange adds: one where it acknowledges a transaction, or finds one that was
-- left open. Otherwise the committed graph stays, as after each line of a session that reads.
abbrev pub Adds : State → Exchange → State → List Graph → Type 0
Adds old x new graphs =
    (AcknowledgesFrom old x × (graphs ≡ new.committed ∷ []))
    ⊎ ((¬ AcknowledgesFrom old x) × FindsSecond old x new × (graphs ≡ new.committed ∷ []))
    ⊎ ((¬ AcknowledgesFrom old x) × (new.committed ≡ old.committed) × (graphs ≡ []))

-- The graphs of a run's transactions, after the one that it begins with: one for each acknowledged
-- one, and one where `reopen` finds one that was left open.
abbrev pub Transactions :
    Type 0 → SharedState → List Exchange → SharedState → List Graph → Type 0
Transactions tells first [] last graphs = (last ≡ first) × (graphs ≡ [])
Transactions tells first (x ∷ later) last graphs =
    (next : SharedState) × TakesSharedStep tells first x next × (more : List Graph)
    × (rest : List Graph) × Adds first.writer x next.writer more
    × Transactions tells next later last rest × (graphs ≡ more ++ rest)

-- the last of them
abbrev pub last_graph : Graph → List Graph → Graph
last_graph start [] = start
last_graph start (graph ∷ later) = last_graph graph later
