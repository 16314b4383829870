-- Runs of the console: one step after another.
use Rattle.std.specs.Prelude.{◌≡◌, ◌⊎◌, ℕ, ◌+◌, ◌-◌, ◌^◌, ◌≤◌, List, [], ◌∷◌, ◌++◌, map, flat_map}
use Rattle.std.specs.Prelude.{length, take}
use Rattle.std.specs.List.{AllByRecursion}
use Rattle.disk_model.specs.Contents.{Files}
use Rattle.stream_io.specs.Lines.{InputLine}
use Rattle.plain_graph.specs.Reply.{prefixed_text}
use Rattle.graph_session.specs.Exchange.{Exchange, told_fault}
use Rattle.graph_session.specs.SharedExchange.{TakesSharedStep}
use Rattle.graph_session.specs.Snapshots.{Readers, SharedState}
use Rattle.graph_session.specs.Stands.{IsAdmitted}
use Rattle.graph_session.specs.State.{State, IsQuit, health_at, prefix_in}
use Rattle.graph_session.specs.declared.health.Health.{Health}

-- no session that reads has a snapshot, nor one that has ended
abbrev pub no_readers : Readers
no_readers = record { open_ones = []; ended = [] }

-- all sessions as a run begins: the one that writes is at this state, and the others have nothing
abbrev pub begins_with : State → SharedState
begins_with writer = record { writer = writer; readers = no_readers }

-- one step of this kind for each exchange, from the first state to the last
abbrev pub RunBy :
    {V : Type 0} → (V → Exchange → V → Type 0) → V → List Exchange → V → Type 0
RunBy Step first [] last = last ≡ first
RunBy {V} Step first (exchange ∷ later) last =
    (next : V) × Step first exchange next × RunBy Step next later last

-- one step for each exchange, of whichever session, from the first state of all sessions to the
-- last; what a step does is said where the disk tells what it reads
abbrev pub Run : Type 0 → SharedState → List Exchange → SharedState → Type 0
Run tells = RunBy (TakesSharedStep tells)

-- what a run goes by: which steps there are, and the health of a state
pub record Course (V : Type 0) : Type 1 where
  pub step : V → Exchange → V → Type 0
  pub health : V → Health

-- the course of a run of the states of all sessions
abbrev pub shared_course : Type 0 → Course SharedState
shared_course tells = record {
  step = TakesSharedStep tells;
  health = λ state. health_at state.writer;
}

-- A run by steps of this kind comes by this state. Its exchanges up to some place lead to it, and
-- the others lead from it to the last.
pub record RunComesBy {V : Type 0} (Step : V → Exchange → V → Type 0) (first : V)
    (run : List Exchange) (last state : V) : Type 0 where
  pub before : List Exchange
  pub later : List Exchange
  pub run_is : run ≡ before ++ later
  pub leads : RunBy Step first before state
  pub goes_on : RunBy Step state later last

-- a run of the states of all sessions comes by this one
abbrev pub ComesBy : Type 0 → SharedState → List Exchange → SharedState → SharedState → Type 0
ComesBy tells = RunComesBy (TakesSharedStep tells)

-- the content stands for a graph that is admitted before or after a line of the run
abbrev pub IsAdmittedInRun :
    Type 0 → SharedState → List Exchange → SharedState → Files → Type 0
IsAdmittedInRun tells first run last content =
    (state : SharedState) × ComesBy tells first run last state × IsAdmitted state.writer content

abbrev pub run_lines : List Exchange → List InputLine
run_lines run = map (λ exchange. exchange.line) run

-- the bytes of the reply, each of whose lines begins with the mark of the line's session
abbrev pub exchange_text : Exchange → List ℕ
exchange_text exchange = prefixed_text (prefix_in exchange.line) exchange.reply

abbrev pub run_text : List Exchange → List ℕ
run_text run = flat_map (λ exchange. exchange_text exchange) run

-- how many replies say that the disk failed
abbrev pub told_faults : List Exchange → ℕ
told_faults [] = 0
told_faults (exchange ∷ later) = told_fault exchange.reply + told_faults later

-- The disk's count rose by as many faults as replies say at least, or has come to its last value.
abbrev pub CountsRises : ℕ → ℕ → List Exchange → Type 0
CountsRises before after run = (told_faults run + before ≤ after) ⊎ (2 ^ 64 - 1 ≤ after)

-- none of the lines is quit
abbrev pub NoQuit : List InputLine → Type 0
NoQuit lines = AllByRecursion (λ line. ¬ IsQuit line) lines

-- the lines up to the first that is quit
pub record EndsWithQuit (lines done : List InputLine) : Type 0 where
  pub before : List InputLine
  pub quit : InputLine
  pub later : List InputLine
  pub no_quit : NoQuit before
  pub is_quit : IsQuit quit
  pub done_is : done ≡ before ++ quit ∷ []
  pub lines_are : lines ≡ done ++ later

-- all of the lines where none is quit, and else those up to the first that is
abbrev pub AreUpToQuit : List InputLine → List InputLine → Type 0
AreUpToQuit lines done = (NoQuit lines × (done ≡ lines)) ⊎ EndsWithQuit lines done

-- these lines are the first of all lines
abbrev pub AreFirstOf : List InputLine → List InputLine → Type 0
AreFirstOf lines done = (later : List InputLine) × (lines ≡ done ++ later)

-- all replies of the run but the last, and a prefix of the last
pub record LacksEnd (run : List Exchange) (text : List ℕ) : Type 0 where
  pub before : List Exchange
  pub last : Exchange
  pub length_of_prefix : ℕ
  pub run_is : run ≡ before ++ last ∷ []
  pub short : length_of_prefix ≤ length (exchange_text last)
  pub text_is : text ≡ run_text before ++ take length_of_prefix (exchange_text last)
