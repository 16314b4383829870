-- What `sample SEED COUNT` runs on a store of its own, and what it writes.
use Rattle.std.specs.Prelude.{◌≡◌, ◌≢◌, ◌⊎◌, ℕ, zero, suc, ◌+◌, ◌%◌, ◌≤◌, Bool, false, ◌||◌, nat_eq}
use Rattle.std.specs.Prelude.{nat_le, if◌then◌else◌, Some, None, List, [], ◌∷◌, ◌++◌, length, map}
use Rattle.std.specs.Prelude.{slice_index, codes, decimal}
use Rattle.std.specs.List.{AllByRecursion, ends_with}
use Rattle.disk_model.specs.Generator.{drawn, state_after}
use Rattle.stream_io.specs.Lines.{Whole}
use Rattle.plain_graph.specs.Graph.{empty_graph}
use Rattle.plain_graph.specs.Reply.{DiskFailed, EdgeMade, NodeMade, fault_line, reply_text}
use Rattle.plain_graph.specs.Reply.{NoMemory as WantOfMemory}
use Rattle.console_words.specs.declared.sample_options.SampleOptions.{SampleOptions}
use Rattle.txn_core.specs.declared.config.Config.{Config}
use Rattle.graph_session.specs.Exchange.{Exchange}
use Rattle.graph_session.specs.Snapshots.{SharedState}
use Rattle.graph_session.specs.State.{Live}
use Rattle.graph_console.specs.Run.{Run, begins_with, exchange_text, run_lines, run_text}
use Rattle.graph_console.specs.declared.exit.Exit.{Exit}
use Rattle.graph_console.specs.declared.exit.Exit.TheVariants as exits

-- The state of the generator of numbers, and the identifiers that replies gave: of the nodes in the
-- order made, and of the edges that are not deleted, the oldest first.
pub record SampleState : Type 0 where
  pub x : ℕ
  pub nodes : List ℕ
  pub edges : List ℕ

-- the line of a turn, and the state that it leaves until its reply comes
pub record SampleTurn : Type 0 where
  pub line : List ℕ
  pub after : SampleState

-- the state at the start: nothing was drawn from the seed, and nothing made
abbrev pub sample_start : ℕ → SampleState
sample_start seed = record { x = seed; nodes = []; edges = [] }

-- the state when so many numbers more were drawn
abbrev pub after_draws : ℕ → SampleState → SampleState
after_draws draws state = record state { x = state_after state.x draws }

-- The node that two draws pick: its place among the nodes is the second number modulo one more than
-- the first modulo their count, so that the older nodes come more often.
abbrev pub picked_node : SampleState → ℕ
picked_node state =
    slice_index state.nodes (drawn state.x 1 % (drawn state.x 0 % length state.nodes + 1))

-- any node, each as often, by the draw of this number
abbrev pub any_node : SampleState → ℕ → ℕ
any_node state draw = slice_index state.nodes (drawn state.x draw % length state.nodes)

-- the age that the draw of this number gives
abbrev pub drawn_age : SampleState → ℕ → ℕ
drawn_age state draw = drawn state.x draw % 100

-- the types of edges, by number
abbrev pub type_name : ℕ → List ℕ
type_name zero = codes "knows"
type_name (suc zero) = codes "likes"
type_name _ = codes "owns"

-- a turn that makes a node
unfoldable pub node_turn : SampleState → SampleTurn
node_turn state = record {
  line = codes "node person age=" ++ decimal (drawn_age state 0);
  after = after_draws 1 state;
}

-- a turn that makes an edge
unfoldable pub edge_turn : SampleState → SampleTurn
edge_turn state = record {
  line =
      codes "edge " ++ decimal (picked_node state) ++ codes " " ++ type_name (drawn state.x 2 % 3)
      ++ codes " " ++ decimal (any_node state 3);
  after = after_draws 4 state;
}

-- a turn that sets the age of a node
unfoldable pub set_turn : SampleState → SampleTurn
set_turn state = record {
  line =
      codes "set node " ++ decimal (picked_node state) ++ codes " age "
      ++ decimal (drawn_age state 2);
  after = after_draws 3 state;
}

-- a turn that deletes the oldest of these edges, or makes a node where there is none
unfoldable pub deletion_turn : SampleState → List ℕ → SampleTurn
deletion_turn state [] = node_turn state
deletion_turn state (oldest ∷ later) = record {
  line = codes "delete edge " ++ decimal oldest;
  after = record state { edges = later };
}

-- the turn of this kind, 0 to 7; without nodes each is one that makes a node
unfoldable pub turn_of : ℕ → SampleState → SampleTurn
turn_of kind state =
    if nat_eq (length state.nodes) 0 || nat_eq kind 0 then node_turn state
    else if nat_le kind 5 then edge_turn state
    else if nat_eq kind 6 then set_turn state
    else deletion_turn state state.edges

-- the turn of a state, whose first draw gives its kind
abbrev pub turn : SampleState → SampleTurn
turn state = turn_of (drawn state.x 0 % 8) (after_draws 1 state)

-- the text is that of no reply that gives an identifier
abbrev pub GivesNone : List ℕ → Type 0
GivesNone text = (id : ℕ) → (text ≢ reply_text (NodeMade id)) × (text ≢ reply_text (EdgeMade id))

-- the text of a reply leads from one state to another: it gives a node, an edge or nothing
abbrev pub Adds : List ℕ → SampleState → SampleState → Type 0
Adds text old new =
    ((id : ℕ) × (text ≡ reply_text (NodeMade id))
    × (new ≡ record old { nodes = old.nodes ++ id ∷ [] }))
    ⊎ ((id : ℕ) × (text ≡ reply_text (EdgeMade id))
    × (new ≡ record old { edges = old.edges ++ id ∷ [] }))
    ⊎ (GivesNone text × (new ≡ old))

-- the last line of the text says that memory lacks, or that the disk failed, which is want of room
-- where the disk is in memory
unfoldable pub tells_failure : List ℕ → Bool
tells_failure text =
    ends_with nat_eq text (fault_line WantOfMemory) || ends_with nat_eq text (fault_line DiskFailed)

-- A turn of the sample: the exchange has its line, and the reply leads to the next state.
pub record TakesTurn (old : SampleState) (x : Exchange) (new : SampleState) : Type 0 where
  pub line : x.line ≡ Whole (turn old).line
  pub well : tells_failure (exchange_text x) ≡ false
  pub adds : Adds (exchange_text x) (turn old).after new

-- one turn for each exchange, from the first state to the last
abbrev pub TakesTurns : SampleState → List Exchange → SampleState → Type 0
TakesTurns first [] last = last ≡ first
TakesTurns first (x ∷ later) last =
    (next : SampleState) × TakesTurn first x next × TakesTurns next later last

-- the exchanges are those of so many turns from the seed
pub record SampleLines (seed count : ℕ) (run : List Exchange) : Type 0 where
  pub last : SampleState
  pub turns : TakesTurns (sample_start seed) run last
  pub many : length run ≡ count

-- the lines that come after the turns
unfoldable pub last_lines : List (List ℕ)
last_lines =
    codes "checkpoint" ∷ codes "reopen" ∷ codes "check" ∷ codes "stats"
    ∷ codes "g.V().out().dedup().count()" ∷ []

-- the store that a sample asks for
abbrev pub sample_config : SampleOptions → Config
sample_config options = record { threshold = Some 50; limit = Some (options.count + 16) }

-- the state of all sessions of a console on that store, which is empty
abbrev pub sample_store : SampleOptions → SharedState
sample_store options =
    begins_with (record {
      shape = record { threshold = 50; limit = options.count + 16 };
      committed = empty_graph;
      open_one = None;
      standing = Live;
    })

-- A run of the console from that store: so many turns, and then these lines, which were answered
-- so.
pub record SampleRun (tells : Type 0) (options : SampleOptions) (turns : ℕ)
    (asked : List (List ℕ)) (answered : List Exchange) (last : SharedState) : Type 0 where
  pub made : List Exchange
  pub steps : Run tells (sample_store options) (made ++ answered) last
  pub generated : SampleLines options.seed turns made
  pub lines : run_lines answered ≡ map Whole asked
  pub well : AllByRecursion (λ x. tells_failure (exchange_text x) ≡ false) answered

-- All turns were taken and all last lines answered, and these are the replies to the latter.
pub record EndsSample (tells : Type 0) (options : SampleOptions) (written : List ℕ) : Type 0 where
  pub answered : List Exchange
  pub last : SharedState
  pub run : SampleRun tells options options.count last_lines answered last
  pub text : written ≡ run_text answered

-- the lines that were asked, when memory lacked in a turn or in one of the last lines
abbrev pub ComesShort : ℕ → ℕ → List (List ℕ) → Type 0
ComesShort count turns asked =
    ((turns ≤ count) × (asked ≡ []))
    ⊎ ((turns ≡ count) × (line : List ℕ) × (later : List (List ℕ))
    × (last_lines ≡ asked ++ line ∷ later))

-- Memory lacked. The replies to the last lines that were answered before were written, and the line
-- that says so.
pub record LacksMemory (tells : Type 0) (options : SampleOptions) (written : List ℕ) : Type 0 where
  pub turns : ℕ
  pub asked : List (List ℕ)
  pub short : ComesShort options.count turns asked
  pub answered : List Exchange
  pub last : SharedState
  pub run : SampleRun tells options turns asked answered last
  pub text : written ≡ run_text answered ++ fault_line WantOfMemory

-- What a sample has written, exit by exit. Where the sink failed, it took a prefix of what one of
-- the other two exits writes.
abbrev pub Samples : Type 0 → SampleOptions → Exit → List ℕ → Type 0
Samples tells options exits.Done written = EndsSample tells options written
Samples tells options exits.NoMemory written = LacksMemory tells options written
Samples tells options exits.OutputFault written =
    (text : List ℕ) × (EndsSample tells options text ⊎ LacksMemory tells options text)
    × (rest : List ℕ) × (text ≡ written ++ rest)
Samples tells options exits.StoreFailed written = ⊥
Samples tells options exits.Usage written = ⊥
Samples tells options exits.InputFault written = ⊥
Samples tells options exits.BadFiles written = ⊥
Samples tells options (exits.ConfigDiffers stored asked) written = ⊥
Samples tells options exits.DiskFault written = ⊥
Samples tells options exits.InputTooLong written = ⊥

-- one of the exits of a sample
abbrev pub IsSampleExit : Exit → Type 0
IsSampleExit exit = (exit ≡ exits.Done) ⊎ (exit ≡ exits.NoMemory) ⊎ (exit ≡ exits.OutputFault)
