-- Why a line is refused: conditions in the order in which they count.
use Rattle.std.specs.Prelude.{◌≡◌, ◌⊎◌, ℕ, ◌+◌, ◌<◌, Option, Some, None, List, [], ◌∷◌, ◌++◌}
use Rattle.stream_io.specs.Lines.{InputLine, Whole, Long}
use Rattle.plain_graph.specs.Changes.{most_weight, start_weight}
use Rattle.plain_graph.specs.LineChanges.{LineWeighs, line_reasons}
use Rattle.plain_graph.specs.Refusals.{Reason}
use Rattle.plain_graph.specs.declared.command.Command.{Command}
use Rattle.plain_graph.specs.declared.command.Command.TheVariants as commands
use Rattle.plain_graph.specs.declared.refusal.Refusal.{Refusal}
use Rattle.plain_graph.specs.declared.refusal.Refusal.TheVariants as refusals
use Rattle.gremlin_parse.specs.Lines.{HasFault, IsLeftmostFault, Spells}
use Rattle.gremlin_parse.specs.declared.line_fault.LineFault.{LineFault}
use Rattle.gremlin_parse.specs.declared.line_fault.LineFault.TheVariants as faults
use Rattle.graph_session.specs.State.{IsFailed, IsOpen, IsSilent, SpellsLine, State, Transaction}
use Rattle.graph_session.specs.State.{seen}

-- in this state the line is refused so
abbrev pub Condition : Type 1
Condition = State → InputLine → Refusal → Type 0

-- the line has more than 8,192 bytes
abbrev pub line_too_long : Condition
line_too_long state line why = (line ≡ Long) × (why ≡ refusals.LongLine)

-- what is told of a fault of the grammar
abbrev pub refusal_of : LineFault → Option Refusal
refusal_of faults.Memory = None
refusal_of (faults.Syntax at) = Some (refusals.Syntax at)
refusal_of (faults.NameLength at) = Some (refusals.NameLength at)
refusal_of (faults.TextLength at) = Some (refusals.TextLength at)
refusal_of (faults.NumberRange at) = Some (refusals.NumberRange at)
refusal_of (faults.StepKind at) = Some (refusals.StepKind at)
refusal_of (faults.TooManySteps at) = Some (refusals.TooManySteps at)
refusal_of (faults.TimesRange at) = Some (refusals.TimesRange at)

-- the line spells no command; its leftmost fault is told
abbrev pub grammar_fault : Condition
grammar_fault state line why =
    (bytes : List ℕ) × (line ≡ Whole bytes) × (fault : LineFault) × IsLeftmostFault bytes fault
    × (refusal_of fault ≡ Some why)

-- the disk has failed the console, which then answers no line but `reopen` and those without a
-- reply
abbrev pub store_failed : Condition
store_failed state line why =
    IsFailed state.standing × (¬ IsSilent line) × (¬ SpellsLine line commands.Reopen)
    × (why ≡ refusals.Failed)

-- these need that no transaction is open
abbrev pub transaction_open : Condition
transaction_open state line why =
    IsOpen state
    × (SpellsLine line commands.Begin ⊎ SpellsLine line commands.Checkpoint
    ⊎ SpellsLine line commands.Reopen)
    × (why ≡ refusals.TransactionOpen)

-- and these that one is
abbrev pub no_transaction : Condition
no_transaction state line why =
    (¬ IsOpen state) × (SpellsLine line commands.Commit ⊎ SpellsLine line commands.Rollback)
    × (why ≡ refusals.NoTransaction)

-- what a transaction weighs before the line: the open one, or one by itself
abbrev pub weight_before : Option Transaction → ℕ
weight_before None = start_weight
weight_before (Some transaction) = transaction.weight

-- The transaction would weigh more than 2,048. Of changes by themselves only those of a mutating
-- query come to that.
abbrev pub transaction_full : Condition
transaction_full state line why =
    (command : Command) × SpellsLine line command × (weight : ℕ)
    × LineWeighs state.shape.limit state.shape.threshold (seen state) command weight
    × (most_weight < weight_before state.open_one + weight) × (why ≡ refusals.TransactionFull)

-- the line spells a command that the graph that it sees refuses for this reason
abbrev pub refused_by : Reason → Condition
refused_by reason state line why =
    (command : Command) × SpellsLine line command
    × reason state.shape.limit (seen state) command why

abbrev pub conditions_of : List Reason → List Condition
conditions_of [] = []
conditions_of (reason ∷ later) = refused_by reason ∷ conditions_of later

-- the conditions that count before the graph is looked at
abbrev pub early_order : List Condition
early_order = line_too_long ∷ grammar_fault ∷ store_failed ∷ transaction_open ∷ no_transaction ∷ []

-- those of changes, of the nodes and of the index that a line asks of, and of the transaction's
-- weight
abbrev pub late_order : List Condition
late_order = conditions_of line_reasons ++ transaction_full ∷ []

-- the order in which they count
abbrev pub refusal_order : List Condition
refusal_order =
    line_too_long ∷ grammar_fault ∷ store_failed ∷ transaction_open ∷ no_transaction ∷ late_order

-- the first condition that holds refuses the line so
abbrev pub FirstHolds : List Condition → State → InputLine → Refusal → Type 0
FirstHolds [] state line why = ⊥
FirstHolds (condition ∷ later) state line why =
    condition state line why
    ⊎ (((other : Refusal) → ¬ condition state line other) × FirstHolds later state line why)

abbrev pub NoneHolds : List Condition → State → InputLine → Type 0
NoneHolds [] state line = Unit {0}
NoneHolds (condition ∷ later) state line =
    ((other : Refusal) → ¬ condition state line other) × NoneHolds later state line

abbrev pub IsRefused : State → InputLine → Refusal → Type 0
IsRefused state line why = FirstHolds refusal_order state line why

-- no condition refuses the line before the graph is looked at
abbrev pub IsReached : State → InputLine → Type 0
IsReached state line = NoneHolds early_order state line

abbrev pub IsAccepted : State → InputLine → Type 0
IsAccepted state line = NoneHolds refusal_order state line

-- The line spells this command and no other, and has no fault.
pub record SpellsOnly (line : List ℕ) (command : Command) : Type 0 where
  pub spelled : Spells line command
  pub only : (other : Command) → Spells line other → other ≡ command
  pub no_fault : (fault : LineFault) → ¬ HasFault line fault
