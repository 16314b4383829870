-- What a reader's stop says of the line: its leftmost fault, and that it spells no command.
use Rattle.std.proofs.Common.{◌≡◌, ◌≢◌, ◌≤◌, ◌<◌, ◌+◌, ◌-◌, ℕ, List, ◌++◌, length, take, drop, refl, sym, ap, ◌∙◌}
use Rattle.std.proofs.Common.{subst, ⊎_elim, add-zero, length-append, arith}
use Rattle.std.proofs.lemmas.List.{append-nil}
use Rattle.std.specs.List.{prefix_len}
use Rattle.std.proofs.lemmas.Bool.{cases_lt}
use Rattle.plain_graph.specs.declared.command.Command.{Command}
use Rattle.gremlin_parse.specs.Commands.{IsTail, KeepsTail, NeedsNoMemory}
use Rattle.gremlin_parse.specs.Grammar.{is_blank}
use Rattle.gremlin_parse.specs.Lines.{AfterFront, BadLine, IsLooseTail, NeedsMemory, Spells, IsLine, HasBad, HasFault, IsLeftmostFault, place_of}
use Rattle.gremlin_parse.specs.Tags.{after_tag}
use Rattle.gremlin_parse.specs.Faults.{IsViable, StopsAt}
use Rattle.gremlin_parse.specs.Reading.{StopsBefore}
use Rattle.gremlin_parse.specs.Symbols.{AnyBlanks, Takes}
use Rattle.gremlin_parse.specs.Stopping.{BadStop, IsStop, left_of, fault_of, bad_fault}
use Rattle.gremlin_parse.specs.declared.bad_token.BadToken.{BadToken}
use Rattle.gremlin_parse.specs.declared.bad_token.BadToken.TheVariants.{LongName, LongText, WideNumber, WrongTimes, UnfitStep, LateStep}
use Rattle.gremlin_parse.specs.declared.line_fault.LineFault.{LineFault}
use Rattle.gremlin_parse.specs.declared.line_fault.LineFault.TheVariants as faults
use Rattle.gremlin_parse.specs.declared.stop.Stop.{Stop}
use Rattle.gremlin_parse.specs.declared.stop.Stop.TheVariants as stops
use Rattle.gremlin_parse.proofs.Stops.{StopsBefore-refuses, StopsBefore-StopsAt, take-append-add}
use Rattle.gremlin_parse.proofs.Commands.{commands_agree}
use Rattle.gremlin_parse.proofs.Runs.{cut_run}
use Rattle.gremlin_parse.proofs.Lines.{tail_after, spelled_after, bad_tail_after, no_bad_tail, spelled_loosely, spelled_keeps}

-- ---- places

-- A prefix of the line with which some line begins is no longer than the place where reading stops.
viable_is_before : (Language : List ℕ → Type 0) (line read unread : List ℕ) (left at : ℕ) → StopsAt Language line at → line ≡ read ++ unread
    → left ≡ length unread → IsViable Language read → length line - left ≤ at
viable_is_before Language line read unread left at stop line_is left_is viable =
    let len : length line ≡ length read + length unread = ap length line_is ∙ length-append read unread in
    let prefix : take (length read) line ≡ read = ap (λ k. take k line) (sym (add-zero (length read))) ∙ ap (take (length read + 0)) line_is
    ∙ take-append-add read unread 0 ∙ append-nil read in
    ⊎_elim
    (λ (above : at < length read). absurd (stop.longest (length read) above (omega arith) (subst (IsViable Language) (sym prefix) viable)))
    (λ (below : length read ≤ at). omega arith)
    (cases_lt at (length read))

bad_within : (kind : BadToken) (line : List ℕ) (at : ℕ) → HasBad kind line at → at ≤ length line
bad_within kind line at (left, place, found) = omega (arith, place)

bad_line_at : (kind : BadToken) (line : List ℕ) (at : ℕ) → HasBad kind line at → BadLine kind (length line - at) line
bad_line_at kind line at has = let within = bad_within kind line at has in (at, omega arith, has)

-- ---- the leftmost fault

syntax_before : (line : List ℕ) (left : ℕ) → StopsBefore IsLine line left → ((kind : BadToken) (place : ℕ) → ¬ BadLine kind place line) → (other : LineFault)
    → HasFault line other → length line - left ≤ place_of other
syntax_before line left stop none faults.Memory has = absurd has
syntax_before line left stop none (faults.Syntax place) has = viable_is_before IsLine line stop.read stop.unread left place has.1 stop.bytes_are stop.left_is
    stop.viable
syntax_before line left stop none (faults.NameLength place) has = absurd (none LongName (length line - place) (bad_line_at LongName line place has))
syntax_before line left stop none (faults.TextLength place) has = absurd (none LongText (length line - place) (bad_line_at LongText line place has))
syntax_before line left stop none (faults.NumberRange place) has = absurd (none WideNumber (length line - place) (bad_line_at WideNumber line place has))
syntax_before line left stop none (faults.TimesRange place) has = absurd (none WrongTimes (length line - place) (bad_line_at WrongTimes line place has))
syntax_before line left stop none (faults.StepKind place) has = absurd (none UnfitStep (length line - place) (bad_line_at UnfitStep line place has))
syntax_before line left stop none (faults.TooManySteps place) has = absurd (none LateStep (length line - place) (bad_line_at LateStep line place has))

bad_before : (kind : BadToken) (line : List ℕ) (left : ℕ) → BadStop IsLine BadLine kind line left → (other : LineFault) → HasFault line other
    → length line - left ≤ place_of other
bad_before kind line left stop faults.Memory has = absurd has
bad_before kind line left stop (faults.Syntax place) has = viable_is_before IsLine line stop.read stop.unread left place has.1 stop.bytes_are stop.left_is
    stop.viable
bad_before kind line left stop (faults.NameLength place) has =
    let within = bad_within LongName line place has in
    let le = stop.first LongName (length line - place) (bad_line_at LongName line place has) in
    omega arith
bad_before kind line left stop (faults.TextLength place) has =
    let within = bad_within LongText line place has in
    let le = stop.first LongText (length line - place) (bad_line_at LongText line place has) in
    omega arith
bad_before kind line left stop (faults.NumberRange place) has =
    let within = bad_within WideNumber line place has in
    let le = stop.first WideNumber (length line - place) (bad_line_at WideNumber line place has) in
    omega arith
bad_before kind line left stop (faults.TimesRange place) has =
    let within = bad_within WrongTimes line place has in
    let le = stop.first WrongTimes (length line - place) (bad_line_at WrongTimes line place has) in
    omega arith
bad_before kind line left stop (faults.StepKind place) has =
    let within = bad_within UnfitStep line place has in
    let le = stop.first UnfitStep (length line - place) (bad_line_at UnfitStep line place has) in
    omega arith
bad_before kind line left stop (faults.TooManySteps place) has =
    let within = bad_within LateStep line place has in
    let le = stop.first LateStep (length line - place) (bad_line_at LateStep line place has) in
    omega arith

has_bad : (kind : BadToken) (line : List ℕ) (left : ℕ) → BadLine kind left line → HasBad kind line (length line - left)
has_bad kind line left (at, place, has) = let at_is : at ≡ length line - left = omega arith in subst (HasBad kind line) at_is has

bad_leftmost : (kind : BadToken) (line : List ℕ) (left : ℕ) → BadStop IsLine BadLine kind line left → IsLeftmostFault line (bad_fault kind (length line - left))
bad_leftmost LongName line left stop = record { has = has_bad LongName line left stop.has; leftmost = bad_before LongName line left stop }
bad_leftmost LongText line left stop = record { has = has_bad LongText line left stop.has; leftmost = bad_before LongText line left stop }
bad_leftmost WideNumber line left stop = record { has = has_bad WideNumber line left stop.has; leftmost = bad_before WideNumber line left stop }
bad_leftmost WrongTimes line left stop = record { has = has_bad WrongTimes line left stop.has; leftmost = bad_before WrongTimes line left stop }
bad_leftmost UnfitStep line left stop = record { has = has_bad UnfitStep line left stop.has; leftmost = bad_before UnfitStep line left stop }
bad_leftmost LateStep line left stop = record { has = has_bad LateStep line left stop.has; leftmost = bad_before LateStep line left stop }

pub fault_is_leftmost : (Lack : Type 0) (line : List ℕ) (stop : Stop) → IsStop IsLine BadLine Lack line stop → fault_of stop (length line) ≢ faults.Memory
    → IsLeftmostFault line (fault_of stop (length line))
fault_is_leftmost Lack line stops.Memory at some = absurd (some refl)
fault_is_leftmost Lack line (stops.Syntax left) at some = record {
  has = (StopsBefore-refuses IsLine line left at.0, StopsBefore-StopsAt IsLine line left at.0);
  leftmost = syntax_before line left at.0 at.1;
}
fault_is_leftmost Lack line (stops.Bad kind left) at some = bad_leftmost kind line left at

-- a stop is within the line
pub stop_within : (Lack : Type 0) (line : List ℕ) (stop : Stop) → IsStop IsLine BadLine Lack line stop → left_of stop ≤ length line
stop_within Lack line stops.Memory at = omega arith
stop_within Lack line (stops.Syntax left) at =
    let len : length line ≡ length at.0.read + length at.0.unread = ap length at.0.bytes_are ∙ length-append at.0.read at.0.unread in
    omega (arith, at.0.left_is, len)
stop_within Lack line (stops.Bad kind left) at =
    let len : length line ≡ length at.read + length at.unread = ap length at.bytes_are ∙ length-append at.read at.unread in
    omega (arith, at.left_is, len)

-- ---- commands

-- A command within its bounds leaves no bad token.
no_bad_of : (line rest bytes : List ℕ) (command : Command) → rest ≡ after_tag line → Takes AnyBlanks tt rest bytes → IsTail command bytes
    → KeepsTail command bytes → (kind : BadToken) (place : ℕ) → ¬ HasBad kind line place
no_bad_of line rest bytes command rest_is takes tail keeps kind place = λ has.
    no_bad_tail command bytes tail keeps kind (length line - place) (bad_tail_after kind (length line - place) line rest bytes rest_is takes
    (bad_line_at kind line place has))

pub no_fault_of : (line rest bytes : List ℕ) (command : Command) → rest ≡ after_tag line → Takes AnyBlanks tt rest bytes → IsTail command bytes
    → KeepsTail command bytes → (fault : LineFault) → ¬ HasFault line fault
no_fault_of line rest bytes command rest_is takes tail keeps faults.Memory = λ has. has
no_fault_of line rest bytes command rest_is takes tail keeps (faults.Syntax place) = λ has.
    has.0 (command, subst (AfterFront (IsLooseTail command)) rest_is (spelled_after command rest bytes takes tail))
no_fault_of line rest bytes command rest_is takes tail keeps (faults.NameLength place) =
    no_bad_of line rest bytes command rest_is takes tail keeps LongName place
no_fault_of line rest bytes command rest_is takes tail keeps (faults.TextLength place) =
    no_bad_of line rest bytes command rest_is takes tail keeps LongText place
no_fault_of line rest bytes command rest_is takes tail keeps (faults.NumberRange place) =
    no_bad_of line rest bytes command rest_is takes tail keeps WideNumber place
no_fault_of line rest bytes command rest_is takes tail keeps (faults.TimesRange place) =
    no_bad_of line rest bytes command rest_is takes tail keeps WrongTimes place
no_fault_of line rest bytes command rest_is takes tail keeps (faults.StepKind place) =
    no_bad_of line rest bytes command rest_is takes tail keeps UnfitStep place
no_fault_of line rest bytes command rest_is takes tail keeps (faults.TooManySteps place) =
    no_bad_of line rest bytes command rest_is takes tail keeps LateStep place

-- the tail of a line that spells a command
tail_of : (line rest bytes : List ℕ) (command : Command) → rest ≡ after_tag line → Takes AnyBlanks tt rest bytes → Spells line command → IsTail command bytes
tail_of line rest bytes command rest_is takes spelled = tail_after command rest bytes takes
    (subst (AfterFront (IsLooseTail command)) (sym rest_is) (spelled_loosely line command spelled))

pub only_command : (line rest bytes : List ℕ) (command : Command) → rest ≡ after_tag line → Takes AnyBlanks tt rest bytes → IsTail command bytes
    → (other : Command) → Spells line other → other ≡ command
only_command line rest bytes command rest_is takes tail other spelled =
    commands_agree command other bytes tail (tail_of line rest bytes other rest_is takes spelled)

-- the blanks at the head
takes_blanks : (rest : List ℕ) → Takes AnyBlanks tt rest (drop (prefix_len is_blank rest) rest)
takes_blanks rest = let cut = cut_run is_blank rest in record {
  prefix = take (prefix_len is_blank rest) rest;
  bytes_are = cut.bytes_are;
  is = cut.passes;
  ends = cut.ends;
}

no_command_at_bad : (kind : BadToken) (line : List ℕ) (left : ℕ) → BadLine kind left line → (command : Command) → ¬ Spells line command
no_command_at_bad kind line left bad command = λ spelled.
    let rest : List ℕ = after_tag line in
    let takes = takes_blanks rest in
    let bytes : List ℕ = drop (prefix_len is_blank rest) rest in
    no_bad_tail command bytes (tail_of line rest bytes command refl takes spelled) (spelled_keeps rest bytes command takes spelled) kind left
    (bad_tail_after kind left line rest bytes refl takes bad)

pub no_command_at : (Lack : Type 0) (line : List ℕ) (stop : Stop) → IsStop IsLine BadLine Lack line stop → fault_of stop (length line) ≢ faults.Memory
    → (command : Command) → ¬ Spells line command
no_command_at Lack line stops.Memory at some = absurd (some refl)
no_command_at Lack line (stops.Syntax left) at some = λ command spelled.
    StopsBefore-refuses IsLine line left at.0 (command, spelled_loosely line command spelled)
no_command_at Lack line (stops.Bad kind left) at some = no_command_at_bad kind line left at.has

pub no_such_command : (line : List ℕ) (stop : Stop) → IsStop IsLine BadLine (NeedsMemory line) line stop → fault_of stop (length line) ≡ faults.Memory
    → (command : Command) → NeedsNoMemory command → ¬ Spells line command
no_such_command line stops.Memory lacks same = lacks
no_such_command line (stops.Syntax left) at same = cc
no_such_command line (stops.Bad LongName left) at same = cc
no_such_command line (stops.Bad LongText left) at same = cc
no_such_command line (stops.Bad WideNumber left) at same = cc
no_such_command line (stops.Bad WrongTimes left) at same = cc
no_such_command line (stops.Bad UnfitStep left) at same = cc
no_such_command line (stops.Bad LateStep left) at same = cc
