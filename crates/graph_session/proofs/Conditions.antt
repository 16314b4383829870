-- Which of the conditions of a refusal hold.
use Rattle.std.proofs.Common.{◌≡◌, ◌≢◌, ◌⊎◌, ◌+◌, ◌<◌, ◌≤◌, ℕ, Some, List, [], ◌∷◌, ◌++◌, inl, inr, refl, sym, subst, arith}
use Rattle.stream_io.specs.Lines.{Long, Whole}
use Rattle.plain_graph.specs.Changes.{IsChange, most_weight}
use Rattle.plain_graph.specs.Graph.{empty_graph}
use Rattle.plain_graph.specs.LineChanges.{LineWeighs, line_reasons}
use Rattle.plain_graph.specs.Refusals.{FirstReason, NoReason, Reason, change_reasons}
use Rattle.plain_graph.specs.declared.command.Command.{Command}
use Rattle.plain_graph.specs.declared.command.Command.TheVariants as commands
use Rattle.plain_graph.specs.declared.refusal.Refusal.{Refusal}
use Rattle.plain_graph.specs.declared.refusal.Refusal.TheVariants as refusals
use Rattle.plain_graph.proofs.LineLaws.{change_first, change_free}
use Rattle.gremlin_parse.specs.Lines.{IsLeftmostFault}
use Rattle.gremlin_parse.specs.declared.line_fault.LineFault.{LineFault}
use Rattle.graph_session.specs.Refusals.{Condition, FirstHolds, IsAccepted, IsReached, IsRefused, NoneHolds, SpellsOnly}
use Rattle.graph_session.specs.Refusals.{conditions_of, early_order, grammar_fault, late_order, line_too_long}
use Rattle.graph_session.specs.Refusals.{no_transaction, refusal_of, store_failed, transaction_full, transaction_open}
use Rattle.graph_session.specs.Refusals.{weight_before}
use Rattle.graph_session.specs.State.{IsFailed, IsOpen, SpellsLine, State, seen}
use Rattle.graph_session.proofs.Reasons.{unchanging-free, unchanging-unrefused}
use Rattle.graph_session.proofs.Spelling.{IsMute, silent-mute, spells-same}
use Rattle.graph_session.proofs.Weights.{LineWeighs-change}

-- the condition doesn't hold, whatever it would tell
abbrev pub Fails : Condition → State → List ℕ → Type 0
Fails condition state line = (why : Refusal) → ¬ condition state (Whole line) why

-- these commands need that no transaction is open
abbrev pub NeedsNone : Command → Type 0
NeedsNone command = (command ≡ commands.Begin) ⊎ (command ≡ commands.Checkpoint) ⊎ (command ≡ commands.Reopen)

-- and these that one is
abbrev pub NeedsOne : Command → Type 0
NeedsOne command = (command ≡ commands.Commit) ⊎ (command ≡ commands.Rollback)

-- the disk has not failed the console, or it is told to find the store again
abbrev pub MayServe : State → Command → Type 0
MayServe state command = (¬ IsFailed state.standing) ⊎ (command ≡ commands.Reopen)

-- no condition of two lists, one after the other
none_both : (front later : List Condition) (state : State) (line : List ℕ) → NoneHolds front state (Whole line) → NoneHolds later state (Whole line)
    → NoneHolds (front ++ later) state (Whole line)
none_both [] later state line none more = more
none_both (condition ∷ front) later state line none more = (none.0, none_both front later state line none.1 more)

-- the first of a list, where none of those before it holds
first_after : (front later : List Condition) (state : State) (line : List ℕ) (why : Refusal) → NoneHolds front state (Whole line)
    → FirstHolds later state (Whole line) why → FirstHolds (front ++ later) state (Whole line) why
first_after [] later state line why none first = first
first_after (condition ∷ front) later state line why none first = inr (none.0, first_after front later state line why none.1 first)

-- the first of a list is that of a longer one
first_front : (front later : List Condition) (state : State) (line : List ℕ) (why : Refusal) → FirstHolds front state (Whole line) why
    → FirstHolds (front ++ later) state (Whole line) why
first_front [] later state line why first = absurd first
first_front (condition ∷ front) later state line why (inl h) = inl h
first_front (condition ∷ front) later state line why (inr h) = inr (h.0, first_front front later state line why h.1)

-- a line that is too long
pub long-refused : (state : State) → IsRefused state Long refusals.LongLine
long-refused state = inl (refl, refl)

-- no line that is read whole is too long
pub whole : (state : State) (line : List ℕ) → Fails line_too_long state line
whole state line why h = cc

-- a line with a fault of the grammar
pub fault-refused : (state : State) (line : List ℕ) (fault : LineFault) (why : Refusal) → IsLeftmostFault line fault → refusal_of fault ≡ Some why
    → IsRefused state (Whole line) why
fault-refused state line fault why leftmost told = inr (whole state line, inl (line, refl, fault, leftmost, told))

-- what the command weighs in the graph that the line sees
abbrev pub WeighsIn : State → Command → ℕ → Type 0
WeighsIn state command weight = LineWeighs state.shape.limit state.shape.threshold (seen state) command weight

-- the command fits into the transaction: the open one, or one by itself
abbrev pub IsLight : State → Command → Type 0
IsLight state command = (weight : ℕ) → WeighsIn state command weight → weight_before state.open_one + weight ≤ most_weight

-- it does, by the one number that the command weighs
pub weight-light : (state : State) (command : Command) (weight : ℕ) → ((other : ℕ) → WeighsIn state command other → other ≡ weight)
    → weight_before state.open_one + weight ≤ most_weight → IsLight state command
weight-light state command weight one fits other weighs = let same = one other weighs in omega (arith, same, fits)

-- No reason holds of a line of blanks, and none of another command that neither changes the graph nor names a node of it.
pub idle_reasons : NoReason change_reasons 0 empty_graph commands.Blank
idle_reasons = unchanging-free commands.Blank (λ h. h) 0 empty_graph tt tt

module _ (state : State) {line : List ℕ} {command : Command} (only : SpellsOnly line command) where
  -- a line that spells a command has no fault of the grammar
  pub faultless : Fails grammar_fault state line
  faultless why (bytes, is, fault, leftmost, told) = only.no_fault fault (subst (λ (found : List ℕ). IsLeftmostFault found fault) (same bytes is) leftmost).has
    where
      same : (bytes : List ℕ) → Whole line ≡ Whole bytes → bytes ≡ line
      same bytes e = cc

  pub serves : MayServe state command → Fails store_failed state line
  serves (inl live) why h = live h.0
  serves (inr again) why h = h.2 (subst (λ (c : Command). SpellsOnly line c) again only).spelled

  none_open : (NeedsNone command → ¬ IsOpen state) → Fails transaction_open state line
  none_open closed why (open_one, inl h, told) = closed (inl (spells-same only commands.Begin h)) open_one
  none_open closed why (open_one, inr (inl h), told) = closed (inr (inl (spells-same only commands.Checkpoint h))) open_one
  none_open closed why (open_one, inr (inr h), told) = closed (inr (inr (spells-same only commands.Reopen h))) open_one

  one_open : (NeedsOne command → IsOpen state) → Fails no_transaction state line
  one_open opened why (none, inl h, told) = none (opened (inl (spells-same only commands.Commit h)))
  one_open opened why (none, inr h, told) = none (opened (inr (spells-same only commands.Rollback h)))

  -- the graph is looked at
  pub reached : MayServe state command → (NeedsNone command → ¬ IsOpen state) → (NeedsOne command → IsOpen state) → IsReached state (Whole line)
  reached may none one = (whole state line, (faultless, (serves may, (none_open none, (one_open one, tt)))))

  -- a failed console refuses a line that gets a reply
  pub failed-refused : IsFailed state.standing → ¬ IsMute command → command ≢ commands.Reopen → IsRefused state (Whole line) refusals.Failed
  failed-refused failed loud other = inr (
    whole state line,
    inr (
      faultless,
      inl (
        failed,
        (λ h. loud (silent-mute only h)),
        (λ h. other (spells-same only commands.Reopen h)),
        refl,
      ),
    ),
  )

  spells : (other : Command) → command ≡ other → SpellsLine (Whole line) other
  spells other e = (subst (λ (c : Command). SpellsOnly line c) e only).spelled

  -- a transaction is open
  pub open-refused : MayServe state command → NeedsNone command → IsOpen state → IsRefused state (Whole line) refusals.TransactionOpen
  open-refused may needs open_one = inr (whole state line, inr (faultless, inr (serves may, inl (open_one, spelled needs, refl))))
    where
      spelled : NeedsNone command → SpellsLine (Whole line) commands.Begin ⊎ SpellsLine (Whole line) commands.Checkpoint
          ⊎ SpellsLine (Whole line) commands.Reopen
      spelled (inl e) = inl (spells commands.Begin e)
      spelled (inr (inl e)) = inr (inl (spells commands.Checkpoint e))
      spelled (inr (inr e)) = inr (inr (spells commands.Reopen e))

  -- none is open
  pub closed-refused : MayServe state command → NeedsOne command → ¬ NeedsNone command → ¬ IsOpen state → IsRefused state (Whole line) refusals.NoTransaction
  closed-refused may needs other none = inr (
    whole state line,
    inr (
      faultless,
      inr (
        serves may,
        inr (
          none_open (λ h. absurd (other h)),
          inl
              (none, spelled needs, refl),
        ),
      ),
    ),
  )
    where
      spelled : NeedsOne command → SpellsLine (Whole line) commands.Commit ⊎ SpellsLine (Whole line) commands.Rollback
      spelled (inl e) = inl (spells commands.Commit e)
      spelled (inr e) = inr (spells commands.Rollback e)

  -- what a reason says of the command, its condition says of the line
  reason-spelled : (reason : Reason) (other : Command) (why : Refusal) → SpellsLine (Whole line) other → reason state.shape.limit (seen state) other why
      → reason state.shape.limit (seen state) command why
  reason-spelled reason other why spelled h = subst (λ (c : Command). reason state.shape.limit (seen state) c why) (sym (spells-same only other spelled)) h

  none-spelled : (reasons : List Reason) → NoReason reasons state.shape.limit (seen state) command → NoneHolds (conditions_of reasons) state (Whole line)
  none-spelled [] none = tt
  none-spelled (reason ∷ later) none = (λ why h. none.0 why (reason-spelled reason h.0 why h.1 h.2), none-spelled later none.1)

  first-spelled : (reasons : List Reason) (why : Refusal) → FirstReason reasons state.shape.limit (seen state) command why
      → FirstHolds (conditions_of reasons) state (Whole line) why
  first-spelled [] why first = absurd first
  first-spelled (reason ∷ later) why (inl h) = inl (command, only.spelled, h)
  first-spelled (reason ∷ later) why (inr h) = inr (λ other k. h.0 other (reason-spelled reason k.0 other k.1 k.2), first-spelled later why h.1)

  -- a light command's line has room in the transaction
  light-spelled : IsLight state command → Fails transaction_full state line
  light-spelled light why (other, spelled, weight, weighs, more, told) =
      let fits : weight_before state.open_one + weight ≤ most_weight = light weight
      (subst (λ (c : Command). WeighsIn state c weight) (sym (spells-same only other spelled)) weighs) in
      absurd (omega (arith, fits, more))

  -- no reason refuses the command, so no condition refuses the line
  pub accepted : IsReached state (Whole line) → NoReason line_reasons state.shape.limit (seen state) command → IsLight state command
      → IsAccepted state (Whole line)
  accepted reach free light =
      none_both early_order late_order state line reach
      (none_both (conditions_of line_reasons) (transaction_full ∷ []) state line (none-spelled line_reasons free) (light-spelled light, tt))

  -- the first reason refuses the line
  pub refused : IsReached state (Whole line) → (why : Refusal) → FirstReason line_reasons state.shape.limit (seen state) command why
      → IsRefused state (Whole line) why
  refused reach why first =
      first_after early_order late_order state line why reach
      (first_front (conditions_of line_reasons) (transaction_full ∷ []) state line why (first-spelled line_reasons why first))

  -- and so does the first reason of a line that is no mutating query
  pub single-refused : IsReached state (Whole line) → (why : Refusal) → FirstReason change_reasons state.shape.limit (seen state) command why
      → IsRefused state (Whole line) why
  single-refused reach why first = refused reach why (change_first state.shape.limit (seen state) command why first)

  -- the transaction has no room for the weight, and no other reason holds
  pub heavy-refused : NoReason line_reasons state.shape.limit (seen state) command → IsReached state (Whole line) → (weight : ℕ) → WeighsIn state command weight
      → most_weight < weight_before state.open_one + weight
      → IsRefused state (Whole line) refusals.TransactionFull
  heavy-refused none reach weight weighs more =
      first_after early_order late_order state line refusals.TransactionFull reach
      (first_after (conditions_of line_reasons) (transaction_full ∷ []) state line refusals.TransactionFull (none-spelled line_reasons none)
      (inl (command, only.spelled, weight, weighs, more, refl)))

  -- a command that is no change is accepted where the graph is looked at, and refuses it for no reason
  pub idle-accepted : ¬ IsChange command → NoReason change_reasons state.shape.limit (seen state) command → IsReached state (Whole line)
      → IsAccepted state (Whole line)
  idle-accepted idle free reach =
      accepted reach (change_free state.shape.limit (seen state) command (unchanging-unrefused command idle state.shape.limit (seen state)) free)
      (λ weight weighs. absurd (idle (LineWeighs-change state.shape.limit state.shape.threshold (seen state) command weight weighs)))
