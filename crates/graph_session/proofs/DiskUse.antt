-- What a settled line did with the disk.
use Rattle.std.proofs.Common.{◌≡◌, ◌⊎◌, List, ℕ, [], ◌∷◌, inl, inr, refl, subst}
use Rattle.disk_model.specs.Spans.{OnlyReads}
use Rattle.disk_model.specs.declared.disk.Disk.{Ghosts}
use Rattle.disk_model.proofs.Spans.{OnlyNow, only_reads_none}
use Rattle.stream_io.specs.Lines.{InputLine, Whole}
use Rattle.plain_graph.specs.Changes.{IsChange}
use Rattle.plain_graph.specs.Lines.{IsQuestion}
use Rattle.plain_graph.specs.Reply.{Reply}
use Rattle.plain_graph.specs.declared.command.Command.{Command}
use Rattle.plain_graph.specs.declared.command.Command.TheVariants as commands
use Rattle.plain_graph.specs.declared.refusal.Refusal.{Refusal}
use Rattle.graph_session.specs.DiskUse.{MayWrite, NeedsNoDisk, TellsNoChange, UsesDisk}
use Rattle.graph_session.specs.Refusals.{Condition, FirstHolds, IsReached, NoneHolds, SpellsOnly, early_order}
use Rattle.graph_session.specs.State.{IsSpared, State}
use Rattle.graph_session.proofs.Spelling.{spells-same}

-- the first of conditions of which none holds
pub none-first : (conditions : List Condition) (state : State) (line : InputLine) (why : Refusal) → NoneHolds conditions state line
    → ¬ FirstHolds conditions state line why
none-first [] state line why none first = first
none-first (condition ∷ later) state line why none (inl holds) = none.0 why holds
none-first (condition ∷ later) state line why none (inr more) = none-first later state line why none.1 more.1

-- these need the disk where the graph is looked at
abbrev pub NeedsDisk : Command → Type 0
NeedsDisk commands.Blank = ⊥
NeedsDisk commands.Quit = ⊥
NeedsDisk commands.Begin = ⊥
NeedsDisk commands.Rollback = ⊥
NeedsDisk commands.Stats = ⊥
NeedsDisk _ = Unit {0}

pub change-needs : (command : Command) → IsChange command → NeedsDisk command
change-needs commands.Blank change = change
change-needs commands.Quit change = change
change-needs commands.Begin change = change
change-needs commands.Rollback change = change
change-needs commands.Stats change = change
change-needs _ change = tt

-- what reads needs it, or never lacks memory
pub asks-needs : (command : Command) → IsQuestion command → NeedsDisk command ⊎ IsSpared command
asks-needs commands.Blank asks = absurd asks
asks-needs commands.Quit asks = absurd asks
asks-needs commands.Begin asks = absurd asks
asks-needs commands.Rollback asks = absurd asks
asks-needs commands.Stats asks = inr (inr (inl refl))
asks-needs _ asks = inl tt

module _ {D : Type 0} {g : Ghosts D} {line : InputLine} {before : State} {reply : Reply} where
  -- it was only read, and not called where it is the same
  pub uses-same : (old new : D) → OnlyReads g old new → new ≡ old → UsesDisk g line before reply old new
  uses-same old new reads same = record { no_write = λ none. reads; no_change = λ tells. reads; no_call = λ needs. same }

  -- it was not called
  pub uses-none : OnlyNow g → (disk : D) → UsesDisk g line before reply disk disk
  uses-none only_now disk = uses-same disk disk (only_reads_none g disk only_now) refl

-- a line that is not refused before the graph is looked at
module _ (state : State) {line : List ℕ} {command : Command} (only : SpellsOnly line command) (needs : NeedsDisk command) (reach : IsReached state (Whole line))
  where
    needs-disk : ¬ NeedsNoDisk state (Whole line)
    needs-disk (inl (why, first)) = none-first early_order state (Whole line) why reach first
    needs-disk (inr (inl (inl h))) = subst NeedsDisk (spells-same only commands.Blank h) needs
    needs-disk (inr (inl (inr h))) = subst NeedsDisk (spells-same only commands.Quit h) needs
    needs-disk (inr (inr (inl h))) = subst NeedsDisk (spells-same only commands.Begin h) needs
    needs-disk (inr (inr (inr (inl h)))) = subst NeedsDisk (spells-same only commands.Rollback h) needs
    needs-disk (inr (inr (inr (inr h)))) = subst NeedsDisk (spells-same only commands.Stats h) needs

    module _ {D : Type 0} {g : Ghosts D} {reply : Reply} {old new : D} where
      pub uses-reads : OnlyReads g old new → UsesDisk g (Whole line) state reply old new
      uses-reads reads = record { no_write = λ none. reads; no_change = λ tells. reads; no_call = λ idle. absurd (needs-disk idle) }

      -- it may have been written
      pub uses-writes : MayWrite state (Whole line) → ¬ TellsNoChange reply → UsesDisk g (Whole line) state reply old new
      uses-writes may changed = record {
        no_write = λ none. absurd (none may);
        no_change = λ tells. absurd (changed tells);
        no_call = λ idle. absurd
            (needs-disk idle);
      }
