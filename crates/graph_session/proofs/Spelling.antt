-- What a line is that spells one command.
use Rattle.std.proofs.Common.{◌≡◌, ◌≢◌, ◌⊎◌, List, ℕ, inl, inr, subst, sym}
use Rattle.stream_io.specs.Lines.{Whole}
use Rattle.plain_graph.specs.Changes.{IsChange}
use Rattle.plain_graph.specs.Kinds.{AreChanges, AreQuestions, Blanks, Bound, Change, Ending, Kind, Question, Sight, Upkeep}
use Rattle.plain_graph.specs.Lines.{IsQuestion, kind_of}
use Rattle.plain_graph.specs.declared.command.Command.{Command}
use Rattle.plain_graph.specs.declared.command.Command.TheVariants as commands
use Rattle.gremlin_parse.specs.Commands.{NeedsNoMemory}
use Rattle.gremlin_parse.specs.Lines.{Spells}
use Rattle.graph_session.specs.Refusals.{SpellsOnly}
use Rattle.graph_session.specs.State.{AreSpared, IsQuit, IsSilent, IsSpared, NeverLacksMemory, SpellsLine}

-- these get no reply
abbrev pub IsMute : Command → Type 0
IsMute command = (command ≡ commands.Blank) ⊎ (command ≡ commands.Quit)

module _ {line : List ℕ} {command : Command} (only : SpellsOnly line command) where
  -- it spells no other command
  pub spells-same : (other : Command) → SpellsLine (Whole line) other → command ≡ other
  spells-same other h = sym (only.only other h)

  pub silent-mute : IsSilent (Whole line) → IsMute command
  silent-mute (inl h) = inl (spells-same commands.Blank h)
  silent-mute (inr h) = inr (spells-same commands.Quit h)

  pub quit-only : command ≢ commands.Quit → ¬ IsQuit (Whole line)
  quit-only other h = other (spells-same commands.Quit h)

  pub spared-only : NeverLacksMemory (Whole line) → IsSpared command
  spared-only (inl e) = cc
  spared-only (inr (other, h, spared)) = subst IsSpared (sym (spells-same other h)) spared

-- a command that never lacks memory is read without asking for any
spared-needs_none : (command : Command) → IsSpared command → NeedsNoMemory command
spared-needs_none commands.Blank spared = tt
spared-needs_none commands.Begin spared = tt
spared-needs_none commands.Commit spared = tt
spared-needs_none commands.Rollback spared = tt
spared-needs_none commands.Checkpoint spared = tt
spared-needs_none commands.Check spared = tt
spared-needs_none commands.Stats spared = tt
spared-needs_none commands.Reopen spared = tt
spared-needs_none commands.Snapshot spared = tt
spared-needs_none commands.Release spared = tt
spared-needs_none commands.Quit spared = tt
spared-needs_none (commands.Delete target) spared = tt
spared-needs_none (commands.View target) spared = tt
spared-needs_none commands.ViewNames spared = tt
spared-needs_none commands.ViewIndexes spared = tt
spared-needs_none command (inl spared) = spared
spared-needs_none command (inr (inl e)) = cc
spared-needs_none command (inr (inr e)) = cc

-- a line that has no memory for its command spells none that needs no memory
pub lacks-memory : (line : List ℕ) → ((command : Command) → NeedsNoMemory command → ¬ Spells line command) → ¬ NeverLacksMemory (Whole line)
lacks-memory line none (inl e) = cc
lacks-memory line none (inr (command, h, spared)) = none command (spared-needs_none command spared) h

changes-spared : (kind : Kind) → AreChanges kind → ¬ AreSpared kind
changes-spared Blanks change spared = change
changes-spared Ending change spared = change
changes-spared Bound change spared = change
changes-spared Upkeep change spared = change
changes-spared Sight change spared = change
changes-spared Change change spared = spared
changes-spared Question change spared = change

-- a change may lack memory
pub change-spared : (command : Command) → IsChange command → ¬ IsSpared command
change-spared command change (inl spared) = changes-spared (kind_of command) change spared
change-spared command change (inr (inl e)) = subst IsChange e change
change-spared command change (inr (inr e)) = subst IsChange e change

questions-unchanging : (kind : Kind) → AreQuestions kind → ¬ AreChanges kind
questions-unchanging Blanks asks change = asks
questions-unchanging Ending asks change = asks
questions-unchanging Bound asks change = asks
questions-unchanging Upkeep asks change = asks
questions-unchanging Sight asks change = asks
questions-unchanging Change asks change = asks
questions-unchanging Question asks change = change

-- what reads changes nothing
pub asks-unchanging : (command : Command) → IsQuestion command → ¬ IsChange command
asks-unchanging command asks change = questions-unchanging (kind_of command) asks change
