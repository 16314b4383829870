-- What a reply says of the records that its line sees, by the line's command.
use Rattle.std.proofs.Common.{◌≡◌, ◌∙◌, ℕ, List, [], refl, sym, subst}
use Rattle.disk_model.specs.declared.disk.Disk.{Ghosts}
use Rattle.stream_io.specs.Lines.{InputLine, Whole}
use Rattle.plain_graph.specs.Lines.{IsQuestion}
use Rattle.plain_graph.specs.Reply.{Faulted, NoMemory, Reply}
use Rattle.plain_graph.specs.declared.command.Command.{Command}
use Rattle.store_rules.specs.Views.{Records}
use Rattle.graph_session.specs.ReaderAnswers.{AsksQuestion}
use Rattle.graph_session.specs.Refusals.{SpellsOnly}
use Rattle.graph_session.specs.Settling.{IsParsed}
use Rattle.graph_session.specs.SnapshotEffects.{SharedView}
use Rattle.graph_session.specs.Verdicts.{Judges, JudgesLine, SeesRecords}
use Rattle.graph_session.specs.declared.health.Health.TheVariants as healths

-- the same, of the reply to a command of the session of this number
abbrev pub JudgesCommand : {D : Type 0} → Ghosts D → ℕ → Command → SharedView D → Reply → Type 0
JudgesCommand g session command old reply =
    g.tells_reads → old.session.console.health ≡ healths.Live → IsQuestion command → (records : Records) → SeesRecords old session records
    → Judges records old.session.console.shape command reply

module _ {D : Type 0} (g : Ghosts D) (old : SharedView D) where
  -- a line that asks no question
  pub judges-none : (line : InputLine) (reply : Reply) → ¬ AsksQuestion line → JudgesLine g line old reply
  judges-none line reply none told live command spelled asks records sees = absurd (none (command, spelled, asks))

  -- a session that the disk has failed
  pub judges-failed : (line : InputLine) (reply : Reply) → old.session.console.health ≡ healths.Failed → JudgesLine g line old reply
  judges-failed line reply failed told live command spelled asks records sees = let clash : healths.Failed ≡ healths.Live = sym failed ∙ live in absurd cc

  -- a line that lacks memory
  pub judges-memory : (line : InputLine) → JudgesLine g line old (Faulted [] NoMemory)
  judges-memory line told live command spelled asks records sees = record { verdict = λ is. (refl, tt); blames = tt }

  -- a line of one command
  pub judges-parsed : {line : List ℕ} {session : ℕ} {command : Command} {prefix : List ℕ} → IsParsed line session command prefix → (reply : Reply)
      → JudgesCommand g session command old reply → JudgesLine g (Whole line) old reply
  judges-parsed parsed reply judges told live command spelled asks records sees =
      let is = parsed.only.only command spelled in
      subst (λ (c : Command). Judges records old.session.console.shape c reply) (sym is)
      (judges told live (subst IsQuestion is asks) records (subst (λ (n : ℕ). SeesRecords old n records) parsed.session_is sees))

-- a command that is no question leaves none asked by its line
pub unasked : {line : List ℕ} {command : Command} → SpellsOnly line command → ¬ IsQuestion command → ¬ AsksQuestion (Whole line)
unasked only none (other, spelled, asks) = none (subst IsQuestion (only.only other spelled) asks)
