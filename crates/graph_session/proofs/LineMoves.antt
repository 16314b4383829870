-- What a line of any session does to what is committed.
use Rattle.std.proofs.Common.{◌≡◌, ◌⊎◌, ◌∙◌, ℕ, zero, suc, List, ap, inl, inr, refl, sym, subst}
use Rattle.disk_model.specs.declared.disk.Disk.{Ghosts}
use Rattle.stream_io.specs.Lines.{InputLine}
use Rattle.plain_graph.specs.Kinds.{AreChanges, Blanks, Bound, Change, Ending, Kind, Question, Sight, Upkeep}
use Rattle.plain_graph.specs.Changes.{IsChange}
use Rattle.plain_graph.specs.Lines.{kind_of}
use Rattle.plain_graph.specs.Reply.{Fault, Faulted, Reply}
use Rattle.plain_graph.specs.declared.command.Command.{Command}
use Rattle.plain_graph.specs.declared.command.Command.TheVariants as commands
use Rattle.graph_session.specs.Console.{SessionView}
use Rattle.graph_session.specs.Effects.{Ends, Stays}
use Rattle.graph_session.specs.MayStep.{IsServed, IsTurnedAway, MayAnswerKind, MayBound, MayChange, MayKeep, MayStep, TellsMade}
use Rattle.graph_session.specs.ReaderAnswers.{MayServeReader, MayStepAs}
use Rattle.graph_session.specs.SnapshotEffects.{Confirms, SharedView}
use Rattle.graph_session.specs.State.{SpellsLine, session_in}
use Rattle.graph_session.specs.Tapping.{Acknowledges}
use Rattle.graph_session.specs.declared.health.Health.TheVariants as healths
use Rattle.graph_session.proofs.OneCommand.{line_agrees}

-- What is committed is as it was; or the line ended a transaction, as its reply acknowledges, or found the store again; or the disk has failed the session.
abbrev pub LeavesCommitted : {D : Type 0} → Ghosts D → InputLine → SessionView D → Reply → SessionView D → Type 0
LeavesCommitted g line old reply new =
    ((new.console.health ≡ old.console.health) × (g.tells_reads → new.console.committed ≡ old.console.committed))
    ⊎ Acknowledges old.console.is_open line reply
    ⊎ (SpellsLine line commands.Reopen × Confirms reply)
    ⊎ (new.console.health ≡ healths.Failed)

-- The shape stays, and a session that was live is so still where the line was carried out.
pub record Moves {D : Type 0} (g : Ghosts D) (line : InputLine) (old : SessionView D) (reply : Reply) (new : SessionView D) : Type 0 where
  pub shape : new.console.shape ≡ old.console.shape
  pub live : Confirms reply → old.console.health ≡ healths.Live → new.console.health ≡ healths.Live
  pub leaves : LeavesCommitted g line old reply new

-- the reply to a change that is made says so
made-confirms : (command : Command) (reply : Reply) → TellsMade command reply → Confirms reply
made-confirms (commands.Node label pairs) reply tells = subst Confirms (sym tells.1) tt
made-confirms (commands.Edge from label to pairs) reply tells = subst Confirms (sym tells.1) tt
made-confirms (commands.Set target key value) reply tells = subst Confirms (sym tells) tt
made-confirms (commands.Unset target key) reply tells = subst Confirms (sym tells) tt
made-confirms (commands.Delete target) reply tells = subst Confirms (sym tells) tt
made-confirms (commands.Index label key) reply tells = subst Confirms (sym tells) tt
made-confirms (commands.Mutate reading mutation) reply tells = subst Confirms (sym tells.1) tt
made-confirms _ reply tells = absurd tells

-- and that of a fault doesn't
faulted-unconfirmed : {reply : Reply} {lines : List (List ℕ)} {fault : Fault} → reply ≡ Faulted lines fault → ¬ Confirms reply
faulted-unconfirmed is confirms = absurd (subst Confirms is confirms)

module _ {D : Type 0} (g : Ghosts D) (line : InputLine) (old : SessionView D) (reply : Reply) (new : SessionView D) where
  moves-none : new ≡ old → Moves g line old reply new
  moves-none same = record {
    shape = ap (λ (s : SessionView D). s.console.shape) same;
    live = λ confirms live. ap (λ (s : SessionView D). s.console.health) same ∙ live;
    leaves = inl (ap (λ (s : SessionView D). s.console.health) same, λ told. ap (λ (s : SessionView D). s.console.committed) same);
  }

  moves-stays : Stays g old new → Moves g line old reply new
  moves-stays stays = record {
    shape = stays.beneath.shape;
    live = λ confirms live. stays.health ∙ live;
    leaves = inl (stays.health, stays.beneath.committed);
  }

  moves-failed : Ends old new → new.console.health ≡ healths.Failed → ¬ Confirms reply → Moves g line old reply new
  moves-failed ends failed none = record { shape = ends.shape; live = λ confirms live. absurd (none confirms); leaves = inr (inr (inr failed)) }

  moves-acknowledged : Ends old new → new.console.health ≡ old.console.health → Acknowledges old.console.is_open line reply → Moves g line old reply new
  moves-acknowledged ends health acknowledges = record { shape = ends.shape; live = λ confirms live. health ∙ live; leaves = inr (inl acknowledges) }

  module _ (own : session_in line ≡ 0) where
    bound-moves : (command : Command) → SpellsLine line command → MayBound g old reply new command → Moves g line old reply new
    bound-moves commands.Begin spelled (inl refused) = moves-none refused.2
    bound-moves commands.Begin spelled (inr (told, closed, begins)) =
        record { shape = begins.beneath.shape; live = λ confirms live. begins.health ∙ live; leaves = inl (begins.health, begins.beneath.committed) }
    bound-moves commands.Commit spelled (inl refused) = moves-none refused.2
    bound-moves commands.Commit spelled (inr (opened, leaves, idle, inl (told, commits))) =
        moves-acknowledged commits.ends commits.health (own, subst Confirms (sym told) tt, inl spelled)
    bound-moves commands.Commit spelled (inr (opened, leaves, idle, inr (fault, inl fails))) =
        moves-failed fails.ends fails.health (faulted-unconfirmed fault.0)
    bound-moves commands.Commit spelled (inr (opened, leaves, idle, inr (fault, inr left))) = moves-failed left.ends left.health (faulted-unconfirmed fault.0)
    bound-moves commands.Rollback spelled (inl refused) = moves-none refused.2
    bound-moves commands.Rollback spelled (inr (told, opened, drops)) =
        record { shape = drops.beneath.shape; live = λ confirms live. drops.health ∙ live; leaves = inl (drops.health, drops.beneath.committed) }
    bound-moves _ spelled may = absurd may

    keep-moves : (command : Command) → SpellsLine line command → MayKeep g old reply new command → Moves g line old reply new
    keep-moves commands.Checkpoint spelled (inl refused) = moves-none refused.2
    keep-moves commands.Checkpoint spelled (inr (closed, leaves, inl (told, brought))) =
        record { shape = brought.ends.shape; live = λ confirms live. brought.health ∙ live; leaves = inl (brought.health, brought.committed) }
    keep-moves commands.Checkpoint spelled (inr (closed, leaves, inr (fault, stopped))) = moves-failed stopped.ends stopped.health (faulted-unconfirmed fault.0)
    keep-moves commands.Reopen spelled (inl refused) = moves-none refused.2
    keep-moves commands.Reopen spelled (inr (closed, leaves, inl (told, found))) =
        record { shape = found.ends.shape; live = λ confirms live. found.health; leaves = inr (inr (inl (spelled, subst Confirms (sym told) tt))) }
    keep-moves commands.Reopen spelled (inr (closed, leaves, inr (inl (fault, lost)))) = moves-failed lost.ends lost.health (faulted-unconfirmed fault.0)
    keep-moves commands.Reopen spelled (inr (closed, leaves, inr (inr (damage, is, lost, blames)))) =
        moves-failed lost.ends lost.health (faulted-unconfirmed is)
    keep-moves _ spelled may = absurd may

    change-moves : (command : Command) → SpellsLine line command → IsChange command → MayChange g old reply new command → Moves g line old reply new
    change-moves command spelled change (inl (tells, inl (opened, weight, keeps, light), left)) =
        record { shape = keeps.beneath.shape; live = λ confirms live. keeps.health ∙ live; leaves = inl (keeps.health, keeps.beneath.committed) }
    change-moves command spelled change (inl (tells, inr (closed, now, from, commits), left)) =
        moves-acknowledged commits.ends commits.health (own, made-confirms command reply tells, inr (closed, command, change, spelled))
    change-moves command spelled change (inr (inl (refused, stays))) = moves-stays stays
    change-moves command spelled change (inr (inr (inl (lacks, stays)))) = moves-stays stays
    change-moves command spelled change (inr (inr (inr (inl (damage, stays))))) = moves-stays stays
    change-moves command spelled change (inr (inr (inr (inr (fault, inl (opened, stays)))))) = moves-stays stays
    change-moves command spelled change (inr (inr (inr (inr (fault, inr (closed, inl fails)))))) =
        moves-failed fails.ends fails.health (faulted-unconfirmed fault.0)
    change-moves command spelled change (inr (inr (inr (inr (fault, inr (closed, inr (inl fails))))))) =
        moves-failed fails.ends fails.health (faulted-unconfirmed fault.0)
    change-moves command spelled change (inr (inr (inr (inr (fault, inr (closed, inr (inr (now, from, doubt)))))))) =
        moves-failed doubt.ends doubt.health (faulted-unconfirmed fault.0)

    answer-moves : (kind : Kind) (command : Command) → kind_of command ≡ kind → SpellsLine line command → MayAnswerKind g old reply new kind command
        → Moves g line old reply new
    answer-moves Blanks command is spelled may = absurd may
    answer-moves Ending command is spelled may = absurd may
    answer-moves Bound command is spelled may = bound-moves command spelled may
    answer-moves Upkeep command is spelled may = keep-moves command spelled may
    answer-moves Sight command is spelled may = absurd may
    answer-moves Change command is spelled may = change-moves command spelled (subst AreChanges (sym is) tt) may
    answer-moves Question command is spelled may = moves-stays may.2

    step-moves : MayStep g line old reply new → Moves g line old reply new
    step-moves (inl silent) = moves-none silent.2
    step-moves (inr (inl away)) = moves-none away.1
    step-moves (inr (inr (command, spelled, served, may))) = answer-moves (kind_of command) command refl spelled may

module _ {D : Type 0} (g : Ghosts D) (line : InputLine) (old : SharedView D) (reply : Reply) (new : SharedView D) where
  moves-same : new ≡ old → Moves g line old.session reply new.session
  moves-same same = moves-none g line old.session reply new.session (ap (λ (v : SharedView D). v.session) same)

  serve-moves : (reader : ℕ) (command : Command) → MayServeReader g reader old reply new command → Moves g line old.session reply new.session
  serve-moves reader command (inl (is, inl taken)) = moves-none g line old.session reply new.session taken.2
  serve-moves reader command (inl (is, inr lacks)) = moves-same lacks.1
  serve-moves reader command (inr (inl (is, released))) = moves-none g line old.session reply new.session released.3
  serve-moves reader command (inr (inr (asks, read))) = moves-stays g line old.session reply new.session read.3

  as-moves : (session : ℕ) → session_in line ≡ session → MayStepAs g session line old reply new → Moves g line old.session reply new.session
  as-moves zero own (inl asks) = moves-same asks.2
  as-moves zero own (inr (apart, may, ends)) = step-moves g line old.session reply new.session own may
  as-moves (suc reader) own (inl silent) = moves-same silent.2
  as-moves (suc reader) own (inr (inl away)) = moves-same away.1
  as-moves (suc reader) own (inr (inr (command, spelled, inl (why, refuses, is, same)))) = moves-same same
  as-moves (suc reader) own (inr (inr (command, spelled, inr (serves, may)))) = serve-moves (suc reader) command may

  pub line-moves : MayStepAs g (session_in line) line old reply new → Moves g line old.session reply new.session
  line-moves may = as-moves (session_in line) refl may

  -- ---- a session that acknowledges a transaction was live

  turned_away-unconfirmed : IsTurnedAway line old.session.console reply → ¬ Confirms reply
  turned_away-unconfirmed (inl (why, is, unread)) confirms = absurd (subst Confirms is confirms)
  turned_away-unconfirmed (inr (inl (is, may_lack))) confirms = absurd (subst Confirms is confirms)
  turned_away-unconfirmed (inr (inr (is, failed, loud, other))) confirms = absurd (subst Confirms is confirms)

  served-live : (command : Command) → SpellsLine line command → IsServed old.session.console command → Acknowledges old.session.console.is_open line reply
      → old.session.console.health ≡ healths.Live
  served-live command spelled (inl live) acknowledges = live
  served-live command spelled (inr reopens) (own, confirms, inl commits) = let clash : commands.Commit ≡ commands.Reopen =
      line_agrees line command commands.Commit spelled commits ∙ reopens in cc
  served-live command spelled (inr reopens) (own, confirms, inr (closed, other, change, spells)) =
      absurd (subst IsChange (line_agrees line command other spelled spells ∙ reopens) change)

  writer-live : MayStepAs g 0 line old reply new → Acknowledges old.session.console.is_open line reply → old.session.console.health ≡ healths.Live
  writer-live (inl (asks, is, same)) acknowledges = absurd (subst Confirms is acknowledges.1)
  writer-live (inr (apart, inl (silent, is, same), ends)) acknowledges = absurd (subst Confirms is acknowledges.1)
  writer-live (inr (apart, inr (inl away), ends)) acknowledges = absurd (turned_away-unconfirmed away.0 acknowledges.1)
  writer-live (inr (apart, inr (inr (command, spelled, served, may)), ends)) acknowledges = served-live command spelled served acknowledges

  pub acknowledges-live : MayStepAs g (session_in line) line old reply new → Acknowledges old.session.console.is_open line reply
      → old.session.console.health ≡ healths.Live
  acknowledges-live may acknowledges = writer-live (subst (λ (session : ℕ). MayStepAs g session line old reply new) acknowledges.0 may) acknowledges
