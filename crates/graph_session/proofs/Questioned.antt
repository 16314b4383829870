-- A line that reads: what it is told, why it is refused, and by which faults it is stopped before its first line.
use Rattle.std.proofs.Common.{◌≡◌, ◌≢◌, ℕ, false, List, [], inl, refl}
use Rattle.fault_count.specs.Cause.{Rose}
use Rattle.stream_io.specs.declared.streams.Sink.{Ghosts as SinkGhosts}
use Rattle.plain_graph.specs.Graph.{Graph}
use Rattle.plain_graph.specs.Lines.{IsFormed, IsQuestion, Reading, Shows, asked_of}
use Rattle.plain_graph.specs.Refusals.{FirstReason, change_reasons}
use Rattle.plain_graph.specs.Reply.{DamagedRecord, DiskFailed, Faulted, NoMemory, Refused, Told, prefixed_text}
use Rattle.plain_graph.specs.declared.command.Command.{Command}
use Rattle.plain_graph.specs.declared.command.Command.TheVariants as commands
use Rattle.plain_graph.specs.declared.refusal.Refusal.{Refusal}
use Rattle.rec_bytes.specs.declared.damage.Damage.{Damage}
use Rattle.rec_bytes.specs.declared.fault.Fault.{Fault}
use Rattle.rec_bytes.specs.declared.fault.Fault.TheVariants as faults
use Rattle.rec_bytes.specs.declared.space.Reads.{Ghosts as SpaceGhosts}
use Rattle.prop_index.specs.Blaming.{BlamesBroken}
use Rattle.store_rules.specs.Breaking.{BreaksAny}
use Rattle.store_rules.specs.Graph.{graph_of}
use Rattle.store_rules.proofs.Breaches.{none_at_all}
use Rattle.traversal_run.specs.Reading.{IsNamedStore, IsRead}
use Rattle.graph_session.specs.Answer.{Gives}
use Rattle.graph_session.specs.Answering.{reply_of}
use Rattle.graph_session.specs.declared.answer.Answer.TheVariants as answers
use Rattle.graph_session.specs.MayStep.{IsRefusable, LacksAsked}
use Rattle.graph_session.specs.Questions.{GivesReading}
use Rattle.graph_session.specs.State.{IsSpared}
use Rattle.graph_session.specs.declared.turn.Turn.{Turn}
use Rattle.graph_session.proofs.Reasons.{HasAsked, HasElements, unchanging-free}
use Rattle.graph_session.proofs.Spelling.{asks-unchanging}

-- A line that reads, which may lack memory, and for which some answer has its form.
pub record Asks (command : Command) : Type 0 where
  pub question : IsQuestion command
  pub unspared : ¬ IsSpared command
  pub unchecked : command ≢ commands.Check
  pub reading : Reading
  pub formed : IsFormed command reading

-- This holds of the graph of a space that is a store, and has these names first.
abbrev pub OfStore : {R : Type 0} → SpaceGhosts R → List (List ℕ) → R → (Graph → Type 0) → Type 0
OfStore space names at P = space.tells → IsNamedStore (space.state at).records (space.state at).shape names → P (graph_of (space.state at).records)

module _ {R K : Type 0} {space : SpaceGhosts R} {sink : SinkGhosts K} {names : List (List ℕ)} {command : Command} (asks : Asks command) {a b : R}
    (read : IsRead space a b) {prefix : List ℕ} {before after : K} {turn : Turn} where
  -- the reading was told
  pub asks-told : (reading : Reading) → IsFormed command reading → reading.is_past ≡ false
      → OfStore space names a (λ graph. HasElements graph (asked_of command)) → OfStore space names a (λ graph. HasAsked graph command)
      → OfStore space names a (λ graph. Shows graph command reading)
      → Gives sink (prefixed_text prefix (Told reading.lines reading.last)) before after turn
      → GivesReading space sink names command prefix a b before after turn
  asks-told reading formed none has there shows gives = record {
    reply = Told reading.lines reading.last;
    form = (reading, formed, refl, refl);
    gives = gives;
    means = λ told store. (
      (λ limit. unchanging-free command (asks-unchanging command asks.question) limit (graph_of (space.state a).records) (has told store) (there told store)),
      (reading, shows told store, none, refl, refl),
    );
    judges = λ told. record { verdict = λ is. absurd (asks.unchecked is); blames = tt };
    told = λ blames. absurd (blames refl);
    read = read;
    idle = λ spared. absurd (asks.unspared spared);
  }

  -- it was refused
  pub asks-refused : (why : Refusal) → IsRefusable command → LacksAsked command why
      → OfStore space names a (λ graph. (limit : ℕ) → FirstReason change_reasons limit graph command why)
      → Gives sink (prefixed_text prefix (Refused why)) before after turn → GivesReading space sink names command prefix a b before after turn
  asks-refused why refusable lacks first gives = record {
    reply = Refused why;
    form = (refusable, lacks);
    gives = gives;
    means = λ told store limit. first told store limit;
    judges = λ told. record { verdict = λ is. absurd (asks.unchecked is); blames = tt };
    told = λ blames. absurd (blames refl);
    read = read;
    idle = λ spared. absurd (asks.unspared spared);
  }

  -- there was no memory
  pub asks-memory : Gives sink (prefixed_text prefix (Faulted [] NoMemory)) before after turn
      → GivesReading space sink names command prefix a b before after turn
  asks-memory gives = record {
    reply = Faulted [] NoMemory;
    form = (asks.unspared, asks.reading, asks.formed, tt, (asks.reading.lines, refl));
    gives = gives;
    means = λ told store. inl refl;
    judges = λ told. record { verdict = λ is. absurd (asks.unchecked is); blames = tt };
    told = λ blames. absurd (blames refl);
    read = read;
    idle = λ spared. absurd (asks.unspared spared);
  }

  -- the disk failed
  pub asks-disk : Rose (space.faults a) (space.faults b) → Gives sink (prefixed_text prefix (Faulted [] DiskFailed)) before after turn
      → GivesReading space sink names command prefix a b before after turn
  asks-disk rose gives = record {
    reply = Faulted [] DiskFailed;
    form = (asks.unspared, asks.reading, asks.formed, tt, (asks.reading.lines, refl));
    gives = gives;
    means = λ told store. inl refl;
    judges = λ told. record { verdict = λ is. absurd (asks.unchecked is); blames = tt };
    told = λ blames. rose;
    read = read;
    idle = λ spared. absurd (asks.unspared spared);
  }

  -- a record breaks a rule, so it is no store
  pub asks-damaged : (damage : Damage) → (space.tells → BreaksAny (space.state a).records (space.state a).shape damage)
      → Gives sink (prefixed_text prefix (Faulted [] (DamagedRecord damage.file damage.id))) before after turn
      → GivesReading space sink names command prefix a b before after turn
  asks-damaged damage broken gives = record {
    reply = Faulted [] (DamagedRecord damage.file damage.id);
    form = (asks.unspared, asks.reading, asks.formed, asks.unchecked, (asks.reading.lines, refl));
    gives = gives;
    means = λ told store. none_at_all (space.state a).records (space.state a).shape (record { store = store.store; indexes = store.indexes }) damage
        (broken told);
    judges = λ told. record { verdict = λ is. absurd (asks.unchecked is); blames = (damage.rule, broken told) };
    told = λ blames. absurd (blames refl);
    read = read;
    idle = λ spared. absurd (asks.unspared spared);
  }

  -- records were not read to their end
  pub asks-unread : (fault : Fault) → (fault ≡ faults.Disk → Rose (space.faults a) (space.faults b))
      → (space.tells → BlamesBroken (space.state a).records (space.state a).shape fault)
      → Gives sink (prefixed_text prefix (reply_of (answers.Fault fault))) before after turn
      → GivesReading space sink names command prefix a b before after turn
  asks-unread faults.Memory rose blames gives = asks-memory gives
  asks-unread faults.Disk rose blames gives = asks-disk (rose refl) gives
  asks-unread (faults.Damaged damage) rose blames gives = asks-damaged damage blames gives
