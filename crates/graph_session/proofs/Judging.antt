-- A verdict on the records of a space, and how many there are of each part of its graph.
use Rattle.std.proofs.Common.{◌≡◌, ℕ, List, [], inl, inr, refl, ap}
use Rattle.fault_count.specs.Cause.{Rose}
use Rattle.stream_io.specs.declared.streams.Sink.{Ghosts as SinkGhosts}
use Rattle.plain_graph.specs.Counts.{counts_of}
use Rattle.plain_graph.specs.Lines.{broken_text, counts_text, one_line, sound_text}
use Rattle.plain_graph.specs.Reply.{DiskFailed, Faulted, NoMemory, Told, prefixed_text}
use Rattle.plain_graph.specs.declared.command.Command.TheVariants as commands
use Rattle.plain_graph.specs.declared.counts.Counts.{Counts}
use Rattle.rec_bytes.specs.Fault.{of_space}
use Rattle.rec_bytes.specs.declared.damage.Damage.{Damage}
use Rattle.rec_bytes.specs.declared.space.Reads.{Ghosts as SpaceGhosts}
use Rattle.rec_bytes.specs.declared.space.SpaceFault.{SpaceFault}
use Rattle.rec_bytes.specs.declared.space.SpaceFault.TheVariants as faults
use Rattle.store_check.specs.Verdicts.{IsLeastBroken}
use Rattle.store_check.specs.declared.verdict.Verdict.TheVariants as verdicts
use Rattle.store_rules.specs.Graph.{graph_of}
use Rattle.store_rules.specs.Indexes.{IsIndexed}
use Rattle.store_rules.specs.Rules.{IsWellFormed}
use Rattle.traversal_run.specs.Reading.{IsRead}
use Rattle.graph_session.specs.Answer.{Gives}
use Rattle.graph_session.specs.Answering.{reply_of}
use Rattle.graph_session.specs.Questions.{GivesReading}
use Rattle.graph_session.specs.State.{IsSpared}
use Rattle.graph_session.specs.declared.answer.Answer.TheVariants as answers
use Rattle.graph_session.specs.declared.turn.Turn.{Turn}
use Rattle.graph_session.proofs.Conditions.{idle_reasons}

check-spared : ¬ IsSpared commands.Check
check-spared (inl spared) = spared
check-spared (inr (inl e)) = cc
check-spared (inr (inr e)) = cc

module _ {R K : Type 0} {space : SpaceGhosts R} {sink : SinkGhosts K} (names : List (List ℕ)) {a b : R} (read : IsRead space a b) {prefix : List ℕ}
    {before after : K} {turn : Turn} where
  -- the records keep the rules
  pub gives-sound : (space.tells → IsIndexed (space.state a).records (space.state a).shape)
      → Gives sink (prefixed_text prefix (Told [] sound_text)) before after turn → GivesReading space sink names commands.Check prefix a b before after turn
  gives-sound keeps gives = record {
    reply = Told [] sound_text;
    form = (one_line sound_text, inl refl, refl, refl);
    gives = gives;
    means = λ told store. ((λ limit. idle_reasons), (one_line sound_text, refl, refl, refl, refl));
    judges = λ told. record { verdict = λ is. (refl, inl (refl, keeps told)); blames = tt };
    told = λ blames. absurd (blames refl);
    read = read;
    idle = λ spared. absurd (check-spared spared);
  }

  -- a rule is broken, so it is no store that stands for a graph
  pub gives-broken : (damage : Damage) → (space.tells → IsLeastBroken (space.state a).records (space.state a).shape 1 damage)
      → (space.tells → IsIndexed (space.state a).records (space.state a).shape → verdicts.Broken damage ≡ verdicts.Sound)
      → Gives sink (prefixed_text prefix (Told [] (broken_text damage.file damage.id damage.rule))) before after turn
      → GivesReading space sink names commands.Check prefix a b before after turn
  gives-broken damage least breaks gives = record {
    reply = Told [] (broken_text damage.file damage.id damage.rule);
    form = (one_line (broken_text damage.file damage.id damage.rule), inr (damage.file, damage.id, damage.rule, refl), refl, refl);
    gives = gives;
    means = λ told store. absurd (let same = breaks told (record { store = store.store; indexes = store.indexes }) in cc);
    judges = λ told. record { verdict = λ is. (refl, inr (damage, refl, least told)); blames = tt };
    told = λ blames. absurd (blames refl);
    read = read;
    idle = λ spared. absurd (check-spared spared);
  }

  gives-memory : Gives sink (prefixed_text prefix (Faulted [] NoMemory)) before after turn
      → GivesReading space sink names commands.Check prefix a b before after turn
  gives-memory gives = record {
    reply = Faulted [] NoMemory;
    form = (check-spared, one_line sound_text, inl refl, tt, ([], refl));
    gives = gives;
    means = λ told store. inl refl;
    judges = λ told. record { verdict = λ is. (refl, tt); blames = tt };
    told = λ blames. absurd (blames refl);
    read = read;
    idle = λ spared. absurd (check-spared spared);
  }

  gives-disk : Rose (space.faults a) (space.faults b) → Gives sink (prefixed_text prefix (Faulted [] DiskFailed)) before after turn
      → GivesReading space sink names commands.Check prefix a b before after turn
  gives-disk rose gives = record {
    reply = Faulted [] DiskFailed;
    form = (check-spared, one_line sound_text, inl refl, tt, ([], refl));
    gives = gives;
    means = λ told store. inl refl;
    judges = λ told. record { verdict = λ is. (refl, tt); blames = tt };
    told = λ blames. rose;
    read = read;
    idle = λ spared. absurd (check-spared spared);
  }

  -- no verdict was found
  pub gives-fault : (fault : SpaceFault) → (fault ≡ faults.Disk → Rose (space.faults a) (space.faults b))
      → Gives sink (prefixed_text prefix (reply_of (answers.Fault (of_space fault)))) before after turn
      → GivesReading space sink names commands.Check prefix a b before after turn
  gives-fault faults.Memory rose gives = gives-memory gives
  gives-fault faults.Disk rose gives = gives-disk (rose refl) gives

-- what is counted, of which no record is read
pub gives-counts : {R K : Type 0} {space : SpaceGhosts R} {sink : SinkGhosts K} (names : List (List ℕ)) {a : R} → IsRead space a a
    → {prefix : List ℕ} {before after : K} {turn : Turn} → (counts : Counts)
    → (IsWellFormed (space.state a).records (space.state a).shape → counts ≡ counts_of (graph_of (space.state a).records))
    → Gives sink (prefixed_text prefix (Told [] (counts_text counts))) before after turn
    → GivesReading space sink names commands.Stats prefix a a before after turn
gives-counts names read counts are gives = record {
  reply = Told [] (counts_text counts);
  form = (one_line (counts_text counts), (counts, refl), refl, refl);
  gives = gives;
  means = λ told store. (
    (λ limit. idle_reasons),
    (
      one_line (counts_text counts),
      ap (λ (c : Counts). one_line (counts_text c)) (are store.store),
      refl,
      refl,
      refl,
    ),
  );
  judges = λ told. record { verdict = λ is. cc; blames = tt };
  told = λ blames. absurd (blames refl);
  read = read;
  idle = λ spared. refl;
}
