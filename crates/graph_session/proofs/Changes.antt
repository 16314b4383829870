-- A change of the graph.
use Rattle.std.proofs.Common.{◌≡◌, ◌∙◌, ◌+◌, ℕ, false, Some, is_some, List, [], ◌++◌, append_assoc, inl, inr, refl, sym, ap, subst, arith}
use Rattle.std.proofs.lemmas.List.{append-nil}
use Rattle.fault_count.specs.Cause.{Rose}
use Rattle.disk_model.specs.Spans.{AtEachMoment}
use Rattle.disk_model.specs.declared.disk.Disk.{Ghosts}
use Rattle.disk_model.proofs.Spans.{at_each_moment_on}
use Rattle.stream_io.specs.Lines.{Whole}
use Rattle.plain_graph.specs.Changes.{IsChange}
use Rattle.plain_graph.specs.Graph.{Graph}
use Rattle.plain_graph.specs.Kinds.{AreChanges, Blanks, Bound, Change, Ending, Kind, Question, Sight, Upkeep}
use Rattle.plain_graph.specs.LineChanges.{LineChanges, LineWeighs}
use Rattle.plain_graph.specs.Lines.{kind_of}
use Rattle.plain_graph.specs.Reply.{DiskFailed, Faulted, Reply}
use Rattle.plain_graph.specs.declared.command.Command.{Command}
use Rattle.rec_bytes.specs.declared.key.Key.{Key}
use Rattle.rec_bytes.specs.declared.record.Rec.{Rec}
use Rattle.store_rules.specs.Graph.{graph_of}
use Rattle.store_rules.specs.Indexes.{IsIndexed}
use Rattle.graph_session.specs.Answer.{Settles}
use Rattle.graph_session.specs.Console.{IsAt, SessionView, TellsAll}
use Rattle.graph_session.specs.Effects.{CommitsAlone, CommitsFrom, FailsDrafted, IsAloneInDoubt, Keeps, Stays}
use Rattle.graph_session.specs.Exchange.{CarriesKind, CarriesOut, LeavesChange, LeavesKind, LeavesOpen, MakesChange, opening}
use Rattle.graph_session.specs.Refusals.{IsAccepted, IsReached, SpellsOnly}
use Rattle.graph_session.specs.Stands.{IsAdmittedByEither}
use Rattle.graph_session.specs.State.{State, Transaction, seen, seen_by}
use Rattle.graph_session.specs.declared.health.Health.TheVariants as healths
use Rattle.graph_session.proofs.Answering.{IsGood, good-changed, settles-done, settles-fault}
use Rattle.graph_session.proofs.Conditions.{NeedsNone, NeedsOne, reached}
use Rattle.graph_session.proofs.DiskUse.{change-needs, uses-reads, uses-writes}
use Rattle.graph_session.proofs.FailedReads.{comes-fails}
use Rattle.graph_session.proofs.Held.{committed-one, held}
use Rattle.graph_session.proofs.Known.{begin-all, begin-more, known-two}
use Rattle.graph_session.proofs.Stands.{IsOneOf, all-admitted, either-admitted, either-held, held-admitted, own-one, redone-held}
use Rattle.graph_session.proofs.States.{is_closed, is_live, not_failed, same_one}
use Rattle.graph_session.proofs.Staying.{comes-stays, crash-kept, images-kept, reads-kept}
use Rattle.graph_session.proofs.Storage.{stopped}
use Rattle.graph_session.proofs.Transactions.{first-one, in_doubt}

change-none : (command : Command) → IsChange command → ¬ NeedsNone command
change-none command change (inl e) = subst IsChange e change
change-none command change (inr (inl e)) = subst IsChange e change
change-none command change (inr (inr e)) = subst IsChange e change

change-one : (command : Command) → IsChange command → ¬ NeedsOne command
change-one command change (inl e) = subst IsChange e change
change-one command change (inr e) = subst IsChange e change

-- what is said of a change by its kind
carries-change : (old new : State) (command : Command) (reply : Reply) → IsChange command → MakesChange old command reply new → CarriesOut old command reply new
carries-change old new command reply change makes = by (kind_of command) change
  where
    by : (kind : Kind) → AreChanges kind → CarriesKind kind old command reply new
    by Blanks is = absurd is
    by Ending is = absurd is
    by Bound is = absurd is
    by Upkeep is = absurd is
    by Sight is = absurd is
    by Change is = makes
    by Question is = absurd is

leaves-change : (old new : State) (line : List ℕ) (command : Command) → IsChange command → LeavesChange old (Whole line) command new
    → LeavesOpen old (Whole line) command new
leaves-change old new line command change leaves = by (kind_of command) change
  where
    by : (kind : Kind) → AreChanges kind → LeavesKind kind old (Whole line) command new
    by Blanks is = absurd is
    by Ending is = absurd is
    by Bound is = absurd is
    by Upkeep is = absurd is
    by Sight is = absurd is
    by Change is = leaves
    by Question is = absurd is

-- The records are those of a store, and these are the names of its graph.
pub record IsGrown (state : State) (records : Key → Rec) (names : List (List ℕ)) : Type 0 where
  pub store : IsIndexed records state.shape
  pub named : names ≡ (graph_of records).names

-- the state in which this transaction is open
abbrev pub with_change : State → Graph → ℕ → State
with_change state graph weight = opening state (Some (record { graph = graph; weight = weight }))

-- the state in which the change is committed
abbrev pub changed : State → Graph → State
changed state graph = record state { committed = graph }

module _ {D : Type 0} {g : Ghosts D} {old : SessionView D} {state : State} (at : IsAt g old state) (live : old.console.health ≡ healths.Live) {line : List ℕ}
    {command : Command} (only : SpellsOnly line command)
    (change : IsChange command) where
  -- the graph is looked at
  pub change-reached : IsReached state (Whole line)
  change-reached = reached state only (inl (not_failed at live)) (λ needs. absurd (change-none command change needs))
      (λ needs. absurd (change-one command change needs))

module _ {D : Type 0} {g : Ghosts D} {old : SessionView D} {state : State} (at : IsAt g old state) (live : old.console.health ≡ healths.Live) where
  alone-one : (now : Key → Rec) → (g.tells_reads → IsIndexed now state.shape) → g.tells_reads → IsOneOf (changed state (graph_of now)) now
  alone-one now store told = own-one (changed state (graph_of now)) now (is_live at live) (store told) refl

  doubt-one : (now : Key → Rec) → (g.tells_reads → IsIndexed now state.shape) → g.tells_reads → IsOneOf (in_doubt state (graph_of now)) now
  doubt-one now store told = record { store = store told; admits = (1, omega arith, refl) }

module _ {D : Type 0} {g : Ghosts D} {old new : SessionView D} {state : State} (at : IsAt g old state) (live : old.console.health ≡ healths.Live) where
  module _ (transaction : Transaction) (is : state.open_one ≡ Some transaction) where
    keeps-at : (weight : ℕ) → Keeps g old new weight → (g.tells_reads → IsGrown state new.console.working new.console.names)
        → IsAt g new (with_change state (graph_of new.console.working) (transaction.weight + weight))
    keeps-at weight keeps grown = record {
      shape = at.shape ∙ sym keeps.beneath.shape;
      health = keeps.health ∙ at.health;
      opened = ap is_some (sym is) ∙ at.opened ∙ sym keeps.is_open;
      weight = λ other same. keeps.weighs ∙ ap (λ (n : ℕ). n + weight) (at.weight transaction is) ∙ ap (λ (t : Transaction). t.weight) (same_one _ other same);
      no_draft = keeps.beneath.no_draft;
      closed = λ failed. absurd (not_failed at live failed);
      holds = λ told stands.
          let had = held at live told in
          record {
            live = keeps.beneath.is_live ∙ had.live;
            committed = rw (keeps.beneath.committed told) had.committed;
            committed_graph = rw (keeps.beneath.committed told) had.committed_graph;
            working = (grown told).store;
            working_graph = refl;
            names = (grown told).named;
            brought = (
              had.brought.0 ++ keeps.brought.0,
              keeps.brought.1 ∙ ap (λ (names : List (List ℕ)). names ++ keeps.brought.0) had.brought.1 ∙ append_assoc
                  state.committed.names had.brought.0 keeps.brought.0,
            );
          };
      known = λ told failed. absurd (not_failed at live failed);
      reads = reads-kept at new.disk keeps.beneath.disk;
      images = images-kept at new.disk keeps.beneath.disk;
    }

    -- a change in the open transaction
    pub settles-kept : {line : List ℕ} {command : Command} → SpellsOnly line command → IsChange command → (reply : Reply) → IsGood reply → (weight : ℕ)
        → Keeps g old new weight
        → (g.tells_reads → IsGrown state new.console.working new.console.names) → (g.tells_reads → IsAccepted state (Whole line))
        → (g.tells_reads → LineChanges state.shape.limit transaction.graph command reply (graph_of new.console.working))
        → (g.tells_reads → LineWeighs state.shape.limit state.shape.threshold transaction.graph command weight)
        → Settles g (Whole line) old new state reply
    settles-kept {line = line} {command = command} only change reply good weight keeps grown accepted changes weighs =
        let after = with_change state (graph_of new.console.working) (transaction.weight + weight) in
        settles-done {line = Whole line} {before = state} reply after good
        (record { is_at = keeps-at weight keeps grown; crash = crash-kept at after new.disk keeps.beneath.disk })
        (λ told. (
          accepted told,
          command,
          only.spelled,
          carries-change state after command reply change (inl (transaction, is, graph_of new.console.working, weight, changes told, weighs told, refl)),
        ))
        (uses-reads state only (change-needs command change) (change-reached at live only change) keeps.beneath.disk)

    -- the disk failed as the change was made in the open transaction, which stays as it was
    pub settles-change_fault : {line : List ℕ} {command : Command} → SpellsOnly line command → IsChange command → Stays g old new
        → Rose (g.faults old.disk) (g.faults new.disk)
        → Settles g (Whole line) old new state (Faulted [] DiskFailed)
    settles-change_fault {line = line} {command = command} only change stays rose =
        settles-fault {line = Whole line} {before = state} (Faulted [] DiskFailed) state (comes-stays at stays) rose
        (λ told. (
          refl,
          change-reached at live only change,
          command,
          only.spelled,
          inl refl,
          leaves-change state state line command change
              (inl (transaction, is, refl)),
        ))
        (uses-reads state only (change-needs command change) (change-reached at live only change) stays.beneath.disk)

  module _ (closed : old.console.is_open ≡ false) where
    -- the disk failed before anything of a change alone was written
    pub settles-alone_read_fault : {line : List ℕ} {command : Command} → SpellsOnly line command → IsChange command → FailsDrafted g old new
        → Rose (g.faults old.disk) (g.faults new.disk)
        → Settles g (Whole line) old new state (Faulted [] DiskFailed)
    settles-alone_read_fault {line = line} {command = command} only change fails rose =
        settles-fault {line = Whole line} {before = state} (Faulted [] DiskFailed) (stopped state) (comes-fails at live fails) rose
        (λ told. (
          refl,
          change-reached at live only change,
          command,
          only.spelled,
          inl refl,
          leaves-change state (stopped state) line command change
              (inr (is_closed at closed, inl refl)),
        ))
        (uses-reads state only (change-needs command change) (change-reached at live only change) fails.disk)

    module _ (now : Key → Rec) where
      alone-crash : (after : State) → CommitsFrom g old new now → (g.tells_reads → IsOneOf after now) → TellsAll g
          → AtEachMoment g old.disk new.disk (IsAdmittedByEither state after)
      alone-crash after from one told =
          at_each_moment_on g old.disk from.mid new.disk (IsAdmittedByEither state after) _ (crash-kept at after from.mid from.reads told) (from.crash told)
          (λ left. either-admitted state after old.console.committed now left (committed-one at live told.0) (one told.0))

      commits_alone-at : (g.tells_reads → IsGrown state now new.console.names) → CommitsAlone g old new now → IsAt g new (changed state (graph_of now))
      commits_alone-at grown commits = record {
        shape = at.shape ∙ sym commits.ends.shape;
        health = commits.health ∙ at.health;
        opened = at.opened ∙ closed ∙ sym commits.ends.is_open;
        weight = λ other some. let none = is_closed at closed in cc;
        no_draft = commits.ends.no_draft;
        closed = at.closed;
        holds = λ told stands.
            let sees : seen (changed state (graph_of now)) ≡ graph_of now = ap (seen_by (graph_of now)) (is_closed at closed) in
            record {
              live = commits.live;
              committed = rw (commits.committed told) (grown told).store;
              committed_graph = ap graph_of (commits.committed told);
              working = rw (commits.working told, commits.committed told) (grown told).store;
              working_graph = ap graph_of (commits.working told ∙ commits.committed told) ∙ sym sees;
              names = (grown told).named ∙ ap (λ (graph : Graph). graph.names) (sym sees);
              brought = ([], (grown told).named ∙ sym (append-nil (graph_of now).names));
            };
        known = λ told failed. absurd (not_failed at live failed);
        reads = λ told. redone-held (changed state (graph_of now)) now (g.reads new.disk) (alone-one at live now (λ told. (grown told).store) told)
            (commits.stored.read told);
        images = λ told. all-admitted (changed state (graph_of now)) now (g.may_leave new.disk) (alone-one at live now (λ told. (grown told).store) told.0)
            (commits.stored.images told);
      }

      -- a change alone is committed
      pub settles-alone : {line : List ℕ} {command : Command} → SpellsOnly line command → IsChange command → (reply : Reply) → IsGood reply
          → CommitsFrom g old new now → CommitsAlone g old new now
          → (g.tells_reads → IsGrown state now new.console.names) → (g.tells_reads → IsAccepted state (Whole line))
          → (g.tells_reads → LineChanges state.shape.limit state.committed command reply (graph_of now))
          → Settles g (Whole line) old new state reply
      settles-alone {line = line} {command = command} only change reply good from commits grown accepted changes =
          let after = changed state (graph_of now) in
          settles-done {line = Whole line} {before = state} reply after good
          (record { is_at = commits_alone-at grown commits; crash = alone-crash after from (alone-one at live now (λ told. (grown told).store)) })
          (λ told. (
            accepted told,
            command,
            only.spelled,
            carries-change state after command reply change
                (inr (is_closed at closed, graph_of now, changes told, refl)),
          ))
          (uses-writes state only (change-needs command change) (change-reached at live only change) (inl (is_closed at closed, command, change, only.spelled))
          (good-changed reply good))

      in_doubt-at : (g.tells_reads → IsGrown state now new.console.names) → IsAloneInDoubt g old new now → IsAt g new (in_doubt state (graph_of now))
      in_doubt-at grown left = record {
        shape = at.shape ∙ sym left.ends.shape;
        health = left.health;
        opened = sym left.ends.is_open;
        weight = λ other none. cc;
        no_draft = left.ends.no_draft;
        closed = λ failed. refl;
        holds = λ told stands. cc;
        known = λ told failed graph admits.
            let had = held at live told in
            known-two new.console.names state.committed (graph_of now) graph admits
            (begin-more new.console.names old.console.names state.committed.names left.brought had.brought)
            (begin-all new.console.names (graph_of now).names (grown told).named);
        reads = λ told.
            either-held (in_doubt state (graph_of now)) old.console.committed now (g.reads new.disk) (first-one at live told (graph_of now))
            (doubt-one at live now (λ told. (grown told).store) told) (left.stored.read told);
        images = λ told image leaves.
            held-admitted (in_doubt state (graph_of now)) image
            (either-held (in_doubt state (graph_of now)) old.console.committed now image (first-one at live told.0 (graph_of now)) (doubt-one at live now
            (λ told. (grown told).store) told.0) (left.stored.images told image leaves));
      }

      -- the disk failed as a change alone was committed
      pub settles-alone_fault : {line : List ℕ} {command : Command} → SpellsOnly line command → IsChange command → (reply : Reply) → CommitsFrom g old new now
          → IsAloneInDoubt g old new now
          → (g.tells_reads → IsGrown state now new.console.names) → (g.tells_reads → IsAccepted state (Whole line))
          → (g.tells_reads → LineChanges state.shape.limit state.committed command reply (graph_of now))
          → Rose (g.faults old.disk) (g.faults new.disk) → Settles g (Whole line) old new state (Faulted [] DiskFailed)
      settles-alone_fault {line = line} {command = command} only change reply from left grown accepted changes rose =
          let after = in_doubt state (graph_of now) in
          settles-fault {line = Whole line} {before = state} (Faulted [] DiskFailed) after
          (record { is_at = in_doubt-at grown left; crash = alone-crash after from (doubt-one at live now (λ told. (grown told).store)) }) rose
          (λ told. (
            refl,
            change-reached at live only change,
            command,
            only.spelled,
            inl refl,
            leaves-change state after line command change (inr (is_closed at closed, inr (accepted told, reply, graph_of now, changes told, refl))),
          ))
          (uses-writes state only (change-needs command change) (change-reached at live only change) (inl (is_closed at closed, command, change, only.spelled))
          (λ none. none))
