-- A transaction begins, and ends.
use Rattle.std.proofs.Common.{◌≡◌, ◌∙◌, ℕ, true, false, Some, None, List, [], ◌∷◌, take, inl, inr, refl, sym, ap, arith}
use Rattle.std.proofs.lemmas.List.{append-nil}
use Rattle.fault_count.specs.Cause.{Rose}
use Rattle.disk_model.specs.Spans.{AtEachMoment}
use Rattle.disk_model.specs.declared.disk.Disk.{Ghosts}
use Rattle.disk_model.proofs.Spans.{at_each_moment_weaker}
use Rattle.stream_io.specs.Lines.{Whole}
use Rattle.plain_graph.specs.Changes.{start_weight}
use Rattle.plain_graph.specs.Graph.{Graph}
use Rattle.plain_graph.specs.Reply.{DiskFailed, Done, Faulted}
use Rattle.plain_graph.specs.declared.command.Command.TheVariants as commands
use Rattle.rec_bytes.specs.Format.{names_file}
use Rattle.store_rules.specs.Views.{high}
use Rattle.graph_session.specs.Answer.{Settles}
use Rattle.graph_session.specs.Console.{IsAt, SessionView, TellsAll}
use Rattle.graph_session.specs.Effects.{Begins, Commits, Drops, FailsRead, IsLeftOpen, LeavesEither}
use Rattle.graph_session.specs.Exchange.{failing, opening}
use Rattle.graph_session.specs.Refusals.{IsAccepted, IsReached, SpellsOnly}
use Rattle.graph_session.specs.Stands.{IsAdmittedByEither}
use Rattle.graph_session.specs.State.{State, Transaction}
use Rattle.graph_session.specs.declared.health.Health.TheVariants as healths
use Rattle.graph_session.proofs.Answering.{settles-done, settles-fault}
use Rattle.graph_session.proofs.Conditions.{NeedsNone, NeedsOne, idle-accepted, idle_reasons, reached}
use Rattle.graph_session.proofs.DiskUse.{uses-same, uses-writes}
use Rattle.graph_session.proofs.FailedReads.{comes-fails, fails-drafted}
use Rattle.graph_session.proofs.Held.{committed-one, held, names-cut, seen_closed, seen_open, working-open}
use Rattle.graph_session.proofs.Known.{begin-all, begin-same, known-two}
use Rattle.graph_session.proofs.Stands.{IsOneOf, all-admitted, either-admitted, either-held, held-admitted, own-one, redone-held}
use Rattle.graph_session.proofs.States.{is_closed, is_live, is_open, not_failed, not_open, same_one}
use Rattle.graph_session.proofs.Staying.{crash-kept, images-kept, reads-kept}
use Rattle.graph_session.proofs.Storage.{stopped}

begin-closed : ¬ NeedsOne commands.Begin
begin-closed (inl e) = cc
begin-closed (inr e) = cc

pub commit-open : ¬ NeedsNone commands.Commit
commit-open (inl e) = cc
commit-open (inr (inl e)) = cc
commit-open (inr (inr e)) = cc

pub rollback-open : ¬ NeedsNone commands.Rollback
rollback-open (inl e) = cc
rollback-open (inr (inl e)) = cc
rollback-open (inr (inr e)) = cc

-- the state with an open transaction that has changed nothing
abbrev pub begun : State → State
begun state = opening state (Some (record { graph = state.committed; weight = start_weight }))

-- the state in which this transaction's graph is committed
abbrev pub with_commit : State → Transaction → State
with_commit state transaction = record state { committed = transaction.graph; open_one = None }

-- the state in which the disk has the committed graph, or this one
abbrev pub in_doubt : State → Graph → State
in_doubt state graph = failing state (state.committed ∷ graph ∷ [])

module _ {D : Type 0} {g : Ghosts D} {old : SessionView D} {state : State} (at : IsAt g old state) (live : old.console.health ≡ healths.Live) where
  begin-accepted : {line : List ℕ} → SpellsOnly line commands.Begin → old.console.is_open ≡ false → IsAccepted state (Whole line)
  begin-accepted only closed =
      idle-accepted state only (λ change. change) idle_reasons (reached state only (inl (not_failed at live)) (λ needs. not_open at closed)
      (λ needs. absurd (begin-closed needs)))

  rollback-accepted : {line : List ℕ} → SpellsOnly line commands.Rollback → old.console.is_open ≡ true → IsAccepted state (Whole line)
  rollback-accepted only opened =
      idle-accepted state only (λ change. change) idle_reasons (reached state only (inl (not_failed at live)) (λ needs. absurd (rollback-open needs))
      (λ needs. is_open at opened))

  commit-reached : {line : List ℕ} → SpellsOnly line commands.Commit → old.console.is_open ≡ true → IsReached state (Whole line)
  commit-reached only opened = reached state only (inl (not_failed at live)) (λ needs. absurd (commit-open needs)) (λ needs. is_open at opened)

  commit-accepted : {line : List ℕ} → SpellsOnly line commands.Commit → old.console.is_open ≡ true → IsAccepted state (Whole line)
  commit-accepted only opened = idle-accepted state only (λ change. change) idle_reasons (commit-reached only opened)

  -- after a commit the records of the transaction are the committed ones
  written-one : g.tells_reads → (transaction : Transaction) → state.open_one ≡ Some transaction → IsOneOf (with_commit state transaction) old.console.working
  written-one told transaction is = own-one (with_commit state transaction) old.console.working (is_live at live) (held at live told).working
      (working-open at live told transaction is)

  -- both are open
  pub first-one : g.tells_reads → (graph : Graph) → IsOneOf (in_doubt state graph) old.console.committed
  first-one told graph = let had = held at live told in record { store = had.committed; admits = (0, omega arith, sym had.committed_graph) }

  second-one : g.tells_reads → (transaction : Transaction) → state.open_one ≡ Some transaction → IsOneOf (in_doubt state transaction.graph) old.console.working
  second-one told transaction is = record { store = (held at live told).working; admits = (1, omega arith, sym (working-open at live told transaction is)) }

  commit-crash : (after : State) (disk : D) → (g.tells_reads → IsOneOf after old.console.working) → LeavesEither g old disk → TellsAll g
      → AtEachMoment g old.disk disk (IsAdmittedByEither state after)
  commit-crash after disk one leaves told =
      at_each_moment_weaker g old.disk disk _ (IsAdmittedByEither state after) (leaves told)
      (λ left. either-admitted state after old.console.committed old.console.working left (committed-one at live told.0) (one told.0))

module _ {D : Type 0} {g : Ghosts D} {old new : SessionView D} {state : State} (at : IsAt g old state) (live : old.console.health ≡ healths.Live) where
  begins-at : old.console.is_open ≡ false → Begins g old new → IsAt g new (begun state)
  begins-at closed begins = record {
    shape = at.shape ∙ sym begins.beneath.shape;
    health = begins.health ∙ at.health;
    opened = sym begins.is_open;
    weight = λ transaction is. begins.weight ∙ ap (λ (t : Transaction). t.weight) (same_one _ transaction is);
    no_draft = begins.beneath.no_draft;
    closed = λ failed. absurd (not_failed at live failed);
    holds = λ told stands.
        let had = held at live told in
        let names : new.console.names ≡ state.committed.names = begins.names ∙ had.names
        ∙ ap (λ (graph : Graph). graph.names) (seen_closed state (is_closed at closed)) in
        record {
          live = begins.beneath.is_live ∙ had.live;
          committed = rw (begins.beneath.committed told) had.committed;
          committed_graph = rw (begins.beneath.committed told) had.committed_graph;
          working = rw (begins.working told) had.committed;
          working_graph = rw (begins.working told) had.committed_graph;
          names = names;
          brought = ([], names ∙ sym (append-nil state.committed.names));
        };
    known = λ told failed. absurd (not_failed at live failed);
    reads = reads-kept at new.disk begins.beneath.disk;
    images = images-kept at new.disk begins.beneath.disk;
  }

  pub settles-begin : {line : List ℕ} → SpellsOnly line commands.Begin → old.console.is_open ≡ false → Begins g old new
      → Settles g (Whole line) old new state Done
  settles-begin {line = line} only closed begins =
      settles-done {line = Whole line} {before = state} Done (begun state) tt
      (record { is_at = begins-at closed begins; crash = crash-kept at (begun state) new.disk begins.beneath.disk })
      (λ told. (begin-accepted at live only closed, commands.Begin, only.spelled, (refl, refl)))
      (uses-same old.disk new.disk begins.beneath.disk begins.same_disk)

  drops-at : Drops g old new → IsAt g new (opening state None)
  drops-at drops = record {
    shape = at.shape ∙ sym drops.beneath.shape;
    health = drops.health ∙ at.health;
    opened = sym drops.is_open;
    weight = λ transaction is. cc;
    no_draft = drops.beneath.no_draft;
    closed = λ failed. refl;
    holds = λ told stands.
        let had = held at live told in
        let cut : take (high new.console.committed names_file) old.console.names ≡ state.committed.names =
        rw (drops.beneath.committed told) (names-cut at live told) in
        record {
          live = drops.beneath.is_live ∙ had.live;
          committed = rw (drops.beneath.committed told) had.committed;
          committed_graph = rw (drops.beneath.committed told) had.committed_graph;
          working = rw (drops.working told) had.committed;
          working_graph = rw (drops.working told) had.committed_graph;
          names = drops.names ∙ cut;
          brought = ([], drops.names ∙ cut ∙ sym (append-nil state.committed.names));
        };
    known = λ told failed. absurd (not_failed at live failed);
    reads = reads-kept at new.disk drops.beneath.disk;
    images = images-kept at new.disk drops.beneath.disk;
  }

  pub settles-rollback : {line : List ℕ} → SpellsOnly line commands.Rollback → old.console.is_open ≡ true → Drops g old new
      → Settles g (Whole line) old new state Done
  settles-rollback {line = line} only opened drops =
      settles-done {line = Whole line} {before = state} Done (opening state None) tt
      (record { is_at = drops-at drops; crash = crash-kept at (opening state None) new.disk drops.beneath.disk })
      (λ told. (rollback-accepted at live only opened, commands.Rollback, only.spelled, (refl, refl)))
      (uses-same old.disk new.disk drops.beneath.disk drops.same_disk)

  module _ (transaction : Transaction) (is : state.open_one ≡ Some transaction) where
    commits-at : Commits g old new → IsAt g new (with_commit state transaction)
    commits-at commits = record {
      shape = at.shape ∙ sym commits.ends.shape;
      health = commits.health ∙ at.health;
      opened = sym commits.ends.is_open;
      weight = λ other none. cc;
      no_draft = commits.ends.no_draft;
      closed = λ failed. refl;
      holds = λ told stands.
          let had = held at live told in
          let graph = working-open at live told transaction is in
          let names : new.console.names ≡ transaction.graph.names = commits.names ∙ had.names
          ∙ ap (λ (graph : Graph). graph.names) (seen_open state transaction is) in
          record {
            live = commits.live;
            committed = rw (commits.committed told) had.working;
            committed_graph = rw (commits.committed told) graph;
            working = rw (commits.working told, commits.committed told) had.working;
            working_graph = rw (commits.working told, commits.committed told) graph;
            names = names;
            brought = ([], names ∙ sym (append-nil transaction.graph.names));
          };
      known = λ told failed. absurd (not_failed at live failed);
      reads = λ told. redone-held (with_commit state transaction) old.console.working (g.reads new.disk) (written-one at live told transaction is)
          (commits.stored.read told);
      images = λ told. all-admitted (with_commit state transaction) old.console.working (g.may_leave new.disk) (written-one at live told.0 transaction is)
          (commits.stored.images told);
    }

    left_open-at : IsLeftOpen g old new → IsAt g new (in_doubt state transaction.graph)
    left_open-at left = record {
      shape = at.shape ∙ sym left.ends.shape;
      health = left.health;
      opened = sym left.ends.is_open;
      weight = λ other none. cc;
      no_draft = left.ends.no_draft;
      closed = λ failed. refl;
      holds = λ told stands. cc;
      known = λ told failed graph admits.
          let had = held at live told in
          let seen_names : new.console.names ≡ transaction.graph.names = left.names ∙ had.names
          ∙ ap (λ (graph : Graph). graph.names) (seen_open state transaction is) in
          known-two new.console.names state.committed transaction.graph graph admits
          (begin-same new.console.names old.console.names state.committed.names left.names had.brought)
          (begin-all new.console.names transaction.graph.names seen_names);
      reads = λ told.
          either-held (in_doubt state transaction.graph) old.console.committed old.console.working (g.reads new.disk)
          (first-one at live told transaction.graph) (second-one at live told transaction is) (left.stored.read told);
      images = λ told image leaves.
          held-admitted (in_doubt state transaction.graph) image
          (either-held (in_doubt state transaction.graph) old.console.committed old.console.working image
          (first-one at live told.0 transaction.graph) (second-one at live told.0 transaction is) (left.stored.images told image leaves));
    }

    -- what the transaction had is committed
    pub settles-commit : {line : List ℕ} → SpellsOnly line commands.Commit → old.console.is_open ≡ true → LeavesEither g old new.disk → Commits g old new
        → Settles g (Whole line) old new state Done
    settles-commit {line = line} only opened leaves commits =
        settles-done {line = Whole line} {before = state} Done (with_commit state transaction) tt
        (record {
          is_at = commits-at commits;
          crash = commit-crash at live (with_commit state transaction) new.disk
              (λ told. written-one at live told transaction is) leaves;
        })
        (λ told. (commit-accepted at live only opened, commands.Commit, only.spelled, (refl, transaction, is, refl)))
        (uses-writes state only tt (commit-reached at live only opened) (inr (inl only.spelled)) (λ none. none))

    -- the disk failed before anything of it was written
    pub settles-commit_read_fault : {line : List ℕ} → SpellsOnly line commands.Commit → old.console.is_open ≡ true → FailsRead g old new
        → Rose (g.faults old.disk) (g.faults new.disk)
        → Settles g (Whole line) old new state (Faulted [] DiskFailed)
    settles-commit_read_fault {line = line} only opened fails rose =
        settles-fault {line = Whole line} {before = state} (Faulted [] DiskFailed) (stopped state) (comes-fails at live (fails-drafted fails)) rose
        (λ told. (refl, commit-reached at live only opened, commands.Commit, only.spelled, inl refl, (transaction, is, inl refl)))
        (uses-writes state only tt (commit-reached at live only opened) (inr (inl only.spelled)) (λ none. none))

    -- the disk failed in the commit
    pub settles-commit_fault : {line : List ℕ} → SpellsOnly line commands.Commit → old.console.is_open ≡ true → LeavesEither g old new.disk
        → IsLeftOpen g old new
        → Rose (g.faults old.disk) (g.faults new.disk) → Settles g (Whole line) old new state (Faulted [] DiskFailed)
    settles-commit_fault {line = line} only opened leaves left rose =
        settles-fault {line = Whole line} {before = state} (Faulted [] DiskFailed) (in_doubt state transaction.graph)
        (record {
          is_at = left_open-at left;
          crash = commit-crash at live (in_doubt state transaction.graph) new.disk
              (λ told. second-one at live told transaction is) leaves;
        }) rose
        (λ told. (refl, commit-reached at live only opened, commands.Commit, only.spelled, inl refl, (transaction, is, inr refl)))
        (uses-writes state only tt (commit-reached at live only opened) (inr (inl only.spelled)) (λ none. none))
