-- A checkpoint, and a store that is found again.
use Rattle.std.proofs.Common.{◌≡◌, ◌⊎◌, ◌∙◌, ℕ, false, List, [], ◌∷◌, inl, inr, refl, sym, ap, subst, arith}
use Rattle.std.proofs.lemmas.List.{append-nil}
use Rattle.fault_count.specs.Cause.{Rose}
use Rattle.disk_model.specs.Contents.{Files}
use Rattle.disk_model.specs.Spans.{AtEachMoment, OnlyReads}
use Rattle.disk_model.specs.declared.disk.Disk.{Ghosts}
use Rattle.disk_model.proofs.Spans.{CountsNow, at_each_moment_now, at_each_moment_read, at_each_moment_weaker}
use Rattle.stream_io.specs.Lines.{Whole}
use Rattle.plain_graph.specs.Graph.{Graph}
use Rattle.plain_graph.specs.Reply.{DamagedRecord, DiskFailed, Done, Faulted}
use Rattle.plain_graph.specs.declared.command.Command.TheVariants as commands
use Rattle.rec_bytes.specs.declared.key.Key.{Key}
use Rattle.rec_bytes.specs.declared.record.Rec.{Rec}
use Rattle.record_file.specs.Redone.{Redoes}
use Rattle.store_rules.specs.Graph.{graph_of, names_of}
use Rattle.store_rules.specs.Indexes.{IsIndexed}
use Rattle.graph_session.specs.Answer.{Settles}
use Rattle.graph_session.specs.Console.{IsAt, SessionView, TellsAll}
use Rattle.graph_session.specs.Effects.{IsBrought, IsFound, IsLost, IsStopped, LeavesCommitted, LeavesSame}
use Rattle.graph_session.specs.Exchange.{failing}
use Rattle.graph_session.specs.Moments.{ComesTo}
use Rattle.graph_session.specs.Refusals.{IsReached, SpellsOnly}
use Rattle.graph_session.specs.Stands.{IsAdmitted, IsAdmittedByEither}
use Rattle.graph_session.specs.State.{Admits, Live, State, admitted, seen, seen_by}
use Rattle.graph_session.specs.declared.health.Health.TheVariants as healths
use Rattle.graph_session.proofs.Answering.{settles-damaged, settles-done, settles-fault}
use Rattle.graph_session.proofs.Conditions.{NeedsOne, idle-accepted, idle_reasons, reached}
use Rattle.graph_session.proofs.DiskUse.{uses-writes}
use Rattle.graph_session.proofs.Held.{committed-one, held, seen_closed}
use Rattle.graph_session.proofs.Known.{begin-same, known-admitted, known-one}
use Rattle.graph_session.proofs.Stands.{IsOneOf, all-admitted, own-one, redone-admitted, redone-held}
use Rattle.graph_session.proofs.States.{is_closed, not_failed, not_open}

-- the state in which the disk has the committed graph
abbrev pub stopped : State → State
stopped state = failing state (state.committed ∷ [])

checkpoint-closed : ¬ NeedsOne commands.Checkpoint
checkpoint-closed (inl e) = cc
checkpoint-closed (inr e) = cc

reopen-closed : ¬ NeedsOne commands.Reopen
reopen-closed (inl e) = cc
reopen-closed (inr e) = cc

module _ {D : Type 0} {g : Ghosts D} {old : SessionView D} {state : State} (at : IsAt g old state) (live : old.console.health ≡ healths.Live) where
  -- the committed graph is open yet
  pub stopped-one : g.tells_reads → IsOneOf (stopped state) old.console.committed
  stopped-one told = let had = held at live told in record { store = had.committed; admits = (0, omega arith, sym had.committed_graph) }

  checkpoint-reached : {line : List ℕ} → SpellsOnly line commands.Checkpoint → old.console.is_open ≡ false → IsReached state (Whole line)
  checkpoint-reached only closed = reached state only (inl (not_failed at live)) (λ needs. not_open at closed) (λ needs. absurd (checkpoint-closed needs))

  checkpoint-crash : (after : State) (disk : D) → LeavesCommitted g old disk → TellsAll g → AtEachMoment g old.disk disk (IsAdmittedByEither state after)
  checkpoint-crash after disk leaves told =
      at_each_moment_weaker g old.disk disk _ (IsAdmittedByEither state after) (leaves told)
      (λ left redoes. inl (redone-admitted state old.console.committed left (committed-one at live told.0) redoes))

module _ {D : Type 0} {g : Ghosts D} {old new : SessionView D} {state : State} (at : IsAt g old state) (live : old.console.health ≡ healths.Live)
    (closed : old.console.is_open ≡ false) where
  brought-at : IsBrought g old new → IsAt g new state
  brought-at brought = record {
    shape = at.shape ∙ sym brought.ends.shape;
    health = brought.health ∙ at.health;
    opened = at.opened ∙ closed ∙ sym brought.ends.is_open;
    weight = λ transaction is. let none = is_closed at closed in cc;
    no_draft = brought.ends.no_draft;
    closed = at.closed;
    holds = λ told stands.
        let had = held at live told in
        let same : graph_of old.console.working ≡ graph_of old.console.committed = had.working_graph ∙ seen_closed state (is_closed at closed)
        ∙ sym had.committed_graph in
        record {
          live = brought.live;
          committed = rw (brought.committed told) had.committed;
          committed_graph = rw (brought.committed told) had.committed_graph;
          working = rw (brought.working told, brought.committed told) had.committed;
          working_graph = rw (brought.working told, brought.committed told) (sym same ∙ had.working_graph);
          names = brought.names ∙ had.names;
          brought = (had.brought.0, brought.names ∙ had.brought.1);
        };
    known = λ told failed. absurd (not_failed at live failed);
    reads = λ told. redone-held state old.console.committed (g.reads new.disk) (committed-one at live told) (brought.stored.read told);
    images = λ told. all-admitted state old.console.committed (g.may_leave new.disk) (committed-one at live told.0) (brought.stored.images told);
  }

  pub settles-checkpoint : {line : List ℕ} → SpellsOnly line commands.Checkpoint → LeavesCommitted g old new.disk → IsBrought g old new
      → Settles g (Whole line) old new state Done
  settles-checkpoint {line = line} only leaves brought =
      settles-done {line = Whole line} {before = state} Done state tt (record {
        is_at = brought-at brought;
        crash = checkpoint-crash at live state new.disk
            leaves;
      })
      (λ told. (
        idle-accepted state only (λ change. change) idle_reasons (checkpoint-reached at live only closed),
        commands.Checkpoint,
        only.spelled,
        (refl, refl),
      ))
      (uses-writes state only tt (checkpoint-reached at live only closed) (inr (inr (inl only.spelled))) (λ none. none))

  stopped-at : IsStopped g old new → IsAt g new (stopped state)
  stopped-at left = record {
    shape = at.shape ∙ sym left.ends.shape;
    health = left.health;
    opened = sym left.ends.is_open;
    weight = λ other none. cc;
    no_draft = left.ends.no_draft;
    closed = λ failed. refl;
    holds = λ told stands. cc;
    known = λ told failed graph admits.
        known-one new.console.names state.committed graph admits (begin-same new.console.names old.console.names state.committed.names left.names
        (held at live told).brought);
    reads = λ told. redone-held (stopped state) old.console.committed (g.reads new.disk) (stopped-one at live told) (left.stored.read told);
    images = λ told. all-admitted (stopped state) old.console.committed (g.may_leave new.disk) (stopped-one at live told.0) (left.stored.images told);
  }

  pub settles-checkpoint_fault : {line : List ℕ} → SpellsOnly line commands.Checkpoint → LeavesCommitted g old new.disk → IsStopped g old new
      → Rose (g.faults old.disk) (g.faults new.disk)
      → Settles g (Whole line) old new state (Faulted [] DiskFailed)
  settles-checkpoint_fault {line = line} only leaves left rose =
      settles-fault {line = Whole line} {before = state} (Faulted [] DiskFailed) (stopped state)
      (record { is_at = stopped-at left; crash = checkpoint-crash at live (stopped state) new.disk leaves }) rose
      (λ told. (refl, checkpoint-reached at live only closed, commands.Checkpoint, only.spelled, inl refl, refl))
      (uses-writes state only tt (checkpoint-reached at live only closed) (inr (inr (inl only.spelled))) (λ none. none))

-- and so it is after further reads
pub leaves-same_read : {D : Type 0} (g : Ghosts D) (old mid new : D) → CountsNow g → LeavesSame g old mid → OnlyReads g mid new → LeavesSame g old new
leaves-same_read g old mid new counts leaves reads told space redoes = at_each_moment_read g old mid new _ counts told.1 (leaves told space redoes) reads

-- the state in which the disk still has one of the graphs
abbrev pub lost : State → State
lost state = failing state (admitted state)

-- the state in which this graph was found
abbrev pub found : State → Graph → State
found state graph = record state { committed = graph; standing = Live }

module _ {D : Type 0} {g : Ghosts D} {old : SessionView D} {state : State} (at : IsAt g old state) (closed : old.console.is_open ≡ false) where
  reopen-reached : {line : List ℕ} → SpellsOnly line commands.Reopen → IsReached state (Whole line)
  reopen-reached only = reached state only (inr refl) (λ needs. not_open at closed) (λ needs. absurd (reopen-closed needs))

  -- the records that what is read redoes to
  read-one : (told : g.tells_reads) → IsOneOf state (at.reads told).2.space
  read-one told =
      let had = at.reads told in
      record { store = had.2.store; admits = subst (λ (graph : Graph). Admits state graph) had.2.graph_is had.1 }

  -- what each content of the recovery stands for
  again-crash : (disk : D) → LeavesSame g old.disk disk → TellsAll g → AtEachMoment g old.disk disk (IsAdmitted state)
  again-crash disk leaves told =
      let had = at.reads told.0 in
      at_each_moment_weaker g old.disk disk _ (IsAdmitted state) (leaves told had.2.space had.2.redoes) by
    where
      by : (left : Files) → g.may_leave old.disk left ⊎ Redoes left (at.reads told.0).2.space → IsAdmitted state left
      by left (inl was) = at.images told left was
      by left (inr redoes) = redone-admitted state (at.reads told.0).2.space left (read-one told.0) redoes

  again-either : (after : State) (disk : D) → LeavesSame g old.disk disk → TellsAll g → AtEachMoment g old.disk disk (IsAdmittedByEither state after)
  again-either after disk leaves told = at_each_moment_weaker g old.disk disk (IsAdmitted state) (IsAdmittedByEither state after) (again-crash disk leaves told)
      (λ left admits. inl admits)

module _ {D : Type 0} {g : Ghosts D} (counts : CountsNow g) {old new : SessionView D} {state : State} (at : IsAt g old state)
    (closed : old.console.is_open ≡ false) where
  lost-at : LeavesSame g old.disk new.disk → IsLost g old new → IsAt g new (lost state)
  lost-at leaves left = record {
    shape = at.shape ∙ sym left.ends.shape;
    health = left.health;
    opened = sym left.ends.is_open;
    weight = λ other none. cc;
    no_draft = left.ends.no_draft;
    closed = λ failed. refl;
    holds = λ told stands. cc;
    known = λ told failed graph admits. begin-same new.console.names old.console.names graph.names left.names (known-admitted at told graph admits);
    reads = λ told.
        let had = at.reads told in
        (had.0, had.1, record { space = had.2.space; redoes = left.read told had.2.space had.2.redoes; store = had.2.store; graph_is = had.2.graph_is });
    images = λ told. at_each_moment_now g old.disk new.disk (IsAdmitted state) counts told.1 (again-crash at closed new.disk leaves told);
  }

  lost-comes : LeavesSame g old.disk new.disk → IsLost g old new → ComesTo g old new state (lost state)
  lost-comes leaves left = record { is_at = lost-at leaves left; crash = again-either at closed (lost state) new.disk leaves }

  -- the disk failed in the recovery, or as the names were read
  pub settles-reopen_fault : {line : List ℕ} → SpellsOnly line commands.Reopen → LeavesSame g old.disk new.disk → IsLost g old new
      → Rose (g.faults old.disk) (g.faults new.disk)
      → Settles g (Whole line) old new state (Faulted [] DiskFailed)
  settles-reopen_fault {line = line} only leaves left rose =
      settles-fault {line = Whole line} {before = state} (Faulted [] DiskFailed) (lost state) (lost-comes leaves left) rose
      (λ told. (refl, reopen-reached at closed only, commands.Reopen, only.spelled, inl refl, refl))
      (uses-writes state only tt (reopen-reached at closed only) (inr (inr (inr only.spelled))) (λ none. none))

  -- a record is told to be damaged, of a disk that doesn't tell what it reads
  pub settles-reopen_damaged : {line : List ℕ} → SpellsOnly line commands.Reopen → (file id : ℕ) → LeavesSame g old.disk new.disk → IsLost g old new
      → (g.tells_reads → ⊥) → Settles g (Whole line) old new state (Faulted [] (DamagedRecord file id))
  settles-reopen_damaged {line = line} only file id leaves left sound =
      settles-damaged {line = Whole line} {before = state} file id (lost state) (lost-comes leaves left) sound
      (uses-writes state only tt (reopen-reached at closed only) (inr (inr (inr only.spelled))) (λ none. none))

module _ {D : Type 0} {g : Ghosts D} {old new : SessionView D} {state : State} (at : IsAt g old state) (closed : old.console.is_open ≡ false)
    (is : IsFound g old new) where
  abbrev after_found : State
  after_found = found state (graph_of new.console.committed)

  -- what was read is committed
  found-same : (told : g.tells_reads) → new.console.committed ≡ (at.reads told).2.space
  found-same told = is.committed told (at.reads told).2.space (at.reads told).2.redoes

  found-store : (told : g.tells_reads) → IsIndexed new.console.committed state.shape
  found-store told = rw (found-same told) (at.reads told).2.store

  found-one : g.tells_reads → IsOneOf after_found new.console.committed
  found-one told = own-one after_found new.console.committed refl (found-store told) refl

  found-names : g.tells_reads → new.console.names ≡ (graph_of new.console.committed).names
  found-names told = is.names told (at.reads told).2.space (at.reads told).2.redoes ∙ ap names_of (sym (found-same told))

  found-at : IsAt g new after_found
  found-at = record {
    shape = at.shape ∙ sym is.ends.shape;
    health = is.health;
    opened = at.opened ∙ closed ∙ sym is.ends.is_open;
    weight = λ transaction other. let none = is_closed at closed in cc;
    no_draft = is.ends.no_draft;
    closed = λ failed. absurd failed;
    holds = λ told stands.
        let none : seen after_found ≡ graph_of new.console.committed = ap (seen_by (graph_of new.console.committed)) (is_closed at closed) in
        record {
          live = is.live;
          committed = found-store told;
          committed_graph = refl;
          working = rw (is.working told) (found-store told);
          working_graph = ap graph_of (is.working told) ∙ sym none;
          names = found-names told ∙ ap (λ (graph : Graph). graph.names) (sym none);
          brought = ([], found-names told ∙ sym (append-nil (graph_of new.console.committed).names));
        };
    known = λ told failed. absurd failed;
    reads = λ told.
        redone-held after_found new.console.committed (g.reads new.disk) (found-one told)
        (subst (λ (space : Key → Rec). Redoes (g.reads new.disk) space) (sym (found-same told)) (is.read told (at.reads told).2.space
        (at.reads told).2.redoes));
    images = λ told. all-admitted after_found new.console.committed (g.may_leave new.disk) (found-one told.0) (is.images told);
  }

  pub settles-reopen : {line : List ℕ} → SpellsOnly line commands.Reopen → LeavesSame g old.disk new.disk → Settles g (Whole line) old new state Done
  settles-reopen {line = line} only leaves =
      settles-done {line = Whole line} {before = state} Done after_found tt
      (record { is_at = found-at; crash = again-either at closed after_found new.disk leaves })
      (λ told. (
        idle-accepted state only (λ change. change) idle_reasons (reopen-reached at closed only),
        commands.Reopen,
        only.spelled,
        (
          refl,
          graph_of new.console.committed,
          subst (λ (space : Key → Rec). Admits state (graph_of space)) (sym (found-same told))
              (read-one at closed told).admits,
          refl,
        ),
      ))
      (uses-writes state only tt (reopen-reached at closed only) (inr (inr (inr only.spelled))) (λ none. none))
