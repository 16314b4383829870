-- What the store's calls leave of a session, as its lines are settled.
use Rattle.std.proofs.Common.{◌≡◌, ◌⊎◌, ◌∙◌, ℕ, ◌≤◌, true, false, List, [], length, take, inl, inr, refl, sym, ap, subst, arith}
use Rattle.std.proofs.lemmas.List.{nil_from_length}
use Rattle.fault_count.specs.Cause.{Rose}
use Rattle.disk_model.specs.Spans.{AtEachMoment, OnlyReads}
use Rattle.disk_model.specs.declared.disk.Disk.{Ghosts}
use Rattle.disk_model.proofs.Spans.{OnlyNow, only_reads_none}
use Rattle.plain_graph.specs.Changes.{start_weight}
use Rattle.plain_graph.specs.Reply.{DiskFailed, Done, Faulted, Refused}
use Rattle.plain_graph.specs.declared.command.Command.TheVariants as commands
use Rattle.plain_graph.specs.declared.refusal.Refusal.TheVariants as refusals
use Rattle.rec_bytes.specs.Format.{names_file}
use Rattle.rec_bytes.specs.Pairs.{Held}
use Rattle.rec_bytes.specs.Space.{meta_of}
use Rattle.rec_bytes.specs.declared.key.Key.{Key}
use Rattle.rec_bytes.specs.declared.meta.Meta.{Meta}
use Rattle.rec_bytes.specs.declared.record.Rec.{Rec}
use Rattle.record_file.specs.Redone.{Redoes}
use Rattle.store_rules.specs.Views.{high}
use Rattle.txn_core.specs.Base.{SameBeneath, SameStore}
use Rattle.txn_core.specs.Kept.{IsOnDisk}
use Rattle.txn_core.specs.Outcomes.{HasFailed, HasFailedCommit, IsCheckpointed, IsDropped, IsInDoubt, IsWritten}
use Rattle.txn_core.specs.Store.{committed, state_of, working}
use Rattle.txn_core.specs.declared.store.Store.{Store}
use Rattle.txn_core.proofs.StoreRecords.{committed-beneath, drafted-none, working-none}
use Rattle.graph_session.specs.Console.{SessionView}
use Rattle.graph_session.specs.Effects.{Begins, Commits, Drops, Ends, FailsRead, IsBrought, IsLeftOpen, IsStopped, IsStored, KeepsBeneath}
use Rattle.graph_session.specs.Known.{as_known}
use Rattle.graph_session.specs.Settling.{SettlesCommand}
use Rattle.graph_session.specs.declared.health.Health.{Health}
use Rattle.graph_session.specs.declared.health.Health.TheVariants as healths
use Rattle.graph_session.proofs.Answering.{settles-refused_at_once}
use Rattle.graph_session.proofs.Conditions.{closed-refused, open-refused}
use Rattle.graph_session.proofs.Knowing.{begins-known, brought-known, commits-known, drops-known, fails_read-known, left_open-known, stopped-known, told_all}
use Rattle.graph_session.proofs.States.{is_open, not_failed, not_open}
use Rattle.graph_session.proofs.Storage.{settles-checkpoint, settles-checkpoint_fault}
use Rattle.graph_session.proofs.Transactions.{commit-open, rollback-open, settles-begin, settles-commit}
use Rattle.graph_session.proofs.Transactions.{settles-commit_fault, settles-commit_read_fault, settles-rollback}

-- a session's view, from its parts
abbrev pub seen_as : {D : Type 0} {g : Ghosts D} → Store D g → Health → ℕ → List (List ℕ) → SessionView D
seen_as store health weight names = record {
  console = record {
    shape = store.base.shape;
    health = health;
    is_live = store.base.live;
    is_open = store.base.in_transaction;
    weight = weight;
    names = names;
    committed = committed store;
    working = working store;
    written = store.base.own.pairs;
    draft = store.draft.pairs;
  };
  disk = store.base.disk.now;
}

module _ {D : Type 0} {g : Ghosts D} where
  stored-one : (disk : D) (space : Key → Rec) → IsOnDisk g disk (λ left. Redoes left space) → IsStored g disk (λ left. Redoes left space)
  stored-one disk space stored = record { read = stored.read; images = λ told image left. stored.images told.0 told.1 image left }

  stored-either : (disk : D) (a b : Key → Rec) → IsOnDisk g disk (λ left. Redoes left a ⊎ Redoes left b)
      → IsStored g disk (λ left. Redoes left a ⊎ Redoes left b)
  stored-either disk a b stored = record { read = stored.read; images = λ told image left. stored.images told.0 told.1 image left }

  -- a line that is refused at once, for a transaction that is open or none
  module _ (only_now : OnlyNow g) (old : SessionView D) (live : old.console.health ≡ healths.Live) where
    pub refused-commit : old.console.is_open ≡ false → SettlesCommand g commands.Commit old old (Refused refusals.NoTransaction)
    refused-commit closed = record {
      settles = λ known line state only served at.
          settles-refused_at_once {g = as_known known g} only_now at refusals.NoTransaction
          (λ told. closed-refused state only (inl (not_failed at live)) (inl refl) commit-open (not_open at closed));
      may = λ none. inl (refl, closed, refl);
      onward = record { disk_later = omega arith };
    }

    pub refused-rollback : old.console.is_open ≡ false → SettlesCommand g commands.Rollback old old (Refused refusals.NoTransaction)
    refused-rollback closed = record {
      settles = λ known line state only served at.
          settles-refused_at_once {g = as_known known g} only_now at refusals.NoTransaction
          (λ told. closed-refused state only (inl (not_failed at live)) (inr refl) rollback-open (not_open at closed));
      may = λ none. inl (refl, closed, refl);
      onward = record { disk_later = omega arith };
    }

  pub refused-begin : (only_now : OnlyNow g) (old : SessionView D) → old.console.health ≡ healths.Live → old.console.is_open ≡ true
      → SettlesCommand g commands.Begin old old (Refused refusals.TransactionOpen)
  refused-begin only_now old live opened = record {
    settles = λ known line state only served at.
        settles-refused_at_once {g = as_known known g} only_now at refusals.TransactionOpen
        (λ told. open-refused state only (inl (not_failed at live)) (inl refl) (is_open at opened));
    may = λ none. inl (refl, opened, refl);
    onward = record { disk_later = omega arith };
  }

  pub refused-reopen : (only_now : OnlyNow g) (old : SessionView D) → old.console.is_open ≡ true
      → SettlesCommand g commands.Reopen old old (Refused refusals.TransactionOpen)
  refused-reopen only_now old opened = record {
    settles = λ known line state only served at.
        settles-refused_at_once {g = as_known known g} only_now at refusals.TransactionOpen
        (λ told. open-refused state only (inr refl) (inr (inr refl)) (is_open at opened));
    may = λ none. inl (refl, opened, refl);
    onward = record { disk_later = omega arith };
  }

  module _ (only_now : OnlyNow g) (s t : Store D g) (same : SameBeneath s.base t.base) (draft : t.draft.pairs ≡ []) where
    -- the disk wasn't called
    beneath : (health healthier : Health) (weight weigher : ℕ) (names named : List (List ℕ))
        → KeepsBeneath g (seen_as s health weight names) (seen_as t healthier weigher named)
    beneath health healthier weight weigher names named = record {
      shape = same.shape;
      is_live = same.live;
      committed = λ told. committed-beneath s.base t.base same;
      no_draft = draft;
      disk = subst (λ (disk : D). OnlyReads g s.base.disk.now disk) (sym same.disk) (only_reads_none g s.base.disk.now only_now);
    }

    later : g.faults s.base.disk.now ≤ g.faults t.base.disk.now
    later = subst (λ (disk : D). g.faults s.base.disk.now ≤ g.faults disk) (sym same.disk) (omega arith)

    module _ (own : t.base.own.pairs ≡ []) (health : Health) (live : health ≡ healths.Live) (weight : ℕ) (names : List (List ℕ)) where
      begins : t.base.in_transaction ≡ true → Begins g (seen_as s health weight names) (seen_as t health start_weight names)
      begins opened = record {
        beneath = beneath health health weight start_weight names names;
        same_disk = same.disk;
        health = refl;
        is_open = opened;
        weight = refl;
        names = refl;
        written = own;
        working = λ told. working-none t.base own ∙ committed-beneath s.base t.base same;
      }

      pub began : s.base.in_transaction ≡ false → t.base.in_transaction ≡ true
          → SettlesCommand g commands.Begin (seen_as s health weight names) (seen_as t health start_weight names) Done
      began closed opened = record {
        settles = λ known line state only served at. settles-begin at live only closed (begins-known known (begins opened));
        may = λ none. inr (refl, closed, begins opened);
        onward = record { disk_later = later };
      }

      drops : (named : List (List ℕ)) → t.base.in_transaction ≡ false → (meta : Meta) → meta ≡ meta_of (state_of t) names_file → named ≡ take meta.high names
          → Drops g (seen_as s health weight names) (seen_as t health weight named)
      drops named closed meta is cut = record {
        beneath = beneath health health weight weight names named;
        same_disk = same.disk;
        health = refl;
        is_open = closed;
        names = cut ∙ ap (λ (m : Meta). take m.high names) is ∙ ap (λ (records : Key → Rec). take (high records names_file) names)
            (drafted-none t draft ∙ working-none t.base own);
        working = λ told. working-none t.base own ∙ committed-beneath s.base t.base same;
      }

      -- the names that were brought are cut
      pub dropped : (named : List (List ℕ)) → s.base.in_transaction ≡ true → t.base.in_transaction ≡ false → (meta : Meta)
          → meta ≡ meta_of (state_of t) names_file → named ≡ take meta.high names
          → SettlesCommand g commands.Rollback (seen_as s health weight names) (seen_as t health weight named) Done
      dropped named opened closed meta is cut = record {
        settles = λ known line state only served at. settles-rollback at live only opened (drops-known known (drops named closed meta is cut));
        may = λ none. inr (refl, opened, drops named closed meta is cut);
        onward = record { disk_later = later };
      }

  module _ (s t : Store D g) (same : SameStore s.base t.base) (closed : t.base.in_transaction ≡ false) (draft : t.draft.pairs ≡ [])
      (later_on : g.faults s.base.disk.now ≤ g.faults t.base.disk.now) where
    ends : (health healthier : Health) (weight : ℕ) (names : List (List ℕ)) → Ends (seen_as s health weight names) (seen_as t healthier weight names)
    ends health healthier weight names = record { shape = same.shape; is_open = closed; no_draft = draft }

    module _ (opened : s.base.in_transaction ≡ true)
        (crash : g.tells_reads → g.tells_images → AtEachMoment g s.base.disk.now t.base.disk.now (λ left. Redoes left (committed s) ⊎ Redoes left (working s)))
        (health : Health) (live : health ≡ healths.Live) (weight : ℕ) (names : List (List ℕ)) where
      commits : t.base.own.pairs ≡ [] → IsWritten s.base t.base → Commits g (seen_as s health weight names) (seen_as t health weight names)
      commits own written = record {
        ends = ends health health weight names;
        health = refl;
        live = written.live;
        names = refl;
        committed = written.space;
        working = λ told. working-none t.base own;
        stored = stored-one t.base.disk.now (working s) written.stored;
      }

      -- what the transaction had is committed
      pub committed_one : t.base.own.pairs ≡ [] → IsWritten s.base t.base → (s.base.own.pairs ≡ [] → t.base.disk.now ≡ s.base.disk.now)
          → SettlesCommand g commands.Commit (seen_as s health weight names) (seen_as t health weight names) Done
      committed_one own written idle = record {
        settles = λ known line state only served at.
            let open_one = is_open at opened in
            settles-commit at live open_one.0 open_one.1 only opened (λ told. let all = told_all known g told in crash all.0 all.1)
            (commits-known known (commits own written));
        may = λ none. inr (opened, (λ told. crash told.0 told.1), (λ nothing. (refl, idle nothing)), inl (refl, commits own written));
        onward = record { disk_later = later_on };
      }

      is_left_open : IsInDoubt s.base t.base → IsLeftOpen g (seen_as s health weight names) (seen_as t healths.Failed weight names)
      is_left_open doubt = record {
        ends = ends health healths.Failed weight names;
        health = refl;
        failed = doubt.failed;
        names = refl;
        stored = stored-either t.base.disk.now (committed s) (working s) doubt.stored;
      }

      is_read : IsDropped s.base t.base → FailsRead g (seen_as s health weight names) (seen_as t healths.Failed weight names)
      is_read dropped = record { ends = ends health healths.Failed weight names; health = refl; live = dropped.live; names = refl; disk = dropped.reads }

      -- the disk failed in the commit: it was only read, or it is left open whether what the transaction had is committed
      pub commit_failed : HasFailedCommit s.base t.base → Rose (g.faults s.base.disk.now) (g.faults t.base.disk.now) → ¬ (s.base.own.pairs ≡ [])
          → SettlesCommand g commands.Commit (seen_as s health weight names) (seen_as t healths.Failed weight names) (Faulted [] DiskFailed)
      commit_failed (inl dropped) rose busy = record {
        settles = λ known line state only served at.
            let open_one = is_open at opened in
            settles-commit_read_fault at live open_one.0 open_one.1 only opened (fails_read-known known (is_read dropped)) rose;
        may = λ none. inr (opened, (λ told. crash told.0 told.1), (λ nothing. absurd (busy nothing)), inr ((refl, rose), inl (is_read dropped)));
        onward = record { disk_later = later_on };
      }
      commit_failed (inr doubt) rose busy = record {
        settles = λ known line state only served at.
            let open_one = is_open at opened in
            settles-commit_fault at live open_one.0 open_one.1 only opened (λ told. let all = told_all known g told in crash all.0 all.1)
            (left_open-known known (is_left_open doubt)) rose;
        may = λ none. inr (opened, (λ told. crash told.0 told.1), (λ nothing. absurd (busy nothing)), inr ((refl, rose), inr (is_left_open doubt)));
        onward = record { disk_later = later_on };
      }

  module _ (s t : Store D g) (same : SameStore s.base t.base) (was_closed : s.base.in_transaction ≡ false) (closed : t.base.in_transaction ≡ false)
      (draft : t.draft ≡ s.draft)
      (later_on : g.faults s.base.disk.now ≤ g.faults t.base.disk.now) (crash : g.tells_reads → g.tells_images → AtEachMoment g s.base.disk.now t.base.disk.now
      (λ left. Redoes left (committed s)))
      (health : Health) (live : health ≡ healths.Live) (weight : ℕ) (names : List (List ℕ)) where
    no_draft : s.draft.pairs ≡ [] → t.draft.pairs ≡ []
    no_draft none = ap (λ (held : Held). held.pairs) draft ∙ none

    is_brought : t.base.own ≡ s.base.own → length s.base.own.pairs ≡ 0 → IsCheckpointed s.base t.base → s.draft.pairs ≡ []
        → IsBrought g (seen_as s health weight names) (seen_as t health weight names)
    is_brought own none done undrafted = record {
      ends = record { shape = same.shape; is_open = closed; no_draft = no_draft undrafted };
      health = refl;
      live = done.live;
      names = refl;
      committed = done.space;
      working = λ told. working-none t.base (ap (λ (held : Held). held.pairs) own ∙ nil_from_length s.base.own.pairs none);
      stored = stored-one t.base.disk.now (committed s) done.stored;
    }

    -- all that is committed is in its files
    pub brought : t.base.own ≡ s.base.own → length s.base.own.pairs ≡ 0 → IsCheckpointed s.base t.base
        → SettlesCommand g commands.Checkpoint (seen_as s health weight names) (seen_as t health weight names) Done
    brought own none done = record {
      settles = λ known line state only served at.
          settles-checkpoint at live was_closed only (λ told. let all = told_all known g told in crash all.0 all.1)
          (brought-known known (is_brought own none done at.no_draft));
      may = λ undrafted. inr (was_closed, (λ told. crash told.0 told.1), inl (refl, is_brought own none done undrafted));
      onward = record { disk_later = later_on };
    }

    is_stopped : HasFailed s.base t.base → s.draft.pairs ≡ [] → IsStopped g (seen_as s health weight names) (seen_as t healths.Failed weight names)
    is_stopped failed undrafted = record {
      ends = record { shape = same.shape; is_open = closed; no_draft = no_draft undrafted };
      health = refl;
      names = refl;
      stored = stored-one t.base.disk.now (committed s) failed.stored;
    }

    -- the disk failed
    pub stopped_so : HasFailed s.base t.base → Rose (g.faults s.base.disk.now) (g.faults t.base.disk.now)
        → SettlesCommand g commands.Checkpoint (seen_as s health weight names) (seen_as t healths.Failed weight names) (Faulted [] DiskFailed)
    stopped_so failed rose = record {
      settles = λ known line state only served at.
          settles-checkpoint_fault at live was_closed only (λ told. let all = told_all known g told in crash all.0 all.1)
          (stopped-known known (is_stopped failed at.no_draft)) rose;
      may = λ undrafted. inr (was_closed, (λ told. crash told.0 told.1), inr ((refl, rose), is_stopped failed undrafted));
      onward = record { disk_later = later_on };
    }
