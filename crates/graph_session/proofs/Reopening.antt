-- A store that is found again, and its names.
use Rattle.std.proofs.Common.{◌≡◌, ◌⊎◌, ⊎_elim, ◌∙◌, ℕ, ◌≤◌, Bool, false, List, [], ◌++◌, length, inl, inr, refl, sym, ap, subst, arith}
use Rattle.std.proofs.lemmas.List.{nil_from_length}
use Rattle.fault_count.specs.Cause.{Rose}
use Rattle.disk_model.specs.Spans.{AtEachMoment, OnlyReads}
use Rattle.disk_model.specs.declared.disk.Disk.{Ghosts}
use Rattle.disk_model.proofs.Spans.{CountsNow, only_reads_on}
use Rattle.plain_graph.specs.Graph.{Graph}
use Rattle.plain_graph.specs.Reply.{DamagedRecord, DiskFailed, Faulted}
use Rattle.plain_graph.specs.declared.command.Command.TheVariants as commands
use Rattle.rec_bytes.specs.Pairs.{Held}
use Rattle.rec_bytes.specs.declared.damage.Damage.{Damage}
use Rattle.rec_bytes.specs.declared.key.Key.{Key}
use Rattle.rec_bytes.specs.declared.record.Rec.{Rec}
use Rattle.rec_bytes.specs.declared.row_fault.RowFault.TheVariants as rows
use Rattle.rec_bytes.specs.declared.shape.Shape.{Shape}
use Rattle.record_file.specs.Redone.{Redoes}
use Rattle.record_file.proofs.Redone.{Redoes-kept}
use Rattle.recovery.specs.Finding as finding
use Rattle.recovery.specs.Finding.{IsCareful}
use Rattle.store_rules.specs.Graph.{names_of}
use Rattle.store_rules.specs.Views.{Records}
use Rattle.stored_graph.proofs.Versions.{newest-made, newest-not_old}
use Rattle.name_store.specs.Again.{IsFirstOther}
use Rattle.name_store.proofs.NameDamage.{NotDamaged-prefix}
use Rattle.txn_core.specs.Again.{IsOld, IsRecovered, RefusesAgain}
use Rattle.txn_core.specs.Base.{OnlyReadsBase, SameStore}
use Rattle.txn_core.specs.Store.{content, drafted}
use Rattle.txn_core.specs.declared.again_fault.AgainFault.TheVariants as again_faults
use Rattle.txn_core.specs.declared.store.Store.{Store}
use Rattle.txn_core.proofs.StoreRecords.{committed-read, drafted-none, working-none}
use Rattle.rec_bytes.specs.declared.fault.Fault.TheVariants as faults
use Rattle.graph_session.specs.Answering.{reply_of}
use Rattle.graph_session.specs.Console.{BeginWith, IsAt}
use Rattle.graph_session.specs.Effects.{Ends, IsFound, IsLost, LeavesSame, ReadsClean}
use Rattle.graph_session.specs.Known.{as_known}
use Rattle.graph_session.specs.Naming.{IsNamed, IsUnnamed, TakesNames}
use Rattle.graph_session.specs.Settling.{SettlesCommand}
use Rattle.graph_session.specs.State.{State}
use Rattle.graph_session.specs.declared.answer.Answer.{Answer}
use Rattle.graph_session.specs.declared.answer.Answer.TheVariants as answers
use Rattle.graph_session.specs.declared.health.Health.{Health}
use Rattle.graph_session.specs.declared.health.Health.TheVariants as healths
use Rattle.graph_session.proofs.Knowing.{found-known, lost-known, told_all, told_of}
use Rattle.graph_session.proofs.Known.{known-admitted}
use Rattle.graph_session.proofs.Moves.{seen_as}
use Rattle.graph_session.proofs.Streams.{Rose-from}
use Rattle.graph_session.proofs.Storage.{leaves-same_read, settles-reopen, settles-reopen_damaged, settles-reopen_fault}

-- files that were left as they were are so after calls that only read
pub careful-on : {D : Type 0} (g : Ghosts D) (first old new : D) → IsCareful g first old → OnlyReads g old new → IsCareful g first new
careful-on g first old new careful reads told = ⊎_elim (λ only. inl (only_reads_on g first old new only reads)) (λ store. inr store) (careful told)

-- a name that is blamed is none of names that begin with those of the records
names-other : (records : Records) (names rest : List (List ℕ)) (damage : Damage) → names ≡ names_of records ++ rest → ¬ IsFirstOther records names damage
names-other records names rest damage is other = NotDamaged-prefix records names rest (rows.Damaged damage) is other

module _ {D : Type 0} {g : Ghosts D} where
  module _ (counts : CountsNow g) (s t : Store D g) (same : SameStore s.base t.base) (was_closed : s.base.in_transaction ≡ false)
      (closed : t.base.in_transaction ≡ false) (draft : t.draft.pairs ≡ [])
      (later_on : g.faults s.base.disk.now ≤ g.faults t.base.disk.now)
      (crash : g.tells_reads → g.tells_images → (space : Key → Rec) → Redoes (content s) space → AtEachMoment g s.base.disk.now t.base.disk.now
      (λ left. g.may_leave s.base.disk.now left ⊎ Redoes left space))
      (read : g.tells_reads → (space : Key → Rec) → Redoes (content s) space → Redoes (content t) space) (clean : ReadsClean g s.base.disk.now t.base.disk.now)
      (health : Health) (weight : ℕ) (names : List (List ℕ)) where
    leaves : LeavesSame g s.base.disk.now t.base.disk.now
    leaves told space redoes = crash told.0 told.1 space redoes

    leaves_known : (known : Bool) → LeavesSame (as_known known g) s.base.disk.now t.base.disk.now
    leaves_known known told = leaves (told_all known g told)

    lost-at_once : IsLost g (seen_as s health weight names) (seen_as t healths.Failed weight names)
    lost-at_once = record { ends = record { shape = same.shape; is_open = closed; no_draft = draft }; health = refl; names = refl; read = read; clean = clean }

    -- the disk failed in the recovery
    pub lost_disk : Rose (g.faults s.base.disk.now) (g.faults t.base.disk.now)
        → SettlesCommand g commands.Reopen (seen_as s health weight names) (seen_as t healths.Failed weight names) (Faulted [] DiskFailed)
    lost_disk rose = record {
      settles = λ known line state only served at. settles-reopen_fault {g = as_known known g} counts at was_closed only
          (leaves_known known) (lost-known known lost-at_once) rose;
      may = λ none. inr (was_closed, leaves, inr (inl ((refl, rose), lost-at_once)));
      onward =
          record { disk_later = later_on };
    }

    -- what is read was told to be no store of the newest version
    pub lost_damaged : (damage : Damage) → (g.tells_reads → (space : Key → Rec) → Redoes (content s) space → finding.IsMade space s.base.shape → ¬ IsOld space
        → ⊥)
        → (g.tells_reads → RefusesAgain (content s) s.base.shape (again_faults.Damaged damage))
        → SettlesCommand g commands.Reopen (seen_as s health weight names) (seen_as t healths.Failed weight names)
        (Faulted [] (DamagedRecord damage.file damage.id))
    lost_damaged damage sound refused = record {
      settles = λ known line state only served at. settles-reopen_damaged {g = as_known known g} counts at was_closed only damage.file damage.id
          (leaves_known known) (lost-known known lost-at_once) (λ told. none known at told);
      may = λ undrafted. inr (was_closed, leaves, inr (inr (damage, refl, lost-at_once, λ told. inl (refused told))));
      onward = record { disk_later = later_on };
    }
      where
        none : (known : Bool) {state : State} → IsAt (as_known known g) (seen_as s health weight names) state → (as_known known g).tells_reads → ⊥
        none known {state = state} at told =
            let had = (at.reads told).2 in
            sound (told_of known g told) had.space had.redoes (subst (λ (shape : Shape). finding.IsMade had.space shape) at.shape
            (newest-made had.space state.shape had.store.store.ranges))
            (newest-not_old had.space state.shape had.store.store.ranges)

    module _ (own : t.base.own ≡ s.base.own) (no_own : length s.base.own.pairs ≡ 0) (recovered : IsRecovered s.base t.base) (u : Store D g)
        (reads : OnlyReadsBase t.base u.base) (no_draft : u.draft.pairs ≡ [])
        (later_still : g.faults t.base.disk.now ≤ g.faults u.base.disk.now) where
      leaves_all : LeavesSame g s.base.disk.now u.base.disk.now
      leaves_all = leaves-same_read g s.base.disk.now t.base.disk.now u.base.disk.now counts leaves reads.disk

      leaves_all_known : (known : Bool) → LeavesSame (as_known known g) s.base.disk.now u.base.disk.now
      leaves_all_known known told = leaves_all (told_all known g told)

      ends : (healthier : Health) (weigher : ℕ) (named : List (List ℕ)) → Ends (seen_as s health weight names) (seen_as u healthier weigher named)
      ends healthier weigher named = record { shape = reads.shape ∙ same.shape; is_open = reads.in_transaction ∙ closed; no_draft = no_draft }

      read_on : g.tells_reads → (space : Key → Rec) → Redoes (content s) space → Redoes (content u) space
      read_on told space redoes = Redoes-kept space (content t) (content u) (read told space redoes) reads.disk.keeps

      clean_on : ReadsClean g s.base.disk.now u.base.disk.now
      clean_on told closed = only_reads_on g s.base.disk.now t.base.disk.now u.base.disk.now (clean told closed) reads.disk

      no_own-now : t.base.own.pairs ≡ []
      no_own-now = ap (λ (held : Held). held.pairs) own ∙ nil_from_length s.base.own.pairs no_own

      -- the records that are served are those that what was read redoes to
      drafted-space : g.tells_reads → (space : Key → Rec) → Redoes (content s) space → drafted t ≡ space
      drafted-space told space redoes = drafted-none t draft ∙ working-none t.base no_own-now ∙ recovered.space told space redoes

      -- the name that is blamed is one of those that what was read redoes to
      other-found : (damage : Damage) → (g.tells_reads → IsFirstOther (drafted t) names damage) → g.tells_reads → (space : Key → Rec) × Redoes (content s) space
          × IsFirstOther space names damage
      other-found damage blames told =
          let had = recovered.store told in
          (had.space, had.redoes, subst (λ (records : Records). IsFirstOther records names damage) (drafted-space told had.space had.redoes) (blames told))

      far : g.faults s.base.disk.now ≤ g.faults u.base.disk.now
      far = omega (arith, later_on, later_still)

      found : (healthier : Health) (weigher : ℕ) (named : List (List ℕ)) → IsNamed t named healthier
          → IsFound g (seen_as s health weight names) (seen_as u healthier weigher named)
      found healthier weigher named is = record {
        ends = ends healthier weigher named;
        health = is.live;
        live = reads.live ∙ recovered.live;
        names = λ told space redoes. is.named told ∙ ap names_of (drafted-space told space redoes);
        committed = λ told space redoes. committed-read t.base u.base reads ∙ recovered.space told space redoes;
        working = λ told. working-none u.base (ap (λ (held : Held). held.pairs) reads.own ∙ no_own-now);
        read = read_on;
        clean = clean_on;
        images = λ told image left. subst (λ (space : Key → Rec). Redoes image space) (sym (committed-read t.base u.base reads))
            (recovered.stored.images told.0 told.1 image (reads.disk.crash told.1 image left));
      }

      lost : (healthier : Health) (weigher : ℕ) (named : List (List ℕ)) → IsUnnamed names named healthier
          → IsLost g (seen_as s health weight names) (seen_as u healthier weigher named)
      lost healthier weigher named is = record { ends = ends healthier weigher named; health = is.failed; names = is.same; read = read_on; clean = clean_on }

      -- the names in memory begin with those of the graph that the disk has
      names-begin : (known : Bool) {state : State} → IsAt (as_known known g) (seen_as s health weight names) state → (as_known known g).tells_reads
          → BeginWith names (names_of (drafted t))
      names-begin known at told =
          let had = at.reads told in
          subst (λ (first : List (List ℕ)). BeginWith names first)
          (ap (λ (graph : Graph). graph.names) had.2.graph_is ∙ ap names_of (sym (drafted-space (told_of known g told) had.2.space had.2.redoes)))
          (known-admitted at told had.0 had.1)

      -- the store was found, and its names were taken again
      pub named_again : (healthier : Health) (weigher : ℕ) (named : List (List ℕ)) (answer : Answer) → TakesNames t u names named healthier answer
          → SettlesCommand g commands.Reopen (seen_as s health weight names) (seen_as u healthier weigher named) (reply_of answer)
      named_again healthier weigher named answers.Done takes = record {
        settles = λ known line state only served at. settles-reopen {g = as_known known g} at was_closed
            (found-known known (found healthier weigher named takes)) only (leaves_all_known known);
        may = λ none. inr (was_closed, leaves_all, inl (refl, found healthier weigher named takes));
        onward = record { disk_later = far };
      }
      named_again healthier weigher named (answers.NodeMade id) takes = absurd takes
      named_again healthier weigher named (answers.EdgeMade id) takes = absurd takes
      named_again healthier weigher named (answers.Results results) takes = absurd takes
      named_again healthier weigher named (answers.Refused why) takes = absurd takes
      named_again healthier weigher named (answers.Fault faults.Memory) takes = absurd takes
      named_again healthier weigher named (answers.Fault faults.Disk) takes = record {
        settles = λ known line state only served at. settles-reopen_fault {g = as_known known g} counts at was_closed only (leaves_all_known known)
            (lost-known known (lost healthier weigher named takes.0)) (Rose-from (g.faults s.base.disk.now) (g.faults t.base.disk.now)
            (g.faults u.base.disk.now) later_on takes.1);
        may = λ none.
            inr (
              was_closed,
              leaves_all,
              inr (inl (
                (
                  refl,
                  Rose-from (g.faults s.base.disk.now) (g.faults t.base.disk.now) (g.faults u.base.disk.now)
                      later_on takes.1,
                ),
                lost healthier weigher named takes.0,
              )),
            );
        onward = record { disk_later = far };
      }
      named_again healthier weigher named (answers.Fault (faults.Damaged damage)) takes = record {
        settles = λ known line state only served at.
            settles-reopen_damaged {g = as_known known g} counts at was_closed only damage.file damage.id (leaves_all_known known)
            (lost-known known (lost healthier weigher named takes.0))
            (λ told. let begins = names-begin known at told in names-other (drafted t) names begins.0 damage begins.1 (takes.1 (told_of known g told)));
        may = λ none. inr (
          was_closed,
          leaves_all,
          inr (inr (
            damage,
            refl,
            lost healthier weigher named takes.0,
            λ told. inr
                (other-found damage takes.1 told),
          )),
        );
        onward = record { disk_later = far };
      }
