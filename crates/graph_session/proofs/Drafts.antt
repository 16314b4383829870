-- What stands in a draft, and beneath it.
use Rattle.std.proofs.Common.{◌≡◌, ◌⊎◌, ◌∙◌, ◌≤◌, length, inl, inr, sym, subst}
use Rattle.fault_count.specs.Cause.{Rose}
use Rattle.disk_model.specs.Spans.{AtEachMoment, OnlyReads}
use Rattle.disk_model.specs.declared.disk.Disk.{Ghosts}
use Rattle.plain_graph.specs.Graph.{Graph}
use Rattle.rec_bytes.specs.declared.key.Key.{Key}
use Rattle.rec_bytes.specs.declared.record.Rec.{Rec}
use Rattle.rec_bytes.specs.declared.shape.Shape.{Shape}
use Rattle.rec_bytes.specs.Pairs.{Pairs, merged}
use Rattle.rec_bytes.specs.Space.{State as Space, laid_over}
use Rattle.record_file.specs.Redone.{Redoes}
use Rattle.txn_core.specs.Base.{SameBeneath}
use Rattle.txn_core.specs.Kept.{IsOnDisk}
use Rattle.txn_core.specs.Outcomes.{HasFailedCommit}
use Rattle.txn_core.specs.Sights.{KeepsSights}
use Rattle.txn_core.specs.Store as store
use Rattle.txn_core.proofs.StoreRecords.{committed-beneath}
use Rattle.snap_store.specs.Keeping.{EndsFor, KeepsHeld}
use Rattle.snap_store.specs.Snaps.{Snapshots}
use Rattle.graph_session.specs.Drafting.{Closes, CommitsRecords, DoubtsRecords, DropsRecords, EndsCommit, TriesCommit}
use Rattle.graph_session.specs.State.{State, seen}
use Rattle.graph_session.specs.declared.answer.Answer.{Answer}
use Rattle.graph_session.specs.declared.health.Health.TheVariants as healths
use Rattle.graph_session.specs.declared.session.Session.{Session}
use Rattle.store_rules.specs.Graph.{graph_in}

crash-either : {D : Type 0} (g : Ghosts D) (disk other now : D) (a b c d : Key → Rec) → disk ≡ other → a ≡ c → b ≡ d
    → AtEachMoment g disk now (λ left. Redoes left a ⊎ Redoes left b) → AtEachMoment g other now (λ left. Redoes left c ⊎ Redoes left d)
crash-either {D = D} g disk other now a b c d same e f h =
    subst (λ (records : Key → Rec). AtEachMoment g other now (λ left. Redoes left c ⊎ Redoes left records)) f
    (subst (λ (records : Key → Rec). AtEachMoment g other now (λ left. Redoes left records ⊎ Redoes left b)) e
    (subst (λ (was : D). AtEachMoment g was now (λ left. Redoes left a ⊎ Redoes left b)) same h))

-- what snapshots see over the same records, by the same old ones
pub sights-as : {D : Type 0} (g : Ghosts D) (disk : D) (a b : Key → Rec) (held old new : Snapshots) → a ≡ b → held ≡ old → KeepsSights g a disk held new
    → KeepsSights g b disk old new
sights-as g disk a b held old new same is sights =
    subst (λ (records : Key → Rec). KeepsSights g records disk old new) same (subst (λ (was : Snapshots). KeepsSights g a disk was new) is sights)

-- The space has the shape and the graph that a line sees.
pub record Sees (space : Space) (state : State) : Type 0 where
  pub shape : state.shape ≡ space.shape
  pub graph : seen state ≡ graph_in space

-- what is said of the space's shape and graph is said of those that the line sees
pub sees-as : {space : Space} {state : State} → Sees space state → (P : Shape → Graph → Type 0) → P space.shape (graph_in space) → P state.shape (seen state)
sees-as {space = space} {state = state} sees P h = subst (λ (shape : Shape). P shape (seen state)) (sym sees.shape)
    (subst (λ (graph : Graph). P space.shape graph) (sym sees.graph) h)

module _ {D : Type 0} {g : Ghosts D} where
  stored-same : (disk : D) (a b : Key → Rec) → a ≡ b → IsOnDisk g disk (λ left. Redoes left a) → IsOnDisk g disk (λ left. Redoes left b)
  stored-same disk a b e = subst (λ (records : Key → Rec). IsOnDisk g disk (λ left. Redoes left records)) e

  pub stored-either : (disk : D) (a b c d : Key → Rec) → a ≡ c → b ≡ d → IsOnDisk g disk (λ left. Redoes left a ⊎ Redoes left b)
      → IsOnDisk g disk (λ left. Redoes left c ⊎ Redoes left d)
  stored-either disk a b c d e f h =
      subst (λ (records : Key → Rec). IsOnDisk g disk (λ left. Redoes left c ⊎ Redoes left records)) f
      (subst (λ (records : Key → Rec). IsOnDisk g disk (λ left. Redoes left records ⊎ Redoes left b)) e h)

  -- the draft was kept, and then committed
  module _ {old mid new : Session D g} (same : SameBeneath old.store.base mid.store.base) (kept : store.working mid.store ≡ store.drafted old.store) where
    closes-kept : Closes mid new → Closes old new
    closes-kept closes =
        record {
          same = record { same_disk = closes.same.same_disk ∙ same.same_disk; shape = closes.same.shape ∙ same.shape };
          in_transaction =
              closes.in_transaction;
          own = closes.own;
          draft = closes.draft;
        }

    commits-kept : mid.names.names ≡ old.names.names → mid.health ≡ old.health → CommitsRecords (store.working mid.store) mid new
        → CommitsRecords (store.drafted old.store) old new
    commits-kept names health commits = record {
      closes = closes-kept commits.closes;
      health = commits.health ∙ health;
      live = commits.live;
      names = commits.names ∙ names;
      committed = λ told. commits.committed told ∙ kept;
      stored = stored-same new.store.base.disk.now (store.working mid.store) (store.drafted old.store) kept commits.stored;
    }

    doubts-kept : mid.names.names ≡ old.names.names → DoubtsRecords (store.working mid.store) mid new → DoubtsRecords (store.drafted old.store) old new
    doubts-kept names doubts = record {
      closes = closes-kept doubts.closes;
      health = doubts.health;
      failed = doubts.failed;
      names = doubts.names ∙ names;
      stored =
          stored-either new.store.base.disk.now (store.committed mid.store) (store.working mid.store) (store.committed old.store) (store.drafted old.store)
          (committed-beneath old.store.base mid.store.base same) kept
          doubts.stored;
      rose = subst (λ (disk : D). Rose (g.faults disk) (g.faults new.store.base.disk.now)) same.disk doubts.rose;
    }

    drops-kept : mid.names.names ≡ old.names.names → DropsRecords mid new → DropsRecords old new
    drops-kept names drops = record {
      closes = closes-kept drops.closes;
      health = drops.health;
      live = drops.live;
      names = drops.names ∙ names;
      disk = subst (λ (disk : D). OnlyReads g disk new.store.base.disk.now) same.disk drops.disk;
      rose = subst (λ (disk : D). Rose (g.faults disk) (g.faults new.store.base.disk.now)) same.disk drops.rose;
    }

    pub tries-kept : mid.names.names ≡ old.names.names → mid.health ≡ old.health
        → mid.store.base.own.pairs ≡ merged old.store.base.own.pairs old.store.draft.pairs → mid.snaps ≡ old.snaps
        → (made answer : Answer) → TriesCommit (store.working mid.store) mid.store.base.own.pairs mid new made answer
        → TriesCommit (store.drafted old.store) (merged old.store.base.own.pairs old.store.draft.pairs) old new made answer
    tries-kept names health own snaps made answer tries = record {
      crash = λ told images.
          crash-either g mid.store.base.disk.now old.store.base.disk.now new.store.base.disk.now (store.committed mid.store) (store.working mid.store)
          (store.committed old.store) (store.drafted old.store) same.disk
          (committed-beneath old.store.base mid.store.base same) kept (tries.crash told images);
      later = subst (λ (disk : D). g.faults disk ≤ g.faults new.store.base.disk.now) same.disk tries.later;
      sights = sights-as g new.store.base.disk.now (store.committed mid.store) (store.committed old.store) mid.snaps old.snaps new.snaps
          (committed-beneath old.store.base mid.store.base same) snaps tries.sights;
      writes =
          sym kept
          ∙ (λ i. laid_over (committed-beneath old.store.base mid.store.base same i) (own i));
      ended = subst (λ (held : Snapshots). EndsFor (merged old.store.base.own.pairs old.store.draft.pairs) held new.snaps) snaps
          (subst (λ (written : Pairs). EndsFor written mid.snaps new.snaps) own tries.ended);
      held = λ weight few.
          subst (λ (held : Snapshots). KeepsHeld weight held new.snaps) snaps
          (tries.held weight (subst (λ (written : Pairs). length written ≤ weight) (sym own) few));
      ends = ends tries.ends;
    }
      where
        ends : EndsCommit (store.working mid.store) mid new made answer → EndsCommit (store.drafted old.store) old new made answer
        ends (inl (is, commits)) = inl (is, commits-kept names health commits)
        ends (inr (is, inl drops)) = inr (is, inl (drops-kept names drops))
        ends (inr (is, inr doubts)) = inr (is, inr (doubts-kept names doubts))

  -- the disk failed in a commit
  pub records-failed : (old new : Session D g) → Closes old new → new.health ≡ healths.Failed → new.names.names ≡ old.names.names
      → Rose (g.faults old.store.base.disk.now) (g.faults new.store.base.disk.now)
      → HasFailedCommit old.store.base new.store.base → DropsRecords old new ⊎ DoubtsRecords (store.working old.store) old new
  records-failed old new closes health names rose (inl dropped) = inl (record {
    closes = closes;
    health = health;
    names = names;
    live = dropped.live;
    disk =
        dropped.reads;
    rose = rose;
  })
  records-failed old new closes health names rose (inr doubt) = inr (record {
    closes = closes;
    health = health;
    names = names;
    failed = doubt.failed;
    stored =
        doubt.stored;
    rose = rose;
  })
