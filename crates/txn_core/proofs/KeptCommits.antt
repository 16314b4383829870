-- A commit after old records were kept: the store was only read until then.
use Rattle.std.proofs.Common.{◌≡◌, ◌⊎◌, ⊎_elim, ◌∙◌, ℕ, IsTrue, true, Result, Ok, Err, OnOk, OnErr, ap, inl, inr, sym, subst, ◌≤◌, arith}
use Rattle.std.proofs.lemmas.Result.{on_err_weaker}
use Rattle.fault_count.specs.Cause.{HasCause, Rose}
use Rattle.disk_model.specs.Contents.{Files}
use Rattle.disk_model.specs.Spans.{AtEachMoment, OnlyReads}
use Rattle.disk_model.specs.declared.disk.Disk.{Ghosts}
use Rattle.disk_model.proofs.Spans.{at_each_moment_on, at_each_moment_weaker}
use Rattle.rec_bytes.specs.declared.key.Key.{Key}
use Rattle.rec_bytes.specs.declared.record.Rec.{Rec}
use Rattle.rec_bytes.specs.Pairs.{Pairs}
use Rattle.rec_bytes.specs.Space.{laid_over}
use Rattle.record_file.specs.Redone.{Redoes}
use Rattle.redo_log.specs.Appending.{SameButEntry}
use Rattle.record_file.specs.Unique.{Redoes-unique}
use Rattle.snap_store.specs.Layers.{Layers, is_open, sees}
use Rattle.snap_store.specs.Keeping.{KeepsHeld}
use Rattle.snap_store.specs.Snaps.{Snapshots}
use Rattle.snap_store.specs.Sums.{AreCovered, EndsOverfull, risen}
use Rattle.txn_core.specs.Committed.{OnlyReadsStore}
use Rattle.txn_core.specs.Kept.{FitsCommit, IsOnDisk}
use Rattle.txn_core.specs.Outcomes.{IsDropped, IsInDoubt, IsWritten}
use Rattle.txn_core.specs.Sights.{KeepsSights}
use Rattle.txn_core.specs.Store.{committed, content, working}
use Rattle.txn_core.specs.declared.store.Store.{Store}

-- the records with the same transaction over them
pub working-same : (a b : Key → Rec) (p q : Pairs) → a ≡ b → p ≡ q → laid_over a p ≡ laid_over b q
working-same a b p q e f = λ i. laid_over (e i) (f i)

-- over the space that is read the snapshot sees what it saw
sight : (left : Files) (space there : Key → Rec) (seen : Key → Rec) (new old : Layers) (reader : ℕ) → Redoes left space → Redoes left there
    → sees new reader there ≡ sees old reader seen → sees new reader space ≡ sees old reader seen
sight left space there seen new old reader reads is same =
    subst (λ (x : Key → Rec). sees new reader x ≡ sees old reader seen) (sym (Redoes-unique left space there reads is)) same

module _ {D : Type 0} {g : Ghosts D} where
  -- what is on the disk, of another space that is the same
  pub on_disk : (disk : D) (a b : Key → Rec) → a ≡ b → IsOnDisk g disk (λ left. Redoes left a) → IsOnDisk g disk (λ left. Redoes left b)
  on_disk disk a b same stored = subst (λ (space : Key → Rec). IsOnDisk g disk (λ left. Redoes left space)) same stored

  either_on_disk : (disk : D) (a b c d : Key → Rec) → a ≡ b → c ≡ d → IsOnDisk g disk (λ left. Redoes left a ⊎ Redoes left c)
      → IsOnDisk g disk (λ left. Redoes left b ⊎ Redoes left d)
  either_on_disk disk a b c d one other stored =
      subst (λ (space : Key → Rec). IsOnDisk g disk (λ left. Redoes left b ⊎ Redoes left space)) other
      (subst (λ (space : Key → Rec). IsOnDisk g disk (λ left. Redoes left space ⊎ Redoes left c)) one stored)

  -- from a store that was only read to what the commit left
  module _ (s m t : Store D g) (reads : OnlyReadsStore s m) (same : committed m ≡ committed s) where
    pub own_is : m.base.own.pairs ≡ s.base.own.pairs
    own_is = ap (λ (own : _). own.pairs) reads.base.own

    pub working_is : working m ≡ working s
    working_is = working-same (committed m) (committed s) m.base.own.pairs s.base.own.pairs same own_is

    -- a crash while it was read leaves what was committed
    pub crash_read : (disk : D) → disk ≡ m.base.disk.now → IsOnDisk g s.base.disk.now (λ left. Redoes left (committed s)) → g.tells_reads → g.tells_images
        → AtEachMoment g s.base.disk.now disk (λ left. Redoes left (committed s) ⊎ Redoes left (working s))
    crash_read disk is stored told images =
        subst (λ (now : D). AtEachMoment g s.base.disk.now now (λ left. Redoes left (committed s) ⊎ Redoes left (working s))) (sym is)
        (at_each_moment_weaker g s.base.disk.now m.base.disk.now (g.may_leave s.base.disk.now) (λ left. Redoes left (committed s) ⊎ Redoes left (working s))
        (reads.base.disk.time images)
        (λ image left. inl (stored.images told images image left)))

    -- and later the one or the other
    pub crash_on : IsOnDisk g s.base.disk.now (λ left. Redoes left (committed s))
        → (g.tells_reads → g.tells_images → AtEachMoment g m.base.disk.now t.base.disk.now (λ left. Redoes left (committed m) ⊎ Redoes left (working m)))
        → g.tells_reads → g.tells_images → AtEachMoment g s.base.disk.now t.base.disk.now (λ left. Redoes left (committed s) ⊎ Redoes left (working s))
    crash_on stored later told images =
        at_each_moment_on g s.base.disk.now m.base.disk.now t.base.disk.now (λ left. Redoes left (committed s) ⊎ Redoes left (working s))
        (λ left. Redoes left (committed m) ⊎ Redoes left (working m))
        (crash_read m.base.disk.now (λ i. m.base.disk.now) stored told images) (later told images)
        (λ image either. ⊎_elim
        (λ (was : Redoes image (committed m)). inl (subst (Redoes image) same was))
        (λ (has : Redoes image (working m)). inr (subst (Redoes image) working_is has))
        either)

    pub written_on : IsWritten m.base t.base → IsWritten s.base t.base
    written_on written = record {
      space = λ told. written.space told ∙ working_is;
      stored = on_disk t.base.disk.now (working m) (working s) working_is written.stored;
      live = written.live;
    }

    pub doubt_on : IsInDoubt m.base t.base → IsInDoubt s.base t.base
    doubt_on doubt = record {
      failed = doubt.failed;
      stored = either_on_disk t.base.disk.now (committed m) (committed s) (working m) (working s) same working_is
          doubt.stored;
    }

    -- what was read, and then not called, is what it was
    pub dropped_on : t.base.disk.now ≡ m.base.disk.now → IsOnDisk g t.base.disk.now (λ left. Redoes left (committed m)) → IsTrue t.base.live
        → committed t ≡ committed m → IsDropped s.base t.base
    dropped_on is stored live space = record {
      reads = subst (λ (now : D). OnlyReads g s.base.disk.now now) (sym is) reads.base.disk;
      space = space ∙ same;
      stored = on_disk t.base.disk.now (committed m) (committed s) same stored;
      live = live;
    }

    -- ---- what is written

    fits_on : FitsCommit s.base.tail s.base.changed.pairs s.base.own.pairs → FitsCommit m.base.tail m.base.changed.pairs m.base.own.pairs
    fits_on fits =
        subst (λ (own : _). FitsCommit m.base.tail m.base.changed.pairs own.pairs) (sym reads.base.own)
        (subst (λ (changed : _). FitsCommit m.base.tail changed.pairs s.base.own.pairs) (sym reads.base.changed)
        (subst (λ (tail : ℕ). FitsCommit tail s.base.changed.pairs s.base.own.pairs) (sym reads.base.tail) fits))

    -- the entry alone, where the commit wrote it alone
    pub alone_on : (g.tells_reads → FitsCommit m.base.tail m.base.changed.pairs m.base.own.pairs → SameButEntry m.base.tail m.base.own.pairs (content m)
        (content t))
        → g.tells_reads → FitsCommit s.base.tail s.base.changed.pairs s.base.own.pairs → SameButEntry s.base.tail s.base.own.pairs (content s) (content t)
    alone_on later told fits =
        let there : SameButEntry s.base.tail s.base.own.pairs (content m) (content t) =
        subst (λ (own : _). SameButEntry s.base.tail own.pairs (content m) (content t)) reads.base.own
        (subst (λ (tail : ℕ). SameButEntry tail m.base.own.pairs (content m) (content t)) reads.base.tail (later told (fits_on fits))) in
        λ file place outside. there file place outside ∙ reads.base.disk.keeps file place

    -- nothing, where the disk was not called again
    pub alone_read : t.base.disk.now ≡ m.base.disk.now → SameButEntry s.base.tail s.base.own.pairs (content s) (content t)
    alone_read is = λ file place outside. subst (λ (now : D). g.reads now file place ≡ content s file place) (sym is) (reads.base.disk.keeps file place)

    -- ---- what snapshots see

    module _ (old new : Snapshots)
        (before : g.tells_reads → (reader : ℕ) → is_open reader new.open_ones ≡ true → sees new.open_ones reader (committed s) ≡ sees old.open_ones reader
        (committed s)) where
      -- over what was committed
      pub sights_before : (disk : D) → IsOnDisk g disk (λ left. Redoes left (committed s)) → KeepsSights g (committed s) disk old new
      sights_before disk stored = λ told space redoes reader is.
          sight (g.reads disk) space (committed s) (committed s) new.open_ones old.open_ones reader redoes (stored.read told) (before told reader is)

      module _ (after : g.tells_reads → (reader : ℕ) → is_open reader new.open_ones ≡ true
          → sees new.open_ones reader (laid_over (committed s) s.base.own.pairs) ≡ sees old.open_ones reader (committed s)) where
        -- over what the transaction had
        pub sights_after : IsWritten s.base t.base → KeepsSights g (committed s) t.base.disk.now old new
        sights_after written = λ told space redoes reader is.
            sight (g.reads t.base.disk.now) space (working s) (committed s) new.open_ones old.open_ones reader redoes (written.stored.read told)
            (after told reader is)

        -- over the one or the other
        pub sights_in_doubt : IsOnDisk g t.base.disk.now (λ left. Redoes left (committed s) ⊎ Redoes left (working s))
            → KeepsSights g (committed s) t.base.disk.now old new
        sights_in_doubt stored = λ told space redoes reader is. ⊎_elim
            (λ (was : Redoes (g.reads t.base.disk.now) (committed s)).
            sight (g.reads t.base.disk.now) space (committed s) (committed s) new.open_ones old.open_ones reader redoes was (before told reader is))
            (λ (has : Redoes (g.reads t.base.disk.now) (working s)).
            sight (g.reads t.base.disk.now) space (working s) (committed s) new.open_ones old.open_ones reader redoes has (after told reader is))
            (stored.read told)

        -- whatever comes of the commit
        pub sights_commit : {T E : Type 0} (result : Result T E) → OnOk result (IsWritten m.base t.base) → OnErr result (IsInDoubt m.base t.base)
            → KeepsSights g (committed s) t.base.disk.now old new
        sights_commit (Ok x) done failed = sights_after (written_on done)
        sights_commit (Err e) done failed = sights_in_doubt (doubt_on failed).stored

-- what keeping old records leaves of the snapshots
pub held_by : (weight : ℕ) (old new : Snapshots) → ((sums : ℕ → ℕ) → AreCovered sums old.open_ones → EndsOverfull weight sums old.open_ones new.open_ones)
    → ((sums : ℕ → ℕ) → AreCovered sums old.open_ones → AreCovered (risen weight sums) new.open_ones) → KeepsHeld weight old new
held_by weight old new overfull covered = record { overfull = overfull; covered = covered }

rose_on : (before mid now : ℕ) → before ≤ mid → Rose mid now → Rose before now
rose_on before mid now early rose = omega (arith, early, rose)

-- a fault after calls that raised the count by nothing less
pub cause_on : {T E : Type 0} (before mid now : ℕ) (result : Result T E) → before ≤ mid → HasCause mid now result → HasCause before now result
cause_on before mid now result early cause = record {
  later = let later = cause.later in omega (arith, early, later);
  failed = on_err_weaker result (rose_on before mid now early) cause.failed;
}
