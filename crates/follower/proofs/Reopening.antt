-- A follower that is opened again.
use Rattle.std.proofs.Common.{◌≡◌, ◌≢◌, ◌∙◌, inl, inr, ⊎_elim, ℕ, ◌≤◌, ◌⊎◌, Bool, true, false, [], length, Ok, Err, refl, sym, ap, subst, arith}
use Rattle.std.proofs.lemmas.List.{nil_from_length}
use Rattle.fault_count.specs.Cause.{Rose}
use Rattle.disk_model.specs.Spans.{AtEachMoment, OnlyReads}
use Rattle.disk_model.specs.declared.disk.Disk.{Ghosts}
use Rattle.disk_model.proofs.Spans.{CountsNow, at_each_moment_read, only_reads_on}
use Rattle.rec_bytes.specs.Format.{log_file}
use Rattle.rec_bytes.specs.Pairs.{Held}
use Rattle.rec_bytes.specs.declared.key.Key.{Key}
use Rattle.rec_bytes.specs.declared.record.Rec.{Rec}
use Rattle.redo_log.specs.Entries.{open_byte}
use Rattle.redo_log.proofs.Appends.{HasEntries-read}
use Rattle.record_file.specs.Redone.{Redoes}
use Rattle.record_file.proofs.Redone.{Redoes-kept}
use Rattle.recovery.specs.Finding.{IsCareful}
use Rattle.txn_core.specs.Again.{IsOld, IsRecovered}
use Rattle.txn_core.specs.Base.{OnlyReadsBase, SameStore}
use Rattle.txn_core.specs.Kept.{IsOnDisk}
use Rattle.txn_core.specs.Store.{committed, content}
use Rattle.txn_core.specs.declared.again_fault.AgainFault.TheVariants as again
use Rattle.txn_core.specs.declared.store.Store.{Store}
use Rattle.follower.specs.Follower.{Reopens}
use Rattle.follower.specs.Taken.{number_in}
use Rattle.txn_core.proofs.Finding.{settled_read}
use Rattle.txn_core.proofs.StoreRecords.{committed-read}
use Rattle.follower.proofs.StoreRecords.{stored-read}

-- it has written nothing
pub own-again : {D : Type 0} {g : Ghosts D} (s t : Store D g) → t.base.own ≡ s.base.own → length s.base.own.pairs ≡ 0 → t.base.own.pairs ≡ []
own-again s t same none = ap (λ (held : Held). held.pairs) same ∙ nil_from_length s.base.own.pairs none

module _ {D : Type 0} (g : Ghosts D) (counts : CountsNow g) (s t u : Store D g) (old_have : ℕ) (old_live : Bool) (same : SameStore s.base t.base)
    (reads : OnlyReadsBase t.base u.base)
    (crash : g.tells_reads → g.tells_images → (space : Key → Rec) → Redoes (content s) space → AtEachMoment g s.base.disk.now t.base.disk.now
    (λ left. g.may_leave s.base.disk.now left ⊎ Redoes left space))
    (read : g.tells_reads → (space : Key → Rec) → Redoes (content s) space → Redoes (content t) space)
    (clean : g.tells_reads → content s log_file 0 ≢ open_byte → OnlyReads g s.base.disk.now t.base.disk.now)
    (careful : IsCareful g s.base.disk.now t.base.disk.now) (later : g.faults s.base.disk.now ≤ g.faults t.base.disk.now)
    (more : g.faults t.base.disk.now ≤ g.faults u.base.disk.now) where
  -- files that are no store are left as they were by calls that only read too
  careful-read : IsCareful g s.base.disk.now u.base.disk.now
  careful-read told = ⊎_elim (λ only. inl (only_reads_on g s.base.disk.now t.base.disk.now u.base.disk.now only reads.disk)) (λ is. inr is) (careful told)

  -- and what is read redoes to the same
  read-read : g.tells_reads → (space : Key → Rec) → Redoes (content s) space → Redoes (content u) space
  read-read told space redoes = Redoes-kept space (content t) (content u) (read told space redoes) reads.disk.keeps

  clean-read : g.tells_reads → content s log_file 0 ≢ open_byte → OnlyReads g s.base.disk.now u.base.disk.now
  clean-read told closed = only_reads_on g s.base.disk.now t.base.disk.now u.base.disk.now (clean told closed) reads.disk

  pub reopens_is : (have : ℕ) → IsRecovered s.base t.base → (g.tells_reads → have ≡ number_in (committed u))
      → Reopens g (record { disk = s.base.disk.now; shape = s.base.shape; records = committed s; have = old_have; live = old_live })
      (record { disk = u.base.disk.now; shape = u.base.shape; records = committed u; have = have; live = true }) (Ok tt)
  reopens_is have recovered number = record {
    answers = record {
      records = λ told space redoes. committed-read t.base u.base reads ∙ recovered.space told space redoes;
      store = recovered.store;
      newest = λ told old. recovered.newest told (subst IsOld (committed-read t.base u.base reads) old);
      have = number;
      stored = stored-read g t.base.disk.now u.base.disk.now (λ left. Redoes left (committed u)) reads.disk
          (subst (λ (records : Key → Rec). IsOnDisk g t.base.disk.now (λ left. Redoes left records)) (sym (committed-read t.base u.base reads))
          recovered.stored);
      no_entry = λ told. HasEntries-read [] 0 (content t) (content u) (recovered.no_entry told) (reads.disk.keeps log_file);
      settled = λ told images. settled_read g t.base.disk.now u.base.disk.now reads.disk images (recovered.settled told images);
      live = refl;
    };
    crash = λ told images space redoes. at_each_moment_read g s.base.disk.now t.base.disk.now u.base.disk.now _ counts images (crash told images space redoes)
        reads.disk;
    read = read-read;
    careful = careful-read;
    clean = clean-read;
    shape = reads.shape ∙ same.shape;
    later = omega arith;
  }

  pub reopens_not : (have : ℕ) → Rose (g.faults t.base.disk.now) (g.faults u.base.disk.now)
      → Reopens g (record { disk = s.base.disk.now; shape = s.base.shape; records = committed s; have = old_have; live = old_live })
      (record { disk = u.base.disk.now; shape = u.base.shape; records = committed u; have = have; live = false }) (Err again.Disk)
  reopens_not have rose = record {
    answers = record {
      refused = λ told. tt;
      sound = λ told space redoes is newest. refl;
      cause = λ e. omega (arith, later, rose);
      live = refl;
    };
    crash = λ told images space redoes. at_each_moment_read g s.base.disk.now t.base.disk.now u.base.disk.now _ counts images (crash told images space redoes)
        reads.disk;
    read = read-read;
    careful = careful-read;
    clean = clean-read;
    shape = reads.shape ∙ same.shape;
    later = omega arith;
  }
