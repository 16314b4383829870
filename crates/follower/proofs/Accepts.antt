-- A shipment that comes to a follower.
use Rattle.std.proofs.Common.{◌≡◌, inl, inr, ⊎_elim, ℕ, ◌⊎◌, IsTrue, true, false, Bool, List, Ok, Err, refl, sym}
use Rattle.std.proofs.Math.Nat.{le_refl}
use Rattle.disk_model.specs.Spans.{AtEachMoment}
use Rattle.disk_model.specs.declared.disk.Disk.{Ghosts}
use Rattle.disk_model.proofs.Spans.{OnlyNow, at_each_moment_none, at_each_moment_weaker, only_reads_none}
use Rattle.record_file.specs.Redone.{Redoes}
use Rattle.txn_core.specs.Base.{SameStore}
use Rattle.txn_core.specs.Store.{committed}
use Rattle.txn_core.specs.declared.store.Store.{Store}
use Rattle.rec_bytes.specs.declared.space.SpaceFault.TheVariants as faults
use Rattle.follower.specs.Applying.{Applies}
use Rattle.follower.specs.Follower.{Accepts, Answers, IsNextFor, IsUnchanged, View}
use Rattle.follower.specs.Shipment.{number_of}
use Rattle.follower.specs.Taken.{taken}
use Rattle.follower.specs.declared.accept.Accept.{Accept}
use Rattle.follower.specs.declared.accept.Accept.TheVariants.{Applied, Disk, Memory}
use Rattle.follower.proofs.Applies.{images_of}
use Rattle.follower.proofs.StoreRecords.{committed-only}

module _ {D : Type 0} (g : Ghosts D) where
  abbrev pub viewed : Store D g → ℕ → Bool → View D
  viewed s have live = record { disk = s.base.disk.now; shape = s.base.shape; records = committed s; have = have; live = live }

  -- nothing was called
  pub accepts_same : (bytes : List ℕ) (s : Store D g) (have : ℕ) (live : Bool) (answer : Accept) → OnlyNow g → IsTrue s.base.live
      → (IsUnchanged g (viewed s have live) (viewed s have live) → Answers g bytes (viewed s have live) (viewed s have live) answer)
      → Accepts g bytes (viewed s have live) (viewed s have live) answer
  accepts_same bytes s have live answer only serves says = record {
    answers = says (record { disk = only_reads_none g s.base.disk.now only; records = λ told. refl; have = refl; live = refl });
    crash = λ told images. at_each_moment_none g s.base.disk.now _ only images (λ image left. inl ((images_of g s.base serves).images told images image left));
    shape = refl;
    later = le_refl (g.faults s.base.disk.now);
  }

  module _ (bytes : List ℕ) (s t : Store D g) (have : ℕ) (live : Bool) (is_live : live ≡ true) (same : SameStore s.base t.base)
      (next : IsNextFor (viewed s have live) bytes) where
    crash_next : AtEachMoment g s.base.disk.now t.base.disk.now (λ left. Redoes left (committed s) ⊎ Redoes left (taken (committed s) bytes))
        → AtEachMoment g s.base.disk.now t.base.disk.now (λ left. Redoes left (committed s) ⊎ (IsNextFor (viewed s have live) bytes × Redoes left
        (taken (committed s) bytes)))
    crash_next leaves = at_each_moment_weaker g s.base.disk.now t.base.disk.now _ _ leaves (λ left. ⊎_elim (λ before. inl before) (λ after. inr (next, after)))

    pub accepts_applied : (number : ℕ) → number ≡ number_of bytes → Applies g bytes s t (Ok tt)
        → Accepts g bytes (viewed s have live) (viewed t number true) (Applied number)
    accepts_applied number is applies = record {
      answers = (next, is, record { records = applies.comes_to.records; stored = applies.comes_to.stored; have = is; live = refl });
      crash = λ told images. crash_next (applies.crash told images);
      shape = same.shape;
      later = applies.later;
    }

    pub accepts_memory : Applies g bytes s t (Err faults.Memory) → Accepts g bytes (viewed s have live) (viewed t have true) Memory
    accepts_memory applies = record {
      answers = (
        next,
        record {
          disk = applies.comes_to.disk;
          records = λ told. committed-only s.base t.base applies.comes_to;
          have = refl;
          live = sym is_live;
        },
      );
      crash = λ told images. crash_next (applies.crash told images);
      shape = same.shape;
      later = applies.later;
    }

    pub accepts_disk : Applies g bytes s t (Err faults.Disk) → Accepts g bytes (viewed s have live) (viewed t have false) Disk
    accepts_disk applies = record {
      answers = (next, record { stored = applies.comes_to.stored; live = refl; rose = applies.comes_to.rose });
      crash = λ told images. crash_next (applies.crash told images);
      shape = same.shape;
      later = applies.later;
    }
