-- A shipment that is applied to a store.
use Rattle.std.proofs.Common.{◌≡◌, ◌∙◌, inl, inr, ⊎_elim, ℕ, ◌≤◌, ◌⊎◌, IsTrue, List, Ok, Err, refl, sym, subst, arith}
use Rattle.fault_count.specs.Cause.{Rose}
use Rattle.disk_model.specs.Contents.{Files}
use Rattle.disk_model.specs.Spans.{AtEachMoment, OnlyReads}
use Rattle.disk_model.specs.declared.disk.Disk.{Ghosts}
use Rattle.disk_model.proofs.Spans.{at_each_moment_on, at_each_moment_weaker}
use Rattle.record_file.specs.Redone.{Redoes}
use Rattle.txn_core.specs.Base.{SameBeneath}
use Rattle.txn_core.specs.Base as base
use Rattle.txn_core.specs.Kept.{IsOnDisk}
use Rattle.txn_core.specs.Outcomes.{IsInDoubt, IsWritten}
use Rattle.txn_core.specs.Store.{committed, working}
use Rattle.txn_core.specs.declared.base.Base.{Base}
use Rattle.txn_core.specs.declared.store.Store.{Store}
use Rattle.txn_core.proofs.Kept.{on_disk}
use Rattle.rec_bytes.specs.declared.space.SpaceFault.TheVariants as faults
use Rattle.follower.specs.Applying.{Applies, HasEither, OnlyReadsBeneath}
use Rattle.follower.specs.Taken.{taken}
use Rattle.follower.proofs.StoreRecords.{committed-only}

module _ {D : Type 0} (g : Ghosts D) where
  -- before or after calls that leave the disk alone
  pub beneath_after : (a b c : Base D g) → SameBeneath a b → OnlyReadsBeneath g b c → OnlyReadsBeneath g a c
  beneath_after a b c same reads = record {
    same_disk = reads.same_disk ∙ same.same_disk;
    disk = subst (λ (d : D). OnlyReads g d c.disk.now) same.disk reads.disk;
    shape = reads.shape ∙ same.shape;
    metas = reads.metas ∙ same.metas;
    changed = reads.changed ∙ same.changed;
    tail = reads.tail ∙ same.tail;
    live = reads.live ∙ same.live;
    later = subst (λ (d : D). g.faults d ≤ g.faults c.disk.now) same.disk reads.later;
  }

  pub beneath_then : (a b c : Base D g) → OnlyReadsBeneath g a b → SameBeneath b c → OnlyReadsBeneath g a c
  beneath_then a b c reads same = record {
    same_disk = same.same_disk ∙ reads.same_disk;
    disk = subst (λ (d : D). OnlyReads g a.disk.now d) (sym same.disk) reads.disk;
    shape = same.shape ∙ reads.shape;
    metas = same.metas ∙ reads.metas;
    changed = same.changed ∙ reads.changed;
    tail = same.tail ∙ reads.tail;
    live = same.live ∙ reads.live;
    later = subst (λ (d : D). g.faults a.disk.now ≤ g.faults d) (sym same.disk) reads.later;
  }

  -- each image of a store that serves redoes to what it has committed
  pub images_of : (b : Base D g) → IsTrue b.live → IsOnDisk g b.disk.now (λ left. Redoes left (base.committed b))
  images_of b live = on_disk g b.disk.now b.metas.records b.changed.pairs b.tail (base.committed b) (b.kept live) (λ reads. refl)

  crash_read : (bytes : List ℕ) (old new : Store D g) → IsTrue old.base.live → OnlyReadsBeneath g old.base new.base → g.tells_reads → g.tells_images
      → AtEachMoment g old.base.disk.now new.base.disk.now (HasEither g bytes old)
  crash_read bytes old new live reads told images =
      at_each_moment_weaker g old.base.disk.now new.base.disk.now (g.may_leave old.base.disk.now) (HasEither g bytes old) (reads.disk.time images)
      (λ image left. inl ((images_of old.base live).images told images image left))

  -- there was no memory
  pub applies_not : (bytes : List ℕ) (old new : Store D g) → IsTrue old.base.live → OnlyReadsBeneath g old.base new.base
      → Applies g bytes old new (Err faults.Memory)
  applies_not bytes old new live reads = record { comes_to = reads; crash = crash_read bytes old new live reads; later = reads.later }

  module _ (bytes : List ℕ) (old mid new : Store D g) (live : IsTrue old.base.live) (reads : OnlyReadsBeneath g old.base mid.base)
      (has : working mid ≡ taken (committed old) bytes)
      (crash : g.tells_reads → g.tells_images → AtEachMoment g mid.base.disk.now new.base.disk.now (λ left. Redoes left (committed mid) ⊎ Redoes left
      (working mid)))
      (later : g.faults mid.base.disk.now ≤ g.faults new.base.disk.now) where
    either : (left : Files) → Redoes left (committed mid) ⊎ Redoes left (working mid) → HasEither g bytes old left
    either left = ⊎_elim (λ before. inl (subst (Redoes left) (committed-only old.base mid.base reads) before)) (λ after. inr (subst (Redoes left) has after))

    crash_all : g.tells_reads → g.tells_images → AtEachMoment g old.base.disk.now new.base.disk.now (HasEither g bytes old)
    crash_all told images =
        at_each_moment_on g old.base.disk.now mid.base.disk.now new.base.disk.now (HasEither g bytes old)
        (λ left. Redoes left (committed mid) ⊎ Redoes left (working mid)) (crash_read bytes old mid live reads told images) (crash told images) either

    -- it is committed
    pub applies_now : IsWritten mid.base new.base → Applies g bytes old new (Ok tt)
    applies_now written =
        let before = reads.later in
        record {
          comes_to = record {
            records = λ told. written.space told ∙ has;
            stored = record {
              read = λ told. subst (Redoes (g.reads new.base.disk.now)) (sym (written.space told)) (written.stored.read told);
              images = λ told images image left. subst (Redoes image) (sym (written.space told)) (written.stored.images told images image left);
            };
            live = written.live;
          };
          crash = crash_all;
          later = omega arith;
        }

    -- the disk failed
    pub applies_perhaps : IsInDoubt mid.base new.base → Rose (g.faults mid.base.disk.now) (g.faults new.base.disk.now)
        → Applies g bytes old new (Err faults.Disk)
    applies_perhaps doubt rose =
        let before = reads.later in
        record {
          comes_to = record {
            stored = record {
              read = λ told. either (g.reads new.base.disk.now) (doubt.stored.read told);
              images = λ told images image left. either image (doubt.stored.images told images image left);
            };
            rose = omega (arith, before, rose);
          };
          crash = crash_all;
          later = omega arith;
        }
