-- A follower that is opened over a store.
use Rattle.std.proofs.Common.{◌≡◌, ◌∙◌, inr, ℕ, ◌≤◌, true, [], refl, sym, ap, subst, arith}
use Rattle.fault_count.specs.Cause.{Rose}
use Rattle.disk_model.specs.Spans.{IsAllSettled, OnlyReads}
use Rattle.disk_model.specs.declared.disk.Disk.{Ghosts}
use Rattle.disk_model.proofs.Spans.{CountsNow, at_each_moment_read, only_reads_on}
use Rattle.rec_bytes.specs.Record.{field}
use Rattle.rec_bytes.specs.declared.key.Key.{Key}
use Rattle.rec_bytes.specs.declared.record.Rec.{Rec}
use Rattle.rec_bytes.specs.declared.shape.Shape.{Shape}
use Rattle.record_file.specs.Redone.{Redoes}
use Rattle.txn_core.specs.Base.{OnlyReadsBase}
use Rattle.txn_core.specs.Config.{Suits}
use Rattle.txn_core.specs.Kept.{IsOnDisk}
use Rattle.txn_core.specs.Opening.{HasOpeningEntry, Opens}
use Rattle.txn_core.specs.Store.{committed, drafted}
use Rattle.txn_core.specs.declared.config.Config.{Config}
use Rattle.txn_core.specs.declared.store.Store.{Store}
use Rattle.txn_core.specs.declared.open_fault.OpenFault.TheVariants as opening
use Rattle.txn_core.specs.Shipped.{taken_key}
use Rattle.follower.specs.Follower.{IsOpened, IsUnopened, LeavesByOpening}
use Rattle.follower.specs.Taken.{number_in}
use Rattle.txn_core.proofs.Finding.{opens-recoverable, settled_read}
use Rattle.txn_core.proofs.StoreRecords.{committed-read, drafted-committed}
use Rattle.follower.proofs.StoreRecords.{stored-read}

-- calls that only read go on
pub leaves-read : {D : Type 0} (g : Ghosts D) (config : Config) (old mid new : D) → CountsNow g → LeavesByOpening g config old mid → OnlyReads g mid new
    → g.faults mid ≤ g.faults new → LeavesByOpening g config old new
leaves-read g config old mid new counts leaves reads more =
    let before = leaves.later in
    record {
      made = λ told images space shape redoes is. at_each_moment_read g old mid new _ counts images (leaves.made told images space shape redoes is) reads;
      unmade = λ told images unmade. at_each_moment_read g old mid new _ counts images (leaves.unmade told images unmade) reads;
      clean = λ told clean. only_reads_on g old mid new (leaves.clean told clean) reads;
      later = omega arith;
    }

-- the number is read
pub number-read : {D : Type 0} {g : Ghosts D} (s t : Store D g) (rec : Rec) (have : ℕ) → OnlyReadsBase s.base t.base → s.base.own.pairs ≡ []
    → s.draft.pairs ≡ [] → rec ≡ drafted s taken_key → have ≡ field 8 rec 0 → have ≡ number_in (committed t)
number-read s t rec have reads own draft got is =
    is ∙ ap (λ (r : Rec). field 8 r 0) (got ∙ ap (λ (records : Key → Rec). records taken_key) (drafted-committed s own draft ∙ sym
    (committed-read s.base t.base reads)))

pub opened_is : {D : Type 0} (g : Ghosts D) (config : Config) (old : D) (s t : Store D g) (have : ℕ) → CountsNow g
    → LeavesByOpening g config old s.base.disk.now → (g.tells_reads → Opens (g.reads old) config s.base.shape (committed s))
    → Suits config s.base.shape → IsOnDisk g s.base.disk.now (λ left. Redoes left (committed s))
    → (g.tells_reads → g.tells_images → IsAllSettled g s.base.disk.now)
    → (g.tells_reads → HasOpeningEntry (g.reads old) s.base.shape (g.reads s.base.disk.now)) → OnlyReadsBase s.base t.base
    → g.faults s.base.disk.now ≤ g.faults t.base.disk.now → (g.tells_reads → have ≡ number_in (committed t))
    → IsOpened g config old (record { disk = t.base.disk.now; shape = t.base.shape; records = committed t; have = have; live = true })
opened_is g config old s t have counts leaves opens suits stored settled log reads more number =
    let same = committed-read s.base t.base reads in
    record {
      leaves = leaves-read g config old s.base.disk.now t.base.disk.now counts leaves reads.disk more;
      opens = λ told. subst (λ (shape : Shape). Opens (g.reads old) config shape (committed t)) (sym reads.shape)
          (subst (Opens (g.reads old) config s.base.shape) (sym same) (opens told));
      suits = subst (Suits config) (sym reads.shape) suits;
      have = number;
      stored = stored-read g s.base.disk.now t.base.disk.now (λ left. Redoes left (committed t)) reads.disk
          (subst (λ (records : Key → Rec). IsOnDisk g s.base.disk.now (λ left. Redoes left records)) (sym same) stored);
      settled = λ told images. settled_read g s.base.disk.now t.base.disk.now reads.disk images (settled told images);
      log = λ told.
          subst (λ (shape : Shape). HasOpeningEntry (g.reads old) shape (g.reads t.base.disk.now)) (sym reads.shape)
          (subst (HasOpeningEntry (g.reads old) s.base.shape) (λ i file place. sym (reads.disk.keeps file place) i) (log told));
      live = refl;
    }

pub unopened_is : {D : Type 0} (g : Ghosts D) (config : Config) (old mid new : D) → CountsNow g → LeavesByOpening g config old mid → OnlyReads g mid new
    → g.faults mid ≤ g.faults new → Rose (g.faults mid) (g.faults new)
    → (shape : Shape) (space : Key → Rec) → (g.tells_reads → Opens (g.reads old) config shape space) → IsUnopened g config old new opening.Disk
unopened_is g config old mid new counts leaves reads more rose shape space opens = record {
  leaves = leaves-read g config old mid new counts leaves reads more;
  refused = λ told. tt;
  sound = λ told space shape redoes is. tt;
  unmade = λ told unmade. tt;
  no_memory = λ memory. absurd cc;
  untouched = λ told refusal. absurd refusal;
  differs = λ told space redoes other. absurd other;
  careful = λ told. inr (opens-recoverable (g.reads old) config shape space (opens told));
  cause = λ e. let before = leaves.later in omega (arith, before, rose);
}
