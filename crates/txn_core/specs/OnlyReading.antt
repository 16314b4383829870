-- Calls of a store that only read, one after the other.
use Rattle.std.proofs.Common.{◌∙◌, refl}
use Rattle.disk_model.proofs.Spans.{OnlyNow, only_reads_none, only_reads_on}
use Rattle.disk_model.specs.declared.disk.Disk.{Ghosts}
use Rattle.txn_core.specs.Base.{OnlyReadsBase}
use Rattle.txn_core.specs.declared.base.Base.{Base}

module _ {D : Type 0} {g : Ghosts D} where
  pub only_reads_base_none : OnlyNow g → (b : Base D g) → OnlyReadsBase b b
  only_reads_base_none only b = record {
    same_disk = refl;
    disk = only_reads_none g b.disk.now only;
    shape = refl;
    metas = refl;
    changed = refl;
    own = refl;
    tail = refl;
    live = refl;
    in_transaction = refl;
  }

  pub only_reads_base_on : {a b c : Base D g} → OnlyReadsBase a b → OnlyReadsBase b c
      → OnlyReadsBase a c
  only_reads_base_on {a = a} {b = b} {c = c} first more = record {
    same_disk = more.same_disk ∙ first.same_disk;
    disk = only_reads_on g a.disk.now b.disk.now c.disk.now first.disk more.disk;
    shape = more.shape ∙ first.shape;
    metas = more.metas ∙ first.metas;
    changed = more.changed ∙ first.changed;
    own = more.own ∙ first.own;
    tail = more.tail ∙ first.tail;
    live = more.live ∙ first.live;
    in_transaction = more.in_transaction ∙ first.in_transaction;
  }
