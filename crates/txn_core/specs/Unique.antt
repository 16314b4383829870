-- What holds of a store holds in one way.
use Rattle.std.specs.Prelude.{ℕ, Bool, IsTrue, List}
use Rattle.std.proofs.Props.{props}
use Rattle.disk_model.specs.declared.disk.Disk.{Ghosts}
use Rattle.rec_bytes.specs.declared.meta.Meta.{Meta}
use Rattle.rec_bytes.specs.declared.record.Rec.{Rec}
use Rattle.rec_bytes.specs.Pairs.{Held, Pairs}
use Rattle.record_file.specs.Unique.{AreAlike-prop, IsLogged-prop}
use Rattle.page_cache.specs.Pages.{Agrees, Pages}
use Rattle.txn_core.specs.Kept.{AreBounded, IsKept}
use Rattle.txn_core.specs.Marks.{AreMarks}

pub AreBounded-prop : (in_transaction : Bool) (changed own : Held)
    → IsProp (AreBounded in_transaction changed own)
AreBounded-prop in_transaction changed own = hlevel props

pub IsKept-prop : {D : Type 0} (g : Ghosts D) (disk : D) (metas : List Rec) (changed : Pairs)
    (tail : ℕ) (live : Bool) → IsProp (IsTrue live → IsKept g disk metas changed tail)
IsKept-prop g disk metas changed tail live = hlevel (props, IsLogged-prop, AreAlike-prop)

pub IsCached-prop : {D : Type 0} (g : Ghosts D) (disk : D) (cache : Pages)
    → IsProp (g.tells_reads → Agrees (g.reads disk) cache)
IsCached-prop g disk cache = hlevel props

pub AreMarks-prop : (metas : List Rec) (changed own : Pairs) (marks : List Meta)
    → IsProp (AreMarks metas changed own marks)
AreMarks-prop metas changed own marks = hlevel props
