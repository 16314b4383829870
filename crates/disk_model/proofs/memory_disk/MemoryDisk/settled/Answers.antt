use Rattle.std.proofs.Common.{◌≡◌, ◌∙◌, ap, sym, subst, length, take, drop, ◌++◌, arith}
use Rattle.std.specs.List.{AllByRecursion}
use Rattle.std.proofs.lemmas.List.{take_at}
use Rattle.disk_model.specs.Calls.{FitsFile, calls_at, synced_since}
use Rattle.disk_model.specs.Crash.{left_by}
use Rattle.disk_model.specs.MemoryDisk.{MemoryDiskState}
use Rattle.disk_model.specs.PlainDisk.{contents}
use Rattle.disk_model.specs.declared.memory_disk.Crash.TheVariants.{Old}
use Rattle.disk_model.proofs.Lays.{synced_content-is}
use Rattle.disk_model.proofs.ReadFiles.{same_count}
use Rattle.disk_model.proofs.memory_disk.MemoryDisk.settled.Goals as goal

pub lay_synced-requires-clause-fits : goal.lay_synced-requires-clause-fits
lay_synced-requires-clause-fits c =
    let disk = c.self.inside in
    let copied : c.deref_mut.result.now ≡ disk.base.items = cc (c.deref_mut.ensures.value, c.in_ok-files.ensures, c.deref.ensures.value) in
    subst (λ fs. AllByRecursion (FitsFile fs) disk.log.calls) (sym copied) c.self.invariant.fits

pub returns-clause-exact : goal.returns-clause-exact
returns-clause-exact c file place =
    let disk = c.self.inside in
    let files = c.in_ok-files.files in
    let new = c.lay_synced.new.files in
    let copied : c.deref_mut.result.now ≡ disk.base.items = cc (c.deref_mut.ensures.value, c.in_ok-files.ensures, c.deref.ensures.value) in
    let count : length new ≡ files.len = omega (arith, same_count new c.deref_mut.result.now c.lay_synced.ensures.rooms) in
    let whole : take files.len (new ++ drop (length new) files.items) ≡ new = take_at new (drop (length new) files.items) files.len count in
    ap (λ fs. contents fs file place) whole
    ∙ c.lay_synced.ensures.bytes file place
    ∙ ap (λ fs. synced_since (contents fs) (contents c.deref-2.result.now) disk.log.calls file place) copied
    ∙ ap (λ ps. synced_since (contents disk.base.items) (contents ps) disk.log.calls file place) c.deref-2.ensures.value
    ∙ synced_content-is (calls_at (contents disk.pokes.items) disk.log.calls file place) (contents disk.base.items) file place
    ∙ ap (λ (d : MemoryDiskState). left_by Old d file place) c.self.view_is
