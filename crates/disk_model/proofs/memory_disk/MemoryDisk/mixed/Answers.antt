use Rattle.std.proofs.Common.{◌≡◌, ◌∙◌, ap, sym, subst, length, take, drop, ◌++◌, ◌&&◌, cond, ltb, arith}
use Rattle.std.proofs.lemmas.List.{take_at}
use Rattle.disk_model.specs.Calls.{pending_since}
use Rattle.disk_model.specs.Crash.{left_by}
use Rattle.disk_model.specs.Marks.{with_draws}
use Rattle.disk_model.specs.MemoryDisk.{MemoryDiskState}
use Rattle.disk_model.specs.PlainDisk.{file_of, rooms_of, contents, AllZeros}
use Rattle.disk_model.specs.declared.memory_disk.Crash.TheVariants.{Mixed}
use Rattle.disk_model.proofs.PendingMarks.{marked-pending, with_draws-pending}
use Rattle.disk_model.proofs.ReadFiles.{same_count}
use Rattle.disk_model.proofs.memory_disk.MemoryDisk.mixed.Goals as goal

pub returns-clause-exact : goal.returns-clause-exact
returns-clause-exact c file place =
    let disk = c.self.inside in
    let blank = c.in_ok-marks.marks in
    let files = c.in_ok-files.files in
    let marks = c.fill.new.files in
    let new = c.draw_marked.new.files in
    let seed = c.args.seed in
    let read = c.self.invariant in
    let blanks : c.deref_mut.result.now ≡ blank.items = c.deref_mut.ensures.value in
    let copied : c.deref_mut-2.result.now ≡ disk.files.items = cc (c.deref_mut-2.ensures.value, c.in_ok-files.ensures, c.deref-3.ensures.value) in
    let mark_count : length marks ≡ blank.len = omega (arith, same_count marks c.deref_mut.result.now c.fill.ensures.rooms) in
    let marks_is : c.deref-4.result.now ≡ marks = c.deref-4.ensures.value ∙ take_at marks (drop (length marks) blank.items) blank.len mark_count in
    let count : length new ≡ files.len = omega (arith, same_count new c.deref_mut-2.result.now c.draw_marked.ensures.rooms) in
    let whole : take files.len (new ++ drop (length new) files.items) ≡ new = take_at new (drop (length new) files.items) files.len count in
    let rooms : rooms_of c.deref_mut.result.now ≡ rooms_of disk.base.items = ap rooms_of blanks ∙ c.in_ok-marks.ensures.rooms
    ∙ ap rooms_of c.deref.ensures.value ∙ read.same_rooms in
    let zeros : AllZeros c.deref_mut.result.now = subst AllZeros (sym blanks) c.in_ok-marks.ensures.zeros in
    let marked = marked-pending disk.base.items disk.pokes.items c.deref_mut.result.now marks disk.log.calls read.fits rooms zeros
    (λ f p. c.fill.ensures.bytes f p ∙ ap (λ ps. cond (pending_since (contents ps) disk.log.calls f p && ltb p (length (file_of c.deref_mut.result.now f))) 1
    (contents c.deref_mut.result.now f p)) c.deref-2.ensures.value)
    in
    ap (λ fs. contents fs file place) whole
    ∙ c.draw_marked.ensures.bytes file place
    ∙ ap (λ ms. with_draws seed ms (contents c.deref_mut-2.result.now) file place) marks_is
    ∙ ap (λ fs. with_draws seed marks (contents fs) file place) copied
    ∙ with_draws-pending disk.base.items disk.pokes.items disk.files.items marks disk.log.calls seed file place read (c.fill.ensures.rooms ∙ rooms) marked
    ∙ ap (λ (d : MemoryDiskState). left_by (Mixed seed) d file place) c.self.view_is
