use Rattle.std.proofs.Common.{◌≡◌, ◌∙◌, ap, cond, ltb, length, take, drop, ◌++◌, ◌&&◌, arith}
use Rattle.std.proofs.lemmas.List.{take_at}
use Rattle.disk_model.specs.Calls.{pending_since}
use Rattle.disk_model.specs.Crash.{left_by}
use Rattle.disk_model.specs.MemoryDisk.{MemoryDiskState}
use Rattle.disk_model.specs.PlainDisk.{file_of, contents}
use Rattle.disk_model.specs.declared.memory_disk.Crash.TheVariants.{Fill}
use Rattle.disk_model.proofs.ReadFiles.{filled-pending, same_count}
use Rattle.disk_model.proofs.memory_disk.MemoryDisk.filled.Goals as goal

pub returns-clause-exact : goal.returns-clause-exact
returns-clause-exact c file place =
    let disk = c.self.inside in
    let files = c.in_ok-files.files in
    let new = c.fill.new.files in
    let byte = c.args.byte in
    let copied : c.deref_mut.result.now ≡ disk.files.items = cc (c.deref_mut.ensures.value, c.in_ok-files.ensures, c.deref.ensures.value) in
    let count : length new ≡ files.len = omega (arith, same_count new c.deref_mut.result.now c.fill.ensures.rooms) in
    let whole : take files.len (new ++ drop (length new) files.items) ≡ new = take_at new (drop (length new) files.items) files.len count in
    ap (λ fs. contents fs file place) whole
    ∙ c.fill.ensures.bytes file place
    ∙ ap (λ fs. cond (pending_since (contents c.deref-2.result.now) disk.log.calls file place && ltb place (length (file_of fs file))) byte
    (contents fs file place)) copied
    ∙ ap (λ ps. cond (pending_since (contents ps) disk.log.calls file place && ltb place (length (file_of disk.files.items file))) byte
    (contents disk.files.items file place)) c.deref-2.ensures.value
    ∙ filled-pending disk.base.items disk.pokes.items disk.files.items disk.log.calls byte file place c.self.invariant
    ∙ ap (λ (d : MemoryDiskState). left_by (Fill byte) d file place) c.self.view_is
