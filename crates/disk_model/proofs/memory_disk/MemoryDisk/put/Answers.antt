use Rattle.std.proofs.Common.{◌≡◌, ◌+◌, ◌<◌, ◌≤◌, length, set, subst, sym, arith}
use Rattle.std.proofs.lemmas.Grind.{common_steps}
use Rattle.disk_model.specs.CallLog.{CallLogState}
use Rattle.disk_model.specs.PlainDisk.{file_of, contents}
use Rattle.disk_model.specs.MemoryDisk.{IsRead}
use Rattle.disk_model.proofs.Files.{overwritten}
use Rattle.disk_model.specs.Calls.{content_since}
use Rattle.disk_model.specs.Contents.{Holds}
use Rattle.disk_model.proofs.Images.{Holds-wrote}
use Rattle.disk_model.proofs.ReadFiles.{IsRead-tore, IsRead-wrote, same_room, same_count}
use Rattle.disk_model.proofs.memory_disk.MemoryDisk.put.Goals as goal

pub invariant_of-self-then-not-is_full : goal.invariant_of-self-then-not-is_full
invariant_of-self-then-not-is_full c =
    let disk = c.self.inside in
    let fits : c.args.at + length c.args.bytes.now ≤ length (file_of disk.base.items c.args.file) = grind (arith, common_steps) in
    subst (λ (log : CallLogState). IsRead disk.base.items disk.pokes.items disk.files.items log.calls) (sym c.tore.ensures)
    (IsRead-tore disk.base.items disk.pokes.items disk.files.items disk.log.calls c.args.file c.args.at (length c.args.bytes.now) c.self.invariant fits)

pub invariant_of-self-2 : goal.invariant_of-self-2
invariant_of-self-2 c =
    let disk = c.self.inside in
    let fits : c.args.at + length c.args.bytes.now ≤ length (file_of disk.base.items c.args.file) = grind (arith, common_steps) in
    let is : c.write.new.self ≡ overwritten (file_of disk.files.items c.args.file) c.args.at c.args.bytes.now = grind (arith, common_steps) in
    let known : c.args.file < length disk.files.items = omega (
      arith,
      same_count disk.files.items disk.base.items c.self.invariant.same_rooms,
      c.self.invariant.count,
    ) in
    subst (λ (log : CallLogState). IsRead disk.base.items disk.pokes.items (set disk.files.items c.args.file c.write.new.self) log.calls) (sym c.wrote.ensures)
    (IsRead-wrote disk.base.items disk.pokes.items disk.files.items disk.log.calls c.args.file c.args.at c.args.bytes.now c.write.new.self c.self.invariant
    known fits is)

pub write-requires : goal.write-requires
write-requires c =
    let disk = c.self.inside in
    let fits : c.args.at + length c.args.bytes.now ≤ length (file_of disk.base.items c.args.file) = grind (arith, common_steps) in
    let room = same_room disk.files.items disk.base.items c.args.file c.self.invariant.same_rooms in
    grind (arith, common_steps)

pub returns-clause-written : goal.returns-clause-written
returns-clause-written c =
    let disk = c.self.inside in
    let base = contents disk.base.items in
    let pokes = contents disk.pokes.items in
    subst (λ (log : CallLogState). Holds c.args.file c.args.at c.args.bytes.now (content_since base pokes log.calls)) (sym c.wrote.ensures)
    (Holds-wrote base pokes disk.log.calls c.args.file c.args.at c.args.bytes.now c.self.invariant.past)

pub returns-then-room-at-clause-fails : goal.returns-then-room-at-clause-fails
returns-then-room-at-clause-fails c = grind (arith, common_steps)

pub returns-then-room-at-clause-err : goal.returns-then-room-at-clause-err
returns-then-room-at-clause-err c = grind (arith, common_steps)

pub returns-then-not-is_full-clause-err : goal.returns-then-not-is_full-clause-err
returns-then-not-is_full-clause-err c = grind (arith, common_steps)

pub index_mut-requires : goal.index_mut-requires
index_mut-requires c = grind (arith, common_steps)
