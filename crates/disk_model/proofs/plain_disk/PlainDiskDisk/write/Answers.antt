use Rattle.std.proofs.Common.{◌≡◌, ◌+◌, ◌≤◌, length, arith}
use Rattle.std.proofs.lemmas.Grind.{common_steps}
use Rattle.disk_model.specs.PlainDisk.{file_of}
use Rattle.disk_model.proofs.Files.{overwritten, SameOutside-write, rooms_of-write}
use Rattle.disk_model.proofs.plain_disk.PlainDiskDisk.write.Goals as goal

pub returns-clause-elsewhere : goal.returns-clause-elsewhere
returns-clause-elsewhere c =
    let files = c.self.inside.files.items in
    let fits : c.args.at + length c.args.bytes.now ≤ length (file_of files c.args.file) = grind (arith, common_steps) in
    let is : c.write.new.self ≡ overwritten (file_of files c.args.file) c.args.at c.args.bytes.now = grind (arith, common_steps) in
    rw (← c.self.view_is) (SameOutside-write files c.args.file c.args.at c.args.bytes.now c.write.new.self (omega arith) fits is)

pub returns-clause-rooms : goal.returns-clause-rooms
returns-clause-rooms c =
    let files = c.self.inside.files.items in
    let fits : c.args.at + length c.args.bytes.now ≤ length (file_of files c.args.file) = grind (arith, common_steps) in
    let is : c.write.new.self ≡ overwritten (file_of files c.args.file) c.args.at c.args.bytes.now = grind (arith, common_steps) in
    rw (← c.self.view_is) (rooms_of-write files c.args.file c.args.at c.args.bytes.now c.write.new.self fits is)
