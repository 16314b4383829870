use Rattle.std.proofs.Common.{◌<◌, length, set, subst, ap, ◌∙◌, arith}
use Rattle.disk_model.specs.Calls.{Allows}
use Rattle.disk_model.specs.Contents.{poked}
use Rattle.disk_model.specs.MemoryDisk.{MemoryDiskState, ArePoked, MayLeave, LeftSince, content_of}
use Rattle.disk_model.specs.PlainDisk.{file_of, rooms_of, contents}
use Rattle.disk_model.proofs.Moments.{Since}
use Rattle.disk_model.proofs.Pokes.{PokedDisk-writes, has_place, content_since-poked, ArePoked-allows, ArePoked-since}
use Rattle.disk_model.proofs.memory_disk.MemoryDisk.poke.Goals as goal

pub write-requires-2 : goal.write-requires-2
write-requires-2 c =
    let disk = c.self.inside in
    let read = c.self.invariant in
    let within : c.args.at < length (file_of disk.base.items c.args.file) = rw (← c.self.view_is) at c.requires.within in
    omega (
      arith,
      has_place disk.files.items disk.base.items c.args.file c.args.at c.index_mut-2.result.now read.count read.same_rooms c.requires.file within
          c.index_mut-2.ensures.value,
    )

pub poke-requires : goal.poke-requires
poke-requires c =
    let disk = c.self.inside in
    let read = c.self.invariant in
    let within : c.args.at < length (file_of disk.base.items c.args.file) = rw (← c.self.view_is) at c.requires.within in
    has_place disk.pokes.items disk.base.items c.args.file c.args.at c.index_mut-3.result.now read.count read.poke_rooms c.requires.file within
    c.index_mut-3.ensures.value

pub invariant_of-self : goal.invariant_of-self
invariant_of-self c =
    let disk = c.self.inside in
    let within : c.args.at < length (file_of disk.base.items c.args.file) = rw (← c.self.view_is) at c.requires.within in
    let after = PokedDisk-writes disk.base.items disk.pokes.items disk.files.items disk.log.calls c.args.file c.args.at c.args.byte c.count.result
    c.index_mut.result.now c.write.new.self c.index_mut-2.result.now c.write-2.new.self c.index_mut-3.result.now c.poke.new.self c.self.invariant
    c.requires.file within c.index_mut.ensures.value c.write.ensures c.index_mut-2.ensures.value c.write-2.ensures c.index_mut-3.ensures.value
    c.poke.ensures c.count.ensures in
    after.read

pub returns-clause-read : goal.returns-clause-read
returns-clause-read c other place =
    let disk = c.self.inside in
    let within : c.args.at < length (file_of disk.base.items c.args.file) = rw (← c.self.view_is) at c.requires.within in
    let after = PokedDisk-writes disk.base.items disk.pokes.items disk.files.items disk.log.calls c.args.file c.args.at c.args.byte c.count.result
    c.index_mut.result.now c.write.new.self c.index_mut-2.result.now c.write-2.new.self c.index_mut-3.result.now c.poke.new.self c.self.invariant
    c.requires.file within c.index_mut.ensures.value c.write.ensures c.index_mut-2.ensures.value c.write-2.ensures c.index_mut-3.ensures.value
    c.poke.ensures c.count.ensures in
    content_since-poked c.args.file c.args.at c.args.byte (length disk.log.calls) (contents disk.base.items) (contents disk.pokes.items)
    (contents (set disk.base.items c.args.file c.write.new.self)) (contents (set disk.pokes.items c.args.file c.poke.new.self)) disk.log.calls after.poke
    (omega arith) other place
    ∙ ap (λ (d : MemoryDiskState). poked c.args.file c.args.at c.args.byte (content_of d) other place) c.self.view_is

pub returns-clause-image : goal.returns-clause-image
returns-clause-image c =
    let disk = c.self.inside in
    let within : c.args.at < length (file_of disk.base.items c.args.file) = rw (← c.self.view_is) at c.requires.within in
    let after = PokedDisk-writes disk.base.items disk.pokes.items disk.files.items disk.log.calls c.args.file c.args.at c.args.byte c.count.result
    c.index_mut.result.now c.write.new.self c.index_mut-2.result.now c.write-2.new.self c.index_mut-3.result.now c.poke.new.self c.self.invariant
    c.requires.file within c.index_mut.ensures.value c.write.ensures c.index_mut-2.ensures.value c.write-2.ensures c.index_mut-3.ensures.value
    c.poke.ensures c.count.ensures in
    subst (λ (d : MemoryDiskState). ArePoked c.args.file c.args.at c.args.byte (MayLeave d)
    (Allows (contents (set disk.base.items c.args.file c.write.new.self)) (contents (set disk.pokes.items c.args.file c.poke.new.self)) disk.log.calls))
    c.self.view_is
    (ArePoked-allows c.args.file c.args.at c.args.byte (length disk.log.calls) (contents disk.base.items) (contents disk.pokes.items)
    (contents (set disk.base.items c.args.file c.write.new.self)) (contents (set disk.pokes.items c.args.file c.poke.new.self)) disk.log.calls after.poke
    (omega arith))

pub returns-clause-since : goal.returns-clause-since
returns-clause-since c t =
    let disk = c.self.inside in
    let within : c.args.at < length (file_of disk.base.items c.args.file) = rw (← c.self.view_is) at c.requires.within in
    let after = PokedDisk-writes disk.base.items disk.pokes.items disk.files.items disk.log.calls c.args.file c.args.at c.args.byte c.count.result
    c.index_mut.result.now c.write.new.self c.index_mut-2.result.now c.write-2.new.self c.index_mut-3.result.now c.poke.new.self c.self.invariant
    c.requires.file within c.index_mut.ensures.value c.write.ensures c.index_mut-2.ensures.value c.write-2.ensures c.index_mut-3.ensures.value
    c.poke.ensures c.count.ensures in
    subst (λ (d : MemoryDiskState). ArePoked c.args.file c.args.at c.args.byte (LeftSince d t)
    (Since (contents (set disk.base.items c.args.file c.write.new.self)) (contents (set disk.pokes.items c.args.file c.poke.new.self)) disk.log.calls t))
    c.self.view_is
    (ArePoked-since c.args.file c.args.at c.args.byte (contents disk.base.items) (contents disk.pokes.items)
    (contents (set disk.base.items c.args.file c.write.new.self)) (contents (set disk.pokes.items c.args.file c.poke.new.self)) disk.log.calls t after.poke)

pub returns-clause-base : goal.returns-clause-base
returns-clause-base c other place =
    let disk = c.self.inside in
    let within : c.args.at < length (file_of disk.base.items c.args.file) = rw (← c.self.view_is) at c.requires.within in
    let after = PokedDisk-writes disk.base.items disk.pokes.items disk.files.items disk.log.calls c.args.file c.args.at c.args.byte c.count.result
    c.index_mut.result.now c.write.new.self c.index_mut-2.result.now c.write-2.new.self c.index_mut-3.result.now c.poke.new.self c.self.invariant
    c.requires.file within c.index_mut.ensures.value c.write.ensures c.index_mut-2.ensures.value c.write-2.ensures c.index_mut-3.ensures.value
    c.poke.ensures c.count.ensures in
    after.poke.in_base other place ∙ ap (λ (d : MemoryDiskState). poked c.args.file c.args.at c.args.byte (contents d.base) other place) c.self.view_is

pub returns-clause-pokes : goal.returns-clause-pokes
returns-clause-pokes c other place =
    let disk = c.self.inside in
    let within : c.args.at < length (file_of disk.base.items c.args.file) = rw (← c.self.view_is) at c.requires.within in
    let after = PokedDisk-writes disk.base.items disk.pokes.items disk.files.items disk.log.calls c.args.file c.args.at c.args.byte c.count.result
    c.index_mut.result.now c.write.new.self c.index_mut-2.result.now c.write-2.new.self c.index_mut-3.result.now c.poke.new.self c.self.invariant
    c.requires.file within c.index_mut.ensures.value c.write.ensures c.index_mut-2.ensures.value c.write-2.ensures c.index_mut-3.ensures.value
    c.poke.ensures c.count.ensures in
    after.poke.noted other place ∙ ap (λ (d : MemoryDiskState). poked c.args.file c.args.at (length d.calls) (contents d.pokes) other place) c.self.view_is

pub returns-clause-rooms : goal.returns-clause-rooms
returns-clause-rooms c =
    let disk = c.self.inside in
    let within : c.args.at < length (file_of disk.base.items c.args.file) = rw (← c.self.view_is) at c.requires.within in
    let after = PokedDisk-writes disk.base.items disk.pokes.items disk.files.items disk.log.calls c.args.file c.args.at c.args.byte c.count.result
    c.index_mut.result.now c.write.new.self c.index_mut-2.result.now c.write-2.new.self c.index_mut-3.result.now c.poke.new.self c.self.invariant
    c.requires.file within c.index_mut.ensures.value c.write.ensures c.index_mut-2.ensures.value c.write-2.ensures c.index_mut-3.ensures.value
    c.poke.ensures c.count.ensures in
    after.rooms ∙ ap (λ (d : MemoryDiskState). rooms_of d.base) c.self.view_is
