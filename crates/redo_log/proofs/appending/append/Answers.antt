use Rattle.std.proofs.Common.{inl, inr, ℕ, ◌+◌, ◌*◌, ◌++◌, ◌∷◌, [], List, length}
use Rattle.disk_model.specs.Contents.{Files, Holds}
use Rattle.disk_model.specs.Disk.{Elapses, LeavesOnly, NoMore, Settled, TornIn}
use Rattle.disk_model.proofs.Times.{leaves_weaker}
use Rattle.rec_bytes.specs.Format.{log_file}
use Rattle.rec_bytes.specs.Pairs.{Pairs}
use Rattle.redo_log.specs.Appending.{AreWhole, HasOneMore, IsAppended, IsTornFrom, payload_bytes}
use Rattle.redo_log.specs.Entries.{AllHaveEntries, Fits, HasEntries, IsEntryOf, entry_bytes}
use Rattle.disk_model.proofs.Contents.{SameOutside-then, SameOutside-same}
use Rattle.redo_log.proofs.Appends.{HasEntries-behind, HasEntries-read, HasOneMore-read, HasAtMostOneMore-read}
use Rattle.redo_log.proofs.Appends.{IsAppended-torn, leaves_no_more, leaves_gated, AllHaveEntries-settled}
use Rattle.redo_log.proofs.appending.append.Given.{Over}
use Rattle.rec_bytes.proofs.Causes.{never_ok}
use Rattle.redo_log.proofs.appending.append.Goals as goal

-- what a crash leaves from one state of the disk to another
abbrev Leaves : (g : Over) → g.row.D.Denot → g.row.D.Denot → (Files → Type 0) → Type 0
Leaves g first now P = let disk = g.D.Disk in LeavesOnly (disk.moment first) (disk.moment now) (disk.left_since first) (disk.left_since now) P

-- time goes on from one state to another
abbrev Goes : (g : Over) → g.row.D.Denot → g.row.D.Denot → Type 0
Goes g before now = let disk = g.D.Disk in Elapses (disk.moment before) (disk.moment now) (disk.left_since before) (disk.left_since now) (disk.may_leave now)

-- with one sync more
synced : (g : Over) (first before now : g.row.D.Denot) (P : Files → Type 0) → g.D.Disk.tells_images → Leaves g first before P → Goes g before now
    → NoMore (g.D.Disk.may_leave before) (g.D.Disk.may_leave now) → Leaves g first now P
synced g first before now P images leaves time fewer =
    let disk = g.D.Disk in
    leaves_no_more _ _ _ _ _ _ (disk.may_leave before) _ P leaves (λ image later left. g.met.D.Disk.counts_now before (disk.moment first) image images later
    left) time fewer

-- with the gate written too
gated : (g : Over) (first laid stable now : g.row.D.Denot) (entries : List Pairs) (writes : Pairs) (tail : ℕ) → g.D.Disk.tells_images
    → AllHaveEntries (g.D.Disk.may_leave first) entries tail → IsEntryOf writes → AreWhole writes → Fits tail (length writes)
    → Leaves g first laid (IsTornFrom (g.D.Disk.may_leave first) (tail + 1) (3 + 69 * length writes))
    → Holds log_file (tail + 1) (payload_bytes writes ++ 0 ∷ []) (g.D.Disk.reads laid)
    → Goes g laid stable → NoMore (g.D.Disk.may_leave laid) (g.D.Disk.may_leave stable) → Settled log_file (g.D.Disk.reads laid) (g.D.Disk.may_leave stable)
    → Goes g stable now → TornIn log_file tail 1 (g.D.Disk.may_leave stable) (g.D.Disk.may_leave now)
    → Leaves g first now (IsAppended (g.D.Disk.may_leave first) entries writes tail)
gated g first laid stable now entries writes tail images all form whole fits leaves holds time fewer settled gate_time torn =
    let disk = g.D.Disk in
    let wide = IsTornFrom (disk.may_leave first) (tail + 1) (3 + 69 * length writes) in
    leaves_gated _ _ _ _ _ _ (disk.may_leave first) (disk.may_leave stable) _ entries writes tail (disk.reads laid) all form whole fits
    (synced g first laid stable wide images leaves time fewer)
    (λ image later left. g.met.D.Disk.counts_now stable (disk.moment first) image images later left) gate_time torn settled holds

pub returns-in_err-write_payload-clause-crash : goal.returns-in_err-write_payload-clause-crash
returns-in_err-write_payload-clause-crash g c reads images entries all =
    leaves_weaker _ _ _ _ _ _ (c.write_payload.ensures.crash images) (IsAppended-torn (g.D.Disk.may_leave c.args.disk.now) entries c.args.writes.now.pairs
    c.args.tail all)

pub returns-in_err-write_payload-clause-read : goal.returns-in_err-write_payload-clause-read
returns-in_err-write_payload-clause-read g c reads entries has =
    inl (HasEntries-behind entries c.args.tail (3 + 69 * length c.args.writes.now.pairs) (g.D.Disk.reads c.args.disk.now)
    (g.D.Disk.reads c.write_payload.new.disk) has (c.write_payload.ensures.elsewhere reads))

pub returns-in_err-sync-clause-crash : goal.returns-in_err-sync-clause-crash
returns-in_err-sync-clause-crash g c reads images entries all =
    leaves_weaker _ _ _ _ _ _ (synced g c.args.disk.now c.write_payload.new.disk c.sync.new.self _ images (c.write_payload.ensures.crash images)
    (c.sync.ensures.time images) (c.sync.ensures.crash images))
    (IsAppended-torn (g.D.Disk.may_leave c.args.disk.now) entries c.args.writes.now.pairs c.args.tail all)

pub returns-in_err-sync-clause-read : goal.returns-in_err-sync-clause-read
returns-in_err-sync-clause-read g c reads entries has =
    let disk = g.D.Disk in
    let n = 3 + 69 * length c.args.writes.now.pairs in
    inl (HasEntries-behind entries c.args.tail n (disk.reads c.args.disk.now) (disk.reads c.sync.new.self) has
    (SameOutside-then log_file (c.args.tail + 1) n (disk.reads c.args.disk.now) (disk.reads c.write_payload.new.disk) (disk.reads c.sync.new.self)
    (c.write_payload.ensures.elsewhere reads)
    (SameOutside-same log_file (c.args.tail + 1) n (disk.reads c.write_payload.new.disk) (disk.reads c.sync.new.self) (c.sync.ensures.keeps))))

pub returns-in_err-write-clause-crash : goal.returns-in_err-write-clause-crash
returns-in_err-write-clause-crash g c reads images entries all =
    gated g c.args.disk.now c.write_payload.new.disk c.sync.new.self c.write.new.self entries c.args.writes.now.pairs c.args.tail images all c.requires.form
    c.in_ok-write_payload.ensures.whole c.requires.fits
    (c.write_payload.ensures.crash images) (c.in_ok-write_payload.ensures.written reads)
    (c.sync.ensures.time images) (c.sync.ensures.crash images) (c.in_ok-sync.ensures.settled reads images)
    (c.write.ensures.time images) (c.write.ensures.crash images)

pub returns-in_err-write-clause-read : goal.returns-in_err-write-clause-read
returns-in_err-write-clause-read g c reads entries has =
    let disk = g.D.Disk in
    HasAtMostOneMore-read entries c.args.writes.now.pairs c.args.tail (disk.reads c.args.disk.now) (disk.reads c.write_payload.new.disk)
    (disk.reads c.sync.new.self) (disk.reads c.write.new.self)
    c.requires.form c.in_ok-write_payload.ensures.whole c.requires.fits has
    (c.write_payload.ensures.elsewhere reads) (c.in_ok-write_payload.ensures.written reads) (c.sync.ensures.keeps) (c.write.ensures.elsewhere)

pub returns-in_err-sync-2-clause-crash : goal.returns-in_err-sync-2-clause-crash
returns-in_err-sync-2-clause-crash g c reads images entries all =
    let opened = gated g c.args.disk.now c.write_payload.new.disk c.sync.new.self c.write.new.self entries c.args.writes.now.pairs c.args.tail images all
    c.requires.form c.in_ok-write_payload.ensures.whole c.requires.fits
    (c.write_payload.ensures.crash images) (c.in_ok-write_payload.ensures.written reads)
    (c.sync.ensures.time images) (c.sync.ensures.crash images) (c.in_ok-sync.ensures.settled reads images)
    (c.write.ensures.time images) (c.write.ensures.crash images) in
    synced g c.args.disk.now c.write.new.self c.sync-2.new.self _ images opened (c.sync-2.ensures.time images) (c.sync-2.ensures.crash images)

pub returns-in_err-sync-2-clause-read : goal.returns-in_err-sync-2-clause-read
returns-in_err-sync-2-clause-read g c reads entries has =
    let disk = g.D.Disk in
    let tail = c.args.tail in
    HasAtMostOneMore-read entries c.args.writes.now.pairs tail (disk.reads c.args.disk.now) (disk.reads c.write_payload.new.disk) (disk.reads c.sync.new.self)
    (disk.reads c.sync-2.new.self)
    c.requires.form c.in_ok-write_payload.ensures.whole c.requires.fits has
    (c.write_payload.ensures.elsewhere reads) (c.in_ok-write_payload.ensures.written reads) (c.sync.ensures.keeps)
    (SameOutside-then log_file tail 1 (disk.reads c.sync.new.self) (disk.reads c.write.new.self) (disk.reads c.sync-2.new.self) (c.write.ensures.elsewhere)
    (SameOutside-same log_file tail 1 (disk.reads c.write.new.self) (disk.reads c.sync-2.new.self) (c.sync-2.ensures.keeps)))

pub returns-clause-crash : goal.returns-clause-crash
returns-clause-crash g c reads images entries all =
    let opened = gated g c.args.disk.now c.write_payload.new.disk c.sync.new.self c.write.new.self entries c.args.writes.now.pairs c.args.tail images all
    c.requires.form c.in_ok-write_payload.ensures.whole c.requires.fits
    (c.write_payload.ensures.crash images) (c.in_ok-write_payload.ensures.written reads)
    (c.sync.ensures.time images) (c.sync.ensures.crash images) (c.in_ok-sync.ensures.settled reads images)
    (c.write.ensures.time images) (c.write.ensures.crash images) in
    synced g c.args.disk.now c.write.new.self c.sync-2.new.self _ images opened (c.sync-2.ensures.time images) (c.sync-2.ensures.crash images)

-- what a read has before the last sync
one_more : (g : Over) (c : goal.After-len g) → g.D.Disk.tells_reads → (entries : List Pairs) → HasEntries (g.D.Disk.reads c.args.disk.now) entries c.args.tail
    → HasOneMore (g.D.Disk.reads c.write.new.self) entries c.args.writes.now.pairs c.args.tail
one_more g c reads entries has =
    let disk = g.D.Disk in
    HasOneMore-read entries c.args.writes.now.pairs c.args.tail (disk.reads c.args.disk.now) (disk.reads c.write_payload.new.disk) (disk.reads c.sync.new.self)
    (disk.reads c.write.new.self)
    c.requires.form c.in_ok-write_payload.ensures.whole c.requires.fits has
    (c.write_payload.ensures.elsewhere reads) (c.in_ok-write_payload.ensures.written reads) (c.sync.ensures.keeps) (c.write.ensures.elsewhere)
    (c.in_ok-write.ensures.written reads)

pub returns-clause-appended : goal.returns-clause-appended
returns-clause-appended g c reads entries has = HasEntries-read (entries ++ c.args.writes.now.pairs ∷ [])
    (c.args.tail + entry_bytes (length c.args.writes.now.pairs)) (g.D.Disk.reads c.write.new.self) (g.D.Disk.reads c.sync-2.new.self)
    (one_more g c reads entries has) (c.sync-2.ensures.keeps log_file)

pub returns-clause-read : goal.returns-clause-read
returns-clause-read g c reads entries has = inr (returns-clause-appended g c reads entries has)

pub returns-clause-durable : goal.returns-clause-durable
returns-clause-durable g c reads images entries all =
    let disk = g.D.Disk in
    let has = all (disk.reads c.args.disk.now) (g.met.D.Disk.read_is_image c.args.disk.now reads images) in
    AllHaveEntries-settled (disk.may_leave c.sync-2.new.self) (disk.reads c.write.new.self) (entries ++ c.args.writes.now.pairs ∷ [])
    (c.args.tail + entry_bytes (length c.args.writes.now.pairs)) (c.in_ok-sync-2.ensures.settled reads images) (one_more g c reads entries has)

pub returns-in_err-write_payload-clause-durable : goal.returns-in_err-write_payload-clause-durable
returns-in_err-write_payload-clause-durable g c _ _ _ _ = never_ok c.from_residual.result _ _ c.from_residual.ensures.1

pub returns-in_err-write_payload-clause-settled : goal.returns-in_err-write_payload-clause-settled
returns-in_err-write_payload-clause-settled g c _ _ = never_ok c.from_residual.result _ _ c.from_residual.ensures.1

pub returns-in_err-write_payload-clause-appended : goal.returns-in_err-write_payload-clause-appended
returns-in_err-write_payload-clause-appended g c _ _ _ = never_ok c.from_residual.result _ _ c.from_residual.ensures.1

pub returns-in_err-write_payload-clause-next : goal.returns-in_err-write_payload-clause-next
returns-in_err-write_payload-clause-next g c = never_ok c.from_residual.result _ _ c.from_residual.ensures.1

pub returns-in_err-sync-clause-durable : goal.returns-in_err-sync-clause-durable
returns-in_err-sync-clause-durable g c _ _ _ _ = never_ok c.from_residual-in_err-sync.result _ _ c.from_residual-in_err-sync.ensures.1

pub returns-in_err-sync-clause-settled : goal.returns-in_err-sync-clause-settled
returns-in_err-sync-clause-settled g c _ _ = never_ok c.from_residual-in_err-sync.result _ _ c.from_residual-in_err-sync.ensures.1

pub returns-in_err-sync-clause-appended : goal.returns-in_err-sync-clause-appended
returns-in_err-sync-clause-appended g c _ _ _ = never_ok c.from_residual-in_err-sync.result _ _ c.from_residual-in_err-sync.ensures.1

pub returns-in_err-sync-clause-next : goal.returns-in_err-sync-clause-next
returns-in_err-sync-clause-next g c = never_ok c.from_residual-in_err-sync.result _ _ c.from_residual-in_err-sync.ensures.1

pub returns-in_err-write-clause-durable : goal.returns-in_err-write-clause-durable
returns-in_err-write-clause-durable g c _ _ _ _ = never_ok c.from_residual-in_err-write.result _ _ c.from_residual-in_err-write.ensures.1

pub returns-in_err-write-clause-settled : goal.returns-in_err-write-clause-settled
returns-in_err-write-clause-settled g c _ _ = never_ok c.from_residual-in_err-write.result _ _ c.from_residual-in_err-write.ensures.1

pub returns-in_err-write-clause-appended : goal.returns-in_err-write-clause-appended
returns-in_err-write-clause-appended g c _ _ _ = never_ok c.from_residual-in_err-write.result _ _ c.from_residual-in_err-write.ensures.1

pub returns-in_err-write-clause-next : goal.returns-in_err-write-clause-next
returns-in_err-write-clause-next g c = never_ok c.from_residual-in_err-write.result _ _ c.from_residual-in_err-write.ensures.1

pub returns-in_err-sync-2-clause-durable : goal.returns-in_err-sync-2-clause-durable
returns-in_err-sync-2-clause-durable g c _ _ _ _ = never_ok c.from_residual-in_err-sync-2.result _ _ c.from_residual-in_err-sync-2.ensures.1

pub returns-in_err-sync-2-clause-settled : goal.returns-in_err-sync-2-clause-settled
returns-in_err-sync-2-clause-settled g c _ _ = never_ok c.from_residual-in_err-sync-2.result _ _ c.from_residual-in_err-sync-2.ensures.1

pub returns-in_err-sync-2-clause-appended : goal.returns-in_err-sync-2-clause-appended
returns-in_err-sync-2-clause-appended g c _ _ _ = never_ok c.from_residual-in_err-sync-2.result _ _ c.from_residual-in_err-sync-2.ensures.1

pub returns-in_err-sync-2-clause-next : goal.returns-in_err-sync-2-clause-next
returns-in_err-sync-2-clause-next g c = never_ok c.from_residual-in_err-sync-2.result _ _ c.from_residual-in_err-sync-2.ensures.1
