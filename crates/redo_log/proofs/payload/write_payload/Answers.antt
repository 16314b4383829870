use Rattle.std.proofs.Common.{◌≡◌, ℕ, ◌+◌, ◌*◌, ◌≤◌, ◌++◌, ◌∷◌, [], ap, sym, subst, ◌∙◌, ◌-◌, length, take, drop, arith, length-append, Result, Ok, Err}
use Rattle.std.specs.Prelude.{OnOk}
use Rattle.std.specs.List.{flat_map}
use Rattle.std.proofs.lemmas.Result.{on_ok_weaker}
use Rattle.disk_model.specs.Contents.{Holds, SameOutside}
use Rattle.disk_model.specs.Disk.{Elapses, LeavesOnly, TornIn}
use Rattle.rec_bytes.specs.Format.{log_file}
use Rattle.redo_log.specs.Appending.{IsTornFrom, write_bytes}
use Rattle.disk_model.proofs.Contents.{SameOutside-within, SameOutside-then}
use Rattle.redo_log.proofs.Bytes.{AreWhole-all, AreWholeFrom-then}
use Rattle.redo_log.proofs.Sending.{IsSent, IsSent-more, IsSent-all}
use Rattle.redo_log.proofs.Torn.{leaves_torn}
use Rattle.redo_log.proofs.payload.write_payload.Given.{Over}
use Rattle.rec_bytes.proofs.Causes.{never_ok}
use Rattle.redo_log.proofs.payload.write_payload.Goals as goal

-- a crash from one state of the disk to another leaves a content from before, but for the range
abbrev Leaves : (g : Over) → g.row.D.Denot → g.row.D.Denot → ℕ → ℕ → Type 0
Leaves g first now at n = let disk = g.D.Disk in LeavesOnly (disk.moment first) (disk.moment now) (disk.left_since first) (disk.left_since now)
    (IsTornFrom (disk.may_leave first) at n)

-- with one write more in the range
torn_more : (g : Over) (first before now : g.row.D.Denot) (at n place k : ℕ) → g.D.Disk.tells_images → Leaves g first before at n
    → Elapses (g.D.Disk.moment before) (g.D.Disk.moment now) (g.D.Disk.left_since before) (g.D.Disk.left_since now) (g.D.Disk.may_leave now)
    → TornIn log_file place k (g.D.Disk.may_leave before) (g.D.Disk.may_leave now) → at ≤ place → place + k ≤ at + n → Leaves g first now at n
torn_more g first before now at n place k images leaves time torn behind ends =
    leaves_torn _ _ _ _ _ _ (g.D.Disk.may_leave first) (g.D.Disk.may_leave before) _ at n place k leaves time torn
    (λ image left. g.met.D.Disk.counts_now before (g.D.Disk.moment first) image images leaves.later left) behind ends

pub returns-in_err-write-clause-crash : goal.returns-in_err-write-clause-crash
returns-in_err-write-clause-crash g c images =
    let was = c.loop-next.invariant in
    let size : length c.bytes.result.now ≡ length c.loop-next.piece = ap length c.bytes.ensures in
    torn_more g c.args.disk.now c.loop-next.disk c.write.new.self c.args.at (3 + 69 * length c.args.writes.now.pairs) c.loop-next.place
    (length c.bytes.result.now)
    images (was.crash images) (c.write.ensures.time images) (c.write.ensures.crash images) was.behind (omega (arith, was.ends, was.within, size))

pub loop-next-preserved : goal.loop-next-preserved
loop-next-preserved g c =
    let disk = g.D.Disk in
    let was = c.loop-next.invariant in
    let old = disk.reads c.loop-next.disk in
    let new = disk.reads c.write.new.self in
    let at = c.args.at in
    let place = c.loop-next.place in
    let piece = c.loop-next.piece in
    let next_piece = c.fill-next-in-loop-next.new.self in
    let writes = c.args.writes.now.pairs in
    let next = c.loop-next.next in
    let later = c.fill-next-in-loop-next.result in
    let n = 3 + 69 * length writes in
    let size : length c.bytes.result.now ≡ length piece = ap length c.bytes.ensures in
    let step : length c.bytes-in-loop-next.result.now ≡ length piece = ap length c.bytes-in-loop-next.ensures in
    let filled : length next_piece ≡ 0 + 69 * (later - next) = c.fill-next-in-loop-next.ensures.length
    ∙ ap (λ bytes. length bytes + 69 * (later - next)) c.clear.ensures in
    let added : next_piece ≡ flat_map write_bytes (take (later - next) (drop next writes)) =
    c.fill-next-in-loop-next.ensures.added ∙ ap (λ bytes. bytes ++ flat_map write_bytes (take (later - next) (drop next writes))) c.clear.ensures in
    let within : later ≤ length writes = omega (arith, was.within, c.fill-next-in-loop-next.ensures.next) in
    let on : next ≤ later = omega (arith, c.fill-next-in-loop-next.ensures.next) in
    let ends : place + length c.bytes.result.now ≤ at + n = omega (arith, was.ends, was.within, size) in
    record {
      within = within;
      room = omega (arith, filled, c.fill-next-in-loop-next.ensures.next);
      behind = omega (arith, was.behind);
      ends = omega (arith, was.ends, filled, step, on);
      sent = λ reads.
          subst (λ k. IsSent new at (place + k) next_piece writes later) (sym step)
          (IsSent-more old new at place piece next_piece writes next later (was.sent reads)
          (subst (λ bytes. Holds log_file place bytes new) c.bytes.ensures (c.in_ok-write.ensures.written reads))
          (subst (λ bytes. SameOutside log_file place (length bytes) old new) c.bytes.ensures (c.write.ensures.elsewhere))
          added on);
      elsewhere = λ reads.
          SameOutside-then log_file at n (disk.reads c.args.disk.now) old new (was.elsewhere reads)
          (SameOutside-within log_file place (length c.bytes.result.now) at n old new was.behind ends (c.write.ensures.elsewhere));
      crash = λ images.
          torn_more g c.args.disk.now c.loop-next.disk c.write.new.self at n place (length c.bytes.result.now)
          images (was.crash images) (c.write.ensures.time images) (c.write.ensures.crash images) was.behind ends;
      whole = AreWholeFrom-then writes 0 next later was.whole c.fill-next-in-loop-next.ensures.whole;
      cause = omega (arith, was.cause, c.write.ensures.cause.later);
    }

pub returns-clause-written : goal.returns-clause-written
returns-clause-written g c reads =
    let disk = g.D.Disk in
    let was = c.loop-next.invariant in
    on_ok_weaker {P = Holds log_file c.loop-next.place c.bytes-2.result.now (disk.reads c.write-2.new.self)} c.write-2.result (λ holds.
    IsSent-all (disk.reads c.loop-next.disk) (disk.reads c.write-2.new.self) c.args.at c.loop-next.place c.loop-next.piece c.bytes-2.result.now
    c.args.writes.now.pairs c.loop-next.next (0 ∷ [])
    (was.sent reads) (omega (arith, was.within)) (c.bytes-2.ensures ∙ c.push.ensures) holds (c.write-2.ensures.elsewhere)) (c.write-2.ensures.written reads)

pub returns-clause-crash : goal.returns-clause-crash
returns-clause-crash g c images =
    let was = c.loop-next.invariant in
    let size : length c.bytes-2.result.now ≡ length c.loop-next.piece + 1 = ap length (c.bytes-2.ensures ∙ c.push.ensures)
    ∙ length-append c.loop-next.piece (0 ∷ []) in
    torn_more g c.args.disk.now c.loop-next.disk c.write-2.new.self c.args.at (3 + 69 * length c.args.writes.now.pairs) c.loop-next.place
    (length c.bytes-2.result.now)
    images (was.crash images) (c.write-2.ensures.time images) (c.write-2.ensures.crash images) was.behind (omega (arith, was.ends, was.within, size))

on_ok_always : {T E P : Type 0} (result : Result T E) → P → OnOk result P
on_ok_always (Ok x) p = p
on_ok_always (Err e) p = tt

pub returns-clause-whole : goal.returns-clause-whole
returns-clause-whole g c =
    on_ok_always c.write-2.result (AreWhole-all c.args.writes.now.pairs c.loop-next.next (omega (arith, c.loop-next.invariant.within))
    c.loop-next.invariant.whole)

pub returns-in_err-write-clause-written : goal.returns-in_err-write-clause-written
returns-in_err-write-clause-written g c _ = never_ok c.from_residual.result _ _ c.from_residual.ensures.1

pub returns-in_err-write-clause-whole : goal.returns-in_err-write-clause-whole
returns-in_err-write-clause-whole g c = never_ok c.from_residual.result _ _ c.from_residual.ensures.1
