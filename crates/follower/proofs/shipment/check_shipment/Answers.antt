use Rattle.std.proofs.Common.{◌∙◌, ℕ, ◌-◌, ap, subst, arith}
use Rattle.follower.specs.declared.slot.Slot.{Slot}
use Rattle.follower.specs.Shipment.{IsNoShipment, key_at}
use Rattle.follower.specs.Slot.{StopsInRecord}
use Rattle.follower.proofs.Beginnings.{end_bad, has_one_more, head_bad, write_bad}
use Rattle.follower.proofs.shipment.check_shipment.Goals as goal

pub returns-in-Err-clause-bad : goal.returns-in-Err-clause-bad
returns-in-Err-clause-bad c = head_bad c.args.shape c.args.bytes.now c.in-Err.at c.requires (λ k. omega (arith, c.type_inv.bytes k)) c.in-Err.ensures.stops

pub returns-in-Err-check_write-clause-bad : goal.returns-in-Err-check_write-clause-bad
returns-in-Err-check_write-clause-bad c =
    let count = c.in-Ok.ensures.count in
    let few = c.in-Ok.ensures.few in
    let slot : Slot = record { shape = c.args.shape; last = c.loop-index.last; more = c.in-Ok.count - c.loop-index.index - 1 } in
    write_bad c.args.shape c.args.bytes.now c.loop-index.last c.loop-index.index (c.in-Ok.count - c.loop-index.index - 1) c.requires (omega (arith, count, few))
    (omega (arith, count, c.loop-index-test.true)) c.loop-index.invariant
    c.in-Err-check_write.at (subst (λ (place : ℕ). StopsInRecord slot c.args.bytes.now place c.in-Err-check_write.at) c.place_of.ensures
    c.in-Err-check_write.ensures.stops)

pub loop-index-preserved : goal.loop-index-preserved
loop-index-preserved c =
    let count = c.in-Ok.ensures.count in
    let written = c.in-Ok-check_write.ensures in
    has_one_more c.args.shape c.args.bytes.now c.loop-index.last c.loop-index.index (c.in-Ok.count - c.loop-index.index - 1) c.in-Ok-check_write.key
    (omega (arith, count, c.loop-index-test.true))
    (c.in-Ok-check_write.ensures.key ∙ ap (key_at c.args.bytes.now) c.place_of.ensures) c.in-Ok-check_write.ensures.stands
    (omega (arith, c.in-Ok-check_write.ensures.whole, c.place_of.ensures)) c.loop-index.invariant

pub returns-then-bytes-end-clause-bad : goal.returns-then-bytes-end-clause-bad
returns-then-bytes-end-clause-bad c =
    let count = c.in-Ok.ensures.count in
    let few = c.in-Ok.ensures.few in
    subst (IsNoShipment c.args.shape c.args.bytes.now) (omega (arith, c.place_of-end.ensures))
    (end_bad c.args.shape c.args.bytes.now c.loop-index.last c.loop-index.index c.requires (omega (arith, count, few)) (omega (arith, count))
    (omega (arith, c.place_of-end.ensures)) c.loop-index.invariant)
