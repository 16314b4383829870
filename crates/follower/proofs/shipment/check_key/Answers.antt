use Rattle.std.proofs.Common.{◌≡◌, ◌∙◌, ℕ, suc, ◌+◌, ◌*◌, ◌^◌, get_or, true, false, ap, inl, inr, refl, arith}
use Rattle.follower.proofs.Slots.{
  begins_key,
  is_next_byte,
  is_power_more,
  key_begins_in,
  low_more,
  whole_stands,
}
use Rattle.follower.proofs.shipment.check_key.Goals as goal

pub returns-then-at-bytes-clause-stops : goal.returns-then-at-bytes-clause-stops
returns-then-at-bytes-clause-stops c =
    let reads = c.loop-known.invariant in
    record {
      known = suc c.loop-known.known;
      few = omega arith;
      from = omega arith;
      all = inl (omega arith);
      within = reads.within;
      short = omega arith;
      begins = begins_key c.args.slot.now c.args.bytes.now c.args.place c.loop-known.known c.loop-known.low c.loop-known.power reads.low_is reads.power_is
          reads.begins;
      stops = inl (omega arith);
    }

pub overflow_mul-low : goal.overflow_mul-low
overflow_mul-low c =
    let next =
    is_next_byte c.args.bytes.now (c.args.place + 1 + c.loop-known.known) c.loop-known.known (suc c.loop-known.known) c.loop-known.power c.loop-known-test.true
    refl c.loop-known.invariant.power_is
    (λ k. omega (arith, c.type_inv.bytes k)) in
    omega (arith, next.small, next.product)

pub overflow_add-low : goal.overflow_add-low
overflow_add-low c =
    let next =
    is_next_byte c.args.bytes.now (c.args.place + 1 + c.loop-known.known) c.loop-known.known (suc c.loop-known.known) c.loop-known.power c.loop-known-test.true
    refl c.loop-known.invariant.power_is
    (λ k. omega (arith, c.type_inv.bytes k)) in
    omega (arith, next.small, next.product)

pub overflow_mul-power : goal.overflow_mul-power
overflow_mul-power c =
    let next =
    is_next_byte c.args.bytes.now (c.args.place + 1 + c.loop-known.known) c.loop-known.known (suc c.loop-known.known) c.loop-known.power c.loop-known-test.true
    refl c.loop-known.invariant.power_is
    (λ k. omega (arith, c.type_inv.bytes k)) in
    omega (arith, next.small)

pub may_begin-requires-in-loop-known-clause-is_power : goal.may_begin-requires-in-loop-known-clause-is_power
may_begin-requires-in-loop-known-clause-is_power c =
    let next =
    is_next_byte c.args.bytes.now (c.args.place + 1 + c.loop-known.known) c.loop-known.known (suc c.loop-known.known) c.loop-known.power c.loop-known-test.true
    refl c.loop-known.invariant.power_is
    (λ k. omega (arith, c.type_inv.bytes k)) in
    is_power_more c.args.bytes.now (c.args.place + 1 + c.loop-known.known) (suc c.loop-known.known) c.loop-known.power (omega arith) next

pub returns-then-not-may_begin-2-clause-stops : goal.returns-then-not-may_begin-2-clause-stops
returns-then-not-may_begin-2-clause-stops c =
    let reads = c.loop-known.invariant in
    let next =
    is_next_byte c.args.bytes.now (c.args.place + 1 + c.loop-known.known) c.loop-known.known (suc c.loop-known.known) c.loop-known.power c.loop-known-test.true
    refl c.loop-known.invariant.power_is
    (λ k. omega (arith, c.type_inv.bytes k)) in
    record {
      known = suc c.loop-known.known;
      few = omega arith;
      from = omega arith;
      all = inl (omega arith);
      within = reads.within;
      short = omega arith;
      begins = begins_key c.args.slot.now c.args.bytes.now c.args.place c.loop-known.known c.loop-known.low c.loop-known.power reads.low_is reads.power_is
          reads.begins;
      stops = inr (
        omega arith,
        omega arith,
        omega arith,
        λ begins.
            let none : false ≡ true =
            c.if-not-may_begin-2.ensures.1
            (key_begins_in c.args.slot.now c.args.bytes.now c.args.place (suc c.loop-known.known) (c.loop-known.low + c.loop-known.power * get_or
            c.args.bytes.now (c.args.place + 1 + c.loop-known.known) 0) (c.loop-known.power * 256)
            (low_more c.args.bytes.now c.args.place c.loop-known.known (suc c.loop-known.known) c.loop-known.low c.loop-known.power refl reads.low_is
            reads.power_is) next.power_is begins) in
            absurd (cc),
      );
    }

pub loop-known-preserved : goal.loop-known-preserved
loop-known-preserved c =
    let reads = c.loop-known.invariant in
    let next =
    is_next_byte c.args.bytes.now (c.args.place + 1 + c.loop-known.known) c.loop-known.known (c.loop-known.known + 1) c.loop-known.power c.loop-known-test.true
    (omega arith) c.loop-known.invariant.power_is
    (λ k. omega (arith, c.type_inv.bytes k)) in
    record {
      low_is = low_more c.args.bytes.now c.args.place c.loop-known.known (c.loop-known.known + 1) c.loop-known.low c.loop-known.power (omega arith) reads.low_is
          reads.power_is;
      power_is = next.power_is;
      below = omega (arith, reads.below, next.product);
      within = omega (arith, reads.within, c.if-at-bytes.false);
      begins = c.if-not-may_begin-2.ensures.0 refl;
    }

pub returns-clause-stands : goal.returns-clause-stands
returns-clause-stands c =
    let all : c.loop-known.known ≡ 4 = omega arith in
    whole_stands c.args.slot.now (get_or c.args.bytes.now c.args.place 0) c.loop-known.low c.loop-known.power c.requires.allowed
    (c.loop-known.invariant.power_is ∙ ap (λ (n : ℕ). 256 ^ n) all) c.loop-known.invariant.begins
