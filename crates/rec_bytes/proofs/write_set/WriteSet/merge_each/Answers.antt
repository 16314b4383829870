use Rattle.std.proofs.Common.{◌+◌, ◌<◌, ap, sym, ◌∙◌, arith, drop, length}
use Rattle.std.proofs.lemmas.List.{drop_all}
use Rattle.rec_bytes.specs.Pairs.{Pairs, find_pair, merged, growth_by}
use Rattle.rec_bytes.proofs.PairLaws.{next_pair, find_merged}
use Rattle.rec_bytes.proofs.write_set.WriteSet.merge_each.Goals as goal

pub put_in_room-requires-clause-room : goal.put_in_room-requires-clause-room
put_in_room-requires-clause-room c =
    let within : c.loop-i.i < length c.args.other.now.pairs = omega (arith, c.len-i-end.ensures.value) in
    let next = ap (growth_by c.loop-i.self.pairs) (next_pair c.args.other.now.pairs c.loop-i.i c.at.result c.at.ensures.value within) in
    omega (arith, next, c.loop-i.invariant.fits)

pub loop-i-preserved : goal.loop-i-preserved
loop-i-preserved c =
    let within : c.loop-i.i < length c.args.other.now.pairs = omega (arith, c.len-i-end.ensures.value) in
    let next = next_pair c.args.other.now.pairs c.loop-i.i c.at.result c.at.ensures.value within in
    let later = drop (c.loop-i.i + 1) c.args.other.now.pairs in
    let grown = ap (growth_by c.loop-i.self.pairs) next in
    let left = ap (λ (p : Pairs). growth_by p later) c.put_in_room.ensures.pairs in
    record {
      all = ap (λ (p : Pairs). merged p later) c.put_in_room.ensures.pairs ∙ sym (ap (merged c.loop-i.self.pairs) next) ∙ c.loop-i.invariant.all;
      fits = omega (arith, grown, left, c.loop-i.invariant.fits, c.put_in_room.ensures.room);
      room = omega (arith, c.loop-i.invariant.room, c.put_in_room.ensures.room, c.put_in_room.ensures.count);
    }

-- the keys of the other set are distinct, so the order of the puts doesn't matter
pub returns-clause-finds : goal.returns-clause-finds
returns-clause-finds c q =
    let none = drop_all c.loop-i.i c.args.other.now.pairs (omega (arith, c.loop-i-test.false, c.len-i-end.ensures.value)) in
    ap (λ (p : Pairs). find_pair p q) (sym (ap (merged c.loop-i.self.pairs) none) ∙ c.loop-i.invariant.all)
    ∙ find_merged c.args.self.now.pairs c.args.other.now.pairs q c.len-i-end.ensures.rising
