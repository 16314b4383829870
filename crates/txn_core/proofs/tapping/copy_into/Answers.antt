use Rattle.std.proofs.Common.{◌≡◌, ◌∙◌, ◌<◌, ◌+◌, ◌∷◌, ap, arith, drop, length, subst, sym}
use Rattle.rec_bytes.specs.Pairs.{Pairs, merged}
use Rattle.rec_bytes.proofs.PairLaws.{growth_le, next_pair}
use Rattle.redo_log.specs.Appending.{AreWhole}
use Rattle.txn_core.proofs.Shipped.{merged-none}
use Rattle.txn_core.proofs.tapping.copy_into.Goals as goal

pub loop-i-init : goal.loop-i-init
loop-i-init c =
    let writes = c.args.writes.now.pairs in
    record {
      all = ap (λ (ps : Pairs). merged ps writes) c.requires.empty ∙ merged-none writes c.len-i-end.ensures.rising;
      room = omega (arith, c.requires.room);
      whole = λ whole. whole;
    }

pub loop-i-preserved : goal.loop-i-preserved
loop-i-preserved c =
    let writes = c.args.writes.now.pairs in
    let i = c.loop-i.i in
    let copy = c.loop-i.copy.pairs in
    let within : i < length writes = omega (arith, c.loop-i-test.true, c.len-i-end.ensures.value) in
    let next : drop i writes ≡ c.at.result ∷ drop (i + 1) writes = next_pair writes i c.at.result c.at.ensures.value within in
    record {
      all = ap (λ (ps : Pairs). merged ps (drop (i + 1) writes)) c.put_reserved.ensures.pairs ∙ sym (ap (λ (rest : Pairs). merged copy rest) next)
          ∙ c.loop-i.invariant.all;
      room = omega (arith, c.put_reserved.ensures.room, growth_le copy c.at.result.0, c.loop-i.invariant.room);
      whole = λ rest. c.loop-i.invariant.whole (subst AreWhole (sym next) (c.at.ensures.whole, rest));
    }
