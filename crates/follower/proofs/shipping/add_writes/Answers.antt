use Rattle.std.proofs.Common.{◌≡◌, ◌∙◌, ◌<◌, ◌+◌, ◌∷◌, ◌++◌, List, ℕ, ap, arith, drop, length, subst, sym}
use Rattle.std.proofs.lemmas.List.{append_assoc}
use Rattle.std.specs.Prelude.{flat_map}
use Rattle.rec_bytes.specs.Pairs.{Pairs}
use Rattle.rec_bytes.proofs.PairLaws.{next_pair}
use Rattle.redo_log.specs.Appending.{AreWhole, write_bytes}
use Rattle.follower.proofs.shipping.add_writes.Goals as goal

pub loop-i-preserved : goal.loop-i-preserved
loop-i-preserved c =
    let writes = c.args.writes.now.pairs in
    let i = c.loop-i.i in
    let was = c.loop-i.bytes.items in
    let later = flat_map write_bytes (drop (i + 1) writes) in
    let within : i < length writes = omega (arith, c.loop-i-test.true, c.len-i-end.ensures.value) in
    let next : drop i writes ≡ c.at-write.result ∷ drop (i + 1) writes = next_pair writes i c.at-write.result c.at-write.ensures.value within in
    record {
      all = ap (λ (now : List ℕ). now ++ later) c.add_write.ensures.items
          ∙ append_assoc was (write_bytes c.at-write.result) later
          ∙ sym (ap (λ (rest : Pairs). was ++ flat_map write_bytes rest) next)
          ∙ c.loop-i.invariant.all;
      room = omega (arith, c.add_write.ensures.len, c.add_write.ensures.capacity, c.loop-i.invariant.room);
      whole = λ rest. c.loop-i.invariant.whole (subst AreWhole (sym next) (c.at-write.ensures.whole, rest));
    }
