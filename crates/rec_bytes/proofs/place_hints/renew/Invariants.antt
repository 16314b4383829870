use Rattle.std.proofs.Common.{ℕ, ◌<◌, get_or}
use Rattle.rec_bytes.specs.PairOrder.{no_pair}
use Rattle.rec_bytes.specs.PlaceHints.{IsMarked}
use Rattle.rec_bytes.proofs.place_hints.renew.Given as goal

-- the slots of the pairs so far aren't empty
abbrev pub invariant-loop-place : goal.invariant-loop-place
invariant-loop-place l = (k : ℕ) → k < l.place → IsMarked l.hints.items (get_or l.pairs.items k no_pair).0
