use Rattle.std.proofs.Common.{◌≡◌, ◌+◌, ◌-◌, ℕ, drop, length, true}
use Rattle.snap_store.specs.Layers.{is_open}
use Rattle.snap_store.specs.Snaps.{IsPlaceOf, layers_of}
use Rattle.snap_store.proofs.layer.place_of.Given as goal

-- the reader has one of the other layers, and a place among these is one among all
abbrev pub invariant-loop-place : goal.invariant-loop-place
invariant-loop-place l = record {
  places : (i : ℕ) → IsPlaceOf l.reader (layers_of (drop l.place l.layers)) i → IsPlaceOf l.reader (layers_of l.layers) (l.place + i);
  left : is_open l.reader (layers_of (drop l.place l.layers)) ≡ true;
}

abbrev pub decreases-loop-place : goal.decreases-loop-place
decreases-loop-place l = length l.layers - l.place
