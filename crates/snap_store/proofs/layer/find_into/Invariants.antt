use Rattle.std.proofs.Common.{◌≡◌, drop}
use Rattle.snap_store.specs.Layers.{kept_at}
use Rattle.snap_store.specs.Snaps.{layers_of}
use Rattle.snap_store.proofs.layer.find_into.Given as goal

-- the layers so far don't have the key
abbrev pub invariant-loop-layer : goal.invariant-loop-layer
invariant-loop-layer l = record {
  others : kept_at (layers_of (drop l.layer-index l.layers)) l.key ≡ kept_at (layers_of l.layers) l.key;
  rec : l.rec ≡ l.fn.rec;
}
