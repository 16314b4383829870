use Rattle.std.proofs.Common.{◌≡◌, ◌+◌, drop}
use Rattle.snap_store.specs.Layers.{total}
use Rattle.snap_store.specs.Snaps.{layers_of}
use Rattle.snap_store.proofs.snaps.Snaps.kept_count.Given as goal

-- the records so far and those of the other layers are all
abbrev pub invariant-loop-layer : goal.invariant-loop-layer
invariant-loop-layer l = l.kept + total (layers_of (drop l.layer-index l.layer-items)) ≡ total l.self.open_ones
