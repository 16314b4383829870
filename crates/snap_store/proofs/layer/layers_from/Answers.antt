use Rattle.std.proofs.Common.{ap, ◌∙◌}
use Rattle.snap_store.specs.Snaps.{layers_of}
use Rattle.snap_store.proofs.HeldLaws.{from_place, place_within}
use Rattle.snap_store.proofs.layer.layers_from.Goals as goal

pub from_place-requires : goal.from_place-requires
from_place-requires c = place_within c.args.reader c.args.layers.now c.place_of.result c.place_of.ensures

pub returns : goal.returns
returns c = ap layers_of c.from_place.ensures ∙ from_place c.args.reader c.args.layers.now c.place_of.result c.place_of.ensures
