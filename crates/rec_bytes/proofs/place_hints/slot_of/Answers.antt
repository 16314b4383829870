use Rattle.std.proofs.Common.{refl}
use Rattle.rec_bytes.specs.PlaceHints.{slot_of}
use Rattle.rec_bytes.proofs.HintLaws.{slot_below}
use Rattle.rec_bytes.proofs.place_hints.slot_of.Goals as goal

pub returns : goal.returns
unfolding slot_of
returns c = record { value = refl; bound = slot_below c.args.slots c.args.key c.requires }
