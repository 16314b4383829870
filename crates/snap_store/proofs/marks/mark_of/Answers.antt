use Rattle.std.proofs.Common.{refl}
use Rattle.snap_store.specs.Marks.{mark_of}
use Rattle.snap_store.proofs.marks.mark_of.Goals as goal

pub returns : goal.returns
unfolding mark_of
returns c = refl
