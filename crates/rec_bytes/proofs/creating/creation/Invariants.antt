use Rattle.std.proofs.Common.{◌≡◌, drop}
use Rattle.rec_bytes.specs.Creation.{creation_pairs}
use Rattle.rec_bytes.specs.Pairs.{merged}
use Rattle.rec_bytes.proofs.CreationPairs.{meta_pairs}
use Rattle.rec_bytes.proofs.creating.creation.Given as goal

-- the meta records of the files that are left make the rest
abbrev pub invariant-loop-entry : goal.invariant-loop-entry
invariant-loop-entry l = merged l.set.pairs (meta_pairs (drop l.entry-index l.entry-items)) ≡ creation_pairs l.fn.shape
