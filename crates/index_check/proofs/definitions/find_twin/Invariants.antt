use Rattle.std.proofs.Common.{◌≡◌, drop}
use Rattle.index_check.specs.Definitions.{twin_in}
use Rattle.index_check.proofs.definitions.find_twin.Given as goal

abbrev pub invariant-loop-definition : goal.invariant-loop-definition
invariant-loop-definition l = twin_in l.definitions (drop l.definition-index l.definitions) ≡ twin_in l.definitions l.definitions
