use Rattle.std.proofs.Common.{◌≡◌, ◌++◌, take}
use Rattle.gremlin_parse.proofs.parts.read_sign.Given as goal

abbrev pub invariant-loop-byte : goal.invariant-loop-byte
invariant-loop-byte l = l.bytes ≡ take l.byte-index l.sign ++ l.rest
