use Rattle.std.proofs.Common.{◌≡◌, ◌++◌, drop}
use Rattle.gremlin_parse.specs.Values.{unescaped, unescaped_after}
use Rattle.gremlin_parse.proofs.text.unescape.Given as goal

abbrev pub invariant-loop-byte : goal.invariant-loop-byte
invariant-loop-byte l = l.text.items ++ unescaped_after l.is_escape (drop l.byte-index l.byte-items) ≡ unescaped l.byte-items
