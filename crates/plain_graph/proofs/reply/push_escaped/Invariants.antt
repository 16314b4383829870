use Rattle.std.proofs.Common.{◌≡◌, ◌≤◌, ◌+◌, ◌*◌, ◌++◌, length, take}
use Rattle.std.specs.List.{flat_map}
use Rattle.plain_graph.specs.Reply.{escaped}
use Rattle.plain_graph.proofs.reply.push_escaped.Given as goal

abbrev pub invariant-loop-byte : goal.invariant-loop-byte
invariant-loop-byte l = record {
  text : l.line ≡ l.initial.line ++ flat_map escaped (take l.byte-index l.text);
  room : length l.line ≤ length l.initial.line + 2 * l.byte-index;
}
