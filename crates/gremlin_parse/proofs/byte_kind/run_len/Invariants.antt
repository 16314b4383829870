use Rattle.std.proofs.Common.{◌≡◌, ◌+◌, drop}
use Rattle.std.specs.List.{prefix_len}
use Rattle.gremlin_parse.specs.ByteKinds.{is_of}
use Rattle.gremlin_parse.proofs.byte_kind.run_len.Given as goal

abbrev pub invariant-loop-byte : goal.invariant-loop-byte
invariant-loop-byte l = record {
  at : l.len ≡ l.byte-index;
  count : l.len + prefix_len (is_of l.kind) (drop l.byte-index l.bytes) ≡ prefix_len (is_of l.kind) l.bytes;
}
