-- Kinds of bytes that stand in a row.
use Rattle.std.specs.Prelude.{ℕ, Bool}
use Rattle.plain_graph.specs.Names.{is_name_byte}
use Rattle.gremlin_parse.specs.Grammar.{is_blank}
use Rattle.gremlin_parse.specs.Numbers.{is_digit}
use Rattle.gremlin_parse.specs.declared.byte_kind.ByteKind.{ByteKind}
use Rattle.gremlin_parse.specs.declared.byte_kind.ByteKind.TheVariants as kinds

-- the byte is of the kind
abbrev pub is_of : ByteKind → ℕ → Bool
is_of kinds.Blank = is_blank
is_of kinds.Digit = is_digit
is_of kinds.Name = is_name_byte
