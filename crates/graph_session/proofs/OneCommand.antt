-- A line spells one command.
use Rattle.std.proofs.Common.{◌≡◌, ℕ, List, drop, take, refl}
use Rattle.std.specs.List.{prefix_len}
use Rattle.stream_io.specs.Lines.{InputLine, Long, Whole}
use Rattle.plain_graph.specs.declared.command.Command.{Command}
use Rattle.gremlin_parse.specs.Grammar.{is_blank}
use Rattle.gremlin_parse.specs.Lines.{Spells}
use Rattle.gremlin_parse.specs.Symbols.{AnyBlanks, Takes}
use Rattle.gremlin_parse.specs.Tags.{after_tag}
use Rattle.gremlin_parse.proofs.Leftmost.{only_command}
use Rattle.gremlin_parse.proofs.Lines.{spelled_loosely, tail_after}
use Rattle.gremlin_parse.proofs.Runs.{cut_run}
use Rattle.graph_session.specs.State.{SpellsLine}

spells_agree : (line : List ℕ) (one two : Command) → Spells line one → Spells line two → two ≡ one
spells_agree line one two first second =
    let rest : List ℕ = after_tag line in
    let count : ℕ = prefix_len is_blank rest in
    let cut = cut_run is_blank rest in
    let takes : Takes AnyBlanks tt rest (drop count rest) = record { prefix = take count rest; bytes_are = cut.bytes_are; is = cut.passes; ends = cut.ends } in
    only_command line rest (drop count rest) one refl takes (tail_after one rest (drop count rest) takes (spelled_loosely line one first)) two second

pub line_agrees : (line : InputLine) (one two : Command) → SpellsLine line one → SpellsLine line two → two ≡ one
line_agrees (Whole bytes) one two first second = spells_agree bytes one two first second
line_agrees Long one two first second = absurd first
