-- Lines of queries: what the places make of a line, and what the productions make of it.
use Rattle.std.proofs.Common.{◌≡◌, ℕ, Option, List, ◌++◌, codes, refl, sym, ap, ◌∙◌, subst}
use Rattle.plain_graph.specs.declared.command.Command.{Command}
use Rattle.plain_graph.specs.declared.command.Command.TheVariants as commands
use Rattle.plain_graph.specs.declared.mutation.Mutation.{Mutation}
use Rattle.plain_graph.specs.declared.query.Query.{Query}
use Rattle.gremlin_parse.specs.Faults.{EndsRun}
use Rattle.gremlin_parse.specs.Grammar.{is_blank}
use Rattle.gremlin_parse.specs.Lines.{AfterG, HasFault, IsKeptTail, Spells}
use Rattle.gremlin_parse.specs.Productions.{IsProduced, IsProducedLine}
use Rattle.gremlin_parse.specs.Symbols.{AnyBlanks, Takes}
use Rattle.gremlin_parse.specs.Tags.{after_tag}
use Rattle.gremlin_parse.specs.declared.line_fault.LineFault.{LineFault}
use Rattle.gremlin_parse.proofs.Leftmost.{no_fault_of}
use Rattle.gremlin_parse.proofs.Lines.{spelled_keeps, spelled_loosely, tail_after}
use Rattle.gremlin_parse.proofs.TokenQueries.{query_produced}
use Rattle.gremlin_parse.proofs.TokenGoes.{produced_spelled}

pub query_line : (line : List ℕ) (query : Query) → Spells line (commands.Query query) → IsProducedLine line (commands.Query query)
query_line line query (blanks, rest, whole, are, (letter, more, cut, is, kept)) =
    (blanks, rest, whole, are, (letter, more, cut, is, query_produced (commands.Query query) more kept))

pub change_line : (line : List ℕ) (reading : Option Query) (mutation : Mutation) → Spells line (commands.Mutate reading mutation)
    → IsProducedLine line (commands.Mutate reading mutation)
change_line line reading mutation (blanks, rest, whole, are, (letter, more, cut, is, kept)) =
    (blanks, rest, whole, are, (letter, more, cut, is, query_produced (commands.Mutate reading mutation) more kept))

kept_tail : (command : Command) (bytes : List ℕ) → AfterG (IsProduced command) bytes → IsKeptTail command bytes
kept_tail (commands.Query query) bytes (letter, more, cut, is, produced) = (letter, more, cut, is, produced_spelled (commands.Query query) more produced)
kept_tail (commands.Mutate reading mutation) bytes (letter, more, cut, is, produced) =
    (letter, more, cut, is, produced_spelled (commands.Mutate reading mutation) more produced)
kept_tail command bytes (letter, more, cut, is, (tokens, none, are)) = absurd none

pub line_spelled : (line : List ℕ) (command : Command) → IsProducedLine line command → Spells line command
line_spelled line command (blanks, rest, whole, are, tail) = (blanks, rest, whole, are, kept_tail command rest tail)

pub no_fault : (line : List ℕ) (command : Command) (fault : LineFault) → IsProducedLine line command → ¬ HasFault line fault
no_fault line command fault (blanks, rest, whole, are, (letter, more, cut, is, produced)) =
    let spelled : Spells line command = line_spelled line command (blanks, rest, whole, are, (letter, more, cut, is, produced)) in
    let start : rest ≡ codes "g" ++ more = cut ∙ ap (λ (l : List ℕ). l ++ more) is in
    let takes : Takes AnyBlanks tt (after_tag line) rest = record {
      prefix = blanks;
      bytes_are = whole;
      is = are;
      ends = subst (EndsRun is_blank) (sym start)
          refl;
    } in
    no_fault_of line (after_tag line) rest command refl takes (tail_after command (after_tag line) rest takes (spelled_loosely line command spelled))
    (spelled_keeps (after_tag line) rest command takes spelled) fault
