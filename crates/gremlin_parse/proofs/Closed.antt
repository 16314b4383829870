-- A name and the quote that closes it, from the name and from the quote.
use Rattle.std.proofs.Common.{◌≡◌, inr, ℕ, Bool, Some, refl, List, [], ◌∷◌, ◌++◌, length, sym, ap, ◌∙◌, append_assoc}
use Rattle.plain_graph.specs.Names.{IsName}
use Rattle.gremlin_parse.specs.Grammar.{quote_byte}
use Rattle.gremlin_parse.specs.Reading.{first_byte}
use Rattle.gremlin_parse.specs.Symbols.{AnyName, AnyClosed, Sign, Takes, Reads, Leaves}
use Rattle.gremlin_parse.specs.declared.stop.Stop.{Stop}
use Rattle.gremlin_parse.specs.declared.stop.Stop.TheVariants as stops

one_byte : (b : ℕ) (read : List ℕ) (next : ℕ) (more : List ℕ) → b ∷ [] ≡ read ++ next ∷ more → (read ≡ []) × (next ≡ b)
one_byte b [] next more is = let same : next ≡ b = cc in (refl, same)
one_byte b (r ∷ []) next more is = cc
one_byte b (r ∷ s ∷ read) next more is = cc

named : (name bytes rest : List ℕ) → (takes : Takes AnyName name bytes rest) → (bytes ≡ name ++ rest) × IsName name
named name bytes rest takes = (takes.bytes_are ∙ ap (λ p. p ++ rest) takes.is.0, takes.is.1)

pub closed_takes : (double : Bool) (name bytes at_quote rest : List ℕ) → Takes AnyName name bytes at_quote
    → Reads (Sign (quote_byte double ∷ [])) tt at_quote rest → Takes (AnyClosed double) name bytes rest
closed_takes double name bytes at_quote rest takes sign =
    let two = named name bytes at_quote takes in
    let quote : at_quote ≡ quote_byte double ∷ rest = sign.takes.bytes_are ∙ ap (λ p. p ++ rest) sign.takes.is in
    record {
      prefix = name ++ quote_byte double ∷ [];
      bytes_are = two.0 ∙ ap (λ r. name ++ r) quote ∙ sym (append_assoc name (quote_byte double ∷ []) rest);
      is = (refl, two.1);
      ends = tt;
    }

pub leaves_closed : (double : Bool) (name bytes at_quote : List ℕ) (stop : Stop) → Takes AnyName name bytes at_quote
    → Leaves (Sign (quote_byte double ∷ [])) at_quote stop → Leaves (AnyClosed double) bytes stop
leaves_closed double name bytes at_quote stops.Memory takes leaves = absurd leaves
leaves_closed double name bytes at_quote (stops.Syntax left) takes leaves =
    let two = named name bytes at_quote takes in
    let one = one_byte (quote_byte double) leaves.read leaves.next leaves.more leaves.word_is in
    let same : at_quote ≡ leaves.unread = leaves.bytes_are ∙ ap (λ r. r ++ leaves.unread) one.0 in
    inr (
      name,
      at_quote,
      two.0,
      two.1,
      takes.ends,
      λ first. leaves.differs (sym (ap first_byte same) ∙ first ∙ ap (λ b. Some b) (sym one.1)),
      leaves.left_is
          ∙ ap length (sym same),
    )
leaves_closed double name bytes at_quote (stops.Bad kind left) takes leaves = absurd leaves.1
