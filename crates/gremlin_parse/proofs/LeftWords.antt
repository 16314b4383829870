-- Where reading stops at a word of a table that has no fault there, and what is left after one.
use Rattle.std.proofs.Common.{◌≡◌, ◌≤◌, ◌+◌, ℕ, Option, Some, None, List, [], ◌∷◌, length, refl, sym, ap, ◌∙◌, length-append, arith}
use Rattle.gremlin_parse.specs.Keywords.{Entry, LeavesTable, TakesWord, whole_word}
use Rattle.gremlin_parse.specs.Queries.{body_words}
use Rattle.gremlin_parse.specs.Stopping.{StopsWith}
use Rattle.gremlin_parse.specs.Symbols.{AnyBlanks, Reads, ReadsToken}
use Rattle.gremlin_parse.specs.Turns.{IsBadWord, LeavesWords}
use Rattle.gremlin_parse.specs.declared.bad_token.BadToken.{BadToken}
use Rattle.gremlin_parse.specs.declared.step_word.BodyWord.{BodyWord}
use Rattle.gremlin_parse.specs.declared.stop.Stop.{Stop}
use Rattle.gremlin_parse.specs.declared.stop.Stop.TheVariants as stops
use Rattle.gremlin_parse.proofs.QueryReads.{token_shorter}
use Rattle.gremlin_parse.proofs.Tables.{IsWordTable, whole_word_of}

module _ {Word : Type 0} (table : List (Entry Word)) (fault : Word → List ℕ → Option BadToken) (bytes : List ℕ) where
  -- No word goes on so, and none with a fault stands there.
  pub words_left : ((kind : BadToken) (place : ℕ) → ¬ IsBadWord table fault kind place bytes) → (stop : Stop) → StopsWith (LeavesTable table bytes) stop
      → LeavesWords table fault bytes stop
  words_left none stops.Memory leaves = absurd leaves
  words_left none (stops.Syntax left) leaves = (leaves, none)
  words_left none (stops.Bad kind left) leaves = absurd leaves

  -- The word at the head has a fault.
  pub read_faulty : IsWordTable table → (rest : List ℕ) (word : Word) (kind : BadToken) → TakesWord table bytes word rest → fault word bytes ≡ Some kind
      → IsBadWord table fault kind (length bytes) bytes
  read_faulty is_table rest word kind takes bad = (word, whole_word_of table is_table bytes rest word takes, bad, refl)

  -- No word stands whole at the head.
  pub none_left : whole_word table bytes ≡ None → (stop : Stop) → StopsWith (LeavesTable table bytes) stop → LeavesWords table fault bytes stop
  none_left is = words_left (λ kind place (word, stands, bad, at). let clash : None ≡ Some word = sym is ∙ stands in cc)

  -- The word that stands whole at the head has no fault.
  pub faultless_left : (word : Word) → whole_word table bytes ≡ Some word → fault word bytes ≡ None → (stop : Stop) → StopsWith (LeavesTable table bytes) stop
      → LeavesWords table fault bytes stop
  faultless_left word is none = words_left (λ kind place (other, stands, bad, at).
      let same : Some other ≡ Some word = sym stands ∙ is in
      let one : other ≡ word = cc in
      let clash : None ≡ Some kind = sym none ∙ ap (λ (w : Word). fault w bytes) (sym one) ∙ bad in
      cc)

-- the name of a step of a body, and its parenthesis
pub body_opening_within : (bytes after_name at_open rest : List ℕ) (word : BodyWord) → TakesWord body_words bytes word after_name
    → Reads AnyBlanks tt after_name at_open → ReadsToken (40 ∷ []) at_open rest → length rest ≤ length bytes
body_opening_within bytes after_name at_open rest word (run, cut, is) blanks opening =
    let first : length bytes ≡ length run + length after_name = ap length cut.bytes_are ∙ length-append run after_name in
    let second : length after_name ≡ length blanks.takes.prefix + length at_open = ap length blanks.takes.bytes_are
    ∙ length-append blanks.takes.prefix at_open in
    let third = token_shorter 40 at_open rest opening in
    omega (arith, first, second, third)
