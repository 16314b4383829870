-- Words in tables, each with what it stands for.
use Rattle.std.specs.Prelude.{◌≡◌, ◌⊎◌, ℕ, ◌+◌, ◌-◌, max, nat_eq, cond, Option, Some, None}
use Rattle.std.specs.Prelude.{List, [], ◌∷◌, length, map, take}
use Rattle.std.specs.Borrow.{Bor}
use Rattle.std.specs.Cmp.Lexicographic.{pointwise}
use Rattle.plain_graph.specs.Names.{is_name_byte}
use Rattle.gremlin_parse.specs.Grammar.{Exactly}
use Rattle.gremlin_parse.specs.Reading.{CutsRun, Then}

-- a word and what it stands for
abbrev pub Entry : Type 0 → Type 0
Entry K = List ℕ × K

-- how many bytes the two have in common from the first on
abbrev pub common : List ℕ → List ℕ → ℕ
common [] run = 0
common (b ∷ word) [] = 0
common (b ∷ word) (c ∷ run) = cond (nat_eq c b) (1 + common word run) 0

module _ {K : Type 0} where
  -- a table as contracts see it
  abbrev pub words_of : List (Bor (List ℕ) × K) → List (Entry K)
  words_of table = map (λ (p : Bor (List ℕ) × K). (p.0.now, p.1)) table

  abbrev pub lookup : List (Entry K) → List ℕ → Option K
  lookup [] run = None
  lookup (entry ∷ table) run = cond (pointwise nat_eq entry.0 run) (Some entry.1) (lookup table run)

  abbrev pub InTable : Entry K → List (Entry K) → Type 0
  InTable entry [] = ⊥
  InTable entry (first ∷ table) = (entry ≡ first) ⊎ InTable entry table

  -- the longest prefix of the run that begins a word of the table
  abbrev pub reach : List (Entry K) → List ℕ → ℕ
  reach [] run = 0
  reach (entry ∷ table) run = max (common entry.0 run) (reach table run)

  -- the longest prefix of the bytes that begins a word of the table, where it is a word: no word
  -- goes on with the byte after it
  abbrev pub whole_word : List (Entry K) → List ℕ → Option K
  whole_word table bytes = lookup table (take (reach table bytes) bytes)

  -- The bytes begin with a word of the table, which ends there.
  abbrev pub TakesWord : List (Entry K) → List ℕ → K → List ℕ → Type 0
  TakesWord table bytes kind rest =
      (run : List ℕ) × CutsRun is_name_byte bytes run rest × (lookup table run ≡ Some kind)

  -- The bytes begin with a run of bytes that is no word of the table.
  abbrev pub LeavesTable : List (Entry K) → List ℕ → ℕ → Type 0
  LeavesTable table bytes left =
      (run : List ℕ) × (rest : List ℕ) × CutsRun is_name_byte bytes run rest
      × (lookup table run ≡ None) × (left ≡ length bytes - reach table run)

  -- a word of the table, and after it bytes of its language
  abbrev pub ThenWord : List (Entry K) → (K → List ℕ → Type 0) → List ℕ → Type 0
  ThenWord table After bytes =
      (entry : Entry K) × InTable entry table × Then (Exactly entry.0) (After entry.1) bytes

-- words that stand for nothing but themselves
abbrev pub plain : List (List ℕ) → List (Entry (Unit {0}))
plain words = map (λ word. (word, tt)) words
