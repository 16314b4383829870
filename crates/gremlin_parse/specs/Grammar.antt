-- Which lines spell which commands. A command is spelled by parts, one after the other.
use Rattle.std.specs.Prelude.{◌≡◌, ◌≢◌, ℕ, ◌≤◌, Bool, true, ◌==◌, ◌||◌, cond, Option, Some, None}
use Rattle.std.specs.Prelude.{List, [], ◌∷◌, ◌++◌, length, codes, flat_map}
use Rattle.std.specs.List.{AllByRecursion}
use Rattle.plain_graph.specs.Names.{IsName}
use Rattle.plain_graph.specs.Forms.{IsKept}
use Rattle.plain_graph.specs.declared.command.Target.{Target}
use Rattle.plain_graph.specs.declared.command.Target.TheVariants as targets
use Rattle.plain_graph.specs.declared.direction.Direction.{Direction}
use Rattle.plain_graph.specs.declared.direction.Direction.TheVariants as directions
use Rattle.plain_graph.specs.declared.pairs.Pair.{Pair}
use Rattle.plain_graph.specs.declared.value.Value.{Value}
use Rattle.gremlin_parse.specs.Numbers.{IsNumber}
use Rattle.gremlin_parse.specs.Values.{IsWritten}
use Rattle.gremlin_parse.specs.declared.bad_token.BadToken.{BadToken}

-- how many bytes a name has at most
abbrev pub most_name_bytes : ℕ
most_name_bytes = 48

-- how many bytes a text has at most
abbrev pub most_text_bytes : ℕ
most_text_bytes = 1024

-- the greatest identifier
abbrev pub most_id : ℕ
most_id = 4294967294

-- the greatest number of results to which a query is cut
abbrev pub most_limit : ℕ
most_limit = 4294967295

-- a space or a tab
abbrev pub is_blank : ℕ → Bool
is_blank b = b == 32 || b == 9

abbrev pub AreBlanks : List ℕ → Type 0
AreBlanks bytes = AllByRecursion (λ b. is_blank b ≡ true) bytes

-- a double quote, or a single one
abbrev pub quote_byte : Bool → ℕ
quote_byte double = cond double 34 39

-- A part of a spelled command: any blanks, one blank or more, a word or a sign of the grammar,
-- a name, a number of at most so much, a number of times, a value, a name and the quote that closes
-- it, or a word with the fault that it has there, if any.
pub data Part : Type 0 where
  Blanks : Part
  Gap : Part
  Exactly : (word : List ℕ) → Part
  Name : (name : List ℕ) → Part
  Number : (most : ℕ) → (number : ℕ) → Part
  Times : (number : ℕ) → Part
  Written : (value : Value) → Part
  Closed : (double : Bool) → (name : List ℕ) → Part
  Called : (word : List ℕ) → (fault : Option BadToken) → Part

abbrev pub IsPart : Part → List ℕ → Type 0
IsPart Blanks bytes = AreBlanks bytes
IsPart Gap bytes = AreBlanks bytes × (bytes ≢ [])
IsPart (Exactly word) bytes = bytes ≡ word
IsPart (Name name) bytes = (bytes ≡ name) × IsName name
IsPart (Number most number) bytes = IsNumber number bytes
IsPart (Times number) bytes = IsNumber number bytes
IsPart (Written value) bytes = IsWritten value bytes
IsPart (Closed double name) bytes = (bytes ≡ name ++ quote_byte double ∷ []) × IsName name
IsPart (Called word fault) bytes = bytes ≡ word

-- the bytes are these parts, one after the other
abbrev pub IsMadeOf : List Part → List ℕ → Type 0
IsMadeOf [] bytes = bytes ≡ []
IsMadeOf (part ∷ parts) bytes =
    (prefix : List ℕ) × (rest : List ℕ) × (bytes ≡ prefix ++ rest) × IsPart part prefix
    × IsMadeOf parts rest

-- a word and nothing else
abbrev pub alone : List ℕ → List Part
alone word = Exactly word ∷ Blanks ∷ []

abbrev pub target_parts : Target → List Part
target_parts (targets.Node id) = Exactly (codes "node") ∷ Gap ∷ Number most_id id ∷ []
target_parts (targets.Edge id) = Exactly (codes "edge") ∷ Gap ∷ Number most_id id ∷ []

-- the word for a direction
abbrev pub direction_name : Direction → List ℕ
direction_name directions.Outgoing = codes "out"
direction_name directions.Incoming = codes "in"
direction_name directions.Both = codes "both"

-- a key and its value, after one blank or more
abbrev pub pair_parts : Pair → List Part
pair_parts pair = Gap ∷ Name pair.key ∷ Exactly (codes "=") ∷ Written pair.value ∷ []

-- pairs, and any blanks
abbrev pub pairs_to_end : List Pair → List Part
pairs_to_end pairs = flat_map pair_parts pairs ++ Blanks ∷ []

-- a name after one blank or more, or none, and any blanks
abbrev pub name_to_end : Option (List ℕ) → List Part
name_to_end None = Blanks ∷ []
name_to_end (Some name) = Gap ∷ Name name ∷ Blanks ∷ []

-- a word, two nodes and a direction
abbrev pub between_parts : List ℕ → ℕ → ℕ → Direction → List Part
between_parts word from to direction =
    Exactly word ∷ Gap ∷ Number most_id from ∷ Gap ∷ Number most_id to ∷ Gap
    ∷ Exactly (direction_name direction) ∷ []

-- The part is within the bounds that are no part of the loose grammar.
abbrev pub IsBounded : Part → Type 0
IsBounded Blanks = Unit {0}
IsBounded Gap = Unit {0}
IsBounded (Exactly word) = Unit {0}
IsBounded (Name name) = length name ≤ most_name_bytes
IsBounded (Number most number) = number ≤ most
IsBounded (Times number) = (1 ≤ number) × (number ≤ 16)
IsBounded (Written value) = IsKept value
IsBounded (Closed double name) = length name ≤ most_name_bytes
IsBounded (Called word fault) = fault ≡ None
