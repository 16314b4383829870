-- Which session a line names, and what stands after that.
use Rattle.std.specs.Prelude.{◌≡◌, ◌⊎◌, ℕ, ◌-◌, Bool, true, ◌&&◌, nat_le, ◌==◌}
use Rattle.std.specs.Prelude.{if◌then◌else◌, Option, Some, None, List, [], ◌∷◌, ◌++◌, length}
use Rattle.std.specs.Prelude.{unwrap_or}
use Rattle.gremlin_parse.specs.Grammar.{AreBlanks, is_blank}
use Rattle.gremlin_parse.specs.Faults.{EndsRun}

-- the sign before a session
abbrev pub is_at : ℕ → Bool
is_at b = b == 64

-- the digit of a session, from 0 to 7
abbrev pub is_session : ℕ → Bool
is_session b = nat_le 48 b && nat_le b 55

-- The session whose digit stands first, before a blank, and the bytes after that blank.
abbrev pub session_first : List ℕ → Option (ℕ × List ℕ)
session_first [] = None
session_first (digit ∷ []) = None
session_first (digit ∷ blank ∷ rest) =
    if is_session digit && is_blank blank then Some (digit - 48, rest) else None

-- the same after `@`
abbrev pub tag_first : List ℕ → Option (ℕ × List ℕ)
tag_first [] = None
tag_first (b ∷ bytes) = if is_at b then session_first bytes else None

-- the same after any blanks
abbrev pub tag_in : List ℕ → Option (ℕ × List ℕ)
tag_in [] = None
tag_in (b ∷ bytes) = if is_blank b then tag_in bytes else tag_first (b ∷ bytes)

abbrev pub named_by : Option (ℕ × List ℕ) → Option ℕ
named_by None = None
named_by (Some tag) = Some tag.0

-- the session that the line names
abbrev pub session_named : List ℕ → Option ℕ
session_named line = named_by (tag_in line)

-- the session of the line: the one that it names, or the first one
abbrev pub session_of : List ℕ → ℕ
session_of line = unwrap_or (session_named line) 0

abbrev pub rest_by : List ℕ → Option (ℕ × List ℕ) → List ℕ
rest_by line None = line
rest_by line (Some tag) = tag.1

-- the line without what names its session
abbrev pub after_tag : List ℕ → List ℕ
after_tag line = rest_by line (tag_in line)

-- ---- what is read of it

-- any blanks, `@`, the digit of this session and a blank
pub record IsTag (front : List ℕ) (session : ℕ) : Type 0 where
  pub blanks : List ℕ
  pub digit : ℕ
  pub blank : ℕ
  pub front_is : front ≡ blanks ++ 64 ∷ digit ∷ blank ∷ []
  pub are_blanks : AreBlanks blanks
  pub is_digit : is_session digit ≡ true
  pub ends : is_blank blank ≡ true
  pub session_is : session ≡ digit - 48

-- no `@` stands after the blanks of the line
pub record IsUntagged (line : List ℕ) : Type 0 where
  pub blanks : List ℕ
  pub bytes : List ℕ
  pub line_is : line ≡ blanks ++ bytes
  pub are_blanks : AreBlanks blanks
  pub starts : EndsRun is_blank bytes
  pub plain : EndsRun is_at bytes

-- The line names the session, and these bytes stand after that; or no session, and these are all.
abbrev pub ReadsTag : List ℕ → Option ℕ → List ℕ → Type 0
ReadsTag line None rest = IsUntagged line × (rest ≡ line)
ReadsTag line (Some session) rest =
    (front : List ℕ) × (line ≡ front ++ rest) × IsTag front session

-- The digit of this session and a blank stand first, before these bytes.
abbrev pub ReadsSession : List ℕ → ℕ → List ℕ → Type 0
ReadsSession bytes session rest =
    (digit : ℕ) × (blank : ℕ) × (bytes ≡ digit ∷ blank ∷ rest) × (is_session digit ≡ true)
    × (is_blank blank ≡ true) × (session ≡ digit - 48)

-- No digit of a session stands first, or one does and no blank after it. So many bytes are left
-- from there.
abbrev pub LeavesSession : List ℕ → ℕ → Type 0
LeavesSession bytes left =
    (EndsRun is_session bytes × (left ≡ length bytes))
    ⊎ ((digit : ℕ) × (after : List ℕ) × (bytes ≡ digit ∷ after) × (is_session digit ≡ true)
    × EndsRun is_blank after × (left ≡ length after))

-- After blanks and `@` no session and blank stand. So many bytes are left from there.
pub record LeavesTag (line : List ℕ) (left : ℕ) : Type 0 where
  pub blanks : List ℕ
  pub bytes : List ℕ
  pub line_is : line ≡ blanks ++ 64 ∷ bytes
  pub are_blanks : AreBlanks blanks
  pub leaves : LeavesSession bytes left
