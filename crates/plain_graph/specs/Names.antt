-- Names of labels, types and keys.
use Rattle.std.specs.Prelude.{◌≡◌, ◌≤◌, ℕ, Bool, true, ◌==◌, ◌&&◌, ◌||◌, nat_le, List, [], ◌∷◌}
use Rattle.std.specs.Prelude.{length}
use Rattle.std.specs.List.{AllByRecursion}

-- A to Z, a to z or _
abbrev pub is_name_start : ℕ → Bool
is_name_start b = (nat_le 65 b && nat_le b 90) || (nat_le 97 b && nat_le b 122) || b == 95

-- such a byte, or a digit
abbrev pub is_name_byte : ℕ → Bool
is_name_byte b = is_name_start b || (nat_le 48 b && nat_le b 57)

-- a name of any length: no digit first
abbrev pub IsName : List ℕ → Type 0
IsName [] = ⊥
IsName (b ∷ bytes) = (is_name_start b ≡ true) × AllByRecursion (λ c. is_name_byte c ≡ true) bytes

-- a name that a store may have: at most 48 bytes
abbrev pub IsShortName : List ℕ → Type 0
IsShortName name = IsName name × (length name ≤ 48)
