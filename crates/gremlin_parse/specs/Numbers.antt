-- Numbers in decimal: 0, or digits of which the first is not 0.
use Rattle.std.specs.Prelude.{◌≡◌, ◌≢◌, ◌⊎◌, ℕ, ◌+◌, ◌-◌, ◌*◌, nat_eq, nat_le, Bool, true, false}
use Rattle.std.specs.Prelude.{not, ◌&&◌, List, [], ◌∷◌}
use Rattle.std.specs.List.{prefix_len}

abbrev pub is_digit : ℕ → Bool
is_digit b = nat_le 48 b && nat_le b 57

abbrev pub are_digits : List ℕ → Bool
are_digits [] = true
are_digits (b ∷ bytes) = is_digit b && are_digits bytes

abbrev pub is_number : List ℕ → Bool
is_number [] = false
is_number (b ∷ []) = is_digit b
is_number (b ∷ c ∷ bytes) = is_digit b && (not (nat_eq b 48) && are_digits (c ∷ bytes))

-- the value of the digits, after those of the number n
abbrev pub value_after : ℕ → List ℕ → ℕ
value_after n [] = n
value_after n (b ∷ bytes) = value_after (n * 10 + (b - 48)) bytes

-- the bytes are this number
abbrev pub IsNumber : ℕ → List ℕ → Type 0
IsNumber n bytes = (is_number bytes ≡ true) × (n ≡ value_after 0 bytes)

-- So many bytes at the head are a number; none is one where the count is 0.
abbrev pub CountsNumber : List ℕ → ℕ → Type 0
CountsNumber [] len = len ≡ 0
CountsNumber (b ∷ bytes) len =
    ((b ≡ 48) × (len ≡ 1)) ⊎ ((b ≢ 48) × (len ≡ prefix_len is_digit (b ∷ bytes)))
