-- The hash of a value, and the bucket of an index that it leads to.
use Rattle.std.specs.Prelude.{ℕ, ◌+◌, ◌*◌, ◌/◌, ◌%◌, ◌^◌, if◌then◌else◌, List, [], ◌∷◌}
use Rattle.std.specs.Int.{cast_unsigned, to_le_bytes}
use mir.Syntax.{w64}
use Rattle.plain_graph.specs.declared.value.Value.{Value}
use Rattle.plain_graph.specs.declared.value.Value.TheVariants as values

-- the hash with one byte more
abbrev pub hash_with : ℕ → ℕ → ℕ
hash_with hash byte = (hash + byte + 1) * 6364136223846793005 % 2 ^ 64

unfoldable pub hash_from : ℕ → List ℕ → ℕ
hash_from hash [] = hash
hash_from hash (byte ∷ later) = hash_from (hash_with hash byte) later

-- the bytes that are hashed: the type, and then the value
abbrev pub hashed_bytes : Value → List ℕ
hashed_bytes (values.Int number) = 1 ∷ to_le_bytes w64 (cast_unsigned w64 number)
hashed_bytes (values.Bool truth) = 2 ∷ (if truth then 1 else 0) ∷ []
hashed_bytes (values.Text text) = 3 ∷ text

abbrev pub hash_of : Value → ℕ
hash_of value = hash_from 0 (hashed_bytes value)

-- each index has 180 buckets
abbrev pub bucket_of : ℕ → ℕ
bucket_of hash = hash / 2 ^ 33 % 180
