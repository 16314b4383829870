-- What the calls of a source and a sink do to the bytes that they tell.
use Rattle.std.specs.Prelude.{◌≡◌, ℕ, ◌≤◌, List, [], ◌++◌, length, take, Result, Ok, Err}
use Rattle.fault_count.specs.declared.failed.Failed.{Failed}

-- A source gave the first of the bytes that it had left, in front of the buffer, or it gave none
-- and keeps all.
abbrev pub GivesNext : List ℕ → List ℕ → List ℕ → Result ℕ Failed → Type 0
GivesNext old new buffer (Ok n) = (old ≡ take n buffer ++ new) × (n ≡ 0 → old ≡ [])
GivesNext old new buffer (Err e) = new ≡ old

-- new is old with the front of the bytes behind it
abbrev pub TakesFront : List ℕ → List ℕ → List ℕ → Type 0
TakesFront old new bytes = (n : ℕ) × (n ≤ length bytes) × (new ≡ old ++ take n bytes)

-- A sink took all of the bytes, or failed and took a front of them.
abbrev pub Takes : {T : Type 0} → List ℕ → List ℕ → List ℕ → Result T Failed → Type 0
Takes old new bytes (Ok u) = new ≡ old ++ bytes
Takes old new bytes (Err e) = TakesFront old new bytes
