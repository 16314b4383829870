-- Lists of identifiers.
use Rattle.std.specs.Prelude.{ℕ, ◌<◌, List}
use Rattle.rec_bytes.specs.Format.{most_ids}
use Rattle.store_rules.specs.Chains.{In}

-- each is below the mark
abbrev pub AreBelow : ℕ → List ℕ → Type 0
AreBelow mark ids = (x : ℕ) → In x ids → x < mark

-- a store can have records of them
abbrev pub AreSmall : List ℕ → Type 0
AreSmall ids = AreBelow most_ids ids
