-- A source and a sink in memory.
use Rattle.std.specs.Prelude.{ℕ, List}
use Rattle.std.specs.List.{Contains}
use Rattle.fault_count.specs.Cause.{raised}

-- The bytes that a source has left, the most that it gives in a call, the numbers of the calls that
-- fail, and how many calls and faults there were.
pub record Supply : Type 0 where
  pub rest : List ℕ
  pub piece : ℕ
  pub fails : List ℕ
  pub calls : ℕ
  pub faults : ℕ

-- The bytes that a sink took, how many it has room for, the numbers of the calls that fail, and how
-- many calls and faults there were.
pub record Receipt : Type 0 where
  pub taken : List ℕ
  pub room : ℕ
  pub fails : List ℕ
  pub calls : ℕ
  pub faults : ℕ

-- the next call is one of those that fail; the first call has the number 1
abbrev pub NextFails : List ℕ → ℕ → Type 0
NextFails fails calls = Contains fails (raised calls)
