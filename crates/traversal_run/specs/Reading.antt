-- A store that is read, and what a read leaves of it.
use Rattle.std.specs.Prelude.{◌≡◌, ℕ, ◌≤◌, List, ◌++◌}
use Rattle.rec_bytes.specs.Space.{SameButReads}
use Rattle.rec_bytes.specs.declared.shape.Shape.{Shape}
use Rattle.rec_bytes.specs.declared.space.Reads.{Ghosts as SpaceGhosts}
use Rattle.store_rules.specs.Graph.{names_of}
use Rattle.store_rules.specs.Indexes.{AreIndexed, wanted_in}
use Rattle.store_rules.specs.Rules.{IsWellFormed}
use Rattle.store_rules.specs.Views.{Records}

-- The records are those of a well-formed store with its indexes, and these are its names, with
-- maybe more after them.
pub record IsNamedStore (records : Records) (shape : Shape) (names : List (List ℕ)) : Type 0 where
  pub store : IsWellFormed records shape
  pub indexes : AreIndexed records (wanted_in records)
  pub more : List (List ℕ)
  pub named : names ≡ names_of records ++ more

-- The space was only read.
pub record IsRead {R : Type 0} (space : SpaceGhosts R) (old new : R) : Type 0 where
  pub same : SameButReads (space.state old) (space.state new)
  pub onward : space.onward old new
  pub later : space.faults old ≤ space.faults new
