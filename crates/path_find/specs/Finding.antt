-- Why no answer is given of the walks between two nodes.
use Rattle.std.specs.Prelude.{◌≡◌, ◌⊎◌, ℕ, Bool, true, false, None, Result, Ok, Err}
use Rattle.rec_bytes.specs.Space.{State}
use Rattle.store_rules.specs.Breaking.{Breaks}
use Rattle.node_store.specs.Loading.{row_at}
use Rattle.expand.specs.declared.expand_fault.ExpandFault.{ExpandFault}
use Rattle.expand.specs.declared.expand_fault.ExpandFault.TheVariants.{NoNode, Memory, Disk}
use Rattle.expand.specs.declared.expand_fault.ExpandFault.TheVariants.{Damaged}

-- A record that is said to be damaged breaks the rule that is named, or one of the two nodes has no
-- record.
abbrev pub IsPathFault : State → ℕ → ℕ → ExpandFault → Type 0
IsPathFault s from to (NoNode id) = ((id ≡ from) ⊎ (id ≡ to)) × (row_at s.records id ≡ None)
IsPathFault s from to Memory = Unit {0}
IsPathFault s from to Disk = Unit {0}
IsPathFault s from to (Damaged damage) = Breaks s.records s.shape damage

-- What an answer says of whether the two nodes are there. A failure of the disk says nothing.
abbrev pub TellsEnds : {T : Type 0} → Result T ExpandFault → ℕ → ℕ → Bool → Bool → Type 0
TellsEnds (Ok value) from to there to_there = (there ≡ true) × (to_there ≡ true)
TellsEnds (Err (NoNode id)) from to there to_there =
    ((id ≡ from) × (there ≡ false)) ⊎ ((id ≡ to) × (there ≡ true) × (to_there ≡ false))
TellsEnds (Err Memory) from to there to_there = (there ≡ true) × (to_there ≡ true)
TellsEnds (Err Disk) from to there to_there = Unit {0}
TellsEnds (Err (Damaged damage)) from to there to_there = Unit {0}
