-- Lists of identifiers that follow links.
use Rattle.std.specs.Prelude.{◌≡◌, ◌≢◌, ◌⊎◌, ℕ, ◌+◌, nat_eq, if◌then◌else◌, List, [], ◌∷◌}
use Rattle.rec_bytes.specs.Format.{nil, relationship_source, relationship_source_previous}
use Rattle.rec_bytes.specs.Format.{relationship_target_previous}
use Rattle.rec_bytes.specs.Record.{field}
use Rattle.rec_bytes.specs.declared.record.Rec.{Rec}

abbrev pub In : ℕ → List ℕ → Type 0
In x [] = ⊥
In x (y ∷ ys) = (x ≡ y) ⊎ In x ys

-- the links lead from one identifier through just these, and end
abbrev pub IsWalk : (ℕ → ℕ) → ℕ → List ℕ → Type 0
IsWalk next from [] = from ≡ nil
IsWalk next from (x ∷ xs) = (from ≡ x) × (x ≢ nil) × IsWalk next (next x) xs

-- besides, the other link of each names the one before it
abbrev pub IsChain : (ℕ → ℕ) → (ℕ → ℕ) → ℕ → ℕ → List ℕ → Type 0
IsChain next prev before from [] = from ≡ nil
IsChain next prev before from (x ∷ xs) =
    (from ≡ x) × (x ≢ nil) × (prev x ≡ before) × IsChain next prev x (next x) xs

-- the list without the first that equals x
abbrev pub without : ℕ → List ℕ → List ℕ
without x [] = []
without x (y ∷ ys) = if nat_eq x y then ys else y ∷ without x ys

-- The place of the two links that a chain of the node uses in a relationship: those of its source
-- where the node is the source, else those of its target. The next link stands after the previous
-- one.
abbrev pub place_of : Rec → ℕ → ℕ
place_of r node =
    if nat_eq (field 4 r relationship_source) node then relationship_source_previous
    else relationship_target_previous

abbrev pub prev_in : Rec → ℕ → ℕ
prev_in r node = field 4 r (place_of r node)

abbrev pub next_in : Rec → ℕ → ℕ
next_in r node = field 4 r (place_of r node + 4)
