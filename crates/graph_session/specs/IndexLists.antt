-- The lines of indexes, in the order of the graph: by label, and then by key.
use Rattle.std.specs.Prelude.{◌≡◌, ◌≤◌, ◌<◌, ◌*◌, ◌+◌, ◌/◌, ◌%◌, ℕ, nat_eq, nat_lt, Bool, true}
use Rattle.std.specs.Prelude.{false, ◌&&◌, ◌||◌, if◌then◌else◌, Option, None, Some, List, map}
use Rattle.std.specs.Prelude.{get_or, []}
use Rattle.std.specs.List.{list_any}
use Rattle.plain_graph.specs.Reply.{index_line}
use Rattle.prop_index.specs.declared.listing.IndexPair.{IndexPair}
use Rattle.store_rules.specs.Rows.{ids}

-- The place of a pair among all pairs of so many numbers, where both of its numbers are among them.
abbrev pub place_of : ℕ → IndexPair → Option ℕ
place_of count pair =
    if nat_lt pair.label count && nat_lt pair.key count
    then Some (pair.label * count + pair.key)
    else None

abbrev pub is_place : Option ℕ → ℕ → Bool
is_place None place = false
is_place (Some own) place = nat_eq own place

-- one of the pairs has the place
abbrev pub is_taken : ℕ → List IndexPair → ℕ → Bool
is_taken count pairs place = list_any (λ pair. is_place (place_of count pair) place) pairs

-- one more place may pass
abbrev pub with_place : (ℕ → Bool) → Option ℕ → ℕ → Bool
with_place test place x = test x || is_place place x

-- The place is the first from another one on that passes the test, or none does.
abbrev pub IsNext : (ℕ → Bool) → ℕ → Option ℕ → Type 0
IsNext test from None = (x : ℕ) → from ≤ x → test x ≡ false
IsNext test from (Some place) =
    (from ≤ place) × (test place ≡ true) × ((x : ℕ) → from ≤ x → x < place → test x ≡ false)

-- the line of a place: an index of its label and its key
abbrev pub place_line : List (List ℕ) → ℕ → ℕ → List ℕ
place_line names count place =
    index_line (get_or names (place / count) []) (get_or names (place % count) [])

-- the lines of the pairs' places below a mark
abbrev pub lines_below : List (List ℕ) → ℕ → List IndexPair → ℕ → List (List ℕ)
lines_below names count pairs mark =
    map (place_line names count) (ids (is_taken count pairs) mark)

-- the lines of all pairs of so many numbers
abbrev pub index_lines : List (List ℕ) → ℕ → List IndexPair → List (List ℕ)
index_lines names count pairs = lines_below names count pairs (count * count)
