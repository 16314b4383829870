-- Chains of relationships, by the links of one node, and what edits of one leave of others.
use Rattle.std.specs.Prelude.{◌≡◌, ◌≢◌, ◌⊎◌, ℕ, ◌+◌, ◌≤◌, List, [], ◌∷◌}
use Rattle.rec_bytes.specs.declared.key.Key.{Key}
use Rattle.rec_bytes.specs.Format.{nil, record_bytes, relationships_file}
use Rattle.rec_bytes.specs.Record.{field}
use Rattle.store_rules.specs.Chains.{In, IsChain, next_in, place_of, prev_in}
use Rattle.store_rules.specs.Rules.{Head, first_of}
use Rattle.store_rules.specs.Views.{Records, key_in, rec_at}

-- the relationship after one, and the one before it, in a chain of the node
abbrev pub next_of : Records → ℕ → ℕ → ℕ
next_of records node x = next_in (rec_at records relationships_file x) node

abbrev pub prev_of : Records → ℕ → ℕ → ℕ
prev_of records node x = prev_in (rec_at records relationships_file x) node

-- the places of these two links
abbrev pub next_place : Records → ℕ → ℕ → Head
next_place records node x = record {
  key = key_in relationships_file x;
  field = place_of (rec_at records relationships_file x) node + 4;
}

abbrev pub prev_place : Records → ℕ → ℕ → Head
prev_place records node x = record {
  key = key_in relationships_file x;
  field = place_of (rec_at records relationships_file x) node;
}

-- the list is a chain of the node from a relationship on, or from a head on
abbrev pub IsChainFrom : Records → ℕ → ℕ → List ℕ → Type 0
IsChainFrom records node from xs = IsChain (next_of records node) (prev_of records node) nil from xs

abbrev pub IsChainAt : Records → Head → ℕ → List ℕ → Type 0
IsChainAt records head node xs = IsChainFrom records node (first_of records head) xs

-- chains of the two nodes use different links of a relationship
abbrev pub Differ : Records → ℕ → ℕ → ℕ → Type 0
Differ records n m x =
    place_of (rec_at records relationships_file x) n
    ≢ place_of (rec_at records relationships_file x) m

-- so it is for each relationship that is in both lists
abbrev pub ShareNoLink : Records → ℕ → List ℕ → ℕ → List ℕ → Type 0
ShareNoLink records n xs m ys = (x : ℕ) → In x ys → In x xs → Differ records n m x

-- the n bytes of a record from a place on stand apart from each of these numbers
abbrev pub IsApart : Key → ℕ → ℕ → List Head → Type 0
IsApart key n at [] = Unit {0}
IsApart key n at (p ∷ ps) =
    (key ≡ p.key → (at + n ≤ p.field) ⊎ (p.field + 4 ≤ at)) × IsApart key n at ps

-- no number of a record changed but these
pub record ChangeOnly (old new : Records) (places : List Head) : Type 0 where
  pub same : (key : Key) (n at : ℕ) → at + n ≤ record_bytes → IsApart key n at places
      → field n (new key) at ≡ field n (old key) at
