-- The groups of a node, as a list that follows their links.
use Rattle.std.specs.Prelude.{◌≡◌, ◌≢◌, ℕ, nat_eq, Bool, true, ◌&&◌, if◌then◌else◌, List, [], ◌∷◌}
use Rattle.rec_bytes.specs.declared.record.Rec.{Rec}
use Rattle.rec_bytes.specs.Format as format
use Rattle.rec_bytes.specs.Record.{field}
use Rattle.store_rules.specs.Breaking.{IsOwnedBy}
use Rattle.store_rules.specs.Chains.{In, IsChain, IsWalk}
use Rattle.store_rules.specs.Views.{Records, first_link, is_group_kind, kind_at, rec_at}

-- a number of a group's record
abbrev pub group_field : Records → ℕ → ℕ → ℕ
group_field records at g = field 4 (rec_at records format.groups_file g) at

-- the group after one, and the one before it
abbrev pub next_group : Records → ℕ → ℕ
next_group records g = group_field records format.group_next g

abbrev pub previous_group : Records → ℕ → ℕ
previous_group records g = group_field records format.group_previous g

abbrev pub type_of : Records → ℕ → ℕ
type_of records g = group_field records format.group_type g

-- the node is in use, and its first link is to a group
abbrev pub IsDense : Records → ℕ → Type 0
IsDense records node = kind_at records format.nodes_file node ≡ format.dense

-- a group in use that the node owns
pub record IsGroupOf (records : Records) (node g : ℕ) : Type 0 where
  pub kind : is_group_kind (kind_at records format.groups_file g) ≡ true
  pub owner : group_field records format.group_owner g ≡ node

-- the record says so, by its kind and its owner
abbrev pub is_group_of : Rec → ℕ → Bool
is_group_of rec node =
    is_group_kind (field 1 rec format.kind)
    && nat_eq (field 4 rec format.group_owner) node

-- these are met from one on, and each is a group of the node
pub record IsGroupList (records : Records) (node first : ℕ) (xs : List ℕ) : Type 0 where
  pub walk : IsWalk (next_group records) first xs
  pub only : (g : ℕ) → In g xs → IsGroupOf records node g

-- these are met from one on, and the node owns each
pub record IsOwnedList (records : Records) (node first : ℕ) (xs : List ℕ) : Type 0 where
  pub walk : IsWalk (next_group records) first xs
  pub only : (g : ℕ) → In g xs → IsOwnedBy records node g

-- The chain of the node has just its groups, linked in both directions, each with a type of its
-- own. It is right by the fourth rule, but groups in it may be empty.
pub record IsGroupChain (records : Records) (node : ℕ) (xs : List ℕ) : Type 0 where
  pub chain : IsChain (next_group records) (previous_group records) format.nil
      (first_link records node) xs
  pub only : (g : ℕ) → In g xs → IsGroupOf records node g
  pub all : (g : ℕ) → IsGroupOf records node g → In g xs
  pub once : (g k : ℕ) → In g xs → In k xs → type_of records g ≡ type_of records k → g ≡ k

-- none of these has the type
abbrev pub LacksType : Records → ℕ → List ℕ → Type 0
LacksType records label xs = (g : ℕ) → In g xs → type_of records g ≢ label

-- the node has no group of the type
abbrev pub LacksGroup : Records → ℕ → ℕ → Type 0
LacksGroup records node label = (g : ℕ) → IsGroupOf records node g → type_of records g ≢ label

-- those up to the first of the type, and all where none has it
abbrev pub up_to_type : Records → ℕ → List ℕ → List ℕ
up_to_type records label [] = []
up_to_type records label (g ∷ gs) =
    g ∷ (if nat_eq (type_of records g) label then [] else up_to_type records label gs)
