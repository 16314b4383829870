-- A relationship that comes into a group of its node, and what is written beside it.
use Rattle.std.specs.Prelude.{◌≡◌, ◌⊎◌, ℕ, ◌+◌, ◌≤◌, List, [], ◌∷◌, Some}
use Rattle.id_freelist.specs.Taking.{rest_of}
use Rattle.node_store.specs.NodeRecord.{node_key}
use Rattle.rec_bytes.specs.declared.key.Key.{Key}
use Rattle.rec_bytes.specs.Format as format
use Rattle.rec_bytes.specs.RecordFiles.{meta_key_of}
use Rattle.rec_bytes.specs.Space.{SameButReads, State, meta_of}
use Rattle.rel_store.specs.RelRecord.{rel_key}
use Rattle.store_rules.specs.Chains.{In}
use Rattle.store_rules.specs.Rules.{IsEnd}
use Rattle.store_rules.specs.Views.{Records, RelRow, first_link, high, kind_at, rel_at}
use Rattle.group_store.specs.GroupChain.{IsGroupOf, LacksType, type_of}
use Rattle.group_store.specs.GroupRecord.{group_key}
use Rattle.group_store.specs.Leaving.{LeavesApart}
use Rattle.group_store.specs.Making.{HasMade}
use Rattle.group_store.specs.Spreading.{CanTakeEach, IsSpreading}
use Rattle.group_store.specs.declared.making.OwnGroup.{OwnGroup}
use Rattle.group_store.specs.declared.moved.Turn.{Turn}

-- The node has at most this one more group than before, and the other was one of its groups, or is
-- none.
pub record GrowsBy (s t : State) (node made old : ℕ) : Type 0 where
  pub groups : (g : ℕ) → IsGroupOf t.records node g → (g ≡ made) ⊎ IsGroupOf s.records node g
  pub first : (old ≡ format.nil) ⊎ IsGroupOf s.records node old

-- a relationship at the node that isn't one of these
pub record HasCome (records : Records) (node : ℕ) (rest : List ℕ) (x : ℕ) : Type 0 where
  pub row : RelRow
  pub live : rel_at records x ≡ Some row
  pub end : IsEnd node row
  pub apart : ¬ In x rest

-- The turn leaves the node with at most its group more, and what it wrote beside was the node's:
-- a group, and a relationship that isn't one of these.
pub record IsOwnTurn (s t : State) (node : ℕ) (rest : List ℕ) (turn : Turn) : Type 0 where
  pub grows : GrowsBy s t node turn.group turn.before
  pub first : (turn.first ≡ format.nil) ⊎ HasCome s.records node rest turn.first

-- The node has these groups, and found the one of the type among them.
pub record HasFound (s t : State) (label : ℕ) (groups : List ℕ) (own : OwnGroup) : Type 0 where
  pub same : SameButReads s t
  pub member : In own.row.id groups
  pub typed : type_of s.records own.row.id ≡ label
  pub before : own.first ≡ format.nil

-- None of them had the type, and the group was made in front of them of the first free identifier.
pub record HasAdded (s t : State) (node label : ℕ) (groups free : List ℕ) (own : OwnGroup)
    : Type 0 where
  pub lacks : LacksType s.records label groups
  pub made : HasMade s.records t.records node label own.row free groups
  pub take : CanTakeEach t (rest_of free)
  pub before : own.first ≡ first_link s.records node
  pub shape : t.shape ≡ s.shape

-- The relationship came into a group, the rest is left, and what was written beside it came there
-- before. At most one group was made, of an identifier that wasn't in use.
pub record ComesIn (s t : State) (node rel : ℕ) (came rest groups : List ℕ) (turn : Turn)
    : Type 0 where
  pub groups_now : List ℕ
  pub free_now : List ℕ
  pub spreading : IsSpreading t node turn.next (rel ∷ came) rest groups_now free_now
  pub grows : (g : ℕ) → In g groups_now → (g ≡ turn.group) ⊎ In g groups
  pub stay : (g : ℕ) → In g groups → In g groups_now
  pub fresh : (g : ℕ) → In g groups_now
      → In g groups
      ⊎ ((¬ In g groups) × (kind_at s.records format.groups_file g ≡ format.free_kind))
  pub mark : high s.records format.groups_file ≤ high t.records format.groups_file
  pub leaves : LeavesApart s.records t.records node (rel ∷ came) groups_now
  pub before : (turn.before ≡ format.nil) ⊎ In turn.before groups
  pub first : (turn.first ≡ format.nil) ⊎ In turn.first came
  pub live : (meta_of t format.groups_file).live ≤ (meta_of s format.groups_file).live + 1
  pub shape : t.shape ≡ s.shape

-- the keys of what a turn writes
abbrev pub turn_keys : ℕ → ℕ → Turn → List Key
turn_keys node rel turn =
    rel_key rel ∷ rel_key turn.first ∷ group_key turn.group ∷ group_key turn.before
    ∷ node_key node ∷ meta_key_of format.groups_file ∷ []
