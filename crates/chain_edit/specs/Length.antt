-- What a count of a chain finds.
use Rattle.std.specs.Prelude.{◌≡◌, ℕ, ◌<◌, ◌&&◌, Bool, true, false, nat_eq, not, List, length}
use Rattle.rec_bytes.specs.declared.damage.Damage.{Damage}
use Rattle.rec_bytes.specs.declared.fault.Fault.{Fault}
use Rattle.rec_bytes.specs.declared.fault.Fault.TheVariants.{Memory, Disk, Damaged}
use Rattle.rec_bytes.specs.declared.key.Key.{Key}
use Rattle.rec_bytes.specs.declared.record.Rec.{Rec}
use Rattle.rec_bytes.specs.Format as format
use Rattle.rec_bytes.specs.Key.{IsKey}
use Rattle.rec_bytes.specs.Record.{field}
use Rattle.rec_bytes.specs.Space.{State}
use Rattle.rel_store.specs.Loading.{mark_damage, rel_mark, rel_room}
use Rattle.rel_store.specs.RelRecord.{rel_key}
use Rattle.store_rules.specs.Chains.{In, IsWalk}
use Rattle.store_rules.specs.Rules.{passes}
use Rattle.store_rules.specs.Views.{Records, RelRow, rel_at}
use Rattle.chain_edit.specs.Chains.{IsChainFrom, prev_of}
use Rattle.chain_edit.specs.Walking.{IsSoundWalk, chain_damage}
use Rattle.chain_edit.specs.declared.members.Members.{Members}

-- an answer is the one that is wanted
abbrev pub agrees : Bool → Bool → Bool
agrees true is = is
agrees false is = not is

-- the relationship has the type, and leaves and enters the node as it is wanted
abbrev pub is_member : ℕ → Members → RelRow → Bool
is_member node members row =
    nat_eq row.label members.label
    && (agrees members.leaves (nat_eq row.from node) && agrees members.enters (nat_eq row.to node))

-- the record says so, of a relationship in use
abbrev pub is_member_in : Rec → ℕ → Members → Bool
is_member_in r node members =
    not (nat_eq (field 1 r format.kind) format.free_kind)
    && (nat_eq (field 4 r format.relationship_type) members.label
    && (agrees members.leaves (nat_eq (field 4 r format.relationship_source) node)
    && agrees members.enters (nat_eq (field 4 r format.relationship_target) node)))

-- a relationship in use that is one of these
abbrev pub stands : Records → ℕ → Members → ℕ → Bool
stands records node members x = passes (is_member node members) (rel_at records x)

-- The chain from a relationship on is these, each of which was given out and stands there.
pub record IsMemberChain (s : State) (first node : ℕ) (members : Members) (xs : List ℕ)
    : Type 0 where
  pub chain : IsChainFrom s.records node first xs
  pub low : (x : ℕ) → In x xs → x < rel_mark s
  pub are : (x : ℕ) → In x xs → stands s.records node members x ≡ true

-- So many relationships were counted, which lead back from the last one to none. Each was given out
-- and stands there. If they are fewer than the budget, the chain has no others.
pub record HasCounted (s : State) (first node : ℕ) (members : Members) (budget n : ℕ)
    : Type 0 where
  pub last : ℕ
  pub counted : List ℕ
  pub many : n ≡ length counted
  pub walk : IsWalk (prev_of s.records node) last counted
  pub low : (x : ℕ) → In x counted → x < rel_mark s
  pub key : (x : ℕ) → In x counted → IsKey (rel_key x)
  pub are : (x : ℕ) → In x counted → stands s.records node members x ≡ true
  pub whole : n < budget
      → (xs : List ℕ) × IsSoundWalk s first node n xs × (length xs ≡ n)

-- The record that is said to be damaged breaks the rule: the chain is none of relationships that
-- stand there, or the meta record counts more relationships than there is room for.
pub data IsLengthDamage (s : State) (owner : Key) (first node : ℕ) (members : Members)
    : Damage → Type 0 where
  NoChain : ((xs : List ℕ) → ¬ IsMemberChain s first node members xs)
      → IsLengthDamage s owner first node members (chain_damage owner)
  HighMark : rel_room s < rel_mark s → IsLengthDamage s owner first node members mark_damage

abbrev pub IsLengthFault : State → Key → ℕ → ℕ → Members → Fault → Type 0
IsLengthFault s owner first node members Memory = Unit {0}
IsLengthFault s owner first node members Disk = Unit {0}
IsLengthFault s owner first node members (Damaged damage) =
    IsLengthDamage s owner first node members damage
