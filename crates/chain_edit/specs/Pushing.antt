-- A relationship at the front of a chain.
use Rattle.std.specs.Prelude.{◌≡◌, ℕ, List, [], ◌∷◌}
use Rattle.rec_bytes.specs.declared.damage.Damage.{Damage}
use Rattle.rec_bytes.specs.declared.key.Key.{Key}
use Rattle.rec_bytes.specs.Format.{nil}
use Rattle.rec_bytes.specs.Record.{with_field}
use Rattle.rec_bytes.specs.Space.{State, after_get, after_put}
use Rattle.store_rules.specs.Chains.{In}
use Rattle.store_rules.specs.Rules.{Head, first_of}
use Rattle.store_rules.specs.Views.{Records}
use Rattle.chain_edit.specs.Chains.{ChangeOnly, IsChainAt, IsChainFrom, ShareNoLink, next_place}
use Rattle.chain_edit.specs.Chains.{prev_of, prev_place}
use Rattle.chain_edit.specs.Links.{IsLinkDamage, backed, next_set}
use Rattle.rec_bytes.specs.declared.fault.Fault.{Fault}
use Rattle.rec_bytes.specs.declared.fault.Fault.TheVariants.{Memory, Disk, Damaged}

-- the relationship leads to the old first one, which leads back to it, and the head leads to it
unfoldable pub pushed : State → Head → ℕ → ℕ → State
pushed s head node rel =
    let first = first_of s.records head in
    let linked = next_set (backed (after_get s) node first rel) node rel first in
    after_put linked head.key (with_field 4 (s.records head.key) head.field rel)

-- the list is the head's chain, and the relationship isn't in it and has none before it
pub record CanPush (records : Records) (head : Head) (node rel : ℕ) (xs : List ℕ) : Type 0 where
  pub chain : IsChainAt records head node xs
  pub new : ¬ In rel xs
  pub alone : prev_of records node rel ≡ nil

-- The head's chain has one more in front, each chain that uses no link of it is as it was, and
-- just the three numbers changed that lead to the relationship and from it.
pub record HasPushed (old new : Records) (head : Head) (node rel : ℕ) (xs : List ℕ) : Type 0 where
  pub chain : IsChainAt new head node (rel ∷ xs)
  pub others : (m from : ℕ) (ys : List ℕ) → IsChainFrom old m from ys
      → ShareNoLink old node (rel ∷ xs) m ys → IsChainFrom new m from ys
  pub only : ChangeOnly old new (prev_place old node (first_of old head) ∷ next_place old node rel
      ∷ head ∷ [])

abbrev pub first_damage : Key → Damage
first_damage key = record { file = key.file; id = key.id; rule = 1 }

-- a head that is said to be damaged leads nowhere
abbrev pub IsPushFault : State → Head → Fault → Type 0
IsPushFault s head Memory = Unit {0}
IsPushFault s head Disk = Unit {0}
IsPushFault s head (Damaged damage) =
    IsLinkDamage s (first_of s.records head) (first_damage head.key) damage
