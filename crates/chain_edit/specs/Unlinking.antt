-- A relationship that is taken out of a chain.
use Rattle.std.specs.Prelude.{◌≡◌, ◌≢◌, ◌⊎◌, ℕ, ◌+◌, nat_eq, if◌then◌else◌, List, [], ◌∷◌}
use Rattle.rec_bytes.specs.declared.damage.Damage.{Damage}
use Rattle.rec_bytes.specs.declared.record.Rec.{Rec}
use Rattle.rec_bytes.specs.Format.{nil, relationships_file}
use Rattle.rec_bytes.specs.Record.{with_field}
use Rattle.rec_bytes.specs.Space.{State, after_get, after_put}
use Rattle.store_rules.specs.Breaking.{HasChains, IsChainHead}
use Rattle.store_rules.specs.Chains.{In, IsWalk, place_of, without}
use Rattle.store_rules.specs.Rules.{Head, IsEnd, StandsAt, first_of}
use Rattle.store_rules.specs.Views.{Records, RelRow, group_at, rel_at}
use Rattle.rel_store.specs.RelRecord.{range_damage, rel_key}
use Rattle.chain_edit.specs.Chains.{ChangeOnly, IsChainAt, IsChainFrom, ShareNoLink, next_of}
use Rattle.chain_edit.specs.Chains.{next_place, prev_of, prev_place}
use Rattle.chain_edit.specs.Links.{IsLinkDamage, backed, next_set, number_set}
use Rattle.rec_bytes.specs.declared.fault.Fault.{Fault}
use Rattle.rec_bytes.specs.declared.fault.Fault.TheVariants.{Memory, Disk, Damaged}

-- the relationship with none before it and none after it
abbrev pub alone : Rec → ℕ → Rec
alone r node = with_field 4 (with_field 4 r (place_of r node) nil) (place_of r node + 4) nil

-- what led to a relationship leads to the one after it
unfoldable pub led : State → Head → ℕ → ℕ → ℕ → State
led s head node before after =
    if nat_eq before nil then number_set s head after else next_set s node before after

-- its neighbours, or the head and the one after it, lead to each other
unfoldable pub unlinked : State → Head → ℕ → ℕ → State
unlinked s head node rel =
    let before = prev_of s.records node rel in
    let after = next_of s.records node rel in
    let freed = after_put (after_get s) (rel_key rel) (alone (s.records (rel_key rel)) node) in
    led (backed freed node after before) head node before after

-- the list is the head's chain, and the relationship is in it
pub record CanUnlink (records : Records) (head : Head) (node rel : ℕ) (xs : List ℕ) : Type 0 where
  pub chain : IsChainAt records head node xs
  pub member : In rel xs

-- the place of what leads to the relationship
abbrev pub lead_place : Records → Head → ℕ → ℕ → Head
lead_place records head node rel =
    if nat_eq (prev_of records node rel) nil then head
    else next_place records node (prev_of records node rel)

-- The head's chain lacks the relationship, which has none before it and none after it. Each chain
-- that uses no link of the old one is as it was, and just the four numbers changed that led to the
-- relationship and from it.
pub record HasUnlinked (old new : Records) (head : Head) (node rel : ℕ) (xs : List ℕ) : Type 0 where
  pub chain : IsChainAt new head node (without rel xs)
  pub before : prev_of new node rel ≡ nil
  pub after : next_of new node rel ≡ nil
  pub others : (m from : ℕ) (ys : List ℕ) → IsChainFrom old m from ys
      → ShareNoLink old node xs m ys → IsChainFrom new m from ys
  pub only : ChangeOnly old new
      (lead_place old head node rel ∷ prev_place old node rel ∷ next_place old node rel
      ∷ prev_place old node (next_of old node rel) ∷ [])

-- ---- what is beside a relationship leads to it

-- what leads to the place after a relationship: the relationship's next link, or the head where
-- there is none
abbrev pub leads_to : Records → Head → ℕ → ℕ → ℕ
leads_to records head node before =
    if nat_eq before nil then first_of records head else next_of records node before

-- the relationship after one leads back to it, and is another than it and than the one before it
pub record IsBehind (records : Records) (node rel before after : ℕ) : Type 0 where
  pub back : prev_of records node after ≡ rel
  pub other : after ≢ rel
  pub apart : after ≢ before

-- What the relationship says is before it leads to it, and what it says is after it leads back.
pub record IsLinkedIn (records : Records) (head : Head) (node rel : ℕ) : Type 0 where
  pub led : leads_to records head node (prev_of records node rel) ≡ rel
  pub behind : next_of records node rel ≢ nil
      → IsBehind records node rel (prev_of records node rel) (next_of records node rel)

-- Nothing is hidden: a right chain that the head has now, without the relationship, was right
-- before, with it or without it.
abbrev pub HidesNothing : Records → Records → Head → ℕ → ℕ → Type 0
HidesNothing old new head node rel = (xs : List ℕ) → IsChainAt new head node xs → ¬ In rel xs
    → (ys : List ℕ) × (IsChainAt old head node ys × (xs ≡ without rel ys))

-- the next links lead from the head through just these
abbrev pub Leads : Records → Head → ℕ → List ℕ → Type 0
Leads records head node xs = IsWalk (next_of records node) (first_of records head) xs

-- Nothing else is lost, whatever the links back say: what the head led to is what it leads to, but
-- for the relationship, if what the relationship says is before it was among that.
pub record LosesNoOther (old new : Records) (head : Head) (node rel : ℕ) : Type 0 where
  pub rest : (xs : List ℕ) → Leads old head node xs
      → (prev_of old node rel ≡ nil) ⊎ In (prev_of old node rel) xs
      → Leads new head node (without rel xs)
  pub beside : (xs : List ℕ) → Leads old head node xs → ¬ In rel xs → Leads new head node xs

-- ---- which record is blamed

-- the relationship breaks the third rule
abbrev pub astray_damage : ℕ → Damage
astray_damage rel = record { file = relationships_file; id = rel; rule = 3 }

-- The relationship that is said to be damaged is in no right chain of the head.
pub record IsAstray (records : Records) (head : Head) (node rel : ℕ) (damage : Damage)
    : Type 0 where
  pub is : damage ≡ astray_damage rel
  pub out : (xs : List ℕ) → IsChainAt records head node xs → ¬ In rel xs

-- a relationship that is said to be damaged has a link that leads nowhere, or isn't in its chain
abbrev pub IsUnlinkFault : State → Head → ℕ → ℕ → Fault → Type 0
IsUnlinkFault s head node rel Memory = Unit {0}
IsUnlinkFault s head node rel Disk = Unit {0}
IsUnlinkFault s head node rel (Damaged damage) =
    (IsLinkDamage s (prev_of s.records node rel) (range_damage rel) damage
    ⊎ IsLinkDamage s (next_of s.records node rel) (range_damage rel) damage)
    ⊎ IsAstray s.records head node rel damage

-- The node is an end of the relationship, and among the heads of its chains the relationship stands
-- at this one alone.
pub record IsLoneHead (records : Records) (head : Head) (node rel : ℕ) (row : RelRow)
    : Type 0 where
  pub end : IsEnd node row
  pub has : HasChains records node
  pub lone : (h : Head) → IsChainHead records h node
      → StandsAt (rel_at records) (group_at records) h rel → h ≡ head

-- ---- the steps

-- after a record was read, unless there is none
unfoldable pub seen : State → ℕ → State
seen s x = if nat_eq x nil then s else after_get s

-- after a relationship whose record is at hand got one before it, unless it is none
unfoldable pub put_back : State → ℕ → ℕ → ℕ → Rec → State
put_back s node x to r =
    if nat_eq x nil then s else after_put s (rel_key x) (with_field 4 r (place_of r node) to)

-- after what led to a relationship, whose record is at hand, leads to the one after it
unfoldable pub put_led : State → Head → ℕ → ℕ → ℕ → Rec → State
put_led s head node before after r =
    if nat_eq before nil then after_put s head.key (with_field 4 r head.field after)
    else after_put s (rel_key before) (with_field 4 r (place_of r node + 4) after)

-- the fault is none of the disk's or of memory's only where this is so
abbrev pub IsAstrayFault : Type 0 → ℕ → Fault → Type 0
IsAstrayFault P rel Memory = Unit {0}
IsAstrayFault P rel Disk = Unit {0}
IsAstrayFault P rel (Damaged damage) = (damage ≡ astray_damage rel) × P
