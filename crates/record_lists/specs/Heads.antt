-- Lists that start at records.
use Rattle.std.specs.Prelude.{◌≡◌, ◌⊎◌, ℕ, ◌<◌, Bool, true, false, List}
use Rattle.std.specs.Bool.{Decides}
use Rattle.std.specs.List.{All}
use Rattle.store_rules.specs.Chains.{In}
use Rattle.record_lists.specs.Seen.{is_seen}
use Rattle.record_lists.specs.declared.heads.Found.{Found}
use Rattle.record_lists.specs.declared.heads.Found.TheVariants.{Nothing, Missing, Items}
use Rattle.record_lists.specs.declared.heads.Broke.{Broke}
use Rattle.record_lists.specs.declared.heads.Broke.TheVariants.{Head, Item}
use Rattle.record_lists.specs.declared.heads.Told.{Told}
use Rattle.record_lists.specs.declared.heads.Told.TheVariants.{Seen, Unlisted, Twice}

-- The one list that a record must have is found, or there is none, or it needs none.
abbrev pub FoundIs : Type 0 → (List ℕ → Type 0) → Found → Type 0
FoundIs has lists Nothing = ¬ has
FoundIs has lists Missing = has × ((xs : List ℕ) → ¬ lists xs)
FoundIs has lists (Items v) =
    has × lists v.items × ((xs : List ℕ) → lists xs → xs ≡ v.items)

abbrev pub FoundBelow : ℕ → Found → Type 0
FoundBelow n Nothing = Unit {0}
FoundBelow n Missing = Unit {0}
FoundBelow n (Items v) = All (λ x. x < n) v.items

-- Which records must have a list, and which list each has.
module _ (has : ℕ → Type 0) (lists : ℕ → List ℕ → Type 0) where
  -- if the record must have a list, it has one
  pub record HeadKeeps (id : ℕ) : Type 0 where
    pub list : has id → (xs : List ℕ) × lists id xs

  -- an item is in a record's list
  pub record AtHead (id p : ℕ) : Type 0 where
    pub must : has id
    pub items : List ℕ
    pub listed : lists id items
    pub member : In p items

  -- an item is in the list of one of the first n records
  pub record AmongHeads (n p : ℕ) : Type 0 where
    pub id : ℕ
    pub below : id < n
    pub here : AtHead id p

  -- of the first n records only one has the item in its list
  abbrev pub IsOnce : ℕ → ℕ → Type 0
  IsOnce n p = (k l : ℕ) → k < n → l < n → AtHead k p → AtHead l p → k ≡ l

  -- an item is in a list, and was seen or is in a list before
  pub record IsTwice (n : ℕ) (seen : List Bool) (p : ℕ) : Type 0 where
    pub head : ℕ
    pub below : head < n
    pub here : AtHead head p
    pub before : (is_seen seen p ≡ true) ⊎ AmongHeads head p

  -- what became of the list of one record
  abbrev pub HeadTold : ℕ → List Bool → List Bool → Told → Type 0
  HeadTold id old new Seen =
      HeadKeeps id
      × ((p : ℕ) → Decides (is_seen new p) ((is_seen old p ≡ true) ⊎ AtHead id p))
      × ((p : ℕ) → AtHead id p → is_seen old p ≡ false)
  HeadTold id old new Unlisted = ¬ HeadKeeps id
  HeadTold id old new (Twice p) = AtHead id p × (is_seen old p ≡ true)

  -- the record, or the item, that breaks the rule
  abbrev pub BrokeIs : ℕ → List Bool → Broke → Type 0
  BrokeIs n seen (Head id) = (id < n) × (¬ HeadKeeps id)
  BrokeIs n seen (Item p) = IsTwice n seen p
