-- Records by key, as a list of pairs in the order of the keys.
use Rattle.std.specs.Prelude.{
  ◌≡◌,
  ℕ,
  zero,
  suc,
  List,
  [],
  ◌∷◌,
  Some,
  None,
  Option,
  is_some,
  unwrap_or,
  ◌+◌,
  if◌then◌else◌,
}
use Rattle.std.specs.Option.{option_or}
use Rattle.std.specs.declared.cmp.Ordering.{Ordering}
use Rattle.std.specs.declared.cmp.Ordering.TheVariants.{Less, Equal, Greater}
use Rattle.rec_bytes.specs.declared.record.Rec.{Rec}
use Rattle.rec_bytes.specs.declared.key.Key.{Key}
use Rattle.rec_bytes.specs.Key.{key_eq, key_cmp}

abbrev pub Pairs : Type 0
Pairs = List (Key × Rec)

-- a write set holds no more pairs
abbrev pub most_pairs : ℕ
most_pairs = 65535

-- the pairs, and for how many more there is room
pub record Held : Type 0 where
  pub pairs : Pairs
  pub room : ℕ

-- the record of the first pair that has the key
abbrev pub find_pair : Pairs → Key → Option Rec
find_pair [] key = None
find_pair (pair ∷ rest) key = if key_eq key pair.0 then Some pair.1 else find_pair rest key

-- what the order picks of three
abbrev pub by_order : {X : Type 0} → Ordering → X → X → X → X
by_order Less a b c = a
by_order Equal a b c = b
by_order Greater a b c = c

-- the pairs with a record set at a key
unfoldable pub with_pair : Pairs → Key → Rec → Pairs
with_pair [] key rec = (key, rec) ∷ []
with_pair (pair ∷ rest) key rec =
    by_order (key_cmp key pair.0)
    ((key, rec) ∷ pair ∷ rest) ((key, rec) ∷ rest) (pair ∷ with_pair rest key rec)

-- each pair has a greater key
abbrev pub IsBelow : Key → Pairs → Type 0
IsBelow key [] = Unit {0}
IsBelow key (pair ∷ rest) = (key_cmp key pair.0 ≡ Less) × IsBelow key rest

-- the keys rise, so no key comes twice
abbrev pub IsOrdered : Pairs → Type 0
IsOrdered [] = Unit {0}
IsOrdered (pair ∷ rest) = IsBelow pair.0 rest × IsOrdered rest

-- the pairs before the place have smaller keys, and the pair there has the key
abbrev pub IsPlaceOf : Pairs → Key → ℕ → Type 0
IsPlaceOf [] key i = ⊥
IsPlaceOf (pair ∷ rest) key zero = key ≡ pair.0
IsPlaceOf (pair ∷ rest) key (suc i) = (key_cmp key pair.0 ≡ Greater) × IsPlaceOf rest key i

-- the pairs before the place have smaller keys, and those from it on greater ones
abbrev pub IsGapFor : Pairs → Key → ℕ → Type 0
IsGapFor [] key zero = Unit {0}
IsGapFor [] key (suc i) = ⊥
IsGapFor (pair ∷ rest) key zero = IsBelow key (pair ∷ rest)
IsGapFor (pair ∷ rest) key (suc i) = (key_cmp key pair.0 ≡ Greater) × IsGapFor rest key i

-- the record at a key, `absent` where none is held
abbrev pub held_at : Pairs → Key → Rec → Rec
held_at pairs key absent = unwrap_or (find_pair pairs key) absent

-- how many pairs a record at a key adds
abbrev pub growth : Pairs → Key → ℕ
growth pairs key = if is_some (find_pair pairs key) then 0 else 1

-- the pairs with those of another list put one by one
abbrev pub merged : Pairs → Pairs → Pairs
merged pairs [] = pairs
merged pairs (pair ∷ rest) = merged (with_pair pairs pair.0 pair.1) rest

-- how many pairs that adds
abbrev pub growth_by : Pairs → Pairs → ℕ
growth_by pairs [] = 0
growth_by pairs (pair ∷ rest) = growth pairs pair.0 + growth_by (with_pair pairs pair.0 pair.1) rest

-- a find answers the new record at this key, and what it answered before at each other key
abbrev pub FindsPut : Pairs → Pairs → Key → Rec → Type 0
FindsPut old new key rec =
    (q : Key) → find_pair new q ≡ (if key_eq q key then Some rec else find_pair old q)

-- a find answers what the other set answers, and where that has none what it answered before
abbrev pub FindsMerged : Pairs → Pairs → Pairs → Type 0
FindsMerged old other new =
    (q : Key) → find_pair new q ≡ option_or (find_pair other q) (find_pair old q)
