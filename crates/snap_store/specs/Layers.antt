-- The layers of the open snapshots, and what a snapshot sees through them.
use Rattle.std.specs.Prelude.{
  ◌≡◌,
  ◌⊎◌,
  ◌+◌,
  ℕ,
  Bool,
  false,
  true,
  ◌||◌,
  nat_eq,
  nat_lt,
  List,
  [],
  ◌∷◌,
  Option,
  None,
  is_some,
  length,
  map,
  unwrap_or,
  if◌then◌else◌,
}
use Rattle.std.specs.Option.{option_or}
use Rattle.rec_bytes.specs.Format.{most_kept}
use Rattle.rec_bytes.specs.declared.record.Rec.{Rec}
use Rattle.rec_bytes.specs.declared.key.Key.{Key}
use Rattle.rec_bytes.specs.Pairs.{IsOrdered, Pairs, find_pair, merged, with_pair}

-- of an open snapshot: its reader, and the old records that are kept for it
pub record Layer : Type 0 where
  pub reader : ℕ
  pub kept : Pairs

-- the layers of all open snapshots, the oldest first
abbrev pub Layers : Type 0
Layers = List Layer

-- the readers of these layers
abbrev pub readers_of : Layers → List ℕ
readers_of layers = map (λ (layer : Layer). layer.reader) layers

-- how many records these layers have
abbrev pub total : Layers → ℕ
total [] = 0
total (layer ∷ younger) = length layer.kept + total younger

-- the reader has one of the layers
abbrev pub is_open : ℕ → Layers → Bool
is_open reader [] = false
is_open reader (layer ∷ younger) = nat_eq reader layer.reader || is_open reader younger

-- a snapshot is open
abbrev pub any_open : Layers → Bool
any_open [] = false
any_open (layer ∷ younger) = true

-- no reader has two
abbrev pub AreDistinct : Layers → Type 0
AreDistinct [] = Unit {0}
AreDistinct (layer ∷ younger) = (is_open layer.reader younger ≡ false) × AreDistinct younger

-- the records of each stand by ascending key
abbrev pub AreRising : Layers → Type 0
AreRising [] = Unit {0}
AreRising (layer ∷ younger) = IsOrdered layer.kept × AreRising younger

-- the layers from the reader's own on
abbrev pub from : ℕ → Layers → Layers
from reader [] = []
from reader (layer ∷ younger) =
    if nat_eq reader layer.reader then layer ∷ younger else from reader younger

-- the record of the first of these layers that has the key
abbrev pub kept_at : Layers → Key → Option Rec
kept_at [] key = None
kept_at (layer ∷ younger) key = option_or (find_pair layer.kept key) (kept_at younger key)

-- the committed records with those of the layers over them
abbrev pub seen_over : Layers → (Key → Rec) → Key → Rec
seen_over layers committed key = unwrap_or (kept_at layers key) (committed key)

-- What the reader's snapshot sees: each record as the first layer has it, from its own to younger
-- ones, else as it is committed.
abbrev pub sees : Layers → ℕ → (Key → Rec) → Key → Rec
sees layers reader committed = seen_over (from reader layers) committed

-- the records of the youngest layer
abbrev pub youngest : Layers → Pairs
youngest [] = []
youngest (layer ∷ []) = layer.kept
youngest (layer ∷ next ∷ younger) = youngest (next ∷ younger)

-- the youngest layer with one record more
abbrev pub with_kept : Layers → Key → Rec → Layers
with_kept [] key rec = []
with_kept (layer ∷ []) key rec =
    record { reader = layer.reader; kept = with_pair layer.kept key rec } ∷ []
with_kept (layer ∷ next ∷ younger) key rec = layer ∷ with_kept (next ∷ younger) key rec

-- with so many new records, more would be kept than may be
abbrev pub lacks_room : ℕ → Layers → Bool
lacks_room new layers = nat_lt most_kept (total layers + new)

-- a layer, and of the next younger one the records whose keys it lacks
abbrev pub joined : Layer → Layer → Layer
joined older layer = record { reader = older.reader; kept = merged layer.kept older.kept }

-- the layers without the reader's, whose records go to the next older one
abbrev pub released_behind : ℕ → Layer → Layers → Layers
released_behind reader older [] = older ∷ []
released_behind reader older (layer ∷ younger) =
    if nat_eq reader layer.reader
    then joined older layer ∷ younger
    else older ∷ released_behind reader layer younger

-- the same, where the oldest layer is dropped
abbrev pub released : ℕ → Layers → Layers
released reader [] = []
released reader (layer ∷ younger) =
    if nat_eq reader layer.reader then younger else released_behind reader layer younger

-- each snapshot of these sees what it saw, whatever is committed
abbrev pub SameSights : Layers → Layers → Type 0
SameSights old new =
    (reader : ℕ) (committed : Key → Rec) → is_open reader new ≡ true
    → sees new reader committed ≡ sees old reader committed

-- what is committed later differs only where the youngest layer has the key
abbrev pub IsKeptBefore : Layers → (Key → Rec) → (Key → Rec) → Type 0
IsKeptBefore layers committed later =
    (key : Key)
    → (later key ≡ committed key) ⊎ (is_some (find_pair (youngest layers) key) ≡ true)
