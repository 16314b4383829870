-- The snapshots of the readers.
use Rattle.std.specs.Prelude.{
  ◌≡◌,
  ◌≤◌,
  ◌+◌,
  ◌++◌,
  ℕ,
  zero,
  suc,
  nat_eq,
  replicate,
  Bool,
  false,
  true,
  List,
  [],
  ◌∷◌,
  length,
  map,
  slice_index_or,
  slice_set,
  if◌then◌else◌,
}
use Rattle.std.specs.List.{AllByRecursion}
use Rattle.rec_bytes.specs.Format.{most_kept}
use Rattle.rec_bytes.specs.Pairs.{IsOrdered}
use Rattle.snap_store.specs.declared.layer.Layer.{Layer as HeldLayer}
use Rattle.snap_store.specs.declared.snap_state.SnapState.{SnapState}
use Rattle.snap_store.specs.declared.snap_state.SnapState.TheVariants as states
use Rattle.snap_store.specs.Layers.{AreDistinct, Layer, Layers, is_open, lacks_room, total}

-- the layers of the open snapshots, and of each reader whether its snapshot has ended
pub record Snapshots : Type 0 where
  pub open_ones : Layers
  pub ended : List Bool

-- a layer as the code has it
abbrev pub layer_of : HeldLayer → Layer
layer_of layer = record { reader = layer.reader; kept = layer.set.pairs }

-- the layers as the code has them
abbrev pub layers_of : List HeldLayer → Layers
layers_of layers = map layer_of layers

-- the reader had a snapshot that ended, and has neither released it nor taken another
abbrev pub has_ended : Snapshots → ℕ → Bool
has_ended snaps reader = slice_index_or snaps.ended reader false

-- what a reader has
abbrev pub state_of : Snapshots → ℕ → SnapState
state_of snaps reader =
    if is_open reader snaps.open_ones
    then states.Open
    else (if has_ended snaps reader then states.Ended else states.Absent)

-- the session may have a snapshot
pub record IsReader (reader : ℕ) : Type 0 where
  pub first : 1 ≤ reader
  pub last : reader ≤ 7

-- no reader has a snapshot
abbrev pub no_snapshots : Snapshots
no_snapshots = record { open_ones = []; ended = replicate 8 false }

-- the reader's is the youngest, and has no old records yet
abbrev pub taken : ℕ → Snapshots → Snapshots
taken reader snaps = record {
  open_ones = snaps.open_ones ++ record { reader = reader; kept = [] } ∷ [];
  ended = slice_set snaps.ended reader false;
}

-- the oldest snapshots have ended, just so many that the records of the others and so many new
-- ones may be kept
abbrev pub with_room : ℕ → Layers → List Bool → Snapshots
with_room new [] ended = record { open_ones = []; ended = ended }
with_room new (layer ∷ younger) ended =
    if lacks_room new (layer ∷ younger)
    then with_room new younger (slice_set ended layer.reader true)
    else record { open_ones = layer ∷ younger; ended = ended }

-- the oldest snapshot has ended
pub record EndsOldest (old new : Snapshots) : Type 0 where
  pub oldest : Layer
  pub open_ones : old.open_ones ≡ oldest ∷ new.open_ones
  pub ended : new.ended ≡ slice_set old.ended oldest.reader true

-- a layer is one of seven readers, in order, and has room for all records that may be kept
pub record IsLayer (layer : HeldLayer) : Type 0 where
  pub reader : IsReader layer.reader
  pub rising : IsOrdered layer.set.pairs
  pub room : most_kept ≤ length layer.set.pairs + layer.set.room

-- what the code's layers are: each reader has one at most, and they have no more records than may
-- be kept
pub record AreLayers (layers : List HeldLayer) : Type 0 where
  pub each : AllByRecursion IsLayer layers
  pub distinct : AreDistinct (layers_of layers)
  pub few : total (layers_of layers) ≤ most_kept

-- the layer at the place is the reader's, and none before it
abbrev pub IsPlaceOf : ℕ → Layers → ℕ → Type 0
IsPlaceOf reader [] place = ⊥
IsPlaceOf reader (layer ∷ younger) zero = nat_eq reader layer.reader ≡ true
IsPlaceOf reader (layer ∷ younger) (suc place) =
    (nat_eq reader layer.reader ≡ false) × IsPlaceOf reader younger place
