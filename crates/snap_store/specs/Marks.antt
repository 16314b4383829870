-- Which keys the layers may have a record of, by marks.
use Rattle.std.specs.Prelude.{◌≡◌, ◌+◌, ◌*◌, ℕ, Bool, true, List, bit_and, is_some, slice_index_or}
use Rattle.rec_bytes.specs.declared.key.Key.{Key}
use Rattle.snap_store.specs.declared.layer.Layer.{Layer as HeldLayer}
use Rattle.snap_store.specs.Layers.{Layers, kept_at}
use Rattle.snap_store.specs.Snaps.{AreLayers, layers_of}

-- where the mark of a key is
unfoldable pub mark_of : Key → ℕ
mark_of key = bit_and (key.id + key.file * 7283) 65535

-- the mark of the key is set, or there are no marks
abbrev pub may_have : List Bool → Key → Bool
may_have marks key = slice_index_or marks (mark_of key) true

-- each key that a layer has a record of has its mark set
abbrev pub AreMarked : List Bool → Layers → Type 0
AreMarked marks layers =
    (key : Key) → is_some (kept_at layers key) ≡ true → may_have marks key ≡ true

-- the code's layers with their marks
pub record AreHeld (layers : List HeldLayer) (marks : List Bool) : Type 0 where
  pub right : AreLayers layers
  pub marked : AreMarked marks (layers_of layers)
