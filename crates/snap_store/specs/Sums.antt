-- Sums of weights that bound what is kept for a snapshot.
use Rattle.std.specs.Prelude.{◌≡◌, ◌+◌, ◌≤◌, ◌<◌, ℕ, false, true, [], ◌∷◌}
use Rattle.rec_bytes.specs.Format.{most_kept}
use Rattle.snap_store.specs.Layers.{Layers, is_open, total}

-- of each open snapshot, the records of its layer and of younger ones are no more than its
-- reader's sum
abbrev pub AreCovered : (ℕ → ℕ) → Layers → Type 0
AreCovered sums [] = Unit {0}
AreCovered sums (layer ∷ younger) =
    (total (layer ∷ younger) ≤ sums layer.reader) × AreCovered sums younger

-- each sum with a weight added
abbrev pub risen : ℕ → (ℕ → ℕ) → ℕ → ℕ
risen weight sums reader = sums reader + weight

-- each snapshot that has ended had a sum that, with the weight added, is more than may be kept
abbrev pub EndsOverfull : ℕ → (ℕ → ℕ) → Layers → Layers → Type 0
EndsOverfull weight sums old new =
    (reader : ℕ) → is_open reader old ≡ true → is_open reader new ≡ false
    → most_kept < risen weight sums reader
