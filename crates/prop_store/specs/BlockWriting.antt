-- A block of a text that is written.
use Rattle.std.specs.Prelude.{◌≡◌, ◌⊎◌, ℕ, ◌+◌, ◌*◌, ◌<◌, List, [], ◌∷◌, drop, take}
use Rattle.rec_bytes.specs.Format as format
use Rattle.rec_bytes.specs.Space.{State, meta_in}
use Rattle.store_rules.specs.PropertyChange.{ChangesFile}
use Rattle.store_rules.specs.Views.{high, rec_at}
use Rattle.prop_store.specs.BlockRecord.{block_record}

-- what the block of this number, counted from 0, has of a text
abbrev pub numbered_piece : ℕ → List ℕ → List ℕ
numbered_piece number text = take 48 (drop (48 * number) text)

-- it may come after another block: it is one that was given out, or none
abbrev pub MayFollow : State → ℕ → Type 0
MayFollow s next = (next ≡ format.nil) ⊎ (next < high s.records format.strings_file)

-- These bytes stand in a block that wasn't in use, and it leads to this one.
pub record WritesBlock (old new : State) (piece : List ℕ) (next id : ℕ) : Type 0 where
  pub low : id < format.most_ids
  pub here : rec_at new.records format.strings_file id ≡ block_record piece next
  pub changes : ChangesFile old.records new.records old.shape format.strings_file [] (id ∷ [])
  pub live : (meta_in new.records format.strings_file).live
      ≡ (meta_in old.records format.strings_file).live + 1
