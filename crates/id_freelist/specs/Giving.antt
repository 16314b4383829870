-- What giving an identifier back makes of a space.
use Rattle.std.specs.Prelude.{◌≡◌, ◌≢◌, ℕ, ◌-◌, List, ◌∷◌}
use Rattle.rec_bytes.specs.declared.key.Key.{Key}
use Rattle.rec_bytes.specs.Meta.{with_meta}
use Rattle.rec_bytes.specs.RecordFiles.{meta_key_of}
use Rattle.rec_bytes.specs.Space.{State, after_meta, after_put, meta_in, meta_of}
use Rattle.store_rules.specs.Chains.{In}
use Rattle.store_rules.specs.Views.{Records, high, key_in}
use Rattle.id_freelist.specs.FreeLists.{IsFreeList, free_record}

-- the identifier's record names the first free one, and then stands first
abbrev pub given : State → ℕ → ℕ → State
given s file id =
    let m = meta_of s file in
    after_meta (after_put s (key_in file id) (free_record m.free)) file
    (record { high = m.high; free = id; live = m.live - 1 })

-- The identifier isn't on the free list.
pub record CanGive (s : State) (file id : ℕ) (free : List ℕ) : Type 0 where
  pub list : IsFreeList s.records file free
  pub fresh : In id free → ⊥

-- The identifier stands first on the free list, and is no longer counted as live. No record but the
-- file's meta record and its own changed.
pub record HasGiven (old new : Records) (file id : ℕ) (free : List ℕ) : Type 0 where
  pub list : IsFreeList new file (id ∷ free)
  pub mark : high new file ≡ high old file
  pub live : (meta_in new file).live ≡ (meta_in old file).live - 1
  pub here : new (key_in file id) ≡ free_record (meta_in old file).free
  pub meta : new (meta_key_of file) ≡ with_meta (old (meta_key_of file)) (meta_in new file)
  pub others : (key : Key) → key ≢ meta_key_of file → key ≢ key_in file id → new key ≡ old key
