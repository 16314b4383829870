-- A record that came into use or went, and what each rule needs to know of it.
use Rattle.std.proofs.Common.{◌≡◌, ◌⊎◌, ℕ, ◌+◌, ◌<◌, List}
use Rattle.rec_bytes.specs.declared.record.Rec.{Rec}
use Rattle.rec_bytes.specs.declared.shape.Shape.{Shape}
use Rattle.rec_bytes.specs.Format as format
use Rattle.rec_bytes.specs.Meta.{IsMetaInRange}
use Rattle.rec_bytes.specs.RecordFiles.{meta_key_of}
use Rattle.store_rules.specs.Ranges.{Fits}
use Rattle.store_rules.specs.Rules.{IsSplit}
use Rattle.store_rules.specs.Views.{Records, high, is_live, kind_at, rec_at}
use Rattle.store_rules.proofs.Changes.{IsChanged}

-- A record of a file is in use that was not: that of a free identifier, or of the mark.
pub record IsMade (s t : Records) (shape : Shape) (file id : ℕ) (rec : Rec) : Type 0 where
  pub change : IsChanged s t file id
  pub fresh : kind_at s file id ≡ format.free_kind
  pub here : rec_at t file id ≡ rec
  pub below : id < high t file
  pub grows : (high t file ≡ high s file) ⊎ ((id ≡ high s file) × (high t file ≡ high s file + 1))
  pub meta : IsMetaInRange shape file (t (meta_key_of file))
  pub free : List ℕ
  pub split : IsSplit t file (is_live t file) free

-- A record of a file is free that was in use.
pub record IsGone (s t : Records) (shape : Shape) (file id : ℕ) : Type 0 where
  pub change : IsChanged s t file id
  pub gone : kind_at t file id ≡ format.free_kind
  pub fits : Fits (high t) file (rec_at t file id)
  pub mark : high t file ≡ high s file
  pub meta : IsMetaInRange shape file (t (meta_key_of file))
  pub free : List ℕ
  pub split : IsSplit t file (is_live t file) free
