-- The record of a name.
use Rattle.std.specs.Prelude.{ℕ, ◌-◌, List, ◌∷◌, ◌++◌, length, replicate}
use Rattle.rec_bytes.specs.declared.key.Key.{Key}
use Rattle.rec_bytes.specs.declared.record.Rec.{Rec}
use Rattle.rec_bytes.specs.Format as format

abbrev pub name_key : ℕ → Key
name_key id = record { file = format.names_file; id = id }

-- its kind, its length, and from byte 8 on its bytes
abbrev pub name_record : List ℕ → Rec
name_record text = record {
  bytes = format.named ∷ length text ∷ (replicate 6 0 ++ text ++ replicate (56 - length text) 0);
}
