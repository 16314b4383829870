-- Records of definitions and of heads.
use Rattle.std.specs.Prelude.{ℕ, zero, suc, ◌+◌, ◌*◌, List, [], ◌∷◌, replicate}
use Rattle.rec_bytes.specs.declared.record.Rec.{Rec}
use Rattle.rec_bytes.specs.Format as format
use Rattle.rec_bytes.specs.Record.{field, with_field, zeros}
use Rattle.rec_bytes.specs.Tables.{Fields, with_fields}

-- a record of heads whose buckets are empty
abbrev pub empty_heads : Rec
empty_heads =
    with_field 1 (with_field 4 (record { bytes = replicate 64 255 }) format.kind 0)
    format.kind format.heads

abbrev pub definition_fields : ℕ → ℕ → ℕ → Fields
definition_fields label key next =
    (format.kind, 1, format.definition) ∷ (format.definition_label, 4, label)
    ∷ (format.definition_key, 4, key) ∷ (format.definition_next, 4, next) ∷ []

-- a definition that names no heads yet
abbrev pub definition_start : ℕ → ℕ → ℕ → Rec
definition_start label key next = with_fields zeros (definition_fields label key next)

-- the heads of a definition, by number
abbrev pub head_of : Rec → ℕ → ℕ
head_of rec c = field 4 rec (format.definition_heads + 4 * c)

-- the first ones, the last of them first
abbrev pub head_ids : ℕ → Rec → List ℕ
head_ids zero rec = []
head_ids (suc n) rec = head_of rec n ∷ head_ids n rec
