-- An entry in front of a bucket.
use Rattle.std.specs.Prelude.{ℕ, nat_eq, if◌then◌else◌, [], ◌∷◌}
use Rattle.rec_bytes.specs.declared.record.Rec.{Rec}
use Rattle.rec_bytes.specs.Format as format
use Rattle.rec_bytes.specs.Record.{zeros}
use Rattle.rec_bytes.specs.Space.{State, after_put, after_set}
use Rattle.rec_bytes.specs.Tables.{Fields, with_fields}
use Rattle.store_rules.specs.Views.{key_in}
use Rattle.prop_index.specs.declared.entry_row.Content.{Content}
use Rattle.prop_index.specs.declared.heads.Slot.{Slot}

abbrev pub entry_fields : ℕ → ℕ → ℕ → Fields
entry_fields node next hash =
    (format.kind, 1, format.indexed) ∷ (format.indexed_node, 4, node)
    ∷ (format.indexed_previous, 4, format.nil) ∷ (format.indexed_next, 4, next)
    ∷ (format.indexed_hash, 8, hash) ∷ []

abbrev pub entry_record : ℕ → ℕ → ℕ → Rec
entry_record node next hash = with_fields zeros (entry_fields node next hash)

-- after an entry got one before it, unless it is none
unfoldable pub backed_entry : State → ℕ → ℕ → State
backed_entry s id to =
    if nat_eq id format.nil then s
    else after_set s (key_in format.index_file id) 4 format.indexed_previous to

-- after an entry was written, the first one led back to it, and the head led to it
unfoldable pub linked_entry : State → Slot → ℕ → ℕ → Content → State
linked_entry s slot first id content =
    let written = after_put s (key_in format.index_file id)
    (entry_record content.node first content.hash) in
    after_set (backed_entry written first id) (key_in format.index_file slot.id) 4 slot.place id
