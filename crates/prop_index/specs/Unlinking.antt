-- An entry that is given back and taken out of its bucket.
use Rattle.std.specs.Prelude.{ℕ, nat_eq, if◌then◌else◌}
use Rattle.rec_bytes.specs.Format as format
use Rattle.rec_bytes.specs.Space.{State, after_set}
use Rattle.store_rules.specs.Views.{key_in}
use Rattle.id_freelist.specs.Giving.{given}
use Rattle.prop_index.specs.Linking.{backed_entry}
use Rattle.prop_index.specs.declared.heads.Slot.{Slot}

-- what led to an entry leads to the one after it
unfoldable pub led_entry : State → Slot → ℕ → ℕ → State
led_entry s slot before after =
    if nat_eq before format.nil
    then after_set s (key_in format.index_file slot.id) 4 slot.place after
    else after_set s (key_in format.index_file before) 4 format.indexed_next after

-- it was given back, and its neighbours, or the head and the one after it, lead to each other
unfoldable pub unlinked_entry : State → Slot → ℕ → ℕ → ℕ → State
unlinked_entry s slot id before after =
    led_entry (backed_entry (given s format.index_file id) after before) slot before after
