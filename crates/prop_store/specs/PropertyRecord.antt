-- The record of a property.
use Rattle.std.specs.Prelude.{ℕ, nat_le, if◌then◌else◌, length}
use Rattle.std.specs.Int.{cast_unsigned}
use mir.Syntax.{w64}
use Rattle.plain_graph.specs.declared.value.Value.{Value}
use Rattle.plain_graph.specs.declared.value.Value.TheVariants as values
use Rattle.rec_bytes.specs.declared.record.Rec.{Rec}
use Rattle.rec_bytes.specs.Format as format
use Rattle.rec_bytes.specs.Record.{with_field, with_text, zeros}

-- a record of this kind with this key
abbrev pub keyed : ℕ → ℕ → Rec
keyed kind key = with_field 4 (with_field 1 zeros format.kind kind) format.property_key key

-- the record of a property but for the one after it; a long text has a first block
abbrev pub property_body : ℕ → Value → ℕ → Rec
property_body key (values.Int number) first =
    with_field 8 (keyed format.int key) format.property_number (cast_unsigned w64 number)
property_body key (values.Bool truth) first =
    with_field 1 (keyed format.bool key) format.property_truth (if truth then 1 else 0)
property_body key (values.Text text) first =
    if nat_le (length text) 40
    then with_text
    (with_field 2 (keyed format.text_inline key) format.property_length (length text))
    format.property_text text
    else with_field 4
    (with_field 2 (keyed format.text_in_blocks key) format.property_length (length text))
    format.property_first_block first

-- the record of a property of this value, whose text begins at this block, and the property after
-- it
abbrev pub property_record : ℕ → Value → ℕ → ℕ → Rec
property_record key value first next =
    with_field 4 (property_body key value first) format.property_next next
