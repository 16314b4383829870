-- What the record of a property says of its value, as the code has it.
use Rattle.std.specs.Prelude.{ℕ, ◌≤◌, ◌<◌, nat_eq, nat_le, nat_lt, true, false, ◌&&◌, if◌then◌else◌}
use Rattle.std.specs.Prelude.{Option, None, Some, length}
use Rattle.std.specs.Int.{cast_signed}
use mir.Syntax.{w64}
use Rattle.rec_bytes.specs.declared.record.Rec.{Rec}
use Rattle.rec_bytes.specs.Format as format
use Rattle.rec_bytes.specs.Record.{field}
use Rattle.store_rules.specs.Properties.{Content, Number, Truth, Inline, Long}
use Rattle.prop_store.specs.declared.form.Form.{Form}
use Rattle.prop_store.specs.declared.form.Form.TheVariants as forms

-- the byte 0 is false, and 1 true
abbrev pub truth_in : ℕ → Option Form
truth_in byte =
    if nat_eq byte 0 then Some (forms.Truth false)
    else (if nat_eq byte 1 then Some (forms.Truth true) else None)

abbrev pub form_by : Rec → ℕ → ℕ → Option Form
form_by r kind size =
    if nat_eq kind format.int
    then Some (forms.Number (cast_signed w64 (field 8 r format.property_number)))
    else (if nat_eq kind format.bool then truth_in (field 1 r format.property_truth)
    else (if nat_eq kind format.text_inline
    then (if nat_le size 40 then Some (forms.Inline size) else None)
    else (if nat_eq kind format.text_in_blocks
    then (if nat_lt 40 size && nat_le size 1024
    then Some (forms.Long size (field 4 r format.property_first_block)) else None)
    else None)))

-- what a record says; nothing where its kind or its length is no property's
abbrev pub form_in : Rec → Option Form
form_in r = form_by r (field 1 r format.kind) (field 2 r format.property_length)

-- the same of what the rules read there: a text in the record is its length alone
abbrev pub form_of : Content → Form
form_of (Number number) = forms.Number number
form_of (Truth truth) = forms.Truth truth
form_of (Inline text) = forms.Inline (length text)
form_of (Long size first) = forms.Long size first

-- a text in a record is no longer than it may be, and nor is one in blocks
abbrev pub FormFits : Option Form → Type 0
FormFits None = Unit {0}
FormFits (Some (forms.Number number)) = Unit {0}
FormFits (Some (forms.Truth truth)) = Unit {0}
FormFits (Some (forms.Inline size)) = size ≤ 40
FormFits (Some (forms.Long size first)) = (40 < size) × (size ≤ 1024)
