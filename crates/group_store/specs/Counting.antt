-- The numbers of relationships in the chains of counted groups.
use Rattle.std.specs.Prelude.{ℕ, ◌+◌, ◌-◌, min, nat_eq, if◌then◌else◌}
use Rattle.rec_bytes.specs.declared.record.Rec.{Rec}
use Rattle.rec_bytes.specs.Format as format
use Rattle.rec_bytes.specs.Record.{field, with_field}
use Rattle.rec_bytes.specs.Space.{State, after_get, after_put}
use Rattle.store_rules.specs.Rules.{Head}
use Rattle.group_store.specs.GroupRecord.{is_counted}

-- one relationship more, as a record can say it, and one less
abbrev pub one_more : ℕ → ℕ
one_more count = min (count + 1) 4294967295

abbrev pub one_less : ℕ → ℕ
one_less count = count - 1

-- the place of the number of a chain's relationships, by that of its first link
abbrev pub count_place : ℕ → ℕ
count_place at =
    if nat_eq at format.group_first_out then format.group_out_count
    else (if nat_eq at format.group_first_in then format.group_in_count
    else format.group_loop_count)

-- a group's record with another number, where it has numbers
abbrev pub recounted : (ℕ → ℕ) → Rec → ℕ → Rec
recounted change r place =
    if is_counted r then with_field 4 r place (change (field 4 r place)) else r

-- after the number of a head's relationships changed, where the head is a counted group's
unfoldable pub tallied : (ℕ → ℕ) → State → Head → State
tallied change s head =
    if nat_eq head.key.file format.groups_file
    then after_put (after_get s) head.key
    (recounted change (s.records head.key) (count_place head.field)) else s
