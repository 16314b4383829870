-- The order of values, and how one compares with another.
use Rattle.std.specs.Prelude.{ℕ, Bool, true, false, ◌&&◌, not, List}
use Rattle.std.specs.Cmp.Lexicographic.{slice_cmp}
use Rattle.std.specs.Ordering.{bool_cmp, int_cmp, is_eq, is_ge, is_gt, is_le, is_lt, nat_cmp}
use Rattle.std.specs.declared.cmp.Ordering.{Ordering}
use Rattle.std.specs.declared.cmp.Ordering.TheVariants.{Greater, Less}
use Rattle.plain_graph.specs.declared.filter.Relation.{Relation}
use Rattle.plain_graph.specs.declared.filter.Relation.TheVariants as relations
use Rattle.plain_graph.specs.declared.value.Value.{Value}
use Rattle.plain_graph.specs.declared.value.Value.TheVariants as values

-- the two have the same bytes
abbrev pub is_text : List ℕ → List ℕ → Bool
is_text a b = is_eq (slice_cmp nat_cmp a b)

-- false, true, numbers by size, texts by their bytes
abbrev pub value_cmp : Value → Value → Ordering
value_cmp (values.Bool a) (values.Bool b) = bool_cmp a b
value_cmp (values.Bool a) (values.Int b) = Less
value_cmp (values.Bool a) (values.Text b) = Less
value_cmp (values.Int a) (values.Bool b) = Greater
value_cmp (values.Int a) (values.Int b) = int_cmp a b
value_cmp (values.Int a) (values.Text b) = Less
value_cmp (values.Text a) (values.Bool b) = Greater
value_cmp (values.Text a) (values.Int b) = Greater
value_cmp (values.Text a) (values.Text b) = slice_cmp nat_cmp a b

abbrev pub is_same_type : Value → Value → Bool
is_same_type (values.Bool a) (values.Bool b) = true
is_same_type (values.Bool a) (values.Int b) = false
is_same_type (values.Bool a) (values.Text b) = false
is_same_type (values.Int a) (values.Bool b) = false
is_same_type (values.Int a) (values.Int b) = true
is_same_type (values.Int a) (values.Text b) = false
is_same_type (values.Text a) (values.Bool b) = false
is_same_type (values.Text a) (values.Int b) = false
is_same_type (values.Text a) (values.Text b) = true

-- The value compares so with the one that is written. Values of two types are not equal, and
-- neither is greater or less.
abbrev pub is_related : Relation → Value → Value → Bool
is_related relations.Eq value written = is_eq (value_cmp value written)
is_related relations.Neq value written = not (is_eq (value_cmp value written))
is_related relations.Gt value written =
    is_same_type value written && is_gt (value_cmp value written)
is_related relations.Gte value written =
    is_same_type value written && is_ge (value_cmp value written)
is_related relations.Lt value written =
    is_same_type value written && is_lt (value_cmp value written)
is_related relations.Lte value written =
    is_same_type value written && is_le (value_cmp value written)
