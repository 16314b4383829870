-- The order of values is a total one, and so items are ranked by it.
use Rattle.std.proofs.Common.{◌≡◌, refl, Bool, true, false}
use Rattle.std.specs.Ordering.{is_lt, ordering_reverse}
use Rattle.std.specs.declared.cmp.Ordering.TheVariants.{Less, Equal}
use Rattle.std.specs.Cmp.{IsTotalOrder, IsStrictWeakOrder, bool_cmp_total, int_cmp_total}
use Rattle.std.specs.Cmp.Lexicographic.{nat_list_cmp_total}
use Rattle.std.proofs.lemmas.List.Sorted.{ranks_by, IsStrictWeakOrder-flip}
use Rattle.plain_graph.specs.declared.value.Value.{Value}
use Rattle.plain_graph.specs.declared.value.Value.TheVariants as values
use Rattle.plain_graph.specs.Values.{value_cmp}
use Rattle.traversal_run.specs.Kept.{number_ranks_below, row_ranks_below}
use Rattle.traversal_run.specs.declared.kept.Numbered.{Numbered}
use Rattle.traversal_run.specs.declared.kept.Ranked.{Ranked}

-- one value is against another as that is not against it
value_antisymm : (x y : Value) → value_cmp x y ≡ ordering_reverse (value_cmp y x)
value_antisymm (values.Bool a) (values.Bool b) = bool_cmp_total.antisymm a b
value_antisymm (values.Int a) (values.Int b) = int_cmp_total.antisymm a b
value_antisymm (values.Text a) (values.Text b) = nat_list_cmp_total.antisymm a b
value_antisymm x y = refl

-- what is less than something less is less
value_trans : (x y z : Value) → value_cmp x y ≡ Less → value_cmp y z ≡ Less → value_cmp x z ≡ Less
value_trans (values.Bool a) (values.Bool b) (values.Bool c) p q = bool_cmp_total.trans a b c p q
value_trans (values.Int a) (values.Int b) (values.Int c) p q = int_cmp_total.trans a b c p q
value_trans (values.Text a) (values.Text b) (values.Text c) p q = nat_list_cmp_total.trans a b c p q
value_trans (values.Bool a) (values.Int b) (values.Bool c) p q = cc
value_trans (values.Bool a) (values.Text b) (values.Bool c) p q = cc
value_trans (values.Bool a) y (values.Int c) p q = refl
value_trans (values.Bool a) y (values.Text c) p q = refl
value_trans (values.Int a) (values.Bool b) z p q = cc
value_trans (values.Int a) (values.Text b) (values.Bool c) p q = cc
value_trans (values.Int a) (values.Text b) (values.Int c) p q = cc
value_trans (values.Int a) (values.Int b) (values.Bool c) p q = cc
value_trans (values.Int a) y (values.Text c) p q = refl
value_trans (values.Text a) (values.Bool b) z p q = cc
value_trans (values.Text a) (values.Int b) z p q = cc
value_trans (values.Text a) (values.Text b) (values.Bool c) p q = cc
value_trans (values.Text a) (values.Text b) (values.Int c) p q = cc

-- equal values are alike against a third
value_congr : (x y z : Value) → value_cmp x y ≡ Equal → value_cmp x z ≡ value_cmp y z
value_congr (values.Bool a) (values.Bool b) (values.Bool c) p = bool_cmp_total.congr a b c p
value_congr (values.Int a) (values.Int b) (values.Int c) p = int_cmp_total.congr a b c p
value_congr (values.Text a) (values.Text b) (values.Text c) p = nat_list_cmp_total.congr a b c p
value_congr x y z p = cc

pub value_cmp_total : IsTotalOrder value_cmp
value_cmp_total = record { antisymm = value_antisymm; trans = value_trans; congr = value_congr }

-- ranks give an order in both directions
pub ranks_order : (descending : Bool) → IsStrictWeakOrder (row_ranks_below descending)
ranks_order false = ranks_by value_cmp_total (λ (r : Ranked). r.rank)
ranks_order true = IsStrictWeakOrder-flip (λ (a b : Ranked). is_lt (value_cmp a.rank b.rank)) (ranks_by value_cmp_total (λ (r : Ranked). r.rank))

-- and so do numbers
abbrev number_of : Numbered → Value
number_of n = values.Int n.rank

pub numbers_order : (descending : Bool) → IsStrictWeakOrder (number_ranks_below descending)
numbers_order false = ranks_by value_cmp_total number_of
numbers_order true = IsStrictWeakOrder-flip (λ (a b : Numbered). is_lt (value_cmp (number_of a) (number_of b))) (ranks_by value_cmp_total number_of)
