-- How many blocks the values have that were read so far.
use Rattle.std.proofs.Common.{◌≡◌, ◌≤◌, ◌+◌, ◌/◌, ◌∙◌, ◌++◌, List, [], ◌∷◌, Bool, true, false, cond, length, ap, arith}
use Rattle.std.specs.Prelude.{nat_le}
use Rattle.std.proofs.lemmas.List.Sums.{sum_by_push}
use Rattle.plain_graph.specs.Forms.{IsKept}
use Rattle.plain_graph.specs.Properties.{blocks_of}
use Rattle.plain_graph.specs.declared.value.Value.{Value}
use Rattle.plain_graph.specs.declared.value.Value.TheVariants as values
use Rattle.prop_store.specs.Reading.{block_total}
use Rattle.prop_store.specs.declared.prop.Prop.{Prop}

pub block_total-one : (props pushed : List Prop) (prop : Prop) → pushed ≡ props ++ prop ∷ [] → block_total pushed ≡ block_total props + blocks_of prop.value
block_total-one props pushed prop is = ap block_total is ∙ sum_by_push (λ (p : Prop). blocks_of p.value) props prop

-- a value that a store may keep takes at most so many blocks
pub few_blocks : (value : Value) → IsKept value → blocks_of value ≤ 22
few_blocks (values.Int n) kept = omega arith
few_blocks (values.Bool b) kept = omega arith
few_blocks (values.Text text) kept = by (nat_le (length text) 40)
  where
    by : (b : Bool) → cond b 0 ((length text + 47) / 48) ≤ 22
    by true = omega arith
    by false = omega arith
