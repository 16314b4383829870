-- What a row that is found, or isn't, says of the records.
use Rattle.std.proofs.Common.{◌≡◌, ◌≢◌, ℕ, Bool, true, false, cond, nat_eq, None, Some, refl, arith}
use Rattle.std.proofs.lemmas.Bool.Decides.{nat_tests}
use Rattle.rec_bytes.specs.Format as format
use Rattle.rec_bytes.specs.Space.{State}
use Rattle.store_rules.specs.Ranges.{AreInRange}
use Rattle.store_rules.specs.Views.{Records, high, kind_at, rec_at, row_if}
use Rattle.node_store.specs.declared.node_row.NodeRow.{NodeRow}
use Rattle.node_store.specs.Loading.{IsReadable, row_at}
use Rattle.node_store.specs.NodeRecord.{row_of}

none_if : (kind : ℕ) (row : NodeRow) → row_if kind row ≡ None → kind ≡ 0
none_if kind row = by (nat_eq kind 0) (λ e. grind (arith, nat_tests))
  where
    by : (free : Bool) → (free ≡ true → kind ≡ 0) → cond free None (Some row) ≡ None → kind ≡ 0
    by true zero e = zero refl
    by false zero e = absurd cc

some_if : (kind : ℕ) (row found : NodeRow) → row_if kind row ≡ Some found → (kind ≢ 0) × (found ≡ row)
some_if kind row found = by (nat_eq kind 0) (λ e. grind (arith, nat_tests))
  where
    by : (free : Bool) → (free ≡ false → kind ≢ 0) → cond free None (Some row) ≡ Some found → (kind ≢ 0) × (found ≡ row)
    by true used e = absurd cc
    by false used e = (used refl, cc)

-- no row: the identifier isn't live
pub kind-row_at-None : (records : Records) (id : ℕ) → row_at records id ≡ None → kind_at records format.nodes_file id ≡ 0
kind-row_at-None records id e = none_if (kind_at records format.nodes_file id) (row_of (rec_at records format.nodes_file id) id) e

-- a row: the identifier is live, and the row is its record's
pub kind-row_at-Some : (records : Records) (id : ℕ) (row : NodeRow) → row_at records id ≡ Some row
    → (kind_at records format.nodes_file id ≢ 0) × (row ≡ row_of (rec_at records format.nodes_file id) id)
kind-row_at-Some records id row e = some_if (kind_at records format.nodes_file id) (row_of (rec_at records format.nodes_file id) id) row e

-- where all records are in range, a load says of none that it is damaged
pub IsReadable-AreInRange : (s : State) (id : ℕ) → AreInRange s.records s.shape → IsReadable s id
IsReadable-AreInRange s id ranges = record {
  mark = (ranges.metas format.nodes_file refl).high;
  kind = λ lt none. let fits = ranges.fit format.nodes_file id refl lt in absurd cc;
}
