use Rattle.std.proofs.Common.{◌≡◌, ◌-◌, ◌<◌, ◌≤◌, ℕ, length}
use Rattle.rec_bytes.specs.Space.{after_gets}
use Rattle.name_store.specs.Loading.{HasNoForm, HoldsFirst}
use Rattle.name_store.proofs.loading.load.Given as goal

abbrev pub invariant-each : goal.invariant-each
invariant-each g l = record {
  first : g.R.Reads.tells → HoldsFirst (g.R.Reads.state l.fn.space).records l.names.names;
  form : g.R.Reads.tells → (id : ℕ) → id < length l.names.names → ¬ HasNoForm (g.R.Reads.state l.fn.space).records id;
  count : length l.names.names ≤ l.high;
  state : g.R.Reads.state l.space ≡ after_gets (length l.names.names) (g.R.Reads.state l.fn.space);
  onward : g.R.Reads.onward l.fn.space l.space;
  later : g.R.Reads.faults l.fn.space ≤ g.R.Reads.faults l.space;
}

abbrev pub decreases-each : goal.decreases-each
decreases-each g l = l.high - length l.names.names
