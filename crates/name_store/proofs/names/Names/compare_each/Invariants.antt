use Rattle.std.proofs.Common.{◌≡◌, ◌<◌, ◌≤◌, ℕ, Some, slice_get, length}
use Rattle.rec_bytes.specs.Space.{after_gets}
use Rattle.name_store.specs.Loading.{text_at}
use Rattle.name_store.proofs.names.Names.compare_each.Given as goal

abbrev pub invariant-loop-id : goal.invariant-loop-id
invariant-loop-id g l = record {
  before : g.R.Reads.tells → (x : ℕ) → x < l.id → slice_get l.self.names x ≡ Some (text_at (g.R.Reads.state l.fn.space).records x);
  kept : l.id ≤ length l.self.names;
  state : g.R.Reads.state l.space ≡ after_gets l.id (g.R.Reads.state l.fn.space);
  onward : g.R.Reads.onward l.fn.space l.space;
  later : g.R.Reads.faults l.fn.space ≤ g.R.Reads.faults l.space;
}
