use Rattle.std.proofs.Common.{◌≢◌, ◌≤◌, ◌<◌, ℕ}
use Rattle.rec_bytes.specs.Format.{free_kind}
use Rattle.rec_bytes.specs.Space.{SameButReads}
use Rattle.store_rules.specs.Views.{kind_at}
use Rattle.id_freelist.proofs.taking.first_unused.Given as goal

abbrev pub invariant-loop-id : goal.invariant-loop-id
invariant-loop-id g l =
    let s = g.R.Reads.state l.fn.space in
    record {
      same : SameButReads s (g.R.Reads.state l.space);
      used : g.R.Reads.tells → (x : ℕ) → x < l.id → kind_at s.records l.file x ≢ free_kind;
      onward : g.R.Reads.onward l.fn.space l.space;
      faults : g.R.Reads.faults l.fn.space ≤ g.R.Reads.faults l.space;
    }
