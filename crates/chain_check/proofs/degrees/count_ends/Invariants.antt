use Rattle.std.proofs.Common.{◌≡◌, ◌≤◌, ◌<◌, ℕ, length}
use Rattle.store_rules.specs.Rules.{degree_of}
use Rattle.store_rules.specs.Views.{rel_at}
use Rattle.chain_check.specs.Degrees.{count_at}
use Rattle.rec_bytes.specs.Frame.{IsRead}
use Rattle.chain_check.proofs.degrees.count_ends.Given as goal

abbrev pub invariant-loop-id : goal.invariant-loop-id
invariant-loop-id g l =
    let records = (g.R.Reads.state l.fn.space).records in
    record {
      read : IsRead g.R.Reads l.fn.space l.space;
      len : length l.counts ≡ length l.fn.counts;
      low : (n : ℕ) → n < length l.counts → count_at l.counts n ≤ l.id;
      counts : g.R.Reads.tells → (n : ℕ) → n < length l.counts → count_at l.counts n ≡ degree_of (rel_at records) l.id n;
    }
