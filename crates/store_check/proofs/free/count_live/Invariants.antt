use Rattle.std.proofs.Common.{◌≡◌, ◌≤◌, ◌<◌, ℕ, true, false, length}
use Rattle.store_rules.specs.Rows.{ids}
use Rattle.store_rules.specs.Views.{is_live}
use Rattle.record_lists.specs.Seen.{is_seen}
use Rattle.rec_bytes.specs.Frame.{IsRead}
use Rattle.store_check.proofs.free.count_live.Given as goal

abbrev pub invariant-loop-id : goal.invariant-loop-id
invariant-loop-id g l =
    let records = (g.R.Reads.state l.fn.space).records in
    record {
      read : IsRead g.R.Reads l.fn.space l.space;
      low : l.live ≤ l.id;
      live : g.R.Reads.tells → l.live ≡ length (ids (is_live records l.file) l.id);
      on_list : g.R.Reads.tells → (x : ℕ) → x < l.id → is_live records l.file x ≡ false → is_seen l.seen x ≡ true;
    }
