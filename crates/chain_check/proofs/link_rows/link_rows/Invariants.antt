use Rattle.std.proofs.Common.{◌≡◌, ◌<◌, ℕ, length}
use Rattle.rec_bytes.specs.Format.{relationships_file}
use Rattle.store_rules.specs.Views.{rec_at}
use Rattle.chain_check.specs.LinkRows.{link_row, row_at}
use Rattle.rec_bytes.specs.Frame.{IsRead}
use Rattle.chain_check.proofs.link_rows.link_rows.Given as goal

abbrev pub invariant-loop-id : goal.invariant-loop-id
invariant-loop-id g l =
    let s = g.R.Reads.state l.fn.space in
    record {
      read : IsRead g.R.Reads l.fn.space l.space;
      len : length l.rows.items ≡ l.id;
      rows : g.R.Reads.tells → (x : ℕ) → x < length l.rows.items → row_at l.rows.items x ≡ link_row (rec_at s.records relationships_file x);
    }
