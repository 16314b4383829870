use Rattle.std.proofs.Common.{◌≡◌, ◌<◌, length}
use Rattle.std.specs.List.{All}
use Rattle.rec_bytes.specs.Format.{nil}
use Rattle.record_lists.proofs.LineLaws.{IsPath}
use Rattle.chain_check.specs.LinkRows.{row_at, row_fits, row_next}
use Rattle.chain_check.proofs.row_chains.follow_rows.Given as goal

-- what was met so far
abbrev pub invariant-loop : goal.invariant-loop
invariant-loop l = record {
  low : All (λ x. x < length l.rows) l.ids.items;
  count : length l.ids.items ≡ l.counter;
  path : IsPath (λ x. row_next l.node (row_at l.rows x)) (λ before x. row_fits l.node before (row_at l.rows x)) (length l.rows) nil l.first l.ids.items l.before
      l.at;
}
