use Rattle.std.proofs.Common.{◌≡◌, ◌<◌, ◌*◌, length, map, take}
use Rattle.std.specs.List.{All}
use Rattle.chain_check.specs.LinkRows.{row_at, row_end}
use Rattle.chain_check.proofs.row_chains.ends_of_rows.Given as goal

abbrev pub invariant-loop-id : goal.invariant-loop-id
invariant-loop-id l = record {
  low : All (λ x. x < 2 * length l.rows) l.ends.items;
  ends : l.ends.items ≡ map (λ x. row_end l.node x (row_at l.rows x)) (take l.id-index l.ids);
}
