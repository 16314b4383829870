use Rattle.std.proofs.Common.{◌≡◌, false, ℕ, ◌<◌}
use Rattle.std.specs.List.{list_any}
use Rattle.rec_bytes.specs.Record.{field}
use Rattle.store_check.specs.Layouts.{has_place}
use Rattle.store_check.proofs.layout.is_blank_outside.Given as goal

abbrev pub invariant-loop-place : goal.invariant-loop-place
invariant-loop-place l = (i : ℕ) → i < l.place → list_any (has_place i) l.used ≡ false → field 1 l.rec i ≡ 0
