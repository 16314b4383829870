use Rattle.std.proofs.Common.{◌≡◌, ◌+◌, length}
use Rattle.stream_io.specs.Reading.{HasNoneLeft}
use Rattle.stream_io.proofs.Passing.{Passed, still_to_come}
use Rattle.stream_io.proofs.line_reader.LineReader.advance.Given as goal

abbrev pub invariant-steps : goal.invariant-steps
invariant-steps g l = record {
  passed : Passed g.I.Source.tells l.fn.self (g.I.Source.left l.fn.source) l.dropped l.self (g.I.Source.left l.source);
  source_counted : g.I.Source.tells → l.self.taken + length (g.I.Source.left l.source) ≡ l.fn.self.taken + length (g.I.Source.left l.fn.source);
  none_left : g.I.Source.tells → HasNoneLeft l.fn.self (g.I.Source.left l.fn.source) → HasNoneLeft l.self (g.I.Source.left l.source);
  faults : g.I.Source.faults l.source ≡ g.I.Source.faults l.fn.source;
}

abbrev pub decreases-steps : goal.decreases-steps
decreases-steps g l = still_to_come l.self
