use Rattle.std.proofs.Common.{Bool, false, ◌≡◌, ◌+◌, length, ◌-◌, ◌^◌, ◌≤◌}
use Rattle.stream_io.specs.Reading.{used}
use Rattle.graph_session.specs.Console.{Onward}
use Rattle.graph_session.specs.Known.{as_known}
use Rattle.graph_session.specs.Session.{HaveSameDisk, shared_view, view}
use Rattle.graph_session.specs.SharedConsole.{IsSharedAt}
use Rattle.graph_session.specs.Snapshots.{SharedState}
use Rattle.graph_console.specs.AnyDisk.{over_disk}
use Rattle.graph_console.specs.Run.{shared_course}
use Rattle.graph_console.specs.Serve.{loop, progress}
use Rattle.graph_console.proofs.Admitted.{IsAtSince}
use Rattle.graph_console.proofs.AnyDisk.{IsViewed}
use Rattle.graph_console.proofs.Runs.{Serving}
use Rattle.graph_console.proofs.serve.serve.Given as goal

abbrev pub invariant-lines : goal.invariant-lines
invariant-lines g l = record {
  serving : (known : Bool) (first : SharedState) → IsSharedAt (as_known known g.D.Disk) (shared_view l.fn.session) first → g.S.Source.tells → g.K.Sink.tells
      → Serving (shared_course (as_known known g.D.Disk).tells_reads) first
      (IsAtSince (as_known known g.D.Disk) (shared_view l.fn.session) (shared_view l.session) first)
      (progress g.S.Source g.K.Sink g.D.Disk (loop l.fn.reader l.fn.input l.fn.output (shared_view l.fn.session)))
      (progress g.S.Source g.K.Sink g.D.Disk (loop l.reader l.input l.output (shared_view l.session)));
  walking : (first : SharedState) → IsSharedAt (as_known false g.D.Disk) (shared_view l.fn.session) first → g.S.Source.tells → g.K.Sink.tells
      → Serving (over_disk g.D.Disk) (shared_view l.fn.session) (IsViewed g.D.Disk (shared_view l.session))
      (progress g.S.Source g.K.Sink g.D.Disk (loop l.fn.reader l.fn.input l.fn.output (shared_view l.fn.session)))
      (progress g.S.Source g.K.Sink g.D.Disk (loop l.reader l.input l.output (shared_view l.session)));
  counted : g.S.Source.tells → l.reader.taken + length (g.S.Source.left l.input) ≡ l.fn.reader.taken + length (g.S.Source.left l.fn.input);
  onward : Onward g.D.Disk (view l.fn.session) (view l.session);
  input_later : g.S.Source.faults l.fn.input ≤ g.S.Source.faults l.input;
  output_later : g.K.Sink.faults l.fn.output ≤ g.K.Sink.faults l.output;
  same_disk : HaveSameDisk l.fn.session l.session;
}

abbrev pub decreases-lines : goal.decreases-lines
decreases-lines g l = 2 ^ 30 - used l.reader
