use Rattle.std.proofs.Common.{refl}
use Rattle.graph_session.specs.Known.{as_known}
use Rattle.graph_session.specs.Session.{shared_view, with_sink}
use Rattle.graph_session.specs.SharedAnswer.{SharedComesTo}
use Rattle.graph_session.specs.Snapshots.{SharedState}
use Rattle.graph_session.specs.SnapshotEffects.{SharedView}
use Rattle.graph_console.specs.AnyDisk.{over_disk}
use Rattle.graph_console.specs.Run.{shared_course}
use Rattle.graph_console.specs.Serve.{IsViewedAs, Progress, loop, progress}
use Rattle.graph_console.proofs.Turns.{answers_at, answers_over, comes_none, says_after, says_at_end}
use Rattle.graph_console.proofs.serve.serve_line.Goals as goal

pub returns-in-Line-clause-turns : goal.returns-in-Line-clause-turns
returns-in-Line-clause-turns g c = λ known state is_at s k.
    let takes = rw c.in-Line.is at (c.next.follows.holds-at-none.takes s) in
    let old : Progress = progress g.S.Source g.K.Sink g.D.Disk (loop c.args.reader.now c.args.input.now c.args.output.now (shared_view c.args.session.now)) in
    let new : Progress = progress g.S.Source g.K.Sink g.D.Disk (loop c.next.follows.lender-at-none c.next.new.source c.step-turn.new.output
    (shared_view c.step-turn.new.self)) in
    rw (c.exit_after_turn.ensures, c.health.ensures)
    (says_after old new takes c.step-turn.result
    (answers_at k {old = with_sink c.args.session.now c.args.output.now} {new = with_sink c.step-turn.new.self c.step-turn.new.output}
    c.step-turn.ensures.answers known state is_at))

pub returns-in-Line-clause-steps : goal.returns-in-Line-clause-steps
returns-in-Line-clause-steps g c = λ state is_at s k.
    let takes = rw c.in-Line.is at (c.next.follows.holds-at-none.takes s) in
    let old : Progress = progress g.S.Source g.K.Sink g.D.Disk (loop c.args.reader.now c.args.input.now c.args.output.now (shared_view c.args.session.now)) in
    let new : Progress = progress g.S.Source g.K.Sink g.D.Disk (loop c.next.follows.lender-at-none c.next.new.source c.step-turn.new.output
    (shared_view c.step-turn.new.self)) in
    rw (c.exit_after_turn.ensures, c.health.ensures)
    (says_after old new takes c.step-turn.result
    (answers_over k {old = with_sink c.args.session.now c.args.output.now} {new = with_sink c.step-turn.new.self c.step-turn.new.output}
    c.step-turn.ensures.answers state is_at))

pub returns-in-TooLong-clause-turns : goal.returns-in-TooLong-clause-turns
returns-in-TooLong-clause-turns g c = λ known state is_at s k.
    let takes = rw c.in-TooLong.is at (c.next.follows.holds-at-none.takes s) in
    let old : Progress = progress g.S.Source g.K.Sink g.D.Disk (loop c.args.reader.now c.args.input.now c.args.output.now (shared_view c.args.session.now)) in
    let new : Progress = progress g.S.Source g.K.Sink g.D.Disk (loop c.next.follows.lender-at-none c.next.new.source c.too_long-turn.new.output
    (shared_view c.too_long-turn.new.self)) in
    rw (c.exit_after_turn-in-TooLong.ensures, c.health-in-TooLong.ensures)
    (says_after old new takes c.too_long-turn.result
    (answers_at k {old = with_sink c.args.session.now c.args.output.now} {new = with_sink c.too_long-turn.new.self c.too_long-turn.new.output}
    c.too_long-turn.ensures.answers known state is_at))

pub returns-in-TooLong-clause-steps : goal.returns-in-TooLong-clause-steps
returns-in-TooLong-clause-steps g c = λ state is_at s k.
    let takes = rw c.in-TooLong.is at (c.next.follows.holds-at-none.takes s) in
    let old : Progress = progress g.S.Source g.K.Sink g.D.Disk (loop c.args.reader.now c.args.input.now c.args.output.now (shared_view c.args.session.now)) in
    let new : Progress = progress g.S.Source g.K.Sink g.D.Disk (loop c.next.follows.lender-at-none c.next.new.source c.too_long-turn.new.output
    (shared_view c.too_long-turn.new.self)) in
    rw (c.exit_after_turn-in-TooLong.ensures, c.health-in-TooLong.ensures)
    (says_after old new takes c.too_long-turn.result
    (answers_over k {old = with_sink c.args.session.now c.args.output.now} {new = with_sink c.too_long-turn.new.self c.too_long-turn.new.output}
    c.too_long-turn.ensures.answers state is_at))

pub returns-in-End-clause-turns : goal.returns-in-End-clause-turns
returns-in-End-clause-turns g c = λ known state is_at s k.
    let takes = rw c.in-End.is at (c.next.follows.holds-at-none.takes s) in
    let session = shared_view c.args.session.now in
    let old : Progress = progress g.S.Source g.K.Sink g.D.Disk (loop c.args.reader.now c.args.input.now c.args.output.now session) in
    let new : Progress = progress g.S.Source g.K.Sink g.D.Disk (loop c.next.follows.lender-at-none c.next.new.source c.args.output.now session) in
    let comes_to : SharedState → Type 0 = SharedComesTo (as_known known g.D.Disk) session session state in
    let stays : comes_to state = comes_none (as_known known g.D.Disk) g.met.D.Disk.only_now (shared_view c.args.session.now) state is_at in
    rw (c.exit_at_end.ensures, c.health-in-End.ensures) (says_at_end (shared_course (as_known known g.D.Disk).tells_reads) state comes_to old new
    session.session.console.health takes.0 is_at.writer.health stays refl takes.2)

pub returns-in-End-clause-steps : goal.returns-in-End-clause-steps
returns-in-End-clause-steps g c = λ state is_at s k.
    let takes = rw c.in-End.is at (c.next.follows.holds-at-none.takes s) in
    let session : SharedView g.row.D.Denot = shared_view c.args.session.now in
    let old : Progress = progress g.S.Source g.K.Sink g.D.Disk (loop c.args.reader.now c.args.input.now c.args.output.now session) in
    let new : Progress = progress g.S.Source g.K.Sink g.D.Disk (loop c.next.follows.lender-at-none c.next.new.source c.args.output.now session) in
    rw (c.exit_at_end.ensures, c.health-in-End.ensures)
    (says_at_end (over_disk g.D.Disk) session (IsViewedAs g.D.Disk session) old new session.session.console.health takes.0 refl
    (record { is = refl; state = state; is_at = is_at }) refl takes.2)

pub returns-in-SourceFault-clause-turns : goal.returns-in-SourceFault-clause-turns
returns-in-SourceFault-clause-turns g c = λ known state is_at s k. record {
  drops = rw c.in-SourceFault.is at (c.next.follows.holds-at-none.takes s);
  stops = (rw c.in-SourceFault.is at c.next.follows.holds-at-none.counts).0;
  arrives = comes_none (as_known known g.D.Disk) g.met.D.Disk.only_now (shared_view c.args.session.now) state is_at;
  output = refl;
}

pub returns-in-Exhausted-clause-turns : goal.returns-in-Exhausted-clause-turns
returns-in-Exhausted-clause-turns g c = λ known state is_at s k. (
  record {
    drops = rw c.in-Exhausted.is at (c.next.follows.holds-at-none.takes s);
    stops = (rw c.in-Exhausted.is at c.next.follows.holds-at-none.counts).0;
    arrives = comes_none (as_known known g.D.Disk) g.met.D.Disk.only_now (shared_view c.args.session.now) state is_at;
    output = refl;
  },
  (rw c.in-Exhausted.is at c.next.follows.holds-at-none.counts).1,
)

pub returns-in-SourceFault-clause-steps : goal.returns-in-SourceFault-clause-steps
returns-in-SourceFault-clause-steps g c = λ state is_at s k. record {
  drops = rw c.in-SourceFault.is at (c.next.follows.holds-at-none.takes s);
  stops = (rw c.in-SourceFault.is at c.next.follows.holds-at-none.counts).0;
  arrives = record { is = refl; state = state; is_at = is_at };
  output = refl;
}

pub returns-in-Exhausted-clause-steps : goal.returns-in-Exhausted-clause-steps
returns-in-Exhausted-clause-steps g c = λ state is_at s k. (
  record {
    drops = rw c.in-Exhausted.is at (c.next.follows.holds-at-none.takes s);
    stops = (rw c.in-Exhausted.is at c.next.follows.holds-at-none.counts).0;
    arrives = record { is = refl; state = state; is_at = is_at };
    output = refl;
  },
  (rw c.in-Exhausted.is at c.next.follows.holds-at-none.counts).1,
)
