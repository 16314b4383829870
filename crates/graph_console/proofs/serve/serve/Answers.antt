use Rattle.std.proofs.Common.{◌≡◌, ◌∙◌, ◌++◌, None, Some, ap, inl, refl, arith}
use Rattle.graph_session.specs.State.{IsQuit}
use Rattle.disk_model.proofs.Spans.{at_each_moment_none}
use Rattle.graph_session.specs.Known.{as_known}
use Rattle.graph_session.specs.Session.{shared_view, view}
use Rattle.graph_session.specs.SnapshotEffects.{SharedView}
use Rattle.graph_console.specs.AnyDisk.{over_disk, terms_on}
use Rattle.graph_console.specs.Program.{terms_from}
use Rattle.graph_console.specs.Run.{exchange_text, shared_course}
use Rattle.graph_console.specs.Serve.{Loop, Progress, loop, progress}
use Rattle.graph_console.proofs.Admitted.{carries}
use Rattle.graph_console.proofs.AnyDisk.{turn_from, walks_on}
use Rattle.graph_console.proofs.Runs.{serving_first, serving_on, served}
use Rattle.graph_console.proofs.Stretches.{onward_none, onward_on}
use Rattle.graph_console.proofs.serve.serve.Goals as goal

pub lines-init : goal.lines-init
lines-init g c = record {
  serving = λ known first is_at s k.
      serving_first (shared_course (as_known known g.D.Disk).tells_reads) first _
      (progress g.S.Source g.K.Sink g.D.Disk (loop c.args.reader.now c.args.input.now c.args.output.now (shared_view c.args.session.now))) (record {
        is_at = is_at;
        crash = λ told. at_each_moment_none (as_known known g.D.Disk) (view c.args.session.now).disk _ g.met.D.Disk.only_now told.1 (λ image left. inl left);
      }) c.requires.fresh;
  walking = λ first is_at s k.
      serving_first (over_disk g.D.Disk) (shared_view c.args.session.now) _
      (progress g.S.Source g.K.Sink g.D.Disk (loop c.args.reader.now c.args.input.now c.args.output.now (shared_view c.args.session.now)))
      (record { is = refl; state = first; is_at = is_at }) c.requires.fresh;
  counted = λ s. refl;
  onward = onward_none;
  input_later = omega arith;
  output_later = omega arith;
  same_disk = refl;
}

pub returns-in-Some-clause-serves : goal.returns-in-Some-clause-serves
returns-in-Some-clause-serves g c = λ known first is_at s k.
    let start : Progress = progress g.S.Source g.K.Sink g.D.Disk (loop c.args.reader.now c.args.input.now c.args.output.now (shared_view c.args.session.now)) in
    let old : Progress = progress g.S.Source g.K.Sink g.D.Disk (loop c.lines.reader c.lines.input c.lines.output (shared_view c.lines.session)) in
    let new : Progress = progress g.S.Source g.K.Sink g.D.Disk (loop c.serve_line.new.reader c.serve_line.new.input c.serve_line.new.output
    (shared_view c.serve_line.new.session)) in
    let so_far = c.lines.invariant.serving known first is_at s k in
    served (shared_course (as_known known g.D.Disk).tells_reads) (λ was x now step. step.blames) first _ _ _ start old new so_far
    (carries {g = as_known known g.D.Disk} (shared_view c.serve_line.new.session) so_far.steps so_far.arrives)
    (terms_from (as_known known g.D.Disk) first (view c.args.session.now).disk (view c.serve_line.new.session).disk) refl
    (λ run last since counts. record { durable = since.is_at.writer.images; crash = since.crash; counts = counts })
    c.serve_line.ensures.onward.disk_later (c.serve_line.ensures.counted s)
    (record { below_limit = c.serve_line.ensures.ends_below_limit; none_left = c.serve_line.ensures.none_left s }) c.in-Some.exit
    (c.in-Some.ensures.turns known so_far.state so_far.arrives.is_at s k)

pub returns-in-Some-clause-steps : goal.returns-in-Some-clause-steps
returns-in-Some-clause-steps g c = λ first is_at s k.
    let start : Progress = progress g.S.Source g.K.Sink g.D.Disk (loop c.args.reader.now c.args.input.now c.args.output.now (shared_view c.args.session.now)) in
    let was : Loop g.row.S.Denot g.row.K.Denot g.row.D.Denot = loop c.lines.reader c.lines.input c.lines.output (shared_view c.lines.session) in
    let now : Loop g.row.S.Denot g.row.K.Denot g.row.D.Denot = loop c.serve_line.new.reader c.serve_line.new.input c.serve_line.new.output
    (shared_view c.serve_line.new.session) in
    let old : Progress = progress g.S.Source g.K.Sink g.D.Disk was in
    let new : Progress = progress g.S.Source g.K.Sink g.D.Disk now in
    let so_far = c.lines.invariant.walking first is_at s k in
    served (over_disk g.D.Disk) (λ was x now step. step.blames) (shared_view c.args.session.now) _ _ _ start old new so_far
    (walks_on g.D.Disk (shared_view c.serve_line.new.session) so_far.run so_far.state)
    (terms_on g.D.Disk (shared_view c.args.session.now) (view c.serve_line.new.session).disk) refl
    (λ run last viewed counts. ap (λ (v : SharedView g.row.D.Denot). v.session.disk) viewed.is)
    c.serve_line.ensures.onward.disk_later (c.serve_line.ensures.counted s)
    (record { below_limit = c.serve_line.ensures.ends_below_limit; none_left = c.serve_line.ensures.none_left s }) c.in-Some.exit
    (turn_from g.S.Source g.K.Sink g.D.Disk (Some c.in-Some.exit) was now c.in-Some.ensures.steps so_far.state so_far.arrives s k)

pub lines-preserved : goal.lines-preserved
lines-preserved g c = record {
  serving = λ known first is_at s k.
      let start : Progress = progress g.S.Source g.K.Sink g.D.Disk (loop c.args.reader.now c.args.input.now c.args.output.now (shared_view c.args.session.now))
      in
      let old : Progress = progress g.S.Source g.K.Sink g.D.Disk (loop c.lines.reader c.lines.input c.lines.output (shared_view c.lines.session)) in
      let new : Progress = progress g.S.Source g.K.Sink g.D.Disk (loop c.serve_line.new.reader c.serve_line.new.input c.serve_line.new.output
      (shared_view c.serve_line.new.session)) in
      let so_far = c.lines.invariant.serving known first is_at s k in
      let says = c.in_default.ensures.turns known so_far.state so_far.arrives.is_at s k in
      serving_on (shared_course (as_known known g.D.Disk).tells_reads) (λ was x now step. step.blames) first _ _ _ start old new so_far
      (carries {g = as_known known g.D.Disk} (shared_view c.serve_line.new.session) so_far.steps so_far.arrives)
      (λ after x. (¬ IsQuit x.line) × (new.taken ≡ old.taken ++ exchange_text x)) says says.more.0 says.more.1
      c.serve_line.ensures.onward.disk_later c.serve_line.ensures.stays_ended (c.serve_line.ensures.counted s)
      (record { below_limit = c.serve_line.ensures.ends_below_limit; none_left = c.serve_line.ensures.none_left s });
  walking = λ first is_at s k.
      let start : Progress = progress g.S.Source g.K.Sink g.D.Disk (loop c.args.reader.now c.args.input.now c.args.output.now (shared_view c.args.session.now))
      in
      let was : Loop g.row.S.Denot g.row.K.Denot g.row.D.Denot = loop c.lines.reader c.lines.input c.lines.output (shared_view c.lines.session) in
      let now : Loop g.row.S.Denot g.row.K.Denot g.row.D.Denot = loop c.serve_line.new.reader c.serve_line.new.input c.serve_line.new.output
      (shared_view c.serve_line.new.session) in
      let old : Progress = progress g.S.Source g.K.Sink g.D.Disk was in
      let new : Progress = progress g.S.Source g.K.Sink g.D.Disk now in
      let so_far = c.lines.invariant.walking first is_at s k in
      let says = turn_from g.S.Source g.K.Sink g.D.Disk None was now c.in_default.ensures.steps so_far.state so_far.arrives s k in
      serving_on (over_disk g.D.Disk) (λ was x now step. step.blames) (shared_view c.args.session.now) _ _ _ start old new so_far
      (walks_on g.D.Disk (shared_view c.serve_line.new.session) so_far.run so_far.state)
      (λ after x. (¬ IsQuit x.line) × (new.taken ≡ old.taken ++ exchange_text x)) says says.more.0 says.more.1
      c.serve_line.ensures.onward.disk_later c.serve_line.ensures.stays_ended (c.serve_line.ensures.counted s)
      (record { below_limit = c.serve_line.ensures.ends_below_limit; none_left = c.serve_line.ensures.none_left s });
  counted = λ s. c.serve_line.ensures.counted s ∙ c.lines.invariant.counted s;
  onward = onward_on c.lines.invariant.onward c.serve_line.ensures.onward;
  input_later = omega (arith, c.lines.invariant.input_later, c.serve_line.ensures.input_later);
  output_later = omega (arith, c.lines.invariant.output_later, c.serve_line.ensures.output_later);
  same_disk = c.serve_line.ensures.same_disk ∙ c.lines.invariant.same_disk;
}

pub returns-in-Some-clause-within : goal.returns-in-Some-clause-within
returns-in-Some-clause-within g c = λ s. omega (
  arith,
  c.requires.fresh.taken,
  c.serve_line.ensures.counted s,
  c.lines.invariant.counted s,
  c.serve_line.ensures.limit,
)
