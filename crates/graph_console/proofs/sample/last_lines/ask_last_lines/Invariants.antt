use Rattle.std.proofs.Common.{◌≡◌, ◌≤◌, List, ℕ, [], ◌++◌, take}
use Rattle.console_words.specs.declared.sample_options.SampleOptions.{SampleOptions}
use Rattle.graph_session.specs.Session.{shared_view}
use Rattle.graph_console.specs.Sample.{last_lines}
use Rattle.graph_console.specs.Sampling.{SampledTo}
use Rattle.graph_console.proofs.sample.last_lines.ask_last_lines.Given as goal

abbrev pub invariant-lines : goal.invariant-lines
invariant-lines g l = record {
  sampled : (options : SampleOptions) → SampledTo g.D.Disk options [] (shared_view l.fn.session) [] → g.K.Sink.tells
      → (text : List ℕ) × (g.K.Sink.taken l.output ≡ g.K.Sink.taken l.fn.output ++ text)
      × SampledTo g.D.Disk options (take l.index last_lines) (shared_view l.session) text;
  later : g.K.Sink.faults l.fn.output ≤ g.K.Sink.faults l.output;
}
