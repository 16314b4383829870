use Rattle.std.proofs.Common.{◌≡◌, ◌∙◌, List, ℕ, [], ◌++◌, Some, suc, ap, arith, append_assoc, drop, subst, sym, take}
use Rattle.std.proofs.lemmas.List.{append-nil}
use Rattle.graph_session.specs.Session.{shared_view}
use Rattle.graph_console.specs.Sample.{last_lines}
use Rattle.graph_console.specs.Sampling.{SampledTo}
use Rattle.graph_console.proofs.Samples.{ends_in_line, ends_sample, last_lines_all, last_lines_more, last_lines_split, sampled_on}
use Rattle.graph_console.proofs.sample.last_lines.ask_last_lines.Goals as goal

pub lines-init : goal.lines-init
lines-init g c = record {
  sampled = λ options s k. ([], sym (append-nil (g.K.Sink.taken c.args.output.now)), s);
  later = omega arith;
}

pub lines-preserved : goal.lines-preserved
lines-preserved g c = record {
  sampled = λ options s k.
      let so_far = c.lines.invariant.sampled options s k in
      let asks = c.in_default.ensures.asks so_far.2.last so_far.2.is_at k in (
        so_far.0 ++ asks.0,
        asks.2 ∙ ap (λ (taken : List ℕ). taken ++ asks.0) so_far.1 ∙ append_assoc (g.K.Sink.taken c.args.output.now) so_far.0 asks.0,
        subst (λ (asked : List (List ℕ)). SampledTo g.D.Disk options asked (shared_view c.ask_aloud.new.session) (so_far.0 ++ asks.0))
            (last_lines_more c.lines.index c.lines-test.true c.last_line.result.now c.last_line.ensures)
            (sampled_on (take c.lines.index last_lines) c.last_line.result.now asks.0 so_far.0 (shared_view c.lines.session)
            (shared_view c.ask_aloud.new.session) so_far.2 asks.1),
      );
  later = omega (arith, c.lines.invariant.later, c.in_default.ensures.later);
}

pub returns-in-Some-clause-samples : goal.returns-in-Some-clause-samples
returns-in-Some-clause-samples g c = λ options s k.
    let so_far = c.lines.invariant.sampled options s k in
    ends_in_line (take c.lines.index last_lines) c.last_line.result.now (drop (suc c.lines.index) last_lines) (shared_view c.lines.session)
    (shared_view c.ask_aloud.new.session) so_far.0
    (g.K.Sink.taken c.args.output.now) (g.K.Sink.taken c.lines.output) (g.K.Sink.taken c.ask_aloud.new.output) c.in-Some.exit
    (last_lines_split c.lines.index c.lines-test.true c.last_line.result.now c.last_line.ensures) so_far.2 so_far.1
    (c.in-Some.ensures.asks so_far.2.last so_far.2.is_at k)

pub returns-in-Some-clause-cause : goal.returns-in-Some-clause-cause
returns-in-Some-clause-cause g c = λ is. omega (arith, c.in-Some.ensures.cause (ap Some is), c.lines.invariant.later)

pub returns-clause-samples : goal.returns-clause-samples
returns-clause-samples g c = λ options s k.
    let so_far = c.lines.invariant.sampled options s k in
    let at_end : c.lines.index ≡ 5 = omega arith in (
      so_far.0,
      so_far.1,
      ends_sample (shared_view c.lines.session) so_far.0
          (subst (λ (asked : List (List ℕ)). SampledTo g.D.Disk options asked (shared_view c.lines.session) so_far.0) (last_lines_all c.lines.index at_end)
          so_far.2),
    )
