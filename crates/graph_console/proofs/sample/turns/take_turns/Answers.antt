use Rattle.std.proofs.Common.{◌≡◌, ◌∙◌, List, ℕ, arith, subst, sym}
use Rattle.graph_session.specs.Session.{shared_view}
use Rattle.graph_console.specs.Sample.{Adds, SampleState, turn}
use Rattle.graph_console.specs.Sampling.{AnswersWell, TookTurns}
use Rattle.graph_console.proofs.Samples.{no_turns, turn_more}
use Rattle.graph_console.proofs.sample.turns.take_turns.Goals as goal

pub turns-init : goal.turns-init
turns-init g c = λ is_at.
    subst (λ (sample : SampleState). TookTurns g.D.Disk c.args.options 0 sample (shared_view c.args.session.now)) (sym c.new-sampler.ensures)
    (no_turns g.D.Disk c.args.options (shared_view c.args.session.now) is_at)

pub turns-preserved : goal.turns-preserved
turns-preserved g c = λ is_at.
    let line_is = c.as_bytes.ensures ∙ c.next_line-line.ensures.line in
    turn_more g.D.Disk c.args.options c.turns._turn c.turns.sampler c.note.new.self (shared_view c.turns.session) (shared_view c.ask.new.session)
    c.taken.result.now (c.turns.invariant is_at)
    (λ state at.
    subst (λ (text : List ℕ). AnswersWell g.D.Disk (turn c.turns.sampler).line text state (shared_view c.ask.new.session)) (sym c.taken.ensures)
    (subst (λ (line : List ℕ). AnswersWell g.D.Disk line c.in_ok-reply.reply.taken state (shared_view c.ask.new.session)) line_is
    (c.in_ok-reply.ensures state at)))
    (subst (λ (after : SampleState). Adds c.taken.result.now after c.note.new.self) c.next_line-line.ensures.after c.in_ok-note.ensures)

pub returns : goal.returns
returns g c = λ is_at.
    let all : c.turns._turn ≡ c.args.options.count = omega arith in (
      c.turns.sampler,
      subst (λ (turns : ℕ). TookTurns g.D.Disk c.args.options turns c.turns.sampler (shared_view c.turns.session)) all
          (c.turns.invariant is_at),
    )
