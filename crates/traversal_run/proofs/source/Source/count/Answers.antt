use Rattle.std.proofs.Common.{◌≤◌, ◌+◌, ℕ, is_some, ap, refl, sym, subst, ◌∙◌, arith}
use Rattle.store_rules.specs.Graph.{graph_of}
use Rattle.rec_bytes.specs.Space.{State}
use Rattle.traversal_run.specs.Finding.{element_at, element_mark}
use Rattle.traversal_run.specs.Owing.{source_owes}
use Rattle.traversal_run.specs.Source.{HasNoneBelow, left_count}
use Rattle.traversal_run.specs.declared.source.Left.TheVariants.{Nothing}
use Rattle.traversal_run.specs.declared.source.Source.{Source}
use Rattle.traversal_run.proofs.Fed.{counts_end, counts_on, counts_passes}
use Rattle.traversal_run.proofs.LeftRows.{left-none, left-takes}
use Rattle.traversal_run.proofs.StepReads.{at_mark}
use Rattle.traversal_run.proofs.OnlyReads.{is_read-on}
use Rattle.rec_bytes.proofs.Causes.{never_ok, ok_cause}
use Rattle.traversal_run.proofs.Causes.{later_on}
use Rattle.traversal_run.proofs.source.Source.count.Goals as goal
use Rattle.traversal_run.proofs.Spending.{spends_stop}

pub returns-then-not-add-clause-counts : goal.returns-then-not-add-clause-counts
returns-then-not-add-clause-counts g c = λ tells.
    let s = g.R.Reads.state c.args.space.now in
    let now = c.loop-id.self in
    let new : Source = record { edges = now.edges; left = c.take_first.new.self } in
    let used = c.in_ok-used.ensures.is tells ∙ ap (λ (t : State). is_some (element_at t.records now.edges c.in-Some.id)) c.loop-id.invariant.read.same in
    counts_passes (graph_of s.records) c.args.self.now now new (element_at s.records now.edges c.in-Some.id) c.in_ok-used.used c.args.so_far.now
    c.loop-id.so_far c.from.result
    (c.loop-id.invariant.counted tells) (left-takes s.records now.edges now.left c.take_first.new.self c.in-Some.id c.in-Some.ensures.some) used c.from.ensures
    (c.if-not-add.ensures.past refl)

pub loop-id-preserved : goal.loop-id-preserved
loop-id-preserved g c =
    let space = g.R.Reads in
    let s = space.state c.args.space.now in
    let now = c.loop-id.self in
    let new : Source = record { edges = now.edges; left = c.take_first.new.self } in
    record {
      counted = λ tells.
          let used = c.in_ok-used.ensures.is tells ∙ ap (λ (t : State). is_some (element_at t.records now.edges c.in-Some.id)) c.loop-id.invariant.read.same in
          counts_on (graph_of s.records) c.args.self.now now new (element_at s.records now.edges c.in-Some.id) c.in_ok-used.used c.args.so_far.now
          c.loop-id.so_far c.from.result c.add.new.self
          (c.loop-id.invariant.counted tells) (left-takes s.records now.edges now.left c.take_first.new.self c.in-Some.id c.in-Some.ensures.some) used
          c.from.ensures (c.add.ensures.counted c.if-not-add.false);
      edges = c.loop-id.invariant.edges;
      mark = c.loop-id.invariant.mark;
      spent =
          let one = c.is_in_use.ensures.reads in
          let fewer = c.in-Some.ensures.fewer in
          let before = c.loop-id.invariant.spent in
          omega (arith, one, fewer, before);
      read = is_read-on space g.met.R.Reads.further_onward c.args.space.now c.loop-id.space c.is_in_use.new.space c.loop-id.invariant.read
          c.is_in_use.ensures.read;
    }

pub returns-clause-counts : goal.returns-clause-counts
returns-clause-counts g c = λ tells.
    let s = g.R.Reads.state c.args.space.now in
    let now = c.loop-id.self in
    let mark = c.loop-id.invariant.mark ∙ ap (element_mark s.records) (sym c.loop-id.invariant.edges) in
    let none = left-none s.records now.edges now.left (subst (λ n. HasNoneBelow n now.left) mark c.in_default.ensures.none.0) in
    counts_end (graph_of s.records) c.args.self.now now c.end.new.self c.args.so_far.now c.loop-id.so_far (c.loop-id.invariant.counted tells) none
    (c.end.ensures ∙ (λ i. record { edges = now.edges; left = Nothing }))

pub returns-in_err-used-clause-counts : goal.returns-in_err-used-clause-counts
returns-in_err-used-clause-counts g c _ = never_ok c.from_residual.result _ _ c.from_residual.ensures.1

pub returns-then-not-add-clause-owes : goal.returns-then-not-add-clause-owes
returns-then-not-add-clause-owes g c =
    let space = g.R.Reads in
    let s = space.state c.args.space.now in
    let t = space.state c.is_in_use.new.space in
    let one = c.is_in_use.ensures.reads in
    let fewer = c.in-Some.ensures.fewer in
    let before = c.loop-id.invariant.spent in
    at_mark s.records _ t.reads s.reads c.loop-id.self.edges c.args.self.now.edges c.take_first.new.self c.args.self.now.left
    c.loop-id.invariant.mark c.loop-id.invariant.edges (omega (arith, one, fewer, before))

pub returns-clause-owes : goal.returns-clause-owes
returns-clause-owes g c =
    let space = g.R.Reads in
    let s = space.state c.args.space.now in
    let t = space.state c.loop-id.space in
    let before = c.loop-id.invariant.spent in
    let mark = ap (λ (k : ℕ). left_count k c.args.self.now.left) c.loop-id.invariant.mark in
    subst (λ (source : Source). t.reads + source_owes s.records source ≤ s.reads + source_owes s.records c.args.self.now)
    (sym (c.end.ensures ∙ (λ i. record { edges = c.loop-id.self.edges; left = Nothing }))) (omega (arith, before, mark))

pub returns-in_err-used-clause-owes : goal.returns-in_err-used-clause-owes
returns-in_err-used-clause-owes g c =
    let s = g.R.Reads.state c.args.space.now in
    let one = c.is_in_use.ensures.reads in
    let fewer = c.in-Some.ensures.fewer in
    let before = c.loop-id.invariant.spent in
    let mark = ap (λ (k : ℕ). left_count k c.args.self.now.left) c.loop-id.invariant.mark in
    spends_stop c.from_residual.result _ s (g.R.Reads.state c.is_in_use.new.space) _ _ c.from_residual.ensures.1 (omega (arith, one, fewer, before, mark))

pub returns-then-not-add-clause-read : goal.returns-then-not-add-clause-read
returns-then-not-add-clause-read g c = is_read-on g.R.Reads g.met.R.Reads.further_onward _ _ _ c.loop-id.invariant.read c.in_ok-used.ensures.read

pub returns-then-not-add-clause-cause : goal.returns-then-not-add-clause-cause
returns-then-not-add-clause-cause g c = ok_cause _ _ _ _ (later_on c.loop-id.invariant.read.later c.in_ok-used.ensures.cause.later)
