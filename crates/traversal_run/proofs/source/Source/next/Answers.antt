use Rattle.std.proofs.Common.{None, Some, ◌≡◌, ◌++◌, ◌+◌, ℕ, false, ap, sym, ◌∙◌, subst, arith}
use Rattle.std.proofs.lemmas.Result.{err_from_is_err_and}
use Rattle.rec_bytes.specs.Space.{State}
use Rattle.store_rules.specs.Graph.{graph_of}
use Rattle.store_rules.specs.Rows.{option_list}
use Rattle.traversal_run.specs.Finding.{element_at, element_mark}
use Rattle.traversal_run.specs.Scan.{vertices_from}
use Rattle.traversal_run.specs.Source.{HasNoneBelow, elements_left, left_count, left_of}
use Rattle.traversal_run.specs.declared.source.Source.{Source}
use Rattle.traversal_run.proofs.Broken.{blamed_before}
use Rattle.traversal_run.proofs.LeftRows.{gives-later, gives-some, left-none, left-takes}
use Rattle.traversal_run.proofs.OnlyReads.{is_read-on, named-read}
use Rattle.traversal_run.proofs.Scans.{scan_found}
use Rattle.traversal_run.proofs.StepReads.{at_mark}
use Rattle.traversal_run.proofs.Causes.{cause_passed, later_on}
use Rattle.rec_bytes.proofs.Causes.{never_ok, ok_cause}
use Rattle.traversal_run.proofs.source.Source.next.Goals as goal
use Rattle.traversal_run.proofs.Spending.{spends_stop}

no_id : (id : ℕ) → Some id ≡ None → ⊥
no_id id none = cc

pub returns-then-is_some-clause-vertex : goal.returns-then-is_some-clause-vertex
returns-then-is_some-clause-vertex g c = λ at is.
    let space = g.R.Reads in
    let v = c.loop-id.invariant.vertex at is in
    let take = c.in-Some.ensures.from v.0 v.2 in
    let edges : c.loop-id.self.edges ≡ false = c.loop-id.invariant.edges ∙ ap (λ (s : Source). s.edges) is in
    let new : Source = record { edges = c.loop-id.self.edges; left = c.take_first.new.self } in
    let source : new ≡ vertices_from (v.0 + 1) = λ i. record { edges = edges i; left = take.1 i } in
    scan_found at v.0 (space.state c.args.space.now).reads (space.state c.loop-id.space).reads (space.state c.element_at.new.space).reads c.in-Some.id
    c.in_ok-item.item new
    v.1 v.3 c.element_at.ensures.reads take.0 source (c.in_ok-item.ensures.vertex edges)

pub returns-then-is_some-clause-first : goal.returns-then-is_some-clause-first
returns-then-is_some-clause-first g c = λ tells store.
    let space = g.R.Reads in
    let s = space.state c.args.space.now in
    let now = c.loop-id.self in
    let new : Source = record { edges = now.edges; left = c.take_first.new.self } in
    let read = c.loop-id.invariant.read in
    let item = c.in_ok-item.ensures.is tells (named-read space c.args.space.now c.loop-id.space c.args.names.now.names read store)
    ∙ ap (λ (t : State). element_at t.records now.edges c.in-Some.id) read.same in
    let takes = left-takes s.records now.edges now.left c.take_first.new.self c.in-Some.id c.in-Some.ensures.some in
    gives-some (graph_of s.records) c.args.self.now now new c.in_ok-item.item (sym c.is_some.ensures ∙ c.if-is_some.true) (c.loop-id.invariant.same tells store)
    (takes ∙ ap (λ found. option_list found ++ left_of (graph_of s.records) new) (sym item))

pub loop-id-preserved : goal.loop-id-preserved
loop-id-preserved g c =
    let space = g.R.Reads in
    let s = space.state c.args.space.now in
    let now = c.loop-id.self in
    let new : Source = record { edges = now.edges; left = c.take_first.new.self } in
    let read = c.loop-id.invariant.read in
    record {
      same = λ tells store.
          let item = c.in_ok-item.ensures.is tells (named-read space c.args.space.now c.loop-id.space c.args.names.now.names read store)
          ∙ ap (λ (t : State). element_at t.records now.edges c.in-Some.id) read.same in
          let takes = left-takes s.records now.edges now.left c.take_first.new.self c.in-Some.id c.in-Some.ensures.some in
          gives-later (graph_of s.records) c.args.self.now now new c.in_ok-item.item (sym c.is_some.ensures ∙ c.if-is_some.false)
          (c.loop-id.invariant.same tells store)
          (takes ∙ ap (λ found. option_list found ++ left_of (graph_of s.records) new) (sym item));
      edges = c.loop-id.invariant.edges;
      over = c.take_first.ensures.over ∙ c.loop-id.invariant.over;
      unread = λ over. absurd (no_id c.in-Some.id (sym c.in-Some.is ∙ c.take_first.ensures.nothing (c.loop-id.invariant.over ∙ over)));
      vertex = λ at is.
          let v = c.loop-id.invariant.vertex at is in
          let take = c.in-Some.ensures.from v.0 v.2 in
          let more = c.element_at.ensures.reads in
          let later = v.1 in
          let before = v.3 in
          (v.0 + 1, omega arith, take.1, omega arith);
      spent =
          let one = c.element_at.ensures.reads in
          let fewer = c.in-Some.ensures.fewer in
          let before = c.loop-id.invariant.spent in
          omega (arith, one, fewer, before);
      read = is_read-on space g.met.R.Reads.further_onward c.args.space.now c.loop-id.space c.element_at.new.space read c.element_at.ensures.read;
    }

pub returns-clause-first : goal.returns-clause-first
returns-clause-first g c = λ tells store.
    let s = g.R.Reads.state c.args.space.now in
    let now = c.loop-id.self in
    let mark = c.requires ∙ ap (element_mark s.records) (sym c.loop-id.invariant.edges) in
    let none = subst (λ n. HasNoneBelow n now.left) mark c.in_default.ensures.none.0 in
    let nothing = left-none s.records now.edges now.left none in
    (sym (c.loop-id.invariant.same tells store) ∙ nothing, ap (elements_left (graph_of s.records) now.edges) c.in_default.ensures.none.1 ∙ nothing)

pub returns-in_err-item-clause-damaged : goal.returns-in_err-item-clause-damaged
returns-in_err-item-clause-damaged g c = λ tells.
    let space = g.R.Reads in
    let p = err_from_is_err_and c.from_residual.result c.from_residual.ensures.1 in
    rw (p.1, p.2) (blamed_before (space.state c.args.space.now) (space.state c.loop-id.space) c.loop-id.invariant.read.same c.in_err-item.field-0.0
    (c.in_err-item.ensures.damaged tells))

pub returns-in_err-item-clause-cause : goal.returns-in_err-item-clause-cause
returns-in_err-item-clause-cause g c =
    cause_passed _ _ _ c.from_residual.result c.in_err-item.field-0.0 c.loop-id.invariant.read.later c.in_err-item.ensures.cause c.from_residual.ensures.1

pub returns-in_err-item-clause-first : goal.returns-in_err-item-clause-first
returns-in_err-item-clause-first g c _ _ = never_ok c.from_residual.result _ _ c.from_residual.ensures.1

pub returns-in_err-item-clause-vertex : goal.returns-in_err-item-clause-vertex
returns-in_err-item-clause-vertex g c _ _ = never_ok c.from_residual.result _ _ c.from_residual.ensures.1

pub returns-in_err-item-clause-none : goal.returns-in_err-item-clause-none
returns-in_err-item-clause-none g c _ = never_ok c.from_residual.result _ _ c.from_residual.ensures.1

pub returns-then-is_some-clause-unread : goal.returns-then-is_some-clause-unread
returns-then-is_some-clause-unread g c =
    λ over. absurd (no_id c.in-Some.id (sym c.in-Some.is ∙ c.take_first.ensures.nothing (c.loop-id.invariant.over ∙ over)))

pub returns-in_err-item-clause-unread : goal.returns-in_err-item-clause-unread
returns-in_err-item-clause-unread g c =
    λ over. absurd (no_id c.in-Some.id (sym c.in-Some.is ∙ c.take_first.ensures.nothing (c.loop-id.invariant.over ∙ over)))

pub returns-then-is_some-clause-owes : goal.returns-then-is_some-clause-owes
returns-then-is_some-clause-owes g c =
    let space = g.R.Reads in
    let s = space.state c.args.space.now in
    let t = space.state c.element_at.new.space in
    let one = c.element_at.ensures.reads in
    let fewer = c.in-Some.ensures.fewer in
    let before = c.loop-id.invariant.spent in
    at_mark s.records c.args.mark t.reads s.reads c.loop-id.self.edges c.args.self.now.edges c.take_first.new.self c.args.self.now.left c.requires
    c.loop-id.invariant.edges (omega (arith, one, fewer, before))

pub returns-clause-owes : goal.returns-clause-owes
returns-clause-owes g c =
    let space = g.R.Reads in
    let s = space.state c.args.space.now in
    let t = space.state c.loop-id.space in
    let same = ap (left_count c.args.mark) c.in_default.ensures.none.1 in
    let before = c.loop-id.invariant.spent in
    at_mark s.records c.args.mark t.reads s.reads c.loop-id.self.edges c.args.self.now.edges c.take_first.new.self c.args.self.now.left c.requires
    c.loop-id.invariant.edges (omega (arith, same, before))

pub returns-in_err-item-clause-owes : goal.returns-in_err-item-clause-owes
returns-in_err-item-clause-owes g c =
    let s = g.R.Reads.state c.args.space.now in
    let one = c.element_at.ensures.reads in
    let fewer = c.in-Some.ensures.fewer in
    let before = c.loop-id.invariant.spent in
    let mark = ap (λ (k : ℕ). left_count k c.args.self.now.left) c.requires in
    spends_stop c.from_residual.result _ s (g.R.Reads.state c.element_at.new.space) _ _ c.from_residual.ensures.1 (omega (arith, one, fewer, before, mark))

pub returns-then-is_some-clause-read : goal.returns-then-is_some-clause-read
returns-then-is_some-clause-read g c = is_read-on g.R.Reads g.met.R.Reads.further_onward _ _ _ c.loop-id.invariant.read c.in_ok-item.ensures.read

pub returns-then-is_some-clause-cause : goal.returns-then-is_some-clause-cause
returns-then-is_some-clause-cause g c = ok_cause _ _ _ _ (later_on c.loop-id.invariant.read.later c.in_ok-item.ensures.cause.later)

pub returns-in_err-item-clause-read : goal.returns-in_err-item-clause-read
returns-in_err-item-clause-read g c = is_read-on g.R.Reads g.met.R.Reads.further_onward _ _ _ c.loop-id.invariant.read c.in_err-item.ensures.read
