use Rattle.std.proofs.Common.{Bool, List, arith, false, get_or, inl, inr, length, nat_eq, subst, sym, take, true, ℕ, ◌+◌, ◌-◌, ◌<◌, ◌∙◌, ◌≡◌}
use Rattle.std.specs.List.{sum_by}
use Rattle.std.proofs.lemmas.List.{get_or-take, length-take-le}
use Rattle.std.proofs.lemmas.Bool.{OnFalse_at, OnFalse_from, OnTrue_at, OnTrue_from, cases_lt, eqb-false, false≢true}
use Rattle.std.proofs.lemmas.Result.{err_from_is_err_and}
use Rattle.plain_graph.specs.Graph.{has_node}
use Rattle.rec_bytes.specs.Fault.{of_row}
use Rattle.rec_bytes.specs.Space.{State}
use Rattle.plain_graph.specs.declared.direction.Direction.{Direction}
use Rattle.chain_edit.specs.Walking.{ReadsAtMost}
use Rattle.expand.specs.Costs.{most_reads}
use Rattle.expand.proofs.ReadCounts.{reads_both}
use Rattle.path_find.specs.Costs.{left_nodes, nodes_reads}
use Rattle.path_find.proofs.Costs.{first_reads-all, first_reads-more, reads_none, reads_within}
use Rattle.path_find.specs.Checking.{IsStep, IsWalkOrNone}
use Rattle.path_find.specs.WalkSearch.{neighbours_for}
use Rattle.path_find.proofs.Answered.{load_fault}
use Rattle.path_find.proofs.CheckLaws.{last-from_walk, step-from_walk, walk-from_steps}
use Rattle.path_find.proofs.OnlyReads.{broken-read, is_read-none, is_read-on, same-read, store-read}
use Rattle.path_find.proofs.Causes.{cause_passed, row_passed}
use Rattle.rec_bytes.proofs.Causes.{never_ok}
use Rattle.path_find.proofs.stepping.is_walk.Goals as goal
use Rattle.store_rules.specs.Graph.{graph_in}

-- at so many first nodes of a walk, and at one more
step_reads : (walk : List ℕ) (row : ℕ) → row < length walk - 1 → (old mid after : State) (direction : Direction) (labels : List ℕ)
    → ReadsAtMost (nodes_reads old direction labels (take row (left_nodes walk))) old mid
    → ReadsAtMost (most_reads old direction labels (get_or walk row 0)) mid after
    → ReadsAtMost (nodes_reads old direction labels (take (row + 1) (left_nodes walk))) old after
step_reads walk row low old mid after direction labels before one =
    let f = most_reads old direction labels in
    let long = length-take-le (length walk - 1) walk (omega arith) in
    first_reads-more f (left_nodes walk) row old mid after 0 (omega (arith, long, low)) before
    (subst (λ n. ReadsAtMost (f n) mid after) (sym (get_or-take (length walk - 1) walk row 0 low)) one)

-- a list that isn't empty
some_in : (n : ℕ) (b : Bool) → b ≡ nat_eq n 0 → b ≡ false → 0 < n
some_in n b is none = let not : n ≡ 0 → ⊥ = eqb-false n 0 (sym is ∙ none) in omega (arith, not)

pub returns-then-walk-last-clause-no : goal.returns-then-walk-last-clause-no
returns-then-walk-last-clause-no g c = λ tells store. λ is.
    let near = neighbours_for (g.R.Reads.state c.args.reads.now) c.args.sought.now in
    c.if-walk-last.true (last-from_walk near c.args.sought.now.from c.args.sought.now.to c.args.walk.now
    (some_in (length c.args.walk.now) c.is_empty.result c.is_empty.ensures
    c.if-is_empty.false) is).0

pub returns-then-not-steps-clause-no : goal.returns-then-not-steps-clause-no
returns-then-not-steps-clause-no g c = λ tells store. λ is.
    let walk = c.args.walk.now in
    let row = c.loop-row.row in
    let read = c.loop-row.invariant.read in
    let same = same-read g.R.Reads g.met.R.Reads.onward_shape c.args.reads.now c.loop-row.reads read in
    let there = store-read g.R.Reads g.met.R.Reads.onward_shape c.args.reads.now c.loop-row.reads read store in
    let near = neighbours_for (g.R.Reads.state c.args.reads.now) c.args.sought.now in
    let mid = subst (λ (s : State). IsStep (neighbours_for s c.args.sought.now) (get_or walk row 0) (get_or walk (row + 1) 0)) (sym same)
    (step-from_walk near c.args.sought.now.from c.args.sought.now.to walk is row c.loop-row-test.true) in
    let fails : ¬ IsStep (neighbours_for (g.R.Reads.state c.loop-row.reads) c.args.sought.now) (get_or walk row 0) (get_or walk (row + 1) 0) =
    OnFalse_at c.if-not-steps.true (c.in_ok-steps.ensures.no tells there) in
    fails mid

pub loop-row-preserved : goal.loop-row-preserved
loop-row-preserved g c =
    let walk = c.args.walk.now in
    let row = c.loop-row.row in
    let read = c.loop-row.invariant.read in
    let same = same-read g.R.Reads g.met.R.Reads.onward_shape c.args.reads.now c.loop-row.reads read in
    let near = neighbours_for (g.R.Reads.state c.args.reads.now) c.args.sought.now in
    record {
      read = is_read-on g.R.Reads g.met.R.Reads.further_onward c.args.reads.now c.loop-row.reads c.is_step.new.reads read c.is_step.ensures.read;
      cost = λ tells store.
          let old = g.R.Reads.state c.args.reads.now in
          let mid = g.R.Reads.state c.loop-row.reads in
          let after = g.R.Reads.state c.is_step.new.reads in
          let direction = c.args.sought.now.direction in
          let labels = c.args.sought.now.labels.now in
          let there = store-read g.R.Reads g.met.R.Reads.onward_shape c.args.reads.now c.loop-row.reads read store in
          step_reads walk row c.loop-row-test.true old mid after direction labels (c.loop-row.invariant.cost tells store)
          (subst (λ (s : State). ReadsAtMost (most_reads s direction labels (get_or walk row 0)) mid after) same (c.is_step.ensures.cost tells there));
      steps = λ tells store k lt. elim (cases_lt k row) [
        | inl less ↦ c.loop-row.invariant.steps tells store k less
        | inr ge ↦
            let there = store-read g.R.Reads g.met.R.Reads.onward_shape c.args.reads.now c.loop-row.reads read store in
            let mid : IsStep (neighbours_for (g.R.Reads.state c.loop-row.reads) c.args.sought.now) (get_or walk row 0)
            (get_or walk (row + 1) 0) =
            OnTrue_at c.if-not-steps.false (c.in_ok-steps.ensures.yes tells there) in
            let at_old = subst (λ (s : State). IsStep (neighbours_for s c.args.sought.now) (get_or walk row 0) (get_or walk (row + 1) 0)) same
            mid in
            let here : row ≡ k = omega arith in
            subst (λ i. IsStep near (get_or walk i 0) (get_or walk (i + 1) 0)) here at_old
      ];
    }

pub returns-in_err-there-clause-damaged : goal.returns-in_err-there-clause-damaged
returns-in_err-there-clause-damaged g c = λ tells.
    let p = err_from_is_err_and c.from_residual-in_err-there.result c.from_residual-in_err-there.ensures.1 in
    let fault = c.in_err-there.field-0.0 in
    rw (p.1, p.2) (broken-read g.R.Reads g.met.R.Reads.onward_shape c.args.reads.now c.loop-row.reads c.loop-row.invariant.read (of_row fault)
    (load_fault (g.R.Reads.state c.loop-row.reads) c.args.sought.now.to fault (c.in_err-there.ensures.damaged tells)))

pub returns-clause-yes : goal.returns-clause-yes
returns-clause-yes g c = λ tells store.
    let s = g.R.Reads.state c.args.reads.now in
    let walk = c.args.walk.now in
    let row = c.loop-row.row in
    let near = neighbours_for s c.args.sought.now in
    let read = c.loop-row.invariant.read in
    let same = same-read g.R.Reads g.met.R.Reads.onward_shape c.args.reads.now c.loop-row.reads read in
    let mid = store-read g.R.Reads g.met.R.Reads.onward_shape c.args.reads.now c.loop-row.reads read store in
    let test = c.loop-row-test.false in
    OnTrue_from c.in_ok-there.there (IsWalkOrNone near c.args.sought.now.from c.args.sought.now.to walk)
    (λ e.
    let there : has_node (graph_in s) c.args.sought.now.to ≡ true = subst (λ (t : State). has_node (graph_in t) c.args.sought.now.to ≡ true) same
    (sym (c.in_ok-there.ensures.is tells mid) ∙ e) in
    walk-from_steps near c.args.sought.now.from c.args.sought.now.to walk c.if-walk-sought.false c.if-walk-last.false
    (λ k lt. c.loop-row.invariant.steps tells store k (omega (arith, test, lt))) there)

pub returns-clause-no : goal.returns-clause-no
returns-clause-no g c = λ tells store.
    let s = g.R.Reads.state c.args.reads.now in
    let near = neighbours_for s c.args.sought.now in
    let read = c.loop-row.invariant.read in
    let same = same-read g.R.Reads g.met.R.Reads.onward_shape c.args.reads.now c.loop-row.reads read in
    let mid = store-read g.R.Reads g.met.R.Reads.onward_shape c.args.reads.now c.loop-row.reads read store in
    OnFalse_from c.in_ok-there.there (¬ IsWalkOrNone near c.args.sought.now.from c.args.sought.now.to c.args.walk.now)
    (λ e. λ is.
    let last = last-from_walk near c.args.sought.now.from c.args.sought.now.to c.args.walk.now
    (some_in (length c.args.walk.now) c.is_empty.result c.is_empty.ensures c.if-is_empty.false) is in
    let there : has_node (graph_in (g.R.Reads.state c.loop-row.reads)) c.args.sought.now.to ≡ true =
    subst (λ (t : State). has_node (graph_in t) c.args.sought.now.to ≡ true) (sym same) last.1 in
    false≢true (sym e ∙ c.in_ok-there.ensures.is tells mid ∙ there))

pub loop-row-init : goal.loop-row-init
loop-row-init g c = record {
  read = is_read-none g.R.Reads g.met.R.Reads.stays_onward c.args.reads.now;
  cost = λ tells store. reads_none _ (g.R.Reads.state c.args.reads.now);
  steps = λ tells store k lt. absurd (omega arith);
}

pub returns-in_err-steps-clause-damaged : goal.returns-in_err-steps-clause-damaged
returns-in_err-steps-clause-damaged g c = λ tells.
    let p = err_from_is_err_and c.from_residual.result c.from_residual.ensures.1 in
    rw (p.1, p.2) (broken-read g.R.Reads g.met.R.Reads.onward_shape c.args.reads.now c.loop-row.reads c.loop-row.invariant.read
    c.in_err-steps.field-0.0 (c.in_err-steps.ensures.damaged tells))

pub returns-in_err-steps-clause-read : goal.returns-in_err-steps-clause-read
returns-in_err-steps-clause-read g c =
    is_read-on g.R.Reads g.met.R.Reads.further_onward _ _ _ c.loop-row.invariant.read c.is_step.ensures.read

pub returns-in_err-steps-clause-cause : goal.returns-in_err-steps-clause-cause
returns-in_err-steps-clause-cause g c =
    cause_passed _ _ _ c.from_residual.result c.in_err-steps.field-0.0 c.loop-row.invariant.read.later c.in_err-steps.ensures.cause c.from_residual.ensures.1

pub returns-then-not-steps-clause-read : goal.returns-then-not-steps-clause-read
returns-then-not-steps-clause-read g c =
    is_read-on g.R.Reads g.met.R.Reads.further_onward _ _ _ c.loop-row.invariant.read c.is_step.ensures.read

pub returns-in_err-there-clause-read : goal.returns-in_err-there-clause-read
returns-in_err-there-clause-read g c =
    is_read-on g.R.Reads g.met.R.Reads.further_onward _ _ _ c.loop-row.invariant.read c.is_node.ensures.read

pub returns-clause-read : goal.returns-clause-read
returns-clause-read g c =
    is_read-on g.R.Reads g.met.R.Reads.further_onward _ _ _ c.loop-row.invariant.read c.is_node.ensures.read

pub returns-in_err-steps-clause-yes : goal.returns-in_err-steps-clause-yes
returns-in_err-steps-clause-yes g c _ _ = never_ok c.from_residual.result _ _ c.from_residual.ensures.1

pub returns-in_err-there-clause-yes : goal.returns-in_err-there-clause-yes
returns-in_err-there-clause-yes g c _ _ = never_ok c.from_residual-in_err-there.result _ _ c.from_residual-in_err-there.ensures.1

pub returns-in_err-steps-clause-no : goal.returns-in_err-steps-clause-no
returns-in_err-steps-clause-no g c _ _ = never_ok c.from_residual.result _ _ c.from_residual.ensures.1

pub returns-in_err-there-clause-no : goal.returns-in_err-there-clause-no
returns-in_err-there-clause-no g c _ _ = never_ok c.from_residual-in_err-there.result _ _ c.from_residual-in_err-there.ensures.1

pub returns-in_err-there-clause-cause : goal.returns-in_err-there-clause-cause
returns-in_err-there-clause-cause g c =
    row_passed _ _ _ c.from_residual-in_err-there.result c.in_err-there.field-0.0 c.loop-row.invariant.read.later c.in_err-there.ensures.cause
    c.from_residual-in_err-there.ensures.1

-- ---- what is read

pub returns-then-is_empty-clause-cost : goal.returns-then-is_empty-clause-cost
returns-then-is_empty-clause-cost g c = λ tells store. reads_none _ (g.R.Reads.state c.args.reads.now)

pub returns-then-walk-sought-clause-cost : goal.returns-then-walk-sought-clause-cost
returns-then-walk-sought-clause-cost g c = λ tells store. reads_none _ (g.R.Reads.state c.args.reads.now)

pub returns-then-walk-last-clause-cost : goal.returns-then-walk-last-clause-cost
returns-then-walk-last-clause-cost g c = λ tells store. reads_none _ (g.R.Reads.state c.args.reads.now)

pub returns-in_err-steps-clause-cost : goal.returns-in_err-steps-clause-cost
returns-in_err-steps-clause-cost g c = λ tells store.
    let row = c.loop-row.row in
    let old = g.R.Reads.state c.args.reads.now in
    let mid = g.R.Reads.state c.loop-row.reads in
    let after = g.R.Reads.state c.is_step.new.reads in
    let direction = c.args.sought.now.direction in
    let labels = c.args.sought.now.labels.now in
    let read = c.loop-row.invariant.read in
    let same = same-read g.R.Reads g.met.R.Reads.onward_shape c.args.reads.now c.loop-row.reads read in
    let there = store-read g.R.Reads g.met.R.Reads.onward_shape c.args.reads.now c.loop-row.reads read store in
    let all = left_nodes c.args.walk.now in
    let f = most_reads old direction labels in
    reads_within (sum_by f all) (sum_by f all + 1) (omega arith) (first_reads-all f all (row + 1) old mid after
    (step_reads c.args.walk.now row c.loop-row-test.true old mid after direction labels (c.loop-row.invariant.cost tells store)
    (subst (λ (s : State). ReadsAtMost (most_reads s direction labels (get_or c.args.walk.now row 0)) mid after) same (c.is_step.ensures.cost tells there))))

pub returns-then-not-steps-clause-cost : goal.returns-then-not-steps-clause-cost
returns-then-not-steps-clause-cost g c = λ tells store.
    let row = c.loop-row.row in
    let old = g.R.Reads.state c.args.reads.now in
    let mid = g.R.Reads.state c.loop-row.reads in
    let after = g.R.Reads.state c.is_step.new.reads in
    let direction = c.args.sought.now.direction in
    let labels = c.args.sought.now.labels.now in
    let read = c.loop-row.invariant.read in
    let same = same-read g.R.Reads g.met.R.Reads.onward_shape c.args.reads.now c.loop-row.reads read in
    let there = store-read g.R.Reads g.met.R.Reads.onward_shape c.args.reads.now c.loop-row.reads read store in
    let all = left_nodes c.args.walk.now in
    let f = most_reads old direction labels in
    reads_within (sum_by f all) (sum_by f all + 1) (omega arith) (first_reads-all f all (row + 1) old mid after
    (step_reads c.args.walk.now row c.loop-row-test.true old mid after direction labels (c.loop-row.invariant.cost tells store)
    (subst (λ (s : State). ReadsAtMost (most_reads s direction labels (get_or c.args.walk.now row 0)) mid after) same (c.is_step.ensures.cost tells there))))

pub returns-in_err-there-clause-cost : goal.returns-in_err-there-clause-cost
returns-in_err-there-clause-cost g c = λ tells store.
    let old = g.R.Reads.state c.args.reads.now in
    let mid = g.R.Reads.state c.loop-row.reads in
    let f = most_reads old c.args.sought.now.direction c.args.sought.now.labels.now in
    let all = left_nodes c.args.walk.now in
    reads_both old mid (g.R.Reads.state c.is_node.new.reads) (sum_by f all) 1 (first_reads-all f all c.loop-row.row old mid mid
    (c.loop-row.invariant.cost tells store)) c.is_node.ensures.cost

pub returns-clause-cost : goal.returns-clause-cost
returns-clause-cost g c = λ tells store.
    let old = g.R.Reads.state c.args.reads.now in
    let mid = g.R.Reads.state c.loop-row.reads in
    let f = most_reads old c.args.sought.now.direction c.args.sought.now.labels.now in
    let all = left_nodes c.args.walk.now in
    reads_both old mid (g.R.Reads.state c.is_node.new.reads) (sum_by f all) 1 (first_reads-all f all c.loop-row.row old mid mid
    (c.loop-row.invariant.cost tells store)) c.is_node.ensures.cost
