use Rattle.std.proofs.Common.{◌≡◌, ◌+◌, ℕ, List, None, inl, inr, refl, sym, subst, arith}
use Rattle.std.proofs.lemmas.Bool.{OnFalse_at}
use Rattle.std.proofs.lemmas.Result.{err_from_is_err_and}
use Rattle.rec_bytes.specs.Space.{State}
use Rattle.node_store.specs.Loading.{row_at}
use Rattle.expand.specs.ExpandFault.{of_row}
use Rattle.chain_edit.specs.Walking.{ReadsAtMost}
use Rattle.expand.proofs.ReadCounts.{reads_both}
use Rattle.path_find.specs.Costs.{TwoSearches, searches_reads}
use Rattle.path_find.specs.Meeting.{reversed}
use Rattle.path_find.proofs.Costs.{fault_ends, reads_within, row_ends}
use Rattle.path_find.specs.Damage.{BlamesBroken}
use Rattle.path_find.specs.Finding.{IsPathFault}
use Rattle.plain_graph.specs.Reached.{IsLeastOrNone}
use Rattle.path_find.specs.Reads.{adjacency_of}
use Rattle.plain_graph.specs.Graph.{has_node}
use Rattle.path_find.proofs.Answered.{costs_walk, ends_there, node_fault, search_fault, search_tells, walked}
use Rattle.path_find.proofs.OnlyReads.{is_read-on, same-read}
use Rattle.rec_bytes.proofs.Causes.{never_ok}
use Rattle.expand.proofs.Causes.{expand_cause_passed, row_cause_passed}
use Rattle.path_find.proofs.Causes.{later_on}
use Rattle.path_find.proofs.walking.find_walk.Goals as goal
use Rattle.store_rules.specs.Graph.{graph_in}

pub returns-in_err-from_there-clause-damaged : goal.returns-in_err-from_there-clause-damaged
returns-in_err-from_there-clause-damaged g c = λ tells.
    let p = err_from_is_err_and c.from_residual.result c.from_residual.ensures.1 in
    let s = g.R.Reads.state c.args.reads.now in
    rw (p.1, p.2) (node_fault s c.args.from c.args.to c.args.from c.in_err-from_there.field-0.0 (c.in_err-from_there.ensures.damaged tells))

pub returns-then-not-from_there-clause-damaged : goal.returns-then-not-from_there-clause-damaged
returns-then-not-from_there-clause-damaged g c = λ tells. (inl refl, OnFalse_at c.if-not-from_there.true (c.in_ok-from_there.ensures.row tells))

pub returns-in_err-to_there-clause-damaged : goal.returns-in_err-to_there-clause-damaged
returns-in_err-to_there-clause-damaged g c = λ tells.
    let p = err_from_is_err_and c.from_residual-in_err-to_there.result c.from_residual-in_err-to_there.ensures.1 in
    let same = same-read g.R.Reads g.met.R.Reads.onward_shape c.args.reads.now c.is_node.new.reads c.is_node.ensures.read in
    let fault = c.in_err-to_there.field-0.0 in
    rw (p.1, p.2) (subst (λ (s : State). IsPathFault s c.args.from c.args.to (of_row fault)) same
    (node_fault (g.R.Reads.state c.is_node.new.reads) c.args.from c.args.to c.args.to fault (c.in_err-to_there.ensures.damaged tells)))

pub returns-then-not-to_there-clause-damaged : goal.returns-then-not-to_there-clause-damaged
returns-then-not-to_there-clause-damaged g c = λ tells.
    let same = same-read g.R.Reads g.met.R.Reads.onward_shape c.args.reads.now c.is_node.new.reads c.is_node.ensures.read in
    (inr refl, subst (λ (s : State). row_at s.records c.args.to ≡ None) same (OnFalse_at c.if-not-to_there.true (c.in_ok-to_there.ensures.row tells)))

pub returns-in_err-walk-clause-damaged : goal.returns-in_err-walk-clause-damaged
returns-in_err-walk-clause-damaged g c = λ tells.
    let p = err_from_is_err_and c.from_residual-in_err-walk.result c.from_residual-in_err-walk.ensures.1 in
    let both = is_read-on g.R.Reads g.met.R.Reads.further_onward c.args.reads.now c.is_node.new.reads c.is_node-2.new.reads c.is_node.ensures.read
    c.is_node-2.ensures.read in
    let same = same-read g.R.Reads g.met.R.Reads.onward_shape c.args.reads.now c.is_node-2.new.reads both in
    let fault = c.in_err-walk.field-0.0 in
    rw (p.1, p.2) (search_fault (g.R.Reads.state c.args.reads.now) c.args.from c.args.to fault
    (subst (λ (s : State). BlamesBroken s fault) same (c.in_err-walk.ensures.damaged tells)))

pub returns-in_err-walk-clause-missing : goal.returns-in_err-walk-clause-missing
returns-in_err-walk-clause-missing g c = λ tells store.
    let p = err_from_is_err_and c.from_residual-in_err-walk.result c.from_residual-in_err-walk.ensures.1 in
    let s = g.R.Reads.state c.args.reads.now in
    let same = same-read g.R.Reads g.met.R.Reads.onward_shape c.args.reads.now c.is_node.new.reads c.is_node.ensures.read in
    let both = ends_there s (g.R.Reads.state c.is_node.new.reads) same store c.args.from c.args.to c.in_ok-from_there.from_there c.in_ok-to_there.to_there
    (c.in_ok-from_there.ensures.is tells store) c.if-not-from_there.false (c.in_ok-to_there.ensures.is tells) c.if-not-to_there.false in
    rw (p.1, p.2) (search_tells (List ℕ) c.args.from c.args.to (has_node (graph_in s) c.args.from) (has_node (graph_in s) c.args.to) c.in_err-walk.field-0.0
    both)

pub returns-clause-missing : goal.returns-clause-missing
returns-clause-missing g c = λ tells store.
    let s = g.R.Reads.state c.args.reads.now in
    let same = same-read g.R.Reads g.met.R.Reads.onward_shape c.args.reads.now c.is_node.new.reads c.is_node.ensures.read in
    ends_there s (g.R.Reads.state c.is_node.new.reads) same store c.args.from c.args.to c.in_ok-from_there.from_there c.in_ok-to_there.to_there
    (c.in_ok-from_there.ensures.is tells store) c.if-not-from_there.false (c.in_ok-to_there.ensures.is tells) c.if-not-to_there.false

pub returns-clause-read : goal.returns-clause-read
returns-clause-read g c =
    let further = g.met.R.Reads.further_onward in
    let start = c.args.reads.now in
    let both = is_read-on g.R.Reads further start c.is_node.new.reads c.is_node-2.new.reads c.is_node.ensures.read c.is_node-2.ensures.read in
    is_read-on g.R.Reads further start c.is_node-2.new.reads c.meet.new.space both c.meet.ensures.read

pub returns-clause-found : goal.returns-clause-found
returns-clause-found g c = λ tells store types stand.
    let s = g.R.Reads.state c.args.reads.now in
    let first = same-read g.R.Reads g.met.R.Reads.onward_shape c.args.reads.now c.is_node.new.reads c.is_node.ensures.read in
    let both = is_read-on g.R.Reads g.met.R.Reads.further_onward c.args.reads.now c.is_node.new.reads c.is_node-2.new.reads c.is_node.ensures.read
    c.is_node-2.ensures.read in
    let same = same-read g.R.Reads g.met.R.Reads.onward_shape c.args.reads.now c.is_node-2.new.reads both in
    let there = ends_there s (g.R.Reads.state c.is_node.new.reads) first store c.args.from c.args.to c.in_ok-from_there.from_there c.in_ok-to_there.to_there
    (c.in_ok-from_there.ensures.is tells store) c.if-not-from_there.false (c.in_ok-to_there.ensures.is tells) c.if-not-to_there.false in
    let walk = walked s store c.args.direction c.args.labels.now types stand (g.R.Reads.state c.is_node-2.new.reads) same c.args.from c.args.to there.0 there.1
    c.in_ok-walk.walk.items (c.in_ok-walk.ensures.found tells) in
    subst (λ list. IsLeastOrNone (adjacency_of s c.args.direction types) c.args.from c.args.to list) (sym c.new.ensures) walk

pub returns-in_err-from_there-clause-found : goal.returns-in_err-from_there-clause-found
returns-in_err-from_there-clause-found g c _ _ _ _ = never_ok c.from_residual.result _ _ c.from_residual.ensures.1

pub returns-in_err-to_there-clause-found : goal.returns-in_err-to_there-clause-found
returns-in_err-to_there-clause-found g c _ _ _ _ = never_ok c.from_residual-in_err-to_there.result _ _ c.from_residual-in_err-to_there.ensures.1

pub returns-in_err-walk-clause-found : goal.returns-in_err-walk-clause-found
returns-in_err-walk-clause-found g c _ _ _ _ = never_ok c.from_residual-in_err-walk.result _ _ c.from_residual-in_err-walk.ensures.1

pub returns-in_err-from_there-clause-cause : goal.returns-in_err-from_there-clause-cause
returns-in_err-from_there-clause-cause g c =
    row_cause_passed _ _ _ c.from_residual.result c.in_err-from_there.field-0.0 (omega arith) c.in_err-from_there.ensures.cause c.from_residual.ensures.1

pub returns-in_err-to_there-clause-cause : goal.returns-in_err-to_there-clause-cause
returns-in_err-to_there-clause-cause g c =
    row_cause_passed _ _ _ c.from_residual-in_err-to_there.result c.in_err-to_there.field-0.0 c.in_ok-from_there.ensures.cause.later
    c.in_err-to_there.ensures.cause c.from_residual-in_err-to_there.ensures.1

pub returns-in_err-walk-clause-cause : goal.returns-in_err-walk-clause-cause
returns-in_err-walk-clause-cause g c =
    expand_cause_passed _ _ _ c.from_residual-in_err-walk.result c.in_err-walk.field-0.0
    (later_on c.in_ok-from_there.ensures.cause.later c.in_ok-to_there.ensures.cause.later) c.in_err-walk.ensures.cause c.from_residual-in_err-walk.ensures.1

pub returns-in_err-from_there-clause-read : goal.returns-in_err-from_there-clause-read
returns-in_err-from_there-clause-read g c = c.is_node.ensures.read

pub returns-in_err-to_there-clause-read : goal.returns-in_err-to_there-clause-read
returns-in_err-to_there-clause-read g c =
    is_read-on g.R.Reads g.met.R.Reads.further_onward _ _ _ c.is_node.ensures.read c.is_node-2.ensures.read

pub returns-in_err-walk-clause-read : goal.returns-in_err-walk-clause-read
returns-in_err-walk-clause-read g c =
    is_read-on g.R.Reads g.met.R.Reads.further_onward _ _ _ (is_read-on g.R.Reads g.met.R.Reads.further_onward _ _ _ c.is_node.ensures.read
    c.is_node-2.ensures.read) c.meet.ensures.read

-- ---- what is read

pub returns-in_err-from_there-clause-missing_cost : goal.returns-in_err-from_there-clause-missing_cost
returns-in_err-from_there-clause-missing_cost g c =
    let p = err_from_is_err_and c.from_residual.result c.from_residual.ensures.1 in
    rw (p.1, p.2) (row_ends (g.R.Reads.state c.args.reads.now) (g.R.Reads.state c.is_node.new.reads) c.in_err-from_there.field-0.0)

pub returns-then-not-from_there-clause-missing_cost : goal.returns-then-not-from_there-clause-missing_cost
returns-then-not-from_there-clause-missing_cost g c = reads_within 1 2 (omega arith) c.is_node.ensures.cost

pub returns-in_err-to_there-clause-missing_cost : goal.returns-in_err-to_there-clause-missing_cost
returns-in_err-to_there-clause-missing_cost g c =
    let p = err_from_is_err_and c.from_residual-in_err-to_there.result c.from_residual-in_err-to_there.ensures.1 in
    rw (p.1, p.2) (row_ends (g.R.Reads.state c.args.reads.now) (g.R.Reads.state c.is_node-2.new.reads) c.in_err-to_there.field-0.0)

pub returns-then-not-to_there-clause-missing_cost : goal.returns-then-not-to_there-clause-missing_cost
returns-then-not-to_there-clause-missing_cost g c = reads_both _ _ _ 1 1 c.is_node.ensures.cost c.is_node-2.ensures.cost

pub returns-in_err-walk-clause-missing_cost : goal.returns-in_err-walk-clause-missing_cost
returns-in_err-walk-clause-missing_cost g c =
    let p = err_from_is_err_and c.from_residual-in_err-walk.result c.from_residual-in_err-walk.ensures.1 in
    rw (p.1, p.2) (fault_ends (g.R.Reads.state c.args.reads.now) (g.R.Reads.state c.meet.new.space) c.in_err-walk.field-0.0)

pub returns-in_err-from_there-clause-cost : goal.returns-in_err-from_there-clause-cost
returns-in_err-from_there-clause-cost g c _ _ _ _ = never_ok c.from_residual.result _ _ c.from_residual.ensures.1

pub returns-in_err-to_there-clause-cost : goal.returns-in_err-to_there-clause-cost
returns-in_err-to_there-clause-cost g c _ _ _ _ = never_ok c.from_residual-in_err-to_there.result _ _ c.from_residual-in_err-to_there.ensures.1

pub returns-in_err-walk-clause-cost : goal.returns-in_err-walk-clause-cost
returns-in_err-walk-clause-cost g c _ _ _ _ = never_ok c.from_residual-in_err-walk.result _ _ c.from_residual-in_err-walk.ensures.1

pub returns-clause-cost : goal.returns-clause-cost
returns-clause-cost g c = λ tells store types stand.
    let a = c.args.reads.now in
    let s = g.R.Reads.state a in
    let mid = g.R.Reads.state c.is_node-2.new.reads in
    let new = g.R.Reads.state c.meet.new.space in
    let direction = c.args.direction in
    let labels = c.args.labels.now in
    let from = c.args.from in
    let to = c.args.to in
    let walk = c.in_ok-walk.walk.items in
    let first = same-read g.R.Reads g.met.R.Reads.onward_shape a c.is_node.new.reads c.is_node.ensures.read in
    let both = is_read-on g.R.Reads g.met.R.Reads.further_onward a c.is_node.new.reads c.is_node-2.new.reads c.is_node.ensures.read c.is_node-2.ensures.read in
    let same = same-read g.R.Reads g.met.R.Reads.onward_shape a c.is_node-2.new.reads both in
    let there = ends_there s (g.R.Reads.state c.is_node.new.reads) first store from to c.in_ok-from_there.from_there c.in_ok-to_there.to_there
    (c.in_ok-from_there.ensures.is tells store) c.if-not-from_there.false (c.in_ok-to_there.ensures.is tells) c.if-not-to_there.false in
    let met = costs_walk s store direction labels types stand mid same from to there.0 there.1 walk new (c.in_ok-walk.ensures.cost tells) in
    let two = reads_both s (g.R.Reads.state c.is_node.new.reads) mid 1 1 c.is_node.ensures.cost c.is_node-2.ensures.cost in
    subst (λ (list : List ℕ). (searches : TwoSearches (adjacency_of s direction types) (adjacency_of s (reversed direction) types) from to list)
    × ReadsAtMost (searches_reads s direction labels searches + 2) s new) (sym c.new.ensures) (
      met.0,
      reads_within (2 + searches_reads s direction labels met.0) _ (omega arith) (reads_both s mid new 2 (searches_reads s direction labels met.0) two met.1),
    )
