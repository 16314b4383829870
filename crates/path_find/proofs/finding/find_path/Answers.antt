use Rattle.std.proofs.Common.{◌≡◌, ◌+◌, None, take, Contains, inl, inr, refl, sym, subst, ◌∙◌, arith}
use Rattle.std.proofs.lemmas.Bool.{OnFalse_at}
use Rattle.std.proofs.lemmas.Result.{err_from_is_err_and}
use Rattle.rec_bytes.specs.Space.{State}
use Rattle.node_store.specs.Loading.{row_at}
use Rattle.expand.specs.ExpandFault.{of_row}
use Rattle.chain_edit.specs.Walking.{ReadsAtMost}
use Rattle.expand.specs.Costs.{most_reads}
use Rattle.expand.proofs.ReadCounts.{reads_both}
use Rattle.path_find.specs.Costs.{nearer_nodes, path_reads, rows_reads}
use Rattle.path_find.proofs.Costs.{fault_ends, first_member, first_once, reads_within, row_ends, sum_within}
use Rattle.path_find.specs.Damage.{BlamesBroken}
use Rattle.path_find.specs.Finding.{IsPathFault}
use Rattle.path_find.specs.Reads.{adjacency_of}
use Rattle.path_find.specs.declared.answer.Answer.{Answer}
use Rattle.plain_graph.specs.Graph.{has_node}
use Rattle.path_find.proofs.Answered.{answered, closed_graph, ends_there, node_fault, search_fault, search_tells}
use Rattle.path_find.proofs.Certified.{certified_answer, shortest_or_none}
use Rattle.path_find.proofs.OnlyReads.{is_read-on, same-read, store-read}
use Rattle.chain_edit.proofs.Causes.{same_has}
use Rattle.expand.proofs.Causes.{expand_cause_passed, expand_memory_cause, row_cause_passed}
use Rattle.path_find.proofs.Causes.{later_on}
use Rattle.rec_bytes.proofs.Causes.{never_ok}
use Rattle.path_find.proofs.finding.find_path.Goals as goal
use Rattle.store_rules.specs.Graph.{graph_in}

pub returns-in_err-from_there-clause-damaged : goal.returns-in_err-from_there-clause-damaged
returns-in_err-from_there-clause-damaged g c = λ tells.
    let p = err_from_is_err_and c.from_residual.result c.from_residual.ensures.1 in
    let s = g.R.Reads.state c.args.reads.now in
    rw (p.1, p.2) (node_fault s c.args.from c.args.to c.args.from c.in_err-from_there.field-0.0 (c.in_err-from_there.ensures.damaged tells))

pub returns-then-not-from_there-clause-damaged : goal.returns-then-not-from_there-clause-damaged
returns-then-not-from_there-clause-damaged g c = λ tells. (inl refl, OnFalse_at c.if-not-from_there.true (c.in_ok-from_there.ensures.row tells))

pub returns-in_err-to_there-clause-damaged : goal.returns-in_err-to_there-clause-damaged
returns-in_err-to_there-clause-damaged g c = λ tells.
    let p = err_from_is_err_and c.from_residual-in_err-to_there.result c.from_residual-in_err-to_there.ensures.1 in
    let same = same-read g.R.Reads g.met.R.Reads.onward_shape c.args.reads.now c.is_node.new.reads c.is_node.ensures.read in
    let fault = c.in_err-to_there.field-0.0 in
    rw (p.1, p.2) (subst (λ (s : State). IsPathFault s c.args.from c.args.to (of_row fault)) same
    (node_fault (g.R.Reads.state c.is_node.new.reads) c.args.from c.args.to c.args.to fault (c.in_err-to_there.ensures.damaged tells)))

pub returns-then-not-to_there-clause-damaged : goal.returns-then-not-to_there-clause-damaged
returns-then-not-to_there-clause-damaged g c = λ tells.
    let same = same-read g.R.Reads g.met.R.Reads.onward_shape c.args.reads.now c.is_node.new.reads c.is_node.ensures.read in
    (inr refl, subst (λ (s : State). row_at s.records c.args.to ≡ None) same (OnFalse_at c.if-not-to_there.true (c.in_ok-to_there.ensures.row tells)))

pub returns-in_err-tree-clause-damaged : goal.returns-in_err-tree-clause-damaged
returns-in_err-tree-clause-damaged g c = λ tells.
    let p = err_from_is_err_and c.from_residual-in_err-tree.result c.from_residual-in_err-tree.ensures.1 in
    let both = is_read-on g.R.Reads g.met.R.Reads.further_onward c.args.reads.now c.is_node.new.reads c.is_node-2.new.reads c.is_node.ensures.read
    c.is_node-2.ensures.read in
    let same = same-read g.R.Reads g.met.R.Reads.onward_shape c.args.reads.now c.is_node-2.new.reads both in
    let fault = c.in_err-tree.field-0.0 in
    rw (p.1, p.2) (search_fault (g.R.Reads.state c.args.reads.now) c.args.from c.args.to fault
    (subst (λ (s : State). BlamesBroken s fault) same (c.in_err-tree.ensures.damaged tells)))

pub returns-in_err-tree-clause-missing : goal.returns-in_err-tree-clause-missing
returns-in_err-tree-clause-missing g c = λ tells store.
    let p = err_from_is_err_and c.from_residual-in_err-tree.result c.from_residual-in_err-tree.ensures.1 in
    let s = g.R.Reads.state c.args.reads.now in
    let same = same-read g.R.Reads g.met.R.Reads.onward_shape c.args.reads.now c.is_node.new.reads c.is_node.ensures.read in
    let both = ends_there s (g.R.Reads.state c.is_node.new.reads) same store c.args.from c.args.to c.in_ok-from_there.from_there c.in_ok-to_there.to_there
    (c.in_ok-from_there.ensures.is tells store) c.if-not-from_there.false (c.in_ok-to_there.ensures.is tells) c.if-not-to_there.false in
    rw (p.1, p.2) (search_tells Answer c.args.from c.args.to (has_node (graph_in s) c.args.from) (has_node (graph_in s) c.args.to) c.in_err-tree.field-0.0 both)

pub returns-in_err-answer-clause-missing : goal.returns-in_err-answer-clause-missing
returns-in_err-answer-clause-missing g c = λ tells store.
    let p = err_from_is_err_and c.from_residual-in_err-answer.result c.from_residual-in_err-answer.ensures.1 in
    let s = g.R.Reads.state c.args.reads.now in
    let same = same-read g.R.Reads g.met.R.Reads.onward_shape c.args.reads.now c.is_node.new.reads c.is_node.ensures.read in
    rw (p.1, p.2) (ends_there s (g.R.Reads.state c.is_node.new.reads) same store c.args.from c.args.to c.in_ok-from_there.from_there c.in_ok-to_there.to_there
    (c.in_ok-from_there.ensures.is tells store) c.if-not-from_there.false (c.in_ok-to_there.ensures.is tells) c.if-not-to_there.false)

pub returns-clause-missing : goal.returns-clause-missing
returns-clause-missing g c = λ tells store.
    let s = g.R.Reads.state c.args.reads.now in
    let same = same-read g.R.Reads g.met.R.Reads.onward_shape c.args.reads.now c.is_node.new.reads c.is_node.ensures.read in
    ends_there s (g.R.Reads.state c.is_node.new.reads) same store c.args.from c.args.to c.in_ok-from_there.from_there c.in_ok-to_there.to_there
    (c.in_ok-from_there.ensures.is tells store) c.if-not-from_there.false (c.in_ok-to_there.ensures.is tells) c.if-not-to_there.false

pub returns-in_err-answer-clause-read : goal.returns-in_err-answer-clause-read
returns-in_err-answer-clause-read g c =
    let further = g.met.R.Reads.further_onward in
    let start = c.args.reads.now in
    let both = is_read-on g.R.Reads further start c.is_node.new.reads c.is_node-2.new.reads c.is_node.ensures.read c.is_node-2.ensures.read in
    is_read-on g.R.Reads further start c.is_node-2.new.reads c.search.new.space both c.search.ensures.read

pub returns-clause-read : goal.returns-clause-read
returns-clause-read g c =
    let further = g.met.R.Reads.further_onward in
    let start = c.args.reads.now in
    let both = is_read-on g.R.Reads further start c.is_node.new.reads c.is_node-2.new.reads c.is_node.ensures.read c.is_node-2.ensures.read in
    is_read-on g.R.Reads further start c.is_node-2.new.reads c.search.new.space both c.search.ensures.read

pub returns-clause-found : goal.returns-clause-found
returns-clause-found g c = λ tells store types stand.
    let both = is_read-on g.R.Reads g.met.R.Reads.further_onward c.args.reads.now c.is_node.new.reads c.is_node-2.new.reads c.is_node.ensures.read
    c.is_node-2.ensures.read in
    let same = same-read g.R.Reads g.met.R.Reads.onward_shape c.args.reads.now c.is_node-2.new.reads both in
    let there = sym (c.in_ok-from_there.ensures.is tells store) ∙ c.if-not-from_there.false in
    answered (g.R.Reads.state c.args.reads.now) store c.args.direction c.args.labels.now types stand (g.R.Reads.state c.is_node-2.new.reads) same c.args.from
    c.args.to there
    c.in_ok-tree.tree c.in_ok-answer.answer.walk c.in_ok-answer.answer.levels (c.in_ok-tree.ensures.spans tells) c.in_ok-answer.ensures.is

-- the two clauses after it follow from it
pub returns-clause-shortest : goal.returns-clause-shortest
returns-clause-shortest g c = λ tells store types stand.
    let near = adjacency_of (g.R.Reads.state c.args.reads.now) c.args.direction types in
    shortest_or_none near c.args.from c.args.to c.in_ok-answer.answer.walk c.in_ok-answer.answer.levels (returns-clause-found g c tells store types stand)

pub returns-clause-certified : goal.returns-clause-certified
returns-clause-certified g c = λ tells store types stand.
    let s = g.R.Reads.state c.args.reads.now in
    let near = adjacency_of s c.args.direction types in
    let there = sym (c.in_ok-from_there.ensures.is tells store) ∙ c.if-not-from_there.false in
    certified_answer near (closed_graph s store c.args.direction c.args.labels.now types stand) c.args.from c.args.to there c.in_ok-answer.answer.walk
    c.in_ok-answer.answer.levels (returns-clause-found g c tells store types stand)

pub returns-in_err-to_there-clause-cause : goal.returns-in_err-to_there-clause-cause
returns-in_err-to_there-clause-cause g c =
    row_cause_passed _ _ _ c.from_residual-in_err-to_there.result c.in_err-to_there.field-0.0 c.in_ok-from_there.ensures.cause.later
    c.in_err-to_there.ensures.cause c.from_residual-in_err-to_there.ensures.1

pub returns-in_err-tree-clause-cause : goal.returns-in_err-tree-clause-cause
returns-in_err-tree-clause-cause g c =
    expand_cause_passed _ _ _ c.from_residual-in_err-tree.result c.in_err-tree.field-0.0
    (later_on c.in_ok-from_there.ensures.cause.later c.in_ok-to_there.ensures.cause.later) c.in_err-tree.ensures.cause c.from_residual-in_err-tree.ensures.1

pub returns-in_err-answer-clause-cause : goal.returns-in_err-answer-clause-cause
returns-in_err-answer-clause-cause g c =
    expand_memory_cause _ _ c.from_residual-in_err-answer.result (later_on (later_on c.in_ok-from_there.ensures.cause.later
    c.in_ok-to_there.ensures.cause.later) c.in_ok-tree.ensures.cause.later) c.from_residual-in_err-answer.ensures.1

pub returns-in_err-from_there-clause-found : goal.returns-in_err-from_there-clause-found
returns-in_err-from_there-clause-found g c _ _ _ _ = never_ok c.from_residual.result _ _ c.from_residual.ensures.1

pub returns-in_err-from_there-clause-shortest : goal.returns-in_err-from_there-clause-shortest
returns-in_err-from_there-clause-shortest g c _ _ _ _ = never_ok c.from_residual.result _ _ c.from_residual.ensures.1

pub returns-in_err-from_there-clause-certified : goal.returns-in_err-from_there-clause-certified
returns-in_err-from_there-clause-certified g c _ _ _ _ = never_ok c.from_residual.result _ _ c.from_residual.ensures.1

pub returns-in_err-to_there-clause-found : goal.returns-in_err-to_there-clause-found
returns-in_err-to_there-clause-found g c _ _ _ _ = never_ok c.from_residual-in_err-to_there.result _ _ c.from_residual-in_err-to_there.ensures.1

pub returns-in_err-to_there-clause-shortest : goal.returns-in_err-to_there-clause-shortest
returns-in_err-to_there-clause-shortest g c _ _ _ _ = never_ok c.from_residual-in_err-to_there.result _ _ c.from_residual-in_err-to_there.ensures.1

pub returns-in_err-to_there-clause-certified : goal.returns-in_err-to_there-clause-certified
returns-in_err-to_there-clause-certified g c _ _ _ _ = never_ok c.from_residual-in_err-to_there.result _ _ c.from_residual-in_err-to_there.ensures.1

pub returns-in_err-tree-clause-found : goal.returns-in_err-tree-clause-found
returns-in_err-tree-clause-found g c _ _ _ _ = never_ok c.from_residual-in_err-tree.result _ _ c.from_residual-in_err-tree.ensures.1

pub returns-in_err-tree-clause-shortest : goal.returns-in_err-tree-clause-shortest
returns-in_err-tree-clause-shortest g c _ _ _ _ = never_ok c.from_residual-in_err-tree.result _ _ c.from_residual-in_err-tree.ensures.1

pub returns-in_err-tree-clause-certified : goal.returns-in_err-tree-clause-certified
returns-in_err-tree-clause-certified g c _ _ _ _ = never_ok c.from_residual-in_err-tree.result _ _ c.from_residual-in_err-tree.ensures.1

pub returns-in_err-answer-clause-found : goal.returns-in_err-answer-clause-found
returns-in_err-answer-clause-found g c _ _ _ _ = never_ok c.from_residual-in_err-answer.result _ _ c.from_residual-in_err-answer.ensures.1

pub returns-in_err-answer-clause-shortest : goal.returns-in_err-answer-clause-shortest
returns-in_err-answer-clause-shortest g c _ _ _ _ = never_ok c.from_residual-in_err-answer.result _ _ c.from_residual-in_err-answer.ensures.1

pub returns-in_err-answer-clause-certified : goal.returns-in_err-answer-clause-certified
returns-in_err-answer-clause-certified g c _ _ _ _ = never_ok c.from_residual-in_err-answer.result _ _ c.from_residual-in_err-answer.ensures.1

pub returns-in_err-from_there-clause-cause : goal.returns-in_err-from_there-clause-cause
returns-in_err-from_there-clause-cause g c =
    row_cause_passed _ _ _ c.from_residual.result c.in_err-from_there.field-0.0 (omega arith) c.in_err-from_there.ensures.cause c.from_residual.ensures.1

pub returns-in_err-from_there-clause-read : goal.returns-in_err-from_there-clause-read
returns-in_err-from_there-clause-read g c = c.is_node.ensures.read

pub returns-in_err-to_there-clause-read : goal.returns-in_err-to_there-clause-read
returns-in_err-to_there-clause-read g c =
    is_read-on g.R.Reads g.met.R.Reads.further_onward _ _ _ c.is_node.ensures.read c.is_node-2.ensures.read

pub returns-in_err-tree-clause-read : goal.returns-in_err-tree-clause-read
returns-in_err-tree-clause-read g c =
    is_read-on g.R.Reads g.met.R.Reads.further_onward _ _ _ (is_read-on g.R.Reads g.met.R.Reads.further_onward _ _ _ c.is_node.ensures.read
    c.is_node-2.ensures.read) c.search.ensures.read

pub returns-in_err-answer-clause-damaged : goal.returns-in_err-answer-clause-damaged
returns-in_err-answer-clause-damaged g c _ = same_has _ c.from_residual-in_err-answer.result _ c.from_residual-in_err-answer.ensures.1 tt

-- ---- what is read

pub returns-in_err-from_there-clause-missing_cost : goal.returns-in_err-from_there-clause-missing_cost
returns-in_err-from_there-clause-missing_cost g c =
    let p = err_from_is_err_and c.from_residual.result c.from_residual.ensures.1 in
    rw (p.1, p.2) (row_ends (g.R.Reads.state c.args.reads.now) (g.R.Reads.state c.is_node.new.reads) c.in_err-from_there.field-0.0)

pub returns-then-not-from_there-clause-missing_cost : goal.returns-then-not-from_there-clause-missing_cost
returns-then-not-from_there-clause-missing_cost g c = reads_within 1 2 (omega arith) c.is_node.ensures.cost

pub returns-in_err-to_there-clause-missing_cost : goal.returns-in_err-to_there-clause-missing_cost
returns-in_err-to_there-clause-missing_cost g c =
    let p = err_from_is_err_and c.from_residual-in_err-to_there.result c.from_residual-in_err-to_there.ensures.1 in
    rw (p.1, p.2) (row_ends (g.R.Reads.state c.args.reads.now) (g.R.Reads.state c.is_node-2.new.reads) c.in_err-to_there.field-0.0)

pub returns-then-not-to_there-clause-missing_cost : goal.returns-then-not-to_there-clause-missing_cost
returns-then-not-to_there-clause-missing_cost g c = reads_both _ _ _ 1 1 c.is_node.ensures.cost c.is_node-2.ensures.cost

pub returns-in_err-tree-clause-missing_cost : goal.returns-in_err-tree-clause-missing_cost
returns-in_err-tree-clause-missing_cost g c =
    let p = err_from_is_err_and c.from_residual-in_err-tree.result c.from_residual-in_err-tree.ensures.1 in
    rw (p.1, p.2) (fault_ends (g.R.Reads.state c.args.reads.now) (g.R.Reads.state c.search.new.space) c.in_err-tree.field-0.0)

pub returns-in_err-answer-clause-missing_cost : goal.returns-in_err-answer-clause-missing_cost
returns-in_err-answer-clause-missing_cost g c = same_has _ c.from_residual-in_err-answer.result _ c.from_residual-in_err-answer.ensures.1 tt

pub returns-in_err-from_there-clause-cost : goal.returns-in_err-from_there-clause-cost
returns-in_err-from_there-clause-cost g c _ _ = never_ok c.from_residual.result _ _ c.from_residual.ensures.1

pub returns-in_err-to_there-clause-cost : goal.returns-in_err-to_there-clause-cost
returns-in_err-to_there-clause-cost g c _ _ = never_ok c.from_residual-in_err-to_there.result _ _ c.from_residual-in_err-to_there.ensures.1

pub returns-in_err-tree-clause-cost : goal.returns-in_err-tree-clause-cost
returns-in_err-tree-clause-cost g c _ _ = never_ok c.from_residual-in_err-tree.result _ _ c.from_residual-in_err-tree.ensures.1

pub returns-in_err-answer-clause-cost : goal.returns-in_err-answer-clause-cost
returns-in_err-answer-clause-cost g c _ _ = never_ok c.from_residual-in_err-answer.result _ _ c.from_residual-in_err-answer.ensures.1

pub returns-clause-cost : goal.returns-clause-cost
returns-clause-cost g c = λ tells store.
    let a = c.args.reads.now in
    let s = g.R.Reads.state a in
    let mid = g.R.Reads.state c.is_node-2.new.reads in
    let new = g.R.Reads.state c.search.new.space in
    let both = is_read-on g.R.Reads g.met.R.Reads.further_onward a c.is_node.new.reads c.is_node-2.new.reads c.is_node.ensures.read c.is_node-2.ensures.read in
    let same = same-read g.R.Reads g.met.R.Reads.onward_shape a c.is_node-2.new.reads both in
    let direction = c.args.direction in
    let labels = c.args.labels.now in
    let rows = c.in_ok-tree.tree in
    let answer = c.in_ok-answer.answer in
    let found = c.in_ok-tree.ensures.cost tells (store-read g.R.Reads g.met.R.Reads.onward_shape a c.is_node-2.new.reads both store) in
    let done = found.0.done in
    let searched = subst (λ (t : State). ReadsAtMost (rows_reads t direction labels rows done) mid new) same found.1 in
    let two = reads_both s (g.R.Reads.state c.is_node.new.reads) mid 1 1 c.is_node.ensures.cost c.is_node-2.ensures.cost in
    let few = sum_within (most_reads s direction labels) (take done rows.nodes) (nearer_nodes answer.walk answer.levels)
    (first_once rows done found.0.tree done) (λ node has.
    let first = first_member rows done node has in
    subst (Contains (nearer_nodes answer.walk answer.levels)) first.is
    (c.in_ok-answer.ensures.nearer done found.0.nearer first.row first.few first.low)) in
    reads_within (2 + rows_reads s direction labels rows done) (path_reads s direction labels answer.walk answer.levels) (omega (arith, few))
    (reads_both s mid new 2 (rows_reads s direction labels rows done) two searched)
