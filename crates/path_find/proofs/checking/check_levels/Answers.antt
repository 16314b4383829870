use Rattle.std.proofs.Common.{List, Option, ap, false, rules, subst, sym, ℕ, ◌+◌, ◌∙◌, arith}
use Rattle.std.specs.List.{sum_by}
use Rattle.std.specs.Bool.{IsTrue, OnFalse, OnTrue}
use Rattle.std.specs.Prelude.{Bool, Err, IfOk, Ok, Result, ◌↔◌}
use Rattle.std.proofs.lemmas.Bool.{OnFalse_at, OnTrue_at}
use Rattle.std.proofs.lemmas.Result.{IfErr-weaker, IfOk-weaker}
use Rattle.plain_graph.specs.Adjacency.{Adjacency}
use Rattle.plain_graph.specs.Levels.{IsCertified}
use Rattle.plain_graph.specs.declared.node_level.NodeLevel.{NodeLevel}
use Rattle.rec_bytes.specs.Space.{State}
use Rattle.chain_edit.specs.Walking.{ReadsAtMost}
use Rattle.expand.proofs.ReadCounts.{reads_both}
use Rattle.path_find.specs.Costs.{left_nodes, nodes_reads, row_reads}
use Rattle.path_find.proofs.Costs.{reads_none, reads_within}
use Rattle.path_find.specs.Checking.{AllSpread, AreDistinct, HaveEnds, IsWalkOrNone, edges_of}
use Rattle.path_find.specs.Reads.{adjacency_of}
use Rattle.path_find.specs.WalkSearch.{neighbours_for}
use Rattle.path_find.proofs.CheckLaws.{is_certified, not_certified, proves_shortest}
use Rattle.path_find.proofs.NeighbourLaws.{neighbours_are}
use Rattle.path_find.proofs.OnlyReads.{broken-read, is_read-on, same-read, store-read, is_read-none}
use Rattle.chain_edit.proofs.Causes.{same_has}
use Rattle.path_find.proofs.Causes.{cause_later, cause_passed, memory_cause}
use Rattle.rec_bytes.proofs.Causes.{never_ok}
use Rattle.path_find.proofs.checking.check_levels.Goals as goal

pub returns-then-not-leads-clause-decides : goal.returns-then-not-leads-clause-decides
returns-then-not-leads-clause-decides g c = λ tells store types stand.
    let s = g.R.Reads.state c.args.reads.now in
    let W = c.args.answer.now.walk in
    let L = c.args.answer.now.levels in
    let near = neighbours_for s c.args.sought.now in
    let astray : ¬ IsWalkOrNone near c.args.sought.now.from c.args.sought.now.to c.as_slice-walk.result.now = OnFalse_at c.if-not-leads.true
    (c.in_ok-leads.ensures.no tells store) in
    subst (λ (adjacency : Adjacency). IsTrue false ↔ IsCertified adjacency c.args.sought.now.from c.args.sought.now.to W L)
    (neighbours_are s store c.args.sought.now.direction c.args.sought.now.labels.now types stand)
    (not_certified near L c.args.sought.now.from c.args.sought.now.to W
    (λ is. astray (subst (IsWalkOrNone near c.args.sought.now.from c.args.sought.now.to) (sym c.as_slice-walk.ensures) is.leads)))

-- both hold of what is answered
both_ok : {T E : Type 0} (r : Result T E) (P Q : T → Type 0) → IfOk r P → IfOk r Q → IfOk r (λ x. P x × Q x)
both_ok (Ok x) P Q one other = (one, other)
both_ok (Err fault) P Q one other = tt

pub returns-clause-decides : goal.returns-clause-decides
returns-clause-decides g c = λ tells store types stand.
    let s = g.R.Reads.state c.args.reads.now in
    let W = c.args.answer.now.walk in
    let L = c.args.answer.now.levels in
    let near = neighbours_for s c.args.sought.now in
    let read = c.is_walk.ensures.read in
    let same = same-read g.R.Reads g.met.R.Reads.onward_shape c.args.reads.now c.is_walk.new.reads read in
    let there = store-read g.R.Reads g.met.R.Reads.onward_shape c.args.reads.now c.is_walk.new.reads read store in
    let edges = c.edges_of-edges.ensures ∙ ap edges_of c.as_slice-walk.ensures in
    let distinct = subst AreDistinct c.as_slice-levels.ensures (rw c.in-Some.is at c.in_ok-found.ensures.distinct) in
    let Ends : Option ℕ → List NodeLevel → Type 0 = λ e l. HaveEnds l c.args.sought.now.from c.args.sought.now.to e in
    let fit : Ends c.edges_of-edges.result c.as_slice-levels.result.now = OnTrue_at c.if-not-have_ends.false c.have_ends.ensures.yes in
    let ends = subst (λ (l : List NodeLevel). Ends (edges_of W) l) c.as_slice-levels.ensures
    (subst (λ (e : Option ℕ). Ends e c.as_slice-levels.result.now) edges fit) in
    let steps : IsWalkOrNone near c.args.sought.now.from c.args.sought.now.to c.as_slice-walk.result.now = OnTrue_at c.if-not-leads.false
    (c.in_ok-leads.ensures.yes tells store) in
    let leads = subst (IsWalkOrNone near c.args.sought.now.from c.args.sought.now.to) c.as_slice-walk.ensures steps in
    let Spread : State → Option ℕ → List NodeLevel → Type 0 = λ t e l. AllSpread (neighbours_for t c.args.sought.now) l e in
    let Both : Bool → State → Option ℕ → List NodeLevel → Type 0 = λ all t e l. OnTrue all (Spread t e l) × OnFalse all (¬ Spread t e l) in
    IfOk-weaker c.all_spread.result _ _ (λ all spread.
    let both = subst (λ (l : List NodeLevel). Both all s (edges_of W) l) c.as_slice-levels.ensures
    (subst (λ (e : Option ℕ). Both all s e c.as_slice-levels.result.now) edges
    (subst (λ (t : State). Both all t c.edges_of-edges.result c.as_slice-levels.result.now) same spread)) in
    subst (λ (adjacency : Adjacency). IsTrue all ↔ IsCertified adjacency c.args.sought.now.from c.args.sought.now.to W L)
    (neighbours_are s store c.args.sought.now.direction c.args.sought.now.labels.now types stand)
    (is_certified near L c.args.sought.now.from c.args.sought.now.to W all distinct ends leads both.0 both.1))
    (both_ok c.all_spread.result _ _ (c.all_spread.ensures.yes tells there) (c.all_spread.ensures.no tells there))

pub returns-clause-proves : goal.returns-clause-proves
returns-clause-proves g c = λ tells store types stand.
    IfOk-weaker c.all_spread.result _ _
    (λ all decides. proves_shortest (adjacency_of (g.R.Reads.state c.args.reads.now) c.args.sought.now.direction types) c.args.answer.now.levels
    c.args.sought.now.from c.args.sought.now.to
    c.args.answer.now.walk all decides)
    (returns-clause-decides g c tells store types stand)

pub returns-clause-damaged : goal.returns-clause-damaged
returns-clause-damaged g c tells =
    IfErr-weaker c.all_spread.result _ _
    (λ fault broken. broken-read g.R.Reads g.met.R.Reads.onward_shape c.args.reads.now c.is_walk.new.reads c.is_walk.ensures.read fault broken)
    (c.all_spread.ensures.damaged tells)

pub returns-clause-read : goal.returns-clause-read
returns-clause-read g c =
    is_read-on g.R.Reads g.met.R.Reads.further_onward _ _ _ c.is_walk.ensures.read c.all_spread.ensures.read

pub returns-clause-cause : goal.returns-clause-cause
returns-clause-cause g c = cause_later _ _ _ c.all_spread.result c.is_walk.ensures.read.later c.all_spread.ensures.cause

pub returns-in_default-clause-decides : goal.returns-in_default-clause-decides
returns-in_default-clause-decides g c = λ tells store types stand.
    let near = adjacency_of (g.R.Reads.state c.args.reads.now) c.args.sought.now.direction types in
    let W = c.args.answer.now.walk in
    let L = c.args.answer.now.levels in
    let gone : ¬ AreDistinct c.as_slice-levels.result.now = search (rules, c.in_ok-found.ensures.none) in
    not_certified near L c.args.sought.now.from c.args.sought.now.to W (λ is. gone (subst AreDistinct (sym c.as_slice-levels.ensures) is.distinct))

pub returns-in_default-clause-proves : goal.returns-in_default-clause-proves
returns-in_default-clause-proves g c = λ tells store types stand.
    let near = adjacency_of (g.R.Reads.state c.args.reads.now) c.args.sought.now.direction types in
    proves_shortest near c.args.answer.now.levels c.args.sought.now.from c.args.sought.now.to c.args.answer.now.walk false
    (returns-in_default-clause-decides g c tells store types stand)

pub returns-then-not-have_ends-clause-decides : goal.returns-then-not-have_ends-clause-decides
returns-then-not-have_ends-clause-decides g c = λ tells store types stand.
    let near = adjacency_of (g.R.Reads.state c.args.reads.now) c.args.sought.now.direction types in
    let W = c.args.answer.now.walk in
    let L = c.args.answer.now.levels in
    let edges = c.edges_of-edges.ensures ∙ ap edges_of c.as_slice-walk.ensures in
    let off : ¬ HaveEnds c.as_slice-levels.result.now c.args.sought.now.from c.args.sought.now.to c.edges_of-edges.result
    = OnFalse_at c.if-not-have_ends.true c.have_ends.ensures.no in
    not_certified near L c.args.sought.now.from c.args.sought.now.to W (λ is. off
    (subst (λ (e : Option ℕ). HaveEnds c.as_slice-levels.result.now c.args.sought.now.from c.args.sought.now.to e) (sym edges)
    (subst (λ (l : List NodeLevel). HaveEnds l c.args.sought.now.from c.args.sought.now.to (edges_of W)) (sym c.as_slice-levels.ensures) is.ends)))

pub returns-then-not-have_ends-clause-proves : goal.returns-then-not-have_ends-clause-proves
returns-then-not-have_ends-clause-proves g c = λ tells store types stand.
    let near = adjacency_of (g.R.Reads.state c.args.reads.now) c.args.sought.now.direction types in
    proves_shortest near c.args.answer.now.levels c.args.sought.now.from c.args.sought.now.to c.args.answer.now.walk false
    (returns-then-not-have_ends-clause-decides g c tells store types stand)

pub returns-then-not-leads-clause-proves : goal.returns-then-not-leads-clause-proves
returns-then-not-leads-clause-proves g c = λ tells store types stand.
    let near = adjacency_of (g.R.Reads.state c.args.reads.now) c.args.sought.now.direction types in
    proves_shortest near c.args.answer.now.levels c.args.sought.now.from c.args.sought.now.to c.args.answer.now.walk false
    (returns-then-not-leads-clause-decides g c tells store types stand)

pub returns-in_err-found-clause-decides : goal.returns-in_err-found-clause-decides
returns-in_err-found-clause-decides g c _ _ _ _ = never_ok c.from_residual.result _ _ c.from_residual.ensures.1

pub returns-in_err-leads-clause-decides : goal.returns-in_err-leads-clause-decides
returns-in_err-leads-clause-decides g c _ _ _ _ = never_ok c.from_residual-in_err-leads.result _ _ c.from_residual-in_err-leads.ensures.1

pub returns-in_err-found-clause-proves : goal.returns-in_err-found-clause-proves
returns-in_err-found-clause-proves g c _ _ _ _ = never_ok c.from_residual.result _ _ c.from_residual.ensures.1

pub returns-in_err-leads-clause-proves : goal.returns-in_err-leads-clause-proves
returns-in_err-leads-clause-proves g c _ _ _ _ = never_ok c.from_residual-in_err-leads.result _ _ c.from_residual-in_err-leads.ensures.1

pub returns-in_err-found-clause-damaged : goal.returns-in_err-found-clause-damaged
returns-in_err-found-clause-damaged g c _ = same_has _ c.from_residual.result _ c.from_residual.ensures.1 tt

pub returns-in_err-found-clause-read : goal.returns-in_err-found-clause-read
returns-in_err-found-clause-read g c = is_read-none g.R.Reads g.met.R.Reads.stays_onward c.args.reads.now

pub returns-in_err-found-clause-cause : goal.returns-in_err-found-clause-cause
returns-in_err-found-clause-cause g c =
    memory_cause _ _ c.from_residual.result (omega arith) c.from_residual.ensures.1

pub returns-in_err-leads-clause-damaged : goal.returns-in_err-leads-clause-damaged
returns-in_err-leads-clause-damaged g c tells =
    same_has _ c.from_residual-in_err-leads.result _ c.from_residual-in_err-leads.ensures.1 (c.in_err-leads.ensures.damaged tells)

pub returns-in_err-leads-clause-read : goal.returns-in_err-leads-clause-read
returns-in_err-leads-clause-read g c = c.is_walk.ensures.read

pub returns-in_err-leads-clause-cause : goal.returns-in_err-leads-clause-cause
returns-in_err-leads-clause-cause g c =
    cause_passed _ _ _ c.from_residual-in_err-leads.result c.in_err-leads.field-0.0 (omega arith) c.in_err-leads.ensures.cause
    c.from_residual-in_err-leads.ensures.1

-- ---- what is read

pub returns-in_err-found-clause-cost : goal.returns-in_err-found-clause-cost
returns-in_err-found-clause-cost g c = λ tells store. reads_none _ (g.R.Reads.state c.args.reads.now)

pub returns-in_default-clause-cost : goal.returns-in_default-clause-cost
returns-in_default-clause-cost g c = λ tells store. reads_none _ (g.R.Reads.state c.args.reads.now)

pub returns-then-not-have_ends-clause-cost : goal.returns-then-not-have_ends-clause-cost
returns-then-not-have_ends-clause-cost g c = λ tells store. reads_none _ (g.R.Reads.state c.args.reads.now)

pub returns-in_err-leads-clause-cost : goal.returns-in_err-leads-clause-cost
returns-in_err-leads-clause-cost g c = λ tells store.
    let old = g.R.Reads.state c.args.reads.now in
    let mid = g.R.Reads.state c.is_walk.new.reads in
    let direction = c.args.sought.now.direction in
    let labels = c.args.sought.now.labels.now in
    let W = c.args.answer.now.walk in
    let L = c.args.answer.now.levels in
    let steps = subst (λ (walk : List ℕ). ReadsAtMost (nodes_reads old direction labels (left_nodes walk) + 1) old mid) c.as_slice-walk.ensures
    (c.is_walk.ensures.cost tells store) in
    let most = nodes_reads old direction labels (left_nodes W) + 1 in
    let rows = sum_by (row_reads old direction labels (edges_of W)) L in
    reads_within most (most + rows) (omega arith) steps

pub returns-then-not-leads-clause-cost : goal.returns-then-not-leads-clause-cost
returns-then-not-leads-clause-cost g c = λ tells store.
    let old = g.R.Reads.state c.args.reads.now in
    let mid = g.R.Reads.state c.is_walk.new.reads in
    let direction = c.args.sought.now.direction in
    let labels = c.args.sought.now.labels.now in
    let W = c.args.answer.now.walk in
    let L = c.args.answer.now.levels in
    let steps = subst (λ (walk : List ℕ). ReadsAtMost (nodes_reads old direction labels (left_nodes walk) + 1) old mid) c.as_slice-walk.ensures
    (c.is_walk.ensures.cost tells store) in
    let most = nodes_reads old direction labels (left_nodes W) + 1 in
    let rows = sum_by (row_reads old direction labels (edges_of W)) L in
    reads_within most (most + rows) (omega arith) steps

pub returns-clause-cost : goal.returns-clause-cost
returns-clause-cost g c = λ tells store.
    let old = g.R.Reads.state c.args.reads.now in
    let mid = g.R.Reads.state c.is_walk.new.reads in
    let direction = c.args.sought.now.direction in
    let labels = c.args.sought.now.labels.now in
    let W = c.args.answer.now.walk in
    let L = c.args.answer.now.levels in
    let steps = subst (λ (walk : List ℕ). ReadsAtMost (nodes_reads old direction labels (left_nodes walk) + 1) old mid) c.as_slice-walk.ensures
    (c.is_walk.ensures.cost tells store) in
    let most = nodes_reads old direction labels (left_nodes W) + 1 in
    let rows = sum_by (row_reads old direction labels (edges_of W)) L in
    let after = g.R.Reads.state c.all_spread.new.reads in
    let read = c.is_walk.ensures.read in
    let same = same-read g.R.Reads g.met.R.Reads.onward_shape c.args.reads.now c.is_walk.new.reads read in
    let there = store-read g.R.Reads g.met.R.Reads.onward_shape c.args.reads.now c.is_walk.new.reads read store in
    let edges = c.edges_of-edges.ensures ∙ ap edges_of c.as_slice-walk.ensures in
    let spread = subst (λ (l : List NodeLevel). ReadsAtMost (sum_by (row_reads old direction labels (edges_of W)) l) mid after) c.as_slice-levels.ensures
    (subst (λ (e : Option ℕ). ReadsAtMost (sum_by (row_reads old direction labels e) c.as_slice-levels.result.now) mid after) edges
    (subst (λ (t : State). ReadsAtMost (sum_by (row_reads t direction labels c.edges_of-edges.result) c.as_slice-levels.result.now) mid after) same
    (c.all_spread.ensures.cost tells there))) in
    reads_both old mid after most rows steps spread
