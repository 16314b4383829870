use Rattle.std.proofs.Common.{◌≡◌, ◌<◌, ◌+◌, take, true, false, refl, sym, ap, subst, ◌∙◌, arith}
use Rattle.std.proofs.lemmas.Result.{err_from_is_err_and}
use Rattle.path_find.proofs.OnlyReads.{broken-read, is_read-on, same-read, store-read, is_read-none}
use Rattle.path_find.specs.Tree.{node_at, row_count}
use Rattle.path_find.proofs.SearchSteps.{searched_all, searched_near}
use Rattle.plain_graph.specs.Graph.{has_node}
use Rattle.rec_bytes.specs.Space.{State}
use Rattle.path_find.specs.Reads.{neighbours_at}
use Rattle.path_find.specs.Costs.{rows_reads}
use Rattle.path_find.specs.Search.{AreNearer}
use Rattle.path_find.specs.Tree.{AreNeighbours, IsTree, Rows, Spans}
use Rattle.path_find.proofs.SearchSteps.{first_kept, first_on, nearer_on, nearer_past, spans_begin, tree_begin, tree_past}
use Rattle.path_find.proofs.Costs.{reads_none, rows_reads-more}
use Rattle.chain_edit.specs.Walking.{ReadsAtMost}
use Rattle.expand.specs.Costs.{most_reads}
use Rattle.expand.proofs.ReadCounts.{reads_both}
use Rattle.chain_edit.proofs.Causes.{same_has}
use Rattle.path_find.proofs.Causes.{cause_passed, later_on, memory_cause}
use Rattle.rec_bytes.proofs.Causes.{never_ok, ok_cause}
use Rattle.path_find.proofs.searching.search.Goals as goal
use Rattle.path_find.proofs.searching.search.Goals.{in-Some+in_ok-spread, in_default}
use Rattle.store_rules.specs.Rules.{IsWhole}
use Rattle.store_rules.specs.Graph.{graph_in}

clash : true ≡ false → ⊥
clash e = cc

pub returns-then-reaches-clause-searched : goal.returns-then-reaches-clause-searched
returns-then-reaches-clause-searched g c =
    let inv = c.loop-row.invariant in
    let test = c.loop-row-test.true in
    let len = c.len.ensures.is in
    searched_near c.loop-row.tree c.loop-row.row c.args.from c.args.to inv.tree inv.first inv.nearer (omega (arith, test, len)) c.if-reaches.ensures.yes

pub returns-then-reaches-clause-spans : goal.returns-then-reaches-clause-spans
returns-then-reaches-clause-spans g c = λ tells store there.
    let inv = c.loop-row.invariant in
    let test = c.loop-row-test.true in
    let len = c.len.ensures.is in
    record {
      searched = searched_near c.loop-row.tree c.loop-row.row c.args.from c.args.to inv.tree inv.first inv.nearer (omega (arith, test, len))
          c.if-reaches.ensures.yes;
      spans = inv.spans tells store there;
    }

pub returns-clause-spans : goal.returns-clause-spans
returns-clause-spans g c = λ tells store there.
    let inv = c.loop-row.invariant in
    let test = c.loop-row-test.false in
    let len = c.len.ensures.is in
    record {
      searched = searched_all c.loop-row.tree c.loop-row.row c.args.from c.args.to inv.tree inv.first inv.nearer (omega (arith, test, len));
      spans = inv.spans tells store there;
    }

pub returns-in_err-found-clause-damaged : goal.returns-in_err-found-clause-damaged
returns-in_err-found-clause-damaged g c = λ tells.
    let p = err_from_is_err_and c.from_residual-in_err-found.result c.from_residual-in_err-found.ensures.1 in
    rw (p.1, p.2) (broken-read g.R.Reads g.met.R.Reads.onward_shape c.args.space.now c.loop-row.space c.loop-row.invariant.read c.in_err-found.field-0.0
    (c.in_err-found.ensures.damaged tells))

pub returns-then-reaches-clause-cost : goal.returns-then-reaches-clause-cost
unfolding returns-then-reaches-clause-searched
returns-then-reaches-clause-cost g c = λ tells store. (returns-then-reaches-clause-searched g c, c.loop-row.invariant.cost tells store)

pub returns-clause-searched : goal.returns-clause-searched
returns-clause-searched g c =
    let inv = c.loop-row.invariant in
    let test = c.loop-row-test.false in
    let len = c.len.ensures.is in
    searched_all c.loop-row.tree c.loop-row.row c.args.from c.args.to inv.tree inv.first inv.nearer (omega (arith, test, len))

pub returns-clause-cost : goal.returns-clause-cost
unfolding returns-clause-searched
returns-clause-cost g c = λ tells store. (returns-clause-searched g c, c.loop-row.invariant.cost tells store)

pub loop-row-init : goal.loop-row-init
loop-row-init g c =
    let is = c.in_ok-tree.ensures in
    let old = g.R.Reads.state c.args.space.now in
    record {
      tree = subst (λ (rows : Rows). IsTree rows 0) (sym is) (tree_begin c.args.from);
      first = ap (λ (rows : Rows). node_at rows 0) is;
      nearer = λ target i target_low at lt low. absurd (omega arith);
      read = is_read-none g.R.Reads g.met.R.Reads.stays_onward c.args.space.now;
      cost = λ tells store. reads_none _ old;
      spans = λ tells store there. subst (λ (rows : Rows). Spans (neighbours_at old c.args.direction c.args.labels.now) rows 0) (sym is)
          (spans_begin c.args.from (neighbours_at old c.args.direction c.args.labels.now) there);
    }

pub loop-row-preserved : goal.loop-row-preserved
loop-row-preserved g c =
    let inv = c.loop-row.invariant in
    let rows = c.loop-row.tree in
    let row = c.loop-row.row in
    let old = g.R.Reads.state c.args.space.now in
    let mid = g.R.Reads.state c.loop-row.space in
    let direction = c.args.direction in
    let labels = c.args.labels.now in
    let near = neighbours_at old direction labels in
    let test = c.loop-row-test.true in
    let len = c.len.ensures.is in
    let low : row < row_count rows = omega (arith, test, len) in
    let node = c.node-node.ensures in
    let before = c.if-reaches.ensures.no in
    let Next : Rows → Type 0 = λ tree. IsTree tree (row + 1) × (node_at tree 0 ≡ c.args.from) × AreNearer tree (row + 1) c.args.to
    × (take (row + 1) tree.nodes ≡ take (row + 1) rows.nodes)
    × (g.R.Reads.tells → IsWhole old → has_node (graph_in old) c.args.from ≡ true → Spans near tree (row + 1)) in
    let store_mid = λ (store : IsWhole old). store-read g.R.Reads g.met.R.Reads.onward_shape c.args.space.now c.loop-row.space inv.read store in
    let same = same-read g.R.Reads g.met.R.Reads.onward_shape c.args.space.now c.loop-row.space inv.read in
    let next : Next c.match-found.tree = elim c.match-found.branch [
      | in-Some+in_ok-spread w ↦
          let spread = w.in_ok-spread.ensures in
          let new = w.spread.new.tree in
          let ends = w.in-Some.ends in
          let are : g.R.Reads.tells → IsWhole old → AreNeighbours near (node_at rows row) w.deref.result.now = λ tells store.
          let found = rw w.in-Some.is at c.in_ok-found.ensures.some tells (store_mid store) in
          let at_old = subst (λ (t : State). AreNeighbours (neighbours_at t direction labels) c.node-node.result ends.items) same found in
          subst (λ list. AreNeighbours near (node_at rows row) list) (sym w.deref.ensures.value) (subst (λ n. AreNeighbours near n ends.items) node at_old) in
          subst Next (sym w.tree-is) (
            spread.tree,
            first_on rows new row c.args.to inv.tree spread.tree low spread.extends c.args.from inv.first,
            nearer_on rows new row c.args.to inv.tree spread.tree low spread.extends before,
            first_kept rows new row c.args.to inv.tree spread.tree low spread.extends,
            λ tells store there. spread.spans near (inv.spans tells store there) (are tells store),
          )
      | in_default w ↦
          subst Next (sym w.tree-is) (
            tree_past rows row inv.tree,
            inv.first,
            nearer_past rows row c.args.to inv.tree low before,
            refl,
            λ tells store there.
                let gone = rw w.in_default.is at c.in_ok-found.ensures.none tells (store_mid store) in
                let gone_old = subst (λ (t : State). has_node (graph_in t) c.node-node.result ≡ false) same gone in
                let here = (inv.spans tells store there).nodes row low in
                absurd (clash (sym here ∙ subst (λ n. has_node (graph_in old) n ≡ false) node gone_old)),
          )
    ] in
    record {
      tree = next.0;
      first = next.1;
      nearer = next.2;
      read = is_read-on g.R.Reads g.met.R.Reads.further_onward c.args.space.now c.loop-row.space c.neighbours.new.space inv.read c.neighbours.ensures.read;
      cost = λ tells store.
          let new = g.R.Reads.state c.neighbours.new.space in
          let one = subst (λ (t : State). ReadsAtMost (most_reads t direction labels c.node-node.result) mid new) same
          (c.neighbours.ensures.cost tells (store_mid store)) in
          subst (λ n. ReadsAtMost n old new) (rows_reads-more rows old direction labels c.match-found.tree row c.node-node.result low node next.3)
          (reads_both old mid new (rows_reads old direction labels rows row) (most_reads old direction labels c.node-node.result) (inv.cost tells store) one);
      spans = next.4;
    }

pub returns-in_err-found-clause-cause : goal.returns-in_err-found-clause-cause
returns-in_err-found-clause-cause g c =
    cause_passed _ _ _ c.from_residual-in_err-found.result c.in_err-found.field-0.0 c.loop-row.invariant.read.later c.in_err-found.ensures.cause
    c.from_residual-in_err-found.ensures.1

pub returns-in_err-spread-clause-cause : goal.returns-in_err-spread-clause-cause
returns-in_err-spread-clause-cause g c =
    memory_cause _ _ c.from_residual-in_err-spread.result (later_on c.loop-row.invariant.read.later c.in_ok-found.ensures.cause.later)
    c.from_residual-in_err-spread.ensures.1

pub returns-in_err-found-clause-read : goal.returns-in_err-found-clause-read
returns-in_err-found-clause-read g c =
    is_read-on g.R.Reads g.met.R.Reads.further_onward _ _ _ c.loop-row.invariant.read c.neighbours.ensures.read

pub returns-in_err-spread-clause-read : goal.returns-in_err-spread-clause-read
returns-in_err-spread-clause-read g c =
    is_read-on g.R.Reads g.met.R.Reads.further_onward _ _ _ c.loop-row.invariant.read c.neighbours.ensures.read

pub returns-in_err-tree-clause-searched : goal.returns-in_err-tree-clause-searched
returns-in_err-tree-clause-searched g c = never_ok c.from_residual.result _ _ c.from_residual.ensures.1

pub returns-in_err-tree-clause-spans : goal.returns-in_err-tree-clause-spans
returns-in_err-tree-clause-spans g c _ _ _ = never_ok c.from_residual.result _ _ c.from_residual.ensures.1

pub returns-in_err-found-clause-searched : goal.returns-in_err-found-clause-searched
returns-in_err-found-clause-searched g c = never_ok c.from_residual-in_err-found.result _ _ c.from_residual-in_err-found.ensures.1

pub returns-in_err-found-clause-spans : goal.returns-in_err-found-clause-spans
returns-in_err-found-clause-spans g c _ _ _ = never_ok c.from_residual-in_err-found.result _ _ c.from_residual-in_err-found.ensures.1

pub returns-in_err-spread-clause-searched : goal.returns-in_err-spread-clause-searched
returns-in_err-spread-clause-searched g c = never_ok c.from_residual-in_err-spread.result _ _ c.from_residual-in_err-spread.ensures.1

pub returns-in_err-spread-clause-spans : goal.returns-in_err-spread-clause-spans
returns-in_err-spread-clause-spans g c _ _ _ = never_ok c.from_residual-in_err-spread.result _ _ c.from_residual-in_err-spread.ensures.1

pub returns-clause-cause : goal.returns-clause-cause
returns-clause-cause g c = ok_cause _ _ _ _ (omega arith)

pub returns-in_err-tree-clause-damaged : goal.returns-in_err-tree-clause-damaged
returns-in_err-tree-clause-damaged g c _ = same_has _ c.from_residual.result _ c.from_residual.ensures.1 tt

pub returns-in_err-tree-clause-read : goal.returns-in_err-tree-clause-read
returns-in_err-tree-clause-read g c = is_read-none g.R.Reads g.met.R.Reads.stays_onward c.args.space.now

pub returns-in_err-tree-clause-cause : goal.returns-in_err-tree-clause-cause
returns-in_err-tree-clause-cause g c =
    memory_cause _ _ c.from_residual.result (omega arith) c.from_residual.ensures.1

pub returns-in_err-spread-clause-damaged : goal.returns-in_err-spread-clause-damaged
returns-in_err-spread-clause-damaged g c _ = same_has _ c.from_residual-in_err-spread.result _ c.from_residual-in_err-spread.ensures.1 tt

pub returns-in_err-tree-clause-cost : goal.returns-in_err-tree-clause-cost
returns-in_err-tree-clause-cost g c _ _ = never_ok c.from_residual.result _ _ c.from_residual.ensures.1

pub returns-in_err-found-clause-cost : goal.returns-in_err-found-clause-cost
returns-in_err-found-clause-cost g c _ _ = never_ok c.from_residual-in_err-found.result _ _ c.from_residual-in_err-found.ensures.1

pub returns-in_err-spread-clause-cost : goal.returns-in_err-spread-clause-cost
returns-in_err-spread-clause-cost g c _ _ = never_ok c.from_residual-in_err-spread.result _ _ c.from_residual-in_err-spread.ensures.1
