use Rattle.std.proofs.Common.{◌≡◌, ◌<◌, ◌+◌, take, true, false, sym, subst, ◌∙◌, refl, arith}
use Rattle.std.proofs.lemmas.Result.{err_from_is_err_and}
use Rattle.plain_graph.specs.Graph.{has_node}
use Rattle.rec_bytes.specs.Space.{State}
use Rattle.chain_edit.specs.Walking.{ReadsAtMost}
use Rattle.expand.specs.Costs.{most_reads}
use Rattle.path_find.specs.Costs.{ReadsBetween, rows_reads}
use Rattle.path_find.specs.Reach.{GrowsFrom}
use Rattle.path_find.specs.Reads.{neighbours_at}
use Rattle.path_find.specs.Tree.{AreNeighbours, IsTree, Spans, node_at, row_count}
use Rattle.path_find.proofs.Layers.{grows-none, grows-on}
use Rattle.path_find.proofs.OnlyReads.{broken-read, is_read-none, is_read-on, same-read, store-read}
use Rattle.path_find.proofs.SearchSteps.{first_kept, tree_past}
use Rattle.path_find.specs.declared.reach.Reach.{Reach}
use Rattle.path_find.proofs.Costs.{between_more, between_none, rows_reads-more}
use Rattle.path_find.proofs.Causes.{cause_passed, later_on, memory_cause}
use Rattle.rec_bytes.proofs.Causes.{never_ok, ok_cause}
use Rattle.path_find.proofs.reach.grow.Goals as goal
use Rattle.path_find.proofs.reach.grow.Goals.{in-Some+in_ok-spread, in_default}
use Rattle.store_rules.specs.Rules.{IsWhole}
use Rattle.store_rules.specs.Graph.{graph_in}

clash : true ≡ false → ⊥
clash e = cc

pub returns-in_err-found-clause-damaged : goal.returns-in_err-found-clause-damaged
returns-in_err-found-clause-damaged g c = λ tells.
    let p = err_from_is_err_and c.from_residual.result c.from_residual.ensures.1 in
    rw (p.1, p.2) (broken-read g.R.Reads g.met.R.Reads.onward_shape c.args.space.now c.loop-row.space c.loop-row.invariant.read c.in_err-found.field-0.0
    (c.in_err-found.ensures.damaged tells))

pub loop-row-init : goal.loop-row-init
loop-row-init g c = record {
  count = c.len-count.ensures.is;
  done = refl;
  past = omega arith;
  tree = c.requires.tree;
  grows = grows-none c.args.reach.now.tree c.args.reach.now.done;
  read = is_read-none g.R.Reads g.met.R.Reads.stays_onward c.args.space.now;
  cost = λ tells store. between_none _ (g.R.Reads.state c.args.space.now);
  spans = λ tells store spans. spans;
}

pub loop-row-preserved : goal.loop-row-preserved
loop-row-preserved g c =
    let inv = c.loop-row.invariant in
    let start = c.args.reach.now in
    let rows = c.loop-row.reach.tree in
    let row = c.loop-row.row in
    let old = g.R.Reads.state c.args.space.now in
    let direction = c.args.direction in
    let labels = c.args.labels.now in
    let near = neighbours_at old direction labels in
    let test = c.loop-row-test.true in
    let count = inv.count in
    let more = inv.grows.more in
    let low : row < row_count rows = omega (arith, test, count, more) in
    let node = c.node-node.ensures in
    let past = inv.past in
    let Next : Reach → Type 0 = λ reach. (reach.done ≡ start.done) × IsTree reach.tree (row + 1) × GrowsFrom start.tree reach.tree start.done
    × (take (row + 1) reach.tree.nodes ≡ take (row + 1) rows.nodes)
    × (g.R.Reads.tells → IsWhole old → Spans near start.tree start.done → Spans near reach.tree (row + 1)) in
    let store_mid = λ (store : IsWhole old). store-read g.R.Reads g.met.R.Reads.onward_shape c.args.space.now c.loop-row.space inv.read store in
    let same = same-read g.R.Reads g.met.R.Reads.onward_shape c.args.space.now c.loop-row.space inv.read in
    let next : Next c.match-found.reach = elim c.match-found.branch [
      | in-Some+in_ok-spread w ↦
          let spread = w.in_ok-spread.ensures in
          let new = w.spread.new.tree in
          let ends = w.in-Some.ends in
          let are : g.R.Reads.tells → IsWhole old → AreNeighbours near (node_at rows row) w.deref.result.now = λ tells store.
          let found = rw w.in-Some.is at c.in_ok-found.ensures.some tells (store_mid store) in
          let at_old = subst (λ (t : State). AreNeighbours (neighbours_at t direction labels) c.node-node.result ends.items) same found in
          subst (λ list. AreNeighbours near (node_at rows row) list) (sym w.deref.ensures.value) (subst (λ n. AreNeighbours near n ends.items) node at_old) in
          subst Next (sym w.reach-is) (
            inv.done,
            spread.tree,
            grows-on start.tree rows new start.done row past inv.grows spread.extends,
            first_kept rows new row 0 inv.tree spread.tree low spread.extends,
            λ tells store spans. spread.spans near (inv.spans tells store spans) (are tells store),
          )
      | in_default w ↦
          subst Next (sym w.reach-is) (
            inv.done,
            tree_past rows row inv.tree,
            inv.grows,
            refl,
            λ tells store spans.
                let gone = rw w.in_default.is at c.in_ok-found.ensures.none tells (store_mid store) in
                let gone_old = subst (λ (t : State). has_node (graph_in t) c.node-node.result ≡ false) same gone in
                let here = (inv.spans tells store spans).nodes row low in
                absurd (clash (sym here ∙ subst (λ n. has_node (graph_in old) n ≡ false) node gone_old)),
          )
    ] in
    record {
      count = count;
      done = next.0;
      past = omega (arith, past);
      tree = next.1;
      grows = next.2;
      read = is_read-on g.R.Reads g.met.R.Reads.further_onward c.args.space.now c.loop-row.space c.neighbours.new.space inv.read c.neighbours.ensures.read;
      cost = λ tells store.
          let mid = g.R.Reads.state c.loop-row.space in
          let new = g.R.Reads.state c.neighbours.new.space in
          let one = subst (λ (t : State). ReadsAtMost (most_reads t direction labels c.node-node.result) mid new) same
          (c.neighbours.ensures.cost tells (store_mid store)) in
          between_more old mid new _ _ (most_reads old direction labels c.node-node.result) _ (inv.cost tells store) one
          (rows_reads-more rows old direction labels c.match-found.reach.tree row c.node-node.result low node next.3);
      spans = next.4;
    }

pub returns-in_err-found-clause-read : goal.returns-in_err-found-clause-read
returns-in_err-found-clause-read g c =
    is_read-on g.R.Reads g.met.R.Reads.further_onward _ _ _ c.loop-row.invariant.read c.neighbours.ensures.read

pub returns-in_err-found-clause-cause : goal.returns-in_err-found-clause-cause
returns-in_err-found-clause-cause g c =
    cause_passed _ _ _ c.from_residual.result c.in_err-found.field-0.0 c.loop-row.invariant.read.later c.in_err-found.ensures.cause c.from_residual.ensures.1

pub returns-in_err-spread-clause-read : goal.returns-in_err-spread-clause-read
returns-in_err-spread-clause-read g c =
    is_read-on g.R.Reads g.met.R.Reads.further_onward _ _ _ c.loop-row.invariant.read c.neighbours.ensures.read

pub returns-in_err-spread-clause-cause : goal.returns-in_err-spread-clause-cause
returns-in_err-spread-clause-cause g c =
    memory_cause _ _ c.from_residual-in_err-spread.result (later_on c.loop-row.invariant.read.later c.in_ok-found.ensures.cause.later)
    c.from_residual-in_err-spread.ensures.1

pub returns-in_err-found-clause-done : goal.returns-in_err-found-clause-done
returns-in_err-found-clause-done g c = never_ok c.from_residual.result _ _ c.from_residual.ensures.1

pub returns-in_err-found-clause-tree : goal.returns-in_err-found-clause-tree
returns-in_err-found-clause-tree g c = never_ok c.from_residual.result _ _ c.from_residual.ensures.1

pub returns-in_err-found-clause-grows : goal.returns-in_err-found-clause-grows
returns-in_err-found-clause-grows g c = never_ok c.from_residual.result _ _ c.from_residual.ensures.1

pub returns-in_err-found-clause-spans : goal.returns-in_err-found-clause-spans
returns-in_err-found-clause-spans g c _ _ = never_ok c.from_residual.result _ _ c.from_residual.ensures.1

pub returns-in_err-spread-clause-done : goal.returns-in_err-spread-clause-done
returns-in_err-spread-clause-done g c = never_ok c.from_residual-in_err-spread.result _ _ c.from_residual-in_err-spread.ensures.1

pub returns-in_err-spread-clause-tree : goal.returns-in_err-spread-clause-tree
returns-in_err-spread-clause-tree g c = never_ok c.from_residual-in_err-spread.result _ _ c.from_residual-in_err-spread.ensures.1

pub returns-in_err-spread-clause-grows : goal.returns-in_err-spread-clause-grows
returns-in_err-spread-clause-grows g c = never_ok c.from_residual-in_err-spread.result _ _ c.from_residual-in_err-spread.ensures.1

pub returns-in_err-spread-clause-spans : goal.returns-in_err-spread-clause-spans
returns-in_err-spread-clause-spans g c _ _ = never_ok c.from_residual-in_err-spread.result _ _ c.from_residual-in_err-spread.ensures.1

pub returns-clause-cause : goal.returns-clause-cause
returns-clause-cause g c = ok_cause _ _ _ _ (omega arith)

pub returns-clause-cost : goal.returns-clause-cost
returns-clause-cost g c = λ tells store.
    let old = g.R.Reads.state c.args.space.now in
    let test = c.loop-row-test.false in
    let most = c.loop-row.auto.row-end in
    let count = c.loop-row.invariant.count in
    let low = c.requires.low in
    let all : c.loop-row.row ≡ c.len-count.result = omega (arith, test, most, count, low) in
    subst (λ n. ReadsBetween (rows_reads old c.args.direction c.args.labels.now c.args.reach.now.tree c.args.reach.now.done)
    (rows_reads old c.args.direction c.args.labels.now c.loop-row.reach.tree n) old (g.R.Reads.state c.loop-row.space)) all
    (c.loop-row.invariant.cost tells store)

pub returns-in_err-found-clause-cost : goal.returns-in_err-found-clause-cost
returns-in_err-found-clause-cost g c _ _ = never_ok c.from_residual.result _ _ c.from_residual.ensures.1

pub returns-in_err-spread-clause-cost : goal.returns-in_err-spread-clause-cost
returns-in_err-spread-clause-cost g c _ _ = never_ok c.from_residual-in_err-spread.result _ _ c.from_residual-in_err-spread.ensures.1
