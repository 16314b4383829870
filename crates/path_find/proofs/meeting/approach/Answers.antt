use Rattle.std.proofs.Common.{◌+◌, refl, sym, subst, arith}
use Rattle.std.proofs.lemmas.Bool.{OnFalse_at, OnFalse_from, OnTrue_at, OnTrue_from}
use Rattle.plain_graph.specs.declared.direction.Direction.{Direction}
use Rattle.path_find.specs.Costs.{ReadsBetween, rows_reads}
use Rattle.path_find.specs.Meeting.{AreApart, AreApartFrom, HaveMet, reversed}
use Rattle.path_find.specs.Reach.{AreLayers}
use Rattle.path_find.specs.Tree.{row_count}
use Rattle.path_find.proofs.Costs.{between_left, between_right}
use Rattle.path_find.proofs.Layers.{layers_on}
use Rattle.path_find.proofs.MeetSteps.{apart_ahead, apart_behind, met_behind}
use Rattle.path_find.proofs.meeting.approach.Goals as goal

pub returns-in_ok-grow-clause-apart : goal.returns-in_ok-grow-clause-apart
returns-in_ok-grow-clause-apart g c =
    let old = c.args.ahead.now.tree in
    let new = c.grow.new.reach.tree in
    let other = c.args.behind.now.tree in
    let met = c.in_ok-grow.ensures in
    OnFalse_from c.has_shared.result (AreApart old other → AreApart new other) (λ e. λ apart.
    apart_ahead old new other c.args.ahead.now.done met.grows apart (subst (λ n. AreApartFrom new n (row_count new) other) met.done
    (OnFalse_at e c.has_shared.ensures.no)))

pub returns-in_ok-grow-clause-closer : goal.returns-in_ok-grow-clause-closer
returns-in_ok-grow-clause-closer g c = λ ahead_depth behind_depth ahead_layers behind_layers.
    let old = c.args.ahead.now.tree in
    let new = c.grow.new.reach.tree in
    let met = c.in_ok-grow.ensures in
    record {
      ahead_depth = ahead_depth + 1;
      behind_depth = behind_depth;
      ahead_layers = subst (λ n. AreLayers new n (ahead_depth + 1)) (sym met.done)
          (layers_on old new c.args.ahead.now.done ahead_depth ahead_layers met.tree met.grows);
      behind_layers = behind_layers;
      deep = omega arith;
      from = met.grows.nodes 0 ahead_layers.tree.some;
      to = refl;
    }

pub returns-in_ok-grow-2-clause-met : goal.returns-in_ok-grow-2-clause-met
returns-in_ok-grow-2-clause-met g c =
    let ahead = c.args.ahead.now.tree in
    let new = c.grow-else-width_of.new.reach.tree in
    OnTrue_from c.has_shared-else-width_of.result (HaveMet ahead new) (λ e.
    let met = OnTrue_at e c.has_shared-else-width_of.ensures.yes in
    met_behind ahead new met.row met.low met.shared)

pub returns-in_ok-grow-2-clause-apart : goal.returns-in_ok-grow-2-clause-apart
returns-in_ok-grow-2-clause-apart g c =
    let ahead = c.args.ahead.now.tree in
    let old = c.args.behind.now.tree in
    let new = c.grow-else-width_of.new.reach.tree in
    let met = c.in_ok-grow-2.ensures in
    OnFalse_from c.has_shared-else-width_of.result (AreApart ahead old → AreApart ahead new) (λ e. λ apart.
    apart_behind ahead old new c.args.behind.now.done met.grows apart (subst (λ n. AreApartFrom new n (row_count new) ahead) met.done
    (OnFalse_at e c.has_shared-else-width_of.ensures.no)))

pub returns-in_ok-grow-2-clause-closer : goal.returns-in_ok-grow-2-clause-closer
returns-in_ok-grow-2-clause-closer g c = λ ahead_depth behind_depth ahead_layers behind_layers.
    let old = c.args.behind.now.tree in
    let new = c.grow-else-width_of.new.reach.tree in
    let met = c.in_ok-grow-2.ensures in
    record {
      ahead_depth = ahead_depth;
      behind_depth = behind_depth + 1;
      ahead_layers = ahead_layers;
      behind_layers = subst (λ n. AreLayers new n (behind_depth + 1)) (sym met.done)
          (layers_on old new c.args.behind.now.done behind_depth behind_layers met.tree met.grows);
      deep = omega arith;
      from = refl;
      to = met.grows.nodes 0 behind_layers.tree.some;
    }

pub returns-in_ok-grow-clause-cost : goal.returns-in_ok-grow-clause-cost
returns-in_ok-grow-clause-cost g c = λ tells store.
    let sought = c.args.sought.now in
    let behind = c.args.behind.now in
    between_left _ _ (rows_reads (g.R.Reads.state c.args.space.now) (reversed sought.direction) sought.labels.now behind.tree behind.done)
    (c.in_ok-grow.ensures.cost tells store)

pub returns-in_ok-grow-2-clause-cost : goal.returns-in_ok-grow-2-clause-cost
returns-in_ok-grow-2-clause-cost g c = λ tells store.
    let sought = c.args.sought.now in
    let ahead = c.args.ahead.now in
    let old = g.R.Reads.state c.args.space.now in
    let behind = c.args.behind.now in
    let new = c.grow-else-width_of.new.reach in
    let more = subst (λ (d : Direction). ReadsBetween (rows_reads old d sought.labels.now behind.tree behind.done)
    (rows_reads old d sought.labels.now new.tree new.done) old (g.R.Reads.state c.grow-else-width_of.new.space)) c.reversed.ensures
    (c.in_ok-grow-2.ensures.cost tells store) in
    between_right _ _ (rows_reads old sought.direction sought.labels.now ahead.tree ahead.done) more
