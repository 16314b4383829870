use Rattle.std.proofs.Common.{◌≡◌, ◌+◌, ℕ, Err, List, [], take, inl, inr, sym, ap, subst, ◌∙◌, arith}
use Rattle.std.proofs.lemmas.Bool.{OnFalse_at, OnFalse_from, OnTrue_at}
use Rattle.std.proofs.lemmas.Result.{IfErr-weaker, IfOk-weaker, err_from_is_err_and}
use Rattle.rec_bytes.specs.Space.{State}
use Rattle.rec_bytes.specs.declared.fault.Fault.TheVariants.{Disk}
use Rattle.plain_graph.specs.Reached.{IsLeastOrNone}
use Rattle.chain_edit.specs.Walking.{ReadsAtMost}
use Rattle.expand.proofs.ReadCounts.{reads_both}
use Rattle.path_find.specs.Costs.{ReadsBetween, TwoSearches, but_last, nodes_reads, reach_reads, searches_reads}
use Rattle.path_find.specs.Meeting.{AreApart, AreJoined, CanDescend, reversed}
use Rattle.path_find.specs.Reach.{AreLayers}
use Rattle.path_find.specs.declared.reach.Reach.{Reach}
use Rattle.path_find.specs.Reads.{neighbours_at}
use Rattle.path_find.specs.WalkSearch.{neighbours_back, neighbours_for}
use Rattle.path_find.specs.Tree.{Spans, node_at}
use Rattle.plain_graph.specs.Walks.{HasNoWalk}
use Rattle.path_find.proofs.Costs.{first_reached, none_left, reads_none, reads_rise, reads_within}
use Rattle.path_find.proofs.Descents.{can_descend}
use Rattle.path_find.proofs.Joined.{AreLonger, apart-longer, least_walk, longer-none, meets_at, whole_ahead, whole_behind}
use Rattle.path_find.proofs.Layers.{layers_begin}
use Rattle.path_find.proofs.MeetSteps.{apart_start, met_start}
use Rattle.path_find.proofs.OnlyReads.{broken-read, is_read-none, is_read-on, same-read, store-read}
use Rattle.path_find.proofs.Opposites.{opposite, opposite_back}
use Rattle.path_find.proofs.SearchSteps.{spans_begin}
use Rattle.rec_bytes.proofs.Causes.{never_ok}
use Rattle.path_find.proofs.Causes.{cause_later}
use Rattle.path_find.proofs.meeting.meet_between.Goals as goal
use Rattle.store_rules.specs.Rules.{IsWhole}

pub loop-has_met-init : goal.loop-has_met-init
loop-has_met-init g c =
    let s = g.R.Reads.state c.args.space.now in
    let first = c.requires.ahead in
    let second = c.requires.behind in
    let near = neighbours_for s c.args.sought.now in
    let back = neighbours_at s (reversed c.args.sought.now.direction) c.args.sought.now.labels.now in
    record {
      ahead = record { depth = 0; layers = subst (λ (r : Reach). AreLayers r.tree r.done 0) (sym first) (layers_begin c.args.sought.now.from) };
      behind = record { depth = 0; layers = subst (λ (r : Reach). AreLayers r.tree r.done 0) (sym second) (layers_begin c.args.sought.now.to) };
      first = ap (λ (r : Reach). node_at r.tree 0) first;
      last = ap (λ (r : Reach). node_at r.tree 0) second;
      met = met_start c.args.sought.now.from c.args.sought.now.to c.args.ahead.now.tree c.args.behind.now.tree
          (ap (λ (r : Reach). r.tree) first) (ap (λ (r : Reach). r.tree) second);
      apart = apart_start c.args.sought.now.from c.args.sought.now.to c.args.ahead.now.tree c.args.behind.now.tree
          (ap (λ (r : Reach). r.tree) first) (ap (λ (r : Reach). r.tree) second);
      read = is_read-none g.R.Reads g.met.R.Reads.stays_onward c.args.space.now;
      cost = λ tells store. reads_none _ s;
      ahead_spans = λ tells store there. subst (λ (r : Reach). Spans near r.tree r.done) (sym first) (spans_begin c.args.sought.now.from near there);
      behind_spans = λ tells store there. subst (λ (r : Reach). Spans back r.tree r.done) (sym second) (spans_begin c.args.sought.now.to back there);
      longer = λ tells store there to_there. longer-none near c.args.sought.now.from c.args.sought.now.to;
    }

pub loop-has_met-preserved : goal.loop-has_met-preserved
loop-has_met-preserved g c =
    let inv = c.loop-has_met.invariant in
    let s = g.R.Reads.state c.args.space.now in
    let direction = c.args.sought.now.direction in
    let labels = c.args.sought.now.labels.now in
    let near = neighbours_at s direction labels in
    let back = neighbours_at s (reversed direction) labels in
    let ahead = c.loop-has_met.ahead in
    let behind = c.loop-has_met.behind in
    let new_ahead = c.approach.new.ahead in
    let new_behind = c.approach.new.behind in
    let met = c.in_ok-met.ensures in
    let closer = met.closer inv.ahead.depth inv.behind.depth inv.ahead.layers inv.behind.layers in
    let apart = OnFalse_at c.loop-has_met-test.true inv.apart in
    let store_mid = λ (store : IsWhole s). store-read g.R.Reads g.met.R.Reads.onward_shape c.args.space.now c.loop-has_met.space inv.read store in
    let same = same-read g.R.Reads g.met.R.Reads.onward_shape c.args.space.now c.loop-has_met.space inv.read in
    record {
      ahead = record { depth = closer.ahead_depth; layers = closer.ahead_layers };
      behind = record { depth = closer.behind_depth; layers = closer.behind_layers };
      first = closer.from ∙ inv.first;
      last = closer.to ∙ inv.last;
      met = met.met;
      apart = OnFalse_from c.in_ok-met.met (AreApart new_ahead.tree new_behind.tree) (λ e. OnFalse_at e met.apart apart);
      read = is_read-on g.R.Reads g.met.R.Reads.further_onward c.args.space.now c.loop-has_met.space c.approach.new.space inv.read c.approach.ensures.read;
      cost = λ tells store.
          let mid = g.R.Reads.state c.loop-has_met.space in
          let after = g.R.Reads.state c.approach.new.space in
          reads_rise s mid after _ (reach_reads s c.args.sought.now new_ahead new_behind) (inv.cost tells store)
          (subst (λ (t : State). ReadsBetween (reach_reads t c.args.sought.now ahead behind) (reach_reads t c.args.sought.now new_ahead new_behind)
          mid after) same (met.cost tells (store_mid store)));
      ahead_spans = λ tells store there.
          subst (λ (t : State). Spans (neighbours_at t direction labels) ahead.tree ahead.done → Spans
          (neighbours_at t direction labels) new_ahead.tree new_ahead.done) same
          (met.ahead_spans tells (store_mid store)) (inv.ahead_spans tells store there);
      behind_spans = λ tells store to_there.
          subst (λ (t : State). Spans (neighbours_at t (reversed direction) labels) behind.tree behind.done → Spans (neighbours_at t
          (reversed direction) labels) new_behind.tree new_behind.done) same
          (met.behind_spans tells (store_mid store)) (inv.behind_spans tells store to_there);
      longer = λ tells store there to_there.
          let more = apart-longer near back (opposite s direction labels) (opposite_back s direction labels)
          ahead.tree ahead.done inv.ahead.depth inv.ahead.layers (inv.ahead_spans tells store there)
          behind.tree behind.done inv.behind.depth inv.behind.layers (inv.behind_spans tells store to_there) apart in
          let from_first = subst (λ n. AreLonger near n (node_at behind.tree 0) (inv.ahead.depth + inv.behind.depth + 1)) inv.first more in
          let from_both = subst (λ n. AreLonger near c.args.sought.now.from n (inv.ahead.depth + inv.behind.depth + 1)) inv.last from_first in
          subst (AreLonger near c.args.sought.now.from c.args.sought.now.to) (sym closer.deep) from_both;
    }

pub loop-has_met-smaller : goal.loop-has_met-smaller
loop-has_met-smaller g c =
    let more = c.in_ok-met.ensures.more in
    let left = OnFalse_at c.if-over.false c.is_over-over.ensures.ahead in
    let behind_left = OnFalse_at c.if-over.false c.is_over-over.ensures.behind in
    let few = c.is_over-over.ensures.few in
    let few_behind = c.is_over-over.ensures.few_behind in
    omega (arith, more, left, behind_left, few, few_behind)

pub returns-then-over-clause-found : goal.returns-then-over-clause-found
returns-then-over-clause-found g c = λ tells store there to_there.
    let inv = c.loop-has_met.invariant in
    let s = g.R.Reads.state c.args.space.now in
    let direction = c.args.sought.now.direction in
    let labels = c.args.sought.now.labels.now in
    let near = neighbours_at s direction labels in
    let back = neighbours_at s (reversed direction) labels in
    let ahead = c.loop-has_met.ahead in
    let behind = c.loop-has_met.behind in
    let apart = OnFalse_at c.loop-has_met-test.true inv.apart in
    let none : HasNoWalk near (node_at ahead.tree 0) (node_at behind.tree 0) = elim (OnTrue_at c.if-over.true c.is_over-over.ensures.yes) [
      | inl whole ↦ whole_ahead near back (opposite s direction labels) (opposite_back s direction labels)
          ahead.tree ahead.done inv.ahead.depth inv.ahead.layers (inv.ahead_spans tells store there)
          behind.tree behind.done inv.behind.depth inv.behind.layers (inv.behind_spans tells store to_there) apart whole
      | inr whole ↦ whole_behind near back (opposite s direction labels) (opposite_back s direction labels)
          ahead.tree ahead.done inv.ahead.depth inv.ahead.layers (inv.ahead_spans tells store there)
          behind.tree behind.done inv.behind.depth inv.behind.layers (inv.behind_spans tells store to_there) apart whole
    ] in
    let from_first = subst (λ n. HasNoWalk near n (node_at behind.tree 0)) inv.first none in
    let from_both = subst (λ n. HasNoWalk near c.args.sought.now.from n) inv.last from_first in
    subst (λ (list : List ℕ). IsLeastOrNone near c.args.sought.now.from c.args.sought.now.to list) (sym c.new-none.ensures.items) from_both

pub returns-clause-found : goal.returns-clause-found
returns-clause-found g c = λ tells store there to_there.
    IfOk-weaker c.join.result _ _ (λ walked joins.
    let inv = c.loop-has_met.invariant in
    let s = g.R.Reads.state c.args.space.now in
    let direction = c.args.sought.now.direction in
    let labels = c.args.sought.now.labels.now in
    let near = neighbours_at s direction labels in
    let back = neighbours_at s (reversed direction) labels in
    let ahead = c.loop-has_met.ahead in
    let behind = c.loop-has_met.behind in
    let walk = walked.items in
    let ahead_spans = inv.ahead_spans tells store there in
    let behind_spans = inv.behind_spans tells store to_there in
    let one = opposite s direction labels in
    let other = opposite_back s direction labels in
    let same = same-read g.R.Reads g.met.R.Reads.onward_shape c.args.space.now c.loop-has_met.space inv.read in
    let joined = subst (λ (t : State). CanDescend (neighbours_at t direction labels) behind.tree → AreJoined
    (neighbours_at t direction labels) ahead.tree behind.tree walk) same
    joins (can_descend near back one other behind.tree behind.done inv.behind.depth inv.behind.layers behind_spans) in
    let longer = inv.longer tells store there to_there in
    let longer_first = subst (λ n. AreLonger near n c.args.sought.now.to (inv.ahead.depth + inv.behind.depth)) (sym inv.first) longer in
    let longer_both = subst (λ n. AreLonger near (node_at ahead.tree 0) n (inv.ahead.depth + inv.behind.depth)) (sym inv.last) longer_first in
    let least = least_walk near back one other ahead.tree ahead.done inv.ahead.depth inv.ahead.layers ahead_spans behind.tree behind.done inv.behind.depth
    inv.behind.layers behind_spans longer_both walk joined in
    let from_first = subst (λ n. IsLeastOrNone near n (node_at behind.tree 0) walk) inv.first least in
    subst (λ n. IsLeastOrNone near c.args.sought.now.from n walk) inv.last from_first)
    (c.join.ensures.joins tells (store-read g.R.Reads g.met.R.Reads.onward_shape c.args.space.now c.loop-has_met.space c.loop-has_met.invariant.read store))

pub returns-then-over-clause-cost : goal.returns-then-over-clause-cost
returns-then-over-clause-cost g c = λ tells store there to_there.
    let inv = c.loop-has_met.invariant in
    let s = g.R.Reads.state c.args.space.now in
    let sought = c.args.sought.now in
    let near = neighbours_for s sought in
    let back = neighbours_back s sought in
    let ahead = c.loop-has_met.ahead in
    let behind = c.loop-has_met.behind in
    subst (λ (list : List ℕ). (searches : TwoSearches near back sought.from sought.to list)
    × ReadsAtMost (searches_reads s sought.direction sought.labels.now searches) s (g.R.Reads.state c.loop-has_met.space)) (sym c.new-none.ensures.items) (
      record {
        ahead_depth = inv.ahead.depth;
        behind_depth = inv.behind.depth;
        ahead = take ahead.done ahead.tree.nodes;
        behind = take behind.done behind.tree.nodes;
        way = [];
        from_first = first_reached ahead.tree near sought.from ahead.done inv.ahead.depth inv.ahead.layers (inv.ahead_spans tells store there) inv.first;
        from_last = first_reached behind.tree back sought.to behind.done inv.behind.depth inv.behind.layers (inv.behind_spans tells store to_there) inv.last;
        meet = tt;
        on = none_left inv.ahead.depth inv.behind.depth;
      },
      reads_within _ _ (omega arith) (inv.cost tells store),
    )

pub returns-clause-cost : goal.returns-clause-cost
returns-clause-cost g c = λ tells store there to_there.
    IfOk-weaker c.join.result _ _ (λ walked joins.
    let inv = c.loop-has_met.invariant in
    let s = g.R.Reads.state c.args.space.now in
    let mid = g.R.Reads.state c.loop-has_met.space in
    let after = g.R.Reads.state c.join.new.space in
    let sought = c.args.sought.now in
    let direction = sought.direction in
    let labels = sought.labels.now in
    let near = neighbours_at s direction labels in
    let back = neighbours_at s (reversed direction) labels in
    let ahead = c.loop-has_met.ahead in
    let behind = c.loop-has_met.behind in
    let walk = walked.items in
    let ahead_spans = inv.ahead_spans tells store there in
    let behind_spans = inv.behind_spans tells store to_there in
    let one = opposite s direction labels in
    let other = opposite_back s direction labels in
    let same = same-read g.R.Reads g.met.R.Reads.onward_shape c.args.space.now c.loop-has_met.space inv.read in
    let joined = subst (λ (t : State). CanDescend (neighbours_at t direction labels) behind.tree
    → (joined : AreJoined (neighbours_at t direction labels) ahead.tree behind.tree walk)
    × ReadsAtMost (nodes_reads t direction labels (but_last (node_at ahead.tree joined.row) joined.way)) mid after) same
    joins (can_descend near back one other behind.tree behind.done inv.behind.depth inv.behind.layers behind_spans) in
    let longer = inv.longer tells store there to_there in
    let longer_first = subst (λ n. AreLonger near n sought.to (inv.ahead.depth + inv.behind.depth)) (sym inv.first) longer in
    let longer_both = subst (λ n. AreLonger near (node_at ahead.tree 0) n (inv.ahead.depth + inv.behind.depth)) (sym inv.last) longer_first in
    let meets = meets_at near back one other ahead.tree ahead.done inv.ahead.depth inv.ahead.layers ahead_spans behind.tree behind.done inv.behind.depth
    inv.behind.layers behind_spans longer_both walk joined.0 in (
      record {
        ahead_depth = inv.ahead.depth;
        behind_depth = inv.behind.depth;
        ahead = take ahead.done ahead.tree.nodes;
        behind = take behind.done behind.tree.nodes;
        way = but_last (node_at ahead.tree joined.0.row) joined.0.way;
        from_first = first_reached ahead.tree near sought.from ahead.done inv.ahead.depth inv.ahead.layers ahead_spans inv.first;
        from_last = first_reached behind.tree back sought.to behind.done inv.behind.depth inv.behind.layers behind_spans inv.last;
        meet = meets.0;
        on = meets.1;
      },
      reads_both s mid after (reach_reads s sought ahead behind) _ (inv.cost tells store) joined.1,
    ))
    (c.join.ensures.cost tells (store-read g.R.Reads g.met.R.Reads.onward_shape c.args.space.now c.loop-has_met.space c.loop-has_met.invariant.read store))

pub returns-in_err-met-clause-cost : goal.returns-in_err-met-clause-cost
returns-in_err-met-clause-cost g c _ _ _ _ = never_ok c.from_residual.result _ _ c.from_residual.ensures.1

pub returns-in_err-met-clause-damaged : goal.returns-in_err-met-clause-damaged
returns-in_err-met-clause-damaged g c = λ tells.
    let p = err_from_is_err_and c.from_residual.result c.from_residual.ensures.1 in
    rw (p.1, p.2) (broken-read g.R.Reads g.met.R.Reads.onward_shape c.args.space.now c.loop-has_met.space c.loop-has_met.invariant.read
    c.in_err-met.field-0.0 (c.in_err-met.ensures.damaged tells))

pub returns-in_err-met-clause-read : goal.returns-in_err-met-clause-read
returns-in_err-met-clause-read g c = is_read-on g.R.Reads g.met.R.Reads.further_onward c.args.space.now c.loop-has_met.space c.approach.new.space
    c.loop-has_met.invariant.read c.approach.ensures.read

pub returns-clause-read : goal.returns-clause-read
returns-clause-read g c = is_read-on g.R.Reads g.met.R.Reads.further_onward c.args.space.now c.loop-has_met.space c.join.new.space c.loop-has_met.invariant.read
    c.join.ensures.read

pub returns-in_err-met-clause-cause : goal.returns-in_err-met-clause-cause
returns-in_err-met-clause-cause g c =
    let p = err_from_is_err_and c.from_residual.result c.from_residual.ensures.1 in
    let early = c.loop-has_met.invariant.read.later in
    let cause = c.in_err-met.ensures.cause in
    let late = cause.later in
    rw (p.1, p.2) (record {
      later = omega (arith, early, late);
      disk = λ is.
          let same : c.in_err-met.field-0.0 ≡ Disk = cc in
          let rose = cause.disk (ap Err same) in
          omega (arith, early, rose);
    })

pub returns-in_err-met-clause-found : goal.returns-in_err-met-clause-found
returns-in_err-met-clause-found g c _ _ _ _ = never_ok c.from_residual.result _ _ c.from_residual.ensures.1

pub returns-clause-damaged : goal.returns-clause-damaged
returns-clause-damaged g c tells =
    IfErr-weaker c.join.result _ _
    (λ fault broken. broken-read g.R.Reads g.met.R.Reads.onward_shape c.args.space.now c.loop-has_met.space c.loop-has_met.invariant.read fault broken)
    (c.join.ensures.damaged tells)

pub returns-clause-cause : goal.returns-clause-cause
returns-clause-cause g c = cause_later _ _ _ c.join.result c.loop-has_met.invariant.read.later c.join.ensures.cause
