use Rattle.store_rules.specs.Breaking.{IsHeadChain}
use Rattle.store_rules.specs.Rules.{node_head}
use Rattle.std.proofs.Common.{◌≡◌, ◌≢◌, ◌∙◌, ◌+◌, ◌*◌, [], ◌∷◌, ◌++◌, length, ap, subst, sym, inl, inr, arith}
use Rattle.rec_bytes.specs.declared.damage.Damage.{Damage}
use Rattle.rec_bytes.specs.Fault.{of_row}
use Rattle.rec_bytes.specs.Format.{nil, nodes_file, sparse as sparse_kind}
use Rattle.rec_bytes.specs.Space.{State}
use Rattle.node_store.proofs.Rows.{kind-row_at-None as no_node_row, kind-row_at-Some as node_row}
use Rattle.store_rules.specs.Breaking.{Breaks}
use Rattle.group_store.specs.Densing.{CanBecomeDense}
use Rattle.group_store.specs.GroupChain.{IsDense}
use Rattle.group_store.proofs.Arrivals.{members_read, part_all, part_known, part_next, part_none, readable_after, sparse_read, turn_over, turn_sound}
use Rattle.group_store.proofs.BrokenGroups.{node_fault_breaks}
use Rattle.group_store.proofs.ChainHeads.{same_twice}
use Rattle.group_store.proofs.DenseFaults.{broken_then, can_of, end_broken, end_late, none_unused, sparse_known, sparse_undamaged, unmoved}
use Rattle.group_store.proofs.DenseStays.{dense_cleared}
use Rattle.group_store.proofs.GroupWalks.{not_damaged}
use Rattle.group_store.proofs.Raises.{breaks_read}
use Rattle.group_store.proofs.Seeks.{dense_is, first_is}
use Rattle.group_store.proofs.SparseChains.{many_break, sparse_breaks}
use Rattle.std.proofs.lemmas.Bool.{false≢true}
use Rattle.store_rules.specs.Views.{degree, first_link, kind_at}
use Rattle.std.proofs.lemmas.Result.{err_from_is_err_and}
use Rattle.group_store.proofs.FirstGroups.{node_fault, only_loads_node}
use Rattle.group_store.specs.Spreading.{LeadsAmong, cleared}
use Rattle.group_store.proofs.Gathers.{beside_rels}
use Rattle.group_store.proofs.Leadings.{leads_cleared, rest_all, rest_live, rest_next, rest_over}
use Rattle.group_store.proofs.Comings.{come_beside, come_next, come_none, come_touches, one_longer}
use Rattle.group_store.proofs.Touches.{node_touched, touches_beside, touches_more, touches_none, touches_then}
use Rattle.group_store.proofs.Named.{at_node, named_beside, named_read, node_fault_named, sparse_named}
use Rattle.group_store.proofs.Spreads.{left_all, left_first, left_next, left_none, none_over, not_dense_row, row_degree, row_sound, turn_known}
use Rattle.group_store.proofs.Causes.{later_on}
use Rattle.group_store.proofs.LeftBeside.{beside_cleared, beside_read, beside_then, later_beside}
use Rattle.group_store.specs.OpenFault.{of_fault}
use Rattle.group_store.proofs.OpenFaults.{fault_cause, on_refusal, open_cause, refuses, row_cause, space_cause, space_has}
use Rattle.group_store.proofs.KeptHeads.{heads_same}
use Rattle.group_store.proofs.MadeHeads.{heads_cleared, others_then}
use Rattle.rec_bytes.proofs.Causes.{never_ok}
use Rattle.group_store.specs.declared.open_fault.OpenFault.TheVariants.{Damaged}
use Rattle.group_store.proofs.CountedLists.{list_cleared}
use Rattle.group_store.proofs.LowHeads.{low_next, low_none}
use Rattle.group_store.proofs.Strangers.{found_apart, found_dense, node_apart, node_fault_apart, sparse_apart}
use Rattle.rec_bytes.specs.Format.{groups_file}
use Rattle.id_freelist.proofs.ListSteps.{harms_none_then, reads_harm_none}
use Rattle.group_store.proofs.GroupMetas.{cleared_harms_none, grows_cleared, grows_read, metas_more, metas_node, metas_then, node_fault_metas, sparse_metas}
use Rattle.group_store.proofs.densing.make_dense.Goals as goal

pub loop-init : goal.loop-init
loop-init g c =
    let s = g.S.Reads.state c.args.space.now in
    let l = g.S.Reads.state c.load.new.space in
    let v = g.S.Reads.state c.test_chain.new.space in
    let t = g.S.Reads.state c.clear.new.space in
    let same = same_twice s l v (only_loads_node s l c.args.node c.load.ensures.state) c.in_ok-test_chain.ensures.state in
    let moved = c.new-moved.ensures in
    record {
      left = λ tells most empty can. left_all s v t c.args.node c.in-Some.row most empty c.new-moved.result.relationships.items c.new-moved.result.groups.items
          same (sym c.in-Some.is ∙ c.in_ok-row.ensures.found tells) (c.in_ok-clear.ensures.ok tells)
          moved.relationships moved.groups can;
      part = λ tells members free can. part_all s v t c.args.node c.in-Some.row members free c.new-moved.result.relationships.items
          c.new-moved.result.groups.items same (sym c.in-Some.is ∙ c.in_ok-row.ensures.found tells) (c.in_ok-clear.ensures.ok tells)
          moved.relationships moved.groups can;
      leads = λ tells. subst (λ (q : State). LeadsAmong q.records c.args.node c.new-moved.result.relationships.items c.new-moved.result.groups.items)
          (sym (c.in_ok-clear.ensures.ok tells))
          (subst (λ xs. LeadsAmong (cleared v c.args.node).records c.args.node xs c.new-moved.result.groups.items) (sym moved.relationships)
          (subst (λ gs. LeadsAmong (cleared v c.args.node).records c.args.node (nil ∷ []) gs) (sym moved.groups) (leads_cleared v c.args.node)));
      rest = λ tells. rest_all s l v t c.args.node c.in-Some.row.first c.in-Some.row.degree (only_loads_node s l c.args.node c.load.ensures.state) same
          (c.in_ok-clear.ensures.ok tells)
          (row_degree s c.args.node c.in-Some.row (sym c.in-Some.is ∙ c.in_ok-row.ensures.found tells)) (c.in_ok-test_chain.ensures.chain tells);
      dense = λ tells.
          let used = (node_row s.records c.args.node c.in-Some.row (sym (sym c.in-Some.is ∙ c.in_ok-row.ensures.found tells))).0 in
          subst (λ (q : State). IsDense q.records c.args.node) (sym (c.in_ok-clear.ensures.ok tells))
          (dense_cleared v c.args.node (subst (λ (q : State). kind_at q.records nodes_file c.args.node ≢ 0) (sym same) used));
      lists = λ tells. harms_none_then s v t groups_file (reads_harm_none s v groups_file same) (cleared_harms_none v t c.args.node
          (c.in_ok-clear.ensures.ok tells));
      room = λ tells. let read = grows_read s v same in let clear = grows_cleared v t c.args.node (c.in_ok-clear.ensures.ok tells) in
          omega (arith, read, clear);
      list = λ tells. list_cleared v t c.args.node (c.in_ok-clear.ensures.ok tells);
      low = λ tells. low_none t.records c.new-moved.result.relationships.items moved.relationships;
      beside = λ tells. beside_then s.records v.records t.records c.args.node (beside_read s v c.args.node same)
          (beside_cleared v t c.args.node (c.in_ok-clear.ensures.ok tells));
      heads = λ tells h n ne o. heads_cleared v t c.args.node (c.in_ok-clear.ensures.ok tells) h n ne (heads_same s v same h n o);
      writes = come_none s v t c.args.node c.new-moved.result.relationships.items c.new-moved.result.groups.items same c.in_ok-clear.ensures.writes;
      rels = ap length moved.relationships;
      groups = ap length moved.groups;
      onward = g.met.S.Reads.further_onward c.args.space.now c.test_chain.new.space c.clear.new.space
          (g.met.S.Reads.further_onward c.args.space.now c.load.new.space c.test_chain.new.space c.load.ensures.onward c.in_ok-test_chain.ensures.onward)
          c.in_ok-clear.ensures.onward;
      later = let first = c.load.ensures.cause in let next = c.in_ok-test_chain.ensures.cause in let then = c.in_ok-clear.ensures.cause in
          omega (arith, first.later, next.later, then.later);
    }

pub loop-preserved : goal.loop-preserved
loop-preserved g c =
    let s = g.S.Reads.state c.args.space.now in
    let now = g.S.Reads.state c.loop.space in
    let end = g.S.Reads.state c.move_one.new.space in
    let came = c.loop.moved.relationships.items in
    let groups = c.loop.moved.groups.items in
    let xs = c.note.new.self.relationships.items in
    let ys = c.note.new.self.groups.items in
    let turn = c.in_ok-turn.turn in
    let was = c.loop.invariant in
    record {
      left = λ tells most empty can. left_next s now end c.args.node c.loop.at c.loop.counter most empty came groups turn c.if-at.false
          (c.in_ok-turn.ensures.own tells) (was.left tells most empty can) xs ys
          c.note.ensures.relationships c.note.ensures.groups (c.in_ok-turn.ensures.moved tells);
      part = λ tells members free can. part_next s now c.args.node c.loop.at c.loop.counter members came groups c.if-at.false (was.part tells members free can)
          end turn xs ys c.note.ensures.relationships c.note.ensures.groups (c.in_ok-turn.ensures.local tells);
      leads = λ tells. subst (λ zs. LeadsAmong end.records c.args.node zs ys) (sym c.note.ensures.relationships)
          (subst (λ zs. LeadsAmong end.records c.args.node (came ++ c.loop.at ∷ []) zs) (sym c.note.ensures.groups) (c.in_ok-turn.ensures.leads tells came
          groups (was.leads tells)).0);
      rest = λ tells. rest_next s now c.args.node c.loop.at c.loop.counter c.if-at.false (was.rest tells) end turn.next (c.in_ok-turn.ensures.walk tells);
      dense = λ tells. c.in_ok-turn.ensures.dense tells (was.dense tells);
      lists = λ tells. harms_none_then s now end groups_file (was.lists tells) (c.in_ok-turn.ensures.lists tells);
      list = λ tells. c.in_ok-turn.ensures.list tells (was.dense tells) (was.list tells);
      room = λ tells. let before = was.room tells in let one = c.in_ok-turn.ensures.room tells in omega (arith, before, one);
      low = λ tells. low_next now.records end.records c.args.node c.loop.at came xs (c.in_ok-turn.ensures.leaves_others tells) c.note.ensures.relationships
          (λ none. rest_live s now c.args.node c.loop.at c.loop.counter c.if-at.false (was.rest tells)
          (sym (beside_rels s.records now.records c.args.node (was.beside tells) c.loop.at) ∙ none)) (was.low tells);
      beside = λ tells. beside_then s.records now.records end.records c.args.node (was.beside tells) (c.in_ok-turn.ensures.leaves_others tells);
      heads = λ tells. others_then s now end c.args.node (was.heads tells) (c.in_ok-turn.ensures.heads tells);
      writes = come_next s now end c.args.node c.loop.at turn came groups xs ys was.writes c.in_ok-turn.ensures.wrote
          (c.note.ensures.known.0 c.if-not-note.false) c.note.ensures.relationships c.note.ensures.groups;
      rels = one_longer c.loop.at c.loop.counter came xs c.note.ensures.relationships was.rels;
      groups = one_longer turn.group c.loop.counter groups ys c.note.ensures.groups was.groups;
      onward = g.met.S.Reads.further_onward c.args.space.now c.loop.space c.move_one.new.space was.onward c.in_ok-turn.ensures.onward;
      later = let cause = c.in_ok-turn.ensures.cause in omega (arith, was.later, cause.later);
    }

-- ---- what is written

pub returns-in_err-turn-clause-writes : goal.returns-in_err-turn-clause-writes
returns-in_err-turn-clause-writes g c =
    touches_beside (g.S.Reads.state c.args.space.now) (g.S.Reads.state c.move_one.new.space) c.args.node (c.loop.counter + 1 + 2) (c.loop.counter + 1 + 2)
    (2 * (c.args.threshold + 1) + 2) (omega (arith, c.loop-test.true, c.if-row-threshold.false))
    (touches_then (g.S.Reads.state c.args.space.now) (g.S.Reads.state c.loop.space) (g.S.Reads.state c.move_one.new.space) c.args.node (c.loop.counter + 1)
    (c.loop.counter + 1) 2 2 (come_touches (g.S.Reads.state c.args.space.now) (g.S.Reads.state c.loop.space) c.args.node c.loop.counter (c.loop.counter + 1)
    c.loop.moved.relationships.items c.loop.moved.groups.items c.loop.invariant.rels c.loop.invariant.groups (omega arith) c.loop.invariant.writes)
    c.in_err-turn.ensures.touches)

pub returns-in_err-turn-clause-touches : goal.returns-in_err-turn-clause-touches
returns-in_err-turn-clause-touches g c =
    touches_more (g.S.Reads.state c.args.space.now) (g.S.Reads.state c.move_one.new.space) c.args.node (c.loop.counter + 1 + 2) (c.loop.counter + 1 + 2)
    (c.args.threshold + 2) (c.args.threshold + 2) (omega (arith, c.loop-test.true, c.if-row-threshold.false))
    (omega (arith, c.loop-test.true, c.if-row-threshold.false))
    (touches_then (g.S.Reads.state c.args.space.now) (g.S.Reads.state c.loop.space) (g.S.Reads.state c.move_one.new.space) c.args.node (c.loop.counter + 1)
    (c.loop.counter + 1) 2 2 (come_touches (g.S.Reads.state c.args.space.now) (g.S.Reads.state c.loop.space) c.args.node c.loop.counter (c.loop.counter + 1)
    c.loop.moved.relationships.items c.loop.moved.groups.items c.loop.invariant.rels c.loop.invariant.groups (omega arith) c.loop.invariant.writes)
    c.in_err-turn.ensures.touches)

pub returns-in_err-turn-clause-few : goal.returns-in_err-turn-clause-few
returns-in_err-turn-clause-few g c = λ tells.
    let e = row_degree (g.S.Reads.state c.args.space.now) c.args.node c.in-Some.row (sym c.in-Some.is ∙ c.in_ok-row.ensures.found tells) in
    let most = degree (g.S.Reads.state c.args.space.now).records c.args.node + 2 in
    touches_more (g.S.Reads.state c.args.space.now) (g.S.Reads.state c.move_one.new.space) c.args.node (c.loop.counter + 1 + 2) (c.loop.counter + 1 + 2) most
    most (omega (arith, c.loop-test.true, c.if-row-threshold.false, e)) (omega (arith, c.loop-test.true, c.if-row-threshold.false, e))
    (touches_then (g.S.Reads.state c.args.space.now) (g.S.Reads.state c.loop.space) (g.S.Reads.state c.move_one.new.space) c.args.node (c.loop.counter + 1)
    (c.loop.counter + 1) 2 2 (come_touches (g.S.Reads.state c.args.space.now) (g.S.Reads.state c.loop.space) c.args.node c.loop.counter (c.loop.counter + 1)
    c.loop.moved.relationships.items c.loop.moved.groups.items c.loop.invariant.rels c.loop.invariant.groups (omega arith) c.loop.invariant.writes)
    c.in_err-turn.ensures.touches)

pub returns-then-not-note-clause-writes : goal.returns-then-not-note-clause-writes
returns-then-not-note-clause-writes g c =
    touches_beside (g.S.Reads.state c.args.space.now) (g.S.Reads.state c.move_one.new.space) c.args.node (c.loop.counter + 1 + 2) (c.loop.counter + 1 + 2)
    (2 * (c.args.threshold + 1) + 2) (omega (arith, c.loop-test.true, c.if-row-threshold.false))
    (touches_then (g.S.Reads.state c.args.space.now) (g.S.Reads.state c.loop.space) (g.S.Reads.state c.move_one.new.space) c.args.node (c.loop.counter + 1)
    (c.loop.counter + 1) 2 2 (come_touches (g.S.Reads.state c.args.space.now) (g.S.Reads.state c.loop.space) c.args.node c.loop.counter (c.loop.counter + 1)
    c.loop.moved.relationships.items c.loop.moved.groups.items c.loop.invariant.rels c.loop.invariant.groups (omega arith) c.loop.invariant.writes)
    c.in_ok-turn.ensures.touches)

pub returns-then-not-note-clause-touches : goal.returns-then-not-note-clause-touches
returns-then-not-note-clause-touches g c =
    touches_more (g.S.Reads.state c.args.space.now) (g.S.Reads.state c.move_one.new.space) c.args.node (c.loop.counter + 1 + 2) (c.loop.counter + 1 + 2)
    (c.args.threshold + 2) (c.args.threshold + 2) (omega (arith, c.loop-test.true, c.if-row-threshold.false))
    (omega (arith, c.loop-test.true, c.if-row-threshold.false))
    (touches_then (g.S.Reads.state c.args.space.now) (g.S.Reads.state c.loop.space) (g.S.Reads.state c.move_one.new.space) c.args.node (c.loop.counter + 1)
    (c.loop.counter + 1) 2 2 (come_touches (g.S.Reads.state c.args.space.now) (g.S.Reads.state c.loop.space) c.args.node c.loop.counter (c.loop.counter + 1)
    c.loop.moved.relationships.items c.loop.moved.groups.items c.loop.invariant.rels c.loop.invariant.groups (omega arith) c.loop.invariant.writes)
    c.in_ok-turn.ensures.touches)

pub returns-then-not-note-clause-few : goal.returns-then-not-note-clause-few
returns-then-not-note-clause-few g c = λ tells.
    let e = row_degree (g.S.Reads.state c.args.space.now) c.args.node c.in-Some.row (sym c.in-Some.is ∙ c.in_ok-row.ensures.found tells) in
    let most = degree (g.S.Reads.state c.args.space.now).records c.args.node + 2 in
    touches_more (g.S.Reads.state c.args.space.now) (g.S.Reads.state c.move_one.new.space) c.args.node (c.loop.counter + 1 + 2) (c.loop.counter + 1 + 2) most
    most (omega (arith, c.loop-test.true, c.if-row-threshold.false, e)) (omega (arith, c.loop-test.true, c.if-row-threshold.false, e))
    (touches_then (g.S.Reads.state c.args.space.now) (g.S.Reads.state c.loop.space) (g.S.Reads.state c.move_one.new.space) c.args.node (c.loop.counter + 1)
    (c.loop.counter + 1) 2 2 (come_touches (g.S.Reads.state c.args.space.now) (g.S.Reads.state c.loop.space) c.args.node c.loop.counter (c.loop.counter + 1)
    c.loop.moved.relationships.items c.loop.moved.groups.items c.loop.invariant.rels c.loop.invariant.groups (omega arith) c.loop.invariant.writes)
    c.in_ok-turn.ensures.touches)

pub returns-then-at-clause-wrote : goal.returns-then-at-clause-wrote
returns-then-at-clause-wrote g c =
    let was = c.loop.invariant in
    come_beside (g.S.Reads.state c.args.space.now) (g.S.Reads.state c.loop.space) c.args.node c.loop.counter _ _ _ was.rels was.groups
    (omega (arith, c.loop-test.true, c.if-row-threshold.false)) was.writes

pub returns-then-at-clause-writes : goal.returns-then-at-clause-writes
returns-then-at-clause-writes g c =
    let was = c.loop.invariant in
    come_beside (g.S.Reads.state c.args.space.now) (g.S.Reads.state c.loop.space) c.args.node c.loop.counter _ _ _ was.rels was.groups
    (omega (arith, c.loop-test.true, c.if-row-threshold.false)) was.writes

pub returns-then-at-clause-touches : goal.returns-then-at-clause-touches
returns-then-at-clause-touches g c = come_touches (g.S.Reads.state c.args.space.now) (g.S.Reads.state c.loop.space) c.args.node c.loop.counter
    (c.args.threshold + 2) c.loop.moved.relationships.items c.loop.moved.groups.items c.loop.invariant.rels c.loop.invariant.groups
    (omega (arith, c.loop-test.true, c.if-row-threshold.false)) c.loop.invariant.writes

pub returns-then-at-clause-few : goal.returns-then-at-clause-few
returns-then-at-clause-few g c = λ tells.
    let e = row_degree (g.S.Reads.state c.args.space.now) c.args.node c.in-Some.row (sym c.in-Some.is ∙ c.in_ok-row.ensures.found tells) in
    come_touches (g.S.Reads.state c.args.space.now) (g.S.Reads.state c.loop.space) c.args.node c.loop.counter
    (degree (g.S.Reads.state c.args.space.now).records c.args.node + 2) c.loop.moved.relationships.items c.loop.moved.groups.items c.loop.invariant.rels
    c.loop.invariant.groups (omega (arith, c.loop-test.true, c.if-row-threshold.false, e)) c.loop.invariant.writes

pub returns-clause-wrote : goal.returns-clause-wrote
returns-clause-wrote g c =
    let was = c.loop.invariant in
    come_beside (g.S.Reads.state c.args.space.now) (g.S.Reads.state c.loop.space) c.args.node c.loop.counter _ _ _ was.rels was.groups
    (omega (arith, c.loop.auto.counter-end, c.if-row-threshold.false)) was.writes

pub returns-clause-writes : goal.returns-clause-writes
returns-clause-writes g c =
    let was = c.loop.invariant in
    come_beside (g.S.Reads.state c.args.space.now) (g.S.Reads.state c.loop.space) c.args.node c.loop.counter _ _ _ was.rels was.groups
    (omega (arith, c.loop.auto.counter-end, c.if-row-threshold.false)) was.writes

pub returns-clause-touches : goal.returns-clause-touches
returns-clause-touches g c = come_touches (g.S.Reads.state c.args.space.now) (g.S.Reads.state c.loop.space) c.args.node c.loop.counter (c.args.threshold + 2)
    c.loop.moved.relationships.items c.loop.moved.groups.items c.loop.invariant.rels c.loop.invariant.groups
    (omega (arith, c.loop.auto.counter-end, c.if-row-threshold.false)) c.loop.invariant.writes

pub returns-clause-few : goal.returns-clause-few
returns-clause-few g c = λ tells.
    let e = row_degree (g.S.Reads.state c.args.space.now) c.args.node c.in-Some.row (sym c.in-Some.is ∙ c.in_ok-row.ensures.found tells) in
    come_touches (g.S.Reads.state c.args.space.now) (g.S.Reads.state c.loop.space) c.args.node c.loop.counter
    (degree (g.S.Reads.state c.args.space.now).records c.args.node + 2) c.loop.moved.relationships.items c.loop.moved.groups.items c.loop.invariant.rels
    c.loop.invariant.groups (omega (arith, c.loop.auto.counter-end, c.if-row-threshold.false, e)) c.loop.invariant.writes

pub returns-then-at-2-clause-writes : goal.returns-then-at-2-clause-writes
returns-then-at-2-clause-writes g c =
    let was = c.loop.invariant in
    come_beside (g.S.Reads.state c.args.space.now) (g.S.Reads.state c.loop.space) c.args.node c.loop.counter _ _ _ was.rels was.groups
    (omega (arith, c.loop.auto.counter-end, c.if-row-threshold.false)) was.writes

pub returns-then-at-2-clause-touches : goal.returns-then-at-2-clause-touches
returns-then-at-2-clause-touches g c = come_touches (g.S.Reads.state c.args.space.now) (g.S.Reads.state c.loop.space) c.args.node c.loop.counter
    (c.args.threshold + 2) c.loop.moved.relationships.items c.loop.moved.groups.items c.loop.invariant.rels c.loop.invariant.groups
    (omega (arith, c.loop.auto.counter-end, c.if-row-threshold.false)) c.loop.invariant.writes

pub returns-then-at-2-clause-few : goal.returns-then-at-2-clause-few
returns-then-at-2-clause-few g c = λ tells.
    let e = row_degree (g.S.Reads.state c.args.space.now) c.args.node c.in-Some.row (sym c.in-Some.is ∙ c.in_ok-row.ensures.found tells) in
    come_touches (g.S.Reads.state c.args.space.now) (g.S.Reads.state c.loop.space) c.args.node c.loop.counter
    (degree (g.S.Reads.state c.args.space.now).records c.args.node + 2) c.loop.moved.relationships.items c.loop.moved.groups.items c.loop.invariant.rels
    c.loop.invariant.groups (omega (arith, c.loop.auto.counter-end, c.if-row-threshold.false, e)) c.loop.invariant.writes

pub returns-in_err-row-clause-touches : goal.returns-in_err-row-clause-touches
returns-in_err-row-clause-touches g c = touches_none (g.S.Reads.state c.args.space.now) (g.S.Reads.state c.load.new.space) c.args.node _ _
    (only_loads_node (g.S.Reads.state c.args.space.now) (g.S.Reads.state c.load.new.space) c.args.node c.load.ensures.state)

pub returns-in_err-row-clause-few : goal.returns-in_err-row-clause-few
returns-in_err-row-clause-few g c = λ tells. touches_none (g.S.Reads.state c.args.space.now) (g.S.Reads.state c.load.new.space) c.args.node _ _
    (only_loads_node (g.S.Reads.state c.args.space.now) (g.S.Reads.state c.load.new.space) c.args.node c.load.ensures.state)

pub returns-in_default-clause-touches : goal.returns-in_default-clause-touches
returns-in_default-clause-touches g c = touches_none (g.S.Reads.state c.args.space.now) (g.S.Reads.state c.load.new.space) c.args.node _ _
    (only_loads_node (g.S.Reads.state c.args.space.now) (g.S.Reads.state c.load.new.space) c.args.node c.load.ensures.state)

pub returns-in_default-clause-few : goal.returns-in_default-clause-few
returns-in_default-clause-few g c = λ tells. touches_none (g.S.Reads.state c.args.space.now) (g.S.Reads.state c.load.new.space) c.args.node _ _
    (only_loads_node (g.S.Reads.state c.args.space.now) (g.S.Reads.state c.load.new.space) c.args.node c.load.ensures.state)

pub returns-then-row-clause-touches : goal.returns-then-row-clause-touches
returns-then-row-clause-touches g c = touches_none (g.S.Reads.state c.args.space.now) (g.S.Reads.state c.load.new.space) c.args.node _ _
    (only_loads_node (g.S.Reads.state c.args.space.now) (g.S.Reads.state c.load.new.space) c.args.node c.load.ensures.state)

pub returns-then-row-clause-few : goal.returns-then-row-clause-few
returns-then-row-clause-few g c = λ tells. touches_none (g.S.Reads.state c.args.space.now) (g.S.Reads.state c.load.new.space) c.args.node _ _
    (only_loads_node (g.S.Reads.state c.args.space.now) (g.S.Reads.state c.load.new.space) c.args.node c.load.ensures.state)

pub returns-in_err-clear-clause-touches : goal.returns-in_err-clear-clause-touches
returns-in_err-clear-clause-touches g c =
    let s = g.S.Reads.state c.args.space.now in
    let l = g.S.Reads.state c.load.new.space in
    let v = g.S.Reads.state c.test_chain.new.space in
    node_touched s v (g.S.Reads.state c.clear.new.space) c.args.node _ _
    (same_twice s l v (only_loads_node s l c.args.node c.load.ensures.state) c.in_ok-test_chain.ensures.state) c.in_err-clear.ensures.writes

pub returns-in_err-clear-clause-few : goal.returns-in_err-clear-clause-few
returns-in_err-clear-clause-few g c = λ tells.
    let s = g.S.Reads.state c.args.space.now in
    let l = g.S.Reads.state c.load.new.space in
    let v = g.S.Reads.state c.test_chain.new.space in
    node_touched s v (g.S.Reads.state c.clear.new.space) c.args.node _ _
    (same_twice s l v (only_loads_node s l c.args.node c.load.ensures.state) c.in_ok-test_chain.ensures.state) c.in_err-clear.ensures.writes

pub returns-in_err-test_chain-clause-touches : goal.returns-in_err-test_chain-clause-touches
returns-in_err-test_chain-clause-touches g c =
    let s = g.S.Reads.state c.args.space.now in
    let l = g.S.Reads.state c.load.new.space in
    let v = g.S.Reads.state c.test_chain.new.space in
    touches_none s v c.args.node _ _ (same_twice s l v (only_loads_node s l c.args.node c.load.ensures.state) c.in_err-test_chain.ensures.state)

pub returns-in_err-test_chain-clause-few : goal.returns-in_err-test_chain-clause-few
returns-in_err-test_chain-clause-few g c = λ tells.
    let s = g.S.Reads.state c.args.space.now in
    let l = g.S.Reads.state c.load.new.space in
    let v = g.S.Reads.state c.test_chain.new.space in
    touches_none s v c.args.node _ _ (same_twice s l v (only_loads_node s l c.args.node c.load.ensures.state) c.in_err-test_chain.ensures.state)

pub returns-then-row-threshold-clause-touches : goal.returns-then-row-threshold-clause-touches
returns-then-row-threshold-clause-touches g c = touches_none (g.S.Reads.state c.args.space.now) (g.S.Reads.state c.load.new.space) c.args.node _ _
    (only_loads_node (g.S.Reads.state c.args.space.now) (g.S.Reads.state c.load.new.space) c.args.node c.load.ensures.state)

pub returns-then-row-threshold-clause-few : goal.returns-then-row-threshold-clause-few
returns-then-row-threshold-clause-few g c = λ tells. touches_none (g.S.Reads.state c.args.space.now) (g.S.Reads.state c.load.new.space) c.args.node _ _
    (only_loads_node (g.S.Reads.state c.args.space.now) (g.S.Reads.state c.load.new.space) c.args.node c.load.ensures.state)

-- ---- what it does

pub returns-then-at-clause-made : goal.returns-then-at-clause-made
returns-then-at-clause-made g c = λ tells most empty can.
    left_none (g.S.Reads.state c.args.space.now) (g.S.Reads.state c.loop.space) c.args.node c.loop.at c.loop.counter most empty c.loop.moved.relationships.items
    c.loop.moved.groups.items c.if-at.true (c.loop.invariant.left tells most empty can)

pub returns-clause-made : goal.returns-clause-made
returns-clause-made g c = λ tells most empty can.
    left_none (g.S.Reads.state c.args.space.now) (g.S.Reads.state c.loop.space) c.args.node c.loop.at c.loop.counter most empty c.loop.moved.relationships.items
    c.loop.moved.groups.items c.if-at-2.false (c.loop.invariant.left tells most empty can)

pub returns-then-row-clause-not_damaged : goal.returns-then-row-clause-not_damaged
returns-then-row-clause-not_damaged g c = λ tells most empty can room.
    not_dense_row (g.S.Reads.state c.args.space.now) c.args.node c.in-Some.row most empty (sym c.in-Some.is ∙ c.in_ok-row.ensures.found tells) can c.if-row.true

pub returns-in_err-turn-clause-not_damaged : goal.returns-in_err-turn-clause-not_damaged
returns-in_err-turn-clause-not_damaged g c = λ tells most empty can room.
    let s = g.S.Reads.state c.args.space.now in
    let now = g.S.Reads.state c.loop.space in
    let p = err_from_is_err_and c.from_residual-in_err-turn.result c.from_residual-in_err-turn.ensures.1 in
    rw (p.1, p.2) (left_first s now c.args.node c.loop.at c.loop.counter most c.args.threshold empty
    c.loop.moved.relationships.items c.loop.moved.groups.items c.if-at.false
    (c.loop.invariant.left tells most empty can) room (c.in_err-turn.ensures.not_damaged tells))

pub returns-then-not-note-clause-not_damaged : goal.returns-then-not-note-clause-not_damaged
returns-then-not-note-clause-not_damaged g c = λ tells most empty can room.
    let s = g.S.Reads.state c.args.space.now in
    let now = g.S.Reads.state c.loop.space in
    let end = g.S.Reads.state c.move_one.new.space in
    false≢true (sym c.if-not-note.true ∙ c.note.ensures.known.1 (turn_known s now end c.args.node c.loop.at c.loop.counter most empty
    c.loop.moved.relationships.items c.loop.moved.groups.items c.in_ok-turn.turn c.if-at.false
    (c.in_ok-turn.ensures.own tells) (c.loop.invariant.left tells most empty can)))

pub returns-then-at-2-clause-not_damaged : goal.returns-then-at-2-clause-not_damaged
returns-then-at-2-clause-not_damaged g c = λ tells most empty can room.
    let e = row_degree (g.S.Reads.state c.args.space.now) c.args.node c.in-Some.row (sym c.in-Some.is ∙ c.in_ok-row.ensures.found tells) in
    none_over (g.S.Reads.state c.args.space.now) (g.S.Reads.state c.loop.space) c.args.node c.loop.at c.loop.counter most empty c.loop.moved.relationships.items
    c.loop.moved.groups.items c.if-at-2.true
    (c.loop.invariant.left tells most empty can) (omega (arith, c.loop-test.false, c.if-row-threshold.false, e, room.few))

pub returns-then-row-threshold-clause-not_damaged : goal.returns-then-row-threshold-clause-not_damaged
returns-then-row-threshold-clause-not_damaged g c = λ tells most empty can room.
    let e = row_degree (g.S.Reads.state c.args.space.now) c.args.node c.in-Some.row (sym c.in-Some.is ∙ c.in_ok-row.ensures.found tells) in
    omega (arith, c.if-row-threshold.true, e, room.few)

pub returns-in_err-test_chain-clause-not_damaged : goal.returns-in_err-test_chain-clause-not_damaged
returns-in_err-test_chain-clause-not_damaged g c = λ tells most empty can room.
    let s = g.S.Reads.state c.args.space.now in
    let l = g.S.Reads.state c.load.new.space in
    let same = only_loads_node s l c.args.node c.load.ensures.state in
    let found = sym c.in-Some.is ∙ c.in_ok-row.ensures.found tells in
    let p = err_from_is_err_and c.from_residual-in_err-test_chain.result c.from_residual-in_err-test_chain.ensures.1 in
    rw (p.1, p.2) (refuses c.in_err-test_chain.field-0.0 ⊥ (not_damaged Unit c.in_err-test_chain.field-0.0
    (sparse_undamaged l c.args.node c.in-Some.row.degree most empty
    (subst (λ (q : State). c.in-Some.row.degree ≡ degree q.records c.args.node) (sym same) (row_degree s c.args.node c.in-Some.row found))
    (subst (λ (q : State). CanBecomeDense q c.args.node most empty) (sym same) (can_of s l.reads c.args.node most empty can)) c.in_err-test_chain.field-0.0
    (c.in_err-test_chain.ensures.damaged tells (subst (λ (q : State). c.in-Some.row.first ≡ first_link q.records c.args.node) (sym same)
    (first_is s.records c.args.node c.in-Some.row found))))))

-- ---- damage

pub returns-in_err-row-clause-damaged : goal.returns-in_err-row-clause-damaged
returns-in_err-row-clause-damaged g c = λ tells sparse le.
    let s = g.S.Reads.state c.args.space.now in
    let l = g.S.Reads.state c.load.new.space in
    let fault = of_row c.in_err-row.field-0.0 in
    let p = err_from_is_err_and c.from_residual.result c.from_residual.ensures.1 in
    rw (p.1, p.2) (broken_then s l c.args.node fault (only_loads_node s l c.args.node c.load.ensures.state) (node_fault_breaks s c.args.node fault
    (node_fault s c.args.node c.in_err-row.field-0.0 (c.in_err-row.ensures.damaged tells))))

pub returns-in_default-clause-damaged : goal.returns-in_default-clause-damaged
returns-in_default-clause-damaged g c = λ tells sparse le.
    absurd (none_unused (g.S.Reads.state c.args.space.now) c.args.node (sym c.in_default.is ∙ c.in_ok-row.ensures.found tells)
    (λ e. let z = sym e ∙ sparse in omega arith))

pub returns-then-row-clause-damaged : goal.returns-then-row-clause-damaged
returns-then-row-clause-damaged g c = λ tells sparse le.
    let d = dense_is (g.S.Reads.state c.args.space.now).records c.args.node c.in-Some.row (sym c.in-Some.is ∙ c.in_ok-row.ensures.found tells) c.if-row.true in
    absurd (let z = sym sparse ∙ d in omega arith)

pub returns-then-row-threshold-clause-damaged : goal.returns-then-row-threshold-clause-damaged
returns-then-row-threshold-clause-damaged g c = λ tells sparse le.
    let s = g.S.Reads.state c.args.space.now in
    let same = only_loads_node s (g.S.Reads.state c.load.new.space) c.args.node c.load.ensures.state in
    let e = row_degree s c.args.node c.in-Some.row (sym c.in-Some.is ∙ c.in_ok-row.ensures.found tells) in
    subst (λ (q : State). Breaks q.records q.shape c.degree_damage.result) (sym same)
    (subst (λ (d : Damage). Breaks s.records s.shape d) (sym c.degree_damage.ensures) (many_break s c.args.node sparse c.args.threshold le
    (omega (arith, c.if-row-threshold.true, e))))

pub returns-in_err-test_chain-clause-damaged : goal.returns-in_err-test_chain-clause-damaged
returns-in_err-test_chain-clause-damaged g c = λ tells sparse le.
    let s = g.S.Reads.state c.args.space.now in
    let l = g.S.Reads.state c.load.new.space in
    let v = g.S.Reads.state c.test_chain.new.space in
    let same = only_loads_node s l c.args.node c.load.ensures.state in
    let found = sym c.in-Some.is ∙ c.in_ok-row.ensures.found tells in
    let fault = c.in_err-test_chain.field-0.0 in
    let p = err_from_is_err_and c.from_residual-in_err-test_chain.result c.from_residual-in_err-test_chain.ensures.1 in
    rw (p.1, p.2) (broken_then s v c.args.node fault (same_twice s l v same c.test_chain.ensures.state) (breaks_read s l same fault (sparse_breaks l c.args.node
    (subst (λ (q : State). kind_at q.records nodes_file c.args.node ≡ sparse_kind) (sym same) sparse) c.in-Some.row.degree
    (subst (λ (q : State). c.in-Some.row.degree ≡ degree q.records c.args.node) (sym same) (row_degree s c.args.node c.in-Some.row found)) fault
    (c.in_err-test_chain.ensures.damaged tells (subst (λ (q : State). c.in-Some.row.first ≡ first_link q.records c.args.node) (sym same)
    (first_is s.records c.args.node c.in-Some.row found))))))

pub returns-in_err-turn-clause-damaged : goal.returns-in_err-turn-clause-damaged
returns-in_err-turn-clause-damaged g c = λ tells sparse le.
    let s = g.S.Reads.state c.args.space.now in
    let now = g.S.Reads.state c.loop.space in
    let was = c.loop.invariant in
    let p = err_from_is_err_and c.from_residual-in_err-turn.result c.from_residual-in_err-turn.ensures.1 in
    rw (p.1, p.2) (unmoved now (g.S.Reads.state c.move_one.new.space) c.args.node c.loop.at c.in_err-turn.field-0.0 (c.in_err-turn.ensures.damaged tells
    (was.dense tells))
    (λ none. rest_live s now c.args.node c.loop.at c.loop.counter c.if-at.false (was.rest tells) (sym (beside_rels s.records now.records c.args.node
    (was.beside tells) c.loop.at) ∙ none)))

pub returns-then-not-note-clause-damaged : goal.returns-then-not-note-clause-damaged
returns-then-not-note-clause-damaged g c = λ tells sparse le.
    let was = c.loop.invariant in
    absurd (false≢true (sym c.if-not-note.true ∙ c.note.ensures.known.1 (c.in_ok-turn.ensures.leads tells c.loop.moved.relationships.items
    c.loop.moved.groups.items (was.leads tells)).1))

pub returns-then-at-2-clause-damaged : goal.returns-then-at-2-clause-damaged
returns-then-at-2-clause-damaged g c = λ tells sparse le.
    let s = g.S.Reads.state c.args.space.now in
    let e = row_degree s c.args.node c.in-Some.row (sym c.in-Some.is ∙ c.in_ok-row.ensures.found tells) in
    absurd (rest_over s (g.S.Reads.state c.loop.space) c.args.node c.loop.at c.loop.counter c.if-at-2.true (c.loop.invariant.rest tells)
    (omega (arith, c.loop-test.false, e)))

-- ---- by what the node has alone

pub returns-then-at-clause-spread : goal.returns-then-at-clause-spread
returns-then-at-clause-spread g c = λ tells members free can.
    part_none (g.S.Reads.state c.args.space.now) (g.S.Reads.state c.loop.space) c.args.node c.loop.at c.loop.counter members c.loop.moved.relationships.items
    c.loop.moved.groups.items c.if-at.true (c.loop.invariant.part tells members free can)

pub returns-clause-spread : goal.returns-clause-spread
returns-clause-spread g c = λ tells members free can.
    part_none (g.S.Reads.state c.args.space.now) (g.S.Reads.state c.loop.space) c.args.node c.loop.at c.loop.counter members c.loop.moved.relationships.items
    c.loop.moved.groups.items c.if-at-2.false (c.loop.invariant.part tells members free can)

pub returns-in_err-row-clause-never : goal.returns-in_err-row-clause-never
returns-in_err-row-clause-never g c = λ tells members free can room.
    let p = err_from_is_err_and c.from_residual.result c.from_residual.ensures.1 in
    let fault = of_row c.in_err-row.field-0.0 in
    rw (p.1, p.2) (refuses fault ⊥ (not_damaged Unit fault (row_sound c.in_err-row.field-0.0 (c.in_err-row.ensures.not_damaged tells
    (sparse_read (g.S.Reads.state c.args.space.now) c.args.node c.args.threshold members free can room)))))

pub returns-in_default-clause-never : goal.returns-in_default-clause-never
returns-in_default-clause-never g c = λ tells members free can room.
    none_unused (g.S.Reads.state c.args.space.now) c.args.node (sym c.in_default.is ∙ c.in_ok-row.ensures.found tells)
    (λ e. let z = sym e ∙ can.sparse in omega arith)

pub returns-then-row-clause-never : goal.returns-then-row-clause-never
returns-then-row-clause-never g c = λ tells members free can room.
    let d = dense_is (g.S.Reads.state c.args.space.now).records c.args.node c.in-Some.row (sym c.in-Some.is ∙ c.in_ok-row.ensures.found tells) c.if-row.true in
    let z = sym can.sparse ∙ d in omega arith

pub returns-then-row-threshold-clause-never : goal.returns-then-row-threshold-clause-never
returns-then-row-threshold-clause-never g c = λ tells members free can room.
    let e = row_degree (g.S.Reads.state c.args.space.now) c.args.node c.in-Some.row (sym c.in-Some.is ∙ c.in_ok-row.ensures.found tells) in
    omega (arith, c.if-row-threshold.true, e, room.few, room.exact)

pub returns-in_err-test_chain-clause-never : goal.returns-in_err-test_chain-clause-never
returns-in_err-test_chain-clause-never g c = λ tells members free can room.
    let s = g.S.Reads.state c.args.space.now in
    let l = g.S.Reads.state c.load.new.space in
    let same = only_loads_node s l c.args.node c.load.ensures.state in
    let found = sym c.in-Some.is ∙ c.in_ok-row.ensures.found tells in
    let e = row_degree s c.args.node c.in-Some.row found in
    let p = err_from_is_err_and c.from_residual-in_err-test_chain.result c.from_residual-in_err-test_chain.ensures.1 in
    rw (p.1, p.2) (refuses c.in_err-test_chain.field-0.0 ⊥ (c.in_err-test_chain.ensures.not_damaged tells
    (subst (λ (q : State). c.in-Some.row.first ≡ first_link q.records c.args.node) (sym same) (first_is s.records c.args.node c.in-Some.row found))
    members (subst (λ (q : State). IsHeadChain q.records (node_head c.args.node) c.args.node members) (sym same) can.chain)
    (readable_after s l members same (members_read s c.args.node c.args.threshold members room)) (omega (arith, e, room.exact))))

pub returns-in_err-turn-clause-never : goal.returns-in_err-turn-clause-never
returns-in_err-turn-clause-never g c = λ tells members free can room.
    let was = c.loop.invariant in
    let p = err_from_is_err_and c.from_residual-in_err-turn.result c.from_residual-in_err-turn.ensures.1 in
    rw (p.1, p.2) (turn_sound (g.S.Reads.state c.args.space.now) (g.S.Reads.state c.loop.space) c.args.node c.loop.at
    c.loop.counter c.args.threshold members c.loop.moved.relationships.items c.loop.moved.groups.items
    c.if-at.false (was.part tells members free can) room (was.beside tells) (c.in_err-turn.ensures.never tells))

pub returns-then-not-note-clause-never : goal.returns-then-not-note-clause-never
returns-then-not-note-clause-never g c = λ tells members free can room.
    false≢true (sym c.if-not-note.true ∙ c.note.ensures.known.1 (part_known (g.S.Reads.state c.args.space.now) (g.S.Reads.state c.loop.space)
    c.args.node c.loop.at c.loop.counter members c.loop.moved.relationships.items c.loop.moved.groups.items
    c.if-at.false (c.loop.invariant.part tells members free can) (g.S.Reads.state c.move_one.new.space) c.in_ok-turn.turn (c.in_ok-turn.ensures.local tells)))

pub returns-then-at-2-clause-never : goal.returns-then-at-2-clause-never
returns-then-at-2-clause-never g c = λ tells members free can room.
    let s = g.S.Reads.state c.args.space.now in
    let e = row_degree s c.args.node c.in-Some.row (sym c.in-Some.is ∙ c.in_ok-row.ensures.found tells) in
    turn_over s (g.S.Reads.state c.loop.space) c.args.node c.loop.at c.loop.counter c.args.threshold members c.loop.moved.relationships.items
    c.loop.moved.groups.items c.if-at-2.true (c.loop.invariant.part tells members free can) room (omega (arith, c.loop-test.false, e))

pub returns-then-at-clause-dense : goal.returns-then-at-clause-dense
returns-then-at-clause-dense g c = λ tells. c.loop.invariant.dense tells

pub returns-clause-dense : goal.returns-clause-dense
returns-clause-dense g c = λ tells. c.loop.invariant.dense tells

pub returns-in_err-row-clause-cause : goal.returns-in_err-row-clause-cause
returns-in_err-row-clause-cause g c =
    row_cause _ _ _ c.from_residual.result c.in_err-row.field-0.0 (omega arith) c.in_err-row.ensures.cause c.from_residual.ensures.1

pub returns-in_err-test_chain-clause-cause : goal.returns-in_err-test_chain-clause-cause
returns-in_err-test_chain-clause-cause g c =
    fault_cause _ _ _ c.from_residual-in_err-test_chain.result c.in_err-test_chain.field-0.0 c.in_ok-row.ensures.cause.later c.in_err-test_chain.ensures.cause
    c.from_residual-in_err-test_chain.ensures.1

pub returns-in_err-clear-clause-cause : goal.returns-in_err-clear-clause-cause
returns-in_err-clear-clause-cause g c =
    space_cause _ _ _ c.from_residual-in_err-clear.result c.in_err-clear.field-0.0
    (later_on c.in_ok-row.ensures.cause.later c.in_ok-test_chain.ensures.cause.later) c.in_err-clear.ensures.cause c.from_residual-in_err-clear.ensures.1

pub returns-in_err-turn-clause-cause : goal.returns-in_err-turn-clause-cause
returns-in_err-turn-clause-cause g c =
    open_cause _ _ _ c.from_residual-in_err-turn.result c.in_err-turn.field-0.0 c.loop.invariant.later c.in_err-turn.ensures.cause
    c.from_residual-in_err-turn.ensures.1

-- ---- what is told by the space as it is then

pub returns-in_err-row-clause-told : goal.returns-in_err-row-clause-told
returns-in_err-row-clause-told g c = λ tells thin le.
    let s = g.S.Reads.state c.args.space.now in
    let l = g.S.Reads.state c.load.new.space in
    let fault = of_row c.in_err-row.field-0.0 in
    let p = err_from_is_err_and c.from_residual.result c.from_residual.ensures.1 in
    rw (p.1, p.2) (end_broken s l c.args.node fault (only_loads_node s l c.args.node c.load.ensures.state) (node_fault_breaks s c.args.node fault
    (node_fault s c.args.node c.in_err-row.field-0.0 (c.in_err-row.ensures.damaged tells))))

pub returns-in_default-clause-told : goal.returns-in_default-clause-told
returns-in_default-clause-told g c = λ tells thin le.
    let s = g.S.Reads.state c.args.space.now in
    let l = g.S.Reads.state c.load.new.space in
    let same = only_loads_node s l c.args.node c.load.ensures.state in
    let none = no_node_row s.records c.args.node (sym (sym c.in_default.is ∙ c.in_ok-row.ensures.found tells)) in
    inr (c.chain_damage.ensures, subst (λ (q : State). kind_at q.records nodes_file c.args.node ≡ 0) (sym same) none)

pub returns-then-row-clause-told : goal.returns-then-row-clause-told
returns-then-row-clause-told g c = λ tells thin le.
    absurd (thin (dense_is (g.S.Reads.state c.args.space.now).records c.args.node c.in-Some.row (sym c.in-Some.is ∙ c.in_ok-row.ensures.found tells)
    c.if-row.true))

pub returns-then-row-threshold-clause-told : goal.returns-then-row-threshold-clause-told
returns-then-row-threshold-clause-told g c = λ tells thin le.
    let s = g.S.Reads.state c.args.space.now in
    let l = g.S.Reads.state c.load.new.space in
    let same = only_loads_node s l c.args.node c.load.ensures.state in
    let e = row_degree s c.args.node c.in-Some.row (sym c.in-Some.is ∙ c.in_ok-row.ensures.found tells) in
    let sparse = sparse_known s c.args.node (c.in_ok-row.ensures.known tells)
    (node_row s.records c.args.node c.in-Some.row (sym (sym c.in-Some.is ∙ c.in_ok-row.ensures.found tells))).0 thin in
    inl (subst (λ (q : State). Breaks q.records q.shape c.degree_damage.result) (sym same)
    (subst (λ (d : Damage). Breaks s.records s.shape d) (sym c.degree_damage.ensures) (many_break s c.args.node sparse c.args.threshold le
    (omega (arith, c.if-row-threshold.true, e)))))

pub returns-in_err-test_chain-clause-told : goal.returns-in_err-test_chain-clause-told
returns-in_err-test_chain-clause-told g c = λ tells thin le.
    let s = g.S.Reads.state c.args.space.now in
    let l = g.S.Reads.state c.load.new.space in
    let v = g.S.Reads.state c.test_chain.new.space in
    let same = only_loads_node s l c.args.node c.load.ensures.state in
    let found = sym c.in-Some.is ∙ c.in_ok-row.ensures.found tells in
    let fault = c.in_err-test_chain.field-0.0 in
    let sparse = sparse_known s c.args.node (c.in_ok-row.ensures.known tells)
    (node_row s.records c.args.node c.in-Some.row (sym (sym c.in-Some.is ∙ c.in_ok-row.ensures.found tells))).0 thin in
    let p = err_from_is_err_and c.from_residual-in_err-test_chain.result c.from_residual-in_err-test_chain.ensures.1 in
    rw (p.1, p.2) (end_broken s v c.args.node fault (same_twice s l v same c.test_chain.ensures.state) (breaks_read s l same fault (sparse_breaks l c.args.node
    (subst (λ (q : State). kind_at q.records nodes_file c.args.node ≡ sparse_kind) (sym same) sparse) c.in-Some.row.degree
    (subst (λ (q : State). c.in-Some.row.degree ≡ degree q.records c.args.node) (sym same) (row_degree s c.args.node c.in-Some.row found)) fault
    (c.in_err-test_chain.ensures.damaged tells (subst (λ (q : State). c.in-Some.row.first ≡ first_link q.records c.args.node) (sym same)
    (first_is s.records c.args.node c.in-Some.row found))))))

pub returns-in_err-turn-clause-told : goal.returns-in_err-turn-clause-told
returns-in_err-turn-clause-told g c = λ tells thin le.
    let s = g.S.Reads.state c.args.space.now in
    let now = g.S.Reads.state c.loop.space in
    let was = c.loop.invariant in
    let p = err_from_is_err_and c.from_residual-in_err-turn.result c.from_residual-in_err-turn.ensures.1 in
    rw (p.1, p.2) (end_late (g.S.Reads.state c.move_one.new.space) c.args.node c.in_err-turn.field-0.0
    (unmoved now (g.S.Reads.state c.move_one.new.space) c.args.node c.loop.at c.in_err-turn.field-0.0 (c.in_err-turn.ensures.damaged tells (was.dense tells))
    (λ none. rest_live s now c.args.node c.loop.at c.loop.counter c.if-at.false (was.rest tells) (sym (beside_rels s.records now.records c.args.node
    (was.beside tells) c.loop.at) ∙ none))))

pub returns-then-not-note-clause-told : goal.returns-then-not-note-clause-told
returns-then-not-note-clause-told g c = λ tells thin le.
    let was = c.loop.invariant in
    absurd (false≢true (sym c.if-not-note.true ∙ c.note.ensures.known.1 (c.in_ok-turn.ensures.leads tells c.loop.moved.relationships.items
    c.loop.moved.groups.items (was.leads tells)).1))

pub returns-then-at-2-clause-told : goal.returns-then-at-2-clause-told
returns-then-at-2-clause-told g c = λ tells thin le.
    let s = g.S.Reads.state c.args.space.now in
    let e = row_degree s c.args.node c.in-Some.row (sym c.in-Some.is ∙ c.in_ok-row.ensures.found tells) in
    absurd (rest_over s (g.S.Reads.state c.loop.space) c.args.node c.loop.at c.loop.counter c.if-at-2.true (c.loop.invariant.rest tells)
    (omega (arith, c.loop-test.false, e)))

-- ---- what is left of other records

pub returns-then-at-clause-leaves_others : goal.returns-then-at-clause-leaves_others
returns-then-at-clause-leaves_others g c = λ tells. c.loop.invariant.beside tells

pub returns-clause-leaves_others : goal.returns-clause-leaves_others
returns-clause-leaves_others g c = λ tells. c.loop.invariant.beside tells

pub returns-in_err-row-clause-stays : goal.returns-in_err-row-clause-stays
returns-in_err-row-clause-stays g c = λ tells.
    let s = g.S.Reads.state c.args.space.now in
    let l = g.S.Reads.state c.load.new.space in
    on_refusal c.from_residual.result _ (beside_read s l c.args.node (only_loads_node s l c.args.node c.load.ensures.state))

pub returns-in_default-clause-stays : goal.returns-in_default-clause-stays
returns-in_default-clause-stays g c = λ tells.
    let s = g.S.Reads.state c.args.space.now in
    let l = g.S.Reads.state c.load.new.space in
    beside_read s l c.args.node (only_loads_node s l c.args.node c.load.ensures.state)

pub returns-then-row-clause-stays : goal.returns-then-row-clause-stays
returns-then-row-clause-stays g c = λ tells.
    let s = g.S.Reads.state c.args.space.now in
    let l = g.S.Reads.state c.load.new.space in
    beside_read s l c.args.node (only_loads_node s l c.args.node c.load.ensures.state)

pub returns-then-row-threshold-clause-stays : goal.returns-then-row-threshold-clause-stays
returns-then-row-threshold-clause-stays g c = λ tells.
    let s = g.S.Reads.state c.args.space.now in
    let l = g.S.Reads.state c.load.new.space in
    beside_read s l c.args.node (only_loads_node s l c.args.node c.load.ensures.state)

pub returns-in_err-test_chain-clause-stays : goal.returns-in_err-test_chain-clause-stays
returns-in_err-test_chain-clause-stays g c = λ tells.
    let s = g.S.Reads.state c.args.space.now in
    let l = g.S.Reads.state c.load.new.space in
    let v = g.S.Reads.state c.test_chain.new.space in
    on_refusal c.from_residual-in_err-test_chain.result _ (beside_read s v c.args.node (same_twice s l v (only_loads_node s l c.args.node c.load.ensures.state)
    c.test_chain.ensures.state))

pub returns-in_err-turn-clause-stays : goal.returns-in_err-turn-clause-stays
returns-in_err-turn-clause-stays g c = λ tells.
    let s = g.S.Reads.state c.args.space.now in
    let now = g.S.Reads.state c.loop.space in
    let p = err_from_is_err_and c.from_residual-in_err-turn.result c.from_residual-in_err-turn.ensures.1 in
    rw (p.1, p.2) (later_beside s.records now.records (g.S.Reads.state c.move_one.new.space).records c.args.node (c.loop.invariant.beside tells)
    c.in_err-turn.field-0.0 (c.in_err-turn.ensures.stays tells))

pub returns-then-not-note-clause-stays : goal.returns-then-not-note-clause-stays
returns-then-not-note-clause-stays g c = λ tells.
    let s = g.S.Reads.state c.args.space.now in
    let now = g.S.Reads.state c.loop.space in
    beside_then s.records now.records (g.S.Reads.state c.move_one.new.space).records c.args.node (c.loop.invariant.beside tells)
    (c.in_ok-turn.ensures.leaves_others tells)

pub returns-then-at-2-clause-stays : goal.returns-then-at-2-clause-stays
returns-then-at-2-clause-stays g c = λ tells. c.loop.invariant.beside tells

-- ---- other nodes have their heads still

pub returns-then-at-clause-heads : goal.returns-then-at-clause-heads
returns-then-at-clause-heads g c = λ tells. c.loop.invariant.heads tells

pub returns-clause-heads : goal.returns-clause-heads
returns-clause-heads g c = λ tells. c.loop.invariant.heads tells

pub returns-in_err-row-clause-made : goal.returns-in_err-row-clause-made
returns-in_err-row-clause-made g c _ = never_ok c.from_residual.result _ _ c.from_residual.ensures.1

pub returns-in_err-row-clause-spread : goal.returns-in_err-row-clause-spread
returns-in_err-row-clause-spread g c _ = never_ok c.from_residual.result _ _ c.from_residual.ensures.1

pub returns-in_err-row-clause-dense : goal.returns-in_err-row-clause-dense
returns-in_err-row-clause-dense g c _ = never_ok c.from_residual.result _ _ c.from_residual.ensures.1

pub returns-in_err-row-clause-heads : goal.returns-in_err-row-clause-heads
returns-in_err-row-clause-heads g c _ = never_ok c.from_residual.result _ _ c.from_residual.ensures.1

pub returns-in_err-row-clause-leaves_others : goal.returns-in_err-row-clause-leaves_others
returns-in_err-row-clause-leaves_others g c _ = never_ok c.from_residual.result _ _ c.from_residual.ensures.1

pub returns-in_err-row-clause-wrote : goal.returns-in_err-row-clause-wrote
returns-in_err-row-clause-wrote g c = never_ok c.from_residual.result _ _ c.from_residual.ensures.1

pub returns-in_err-test_chain-clause-made : goal.returns-in_err-test_chain-clause-made
returns-in_err-test_chain-clause-made g c _ = never_ok c.from_residual-in_err-test_chain.result _ _ c.from_residual-in_err-test_chain.ensures.1

pub returns-in_err-test_chain-clause-spread : goal.returns-in_err-test_chain-clause-spread
returns-in_err-test_chain-clause-spread g c _ = never_ok c.from_residual-in_err-test_chain.result _ _ c.from_residual-in_err-test_chain.ensures.1

pub returns-in_err-test_chain-clause-dense : goal.returns-in_err-test_chain-clause-dense
returns-in_err-test_chain-clause-dense g c _ = never_ok c.from_residual-in_err-test_chain.result _ _ c.from_residual-in_err-test_chain.ensures.1

pub returns-in_err-test_chain-clause-heads : goal.returns-in_err-test_chain-clause-heads
returns-in_err-test_chain-clause-heads g c _ = never_ok c.from_residual-in_err-test_chain.result _ _ c.from_residual-in_err-test_chain.ensures.1

pub returns-in_err-test_chain-clause-leaves_others : goal.returns-in_err-test_chain-clause-leaves_others
returns-in_err-test_chain-clause-leaves_others g c _ = never_ok c.from_residual-in_err-test_chain.result _ _ c.from_residual-in_err-test_chain.ensures.1

pub returns-in_err-test_chain-clause-wrote : goal.returns-in_err-test_chain-clause-wrote
returns-in_err-test_chain-clause-wrote g c = never_ok c.from_residual-in_err-test_chain.result _ _ c.from_residual-in_err-test_chain.ensures.1

pub returns-in_err-clear-clause-made : goal.returns-in_err-clear-clause-made
returns-in_err-clear-clause-made g c _ = never_ok c.from_residual-in_err-clear.result _ _ c.from_residual-in_err-clear.ensures.1

pub returns-in_err-clear-clause-spread : goal.returns-in_err-clear-clause-spread
returns-in_err-clear-clause-spread g c _ = never_ok c.from_residual-in_err-clear.result _ _ c.from_residual-in_err-clear.ensures.1

pub returns-in_err-clear-clause-dense : goal.returns-in_err-clear-clause-dense
returns-in_err-clear-clause-dense g c _ = never_ok c.from_residual-in_err-clear.result _ _ c.from_residual-in_err-clear.ensures.1

pub returns-in_err-clear-clause-heads : goal.returns-in_err-clear-clause-heads
returns-in_err-clear-clause-heads g c _ = never_ok c.from_residual-in_err-clear.result _ _ c.from_residual-in_err-clear.ensures.1

pub returns-in_err-clear-clause-leaves_others : goal.returns-in_err-clear-clause-leaves_others
returns-in_err-clear-clause-leaves_others g c _ = never_ok c.from_residual-in_err-clear.result _ _ c.from_residual-in_err-clear.ensures.1

pub returns-in_err-clear-clause-wrote : goal.returns-in_err-clear-clause-wrote
returns-in_err-clear-clause-wrote g c = never_ok c.from_residual-in_err-clear.result _ _ c.from_residual-in_err-clear.ensures.1

pub returns-in_err-turn-clause-made : goal.returns-in_err-turn-clause-made
returns-in_err-turn-clause-made g c _ = never_ok c.from_residual-in_err-turn.result _ _ c.from_residual-in_err-turn.ensures.1

pub returns-in_err-turn-clause-spread : goal.returns-in_err-turn-clause-spread
returns-in_err-turn-clause-spread g c _ = never_ok c.from_residual-in_err-turn.result _ _ c.from_residual-in_err-turn.ensures.1

pub returns-in_err-turn-clause-dense : goal.returns-in_err-turn-clause-dense
returns-in_err-turn-clause-dense g c _ = never_ok c.from_residual-in_err-turn.result _ _ c.from_residual-in_err-turn.ensures.1

pub returns-in_err-turn-clause-heads : goal.returns-in_err-turn-clause-heads
returns-in_err-turn-clause-heads g c _ = never_ok c.from_residual-in_err-turn.result _ _ c.from_residual-in_err-turn.ensures.1

pub returns-in_err-turn-clause-leaves_others : goal.returns-in_err-turn-clause-leaves_others
returns-in_err-turn-clause-leaves_others g c _ = never_ok c.from_residual-in_err-turn.result _ _ c.from_residual-in_err-turn.ensures.1

pub returns-in_err-turn-clause-wrote : goal.returns-in_err-turn-clause-wrote
returns-in_err-turn-clause-wrote g c = never_ok c.from_residual-in_err-turn.result _ _ c.from_residual-in_err-turn.ensures.1

pub returns-in_err-clear-clause-not_damaged : goal.returns-in_err-clear-clause-not_damaged
returns-in_err-clear-clause-not_damaged g c _ _ _ _ _ = space_has _ tt tt c.from_residual-in_err-clear.result c.in_err-clear.field-0.0
    c.from_residual-in_err-clear.ensures.1

pub returns-in_err-clear-clause-never : goal.returns-in_err-clear-clause-never
returns-in_err-clear-clause-never g c _ _ _ _ _ = space_has _ tt tt c.from_residual-in_err-clear.result c.in_err-clear.field-0.0
    c.from_residual-in_err-clear.ensures.1

pub returns-in_err-clear-clause-damaged : goal.returns-in_err-clear-clause-damaged
returns-in_err-clear-clause-damaged g c _ _ _ = space_has _ tt tt c.from_residual-in_err-clear.result c.in_err-clear.field-0.0
    c.from_residual-in_err-clear.ensures.1

pub returns-in_err-clear-clause-told : goal.returns-in_err-clear-clause-told
returns-in_err-clear-clause-told g c _ _ _ = space_has _ tt tt c.from_residual-in_err-clear.result c.in_err-clear.field-0.0
    c.from_residual-in_err-clear.ensures.1

pub returns-in_err-clear-clause-stays : goal.returns-in_err-clear-clause-stays
returns-in_err-clear-clause-stays g c _ = space_has _ tt tt c.from_residual-in_err-clear.result c.in_err-clear.field-0.0 c.from_residual-in_err-clear.ensures.1

pub returns-in_err-row-clause-onward : goal.returns-in_err-row-clause-onward
returns-in_err-row-clause-onward g c = c.in_err-row.ensures.onward

pub returns-in_err-test_chain-clause-onward : goal.returns-in_err-test_chain-clause-onward
returns-in_err-test_chain-clause-onward g c =
    g.met.S.Reads.further_onward _ _ _ c.in_ok-row.ensures.onward c.in_err-test_chain.ensures.onward

pub returns-in_err-clear-clause-onward : goal.returns-in_err-clear-clause-onward
returns-in_err-clear-clause-onward g c =
    g.met.S.Reads.further_onward _ _ _ (g.met.S.Reads.further_onward _ _ _ c.in_ok-row.ensures.onward c.in_ok-test_chain.ensures.onward)
    c.in_err-clear.ensures.onward

pub returns-in_err-turn-clause-onward : goal.returns-in_err-turn-clause-onward
returns-in_err-turn-clause-onward g c = g.met.S.Reads.further_onward _ _ _ c.loop.invariant.onward c.in_err-turn.ensures.onward

-- ---- which record is named

pub returns-in_err-row-clause-names : goal.returns-in_err-row-clause-names
returns-in_err-row-clause-names g c = λ tells.
    let s = g.S.Reads.state c.args.space.now in
    let fault = of_row c.in_err-row.field-0.0 in
    let p = err_from_is_err_and c.from_residual.result c.from_residual.ensures.1 in
    rw (p.1, p.2) (node_fault_named s s c.args.node fault (node_fault s c.args.node c.in_err-row.field-0.0 (c.in_err-row.ensures.damaged tells)))

pub returns-in_default-clause-names : goal.returns-in_default-clause-names
returns-in_default-clause-names g c = λ tells. at_node (g.S.Reads.state c.args.space.now) c.args.node c.chain_damage.result 4 c.chain_damage.ensures

pub returns-then-row-clause-names : goal.returns-then-row-clause-names
returns-then-row-clause-names g c = λ tells. at_node (g.S.Reads.state c.args.space.now) c.args.node c.chain_damage-then-row.result 4
    c.chain_damage-then-row.ensures

pub returns-then-row-threshold-clause-names : goal.returns-then-row-threshold-clause-names
returns-then-row-threshold-clause-names g c = λ tells. at_node (g.S.Reads.state c.args.space.now) c.args.node c.degree_damage.result 7 c.degree_damage.ensures

pub returns-in_err-test_chain-clause-names : goal.returns-in_err-test_chain-clause-names
returns-in_err-test_chain-clause-names g c = λ tells.
    let s = g.S.Reads.state c.args.space.now in
    let l = g.S.Reads.state c.load.new.space in
    let same = only_loads_node s l c.args.node c.load.ensures.state in
    let found = sym c.in-Some.is ∙ c.in_ok-row.ensures.found tells in
    let fault = c.in_err-test_chain.field-0.0 in
    let p = err_from_is_err_and c.from_residual-in_err-test_chain.result c.from_residual-in_err-test_chain.ensures.1 in
    rw (p.1, p.2) (named_read s l c.args.node (of_fault fault) same (sparse_named l c.args.node c.in-Some.row.degree fault
    (c.in_err-test_chain.ensures.damaged tells (subst (λ (q : State). c.in-Some.row.first ≡ first_link q.records c.args.node) (sym same)
    (first_is s.records c.args.node c.in-Some.row found)))))

pub returns-in_err-clear-clause-names : goal.returns-in_err-clear-clause-names
returns-in_err-clear-clause-names g c _ = space_has _ tt tt c.from_residual-in_err-clear.result c.in_err-clear.field-0.0 c.from_residual-in_err-clear.ensures.1

pub returns-in_err-turn-clause-names : goal.returns-in_err-turn-clause-names
returns-in_err-turn-clause-names g c = λ tells.
    let s = g.S.Reads.state c.args.space.now in
    let now = g.S.Reads.state c.loop.space in
    let was = c.loop.invariant in
    let p = err_from_is_err_and c.from_residual-in_err-turn.result c.from_residual-in_err-turn.ensures.1 in
    rw (p.1, p.2) (named_beside s now c.args.node (g.met.S.Reads.onward_shape _ _ was.onward) (was.beside tells) c.in_err-turn.field-0.0
    (c.in_err-turn.ensures.names tells))

pub returns-then-not-note-clause-names : goal.returns-then-not-note-clause-names
returns-then-not-note-clause-names g c = λ tells. at_node (g.S.Reads.state c.args.space.now) c.args.node c.rels_damage.result 3 c.rels_damage.ensures

pub returns-then-at-2-clause-names : goal.returns-then-at-2-clause-names
returns-then-at-2-clause-names g c = λ tells. at_node (g.S.Reads.state c.args.space.now) c.args.node c.rels_damage-then-at-2.result 3
    c.rels_damage-then-at-2.ensures

-- ---- a node or a group that is named is as it was found

pub returns-in_err-row-clause-named : goal.returns-in_err-row-clause-named
returns-in_err-row-clause-named g c = λ tells.
    let s = g.S.Reads.state c.args.space.now in
    let l = g.S.Reads.state c.load.new.space in
    let p = err_from_is_err_and c.from_residual.result c.from_residual.ensures.1 in
    rw (p.1, p.2) (found_apart s l c.args.node (of_fault (of_row c.in_err-row.field-0.0)) (only_loads_node s l c.args.node c.load.ensures.state)
    (node_fault_apart s l s c.args.node (of_row c.in_err-row.field-0.0) (node_fault s c.args.node c.in_err-row.field-0.0 (c.in_err-row.ensures.damaged tells))))

pub returns-in_default-clause-named : goal.returns-in_default-clause-named
returns-in_default-clause-named g c = λ tells.
    let s = g.S.Reads.state c.args.space.now in
    let l = g.S.Reads.state c.load.new.space in
    found_apart s l c.args.node (Damaged c.chain_damage.result) (only_loads_node s l c.args.node c.load.ensures.state)
    (node_apart s l c.chain_damage.result c.args.node 4 c.chain_damage.ensures)

pub returns-then-row-clause-named : goal.returns-then-row-clause-named
returns-then-row-clause-named g c = λ tells.
    let s = g.S.Reads.state c.args.space.now in
    let l = g.S.Reads.state c.load.new.space in
    found_apart s l c.args.node (Damaged c.chain_damage-then-row.result) (only_loads_node s l c.args.node c.load.ensures.state)
    (node_apart s l c.chain_damage-then-row.result c.args.node 4 c.chain_damage-then-row.ensures)

pub returns-then-row-threshold-clause-named : goal.returns-then-row-threshold-clause-named
returns-then-row-threshold-clause-named g c = λ tells.
    let s = g.S.Reads.state c.args.space.now in
    let l = g.S.Reads.state c.load.new.space in
    found_apart s l c.args.node (Damaged c.degree_damage.result) (only_loads_node s l c.args.node c.load.ensures.state)
    (node_apart s l c.degree_damage.result c.args.node 7 c.degree_damage.ensures)

pub returns-in_err-test_chain-clause-named : goal.returns-in_err-test_chain-clause-named
returns-in_err-test_chain-clause-named g c = λ tells.
    let s = g.S.Reads.state c.args.space.now in
    let l = g.S.Reads.state c.load.new.space in
    let v = g.S.Reads.state c.test_chain.new.space in
    let same = only_loads_node s l c.args.node c.load.ensures.state in
    let found = sym c.in-Some.is ∙ c.in_ok-row.ensures.found tells in
    let fault = c.in_err-test_chain.field-0.0 in
    let p = err_from_is_err_and c.from_residual-in_err-test_chain.result c.from_residual-in_err-test_chain.ensures.1 in
    rw (p.1, p.2) (found_apart s v c.args.node (of_fault fault) (same_twice s l v same c.test_chain.ensures.state)
    (sparse_apart s v l c.args.node c.in-Some.row.degree fault
    (c.in_err-test_chain.ensures.damaged tells (subst (λ (q : State). c.in-Some.row.first ≡ first_link q.records c.args.node) (sym same)
    (first_is s.records c.args.node c.in-Some.row found)))))

pub returns-in_err-clear-clause-named : goal.returns-in_err-clear-clause-named
returns-in_err-clear-clause-named g c _ = space_has _ tt tt c.from_residual-in_err-clear.result c.in_err-clear.field-0.0 c.from_residual-in_err-clear.ensures.1

pub returns-in_err-turn-clause-named : goal.returns-in_err-turn-clause-named
returns-in_err-turn-clause-named g c = λ tells.
    let s = g.S.Reads.state c.args.space.now in
    let now = g.S.Reads.state c.loop.space in
    let t = g.S.Reads.state c.move_one.new.space in
    let was = c.loop.invariant in
    let fault = c.in_err-turn.field-0.0 in
    let p = err_from_is_err_and c.from_residual-in_err-turn.result c.from_residual-in_err-turn.ensures.1 in
    rw (p.1, p.2) (found_dense s now t c.args.node (was.beside tells) (was.lists tells) fault
    (c.in_err-turn.ensures.listed tells (was.dense tells) (was.list tells)
    (λ none. rest_live s now c.args.node c.loop.at c.loop.counter c.if-at.false (was.rest tells) (sym (beside_rels s.records now.records c.args.node
    (was.beside tells) c.loop.at) ∙ none)))
    (c.in_err-turn.ensures.groups tells c.loop.moved.relationships.items c.loop.moved.groups.items (was.leads tells) (was.low tells)))

pub returns-then-not-note-clause-named : goal.returns-then-not-note-clause-named
returns-then-not-note-clause-named g c = λ tells.
    let was = c.loop.invariant in
    absurd (false≢true (sym c.if-not-note.true ∙ c.note.ensures.known.1 (c.in_ok-turn.ensures.leads tells c.loop.moved.relationships.items
    c.loop.moved.groups.items (was.leads tells)).1))

pub returns-then-at-2-clause-named : goal.returns-then-at-2-clause-named
returns-then-at-2-clause-named g c = λ tells.
    let s = g.S.Reads.state c.args.space.now in
    let e = row_degree s c.args.node c.in-Some.row (sym c.in-Some.is ∙ c.in_ok-row.ensures.found tells) in
    absurd (rest_over s (g.S.Reads.state c.loop.space) c.args.node c.loop.at c.loop.counter c.if-at-2.true (c.loop.invariant.rest tells)
    (omega (arith, c.loop-test.false, e)))

-- ---- its groups

pub returns-then-at-clause-list : goal.returns-then-at-clause-list
returns-then-at-clause-list g c = λ tells.
    let was = c.loop.invariant in
    record {
      list = was.list tells;
      came = c.loop.moved.relationships.items;
      groups = c.loop.moved.groups.items;
      leads = was.leads tells;
      low = was.low tells;
    }

pub returns-clause-list : goal.returns-clause-list
returns-clause-list g c = λ tells.
    let was = c.loop.invariant in
    record {
      list = was.list tells;
      came = c.loop.moved.relationships.items;
      groups = c.loop.moved.groups.items;
      leads = was.leads tells;
      low = was.low tells;
    }

pub returns-in_err-row-clause-list : goal.returns-in_err-row-clause-list
returns-in_err-row-clause-list g c _ = never_ok c.from_residual.result _ _ c.from_residual.ensures.1

pub returns-in_err-test_chain-clause-list : goal.returns-in_err-test_chain-clause-list
returns-in_err-test_chain-clause-list g c _ = never_ok c.from_residual-in_err-test_chain.result _ _ c.from_residual-in_err-test_chain.ensures.1

pub returns-in_err-clear-clause-list : goal.returns-in_err-clear-clause-list
returns-in_err-clear-clause-list g c _ = never_ok c.from_residual-in_err-clear.result _ _ c.from_residual-in_err-clear.ensures.1

pub returns-in_err-turn-clause-list : goal.returns-in_err-turn-clause-list
returns-in_err-turn-clause-list g c _ = never_ok c.from_residual-in_err-turn.result _ _ c.from_residual-in_err-turn.ensures.1

-- ---- the free list of the groups

pub returns-in_err-row-clause-metas : goal.returns-in_err-row-clause-metas
returns-in_err-row-clause-metas g c = λ tells.
    let s = g.S.Reads.state c.args.space.now in
    let l = g.S.Reads.state c.load.new.space in
    let fault = of_row c.in_err-row.field-0.0 in
    let p = err_from_is_err_and c.from_residual.result c.from_residual.ensures.1 in
    rw (p.1, p.2) (node_fault_metas c.args.threshold s l s c.args.node fault
    (node_fault s c.args.node c.in_err-row.field-0.0 (c.in_err-row.ensures.damaged tells)))

pub returns-in_default-clause-metas : goal.returns-in_default-clause-metas
returns-in_default-clause-metas g c = λ tells.
    metas_node c.args.threshold (g.S.Reads.state c.args.space.now) (g.S.Reads.state c.load.new.space) c.chain_damage.result
    c.args.node 4 c.chain_damage.ensures

pub returns-then-row-clause-metas : goal.returns-then-row-clause-metas
returns-then-row-clause-metas g c = λ tells. metas_node c.args.threshold (g.S.Reads.state c.args.space.now) (g.S.Reads.state c.load.new.space)
    c.chain_damage-then-row.result c.args.node 4 c.chain_damage-then-row.ensures

pub returns-then-row-threshold-clause-metas : goal.returns-then-row-threshold-clause-metas
returns-then-row-threshold-clause-metas g c = λ tells. metas_node c.args.threshold (g.S.Reads.state c.args.space.now) (g.S.Reads.state c.load.new.space)
    c.degree_damage.result c.args.node 7 c.degree_damage.ensures

pub returns-in_err-test_chain-clause-metas : goal.returns-in_err-test_chain-clause-metas
returns-in_err-test_chain-clause-metas g c = λ tells.
    let s = g.S.Reads.state c.args.space.now in
    let l = g.S.Reads.state c.load.new.space in
    let v = g.S.Reads.state c.test_chain.new.space in
    let same = only_loads_node s l c.args.node c.load.ensures.state in
    let found = sym c.in-Some.is ∙ c.in_ok-row.ensures.found tells in
    let fault = c.in_err-test_chain.field-0.0 in
    let p = err_from_is_err_and c.from_residual-in_err-test_chain.result c.from_residual-in_err-test_chain.ensures.1 in
    rw (p.1, p.2) (sparse_metas c.args.threshold s v l c.args.node c.in-Some.row.degree fault
    (c.in_err-test_chain.ensures.damaged tells (subst (λ (q : State). c.in-Some.row.first ≡ first_link q.records c.args.node) (sym same)
    (first_is s.records c.args.node c.in-Some.row found))))

pub returns-in_err-clear-clause-metas : goal.returns-in_err-clear-clause-metas
returns-in_err-clear-clause-metas g c _ = space_has _ tt tt c.from_residual-in_err-clear.result c.in_err-clear.field-0.0 c.from_residual-in_err-clear.ensures.1

pub returns-in_err-turn-clause-metas : goal.returns-in_err-turn-clause-metas
returns-in_err-turn-clause-metas g c = λ tells.
    let s = g.S.Reads.state c.args.space.now in
    let now = g.S.Reads.state c.loop.space in
    let p = err_from_is_err_and c.from_residual-in_err-turn.result c.from_residual-in_err-turn.ensures.1 in
    let t = g.S.Reads.state c.move_one.new.space in
    let was = c.loop.invariant in
    let fault = c.in_err-turn.field-0.0 in
    rw (p.1, p.2) (metas_more (c.loop.counter + 1) c.args.threshold s t fault (omega (arith, c.loop-test.true, c.if-row-threshold.false))
    (metas_then c.loop.counter 1 s now t fault (g.met.S.Reads.onward_shape _ _ was.onward)
    (was.room tells) (was.lists tells) (c.in_err-turn.ensures.metas tells)))

pub returns-then-not-note-clause-metas : goal.returns-then-not-note-clause-metas
returns-then-not-note-clause-metas g c = λ tells. metas_node c.args.threshold (g.S.Reads.state c.args.space.now) (g.S.Reads.state c.move_one.new.space)
    c.rels_damage.result c.args.node 3 c.rels_damage.ensures

pub returns-then-at-2-clause-metas : goal.returns-then-at-2-clause-metas
returns-then-at-2-clause-metas g c = λ tells. metas_node c.args.threshold (g.S.Reads.state c.args.space.now) (g.S.Reads.state c.loop.space)
    c.rels_damage-then-at-2.result c.args.node 3 c.rels_damage-then-at-2.ensures

pub returns-then-at-clause-lists : goal.returns-then-at-clause-lists
returns-then-at-clause-lists g c = λ tells. c.loop.invariant.lists tells

pub returns-clause-lists : goal.returns-clause-lists
returns-clause-lists g c = λ tells. c.loop.invariant.lists tells

pub returns-in_err-row-clause-lists : goal.returns-in_err-row-clause-lists
returns-in_err-row-clause-lists g c _ = never_ok c.from_residual.result _ _ c.from_residual.ensures.1

pub returns-in_err-test_chain-clause-lists : goal.returns-in_err-test_chain-clause-lists
returns-in_err-test_chain-clause-lists g c _ = never_ok c.from_residual-in_err-test_chain.result _ _ c.from_residual-in_err-test_chain.ensures.1

pub returns-in_err-clear-clause-lists : goal.returns-in_err-clear-clause-lists
returns-in_err-clear-clause-lists g c _ = never_ok c.from_residual-in_err-clear.result _ _ c.from_residual-in_err-clear.ensures.1

pub returns-in_err-turn-clause-lists : goal.returns-in_err-turn-clause-lists
returns-in_err-turn-clause-lists g c _ = never_ok c.from_residual-in_err-turn.result _ _ c.from_residual-in_err-turn.ensures.1

pub returns-in_err-row-clause-room : goal.returns-in_err-row-clause-room
returns-in_err-row-clause-room g c _ = never_ok c.from_residual.result _ _ c.from_residual.ensures.1

pub returns-in_err-test_chain-clause-room : goal.returns-in_err-test_chain-clause-room
returns-in_err-test_chain-clause-room g c _ = never_ok c.from_residual-in_err-test_chain.result _ _ c.from_residual-in_err-test_chain.ensures.1

pub returns-in_err-clear-clause-room : goal.returns-in_err-clear-clause-room
returns-in_err-clear-clause-room g c _ = never_ok c.from_residual-in_err-clear.result _ _ c.from_residual-in_err-clear.ensures.1

pub returns-in_err-turn-clause-room : goal.returns-in_err-turn-clause-room
returns-in_err-turn-clause-room g c _ = never_ok c.from_residual-in_err-turn.result _ _ c.from_residual-in_err-turn.ensures.1

-- ---- how many groups are counted

pub returns-then-at-clause-room : goal.returns-then-at-clause-room
returns-then-at-clause-room g c = λ tells. let grows = c.loop.invariant.room tells in omega (arith, grows, c.loop-test.true, c.if-row-threshold.false)

pub returns-clause-room : goal.returns-clause-room
returns-clause-room g c = λ tells. let grows = c.loop.invariant.room tells in omega (arith, grows, c.loop-test.false, c.if-row-threshold.false)
