use Rattle.std.specs.Prelude.{IfSome, Option}
use Rattle.rec_bytes.specs.Key.{IsKey}
use Rattle.rel_store.specs.declared.rel_row.RelRow.{RelRow}
use Rattle.std.proofs.Common.{◌≡◌, ◌≢◌, ◌≤◌, ◌∷◌, [], ◌++◌, ◌∙◌, ℕ, true, ap, subst, sym, inr, arith, rules}
use Rattle.rec_bytes.specs.Format.{groups_file}
use Rattle.rec_bytes.specs.RecordFiles.{meta_key_of}
use Rattle.id_freelist.specs.Taking.{room}
use Rattle.rec_bytes.specs.Space.{State, WritesOnly, meta_of}
use Rattle.rel_store.specs.RelRecord.{rel_key}
use Rattle.store_rules.specs.Rules.{Head}
use Rattle.node_store.specs.NodeRecord.{node_key}
use Rattle.chain_edit.specs.Heads.{head_of}
use Rattle.group_store.specs.declared.side.Side.{Side}
use Rattle.group_store.specs.GroupRecord.{group_key}
use Rattle.group_store.specs.Sides.{group_head, place_of}
use Rattle.std.proofs.lemmas.Result.{err_from_is_err_and}
use Rattle.rel_store.proofs.Rows.{IsReadable-AreInRange, rel_at-None}
use Rattle.group_store.proofs.Additions.{node_read, take_after}
use Rattle.group_store.proofs.Arrivals.{comes_in, left_there, push_finds}
use Rattle.group_store.proofs.DenseFaults.{no_own, no_push, unread}
use Rattle.group_store.proofs.DenseStays.{dense_moved}
use Rattle.group_store.specs.GroupChain.{IsDense, IsGroupChain, is_group_of}
use Rattle.rec_bytes.specs.Fault.{of_row}
use Rattle.group_store.proofs.GroupWalks.{not_damaged}
use Rattle.group_store.proofs.Leadings.{leads_turn, walk_turn}
use Rattle.group_store.proofs.SparseChains.{links_are}
use Rattle.group_store.proofs.Touches.{four_touched, made_touched, touches_more, touches_none}
use Rattle.group_store.specs.declared.moved.Turn.{Turn}
use Rattle.group_store.proofs.Named.{at_node, named_read, push_named, rel_named}
use Rattle.group_store.proofs.OpenFaults.{fault_cause, on_refusal, open_cause, refuses, row_cause, space_cause, space_has}
use Rattle.group_store.proofs.OwnGroups.{keeps_then, writes_after}
use Rattle.group_store.proofs.Spreads.{has_room, moved, only_loads, push_right, rel_there, row_sound, writes_freed, writes_pushed}
use Rattle.group_store.proofs.Turns.{own_turn}
use Rattle.group_store.proofs.Causes.{later_on}
use Rattle.group_store.proofs.LeftBeside.{beside_freed, beside_moved, beside_read, beside_then, unpushed_beside, unwritten_beside}
use Rattle.store_rules.specs.Breaking.{IsHeadOf}
use Rattle.group_store.specs.declared.side.Side.TheVariants.{Out, In as Into, Loop}
use Rattle.group_store.proofs.KeptHeads.{heads_same, heads_then}
use Rattle.group_store.proofs.MadeHeads.{heads_freed, heads_pushed, owned_head}
use Rattle.rec_bytes.proofs.Causes.{never_ok}
use Rattle.group_store.proofs.CountedLists.{list_moved, list_read, push_listed, rel_listed}
use Rattle.group_store.proofs.Gathers.{place_range}
use Rattle.group_store.proofs.GroupRules.{group_owned}
use Rattle.group_store.proofs.LowHeads.{low_beside, low_read, spread_first, turn_first}
use Rattle.group_store.proofs.OwnRecords.{group_says}
use Rattle.group_store.proofs.Spreads.{in_last}
use Rattle.group_store.proofs.Strangers.{apart_read, node_apart, push_apart, rel_apart}
use Rattle.group_store.specs.Spreading.{LeadsAmong}
use Rattle.id_freelist.proofs.ListSteps.{harms_none_then, reads_harm_none}
use Rattle.group_store.proofs.GroupMetas.{grows_moved, grows_read, metas_node, metas_read, moved_harms_none, push_metas, rel_metas}
use Rattle.group_store.proofs.densing.move_one.Goals as goal
use Rattle.group_store.proofs.densing.move_one.Goals.{After-push_counted}
use Rattle.group_store.proofs.densing.move_one.Given.{Over}

pub returns-in_err-row-clause-touches : goal.returns-in_err-row-clause-touches
returns-in_err-row-clause-touches g c =
    let s = g.S.Reads.state c.args.space.now in
    let l = g.S.Reads.state c.load.new.space in
    touches_none s l c.args.node 2 2 (only_loads s l c.args.rel c.load.ensures.state)

pub returns-in_default-clause-touches : goal.returns-in_default-clause-touches
returns-in_default-clause-touches g c =
    let s = g.S.Reads.state c.args.space.now in
    let l = g.S.Reads.state c.load.new.space in
    touches_none s l c.args.node 2 2 (only_loads s l c.args.rel c.load.ensures.state)

pub returns-in_err-own-clause-touches : goal.returns-in_err-own-clause-touches
returns-in_err-own-clause-touches g c =
    let s = g.S.Reads.state c.args.space.now in
    let l = g.S.Reads.state c.load.new.space in
    let made = c.in_err-own.ensures.writes in
    touches_more s (g.S.Reads.state c.own_group.new.space) c.args.node 0 2 2 2 (omega arith) (omega arith)
    (made_touched s (g.S.Reads.state c.own_group.new.space) c.args.node made.1 made.0 (writes_after s l (g.S.Reads.state c.own_group.new.space) _
    (only_loads s l c.args.rel c.load.ensures.state) made.2))

pub returns-in_err-free_previous-clause-touches : goal.returns-in_err-free_previous-clause-touches
returns-in_err-free_previous-clause-touches g c =
    let s = g.S.Reads.state c.args.space.now in
    let l = g.S.Reads.state c.load.new.space in
    let t = g.S.Reads.state c.free_previous.new.space in
    let own = c.in_ok-own.own in
    four_touched s t c.args.node c.args.rel 0 own.row.id own.first
    (writes_freed s l (g.S.Reads.state c.own_group.new.space) t t (only_loads s l c.args.rel c.load.ensures.state)
    (rel_key c.args.rel) (rel_key 0) (group_key own.row.id) (group_key own.first) (node_key c.args.node) (meta_key_of groups_file) c.in_ok-own.ensures.wrote
    c.in_err-free_previous.ensures.writes)

pub returns-in_err-first-clause-touches : goal.returns-in_err-first-clause-touches
returns-in_err-first-clause-touches g c =
    let s = g.S.Reads.state c.args.space.now in
    let l = g.S.Reads.state c.load.new.space in
    let t = g.S.Reads.state c.free_previous.new.space in
    let end = g.S.Reads.state c.push_counted.new.space in
    let own = c.in_ok-own.own in
    let push = c.in_err-first.ensures.writes in
    let key : c.group_head-head.result.key ≡ group_key own.row.id = ap (λ (h : Head). h.key) c.group_head-head.ensures.is in
    four_touched s end c.args.node c.args.rel push.0 own.row.id own.first
    (writes_pushed s l (g.S.Reads.state c.own_group.new.space) t end (only_loads s l c.args.rel c.load.ensures.state)
    (rel_key c.args.rel) (rel_key push.0) (group_key own.row.id) (group_key own.first) (node_key c.args.node) (meta_key_of groups_file)
    c.in_ok-own.ensures.wrote c.in_ok-free_previous.ensures.writes
    (subst (λ k. WritesOnly t end (rel_key push.0 ∷ rel_key c.args.rel ∷ k ∷ [])) key push.1))

pub returns-clause-wrote : goal.returns-clause-wrote
returns-clause-wrote g c =
    let s = g.S.Reads.state c.args.space.now in
    let l = g.S.Reads.state c.load.new.space in
    let t = g.S.Reads.state c.free_previous.new.space in
    let end = g.S.Reads.state c.push_counted.new.space in
    let own = c.in_ok-own.own in
    let first = c.in_ok-first.first in
    let key : c.group_head-head.result.key ≡ group_key own.row.id = ap (λ (h : Head). h.key) c.group_head-head.ensures.is in
    writes_pushed s l (g.S.Reads.state c.own_group.new.space) t end (only_loads s l c.args.rel c.load.ensures.state)
    (rel_key c.args.rel) (rel_key first) (group_key own.row.id) (group_key own.first) (node_key c.args.node) (meta_key_of groups_file) c.in_ok-own.ensures.wrote
    c.in_ok-free_previous.ensures.writes
    (subst (λ k. WritesOnly t end (rel_key first ∷ rel_key c.args.rel ∷ k ∷ [])) key c.in_ok-first.ensures.wrote)

pub returns-clause-touches : goal.returns-clause-touches
returns-clause-touches g c =
    let s = g.S.Reads.state c.args.space.now in
    let l = g.S.Reads.state c.load.new.space in
    let t = g.S.Reads.state c.free_previous.new.space in
    let end = g.S.Reads.state c.push_counted.new.space in
    let own = c.in_ok-own.own in
    let first = c.in_ok-first.first in
    let key : c.group_head-head.result.key ≡ group_key own.row.id = ap (λ (h : Head). h.key) c.group_head-head.ensures.is in
    four_touched s end c.args.node c.args.rel first own.row.id own.first
    (writes_pushed s l (g.S.Reads.state c.own_group.new.space) t end (only_loads s l c.args.rel c.load.ensures.state)
    (rel_key c.args.rel) (rel_key first) (group_key own.row.id) (group_key own.first) (node_key c.args.node) (meta_key_of groups_file) c.in_ok-own.ensures.wrote
    c.in_ok-free_previous.ensures.writes
    (subst (λ k. WritesOnly t end (rel_key first ∷ rel_key c.args.rel ∷ k ∷ [])) key c.in_ok-first.ensures.wrote))

pub returns-clause-moved : goal.returns-clause-moved
returns-clause-moved g c = λ tells rest most empty spread.
    let s = g.S.Reads.state c.args.space.now in
    let l = g.S.Reads.state c.load.new.space in
    moved s l (g.S.Reads.state c.own_group.new.space) c.args.node c.args.rel c.in-Some.row c.in_ok-own.own.row.id
    (only_loads s l c.args.rel c.load.ensures.state) (sym c.in-Some.is ∙ c.in_ok-row.ensures.found tells)
    (c.in_ok-own.ensures.opened tells) rest most empty spread (g.S.Reads.state c.free_previous.new.space) (g.S.Reads.state c.push_counted.new.space)
    c.end_links-next.result.1
    (head_of c.group_head-head.result) (c.in_ok-free_previous.ensures.ok tells)
    (c.group_head-head.ensures.is ∙ ap (λ (side : Side). group_head c.in_ok-own.own.row.id side) c.at.ensures) (c.in_ok-first.ensures.ok tells)
    (λ rec is. ap (λ (p : ℕ × ℕ). p.1) (c.end_links-next.ensures.of_record rec is))

pub returns-clause-own : goal.returns-clause-own
returns-clause-own g c = λ tells rest most empty spread.
    let s = g.S.Reads.state c.args.space.now in
    let l = g.S.Reads.state c.load.new.space in
    own_turn s l (g.S.Reads.state c.own_group.new.space) c.args.node c.args.rel c.in-Some.row c.in_ok-own.own.row.id
    (only_loads s l c.args.rel c.load.ensures.state) (sym c.in-Some.is ∙ c.in_ok-row.ensures.found tells)
    (c.in_ok-own.ensures.opened tells) rest most empty spread c.in_ok-own.own.first (c.in_ok-own.ensures.grows tells)
    (g.S.Reads.state c.free_previous.new.space) (g.S.Reads.state c.push_counted.new.space)
    (head_of c.group_head-head.result) c.in_ok-first.first c.end_links-next.result.1 (c.in_ok-free_previous.ensures.ok tells)
    (c.group_head-head.ensures.is ∙ ap (λ (side : Side). group_head c.in_ok-own.own.row.id side) c.at.ensures) (c.in_ok-first.ensures.ok tells)
    (c.in_ok-first.ensures.first tells)

pub returns-clause-local : goal.returns-clause-local
returns-clause-local g c = λ tells came rest groups free spreading.
    let s = g.S.Reads.state c.args.space.now in
    let l = g.S.Reads.state c.load.new.space in
    let key = subst (λ (o : Option RelRow). IfSome o (λ _. IsKey (rel_key c.args.rel))) c.in-Some.is c.in_ok-row.ensures.key in
    comes_in s l (g.S.Reads.state c.own_group.new.space) c.args.node c.args.rel c.in-Some.row c.in_ok-own.own (only_loads s l c.args.rel c.load.ensures.state)
    (sym c.in-Some.is ∙ c.in_ok-row.ensures.found tells)
    (c.in_ok-own.ensures.local tells) (c.in_ok-own.ensures.dense tells) key.id came rest groups free spreading
    (g.S.Reads.state c.free_previous.new.space) (g.S.Reads.state c.push_counted.new.space) (head_of c.group_head-head.result) c.in_ok-first.first
    c.end_links-next.result.1 (c.in_ok-free_previous.ensures.ok tells)
    (c.group_head-head.ensures.is ∙ ap (λ (side : Side). group_head c.in_ok-own.own.row.id side) c.at.ensures) (c.in_ok-first.ensures.ok tells)
    (c.in_ok-first.ensures.first tells)
    (λ rec is. ap (λ (p : ℕ × ℕ). p.1) (c.end_links-next.ensures.of_record rec is))

pub returns-clause-leads : goal.returns-clause-leads
returns-clause-leads g c = λ tells.
    let s = g.S.Reads.state c.args.space.now in
    let l = g.S.Reads.state c.load.new.space in
    let key = subst (λ (o : Option RelRow). IfSome o (λ _. IsKey (rel_key c.args.rel))) c.in-Some.is c.in_ok-row.ensures.key in
    leads_turn s l (g.S.Reads.state c.own_group.new.space) (g.S.Reads.state c.free_previous.new.space) (g.S.Reads.state c.push_counted.new.space) c.args.node
    c.args.rel c.at.result (head_of c.group_head-head.result) c.in_ok-own.own c.in_ok-first.first
    (only_loads s l c.args.rel c.load.ensures.state) (c.in_ok-own.ensures.leads tells) c.in_ok-own.ensures.key.id key.id
    (c.in_ok-free_previous.ensures.ok tells) c.group_head-head.ensures.is (c.in_ok-first.ensures.ok tells) (c.in_ok-first.ensures.first tells)

pub returns-clause-walk : goal.returns-clause-walk
returns-clause-walk g c = λ tells.
    let s = g.S.Reads.state c.args.space.now in
    let l = g.S.Reads.state c.load.new.space in
    let key = subst (λ (o : Option RelRow). IfSome o (λ _. IsKey (rel_key c.args.rel))) c.in-Some.is c.in_ok-row.ensures.key in
    walk_turn s l (g.S.Reads.state c.own_group.new.space) (g.S.Reads.state c.free_previous.new.space) (g.S.Reads.state c.push_counted.new.space) c.args.node
    c.args.rel c.at.result (head_of c.group_head-head.result) c.in_ok-own.own.row.id c.end_links-next.result.1
    (only_loads s l c.args.rel c.load.ensures.state) (c.in_ok-own.ensures.rels tells) key.id (c.in_ok-free_previous.ensures.ok tells)
    c.group_head-head.ensures.is (c.in_ok-first.ensures.ok tells)
    (links_are s.records c.args.node c.args.rel c.in-Some.row c.end_links-next.result (sym c.in-Some.is ∙ c.in_ok-row.ensures.found tells)
    c.end_links-next.ensures.of_record).1

pub returns-in_err-row-clause-never : goal.returns-in_err-row-clause-never
returns-in_err-row-clause-never g c = λ tells came rest groups free spreading node readable full.
    let p = err_from_is_err_and c.from_residual.result c.from_residual.ensures.1 in
    let fault = of_row c.in_err-row.field-0.0 in
    rw (p.1, p.2) (refuses fault ⊥ (not_damaged Turn fault (row_sound c.in_err-row.field-0.0 (c.in_err-row.ensures.not_damaged tells readable))))

pub returns-in_default-clause-never : goal.returns-in_default-clause-never
returns-in_default-clause-never g c = λ tells came rest groups free spreading node readable full.
    left_there (g.S.Reads.state c.args.space.now) c.args.node c.args.rel came rest groups free spreading
    (sym (c.in_ok-row.ensures.found tells) ∙ c.in_default.is)

pub returns-in_err-own-clause-never : goal.returns-in_err-own-clause-never
returns-in_err-own-clause-never g c = λ tells came rest groups free spreading node readable full.
    let s = g.S.Reads.state c.args.space.now in
    let l = g.S.Reads.state c.load.new.space in
    let same = only_loads s l c.args.rel c.load.ensures.state in
    let p = err_from_is_err_and c.from_residual-in_err-own.result c.from_residual-in_err-own.ensures.1 in
    rw (p.1, p.2) (c.in_err-own.ensures.never tells groups free
    (subst (λ (q : State). IsDense q.records c.args.node) (sym same) spreading.spread.dense)
    (subst (λ (q : State). IsGroupChain q.records c.args.node groups) (sym same) spreading.spread.chain) (take_after s l free same spreading.take)
    (node_read s l c.args.node same node)
    (subst (λ (q : State). (meta_of q groups_file).live ≢ room q groups_file) (sym same) full))

pub returns-in_err-first-clause-never : goal.returns-in_err-first-clause-never
returns-in_err-first-clause-never g c = λ tells came rest groups free spreading node readable full.
    let s = g.S.Reads.state c.args.space.now in
    let l = g.S.Reads.state c.load.new.space in
    let t = g.S.Reads.state c.free_previous.new.space in
    let key = subst (λ (o : Option RelRow). IfSome o (λ _. IsKey (rel_key c.args.rel))) c.in-Some.is c.in_ok-row.ensures.key in
    let p = err_from_is_err_and c.from_residual-in_err-first.result c.from_residual-in_err-first.ensures.1 in
    rw (p.1, p.2) (refuses c.in_err-first.field-0.0 ⊥ (c.in_err-first.ensures.not_damaged tells
    (push_finds s l (g.S.Reads.state c.own_group.new.space) c.args.node c.args.rel c.in-Some.row c.in_ok-own.own
    (only_loads s l c.args.rel c.load.ensures.state) (sym c.in-Some.is ∙ c.in_ok-row.ensures.found tells)
    (c.in_ok-own.ensures.local tells) (c.in_ok-own.ensures.dense tells) key.id came rest groups free spreading t (head_of c.group_head-head.result)
    (c.in_ok-free_previous.ensures.ok tells)
    (c.group_head-head.ensures.is ∙ ap (λ (side : Side). group_head c.in_ok-own.own.row.id side) c.at.ensures) readable.mark)))

pub returns-in_err-row-clause-not_damaged : goal.returns-in_err-row-clause-not_damaged
returns-in_err-row-clause-not_damaged g c = λ tells rest most empty spread room.
    let s = g.S.Reads.state c.args.space.now in
    let p = err_from_is_err_and c.from_residual.result c.from_residual.ensures.1 in
    let fault = of_row c.in_err-row.field-0.0 in
    rw (p.1, p.2) (refuses fault ⊥ (not_damaged Turn fault (row_sound c.in_err-row.field-0.0
    (c.in_err-row.ensures.not_damaged tells (IsReadable-AreInRange s c.args.rel spread.keeps.others.ranges)))))

pub returns-in_default-clause-not_damaged : goal.returns-in_default-clause-not_damaged
returns-in_default-clause-not_damaged g c = λ tells rest most empty spread room.
    rel_there (g.S.Reads.state c.args.space.now) c.args.node c.args.rel rest most empty spread (sym (c.in_ok-row.ensures.found tells) ∙ c.in_default.is)

pub returns-in_err-own-clause-not_damaged : goal.returns-in_err-own-clause-not_damaged
returns-in_err-own-clause-not_damaged g c = λ tells rest most empty spread room.
    let s = g.S.Reads.state c.args.space.now in
    let l = g.S.Reads.state c.load.new.space in
    let same = only_loads s l c.args.rel c.load.ensures.state in
    let p = err_from_is_err_and c.from_residual-in_err-own.result c.from_residual-in_err-own.ensures.1 in
    rw (p.1, p.2) (c.in_err-own.ensures.not_damaged tells (c.args.rel ∷ rest) most empty
    (keeps_then s l c.args.node (c.args.rel ∷ rest) most empty same spread.keeps)
    (subst (λ (q : State). IsDense q.records c.args.node) (sym same) spread.dense)
    (has_room s l c.args.node c.args.rel rest most empty same spread room))

pub returns-in_err-first-clause-not_damaged : goal.returns-in_err-first-clause-not_damaged
returns-in_err-first-clause-not_damaged g c = λ tells rest most empty spread room.
    let s = g.S.Reads.state c.args.space.now in
    let l = g.S.Reads.state c.load.new.space in
    let t = g.S.Reads.state c.free_previous.new.space in
    let p = err_from_is_err_and c.from_residual-in_err-first.result c.from_residual-in_err-first.ensures.1 in
    rw (p.1, p.2) (refuses c.in_err-first.field-0.0 ⊥ (c.in_err-first.ensures.not_damaged tells
    (push_right s l (g.S.Reads.state c.own_group.new.space) c.args.node c.args.rel c.in-Some.row c.in_ok-own.own.row.id
    (only_loads s l c.args.rel c.load.ensures.state) (sym c.in-Some.is ∙ c.in_ok-row.ensures.found tells)
    (c.in_ok-own.ensures.opened tells) rest most empty spread t (head_of c.group_head-head.result) (c.in_ok-free_previous.ensures.ok tells)
    (c.group_head-head.ensures.is ∙ ap (λ (side : Side). group_head c.in_ok-own.own.row.id side) c.at.ensures))))

-- ---- damage

pub returns-in_err-row-clause-damaged : goal.returns-in_err-row-clause-damaged
returns-in_err-row-clause-damaged g c = λ tells dense.
    let s = g.S.Reads.state c.args.space.now in
    let l = g.S.Reads.state c.load.new.space in
    let p = err_from_is_err_and c.from_residual.result c.from_residual.ensures.1 in
    rw (p.1, p.2) (unread s l c.args.node c.args.rel (only_loads s l c.args.rel c.load.ensures.state) c.in_err-row.field-0.0
    (c.in_err-row.ensures.damaged tells))

pub returns-in_default-clause-damaged : goal.returns-in_default-clause-damaged
returns-in_default-clause-damaged g c = λ tells dense.
    inr (c.rels_damage.ensures, rel_at-None (g.S.Reads.state c.args.space.now).records c.args.rel (sym (c.in_ok-row.ensures.found tells) ∙ c.in_default.is))

pub returns-in_err-own-clause-damaged : goal.returns-in_err-own-clause-damaged
returns-in_err-own-clause-damaged g c = λ tells dense.
    let s = g.S.Reads.state c.args.space.now in
    let l = g.S.Reads.state c.load.new.space in
    let dense_l = subst (λ (q : State). IsDense q.records c.args.node) (sym (only_loads s l c.args.rel c.load.ensures.state)) dense in
    let p = err_from_is_err_and c.from_residual-in_err-own.result c.from_residual-in_err-own.ensures.1 in
    rw (p.1, p.2) (no_own s l (g.S.Reads.state c.own_group.new.space) c.args.node c.args.rel c.in_err-own.field-0.0 (c.in_err-own.ensures.damaged tells dense_l)
    c.in_err-own.ensures.unwritten)

-- the head of the node that the relationship was to come to
own_heads : (g : Over) (c : After-push_counted g) → g.S.Reads.tells → IsDense (g.S.Reads.state c.args.space.now).records c.args.node
    → IsHeadOf (g.S.Reads.state c.free_previous.new.space).records (head_of c.group_head-head.result) c.args.node
own_heads g c tells dense =
    let s = g.S.Reads.state c.args.space.now in
    let l = g.S.Reads.state c.load.new.space in
    let m = g.S.Reads.state c.own_group.new.space in
    let t = g.S.Reads.state c.free_previous.new.space in
    let dense_l = subst (λ (q : State). IsDense q.records c.args.node) (sym (only_loads s l c.args.rel c.load.ensures.state)) dense in
    subst (λ (h : Head). IsHeadOf t.records h c.args.node) (sym c.group_head-head.ensures.is)
    (heads_freed m t c.args.node c.args.rel (c.in_ok-free_previous.ensures.ok tells) (group_head c.in_ok-own.own.row.id c.at.result) c.args.node
    (owned_head m.records c.args.node c.in_ok-own.own.row.id c.at.result (c.in_ok-own.ensures.dense tells dense_l)
    (group_owned m.records c.args.node c.in_ok-own.own.row.id (c.in_ok-own.ensures.owns tells).group)))

pub returns-in_err-first-clause-damaged : goal.returns-in_err-first-clause-damaged
returns-in_err-first-clause-damaged g c = λ tells dense.
    let p = err_from_is_err_and c.from_residual-in_err-first.result c.from_residual-in_err-first.ensures.1 in
    let own = own_heads g (goal.at.returns-in_err-first-clause-damaged g c).After-push_counted tells dense in
    rw (p.1, p.2) (no_push (g.S.Reads.state c.args.space.now) (g.S.Reads.state c.free_previous.new.space) (g.S.Reads.state c.push_counted.new.space)
    c.args.node c.args.rel
    c.in_err-first.field-0.0 (c.in_err-first.ensures.breaks tells c.args.node own) c.in_err-first.ensures.unwritten)

-- ---- the node stays dense

pub returns-clause-dense : goal.returns-clause-dense
returns-clause-dense g c = λ tells dense.
    let s = g.S.Reads.state c.args.space.now in
    let l = g.S.Reads.state c.load.new.space in
    let dense_l = subst (λ (q : State). IsDense q.records c.args.node) (sym (only_loads s l c.args.rel c.load.ensures.state)) dense in
    dense_moved (g.S.Reads.state c.own_group.new.space) (g.S.Reads.state c.free_previous.new.space) (g.S.Reads.state c.push_counted.new.space) c.args.node
    c.args.rel (head_of c.group_head-head.result)
    (ap (λ (h : Head). h.key.file) c.group_head-head.ensures.is) (c.in_ok-free_previous.ensures.ok tells) (c.in_ok-first.ensures.ok tells)
    (c.in_ok-own.ensures.dense tells dense_l)

pub returns-in_err-row-clause-cause : goal.returns-in_err-row-clause-cause
returns-in_err-row-clause-cause g c =
    row_cause _ _ _ c.from_residual.result c.in_err-row.field-0.0 (omega arith) c.in_err-row.ensures.cause c.from_residual.ensures.1

pub returns-in_err-own-clause-cause : goal.returns-in_err-own-clause-cause
returns-in_err-own-clause-cause g c =
    open_cause _ _ _ c.from_residual-in_err-own.result c.in_err-own.field-0.0 c.in_ok-row.ensures.cause.later c.in_err-own.ensures.cause
    c.from_residual-in_err-own.ensures.1

pub returns-in_err-free_previous-clause-cause : goal.returns-in_err-free_previous-clause-cause
returns-in_err-free_previous-clause-cause g c =
    space_cause _ _ _ c.from_residual-in_err-free_previous.result c.in_err-free_previous.field-0.0
    (later_on c.in_ok-row.ensures.cause.later c.in_ok-own.ensures.cause.later) c.in_err-free_previous.ensures.cause
    c.from_residual-in_err-free_previous.ensures.1

pub returns-in_err-first-clause-cause : goal.returns-in_err-first-clause-cause
returns-in_err-first-clause-cause g c =
    fault_cause _ _ _ c.from_residual-in_err-first.result c.in_err-first.field-0.0
    (later_on (later_on c.in_ok-row.ensures.cause.later c.in_ok-own.ensures.cause.later) c.in_ok-free_previous.ensures.cause.later)
    c.in_err-first.ensures.cause c.from_residual-in_err-first.ensures.1

-- ---- what is left of other records

pub returns-clause-leaves_others : goal.returns-clause-leaves_others
returns-clause-leaves_others g c = λ tells.
    let s = g.S.Reads.state c.args.space.now in
    let l = g.S.Reads.state c.load.new.space in
    let m = g.S.Reads.state c.own_group.new.space in
    let end = g.S.Reads.state c.push_counted.new.space in
    beside_then s.records l.records end.records c.args.node (beside_read s l c.args.node (only_loads s l c.args.rel c.load.ensures.state))
    (beside_then l.records m.records end.records c.args.node (c.in_ok-own.ensures.leaves_others tells)
    (beside_moved m (g.S.Reads.state c.free_previous.new.space) end c.args.node c.args.rel (head_of c.group_head-head.result) (ap (λ (h : Head). h.key.file)
    c.group_head-head.ensures.is) (subst (λ (h : Head). 20 ≤ h.field) (sym c.group_head-head.ensures.is) (place_range c.at.result).0)
    (subst (λ (h : Head). is_group_of (m.records h.key) c.args.node ≡ true) (sym c.group_head-head.ensures.is)
    (group_says m.records c.args.node c.in_ok-own.own.row.id (c.in_ok-own.ensures.owns tells).group))
    (c.in_ok-free_previous.ensures.ok tells) (c.in_ok-first.ensures.ok tells)))

pub returns-in_err-row-clause-stays : goal.returns-in_err-row-clause-stays
returns-in_err-row-clause-stays g c = λ tells.
    let s = g.S.Reads.state c.args.space.now in
    let l = g.S.Reads.state c.load.new.space in
    on_refusal c.from_residual.result _ (beside_read s l c.args.node (only_loads s l c.args.rel c.load.ensures.state))

pub returns-in_default-clause-stays : goal.returns-in_default-clause-stays
returns-in_default-clause-stays g c = λ tells.
    let s = g.S.Reads.state c.args.space.now in
    let l = g.S.Reads.state c.load.new.space in
    beside_read s l c.args.node (only_loads s l c.args.rel c.load.ensures.state)

pub returns-in_err-own-clause-stays : goal.returns-in_err-own-clause-stays
returns-in_err-own-clause-stays g c = λ tells.
    let s = g.S.Reads.state c.args.space.now in
    let l = g.S.Reads.state c.load.new.space in
    let p = err_from_is_err_and c.from_residual-in_err-own.result c.from_residual-in_err-own.ensures.1 in
    rw (p.1, p.2) (unwritten_beside s l (g.S.Reads.state c.own_group.new.space) c.args.node (only_loads s l c.args.rel c.load.ensures.state)
    c.in_err-own.field-0.0 c.in_err-own.ensures.unwritten)

pub returns-in_err-first-clause-stays : goal.returns-in_err-first-clause-stays
returns-in_err-first-clause-stays g c = λ tells.
    let s = g.S.Reads.state c.args.space.now in
    let l = g.S.Reads.state c.load.new.space in
    let m = g.S.Reads.state c.own_group.new.space in
    let t = g.S.Reads.state c.free_previous.new.space in
    let p = err_from_is_err_and c.from_residual-in_err-first.result c.from_residual-in_err-first.ensures.1 in
    rw (p.1, p.2) (unpushed_beside s.records t (g.S.Reads.state c.push_counted.new.space) c.args.node
    (beside_then s.records l.records t.records c.args.node (beside_read s l c.args.node (only_loads s l c.args.rel c.load.ensures.state))
    (beside_then l.records m.records t.records c.args.node (c.in_ok-own.ensures.leaves_others tells) (beside_freed m t c.args.node c.args.rel
    (c.in_ok-free_previous.ensures.ok tells))))
    c.in_err-first.field-0.0 c.in_err-first.ensures.unwritten)

-- ---- each node has the heads that it had

pub returns-clause-heads : goal.returns-clause-heads
returns-clause-heads g c = λ tells.
    let s = g.S.Reads.state c.args.space.now in
    let l = g.S.Reads.state c.load.new.space in
    let m = g.S.Reads.state c.own_group.new.space in
    let t = g.S.Reads.state c.free_previous.new.space in
    let end = g.S.Reads.state c.push_counted.new.space in
    let head : head_of c.group_head-head.result ≡ group_head c.in_ok-own.own.row.id c.at.result = c.group_head-head.ensures.is in
    heads_then s l end (heads_same s l (only_loads s l c.args.rel c.load.ensures.state))
    (heads_then l m end (c.in_ok-own.ensures.heads tells)
    (heads_then m t end (heads_freed m t c.args.node c.args.rel (c.in_ok-free_previous.ensures.ok tells))
    (heads_pushed t end c.args.node c.args.rel (head_of c.group_head-head.result) (ap (λ (h : Head). h.key.file) head)
    (subst (λ (h : Head). 12 ≤ h.field) (sym head) (far c.at.result)) (c.in_ok-first.ensures.ok tells))))
  where
    far : (side : Side) → 12 ≤ place_of side
    far Out = omega arith
    far Into = omega arith
    far Loop = omega arith

pub returns-in_err-row-clause-moved : goal.returns-in_err-row-clause-moved
returns-in_err-row-clause-moved g c _ = never_ok c.from_residual.result _ _ c.from_residual.ensures.1

pub returns-in_err-row-clause-own : goal.returns-in_err-row-clause-own
returns-in_err-row-clause-own g c _ = never_ok c.from_residual.result _ _ c.from_residual.ensures.1

pub returns-in_err-row-clause-local : goal.returns-in_err-row-clause-local
returns-in_err-row-clause-local g c _ = never_ok c.from_residual.result _ _ c.from_residual.ensures.1

pub returns-in_err-row-clause-leads : goal.returns-in_err-row-clause-leads
returns-in_err-row-clause-leads g c _ = never_ok c.from_residual.result _ _ c.from_residual.ensures.1

pub returns-in_err-row-clause-walk : goal.returns-in_err-row-clause-walk
returns-in_err-row-clause-walk g c _ = never_ok c.from_residual.result _ _ c.from_residual.ensures.1

pub returns-in_err-row-clause-dense : goal.returns-in_err-row-clause-dense
returns-in_err-row-clause-dense g c _ _ = never_ok c.from_residual.result _ _ c.from_residual.ensures.1

pub returns-in_err-row-clause-heads : goal.returns-in_err-row-clause-heads
returns-in_err-row-clause-heads g c _ = never_ok c.from_residual.result _ _ c.from_residual.ensures.1

pub returns-in_err-row-clause-leaves_others : goal.returns-in_err-row-clause-leaves_others
returns-in_err-row-clause-leaves_others g c _ = never_ok c.from_residual.result _ _ c.from_residual.ensures.1

pub returns-in_err-row-clause-wrote : goal.returns-in_err-row-clause-wrote
returns-in_err-row-clause-wrote g c = never_ok c.from_residual.result _ _ c.from_residual.ensures.1

pub returns-in_err-row-clause-onward : goal.returns-in_err-row-clause-onward
returns-in_err-row-clause-onward g c = search rules

pub returns-in_err-own-clause-moved : goal.returns-in_err-own-clause-moved
returns-in_err-own-clause-moved g c _ = never_ok c.from_residual-in_err-own.result _ _ c.from_residual-in_err-own.ensures.1

pub returns-in_err-own-clause-own : goal.returns-in_err-own-clause-own
returns-in_err-own-clause-own g c _ = never_ok c.from_residual-in_err-own.result _ _ c.from_residual-in_err-own.ensures.1

pub returns-in_err-own-clause-local : goal.returns-in_err-own-clause-local
returns-in_err-own-clause-local g c _ = never_ok c.from_residual-in_err-own.result _ _ c.from_residual-in_err-own.ensures.1

pub returns-in_err-own-clause-leads : goal.returns-in_err-own-clause-leads
returns-in_err-own-clause-leads g c _ = never_ok c.from_residual-in_err-own.result _ _ c.from_residual-in_err-own.ensures.1

pub returns-in_err-own-clause-walk : goal.returns-in_err-own-clause-walk
returns-in_err-own-clause-walk g c _ = never_ok c.from_residual-in_err-own.result _ _ c.from_residual-in_err-own.ensures.1

pub returns-in_err-own-clause-dense : goal.returns-in_err-own-clause-dense
returns-in_err-own-clause-dense g c _ _ = never_ok c.from_residual-in_err-own.result _ _ c.from_residual-in_err-own.ensures.1

pub returns-in_err-own-clause-heads : goal.returns-in_err-own-clause-heads
returns-in_err-own-clause-heads g c _ = never_ok c.from_residual-in_err-own.result _ _ c.from_residual-in_err-own.ensures.1

pub returns-in_err-own-clause-leaves_others : goal.returns-in_err-own-clause-leaves_others
returns-in_err-own-clause-leaves_others g c _ = never_ok c.from_residual-in_err-own.result _ _ c.from_residual-in_err-own.ensures.1

pub returns-in_err-own-clause-wrote : goal.returns-in_err-own-clause-wrote
returns-in_err-own-clause-wrote g c = never_ok c.from_residual-in_err-own.result _ _ c.from_residual-in_err-own.ensures.1

pub returns-in_err-free_previous-clause-moved : goal.returns-in_err-free_previous-clause-moved
returns-in_err-free_previous-clause-moved g c _ = never_ok c.from_residual-in_err-free_previous.result _ _ c.from_residual-in_err-free_previous.ensures.1

pub returns-in_err-free_previous-clause-own : goal.returns-in_err-free_previous-clause-own
returns-in_err-free_previous-clause-own g c _ = never_ok c.from_residual-in_err-free_previous.result _ _ c.from_residual-in_err-free_previous.ensures.1

pub returns-in_err-free_previous-clause-local : goal.returns-in_err-free_previous-clause-local
returns-in_err-free_previous-clause-local g c _ = never_ok c.from_residual-in_err-free_previous.result _ _ c.from_residual-in_err-free_previous.ensures.1

pub returns-in_err-free_previous-clause-leads : goal.returns-in_err-free_previous-clause-leads
returns-in_err-free_previous-clause-leads g c _ = never_ok c.from_residual-in_err-free_previous.result _ _ c.from_residual-in_err-free_previous.ensures.1

pub returns-in_err-free_previous-clause-walk : goal.returns-in_err-free_previous-clause-walk
returns-in_err-free_previous-clause-walk g c _ = never_ok c.from_residual-in_err-free_previous.result _ _ c.from_residual-in_err-free_previous.ensures.1

pub returns-in_err-free_previous-clause-dense : goal.returns-in_err-free_previous-clause-dense
returns-in_err-free_previous-clause-dense g c _ _ = never_ok c.from_residual-in_err-free_previous.result _ _ c.from_residual-in_err-free_previous.ensures.1

pub returns-in_err-free_previous-clause-heads : goal.returns-in_err-free_previous-clause-heads
returns-in_err-free_previous-clause-heads g c _ = never_ok c.from_residual-in_err-free_previous.result _ _ c.from_residual-in_err-free_previous.ensures.1

pub returns-in_err-free_previous-clause-leaves_others : goal.returns-in_err-free_previous-clause-leaves_others
returns-in_err-free_previous-clause-leaves_others g c _ = never_ok c.from_residual-in_err-free_previous.result _ _
    c.from_residual-in_err-free_previous.ensures.1

pub returns-in_err-free_previous-clause-wrote : goal.returns-in_err-free_previous-clause-wrote
returns-in_err-free_previous-clause-wrote g c = never_ok c.from_residual-in_err-free_previous.result _ _ c.from_residual-in_err-free_previous.ensures.1

pub returns-in_err-first-clause-moved : goal.returns-in_err-first-clause-moved
returns-in_err-first-clause-moved g c _ = never_ok c.from_residual-in_err-first.result _ _ c.from_residual-in_err-first.ensures.1

pub returns-in_err-first-clause-own : goal.returns-in_err-first-clause-own
returns-in_err-first-clause-own g c _ = never_ok c.from_residual-in_err-first.result _ _ c.from_residual-in_err-first.ensures.1

pub returns-in_err-first-clause-local : goal.returns-in_err-first-clause-local
returns-in_err-first-clause-local g c _ = never_ok c.from_residual-in_err-first.result _ _ c.from_residual-in_err-first.ensures.1

pub returns-in_err-first-clause-leads : goal.returns-in_err-first-clause-leads
returns-in_err-first-clause-leads g c _ = never_ok c.from_residual-in_err-first.result _ _ c.from_residual-in_err-first.ensures.1

pub returns-in_err-first-clause-walk : goal.returns-in_err-first-clause-walk
returns-in_err-first-clause-walk g c _ = never_ok c.from_residual-in_err-first.result _ _ c.from_residual-in_err-first.ensures.1

pub returns-in_err-first-clause-dense : goal.returns-in_err-first-clause-dense
returns-in_err-first-clause-dense g c _ _ = never_ok c.from_residual-in_err-first.result _ _ c.from_residual-in_err-first.ensures.1

pub returns-in_err-first-clause-heads : goal.returns-in_err-first-clause-heads
returns-in_err-first-clause-heads g c _ = never_ok c.from_residual-in_err-first.result _ _ c.from_residual-in_err-first.ensures.1

pub returns-in_err-first-clause-leaves_others : goal.returns-in_err-first-clause-leaves_others
returns-in_err-first-clause-leaves_others g c _ = never_ok c.from_residual-in_err-first.result _ _ c.from_residual-in_err-first.ensures.1

pub returns-in_err-first-clause-wrote : goal.returns-in_err-first-clause-wrote
returns-in_err-first-clause-wrote g c = never_ok c.from_residual-in_err-first.result _ _ c.from_residual-in_err-first.ensures.1

pub returns-in_err-free_previous-clause-not_damaged : goal.returns-in_err-free_previous-clause-not_damaged
returns-in_err-free_previous-clause-not_damaged g c _ _ _ _ _ _ = space_has _ tt tt c.from_residual-in_err-free_previous.result c.in_err-free_previous.field-0.0
    c.from_residual-in_err-free_previous.ensures.1

pub returns-in_err-free_previous-clause-never : goal.returns-in_err-free_previous-clause-never
returns-in_err-free_previous-clause-never g c _ _ _ _ _ _ _ _ _ = space_has _ tt tt c.from_residual-in_err-free_previous.result c.in_err-free_previous.field-0.0
    c.from_residual-in_err-free_previous.ensures.1

pub returns-in_err-free_previous-clause-damaged : goal.returns-in_err-free_previous-clause-damaged
returns-in_err-free_previous-clause-damaged g c _ _ = space_has _ tt tt c.from_residual-in_err-free_previous.result c.in_err-free_previous.field-0.0
    c.from_residual-in_err-free_previous.ensures.1

pub returns-in_err-free_previous-clause-stays : goal.returns-in_err-free_previous-clause-stays
returns-in_err-free_previous-clause-stays g c _ = space_has _ tt tt c.from_residual-in_err-free_previous.result c.in_err-free_previous.field-0.0
    c.from_residual-in_err-free_previous.ensures.1

pub returns-in_err-own-clause-onward : goal.returns-in_err-own-clause-onward
returns-in_err-own-clause-onward g c = g.met.S.Reads.further_onward _ _ _ c.in_ok-row.ensures.onward c.in_err-own.ensures.onward

pub returns-in_err-free_previous-clause-onward : goal.returns-in_err-free_previous-clause-onward
returns-in_err-free_previous-clause-onward g c =
    g.met.S.Reads.further_onward _ _ _ (g.met.S.Reads.further_onward _ _ _ c.in_ok-row.ensures.onward c.in_ok-own.ensures.onward)
    c.in_err-free_previous.ensures.onward

pub returns-in_err-first-clause-onward : goal.returns-in_err-first-clause-onward
returns-in_err-first-clause-onward g c =
    g.met.S.Reads.further_onward _ _ _ (g.met.S.Reads.further_onward _ _ _ (g.met.S.Reads.further_onward _ _ _ c.in_ok-row.ensures.onward
    c.in_ok-own.ensures.onward) c.in_ok-free_previous.ensures.onward) c.in_err-first.ensures.onward

-- ---- which record is named

pub returns-in_err-row-clause-names : goal.returns-in_err-row-clause-names
returns-in_err-row-clause-names g c = λ tells.
    let s = g.S.Reads.state c.args.space.now in
    let p = err_from_is_err_and c.from_residual.result c.from_residual.ensures.1 in
    rw (p.1, p.2) (rel_named s c.args.node c.args.rel c.in_err-row.field-0.0 (c.in_err-row.ensures.damaged tells))

pub returns-in_default-clause-names : goal.returns-in_default-clause-names
returns-in_default-clause-names g c = λ tells. at_node (g.S.Reads.state c.args.space.now) c.args.node c.rels_damage.result 3 c.rels_damage.ensures

pub returns-in_err-own-clause-names : goal.returns-in_err-own-clause-names
returns-in_err-own-clause-names g c = λ tells.
    let s = g.S.Reads.state c.args.space.now in
    let l = g.S.Reads.state c.load.new.space in
    let p = err_from_is_err_and c.from_residual-in_err-own.result c.from_residual-in_err-own.ensures.1 in
    rw (p.1, p.2) (named_read s l c.args.node c.in_err-own.field-0.0 (only_loads s l c.args.rel c.load.ensures.state) (c.in_err-own.ensures.names tells))

pub returns-in_err-free_previous-clause-names : goal.returns-in_err-free_previous-clause-names
returns-in_err-free_previous-clause-names g c _ = space_has _ tt tt c.from_residual-in_err-free_previous.result c.in_err-free_previous.field-0.0
    c.from_residual-in_err-free_previous.ensures.1

pub returns-in_err-first-clause-names : goal.returns-in_err-first-clause-names
returns-in_err-first-clause-names g c = λ tells.
    let s = g.S.Reads.state c.args.space.now in
    let t = g.S.Reads.state c.free_previous.new.space in
    let p = err_from_is_err_and c.from_residual-in_err-first.result c.from_residual-in_err-first.ensures.1 in
    rw (p.1, p.2) (push_named s t c.args.node (head_of c.group_head-head.result) (ap (λ (h : Head). h.key.file) c.group_head-head.ensures.is)
    c.in_err-first.field-0.0 (c.in_err-first.ensures.damaged tells))

-- ---- the groups of a node that became dense

pub returns-in_err-row-clause-listed : goal.returns-in_err-row-clause-listed
returns-in_err-row-clause-listed g c = λ tells dense h there.
    let s = g.S.Reads.state c.args.space.now in
    let p = err_from_is_err_and c.from_residual.result c.from_residual.ensures.1 in
    rw (p.1, p.2) (rel_listed s c.args.rel c.in_err-row.field-0.0 (c.in_err-row.ensures.damaged tells))

pub returns-in_default-clause-listed : goal.returns-in_default-clause-listed
returns-in_default-clause-listed g c = λ tells dense h there.
    absurd (there (rel_at-None (g.S.Reads.state c.args.space.now).records c.args.rel (sym (c.in_ok-row.ensures.found tells) ∙ c.in_default.is)))

pub returns-in_err-own-clause-listed : goal.returns-in_err-own-clause-listed
returns-in_err-own-clause-listed g c = λ tells dense h there.
    let s = g.S.Reads.state c.args.space.now in
    let l = g.S.Reads.state c.load.new.space in
    let same = only_loads s l c.args.rel c.load.ensures.state in
    let p = err_from_is_err_and c.from_residual-in_err-own.result c.from_residual-in_err-own.ensures.1 in
    rw (p.1, p.2) (c.in_err-own.ensures.listed tells (subst (λ (q : State). IsDense q.records c.args.node) (sym same) dense)
    (list_read s l c.args.node same h))

pub returns-in_err-free_previous-clause-listed : goal.returns-in_err-free_previous-clause-listed
returns-in_err-free_previous-clause-listed g c _ _ _ _ = space_has _ tt tt c.from_residual-in_err-free_previous.result c.in_err-free_previous.field-0.0
    c.from_residual-in_err-free_previous.ensures.1

pub returns-in_err-first-clause-listed : goal.returns-in_err-first-clause-listed
returns-in_err-first-clause-listed g c = λ tells dense h there.
    let t = g.S.Reads.state c.free_previous.new.space in
    let p = err_from_is_err_and c.from_residual-in_err-first.result c.from_residual-in_err-first.ensures.1 in
    rw (p.1, p.2) (push_listed t (head_of c.group_head-head.result) (ap (λ (h : Head). h.key.file) c.group_head-head.ensures.is)
    c.in_err-first.field-0.0 (c.in_err-first.ensures.damaged tells))

pub returns-clause-list : goal.returns-clause-list
returns-clause-list g c = λ tells dense h.
    let s = g.S.Reads.state c.args.space.now in
    let l = g.S.Reads.state c.load.new.space in
    let head = head_of c.group_head-head.result in
    let own = c.in_ok-own.ensures.list tells (list_read s l c.args.node (only_loads s l c.args.rel c.load.ensures.state) h) in
    list_moved (g.S.Reads.state c.own_group.new.space) (g.S.Reads.state c.free_previous.new.space) (g.S.Reads.state c.push_counted.new.space) c.args.node
    c.args.rel head (ap (λ (h : Head). h.key.file) c.group_head-head.ensures.is)
    (subst (λ (h : Head). 20 ≤ h.field) (sym c.group_head-head.ensures.is) (place_range c.at.result).0)
    (c.in_ok-free_previous.ensures.ok tells) (c.in_ok-first.ensures.ok tells) own.0

pub returns-in_err-row-clause-list : goal.returns-in_err-row-clause-list
returns-in_err-row-clause-list g c _ = never_ok c.from_residual.result _ _ c.from_residual.ensures.1

pub returns-in_err-own-clause-list : goal.returns-in_err-own-clause-list
returns-in_err-own-clause-list g c _ = never_ok c.from_residual-in_err-own.result _ _ c.from_residual-in_err-own.ensures.1

pub returns-in_err-free_previous-clause-list : goal.returns-in_err-free_previous-clause-list
returns-in_err-free_previous-clause-list g c _ = never_ok c.from_residual-in_err-free_previous.result _ _ c.from_residual-in_err-free_previous.ensures.1

pub returns-in_err-first-clause-list : goal.returns-in_err-first-clause-list
returns-in_err-first-clause-list g c _ = never_ok c.from_residual-in_err-first.result _ _ c.from_residual-in_err-first.ensures.1

-- ---- the free list of the groups

pub returns-in_err-row-clause-metas : goal.returns-in_err-row-clause-metas
returns-in_err-row-clause-metas g c = λ tells.
    let s = g.S.Reads.state c.args.space.now in
    let l = g.S.Reads.state c.load.new.space in
    let p = err_from_is_err_and c.from_residual.result c.from_residual.ensures.1 in
    rw (p.1, p.2) (rel_metas 1 s l s c.args.rel c.in_err-row.field-0.0 (c.in_err-row.ensures.damaged tells))

pub returns-in_default-clause-metas : goal.returns-in_default-clause-metas
returns-in_default-clause-metas g c = λ tells.
    metas_node 1 (g.S.Reads.state c.args.space.now) (g.S.Reads.state c.load.new.space) c.rels_damage.result c.args.node 3 c.rels_damage.ensures

pub returns-in_err-own-clause-metas : goal.returns-in_err-own-clause-metas
returns-in_err-own-clause-metas g c = λ tells.
    let s = g.S.Reads.state c.args.space.now in
    let l = g.S.Reads.state c.load.new.space in
    let p = err_from_is_err_and c.from_residual-in_err-own.result c.from_residual-in_err-own.ensures.1 in
    rw (p.1, p.2) (metas_read 1 s l (g.S.Reads.state c.own_group.new.space) c.in_err-own.field-0.0 (only_loads s l c.args.rel c.load.ensures.state)
    (c.in_err-own.ensures.metas tells))

pub returns-in_err-free_previous-clause-metas : goal.returns-in_err-free_previous-clause-metas
returns-in_err-free_previous-clause-metas g c _ = space_has _ tt tt c.from_residual-in_err-free_previous.result c.in_err-free_previous.field-0.0
    c.from_residual-in_err-free_previous.ensures.1

pub returns-in_err-first-clause-metas : goal.returns-in_err-first-clause-metas
returns-in_err-first-clause-metas g c = λ tells.
    let s = g.S.Reads.state c.args.space.now in
    let t = g.S.Reads.state c.free_previous.new.space in
    let p = err_from_is_err_and c.from_residual-in_err-first.result c.from_residual-in_err-first.ensures.1 in
    rw (p.1, p.2) (push_metas 1 s (g.S.Reads.state c.push_counted.new.space) t (head_of c.group_head-head.result)
    (ap (λ (h : Head). h.key.file) c.group_head-head.ensures.is) c.in_err-first.field-0.0 (c.in_err-first.ensures.damaged tells))

pub returns-clause-lists : goal.returns-clause-lists
returns-clause-lists g c = λ tells.
    let s = g.S.Reads.state c.args.space.now in
    let l = g.S.Reads.state c.load.new.space in
    let m = g.S.Reads.state c.own_group.new.space in
    let t = g.S.Reads.state c.free_previous.new.space in
    let end = g.S.Reads.state c.push_counted.new.space in
    let head = head_of c.group_head-head.result in
    let shape = g.met.S.Reads.onward_shape _ _ (g.met.S.Reads.further_onward _ _ _ c.in_ok-free_previous.ensures.onward c.in_ok-first.ensures.onward) in
    harms_none_then s l end groups_file (reads_harm_none s l groups_file (only_loads s l c.args.rel c.load.ensures.state))
    (harms_none_then l m end groups_file (c.in_ok-own.ensures.lists tells)
    (moved_harms_none m t end c.args.node c.args.rel head (ap (λ (h : Head). h.key.file) c.group_head-head.ensures.is)
    (subst (λ (h : Head). 20 ≤ h.field) (sym c.group_head-head.ensures.is) (place_range c.at.result).0)
    (c.in_ok-free_previous.ensures.ok tells) (c.in_ok-first.ensures.ok tells) shape))

pub returns-in_err-row-clause-lists : goal.returns-in_err-row-clause-lists
returns-in_err-row-clause-lists g c _ = never_ok c.from_residual.result _ _ c.from_residual.ensures.1

pub returns-in_err-own-clause-lists : goal.returns-in_err-own-clause-lists
returns-in_err-own-clause-lists g c _ = never_ok c.from_residual-in_err-own.result _ _ c.from_residual-in_err-own.ensures.1

pub returns-in_err-free_previous-clause-lists : goal.returns-in_err-free_previous-clause-lists
returns-in_err-free_previous-clause-lists g c _ = never_ok c.from_residual-in_err-free_previous.result _ _ c.from_residual-in_err-free_previous.ensures.1

pub returns-in_err-first-clause-lists : goal.returns-in_err-first-clause-lists
returns-in_err-first-clause-lists g c _ = never_ok c.from_residual-in_err-first.result _ _ c.from_residual-in_err-first.ensures.1

-- ---- a group that is named

pub returns-in_err-row-clause-groups : goal.returns-in_err-row-clause-groups
returns-in_err-row-clause-groups g c = λ tells came groups was low.
    let s = g.S.Reads.state c.args.space.now in
    let l = g.S.Reads.state c.load.new.space in
    let p = err_from_is_err_and c.from_residual.result c.from_residual.ensures.1 in
    rw (p.1, p.2) (rel_apart s l s c.args.rel c.in_err-row.field-0.0 (c.in_err-row.ensures.damaged tells))

pub returns-in_default-clause-groups : goal.returns-in_default-clause-groups
returns-in_default-clause-groups g c = λ tells came groups was low.
    node_apart (g.S.Reads.state c.args.space.now) (g.S.Reads.state c.load.new.space) c.rels_damage.result c.args.node 3 c.rels_damage.ensures

pub returns-in_err-own-clause-groups : goal.returns-in_err-own-clause-groups
returns-in_err-own-clause-groups g c = λ tells came groups was low.
    let s = g.S.Reads.state c.args.space.now in
    let l = g.S.Reads.state c.load.new.space in
    let p = err_from_is_err_and c.from_residual-in_err-own.result c.from_residual-in_err-own.ensures.1 in
    rw (p.1, p.2) (apart_read s l (g.S.Reads.state c.own_group.new.space) c.in_err-own.field-0.0 (only_loads s l c.args.rel c.load.ensures.state)
    (c.in_err-own.ensures.groups tells))

pub returns-in_err-free_previous-clause-groups : goal.returns-in_err-free_previous-clause-groups
returns-in_err-free_previous-clause-groups g c _ _ _ _ _ = space_has _ tt tt c.from_residual-in_err-free_previous.result
    c.in_err-free_previous.field-0.0 c.from_residual-in_err-free_previous.ensures.1

pub returns-in_err-first-clause-groups : goal.returns-in_err-first-clause-groups
returns-in_err-first-clause-groups g c = λ tells came groups was low.
    let s = g.S.Reads.state c.args.space.now in
    let l = g.S.Reads.state c.load.new.space in
    let m = g.S.Reads.state c.own_group.new.space in
    let t = g.S.Reads.state c.free_previous.new.space in
    let node = c.args.node in
    let id = c.in_ok-own.own.row.id in
    let same = only_loads s l c.args.rel c.load.ensures.state in
    let key = c.in_ok-own.ensures.key in
    let opened = c.in_ok-own.ensures.leads tells came groups (subst (λ (q : State). LeadsAmong q.records node came groups) (sym same) was) in
    let first = spread_first m.records node id came (groups ++ id ∷ []) c.at.result opened.0 (in_last id groups) (λ e. omega (arith, key.id))
    (λ x i. low_beside l.records m.records node x (c.in_ok-own.ensures.leaves_others tells) (low_read s l x same (low x i))) in
    let p = err_from_is_err_and c.from_residual-in_err-first.result c.from_residual-in_err-first.ensures.1 in
    rw (p.1, p.2) (push_apart s (g.S.Reads.state c.push_counted.new.space) t (head_of c.group_head-head.result)
    (turn_first m t node c.args.rel id c.at.result (head_of c.group_head-head.result) (c.in_ok-free_previous.ensures.ok tells) c.group_head-head.ensures.is
    first)
    c.in_err-first.field-0.0 (c.in_err-first.ensures.damaged tells))

-- ---- how many groups are counted

pub returns-clause-room : goal.returns-clause-room
returns-clause-room g c = λ tells.
    let s = g.S.Reads.state c.args.space.now in
    let l = g.S.Reads.state c.load.new.space in
    let m = g.S.Reads.state c.own_group.new.space in
    let t = g.S.Reads.state c.free_previous.new.space in
    let end = g.S.Reads.state c.push_counted.new.space in
    let read = grows_read s l (only_loads s l c.args.rel c.load.ensures.state) in
    let one = c.in_ok-own.ensures.room tells in
    let put = grows_moved m t end c.args.node c.args.rel (head_of c.group_head-head.result) (ap (λ (h : Head). h.key.file) c.group_head-head.ensures.is)
    (c.in_ok-free_previous.ensures.ok tells) (c.in_ok-first.ensures.ok tells) in
    omega (arith, read, one, put)

pub returns-in_err-row-clause-room : goal.returns-in_err-row-clause-room
returns-in_err-row-clause-room g c _ = never_ok c.from_residual.result _ _ c.from_residual.ensures.1

pub returns-in_err-own-clause-room : goal.returns-in_err-own-clause-room
returns-in_err-own-clause-room g c _ = never_ok c.from_residual-in_err-own.result _ _ c.from_residual-in_err-own.ensures.1

pub returns-in_err-free_previous-clause-room : goal.returns-in_err-free_previous-clause-room
returns-in_err-free_previous-clause-room g c _ = never_ok c.from_residual-in_err-free_previous.result _ _ c.from_residual-in_err-free_previous.ensures.1

pub returns-in_err-first-clause-room : goal.returns-in_err-first-clause-room
returns-in_err-first-clause-room g c _ = never_ok c.from_residual-in_err-first.result _ _ c.from_residual-in_err-first.ensures.1
