use Rattle.std.proofs.Common.{arith, [], ◌∷◌, ◌++◌, sym, ap, inl, inr, subst, ⊎_elim, rules}
use Rattle.std.proofs.lemmas.Bool.{false≢true}
use Rattle.std.proofs.lemmas.Result.{err_from_is_err_and}
use Rattle.rec_bytes.specs.declared.key.Key.{Key}
use Rattle.rec_bytes.specs.Space.{State}
use Rattle.store_rules.specs.Rules.{Head, first_of}
use Rattle.chain_edit.specs.Heads.{head_of}
use Rattle.group_store.specs.GroupChain.{IsGroupOf}
use Rattle.group_store.specs.Leaving.{IsLowLink}
use Rattle.group_store.specs.Sides.{group_head}
use Rattle.group_store.specs.Opening.{OpensChain, WritesOpened}
use Rattle.group_store.proofs.GroupWrites.{found_writes, made_writes, opened_writes, raised_writes}
use Rattle.group_store.proofs.Named.{count_named}
use Rattle.group_store.proofs.OpenFaults.{fault_cause, open_cause, refuses}
use Rattle.group_store.proofs.BrokenGroups.{only_breaks}
use Rattle.group_store.proofs.Heads.{then_unwritten}
use Rattle.group_store.proofs.Raises.{breaks_read}
use Rattle.group_store.proofs.Opens.{all_but, can_raise, not_full, opens_group}
use Rattle.group_store.proofs.GroupRules.{group_owned}
use Rattle.group_store.proofs.LeftBeside.{beside_then}
use Rattle.group_store.proofs.LowHeads.{counted_or_low, low_beside, own_head, spread_first}
use Rattle.group_store.proofs.OwnRecords.{group_says}
use Rattle.group_store.proofs.Spreads.{in_last}
use Rattle.group_store.proofs.Strangers.{apart_no_other, count_no_other}
use Rattle.store_rules.specs.Breaking.{IsHeadOf}
use Rattle.group_store.proofs.KeptHeads.{heads_then}
use Rattle.group_store.proofs.MadeHeads.{owned_head}
use Rattle.rec_bytes.proofs.Causes.{never_ok}
use Rattle.rec_bytes.specs.Format.{groups_file}
use Rattle.id_freelist.proofs.ListSteps.{harms_none_then}
use Rattle.group_store.proofs.GroupMetas.{count_metas, grows_counted}
use Rattle.group_store.proofs.opening.open_group.Goals as goal

pub returns-in_err-own-clause-not_damaged : goal.returns-in_err-own-clause-not_damaged
returns-in_err-own-clause-not_damaged g c = λ tells row empty can room.
    let s = g.S.Reads.state c.args.space.now in
    let p = err_from_is_err_and c.from_residual.result c.from_residual.ensures.1 in
    rw (p.1, p.2) (c.in_err-own.ensures.not_damaged tells [] s.shape.threshold empty
    (all_but s.records s.shape c.args.node s.shape.threshold empty can.keeps) can.dense (not_full s c.args.node s.shape.threshold empty can.keeps room))

pub returns-in_err-own-clause-writes : goal.returns-in_err-own-clause-writes
returns-in_err-own-clause-writes g c =
    let w = c.own_group.ensures.writes in
    made_writes (g.S.Reads.state c.args.space.now) (g.S.Reads.state c.own_group.new.space) c.args.node w.1 w.0 w.2

pub returns-in_err-count_group-clause-not_damaged : goal.returns-in_err-count_group-clause-not_damaged
returns-in_err-count_group-clause-not_damaged g c = λ tells row empty can room.
    let s = g.S.Reads.state c.args.space.now in
    let m = g.S.Reads.state c.own_group.new.space in
    let keeps = all_but s.records s.shape c.args.node s.shape.threshold empty can.keeps in
    let o = c.in_ok-own.ensures.opened tells [] s.shape.threshold empty keeps can.dense in
    let is = c.in_ok-own.ensures.row tells [] s.shape.threshold empty keeps can.dense in
    let p = err_from_is_err_and c.from_residual-in_err-count_group.result c.from_residual-in_err-count_group.ensures.1 in
    rw (p.1, p.2) (refuses c.in_err-count_group.field-0.0 ⊥ (c.in_err-count_group.ensures.not_damaged tells s.shape.threshold
    (c.in_ok-own.own.row.id ∷ empty)
    (can_raise s m c.args.node c.args.label c.in_ok-own.own.row c.args.side row empty can o.0 o.1 is)))

pub returns-in_err-count_group-clause-writes : goal.returns-in_err-count_group-clause-writes
returns-in_err-count_group-clause-writes g c =
    let s = g.S.Reads.state c.args.space.now in
    let m = g.S.Reads.state c.own_group.new.space in
    let t = g.S.Reads.state c.count_group.new.space in
    let own = c.in_ok-own.own in
    made_writes s t c.args.node own.first own.row.id (raised_writes s m t own.row.id own.first c.args.node c.in_ok-own.ensures.wrote
    c.in_err-count_group.ensures.writes)

pub returns-clause-opened : goal.returns-clause-opened
returns-clause-opened g c = λ tells row empty can.
    let s = g.S.Reads.state c.args.space.now in
    let m = g.S.Reads.state c.own_group.new.space in
    let t = g.S.Reads.state c.count_group.new.space in
    let keeps = all_but s.records s.shape c.args.node s.shape.threshold empty can.keeps in
    let o = c.in_ok-own.ensures.opened tells [] s.shape.threshold empty keeps can.dense in
    let is = c.in_ok-own.ensures.row tells [] s.shape.threshold empty keeps can.dense in
    let raised = c.in_ok-count_group.ensures.raised tells s.shape.threshold (c.in_ok-own.own.row.id ∷ empty)
    (can_raise s m c.args.node c.args.label c.in_ok-own.own.row c.args.side row empty can o.0 o.1 is) in
    subst (λ (h : Head). OpensChain s t h c.args.node row empty) (sym c.group_head.ensures.is)
    (opens_group s m c.args.node c.args.label c.in_ok-own.own.row c.args.side row empty can o.0 o.1 t raised)

pub returns-clause-writes : goal.returns-clause-writes
returns-clause-writes g c =
    let s = g.S.Reads.state c.args.space.now in
    let m = g.S.Reads.state c.own_group.new.space in
    let t = g.S.Reads.state c.count_group.new.space in
    let own = c.in_ok-own.own in
    made_writes s t c.args.node own.first own.row.id (raised_writes s m t own.row.id own.first c.args.node c.in_ok-own.ensures.wrote
    c.in_ok-count_group.ensures.writes)

pub returns-clause-wrote : goal.returns-clause-wrote
returns-clause-wrote g c =
    let s = g.S.Reads.state c.args.space.now in
    let m = g.S.Reads.state c.own_group.new.space in
    let t = g.S.Reads.state c.count_group.new.space in
    let own = c.in_ok-own.own in
    subst (λ (k : Key). WritesOpened s t c.args.node k 1) (sym (ap (λ (h : Head). h.key) c.group_head.ensures.is))
    (opened_writes s t c.args.node own.first own.row.id (found_writes s m t own.row.id own.first c.args.node c.in_ok-own.ensures.wrote
    c.in_ok-count_group.ensures.writes))

-- ---- damage

pub returns-in_err-own-clause-damaged : goal.returns-in_err-own-clause-damaged
returns-in_err-own-clause-damaged g c = λ tells dense.
    let p = err_from_is_err_and c.from_residual.result c.from_residual.ensures.1 in
    rw (p.1, p.2) (c.in_err-own.ensures.damaged tells dense)

pub returns-in_err-count_group-clause-damaged : goal.returns-in_err-count_group-clause-damaged
returns-in_err-count_group-clause-damaged g c = λ tells dense.
    let s = g.S.Reads.state c.args.space.now in
    let m = g.S.Reads.state c.own_group.new.space in
    let fault = c.in_err-count_group.field-0.0 in
    let p = err_from_is_err_and c.from_residual-in_err-count_group.result c.from_residual-in_err-count_group.ensures.1 in
    rw (p.1, p.2) (⊎_elim (λ counted. absurd (false≢true (c.in_err-count_group.ensures.counted counted)))
    (λ k. only_breaks s fault (breaks_read s m k.1 fault (c.in_err-count_group.ensures.breaks tells k.0))) (c.in_ok-own.ensures.group tells dense))

pub returns-in_err-own-clause-unwritten : goal.returns-in_err-own-clause-unwritten
returns-in_err-own-clause-unwritten g c = λ tells dense.
    let p = err_from_is_err_and c.from_residual.result c.from_residual.ensures.1 in
    rw (p.1, p.2) c.in_err-own.ensures.unwritten

pub returns-in_err-count_group-clause-unwritten : goal.returns-in_err-count_group-clause-unwritten
returns-in_err-count_group-clause-unwritten g c = λ tells dense.
    let s = g.S.Reads.state c.args.space.now in
    let m = g.S.Reads.state c.own_group.new.space in
    let fault = c.in_err-count_group.field-0.0 in
    let p = err_from_is_err_and c.from_residual-in_err-count_group.result c.from_residual-in_err-count_group.ensures.1 in
    rw (p.1, p.2) (⊎_elim (λ counted. absurd (false≢true (c.in_err-count_group.ensures.counted counted)))
    (λ k. refuses fault _ (then_unwritten s m (g.S.Reads.state c.count_group.new.space) k.1 fault c.in_err-count_group.ensures.unwritten))
    (c.in_ok-own.ensures.group tells dense))

pub returns-in_err-own-clause-cause : goal.returns-in_err-own-clause-cause
returns-in_err-own-clause-cause g c =
    open_cause _ _ _ c.from_residual.result c.in_err-own.field-0.0 (omega arith) c.in_err-own.ensures.cause c.from_residual.ensures.1

pub returns-in_err-count_group-clause-cause : goal.returns-in_err-count_group-clause-cause
returns-in_err-count_group-clause-cause g c =
    fault_cause _ _ _ c.from_residual-in_err-count_group.result c.in_err-count_group.field-0.0 c.in_ok-own.ensures.cause.later
    c.in_err-count_group.ensures.cause c.from_residual-in_err-count_group.ensures.1

pub returns-clause-at : goal.returns-clause-at
returns-clause-at g c = ap (λ (h : Head). h.key.file) c.group_head.ensures.is

-- what is left of other records
pub returns-clause-leaves_others : goal.returns-clause-leaves_others
returns-clause-leaves_others g c = λ tells.
    let m = g.S.Reads.state c.own_group.new.space in
    beside_then _ _ _ c.args.node (c.in_ok-own.ensures.leaves_others tells) (c.in_ok-count_group.ensures.leaves_others tells
    (group_says m.records c.args.node c.in_ok-own.own.row.id (c.in_ok-own.ensures.owns tells).group))

-- ---- the head is the node's, and each node has the heads that it had

pub returns-clause-owns : goal.returns-clause-owns
returns-clause-owns g c = λ tells dense.
    let m = g.S.Reads.state c.own_group.new.space in
    let t = g.S.Reads.state c.count_group.new.space in
    subst (λ (h : Head). IsHeadOf t.records h c.args.node) (sym c.group_head.ensures.is)
    (c.in_ok-count_group.ensures.heads tells _ c.args.node (owned_head m.records c.args.node c.in_ok-own.own.row.id c.args.side
    (c.in_ok-own.ensures.dense tells dense) (group_owned m.records c.args.node c.in_ok-own.own.row.id (c.in_ok-own.ensures.owns tells).group)))

pub returns-clause-heads : goal.returns-clause-heads
returns-clause-heads g c = λ tells.
    heads_then (g.S.Reads.state c.args.space.now) (g.S.Reads.state c.own_group.new.space) (g.S.Reads.state c.count_group.new.space)
    (c.in_ok-own.ensures.heads tells) (c.in_ok-count_group.ensures.heads tells)

pub returns-in_err-own-clause-opened : goal.returns-in_err-own-clause-opened
returns-in_err-own-clause-opened g c _ = never_ok c.from_residual.result _ _ c.from_residual.ensures.1

pub returns-in_err-own-clause-owns : goal.returns-in_err-own-clause-owns
returns-in_err-own-clause-owns g c _ _ = never_ok c.from_residual.result _ _ c.from_residual.ensures.1

pub returns-in_err-own-clause-heads : goal.returns-in_err-own-clause-heads
returns-in_err-own-clause-heads g c _ = never_ok c.from_residual.result _ _ c.from_residual.ensures.1

pub returns-in_err-own-clause-leaves_others : goal.returns-in_err-own-clause-leaves_others
returns-in_err-own-clause-leaves_others g c _ = never_ok c.from_residual.result _ _ c.from_residual.ensures.1

pub returns-in_err-own-clause-at : goal.returns-in_err-own-clause-at
returns-in_err-own-clause-at g c = never_ok c.from_residual.result _ _ c.from_residual.ensures.1

pub returns-in_err-own-clause-head : goal.returns-in_err-own-clause-head
returns-in_err-own-clause-head g c = never_ok c.from_residual.result _ _ c.from_residual.ensures.1

pub returns-in_err-own-clause-own : goal.returns-in_err-own-clause-own
returns-in_err-own-clause-own g c = never_ok c.from_residual.result _ _ c.from_residual.ensures.1

pub returns-in_err-own-clause-wrote : goal.returns-in_err-own-clause-wrote
returns-in_err-own-clause-wrote g c = never_ok c.from_residual.result _ _ c.from_residual.ensures.1

pub returns-in_err-own-clause-onward : goal.returns-in_err-own-clause-onward
returns-in_err-own-clause-onward g c = search rules

pub returns-in_err-count_group-clause-opened : goal.returns-in_err-count_group-clause-opened
returns-in_err-count_group-clause-opened g c _ = never_ok c.from_residual-in_err-count_group.result _ _ c.from_residual-in_err-count_group.ensures.1

pub returns-in_err-count_group-clause-owns : goal.returns-in_err-count_group-clause-owns
returns-in_err-count_group-clause-owns g c _ _ = never_ok c.from_residual-in_err-count_group.result _ _ c.from_residual-in_err-count_group.ensures.1

pub returns-in_err-count_group-clause-heads : goal.returns-in_err-count_group-clause-heads
returns-in_err-count_group-clause-heads g c _ = never_ok c.from_residual-in_err-count_group.result _ _ c.from_residual-in_err-count_group.ensures.1

pub returns-in_err-count_group-clause-leaves_others : goal.returns-in_err-count_group-clause-leaves_others
returns-in_err-count_group-clause-leaves_others g c _ = never_ok c.from_residual-in_err-count_group.result _ _ c.from_residual-in_err-count_group.ensures.1

pub returns-in_err-count_group-clause-at : goal.returns-in_err-count_group-clause-at
returns-in_err-count_group-clause-at g c = never_ok c.from_residual-in_err-count_group.result _ _ c.from_residual-in_err-count_group.ensures.1

pub returns-in_err-count_group-clause-head : goal.returns-in_err-count_group-clause-head
returns-in_err-count_group-clause-head g c = never_ok c.from_residual-in_err-count_group.result _ _ c.from_residual-in_err-count_group.ensures.1

pub returns-in_err-count_group-clause-own : goal.returns-in_err-count_group-clause-own
returns-in_err-count_group-clause-own g c = never_ok c.from_residual-in_err-count_group.result _ _ c.from_residual-in_err-count_group.ensures.1

pub returns-in_err-count_group-clause-wrote : goal.returns-in_err-count_group-clause-wrote
returns-in_err-count_group-clause-wrote g c = never_ok c.from_residual-in_err-count_group.result _ _ c.from_residual-in_err-count_group.ensures.1

pub returns-in_err-count_group-clause-onward : goal.returns-in_err-count_group-clause-onward
returns-in_err-count_group-clause-onward g c =
    g.met.S.Reads.further_onward _ _ _ c.in_ok-own.ensures.onward c.in_err-count_group.ensures.onward

-- ---- which record is named

pub returns-in_err-own-clause-names : goal.returns-in_err-own-clause-names
returns-in_err-own-clause-names g c = λ tells.
    let p = err_from_is_err_and c.from_residual.result c.from_residual.ensures.1 in
    rw (p.1, p.2) (c.in_err-own.ensures.names tells)

pub returns-in_err-count_group-clause-names : goal.returns-in_err-count_group-clause-names
returns-in_err-count_group-clause-names g c = λ tells.
    let p = err_from_is_err_and c.from_residual-in_err-count_group.result c.from_residual-in_err-count_group.ensures.1 in
    rw (p.1, p.2) (count_named (g.S.Reads.state c.args.space.now) c.args.node c.in_ok-own.own.row.id c.in_err-count_group.field-0.0
    (c.in_err-count_group.ensures.names tells))

-- ---- of a node that became dense no node is named

pub returns-in_err-own-clause-listed : goal.returns-in_err-own-clause-listed
returns-in_err-own-clause-listed g c = λ tells dense h.
    let p = err_from_is_err_and c.from_residual.result c.from_residual.ensures.1 in
    rw (p.1, p.2) (c.in_err-own.ensures.listed tells dense h)

pub returns-in_err-count_group-clause-listed : goal.returns-in_err-count_group-clause-listed
returns-in_err-count_group-clause-listed g c = λ tells dense h.
    absurd (false≢true (c.in_err-count_group.ensures.counted (c.in_ok-own.ensures.list tells h).1))

-- ---- the free list of the groups

pub returns-in_err-own-clause-metas : goal.returns-in_err-own-clause-metas
returns-in_err-own-clause-metas g c = λ tells.
    let p = err_from_is_err_and c.from_residual.result c.from_residual.ensures.1 in
    rw (p.1, p.2) (c.in_err-own.ensures.metas tells)

pub returns-in_err-count_group-clause-metas : goal.returns-in_err-count_group-clause-metas
returns-in_err-count_group-clause-metas g c = λ tells.
    let p = err_from_is_err_and c.from_residual-in_err-count_group.result c.from_residual-in_err-count_group.ensures.1 in
    rw (p.1, p.2) (count_metas 1 (g.S.Reads.state c.args.space.now) (g.S.Reads.state c.count_group.new.space) c.args.node c.in_ok-own.own.row.id
    c.in_err-count_group.field-0.0 (c.in_err-count_group.ensures.names tells))

pub returns-clause-lists : goal.returns-clause-lists
returns-clause-lists g c = λ tells.
    harms_none_then (g.S.Reads.state c.args.space.now) (g.S.Reads.state c.own_group.new.space) (g.S.Reads.state c.count_group.new.space) groups_file
    (c.in_ok-own.ensures.lists tells) (c.in_ok-count_group.ensures.lists tells
    (group_owned _ c.args.node c.in_ok-own.own.row.id (c.in_ok-own.ensures.owns tells).group).used)

pub returns-in_err-own-clause-lists : goal.returns-in_err-own-clause-lists
returns-in_err-own-clause-lists g c _ = never_ok c.from_residual.result _ _ c.from_residual.ensures.1

pub returns-in_err-count_group-clause-lists : goal.returns-in_err-count_group-clause-lists
returns-in_err-count_group-clause-lists g c _ = never_ok c.from_residual-in_err-count_group.result _ _ c.from_residual-in_err-count_group.ensures.1

-- ---- a group that is named

pub returns-in_err-own-clause-groups : goal.returns-in_err-own-clause-groups
returns-in_err-own-clause-groups g c = λ tells h.
    let p = err_from_is_err_and c.from_residual.result c.from_residual.ensures.1 in
    rw (p.1, p.2) (c.in_err-own.ensures.groups tells)

pub returns-in_err-count_group-clause-groups : goal.returns-in_err-count_group-clause-groups
returns-in_err-count_group-clause-groups g c = λ tells h.
    absurd (false≢true (c.in_err-count_group.ensures.counted (c.in_ok-own.ensures.list tells h.list).1))

pub returns-in_err-own-clause-others : goal.returns-in_err-own-clause-others
returns-in_err-own-clause-others g c = λ tells dense.
    let s = g.S.Reads.state c.args.space.now in
    let p = err_from_is_err_and c.from_residual.result c.from_residual.ensures.1 in
    rw (p.1, p.2) (apart_no_other s (g.S.Reads.state c.own_group.new.space) c.args.node c.in_err-own.field-0.0 (c.in_err-own.ensures.groups tells))

pub returns-in_err-count_group-clause-others : goal.returns-in_err-count_group-clause-others
returns-in_err-count_group-clause-others g c = λ tells dense.
    let s = g.S.Reads.state c.args.space.now in
    let m = g.S.Reads.state c.own_group.new.space in
    let fault = c.in_err-count_group.field-0.0 in
    let id = c.in_ok-own.own.row.id in
    let p = err_from_is_err_and c.from_residual-in_err-count_group.result c.from_residual-in_err-count_group.ensures.1 in
    rw (p.1, p.2) (⊎_elim (λ counted. absurd (false≢true (c.in_err-count_group.ensures.counted counted)))
    (λ k. count_no_other s c.args.node id (group_says s.records c.args.node id (subst (λ (q : State). IsGroupOf q.records c.args.node id) k.1 k.0.member)) fault
    (c.in_err-count_group.ensures.names tells)) (c.in_ok-own.ensures.group tells dense))

-- ---- where the chain of the head begins

pub returns-clause-reaches : goal.returns-clause-reaches
returns-clause-reaches g c = λ tells.
    let s = g.S.Reads.state c.args.space.now in
    let m = g.S.Reads.state c.own_group.new.space in
    let t = g.S.Reads.state c.count_group.new.space in
    let node = c.args.node in
    let own = c.in_ok-own.own in
    let key = c.in_ok-own.ensures.key in
    record {
      dense = λ dense. own_head s.records m.records t.records node own.row.id c.args.side (head_of c.group_head.result) c.group_head.ensures.is
          (c.in_ok-own.ensures.owns tells)
          (counted_or_low m t own.row.id own.row.counted (c.in_ok-count_group.ensures.kept)
          (⊎_elim (λ counted. inl counted) (λ k. c.in_ok-count_group.ensures.low tells k.0) (c.in_ok-own.ensures.group tells dense)));
      spread = λ h.
          let opened = c.in_ok-own.ensures.leads tells h.came h.groups h.leads in
          let first = spread_first m.records node own.row.id h.came (h.groups ++ own.row.id ∷ []) c.args.side opened.0 (in_last own.row.id h.groups)
          (λ e. omega (arith, key.id)) (λ x i. low_beside s.records m.records node x (c.in_ok-own.ensures.leaves_others tells) (h.low x i)) in
          subst (λ (q : Head). IsLowLink t.records (first_of t.records q)) (sym c.group_head.ensures.is)
          (subst (λ (q : State). IsLowLink q.records (first_of q.records (group_head own.row.id c.args.side)))
          (sym (c.in_ok-count_group.ensures.kept (c.in_ok-own.ensures.list tells h.list).1)) first);
    }

pub returns-in_err-own-clause-reaches : goal.returns-in_err-own-clause-reaches
returns-in_err-own-clause-reaches g c _ = never_ok c.from_residual.result _ _ c.from_residual.ensures.1

pub returns-in_err-count_group-clause-reaches : goal.returns-in_err-count_group-clause-reaches
returns-in_err-count_group-clause-reaches g c _ = never_ok c.from_residual-in_err-count_group.result _ _ c.from_residual-in_err-count_group.ensures.1

-- ---- how many groups are counted

pub returns-clause-room : goal.returns-clause-room
returns-clause-room g c = λ tells dense.
    let m = g.S.Reads.state c.own_group.new.space in
    let t = g.S.Reads.state c.count_group.new.space in
    let one = c.in_ok-own.ensures.room tells in
    let none = grows_counted m t c.args.node c.in_ok-own.own.row c.in_ok-count_group.ensures.kept (c.in_ok-count_group.ensures.counts tells)
    (⊎_elim (λ counted. inl counted) (λ k. inr k.0) (c.in_ok-own.ensures.group tells dense)) in
    omega (arith, one, none)

pub returns-in_err-own-clause-room : goal.returns-in_err-own-clause-room
returns-in_err-own-clause-room g c _ _ = never_ok c.from_residual.result _ _ c.from_residual.ensures.1

pub returns-in_err-count_group-clause-room : goal.returns-in_err-count_group-clause-room
returns-in_err-count_group-clause-room g c _ _ = never_ok c.from_residual-in_err-count_group.result _ _ c.from_residual-in_err-count_group.ensures.1
