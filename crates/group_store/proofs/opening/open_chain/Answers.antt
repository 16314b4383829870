use Rattle.std.proofs.Common.{◌≡◌, ◌⊎◌, ◌≤◌, ◌+◌, ℕ, List, ap, sym, ◌∙◌, subst, inl, inr, ⊎_elim, arith, refl, rules}
use Rattle.std.proofs.lemmas.Bool.{false≢true}
use Rattle.std.proofs.lemmas.Result.{err_from_is_err_and}
use Rattle.store_rules.specs.Rules.{Head}
use Rattle.store_rules.specs.Views.{RelRow}
use Rattle.chain_edit.specs.declared.head.Head.{Head as ChainHead}
use Rattle.chain_edit.specs.Heads.{head_of}
use Rattle.group_store.specs.GroupChain.{IsDense}
use Rattle.rec_bytes.specs.Format.{groups_file}
use Rattle.rec_bytes.specs.Space.{SameButReads, State}
use Rattle.node_store.specs.NodeRecord.{node_key}
use Rattle.group_store.specs.Opening.{CanOpen, GrowsAtMost, IsOpenFault, OpensChain, WritesOpened, moved_writes}
use Rattle.group_store.proofs.BrokenGroups.{if_err, node_fault_breaks, only_breaks, open_read}
use Rattle.group_store.proofs.ChainHeads.{same_twice}
use Rattle.group_store.specs.Naming.{NamesAt, NamesFound, NamesMeta}
use Rattle.group_store.proofs.Named.{named_beside, named_read, node_fault_named}
use Rattle.group_store.proofs.OwnGroups.{if_ok}
use Rattle.group_store.proofs.GroupWrites.{opened_more, opened_none}
use Rattle.group_store.proofs.Opens.{dense_beside, dense_can, dense_group_can, dense_group_room, dense_opened}
use Rattle.group_store.proofs.Opens.{dense_opens, dense_room, failed_beside, group_can, group_opened, opens_node}
use Rattle.group_store.proofs.Opens.{room_same, then_opens}
use Rattle.group_store.specs.Densing.{IsSparse}
use Rattle.group_store.proofs.DenseFaults.{broken_then, end_broken, end_opened, not_opened}
use Rattle.group_store.specs.OpenFault.{of_fault}
use Rattle.group_store.proofs.OpenFaults.{fault_cause, if_refusal, on_refusal, open_cause}
use Rattle.group_store.proofs.LeftBeside.{beside_read, beside_then, if_done, later_beside}
use Rattle.group_store.specs.Leaving.{KeepsHeads, KeepsOrLeads, KeepsOtherHeads, LeavesBeside}
use Rattle.store_rules.specs.Breaking.{IsHeadOf}
use Rattle.group_store.proofs.KeptHeads.{heads_same, heads_then}
use Rattle.group_store.proofs.MadeHeads.{others_of, others_then}
use Rattle.rec_bytes.proofs.Causes.{never_ok}
use Rattle.rec_bytes.specs.declared.key.Key.{Key}
use Rattle.group_store.proofs.LowHeads.{kept_head}
use Rattle.group_store.proofs.Strangers.{found_apart, found_read, found_spread, found_unwritten, node_fault_apart}
use Rattle.id_freelist.specs.ListDamage.{HarmsNoList}
use Rattle.id_freelist.proofs.ListSteps.{harms_none_then, reads_harm_none}
use Rattle.group_store.proofs.GroupMetas.{grows_read, metas_more, metas_read, metas_then, node_fault_metas}
use Rattle.group_store.proofs.opening.open_chain.Goals as goal

pub returns-then-branch-clause-opened : goal.returns-then-branch-clause-opened
returns-then-branch-clause-opened g c = λ tells.
    let s = g.S.Reads.state c.args.space.now in
    let z = g.S.Reads.state c.is_dense.new.space in
    let t = g.S.Reads.state c.open_group.new.space in
    let same = c.in_ok-is_dense.ensures.state in
    let dense = (c.in_ok-is_dense.ensures.is tells).0 c.if-branch.true in
    if_ok c.open_group.result _ (λ (head : ChainHead). (row : RelRow) (empty : List ℕ) → CanOpen s c.args.node c.args.degree c.args.threshold c.args.label
    c.args.side row empty → OpensChain s t (head_of head) c.args.node row empty)
    (λ head f row empty can. then_opens s z same c.args.node c.args.degree c.args.threshold c.args.label c.args.side row empty can t (head_of head)
    (f row empty (group_can s z same c.args.node c.args.degree c.args.threshold c.args.label c.args.side row empty can dense))) (c.open_group.ensures.opened
    tells)

pub returns-then-branch-clause-not_damaged : goal.returns-then-branch-clause-not_damaged
returns-then-branch-clause-not_damaged g c = λ tells row empty can room.
    let s = g.S.Reads.state c.args.space.now in
    let z = g.S.Reads.state c.is_dense.new.space in
    let same = c.in_ok-is_dense.ensures.state in
    let dense = (c.in_ok-is_dense.ensures.is tells).0 c.if-branch.true in
    c.open_group.ensures.not_damaged tells row empty
    (group_can s z same c.args.node c.args.degree c.args.threshold c.args.label c.args.side row empty can dense)
    (room_same s z same c.args.node c.args.degree c.args.threshold c.args.label c.args.side row empty can room)

pub returns-then-degree-threshold-clause-opened : goal.returns-then-degree-threshold-clause-opened
returns-then-degree-threshold-clause-opened g c = λ tells row empty can.
    let s = g.S.Reads.state c.args.space.now in
    let z = g.S.Reads.state c.is_dense.new.space in
    let same = c.in_ok-is_dense.ensures.state in
    let thin : ¬ IsDense s.records c.args.node = λ d. false≢true (sym c.if-branch.false ∙ (c.in_ok-is_dense.ensures.is tells).1 d) in
    subst (λ (h : Head). OpensChain s z h c.args.node row empty) (sym c.node_head.ensures.is)
    (opens_node s z same c.args.node c.args.degree c.args.threshold c.args.label c.args.side row empty can thin c.if-degree-threshold.true)

pub returns-in_err-make_dense-clause-not_damaged : goal.returns-in_err-make_dense-clause-not_damaged
returns-in_err-make_dense-clause-not_damaged g c = λ tells row empty can room.
    let s = g.S.Reads.state c.args.space.now in
    let z = g.S.Reads.state c.is_dense.new.space in
    let same = c.in_ok-is_dense.ensures.state in
    let thin : ¬ IsDense s.records c.args.node = λ d. false≢true (sym c.if-branch.false ∙ (c.in_ok-is_dense.ensures.is tells).1 d) in
    let p = err_from_is_err_and c.from_residual-in_err-make_dense.result c.from_residual-in_err-make_dense.ensures.1 in
    rw (p.1, p.2) (c.in_err-make_dense.ensures.not_damaged tells s.shape.threshold empty
    (dense_can s z same c.args.node c.args.degree c.args.threshold c.args.label c.args.side row empty can thin)
    (dense_room s z same c.args.node c.args.degree c.args.threshold c.args.label c.args.side row empty can thin room))

pub returns-in_err-make_dense-clause-writes : goal.returns-in_err-make_dense-clause-writes
returns-in_err-make_dense-clause-writes g c =
    let s = g.S.Reads.state c.args.space.now in
    let z = g.S.Reads.state c.is_dense.new.space in
    let u = g.S.Reads.state c.make_dense.new.space in
    failed_beside s z u c.args.node c.args.threshold c.args.degree c.in_ok-is_dense.ensures.state u c.if-degree-threshold.false c.make_dense.ensures.writes

pub returns-clause-opened : goal.returns-clause-opened
returns-clause-opened g c = λ tells.
    let s = g.S.Reads.state c.args.space.now in
    let z = g.S.Reads.state c.is_dense.new.space in
    let u = g.S.Reads.state c.make_dense.new.space in
    let t = g.S.Reads.state c.open_group-2.new.space in
    let same = c.in_ok-is_dense.ensures.state in
    let thin : ¬ IsDense s.records c.args.node = λ d. false≢true (sym c.if-branch.false ∙ (c.in_ok-is_dense.ensures.is tells).1 d) in
    if_ok c.open_group-2.result _ (λ (head : ChainHead). (row : RelRow) (empty : List ℕ) → CanOpen s c.args.node c.args.degree c.args.threshold c.args.label
    c.args.side row empty → OpensChain s t (head_of head) c.args.node row empty)
    (λ head f row empty can.
    let becomes = c.in_ok-make_dense.ensures.made tells s.shape.threshold empty
    (dense_can s z same c.args.node c.args.degree c.args.threshold c.args.label c.args.side row empty can thin) in
    dense_opens s z same c.args.node c.args.degree c.args.threshold c.args.label c.args.side row empty can u becomes t (head_of head)
    (f row empty (dense_group_can s z same c.args.node c.args.degree c.args.threshold c.args.label c.args.side row empty can u becomes)))
    (c.open_group-2.ensures.opened tells)

pub returns-clause-not_damaged : goal.returns-clause-not_damaged
returns-clause-not_damaged g c = λ tells row empty can room.
    let s = g.S.Reads.state c.args.space.now in
    let z = g.S.Reads.state c.is_dense.new.space in
    let u = g.S.Reads.state c.make_dense.new.space in
    let same = c.in_ok-is_dense.ensures.state in
    let thin : ¬ IsDense s.records c.args.node = λ d. false≢true (sym c.if-branch.false ∙ (c.in_ok-is_dense.ensures.is tells).1 d) in
    let becomes = c.in_ok-make_dense.ensures.made tells s.shape.threshold empty
    (dense_can s z same c.args.node c.args.degree c.args.threshold c.args.label c.args.side row empty can thin) in
    c.open_group-2.ensures.not_damaged tells row empty
    (dense_group_can s z same c.args.node c.args.degree c.args.threshold c.args.label c.args.side row empty can u
    becomes)
    (dense_group_room s z same c.args.node c.args.degree c.args.threshold c.args.label c.args.side row empty can u becomes room)

pub returns-clause-writes : goal.returns-clause-writes
returns-clause-writes g c =
    let s = g.S.Reads.state c.args.space.now in
    let z = g.S.Reads.state c.is_dense.new.space in
    let u = g.S.Reads.state c.make_dense.new.space in
    dense_beside s z (g.S.Reads.state c.open_group-2.new.space) c.args.node c.args.threshold c.args.degree c.in_ok-is_dense.ensures.state u
    c.if-degree-threshold.false c.in_ok-make_dense.ensures.wrote c.open_group-2.ensures.writes

-- ---- what is written, by the head's own record
pub returns-then-branch-clause-wrote : goal.returns-then-branch-clause-wrote
returns-then-branch-clause-wrote g c =
    let s = g.S.Reads.state c.args.space.now in
    let z = g.S.Reads.state c.is_dense.new.space in
    let t = g.S.Reads.state c.open_group.new.space in
    if_ok c.open_group.result _ (λ (head : ChainHead). WritesOpened s t c.args.node head.key (moved_writes c.args.threshold c.args.degree + 1))
    (λ head w. group_opened s z t c.args.node c.args.threshold c.args.degree c.in_ok-is_dense.ensures.state head.key w) c.open_group.ensures.wrote

pub returns-then-degree-threshold-clause-wrote : goal.returns-then-degree-threshold-clause-wrote
returns-then-degree-threshold-clause-wrote g c =
    let s = g.S.Reads.state c.args.space.now in
    let z = g.S.Reads.state c.is_dense.new.space in
    opened_more (omega arith) (opened_none s z c.args.node c.node_head.result.key c.in_ok-is_dense.ensures.state)

pub returns-clause-wrote : goal.returns-clause-wrote
returns-clause-wrote g c =
    let s = g.S.Reads.state c.args.space.now in
    let z = g.S.Reads.state c.is_dense.new.space in
    let u = g.S.Reads.state c.make_dense.new.space in
    let t = g.S.Reads.state c.open_group-2.new.space in
    if_ok c.open_group-2.result _ (λ (head : ChainHead). WritesOpened s t c.args.node head.key (moved_writes c.args.threshold c.args.degree + 1))
    (λ head w. dense_opened s z t c.args.node c.args.threshold c.args.degree c.in_ok-is_dense.ensures.state u c.if-degree-threshold.false head.key
    c.in_ok-make_dense.ensures.wrote w) c.open_group-2.ensures.wrote

-- ---- damage

pub returns-in_err-is_dense-clause-damaged : goal.returns-in_err-is_dense-clause-damaged
returns-in_err-is_dense-clause-damaged g c = λ tells way.
    let s = g.S.Reads.state c.args.space.now in
    let p = err_from_is_err_and c.from_residual.result c.from_residual.ensures.1 in
    rw (p.1, p.2) (only_breaks s c.in_err-is_dense.field-0.0 (node_fault_breaks s c.args.node c.in_err-is_dense.field-0.0 (c.in_err-is_dense.ensures.damaged
    tells)))

pub returns-then-branch-clause-damaged : goal.returns-then-branch-clause-damaged
returns-then-branch-clause-damaged g c = λ tells way.
    let s = g.S.Reads.state c.args.space.now in
    let z = g.S.Reads.state c.is_dense.new.space in
    let same = c.in_ok-is_dense.ensures.state in
    let dense = subst (λ (q : State). IsDense q.records c.args.node) (sym same) ((c.in_ok-is_dense.ensures.is tells).0 c.if-branch.true) in
    if_err c.open_group.result (IsOpenFault z) (IsOpenFault s) (open_read s z same) (c.open_group.ensures.damaged tells dense)

pub returns-in_err-make_dense-clause-damaged : goal.returns-in_err-make_dense-clause-damaged
returns-in_err-make_dense-clause-damaged g c = λ tells way.
    absurd (⊎_elim (λ d. false≢true (sym c.if-branch.false ∙ (c.in_ok-is_dense.ensures.is tells).1 d)) (λ ne. ne c.if-degree-threshold.false) way)

pub returns-clause-damaged : goal.returns-clause-damaged
returns-clause-damaged g c = λ tells way.
    absurd (⊎_elim (λ d. false≢true (sym c.if-branch.false ∙ (c.in_ok-is_dense.ensures.is tells).1 d)) (λ ne. ne c.if-degree-threshold.false) way)

-- nothing is written where the node doesn't become dense
pub returns-in_err-is_dense-clause-unwritten : goal.returns-in_err-is_dense-clause-unwritten
returns-in_err-is_dense-clause-unwritten g c = λ tells way. on_refusal c.from_residual.result _ c.is_dense.ensures.state

pub returns-then-branch-clause-unwritten : goal.returns-then-branch-clause-unwritten
returns-then-branch-clause-unwritten g c = λ tells way.
    let s = g.S.Reads.state c.args.space.now in
    let z = g.S.Reads.state c.is_dense.new.space in
    let t = g.S.Reads.state c.open_group.new.space in
    let dense = subst (λ (q : State). IsDense q.records c.args.node) (sym c.in_ok-is_dense.ensures.state)
    ((c.in_ok-is_dense.ensures.is tells).0 c.if-branch.true) in
    if_refusal c.open_group.result (SameButReads z t) (SameButReads s t) (λ k. same_twice s z t c.in_ok-is_dense.ensures.state k)
    (c.open_group.ensures.unwritten tells dense)

pub returns-in_err-make_dense-clause-unwritten : goal.returns-in_err-make_dense-clause-unwritten
returns-in_err-make_dense-clause-unwritten g c = λ tells way.
    absurd (⊎_elim (λ d. false≢true (sym c.if-branch.false ∙ (c.in_ok-is_dense.ensures.is tells).1 d)) (λ ne. ne c.if-degree-threshold.false) way)

pub returns-clause-unwritten : goal.returns-clause-unwritten
returns-clause-unwritten g c = λ tells way.
    absurd (⊎_elim (λ d. false≢true (sym c.if-branch.false ∙ (c.in_ok-is_dense.ensures.is tells).1 d)) (λ ne. ne c.if-degree-threshold.false) way)

pub returns-in_err-is_dense-clause-blames : goal.returns-in_err-is_dense-clause-blames
returns-in_err-is_dense-clause-blames g c = λ tells way le.
    let s = g.S.Reads.state c.args.space.now in
    let z = g.S.Reads.state c.is_dense.new.space in
    let fault = c.in_err-is_dense.field-0.0 in
    let p = err_from_is_err_and c.from_residual.result c.from_residual.ensures.1 in
    rw (p.1, p.2) (broken_then s z c.args.node fault c.is_dense.ensures.state (node_fault_breaks s c.args.node fault (c.in_err-is_dense.ensures.damaged tells)))

pub returns-then-branch-clause-blames : goal.returns-then-branch-clause-blames
returns-then-branch-clause-blames g c = λ tells way le.
    let z = g.S.Reads.state c.is_dense.new.space in
    let dense = subst (λ (q : State). IsDense q.records c.args.node) (sym c.in_ok-is_dense.ensures.state)
    ((c.in_ok-is_dense.ensures.is tells).0 c.if-branch.true) in
    not_opened z (g.S.Reads.state c.open_group.new.space) c.open_group.result (c.open_group.ensures.damaged tells dense)
    (c.open_group.ensures.unwritten tells dense)

pub returns-in_err-make_dense-clause-blames : goal.returns-in_err-make_dense-clause-blames
returns-in_err-make_dense-clause-blames g c = λ tells way le.
    let same = c.in_ok-is_dense.ensures.state in
    let thin = ⊎_elim (λ d. absurd (false≢true (sym c.if-branch.false ∙ (c.in_ok-is_dense.ensures.is tells).1 d))) (λ sparse. sparse) way in
    let p = err_from_is_err_and c.from_residual-in_err-make_dense.result c.from_residual-in_err-make_dense.ensures.1 in
    rw (p.1, p.2) (c.in_err-make_dense.ensures.damaged tells
    (subst (λ (q : State). IsSparse q.records c.args.node) (sym same) thin) (subst (λ (q : State). q.shape.threshold ≤ c.args.threshold) (sym same) le))

pub returns-clause-blames : goal.returns-clause-blames
returns-clause-blames g c = λ tells way le.
    let u = g.S.Reads.state c.make_dense.new.space in
    let dense = c.in_ok-make_dense.ensures.dense tells in
    not_opened u (g.S.Reads.state c.open_group-2.new.space) c.open_group-2.result (c.open_group-2.ensures.damaged tells dense)
    (c.open_group-2.ensures.unwritten tells dense)

pub returns-in_err-is_dense-clause-cause : goal.returns-in_err-is_dense-clause-cause
returns-in_err-is_dense-clause-cause g c =
    fault_cause _ _ _ c.from_residual.result c.in_err-is_dense.field-0.0 (omega arith) c.in_err-is_dense.ensures.cause c.from_residual.ensures.1

pub returns-in_err-make_dense-clause-cause : goal.returns-in_err-make_dense-clause-cause
returns-in_err-make_dense-clause-cause g c =
    open_cause _ _ _ c.from_residual-in_err-make_dense.result c.in_err-make_dense.field-0.0 c.in_ok-is_dense.ensures.cause.later
    c.in_err-make_dense.ensures.cause c.from_residual-in_err-make_dense.ensures.1

-- ---- what is told by the space as it is then, and where the head is

pub returns-in_err-is_dense-clause-told : goal.returns-in_err-is_dense-clause-told
returns-in_err-is_dense-clause-told g c = λ tells le.
    let s = g.S.Reads.state c.args.space.now in
    let z = g.S.Reads.state c.is_dense.new.space in
    let fault = c.in_err-is_dense.field-0.0 in
    let p = err_from_is_err_and c.from_residual.result c.from_residual.ensures.1 in
    rw (p.1, p.2) (end_broken s z c.args.node fault c.is_dense.ensures.state (node_fault_breaks s c.args.node fault (c.in_err-is_dense.ensures.damaged tells)))

pub returns-then-branch-clause-told : goal.returns-then-branch-clause-told
returns-then-branch-clause-told g c = λ tells le.
    let z = g.S.Reads.state c.is_dense.new.space in
    let dense = subst (λ (q : State). IsDense q.records c.args.node) (sym c.in_ok-is_dense.ensures.state)
    ((c.in_ok-is_dense.ensures.is tells).0 c.if-branch.true) in
    end_opened z (g.S.Reads.state c.open_group.new.space) c.args.node c.open_group.result (c.open_group.ensures.damaged tells dense)
    (c.open_group.ensures.unwritten tells dense)

pub returns-in_err-make_dense-clause-told : goal.returns-in_err-make_dense-clause-told
returns-in_err-make_dense-clause-told g c = λ tells le.
    let same = c.in_ok-is_dense.ensures.state in
    let p = err_from_is_err_and c.from_residual-in_err-make_dense.result c.from_residual-in_err-make_dense.ensures.1 in
    rw (p.1, p.2) (c.in_err-make_dense.ensures.told tells
    (λ d. false≢true (sym c.if-branch.false ∙ (c.in_ok-is_dense.ensures.is tells).1 (subst (λ (q : State). IsDense q.records c.args.node) same d)))
    (subst (λ (q : State). q.shape.threshold ≤ c.args.threshold) (sym same) le))

pub returns-clause-told : goal.returns-clause-told
returns-clause-told g c = λ tells le.
    let dense = c.in_ok-make_dense.ensures.dense tells in
    end_opened (g.S.Reads.state c.make_dense.new.space) (g.S.Reads.state c.open_group-2.new.space) c.args.node c.open_group-2.result
    (c.open_group-2.ensures.damaged tells dense) (c.open_group-2.ensures.unwritten tells dense)

pub returns-then-branch-clause-at : goal.returns-then-branch-clause-at
returns-then-branch-clause-at g c = if_ok c.open_group.result _ (λ (head : ChainHead). (head.key ≡ node_key c.args.node) ⊎ (head.key.file ≡ groups_file))
    (λ head is. inr is) c.open_group.ensures.at

pub returns-then-degree-threshold-clause-at : goal.returns-then-degree-threshold-clause-at
returns-then-degree-threshold-clause-at g c = inl (ap (λ (h : Head). h.key) c.node_head.ensures.is)

pub returns-clause-at : goal.returns-clause-at
returns-clause-at g c = if_ok c.open_group-2.result _ (λ (head : ChainHead). (head.key ≡ node_key c.args.node) ⊎ (head.key.file ≡ groups_file))
    (λ head is. inr is) c.open_group-2.ensures.at

-- ---- what is left of other records

pub returns-in_err-is_dense-clause-stays : goal.returns-in_err-is_dense-clause-stays
returns-in_err-is_dense-clause-stays g c = λ tells. on_refusal c.from_residual.result _
    (beside_read (g.S.Reads.state c.args.space.now) (g.S.Reads.state c.is_dense.new.space) c.args.node c.is_dense.ensures.state)

pub returns-then-branch-clause-leaves_others : goal.returns-then-branch-clause-leaves_others
returns-then-branch-clause-leaves_others g c = λ tells.
    let s = g.S.Reads.state c.args.space.now in
    let z = g.S.Reads.state c.is_dense.new.space in
    let t = g.S.Reads.state c.open_group.new.space in
    if_done c.open_group.result (LeavesBeside z.records t.records c.args.node) (LeavesBeside s.records t.records c.args.node)
    (λ k. beside_then s.records z.records t.records c.args.node (beside_read s z c.args.node c.in_ok-is_dense.ensures.state) k)
    (c.open_group.ensures.leaves_others tells)

pub returns-then-branch-clause-stays : goal.returns-then-branch-clause-stays
returns-then-branch-clause-stays g c = λ tells.
    let s = g.S.Reads.state c.args.space.now in
    let z = g.S.Reads.state c.is_dense.new.space in
    let t = g.S.Reads.state c.open_group.new.space in
    let dense = subst (λ (q : State). IsDense q.records c.args.node) (sym c.in_ok-is_dense.ensures.state)
    ((c.in_ok-is_dense.ensures.is tells).0 c.if-branch.true) in
    if_refusal c.open_group.result (SameButReads z t) (LeavesBeside s.records t.records c.args.node)
    (λ k. beside_then s.records z.records t.records c.args.node (beside_read s z c.args.node c.in_ok-is_dense.ensures.state) (beside_read z t c.args.node k))
    (c.open_group.ensures.unwritten tells dense)

pub returns-then-degree-threshold-clause-leaves_others : goal.returns-then-degree-threshold-clause-leaves_others
returns-then-degree-threshold-clause-leaves_others g c = λ tells. beside_read (g.S.Reads.state c.args.space.now)
    (g.S.Reads.state c.is_dense.new.space) c.args.node
    c.in_ok-is_dense.ensures.state

pub returns-in_err-make_dense-clause-stays : goal.returns-in_err-make_dense-clause-stays
returns-in_err-make_dense-clause-stays g c = λ tells.
    let s = g.S.Reads.state c.args.space.now in
    let z = g.S.Reads.state c.is_dense.new.space in
    let p = err_from_is_err_and c.from_residual-in_err-make_dense.result c.from_residual-in_err-make_dense.ensures.1 in
    rw (p.1, p.2) (later_beside s.records z.records (g.S.Reads.state c.make_dense.new.space).records c.args.node
    (beside_read s z c.args.node c.in_ok-is_dense.ensures.state) c.in_err-make_dense.field-0.0 (c.in_err-make_dense.ensures.stays tells))

pub returns-clause-leaves_others : goal.returns-clause-leaves_others
returns-clause-leaves_others g c = λ tells.
    let s = g.S.Reads.state c.args.space.now in
    let z = g.S.Reads.state c.is_dense.new.space in
    let u = g.S.Reads.state c.make_dense.new.space in
    let t = g.S.Reads.state c.open_group-2.new.space in
    let first = beside_then s.records z.records u.records c.args.node (beside_read s z c.args.node c.in_ok-is_dense.ensures.state)
    (c.in_ok-make_dense.ensures.leaves_others tells) in
    if_done c.open_group-2.result (LeavesBeside u.records t.records c.args.node) (LeavesBeside s.records t.records c.args.node)
    (λ k. beside_then s.records u.records t.records c.args.node first k) (c.open_group-2.ensures.leaves_others tells)

pub returns-clause-stays : goal.returns-clause-stays
returns-clause-stays g c = λ tells.
    let s = g.S.Reads.state c.args.space.now in
    let z = g.S.Reads.state c.is_dense.new.space in
    let u = g.S.Reads.state c.make_dense.new.space in
    let t = g.S.Reads.state c.open_group-2.new.space in
    let first = beside_then s.records z.records u.records c.args.node (beside_read s z c.args.node c.in_ok-is_dense.ensures.state)
    (c.in_ok-make_dense.ensures.leaves_others tells) in
    if_refusal c.open_group-2.result (SameButReads u t) (LeavesBeside s.records t.records c.args.node)
    (λ k. beside_then s.records u.records t.records c.args.node first (beside_read u t c.args.node k))
    (c.open_group-2.ensures.unwritten tells (c.in_ok-make_dense.ensures.dense tells))

-- ---- the head is the node's, and other nodes have their heads still

pub returns-then-branch-clause-owns : goal.returns-then-branch-clause-owns
returns-then-branch-clause-owns g c = λ tells way.
    c.open_group.ensures.owns tells (subst (λ (q : State). IsDense q.records c.args.node) (sym c.in_ok-is_dense.ensures.state)
    ((c.in_ok-is_dense.ensures.is tells).0 c.if-branch.true))

pub returns-then-degree-threshold-clause-owns : goal.returns-then-degree-threshold-clause-owns
returns-then-degree-threshold-clause-owns g c = λ tells way.
    let z = g.S.Reads.state c.is_dense.new.space in
    let sparse = ⊎_elim (λ d. absurd (false≢true (sym c.if-branch.false ∙ (c.in_ok-is_dense.ensures.is tells).1 d))) (λ k. k) way in
    subst (λ (h : Head). IsHeadOf z.records h c.args.node) (sym c.node_head.ensures.is)
    (inl (record { sparse = subst (λ (q : State). IsSparse q.records c.args.node) (sym c.in_ok-is_dense.ensures.state) sparse; is = refl }))

pub returns-clause-owns : goal.returns-clause-owns
returns-clause-owns g c = λ tells way. c.open_group-2.ensures.owns tells (c.in_ok-make_dense.ensures.dense tells)

pub returns-then-branch-clause-heads : goal.returns-then-branch-clause-heads
returns-then-branch-clause-heads g c = λ tells.
    let s = g.S.Reads.state c.args.space.now in
    let z = g.S.Reads.state c.is_dense.new.space in
    let t = g.S.Reads.state c.open_group.new.space in
    if_done c.open_group.result (KeepsHeads z t) (KeepsOtherHeads s t c.args.node)
    (λ k. others_of s t c.args.node (heads_then s z t (heads_same s z c.in_ok-is_dense.ensures.state) k)) (c.open_group.ensures.heads tells)

pub returns-then-degree-threshold-clause-heads : goal.returns-then-degree-threshold-clause-heads
returns-then-degree-threshold-clause-heads g c = λ tells.
    let s = g.S.Reads.state c.args.space.now in
    let z = g.S.Reads.state c.is_dense.new.space in
    others_of s z c.args.node (heads_same s z c.in_ok-is_dense.ensures.state)

pub returns-clause-heads : goal.returns-clause-heads
returns-clause-heads g c = λ tells.
    let s = g.S.Reads.state c.args.space.now in
    let z = g.S.Reads.state c.is_dense.new.space in
    let u = g.S.Reads.state c.make_dense.new.space in
    let t = g.S.Reads.state c.open_group-2.new.space in
    if_done c.open_group-2.result (KeepsHeads u t) (KeepsOtherHeads s t c.args.node)
    (λ k. others_then s u t c.args.node (λ h n ne o. c.in_ok-make_dense.ensures.heads tells h n ne (heads_same s z c.in_ok-is_dense.ensures.state h n o)) k)
    (c.open_group-2.ensures.heads tells)

pub returns-in_err-is_dense-clause-opened : goal.returns-in_err-is_dense-clause-opened
returns-in_err-is_dense-clause-opened g c _ = never_ok c.from_residual.result _ _ c.from_residual.ensures.1

pub returns-in_err-is_dense-clause-owns : goal.returns-in_err-is_dense-clause-owns
returns-in_err-is_dense-clause-owns g c _ _ = never_ok c.from_residual.result _ _ c.from_residual.ensures.1

pub returns-in_err-is_dense-clause-heads : goal.returns-in_err-is_dense-clause-heads
returns-in_err-is_dense-clause-heads g c _ = never_ok c.from_residual.result _ _ c.from_residual.ensures.1

pub returns-in_err-is_dense-clause-leaves_others : goal.returns-in_err-is_dense-clause-leaves_others
returns-in_err-is_dense-clause-leaves_others g c _ = never_ok c.from_residual.result _ _ c.from_residual.ensures.1

pub returns-in_err-is_dense-clause-at : goal.returns-in_err-is_dense-clause-at
returns-in_err-is_dense-clause-at g c = never_ok c.from_residual.result _ _ c.from_residual.ensures.1

pub returns-in_err-is_dense-clause-head : goal.returns-in_err-is_dense-clause-head
returns-in_err-is_dense-clause-head g c = never_ok c.from_residual.result _ _ c.from_residual.ensures.1

pub returns-in_err-is_dense-clause-own : goal.returns-in_err-is_dense-clause-own
returns-in_err-is_dense-clause-own g c = never_ok c.from_residual.result _ _ c.from_residual.ensures.1

pub returns-in_err-is_dense-clause-wrote : goal.returns-in_err-is_dense-clause-wrote
returns-in_err-is_dense-clause-wrote g c = never_ok c.from_residual.result _ _ c.from_residual.ensures.1

pub returns-in_err-is_dense-clause-onward : goal.returns-in_err-is_dense-clause-onward
returns-in_err-is_dense-clause-onward g c = search rules

pub returns-in_err-make_dense-clause-opened : goal.returns-in_err-make_dense-clause-opened
returns-in_err-make_dense-clause-opened g c _ = never_ok c.from_residual-in_err-make_dense.result _ _ c.from_residual-in_err-make_dense.ensures.1

pub returns-in_err-make_dense-clause-owns : goal.returns-in_err-make_dense-clause-owns
returns-in_err-make_dense-clause-owns g c _ _ = never_ok c.from_residual-in_err-make_dense.result _ _ c.from_residual-in_err-make_dense.ensures.1

pub returns-in_err-make_dense-clause-heads : goal.returns-in_err-make_dense-clause-heads
returns-in_err-make_dense-clause-heads g c _ = never_ok c.from_residual-in_err-make_dense.result _ _ c.from_residual-in_err-make_dense.ensures.1

pub returns-in_err-make_dense-clause-leaves_others : goal.returns-in_err-make_dense-clause-leaves_others
returns-in_err-make_dense-clause-leaves_others g c _ = never_ok c.from_residual-in_err-make_dense.result _ _ c.from_residual-in_err-make_dense.ensures.1

pub returns-in_err-make_dense-clause-at : goal.returns-in_err-make_dense-clause-at
returns-in_err-make_dense-clause-at g c = never_ok c.from_residual-in_err-make_dense.result _ _ c.from_residual-in_err-make_dense.ensures.1

pub returns-in_err-make_dense-clause-head : goal.returns-in_err-make_dense-clause-head
returns-in_err-make_dense-clause-head g c = never_ok c.from_residual-in_err-make_dense.result _ _ c.from_residual-in_err-make_dense.ensures.1

pub returns-in_err-make_dense-clause-own : goal.returns-in_err-make_dense-clause-own
returns-in_err-make_dense-clause-own g c = never_ok c.from_residual-in_err-make_dense.result _ _ c.from_residual-in_err-make_dense.ensures.1

pub returns-in_err-make_dense-clause-wrote : goal.returns-in_err-make_dense-clause-wrote
returns-in_err-make_dense-clause-wrote g c = never_ok c.from_residual-in_err-make_dense.result _ _ c.from_residual-in_err-make_dense.ensures.1

pub returns-in_err-make_dense-clause-onward : goal.returns-in_err-make_dense-clause-onward
returns-in_err-make_dense-clause-onward g c =
    g.met.S.Reads.further_onward _ _ _ c.in_ok-is_dense.ensures.onward c.in_err-make_dense.ensures.onward

-- ---- which record is named

pub returns-in_err-is_dense-clause-names : goal.returns-in_err-is_dense-clause-names
returns-in_err-is_dense-clause-names g c = λ tells.
    let s = g.S.Reads.state c.args.space.now in
    let p = err_from_is_err_and c.from_residual.result c.from_residual.ensures.1 in
    rw (p.1, p.2) (node_fault_named s s c.args.node c.in_err-is_dense.field-0.0 (c.in_err-is_dense.ensures.damaged tells))

pub returns-then-branch-clause-names : goal.returns-then-branch-clause-names
returns-then-branch-clause-names g c = λ tells.
    let s = g.S.Reads.state c.args.space.now in
    let z = g.S.Reads.state c.is_dense.new.space in
    let node = c.args.node in
    if_err c.open_group.result (NamesAt z node) (NamesAt s node) (λ fault. named_read s z node fault c.in_ok-is_dense.ensures.state)
    (c.open_group.ensures.names tells)

pub returns-in_err-make_dense-clause-names : goal.returns-in_err-make_dense-clause-names
returns-in_err-make_dense-clause-names g c = λ tells.
    let s = g.S.Reads.state c.args.space.now in
    let z = g.S.Reads.state c.is_dense.new.space in
    let p = err_from_is_err_and c.from_residual-in_err-make_dense.result c.from_residual-in_err-make_dense.ensures.1 in
    rw (p.1, p.2) (named_read s z c.args.node c.in_err-make_dense.field-0.0 c.in_ok-is_dense.ensures.state (c.in_err-make_dense.ensures.names tells))

pub returns-clause-names : goal.returns-clause-names
returns-clause-names g c = λ tells.
    let s = g.S.Reads.state c.args.space.now in
    let z = g.S.Reads.state c.is_dense.new.space in
    let u = g.S.Reads.state c.make_dense.new.space in
    let node = c.args.node in
    if_err c.open_group-2.result (NamesAt u node) (NamesAt s node)
    (λ fault told. named_read s z node fault c.in_ok-is_dense.ensures.state
    (named_beside z u node (g.met.S.Reads.onward_shape _ _ c.in_ok-make_dense.ensures.onward) (c.in_ok-make_dense.ensures.leaves_others tells) fault told))
    (c.open_group-2.ensures.names tells)

-- ---- a node or a group that is named is as it was found

pub returns-in_err-is_dense-clause-named : goal.returns-in_err-is_dense-clause-named
returns-in_err-is_dense-clause-named g c = λ tells.
    let s = g.S.Reads.state c.args.space.now in
    let p = err_from_is_err_and c.from_residual.result c.from_residual.ensures.1 in
    let z = g.S.Reads.state c.is_dense.new.space in
    rw (p.1, p.2) (found_apart s z c.args.node (of_fault c.in_err-is_dense.field-0.0) c.is_dense.ensures.state
    (node_fault_apart s z s c.args.node c.in_err-is_dense.field-0.0 (c.in_err-is_dense.ensures.damaged tells)))

pub returns-then-branch-clause-named : goal.returns-then-branch-clause-named
returns-then-branch-clause-named g c = λ tells.
    let s = g.S.Reads.state c.args.space.now in
    let z = g.S.Reads.state c.is_dense.new.space in
    let t = g.S.Reads.state c.open_group.new.space in
    let same = c.in_ok-is_dense.ensures.state in
    let dense = subst (λ (q : State). IsDense q.records c.args.node) (sym same) ((c.in_ok-is_dense.ensures.is tells).0 c.if-branch.true) in
    if_err c.open_group.result (NamesFound z t c.args.node) (NamesFound s t c.args.node) (λ fault. found_read s z t c.args.node fault same)
    (found_unwritten z t c.args.node c.open_group.result (c.open_group.ensures.unwritten tells dense) (c.open_group.ensures.others tells dense))

pub returns-in_err-make_dense-clause-named : goal.returns-in_err-make_dense-clause-named
returns-in_err-make_dense-clause-named g c = λ tells.
    let s = g.S.Reads.state c.args.space.now in
    let z = g.S.Reads.state c.is_dense.new.space in
    let p = err_from_is_err_and c.from_residual-in_err-make_dense.result c.from_residual-in_err-make_dense.ensures.1 in
    rw (p.1, p.2) (found_read s z (g.S.Reads.state c.make_dense.new.space) c.args.node c.in_err-make_dense.field-0.0 c.in_ok-is_dense.ensures.state
    (c.in_err-make_dense.ensures.named tells))

pub returns-clause-named : goal.returns-clause-named
returns-clause-named g c = λ tells.
    let s = g.S.Reads.state c.args.space.now in
    let t = g.S.Reads.state c.open_group-2.new.space in
    let z = g.S.Reads.state c.is_dense.new.space in
    let u = g.S.Reads.state c.make_dense.new.space in
    let list = c.in_ok-make_dense.ensures.list tells in
    if_err c.open_group-2.result (NamesFound z t c.args.node) (NamesFound s t c.args.node)
    (λ fault. found_read s z t c.args.node fault c.in_ok-is_dense.ensures.state)
    (found_spread z u t c.args.node c.open_group-2.result (c.in_ok-make_dense.ensures.leaves_others tells) (c.in_ok-make_dense.ensures.lists tells)
    (c.open_group-2.ensures.listed tells (c.in_ok-make_dense.ensures.dense tells) list.list) (c.open_group-2.ensures.groups tells list))

-- ---- where the head is the node's nothing is written

pub returns-then-branch-clause-bare : goal.returns-then-branch-clause-bare
returns-then-branch-clause-bare g c = λ tells.
    let s = g.S.Reads.state c.args.space.now in
    let t = g.S.Reads.state c.open_group.new.space in
    if_ok c.open_group.result _ (λ (head : ChainHead). head.key ≡ node_key c.args.node → SameButReads s t)
    (λ head at e. absurd (let f = ap (λ (k : Key). k.file) e in omega (arith, at, f))) c.open_group.ensures.at

pub returns-then-degree-threshold-clause-bare : goal.returns-then-degree-threshold-clause-bare
returns-then-degree-threshold-clause-bare g c = λ tells e. c.in_ok-is_dense.ensures.state

pub returns-clause-bare : goal.returns-clause-bare
returns-clause-bare g c = λ tells.
    let s = g.S.Reads.state c.args.space.now in
    let t = g.S.Reads.state c.open_group-2.new.space in
    if_ok c.open_group-2.result _ (λ (head : ChainHead). head.key ≡ node_key c.args.node → SameButReads s t)
    (λ head at e. absurd (let f = ap (λ (k : Key). k.file) e in omega (arith, at, f))) c.open_group-2.ensures.at

pub returns-in_err-is_dense-clause-bare : goal.returns-in_err-is_dense-clause-bare
returns-in_err-is_dense-clause-bare g c _ = never_ok c.from_residual.result _ _ c.from_residual.ensures.1

pub returns-in_err-make_dense-clause-bare : goal.returns-in_err-make_dense-clause-bare
returns-in_err-make_dense-clause-bare g c _ = never_ok c.from_residual-in_err-make_dense.result _ _ c.from_residual-in_err-make_dense.ensures.1

-- ---- the free list of the groups

pub returns-in_err-is_dense-clause-metas : goal.returns-in_err-is_dense-clause-metas
returns-in_err-is_dense-clause-metas g c = λ tells.
    let s = g.S.Reads.state c.args.space.now in
    let p = err_from_is_err_and c.from_residual.result c.from_residual.ensures.1 in
    rw (p.1, p.2) (node_fault_metas (c.args.threshold + 1) s (g.S.Reads.state c.is_dense.new.space) s c.args.node c.in_err-is_dense.field-0.0
    (c.in_err-is_dense.ensures.damaged tells))

pub returns-then-branch-clause-metas : goal.returns-then-branch-clause-metas
returns-then-branch-clause-metas g c = λ tells.
    let s = g.S.Reads.state c.args.space.now in
    let z = g.S.Reads.state c.is_dense.new.space in
    let t = g.S.Reads.state c.open_group.new.space in
    if_err c.open_group.result (NamesMeta z t 1) (NamesMeta s t (c.args.threshold + 1))
    (λ fault told. metas_read (c.args.threshold + 1) s z t fault c.in_ok-is_dense.ensures.state
    (metas_more 1 (c.args.threshold + 1) z t fault (omega arith) told)) (c.open_group.ensures.metas tells)

pub returns-in_err-make_dense-clause-metas : goal.returns-in_err-make_dense-clause-metas
returns-in_err-make_dense-clause-metas g c = λ tells.
    let s = g.S.Reads.state c.args.space.now in
    let z = g.S.Reads.state c.is_dense.new.space in
    let t = g.S.Reads.state c.make_dense.new.space in
    let fault = c.in_err-make_dense.field-0.0 in
    let p = err_from_is_err_and c.from_residual-in_err-make_dense.result c.from_residual-in_err-make_dense.ensures.1 in
    rw (p.1, p.2) (metas_read (c.args.threshold + 1) s z t fault c.in_ok-is_dense.ensures.state
    (metas_more c.args.threshold (c.args.threshold + 1) z t fault (omega arith) (c.in_err-make_dense.ensures.metas tells)))

pub returns-clause-metas : goal.returns-clause-metas
returns-clause-metas g c = λ tells.
    let s = g.S.Reads.state c.args.space.now in
    let z = g.S.Reads.state c.is_dense.new.space in
    let u = g.S.Reads.state c.make_dense.new.space in
    let t = g.S.Reads.state c.open_group-2.new.space in
    if_err c.open_group-2.result (NamesMeta u t 1) (NamesMeta s t (c.args.threshold + 1))
    (λ fault told. metas_read (c.args.threshold + 1) s z t fault c.in_ok-is_dense.ensures.state (metas_then c.args.threshold 1 z u t fault
    (g.met.S.Reads.onward_shape _ _ c.in_ok-make_dense.ensures.onward) (c.in_ok-make_dense.ensures.room tells) (c.in_ok-make_dense.ensures.lists tells) told))
    (c.open_group-2.ensures.metas tells)

pub returns-then-branch-clause-lists : goal.returns-then-branch-clause-lists
returns-then-branch-clause-lists g c = λ tells.
    let s = g.S.Reads.state c.args.space.now in
    let z = g.S.Reads.state c.is_dense.new.space in
    let t = g.S.Reads.state c.open_group.new.space in
    if_done c.open_group.result (HarmsNoList z t groups_file) (HarmsNoList s t groups_file)
    (λ harmless. harms_none_then s z t groups_file (reads_harm_none s z groups_file c.in_ok-is_dense.ensures.state) harmless) (c.open_group.ensures.lists tells)

pub returns-then-degree-threshold-clause-lists : goal.returns-then-degree-threshold-clause-lists
returns-then-degree-threshold-clause-lists g c = λ tells.
    reads_harm_none (g.S.Reads.state c.args.space.now) (g.S.Reads.state c.is_dense.new.space) groups_file c.in_ok-is_dense.ensures.state

pub returns-clause-lists : goal.returns-clause-lists
returns-clause-lists g c = λ tells.
    let s = g.S.Reads.state c.args.space.now in
    let z = g.S.Reads.state c.is_dense.new.space in
    let u = g.S.Reads.state c.make_dense.new.space in
    let t = g.S.Reads.state c.open_group-2.new.space in
    if_done c.open_group-2.result (HarmsNoList u t groups_file) (HarmsNoList s t groups_file)
    (λ harmless. harms_none_then s z t groups_file (reads_harm_none s z groups_file c.in_ok-is_dense.ensures.state)
    (harms_none_then z u t groups_file (c.in_ok-make_dense.ensures.lists tells) harmless)) (c.open_group-2.ensures.lists tells)

pub returns-in_err-is_dense-clause-lists : goal.returns-in_err-is_dense-clause-lists
returns-in_err-is_dense-clause-lists g c _ = never_ok c.from_residual.result _ _ c.from_residual.ensures.1

pub returns-in_err-make_dense-clause-lists : goal.returns-in_err-make_dense-clause-lists
returns-in_err-make_dense-clause-lists g c _ = never_ok c.from_residual-in_err-make_dense.result _ _ c.from_residual-in_err-make_dense.ensures.1

-- ---- where the chain of the head begins

pub returns-then-branch-clause-reaches : goal.returns-then-branch-clause-reaches
returns-then-branch-clause-reaches g c = λ tells.
    let s = g.S.Reads.state c.args.space.now in
    let z = g.S.Reads.state c.is_dense.new.space in
    let t = g.S.Reads.state c.open_group.new.space in
    let same = c.in_ok-is_dense.ensures.state in
    let dense = subst (λ (q : State). IsDense q.records c.args.node) (sym same) ((c.in_ok-is_dense.ensures.is tells).0 c.if-branch.true) in
    if_ok c.open_group.result _ (λ (head : ChainHead). KeepsOrLeads s.records t.records (head_of head))
    (λ head opens. kept_head s z t (head_of head) same (opens.dense dense)) (c.open_group.ensures.reaches tells)

pub returns-then-degree-threshold-clause-reaches : goal.returns-then-degree-threshold-clause-reaches
returns-then-degree-threshold-clause-reaches g c = λ tells.
    inl (ap (λ (q : State). q.records (head_of c.node_head.result).key) c.in_ok-is_dense.ensures.state)

pub returns-clause-reaches : goal.returns-clause-reaches
returns-clause-reaches g c = λ tells.
    let s = g.S.Reads.state c.args.space.now in
    let t = g.S.Reads.state c.open_group-2.new.space in
    if_ok c.open_group-2.result _ (λ (head : ChainHead). KeepsOrLeads s.records t.records (head_of head))
    (λ head opens. inr (opens.spread (c.in_ok-make_dense.ensures.list tells))) (c.open_group-2.ensures.reaches tells)

pub returns-in_err-is_dense-clause-reaches : goal.returns-in_err-is_dense-clause-reaches
returns-in_err-is_dense-clause-reaches g c _ = never_ok c.from_residual.result _ _ c.from_residual.ensures.1

pub returns-in_err-make_dense-clause-reaches : goal.returns-in_err-make_dense-clause-reaches
returns-in_err-make_dense-clause-reaches g c _ = never_ok c.from_residual-in_err-make_dense.result _ _ c.from_residual-in_err-make_dense.ensures.1

-- ---- how many groups are counted

pub returns-then-branch-clause-room : goal.returns-then-branch-clause-room
returns-then-branch-clause-room g c = λ tells.
    let s = g.S.Reads.state c.args.space.now in
    let z = g.S.Reads.state c.is_dense.new.space in
    let t = g.S.Reads.state c.open_group.new.space in
    let same = c.in_ok-is_dense.ensures.state in
    let read = grows_read s z same in
    let dense = subst (λ (q : State). IsDense q.records c.args.node) (sym same) ((c.in_ok-is_dense.ensures.is tells).0 c.if-branch.true) in
    if_done c.open_group.result (GrowsAtMost z t 1) (GrowsAtMost s t (c.args.threshold + 1)) (λ one. omega (arith, read, one))
    (c.open_group.ensures.room tells dense)

pub returns-then-degree-threshold-clause-room : goal.returns-then-degree-threshold-clause-room
returns-then-degree-threshold-clause-room g c = λ tells.
    let read = grows_read (g.S.Reads.state c.args.space.now) (g.S.Reads.state c.is_dense.new.space) c.in_ok-is_dense.ensures.state in
    omega (arith, read)

pub returns-clause-room : goal.returns-clause-room
returns-clause-room g c = λ tells.
    let s = g.S.Reads.state c.args.space.now in
    let z = g.S.Reads.state c.is_dense.new.space in
    let u = g.S.Reads.state c.make_dense.new.space in
    let t = g.S.Reads.state c.open_group-2.new.space in
    let read = grows_read s z c.in_ok-is_dense.ensures.state in
    let most = c.in_ok-make_dense.ensures.room tells in
    if_done c.open_group-2.result (GrowsAtMost u t 1) (GrowsAtMost s t (c.args.threshold + 1)) (λ one. omega (arith, read, most, one))
    (c.open_group-2.ensures.room tells (c.in_ok-make_dense.ensures.dense tells))

pub returns-in_err-is_dense-clause-room : goal.returns-in_err-is_dense-clause-room
returns-in_err-is_dense-clause-room g c _ = never_ok c.from_residual.result _ _ c.from_residual.ensures.1

pub returns-in_err-make_dense-clause-room : goal.returns-in_err-make_dense-clause-room
returns-in_err-make_dense-clause-room g c _ = never_ok c.from_residual-in_err-make_dense.result _ _ c.from_residual-in_err-make_dense.ensures.1
