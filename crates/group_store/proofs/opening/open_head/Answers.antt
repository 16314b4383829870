use Rattle.std.proofs.Common.{arith, Option, [], ◌∷◌, ◌+◌, sym, ap, ◌∙◌, subst, inl, ⊎_elim, refl, rules}
use Rattle.std.proofs.lemmas.Bool.{false≢true}
use Rattle.std.proofs.lemmas.Result.{err_from_is_err_and}
use Rattle.rec_bytes.specs.declared.damage.Damage.{Damage}
use Rattle.rec_bytes.specs.declared.key.Key.{Key}
use Rattle.store_rules.specs.Breaking.{Breaks, IsHeadOf}
use Rattle.rec_bytes.specs.Space.{State, WritesOnly}
use Rattle.store_rules.specs.Rules.{Head}
use Rattle.store_rules.specs.Views.{Records, rel_at}
use Rattle.group_store.specs.declared.group_row.GroupRow.{GroupRow}
use Rattle.chain_edit.specs.declared.head.Head.{Head as ChainHead}
use Rattle.group_store.specs.Densing.{IsSparse}
use Rattle.group_store.specs.Finding.{IsFound}
use Rattle.group_store.specs.GroupChain.{IsDense}
use Rattle.group_store.specs.GroupRecord.{group_key}
use Rattle.group_store.specs.Loading.{group_mark}
use Rattle.group_store.specs.Opening.{FindsChain, IsPlaced, LacksGroupOn}
use Rattle.group_store.proofs.BrokenGroups.{count_only, find_breaks, find_only, no_group_breaks, node_fault_breaks, node_only}
use Rattle.group_store.proofs.Raises.{breaks_read}
use Rattle.group_store.proofs.ChainHeads.{chain_of, has_group, is_chain, node_readable, only_read, same_records, same_twice, walkable}
use Rattle.group_store.proofs.AlikeGroups.{alike_back, alike_counted, placed_as}
use Rattle.group_store.proofs.Heads.{finds_group, finds_node, found_at, found_raise, placed_group, placed_node, then_unwritten}
use Rattle.group_store.proofs.KeptHeads.{heads_same, heads_then, own_head}
use Rattle.group_store.proofs.MakeSteps.{on_damage, same_writes}
use Rattle.group_store.proofs.Openings.{handed, keeps_read}
use Rattle.group_store.proofs.OwnGroups.{writes_after}
use Rattle.group_store.proofs.Causes.{cause_passed, later_on}
use Rattle.group_store.proofs.LeftBeside.{counted_read, counted_then}
use Rattle.rec_bytes.proofs.Causes.{never_ok}
use Rattle.group_store.proofs.opening.open_head.Goals as goal

pub returns-then-not-branch-clause-found : goal.returns-then-not-branch-clause-found
returns-then-not-branch-clause-found g c = λ tells most empty x row end.
    let s = g.S.Reads.state c.args.space.now in
    let z = g.S.Reads.state c.is_dense.new.space in
    let thin : ¬ IsDense s.records c.args.node = λ d. false≢true (sym c.if-not-branch.true ∙ (c.in_ok-is_dense.ensures.is tells).1 d) in
    subst (λ (h : Head). FindsChain s z h c.args.node row most empty) (sym c.node_head.ensures.is)
    (finds_node s z c.in_ok-is_dense.ensures.state c.args.node c.args.label c.args.side most empty x row end thin)

pub returns-in_err-group-clause-not_damaged : goal.returns-in_err-group-clause-not_damaged
returns-in_err-group-clause-not_damaged g c = λ tells most empty x row end.
    let s = g.S.Reads.state c.args.space.now in
    let z = g.S.Reads.state c.is_dense.new.space in
    let same = c.in_ok-is_dense.ensures.state in
    let dense = (c.in_ok-is_dense.ensures.is tells).0 c.if-not-branch.false in
    let keeps = keeps_read s z same most empty end.keeps in
    let dense_z = subst (λ (r : Records). IsDense r c.args.node) (sym (same_records s z same)) dense in
    let p = err_from_is_err_and c.from_residual-in_err-group.result c.from_residual-in_err-group.ensures.1 in
    rw (p.1, p.2) (handed (Option GroupRow) ChainHead c.in_err-group.field-0.0 (c.in_err-group.ensures.not_damaged tells (node_readable z keeps c.args.node)
    (chain_of z.records z.shape keeps c.args.node dense_z) (walkable z keeps c.args.node dense_z)))

pub returns-in_err-count_group-clause-not_damaged : goal.returns-in_err-count_group-clause-not_damaged
returns-in_err-count_group-clause-not_damaged g c = λ tells most empty x row end.
    let s = g.S.Reads.state c.args.space.now in
    let z = g.S.Reads.state c.is_dense.new.space in
    let y = g.S.Reads.state c.find_group.new.space in
    let found = subst (IsFound z.records c.args.node c.args.label) c.in-Some.is (c.in_ok-group.ensures.found tells) in
    let same = only_read z y (1 + group_mark z) c.in_ok-group.ensures.at_most in
    let p = err_from_is_err_and c.from_residual-in_err-count_group.result c.from_residual-in_err-count_group.ensures.1 in
    rw (p.1, p.2) (handed Unit ChainHead c.in_err-count_group.field-0.0 (c.in_err-count_group.ensures.not_damaged tells most empty
    (found_raise s z y c.in_ok-is_dense.ensures.state same c.args.node c.args.label c.in-Some.group most empty end.keeps found)))

pub returns-clause-found : goal.returns-clause-found
returns-clause-found g c = λ tells most empty x row end.
    let s = g.S.Reads.state c.args.space.now in
    let z = g.S.Reads.state c.is_dense.new.space in
    let y = g.S.Reads.state c.find_group.new.space in
    let t = g.S.Reads.state c.count_group.new.space in
    let found = subst (IsFound z.records c.args.node c.args.label) c.in-Some.is (c.in_ok-group.ensures.found tells) in
    let same = only_read z y (1 + group_mark z) c.in_ok-group.ensures.at_most in
    let can = found_raise s z y c.in_ok-is_dense.ensures.state same c.args.node c.args.label c.in-Some.group most empty end.keeps found in
    subst (λ (h : Head). FindsChain s t h c.args.node row most empty) (sym c.group_head.ensures.is)
    (finds_group s z y c.in_ok-is_dense.ensures.state same c.args.node c.args.label c.in-Some.group t c.args.side most empty x row end found can
    (c.in_ok-count_group.ensures.raised tells most empty can))

pub returns-in_default-clause-not_damaged : goal.returns-in_default-clause-not_damaged
returns-in_default-clause-not_damaged g c = λ tells most empty x row end.
    let s = g.S.Reads.state c.args.space.now in
    let z = g.S.Reads.state c.is_dense.new.space in
    let same = c.in_ok-is_dense.ensures.state in
    let dense = (c.in_ok-is_dense.ensures.is tells).0 c.if-not-branch.false in
    let keeps = keeps_read s z same most empty end.keeps in
    let dense_z = subst (λ (r : Records). IsDense r c.args.node) (sym (same_records s z same)) dense in
    let lacks = (c.in_ok-group.ensures.none tells dense_z (chain_of z.records z.shape keeps c.args.node dense_z) (is_chain z.records z.shape keeps c.args.node
    dense_z)).0 c.in_default.is in
    absurd (has_group z.records z.shape keeps c.args.node dense_z x c.args.label row (ap (λ (q : State). rel_at q.records x) same ∙ end.live)
    end.at.end end.at.typed lacks)

-- ---- what is written

pub returns-in_err-group-clause-unwritten : goal.returns-in_err-group-clause-unwritten
returns-in_err-group-clause-unwritten g c =
    let z = g.S.Reads.state c.is_dense.new.space in
    let y = g.S.Reads.state c.find_group.new.space in
    on_damage c.from_residual-in_err-group.result _ (same_twice (g.S.Reads.state c.args.space.now) z y c.in_ok-is_dense.ensures.state
    (only_read z y (1 + group_mark z) c.in_err-group.ensures.at_most))

pub returns-in_default-clause-unwritten : goal.returns-in_default-clause-unwritten
returns-in_default-clause-unwritten g c =
    let z = g.S.Reads.state c.is_dense.new.space in
    let y = g.S.Reads.state c.find_group.new.space in
    same_twice (g.S.Reads.state c.args.space.now) z y c.in_ok-is_dense.ensures.state (only_read z y (1 + group_mark z) c.in_ok-group.ensures.at_most)

pub returns-in_err-count_group-clause-unwritten : goal.returns-in_err-count_group-clause-unwritten
returns-in_err-count_group-clause-unwritten g c =
    let s = g.S.Reads.state c.args.space.now in
    let z = g.S.Reads.state c.is_dense.new.space in
    let y = g.S.Reads.state c.find_group.new.space in
    let t = g.S.Reads.state c.count_group.new.space in
    let same = same_twice s z y c.in_ok-is_dense.ensures.state (only_read z y (1 + group_mark z) c.in_ok-group.ensures.at_most) in
    let p = err_from_is_err_and c.from_residual-in_err-count_group.result c.from_residual-in_err-count_group.ensures.1 in
    rw (p.1, p.2) (then_unwritten s y t same c.in_err-count_group.field-0.0 c.in_err-count_group.ensures.unwritten)

pub returns-in_err-group-clause-writes : goal.returns-in_err-group-clause-writes
returns-in_err-group-clause-writes g c =
    let s = g.S.Reads.state c.args.space.now in
    let z = g.S.Reads.state c.is_dense.new.space in
    let y = g.S.Reads.state c.find_group.new.space in
    (0, same_writes s y (group_key 0 ∷ []) (same_twice s z y c.in_ok-is_dense.ensures.state (only_read z y (1 + group_mark z) c.in_err-group.ensures.at_most)))

pub returns-in_default-clause-writes : goal.returns-in_default-clause-writes
returns-in_default-clause-writes g c =
    let s = g.S.Reads.state c.args.space.now in
    let z = g.S.Reads.state c.is_dense.new.space in
    let y = g.S.Reads.state c.find_group.new.space in
    (0, same_writes s y (group_key 0 ∷ []) (same_twice s z y c.in_ok-is_dense.ensures.state (only_read z y (1 + group_mark z) c.in_ok-group.ensures.at_most)))

pub returns-in_err-count_group-clause-writes : goal.returns-in_err-count_group-clause-writes
returns-in_err-count_group-clause-writes g c =
    let s = g.S.Reads.state c.args.space.now in
    let z = g.S.Reads.state c.is_dense.new.space in
    let y = g.S.Reads.state c.find_group.new.space in
    let t = g.S.Reads.state c.count_group.new.space in
    let same = same_twice s z y c.in_ok-is_dense.ensures.state (only_read z y (1 + group_mark z) c.in_ok-group.ensures.at_most) in
    (c.in-Some.group.id, writes_after s y t (group_key c.in-Some.group.id ∷ []) same c.in_err-count_group.ensures.writes)

pub returns-clause-writes : goal.returns-clause-writes
returns-clause-writes g c =
    let s = g.S.Reads.state c.args.space.now in
    let z = g.S.Reads.state c.is_dense.new.space in
    let y = g.S.Reads.state c.find_group.new.space in
    let t = g.S.Reads.state c.count_group.new.space in
    let same = same_twice s z y c.in_ok-is_dense.ensures.state (only_read z y (1 + group_mark z) c.in_ok-group.ensures.at_most) in
    (c.in-Some.group.id, writes_after s y t (group_key c.in-Some.group.id ∷ []) same c.in_ok-count_group.ensures.writes)

pub returns-clause-wrote : goal.returns-clause-wrote
returns-clause-wrote g c =
    let s = g.S.Reads.state c.args.space.now in
    let z = g.S.Reads.state c.is_dense.new.space in
    let y = g.S.Reads.state c.find_group.new.space in
    let t = g.S.Reads.state c.count_group.new.space in
    let same = same_twice s z y c.in_ok-is_dense.ensures.state (only_read z y (1 + group_mark z) c.in_ok-group.ensures.at_most) in
    subst (λ (k : Key). WritesOnly s t (k ∷ [])) (sym (ap (λ (h : Head). h.key) c.group_head.ensures.is))
    (writes_after s y t (group_key c.in-Some.group.id ∷ []) same c.in_ok-count_group.ensures.writes)

-- ---- damage

pub returns-in_err-is_dense-clause-damaged : goal.returns-in_err-is_dense-clause-damaged
returns-in_err-is_dense-clause-damaged g c = λ tells.
    let s = g.S.Reads.state c.args.space.now in
    let p = err_from_is_err_and c.from_residual.result c.from_residual.ensures.1 in
    rw (p.1, p.2) (node_only s c.args.node c.args.rel c.args.label c.in_err-is_dense.field-0.0 (c.in_err-is_dense.ensures.damaged tells))

pub returns-in_err-is_dense-clause-breaks : goal.returns-in_err-is_dense-clause-breaks
returns-in_err-is_dense-clause-breaks g c = λ tells row live at.
    let s = g.S.Reads.state c.args.space.now in
    let p = err_from_is_err_and c.from_residual.result c.from_residual.ensures.1 in
    rw (p.1, p.2) (node_fault_breaks s c.args.node c.in_err-is_dense.field-0.0 (c.in_err-is_dense.ensures.damaged tells))

pub returns-in_err-group-clause-damaged : goal.returns-in_err-group-clause-damaged
returns-in_err-group-clause-damaged g c = λ tells.
    let s = g.S.Reads.state c.args.space.now in
    let z = g.S.Reads.state c.is_dense.new.space in
    let same = c.in_ok-is_dense.ensures.state in
    let dense = subst (λ (r : Records). IsDense r c.args.node) (sym (same_records s z same)) ((c.in_ok-is_dense.ensures.is tells).0 c.if-not-branch.false) in
    let p = err_from_is_err_and c.from_residual-in_err-group.result c.from_residual-in_err-group.ensures.1 in
    rw (p.1, p.2) (find_only s z c.args.node c.args.rel c.args.label same dense c.in_err-group.field-0.0 (c.in_err-group.ensures.damaged tells))

pub returns-in_err-group-clause-breaks : goal.returns-in_err-group-clause-breaks
returns-in_err-group-clause-breaks g c = λ tells row live at.
    let s = g.S.Reads.state c.args.space.now in
    let z = g.S.Reads.state c.is_dense.new.space in
    let same = c.in_ok-is_dense.ensures.state in
    let dense = subst (λ (r : Records). IsDense r c.args.node) (sym (same_records s z same)) ((c.in_ok-is_dense.ensures.is tells).0 c.if-not-branch.false) in
    let p = err_from_is_err_and c.from_residual-in_err-group.result c.from_residual-in_err-group.ensures.1 in
    rw (p.1, p.2) (breaks_read s z same c.in_err-group.field-0.0 (find_breaks z c.args.node dense c.in_err-group.field-0.0
    (c.in_err-group.ensures.damaged tells)))

pub returns-in_default-clause-breaks : goal.returns-in_default-clause-breaks
returns-in_default-clause-breaks g c = λ tells row live at.
    let s = g.S.Reads.state c.args.space.now in
    let z = g.S.Reads.state c.is_dense.new.space in
    let same = c.in_ok-is_dense.ensures.state in
    let dense = subst (λ (r : Records). IsDense r c.args.node) (sym (same_records s z same)) ((c.in_ok-is_dense.ensures.is tells).0 c.if-not-branch.false) in
    let found = subst (IsFound z.records c.args.node c.args.label) c.in_default.is (c.in_ok-group.ensures.found tells) dense in
    let lacks : LacksGroupOn z.records c.args.node c.args.label = record { dense = dense; members = found.0; list = found.1; lacks = found.2 } in
    subst (λ (d : Damage). Breaks s.records s.shape d) (sym c.end_damage.ensures)
    (no_group_breaks s c.args.node c.args.rel c.args.label row live at.end at.typed (subst (λ (r : Records). LacksGroupOn r c.args.node c.args.label)
    (same_records s z same) lacks))

pub returns-in_err-count_group-clause-damaged : goal.returns-in_err-count_group-clause-damaged
returns-in_err-count_group-clause-damaged g c = λ tells.
    let s = g.S.Reads.state c.args.space.now in
    let z = g.S.Reads.state c.is_dense.new.space in
    let y = g.S.Reads.state c.find_group.new.space in
    let found = subst (IsFound z.records c.args.node c.args.label) c.in-Some.is (c.in_ok-group.ensures.found tells) in
    let same = only_read z y (1 + group_mark z) c.in_ok-group.ensures.at_most in
    let at = found_at s z y c.in_ok-is_dense.ensures.state same c.args.node c.args.label c.in-Some.group found in
    let p = err_from_is_err_and c.from_residual-in_err-count_group.result c.from_residual-in_err-count_group.ensures.1 in
    rw (p.1, p.2) (count_only s y c.args.node c.args.rel c.args.label c.in-Some.group.id (same_twice s z y c.in_ok-is_dense.ensures.state same)
    c.in_err-count_group.field-0.0 (c.in_err-count_group.ensures.names tells) (c.in_err-count_group.ensures.breaks tells at))

pub returns-in_err-count_group-clause-breaks : goal.returns-in_err-count_group-clause-breaks
returns-in_err-count_group-clause-breaks g c = λ tells row live end.
    let s = g.S.Reads.state c.args.space.now in
    let z = g.S.Reads.state c.is_dense.new.space in
    let y = g.S.Reads.state c.find_group.new.space in
    let found = subst (IsFound z.records c.args.node c.args.label) c.in-Some.is (c.in_ok-group.ensures.found tells) in
    let same = only_read z y (1 + group_mark z) c.in_ok-group.ensures.at_most in
    let at = found_at s z y c.in_ok-is_dense.ensures.state same c.args.node c.args.label c.in-Some.group found in
    let p = err_from_is_err_and c.from_residual-in_err-count_group.result c.from_residual-in_err-count_group.ensures.1 in
    rw (p.1, p.2) (breaks_read s y (same_twice s z y c.in_ok-is_dense.ensures.state same) c.in_err-count_group.field-0.0 (c.in_err-count_group.ensures.breaks
    tells at))

pub returns-in_err-is_dense-clause-cause : goal.returns-in_err-is_dense-clause-cause
returns-in_err-is_dense-clause-cause g c =
    cause_passed _ _ _ c.from_residual.result c.in_err-is_dense.field-0.0 (omega arith) c.in_err-is_dense.ensures.cause c.from_residual.ensures.1

pub returns-in_err-group-clause-cause : goal.returns-in_err-group-clause-cause
returns-in_err-group-clause-cause g c =
    cause_passed _ _ _ c.from_residual-in_err-group.result c.in_err-group.field-0.0 c.in_ok-is_dense.ensures.cause.later c.in_err-group.ensures.cause
    c.from_residual-in_err-group.ensures.1

pub returns-in_err-count_group-clause-cause : goal.returns-in_err-count_group-clause-cause
returns-in_err-count_group-clause-cause g c =
    cause_passed _ _ _ c.from_residual-in_err-count_group.result c.in_err-count_group.field-0.0
    (later_on c.in_ok-is_dense.ensures.cause.later c.in_ok-group.ensures.cause.later) c.in_err-count_group.ensures.cause
    c.from_residual-in_err-count_group.ensures.1

-- ---- heads

pub returns-then-not-branch-clause-heads : goal.returns-then-not-branch-clause-heads
returns-then-not-branch-clause-heads g c = λ tells. heads_same (g.S.Reads.state c.args.space.now) (g.S.Reads.state c.is_dense.new.space)
    c.in_ok-is_dense.ensures.state

pub returns-then-not-branch-clause-owns : goal.returns-then-not-branch-clause-owns
returns-then-not-branch-clause-owns g c = λ tells which.
    let s = g.S.Reads.state c.args.space.now in
    let z = g.S.Reads.state c.is_dense.new.space in
    let thin : ¬ IsDense s.records c.args.node = λ d. false≢true (sym c.if-not-branch.true ∙ (c.in_ok-is_dense.ensures.is tells).1 d) in
    let sparse : IsSparse s.records c.args.node = ⊎_elim (λ d. absurd (thin d)) (λ k. k) which in
    subst (λ (h : Head). IsHeadOf z.records h c.args.node) (sym c.node_head.ensures.is)
    (inl (record { sparse = subst (λ (r : Records). IsSparse r c.args.node) (sym (same_records s z c.in_ok-is_dense.ensures.state)) sparse; is = refl }))

pub returns-clause-heads : goal.returns-clause-heads
returns-clause-heads g c = λ tells.
    let s = g.S.Reads.state c.args.space.now in
    let z = g.S.Reads.state c.is_dense.new.space in
    let y = g.S.Reads.state c.find_group.new.space in
    let t = g.S.Reads.state c.count_group.new.space in
    let same = same_twice s z y c.in_ok-is_dense.ensures.state (only_read z y (1 + group_mark z) c.in_ok-group.ensures.at_most) in
    heads_then s y t (heads_same s y same) (c.in_ok-count_group.ensures.heads tells)

pub returns-clause-owns : goal.returns-clause-owns
returns-clause-owns g c = λ tells which.
    let s = g.S.Reads.state c.args.space.now in
    let z = g.S.Reads.state c.is_dense.new.space in
    let y = g.S.Reads.state c.find_group.new.space in
    let t = g.S.Reads.state c.count_group.new.space in
    let found = subst (IsFound z.records c.args.node c.args.label) c.in-Some.is (c.in_ok-group.ensures.found tells) in
    let same = only_read z y (1 + group_mark z) c.in_ok-group.ensures.at_most in
    let at = found_at s z y c.in_ok-is_dense.ensures.state same c.args.node c.args.label c.in-Some.group found in
    subst (λ (h : Head). IsHeadOf t.records h c.args.node) (sym c.group_head.ensures.is)
    (c.in_ok-count_group.ensures.heads tells _ c.args.node (own_head y c.args.node c.in-Some.group c.args.side at))

-- ---- what is left of other records

pub returns-then-not-branch-clause-counts : goal.returns-then-not-branch-clause-counts
returns-then-not-branch-clause-counts g c = λ tells. counted_read (g.S.Reads.state c.args.space.now) (g.S.Reads.state c.is_dense.new.space)
    c.in_ok-is_dense.ensures.state

pub returns-clause-counts : goal.returns-clause-counts
returns-clause-counts g c = λ tells.
    let s = g.S.Reads.state c.args.space.now in
    let z = g.S.Reads.state c.is_dense.new.space in
    let y = g.S.Reads.state c.find_group.new.space in
    let t = g.S.Reads.state c.count_group.new.space in
    let found = subst (IsFound z.records c.args.node c.args.label) c.in-Some.is (c.in_ok-group.ensures.found tells) in
    let same = only_read z y (1 + group_mark z) c.in_ok-group.ensures.at_most in
    let at = found_at s z y c.in_ok-is_dense.ensures.state same c.args.node c.args.label c.in-Some.group found in
    counted_then s.records y.records t.records (counted_read s y (same_twice s z y c.in_ok-is_dense.ensures.state same))
    (c.in_ok-count_group.ensures.counts tells at)

-- ---- where the relationship stands

pub returns-then-not-branch-clause-placed : goal.returns-then-not-branch-clause-placed
returns-then-not-branch-clause-placed g c = λ tells which row at.
    let s = g.S.Reads.state c.args.space.now in
    let z = g.S.Reads.state c.is_dense.new.space in
    let thin : ¬ IsDense s.records c.args.node = λ d. false≢true (sym c.if-not-branch.true ∙ (c.in_ok-is_dense.ensures.is tells).1 d) in
    let sparse : IsSparse s.records c.args.node = ⊎_elim (λ d. absurd (thin d)) (λ k. k) which in
    subst (λ (h : Head). IsPlaced z.records h c.args.node row) (sym c.node_head.ensures.is)
    (placed_node z.records c.args.node c.args.label c.args.side row (subst (λ (r : Records). IsSparse r c.args.node)
    (sym (same_records s z c.in_ok-is_dense.ensures.state)) sparse) at)

pub returns-clause-placed : goal.returns-clause-placed
returns-clause-placed g c = λ tells which row rel_at_node.
    let s = g.S.Reads.state c.args.space.now in
    let z = g.S.Reads.state c.is_dense.new.space in
    let y = g.S.Reads.state c.find_group.new.space in
    let t = g.S.Reads.state c.count_group.new.space in
    let found = subst (IsFound z.records c.args.node c.args.label) c.in-Some.is (c.in_ok-group.ensures.found tells) in
    let same = only_read z y (1 + group_mark z) c.in_ok-group.ensures.at_most in
    let at = found_at s z y c.in_ok-is_dense.ensures.state same c.args.node c.args.label c.in-Some.group found in
    subst (λ (h : Head). IsPlaced t.records h c.args.node row) (sym c.group_head.ensures.is)
    (placed_as t y c.args.node (alike_back y t c.args.node (alike_counted y t c.args.node (g.met.S.Reads.onward_shape _ _ c.count_group.ensures.onward)
    (c.in_ok-count_group.ensures.counts tells at))) _ row
    (placed_group y c.args.node c.args.label c.in-Some.group c.args.side row at found.1.typed rel_at_node))

pub returns-in_err-is_dense-clause-found : goal.returns-in_err-is_dense-clause-found
returns-in_err-is_dense-clause-found g c _ = never_ok c.from_residual.result _ _ c.from_residual.ensures.1

pub returns-in_err-is_dense-clause-owns : goal.returns-in_err-is_dense-clause-owns
returns-in_err-is_dense-clause-owns g c _ _ = never_ok c.from_residual.result _ _ c.from_residual.ensures.1

pub returns-in_err-is_dense-clause-placed : goal.returns-in_err-is_dense-clause-placed
returns-in_err-is_dense-clause-placed g c _ _ _ _ = never_ok c.from_residual.result _ _ c.from_residual.ensures.1

pub returns-in_err-is_dense-clause-heads : goal.returns-in_err-is_dense-clause-heads
returns-in_err-is_dense-clause-heads g c _ = never_ok c.from_residual.result _ _ c.from_residual.ensures.1

pub returns-in_err-is_dense-clause-counts : goal.returns-in_err-is_dense-clause-counts
returns-in_err-is_dense-clause-counts g c _ = never_ok c.from_residual.result _ _ c.from_residual.ensures.1

pub returns-in_err-is_dense-clause-head : goal.returns-in_err-is_dense-clause-head
returns-in_err-is_dense-clause-head g c = never_ok c.from_residual.result _ _ c.from_residual.ensures.1

pub returns-in_err-is_dense-clause-own : goal.returns-in_err-is_dense-clause-own
returns-in_err-is_dense-clause-own g c = never_ok c.from_residual.result _ _ c.from_residual.ensures.1

pub returns-in_err-is_dense-clause-wrote : goal.returns-in_err-is_dense-clause-wrote
returns-in_err-is_dense-clause-wrote g c = never_ok c.from_residual.result _ _ c.from_residual.ensures.1

pub returns-in_err-is_dense-clause-onward : goal.returns-in_err-is_dense-clause-onward
returns-in_err-is_dense-clause-onward g c = search rules

pub returns-in_err-group-clause-found : goal.returns-in_err-group-clause-found
returns-in_err-group-clause-found g c _ = never_ok c.from_residual-in_err-group.result _ _ c.from_residual-in_err-group.ensures.1

pub returns-in_err-group-clause-owns : goal.returns-in_err-group-clause-owns
returns-in_err-group-clause-owns g c _ _ = never_ok c.from_residual-in_err-group.result _ _ c.from_residual-in_err-group.ensures.1

pub returns-in_err-group-clause-placed : goal.returns-in_err-group-clause-placed
returns-in_err-group-clause-placed g c _ _ _ _ = never_ok c.from_residual-in_err-group.result _ _ c.from_residual-in_err-group.ensures.1

pub returns-in_err-group-clause-heads : goal.returns-in_err-group-clause-heads
returns-in_err-group-clause-heads g c _ = never_ok c.from_residual-in_err-group.result _ _ c.from_residual-in_err-group.ensures.1

pub returns-in_err-group-clause-counts : goal.returns-in_err-group-clause-counts
returns-in_err-group-clause-counts g c _ = never_ok c.from_residual-in_err-group.result _ _ c.from_residual-in_err-group.ensures.1

pub returns-in_err-group-clause-head : goal.returns-in_err-group-clause-head
returns-in_err-group-clause-head g c = never_ok c.from_residual-in_err-group.result _ _ c.from_residual-in_err-group.ensures.1

pub returns-in_err-group-clause-own : goal.returns-in_err-group-clause-own
returns-in_err-group-clause-own g c = never_ok c.from_residual-in_err-group.result _ _ c.from_residual-in_err-group.ensures.1

pub returns-in_err-group-clause-wrote : goal.returns-in_err-group-clause-wrote
returns-in_err-group-clause-wrote g c = never_ok c.from_residual-in_err-group.result _ _ c.from_residual-in_err-group.ensures.1

pub returns-in_err-count_group-clause-found : goal.returns-in_err-count_group-clause-found
returns-in_err-count_group-clause-found g c _ = never_ok c.from_residual-in_err-count_group.result _ _ c.from_residual-in_err-count_group.ensures.1

pub returns-in_err-count_group-clause-owns : goal.returns-in_err-count_group-clause-owns
returns-in_err-count_group-clause-owns g c _ _ = never_ok c.from_residual-in_err-count_group.result _ _ c.from_residual-in_err-count_group.ensures.1

pub returns-in_err-count_group-clause-placed : goal.returns-in_err-count_group-clause-placed
returns-in_err-count_group-clause-placed g c _ _ _ _ = never_ok c.from_residual-in_err-count_group.result _ _ c.from_residual-in_err-count_group.ensures.1

pub returns-in_err-count_group-clause-heads : goal.returns-in_err-count_group-clause-heads
returns-in_err-count_group-clause-heads g c _ = never_ok c.from_residual-in_err-count_group.result _ _ c.from_residual-in_err-count_group.ensures.1

pub returns-in_err-count_group-clause-counts : goal.returns-in_err-count_group-clause-counts
returns-in_err-count_group-clause-counts g c _ = never_ok c.from_residual-in_err-count_group.result _ _ c.from_residual-in_err-count_group.ensures.1

pub returns-in_err-count_group-clause-head : goal.returns-in_err-count_group-clause-head
returns-in_err-count_group-clause-head g c = never_ok c.from_residual-in_err-count_group.result _ _ c.from_residual-in_err-count_group.ensures.1

pub returns-in_err-count_group-clause-own : goal.returns-in_err-count_group-clause-own
returns-in_err-count_group-clause-own g c = never_ok c.from_residual-in_err-count_group.result _ _ c.from_residual-in_err-count_group.ensures.1

pub returns-in_err-count_group-clause-wrote : goal.returns-in_err-count_group-clause-wrote
returns-in_err-count_group-clause-wrote g c = never_ok c.from_residual-in_err-count_group.result _ _ c.from_residual-in_err-count_group.ensures.1

pub returns-in_err-group-clause-onward : goal.returns-in_err-group-clause-onward
returns-in_err-group-clause-onward g c =
    g.met.S.Reads.further_onward _ _ _ c.in_ok-is_dense.ensures.onward c.in_err-group.ensures.onward

pub returns-in_err-count_group-clause-onward : goal.returns-in_err-count_group-clause-onward
returns-in_err-count_group-clause-onward g c =
    g.met.S.Reads.further_onward _ _ _ (g.met.S.Reads.further_onward _ _ _ c.in_ok-is_dense.ensures.onward c.in_ok-group.ensures.onward)
    c.in_err-count_group.ensures.onward
