use Rattle.std.proofs.Common.{arith, ◌≡◌, ◌≢◌, Option, None, Some, inl, inr, refl, ◌∷◌, [], ℕ, List, ap, subst, sym, ◌∙◌, rules}
use Rattle.rec_bytes.specs.RecordFiles.{meta_key_of}
use Rattle.rec_bytes.specs.Format.{groups_file, relationships_file}
use Rattle.rec_bytes.specs.Space.{SameButReads, State, WritesOnly, meta_of}
use Rattle.node_store.specs.NodeRecord.{node_key}
use Rattle.std.specs.Prelude.{IfSome}
use Rattle.store_rules.specs.Views.{first_link, rec_at}
use Rattle.group_store.specs.declared.group_row.GroupRow.{GroupRow}
use Rattle.group_store.specs.declared.making.OwnGroup.{OwnGroup}
use Rattle.group_store.specs.Finding.{IsFound, IsReached}
use Rattle.group_store.specs.GroupChain.{IsDense, IsGroupOf, LacksGroup}
use Rattle.group_store.specs.GroupRecord.{group_key}
use Rattle.group_store.specs.Making.{IsMakeFault, made}
use Rattle.group_store.specs.Opening.{GrowsAtMost, IsOpenFault}
use Rattle.group_store.proofs.Additions.{can_walk as walkable, has_added, make_read, node_read}
use Rattle.group_store.proofs.BrokenGroups.{find_breaks, if_err, make_breaks, only_breaks, open_read}
use Rattle.group_store.specs.Spreading.{HasOpened, KeepsBut}
use Rattle.group_store.specs.Walking.{group_row_at}
use Rattle.group_store.proofs.MakeSteps.{same_read, same_then, same_writes}
use Rattle.group_store.proofs.DenseStays.{dense_made}
use Rattle.group_store.proofs.OpenFaults.{fault_cause, if_refusal, on_refusal, refuses}
use Rattle.id_freelist.specs.Taking.{room}
use Rattle.std.proofs.lemmas.Result.{err_from_is_err_and}
use Rattle.group_store.proofs.OwnRoom.{can_make, can_walk, chain_ids, free_ids, node_known}
use Rattle.group_store.proofs.OwnGroups.{if_ok, keeps_then, none_found, opened_found, opened_made, writes_after}
use Rattle.group_store.proofs.Turns.{found_grows, made_grows}
use Rattle.group_store.proofs.Leadings.{leads_found, leads_own, rels_made}
use Rattle.group_store.proofs.LeftBeside.{beside_made, beside_read, beside_then, if_done}
use Rattle.group_store.proofs.LowHeads.{dense_first, done_both, first_alone, first_found, own_made}
use Rattle.group_store.proofs.Strangers.{apart_read, find_apart, make_apart}
use Rattle.group_store.specs.Leaving.{KeepsHeads, LeavesBeside}
use Rattle.group_store.proofs.KeptHeads.{heads_same, heads_then}
use Rattle.group_store.proofs.Named.{find_named, make_named}
use Rattle.rec_bytes.proofs.Causes.{never_ok}
use Rattle.rec_bytes.specs.Key.{IsKey}
use Rattle.group_store.specs.Naming.{NamesAt, NamesNoGroup, NamesNoNode}
use Rattle.group_store.proofs.CountedLists.{find_listed, found_counted, list_own, list_read, make_listed}
use Rattle.id_freelist.specs.ListDamage.{HarmsNoList}
use Rattle.id_freelist.proofs.ListSteps.{harms_none_then, reads_harm_none}
use Rattle.group_store.proofs.GroupMetas.{find_metas, grows_made, grows_read, grows_then, own_metas}
use Rattle.group_store.proofs.densing.own_group.Goals as goal

pub returns-in_err-row-clause-writes : goal.returns-in_err-row-clause-writes
returns-in_err-row-clause-writes g c =
    let s = g.S.Reads.state c.args.space.now in
    let now = g.S.Reads.state c.find_group.new.space in
    (0, 0, same_writes s now _ (same_read _ s now c.find_group.ensures.at_most))

pub returns-in-Some-clause-opened : goal.returns-in-Some-clause-opened
returns-in-Some-clause-opened g c = λ tells rest most empty keeps dense.
    let s = g.S.Reads.state c.args.space.now in
    let now = g.S.Reads.state c.find_group.new.space in
    opened_found s now c.args.node c.args.label c.in-Some.row (same_read _ s now c.find_group.ensures.at_most)
    (subst (IsFound s.records c.args.node c.args.label) c.in-Some.is (c.in_ok-row.ensures.found tells)) rest most empty keeps

pub returns-in-Some-clause-grows : goal.returns-in-Some-clause-grows
returns-in-Some-clause-grows g c = λ tells rest most empty keeps dense.
    let s = g.S.Reads.state c.args.space.now in
    let now = g.S.Reads.state c.find_group.new.space in
    found_grows s now c.args.node c.in-Some.row.id (same_read _ s now c.find_group.ensures.at_most)

pub returns-in-Some-clause-wrote : goal.returns-in-Some-clause-wrote
returns-in-Some-clause-wrote g c =
    let s = g.S.Reads.state c.args.space.now in
    let now = g.S.Reads.state c.find_group.new.space in
    same_writes s now _ (same_read _ s now c.find_group.ensures.at_most)

pub returns-in-Some-clause-writes : goal.returns-in-Some-clause-writes
returns-in-Some-clause-writes g c =
    let s = g.S.Reads.state c.args.space.now in
    let now = g.S.Reads.state c.find_group.new.space in
    (0, 0, same_writes s now _ (same_read _ s now c.find_group.ensures.at_most))

pub returns-in-None-clause-opened : goal.returns-in-None-clause-opened
returns-in-None-clause-opened g c = λ tells.
    let s = g.S.Reads.state c.args.space.now in
    let now = g.S.Reads.state c.find_group.new.space in
    let end = g.S.Reads.state c.make_own.new.space in
    let same = same_read _ s now c.find_group.ensures.at_most in
    let node = c.args.node in
    let label = c.args.label in
    if_ok c.make_own.result _
    (λ (own : OwnGroup). (rest : List ℕ) (most : ℕ) (empty : List ℕ) → KeepsBut s.records s.shape node rest most empty → IsDense s.records node
    → KeepsBut end.records end.shape node rest most (own.row.id ∷ empty) × HasOpened s end node label own.row.id rest)
    (λ own made rest most empty keeps dense.
    let lacks = none_found s node label rest most empty keeps dense c.in_ok-row.field-0 c.in-None.is
    (λ xs chain. c.in_ok-row.ensures.none tells dense xs chain) in
    opened_made s now end node label own.row.id rest most empty same
    (made rest most empty (keeps_then s now node rest most empty same keeps) (subst (λ (t : State). IsDense t.records node) (sym same) dense)
    (subst (λ (t : State). LacksGroup t.records node label) (sym same) lacks)))
    (c.make_own.ensures.rules tells)

pub returns-in-None-clause-grows : goal.returns-in-None-clause-grows
returns-in-None-clause-grows g c = λ tells.
    let s = g.S.Reads.state c.args.space.now in
    let now = g.S.Reads.state c.find_group.new.space in
    made_grows c.make_own.result s now (g.S.Reads.state c.make_own.new.space) c.args.node c.args.label (same_read _ s now c.find_group.ensures.at_most)
    (λ rest most empty keeps dense. none_found s c.args.node c.args.label rest most empty keeps dense c.in_ok-row.field-0 c.in-None.is
    (λ xs chain. c.in_ok-row.ensures.none tells dense xs chain))
    (c.make_own.ensures.made tells) (first_alone c.make_own.result now c.args.node (c.make_own.ensures.first tells))

pub returns-in-None-clause-wrote : goal.returns-in-None-clause-wrote
returns-in-None-clause-wrote g c =
    let s = g.S.Reads.state c.args.space.now in
    let now = g.S.Reads.state c.find_group.new.space in
    let end = g.S.Reads.state c.make_own.new.space in
    let same = same_read _ s now c.find_group.ensures.at_most in
    if_ok c.make_own.result _ (λ (own : OwnGroup). WritesOnly s end (group_key own.row.id ∷ group_key own.first ∷ node_key c.args.node ∷ meta_key_of groups_file
    ∷ []))
    (λ own k. writes_after s now end _ same k) c.make_own.ensures.wrote

pub returns-in-None-clause-writes : goal.returns-in-None-clause-writes
returns-in-None-clause-writes g c =
    let s = g.S.Reads.state c.args.space.now in
    let now = g.S.Reads.state c.find_group.new.space in
    let end = g.S.Reads.state c.make_own.new.space in
    let k = c.make_own.ensures.writes in
    (k.1, k.0, writes_after s now end _ (same_read _ s now c.find_group.ensures.at_most) k.2)

pub returns-in_err-row-clause-not_damaged : goal.returns-in_err-row-clause-not_damaged
returns-in_err-row-clause-not_damaged g c = λ tells rest most empty keeps dense room.
    let s = g.S.Reads.state c.args.space.now in
    let p = err_from_is_err_and c.from_residual.result c.from_residual.ensures.1 in
    rw (p.1, p.2) (refuses c.in_err-row.field-0.0 ⊥
    (c.in_err-row.ensures.not_damaged tells (node_known s c.args.node rest most empty keeps dense) (chain_ids s c.args.node rest most empty keeps dense)
    (can_walk s c.args.node rest most empty keeps dense)))

pub returns-in-None-clause-not_damaged : goal.returns-in-None-clause-not_damaged
returns-in-None-clause-not_damaged g c = λ tells rest most empty keeps dense full.
    let s = g.S.Reads.state c.args.space.now in
    let now = g.S.Reads.state c.find_group.new.space in
    let same = same_read _ s now c.find_group.ensures.at_most in
    let node = c.args.node in
    let lacks = none_found s node c.args.label rest most empty keeps dense c.in_ok-row.field-0 c.in-None.is
    (λ xs chain. c.in_ok-row.ensures.none tells dense xs chain) in
    let keeps_now = keeps_then s now node rest most empty same keeps in
    let dense_now = subst (λ (t : State). IsDense t.records node) (sym same) dense in
    c.make_own.ensures.not_damaged tells (node_known now node rest most empty keeps_now dense_now) (free_ids now node rest most empty keeps_now dense_now)
    (chain_ids now node rest most empty keeps_now dense_now)
    (can_make now node rest most empty keeps_now dense_now c.args.label (subst (λ (t : State). LacksGroup t.records node c.args.label) (sym same) lacks))
    dense_now
    (subst (λ (t : State). (meta_of t groups_file).live ≢ room t groups_file) (sym same) full)

-- ---- by what the node has alone

pub returns-in-Some-clause-local : goal.returns-in-Some-clause-local
returns-in-Some-clause-local g c = λ tells groups free dense chain can.
    let s = g.S.Reads.state c.args.space.now in
    let found = subst (IsFound s.records c.args.node c.args.label) c.in-Some.is (c.in_ok-row.ensures.found tells) in
    inl (record {
      same = same_read _ s (g.S.Reads.state c.find_group.new.space) c.find_group.ensures.at_most;
      member = chain.all c.in-Some.row.id found.1.member;
      typed = sym (ap (λ (r : GroupRow). r.label) found.1.is) ∙ found.1.typed;
      before = refl;
    })

pub returns-in-None-clause-local : goal.returns-in-None-clause-local
returns-in-None-clause-local g c = λ tells.
    let s = g.S.Reads.state c.args.space.now in
    let now = g.S.Reads.state c.find_group.new.space in
    has_added c.make_own.result s now (g.S.Reads.state c.make_own.new.space) c.args.node c.args.label (same_read _ s now c.find_group.ensures.at_most)
    (λ dense xs chain. (c.in_ok-row.ensures.none tells dense xs chain).0 c.in-None.is)
    (c.make_own.ensures.made tells) (first_alone c.make_own.result now c.args.node (c.make_own.ensures.first tells))
    (c.make_own.ensures.full tells) (c.make_own.ensures.shape tells)

pub returns-in_err-row-clause-never : goal.returns-in_err-row-clause-never
returns-in_err-row-clause-never g c = λ tells groups free dense chain can readable full.
    let s = g.S.Reads.state c.args.space.now in
    let p = err_from_is_err_and c.from_residual.result c.from_residual.ensures.1 in
    rw (p.1, p.2) (refuses c.in_err-row.field-0.0 ⊥ (c.in_err-row.ensures.not_damaged tells readable groups
    (walkable s c.args.node groups free chain can)))

pub returns-in-None-clause-never : goal.returns-in-None-clause-never
returns-in-None-clause-never g c = λ tells groups free dense chain can readable full.
    let s = g.S.Reads.state c.args.space.now in
    let now = g.S.Reads.state c.find_group.new.space in
    let same = same_read _ s now c.find_group.ensures.at_most in
    let node = c.args.node in
    let lacks = (c.in_ok-row.ensures.none tells dense groups chain).0 c.in-None.is in
    c.make_own.ensures.not_damaged tells (node_read s now node same readable) free groups
    (make_read s now node c.args.label groups free same chain (λ k i. lacks k (chain.only k i)) can)
    (subst (λ (t : State). IsDense t.records node) (sym same) dense) (subst (λ (t : State). (meta_of t groups_file).live ≢ room t groups_file) (sym same) full)

-- ---- the row

pub returns-in-Some-clause-row : goal.returns-in-Some-clause-row
returns-in-Some-clause-row g c = λ tells rest most empty keeps dense.
    let s = g.S.Reads.state c.args.space.now in
    let now = g.S.Reads.state c.find_group.new.space in
    let found = subst (IsFound s.records c.args.node c.args.label) c.in-Some.is (c.in_ok-row.ensures.found tells) in
    found.1.is ∙ ap (λ (t : State). group_row_at t.records c.in-Some.row.id) (sym (same_read _ s now c.find_group.ensures.at_most))

pub returns-in-None-clause-row : goal.returns-in-None-clause-row
returns-in-None-clause-row g c = λ tells.
    let s = g.S.Reads.state c.args.space.now in
    let now = g.S.Reads.state c.find_group.new.space in
    let end = g.S.Reads.state c.make_own.new.space in
    let same = same_read _ s now c.find_group.ensures.at_most in
    let node = c.args.node in
    let label = c.args.label in
    if_ok c.make_own.result _
    (λ (own : OwnGroup). (rest : List ℕ) (most : ℕ) (empty : List ℕ) → KeepsBut s.records s.shape node rest most empty → IsDense s.records node
    → own.row ≡ group_row_at end.records own.row.id)
    (λ own made rest most empty keeps dense.
    let lacks = none_found s node label rest most empty keeps dense c.in_ok-row.field-0 c.in-None.is
    (λ xs chain. c.in_ok-row.ensures.none tells dense xs chain) in
    let keeps_now = keeps_then s now node rest most empty same keeps in
    let dense_now = subst (λ (t : State). IsDense t.records node) (sym same) dense in
    sym (made (free_ids now node rest most empty keeps_now dense_now) (chain_ids now node rest most empty keeps_now dense_now)
    (can_make now node rest most empty keeps_now dense_now label (subst (λ (t : State). LacksGroup t.records node label) (sym same) lacks))).here)
    (c.make_own.ensures.made tells)

-- ---- damage

pub returns-in_err-row-clause-damaged : goal.returns-in_err-row-clause-damaged
returns-in_err-row-clause-damaged g c = λ tells dense.
    let s = g.S.Reads.state c.args.space.now in
    let p = err_from_is_err_and c.from_residual.result c.from_residual.ensures.1 in
    rw (p.1, p.2) (only_breaks s c.in_err-row.field-0.0 (find_breaks s c.args.node dense c.in_err-row.field-0.0 (c.in_err-row.ensures.damaged tells)))

pub returns-in-Some-clause-group : goal.returns-in-Some-clause-group
returns-in-Some-clause-group g c = λ tells dense.
    let s = g.S.Reads.state c.args.space.now in
    let now = g.S.Reads.state c.find_group.new.space in
    let same = same_read _ s now c.find_group.ensures.at_most in
    let found = subst (λ (t : State). IsFound t.records c.args.node c.args.label (Some c.in-Some.row)) (sym same)
    (subst (IsFound s.records c.args.node c.args.label) c.in-Some.is (c.in_ok-row.ensures.found tells)) in
    inr (record { dense = found.0; member = found.1.member; on = found.1.on refl found.0; is = found.1.is }, same)

pub returns-in-None-clause-damaged : goal.returns-in-None-clause-damaged
returns-in-None-clause-damaged g c = λ tells dense.
    let s = g.S.Reads.state c.args.space.now in
    let now = g.S.Reads.state c.find_group.new.space in
    let same = same_read _ s now c.find_group.ensures.at_most in
    let dense_now = subst (λ (t : State). IsDense t.records c.args.node) (sym same) dense in
    if_err c.make_own.result (IsMakeFault now c.args.node) (IsOpenFault s) (λ e told. open_read s now same e (make_breaks now c.args.node dense_now e told))
    (c.make_own.ensures.damaged tells)

-- ---- the node stays dense

pub returns-in-Some-clause-dense : goal.returns-in-Some-clause-dense
returns-in-Some-clause-dense g c = λ tells dense.
    let s = g.S.Reads.state c.args.space.now in
    let now = g.S.Reads.state c.find_group.new.space in
    subst (λ (t : State). IsDense t.records c.args.node) (sym (same_read _ s now c.find_group.ensures.at_most)) dense

pub returns-in-None-clause-dense : goal.returns-in-None-clause-dense
returns-in-None-clause-dense g c = λ tells dense.
    let s = g.S.Reads.state c.args.space.now in
    let now = g.S.Reads.state c.find_group.new.space in
    let end = g.S.Reads.state c.make_own.new.space in
    let dense_now = subst (λ (t : State). IsDense t.records c.args.node) (sym (same_read _ s now c.find_group.ensures.at_most)) dense in
    if_ok c.make_own.result (λ (_ : OwnGroup). end ≡ made now c.args.node c.args.label) (λ (_ : OwnGroup). IsDense end.records c.args.node)
    (λ own is. subst (λ (t : State). IsDense t.records c.args.node) (sym is) (dense_made now c.args.node c.args.label dense_now)) (c.make_own.ensures.ok tells)

-- ---- what is refused writes nothing

pub returns-in_err-row-clause-unwritten : goal.returns-in_err-row-clause-unwritten
returns-in_err-row-clause-unwritten g c =
    let s = g.S.Reads.state c.args.space.now in
    let now = g.S.Reads.state c.find_group.new.space in
    on_refusal c.from_residual.result _ (same_read _ s now c.find_group.ensures.at_most)

pub returns-in-None-clause-unwritten : goal.returns-in-None-clause-unwritten
returns-in-None-clause-unwritten g c =
    let s = g.S.Reads.state c.args.space.now in
    let now = g.S.Reads.state c.find_group.new.space in
    let end = g.S.Reads.state c.make_own.new.space in
    if_refusal c.make_own.result (SameButReads now end) (SameButReads s end) (λ k. same_then s now end (same_read _ s now c.find_group.ensures.at_most) k)
    c.make_own.ensures.unwritten

pub returns-in_err-row-clause-cause : goal.returns-in_err-row-clause-cause
returns-in_err-row-clause-cause g c =
    fault_cause _ _ _ c.from_residual.result c.in_err-row.field-0.0 (omega arith) c.in_err-row.ensures.cause c.from_residual.ensures.1

-- ---- what is left of other records

pub returns-in-Some-clause-leaves_others : goal.returns-in-Some-clause-leaves_others
returns-in-Some-clause-leaves_others g c = λ tells.
    let s = g.S.Reads.state c.args.space.now in
    let now = g.S.Reads.state c.find_group.new.space in
    beside_read s now c.args.node (same_read _ s now c.find_group.ensures.at_most)

pub returns-in-None-clause-leaves_others : goal.returns-in-None-clause-leaves_others
returns-in-None-clause-leaves_others g c = λ tells.
    let s = g.S.Reads.state c.args.space.now in
    let now = g.S.Reads.state c.find_group.new.space in
    let end = g.S.Reads.state c.make_own.new.space in
    let same = same_read _ s now c.find_group.ensures.at_most in
    if_done c.make_own.result (IsDense now.records c.args.node × (end ≡ made now c.args.node c.args.label)) (LeavesBeside s.records end.records c.args.node)
    (λ both. beside_then s.records now.records end.records c.args.node (beside_read s now c.args.node same)
    (subst (λ (t : State). LeavesBeside now.records t.records c.args.node) (sym both.1) (beside_made now c.args.node c.args.label
    (omega (arith, c.ranges.node.fits)) (omega (arith, c.ranges.label.fits)) (first_found now c.args.node c.args.label
    (subst (λ (t : State). IsFound t.records c.args.node c.args.label None) (sym same)
    (subst (IsFound s.records c.args.node c.args.label) c.in-None.is (c.in_ok-row.ensures.found tells))) both.0))))
    (done_both c.make_own.result _ _ (dense_first c.make_own.result now c.args.node (c.make_own.ensures.first tells)) (c.make_own.ensures.ok tells))

-- ---- the groups, whatever the records are

pub returns-in-Some-clause-leads : goal.returns-in-Some-clause-leads
returns-in-Some-clause-leads g c = λ tells.
    let s = g.S.Reads.state c.args.space.now in
    let now = g.S.Reads.state c.find_group.new.space in
    leads_found s now c.args.node c.in-Some.row.id (same_read _ s now c.find_group.ensures.at_most)
    (subst (λ (o : Option GroupRow). IfSome o (λ row. IsReached s.records (first_link s.records c.args.node) row.id)) c.in-Some.is
    (c.in_ok-row.ensures.reached tells))

pub returns-in-None-clause-leads : goal.returns-in-None-clause-leads
returns-in-None-clause-leads g c = λ tells.
    let s = g.S.Reads.state c.args.space.now in
    let now = g.S.Reads.state c.find_group.new.space in
    leads_own c.make_own.result s now (g.S.Reads.state c.make_own.new.space) c.args.node (same_read _ s now c.find_group.ensures.at_most)
    (c.make_own.ensures.leads tells) (first_alone c.make_own.result now c.args.node (c.make_own.ensures.first tells))

pub returns-in-Some-clause-rels : goal.returns-in-Some-clause-rels
returns-in-Some-clause-rels g c = λ tells x.
    let s = g.S.Reads.state c.args.space.now in
    ap (λ (t : State). rec_at t.records relationships_file x) (same_read _ s (g.S.Reads.state c.find_group.new.space) c.find_group.ensures.at_most)

pub returns-in-None-clause-rels : goal.returns-in-None-clause-rels
returns-in-None-clause-rels g c = λ tells.
    let s = g.S.Reads.state c.args.space.now in
    let now = g.S.Reads.state c.find_group.new.space in
    let end = g.S.Reads.state c.make_own.new.space in
    if_done c.make_own.result (end ≡ made now c.args.node c.args.label)
    ((x : ℕ) → rec_at end.records relationships_file x ≡ rec_at s.records relationships_file x)
    (λ is x. ap (λ (t : State). rec_at t.records relationships_file x) is ∙ rels_made now c.args.node c.args.label x ∙ ap
    (λ (t : State). rec_at t.records relationships_file x) (same_read _ s now c.find_group.ensures.at_most)) (c.make_own.ensures.ok tells)

-- ---- the group is the node's, and each node has the heads that it had

pub returns-in-Some-clause-owns : goal.returns-in-Some-clause-owns
returns-in-Some-clause-owns g c = λ tells.
    let s = g.S.Reads.state c.args.space.now in
    let now = g.S.Reads.state c.find_group.new.space in
    let same = same_read _ s now c.find_group.ensures.at_most in
    let found = subst (IsFound s.records c.args.node c.args.label) c.in-Some.is (c.in_ok-row.ensures.found tells) in
    record {
      group = subst (λ (t : State). IsGroupOf t.records c.args.node c.in-Some.row.id) (sym same) found.1.member;
      kept = inl (ap (λ (t : State). t.records (group_key c.in-Some.row.id)) same);
    }

pub returns-in-None-clause-owns : goal.returns-in-None-clause-owns
returns-in-None-clause-owns g c = λ tells.
    own_made c.make_own.result (g.S.Reads.state c.args.space.now) (g.S.Reads.state c.make_own.new.space) c.args.node (c.make_own.ensures.owns tells)

pub returns-in-Some-clause-heads : goal.returns-in-Some-clause-heads
returns-in-Some-clause-heads g c = λ tells.
    let s = g.S.Reads.state c.args.space.now in
    let now = g.S.Reads.state c.find_group.new.space in
    heads_same s now (same_read _ s now c.find_group.ensures.at_most)

pub returns-in-None-clause-heads : goal.returns-in-None-clause-heads
returns-in-None-clause-heads g c = λ tells.
    let s = g.S.Reads.state c.args.space.now in
    let now = g.S.Reads.state c.find_group.new.space in
    let end = g.S.Reads.state c.make_own.new.space in
    if_done c.make_own.result (KeepsHeads now end) (KeepsHeads s end) (λ k. heads_then s now end
    (heads_same s now (same_read _ s now c.find_group.ensures.at_most)) k) (c.make_own.ensures.heads tells)

pub returns-in_err-row-clause-opened : goal.returns-in_err-row-clause-opened
returns-in_err-row-clause-opened g c _ = never_ok c.from_residual.result _ _ c.from_residual.ensures.1

pub returns-in_err-row-clause-local : goal.returns-in_err-row-clause-local
returns-in_err-row-clause-local g c _ = never_ok c.from_residual.result _ _ c.from_residual.ensures.1

pub returns-in_err-row-clause-leads : goal.returns-in_err-row-clause-leads
returns-in_err-row-clause-leads g c _ = never_ok c.from_residual.result _ _ c.from_residual.ensures.1

pub returns-in_err-row-clause-rels : goal.returns-in_err-row-clause-rels
returns-in_err-row-clause-rels g c _ = never_ok c.from_residual.result _ _ c.from_residual.ensures.1

pub returns-in_err-row-clause-key : goal.returns-in_err-row-clause-key
returns-in_err-row-clause-key g c = never_ok c.from_residual.result _ _ c.from_residual.ensures.1

pub returns-in_err-row-clause-row : goal.returns-in_err-row-clause-row
returns-in_err-row-clause-row g c _ = never_ok c.from_residual.result _ _ c.from_residual.ensures.1

pub returns-in_err-row-clause-dense : goal.returns-in_err-row-clause-dense
returns-in_err-row-clause-dense g c _ _ = never_ok c.from_residual.result _ _ c.from_residual.ensures.1

pub returns-in_err-row-clause-owns : goal.returns-in_err-row-clause-owns
returns-in_err-row-clause-owns g c _ = never_ok c.from_residual.result _ _ c.from_residual.ensures.1

pub returns-in_err-row-clause-heads : goal.returns-in_err-row-clause-heads
returns-in_err-row-clause-heads g c _ = never_ok c.from_residual.result _ _ c.from_residual.ensures.1

pub returns-in_err-row-clause-leaves_others : goal.returns-in_err-row-clause-leaves_others
returns-in_err-row-clause-leaves_others g c _ = never_ok c.from_residual.result _ _ c.from_residual.ensures.1

pub returns-in_err-row-clause-group : goal.returns-in_err-row-clause-group
returns-in_err-row-clause-group g c _ = never_ok c.from_residual.result _ _ c.from_residual.ensures.1

pub returns-in_err-row-clause-grows : goal.returns-in_err-row-clause-grows
returns-in_err-row-clause-grows g c _ = never_ok c.from_residual.result _ _ c.from_residual.ensures.1

pub returns-in_err-row-clause-wrote : goal.returns-in_err-row-clause-wrote
returns-in_err-row-clause-wrote g c = never_ok c.from_residual.result _ _ c.from_residual.ensures.1

pub returns-in_err-row-clause-onward : goal.returns-in_err-row-clause-onward
returns-in_err-row-clause-onward g c = search rules

-- ---- which record is named

pub returns-in_err-row-clause-names : goal.returns-in_err-row-clause-names
returns-in_err-row-clause-names g c = λ tells.
    let s = g.S.Reads.state c.args.space.now in
    let p = err_from_is_err_and c.from_residual.result c.from_residual.ensures.1 in
    rw (p.1, p.2) (find_named s s c.args.node c.in_err-row.field-0.0 (c.in_err-row.ensures.damaged tells))

pub returns-in-None-clause-names : goal.returns-in-None-clause-names
returns-in-None-clause-names g c = λ tells.
    let s = g.S.Reads.state c.args.space.now in
    let now = g.S.Reads.state c.find_group.new.space in
    if_err c.make_own.result (IsMakeFault now c.args.node) (NamesAt s c.args.node) (make_named s now c.args.node) (c.make_own.ensures.damaged tells)

-- ---- the groups of a node that became dense

pub returns-in_err-row-clause-listed : goal.returns-in_err-row-clause-listed
returns-in_err-row-clause-listed g c = λ tells dense h.
    let s = g.S.Reads.state c.args.space.now in
    let p = err_from_is_err_and c.from_residual.result c.from_residual.ensures.1 in
    rw (p.1, p.2) (find_listed s c.args.node dense h c.in_err-row.field-0.0 (c.in_err-row.ensures.damaged tells))

pub returns-in-None-clause-listed : goal.returns-in-None-clause-listed
returns-in-None-clause-listed g c = λ tells dense h.
    let s = g.S.Reads.state c.args.space.now in
    let now = g.S.Reads.state c.find_group.new.space in
    let same = same_read _ s now c.find_group.ensures.at_most in
    if_err c.make_own.result (IsMakeFault now c.args.node) NamesNoNode
    (make_listed now c.args.node (subst (λ (t : State). IsDense t.records c.args.node) (sym same) dense) (list_read s now c.args.node same h))
    (c.make_own.ensures.damaged tells)

pub returns-in-Some-clause-list : goal.returns-in-Some-clause-list
returns-in-Some-clause-list g c = λ tells h.
    let s = g.S.Reads.state c.args.space.now in
    let now = g.S.Reads.state c.find_group.new.space in
    let found = subst (IsFound s.records c.args.node c.args.label) c.in-Some.is (c.in_ok-row.ensures.found tells) in
    let key = subst (λ (o : Option GroupRow). IfSome o (λ row. IsKey (group_key row.id))) c.in-Some.is c.in_ok-row.ensures.key in (
      list_read s now c.args.node (same_read _ s now c.find_group.ensures.at_most) h,
      found_counted s c.args.node c.in-Some.row h
          (subst (λ (o : Option GroupRow). IfSome o (λ row. IsReached s.records (first_link s.records c.args.node) row.id)) c.in-Some.is
          (c.in_ok-row.ensures.reached tells)) (omega (arith, key.id)) found.1.is,
    )

pub returns-in-None-clause-list : goal.returns-in-None-clause-list
returns-in-None-clause-list g c = λ tells.
    let s = g.S.Reads.state c.args.space.now in
    let now = g.S.Reads.state c.find_group.new.space in
    list_own c.make_own.result s now (g.S.Reads.state c.make_own.new.space) c.args.node (same_read _ s now c.find_group.ensures.at_most)
    (c.make_own.ensures.list tells) c.make_own.ensures.counted

pub returns-in_err-row-clause-list : goal.returns-in_err-row-clause-list
returns-in_err-row-clause-list g c _ = never_ok c.from_residual.result _ _ c.from_residual.ensures.1

-- ---- the free list of the groups

pub returns-in_err-row-clause-metas : goal.returns-in_err-row-clause-metas
returns-in_err-row-clause-metas g c = λ tells.
    let s = g.S.Reads.state c.args.space.now in
    let now = g.S.Reads.state c.find_group.new.space in
    let p = err_from_is_err_and c.from_residual.result c.from_residual.ensures.1 in
    rw (p.1, p.2) (find_metas 1 s now c.args.node c.in_err-row.field-0.0 (c.in_err-row.ensures.damaged tells))

pub returns-in-None-clause-metas : goal.returns-in-None-clause-metas
returns-in-None-clause-metas g c = λ tells.
    let s = g.S.Reads.state c.args.space.now in
    let now = g.S.Reads.state c.find_group.new.space in
    own_metas s now (g.S.Reads.state c.make_own.new.space) c.args.node c.make_own.result (same_read _ s now c.find_group.ensures.at_most)
    (c.make_own.ensures.damaged tells) c.make_own.ensures.unwritten

pub returns-in-Some-clause-lists : goal.returns-in-Some-clause-lists
returns-in-Some-clause-lists g c = λ tells.
    let s = g.S.Reads.state c.args.space.now in
    let now = g.S.Reads.state c.find_group.new.space in
    reads_harm_none s now groups_file (same_read _ s now c.find_group.ensures.at_most)

pub returns-in-None-clause-lists : goal.returns-in-None-clause-lists
returns-in-None-clause-lists g c = λ tells.
    let s = g.S.Reads.state c.args.space.now in
    let now = g.S.Reads.state c.find_group.new.space in
    let end = g.S.Reads.state c.make_own.new.space in
    if_done c.make_own.result (HarmsNoList now end groups_file) (HarmsNoList s end groups_file)
    (λ harmless. harms_none_then s now end groups_file (reads_harm_none s now groups_file (same_read _ s now c.find_group.ensures.at_most)) harmless)
    (c.make_own.ensures.lists tells)

pub returns-in_err-row-clause-lists : goal.returns-in_err-row-clause-lists
returns-in_err-row-clause-lists g c _ = never_ok c.from_residual.result _ _ c.from_residual.ensures.1

-- ---- a group that is named

pub returns-in_err-row-clause-groups : goal.returns-in_err-row-clause-groups
returns-in_err-row-clause-groups g c = λ tells.
    let s = g.S.Reads.state c.args.space.now in
    let now = g.S.Reads.state c.find_group.new.space in
    let p = err_from_is_err_and c.from_residual.result c.from_residual.ensures.1 in
    rw (p.1, p.2) (find_apart s now c.args.node c.in_err-row.field-0.0 (same_read _ s now c.find_group.ensures.at_most) (c.in_err-row.ensures.damaged tells))

pub returns-in-None-clause-groups : goal.returns-in-None-clause-groups
returns-in-None-clause-groups g c = λ tells.
    let s = g.S.Reads.state c.args.space.now in
    let now = g.S.Reads.state c.find_group.new.space in
    let end = g.S.Reads.state c.make_own.new.space in
    if_err c.make_own.result (IsMakeFault now c.args.node) (NamesNoGroup s end)
    (λ fault told. apart_read s now end fault (same_read _ s now c.find_group.ensures.at_most) (make_apart now end c.args.node fault told))
    (c.make_own.ensures.damaged tells)

-- ---- how many groups are counted

pub returns-in_err-row-clause-room : goal.returns-in_err-row-clause-room
returns-in_err-row-clause-room g c _ = never_ok c.from_residual.result _ _ c.from_residual.ensures.1

pub returns-in-Some-clause-room : goal.returns-in-Some-clause-room
returns-in-Some-clause-room g c = λ tells.
    let s = g.S.Reads.state c.args.space.now in
    let now = g.S.Reads.state c.find_group.new.space in
    let same = grows_read s now (same_read _ s now c.find_group.ensures.at_most) in
    omega (arith, same)

pub returns-in-None-clause-room : goal.returns-in-None-clause-room
returns-in-None-clause-room g c = λ tells.
    let s = g.S.Reads.state c.args.space.now in
    let now = g.S.Reads.state c.find_group.new.space in
    let end = g.S.Reads.state c.make_own.new.space in
    let same = grows_read s now (same_read _ s now c.find_group.ensures.at_most) in
    if_done c.make_own.result (end ≡ made now c.args.node c.args.label) (GrowsAtMost s end 1)
    (λ is. grows_then 0 1 s now end same (subst (λ (t : State). GrowsAtMost now t 1) (sym is) (grows_made now c.args.node c.args.label)))
    (c.make_own.ensures.ok tells)
