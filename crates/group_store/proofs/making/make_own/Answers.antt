use Rattle.std.proofs.Common.{◌≡◌, ap, sym, subst, arith, rules}
use Rattle.std.specs.Prelude.{IfSome, Option, ℕ, ◌∷◌, ◌++◌, []}
use Rattle.group_store.specs.declared.group_row.GroupRow.{GroupRow}
use Rattle.std.proofs.lemmas.Bool.{false≢true}
use Rattle.std.proofs.lemmas.Result.{err_from_is_err_and}
use Rattle.node_store.specs.NodeRecord.{node_key}
use Rattle.rec_bytes.specs.Format.{groups_file, node_first_link, nodes_file}
use Rattle.rec_bytes.specs.RecordFiles.{meta_key_of}
use Rattle.store_rules.specs.Views.{first_link, rec_at}
use Rattle.group_store.specs.FirstGroup.{IsFirst}
use Rattle.group_store.specs.GroupRecord.{group_key}
use Rattle.group_store.specs.Making.{IsEmptyOf, IsMakeDamage, link_damage}
use Rattle.group_store.specs.Making.IsMakeDamage.{NotDense, BadLink}
use Rattle.group_store.specs.Spreading.{LeadsAmong}
use Rattle.group_store.proofs.Leadings.{leads_made}
use Rattle.group_store.proofs.MadeHeads.{empty_made, heads_made}
use Rattle.rec_bytes.proofs.Numbers.{field-lt}
use Rattle.group_store.proofs.MakeSteps.{all_writes, link_told, made_has, made_is, node_told, right_first}
use Rattle.group_store.proofs.MakeSteps.{same_read, same_then, same_writes, take_right, take_told}
use Rattle.group_store.proofs.MadeRules.{rules_made}
use Rattle.id_freelist.specs.Taking.{room}
use Rattle.rec_bytes.specs.Space.{State, WritesOnly, after_get, meta_of}
use Rattle.group_store.proofs.OpenFaults.{damage_cause, fault_cause, on_refusal, space_has, take_cause}
use Rattle.rec_bytes.proofs.Causes.{never_ok}
use Rattle.group_store.proofs.CountedLists.{list_made}
use Rattle.group_store.proofs.GroupMetas.{made_harms_none}
use Rattle.group_store.proofs.making.make_own.Goals as goal

pub returns-in_err-first-clause-damaged : goal.returns-in_err-first-clause-damaged
returns-in_err-first-clause-damaged g c = λ tells.
    let p = err_from_is_err_and c.from_residual.result c.from_residual.ensures.1 in
    rw (p.1, p.2) (node_told (g.S.Reads.state c.args.space.now) c.args.node c.in_err-first.field-0.0 (c.in_err-first.ensures.damaged tells))

pub returns-in_err-first-clause-unwritten : goal.returns-in_err-first-clause-unwritten
returns-in_err-first-clause-unwritten g c =
    on_refusal c.from_residual.result _ (same_read 1 (g.S.Reads.state c.args.space.now)
    (g.S.Reads.state c.first_group.new.space) c.in_err-first.ensures.at_most)

pub returns-in_err-first-clause-writes : goal.returns-in_err-first-clause-writes
returns-in_err-first-clause-writes g c =
    let s = g.S.Reads.state c.args.space.now in
    (0, 0, same_writes s (g.S.Reads.state c.first_group.new.space) _ (same_read 1 s (g.S.Reads.state c.first_group.new.space) c.in_err-first.ensures.at_most))

pub returns-in_default-clause-damaged : goal.returns-in_default-clause-damaged
returns-in_default-clause-damaged g c = λ tells.
    let s = g.S.Reads.state c.args.space.now in
    subst (IsMakeDamage s c.args.node) (sym c.chain_damage.ensures) (NotDense (subst (IsFirst s.records c.args.node) c.in_default.is
    (c.in_ok-first.ensures.first tells)))

pub returns-in_default-clause-unwritten : goal.returns-in_default-clause-unwritten
returns-in_default-clause-unwritten g c = same_read 1 (g.S.Reads.state c.args.space.now) (g.S.Reads.state c.first_group.new.space) c.in_ok-first.ensures.at_most

pub returns-in_default-clause-writes : goal.returns-in_default-clause-writes
returns-in_default-clause-writes g c =
    let s = g.S.Reads.state c.args.space.now in
    (0, 0, same_writes s (g.S.Reads.state c.first_group.new.space) _ (same_read 1 s (g.S.Reads.state c.first_group.new.space) c.in_ok-first.ensures.at_most))

pub returns-in_err-test_link-clause-damaged : goal.returns-in_err-test_link-clause-damaged
returns-in_err-test_link-clause-damaged g c = λ tells.
    let s = g.S.Reads.state c.args.space.now in
    let p = err_from_is_err_and c.from_residual-in_err-test_link.result c.from_residual-in_err-test_link.ensures.1 in
    let first = subst (IsFirst s.records c.args.node) c.in-Some.is (c.in_ok-first.ensures.first tells) in
    let reads = c.in_ok-first.ensures.at_most in
    rw (p.1, p.2) (BadLink c.in_err-test_link.field-0.0 (link_told s (g.S.Reads.state c.first_group.new.space) reads.count c.in-Some.first
    (first_link s.records c.args.node) (link_damage c.args.node) c.in_err-test_link.field-0.0
    reads.is first.1 c.in_err-test_link.ensures.damaged))

pub returns-in_err-test_link-clause-not_damaged : goal.returns-in_err-test_link-clause-not_damaged
returns-in_err-test_link-clause-not_damaged g c = λ tells readable free xs can dense room.
    let s = g.S.Reads.state c.args.space.now in
    let first = subst (IsFirst s.records c.args.node) c.in-Some.is (c.in_ok-first.ensures.first tells) in
    let reads = c.in_ok-first.ensures.at_most in
    let is_ok = c.in_err-test_link.ensures.not_damaged (right_first s
    (g.S.Reads.state c.first_group.new.space) reads.count c.args.node c.args.label c.in-Some.first
    free xs reads.is first.1 can) in
    absurd (false≢true is_ok)

pub returns-in_err-test_link-clause-unwritten : goal.returns-in_err-test_link-clause-unwritten
returns-in_err-test_link-clause-unwritten g c =
    on_refusal c.from_residual-in_err-test_link.result _ (same_read 1 (g.S.Reads.state c.args.space.now) (g.S.Reads.state c.first_group.new.space)
    c.in_ok-first.ensures.at_most)

pub returns-in_err-test_link-clause-writes : goal.returns-in_err-test_link-clause-writes
returns-in_err-test_link-clause-writes g c =
    let s = g.S.Reads.state c.args.space.now in
    (0, 0, same_writes s (g.S.Reads.state c.first_group.new.space) _ (same_read 1 s (g.S.Reads.state c.first_group.new.space) c.in_ok-first.ensures.at_most))

pub returns-in_err-id-clause-damaged : goal.returns-in_err-id-clause-damaged
returns-in_err-id-clause-damaged g c = λ tells.
    let s = g.S.Reads.state c.args.space.now in
    let now = g.S.Reads.state c.first_group.new.space in
    let read : now ≡ after_get s = subst (λ (first : Option ℕ). IfSome first (λ _. now ≡ after_get s)) c.in-Some.is (c.in_ok-first.ensures.read tells) in
    let p = err_from_is_err_and c.from_residual-in_err-id.result c.from_residual-in_err-id.ensures.1 in
    rw (p.1, p.2) (take_told s now c.args.node c.in_err-id.field-0.0 read (c.in_err-id.ensures.refused tells))

pub returns-in_err-id-clause-not_damaged : goal.returns-in_err-id-clause-not_damaged
returns-in_err-id-clause-not_damaged g c = λ tells readable free xs can dense some.
    let s = g.S.Reads.state c.args.space.now in
    let now = g.S.Reads.state c.first_group.new.space in
    let read : now ≡ after_get s = subst (λ (first : Option ℕ). IfSome first (λ _. now ≡ after_get s)) c.in-Some.is (c.in_ok-first.ensures.read tells) in
    let p = err_from_is_err_and c.from_residual-in_err-id.result c.from_residual-in_err-id.ensures.1 in
    rw (p.1, p.2) (take_right s now free c.in_err-id.field-0.0 read can.take some (c.in_err-id.ensures.refused tells)
    (c.in_err-id.ensures.not_damaged tells free))

pub returns-in_err-id-clause-unwritten : goal.returns-in_err-id-clause-unwritten
returns-in_err-id-clause-unwritten g c =
    let s = g.S.Reads.state c.args.space.now in
    let now = g.S.Reads.state c.first_group.new.space in
    on_refusal c.from_residual-in_err-id.result _ (same_then s now (g.S.Reads.state c.take.new.space) (same_read 1 s now c.in_ok-first.ensures.at_most)
    c.in_err-id.ensures.err)

pub returns-in_err-id-clause-writes : goal.returns-in_err-id-clause-writes
returns-in_err-id-clause-writes g c =
    let s = g.S.Reads.state c.args.space.now in
    let now = g.S.Reads.state c.first_group.new.space in (
      0,
      0,
      same_writes s (g.S.Reads.state c.take.new.space) _ (same_then s now (g.S.Reads.state c.take.new.space)
          (same_read 1 s now c.in_ok-first.ensures.at_most) c.in_err-id.ensures.err),
    )

pub returns-in_err-id-clause-cause : goal.returns-in_err-id-clause-cause
returns-in_err-id-clause-cause g c =
    take_cause _ _ _ c.from_residual-in_err-id.result c.in_err-id.field-0.0 c.in_ok-first.ensures.cause.later c.in_err-id.ensures.cause
    c.from_residual-in_err-id.ensures.1

pub returns-in_err-id-clause-onward : goal.returns-in_err-id-clause-onward
returns-in_err-id-clause-onward g c = g.met.S.Reads.further_onward _ _ _ c.in_ok-first.ensures.onward c.in_err-id.ensures.onward

pub returns-in_err-id-clause-shape : goal.returns-in_err-id-clause-shape
returns-in_err-id-clause-shape g c _ =
    g.met.S.Reads.onward_shape _ _ (g.met.S.Reads.further_onward _ _ _ c.in_ok-first.ensures.onward c.in_err-id.ensures.onward)

pub returns-in_err-id-clause-made : goal.returns-in_err-id-clause-made
returns-in_err-id-clause-made g c _ = never_ok c.from_residual-in_err-id.result _ _ c.from_residual-in_err-id.ensures.1

pub returns-in_err-id-clause-ok : goal.returns-in_err-id-clause-ok
returns-in_err-id-clause-ok g c _ = never_ok c.from_residual-in_err-id.result _ _ c.from_residual-in_err-id.ensures.1

pub returns-in_err-id-clause-key : goal.returns-in_err-id-clause-key
returns-in_err-id-clause-key g c = never_ok c.from_residual-in_err-id.result _ _ c.from_residual-in_err-id.ensures.1

pub returns-in_err-id-clause-counted : goal.returns-in_err-id-clause-counted
returns-in_err-id-clause-counted g c = never_ok c.from_residual-in_err-id.result _ _ c.from_residual-in_err-id.ensures.1

pub returns-in_err-id-clause-rules : goal.returns-in_err-id-clause-rules
returns-in_err-id-clause-rules g c _ = never_ok c.from_residual-in_err-id.result _ _ c.from_residual-in_err-id.ensures.1

pub returns-in_err-id-clause-owns : goal.returns-in_err-id-clause-owns
returns-in_err-id-clause-owns g c _ = never_ok c.from_residual-in_err-id.result _ _ c.from_residual-in_err-id.ensures.1

pub returns-in_err-id-clause-heads : goal.returns-in_err-id-clause-heads
returns-in_err-id-clause-heads g c _ = never_ok c.from_residual-in_err-id.result _ _ c.from_residual-in_err-id.ensures.1

pub returns-in_err-id-clause-first : goal.returns-in_err-id-clause-first
returns-in_err-id-clause-first g c _ = never_ok c.from_residual-in_err-id.result _ _ c.from_residual-in_err-id.ensures.1

pub returns-in_err-id-clause-leads : goal.returns-in_err-id-clause-leads
returns-in_err-id-clause-leads g c _ = never_ok c.from_residual-in_err-id.result _ _ c.from_residual-in_err-id.ensures.1

pub returns-in_err-id-clause-list : goal.returns-in_err-id-clause-list
returns-in_err-id-clause-list g c _ = never_ok c.from_residual-in_err-id.result _ _ c.from_residual-in_err-id.ensures.1

pub returns-in_err-id-clause-lists : goal.returns-in_err-id-clause-lists
returns-in_err-id-clause-lists g c _ = never_ok c.from_residual-in_err-id.result _ _ c.from_residual-in_err-id.ensures.1

pub returns-in_err-id-clause-wrote : goal.returns-in_err-id-clause-wrote
returns-in_err-id-clause-wrote g c = never_ok c.from_residual-in_err-id.result _ _ c.from_residual-in_err-id.ensures.1

pub returns-in_err-lead-clause-writes : goal.returns-in_err-lead-clause-writes
returns-in_err-lead-clause-writes g c =
    let s = g.S.Reads.state c.args.space.now in
    let now = g.S.Reads.state c.first_group.new.space in (
      c.in_ok-id.id,
      c.in-Some.first,
      all_writes s now (g.S.Reads.state c.take.new.space) (g.S.Reads.state c.lead.new.space) (group_key c.in_ok-id.id) (group_key c.in-Some.first)
          (node_key c.args.node) (meta_key_of groups_file)
          (same_read 1 s now c.in_ok-first.ensures.at_most) c.in_ok-id.ensures.writes c.in_err-lead.ensures.writes,
    )

pub returns-clause-writes : goal.returns-clause-writes
returns-clause-writes g c =
    let s = g.S.Reads.state c.args.space.now in
    let now = g.S.Reads.state c.first_group.new.space in (
      c.in_ok-id.id,
      c.in-Some.first,
      all_writes s now (g.S.Reads.state c.take.new.space) (g.S.Reads.state c.lead.new.space) (group_key c.in_ok-id.id) (group_key c.in-Some.first)
          (node_key c.args.node) (meta_key_of groups_file)
          (same_read 1 s now c.in_ok-first.ensures.at_most) c.in_ok-id.ensures.writes c.in_ok-lead.ensures.writes,
    )

pub returns-clause-ok : goal.returns-clause-ok
returns-clause-ok g c = λ tells.
    let s = g.S.Reads.state c.args.space.now in
    let now = g.S.Reads.state c.first_group.new.space in
    let read : now ≡ after_get s = subst (λ (first : Option ℕ). IfSome first (λ _. now ≡ after_get s)) c.in-Some.is (c.in_ok-first.ensures.read tells) in
    let first = subst (IsFirst s.records c.args.node) c.in-Some.is (c.in_ok-first.ensures.first tells) in
    made_is s now (g.S.Reads.state c.take.new.space) (g.S.Reads.state c.lead.new.space) c.args.node c.args.label
    c.in-Some.first c.in_ok-id.id c.empty_group.result
    read (c.in_ok-id.ensures.ok tells) first.1 c.in_ok-id.ensures.is c.empty_group.ensures (c.in_ok-lead.ensures.ok tells)

pub returns-clause-made : goal.returns-clause-made
returns-clause-made g c = λ tells free xs can.
    let s = g.S.Reads.state c.args.space.now in
    let now = g.S.Reads.state c.first_group.new.space in
    let read : now ≡ after_get s = subst (λ (first : Option ℕ). IfSome first (λ _. now ≡ after_get s)) c.in-Some.is (c.in_ok-first.ensures.read tells) in
    let first = subst (IsFirst s.records c.args.node) c.in-Some.is (c.in_ok-first.ensures.first tells) in
    made_has s now (g.S.Reads.state c.take.new.space) (g.S.Reads.state c.lead.new.space) c.args.node c.args.label c.in-Some.first c.in_ok-id.id
    c.empty_group.result c.empty_row.result free xs
    read (c.in_ok-id.ensures.taken tells free) (c.in_ok-id.ensures.fresh tells) first.1 c.empty_group.ensures
    (c.in_ok-lead.ensures.ok tells) c.empty_row.ensures
    (omega (arith, c.in_ok-id.ensures.key.id)) (omega (arith, c.ranges.node.fits)) (omega (arith, c.ranges.label.fits)) can

pub returns-clause-leads : goal.returns-clause-leads
returns-clause-leads g c = λ tells came groups leads.
    let s = g.S.Reads.state c.args.space.now in
    let now = g.S.Reads.state c.first_group.new.space in
    let end = g.S.Reads.state c.lead.new.space in
    let read : now ≡ after_get s = subst (λ (first : Option ℕ). IfSome first (λ _. now ≡ after_get s)) c.in-Some.is (c.in_ok-first.ensures.read tells) in
    let first = subst (IsFirst s.records c.args.node) c.in-Some.is (c.in_ok-first.ensures.first tells) in
    let id : c.in_ok-id.id ≡ c.empty_row.result.id = sym (ap (λ (r : GroupRow). r.id) c.empty_row.ensures) in
    subst (λ k. LeadsAmong end.records c.args.node came (groups ++ k ∷ [])) id
    (leads_made s now (g.S.Reads.state c.take.new.space) end c.args.node c.args.label c.in-Some.first c.in_ok-id.id c.empty_group.result
    read (c.in_ok-id.ensures.ok tells) c.in_ok-id.ensures.is (c.in_ok-id.ensures.undamaged tells) (c.in_ok-id.ensures.fresh tells) first.1 c.empty_group.ensures
    (c.in_ok-lead.ensures.ok tells)
    (omega (arith, c.in_ok-id.ensures.key.id)) (omega (arith, c.ranges.node.fits)) (omega (arith, c.ranges.label.fits)) came groups leads)

pub returns-clause-wrote : goal.returns-clause-wrote
returns-clause-wrote g c =
    let s = g.S.Reads.state c.args.space.now in
    let now = g.S.Reads.state c.first_group.new.space in
    let id : c.in_ok-id.id ≡ c.empty_row.result.id = sym (ap (λ (r : GroupRow). r.id) c.empty_row.ensures) in
    subst (λ k. WritesOnly s (g.S.Reads.state c.lead.new.space) (group_key k ∷ group_key c.in-Some.first ∷ node_key c.args.node ∷ meta_key_of groups_file ∷ []))
    id
    (all_writes s now (g.S.Reads.state c.take.new.space) (g.S.Reads.state c.lead.new.space) (group_key c.in_ok-id.id) (group_key c.in-Some.first)
    (node_key c.args.node) (meta_key_of groups_file)
    (same_read 1 s now c.in_ok-first.ensures.at_most) c.in_ok-id.ensures.writes c.in_ok-lead.ensures.writes)

pub returns-clause-first : goal.returns-clause-first
returns-clause-first g c = λ tells.
    let s = g.S.Reads.state c.args.space.now in
    subst (IsFirst s.records c.args.node) c.in-Some.is (c.in_ok-first.ensures.first tells)

pub returns-clause-rules : goal.returns-clause-rules
returns-clause-rules g c = λ tells rest most empty keeps dense lacks.
    let s = g.S.Reads.state c.args.space.now in
    let now = g.S.Reads.state c.first_group.new.space in
    let read : now ≡ after_get s = subst (λ (first : Option ℕ). IfSome first (λ _. now ≡ after_get s)) c.in-Some.is (c.in_ok-first.ensures.read tells) in
    let first = subst (IsFirst s.records c.args.node) c.in-Some.is (c.in_ok-first.ensures.first tells) in
    rules_made s now (g.S.Reads.state c.take.new.space) (g.S.Reads.state c.lead.new.space) c.args.node c.args.label c.in-Some.first c.in_ok-id.id
    c.empty_group.result c.empty_row.result
    read (λ free. c.in_ok-id.ensures.taken tells free) (c.in_ok-id.ensures.fresh tells) c.in_ok-id.ensures.small (c.in_ok-id.ensures.ok tells)
    first.1 c.empty_group.ensures
    (c.in_ok-lead.ensures.ok tells) c.empty_row.ensures
    (omega (arith, c.ranges.node.fits)) (omega (arith, c.ranges.label.fits)) rest most empty keeps dense lacks

-- ---- a full file

pub returns-clause-full : goal.returns-clause-full
returns-clause-full g c = λ tells full.
    let s = g.S.Reads.state c.args.space.now in
    let now = g.S.Reads.state c.first_group.new.space in
    let read : now ≡ after_get s = subst (λ (first : Option ℕ). IfSome first (λ _. now ≡ after_get s)) c.in-Some.is (c.in_ok-first.ensures.read tells) in
    let e = c.in_ok-id.ensures.full (subst (λ (q : State). (meta_of q groups_file).live ≡ room q groups_file) (sym read) full) in
    absurd cc

pub returns-in_err-first-clause-cause : goal.returns-in_err-first-clause-cause
returns-in_err-first-clause-cause g c =
    fault_cause _ _ _ c.from_residual.result c.in_err-first.field-0.0 (omega arith) c.in_err-first.ensures.cause c.from_residual.ensures.1

pub returns-in_err-test_link-clause-cause : goal.returns-in_err-test_link-clause-cause
returns-in_err-test_link-clause-cause g c =
    damage_cause _ _ c.from_residual-in_err-test_link.result c.in_err-test_link.field-0.0 c.in_ok-first.ensures.cause.later
    c.from_residual-in_err-test_link.ensures.1

-- ---- the group is the node's, and each node has the heads that it had

pub returns-clause-owns : goal.returns-clause-owns
returns-clause-owns g c = λ tells.
    let s = g.S.Reads.state c.args.space.now in
    let now = g.S.Reads.state c.first_group.new.space in
    let read : now ≡ after_get s = subst (λ (first : Option ℕ). IfSome first (λ _. now ≡ after_get s)) c.in-Some.is (c.in_ok-first.ensures.read tells) in
    let first = subst (IsFirst s.records c.args.node) c.in-Some.is (c.in_ok-first.ensures.first tells) in
    let id : c.in_ok-id.id ≡ c.empty_row.result.id = sym (ap (λ (r : GroupRow). r.id) c.empty_row.ensures) in
    let fits = field-lt 4 (rec_at s.records nodes_file c.args.node) node_first_link in
    subst (λ k. IsEmptyOf (g.S.Reads.state c.lead.new.space).records c.args.node k) id
    (empty_made now (g.S.Reads.state c.take.new.space) c.args.node c.args.label c.in-Some.first c.in_ok-id.id c.empty_group.result
    (c.in_ok-id.ensures.ok tells) c.in_ok-id.ensures.is (c.in_ok-id.ensures.undamaged tells) (c.in_ok-id.ensures.fresh tells) c.empty_group.ensures
    (omega (arith, c.in_ok-id.ensures.key.id)) (omega (arith, c.ranges.node.fits)) (omega (arith, c.ranges.label.fits)) (omega (arith, first.1, fits)) s
    (g.S.Reads.state c.lead.new.space) read (c.in_ok-lead.ensures.ok tells))

pub returns-clause-heads : goal.returns-clause-heads
returns-clause-heads g c = λ tells.
    let s = g.S.Reads.state c.args.space.now in
    let now = g.S.Reads.state c.first_group.new.space in
    let read : now ≡ after_get s = subst (λ (first : Option ℕ). IfSome first (λ _. now ≡ after_get s)) c.in-Some.is (c.in_ok-first.ensures.read tells) in
    let first = subst (IsFirst s.records c.args.node) c.in-Some.is (c.in_ok-first.ensures.first tells) in
    let fits = field-lt 4 (rec_at s.records nodes_file c.args.node) node_first_link in
    heads_made now (g.S.Reads.state c.take.new.space) c.args.node c.args.label c.in-Some.first c.in_ok-id.id c.empty_group.result
    (c.in_ok-id.ensures.ok tells) c.in_ok-id.ensures.is (c.in_ok-id.ensures.undamaged tells) (c.in_ok-id.ensures.fresh tells) c.empty_group.ensures
    (omega (arith, c.in_ok-id.ensures.key.id)) (omega (arith, c.ranges.node.fits)) (omega (arith, c.ranges.label.fits)) (omega (arith, first.1, fits)) s
    (g.S.Reads.state c.lead.new.space) read (c.in_ok-lead.ensures.ok tells)

pub returns-in_err-first-clause-made : goal.returns-in_err-first-clause-made
returns-in_err-first-clause-made g c _ = never_ok c.from_residual.result _ _ c.from_residual.ensures.1

pub returns-in_err-first-clause-ok : goal.returns-in_err-first-clause-ok
returns-in_err-first-clause-ok g c _ = never_ok c.from_residual.result _ _ c.from_residual.ensures.1

pub returns-in_err-first-clause-key : goal.returns-in_err-first-clause-key
returns-in_err-first-clause-key g c = never_ok c.from_residual.result _ _ c.from_residual.ensures.1

pub returns-in_err-first-clause-counted : goal.returns-in_err-first-clause-counted
returns-in_err-first-clause-counted g c = never_ok c.from_residual.result _ _ c.from_residual.ensures.1

pub returns-in_err-first-clause-rules : goal.returns-in_err-first-clause-rules
returns-in_err-first-clause-rules g c _ = never_ok c.from_residual.result _ _ c.from_residual.ensures.1

pub returns-in_err-first-clause-owns : goal.returns-in_err-first-clause-owns
returns-in_err-first-clause-owns g c _ = never_ok c.from_residual.result _ _ c.from_residual.ensures.1

pub returns-in_err-first-clause-heads : goal.returns-in_err-first-clause-heads
returns-in_err-first-clause-heads g c _ = never_ok c.from_residual.result _ _ c.from_residual.ensures.1

pub returns-in_err-first-clause-first : goal.returns-in_err-first-clause-first
returns-in_err-first-clause-first g c _ = never_ok c.from_residual.result _ _ c.from_residual.ensures.1

pub returns-in_err-first-clause-leads : goal.returns-in_err-first-clause-leads
returns-in_err-first-clause-leads g c _ = never_ok c.from_residual.result _ _ c.from_residual.ensures.1

pub returns-in_err-first-clause-wrote : goal.returns-in_err-first-clause-wrote
returns-in_err-first-clause-wrote g c = never_ok c.from_residual.result _ _ c.from_residual.ensures.1

pub returns-in_err-first-clause-onward : goal.returns-in_err-first-clause-onward
returns-in_err-first-clause-onward g c = search rules

pub returns-in_err-test_link-clause-made : goal.returns-in_err-test_link-clause-made
returns-in_err-test_link-clause-made g c _ = never_ok c.from_residual-in_err-test_link.result _ _ c.from_residual-in_err-test_link.ensures.1

pub returns-in_err-test_link-clause-ok : goal.returns-in_err-test_link-clause-ok
returns-in_err-test_link-clause-ok g c _ = never_ok c.from_residual-in_err-test_link.result _ _ c.from_residual-in_err-test_link.ensures.1

pub returns-in_err-test_link-clause-key : goal.returns-in_err-test_link-clause-key
returns-in_err-test_link-clause-key g c = never_ok c.from_residual-in_err-test_link.result _ _ c.from_residual-in_err-test_link.ensures.1

pub returns-in_err-test_link-clause-counted : goal.returns-in_err-test_link-clause-counted
returns-in_err-test_link-clause-counted g c = never_ok c.from_residual-in_err-test_link.result _ _ c.from_residual-in_err-test_link.ensures.1

pub returns-in_err-test_link-clause-rules : goal.returns-in_err-test_link-clause-rules
returns-in_err-test_link-clause-rules g c _ = never_ok c.from_residual-in_err-test_link.result _ _ c.from_residual-in_err-test_link.ensures.1

pub returns-in_err-test_link-clause-owns : goal.returns-in_err-test_link-clause-owns
returns-in_err-test_link-clause-owns g c _ = never_ok c.from_residual-in_err-test_link.result _ _ c.from_residual-in_err-test_link.ensures.1

pub returns-in_err-test_link-clause-heads : goal.returns-in_err-test_link-clause-heads
returns-in_err-test_link-clause-heads g c _ = never_ok c.from_residual-in_err-test_link.result _ _ c.from_residual-in_err-test_link.ensures.1

pub returns-in_err-test_link-clause-first : goal.returns-in_err-test_link-clause-first
returns-in_err-test_link-clause-first g c _ = never_ok c.from_residual-in_err-test_link.result _ _ c.from_residual-in_err-test_link.ensures.1

pub returns-in_err-test_link-clause-leads : goal.returns-in_err-test_link-clause-leads
returns-in_err-test_link-clause-leads g c _ = never_ok c.from_residual-in_err-test_link.result _ _ c.from_residual-in_err-test_link.ensures.1

pub returns-in_err-test_link-clause-wrote : goal.returns-in_err-test_link-clause-wrote
returns-in_err-test_link-clause-wrote g c = never_ok c.from_residual-in_err-test_link.result _ _ c.from_residual-in_err-test_link.ensures.1

pub returns-in_err-lead-clause-made : goal.returns-in_err-lead-clause-made
returns-in_err-lead-clause-made g c _ = never_ok c.from_residual-in_err-lead.result _ _ c.from_residual-in_err-lead.ensures.1

pub returns-in_err-lead-clause-ok : goal.returns-in_err-lead-clause-ok
returns-in_err-lead-clause-ok g c _ = never_ok c.from_residual-in_err-lead.result _ _ c.from_residual-in_err-lead.ensures.1

pub returns-in_err-lead-clause-key : goal.returns-in_err-lead-clause-key
returns-in_err-lead-clause-key g c = never_ok c.from_residual-in_err-lead.result _ _ c.from_residual-in_err-lead.ensures.1

pub returns-in_err-lead-clause-counted : goal.returns-in_err-lead-clause-counted
returns-in_err-lead-clause-counted g c = never_ok c.from_residual-in_err-lead.result _ _ c.from_residual-in_err-lead.ensures.1

pub returns-in_err-lead-clause-rules : goal.returns-in_err-lead-clause-rules
returns-in_err-lead-clause-rules g c _ = never_ok c.from_residual-in_err-lead.result _ _ c.from_residual-in_err-lead.ensures.1

pub returns-in_err-lead-clause-owns : goal.returns-in_err-lead-clause-owns
returns-in_err-lead-clause-owns g c _ = never_ok c.from_residual-in_err-lead.result _ _ c.from_residual-in_err-lead.ensures.1

pub returns-in_err-lead-clause-heads : goal.returns-in_err-lead-clause-heads
returns-in_err-lead-clause-heads g c _ = never_ok c.from_residual-in_err-lead.result _ _ c.from_residual-in_err-lead.ensures.1

pub returns-in_err-lead-clause-first : goal.returns-in_err-lead-clause-first
returns-in_err-lead-clause-first g c _ = never_ok c.from_residual-in_err-lead.result _ _ c.from_residual-in_err-lead.ensures.1

pub returns-in_err-lead-clause-leads : goal.returns-in_err-lead-clause-leads
returns-in_err-lead-clause-leads g c _ = never_ok c.from_residual-in_err-lead.result _ _ c.from_residual-in_err-lead.ensures.1

pub returns-in_err-lead-clause-wrote : goal.returns-in_err-lead-clause-wrote
returns-in_err-lead-clause-wrote g c = never_ok c.from_residual-in_err-lead.result _ _ c.from_residual-in_err-lead.ensures.1

pub returns-in_err-lead-clause-damaged : goal.returns-in_err-lead-clause-damaged
returns-in_err-lead-clause-damaged g c _ = space_has _ tt tt c.from_residual-in_err-lead.result c.in_err-lead.field-0.0 c.from_residual-in_err-lead.ensures.1

pub returns-in_err-lead-clause-not_damaged : goal.returns-in_err-lead-clause-not_damaged
returns-in_err-lead-clause-not_damaged g c _ _ _ _ _ _ _ = space_has _ tt tt c.from_residual-in_err-lead.result c.in_err-lead.field-0.0
    c.from_residual-in_err-lead.ensures.1

pub returns-in_err-lead-clause-unwritten : goal.returns-in_err-lead-clause-unwritten
returns-in_err-lead-clause-unwritten g c = space_has _ tt tt c.from_residual-in_err-lead.result c.in_err-lead.field-0.0 c.from_residual-in_err-lead.ensures.1

pub returns-in_err-first-clause-shape : goal.returns-in_err-first-clause-shape
returns-in_err-first-clause-shape g c _ = g.met.S.Reads.onward_shape _ _ c.in_err-first.ensures.onward

pub returns-in_err-test_link-clause-shape : goal.returns-in_err-test_link-clause-shape
returns-in_err-test_link-clause-shape g c _ = g.met.S.Reads.onward_shape _ _ c.in_ok-first.ensures.onward

pub returns-in_err-test_link-clause-onward : goal.returns-in_err-test_link-clause-onward
returns-in_err-test_link-clause-onward g c = c.in_ok-first.ensures.onward

pub returns-in_err-lead-clause-onward : goal.returns-in_err-lead-clause-onward
returns-in_err-lead-clause-onward g c =
    g.met.S.Reads.further_onward _ _ _ (g.met.S.Reads.further_onward _ _ _ c.in_ok-first.ensures.onward c.in_ok-id.ensures.onward) c.in_err-lead.ensures.onward

pub returns-in_err-lead-clause-shape : goal.returns-in_err-lead-clause-shape
returns-in_err-lead-clause-shape g c _ =
    g.met.S.Reads.onward_shape _ _ (g.met.S.Reads.further_onward _ _ _ (g.met.S.Reads.further_onward _ _ _
    c.in_ok-first.ensures.onward c.in_ok-id.ensures.onward)
    c.in_err-lead.ensures.onward)

-- ---- the groups of a node that became dense

pub returns-clause-list : goal.returns-clause-list
returns-clause-list g c = λ tells h.
    let s = g.S.Reads.state c.args.space.now in
    let now = g.S.Reads.state c.first_group.new.space in
    let end = g.S.Reads.state c.lead.new.space in
    let read : now ≡ after_get s = subst (λ (first : Option ℕ). IfSome first (λ _. now ≡ after_get s)) c.in-Some.is (c.in_ok-first.ensures.read tells) in
    let first = subst (IsFirst s.records c.args.node) c.in-Some.is (c.in_ok-first.ensures.first tells) in
    list_made s now (g.S.Reads.state c.take.new.space) end c.args.node c.args.label c.in-Some.first c.in_ok-id.id c.empty_group.result
    read (c.in_ok-id.ensures.ok tells) c.in_ok-id.ensures.is (c.in_ok-id.ensures.undamaged tells) (c.in_ok-id.ensures.fresh tells) first.1 c.empty_group.ensures
    (c.in_ok-lead.ensures.ok tells)
    (omega (arith, c.in_ok-id.ensures.key.id)) (omega (arith, c.ranges.node.fits)) (omega (arith, c.ranges.label.fits)) h

pub returns-in_err-first-clause-list : goal.returns-in_err-first-clause-list
returns-in_err-first-clause-list g c _ = never_ok c.from_residual.result _ _ c.from_residual.ensures.1

pub returns-in_err-test_link-clause-list : goal.returns-in_err-test_link-clause-list
returns-in_err-test_link-clause-list g c _ = never_ok c.from_residual-in_err-test_link.result _ _ c.from_residual-in_err-test_link.ensures.1

pub returns-in_err-lead-clause-list : goal.returns-in_err-lead-clause-list
returns-in_err-lead-clause-list g c _ = never_ok c.from_residual-in_err-lead.result _ _ c.from_residual-in_err-lead.ensures.1

-- ---- the free list of the groups

pub returns-clause-lists : goal.returns-clause-lists
returns-clause-lists g c = λ tells.
    let s = g.S.Reads.state c.args.space.now in
    let now = g.S.Reads.state c.first_group.new.space in
    let end = g.S.Reads.state c.lead.new.space in
    let read : now ≡ after_get s = subst (λ (first : Option ℕ). IfSome first (λ _. now ≡ after_get s)) c.in-Some.is (c.in_ok-first.ensures.read tells) in
    let first = subst (IsFirst s.records c.args.node) c.in-Some.is (c.in_ok-first.ensures.first tells) in
    made_harms_none s now (g.S.Reads.state c.take.new.space) end c.args.node c.args.label c.in-Some.first c.in_ok-id.id c.empty_group.result
    read (c.in_ok-id.ensures.ok tells) c.in_ok-id.ensures.is (c.in_ok-id.ensures.undamaged tells) (c.in_ok-id.ensures.fresh tells) c.in_ok-id.ensures.key.id
    c.in_ok-id.ensures.small first.1 c.empty_group.ensures
    (c.in_ok-lead.ensures.ok tells) (omega (arith, c.ranges.node.fits)) (omega (arith, c.ranges.label.fits))

pub returns-in_err-first-clause-lists : goal.returns-in_err-first-clause-lists
returns-in_err-first-clause-lists g c _ = never_ok c.from_residual.result _ _ c.from_residual.ensures.1

pub returns-in_err-test_link-clause-lists : goal.returns-in_err-test_link-clause-lists
returns-in_err-test_link-clause-lists g c _ = never_ok c.from_residual-in_err-test_link.result _ _ c.from_residual-in_err-test_link.ensures.1

pub returns-in_err-lead-clause-lists : goal.returns-in_err-lead-clause-lists
returns-in_err-lead-clause-lists g c _ = never_ok c.from_residual-in_err-lead.result _ _ c.from_residual-in_err-lead.ensures.1
