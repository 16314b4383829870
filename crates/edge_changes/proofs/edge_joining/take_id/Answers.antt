use Rattle.std.specs.Prelude.{Err}
use Rattle.std.proofs.Common.{◌≡◌, ◌≤◌, ◌∙◌, ℕ, refl, subst, sym, inl, inr, arith}
use Rattle.id_freelist.specs.declared.take_fault.TakeFault.{TakeFault}
use Rattle.id_freelist.specs.declared.take_fault.TakeFault.TheVariants.{Damaged}
use Rattle.id_freelist.specs.TakeFault.{BlamesBroken, NotDamaged}
use Rattle.rec_bytes.specs.Format as format
use Rattle.change_parts.proofs.Takes.{kept_can_take}
use Rattle.rec_bytes.specs.Space.{State, meta_of}
use Rattle.id_freelist.specs.Taking.{IsTakeFault, room}
use Rattle.store_rules.specs.Breaking.{Breaks}
use Rattle.id_freelist.proofs.ListSteps.{blames_list, put_harms_none, put_is_used}
use Rattle.group_store.proofs.Leadings.{taken_grown}
use Rattle.rel_store.specs.Loading.{rel_mark}
use Rattle.edge_changes.proofs.edge_joining.take_id.Goals as goal

pub returns-in-Err-Damaged-clause-not_damaged : goal.returns-in-Err-Damaged-clause-not_damaged
returns-in-Err-Damaged-clause-not_damaged g c tells most empty keeps room =
    subst (λ (f : TakeFault). NotDamaged {T = ℕ} (Err f)) c.in-Err-Damaged.field-0-is
    (c.in-Err-Damaged.ensures.not_damaged tells _ (kept_can_take (g.S.Reads.state c.args.space.now) format.relationships_file refl refl keeps))

-- ---- which record is blamed
pub returns-in-Err-Full-clause-damaged : goal.returns-in-Err-Full-clause-damaged
returns-in-Err-Full-clause-damaged g c tells has =
    let s = g.S.Reads.state c.args.space.now in
    let why = subst (λ (f : TakeFault). IsTakeFault s format.relationships_file f) c.in-Err-Full.field-0-is (c.in-Err-Full.ensures.refused tells) in
    let full : (meta_of s format.relationships_file).live ≡ room s format.relationships_file = sym why.1 ∙ why.2 in
    absurd (omega (arith, full, has))

pub returns-in-Err-Damaged-clause-damaged : goal.returns-in-Err-Damaged-clause-damaged
returns-in-Err-Damaged-clause-damaged g c tells has =
    let s = g.S.Reads.state c.args.space.now in
    let told = subst (λ (f : TakeFault). BlamesBroken s.records s.shape f) c.in-Err-Damaged.field-0-is (c.in-Err-Damaged.ensures.damaged tells) in
    inl (subst (λ (z : State). Breaks z.records z.shape c.in-Err-Damaged.damage) (sym c.in-Err-Damaged.ensures.err) told)

pub returns-in-Err-Full-clause-found : goal.returns-in-Err-Full-clause-found
returns-in-Err-Full-clause-found g c tells = inl (refl, inr refl)

pub returns-in-Err-Damaged-clause-found : goal.returns-in-Err-Damaged-clause-found
returns-in-Err-Damaged-clause-found g c tells =
    let s = g.S.Reads.state c.args.space.now in
    inr (blames_list s format.relationships_file (Damaged c.in-Err-Damaged.damage)
    (subst (λ (f : TakeFault). IsTakeFault s format.relationships_file f) c.in-Err-Damaged.field-0-is (c.in-Err-Damaged.ensures.refused tells)))

-- ---- the free list, where the identifier is put in use
pub returns-in-Ok-clause-lists : goal.returns-in-Ok-clause-lists
returns-in-Ok-clause-lists g c tells t rec put used =
    put_harms_none (g.S.Reads.state c.args.space.now) (g.S.Reads.state c.take.new.space) t format.relationships_file c.in-Ok.id rec refl
    (c.in-Ok.ensures.ok tells) c.in-Ok.ensures.is (c.in-Ok.ensures.undamaged tells) (c.in-Ok.ensures.fresh tells) c.in-Ok.ensures.key.id
    c.in-Ok.ensures.small put used

-- ---- no fewer were given out
pub returns-in-Ok-clause-grown : goal.returns-in-Ok-clause-grown
returns-in-Ok-clause-grown g c tells =
    let s = g.S.Reads.state c.args.space.now in
    subst (λ (z : State). rel_mark s ≤ rel_mark z) (sym (c.in-Ok.ensures.ok tells))
    (taken_grown s format.relationships_file c.in-Ok.id c.in-Ok.ensures.is c.in-Ok.ensures.key.id)

-- ---- it is in use where its record is put
pub returns-in-Ok-clause-used : goal.returns-in-Ok-clause-used
returns-in-Ok-clause-used g c tells t rec put used =
    put_is_used (g.S.Reads.state c.args.space.now) (g.S.Reads.state c.take.new.space) t format.relationships_file c.in-Ok.id rec refl
    (c.in-Ok.ensures.ok tells) c.in-Ok.ensures.is (c.in-Ok.ensures.undamaged tells) (c.in-Ok.ensures.fresh tells) c.in-Ok.ensures.key.id
    c.in-Ok.ensures.small put used
