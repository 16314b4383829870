use Rattle.std.specs.Prelude.{IfSome}
use Rattle.std.proofs.Common.{◌≡◌, [], List, sym, ap, ◌∙◌, subst, arith, inl, refl, ◌∷◌, rules}
use Rattle.std.proofs.lemmas.Result.{err_from_is_err_and}
use Rattle.rec_bytes.specs.Fault.{damage_of}
use Rattle.rec_bytes.specs.Space.{SameButReads, State}
use Rattle.store_rules.specs.Properties.{Property}
use Rattle.prop_store.specs.Alone.{OwnsProperties}
use Rattle.prop_store.specs.Dropping.{AreHeld, DropsProperties}
use Rattle.prop_store.proofs.ElementChanges.{all_dropped, drops_read, first_kept, first_set, held_read}
use Rattle.prop_store.proofs.ElementGraphs.{drops_graph, owns_listed}
use Rattle.prop_store.specs.Fault.{BlamesBroken}
use Rattle.prop_store.specs.Owner.{IsInUse, first_of}
use Rattle.prop_store.proofs.Exits.{same_has, space_exit, space_has, unwritten_after}
use Rattle.prop_store.proofs.LeftElements.{left_after, left_read, left_set, left_then}
use Rattle.prop_store.proofs.ReadCounts.{reads_one, reads_same}
use Rattle.prop_store.proofs.Touches.{touches_after, touches_beside, touches_more, touches_owner, touches_reads, touches_then}
use Rattle.prop_store.proofs.WriteCounts.{touched_beside}
use Rattle.prop_store.proofs.Causes.{cause_passed, space_cause_passed}
use Rattle.rec_bytes.proofs.Causes.{never_ok, ok_cause}
use Rattle.prop_store.proofs.changing.drop_all.Goals as goal
use Rattle.prop_store.proofs.changing.drop_all.Goals.{In_ok-dropped, In_ok-first}
use Rattle.prop_store.proofs.changing.drop_all.Given.{Over}

-- after the first read the properties of the element are there
held : (g : Over) (c : In_ok-first g) → g.S.Reads.tells → (es : List Property) → OwnsProperties (g.S.Reads.state c.args.space.now) c.args.owner es
    → AreHeld (g.S.Reads.state c.first.new.space) c.in_ok-first.first es
held g c tells es owns =
    let s = g.S.Reads.state c.args.space.now in
    subst (λ (z : State). AreHeld z c.in_ok-first.first es) (sym c.first.ensures.state)
    (held_read s c.in_ok-first.first es (subst (λ f. AreHeld s f es) (sym (c.in_ok-first.ensures.got tells)) owns.held))

pub drop_chain-requires-clause-first : goal.drop_chain-requires-clause-first
drop_chain-requires-clause-first g c tells =
    subst (λ (z : State). c.in_ok-first.first ≡ first_of z.records c.args.owner) (sym c.first.ensures.state) (c.in_ok-first.ensures.got tells)

-- and they were given back
drops : (g : Over) (c : In_ok-dropped g) → g.S.Reads.tells → (es : List Property) → AreHeld (g.S.Reads.state c.first.new.space) c.in_ok-first.first es
    → DropsProperties (g.S.Reads.state c.args.space.now) (g.S.Reads.state c.drop_chain.new.space) es c.in_ok-dropped.dropped
drops g c tells es at = drops_read _ _ es c.in_ok-dropped.dropped
    (subst (λ (z : State). DropsProperties z (g.S.Reads.state c.drop_chain.new.space) es c.in_ok-dropped.dropped) c.first.ensures.state
    (c.in_ok-dropped.ensures.dropped tells es at))

pub returns-in_err-dropped-clause-owned_not_damaged : goal.returns-in_err-dropped-clause-owned_not_damaged
returns-in_err-dropped-clause-owned_not_damaged g c tells es owns =
    let p = err_from_is_err_and c.from_residual-in_err-dropped.result c.from_residual-in_err-dropped.ensures.1 in
    rw (p.1, p.2) (c.in_err-dropped.ensures.not_damaged tells es (held g
    (goal.at.returns-in_err-dropped-clause-owned_not_damaged g c).In_ok-first tells es owns))

pub returns-in_err-dropped-clause-not_damaged : goal.returns-in_err-dropped-clause-not_damaged
returns-in_err-dropped-clause-not_damaged g c tells has =
    returns-in_err-dropped-clause-owned_not_damaged g c tells _ (owns_listed (g.S.Reads.state c.args.space.now) c.args.owner c.requires.owner has)

pub returns-in_ok-set_number-clause-owned : goal.returns-in_ok-set_number-clause-owned
returns-in_ok-set_number-clause-owned g c tells es owns =
    let s = g.S.Reads.state c.args.space.now in
    let m = g.S.Reads.state c.drop_chain.new.space in
    let t = g.S.Reads.state c.set_number.new.space in
    let at = goal.at.returns-in_ok-set_number-clause-owned g c in
    let dropped = drops g at.In_ok-dropped tells es (held g at.In_ok-first tells es owns) in
    all_dropped s c.args.owner es owns c.requires.owner m t c.in_ok-dropped.dropped dropped
    (first_set s c.args.owner es owns c.requires.owner m [] dropped.changes t _ (c.in_ok-set_number.ensures.ok tells) (omega arith) (inl refl))

pub returns-in_ok-set_number-clause-dropped : goal.returns-in_ok-set_number-clause-dropped
returns-in_ok-set_number-clause-dropped g c tells has =
    let s = g.S.Reads.state c.args.space.now in
    drops_graph s c.args.owner c.requires.owner has (g.S.Reads.state c.set_number.new.space) c.in_ok-dropped.dropped
    (returns-in_ok-set_number-clause-owned g c tells _ (owns_listed s c.args.owner c.requires.owner has))
    (ap (λ (z : State). z.shape) (c.in_ok-set_number.ensures.ok tells) ∙ g.met.S.Reads.onward_shape _ _ c.drop_chain.ensures.onward ∙ ap
    (λ (z : State). z.shape) c.first.ensures.state)

pub returns-else-first-clause-owned : goal.returns-else-first-clause-owned
returns-else-first-clause-owned g c tells es owns =
    let s = g.S.Reads.state c.args.space.now in
    let m = g.S.Reads.state c.drop_chain.new.space in
    let at = goal.at.returns-else-first-clause-owned g c in
    let dropped = drops g at.In_ok-dropped tells es (held g at.In_ok-first tells es owns) in
    all_dropped s c.args.owner es owns c.requires.owner m m c.in_ok-dropped.dropped dropped
    (first_kept s c.args.owner es owns c.requires.owner m [] dropped.changes (sym (c.in_ok-first.ensures.got tells) ∙ c.if-first.false))

pub returns-else-first-clause-dropped : goal.returns-else-first-clause-dropped
returns-else-first-clause-dropped g c tells has =
    let s = g.S.Reads.state c.args.space.now in
    drops_graph s c.args.owner c.requires.owner has (g.S.Reads.state c.drop_chain.new.space) c.in_ok-dropped.dropped
    (returns-else-first-clause-owned g c tells _ (owns_listed s c.args.owner c.requires.owner has))
    (g.met.S.Reads.onward_shape _ _ c.drop_chain.ensures.onward ∙ ap (λ (z : State). z.shape) c.first.ensures.state)

pub returns-in_err-first-clause-at_most : goal.returns-in_err-first-clause-at_most
returns-in_err-first-clause-at_most g c = touches_reads _ 32 704 _ _ (reads_same 1 _ _ (reads_one 1 _ _ (omega arith) c.first.ensures.state))

pub returns-in_err-dropped-clause-at_most : goal.returns-in_err-dropped-clause-at_most
returns-in_err-dropped-clause-at_most g c = touches_after _ 32 704 _ _ _ (reads_same 1 _ _ (reads_one 1 _ _ (omega arith) c.first.ensures.state))
    (touches_beside _ 32 704 _ _ c.drop_chain.ensures.at_most)

pub returns-in_err-set_number-clause-at_most : goal.returns-in_err-set_number-clause-at_most
returns-in_err-set_number-clause-at_most g c =
    let dropped = touches_beside (c.args.owner.key ∷ []) 32 704 (g.S.Reads.state c.first.new.space) (g.S.Reads.state c.drop_chain.new.space)
    c.drop_chain.ensures.at_most in
    touches_after _ 32 704 _ _ _ (reads_same 1 _ _ (reads_one 1 _ _ (omega arith) c.first.ensures.state))
    (touches_then _ 32 704 0 0 32 704 _ _ _ (omega arith) (omega arith) dropped (touches_reads _ 0 0 _ _ (reads_same 1 _ _ (reads_one 1 _ _ (omega arith)
    c.in_err-set_number.ensures.err))))

pub returns-in_ok-set_number-clause-touches : goal.returns-in_ok-set_number-clause-touches
returns-in_ok-set_number-clause-touches g c =
    let n = c.in_ok-dropped.dropped.properties in
    let m = c.in_ok-dropped.dropped.blocks in
    let dropped = touches_beside (c.args.owner.key ∷ []) n m (g.S.Reads.state c.first.new.space) (g.S.Reads.state c.drop_chain.new.space)
    c.in_ok-dropped.ensures.touches in
    touches_after _ n m _ _ _ (reads_same 1 _ _ (reads_one 1 _ _ (omega arith) c.first.ensures.state))
    (touches_then _ n m 0 0 n m _ _ _ (omega arith) (omega arith) dropped (touches_owner _ _ c.args.owner.key 4 c.args.owner.field _ c.set_number.ensures.writes
    c.in_ok-set_number.ensures.ok))

pub returns-in_ok-set_number-clause-at_most : goal.returns-in_ok-set_number-clause-at_most
returns-in_ok-set_number-clause-at_most g c =
    let few = c.in_ok-dropped.ensures.few_properties in
    let small = c.in_ok-dropped.ensures.few_blocks in
    touches_more _ c.in_ok-dropped.dropped.properties c.in_ok-dropped.dropped.blocks 32 704 _ _ (omega arith) (omega arith)
    (returns-in_ok-set_number-clause-touches g c)

pub returns-in_ok-set_number-clause-writes : goal.returns-in_ok-set_number-clause-writes
returns-in_ok-set_number-clause-writes g c = touched_beside c.in_ok-dropped.dropped.properties c.in_ok-dropped.dropped.blocks _ _ _ c.args.owner.key
    (omega arith) (returns-in_ok-set_number-clause-touches g c)

pub returns-else-first-clause-touches : goal.returns-else-first-clause-touches
returns-else-first-clause-touches g c =
    let n = c.in_ok-dropped.dropped.properties in
    let m = c.in_ok-dropped.dropped.blocks in
    touches_after _ n m _ _ _ (reads_same 1 _ _ (reads_one 1 _ _ (omega arith) c.first.ensures.state))
    (touches_beside _ n m _ _ c.in_ok-dropped.ensures.touches)

pub returns-else-first-clause-at_most : goal.returns-else-first-clause-at_most
returns-else-first-clause-at_most g c = touches_after _ 32 704 _ _ _ (reads_same 1 _ _ (reads_one 1 _ _ (omega arith) c.first.ensures.state))
    (touches_beside _ 32 704 _ _ c.drop_chain.ensures.at_most)

pub returns-else-first-clause-writes : goal.returns-else-first-clause-writes
returns-else-first-clause-writes g c = touched_beside c.in_ok-dropped.dropped.properties c.in_ok-dropped.dropped.blocks _ _ _ c.args.owner.key (omega arith)
    (returns-else-first-clause-touches g c)

-- ---- which record is blamed

pub returns-in_err-first-clause-damaged : goal.returns-in_err-first-clause-damaged
returns-in_err-first-clause-damaged g c tells used =
    let s = g.S.Reads.state c.args.space.now in
    space_has (BlamesBroken s.records s.shape) tt tt c.from_residual.result c.in_err-first.field-0.0 c.from_residual.ensures.1

pub returns-in_err-dropped-clause-damaged : goal.returns-in_err-dropped-clause-damaged
returns-in_err-dropped-clause-damaged g c tells used =
    let s = g.S.Reads.state c.args.space.now in
    let fault = c.in_err-dropped.field-0.0 in
    let said : IsInUse s.records c.args.owner → BlamesBroken s.records s.shape fault
    = subst (λ (y : State). IsInUse y.records c.args.owner → BlamesBroken y.records y.shape fault) c.first.ensures.state
    (c.in_err-dropped.ensures.damaged tells) in
    same_has (BlamesBroken s.records s.shape) c.from_residual-in_err-dropped.result fault c.from_residual-in_err-dropped.ensures.1 (said used)

-- ---- where damage is told nothing is written

pub returns-in_err-first-clause-unwritten : goal.returns-in_err-first-clause-unwritten
returns-in_err-first-clause-unwritten g c =
    space_has (λ fault. IfSome (damage_of fault) (λ _. SameButReads (g.S.Reads.state c.args.space.now) (g.S.Reads.state c.first.new.space))) tt tt
    c.from_residual.result c.in_err-first.field-0.0 c.from_residual.ensures.1

pub returns-in_err-dropped-clause-unwritten : goal.returns-in_err-dropped-clause-unwritten
returns-in_err-dropped-clause-unwritten g c =
    let s = g.S.Reads.state c.args.space.now in
    let m = g.S.Reads.state c.first.new.space in
    let t = g.S.Reads.state c.drop_chain.new.space in
    same_has (λ fault. IfSome (damage_of fault) (λ _. SameButReads s t)) c.from_residual-in_err-dropped.result c.in_err-dropped.field-0.0
    c.from_residual-in_err-dropped.ensures.1
    (unwritten_after s m t c.in_err-dropped.field-0.0 (reads_same 1 s m (reads_one 1 s m (omega arith) c.first.ensures.state))
    c.in_err-dropped.ensures.unwritten)

pub returns-in_err-set_number-clause-unwritten : goal.returns-in_err-set_number-clause-unwritten
returns-in_err-set_number-clause-unwritten g c =
    space_has (λ fault. IfSome (damage_of fault) (λ _. SameButReads (g.S.Reads.state c.args.space.now) (g.S.Reads.state c.set_number.new.space))) tt tt
    c.from_residual-in_err-set_number.result c.in_err-set_number.field-0.0
    c.from_residual-in_err-set_number.ensures.1

pub returns-in_err-dropped-clause-cause : goal.returns-in_err-dropped-clause-cause
returns-in_err-dropped-clause-cause g c =
    cause_passed _ _ _ c.from_residual-in_err-dropped.result c.in_err-dropped.field-0.0 c.in_ok-first.ensures.cause.later c.in_err-dropped.ensures.cause
    c.from_residual-in_err-dropped.ensures.1

pub returns-in_err-set_number-clause-cause : goal.returns-in_err-set_number-clause-cause
returns-in_err-set_number-clause-cause g c =
    let later0 = c.in_ok-first.ensures.cause.later in
    let later1 = c.in_ok-dropped.ensures.cause.later in
    space_cause_passed _ _ _ c.from_residual-in_err-set_number.result c.in_err-set_number.field-0.0 (omega (arith, later0, later1))
    c.in_err-set_number.ensures.cause c.from_residual-in_err-set_number.ensures.1

-- ---- what is left of all other records

pub returns-in_err-first-clause-leaves : goal.returns-in_err-first-clause-leaves
returns-in_err-first-clause-leaves g c tells = left_read _ _ c.args.owner (reads_same 1 _ _ (reads_one 1 _ _ (omega arith) c.first.ensures.state))

pub returns-in_err-dropped-clause-leaves : goal.returns-in_err-dropped-clause-leaves
returns-in_err-dropped-clause-leaves g c tells = left_after g.S.Reads.tells 32 704 _ _ _ c.args.owner c.requires.owner tells
    (reads_same 1 _ _ (reads_one 1 _ _ (omega arith) c.first.ensures.state)) c.drop_chain.ensures.at_most

pub returns-in_err-set_number-clause-leaves : goal.returns-in_err-set_number-clause-leaves
returns-in_err-set_number-clause-leaves g c tells = left_then _ _ _ c.args.owner
    (left_after g.S.Reads.tells 32 704 _ _ _ c.args.owner c.requires.owner tells (reads_same 1 _ _ (reads_one 1 _ _ (omega arith) c.first.ensures.state))
    c.drop_chain.ensures.at_most)
    (left_read _ _ c.args.owner (reads_same 1 _ _ (reads_one 1 _ _ (omega arith) c.in_err-set_number.ensures.err)))

pub returns-in_ok-set_number-clause-leaves : goal.returns-in_ok-set_number-clause-leaves
returns-in_ok-set_number-clause-leaves g c tells = left_then _ _ _ c.args.owner
    (left_after g.S.Reads.tells 32 704 _ _ _ c.args.owner c.requires.owner tells (reads_same 1 _ _ (reads_one 1 _ _ (omega arith) c.first.ensures.state))
    c.drop_chain.ensures.at_most)
    (left_set _ _ c.args.owner _ (c.in_ok-set_number.ensures.ok tells))

pub returns-else-first-clause-leaves : goal.returns-else-first-clause-leaves
returns-else-first-clause-leaves g c tells = left_after g.S.Reads.tells 32 704 _ _ _ c.args.owner c.requires.owner tells
    (reads_same 1 _ _ (reads_one 1 _ _ (omega arith) c.first.ensures.state)) c.drop_chain.ensures.at_most

pub returns-in_err-dropped-clause-onward : goal.returns-in_err-dropped-clause-onward
returns-in_err-dropped-clause-onward g c =
    g.met.S.Reads.further_onward _ _ _ c.in_ok-first.ensures.onward c.in_err-dropped.ensures.onward

pub returns-in_err-set_number-clause-onward : goal.returns-in_err-set_number-clause-onward
returns-in_err-set_number-clause-onward g c =
    g.met.S.Reads.further_onward _ _ _
    (g.met.S.Reads.further_onward _ _ _ c.in_ok-first.ensures.onward c.in_ok-dropped.ensures.onward)
    c.in_err-set_number.ensures.onward

pub returns-in_ok-set_number-clause-onward : goal.returns-in_ok-set_number-clause-onward
returns-in_ok-set_number-clause-onward g c =
    g.met.S.Reads.further_onward _ _ _
    (g.met.S.Reads.further_onward _ _ _ c.in_ok-first.ensures.onward c.in_ok-dropped.ensures.onward)
    c.in_ok-set_number.ensures.onward

pub returns-else-first-clause-onward : goal.returns-else-first-clause-onward
returns-else-first-clause-onward g c =
    g.met.S.Reads.further_onward _ _ _ c.in_ok-first.ensures.onward c.in_ok-dropped.ensures.onward

pub returns-in_err-first-clause-dropped : goal.returns-in_err-first-clause-dropped
returns-in_err-first-clause-dropped g c _ = never_ok c.from_residual.result _ _ c.from_residual.ensures.1

pub returns-in_err-first-clause-owned : goal.returns-in_err-first-clause-owned
returns-in_err-first-clause-owned g c _ _ _ = never_ok c.from_residual.result _ _ c.from_residual.ensures.1

pub returns-in_err-first-clause-few_properties : goal.returns-in_err-first-clause-few_properties
returns-in_err-first-clause-few_properties g c = never_ok c.from_residual.result _ _ c.from_residual.ensures.1

pub returns-in_err-first-clause-few_blocks : goal.returns-in_err-first-clause-few_blocks
returns-in_err-first-clause-few_blocks g c = never_ok c.from_residual.result _ _ c.from_residual.ensures.1

pub returns-in_err-first-clause-writes : goal.returns-in_err-first-clause-writes
returns-in_err-first-clause-writes g c = never_ok c.from_residual.result _ _ c.from_residual.ensures.1

pub returns-in_err-first-clause-touches : goal.returns-in_err-first-clause-touches
returns-in_err-first-clause-touches g c = never_ok c.from_residual.result _ _ c.from_residual.ensures.1

pub returns-in_err-first-clause-onward : goal.returns-in_err-first-clause-onward
returns-in_err-first-clause-onward g c = search rules

pub returns-in_err-dropped-clause-dropped : goal.returns-in_err-dropped-clause-dropped
returns-in_err-dropped-clause-dropped g c _ = never_ok c.from_residual-in_err-dropped.result _ _ c.from_residual-in_err-dropped.ensures.1

pub returns-in_err-dropped-clause-owned : goal.returns-in_err-dropped-clause-owned
returns-in_err-dropped-clause-owned g c _ _ _ = never_ok c.from_residual-in_err-dropped.result _ _ c.from_residual-in_err-dropped.ensures.1

pub returns-in_err-dropped-clause-few_properties : goal.returns-in_err-dropped-clause-few_properties
returns-in_err-dropped-clause-few_properties g c = never_ok c.from_residual-in_err-dropped.result _ _ c.from_residual-in_err-dropped.ensures.1

pub returns-in_err-dropped-clause-few_blocks : goal.returns-in_err-dropped-clause-few_blocks
returns-in_err-dropped-clause-few_blocks g c = never_ok c.from_residual-in_err-dropped.result _ _ c.from_residual-in_err-dropped.ensures.1

pub returns-in_err-dropped-clause-writes : goal.returns-in_err-dropped-clause-writes
returns-in_err-dropped-clause-writes g c = never_ok c.from_residual-in_err-dropped.result _ _ c.from_residual-in_err-dropped.ensures.1

pub returns-in_err-dropped-clause-touches : goal.returns-in_err-dropped-clause-touches
returns-in_err-dropped-clause-touches g c = never_ok c.from_residual-in_err-dropped.result _ _ c.from_residual-in_err-dropped.ensures.1

pub returns-in_err-set_number-clause-dropped : goal.returns-in_err-set_number-clause-dropped
returns-in_err-set_number-clause-dropped g c _ = never_ok c.from_residual-in_err-set_number.result _ _ c.from_residual-in_err-set_number.ensures.1

pub returns-in_err-set_number-clause-owned : goal.returns-in_err-set_number-clause-owned
returns-in_err-set_number-clause-owned g c _ _ _ = never_ok c.from_residual-in_err-set_number.result _ _ c.from_residual-in_err-set_number.ensures.1

pub returns-in_err-set_number-clause-few_properties : goal.returns-in_err-set_number-clause-few_properties
returns-in_err-set_number-clause-few_properties g c = never_ok c.from_residual-in_err-set_number.result _ _ c.from_residual-in_err-set_number.ensures.1

pub returns-in_err-set_number-clause-few_blocks : goal.returns-in_err-set_number-clause-few_blocks
returns-in_err-set_number-clause-few_blocks g c = never_ok c.from_residual-in_err-set_number.result _ _ c.from_residual-in_err-set_number.ensures.1

pub returns-in_err-set_number-clause-writes : goal.returns-in_err-set_number-clause-writes
returns-in_err-set_number-clause-writes g c = never_ok c.from_residual-in_err-set_number.result _ _ c.from_residual-in_err-set_number.ensures.1

pub returns-in_err-set_number-clause-touches : goal.returns-in_err-set_number-clause-touches
returns-in_err-set_number-clause-touches g c = never_ok c.from_residual-in_err-set_number.result _ _ c.from_residual-in_err-set_number.ensures.1

pub returns-in_ok-set_number-clause-cause : goal.returns-in_ok-set_number-clause-cause
returns-in_ok-set_number-clause-cause g c = ok_cause _ _ _ _ (omega arith)

pub returns-else-first-clause-cause : goal.returns-else-first-clause-cause
returns-else-first-clause-cause g c = ok_cause _ _ _ _ (omega arith)

pub returns-in_err-first-clause-cause : goal.returns-in_err-first-clause-cause
returns-in_err-first-clause-cause g c =
    space_cause_passed _ _ _ c.from_residual.result c.in_err-first.field-0.0 (omega arith) c.in_err-first.ensures.cause c.from_residual.ensures.1

pub returns-in_err-first-clause-not_damaged : goal.returns-in_err-first-clause-not_damaged
returns-in_err-first-clause-not_damaged g c tells has = space_exit c.from_residual.result c.in_err-first.field-0.0 c.from_residual.ensures.1

pub returns-in_err-first-clause-owned_not_damaged : goal.returns-in_err-first-clause-owned_not_damaged
returns-in_err-first-clause-owned_not_damaged g c tells es owns = space_exit c.from_residual.result c.in_err-first.field-0.0 c.from_residual.ensures.1

pub returns-in_err-set_number-clause-not_damaged : goal.returns-in_err-set_number-clause-not_damaged
returns-in_err-set_number-clause-not_damaged g c tells has =
    space_exit c.from_residual-in_err-set_number.result c.in_err-set_number.field-0.0 c.from_residual-in_err-set_number.ensures.1

pub returns-in_err-set_number-clause-owned_not_damaged : goal.returns-in_err-set_number-clause-owned_not_damaged
returns-in_err-set_number-clause-owned_not_damaged g c tells es owns =
    space_exit c.from_residual-in_err-set_number.result c.in_err-set_number.field-0.0 c.from_residual-in_err-set_number.ensures.1

pub returns-in_err-set_number-clause-damaged : goal.returns-in_err-set_number-clause-damaged
returns-in_err-set_number-clause-damaged g c tells used =
    let s = g.S.Reads.state c.args.space.now in
    space_has (BlamesBroken s.records s.shape) tt tt c.from_residual-in_err-set_number.result c.in_err-set_number.field-0.0
    c.from_residual-in_err-set_number.ensures.1

pub returns-in_ok-set_number-clause-few_properties : goal.returns-in_ok-set_number-clause-few_properties
returns-in_ok-set_number-clause-few_properties g c = c.in_ok-dropped.ensures.few_properties

pub returns-in_ok-set_number-clause-few_blocks : goal.returns-in_ok-set_number-clause-few_blocks
returns-in_ok-set_number-clause-few_blocks g c = c.in_ok-dropped.ensures.few_blocks

pub returns-else-first-clause-few_properties : goal.returns-else-first-clause-few_properties
returns-else-first-clause-few_properties g c = c.in_ok-dropped.ensures.few_properties

pub returns-else-first-clause-few_blocks : goal.returns-else-first-clause-few_blocks
returns-else-first-clause-few_blocks g c = c.in_ok-dropped.ensures.few_blocks

pub drop_chain-requires-clause-owner : goal.drop_chain-requires-clause-owner
drop_chain-requires-clause-owner g c = c.requires.owner
