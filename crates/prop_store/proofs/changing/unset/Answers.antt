use Rattle.std.proofs.Common.{◌<◌, ◌^◌, ◌+◌, List, sym, ap, ◌∙◌, subst, arith, [], ◌∷◌, rules}
use Rattle.std.proofs.lemmas.Result.{err_from_is_err_and}
use Rattle.rec_bytes.specs.Format.{properties_file, property_next}
use Rattle.rec_bytes.specs.Record.{field}
use Rattle.rec_bytes.specs.Space.{State}
use Rattle.rec_bytes.proofs.Numbers.{field-lt}
use Rattle.store_rules.specs.Properties.{Property}
use Rattle.prop_store.specs.Alone.{OwnsProperties}
use Rattle.prop_store.specs.Dropping.{IsHeld}
use Rattle.store_rules.specs.Views.{Records}
use Rattle.prop_store.specs.Fault.{BlamesBroken}
use Rattle.prop_store.specs.Finding.{FoundAt, IsPlaced, IsReadAt, IsSought}
use Rattle.prop_store.specs.PropertyRow.{IsReadRow}
use Rattle.prop_store.proofs.ElementChanges.{has_properties}
use Rattle.prop_store.proofs.ElementGraphs.{absent_value, owns_listed, removes_graph}
use Rattle.prop_store.proofs.ElementParts.{drops_same, held_same, held_row}
use Rattle.prop_store.proofs.Breaches.{text_blames, text_fault_same}
use Rattle.prop_store.proofs.Exits.{same_has, space_exit, space_has}
use Rattle.prop_store.proofs.ReadCounts.{reads_records, reads_same, reads_one}
use Rattle.prop_store.proofs.Touches.{touches_after, touches_beside, touches_link, touches_more, touches_reads, touches_then}
use Rattle.prop_store.proofs.ValueRemovals.{value_removed}
use Rattle.prop_store.proofs.WriteCounts.{at_most_then, one_writes, reads_write, touched_count}
use Rattle.prop_store.proofs.Causes.{cause_passed, space_cause_passed}
use Rattle.rec_bytes.proofs.Causes.{never_ok, ok_cause}
use Rattle.prop_store.specs.Finding.{IsMet}
use Rattle.prop_store.proofs.Unused.{frees_met, frees_none, kind_set}
use Rattle.prop_store.proofs.changing.unset.Goals as goal
use Rattle.prop_store.proofs.changing.unset.Goals.{In-Found}
use Rattle.prop_store.proofs.changing.unset.Given.{Over}

-- where the property of the key is
found : (g : Over) (c : In-Found g) → g.S.Reads.tells → (es : List Property) → OwnsProperties (g.S.Reads.state c.args.space.now) c.args.owner es
    → FoundAt (g.S.Reads.state c.args.space.now).records c.args.owner es c.args.key c.in-Found.link c.find.new.row
found g c tells es owns =
    subst (IsSought (g.S.Reads.state c.args.space.now).records c.args.owner es c.args.key c.find.new.row) c.in-Found.is
    (c.in_ok-find.ensures.found tells es owns.held.are)

-- it is in use
held : (g : Over) (c : In-Found g) (tells : g.S.Reads.tells) (es : List Property) (owns : OwnsProperties (g.S.Reads.state c.args.space.now) c.args.owner es)
    → IsHeld (g.S.Reads.state c.find.new.space) c.find.new.row (found g c tells es owns).property
held g c tells es owns =
    let s = g.S.Reads.state c.args.space.now in
    let f = found g c tells es owns in
    held_same s (g.S.Reads.state c.find.new.space) c.find.new.row f.property (reads_same 33 _ _ c.find.ensures.at_most)
    (held_row s c.args.owner es owns f.before f.property f.after f.all c.find.new.row f.id_is f.rec_is)

pub returns-in_err-find-clause-owned_not_damaged : goal.returns-in_err-find-clause-owned_not_damaged
returns-in_err-find-clause-owned_not_damaged g c tells es owns =
    let p = err_from_is_err_and c.from_residual.result c.from_residual.ensures.1 in
    rw (p.1, p.2) (c.in_err-find.ensures.not_damaged tells es (has_properties (g.S.Reads.state c.args.space.now) c.args.owner es owns))

pub returns-in_err-find-clause-not_damaged : goal.returns-in_err-find-clause-not_damaged
returns-in_err-find-clause-not_damaged g c tells has =
    returns-in_err-find-clause-owned_not_damaged g c tells _ (owns_listed (g.S.Reads.state c.args.space.now) c.args.owner c.requires.owner has.element)

pub returns-in-Absent-clause-owned : goal.returns-in-Absent-clause-owned
returns-in-Absent-clause-owned g c tells es owns =
    let f = subst (IsSought (g.S.Reads.state c.args.space.now).records c.args.owner es c.args.key c.find.new.row) c.in-Absent.is
    (c.in_ok-find.ensures.found tells es owns.held.are) in
    (f.1, reads_same 33 _ _ c.find.ensures.at_most)

pub returns-in-Absent-clause-unset : goal.returns-in-Absent-clause-unset
returns-in-Absent-clause-unset g c tells has =
    let s = g.S.Reads.state c.args.space.now in
    let alone = returns-in-Absent-clause-owned g c tells _ (owns_listed s c.args.owner c.requires.owner has.element) in
    (absent_value s c.args.owner c.requires.owner has.element c.args.key has.known alone.0, alone.1)

pub returns-in-Absent-clause-writes : goal.returns-in-Absent-clause-writes
returns-in-Absent-clause-writes g c = reads_write 2 _ _ (reads_same 33 _ _ c.find.ensures.at_most)

pub returns-in_err-released-in-Found-clause-owned_not_damaged : goal.returns-in_err-released-in-Found-clause-owned_not_damaged
returns-in_err-released-in-Found-clause-owned_not_damaged g c tells es owns =
    let p = err_from_is_err_and c.from_residual-in_err-released-in-Found.result c.from_residual-in_err-released-in-Found.ensures.1 in
    let at = (goal.at.returns-in_err-released-in-Found-clause-owned_not_damaged g c).In-Found in
    rw (p.1, p.2) (c.in_err-released-in-Found.ensures.not_damaged tells (found g at tells es owns).property (held g at tells es owns))

pub returns-in_err-released-in-Found-clause-not_damaged : goal.returns-in_err-released-in-Found-clause-not_damaged
returns-in_err-released-in-Found-clause-not_damaged g c tells has =
    returns-in_err-released-in-Found-clause-owned_not_damaged g c tells _ (owns_listed
    (g.S.Reads.state c.args.space.now) c.args.owner c.requires.owner has.element)

pub returns-in_ok-set_number-in-Found-clause-owned : goal.returns-in_ok-set_number-in-Found-clause-owned
returns-in_ok-set_number-in-Found-clause-owned g c tells es owns =
    let s = g.S.Reads.state c.args.space.now in
    let m = g.S.Reads.state c.drop_property.new.space in
    let t = g.S.Reads.state c.set_number.new.space in
    let at = (goal.at.returns-in_ok-set_number-in-Found-clause-owned g c).In-Found in
    let f = found g at tells es owns in
    let drops = drops_same s (g.S.Reads.state c.find.new.space) m f.property c.in_ok-released-in-Found.released (reads_same 33 _ _ c.find.ensures.at_most)
    (c.in_ok-released-in-Found.ensures.dropped tells f.property (held g at tells es owns)) in
    let next = c.number-next.ensures ∙ ap (λ r. field 4 r property_next) f.rec_is ∙ f.is.next_is in
    value_removed s c.args.owner c.requires.owner es owns f.before f.property f.after f.all m t c.in_ok-released-in-Found.released c.number-next.result drops
    next
    (subst (λ n. n < 2 ^ 32) (sym c.number-next.ensures) (field-lt 4 c.find.new.row.rec property_next))
    c.in-Found.link c.args.key f.key_is f.link_is (c.in_ok-set_number-in-Found.ensures.ok tells)

pub returns-in_ok-set_number-in-Found-clause-unset : goal.returns-in_ok-set_number-in-Found-clause-unset
returns-in_ok-set_number-in-Found-clause-unset g c tells has =
    let s = g.S.Reads.state c.args.space.now in
    removes_graph s c.args.owner c.requires.owner has.element (g.S.Reads.state c.set_number.new.space) c.args.key c.in_ok-released-in-Found.released
    (returns-in_ok-set_number-in-Found-clause-owned g c tells _ (owns_listed s c.args.owner c.requires.owner has.element))
    (ap (λ (z : State). z.shape) (c.in_ok-set_number-in-Found.ensures.ok tells) ∙ g.met.S.Reads.onward_shape _ _ c.drop_property.ensures.onward ∙ ap
    (λ (z : State). z.shape) (reads_same 33 _ _ c.find.ensures.at_most))

pub returns-in_ok-set_number-in-Found-clause-writes : goal.returns-in_ok-set_number-in-Found-clause-writes
returns-in_ok-set_number-in-Found-clause-writes g c =
    let s = g.S.Reads.state c.args.space.now in
    let r = g.S.Reads.state c.find.new.space in
    let m = g.S.Reads.state c.drop_property.new.space in
    let t = g.S.Reads.state c.set_number.new.space in
    let n = c.in_ok-released-in-Found.released in
    let placed = subst (IsPlaced c.args.owner c.args.key c.find.new.row) c.in-Found.is c.in_ok-find.ensures.placed in
    at_most_then (1 + n) 1 (2 + n) s m t (omega arith)
    (at_most_then 0 (1 + n) (1 + n) s r m (omega arith) (reads_write 0 s r (reads_same 33 _ _ c.find.ensures.at_most)) (touched_count 1 n (1 + n) r m
    (omega arith) c.in_ok-released-in-Found.ensures.touches))
    (one_writes m t c.in-Found.link.key placed.links.own c.set_number.ensures.writes)

pub returns-in_err-find-clause-at_most : goal.returns-in_err-find-clause-at_most
returns-in_err-find-clause-at_most g c = touches_reads _ 2 22 _ _ (reads_same 33 _ _ c.find.ensures.at_most)

pub returns-in-Absent-clause-touches : goal.returns-in-Absent-clause-touches
returns-in-Absent-clause-touches g c = touches_reads _ 2 0 _ _ (reads_same 33 _ _ c.find.ensures.at_most)

pub returns-in-Absent-clause-at_most : goal.returns-in-Absent-clause-at_most
returns-in-Absent-clause-at_most g c = touches_reads _ 2 22 _ _ (reads_same 33 _ _ c.find.ensures.at_most)

pub returns-in_err-released-in-Found-clause-at_most : goal.returns-in_err-released-in-Found-clause-at_most
returns-in_err-released-in-Found-clause-at_most g c =
    touches_more _ 1 22 2 22 _ _ (omega arith) (omega arith) (touches_after _ 1 22 _ _ _ (reads_same 33 _ _ c.find.ensures.at_most)
    (touches_beside _ 1 22 _ _ c.drop_property.ensures.at_most))

pub returns-in_err-set_number-in-Found-clause-at_most : goal.returns-in_err-set_number-in-Found-clause-at_most
returns-in_err-set_number-in-Found-clause-at_most g c =
    let dropped = touches_beside (c.args.owner.key ∷ []) 1 22 (g.S.Reads.state c.find.new.space) (g.S.Reads.state c.drop_property.new.space)
    c.drop_property.ensures.at_most in
    touches_after _ 2 22 _ _ _ (reads_same 33 _ _ c.find.ensures.at_most)
    (touches_then _ 1 22 0 0 2 22 _ _ _ (omega arith) (omega arith) dropped (touches_reads _ 0 0 _ _ (reads_same 1 _ _ (reads_one 1 _ _ (omega arith)
    c.in_err-set_number-in-Found.ensures.err))))

pub returns-in_ok-set_number-in-Found-clause-touches : goal.returns-in_ok-set_number-in-Found-clause-touches
returns-in_ok-set_number-in-Found-clause-touches g c =
    let n = c.in_ok-released-in-Found.released in
    let dropped = touches_beside (c.args.owner.key ∷ []) 1 n (g.S.Reads.state c.find.new.space) (g.S.Reads.state c.drop_property.new.space)
    c.in_ok-released-in-Found.ensures.touches in
    let placed = subst (IsPlaced c.args.owner c.args.key c.find.new.row) c.in-Found.is c.in_ok-find.ensures.placed in
    touches_after _ 2 n _ _ _ (reads_same 33 _ _ c.find.ensures.at_most)
    (touches_then _ 1 n 1 0 2 n _ _ _ (omega arith) (omega arith) dropped
    (touches_link c.args.owner c.in-Found.link _ _ 4 c.in-Found.link.field c.number-next.result placed.from c.set_number.ensures.writes
    c.in_ok-set_number-in-Found.ensures.ok))

pub returns-in_ok-set_number-in-Found-clause-at_most : goal.returns-in_ok-set_number-in-Found-clause-at_most
returns-in_ok-set_number-in-Found-clause-at_most g c =
    let few = c.in_ok-released-in-Found.ensures.few in
    touches_more _ 2 c.in_ok-released-in-Found.released 2 22 _ _ (omega arith) (omega arith) (returns-in_ok-set_number-in-Found-clause-touches g c)

-- ---- how many records became written, whatever comes of it

pub returns-in_err-find-clause-few_writes : goal.returns-in_err-find-clause-few_writes
returns-in_err-find-clause-few_writes g c = reads_write 24 _ _ (reads_same 33 _ _ c.find.ensures.at_most)

pub returns-in-Absent-clause-few_writes : goal.returns-in-Absent-clause-few_writes
returns-in-Absent-clause-few_writes g c = reads_write 24 _ _ (reads_same 33 _ _ c.find.ensures.at_most)

pub returns-in_err-released-in-Found-clause-few_writes : goal.returns-in_err-released-in-Found-clause-few_writes
returns-in_err-released-in-Found-clause-few_writes g c =
    let r = g.S.Reads.state c.find.new.space in
    let m = g.S.Reads.state c.drop_property.new.space in
    at_most_then 0 23 24 _ r m (omega arith) (reads_write 0 _ r (reads_same 33 _ _ c.find.ensures.at_most))
    (touched_count 1 22 23 r m (omega arith) c.drop_property.ensures.at_most)

pub returns-in_err-set_number-in-Found-clause-few_writes : goal.returns-in_err-set_number-in-Found-clause-few_writes
returns-in_err-set_number-in-Found-clause-few_writes g c =
    let r = g.S.Reads.state c.find.new.space in
    let m = g.S.Reads.state c.drop_property.new.space in
    at_most_then 0 23 24 _ r _ (omega arith) (reads_write 0 _ r (reads_same 33 _ _ c.find.ensures.at_most))
    (at_most_then 23 0 23 r m _ (omega arith) (touched_count 1 22 23 r m (omega arith) c.drop_property.ensures.at_most)
    (reads_write 0 m _ (reads_same 1 _ _ (reads_one 1 _ _ (omega arith) c.in_err-set_number-in-Found.ensures.err))))

pub returns-in_ok-set_number-in-Found-clause-few_writes : goal.returns-in_ok-set_number-in-Found-clause-few_writes
returns-in_ok-set_number-in-Found-clause-few_writes g c =
    let r = g.S.Reads.state c.find.new.space in
    let m = g.S.Reads.state c.drop_property.new.space in
    let t = g.S.Reads.state c.set_number.new.space in
    let placed = subst (IsPlaced c.args.owner c.args.key c.find.new.row) c.in-Found.is c.in_ok-find.ensures.placed in
    at_most_then 23 1 24 _ m t (omega arith)
    (at_most_then 0 23 23 _ r m (omega arith) (reads_write 0 _ r (reads_same 33 _ _ c.find.ensures.at_most)) (touched_count 1 22 23 r m (omega arith)
    c.drop_property.ensures.at_most))
    (one_writes m t c.in-Found.link.key placed.links.own c.set_number.ensures.writes)

-- ---- which record is blamed

pub returns-in_err-find-clause-damaged : goal.returns-in_err-find-clause-damaged
returns-in_err-find-clause-damaged g c tells used =
    let s = g.S.Reads.state c.args.space.now in
    same_has (BlamesBroken s.records s.shape) c.from_residual.result c.in_err-find.field-0.0 c.from_residual.ensures.1
    (c.in_err-find.ensures.damaged tells used)

pub returns-in_err-released-in-Found-clause-damaged : goal.returns-in_err-released-in-Found-clause-damaged
returns-in_err-released-in-Found-clause-damaged g c tells used =
    let s = g.S.Reads.state c.args.space.now in
    let r = g.S.Reads.state c.find.new.space in
    let reads = c.in_ok-find.ensures.at_most in
    let read = subst (λ (z : Records). IsReadRow z c.find.new.row) (sym (reads_records 33 s r reads))
    (subst (IsReadAt s.records c.find.new.row) c.in-Found.is (c.in_ok-find.ensures.read tells)) in
    same_has (BlamesBroken s.records s.shape) c.from_residual-in_err-released-in-Found.result c.in_err-released-in-Found.field-0.0
    c.from_residual-in_err-released-in-Found.ensures.1
    (text_blames s c.find.new.row.id c.in_err-released-in-Found.field-0.0
    (text_fault_same s r (reads_records 33 s r reads) (ap (λ (z : State). z.shape) (reads_same 33 s r reads)) c.find.new.row.id
    c.in_err-released-in-Found.field-0.0 (c.in_err-released-in-Found.ensures.damaged tells read)))

pub returns-in_err-set_number-in-Found-clause-damaged : goal.returns-in_err-set_number-in-Found-clause-damaged
returns-in_err-set_number-in-Found-clause-damaged g c tells used =
    let s = g.S.Reads.state c.args.space.now in
    space_has (BlamesBroken s.records s.shape) tt tt c.from_residual-in_err-set_number-in-Found.result c.in_err-set_number-in-Found.field-0.0
    c.from_residual-in_err-set_number-in-Found.ensures.1

pub returns-in_err-released-in-Found-clause-cause : goal.returns-in_err-released-in-Found-clause-cause
returns-in_err-released-in-Found-clause-cause g c =
    cause_passed _ _ _ c.from_residual-in_err-released-in-Found.result c.in_err-released-in-Found.field-0.0 c.in_ok-find.ensures.cause.later
    c.in_err-released-in-Found.ensures.cause c.from_residual-in_err-released-in-Found.ensures.1

pub returns-in_err-set_number-in-Found-clause-cause : goal.returns-in_err-set_number-in-Found-clause-cause
returns-in_err-set_number-in-Found-clause-cause g c =
    let later0 = c.in_ok-find.ensures.cause.later in
    let later1 = c.in_ok-released-in-Found.ensures.cause.later in
    space_cause_passed _ _ _ c.from_residual-in_err-set_number-in-Found.result c.in_err-set_number-in-Found.field-0.0 (omega (arith, later0, later1))
    c.in_err-set_number-in-Found.ensures.cause c.from_residual-in_err-set_number-in-Found.ensures.1

pub returns-in_err-released-in-Found-clause-onward : goal.returns-in_err-released-in-Found-clause-onward
returns-in_err-released-in-Found-clause-onward g c =
    g.met.S.Reads.further_onward _ _ _ c.in_ok-find.ensures.onward c.in_err-released-in-Found.ensures.onward

pub returns-in_err-set_number-in-Found-clause-onward : goal.returns-in_err-set_number-in-Found-clause-onward
returns-in_err-set_number-in-Found-clause-onward g c =
    g.met.S.Reads.further_onward _ _ _
    (g.met.S.Reads.further_onward _ _ _ c.in_ok-find.ensures.onward c.in_ok-released-in-Found.ensures.onward)
    c.in_err-set_number-in-Found.ensures.onward

pub returns-in_ok-set_number-in-Found-clause-onward : goal.returns-in_ok-set_number-in-Found-clause-onward
returns-in_ok-set_number-in-Found-clause-onward g c =
    g.met.S.Reads.further_onward _ _ _
    (g.met.S.Reads.further_onward _ _ _ c.in_ok-find.ensures.onward c.in_ok-released-in-Found.ensures.onward)
    c.in_ok-set_number-in-Found.ensures.onward

pub returns-in_err-find-clause-unset : goal.returns-in_err-find-clause-unset
returns-in_err-find-clause-unset g c _ = never_ok c.from_residual.result _ _ c.from_residual.ensures.1

pub returns-in_err-find-clause-owned : goal.returns-in_err-find-clause-owned
returns-in_err-find-clause-owned g c _ _ _ = never_ok c.from_residual.result _ _ c.from_residual.ensures.1

pub returns-in_err-find-clause-few : goal.returns-in_err-find-clause-few
returns-in_err-find-clause-few g c = never_ok c.from_residual.result _ _ c.from_residual.ensures.1

pub returns-in_err-find-clause-writes : goal.returns-in_err-find-clause-writes
returns-in_err-find-clause-writes g c = never_ok c.from_residual.result _ _ c.from_residual.ensures.1

pub returns-in_err-find-clause-touches : goal.returns-in_err-find-clause-touches
returns-in_err-find-clause-touches g c = never_ok c.from_residual.result _ _ c.from_residual.ensures.1

pub returns-in_err-find-clause-onward : goal.returns-in_err-find-clause-onward
returns-in_err-find-clause-onward g c = search rules

pub returns-in_err-released-in-Found-clause-unset : goal.returns-in_err-released-in-Found-clause-unset
returns-in_err-released-in-Found-clause-unset g c _ =
    never_ok c.from_residual-in_err-released-in-Found.result _ _ c.from_residual-in_err-released-in-Found.ensures.1

pub returns-in_err-released-in-Found-clause-owned : goal.returns-in_err-released-in-Found-clause-owned
returns-in_err-released-in-Found-clause-owned g c _ _ _ =
    never_ok c.from_residual-in_err-released-in-Found.result _ _ c.from_residual-in_err-released-in-Found.ensures.1

pub returns-in_err-released-in-Found-clause-few : goal.returns-in_err-released-in-Found-clause-few
returns-in_err-released-in-Found-clause-few g c =
    never_ok c.from_residual-in_err-released-in-Found.result _ _ c.from_residual-in_err-released-in-Found.ensures.1

pub returns-in_err-released-in-Found-clause-writes : goal.returns-in_err-released-in-Found-clause-writes
returns-in_err-released-in-Found-clause-writes g c =
    never_ok c.from_residual-in_err-released-in-Found.result _ _ c.from_residual-in_err-released-in-Found.ensures.1

pub returns-in_err-released-in-Found-clause-touches : goal.returns-in_err-released-in-Found-clause-touches
returns-in_err-released-in-Found-clause-touches g c =
    never_ok c.from_residual-in_err-released-in-Found.result _ _ c.from_residual-in_err-released-in-Found.ensures.1

pub returns-in_err-set_number-in-Found-clause-unset : goal.returns-in_err-set_number-in-Found-clause-unset
returns-in_err-set_number-in-Found-clause-unset g c _ =
    never_ok c.from_residual-in_err-set_number-in-Found.result _ _ c.from_residual-in_err-set_number-in-Found.ensures.1

pub returns-in_err-set_number-in-Found-clause-owned : goal.returns-in_err-set_number-in-Found-clause-owned
returns-in_err-set_number-in-Found-clause-owned g c _ _ _ =
    never_ok c.from_residual-in_err-set_number-in-Found.result _ _ c.from_residual-in_err-set_number-in-Found.ensures.1

pub returns-in_err-set_number-in-Found-clause-few : goal.returns-in_err-set_number-in-Found-clause-few
returns-in_err-set_number-in-Found-clause-few g c =
    never_ok c.from_residual-in_err-set_number-in-Found.result _ _ c.from_residual-in_err-set_number-in-Found.ensures.1

pub returns-in_err-set_number-in-Found-clause-writes : goal.returns-in_err-set_number-in-Found-clause-writes
returns-in_err-set_number-in-Found-clause-writes g c =
    never_ok c.from_residual-in_err-set_number-in-Found.result _ _ c.from_residual-in_err-set_number-in-Found.ensures.1

pub returns-in_err-set_number-in-Found-clause-touches : goal.returns-in_err-set_number-in-Found-clause-touches
returns-in_err-set_number-in-Found-clause-touches g c =
    never_ok c.from_residual-in_err-set_number-in-Found.result _ _ c.from_residual-in_err-set_number-in-Found.ensures.1

pub returns-in-Absent-clause-cause : goal.returns-in-Absent-clause-cause
returns-in-Absent-clause-cause g c = ok_cause _ _ _ _ (omega arith)

pub returns-in_ok-set_number-in-Found-clause-cause : goal.returns-in_ok-set_number-in-Found-clause-cause
returns-in_ok-set_number-in-Found-clause-cause g c = ok_cause _ _ _ _ (omega arith)

pub returns-in_err-find-clause-cause : goal.returns-in_err-find-clause-cause
returns-in_err-find-clause-cause g c =
    cause_passed _ _ _ c.from_residual.result c.in_err-find.field-0.0 (omega arith) c.in_err-find.ensures.cause c.from_residual.ensures.1

pub returns-in_err-set_number-in-Found-clause-not_damaged : goal.returns-in_err-set_number-in-Found-clause-not_damaged
returns-in_err-set_number-in-Found-clause-not_damaged g c tells has =
    space_exit c.from_residual-in_err-set_number-in-Found.result c.in_err-set_number-in-Found.field-0.0 c.from_residual-in_err-set_number-in-Found.ensures.1

pub returns-in_err-set_number-in-Found-clause-owned_not_damaged : goal.returns-in_err-set_number-in-Found-clause-owned_not_damaged
returns-in_err-set_number-in-Found-clause-owned_not_damaged g c tells es owns =
    space_exit c.from_residual-in_err-set_number-in-Found.result c.in_err-set_number-in-Found.field-0.0 c.from_residual-in_err-set_number-in-Found.ensures.1

pub returns-in-Absent-clause-onward : goal.returns-in-Absent-clause-onward
returns-in-Absent-clause-onward g c = c.in_ok-find.ensures.onward

pub returns-in_ok-set_number-in-Found-clause-few : goal.returns-in_ok-set_number-in-Found-clause-few
returns-in_ok-set_number-in-Found-clause-few g c = c.in_ok-released-in-Found.ensures.few

-- ---- the property of the key is in use no more

pub returns-in_err-find-clause-gone : goal.returns-in_err-find-clause-gone
returns-in_err-find-clause-gone g c _ = never_ok c.from_residual.result _ _ c.from_residual.ensures.1

pub returns-in-Absent-clause-gone : goal.returns-in-Absent-clause-gone
returns-in-Absent-clause-gone g c tells =
    let s = g.S.Reads.state c.args.space.now in
    let met = subst (IsMet s.records c.args.owner c.args.key c.find.new.row) c.in-Absent.is (c.in_ok-find.ensures.met tells) in
    frees_none s.records (g.S.Reads.state c.find.new.space).records c.args.owner c.args.key met.0

pub returns-in_err-released-in-Found-clause-gone : goal.returns-in_err-released-in-Found-clause-gone
returns-in_err-released-in-Found-clause-gone g c _ =
    never_ok c.from_residual-in_err-released-in-Found.result _ _ c.from_residual-in_err-released-in-Found.ensures.1

pub returns-in_err-set_number-in-Found-clause-gone : goal.returns-in_err-set_number-in-Found-clause-gone
returns-in_err-set_number-in-Found-clause-gone g c _ =
    never_ok c.from_residual-in_err-set_number-in-Found.result _ _ c.from_residual-in_err-set_number-in-Found.ensures.1

pub returns-in_ok-set_number-in-Found-clause-gone : goal.returns-in_ok-set_number-in-Found-clause-gone
returns-in_ok-set_number-in-Found-clause-gone g c tells =
    let s = g.S.Reads.state c.args.space.now in
    let m = g.S.Reads.state c.drop_property.new.space in
    let t = g.S.Reads.state c.set_number.new.space in
    let row = c.find.new.row in
    let link = c.in-Found.link in
    let met = subst (IsMet s.records c.args.owner c.args.key row) c.in-Found.is (c.in_ok-find.ensures.met tells) in
    let links = (subst (IsPlaced c.args.owner c.args.key row) c.in-Found.is c.in_ok-find.ensures.placed).links in
    frees_met s.records t.records c.args.owner c.args.key row met
    (kind_set m t link.key link.field c.number-next.result links.own links.behind (c.in_ok-set_number-in-Found.ensures.ok tells) properties_file row.id
    ∙ c.in_ok-released-in-Found.ensures.gone tells)
