use Rattle.std.specs.Prelude.{Result, Ok, Err, IfOk}
use Rattle.std.proofs.Common.{◌≡◌, ◌+◌, ◌<◌, ℕ, List, ◌∷◌, [], length, sym, ap, ◌∙◌, subst, arith, refl, rules}
use Rattle.std.proofs.lemmas.Result.{IfErr-weaker, IfOk-weaker, err_from_is_err_and}
use Rattle.plain_graph.specs.Properties.{blocks_of}
use Rattle.rec_bytes.specs.Format.{property_key, property_next}
use Rattle.rec_bytes.specs.Record.{field}
use Rattle.rec_bytes.specs.Space.{SameButReads, State}
use Rattle.store_rules.specs.Properties.{Property}
use Rattle.store_rules.specs.Writes.{WritesAtMost}
use Rattle.prop_store.specs.Alone.{IsKnownKey, IsSetRefusalAlone, OwnsProperties, SetsAlone}
use Rattle.store_rules.specs.Views.{Records}
use Rattle.prop_store.specs.Dropping.{IsHeld}
use Rattle.prop_store.specs.PropertyRow.{IsReadRow}
use Rattle.prop_store.specs.Finding.{FoundAt, IsCrowded, IsMet, IsPlaced, IsReadAt, IsSought, LacksMet}
use Rattle.prop_store.specs.SetFault.{IsSetCause}
use Rattle.prop_store.specs.Setting.{SetBlamesBroken, IsPutFault, PutsProperty}
use Rattle.prop_store.specs.Touching.{TouchesProperties}
use Rattle.prop_store.specs.declared.set_fault.SetFault.{SetFault}
use Rattle.prop_store.specs.declared.set_fault.SetFault.TheVariants.{PropsFull}
use Rattle.prop_store.proofs.ElementSteps.{meta_of_element}
use Rattle.prop_store.proofs.ElementChanges.{has_properties, owns_read}
use Rattle.prop_store.proofs.ElementGraphs.{owns_listed, refusal_graph, sets_graph}
use Rattle.prop_store.proofs.ElementParts.{held_same, held_row}
use Rattle.prop_store.proofs.ElementSets.{next_leads, no_other_blocks, put_read_fault, puts_read, read_refusal, refusal_read, sets_read, value_replaced}
use Rattle.prop_store.proofs.Midway.{set_caused_fault, set_caused_more, set_has, set_read, set_still_fault}
use Rattle.prop_store.proofs.ReadCounts.{reads_records, reads_same, same_then}
use Rattle.prop_store.proofs.Touches.{touches_after, touches_beside, touches_more, touches_reads}
use Rattle.prop_store.proofs.WriteCounts.{beside_writes, touched_beside}
use Rattle.prop_store.proofs.SetCauses.{fault_set_cause, set_cause_after, set_cause_passed}
use Rattle.rec_bytes.proofs.Causes.{never_ok, ok_cause}
use Rattle.std.specs.Prelude.{OnOk}
use Rattle.prop_store.specs.Finding.{MetAt}
use Rattle.prop_store.proofs.GivenValues.{again_met}
use Rattle.prop_store.proofs.setting.set.Goals as goal
use Rattle.prop_store.proofs.setting.set.Goals.{After-put_again}
use Rattle.prop_store.proofs.setting.set.Given.{Over}

-- what holds of an answer
ok_with : {H : Type 0} {P : H → ℕ → Type 0} {Q : ℕ → Type 0} (r : Result ℕ SetFault) → ((h : H) → IfOk r (P h)) → ((n : ℕ) (h : H) → P h n → Q n)
    → IfOk r (λ n. H → Q n)
ok_with (Ok n) g f = λ h. f n h (g h)
ok_with (Err fault) g f = tt

ok_so : (P Q : ℕ → Type 0) (r : Result ℕ SetFault) → IfOk r P → ((n : ℕ) → P n → Q n) → IfOk r Q
ok_so P Q (Ok n) h f = f n h
ok_so P Q (Err fault) h f = tt

-- a search leaves the names
known_read : (s z : State) (key : ℕ) → SameButReads s z → IsKnownKey s key → IsKnownKey z key
known_read s z key same known = subst (λ (y : State). IsKnownKey y key) (sym same) known

fewer : (es : List Property) (count : ℕ) → count ≡ length es → count < 32 → length es < 32
fewer es count is few = omega arith

-- the search only reads
same : (g : Over) (c : After-put_again g) → SameButReads (g.S.Reads.state c.args.space.now) (g.S.Reads.state c.find.new.space)
same g c = reads_same 33 _ _ c.find.ensures.at_most

-- where the property of the key is
found : (g : Over) (c : After-put_again g) → g.S.Reads.tells → (es : List Property) → OwnsProperties (g.S.Reads.state c.args.space.now) c.args.owner es
    → FoundAt (g.S.Reads.state c.args.space.now).records c.args.owner es c.args.key c.in-Found.field-0 c.find.new.row
found g c tells es owns =
    subst (IsSought (g.S.Reads.state c.args.space.now).records c.args.owner es c.args.key c.find.new.row) c.in-Found.is
    (c.in_ok-count.ensures.found tells es owns.held.are)

-- it is in use
held : (g : Over) (c : After-put_again g) (tells : g.S.Reads.tells) (es : List Property)
    (owns : OwnsProperties (g.S.Reads.state c.args.space.now) c.args.owner es)
    → IsHeld (g.S.Reads.state c.find.new.space) c.find.new.row (found g c tells es owns).property
held g c tells es owns =
    let s = g.S.Reads.state c.args.space.now in
    let f = found g c tells es owns in
    held_same s (g.S.Reads.state c.find.new.space) c.find.new.row f.property (same g c)
    (held_row s c.args.owner es owns f.before f.property f.after f.all c.find.new.row f.id_is f.rec_is)

pub returns-in_err-count-clause-owned_refused : goal.returns-in_err-count-clause-owned_refused
returns-in_err-count-clause-owned_refused g c tells es owns known =
    let p = err_from_is_err_and c.from_residual.result c.from_residual.ensures.1 in
    let s = g.S.Reads.state c.args.space.now in
    rw (p.1, p.2) (read_refusal s es c.args.key c.args.value.now c.in_err-count.field-0.0 (c.in_err-count.ensures.not_damaged tells es
    (has_properties s c.args.owner es owns)))

pub returns-in_err-count-clause-refused : goal.returns-in_err-count-clause-refused
returns-in_err-count-clause-refused g c tells has =
    let s = g.S.Reads.state c.args.space.now in
    IfErr-weaker _ _ _ (refusal_graph s c.args.owner c.requires.owner has.element c.args.key has.known c.args.value.now)
    (returns-in_err-count-clause-owned_refused g c tells _ (owns_listed s c.args.owner c.requires.owner has.element) has.known)

pub returns-then-count-ge-MOST_PROPERTIES-clause-owned_refused :
    goal.returns-then-count-ge-MOST_PROPERTIES-clause-owned_refused
returns-then-count-ge-MOST_PROPERTIES-clause-owned_refused g c tells es owns known =
    let f = subst (IsSought (g.S.Reads.state c.args.space.now).records c.args.owner es c.args.key c.find.new.row) c.in-Absent.is
    (c.in_ok-count.ensures.found tells es owns.held.are) in
    let few = owns.held.are.few in
    let a = f.0 in
    let b = c.if-count-ge-MOST_PROPERTIES.true in
    (omega arith, f.1, omega arith)

pub returns-then-count-ge-MOST_PROPERTIES-clause-refused :
    goal.returns-then-count-ge-MOST_PROPERTIES-clause-refused
returns-then-count-ge-MOST_PROPERTIES-clause-refused g c tells has =
    let s = g.S.Reads.state c.args.space.now in
    refusal_graph s c.args.owner c.requires.owner has.element c.args.key has.known c.args.value.now (PropsFull c.in-Absent.count)
    (returns-then-count-ge-MOST_PROPERTIES-clause-owned_refused g c tells _ (owns_listed s c.args.owner c.requires.owner has.element) has.known)

pub returns-in_err-add-in-Absent-clause-owned_refused : goal.returns-in_err-add-in-Absent-clause-owned_refused
returns-in_err-add-in-Absent-clause-owned_refused g c tells es owns known =
    let p = err_from_is_err_and c.from_residual-in_err-add-in-Absent.result c.from_residual-in_err-add-in-Absent.ensures.1 in
    let s = g.S.Reads.state c.args.space.now in
    let z = g.S.Reads.state c.find.new.space in
    let same = reads_same 33 s z c.find.ensures.at_most in
    let f = subst (IsSought s.records c.args.owner es c.args.key c.find.new.row) c.in-Absent.is (c.in_ok-count.ensures.found tells es owns.held.are) in
    rw (p.1, p.2) (refusal_read s z es c.args.key c.args.value.now c.in_err-add-in-Absent.field-0.0 same
    (c.in_err-add-in-Absent.ensures.owned_refused tells es (owns_read s c.args.owner es owns z same) (known_read s z c.args.key same known) f.1
    (fewer es c.in-Absent.count f.0 c.if-count-ge-MOST_PROPERTIES.false)))

pub returns-in_err-add-in-Absent-clause-refused : goal.returns-in_err-add-in-Absent-clause-refused
returns-in_err-add-in-Absent-clause-refused g c tells has =
    let s = g.S.Reads.state c.args.space.now in
    IfErr-weaker _ _ _ (refusal_graph s c.args.owner c.requires.owner has.element c.args.key has.known c.args.value.now)
    (returns-in_err-add-in-Absent-clause-owned_refused g c tells _ (owns_listed s c.args.owner c.requires.owner has.element) has.known)

pub returns-in_ok-add-in-Absent-clause-owned : goal.returns-in_ok-add-in-Absent-clause-owned
returns-in_ok-add-in-Absent-clause-owned g c tells es owns known =
    let s = g.S.Reads.state c.args.space.now in
    let z = g.S.Reads.state c.find.new.space in
    let same = reads_same 33 s z c.find.ensures.at_most in
    let f = subst (IsSought s.records c.args.owner es c.args.key c.find.new.row) c.in-Absent.is (c.in_ok-count.ensures.found tells es owns.held.are) in
    sets_read s z (g.S.Reads.state c.add.new.space) c.args.owner es c.args.key c.args.value.now 0 same
    (c.in_ok-add-in-Absent.ensures.owned tells es (owns_read s c.args.owner es owns z same) (known_read s z c.args.key same known) f.1
    (fewer es c.in-Absent.count f.0 c.if-count-ge-MOST_PROPERTIES.false))

pub returns-in_ok-add-in-Absent-clause-set : goal.returns-in_ok-add-in-Absent-clause-set
returns-in_ok-add-in-Absent-clause-set g c tells has =
    let s = g.S.Reads.state c.args.space.now in
    sets_graph s c.args.owner c.requires.owner has.element c.args.key has.known (g.S.Reads.state c.add.new.space) c.args.value.now 0
    (returns-in_ok-add-in-Absent-clause-owned g c tells _ (owns_listed s c.args.owner c.requires.owner has.element) has.known)
    (g.met.S.Reads.onward_shape _ _ c.add.ensures.onward ∙ ap (λ (z : State). z.shape) (reads_same 33 _ _ c.find.ensures.at_most))

pub returns-in-Found-clause-owned : goal.returns-in-Found-clause-owned
returns-in-Found-clause-owned g c tells es owns known =
    let s = g.S.Reads.state c.args.space.now in
    let z = g.S.Reads.state c.find.new.space in
    let m = g.S.Reads.state c.put_again.new.space in
    let row = c.find.new.row in
    let f = found g c tells es owns in
    let next_is = ap (λ r. field 4 r property_next) f.rec_is ∙ f.is.next_is in
    let key_is = ap (λ r. field 4 r property_key) f.rec_is ∙ f.is.key ∙ f.key_is in
    let may = next_leads s c.args.owner es owns z (same g c) f.before f.property f.after f.all (field 4 row.rec property_next) next_is in
    IfOk-weaker c.put_again.result
    (λ n. (n ≡ length f.property.blocks) × PutsProperty z m (f.property.id ∷ []) f.property.blocks f.property.id (field 4 row.rec property_key) c.args.value.now
    (field 4 row.rec property_next))
    (SetsAlone s m c.args.owner es c.args.key c.args.value.now)
    (λ n h. subst (SetsAlone s m c.args.owner es c.args.key c.args.value.now) (sym h.0)
    (value_replaced s c.args.owner es owns f.before f.property f.after f.all c.requires.owner c.args.key f.key_is m c.args.value.now
    (field 4 row.rec property_next) next_is
    (subst (λ k. PutsProperty s m (f.property.id ∷ []) f.property.blocks f.property.id k c.args.value.now (field 4 row.rec property_next)) key_is
    (puts_read s z m (f.property.id ∷ []) f.property.blocks f.property.id (field 4 row.rec property_key) c.args.value.now (field 4 row.rec property_next)
    (same g c) h.1))))
    (c.put_again.ensures.put tells f.property (held g c tells es owns) may)

pub returns-in-Found-clause-set : goal.returns-in-Found-clause-set
returns-in-Found-clause-set g c tells =
    let s = g.S.Reads.state c.args.space.now in
    let m = g.S.Reads.state c.put_again.new.space in
    ok_with c.put_again.result (λ has. returns-in-Found-clause-owned g c tells _ (owns_listed s c.args.owner c.requires.owner has.element) has.known)
    (λ n has sets. sets_graph s c.args.owner c.requires.owner has.element c.args.key has.known m c.args.value.now n sets
    (g.met.S.Reads.onward_shape _ _ c.put_again.ensures.onward ∙ ap (λ (z : State). z.shape) (same g c)))

pub returns-in-Found-clause-owned_refused : goal.returns-in-Found-clause-owned_refused
returns-in-Found-clause-owned_refused g c tells es owns known =
    let s = g.S.Reads.state c.args.space.now in
    let z = g.S.Reads.state c.find.new.space in
    let f = found g c tells es owns in
    IfErr-weaker c.put_again.result (IsPutFault z (length f.property.blocks) (blocks_of c.args.value.now)) (IsSetRefusalAlone s es c.args.key c.args.value.now)
    (λ fault put. no_other_blocks s c.args.owner es owns c.args.key c.args.value.now f.property fault f.found (put_read_fault s z (length f.property.blocks)
    (blocks_of c.args.value.now) fault (same g c) put))
    (c.put_again.ensures.refused tells f.property (held g c tells es owns))

pub returns-in-Found-clause-refused : goal.returns-in-Found-clause-refused
returns-in-Found-clause-refused g c tells has =
    let s = g.S.Reads.state c.args.space.now in
    IfErr-weaker _ _ _ (refusal_graph s c.args.owner c.requires.owner has.element c.args.key has.known c.args.value.now)
    (returns-in-Found-clause-owned_refused g c tells _ (owns_listed s c.args.owner c.requires.owner has.element) has.known)

pub returns-in_err-count-clause-at_most : goal.returns-in_err-count-clause-at_most
returns-in_err-count-clause-at_most g c = touches_reads _ 1 _ _ _ (reads_same 33 _ _ c.find.ensures.at_most)

pub returns-then-count-ge-MOST_PROPERTIES-clause-at_most : goal.returns-then-count-ge-MOST_PROPERTIES-clause-at_most
returns-then-count-ge-MOST_PROPERTIES-clause-at_most g c = touches_reads _ 1 _ _ _ (reads_same 33 _ _ c.find.ensures.at_most)

pub returns-in_err-add-in-Absent-clause-at_most : goal.returns-in_err-add-in-Absent-clause-at_most
returns-in_err-add-in-Absent-clause-at_most g c =
    let n = blocks_of c.args.value.now in
    touches_more _ 1 n 1 (22 + n) _ _ (omega arith) (omega arith) (touches_after _ 1 n _ _ _ (reads_same 33 _ _ c.find.ensures.at_most) c.add.ensures.touches)

pub returns-in_ok-add-in-Absent-clause-touches : goal.returns-in_ok-add-in-Absent-clause-touches
returns-in_ok-add-in-Absent-clause-touches g c =
    let n = blocks_of c.args.value.now in
    touches_more _ 1 n 1 (n + 0) _ _ (omega arith) (omega arith) (touches_after _ 1 n _ _ _ (reads_same 33 _ _ c.find.ensures.at_most) c.add.ensures.touches)

pub returns-in_ok-add-in-Absent-clause-at_most : goal.returns-in_ok-add-in-Absent-clause-at_most
returns-in_ok-add-in-Absent-clause-at_most g c = touches_more _ 1 (blocks_of c.args.value.now + 0) 1 _ _ _ (omega arith) (omega arith)
    (returns-in_ok-add-in-Absent-clause-touches g c)

pub returns-in_ok-add-in-Absent-clause-writes : goal.returns-in_ok-add-in-Absent-clause-writes
returns-in_ok-add-in-Absent-clause-writes g c =
    let n = blocks_of c.args.value.now in
    beside_writes (1 + n) (2 + n + 0) _ _ c.args.owner.key (meta_of_element c.args.owner.key.file c.requires.owner.file) (omega arith)
    (touched_beside 1 (n + 0) (1 + n) _ _ c.args.owner.key (omega arith) (returns-in_ok-add-in-Absent-clause-touches g c))

pub returns-in-Found-clause-touches : goal.returns-in-Found-clause-touches
returns-in-Found-clause-touches g c =
    let s = g.S.Reads.state c.args.space.now in
    let z = g.S.Reads.state c.find.new.space in
    let m = g.S.Reads.state c.put_again.new.space in
    let n = blocks_of c.args.value.now in
    ok_so (λ r. TouchesProperties g.S.Reads.tells [] 1 (n + r) z m) (λ r. TouchesProperties g.S.Reads.tells (c.args.owner.key ∷ []) 1 (n + r) s m)
    c.put_again.result c.put_again.ensures.touches
    (λ r h. touches_after _ 1 (n + r) s z m (same g c) (touches_beside _ 1 (n + r) z m h))

pub returns-in-Found-clause-at_most : goal.returns-in-Found-clause-at_most
returns-in-Found-clause-at_most g c = touches_after _ 1 _ _ _ _ (same g c) (touches_beside _ 1 _ _ _ c.put_again.ensures.at_most)

pub returns-in-Found-clause-writes : goal.returns-in-Found-clause-writes
returns-in-Found-clause-writes g c =
    let s = g.S.Reads.state c.args.space.now in
    let m = g.S.Reads.state c.put_again.new.space in
    let n = blocks_of c.args.value.now in
    let key = c.args.owner.key in
    ok_so (λ r. TouchesProperties g.S.Reads.tells (key ∷ []) 1 (n + r) s m) (λ r. WritesAtMost (2 + n + r) s m) c.put_again.result
    (returns-in-Found-clause-touches g c)
    (λ r h. beside_writes (1 + n + r) (2 + n + r) s m key (meta_of_element key.file c.requires.owner.file) (omega arith) (touched_beside 1 (n + r) (1 + n + r)
    s m key (omega arith) h))

-- ---- which record is blamed

pub returns-in_err-count-clause-damaged : goal.returns-in_err-count-clause-damaged
returns-in_err-count-clause-damaged g c tells used =
    let s = g.S.Reads.state c.args.space.now in
    set_has (SetBlamesBroken s) c.from_residual.result _ c.from_residual.ensures.1
    (set_still_fault s s c.in_err-count.field-0.0 (c.in_err-count.ensures.damaged tells used) refl)

pub returns-in_err-add-in-Absent-clause-damaged : goal.returns-in_err-add-in-Absent-clause-damaged
returns-in_err-add-in-Absent-clause-damaged g c tells used =
    let s = g.S.Reads.state c.args.space.now in
    let z = g.S.Reads.state c.find.new.space in
    let fault = c.in_err-add-in-Absent.field-0.0 in
    set_has (SetBlamesBroken s) c.from_residual-in_err-add-in-Absent.result fault c.from_residual-in_err-add-in-Absent.ensures.1
    (set_read s z fault (reads_same 33 s z c.find.ensures.at_most) (c.in_err-add-in-Absent.ensures.damaged tells))

pub returns-in-Found-clause-damaged : goal.returns-in-Found-clause-damaged
returns-in-Found-clause-damaged g c tells used =
    let s = g.S.Reads.state c.args.space.now in
    let z = g.S.Reads.state c.find.new.space in
    let read = subst (λ (r : Records). IsReadRow r c.find.new.row) (sym (reads_records 33 s z c.find.ensures.at_most))
    (subst (IsReadAt s.records c.find.new.row) c.in-Found.is (c.in_ok-count.ensures.read tells)) in
    IfErr-weaker c.put_again.result (SetBlamesBroken z) (SetBlamesBroken s) (λ fault why. set_read s z fault (same g c) why)
    (c.put_again.ensures.damaged tells read)

-- ---- what a refusal carries

pub returns-in_err-count-clause-caused : goal.returns-in_err-count-clause-caused
returns-in_err-count-clause-caused g c tells =
    let s = g.S.Reads.state c.args.space.now in
    let t = g.S.Reads.state c.find.new.space in
    let n = blocks_of c.args.value.now in
    let crowded = IsCrowded s.records c.args.owner c.args.key × SameButReads s t in
    let lacks = LacksMet s.records c.args.owner c.args.key × SameButReads s t in
    set_has (IsSetCause crowded lacks n t) c.from_residual.result _ c.from_residual.ensures.1 (set_caused_fault crowded lacks t n c.in_err-count.field-0.0)

pub returns-then-count-ge-MOST_PROPERTIES-clause-caused : goal.returns-then-count-ge-MOST_PROPERTIES-clause-caused
returns-then-count-ge-MOST_PROPERTIES-clause-caused g c tells =
    let s = g.S.Reads.state c.args.space.now in
    let few = subst (IsPlaced c.args.owner c.args.key c.find.new.row) c.in-Absent.is c.in_ok-count.ensures.placed in
    let met = subst (IsMet s.records c.args.owner c.args.key c.find.new.row) c.in-Absent.is (c.in_ok-count.ensures.met tells) in
    let all : c.in-Absent.count ≡ 32 = omega (arith, few, c.if-count-ge-MOST_PROPERTIES.true) in
    (all, ((met.0, sym met.1 ∙ all), reads_same 33 s (g.S.Reads.state c.find.new.space) c.find.ensures.at_most))

pub returns-in_err-add-in-Absent-clause-caused : goal.returns-in_err-add-in-Absent-clause-caused
returns-in_err-add-in-Absent-clause-caused g c tells =
    let s = g.S.Reads.state c.args.space.now in
    let z = g.S.Reads.state c.find.new.space in
    let t = g.S.Reads.state c.add.new.space in
    let n = blocks_of c.args.value.now in
    let crowded = IsCrowded s.records c.args.owner c.args.key × SameButReads s t in
    let lacks = LacksMet s.records c.args.owner c.args.key × SameButReads s t in
    let met = subst (IsMet s.records c.args.owner c.args.key c.find.new.row) c.in-Absent.is (c.in_ok-count.ensures.met tells) in
    let fault = c.in_err-add-in-Absent.field-0.0 in
    set_has (IsSetCause crowded lacks n t) c.from_residual-in_err-add-in-Absent.result fault c.from_residual-in_err-add-in-Absent.ensures.1
    (set_caused_more crowded (SameButReads z t) lacks (λ same. (met.0, same_then s z t (reads_same 33 s z c.find.ensures.at_most) same)) t n fault
    (c.in_err-add-in-Absent.ensures.caused tells))

pub returns-in-Found-clause-caused : goal.returns-in-Found-clause-caused
returns-in-Found-clause-caused g c tells =
    let s = g.S.Reads.state c.args.space.now in
    let t = g.S.Reads.state c.put_again.new.space in
    let n = blocks_of c.args.value.now in
    let crowded = IsCrowded s.records c.args.owner c.args.key × SameButReads s t in
    let lacks = LacksMet s.records c.args.owner c.args.key × SameButReads s t in
    IfErr-weaker c.put_again.result (IsSetCause ⊥ ⊥ n t) (IsSetCause crowded lacks n t)
    (λ fault why. set_caused_more crowded ⊥ lacks (λ none. absurd none) t n fault why) (c.put_again.ensures.caused tells)

-- ---- what is blamed is broken still

pub returns-in_err-count-clause-damaged_after : goal.returns-in_err-count-clause-damaged_after
returns-in_err-count-clause-damaged_after g c tells used =
    let s = g.S.Reads.state c.args.space.now in
    let t = g.S.Reads.state c.find.new.space in
    set_has (SetBlamesBroken t) c.from_residual.result _ c.from_residual.ensures.1
    (set_still_fault s t c.in_err-count.field-0.0 (c.in_err-count.ensures.damaged tells used) (reads_same 33 s t c.find.ensures.at_most))

pub returns-in_err-add-in-Absent-clause-damaged_after : goal.returns-in_err-add-in-Absent-clause-damaged_after
returns-in_err-add-in-Absent-clause-damaged_after g c tells used =
    let t = g.S.Reads.state c.add.new.space in
    set_has (SetBlamesBroken t) c.from_residual-in_err-add-in-Absent.result c.in_err-add-in-Absent.field-0.0 c.from_residual-in_err-add-in-Absent.ensures.1
    (c.in_err-add-in-Absent.ensures.damaged_after tells)

pub returns-in-Found-clause-damaged_after : goal.returns-in-Found-clause-damaged_after
returns-in-Found-clause-damaged_after g c tells used =
    let s = g.S.Reads.state c.args.space.now in
    let z = g.S.Reads.state c.find.new.space in
    let read = subst (λ (r : Records). IsReadRow r c.find.new.row) (sym (reads_records 33 s z c.find.ensures.at_most))
    (subst (IsReadAt s.records c.find.new.row) c.in-Found.is (c.in_ok-count.ensures.read tells)) in
    c.put_again.ensures.damaged_after tells read

pub returns-in_err-add-in-Absent-clause-cause : goal.returns-in_err-add-in-Absent-clause-cause
returns-in_err-add-in-Absent-clause-cause g c =
    set_cause_passed _ _ _ c.from_residual-in_err-add-in-Absent.result c.in_err-add-in-Absent.field-0.0 c.in_ok-count.ensures.cause.later
    c.in_err-add-in-Absent.ensures.cause c.from_residual-in_err-add-in-Absent.ensures.1

pub returns-in_err-add-in-Absent-clause-onward : goal.returns-in_err-add-in-Absent-clause-onward
returns-in_err-add-in-Absent-clause-onward g c =
    g.met.S.Reads.further_onward _ _ _ c.in_ok-count.ensures.onward c.in_err-add-in-Absent.ensures.onward

pub returns-in_ok-add-in-Absent-clause-onward : goal.returns-in_ok-add-in-Absent-clause-onward
returns-in_ok-add-in-Absent-clause-onward g c =
    g.met.S.Reads.further_onward _ _ _ c.in_ok-count.ensures.onward c.in_ok-add-in-Absent.ensures.onward

pub returns-in_err-count-clause-set : goal.returns-in_err-count-clause-set
returns-in_err-count-clause-set g c _ = never_ok c.from_residual.result _ _ c.from_residual.ensures.1

pub returns-in_err-count-clause-owned : goal.returns-in_err-count-clause-owned
returns-in_err-count-clause-owned g c _ _ _ _ = never_ok c.from_residual.result _ _ c.from_residual.ensures.1

pub returns-in_err-count-clause-few : goal.returns-in_err-count-clause-few
returns-in_err-count-clause-few g c = never_ok c.from_residual.result _ _ c.from_residual.ensures.1

pub returns-in_err-count-clause-writes : goal.returns-in_err-count-clause-writes
returns-in_err-count-clause-writes g c = never_ok c.from_residual.result _ _ c.from_residual.ensures.1

pub returns-in_err-count-clause-touches : goal.returns-in_err-count-clause-touches
returns-in_err-count-clause-touches g c = never_ok c.from_residual.result _ _ c.from_residual.ensures.1

pub returns-in_err-count-clause-onward : goal.returns-in_err-count-clause-onward
returns-in_err-count-clause-onward g c = search rules

pub returns-in_err-add-in-Absent-clause-set : goal.returns-in_err-add-in-Absent-clause-set
returns-in_err-add-in-Absent-clause-set g c _ = never_ok c.from_residual-in_err-add-in-Absent.result _ _ c.from_residual-in_err-add-in-Absent.ensures.1

pub returns-in_err-add-in-Absent-clause-owned : goal.returns-in_err-add-in-Absent-clause-owned
returns-in_err-add-in-Absent-clause-owned g c _ _ _ _ = never_ok c.from_residual-in_err-add-in-Absent.result _ _ c.from_residual-in_err-add-in-Absent.ensures.1

pub returns-in_err-add-in-Absent-clause-few : goal.returns-in_err-add-in-Absent-clause-few
returns-in_err-add-in-Absent-clause-few g c = never_ok c.from_residual-in_err-add-in-Absent.result _ _ c.from_residual-in_err-add-in-Absent.ensures.1

pub returns-in_err-add-in-Absent-clause-writes : goal.returns-in_err-add-in-Absent-clause-writes
returns-in_err-add-in-Absent-clause-writes g c = never_ok c.from_residual-in_err-add-in-Absent.result _ _ c.from_residual-in_err-add-in-Absent.ensures.1

pub returns-in_err-add-in-Absent-clause-touches : goal.returns-in_err-add-in-Absent-clause-touches
returns-in_err-add-in-Absent-clause-touches g c = never_ok c.from_residual-in_err-add-in-Absent.result _ _ c.from_residual-in_err-add-in-Absent.ensures.1

pub returns-in_ok-add-in-Absent-clause-cause : goal.returns-in_ok-add-in-Absent-clause-cause
returns-in_ok-add-in-Absent-clause-cause g c = ok_cause _ _ _ _ (omega arith)

pub returns-in_err-count-clause-cause : goal.returns-in_err-count-clause-cause
returns-in_err-count-clause-cause g c =
    fault_set_cause _ _ _ c.from_residual.result c.in_err-count.field-0.0 (omega arith) c.in_err-count.ensures.cause c.from_residual.ensures.1

pub returns-in-Found-clause-cause : goal.returns-in-Found-clause-cause
returns-in-Found-clause-cause g c = set_cause_after _ _ _ c.put_again.result c.in_ok-count.ensures.cause.later c.put_again.ensures.cause

pub returns-in-Found-clause-onward : goal.returns-in-Found-clause-onward
returns-in-Found-clause-onward g c = g.met.S.Reads.further_onward _ _ _ c.in_ok-count.ensures.onward c.put_again.ensures.onward

pub returns-in-Found-clause-few : goal.returns-in-Found-clause-few
returns-in-Found-clause-few g c = c.put_again.ensures.few

pub returns-then-count-ge-MOST_PROPERTIES-clause-onward : goal.returns-then-count-ge-MOST_PROPERTIES-clause-onward
returns-then-count-ge-MOST_PROPERTIES-clause-onward g c = c.in_ok-count.ensures.onward

pub put_again-requires-clause-row : goal.put_again-requires-clause-row
put_again-requires-clause-row g c = (subst (IsPlaced c.args.owner c.args.key c.find.new.row) c.in-Found.is c.in_ok-count.ensures.placed).is_row

-- ---- the records lead to the value

on_ok : {P Q : Type 0} (r : Result ℕ SetFault) → (P → Q) → OnOk r P → OnOk r Q
on_ok (Ok n) f p = f p
on_ok (Err fault) f p = tt

pub returns-in_err-count-clause-gives : goal.returns-in_err-count-clause-gives
returns-in_err-count-clause-gives g c _ = never_ok c.from_residual.result _ _ c.from_residual.ensures.1

pub returns-in_err-add-in-Absent-clause-gives : goal.returns-in_err-add-in-Absent-clause-gives
returns-in_err-add-in-Absent-clause-gives g c _ = never_ok c.from_residual-in_err-add-in-Absent.result _ _ c.from_residual-in_err-add-in-Absent.ensures.1

pub returns-in_ok-add-in-Absent-clause-gives : goal.returns-in_ok-add-in-Absent-clause-gives
returns-in_ok-add-in-Absent-clause-gives g c tells = c.in_ok-add-in-Absent.ensures.gives tells

pub returns-in-Found-clause-gives : goal.returns-in-Found-clause-gives
returns-in-Found-clause-gives g c tells =
    let s = g.S.Reads.state c.args.space.now in
    let z = g.S.Reads.state c.find.new.space in
    let t = g.S.Reads.state c.put_again.new.space in
    let row = c.find.new.row in
    let met = subst (λ (r : Records). MetAt r c.args.owner c.args.key row) (sym (reads_records 33 s z c.find.ensures.at_most))
    (subst (IsMet s.records c.args.owner c.args.key row) c.in-Found.is (c.in_ok-count.ensures.met tells)) in
    let placed = subst (IsPlaced c.args.owner c.args.key row) c.in-Found.is c.in_ok-count.ensures.placed in
    on_ok c.put_again.result (again_met z.records t.records c.args.owner c.requires.owner c.args.key row c.args.value.now met placed.key_is)
    (c.put_again.ensures.again tells)
