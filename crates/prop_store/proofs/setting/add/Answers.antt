use Rattle.std.proofs.Common.{◌≡◌, ◌≢◌, ◌<◌, [], length, ap, sym, subst, ◌∙◌, inl, arith, ◌+◌, ◌∷◌, refl, rules, List, ℕ}
use Rattle.std.proofs.lemmas.Result.{IfErr-weaker, err_from_is_err_and}
use Rattle.std.specs.FinMap as maps
use Rattle.plain_graph.specs.Properties.{blocks_of}
use Rattle.plain_graph.specs.declared.value.Value.{Value}
use Rattle.rec_bytes.specs.declared.space.SpaceFault.{SpaceFault}
use Rattle.rec_bytes.specs.declared.space.SpaceFault.TheVariants as spaces
use Rattle.store_rules.specs.Properties.{Property}
use Rattle.rec_bytes.specs.declared.meta.Meta.{Meta}
use Rattle.rec_bytes.specs.declared.shape.Shape.{Shape}
use Rattle.rec_bytes.specs.Format.{properties_file, strings_file}
use Rattle.rec_bytes.specs.RecordFiles.{room_of}
use Rattle.rec_bytes.specs.Space.{SameButReads, State, meta_of}
use Rattle.prop_store.specs.Alone.{IsSetRefusalAlone}
use Rattle.prop_store.specs.Changing.{HasKey, IsSetRefusal, properties_of}
use Rattle.prop_store.specs.FileChange.{KeepsFile}
use Rattle.prop_store.specs.Owner.{IsOwner}
use Rattle.prop_store.specs.SetFault.{IsSetCause, of_space}
use Rattle.prop_store.specs.Setting.{BlamesLists, SetBlamesBroken, IsPutFault, MayLead}
use Rattle.prop_store.specs.declared.owner.Owner.{Owner}
use Rattle.prop_store.specs.declared.set_fault.SetFault.TheVariants.{Full}
use Rattle.prop_store.proofs.ElementGraphs.{count_is, lacks_key, listed_at, owns_listed, refusal_graph, sets_graph}
use Rattle.prop_store.proofs.ElementSets.{first_leads, keeps_properties, keeps_strings, no_new_blocks, no_property, puts_read, value_added}
use Rattle.prop_store.proofs.LeftElements.{left_after, left_set, left_then}
use Rattle.prop_store.proofs.Midway.{set_caused_more, set_caused_space, set_has, lists_broken, lists_of_space, lists_read, set_still_space}
use Rattle.prop_store.proofs.PutLists.{led_harms_no_lists, read_harms_no_lists}
use Rattle.prop_store.proofs.ReadCounts.{reads_one, reads_same}
use Rattle.prop_store.proofs.Touches.{touches_after, touches_beside, touches_owner, touches_reads, touches_then}
use Rattle.prop_store.proofs.WriteCounts.{touched_beside}
use Rattle.prop_store.proofs.Causes.{later_on}
use Rattle.prop_store.proofs.SetCauses.{set_cause_passed, space_set_cause}
use Rattle.rec_bytes.proofs.Causes.{never_ok, ok_cause}
use Rattle.rec_bytes.specs.declared.key.Key.{Key}
use Rattle.rec_bytes.specs.declared.record.Rec.{Rec}
use Rattle.rec_bytes.specs.Record.{with_field}
use Rattle.rec_bytes.proofs.Spaces.{put_other}
use Rattle.store_rules.specs.Views.{key_in}
use Rattle.prop_store.specs.Finding.{IsRecordOf}
use Rattle.prop_store.proofs.GivenValues.{front_met, other_file}
use Rattle.prop_store.proofs.setting.add.Goals as goal

-- as few are listed
few_listed : (s : State) (owner : Owner) (is : IsOwner owner) (key : _) (has : HasKey s owner key) → maps.len (properties_of s owner) < 32
    → length (listed_at s owner is has.element) < 32
few_listed s owner is key has few = let n = count_is s owner is has.element in omega arith

pub returns-then-meta-room_of-clause-owned_refused : goal.returns-then-meta-room_of-clause-owned_refused
returns-then-meta-room_of-clause-owned_refused g c tells es owns known lacks few =
    let s = g.S.Reads.state c.args.space.now in
    let full : (meta_of s properties_file).live ≡ room_of s.shape properties_file
    = ap (λ (m : Meta). m.live) (sym c.meta-meta.ensures) ∙ c.if-meta-room_of.true ∙ c.room_of.ensures ∙ ap (λ (z : Shape). z.limit) c.shape.ensures.is in
    no_property s c.args.owner es owns c.args.key c.args.value.now c.meta-meta.result.live lacks few full

pub returns-then-meta-room_of-clause-refused : goal.returns-then-meta-room_of-clause-refused
returns-then-meta-room_of-clause-refused g c tells has none few =
    let s = g.S.Reads.state c.args.space.now in
    let owner = c.args.owner in
    let is = c.requires.owner in
    refusal_graph s owner is has.element c.args.key has.known c.args.value.now (Full properties_file c.meta-meta.result.live)
    (returns-then-meta-room_of-clause-owned_refused g c tells _ (owns_listed s owner is has.element) has.known
    (lacks_key s owner is has.element c.args.key none) (few_listed s owner is c.args.key has few))

pub returns-in_err-id-clause-owned_refused : goal.returns-in_err-id-clause-owned_refused
returns-in_err-id-clause-owned_refused g c tells es owns known lacks few =
    let s = g.S.Reads.state c.args.space.now in
    let e = c.first.ensures.state in
    let p = err_from_is_err_and c.from_residual-in_err-id.result c.from_residual-in_err-id.ensures.1 in
    let room : (meta_of s properties_file).live ≢ room_of s.shape properties_file = λ full.
    c.if-meta-room_of.false (ap (λ (m : Meta). m.live) c.meta-meta.ensures ∙ full ∙ sym (c.room_of.ensures ∙ ap (λ (y : Shape). y.limit) c.shape.ensures.is)) in
    let put : IsPutFault s 0 (blocks_of c.args.value.now) c.in_err-id.field-0.0 =
    subst (λ (y : State). KeepsFile y strings_file → KeepsFile y properties_file → (meta_of y properties_file).live ≢ room_of y.shape properties_file
    → IsPutFault y 0 (blocks_of c.args.value.now) c.in_err-id.field-0.0) e
    (c.in_err-id.ensures.refused tells) (keeps_strings s c.args.owner es owns) (keeps_properties s c.args.owner es owns) room in
    rw (p.1, p.2) (no_new_blocks s c.args.owner es owns c.args.key c.args.value.now c.in_err-id.field-0.0 lacks few room put)

pub returns-in_err-id-clause-refused : goal.returns-in_err-id-clause-refused
returns-in_err-id-clause-refused g c tells has none few =
    let s = g.S.Reads.state c.args.space.now in
    let owner = c.args.owner in
    let is = c.requires.owner in
    IfErr-weaker _ _ _ (refusal_graph s owner is has.element c.args.key has.known c.args.value.now)
    (returns-in_err-id-clause-owned_refused g c tells _ (owns_listed s owner is has.element) has.known
    (lacks_key s owner is has.element c.args.key none) (few_listed s owner is c.args.key has few))

pub returns-clause-owned : goal.returns-clause-owned
returns-clause-owned g c tells es owns known lacks few =
    let s = g.S.Reads.state c.args.space.now in
    let z = g.S.Reads.state c.first.new.space in
    let m = g.S.Reads.state c.put_new.new.space in
    let owner = c.args.owner in
    let e = c.first.ensures.state in
    let next_is = c.in_ok-next.ensures.got tells in
    let strings : KeepsFile z strings_file = subst (λ (y : State). KeepsFile y strings_file) (sym e) (keeps_strings s owner es owns) in
    let properties : KeepsFile z properties_file = subst (λ (y : State). KeepsFile y properties_file) (sym e) (keeps_properties s owner es owns) in
    let leads : MayLead z c.in_ok-next.next = subst (λ (y : State). MayLead y c.in_ok-next.next) (sym e)
    (subst (MayLead s) (sym next_is) (first_leads s owner es owns)) in
    let puts = puts_read s z m [] [] c.in_ok-id.id c.args.key c.args.value.now c.in_ok-next.next (reads_same 1 s z (reads_one 1 s z (omega arith) e))
    (c.in_ok-id.ensures.put tells strings properties leads) in
    value_added s owner es owns c.requires.owner m (g.S.Reads.state c.set_number.new.space) c.args.key c.args.value.now c.in_ok-id.id c.in_ok-next.next known
    lacks few next_is puts (c.in_ok-set_number.ensures.ok tells)

pub returns-clause-added : goal.returns-clause-added
returns-clause-added g c tells has none few =
    let s = g.S.Reads.state c.args.space.now in
    let owner = c.args.owner in
    let is = c.requires.owner in
    sets_graph s owner is has.element c.args.key has.known (g.S.Reads.state c.set_number.new.space) c.args.value.now 0
    (returns-clause-owned g c tells _ (owns_listed s owner is has.element) has.known (lacks_key s owner is has.element c.args.key none)
    (few_listed s owner is c.args.key has few))
    (ap (λ (y : State). y.shape) (c.in_ok-set_number.ensures.ok tells) ∙ g.met.S.Reads.onward_shape _ _ c.in_ok-id.ensures.onward ∙ ap (λ (y : State). y.shape)
    c.first.ensures.state)

pub returns-then-meta-room_of-clause-touches : goal.returns-then-meta-room_of-clause-touches
returns-then-meta-room_of-clause-touches g c = touches_reads _ 1 _ _ _ refl

pub returns-in_err-next-clause-touches : goal.returns-in_err-next-clause-touches
returns-in_err-next-clause-touches g c = touches_reads _ 1 _ _ _ (reads_same 1 _ _ (reads_one 1 _ _ (omega arith) c.first.ensures.state))

pub returns-in_err-id-clause-touches : goal.returns-in_err-id-clause-touches
returns-in_err-id-clause-touches g c = touches_after _ 1 _ _ _ _ (reads_same 1 _ _ (reads_one 1 _ _ (omega arith) c.first.ensures.state))
    (touches_beside _ 1 _ _ _ c.put_new.ensures.touches)

pub returns-in_err-set_number-clause-touches : goal.returns-in_err-set_number-clause-touches
returns-in_err-set_number-clause-touches g c =
    let put = touches_beside (c.args.owner.key ∷ []) 1 (blocks_of c.args.value.now) (g.S.Reads.state c.first.new.space) (g.S.Reads.state c.put_new.new.space)
    c.put_new.ensures.touches in
    touches_after _ 1 _ _ _ _ (reads_same 1 _ _ (reads_one 1 _ _ (omega arith) c.first.ensures.state))
    (touches_then _ 1 (blocks_of c.args.value.now) 0 0 1 (blocks_of c.args.value.now) _ _ _ (omega arith) (omega arith) put (touches_reads _ 0 0 _ _
    (reads_same 1 _ _ (reads_one 1 _ _ (omega arith) c.in_err-set_number.ensures.err))))

pub returns-clause-touches : goal.returns-clause-touches
returns-clause-touches g c =
    let put = touches_beside (c.args.owner.key ∷ []) 1 (blocks_of c.args.value.now) (g.S.Reads.state c.first.new.space) (g.S.Reads.state c.put_new.new.space)
    c.put_new.ensures.touches in
    touches_after _ 1 _ _ _ _ (reads_same 1 _ _ (reads_one 1 _ _ (omega arith) c.first.ensures.state))
    (touches_then _ 1 (blocks_of c.args.value.now) 0 0 1 (blocks_of c.args.value.now) _ _ _ (omega arith) (omega arith) put
    (touches_owner _ _ c.args.owner.key 4 c.args.owner.field c.in_ok-id.id c.set_number.ensures.writes c.in_ok-set_number.ensures.ok))

pub returns-clause-writes : goal.returns-clause-writes
returns-clause-writes g c = touched_beside 1 (blocks_of c.args.value.now) (1 + blocks_of c.args.value.now) _ _ c.args.owner.key (omega arith)
    (returns-clause-touches g c)

-- ---- which record is blamed

pub returns-in_err-next-clause-lists : goal.returns-in_err-next-clause-lists
returns-in_err-next-clause-lists g c tells =
    let s = g.S.Reads.state c.args.space.now in
    set_has (BlamesLists s) c.from_residual.result _ c.from_residual.ensures.1 (lists_of_space s c.in_err-next.field-0.0)

pub returns-in_err-next-clause-damaged : goal.returns-in_err-next-clause-damaged
returns-in_err-next-clause-damaged g c tells =
    let s = g.S.Reads.state c.args.space.now in
    set_has (SetBlamesBroken s) c.from_residual.result _ c.from_residual.ensures.1 (set_still_space s c.in_err-next.field-0.0)

pub returns-in_err-id-clause-lists : goal.returns-in_err-id-clause-lists
returns-in_err-id-clause-lists g c tells =
    let s = g.S.Reads.state c.args.space.now in
    let z = g.S.Reads.state c.first.new.space in
    let fault = c.in_err-id.field-0.0 in
    set_has (BlamesLists s) c.from_residual-in_err-id.result fault c.from_residual-in_err-id.ensures.1
    (lists_read s z fault (reads_same 1 s z (reads_one 1 s z (omega arith) c.first.ensures.state)) (c.in_err-id.ensures.damaged tells))

pub returns-in_err-id-clause-damaged : goal.returns-in_err-id-clause-damaged
returns-in_err-id-clause-damaged g c tells =
    let s = g.S.Reads.state c.args.space.now in
    IfErr-weaker c.from_residual-in_err-id.result (BlamesLists s) (SetBlamesBroken s) (λ fault why. lists_broken s fault why)
    (returns-in_err-id-clause-lists g c tells)

pub returns-in_err-set_number-clause-lists : goal.returns-in_err-set_number-clause-lists
returns-in_err-set_number-clause-lists g c tells =
    let s = g.S.Reads.state c.args.space.now in
    set_has (BlamesLists s) c.from_residual-in_err-set_number.result _ c.from_residual-in_err-set_number.ensures.1
    (lists_of_space s c.in_err-set_number.field-0.0)

pub returns-in_err-set_number-clause-damaged : goal.returns-in_err-set_number-clause-damaged
returns-in_err-set_number-clause-damaged g c tells =
    let s = g.S.Reads.state c.args.space.now in
    set_has (SetBlamesBroken s) c.from_residual-in_err-set_number.result _ c.from_residual-in_err-set_number.ensures.1
    (set_still_space s c.in_err-set_number.field-0.0)

-- ---- what is left of the free lists

pub returns-clause-harmless : goal.returns-clause-harmless
returns-clause-harmless g c tells =
    let s = g.S.Reads.state c.args.space.now in
    let z = g.S.Reads.state c.first.new.space in
    let t = g.S.Reads.state c.put_new.new.space in
    read_harms_no_lists s z (g.S.Reads.state c.set_number.new.space) (reads_same 1 s z (reads_one 1 s z (omega arith) c.first.ensures.state))
    (led_harms_no_lists z t (g.S.Reads.state c.set_number.new.space) c.args.owner c.in_ok-id.id c.requires.owner (c.in_ok-id.ensures.harmless tells)
    (c.in_ok-set_number.ensures.ok tells))

pub returns-in_err-next-clause-harmless : goal.returns-in_err-next-clause-harmless
returns-in_err-next-clause-harmless g c _ = never_ok c.from_residual.result _ _ c.from_residual.ensures.1

pub returns-in_err-id-clause-harmless : goal.returns-in_err-id-clause-harmless
returns-in_err-id-clause-harmless g c _ = never_ok c.from_residual-in_err-id.result _ _ c.from_residual-in_err-id.ensures.1

pub returns-in_err-set_number-clause-harmless : goal.returns-in_err-set_number-clause-harmless
returns-in_err-set_number-clause-harmless g c _ = never_ok c.from_residual-in_err-set_number.result _ _ c.from_residual-in_err-set_number.ensures.1

-- ---- what a refusal carries

pub returns-then-meta-room_of-clause-caused : goal.returns-then-meta-room_of-clause-caused
returns-then-meta-room_of-clause-caused g c tells = (
  (
    ap (λ (m : Meta). m.live) c.meta-meta.ensures,
    c.if-meta-room_of.true ∙ c.room_of.ensures ∙ ap (λ (h : Shape). room_of h properties_file)
        c.shape.ensures.is,
  ),
  inl (refl, refl),
)

pub returns-in_err-next-clause-caused : goal.returns-in_err-next-clause-caused
returns-in_err-next-clause-caused g c tells =
    let s = g.S.Reads.state c.args.space.now in
    let t = g.S.Reads.state c.first.new.space in
    let n = blocks_of c.args.value.now in
    set_has (IsSetCause ⊥ (SameButReads s t) n t) c.from_residual.result _ c.from_residual.ensures.1
    (set_caused_space ⊥ (SameButReads s t) t n c.in_err-next.field-0.0)

pub returns-in_err-id-clause-caused : goal.returns-in_err-id-clause-caused
returns-in_err-id-clause-caused g c tells =
    let s = g.S.Reads.state c.args.space.now in
    let z = g.S.Reads.state c.first.new.space in
    let t = g.S.Reads.state c.put_new.new.space in
    let n = blocks_of c.args.value.now in
    let fault = c.in_err-id.field-0.0 in
    let full = (meta_of z properties_file).live ≡ room_of z.shape properties_file in
    let none : full → ⊥ = λ is. c.if-meta-room_of.false (ap (λ (m : Meta). m.live) c.meta-meta.ensures ∙ subst (λ (y : State). (meta_of y properties_file).live
    ≡ room_of y.shape properties_file) (c.first.ensures.state) is ∙ sym (c.room_of.ensures ∙ ap (λ (y : Shape). y.limit) c.shape.ensures.is)) in
    set_has (IsSetCause ⊥ (SameButReads s t) n t) c.from_residual-in_err-id.result _ c.from_residual-in_err-id.ensures.1
    (set_caused_more ⊥ full (SameButReads s t) (λ is. absurd (none is)) t n fault (c.in_err-id.ensures.caused tells))

pub returns-in_err-set_number-clause-caused : goal.returns-in_err-set_number-clause-caused
returns-in_err-set_number-clause-caused g c tells =
    let s = g.S.Reads.state c.args.space.now in
    let t = g.S.Reads.state c.set_number.new.space in
    let n = blocks_of c.args.value.now in
    set_has (IsSetCause ⊥ (SameButReads s t) n t) c.from_residual-in_err-set_number.result _ c.from_residual-in_err-set_number.ensures.1
    (set_caused_space ⊥ (SameButReads s t) t n c.in_err-set_number.field-0.0)

-- ---- what is blamed is broken still

pub returns-in_err-next-clause-damaged_after : goal.returns-in_err-next-clause-damaged_after
returns-in_err-next-clause-damaged_after g c tells =
    let t = g.S.Reads.state c.first.new.space in
    set_has (SetBlamesBroken t) c.from_residual.result _ c.from_residual.ensures.1 (set_still_space t c.in_err-next.field-0.0)

pub returns-in_err-id-clause-damaged_after : goal.returns-in_err-id-clause-damaged_after
returns-in_err-id-clause-damaged_after g c tells =
    let t = g.S.Reads.state c.put_new.new.space in
    set_has (SetBlamesBroken t) c.from_residual-in_err-id.result c.in_err-id.field-0.0 c.from_residual-in_err-id.ensures.1
    (c.in_err-id.ensures.damaged_after tells)

pub returns-in_err-set_number-clause-damaged_after : goal.returns-in_err-set_number-clause-damaged_after
returns-in_err-set_number-clause-damaged_after g c tells =
    let t = g.S.Reads.state c.set_number.new.space in
    set_has (SetBlamesBroken t) c.from_residual-in_err-set_number.result _ c.from_residual-in_err-set_number.ensures.1
    (set_still_space t c.in_err-set_number.field-0.0)

pub returns-in_err-id-clause-cause : goal.returns-in_err-id-clause-cause
returns-in_err-id-clause-cause g c =
    set_cause_passed _ _ _ c.from_residual-in_err-id.result c.in_err-id.field-0.0 c.in_ok-next.ensures.cause.later c.in_err-id.ensures.cause
    c.from_residual-in_err-id.ensures.1

pub returns-in_err-set_number-clause-cause : goal.returns-in_err-set_number-clause-cause
returns-in_err-set_number-clause-cause g c =
    space_set_cause _ _ _ c.from_residual-in_err-set_number.result c.in_err-set_number.field-0.0
    (later_on c.in_ok-next.ensures.cause.later c.in_ok-id.ensures.cause.later) c.in_err-set_number.ensures.cause c.from_residual-in_err-set_number.ensures.1

pub returns-in_err-id-clause-onward : goal.returns-in_err-id-clause-onward
returns-in_err-id-clause-onward g c =
    g.met.S.Reads.further_onward _ _ _ c.in_ok-next.ensures.onward c.in_err-id.ensures.onward

pub returns-in_err-set_number-clause-onward : goal.returns-in_err-set_number-clause-onward
returns-in_err-set_number-clause-onward g c =
    g.met.S.Reads.further_onward _ _ _
    (g.met.S.Reads.further_onward _ _ _ c.in_ok-next.ensures.onward c.in_ok-id.ensures.onward)
    c.in_err-set_number.ensures.onward

pub returns-clause-onward : goal.returns-clause-onward
returns-clause-onward g c =
    g.met.S.Reads.further_onward _ _ _
    (g.met.S.Reads.further_onward _ _ _ c.in_ok-next.ensures.onward c.in_ok-id.ensures.onward)
    c.in_ok-set_number.ensures.onward

pub returns-in_err-next-clause-added : goal.returns-in_err-next-clause-added
returns-in_err-next-clause-added g c _ = never_ok c.from_residual.result _ _ c.from_residual.ensures.1

pub returns-in_err-next-clause-owned : goal.returns-in_err-next-clause-owned
returns-in_err-next-clause-owned g c _ _ _ _ _ _ = never_ok c.from_residual.result _ _ c.from_residual.ensures.1

pub returns-in_err-next-clause-writes : goal.returns-in_err-next-clause-writes
returns-in_err-next-clause-writes g c = never_ok c.from_residual.result _ _ c.from_residual.ensures.1

pub returns-in_err-next-clause-onward : goal.returns-in_err-next-clause-onward
returns-in_err-next-clause-onward g c = search rules

pub returns-in_err-id-clause-added : goal.returns-in_err-id-clause-added
returns-in_err-id-clause-added g c _ = never_ok c.from_residual-in_err-id.result _ _ c.from_residual-in_err-id.ensures.1

pub returns-in_err-id-clause-owned : goal.returns-in_err-id-clause-owned
returns-in_err-id-clause-owned g c _ _ _ _ _ _ = never_ok c.from_residual-in_err-id.result _ _ c.from_residual-in_err-id.ensures.1

pub returns-in_err-id-clause-writes : goal.returns-in_err-id-clause-writes
returns-in_err-id-clause-writes g c = never_ok c.from_residual-in_err-id.result _ _ c.from_residual-in_err-id.ensures.1

pub returns-in_err-set_number-clause-added : goal.returns-in_err-set_number-clause-added
returns-in_err-set_number-clause-added g c _ = never_ok c.from_residual-in_err-set_number.result _ _ c.from_residual-in_err-set_number.ensures.1

pub returns-in_err-set_number-clause-owned : goal.returns-in_err-set_number-clause-owned
returns-in_err-set_number-clause-owned g c _ _ _ _ _ _ = never_ok c.from_residual-in_err-set_number.result _ _ c.from_residual-in_err-set_number.ensures.1

pub returns-in_err-set_number-clause-writes : goal.returns-in_err-set_number-clause-writes
returns-in_err-set_number-clause-writes g c = never_ok c.from_residual-in_err-set_number.result _ _ c.from_residual-in_err-set_number.ensures.1

pub returns-clause-cause : goal.returns-clause-cause
returns-clause-cause g c = ok_cause _ _ _ _ (omega arith)

-- a fault of the space is no refusal that a store makes
space_refused : (s : State) (es : List Property) (key : ℕ) (value : Value) (fault : SpaceFault) → IsSetRefusalAlone s es key value (of_space fault)
space_refused s es key value spaces.Memory = tt
space_refused s es key value spaces.Disk = tt

space_refused_graph : (s : State) (owner : Owner) (key : ℕ) (value : Value) (fault : SpaceFault) → IsSetRefusal s owner key value (of_space fault)
space_refused_graph s owner key value spaces.Memory = tt
space_refused_graph s owner key value spaces.Disk = tt

pub returns-in_err-next-clause-cause : goal.returns-in_err-next-clause-cause
returns-in_err-next-clause-cause g c =
    space_set_cause _ _ _ c.from_residual.result c.in_err-next.field-0.0 (omega arith) c.in_err-next.ensures.cause c.from_residual.ensures.1

pub returns-in_err-next-clause-owned_refused : goal.returns-in_err-next-clause-owned_refused
returns-in_err-next-clause-owned_refused g c tells es owns known lacks few =
    let s = g.S.Reads.state c.args.space.now in
    set_has (IsSetRefusalAlone s es c.args.key c.args.value.now) c.from_residual.result _ c.from_residual.ensures.1
    (space_refused s es c.args.key c.args.value.now c.in_err-next.field-0.0)

pub returns-in_err-next-clause-refused : goal.returns-in_err-next-clause-refused
returns-in_err-next-clause-refused g c tells has none few =
    let s = g.S.Reads.state c.args.space.now in
    set_has (IsSetRefusal s c.args.owner c.args.key c.args.value.now) c.from_residual.result _ c.from_residual.ensures.1
    (space_refused_graph s c.args.owner c.args.key c.args.value.now c.in_err-next.field-0.0)

pub returns-in_err-set_number-clause-owned_refused : goal.returns-in_err-set_number-clause-owned_refused
returns-in_err-set_number-clause-owned_refused g c tells es owns known lacks few =
    let s = g.S.Reads.state c.args.space.now in
    set_has (IsSetRefusalAlone s es c.args.key c.args.value.now) c.from_residual-in_err-set_number.result _ c.from_residual-in_err-set_number.ensures.1
    (space_refused s es c.args.key c.args.value.now c.in_err-set_number.field-0.0)

pub returns-in_err-set_number-clause-refused : goal.returns-in_err-set_number-clause-refused
returns-in_err-set_number-clause-refused g c tells has none few =
    let s = g.S.Reads.state c.args.space.now in
    set_has (IsSetRefusal s c.args.owner c.args.key c.args.value.now) c.from_residual-in_err-set_number.result _ c.from_residual-in_err-set_number.ensures.1
    (space_refused_graph s c.args.owner c.args.key c.args.value.now c.in_err-set_number.field-0.0)

pub set_number-requires-clause-key : goal.set_number-requires-clause-key
set_number-requires-clause-key g c = c.requires.owner.key

-- ---- which records are other

pub returns-clause-leaves : goal.returns-clause-leaves
returns-clause-leaves g c tells =
    let s = g.S.Reads.state c.args.space.now in
    let z = g.S.Reads.state c.first.new.space in
    let m = g.S.Reads.state c.put_new.new.space in
    let t = g.S.Reads.state c.set_number.new.space in
    left_then s m t c.args.owner
    (left_after g.S.Reads.tells 1 (blocks_of c.args.value.now) s z m c.args.owner c.requires.owner tells (reads_same 1 s z (reads_one 1 s z (omega arith)
    c.first.ensures.state)) c.put_new.ensures.touches)
    (left_set m t c.args.owner c.in_ok-id.id (c.in_ok-set_number.ensures.ok tells))

pub returns-in_err-next-clause-leaves : goal.returns-in_err-next-clause-leaves
returns-in_err-next-clause-leaves g c _ = never_ok c.from_residual.result _ _ c.from_residual.ensures.1

pub returns-in_err-id-clause-leaves : goal.returns-in_err-id-clause-leaves
returns-in_err-id-clause-leaves g c _ = never_ok c.from_residual-in_err-id.result _ _ c.from_residual-in_err-id.ensures.1

pub returns-in_err-set_number-clause-leaves : goal.returns-in_err-set_number-clause-leaves
returns-in_err-set_number-clause-leaves g c _ = never_ok c.from_residual-in_err-set_number.result _ _ c.from_residual-in_err-set_number.ensures.1

-- ---- the records lead to it

pub returns-clause-gives : goal.returns-clause-gives
returns-clause-gives g c tells =
    let m = g.S.Reads.state c.put_new.new.space in
    let t = g.S.Reads.state c.set_number.new.space in
    let owner = c.args.owner in
    let id = c.in_ok-id.id in
    let key = key_in properties_file id in
    let same = ap (λ (z : State). z.records key) (c.in_ok-set_number.ensures.ok tells)
    ∙ put_other m.records owner.key (with_field 4 (m.records owner.key) owner.field id) key
    (λ e. other_file owner c.requires.owner properties_file (λ q. omega (arith, q)) (λ q. omega (arith, q)) (ap (λ (k : Key). k.file) (sym e))) in
    front_met t.records owner c.args.key id c.args.value.now c.in_ok-set_number.ensures.got c.in_ok-id.ensures.some
    (subst (λ (r : Rec). IsRecordOf r c.args.key c.args.value.now) (sym same) (c.in_ok-id.ensures.here tells))

pub returns-in_err-next-clause-gives : goal.returns-in_err-next-clause-gives
returns-in_err-next-clause-gives g c _ = never_ok c.from_residual.result _ _ c.from_residual.ensures.1

pub returns-in_err-id-clause-gives : goal.returns-in_err-id-clause-gives
returns-in_err-id-clause-gives g c _ = never_ok c.from_residual-in_err-id.result _ _ c.from_residual-in_err-id.ensures.1

pub returns-in_err-set_number-clause-gives : goal.returns-in_err-set_number-clause-gives
returns-in_err-set_number-clause-gives g c _ = never_ok c.from_residual-in_err-set_number.result _ _ c.from_residual-in_err-set_number.ensures.1
