use Rattle.std.specs.Prelude.{Result, Ok, Err, IfOk, OnOk}
use Rattle.std.proofs.Common.{ℕ, Bool, ◌≡◌, false, true, sym, subst, ap, ◌∙◌, rules}
use Rattle.rec_bytes.specs.declared.meta.Meta.{Meta}
use Rattle.rec_bytes.specs.declared.shape.Shape.{Shape}
use Rattle.rec_bytes.specs.RecordFiles.{room_of}
use Rattle.rec_bytes.specs.Space.{State, meta_of}
use Rattle.id_freelist.specs.Taking.{IsTakeFault, is_counted, is_ranged, room}
use Rattle.id_freelist.specs.declared.take_fault.TakeFault.{TakeFault}
use Rattle.store_rules.specs.Views.{kind_at}
use Rattle.rec_bytes.specs.Format.{free_kind}
use Rattle.id_freelist.specs.declared.take_fault.TakeFault.TheVariants.{Damaged}
use Rattle.id_freelist.proofs.TakeBreaches.{blames_broken, breaks_of}
use Rattle.id_freelist.proofs.TakeDamages.{sound_of, undamaged, unranged}
use Rattle.rec_bytes.proofs.Causes.{never_ok}
use Rattle.id_freelist.proofs.taking.take.Goals as goal

-- a test of what was read is one of what the space says
tested : (s : State) (file : ℕ) (meta : Meta) (shape : Shape) (most : ℕ) (result holds : Bool) → meta ≡ meta_of s file → shape ≡ s.shape
    → most ≡ room_of shape file → result ≡ is_ranged meta most → result ≡ holds → is_ranged (meta_of s file) (room s file) ≡ holds
tested s file meta shape most result holds read of_shape of_room is same =
    ap (is_ranged (meta_of s file)) (sym (of_room ∙ ap (λ sh. room_of sh file) of_shape)) ∙ ap (λ m. is_ranged m most) (sym read) ∙ sym is ∙ same

-- what holds of each identifier that is taken holds of the take
on_ok : {A P : Type 0} {B C : ℕ → Type 0} (r : Result ℕ TakeFault) → ((id : ℕ) → A → B id → C id → P) → OnOk r A → IfOk r B → IfOk r C → OnOk r P
on_ok (Ok id) from a b c = from id a b c
on_ok (Err fault) from a b c = tt

pub returns-then-not-is_ranged-clause-refused : goal.returns-then-not-is_ranged-clause-refused
returns-then-not-is_ranged-clause-refused g c tells =
    let s = g.S.Reads.state c.args.space.now in
    subst (IsTakeFault s c.args.file) (sym c.damaged.ensures) (unranged s c.args.file
    (tested s c.args.file c.meta-meta.result c.shape.result c.room_of-room.result c.is_ranged.result false c.meta-meta.ensures c.shape.ensures.is
    c.room_of-room.ensures c.is_ranged.ensures c.if-not-is_ranged.true))

pub returns-then-not-is_ranged-clause-not_damaged : goal.returns-then-not-is_ranged-clause-not_damaged
returns-then-not-is_ranged-clause-not_damaged g c tells free can =
    let s = g.S.Reads.state c.args.space.now in
    sound_of s c.args.file (Err c.damaged.result) (subst (IsTakeFault s c.args.file) (sym c.damaged.ensures) (unranged s c.args.file
    (tested s c.args.file c.meta-meta.result c.shape.result c.room_of-room.result c.is_ranged.result false c.meta-meta.ensures c.shape.ensures.is
    c.room_of-room.ensures c.is_ranged.ensures c.if-not-is_ranged.true))) free can

pub returns-then-not-is_counted-clause-refused : goal.returns-then-not-is_counted-clause-refused
returns-then-not-is_counted-clause-refused g c tells = c.in_ok-damage.ensures.is tells

pub returns-then-not-is_counted-clause-not_damaged : goal.returns-then-not-is_counted-clause-not_damaged
returns-then-not-is_counted-clause-not_damaged g c tells free can =
    sound_of (g.S.Reads.state c.args.space.now) c.args.file (Err (Damaged c.in_ok-damage.damage)) (c.in_ok-damage.ensures.is tells) free can

pub returns-else-meta-clause-not_damaged : goal.returns-else-meta-clause-not_damaged
returns-else-meta-clause-not_damaged g c tells free can = sound_of (g.S.Reads.state c.args.space.now) c.args.file c.take_free.result
    (c.take_free.ensures.refused tells) free can

pub returns-else-meta-clause-undamaged : goal.returns-else-meta-clause-undamaged
returns-else-meta-clause-undamaged g c tells =
    let s = g.S.Reads.state c.args.space.now in
    let file = c.args.file in
    let free : c.meta-meta.result.free ≡ (meta_of s file).free = ap (λ (m : Meta). m.free) c.meta-meta.ensures in
    let ranged = tested s file c.meta-meta.result c.shape.result c.room_of-room.result c.is_ranged.result true c.meta-meta.ensures c.shape.ensures.is
    c.room_of-room.ensures c.is_ranged.ensures c.if-not-is_ranged.false in
    let counted = ap is_counted (sym c.meta-meta.ensures) ∙ sym c.is_counted.ensures ∙ c.if-not-is_counted.false in
    on_ok {B = λ id. kind_at s.records file id ≡ free_kind} {C = λ id. id ≡ c.meta-meta.result.free} c.take_free.result
    (λ id low unused is. undamaged s file ranged counted (λ ne. ap (kind_at s.records file) (sym (is ∙ free)) ∙ unused) (λ ne. low))
    (c.take_free.ensures.low tells) (c.take_free.ensures.fresh tells) c.take_free.ensures.is

pub returns-in_ok-take_mark-clause-undamaged : goal.returns-in_ok-take_mark-clause-undamaged
returns-in_ok-take_mark-clause-undamaged g c tells =
    let s = g.S.Reads.state c.args.space.now in
    let file = c.args.file in
    let none : (meta_of s file).free ≡ 4294967295 = ap (λ (m : Meta). m.free) (sym c.meta-meta.ensures) ∙ c.if-meta.true in
    let ranged = tested s file c.meta-meta.result c.shape.result c.room_of-room.result c.is_ranged.result true c.meta-meta.ensures c.shape.ensures.is
    c.room_of-room.ensures c.is_ranged.ensures c.if-not-is_ranged.false in
    let counted = ap is_counted (sym c.meta-meta.ensures) ∙ sym c.is_counted.ensures ∙ c.if-not-is_counted.false in
    undamaged s file ranged counted (λ ne. absurd (ne none)) (λ ne. absurd (ne none))

pub returns-then-not-is_ranged-clause-damaged : goal.returns-then-not-is_ranged-clause-damaged
returns-then-not-is_ranged-clause-damaged g c tells =
    let s = g.S.Reads.state c.args.space.now in
    blames_broken s c.args.file c.requires (Err c.damaged.result) (returns-then-not-is_ranged-clause-refused g c tells)

pub returns-then-not-is_counted-clause-damaged : goal.returns-then-not-is_counted-clause-damaged
returns-then-not-is_counted-clause-damaged g c tells = breaks_of (g.S.Reads.state c.args.space.now) c.args.file c.requires c.in_ok-damage.damage
    (c.in_ok-damage.ensures.is tells)

pub returns-else-meta-clause-damaged : goal.returns-else-meta-clause-damaged
returns-else-meta-clause-damaged g c tells = blames_broken (g.S.Reads.state c.args.space.now) c.args.file c.requires c.take_free.result
    (c.take_free.ensures.refused tells)

pub returns-in_err-damage-clause-taken : goal.returns-in_err-damage-clause-taken
returns-in_err-damage-clause-taken g c _ = never_ok c.from_residual.result _ _ c.from_residual.ensures.1

pub returns-in_err-damage-clause-fresh : goal.returns-in_err-damage-clause-fresh
returns-in_err-damage-clause-fresh g c _ = never_ok c.from_residual.result _ _ c.from_residual.ensures.1

pub returns-in_err-damage-clause-undamaged : goal.returns-in_err-damage-clause-undamaged
returns-in_err-damage-clause-undamaged g c _ = never_ok c.from_residual.result _ _ c.from_residual.ensures.1

pub returns-in_err-damage-clause-ok : goal.returns-in_err-damage-clause-ok
returns-in_err-damage-clause-ok g c _ = never_ok c.from_residual.result _ _ c.from_residual.ensures.1

pub returns-in_err-damage-clause-is : goal.returns-in_err-damage-clause-is
returns-in_err-damage-clause-is g c = never_ok c.from_residual.result _ _ c.from_residual.ensures.1

pub returns-in_err-damage-clause-small : goal.returns-in_err-damage-clause-small
returns-in_err-damage-clause-small g c = never_ok c.from_residual.result _ _ c.from_residual.ensures.1

pub returns-in_err-damage-clause-key : goal.returns-in_err-damage-clause-key
returns-in_err-damage-clause-key g c = never_ok c.from_residual.result _ _ c.from_residual.ensures.1

pub returns-in_err-damage-clause-onward : goal.returns-in_err-damage-clause-onward
returns-in_err-damage-clause-onward g c = search rules

pub returns-in_err-take_mark-clause-taken : goal.returns-in_err-take_mark-clause-taken
returns-in_err-take_mark-clause-taken g c _ = never_ok c.from_residual-in_err-take_mark.result _ _ c.from_residual-in_err-take_mark.ensures.1

pub returns-in_err-take_mark-clause-fresh : goal.returns-in_err-take_mark-clause-fresh
returns-in_err-take_mark-clause-fresh g c _ = never_ok c.from_residual-in_err-take_mark.result _ _ c.from_residual-in_err-take_mark.ensures.1

pub returns-in_err-take_mark-clause-undamaged : goal.returns-in_err-take_mark-clause-undamaged
returns-in_err-take_mark-clause-undamaged g c _ = never_ok c.from_residual-in_err-take_mark.result _ _ c.from_residual-in_err-take_mark.ensures.1

pub returns-in_err-take_mark-clause-ok : goal.returns-in_err-take_mark-clause-ok
returns-in_err-take_mark-clause-ok g c _ = never_ok c.from_residual-in_err-take_mark.result _ _ c.from_residual-in_err-take_mark.ensures.1

pub returns-in_err-take_mark-clause-is : goal.returns-in_err-take_mark-clause-is
returns-in_err-take_mark-clause-is g c = never_ok c.from_residual-in_err-take_mark.result _ _ c.from_residual-in_err-take_mark.ensures.1

pub returns-in_err-take_mark-clause-small : goal.returns-in_err-take_mark-clause-small
returns-in_err-take_mark-clause-small g c = never_ok c.from_residual-in_err-take_mark.result _ _ c.from_residual-in_err-take_mark.ensures.1

pub returns-in_err-take_mark-clause-key : goal.returns-in_err-take_mark-clause-key
returns-in_err-take_mark-clause-key g c = never_ok c.from_residual-in_err-take_mark.result _ _ c.from_residual-in_err-take_mark.ensures.1
