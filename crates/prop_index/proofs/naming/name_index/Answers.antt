use Rattle.std.specs.Prelude.{Option, Err}
use Rattle.std.proofs.Common.{◌≡◌, ℕ, ap, inl, inr, refl, sym, subst, ⊎_elim, arith}
use Rattle.rec_bytes.specs.declared.damage.Damage.{Damage}
use Rattle.rec_bytes.specs.declared.record.Rec.{Rec}
use Rattle.rec_bytes.specs.Format as format
use Rattle.prop_index.specs.Blaming.{BlamesBroken}
use Rattle.prop_index.specs.Finding.{IsDefined}
use Rattle.prop_index.specs.Naming.{BlamesDefinition, BlamesIndex, HasWrongIndex, IsMarkDamage}
use Rattle.prop_index.proofs.IndexNamed.{mark_list, none_wrong, pair_breaks}
use Rattle.prop_index.proofs.naming.name_index.Goals as goal

pub returns-then-damage-ne-INDEX-clause-named : goal.returns-then-damage-ne-INDEX-clause-named
returns-then-damage-ne-INDEX-clause-named g c tells told ds are =
    let s = g.R.Reads.state c.args.space.now in
    let damage = c.in-Damaged.damage in
    ⊎_elim
    (λ (mark : IsMarkDamage s damage). inr (mark_list s damage mark))
    (λ (w : (damage.file ≡ format.index_file) × HasWrongIndex s.records ds c.args.label c.args.key). absurd (c.if-damage-ne-INDEX.true w.0))
    (subst (BlamesIndex s c.args.label c.args.key) c.in-Damaged.is told ds are)

pub returns-in-Ok-Some-clause-named : goal.returns-in-Ok-Some-clause-named
returns-in-Ok-Some-clause-named g c tells told ds are =
    let s = g.R.Reads.state c.args.space.now in
    let of = subst (λ (o : Option ℕ). (rec : Rec) × IsDefined s.records c.args.label c.args.key rec o) c.in-Ok-Some.field-0-is
    (c.in-Ok-Some.ensures.defined tells) in
    subst (BlamesDefinition s) (sym c.damaged.ensures) (inl (record { file = refl; defines = of.1.used }))

pub returns-in-Ok-Some-clause-damaged : goal.returns-in-Ok-Some-clause-damaged
returns-in-Ok-Some-clause-damaged g c tells told other =
    let s = g.R.Reads.state c.args.space.now in
    let of = subst (λ (o : Option ℕ). (rec : Rec) × IsDefined s.records c.args.label c.args.key rec o) c.in-Ok-Some.field-0-is
    (c.in-Ok-Some.ensures.defined tells) in
    subst (BlamesBroken s.records s.shape) (sym c.damaged.ensures)
    (pair_breaks s c.args.label c.args.key c.in-Ok-Some.id of.0 c.in-Damaged.damage of.1 (c.in-Ok-Some.ensures.list tells) c.if-damage-ne-INDEX.false
    (subst (BlamesIndex s c.args.label c.args.key) c.in-Damaged.is told))

pub returns-in-Ok-None-clause-named : goal.returns-in-Ok-None-clause-named
returns-in-Ok-None-clause-named g c tells told ds are =
    let s = g.R.Reads.state c.args.space.now in
    let damage = c.in-Damaged.damage in
    let none = subst (λ (o : Option ℕ). (rec : Rec) × IsDefined s.records c.args.label c.args.key rec o) c.in-Ok-None.field-0-is
    (c.in-Ok-None.ensures.defined tells) in
    absurd (⊎_elim
    (λ (mark : IsMarkDamage s damage). let f = ap (λ (d : Damage). d.file) mark.is in let i = c.if-damage-ne-INDEX.false in omega (arith, f, i))
    (λ (w : (damage.file ≡ format.index_file) × HasWrongIndex s.records ds c.args.label c.args.key). none_wrong s.records c.args.label c.args.key ds are none.1
    w.1)
    (subst (BlamesIndex s c.args.label c.args.key) c.in-Damaged.is told ds are))

pub returns-in-Ok-None-clause-damaged : goal.returns-in-Ok-None-clause-damaged
returns-in-Ok-None-clause-damaged g c tells told other =
    let s = g.R.Reads.state c.args.space.now in
    let damage = c.in-Damaged.damage in
    let has = c.in-Ok-None.ensures.list tells in
    let none = subst (λ (o : Option ℕ). (rec : Rec) × IsDefined s.records c.args.label c.args.key rec o) c.in-Ok-None.field-0-is
    (c.in-Ok-None.ensures.defined tells) in
    absurd (⊎_elim
    (λ (mark : IsMarkDamage s damage). let f = ap (λ (d : Damage). d.file) mark.is in let i = c.if-damage-ne-INDEX.false in omega (arith, f, i))
    (λ (w : (damage.file ≡ format.index_file) × HasWrongIndex s.records has.members c.args.label c.args.key). none_wrong s.records c.args.label c.args.key
    has.members has.list none.1 w.1)
    (subst (BlamesIndex s c.args.label c.args.key) c.in-Damaged.is told has.members has.list))

pub returns-in-Err-clause-disk : goal.returns-in-Err-clause-disk
returns-in-Err-clause-disk g c is = inr (c.in-Err.ensures.cause.disk (ap Err is))
