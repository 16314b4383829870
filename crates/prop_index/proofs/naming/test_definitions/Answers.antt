use Rattle.std.proofs.Common.{inl, refl, sym, subst, arith}
use Rattle.rec_bytes.specs.Format as format
use Rattle.rec_bytes.proofs.Causes.{never_ok}
use Rattle.prop_store.proofs.Causes.{cause_passed}
use Rattle.prop_store.proofs.Exits.{same_has}
use Rattle.prop_store.proofs.ReadCounts.{reads_same}
use Rattle.prop_index.specs.Blaming.{BlamesBroken, NamesIndexes}
use Rattle.prop_index.specs.Finding.{IsDefined}
use Rattle.prop_index.specs.Naming.{BlamesDefinition}
use Rattle.prop_index.proofs.Causes.{told_cause}
use Rattle.prop_index.proofs.IndexNamed.{all_defined, mark_blames, unnamed_breaks}
use Rattle.prop_index.proofs.naming.test_definitions.Goals as goal

pub returns-in-None-clause-list : goal.returns-in-None-clause-list
returns-in-None-clause-list g c tells =
    let s = g.R.Reads.state c.args.space.now in
    all_defined s.records format.nil format.nil (subst (IsDefined s.records format.nil format.nil c.find_definition.new.rec) c.in-None.is
    (c.in_ok-unnamed.ensures.defined tells))

pub returns-in_err-unnamed-clause-list : goal.returns-in_err-unnamed-clause-list
returns-in_err-unnamed-clause-list g c _ = never_ok c.from_residual.result _ _ c.from_residual.ensures.1

pub returns-in_err-unnamed-clause-named : goal.returns-in_err-unnamed-clause-named
returns-in_err-unnamed-clause-named g c tells ds are =
    let s = g.R.Reads.state c.args.space.now in
    same_has (BlamesDefinition s) c.from_residual.result c.in_err-unnamed.field-0.0 c.from_residual.ensures.1
    (mark_blames s c.in_err-unnamed.field-0.0 (c.in_err-unnamed.ensures.listed tells ds are))

pub returns-in-Some-clause-named : goal.returns-in-Some-clause-named
returns-in-Some-clause-named g c tells ds are =
    let s = g.R.Reads.state c.args.space.now in
    let of = subst (IsDefined s.records format.nil format.nil c.find_definition.new.rec) c.in-Some.is (c.in_ok-unnamed.ensures.defined tells) in
    subst (BlamesDefinition s) (sym c.damaged.ensures) (inl (record { file = refl; defines = of.used }))

pub returns-in_err-unnamed-clause-damaged : goal.returns-in_err-unnamed-clause-damaged
returns-in_err-unnamed-clause-damaged g c tells =
    let s = g.R.Reads.state c.args.space.now in
    same_has (BlamesBroken s.records s.shape) c.from_residual.result c.in_err-unnamed.field-0.0 c.from_residual.ensures.1
    (c.in_err-unnamed.ensures.damaged tells)

pub returns-in-Some-clause-damaged : goal.returns-in-Some-clause-damaged
returns-in-Some-clause-damaged g c tells =
    let s = g.R.Reads.state c.args.space.now in
    let of = subst (IsDefined s.records format.nil format.nil c.find_definition.new.rec) c.in-Some.is (c.in_ok-unnamed.ensures.defined tells) in
    subst (BlamesBroken s.records s.shape) (sym c.damaged.ensures) (unnamed_breaks s c.in-Some.id format.nil c.find_definition.new.rec of)

pub returns-in_err-unnamed-clause-names : goal.returns-in_err-unnamed-clause-names
returns-in_err-unnamed-clause-names g c tells =
    same_has NamesIndexes c.from_residual.result c.in_err-unnamed.field-0.0 c.from_residual.ensures.1 (c.in_err-unnamed.ensures.names tells)

pub returns-in-Some-clause-names : goal.returns-in-Some-clause-names
returns-in-Some-clause-names g c tells = subst NamesIndexes (sym c.damaged.ensures) (inl refl)

pub returns-in_err-unnamed-clause-same : goal.returns-in_err-unnamed-clause-same
returns-in_err-unnamed-clause-same g c = reads_same 17 _ _ c.in_err-unnamed.ensures.at_most

pub returns-in-None-clause-same : goal.returns-in-None-clause-same
returns-in-None-clause-same g c = reads_same 17 _ _ c.in_ok-unnamed.ensures.at_most

pub returns-in-Some-clause-same : goal.returns-in-Some-clause-same
returns-in-Some-clause-same g c = reads_same 17 _ _ c.in_ok-unnamed.ensures.at_most

pub returns-in_err-unnamed-clause-cause : goal.returns-in_err-unnamed-clause-cause
returns-in_err-unnamed-clause-cause g c =
    cause_passed _ _ _ c.from_residual.result c.in_err-unnamed.field-0.0 (omega arith) c.in_err-unnamed.ensures.cause c.from_residual.ensures.1

pub returns-in-Some-clause-cause : goal.returns-in-Some-clause-cause
returns-in-Some-clause-cause g c = told_cause _ _ _ _ c.in_ok-unnamed.ensures.cause.later c.damaged.ensures
