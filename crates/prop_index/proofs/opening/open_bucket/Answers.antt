use Rattle.std.specs.Prelude.{Err}
use Rattle.std.proofs.Common.{ℕ, subst, sym}
use Rattle.rec_bytes.specs.Fault.{NotDamaged}
use Rattle.rec_bytes.specs.declared.fault.Fault.{Fault}
use Rattle.prop_index.proofs.IndexBlames.{blames_before}
use Rattle.prop_index.proofs.IndexNamed.{definition_before, index_before, index_sound, named_cause, other_before, same_back}
use Rattle.prop_index.proofs.Reread.{definitions_after, same_then}
use Rattle.prop_index.proofs.opening.open_bucket.Goals as goal

pub returns-in-Err-clause-not_damaged : goal.returns-in-Err-clause-not_damaged
returns-in-Err-clause-not_damaged g c tells wanted ix ranged =
    let s = g.R.Reads.state c.args.space.now in
    let told : NotDamaged {T = ℕ} (Err c.in-Err.fault) = index_sound s wanted ix ranged c.args.label c.args.key c.in-Err.fault (c.in-Err.ensures.wrong tells) in
    subst (λ (f : Fault). NotDamaged {T = ℕ} (Err f)) (sym (c.name_index.ensures.passed told)) told

pub returns-in-Err-clause-named : goal.returns-in-Err-clause-named
returns-in-Err-clause-named g c tells ds are =
    let s = g.R.Reads.state c.args.space.now in
    let now = g.R.Reads.state c.tested_bucket.new.space in
    let same = c.in-Err.ensures.same in
    definition_before s now c.name_index.result same
    (c.name_index.ensures.named tells (index_before now s c.args.label c.args.key c.in-Err.fault (same_back s now same) (c.in-Err.ensures.wrong tells)) ds
    (definitions_after s now ds same are))

pub returns-in-Err-clause-damaged : goal.returns-in-Err-clause-damaged
returns-in-Err-clause-damaged g c tells =
    let s = g.R.Reads.state c.args.space.now in
    let now = g.R.Reads.state c.tested_bucket.new.space in
    let same = c.in-Err.ensures.same in
    blames_before s now c.name_index.result same
    (c.name_index.ensures.damaged tells (index_before now s c.args.label c.args.key c.in-Err.fault (same_back s now same) (c.in-Err.ensures.wrong tells))
    (other_before now s c.in-Err.fault (same_back s now same) (c.in-Err.ensures.other tells)))

pub returns-in-Err-clause-names : goal.returns-in-Err-clause-names
returns-in-Err-clause-names g c tells = c.name_index.ensures.names tells (c.in-Err.ensures.names tells)

pub returns-in-Err-clause-same : goal.returns-in-Err-clause-same
returns-in-Err-clause-same g c = same_then (g.R.Reads.state c.args.space.now) (g.R.Reads.state c.tested_bucket.new.space)
    (g.R.Reads.state c.name_index.new.space) c.in-Err.ensures.same c.name_index.ensures.same

pub returns-in-Err-clause-onward : goal.returns-in-Err-clause-onward
returns-in-Err-clause-onward g c = g.met.R.Reads.further_onward _ _ _ c.in-Err.ensures.onward c.name_index.ensures.onward

pub returns-in-Err-clause-cause : goal.returns-in-Err-clause-cause
returns-in-Err-clause-cause g c = named_cause _ _ _ c.in-Err.fault c.name_index.result c.in-Err.ensures.cause c.name_index.ensures.later
    c.name_index.ensures.disk
