use Rattle.std.proofs.Common.{subst, arith}
use Rattle.rec_bytes.proofs.Causes.{never_ok, ok_cause}
use Rattle.store_rules.specs.Views.{Records}
use Rattle.prop_store.proofs.Causes.{cause_passed, later_on}
use Rattle.prop_store.proofs.Exits.{same_has}
use Rattle.prop_store.proofs.ReadCounts.{reads_same}
use Rattle.prop_index.specs.Blaming.{BlamesBroken, NamesIndexes}
use Rattle.prop_index.specs.Finding.{IsDefined}
use Rattle.prop_index.specs.Naming.{BlamesDefinition}
use Rattle.prop_index.proofs.IndexBlames.{blames_before}
use Rattle.prop_index.proofs.IndexNamed.{definition_before, mark_blames}
use Rattle.prop_index.proofs.Reread.{definitions_after, same_records, same_then}
use Rattle.prop_index.proofs.naming.listed_definition.Goals as goal

pub returns-clause-list : goal.returns-clause-list
returns-clause-list g c tells = c.in_ok-test_definitions.ensures.list tells

pub returns-clause-defined : goal.returns-clause-defined
returns-clause-defined g c tells =
    let s = g.R.Reads.state c.args.space.now in
    let now = g.R.Reads.state c.test_definitions.new.space in (
      c.find_definition.new.rec,
      subst (λ (r : Records). IsDefined r c.args.label c.args.key c.find_definition.new.rec c.in_ok-found.found)
          (same_records s now c.in_ok-test_definitions.ensures.same) (c.in_ok-found.ensures.defined tells),
    )

pub returns-in_err-test_definitions-clause-named : goal.returns-in_err-test_definitions-clause-named
returns-in_err-test_definitions-clause-named g c tells ds are =
    same_has (BlamesDefinition (g.R.Reads.state c.args.space.now)) c.from_residual.result c.in_err-test_definitions.field-0.0 c.from_residual.ensures.1
    (c.in_err-test_definitions.ensures.named tells ds are)

pub returns-in_err-found-clause-named : goal.returns-in_err-found-clause-named
returns-in_err-found-clause-named g c tells ds are =
    let s = g.R.Reads.state c.args.space.now in
    let now = g.R.Reads.state c.test_definitions.new.space in
    let same = c.in_ok-test_definitions.ensures.same in
    let fault = c.in_err-found.field-0.0 in
    same_has (BlamesDefinition s) c.from_residual-in_err-found.result fault c.from_residual-in_err-found.ensures.1
    (definition_before s now fault same (mark_blames now fault (c.in_err-found.ensures.listed tells ds (definitions_after s now ds same are))))

pub returns-in_err-test_definitions-clause-damaged : goal.returns-in_err-test_definitions-clause-damaged
returns-in_err-test_definitions-clause-damaged g c tells =
    let s = g.R.Reads.state c.args.space.now in
    same_has (BlamesBroken s.records s.shape) c.from_residual.result c.in_err-test_definitions.field-0.0 c.from_residual.ensures.1
    (c.in_err-test_definitions.ensures.damaged tells)

pub returns-in_err-found-clause-damaged : goal.returns-in_err-found-clause-damaged
returns-in_err-found-clause-damaged g c tells =
    let s = g.R.Reads.state c.args.space.now in
    let now = g.R.Reads.state c.test_definitions.new.space in
    let fault = c.in_err-found.field-0.0 in
    same_has (BlamesBroken s.records s.shape) c.from_residual-in_err-found.result fault c.from_residual-in_err-found.ensures.1
    (blames_before s now fault c.in_ok-test_definitions.ensures.same (c.in_err-found.ensures.damaged tells))

pub returns-in_err-test_definitions-clause-names : goal.returns-in_err-test_definitions-clause-names
returns-in_err-test_definitions-clause-names g c tells =
    same_has NamesIndexes c.from_residual.result c.in_err-test_definitions.field-0.0 c.from_residual.ensures.1 (c.in_err-test_definitions.ensures.names tells)

pub returns-in_err-found-clause-names : goal.returns-in_err-found-clause-names
returns-in_err-found-clause-names g c tells =
    same_has NamesIndexes c.from_residual-in_err-found.result c.in_err-found.field-0.0 c.from_residual-in_err-found.ensures.1
    (c.in_err-found.ensures.names tells)

pub returns-in_err-found-clause-same : goal.returns-in_err-found-clause-same
returns-in_err-found-clause-same g c = same_then (g.R.Reads.state c.args.space.now) (g.R.Reads.state c.test_definitions.new.space)
    (g.R.Reads.state c.find_definition.new.space) c.in_ok-test_definitions.ensures.same (reads_same 17 _ _ c.in_err-found.ensures.at_most)

pub returns-clause-same : goal.returns-clause-same
returns-clause-same g c = same_then (g.R.Reads.state c.args.space.now) (g.R.Reads.state c.test_definitions.new.space)
    (g.R.Reads.state c.find_definition.new.space) c.in_ok-test_definitions.ensures.same (reads_same 17 _ _ c.in_ok-found.ensures.at_most)

pub returns-in_err-test_definitions-clause-list : goal.returns-in_err-test_definitions-clause-list
returns-in_err-test_definitions-clause-list g c _ = never_ok c.from_residual.result _ _ c.from_residual.ensures.1

pub returns-in_err-found-clause-list : goal.returns-in_err-found-clause-list
returns-in_err-found-clause-list g c _ = never_ok c.from_residual-in_err-found.result _ _ c.from_residual-in_err-found.ensures.1

pub returns-in_err-test_definitions-clause-defined : goal.returns-in_err-test_definitions-clause-defined
returns-in_err-test_definitions-clause-defined g c _ = never_ok c.from_residual.result _ _ c.from_residual.ensures.1

pub returns-in_err-found-clause-defined : goal.returns-in_err-found-clause-defined
returns-in_err-found-clause-defined g c _ = never_ok c.from_residual-in_err-found.result _ _ c.from_residual-in_err-found.ensures.1

pub returns-in_err-test_definitions-clause-cause : goal.returns-in_err-test_definitions-clause-cause
returns-in_err-test_definitions-clause-cause g c =
    cause_passed _ _ _ c.from_residual.result c.in_err-test_definitions.field-0.0 (omega arith) c.in_err-test_definitions.ensures.cause
    c.from_residual.ensures.1

pub returns-in_err-found-clause-cause : goal.returns-in_err-found-clause-cause
returns-in_err-found-clause-cause g c =
    cause_passed _ _ _ c.from_residual-in_err-found.result c.in_err-found.field-0.0 c.in_ok-test_definitions.ensures.cause.later c.in_err-found.ensures.cause
    c.from_residual-in_err-found.ensures.1

pub returns-clause-cause : goal.returns-clause-cause
returns-clause-cause g c = ok_cause _ _ _ _ (later_on c.in_ok-test_definitions.ensures.cause.later c.in_ok-found.ensures.cause.later)

pub returns-in_err-found-clause-onward : goal.returns-in_err-found-clause-onward
returns-in_err-found-clause-onward g c = g.met.R.Reads.further_onward _ _ _ c.in_ok-test_definitions.ensures.onward c.in_err-found.ensures.onward

pub returns-clause-onward : goal.returns-clause-onward
returns-clause-onward g c = g.met.R.Reads.further_onward _ _ _ c.in_ok-test_definitions.ensures.onward c.in_ok-found.ensures.onward
