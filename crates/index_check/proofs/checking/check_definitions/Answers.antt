use Rattle.std.proofs.Common.{rules, ◌≡◌, ◌∙◌, ℕ, map, None, Some, IfNone, sym, subst, refl, arith}
use Rattle.std.specs.List.{All}
use Rattle.rec_bytes.specs.Format as format
use Rattle.store_rules.specs.Chains.{In}
use Rattle.store_rules.specs.Views.{Records, high}
use Rattle.store_rules.proofs.IndexParts.{indexed_of}
use Rattle.index_check.specs.Definitions.{definition_at, twin_in}
use Rattle.index_check.specs.Indexing.{AreAllHeld, IsGiven, IsRight}
use Rattle.index_check.specs.declared.definitions.Definition.{Definition}
use Rattle.index_check.proofs.DefinitionLaws.{all_given, all_low, twin_breaks, twin_none}
use Rattle.index_check.proofs.IndexLaws.{breaks_by}
use Rattle.index_check.proofs.ListedLaws.{each_keeps}
use Rattle.prop_store.proofs.Causes.{cause_passed, space_cause_passed}
use Rattle.rec_bytes.proofs.Causes.{never_ok}
use Rattle.prop_store.proofs.Exits.{space_exit}
use Rattle.index_check.proofs.SoundExits.{sound_exit}
use Rattle.index_check.specs.Values.{AreReadable}
use Rattle.record_lists.proofs.OnlyReads.{is_read-on}
use Rattle.index_check.proofs.checking.check_definitions.Goals as goal

pub returns-in-Some-clause-decided : goal.returns-in-Some-clause-decided
returns-in-Some-clause-decided g c = λ tells.
    let records = (g.R.Reads.state c.args.space.now).records in
    let ids = c.args.ids.now in
    let id = c.in-Some.id in
    let are = c.requires.are tells in
    let found : twin_in (map (definition_at records) ids) (map (definition_at records) ids) ≡ Some id
    = (λ i. twin_in (sym are i) (sym are i)) ∙ sym c.find_twin.ensures ∙ c.in-Some.is in
    breaks_by records c.broken.result format.index_file id c.broken.ensures (twin_breaks records ids (c.requires.listed tells) id found)

pub check_each-requires-clause-ids : goal.check_each-requires-clause-ids
check_each-requires-clause-ids g c =
    let records = (g.R.Reads.state c.args.space.now).records in
    all_low c.args.definitions.now c.args.ids.now (high records format.index_file) format.most_ids c.requires.named (c.requires.low format.index_file refl)
    c.requires.ids

pub check_each-requires-clause-given : goal.check_each-requires-clause-given
check_each-requires-clause-given g c = λ tells.
    let records = (g.R.Reads.state c.args.space.now).records in
    let given : All (IsGiven records) c.args.definitions.now = subst (All (IsGiven records)) (sym (c.requires.are tells))
    (all_given records c.args.ids.now (c.requires.listed tells)) in
    subst (λ (r : Records). All (IsGiven r) c.args.definitions.now) (sym c.in_ok-damage.ensures.read.records) given

pub returns-in-None-clause-decided : goal.returns-in-None-clause-decided
returns-in-None-clause-decided g c = λ tells.
    let records = (g.R.Reads.state c.args.space.now).records in
    let ids = c.args.ids.now in
    let listed = c.requires.listed tells in
    let are = c.requires.are tells in
    let none : twin_in (map (definition_at records) ids) (map (definition_at records) ids) ≡ None
    = (λ i. twin_in (sym are i) (sym are i)) ∙ sym c.find_twin.ensures ∙ c.in_default.is in
    let all : AreAllHeld records ids = search (rules, c.in_ok-damage.ensures.right tells) in
    let rights : IfNone c.in_ok-damage-2.field-0 ((d : ℕ) → In d (map (λ (a : Definition). a.id) c.args.definitions.now) → IsRight records d)
    = subst (λ (r : Records). IfNone c.in_ok-damage-2.field-0 ((d : ℕ) → In d (map (λ (a : Definition). a.id) c.args.definitions.now) → IsRight r d))
    c.in_ok-damage.ensures.read.records (c.in_ok-damage-2.ensures.right tells) in
    let right : (d : ℕ) → In d (map (λ (a : Definition). a.id) c.args.definitions.now) → IsRight records d = search (rules, rights) in
    indexed_of records (each_keeps records ids listed (λ d e i j l k. twin_none records ids ids none d e i j l k) all
    (λ d i. right d (subst (In d) (sym c.requires.named) i)))

pub returns-in_err-damage-2-clause-read : goal.returns-in_err-damage-2-clause-read
returns-in_err-damage-2-clause-read g c =
    is_read-on g.R.Reads g.met.R.Reads.further_onward _ _ _ c.in_ok-damage.ensures.read c.in_err-damage-2.ensures.read

pub returns-in-Some-3-clause-read : goal.returns-in-Some-3-clause-read
returns-in-Some-3-clause-read g c =
    is_read-on g.R.Reads g.met.R.Reads.further_onward _ _ _ c.in_ok-damage.ensures.read c.in_ok-damage-2.ensures.read

pub returns-in-None-clause-read : goal.returns-in-None-clause-read
returns-in-None-clause-read g c =
    is_read-on g.R.Reads g.met.R.Reads.further_onward _ _ _ c.in_ok-damage.ensures.read c.in_ok-damage-2.ensures.read

pub returns-in_err-damage-2-clause-cause : goal.returns-in_err-damage-2-clause-cause
returns-in_err-damage-2-clause-cause g c =
    cause_passed _ _ _ c.from_residual-in_err-damage-2.result c.in_err-damage-2.field-0.0
    c.in_ok-damage.ensures.cause.later c.in_err-damage-2.ensures.cause
    c.from_residual-in_err-damage-2.ensures.1

pub returns-in_err-damage-clause-decided : goal.returns-in_err-damage-clause-decided
returns-in_err-damage-clause-decided g c _ = never_ok c.from_residual.result _ _ c.from_residual.ensures.1

pub returns-in_err-damage-clause-read : goal.returns-in_err-damage-clause-read
returns-in_err-damage-clause-read g c =
    c.in_err-damage.ensures.read

pub returns-in_err-damage-2-clause-decided : goal.returns-in_err-damage-2-clause-decided
returns-in_err-damage-2-clause-decided g c _ = never_ok c.from_residual-in_err-damage-2.result _ _ c.from_residual-in_err-damage-2.ensures.1

pub returns-in_err-damage-clause-not_damaged : goal.returns-in_err-damage-clause-not_damaged
returns-in_err-damage-clause-not_damaged g c _ _ = space_exit c.from_residual.result c.in_err-damage.field-0.0 c.from_residual.ensures.1

pub returns-in_err-damage-clause-cause : goal.returns-in_err-damage-clause-cause
returns-in_err-damage-clause-cause g c =
    space_cause_passed _ _ _ c.from_residual.result c.in_err-damage.field-0.0 (omega arith) c.in_err-damage.ensures.cause c.from_residual.ensures.1

pub returns-in_err-damage-2-clause-not_damaged : goal.returns-in_err-damage-2-clause-not_damaged
returns-in_err-damage-2-clause-not_damaged g c tells readable =
    sound_exit c.from_residual-in_err-damage-2.result c.in_err-damage-2.field-0.0 c.from_residual-in_err-damage-2.ensures.1
    (c.in_err-damage-2.ensures.not_damaged tells (subst AreReadable (sym (c.in_ok-damage.ensures.read.records)) readable))
