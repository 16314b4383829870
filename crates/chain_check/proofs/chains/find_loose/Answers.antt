use Rattle.std.proofs.Common.{arith, ap, subst, sym, ◌≡◌, ◌<◌, ◌∙◌, ℕ, IfNone, IfSome}
use Rattle.std.proofs.lemmas.Result.{IfOk-weaker}
use Rattle.rec_bytes.specs.declared.meta.Meta.{Meta}
use Rattle.rec_bytes.specs.Format.{relationships_file}
use Rattle.rec_bytes.proofs.Causes.{never_ok}
use Rattle.store_rules.specs.Views.{Records, high}
use Rattle.record_lists.proofs.Causes.{cause_passed}
use Rattle.chain_check.proofs.Causes.{cause_later}
use Rattle.chain_check.specs.Kinds.{AreKinds, kind_of}
use Rattle.chain_check.specs.NodeChains.{RelHolds}
use Rattle.chain_check.proofs.KindLaws.{none_loose, one_loose}
use Rattle.record_lists.proofs.OnlyReads.{is_read-on}
use Rattle.chain_check.proofs.chains.find_loose.Goals as goal

pub returns-clause-none : goal.returns-clause-none
returns-clause-none g c = λ tells.
    let records = (g.R.Reads.state c.args.space.now).records in
    let after = (g.R.Reads.state c.node_kinds.new.space).records in
    let kinds = c.deref.result.now in
    let is : kinds ≡ c.in_ok-kinds.kinds.items = c.deref.ensures.value in
    let count = c.meta-relationships.result.high in
    let same = c.in_ok-kinds.ensures.read.records in
    let mark : count ≡ high records relationships_file = ap (λ (m : Meta). m.high) c.meta-relationships.ensures
    ∙ ap (λ (r : Records). high r relationships_file) same in
    IfOk-weaker c.find_false.result (λ found. IfNone found ((x : ℕ) → x < count → RelHolds (kind_of kinds) after c.args.seen.now x)) _
    (none_loose records after kinds c.args.seen.now count same mark (subst (AreKinds records) (sym is) (c.in_ok-kinds.ensures.kinds tells)))
    (c.find_false.ensures.none tells)

pub returns-clause-found : goal.returns-clause-found
returns-clause-found g c = λ tells.
    let records = (g.R.Reads.state c.args.space.now).records in
    let after = (g.R.Reads.state c.node_kinds.new.space).records in
    let kinds = c.deref.result.now in
    let is : kinds ≡ c.in_ok-kinds.kinds.items = c.deref.ensures.value in
    let count = c.meta-relationships.result.high in
    let same = c.in_ok-kinds.ensures.read.records in
    let mark : count ≡ high records relationships_file = ap (λ (m : Meta). m.high) c.meta-relationships.ensures
    ∙ ap (λ (r : Records). high r relationships_file) same in
    IfOk-weaker c.find_false.result (λ found. IfSome found (λ x. (x < count) × (¬ RelHolds (kind_of kinds) after c.args.seen.now x))) _
    (one_loose records after kinds c.args.seen.now count same mark (subst (AreKinds records) (sym is) (c.in_ok-kinds.ensures.kinds tells)))
    (c.find_false.ensures.found tells)

pub returns-in_err-kinds-clause-none : goal.returns-in_err-kinds-clause-none
returns-in_err-kinds-clause-none g c _ = never_ok c.from_residual.result _ _ c.from_residual.ensures.1

pub returns-in_err-kinds-clause-found : goal.returns-in_err-kinds-clause-found
returns-in_err-kinds-clause-found g c _ = never_ok c.from_residual.result _ _ c.from_residual.ensures.1

pub returns-in_err-kinds-clause-read : goal.returns-in_err-kinds-clause-read
returns-in_err-kinds-clause-read g c =
    c.in_err-kinds.ensures.read

pub returns-in_err-kinds-clause-cause : goal.returns-in_err-kinds-clause-cause
returns-in_err-kinds-clause-cause g c =
    cause_passed _ _ _ c.from_residual.result c.in_err-kinds.field-0.0 (omega arith) c.in_err-kinds.ensures.cause c.from_residual.ensures.1

pub returns-clause-read : goal.returns-clause-read
returns-clause-read g c = is_read-on g.R.Reads g.met.R.Reads.further_onward _ _ _ c.node_kinds.ensures.read c.find_false.ensures.read

pub returns-clause-cause : goal.returns-clause-cause
returns-clause-cause g c = cause_later _ _ _ c.find_false.result c.node_kinds.ensures.read.later c.find_false.ensures.cause
