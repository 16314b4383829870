use Rattle.std.proofs.Common.{◌≡◌, ◌∙◌, ℕ, Option, None, Some, false, Bool, sym, subst, refl, arith}
use Rattle.std.specs.Prelude.{is_some}
use Rattle.std.specs.Bool.{Decides}
use Rattle.std.proofs.lemmas.Bool.{true≢false}
use Rattle.plain_graph.specs.declared.value.Value.{Value}
use Rattle.store_rules.specs.Indexes.{node_value}
use Rattle.store_rules.specs.Views.{Records}
use Rattle.index_check.specs.Nodes.{IsMissing}
use Rattle.index_check.specs.declared.definitions.Definition.{Definition}
use Rattle.rec_bytes.proofs.Causes.{never_ok, ok_cause}
use Rattle.prop_store.proofs.Causes.{cause_passed}
use Rattle.index_check.proofs.SoundExits.{sound_exit}
use Rattle.index_check.proofs.nodes.is_missing.Goals as goal

-- a value that was read, or none
decided : (records : Records) (d : Definition) (n : ℕ) (met : Bool) (o : Option Value) → met ≡ false → o ≡ node_value records d.label d.key n
    → Decides (is_some o) (IsMissing records d n met)
decided records d n met None unmet is = ((λ e. absurd (true≢false (sym e))), (λ h. absurd (let none : None ≡ Some h.has.value = is ∙ h.has.is in cc)))
decided records d n met (Some v) unmet is = ((λ _. record { unmet = unmet; has = record { value = v; is = sym is } }), (λ _. refl))

pub returns-then-met-clause-told : goal.returns-then-met-clause-told
returns-then-met-clause-told g c = λ tells. ((λ e. absurd (true≢false (sym e))), (λ h. absurd (true≢false (sym c.if-met.true ∙ h.unmet))))

pub returns-clause-told : goal.returns-clause-told
returns-clause-told g c = λ tells.
    let records = (g.R.Reads.state c.args.space.now).records in
    let unmet : c.args.met ≡ false = c.if-met.false in
    subst (λ b. Decides b (IsMissing records c.args.definition.now c.args.node c.args.met)) (sym c.is_some.ensures)
    (decided records c.args.definition.now c.args.node c.args.met c.in_ok-value.value unmet (c.in_ok-value.ensures.is tells))

pub returns-in_err-value-clause-told : goal.returns-in_err-value-clause-told
returns-in_err-value-clause-told g c _ = never_ok c.from_residual.result _ _ c.from_residual.ensures.1

pub returns-in_err-value-clause-read : goal.returns-in_err-value-clause-read
returns-in_err-value-clause-read g c =
    c.in_err-value.ensures.read

pub returns-in_err-value-clause-not_damaged : goal.returns-in_err-value-clause-not_damaged
returns-in_err-value-clause-not_damaged g c tells readable =
    sound_exit c.from_residual.result c.in_err-value.field-0.0 c.from_residual.ensures.1 (c.in_err-value.ensures.not_damaged tells readable)

pub returns-in_err-value-clause-cause : goal.returns-in_err-value-clause-cause
returns-in_err-value-clause-cause g c =
    cause_passed _ _ _ c.from_residual.result c.in_err-value.field-0.0 (omega arith) c.in_err-value.ensures.cause c.from_residual.ensures.1

pub returns-clause-cause : goal.returns-clause-cause
returns-clause-cause g c = ok_cause _ _ _ _ c.in_ok-value.ensures.cause.later
