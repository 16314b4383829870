use Rattle.std.proofs.Common.{inl, inr, subst}
use Rattle.std.proofs.lemmas.Result.{IfOk-weaker}
use Rattle.rec_bytes.specs.declared.shape.Shape.{Shape}
use Rattle.store_check.specs.Verdicts.{BrokenIs}
use Rattle.store_check.specs.declared.verdict.Verdict.{Verdict}
use Rattle.store_rules.specs.Breaking.{BreaksAny}
use Rattle.store_rules.specs.Indexes.{IsIndexed}
use Rattle.store_rules.specs.Views.{Records}
use Rattle.txn_core.specs.Store.{drafted, state_of}
use Rattle.graph_session.specs.ChangeDamage.{IsNameOrMet}
use Rattle.graph_session.specs.Drafting.{IsBrokenBeneath}
use Rattle.graph_session.specs.Jobs.{change_command}
use Rattle.graph_session.proofs.Running.{records-same}
use Rattle.graph_session.proofs.SeenDamage.{at-dropped}
use Rattle.graph_session.proofs.session.Session.broken_record.Goals as goal

pub returns-in-Sound-clause-broken : goal.returns-in-Sound-clause-broken
returns-in-Sound-clause-broken g c = λ told.
    let dropped = c.drop_draft.ensures in
    let old = c.args.self.now in
    let mid = c.drop_draft.new.self in
    let names = mid.names.names in
    let met = c.args.met in
    let read = records-same (state_of mid.store) (state_of c.check.new.space) c.in_ok-check.ensures.same in
    let beneath = λ (P : Records → Shape → Type 0) (holds : P (drafted mid.store) mid.store.base.shape).
    at-dropped P old mid dropped.discards.draft dropped.base holds in
    let sound = beneath IsIndexed (c.in_ok-check.ensures.sound told c.in-Sound.is) in
    IfOk-weaker c.other_name.result (IsNameOrMet (state_of c.check.new.space).records names met)
    (IsBrokenBeneath (change_command c.args.change) names old met)
    (λ damage named. inr (inr (
      c.is_told_as_found.ensures.meets c.if-is_told_as_found.false,
      sound,
      beneath (λ (records : Records) (shape : Shape). IsNameOrMet records names met damage)
          (subst (λ (records : Records). IsNameOrMet records names met damage) read named),
    )))
    (c.other_name.ensures.other told)

pub returns-in-Broken-clause-broken : goal.returns-in-Broken-clause-broken
returns-in-Broken-clause-broken g c = λ told.
    let dropped = c.drop_draft.ensures in
    let mid = c.drop_draft.new.self.store in
    let found = subst (λ (v : Verdict). BrokenIs (drafted mid) mid.base.shape v) c.in-Broken.is (c.in_ok-check.ensures.broken told) in
    inl (at-dropped (λ (records : Records) (shape : Shape). BreaksAny records shape c.in-Broken.damage) c.args.self.now c.drop_draft.new.self
    dropped.discards.draft dropped.base found.breaks)
