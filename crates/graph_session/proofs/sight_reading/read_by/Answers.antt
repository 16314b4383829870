use Rattle.std.proofs.Common.{◌≡◌, ◌≢◌, ◌≤◌, ◌∙◌, ap, rules, subst, sym}
use Rattle.fault_count.specs.Cause.{Rose}
use Rattle.graph_session.specs.Jobs.{question_command}
use Rattle.rec_bytes.specs.Space.{State}
use Rattle.snap_store.specs.declared.view.View.{View}
use Rattle.store_rules.specs.Graph.{graph_of}
use Rattle.graph_session.specs.Exchange.{told_fault}
use Rattle.traversal_run.specs.Reading.{IsNamedStore}
use Rattle.graph_session.specs.Questions.{Means}
use Rattle.graph_session.specs.Verdicts.{Judges}
use Rattle.graph_session.proofs.sight_reading.read_by.Goals as goal

-- what holds of the space beneath a view holds of the space that was lent to it
lent : {R : Type 0} (P : R → R → Type 0) (old was now new : R) → old ≡ was → new ≡ now → P old now → P was new
lent P old was now new first last holds = subst (λ x. P was x) (sym last) (subst (λ x. P x now) first holds)

pub returns-clause-gives : goal.returns-clause-gives
returns-clause-gives g c =
    let given = c.answer_question.ensures.gives in
    let name = sym c.view-view.ensures.same_space ∙ sym given.read.onward.same in
    let names = c.args.reader.context.names.now.names in
    let command = question_command c.args.question in
    record {
      reply = given.reply;
      form = given.form;
      gives = given.gives;
      means = λ tells store.
          subst (λ (s : State). IsNamedStore s.records s.shape names → Means (graph_of s.records) command given.reply) c.view-view.ensures.sees
          (given.means tells) store;
      judges = λ tells. subst (λ (s : State). Judges s.records s.shape command given.reply) c.view-view.ensures.sees (given.judges tells);
      told = lent (λ old new. told_fault given.reply ≢ 0 → Rose (g.R.Reads.faults old) (g.R.Reads.faults new)) _ _ _ _ c.view-view.ensures.committed
          (search rules) given.told;
      later = lent (λ old new. g.R.Reads.faults old ≤ g.R.Reads.faults new) _ _ _ _ c.view-view.ensures.committed (search rules) given.read.later;
    }

pub returns-clause-onward : goal.returns-clause-onward
returns-clause-onward g c =
    let given = c.answer_question.ensures.gives in
    let name = sym c.view-view.ensures.same_space ∙ sym given.read.onward.same in
    lent g.R.Reads.onward _ _ _ _ c.view-view.ensures.committed (search rules) given.read.onward.beneath

pub returns-clause-idle : goal.returns-clause-idle
returns-clause-idle g c = λ spared.
    let given = c.answer_question.ensures.gives in
    let name = sym c.view-view.ensures.same_space ∙ sym given.read.onward.same in
    lent (λ old new. new ≡ old) _ _ _ _ c.view-view.ensures.committed (search rules) (ap (λ (view : View _). view.committed.now) (given.idle spared))
