use Rattle.std.proofs.Common.{◌∙◌, sym, subst}
use Rattle.store_rules.specs.Graph.{graph_of}
use Rattle.graph_session.specs.Views.{IsViewRefusal}
use Rattle.graph_session.specs.declared.answer.Answer.{Answer}
use Rattle.graph_session.proofs.questions.views.line_of.Goals as goal

pub returns-in-Ok-clause-makes : goal.returns-in-Ok-clause-makes
returns-in-Ok-clause-makes g c = record {
  item = c.in-Ok-Some.item;
  element = c.in-Ok-Some.map;
  is = c.in-Ok.ensures;
  viewed = λ told store. sym (c.in-Ok-Some.ensures.found told store) ∙ c.in-Ok-Some.field-0-is;
}

pub returns-clause-refused : goal.returns-clause-refused
returns-clause-refused g c = λ told store.
    let s = g.R.Reads.state c.args.space.now in
    subst (λ (answer : Answer). IsViewRefusal (graph_of s.records) c.args.target.now answer) (sym c.from.ensures)
    tt
