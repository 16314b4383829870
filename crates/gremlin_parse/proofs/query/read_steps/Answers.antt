use Rattle.std.proofs.Common.{Some, refl, sym, ap, ◌∙◌, subst}
use Rattle.std.proofs.lemmas.Result.{err_from_is_err_and}
use Rattle.plain_graph.specs.declared.command.Command.TheVariants as commands
use Rattle.plain_graph.specs.declared.query.Query.{Query}
use Rattle.plain_graph.specs.declared.query.Source.{Source}
use Rattle.gremlin_parse.specs.Drafts.{drafted}
use Rattle.gremlin_parse.specs.Queries.{LeadsTo, Place, Steps, is_loose, query_from, shown, turn}
use Rattle.gremlin_parse.specs.Turns.{KeptFrom}
use Rattle.gremlin_parse.proofs.Drafts.{stage_is, step_leads}
use Rattle.gremlin_parse.proofs.QueryPlaces.{are, some}
use Rattle.gremlin_parse.proofs.QueryReads.{change_kept, query_kept, stop_in_change}
use Rattle.gremlin_parse.proofs.Runs.{is_nothing}
use Rattle.gremlin_parse.proofs.Walks.{reaches_here}
use Rattle.gremlin_parse.proofs.Exits.{never_ok}
use Rattle.gremlin_parse.proofs.query.read_steps.Goals as goal

pub loop-rest-init : goal.loop-rest-init
loop-rest-init c = record {
  source_is = refl;
  is = c.new-draft.ensures.is;
  leads = subst (λ (place : Place). LeadsTo (Steps (query_from c.args.source)) c.args.bytes.now place c.args.bytes.now) (sym c.new-draft.ensures.place)
      (reaches_here turn is_loose are some (Steps (query_from c.args.source)) c.args.bytes.now);
}

pub returns-in_err-word-clause-err : goal.returns-in_err-word-clause-err
returns-in_err-word-clause-err c =
    let p = err_from_is_err_and c.from_residual.result c.from_residual.ensures.1 in
    let same = stage_is c.args.source c.loop-rest.draft c.loop-rest.invariant.is ∙ sym c.stage-stage.ensures in
    rw (p.1, p.2) (c.loop-rest.invariant.leads.stops c.in_err-word.field-0.0 (c.in_err-word.ensures.err (drafted c.args.source c.loop-rest.draft) same))

pub returns-in_err-mutation-clause-err : goal.returns-in_err-mutation-clause-err
returns-in_err-mutation-clause-err c =
    let p = err_from_is_err_and c.from_residual-in_err-mutation.result c.from_residual-in_err-mutation.ensures.1 in
    let same = stage_is c.args.source c.loop-rest.draft c.loop-rest.invariant.is ∙ sym c.stage-stage.ensures in
    rw (p.1, p.2) (stop_in_change (Steps (query_from c.args.source)) (drafted c.args.source c.loop-rest.draft) c.stage-stage.result c.loop-rest.draft.is_ordered
    c.in_ok-word.word c.in-Change.change c.args.bytes.now c.loop-rest.rest.now c.in_ok-word.at_arguments.now c.in_err-mutation.field-0.0
    c.loop-rest.invariant.leads same c.in_ok-word.ensures.ok c.in-Change.is c.in_err-mutation.ensures.err)

pub returns-in-Change-clause-ok : goal.returns-in-Change-clause-ok
returns-in-Change-clause-ok c =
    let mutation = c.in_ok-mutation.mutation in
    let draft = c.loop-rest.draft in
    let same = stage_is c.args.source draft c.loop-rest.invariant.is ∙ sym c.stage-stage.ensures in
    let kept = change_kept (Steps (query_from c.args.source)) (drafted c.args.source draft) c.stage-stage.result draft.is_ordered c.in_ok-word.word
    c.in-Change.change mutation c.args.bytes.now c.loop-rest.rest.now c.in_ok-word.at_arguments.now c.loop-rest.invariant.leads same c.in_ok-word.ensures.ok
    c.in-Change.is c.in_ok-mutation.ensures.ok in
    let is = c.reading.ensures ∙ ap (λ (source : Source). drafted source draft) c.loop-rest.invariant.source_is in
    subst (λ (query : Query). KeptFrom turn is_loose (commands.Mutate (Some query) mutation) (Steps (query_from c.args.source)) c.args.bytes.now) (sym is) kept

pub loop-rest-preserved : goal.loop-rest-preserved
loop-rest-preserved c =
    let read = c.in_ok-rest.ensures.ok c.args.source c.loop-rest.invariant.is in
    record {
      source_is = c.loop-rest.invariant.source_is;
      is = read.is;
      leads = step_leads c.args.source c.loop-rest.draft c.read.new.self c.stage-stage.result c.in_ok-word.word c.args.bytes.now c.loop-rest.rest.now
          c.in_ok-word.at_arguments.now c.in_ok-rest.rest.now c.loop-rest.invariant.leads c.loop-rest.invariant.is c.stage-stage.ensures c.in_ok-word.ensures.ok
          read;
    }

pub returns-clause-ok : goal.returns-clause-ok
returns-clause-ok c =
    let draft = c.loop-rest.draft in
    let kept = query_kept (Steps (query_from c.args.source)) (drafted c.args.source draft) c.args.bytes.now c.loop-rest.rest.now draft.is_ordered
    c.loop-rest.invariant.leads (is_nothing c.loop-rest.rest.now c.is_empty.result c.is_empty.ensures c.loop-rest-test.false) in
    let is = c.query.ensures ∙ ap (λ (source : Source). shown (drafted source draft)) c.loop-rest.invariant.source_is in
    subst (λ (query : Query). KeptFrom turn is_loose (commands.Query query) (Steps (query_from c.args.source)) c.args.bytes.now) (sym is) kept

pub returns-in_err-word-clause-ok : goal.returns-in_err-word-clause-ok
returns-in_err-word-clause-ok c = never_ok c.from_residual.result _ _ c.from_residual.ensures.1

pub returns-in_err-mutation-clause-ok : goal.returns-in_err-mutation-clause-ok
returns-in_err-mutation-clause-ok c = never_ok c.from_residual-in_err-mutation.result _ _ c.from_residual-in_err-mutation.ensures.1

pub returns-in_err-rest-clause-ok : goal.returns-in_err-rest-clause-ok
returns-in_err-rest-clause-ok c = never_ok c.from_residual-in_err-rest.result _ _ c.from_residual-in_err-rest.ensures.1
