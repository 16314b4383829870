-- The query that is read, from the steps so far to the next ones.
use Rattle.std.proofs.Common.{◌≡◌, ◌≤◌, ◌+◌, ℕ, true, false, Some, None, List, [], refl, sym, ap, ◌∙◌, subst, arith}
use Rattle.plain_graph.specs.declared.query.Query.{Query}
use Rattle.plain_graph.specs.declared.query.Source.{Source}
use Rattle.plain_graph.specs.declared.query.Step.{Step}
use Rattle.gremlin_parse.specs.Drafts.{IsDraft, PutsStep, ReadsStep, draft_place, draft_stage, draft_steps, drafted}
use Rattle.gremlin_parse.specs.Queries.{IsOrderStep, LeadsTo, NamesFor, OfMaps, Place, Steps, after_names, after_word}
use Rattle.gremlin_parse.specs.Queries.{needs_name, opened, opened_names, query_from, query_of, steps_place}
use Rattle.gremlin_parse.specs.Stages.{added_count, first_items, items_after, items_from, mapped, maps_count, stage_of, steps_in}
use Rattle.gremlin_parse.specs.declared.draft.Draft.{Draft}
use Rattle.gremlin_parse.specs.declared.stage.Items.{Items}
use Rattle.gremlin_parse.specs.declared.stage.Stage.{Stage}
use Rattle.gremlin_parse.specs.declared.step_word.StepWord.{StepWord}
use Rattle.gremlin_parse.specs.declared.step_word.StepWord.TheVariants as words
use Rattle.gremlin_parse.proofs.OrderLaws.{items_from-put_step, order_is_last, steps_in-put_step}
use Rattle.gremlin_parse.proofs.QueryReads.{OpensStep, on}

-- No steps are read yet.
pub record IsEmpty (source : Source) (draft : Draft) : Type 0 where
  pub no_steps : draft.steps.items ≡ []
  pub no_maps : draft.maps ≡ None
  pub first : draft.items ≡ first_items source
  pub none : draft.count ≡ 0
  pub plain : draft.is_ordered ≡ false

-- the stage of the query so far
pub stage_is : (source : Source) (draft : Draft) → IsDraft source draft → stage_of (drafted source draft) ≡ draft_stage draft
stage_is source draft is = λ i. record { items = mapped draft.maps (sym is.items_are i); steps = sym is.counted i + maps_count draft.maps }

-- a step with its arguments
pub step_read : (source : Source) (draft after : Draft) (word : StepWord) (step : Step) (bytes rest : List ℕ) → IsDraft source draft
    → PutsStep draft word step after → IsOrderStep word step → (word ≡ words.By → draft.is_ordered ≡ true) → draft_steps draft + added_count word step ≤ 32
    → ((query : Query) → stage_of query ≡ draft_stage draft → LeadsTo (opened query word) bytes (after_word word query step) rest)
    → ReadsStep source draft word bytes after rest
step_read source draft after word step bytes rest is puts order by few reads =
    let list = draft.steps.items in
    let last = λ (same : word ≡ words.By). is.order_last (by same) in
    let place : after_word word (drafted source draft) step ≡ draft_place source after = λ i.
    steps_place (sym puts.ordered i) (query_of source (sym puts.steps_are i) (sym puts.maps_are i)) in
    record {
      is = record {
        items_are = puts.items_are ∙ ap (λ (these : Items). items_after these step) is.items_are
            ∙ sym (items_from-put_step (first_items source) list word step last order) ∙ ap (items_from (first_items source)) (sym puts.steps_are);
        counted = puts.counted ∙ ap (λ (n : ℕ). n + added_count word step) is.counted ∙ sym (steps_in-put_step list word step last order)
            ∙ ap steps_in (sym puts.steps_are);
        early = let maps : maps_count after.maps ≡ maps_count draft.maps = ap maps_count puts.maps_are in let counted = puts.counted in
            omega (arith, maps, counted, few);
        order_last = λ ordered. let found = order_is_last list word step order (sym puts.ordered ∙ ordered) in (found.0, puts.steps_are ∙ found.1);
      };
      leads = subst (λ (next : Place). LeadsTo (opened (drafted source draft) word) bytes next rest) place
          (reads (drafted source draft) (stage_is source draft is));
    }

-- Maps are asked for of these keys.
pub record AsksMaps (draft : Draft) (keys : List (List ℕ)) (after : Draft) : Type 0 where
  pub steps_are : after.steps.items ≡ draft.steps.items
  pub maps_are : after.maps ≡ Some keys
  pub items_are : after.items ≡ draft.items
  pub counted : after.count ≡ draft.count
  pub plain : after.is_ordered ≡ false

-- the keys of maps
pub maps_read : (source : Source) (draft after : Draft) (keys : List (List ℕ)) (bytes rest : List ℕ) → IsDraft source draft → AsksMaps draft keys after
    → draft.count + 1 ≤ 32 → ((purpose : NamesFor) → needs_name purpose ≡ false → LeadsTo (opened_names purpose) bytes (after_names purpose keys) rest)
    → ReadsStep source draft words.ElementMap bytes after rest
maps_read source draft after keys bytes rest is asks few reads =
    let query = drafted source draft in
    let place : after_names (OfMaps query) keys ≡ draft_place source after = λ i.
    steps_place (sym asks.plain i) (query_of source (sym asks.steps_are i) (sym asks.maps_are i)) in
    record {
      is = record {
        items_are = asks.items_are ∙ is.items_are ∙ ap (items_from (first_items source)) (sym asks.steps_are);
        counted = asks.counted ∙ is.counted ∙ ap steps_in (sym asks.steps_are);
        early = let maps : maps_count after.maps ≡ 1 = ap maps_count asks.maps_are in let counted = asks.counted in omega (arith, maps, counted, few);
        order_last = λ ordered. let clash : true ≡ false = sym ordered ∙ asks.plain in cc;
      };
      leads = subst (λ (next : Place). LeadsTo (opened query words.ElementMap) bytes next rest) place (reads (OfMaps query) refl);
    }

-- The steps so far lead to the arguments of the next one.
pub opens_draft : (source : Source) (draft : Draft) (stage : Stage) (word : StepWord) (bytes rest at_arguments : List ℕ)
    → LeadsTo (Steps (query_from source)) bytes (draft_place source draft) rest → IsDraft source draft → stage ≡ draft_stage draft
    → OpensStep stage draft.is_ordered word rest at_arguments → LeadsTo (Steps (query_from source)) bytes (opened (drafted source draft) word) at_arguments
opens_draft source draft stage word bytes rest at_arguments leads is same opens =
    on (Steps (query_from source)) bytes (draft_place source draft) rest (opened (drafted source draft) word) at_arguments leads
    (opens (drafted source draft) (stage_is source draft is ∙ sym same))

pub step_leads : (source : Source) (draft after : Draft) (stage : Stage) (word : StepWord) (bytes rest at_arguments later : List ℕ)
    → LeadsTo (Steps (query_from source)) bytes (draft_place source draft) rest → IsDraft source draft → stage ≡ draft_stage draft
    → OpensStep stage draft.is_ordered word rest at_arguments → ReadsStep source draft word at_arguments after later
    → LeadsTo (Steps (query_from source)) bytes (draft_place source after) later
step_leads source draft after stage word bytes rest at_arguments later leads is same opens reads =
    on (Steps (query_from source)) bytes (opened (drafted source draft) word) at_arguments (draft_place source after) later
    (opens_draft source draft stage word bytes rest at_arguments leads is same opens) reads.leads
