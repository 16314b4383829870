-- Orders in the list of steps: what comes after one, that a `by` changes no items, and how many steps there are.
use Rattle.std.proofs.Common.{◌≡◌, ◌+◌, ◌-◌, true, List, [], ◌∷◌, ◌++◌, length, take, refl, sym, ap, ◌∙◌, length-append, arith}
use Rattle.std.proofs.Math.Seq.{take-append_seam}
use Rattle.plain_graph.specs.declared.query.Step.{Step}
use Rattle.gremlin_parse.specs.Stages.{items_after, items_from, step_count, steps_in, added_count}
use Rattle.gremlin_parse.specs.Queries.{replace_last, plain_order, is_order, put_step, IsOrderStep}
use Rattle.gremlin_parse.specs.declared.stage.Items.{Items}
use Rattle.gremlin_parse.specs.declared.step_word.StepWord.{StepWord}
use Rattle.gremlin_parse.specs.declared.step_word.StepWord.TheVariants as words

pub items_from-append : (items : Items) (list : List Step) (step : Step) → items_from items (list ++ step ∷ []) ≡ items_after (items_from items list) step
items_from-append items [] step = refl
items_from-append items (first ∷ list) step = items_from-append (items_after items first) list step

pub replace_last-append : (before : List Step) (last step : Step) → replace_last (before ++ last ∷ []) step ≡ before ++ step ∷ []
replace_last-append before last step =
    let len : length (before ++ last ∷ []) ≡ length before + 1 = length-append before (last ∷ []) in
    let n : length (before ++ last ∷ []) - 1 ≡ length before = omega (arith, len) in
    ap (λ k. take k (before ++ last ∷ []) ++ step ∷ []) n ∙ ap (λ (list : List Step). list ++ step ∷ []) (take-append_seam before (last ∷ []))

-- what comes after the steps with one put there
pub items_from-put_step : (items : Items) (list : List Step) (word : StepWord) (step : Step)
    → (word ≡ words.By → (before : List Step) × (list ≡ before ++ plain_order ∷ [])) → IsOrderStep word step
    → items_from items (put_step word list step) ≡ items_after (items_from items list) step
items_from-put_step items list (words.Bare bare) step last order = items_from-append items list step
items_from-put_step items list (words.Names names) step last order = items_from-append items list step
items_from-put_step items list (words.Body word) step last order = items_from-append items list step
items_from-put_step items list words.ElementMap step last order = items_from-append items list step
items_from-put_step items list words.Limit step last order = items_from-append items list step
items_from-put_step items list words.Repeat step last order = items_from-append items list step
items_from-put_step items list words.Order step last order = items_from-append items list step
items_from-put_step items list (words.Change change) step last order = items_from-append items list step
items_from-put_step items list words.By step last (key, descending, is) =
    let (before, list_is) = last refl in
    let put : replace_last list step ≡ before ++ step ∷ [] = ap (λ (these : List Step). replace_last these step) list_is
    ∙ replace_last-append before plain_order step in
    let before_is : items_from items list ≡ items_from items before = ap (items_from items) list_is ∙ items_from-append items before plain_order in
    ap (items_from items) put ∙ items_from-append items before step ∙ ap (λ (these : Items). items_after these step) (sym before_is)

pub steps_in-append : (list : List Step) (step : Step) → steps_in (list ++ step ∷ []) ≡ steps_in list + step_count step
steps_in-append [] step = omega arith
steps_in-append (first ∷ list) step = let later = steps_in-append list step in omega (arith, later)

-- how many steps there are with one put there
pub steps_in-put_step : (list : List Step) (word : StepWord) (step : Step) → (word ≡ words.By → (before : List Step) × (list ≡ before ++ plain_order ∷ []))
    → IsOrderStep word step → steps_in (put_step word list step) ≡ steps_in list + added_count word step
steps_in-put_step list (words.Bare bare) step last order = steps_in-append list step
steps_in-put_step list (words.Names names) step last order = steps_in-append list step
steps_in-put_step list (words.Body word) step last order = steps_in-append list step
steps_in-put_step list words.ElementMap step last order = steps_in-append list step
steps_in-put_step list words.Limit step last order = steps_in-append list step
steps_in-put_step list words.Repeat step last order = steps_in-append list step
steps_in-put_step list words.Order step last order = steps_in-append list step
steps_in-put_step list (words.Change change) step last order = steps_in-append list step
steps_in-put_step list words.By step last (key, descending, is) =
    let (before, list_is) = last refl in
    let put : replace_last list step ≡ before ++ step ∷ [] = ap (λ (these : List Step). replace_last these step) list_is
    ∙ replace_last-append before plain_order step in
    let one : step_count step ≡ 1 = ap (λ (s : Step). step_count s) is in
    let after : steps_in (replace_last list step) ≡ steps_in before + step_count step = ap (λ (these : List Step). steps_in these) put
    ∙ steps_in-append before step in
    let ahead : steps_in list ≡ steps_in before + 1 = ap (λ (these : List Step). steps_in these) list_is ∙ steps_in-append before plain_order in
    omega (arith, one, after, ahead)

-- An order without a `by` is the last step.
pub order_is_last : (list : List Step) (word : StepWord) (step : Step) → IsOrderStep word step → is_order word ≡ true → (before : List Step)
    × (put_step word list step ≡ before ++ plain_order ∷ [])
order_is_last list (words.Bare bare) step order is = cc
order_is_last list (words.Names names) step order is = cc
order_is_last list (words.Body of_body) step order is = cc
order_is_last list words.ElementMap step order is = cc
order_is_last list words.Limit step order is = cc
order_is_last list words.Repeat step order is = cc
order_is_last list words.Order step order is = (list, ap (λ (s : Step). list ++ s ∷ []) order)
order_is_last list words.By step order is = cc
order_is_last list (words.Change change) step order is = cc
