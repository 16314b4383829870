-- A run begins with all that its query means.
use Rattle.std.proofs.Common.{◌≡◌, ℕ, ◌+◌, suc, zero, List, [], ◌∷◌, ◌++◌, length, map, refl, sym, ap, ◌∙◌}
use Rattle.std.proofs.Common.{append_assoc, zero-add, pos, Bool, true, false, ◌||◌, nat_lt, cond, arith}
use Rattle.std.specs.List.{filter, flat_map}
use Rattle.plain_graph.specs.Graph.{Graph}
use Rattle.plain_graph.specs.declared.item.Item.{Item}
use Rattle.plain_graph.specs.declared.item.Item.TheVariants as items
use Rattle.plain_graph.specs.declared.value.Value.TheVariants as values
use Rattle.plain_graph.specs.declared.query.BodyStep.{BodyStep}
use Rattle.plain_graph.specs.declared.query.BodyStep.TheVariants as bodies
use Rattle.plain_graph.specs.declared.query.Step.{Step}
use Rattle.plain_graph.specs.declared.query.Step.TheVariants as steps
use Rattle.plain_graph.specs.declared.filter.Filter.{Filter}
use Rattle.plain_graph.specs.Meaning.{after_step, after_steps, after_body, after_bodies, passes, repeated, counts_past as step_past, counts_past_in}
use Rattle.traversal_run.specs.declared.row.Row.{Row}
use Rattle.traversal_run.specs.Row.{Stream, after_row, through}
use Rattle.traversal_run.specs.Stage.{after_stage, counts_past}
use Rattle.traversal_run.specs.declared.stage.Stage.{Stage}
use Rattle.traversal_run.specs.declared.stage.Stage.TheVariants as stages
use Rattle.traversal_run.specs.declared.mapping.Mapping.TheVariants as mappings
use Rattle.traversal_run.specs.Mapping.{filtered}
use Rattle.traversal_run.specs.Starting.{fresh, body_row, repeat_rows, rows_of_step, rows_of}

or_false : (p : Bool) → p || false ≡ p
or_false true = refl
or_false false = refl

or_assoc : (p a b : Bool) → (p || a) || b ≡ p || (a || b)
or_assoc true a b = refl
or_assoc false a b = refl

through-append : (graph : Graph) (rows more : List Row) (coming : Stream) → through graph (rows ++ more) coming ≡ through graph more (through graph rows coming)
through-append graph [] more coming = refl
through-append graph (row ∷ rows) more coming = through-append graph rows more (after_row graph row coming)

-- the items of a stream changed
abbrev changed : (List Item → List Item) → Stream → Stream
changed f coming = record { items = f coming.items; past = coming.past }

no_count : (graph : Graph) (stage : Stage) (coming : Stream) → counts_past stage coming.items ≡ false
    → after_row graph (fresh stage) coming ≡ changed (after_stage graph stage) coming
no_count graph stage coming none = λ i. record {
  items = after_stage graph stage coming.items;
  past = (ap (λ (b : Bool). coming.past || b) none
      ∙ or_false coming.past) i;
}

filtered_all : (graph : Graph) (test : Filter) (list : List Item) → flat_map (filtered graph test) list ≡ filter (passes graph test) list
filtered_all graph test [] = refl
filtered_all graph test (item ∷ list) = by (passes graph test item) ∙ ap (λ rest. cond (passes graph test item) (item ∷ rest) rest)
    (filtered_all graph test list)
  where
    by : (b : Bool) → cond b (item ∷ []) [] ++ flat_map (filtered graph test) list ≡ cond b (item ∷ flat_map (filtered graph test) list)
        (flat_map (filtered graph test) list)
    by true = refl
    by false = refl

through_body : (graph : Graph) (body : List BodyStep) (coming : Stream) → through graph (map body_row body) coming ≡ changed (after_bodies graph body) coming
through_body graph [] coming = refl
through_body graph (bodies.Neighbours hop ∷ body) coming = ap (through graph (map body_row body))
    (no_count graph (stages.Mapped (mappings.Neighbours hop)) coming refl) ∙ through_body graph body (changed (after_body graph (bodies.Neighbours hop)) coming)
through_body graph (bodies.Filter test ∷ body) coming =
    ap (through graph (map body_row body)) (no_count graph (stages.Mapped (mappings.Filter test)) coming refl ∙
    (λ i. record { items = filtered_all graph test coming.items i; past = coming.past }))
    ∙ through_body graph body (changed (after_body graph (bodies.Filter test)) coming)

through_repeat : (graph : Graph) (body : List BodyStep) (times : ℕ) (coming : Stream)
    → through graph (repeat_rows times (map body_row body)) coming ≡ changed (repeated graph body times) coming
through_repeat graph body zero coming = refl
through_repeat graph body (suc times) coming =
    through-append graph (map body_row body) (repeat_rows times (map body_row body)) coming
    ∙ ap (through graph (repeat_rows times (map body_row body))) (through_body graph body coming)
    ∙ through_repeat graph body times (changed (after_bodies graph body) coming)

-- what a step makes of a stream
abbrev stepped : Graph → Step → Stream → Stream
stepped graph step coming = record { items = after_step graph step coming.items; past = coming.past || step_past step coming.items }

quiet_step : (graph : Graph) (step : Step) (coming out : Stream) → out ≡ changed (after_step graph step) coming → step_past step coming.items ≡ false
    → out ≡ stepped graph step coming
quiet_step graph step coming out same none = same ∙ (λ i. record {
  items = after_step graph step coming.items;
  past = sym (ap (λ (b : Bool). coming.past || b)
      none ∙ or_false coming.past) i;
})

through_step : (graph : Graph) (step : Step) (coming : Stream) → through graph (rows_of_step step) coming ≡ stepped graph step coming
through_step graph (steps.Repeat body times) coming = quiet_step graph (steps.Repeat body times) coming
    (through graph (rows_of_step (steps.Repeat body times)) coming) (through_repeat graph body times coming) refl
through_step graph (steps.Values []) coming = refl
through_step graph (steps.Values (key ∷ keys)) coming = refl
through_step graph (steps.Filter test) coming = quiet_step graph (steps.Filter test) coming (through graph (rows_of_step (steps.Filter test)) coming)
    (no_count graph (stages.Mapped (mappings.Filter test)) coming refl ∙ (λ i. record { items = filtered_all graph test coming.items i; past = coming.past }))
    refl
through_step graph steps.Count coming = let len : 0 + length coming.items ≡ length coming.items = zero-add (length coming.items) in λ i.
    record { items = items.Value (values.Int (pos (len i))) ∷ []; past = coming.past || nat_lt 9223372036854775807 (len i) }
through_step graph step coming = refl

-- what the steps make of a stream
abbrev pub stepped_all : Graph → List Step → Stream → Stream
stepped_all graph list coming = record { items = after_steps graph list coming.items; past = coming.past || counts_past_in graph list coming.items }

pub through_steps : (graph : Graph) (list : List Step) (coming : Stream) → through graph (rows_of list) coming ≡ stepped_all graph list coming
through_steps graph [] coming = λ i. record { items = coming.items; past = sym (or_false coming.past) i }
through_steps graph (step ∷ list) coming =
    through-append graph (rows_of_step step) (rows_of list) coming
    ∙ ap (through graph (rows_of list)) (through_step graph step coming)
    ∙ through_steps graph list (stepped graph step coming)
    ∙ (λ i. record {
      items = after_steps graph list (after_step graph step coming.items);
      past = or_assoc coming.past (step_past step coming.items)
          (counts_past_in graph list (after_step graph step coming.items)) i;
    })

pub repeat_more : (times : ℕ) (rows : List Row) → repeat_rows times rows ++ rows ≡ repeat_rows (times + 1) rows
repeat_more times rows = let next : suc times ≡ times + 1 = omega arith in repeat_end times ∙ ap (λ n. repeat_rows n rows) next
  where
    repeat_end : (n : ℕ) → repeat_rows n rows ++ rows ≡ repeat_rows (suc n) rows
    repeat_end n = ends n
      where
        ends : (n : ℕ) → repeat_rows n rows ++ rows ≡ rows ++ repeat_rows n rows
        ends zero = nil_end rows
          where
            nil_end : (list : List Row) → list ≡ list ++ []
            nil_end [] = refl
            nil_end (row ∷ list) = ap (λ rest. row ∷ rest) (nil_end list)
        ends (suc n) = append_assoc rows (repeat_rows n rows) rows ∙ ap (λ rest. rows ++ rest) (ends n)
