-- What an order gives of an item that is kept before the others come.
use Rattle.std.proofs.Common.{◌≡◌, ◌∙◌, ◌++◌, ◌∷◌, [], Bool, List, None, Option, Some, ap, sym, ℕ}
use Rattle.std.specs.List.{cons_option, filter_map}
use Rattle.std.proofs.lemmas.List.{append_assoc}
use Rattle.std.proofs.lemmas.List.Elements.{filter_map-append}
use Rattle.plain_graph.specs.Graph.{Graph}
use Rattle.plain_graph.specs.Meaning.{Ranked, ranked, ranked_if}
use Rattle.plain_graph.specs.declared.item.Item.{Item}
use Rattle.plain_graph.specs.declared.value.Value.{Value}
use Rattle.traversal_run.specs.Stage.{given_in_order, rank_in}

pub one_more_kept : (given descending : Bool) (rank : Item → Option Ranked) (item : Item) (coming : List Item) (old new : List Ranked)
    → new ≡ old ++ cons_option (rank item) []
    → given_in_order given descending (old ++ filter_map rank (item ∷ coming)) ≡ given_in_order given descending (new ++ filter_map rank coming)
one_more_kept given descending rank item coming old new kept = ap (given_in_order given descending)
    (ap (λ (rest : List Ranked). old ++ rest) (filter_map-append rank (item ∷ []) coming)
    ∙ sym (append_assoc old (filter_map rank (item ∷ [])) (filter_map rank coming))
    ∙ ap (λ (first : List Ranked). first ++ filter_map rank coming) (sym kept))

-- an item that is kept by the rank that was read has its place
pub kept_rank : (graph : Graph) (key : Option (List ℕ)) (item : Item) (rank : Option Value) (old new : List Ranked) → rank ≡ rank_in graph key item
    → new ≡ old ++ cons_option (ranked_if rank item) [] → new ≡ old ++ cons_option (ranked graph key item) []
kept_rank graph None item rank old new found kept = kept ∙ ap (λ r. old ++ cons_option (ranked_if r item) []) found
kept_rank graph (Some key) item rank old new found kept = kept ∙ ap (λ r. old ++ cons_option (ranked_if r item) []) found
