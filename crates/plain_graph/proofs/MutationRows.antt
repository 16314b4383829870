-- Worked cases of mutating queries.
use Rattle.std.proofs.Common.{◌≡◌, ℕ, true, false, true≢false, [], ◌∷◌, inl, inr, refl, arith}
use Rattle.plain_graph.specs.Graph.{Graph}
use Rattle.plain_graph.specs.LineChanges.{asked_changes}
use Rattle.plain_graph.specs.Mutations.{RefusesEach, changes_of, results_of}
use Rattle.plain_graph.specs.Properties.{no_properties}
use Rattle.plain_graph.specs.Reply.{Done, EdgeMade}
use Rattle.plain_graph.specs.declared.command.Command.TheVariants as commands
use Rattle.plain_graph.specs.declared.command.Target.TheVariants as targets
use Rattle.plain_graph.specs.declared.item.Item.TheVariants as items
use Rattle.plain_graph.specs.declared.mutation.Mutation.TheVariants as mutations
use Rattle.plain_graph.specs.declared.query.Query.{Query}
use Rattle.plain_graph.specs.declared.query.Source.TheVariants as sources
use Rattle.plain_graph.specs.declared.refusal.Refusal.TheVariants as refusals
use Rattle.plain_graph.specs.declared.value.Value.TheVariants as values
use Rattle.std.specs.Prelude.{Option, None, Some}

-- two nodes, the second with a loop
abbrev two_nodes : Graph
two_nodes = record {
  nodes = record { id = 0; label = 97 ∷ []; properties = no_properties } ∷ record { id = 1; label = 97 ∷ []; properties = no_properties } ∷ [];
  edges = record { id = 0; label = 116 ∷ []; from = 1; to = 1; properties = no_properties } ∷ [];
  names = (97 ∷ []) ∷ (116 ∷ []) ∷ [];
  indexes = [];
}

abbrev one_node : Graph
one_node = record {
  nodes = record { id = 1; label = 97 ∷ []; properties = no_properties } ∷ [];
  edges = record { id = 0; label = 116 ∷ []; from = 1; to = 1; properties = no_properties } ∷ [];
  names = (97 ∷ []) ∷ (116 ∷ []) ∷ [];
  indexes = [];
}

-- all nodes are read
abbrev all_nodes : Option Query
all_nodes = Some (record { source = sources.Vertices []; steps = []; maps = None })

-- `g.V().drop()`: each node once
drop_asks : asked_changes two_nodes all_nodes mutations.Drop ≡ commands.Delete (targets.Node 0) ∷ commands.Delete (targets.Node 1) ∷ []
drop_asks = refl

-- what is met twice is deleted once, and a value stands for no element
drop_once : changes_of mutations.Drop (items.Vertex 1 ∷ items.Edge 1 (116 ∷ []) 1 1 ∷ items.Vertex 1 ∷ items.Value (values.Bool true) ∷ []) ≡ commands.Delete
    (targets.Node 1) ∷ commands.Delete (targets.Edge 1) ∷ []
drop_once = refl

-- the pairs of an element come before the next element
pairs_in_turn : changes_of (mutations.Property (record { key = 97 ∷ []; value = values.Bool true } ∷ record { key = 98 ∷ []; value = values.Bool false } ∷ []))
    (items.Vertex 0 ∷ items.Vertex 0 ∷ [])
    ≡ commands.Set (targets.Node 0) (97 ∷ []) (values.Bool true) ∷ commands.Set (targets.Node 0) (98 ∷ []) (values.Bool false) ∷ commands.Set (targets.Node 0)
    (97 ∷ []) (values.Bool true)
    ∷ commands.Set (targets.Node 0) (98 ∷ []) (values.Bool false)
    ∷ []
pairs_in_turn = refl

-- a new edge is shown from its vertex to the named one
edge_shown : results_of (mutations.AddE (116 ∷ []) 0 []) (items.Vertex 1 ∷ []) (EdgeMade 7 ∷ []) ≡ items.Edge 7 (116 ∷ []) 1 0 ∷ []
edge_shown = refl

-- the second node is refused, after the first was deleted
loop_refused : RefusesEach 16 two_nodes (asked_changes two_nodes all_nodes mutations.Drop) (refusals.HasRelationships 1)
loop_refused = inr (
  (
    λ o h. h,
    (
      λ o h. h,
      (
        λ o h. h,
        (
          λ o h. h,
          (
            λ o h. absurd (true≢false h.0),
            (λ o h. h, (λ o h. h.0 refl, (λ o h. h, (λ o h. h, (λ o h. h, (λ o h. h, (λ o h. h, (λ o h. h, (λ o h. h, (λ o h. h, (λ o h. h, tt))))))))))),
          ),
        ),
      ),
    ),
  ),
  Done,
  one_node,
  (refl, record { there = refl; lone = refl; nodes = refl; edges = refl; names = refl; indexes = refl }),
  inl
      (inr (
        λ o h. h,
        inr (
          λ o h. h,
          inr (
            λ o h. h,
            inr (
              λ o h. h,
              inr (
                λ o h. absurd (true≢false h.0),
                inr
                    (λ o h. h, inl ((λ e. zero_not 1 0 refl refl e), refl)),
              ),
            ),
          ),
        ),
      )),
)
  where
    zero_not : (a b : ℕ) → a ≡ 1 → b ≡ 0 → ¬ (a ≡ b)
    zero_not a b one none same = absurd (omega arith)
