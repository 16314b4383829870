-- Which reasons refuse a line that changes nothing: none but that an element or an index that it asks of is missing.
use Rattle.std.proofs.Common.{◌≡◌, ◌⊎◌, ◌∙◌, ℕ, Bool, false, true, true≢false, Option, None, Some, inl, inr, refl, sym}
use Rattle.plain_graph.specs.Changes.{IsChange}
use Rattle.plain_graph.specs.Graph.{Graph, Index, empty_graph, has_edge, has_node}
use Rattle.plain_graph.specs.Indexes.{has_index}
use Rattle.plain_graph.specs.LineChanges.{first_refused}
use Rattle.plain_graph.specs.Lines.{Asked, At, AtEdge, Between, Nowhere, asked_of, index_of}
use Rattle.plain_graph.specs.Refusals.{FirstReason, NoReason, change_reasons, lacks_edge, lacks_index, lacks_node}
use Rattle.plain_graph.specs.Refusals.{lacks_only, lacks_only_edge, lacks_source, lacks_target}
use Rattle.plain_graph.specs.declared.command.Command.{Command}
use Rattle.plain_graph.specs.declared.command.Command.TheVariants as commands
use Rattle.plain_graph.specs.declared.refusal.Refusal.{Refusal}
use Rattle.plain_graph.specs.declared.refusal.Refusal.TheVariants as refusals

-- the graph has all elements that are asked of
abbrev pub HasElements : Graph → Asked → Type 0
HasElements graph Nowhere = Unit {0}
HasElements graph (At id) = has_node graph id ≡ true
HasElements graph (Between from to) = (has_node graph from ≡ true) × (has_node graph to ≡ true)
HasElements graph (AtEdge id) = has_edge graph id ≡ true

-- the refusal names the first of them that it lacks
abbrev pub LacksElement : Graph → Asked → Refusal → Type 0
LacksElement graph Nowhere why = ⊥
LacksElement graph (At id) why = lacks_node graph id why
LacksElement graph (Between from to) why = lacks_node graph from why ⊎ ((has_node graph from ≡ true) × lacks_node graph to why)
LacksElement graph (AtEdge id) why = lacks_edge graph id why

-- it has an index that is asked of
abbrev pub HasIndexAsked : Graph → Option Index → Type 0
HasIndexAsked graph None = Unit {0}
HasIndexAsked graph (Some index) = has_index graph index.label index.key ≡ true

-- and so the one that the line asks of
abbrev pub HasAsked : Graph → Command → Type 0
HasAsked graph command = HasIndexAsked graph (index_of command)

-- some element is asked of
abbrev pub AsksSome : Asked → Type 0
AsksSome Nowhere = ⊥
AsksSome _ = Unit {0}

-- and only nodes are
abbrev pub AsksNode : Asked → Type 0
AsksNode Nowhere = ⊥
AsksNode (AtEdge id) = ⊥
AsksNode _ = Unit {0}

-- ---- the reasons that name elements or an index

has_source : (graph : Graph) (asked : Asked) → HasElements graph asked → (other : Refusal) → ¬ lacks_source asked graph other
has_source graph (Between from to) has other h = true≢false (sym has.0 ∙ h.0)
has_source graph asked has other h = h

has_target : (graph : Graph) (asked : Asked) → HasElements graph asked → (other : Refusal) → ¬ lacks_target asked graph other
has_target graph (Between from to) has other h = true≢false (sym has.1 ∙ h.0)
has_target graph asked has other h = h

has_only : (graph : Graph) (asked : Asked) → HasElements graph asked → (other : Refusal) → ¬ lacks_only asked graph other
has_only graph (At id) has other h = true≢false (sym has ∙ h.0)
has_only graph asked has other h = h

has_only_edge : (graph : Graph) (asked : Asked) → HasElements graph asked → (other : Refusal) → ¬ lacks_only_edge asked graph other
has_only_edge graph (AtEdge id) has other h = true≢false (sym has ∙ h.0)
has_only_edge graph asked has other h = h

has_index_asked : (graph : Graph) (index : Option Index) → HasIndexAsked graph index → (other : Refusal) → ¬ lacks_index index graph other
has_index_asked graph None has other h = h
has_index_asked graph (Some index) has other h = true≢false (sym has ∙ h.0)

-- the first of those of elements that holds
abbrev FirstOfElements : Graph → Asked → Refusal → Type 0
FirstOfElements graph asked why =
    lacks_source asked graph why
    ⊎ (((other : Refusal) → ¬ lacks_source asked graph other)
    × (lacks_target asked graph why
    ⊎ (((other : Refusal) → ¬ lacks_target asked graph other)
    × (lacks_only asked graph why
    ⊎ (((other : Refusal) → ¬ lacks_only asked graph other) × lacks_only_edge asked graph why)))))

first_of_elements : (graph : Graph) (asked : Asked) (why : Refusal) → LacksElement graph asked why → FirstOfElements graph asked why
first_of_elements graph Nowhere why lacks = absurd lacks
first_of_elements graph (At id) why lacks = inr (λ _ h. h, inr (λ _ h. h, inl lacks))
first_of_elements graph (Between from to) why (inl lacks) = inl lacks
first_of_elements graph (Between from to) why (inr (found, lacks)) = inr (λ _ h. true≢false (sym found ∙ h.0), inl lacks)
first_of_elements graph (AtEdge id) why lacks = inr (λ _ h. h, inr (λ _ h. h, inr (λ _ h. h, lacks)))

-- ---- all reasons, in their order: a reason more is one more place in these three

-- Nothing refuses a line that changes nothing and whose elements and index are all there.
pub unchanging-free : (command : Command) → ¬ IsChange command → (limit : ℕ) (graph : Graph) → HasElements graph (asked_of command) → HasAsked graph command
    → NoReason change_reasons limit graph command
unchanging-free (commands.Node label pairs) idle limit graph has there = absurd (idle tt)
unchanging-free (commands.Edge from label to pairs) idle limit graph has there = absurd (idle tt)
unchanging-free (commands.Set target key value) idle limit graph has there = absurd (idle tt)
unchanging-free (commands.Unset target key) idle limit graph has there = absurd (idle tt)
unchanging-free (commands.Delete target) idle limit graph has there = absurd (idle tt)
unchanging-free (commands.Index label key) idle limit graph has there = absurd (idle tt)
unchanging-free command idle limit graph has there =
    let asked : Asked = asked_of command in (
      λ _ h. h,
      (
        has_source graph asked has,
        (
          has_target graph asked has,
          (
            λ _ h. h,
            (
              has_only graph asked has,
              (
                has_only_edge graph asked has,
                (
                  λ _ h. h,
                  (
                    λ _ h. h,
                    (
                      λ _ h. h,
                      (
                        has_index_asked graph (index_of command) there,
                        (λ _ h. h, (λ _ h. h, (λ _ h. h, (λ _ h. h, (λ _ h. h, (λ _ h. h, tt)))))),
                      ),
                    ),
                  ),
                ),
              ),
            ),
          ),
        ),
      ),
    )

-- it is no mutating query, of whose changes one could be refused
pub unchanging-unrefused : (command : Command) → ¬ IsChange command → (limit : ℕ) (graph : Graph) (why : Refusal) → ¬ first_refused limit graph command why
unchanging-unrefused (commands.Mutate reading mutation) idle limit graph why refused = idle tt
unchanging-unrefused command idle limit graph why refused = refused

-- the reason that holds first of all
lifted : (command : Command) → ¬ IsChange command → (limit : ℕ) (graph : Graph) (why : Refusal) → FirstOfElements graph (asked_of command) why
    → FirstReason change_reasons limit graph command why
lifted (commands.Node label pairs) idle limit graph why first = absurd (idle tt)
lifted (commands.Edge from label to pairs) idle limit graph why first = absurd (idle tt)
lifted (commands.Set target key value) idle limit graph why first = absurd (idle tt)
lifted (commands.Unset target key) idle limit graph why first = absurd (idle tt)
lifted (commands.Delete target) idle limit graph why first = absurd (idle tt)
lifted (commands.Index label key) idle limit graph why first = absurd (idle tt)
lifted command idle limit graph why (inl source) = inr (λ _ h. h, inl source)
lifted command idle limit graph why (inr (some, inl target)) = inr (λ _ h. h, inr (some, inl target))
lifted command idle limit graph why (inr (some, inr (also, inl only))) = inr (λ _ h. h, inr (some, inr (also, inr (λ _ h. h, inl only))))
lifted command idle limit graph why (inr (some, inr (also, inr (besides, edge)))) =
    inr (λ _ h. h, inr (some, inr (also, inr (λ _ h. h, inr (besides, inl edge)))))

-- The first element that is missing refuses it.
pub unchanging-refused : (command : Command) → ¬ IsChange command → (limit : ℕ) (graph : Graph) (why : Refusal) → LacksElement graph (asked_of command) why
    → FirstReason change_reasons limit graph command why
unchanging-refused command idle limit graph why lacks = lifted command idle limit graph why (first_of_elements graph (asked_of command) why lacks)

-- An index that is missing refuses a line that asks of it, and whose elements are all there.
pub unindexed-refused : (command : Command) → ¬ IsChange command → (limit : ℕ) (graph : Graph) (why : Refusal) → HasElements graph (asked_of command)
    → lacks_index (index_of command) graph why → FirstReason change_reasons limit graph command why
unindexed-refused (commands.Node label pairs) idle limit graph why has lacks = absurd (idle tt)
unindexed-refused (commands.Edge from label to pairs) idle limit graph why has lacks = absurd (idle tt)
unindexed-refused (commands.Set target key value) idle limit graph why has lacks = absurd (idle tt)
unindexed-refused (commands.Unset target key) idle limit graph why has lacks = absurd (idle tt)
unindexed-refused (commands.Delete target) idle limit graph why has lacks = absurd (idle tt)
unindexed-refused (commands.Index label key) idle limit graph why has lacks = absurd (idle tt)
unindexed-refused command idle limit graph why has lacks =
    let asked : Asked = asked_of command in
    inr (
      λ _ h. h,
      inr (
        has_source graph asked has,
        inr (
          has_target graph asked has,
          inr (
            λ _ h. h,
            inr (
              has_only graph asked has,
              inr
                  (has_only_edge graph asked has, inr (λ _ h. h, inr (λ _ h. h, inr (λ _ h. h, inl lacks)))),
            ),
          ),
        ),
      ),
    )

-- the empty graph lacks each element
pub empty-lacks : (asked : Asked) → AsksSome asked → (why : Refusal) × LacksElement empty_graph asked why
empty-lacks Nowhere some = absurd some
empty-lacks (At id) some = (refusals.NoNode id, (refl, refl))
empty-lacks (Between from to) some = (refusals.NoNode from, inl (refl, refl))
empty-lacks (AtEdge id) some = (refusals.NoEdge id, (refl, refl))

-- a graph that lacks no index that is asked of has it
pub index-there : (graph : Graph) (index : Option Index) → ((why : Refusal) → ¬ lacks_index index graph why) → HasIndexAsked graph index
index-there graph None none = tt
index-there graph (Some index) none = by (has_index graph index.label index.key) refl
  where
    by : (b : Bool) → has_index graph index.label index.key ≡ b → has_index graph index.label index.key ≡ true
    by true is = is
    by false is = absurd (none refusals.NoIndex (is, refl))

-- and each index
pub empty-unindexed : (index : Index) → lacks_index (Some index) empty_graph refusals.NoIndex
empty-unindexed index = (refl, refl)
