-- Which lines are refused, and what they weigh.
use Rattle.std.proofs.Common.{ℕ, Option, List, [], ◌∷◌, ◌++◌, inl, inr}
use Rattle.plain_graph.specs.Graph.{Graph}
use Rattle.plain_graph.specs.LineChanges.{asked_changes, first_refused, line_reasons}
use Rattle.plain_graph.specs.Mutations.{RefusesEach}
use Rattle.plain_graph.specs.Lines.{index_of_reading}
use Rattle.plain_graph.specs.Refusals.{FirstReason, NoReason, Reason, change_reasons, lacks_index}
use Rattle.plain_graph.specs.declared.command.Command.{Command}
use Rattle.plain_graph.specs.declared.command.Command.TheVariants as commands
use Rattle.plain_graph.specs.declared.mutation.Mutation.{Mutation}
use Rattle.plain_graph.specs.declared.query.Query.{Query}
use Rattle.plain_graph.specs.declared.refusal.Refusal.{Refusal}

-- ---- lists of reasons

pub none_both : (front later : List Reason) (limit : ℕ) (graph : Graph) (command : Command) → NoReason front limit graph command
    → NoReason later limit graph command → NoReason (front ++ later) limit graph command
none_both [] later limit graph command none more = more
none_both (reason ∷ front) later limit graph command none more = (none.0, none_both front later limit graph command none.1 more)

pub first_front : (front later : List Reason) (limit : ℕ) (graph : Graph) (command : Command) (why : Refusal) → FirstReason front limit graph command why
    → FirstReason (front ++ later) limit graph command why
first_front [] later limit graph command why first = absurd first
first_front (reason ∷ front) later limit graph command why (inl h) = inl h
first_front (reason ∷ front) later limit graph command why (inr h) = inr (h.0, first_front front later limit graph command why h.1)

pub first_after : (front later : List Reason) (limit : ℕ) (graph : Graph) (command : Command) (why : Refusal) → NoReason front limit graph command
    → FirstReason later limit graph command why → FirstReason (front ++ later) limit graph command why
first_after [] later limit graph command why none first = first
first_after (reason ∷ front) later limit graph command why none first = inr (none.0, first_after front later limit graph command why none.1 first)

-- ---- single changes

-- a change that no reason refuses is a line that none refuses, and so for the first that does
pub change_free : (limit : ℕ) (graph : Graph) (command : Command) → ((why : Refusal) → ¬ first_refused limit graph command why)
    → NoReason change_reasons limit graph command → NoReason line_reasons limit graph command
change_free limit graph command other none = none_both change_reasons (first_refused ∷ []) limit graph command none (other, tt)

pub change_first : (limit : ℕ) (graph : Graph) (command : Command) (why : Refusal) → FirstReason change_reasons limit graph command why
    → FirstReason line_reasons limit graph command why
change_first limit graph command why first = first_front change_reasons (first_refused ∷ []) limit graph command why first

-- ---- mutating queries

-- the graph has the index that the query begins with
abbrev pub HasIndexOf : Graph → Option Query → Type 0
HasIndexOf graph reading = (why : Refusal) → ¬ lacks_index (index_of_reading reading) graph why

-- No reason of a single change is one of a mutating query, but that it asks of an index that isn't there.
none_single : (limit : ℕ) (graph : Graph) (reading : Option Query) (mutation : Mutation) → HasIndexOf graph reading
    → NoReason change_reasons limit graph (commands.Mutate reading mutation)
none_single limit graph reading mutation there = (
  λ o h. h,
  (
    λ o h. h,
    (
      λ o h. h,
      (
        λ o h. h,
        (
          λ o h. h,
          (
            λ o h. h,
            (λ o h. h, (λ o h. h, (λ o h. h, (there, (λ o h. h, (λ o h. h, (λ o h. h, (λ o h. h, (λ o h. h, (λ o h. h, tt)))))))))),
          ),
        ),
      ),
    ),
  ),
)

pub mutation_free : (limit : ℕ) (graph : Graph) (reading : Option Query) (mutation : Mutation) → HasIndexOf graph reading
    → ((why : Refusal) → ¬ RefusesEach limit graph (asked_changes graph reading mutation) why)
    → NoReason line_reasons limit graph (commands.Mutate reading mutation)
mutation_free limit graph reading mutation there free = none_both change_reasons (first_refused ∷ []) limit graph (commands.Mutate reading mutation)
    (none_single limit graph reading mutation there) (free, tt)

pub mutation_first : (limit : ℕ) (graph : Graph) (reading : Option Query) (mutation : Mutation) (why : Refusal) → HasIndexOf graph reading
    → RefusesEach limit graph (asked_changes graph reading mutation) why → FirstReason line_reasons limit graph (commands.Mutate reading mutation) why
mutation_first limit graph reading mutation why there refused = first_after change_reasons (first_refused ∷ []) limit graph (commands.Mutate reading mutation)
    why (none_single limit graph reading mutation there) (inl refused)

-- An index that the query begins with and that isn't there refuses it.
pub mutation_unindexed : (limit : ℕ) (graph : Graph) (reading : Option Query) (mutation : Mutation) (why : Refusal)
    → lacks_index (index_of_reading reading) graph why → FirstReason line_reasons limit graph (commands.Mutate reading mutation) why
mutation_unindexed limit graph reading mutation why lacks =
    first_front change_reasons (first_refused ∷ []) limit graph (commands.Mutate reading mutation) why
    (inr (λ _ h. h, inr (λ _ h. h, inr (λ _ h. h, inr (λ _ h. h, inr (λ _ h. h, inr (λ _ h. h, inr (λ _ h. h, inr (λ _ h. h, inr (λ _ h. h, inl lacks))))))))))
