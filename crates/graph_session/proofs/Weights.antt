-- What a change weighs.
use Rattle.std.specs.Prelude.{min}
use Rattle.std.proofs.Common.{◌≡◌, ◌+◌, ◌∙◌, ◌<◌, ◌≤◌, ℕ, Bool, true, false, nat_lt, List, [], ◌∷◌, length, inl, inr, refl, sym, ap, subst, arith}
use Rattle.std.specs.FinMap as maps
use Rattle.std.proofs.Math.Nat.{min-eq_left, min-eq_right, min-le_left}
use Rattle.std.proofs.lemmas.Bool.Decides.{nat_tests}
use Rattle.plain_graph.specs.Changes.{IsChange, Weighs, ends_weight, properties_weight}
use Rattle.plain_graph.specs.Graph.{Graph, NeedsNames, UsesName, UsesNames, properties_at}
use Rattle.plain_graph.specs.Indexes.{element_weight, entries_weight, indexed_count}
use Rattle.plain_graph.specs.LineChanges.{LineWeighs}
use Rattle.plain_graph.specs.Properties.{blocks_at, blocks_of, keys_in, no_properties, with_pairs}
use Rattle.plain_graph.specs.Values.{is_text}
use Rattle.plain_graph.specs.declared.command.Command.{Command}
use Rattle.plain_graph.specs.declared.command.Command.TheVariants as commands
use Rattle.plain_graph.specs.declared.command.Target.TheVariants as targets
use Rattle.graph_ops.specs.Mutating.{most_told}

-- one name leaves one list of names
UsesName-only : (old : List (List ℕ)) (name : List ℕ) (a b : List (List ℕ)) → UsesName old name a → UsesName old name b → a ≡ b
UsesName-only old name a b (inl h) (inl k) = h.1 ∙ sym k.1
UsesName-only old name a b (inl h) (inr k) = absurd (k.0 h.0)
UsesName-only old name a b (inr h) (inl k) = absurd (h.0 k.0)
UsesName-only old name a b (inr h) (inr k) = h.1 ∙ sym k.1

-- and so do the names of a line
UsesNames-only : (old line a b : List (List ℕ)) → UsesNames old line a → UsesNames old line b → a ≡ b
UsesNames-only old [] a b h k = h ∙ sym k
UsesNames-only old (name ∷ later) a b h k =
    let same : h.0 ≡ k.0 = UsesName-only old name h.0 k.0 h.1 k.1 in
    UsesNames-only k.0 later a b (subst (λ (known : List (List ℕ)). UsesNames known later a) same h.2) k.2

-- so many of the names of a line are new, and no other number
NeedsNames-only : (names line : List (List ℕ)) (a b : ℕ) → NeedsNames names line a → NeedsNames names line b → a ≡ b
NeedsNames-only names line a b h k =
    let same = ap (λ (known : List (List ℕ)). length known) (UsesNames-only names line h.0 k.0 h.1 k.1) in
    let one = h.2 in
    let other = k.2 in
    omega (arith, same, one, other)

-- what a line weighs by the names that it needs
weight-only : (of : ℕ → ℕ) (names line : List (List ℕ)) (a b : ℕ) → ((count : ℕ) × NeedsNames names line count × (a ≡ of count))
    → ((count : ℕ) × NeedsNames names line count × (b ≡ of count)) → a ≡ b
weight-only of names line a b h k = h.2 ∙ ap of (NeedsNames-only names line h.0 k.0 h.1 k.1) ∙ sym k.2

-- a change weighs one number
pub Weighs-only : (threshold : ℕ) (graph : Graph) (command : Command) (a b : ℕ) → Weighs threshold graph command a → Weighs threshold graph command b → a ≡ b
Weighs-only threshold graph (commands.Node label pairs) a b h k = weight-only
    (λ (n : ℕ). 1 + properties_weight (with_pairs no_properties pairs) + n + entries_weight graph label (λ key. true) no_properties
    (with_pairs no_properties pairs)) graph.names (label ∷ keys_in pairs) a b h k
Weighs-only threshold graph (commands.Edge from label to pairs) a b h k =
    weight-only (λ (n : ℕ). 9 + properties_weight (with_pairs no_properties pairs) + n + ends_weight threshold graph from to) graph.names
    (label ∷ keys_in pairs) a b h k
Weighs-only threshold graph (commands.Set target key value) a b h k =
    weight-only (λ (n : ℕ). 2 + blocks_of value + blocks_at (properties_at graph target) key + n + element_weight graph target (is_text key)
    (maps.insert (properties_at graph target) key value)) graph.names (key ∷ []) a b h k
Weighs-only threshold graph (commands.Unset target key) a b h k = h ∙ sym k
Weighs-only threshold graph (commands.Delete (targets.Node id)) a b h k = h ∙ sym k
Weighs-only threshold graph (commands.Delete (targets.Edge id)) a b h k = h ∙ sym k
Weighs-only threshold graph (commands.Index label key) a b h k = weight-only (λ (n : ℕ). 13 + n + indexed_count graph label key) graph.names (label ∷ key ∷ [])
    a b h k
Weighs-only threshold graph _ a b h k = absurd h

-- ---- what is told of a weight

-- it is no more than the weight
pub told-least : (total weight : ℕ) → weight ≡ min total most_told → weight ≤ total
told-least total weight told = let least = min-le_left total most_told in omega (arith, told, least)

-- and it is the weight where it is less than the most that is told
pub told-whole : (total weight : ℕ) → weight ≡ min total most_told → weight < most_told → total ≡ weight
told-whole total weight told low = by (nat_lt total most_told) refl
  where
    by : (t : Bool) → nat_lt total most_told ≡ t → total ≡ weight
    by true e = sym (told ∙ min-eq_left (let small : total < most_told = grind (arith, nat_tests) in omega (arith, small)))
    by false e =
        let large : most_told ≤ total = grind (arith, nat_tests) in
        let is : min total most_told ≡ most_told = min-eq_right large in
        absurd (omega (arith, is, told, low))

-- ---- only changes weigh

Weighs-change : (threshold : ℕ) (graph : Graph) (command : Command) (weight : ℕ) → Weighs threshold graph command weight → IsChange command
Weighs-change threshold graph (commands.Node label pairs) weight h = tt
Weighs-change threshold graph (commands.Edge from label to pairs) weight h = tt
Weighs-change threshold graph (commands.Set target key value) weight h = tt
Weighs-change threshold graph (commands.Unset target key) weight h = tt
Weighs-change threshold graph (commands.Delete (targets.Node id)) weight h = tt
Weighs-change threshold graph (commands.Delete (targets.Edge id)) weight h = tt
Weighs-change threshold graph (commands.Index label key) weight h = tt
Weighs-change threshold graph _ weight h = absurd h

pub LineWeighs-change : (limit threshold : ℕ) (graph : Graph) (command : Command) (weight : ℕ) → LineWeighs limit threshold graph command weight
    → IsChange command
LineWeighs-change limit threshold graph (commands.Mutate reading mutation) weight h = tt
LineWeighs-change limit threshold graph command weight h = Weighs-change threshold graph command weight h
