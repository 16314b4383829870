-- The commands that steps ask for, part by part, and their kinds.
use Rattle.std.proofs.Common.{◌≡◌, ◌∙◌, ℕ, ◌+◌, ◌<◌, List, [], ◌∷◌, ◌++◌, length, map, take, drop, get_or, drop-cons, add-one, sym, ap}
use Rattle.std.specs.List.{flat_map}
use Rattle.std.proofs.lemmas.List.{map-append, take-append-drop, take_more}
use Rattle.std.proofs.lemmas.List.Elements.{filter_map-append}
use Rattle.std.proofs.lemmas.Grind.{flat_map-append}
use Rattle.plain_graph.specs.declared.command.Command.{Command}
use Rattle.plain_graph.specs.declared.command.Command.TheVariants as commands
use Rattle.plain_graph.specs.declared.command.Target.{Target}
use Rattle.plain_graph.specs.declared.item.Item.{Item}
use Rattle.plain_graph.specs.declared.pairs.Pair.{Pair}
use Rattle.plain_graph.specs.Mutations.{changes_of, deletions, elements_of, settings, target_of, vertex_id, vertices_of}
use Rattle.plain_graph.specs.declared.mutation.Mutation.TheVariants as mutations
use Rattle.plain_graph.proofs.Alike.{IsNewEdge, IsOfElement}
use Rattle.plain_graph.proofs.Making.{AreAll}

-- what is asked for of a list in two parts is asked for of each
abbrev pub IsSpread : {X : Type 0} → (List X → List Command) → Type 0
IsSpread {X} of = (xs ys : List X) → of (xs ++ ys) ≡ of xs ++ of ys

pub edges_spread : (label : List ℕ) (to : ℕ) (pairs : List Pair) → IsSpread (changes_of (mutations.AddE label to pairs))
edges_spread label to pairs xs ys =
    ap (map (λ from. commands.Edge from label to pairs)) (filter_map-append vertex_id xs ys)
    ∙ map-append (λ from. commands.Edge from label to pairs) (vertices_of xs) (vertices_of ys)

pub items_spread : (pairs : List Pair) → IsSpread (changes_of (mutations.Property pairs))
items_spread pairs xs ys = ap (flat_map (settings pairs)) (filter_map-append target_of xs ys)
    ∙ flat_map-append (settings pairs) (elements_of xs) (elements_of ys)

pub pairs_spread : (target : Target) → IsSpread (λ (pairs : List Pair). settings pairs target)
pairs_spread target xs ys = map-append (λ (pair : Pair). commands.Set target pair.key pair.value) xs ys

pub deletions_spread : IsSpread deletions
deletions_spread xs ys = map-append commands.Delete xs ys

-- ---- up to a place

module _ {X : Type 0} (of : List X → List Command) (spread : IsSpread of) (xs : List X) (i : ℕ) (any : X) (lt : i < length xs) where
  pub up_to_next : of (take (i + 1) xs) ≡ of (take i xs) ++ of (get_or xs i any ∷ [])
  up_to_next = ap of (take_more xs i any lt) ∙ spread (take i xs) (get_or xs i any ∷ [])

  pub cut_at : xs ≡ take i xs ++ (get_or xs i any ∷ drop (i + 1) xs)
  cut_at =
      let rest : drop i xs ≡ get_or xs i any ∷ drop (i + 1) xs = drop-cons xs i any lt ∙ ap (λ (n : ℕ). get_or xs i any ∷ drop n xs) (sym (add-one i)) in
      sym (take-append-drop i xs) ∙ ap (λ l. take i xs ++ l) rest

  pub all_split : of xs ≡ of (take i xs) ++ (of (get_or xs i any ∷ []) ++ of (drop (i + 1) xs))
  all_split =
      ap of cut_at ∙ spread (take i xs) (get_or xs i any ∷ drop (i + 1) xs) ∙ ap (λ l. of (take i xs) ++ l) (spread (get_or xs i any ∷ []) (drop (i + 1) xs))

-- ---- kinds

all_both : (Is : Command → Type 0) (xs ys : List Command) → AreAll Is xs → AreAll Is ys → AreAll Is (xs ++ ys)
all_both Is [] ys h k = k
all_both Is (x ∷ xs) ys h k = (h.0, all_both Is xs ys h.1 k)

edges_from : (label : List ℕ) (to : ℕ) (pairs : List Pair) (vertices : List ℕ) → AreAll IsNewEdge (map (λ from. commands.Edge from label to pairs) vertices)
edges_from label to pairs [] = tt
edges_from label to pairs (from ∷ later) = (tt, edges_from label to pairs later)

pub edges_all : (label : List ℕ) (to : ℕ) (pairs : List Pair) (results : List Item) → AreAll IsNewEdge (changes_of (mutations.AddE label to pairs) results)
edges_all label to pairs results = edges_from label to pairs (vertices_of results)

settings_all : (pairs : List Pair) (target : Target) → AreAll IsOfElement (settings pairs target)
settings_all [] target = tt
settings_all (pair ∷ later) target = (tt, settings_all later target)

values_all : (pairs : List Pair) (targets : List Target) → AreAll IsOfElement (flat_map (settings pairs) targets)
values_all pairs [] = tt
values_all pairs (target ∷ later) = all_both IsOfElement (settings pairs target) (flat_map (settings pairs) later) (settings_all pairs target)
    (values_all pairs later)

pub items_all : (pairs : List Pair) (results : List Item) → AreAll IsOfElement (changes_of (mutations.Property pairs) results)
items_all pairs results = values_all pairs (elements_of results)

pub deletions_all : (targets : List Target) → AreAll IsOfElement (deletions targets)
deletions_all [] = tt
deletions_all (target ∷ later) = (tt, deletions_all later)
