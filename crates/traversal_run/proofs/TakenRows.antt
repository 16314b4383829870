-- The rows of the first of some keys, and what is made of rows.
use Rattle.std.proofs.Common.{◌≡◌, ◌≢◌, ◌∙◌, ◌++◌, ◌∷◌, [], ℕ, ◌+◌, ◌<◌, ◌≤◌, Option, None, Some, List, length, ap, map, sym, take, get_or, refl}
use Rattle.std.specs.FinMap as maps
use Rattle.std.specs.List.{cons_option, filter_map}
use Rattle.std.specs.Option.{option_map}
use Rattle.std.proofs.lemmas.List.{take_all, take_more}
use Rattle.std.proofs.lemmas.List.Elements.{filter_map-append}
use Rattle.std.proofs.lemmas.Simd.{map-map}
use Rattle.plain_graph.specs.ElementMaps.{pair_at, pair_of, pairs_of}
use Rattle.plain_graph.specs.Graph.{Graph}
use Rattle.plain_graph.specs.Meaning.{properties_of, texts_once}
use Rattle.plain_graph.specs.Properties.{Properties}
use Rattle.plain_graph.specs.declared.item.Item.{Item}
use Rattle.plain_graph.specs.declared.item.Item.TheVariants as items
use Rattle.plain_graph.specs.declared.value.Value.{Value}
use Rattle.traversal_run.specs.KeyValues.{entries_of, entry_at, entry_item}
use Rattle.traversal_run.specs.Mapping.{distinct_values}

-- the rows of so many keys
abbrev pub first_rows : Properties → List (List ℕ) → ℕ → List (List ℕ × Value)
first_rows properties keys n = filter_map (entry_at properties) (take n keys)

-- a key with its value, where there is one
abbrev pub row_if : List ℕ → Option Value → List (List ℕ × Value)
row_if key None = []
row_if key (Some value) = (key, value) ∷ []

-- one key more
pub more_rows : (properties : Properties) (keys : List (List ℕ)) (i : ℕ) (key : List ℕ) (value : Option Value) → i < length keys → key ≡ get_or keys i key
    → value ≡ maps.get properties key
    → first_rows properties keys i ++ row_if key value ≡ first_rows properties keys (i + 1)
more_rows properties keys i key value lt at is = sym (
    ap (filter_map (entry_at properties)) (take_more keys i key lt ∙ ap (λ k. take i keys ++ k ∷ []) (sym at))
    ∙ filter_map-append (entry_at properties) (take i keys) (key ∷ [])
    ∙ ap (λ list. first_rows properties keys i ++ list) (ap (λ (o : Option Value). cons_option (option_map (λ value. (key, value)) o) []) (sym is) ∙ by value))
  where
    by : (o : Option Value) → cons_option (option_map (λ value. (key, value)) o) [] ≡ row_if key o
    by None = refl
    by (Some v) = refl

-- all keys
pub whole_rows : (properties : Properties) (keys : List (List ℕ)) (i : ℕ) → length keys ≤ i
    → first_rows properties keys i ≡ filter_map (entry_at properties) keys
whole_rows properties keys i all = ap (filter_map (entry_at properties)) (take_all i keys all)

-- where some key is written
pub entries-some : (properties : Properties) (keys : List (List ℕ)) → keys ≢ [] → filter_map (entry_at properties) keys ≡ entries_of properties keys
entries-some properties [] some = absurd (some refl)
entries-some properties (key ∷ keys) some = refl

-- what is made of rows is made of what was found
made_of : {A B C : Type 0} (f : A → Option B) (g : B → C) (h : A → Option C) → ((a : A) → h a ≡ option_map g (f a)) → (xs : List A)
    → map g (filter_map f xs) ≡ filter_map h xs
made_of f g h same [] = refl
made_of {B = B} f g h same (x ∷ xs) = by (f x) ∙ ap (λ (o : Option _). cons_option o (map g (filter_map f xs))) (sym (same x))
    ∙ ap (cons_option (h x)) (made_of f g h same xs)
  where
    by : (o : Option B) → map g (cons_option o (filter_map f xs)) ≡ cons_option (option_map g o) (map g (filter_map f xs))
    by None = refl
    by (Some b) = refl

-- the pairs of rows
pub pairs-rows : (properties : Properties) (keys : List (List ℕ)) → map pair_of (entries_of properties (texts_once [] keys)) ≡ pairs_of properties keys
pairs-rows properties [] = refl
pairs-rows properties (key ∷ keys) = made_of (entry_at properties) pair_of (pair_at properties) (λ k. by k (maps.get properties k)) (texts_once [] (key ∷ keys))
  where
    by : (k : List ℕ) (o : Option Value) → option_map (λ value. pair_of (k, value)) o ≡ option_map pair_of (option_map (λ value. (k, value)) o)
    by k None = refl
    by k (Some v) = refl

-- the values of rows
pub values-rows : (graph : Graph) (keys : List (List ℕ)) (item : Item) → map entry_item (entries_of (properties_of graph item) keys) ≡ distinct_values graph
    keys item
values-rows graph [] item = sym (map-map items.Value (λ (e : List ℕ × Value). e.1) (maps.entries (properties_of graph item)))
values-rows graph (key ∷ keys) item =
    made_of (entry_at (properties_of graph item)) entry_item shown (λ k. sym (by k (maps.get (properties_of graph item) k))) (key ∷ keys)
    ∙ sym (made_of (maps.get (properties_of graph item)) items.Value shown (λ k. refl) (key ∷ keys))
  where
    shown : List ℕ → Option Item
    shown k = option_map items.Value (maps.get (properties_of graph item) k)

    by : (k : List ℕ) (o : Option Value) → option_map entry_item (option_map (λ value. (k, value)) o) ≡ option_map items.Value o
    by k None = refl
    by k (Some v) = refl
