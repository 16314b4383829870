-- What decides whether an item passes a filter, and what it costs.
use Rattle.std.proofs.Common.{◌≡◌, ◌≢◌, ℕ, true, Option, None, Some, List, refl, ap}
use Rattle.std.specs.FinMap as maps
use Rattle.plain_graph.specs.Graph.{Graph}
use Rattle.plain_graph.specs.Meaning.{is_some_and, label_of, passes, properties_of}
use Rattle.plain_graph.specs.Values.{is_related}
use Rattle.plain_graph.specs.declared.filter.Filter.{Filter}
use Rattle.plain_graph.specs.declared.filter.Filter.TheVariants as filters
use Rattle.plain_graph.specs.declared.item.Item.{Item}
use Rattle.store_rules.specs.Views.{Records}
use Rattle.traversal_run.specs.Lookups.{passes_label, passes_value, asked_key}
use Rattle.traversal_run.specs.NumberedFilter.{HasNumber, HasNumbers}
use Rattle.traversal_run.specs.Owing.{filter_reads, key_reads}

same_key : (own key : List ℕ) → Some own ≡ Some key → key ≡ own
same_key own key is = cc

-- the value of the key decides
pub met-passes : (test : Filter) (key : List ℕ) → asked_key test ≡ Some key → (graph : Graph) (item : Item)
    → passes_value test (maps.get (properties_of graph item) key) ≡ passes graph test item
met-passes (filters.Has own) key is graph item =
    ap (λ (k : List ℕ). is_some_and (maps.get (properties_of graph item) k) (λ value. true)) (same_key own key is)
met-passes (filters.HasValue own relation written) key is graph item =
    ap (λ (k : List ℕ). is_some_and (maps.get (properties_of graph item) k) (λ value. is_related relation value written)) (same_key own key is)
met-passes (filters.HasLabel labels) key is graph item = absurd cc

pub met-reads : (test : Filter) (key : List ℕ) → asked_key test ≡ Some key → key_reads ≡ filter_reads test
met-reads (filters.Has own) key is = refl
met-reads (filters.HasValue own relation written) key is = refl
met-reads (filters.HasLabel labels) key is = absurd cc

-- the label decides
pub labelled-passes : (test : Filter) → asked_key test ≡ None → (graph : Graph) (item : Item) → passes_label test (label_of graph item) ≡ passes graph test item
labelled-passes (filters.Has own) is graph item = absurd cc
labelled-passes (filters.HasValue own relation written) is graph item = absurd cc
labelled-passes (filters.HasLabel labels) is graph item = refl

pub labelled-reads : (test : Filter) → asked_key test ≡ None → 1 ≡ filter_reads test
labelled-reads (filters.Has own) is = absurd cc
labelled-reads (filters.HasValue own relation written) is = absurd cc
labelled-reads (filters.HasLabel labels) is = refl

-- ---- numbers of names

-- a filter that isn't on labels has a key
pub some_key : (test : Filter) → ((labels : List (List ℕ)) → test ≢ filters.HasLabel labels) → (key : List ℕ) × (asked_key test ≡ Some key)
some_key (filters.Has key) other = (key, refl)
some_key (filters.HasValue key relation written) other = (key, refl)
some_key (filters.HasLabel labels) other = absurd (other labels refl)

pub numbered_key : (records : Records) (test : Filter) (number : Option ℕ) (labels : List ℕ) (key : List ℕ) → HasNumbers records test number labels
    → asked_key test ≡ Some key → HasNumber records number key
numbered_key records (filters.Has own) number labels key has is = rw (same_key own key is) has
numbered_key records (filters.HasValue own relation written) number labels key has is = rw (same_key own key is) has
numbered_key records (filters.HasLabel texts) number labels key has is = absurd cc
