-- What a lookup says of the numbers of two names, of the names.
use Rattle.std.proofs.Common.{◌≡◌, ◌<◌, ◌∙◌, ℕ, None, Some, Result, Ok, Err, IfErr, IfOk, OnOk, List, Vec, map, false}
use Rattle.std.proofs.Common.{true, true≢false, sym, ap, subst, inl, inr}
use Rattle.std.proofs.lemmas.Bool.{eqb-true}
use Rattle.std.proofs.lemmas.Cmp.{nat_eq_equiv}
use Rattle.plain_graph.specs.Indexes.{has_index, scan}
use Rattle.plain_graph.specs.Meaning.{meaning}
use Rattle.plain_graph.specs.Values.{is_text}
use Rattle.plain_graph.specs.declared.item.Item.TheVariants as items
use Rattle.plain_graph.specs.declared.value.Value.{Value}
use Rattle.std.specs.declared.alloc.Global.{Global}
use Rattle.rec_bytes.specs.Space.{State}
use Rattle.rec_bytes.specs.declared.shape.Shape.{Shape}
use Rattle.store_rules.specs.Chains.{In, IsWalk}
use Rattle.store_rules.specs.Graph.{graph_of}
use Rattle.store_rules.specs.Indexes.{IsIndexed, first_definition, indexed_key, indexed_label, next_definition}
use Rattle.store_rules.specs.Views.{Records}
use Rattle.store_rules.proofs.PropertyWalks.{walk_is}
use Rattle.prop_index.specs.Finding.{IsPair}
use Rattle.prop_index.specs.Looking.{IsRefusal, IsUnlisted, ReadsForEither, ReadsForLookup, ReadsForRefusal, nodes_having, nodes_in}
use Rattle.prop_index.specs.declared.lookup_fault.LookupFault.{LookupFault}
use Rattle.prop_index.specs.declared.lookup_fault.LookupFault.TheVariants as faults
use Rattle.traversal_run.specs.Naming.{FindsName, name_at, name_count}
use Rattle.traversal_run.proofs.NamesKnown.{is_text-itself, is_text-same}
use Rattle.traversal_run.specs.FoundNodes.{IsIndexRefusal}
use Rattle.traversal_run.proofs.FoundNodes.{scan-having}
use Rattle.traversal_run.proofs.ListedIndexes.{has_defined, none_listed}

-- ---- what a result says

pub ok-then : {T E : Type 0} {P Q : T → Type 0} (result : Result T E) → ((value : T) → P value → Q value) → IfOk result P → IfOk result Q
ok-then (Ok value) more holds = more value holds
ok-then (Err fault) more holds = tt

pub ok-anyway : {T E : Type 0} {P Q : Type 0} (result : Result T E) → (P → Q) → OnOk result P → IfOk result (λ value. Q)
ok-anyway (Ok value) more holds = more holds
ok-anyway (Err fault) more holds = tt

pub err-then : {T E : Type 0} {P Q : E → Type 0} (result : Result T E) → ((fault : E) → P fault → Q fault) → IfErr result P → IfErr result Q
err-then (Ok value) more holds = tt
err-then (Err fault) more holds = more fault holds

-- whatever a lookup answers, it reads no more than one
pub looked-reads : (l k : ℕ) (value : Value) (s t : State) (result : Result (Vec ℕ Global) LookupFault) → OnOk result (ReadsForLookup l k value s t)
    → IfErr result (ReadsForRefusal l k value s t) → ReadsForEither l k value s t
looked-reads l k value s t (Ok nodes) found refused = inl found
looked-reads l k value s t (Err faults.NoIndex) found refused = inr refused
looked-reads l k value s t (Err faults.Memory) found refused = refused
looked-reads l k value s t (Err faults.Disk) found refused = refused
looked-reads l k value s t (Err (faults.Damaged damage)) found refused = refused

-- ---- numbers of names

-- a number that was found is that of the text
pub found-text : (s : Records) (text : List ℕ) (n : ℕ) → FindsName s (Some n) text → n < name_count s → text ≡ name_at s n
found-text s text n finds low = is_text-same text (name_at s n) (sym (finds n low) ∙ nat_eq_equiv.refl n)

-- a name with the text
turned : (s : Records) (text : List ℕ) (n : ℕ) → is_text (name_at s n) text ≡ true → is_text text (name_at s n) ≡ true
turned s text n is = subst (λ t. is_text text t ≡ true) (sym (is_text-same (name_at s n) text is)) (is_text-itself text)

-- has the number that was found
text-found : (s : Records) (text : List ℕ) (found n : ℕ) → FindsName s (Some found) text → n < name_count s → is_text (name_at s n) text ≡ true → n ≡ found
text-found s text found n finds low is = eqb-true n found (finds n low ∙ turned s text n is)

-- and there is none where none was found
text-unfound : (s : Records) (text : List ℕ) (n : ℕ) → FindsName s None text → n < name_count s → is_text (name_at s n) text ≡ true → ⊥
text-unfound s text n finds low is = true≢false (sym (finds n low ∙ turned s text n is))

module _ (s : Records) (shape : Shape) (store : IsIndexed s shape) (label key : List ℕ) where
  -- a text that is no name has no index
  pub no-label : FindsName s None label → has_index (graph_of s) label key ≡ false
  no-label finds = none_listed s shape store label key (λ has. text-unfound s label (indexed_label s has.definition) finds has.label_low has.label_is)

  pub no-key : FindsName s None key → has_index (graph_of s) label key ≡ false
  no-key finds = none_listed s shape store label key (λ has. text-unfound s key (indexed_key s has.definition) finds has.key_low has.key_is)

  module _ (l k : ℕ) (label_is : FindsName s (Some l) label) (key_is : FindsName s (Some k) key) where
    no-pair : IsUnlisted s l k → has_index (graph_of s) label key ≡ false
    no-pair unlisted = none_listed s shape store label key (λ has.
        unlisted store.indexes.definitions store.indexes.walk has.definition has.listed (
          text-found s label l (indexed_label s has.definition) label_is has.label_low has.label_is,
          text-found s key k (indexed_key s has.definition) key_is has.key_low has.key_is,
        ))

    -- why no nodes are found
    pub refused-index : (fault : LookupFault) → IsRefusal s l k fault → IsIndexRefusal (graph_of s) label key fault
    refused-index faults.NoIndex unlisted = no-pair unlisted
    refused-index faults.Memory refused = refused
    refused-index faults.Disk refused = refused
    refused-index (faults.Damaged damage) refused = refused

    module _ (label_low : l < name_count s) (key_low : k < name_count s) where
      own_label : label ≡ name_at s l
      own_label = found-text s label l label_is label_low

      own_key : key ≡ name_at s k
      own_key = found-text s key k key_is key_low

      -- the nodes are those of the query
      pub found-meaning : (value : Value) (nodes : List ℕ) → nodes ≡ nodes_in s l k value → map items.Vertex nodes ≡ meaning (graph_of s) (scan label key value)
      found-meaning value nodes is =
          ap (map items.Vertex) (is ∙ (λ i. nodes_having (graph_of s) (sym own_label i) (sym own_key i) value)) ∙ sym (scan-having s label key value)

      -- the index is one of the graph
      pub found-index : (ds : List ℕ) → IsWalk (next_definition s) (first_definition s) ds → (d : ℕ) → In d ds → IsPair s l k d
          → has_index (graph_of s) label key ≡ true
      found-index ds walked d i pair =
          (λ j. has_index (graph_of s) (own_label j) (own_key j))
          ∙ has_defined s shape store l k d label_low key_low (subst (λ (xs : List ℕ). In d xs) (walk_is (next_definition s) (first_definition s)
          ds store.indexes.definitions walked store.indexes.walk) i) pair
