-- The properties of an item, as those that its owner has in its records.
use Rattle.std.proofs.Common.{◌≡◌, ◌<◌, ℕ, Bool, true, false, cond, nat_eq, None, Some, List, [], ◌∷◌, map, option_map, inl, inr, refl, sym, ap, ◌∙◌, subst}
use Rattle.std.specs.FinMap as maps
use Rattle.std.specs.Cmp.{eq_by_cmp_equiv}
use Rattle.std.specs.Cmp.Lexicographic.{nat_list_cmp_total}
use Rattle.std.specs.Ordering.{eq_by_cmp}
use Rattle.std.proofs.lemmas.Cmp.{nat_eq_equiv}
use borrow.Author.Tests.{eqb-true}
use Rattle.plain_graph.specs.Meaning.{properties_of}
use Rattle.plain_graph.specs.declared.item.Item.{Item}
use Rattle.plain_graph.specs.Properties.{Properties, no_properties}
use Rattle.plain_graph.specs.Values.{is_text}
use Rattle.plain_graph.proofs.PropertyLaws.{order, same_key}
use Rattle.prop_store.specs.Changing.{HasElement}
use Rattle.prop_store.specs.Finding.{property_of, value_of}
use Rattle.prop_store.specs.Reading.{ReadsAtMost, prop_of}
use Rattle.prop_store.specs.declared.prop.Prop.{Prop}
use Rattle.prop_store.specs.Owner.{HasProperties, IsOwner, first_of}
use Rattle.prop_store.specs.declared.owner.Owner.{Owner}
use Rattle.prop_store.proofs.ElementChanges.{has_properties}
use Rattle.prop_store.proofs.ElementGraphs.{listed_at, owns_listed}
use Rattle.prop_store.proofs.OwnerPlaces.{first_of-is}
use Rattle.prop_store.proofs.ReadCounts.{reads_same}
use Rattle.rec_bytes.specs.declared.record.Rec.{Rec}
use Rattle.rec_bytes.specs.Format as format
use Rattle.rec_bytes.specs.declared.shape.Shape.{Shape}
use Rattle.rec_bytes.specs.Space.{SameButReads, State}
use Rattle.store_rules.specs.Chains.{In}
use Rattle.store_rules.specs.Graph.{graph_of}
use Rattle.store_rules.specs.Properties.{AreProperties, Property, keys_of, map_of, named_property, property_records}
use Rattle.store_rules.specs.Rules.{AreNames, IsWellFormed}
use Rattle.store_rules.specs.Views.{Records, rec_at, text_of}
use Rattle.store_rules.proofs.ElementProperties.{properties_at-is}
use Rattle.store_rules.proofs.PropertyMaps.{get-map_of_none}
use Rattle.traversal_run.specs.Elements.{Owns}
use Rattle.traversal_run.specs.KeyValues.{AreRead}
use Rattle.traversal_run.specs.Naming.{FindsName, name_at, name_count}
use Rattle.traversal_run.specs.declared.elements.Owned.{Owned}
use Rattle.traversal_run.proofs.Asked.{same_tests}
use Rattle.traversal_run.proofs.NamesKnown.{is_text-itself, is_text-same}

-- reads after reads
pub then_read : (a b c : State) (n : ℕ) → SameButReads a b → ReadsAtMost n b c → SameButReads a c
then_read a b c n h k = reads_same n b c k ∙ ap (λ (z : State). record z { reads = c.reads }) h

-- The owner's chain, as the records have it now, has these properties, and they are the item's.
pub record HasListed (records now : Records) (item : Item) (owner : Owner) : Type 0 where
  pub es : List Property
  pub has : HasProperties now owner es
  pub known : (key : ℕ) → In key (keys_of es) → key < name_count records
  pub is : properties_of (graph_of records) item ≡ map_of (rec_at records format.names_file) es

-- so it is in a store, after reads
pub listed_in : (s z : State) (item : Item) (owned : Owned) → SameButReads s z → IsWellFormed s.records s.shape → IsOwner owned.owner → Owns s item owned
    → HasListed s.records z.records item owned.owner
listed_in s z item owned same store is owns =
    let owner = owned.owner in
    let has : HasElement s owner = record { store = store; used = owns.used } in
    let es = listed_at s owner is has in
    let listed = owns_listed s owner is has in
    let chain = subst (λ f. AreProperties (property_records s.records) f es) (first_of-is s.records owner is) listed.held.are in
    subst (λ (w : State). HasListed s.records w.records item owner) (sym same) (record {
      es = es;
      has = has_properties s owner es listed;
      known = listed.known;
      is = owns.are ∙ properties_at-is s.records owner.key.file owner.key.id es is.file has.used chain;
    })

-- an owner stays one, after reads
pub owns_read : (s z : State) (item : Item) (owned : Owned) → SameButReads s z → Owns s item owned → Owns z item owned
owns_read s z item owned same owns = subst (λ (w : State). Owns w item owned) (sym same) (record { used = owns.used; are = owns.are; first = owns.first })

-- where the first one is the same
pub first_in : (s z : State) (item : Item) (owned : Owned) → SameButReads s z → Owns s item owned → owned.first ≡ first_of z.records owned.owner
first_in s z item owned same owns = subst (λ (t : State). owned.first ≡ first_of t.records owned.owner) (sym same) owns.first

-- ---- the value of a key

module _ (name_file : ℕ → Rec) (names : ℕ) (named : AreNames name_file names) where
  -- of a name's text is found what has the name's number
  pub find-named : (es : List Property) (key : ℕ) → key < names → ((k : ℕ) → In k (keys_of es) → k < names)
      → maps.find order (text_of (name_file key)) (map (named_property name_file) es) ≡ value_of es key
  find-named [] key low known = refl
  find-named (e ∷ es) key low known =
      let test : eq_by_cmp order (text_of (name_file key)) (text_of (name_file e.key)) ≡ nat_eq e.key key =
      same_tests (eq_by_cmp order (text_of (name_file key)) (text_of (name_file e.key))) (nat_eq e.key key)
      (λ h. subst (λ k. nat_eq k key ≡ true) (named.distinct key e.key low (known e.key (inl refl)) (same_key (text_of (name_file key))
      (text_of (name_file e.key)) h)) (nat_eq_equiv.refl key))
      (λ h. subst (λ k. eq_by_cmp order (text_of (name_file key)) (text_of (name_file k)) ≡ true) (sym (eqb-true e.key key h))
      ((eq_by_cmp_equiv nat_list_cmp_total).refl (text_of (name_file key)))) in
      ap (λ b. cond b (Some e.value) (maps.find order (text_of (name_file key)) (map (named_property name_file) es))) test
      ∙ by (nat_eq e.key key) (find-named es key low (λ k i. known k (inr i)))
    where
      by : (b : Bool) → maps.find order (text_of (name_file key)) (map (named_property name_file) es) ≡ value_of es key
          → cond b (Some e.value) (maps.find order (text_of (name_file key)) (map (named_property name_file) es)) ≡ option_map (λ (d : Property). d.value)
          (cond b (Some e) (property_of es key))
      by true later = refl
      by false later = later

-- properties that a store's element has, as a list and as a map
module _ (records : Records) (shape : Shape) (store : IsWellFormed records shape) (properties : Properties) (es : List Property)
    (known : (key : ℕ) → In key (keys_of es) → key < name_count records) (are : properties ≡ map_of (rec_at records format.names_file) es) (text : List ℕ) where
  -- a name's value is that of its number
  pub value_is : (key : ℕ) → key < name_count records → FindsName records (Some key) text → value_of es key ≡ maps.get properties text
  value_is key low finds =
      let names = rec_at records format.names_file in
      let own : text ≡ name_at records key = is_text-same text (name_at records key) (sym (finds key low) ∙ nat_eq_equiv.refl key) in
      sym (ap (λ m. maps.get m text) are ∙ maps.get-from_entries nat_list_cmp_total (map (named_property names) es) text
      ∙ ap (λ t. maps.find order t (map (named_property names) es)) own ∙ find-named names (name_count records) store.names es key low known)

  -- a text that is no name has none
  pub value_none : FindsName records None text → maps.get properties text ≡ None
  value_none finds =
      let names = rec_at records format.names_file in
      ap (λ m. maps.get m text) are ∙ get-map_of_none names es text (λ k i e. absurd (let no = finds k (known k i) in let yes = subst
      (λ t. is_text text t ≡ true) (sym e) (is_text-itself text) in cc))

-- what was read of an owner are the item's properties
pub are_read : (records now : Records) (item : Item) (owner : Owner) (listed : HasListed records now item owner) (props : List Prop)
    → props ≡ map prop_of listed.es → AreRead records props (properties_of (graph_of records) item)
are_read records now item owner listed props read = record {
  es = listed.es;
  read = read;
  known = listed.known;
  once = listed.has.are.keys_once;
  are = listed.is;
}

pub none_read : (records : Records) (item : Item) (props : List Prop) → props ≡ [] → properties_of (graph_of records) item ≡ no_properties
    → AreRead records props (properties_of (graph_of records) item)
none_read records item props none are = record { es = []; read = none; known = λ k i. elim i [ ]; once = tt; are = are }
