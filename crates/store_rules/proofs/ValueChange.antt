-- What the indexes are to have, where the properties of one element changed.
use Rattle.std.proofs.Common.{◌≡◌, ◌≢◌, ◌⊎◌, ⊎_elim, inl, inr, ℕ, nat_eq, cond, Option, None, Some, List, ap, sym, ◌∙◌, subst, refl, arith}
use Rattle.plain_graph.specs.declared.value.Value.{Value}
use Rattle.rec_bytes.specs.declared.shape.Shape.{Shape}
use Rattle.rec_bytes.specs.Format as format
use Rattle.rec_bytes.specs.Record.{field}
use Rattle.store_rules.specs.IndexChange.{ChangesValue}
use Rattle.store_rules.specs.Indexes.{has_hash, listed_from, node_value, row_value, value_in, wanted_in}
use Rattle.store_rules.specs.Properties.{Property, PropertyRecords, property_records}
use Rattle.store_rules.specs.PropertyChange.{ChangesProperties, property_from}
use Rattle.store_rules.specs.Rules.{KeepsRules, node_first}
use Rattle.store_rules.specs.Views.{NodeRow, Records, kind_at, node_at, node_in, rec_at}
use Rattle.store_rules.proofs.NumberLaws.{eq_false, eq_true, nat_cases}
use Rattle.store_rules.proofs.PropertyFrames as fr
use Rattle.store_rules.proofs.PropertyLists as lists
use Rattle.store_rules.proofs.PropertyLists.{owner_in, owner_in-used, properties_read}
use Rattle.store_rules.proofs.PropertyStays.{properties_stay}
use Rattle.store_rules.proofs.ViewLaws.{row_some}

-- the value of a key at a node in use
own_value : (s : Records) (x : ℕ) (es : List Property) → kind_at s format.nodes_file x ≢ format.free_kind
    → listed_from (property_records s) (property_from s format.nodes_file x) ≡ es → (label key : ℕ)
    → node_value s label key x ≡ cond (nat_eq (field 4 (rec_at s format.nodes_file x) format.node_label) label) (value_in es key) None
own_value s x es used is label key = ap (row_value (property_records s) label key)
    (row_some (kind_at s format.nodes_file x) (node_in (rec_at s format.nodes_file x) x) used)
    ∙ ap (λ ps. cond (nat_eq (field 4 (rec_at s format.nodes_file x) format.node_label) label) (value_in ps key) None) is

module _ (s t : Records) (shape : Shape) (file x : ℕ) (old new : List Property) (h : ChangesProperties s t shape file x old new) {most : ℕ} {empty : List ℕ}
    (well : KeepsRules s shape most empty) where
  abbrev was : PropertyRecords
  was = property_records s

  abbrev now : PropertyRecords
  now = property_records t

  -- the properties of another node stay
  listed_other : (y first : ℕ) → (format.nodes_file ≡ file → y ≢ x) → owner_in s format.nodes_file y ≡ Some first
      → listed_from now first ≡ listed_from was first
  listed_other y first ne owned =
      let es = lists.listed s shape well format.nodes_file y in
      let are = lists.properties_right s shape well format.nodes_file y first owned in
      let mine = owner_in-used s file x h.element h.used in
      let stay = properties_stay was now first es
      (λ p i. (h.properties.kept p (lists.property_live s shape well format.nodes_file y first es owned are p i)
      (λ o. let k = lists.property_owned_once s shape well format.nodes_file y first file x (property_from s file x) es old owned mine are h.was p i o in ne k.0
      k.1)).1)
      (λ b i. (h.strings.kept b (lists.block_live s shape well format.nodes_file y first es owned are b i)
      (λ o. let k = lists.block_owned_once s shape well format.nodes_file y first file x (property_from s file x) es old owned mine are h.was b i o in ne k.0
      k.1)).1) are in
      properties_read now first es stay ∙ sym (properties_read was first es are)

  -- so its values do
  value_other : (label key y : ℕ) → (format.nodes_file ≡ file → y ≢ x) → node_value t label key y ≡ node_value s label key y
  value_other label key y ne = ap (row_value now label key) (fr.node_other s t shape file x old new h y ne)
      ∙ on (node_at s y) (λ row e. listed_other y row.property ne (ap node_first e))
    where
      on : (o : Option NodeRow) → ((row : NodeRow) → o ≡ Some row → listed_from now row.property ≡ listed_from was row.property)
          → row_value now label key o ≡ row_value was label key o
      on None same = refl
      on (Some row) same = ap (λ ps. cond (nat_eq row.label label) (value_in ps key) None) (same row refl)

  -- Where the element is a relationship no value of a node changed.
  pub wanted_stays : file ≡ format.relationships_file → wanted_in t ≡ wanted_in s
  wanted_stays e = λ i w. has_hash w.hash (value_other w.label w.key w.node (λ k. absurd (omega (arith, e, k))) i)

  -- ---- the element is a node
  module _ (node : file ≡ format.nodes_file) where
    -- the label of the node
    abbrev label : ℕ
    label = field 4 (rec_at s format.nodes_file x) format.node_label

    -- before it had the values of the old properties
    pub value_was : (l k : ℕ) → node_value s l k x ≡ cond (nat_eq label l) (value_in old k) None
    value_was l k = own_value s x old (subst (λ f. kind_at s f x ≢ format.free_kind) node h.used)
        (ap (λ f. listed_from was (property_from s f x)) (sym node) ∙ properties_read was (property_from s file x) old h.was) l k

    -- and now it has those of the new ones
    pub value_now : (l k : ℕ) → node_value t l k x ≡ cond (nat_eq label l) (value_in new k) None
    value_now l k = own_value t x new (subst (λ f. kind_at t f x ≢ format.free_kind) node (fr.used_now s t shape file x old new h))
        (ap (λ f. listed_from now (property_from t f x)) (sym node) ∙ properties_read now (property_from t file x) new h.now) l k
        ∙ ap (λ n. cond (nat_eq n l) (value_in new k) None) (fr.node_field s t shape file x old new h x format.node_label (inl (omega arith)) (omega arith))

    -- Values of other nodes stay.
    pub value_elsewhere : (l k y : ℕ) → y ≢ x → node_value t l k y ≡ node_value s l k y
    value_elsewhere l k y ne = value_other l k y (λ _. ne)

    -- Where one key has another value than before, and no other key has, one value of a node changed.
    pub changes_value : (key : ℕ) → ((k : ℕ) → k ≢ key → value_in new k ≡ value_in old k) → ChangesValue s t label key x (value_in old key) (value_in new key)
    changes_value key same = record {
      was = value_was label key ∙ here (value_in old key);
      now = value_now label key ∙ here (value_in new key);
      others = λ l k y apart. ⊎_elim
          (λ (e : y ≡ x). subst (λ z. node_value t l k z ≡ node_value s l k z) (sym e) (value_now l k ∙ own l k y e apart ∙ sym (value_was l k)))
          (λ (ne : y ≢ x). value_elsewhere l k y ne) (nat_cases y x);
    }
      where
        here : (v : Option Value) → cond (nat_eq label label) v None ≡ v
        here v = ap (λ b. cond b v None) (eq_true label label refl)

        own : (l k y : ℕ) → y ≡ x → (l ≢ label) ⊎ ((k ≢ key) ⊎ (y ≢ x))
            → cond (nat_eq label l) (value_in new k) None ≡ cond (nat_eq label l) (value_in old k) None
        own l k y e (inl ne) = rw (eq_false label l (λ q. ne (sym q))) refl
        own l k y e (inr (inl ne)) = ap (λ v. cond (nat_eq label l) v None) (same k ne)
        own l k y e (inr (inr ne)) = absurd (ne e)
