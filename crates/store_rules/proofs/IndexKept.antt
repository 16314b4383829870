-- A store with indexes stays one where a change leaves their file and what the nodes have.
use Rattle.std.proofs.Common.{◌≡◌, ◌≢◌, ⊎_elim, ℕ, nat_eq, Bool, true, false, cond, Option, None, Some, List, ap, sym, ◌∙◌, subst, arith, refl}
use Rattle.rec_bytes.specs.declared.record.Rec.{Rec}
use Rattle.rec_bytes.specs.declared.shape.Shape.{Shape}
use Rattle.rec_bytes.specs.Format as format
use Rattle.rec_bytes.specs.Record.{field}
use Rattle.store_rules.specs.Indexes.{AreIndexed, has_hash, listed_from, node_value, row_value, value_in, wanted_in}
use Rattle.store_rules.specs.Properties.{Property, PropertyRecords, followed, property_records}
use Rattle.store_rules.specs.PropertyChange.{ChangesProperties}
use Rattle.store_rules.specs.RuleList.{IsSameFile}
use Rattle.store_rules.specs.Views.{NodeRow, Records, kind_at, node_at, node_in, rec_at, row_if}
use Rattle.store_rules.proofs.Changes as ch
use Rattle.store_rules.proofs.Changes.{IsChanged}
use Rattle.store_rules.proofs.EdgeChange as ec
use Rattle.store_rules.proofs.EdgeChange.{IsEdgeChange}
use Rattle.store_rules.proofs.IndexStays.{indexes_stay, wanted_same}
use Rattle.store_rules.proofs.Made.{IsMade}
use Rattle.store_rules.proofs.NodeChange as nc
use Rattle.store_rules.proofs.NodeMade.{IsNewNode}
use Rattle.store_rules.proofs.NumberLaws.{nat_cases}
use Rattle.store_rules.proofs.PropertyFrames as fr
use Rattle.store_rules.proofs.ViewLaws.{row_none}

-- ---- the file of the index stays

-- where a record of another file changed
pub changed_index : (s t : Records) (file id : ℕ) → IsChanged s t file id → file ≢ format.index_file → IsSameFile s t format.index_file
changed_index s t file id change other = record {
  records = ch.file_same s t file id change format.index_file refl (λ e. other (sym e));
  meta = ch.other_meta s t file id change format.index_file (λ e. other (sym e));
}

-- where properties of an element changed
pub properties_index : (s t : Records) (shape : Shape) (file x : ℕ) (old new : List Property) → ChangesProperties s t shape file x old new
    → IsSameFile s t format.index_file
properties_index s t shape file x old new h = fr.index_same s t shape file x old new h

-- ---- the rule of the indexes stays

-- a relationship that came or went
pub edge_indexed : (s t : Records) (id : ℕ) → IsEdgeChange s t id → AreIndexed s (wanted_in s) → AreIndexed t (wanted_in t)
edge_indexed s t id change ix = indexes_stay s t (ec.index_same s t id change) (wanted_in t)
    (subst (AreIndexed s) (sym (wanted_same s t (ec.nodes_same s t id change) (ec.files_stay s t id change))) ix)

-- a record of a file that no value is read of
pub changed_indexed : (s t : Records) (file id : ℕ) → IsChanged s t file id → file ≢ format.index_file → node_at t ≡ node_at s
    → property_records t ≡ property_records s → AreIndexed s (wanted_in s) → AreIndexed t (wanted_in t)
changed_indexed s t file id change other nodes files ix = indexes_stay s t (changed_index s t file id change other) (wanted_in t)
    (subst (AreIndexed s) (sym (wanted_same s t nodes files)) ix)

-- ---- nodes that come and go have no value

-- no properties are read from none
value_none : (files : PropertyRecords) (label key : ℕ) (o : Option NodeRow) → ((row : NodeRow) → o ≡ Some row → row.property ≡ format.nil)
    → row_value files label key o ≡ None
unfolding followed
value_none files label key None bare = refl
value_none files label key (Some row) bare = ap (λ first. cond (nat_eq row.label label) (value_in (listed_from files first) key) None) (bare row refl)
    ∙ by (nat_eq row.label label)
  where
    by : (b : Bool) → cond b (value_in (listed_from files format.nil) key) None ≡ None
    by true = refl
    by false = refl

module _ (s t : Records) (id : ℕ) (change : IsChanged s t format.nodes_file id) (before : (row : NodeRow) → node_at s id ≡ Some row → row.property ≡ format.nil)
    (after : (row : NodeRow) → node_at t id ≡ Some row → row.property ≡ format.nil) where
  -- every value is as it was
  wanted_bare : wanted_in t ≡ wanted_in s
  wanted_bare = λ i e. has_hash e.hash (value e.label e.key e.node i)
    where
      value : (label key n : ℕ) → node_value t label key n ≡ node_value s label key n
      value label key n = (λ i. row_value (nc.files_stay s t id change i) label key (node_at t n)) ∙ ⊎_elim
          (λ (here : n ≡ id). let none = value_none (property_records s) label key in
          ap (λ m. row_value (property_records s) label key (node_at t m)) here ∙ none (node_at t id) after ∙ sym (none (node_at s id) before)
          ∙ sym (ap (λ m. row_value (property_records s) label key (node_at s m)) here))
          (λ (other : n ≢ id). ap (row_value (property_records s) label key) (nc.node_other s t id change n other))
          (nat_cases n id)

  pub bare_indexed : AreIndexed s (wanted_in s) → AreIndexed t (wanted_in t)
  bare_indexed ix = indexes_stay s t (changed_index s t format.nodes_file id change (λ e. omega arith)) (wanted_in t)
      (subst (AreIndexed s) (sym wanted_bare) ix)

-- a new node
pub made_indexed : (s t : Records) (shape : Shape) (id number : ℕ) (rec : Rec) → IsMade s t shape format.nodes_file id rec → IsNewNode rec number
    → AreIndexed s (wanted_in s) → AreIndexed t (wanted_in t)
made_indexed s t shape id number rec made new = bare_indexed s t id made.change
    (λ row is. absurd (none_some row (sym (row_none (kind_at s format.nodes_file id) (node_in (rec_at s format.nodes_file id) id) made.fresh) ∙ is)))
    (λ row is. bare row (kind_at t format.nodes_file id) is)
  where
    none_some : (row : NodeRow) → None ≡ Some row → ⊥
    none_some row e = absurd cc

    first : field 4 (rec_at t format.nodes_file id) format.node_first_property ≡ format.nil
    first = ap (λ r. field 4 r format.node_first_property) made.here ∙ new.property

    bare : (row : NodeRow) (kind : ℕ) → row_if kind (node_in (rec_at t format.nodes_file id) id) ≡ Some row → row.property ≡ format.nil
    bare row kind is = by (nat_eq kind 0) is
      where
        by : (b : Bool) → cond b None (Some (node_in (rec_at t format.nodes_file id) id)) ≡ Some row → row.property ≡ format.nil
        by true e = absurd cc
        by false e = same (node_in (rec_at t format.nodes_file id) id) row e first
          where
            same : (a b : NodeRow) → Some a ≡ Some b → a.property ≡ format.nil → b.property ≡ format.nil
            same a b e p = cc
