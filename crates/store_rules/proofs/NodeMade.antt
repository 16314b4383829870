-- A new node keeps the rules, and is one more node of the graph.
use Rattle.std.proofs.Common.{List, ◌≡◌, ◌≢◌, ℕ, ◌<◌, nat_eq, false, Option, None, Some, [], length, sym, ap, ◌∙◌, subst, inl, inr, ⊎_elim, arith, refl}
use Rattle.std.specs.List.{list_any}
use Rattle.std.proofs.lemmas.Bool.{true≢false}
use Rattle.plain_graph.specs.Graph.{Node, node_number, with_row}
use Rattle.plain_graph.specs.Properties.{Properties, no_properties}
use Rattle.rec_bytes.specs.declared.record.Rec.{Rec}
use Rattle.rec_bytes.specs.declared.shape.Shape.{Shape}
use Rattle.rec_bytes.specs.Format as format
use Rattle.rec_bytes.specs.Record.{field}
use Rattle.store_rules.specs.Graph.{graph_of, node_from, node_of}
use Rattle.store_rules.specs.Properties.{property_records}
use Rattle.store_rules.specs.Ranges.{Fits}
use Rattle.store_rules.specs.Rules.{AreNamed, GroupHead, HaveProperties, Head, IsEnd, IsListed, KeepsDegrees, KeepsLabels, KeepsProperties, KeepsRules, Owns}
use Rattle.store_rules.specs.Rules.{SparseHead, StandsAt, degree_of, node_first, node_head, property_files, stands_in}
use Rattle.store_rules.specs.Views.{NodeRow, Records, RelRow, degree, group_at, high, kind_at, node_at, node_in, rec_at, rel_at, row_if, text_of}
use Rattle.store_rules.proofs.Changes as ch
use Rattle.store_rules.proofs.Counts.{ids_none}
use Rattle.store_rules.proofs.DefinedStays.{changed_defined}
use Rattle.store_rules.proofs.Frames.{owner_beside_node, properties_bare}
use Rattle.store_rules.proofs.Made.{IsMade}
use Rattle.store_rules.proofs.NodeChange as nc
use Rattle.store_rules.proofs.NumberLaws.{nat_cases, eq_false}
use Rattle.store_rules.proofs.PropertyLists.{properties_from-nil}
use Rattle.store_rules.proofs.RowLaws.{rows_with, fresh_collect}
use Rattle.store_rules.proofs.Untouched as un
use Rattle.store_rules.proofs.ViewLaws.{kind_low, row_none}

-- a sparse node of this label's number, without relationships and properties
pub record IsNewNode (rec : Rec) (number : ℕ) : Type 0 where
  pub kind : field 1 rec format.kind ≡ format.sparse
  pub label : field 4 rec format.node_label ≡ number
  pub first : field 4 rec format.node_first_link ≡ format.nil
  pub property : field 4 rec format.node_first_property ≡ format.nil
  pub degree : field 4 rec format.node_degree ≡ 0
  pub fits : (marks : ℕ → ℕ) → Fits marks format.nodes_file rec

module _ (s t : Records) (shape : Shape) (id number : ℕ) (rec : Rec) (made : IsMade s t shape format.nodes_file id rec) (new : IsNewNode rec number) {most : ℕ}
    {empty : List ℕ} (well : KeepsRules s shape most empty) (known : number < high s format.names_file) where
  kind_new : kind_at t format.nodes_file id ≡ format.sparse
  kind_new = kind_low (high t format.nodes_file) (rec_at t format.nodes_file id) id made.below ∙ ap (λ r. field 1 r format.kind) made.here ∙ new.kind

  -- what was in use is another
  not_new : (n : ℕ) → kind_at s format.nodes_file n ≢ format.free_kind → n ≢ id
  not_new n some e = some (ap (kind_at s format.nodes_file) e ∙ made.fresh)

  kind_other : (n : ℕ) → n ≢ id → kind_at t format.nodes_file n ≡ kind_at s format.nodes_file n
  kind_other = nc.kind_other s t id made.change

  node_old : node_at s id ≡ None
  node_old = row_none (kind_at s format.nodes_file id) (node_in (rec_at s format.nodes_file id) id) made.fresh

  abbrev new_row : NodeRow
  new_row = record { id = id; label = number; property = format.nil }

  node_new : node_at t id ≡ Some new_row
  node_new = ap (λ k. row_if k (node_in (rec_at t format.nodes_file id) id)) kind_new ∙ ap (λ r. Some (node_in r id)) made.here
      ∙ ap (λ l. Some (record { id = id; label = l; property = field 4 rec format.node_first_property })) new.label
      ∙ ap (λ p. Some (record { id = id; label = number; property = p })) new.property

  -- no relationship is at the new node
  no_end : (x : ℕ) (row : RelRow) → rel_at s x ≡ Some row → IsEnd id row → ⊥
  no_end x row e i = let k = well.linked.ends x row e in ⊎_elim (λ (f : row.from ≡ id). k.from (ap (kind_at s format.nodes_file) f ∙ made.fresh))
      (λ (f : row.to ≡ id). k.to (ap (kind_at s format.nodes_file) f ∙ made.fresh)) i

  listed_empty : (h : Head) → h ≡ node_head id → IsListed t h id (StandsAt (rel_at s) (group_at s) h)
  listed_empty h e = subst (λ z. IsListed t z id (StandsAt (rel_at s) (group_at s) z)) (sym e) (record {
    members = [];
    chain = ap (λ r. field 4 r format.node_first_link) made.here ∙ new.first;
    only = λ x i. elim i [ ];
    all = λ x (a : StandsAt (rel_at s) (group_at s) (node_head id) x). absurd
        (⊎_elim (λ (k : (format.nodes_file ≡ format.nodes_file) × IsEnd id a.row). no_end x a.row a.live k.1) (λ k. omega (arith, k.0)) a.on);
  })

  listed : (h : Head) (n : ℕ) → Owns (kind_at t format.nodes_file) (group_at s) h n → IsListed t h n (StandsAt (rel_at s) (group_at s) h)
  listed h n o = ⊎_elim
      (λ (e : n ≡ id). subst (λ m. IsListed t h m (StandsAt (rel_at s) (group_at s) h)) (sym e) (⊎_elim
      (λ (k : SparseHead (kind_at t format.nodes_file) h n). listed_empty h (k.is ∙ ap node_head e))
      (λ (k : GroupHead (kind_at t format.nodes_file) (group_at s) h n). absurd (let p = sym (ap (kind_at t format.nodes_file) e ∙ kind_new) ∙ k.dense in omega
      arith)) o))
      (λ (ne : n ≢ id). nc.listed_other s t id made.change shape well h n o ne) (nat_cases n id)

  dense_old : (n : ℕ) → kind_at t format.nodes_file n ≡ format.dense → n ≢ id
  dense_old n d e = let p = sym (ap (kind_at t format.nodes_file) e ∙ kind_new) ∙ d in omega arith

  properties : KeepsProperties t
  properties = subst (HaveProperties (property_files t) (node_at t) (rel_at t)) (sym (nc.name_mark s t id made.change))
      (un.properties s t format.nodes_file id made.change refl (node_at t) (high s format.names_file)
      (properties_bare (property_files s) (node_at s) (node_at t) (rel_at s) (rel_at s) (high s format.names_file) format.nodes_file id
      (λ first e. absurd (let z : None ≡ Some first = ap node_first (sym node_old) ∙ e in cc))
      (λ first e. let z : Some format.nil ≡ Some first = ap node_first (sym node_new) ∙ e in cc)
      (owner_beside_node (node_at s) (node_at t) (rel_at s) id (nc.node_other s t id made.change)) well.properties))

  named : KeepsLabels t
  named = subst (λ r. AreNamed (node_at t) r (high t format.names_file)) (sym (un.rels_same s t format.nodes_file id made.change refl))
      (subst (λ m. AreNamed (node_at t) (rel_at s) m) (sym (nc.name_mark s t id made.change)) (record {
        nodes_named = λ x row e. ⊎_elim
            (λ (k : x ≡ id). label_of row (subst (λ z. node_at t z ≡ Some row) k e))
            (λ (ne : x ≢ id). well.named.nodes_named x row (sym (nc.node_other s t id made.change x ne) ∙ e)) (nat_cases x id);
        rels_named = well.named.rels_named;
      }))
    where
      label_of : (row : NodeRow) → node_at t id ≡ Some row → row.label < high s format.names_file
      label_of row e = let q = sym node_new ∙ e in subst (λ (r : NodeRow). r.label < high s format.names_file) (inner _ row q) known
        where
          inner : (a b : NodeRow) → Some a ≡ Some b → a ≡ b
          inner a b e = cc

  none_at : (x : ℕ) → stands_in id (rel_at s x) ≡ false
  none_at x = on (rel_at s x) (λ row e. no_end x row e)
    where
      on : (o : Option RelRow) → ((row : RelRow) → o ≡ Some row → IsEnd id row → ⊥) → stands_in id o ≡ false
      on None h = refl
      on (Some row) h = rw (eq_false row.from id (λ e. h row refl (inl e)), eq_false row.to id (λ e. h row refl (inr e))) refl

  degree_new : degree t id ≡ 0
  degree_new = ap (λ r. field 4 r format.node_degree) made.here ∙ new.degree

  degree_other : (n : ℕ) → n ≢ id → degree t n ≡ degree s n
  degree_other n ne = ap (λ r. field 4 r format.node_degree) (nc.record_other s t id made.change n ne)

  degrees : KeepsDegrees t most
  degrees = un.degrees s t format.nodes_file id made.change refl most
      (λ n some. ⊎_elim
      (λ (e : n ≡ id). subst (λ z. degree t z ≡ degree_of (rel_at s) (high s format.relationships_file) z) (sym e)
      (degree_new ∙ sym (ap length (ids_none (λ x. stands_in id (rel_at s x)) (high s format.relationships_file) none_at))))
      (λ (ne : n ≢ id). degree_other n ne ∙ well.degrees.each n (λ z. some (kind_other n ne ∙ z))) (nat_cases n id))
      (λ n d. ⊎_elim
      (λ (e : n ≡ id). let z : degree t n ≡ 0 = ap (degree t) e ∙ degree_new in omega arith)
      (λ (ne : n ≢ id). let z = degree_other n ne in let b = well.degrees.few n (sym (kind_other n ne) ∙ d) in omega arith) (nat_cases n id))

  pub node_well : KeepsRules t shape most empty
  node_well = record {
    ranges = ch.in_range s t format.nodes_file id made.change shape made.meta (λ _. subst (Fits (high t) format.nodes_file) (sym made.here) (new.fits (high t)))
        well.ranges;
    split = ch.split_all s t format.nodes_file id made.change (λ _. (made.free, made.split)) well.split;
    kept = ch.kept_all s t format.nodes_file id made.change (λ e. absurd (true≢false e)) well.kept;
    linked = un.linked s t format.nodes_file id made.change refl (λ x n row e i. kind_other n (λ k. no_end x row e (subst (λ z. IsEnd z row) k i))) listed
        well.linked;
    grouped = un.grouped s t format.nodes_file id made.change refl (λ n g row e o d. kind_other n (not_new n (λ z. let p = sym z ∙ d in omega arith)) ∙ d)
        (λ n d. (sym (kind_other n (dense_old n d)) ∙ d, nc.first_other s t id made.change n (dense_old n d))) well.grouped;
    exact = un.exact s t format.nodes_file id made.change refl well.exact;
    properties = properties;
    named = named;
    defined = changed_defined s t format.nodes_file id made.change (λ e. omega arith) well.defined;
    names = nc.names s t id made.change shape well;
    degrees = degrees;
  }

  -- ---- the graph
  none_before : node_of s id ≡ None
  none_before = ap (node_from (rec_at s format.names_file) (property_records s)) node_old

  pub node_fresh : list_any (λ e. nat_eq (node_number e) id) (graph_of s).nodes ≡ false
  node_fresh = fresh_collect node_number (node_of s) (high s format.nodes_file) id (nc.nodes_numbered s) none_before

  abbrev new_node : Properties → Node
  new_node properties = record { id = id; label = text_of (rec_at s format.names_file number); properties = properties }

  pub node_added : (graph_of t).nodes ≡ with_row node_number (record {
    id = id;
    label = text_of (rec_at s format.names_file number);
    properties = no_properties;
  }) (graph_of s).nodes
  node_added = rows_with node_number (node_of s) (node_of t) (high s format.nodes_file) (high t format.nodes_file) id (new_node no_properties)
      (nc.nodes_numbered s) refl none_before
      (nc.node_text s t id made.change id ∙ ap (node_from (rec_at s format.names_file) (property_records s)) node_new ∙ ap (λ p. Some (new_node p))
      (properties_from-nil (rec_at s format.names_file) (property_records s)))
      (nc.row_other s t id made.change) made.below made.grows
