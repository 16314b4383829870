-- A node that goes keeps the rules, and is one node less of the graph.
use Rattle.std.proofs.Common.{List, ◌≡◌, ◌≢◌, ℕ, nat_eq, Bool, true, false, ◌||◌, None, Some, length, sym, ap, ◌∙◌, subst, inl, inr, ⊎_elim, arith, refl}
use Rattle.std.proofs.lemmas.Bool.{true≢false}
use Rattle.plain_graph.specs.Graph.{node_number, without_row}
use Rattle.rec_bytes.specs.declared.shape.Shape.{Shape}
use Rattle.rec_bytes.specs.Format as format
use Rattle.rec_bytes.specs.Record.{field}
use Rattle.store_rules.specs.Graph.{graph_of, node_from, node_of}
use Rattle.store_rules.specs.Properties.{property_records}
use Rattle.store_rules.specs.Rows.{collect, ids}
use Rattle.store_rules.specs.Rules.{AreNamed, HaveProperties, Head, IsEnd, IsListed, KeepsDegrees, KeepsLabels, KeepsProperties, KeepsRules, Owns, StandsAt}
use Rattle.store_rules.specs.Rules.{node_first, property_files, stands_in}
use Rattle.store_rules.specs.Views.{GroupRow, Records, RelRow, degree, group_at, high, kind_at, node_at, node_in, rec_at, rel_at, rel_in}
use Rattle.store_rules.proofs.Changes as ch
use Rattle.store_rules.proofs.Counts.{ids_empty}
use Rattle.store_rules.proofs.DefinedStays.{changed_defined}
use Rattle.store_rules.proofs.Frames.{owner_beside_node, properties_bare}
use Rattle.store_rules.proofs.Made.{IsGone}
use Rattle.store_rules.proofs.NodeChange as nc
use Rattle.store_rules.proofs.NumberLaws.{eq_true}
use Rattle.store_rules.proofs.RowLaws.{collect_without}
use Rattle.store_rules.proofs.Untouched as un
use Rattle.store_rules.proofs.ViewLaws.{kind_below, row_none, row_some, some_row}

-- a node in use, without relationships, groups and properties
pub record IsBare (s : Records) (id : ℕ) : Type 0 where
  pub used : kind_at s format.nodes_file id ≢ format.free_kind
  pub alone : degree s id ≡ 0
  pub bare : field 4 (rec_at s format.nodes_file id) format.node_first_property ≡ format.nil
  pub ungrouped : (g : ℕ) (row : GroupRow) → group_at s g ≡ Some row → row.owner ≢ id

-- a node of degree 0 is no end of a relationship
module _ (s : Records) (shape : Shape) {most : ℕ} {empty : List ℕ} (well : KeepsRules s shape most empty) (id : ℕ)
    (used : kind_at s format.nodes_file id ≢ format.free_kind) (alone : degree s id ≡ 0) where
  none_counted : length (ids (λ x. stands_in id (rel_at s x)) (high s format.relationships_file)) ≡ 0
  none_counted = sym (well.degrees.each id used) ∙ alone

  pub no_end : (x : ℕ) (row : RelRow) → rel_at s x ≡ Some row → IsEnd id row → ⊥
  no_end x row e i =
      let k = some_row (kind_at s format.relationships_file x) (rel_in (rec_at s format.relationships_file x) x) row e in
      let out = ids_empty (λ y. stands_in id (rel_at s y)) (high s format.relationships_file) none_counted x
      (kind_below (high s format.relationships_file) (rec_at s format.relationships_file x) x k.0) in
      absurd (true≢false (sym (ap (stands_in id) e ∙ ⊎_elim (λ (f : row.from ≡ id). rw (eq_true row.from id f) refl) (λ (f : row.to ≡ id). rw
      (eq_true row.to id f) (or_true (nat_eq row.from id))) i) ∙ out))
    where
      or_true : (a : Bool) → (a || true) ≡ true
      or_true true = refl
      or_true false = refl

module _ (s t : Records) (shape : Shape) (id : ℕ) (lost : IsGone s t shape format.nodes_file id) (old : IsBare s id) {most : ℕ} {empty : List ℕ}
    (well : KeepsRules s shape most empty) where
  kind_other : (n : ℕ) → n ≢ id → kind_at t format.nodes_file n ≡ kind_at s format.nodes_file n
  kind_other = nc.kind_other s t id lost.change

  -- what is in use now is another
  other : (n : ℕ) → kind_at t format.nodes_file n ≢ format.free_kind → n ≢ id
  other n some e = some (ap (kind_at t format.nodes_file) e ∙ lost.gone)

  node_gone : node_at t id ≡ None
  node_gone = row_none (kind_at t format.nodes_file id) (node_in (rec_at t format.nodes_file id) id) lost.gone

  node_there : node_at s id ≡ Some (node_in (rec_at s format.nodes_file id) id)
  node_there = row_some (kind_at s format.nodes_file id) (node_in (rec_at s format.nodes_file id) id) old.used

  used_by : (h : Head) (n : ℕ) → Owns (kind_at t format.nodes_file) (group_at s) h n → kind_at t format.nodes_file n ≢ format.free_kind
  used_by h n (inl k) z = let p = sym z ∙ k.sparse in omega arith
  used_by h n (inr k) z = let p = sym z ∙ k.dense in omega arith

  listed : (h : Head) (n : ℕ) → Owns (kind_at t format.nodes_file) (group_at s) h n → IsListed t h n (StandsAt (rel_at s) (group_at s) h)
  listed h n o = nc.listed_other s t id lost.change shape well h n o (other n (used_by h n o))

  dense_new : (n : ℕ) → kind_at t format.nodes_file n ≡ format.dense → n ≢ id
  dense_new n d = other n (λ z. let p = sym z ∙ d in omega arith)

  properties : KeepsProperties t
  properties = subst (HaveProperties (property_files t) (node_at t) (rel_at t)) (sym (nc.name_mark s t id lost.change))
      (un.properties s t format.nodes_file id lost.change refl (node_at t) (high s format.names_file)
      (properties_bare (property_files s) (node_at s) (node_at t) (rel_at s) (rel_at s) (high s format.names_file) format.nodes_file id
      (λ first e. inner first old.bare (ap node_first (sym node_there) ∙ e))
      (λ first e. absurd (let z : None ≡ Some first = ap node_first (sym node_gone) ∙ e in cc))
      (owner_beside_node (node_at s) (node_at t) (rel_at s) id (nc.node_other s t id lost.change)) well.properties))
    where
      inner : {a : ℕ} (b : ℕ) → a ≡ format.nil → Some a ≡ Some b → b ≡ format.nil
      inner b e q = cc

  named : KeepsLabels t
  named = subst (λ r. AreNamed (node_at t) r (high t format.names_file)) (sym (un.rels_same s t format.nodes_file id lost.change refl))
      (subst (λ m. AreNamed (node_at t) (rel_at s) m) (sym (nc.name_mark s t id lost.change)) (record {
        nodes_named = λ x row e. well.named.nodes_named x row (sym (nc.node_other s t id lost.change x (λ k. absurd (let z : None ≡ Some row = sym node_gone
            ∙ ap (node_at t) (sym k) ∙ e in cc))) ∙ e);
        rels_named = well.named.rels_named;
      }))

  degree_other : (n : ℕ) → n ≢ id → degree t n ≡ degree s n
  degree_other n ne = ap (λ r. field 4 r format.node_degree) (nc.record_other s t id lost.change n ne)

  degrees : KeepsDegrees t most
  degrees = un.degrees s t format.nodes_file id lost.change refl most
      (λ n some. let ne = other n some in degree_other n ne ∙ well.degrees.each n (λ z. some (kind_other n ne ∙ z)))
      (λ n d. let ne = other n (λ z. let p = sym z ∙ d in omega arith) in let z = degree_other n ne in let b = well.degrees.few n (sym (kind_other n ne) ∙ d) in
      omega arith)

  pub gone_well : KeepsRules t shape most empty
  gone_well = record {
    ranges = ch.in_range s t format.nodes_file id lost.change shape lost.meta (λ _. lost.fits) well.ranges;
    split = ch.split_all s t format.nodes_file id lost.change (λ _. (lost.free, lost.split)) well.split;
    kept = ch.kept_all s t format.nodes_file id lost.change (λ e. absurd (true≢false e)) well.kept;
    linked = un.linked s t format.nodes_file id lost.change refl (λ x n row e i. kind_other n (λ k. no_end s shape well id old.used old.alone x row e
        (subst (λ z. IsEnd z row) k i))) listed well.linked;
    grouped = un.grouped s t format.nodes_file id lost.change refl (λ n g row e o d. kind_other n (λ k. old.ungrouped g row e (o ∙ k)) ∙ d)
        (λ n d. (sym (kind_other n (dense_new n d)) ∙ d, nc.first_other s t id lost.change n (dense_new n d))) well.grouped;
    exact = un.exact s t format.nodes_file id lost.change refl well.exact;
    properties = properties;
    named = named;
    defined = changed_defined s t format.nodes_file id lost.change (λ e. omega arith) well.defined;
    names = nc.names s t id lost.change shape well;
    degrees = degrees;
  }

  -- ---- the graph
  pub node_removed : (graph_of t).nodes ≡ without_row node_number id (graph_of s).nodes
  node_removed = ap (collect (node_of t)) lost.mark ∙ collect_without node_number (node_of s) (node_of t) (high s format.nodes_file) id (nc.nodes_numbered s)
      (nc.node_text s t id lost.change id ∙ ap (node_from (rec_at s format.names_file) (property_records s)) node_gone)
      (λ x _ ne. nc.row_other s t id lost.change x ne) (kind_below (high s format.nodes_file) (rec_at s format.nodes_file id) id old.used)
