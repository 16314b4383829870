-- What a node that comes or goes leaves of the rules and of the graph.
use Rattle.std.specs.Prelude.{is_some}
use Rattle.std.proofs.Common.{List, length, not, ◌≡◌, ◌≢◌, ℕ, Bool, true, false, cond, nat_eq, None, Some, sym, ap, ◌∙◌, subst, inl, inr, ⊎_elim, arith, refl}
use Rattle.plain_graph.specs.Graph.{Node, node_number}
use Rattle.rec_bytes.specs.declared.record.Rec.{Rec}
use Rattle.rec_bytes.specs.declared.key.Key.{Key}
use Rattle.rec_bytes.specs.declared.shape.Shape.{Shape}
use Rattle.rec_bytes.specs.Format as format
use Rattle.rec_bytes.specs.Record.{field}
use Rattle.rec_bytes.specs.Space.{meta_in}
use Rattle.store_rules.specs.Graph.{edge_from, graph_of, names_of, node_from, node_of}
use Rattle.store_rules.specs.Properties.{property_records}
use Rattle.store_rules.specs.Rows.{collect}
use Rattle.store_rules.specs.Rules.{AreNames, GroupHead, Head, IsListed, KeepsNames, KeepsRules, Owns, SparseHead, StandsAt}
use Rattle.store_rules.specs.Views.{Records, first_link, group_at, high, is_live, kind_at, node_at, node_in, rec_at, rel_at, row_if, text_of}
use Rattle.store_rules.proofs.Changes as ch
use Rattle.store_rules.proofs.Changes.{IsChanged}
use Rattle.store_rules.proofs.Counts.{length-collect}
use Rattle.store_rules.proofs.Untouched as un
use Rattle.store_rules.proofs.Untouched.{head_file}

-- each row of the nodes has its own number
pub nodes_numbered : (s : Records) (x : ℕ) (e : Node) → node_of s x ≡ Some e → node_number e ≡ x
nodes_numbered s x e h = on (nat_eq (kind_at s format.nodes_file x) 0) h
  where
    on : (b : Bool) → node_from (rec_at s format.names_file) (property_records s) (cond b None (Some (node_in (rec_at s format.nodes_file x) x))) ≡ Some e
        → e.id ≡ x
    on true h = absurd cc
    on false h = ap (λ (n : Node). n.id) (inner _ e (sym h))
      where
        inner : (a b : Node) → Some b ≡ Some a → b ≡ a
        inner a b e = cc

-- the count of nodes is that of their file
pub count_nodes : (s : Records) (shape : Shape) {most : ℕ} {empty : List ℕ} → KeepsRules s shape most empty
    → (meta_in s format.nodes_file).live ≡ length (graph_of s).nodes
count_nodes s shape well = (well.split format.nodes_file refl).1.exact ∙ sym
    (length-collect Node (node_of s) (is_live s format.nodes_file) (high s format.nodes_file) (λ x. on x (nat_eq (kind_at s format.nodes_file x) 0)))
  where
    on : (x : ℕ) (b : Bool) → is_some (node_from (rec_at s format.names_file) (property_records s)
        (cond b None (Some (node_in (rec_at s format.nodes_file x) x)))) ≡ not b
    on x true = refl
    on x false = refl

module _ (s t : Records) (id : ℕ) (change : IsChanged s t format.nodes_file id) where
  pub kind_other : (n : ℕ) → n ≢ id → kind_at t format.nodes_file n ≡ kind_at s format.nodes_file n
  kind_other = ch.kind_other s t format.nodes_file id change

  pub record_other : (n : ℕ) → n ≢ id → rec_at t format.nodes_file n ≡ rec_at s format.nodes_file n
  record_other n ne = ch.other_record s t format.nodes_file id change format.nodes_file n refl (λ _. ne)

  pub node_other : (n : ℕ) → n ≢ id → node_at t n ≡ node_at s n
  node_other n ne = ap (λ k. row_if k (node_in (rec_at t format.nodes_file n) n)) (kind_other n ne)
      ∙ ap (λ r. row_if (kind_at s format.nodes_file n) (node_in r n)) (record_other n ne)

  pub first_other : (n : ℕ) → n ≢ id → first_link t n ≡ first_link s n
  first_other n ne = ap (λ r. field 4 r format.node_first_link) (record_other n ne)

  pub name_file : rec_at t format.names_file ≡ rec_at s format.names_file
  name_file = ch.file_same s t format.nodes_file id change format.names_file refl (λ e. omega arith)

  pub name_mark : high t format.names_file ≡ high s format.names_file
  name_mark = ch.mark_same s t format.nodes_file id change format.names_file (λ e. omega arith)

  pub files_stay : property_records t ≡ property_records s
  files_stay = ch.records_stay s t format.nodes_file id change (λ e. omega arith) (λ e. omega arith)

  pub names_stay : names_of t ≡ names_of s
  names_stay = ap (λ (f : ℕ → Rec). collect (λ x. Some (text_of (f x))) (high t format.names_file)) name_file
      ∙ ap (collect (λ x. Some (text_of (rec_at s format.names_file x)))) name_mark

  pub edges_stay : (graph_of t).edges ≡ (graph_of s).edges
  edges_stay = λ i. collect (λ x. edge_from (name_file i) (files_stay i) (un.rels_same s t format.nodes_file id change refl i x))
      (un.rel_mark s t format.nodes_file id change refl i)

  pub node_text : (x : ℕ) → node_of t x ≡ node_from (rec_at s format.names_file) (property_records s) (node_at t x)
  node_text x = λ i. node_from (name_file i) (files_stay i) (node_at t x)

  pub row_other : (x : ℕ) → x ≢ id → node_of t x ≡ node_of s x
  row_other x ne = node_text x ∙ ap (node_from (rec_at s format.names_file) (property_records s)) (node_other x ne)

  module _ (shape : Shape) {most : ℕ} {empty : List ℕ} (well : KeepsRules s shape most empty) where
    pub names : KeepsNames t
    names = subst (λ r. AreNames r (high t format.names_file)) (sym name_file) (subst (λ m. AreNames (rec_at s format.names_file) m) (sym name_mark) well.names)

    -- a head of another node lists what it did
    pub listed_other : (h : Head) (n : ℕ) → Owns (kind_at t format.nodes_file) (group_at s) h n → n ≢ id → IsListed t h n (StandsAt (rel_at s) (group_at s) h)
    listed_other h n o ne = ⊎_elim
        (λ (k : SparseHead (kind_at t format.nodes_file) h n). kept (inl (record { sparse = sym (kind_other n ne) ∙ k.sparse; is = k.is }))
        (λ _ q. ne (ap (λ (z : Head). z.key.id) (sym k.is) ∙ q)))
        (λ (k : GroupHead (kind_at t format.nodes_file) (group_at s) h n). kept
        (inr (record { dense = sym (kind_other n ne) ∙ k.dense; row = k.row; group = k.group; owner = k.owner; key = k.key; field = k.field }))
        (λ q. let f = ap (λ (z : Key). z.file) k.key in omega arith)) o
      where
        kept : Owns (kind_at s format.nodes_file) (group_at s) h n → (h.key.file ≡ format.nodes_file → h.key.id ≢ id)
            → IsListed t h n (StandsAt (rel_at s) (group_at s) h)
        kept old apart = ch.listed_kept s t format.nodes_file id change h n (StandsAt (rel_at s) (group_at s) h) (λ e. omega arith)
            (head_file (kind_at s format.nodes_file) (group_at s) h n old) apart (well.linked.listed.each h n old)
