-- What a change of a node's groups leaves: rows and names, the graph, and all rules but the third and the fourth.
use Rattle.std.proofs.Common.{◌≡◌, ◌≢◌, ◌⊎◌, ℕ, ◌+◌, ◌<◌, ◌≤◌, nat_eq, not, true, Option, Some, List, length, sym, ap}
use Rattle.std.proofs.Common.{◌∙◌, subst, inl, inr, ⊎_elim, arith, refl}
use Rattle.std.proofs.lemmas.Bool.{true≢false}
use Rattle.rec_bytes.specs.declared.key.Key.{Key}
use Rattle.rec_bytes.specs.declared.meta.Meta.{Meta}
use Rattle.rec_bytes.specs.declared.record.Rec.{Rec}
use Rattle.rec_bytes.specs.declared.shape.Shape.{Shape}
use Rattle.rec_bytes.specs.Format as format
use Rattle.rec_bytes.specs.Meta as metas
use Rattle.rec_bytes.specs.Record.{field}
use Rattle.rec_bytes.specs.RecordFiles.{is_meta_file, meta_key_of}
use Rattle.rec_bytes.specs.Space.{State, meta_in}
use Rattle.store_rules.specs.Chains.{IsWalk}
use Rattle.store_rules.specs.Ends.{Regroups}
use Rattle.store_rules.specs.Graph.{edge_from, graph_of, node_from, indexes_from}
use Rattle.store_rules.specs.Ranges.{AreInRange, is_reused}
use Rattle.store_rules.specs.Rows.{collect, ids}
use Rattle.store_rules.specs.Rules.{AreNamed, AreNames, HaveProperties, IsSplit, KeepsRules, PropertyFiles, degree_of, next_free, property_files}
use Rattle.store_rules.specs.Views.{GroupRow, NodeRow, Records, RelRow, degree, group_at, high, is_live, key_in}
use Rattle.store_rules.specs.Views.{kind_at, kind_in, node_at, node_in, rec_at, rel_at, row_if, text_of}
use Rattle.store_rules.proofs.DefinedStays.{defined_stay}
use Rattle.store_rules.proofs.ChainLaws.{walk_stays}
use Rattle.store_rules.proofs.Frames.{IsSame, files_same, records_same, split_same}
use Rattle.store_rules.proofs.MetaLaws.{meta_of_reused, not_meta_key}
use Rattle.store_rules.proofs.NumberLaws.{nat_cases}
use Rattle.store_rules.proofs.ViewLaws.{kind_by, live_true, row_some}
use Rattle.group_store.specs.Spreading.{KeepsOthers}

-- No record changed but nodes in their kinds and first links, relationships in their links, and
-- groups. At most this node changed its kind: it was sparse, and is dense.
pub record IsFrame (s t : Records) (node : ℕ) : Type 0 where
  pub others : (key : Key) → key.file ≢ format.nodes_file → key.file ≢ format.relationships_file → key.file ≢ format.groups_file
      → key ≢ meta_key_of format.groups_file → t key ≡ s key
  pub nodes : (x n at : ℕ) → at + n ≤ 64 → 1 ≤ at → (at + n ≤ format.node_first_link) ⊎ (format.node_first_property ≤ at)
      → field n (rec_at t format.nodes_file x) at ≡ field n (rec_at s format.nodes_file x) at
  pub kinds : (x : ℕ) → x ≢ node → kind_at t format.nodes_file x ≡ kind_at s format.nodes_file x
  pub here : (kind_at t format.nodes_file node ≡ kind_at s format.nodes_file node)
      ⊎ ((kind_at s format.nodes_file node ≡ format.sparse) × (kind_at t format.nodes_file node ≡ format.dense))
  pub rels : (x n at : ℕ) → at + n ≤ 64 → (at + n ≤ format.relationship_source_previous) ⊎ (format.relationship_first_property ≤ at)
      → field n (rec_at t format.relationships_file x) at ≡ field n (rec_at s format.relationships_file x) at

-- a store keeps all rules but the third and the fourth
pub KeepsRules-KeepsOthers : (records : Records) (shape : Shape) (most : ℕ) (empty : List ℕ) → KeepsRules records shape most empty
    → KeepsOthers records shape most
KeepsRules-KeepsOthers records shape most empty keeps = record {
  ranges = keeps.ranges;
  split = keeps.split;
  kept = keeps.kept;
  properties = keeps.properties;
  named = keeps.named;
  defined = keeps.defined;
  names = keeps.names;
  degrees = keeps.degrees;
}

pub frame_none : (s : Records) (node : ℕ) → IsFrame s s node
frame_none s node = record {
  others = λ key a b c d. refl;
  nodes = λ x n at inside one apart. refl;
  kinds = λ x ne. refl;
  here = inl refl;
  rels =
      λ x n at inside apart. refl;
}

-- one change after another
pub frame_both : (s m t : Records) (node : ℕ) → IsFrame s m node → IsFrame m t node → IsFrame s t node
frame_both s m t node h k = record {
  others = λ key a b c d. k.others key a b c d ∙ h.others key a b c d;
  nodes = λ x n at inside one apart. k.nodes x n at inside one apart ∙ h.nodes x n at inside one apart;
  kinds = λ x ne. k.kinds x ne ∙ h.kinds x ne;
  here = ⊎_elim
      (λ (e : kind_at t format.nodes_file node ≡ kind_at m format.nodes_file node). ⊎_elim (λ f. inl (e ∙ f)) (λ f. inr (f.0, e ∙ f.1)) h.here)
      (λ (e : (kind_at m format.nodes_file node ≡ format.sparse) × (kind_at t format.nodes_file node ≡ format.dense)).
      ⊎_elim (λ f. inr (sym f ∙ e.0, e.1)) (λ f. absurd (let z = sym e.0 ∙ f.1 in omega arith)) h.here) k.here;
  rels = λ x n at inside apart. k.rels x n at inside apart ∙ h.rels x n at inside apart;
}

module _ (s t : Records) (node : ℕ) (h : IsFrame s t node) where
  pub meta_same : (f : ℕ) → f ≢ format.groups_file → t (meta_key_of f) ≡ s (meta_key_of f)
  meta_same f ne = h.others (meta_key_of f) (λ e. omega arith) (λ e. omega arith) (λ e. omega arith) (λ e. ne (ap (λ (k : Key). k.id) e))

  pub mark_same : (f : ℕ) → f ≢ format.groups_file → high t f ≡ high s f
  mark_same f ne = ap (λ r. (metas.meta_of r).high) (meta_same f ne)

  file_same : (f : ℕ) → is_meta_file f ≡ true → f ≢ format.nodes_file → f ≢ format.relationships_file → f ≢ format.groups_file → IsSame s t f
  file_same f is a b c = record { meta = ap metas.meta_of (meta_same f c); each = λ x. h.others (key_in f x) a b c (not_meta_key f x format.groups_file is) }

  -- a node keeps its kind, or is in use before and after
  kind_cases : (x : ℕ) → (kind_at t format.nodes_file x ≡ kind_at s format.nodes_file x)
      ⊎ ((kind_at s format.nodes_file x ≢ 0) × (kind_at t format.nodes_file x ≢ 0))
  kind_cases x = ⊎_elim
      (λ (e : x ≡ node). subst (λ z. (kind_at t format.nodes_file z ≡ kind_at s format.nodes_file z) ⊎ ((kind_at s format.nodes_file z ≢ 0) ×
      (kind_at t format.nodes_file z ≢ 0))) (sym e)
      (⊎_elim (λ f. inl f) (λ f. inr ((λ z. let a = sym z ∙ f.0 in omega arith), (λ z. let a = sym z ∙ f.1 in omega arith))) h.here))
      (λ (ne : x ≢ node). inl (h.kinds x ne)) (nat_cases x node)

  pub used_same : (x : ℕ) → kind_at s format.nodes_file x ≢ 0 → kind_at t format.nodes_file x ≢ 0
  used_same x some = ⊎_elim (λ e z. some (sym e ∙ z)) (λ k. k.1) (kind_cases x)

  pub used_was : (x : ℕ) → kind_at t format.nodes_file x ≢ 0 → kind_at s format.nodes_file x ≢ 0
  used_was x some = ⊎_elim (λ e z. some (e ∙ z)) (λ k. k.0) (kind_cases x)

  pub sparse_was : (x : ℕ) → kind_at t format.nodes_file x ≡ format.sparse → kind_at s format.nodes_file x ≡ format.sparse
  sparse_was x is = ⊎_elim
      (λ (e : x ≡ node). ⊎_elim (λ f. ap (kind_at s format.nodes_file) e ∙ sym f ∙ ap (kind_at t format.nodes_file) (sym e) ∙ is)
      (λ f. absurd (let a = sym f.1 ∙ ap (kind_at t format.nodes_file) (sym e) ∙ is in omega arith)) h.here)
      (λ (ne : x ≢ node). sym (h.kinds x ne) ∙ is) (nat_cases x node)

  pub dense_same : (x : ℕ) → kind_at s format.nodes_file x ≡ format.dense → kind_at t format.nodes_file x ≡ format.dense
  dense_same x is = ⊎_elim
      (λ (e : x ≡ node). ap (kind_at t format.nodes_file) e ∙ ⊎_elim (λ f. f ∙ ap (kind_at s format.nodes_file) (sym e) ∙ is) (λ f. f.1) h.here)
      (λ (ne : x ≢ node). h.kinds x ne ∙ is) (nat_cases x node)

  -- where the node was dense before, so was each that is
  pub dense_was : kind_at s format.nodes_file node ≡ format.dense → (x : ℕ) → kind_at t format.nodes_file x ≡ format.dense
      → kind_at s format.nodes_file x ≡ format.dense
  dense_was dense x is = ⊎_elim (λ (e : x ≡ node). ap (kind_at s format.nodes_file) e ∙ dense) (λ (ne : x ≢ node). sym (h.kinds x ne) ∙ is) (nat_cases x node)

  node_row : (x : ℕ) → node_in (rec_at t format.nodes_file x) x ≡ node_in (rec_at s format.nodes_file x) x
  node_row x = λ i. record {
    id = x;
    label = h.nodes x 4 4 (omega arith) (omega arith) (inl (omega arith)) i;
    property = h.nodes x 4 12 (omega arith) (omega arith) (inr (omega arith)) i;
  }

  pub node_same : (x : ℕ) → node_at t x ≡ node_at s x
  node_same x = ap (row_if (kind_at t format.nodes_file x)) (node_row x) ∙ ⊎_elim
      (λ e. ap (λ k. row_if k (node_in (rec_at s format.nodes_file x) x)) e)
      (λ k. row_some (kind_at t format.nodes_file x) (node_in (rec_at s format.nodes_file x) x) k.1 ∙ sym (row_some (kind_at s format.nodes_file x)
      (node_in (rec_at s format.nodes_file x) x) k.0))
      (kind_cases x)

  pub rel_kind : (x : ℕ) → kind_at t format.relationships_file x ≡ kind_at s format.relationships_file x
  rel_kind x = ap (λ m. kind_in m (rec_at t format.relationships_file x) x) (mark_same format.relationships_file (λ e. omega arith))
      ∙ kind_by (high s format.relationships_file) (rec_at t format.relationships_file x) (rec_at s format.relationships_file x) x
      (h.rels x 1 format.kind (omega arith) (inl (omega arith)))

  pub rel_same : (x : ℕ) → rel_at t x ≡ rel_at s x
  rel_same x = λ i. row_if (rel_kind x i) (record {
    id = x;
    label = h.rels x 4 4 (omega arith) (inl (omega arith)) i;
    from = h.rels x 4 8 (omega arith) (inl (omega arith)) i;
    to = h.rels x 4 12 (omega arith) (inl (omega arith)) i;
    property = h.rels x 4 32 (omega arith) (inr (omega arith)) i;
  })

  pub degree_same : (x : ℕ) → degree t x ≡ degree s x
  degree_same x = h.nodes x 4 16 (omega arith) (omega arith) (inr (omega arith))

  nodes_same : node_at t ≡ node_at s
  nodes_same = λ i x. node_same x i

  pub rels_same : rel_at t ≡ rel_at s
  rels_same = λ i x. rel_same x i

  name_file : rec_at t format.names_file ≡ rec_at s format.names_file
  name_file = λ i x. (file_same format.names_file refl (λ e. omega arith) (λ e. omega arith) (λ e. omega arith)).each x i

  name_mark : high t format.names_file ≡ high s format.names_file
  name_mark = mark_same format.names_file (λ e. omega arith)

  properties_same : IsSame s t format.properties_file
  properties_same = file_same format.properties_file refl (λ e. omega arith) (λ e. omega arith) (λ e. omega arith)

  strings_same : IsSame s t format.strings_file
  strings_same = file_same format.strings_file refl (λ e. omega arith) (λ e. omega arith) (λ e. omega arith)

  pub graph_same : graph_of t ≡ graph_of s
  graph_same =
      let files = records_same s t properties_same strings_same in
      let node_mark = mark_same format.nodes_file (λ e. omega arith) in
      let rel_mark = mark_same format.relationships_file (λ e. omega arith) in
      let index = file_same format.index_file refl (λ e. omega arith) (λ e. omega arith) (λ e. omega arith) in
      let index_mark = mark_same format.index_file (λ e. omega arith) in
      λ i. record {
        nodes = collect (λ x. node_from (name_file i) (files i) (nodes_same i x)) (node_mark i);
        edges = collect (λ x. edge_from (name_file i) (files i) (rels_same i x)) (rel_mark i);
        names = collect (λ x. Some (text_of (name_file i x))) (name_mark i);
        indexes = indexes_from (λ x. kind_in (index_mark i) (index.each x i) x) (λ x. index.each x i) (index_mark i) (name_file i) (name_mark i);
      }

  -- ---- the second rule
  live_node : (x : ℕ) → is_live t format.nodes_file x ≡ is_live s format.nodes_file x
  live_node x = ⊎_elim (λ e. ap (λ k. not (nat_eq k 0)) e) (λ k. live_true (kind_at t format.nodes_file x) k.1 ∙ sym (live_true (kind_at s format.nodes_file x)
      k.0)) (kind_cases x)

  split_stays : (f : ℕ) (free : List ℕ) → f ≢ format.groups_file → is_live t f ≡ is_live s f → ((x : ℕ) → next_free t f x ≡ next_free s f x)
      → IsSplit s f (is_live s f) free → IsSplit t f (is_live t f) free
  split_stays f free ne live next k = subst (λ v. IsSplit t f v free) (sym live) (record {
    walk = subst (λ (m : Meta). IsWalk (next_free t f) m.free free) (sym (ap metas.meta_of (meta_same f ne)))
        (walk_stays (next_free s f) (next_free t f) (meta_in s f).free free (λ x _. next x) k.walk);
    low = λ x i. subst (λ m. x < m) (sym (mark_same f ne)) (k.low x i);
    only = k.only;
    all = λ x lt. k.all x (subst (λ m. x < m) (mark_same f ne) lt);
    exact = ap (λ r. (metas.meta_of r).live) (meta_same f ne) ∙ k.exact ∙ ap (λ m. length (ids (is_live s f) m)) (sym (mark_same f ne));
  })

  split_other : (f : ℕ) (free : List ℕ) → is_reused f ≡ true → f ≢ format.groups_file → IsSplit s f (is_live s f) free → IsSplit t f (is_live t f) free
  split_other f free is ne k = ⊎_elim
      (λ (e : f ≡ format.nodes_file). subst (λ g. IsSplit s g (is_live s g) free → IsSplit t g (is_live t g) free) (sym e)
      (split_stays format.nodes_file free (λ e. omega arith) (λ i x. live_node x i) (λ x. h.nodes x 4 4 (omega arith) (omega arith) (inl (omega arith)))) k)
      (λ (a : f ≢ format.nodes_file). ⊎_elim
      (λ (e : f ≡ format.relationships_file). subst (λ g. IsSplit s g (is_live s g) free → IsSplit t g (is_live t g) free) (sym e)
      (split_stays format.relationships_file free (λ e. omega arith) (λ i x. not (nat_eq (rel_kind x i) 0)) (λ x. h.rels x 4 4 (omega arith)
      (inl (omega arith)))) k)
      (λ (b : f ≢ format.relationships_file). split_same s t f free (file_same f (meta_of_reused f is) a b ne) k)
      (nat_cases f format.relationships_file)) (nat_cases f format.nodes_file)

  -- ---- all rules but the third and the fourth
  pub others_stay : (shape : Shape) (most : ℕ) → KeepsOthers s shape most → AreInRange t shape → (free : List ℕ)
      → IsSplit t format.groups_file (is_live t format.groups_file) free → KeepsOthers t shape most
  others_stay shape most old ranges free split = record {
    ranges = ranges;
    split = λ f is. ⊎_elim
        (λ (e : f ≡ format.groups_file). subst (λ g. (free : List ℕ) × IsSplit t g (is_live t g) free) (sym e) (free, split))
        (λ (ne : f ≢ format.groups_file). let k = old.split f is in (k.0, split_other f k.0 is ne k.1)) (nat_cases f format.groups_file);
    kept = λ f is no_reuse. subst (λ (m : Meta). m.live ≡ m.high) (sym (ap metas.meta_of (meta_same f (λ e. true≢false (sym (ap is_reused e) ∙ no_reuse)))))
        (old.kept f is no_reuse);
    properties = subst (λ (f : PropertyFiles). HaveProperties f (node_at t) (rel_at t) (high t format.names_file))
        (sym (files_same s t properties_same strings_same))
        (subst (λ (n : ℕ → Option NodeRow). HaveProperties (property_files s) n (rel_at t) (high t format.names_file)) (sym nodes_same)
        (subst (λ (r : ℕ → Option RelRow). HaveProperties (property_files s) (node_at s) r (high t format.names_file)) (sym rels_same)
        (subst (HaveProperties (property_files s) (node_at s) (rel_at s)) (sym name_mark) old.properties)));
    named = subst (λ (n : ℕ → Option NodeRow). AreNamed n (rel_at t) (high t format.names_file)) (sym nodes_same)
        (subst (λ (r : ℕ → Option RelRow). AreNamed (node_at s) r (high t format.names_file)) (sym rels_same) (subst (AreNamed (node_at s) (rel_at s))
        (sym name_mark) old.named));
    defined = defined_stay s t (record {
      records = λ i x. (file_same format.index_file refl (λ e. omega arith) (λ e. omega arith) (λ e. omega arith)).each x i;
      meta = meta_same format.index_file (λ e. omega arith);
    }) (omega (arith, name_mark)) old.defined;
    names = subst (λ (r : ℕ → Rec). AreNames r (high t format.names_file)) (sym name_file)
        (subst (AreNames (rec_at s format.names_file)) (sym name_mark) old.names);
    degrees = record {
      each = λ n used. degree_same n ∙ old.degrees.each n (used_was n used)
          ∙ ap (λ (r : ℕ → Option RelRow). degree_of r (high s format.relationships_file) n) (sym rels_same)
          ∙ ap (λ m. degree_of (rel_at t) m n) (sym (mark_same format.relationships_file (λ e. omega arith)));
      few = λ n is. let e = degree_same n in let b = old.degrees.few n (sparse_was n is) in omega arith;
    };
  }

-- the groups of other nodes stay besides
pub regroups_of : (s t : State) (node : ℕ) → IsFrame s.records t.records node → t.shape ≡ s.shape
    → ((g : ℕ) (row : GroupRow) → group_at s.records g ≡ Some row → row.owner ≢ node → group_at t.records g ≡ Some row) → Regroups s t node
regroups_of s t node h shape groups = record {
  shape = shape;
  graph = graph_same s.records t.records node h;
  nodes = node_same s.records t.records node h;
  rels = rel_same s.records t.records node h;
  degrees = degree_same s.records t.records node h;
  kinds = h.kinds;
  groups = groups;
  metas = λ f ne. ap metas.meta_of (meta_same s.records t.records node h f ne);
  others = h.others;
}

pub regroups_read : (s : State) (reads node : ℕ) → Regroups s (record s { reads = reads }) node
regroups_read s reads node = record {
  shape = refl;
  graph = refl;
  nodes = λ x. refl;
  rels = λ x. refl;
  degrees = λ x. refl;
  kinds = λ m ne. refl;
  groups =
      λ g row is ne. is;
  metas = λ f ne. refl;
  others = λ key a b c d. refl;
}

pub regroups_both : (s m t : State) (node : ℕ) → Regroups s m node → Regroups m t node → Regroups s t node
regroups_both s m t node h k = record {
  shape = k.shape ∙ h.shape;
  graph = k.graph ∙ h.graph;
  nodes = λ x. k.nodes x ∙ h.nodes x;
  rels = λ x. k.rels x ∙ h.rels x;
  degrees = λ x. k.degrees x ∙ h.degrees x;
  kinds = λ m ne. k.kinds m ne ∙ h.kinds m ne;
  groups = λ g row is ne. k.groups g row (h.groups g row is ne) ne;
  metas = λ f ne. k.metas f ne ∙ h.metas f ne;
  others = λ key a b c d. k.others key a b c d ∙ h.others key a b c d;
}
