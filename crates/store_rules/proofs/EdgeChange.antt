-- What a relationship that comes or goes leaves of the rules and of the graph.
use Rattle.std.proofs.Common.{◌≡◌, ◌≢◌, ◌⊎◌, ℕ, ◌+◌, ◌<◌, ◌≤◌, nat_eq, true, not, Option, None, Some, List, length, sym}
use Rattle.std.proofs.Common.{ap, ◌∙◌, subst, inl, inr, ⊎_elim, arith, refl}
use Rattle.std.proofs.lemmas.Bool.{true≢false}
use Rattle.rec_bytes.specs.declared.key.Key.{Key}
use Rattle.rec_bytes.specs.declared.meta.Meta.{Meta}
use Rattle.rec_bytes.specs.declared.shape.Shape.{Shape}
use Rattle.rec_bytes.specs.Format as format
use Rattle.rec_bytes.specs.Meta as metas
use Rattle.rec_bytes.specs.Record.{field}
use Rattle.rec_bytes.specs.RecordFiles.{is_meta_file, meta_key_of}
use Rattle.rec_bytes.specs.Space.{meta_in}
use Rattle.store_rules.specs.Chains.{In, IsChain, IsWalk}
use Rattle.store_rules.specs.Graph.{edge_from, edge_of, graph_of, names_of, node_from}
use Rattle.store_rules.specs.Properties.{property_records}
use Rattle.store_rules.specs.Ranges.{AreInRange, is_reused}
use Rattle.store_rules.specs.Rows.{collect, ids}
use Rattle.store_rules.specs.RuleList.{IsSameFile}
use Rattle.store_rules.specs.Rules.{AllListed, AreNamed, AreNames, HasCounts, HasEnds, HasGroup, HasGroups, HaveProperties, IsEnd, IsGrouped, IsLinked}
use Rattle.store_rules.specs.Rules.{IsSplit, KeepsGroups, KeepsLabels, KeepsLinks, KeepsNames, KeepsProperties, KeepsRules, Owns, PropertyFiles, StandsAt}
use Rattle.store_rules.specs.Rules.{degree_of, is_filled, next_free, property_files, rel_first}
use Rattle.store_rules.specs.Views.{GroupRow, NodeRow, Records, RelRow, degree, first_link, group_at, high, is_live, key_in, kind_at, kind_in, node_at, rec_at}
use Rattle.store_rules.specs.Views.{rel_at, rel_in, row_if, text_of}
use Rattle.store_rules.proofs.ChainLaws.{chain_stays, walk_stays}
use Rattle.store_rules.proofs.Changes as ch
use Rattle.store_rules.proofs.Changes.{IsChanged}
use Rattle.store_rules.proofs.DefinedStays.{defined_stay}
use Rattle.store_rules.proofs.Frames as frames
use Rattle.store_rules.proofs.Frames.{HoldsNone, IsSame, files_same, owner_beside_rel, properties_bare, records_same}
use Rattle.store_rules.proofs.MetaLaws.{meta_of_reused, not_meta_key}
use Rattle.store_rules.proofs.NumberLaws.{nat_cases}
use Rattle.store_rules.proofs.Relinks as re
use Rattle.store_rules.proofs.Relinks.{HasLinks, IsKept, IsRelinked, kept_low, unlinked}
use Rattle.store_rules.proofs.ViewLaws.{kind_by}

-- Nothing changed but one relationship, links of others, first links of sparse nodes and of the chains of groups, and degrees.
pub record IsEdgeChange (s t : Records) (id : ℕ) : Type 0 where
  pub others : (key : Key) → ¬ HasLinks key.file → key ≢ meta_key_of format.relationships_file → t key ≡ s key
  pub same : (f x n at : ℕ) → is_meta_file f ≡ true → f ≢ format.relationships_file → at + n ≤ 64 → IsKept f n at
      → field n (rec_at t f x) at ≡ field n (rec_at s f x) at
  pub dense : (n : ℕ) → kind_at s format.nodes_file n ≡ format.dense → first_link t n ≡ first_link s n
  pub rels : (x : ℕ) → x ≢ id → rel_at t x ≡ rel_at s x

-- numbers of one file that are kept
kept_rel : (n at : ℕ) → (at + n ≤ 16) ⊎ (32 ≤ at) → IsKept format.relationships_file n at
kept_rel n at aside = ((λ e. absurd (let z : 2 ≡ 1 = e in omega arith)), (λ _. aside), (λ e. absurd (let z : 2 ≡ 3 = e in omega arith)))

kept_node : (n at : ℕ) → (at + n ≤ 8) ⊎ (12 ≤ at) → (at + n ≤ 16) ⊎ (20 ≤ at) → IsKept format.nodes_file n at
kept_node n at link degree = ((λ _. (link, degree)), (λ e. absurd (let z : 1 ≡ 2 = e in omega arith)), (λ e. absurd (let z : 1 ≡ 3 = e in omega arith)))

kept_group : (n at : ℕ) → at + n ≤ 20 → IsKept format.groups_file n at
kept_group n at low = ((λ e. absurd (let z : 3 ≡ 1 = e in omega arith)), (λ e. absurd (let z : 3 ≡ 2 = e in omega arith)), (λ _. inl low))

-- a change of links leaves the rows of relationships
pub rels_relinked : (s t : Records) → IsRelinked s t → (x : ℕ) → rel_at t x ≡ rel_at s x
rels_relinked s t h x = λ i. row_if (re.kind_stays s t h format.relationships_file x i) (record {
  id = x;
  label = kept 4 (inl (omega arith)) (omega arith) i;
  from = kept 8 (inl (omega arith)) (omega arith) i;
  to = kept 12 (inl (omega arith)) (omega arith) i;
  property = kept 32 (inr (omega arith)) (omega arith) i;
})
  where
    kept : (at : ℕ) → (at + 4 ≤ 16) ⊎ (32 ≤ at) → at + 4 ≤ 64 → field 4 (rec_at t format.relationships_file x) at ≡ field 4
        (rec_at s format.relationships_file x) at
    kept at aside inside = h.same (key_in format.relationships_file x) 4 at inside (kept_rel 4 at aside)

-- a change of one relationship's record leaves the other rows
pub rels_changed : (s t : Records) (id : ℕ) → IsChanged s t format.relationships_file id → (x : ℕ) → x ≢ id → rel_at t x ≡ rel_at s x
rels_changed s t id change x ne = ap (λ k. row_if k (rel_in (rec_at t format.relationships_file x) x))
    (ch.kind_other s t format.relationships_file id change x ne)
    ∙ ap (λ r. row_if (kind_at s format.relationships_file x) (rel_in r x))
    (ch.other_record s t format.relationships_file id change format.relationships_file x refl (λ _. ne))

-- and those of the nodes
module _ (s t : Records) (id : ℕ) (change : IsChanged s t format.relationships_file id) where
  pub rec_beside : (f x : ℕ) → is_meta_file f ≡ true → f ≢ format.relationships_file → rec_at t f x ≡ rec_at s f x
  rec_beside f x is ne = ch.other_record s t format.relationships_file id change f x is (λ e. absurd (ne e))

  pub kind_beside : (f x : ℕ) → is_meta_file f ≡ true → f ≢ format.relationships_file → kind_at t f x ≡ kind_at s f x
  kind_beside f x is ne = frames.kind_same s t f (ch.same_file s t format.relationships_file id change f is ne) x

  other_key : (key : Key) → ¬ HasLinks key.file → key ≢ meta_key_of format.relationships_file → t key ≡ s key
  other_key key out ne = change.others key ne (λ e. out (inr (inl (ap (λ (k : Key). k.file) e))))

-- the two, one after the other
pub changed_relinked : (s m t : Records) (id : ℕ) → IsChanged s m format.relationships_file id → IsRelinked m t → IsEdgeChange s t id
changed_relinked s m t id change links = record {
  others = λ key out ne. links.others key out ∙ other_key s m id change key out ne;
  same = λ f x n at is ne inside kept. links.same (key_in f x) n at inside kept ∙ ap (λ r. field n r at) (rec_beside s m id change f x is ne);
  dense = λ n d. links.dense n (kind_beside s m id change format.nodes_file n refl (λ e. omega arith) ∙ d)
      ∙ ap (λ r. field 4 r format.node_first_link) (rec_beside s m id change format.nodes_file n refl (λ e. omega arith));
  rels = λ x ne. rels_relinked m t links x ∙ rels_changed s m id change x ne;
}

pub relinked_changed : (s m t : Records) (id : ℕ) → IsRelinked s m → IsChanged m t format.relationships_file id → IsEdgeChange s t id
relinked_changed s m t id links change = record {
  others = λ key out ne. other_key m t id change key out ne ∙ links.others key out;
  same = λ f x n at is ne inside kept. ap (λ r. field n r at) (rec_beside m t id change f x is ne) ∙ links.same (key_in f x) n at inside kept;
  dense = λ n d. ap (λ r. field 4 r format.node_first_link) (rec_beside m t id change format.nodes_file n refl (λ e. omega arith)) ∙ links.dense n d;
  rels = λ x ne. rels_changed m t id change x ne ∙ rels_relinked s m links x;
}

-- ---- what stays
module _ (s t : Records) (id : ℕ) (h : IsEdgeChange s t id) where
  pub meta_same : (f : ℕ) → f ≢ format.relationships_file → t (meta_key_of f) ≡ s (meta_key_of f)
  meta_same f ne = h.others (meta_key_of f) (unlinked format.meta_file (inl refl)) (λ e. ne (ap (λ (k : Key). k.id) e))

  pub mark_same : (f : ℕ) → f ≢ format.relationships_file → high t f ≡ high s f
  mark_same f ne = ap (λ r. (metas.meta_of r).high) (meta_same f ne)

  pub record_same : (f x : ℕ) → is_meta_file f ≡ true → ¬ HasLinks f → rec_at t f x ≡ rec_at s f x
  record_same f x is out = h.others (key_in f x) out (not_meta_key f x format.relationships_file is)

  pub kind_same : (f x : ℕ) → is_meta_file f ≡ true → f ≢ format.relationships_file → kind_at t f x ≡ kind_at s f x
  kind_same f x is ne = ap (λ m. kind_in m (rec_at t f x) x) (mark_same f ne)
      ∙ kind_by (high s f) (rec_at t f x) (rec_at s f x) x (h.same f x 1 format.kind is ne (omega arith) (kept_low f 1 format.kind (omega arith)))

  same_file : (f : ℕ) → is_meta_file f ≡ true → ¬ HasLinks f → IsSame s t f
  same_file f is out = record { meta = ap metas.meta_of (meta_same f (λ e. out (inr (inl e)))); each = λ x. record_same f x is out }

  properties_kept : IsSame s t format.properties_file
  properties_kept = same_file format.properties_file refl (unlinked format.properties_file (inr (omega arith)))

  strings_kept : IsSame s t format.strings_file
  strings_kept = same_file format.strings_file refl (unlinked format.strings_file (inr (omega arith)))

  names_kept : IsSame s t format.names_file
  names_kept = same_file format.names_file refl (unlinked format.names_file (inr (omega arith)))

  pub files_stay : property_records t ≡ property_records s
  files_stay = records_same s t properties_kept strings_kept

  pub properties_stay : property_files t ≡ property_files s
  properties_stay = files_same s t properties_kept strings_kept

  live_same : (f : ℕ) → is_meta_file f ≡ true → f ≢ format.relationships_file → is_live t f ≡ is_live s f
  live_same f is ne = λ i x. not (nat_eq (kind_same f x is ne i) 0)

  split_same : (f : ℕ) (free : List ℕ) → is_meta_file f ≡ true → f ≢ format.relationships_file → IsSplit s f (is_live s f) free → IsSplit t f (is_live t f) free
  split_same f free is ne k = subst (λ v. IsSplit t f v free) (sym (live_same f is ne)) (record {
    walk = subst (λ (m : Meta). IsWalk (next_free t f) m.free free) (sym (ap metas.meta_of (meta_same f ne)))
        (walk_stays (next_free s f) (next_free t f) (meta_in s f).free free (λ x _. h.same f x 4 format.free_next is ne (omega arith)
        (kept_low f 4 format.free_next (omega arith))) k.walk);
    low = λ x i. subst (λ m. x < m) (sym (mark_same f ne)) (k.low x i);
    only = k.only;
    all = λ x lt. k.all x (subst (λ m. x < m) (mark_same f ne) lt);
    exact = ap (λ r. (metas.meta_of r).live) (meta_same f ne) ∙ k.exact ∙ ap (λ m. length (ids (is_live s f) m)) (sym (mark_same f ne));
  })

  pub nodes_same : node_at t ≡ node_at s
  nodes_same = λ i x. row_if (kind_same format.nodes_file x refl (λ e. omega arith) i) (record {
    id = x;
    label = h.same format.nodes_file x 4 format.node_label refl (λ e. omega arith) (omega arith) (kept_low format.nodes_file 4 format.node_label (omega arith))
        i;
    property = h.same format.nodes_file x 4 format.node_first_property refl (λ e. omega arith) (omega arith)
        (kept_node 4 format.node_first_property (inr (omega arith)) (inl (omega arith))) i;
  })

  pub kinds_same : kind_at t format.nodes_file ≡ kind_at s format.nodes_file
  kinds_same = λ i x. kind_same format.nodes_file x refl (λ e. omega arith) i

  -- a number of a group before its first links
  group_number : (g at : ℕ) → at + 4 ≤ 20 → field 4 (rec_at t format.groups_file g) at ≡ field 4 (rec_at s format.groups_file g) at
  group_number g at low = h.same format.groups_file g 4 at refl (λ e. omega arith) (omega arith) (kept_group 4 at low)

  pub groups_same : group_at t ≡ group_at s
  groups_same = λ i x. row_if (kind_same format.groups_file x refl (λ e. omega arith) i) (record {
    id = x;
    label = group_number x format.group_type (omega arith) i;
    owner = group_number x format.group_owner (omega arith) i;
  })

  pub name_file : rec_at t format.names_file ≡ rec_at s format.names_file
  name_file = λ i x. names_kept.each x i

  pub name_mark : high t format.names_file ≡ high s format.names_file
  name_mark = mark_same format.names_file (λ e. omega arith)

  -- the file of the index stays
  pub index_same : IsSameFile s t format.index_file
  index_same = record {
    records = λ i x. record_same format.index_file x refl (unlinked format.index_file (inr (omega arith))) i;
    meta = meta_same format.index_file (λ e. omega arith);
  }

  pub names_stay : names_of t ≡ names_of s
  names_stay = λ i. collect (λ x. Some (text_of (name_file i x))) (name_mark i)

  pub nodes_stay : (graph_of t).nodes ≡ (graph_of s).nodes
  nodes_stay = λ i. collect (λ x. node_from (name_file i) (files_stay i) (nodes_same i x)) (mark_same format.nodes_file (λ e. omega arith) i)

  pub edge_now : (x : ℕ) → edge_of t x ≡ edge_from (rec_at s format.names_file) (property_records s) (rel_at t x)
  edge_now x = λ i. edge_from (name_file i) (files_stay i) (rel_at t x)

  pub edge_other : (x : ℕ) → x ≢ id → edge_of t x ≡ edge_of s x
  edge_other x ne = edge_now x ∙ ap (edge_from (rec_at s format.names_file) (property_records s)) (h.rels x ne)

-- ---- the rules

-- What a new relationship says: its ends are nodes, a dense one of which has a group for it, its type is a name, and it has no property.
pub record IsGoodRow (s : Records) (row : RelRow) : Type 0 where
  pub ends : HasEnds (kind_at s format.nodes_file) row
  pub typed : (n : ℕ) → IsEnd n row → kind_at s format.nodes_file n ≡ format.dense → HasGroup (group_at s) n row.label
  pub named : row.label < high s format.names_file
  pub bare : row.property ≡ format.nil

-- What of the new store has to be shown: its ranges, the free list of relationships, the new row, the chains, the degrees, and which groups may be
-- empty. A row that goes has no property.
pub record IsEdgeStore (s t : Records) (shape : Shape) (id most : ℕ) (empty : List ℕ) : Type 0 where
  pub change : IsEdgeChange s t id
  pub ranges : AreInRange t shape
  pub free : List ℕ
  pub split : IsSplit t format.relationships_file (is_live t format.relationships_file) free
  pub was : (row : RelRow) → rel_at s id ≡ Some row → row.property ≡ format.nil
  pub row : (row : RelRow) → rel_at t id ≡ Some row → IsGoodRow s row
  pub listed : AllListed t (Owns (kind_at s format.nodes_file) (group_at s)) (StandsAt (rel_at t) (group_at s))
  pub filled : (g : ℕ) (row : GroupRow) → group_at s g ≡ Some row → (is_filled (rec_at t format.groups_file g) ≡ true) ⊎ In g empty
  pub counted : (n : ℕ) → kind_at s format.nodes_file n ≢ format.free_kind → degree t n ≡ degree_of (rel_at t) (high t format.relationships_file) n
  pub few : (n : ℕ) → kind_at s format.nodes_file n ≡ format.sparse → degree t n ≤ most
  pub exact : (g : ℕ) (row : GroupRow) → group_at s g ≡ Some row → kind_at s format.groups_file g ≡ format.counted
      → HasCounts (rec_at t format.groups_file g) row (rel_at t) (high t format.relationships_file)

module _ (s t : Records) (shape : Shape) (id : ℕ) {most : ℕ} {before empty : List ℕ} (well : KeepsRules s shape most before)
    (now : IsEdgeStore s t shape id most empty) where
  kinds : (n : ℕ) → kind_at t format.nodes_file n ≡ kind_at s format.nodes_file n
  kinds n = kind_same s t id now.change format.nodes_file n refl (λ e. omega arith)

  -- a relationship in use is the new one, or was in use
  by_row : (P : RelRow → Type 0) (x : ℕ) (row : RelRow) → rel_at t x ≡ Some row → (IsGoodRow s row → P row) → (rel_at s x ≡ Some row → P row) → P row
  by_row P x row e new old = ⊎_elim
      (λ (k : x ≡ id). new (now.row row (ap (rel_at t) (sym k) ∙ e)))
      (λ (ne : x ≢ id). old (sym (now.change.rels x ne) ∙ e)) (nat_cases x id)

  linked : KeepsLinks t
  linked = subst (λ k. IsLinked t k (rel_at t) (group_at t)) (sym (kinds_same s t id now.change))
      (subst (IsLinked t (kind_at s format.nodes_file) (rel_at t)) (sym (groups_same s t id now.change)) (record {
        ends = λ x row e. by_row (HasEnds (kind_at s format.nodes_file)) x row e (λ (r : IsGoodRow s row). r.ends) (λ k. well.linked.ends x row k);
        typed = λ x n row e at d. by_row (λ r. IsEnd n r → HasGroup (group_at s) n r.label) x row e (λ (r : IsGoodRow s row) i. r.typed n i d)
            (λ k i. well.linked.typed x n row k i d) at;
        listed = now.listed;
      }))

  grouped : KeepsGroups t empty
  grouped = subst (λ r. IsGrouped (kind_at t format.nodes_file) (first_link t) (rec_at t format.groups_file) r empty) (sym (groups_same s t id now.change))
      (record {
        owned = λ g row e. kinds row.owner ∙ well.grouped.owned g row e;
        each = λ n d. each n (sym (kinds n) ∙ d);
      })
    where
      number : (g at : ℕ) → at + 4 ≤ 20 → field 4 (rec_at t format.groups_file g) at ≡ field 4 (rec_at s format.groups_file g) at
      number = group_number s t id now.change

      each : (n : ℕ) → kind_at s format.nodes_file n ≡ format.dense → HasGroups (first_link t n) n (rec_at t format.groups_file) (group_at s) empty
      each n d = let old = well.grouped.each n d in record {
        members = old.members;
        chain = subst (λ f. IsChain (λ g. field 4 (rec_at t format.groups_file g) format.group_next) (λ g. field 4 (rec_at t format.groups_file g)
            format.group_previous) format.nil f old.members) (sym (now.change.dense n d))
            (chain_stays (λ g. field 4 (rec_at s format.groups_file g) format.group_next) (λ g. field 4 (rec_at s format.groups_file g) format.group_previous)
            (λ g. field 4 (rec_at t format.groups_file g) format.group_next) (λ g. field 4 (rec_at t format.groups_file g) format.group_previous)
            format.nil (first_link s n) old.members (λ g _. number g format.group_next (omega arith)) (λ g _. number g format.group_previous (omega arith))
            old.chain);
        only = old.only;
        filled = λ g i. let row = old.only g i in now.filled g row.0 row.1;
        all = old.all;
        once = λ g k i j e. old.once g k i j (sym (number g format.group_type (omega arith)) ∙ e ∙ number k format.group_type (omega arith));
      }

  properties : KeepsProperties t
  properties = subst (λ (f : PropertyFiles). HaveProperties f (node_at t) (rel_at t) (high t format.names_file)) (sym (properties_stay s t id now.change))
      (subst (λ (n : ℕ → Option NodeRow). HaveProperties (property_files s) n (rel_at t) (high t format.names_file)) (sym (nodes_same s t id now.change))
      (subst (HaveProperties (property_files s) (node_at s) (rel_at t)) (sym (name_mark s t id now.change))
      (properties_bare (property_files s) (node_at s) (node_at s) (rel_at s) (rel_at t) (high s format.names_file) format.relationships_file id
      (none_held (rel_at s id) now.was) (none_held (rel_at t id) (λ row e. (now.row row e).bare))
      (owner_beside_rel (node_at s) (rel_at s) (rel_at t) id now.change.rels) well.properties)))
    where
      none_held : (o : Option RelRow) → ((row : RelRow) → o ≡ Some row → row.property ≡ format.nil) → HoldsNone (rel_first o)
      none_held None h = λ first e. absurd cc
      none_held (Some row) h = λ first e. let p : row.property ≡ first = cc in sym p ∙ h row refl

  named : KeepsLabels t
  named = subst (AreNamed (node_at t) (rel_at t)) (sym (name_mark s t id now.change)) (record {
    nodes_named = λ x row e. well.named.nodes_named x row (ap (λ (f : ℕ → Option NodeRow). f x) (sym (nodes_same s t id now.change)) ∙ e);
    rels_named = λ x row e. by_row (λ r. r.label < high s format.names_file) x row e (λ (r : IsGoodRow s row). r.named) (λ k. well.named.rels_named x row k);
  })

  names : KeepsNames t
  names = subst (λ r. AreNames r (high t format.names_file)) (sym (name_file s t id now.change))
      (subst (AreNames (rec_at s format.names_file)) (sym (name_mark s t id now.change)) well.names)

  pub edge_well : KeepsRules t shape most empty
  edge_well = record {
    ranges = now.ranges;
    split = λ f is. ⊎_elim (λ (e : f ≡ format.relationships_file). subst (λ g. (free : List ℕ) × IsSplit t g (is_live t g) free) (sym e) (now.free, now.split))
        (λ (ne : f ≢ format.relationships_file). let k = well.split f is in (k.0, split_same s t id now.change f k.0 (meta_of_reused f is) ne k.1))
        (nat_cases f format.relationships_file);
    kept = λ f is no_reuse. subst (λ (m : Meta). m.live ≡ m.high)
        (sym (ap metas.meta_of (meta_same s t id now.change f (λ e. true≢false (sym (ap is_reused e) ∙ no_reuse))))) (well.kept f is no_reuse);
    linked = linked;
    grouped = grouped;
    exact = λ g row is kind. now.exact g row (ap (λ (f : ℕ → Option GroupRow). f g) (sym (groups_same s t id now.change)) ∙ is)
        (sym (kind_same s t id now.change format.groups_file g refl (λ e. omega arith)) ∙ kind);
    properties = properties;
    named = named;
    defined = defined_stay s t (index_same s t id now.change) (let e = name_mark s t id now.change in omega (arith, e)) well.defined;
    names = names;
    degrees = record {
      each = λ n some. now.counted n (λ z. some (kinds n ∙ z));
      few = λ n is. now.few n (sym (kinds n) ∙ is);
    };
  }
