-- One more name keeps the rules, and is the last name of the graph.
use Rattle.std.proofs.Common.{◌≡◌, ◌⊎◌, ℕ, suc, ◌+◌, ◌<◌, ◌≤◌, Option, None, Some, List, [], ◌∷◌, ◌++◌, sym, ap, ◌∙◌, subst, inl, inr, ⊎_elim, arith, refl}
use Rattle.std.specs.List.{Contains}
use Rattle.std.proofs.lemmas.Bool.{cases_lt, false≢true}
use Rattle.plain_graph.specs.Graph.{edge_number, node_number}
use Rattle.plain_graph.specs.Names.{IsShortName}
use Rattle.rec_bytes.specs.declared.record.Rec.{Rec}
use Rattle.rec_bytes.specs.declared.key.Key.{Key}
use Rattle.rec_bytes.specs.declared.shape.Shape.{Shape}
use Rattle.rec_bytes.specs.Format as format
use Rattle.rec_bytes.specs.Meta.{IsMetaInRange}
use Rattle.rec_bytes.specs.Record.{field}
use Rattle.rec_bytes.specs.RecordFiles.{meta_key_of}
use Rattle.rec_bytes.specs.Space.{meta_in}
use Rattle.store_rules.specs.Graph.{edge_from, edge_of, graph_of, names_of, node_from, node_of}
use Rattle.store_rules.specs.Properties.{properties_from, property_records}
use Rattle.store_rules.specs.Ranges.{Fits}
use Rattle.store_rules.specs.Rows.{collect}
use Rattle.store_rules.specs.Rules.{AreNamed, HaveProperties, Head, IsListed, KeepsLabels, KeepsNames, KeepsProperties, KeepsRules, Owns, StandsAt, node_first}
use Rattle.store_rules.specs.Rules.{property_files, property_owner, rel_first}
use Rattle.store_rules.specs.Views.{NodeRow, Records, RelRow, group_at, high, kind_at, node_at, node_in, rec_at, rel_at, row_if, text_of}
use Rattle.store_rules.proofs.Changes as ch
use Rattle.store_rules.proofs.Changes.{IsChanged}
use Rattle.store_rules.proofs.DefinedStays.{changed_defined}
use Rattle.store_rules.proofs.Frames.{IsSame, kind_same}
use Rattle.store_rules.proofs.NameRows.{contains_row, rows_same}
use Rattle.store_rules.proofs.PropertyLists.{map_of-names, properties_from-walk}
use Rattle.store_rules.proofs.RowLaws.{collect_same}
use Rattle.store_rules.proofs.Untouched as un
use Rattle.store_rules.proofs.Untouched.{head_file}

-- The record behind the last name is a name now, and the meta record counts it.
pub record IsNamed (s t : Records) (shape : Shape) (rec : Rec) (text : List ℕ) : Type 0 where
  pub change : IsChanged s t format.names_file (high s format.names_file)
  pub here : rec_at t format.names_file (high s format.names_file) ≡ rec
  pub mark : high t format.names_file ≡ high s format.names_file + 1
  pub live : (meta_in t format.names_file).live ≡ high t format.names_file
  pub meta : IsMetaInRange shape format.names_file (t (meta_key_of format.names_file))
  pub fits : Fits (high t) format.names_file rec
  pub is : text_of rec ≡ text
  pub form : IsShortName text
  pub fresh : ¬ Contains (names_of s) text

module _ (s t : Records) (shape : Shape) (rec : Rec) (text : List ℕ) (made : IsNamed s t shape rec text) where
  abbrev count : ℕ
  count = high s format.names_file

  nodes_same : IsSame s t format.nodes_file
  nodes_same = ch.same_file s t format.names_file count made.change format.nodes_file refl (λ e. omega arith)

  kinds : kind_at t format.nodes_file ≡ kind_at s format.nodes_file
  kinds = λ i x. kind_same s t format.nodes_file nodes_same x i

  node_file : rec_at t format.nodes_file ≡ rec_at s format.nodes_file
  node_file = λ i x. nodes_same.each x i

  node_mark : high t format.nodes_file ≡ high s format.nodes_file
  node_mark = ch.mark_same s t format.names_file count made.change format.nodes_file (λ e. omega arith)

  pub node_rows : node_at t ≡ node_at s
  node_rows = λ i x. row_if (kinds i x) (node_in (node_file i x) x)

  pub other_name : (x : ℕ) → x < count → rec_at t format.names_file x ≡ rec_at s format.names_file x
  other_name x lt = ch.other_record s t format.names_file count made.change format.names_file x refl (λ _ e. omega arith)

  text_here : text_of (rec_at t format.names_file count) ≡ text
  text_here = ap text_of made.here ∙ made.is

  low_or_last : (x : ℕ) → x < high t format.names_file → (x < count) ⊎ (x ≡ count)
  low_or_last x lt = let m = made.mark in ⊎_elim (λ (k : x < count). inl k) (λ (k : count ≤ x). inr (omega arith)) (cases_lt x count)

  module _ {most : ℕ} {empty : List ℕ} (well : KeepsRules s shape most empty) where
    listed : (h : Head) (n : ℕ) → Owns (kind_at t format.nodes_file) (group_at s) h n → IsListed t h n (StandsAt (rel_at s) (group_at s) h)
    listed h n o =
        let old : Owns (kind_at s format.nodes_file) (group_at s) h n = subst (λ (k : ℕ → ℕ). Owns k (group_at s) h n) kinds o in
        ch.listed_kept s t format.names_file count made.change h n (StandsAt (rel_at s) (group_at s) h) (λ e. omega arith)
        (head_file (kind_at s format.nodes_file) (group_at s) h n old) (λ e. absurd (other_head old e)) (well.linked.listed.each h n old)
      where
        other_head : Owns (kind_at s format.nodes_file) (group_at s) h n → h.key.file ≡ format.names_file → ⊥
        other_head (inl k) e = let f = ap (λ (z : Head). z.key.file) k.is in omega arith
        other_head (inr k) e = let f = ap (λ (z : Key). z.file) k.key in omega arith

    properties : KeepsProperties t
    properties = un.properties s t format.names_file count made.change refl (node_at t) (high t format.names_file)
        (subst (λ (n : ℕ → Option NodeRow). HaveProperties (property_files s) n (rel_at s) (high t format.names_file)) (sym node_rows) (record {
          held = well.properties.held;
          keys = record {
            few = well.properties.keys.few;
            named = λ f x first p e i. let k = well.properties.keys.named f x first p e i in let m = made.mark in omega arith;
            distinct = well.properties.keys.distinct;
          };
          blocks = well.properties.blocks;
          texts = well.properties.texts;
        }))

    named : KeepsLabels t
    named = subst (λ n. AreNamed n (rel_at t) (high t format.names_file)) (sym node_rows)
        (subst (λ r. AreNamed (node_at s) r (high t format.names_file)) (sym (un.rels_same s t format.names_file count made.change refl)) (record {
          nodes_named = λ x row e. let k = well.named.nodes_named x row e in let m = made.mark in omega arith;
          rels_named = λ x row e. let k = well.named.rels_named x row e in let m = made.mark in omega arith;
        }))

    -- no name before has the text
    not_before : (x : ℕ) → x < count → text_of (rec_at s format.names_file x) ≡ text → ⊥
    not_before x lt e = made.fresh (subst (Contains (names_of s)) e (contains_row (λ y. text_of (rec_at s format.names_file y)) count x lt))

    old_text : (x : ℕ) → x < count → text_of (rec_at t format.names_file x) ≡ text_of (rec_at s format.names_file x)
    old_text x lt = ap text_of (other_name x lt)

    names : KeepsNames t
    names = record {
      form = λ x lt. ⊎_elim (λ (k : x < count). subst IsShortName (sym (old_text x k)) (well.names.form x k))
          (λ (k : x ≡ count). subst IsShortName (sym (ap (λ z. text_of (rec_at t format.names_file z)) k ∙ text_here)) made.form) (low_or_last x lt);
      distinct = λ x y a b e. ⊎_elim
          (λ (k : x < count). ⊎_elim (λ (l : y < count). well.names.distinct x y k l (sym (old_text x k) ∙ e ∙ old_text y l))
          (λ (l : y ≡ count). absurd (not_before x k (sym (old_text x k) ∙ e ∙ ap (λ z. text_of (rec_at t format.names_file z)) l ∙ text_here)))
          (low_or_last y b))
          (λ (k : x ≡ count). ⊎_elim (λ (l : y < count). absurd (not_before y l (sym (old_text y l) ∙ sym e ∙ ap (λ z. text_of (rec_at t format.names_file z)) k
          ∙ text_here)))
          (λ (l : y ≡ count). k ∙ sym l) (low_or_last y b)) (low_or_last x a);
    }

    pub name_well : KeepsRules t shape most empty
    name_well = record {
      ranges = ch.in_range s t format.names_file count made.change shape made.meta (λ _. subst (Fits (high t) format.names_file) (sym made.here) made.fits)
          well.ranges;
      split = ch.split_all s t format.names_file count made.change (λ e. absurd (false≢true e)) well.split;
      kept = ch.kept_all s t format.names_file count made.change (λ _. made.live) well.kept;
      linked = un.linked s t format.names_file count made.change refl (λ x n row e i. ap (λ (k : ℕ → ℕ). k n) kinds) listed well.linked;
      grouped = un.grouped s t format.names_file count made.change refl (λ n g row e o d. ap (λ (k : ℕ → ℕ). k n) kinds ∙ d)
          (λ n d. (sym (ap (λ (k : ℕ → ℕ). k n) kinds) ∙ d, ap (λ r. field 4 r format.node_first_link) (nodes_same.each n))) well.grouped;
      exact = un.exact s t format.names_file count made.change refl well.exact;
      properties = properties;
      named = named;
      defined = changed_defined s t format.names_file count made.change (λ e. omega arith) well.defined;
      names = names;
      degrees = un.degrees s t format.names_file count made.change refl most
          (λ n some. ap (λ r. field 4 r format.node_degree) (nodes_same.each n) ∙ well.degrees.each n (λ z. some (ap (λ (k : ℕ → ℕ). k n) kinds ∙ z)))
          (λ n d. subst (λ m. m ≤ most) (sym (ap (λ r. field 4 r format.node_degree) (nodes_same.each n)))
          (well.degrees.few n (sym (ap (λ (k : ℕ → ℕ). k n) kinds) ∙ d)));
    }

    files_stay : property_records t ≡ property_records s
    files_stay = ch.records_stay s t format.names_file count made.change (λ e. omega arith) (λ e. omega arith)

    -- each key of an element's properties is a name that was there
    same_properties : (f x first : ℕ) → property_owner (node_at s) (rel_at s) f x ≡ Some first
        → properties_from (rec_at t format.names_file) (property_records s) first ≡ properties_from (rec_at s format.names_file) (property_records s) first
    same_properties f x first owned =
        let rule = well.properties in
        let ps = rule.held.lists f x in
        let walk = rule.held.walk f x first owned in
        let few = rule.keys.few f x first owned in
        properties_from-walk (rec_at t format.names_file) (property_records s) first ps walk few
        ∙ map_of-names (rec_at s format.names_file) (rec_at t format.names_file) (property_records s) ps
        (λ p i. old_text _ (rule.keys.named f x first p owned i))
        ∙ sym (properties_from-walk (rec_at s format.names_file) (property_records s) first ps walk few)

    node_text : (x : ℕ) → node_of t x ≡ node_of s x
    node_text x = (λ i. node_from (rec_at t format.names_file) (files_stay i) (node_rows i x))
        ∙ on (node_at s x) (λ row e. well.named.nodes_named x row e) (λ row e. same_properties format.nodes_file x row.property (ap node_first e))
      where
        on : (o : Option NodeRow) → ((row : NodeRow) → o ≡ Some row → row.label < count)
            → ((row : NodeRow) → o ≡ Some row → properties_from (rec_at t format.names_file) (property_records s) row.property ≡ properties_from
            (rec_at s format.names_file) (property_records s) row.property)
            → node_from (rec_at t format.names_file) (property_records s) o ≡ node_from (rec_at s format.names_file) (property_records s) o
        on None h k = refl
        on (Some row) h k = λ i. Some (record { id = row.id; label = old_text row.label (h row refl) i; properties = k row refl i })

    pub nodes_stay : (graph_of t).nodes ≡ (graph_of s).nodes
    nodes_stay = collect_same node_number (node_of s) (node_of t) (high t format.nodes_file) (λ x _. node_text x) ∙ ap (collect (node_of s)) node_mark

    edge_text : (x : ℕ) → edge_of t x ≡ edge_of s x
    edge_text x = (λ i. edge_from (rec_at t format.names_file) (files_stay i) (un.rels_same s t format.names_file count made.change refl i x))
        ∙ on (rel_at s x) (λ row e. well.named.rels_named x row e) (λ row e. same_properties format.relationships_file x row.property (ap rel_first e))
      where
        on : (o : Option RelRow) → ((row : RelRow) → o ≡ Some row → row.label < count)
            → ((row : RelRow) → o ≡ Some row → properties_from (rec_at t format.names_file) (property_records s) row.property ≡ properties_from
            (rec_at s format.names_file) (property_records s) row.property)
            → edge_from (rec_at t format.names_file) (property_records s) o ≡ edge_from (rec_at s format.names_file) (property_records s) o
        on None h k = refl
        on (Some row) h k = λ i. Some (record {
          id = row.id;
          label = old_text row.label (h row refl) i;
          from = row.from;
          to = row.to;
          properties = k row refl i;
        })

    pub edges_stay : (graph_of t).edges ≡ (graph_of s).edges
    edges_stay = collect_same edge_number (edge_of s) (edge_of t) (high t format.relationships_file) (λ x _. edge_text x)
        ∙ ap (collect (edge_of s)) (un.rel_mark s t format.names_file count made.change refl)

    pub names_more : names_of t ≡ names_of s ++ text ∷ []
    names_more = ap (collect (λ x. Some (text_of (rec_at t format.names_file x)))) (made.mark ∙ add count)
        ∙ ap (λ xs. xs ++ text_of (rec_at t format.names_file count) ∷ [])
        (rows_same (λ x. text_of (rec_at s format.names_file x)) (λ x. text_of (rec_at t format.names_file x)) count (λ x lt. old_text x lt))
        ∙ ap (λ e. names_of s ++ e ∷ []) text_here
      where
        add : (n : ℕ) → n + 1 ≡ suc n
        add n = omega arith
