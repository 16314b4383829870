-- A rule stays where what it reads stays, and all rules are the parts that they were.
use Rattle.std.proofs.Common.{◌≡◌, inl, inr, ℕ, Bool, true, List, Option, nat_eq, sym, ap, ◌∙◌, subst, refl, ◌<◌, length, arith}
use Rattle.std.specs.Prelude.{not}
use Rattle.store_rules.specs.Rows.{ids}
use Rattle.rec_bytes.specs.declared.meta.Meta.{Meta}
use Rattle.rec_bytes.specs.declared.record.Rec.{Rec}
use Rattle.rec_bytes.specs.declared.shape.Shape.{Shape}
use Rattle.rec_bytes.specs.Format as format
use Rattle.rec_bytes.specs.Meta as metas
use Rattle.rec_bytes.specs.Record.{field}
use Rattle.rec_bytes.specs.Space.{meta_in}
use Rattle.store_rules.specs.Chains.{IsChain, IsWalk, next_in, prev_in}
use Rattle.store_rules.specs.Indexes.{AreIndexed, wanted_in}
use Rattle.store_rules.specs.Properties.{property_records}
use Rattle.store_rules.specs.Rules.{AreCounted, AreExact, AreNamed, AreNames, HaveProperties, Head, IsGrouped, IsLinked, IsListed, IsSplit, KeepsCounts}
use Rattle.store_rules.specs.Rules.{KeepsDegrees, KeepsGroups, KeepsLabels, KeepsLinks, KeepsNames, KeepsRules, Owns, PropertyFiles, StandsAt, first_of}
use Rattle.store_rules.specs.Rules.{property_files}
use Rattle.store_rules.specs.RuleList.{AreSame, IsSameFile, IsSplitFile, KeepsThose, Rule, Slack, but_index, holds, is_local, reads}
use Rattle.store_rules.specs.RuleList.Rule.{Counts, Defined, Degrees, Grouped, Labels, Linked, Names, Properties, Ranges, Split, Indexed}
use Rattle.store_rules.specs.Views.{GroupRow, NodeRow, Records, RelRow, group_at, group_in, high, is_live, kind_at, kind_in, node_at, node_in, rel_at, rel_in}
use Rattle.store_rules.specs.Views.{row_if}
use Rattle.store_rules.proofs.DefinedStays.{defined_stay}
use Rattle.store_rules.proofs.IndexStays.{indexes_stay, wanted_same}

module _ (s t : Records) where
  -- ---- the views of a file

  meta_same : (file : ℕ) → IsSameFile s t file → meta_in t file ≡ meta_in s file
  meta_same file same = ap (λ (r : Rec). metas.meta_of r) same.meta

  high_same : (file : ℕ) → IsSameFile s t file → high t file ≡ high s file
  high_same file same = ap (λ (m : Meta). m.high) (meta_same file same)

  kind_same : (file : ℕ) → IsSameFile s t file → kind_at t file ≡ kind_at s file
  kind_same file same = let mark = high_same file same in λ i x. kind_in (mark i) (same.records i x) x

  live_same : (file : ℕ) → IsSameFile s t file → is_live t file ≡ is_live s file
  live_same file same = let kind = kind_same file same in λ i x. not (nat_eq (kind i x) 0)

  nodes_same : IsSameFile s t format.nodes_file → node_at t ≡ node_at s
  nodes_same same = let kind = kind_same format.nodes_file same in λ i x. row_if (kind i x) (node_in (same.records i x) x)

  rels_same : IsSameFile s t format.relationships_file → rel_at t ≡ rel_at s
  rels_same same = let kind = kind_same format.relationships_file same in λ i x. row_if (kind i x) (rel_in (same.records i x) x)

  groups_same : IsSameFile s t format.groups_file → group_at t ≡ group_at s
  groups_same same = let kind = kind_same format.groups_file same in λ i x. row_if (kind i x) (group_in (same.records i x) x)

  -- ---- each rule

  split_stays : (file : ℕ) → IsSameFile s t file → IsSplitFile s file → IsSplitFile t file
  split_stays file same h = record {
    split = λ is. let k = h.split is in (k.0, by k.0 k.1);
    kept = λ is not. subst (λ (m : Meta). m.live ≡ m.high) (sym (meta_same file same)) (h.kept is not);
  }
    where
      by : (free : List ℕ) → IsSplit s file (is_live s file) free → IsSplit t file (is_live t file) free
      by free k = record {
        walk = subst (λ (p : (ℕ → Rec) × ℕ). IsWalk (λ x. field 4 (p.0 x) format.free_next) p.1 free)
            (λ i. (sym same.records i, sym (ap (λ (m : Meta). m.free) (meta_same file same)) i)) k.walk;
        low = λ x m. subst (λ (n : ℕ). x < n) (sym (high_same file same)) (k.low x m);
        only = λ x m. ap (λ (f : ℕ → Bool). f x) (live_same file same) ∙ k.only x m;
        all = λ x lt dead. k.all x (subst (λ (n : ℕ). x < n) (high_same file same) lt) (sym (ap (λ (f : ℕ → Bool). f x) (live_same file same)) ∙ dead);
        exact = ap (λ (m : Meta). m.live) (meta_same file same) ∙ k.exact ∙ (λ i. length (ids (sym (live_same file same) i) (sym (high_same file same) i)));
      }

  linked_stays : IsSameFile s t format.nodes_file → IsSameFile s t format.relationships_file → IsSameFile s t format.groups_file
      → KeepsLinks s → KeepsLinks t
  linked_stays nodes rels groups h =
      subst (λ (v : (ℕ → ℕ) × ((ℕ → Option RelRow) × (ℕ → Option GroupRow))). IsLinked t v.0 v.1.0 v.1.1)
      (λ i. (sym (kind_same format.nodes_file nodes) i, (sym (rels_same rels) i, sym (groups_same groups) i)))
      (record { ends = h.ends; typed = h.typed; listed = record { each = λ head node owns. again head node owns (h.listed.each head node owns) } })
    where
      first_same : (head : Head) (node : ℕ) → Owns (kind_at s format.nodes_file) (group_at s) head node → first_of t head ≡ first_of s head
      first_same head node (inl own) = rw own.is (ap (λ (f : ℕ → Rec). field 4 (f node) format.node_first_link) nodes.records)
      first_same head node (inr own) = ap (λ k. field 4 (t k) head.field) own.key ∙ ap (λ (f : ℕ → Rec). field 4 (f own.row.id) head.field) groups.records
          ∙ sym (ap (λ k. field 4 (s k) head.field) own.key)

      again : (head : Head) (node : ℕ) → Owns (kind_at s format.nodes_file) (group_at s) head node
          → IsListed s head node (StandsAt (rel_at s) (group_at s) head) → IsListed t head node (StandsAt (rel_at s) (group_at s) head)
      again head node owns k = record {
        members = k.members;
        chain = subst (λ (p : (ℕ → Rec) × ℕ). IsChain (λ x. next_in (p.0 x) node) (λ x. prev_in (p.0 x) node) format.nil p.1 k.members)
            (λ i. (sym rels.records i, sym (first_same head node owns) i)) k.chain;
        only = k.only;
        all = k.all;
      }

  grouped_stays : (empty : List ℕ) → IsSameFile s t format.nodes_file → IsSameFile s t format.groups_file
      → KeepsGroups s empty
      → KeepsGroups t empty
  grouped_stays empty nodes groups h =
      subst (λ (v : ((ℕ → ℕ) × (ℕ → Rec)) × ((ℕ → Rec) × (ℕ → Option GroupRow))). IsGrouped v.0.0 (λ n. field 4 (v.0.1 n) format.node_first_link)
      v.1.0 v.1.1 empty)
      (λ i. ((sym (kind_same format.nodes_file nodes) i, sym nodes.records i), (sym groups.records i, sym (groups_same groups) i))) h

  counts_stay : IsSameFile s t format.groups_file → IsSameFile s t format.relationships_file
      → KeepsCounts s
      → KeepsCounts t
  counts_stay groups rels h =
      subst (λ (v : ((ℕ → ℕ) × (ℕ → Rec)) × ((ℕ → Option GroupRow) × ((ℕ → Option RelRow) × ℕ))). AreExact v.0.0 v.0.1 v.1.0 v.1.1.0 v.1.1.1)
      (λ i. (
        (sym (kind_same format.groups_file groups) i, sym groups.records i),
        (
          sym (groups_same groups) i,
          (
            sym (rels_same rels) i,
            sym
                (high_same format.relationships_file rels) i,
          ),
        ),
      )) h

  names_stay : IsSameFile s t format.names_file → KeepsNames s
      → KeepsNames t
  names_stay names h = subst (λ (v : (ℕ → Rec) × ℕ). AreNames v.0 v.1) (λ i. (sym names.records i, sym (high_same format.names_file names) i)) h

  labels_stay : IsSameFile s t format.nodes_file → IsSameFile s t format.relationships_file → IsSameFile s t format.names_file
      → KeepsLabels s → KeepsLabels t
  labels_stay nodes rels names h = subst (λ (v : (ℕ → Option NodeRow) × ((ℕ → Option RelRow) × ℕ)). AreNamed v.0 v.1.0 v.1.1)
      (λ i. (sym (nodes_same nodes) i, (sym (rels_same rels) i, sym (high_same format.names_file names) i))) h

  degrees_stay : (most : ℕ) → IsSameFile s t format.nodes_file → IsSameFile s t format.relationships_file
      → KeepsDegrees s most
      → KeepsDegrees t most
  degrees_stay most nodes rels h =
      subst (λ (v : ((ℕ → ℕ) × (ℕ → Rec)) × ((ℕ → Option RelRow) × ℕ)). AreCounted v.0.0 (λ n. field 4 (v.0.1 n) format.node_degree) v.1.0 v.1.1 most)
      (λ i. ((sym (kind_same format.nodes_file nodes) i, sym nodes.records i), (sym (rels_same rels) i, sym (high_same format.relationships_file rels) i))) h

  files_same : IsSameFile s t format.properties_file → IsSameFile s t format.strings_file → property_files t ≡ property_files s
  files_same properties strings = λ i. record {
    kind = kind_same format.properties_file properties i;
    property = properties.records i;
    string = strings.records i;
    property_live = live_same format.properties_file properties i;
    string_live = live_same format.strings_file strings i;
  }

  -- a rule stays where the files that it reads stay
  pub stays : (rule : Rule) (shape : Shape) (slack : Slack) → is_local rule ≡ true → AreSame s t (reads rule) → holds rule s shape slack
      → holds rule t shape slack
  stays Ranges shape slack local same h = absurd cc
  stays (Split file) shape slack local same h = split_stays file same.0 h
  stays Linked shape slack local same h = linked_stays same.0 same.1.0 same.1.1.0 h
  stays Grouped shape slack local same h = grouped_stays slack.empty same.0 same.1.0 h
  stays Counts shape slack local same h = counts_stay same.0 same.1.0 h
  stays Properties shape slack local same h =
      subst (λ (v : PropertyFiles × ((ℕ → Option NodeRow) × ((ℕ → Option RelRow) × ℕ))). HaveProperties v.0 v.1.0 v.1.1.0 v.1.1.1)
      (λ i. (
        sym (files_same same.1.1.0 same.1.1.1.0) i,
        (
          sym (nodes_same same.0) i,
          (
            sym (rels_same same.1.0) i,
            sym
                (high_same format.names_file same.1.1.1.1.0) i,
          ),
        ),
      )) h
  stays Labels shape slack local same h = labels_stay same.0 same.1.0 same.1.1.0 h
  stays Defined shape slack local same h = defined_stay s t same.0 (let e = high_same format.names_file same.1.0 in omega (arith, e)) h
  stays Names shape slack local same h = names_stay same.0 h
  stays Degrees shape slack local same h = degrees_stay slack.most same.0 same.1.0 h
  stays Indexed shape slack local same h =
      let files : property_records t ≡ property_records s = λ i. record { properties = same.1.0.records i; strings = same.1.1.0.records i } in
      indexes_stay s t same.1.1.1.0 (wanted_in t) (subst (AreIndexed s) (sym (wanted_same s t (nodes_same same.0) files)) h)

-- ---- the first seven rules, as one record and by name

pub by_name : (records : Records) (shape : Shape) (most : ℕ) (empty : List ℕ) → KeepsRules records shape most empty
    → KeepsThose but_index records shape (record { most = most; empty = empty })
by_name records shape most empty well Ranges e = well.ranges
by_name records shape most empty well (Split file) e = record { split = well.split file; kept = well.kept file }
by_name records shape most empty well Linked e = well.linked
by_name records shape most empty well Grouped e = well.grouped
by_name records shape most empty well Counts e = well.exact
by_name records shape most empty well Properties e = well.properties
by_name records shape most empty well Labels e = well.named
by_name records shape most empty well Defined e = well.defined
by_name records shape most empty well Names e = well.names
by_name records shape most empty well Degrees e = well.degrees
by_name records shape most empty well Indexed e = absurd cc

pub all_of : (records : Records) (shape : Shape) (slack : Slack) → KeepsThose but_index records shape slack → KeepsRules records shape slack.most slack.empty
all_of records shape slack all = record {
  ranges = all Ranges refl;
  split = λ file is. (all (Split file) refl).split is;
  kept = λ file is not. (all (Split file) refl).kept is not;
  linked = all Linked refl;
  grouped = all Grouped refl;
  exact = all Counts refl;
  properties = all Properties refl;
  named = all Labels refl;
  defined = all Defined refl;
  names = all Names refl;
  degrees = all Degrees refl;
}
