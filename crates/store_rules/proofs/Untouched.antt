-- The rules where no relationship, group, property or block changed.
use Rattle.std.proofs.Common.{List, ◌≡◌, ◌≢◌, ℕ, ◌≤◌, Bool, true, false, nat_eq, Option, Some, [], ◌∷◌, sym, ap, ◌∙◌, subst, inl, inr, refl}
use Rattle.std.specs.List.{list_any}
use Rattle.std.proofs.lemmas.Bool.{true≢false}
use Rattle.rec_bytes.specs.declared.key.Key.{Key}
use Rattle.rec_bytes.specs.Format as format
use Rattle.rec_bytes.specs.RecordFiles.{is_meta_file}
use Rattle.store_rules.specs.Rules.{AreCounted, HasCounts, HaveProperties, Head, IsEnd, IsGrouped, IsLinked, IsListed, KeepsCounts, KeepsDegrees, KeepsGroups}
use Rattle.store_rules.specs.Rules.{KeepsLinks, Owns, StandsAt, degree_of, property_files}
use Rattle.store_rules.specs.Views.{GroupRow, NodeRow, Records, RelRow, degree, first_link, group_at, group_in, high, kind_at, rec_at, rel_at, rel_in, row_if}
use Rattle.store_rules.proofs.Changes as ch
use Rattle.store_rules.proofs.Changes.{IsChanged}
use Rattle.store_rules.proofs.Frames.{IsSame, files_same, grouped_stays, kind_same}

-- a head stands in a record of the nodes or of the groups
pub head_file : (kind : ℕ → ℕ) (groups : ℕ → Option GroupRow) (h : Head) (n : ℕ) → Owns kind groups h n → is_meta_file h.key.file ≡ true
head_file kind groups h n (inl k) = ap (λ (z : Head). is_meta_file z.key.file) k.is
head_file kind groups h n (inr k) = ap (λ (z : Key). is_meta_file z.file) k.key

-- the files of relationships, groups, properties and blocks
abbrev pub is_beside : ℕ → Bool
is_beside file = list_any (nat_eq file) (format.relationships_file ∷ format.groups_file ∷ format.properties_file ∷ format.strings_file ∷ [])

module _ (s t : Records) (file id : ℕ) (change : IsChanged s t file id) (apart : is_beside file ≡ false) where
  other_file : (f : ℕ) → is_beside f ≡ true → f ≢ file
  other_file f is e = true≢false (sym is ∙ ap is_beside e ∙ apart)

  same : (f : ℕ) → is_meta_file f ≡ true → is_beside f ≡ true → IsSame s t f
  same f is come = ch.same_file s t file id change f is (other_file f come)

  pub rels_same : rel_at t ≡ rel_at s
  rels_same = λ i x. row_if (kind_same s t format.relationships_file (same format.relationships_file refl refl) x i)
      (rel_in ((same format.relationships_file refl refl).each x i) x)

  pub groups_same : group_at t ≡ group_at s
  groups_same = λ i x. row_if (kind_same s t format.groups_file (same format.groups_file refl refl) x i)
      (group_in ((same format.groups_file refl refl).each x i) x)

  group_file_same : rec_at t format.groups_file ≡ rec_at s format.groups_file
  group_file_same = λ i x. (same format.groups_file refl refl).each x i

  pub properties_same : property_files t ≡ property_files s
  properties_same = files_same s t (same format.properties_file refl refl) (same format.strings_file refl refl)

  pub rel_mark : high t format.relationships_file ≡ high s format.relationships_file
  rel_mark = ch.mark_same s t file id change format.relationships_file (other_file format.relationships_file refl)

  -- the third rule, where the heads of the nodes list what stood at them, and the ends of relationships are the nodes that they were
  pub linked : ((x n : ℕ) (row : RelRow) → rel_at s x ≡ Some row → IsEnd n row → kind_at t format.nodes_file n ≡ kind_at s format.nodes_file n)
      → ((h : Head) (n : ℕ) → Owns (kind_at t format.nodes_file) (group_at s) h n → IsListed t h n (StandsAt (rel_at s) (group_at s) h))
      → KeepsLinks s → KeepsLinks t
  linked stay each old = subst (λ r. IsLinked t (kind_at t format.nodes_file) r (group_at t)) (sym rels_same)
      (subst (λ g. IsLinked t (kind_at t format.nodes_file) (rel_at s) g) (sym groups_same) (record {
        ends = λ x row e. let k = old.ends x row e in record {
          from = λ q. k.from (sym (stay x row.from row e (inl refl)) ∙ q);
          to = λ q. k.to (sym (stay x row.to row e (inr refl)) ∙ q);
        };
        typed = λ x n row e at d. old.typed x n row e at (sym (stay x n row e at) ∙ d);
        listed = record { each = each };
      }))

  -- the fourth, where dense nodes are those that they were
  pub grouped : {empty : List ℕ} → ((n g : ℕ) (row : GroupRow) → group_at s g ≡ Some row → row.owner ≡ n → kind_at s format.nodes_file n ≡ format.dense
      → kind_at t format.nodes_file n ≡ format.dense)
      → ((n : ℕ) → kind_at t format.nodes_file n ≡ format.dense → (kind_at s format.nodes_file n ≡ format.dense) × (first_link t n ≡ first_link s n))
      → KeepsGroups s empty
      → KeepsGroups t empty
  grouped {empty} there back old = subst (λ r. IsGrouped (kind_at t format.nodes_file) (first_link t) r (group_at t) empty) (sym group_file_same)
      (subst (λ g. IsGrouped (kind_at t format.nodes_file) (first_link t) (rec_at s format.groups_file) g empty) (sym groups_same)
      (grouped_stays (kind_at s format.nodes_file) (kind_at t format.nodes_file) (first_link s) (first_link t) (rec_at s format.groups_file) (group_at s)
      there back old))

  -- and counted groups stay exact
  pub exact : KeepsCounts s
      → KeepsCounts t
  exact old g row is kind = subst (λ r. HasCounts r row (rel_at t) (high t format.relationships_file)) (sym ((same format.groups_file refl refl).each g))
      (subst (λ r. HasCounts (rec_at s format.groups_file g) row r (high t format.relationships_file)) (sym rels_same)
      (subst (λ m. HasCounts (rec_at s format.groups_file g) row (rel_at s) m) (sym rel_mark)
      (old g row (ap (λ (f : ℕ → Option GroupRow). f g) (sym groups_same) ∙ is) (sym (kind_same s t format.groups_file (same format.groups_file refl refl) g)
      ∙ kind))))

  -- the fifth, by nodes and names that may have changed
  pub properties : (nodes : ℕ → Option NodeRow) (names : ℕ) → HaveProperties (property_files s) nodes (rel_at s) names
      → HaveProperties (property_files t) nodes (rel_at t) names
  properties nodes names old = subst (λ r. HaveProperties (property_files t) nodes r names) (sym rels_same)
      (subst (λ f. HaveProperties f nodes (rel_at s) names) (sym properties_same) old)

  -- the seventh, by the kinds and degrees of the nodes
  pub degrees : (most : ℕ) → ((n : ℕ) → kind_at t format.nodes_file n ≢ format.free_kind → degree t n ≡ degree_of (rel_at s) (high s format.relationships_file)
      n)
      → ((n : ℕ) → kind_at t format.nodes_file n ≡ format.sparse → degree t n ≤ most)
      → KeepsDegrees t most
  degrees most each few = subst (λ r. AreCounted (kind_at t format.nodes_file) (degree t) r (high t format.relationships_file) most) (sym rels_same)
      (subst (λ m. AreCounted (kind_at t format.nodes_file) (degree t) (rel_at s) m most) (sym rel_mark) (record { each = each; few = few }))
