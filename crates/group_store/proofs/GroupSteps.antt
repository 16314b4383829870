-- Numbers of groups, of relationships and of a node that are set one after another: what stays of the rows, and of the first and second rule.
use Rattle.std.proofs.Common.{◌≡◌, ◌≢◌, ◌⊎◌, ℕ, ◌+◌, ◌<◌, ◌≤◌, ◌^◌, nat_eq, not, true, List, sym, ap, ◌∙◌, subst, inl, inr, ⊎_elim, arith, refl}
use Rattle.rec_bytes.specs.declared.key.Key.{Key}
use Rattle.rec_bytes.specs.declared.record.Rec.{Rec}
use Rattle.rec_bytes.specs.declared.shape.Shape.{Shape}
use Rattle.rec_bytes.specs.Format as format
use Rattle.rec_bytes.specs.Meta as metas
use Rattle.rec_bytes.specs.Record.{field, with_field}
use Rattle.rec_bytes.specs.RecordFiles.{is_meta_file, meta_key_of}
use Rattle.rec_bytes.specs.Space.{meta_in, put}
use Rattle.rec_bytes.proofs.Numbers.{field-with_field_other}
use Rattle.rec_bytes.proofs.Spaces.{put_other, put_other_file, put_same}
use Rattle.store_rules.specs.Chains.{In}
use Rattle.store_rules.specs.Ranges.{AreInRange, Fits}
use Rattle.store_rules.specs.Rules.{Head, IsSplit, next_free, node_head}
use Rattle.store_rules.specs.Views.{Records, high, is_group_kind, is_live, key_in, kind_at, rec_at}
use Rattle.store_rules.proofs.ChainLaws.{walk_stays}
use Rattle.store_rules.proofs.Changes as ch
use Rattle.store_rules.proofs.Changes.{IsChanged}
use Rattle.store_rules.proofs.Frames.{split_same}
use Rattle.store_rules.proofs.LinkFits.{IsLink, IsLow, fits_dense_first, fits_group_first, fits_group_next, fits_group_previous, fits_link}
use Rattle.store_rules.proofs.GroupLaws.{IsFirstPlace}
use Rattle.store_rules.proofs.MetaLaws.{high_fits, not_meta_key}
use Rattle.store_rules.proofs.NumberLaws.{nat_cases}
use Rattle.store_rules.proofs.ViewLaws.{group_used, kind_by, kind_low, not_live}
use Rattle.chain_edit.proofs.LinkLaws.{field-set_other, set_at}
use Rattle.group_store.proofs.Regrouping.{IsFrame, frame_both}

-- the four bytes from a place on are a number of a record that one of the changes sets
abbrev pub number_at : ℕ → ℕ → ℕ → Head
number_at file x at = record { key = key_in file x; field = at }

-- ---- one record replaced

-- the first rule, where the record fits
pub range_put : (s : Records) (shape : Shape) (file x : ℕ) (rec : Rec) → is_meta_file file ≡ true → (x < high s file → Fits (high s) file rec)
    → AreInRange s shape → AreInRange (put s (key_in file x) rec) shape
range_put s shape file x rec is fits old =
    let t : Records = put s (key_in file x) rec in
    let meta : (g : ℕ) → t (meta_key_of g) ≡ s (meta_key_of g) = λ g. put_other s (key_in file x) rec (meta_key_of g) (λ e. not_meta_key file x g is (sym e)) in
    let marks : high t ≡ high s = λ i g. (metas.meta_of (meta g i)).high in
    let change : IsChanged s t file x = record {
      is_file = is;
      others = λ key a b. put_other s (key_in file x) rec key b;
      more = let e = ap (λ (m : ℕ → ℕ). m file) marks in omega arith;
      covers = λ y lt ne. let e = ap (λ (m : ℕ → ℕ). m file) marks in omega arith;
    } in
    ch.in_range s t file x change shape (subst (λ r. metas.IsMetaInRange shape file r) (sym (meta file)) (old.metas file is))
    (λ lt. subst (Fits (high t) file) (sym (put_same s (key_in file x) rec)) (subst (λ (m : ℕ → ℕ). Fits m file rec) (sym marks)
    (fits (subst (λ (m : ℕ → ℕ). x < m file) marks lt)))) old

-- the second rule for the groups, where one in use gets another record of its kind
pub split_put : (s : Records) (x : ℕ) (rec : Rec) (free : List ℕ) → field 1 rec format.kind ≡ field 1 (rec_at s format.groups_file x) format.kind
    → kind_at s format.groups_file x ≢ 0
    → IsSplit s format.groups_file (is_live s format.groups_file) free
    → IsSplit (put s (key_in format.groups_file x) rec) format.groups_file (is_live (put s (key_in format.groups_file x) rec) format.groups_file) free
split_put s x rec free kind used k =
    let t : Records = put s (key_in format.groups_file x) rec in
    let kinds : (y : ℕ) → kind_at t format.groups_file y ≡ kind_at s format.groups_file y = λ y.
    kind_by (high s format.groups_file) (rec_at t format.groups_file y) (rec_at s format.groups_file y) y (byte y) in
    subst (λ v. IsSplit t format.groups_file v free) (sym (λ i y. not (nat_eq (kinds y i) 0))) (record {
      walk = walk_stays (next_free s format.groups_file) (next_free t format.groups_file) (meta_in s format.groups_file).free free
          (λ y i. ap (λ r. field 4 r format.free_next) (put_other s (key_in format.groups_file x) rec (key_in format.groups_file y)
          (λ e. apart y i (ap (λ (q : Key). q.id) e)))) k.walk;
      low = k.low;
      only = k.only;
      all = k.all;
      exact = k.exact;
    })
  where
    byte : (y : ℕ) → field 1 (rec_at (put s (key_in format.groups_file x) rec) format.groups_file y) format.kind ≡ field 1 (rec_at s format.groups_file y)
        format.kind
    byte y = ⊎_elim
        (λ (e : y ≡ x). ap (λ z. field 1 (rec_at (put s (key_in format.groups_file x) rec) format.groups_file z) format.kind) e ∙ ap
        (λ r. field 1 r format.kind) (put_same s (key_in format.groups_file x) rec)
        ∙ kind ∙ ap (λ z. field 1 (rec_at s format.groups_file z) format.kind) (sym e))
        (λ (ne : y ≢ x). ap (λ r. field 1 r format.kind) (put_other s (key_in format.groups_file x) rec (key_in format.groups_file y)
        (λ e. ne (ap (λ (q : Key). q.id) e)))) (nat_cases y x)

    apart : (y : ℕ) → In y free → y ≢ x
    apart y i e = used (ap (kind_at s format.groups_file) (sym e) ∙ not_live (kind_at s format.groups_file y) (k.only y i))

-- ---- several

-- the rows are as they were but for groups, and the first two rules are kept
pub record HasStepped (s t : Records) (shape : Shape) (node : ℕ) : Type 0 where
  pub frame : IsFrame s t node
  pub ranges : AreInRange t shape
  pub free : List ℕ
  pub split : IsSplit t format.groups_file (is_live t format.groups_file) free

-- one more, in each of the three files
module _ (s t : Records) (shape : Shape) (node : ℕ) (h : HasStepped s t shape node) where
  -- a number of a group, but its kind, its type and its owner
  step_group : (x at to : ℕ) → kind_at t format.groups_file x ≢ 0 → 1 ≤ at → at + 4 ≤ 64
      → (x < high t format.groups_file → Fits (high t) format.groups_file (rec_at t format.groups_file x) → Fits (high t) format.groups_file
      (with_field 4 (rec_at t format.groups_file x) at to))
      → HasStepped s (set_at t (number_at format.groups_file x at) to) shape node
  step_group x at to used low inside fits =
      let rec : Rec = with_field 4 (rec_at t format.groups_file x) at to in
      record {
        frame = frame_both s t (put t (key_in format.groups_file x) rec) node h.frame (record {
          others = λ key a b c d. put_other_file t (key_in format.groups_file x) rec key c;
          nodes = λ y n place inside one apart. refl;
          kinds = λ y ne. refl;
          here = inl refl;
          rels = λ y n place inside apart. refl;
        });
        ranges = range_put t shape format.groups_file x rec refl (λ lt. fits lt (h.ranges.fit format.groups_file x refl lt)) h.ranges;
        free = h.free;
        split = split_put t x rec h.free (field-with_field_other 4 (rec_at t format.groups_file x) at to 1 format.kind (omega arith) (inr (omega arith))) used
            h.split;
      }

  small_low : (f to : ℕ) → IsLow (high t f) to → to < 2 ^ 32
  small_low f to low = let b = high_fits t f in ⊎_elim (λ (e : to ≡ format.nil). omega arith) (λ (lt : to < high t f). omega arith) low

  kind_is : (f x kind : ℕ) → kind_at t f x ≡ kind → x < high t f → field 1 (rec_at t f x) format.kind ≡ kind
  kind_is f x kind is lt = sym (kind_low (high t f) (rec_at t f x) x lt) ∙ is

  group_is : (x : ℕ) → is_group_kind (kind_at t format.groups_file x) ≡ true → x < high t format.groups_file
      → is_group_kind (field 1 (rec_at t format.groups_file x) format.kind) ≡ true
  group_is x is lt = ap is_group_kind (sym (kind_low (high t format.groups_file) (rec_at t format.groups_file x) x lt)) ∙ is

  -- the link of a group to the one before it, and the first link of one of its chains
  pub step_previous : (x to : ℕ) → is_group_kind (kind_at t format.groups_file x) ≡ true → IsLow (high t format.groups_file) to
      → HasStepped s (set_at t (number_at format.groups_file x format.group_previous) to) shape node
  step_previous x to is low = step_group x format.group_previous to (group_used (kind_at t format.groups_file x) is) (omega arith) (omega arith)
      (λ lt. fits_group_previous (high t) (rec_at t format.groups_file x) to (small_low format.groups_file to low) low (group_is x is lt))

  pub step_next : (x to : ℕ) → is_group_kind (kind_at t format.groups_file x) ≡ true → IsLow (high t format.groups_file) to
      → HasStepped s (set_at t (number_at format.groups_file x format.group_next) to) shape node
  step_next x to is low = step_group x format.group_next to (group_used (kind_at t format.groups_file x) is) (omega arith) (omega arith)
      (λ lt. fits_group_next (high t) (rec_at t format.groups_file x) to (small_low format.groups_file to low) low (group_is x is lt))

  pub step_chain : (x at to : ℕ) → IsFirstPlace at → is_group_kind (kind_at t format.groups_file x) ≡ true → IsLow (high t format.relationships_file) to
      → HasStepped s (set_at t (number_at format.groups_file x at) to) shape node
  step_chain x at to place is low = step_group x at to (group_used (kind_at t format.groups_file x) is) within.0 within.1
      (λ lt. fits_group_first (high t) (rec_at t format.groups_file x) at to place (small_low format.relationships_file to low) low (group_is x is lt))
    where
      within : (1 ≤ at) × (at + 4 ≤ 64)
      within = ⊎_elim (λ (e : at ≡ 20). (omega arith, omega arith)) (λ k. ⊎_elim (λ (e : at ≡ 24). (omega arith, omega arith))
          (λ (e : at ≡ 28). (omega arith, omega arith)) k) place

  -- a link of a relationship
  pub step_link : (x at to : ℕ) → IsLink at → kind_at t format.relationships_file x ≡ format.related → IsLow (high t format.relationships_file) to
      → HasStepped s (set_at t (number_at format.relationships_file x at) to) shape node
  step_link x at to link is low =
      let rec : Rec = with_field 4 (rec_at t format.relationships_file x) at to in
      let m : Records = put t (key_in format.relationships_file x) rec in
      record {
        frame = frame_both s t m node h.frame (record {
          others = λ key a b c d. put_other_file t (key_in format.relationships_file x) rec key b;
          nodes = λ y n place inside one apart. refl;
          kinds = λ y ne. refl;
          here = inl refl;
          rels = λ y n place inside aside. field-set_other t (number_at format.relationships_file x at) to (key_in format.relationships_file y) n place inside
              (λ _. apart n place aside);
        });
        ranges = range_put t shape format.relationships_file x rec refl
            (λ lt. fits_link (high t) (rec_at t format.relationships_file x) at to link (small_low format.relationships_file to low) low
            (kind_is format.relationships_file x format.related is lt) (h.ranges.fit format.relationships_file x refl lt)) h.ranges;
        free = h.free;
        split = split_same t m format.groups_file h.free (record { meta = refl; each = λ y. refl }) h.split;
      }
    where
      within : (16 ≤ at) × (at + 4 ≤ 32)
      within = ⊎_elim (λ (e : at ≡ 16). (omega arith, omega arith)) (λ k. ⊎_elim (λ (e : at ≡ 20). (omega arith, omega arith))
          (λ l. ⊎_elim (λ (e : at ≡ 24). (omega arith, omega arith)) (λ (e : at ≡ 28). (omega arith, omega arith)) l) k) link

      apart : (n place : ℕ) → (place + n ≤ 16) ⊎ (32 ≤ place) → (place + n ≤ at) ⊎ (at + 4 ≤ place)
      apart n place k = ⊎_elim (λ (l : place + n ≤ 16). inl (let b = within.0 in omega arith)) (λ (l : 32 ≤ place). inr (let b = within.1 in omega arith)) k

  -- the first link of the node, where it is dense
  pub step_first : (to : ℕ) → kind_at t format.nodes_file node ≡ format.dense → IsLow (high t format.groups_file) to
      → HasStepped s (set_at t (node_head node) to) shape node
  step_first to is low =
      let rec : Rec = with_field 4 (rec_at t format.nodes_file node) format.node_first_link to in
      let m : Records = put t (key_in format.nodes_file node) rec in
      let kind : (y : ℕ) → kind_at m format.nodes_file y ≡ kind_at t format.nodes_file y = λ y.
      kind_by (high t format.nodes_file) (rec_at m format.nodes_file y) (rec_at t format.nodes_file y) y
      (field-set_other t (node_head node) to (key_in format.nodes_file y) 1 format.kind (omega arith) (λ _. inl (omega arith))) in
      record {
        frame = frame_both s t m node h.frame (record {
          others = λ key a b c d. put_other_file t (key_in format.nodes_file node) rec key a;
          nodes = λ y n place inside one aside. field-set_other t (node_head node) to (key_in format.nodes_file y) n place inside (λ _. aside);
          kinds = λ y ne. kind y;
          here = inl (kind node);
          rels = λ y n place inside apart. refl;
        });
        ranges = range_put t shape format.nodes_file node rec refl
            (λ lt. fits_dense_first (high t) (rec_at t format.nodes_file node) to (small_low format.groups_file to low) low
            (kind_is format.nodes_file node format.dense is lt) (h.ranges.fit format.nodes_file node refl lt)) h.ranges;
        free = h.free;
        split = split_same t m format.groups_file h.free (record { meta = refl; each = λ y. refl }) h.split;
      }
