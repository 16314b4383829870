-- What a change of one element's properties leaves as it was.
use Rattle.std.proofs.Common.{◌≡◌, ◌≢◌, ◌⊎◌, ℕ, ◌+◌, ◌≤◌, true, List, sym, ap, ◌∙◌, subst, inl, inr, ⊎_elim, arith, refl}
use Rattle.rec_bytes.specs.declared.key.Key.{Key}
use Rattle.rec_bytes.specs.declared.shape.Shape.{Shape}
use Rattle.rec_bytes.specs.Format as format
use Rattle.rec_bytes.specs.Meta as metas
use Rattle.rec_bytes.specs.Record.{field}
use Rattle.rec_bytes.specs.RecordFiles.{is_meta_file, meta_key_of}
use Rattle.rec_bytes.proofs.Numbers.{Apart}
use Rattle.store_rules.specs.Properties.{Property}
use Rattle.store_rules.specs.RuleList.{IsSameFile}
use Rattle.store_rules.specs.Views.{Records, degree, first_link, group_at, group_in, high, kind_at, kind_in, key_in}
use Rattle.store_rules.specs.Views.{node_at, node_in, rec_at, rel_at, rel_in, row_if}
use Rattle.store_rules.proofs.Frames.{pair_cases}
use Rattle.store_rules.proofs.MetaLaws.{not_meta_key}
use Rattle.store_rules.specs.PropertyChange.{ChangesProperties, property_place}
use Rattle.store_rules.proofs.ViewLaws.{kind_by}

module _ (s t : Records) (shape : Shape) (file x : ℕ) (old new : List Property) (h : ChangesProperties s t shape file x old new) where
  -- an element is in a file with a meta record
  pub element_file : is_meta_file file ≡ true
  element_file = ⊎_elim (λ e. ap is_meta_file e) (λ e. ap is_meta_file e) h.element

  -- ---- records of other files, and other records
  pub meta_same : (f : ℕ) → f ≢ format.properties_file → f ≢ format.strings_file → t (meta_key_of f) ≡ s (meta_key_of f)
  meta_same f a b = h.others (meta_key_of f) (λ e. omega arith) (λ e. omega arith) (λ e. a (ap (λ (k : Key). k.id) e)) (λ e. b (ap (λ (k : Key). k.id) e))
      (λ e. let z : 0 ≡ file = ap (λ (k : Key). k.file) e in omega (arith, h.element))

  -- so the marks of other files stay
  pub mark_same : (f : ℕ) → f ≢ format.properties_file → f ≢ format.strings_file → high t f ≡ high s f
  mark_same f a b = ap (λ r. (metas.meta_of r).high) (meta_same f a b)

  -- as do records of other files, and other records of the element's
  pub record_same : (f y : ℕ) → is_meta_file f ≡ true → f ≢ format.properties_file → f ≢ format.strings_file → (f ≡ file → y ≢ x) → rec_at t f y ≡ rec_at s f y
  record_same f y is a b ne = h.others (key_in f y) a b (not_meta_key f y format.properties_file is) (not_meta_key f y format.strings_file is)
      (λ e. ne (ap (λ (k : Key). k.file) e) (ap (λ (k : Key). k.id) e))

  -- all but the first property of the element's record
  pub field_same : (f y n at : ℕ) → is_meta_file f ≡ true → f ≢ format.properties_file → f ≢ format.strings_file → at + n ≤ 64
      → (f ≡ file → Apart n at 4 (property_place file)) → field n (rec_at t f y) at ≡ field n (rec_at s f y) at
  field_same f y n at is a b inside apart = pair_cases file x f y
      (λ p q. subst (λ g. field n (rec_at t g y) at ≡ field n (rec_at s g y) at) (sym p) (subst (λ z. field n (rec_at t file z) at ≡ field n (rec_at s file z)
      at) (sym q) (h.own n at inside (apart p))))
      (λ ne. ap (λ r. field n r at) (record_same f y is a b ne))

  -- a number in the first 12 bytes stands before it
  pub place_low : 12 ≤ property_place file
  place_low = ⊎_elim (λ (e : file ≡ format.nodes_file). let p = ap property_place e in omega arith)
      (λ (e : file ≡ format.relationships_file). let p = ap property_place e in omega arith) h.element

  -- so the kind of each record outside the two files stays
  pub kind_same : (f y : ℕ) → is_meta_file f ≡ true → f ≢ format.properties_file → f ≢ format.strings_file → kind_at t f y ≡ kind_at s f y
  kind_same f y is a b = ap (λ m. kind_in m (rec_at t f y) y) (mark_same f a b)
      ∙ kind_by (high s f) (rec_at t f y) (rec_at s f y) y (field_same f y 1 format.kind is a b (omega arith) (λ _. let low = place_low in inl (omega arith)))

  -- the element is still in use
  pub used_now : kind_at t file x ≢ format.free_kind
  used_now z = h.used (sym (kind_same file x element_file (λ e. omega (arith, h.element)) (λ e. omega (arith, h.element))) ∙ z)

  -- ---- names, groups, links and degrees
  -- the records of names stay
  pub name_file : rec_at t format.names_file ≡ rec_at s format.names_file
  name_file = λ i y. record_same format.names_file y refl (λ e. omega arith) (λ e. omega arith) (λ e. omega (arith, h.element)) i

  -- no name is new
  pub name_mark : high t format.names_file ≡ high s format.names_file
  name_mark = mark_same format.names_file (λ e. omega arith) (λ e. omega arith)

  -- the file of the index stays
  pub index_same : IsSameFile s t format.index_file
  index_same = record {
    records = λ i y. record_same format.index_file y refl (λ e. omega arith) (λ e. omega arith) (λ e. omega (arith, h.element)) i;
    meta = meta_same format.index_file (λ e. omega arith) (λ e. omega arith);
  }

  -- the records of groups stay
  pub group_file : rec_at t format.groups_file ≡ rec_at s format.groups_file
  group_file = λ i y. record_same format.groups_file y refl (λ e. omega arith) (λ e. omega arith) (λ e. omega (arith, h.element)) i

  -- and their rows
  pub groups_same : group_at t ≡ group_at s
  groups_same = λ i y. row_if (kind_same format.groups_file y refl (λ e. omega arith) (λ e. omega arith) i) (group_in (group_file i y) y)

  -- nodes are those that they were
  pub node_kinds : kind_at t format.nodes_file ≡ kind_at s format.nodes_file
  node_kinds = λ i n. kind_same format.nodes_file n refl (λ e. omega arith) (λ e. omega arith) i

  -- a number of a node that isn't its first property
  pub node_field : (n at : ℕ) → (at + 4 ≤ 12) ⊎ (16 ≤ at) → at + 4 ≤ 64 → field 4 (rec_at t format.nodes_file n) at ≡ field 4 (rec_at s format.nodes_file n) at
  node_field n at aside inside = field_same format.nodes_file n 4 at refl (λ e. omega arith) (λ e. omega arith) inside
      (λ e. let p = ap property_place (sym e) in ⊎_elim (λ l. inl (omega arith)) (λ g. inr (omega arith)) aside)

  -- a number of a relationship that isn't its first property
  pub rel_field : (r at : ℕ) → (at + 4 ≤ 32) ⊎ (36 ≤ at) → at + 4 ≤ 64 → field 4 (rec_at t format.relationships_file r) at ≡ field 4
      (rec_at s format.relationships_file r) at
  rel_field r at aside inside = field_same format.relationships_file r 4 at refl (λ e. omega arith) (λ e. omega arith) inside
      (λ e. let p = ap property_place (sym e) in ⊎_elim (λ l. inl (omega arith)) (λ g. inr (omega arith)) aside)

  -- the first links of nodes stay
  pub first_links : first_link t ≡ first_link s
  first_links = λ i n. node_field n format.node_first_link (inl (omega arith)) (omega arith) i

  -- and their degrees
  pub degrees_same : (n : ℕ) → degree t n ≡ degree s n
  degrees_same n = node_field n format.node_degree (inr (omega arith)) (omega arith)

  -- ---- other nodes and relationships
  -- another node is as it was
  pub node_other : (y : ℕ) → (format.nodes_file ≡ file → y ≢ x) → node_at t y ≡ node_at s y
  node_other y ne = ap (λ k. row_if k (node_in (rec_at t format.nodes_file y) y)) (kind_same format.nodes_file y refl (λ e. omega arith) (λ e. omega arith))
      ∙ ap (λ r. row_if (kind_at s format.nodes_file y) (node_in r y)) (record_same format.nodes_file y refl (λ e. omega arith) (λ e. omega arith) ne)

  -- so is another relationship
  pub rel_other : (y : ℕ) → (format.relationships_file ≡ file → y ≢ x) → rel_at t y ≡ rel_at s y
  rel_other y ne = ap (λ k. row_if k (rel_in (rec_at t format.relationships_file y) y))
      (kind_same format.relationships_file y refl (λ e. omega arith) (λ e. omega arith))
      ∙ ap (λ r. row_if (kind_at s format.relationships_file y) (rel_in r y))
      (record_same format.relationships_file y refl (λ e. omega arith) (λ e. omega arith) ne)
