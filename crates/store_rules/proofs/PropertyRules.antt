-- A change of one element's properties keeps the rules.
use Rattle.std.proofs.Common.{◌≡◌, ◌≢◌, ℕ, ◌+◌, ◌<◌, ◌≤◌, Bool, cond, true, false, not, nat_eq, List, length, sym, ap}
use Rattle.std.proofs.Common.{◌∙◌, subst, inl, inr, ⊎_elim, arith, refl, Option}
use Rattle.std.proofs.lemmas.Bool.{true≢false}
use Rattle.rec_bytes.specs.declared.meta.Meta.{Meta}
use Rattle.rec_bytes.specs.declared.record.Rec.{Rec}
use Rattle.rec_bytes.specs.declared.shape.Shape.{Shape}
use Rattle.rec_bytes.specs.Format as format
use Rattle.rec_bytes.specs.Meta as metas
use Rattle.rec_bytes.specs.Meta.{IsMetaInRange}
use Rattle.rec_bytes.specs.Record.{field, zeros_from}
use Rattle.rec_bytes.specs.RecordFiles.{is_meta_file, meta_key_of}
use Rattle.rec_bytes.specs.Shape.{shape_of_record, version_of}
use Rattle.rec_bytes.specs.Space.{meta_in}
use Rattle.store_rules.specs.Chains.{IsWalk, next_in, place_of, prev_in}
use Rattle.store_rules.specs.Properties.{Property}
use Rattle.store_rules.specs.Ranges.{AreInRange, Fits, is_reused}
use Rattle.store_rules.specs.Rows.{ids}
use Rattle.store_rules.specs.Rules.{AreAllLive, AreCounted, AreNamed, AreNames, HasCounts, Head, IsGrouped, IsLinked, IsSplit, KeepsCounts, KeepsDegrees}
use Rattle.store_rules.specs.Rules.{KeepsGroups, KeepsLabels, KeepsLinks, KeepsNames, KeepsRules, Owns, first_of, next_free}
use Rattle.store_rules.specs.Views.{GroupRow, Records, degree, first_link, group_at, high, is_live, kind_at, node_at, rec_at, rel_at}
use Rattle.store_rules.proofs.ChainLaws.{walk_stays}
use Rattle.store_rules.proofs.DefinedStays.{defined_stay}
use Rattle.store_rules.proofs.Frames.{pair_cases}
use Rattle.store_rules.proofs.MetaLaws.{meta_of_reused}
use Rattle.store_rules.proofs.NumberLaws.{nat_cases}
use Rattle.store_rules.specs.PropertyChange.{ChangesProperties}
use Rattle.store_rules.proofs.PropertyFrames as fr
use Rattle.store_rules.proofs.PropertyHeld.{properties_held}
use Rattle.store_rules.proofs.TwinRows as twin
use Rattle.store_rules.proofs.TwinRows.{HaveNodes, HaveRels}
use Rattle.store_rules.proofs.ViewLaws.{fits_more}

-- a file stays split where its numbers, its kinds and its free links are as they were
pub split_stays : (s t : Records) (f : ℕ) (free : List ℕ) → meta_in t f ≡ meta_in s f → ((y : ℕ) → kind_at t f y ≡ kind_at s f y)
    → ((y : ℕ) → next_free t f y ≡ next_free s f y)
    → IsSplit s f (is_live s f) free → IsSplit t f (is_live t f) free
split_stays s t f free meta kinds next k = subst (λ l. IsSplit t f l free) (λ i y. not (nat_eq (sym (kinds y) i) 0)) (record {
  walk = subst (λ (m : Meta). IsWalk (next_free t f) m.free free) (sym meta)
      (walk_stays (next_free s f) (next_free t f) (meta_in s f).free free (λ y _. next y) k.walk);
  low = λ y i. subst (λ (m : Meta). y < m.high) (sym meta) (k.low y i);
  only = k.only;
  all = λ y lt. k.all y (subst (λ (m : Meta). y < m.high) meta lt);
  exact = ap (λ (m : Meta). m.live) meta ∙ k.exact ∙ ap (λ (m : Meta). length (ids (is_live s f) m.high)) (sym meta);
})

-- the previous link that a node's chain uses stands before the element's first property
place_of-low : (r : Rec) (n : ℕ) → place_of r n ≤ format.relationship_target_previous
place_of-low r n = on (nat_eq (field 4 r format.relationship_source) n)
  where
    on : (b : Bool) → cond b format.relationship_source_previous format.relationship_target_previous ≤ format.relationship_target_previous
    on true = omega arith
    on false = omega arith

module _ (s t : Records) (shape : Shape) (file x : ℕ) (old new : List Property) (h : ChangesProperties s t shape file x old new) where
  -- a file is that of the properties, that of the blocks, or another
  by_file : {P : ℕ → Type 0} → P format.properties_file → P format.strings_file → ((f : ℕ) → f ≢ format.properties_file → f ≢ format.strings_file → P f)
      → (f : ℕ) → P f
  by_file {P = P} a b other f = ⊎_elim (λ (e : f ≡ format.properties_file). subst P (sym e) a)
      (λ (p : f ≢ format.properties_file). ⊎_elim (λ (e : f ≡ format.strings_file). subst P (sym e) b) (λ (q : f ≢ format.strings_file). other f p q)
      (nat_cases f format.strings_file)) (nat_cases f format.properties_file)

  -- no mark falls
  marks_le : (f : ℕ) → high s f ≤ high t f
  marks_le = by_file {P = λ f. high s f ≤ high t f} h.properties.grows h.strings.grows
      (λ f a b. let e = fr.mark_same s t shape file x old new h f a b in omega arith)

  -- the first rule
  ranges : AreInRange s shape → AreInRange t shape
  ranges was = record {
    own = ap shape_of_record (fr.meta_same s t shape file x old new h format.meta_file (λ e. omega arith) (λ e. omega arith)) ∙ was.own;
    newest = ap version_of (fr.meta_same s t shape file x old new h format.meta_file (λ e. omega arith) (λ e. omega arith)) ∙ was.newest;
    taken = ap (zeros_from format.taken_rest) (fr.meta_same s t shape file x old new h format.taken_id (λ e. omega arith) (λ e. omega arith)) ∙ was.taken;
    metas = by_file {P = λ f. is_meta_file f ≡ true → IsMetaInRange shape f (t (meta_key_of f))} (λ _. h.properties.meta) (λ _. h.strings.meta)
        (λ f a b is. subst (IsMetaInRange shape f) (sym (fr.meta_same s t shape file x old new h f a b)) (was.metas f is));
    fit = λ f y is lt. by_file {P = λ f. is_meta_file f ≡ true → y < high t f → Fits (high t) f (rec_at t f y)} (λ _ lt. h.properties.fits y lt)
        (λ _ lt. h.strings.fits y lt) (λ f a b is lt.
        pair_cases file x f y (λ p q. subst (λ g. Fits (high t) g (rec_at t g y)) (sym p) (subst (λ z. Fits (high t) file (rec_at t file z)) (sym q) h.fits))
        (λ ne. let e = fr.mark_same s t shape file x old new h f a b in
        subst (Fits (high t) f) (sym (fr.record_same s t shape file x old new h f y is a b ne))
        (fits_more (high s) (high t) f (rec_at s f y) marks_le (was.fit f y is (omega arith))))) f is lt;
  }

  -- the second, for files whose identifiers are used again
  splits : ((f : ℕ) → is_reused f ≡ true → (free : List ℕ) × IsSplit s f (is_live s f) free) → (f : ℕ) → is_reused f ≡ true → (free : List ℕ)
      × IsSplit t f (is_live t f) free
  splits was = by_file {P = λ f. is_reused f ≡ true → (free : List ℕ) × IsSplit t f (is_live t f) free} (λ _. (h.properties.free, h.properties.split))
      (λ _. (h.strings.free, h.strings.split)) (λ f a b is.
      let k = was f is in
      let meta = meta_of_reused f is in (
        k.0,
        split_stays s t f k.0 (ap metas.meta_of (fr.meta_same s t shape file x old new h f a b)) (λ y. fr.kind_same s t shape file x old new h f y meta a b)
            (λ y. fr.field_same s t shape file x old new h f y 4 format.free_next meta a b (omega arith) (λ _. let low = fr.place_low s t shape file x old new
            h in inl (omega arith))) k.1,
      ))

  -- and for the names
  all_live : ((f : ℕ) → is_meta_file f ≡ true → is_reused f ≡ false → AreAllLive s f) → (f : ℕ) → is_meta_file f ≡ true → is_reused f ≡ false → AreAllLive t f
  all_live was = by_file {P = λ f. is_meta_file f ≡ true → is_reused f ≡ false → AreAllLive t f} (λ _ no. absurd (true≢false no))
      (λ _ no. absurd (true≢false no))
      (λ f a b is no. subst (λ (m : Meta). m.live ≡ m.high) (sym (ap metas.meta_of (fr.meta_same s t shape file x old new h f a b))) (was f is no))

  -- ---- rows
  -- each node is one that was there, but for its first property
  nodes_back : HaveNodes (node_at t) (node_at s)
  nodes_back = twin.have_nodes t s (λ y. sym (ap (λ f. f y) (fr.node_kinds s t shape file x old new h)))
      (λ y. sym (fr.node_field s t shape file x old new h y format.node_label (inl (omega arith)) (omega arith)))

  -- relationships are those that they were
  rel_kinds : (y : ℕ) → kind_at t format.relationships_file y ≡ kind_at s format.relationships_file y
  rel_kinds y = fr.kind_same s t shape file x old new h format.relationships_file y refl (λ e. omega arith) (λ e. omega arith)

  -- and have the numbers that they had, but for their first property
  rel_field : (y at : ℕ) → (at + 4 ≤ 32) → field 4 (rec_at t format.relationships_file y) at ≡ field 4 (rec_at s format.relationships_file y) at
  rel_field y at low = fr.rel_field s t shape file x old new h y at (inl low) (omega arith)

  -- each is a relationship now
  rels_there : HaveRels (rel_at s) (rel_at t)
  rels_there = twin.have_rels s t rel_kinds (λ y i. record {
    id = y;
    label = rel_field y format.relationship_type (omega arith) i;
    from = rel_field y format.relationship_source (omega arith) i;
    to = rel_field y format.relationship_target (omega arith) i;
    property = field 4 (rec_at t format.relationships_file y) format.relationship_first_property;
  })

  -- and was one before
  rels_back : HaveRels (rel_at t) (rel_at s)
  rels_back = twin.have_rels t s (λ y. sym (rel_kinds y)) (λ y i. record {
    id = y;
    label = sym (rel_field y format.relationship_type (omega arith)) i;
    from = sym (rel_field y format.relationship_source (omega arith)) i;
    to = sym (rel_field y format.relationship_target (omega arith)) i;
    property = field 4 (rec_at s format.relationships_file y) format.relationship_first_property;
  })

  -- ---- links
  -- a node's chain uses the links that it used
  place_same : (y n : ℕ) → place_of (rec_at t format.relationships_file y) n ≡ place_of (rec_at s format.relationships_file y) n
  place_same y n = ap (λ v. cond (nat_eq v n) format.relationship_source_previous format.relationship_target_previous)
      (rel_field y format.relationship_source (omega arith))

  -- which are as they were
  prev_same : (y n : ℕ) → prev_in (rec_at t format.relationships_file y) n ≡ prev_in (rec_at s format.relationships_file y) n
  prev_same y n = ap (field 4 (rec_at t format.relationships_file y)) (place_same y n)
      ∙ rel_field y (place_of (rec_at s format.relationships_file y) n) (let low = place_of-low (rec_at s format.relationships_file y) n in omega arith)

  next_same : (y n : ℕ) → next_in (rec_at t format.relationships_file y) n ≡ next_in (rec_at s format.relationships_file y) n
  next_same y n = ap (λ p. field 4 (rec_at t format.relationships_file y) (p + 4)) (place_same y n)
      ∙ rel_field y (place_of (rec_at s format.relationships_file y) n + 4) (let low = place_of-low (rec_at s format.relationships_file y) n in omega arith)

  -- and so are first links
  head_same : (kind : ℕ → ℕ) (d : Head) (n : ℕ) → Owns kind (group_at s) d n → first_of t d ≡ first_of s d
  head_same kind d n (inl k) = ap (first_of t) k.is ∙ fr.node_field s t shape file x old new h n format.node_first_link (inl (omega arith)) (omega arith)
      ∙ sym (ap (first_of s) k.is)
  head_same kind d n (inr k) = ap (λ q. field 4 (t q) d.field) k.key ∙ ap (λ f. field 4 (f k.row.id) d.field) (fr.group_file s t shape file x old new h)
      ∙ sym (ap (λ q. field 4 (s q) d.field) k.key)

  -- the third rule
  linked : KeepsLinks s → KeepsLinks t
  linked was = subst (λ k. IsLinked t k (rel_at t) (group_at t)) (sym (fr.node_kinds s t shape file x old new h))
      (subst (IsLinked t (kind_at s format.nodes_file) (rel_at t)) (sym (fr.groups_same s t shape file x old new h))
      (twin.linked_alike s t (kind_at s format.nodes_file) (rel_at s) (rel_at t) (group_at s) rels_there rels_back next_same prev_same
      (head_same (kind_at s format.nodes_file)) was))

  -- the fourth
  grouped : {empty : List ℕ} → KeepsGroups s empty
      → KeepsGroups t empty
  grouped {empty} was = subst (λ k. IsGrouped k (first_link t) (rec_at t format.groups_file) (group_at t) empty)
      (sym (fr.node_kinds s t shape file x old new h))
      (subst (λ f. IsGrouped (kind_at s format.nodes_file) f (rec_at t format.groups_file) (group_at t) empty) (sym (fr.first_links s t shape file x old new h))
      (subst (λ r. IsGrouped (kind_at s format.nodes_file) (first_link s) r (group_at t) empty) (sym (fr.group_file s t shape file x old new h))
      (subst (λ g. IsGrouped (kind_at s format.nodes_file) (first_link s) (rec_at s format.groups_file) g empty)
      (sym (fr.groups_same s t shape file x old new h)) was)))

  exact : KeepsCounts s
      → KeepsCounts t
  exact was g row is kind = subst (λ (f : ℕ → Rec). HasCounts (f g) row (rel_at t) (high t format.relationships_file))
      (sym (fr.group_file s t shape file x old new h))
      (subst (λ m. HasCounts (rec_at s format.groups_file g) row (rel_at t) m) (sym (fr.mark_same s t shape file x old new h format.relationships_file
      (λ e. omega arith) (λ e. omega arith)))
      (twin.counts_alike (rel_at s) (rel_at t) rels_there rels_back (rec_at s format.groups_file g) row (high s format.relationships_file)
      (was g row (ap (λ (f : ℕ → Option GroupRow). f g) (sym (fr.groups_same s t shape file x old new h)) ∙ is)
      (sym (fr.kind_same s t shape file x old new h format.groups_file g refl (λ e. omega arith) (λ e. omega arith)) ∙ kind))))

  -- the sixth
  names : KeepsNames s → KeepsNames t
  names was = subst (λ r. AreNames r (high t format.names_file)) (sym (fr.name_file s t shape file x old new h))
      (subst (AreNames (rec_at s format.names_file)) (sym (fr.name_mark s t shape file x old new h)) was)

  -- labels and types are names
  named : KeepsLabels s → KeepsLabels t
  named was = subst (AreNamed (node_at t) (rel_at t)) (sym (fr.name_mark s t shape file x old new h))
      (twin.named_alike (node_at s) (node_at t) (rel_at s) (rel_at t) (high s format.names_file) nodes_back rels_back was)

  -- the seventh
  degrees : {most : ℕ} → KeepsDegrees s most
      → KeepsDegrees t most
  degrees {most = most} was = subst (λ k. AreCounted k (degree t) (rel_at t) (high t format.relationships_file) most)
      (sym (fr.node_kinds s t shape file x old new h))
      (subst (λ m. AreCounted (kind_at s format.nodes_file) (degree t) (rel_at t) m most)
      (sym (fr.mark_same s t shape file x old new h format.relationships_file (λ e. omega arith) (λ e. omega arith)))
      (twin.counted_alike (rel_at s) (rel_at t) rels_there rels_back (kind_at s format.nodes_file) (degree s) (degree t) (high s format.relationships_file) most
      (fr.degrees_same s t shape file x old new h) was))

  -- a change of one element's properties keeps the rules
  pub properties_well : {most : ℕ} {empty : List ℕ} → KeepsRules s shape most empty → KeepsRules t shape most empty
  properties_well well = record {
    ranges = ranges well.ranges;
    split = splits well.split;
    kept = all_live well.kept;
    linked = linked well.linked;
    grouped = grouped well.grouped;
    exact = exact well.exact;
    properties = properties_held s t shape file x old new h well;
    named = named well.named;
    defined = defined_stay s t (fr.index_same s t shape file x old new h) (let e = fr.name_mark s t shape file x old new h in omega (arith, e)) well.defined;
    names = names well.names;
    degrees = degrees well.degrees;
  }
