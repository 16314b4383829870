-- The place of an element's first property, which a change writes last.
use Rattle.std.proofs.Common.{◌≡◌, ◌≢◌, ◌⊎◌, ℕ, ◌+◌, ◌<◌, ◌≤◌, ◌^◌, nat_eq, Bool, true, false, cond, Some, None, List}
use Rattle.std.proofs.Common.{sym, ap, ◌∙◌, subst, inl, inr, ⊎_elim, arith, refl}
use Rattle.rec_bytes.specs.declared.key.Key.{Key}
use Rattle.rec_bytes.specs.declared.record.Rec.{Rec}
use Rattle.rec_bytes.specs.declared.shape.Shape.{Shape}
use Rattle.rec_bytes.specs.Format as format
use Rattle.rec_bytes.specs.Meta as metas
use Rattle.rec_bytes.specs.Record.{field, with_field}
use Rattle.rec_bytes.specs.RecordFiles.{is_meta_file, meta_key_of}
use Rattle.rec_bytes.proofs.Numbers.{field-with_field_other, field-with_field_same}
use Rattle.store_rules.specs.Chains.{In}
use Rattle.store_rules.specs.Properties.{AreProperties, Property, blocks_of, first_property, ids_of, keys_of, property_records}
use Rattle.store_rules.specs.PropertyChange.{Apart, ChangesProperties, property_from, property_place}
use Rattle.store_rules.specs.Ranges.{Fits, Layout, free_layout, node_layout, relationship_layout}
use Rattle.store_rules.specs.Views.{Records, high, key_in, kind_at, rec_at}
use Rattle.store_rules.proofs.LinkFits.{IsLow, fits_node_property, fits_rel_property}
use Rattle.store_rules.proofs.MetaLaws.{not_meta_key}
use Rattle.store_rules.proofs.NumberLaws.{eq_false, nat_cases}
use Rattle.store_rules.proofs.PropertyStays.{properties_stay}
use Rattle.store_rules.proofs.ViewLaws.{fits_more}
use Rattle.prop_store.specs.Dropping.{ChangesRecords}
use Rattle.prop_store.proofs.FileMoves.{framed}

-- a node or a relationship
abbrev pub IsElementFile : ℕ → Type 0
IsElementFile file = (file ≡ format.nodes_file) ⊎ (file ≡ format.relationships_file)

pub meta_of_element : (file : ℕ) → IsElementFile file → is_meta_file file ≡ true
meta_of_element file is = ⊎_elim (λ e. subst (λ f. is_meta_file f ≡ true) (sym e) refl) (λ e. subst (λ f. is_meta_file f ≡ true) (sym e) refl) is

-- The place leads to this one, and nothing else changed.
pub record SetsFirst (s t : Records) (file x to : ℕ) : Type 0 where
  pub first : property_from t file x ≡ to
  pub own : (n at : ℕ) → at + n ≤ 64 → Apart n at 4 (property_place file) → field n (rec_at t file x) at ≡ field n (rec_at s file x) at
  pub fits : Fits (high s) file (rec_at s file x) → Fits (high s) file (rec_at t file x)
  pub others : (key : Key) → key ≢ key_in file x → t key ≡ s key

-- nothing was written
pub stays_first : (s : Records) (file x : ℕ) → SetsFirst s s file x (property_from s file x)
stays_first s file x = record { first = refl; own = λ n at inside apart. refl; fits = λ h. h; others = λ key ne. refl }

-- it is written in a record in use
module _ (s t : Records) (file x to : ℕ) (is : IsElementFile file) (used : field 1 (rec_at s file x) format.kind ≢ format.free_kind)
    (small : to < 2 ^ 32) (low : IsLow (high s format.properties_file) to) (here : rec_at t file x ≡ with_field 4 (rec_at s file x) (property_place file) to)
    (others : (key : Key) → key ≢ key_in file x → t key ≡ s key) where
  abbrev r : Rec
  r = rec_at s file x

  node_kind : Fits (high s) format.nodes_file r → (field 1 r format.kind ≡ format.sparse) ⊎ (field 1 r format.kind ≡ format.dense)
  node_kind h = ⊎_elim (λ (e : field 1 r format.kind ≡ format.sparse). inl e)
      (λ (ne : field 1 r format.kind ≢ format.sparse). ⊎_elim (λ (e : field 1 r format.kind ≡ format.dense). inr e)
      (λ (thin : field 1 r format.kind ≢ format.dense). absurd (by (nat_eq (field 1 r format.kind) 0) (nat_eq (field 1 r format.kind) 1)
      (nat_eq (field 1 r format.kind) 2) h.layout
      (eq_false (field 1 r format.kind) 0 used) (eq_false (field 1 r format.kind) 1 ne) (eq_false (field 1 r format.kind) 2 thin) h.is)) (nat_cases (field 1 r
      format.kind) format.dense)) (nat_cases (field 1 r format.kind) format.sparse)
    where
      by : (free sparse dense : Bool) (layout : Layout) → free ≡ false → sparse ≡ false → dense ≡ false
          → cond free (free_layout format.nodes_file) (cond sparse (node_layout format.relationships_file) (cond dense (node_layout format.groups_file) None))
          ≡ Some layout → ⊥
      by true sparse dense layout e f h k = cc
      by false true dense layout e f h k = cc
      by false false true layout e f h k = cc
      by false false false layout e f h k = cc

  rel_kind : Fits (high s) format.relationships_file r → field 1 r format.kind ≡ format.related
  rel_kind h = ⊎_elim (λ (e : field 1 r format.kind ≡ format.related). e)
      (λ (ne : field 1 r format.kind ≢ format.related). absurd (by (nat_eq (field 1 r format.kind) 0) (nat_eq (field 1 r format.kind) 1) h.layout
      (eq_false (field 1 r format.kind) 0 used) (eq_false (field 1 r format.kind) 1 ne) h.is)) (nat_cases (field 1 r format.kind) format.related)
    where
      by : (free related : Bool) (layout : Layout) → free ≡ false → related ≡ false
          → cond free (free_layout format.relationships_file) (cond related relationship_layout None) ≡ Some layout → ⊥
      by true related layout e f h = cc
      by false true layout e f h = cc
      by false false layout e f h = cc

  place_fits : property_place file + 4 ≤ 64
  place_fits = ⊎_elim (λ e. subst (λ f. property_place f + 4 ≤ 64) (sym e) (omega arith)) (λ e. subst (λ f. property_place f + 4 ≤ 64) (sym e) (omega arith)) is

  pub writes_first : SetsFirst s t file x to
  writes_first = record {
    first = ap (λ q. field 4 q (property_place file)) here ∙ field-with_field_same 4 r (property_place file) to place_fits (omega arith);
    own = λ n at inside apart. ap (λ q. field n q at) here ∙ field-with_field_other 4 r (property_place file) to n at inside
        (⊎_elim (λ a. inr a) (λ a. inl a) apart);
    fits = λ h. subst (Fits (high s) file) (sym here) (⊎_elim
        (λ (e : file ≡ format.nodes_file). (subst (λ f. Fits (high s) f r → Fits (high s) f (with_field 4 r (property_place f) to)) (sym e)
        (λ k. fits_node_property (high s) r to small low (node_kind k) k)) h)
        (λ (e : file ≡ format.relationships_file). (subst (λ f. Fits (high s) f r → Fits (high s) f (with_field 4 r (property_place f) to)) (sym e)
        (λ k. fits_rel_property (high s) r to small low (rel_kind k) k)) h) is);
    others = others;
  }

-- no mark falls where properties and blocks changed
pub marks_records : (s t : Records) (shape : Shape) (ids new_ids blocks new_blocks : List ℕ) → ChangesRecords s t shape ids new_ids blocks new_blocks → (f : ℕ)
    → high s f ≤ high t f
marks_records s t shape ids new_ids blocks new_blocks h f = ⊎_elim
    (λ (e : f ≡ format.properties_file). subst (λ g. high s g ≤ high t g) (sym e) h.properties.grows)
    (λ (a : f ≢ format.properties_file). ⊎_elim
    (λ (e : f ≡ format.strings_file). subst (λ g. high s g ≤ high t g) (sym e) h.strings.grows)
    (λ (b : f ≢ format.strings_file).
    let same : high t f ≡ high s f = ap (λ r. (metas.meta_of r).high) (h.others (meta_key_of f) (λ e. absurd (omega arith)) (λ e. absurd (omega arith))
    (λ e. a (ap (λ (k : Key). k.id) e)) (λ e. b (ap (λ (k : Key). k.id) e))) in
    omega arith) (nat_cases f format.strings_file)) (nat_cases f format.properties_file)

-- A change of an element's properties: their records and blocks changed, and then the place of the first one.
module _ (s m t : Records) (shape : Shape) (file x : ℕ) (old new : List Property) (is : IsElementFile file)
    (changes : ChangesRecords s m shape (ids_of old) (ids_of new) (blocks_of old) (blocks_of new)) where
  not_property : file ≢ format.properties_file
  not_property e = ⊎_elim (λ (q : file ≡ format.nodes_file). omega arith) (λ (q : file ≡ format.relationships_file). omega arith) is

  not_string : file ≢ format.strings_file
  not_string e = ⊎_elim (λ (q : file ≡ format.nodes_file). omega arith) (λ (q : file ≡ format.relationships_file). omega arith) is

  -- the element's record is the same before that
  pub element_stays : rec_at m file x ≡ rec_at s file x
  element_stays = changes.others (key_in file x) not_property not_string (not_meta_key file x format.properties_file (meta_of_element file is))
      (not_meta_key file x format.strings_file (meta_of_element file is))

  module _ (set : SetsFirst m t file x (first_property new)) where
    meta_stays : (f : ℕ) → t (meta_key_of f) ≡ m (meta_key_of f)
    meta_stays f = set.others (meta_key_of f) (λ e. not_meta_key file x f (meta_of_element file is) (sym e))

    mark_stays : (f : ℕ) → high t f ≡ high m f
    mark_stays f = ap (λ r. (metas.meta_of r).high) (meta_stays f)

    no_fall : (f : ℕ) → high m f ≤ high t f
    no_fall f = let e = mark_stays f in omega arith

    property_stays : (p : ℕ) → rec_at t format.properties_file p ≡ rec_at m format.properties_file p
    property_stays p = set.others (key_in format.properties_file p) (λ e. not_property (sym (ap (λ (k : Key). k.file) e)))

    string_stays : (b : ℕ) → rec_at t format.strings_file b ≡ rec_at m format.strings_file b
    string_stays b = set.others (key_in format.strings_file b) (λ e. not_string (sym (ap (λ (k : Key). k.file) e)))

    pub changes_properties : kind_at s file x ≢ format.free_kind → Fits (high s) file (rec_at s file x)
        → AreProperties (property_records s) (property_from s file x) old
        → AreProperties (property_records m) (first_property new) new → ((k : ℕ) → In k (keys_of new) → k < high s format.names_file)
        → ChangesProperties s t shape file x old new
    changes_properties used fits was now known = record {
      element = is;
      used = used;
      was = was;
      now =
          let right : AreProperties (property_records m) (property_from t file x) new =
          record {
            first_is = set.first;
            linked = now.linked;
            few = now.few;
            ids_once = now.ids_once;
            blocks_once = now.blocks_once;
            keys_once = now.keys_once;
          } in
          properties_stay (property_records m) (property_records t) (property_from t file x) new (λ p i. property_stays p) (λ b i. string_stays b) right;
      known = known;
      own = λ n at inside apart. set.own n at inside apart ∙ ap (λ r. field n r at) element_stays;
      fits = fits_more (high m) (high t) file (rec_at t file x) no_fall
          (set.fits (subst (Fits (high m) file) (sym element_stays) (fits_more (high s) (high m) file (rec_at s file x) (marks_records s m shape (ids_of old)
          (ids_of new) (blocks_of old) (blocks_of new) changes) fits)));
      properties = framed shape format.properties_file s m t (ids_of old) (ids_of new) changes.properties (meta_stays format.properties_file) property_stays
          no_fall;
      strings = framed shape format.strings_file s m t (blocks_of old) (blocks_of new) changes.strings (meta_stays format.strings_file) string_stays no_fall;
      others = λ key a b c d e. set.others key e ∙ changes.others key a b c d;
    }
