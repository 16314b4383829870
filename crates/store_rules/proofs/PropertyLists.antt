-- The list of properties of one element: what its records say, and what the rules say of it.
use Rattle.std.proofs.Common.{◌≡◌, ◌≢◌, ◌⊎◌, ℕ, ◌+◌, ◌/◌, ◌≤◌, ◌<◌, nat_eq, nat_le, nat_lt, Bool, true, false, ◌&&◌}
use Rattle.std.proofs.Common.{cond, Option, None, Some, List, [], ◌∷◌, length, map, sym, ap, ◌∙◌, subst, inl, inr}
use Rattle.std.proofs.Common.{⊎_elim, arith, refl}
use Rattle.std.proofs.Math.Facts.{sfits_to_z}
use Rattle.std.proofs.lemmas.Bool.{eqb-true, le-leb, leb-true, lt-leb, ltb-true, true≢false}
use Rattle.std.proofs.lemmas.List.{length-map}
use Rattle.std.proofs.lemmas.List.Folds.{flat_map-map}
use mathlib.Core.List.{map-map}
use Rattle.std.specs.FinMap as maps
use Rattle.std.specs.Int.{cast_signed}
use Rattle.std.specs.Int.RustNames.{FitsSigned}
use mir.Syntax.{w64}
use Rattle.plain_graph.specs.Forms.{IsKept}
use Rattle.plain_graph.specs.Properties.{no_properties}
use Rattle.plain_graph.specs.declared.value.Value.{Value}
use Rattle.plain_graph.specs.declared.value.Value.TheVariants as values
use Rattle.rec_bytes.specs.declared.record.Rec.{Rec}
use Rattle.rec_bytes.specs.declared.shape.Shape.{Shape}
use Rattle.rec_bytes.specs.Format as format
use Rattle.rec_bytes.specs.Record.{field, text_in}
use Rattle.rec_bytes.specs.RecordFiles.{is_meta_file}
use Rattle.rec_bytes.proofs.Numbers.{field-lt}
use Rattle.rec_bytes.proofs.Texts.{length-text_in}
use Rattle.store_rules.specs.Chains.{In, IsWalk}
use Rattle.store_rules.specs.Properties.{AreBlocks, AreLinked, AreOnce, AreProperties, Content, IsProperty, Property}
use Rattle.store_rules.specs.Properties.{PropertyRecords, block_ids, blocks_from, blocks_of, content_by, content_for}
use Rattle.store_rules.specs.Properties.{content_of, first_property, followed, head_of, ids_of, keys_of, long_text}
use Rattle.store_rules.specs.Properties.{long_text_from, map_of, next_block, next_property, properties_from}
use Rattle.store_rules.specs.Properties.{property_at, property_ids, property_records, value_from}
use Rattle.store_rules.specs.Properties.Content.{Inline, Long, Number, Truth}
use Rattle.store_rules.specs.Ranges.{Layout, layout_by, property_layout, used_layout}
use Rattle.store_rules.specs.Rules.{KeepsRules, block_owner, node_first, property_owner, rel_first}
use Rattle.store_rules.specs.Views.{Records, high, is_live, kind_at, node_at, node_in, rec_at, rel_at, rel_in, text_of}
use Rattle.store_rules.proofs.BlockLists.{IsKnown, block_ids-blocks, blocks_right, length-pieces, long_text_from-blocks, no_blocks, pieces}
use Rattle.store_rules.proofs.ChainLaws.{followed-walk}
use Rattle.store_rules.proofs.NumberLaws.{and_parts, eq_false, eq_true}
use Rattle.store_rules.proofs.OnceLaws.{flat_map_in, in_flat_map, map_in, once_flat_map, once_map, once_walk}
use Rattle.store_rules.specs.PropertyChange.{property_from}
use Rattle.store_rules.proofs.Shapes.{high_most}
use Rattle.store_rules.proofs.ViewLaws.{kind_below, kind_low, live_false, live_true, row_some}

-- ---- properties read from a list of identifiers

-- no first property, no properties
pub properties_from-nil : (name_file : ℕ → Rec) (files : PropertyRecords) → properties_from name_file files format.nil ≡ no_properties
unfolding properties_from followed
properties_from-nil name_file files = refl

-- the properties of an element whose list is known
pub properties_from-walk : (name_file : ℕ → Rec) (files : PropertyRecords) (first : ℕ) (ps : List ℕ) → IsWalk (next_property files.properties) first ps
    → length ps ≤ 32
    → properties_from name_file files first ≡ map_of name_file (map (property_at files) ps)
unfolding properties_from
properties_from-walk name_file files first ps walk few = ap (λ xs. map_of name_file (map (property_at files) xs))
    (followed-walk 32 (next_property files.properties) first ps walk few)

-- they are the same by other names, where the texts of their keys are
pub map_of-names : (name_file now : ℕ → Rec) (files : PropertyRecords) (ps : List ℕ)
    → ((p : ℕ) → In p ps → text_of (now (field 4 (files.properties p) format.property_key)) ≡ text_of
    (name_file (field 4 (files.properties p) format.property_key)))
    → map_of now (map (property_at files) ps) ≡ map_of name_file (map (property_at files) ps)
map_of-names name_file now files [] same = refl
map_of-names name_file now files (p ∷ ps) same =
    λ i. maps.insert (map_of-names name_file now files ps (λ q k. same q (inr k)) i) (same p (inl refl) i) (property_at files p).value

-- ---- one property

module _ (files : PropertyRecords) where
  -- The number fits, the text is as long as it may be, and its blocks have it.
  abbrev pub IsRead : Content → Type 0
  IsRead (Number number) = FitsSigned w64 number
  IsRead (Truth truth) = Unit {0}
  IsRead (Inline text) = length text ≤ 40
  IsRead (Long size first) = (40 < size) × (size ≤ 1024) × AreBlocks files.strings (long_text_from files.strings size first)
      (block_ids files.strings size first)
      × (length (long_text_from files.strings size first) ≡ size) × (head_of (block_ids files.strings size first) ≡ first)

  -- what the value and the blocks are that are read from a content
  content_read : (c : Content) → IsRead c → (content_for (value_from files.strings (Some c)) (head_of (blocks_from files.strings (Some c))) ≡ c)
      × IsKept (value_from files.strings (Some c))
      × AreBlocks files.strings (long_text (value_from files.strings (Some c))) (blocks_from files.strings (Some c))
  content_read (Number number) h = (refl, h, refl)
  content_read (Truth truth) h = (refl, tt, refl)
  content_read (Inline text) h = let short = le-leb (length text) 40 h in (rw short refl, omega arith, rw short refl)
  content_read (Long size first) h =
      let text = long_text_from files.strings size first in
      let is = h.3 in
      let more = h.0 in
      let most = h.1 in
      let long : nat_le (length text) 40 ≡ false = lt-leb (length text) 40 (omega arith) in
      (rw long (λ i. Long (is i) (h.4 i)), omega arith, rw long h.2)

  -- a property's record and its blocks have the property that is read from them
  pub property_right : (p next : ℕ) (c : Content) → p < format.most_ids → content_of (files.properties p) ≡ Some c → IsRead c
      → next_property files.properties p ≡ next
      → IsProperty files (property_at files p) next
  property_right p next c low is read next_is =
      let all = of (content_of (files.properties p)) is in
      record {
        low = low;
        content = all.0;
        key = refl;
        next_is = next_is;
        kept = all.1;
        blocks = all.2;
      }
    where
      of : (o : Option Content) → o ≡ Some c → (o ≡ Some (content_for (value_from files.strings o) (head_of (blocks_from files.strings o))))
          × IsKept (value_from files.strings o)
          × AreBlocks files.strings (long_text (value_from files.strings o)) (blocks_from files.strings o)
      of o e = subst (λ z. (z ≡ Some (content_for (value_from files.strings z) (head_of (blocks_from files.strings z)))) × IsKept (value_from files.strings z)
          × AreBlocks files.strings (long_text (value_from files.strings z)) (blocks_from files.strings z)) (sym e)
          (let k = content_read c read in (ap (λ z. Some z) (sym k.0), k.1, k.2))

  -- a value and its blocks are read back from the content that they make
  value_back : (value : Value) (blocks : List ℕ) → AreBlocks files.strings (long_text value) blocks
      → (value_from files.strings (Some (content_for value (head_of blocks))) ≡ value)
      × (blocks_from files.strings (Some (content_for value (head_of blocks))) ≡ blocks)
  value_back (values.Int number) blocks are = (refl, sym (no_blocks files.strings blocks are))
  value_back (values.Bool truth) blocks are = (refl, sym (no_blocks files.strings blocks are))
  value_back (values.Text text) blocks are = by (nat_le (length text) 40) are
    where
      by : (short : Bool) → AreBlocks files.strings (cond short [] text) blocks
          → (value_from files.strings (Some (cond short (Inline text) (Long (length text) (head_of blocks)))) ≡ values.Text text)
          × (blocks_from files.strings (Some (cond short (Inline text) (Long (length text) (head_of blocks)))) ≡ blocks)
      by true h = (refl, sym (no_blocks files.strings blocks h))
      by false h = (ap (λ z. values.Text z) (long_text_from-blocks files.strings text blocks h), block_ids-blocks files.strings text blocks h)

  -- the property that its record and its blocks have is the one that is read from them
  pub property_at-is : (e : Property) (next : ℕ) → IsProperty files e next → property_at files e.id ≡ e
  property_at-is e next h =
      let back = value_back e.value e.blocks h.blocks in
      let value = ap (value_from files.strings) h.content ∙ back.0 in
      let blocks = ap (blocks_from files.strings) h.content ∙ back.1 in
      λ i. record { id = e.id; key = h.key i; value = value i; blocks = blocks i }

  -- ---- a list of properties

  -- the links of a list's records lead through its identifiers
  linked_walk : (es : List Property) → AreLinked files es → IsWalk (next_property files.properties) (first_property es) (ids_of es)
  linked_walk [] h = refl
  linked_walk (e ∷ es) h = (
    refl,
    (λ k. let low = h.0.low in omega arith),
    subst (λ z. IsWalk (next_property files.properties) z (ids_of es)) (sym h.0.next_is)
        (linked_walk es h.1),
  )

  -- each property of the list is the one that is read at its identifier
  linked_read : (es : List Property) → AreLinked files es → map (property_at files) (ids_of es) ≡ es
  linked_read [] h = refl
  linked_read (e ∷ es) h = λ i. property_at-is e (first_property es) h.0 i ∷ linked_read es h.1 i

  -- the identifiers from the first one on are the list's
  pub property_ids-is : (first : ℕ) (es : List Property) → AreProperties files first es → property_ids files.properties first ≡ ids_of es
  property_ids-is first es h =
      let many = length-map es (λ (e : Property). e.id) in
      let few = h.few in
      followed-walk 32 (next_property files.properties) first (ids_of es)
      (subst (λ z. IsWalk (next_property files.properties) z (ids_of es)) (sym h.first_is) (linked_walk es h.linked)) (omega arith)

  -- the list of an element's properties is what its records say
  pub properties_read : (first : ℕ) (es : List Property) → AreProperties files first es → map (property_at files) (property_ids files.properties first) ≡ es
  properties_read first es h = ap (map (property_at files)) (property_ids-is first es h) ∙ linked_read es h.linked

  -- so there is one alone
  pub properties_unique : (first : ℕ) (es fs : List Property) → AreProperties files first es → AreProperties files first fs → es ≡ fs
  properties_unique first es fs h k = sym (properties_read first es h) ∙ properties_read first fs k

  -- and it is what the graph has
  pub properties_from-is : (name_file : ℕ → Rec) (first : ℕ) (es : List Property) → AreProperties files first es
      → properties_from name_file files first ≡ map_of name_file es
  unfolding properties_from
  properties_from-is name_file first es h = ap (map_of name_file) (properties_read first es h)

-- ---- what the first rule says of a property

-- the content of a property's record; a text in blocks alone has blocks
abbrev IsOf : PropertyRecords → Rec → ℕ → ℕ → Content → Type 0
IsOf files r kind size c = IsRead files c
    × (((kind ≢ format.text_in_blocks) × (blocks_from files.strings (Some c) ≡ [])) ⊎ ((kind ≡ format.text_in_blocks) ×
    (c ≡ Long size (field 4 r format.property_first_block))))

-- the first of four whose test holds
abbrev first_of_four : {A : Type 0} → Bool → Bool → Bool → Bool → A → A → A → A → A → A
first_of_four a b c d x y z w none = cond a x (cond b y (cond c z (cond d w none)))

-- the content of a record that has a property's layout
content_there : (files : PropertyRecords) (r : Rec) (kind size : ℕ) (layout : Layout) → property_layout r kind size ≡ Some layout
    → (kind ≡ format.text_in_blocks → 40 < size → size ≤ 1024 → IsRead files (Long size (field 4 r format.property_first_block))) → (c : Content)
    × (content_by r kind size ≡ Some c) × IsOf files r kind size c
content_there files r kind size layout laid long =
    by _ _ _ _ _ _ _ _ (nat_eq kind format.int) (nat_eq kind format.bool && nat_le (field 1 r format.property_truth) 1)
    (nat_eq kind format.text_inline && nat_le size 40) (nat_eq kind format.text_in_blocks && (nat_lt 40 size && nat_le size 1024))
    laid number truth inline blocks
  where
    by : (w x y z : Option Layout) (f g h i : Content) (a b c d : Bool) → first_of_four a b c d w x y z None ≡ Some layout
        → (a ≡ true → IsOf files r kind size f) → (b ≡ true → IsOf files r kind size g) → (c ≡ true → IsOf files r kind size h)
        → (d ≡ true → IsOf files r kind size i)
        → (e : Content) × (first_of_four a b c d (Some f) (Some g) (Some h) (Some i) None ≡ Some e) × IsOf files r kind size e
    by w x y z f g h i true b c d e p q u v = (_, refl, p refl)
    by w x y z f g h i false true c d e p q u v = (_, refl, q refl)
    by w x y z f g h i false false true d e p q u v = (_, refl, u refl)
    by w x y z f g h i false false false true e p q u v = (_, refl, v refl)
    by w x y z f g h i false false false false e p q u v = absurd cc

    number : nat_eq kind format.int ≡ true → IsOf files r kind size (Number (cast_signed w64 (field 8 r format.property_number)))
    number t = let k = eqb-true kind format.int t in (sfits_to_z (record { fits = field-lt 8 r format.property_number }), inl ((λ e. omega arith), refl))

    truth : (nat_eq kind format.bool && nat_le (field 1 r format.property_truth) 1) ≡ true
        → IsOf files r kind size (Truth (nat_eq (field 1 r format.property_truth) 1))
    truth t = let k = eqb-true kind format.bool (and_parts (nat_eq kind format.bool) (nat_le (field 1 r format.property_truth) 1) t).0 in
        (tt, inl ((λ e. omega arith), refl))

    inline : (nat_eq kind format.text_inline && nat_le size 40) ≡ true → IsOf files r kind size (Inline (text_in r format.property_text size))
    inline t =
        let parts = and_parts (nat_eq kind format.text_inline) (nat_le size 40) t in
        let k = eqb-true kind format.text_inline parts.0 in
        let short = leb-true size 40 parts.1 in
        let n = length-text_in r format.property_text size (omega arith) in
        (omega arith, inl ((λ e. omega arith), refl))

    blocks : (nat_eq kind format.text_in_blocks && (nat_lt 40 size && nat_le size 1024)) ≡ true
        → IsOf files r kind size (Long size (field 4 r format.property_first_block))
    blocks t =
        let parts = and_parts (nat_eq kind format.text_in_blocks) (nat_lt 40 size && nat_le size 1024) t in
        let k = eqb-true kind format.text_in_blocks parts.0 in
        let range = and_parts (nat_lt 40 size) (nat_le size 1024) parts.1 in
        (long k (ltb-true 40 size range.0) (leb-true size 1024 range.1), inr (k, refl))

-- ---- what the rules say of the list of an element

-- the properties read at identifiers have these
ids_of-read : (files : PropertyRecords) (ps : List ℕ) → ids_of (map (property_at files) ps) ≡ ps
ids_of-read files [] = refl
ids_of-read files (p ∷ ps) = λ i. p ∷ ids_of-read files ps i

-- the owners of properties, and those of blocks
abbrev pub owner_in : Records → ℕ → ℕ → Option ℕ
owner_in s = property_owner (node_at s) (rel_at s)

abbrev pub block_owner_in : Records → ℕ → ℕ → Option ℕ
block_owner_in s = block_owner (kind_at s format.properties_file) (rec_at s format.properties_file)

-- an element in use owns the list that its record leads to
pub owner_in-used : (s : Records) (file x : ℕ) → (file ≡ format.nodes_file) ⊎ (file ≡ format.relationships_file) → kind_at s file x ≢ format.free_kind
    → owner_in s file x ≡ Some (property_from s file x)
owner_in-used s file x (inl e) used = subst (λ f. kind_at s f x ≢ format.free_kind → owner_in s f x ≡ Some (property_from s f x)) (sym e)
    (λ some. ap node_first (row_some (kind_at s format.nodes_file x) (node_in (rec_at s format.nodes_file x) x) some)) used
owner_in-used s file x (inr e) used = subst (λ f. kind_at s f x ≢ format.free_kind → owner_in s f x ≡ Some (property_from s f x)) (sym e)
    (λ some. ap rel_first (row_some (kind_at s format.relationships_file x) (rel_in (rec_at s format.relationships_file x) x) some)) used

-- an owner of blocks is a property with a text in blocks
block_owner_is : (kind : ℕ → ℕ) (property_file : ℕ → Rec) (file x first : ℕ) → block_owner kind property_file file x ≡ Some first
    → (file ≡ format.properties_file) × (kind x ≡ format.text_in_blocks)
block_owner_is kind property_file file x first owned = by (nat_eq file format.properties_file) (nat_eq (kind x) format.text_in_blocks)
    (eqb-true file format.properties_file) (eqb-true (kind x) format.text_in_blocks) owned
  where
    by : (a b : Bool) → (a ≡ true → file ≡ format.properties_file) → (b ≡ true → kind x ≡ format.text_in_blocks)
        → cond (a && b) (Some (field 4 (property_file x) format.property_first_block)) None ≡ Some first
        → (file ≡ format.properties_file) × (kind x ≡ format.text_in_blocks)
    by true true f g e = (f refl, g refl)
    by true false f g e = absurd cc
    by false b f g e = absurd cc

module _ (s : Records) (shape : Shape) {most : ℕ} {empty : List ℕ} (keeps : KeepsRules s shape most empty) where
  abbrev files : PropertyRecords
  files = property_records s

  -- what is in use has a kind, and a layout of its file
  record IsUsed (file x : ℕ) : Type 0 where
    low : x < format.most_ids
    kind : kind_at s file x ≡ field 1 (rec_at s file x) format.kind
    layout : Layout
    laid : used_layout file (rec_at s file x) (field 1 (rec_at s file x) format.kind) ≡ Some layout

  is_used : (file x : ℕ) → is_meta_file file ≡ true → is_live s file x ≡ true → IsUsed file x
  is_used file x is live =
      let some : kind_at s file x ≢ 0 = λ e. true≢false (sym live ∙ live_false (kind_at s file x) e) in
      let below = kind_below (high s file) (rec_at s file x) x some in
      let most = high_most s shape file keeps.ranges is in
      let kind = kind_low (high s file) (rec_at s file x) x below in
      let fits = keeps.ranges.fit file x is below in
      record {
        low = omega arith;
        kind = kind;
        layout = fits.layout;
        laid = used (field 1 (rec_at s file x) format.kind) fits.layout (λ e. some (kind ∙ e)) fits.is;
      }
    where
      used : (k : ℕ) (layout : Layout) → k ≢ 0 → layout_by file (rec_at s file x) k ≡ Some layout → used_layout file (rec_at s file x) k ≡ Some layout
      used k layout ne h = sym (rw (eq_false k 0 ne) refl) ∙ h

  -- a block in use is one
  block_known : (b : ℕ) → is_live s format.strings_file b ≡ true → IsKnown files.strings b
  block_known b live = let u = is_used format.strings_file b refl live in (
    u.low,
    eqb-true (field 1 (files.strings b) format.kind) format.block (tested (nat_eq (field 1 (files.strings b) format.kind) format.block)
        _ u.layout u.laid),
  )
    where
      tested : (t : Bool) (o : Option Layout) (layout : Layout) → cond t o None ≡ Some layout → t ≡ true
      tested true o layout h = refl
      tested false o layout h = absurd cc

  -- the blocks of a text in blocks
  abbrev held_blocks : ℕ → List ℕ
  held_blocks p = keeps.properties.blocks.lists format.properties_file p

  -- so many bytes the text of a property has, and its blocks begin at this one
  abbrev text_size : ℕ → ℕ
  text_size p = field 2 (files.properties p) format.property_length

  abbrev first_of : ℕ → ℕ
  first_of p = field 4 (files.properties p) format.property_first_block

  -- the list of an owner of blocks has its text
  long_read : (p first : ℕ) → block_owner_in s format.properties_file p ≡ Some first → 40 < text_size p → text_size p ≤ 1024
      → IsRead files (Long (text_size p) first) × (block_ids files.strings (text_size p) first ≡ held_blocks p)
  long_read p first owned more most =
      let bs = held_blocks p in
      let rule = keeps.properties in
      let are = rule.texts.pieces format.properties_file p first owned in
      let walk = rule.blocks.walk format.properties_file p first owned in
      let right = blocks_right files.strings (text_size p) first bs are walk
      (λ b i. block_known b (rule.blocks.only format.properties_file p first b owned i)) in
      let many = length-pieces files.strings (text_size p) bs are in
      let ids : block_ids files.strings (text_size p) first ≡ bs = followed-walk ((text_size p + 47) / 48) (next_block files.strings) first bs walk
      (omega arith) in (
        (
          more,
          most,
          subst (λ xs. AreBlocks files.strings (pieces files.strings xs) xs) (sym ids) right.0,
          ap (λ xs. length (pieces files.strings xs)) ids
              ∙ right.1,
          ap head_of ids ∙ walk_head (next_block files.strings) first bs walk,
        ),
        ids,
      )
    where
      walk_head : (next : ℕ → ℕ) (from : ℕ) (xs : List ℕ) → IsWalk next from xs → head_of xs ≡ from
      walk_head next from [] w = sym w
      walk_head next from (x ∷ xs) w = sym w.0

  -- a text in blocks owns a list
  owns_blocks : (p : ℕ) → kind_at s format.properties_file p ≡ format.text_in_blocks → block_owner_in s format.properties_file p ≡ Some (first_of p)
  owns_blocks p e = rw (eq_true (kind_at s format.properties_file p) format.text_in_blocks e) refl

  -- the content of a property in use
  property_content : (p : ℕ) → is_live s format.properties_file p ≡ true
      → (c : Content) × (content_of (files.properties p) ≡ Some c) × IsOf files (files.properties p) (field 1 (files.properties p) format.kind) (text_size p) c
  property_content p live =
      let u = is_used format.properties_file p refl live in
      content_there files (files.properties p) (field 1 (files.properties p) format.kind) (text_size p) u.layout u.laid
      (λ k more most. (long_read p (first_of p) (owns_blocks p (u.kind ∙ k)) more most).0)

  -- a property in use is right by itself
  property_here : (p next : ℕ) → is_live s format.properties_file p ≡ true → next_property files.properties p ≡ next
      → IsProperty files (property_at files p) next
  property_here p next live next_is =
      let u = is_used format.properties_file p refl live in
      let c = property_content p live in
      property_right files p next c.0 u.low c.1 c.2.0 next_is

  -- the property has no blocks, or owns a list, which has its blocks
  abbrev LacksBlocks : ℕ → Type 0
  LacksBlocks p = (kind_at s format.properties_file p ≢ format.text_in_blocks) × ((property_at files p).blocks ≡ [])

  abbrev OwnsBlocks : ℕ → Type 0
  OwnsBlocks p = (block_owner_in s format.properties_file p ≡ Some (first_of p)) × ((property_at files p).blocks ≡ held_blocks p)

  property_blocks : (p : ℕ) → is_live s format.properties_file p ≡ true → LacksBlocks p ⊎ OwnsBlocks p
  property_blocks p live =
      let u = is_used format.properties_file p refl live in
      let c = property_content p live in
      ⊎_elim
      (λ (k : (field 1 (files.properties p) format.kind ≢ format.text_in_blocks) × (blocks_from files.strings (Some c.0) ≡ [])). inl
      ((λ e. k.0 (sym u.kind ∙ e)), ap (blocks_from files.strings) c.1 ∙ k.1))
      (λ (k : (field 1 (files.properties p) format.kind ≡ format.text_in_blocks) × (c.0 ≡ Long (text_size p) (first_of p))).
      let owned = owns_blocks p (u.kind ∙ k.0) in
      let read : IsRead files (Long (text_size p) (first_of p)) = subst (IsRead files) k.1 c.2.0 in
      inr (owned, ap (blocks_from files.strings) (c.1 ∙ ap (λ z. Some z) k.1) ∙ (long_read p (first_of p) owned read.0 read.1).1)) c.2.1

  -- ---- the list of an element

  -- the properties of an element, by the list that the fifth rule has of it
  abbrev pub listed : ℕ → ℕ → List Property
  listed file x = map (property_at files) (keeps.properties.held.lists file x)

  -- a block of a property in use is in the list that the property owns
  block_held : (p b : ℕ) → is_live s format.properties_file p ≡ true → In b (property_at files p).blocks
      → (block_owner_in s format.properties_file p ≡ Some (first_of p)) × In b (held_blocks p)
  block_held p b live i = ⊎_elim (λ (k : LacksBlocks p). absurd (subst (In b) k.1 i)) (λ (k : OwnsBlocks p). (k.0, subst (In b) k.1 i)) (property_blocks p live)

  -- a block in use is one of a property in use
  pub block_there : (b : ℕ) → is_live s format.strings_file b ≡ true → (p : ℕ) × (is_live s format.properties_file p ≡ true) × In b (property_at files p).blocks
  block_there b live =
      let k = keeps.properties.blocks.held b live in
      let is = block_owner_is (kind_at s format.properties_file) files.properties k.0 k.1 k.2 k.3.0 in
      let used = live_true (kind_at s format.properties_file k.1) (λ e. let z = sym is.1 ∙ e in omega arith) in
      let here : In b (held_blocks k.1) = subst (λ f. In b (keeps.properties.blocks.lists f k.1)) is.0 k.3.1 in
      (k.1, used, ⊎_elim (λ (l : LacksBlocks k.1). absurd (l.0 is.1)) (λ (l : OwnsBlocks k.1). subst (In b) (sym l.1) here) (property_blocks k.1 used))

  -- no block comes twice among those of a property
  blocks_of_one : (p : ℕ) → is_live s format.properties_file p ≡ true → AreOnce (property_at files p).blocks
  blocks_of_one p live = ⊎_elim
      (λ (k : LacksBlocks p). subst AreOnce (sym k.1) tt)
      (λ (k : OwnsBlocks p). subst AreOnce (sym k.1) (once_walk (next_block files.strings) (first_of p) (held_blocks p)
      (keeps.properties.blocks.walk format.properties_file p (first_of p) k.0)))
      (property_blocks p live)

  -- nor in those of two
  block_of_one : (p q b : ℕ) → is_live s format.properties_file p ≡ true → is_live s format.properties_file q ≡ true → In b (property_at files p).blocks
      → In b (property_at files q).blocks → p ≡ q
  block_of_one p q b live other i j =
      let k = block_held p b live i in
      let l = block_held q b other j in
      (keeps.properties.blocks.once format.properties_file p (first_of p) format.properties_file q (first_of q) b k.0 l.0 k.1 l.1).1

  -- the records of an element's list have its properties
  pub properties_right : (file x first : ℕ) → owner_in s file x ≡ Some first → AreProperties files first (listed file x)
  properties_right file x first owned =
      let rule = keeps.properties in
      let ps = rule.held.lists file x in
      let walk = rule.held.walk file x first owned in
      let few = rule.keys.few file x first owned in
      let live : (p : ℕ) → In p ps → is_live s format.properties_file p ≡ true = λ p i. keeps.properties.held.only file x first p owned i in
      let once = once_walk (next_property files.properties) first ps walk in
      let many = length-map ps (property_at files) in
      record {
        first_is = first_listed first ps walk;
        linked = linked first ps walk live;
        few = omega arith;
        ids_once = subst AreOnce (sym (ids_of-read files ps)) once;
        blocks_once = subst AreOnce (sym (flat_map-map (λ (e : Property). e.blocks) (property_at files) ps))
            (once_flat_map (λ p. (property_at files p).blocks) ps once (λ p i. blocks_of_one p (live p i)) (λ p q b i j k l. block_of_one p q b (live p i)
            (live q j) k l));
        keys_once = subst AreOnce (sym (map-map (λ (e : Property). e.key) (property_at files) ps))
            (once_map (λ p. field 4 (files.properties p) format.property_key) ps once (λ p q i j e. rule.keys.distinct file x first p q owned i j e));
      }
    where
      first_listed : (from : ℕ) (ps : List ℕ) → IsWalk (next_property files.properties) from ps → from ≡ first_property (map (property_at files) ps)
      first_listed from [] walk = walk
      first_listed from (p ∷ ps) walk = walk.0

      linked : (from : ℕ) (ps : List ℕ) → IsWalk (next_property files.properties) from ps → ((p : ℕ) → In p ps → is_live s format.properties_file p ≡ true)
          → AreLinked files (map (property_at files) ps)
      linked from [] walk live = tt
      linked from (p ∷ ps) walk live = (
        property_here p (first_property (map (property_at files) ps)) (live p (inl refl)) (first_listed (next_property files.properties p) ps walk.2),
        linked
            (next_property files.properties p) ps walk.2 (λ q i. live q (inr i)),
      )

  -- so each list of an element's properties is that one
  listed_is : (file x first : ℕ) (es : List Property) → owner_in s file x ≡ Some first → AreProperties files first es → es ≡ listed file x
  listed_is file x first es owned are = properties_unique files first es (listed file x) are (properties_right file x first owned)

  -- their identifiers are those of the rule's list
  ids_listed : (file x first : ℕ) (es : List Property) → owner_in s file x ≡ Some first → AreProperties files first es
      → ids_of es ≡ keeps.properties.held.lists file x
  ids_listed file x first es owned are = ap ids_of (listed_is file x first es owned are) ∙ ids_of-read files (keeps.properties.held.lists file x)

  -- a block of the list is one of a property of the list
  block_listed : (file x first b : ℕ) (es : List Property) → owner_in s file x ≡ Some first → AreProperties files first es → In b (blocks_of es)
      → (p : ℕ) × In p (keeps.properties.held.lists file x) × In b (property_at files p).blocks
  block_listed file x first b es owned are i = flat_map_in (λ p. (property_at files p).blocks) b (keeps.properties.held.lists file x)
      (subst (In b) (ap blocks_of (listed_is file x first es owned are) ∙ flat_map-map (λ (e : Property). e.blocks) (property_at files)
      (keeps.properties.held.lists file x)) i)

  -- and the other way round
  pub in_listed : (file x p b : ℕ) → In p (keeps.properties.held.lists file x) → In b (property_at files p).blocks → In b (blocks_of (listed file x))
  in_listed file x p b i j = subst (In b) (sym (flat_map-map (λ (e : Property). e.blocks) (property_at files) (keeps.properties.held.lists file x)))
      (in_flat_map (λ q. (property_at files q).blocks) b p (keeps.properties.held.lists file x) i j)

  -- keys are names
  pub key_known : (file x first : ℕ) (es : List Property) → owner_in s file x ≡ Some first → AreProperties files first es → (k : ℕ) → In k (keys_of es)
      → k < high s format.names_file
  key_known file x first es owned are k i =
      let ps = keeps.properties.held.lists file x in
      let r = map_in (λ p. field 4 (files.properties p) format.property_key) k ps
      (subst (In k) (ap keys_of (listed_is file x first es owned are) ∙ map-map (λ (e : Property). e.key) (property_at files) ps) i) in
      subst (λ z. z < high s format.names_file) (sym r.2) (keeps.properties.keys.named file x first r.0 owned r.1)

  -- a property of an element is in use
  pub property_live : (file x first : ℕ) (es : List Property) → owner_in s file x ≡ Some first → AreProperties files first es → (p : ℕ) → In p (ids_of es)
      → is_live s format.properties_file p ≡ true
  property_live file x first es owned are p i = keeps.properties.held.only file x first p owned (subst (In p) (ids_listed file x first es owned are) i)

  -- and so are its blocks
  pub block_live : (file x first : ℕ) (es : List Property) → owner_in s file x ≡ Some first → AreProperties files first es → (b : ℕ) → In b (blocks_of es)
      → is_live s format.strings_file b ≡ true
  block_live file x first es owned are b i =
      let r = block_listed file x first b es owned are i in
      let k = block_held r.0 b (keeps.properties.held.only file x first r.0 owned r.1) r.2 in
      keeps.properties.blocks.only format.properties_file r.0 _ b k.0 k.1

  -- no property is in the lists of two elements
  pub property_owned_once : (file x first other y second : ℕ) (es fs : List Property) → owner_in s file x ≡ Some first → owner_in s other y ≡ Some second
      → AreProperties files first es → AreProperties files second fs
      → (p : ℕ) → In p (ids_of es) → In p (ids_of fs) → (file ≡ other) × (x ≡ y)
  property_owned_once file x first other y second es fs owned too are also p i j =
      keeps.properties.held.once file x first other y second p owned too (subst (In p) (ids_listed file x first es owned are) i)
      (subst (In p) (ids_listed other y second fs too also) j)

  -- nor are the blocks in those of two
  pub block_owned_once : (file x first other y second : ℕ) (es fs : List Property) → owner_in s file x ≡ Some first → owner_in s other y ≡ Some second
      → AreProperties files first es → AreProperties files second fs
      → (b : ℕ) → In b (blocks_of es) → In b (blocks_of fs) → (file ≡ other) × (x ≡ y)
  block_owned_once file x first other y second es fs owned too are also b i j =
      let r = block_listed file x first b es owned are i in
      let q = block_listed other y second b fs too also j in
      let same = block_of_one r.0 q.0 b (keeps.properties.held.only file x first r.0 owned r.1) (keeps.properties.held.only other y second q.0 too q.1) r.2
      q.2 in
      keeps.properties.held.once file x first other y second r.0 owned too r.1 (subst (λ z. In z (keeps.properties.held.lists other y)) (sym same) q.1)
