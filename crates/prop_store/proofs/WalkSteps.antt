-- A loop along the properties of an element.
use Rattle.std.proofs.Common.{◌≡◌, ◌<◌, ◌≤◌, ◌+◌, ◌∙◌, ◌++◌, append_assoc, append-nil, ℕ, List, [], ◌∷◌, length, drop}
use Rattle.std.proofs.Common.{length-append, ⊎_elim, ap, sym, subst, arith, inl, inr, refl}
use Rattle.rec_bytes.specs.declared.record.Rec.{Rec}
use Rattle.rec_bytes.specs.Format as format
use Rattle.rec_bytes.specs.Record.{field}
use Rattle.store_rules.specs.Chains.{In}
use Rattle.store_rules.specs.Properties.{AreBlocks, AreLinked, AreProperties, IsProperty, Property, PropertyRecords}
use Rattle.store_rules.specs.Properties.{blocks_of, content_for, content_of, first_property, head_of, ids_of, long_text}
use Rattle.store_rules.specs.Properties.{property_records}
use Rattle.store_rules.specs.Views.{Records, rec_at}
use Rattle.prop_store.specs.BlockList.{AreSmall}
use Rattle.prop_store.specs.GivenOut.{AreGivenOut, IsGivenOut}
use Rattle.prop_store.specs.Owner.{HasProperties}
use Rattle.prop_store.specs.PropertyRow.{HasContent, HasValue}
use Rattle.prop_store.specs.declared.owner.Owner.{Owner}
use Rattle.prop_store.proofs.ListLaws.{in_left, in_right}

-- Of these properties so many were passed, which have a property, and this is the first of those that are left.
pub record Walked (files : PropertyRecords) (es : List Property) (at count : ℕ) (P : List Property → Type 0) : Type 0 where
  pub passed : List Property
  pub left : List Property
  pub all : es ≡ passed ++ left
  pub linked : AreLinked files left
  pub at_is : at ≡ first_property left
  pub count_is : count ≡ length passed
  pub kept : P passed

pub walk_begins : (files : PropertyRecords) (first at : ℕ) (es : List Property) (P : List Property → Type 0) → at ≡ first → AreProperties files first es → P []
    → Walked files es at 0 P
walk_begins files first at es P is are kept = record {
  passed = [];
  left = es;
  all = refl;
  linked = are.linked;
  at_is = is ∙ are.first_is;
  count_is = refl;
  kept = kept;
}

-- the property at hand
pub record WalkHere (files : PropertyRecords) (es : List Property) (at count : ℕ) (P : List Property → Type 0) : Type 0 where
  pub passed : List Property
  pub property : Property
  pub later : List Property
  pub all : es ≡ passed ++ property ∷ later
  pub is : IsProperty files property (first_property later)
  pub linked : AreLinked files later
  pub at_is : at ≡ property.id
  pub count_is : count ≡ length passed
  pub kept : P passed

pub walk_here : (files : PropertyRecords) (es : List Property) (at count : ℕ) (P : List Property → Type 0) → (at ≡ format.nil → ⊥) → Walked files es at count P
    → WalkHere files es at count P
walk_here files es at count P some w = open_here w.left w.all w.linked w.at_is
  where
    open_here : (left : List Property) → es ≡ w.passed ++ left → AreLinked files left → at ≡ first_property left → WalkHere files es at count P
    open_here [] all linked is = absurd (some is)
    open_here (e ∷ later) all linked is = record {
      passed = w.passed;
      property = e;
      later = later;
      all = all;
      is = linked.0;
      linked = linked.1;
      at_is = is;
      count_is = w.count_is;
      kept = w.kept;
    }

-- it is one of them, so fewer were passed
pub fewer_passed : (files : PropertyRecords) (es : List Property) (at count : ℕ) (P : List Property → Type 0) → WalkHere files es at count P → count < length es
fewer_passed files es at count P here =
    let l = ap (λ (z : List Property). length z) here.all ∙ length-append here.passed (here.property ∷ here.later) in
    let c = here.count_is in
    omega arith

-- after it, by what was read
pub walk_after : (files : PropertyRecords) (es : List Property) (at count : ℕ) (P Q : List Property → Type 0) (here : WalkHere files es at count P) (rec : Rec)
    (to : ℕ)
    → rec ≡ files.properties at → to ≡ field 4 rec format.property_next → Q (here.passed ++ here.property ∷ []) → Walked files es to (count + 1) Q
walk_after files es at count P Q here rec to rec_is to_is kept = record {
  passed = here.passed ++ here.property ∷ [];
  left = here.later;
  all = here.all ∙ sym (append_assoc here.passed (here.property ∷ []) here.later);
  linked = here.linked;
  at_is = to_is ∙ ap (λ r. field 4 r format.property_next) (rec_is ∙ ap files.properties here.at_is) ∙ here.is.next_is;
  count_is = let c = here.count_is in let l = length-append here.passed (here.property ∷ []) in omega arith;
  kept = kept;
}

-- at the end all were passed
pub record WalkOver (es : List Property) (count : ℕ) (P : List Property → Type 0) : Type 0 where
  pub count_is : count ≡ length es
  pub kept : P es

pub walk_over : (files : PropertyRecords) (es : List Property) (at count : ℕ) (P : List Property → Type 0) → at ≡ format.nil → Walked files es at count P
    → WalkOver es count P
walk_over files es at count P none w = open_over w.left w.all w.linked w.at_is
  where
    open_over : (left : List Property) → es ≡ w.passed ++ left → AreLinked files left → at ≡ first_property left → WalkOver es count P
    open_over [] all linked is = let same : w.passed ≡ es = sym (all ∙ append-nil w.passed) in
        record { count_is = w.count_is ∙ ap (λ (z : List Property). length z) same; kept = subst P same w.kept }
    open_over (e ∷ later) all linked is = absurd (let low = linked.0.low in omega arith)

-- no more were passed than there may be
pub walk_ends : (files : PropertyRecords) (es : List Property) (at count : ℕ) (P : List Property → Type 0) → length es ≤ 32 → 32 ≤ count
    → Walked files es at count P → at ≡ format.nil
walk_ends files es at count P few all w = by w.left w.all w.at_is
  where
    by : (left : List Property) → es ≡ w.passed ++ left → at ≡ first_property left → at ≡ format.nil
    by [] e is = is
    by (p ∷ left) e is = absurd (let l = ap (λ (z : List Property). length z) e ∙ length-append w.passed (p ∷ left) in let c = w.count_is in omega arith)

-- ---- what is known of the property at hand

pub id_in : (before : List Property) (e : Property) (after : List Property) → In e.id (ids_of (before ++ e ∷ after))
id_in [] e after = inl refl
id_in (p ∷ before) e after = inr (id_in before e after)

-- where all were given out it is right, also after reads
pub right_property : (records now : Records) (owner : Owner) (es : List Property) (at count : ℕ) (P : List Property → Type 0) → now ≡ records
    → HasProperties records owner es → WalkHere (property_records records) es at count P
    → IsGivenOut now format.properties_file at × HasContent (rec_at now format.properties_file at)
right_property records now owner es at count P same has here =
    subst (λ (r : Records). IsGivenOut r format.properties_file at × HasContent (rec_at r format.properties_file at)) (sym same) (
      record {
        low = has.ids_low at (subst (λ z. In z (ids_of es)) (sym here.at_is) (subst (λ z. In here.property.id (ids_of z)) (sym here.all)
            (id_in here.passed here.property here.later)));
        small = subst (λ z. z < format.most_ids) (sym here.at_is) here.is.low;
      },
      record {
        content = content_for here.property.value (head_of here.property.blocks);
        is = ap (λ z. content_of (rec_at records format.properties_file z))
            here.at_is ∙ here.is.content;
      },
    )

-- its record and its blocks have its value
pub has_value : (records now : Records) (e : Property) (next : ℕ) (rec : Rec) → now ≡ records → IsProperty (property_records records) e next
    → rec ≡ rec_at records format.properties_file e.id → HasValue (rec_at now format.strings_file) rec e.value e.blocks
has_value records now e next rec same is rec_is =
    subst (λ (r : Records). HasValue (rec_at r format.strings_file) rec e.value e.blocks) (sym same)
    (record { content = ap content_of rec_is ∙ is.content; kept = is.kept; are = is.blocks })

-- and its blocks were given out
pub blocks_small : (string_file : ℕ → Rec) (text blocks : List ℕ) → AreBlocks string_file text blocks → AreSmall blocks
blocks_small string_file text [] are x i = elim i [ ]
blocks_small string_file text (b ∷ bs) are x i = ⊎_elim (λ (e : x ≡ b). let low = are.0.low in omega arith)
    (λ j. blocks_small string_file (drop 48 text) bs are.1 x j) i

pub block_in : (b : ℕ) (before : List Property) (e : Property) (after : List Property) → In b e.blocks → In b (blocks_of (before ++ e ∷ after))
block_in b [] e after i = in_left b e.blocks (blocks_of after) i
block_in b (p ∷ before) e after i = in_right b p.blocks (blocks_of (before ++ e ∷ after)) (block_in b before e after i)

pub blocks_given : (records now : Records) (owner : Owner) (es before : List Property) (e : Property) (after : List Property) → now ≡ records
    → HasProperties records owner es → es ≡ before ++ e ∷ after
    → AreBlocks (rec_at records format.strings_file) (long_text e.value) e.blocks → AreGivenOut now format.strings_file e.blocks
blocks_given records now owner es before e after same has all are =
    subst (λ (r : Records). AreGivenOut r format.strings_file e.blocks) (sym same) (λ b i. record {
      low = has.blocks_low b (subst (λ z. In b (blocks_of z)) (sym all) (block_in b before e after i));
      small = blocks_small (rec_at records format.strings_file) (long_text e.value) e.blocks are b i;
    })
