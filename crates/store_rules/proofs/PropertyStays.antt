-- Properties stay where their records and those of their blocks do.
use Rattle.std.proofs.Common.{◌≡◌, ℕ, min, List, [], ◌∷◌, length, drop, ap, ◌∙◌, inl, inr, refl}
use Rattle.rec_bytes.specs.declared.record.Rec.{Rec}
use Rattle.rec_bytes.specs.Format as format
use Rattle.rec_bytes.specs.Record.{field, text_in}
use Rattle.store_rules.specs.Chains.{In}
use Rattle.store_rules.specs.Properties.{AreBlocks, AreLinked, AreProperties, IsProperty, Property, PropertyRecords}
use Rattle.store_rules.specs.Properties.{blocks_of, content_of, first_property, ids_of, long_text}
use Rattle.store_rules.proofs.OnceLaws.{in_left, in_right}

-- a text stays where its blocks do
pub blocks_stay : (was now : ℕ → Rec) (text bs : List ℕ) → ((b : ℕ) → In b bs → now b ≡ was b) → AreBlocks was text bs → AreBlocks now text bs
blocks_stay was now text [] same h = h
blocks_stay was now text (b ∷ bs) same h =
    let e = same b (inl refl) in (
      record {
        low = h.0.low;
        some = h.0.some;
        kind = ap (λ r. field 1 r format.kind) e ∙ h.0.kind;
        size = ap (λ r. field 1 r format.block_length) e ∙ h.0.size;
        piece = ap (λ r. text_in r format.block_text (min 48 (length text))) e ∙ h.0.piece;
        next_is = ap (λ r. field 4 r format.block_next) e ∙ h.0.next_is;
      },
      blocks_stay was now (drop 48 text) bs (λ c i. same c (inr i)) h.1,
    )

-- a property stays where its record and blocks do
pub property_stays : (was now : PropertyRecords) (e : Property) (next : ℕ) → now.properties e.id ≡ was.properties e.id
    → ((b : ℕ) → In b e.blocks → now.strings b ≡ was.strings b) → IsProperty was e next → IsProperty now e next
property_stays was now e next r blocks h = record {
  low = h.low;
  content = ap content_of r ∙ h.content;
  key = ap (λ r. field 4 r format.property_key) r ∙ h.key;
  next_is = ap (λ r. field 4 r format.property_next) r ∙ h.next_is;
  kept = h.kept;
  blocks = blocks_stay was.strings now.strings (long_text e.value) e.blocks blocks h.blocks;
}

-- linked properties stay where their records and blocks do
pub linked_stay : (was now : PropertyRecords) (es : List Property) → ((p : ℕ) → In p (ids_of es) → now.properties p ≡ was.properties p)
    → ((b : ℕ) → In b (blocks_of es) → now.strings b ≡ was.strings b)
    → AreLinked was es → AreLinked now es
linked_stay was now [] same blocks h = tt
linked_stay was now (e ∷ es) same blocks h = (
  property_stays was now e (first_property es) (same e.id (inl refl)) (λ b i. blocks b (in_left b e.blocks (blocks_of es) i)) h.0,
  linked_stay was now es
      (λ p i. same p (inr i)) (λ b i. blocks b (in_right b e.blocks (blocks_of es) i)) h.1,
)

-- so do the properties of an element
pub properties_stay : (was now : PropertyRecords) (first : ℕ) (es : List Property) → ((p : ℕ) → In p (ids_of es) → now.properties p ≡ was.properties p)
    → ((b : ℕ) → In b (blocks_of es) → now.strings b ≡ was.strings b)
    → AreProperties was first es → AreProperties now first es
properties_stay was now first es same blocks h = record {
  first_is = h.first_is;
  linked = linked_stay was now es same blocks h.linked;
  few = h.few;
  ids_once = h.ids_once;
  blocks_once = h.blocks_once;
  keys_once = h.keys_once;
}
