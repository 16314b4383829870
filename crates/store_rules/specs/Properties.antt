-- What the records of properties and of blocks say, with no rule in mind.
use Rattle.std.specs.Prelude.{◌≡◌, ◌<◌, ◌≤◌, ℤ, ℕ, zero, suc, ◌+◌, ◌/◌, min, nat_eq, nat_le, nat_lt}
use Rattle.std.specs.Prelude.{Bool, ◌&&◌, cond, Option, None, Some, List, [], ◌∷◌, length, map}
use Rattle.std.specs.Prelude.{drop, take, flat_map}
use Rattle.std.specs.Int.{cast_signed}
use mir.Syntax.{w64}
use Rattle.plain_graph.specs.Forms.{IsKept}
use Rattle.plain_graph.specs.Properties.{Properties}
use Rattle.plain_graph.specs.declared.value.Value.{Value}
use Rattle.plain_graph.specs.declared.value.Value.TheVariants as values
use Rattle.std.specs.FinMap as maps
use Rattle.rec_bytes.specs.declared.record.Rec.{Rec}
use Rattle.rec_bytes.specs.Format as format
use Rattle.rec_bytes.specs.Record.{field, text_in}
use Rattle.store_rules.specs.Chains.{In}
use Rattle.store_rules.specs.Views.{Records, rec_at, text_of}

-- ---- what a property's record says

-- The value of a property, but for the bytes of a text in blocks: its length and its first block
-- stand for them.
pub data Content : Type 0 where
  Number : (number : ℤ) → Content
  Truth : (truth : Bool) → Content
  Inline : (text : List ℕ) → Content
  Long : (size first : ℕ) → Content

-- the content of a property's record; none where its kind or its length is no property's
abbrev pub content_by : Rec → ℕ → ℕ → Option Content
content_by r kind size =
    cond (nat_eq kind format.int)
    (Some (Number (cast_signed w64 (field 8 r format.property_number))))
    (cond (nat_eq kind format.bool && nat_le (field 1 r format.property_truth) 1)
    (Some (Truth (nat_eq (field 1 r format.property_truth) 1)))
    (cond (nat_eq kind format.text_inline && nat_le size 40)
    (Some (Inline (text_in r format.property_text size)))
    (cond (nat_eq kind format.text_in_blocks && (nat_lt 40 size && nat_le size 1024))
    (Some (Long size (field 4 r format.property_first_block)))
    None)))

abbrev pub content_of : Rec → Option Content
content_of r = content_by r (field 1 r format.kind) (field 2 r format.property_length)

-- ---- lists of identifiers that links lead through

-- the identifiers that the links lead through from one on, at most so many
unfoldable pub followed : ℕ → (ℕ → ℕ) → ℕ → List ℕ
followed zero next from = []
followed (suc n) next from = cond (nat_eq from format.nil) [] (from ∷ followed n next (next from))

abbrev pub next_property : (ℕ → Rec) → ℕ → ℕ
next_property property_file p = field 4 (property_file p) format.property_next

abbrev pub next_block : (ℕ → Rec) → ℕ → ℕ
next_block string_file b = field 4 (string_file b) format.block_next

-- the properties from a first one on: an element has at most 32
abbrev pub property_ids : (ℕ → Rec) → ℕ → List ℕ
property_ids property_file first = followed 32 (next_property property_file) first

-- the blocks of a text of so many bytes
abbrev pub block_ids : (ℕ → Rec) → ℕ → ℕ → List ℕ
block_ids string_file size first = followed ((size + 47) / 48) (next_block string_file) first

-- ---- values

-- the bytes of a block
abbrev pub piece_of : Rec → List ℕ
piece_of r = text_in r format.block_text (field 1 r format.block_length)

-- the text of so many bytes in blocks
abbrev pub long_text_from : (ℕ → Rec) → ℕ → ℕ → List ℕ
long_text_from string_file size first =
    flat_map (λ b. piece_of (string_file b)) (block_ids string_file size first)

abbrev pub value_from : (ℕ → Rec) → Option Content → Value
value_from string_file None = values.Text []
value_from string_file (Some (Number number)) = values.Int number
value_from string_file (Some (Truth truth)) = values.Bool truth
value_from string_file (Some (Inline text)) = values.Text text
value_from string_file (Some (Long size first)) =
    values.Text (long_text_from string_file size first)

abbrev pub blocks_from : (ℕ → Rec) → Option Content → List ℕ
blocks_from string_file None = []
blocks_from string_file (Some (Number number)) = []
blocks_from string_file (Some (Truth truth)) = []
blocks_from string_file (Some (Inline text)) = []
blocks_from string_file (Some (Long size first)) = block_ids string_file size first

-- A property as its records have it: its identifier, its key's number, its value, and the blocks of
-- its text.
pub record Property : Type 0 where
  pub id : ℕ
  pub key : ℕ
  pub value : Value
  pub blocks : List ℕ

-- what properties are read from
pub record PropertyRecords : Type 0 where
  pub properties : ℕ → Rec
  pub strings : ℕ → Rec

abbrev pub property_records : Records → PropertyRecords
property_records records = record {
  properties = rec_at records format.properties_file;
  strings = rec_at records format.strings_file;
}

-- the property of an identifier
abbrev pub property_at : PropertyRecords → ℕ → Property
property_at files p = record {
  id = p;
  key = field 4 (files.properties p) format.property_key;
  value = value_from files.strings (content_of (files.properties p));
  blocks = blocks_from files.strings (content_of (files.properties p));
}

-- the properties of an element, by the text of each key
abbrev pub named_property : (ℕ → Rec) → Property → List ℕ × Value
named_property name_file e = (text_of (name_file e.key), e.value)

abbrev pub map_of : (ℕ → Rec) → List Property → Properties
map_of name_file es = maps.from_entries (map (named_property name_file) es)

-- the properties of the element whose first one this is
unfoldable pub properties_from : (ℕ → Rec) → PropertyRecords → ℕ → Properties
properties_from name_file files first =
    map_of name_file (map (property_at files) (property_ids files.properties first))

-- ---- properties that are right by themselves

-- the first identifier of a list, or none
abbrev pub head_of : List ℕ → ℕ
head_of [] = format.nil
head_of (x ∷ xs) = x

abbrev pub first_property : List Property → ℕ
first_property [] = format.nil
first_property (e ∷ es) = e.id

-- what a value leaves for blocks: a text that doesn't fit its property's record
abbrev pub long_text : Value → List ℕ
long_text (values.Int number) = []
long_text (values.Bool truth) = []
long_text (values.Text text) = cond (nat_le (length text) 40) [] text

-- The block has the first 48 bytes of the text, or all of it, and leads to the next one.
pub record IsBlock (string_file : ℕ → Rec) (text : List ℕ) (b next : ℕ) : Type 0 where
  pub low : b < format.most_ids
  pub some : 0 < length text
  pub kind : field 1 (string_file b) format.kind ≡ format.block
  pub size : field 1 (string_file b) format.block_length ≡ min 48 (length text)
  pub piece : text_in (string_file b) format.block_text (min 48 (length text)) ≡ take 48 text
  pub next_is : next_block string_file b ≡ next

-- the blocks have the text, 48 bytes in each but the last
abbrev pub AreBlocks : (ℕ → Rec) → List ℕ → List ℕ → Type 0
AreBlocks string_file text [] = text ≡ []
AreBlocks string_file text (b ∷ bs) =
    IsBlock string_file text b (head_of bs) × AreBlocks string_file (drop 48 text) bs

-- the content of a property of this value, whose text begins at this block
abbrev pub content_for : Value → ℕ → Content
content_for (values.Int number) first = Number number
content_for (values.Bool truth) first = Truth truth
content_for (values.Text text) first =
    cond (nat_le (length text) 40) (Inline text) (Long (length text) first)

-- Its record and its blocks have the property, and its record leads to the next one.
pub record IsProperty (files : PropertyRecords) (e : Property) (next : ℕ) : Type 0 where
  pub low : e.id < format.most_ids
  pub content : content_of (files.properties e.id) ≡ Some (content_for e.value (head_of e.blocks))
  pub key : field 4 (files.properties e.id) format.property_key ≡ e.key
  pub next_is : next_property files.properties e.id ≡ next
  pub kept : IsKept e.value
  pub blocks : AreBlocks files.strings (long_text e.value) e.blocks

abbrev pub AreLinked : PropertyRecords → List Property → Type 0
AreLinked files [] = Unit {0}
AreLinked files (e ∷ es) = IsProperty files e (first_property es) × AreLinked files es

abbrev pub ids_of : List Property → List ℕ
ids_of es = map (λ (e : Property). e.id) es

abbrev pub keys_of : List Property → List ℕ
keys_of es = map (λ (e : Property). e.key) es

abbrev pub blocks_of : List Property → List ℕ
blocks_of es = flat_map (λ (e : Property). e.blocks) es

-- no number comes twice
abbrev pub AreOnce : List ℕ → Type 0
AreOnce [] = Unit {0}
AreOnce (x ∷ xs) = (¬ In x xs) × AreOnce xs

-- An element's properties are these, in the order of their chain, which begins at this one.
pub record AreProperties (files : PropertyRecords) (first : ℕ) (es : List Property) : Type 0 where
  pub first_is : first ≡ first_property es
  pub linked : AreLinked files es
  pub few : length es ≤ 32
  pub ids_once : AreOnce (ids_of es)
  pub blocks_once : AreOnce (blocks_of es)
  pub keys_once : AreOnce (keys_of es)
