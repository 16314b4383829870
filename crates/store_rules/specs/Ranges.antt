-- The first rule: each record is of a known kind, its numbers are ones that may stand there, and
-- its other bytes are zero.
use Rattle.std.specs.Prelude.{◌≡◌, ℕ, zero, suc, ◌+◌, ◌<◌, nat_eq, nat_le, nat_lt, Bool, true}
use Rattle.std.specs.Prelude.{false, ◌&&◌, ◌||◌, cond, Option, None, Some, List, [], ◌∷◌}
use Rattle.std.specs.List.{list_any}
use Rattle.rec_bytes.specs.declared.record.Rec.{Rec}
use Rattle.rec_bytes.specs.declared.shape.Shape.{Shape}
use Rattle.rec_bytes.specs.Format as format
use Rattle.rec_bytes.specs.Meta.{IsMetaInRange}
use Rattle.rec_bytes.specs.Record.{field, zeros_from}
use Rattle.rec_bytes.specs.RecordFiles.{is_meta_file, meta_key_of}
use Rattle.rec_bytes.specs.Shape.{shape_of_record, version_of}
use Rattle.store_rules.specs.Views.{Records, high, rec_at}

-- a number of a record that names a record: its place, the file of that record, and whether it may
-- be none
pub record Pointer : Type 0 where
  pub place : ℕ
  pub into : ℕ
  pub optional : Bool

abbrev pub may : ℕ → ℕ → Pointer
may place into = record { place = place; into = into; optional = true }

abbrev pub must : ℕ → ℕ → Pointer
must place into = record { place = place; into = into; optional = false }

-- so many bytes of a record from a place on
pub record Range : Type 0 where
  pub at : ℕ
  pub size : ℕ

abbrev pub bytes_of : ℕ → ℕ → Range
bytes_of at size = record { at = at; size = size }

-- what a record of a kind has: the numbers that name records, and the bytes that are in use
pub record Layout : Type 0 where
  pub pointers : List Pointer
  pub used : List Range

abbrev pub laid : List Pointer → List Range → Option Layout
laid pointers used = Some (record { pointers = pointers; used = used })

-- a record of the file that is not in use
abbrev pub free_layout : ℕ → Option Layout
free_layout file = laid (may format.free_next file ∷ []) (bytes_of format.free_next 4 ∷ [])

-- a node, by the file that its first link points into
abbrev pub node_layout : ℕ → Option Layout
node_layout into = laid
    (may format.node_first_link into
    ∷ may format.node_first_property format.properties_file ∷ [])
    (bytes_of format.kind 1 ∷ bytes_of format.node_label 16 ∷ [])

abbrev pub relationship_layout : Option Layout
relationship_layout = laid
    (must format.relationship_source format.nodes_file
    ∷ must format.relationship_target format.nodes_file
    ∷ may format.relationship_source_previous format.relationships_file
    ∷ may format.relationship_source_next format.relationships_file
    ∷ may format.relationship_target_previous format.relationships_file
    ∷ may format.relationship_target_next format.relationships_file
    ∷ may format.relationship_first_property format.properties_file ∷ [])
    (bytes_of format.kind 1 ∷ bytes_of format.relationship_type 32 ∷ [])

-- a group, by how many bytes are in use from its type on
abbrev pub group_layout : ℕ → Option Layout
group_layout size = laid
    (must format.group_owner format.nodes_file
    ∷ may format.group_previous format.groups_file ∷ may format.group_next format.groups_file
    ∷ may format.group_first_out format.relationships_file
    ∷ may format.group_first_in format.relationships_file
    ∷ may format.group_first_loop format.relationships_file ∷ [])
    (bytes_of format.kind 1 ∷ bytes_of format.group_type size ∷ [])

abbrev pub next_property : Pointer
next_property = may format.property_next format.properties_file

-- a property, by its kind and the length of its text
abbrev pub property_layout : Rec → ℕ → ℕ → Option Layout
property_layout r kind size =
    cond (nat_eq kind format.int)
    (laid (next_property ∷ [])
    (bytes_of format.kind 1 ∷ bytes_of format.property_key 8
    ∷ bytes_of format.property_number 8 ∷ []))
    (cond (nat_eq kind format.bool && nat_le (field 1 r format.property_truth) 1)
    (laid (next_property ∷ [])
    (bytes_of format.kind 1 ∷ bytes_of format.property_key 8
    ∷ bytes_of format.property_truth 1 ∷ []))
    (cond (nat_eq kind format.text_inline && nat_le size 40)
    (laid (next_property ∷ [])
    (bytes_of format.kind 1 ∷ bytes_of format.property_length 10
    ∷ bytes_of format.property_text size ∷ []))
    (cond (nat_eq kind format.text_in_blocks && (nat_lt 40 size && nat_le size 1024))
    (laid (next_property ∷ may format.property_first_block format.strings_file ∷ [])
    (bytes_of format.kind 1 ∷ bytes_of format.property_length 14 ∷ []))
    None)))

-- a block of a text of so many bytes, and a name
abbrev pub block_layout : ℕ → Option Layout
block_layout size =
    cond (nat_lt 0 size && nat_le size 48)
    (laid (may format.block_next format.strings_file ∷ [])
    (bytes_of format.kind 2 ∷ bytes_of format.block_next 4
    ∷ bytes_of format.block_text size ∷ []))
    None

abbrev pub name_layout : ℕ → Option Layout
name_layout size =
    cond (nat_lt 0 size && nat_le size 48)
    (laid [] (bytes_of format.kind 2 ∷ bytes_of format.name_text size ∷ []))
    None

-- so many numbers of a record that name records, from a place on
abbrev pub pointers_from : ℕ → (ℕ → Pointer) → ℕ → List Pointer
pointers_from zero pointer place = []
pointers_from (suc n) pointer place = pointer place ∷ pointers_from n pointer (place + 4)

-- a definition of the index, whose label and key may be anything, with its records of heads
abbrev pub definition_layout : Option Layout
definition_layout = laid
    (may format.definition_next format.index_file
    ∷ pointers_from format.definition_head_count (λ place. must place format.index_file)
    format.definition_heads)
    (bytes_of format.kind 1 ∷ bytes_of format.definition_label 60 ∷ [])

-- a record of heads
abbrev pub heads_layout : Option Layout
heads_layout = laid
    (pointers_from format.heads_count (λ place. may place format.index_file) format.heads_first)
    (bytes_of format.kind 1 ∷ bytes_of format.heads_first 60 ∷ [])

-- an entry, whose hash may be anything
abbrev pub entry_layout : Option Layout
entry_layout = laid
    (must format.indexed_node format.nodes_file
    ∷ may format.indexed_previous format.index_file ∷ may format.indexed_next format.index_file
    ∷ [])
    (bytes_of format.kind 1 ∷ bytes_of format.indexed_node 20 ∷ [])

-- the layout of a record of the index that is in use, by its kind
abbrev pub index_layout : ℕ → Option Layout
index_layout kind =
    cond (nat_eq kind format.definition) definition_layout
    (cond (nat_eq kind format.heads) heads_layout
    (cond (nat_eq kind format.indexed) entry_layout None))

-- the layout of a record in use, by its file, where the kind is one of the file's
abbrev pub used_layout : ℕ → Rec → ℕ → Option Layout
used_layout file r kind =
    cond (nat_eq file format.nodes_file)
    (cond (nat_eq kind format.sparse) (node_layout format.relationships_file)
    (cond (nat_eq kind format.dense) (node_layout format.groups_file) None))
    (cond (nat_eq file format.relationships_file)
    (cond (nat_eq kind format.related) relationship_layout None)
    (cond (nat_eq file format.groups_file)
    (cond (nat_eq kind format.grouped) (group_layout 28)
    (cond (nat_eq kind format.counted) (group_layout 40) None))
    (cond (nat_eq file format.properties_file)
    (property_layout r kind (field 2 r format.property_length))
    (cond (nat_eq file format.strings_file)
    (cond (nat_eq kind format.block) (block_layout (field 1 r format.block_length)) None)
    (cond (nat_eq file format.names_file)
    (cond (nat_eq kind format.named) (name_layout (field 1 r format.name_length)) None)
    (cond (nat_eq file format.index_file) (index_layout kind) None))))))

-- records of this file are given back and used again; names are not
abbrev pub is_reused : ℕ → Bool
is_reused file = is_meta_file file && cond (nat_eq file format.names_file) false true

-- the layout of a record, where its kind and its lengths are right
abbrev pub layout_by : ℕ → Rec → ℕ → Option Layout
layout_by file r kind =
    cond (nat_eq kind format.free_kind) (cond (is_reused file) (free_layout file) None)
    (used_layout file r kind)

abbrev pub layout_of : ℕ → Rec → Option Layout
layout_of file r = layout_by file r (field 1 r format.kind)

-- the number is below the mark of its file, or it is none and may be
abbrev pub points : (ℕ → ℕ) → Rec → Pointer → Bool
points marks r p =
    nat_lt (field 4 r p.place) (marks p.into)
    || (p.optional && nat_eq (field 4 r p.place) format.nil)

abbrev pub all_point : (ℕ → ℕ) → Rec → List Pointer → Bool
all_point marks r [] = true
all_point marks r (p ∷ ps) = points marks r p && all_point marks r ps

abbrev pub is_in : ℕ → Range → Bool
is_in i range = nat_le range.at i && nat_lt i (range.at + range.size)

-- each byte that is not in use is zero
abbrev pub IsBlankOutside : List Range → Rec → Type 0
IsBlankOutside used r = (i : ℕ) → i < 64 → list_any (is_in i) used ≡ false → field 1 r i ≡ 0

-- a record of the file, below these marks
pub record Fits (marks : ℕ → ℕ) (file : ℕ) (r : Rec) : Type 0 where
  pub layout : Layout
  pub is : layout_of file r ≡ Some layout
  pub point : all_point marks r layout.pointers ≡ true
  pub blank : IsBlankOutside layout.used r

-- The store's own record says this shape and the newest version, the record of the last transaction
-- that was taken over has its number alone, and each file's meta record and each record below its
-- mark fits.
pub record AreInRange (records : Records) (shape : Shape) : Type 0 where
  pub own : shape_of_record (records (meta_key_of format.meta_file)) ≡ Some shape
  pub newest : version_of (records (meta_key_of format.meta_file)) ≡ format.newest_version
  pub taken : zeros_from format.taken_rest (records (meta_key_of format.taken_id)) ≡ true
  pub metas : (file : ℕ) → is_meta_file file ≡ true
      → IsMetaInRange shape file (records (meta_key_of file))
  pub fit : (file x : ℕ) → is_meta_file file ≡ true → x < high records file
      → Fits (high records) file (rec_at records file x)
