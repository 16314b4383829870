-- The numbers of the file format. The code's constants are these; `proofs/Format.antt` and the
-- contracts say so.
use Rattle.std.specs.Prelude.{ℕ, List, [], ◌∷◌}

-- the files
abbrev pub meta_file : ℕ
meta_file = 0

abbrev pub nodes_file : ℕ
nodes_file = 1

abbrev pub relationships_file : ℕ
relationships_file = 2

abbrev pub groups_file : ℕ
groups_file = 3

abbrev pub properties_file : ℕ
properties_file = 4

abbrev pub strings_file : ℕ
strings_file = 5

abbrev pub names_file : ℕ
names_file = 6

-- the redo log, which has no records
abbrev pub log_file : ℕ
log_file = 7

-- the index, from version 3 of the format on
abbrev pub index_file : ℕ
index_file = 8

-- what all records have in common: their bytes, a link to no record, and how many numbers a file
-- has at most
abbrev pub record_bytes : ℕ
record_bytes = 64

abbrev pub nil : ℕ
nil = 4294967295

abbrev pub most_ids : ℕ
most_ids = 33554432

-- how many records the meta file has: the store's own, one for each other file of records, and
-- between them one with the number of the last transaction that was taken over
abbrev pub meta_records : ℕ
meta_records = 9

-- how many names there may be
abbrev pub most_names : ℕ
most_names = 4096

-- how many properties a node or a relationship has at most
abbrev pub most_properties : ℕ
most_properties = 32

-- how many indexes a store has at most
abbrev pub most_indexes : ℕ
most_indexes = 16

-- how many records a transaction writes at most, and so an entry of the log has
abbrev pub most_writes : ℕ
most_writes = 2048

-- how many records are changed at most between two checkpoints
abbrev pub most_changed : ℕ
most_changed = 8192

-- how many old records are kept at most for all snapshots
abbrev pub most_kept : ℕ
most_kept = 16384

-- how many bytes the text of a property has at most
abbrev pub most_text_bytes : ℕ
most_text_bytes = 1024

-- the bounds of a shape, and what it is where nothing else is asked
abbrev pub least_threshold : ℕ
least_threshold = 2

abbrev pub greatest_threshold : ℕ
greatest_threshold = 200

abbrev pub least_limit : ℕ
least_limit = 16

abbrev pub greatest_limit : ℕ
greatest_limit = 16777216

abbrev pub default_threshold : ℕ
default_threshold = 50

abbrev pub default_limit : ℕ
default_limit = 1048576

-- the store's own record
abbrev pub own_id : ℕ
own_id = 0

abbrev pub store_mark : ℕ
store_mark = 0

abbrev pub store_version : ℕ
store_version = 4

abbrev pub store_threshold : ℕ
store_threshold = 6

abbrev pub store_limit : ℕ
store_limit = 8

-- zeros from here on
abbrev pub store_rest : ℕ
store_rest = 12

-- GRS1
abbrev pub mark : List ℕ
mark = 71 ∷ 82 ∷ 83 ∷ 49 ∷ []

-- the versions of the format: 1 is the first, from 2 on a group may have counts, from 3 on there is
-- an index
abbrev pub first_version : ℕ
first_version = 1

abbrev pub counted_version : ℕ
counted_version = 2

abbrev pub index_version : ℕ
index_version = 3

abbrev pub newest_version : ℕ
newest_version = 3

-- a meta record
abbrev pub meta_high : ℕ
meta_high = 0

abbrev pub meta_free : ℕ
meta_free = 4

abbrev pub meta_live : ℕ
meta_live = 8

-- zeros from here on, but that of the index has here its first definition, and zeros behind it
abbrev pub meta_rest : ℕ
meta_rest = 12

abbrev pub meta_definition : ℕ
meta_definition = 12

abbrev pub meta_index_rest : ℕ
meta_index_rest = 16

-- the record of the last transaction that was taken over: its number, and zeros behind it
abbrev pub taken_id : ℕ
taken_id = 7

abbrev pub taken_number : ℕ
taken_number = 0

abbrev pub taken_rest : ℕ
taken_rest = 8

-- each record of another file; 0 is the kind of one that isn't in use
abbrev pub kind : ℕ
kind = 0

abbrev pub free_kind : ℕ
free_kind = 0

-- a free record's link to the next one
abbrev pub free_next : ℕ
free_next = 4

-- a node
abbrev pub sparse : ℕ
sparse = 1

abbrev pub dense : ℕ
dense = 2

abbrev pub node_label : ℕ
node_label = 4

abbrev pub node_first_link : ℕ
node_first_link = 8

abbrev pub node_first_property : ℕ
node_first_property = 12

abbrev pub node_degree : ℕ
node_degree = 16

-- a relationship
abbrev pub related : ℕ
related = 1

abbrev pub relationship_type : ℕ
relationship_type = 4

abbrev pub relationship_source : ℕ
relationship_source = 8

abbrev pub relationship_target : ℕ
relationship_target = 12

abbrev pub relationship_source_previous : ℕ
relationship_source_previous = 16

abbrev pub relationship_source_next : ℕ
relationship_source_next = 20

abbrev pub relationship_target_previous : ℕ
relationship_target_previous = 24

abbrev pub relationship_target_next : ℕ
relationship_target_next = 28

abbrev pub relationship_first_property : ℕ
relationship_first_property = 32

-- a group, and one with the counts of its chains
abbrev pub grouped : ℕ
grouped = 1

abbrev pub counted : ℕ
counted = 2

abbrev pub group_type : ℕ
group_type = 4

abbrev pub group_owner : ℕ
group_owner = 8

abbrev pub group_previous : ℕ
group_previous = 12

abbrev pub group_next : ℕ
group_next = 16

abbrev pub group_first_out : ℕ
group_first_out = 20

abbrev pub group_first_in : ℕ
group_first_in = 24

abbrev pub group_first_loop : ℕ
group_first_loop = 28

abbrev pub group_out_count : ℕ
group_out_count = 32

abbrev pub group_in_count : ℕ
group_in_count = 36

abbrev pub group_loop_count : ℕ
group_loop_count = 40

-- a property
abbrev pub int : ℕ
int = 1

abbrev pub bool : ℕ
bool = 2

abbrev pub text_inline : ℕ
text_inline = 3

abbrev pub text_in_blocks : ℕ
text_in_blocks = 4

abbrev pub property_length : ℕ
property_length = 2

abbrev pub property_key : ℕ
property_key = 4

abbrev pub property_next : ℕ
property_next = 8

abbrev pub property_first_block : ℕ
property_first_block = 12

abbrev pub property_number : ℕ
property_number = 16

abbrev pub property_truth : ℕ
property_truth = 16

abbrev pub property_text : ℕ
property_text = 24

abbrev pub property_text_bytes : ℕ
property_text_bytes = 40

-- a block
abbrev pub block : ℕ
block = 1

abbrev pub block_length : ℕ
block_length = 1

abbrev pub block_next : ℕ
block_next = 4

abbrev pub block_text : ℕ
block_text = 8

abbrev pub block_text_bytes : ℕ
block_text_bytes = 48

-- a name
abbrev pub named : ℕ
named = 1

abbrev pub name_length : ℕ
name_length = 1

abbrev pub name_text : ℕ
name_text = 8

abbrev pub name_text_bytes : ℕ
name_text_bytes = 48

-- a definition of the index: the label and the key, and twelve records of heads
abbrev pub definition : ℕ
definition = 1

abbrev pub definition_label : ℕ
definition_label = 4

abbrev pub definition_key : ℕ
definition_key = 8

abbrev pub definition_next : ℕ
definition_next = 12

abbrev pub definition_heads : ℕ
definition_heads = 16

abbrev pub definition_head_count : ℕ
definition_head_count = 12

-- a record of heads: fifteen first entries
abbrev pub heads : ℕ
heads = 2

abbrev pub heads_first : ℕ
heads_first = 4

abbrev pub heads_count : ℕ
heads_count = 15

-- an entry of the index
abbrev pub indexed : ℕ
indexed = 3

abbrev pub indexed_node : ℕ
indexed_node = 4

abbrev pub indexed_previous : ℕ
indexed_previous = 8

abbrev pub indexed_next : ℕ
indexed_next = 12

abbrev pub indexed_hash : ℕ
indexed_hash = 16
