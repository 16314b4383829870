-- The code's constants are the numbers of the format: those that no proved function of this crate uses, a group each.
use Rattle.std.proofs.Common.{◌≡◌, [], ◌∷◌, refl}
use Rattle.rec_bytes.specs.declared.fields.TheConstants.{KIND, FREE, FREE_NEXT, SPARSE, DENSE, NODE_LABEL}
use Rattle.rec_bytes.specs.declared.fields.TheConstants.{NODE_FIRST_LINK, NODE_FIRST_PROPERTY, NODE_DEGREE, RELATED}
use Rattle.rec_bytes.specs.declared.fields.TheConstants.{RELATIONSHIP_TYPE, RELATIONSHIP_SOURCE, RELATIONSHIP_TARGET}
use Rattle.rec_bytes.specs.declared.fields.TheConstants.{RELATIONSHIP_SOURCE_PREVIOUS, RELATIONSHIP_SOURCE_NEXT}
use Rattle.rec_bytes.specs.declared.fields.TheConstants.{RELATIONSHIP_TARGET_PREVIOUS, RELATIONSHIP_TARGET_NEXT}
use Rattle.rec_bytes.specs.declared.fields.TheConstants.{RELATIONSHIP_FIRST_PROPERTY, GROUPED, GROUP_TYPE, GROUP_OWNER}
use Rattle.rec_bytes.specs.declared.fields.TheConstants.{GROUP_PREVIOUS, GROUP_NEXT, GROUP_FIRST_OUT, GROUP_FIRST_IN}
use Rattle.rec_bytes.specs.declared.fields.TheConstants.{GROUP_FIRST_LOOP, COUNTED, GROUP_OUT_COUNT, GROUP_IN_COUNT}
use Rattle.rec_bytes.specs.declared.fields.TheConstants.{GROUP_LOOP_COUNT, INT, BOOL, TEXT_INLINE, TEXT_IN_BLOCKS}
use Rattle.rec_bytes.specs.declared.fields.TheConstants.{PROPERTY_LENGTH, PROPERTY_KEY, PROPERTY_NEXT}
use Rattle.rec_bytes.specs.declared.fields.TheConstants.{PROPERTY_FIRST_BLOCK, PROPERTY_NUMBER, PROPERTY_TRUTH}
use Rattle.rec_bytes.specs.declared.fields.TheConstants.{PROPERTY_TEXT, BLOCK, BLOCK_LENGTH, BLOCK_NEXT, BLOCK_TEXT}
use Rattle.rec_bytes.specs.declared.fields.TheConstants.{NAMED, NAME_LENGTH, NAME_TEXT, COUNTED_VERSION, TAKEN_NUMBER}
use Rattle.rec_bytes.specs.declared.fields.TheConstants.{DEFINITION, DEFINITION_LABEL, DEFINITION_KEY, DEFINITION_NEXT}
use Rattle.rec_bytes.specs.declared.fields.TheConstants.{DEFINITION_HEADS, DEFINITION_HEAD_COUNT, HEADS, HEADS_FIRST}
use Rattle.rec_bytes.specs.declared.fields.TheConstants.{HEADS_COUNT, INDEXED, INDEXED_NODE, INDEXED_PREVIOUS}
use Rattle.rec_bytes.specs.declared.fields.TheConstants.{INDEXED_NEXT, INDEXED_HASH}
use Rattle.rec_bytes.specs.declared.files.TheConstants.{LOG, RECORD_BYTES, TAKEN}
use Rattle.rec_bytes.specs.declared.limits.TheConstants.{DEFAULT_THRESHOLD, DEFAULT_LIMIT, PROPERTY_TEXT_BYTES}
use Rattle.rec_bytes.specs.declared.limits.TheConstants.{BLOCK_TEXT_BYTES, NAME_TEXT_BYTES, MOST_PROPERTIES}
use Rattle.rec_bytes.specs.declared.limits.TheConstants.{MOST_CHANGED, MOST_INDEXES, MOST_KEPT, MOST_TEXT_BYTES, MOST_WRITES}
use Rattle.rec_bytes.specs.declared.rules.TheConstants.{FORM_RULE, RANGE_RULE, SPLIT_RULE, CHAIN_RULE, GROUP_RULE}
use Rattle.rec_bytes.specs.declared.rules.TheConstants.{PROPERTY_RULE, NAME_RULE, DEGREE_RULE, INDEX_RULE}
use Rattle.rec_bytes.specs.Format as format
use Rattle.rec_bytes.specs.RuleNumbers as rules

pub format_of_files : LOG ∷ RECORD_BYTES ∷ TAKEN ∷ TAKEN_NUMBER ∷ COUNTED_VERSION ∷ []
    ≡ format.log_file ∷ format.record_bytes ∷ format.taken_id ∷ format.taken_number ∷ format.counted_version ∷ []
format_of_files = refl

pub format_of_limits : DEFAULT_THRESHOLD ∷ DEFAULT_LIMIT ∷ MOST_PROPERTIES ∷ MOST_TEXT_BYTES ∷ MOST_INDEXES ∷ MOST_WRITES ∷ MOST_CHANGED ∷ MOST_KEPT ∷ []
    ≡ format.default_threshold ∷ format.default_limit ∷ format.most_properties ∷ format.most_text_bytes ∷ format.most_indexes ∷ format.most_writes
    ∷ format.most_changed ∷ format.most_kept ∷ []
format_of_limits = refl

pub format_of_rules : FORM_RULE ∷ RANGE_RULE ∷ SPLIT_RULE ∷ CHAIN_RULE ∷ GROUP_RULE ∷ PROPERTY_RULE ∷ NAME_RULE ∷ DEGREE_RULE ∷ INDEX_RULE ∷ []
    ≡ rules.form_rule ∷ rules.range_rule ∷ rules.split_rule ∷ rules.chain_rule ∷ rules.group_rule ∷ rules.property_rule ∷ rules.name_rule ∷ rules.degree_rule
    ∷ rules.index_rule ∷ []
format_of_rules = refl

pub format_of_records : KIND ∷ FREE ∷ FREE_NEXT ∷ []
    ≡ format.kind ∷ format.free_kind ∷ format.free_next ∷ []
format_of_records = refl

pub format_of_nodes : SPARSE ∷ DENSE ∷ NODE_LABEL ∷ NODE_FIRST_LINK ∷ NODE_FIRST_PROPERTY ∷ NODE_DEGREE ∷ []
    ≡ format.sparse ∷ format.dense ∷ format.node_label ∷ format.node_first_link ∷ format.node_first_property ∷ format.node_degree ∷ []
format_of_nodes = refl

pub format_of_relationships : RELATED ∷ RELATIONSHIP_TYPE ∷ RELATIONSHIP_SOURCE ∷ RELATIONSHIP_TARGET ∷ RELATIONSHIP_SOURCE_PREVIOUS ∷ RELATIONSHIP_SOURCE_NEXT
    ∷ RELATIONSHIP_TARGET_PREVIOUS ∷ RELATIONSHIP_TARGET_NEXT ∷ RELATIONSHIP_FIRST_PROPERTY ∷ []
    ≡ format.related ∷ format.relationship_type ∷ format.relationship_source ∷ format.relationship_target ∷ format.relationship_source_previous
    ∷ format.relationship_source_next ∷ format.relationship_target_previous ∷ format.relationship_target_next ∷ format.relationship_first_property ∷ []
format_of_relationships = refl

pub format_of_groups : GROUPED ∷ GROUP_TYPE ∷ GROUP_OWNER ∷ GROUP_PREVIOUS ∷ GROUP_NEXT ∷ GROUP_FIRST_OUT ∷ GROUP_FIRST_IN ∷ GROUP_FIRST_LOOP ∷ COUNTED
    ∷ GROUP_OUT_COUNT ∷ GROUP_IN_COUNT ∷ GROUP_LOOP_COUNT ∷ []
    ≡ format.grouped ∷ format.group_type ∷ format.group_owner ∷ format.group_previous ∷ format.group_next ∷ format.group_first_out ∷ format.group_first_in
    ∷ format.group_first_loop ∷ format.counted ∷ format.group_out_count ∷ format.group_in_count ∷ format.group_loop_count ∷ []
format_of_groups = refl

pub format_of_properties : INT ∷ BOOL ∷ TEXT_INLINE ∷ TEXT_IN_BLOCKS ∷ PROPERTY_LENGTH ∷ PROPERTY_KEY ∷ PROPERTY_NEXT ∷ PROPERTY_FIRST_BLOCK ∷ PROPERTY_NUMBER
    ∷ PROPERTY_TRUTH ∷ PROPERTY_TEXT ∷ PROPERTY_TEXT_BYTES ∷ []
    ≡ format.int ∷ format.bool ∷ format.text_inline ∷ format.text_in_blocks ∷ format.property_length ∷ format.property_key ∷ format.property_next
    ∷ format.property_first_block ∷ format.property_number ∷ format.property_truth ∷ format.property_text ∷ format.property_text_bytes ∷ []
format_of_properties = refl

pub format_of_blocks : BLOCK ∷ BLOCK_LENGTH ∷ BLOCK_NEXT ∷ BLOCK_TEXT ∷ BLOCK_TEXT_BYTES ∷ []
    ≡ format.block ∷ format.block_length ∷ format.block_next ∷ format.block_text ∷ format.block_text_bytes ∷ []
format_of_blocks = refl

pub format_of_names : NAMED ∷ NAME_LENGTH ∷ NAME_TEXT ∷ NAME_TEXT_BYTES ∷ []
    ≡ format.named ∷ format.name_length ∷ format.name_text ∷ format.name_text_bytes ∷ []
format_of_names = refl

pub format_of_definitions : DEFINITION ∷ DEFINITION_LABEL ∷ DEFINITION_KEY ∷ DEFINITION_NEXT ∷ DEFINITION_HEADS ∷ DEFINITION_HEAD_COUNT ∷ []
    ≡ format.definition ∷ format.definition_label ∷ format.definition_key ∷ format.definition_next ∷ format.definition_heads ∷ format.definition_head_count ∷ []
format_of_definitions = refl

pub format_of_heads : HEADS ∷ HEADS_FIRST ∷ HEADS_COUNT ∷ []
    ≡ format.heads ∷ format.heads_first ∷ format.heads_count ∷ []
format_of_heads = refl

pub format_of_indexed : INDEXED ∷ INDEXED_NODE ∷ INDEXED_PREVIOUS ∷ INDEXED_NEXT ∷ INDEXED_HASH ∷ []
    ≡ format.indexed ∷ format.indexed_node ∷ format.indexed_previous ∷ format.indexed_next ∷ format.indexed_hash ∷ []
format_of_indexed = refl
