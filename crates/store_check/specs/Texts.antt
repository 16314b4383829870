-- The blocks of texts, as a check meets them.
use Rattle.std.specs.Prelude.{◌≡◌, ◌≤◌}
use Rattle.rec_bytes.specs.Format as format
use Rattle.store_rules.specs.Views.{Records, high}
use Rattle.store_check.specs.declared.texts.TextHeads.{TextHeads}
use Rattle.record_lists.specs.Lines.{LineKind, live_line}

-- the blocks from one on
abbrev pub block_line : LineKind
block_line = live_line format.strings_file format.block_next

-- the bits are those of the records, whose high-water mark is low
pub record AreTexts (heads : TextHeads) (records : Records) : Type 0 where
  pub properties : heads.properties ≡ high records format.properties_file
  pub blocks : heads.blocks ≡ high records format.strings_file
  pub few_properties : high records format.properties_file ≤ format.most_ids
  pub few_blocks : high records format.strings_file ≤ format.most_ids
