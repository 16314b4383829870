-- The counts of groups, as walks of their chains find them.
use Rattle.std.specs.Prelude.{◌≡◌, ℕ, ◌≤◌, List, length}
use Rattle.rec_bytes.specs.declared.record.Rec.{Rec}
use Rattle.rec_bytes.specs.Format as format
use Rattle.rec_bytes.specs.Record.{field}
use Rattle.store_rules.specs.Views.{Records, high, kind_at, rec_at}
use Rattle.chain_check.specs.declared.counts.Counts.{Counts}
use Rattle.record_lists.specs.Lines.{IsLineIn}
use Rattle.chain_check.specs.NodeChains.{chain_line, side_at}

-- The chain that begins at one place of a group has as many relationships as the number at another
-- place says.
pub record IsAsLong (records : Records) (high : ℕ) (r : Rec) (first count : ℕ) : Type 0 where
  pub members : List ℕ
  pub line : IsLineIn
      (chain_line (side_at first (field 4 r format.group_type)) (field 4 r format.group_owner))
      records high (field 4 r first) members
  pub size : field 4 r count ≡ length members

-- so it is of each of its three chains
pub record AreAsLong (records : Records) (high : ℕ) (r : Rec) : Type 0 where
  pub out : IsAsLong records high r format.group_first_out format.group_out_count
  pub into : IsAsLong records high r format.group_first_in format.group_in_count
  pub loops : IsAsLong records high r format.group_first_loop format.group_loop_count

-- a group that has counts has those of its chains
abbrev pub CountsHold : Records → ℕ → Type 0
CountsHold records g =
    kind_at records format.groups_file g ≡ format.counted
    → AreAsLong records (high records format.relationships_file)
    (rec_at records format.groups_file g)

-- the bits are those of the records, whose high-water mark is low
pub record AreOfGroups (counts : Counts) (records : Records) : Type 0 where
  pub groups : counts.groups ≡ high records format.groups_file
  pub relationships : counts.relationships ≡ high records format.relationships_file
  pub few_groups : high records format.groups_file ≤ format.most_ids
  pub few_relationships : high records format.relationships_file ≤ format.most_ids
