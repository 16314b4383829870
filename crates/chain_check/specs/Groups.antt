-- The group chains of dense nodes as lines.
use Rattle.std.specs.Prelude.{◌≡◌, ℕ, ◌≤◌, Bool, not, ◌&&◌, nat_eq, List, map}
use Rattle.std.specs.List.{IsDistinct}
use Rattle.rec_bytes.specs.declared.record.Rec.{Rec}
use Rattle.rec_bytes.specs.Format as format
use Rattle.rec_bytes.specs.Record.{field}
use Rattle.store_rules.specs.Rules.{is_filled}
use Rattle.store_rules.specs.Views.{Records, high}
use Rattle.chain_check.specs.declared.groups.Owners.{Owners}
use Rattle.record_lists.specs.declared.heads.Found.{Found}
use Rattle.record_lists.specs.declared.heads.Found.TheVariants.{Nothing, Missing, Items}
use Rattle.store_rules.specs.Breaking.{group_label}
use Rattle.record_lists.specs.Lines.{IsLineIn, LineKind}

-- the record is a group in use of the node, and not empty
abbrev pub is_group_of : ℕ → Rec → Bool
is_group_of node r =
    not (nat_eq (field 1 r format.kind) format.free_kind)
    && (nat_eq (field 4 r format.group_owner) node && is_filled r)

-- the group chain of a node
abbrev pub group_line : ℕ → LineKind
group_line node = record {
  file = format.groups_file;
  next = λ r. field 4 r format.group_next;
  fits = λ before x r. is_group_of node r && nat_eq (field 4 r format.group_previous) before;
}

-- the groups in the line from one on, no two of one type
pub record AreGroups (records : Records) (high n first : ℕ) (groups : List ℕ) : Type 0 where
  pub line : IsLineIn (group_line n) records high first groups
  pub types : IsDistinct nat_eq (map (group_label records) groups)

abbrev pub GroupsFound : Records → ℕ → ℕ → ℕ → Found → Type 0
GroupsFound records high n first Nothing = ⊥
GroupsFound records high n first Missing = (xs : List ℕ) → ¬ AreGroups records high n first xs
GroupsFound records high n first (Items v) = AreGroups records high n first v.items

-- the bits are those of the records, whose high-water mark is low
pub record AreOwners (owners : Owners) (records : Records) : Type 0 where
  pub nodes : owners.nodes ≡ high records format.nodes_file
  pub groups : owners.groups ≡ high records format.groups_file
  pub few_nodes : high records format.nodes_file ≤ format.most_ids
  pub few_groups : high records format.groups_file ≤ format.most_ids
