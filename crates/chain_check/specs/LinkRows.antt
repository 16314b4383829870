-- Rows of the ends and the links of relationships, and the chains of nodes in them.
use Rattle.std.specs.Prelude.{◌≡◌, ℕ, ◌+◌, ◌*◌, ◌<◌, Bool, ◌&&◌, ◌||◌, cond, nat_eq, List, length}
use Rattle.std.specs.Prelude.{map}
use Rattle.std.proofs.Common.{get_or}
use Rattle.rec_bytes.specs.declared.record.Rec.{Rec}
use Rattle.rec_bytes.specs.Format as format
use Rattle.rec_bytes.specs.Record.{field}
use Rattle.store_rules.specs.Views.{Records, first_link, rec_at}
use Rattle.record_lists.specs.declared.heads.Found.{Found}
use Rattle.record_lists.specs.declared.heads.Found.TheVariants.{Items, Missing, Nothing}
use Rattle.record_lists.specs.Lines.{IsLine}
use Rattle.chain_check.specs.declared.link_rows.LinkRow.{LinkRow}

-- the row of a record that isn't in use: no node has the number of its ends
abbrev pub free_row : LinkRow
free_row = record {
  source = format.nil;
  target = format.nil;
  source_previous = format.nil;
  source_next = format.nil;
  target_previous = format.nil;
  target_next = format.nil;
}

-- the row of a record in use
abbrev pub used_row : Rec → LinkRow
used_row r = record {
  source = field 4 r format.relationship_source;
  target = field 4 r format.relationship_target;
  source_previous = field 4 r format.relationship_source_previous;
  source_next = field 4 r format.relationship_source_next;
  target_previous = field 4 r format.relationship_target_previous;
  target_next = field 4 r format.relationship_target_next;
}

-- the row of a record of a relationship
abbrev pub link_row : Rec → LinkRow
link_row r = cond (nat_eq (field 1 r format.kind) format.free_kind) free_row (used_row r)

abbrev pub row_at : List LinkRow → ℕ → LinkRow
row_at rows x = get_or rows x free_row

-- each row is that of its record
abbrev pub AreLinkRows : Records → List LinkRow → Type 0
AreLinkRows records rows =
    (x : ℕ) → x < length rows
    → row_at rows x ≡ link_row (rec_at records format.relationships_file x)

-- the next link of a relationship in the chain of the node
abbrev pub row_next : ℕ → LinkRow → ℕ
row_next node row = cond (nat_eq row.source node) row.source_next row.target_next

-- its other link there
abbrev pub row_previous : ℕ → LinkRow → ℕ
row_previous node row = cond (nat_eq row.source node) row.source_previous row.target_previous

-- the relationship is at the node, and its other link there is this
abbrev pub row_fits : ℕ → ℕ → LinkRow → Bool
row_fits node before row =
    (nat_eq row.source node || nat_eq row.target node)
    && nat_eq (row_previous node row) before

-- the number of the end of a relationship at the node
abbrev pub row_end : ℕ → ℕ → LinkRow → ℕ
row_end node x row = 2 * x + cond (nat_eq row.source node) 0 1

-- the rows make this list, from one on, as a chain of the node
abbrev pub IsRowChain : List LinkRow → ℕ → ℕ → List ℕ → Type 0
IsRowChain rows node first xs =
    IsLine (λ x. row_next node (row_at rows x)) (λ before x. row_fits node before (row_at rows x))
    (length rows) format.nil first xs

-- these are the ends in the chain from one on
pub record AreRowEnds (rows : List LinkRow) (node first : ℕ) (ends : List ℕ) : Type 0 where
  pub members : List ℕ
  pub chain : IsRowChain rows node first members
  pub are : ends ≡ map (λ x. row_end node x (row_at rows x)) members

abbrev pub RowEndsFound : List LinkRow → ℕ → ℕ → Found → Type 0
RowEndsFound rows node first Nothing = ⊥
RowEndsFound rows node first Missing = (xs : List ℕ) → ¬ IsRowChain rows node first xs
RowEndsFound rows node first (Items v) = AreRowEnds rows node first v.items

-- these are the ends in the chain of a sparse node, as the rows have it
abbrev pub AreRowEndsOf : List LinkRow → Records → ℕ → List ℕ → Type 0
AreRowEndsOf rows records n ends = AreRowEnds rows n (first_link records n) ends
