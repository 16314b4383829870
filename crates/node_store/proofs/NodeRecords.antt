-- The record of a node is read back, and it fits.
use Rattle.std.proofs.Common.{◌≡◌, ◌⊎◌, ⊎_elim, inr, ℕ, ◌+◌, ◌%◌, ◌^◌, ◌<◌, ◌≤◌, Bool, true, false, ◌&&◌, nat_eq, List}
use Rattle.std.proofs.Common.{[], ◌∷◌, Some, get_or, drop, refl, ap, ◌∙◌, arith}
use Rattle.std.specs.List.{list_any}
use Rattle.std.specs.Prelude.{replicate}
use Rattle.std.proofs.lemmas.Bool.{cases_lt}
use Rattle.std.proofs.lemmas.List.{get_or-drop, get_or-replicate}
use Rattle.std.proofs.lemmas.Bool.Decides.{nat_tests}
use Rattle.rec_bytes.specs.declared.record.Rec.{Rec}
use Rattle.rec_bytes.specs.Format as format
use Rattle.rec_bytes.specs.Record.{field, zeros}
use Rattle.rec_bytes.specs.Tables.{AllFit, field_at, is_clear}
use Rattle.rec_bytes.proofs.Tables.{field-with_fields, field-with_fields_other}
use Rattle.store_rules.specs.Ranges.{Fits, IsBlankOutside, Range, bytes_of, is_in, layout_by, layout_of, may, node_layout, points}
use Rattle.store_rules.proofs.NodeMade.{IsNewNode}
use Rattle.node_store.specs.declared.node_row.NodeRow.{NodeRow}
use Rattle.node_store.specs.NodeRecord.{kind_of, node_fields, node_record, row_of}

-- a record can hold the numbers of the row
pub record HasNumbers (row : NodeRow) : Type 0 where
  pub label : row.label < 2 ^ 32
  pub first : row.first < 2 ^ 32
  pub props : row.props < 2 ^ 32
  pub degree : row.degree < 2 ^ 32

small_kind : (dense : Bool) → kind_of dense < 256
small_kind true = omega arith
small_kind false = omega arith

all_fit : (row : NodeRow) → HasNumbers row → AllFit (node_fields row)
all_fit row small = (small_kind row.dense, (small.label, (small.first, (small.props, (small.degree, tt)))))

-- each number is read back
pub kind-node_record : (row : NodeRow) → HasNumbers row → field 1 (node_record row) format.kind ≡ kind_of row.dense
kind-node_record row small = field-with_fields 1 zeros (node_fields row) format.kind (kind_of row.dense) refl (all_fit row small) refl

number : (row : NodeRow) (at value : ℕ) → HasNumbers row → field_at (node_fields row) 4 at ≡ Some value → field 4 (node_record row) at ≡ value
number row at value small is = field-with_fields 4 zeros (node_fields row) at value refl (all_fit row small) is

dense-kind_of : (dense : Bool) → nat_eq (kind_of dense) format.dense ≡ dense
dense-kind_of true = refl
dense-kind_of false = refl

-- the row of the record is the row
pub row_of-node_record : (row : NodeRow) → HasNumbers row → row_of (node_record row) row.id ≡ row
row_of-node_record row small =
    let dense = ap (λ k. nat_eq k format.dense) (kind-node_record row small) ∙ dense-kind_of row.dense in
    λ i. record {
      id = row.id;
      label = number row format.node_label row.label small refl i;
      dense = dense i;
      first = number row format.node_first_link row.first small refl i;
      props = number row format.node_first_property row.props small refl i;
      degree = number row format.node_degree row.degree small refl i;
    }

-- the file that the first link of a node points into
abbrev pub link_file : Bool → ℕ
link_file true = format.groups_file
link_file false = format.relationships_file

layout-node_record : (row : NodeRow) → HasNumbers row → layout_of format.nodes_file (node_record row) ≡ node_layout (link_file row.dense)
layout-node_record row small = ap (layout_by format.nodes_file (node_record row)) (kind-node_record row small) ∙ by row.dense
  where
    by : (dense : Bool) → layout_by format.nodes_file (node_record row) (kind_of dense) ≡ node_layout (link_file dense)
    by true = refl
    by false = refl

-- the bytes of a node's numbers
abbrev used : List Range
used = bytes_of format.kind 1 ∷ bytes_of format.node_label 16 ∷ []

-- a byte that no number has
outside : (row : NodeRow) (i : ℕ) → list_any (is_in i) used ≡ false → is_clear i 1 (node_fields row) ≡ true
outside row i out = ⊎_elim (λ (low : i < 4). grind (arith, nat_tests)) (λ (high : 4 ≤ i). grind (arith, nat_tests)) (cases_lt i 4)

byte-zeros : (i : ℕ) → i < 64 → field 1 zeros i ≡ 0
unfolding field
byte-zeros i lt =
    let byte : get_or (drop i zeros.bytes) 0 0 ≡ 0 = get_or-drop i (replicate 64 0) 0 0 ∙ get_or-replicate 64 (i + 0) 0 0 (omega arith) in
    ap (λ b. (b + 0) % 256) byte

-- each byte that no number has is zero
pub blank-node_record : (row : NodeRow) → IsBlankOutside used (node_record row)
blank-node_record row = λ i lt out. field-with_fields_other 1 zeros (node_fields row) i (omega arith) (outside row i out) ∙ byte-zeros i lt

-- a number that is none or below its mark
points_there : (marks : ℕ → ℕ) (rec : Rec) (place into : ℕ) → (field 4 rec place < marks into) ⊎ (field 4 rec place ≡ format.nil)
    → points marks rec (may place into) ≡ true
points_there marks rec place into there = ⊎_elim
    (λ (low : field 4 rec place < marks into). grind (arith, nat_tests))
    (λ (none : field 4 rec place ≡ format.nil). grind (arith, nat_tests)) there

-- The record fits where its first link and its first property are none or below the marks of their files.
pub Fits-node_record : (marks : ℕ → ℕ) (row : NodeRow) → HasNumbers row → (row.first < marks (link_file row.dense)) ⊎ (row.first ≡ format.nil)
    → (row.props < marks format.properties_file) ⊎ (row.props ≡ format.nil) → Fits marks format.nodes_file (node_record row)
Fits-node_record marks row small first props =
    let rec = node_record row in
    let first_there : (field 4 rec format.node_first_link < marks (link_file row.dense)) ⊎ (field 4 rec format.node_first_link ≡ format.nil)
    = rw (number row format.node_first_link row.first small refl) first in
    let props_there : (field 4 rec format.node_first_property < marks format.properties_file) ⊎ (field 4 rec format.node_first_property ≡ format.nil)
    = rw (number row format.node_first_property row.props small refl) props in
    record {
      layout = record { pointers = may format.node_first_link (link_file row.dense) ∷ may format.node_first_property format.properties_file ∷ []; used = used };
      is = layout-node_record row small;
      point = ap (λ b. b && (points marks rec (may format.node_first_property format.properties_file) && true))
          (points_there marks rec format.node_first_link (link_file row.dense) first_there)
          ∙ ap (λ b. b && true) (points_there marks rec format.node_first_property format.properties_file props_there);
      blank = blank-node_record row;
    }

-- a node with no relationship and no property
abbrev pub new_row : ℕ → ℕ → NodeRow
new_row id label = record { id = id; label = label; dense = false; first = format.nil; props = format.nil; degree = 0 }

-- its record is a new node's, as the rules ask
pub IsNewNode-node_record : (id label : ℕ) → label < 2 ^ 32 → IsNewNode (node_record (new_row id label)) label
IsNewNode-node_record id label fits =
    let row = new_row id label in
    let small : HasNumbers row = record { label = fits; first = omega arith; props = omega arith; degree = omega arith } in
    record {
      kind = kind-node_record row small;
      label = number row format.node_label label small refl;
      first = number row format.node_first_link format.nil small refl;
      property = number row format.node_first_property format.nil small refl;
      degree = number row format.node_degree 0 small refl;
      fits = λ marks. Fits-node_record marks row small (inr refl) (inr refl);
    }
