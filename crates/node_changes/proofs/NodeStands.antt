-- A new node that stands in the records, whatever they are.
use Rattle.std.proofs.Common.{◌≡◌, ◌≢◌, ◌∙◌, ℕ, ap, inl, arith, refl}
use Rattle.plain_graph.specs.declared.command.Target.TheVariants as targets
use Rattle.rec_bytes.specs.declared.record.Rec.{Rec}
use Rattle.rec_bytes.specs.Format as format
use Rattle.rec_bytes.specs.Record.{field}
use Rattle.rec_bytes.specs.Space.{State, after_put}
use Rattle.rec_bytes.proofs.Numbers.{field-lt}
use Rattle.rec_bytes.proofs.Spaces.{put_same}
use Rattle.store_rules.specs.Views.{high, kind_at, rec_at}
use Rattle.store_rules.proofs.ViewLaws.{kind_below, kind_low}
use Rattle.node_store.specs.declared.node_row.NodeRow.{NodeRow}
use Rattle.node_store.specs.NodeRecord.{node_key, node_record, row_of}
use Rattle.node_store.proofs.NodeRecords.{HasNumbers, kind-node_record}
use Rattle.prop_store.specs.Touching.{LeavesElement}
use Rattle.change_parts.specs.Owners.{owner_of}
use Rattle.change_parts.proofs.KeptLinks.{kind_kept}
use Rattle.node_changes.specs.NodeAdding.{IsNodeOf, new_row}
use Rattle.node_changes.proofs.IndexBeside.{KeepsBesideIndex, file_same, kinds_beside}

-- its record is put
module _ (s t : State) (id label : ℕ) (saved : t ≡ after_put s (node_key id) (node_record (new_row id label)))
    (got : row_of (t.records (node_key id)) id ≡ new_row id label) where
  numbers : HasNumbers (new_row id label)
  numbers = record {
    label = omega (arith, field-lt 4 (t.records (node_key id)) 4, ap (λ (r : NodeRow). r.label) got);
    first = omega arith;
    props = omega arith;
    degree = omega arith;
  }

  new_kind : field 1 (node_record (new_row id label)) format.kind ≡ format.sparse
  new_kind = kind-node_record (new_row id label) numbers

  pub put_stands : (field 1 (node_record (new_row id label)) format.kind ≢ format.free_kind → kind_at t.records format.nodes_file id ≢ format.free_kind)
      → IsNodeOf t.records id label
  put_stands used = record {
    sparse = kind_low (high t.records format.nodes_file) (rec_at t.records format.nodes_file id) id
        (kind_below (high t.records format.nodes_file) (rec_at t.records format.nodes_file id) id (used (λ free. let kind = new_kind in omega arith)))
        ∙ ap (λ (z : State). field 1 (z.records (node_key id)) format.kind) saved
        ∙ ap (λ (r : Rec). field 1 r format.kind) (put_same s.records (node_key id) (node_record (new_row id label))) ∙ new_kind;
    label_is = ap (λ (r : NodeRow). r.label) got;
  }

-- it gets its properties, and their entries
pub node_stands : (v w x : State) (id label : ℕ) → LeavesElement v w (owner_of (targets.Node id)) → KeepsBesideIndex w.records x.records
    → IsNodeOf v.records id label → IsNodeOf x.records id label
node_stands v w x id label left beside is = record {
  sparse = ap (λ (f : ℕ → ℕ). f id) (kinds_beside w.records x.records beside format.nodes_file refl (λ e. omega arith))
      ∙ kind_kept v.records w.records (targets.Node id) (record { own = left.own; others = left.others }) format.nodes_file
      (record { no_properties = λ e. omega arith; no_strings = λ e. omega arith }) (λ e. omega arith) id ∙ is.sparse;
  label_is = ap (λ (f : ℕ → Rec). field 4 (f id) format.node_label) (file_same w.records x.records beside format.nodes_file refl (λ e. omega arith))
      ∙ left.own 4 format.node_label (omega arith) (inl (omega arith)) ∙ is.label_is;
}
