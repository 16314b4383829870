use Rattle.std.proofs.Common.{◌≡◌, ◌<◌, All, map}
use Rattle.prop_store.specs.declared.prop.Prop.{Prop as PropRow}
use Rattle.rec_bytes.specs.declared.shape.Shape.{Shape}
use Rattle.store_rules.specs.Views.{Records}
use Rattle.traversal_run.specs.KeyValues.{entry_of, named_entry}
use Rattle.traversal_run.specs.Naming.{name_count}
use Rattle.traversal_run.specs.Reading.{IsNamedStore}
use Rattle.traversal_run.proofs.key_values.named_rows.Given as goal

abbrev pub invariant-loop-prop : goal.invariant-loop-prop
invariant-loop-prop l = (records : Records) (shape : Shape) → IsNamedStore records shape l.names.names
    → All (λ (prop : PropRow). prop.key < name_count records) l.fn.props.items → map entry_of l.rows.items ≡ map (named_entry records) l.yielded
