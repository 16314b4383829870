use Rattle.std.proofs.Common.{◌≡◌, map, take}
use Rattle.std.specs.List.{filter_map}
use Rattle.plain_graph.specs.Properties.{Properties}
use Rattle.traversal_run.specs.KeyValues.{AreRead, entry_at, entry_of}
use Rattle.traversal_run.specs.Reading.{IsNamedStore}
use Rattle.traversal_run.proofs.key_values.rows_among.Given as goal

abbrev pub invariant-loop-key : goal.invariant-loop-key
invariant-loop-key g l = IsNamedStore (g.R.Reads.state l.space).records (g.R.Reads.state l.space).shape l.names.names → (properties : Properties)
    → AreRead (g.R.Reads.state l.space).records l.props properties
    → map entry_of l.rows.items ≡ filter_map (entry_at properties) (take l.key-index l.keys)
