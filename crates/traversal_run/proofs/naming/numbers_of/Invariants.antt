use Rattle.std.proofs.Common.{◌<◌, All, take}
use Rattle.traversal_run.specs.Naming.{FindsNames, name_count}
use Rattle.traversal_run.specs.Reading.{IsNamedStore}
use Rattle.traversal_run.proofs.naming.numbers_of.Given as goal

abbrev pub invariant-loop-text : goal.invariant-loop-text
invariant-loop-text g l =
    let s = g.R.Reads.state l.space in
    record {
      finds : IsNamedStore s.records s.shape l.names.names → FindsNames s.records l.numbers.items (take l.text-index l.texts);
      below : All (λ number. number < name_count s.records) l.numbers.items;
    }
