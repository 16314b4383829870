use Rattle.std.proofs.Common.{◌≡◌, ◌≤◌, ◌*◌, length, take}
use Rattle.store_rules.specs.Graph.{indexes_of}
use Rattle.store_rules.specs.Indexes.{AreIndexed, Entries}
use Rattle.prop_index.specs.Sparing.{SparesDefinitions}
use Rattle.prop_index.specs.Touching.{TouchesIndex}
use Rattle.node_changes.specs.Entries.{held_weight, without_held}
use Rattle.node_changes.proofs.entries.leave_values.Given as goal
use Rattle.store_rules.specs.Rules.{IsWhole}

abbrev pub invariant-loop-value : goal.invariant-loop-value
invariant-loop-value g l =
    let old = g.S.Reads.state l.fn.space in
    let now = g.S.Reads.state l.space in
    record {
      left : g.S.Reads.tells → (wanted : Entries) → AreIndexed old.records wanted → IsWhole old
          → AreIndexed now.records (without_held wanted (take l.value-index l.held)) × IsWhole now × (indexes_of now.records ≡ indexes_of old.records);
      within : l.value-index ≤ length l.held;
      few : l.weight ≤ 3 * l.value-index;
      spared : g.S.Reads.tells → SparesDefinitions old now;
      weighs : l.weight ≡ held_weight (take l.value-index l.held);
      touched : TouchesIndex g.S.Reads.tells l.weight old now;
      onward : g.S.Reads.onward l.fn.space l.space;
      later : g.S.Reads.faults l.fn.space ≤ g.S.Reads.faults l.space;
    }
