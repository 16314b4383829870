use Rattle.std.specs.Prelude.{All}
use Rattle.std.proofs.Common.{◌≡◌, ◌≤◌, ◌+◌, ◌*◌, ◌++◌, List, length, map}
use Rattle.plain_graph.specs.Forms.{IsKept}
use Rattle.store_rules.specs.Properties.{AreProperties, Property, property_records}
use Rattle.prop_store.specs.Owner.{first_of}
use Rattle.prop_store.specs.Reading.{ReadsAtMost, block_total, prop_of, properties_met}
use Rattle.prop_store.specs.declared.prop.Prop.{Prop}
use Rattle.prop_store.proofs.Ahead.{ahead}
use Rattle.prop_store.proofs.Breaches.{Reached}
use Rattle.prop_store.proofs.WalkSteps.{Walked}
use Rattle.prop_store.proofs.reading.read_all_from.Given as goal

-- those passed are answered
abbrev pub invariant-loop : goal.invariant-loop
invariant-loop g l =
    let old = g.R.Reads.state l.fn.space in
    record {
      told : g.R.Reads.tells → (es : List Property) → AreProperties (property_records old.records) (first_of old.records l.fn.owner) es
          → Walked (property_records old.records) es l.at l.counter (λ passed. Unit {0});
      met : g.R.Reads.tells → l.props.items ++ map prop_of (ahead old.records l.at l.counter) ≡ map prop_of (properties_met old.records l.fn.owner);
      reached : g.R.Reads.tells → Reached old.records l.fn.owner l.from l.at l.counter;
      count : length l.props.items ≡ l.counter;
      few : block_total l.props.items ≤ 22 * l.counter;
      kept : All (λ (p : Prop). IsKept p.value) l.props.items;
      reads : ReadsAtMost (length l.props.items + block_total l.props.items) old (g.R.Reads.state l.space);
      onward : g.R.Reads.onward l.fn.space l.space;
      later : g.R.Reads.faults l.fn.space ≤ g.R.Reads.faults l.space;
    }
