use Rattle.std.proofs.Common.{◌≡◌, ◌≢◌, ◌<◌, ◌≤◌, length, map, take}
use Rattle.rec_bytes.specs.Format.{node_label, nodes_file}
use Rattle.rec_bytes.specs.Record.{field}
use Rattle.rec_bytes.specs.Space.{SameButReads}
use Rattle.store_rules.specs.Indexes.{IsIndexed}
use Rattle.store_rules.specs.Views.{kind_at, rec_at}
use Rattle.prop_index.specs.Listing.{pair_of}
use Rattle.store_rules.specs.IndexBreaking.{HasDefinitions}
use Rattle.node_changes.specs.Entries.{held_of}
use Rattle.node_changes.proofs.entries.held_values.Given as goal

abbrev pub invariant-loop-pair : goal.invariant-loop-pair
invariant-loop-pair g l =
    let old = g.R.Reads.state l.fn.space in
    let now = g.R.Reads.state l.space in
    record {
      held : g.R.Reads.tells → kind_at old.records nodes_file l.node ≢ 0 → l.label ≡ field 4 (rec_at old.records nodes_file l.node) node_label
          → l.held.items ≡ held_of old.records l.label l.node (take l.pair-index l.pair-items);
      listed : g.R.Reads.tells → (store : IsIndexed old.records old.shape) → l.pair-items ≡ map (pair_of old.records) store.indexes.definitions;
      pairs : length l.pair-items ≤ 16;
      within : l.pair-index ≤ length l.pair-items;
      few : length l.held.items ≤ l.pair-index;
      walked : g.R.Reads.tells → 0 < length l.pair-items → HasDefinitions old.records;
      same : SameButReads old now;
      onward : g.R.Reads.onward l.fn.space l.space;
      later : g.R.Reads.faults l.fn.space ≤ g.R.Reads.faults l.space;
    }
