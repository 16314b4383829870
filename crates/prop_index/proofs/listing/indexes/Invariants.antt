use Rattle.std.proofs.Common.{◌≡◌, ◌≤◌, ◌+◌, List, ℕ, length, map}
use Rattle.store_rules.specs.Indexes.{next_definition}
use Rattle.prop_store.specs.Reading.{ReadsAtMost}
use Rattle.store_rules.specs.IndexBreaking.{AreDefinitions}
use Rattle.prop_index.specs.Blaming.{IsDefinitionAt, IsOfIndexes}
use Rattle.prop_index.specs.Listing.{pair_of}
use Rattle.prop_index.proofs.IndexBlames.{ArePairsPast}
use Rattle.prop_index.proofs.Walks.{IsWalked}
use Rattle.prop_index.proofs.listing.indexes.Given as goal

abbrev pub invariant-loop : goal.invariant-loop
invariant-loop g l =
    let old = g.R.Reads.state l.fn.space in
    record {
      told : g.R.Reads.tells → (ds : List ℕ) → AreDefinitions old.records ds
          → (passed : List ℕ) × IsWalked (next_definition old.records) ds l.at passed × (l.pairs.items ≡ map (pair_of old.records) passed);
      named_is : IsOfIndexes l.named;
      at : g.R.Reads.tells → IsDefinitionAt old l.at l.named;
      met : g.R.Reads.tells → ArePairsPast old.records l.at l.pairs.items;
      few : length l.pairs.items ≡ l.counter;
      reads : ReadsAtMost (1 + l.counter) old (g.R.Reads.state l.space);
      onward : g.R.Reads.onward l.fn.space l.space;
      later : g.R.Reads.faults l.fn.space ≤ g.R.Reads.faults l.space;
    }
