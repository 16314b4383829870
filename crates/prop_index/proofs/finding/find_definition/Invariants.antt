use Rattle.std.proofs.Common.{◌≤◌, ◌+◌, List, ℕ}
use Rattle.store_rules.specs.Indexes.{next_definition}
use Rattle.prop_store.specs.Reading.{ReadsAtMost}
use Rattle.prop_index.specs.Blaming.{IsDefinitionAt, IsOfIndexes}
use Rattle.prop_index.specs.Finding.{IsPair}
use Rattle.store_rules.specs.IndexBreaking.{AreDefinitions}
use Rattle.prop_index.proofs.IndexBlames.{AreOthersPast}
use Rattle.prop_index.proofs.Searches.{IsSearched}
use Rattle.prop_index.proofs.finding.find_definition.Given as goal

abbrev pub invariant-loop : goal.invariant-loop
invariant-loop g l =
    let old = g.R.Reads.state l.fn.space in
    record {
      told : g.R.Reads.tells → (ds : List ℕ) → AreDefinitions old.records ds
          → IsSearched (next_definition old.records) (IsPair old.records l.fn.label l.fn.key) ds l.at l.counter;
      named_is : IsOfIndexes l.named;
      at : g.R.Reads.tells → IsDefinitionAt old l.at l.named;
      others : g.R.Reads.tells → AreOthersPast old.records l.fn.label l.fn.key l.at l.counter;
      reads : ReadsAtMost (1 + l.counter) old (g.R.Reads.state l.space);
      onward : g.R.Reads.onward l.fn.space l.space;
      later : g.R.Reads.faults l.fn.space ≤ g.R.Reads.faults l.space;
    }
