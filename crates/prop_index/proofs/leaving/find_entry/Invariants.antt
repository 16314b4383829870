use Rattle.std.proofs.Common.{◌≡◌, ◌≢◌, ◌⊎◌, ◌≤◌, List, ℕ}
use Rattle.rec_bytes.specs.Format.{index_file, nil}
use Rattle.rec_bytes.specs.Key.{IsKey}
use Rattle.rec_bytes.specs.Space.{SameButReads}
use Rattle.store_rules.specs.Indexes.{first_entry, next_entry}
use Rattle.store_rules.specs.Views.{key_in}
use Rattle.prop_index.specs.Blaming.{IsEntryAt, IsOfIndexes}
use Rattle.prop_index.specs.Gathering.{AreEntries}
use Rattle.prop_index.specs.Leaving.{IsEntryBefore, SaysContent}
use Rattle.prop_index.proofs.Searches.{IsSearched}
use Rattle.prop_index.proofs.leaving.find_entry.Given as goal

abbrev pub invariant-loop : goal.invariant-loop
invariant-loop g l =
    let old = g.R.Reads.state l.fn.space in
    record {
      told : g.R.Reads.tells → (xs : List ℕ) → AreEntries old l.fn.first xs
          → IsSearched (next_entry old.records) (SaysContent old.records l.fn.content) xs l.at l.counter;
      named_is : IsOfIndexes l.fn.named → IsOfIndexes l.named;
      at : g.R.Reads.tells → (d b : ℕ) → IsEntryAt old d b 0 l.fn.first l.fn.named → IsEntryAt old d b l.counter l.at l.named;
      named_file : l.fn.named.file ≡ index_file → l.named.file ≡ index_file;
      from : g.R.Reads.tells → (d b : ℕ) → IsEntryAt old d b 0 l.fn.first l.fn.named → l.at ≢ nil
          → ((l.before ≡ nil) × (first_entry old.records d b ≡ l.at)) ⊎ IsEntryBefore old.records d b l.before l.at;
      passed : g.R.Reads.tells → l.before ≢ nil → ¬ SaysContent old.records l.fn.content l.before;
      key : l.before ≢ nil → IsKey (key_in index_file l.before);
      same : SameButReads old (g.R.Reads.state l.space);
      onward : g.R.Reads.onward l.fn.space l.space;
      later : g.R.Reads.faults l.fn.space ≤ g.R.Reads.faults l.space;
    }
