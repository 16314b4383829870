use Rattle.std.proofs.Common.{◌≡◌, ◌≤◌, ◌+◌, List, length}
use Rattle.store_rules.specs.Chains.{In}
use Rattle.store_rules.specs.Properties.{AreProperties, Property, keys_of, property_records}
use Rattle.prop_store.specs.Link.{IsLink, IsLinkOf, link_after, link_of}
use Rattle.prop_store.specs.Owner.{first_of}
use Rattle.prop_store.specs.Finding.{property_of}
use Rattle.prop_store.specs.Reading.{ReadsAtMost, properties_met}
use Rattle.prop_store.proofs.Ahead.{ahead}
use Rattle.prop_store.proofs.Breaches.{Reached}
use Rattle.prop_store.proofs.WalkSteps.{Walked}
use Rattle.prop_store.proofs.finding.find_from.Given as goal

-- the key is none of those passed
abbrev pub invariant-loop-count : goal.invariant-loop-count
invariant-loop-count g l =
    let old = g.R.Reads.state l.fn.space in
    record {
      told : g.R.Reads.tells → (es : List Property) → AreProperties (property_records old.records) (first_of old.records l.fn.owner) es
          → Walked (property_records old.records) es l.at l.count (λ passed. (l.link ≡ link_after (link_of l.fn.owner) passed) × (In l.fn.key (keys_of passed)
          → ⊥));
      met : g.R.Reads.tells → property_of (ahead old.records l.at l.count) l.fn.key ≡ property_of (properties_met old.records l.fn.owner) l.fn.key;
      passed : g.R.Reads.tells → l.count + length (ahead old.records l.at l.count) ≡ length (properties_met old.records l.fn.owner);
      reached : g.R.Reads.tells → Reached old.records l.fn.owner l.link.key l.at l.count;
      link : IsLink l.link;
      from : IsLinkOf l.fn.owner l.link;
      reads : ReadsAtMost l.count old (g.R.Reads.state l.space);
      onward : g.R.Reads.onward l.fn.space l.space;
      later : g.R.Reads.faults l.fn.space ≤ g.R.Reads.faults l.space;
    }
