use Rattle.std.specs.Prelude.{IfSome}
use Rattle.std.proofs.Common.{◌≡◌, ◌≤◌, ◌*◌, ◌-◌, ℕ, List, length}
use Rattle.rec_bytes.specs.Format.{properties_file}
use Rattle.store_rules.specs.Chains.{In}
use Rattle.store_rules.specs.Properties.{Property, property_records}
use Rattle.prop_store.specs.BlockList.{AreSmall}
use Rattle.prop_store.specs.GivenOut.{holder_of}
use Rattle.prop_store.specs.Owner.{HasProperties}
use Rattle.prop_store.specs.Reading.{ReadsAtMost}
use Rattle.prop_store.proofs.Breaches.{ArePast}
use Rattle.prop_store.proofs.HeldSteps.{HeldTwice, Owned, Told}
use Rattle.prop_store.proofs.WalkSteps.{Walked}
use Rattle.prop_store.proofs.held.find_held.Given as goal

-- those passed were found
abbrev pub invariant-loop-at : goal.invariant-loop-at
invariant-loop-at g l =
    let old = g.R.Reads.state l.fn.space in
    let ids = l.held.ids.items in
    let blocks = l.held.blocks.items in
    record {
      told : g.R.Reads.tells → (es : List Property) → HasProperties old.records l.fn.owner es
          → Walked (property_records old.records) es l.at (length ids) (Told ids blocks l.shared);
      past : g.R.Reads.tells → ArePast old.records l.fn.first ids l.at;
      from : l.from ≡ holder_of properties_file l.fn.owner.key ids;
      owned : g.R.Reads.tells → (b : ℕ) → In b blocks → Owned old.records ids b;
      twice : g.R.Reads.tells → IfSome l.shared (HeldTwice old.records ids);
      small : AreSmall ids;
      small_blocks : AreSmall blocks;
      few : length ids ≤ 32;
      few_blocks : length blocks ≤ 22 * length ids;
      reads : ReadsAtMost (23 * length ids) old (g.R.Reads.state l.space);
      onward : g.R.Reads.onward l.fn.space l.space;
      later : g.R.Reads.faults l.fn.space ≤ g.R.Reads.faults l.space;
    }

abbrev pub decreases-loop-at : goal.decreases-loop-at
decreases-loop-at g l = 32 - length l.held.ids.items
