use Rattle.std.proofs.Common.{◌≡◌, ◌≢◌, ◌<◌, ◌≤◌, ◌++◌, ℕ, List, length, take, get_or}
use Rattle.rec_bytes.specs.Format as format
use Rattle.rec_bytes.specs.Key.{IsKey}
use Rattle.store_rules.specs.Chains.{In}
use Rattle.store_rules.specs.Indexes.{AreIndexed, Entries, first_entry}
use Rattle.store_rules.specs.Views.{key_in, kind_at}
use Rattle.id_freelist.specs.ListDamage.{KeepsInUse}
use Rattle.prop_store.specs.Touching.{TouchesOnly}
use Rattle.prop_index.specs.Defining.{AreHeadsUsed, CountsMore, KeepsBeside}
use Rattle.prop_index.specs.DefinitionRecord.{head_ids}
use Rattle.prop_index.specs.Filling.{AreFillable, IsEmptyIndex, IsFilled}
use Rattle.prop_index.specs.Touching.{index_keys}
use Rattle.prop_index.proofs.filling.fill.Given as goal
use Rattle.store_rules.specs.Rules.{IsWhole}

abbrev pub invariant-loop-content : goal.invariant-loop-content
invariant-loop-content g l =
    let old = g.S.Reads.state l.fn.space in
    let now = g.S.Reads.state l.space in
    let definition = l.fn.definition in
    record {
      filled : g.S.Reads.tells → (wanted : Entries) → (ix : AreIndexed old.records wanted) → (label key : ℕ)
          → IsEmptyIndex old.records wanted ix label key definition → AreFillable old.records l.fn.contents → IsWhole old
          → IsFilled old now wanted ix label key (take l.content-index l.fn.contents)
          × ((b : ℕ) → b < 180 → get_or l.firsts b 0 ≡ first_entry now.records definition.id b);
      kept : g.S.Reads.tells → AreHeadsUsed old 12 definition.rec → KeepsInUse old now format.index_file
          × ((b : ℕ) → b < 180 → get_or l.firsts b 0 ≢ format.nil → kind_at now.records format.index_file (get_or l.firsts b 0) ≢ format.free_kind);
      beside : g.S.Reads.tells → AreHeadsUsed old 12 definition.rec → KeepsBeside old now definition.rec
          × ((b : ℕ) → b < 180 → get_or l.firsts b 0 ≢ format.nil → kind_at old.records format.index_file (get_or l.firsts b 0) ≡ format.free_kind);
      long : length l.firsts ≡ 180;
      keys : (b : ℕ) → b < 180 → get_or l.firsts b 0 ≢ format.nil → IsKey (key_in format.index_file (get_or l.firsts b 0));
      touched : (ids : List ℕ) × (length ids ≤ l.content-index) × ((b : ℕ) → b < 180 → get_or l.firsts b 0 ≢ format.nil → In (get_or l.firsts b 0) ids)
          × TouchesOnly g.S.Reads.tells old now (index_keys (head_ids 12 definition.rec ++ ids));
      counted : g.S.Reads.tells → CountsMore (g.S.Reads.state l.fn.space) (g.S.Reads.state l.space) l.content-index;
      onward : g.S.Reads.onward l.fn.space l.space;
      later : g.S.Reads.faults l.fn.space ≤ g.S.Reads.faults l.space;
    }
