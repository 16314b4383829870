use Rattle.rec_bytes.specs.Record.{field}
use Rattle.std.proofs.Common.{◌≡◌, ◌+◌, ◌<◌, ◌≤◌, ℕ}
use Rattle.rec_bytes.specs.Format as format
use Rattle.rec_bytes.specs.Key.{IsKey}
use Rattle.store_rules.specs.Views.{key_in}
use Rattle.prop_store.specs.Touching.{TouchesOnly}
use Rattle.prop_index.specs.Defining.{AreHeadsAdded, CountsMore, PutsHeads}
use Rattle.prop_index.specs.DefinitionRecord.{head_ids, head_of}
use Rattle.prop_index.specs.Touching.{index_keys}
use Rattle.prop_index.proofs.defining.add_heads.Given as goal
use Rattle.store_rules.specs.Rules.{IsWhole}

abbrev pub invariant-loop-number : goal.invariant-loop-number
invariant-loop-number g l =
    let old = g.S.Reads.state l.fn.space in
    let now = g.S.Reads.state l.space in
    record {
      added : g.S.Reads.tells → IsWhole old → AreHeadsAdded old now l.fn.start l.number l.rec;
      kept : g.S.Reads.tells → PutsHeads old now l.number l.rec;
      kind : field 1 l.rec format.kind ≡ field 1 l.fn.start format.kind;
      front : (n at : ℕ) → at + n ≤ format.definition_heads → field n l.rec at ≡ field n l.fn.start at;
      counted : g.S.Reads.tells → CountsMore old now l.number;
      heads : (c : ℕ) → c < l.number → IsKey (key_in format.index_file (head_of l.rec c));
      touched : TouchesOnly g.S.Reads.tells old now (index_keys (head_ids l.number l.rec));
      onward : g.S.Reads.onward l.fn.space l.space;
      later : g.S.Reads.faults l.fn.space ≤ g.S.Reads.faults l.space;
    }
