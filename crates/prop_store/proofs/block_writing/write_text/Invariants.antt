use Rattle.std.proofs.Common.{◌≤◌, ◌-◌, ◌*◌, [], drop, length}
use Rattle.rec_bytes.specs.Format.{strings_file}
use Rattle.id_freelist.specs.ListDamage.{HarmsNoList}
use Rattle.prop_store.specs.FileChange.{IsSameBeside, KeepsFile, blocks_for}
use Rattle.prop_store.specs.Touching.{TouchesProperties}
use Rattle.prop_store.proofs.BlockSteps.{StandsFrom}
use Rattle.prop_store.proofs.block_writing.write_text.Given as goal

-- the text after so many blocks stands in blocks
abbrev pub invariant-loop-left : goal.invariant-loop-left
invariant-loop-left g l =
    let old = g.S.Reads.state l.fn.space in
    let now = g.S.Reads.state l.space in
    record {
      stands : g.S.Reads.tells → KeepsFile old strings_file → StandsFrom old now (drop (48 * l.left) l.fn.text) l.first;
      few : l.left ≤ blocks_for (length l.fn.text);
      beside : g.S.Reads.tells → IsSameBeside strings_file old.records now.records;
      harmless : g.S.Reads.tells → HarmsNoList old now strings_file;
      touches : TouchesProperties g.S.Reads.tells [] 0 (blocks_for (length l.fn.text) - l.left) old now;
      onward : g.S.Reads.onward l.fn.space l.space;
      later : g.S.Reads.faults l.fn.space ≤ g.S.Reads.faults l.space;
    }

abbrev pub decreases-loop-left : goal.decreases-loop-left
decreases-loop-left g l = l.left
