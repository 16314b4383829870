use Rattle.std.proofs.Common.{◌<◌, length, ◌≤◌, ◌∷◌, drop, map}
use Rattle.rec_bytes.specs.Format.{strings_file}
use Rattle.rec_bytes.specs.RecordFiles.{meta_key_of}
use Rattle.rec_bytes.specs.Meta.{IsLinkBelow}
use Rattle.rec_bytes.specs.Space.{meta_of}
use Rattle.store_rules.specs.Properties.{AreOnce}
use Rattle.store_rules.specs.PropertyChange.{ChangesFile}
use Rattle.store_rules.specs.Views.{key_in}
use Rattle.prop_store.specs.Blocks.{AreUsedOnce}
use Rattle.prop_store.specs.FileChange.{IsSameBeside}
use Rattle.prop_store.specs.Touching.{TouchesOnly}
use Rattle.prop_store.proofs.ReleaseSteps.{HasLeft, LeavesLinked}
use Rattle.prop_store.proofs.releasing.release.Given as goal

-- the blocks from the next one on are left
abbrev pub invariant-loop-id : goal.invariant-loop-id
invariant-loop-id g l =
    let old = g.S.Reads.state l.fn.space in
    let now = g.S.Reads.state l.space in
    record {
      released : g.S.Reads.tells → AreOnce l.fn.blocks → ChangesFile old.records old.records old.shape strings_file l.fn.blocks l.fn.blocks
          → HasLeft old.records now.records old.shape strings_file l.fn.blocks (drop l.id-index l.fn.blocks) l.id-index;
      harmless : g.S.Reads.tells → AreUsedOnce old.records l.fn.blocks → (0 < length l.fn.blocks → IsLinkBelow (meta_of old strings_file).free
          (meta_of old strings_file).high) → LeavesLinked old now l.fn.blocks (drop l.id-index l.fn.blocks);
      beside : g.S.Reads.tells → IsSameBeside strings_file old.records now.records;
      touches : TouchesOnly g.S.Reads.tells old now (meta_key_of strings_file ∷ map (key_in strings_file) l.fn.blocks);
      onward : g.S.Reads.onward l.fn.space l.space;
      later : g.S.Reads.faults l.fn.space ≤ g.S.Reads.faults l.space;
    }
