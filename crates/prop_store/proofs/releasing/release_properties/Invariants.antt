use Rattle.std.proofs.Common.{◌≤◌, ◌∷◌, drop, map}
use Rattle.rec_bytes.specs.Format.{properties_file}
use Rattle.rec_bytes.specs.RecordFiles.{meta_key_of}
use Rattle.store_rules.specs.Properties.{AreOnce}
use Rattle.store_rules.specs.PropertyChange.{ChangesFile}
use Rattle.store_rules.specs.Views.{key_in}
use Rattle.prop_store.specs.FileChange.{IsSameBeside}
use Rattle.prop_store.specs.Touching.{TouchesOnly}
use Rattle.prop_store.proofs.ReleaseSteps.{HasLeft}
use Rattle.prop_store.proofs.releasing.release_properties.Given as goal

-- the properties from the next one on are left
abbrev pub invariant-loop-id : goal.invariant-loop-id
invariant-loop-id g l =
    let old = g.S.Reads.state l.fn.space in
    let now = g.S.Reads.state l.space in
    record {
      released : g.S.Reads.tells → AreOnce l.fn.ids → ChangesFile old.records old.records old.shape properties_file l.fn.ids l.fn.ids
          → HasLeft old.records now.records old.shape properties_file l.fn.ids (drop l.id-index l.fn.ids) l.id-index;
      beside : g.S.Reads.tells → IsSameBeside properties_file old.records now.records;
      touches : TouchesOnly g.S.Reads.tells old now (meta_key_of properties_file ∷ map (key_in properties_file) l.fn.ids);
      onward : g.S.Reads.onward l.fn.space l.space;
      later : g.S.Reads.faults l.fn.space ≤ g.S.Reads.faults l.space;
    }
