use Rattle.std.proofs.Common.{◌≡◌, ℕ, ◌<◌}
use Rattle.rec_bytes.specs.declared.key.Key.{Key}
use Rattle.rec_bytes.specs.declared.record.Rec.{Rec}
use Rattle.rec_bytes.specs.Shape.{version_of}
use Rattle.rec_bytes.specs.Creation.{own_key}
use Rattle.recovery.specs.Finding.{HasMetaRight}
use Rattle.record_file.specs.MetaFile.{AreMetasOf}
use Rattle.recovery.proofs.finding.check_metas.Given as goal

abbrev pub invariant-loop-id : goal.invariant-loop-id
invariant-loop-id l = record {
  version : (space : Key → Rec) → AreMetasOf space l.metas.records → l.version ≡ version_of (space own_key);
  right : (space : Key → Rec) → AreMetasOf space l.metas.records → (id : ℕ) → id < l.id → HasMetaRight space l.shape id;
}
