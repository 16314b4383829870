use Rattle.std.proofs.Common.{rules, ◌≡◌, ◌∙◌, ap, arith, List, ℕ, take, ◌+◌, ◌-◌, ◌*◌, drop}
use Rattle.rec_bytes.specs.declared.record.Rec.{Rec}
use Rattle.rec_bytes.specs.RecordFiles.{meta_key_of}
use Rattle.record_file.specs.Records.{record_at}
use Rattle.record_file.proofs.MetaRecords.{part_is, slice_get-set}
use Rattle.record_file.proofs.meta_file.MetaFile.of.Goals as goal

pub loop-id-preserved : goal.loop-id-preserved
loop-id-preserved c =
    let was = c.loop-id.invariant in
    let size : c.loop-id.id * 64 + 64 - c.loop-id.id * 64 ≡ 64 = omega arith in
    record {
      whole = search rules;
      done = λ content holds k below.
          slice_get-set c.loop-id.metas.records c.loop-id.id k (record { bytes = c.copy_from_slice.new.self }) (λ j. record_at content (meta_key_of j))
          (omega (arith, was.whole, c.loop-id-test.true))
          (ap (λ (bytes : List ℕ). let r : Rec = record { bytes = bytes } in r) (c.copy_from_slice.ensures.after ∙ ap
          (λ (n : ℕ). take n (drop (c.loop-id.id * 64) c.args.bytes.now)) size)
          ∙ part_is c.loop-id.id c.args.bytes.now content c.loop-id-test.true c.requires holds) (was.done content holds) below;
    }
