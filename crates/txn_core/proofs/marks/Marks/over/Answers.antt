use Rattle.std.proofs.Common.{rules, ◌≡◌, ◌∙◌, ap, sym, arith, ℕ}
use Rattle.rec_bytes.specs.Meta.{meta_of}
use Rattle.rec_bytes.specs.Pairs.{held_at}
use Rattle.rec_bytes.specs.RecordFiles.{meta_key_of}
use Rattle.rec_bytes.specs.Space.{laid_over}
use Rattle.rec_bytes.specs.declared.record.Rec.{Rec}
use Rattle.record_file.specs.MetaFile.{with_metas}
use Rattle.txn_core.proofs.MarkLaws.{marks-set, over-at}
use Rattle.txn_core.proofs.marks.Marks.over.Goals as goal

pub loop-file-preserved : goal.loop-file-preserved
loop-file-preserved c =
    let was = c.loop-file.invariant in
    let file = c.loop-file.file in
    let metas = c.args.metas.now.records in
    let changed = c.args.changed.now.pairs in
    let own = c.args.own.now.pairs in
    record {
      whole = search rules;
      done = λ records k below.
          marks-set c.loop-file.marks.of_files file k c.of.result (λ j. meta_of (laid_over (laid_over (with_metas metas records) changed) own (meta_key_of j)))
          (omega (arith, was.whole, c.loop-file-test.true))
          (c.of.ensures ∙ ap meta_of (c.found_into-in-loop-file.ensures.rec ∙ ap (held_at own (meta_key_of file)) c.found_into.ensures.rec
          ∙ sym (over-at metas changed own records file c.at-rec.result c.loop-file-test.true c.at-rec.ensures))) (was.done records) below;
    }
