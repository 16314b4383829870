use Rattle.std.proofs.Common.{◌∙◌, ap, sym, Option, unwrap_or}
use Rattle.rec_bytes.proofs.RecordFiles.{is_meta_file-record, is_record_file-low}
use Rattle.rec_bytes.specs.declared.meta.Meta.{Meta}
use Rattle.record_file.specs.Records.{record_at}
use Rattle.txn_core.proofs.base.Base.meta.Goals as goal

pub returns : goal.returns
returns g c =
    let b = c.args.self.now in
    let low = is_record_file-low c.args.file (is_meta_file-record c.args.file c.requires) in
    ap (λ (m : Option Meta). unwrap_or m c.of_file.result) (sym c.of_file.ensures ∙ b.marked (record_at (g.D.Disk.reads b.disk.now)) c.args.file low)
