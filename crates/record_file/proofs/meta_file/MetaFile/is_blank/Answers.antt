use Rattle.std.proofs.Common.{rules, ◌≡◌, ◌↔◌, ◌<◌, ◌∙◌, IsTrue, Some, ℕ, ap, arith, get_or, length}
use Rattle.std.proofs.lemmas.Option.{get_or_from_slice_get, slice_get-get_or}
use Rattle.rec_bytes.specs.Format.{meta_records}
use Rattle.rec_bytes.specs.Record.{zeros}
use Rattle.rec_bytes.specs.declared.record.Rec.{Rec}
use Rattle.record_file.proofs.meta_file.MetaFile.is_blank.Goals as goal

pub returns : goal.returns
returns c =
    let records = c.args.self.now.records in
    let long : length records ≡ meta_records = search rules in
    let is : IsTrue c.all.result ↔ ((id : ℕ) → id < meta_records → get_or records id zeros ≡ zeros) = search rules in (
      λ all id below. slice_get-get_or records id zeros (omega (arith, below, long)) ∙ ap (λ (rec : Rec). Some rec) (is.0 all id below),
      λ blank. is.1 (λ id below. get_or_from_slice_get records id zeros zeros (blank id below)),
    )
