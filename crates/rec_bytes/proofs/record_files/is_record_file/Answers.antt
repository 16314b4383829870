use Rattle.std.proofs.Common.{nat_eq, ap, ◌∙◌}
use Rattle.std.specs.Prelude.{map}
use Rattle.std.specs.List.{list_any}
use Rattle.rec_bytes.specs.RecordFiles.{Rooms}
use Rattle.rec_bytes.proofs.RecordFiles.{is_among-files}
use Rattle.rec_bytes.proofs.record_files.is_record_file.Goals as goal

pub returns : goal.returns
returns c =
    c.is_among.ensures ∙ is_among-files c.all.result.now c.args.file
    ∙ ap (λ (rooms : Rooms). list_any (nat_eq c.args.file) (map (λ room. room.0) rooms)) c.all.ensures
