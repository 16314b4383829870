use Rattle.std.proofs.Common.{◌≡◌, length, ap}
use Rattle.rec_bytes.specs.Format as format
use Rattle.rec_bytes.specs.Record.{with_field, zeros}
use Rattle.name_store.proofs.NameRecords.{written-name_record}
use Rattle.name_store.proofs.name_record.name_record.Goals as goal

pub returns : goal.returns
returns c =
    let text = c.args.text.now in
    let head : c.set_byte-2.new.self.bytes ≡ (with_field 1 (with_field 1 zeros format.kind format.named) format.name_length (length text)).bytes
    = ap (λ rec. rec.bytes) (rw c.set_byte.ensures.set at c.set_byte-2.ensures.set) in
    rw c.copy_from_slice.ensures.after (ap (λ bytes. record { bytes = bytes }) (written-name_record text c.set_byte-2.new.self.bytes c.requires head))
