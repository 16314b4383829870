-- A record stands in its page.
use Rattle.std.proofs.Common.{◌≡◌, subst, ℕ, ◌+◌, ◌*◌, ◌/◌, ◌%◌, ◌≤◌, true, List, length, take, drop, length-drop, length-take-le, arith}
use Rattle.disk_model.specs.Contents.{Files, Holds}
use Rattle.rec_bytes.specs.declared.key.Key.{Key}
use Rattle.rec_bytes.specs.RecordFiles.{is_record_file}
use Rattle.record_file.specs.Records.{record_at}
use Rattle.record_file.proofs.Records.{Holds-part, record_at-read}
use Rattle.page_cache.specs.Pages.{IsPage, page_of, record_in}

pub record_in-is : (content : Files) (key : Key) (bytes : List ℕ) → is_record_file key.file ≡ true → IsPage content (page_of key) bytes
    → record_in bytes key.id ≡ record_at content key
record_in-is content key bytes file is =
    let fits : 64 * (key.id % 64) + 64 ≤ length bytes = omega (arith, is.whole) in
    let place : 4096 * (key.id / 64) + 64 * (key.id % 64) ≡ 64 * key.id = omega arith in
    let whole : length (take 64 (drop (64 * (key.id % 64)) bytes)) ≡ 64 =
    length-take-le 64 (drop (64 * (key.id % 64)) bytes) (omega (arith, fits, length-drop (64 * (key.id % 64)) bytes)) in
    let holds = Holds-part key.file (4096 * (key.id / 64)) (64 * (key.id % 64)) 64 bytes content (omega (arith, fits)) is.holds in
    record_at-read key (take 64 (drop (64 * (key.id % 64)) bytes)) content file whole
    (subst (λ at. Holds key.file at (take 64 (drop (64 * (key.id % 64)) bytes)) content) place holds)
