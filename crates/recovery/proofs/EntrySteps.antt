-- What a step of writing an entry's records leaves.
use Rattle.std.proofs.Common.{◌≡◌, ◌∙◌, ap, sym, subst, ℕ, ◌+◌, ◌<◌, false, [], Some, None, unwrap_or, arith}
use Rattle.std.specs.List.{slice_get}
use Rattle.disk_model.specs.Contents.{Files, Same}
use Rattle.rec_bytes.specs.Format.{log_file}
use Rattle.rec_bytes.specs.declared.key.Key.{Key}
use Rattle.rec_bytes.specs.declared.record.Rec.{Rec}
use Rattle.rec_bytes.specs.Key.{key_eq}
use Rattle.rec_bytes.specs.Pairs.{Pairs, find_pair}
use Rattle.rec_bytes.specs.Space.{laid_over, put}
use Rattle.redo_log.specs.Entries.{IsEntry, count_at, entry_at}
use Rattle.redo_log.specs.Reading.{IsPieceOf, Piece}
use Rattle.redo_log.proofs.Entries.{count_at-same, entry_at-same}
use Rattle.record_file.specs.Records.{SameButRecords, record_at}
use Rattle.record_file.proofs.Records.{record_at-kept}
use Rattle.record_file.proofs.Written.{AreAmong, AreAmong-none, AreAmong-put, AreWritten, AreWritten-more}
use Rattle.record_file.proofs.Written.{AreWritten-none, SameButRecords-among, SameButRecords-none, SameButRecords-same}
use Rattle.record_file.proofs.Written.{SameButRecords-then, find_pair-there}
use Rattle.recovery.specs.Redoing.{IsAtEntry}

-- So many records of the entry are written or wait in a run, and nothing else was.
pub record IsPartWritten (first now : Files) (piece : Piece) (place index : ℕ) (run : Pairs) : Type 0 where
  pub kept : IsPieceOf now piece
  pub written : AreWritten (record_at first) (entry_at first place) index (laid_over (record_at now) run)
  pub among : AreAmong run (entry_at first place)
  pub elsewhere : SameButRecords (entry_at first place) first now

pub IsPartWritten-none : (first : Files) (piece : Piece) (place count : ℕ) (run : Pairs) → run ≡ [] → IsAtEntry first piece place count
    → IsPartWritten first first piece place 0 run
IsPartWritten-none first piece place count run none at = record {
  kept = at.kept;
  written = subst (λ (r : Pairs). AreWritten (record_at first) (entry_at first place) 0 (laid_over (record_at first) r)) (sym none)
      (AreWritten-none (record_at first) (entry_at first place));
  among = subst (λ (r : Pairs). AreAmong r (entry_at first place)) (sym none) (AreAmong-none (entry_at first place));
  elsewhere = SameButRecords-none (entry_at first place) first;
}

-- the entry is the same now
pub entry_now : (first now : Files) (place : ℕ) → ((p : ℕ) → now log_file p ≡ first log_file p) → entry_at now place ≡ entry_at first place
entry_now first now place same = entry_at-same place first now (λ p from end. same p)

pub count_now : (first now : Files) (place : ℕ) → ((p : ℕ) → now log_file p ≡ first log_file p) → count_at now place ≡ count_at first place
count_now first now place same = count_at-same place first now (λ p from end. same p)

-- kept bytes of the log stay where the log stays
pub IsPieceOf-same : (old new : Files) (piece : Piece) → IsPieceOf old piece → ((p : ℕ) → new log_file p ≡ old log_file p) → IsPieceOf new piece
IsPieceOf-same old new piece kept same i below = kept i below ∙ sym (same (piece.start + i))

-- after a read of the log
pub IsPartWritten-read : (first old now : Files) (piece next : Piece) (place index : ℕ) (run : Pairs) → IsPartWritten first old piece place index run
    → Same old now → IsPieceOf now next → IsPartWritten first now next place index run
IsPartWritten-read first old now piece next place index run was same kept = record {
  kept = kept;
  written = λ key none. ap (λ (rec : Rec). unwrap_or (find_pair run key) rec) (record_at-kept key old now same) ∙ was.written key none;
  among = was.among;
  elsewhere = SameButRecords-then (entry_at first place) first old now was.elsewhere (SameButRecords-same (entry_at first place) old now same);
}

-- one record more
pub IsPartWritten-more : (first old new : Files) (piece : Piece) (place index : ℕ) (write : Key × Rec) (run next : Pairs) → IsEntry first place
    → IsPartWritten first old piece place index run
    → slice_get (entry_at first place) index ≡ Some write → laid_over (record_at new) next ≡ put (laid_over (record_at old) run) write.0 write.1
    → ((q : Key) → find_pair run q ≡ None → key_eq q write.0 ≡ false → find_pair next q ≡ None) → SameButRecords run old new
    → IsPartWritten first new piece place (index + 1) next
IsPartWritten-more first old new piece place index write run next entry was is written waits same =
    let pairs = entry_at first place in
    let some = SameButRecords-among run pairs old new was.among same in
    record {
      kept = IsPieceOf-same old new piece was.kept some.log;
      written = AreWritten-more (record_at first) pairs index write (laid_over (record_at old) run) (laid_over (record_at new) next) entry.form.rising is
          was.written written;
      among = AreAmong-put run next pairs write.0 was.among (find_pair-there pairs index write entry.form.rising is) waits;
      elsewhere = SameButRecords-then pairs first old new was.elsewhere some;
    }

-- the record that is read is one of the entry
pub write_is : (first now : Files) (start piece : Piece) (place count index : ℕ) (write : Key × Rec) (run : Pairs) → IsAtEntry first start place count
    → IsPartWritten first now piece place index run → index < count
    → (IsPieceOf now piece → index < count_at now place → slice_get (entry_at now place) index ≡ Some write)
    → slice_get (entry_at first place) index ≡ Some write
write_is first now start piece place count index write run at was below read =
    let counts : count_at now place ≡ count_at first place = count_now first now place was.elsewhere.log in
    ap (λ (pairs : Pairs). slice_get pairs index) (sym (entry_now first now place was.elsewhere.log))
    ∙ read was.kept (omega (arith, below, counts, at.count_is))

-- records that may be torn
pub IsPartWritten-torn : (first old read new : Files) (piece : Piece) (place index : ℕ) (run : Pairs) → IsPartWritten first old piece place index run
    → Same old read → SameButRecords run read new → SameButRecords (entry_at first place) first new
IsPartWritten-torn first old read new piece place index run was kept same =
    let pairs = entry_at first place in
    SameButRecords-then pairs first read new (SameButRecords-then pairs first old read was.elsewhere (SameButRecords-same pairs old read kept))
    (SameButRecords-among run pairs read new was.among same)
