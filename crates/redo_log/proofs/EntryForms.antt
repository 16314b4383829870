-- When the bytes at a place of the log are an entry, and which record of it stands where.
use Rattle.std.proofs.Common.{◌≡◌, ℕ, zero, suc, ◌+◌, ◌*◌, ◌<◌, Some, length, sym, ap, ◌∙◌, subst, arith, refl}
use Rattle.std.specs.List.{slice_get}
use Rattle.disk_model.specs.Contents.{Files}
use Rattle.rec_bytes.specs.Format.{log_file}
use Rattle.rec_bytes.specs.declared.key.Key.{Key}
use Rattle.rec_bytes.specs.declared.record.Rec.{Rec}
use Rattle.redo_log.specs.Entries.{Fits, IsEntry, count_at, entry_at, write_at, write_place, writes_from}
use Rattle.redo_log.specs.Reading.{AreRisingAbove, HasContent, IsEntrySize, IsPieceOf, Piece}
use Rattle.std.specs.Prelude.{None}
use Rattle.redo_log.proofs.Rising.{ordered_rises, rising_ordered, rising_valid}

pub length-writes_from : (content : Files) (place n : ℕ) → length (writes_from content place n) ≡ n
length-writes_from content place zero = refl
length-writes_from content place (suc n) = ap suc (length-writes_from content (place + 69) n)

pub slice_get-writes_from : (content : Files) (place n i : ℕ) → i < n → slice_get (writes_from content place n) i ≡ Some (write_at content (place + 69 * i))
slice_get-writes_from content place zero i lt = absurd (omega arith)
slice_get-writes_from content place (suc n) zero lt = let here : place ≡ place + 69 * 0 = omega arith in ap (λ (p : ℕ). Some (write_at content p)) here
slice_get-writes_from content place (suc n) (suc i) lt =
    let there : place + 69 + 69 * i ≡ place + 69 * suc i = omega arith in
    slice_get-writes_from content (place + 69) n i (omega arith) ∙ ap (λ (p : ℕ). Some (write_at content p)) there

-- the record that stands at the place of this index
pub entry_get : (content : Files) (place index : ℕ) (write : Key × Rec) → index < count_at content place → write ≡ write_at content (write_place place index)
    → slice_get (entry_at content place) index ≡ Some write
entry_get content place index write below read = slice_get-writes_from content (place + 3) (count_at content place) index below ∙ ap Some (sym read)

-- an open gate, a count that an entry may have, and keys that rise
pub is_entry : (content : Files) (place count : ℕ) → content log_file place ≡ 1 → count ≡ count_at content place → IsEntrySize place count
    → AreRisingAbove None (writes_from content (place + 3) count) → IsEntry content place
is_entry content place count open_gate is size rising =
    let long : length (entry_at content place) ≡ count = length-writes_from content (place + 3) (count_at content place) ∙ sym is in
    let keys = subst (λ (n : ℕ). AreRisingAbove None (writes_from content (place + 3) n)) is rising in
    record {
      open_gate = open_gate;
      form = record {
        some = omega (arith, size.some, long);
        few = omega (arith, size.few, long);
        keys = rising_valid None (entry_at content place)
            keys;
        rising = rising_ordered (entry_at content place) keys;
      };
      fits = subst (λ (n : ℕ). Fits place n) is size.fits;
    }

pub entry_size : (content : Files) (place count : ℕ) → count ≡ count_at content place → IsEntry content place → IsEntrySize place count
entry_size content place count is entry =
    let long : length (entry_at content place) ≡ count = length-writes_from content (place + 3) (count_at content place) ∙ sym is in
    record {
      some = omega (arith, entry.form.some, long);
      few = omega (arith, entry.form.few, long);
      fits = subst (λ (n : ℕ). Fits place n) (sym is)
          entry.fits;
    }

pub entry_rises : (content : Files) (place count : ℕ) → count ≡ count_at content place → IsEntry content place
    → AreRisingAbove None (writes_from content (place + 3) count)
entry_rises content place count is entry =
    subst (λ (n : ℕ). AreRisingAbove None (writes_from content (place + 3) n)) (sym is)
    (ordered_rises (entry_at content place) entry.form.keys entry.form.rising)

-- what a disk shows is itself a content
pub has_itself : (reads : Files) (piece : Piece) → IsPieceOf reads piece → HasContent reads reads piece
has_itself reads piece kept = record { same = λ file place. refl; kept = kept }

-- the kept bytes are those that the disk shows
pub still_kept : (content reads : Files) (piece : Piece) → HasContent content reads piece → IsPieceOf reads piece
still_kept content reads piece has = λ i lt. has.kept i lt ∙ sym (has.same log_file (piece.start + i))
