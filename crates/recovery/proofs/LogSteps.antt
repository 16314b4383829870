-- What a step of writing the log's entries leaves.
use Rattle.std.proofs.Common.{◌≡◌, ◌≢◌, ◌∙◌, ap, sym, subst, ℕ, ◌+◌, List, [], ◌∷◌, ◌++◌, Option, Some, None, is_some}
use Rattle.std.proofs.Common.{length, refl, arith, append_assoc, append-nil}
use mathlib.Core.Bool.{false≢true}
use Rattle.std.specs.Option.{option_or}
use Rattle.disk_model.specs.Contents.{Files, Same}
use Rattle.disk_model.specs.Spans.{IsAllSettled}
use Rattle.disk_model.specs.declared.disk.Disk.{Ghosts}
use Rattle.rec_bytes.specs.Format.{log_file}
use Rattle.rec_bytes.specs.declared.key.Key.{Key}
use Rattle.rec_bytes.specs.declared.record.Rec.{Rec}
use Rattle.rec_bytes.specs.Pairs.{Pairs, find_pair}
use Rattle.rec_bytes.specs.Space.{laid_over}
use Rattle.redo_log.specs.Entries.{HasEntriesFrom, IsEntry, count_at, entry_at, entry_bytes}
use Rattle.redo_log.specs.Reading.{IsPieceOf, Piece}
use Rattle.redo_log.specs.Redo.{redone}
use Rattle.redo_log.proofs.Appends.{HasEntries-read}
use Rattle.redo_log.proofs.Entries.{IsEntry-same, entry_at-same, length-writes_from}
use Rattle.record_file.specs.Records.{IsTornInRecords, SameButRecords, record_at}
use Rattle.record_file.specs.Redone.{last_of}
use Rattle.record_file.proofs.Records.{record_at-kept, record_at-settled}
use Rattle.record_file.proofs.Redone.{AllRedoBy, RedoesBy, redone-append, redone-same, settled-log, settled-records}
use Rattle.recovery.specs.Redoing.{IsAtEntry, IsTornInLogged, SameButLogged}
use Rattle.recovery.proofs.EntrySteps.{count_now}

-- Some entries are redone, and the others stand from the place on.
pub record IsRedoneTo (entries : List Pairs) (tail : ℕ) (first now : Files) (piece : Piece) (place : ℕ) : Type 0 where
  pub done : List Pairs
  pub left : List Pairs
  pub all : done ++ left ≡ entries
  pub rest : HasEntriesFrom place now left tail
  pub kept : IsPieceOf now piece
  pub made : record_at now ≡ redone (record_at first) done
  pub same : SameButLogged entries first now

pub SameButLogged-then : (entries : List Pairs) (old middle new : Files) → SameButLogged entries old middle → SameButLogged entries middle new
    → SameButLogged entries old new
SameButLogged-then entries old middle new before after = record {
  log = λ place. after.log place ∙ before.log place;
  others = λ key none. after.others key none ∙ before.others key none;
}

pub SameButLogged-same : (entries : List Pairs) (old new : Files) → Same old new → SameButLogged entries old new
SameButLogged-same entries old new same = record { log = same log_file; others = λ key none. record_at-kept key old new same }

none_right : {X : Type 0} (a b : Option X) → option_or a b ≡ None → b ≡ None
none_right None b e = e
none_right (Some x) b e = absurd (false≢true (ap is_some (sym e)))

none_left : {X : Type 0} (a b : Option X) → option_or a b ≡ None → a ≡ None
none_left None b e = refl
none_left (Some x) b e = absurd (false≢true (ap is_some (sym e)))

-- a key that no entry has this one doesn't have
last_of-none : (done later : List Pairs) (entry : Pairs) (key : Key) → last_of (done ++ entry ∷ later) key ≡ None → find_pair entry key ≡ None
last_of-none [] later entry key none = none_right (last_of later key) (find_pair entry key) none
last_of-none (d ∷ ds) later entry key none = last_of-none ds later entry key (none_left (last_of (ds ++ entry ∷ later) key) (find_pair d key) none)

-- a change of the records of an entry
pub SameButLogged-entry : (entries done later : List Pairs) (entry : Pairs) (old new : Files) → done ++ entry ∷ later ≡ entries → SameButRecords entry old new
    → SameButLogged entries old new
SameButLogged-entry entries done later entry old new all same = record {
  log = same.log;
  others = λ key none. same.others key (last_of-none done later entry key (ap (λ (es : List Pairs). last_of es key) all ∙ none));
}

-- where the log stays, the entries from a place on stay
HasEntriesFrom-read : (entries : List Pairs) (place tail : ℕ) (old new : Files) → HasEntriesFrom place old entries tail
    → ((p : ℕ) → new log_file p ≡ old log_file p) → HasEntriesFrom place new entries tail
HasEntriesFrom-read [] place tail old new has same = (has.0, λ is_open. has.1 (sym (same place) ∙ is_open))
HasEntriesFrom-read (entry ∷ later) place tail old new has same = (
  IsEntry-same place old new (λ p from end. same p) has.0,
  entry_at-same place old new (λ p from end. same p) ∙ has.1,
  HasEntriesFrom-read later (place + entry_bytes (length entry)) tail old new has.2 same,
)

-- after a read
pub IsRedoneTo-read : (entries : List Pairs) (tail : ℕ) (first old now : Files) (piece next : Piece) (place : ℕ) → IsRedoneTo entries tail first old piece place
    → Same old now → IsPieceOf now next → IsRedoneTo entries tail first now next place
IsRedoneTo-read entries tail first old now piece next place was same kept =
    let records : record_at now ≡ record_at old = λ i key. record_at-kept key old now same i in
    record {
      done = was.done;
      left = was.left;
      all = was.all;
      rest = HasEntriesFrom-read was.left place tail old now was.rest (same log_file);
      kept = kept;
      made = records ∙ was.made;
      same = SameButLogged-then entries first old now was.same (SameButLogged-same entries old now same);
    }

-- What stands at the place of an entry: one of the log, with those before and after it.
pub record IsNext (entries : List Pairs) (tail : ℕ) (content : Files) (place : ℕ) (done left : List Pairs) : Type 0 where
  pub later : List Pairs
  pub left_is : done ++ entry_at content place ∷ later ≡ entries
  pub rest : HasEntriesFrom (place + entry_bytes (count_at content place)) content later tail

pub IsNext-entry : (entries : List Pairs) (tail : ℕ) (content : Files) (place : ℕ) (done left : List Pairs) → IsEntry content place
    → HasEntriesFrom place content left tail → done ++ left ≡ entries
    → IsNext entries tail content place done left
IsNext-entry entries tail content place done [] entry rest all = absurd (rest.1 entry.open_gate)
IsNext-entry entries tail content place done (e ∷ later) entry rest all = record {
  later = later;
  left_is = ap (λ (x : Pairs). done ++ x ∷ later) rest.1 ∙ all;
  rest = subst (λ n. HasEntriesFrom (place + entry_bytes n) content later tail)
      (ap (λ (x : Pairs). length x) (sym rest.1) ∙ length-writes_from (count_at content place) (place + 3) content) rest.2;
}

-- one entry more
pub IsRedoneTo-more : (entries : List Pairs) (tail : ℕ) (first old new : Files) (piece next_piece : Piece) (place next : ℕ)
    → (was : IsRedoneTo entries tail first old piece place)
    → IsEntry old place → next ≡ place + entry_bytes (count_at old place) → SameButRecords (entry_at old place) old new
    → record_at new ≡ laid_over (record_at old) (entry_at old place) → IsPieceOf new next_piece → IsRedoneTo entries tail first new next_piece next
IsRedoneTo-more entries tail first old new piece next_piece place next was entry next_is same written kept =
    let at = IsNext-entry entries tail old place was.done was.left entry was.rest was.all in
    let e = entry_at old place in
    record {
      done = was.done ++ e ∷ [];
      left = at.later;
      all = append_assoc was.done (e ∷ []) at.later ∙ at.left_is;
      rest = subst (λ p. HasEntriesFrom p new at.later tail) (sym next_is)
          (HasEntriesFrom-read at.later (place + entry_bytes (count_at old place)) tail old new at.rest same.log);
      kept = kept;
      made = written ∙ ap (λ (records : Key → Rec). laid_over records e) was.made ∙ sym (redone-append was.done e (record_at first));
      same = SameButLogged-then entries first old new was.same (SameButLogged-entry entries was.done at.later e old new at.left_is same);
    }

-- over a closed gate all entries are redone
all_done : (left done entries : List Pairs) (place tail : ℕ) (content : Files) → HasEntriesFrom place content left tail → content log_file place ≢ 1
    → done ++ left ≡ entries → done ≡ entries
all_done [] done entries place tail content has closed all = sym (append-nil done) ∙ all
all_done (e ∷ l) done entries place tail content has closed all = absurd (closed has.0.open_gate)

pub IsRedoneTo-end : (entries : List Pairs) (tail : ℕ) (first now : Files) (piece : Piece) (place : ℕ) → (was : IsRedoneTo entries tail first now piece place)
    → now log_file place ≢ 1
    → record_at now ≡ redone (record_at first) entries
IsRedoneTo-end entries tail first now piece place was closed =
    was.made ∙ ap (λ (es : List Pairs). redone (record_at first) es) (all_done was.left was.done entries place tail now was.rest closed was.all)

cons_after : (done later : List Pairs) (entry : Pairs) → done ++ entry ∷ later ≡ [] → ⊥
cons_after [] later entry all = absurd (omega (arith, ap (λ (es : List Pairs). length es) all))
cons_after (d ∷ ds) later entry all = absurd (omega (arith, ap (λ (es : List Pairs). length es) all))

-- where the log has no entry, none stands at a place
pub none_stands : (tail : ℕ) (first now : Files) (piece : Piece) (place : ℕ) → IsRedoneTo [] tail first now piece place → IsEntry now place → ⊥
none_stands tail first now piece place was entry =
    let at = IsNext-entry [] tail now place was.done was.left entry was.rest was.all in
    cons_after was.done at.later (entry_at now place) at.left_is

-- an open gate over another form doesn't stand among entries
pub none_damaged : (entries : List Pairs) (place tail : ℕ) (content : Files) → HasEntriesFrom place content entries tail → content log_file place ≡ 1
    → ¬ IsEntry content place → ⊥
none_damaged [] place tail content has is_open other = has.1 is_open
none_damaged (e ∷ l) place tail content has is_open other = other has.0

-- a content that is torn in logged records redoes to the same
pub RedoesBy-torn_logged : (entries : List Pairs) (tail : ℕ) (space : Key → Rec) (old new : Files) → RedoesBy entries tail space old
    → SameButLogged entries old new → RedoesBy entries tail space new
RedoesBy-torn_logged entries tail space old new by same = record {
  log = HasEntries-read entries tail old new by.log same.log;
  makes = redone-same entries (record_at new) (record_at old) same.others ∙ by.makes;
}

-- after a read the reader is at the entry
pub IsAtEntry-read : (old mid : Files) (next : Piece) (place count : ℕ) → IsEntry old place → count ≡ count_at old place → Same old mid → IsPieceOf mid next
    → IsAtEntry mid next place count
IsAtEntry-read old mid next place count entry count_is same kept = record {
  kept = kept;
  entry = IsEntry-same place old mid (λ p from end. same log_file p) entry;
  count_is = count_is ∙ sym (count_now old mid place (same log_file));
}

-- a content that is torn in records of an entry is torn in logged ones
pub IsTornInLogged-entry : (images mid : Files → Type 0) (entries : List Pairs) (tail : ℕ) (content : Files) (place : ℕ) (done left : List Pairs)
    → IsNext entries tail content place done left
    → ((image : Files) → mid image → IsTornInLogged images entries image) → (image : Files) → IsTornInRecords mid (entry_at content place) image
    → IsTornInLogged images entries image
IsTornInLogged-entry images mid entries tail content place done left at are image torn =
    let old = are torn.0 torn.1 in (
      old.0,
      old.1,
      SameButLogged-then entries old.0 torn.0 image old.2 (SameButLogged-entry entries done at.later (entry_at content place) torn.0 image
          at.left_is torn.2),
    )

-- on a settled disk each image makes what is read
pub AllRedoBy-settled : {D : Type 0} (g : Ghosts D) (disk : D) (entries : List Pairs) (tail : ℕ) (space : Key → Rec) → IsAllSettled g disk
    → RedoesBy entries tail space (g.reads disk)
    → AllRedoBy (g.may_leave disk) entries tail space
AllRedoBy-settled g disk entries tail space settled by image left =
    RedoesBy-torn_logged entries tail space (g.reads disk) image by (record {
      log = settled-log g disk settled image left;
      others = λ key none. record_at-settled key (g.reads disk) (g.may_leave disk) image (settled-records g disk settled) left;
    })
