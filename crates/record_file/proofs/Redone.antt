-- What the entries make of the records of a content, and what changes of the content do to it.
use Rattle.std.proofs.Common.{◌≡◌, ◌∙◌, ap, sym, inl, inr, ⊎_elim, ◌⊎◌, ℕ, ◌+◌, true, List, [], ◌∷◌, ◌++◌, Option, Some, None, is_some, unwrap_or, length, refl}
use mathlib.Core.Bool.{false≢true}
use Rattle.std.specs.Option.{option_or}
use Rattle.disk_model.specs.Contents.{Files, Same}
use Rattle.disk_model.specs.Disk.{Settled}
use Rattle.disk_model.specs.Spans.{IsAllSettled}
use Rattle.disk_model.specs.declared.disk.Disk.{Ghosts}
use Rattle.rec_bytes.specs.declared.key.Key.{Key}
use Rattle.rec_bytes.specs.declared.record.Rec.{Rec}
use Rattle.rec_bytes.specs.Format.{log_file}
use Rattle.rec_bytes.specs.Pairs.{Pairs, find_pair}
use Rattle.rec_bytes.specs.RecordFiles.{is_record_file}
use Rattle.rec_bytes.specs.Space.{laid_over}
use Rattle.record_file.proofs.Files.{IsFile-log, IsFile-record}
use Rattle.redo_log.specs.Appending.{IsAppended, SameButEntry}
use Rattle.redo_log.specs.Entries.{AllHaveEntries, HasEntries, entry_bytes}
use Rattle.redo_log.specs.Redo.{redone}
use Rattle.redo_log.specs.Resetting.{HasEntriesOrNone, IsReset, SameButGate}
use Rattle.redo_log.proofs.Appends.{HasEntries-read}
use Rattle.record_file.specs.Records.{IsTornInRecords, SameButRecords, record_at}
use Rattle.record_file.specs.Redone.{AreAlike, AreLogged, IsLogged, Redoes, last_of}
use Rattle.record_file.proofs.Records.{record_at-log, record_at-settled}
use Rattle.record_file.proofs.Written.{SameButRecords-same}

-- The log of the content has these entries, and they make this space.
pub record RedoesBy (entries : List Pairs) (tail : ℕ) (space : Key → Rec) (content : Files) : Type 0 where
  pub log : HasEntries content entries tail
  pub makes : redone (record_at content) entries ≡ space

-- each of these contents redoes to the space by the same entries
abbrev pub AllRedoBy : (Files → Type 0) → List Pairs → ℕ → (Key → Rec) → Type 0
AllRedoBy images entries tail space = (image : Files) → images image → RedoesBy entries tail space image

pub Redoes-by : (entries : List Pairs) (tail : ℕ) (space : Key → Rec) (content : Files) → RedoesBy entries tail space content → Redoes content space
Redoes-by entries tail space content by = record { entries = entries; tail = tail; log = by.log; makes = by.makes }

pub RedoesBy-of : (content : Files) (space : Key → Rec) (redoes : Redoes content space) → RedoesBy redoes.entries redoes.tail space content
RedoesBy-of content space redoes = record { log = redoes.log; makes = redoes.makes }

-- two options, one after the other
pub unwrap_or-option_or : {X : Type 0} (a b : Option X) (x : X) → unwrap_or (option_or a b) x ≡ unwrap_or a (unwrap_or b x)
unwrap_or-option_or (Some y) b x = refl
unwrap_or-option_or None b x = refl

option_or-assoc : {X : Type 0} (a b c : Option X) → option_or (option_or a b) c ≡ option_or a (option_or b c)
option_or-assoc (Some y) b c = refl
option_or-assoc None b c = refl

-- the entries leave the record that the last of them has for a key
pub redone-last : (entries : List Pairs) (records : Key → Rec) (key : Key) → redone records entries key ≡ unwrap_or (last_of entries key) (records key)
redone-last [] records key = refl
redone-last (entry ∷ later) records key =
    redone-last later (laid_over records entry) key ∙ sym (unwrap_or-option_or (last_of later key) (find_pair entry key) (records key))

-- one entry more
pub redone-append : (entries : List Pairs) (writes : Pairs) (records : Key → Rec)
    → redone records (entries ++ writes ∷ []) ≡ laid_over (redone records entries) writes
redone-append [] writes records = refl
redone-append (entry ∷ later) writes records = redone-append later writes (laid_over records entry)

pub last_of-append : (entries : List Pairs) (writes : Pairs) (key : Key)
    → last_of (entries ++ writes ∷ []) key ≡ option_or (find_pair writes key) (last_of entries key)
last_of-append [] writes key = none (find_pair writes key)
  where
    none : {X : Type 0} (a : Option X) → option_or None a ≡ option_or a None
    none (Some x) = refl
    none None = refl
last_of-append (entry ∷ later) writes key =
    ap (λ o. option_or o (find_pair entry key)) (last_of-append later writes key)
    ∙ option_or-assoc (find_pair writes key) (last_of later key) (find_pair entry key)

unwrap_or-same : {X : Type 0} (o : Option X) (a b : X) → (o ≡ None → a ≡ b) → unwrap_or o a ≡ unwrap_or o b
unwrap_or-same (Some x) a b same = refl
unwrap_or-same None a b same = same refl

-- over records that differ at logged keys alone the entries make the same
pub redone-same : (entries : List Pairs) (a b : Key → Rec) → ((key : Key) → last_of entries key ≡ None → a key ≡ b key) → redone a entries ≡ redone b entries
redone-same entries a b same = λ i key. at key i
  where
    at : (key : Key) → redone a entries key ≡ redone b entries key
    at key = redone-last entries a key ∙ unwrap_or-same (last_of entries key) (a key) (b key) (same key) ∙ sym (redone-last entries b key)

-- A torn write of logged records leaves what the log makes of the records.
pub RedoesBy-torn : (entries : List Pairs) (tail : ℕ) (space : Key → Rec) (written : Pairs) (old new : Files) → RedoesBy entries tail space old
    → SameButRecords written old new → AreLogged entries written
    → RedoesBy entries tail space new
RedoesBy-torn entries tail space written old new by same logged = record {
  log = HasEntries-read entries tail old new by.log same.log;
  makes = redone-same entries (record_at new) (record_at old) (λ key none. same.others key (logged key none)) ∙ by.makes;
}

-- and so do reads
pub RedoesBy-kept : (entries : List Pairs) (tail : ℕ) (space : Key → Rec) (old new : Files) → RedoesBy entries tail space old → Same old new
    → RedoesBy entries tail space new
RedoesBy-kept entries tail space old new by same = RedoesBy-torn entries tail space [] old new by (SameButRecords-same [] old new same) (λ key none. refl)

pub Redoes-kept : (space : Key → Rec) (old new : Files) → Redoes old space → Same old new → Redoes new space
Redoes-kept space old new redoes same = Redoes-by redoes.entries redoes.tail space new
    (RedoesBy-kept redoes.entries redoes.tail space old new (RedoesBy-of old space redoes) same)

-- each content that is torn in logged records
pub RedoesBy-torn_in : (entries : List Pairs) (tail : ℕ) (space : Key → Rec) (written : Pairs) (images : Files → Type 0) → AllRedoBy images entries tail space
    → AreLogged entries written → (content : Files)
    → IsTornInRecords images written content → RedoesBy entries tail space content
RedoesBy-torn_in entries tail space written images all logged content torn =
    RedoesBy-torn entries tail space written torn.0 content (all torn.0 torn.1) torn.2 logged

pub AllHaveEntries-redo : (images : Files → Type 0) (entries : List Pairs) (tail : ℕ) (space : Key → Rec) → AllRedoBy images entries tail space
    → AllHaveEntries images entries tail
AllHaveEntries-redo images entries tail space all image left = (all image left).log

-- the records of the content with the changed ones over them are what it redoes to
pub RedoesBy-logged : (content : Files) (changed : Pairs) (tail : ℕ) (is : IsLogged content changed tail)
    → RedoesBy is.entries tail (laid_over (record_at content) changed) content
RedoesBy-logged content changed tail is = record { log = is.log; makes = λ i key. at key i }
  where
    at : (key : Key) → redone (record_at content) is.entries key ≡ laid_over (record_at content) changed key
    at key = redone-last is.entries (record_at content) key ∙ ap (λ o. unwrap_or o (record_at content key)) (sym (is.changes key))

-- the changed records are logged
pub AreLogged-changed : (content : Files) (changed : Pairs) (tail : ℕ) (is : IsLogged content changed tail) → AreLogged is.entries changed
AreLogged-changed content changed tail is key none = is.changes key ∙ none

-- and each image redoes to the same
pub AllRedoBy-alike : (content : Files) (changed : Pairs) (tail : ℕ) (images : Files → Type 0) (is : IsLogged content changed tail)
    → AreAlike content changed images
    → AllRedoBy images is.entries tail (laid_over (record_at content) changed)
AllRedoBy-alike content changed tail images is alike image left =
    RedoesBy-torn is.entries tail (laid_over (record_at content) changed) changed content image (RedoesBy-logged content changed tail is) (alike image left)
    (AreLogged-changed content changed tail is)

-- A changed first gate leaves what the content makes, where its records are those of the space.
pub Redoes-gate : (entries : List Pairs) (tail : ℕ) (space : Key → Rec) (old content : Files) → RedoesBy entries tail space old → record_at old ≡ space
    → SameButGate old content
    → HasEntriesOrNone content entries tail → Redoes content space
Redoes-gate entries tail space old content by are elsewhere entries_are =
    let same : record_at content ≡ record_at old = λ i key. record_at-log key 0 1 old content elsewhere i in
    ⊎_elim
    (λ had. Redoes-by entries tail space content (record { log = had; makes = ap (λ (records : Key → Rec). redone records entries) same ∙ by.makes }))
    (λ none. Redoes-by [] 0 space content (record { log = none; makes = same ∙ are }))
    entries_are

-- so of each image
pub Redoes-reset : (entries : List Pairs) (tail : ℕ) (space : Key → Rec) (images : Files → Type 0) → AllRedoBy images entries tail space
    → ((image : Files) → images image → record_at image ≡ space) → (content : Files) → IsReset images entries tail content → Redoes content space
Redoes-reset entries tail space images all are content reset =
    Redoes-gate entries tail space reset.old content (all reset.old reset.was_left) (are reset.old reset.was_left) reset.elsewhere reset.entries_are

-- Once the files of records are settled, each image has the records that are read.
pub records-settled : (read : Files) (images : Files → Type 0) → ((file : ℕ) → is_record_file file ≡ true → Settled file read images) → (image : Files)
    → images image → record_at image ≡ record_at read
records-settled read images settled image left = λ i key. record_at-settled key read images image settled left i

-- the files of records are among all
pub settled-records : {D : Type 0} (g : Ghosts D) (disk : D) → IsAllSettled g disk → (file : ℕ) → is_record_file file ≡ true
    → Settled file (g.reads disk) (g.may_leave disk)
settled-records g disk settled file is = settled file (IsFile-record file is)

pub settled-log : {D : Type 0} (g : Ghosts D) (disk : D) → IsAllSettled g disk → Settled log_file (g.reads disk) (g.may_leave disk)
settled-log g disk settled = settled log_file IsFile-log

-- where no entry stands, nothing is logged
pub IsLogged-none : (content : Files) (changed : Pairs) → changed ≡ [] → HasEntries content [] 0 → IsLogged content changed 0
IsLogged-none content changed none log = record { entries = []; log = log; changes = λ key. ap (λ (pairs : Pairs). find_pair pairs key) none }

-- and on a settled disk each image is what is read
pub AreAlike-settled : {D : Type 0} (g : Ghosts D) (disk : D) (changed : Pairs) → IsAllSettled g disk → AreAlike (g.reads disk) changed (g.may_leave disk)
AreAlike-settled g disk changed settled image left = record {
  log = settled-log g disk settled image left;
  others = λ key none. record_at-settled key (g.reads disk) (g.may_leave disk) image (settled-records g disk settled) left;
}

-- one entry more has the records that were put last
pub IsLogged-more : (old new : Files) (changed own merged : Pairs) (tail next : ℕ) (is : IsLogged old changed tail)
    → HasEntries new (is.entries ++ own ∷ []) next
    → ((key : Key) → find_pair merged key ≡ option_or (find_pair own key) (find_pair changed key)) → IsLogged new merged next
IsLogged-more old new changed own merged tail next is log finds = record {
  entries = is.entries ++ own ∷ [];
  log = log;
  changes = λ key. finds key ∙ ap (option_or (find_pair own key)) (is.changes key) ∙ sym (last_of-append is.entries own key);
}

none_of : {X : Type 0} (a b : Option X) → option_or a b ≡ None → b ≡ None
none_of None b e = e
none_of (Some x) b e = absurd (false≢true (ap is_some (sym e)))

-- each image is what is read, but for the records that are changed now
pub AreAlike-more : (old new : Files) (changed own merged : Pairs) (tail : ℕ) (images now : Files → Type 0) → AreAlike old changed images
    → ((key : Key) → find_pair merged key ≡ option_or (find_pair own key) (find_pair changed key))
    → Settled log_file new now → SameButEntry tail own old new
    → ((image : Files) → now image → (before : Files) × images before × SameButEntry tail own before image)
    → AreAlike new merged now
AreAlike-more old new changed own merged tail images now alike finds settled same was image left =
    let before = was image left in
    record {
      log = settled image left;
      others = λ key none.
          let absent : find_pair changed key ≡ None = none_of (find_pair own key) (find_pair changed key) (sym (finds key) ∙ none) in
          record_at-log key tail (entry_bytes (length own) + 1) before.0 image before.2
          ∙ (alike before.0 before.1).others key absent
          ∙ sym (record_at-log key tail (entry_bytes (length own) + 1) old new same);
    }

-- a content that an append may leave redoes to the space before it or to that with the new records
pub Redoes-appended : (images : Files → Type 0) (entries : List Pairs) (own : Pairs) (tail : ℕ) (space : Key → Rec) → AllRedoBy images entries tail space
    → (content : Files)
    → IsAppended images entries own tail content → Redoes content space ⊎ Redoes content (laid_over space own)
Redoes-appended images entries own tail space all content is =
    let by = all is.old is.was_left in
    let same : record_at content ≡ record_at is.old = λ i key. record_at-log key tail (entry_bytes (length own) + 1) is.old content is.elsewhere i in
    let makes : redone (record_at content) entries ≡ space = ap (λ (records : Key → Rec). redone records entries) same ∙ by.makes in
    ⊎_elim
    (λ had. inl (Redoes-by entries tail space content (record { log = had; makes = makes })))
    (λ more. inr (Redoes-by (entries ++ own ∷ []) (tail + entry_bytes (length own)) (laid_over space own) content (record {
      log = more;
      makes = redone-append entries own (record_at content) ∙ ap (λ (records : Key → Rec). laid_over records own) makes;
    })))
    is.entries_are

-- the space with the merged records is the old one with the new records over it
pub space-merged : (old new : Files) (changed own merged : Pairs) (tail : ℕ)
    → ((key : Key) → find_pair merged key ≡ option_or (find_pair own key) (find_pair changed key)) → SameButEntry tail own old new
    → laid_over (record_at new) merged ≡ laid_over (laid_over (record_at old) changed) own
space-merged old new changed own merged tail finds same = λ i key. at key i
  where
    at : (key : Key) → laid_over (record_at new) merged key ≡ laid_over (laid_over (record_at old) changed) own key
    at key =
        ap (λ (o : Option Rec). unwrap_or o (record_at new key)) (finds key)
        ∙ unwrap_or-option_or (find_pair own key) (find_pair changed key) (record_at new key)
        ∙ ap (λ (r : Rec). unwrap_or (find_pair own key) (unwrap_or (find_pair changed key) r))
        (record_at-log key tail (entry_bytes (length own) + 1) old new same)
