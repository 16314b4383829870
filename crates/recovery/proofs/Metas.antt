-- The records of the meta file, as entries are taken over.
use Rattle.std.proofs.Common.{◌≡◌, ◌≢◌, ◌∙◌, ap, sym, subst, ⊎_elim, ℕ, suc, ◌+◌, ◌≤◌, cond, List, [], ◌∷◌, ◌++◌, Some, None, length, drop, refl, arith}
use Rattle.std.proofs.Math.Path.{fun_ext}
use Rattle.std.specs.List.{slice_get}
use Rattle.disk_model.specs.Contents.{Files, Same}
use Rattle.rec_bytes.specs.Format.{log_file}
use Rattle.rec_bytes.specs.declared.key.Key.{Key}
use Rattle.rec_bytes.specs.declared.record.Rec.{Rec}
use Rattle.rec_bytes.specs.Pairs.{Pairs, IsOrdered, find_pair}
use Rattle.rec_bytes.specs.RecordFiles.{meta_key_of}
use Rattle.rec_bytes.specs.Space.{laid_over, put}
use Rattle.rec_bytes.proofs.KeyLaws.{key_eq-same}
use Rattle.redo_log.specs.Entries.{HasEntries, HasEntriesUpTo, IsEntry, count_at, entry_at, entry_bytes}
use Rattle.redo_log.specs.Redo.{redone}
use Rattle.redo_log.specs.Reading.{Tells}
use Rattle.redo_log.specs.declared.entry_answer.EntryAnswer.{EntryAnswer}
use Rattle.redo_log.proofs.Damage.{HasEntriesUpTo-closed, HasEntriesUpTo-more}
use Rattle.redo_log.proofs.Entries.{length-writes_from}
use Rattle.record_file.specs.MetaFile.{AreMetasOf}
use Rattle.record_file.specs.Records.{record_at}
use Rattle.record_file.proofs.Records.{cases_key}
use Rattle.record_file.proofs.Redone.{redone-append}
use Rattle.record_file.proofs.Written.{find_pair-drop, find_pair-end, find_pair-get}

-- contents with the same bytes everywhere are one
pub same_content : (old new : Files) → Same old new → new ≡ old
same_content old new same = fun_ext (λ file. fun_ext (λ place. same file place))

-- At each key that is not among the rest the records are laid over.
abbrev pub AreLaid : (Key → Rec) → Pairs → ℕ → (Key → Rec) → Type 0
AreLaid base ps i now = (key : Key) → find_pair (drop i ps) key ≡ None → now key ≡ laid_over base ps key

AreLaid-none : (base : Key → Rec) (ps : Pairs) → AreLaid base ps 0 base
AreLaid-none base ps key none = rw none refl

AreLaid-more : (base now : Key → Rec) (ps : Pairs) (i : ℕ) (write : Key × Rec) → IsOrdered ps → slice_get ps i ≡ Some write → AreLaid base ps i now
    → AreLaid base ps (i + 1) (put now write.0 write.1)
AreLaid-more base now ps i write ordered is are key none =
    let found : find_pair ps write.0 ≡ Some write.1 = find_pair-get ps i write ordered is in
    let next : i + 1 ≡ suc i = omega arith in
    ⊎_elim
    (λ (e : key ≡ write.0). subst (λ k. put now write.0 write.1 k ≡ laid_over base ps k) (sym e) (rw (key_eq-same write.0) (rw found refl)))
    (λ differ. ap (λ b. cond b write.1 (now key)) differ
    ∙ are key (find_pair-drop ps i write key is differ ∙ ap (λ (n : ℕ). find_pair (drop n ps) key) (sym next) ∙ none))
    (cases_key key write.0)

-- So many records of the entry are taken over, and where all are, the records are those with the entry laid over them.
pub record IsTaken (records : List Rec) (base : Key → Rec) (ps : Pairs) (i : ℕ) : Type 0 where
  pub now : Key → Rec
  pub are : AreMetasOf now records
  pub laid : AreLaid base ps i now

pub IsTaken-none : (records : List Rec) (base : Key → Rec) (ps : Pairs) → AreMetasOf base records → IsTaken records base ps 0
IsTaken-none records base ps are = record { now = base; are = are; laid = AreLaid-none base ps }

pub IsTaken-more : (old new : List Rec) (base : Key → Rec) (ps : Pairs) (i : ℕ) (write : Key × Rec) → IsOrdered ps → slice_get ps i ≡ Some write
    → IsTaken old base ps i
    → ((space : Key → Rec) → AreMetasOf space old → AreMetasOf (put space write.0 write.1) new) → IsTaken new base ps (i + 1)
IsTaken-more old new base ps i write ordered is was puts = record {
  now = put was.now write.0 write.1;
  are = puts was.now was.are;
  laid = AreLaid-more base was.now ps i write ordered is was.laid;
}

pub IsTaken-all : (records : List Rec) (base : Key → Rec) (ps : Pairs) (i : ℕ) → IsTaken records base ps i → length ps ≤ i
    → AreMetasOf (laid_over base ps) records
IsTaken-all records base ps i is end id below = is.are id below ∙ ap (λ (r : Rec). Some r) (is.laid (meta_key_of id) (find_pair-end ps i (meta_key_of id) end))

-- The log has entries up to the place, and these are the records that they make of the meta file's.
pub record IsReadTo (content : Files) (place : ℕ) (records : List Rec) : Type 0 where
  pub entries : List Pairs
  pub before : HasEntriesUpTo 0 content entries place
  pub are : AreMetasOf (redone (record_at content) entries) records

-- one more
pub IsReadTo-more : (content : Files) (place next : ℕ) (old new : List Rec) → (was : IsReadTo content place old) → IsEntry content place
    → next ≡ place + entry_bytes (count_at content place)
    → ((space : Key → Rec) → AreMetasOf space old → AreMetasOf (laid_over space (entry_at content place)) new) → IsReadTo content next new
IsReadTo-more content place next old new was entry next_is taken =
    let e = entry_at content place in
    let long : length e ≡ count_at content place = length-writes_from (count_at content place) (place + 3) content in
    let end : place + entry_bytes (length e) ≡ next = ap (λ (n : ℕ). place + entry_bytes n) long ∙ sym next_is in
    record {
      entries = was.entries ++ e ∷ [];
      before = subst (λ (p : ℕ). HasEntriesUpTo 0 content (was.entries ++ e ∷ []) p) end (HasEntriesUpTo-more was.entries 0 place content was.before entry);
      are = subst (λ (space : Key → Rec). AreMetasOf space new) (sym (redone-append was.entries e (record_at content)))
          (taken (redone (record_at content) was.entries) was.are);
    }

-- up to a closed gate the entries are the log's
pub HasEntries-read_to : (content : Files) (place : ℕ) (records : List Rec) → (was : IsReadTo content place records) → content log_file place ≢ 1
    → HasEntries content was.entries place
HasEntries-read_to content place records was closed = HasEntriesUpTo-closed was.entries 0 place content was.before closed

-- what stands at a place stands there in each content with the same bytes
pub Tells-same : (old new : Files) (place : ℕ) (answer : EntryAnswer) → Same old new → Tells new place answer → Tells old place answer
Tells-same old new place answer same tells = subst (λ (content : Files). Tells content place answer) (same_content old new same) tells
