-- What a live store has on its disk.
use Rattle.std.proofs.Common.{◌≡◌, ◌∙◌, ap, sym, subst, inl, inr, ⊎_elim, ◌⊎◌, ℕ, ◌+◌, List, [], ◌∷◌, ◌++◌, Some, length, refl}
use Rattle.disk_model.specs.Contents.{Files, Same}
use Rattle.disk_model.specs.Disk.{Settled}
use Rattle.disk_model.specs.Spans.{AtEachMoment, IsAllSettled}
use Rattle.disk_model.specs.declared.disk.Disk.{Ghosts}
use Rattle.disk_model.proofs.Spans.{CountsNow, OnlyNow, at_each_moment_none, at_each_moment_now, at_each_moment_weaker}
use Rattle.rec_bytes.specs.declared.key.Key.{Key}
use Rattle.rec_bytes.specs.declared.record.Rec.{Rec}
use Rattle.rec_bytes.specs.Format.{log_file}
use Rattle.rec_bytes.specs.Pairs.{FindsMerged, Pairs}
use Rattle.rec_bytes.specs.RecordFiles.{meta_key_of}
use Rattle.rec_bytes.specs.Space.{laid_over}
use Rattle.redo_log.specs.Appending.{HasAtMostOneMore, HasOneMore, IsAppended, SameButEntry}
use Rattle.redo_log.specs.Entries.{AllHaveEntries, HasEntries, entry_bytes}
use Rattle.record_file.specs.Records.{record_at}
use Rattle.record_file.specs.Redone.{AreAlike, IsLogged, Redoes}
use Rattle.record_file.proofs.Redone.{AllHaveEntries-redo, AllRedoBy, AllRedoBy-alike, AreAlike-more, AreAlike-settled}
use Rattle.record_file.proofs.Redone.{IsLogged-more, IsLogged-none, Redoes-appended, Redoes-by, RedoesBy}
use Rattle.record_file.proofs.Redone.{RedoesBy-logged, space-merged}
use Rattle.record_file.proofs.Records.{record_at-kept, record_at-log}
use Rattle.page_cache.specs.Pages.{Agrees, Pages}
use Rattle.page_cache.proofs.Agreement.{agrees_same}
use Rattle.txn_core.specs.Kept.{IsKept, IsOnDisk}
use Rattle.record_file.specs.MetaFile.{AreMetasOf, with_metas}
use Rattle.record_file.proofs.MetaRecords.{with_metas-same}

-- the records that are committed
abbrev pub space_of : {D : Type 0} (g : Ghosts D) → D → List Rec → Pairs → Key → Rec
space_of g disk metas changed = laid_over (with_metas metas (record_at (g.reads disk))) changed

-- they are those of the files with the changed ones over them
pub plain_space : {D : Type 0} (g : Ghosts D) (disk : D) (metas : List Rec) (changed : Pairs) (tail : ℕ) → IsKept g disk metas changed tail → g.tells_reads
    → space_of g disk metas changed ≡ laid_over (record_at (g.reads disk)) changed
plain_space g disk metas changed tail kept reads = ap (λ (records : Key → Rec). laid_over records changed)
    (with_metas-same metas (record_at (g.reads disk)) (kept.held reads))

by_plain : (entries : List Pairs) (tail : ℕ) (a b : Key → Rec) (content : Files) → a ≡ b → RedoesBy entries tail b content → RedoesBy entries tail a content
by_plain entries tail a b content same by = record { log = by.log; makes = by.makes ∙ sym same }

-- what is read redoes to them
pub read_redoes_by : {D : Type 0} (g : Ghosts D) (disk : D) (metas : List Rec) (changed : Pairs) (tail : ℕ) (kept : IsKept g disk metas changed tail)
    (reads : g.tells_reads)
    → RedoesBy (kept.logged reads).entries tail (space_of g disk metas changed) (g.reads disk)
read_redoes_by g disk metas changed tail kept reads =
    by_plain (kept.logged reads).entries tail _ _ (g.reads disk) (plain_space g disk metas changed tail kept reads)
    (RedoesBy-logged (g.reads disk) changed tail (kept.logged reads))

-- and so does each image
pub images_redo_by : {D : Type 0} (g : Ghosts D) (disk : D) (metas : List Rec) (changed : Pairs) (tail : ℕ) (kept : IsKept g disk metas changed tail)
    (reads : g.tells_reads) → g.tells_images
    → AllRedoBy (g.may_leave disk) (kept.logged reads).entries tail (space_of g disk metas changed)
images_redo_by g disk metas changed tail kept reads images image left =
    by_plain (kept.logged reads).entries tail _ _ image (plain_space g disk metas changed tail kept reads)
    (AllRedoBy-alike (g.reads disk) changed tail (g.may_leave disk) (kept.logged reads) (kept.alike reads images) image left)

pub read_redoes : {D : Type 0} (g : Ghosts D) (disk : D) (metas : List Rec) (changed : Pairs) (tail : ℕ) → IsKept g disk metas changed tail → g.tells_reads
    → Redoes (g.reads disk) (space_of g disk metas changed)
read_redoes g disk metas changed tail kept reads = Redoes-by _ tail _ (g.reads disk) (read_redoes_by g disk metas changed tail kept reads)

pub images_redo : {D : Type 0} (g : Ghosts D) (disk : D) (metas : List Rec) (changed : Pairs) (tail : ℕ) → IsKept g disk metas changed tail → g.tells_reads
    → g.tells_images
    → (image : Files) → g.may_leave disk image → Redoes image (space_of g disk metas changed)
images_redo g disk metas changed tail kept reads images image left = Redoes-by _ tail _ image
    (images_redo_by g disk metas changed tail kept reads images image left)

-- at this moment
pub kept_at_once : {D : Type 0} (g : Ghosts D) (disk : D) (metas : List Rec) (changed : Pairs) (tail : ℕ) → OnlyNow g → IsKept g disk metas changed tail
    → g.tells_reads → g.tells_images
    → AtEachMoment g disk disk (λ left. Redoes left (space_of g disk metas changed))
kept_at_once g disk metas changed tail only kept reads images = at_each_moment_none g disk _ only images
    (images_redo g disk metas changed tail kept reads images)

-- where no entry stands and no byte is pending
pub kept_settled : {D : Type 0} (g : Ghosts D) (disk : D) (metas : List Rec) (changed : Pairs) → changed ≡ [] → (g.tells_reads → HasEntries (g.reads disk) [] 0)
    → (g.tells_reads → g.tells_images → IsAllSettled g disk)
    → (g.tells_reads → AreMetasOf (record_at (g.reads disk)) metas) → IsKept g disk metas changed 0
kept_settled g disk metas changed none log settled held = record {
  logged = λ reads. IsLogged-none (g.reads disk) changed none (log reads);
  alike = λ reads images. AreAlike-settled g disk changed (settled reads images);
  held = held;
}

-- the records of a content that reads the same
pub same_records : (old new : Files) → Same old new → record_at new ≡ record_at old
same_records old new same = λ i key. record_at-kept key old new same i

-- after an append stopped, or failed
pub appended_crash : {D : Type 0} (g : Ghosts D) (first now : D) (metas : List Rec) (changed own : Pairs) (tail : ℕ) (kept : IsKept g first metas changed tail)
    (reads : g.tells_reads) → g.tells_images
    → ((entries : List Pairs) → AllHaveEntries (g.may_leave first) entries tail → AtEachMoment g first now (IsAppended (g.may_leave first) entries own tail))
    → AtEachMoment g first now (IsAppended (g.may_leave first) (kept.logged reads).entries own tail)
appended_crash g first now metas changed own tail kept reads images leaves =
    leaves (kept.logged reads).entries (AllHaveEntries-redo (g.may_leave first) _ tail (space_of g first metas changed) (images_redo_by g first metas changed
    tail kept reads images))

-- it redoes to what was committed, or to that with the new records
pub before_or_after : {D : Type 0} (g : Ghosts D) (first now : D) (metas : List Rec) (changed own : Pairs) (tail : ℕ) → IsKept g first metas changed tail
    → g.tells_reads → g.tells_images
    → ((entries : List Pairs) → AllHaveEntries (g.may_leave first) entries tail → AtEachMoment g first now (IsAppended (g.may_leave first) entries own tail))
    → AtEachMoment g first now (λ left. Redoes left (space_of g first metas changed) ⊎ Redoes left (laid_over (space_of g first metas changed) own))
before_or_after g first now metas changed own tail kept reads images leaves =
    at_each_moment_weaker g first now _ _ (appended_crash g first now metas changed own tail kept reads images leaves)
    (Redoes-appended (g.may_leave first) (kept.logged reads).entries own tail (space_of g first metas changed) (images_redo_by g first metas changed tail kept
    reads images))

-- so does what is read
pub read_before_or_after : {D : Type 0} (g : Ghosts D) (first now : D) (metas : List Rec) (changed own : Pairs) (tail : ℕ) → IsKept g first metas changed tail
    → g.tells_reads
    → ((entries : List Pairs) → HasEntries (g.reads first) entries tail → HasAtMostOneMore (g.reads now) entries own tail)
    → SameButEntry tail own (g.reads first) (g.reads now)
    → Redoes (g.reads now) (space_of g first metas changed) ⊎ Redoes (g.reads now) (laid_over (space_of g first metas changed) own)
read_before_or_after g first now metas changed own tail kept reads read elsewhere =
    let by = read_redoes_by g first metas changed tail kept reads in
    let entries = (kept.logged reads).entries in
    let images : Files → Type 0 = λ c. c ≡ g.reads first in
    Redoes-appended images entries own tail (space_of g first metas changed)
    (λ image is. subst (λ c. RedoesBy entries tail (space_of g first metas changed) c) (sym is) by) (g.reads now)
    (record { old = g.reads first; was_left = refl; elsewhere = elsewhere; entries_are = read entries by.log })

-- the same under another name of the records
pub Redoes-same : (content : Files) (a b : Key → Rec) → a ≡ b → Redoes content a → Redoes content b
Redoes-same content a b same redoes = record { entries = redoes.entries; tail = redoes.tail; log = redoes.log; makes = redoes.makes ∙ same }

pub on_disk : {D : Type 0} (g : Ghosts D) (disk : D) (metas : List Rec) (changed : Pairs) (tail : ℕ) (space : Key → Rec) → IsKept g disk metas changed tail
    → (g.tells_reads → space_of g disk metas changed ≡ space)
    → IsOnDisk g disk (λ left. Redoes left space)
on_disk g disk metas changed tail space kept same = record {
  read = λ reads. Redoes-same (g.reads disk) _ space (same reads) (read_redoes g disk metas changed tail kept reads);
  images = λ reads images image left. Redoes-same image _ space (same reads) (images_redo g disk metas changed tail kept reads images image left);
}

-- a fact of each moment is one of this
pub on_disk_at : {D : Type 0} (g : Ghosts D) (first disk : D) (P : Files → Type 0) → CountsNow g → (g.tells_reads → P (g.reads disk))
    → (g.tells_reads → g.tells_images → AtEachMoment g first disk P) → IsOnDisk g disk P
on_disk_at g first disk P counts read crash = record {
  read = read;
  images = λ reads images image left. at_each_moment_now g first disk P counts images (crash reads images) image left;
}

-- kept pages have no byte of the log
pub cached_appended : {D : Type 0} (g : Ghosts D) (first now : D) (cache : Pages) (own : Pairs) (tail : ℕ) → SameButEntry tail own (g.reads first) (g.reads now)
    → Agrees (g.reads first) cache → Agrees (g.reads now) cache
cached_appended g first now cache own tail elsewhere = agrees_same (g.reads first) (g.reads now) cache
    (λ key. record_at-log key tail (entry_bytes (length own) + 1) (g.reads first) (g.reads now) elsewhere)

-- an entry more
pub kept_appended : {D : Type 0} (g : Ghosts D) (first now : D) (metas : List Rec) (changed own merged : Pairs) (tail next : ℕ) → CountsNow g
    → IsKept g first metas changed tail → FindsMerged changed own merged
    → next ≡ tail + entry_bytes (length own)
    → (g.tells_reads → (entries : List Pairs) → HasEntries (g.reads first) entries tail → HasOneMore (g.reads now) entries own tail)
    → (g.tells_reads → g.tells_images → Settled log_file (g.reads now) (g.may_leave now))
    → (g.tells_reads → SameButEntry tail own (g.reads first) (g.reads now))
    → (g.tells_reads → g.tells_images → (entries : List Pairs) → AllHaveEntries (g.may_leave first) entries tail → AtEachMoment g first now
    (IsAppended (g.may_leave first) entries own tail))
    → IsKept g now metas merged next
kept_appended g first now metas changed own merged tail next counts kept finds next_is appended settled elsewhere crash = record {
  logged = λ reads.
      let is = kept.logged reads in
      IsLogged-more (g.reads first) (g.reads now) changed own merged tail next is
      (subst (λ n. HasEntries (g.reads now) (is.entries ++ own ∷ []) n) (sym next_is) (appended reads is.entries is.log)) finds;
  alike = λ reads images.
      AreAlike-more (g.reads first) (g.reads now) changed own merged tail (g.may_leave first) (g.may_leave now) (kept.alike reads images) finds
      (settled reads images) (elsewhere reads)
      (λ image left.
      let is = at_each_moment_now g first now _ counts images (appended_crash g first now metas changed own tail kept reads images (crash reads images)) image
      left in
      (is.old, is.was_left, is.elsewhere));
  held = λ reads id below.
      kept.held reads id below ∙ ap (λ (r : Rec). Some r) (sym (record_at-log (meta_key_of id) tail (entry_bytes (length own) + 1) (g.reads first) (g.reads now)
      (elsewhere reads)));
}

-- and what is committed then
pub appended_space : {D : Type 0} (g : Ghosts D) (first now : D) (metas : List Rec) (changed own merged : Pairs) (tail next : ℕ)
    → IsKept g first metas changed tail → IsKept g now metas merged next → FindsMerged changed own merged
    → g.tells_reads → SameButEntry tail own (g.reads first) (g.reads now) → space_of g now metas merged ≡ laid_over (space_of g first metas changed) own
appended_space g first now metas changed own merged tail next kept later finds reads elsewhere =
    plain_space g now metas merged next later reads
    ∙ space-merged (g.reads first) (g.reads now) changed own merged tail finds elsewhere
    ∙ ap (λ (records : Key → Rec). laid_over records own) (sym (plain_space g first metas changed tail kept reads))

-- no other moment than this
pub kept_now : {D : Type 0} (g : Ghosts D) (disk : D) (metas : List Rec) (changed : Pairs) (tail : ℕ) (P : Files → Type 0) → OnlyNow g
    → IsKept g disk metas changed tail → g.tells_reads → g.tells_images
    → ((left : Files) → Redoes left (space_of g disk metas changed) → P left) → AtEachMoment g disk disk P
kept_now g disk metas changed tail P only kept reads images has = at_each_moment_none g disk P only images
    (λ image left. has image (images_redo g disk metas changed tail kept reads images image left))

-- while a checkpoint is made
pub checkpoint_crash : {D : Type 0} (g : Ghosts D) (first now : D) (metas : List Rec) (changed : Pairs) (tail : ℕ) → IsKept g first metas changed tail
    → g.tells_reads → g.tells_images
    → ((tail : ℕ) → IsLogged (g.reads first) changed tail → AreAlike (g.reads first) changed (g.may_leave first) → AtEachMoment g first now
    (λ left. Redoes left (laid_over (record_at (g.reads first)) changed)))
    → AtEachMoment g first now (λ left. Redoes left (space_of g first metas changed))
checkpoint_crash g first now metas changed tail kept reads images crash =
    at_each_moment_weaker g first now _ _ (crash tail (kept.logged reads) (kept.alike reads images))
    (λ left. Redoes-same left _ _ (sym (plain_space g first metas changed tail kept reads)))

pub checkpoint_read : {D : Type 0} (g : Ghosts D) (first now : D) (metas : List Rec) (changed : Pairs) (tail : ℕ) → IsKept g first metas changed tail
    → g.tells_reads
    → ((tail : ℕ) → IsLogged (g.reads first) changed tail → Redoes (g.reads now) (laid_over (record_at (g.reads first)) changed))
    → Redoes (g.reads now) (space_of g first metas changed)
checkpoint_read g first now metas changed tail kept reads read = Redoes-same (g.reads now) _ _ (sym (plain_space g first metas changed tail kept reads))
    (read tail (kept.logged reads))

-- the same under other names of what was committed
pub Either-same : (content : Files) (a b : Key → Rec) (own new_own : Pairs) → a ≡ b → new_own ≡ own → Redoes content a ⊎ Redoes content (laid_over a new_own)
    → Redoes content b ⊎ Redoes content (laid_over b own)
Either-same content a b own new_own same same_own left =
    ⊎_elim
    (λ before. inl (Redoes-same content a b same before))
    (λ after. inr (Redoes-same content (laid_over a new_own) (laid_over b own) (ap (λ (records : Key → Rec). laid_over records new_own) same ∙ ap (laid_over b)
    same_own) after))
    left
