-- A store of an older version, brought to the newest one by the first entry of the log.
use Rattle.std.proofs.Common.{◌≡◌, ◌∙◌, ap, sym, subst, inl, inr, ⊎_elim, ◌<◌, ◌≤◌, Bool, true, cond, nat_lt, List, [], ◌∷◌, Option, Some, None, refl, arith}
use Rattle.std.specs.Option.{option_or}
use Rattle.std.proofs.lemmas.Bool.Decides.{nat_tests}
use Rattle.disk_model.specs.Contents.{Files, Same}
use Rattle.disk_model.specs.Disk.{Settled}
use Rattle.disk_model.specs.Spans.{AtEachMoment, IsAllSettled, OnlyReads}
use Rattle.disk_model.specs.declared.disk.Disk.{Ghosts}
use Rattle.disk_model.proofs.Spans.{CountsNow, at_each_moment_now, at_each_moment_on, at_each_moment_weaker}
use Rattle.rec_bytes.specs.declared.key.Key.{Key}
use Rattle.rec_bytes.specs.declared.record.Rec.{Rec}
use Rattle.rec_bytes.specs.declared.shape.Shape.{Shape}
use Rattle.rec_bytes.specs.Creation.{own_key, raised, raising_pairs}
use Rattle.rec_bytes.specs.Format.{log_file, newest_version}
use Rattle.rec_bytes.specs.Pairs.{FindsMerged, Pairs, find_pair}
use Rattle.rec_bytes.specs.Shape.{version_of}
use Rattle.rec_bytes.specs.Space.{laid_over}
use Rattle.rec_bytes.proofs.RecordFiles.{is_record_file-not_log}
use Rattle.redo_log.specs.Appending.{IsAppended, SameButEntry}
use Rattle.redo_log.specs.Entries.{AllHaveEntries, HasEntries}
use Rattle.redo_log.proofs.Appends.{HasEntries-read}
use Rattle.record_file.specs.Records.{record_at}
use Rattle.record_file.specs.Redone.{Redoes}
use Rattle.record_file.proofs.Files.{record_file_or_log}
use Rattle.record_file.proofs.Redone.{records-settled, settled-log, settled-records}
use Rattle.txn_core.specs.Kept.{IsKept}
use Rattle.record_file.specs.MetaFile.{AreMetasOf, find_meta, with_metas}
use Rattle.txn_core.specs.Opening.{IsOldOrRaised, raising_entries}
use Rattle.txn_core.proofs.Kept.{Redoes-same, before_or_after, same_records}
use Rattle.record_file.proofs.MetaRecords.{with_metas-same}

-- the store's own record in memory says the version
pub version_held : (metas : List Rec) (records : Key → Rec) (own : Rec) → find_meta metas own_key ≡ Some own
    → version_of (with_metas metas records own_key) ≡ version_of own
version_held metas records own is = ap (λ (o : Option Rec). version_of (Rattle.std.specs.Prelude.unwrap_or o (records own_key))) is

pub raised_old : (shape : Shape) (space : Key → Rec) → version_of (space own_key) < newest_version → raised shape space ≡ laid_over space (raising_pairs shape)
raised_old shape space old =
    let test : nat_lt (version_of (space own_key)) newest_version ≡ true = grind (arith, nat_tests) in
    ap (λ (b : Bool). cond b (laid_over space (raising_pairs shape)) space) test

pub entries_old : (shape : Shape) (space : Key → Rec) → version_of (space own_key) < newest_version → raising_entries shape space ≡ raising_pairs shape ∷ []
entries_old shape space old =
    let test : nat_lt (version_of (space own_key)) newest_version ≡ true = grind (arith, nat_tests) in
    ap (λ (b : Bool). let entries : List Pairs = cond b (raising_pairs shape ∷ []) [] in entries) test

-- records merged into none
pub FindsMerged-first : (pairs : Pairs) → FindsMerged [] pairs pairs
FindsMerged-first pairs q = same (find_pair pairs q)
  where
    same : (o : Option Rec) → o ≡ option_or o None
    same None = refl
    same (Some x) = refl

-- while the entry is appended
pub raise_crash : {D : Type 0} (g : Ghosts D) (first now : D) (metas : List Rec) (own : Pairs) (shape : Shape) → own ≡ raising_pairs shape
    → version_of (with_metas metas (record_at (g.reads first)) own_key) < newest_version → IsKept g first metas [] 0 → g.tells_reads → g.tells_images
    → ((entries : List Pairs) → AllHaveEntries (g.may_leave first) entries 0 → AtEachMoment g first now (IsAppended (g.may_leave first) entries own 0))
    → AtEachMoment g first now (IsOldOrRaised shape (with_metas metas (record_at (g.reads first))))
raise_crash g first now metas own shape is old kept reads images crash =
    let space = with_metas metas (record_at (g.reads first)) in
    at_each_moment_weaker g first now _ _ (before_or_after g first now metas [] own 0 kept reads images crash)
    (λ left. ⊎_elim (λ was. inl was) (λ more. inr (Redoes-same left (laid_over space own) (raised shape space) (ap (laid_over space) is ∙ sym
    (raised_old shape space old)) more)))

-- an entry more leaves a settled disk settled
pub settled_appended : {D : Type 0} (g : Ghosts D) (first now : D) (own : Pairs) → CountsNow g → g.tells_images → HasEntries (g.reads first) [] 0
    → IsAllSettled g first
    → ((entries : List Pairs) → AllHaveEntries (g.may_leave first) entries 0 → AtEachMoment g first now (IsAppended (g.may_leave first) entries own 0))
    → SameButEntry 0 own (g.reads first) (g.reads now) → Settled log_file (g.reads now) (g.may_leave now) → IsAllSettled g now
settled_appended g first now own counts images log settled crash elsewhere logged file below image left place =
    let is = at_each_moment_now g first now _ counts images (crash [] (λ old was. HasEntries-read [] 0 (g.reads first) old log
    (settled-log g first settled old was))) image left in
    ⊎_elim
    (λ record_file.
    let other = is_record_file-not_log file record_file in
    is.elsewhere file place (λ within. other within.in_file) ∙ settled file below is.old is.was_left place
    ∙ sym (elsewhere file place (λ within. other within.in_file)))
    (λ same. ap (λ f. image f place) same ∙ logged image left place ∙ ap (λ f. g.reads now f place) (sym same))
    (record_file_or_log file below)

-- the records of a content as they were read
pub space_read : (first mid : Files) (metas : List Rec) → Same first mid → AreMetasOf (record_at first) metas
    → with_metas metas (record_at mid) ≡ record_at first
space_read first mid metas same held =
    let records = same_records first mid same in
    with_metas-same metas (record_at mid) (subst (λ (r : Key → Rec). AreMetasOf r metas) (sym records) held) ∙ records

-- each image of a settled disk whose log has no entry redoes to the records of the files
pub images_old : {D : Type 0} (g : Ghosts D) (disk : D) → HasEntries (g.reads disk) [] 0 → IsAllSettled g disk → (left : Files) → g.may_leave disk left
    → Redoes left (record_at (g.reads disk))
images_old g disk log settled left was = record {
  entries = [];
  tail = 0;
  log = HasEntries-read [] 0 (g.reads disk) left log (settled-log g disk settled left was);
  makes = records-settled (g.reads disk) (g.may_leave disk) (settled-records g disk settled) left was;
}

-- the same under other names
pub IsOldOrRaised-same : (shape other : Shape) (a b : Key → Rec) (left : Files) → shape ≡ other → a ≡ b → IsOldOrRaised shape a left
    → IsOldOrRaised other b left
IsOldOrRaised-same shape other a b left shapes same is = subst (λ (s : Shape). IsOldOrRaised s b left) shapes
    (subst (λ (x : Key → Rec). IsOldOrRaised shape x left) same is)

-- what a stop leaves while a store is read
pub read_crash : {D : Type 0} (g : Ghosts D) (first mid : D) (shape : Shape) → HasEntries (g.reads first) [] 0 → IsAllSettled g first → OnlyReads g first mid
    → g.tells_images → AtEachMoment g first mid (IsOldOrRaised shape (record_at (g.reads first)))
read_crash g first mid shape log settled reads images = at_each_moment_weaker g first mid _ _ (reads.time images)
    (λ left was. inl (images_old g first log settled left was))

-- and while it is raised
pub raised_crash : {D : Type 0} (g : Ghosts D) (first mid now : D) (metas : List Rec) (shape found : Shape) → HasEntries (g.reads first) [] 0
    → IsAllSettled g first → OnlyReads g first mid → g.tells_images → AreMetasOf (record_at (g.reads first)) metas → found ≡ shape
    → AtEachMoment g mid now (IsOldOrRaised found (with_metas metas (record_at (g.reads mid))))
    → AtEachMoment g first now (IsOldOrRaised shape (record_at (g.reads first)))
raised_crash g first mid now metas shape found log settled reads images held is crash =
    at_each_moment_on g first mid now _ _ (read_crash g first mid shape log settled reads images) crash
    (λ left. IsOldOrRaised-same found shape _ (record_at (g.reads first)) left is (space_read (g.reads first) (g.reads mid) metas reads.keeps held))

-- a store of the newest version is only read
pub newest_reads : {D : Type 0} (g : Ghosts D) (first mid now : D) (metas : List Rec) → OnlyReads g first mid → AreMetasOf (record_at (g.reads first)) metas
    → newest_version ≤ version_of (record_at (g.reads first) own_key)
    → ((records : Key → Rec) → newest_version ≤ version_of (with_metas metas records own_key) → now ≡ mid) → OnlyReads g first now
newest_reads g first mid now metas reads held newest stays =
    let same = space_read (g.reads first) (g.reads mid) metas reads.keeps held in
    subst (λ (d : _). OnlyReads g first d)
    (sym (stays (record_at (g.reads mid)) (subst (λ (r : Key → Rec). newest_version ≤ version_of (r own_key)) (sym same) newest))) reads
