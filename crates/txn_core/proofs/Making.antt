-- A store that is made by the first entry of the log.
use Rattle.std.proofs.Common.{rules, ◌≡◌, ◌∙◌, ap, sym, subst, inl, inr, ⊎_elim, ℕ, zero, suc, ◌+◌, ◌<◌, List, [], ◌∷◌}
use Rattle.std.proofs.Common.{Some, length, replicate, refl, arith, lit<}
use Rattle.std.specs.List.{slice_get}
use Rattle.disk_model.specs.Contents.{Files}
use Rattle.disk_model.specs.Spans.{AtEachMoment, IsAllSettled}
use Rattle.disk_model.specs.declared.disk.Disk.{Ghosts}
use Rattle.disk_model.proofs.Spans.{at_each_moment_weaker}
use Rattle.rec_bytes.specs.declared.key.Key.{Key}
use Rattle.rec_bytes.specs.declared.record.Rec.{Rec}
use Rattle.rec_bytes.specs.declared.shape.Shape.{Shape}
use Rattle.rec_bytes.specs.Creation.{creation_pairs}
use Rattle.rec_bytes.specs.Format.{meta_records}
use Rattle.rec_bytes.specs.Pairs.{FindsMerged, Pairs}
use Rattle.rec_bytes.specs.Record.{zeros}
use Rattle.rec_bytes.specs.RecordFiles.{meta_key_of}
use Rattle.rec_bytes.specs.Space.{laid_over}
use Rattle.rec_bytes.proofs.CreationPairs.{creation_pairs-ordered}
use Rattle.redo_log.specs.Appending.{IsAppended, SameButEntry}
use Rattle.redo_log.specs.Entries.{AllHaveEntries, IsEntryOf, entry_bytes}
use Rattle.redo_log.proofs.Appends.{HasEntries-read}
use Rattle.record_file.specs.Records.{IsUnmade, record_at}
use Rattle.record_file.proofs.Records.{record_at-log}
use Rattle.record_file.proofs.Redone.{records-settled, settled-log, settled-records, space-merged}
use Rattle.txn_core.specs.Kept.{IsKept}
use Rattle.record_file.specs.MetaFile.{AreMetasOf, blank_metas, with_metas}
use Rattle.txn_core.specs.Opening.{IsOldOrNew, made_over}
use Rattle.txn_core.proofs.Kept.{kept_settled}
use Rattle.record_file.proofs.MetaRecords.{with_metas-same}

-- the first records are an entry
pub creation_form : (shape : Shape) → IsEntryOf (creation_pairs shape)
creation_form shape = record {
  some = lit< tt;
  few = search rules;
  keys = search rules;
  rising = creation_pairs-ordered shape;
}

slice_get-replicate : (n id : ℕ) (rec : Rec) → id < n → slice_get (replicate n rec) id ≡ Some rec
slice_get-replicate zero id rec below = absurd (omega arith)
slice_get-replicate (suc n) zero rec below = refl
slice_get-replicate (suc n) (suc id) rec below = slice_get-replicate n id rec (omega arith)

-- the meta records of a content with no store are zeros
held_unmade : (content : Files) → IsUnmade content → AreMetasOf (record_at content) blank_metas
held_unmade content unmade id below = slice_get-replicate meta_records id zeros below ∙ ap (λ (r : Rec). Some r) (sym (unmade.blank id below))

-- where no store was made and no byte is pending
pub kept_unmade : {D : Type 0} (g : Ghosts D) (disk : D) → (g.tells_reads → IsUnmade (g.reads disk)) → (g.tells_reads → g.tells_images → IsAllSettled g disk)
    → IsKept g disk blank_metas [] 0
kept_unmade g disk unmade settled = kept_settled g disk blank_metas [] refl (λ reads. (unmade reads).log) settled
    (λ reads. held_unmade (g.reads disk) (unmade reads))

-- what a stop leaves while the first entry is appended
pub old_or_new : {D : Type 0} (g : Ghosts D) (disk : D) (shape : Shape) → IsUnmade (g.reads disk) → IsAllSettled g disk → (left : Files)
    → IsAppended (g.may_leave disk) [] (creation_pairs shape) 0 left → IsOldOrNew (g.reads disk) shape left
old_or_new g disk shape unmade settled left is =
    let same : record_at left ≡ record_at (g.reads disk) =
    (λ i key. record_at-log key 0 (entry_bytes (length (creation_pairs shape)) + 1) is.old left is.elsewhere i)
    ∙ records-settled (g.reads disk) (g.may_leave disk) (settled-records g disk settled) is.old is.was_left in
    ⊎_elim
    (λ had. inl (record { log = had; blank = λ file is_file. ap (λ (records : Key → Rec). records (meta_key_of file)) same ∙ unmade.blank file is_file }, same))
    (λ more. inr (record {
      entries = creation_pairs shape ∷ [];
      tail = entry_bytes (length (creation_pairs shape));
      log = more;
      makes = ap (λ (records : Key → Rec). laid_over records (creation_pairs shape)) same;
    }))
    is.entries_are

pub new_crash : {D : Type 0} (g : Ghosts D) (first now : D) (shape : Shape) → IsUnmade (g.reads first) → IsAllSettled g first
    → ((entries : List Pairs) → AllHaveEntries (g.may_leave first) entries 0 → AtEachMoment g first now (IsAppended (g.may_leave first) entries
    (creation_pairs shape) 0))
    → AtEachMoment g first now (IsOldOrNew (g.reads first) shape)
new_crash g first now shape unmade settled leaves =
    at_each_moment_weaker g first now _ _
    (leaves [] (λ image left. HasEntries-read [] 0 (g.reads first) image unmade.log (settled-log g first settled image left)))
    (old_or_new g first shape unmade settled)

-- the records of the new store
pub new_space : (first now : Files) (shape : Shape) (metas : List Rec) (changed creation merged : Pairs) → metas ≡ blank_metas → changed ≡ []
    → creation ≡ creation_pairs shape → IsUnmade first → FindsMerged changed creation merged
    → SameButEntry 0 creation first now → laid_over (with_metas metas (record_at now)) merged ≡ made_over first shape
new_space first now shape metas changed creation merged blank none is unmade finds elsewhere =
    let held : AreMetasOf (record_at now) metas = subst (AreMetasOf (record_at now)) (sym blank)
    (λ id below. held_unmade first unmade id below ∙ ap (λ (r : Rec). Some r) (sym (record_at-log (meta_key_of id) 0 (entry_bytes (length creation) + 1)
    first now elsewhere))) in
    ap (λ (records : Key → Rec). laid_over records merged) (with_metas-same metas (record_at now) held)
    ∙ space-merged first now changed creation merged 0 finds elsewhere
    ∙ ap (λ (pairs : Pairs). laid_over (laid_over (record_at first) pairs) creation) none
    ∙ ap (laid_over (record_at first)) is
