-- The marks of the files under changes of the sets.
use Rattle.std.proofs.Common.{◌≡◌, ◌∙◌, ap, sym, ℕ, zero, suc, ◌+◌, ◌<◌, Bool, true, false, cond, nat_lt, List, [], ◌∷◌, length}
use Rattle.std.proofs.Common.{Option, Some, None, unwrap_or, slice_set, refl, arith}
use Rattle.std.proofs.lemmas.Bool.Decides.{nat_tests}
use Rattle.std.specs.List.{slice_get}
use Rattle.std.specs.Option.{option_or}
use Rattle.rec_bytes.specs.Format.{meta_records}
use Rattle.rec_bytes.specs.Meta.{meta_of}
use Rattle.rec_bytes.specs.Pairs.{FindsMerged, Pairs, find_pair, held_at}
use Rattle.rec_bytes.specs.RecordFiles.{meta_key_of}
use Rattle.rec_bytes.specs.Space.{laid_over}
use Rattle.rec_bytes.specs.declared.key.Key.{Key}
use Rattle.rec_bytes.specs.declared.meta.Meta.{Meta}
use Rattle.rec_bytes.specs.declared.record.Rec.{Rec}
use Rattle.record_file.specs.MetaFile.{with_metas}
use Rattle.txn_core.specs.Marks.{AreMarks, AreMarksOf}

-- the meta record in memory is the one at its key
with_metas-at : (metas : List Rec) (records : Key → Rec) (file : ℕ) (rec : Rec) → file < meta_records → slice_get metas file ≡ Some rec
    → with_metas metas records (meta_key_of file) ≡ rec
with_metas-at metas records file rec below is = pick (nat_lt file meta_records) refl
  where
    pick : (b : Bool) → nat_lt file meta_records ≡ b → unwrap_or (cond b (slice_get metas file) None) (records (meta_key_of file)) ≡ rec
    pick true e = ap (λ (o : Option Rec). unwrap_or o (records (meta_key_of file))) is
    pick false e = absurd (grind (arith, nat_tests))

-- and with the two sets over it
pub over-at : (metas : List Rec) (changed own : Pairs) (records : Key → Rec) (file : ℕ) (rec : Rec) → file < meta_records → slice_get metas file ≡ Some rec
    → laid_over (laid_over (with_metas metas records) changed) own (meta_key_of file)
    ≡ held_at own (meta_key_of file) (held_at changed (meta_key_of file) rec)
over-at metas changed own records file rec below is =
    ap (λ (r : Rec). held_at own (meta_key_of file) (held_at changed (meta_key_of file) r)) (with_metas-at metas records file rec below is)

-- one mark more is set
pub marks-set : (xs : List Meta) (i k : ℕ) (x : Meta) (wanted : ℕ → Meta) → i < length xs → x ≡ wanted i → ((j : ℕ) → j < i → slice_get xs j ≡ Some (wanted j))
    → k < i + 1 → slice_get (slice_set xs i x) k ≡ Some (wanted k)
marks-set [] i k x wanted within is before below = absurd (omega arith)
marks-set (y ∷ ys) zero zero x wanted within is before below = ap (λ (m : Meta). Some m) is
marks-set (y ∷ ys) zero (suc k) x wanted within is before below = absurd (omega arith)
marks-set (y ∷ ys) (suc i) zero x wanted within is before below = before 0 (omega arith)
marks-set (y ∷ ys) (suc i) (suc k) x wanted within is before below =
    marks-set ys i k x (λ j. wanted (suc j)) (omega arith) is (λ j less. before (suc j) (omega (arith, less))) (omega arith)

-- the transaction's records are among the changed ones too
pub marks-appended : (metas : List Rec) (changed own now : Pairs) (marks : List Meta) → FindsMerged changed own now
    → AreMarks metas changed own marks → AreMarks metas now own marks
marks-appended metas changed own now marks finds are records file below =
    let key = meta_key_of file in
    are records file below
    ∙ ap (λ (r : Rec). Some (meta_of r))
    (sym (ap (λ (o : Option Rec). held_at own key (unwrap_or o (with_metas metas records key))) (finds key)
    ∙ same (find_pair own key) (find_pair changed key) (with_metas metas records key)))
  where
    same : (a b : Option Rec) (x : Rec) → unwrap_or a (unwrap_or (option_or a b) x) ≡ unwrap_or a (unwrap_or b x)
    same (Some r) b x = refl
    same None b x = refl

-- the transaction has the draft's too
pub marks-kept : (metas : List Rec) (changed own draft now : Pairs) (marks then : List Meta) → FindsMerged own draft now
    → AreMarks metas changed own marks
    → ((records : Key → Rec) → AreMarksOf records marks → AreMarksOf (laid_over records draft) then)
    → AreMarks metas changed now then
marks-kept metas changed own draft now marks then finds are refreshed records file below =
    let key = meta_key_of file in
    let under = laid_over (with_metas metas records) changed in
    refreshed (laid_over under own) (are records) file below
    ∙ ap (λ (r : Rec). Some (meta_of r))
    (sym (ap (λ (o : Option Rec). unwrap_or o (under key)) (finds key) ∙ same (find_pair draft key) (find_pair own key) (under key)))
  where
    same : (a b : Option Rec) (x : Rec) → unwrap_or (option_or a b) x ≡ unwrap_or a (unwrap_or b x)
    same (Some r) b x = refl
    same None b x = refl
