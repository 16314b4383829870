-- The records of the meta file, as they stand in it.
use Rattle.std.proofs.Common.{◌≡◌, ◌∙◌, ap, sym, subst, ℕ, zero, suc, ◌+◌, ◌*◌, ◌<◌, Bool, true, false, cond, ◌&&◌}
use Rattle.std.proofs.Common.{nat_eq, nat_lt, List, [], ◌∷◌, Option, Some, None, unwrap_or, length, take, drop}
use Rattle.std.proofs.Common.{slice_set, length-take, length-drop, refl, arith}
use Rattle.std.proofs.lemmas.Bool.Decides.{nat_tests}
use Rattle.std.specs.List.{slice_get}
use Rattle.disk_model.specs.Contents.{Files, Holds}
use Rattle.rec_bytes.specs.declared.key.Key.{Key}
use Rattle.rec_bytes.specs.declared.record.Rec.{Rec}
use Rattle.rec_bytes.specs.Format.{meta_file, meta_records}
use Rattle.rec_bytes.specs.RecordFiles.{meta_key_of}
use Rattle.record_file.specs.Records.{record_at}
use Rattle.record_file.proofs.Records.{Holds-part, record_at-read}
use Rattle.record_file.specs.MetaFile.{AreMetasOf, meta_bytes, with_metas}

-- the meta records of memory change nothing where they are those of the records
pub with_metas-same : (metas : List Rec) (records : Key → Rec) → AreMetasOf records metas → with_metas metas records ≡ records
with_metas-same metas records are i key = each key i
  where
    key_is : (k : Key) → k.file ≡ meta_file → k ≡ meta_key_of k.id
    key_is k file = ap (λ (f : ℕ). let q : Key = record { file = f; id = k.id } in q) file

    pick : (a b : Bool) (k : Key) → nat_eq k.file meta_file ≡ a → nat_lt k.id meta_records ≡ b
        → unwrap_or (cond (a && b) (slice_get metas k.id) None) (records k) ≡ records k
    pick false b k file id = refl
    pick true false k file id = refl
    pick true true k file id =
        let is : k ≡ meta_key_of k.id = key_is k (grind (arith, nat_tests)) in
        let below : k.id < meta_records = grind (arith, nat_tests) in
        ap (λ (o : Option Rec). unwrap_or o (records k)) (are k.id below) ∙ ap records (sym is)

    each : (k : Key) → with_metas metas records k ≡ records k
    each k = pick (nat_eq k.file meta_file) (nat_lt k.id meta_records) k refl refl

-- the 64 bytes of a meta record
pub part_is : (id : ℕ) (bytes : List ℕ) (content : Files) → id < meta_records → length bytes ≡ meta_bytes → Holds meta_file 0 bytes content
    → let r : Rec = record { bytes = take 64 (drop (id * 64) bytes) } in r ≡ record_at content (meta_key_of id)
part_is id bytes content below whole holds =
    let start : id * 64 ≡ 64 * id = omega arith in
    record_at-read (meta_key_of id) (take 64 (drop (id * 64) bytes)) content refl (simp (length-take, length-drop) (omega (arith, whole, below)))
    (subst (λ n. Holds meta_file n (take 64 (drop (id * 64) bytes)) content) (omega arith) (Holds-part meta_file 0 (id * 64) 64 bytes content
    (omega (arith, whole, below)) holds))

-- one record more is set
pub slice_get-set : (xs : List Rec) (i k : ℕ) (x : Rec) (wanted : ℕ → Rec) → i < length xs → x ≡ wanted i → ((j : ℕ) → j < i → slice_get xs j ≡ Some (wanted j))
    → k < i + 1 → slice_get (slice_set xs i x) k ≡ Some (wanted k)
slice_get-set [] i k x wanted within is before below = absurd (omega arith)
slice_get-set (y ∷ ys) zero zero x wanted within is before below = ap (λ (r : Rec). Some r) is
slice_get-set (y ∷ ys) zero (suc k) x wanted within is before below = absurd (omega arith)
slice_get-set (y ∷ ys) (suc i) zero x wanted within is before below = before 0 (omega arith)
slice_get-set (y ∷ ys) (suc i) (suc k) x wanted within is before below =
    slice_get-set ys i k x (λ j. wanted (suc j)) (omega arith) is (λ j less. before (suc j) (omega (arith, less))) (omega arith)
