-- The files of the disk are those of records and the log.
use Rattle.std.proofs.Common.{◌≡◌, ◌⊎◌, ⊎_elim, inl, inr, subst, ℕ, zero, suc, ◌<◌, Bool, true, false, ◌&&◌, ◌||◌, nat_eq, nat_lt, refl, arith}
use Rattle.std.proofs.lemmas.Bool.{cases_lt}
use Rattle.std.proofs.lemmas.Bool.Decides.{nat_tests}
use Rattle.disk_model.specs.Contents.{IsFile, number_of_files}
use Rattle.rec_bytes.specs.Format.{log_file}
use Rattle.rec_bytes.specs.RecordFiles.{is_record_file, record_files}
use Rattle.rec_bytes.proofs.RecordFiles.{passes}

-- each number below n passes the test
abbrev all_below : (ℕ → Bool) → ℕ → Bool
all_below test zero = true
all_below test (suc n) = test n && all_below test n

each_below : (test : ℕ → Bool) (n file : ℕ) → all_below test n ≡ true → file < n → test file ≡ true
each_below test zero file all below = absurd (omega (arith, below))
each_below test (suc n) file all below = pick (test n) refl all (each_below test n file)
  where
    pick : (here : Bool) → test n ≡ here → (here && all_below test n) ≡ true → (all_below test n ≡ true → file < n → test file ≡ true) → test file ≡ true
    pick true is rest later = ⊎_elim (λ earlier. later rest earlier) (λ last. let same : n ≡ file = omega (arith, below, last) in subst (λ f. test f ≡ true)
        same is) (cases_lt file n)
    pick false is rest later = absurd cc

pub IsFile-record : (file : ℕ) → is_record_file file ≡ true → IsFile file
IsFile-record file is = let low = passes (λ f. nat_lt f number_of_files) record_files file refl is in grind (arith, nat_tests)

pub IsFile-log : IsFile log_file
IsFile-log = omega arith

-- and there is no other
pub record_file_or_log : (file : ℕ) → IsFile file → (is_record_file file ≡ true) ⊎ (file ≡ log_file)
record_file_or_log file below = pick (is_record_file file) (each_below (λ f. is_record_file f || nat_eq f log_file) number_of_files file refl below)
  where
    pick : (here : Bool) → (here || nat_eq file log_file) ≡ true → (here ≡ true) ⊎ (file ≡ log_file)
    pick true is = inl refl
    pick false is = inr (grind (arith, nat_tests))
