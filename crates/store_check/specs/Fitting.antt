-- Records that fit their file.
use Rattle.std.specs.Prelude.{◌≡◌, ℕ, ◌≤◌, true}
use Rattle.rec_bytes.specs.Format as format
use Rattle.rec_bytes.specs.RecordFiles.{is_meta_file}
use Rattle.store_rules.specs.Ranges.{Fits}
use Rattle.store_rules.specs.Views.{Records, high, rec_at}
use Rattle.store_check.specs.declared.ranges.Fitting.{Fitting}

-- the mark is that of the records, and low
pub record IsOnFile (sentence : Fitting) (records : Records) : Type 0 where
  pub file : is_meta_file sentence.file ≡ true
  pub records_are : sentence.records ≡ high records sentence.file
  pub few : high records sentence.file ≤ format.most_ids

-- the record fits its file
abbrev pub FitsAt : Records → ℕ → ℕ → Type 0
FitsAt records file x = Fits (high records) file (rec_at records file x)

abbrev pub IsFitting : Fitting → Records → ℕ → Type 0
IsFitting sentence records x = FitsAt records sentence.file x
