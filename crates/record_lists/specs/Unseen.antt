-- Records in use that are not seen.
use Rattle.std.specs.Prelude.{◌≡◌, ℕ, ◌≤◌, true, length}
use Rattle.rec_bytes.specs.Format as format
use Rattle.rec_bytes.specs.RecordFiles.{is_record_file}
use Rattle.store_rules.specs.Views.{Records, high, is_live}
use Rattle.record_lists.specs.declared.unseen.Held.{Held}
use Rattle.record_lists.specs.Seen.{is_seen}

-- there is a bit for each record
pub record IsOnSeen (held : Held) (records : Records) : Type 0 where
  pub file : is_record_file held.file ≡ true
  pub records_are : length held.seen.now ≡ high records held.file
  pub few : high records held.file ≤ format.most_ids

-- a record in use is seen
abbrev pub IsSeen : Held → Records → ℕ → Type 0
IsSeen held records x =
    is_live records held.file x ≡ true → is_seen held.seen.now x ≡ true
