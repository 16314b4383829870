-- The buckets of definitions, as a check reads them.
use Rattle.std.specs.Prelude.{ℕ, ◌%◌, Bool, ◌&&◌, nat_eq, List}
use Rattle.rec_bytes.specs.declared.record.Rec.{Rec}
use Rattle.rec_bytes.specs.Format as format
use Rattle.rec_bytes.specs.Record.{field}
use Rattle.record_lists.specs.Lines.{LineKind}
use Rattle.store_rules.specs.Hashes.{bucket_of}
use Rattle.store_rules.specs.IndexBreaking.{IsBucketList}
use Rattle.store_rules.specs.Views.{Records}
use Rattle.index_check.specs.Definitions.{definition_of}

-- the record is an entry with a hash of the bucket
abbrev pub is_entry_of : ℕ → Rec → Bool
is_entry_of b r =
    nat_eq (field 1 r format.kind) format.indexed
    && nat_eq (bucket_of (field 8 r format.indexed_hash)) b

-- the entries of a bucket from one on
abbrev pub bucket_line : ℕ → LineKind
bucket_line b = record {
  file = format.index_file;
  next = λ r. field 4 r format.indexed_next;
  fits = λ before x r. is_entry_of b r && nat_eq (field 4 r format.indexed_previous) before;
}

-- the items of each number, of 180 for each definition, are the entries of its bucket
abbrev pub AreItsEntries : Records → List ℕ → ℕ → List ℕ → Type 0
AreItsEntries records ids k entries =
    IsBucketList records (definition_of 180 ids k) (k % 180) entries
