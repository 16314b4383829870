-- The records of heads of definitions, as a check reads them.
use Rattle.std.specs.Prelude.{◌≡◌, ℕ, ◌%◌, List, [], ◌∷◌}
use Rattle.rec_bytes.specs.Format as format
use Rattle.store_rules.specs.Indexes.{heads_of, index_rec}
use Rattle.store_rules.specs.Views.{Records, kind_at}
use Rattle.index_check.specs.Definitions.{definition_of}
use Rattle.index_check.specs.declared.head_records.HeadRecord.{HeadRecord}

-- it was read, and is a record of heads
pub record IsHeadRead (records : Records) (d c : ℕ) (head : HeadRecord) : Type 0 where
  pub id_is : head.id ≡ heads_of records d c
  pub kind : kind_at records format.index_file (heads_of records d c) ≡ format.heads
  pub rec_is : head.rec ≡ index_rec records (heads_of records d c)

-- the one item of each number, of twelve for each definition, is its record of heads
pub record IsHeadItem (records : Records) (ids : List ℕ) (k : ℕ) (items : List ℕ)
    : Type 0 where
  pub kind : kind_at records format.index_file
      (heads_of records (definition_of 12 ids k) (k % 12)) ≡ format.heads
  pub are : items ≡ heads_of records (definition_of 12 ids k) (k % 12) ∷ []
