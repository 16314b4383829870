-- A change of the indexes that spares their definitions.
use Rattle.std.specs.Prelude.{◌≡◌, ℕ}
use Rattle.id_freelist.specs.ListDamage.{HarmsNoList}
use Rattle.rec_bytes.specs.Format as format
use Rattle.rec_bytes.specs.Record.{field}
use Rattle.rec_bytes.specs.Space.{State}
use Rattle.store_rules.specs.Indexes.{first_definition, index_rec}
use Rattle.store_rules.specs.Views.{kind_at}

-- The chain of the definitions begins where it did. Each definition is as it was, and no other
-- record has become one. Nothing more is wrong with the free list.
pub record SparesDefinitions (s t : State) : Type 0 where
  pub harmless : HarmsNoList s t format.index_file
  pub first : first_definition t.records ≡ first_definition s.records
  pub defined : (x : ℕ) → kind_at s.records format.index_file x ≡ format.definition
      → kind_at t.records format.index_file x ≡ format.definition
  pub kept : (x : ℕ) → kind_at s.records format.index_file x ≡ format.definition
      → index_rec t.records x ≡ index_rec s.records x
  pub back : (x : ℕ) → field 1 (index_rec t.records x) format.kind ≡ format.definition
      → index_rec t.records x ≡ index_rec s.records x
