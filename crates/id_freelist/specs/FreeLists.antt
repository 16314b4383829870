-- The free list of a file.
use Rattle.std.specs.Prelude.{ℕ, List}
use Rattle.rec_bytes.specs.declared.record.Rec.{Rec}
use Rattle.rec_bytes.specs.Format as format
use Rattle.rec_bytes.specs.Record.{with_field, zeros}
use Rattle.rec_bytes.specs.Space.{meta_in}
use Rattle.store_rules.specs.Chains.{IsWalk}
use Rattle.store_rules.specs.Rules.{next_free}
use Rattle.store_rules.specs.Views.{Records}

-- the file's free list has these identifiers, in this order
abbrev pub IsFreeList : Records → ℕ → List ℕ → Type 0
IsFreeList records file free = IsWalk (next_free records file) (meta_in records file).free free

-- the record of a free identifier, with the next one
abbrev pub free_record : ℕ → Rec
free_record next = with_field 4 zeros format.free_next next
