-- Numbers of records.
use Rattle.std.specs.Prelude.{ℕ}
use Rattle.rec_bytes.specs.Record.{field}
use Rattle.store_rules.specs.Views.{Records, rec_at}

-- the number at a place of a record of the file
abbrev pub number_at : Records → ℕ → ℕ → ℕ → ℕ
number_at records file place x = field 4 (rec_at records file x) place
