-- The definitions of indexes, as a check meets them.
use Rattle.std.specs.Prelude.{◌≡◌, ℕ, ◌≤◌}
use Rattle.rec_bytes.specs.Format as format
use Rattle.store_rules.specs.Breaking.{DefinitionKeeps}
use Rattle.store_rules.specs.Views.{Records, high}
use Rattle.store_check.specs.declared.definitions.Defined.{Defined}

-- the mark is that of the records, and low
pub record IsOnIndex (sentence : Defined) (records : Records) : Type 0 where
  pub mark : sentence.mark ≡ high records format.index_file
  pub few : high records format.index_file ≤ format.most_ids

-- a definition has a label and a key that are names
abbrev pub HasNames : Defined → Records → ℕ → Type 0
HasNames sentence records d = DefinitionKeeps records d
