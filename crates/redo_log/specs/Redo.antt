-- What the entries of the log make of records.
use Rattle.std.specs.Prelude.{List, [], ◌∷◌}
use Rattle.rec_bytes.specs.declared.key.Key.{Key}
use Rattle.rec_bytes.specs.declared.record.Rec.{Rec}
use Rattle.rec_bytes.specs.Pairs.{Pairs}
use Rattle.rec_bytes.specs.Space.{laid_over}

-- the records with each entry's written over them, one entry after the other
abbrev pub redone : (Key → Rec) → List Pairs → Key → Rec
redone records [] = records
redone records (entry ∷ later) = redone (laid_over records entry) later
