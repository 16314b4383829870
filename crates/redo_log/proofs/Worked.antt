-- A small log, read by the definitions: one entry of one node, whose number is 5.
use Rattle.std.proofs.Common.{ℕ, zero, suc, ◌+◌, List, [], ◌∷◌, ◌++◌, refl, arith, lit≤, lit<}
use Rattle.std.specs.Prelude.{slice_index}
use Rattle.disk_model.specs.Contents.{Files}
use Rattle.rec_bytes.specs.declared.key.Key.{Key}
use Rattle.rec_bytes.specs.declared.record.Rec.{Rec}
use Rattle.redo_log.specs.Entries.{HasEntries}

-- so many bytes, each one more than the one before
bytes_from : ℕ → ℕ → List ℕ
bytes_from zero first = []
bytes_from (suc n) first = first ∷ bytes_from n (first + 1)

-- an open gate, one record, the file of the nodes, the number 5, 64 bytes, and a closed gate
log : List ℕ
log = 1 ∷ 1 ∷ 0 ∷ 1 ∷ 5 ∷ 0 ∷ 0 ∷ 0 ∷ (bytes_from 64 9 ++ 0 ∷ [])

-- the log is that of each file here
content : Files
content file place = slice_index log place

-- the record of the node
node : Key × Rec
node = (record { file = 1; id = 5 }, record { bytes = bytes_from 64 9 })

HasEntries-worked : HasEntries content ((node ∷ []) ∷ []) 72
unfolding bytes_from log content node
HasEntries-worked = (
  record {
    open_gate = refl;
    form = record { some = lit< tt; few = lit≤ tt; keys = (record { file = refl; id = lit< tt }, tt); rising = (tt, tt) };
    fits = lit≤ tt;
  },
  refl,
  (refl, λ is_open. omega (arith, is_open)),
)
