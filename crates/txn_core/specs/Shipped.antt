-- Which records a transaction may hand to a follower.
use Rattle.std.specs.Prelude.{◌≡◌, Bool, true, not, nat_lt, ◌&&◌, ◌||◌}
use Rattle.std.specs.List.{AllByRecursion}
use Rattle.rec_bytes.specs.declared.key.Key.{Key}
use Rattle.rec_bytes.specs.declared.record.Rec.{Rec}
use Rattle.rec_bytes.specs.declared.shape.Shape.{Shape}
use Rattle.rec_bytes.specs.Creation.{own_key}
use Rattle.rec_bytes.specs.Format.{taken_id}
use Rattle.rec_bytes.specs.Key.{key_eq}
use Rattle.rec_bytes.specs.Pairs.{Pairs}
use Rattle.rec_bytes.specs.RecordFiles.{meta_key_of, room_of}

-- the key of the record that has the number of the last transaction that was taken over
abbrev pub taken_key : Key
taken_key = meta_key_of taken_id

-- the store's own record, or the one with the number
abbrev pub is_kept_back : Key → Bool
is_kept_back key = key_eq key own_key || key_eq key taken_key

-- a shipment may have the record: its file has room for it in a store of this shape, and it isn't
-- kept back
abbrev pub is_shipped : Shape → Key → Bool
is_shipped shape key = nat_lt key.id (room_of shape key.file) && not (is_kept_back key)

-- it may have each of these
abbrev pub AllShip : Shape → Pairs → Type 0
AllShip shape = AllByRecursion (λ (pair : Key × Rec). is_shipped shape pair.0 ≡ true)
