-- Room for elements and for their properties.
use Rattle.std.proofs.Common.{◌≡◌, ◌≢◌, ℕ, ◌≤◌, true, List, sym, ap, ◌∙◌, arith}
use Rattle.rec_bytes.specs.declared.meta.Meta.{Meta}
use Rattle.rec_bytes.specs.declared.shape.Shape.{Shape}
use Rattle.rec_bytes.specs.Format as format
use Rattle.rec_bytes.specs.RecordFiles.{is_meta_file, room_of}
use Rattle.rec_bytes.specs.Space.{State, meta_of}
use Rattle.store_rules.specs.Ranges.{is_reused}
use Rattle.store_rules.specs.Views.{high, is_live}
use Rattle.store_rules.proofs.Counts.{length-ids}
use Rattle.change_parts.specs.Assigning.{HasPropertyRoom}
use Rattle.change_parts.specs.Rooms.{HasRoom, LacksRoom}
use Rattle.change_parts.specs.Store.{IsMidway}
use Rattle.change_parts.specs.declared.change_fault.ChangeFault.{ChangeFault}
use Rattle.change_parts.specs.declared.change_fault.ChangeFault.TheVariants.{Full}

-- ---- a file that holds as many elements as the limit, where each live record is one
module _ (s : State) (names : List (List ℕ)) (store : IsMidway s names) (file count : ℕ) (reused : is_reused file ≡ true) (has_meta : is_meta_file file ≡ true)
    (room_is : room_of s.shape file ≡ s.shape.limit)
    (live : (meta_of s file).live ≡ count) where
  count-limit : count ≤ s.shape.limit
  count-limit =
      let exact = sym live ∙ (store.store.split file reused).1.exact in
      let few = length-ids (is_live s.records file) (high s.records file) in
      let most = (store.store.ranges.metas file has_meta).high in
      let room = room_is in
      omega arith

  -- it isn't full where there is room
  pub not_full : HasRoom s file 1 → count ≢ s.shape.limit
  not_full room full = let n = live in let r = room_is in absurd (omega arith)

  -- it is full where there is none
  pub lacks_full : (fault : ChangeFault) → LacksRoom s file 1 fault → count ≡ s.shape.limit
  lacks_full fault why = let n = live in let r = room_is in let le = count-limit in let lt = why.lacks in omega arith

-- ---- room stays where the live records of the file do
pub room_still : (s u : State) (file needed : ℕ) → (meta_of u file).live ≡ (meta_of s file).live → u.shape ≡ s.shape → HasRoom s file needed
    → HasRoom u file needed
room_still s u file needed live same room = let r = ap (λ (h : Shape). room_of h file) same in omega arith

-- what it lacks it lacked before
pub room_before : (s u : State) (file needed : ℕ) → meta_of u file ≡ meta_of s file → u.shape ≡ s.shape → (fault : ChangeFault) → LacksRoom u file needed fault
    → LacksRoom s file needed fault
room_before s u file needed meta same fault why = record {
  is = why.is ∙ ap (λ (m : Meta). Full file m.live) meta;
  lacks = let lt = why.lacks in let live = ap (λ (m : Meta). m.live) meta in let r = ap (λ (h : Shape). room_of h file) same in omega (arith, lt, live, r);
}

-- so does room for properties
pub properties_still : (s u : State) (count blocks : ℕ) → meta_of u format.properties_file ≡ meta_of s format.properties_file
    → meta_of u format.strings_file ≡ meta_of s format.strings_file → u.shape ≡ s.shape
    → HasPropertyRoom s count blocks → HasPropertyRoom u count blocks
properties_still s u count blocks properties strings same room =
    let a = room.properties in
    let b = room.blocks in
    let p = ap (λ (m : Meta). m.live) properties in
    let q = ap (λ (m : Meta). m.live) strings in
    let limit = ap (λ (h : Shape). h.limit) same in
    record { properties = omega arith; blocks = omega arith }
