-- How many records a well-formed store has at most.
use Rattle.std.proofs.Common.{◌≡◌, ℕ, ◌<◌, ◌≤◌, ◌^◌, Bool, true, false, cond, ◌&&◌, Some, None, ap, ◌∙◌, arith, refl}
use Rattle.rec_bytes.specs.declared.record.Rec.{Rec}
use Rattle.rec_bytes.specs.declared.shape.Shape.{Shape}
use Rattle.rec_bytes.specs.Format.{meta_file, most_ids}
use Rattle.rec_bytes.specs.RecordFiles.{is_meta_file, meta_key_of, room_of}
use Rattle.rec_bytes.specs.Shape.{is_allowed, is_store_record, numbers_of_shape, shape_of_record}
use Rattle.rec_bytes.proofs.RecordFiles.{room_of-most}
use Rattle.store_rules.specs.Ranges.{AreInRange}
use Rattle.store_rules.specs.Views.{Records, high}

-- the shape that a store says is one that it may have
allowed_of : (r : Rec) (shape : Shape) → shape_of_record r ≡ Some shape → is_allowed shape ≡ true
allowed_of r shape = by (is_store_record r) (is_allowed (numbers_of_shape r)) refl
  where
    by : (a b : Bool) → is_allowed (numbers_of_shape r) ≡ b → cond (a && b) (Some (numbers_of_shape r)) None ≡ Some shape → is_allowed shape ≡ true
    by true true e h = ap is_allowed (inner (numbers_of_shape r) shape h) ∙ e
      where
        inner : (x y : Shape) → Some x ≡ Some y → y ≡ x
        inner x y e = cc
    by true false e h = absurd cc
    by false b e h = absurd cc

pub room_most : (records : Records) (shape : Shape) (file : ℕ) → AreInRange records shape → room_of shape file ≤ most_ids
room_most records shape file ranges = room_of-most shape file (allowed_of (records (meta_key_of meta_file)) shape ranges.own)

pub room_small : (records : Records) (shape : Shape) (file : ℕ) → AreInRange records shape → room_of shape file < 2 ^ 32
room_small records shape file ranges = let most = room_most records shape file ranges in omega arith

-- what was given out is among the numbers that there may be
pub high_most : (records : Records) (shape : Shape) (file : ℕ) → AreInRange records shape → is_meta_file file ≡ true → high records file ≤ most_ids
high_most records shape file ranges is = let most = room_most records shape file ranges in let low = (ranges.metas file is).high in omega arith
