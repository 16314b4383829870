-- An identifier that is taken of a file that has room.
use Rattle.std.specs.Prelude.{Err}
use Rattle.std.proofs.Common.{◌≡◌, ℕ, nat_eq, Bool, true, false, cond, List, arith, refl}
use Rattle.rec_bytes.specs.Format as format
use Rattle.rec_bytes.specs.RecordFiles.{is_meta_file}
use Rattle.rec_bytes.specs.Space.{State, meta_of}
use Rattle.store_rules.specs.Ranges.{is_reused}
use Rattle.store_rules.specs.Rules.{KeepsRules}
use Rattle.id_freelist.specs.declared.take_fault.TakeFault.{TakeFault}
use Rattle.id_freelist.specs.declared.take_fault.TakeFault.TheVariants as take
use Rattle.id_freelist.specs.Taking.{CanTake, IsTakeFault, free_taken, mark_taken, taken}
use Rattle.id_freelist.specs.TakeFault.{NotDamaged}
use Rattle.id_freelist.proofs.Splits.{can_take}
use Rattle.change_parts.specs.ChangeFault.{IsFailure, IsOutside, of_take}
use Rattle.change_parts.specs.Rooms.{HasRoom}
use Rattle.change_parts.specs.Store.{IsMidway}

-- a file of a store can give an identifier, unless it is full
pub kept_can_take : (s : State) {most : ℕ} {empty : List ℕ} (file : ℕ) (reused : is_reused file ≡ true) → is_meta_file file ≡ true
    → (well : KeepsRules s.records s.shape most empty) → CanTake s file (well.split file reused).0
kept_can_take s file reused is well = let k = well.split file reused in can_take s file k.0 (well.ranges.metas file is).high k.1

pub store_can_take : (s : State) (names : List (List ℕ)) (file : ℕ) (reused : is_reused file ≡ true) → is_meta_file file ≡ true → (store : IsMidway s names)
    → CanTake s file (store.store.split file reused).0
store_can_take s names file reused is store = kept_can_take s file reused is store.store

-- so only the machine can fail
pub take_outside : (s : State) (file : ℕ) (fault : TakeFault) → HasRoom s file 1 → IsTakeFault s file fault → NotDamaged {T = ℕ} (Err fault)
    → IsOutside (of_take fault)
take_outside s file (take.Full full live) room why ok = absurd (let a = why.1 in let b = why.2 in omega arith)
take_outside s file take.Memory room why ok = tt
take_outside s file take.Disk room why ok = tt
take_outside s file (take.Damaged damage) room why ok = absurd ok

-- where there is room, the file isn't told to be full
pub take_fails : (s : State) (file : ℕ) (fault : TakeFault) → HasRoom s file 1 → IsTakeFault s file fault → IsFailure (of_take fault)
take_fails s file (take.Full full live) room why = absurd (let a = why.1 in let b = why.2 in omega arith)
take_fails s file take.Memory room why = tt
take_fails s file take.Disk room why = tt
take_fails s file (take.Damaged damage) room why = tt

-- a take leaves the shape
pub taken-shape : (s : State) (file : ℕ) → (taken s file).shape ≡ s.shape
unfolding mark_taken free_taken
taken-shape s file = by (nat_eq (meta_of s file).free format.nil)
  where
    by : (b : Bool) → (cond b (mark_taken s file) (free_taken s file)).shape ≡ s.shape
    by true = refl
    by false = refl
