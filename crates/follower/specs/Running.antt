-- Runs of a follower: shipments come in any order, lost and again, and it may be stopped at any
-- moment.
use Rattle.std.specs.Prelude.{◌≡◌, ℕ, ◌+◌, max, true, List, [], ◌∷◌, Result, Ok, Err}
use Rattle.std.specs.Prelude.{Option, Some, None}
use Rattle.std.specs.List.{slice_get}
use Rattle.fault_count.specs.Cause.{Rose}
use Rattle.disk_model.specs.Contents.{Files}
use Rattle.disk_model.specs.declared.disk.Disk.{Ghosts}
use Rattle.rec_bytes.specs.declared.shape.Shape.{Shape}
use Rattle.txn_core.specs.declared.again_fault.AgainFault.{AgainFault}
use Rattle.txn_core.specs.declared.again_fault.AgainFault.TheVariants as again
use Rattle.txn_core.specs.declared.config.Config.{Config}
use Rattle.txn_core.specs.declared.open_fault.OpenFault.{OpenFault}
use Rattle.txn_core.specs.declared.open_fault.OpenFault.TheVariants as opening
use Rattle.follower.specs.Follower.{Accepts, IsOpened, IsUnopened, Reopens, View}
use Rattle.follower.specs.Sent.{FollowsSent, Told, nothing_told}
use Rattle.follower.specs.declared.accept.Accept.{Accept}
use Rattle.follower.specs.declared.accept.Accept.TheVariants.{
  Applied,
  Bad,
  Disk,
  Gap,
  Memory,
  Old,
}

-- The disk, the moment at which the last call began, the follower that is over the disk, where
-- there is one, what it has told, and what it had told while the last call went on.
pub record World (D : Type 0) : Type 0 where
  pub disk : D
  pub since : ℕ
  pub follower : Option (View D)
  pub told : Told
  pub during : Told

-- What may happen: a follower is opened, or none is and the disk is handed back; the shipment at a
-- place in what was sent comes to it; it is opened again; it is stopped between two calls, or
-- inside the last one, and another disk has what that left.
pub data Event (D : Type 0) : Type 0 where
  Opens : (now : View D) → Event D
  Fails : (why : OpenFault) (now : D) → Event D
  Comes : (place : ℕ) (answer : Accept) (now : View D) → Event D
  Reopens_as : (result : Result (Unit {0}) AgainFault) (now : View D) → Event D
  Stops : (now : D) → Event D
  Stops_inside : (now : D) → Event D

-- the shipment at this place has come
abbrev pub came : ℕ → Told → Told
came place told = record told { greatest = max (place + 1) told.greatest }

-- an opening found this number
abbrev pub found : ℕ → Told → Told
found number told = record told { base = number }

-- a shipment was answered
abbrev pub answered : Accept → Told → Told
answered (Applied number) told = record told { applied = number; base = number }
answered (Bad at) told = told
answered (Old have) told = told
answered (Gap have) told = told
answered Memory told = told
answered Disk told = told

-- it was opened again, or not
abbrev pub found_again : Result (Unit {0}) AgainFault → ℕ → Told → Told
found_again (Ok done) number told = found number told
found_again (Err why) number told = told

module _ {D : Type 0} (g : Ghosts D) where
  -- what there is after a call, which told this while it went on and at its end
  abbrev pub after_call : Told → Told → Option (View D) → D → World D → World D
  after_call during told follower now w = record {
    disk = now;
    since = g.moment w.disk;
    follower = follower;
    told = told;
    during = during;
  }

  -- what there is after a stop, where this was told
  abbrev pub after_stop : Told → D → World D
  after_stop told now = record {
    disk = now;
    since = g.moment now;
    follower = None;
    told = told;
    during = told;
  }

  -- what there is after an event
  abbrev pub after : Event D → World D → World D
  after (Opens now) w = after_call w.told (found now.have w.told) (Some now) now.disk w
  after (Fails why now) w = after_call w.told w.told None now w
  after (Comes place answer now) w =
      after_call (came place w.told) (answered answer (came place w.told)) (Some now) now.disk w
  after (Reopens_as result now) w =
      after_call w.told (found_again result now.have w.told) (Some now) now.disk w
  after (Stops now) w = after_stop w.told now
  after (Stops_inside now) w = after_stop w.during now

  -- what the calls say, of a follower where there is one
  abbrev pub AcceptsAt : List (List ℕ) → ℕ → Accept → View D → Option (View D) → Type 0
  AcceptsAt sent place answer now None = ⊥
  AcceptsAt sent place answer now (Some old) =
      (bytes : List ℕ) × (slice_get sent place ≡ Some bytes) × (old.live ≡ true)
      × Accepts g bytes old now answer

  abbrev pub ReopensAt : Result (Unit {0}) AgainFault → View D → Option (View D) → Type 0
  ReopensAt result now None = ⊥
  ReopensAt result now (Some old) = Reopens g old now result

  -- the event may happen then
  abbrev pub May : Config → List (List ℕ) → Event D → World D → Type 0
  May config sent (Opens now) w = IsOpened g config w.disk now
  May config sent (Fails why now) w = IsUnopened g config w.disk now why
  May config sent (Comes place answer now) w = AcceptsAt sent place answer now w.follower
  May config sent (Reopens_as result now) w = ReopensAt result now w.follower
  May config sent (Stops now) w =
      (image : Files) → g.may_leave now image → g.may_leave w.disk image
  May config sent (Stops_inside now) w =
      (image : Files) → g.may_leave now image → g.left_since w.disk w.since image

  -- these events may happen, one after the other, and lead there
  abbrev pub Run : Config → List (List ℕ) → List (Event D) → World D → World D → Type 0
  Run config sent [] w end = end ≡ w
  Run config sent (event ∷ later) w end =
      May config sent event w × Run config sent later (after event w) end

  -- the disk before the first call
  abbrev pub start_of : D → World D
  start_of disk = after_stop nothing_told disk

  -- Each image stands for what the sender had after its first transactions, and so did each while
  -- the last call went on; the numbers are those that what the follower told allows.
  pub record FollowsAlways (shape : Shape) (sent : List (List ℕ)) (w : World D) : Type 0 where
    pub now : (image : Files) → g.may_leave w.disk image → FollowsSent shape sent w.told image
    pub meanwhile : (image : Files) → g.left_since w.disk w.since image
        → FollowsSent shape sent w.during image

  -- an opening fails only for want of memory, or where the disk failed
  abbrev pub IsBlamedRightly : D → D → OpenFault → Type 0
  IsBlamedRightly old now opening.Memory = Unit {0}
  IsBlamedRightly old now opening.Disk = Rose (g.faults old) (g.faults now)
  IsBlamedRightly old now opening.NotAStore = ⊥
  IsBlamedRightly old now (opening.Damaged damage) = ⊥
  IsBlamedRightly old now (opening.ConfigDiffers stored asked) = ⊥

  abbrev pub IsBlamedAgain : D → D → Result (Unit {0}) AgainFault → Type 0
  IsBlamedAgain old now (Ok done) = Unit {0}
  IsBlamedAgain old now (Err again.Disk) = Rose (g.faults old) (g.faults now)
  IsBlamedAgain old now (Err (again.Damaged damage)) = ⊥

  -- what is said of an event that may happen
  abbrev pub IsSound : Event D → World D → Type 0
  IsSound (Fails why now) w = IsBlamedRightly w.disk now why
  IsSound (Reopens_as result now) w = IsBlamedAgain w.disk now.disk result
  IsSound (Opens now) w = Unit {0}
  IsSound (Comes place answer now) w = Unit {0}
  IsSound (Stops now) w = Unit {0}
  IsSound (Stops_inside now) w = Unit {0}
