-- A file of groups that is full: how it is told where an edge is put.
use Rattle.std.proofs.Common.{◌≡◌, ◌+◌, ◌<◌, ◌≤◌, ℕ, List, ap, subst, inl, inr, arith, refl}
use Rattle.plain_graph.specs.declared.command.Command.TheVariants as commands
use Rattle.plain_graph.specs.declared.command.Target.{Target}
use Rattle.plain_graph.specs.declared.pairs.Pair.{Pair}
use Rattle.prop_store.specs.SetFault.{IsNeeded}
use Rattle.rec_bytes.specs.declared.shape.Shape.{Shape}
use Rattle.rec_bytes.specs.Format as format
use Rattle.rec_bytes.specs.RecordFiles.{room_of}
use Rattle.rec_bytes.specs.Space.{State}
use Rattle.group_store.specs.Naming.{NamesMeta}
use Rattle.group_store.specs.OpenFault.{IfRefuses}
use Rattle.group_store.specs.Opening.{GrowsAtMost}
use Rattle.group_store.specs.declared.open_fault.OpenFault.{OpenFault}
use Rattle.group_store.specs.declared.open_fault.OpenFault.TheVariants as opens
use Rattle.change_parts.specs.Assigning.{IsPutCause}
use Rattle.change_parts.specs.Causes.{IsCaused}
use Rattle.change_parts.specs.ChangeFault.{IsFailure, IsOutside, MayComeLate, is_element_file, of_open}
use Rattle.change_parts.specs.Damage.{KeepsButNames}
use Rattle.change_parts.specs.Owners.{IsAbsent}
use Rattle.change_parts.specs.Preparing.{IsLineCause, NeedForPairs}
use Rattle.change_parts.specs.Rooms.{LacksRoom}
use Rattle.change_parts.specs.declared.change_fault.ChangeFault.{ChangeFault}
use Rattle.change_parts.specs.declared.change_fault.ChangeFault.TheVariants.{NoNode, NoEdge, HasRelationships, IndexThere}
use Rattle.change_parts.specs.declared.change_fault.ChangeFault.TheVariants.{TooManyIndexes, IndexTooLarge, Full}
use Rattle.change_parts.specs.declared.change_fault.ChangeFault.TheVariants.{NamesFull, PropsFull, Memory, Disk, Damaged}
use Rattle.edge_changes.specs.EdgeAdding.{groups_needed}
use Rattle.edge_changes.specs.EdgePlacing.{HadFewGroups, IsPutFault}
use Rattle.edge_changes.proofs.EdgeFound.{few_before}

-- ---- where no head is found or made for an end

pub open_put : (k : ℕ) (s t : State) (fault : OpenFault) → NamesMeta s t k fault → IsPutFault t (of_open fault)
open_put k s t (opens.Full live) metas = (refl, metas.full)
open_put k s t opens.Memory metas = tt
open_put k s t opens.Disk metas = tt
open_put k s t (opens.Damaged damage) metas = tt

pub open_few : (k : ℕ) (s t : State) (fault : OpenFault) → NamesMeta s t k fault → HadFewGroups s k (of_open fault)
open_few k s t (opens.Full full) metas live is = metas.lacks
open_few k s t opens.Memory metas live is = absurd cc
open_few k s t opens.Disk metas live is = absurd cc
open_few k s t (opens.Damaged damage) metas live is = absurd cc

pub open_outside : (fault : OpenFault) → IfRefuses ⊥ fault → IsOutside (of_open fault)
open_outside (opens.Full live) none = none
open_outside opens.Memory none = tt
open_outside opens.Disk none = tt
open_outside (opens.Damaged damage) none = none

-- ---- one end after another

pub few_more : (j k : ℕ) (s : State) (fault : ChangeFault) → j ≤ k → HadFewGroups s j fault → HadFewGroups s k fault
few_more j k s fault le few live is = let lacks = few live is in omega (arith, lacks, le)

pub few_then : (j k : ℕ) (s m : State) (fault : ChangeFault) → m.shape ≡ s.shape → GrowsAtMost s m j → HadFewGroups m k fault → HadFewGroups s (j + k) fault
few_then j k s m fault shape grows few live is =
    let lacks = few live is in let room = ap (λ (h : Shape). room_of h format.groups_file) shape in omega (arith, lacks, grows, room)

-- ---- any other fault

pub failure_put : (t : State) (fault : ChangeFault) → IsFailure fault → IsPutFault t fault
failure_put t (NoNode id) fails = absurd fails
failure_put t (NoEdge id) fails = absurd fails
failure_put t (HasRelationships id degree) fails = absurd fails
failure_put t IndexThere fails = absurd fails
failure_put t TooManyIndexes fails = absurd fails
failure_put t (IndexTooLarge count) fails = absurd fails
failure_put t (Full file live) fails = absurd fails
failure_put t (NamesFull count) fails = absurd fails
failure_put t (PropsFull count) fails = absurd fails
failure_put t Memory fails = tt
failure_put t Disk fails = tt
failure_put t (Damaged damage) fails = tt

pub failure_few : (s : State) (k : ℕ) (fault : ChangeFault) → IsFailure fault → HadFewGroups s k fault
failure_few s k fault fails live is = absurd (subst IsFailure is fails)

-- ---- what follows of one that is told

pub put_late : (t : State) (fault : ChangeFault) → IsPutFault t fault → MayComeLate fault
put_late t (NoNode id) fails = absurd fails
put_late t (NoEdge id) fails = absurd fails
put_late t (HasRelationships id degree) fails = absurd fails
put_late t IndexThere fails = absurd fails
put_late t TooManyIndexes fails = absurd fails
put_late t (IndexTooLarge count) fails = absurd fails
put_late t (Full file live) fails = ap is_element_file fails.0
put_late t (NamesFull count) fails = absurd fails
put_late t (PropsFull count) fails = absurd fails
put_late t Memory fails = tt
put_late t Disk fails = tt
put_late t (Damaged damage) fails = tt

-- a new edge may need groups
module _ (s t : State) (names now : List (List ℕ)) (from : ℕ) (label : List ℕ) (to : ℕ) (pairs : List Pair) where
  pub edge_caused : (fault : ChangeFault) → IsPutFault t fault → IsCaused (commands.Edge from label to pairs) s t names now fault
  edge_caused (NoNode id) fails = absurd fails
  edge_caused (NoEdge id) fails = absurd fails
  edge_caused (HasRelationships id degree) fails = absurd fails
  edge_caused IndexThere fails = absurd fails
  edge_caused TooManyIndexes fails = absurd fails
  edge_caused (IndexTooLarge count) fails = absurd fails
  edge_caused (Full file live) fails = inr (inr fails.0, fails.1)
  edge_caused (NamesFull count) fails = absurd fails
  edge_caused (PropsFull count) fails = absurd fails
  edge_caused Memory fails = tt
  edge_caused Disk fails = tt
  edge_caused (Damaged damage) fails = tt

-- ---- a file that was full before

need_apart : (pairs : List Pair) {count : ℕ} → NeedForPairs pairs format.groups_file count → ⊥
need_apart pairs (inl of) = let file : format.groups_file ≡ format.properties_file = of.0 in omega arith
need_apart pairs (inr of) = let file : format.groups_file ≡ format.strings_file = of.0 in omega arith

needed_apart : (new : Type 0) (blocks : ℕ) → IsNeeded new blocks format.groups_file → ⊥
needed_apart new blocks (inl of) = let file : format.groups_file ≡ format.properties_file = of.0 in omega arith
needed_apart new blocks (inr of) = let file : format.groups_file ≡ format.strings_file = of.0 in omega arith

-- it isn't that of the groups which is told as full
module _ (s : State) (needed : ℕ) (fault : ChangeFault) where
  pub absent_few : (of : State) (target : Target) → IsAbsent of target fault → HadFewGroups s needed fault
  absent_few of target why live is = absurd (subst (IsAbsent of target) is why)

  pub room_few : (of : State) (count : ℕ) → LacksRoom of format.relationships_file count fault → HadFewGroups s needed fault
  room_few of count why live is = absurd (let told = why.is in let file : format.relationships_file ≡ format.groups_file = cc in omega arith)

  pub line_few : (of : State) (names : List (List ℕ)) (label : List ℕ) (pairs : List Pair) → IsLineCause of names label pairs fault
      → HadFewGroups s needed fault
  line_few of names label pairs why live is = absurd (need_apart pairs (subst (IsLineCause of names label pairs) is why).1)

  pub values_few : (t : State) (count blocks : ℕ) → IsPutCause t count blocks fault → HadFewGroups s needed fault
  values_few t count blocks why live is = absurd (needed_apart (0 < count) blocks (subst (IsPutCause t count blocks) is why).1)

  -- before names were made
  pub few_named : (u : State) (k : ℕ) → k ≡ groups_needed s.shape.threshold → needed ≡ groups_needed s.shape.threshold → u.shape ≡ s.shape → KeepsButNames s u
      → HadFewGroups u k fault → HadFewGroups s needed fault
  few_named u k most same shape keeps few live is = let lacks = few_before k s u most shape keeps (few live is) in omega (arith, lacks, same)
