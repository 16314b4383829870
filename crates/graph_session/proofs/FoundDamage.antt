-- A record that is blamed by the call that makes a change, where all that it blames breaks a rule in what it found.
use Rattle.std.specs.Prelude.{if◌then◌else◌}
use Rattle.std.proofs.Common.{◌≡◌, ◌≢◌, ◌⊎◌, ◌∙◌, ℕ, Bool, true, false, nat_eq, Contains, IfErr, Ok, Err, Result, List, ap, arith, inl, inr, refl, subst}
use Rattle.std.proofs.lemmas.Bool.{eqb-true}
use Rattle.disk_model.specs.declared.disk.Disk.{Ghosts}
use Rattle.plain_graph.specs.declared.command.Command.{Command}
use Rattle.plain_graph.specs.declared.command.Command.TheVariants as commands
use Rattle.plain_graph.specs.declared.pairs.Pair.{Pair}
use Rattle.rec_bytes.specs.Format as format
use Rattle.rec_bytes.specs.Space.{State as Space}
use Rattle.rec_bytes.specs.declared.damage.Damage.{Damage}
use Rattle.rec_bytes.specs.declared.fault.Fault.TheVariants as read_faults
use Rattle.name_store.specs.Interning.{interned}
use Rattle.name_store.proofs.NamedStore.{interned-known}
use Rattle.change_parts.specs.Damage.{BlamesBroken, BlamesEntries, BlamesGiven, IfBlames, IsAsFound, IsBroken, IsEntryDamage, IsOfIndex}
use Rattle.change_parts.specs.Causes.{IsCaused}
use Rattle.change_parts.specs.Change.{full_of}
use Rattle.change_parts.specs.Preparing.{NeedForPairs}
use Rattle.change_parts.specs.declared.change_fault.ChangeFault.{ChangeFault}
use Rattle.change_parts.specs.declared.change_fault.ChangeFault.TheVariants as faults
use Rattle.node_changes.specs.NodeDeleting.{IsDeleteCause}
use Rattle.txn_core.specs.Store.{state_of}
use Rattle.graph_session.specs.ChangeDamage.{IsToldAsFound, MayMeetNames, TellsAsFound}
use Rattle.graph_session.specs.Drafting.{BlamesFound, answer_for, drafted_by, unnamed_damage}
use Rattle.graph_session.specs.declared.answer.Answer.{Answer}
use Rattle.graph_session.specs.declared.answer.Answer.TheVariants as answers
use Rattle.graph_session.specs.declared.changing.Drafted.{Drafted}
use Rattle.graph_session.specs.declared.session.Session.{Session}

-- A record that is blamed, and is none of the indexes, breaks a rule in this space.
abbrev pub BlamesAside : Space → ChangeFault → Type 0
BlamesAside s fault = IfBlames (λ damage. (¬ IsOfIndex damage) → IsBroken s damage) fault

aside : (s : Space) (P : Damage → Type 0) → ((damage : Damage) → P damage → (¬ IsOfIndex damage) → IsBroken s damage) → (fault : ChangeFault)
    → IfBlames P fault → BlamesAside s fault
aside s P on (faults.NoNode id) told = tt
aside s P on (faults.NoEdge id) told = tt
aside s P on (faults.HasRelationships id degree) told = tt
aside s P on faults.IndexThere told = tt
aside s P on faults.TooManyIndexes told = tt
aside s P on (faults.IndexTooLarge count) told = tt
aside s P on (faults.Full file live) told = tt
aside s P on (faults.NamesFull count) told = tt
aside s P on (faults.PropsFull count) told = tt
aside s P on faults.Memory told = tt
aside s P on faults.Disk told = tt
aside s P on (faults.Damaged damage) told = on damage told

entry-aside : (s t : Space) (damage : Damage) → IsBroken s damage ⊎ (IsEntryDamage t damage × IsAsFound s t damage) → (¬ IsOfIndex damage) → IsBroken s damage
entry-aside s t damage (inl broken) other = broken
entry-aside s t damage (inr (entry, found)) other = absurd (other entry.0)

pub entries-aside : (s t : Space) (fault : ChangeFault) → BlamesEntries s t fault → BlamesAside s fault
entries-aside s t = aside s (λ damage. IsBroken s damage ⊎ (IsEntryDamage t damage × IsAsFound s t damage)) (entry-aside s t)

-- where the key is a name already
pub given-aside : (s t : Space) (names : List (List ℕ)) (key : List ℕ) → Contains names key → (fault : ChangeFault)
    → BlamesGiven s (interned s names key) t fault → BlamesAside s fault
given-aside s t names key known = aside s _ by
  where
    by : (damage : Damage) → IsBroken s damage ⊎ (IsBroken (interned s names key) damage ⊎ (IsEntryDamage t damage × IsAsFound s t damage))
        → (¬ IsOfIndex damage) → IsBroken s damage
    by damage (inl broken) other = broken
    by damage (inr (inl broken)) other = subst (λ (space : Space). IsBroken space damage) (interned-known s names key known) broken
    by damage (inr (inr entry)) other = entry-aside s t damage (inr entry) other

pub deletion-aside : (s t : Space) (id : ℕ) (fault : ChangeFault) → IsDeleteCause s t id fault → BlamesAside s fault
deletion-aside s t id (faults.NoNode missing) told = tt
deletion-aside s t id (faults.NoEdge missing) told = tt
deletion-aside s t id (faults.HasRelationships of degree) told = tt
deletion-aside s t id faults.IndexThere told = tt
deletion-aside s t id faults.TooManyIndexes told = tt
deletion-aside s t id (faults.IndexTooLarge count) told = tt
deletion-aside s t id (faults.Full file live) told = tt
deletion-aside s t id (faults.NamesFull count) told = tt
deletion-aside s t id (faults.PropsFull count) told = tt
deletion-aside s t id faults.Memory told = tt
deletion-aside s t id faults.Disk told = tt
deletion-aside s t id (faults.Damaged damage) told = entry-aside s t damage told

no-need : (pairs : List Pair) (count : ℕ) → NeedForPairs pairs format.groups_file count → ⊥
no-need pairs count (inl of) = let file : format.groups_file ≡ format.properties_file = of.0 in omega arith
no-need pairs count (inr of) = let file : format.groups_file ≡ format.strings_file = of.0 in omega arith

-- a change that blames only what it found, and records of the indexes, needs no groups
no-groups : (command : Command) (known : List (List ℕ)) → TellsAsFound command known → (s t : Space) (names now : List (List ℕ)) (live : ℕ)
    → IsCaused command s t names now (faults.Full format.groups_file live) → ⊥
no-groups (commands.Node label pairs) known at_once s t names now live (inl (count, inl nodes, lacks)) =
    let file : format.groups_file ≡ format.nodes_file = nodes.0 in omega arith
no-groups (commands.Node label pairs) known at_once s t names now live (inl (count, inr (inl need), lacks)) = no-need pairs count need
no-groups (commands.Node label pairs) known at_once s t names now live (inl (count, inr (inr entries), lacks)) =
    let file : format.groups_file ≡ format.index_file = entries.0 in omega arith
no-groups (commands.Node label pairs) known at_once s t names now live (inr (inl any, full)) = no-need pairs any.0 any.1
no-groups (commands.Node label pairs) known at_once s t names now live (inr (inr entries, full)) =
    let file : format.groups_file ≡ format.index_file = entries.0 in omega arith
no-groups (commands.Set target key value) known at_once s t names now live (inl lacks) = absurd lacks.1
no-groups (commands.Set target key value) known at_once s t names now live (inr (inl (inl property), full)) =
    let file : format.groups_file ≡ format.properties_file = property.0 in omega arith
no-groups (commands.Set target key value) known at_once s t names now live (inr (inl (inr blocks), full)) =
    let file : format.groups_file ≡ format.strings_file = blocks.0 in omega arith
no-groups (commands.Set target key value) known at_once s t names now live (inr (inr entries, full)) =
    let file : format.groups_file ≡ format.index_file = entries.0 in omega arith
no-groups (commands.Unset target key) known at_once s t names now live (inl lacks) = absurd lacks.1
no-groups (commands.Unset target key) known at_once s t names now live (inr late) = absurd late.0
no-groups (commands.Delete target) known at_once s t names now live (inl lacks) = absurd lacks.1
no-groups (commands.Delete target) known at_once s t names now live (inr late) = absurd late.0
no-groups _ known at_once s t names now live caused = absurd at_once

module _ {D : Type 0} {g : Ghosts D} (command : Command) (old : Session D g) where
  -- where a file is full, it isn't that of the groups
  by-full : (file : ℕ) (b : Bool) → nat_eq file format.groups_file ≡ b
      → (g.tells_reads → IsToldAsFound command old.names.names unnamed_damage → file ≢ format.groups_file)
      → BlamesFound command old (if b then answers.Fault (read_faults.Damaged unnamed_damage) else answers.Refused (full_of file))
  by-full file true groups apart = λ tells at. absurd (apart tells at (eqb-true file format.groups_file groups))
  by-full file false other apart = tt

  by-fault : (fault : ChangeFault) → (g.tells_reads → (damage : Damage) → fault ≡ faults.Damaged damage → IsToldAsFound command old.names.names damage
      → IsBroken (state_of old.store) damage)
      → (g.tells_reads → (file live : ℕ) → fault ≡ faults.Full file live → IsToldAsFound command old.names.names unnamed_damage → file ≢ format.groups_file)
      → BlamesFound command old (answer_for fault)
  by-fault (faults.NoNode id) told apart = tt
  by-fault (faults.NoEdge id) told apart = tt
  by-fault (faults.HasRelationships id degree) told apart = tt
  by-fault faults.IndexThere told apart = tt
  by-fault faults.TooManyIndexes told apart = tt
  by-fault (faults.IndexTooLarge count) told apart = tt
  by-fault (faults.Full file live) told apart = by-full file (nat_eq file format.groups_file) refl (λ tells at. apart tells file live refl at)
  by-fault (faults.NamesFull count) told apart = tt
  by-fault (faults.PropsFull count) told apart = tt
  by-fault faults.Memory told apart = tt
  by-fault faults.Disk told apart = tt
  by-fault (faults.Damaged damage) told apart = λ tells. told tells damage refl

  told-aside : MayMeetNames command → (damage : Damage) → IsToldAsFound command old.names.names damage
      → (¬ IsOfIndex damage) × TellsAsFound command old.names.names
  told-aside meets damage (inl never) = absurd (never meets)
  told-aside meets damage (inr told) = told

  -- it asks for no groups, so their file isn't told as full
  full-apart : TellsAsFound command old.names.names → (s t : Space) (names now : List (List ℕ)) (fault : ChangeFault)
      → IsCaused command s t names now fault → (file live : ℕ) → fault ≡ faults.Full file live → file ≢ format.groups_file
  full-apart at_once s t names now fault caused file live is groups =
      no-groups command old.names.names at_once s t names now live
      (subst (IsCaused command s t names now) (is ∙ ap (λ n. faults.Full n live) groups) caused)

  -- what the call says, of its answer
  pub found-call : MayMeetNames command → {T : Type 0} (answer : T → Answer) (weight : T → ℕ) (told : ChangeFault → Type 0) (outcome : Result T ChangeFault)
      → (g.tells_reads → IfErr outcome told)
      → ((fault : ChangeFault) → TellsAsFound command old.names.names → told fault → BlamesAside (state_of old.store) fault)
      → (s t : Space) (names now : List (List ℕ)) → (g.tells_reads → IfErr outcome (IsCaused command s t names now))
      → IfErr (drafted_by answer weight outcome) (BlamesFound command old)
  found-call meets answer weight told (Ok made) says on s t names now caused = tt
  found-call meets answer weight told (Err fault) says on s t names now caused = by-fault fault
      (λ tells damage is at. let found = told-aside meets damage at in subst (BlamesAside (state_of old.store)) is (on fault found.1 (says tells)) found.0)
      (λ tells file live is at. full-apart (told-aside meets unnamed_damage at).1 s t names now fault (caused tells) file live is)

  -- a change whose call blames nothing else
  pub found-all : {T : Type 0} (answer : T → Answer) (weight : T → ℕ) (outcome : Result T ChangeFault)
      → (g.tells_reads → IfErr outcome (BlamesBroken (state_of old.store))) → TellsAsFound command old.names.names
      → (s t : Space) (names now : List (List ℕ)) → (g.tells_reads → IfErr outcome (IsCaused command s t names now))
      → IfErr (drafted_by answer weight outcome) (BlamesFound command old)
  found-all answer weight (Ok made) says at_once s t names now caused = tt
  found-all answer weight (Err fault) says at_once s t names now caused = by-fault fault
      (λ tells damage is at. subst (BlamesBroken (state_of old.store)) is (says tells))
      (λ tells file live is at. full-apart at_once s t names now fault (caused tells) file live is)

  -- a change whose call may blame other records
  pub found-none : MayMeetNames command → (TellsAsFound command old.names.names → ⊥) → (result : Result Drafted Answer) → IfErr result (BlamesFound command old)
  found-none meets none (Ok made) = tt
  found-none meets none (Err answers.Done) = tt
  found-none meets none (Err (answers.NodeMade id)) = tt
  found-none meets none (Err (answers.EdgeMade id)) = tt
  found-none meets none (Err (answers.Results results)) = tt
  found-none meets none (Err (answers.Refused why)) = tt
  found-none meets none (Err (answers.Fault read_faults.Memory)) = tt
  found-none meets none (Err (answers.Fault read_faults.Disk)) = tt
  found-none meets none (Err (answers.Fault (read_faults.Damaged damage))) = λ tells at. absurd (none (told-aside meets damage at).1)
