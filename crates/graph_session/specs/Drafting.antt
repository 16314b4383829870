-- What the steps of a change say: its draft, and what becomes of that.
use Rattle.std.specs.Prelude.{if◌then◌else◌, nat_eq}
use Rattle.std.specs.Prelude.{◌≡◌, ◌⊎◌, ℕ, ◌+◌, ◌<◌, ◌≤◌, IsTrue, true, false, Result, Ok, Err}
use Rattle.std.specs.Prelude.{List, [], ◌++◌, length, min, take}
use Rattle.fault_count.specs.Cause.{Rose}
use Rattle.disk_model.specs.Spans.{AtEachMoment, OnlyReads}
use Rattle.disk_model.specs.declared.disk.Disk.{Ghosts}
use Rattle.plain_graph.specs.Changes.{most_weight, start_weight}
use Rattle.plain_graph.specs.LineChanges.{LineChanges, LineWeighs, line_reasons}
use Rattle.plain_graph.specs.Refusals.{FirstReason, NoReason}
use Rattle.plain_graph.specs.Reply.{Reply}
use Rattle.plain_graph.specs.declared.command.Command.{Command}
use Rattle.plain_graph.specs.declared.refusal.Refusal.{Refusal}
use Rattle.plain_graph.specs.declared.refusal.Refusal.TheVariants as refusals
use Rattle.rec_bytes.specs.declared.damage.Damage.{Damage}
use Rattle.rec_bytes.specs.declared.key.Key.{Key}
use Rattle.rec_bytes.specs.declared.record.Rec.{Rec}
use Rattle.rec_bytes.specs.Format as format
use Rattle.rec_bytes.specs.RuleNumbers.{range_rule}
use Rattle.rec_bytes.specs.Pairs.{IsOrdered, Pairs, merged}
use Rattle.rec_bytes.specs.Space.{State as Space, laid_over}
use Rattle.rec_bytes.specs.declared.fault.Fault.TheVariants as read_faults
use Rattle.record_file.specs.Redone.{Redoes}
use Rattle.store_rules.specs.Breaking.{BreaksAny}
use Rattle.store_rules.specs.Indexes.{IsIndexed}
use Rattle.store_rules.specs.Writes.{WritesAtMost}
use Rattle.snap_store.specs.Keeping.{EndsFor, KeepsHeld}
use Rattle.txn_core.specs.Base.{OnlyReadsBase, SameBeneath, SameStore}
use Rattle.txn_core.specs.Changed.{AreChanged, HasChanged}
use Rattle.txn_core.specs.Kept.{IsOnDisk}
use Rattle.txn_core.specs.Sights.{KeepsSights}
use Rattle.txn_core.specs.Store.{committed, drafted, state_of, working}
use Rattle.change_parts.specs.Change.{full_of}
use Rattle.graph_ops.specs.Mutating.{most_told}
use Rattle.graph_ops.specs.declared.mutate_fault.MutateFault.{MutateFault}
use Rattle.graph_ops.specs.declared.mutate_fault.MutateFault.TheVariants as mutate_faults
use Rattle.change_parts.specs.Store.{IsStore}
use Rattle.change_parts.specs.declared.added.Added.{Added}
use Rattle.change_parts.specs.declared.change_fault.ChangeFault.{ChangeFault}
use Rattle.change_parts.specs.declared.change_fault.ChangeFault.TheVariants as faults
use Rattle.graph_session.specs.Answering.{reply_of}
use Rattle.graph_session.specs.ChangeDamage.{IsNameOrMet, IsSeenDamage, IsToldAsFound}
use Rattle.graph_session.specs.ChangeDamage.{MayMeetNames}
use Rattle.graph_session.specs.ChangeLeft.{LeavesRecords}
use Rattle.graph_session.specs.Console.{HasNoDraft}
use Rattle.graph_session.specs.MayStep.{TellsMade}
use Rattle.graph_session.specs.Session.{view}
use Rattle.graph_session.specs.declared.answer.Answer.{Answer}
use Rattle.graph_session.specs.declared.answer.Answer.TheVariants as answers
use Rattle.graph_session.specs.declared.changing.Begun.{Begun}
use Rattle.graph_session.specs.declared.changing.Drafted.{Drafted}
use Rattle.graph_session.specs.declared.health.Health.TheVariants as healths
use Rattle.graph_session.specs.declared.session.Session.{Session}
use Rattle.store_rules.specs.Graph.{graph_in}

-- a damage that stands for a record that isn't named yet
abbrev pub unnamed_damage : Damage
unnamed_damage = record { file = format.meta_file; id = format.names_file; rule = range_rule }

-- The answer where a file is full. A graph has no groups: where their file is full, a record of the
-- store breaks a rule.
abbrev pub full_answer : ℕ → Answer
full_answer file =
    if nat_eq file format.groups_file then answers.Fault (read_faults.Damaged unnamed_damage)
    else answers.Refused (full_of file)

-- the answer of a change that is refused
abbrev pub answer_for : ChangeFault → Answer
answer_for (faults.NoNode id) = answers.Refused (refusals.NoNode id)
answer_for (faults.NoEdge id) = answers.Refused (refusals.NoEdge id)
answer_for (faults.HasRelationships id degree) = answers.Refused (refusals.HasRelationships id)
answer_for faults.IndexThere = answers.Refused refusals.IndexThere
answer_for faults.TooManyIndexes = answers.Refused refusals.TooManyIndexes
answer_for (faults.IndexTooLarge count) = answers.Refused (refusals.IndexTooLarge count)
answer_for (faults.Full file live) = full_answer file
answer_for (faults.NamesFull count) = answers.Refused refusals.FullNames
answer_for (faults.PropsFull count) = answers.Refused refusals.TooManyProperties
answer_for faults.Memory = answers.Fault read_faults.Memory
answer_for faults.Disk = answers.Fault read_faults.Disk
answer_for (faults.Damaged damage) = answers.Fault (read_faults.Damaged damage)

-- the answer of a list of changes that isn't made
abbrev pub answer_for_changes : MutateFault → Answer
answer_for_changes (mutate_faults.Refused fault) = answer_for fault
answer_for_changes mutate_faults.Damaged = answers.Fault (read_faults.Damaged unnamed_damage)

-- What a call that changes gives as a draft: its answer and its weight, or the answer of its fault.
abbrev pub drafted_by :
    {T : Type 0} → (T → Answer) → (T → ℕ) → Result T ChangeFault → Result Drafted Answer
drafted_by answer weight (Ok made) = Ok (record { answer = answer made; weight = weight made })
drafted_by answer weight (Err fault) = Err (answer_for fault)

-- a new node
abbrev pub drafted_node : Result Added ChangeFault → Result Drafted Answer
drafted_node outcome =
    drafted_by (λ (added : Added). answers.NodeMade added.id) (λ (added : Added). added.weight)
    outcome

-- a new edge
abbrev pub drafted_edge : Result Added ChangeFault → Result Drafted Answer
drafted_edge outcome =
    drafted_by (λ (added : Added). answers.EdgeMade added.id) (λ (added : Added). added.weight)
    outcome

-- a change whose answer has nothing of its own
abbrev pub drafted_done : Result ℕ ChangeFault → Result Drafted Answer
drafted_done outcome = drafted_by (λ (weight : ℕ). answers.Done) (λ (weight : ℕ). weight) outcome

-- the answer of a change that is made
abbrev pub TellsChange : Command → Answer → Type 0
TellsChange command answer = TellsMade command (reply_of answer)

-- the command is refused so by the graph of the space
abbrev pub Refuses : Command → Space → Refusal → Type 0
Refuses command space why =
    FirstReason line_reasons space.shape.limit (graph_in space) command why

-- The store has what the command changes, with this reply, and no reason refused it. What it weighs
-- is told up to the greatest weight.
pub record MakesLine (command : Command) (reply : Reply) (weight : ℕ) (old new : Space)
    (names : List (List ℕ)) : Type 0 where
  pub store : IsStore new names
  pub changes : LineChanges old.shape.limit (graph_in old) command reply (graph_in new)
  pub total : ℕ
  pub weighs : LineWeighs old.shape.limit old.shape.threshold (graph_in old) command total
  pub only : (other : ℕ)
      → LineWeighs old.shape.limit old.shape.threshold (graph_in old) command other
      → other ≡ total
  pub told : weight ≡ min total most_told
  pub free : NoReason line_reasons old.shape.limit (graph_in old) command

-- why the draft of a change by itself is not kept
abbrev pub IsUnkeptAlone : ℕ → Answer → Type 0
IsUnkeptAlone weight answer =
    ((answer ≡ answers.Refused refusals.TransactionFull) × (most_weight < start_weight + weight))
    ⊎ (answer ≡ answers.Fault read_faults.Memory)

module _ {D : Type 0} {g : Ghosts D} where
  -- the records with the draft are a store that keeps all rules, whose names are those in memory
  abbrev pub HasStore : Session D g → Type 0
  HasStore session = IsStore (state_of session.store) session.names.names

  -- Nothing but the draft changed, and the names grew, over a disk that was only read.
  pub record OnlyDrafts (old new : Session D g) : Type 0 where
    pub base : OnlyReadsBase old.store.base new.store.base
    pub weight : new.weight ≡ old.weight
    pub health : new.health ≡ old.health
    pub snaps : new.snaps ≡ old.snaps
    pub brought : (rest : List (List ℕ)) × (new.names.names ≡ old.names.names ++ rest)
    pub later : g.faults old.store.base.disk.now ≤ g.faults new.store.base.disk.now

  -- The draft has the change of this command, which gets this reply.
  abbrev pub HasDraft : Command → Session D g → Session D g → Drafted → Type 0
  HasDraft command old new made =
      MakesLine command (reply_of made.answer) made.weight (state_of old.store)
      (state_of new.store) new.names.names

  -- why no change was drafted, over the disk as it is then
  abbrev pub IsStopped : Command → Session D g → D → Answer → Type 0
  IsStopped command old now answers.Done = ⊥
  IsStopped command old now (answers.NodeMade id) = ⊥
  IsStopped command old now (answers.EdgeMade id) = ⊥
  IsStopped command old now (answers.Results results) = ⊥
  IsStopped command old now (answers.Refused why) = g.tells_reads → HasStore old
      → Refuses command (state_of old.store) why
  IsStopped command old now (answers.Fault read_faults.Memory) = Unit {0}
  IsStopped command old now (answers.Fault read_faults.Disk) =
      Rose (g.faults old.store.base.disk.now) (g.faults now)
  IsStopped command old now (answers.Fault (read_faults.Damaged damage)) =
      g.tells_reads → HasStore old → ⊥

  -- A record that is called damaged breaks a rule in what the call found, if the call tells such a
  -- record as it found it.
  abbrev pub BlamesFound : Command → Session D g → Answer → Type 0
  BlamesFound command old (answers.Fault (read_faults.Damaged damage)) =
      g.tells_reads → IsToldAsFound command old.names.names damage
      → BreaksAny (drafted old.store) old.store.base.shape damage
  BlamesFound command old _ = Unit {0}

  -- A record that is called damaged is so in what the line sees.
  abbrev pub BlamesSeen : Command → Session D g → Answer → Type 0
  BlamesSeen command old (answers.Fault (read_faults.Damaged damage)) =
      g.tells_reads → HasNoDraft (view old) → IsSeenDamage command (view old).console damage
  BlamesSeen command old _ = Unit {0}

  -- what came of drafting
  abbrev pub Drafts : Command → Session D g → Session D g → Result Drafted Answer → Type 0
  Drafts command old new (Ok made) = TellsChange command made.answer
      × (g.tells_reads → HasStore old → HasDraft command old new made)
      × (made.weight < most_told
      → WritesAtMost made.weight (state_of old.store) (state_of new.store))
      × (g.tells_reads → LeavesRecords command (reply_of made.answer) (drafted old.store)
      (drafted new.store) new.names.names)
  Drafts command old new (Err why) = IsStopped command old new.store.base.disk.now why

  -- The draft has the changed records of what it was, and no others. The names are the same.
  pub record KeepsOnlyChanged (old new : Session D g) : Type 0 where
    pub names : new.names.names ≡ old.names.names
    pub rising : IsOrdered new.store.draft.pairs
    pub records : HasChanged g.tells_reads (working old.store) old.store.draft.pairs
        new.store.draft.pairs

  -- What came of dropping the records that a draft leaves as they were. It is refused for want of
  -- memory, or where the disk failed.
  abbrev pub DropsUnchanged : Drafted → Session D g → Session D g → Result Drafted Answer → Type 0
  DropsUnchanged made old new (Ok also) = (also ≡ made) × KeepsOnlyChanged old new
  DropsUnchanged made old new (Err why) = (why ≡ answers.Fault read_faults.Memory)
      ⊎ ((why ≡ answers.Fault read_faults.Disk)
      × Rose (g.faults old.store.base.disk.now) (g.faults new.store.base.disk.now))

  -- each record of the draft differs from the one beneath it
  pub record HasOnlyChanged (session : Session D g) : Type 0 where
    pub rising : IsOrdered session.store.draft.pairs
    pub changed : g.tells_reads → AreChanged (working session.store) session.store.draft.pairs

  -- So it is of a draft that weighs no more than a change by itself may.
  abbrev pub DraftsChanged : Result Drafted Answer → Session D g → Type 0
  DraftsChanged (Ok made) new = start_weight + made.weight ≤ most_weight → HasOnlyChanged new
  DraftsChanged (Err why) new = Unit {0}

  -- The draft was dropped, and the names cut back to so many. The transaction is as it was.
  pub record Discards (count : ℕ) (old new : Session D g) : Type 0 where
    pub beneath : SameBeneath old.store.base new.store.base
    pub own : new.store.base.own.pairs ≡ old.store.base.own.pairs
    pub in_transaction : new.store.base.in_transaction ≡ old.store.base.in_transaction
    pub draft : new.store.draft.pairs ≡ []
    pub names : new.names.names ≡ take count old.names.names
    pub weight : new.weight ≡ old.weight
    pub health : new.health ≡ old.health
    pub snaps : new.snaps ≡ old.snaps

  -- The draft was dropped, with the names past so many. What is beneath it was only read.
  pub record ReadsBeneath (count : ℕ) (old new : Session D g) : Type 0 where
    pub base : OnlyReadsBase old.store.base new.store.base
    pub names : new.names.names ≡ take count old.names.names
    pub weight : new.weight ≡ old.weight
    pub health : new.health ≡ old.health
    pub snaps : new.snaps ≡ old.snaps

  -- The record breaks a rule in what is beneath the draft. Or it is the one that was met, and the
  -- call of this command told it as it found it, where these are the names. Or all rules hold
  -- there, and it is that of a name that isn't the one in memory, or else the one that was met.
  abbrev pub IsBrokenBeneath : Command → List (List ℕ) → Session D g → Damage → Damage → Type 0
  IsBrokenBeneath command names session met damage =
      BreaksAny (working session.store) session.store.base.shape damage
      ⊎ ((damage ≡ met) × IsToldAsFound command names met)
      ⊎ (MayMeetNames command × IsIndexed (working session.store) session.store.base.shape
      × IsNameOrMet (working session.store) names met damage)

  -- The transaction has the draft.
  pub record KeepsDraft (more : ℕ) (old new : Session D g) : Type 0 where
    pub fits : old.weight + more ≤ most_weight
    pub beneath : SameBeneath old.store.base new.store.base
    pub in_transaction : new.store.base.in_transaction ≡ old.store.base.in_transaction
    pub own : new.store.base.own.pairs ≡ merged old.store.base.own.pairs old.store.draft.pairs
    pub working : working new.store ≡ drafted old.store
    pub draft : new.store.draft.pairs ≡ []
    pub names : new.names.names ≡ old.names.names
    pub weight : new.weight ≡ old.weight + more
    pub health : new.health ≡ old.health
    pub snaps : new.snaps ≡ old.snaps

  -- why the draft is not kept
  abbrev pub IsUnkept : ℕ → Session D g → Answer → Type 0
  IsUnkept weight old answer =
      ((answer ≡ answers.Refused refusals.TransactionFull) × (most_weight < old.weight + weight))
      ⊎ (answer ≡ answers.Fault read_faults.Memory)

  -- what becomes of a draft in an open transaction
  abbrev pub Finishes : Result Drafted Answer → ℕ → Session D g → Session D g → Answer → Type 0
  Finishes (Ok made) count old new answer =
      ((answer ≡ made.answer) × KeepsDraft made.weight old new)
      ⊎ (IsUnkept made.weight old answer × Discards count old new)
  Finishes (Err why) count old new answer = (answer ≡ why) × Discards count old new

  -- No transaction is open any more, over the same store.
  pub record Closes (old new : Session D g) : Type 0 where
    pub same : SameStore old.store.base new.store.base
    pub in_transaction : new.store.base.in_transaction ≡ false
    pub own : new.store.base.own.pairs ≡ []
    pub draft : new.store.draft.pairs ≡ []

  -- These records are committed.
  pub record CommitsRecords (now : Key → Rec) (old new : Session D g) : Type 0 where
    pub closes : Closes old new
    pub health : new.health ≡ old.health
    pub live : IsTrue new.store.base.live
    pub names : new.names.names ≡ old.names.names
    pub committed : g.tells_reads → committed new.store ≡ now
    pub stored : IsOnDisk g new.store.base.disk.now (λ left. Redoes left now)

  -- The disk failed, and has what was committed, or these records.
  pub record DoubtsRecords (now : Key → Rec) (old new : Session D g) : Type 0 where
    pub closes : Closes old new
    pub health : new.health ≡ healths.Failed
    pub failed : new.store.base.live ≡ false
    pub names : new.names.names ≡ old.names.names
    pub stored : IsOnDisk g new.store.base.disk.now
        (λ left. Redoes left (committed old.store) ⊎ Redoes left now)
    pub rose : Rose (g.faults old.store.base.disk.now) (g.faults new.store.base.disk.now)

  -- An old record could not be read: nothing was written, and what was committed is so alone. The
  -- store still serves commits.
  pub record DropsRecords (old new : Session D g) : Type 0 where
    pub closes : Closes old new
    pub health : new.health ≡ healths.Failed
    pub live : IsTrue new.store.base.live
    pub names : new.names.names ≡ old.names.names
    pub disk : OnlyReads g old.store.base.disk.now new.store.base.disk.now
    pub rose : Rose (g.faults old.store.base.disk.now) (g.faults new.store.base.disk.now)

  -- what came of a commit of these records, which was to be answered so
  abbrev pub EndsCommit : (Key → Rec) → Session D g → Session D g → Answer → Answer → Type 0
  EndsCommit now old new made answer =
      ((answer ≡ made) × CommitsRecords now old new)
      ⊎ ((answer ≡ answers.Fault read_faults.Disk)
      × (DropsRecords old new ⊎ DoubtsRecords now old new))

  -- A commit was tried, of a transaction that has written these records. At each moment of it a
  -- crash leaves what was committed, or the records as they are now. Each snapshot that is still
  -- open sees what it saw, and just so many have ended that its old records have room.
  pub record TriesCommit (now : Key → Rec) (written : Pairs) (old new : Session D g)
      (made answer : Answer) : Type 0 where
    pub crash : g.tells_reads → g.tells_images
        → AtEachMoment g old.store.base.disk.now new.store.base.disk.now
        (λ left. Redoes left (committed old.store) ⊎ Redoes left now)
    pub later : g.faults old.store.base.disk.now ≤ g.faults new.store.base.disk.now
    pub writes : now ≡ laid_over (committed old.store) written
    pub sights : KeepsSights g (committed old.store) new.store.base.disk.now old.snaps new.snaps
    pub ended : EndsFor written old.snaps new.snaps
    pub held : (weight : ℕ) → length written ≤ weight → KeepsHeld weight old.snaps new.snaps
    pub ends : EndsCommit now old new made answer

  -- The change was dropped with the names that it brought. Where the disk is blamed, the session
  -- is failed.
  pub record DropsAlone (count : ℕ) (old new : Session D g) (answer : Answer) : Type 0 where
    pub beneath : SameBeneath old.store.base new.store.base
    pub closes : Closes old new
    pub names : new.names.names ≡ take count old.names.names
    pub snaps : new.snaps ≡ old.snaps
    pub failed : answer ≡ answers.Fault read_faults.Disk → new.health ≡ healths.Failed
    pub healthy : ¬ (answer ≡ answers.Fault read_faults.Disk) → new.health ≡ old.health

  -- what becomes of a draft that is a transaction by itself, which may not weigh more than one does
  abbrev pub FinishesAlone : Result Drafted Answer → ℕ → Session D g → Session D g → Answer → Type 0
  FinishesAlone (Ok made) count old new answer =
      ((start_weight + made.weight ≤ most_weight)
      × TriesCommit (drafted old.store)
      (merged old.store.base.own.pairs old.store.draft.pairs) old new made.answer answer)
      ⊎ (IsUnkeptAlone made.weight answer × DropsAlone count old new answer)
  FinishesAlone (Err why) count old new answer = (answer ≡ why) × DropsAlone count old new answer

  -- A transaction was begun for a change by itself.
  pub record BeginsAlone (old new : Session D g) : Type 0 where
    pub closed : old.store.base.in_transaction ≡ false
    pub idle : length old.store.base.own.pairs ≡ 0
    pub opened : IsTrue new.store.base.in_transaction
    pub same : SameBeneath old.store.base new.store.base
    pub own : new.store.base.own.pairs ≡ []
    pub draft : new.store.draft.pairs ≡ []
    pub names : new.names.names ≡ old.names.names
    pub health : new.health ≡ old.health
    pub snaps : new.snaps ≡ old.snaps

  -- a change begins, in the open transaction or by itself
  abbrev pub BeginsChange : Session D g → Session D g → Begun → Type 0
  BeginsChange old new begun =
      (begun.names ≡ length old.names.names)
      × (((begun.alone ≡ false) × (old.store.base.in_transaction ≡ true) × (new ≡ old))
      ⊎ ((begun.alone ≡ true) × BeginsAlone old new))

  -- what becomes of its draft
  abbrev pub EndsChange : Begun → Result Drafted Answer → Session D g → Session D g → Answer
      → Type 0
  EndsChange begun drafted old new answer =
      ((begun.alone ≡ false) × Finishes drafted begun.names old new answer)
      ⊎ ((begun.alone ≡ true) × FinishesAlone drafted begun.names old new answer)
