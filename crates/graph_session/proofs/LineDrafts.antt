-- A draft of a line's changes, by what each call said of it, and why there is none.
use Rattle.std.specs.Prelude.{if◌then◌else◌}
use Rattle.std.proofs.Common.{Bool, true, false, nat_eq, ◌≢◌, ◌≡◌, ◌∙◌, ◌+◌, ◌<◌, ◌≤◌, ℕ, IfErr, IfOk, OnOk, Err, Ok, Option, Result, List, ◌++◌}
use Rattle.std.proofs.Common.{append_assoc, refl, sym, ap, subst, arith}
use Rattle.std.proofs.Math.Nat.{min-eq_left}
use Rattle.std.proofs.lemmas.Bool.{eqb-true}
use Rattle.fault_count.specs.Cause.{Rose}
use Rattle.disk_model.specs.declared.disk.Disk.{Ghosts}
use Rattle.plain_graph.specs.Changes.{Changes, Weighs, most_weight, start_weight}
use Rattle.plain_graph.specs.Graph.{Graph}
use Rattle.plain_graph.specs.LineChanges.{LineChanges, LineWeighs, asked_changes, first_refused, line_reasons, mutated_reply, read_items}
use Rattle.plain_graph.specs.Mutations.{RefusesEach, changes_of}
use Rattle.plain_graph.specs.Refusals.{FirstReason}
use Rattle.plain_graph.specs.Reply.{Reply}
use Rattle.plain_graph.specs.declared.command.Command.{Command}
use Rattle.plain_graph.specs.declared.command.Command.TheVariants as commands
use Rattle.plain_graph.specs.declared.item.Item.{Item}
use Rattle.plain_graph.specs.declared.mutation.Mutation.{Mutation}
use Rattle.plain_graph.specs.declared.query.Query.{Query}
use Rattle.plain_graph.specs.declared.refusal.Refusal.{Refusal}
use Rattle.plain_graph.specs.declared.refusal.Refusal.TheVariants as refusals
use Rattle.plain_graph.proofs.LineLaws.{HasIndexOf, change_first, change_free, mutation_first, mutation_free}
use Rattle.rec_bytes.specs.Format as format
use Rattle.rec_bytes.specs.Space.{SameButReads, State as Space}
use Rattle.rec_bytes.specs.declared.fault.Fault.TheVariants as read_faults
use Rattle.store_rules.specs.Views.{Records}
use Rattle.store_rules.specs.Writes.{WritesAtMost}
use Rattle.txn_core.specs.OnlyReading.{only_reads_base_on}
use Rattle.txn_core.specs.Store as store
use Rattle.change_parts.specs.Change.{IsRefusal, IsRefusedBy, MakesChange, full_of}
use Rattle.change_parts.specs.ChangeFault.{HasChangeCause}
use Rattle.graph_ops.specs.ChangeLeft.{LeavesMutation}
use Rattle.graph_ops.specs.MutateFault.{IsMutateRefusal}
use Rattle.graph_ops.specs.Mutating.{IsListRefusal, MakesMutation, most_told}
use Rattle.graph_ops.specs.NewIds.{GetsFreeIds}
use Rattle.graph_ops.specs.declared.mutate_fault.MutateFault.{MutateFault}
use Rattle.graph_ops.specs.declared.mutate_fault.MutateFault.TheVariants as mutate_faults
use Rattle.change_parts.specs.Store.{IsStore}
use Rattle.change_parts.specs.declared.change_fault.ChangeFault.{ChangeFault}
use Rattle.change_parts.specs.declared.change_fault.ChangeFault.TheVariants as faults
use Rattle.graph_session.specs.Answering.{reply_of}
use Rattle.graph_session.specs.ChangeLeft.{LeavesRecords}
use Rattle.graph_session.specs.Drafting.{Drafts, HasStore, IsStopped, MakesLine, OnlyDrafts, Refuses, answer_for, answer_for_changes, drafted_by}
use Rattle.graph_session.specs.Drafting.{unnamed_damage}
use Rattle.graph_session.specs.MayStep.{TellsMade}
use Rattle.graph_session.specs.declared.answer.Answer.{Answer}
use Rattle.graph_session.specs.declared.answer.Answer.TheVariants as answers
use Rattle.graph_session.specs.declared.session.Session.{Session}
use Rattle.graph_session.proofs.Weights.{Weighs-only}
use Rattle.store_rules.specs.Graph.{graph_in}

-- ---- single changes

change-changes : (limit : ℕ) (old : Graph) (command : Command) (reply : Reply) (new : Graph) → Changes limit old command reply new
    → LineChanges limit old command reply new
change-changes limit old (commands.Mutate reading mutation) reply new changes = absurd changes
change-changes limit old command reply new changes = changes

change-weighs : (limit threshold : ℕ) (graph : Graph) (command : Command) (weight : ℕ) → Weighs threshold graph command weight
    → LineWeighs limit threshold graph command weight
change-weighs limit threshold graph (commands.Mutate reading mutation) weight weighs = absurd weighs
change-weighs limit threshold graph command weight weighs = weighs

change-only : (limit threshold : ℕ) (graph : Graph) (command : Command) (weight : ℕ) → Weighs threshold graph command weight → (other : ℕ)
    → LineWeighs limit threshold graph command other → other ≡ weight
change-only limit threshold graph (commands.Mutate reading mutation) weight weighs other also = absurd weighs
change-only limit threshold graph command weight weighs other also = Weighs-only threshold graph command other weight also weighs

change-unrefused : (limit threshold : ℕ) (graph : Graph) (command : Command) (weight : ℕ) → Weighs threshold graph command weight → (why : Refusal)
    → ¬ first_refused limit graph command why
change-unrefused limit threshold graph (commands.Mutate reading mutation) weight weighs why refused = absurd weighs
change-unrefused limit threshold graph command weight weighs why refused = refused

-- a single change that fits in a transaction is told whole
pub change-made : (command : Command) (reply : Reply) (weight : ℕ) (old new : Space) (names : List (List ℕ)) → MakesChange command reply weight old new names
    → weight + start_weight ≤ most_weight → MakesLine command reply weight old new names
change-made command reply weight old new names made light = record {
  store = made.store;
  changes = change-changes old.shape.limit (graph_in old) command reply (graph_in new) made.changes;
  total = weight;
  weighs = change-weighs old.shape.limit old.shape.threshold (graph_in old) command weight made.weighs;
  only = change-only old.shape.limit old.shape.threshold (graph_in old) command weight made.weighs;
  told = sym (min-eq_left (omega (arith, light)));
  free = change_free old.shape.limit (graph_in old) command (change-unrefused old.shape.limit old.shape.threshold (graph_in old) command weight made.weighs)
      made.free;
}

-- so is its draft
change-drafts : {tells : Type 0} (command : Command) (reply : Reply) {weight : ℕ} {old new : Space} {before after : List (List ℕ)} → TellsMade command reply
    → (tells → IsStore old before → MakesChange command reply weight old new after) → weight + start_weight ≤ most_weight → WritesAtMost weight old new
    → (tells → LeavesRecords command reply old.records new.records after)
    → TellsMade command reply × (tells → IsStore old before → MakesLine command reply weight old new after) × (weight < most_told → WritesAtMost weight old new)
    × (tells → LeavesRecords command reply old.records new.records after)
change-drafts command reply {weight = weight} {old = old} {new = new} {after = after} tells made light writes left =
    (tells, λ told has. change-made command reply weight old new after (made told has) light, λ few. writes, left)

-- one that is refused is a line that is
pub change-refused : (limit : ℕ) (graph : Graph) (command : Command) (fault : ChangeFault) → IsRefusal limit graph command fault
    → IsRefusedBy line_reasons limit graph command fault
change-refused limit graph command (faults.NoNode id) why = change_first limit graph command (refusals.NoNode id) why
change-refused limit graph command (faults.NoEdge id) why = change_first limit graph command (refusals.NoEdge id) why
change-refused limit graph command (faults.HasRelationships id degree) why = change_first limit graph command (refusals.HasRelationships id) why
change-refused limit graph command faults.IndexThere why = change_first limit graph command refusals.IndexThere why
change-refused limit graph command faults.TooManyIndexes why = change_first limit graph command refusals.TooManyIndexes why
change-refused limit graph command (faults.IndexTooLarge count) why = change_first limit graph command (refusals.IndexTooLarge count) why
change-refused limit graph command (faults.Full file live) why = (why.0, change_first limit graph command (full_of file) why.1)
change-refused limit graph command (faults.NamesFull count) why = change_first limit graph command refusals.FullNames why
change-refused limit graph command (faults.PropsFull count) why = change_first limit graph command refusals.TooManyProperties why
change-refused limit graph command faults.Memory why = why
change-refused limit graph command faults.Disk why = why
change-refused limit graph command (faults.Damaged damage) why = why

-- ---- mutating queries, whose reading part is read in a space before the changes are made in it

-- the first of them that is refused is refused so, and no record is damaged
abbrev pub AreRefused : ℕ → Graph → Command → MutateFault → Type 0
AreRefused limit graph command (mutate_faults.Refused fault) = IsRefusedBy line_reasons limit graph command fault
AreRefused limit graph command mutate_faults.Damaged = ⊥

module _ (old mid : Space) (same : SameButReads old mid) where
  pub store-read : {names : List (List ℕ)} → IsStore old names → IsStore mid names
  store-read {names = names} has = subst (λ (space : Space). IsStore space names) (sym same) (record { store = has.store; names = has.names })

  module _ (reading : Option Query) (mutation : Mutation) (there : HasIndexOf (graph_in old) reading) (items : List Item)
      (read : items ≡ read_items (graph_in old) reading) where
    pub mutation-made : (shown : List Item) (weight : ℕ) (new : Space) (names : List (List ℕ)) → MakesMutation mutation items shown weight mid new names
        → MakesLine (commands.Mutate reading mutation) (mutated_reply shown) weight old new names
    mutation-made shown weight new names made =
        let asked =
        subst (λ (found : List Item). MakesMutation mutation found shown weight (record old { reads = mid.reads }) new names) read
        (subst (λ (space : Space). MakesMutation mutation items shown weight space new names) same made) in
        record {
          store = asked.2.store;
          changes = (asked.0, ap mutated_reply asked.1, asked.2.changes);
          total = asked.2.total;
          weighs = asked.2.weighs;
          only = asked.2.only;
          told = asked.2.told;
          free = mutation_free old.shape.limit (graph_in old) reading mutation there asked.2.free;
        }

    mutation-refused : (fault : ChangeFault) → IsListRefusal mid.shape.limit (graph_in mid) (changes_of mutation items) fault
        → IsRefusedBy line_reasons old.shape.limit (graph_in old) (commands.Mutate reading mutation) fault
    mutation-refused fault why =
        by fault
        (subst (λ (found : List Item). IsListRefusal old.shape.limit (graph_in old) (changes_of mutation found) fault) read
        (subst (λ (space : Space). IsListRefusal space.shape.limit (graph_in space) (changes_of mutation items) fault) same why))
      where
        first : (why : Refusal) → RefusesEach old.shape.limit (graph_in old) (asked_changes (graph_in old) reading mutation) why
            → FirstReason line_reasons old.shape.limit (graph_in old) (commands.Mutate reading mutation) why
        first why = mutation_first old.shape.limit (graph_in old) reading mutation why there

        by : (fault : ChangeFault) → IsListRefusal old.shape.limit (graph_in old) (asked_changes (graph_in old) reading mutation) fault
            → IsRefusedBy line_reasons old.shape.limit (graph_in old) (commands.Mutate reading mutation) fault
        by (faults.NoNode id) why = first (refusals.NoNode id) why
        by (faults.NoEdge id) why = first (refusals.NoEdge id) why
        by (faults.HasRelationships id degree) why = first (refusals.HasRelationships id) why
        by faults.IndexThere why = first refusals.IndexThere why
        by faults.TooManyIndexes why = first refusals.TooManyIndexes why
        by (faults.IndexTooLarge count) why = first (refusals.IndexTooLarge count) why
        by (faults.Full file live) why = (why.0, first (full_of file) why.1)
        by (faults.NamesFull count) why = first refusals.FullNames why
        by (faults.PropsFull count) why = first refusals.TooManyProperties why
        by faults.Memory why = why
        by faults.Disk why = why
        by (faults.Damaged damage) why = why

    -- so is the whole list
    pub changes-refused : (fault : MutateFault) → IsMutateRefusal mid.shape.limit (graph_in mid) (changes_of mutation items) fault
        → AreRefused old.shape.limit (graph_in old) (commands.Mutate reading mutation) fault
    changes-refused (mutate_faults.Refused fault) why = mutation-refused fault why
    changes-refused mutate_faults.Damaged why = why

  -- the identifiers are those that were free before
  pub ids-read : (mutation : Mutation) (made : List Item) → GetsFreeIds mutation made mid.records → GetsFreeIds mutation made old.records
  ids-read mutation made ids = subst (λ (space : Space). GetsFreeIds mutation made space.records) same ids

  -- the changes began with the records that were read
  pub leaves-read : (mutation : Mutation) (items made : List Item) (new : Records) (names : List (List ℕ))
      → LeavesMutation mutation items made mid.records new names → LeavesMutation mutation items made old.records new names
  leaves-read mutation items made new names leaves = subst (λ (space : Space). LeavesMutation mutation items made space.records new names) same leaves

  pub writes-read : {weight : ℕ} {new : Space} → WritesAtMost weight mid new → WritesAtMost weight old new
  writes-read {weight = weight} {new = new} writes =
      let there = subst (λ (space : Space). WritesAtMost weight space new) same writes in
      record { keys = there.keys; few = there.few; own = there.own; only = record { each = there.only.each } }

-- ---- one after the other

module _ {D : Type 0} {g : Ghosts D} {old mid new : Session D g} where
  pub drafts-on : OnlyDrafts old mid → OnlyDrafts mid new → OnlyDrafts old new
  drafts-on first more = record {
    base = only_reads_base_on first.base more.base;
    weight = more.weight ∙ first.weight;
    health = more.health ∙ first.health;
    snaps = more.snaps ∙ first.snaps;
    brought = (
      first.brought.0 ++ more.brought.0,
      more.brought.1 ∙ ap (λ (known : List (List ℕ)). known ++ more.brought.0) first.brought.1 ∙ append_assoc old.names.names first.brought.0 more.brought.0,
    );
    later = let early = first.later in let late = more.later in omega (arith, early, late);
  }

module _ {D : Type 0} {g : Ghosts D} (old mid : Session D g) (same : SameButReads (store.state_of old.store) (store.state_of mid.store))
    (names : mid.names.names ≡ old.names.names) where
  -- the store that was read
  pub has-read : HasStore old → HasStore mid
  has-read has = subst (λ (known : List (List ℕ)). IsStore (store.state_of mid.store) known) (sym names)
      (store-read (store.state_of old.store) (store.state_of mid.store) same has)

-- ---- why no change was drafted

module _ {D : Type 0} {g : Ghosts D} (command : Command) (old : Session D g) (now : D) where
  -- a store has room for the groups that an edge needs
  full-stopped : (file : ℕ) (b : Bool) → nat_eq file format.groups_file ≡ b
      → (g.tells_reads → HasStore old → (file ≢ format.groups_file) × Refuses command (store.state_of old.store) (full_of file))
      → IsStopped command old now (if b then answers.Fault (read_faults.Damaged unnamed_damage) else answers.Refused (full_of file))
  full-stopped file true groups why = λ told has. absurd ((why told has).0 (eqb-true file format.groups_file groups))
  full-stopped file false other why = λ told has. (why told has).1

  -- by the fault of a call that changes
  pub change-stopped : (fault : ChangeFault)
      → (g.tells_reads → HasStore old → IsRefusedBy line_reasons (store.state_of old.store).shape.limit (graph_in (store.state_of old.store)) command fault)
      → (fault ≡ faults.Disk → Rose (g.faults old.store.base.disk.now) (g.faults now)) → (answer : Answer) → answer ≡ answer_for fault
      → IsStopped command old now answer
  change-stopped fault why rose answer is = subst (λ (a : Answer). IsStopped command old now a) (sym is) (by fault why rose)
    where
      by : (fault : ChangeFault) → (g.tells_reads → HasStore old → IsRefusedBy line_reasons (store.state_of old.store).shape.limit
          (graph_in (store.state_of old.store)) command fault)
          → (fault ≡ faults.Disk → Rose (g.faults old.store.base.disk.now) (g.faults now)) → IsStopped command old now (answer_for fault)
      by (faults.NoNode id) why rose = why
      by (faults.NoEdge id) why rose = why
      by (faults.HasRelationships id degree) why rose = why
      by faults.IndexThere why rose = why
      by faults.TooManyIndexes why rose = why
      by (faults.IndexTooLarge count) why rose = why
      by (faults.Full file live) why rose = full-stopped file (nat_eq file format.groups_file) refl why
      by (faults.NamesFull count) why rose = why
      by (faults.PropsFull count) why rose = why
      by faults.Memory why rose = tt
      by faults.Disk why rose = rose refl
      by (faults.Damaged damage) why rose = why

module _ {D : Type 0} {g : Ghosts D} (command : Command) (old : Session D g) (now : D) where
  -- by the fault of a list of changes
  pub changes-stopped : (fault : MutateFault)
      → (g.tells_reads → HasStore old → AreRefused (store.state_of old.store).shape.limit (graph_in (store.state_of old.store)) command fault)
      → (fault ≡ mutate_faults.Refused faults.Disk → Rose (g.faults old.store.base.disk.now) (g.faults now)) → (answer : Answer)
      → answer ≡ answer_for_changes fault → IsStopped command old now answer
  changes-stopped (mutate_faults.Refused fault) why rose answer is =
      change-stopped command old now fault why (λ e. rose (ap mutate_faults.Refused e)) answer is
  changes-stopped mutate_faults.Damaged why rose answer is = subst (λ (a : Answer). IsStopped command old now a) (sym is) why

-- ---- a call that makes a single change

module _ {D : Type 0} {g : Ghosts D} {T : Type 0} (answer : T → Answer) (weight : T → ℕ) (command : Command)
    (tells : (made : T) → TellsMade command (reply_of (answer made))) {old new : Session D g} (only : OnlyDrafts old new) where
  -- what it says, as a draft
  pub drafts-call : (outcome : Result T ChangeFault)
      → (g.tells_reads → IfOk outcome (λ made. HasStore old → MakesChange command (reply_of (answer made)) (weight made) (store.state_of old.store)
      (store.state_of new.store) new.names.names))
      → IfOk outcome (λ made. weight made + start_weight ≤ most_weight)
      → IfOk outcome (λ made. WritesAtMost (weight made) (store.state_of old.store) (store.state_of new.store))
      → (g.tells_reads → HasStore old → IfErr outcome (IsRefusal (store.state_of old.store).shape.limit (graph_in (store.state_of old.store)) command))
      → ((made : T) → outcome ≡ Ok made → g.tells_reads → LeavesRecords command (reply_of (answer made)) (store.drafted old.store)
      (store.drafted new.store) new.names.names)
      → HasChangeCause (g.faults old.store.base.disk.now) (g.faults new.store.base.disk.now) outcome → Drafts command old new (drafted_by answer weight outcome)
  drafts-call (Ok made) makes light writes refused left cause = change-drafts command (reply_of (answer made)) (tells made) (λ told has. makes told has)
      light writes
      (left made refl)
  drafts-call (Err fault) makes light writes refused left cause =
      let limit = (store.state_of old.store).shape.limit in
      change-stopped command old new.store.base.disk.now fault
      (λ told has. change-refused limit (graph_in (store.state_of old.store)) command fault (refused told has))
      (λ is. cause.disk (ap Err is)) (answer_for fault) refl

-- what holds of all that is made
pub ok-has : {T E : Type 0} (P : T → Type 0) (outcome : Result T E) → IfOk outcome P → (made : T) → outcome ≡ Ok made → P made
ok-has {T = T} {E = E} P outcome has made is = subst (λ (r : Result T E). IfOk r P) is has

-- what one that is made leaves
pub change-left : (after : Type 0) (outcome : Result ℕ ChangeFault) → OnOk outcome after → (made : ℕ) → outcome ≡ Ok made → after
change-left after (Ok weight) left made is = left
change-left after (Err fault) left made is = let clash : Err fault ≡ Ok made = is in cc

-- what one that deletes had before it, and leaves
pub deletion-left : (before after : Type 0) (outcome : Result ℕ ChangeFault) → OnOk outcome before → OnOk outcome after → (made : ℕ) → outcome ≡ Ok made
    → before × after
deletion-left before after (Ok weight) was left made is = (was, left)
deletion-left before after (Err fault) was left made is = let clash : Err fault ≡ Ok made = is in cc
