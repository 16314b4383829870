use Rattle.std.proofs.Common.{◌≡◌, ◌∙◌, Err, Option, [], ap, refl, subst, sym}
use Rattle.std.proofs.lemmas.List.{append-nil}
use Rattle.plain_graph.specs.Lines.{index_of_reading}
use Rattle.plain_graph.specs.Refusals.{lacks_index}
use Rattle.plain_graph.specs.declared.command.Command.TheVariants as commands
use Rattle.plain_graph.specs.declared.query.Query.{Query}
use Rattle.plain_graph.specs.declared.refusal.Refusal.TheVariants as refusals
use Rattle.plain_graph.proofs.LineLaws.{HasIndexOf, mutation_unindexed}
use Rattle.prop_index.specs.Looking.{BlamesBroken}
use Rattle.prop_index.specs.declared.lookup_fault.LookupFault.{LookupFault}
use Rattle.prop_index.specs.declared.lookup_fault.LookupFault.TheVariants as faults
use Rattle.rec_bytes.specs.declared.damage.Damage.{Damage}
use Rattle.store_rules.specs.Graph.{graph_in, names_of}
use Rattle.store_rules.proofs.Breaches.{none_at_all}
use Rattle.change_parts.specs.Store.{IsStore}
use Rattle.traversal_run.specs.FoundNodes.{IsSourceRefusal}
use Rattle.traversal_run.specs.Reading.{IsNamedStore}
use Rattle.rec_bytes.specs.Space.{State}
use Rattle.txn_core.specs.Store.{state_of}
use Rattle.rec_bytes.specs.declared.fault.Fault.TheVariants as read_faults
use Rattle.graph_session.specs.Drafting.{IsStopped}
use Rattle.graph_session.specs.IndexResults.{answer_for}
use Rattle.graph_session.specs.declared.answer.Answer.{Answer}
use Rattle.graph_session.specs.declared.answer.Answer.TheVariants as answers
use Rattle.graph_session.proofs.session.Session.read_items.Goals as goal

-- the names in memory are those of the store
named : (s : State) (names : _) → IsStore s names → IsNamedStore s.records s.shape names
named s names has = record { store = has.store.store; indexes = has.store.indexes; more = []; named = has.names ∙ sym (append-nil (names_of s.records)) }

pub returns-in-Ok-clause-items : goal.returns-in-Ok-clause-items
returns-in-Ok-clause-items g c = λ told has. rw c.in-Some.is (c.in-Ok.ensures.items told (named (state_of c.args.self.now.store) c.args.self.now.names.names
    has))

pub returns-in-None-clause-there : goal.returns-in-None-clause-there
returns-in-None-clause-there g c = λ told has.
    subst (λ (reading : Option Query). HasIndexOf (graph_in (state_of c.args.self.now.store)) reading) (sym c.in-None.is) (λ why lacks. lacks)

pub returns-in-Ok-clause-there : goal.returns-in-Ok-clause-there
returns-in-Ok-clause-there g c = λ told has.
    subst (λ (reading : Option Query). HasIndexOf (graph_in (state_of c.args.self.now.store)) reading) (sym c.in-Some.is)
    (c.in-Ok.ensures.there told (named (state_of c.args.self.now.store) c.args.self.now.names.names has))

-- the answer of a reading part that was not read to its end
stops : (P : Answer → Type 0) (fault : LookupFault) → (fault ≡ faults.NoIndex → P (answers.Refused refusals.NoIndex))
    → P (answers.Fault read_faults.Memory) → (fault ≡ faults.Disk → P (answers.Fault read_faults.Disk))
    → ((damage : Damage) → fault ≡ faults.Damaged damage → P (answers.Fault (read_faults.Damaged damage))) → P (answer_for fault)
stops P faults.NoIndex refused memory disk damaged = refused refl
stops P faults.Memory refused memory disk damaged = memory
stops P faults.Disk refused memory disk damaged = disk refl
stops P (faults.Damaged damage) refused memory disk damaged = damaged damage refl

pub returns-in-Err-clause-stopped : goal.returns-in-Err-clause-stopped
returns-in-Err-clause-stopped g c = λ mutation.
    let old = c.args.self.now in
    let s = state_of old.store in
    let reading = c.args.reading.now in
    let met = c.in-Err.ensures in
    subst (IsStopped (commands.Mutate reading mutation) old c.items_of.new.space.base.disk.now) (sym c.from.ensures)
    (stops (IsStopped (commands.Mutate reading mutation) old c.items_of.new.space.base.disk.now) c.in-Err.fault
    (λ is told has.
    let lacks = subst (IsSourceRefusal (graph_in s) c.in-Some.query.source) is (met.refused told (named s old.names.names has)) in
    mutation_unindexed s.shape.limit (graph_in s) reading mutation refusals.NoIndex
    (subst (λ (r : Option Query). lacks_index (index_of_reading r) (graph_in s) refusals.NoIndex) (sym c.in-Some.is) lacks))
    tt (λ disk. met.cause.disk (ap Err disk))
    (λ damage is told has.
    none_at_all s.records s.shape (record { store = has.store.store; indexes = has.store.indexes }) damage
    (subst (BlamesBroken s.records s.shape) is (met.damaged told))))
