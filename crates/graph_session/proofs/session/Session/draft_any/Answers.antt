use Rattle.std.proofs.Common.{◌≡◌, ℕ, [], ap, refl, subst, sym}
use Rattle.std.proofs.lemmas.List.{append-nil}
use Rattle.plain_graph.specs.declared.command.Command.TheVariants as commands
use Rattle.plain_graph.specs.Reply.{EdgeMade, NodeMade}
use Rattle.rec_bytes.specs.Format as format
use Rattle.rec_bytes.specs.Space.{meta_in}
use Rattle.id_freelist.specs.Taking.{taken_id}
use Rattle.name_store.specs.Interning.{interned}
use Rattle.change_parts.specs.Damage.{BlamesEntries, BlamesGiven}
use Rattle.change_parts.specs.declared.added.Added.{Added}
use Rattle.change_parts.specs.Causes.{HasDefinition}
use Rattle.txn_core.specs.Store.{drafted, state_of}
use Rattle.edge_changes.specs.EdgePlacing.{IsEdgeLabelled}
use Rattle.node_changes.specs.NodeAdding.{IsNodeLabelled}
use Rattle.node_changes.specs.PropertySetting.{GivesKey, LosesKey}
use Rattle.graph_session.specs.declared.answer.Answer.TheVariants as answers
use Rattle.graph_session.proofs.FoundDamage.{entries-aside, found-call, found-none, given-aside}
use Rattle.graph_session.proofs.LineDrafts.{change-left, drafts-call, ok-has}
use Rattle.graph_session.proofs.session.Session.draft_any.Goals as goal

pub returns-in-Node-clause-only : goal.returns-in-Node-clause-only
returns-in-Node-clause-only g c =
    let met = c.add_node.ensures in
    record { base = met.onward; weight = refl; health = refl; snaps = refl; brought = met.prefix; later = met.cause.later }

pub returns-in-Node-clause-drafts : goal.returns-in-Node-clause-drafts
returns-in-Node-clause-drafts g c =
    let met = c.add_node.ensures in
    rw (c.in-Node.is, c.drafted_node.ensures)
    (drafts-call (λ (added : Added). answers.NodeMade added.id) (λ (added : Added). added.weight) (commands.Node c.in-Node.label.now c.in-Node.pairs.now)
    (λ added. (added.id, refl)) (returns-in-Node-clause-only g c) c.add_node.result (λ told. met.made told) met.light met.writes
    (λ told has. met.refused told has)
    (λ made is told.
    let id_is : made.id ≡ taken_id (meta_in (drafted c.args.self.now.store) format.nodes_file)
    = ok-has (λ (added : Added). added.id ≡ taken_id (meta_in (drafted c.args.self.now.store) format.nodes_file))
    c.add_node.result (met.taken told) made is in
    let stands = ok-has (λ (added : Added). IsNodeLabelled (drafted c.add_node.new.space) c.add_node.new.names.names added.id c.in-Node.label.now)
    c.add_node.result (met.stands told) made is in
    (ap NodeMade id_is, subst (λ id. IsNodeLabelled (drafted c.add_node.new.space) c.add_node.new.names.names id c.in-Node.label.now) id_is stands)) met.cause)

pub returns-in-Edge-clause-only : goal.returns-in-Edge-clause-only
returns-in-Edge-clause-only g c =
    let met = c.add_edge.ensures in
    record { base = met.onward; weight = refl; health = refl; snaps = refl; brought = met.prefix; later = met.cause.later }

pub returns-in-Edge-clause-drafts : goal.returns-in-Edge-clause-drafts
returns-in-Edge-clause-drafts g c =
    let met = c.add_edge.ensures in
    rw (c.in-Edge.is, c.drafted_edge.ensures)
    (drafts-call (λ (added : Added). answers.EdgeMade added.id) (λ (added : Added). added.weight) (commands.Edge c.in-Edge.from c.in-Edge.label.now c.in-Edge.to
    c.in-Edge.pairs.now) (λ added. (added.id, refl)) (returns-in-Edge-clause-only g c) c.add_edge.result (λ told. met.made told) met.light met.writes
    (λ told has. met.refused told has)
    (λ made is told.
    let id_is : made.id ≡ taken_id (meta_in (drafted c.args.self.now.store) format.relationships_file)
    = ok-has (λ (added : Added). added.id ≡ taken_id (meta_in (drafted c.args.self.now.store) format.relationships_file))
    c.add_edge.result (met.taken told) made is in
    let stands = ok-has (λ (added : Added). IsEdgeLabelled (drafted c.add_edge.new.space) c.add_edge.new.names.names added.id c.in-Edge.from
    c.in-Edge.label.now c.in-Edge.to) c.add_edge.result (met.stands told) made is in (
      ap EdgeMade id_is,
      subst (λ id. IsEdgeLabelled (drafted c.add_edge.new.space) c.add_edge.new.names.names id c.in-Edge.from c.in-Edge.label.now
          c.in-Edge.to) id_is stands,
    )) met.cause)

pub returns-in-Set-clause-only : goal.returns-in-Set-clause-only
returns-in-Set-clause-only g c =
    let met = c.set.ensures in
    record { base = met.onward; weight = refl; health = refl; snaps = refl; brought = met.prefix; later = met.cause.later }

pub returns-in-Set-clause-drafts : goal.returns-in-Set-clause-drafts
returns-in-Set-clause-drafts g c =
    let met = c.set.ensures in
    rw (c.in-Set.is, c.drafted_done.ensures)
    (drafts-call (λ (weight : ℕ). answers.Done) (λ (weight : ℕ). weight) (commands.Set c.in-Set.target c.in-Set.key.now c.in-Set.value.now) (λ weight. refl)
    (returns-in-Set-clause-only g c) c.set.result (λ told. met.made told) met.light met.writes
    (λ told has. met.refused told has)
    (λ made is told. change-left (GivesKey (drafted c.set.new.space) c.set.new.names.names c.in-Set.target c.in-Set.key.now c.in-Set.value.now) c.set.result
    (met.gives told) made is) met.cause)

pub returns-in-Unset-clause-only : goal.returns-in-Unset-clause-only
returns-in-Unset-clause-only g c =
    let met = c.unset.ensures in
    record {
      base = met.onward;
      weight = refl;
      health = refl;
      snaps = refl;
      brought = ([], sym (append-nil c.args.self.now.names.names));
      later =
          met.cause.later;
    }

pub returns-in-Unset-clause-drafts : goal.returns-in-Unset-clause-drafts
returns-in-Unset-clause-drafts g c =
    let met = c.unset.ensures in
    rw (c.in-Unset.is, c.drafted_done-in-Unset.ensures)
    (drafts-call (λ (weight : ℕ). answers.Done) (λ (weight : ℕ). weight) (commands.Unset c.in-Unset.target c.in-Unset.key.now) (λ weight. refl)
    (returns-in-Unset-clause-only g c) c.unset.result (λ told. met.made told) met.light met.writes
    (λ told has. met.refused told has)
    (λ made is told.
    change-left (LosesKey (drafted c.args.self.now.store) (drafted c.unset.new.space) c.args.self.now.names.names c.in-Unset.target c.in-Unset.key.now)
    c.unset.result (met.gone told) made is) met.cause)

pub returns-in-Delete-clause-only : goal.returns-in-Delete-clause-only
returns-in-Delete-clause-only g c = c.draft_deletion.ensures.only

pub returns-in-Delete-clause-drafts : goal.returns-in-Delete-clause-drafts
returns-in-Delete-clause-drafts g c = rw c.in-Delete.is c.draft_deletion.ensures.drafts

pub returns-in-Index-clause-only : goal.returns-in-Index-clause-only
returns-in-Index-clause-only g c =
    let met = c.index.ensures in
    record { base = met.onward; weight = refl; health = refl; snaps = refl; brought = met.prefix; later = met.cause.later }

pub returns-in-Index-clause-drafts : goal.returns-in-Index-clause-drafts
returns-in-Index-clause-drafts g c =
    let met = c.index.ensures in
    rw (c.in-Index.is, c.drafted_done-in-Index.ensures)
    (drafts-call (λ (weight : ℕ). answers.Done) (λ (weight : ℕ). weight) (commands.Index c.in-Index.label.now c.in-Index.key.now) (λ weight. refl)
    (returns-in-Index-clause-only g c) c.index.result (λ told. met.made told) met.light met.writes
    (λ told has. met.refused told has)
    (λ made is told. change-left (HasDefinition (drafted c.index.new.space) c.index.new.names.names c.in-Index.label.now c.in-Index.key.now) c.index.result
    (met.stands told) made is) met.cause)

pub returns-in-Mutate-clause-only : goal.returns-in-Mutate-clause-only
returns-in-Mutate-clause-only g c = c.draft_mutation.ensures.only

pub returns-in-Mutate-clause-drafts : goal.returns-in-Mutate-clause-drafts
returns-in-Mutate-clause-drafts g c = rw c.in-Mutate.is c.draft_mutation.ensures.drafts

pub returns-in-Node-clause-found : goal.returns-in-Node-clause-found
returns-in-Node-clause-found g c =
    let s = state_of c.args.self.now.store in
    let t = state_of c.add_node.new.space in
    rw (c.in-Node.is, c.drafted_node.ensures)
    (found-call (commands.Node c.in-Node.label.now c.in-Node.pairs.now) c.args.self.now tt (λ (added : Added). answers.NodeMade added.id)
    (λ (added : Added). added.weight) (BlamesEntries s t) c.add_node.result (λ told. c.add_node.ensures.damaged told)
    (λ fault at_once. entries-aside s t fault) s t c.args.self.now.names.names c.add_node.new.names.names (λ told. c.add_node.ensures.caused told))

pub returns-in-Edge-clause-found : goal.returns-in-Edge-clause-found
returns-in-Edge-clause-found g c =
    rw c.in-Edge.is (found-none (commands.Edge c.in-Edge.from c.in-Edge.label.now c.in-Edge.to c.in-Edge.pairs.now) c.args.self.now tt (λ none. none)
    c.drafted_edge.result)

pub returns-in-Set-clause-found : goal.returns-in-Set-clause-found
returns-in-Set-clause-found g c =
    let old = c.args.self.now in
    let s = state_of old.store in
    let t = state_of c.set.new.space in
    rw (c.in-Set.is, c.drafted_done.ensures)
    (found-call (commands.Set c.in-Set.target c.in-Set.key.now c.in-Set.value.now) old tt (λ (weight : ℕ). answers.Done) (λ (weight : ℕ). weight)
    (BlamesGiven s (interned s old.names.names c.in-Set.key.now) t) c.set.result (λ told. c.set.ensures.damaged told)
    (λ fault known. given-aside s t old.names.names c.in-Set.key.now known fault) s t _ _ (λ told. c.set.ensures.caused told))

pub returns-in-Unset-clause-found : goal.returns-in-Unset-clause-found
returns-in-Unset-clause-found g c =
    let s = state_of c.args.self.now.store in
    let t = state_of c.unset.new.space in
    rw (c.in-Unset.is, c.drafted_done-in-Unset.ensures)
    (found-call (commands.Unset c.in-Unset.target c.in-Unset.key.now) c.args.self.now tt (λ (weight : ℕ). answers.Done) (λ (weight : ℕ). weight)
    (BlamesEntries s t) c.unset.result (λ told. c.unset.ensures.damaged told) (λ fault at_once. entries-aside s t fault)
    s t c.args.self.now.names.names c.args.self.now.names.names (λ told. c.unset.ensures.caused told))

pub returns-in-Delete-clause-found : goal.returns-in-Delete-clause-found
returns-in-Delete-clause-found g c = rw c.in-Delete.is c.draft_deletion.ensures.found

pub returns-in-Index-clause-found : goal.returns-in-Index-clause-found
returns-in-Index-clause-found g c =
    rw c.in-Index.is (found-none (commands.Index c.in-Index.label.now c.in-Index.key.now) c.args.self.now tt (λ none. none) c.drafted_done-in-Index.result)

pub returns-in-Mutate-clause-found : goal.returns-in-Mutate-clause-found
returns-in-Mutate-clause-found g c =
    rw c.in-Mutate.is (found-none (commands.Mutate c.in-Mutate.reading.now c.in-Mutate.mutation.now) c.args.self.now tt (λ none. none) c.draft_mutation.result)
