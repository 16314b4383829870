use Rattle.std.proofs.Common.{◌≢◌, ℕ, None, [], refl, sym}
use Rattle.std.proofs.lemmas.List.{append-nil}
use Rattle.plain_graph.specs.declared.command.Command.TheVariants as commands
use Rattle.plain_graph.specs.declared.command.Target.TheVariants as targets
use Rattle.rel_store.specs.Loading as rels
use Rattle.txn_core.specs.Store.{drafted, state_of}
use Rattle.change_parts.specs.Degrees.{HasDegree}
use Rattle.edge_changes.specs.EdgeDeleting.{IsUnusedEdge}
use Rattle.node_changes.specs.NodeDeleting.{IsDeleteCause, IsUnused}
use Rattle.graph_session.specs.declared.answer.Answer.TheVariants as answers
use Rattle.graph_session.proofs.FoundDamage.{deletion-aside, found-all, found-call}
use Rattle.graph_session.proofs.LineDrafts.{deletion-left, drafts-call}
use Rattle.graph_session.proofs.session.Session.draft_deletion.Goals as goal

pub returns-in-Node-clause-only : goal.returns-in-Node-clause-only
returns-in-Node-clause-only g c =
    let met = c.delete_node.ensures in
    record {
      base = met.onward;
      weight = refl;
      health = refl;
      snaps = refl;
      brought = ([], sym (append-nil c.args.self.now.names.names));
      later =
          met.cause.later;
    }

pub returns-in-Node-clause-drafts : goal.returns-in-Node-clause-drafts
returns-in-Node-clause-drafts g c =
    let met = c.delete_node.ensures in
    rw (c.in-Node.is, c.drafted_done.ensures)
    (drafts-call (λ (weight : ℕ). answers.Done) (λ (weight : ℕ). weight) (commands.Delete (targets.Node c.in-Node.id)) (λ weight. refl)
    (returns-in-Node-clause-only g c) c.delete_node.result (λ told. met.made told) met.light met.writes
    (λ told has. met.refused told has)
    (λ made is told. deletion-left (HasDegree (drafted c.args.self.now.store) c.in-Node.id 0) (IsUnused (drafted c.delete_node.new.space) c.in-Node.id)
    c.delete_node.result (met.lone told) (met.gone told) made is) met.cause)

pub returns-in-Edge-clause-only : goal.returns-in-Edge-clause-only
returns-in-Edge-clause-only g c =
    let met = c.delete_edge.ensures in
    record {
      base = met.onward;
      weight = refl;
      health = refl;
      snaps = refl;
      brought = ([], sym (append-nil c.args.self.now.names.names));
      later =
          met.cause.later;
    }

pub returns-in-Edge-clause-drafts : goal.returns-in-Edge-clause-drafts
returns-in-Edge-clause-drafts g c =
    let met = c.delete_edge.ensures in
    rw (c.in-Edge.is, c.drafted_done-in-Edge.ensures)
    (drafts-call (λ (weight : ℕ). answers.Done) (λ (weight : ℕ). weight) (commands.Delete (targets.Edge c.in-Edge.id)) (λ weight. refl)
    (returns-in-Edge-clause-only g c) c.delete_edge.result (λ told. met.made told) met.light met.writes
    (λ told has. met.refused told has)
    (λ made is told. deletion-left (rels.row_at (drafted c.args.self.now.store) c.in-Edge.id ≢ None)
    (IsUnusedEdge (drafted c.delete_edge.new.space) c.in-Edge.id) c.delete_edge.result (met.there told) (met.gone told) made is) met.cause)

pub returns-in-Node-clause-found : goal.returns-in-Node-clause-found
returns-in-Node-clause-found g c =
    let s = state_of c.args.self.now.store in
    let t = state_of c.delete_node.new.space in
    rw (c.in-Node.is, c.drafted_done.ensures)
    (found-call (commands.Delete (targets.Node c.in-Node.id)) c.args.self.now tt (λ (weight : ℕ). answers.Done) (λ (weight : ℕ). weight)
    (IsDeleteCause s t c.in-Node.id) c.delete_node.result (λ told. c.delete_node.ensures.found told)
    (λ fault at_once. deletion-aside s t c.in-Node.id fault) s t c.args.self.now.names.names c.args.self.now.names.names
    (λ told. c.delete_node.ensures.caused told))

pub returns-in-Edge-clause-found : goal.returns-in-Edge-clause-found
returns-in-Edge-clause-found g c =
    rw (c.in-Edge.is, c.drafted_done-in-Edge.ensures)
    (found-all (commands.Delete (targets.Edge c.in-Edge.id)) c.args.self.now (λ (weight : ℕ). answers.Done) (λ (weight : ℕ). weight)
    c.delete_edge.result (λ told. c.delete_edge.ensures.damaged told) tt
    (state_of c.args.self.now.store) (state_of c.delete_edge.new.space) c.args.self.now.names.names c.args.self.now.names.names
    (λ told. c.delete_edge.ensures.caused told))
