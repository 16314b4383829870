use Rattle.std.proofs.Common.{ℕ, arith, sym, ◌∙◌, None, Some, subst}
use Rattle.plain_graph.specs.declared.item.Item.{Item}
use Rattle.traversal_run.specs.Elements.{IsOwnerOf, IsRowOf, owned_edge, owner_reads}
use Rattle.std.proofs.lemmas.Result.{err_from_is_err_and}
use Rattle.traversal_run.proofs.Broken.{node_blamed, rel_blamed}
use Rattle.traversal_run.proofs.Loaded.{edge_owned, edge_unowned, node_owned, node_owner, node_unowned}
use Rattle.traversal_run.proofs.Causes.{row_cause_passed}
use Rattle.rec_bytes.specs.Format.{relationships_file}
use Rattle.prop_store.specs.Reading.{ReadsAtMost}
use Rattle.prop_store.proofs.ReadCounts.{reads_none}
use Rattle.traversal_run.specs.declared.elements.Owned.{Owned}
use Rattle.traversal_run.proofs.NodeReads.{edge_reads, load_reads}
use Rattle.rec_bytes.proofs.Causes.{never_ok, ok_cause}
use Rattle.traversal_run.proofs.elements.owner_of.Goals as goal

pub returns-in-None-clause-found : goal.returns-in-None-clause-found
returns-in-None-clause-found g c = λ tells.
    let s = g.R.Reads.state c.args.space.now in
    subst (λ (item : Item). IsOwnerOf s item None) (sym c.in-Vertex.is)
    (node_unowned s c.in-Vertex.id (sym c.in-None.is ∙ c.in_ok-row-in-Vertex.ensures.found tells))

pub returns-in-None-2-clause-found : goal.returns-in-None-2-clause-found
returns-in-None-2-clause-found g c = λ tells.
    let s = g.R.Reads.state c.args.space.now in
    subst (λ (item : Item). IsOwnerOf s item None) (sym c.in-Edge.is) (edge_unowned s c.in-Edge.id c.in-Edge.label c.in-Edge.from c.in-Edge.to
    (sym c.in-None-2.is ∙ c.in_ok-row-in-Edge.ensures.found tells))

pub returns-in-Some-clause-found : goal.returns-in-Some-clause-found
returns-in-Some-clause-found g c = λ tells.
    let s = g.R.Reads.state c.args.space.now in
    subst (λ (item : Item). IsOwnerOf s item (Some (node_owner c.in-Vertex.id c.in-Some.row))) (sym c.in-Vertex.is)
    (node_owned s c.in-Vertex.id c.in-Some.row (sym c.in-Some.is ∙ c.in_ok-row-in-Vertex.ensures.found tells))

pub returns-in-Some-2-clause-found : goal.returns-in-Some-2-clause-found
returns-in-Some-2-clause-found g c = λ tells.
    let s = g.R.Reads.state c.args.space.now in
    subst (λ (owned : Owned). IsOwnerOf s c.args.item.now (Some owned)) (sym c.edge_owner.ensures.is)
    (subst (λ (item : Item). IsOwnerOf s item (Some (owned_edge c.in-Edge.id c.in-Some-2.row))) (sym c.in-Edge.is) (edge_owned s c.in-Edge.id c.in-Edge.label
    c.in-Edge.from c.in-Edge.to c.in-Some-2.row (sym c.in-Some-2.is ∙ c.in_ok-row-in-Edge.ensures.found tells)))

pub returns-in_err-row-in-Vertex-clause-damaged : goal.returns-in_err-row-in-Vertex-clause-damaged
returns-in_err-row-in-Vertex-clause-damaged g c = λ tells.
    let s = g.R.Reads.state c.args.space.now in
    let p = err_from_is_err_and c.from_residual.result c.from_residual.ensures.1 in
    rw (p.1, p.2) (node_blamed s c.in-Vertex.id c.in_err-row-in-Vertex.field-0.0 (c.in_err-row-in-Vertex.ensures.damaged tells))

pub returns-in_err-row-in-Edge-clause-damaged : goal.returns-in_err-row-in-Edge-clause-damaged
returns-in_err-row-in-Edge-clause-damaged g c = λ tells.
    let s = g.R.Reads.state c.args.space.now in
    let p = err_from_is_err_and c.from_residual-in_err-row-in-Edge.result c.from_residual-in_err-row-in-Edge.ensures.1 in
    rw (p.1, p.2) (rel_blamed s c.in-Edge.id c.in_err-row-in-Edge.field-0.0 (c.in_err-row-in-Edge.ensures.damaged tells))

pub returns-in_err-row-in-Vertex-clause-cause : goal.returns-in_err-row-in-Vertex-clause-cause
returns-in_err-row-in-Vertex-clause-cause g c =
    row_cause_passed _ _ _ c.from_residual.result c.in_err-row-in-Vertex.field-0.0 (omega arith) c.in_err-row-in-Vertex.ensures.cause c.from_residual.ensures.1

pub returns-in_err-row-in-Edge-clause-cause : goal.returns-in_err-row-in-Edge-clause-cause
returns-in_err-row-in-Edge-clause-cause g c =
    row_cause_passed _ _ _ c.from_residual-in_err-row-in-Edge.result c.in_err-row-in-Edge.field-0.0 (omega arith) c.in_err-row-in-Edge.ensures.cause
    c.from_residual-in_err-row-in-Edge.ensures.1

pub returns-in_err-row-in-Edge-clause-reads : goal.returns-in_err-row-in-Edge-clause-reads
returns-in_err-row-in-Edge-clause-reads g c =
    let s = g.R.Reads.state c.args.space.now in
    let t = g.R.Reads.state c.load.new.space in
    let e = c.in-Edge in
    let one = edge_reads g.R.Reads.tells s.records e.id e.label e.from e.to c.args.row.now
    (subst (λ (item : Item). IsRowOf g.R.Reads.tells s.records item c.args.row.now) e.is c.requires.row) in
    subst (λ (n : ℕ). ReadsAtMost n s t) (sym one) (load_reads relationships_file s t e.id c.load.ensures.state)

pub returns-in-Some-2-clause-reads : goal.returns-in-Some-2-clause-reads
returns-in-Some-2-clause-reads g c =
    let s = g.R.Reads.state c.args.space.now in
    let t = g.R.Reads.state c.load.new.space in
    let e = c.in-Edge in
    let one = edge_reads g.R.Reads.tells s.records e.id e.label e.from e.to c.args.row.now
    (subst (λ (item : Item). IsRowOf g.R.Reads.tells s.records item c.args.row.now) e.is c.requires.row) in
    subst (λ (n : ℕ). ReadsAtMost n s t) (sym one) (load_reads relationships_file s t e.id c.load.ensures.state)

pub returns-in-None-2-clause-reads : goal.returns-in-None-2-clause-reads
returns-in-None-2-clause-reads g c =
    let s = g.R.Reads.state c.args.space.now in
    let t = g.R.Reads.state c.load.new.space in
    let e = c.in-Edge in
    let one = edge_reads g.R.Reads.tells s.records e.id e.label e.from e.to c.args.row.now
    (subst (λ (item : Item). IsRowOf g.R.Reads.tells s.records item c.args.row.now) e.is c.requires.row) in
    subst (λ (n : ℕ). ReadsAtMost n s t) (sym one) (load_reads relationships_file s t e.id c.load.ensures.state)

pub returns-in-Value-clause-reads : goal.returns-in-Value-clause-reads
returns-in-Value-clause-reads g c = reads_none (owner_reads c.args.row.now) (g.R.Reads.state c.args.space.now)

pub returns-in_err-row-in-Vertex-clause-found : goal.returns-in_err-row-in-Vertex-clause-found
returns-in_err-row-in-Vertex-clause-found g c _ = never_ok c.from_residual.result _ _ c.from_residual.ensures.1

pub returns-in_err-row-in-Vertex-clause-owner : goal.returns-in_err-row-in-Vertex-clause-owner
returns-in_err-row-in-Vertex-clause-owner g c = never_ok c.from_residual.result _ _ c.from_residual.ensures.1

pub returns-in_err-row-in-Edge-clause-found : goal.returns-in_err-row-in-Edge-clause-found
returns-in_err-row-in-Edge-clause-found g c _ = never_ok c.from_residual-in_err-row-in-Edge.result _ _ c.from_residual-in_err-row-in-Edge.ensures.1

pub returns-in_err-row-in-Edge-clause-owner : goal.returns-in_err-row-in-Edge-clause-owner
returns-in_err-row-in-Edge-clause-owner g c = never_ok c.from_residual-in_err-row-in-Edge.result _ _ c.from_residual-in_err-row-in-Edge.ensures.1

pub returns-in-Some-clause-cause : goal.returns-in-Some-clause-cause
returns-in-Some-clause-cause g c = ok_cause _ _ _ _ c.in_ok-row-in-Vertex.ensures.cause.later

pub returns-in-None-clause-cause : goal.returns-in-None-clause-cause
returns-in-None-clause-cause g c = ok_cause _ _ _ _ c.in_ok-row-in-Vertex.ensures.cause.later

pub returns-in-Some-2-clause-cause : goal.returns-in-Some-2-clause-cause
returns-in-Some-2-clause-cause g c = ok_cause _ _ _ _ c.in_ok-row-in-Edge.ensures.cause.later

pub returns-in-None-2-clause-cause : goal.returns-in-None-2-clause-cause
returns-in-None-2-clause-cause g c = ok_cause _ _ _ _ c.in_ok-row-in-Edge.ensures.cause.later
