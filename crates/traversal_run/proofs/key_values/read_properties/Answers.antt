use Rattle.std.specs.Prelude.{IfSome}
use Rattle.std.proofs.Common.{◌+◌, Option, length, sym, subst, arith}
use Rattle.std.proofs.lemmas.Result.{err_from_is_err_and}
use Rattle.plain_graph.specs.Meaning.{properties_of}
use Rattle.prop_store.specs.Owner.{IsOwner}
use Rattle.prop_store.specs.Reading.{block_total}
use Rattle.prop_store.proofs.ReadCounts.{reads_more, reads_then}
use Rattle.rec_bytes.specs.Space.{State}
use Rattle.store_rules.specs.Graph.{graph_of}
use Rattle.store_rules.specs.Rules.{IsWellFormed}
use Rattle.traversal_run.specs.Elements.{IsOwnerOf, owner_reads}
use Rattle.traversal_run.specs.KeyValues.{AreRead}
use Rattle.traversal_run.specs.declared.elements.Owned.{Owned}
use Rattle.traversal_run.proofs.Broken.{blamed_before}
use Rattle.traversal_run.proofs.Causes.{cause_passed, later_on}
use Rattle.traversal_run.proofs.OnlyReads.{is_read-on}
use Rattle.traversal_run.proofs.Owned.{none_read, owns_read}
use Rattle.rec_bytes.proofs.Causes.{never_ok, ok_cause}
use Rattle.traversal_run.proofs.key_values.read_properties.Goals as goal

-- ---- none

pub returns-in_default-clause-found : goal.returns-in_default-clause-found
returns-in_default-clause-found g c = λ tells store.
    let s = g.R.Reads.state c.args.space.now in
    none_read s.records c.args.item.now c.new.result.items c.new.ensures.items
    (subst (IsOwnerOf s c.args.item.now) c.in_default.is (c.in_ok-owned.ensures.found tells))

pub returns-in_default-clause-reads : goal.returns-in_default-clause-reads
returns-in_default-clause-reads g c =
    reads_more (owner_reads c.args.row.now) (owner_reads c.args.row.now + length c.new.result.items + block_total c.new.result.items)
    (g.R.Reads.state c.args.space.now) (g.R.Reads.state c.owner_of.new.space) (omega arith) c.in_ok-owned.ensures.reads

pub returns-in_default-clause-at_most : goal.returns-in_default-clause-at_most
returns-in_default-clause-at_most g c = reads_more (owner_reads c.args.row.now) (owner_reads c.args.row.now + 736) (g.R.Reads.state c.args.space.now)
    (g.R.Reads.state c.owner_of.new.space) (omega arith) c.in_ok-owned.ensures.reads

pub returns-in_err-owned-clause-at_most : goal.returns-in_err-owned-clause-at_most
returns-in_err-owned-clause-at_most g c = reads_more (owner_reads c.args.row.now) (owner_reads c.args.row.now + 736) (g.R.Reads.state c.args.space.now)
    (g.R.Reads.state c.owner_of.new.space) (omega arith) c.in_err-owned.ensures.reads

pub returns-in_err-owned-clause-cause : goal.returns-in_err-owned-clause-cause
returns-in_err-owned-clause-cause g c =
    cause_passed _ _ _ c.from_residual.result c.in_err-owned.field-0.0 (omega arith) c.in_err-owned.ensures.cause c.from_residual.ensures.1

-- ---- those of the owner

pub read_owned-requires-clause-owner : goal.read_owned-requires-clause-owner
read_owned-requires-clause-owner g c = subst (λ (o : Option Owned). IfSome o (λ (found : Owned). IsOwner found.owner)) c.in-Some.is c.in_ok-owned.ensures.owner

pub read_owned-requires-clause-owns : goal.read_owned-requires-clause-owns
read_owned-requires-clause-owns g c = λ tells.
    let s = g.R.Reads.state c.args.space.now in (
      c.args.item.now,
      owns_read s (g.R.Reads.state c.owner_of.new.space) c.args.item.now c.in-Some.owned c.in_ok-owned.ensures.read.same
          (subst (IsOwnerOf s c.args.item.now) c.in-Some.is (c.in_ok-owned.ensures.found tells)),
    )

pub returns-clause-found : goal.returns-clause-found
returns-clause-found g c = λ tells store.
    let s = g.R.Reads.state c.args.space.now in
    let same = c.in_ok-owned.ensures.read.same in
    let item = c.args.item.now in
    let owns = owns_read s (g.R.Reads.state c.owner_of.new.space) item c.in-Some.owned same
    (subst (IsOwnerOf s item) c.in-Some.is (c.in_ok-owned.ensures.found tells)) in
    subst (λ (w : State). AreRead w.records c.in_ok-props.props.items (properties_of (graph_of w.records) item)) same
    (c.in_ok-props.ensures.found tells (subst (λ (w : State). IsWellFormed w.records w.shape) (sym same) store.store) item owns)

pub returns-clause-reads : goal.returns-clause-reads
returns-clause-reads g c =
    let props = c.in_ok-props.props.items in
    reads_then (owner_reads c.args.row.now) (length props + block_total props) (owner_reads c.args.row.now + length props + block_total props)
    (g.R.Reads.state c.args.space.now) (g.R.Reads.state c.owner_of.new.space) (g.R.Reads.state c.read_owned.new.space) (omega arith)
    c.in_ok-owned.ensures.reads c.in_ok-props.ensures.reads

pub returns-clause-at_most : goal.returns-clause-at_most
returns-clause-at_most g c =
    reads_then (owner_reads c.args.row.now) 736 (owner_reads c.args.row.now + 736) (g.R.Reads.state c.args.space.now) (g.R.Reads.state c.owner_of.new.space)
    (g.R.Reads.state c.read_owned.new.space) (omega arith) c.in_ok-owned.ensures.reads c.in_ok-props.ensures.at_most

pub returns-clause-read : goal.returns-clause-read
returns-clause-read g c = is_read-on g.R.Reads g.met.R.Reads.further_onward c.args.space.now c.owner_of.new.space c.read_owned.new.space
    c.in_ok-owned.ensures.read c.in_ok-props.ensures.read

pub returns-in_err-props-clause-at_most : goal.returns-in_err-props-clause-at_most
returns-in_err-props-clause-at_most g c =
    reads_then (owner_reads c.args.row.now) 736 (owner_reads c.args.row.now + 736) (g.R.Reads.state c.args.space.now) (g.R.Reads.state c.owner_of.new.space)
    (g.R.Reads.state c.read_owned.new.space) (omega arith) c.in_ok-owned.ensures.reads c.in_err-props.ensures.at_most

pub returns-in_err-props-clause-read : goal.returns-in_err-props-clause-read
returns-in_err-props-clause-read g c = is_read-on g.R.Reads g.met.R.Reads.further_onward c.args.space.now c.owner_of.new.space c.read_owned.new.space
    c.in_ok-owned.ensures.read c.in_err-props.ensures.read

pub returns-in_err-props-clause-damaged : goal.returns-in_err-props-clause-damaged
returns-in_err-props-clause-damaged g c = λ tells.
    let s = g.R.Reads.state c.args.space.now in
    let z = g.R.Reads.state c.owner_of.new.space in
    let p = err_from_is_err_and c.from_residual-in_err-props.result c.from_residual-in_err-props.ensures.1 in
    rw (p.1, p.2) (blamed_before s z c.in_ok-owned.ensures.read.same c.in_err-props.field-0.0 (c.in_err-props.ensures.damaged tells))

pub returns-in_err-props-clause-cause : goal.returns-in_err-props-clause-cause
returns-in_err-props-clause-cause g c =
    cause_passed _ _ _ c.from_residual-in_err-props.result c.in_err-props.field-0.0 c.in_ok-owned.ensures.cause.later c.in_err-props.ensures.cause
    c.from_residual-in_err-props.ensures.1

pub returns-in_err-owned-clause-found : goal.returns-in_err-owned-clause-found
returns-in_err-owned-clause-found g c _ _ = never_ok c.from_residual.result _ _ c.from_residual.ensures.1

pub returns-in_err-owned-clause-kept : goal.returns-in_err-owned-clause-kept
returns-in_err-owned-clause-kept g c = never_ok c.from_residual.result _ _ c.from_residual.ensures.1

pub returns-in_err-owned-clause-reads : goal.returns-in_err-owned-clause-reads
returns-in_err-owned-clause-reads g c = never_ok c.from_residual.result _ _ c.from_residual.ensures.1

pub returns-in_err-props-clause-found : goal.returns-in_err-props-clause-found
returns-in_err-props-clause-found g c _ _ = never_ok c.from_residual-in_err-props.result _ _ c.from_residual-in_err-props.ensures.1

pub returns-in_err-props-clause-kept : goal.returns-in_err-props-clause-kept
returns-in_err-props-clause-kept g c = never_ok c.from_residual-in_err-props.result _ _ c.from_residual-in_err-props.ensures.1

pub returns-in_err-props-clause-reads : goal.returns-in_err-props-clause-reads
returns-in_err-props-clause-reads g c = never_ok c.from_residual-in_err-props.result _ _ c.from_residual-in_err-props.ensures.1

pub returns-in_default-clause-cause : goal.returns-in_default-clause-cause
returns-in_default-clause-cause g c = ok_cause _ _ _ _ c.in_ok-owned.ensures.cause.later

pub returns-clause-cause : goal.returns-clause-cause
returns-clause-cause g c = ok_cause _ _ _ _ (later_on c.in_ok-owned.ensures.cause.later c.in_ok-props.ensures.cause.later)
