use Rattle.std.specs.Prelude.{IfOk, IfSome}
use Rattle.std.proofs.Common.{◌≡◌, ◌<◌, ◌∙◌, Option, ap, sym, subst, ℕ, arith}
use Rattle.std.proofs.lemmas.Result.{IfErr-weaker}
use Rattle.std.specs.FinMap as maps
use Rattle.std.specs.FinMap.{get-empty}
use Rattle.plain_graph.specs.Meaning.{properties_of}
use Rattle.plain_graph.specs.declared.value.Value.{Value}
use Rattle.plain_graph.proofs.PropertyLaws.{order}
use Rattle.prop_store.specs.Owner.{IsInUse, IsOwner}
use Rattle.prop_store.proofs.Causes.{cause_after}
use Rattle.rec_bytes.specs.Space.{State}
use Rattle.rec_bytes.proofs.Causes.{never_ok, ok_cause}
use Rattle.store_rules.specs.Graph.{graph_of}
use Rattle.traversal_run.specs.Elements.{IsOwnerOf, owner_reads}
use Rattle.traversal_run.specs.Naming.{FindsName, name_count}
use Rattle.traversal_run.specs.declared.elements.Owned.{Owned}
use Rattle.traversal_run.proofs.Broken.{blamed_before}
use Rattle.traversal_run.proofs.Causes.{cause_passed}
use Rattle.traversal_run.proofs.Loaded.{no_name_no_value}
use Rattle.traversal_run.proofs.Owned.{first_in, listed_in, then_read, value_is}
use Rattle.prop_store.proofs.ReadCounts.{reads_more, reads_none, reads_then}
use Rattle.traversal_run.specs.Owing.{key_reads}
use Rattle.traversal_run.proofs.NodeReads.{owner_few}
use Rattle.traversal_run.proofs.elements.numbered_value.Goals as goal

pub returns-in_default-clause-found : goal.returns-in_default-clause-found
returns-in_default-clause-found g c = λ tells store key has.
    let s = g.R.Reads.state c.args.space.now in
    sym (no_name_no_value s store key (subst (λ (number : Option ℕ). FindsName s.records number key) c.in_default.is has.finds) c.args.item.now)

pub returns-in_default-2-clause-found : goal.returns-in_default-2-clause-found
returns-in_default-2-clause-found g c = λ tells store key has.
    let s = g.R.Reads.state c.args.space.now in
    let none = subst (IsOwnerOf s c.args.item.now) c.in_default-2.is (c.in_ok-owned.ensures.found tells) in
    sym (ap (λ properties. maps.get properties key) none ∙ get-empty order key)

pub read_key_from-requires-clause-owner : goal.read_key_from-requires-clause-owner
read_key_from-requires-clause-owner g c = subst (λ (o : Option Owned). IfSome o (λ (found : Owned). IsOwner found.owner)) c.in-Some-2.is
    c.in_ok-owned.ensures.owner

pub read_key_from-requires-clause-first : goal.read_key_from-requires-clause-first
read_key_from-requires-clause-first g c = λ tells.
    let s = g.R.Reads.state c.args.space.now in
    let z = g.R.Reads.state c.owner_of.new.space in
    first_in s z c.args.item.now c.in-Some-2.owned c.in_ok-owned.ensures.read.same
    (subst (IsOwnerOf s c.args.item.now) c.in-Some-2.is (c.in_ok-owned.ensures.found tells))

pub returns-clause-found : goal.returns-clause-found
returns-clause-found g c = λ tells store key has.
    let s = g.R.Reads.state c.args.space.now in
    let z = g.R.Reads.state c.owner_of.new.space in
    let owns = subst (IsOwnerOf s c.args.item.now) c.in-Some-2.is (c.in_ok-owned.ensures.found tells) in
    let is = subst (λ (o : Option Owned). IfSome o (λ (found : Owned). IsOwner found.owner)) c.in-Some-2.is c.in_ok-owned.ensures.owner in
    let finds = subst (λ (number : Option ℕ). FindsName s.records number key) c.in-Some.is has.finds in
    let below = subst (λ (number : Option ℕ). IfSome number (λ found. found < name_count s.records)) c.in-Some.is has.below in
    let listed = listed_in s z c.args.item.now c.in-Some-2.owned c.in_ok-owned.ensures.read.same store is owns in
    subst (λ (found : Option Value). IfOk c.read_key_from.result (λ value. value ≡ found))
    (value_is s.records s.shape store (properties_of (graph_of s.records) c.args.item.now) listed.es listed.known listed.is key c.in-Some.number below finds)
    (c.read_key_from.ensures.read tells listed.es listed.has.are)

pub returns-clause-read : goal.returns-clause-read
returns-clause-read g c = record {
  same = then_read (g.R.Reads.state c.args.space.now) (g.R.Reads.state c.owner_of.new.space) (g.R.Reads.state c.read_key_from.new.space) 54
      c.in_ok-owned.ensures.read.same c.read_key_from.ensures.at_most;
  onward = g.met.R.Reads.further_onward c.args.space.now c.owner_of.new.space c.read_key_from.new.space c.in_ok-owned.ensures.read.onward
      c.read_key_from.ensures.onward;
  later = omega arith;
}

pub returns-clause-damaged : goal.returns-clause-damaged
returns-clause-damaged g c = λ tells.
    let s = g.R.Reads.state c.args.space.now in
    let z = g.R.Reads.state c.owner_of.new.space in
    let same = c.in_ok-owned.ensures.read.same in
    let owns = subst (IsOwnerOf s c.args.item.now) c.in-Some-2.is (c.in_ok-owned.ensures.found tells) in
    let used = subst (λ (t : State). IsInUse t.records c.in-Some-2.owned.owner) (sym same) owns.used in
    IfErr-weaker _ _ _ (blamed_before s z same) (c.read_key_from.ensures.damaged tells used)

pub returns-in_err-owned-clause-cause : goal.returns-in_err-owned-clause-cause
returns-in_err-owned-clause-cause g c =
    cause_passed _ _ _ c.from_residual.result c.in_err-owned.field-0.0 (omega arith) c.in_err-owned.ensures.cause c.from_residual.ensures.1

pub returns-in_err-owned-clause-found : goal.returns-in_err-owned-clause-found
returns-in_err-owned-clause-found g c _ _ _ _ = never_ok c.from_residual.result _ _ c.from_residual.ensures.1

pub returns-in_err-owned-clause-kept : goal.returns-in_err-owned-clause-kept
returns-in_err-owned-clause-kept g c = never_ok c.from_residual.result _ _ c.from_residual.ensures.1

pub returns-in_default-2-clause-cause : goal.returns-in_default-2-clause-cause
returns-in_default-2-clause-cause g c = ok_cause _ _ _ _ c.in_ok-owned.ensures.cause.later

pub returns-clause-cause : goal.returns-clause-cause
returns-clause-cause g c = cause_after _ _ _ c.read_key_from.result c.in_ok-owned.ensures.cause.later c.read_key_from.ensures.cause

pub returns-in_default-clause-at_most : goal.returns-in_default-clause-at_most
returns-in_default-clause-at_most g c = reads_none key_reads (g.R.Reads.state c.args.space.now)

pub returns-in_default-2-clause-at_most : goal.returns-in_default-2-clause-at_most
returns-in_default-2-clause-at_most g c =
    reads_more (owner_reads c.args.row.now) key_reads (g.R.Reads.state c.args.space.now) (g.R.Reads.state c.owner_of.new.space)
    (let few = owner_few c.args.row.now in omega (arith, few)) c.in_ok-owned.ensures.reads

pub returns-in_err-owned-clause-at_most : goal.returns-in_err-owned-clause-at_most
returns-in_err-owned-clause-at_most g c =
    reads_more (owner_reads c.args.row.now) key_reads (g.R.Reads.state c.args.space.now) (g.R.Reads.state c.owner_of.new.space)
    (let few = owner_few c.args.row.now in omega (arith, few)) c.in_err-owned.ensures.reads

pub returns-clause-at_most : goal.returns-clause-at_most
returns-clause-at_most g c =
    let few = owner_few c.args.row.now in
    reads_then (owner_reads c.args.row.now) 54 key_reads (g.R.Reads.state c.args.space.now) (g.R.Reads.state c.owner_of.new.space)
    (g.R.Reads.state c.read_key_from.new.space) (omega (arith, few)) c.in_ok-owned.ensures.reads c.read_key_from.ensures.at_most
