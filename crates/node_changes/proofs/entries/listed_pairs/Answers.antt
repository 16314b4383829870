use Rattle.std.proofs.Common.{◌≡◌, length, map, refl, sym, ap, ◌∙◌, arith, rules}
use Rattle.std.proofs.lemmas.List.{length-map}
use Rattle.prop_index.proofs.IndexCounts.{index_count}
use Rattle.prop_index.specs.Listing.{pair_of}
use Rattle.prop_index.proofs.LinkRules.{free_list, store_room}
use Rattle.prop_store.proofs.ReadCounts.{reads_same}
use Rattle.rec_bytes.specs.Format as format
use Rattle.rec_bytes.specs.Space as spaces
use Rattle.rec_bytes.specs.Space.{meta_of}
use Rattle.rec_bytes.specs.declared.meta.Meta.{Meta}
use Rattle.change_parts.specs.ChangeFault.{IsOutside, of_fault}
use Rattle.change_parts.specs.Damage.{BlamesBroken, IfBlames, IsOfIndex}
use Rattle.node_changes.proofs.Broken.{index_broken, index_named}
use Rattle.node_changes.proofs.EntriesHeld.{none_of}
use Rattle.change_parts.proofs.Exits.{fault_exit, fault_outside}
use Rattle.rec_bytes.proofs.Causes.{never_ok, ok_cause}
use Rattle.node_changes.proofs.entries.listed_pairs.Goals as goal

pub returns-then-meta-eq0-clause-reads : goal.returns-then-meta-eq0-clause-reads
unfolding spaces.after_gets
returns-then-meta-eq0-clause-reads g c = record { count = 0; within = omega arith; is = refl }

pub returns-in_err-pairs-clause-not_damaged : goal.returns-in_err-pairs-clause-not_damaged
returns-in_err-pairs-clause-not_damaged g c tells wanted ix store =
    let s = g.R.Reads.state c.args.space.now in
    fault_exit of_fault IsOutside c.in_err-pairs.field-0.0 c.from_residual.result c.from_residual.ensures.1
    (fault_outside Unit c.in_err-pairs.field-0.0 (c.in_err-pairs.ensures.not_damaged tells wanted ix (store_room s store)))

pub returns-clause-listed : goal.returns-clause-listed
returns-clause-listed g c tells wanted ix store = c.in_ok-pairs.ensures.listed tells wanted ix

pub returns-then-meta-eq0-clause-listed : goal.returns-then-meta-eq0-clause-listed
returns-then-meta-eq0-clause-listed g c tells wanted ix store =
    let s = g.R.Reads.state c.args.space.now in
    let free = free_list s store in
    let count = index_count s.records wanted ix free.0 free.1 in
    let is : c.meta.result ≡ meta_of s format.index_file = c.meta.ensures in
    let zero : (meta_of s format.index_file).live ≡ 0 = sym (ap (λ (m : Meta). m.live) is) ∙ c.if-meta-eq0.true in
    c.new.ensures.items ∙ sym (ap (map (pair_of s.records)) (none_of ix.definitions (omega (arith, count, zero))))

pub returns-in_err-pairs-clause-damaged : goal.returns-in_err-pairs-clause-damaged
returns-in_err-pairs-clause-damaged g c tells =
    let s = g.R.Reads.state c.args.space.now in
    fault_exit of_fault (BlamesBroken s) c.in_err-pairs.field-0.0 c.from_residual.result c.from_residual.ensures.1
    (index_broken s c.in_err-pairs.field-0.0 (c.in_err-pairs.ensures.damaged tells))

pub returns-in_err-pairs-clause-names : goal.returns-in_err-pairs-clause-names
returns-in_err-pairs-clause-names g c tells =
    fault_exit of_fault (IfBlames IsOfIndex) c.in_err-pairs.field-0.0 c.from_residual.result c.from_residual.ensures.1
    (index_named c.in_err-pairs.field-0.0 (c.in_err-pairs.ensures.names tells))

pub returns-in_err-pairs-clause-same : goal.returns-in_err-pairs-clause-same
returns-in_err-pairs-clause-same g c = reads_same 17 _ _ c.indexes.ensures.at_most

pub returns-clause-same : goal.returns-clause-same
returns-clause-same g c = reads_same 17 _ _ c.indexes.ensures.at_most

pub returns-in_err-pairs-clause-listed : goal.returns-in_err-pairs-clause-listed
returns-in_err-pairs-clause-listed g c _ _ _ _ = never_ok c.from_residual.result _ _ c.from_residual.ensures.1

pub returns-in_err-pairs-clause-few : goal.returns-in_err-pairs-clause-few
returns-in_err-pairs-clause-few g c = never_ok c.from_residual.result _ _ c.from_residual.ensures.1

pub returns-in_err-pairs-clause-none : goal.returns-in_err-pairs-clause-none
returns-in_err-pairs-clause-none g c _ = never_ok c.from_residual.result _ _ c.from_residual.ensures.1

pub returns-in_err-pairs-clause-onward : goal.returns-in_err-pairs-clause-onward
returns-in_err-pairs-clause-onward g c = search rules

pub returns-clause-cause : goal.returns-clause-cause
returns-clause-cause g c = ok_cause _ _ _ _ c.in_ok-pairs.ensures.cause.later

-- ---- the definitions
pub returns-clause-walked : goal.returns-clause-walked
returns-clause-walked g c tells some =
    let met = c.in_ok-pairs.ensures.walked tells in
    let few = c.in_ok-pairs.ensures.few in
    let len = ap length met.pairs_are ∙ length-map met.definitions (pair_of (g.R.Reads.state c.args.space.now).records) in
    record { members = met.definitions; list = record { walk = met.walk; few = omega (arith, few, len); defined = met.defined } }

pub returns-then-meta-eq0-clause-walked : goal.returns-then-meta-eq0-clause-walked
returns-then-meta-eq0-clause-walked g c tells some = absurd (let none = ap length c.new.ensures.items in omega (arith, some, none))

pub returns-in_err-pairs-clause-walked : goal.returns-in_err-pairs-clause-walked
returns-in_err-pairs-clause-walked g c _ = never_ok c.from_residual.result _ _ c.from_residual.ensures.1
