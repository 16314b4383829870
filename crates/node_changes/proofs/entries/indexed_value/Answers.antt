use Rattle.std.proofs.Common.{◌≡◌, ℕ, Bool, true, false, cond, nat_lt, ◌&&◌, None, Some, List, [], map, sym, ap, ◌∙◌, subst, refl, arith, rules}
use Rattle.plain_graph.specs.declared.command.Target.{Target}
use Rattle.plain_graph.specs.declared.command.Target.TheVariants as targets
use Rattle.node_store.proofs.Rows.{IsReadable-AreInRange, kind-row_at-None, kind-row_at-Some}
use Rattle.node_store.specs.Loading.{after_load, node_mark, node_room, row_at}
use Rattle.node_store.specs.declared.node_row.NodeRow.{NodeRow}
use Rattle.prop_index.specs.Listing.{pair_of}
use Rattle.prop_index.specs.declared.listing.IndexPair.{IndexPair}
use Rattle.prop_store.proofs.ReadCounts.{reads_same, same_then}
use Rattle.rec_bytes.specs.Space.{SameButReads, State, after_get}
use Rattle.prop_store.specs.Finding.{value_of}
use Rattle.prop_store.specs.Owner.{HasProperties, IsInUse}
use Rattle.prop_store.specs.Reading.{properties_met}
use Rattle.prop_store.specs.declared.owner.Owner.{Owner}
use Rattle.rec_bytes.specs.Format as format
use Rattle.rec_bytes.specs.Record.{field}
use Rattle.store_rules.specs.Indexes.{node_value}
use Rattle.store_rules.specs.Ranges.{AreInRange}
use Rattle.store_rules.specs.Views.{kind_at, rec_at}
use Rattle.change_parts.specs.Causes.{IsNodeTarget}
use Rattle.change_parts.specs.ChangeFault.{IsOutside, of_fault, of_row}
use Rattle.change_parts.specs.Damage.{BlamesBroken}
use Rattle.node_changes.specs.Entries.{IsIndexedValue, is_listed}
use Rattle.change_parts.specs.Owners.{owner_of}
use Rattle.change_parts.proofs.Broken.{node_broken}
use Rattle.node_changes.proofs.Broken.{read_broken}
use Rattle.node_changes.proofs.EntriesFaults.{row_outside}
use Rattle.node_changes.proofs.EntriesGone.{eq_of, own_met, owner_known}
use Rattle.node_changes.proofs.EntriesHeld.{none_of}
use Rattle.node_changes.proofs.EntriesNamed.{listed_some}
use Rattle.change_parts.proofs.Exits.{fault_exit, fault_outside}
use Rattle.rec_bytes.proofs.Causes.{never_ok, ok_cause}
use Rattle.change_parts.proofs.DiskCauses.{later_on}
use Rattle.node_changes.proofs.entries.indexed_value.Goals as goal

load_same : (s mid : State) (id : ℕ) → mid ≡ after_load s id → SameButReads s mid
load_same s mid id is = subst (SameButReads s) (sym is) (by (nat_lt id (node_mark s) && nat_lt id (node_room s)))
  where
    by : (b : Bool) → SameButReads s (cond b (after_get s) s)
    by true = refl
    by false = refl

pub returns-in_err-listed-clause-not_damaged : goal.returns-in_err-listed-clause-not_damaged
returns-in_err-listed-clause-not_damaged g c tells wanted ix store used =
    fault_exit (λ f. f) IsOutside c.in_err-listed.field-0.0 c.from_residual.result c.from_residual.ensures.1
    (c.in_err-listed.ensures.not_damaged tells wanted ix store)

pub returns-in_err-listed-clause-same : goal.returns-in_err-listed-clause-same
returns-in_err-listed-clause-same g c = reads_same 17 _ _ c.listed_pairs.ensures.reads

pub returns-then-is_empty-clause-same : goal.returns-then-is_empty-clause-same
returns-then-is_empty-clause-same g c = reads_same 17 _ _ c.listed_pairs.ensures.reads

pub returns-in_err-row-clause-same : goal.returns-in_err-row-clause-same
returns-in_err-row-clause-same g c = same_then (g.R.Reads.state c.args.space.now) (g.R.Reads.state c.listed_pairs.new.space) (g.R.Reads.state c.load.new.space)
    (reads_same 17 _ _ c.listed_pairs.ensures.reads) (load_same (g.R.Reads.state c.listed_pairs.new.space) (g.R.Reads.state c.load.new.space) c.in-Node.node
    c.load.ensures.state)

pub returns-in_default-2-clause-same : goal.returns-in_default-2-clause-same
returns-in_default-2-clause-same g c = same_then (g.R.Reads.state c.args.space.now) (g.R.Reads.state c.listed_pairs.new.space)
    (g.R.Reads.state c.load.new.space) (reads_same 17 _ _ c.listed_pairs.ensures.reads)
    (load_same (g.R.Reads.state c.listed_pairs.new.space) (g.R.Reads.state c.load.new.space) c.in-Node.node c.load.ensures.state)

pub returns-then-not-has_pair-clause-same : goal.returns-then-not-has_pair-clause-same
returns-then-not-has_pair-clause-same g c = same_then (g.R.Reads.state c.args.space.now) (g.R.Reads.state c.listed_pairs.new.space)
    (g.R.Reads.state c.load.new.space) (reads_same 17 _ _ c.listed_pairs.ensures.reads)
    (load_same (g.R.Reads.state c.listed_pairs.new.space) (g.R.Reads.state c.load.new.space) c.in-Node.node c.load.ensures.state)

pub returns-in_err-value-clause-same : goal.returns-in_err-value-clause-same
returns-in_err-value-clause-same g c = same_then (g.R.Reads.state c.args.space.now) (g.R.Reads.state c.load.new.space) _
    (same_then (g.R.Reads.state c.args.space.now) (g.R.Reads.state c.listed_pairs.new.space) (g.R.Reads.state c.load.new.space)
    (reads_same 17 _ _ c.listed_pairs.ensures.reads) (load_same (g.R.Reads.state c.listed_pairs.new.space) _ c.in-Node.node c.load.ensures.state))
    (reads_same 55 _ _ c.read_key.ensures.at_most)

pub returns-clause-same : goal.returns-clause-same
returns-clause-same g c = same_then (g.R.Reads.state c.args.space.now) (g.R.Reads.state c.load.new.space) _
    (same_then (g.R.Reads.state c.args.space.now) (g.R.Reads.state c.listed_pairs.new.space) (g.R.Reads.state c.load.new.space)
    (reads_same 17 _ _ c.listed_pairs.ensures.reads) (load_same (g.R.Reads.state c.listed_pairs.new.space) _ c.in-Node.node c.load.ensures.state))
    (reads_same 55 _ _ c.read_key.ensures.at_most)

pub returns-in_default-2-clause-held : goal.returns-in_default-2-clause-held
returns-in_default-2-clause-held g c tells wanted ix store used =
    let s = g.R.Reads.state c.args.space.now in
    let m = g.R.Reads.state c.listed_pairs.new.space in
    let same : SameButReads s m = reads_same 17 s m c.listed_pairs.ensures.reads in
    let live = subst (λ (t : Target). IsInUse s.records (owner_of t)) c.in-Node.is used in
    let gone = kind-row_at-None m.records c.in-Node.node (sym (c.in_ok-row.ensures.found tells) ∙ c.in_default-2.is) in
    absurd (live (ap (λ (z : State). kind_at z.records format.nodes_file c.in-Node.node) (sym same) ∙ gone))

pub returns-in_err-value-clause-not_damaged : goal.returns-in_err-value-clause-not_damaged
returns-in_err-value-clause-not_damaged g c tells wanted ix store used =
    let s = g.R.Reads.state c.args.space.now in
    let m = g.R.Reads.state c.listed_pairs.new.space in
    let n = g.R.Reads.state c.load.new.space in
    let same : SameButReads s n = same_then s m n (reads_same 17 s m c.listed_pairs.ensures.reads) (load_same m n c.in-Node.node c.load.ensures.state) in
    let live = subst (λ (t : Target). IsInUse s.records (owner_of t)) c.in-Node.is used in
    let known = owner_known s c.in-Node.node store live in
    let there = subst (λ (z : State). HasProperties z.records (owner_of (targets.Node c.in-Node.node)) known.0) (sym same) known.1 in
    fault_exit of_fault IsOutside c.in_err-value.field-0.0 c.from_residual-in_err-value.result c.from_residual-in_err-value.ensures.1
    (fault_outside Unit c.in_err-value.field-0.0 (c.in_err-value.ensures.not_damaged tells known.0 (subst (λ (o : Owner). HasProperties n.records o known.0)
    (sym c.node_owner.ensures) there)))

pub returns-then-is_empty-clause-held : goal.returns-then-is_empty-clause-held
returns-then-is_empty-clause-held g c tells wanted ix store used =
    let s = g.R.Reads.state c.args.space.now in
    let listed = c.in_ok-listed.listed in
    let are : listed.items ≡ map (pair_of s.records) ix.definitions = c.in_ok-listed.ensures.listed tells wanted ix store in
    let zero : listed.len ≡ 0 = eq_of listed.len 0 (sym c.is_empty.ensures ∙ c.if-is_empty.true) in
    let long = listed.ok.0 in
    let none : listed.items ≡ [] = none_of listed.items (omega (arith, zero, long)) in
    let label = field 4 (rec_at s.records format.nodes_file c.in-Node.node) format.node_label in
    subst (λ (t : Target). IsIndexedValue s.records (map (pair_of s.records) ix.definitions) t c.args.key None) (sym c.in-Node.is)
    (ap (λ (pairs : List IndexPair). is_listed pairs label c.args.key) (sym are ∙ none))

pub returns-in_err-row-clause-not_damaged : goal.returns-in_err-row-clause-not_damaged
returns-in_err-row-clause-not_damaged g c tells wanted ix store used =
    let s = g.R.Reads.state c.args.space.now in
    let m = g.R.Reads.state c.listed_pairs.new.space in
    let same : SameButReads s m = reads_same 17 s m c.listed_pairs.ensures.reads in
    let ranges = subst (λ (z : State). AreInRange z.records z.shape) (sym same) store.ranges in
    fault_exit of_row IsOutside c.in_err-row.field-0.0 c.from_residual-in_err-row.result c.from_residual-in_err-row.ensures.1
    (row_outside Unit c.in_err-row.field-0.0 (c.in_err-row.ensures.not_damaged tells (IsReadable-AreInRange m c.in-Node.node ranges)))

-- the label that was read is that of the node
label_read : (s m : State) (node : ℕ) (row : NodeRow) → SameButReads s m → row_at m.records node ≡ Some row
    → row.label ≡ field 4 (rec_at s.records format.nodes_file node) format.node_label
label_read s m node row same is =
    ap (λ (r : NodeRow). r.label) (kind-row_at-Some m.records node row is).1
    ∙ ap (λ (z : State). field 4 (rec_at z.records format.nodes_file node) format.node_label) same

pub returns-then-not-has_pair-clause-held : goal.returns-then-not-has_pair-clause-held
returns-then-not-has_pair-clause-held g c tells wanted ix store used =
    let s = g.R.Reads.state c.args.space.now in
    let m = g.R.Reads.state c.listed_pairs.new.space in
    let same : SameButReads s m = reads_same 17 s m c.listed_pairs.ensures.reads in
    let row = c.in-Some.row in
    let label = label_read s m c.in-Node.node row same (sym (c.in_ok-row.ensures.found tells) ∙ c.in-Some.is) in
    let are : c.in_ok-listed.listed.items ≡ map (pair_of s.records) ix.definitions = c.in_ok-listed.ensures.listed tells wanted ix store in
    let lacks : is_listed (map (pair_of s.records) ix.definitions) row.label c.args.key ≡ false
    = ap (λ (pairs : List IndexPair). is_listed pairs row.label c.args.key) (sym are ∙ sym c.deref.ensures.value) ∙ sym c.has_pair.ensures
    ∙ c.if-not-has_pair.true in
    subst (λ (t : Target). IsIndexedValue s.records (map (pair_of s.records) ix.definitions) t c.args.key None) (sym c.in-Node.is)
    (subst (λ (l : ℕ). is_listed (map (pair_of s.records) ix.definitions) l c.args.key ≡ false) label lacks)

pub returns-clause-held : goal.returns-clause-held
returns-clause-held g c tells wanted ix store used =
    let s = g.R.Reads.state c.args.space.now in
    let m = g.R.Reads.state c.listed_pairs.new.space in
    let n = g.R.Reads.state c.load.new.space in
    let node = c.in-Node.node in
    let row = c.in-Some.row in
    let same : SameButReads s m = reads_same 17 s m c.listed_pairs.ensures.reads in
    let then : SameButReads s n = same_then s m n same (load_same m n node c.load.ensures.state) in
    let live = subst (λ (t : Target). IsInUse s.records (owner_of t)) c.in-Node.is used in
    let label = label_read s m node row same (sym (c.in_ok-row.ensures.found tells) ∙ c.in-Some.is) in
    let are : c.in_ok-listed.listed.items ≡ map (pair_of s.records) ix.definitions = c.in_ok-listed.ensures.listed tells wanted ix store in
    let there : is_listed (map (pair_of s.records) ix.definitions) row.label c.args.key ≡ true
    = ap (λ (pairs : List IndexPair). is_listed pairs row.label c.args.key) (sym are ∙ sym c.deref.ensures.value) ∙ sym c.has_pair.ensures
    ∙ c.if-not-has_pair.false in
    let value : c.in_ok-value.value ≡ node_value s.records row.label c.args.key node
    = c.in_ok-value.ensures.met tells ∙ ap (λ (o : Owner). value_of (properties_met n.records o) c.args.key) c.node_owner.ensures
    ∙ ap (λ (z : State). value_of (properties_met z.records (owner_of (targets.Node node))) c.args.key) then
    ∙ sym (own_met s.records node row.label c.args.key live label) in
    subst (λ (t : Target). IsIndexedValue s.records (map (pair_of s.records) ix.definitions) t c.args.key
    (Some (record { label = row.label; key = c.args.key; node = node; value = c.in_ok-value.value }))) (sym c.in-Node.is)
    (refl, refl, label, there, value)

pub returns-in_err-listed-clause-damaged : goal.returns-in_err-listed-clause-damaged
returns-in_err-listed-clause-damaged g c tells used =
    let s = g.R.Reads.state c.args.space.now in
    fault_exit (λ f. f) (BlamesBroken s) c.in_err-listed.field-0.0 c.from_residual.result c.from_residual.ensures.1 (c.in_err-listed.ensures.damaged tells)

pub returns-in_err-row-clause-damaged : goal.returns-in_err-row-clause-damaged
returns-in_err-row-clause-damaged g c tells used =
    let s = g.R.Reads.state c.args.space.now in
    let m = g.R.Reads.state c.listed_pairs.new.space in
    let same : SameButReads s m = reads_same 17 s m c.listed_pairs.ensures.reads in
    let fault = c.in_err-row.field-0.0 in
    fault_exit of_row (BlamesBroken s) fault c.from_residual-in_err-row.result c.from_residual-in_err-row.ensures.1
    (subst (λ (z : State). BlamesBroken z (of_row fault)) same (node_broken m c.in-Node.node fault (c.in_err-row.ensures.damaged tells)))

pub returns-in_err-value-clause-damaged : goal.returns-in_err-value-clause-damaged
returns-in_err-value-clause-damaged g c tells used =
    let s = g.R.Reads.state c.args.space.now in
    let m = g.R.Reads.state c.listed_pairs.new.space in
    let n = g.R.Reads.state c.load.new.space in
    let same : SameButReads s n = same_then s m n (reads_same 17 s m c.listed_pairs.ensures.reads) (load_same m n c.in-Node.node c.load.ensures.state) in
    let live = subst (λ (t : Target). IsInUse s.records (owner_of t)) c.in-Node.is used in
    let there = subst (λ (z : State). IsInUse z.records (owner_of (targets.Node c.in-Node.node))) (sym same) live in
    fault_exit of_fault (BlamesBroken s) c.in_err-value.field-0.0 c.from_residual-in_err-value.result c.from_residual-in_err-value.ensures.1
    (read_broken s n same c.in_err-value.field-0.0 (c.in_err-value.ensures.damaged tells (subst (λ (o : Owner). IsInUse n.records o) (sym c.node_owner.ensures)
    there)))

pub returns-clause-of_node : goal.returns-clause-of_node
returns-clause-of_node g c = subst IsNodeTarget (sym c.in-Node.is) tt

pub returns-in_err-listed-clause-held : goal.returns-in_err-listed-clause-held
returns-in_err-listed-clause-held g c _ _ _ _ _ = never_ok c.from_residual.result _ _ c.from_residual.ensures.1

pub returns-in_err-listed-clause-of_node : goal.returns-in_err-listed-clause-of_node
returns-in_err-listed-clause-of_node g c = never_ok c.from_residual.result _ _ c.from_residual.ensures.1

pub returns-in_err-listed-clause-kept : goal.returns-in_err-listed-clause-kept
returns-in_err-listed-clause-kept g c = never_ok c.from_residual.result _ _ c.from_residual.ensures.1

pub returns-in_err-listed-clause-onward : goal.returns-in_err-listed-clause-onward
returns-in_err-listed-clause-onward g c = search rules

pub returns-in_err-row-clause-held : goal.returns-in_err-row-clause-held
returns-in_err-row-clause-held g c _ _ _ _ _ = never_ok c.from_residual-in_err-row.result _ _ c.from_residual-in_err-row.ensures.1

pub returns-in_err-row-clause-of_node : goal.returns-in_err-row-clause-of_node
returns-in_err-row-clause-of_node g c = never_ok c.from_residual-in_err-row.result _ _ c.from_residual-in_err-row.ensures.1

pub returns-in_err-row-clause-kept : goal.returns-in_err-row-clause-kept
returns-in_err-row-clause-kept g c = never_ok c.from_residual-in_err-row.result _ _ c.from_residual-in_err-row.ensures.1

pub returns-in_err-value-clause-held : goal.returns-in_err-value-clause-held
returns-in_err-value-clause-held g c _ _ _ _ _ = never_ok c.from_residual-in_err-value.result _ _ c.from_residual-in_err-value.ensures.1

pub returns-in_err-value-clause-of_node : goal.returns-in_err-value-clause-of_node
returns-in_err-value-clause-of_node g c = never_ok c.from_residual-in_err-value.result _ _ c.from_residual-in_err-value.ensures.1

pub returns-in_err-value-clause-kept : goal.returns-in_err-value-clause-kept
returns-in_err-value-clause-kept g c = never_ok c.from_residual-in_err-value.result _ _ c.from_residual-in_err-value.ensures.1

pub returns-then-is_empty-clause-cause : goal.returns-then-is_empty-clause-cause
returns-then-is_empty-clause-cause g c = ok_cause _ _ _ _ c.in_ok-listed.ensures.cause.later

pub returns-in_default-2-clause-cause : goal.returns-in_default-2-clause-cause
returns-in_default-2-clause-cause g c = ok_cause _ _ _ _ (later_on c.in_ok-listed.ensures.cause.later c.in_ok-row.ensures.cause.later)

pub returns-then-not-has_pair-clause-cause : goal.returns-then-not-has_pair-clause-cause
returns-then-not-has_pair-clause-cause g c = ok_cause _ _ _ _ (later_on c.in_ok-listed.ensures.cause.later c.in_ok-row.ensures.cause.later)

pub returns-clause-cause : goal.returns-clause-cause
returns-clause-cause g c =
    ok_cause _ _ _ _ (later_on (later_on c.in_ok-listed.ensures.cause.later c.in_ok-row.ensures.cause.later) c.in_ok-value.ensures.cause.later)

-- ---- the value that is met
pub returns-clause-met : goal.returns-clause-met
returns-clause-met g c tells =
    let s = g.R.Reads.state c.args.space.now in
    let m = g.R.Reads.state c.listed_pairs.new.space in
    let n = g.R.Reads.state c.load.new.space in
    let same : SameButReads s n = same_then s m n (reads_same 17 s m c.listed_pairs.ensures.reads) (load_same m n c.in-Node.node c.load.ensures.state) in
    c.in_ok-value.ensures.met tells
    ∙ ap (λ (o : Owner). value_of (properties_met n.records o) c.args.key) (c.node_owner.ensures ∙ ap owner_of (sym c.in-Node.is))
    ∙ ap (λ (z : State). value_of (properties_met z.records (owner_of c.args.target)) c.args.key) same

pub returns-clause-walked : goal.returns-clause-walked
returns-clause-walked g c tells =
    let label = c.in-Some.row.label in
    c.in_ok-listed.ensures.walked tells (listed_some c.in_ok-listed.listed.items label c.args.key
    (ap (λ (pairs : List IndexPair). is_listed pairs label c.args.key) (sym c.deref.ensures.value) ∙ sym c.has_pair.ensures ∙ c.if-not-has_pair.false))
