use Rattle.std.proofs.Common.{◌≡◌, length, ap, sym, ◌∙◌, arith, rules}
use Rattle.plain_graph.specs.declared.command.Command.TheVariants as commands
use Rattle.store_rules.specs.Indexes.{wanted_in}
use Rattle.prop_index.proofs.LinkRules.{store_room}
use Rattle.prop_store.proofs.ReadCounts.{reads_same}
use Rattle.change_parts.specs.Causes.{IsCaused}
use Rattle.change_parts.specs.Change.{IsRefusedBy}
use Rattle.change_parts.specs.ChangeFault.{of_fault}
use Rattle.change_parts.specs.Damage.{BlamesBroken}
use Rattle.node_changes.specs.Entries.{is_listed}
use Rattle.node_changes.specs.Indexing.{pair_reasons}
use Rattle.node_changes.proofs.Broken.{index_broken}
use Rattle.change_parts.proofs.Causes.{failure_caused}
use Rattle.change_parts.proofs.DiskCauses.{fault_cause_passed}
use Rattle.change_parts.proofs.Exits.{fault_exit, fault_fails, fault_outside}
use Rattle.node_changes.proofs.IndexTested.{listed_there, many_caused, many_first, may_index, pairs_long, there_caused, there_first, unlisted_free}
use Rattle.change_parts.proofs.Reasons.{outside_refused}
use Rattle.node_changes.proofs.indexing.test_pair.Given.{Over}
use Rattle.rec_bytes.proofs.Causes.{never_ok, ok_cause}
use Rattle.node_changes.proofs.indexing.test_pair.Goals as goal
use Rattle.node_changes.proofs.indexing.test_pair.Goals.{After-has_pair}
use Rattle.store_rules.specs.Graph.{graph_in}

-- ---- the pairs aren't read

pub returns-in_err-listed-clause-refused : goal.returns-in_err-listed-clause-refused
returns-in_err-listed-clause-refused g c tells whole =
    let s = g.R.Reads.state c.args.space.now in
    let command = commands.Index c.args.label.now c.args.key.now in
    let fault = c.in_err-listed.field-0.0 in
    fault_exit of_fault (IsRefusedBy pair_reasons s.shape.limit (graph_in s) command) fault c.from_residual.result c.from_residual.ensures.1
    (outside_refused pair_reasons s.shape.limit (graph_in s) command (of_fault fault) (fault_outside Unit fault (c.in_err-listed.ensures.not_damaged tells
    (wanted_in s.records) whole.store.indexes (store_room s whole.store.store))))

pub returns-in_err-listed-clause-caused : goal.returns-in_err-listed-clause-caused
returns-in_err-listed-clause-caused g c tells =
    let s = g.R.Reads.state c.args.space.now in
    let t = g.R.Reads.state c.indexes.new.space in
    let names = c.args.names.now.names in
    let command = commands.Index c.args.label.now c.args.key.now in
    let fault = c.in_err-listed.field-0.0 in
    fault_exit of_fault (IsCaused command s t names names) fault c.from_residual.result c.from_residual.ensures.1
    (failure_caused command s t names names (of_fault fault) (fault_fails fault))

pub returns-in_err-listed-clause-damaged : goal.returns-in_err-listed-clause-damaged
returns-in_err-listed-clause-damaged g c tells =
    let s = g.R.Reads.state c.args.space.now in
    let fault = c.in_err-listed.field-0.0 in
    fault_exit of_fault (BlamesBroken s) fault c.from_residual.result c.from_residual.ensures.1
    (index_broken s fault (c.in_err-listed.ensures.damaged tells))

pub returns-in_err-listed-clause-same : goal.returns-in_err-listed-clause-same
returns-in_err-listed-clause-same g c = reads_same 17 _ _ c.indexes.ensures.at_most

pub returns-in_err-listed-clause-cause : goal.returns-in_err-listed-clause-cause
returns-in_err-listed-clause-cause g c =
    fault_cause_passed _ _ _ c.from_residual.result c.in_err-listed.field-0.0 (omega arith) c.in_err-listed.ensures.cause c.from_residual.ensures.1

-- ---- the pair has an index

module _ (g : Over) (c : After-has_pair g) where
  -- whether it is one of those that are listed
  listed_is : c.has_pair.result ≡ is_listed c.in_ok-listed.listed.items c.pair_of-pair.result.label c.pair_of-pair.result.key
  listed_is = c.has_pair.ensures ∙ ap (λ xs. is_listed xs c.pair_of-pair.result.label c.pair_of-pair.result.key) c.deref.ensures.value

pub returns-then-has_pair-clause-refused : goal.returns-then-has_pair-clause-refused
returns-then-has_pair-clause-refused g c tells whole =
    let s = g.R.Reads.state c.args.space.now in
    let names = c.args.names.now.names in
    let pairs = c.in_ok-listed.listed.items in
    there_first s names whole c.args.label.now c.args.key.now
    (listed_there s names whole c.args.label.now c.args.key.now pairs (c.in_ok-listed.ensures.listed tells (wanted_in s.records) whole.store.indexes)
    c.pair_of-pair.result c.pair_of-pair.ensures
    (sym (listed_is g (goal.at.returns-then-has_pair-clause-refused g c).After-has_pair) ∙ c.if-has_pair.true))

pub returns-then-has_pair-clause-caused : goal.returns-then-has_pair-clause-caused
returns-then-has_pair-clause-caused g c tells =
    let s = g.R.Reads.state c.args.space.now in
    let names = c.args.names.now.names in
    there_caused s.records names c.in_ok-listed.listed.items c.args.label.now c.args.key.now c.pair_of-pair.result (c.in_ok-listed.ensures.walked tells)
    c.pair_of-pair.ensures
    (sym (listed_is g (goal.at.returns-then-has_pair-clause-caused g c).After-has_pair) ∙ c.if-has_pair.true)

pub returns-then-has_pair-clause-same : goal.returns-then-has_pair-clause-same
returns-then-has_pair-clause-same g c = reads_same 17 _ _ c.indexes.ensures.at_most

-- ---- there are as many as there may be

pub returns-then-len-ge-MOST_INDEXES-clause-refused : goal.returns-then-len-ge-MOST_INDEXES-clause-refused
returns-then-len-ge-MOST_INDEXES-clause-refused g c tells whole =
    let s = g.R.Reads.state c.args.space.now in
    let names = c.args.names.now.names in
    let pairs = c.in_ok-listed.listed.items in
    let are = c.in_ok-listed.ensures.listed tells (wanted_in s.records) whole.store.indexes in
    let unlisted = sym (listed_is g (goal.at.returns-then-len-ge-MOST_INDEXES-clause-refused g c).After-has_pair) ∙ c.if-has_pair.false in
    let long = pairs_long s names whole c.args.label.now c.args.key.now pairs are in
    let n = c.len.ensures in
    let m = c.deref.ensures.len in
    let v = ap length c.deref.ensures.value in
    let many = c.if-len-ge-MOST_INDEXES.true in
    many_first s names whole c.args.label.now c.args.key.now (unlisted_free s names whole c.args.label.now c.args.key.now pairs are c.pair_of-pair.result
    c.pair_of-pair.ensures unlisted) (omega arith)

pub returns-then-len-ge-MOST_INDEXES-clause-caused : goal.returns-then-len-ge-MOST_INDEXES-clause-caused
returns-then-len-ge-MOST_INDEXES-clause-caused g c tells =
    let s = g.R.Reads.state c.args.space.now in
    let n = c.len.ensures in
    let m = c.deref.ensures.len in
    let v = ap length c.deref.ensures.value in
    let many = c.if-len-ge-MOST_INDEXES.true in
    many_caused s.records c.in_ok-listed.listed.items (c.in_ok-listed.ensures.walked tells) (omega arith)

pub returns-then-len-ge-MOST_INDEXES-clause-same : goal.returns-then-len-ge-MOST_INDEXES-clause-same
returns-then-len-ge-MOST_INDEXES-clause-same g c = reads_same 17 _ _ c.indexes.ensures.at_most

-- ---- it may have one

pub returns-clause-may : goal.returns-clause-may
returns-clause-may g c tells whole =
    let s = g.R.Reads.state c.args.space.now in
    let names = c.args.names.now.names in
    let pairs = c.in_ok-listed.listed.items in
    let are = c.in_ok-listed.ensures.listed tells (wanted_in s.records) whole.store.indexes in
    let unlisted = sym (listed_is g (goal.at.returns-clause-may g c).After-has_pair) ∙ c.if-has_pair.false in
    let long = pairs_long s names whole c.args.label.now c.args.key.now pairs are in
    let n = c.len.ensures in
    let m = c.deref.ensures.len in
    let v = ap length c.deref.ensures.value in
    let few = c.if-len-ge-MOST_INDEXES.false in
    may_index s names whole c.args.label.now c.args.key.now (unlisted_free s names whole c.args.label.now c.args.key.now pairs are c.pair_of-pair.result
    c.pair_of-pair.ensures unlisted) (omega arith)

pub returns-clause-tested : goal.returns-clause-tested
returns-clause-tested g c tells =
    let n = c.len.ensures in
    let m = c.deref.ensures.len in
    let v = ap length c.deref.ensures.value in
    let few = c.if-len-ge-MOST_INDEXES.false in
    record {
      pair = c.pair_of-pair.result;
      pair_is = c.pair_of-pair.ensures;
      pairs = c.in_ok-listed.listed.items;
      met = c.in_ok-listed.ensures.walked tells;
      unlisted = sym (listed_is g (goal.at.returns-clause-tested g c).After-has_pair) ∙ c.if-has_pair.false;
      few = omega arith;
    }

pub returns-clause-same : goal.returns-clause-same
returns-clause-same g c = reads_same 17 _ _ c.indexes.ensures.at_most

pub returns-in_err-listed-clause-may : goal.returns-in_err-listed-clause-may
returns-in_err-listed-clause-may g c _ _ = never_ok c.from_residual.result _ _ c.from_residual.ensures.1

pub returns-in_err-listed-clause-tested : goal.returns-in_err-listed-clause-tested
returns-in_err-listed-clause-tested g c _ = never_ok c.from_residual.result _ _ c.from_residual.ensures.1

pub returns-in_err-listed-clause-onward : goal.returns-in_err-listed-clause-onward
returns-in_err-listed-clause-onward g c = search rules

pub returns-clause-cause : goal.returns-clause-cause
returns-clause-cause g c = ok_cause _ _ _ _ c.in_ok-listed.ensures.cause.later
