use Rattle.std.proofs.Common.{◌+◌, sym, ◌∙◌, arith}
use Rattle.std.proofs.lemmas.Bool.{true≢false}
use Rattle.rec_bytes.proofs.Causes.{never_ok, ok_cause}
use Rattle.rel_store.specs.Loading.{rel_mark}
use Rattle.chain_edit.proofs.Causes.{same_has}
use Rattle.group_store.specs.Loading.{group_mark}
use Rattle.expand.specs.Costs.{type_count}
use Rattle.expand.proofs.Causes.{same_cause_passed}
use Rattle.expand.proofs.UnknownTypes.{no_count, one_first, one_more, one_most}
use Rattle.expand.proofs.degrees.degree_of.Goals as goal
use Rattle.store_rules.specs.Graph.{graph_in}

-- ---- no number is a name's, and the node isn't found out about

pub returns-in_err-find_node-clause-rows : goal.returns-in_err-find_node-clause-rows
returns-in_err-find_node-clause-rows g c _ = never_ok c.from_residual.result _ _ c.from_residual.ensures.1

pub returns-in_err-find_node-clause-damaged : goal.returns-in_err-find_node-clause-damaged
returns-in_err-find_node-clause-damaged g c tells = same_has _ c.from_residual.result _ c.from_residual.ensures.1 (c.in_err-find_node.ensures.damaged tells)

pub returns-in_err-find_node-clause-reads : goal.returns-in_err-find_node-clause-reads
returns-in_err-find_node-clause-reads g c tells store = one_most _ _ c.args.direction c.args.labels.now c.args.node c.in_err-find_node.ensures.reads

pub returns-in_err-find_node-clause-counted_reads : goal.returns-in_err-find_node-clause-counted_reads
returns-in_err-find_node-clause-counted_reads g c tells store dense all =
    one_first (type_count (graph_in (g.R.Reads.state c.args.space.now)) c.args.node) _ _ c.in_err-find_node.ensures.reads

pub returns-in_err-find_node-clause-unknown : goal.returns-in_err-find_node-clause-unknown
returns-in_err-find_node-clause-unknown g c _ = c.in_err-find_node.ensures.reads

pub returns-in_err-find_node-clause-at_most : goal.returns-in_err-find_node-clause-at_most
returns-in_err-find_node-clause-at_most g c =
    let s = g.R.Reads.state c.args.space.now in
    one_more (group_mark s + rel_mark s) _ _ c.in_err-find_node.ensures.reads

pub returns-in_err-find_node-clause-onward : goal.returns-in_err-find_node-clause-onward
returns-in_err-find_node-clause-onward g c = c.in_err-find_node.ensures.onward

pub returns-in_err-find_node-clause-cause : goal.returns-in_err-find_node-clause-cause
returns-in_err-find_node-clause-cause g c =
    same_cause_passed _ _ _ c.from_residual.result c.in_err-find_node.field-0.0 (omega arith) c.in_err-find_node.ensures.cause c.from_residual.ensures.1

-- ---- none is, and the node is there

pub returns-then-are_no_names-clause-rows : goal.returns-then-are_no_names-clause-rows
returns-then-are_no_names-clause-rows g c = λ tells store.
    let s = g.R.Reads.state c.args.space.now in
    no_count s.records c.args.labels.now (sym c.are_no_names.ensures ∙ c.if-are_no_names.true) s.shape store c.args.direction c.args.node

pub returns-then-are_no_names-clause-reads : goal.returns-then-are_no_names-clause-reads
returns-then-are_no_names-clause-reads g c tells store = one_most _ _ c.args.direction c.args.labels.now c.args.node c.in_ok-find_node.ensures.reads

pub returns-then-are_no_names-clause-counted_reads : goal.returns-then-are_no_names-clause-counted_reads
returns-then-are_no_names-clause-counted_reads g c tells store dense all =
    one_first (type_count (graph_in (g.R.Reads.state c.args.space.now)) c.args.node) _ _ c.in_ok-find_node.ensures.reads

pub returns-then-are_no_names-clause-unknown : goal.returns-then-are_no_names-clause-unknown
returns-then-are_no_names-clause-unknown g c _ = c.in_ok-find_node.ensures.reads

pub returns-then-are_no_names-clause-at_most : goal.returns-then-are_no_names-clause-at_most
returns-then-are_no_names-clause-at_most g c =
    let s = g.R.Reads.state c.args.space.now in
    one_more (group_mark s + rel_mark s) _ _ c.in_ok-find_node.ensures.reads

pub returns-then-are_no_names-clause-onward : goal.returns-then-are_no_names-clause-onward
returns-then-are_no_names-clause-onward g c = c.in_ok-find_node.ensures.onward

pub returns-then-are_no_names-clause-cause : goal.returns-then-are_no_names-clause-cause
returns-then-are_no_names-clause-cause g c = ok_cause _ _ _ _ c.in_ok-find_node.ensures.cause.later

-- ---- one may be

pub returns-clause-unknown : goal.returns-clause-unknown
returns-clause-unknown g c = λ unknown. absurd (true≢false (sym unknown ∙ sym c.are_no_names.ensures ∙ c.if-are_no_names.false))
