use Rattle.std.proofs.Common.{◌+◌, Vec, List, map, subst, sym, ◌∙◌, arith}
use Rattle.std.proofs.lemmas.Bool.{true≢false}
use Rattle.std.proofs.lemmas.Result.{IfOk-weaker}
use Rattle.std.specs.declared.alloc.Global.{Global}
use Rattle.plain_graph.specs.Meaning.{edges_at}
use Rattle.rec_bytes.proofs.Causes.{never_ok, ok_cause}
use Rattle.rel_store.specs.declared.edge_row.EdgeRow.{EdgeRow}
use Rattle.rel_store.specs.Loading.{rel_mark}
use Rattle.chain_edit.specs.Walking.{ReadsAtMost}
use Rattle.chain_edit.proofs.Causes.{same_has}
use Rattle.group_store.specs.Loading.{group_mark}
use Rattle.expand.specs.Expanding.{AreRowsOf, name_of}
use Rattle.expand.proofs.Causes.{same_cause_passed}
use Rattle.expand.proofs.ManyEdges.{most_is_dense}
use Rattle.expand.proofs.ModelEdges.{names_stand, rows_at_are}
use Rattle.expand.proofs.UnknownTypes.{no_rows, one_dense, one_more, one_most}
use Rattle.expand.proofs.expanding.expand.Goals as goal
use Rattle.store_rules.specs.Graph.{graph_in}

-- ---- no number is a name's, and the node isn't found out about

pub returns-in_err-find_node-clause-edges : goal.returns-in_err-find_node-clause-edges
returns-in_err-find_node-clause-edges g c _ = never_ok c.from_residual.result _ _ c.from_residual.ensures.1

pub returns-in_err-find_node-clause-rows : goal.returns-in_err-find_node-clause-rows
returns-in_err-find_node-clause-rows g c _ = never_ok c.from_residual.result _ _ c.from_residual.ensures.1

pub returns-in_err-find_node-clause-damaged : goal.returns-in_err-find_node-clause-damaged
returns-in_err-find_node-clause-damaged g c tells = same_has _ c.from_residual.result _ c.from_residual.ensures.1 (c.in_err-find_node.ensures.damaged tells)

pub returns-in_err-find_node-clause-reads : goal.returns-in_err-find_node-clause-reads
returns-in_err-find_node-clause-reads g c tells store = one_most _ _ c.args.direction c.args.labels.now c.args.node c.in_err-find_node.ensures.reads

pub returns-in_err-find_node-clause-dense_reads : goal.returns-in_err-find_node-clause-dense_reads
returns-in_err-find_node-clause-dense_reads g c tells store many = one_dense _ _ c.args.direction c.args.labels.now c.args.node c.in_err-find_node.ensures.reads

pub returns-in_err-find_node-clause-unknown : goal.returns-in_err-find_node-clause-unknown
returns-in_err-find_node-clause-unknown g c _ = c.in_err-find_node.ensures.reads

pub returns-in_err-find_node-clause-at_most : goal.returns-in_err-find_node-clause-at_most
returns-in_err-find_node-clause-at_most g c =
    let s = g.R.Reads.state c.args.space.now in
    one_more (group_mark s + rel_mark s) _ _ c.in_err-find_node.ensures.reads

pub returns-in_err-find_node-clause-onward : goal.returns-in_err-find_node-clause-onward
returns-in_err-find_node-clause-onward g c = c.in_err-find_node.ensures.onward

pub returns-in_err-find_node-clause-cause : goal.returns-in_err-find_node-clause-cause
returns-in_err-find_node-clause-cause g c =
    same_cause_passed _ _ _ c.from_residual.result c.in_err-find_node.field-0.0 (omega arith) c.in_err-find_node.ensures.cause c.from_residual.ensures.1

-- ---- none is, and the node is there

pub returns-then-are_no_names-clause-rows : goal.returns-then-are_no_names-clause-rows
returns-then-are_no_names-clause-rows g c = λ tells store.
    let s = g.R.Reads.state c.args.space.now in
    c.new.ensures.items
    ∙ sym (no_rows s.records c.args.labels.now (sym c.are_no_names.ensures ∙ c.if-are_no_names.true) s.shape store c.args.direction c.args.node)

pub returns-then-are_no_names-clause-edges : goal.returns-then-are_no_names-clause-edges
returns-then-are_no_names-clause-edges g c = λ tells store names.
    let s = g.R.Reads.state c.args.space.now in
    let labels = c.args.labels.now in
    let texts = map (name_of s.records) labels in
    subst (λ (rows : List EdgeRow). AreRowsOf s.records rows (edges_at (graph_in s) c.args.direction texts c.args.node))
    (sym {A = List EdgeRow} (returns-then-are_no_names-clause-rows g c tells store))
    (rows_at_are s.records s.shape store labels texts (names_stand s.records s.shape store labels names) c.args.node c.args.direction)

pub returns-then-are_no_names-clause-reads : goal.returns-then-are_no_names-clause-reads
returns-then-are_no_names-clause-reads g c tells store = one_most _ _ c.args.direction c.args.labels.now c.args.node c.in_ok-find_node.ensures.reads

pub returns-then-are_no_names-clause-dense_reads : goal.returns-then-are_no_names-clause-dense_reads
returns-then-are_no_names-clause-dense_reads g c tells store many = one_dense _ _ c.args.direction c.args.labels.now c.args.node c.in_ok-find_node.ensures.reads

pub returns-then-are_no_names-clause-unknown : goal.returns-then-are_no_names-clause-unknown
returns-then-are_no_names-clause-unknown g c _ = c.in_ok-find_node.ensures.reads

pub returns-then-are_no_names-clause-at_most : goal.returns-then-are_no_names-clause-at_most
returns-then-are_no_names-clause-at_most g c =
    let s = g.R.Reads.state c.args.space.now in
    one_more (group_mark s + rel_mark s) _ _ c.in_ok-find_node.ensures.reads

pub returns-then-are_no_names-clause-onward : goal.returns-then-are_no_names-clause-onward
returns-then-are_no_names-clause-onward g c = c.in_ok-find_node.ensures.onward

pub returns-then-are_no_names-clause-cause : goal.returns-then-are_no_names-clause-cause
returns-then-are_no_names-clause-cause g c = ok_cause _ _ _ _ c.in_ok-find_node.ensures.cause.later

-- ---- one may be

pub returns-clause-edges : goal.returns-clause-edges
returns-clause-edges g c = λ tells.
    let s = g.R.Reads.state c.args.space.now in
    let labels = c.args.labels.now in
    let texts = map (name_of s.records) labels in
    IfOk-weaker c.rows_met.result _ _
    (λ (rows : Vec EdgeRow Global) is store names.
    subst (λ (list : List EdgeRow). AreRowsOf s.records list (edges_at (graph_in s) c.args.direction texts c.args.node))
    (sym {A = List EdgeRow} (is store))
    (rows_at_are s.records s.shape store labels texts (names_stand s.records s.shape store labels names) c.args.node c.args.direction))
    (c.rows_met.ensures.rows tells)

pub returns-clause-dense_reads : goal.returns-clause-dense_reads
returns-clause-dense_reads g c = λ tells store many.
    let s = g.R.Reads.state c.args.space.now in
    subst (λ most. ReadsAtMost most s (g.R.Reads.state c.rows_met.new.space))
    (most_is_dense s store c.args.node many c.args.direction c.args.labels.now) (c.rows_met.ensures.reads tells store)

pub returns-clause-unknown : goal.returns-clause-unknown
returns-clause-unknown g c = λ unknown. absurd (true≢false (sym unknown ∙ sym c.are_no_names.ensures ∙ c.if-are_no_names.false))
