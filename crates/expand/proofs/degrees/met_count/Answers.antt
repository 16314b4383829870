use Rattle.std.proofs.Common.{◌+◌, ◌∙◌, List, ap, subst, sym, arith, rules}
use Rattle.std.proofs.lemmas.Bool.{true≢false}
use Rattle.std.proofs.lemmas.Result.{err_from_is_err_and}
use Rattle.rec_bytes.specs.declared.meta.Meta.{Meta}
use Rattle.rel_store.specs.declared.edge_row.EdgeRow.{EdgeRow}
use Rattle.rel_store.specs.Loading.{rel_mark}
use Rattle.store_rules.proofs.NumberLaws.{eq_true}
use Rattle.chain_edit.specs.Walking.{ReadsAtMost}
use Rattle.group_store.specs.Loading.{group_mark}
use Rattle.expand.specs.Costs.{type_count}
use Rattle.expand.specs.Degrees.{as_number, rows_count}
use Rattle.expand.specs.Expanding.{rows_of}
use Rattle.expand.proofs.DenseDegrees.{if_degree, loaded_counted, loaded_degree, number_is, one_read}
use Rattle.expand.proofs.LoadedRows.{can_walk, chain_fault, chain_tells, dense_at_most, dense_fault, dense_most}
use Rattle.expand.proofs.LoadedRows.{load_most, mid_row, dense_tells, dense_test, members, none_there, one_there}
use Rattle.expand.proofs.LoadedRows.{row_fault, sound, sparse_at_most, sparse_part, sparse_reads}
use Rattle.expand.proofs.ReadCounts.{load_reads}
use Rattle.expand.proofs.RowCounts.{part_count}
use Rattle.rec_bytes.proofs.Causes.{never_ok, ok_cause}
use Rattle.expand.proofs.Causes.{expand_cause_passed, row_cause_passed}
use Rattle.expand.proofs.degrees.met_count.Goals as goal
use Rattle.store_rules.specs.Graph.{graph_in}

pub returns-in_err-row-clause-damaged : goal.returns-in_err-row-clause-damaged
returns-in_err-row-clause-damaged g c = λ tells.
    let p = err_from_is_err_and c.from_residual.result c.from_residual.ensures.1 in
    rw (p.1, p.2) (row_fault (g.R.Reads.state c.args.space.now) c.args.node c.in_err-row.field-0.0 (c.in_err-row.ensures.damaged tells))

pub returns-in_err-row-clause-at_most : goal.returns-in_err-row-clause-at_most
returns-in_err-row-clause-at_most g c =
    let s = g.R.Reads.state c.args.space.now in
    load_reads s (g.R.Reads.state c.load.new.space) c.args.node (group_mark s + rel_mark s) c.in_err-row.ensures.state

pub returns-in_default-clause-missing : goal.returns-in_default-clause-missing
returns-in_default-clause-missing g c = λ tells store. (
  λ i. c.args.node,
  none_there (g.R.Reads.state c.args.space.now) c.args.node (sym c.in_default.is ∙ c.in_ok-row.ensures.found tells),
)

pub returns-in_default-clause-at_most : goal.returns-in_default-clause-at_most
returns-in_default-clause-at_most g c =
    let s = g.R.Reads.state c.args.space.now in
    load_reads s (g.R.Reads.state c.load.new.space) c.args.node (group_mark s + rel_mark s) c.in_ok-row.ensures.state

-- ---- a dense node

pub returns-then-row-clause-rows : goal.returns-then-row-clause-rows
returns-then-row-clause-rows g c = λ tells.
    let s = g.R.Reads.state c.args.space.now in
    let mid = g.R.Reads.state c.load.new.space in
    let found = sym c.in-Some.is ∙ c.in_ok-row.ensures.found tells in
    if_degree c.dense_degree.result (λ count h store.
    loaded_degree s c.args.node c.in-Some.row found mid c.in_ok-row.ensures.state c.if-row.true store c.args.direction c.args.labels.now
    (g.R.Reads.state c.dense_degree.new.space) count h) (c.dense_degree.ensures.count tells)

pub returns-then-row-clause-missing : goal.returns-then-row-clause-missing
returns-then-row-clause-missing g c = λ tells store.
    let found = sym c.in-Some.is ∙ c.in_ok-row.ensures.found tells in
    dense_tells (g.R.Reads.state c.args.space.now) c.args.node c.in-Some.row found (g.R.Reads.state c.load.new.space) c.in_ok-row.ensures.state c.if-row.true
    c.dense_degree.result (c.dense_degree.ensures.damaged tells (mid_row (g.R.Reads.state c.args.space.now) c.args.node c.in-Some.row found
    (g.R.Reads.state c.load.new.space) c.in_ok-row.ensures.state c.if-row.true))

pub returns-then-row-clause-damaged : goal.returns-then-row-clause-damaged
returns-then-row-clause-damaged g c = λ tells.
    let found = sym c.in-Some.is ∙ c.in_ok-row.ensures.found tells in
    dense_fault (g.R.Reads.state c.args.space.now) c.args.node c.in-Some.row found (g.R.Reads.state c.load.new.space) c.in_ok-row.ensures.state c.if-row.true
    c.dense_degree.result (c.dense_degree.ensures.damaged tells (mid_row (g.R.Reads.state c.args.space.now) c.args.node c.in-Some.row found
    (g.R.Reads.state c.load.new.space) c.in_ok-row.ensures.state c.if-row.true))

pub returns-then-row-clause-reads : goal.returns-then-row-clause-reads
returns-then-row-clause-reads g c = λ tells store.
    let s = g.R.Reads.state c.args.space.now in
    let mid = g.R.Reads.state c.load.new.space in
    let found = sym c.in-Some.is ∙ c.in_ok-row.ensures.found tells in
    let can = can_walk s c.args.node c.in-Some.row found mid c.in_ok-row.ensures.state c.if-row.true store c.args.direction c.args.labels.now in
    dense_most s c.args.node c.in-Some.row found mid c.in_ok-row.ensures.state c.if-row.true store c.args.direction c.args.labels.now
    (g.R.Reads.state c.dense_degree.new.space)
    (c.dense_degree.ensures.few_reads tells _ _ can)

pub returns-then-row-clause-counted_reads : goal.returns-then-row-clause-counted_reads
returns-then-row-clause-counted_reads g c = λ tells store dense all.
    let s = g.R.Reads.state c.args.space.now in
    let mid = g.R.Reads.state c.load.new.space in
    let found = sym c.in-Some.is ∙ c.in_ok-row.ensures.found tells in
    let can = can_walk s c.args.node c.in-Some.row found mid c.in_ok-row.ensures.state c.if-row.true store c.args.direction c.args.labels.now in
    loaded_counted s c.args.node c.in-Some.row found mid c.in_ok-row.ensures.state c.if-row.true store c.args.direction c.args.labels.now
    (g.R.Reads.state c.dense_degree.new.space) all
    (c.dense_degree.ensures.counted_reads tells _ can.walkable)

pub returns-then-row-clause-at_most : goal.returns-then-row-clause-at_most
returns-then-row-clause-at_most g c =
    dense_at_most (g.R.Reads.state c.args.space.now) c.args.node (g.R.Reads.state c.load.new.space) (g.R.Reads.state c.dense_degree.new.space)
    c.in_ok-row.ensures.state c.dense_degree.ensures.at_most

-- ---- a sparse one

pub returns-in_err-rows-clause-missing : goal.returns-in_err-rows-clause-missing
returns-in_err-rows-clause-missing g c = λ tells store.
    let s = g.R.Reads.state c.args.space.now in
    let there = one_there s c.args.node c.in-Some.row (sym c.in-Some.is ∙ c.in_ok-row.ensures.found tells) in
    let p = err_from_is_err_and c.from_residual-in_err-rows.result c.from_residual-in_err-rows.ensures.1 in
    rw (p.1, p.2) (chain_tells s c.args.node there c.in_err-rows.field-0.0)

pub returns-in_err-rows-clause-damaged : goal.returns-in_err-rows-clause-damaged
returns-in_err-rows-clause-damaged g c = λ tells.
    let found = sym c.in-Some.is ∙ c.in_ok-row.ensures.found tells in
    let marked = ap (λ (meta : Meta). meta.high) c.meta-mark.ensures in
    let p = err_from_is_err_and c.from_residual-in_err-rows.result c.from_residual-in_err-rows.ensures.1 in
    rw (p.1, p.2) (chain_fault (g.R.Reads.state c.args.space.now) c.args.node c.in-Some.row found (g.R.Reads.state c.load.new.space) c.in_ok-row.ensures.state
    c.meta-mark.result.high marked c.if-row.false
    (c.in_ok-row.ensures.known tells) c.in_err-rows.field-0.0 (c.in_err-rows.ensures.damaged tells))

pub returns-in_err-rows-clause-at_most : goal.returns-in_err-rows-clause-at_most
returns-in_err-rows-clause-at_most g c =
    let s = g.R.Reads.state c.args.space.now in
    let mid = g.R.Reads.state c.load.new.space in
    let new = g.R.Reads.state c.walk.new.space in
    let marked = ap (λ (meta : Meta). meta.high) c.meta-mark.ensures in
    sparse_at_most s c.args.node mid new c.in_ok-row.ensures.state (subst (λ m. ReadsAtMost m mid new) marked c.in_err-rows.ensures.at_most)

pub returns-clause-rows : goal.returns-clause-rows
returns-clause-rows g c = λ tells store.
    let s = g.R.Reads.state c.args.space.now in
    let found = sym c.in-Some.is ∙ c.in_ok-row.ensures.found tells in
    let marked = ap (λ (meta : Meta). meta.high) c.meta-mark.ensures in
    let part = sparse_part s c.args.node c.in-Some.row found (g.R.Reads.state c.load.new.space) c.in_ok-row.ensures.state c.meta-mark.result.high marked
    c.if-row.false store
    c.in_ok-rows.rows.items (c.in_ok-rows.ensures.rows tells) c.args.direction c.args.labels.now in
    c.count_rows.ensures ∙ ap (λ (rows : List EdgeRow). as_number (rows_count c.args.direction c.args.labels.now c.args.node rows)) c.deref.ensures.value
    ∙ ap as_number (part_count c.args.direction c.args.labels.now c.args.node c.in_ok-rows.rows.items (rows_of s.records) part)
    ∙ number_is s store c.args.direction c.args.labels.now c.args.node

pub returns-clause-missing : goal.returns-clause-missing
returns-clause-missing g c = λ tells store.
    one_there (g.R.Reads.state c.args.space.now) c.args.node c.in-Some.row (sym c.in-Some.is ∙ c.in_ok-row.ensures.found tells)

pub returns-clause-reads : goal.returns-clause-reads
returns-clause-reads g c = λ tells store.
    let s = g.R.Reads.state c.args.space.now in
    let mid = g.R.Reads.state c.load.new.space in
    let row = c.in-Some.row in
    let n = c.args.node in
    let found = sym c.in-Some.is ∙ c.in_ok-row.ensures.found tells in
    let loaded = c.in_ok-row.ensures.state in
    let mark = c.meta-mark.result.high in
    let marked = ap (λ (meta : Meta). meta.high) c.meta-mark.ensures in
    sparse_reads s n row found mid loaded mark marked c.if-row.false store c.args.direction c.args.labels.now (g.R.Reads.state c.walk.new.space)
    (c.in_ok-rows.ensures.few_reads tells (members s n row found mid loaded mark marked c.if-row.false store) (sound s n row found mid loaded mark marked
    c.if-row.false store))

pub returns-in_err-rows-clause-reads : goal.returns-in_err-rows-clause-reads
returns-in_err-rows-clause-reads g c = λ tells store.
    let s = g.R.Reads.state c.args.space.now in
    let mid = g.R.Reads.state c.load.new.space in
    let row = c.in-Some.row in
    let n = c.args.node in
    let found = sym c.in-Some.is ∙ c.in_ok-row.ensures.found tells in
    let loaded = c.in_ok-row.ensures.state in
    let mark = c.meta-mark.result.high in
    let marked = ap (λ (meta : Meta). meta.high) c.meta-mark.ensures in
    sparse_reads s n row found mid loaded mark marked c.if-row.false store c.args.direction c.args.labels.now (g.R.Reads.state c.walk.new.space)
    (c.in_err-rows.ensures.few_reads tells (members s n row found mid loaded mark marked c.if-row.false store) (sound s n row found mid loaded mark marked
    c.if-row.false store))

pub returns-in_err-row-clause-reads : goal.returns-in_err-row-clause-reads
returns-in_err-row-clause-reads g c = λ tells store. load_most (g.R.Reads.state c.args.space.now) (g.R.Reads.state c.load.new.space) c.args.node
    c.args.direction c.args.labels.now c.in_err-row.ensures.state

pub returns-in_default-clause-reads : goal.returns-in_default-clause-reads
returns-in_default-clause-reads g c = λ tells store. load_most (g.R.Reads.state c.args.space.now) (g.R.Reads.state c.load.new.space) c.args.node
    c.args.direction c.args.labels.now c.in_ok-row.ensures.state

pub returns-in_default-clause-damaged : goal.returns-in_default-clause-damaged
returns-in_default-clause-damaged g c = λ tells. (λ i. c.args.node, sym (sym c.in_default.is ∙ c.in_ok-row.ensures.found tells))

pub returns-clause-counted_reads : goal.returns-clause-counted_reads
returns-clause-counted_reads g c = λ tells store dense all.
    let found = sym c.in-Some.is ∙ c.in_ok-row.ensures.found tells in
    absurd (true≢false (sym (eq_true _ _ dense) ∙ sym (dense_test (g.R.Reads.state c.args.space.now) c.args.node c.in-Some.row found) ∙ c.if-row.false))

pub returns-in_err-rows-clause-counted_reads : goal.returns-in_err-rows-clause-counted_reads
returns-in_err-rows-clause-counted_reads g c = λ tells store dense all.
    let found = sym c.in-Some.is ∙ c.in_ok-row.ensures.found tells in
    absurd (true≢false (sym (eq_true _ _ dense) ∙ sym (dense_test (g.R.Reads.state c.args.space.now) c.args.node c.in-Some.row found) ∙ c.if-row.false))

pub returns-in_err-row-clause-counted_reads : goal.returns-in_err-row-clause-counted_reads
returns-in_err-row-clause-counted_reads g c = λ tells store dense all. one_read (type_count (graph_in (g.R.Reads.state c.args.space.now)) c.args.node)
    (g.R.Reads.state c.args.space.now) (g.R.Reads.state c.load.new.space)
    (load_reads (g.R.Reads.state c.args.space.now) (g.R.Reads.state c.load.new.space) c.args.node (type_count (graph_in (g.R.Reads.state c.args.space.now))
    c.args.node) c.in_err-row.ensures.state)

pub returns-in_default-clause-counted_reads : goal.returns-in_default-clause-counted_reads
returns-in_default-clause-counted_reads g c = λ tells store dense all. one_read (type_count (graph_in (g.R.Reads.state c.args.space.now)) c.args.node)
    (g.R.Reads.state c.args.space.now) (g.R.Reads.state c.load.new.space)
    (load_reads (g.R.Reads.state c.args.space.now) (g.R.Reads.state c.load.new.space) c.args.node (type_count (graph_in (g.R.Reads.state c.args.space.now))
    c.args.node) c.in_ok-row.ensures.state)

pub returns-clause-at_most : goal.returns-clause-at_most
returns-clause-at_most g c =
    let s = g.R.Reads.state c.args.space.now in
    let mid = g.R.Reads.state c.load.new.space in
    let new = g.R.Reads.state c.walk.new.space in
    let marked = ap (λ (meta : Meta). meta.high) c.meta-mark.ensures in
    sparse_at_most s c.args.node mid new c.in_ok-row.ensures.state (subst (λ m. ReadsAtMost m mid new) marked c.in_ok-rows.ensures.at_most)

pub returns-in_err-row-clause-rows : goal.returns-in_err-row-clause-rows
returns-in_err-row-clause-rows g c _ = never_ok c.from_residual.result _ _ c.from_residual.ensures.1

pub returns-in_err-row-clause-onward : goal.returns-in_err-row-clause-onward
returns-in_err-row-clause-onward g c = search rules

pub returns-in_err-rows-clause-rows : goal.returns-in_err-rows-clause-rows
returns-in_err-rows-clause-rows g c _ = never_ok c.from_residual-in_err-rows.result _ _ c.from_residual-in_err-rows.ensures.1

pub returns-clause-cause : goal.returns-clause-cause
returns-clause-cause g c = ok_cause _ _ _ _ (omega arith)

pub returns-in_err-row-clause-cause : goal.returns-in_err-row-clause-cause
returns-in_err-row-clause-cause g c =
    row_cause_passed _ _ _ c.from_residual.result c.in_err-row.field-0.0 (omega arith) c.in_err-row.ensures.cause c.from_residual.ensures.1

pub returns-in_err-rows-clause-cause : goal.returns-in_err-rows-clause-cause
returns-in_err-rows-clause-cause g c =
    expand_cause_passed _ _ _ c.from_residual-in_err-rows.result c.in_err-rows.field-0.0 c.in_ok-row.ensures.cause.later c.in_err-rows.ensures.cause
    c.from_residual-in_err-rows.ensures.1

pub returns-in_err-rows-clause-onward : goal.returns-in_err-rows-clause-onward
returns-in_err-rows-clause-onward g c =
    g.met.R.Reads.further_onward _ _ _ c.in_ok-row.ensures.onward c.in_err-rows.ensures.onward
