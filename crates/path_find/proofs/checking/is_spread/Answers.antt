use Rattle.std.proofs.Common.{ℕ, Bool, if◌then◌else◌, List, sym, subst, ◌∙◌, arith}
use Rattle.std.proofs.lemmas.Bool.{OnFalse_at, OnFalse_from, OnTrue_at, OnTrue_from, false≢true}
use Rattle.chain_edit.specs.Walking.{ReadsAtMost}
use Rattle.expand.specs.Costs.{most_reads}
use Rattle.path_find.proofs.Costs.{reads_none}
use Rattle.path_find.specs.Checking.{AreIn, IsSpreadAt}
use Rattle.path_find.specs.WalkSearch.{neighbours_for}
use Rattle.std.proofs.lemmas.Result.{err_from_is_err_and}
use Rattle.path_find.proofs.Answered.{load_fault}
use Rattle.path_find.proofs.CheckLaws.{inner_fails, inner_spreads, last_spreads, past_fails}
use Rattle.rec_bytes.proofs.Causes.{never_ok}
use Rattle.chain_edit.proofs.Causes.{same_has}
use Rattle.path_find.proofs.Causes.{cause_passed, row_passed}
use Rattle.path_find.proofs.checking.is_spread.Goals as goal

pub returns-then-is_past-clause-no : goal.returns-then-is_past-clause-no
returns-then-is_past-clause-no g c = λ tells store.
    past_fails (neighbours_for (g.R.Reads.state c.args.reads.now) c.args.sought.now) c.args.claim.now.levels.now c.args.row c.args.claim.now.edges
    (sym c.is_past.ensures ∙ c.if-is_past.true)

pub returns-then-is_last-clause-yes : goal.returns-then-is_last-clause-yes
returns-then-is_last-clause-yes g c = λ tells store.
    let near = neighbours_for (g.R.Reads.state c.args.reads.now) c.args.sought.now in
    OnTrue_from c.in_ok-there.there (IsSpreadAt near c.args.claim.now.levels.now c.args.claim.now.edges c.args.row)
    (λ e. last_spreads near c.args.claim.now.levels.now c.args.row c.args.claim.now.edges (sym c.is_past.ensures ∙ c.if-is_past.false)
    (sym c.is_last.ensures ∙ c.if-is_last.true)
    (sym (c.in_ok-there.ensures.is tells store) ∙ e))

pub returns-then-is_last-clause-no : goal.returns-then-is_last-clause-no
returns-then-is_last-clause-no g c = λ tells store.
    let near = neighbours_for (g.R.Reads.state c.args.reads.now) c.args.sought.now in
    OnFalse_from c.in_ok-there.there (¬ IsSpreadAt near c.args.claim.now.levels.now c.args.claim.now.edges c.args.row)
    (λ e. λ spread. false≢true (sym e ∙ c.in_ok-there.ensures.is tells store ∙ spread.node))

pub returns-in_err-there-clause-damaged : goal.returns-in_err-there-clause-damaged
returns-in_err-there-clause-damaged g c = λ tells.
    let p = err_from_is_err_and c.from_residual.result c.from_residual.ensures.1 in
    rw (p.1, p.2) (load_fault (g.R.Reads.state c.args.reads.now) c.args.row.node c.in_err-there.field-0.0 (c.in_err-there.ensures.damaged tells))

pub returns-in-Some-clause-yes : goal.returns-in-Some-clause-yes
returns-in-Some-clause-yes g c = λ tells store.
    let near = neighbours_for (g.R.Reads.state c.args.reads.now) c.args.sought.now in
    let are = rw c.in-Some.is at c.in_ok-found.ensures.some tells store in
    let there = rw c.in-Some.is at c.in_ok-found.ensures.there tells store in
    OnTrue_from c.are_held.result (IsSpreadAt near c.args.claim.now.levels.now c.args.claim.now.edges c.args.row)
    (λ e. inner_spreads near c.args.claim.now.levels.now c.args.row c.in-Some.ends.items are c.args.claim.now.edges (sym c.is_past.ensures ∙ c.if-is_past.false)
    there
    (subst (λ (ends : List ℕ). AreIn c.args.claim.now.levels.now c.args.claim.now.edges c.args.row ends) c.deref.ensures.value
    (OnTrue_at e c.are_held.ensures.yes)))

pub returns-in-Some-clause-no : goal.returns-in-Some-clause-no
returns-in-Some-clause-no g c = λ tells store.
    let near = neighbours_for (g.R.Reads.state c.args.reads.now) c.args.sought.now in
    let are = rw c.in-Some.is at c.in_ok-found.ensures.some tells store in
    OnFalse_from c.are_held.result (¬ IsSpreadAt near c.args.claim.now.levels.now c.args.claim.now.edges c.args.row)
    (λ e. inner_fails near c.args.claim.now.levels.now c.args.row c.in-Some.ends.items are c.args.claim.now.edges
    (λ held. OnFalse_at e c.are_held.ensures.no (subst (λ (ends : List ℕ). AreIn c.args.claim.now.levels.now c.args.claim.now.edges c.args.row ends)
    (sym c.deref.ensures.value)
    held)))

pub returns-in-None-clause-no : goal.returns-in-None-clause-no
returns-in-None-clause-no g c = λ tells store. λ spread.
    let gone = rw c.in-None.is at c.in_ok-found.ensures.none tells store in
    false≢true (sym gone ∙ spread.node)

pub returns-in_err-there-clause-yes : goal.returns-in_err-there-clause-yes
returns-in_err-there-clause-yes g c _ _ = never_ok c.from_residual.result _ _ c.from_residual.ensures.1

pub returns-in_err-there-clause-no : goal.returns-in_err-there-clause-no
returns-in_err-there-clause-no g c _ _ = never_ok c.from_residual.result _ _ c.from_residual.ensures.1

pub returns-in_err-found-clause-yes : goal.returns-in_err-found-clause-yes
returns-in_err-found-clause-yes g c _ _ = never_ok c.from_residual-in_err-found.result _ _ c.from_residual-in_err-found.ensures.1

pub returns-in_err-found-clause-no : goal.returns-in_err-found-clause-no
returns-in_err-found-clause-no g c _ _ = never_ok c.from_residual-in_err-found.result _ _ c.from_residual-in_err-found.ensures.1

pub returns-in_err-found-clause-damaged : goal.returns-in_err-found-clause-damaged
returns-in_err-found-clause-damaged g c tells =
    same_has _ c.from_residual-in_err-found.result _ c.from_residual-in_err-found.ensures.1 (c.in_err-found.ensures.damaged tells)

pub returns-in_err-found-clause-read : goal.returns-in_err-found-clause-read
returns-in_err-found-clause-read g c = c.neighbours.ensures.read

pub returns-in_err-found-clause-cause : goal.returns-in_err-found-clause-cause
returns-in_err-found-clause-cause g c =
    cause_passed _ _ _ c.from_residual-in_err-found.result c.in_err-found.field-0.0 (omega arith) c.in_err-found.ensures.cause
    c.from_residual-in_err-found.ensures.1

pub returns-in_err-there-clause-read : goal.returns-in_err-there-clause-read
returns-in_err-there-clause-read g c = c.is_node.ensures.read

pub returns-in_err-there-clause-cause : goal.returns-in_err-there-clause-cause
returns-in_err-there-clause-cause g c =
    row_passed _ _ _ c.from_residual.result c.in_err-there.field-0.0 (omega arith) c.in_err-there.ensures.cause c.from_residual.ensures.1

-- ---- what is read

pub returns-then-is_past-clause-cost : goal.returns-then-is_past-clause-cost
returns-then-is_past-clause-cost g c = λ tells store. reads_none _ (g.R.Reads.state c.args.reads.now)

pub returns-in_err-there-clause-cost : goal.returns-in_err-there-clause-cost
returns-in_err-there-clause-cost g c = λ tells store.
    let old = g.R.Reads.state c.args.reads.now in
    let f = most_reads old c.args.sought.now.direction c.args.sought.now.labels.now c.args.row.node in
    subst (λ (last : Bool). ReadsAtMost (if last then 1 else f) old (g.R.Reads.state c.is_node.new.reads)) (sym (sym c.is_last.ensures ∙ c.if-is_last.true))
    c.is_node.ensures.cost

pub returns-then-is_last-clause-cost : goal.returns-then-is_last-clause-cost
returns-then-is_last-clause-cost g c = λ tells store.
    let old = g.R.Reads.state c.args.reads.now in
    let f = most_reads old c.args.sought.now.direction c.args.sought.now.labels.now c.args.row.node in
    subst (λ (last : Bool). ReadsAtMost (if last then 1 else f) old (g.R.Reads.state c.is_node.new.reads)) (sym (sym c.is_last.ensures ∙ c.if-is_last.true))
    c.is_node.ensures.cost

pub returns-in_err-found-clause-cost : goal.returns-in_err-found-clause-cost
returns-in_err-found-clause-cost g c = λ tells store.
    let old = g.R.Reads.state c.args.reads.now in
    let f = most_reads old c.args.sought.now.direction c.args.sought.now.labels.now c.args.row.node in
    subst (λ (last : Bool). ReadsAtMost (if last then 1 else f) old (g.R.Reads.state c.neighbours.new.space)) (sym (sym c.is_last.ensures
    ∙ c.if-is_last.false)) (c.neighbours.ensures.cost tells store)

pub returns-in-Some-clause-cost : goal.returns-in-Some-clause-cost
returns-in-Some-clause-cost g c = λ tells store.
    let old = g.R.Reads.state c.args.reads.now in
    let f = most_reads old c.args.sought.now.direction c.args.sought.now.labels.now c.args.row.node in
    subst (λ (last : Bool). ReadsAtMost (if last then 1 else f) old (g.R.Reads.state c.neighbours.new.space)) (sym (sym c.is_last.ensures
    ∙ c.if-is_last.false)) (c.neighbours.ensures.cost tells store)

pub returns-in-None-clause-cost : goal.returns-in-None-clause-cost
returns-in-None-clause-cost g c = λ tells store.
    let old = g.R.Reads.state c.args.reads.now in
    let f = most_reads old c.args.sought.now.direction c.args.sought.now.labels.now c.args.row.node in
    subst (λ (last : Bool). ReadsAtMost (if last then 1 else f) old (g.R.Reads.state c.neighbours.new.space)) (sym (sym c.is_last.ensures
    ∙ c.if-is_last.false)) (c.neighbours.ensures.cost tells store)
