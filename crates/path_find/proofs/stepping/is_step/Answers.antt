use Rattle.std.proofs.Common.{ℕ, List, Contains, sym, subst, ◌∙◌, arith}
use Rattle.std.proofs.lemmas.Bool.{OnFalse_at, OnFalse_from, OnTrue_at, OnTrue_from, false≢true}
use Rattle.path_find.specs.Checking.{IsStep}
use Rattle.path_find.specs.WalkSearch.{neighbours_for}
use Rattle.rec_bytes.proofs.Causes.{never_ok}
use Rattle.chain_edit.proofs.Causes.{same_has}
use Rattle.path_find.proofs.Causes.{cause_passed}
use Rattle.path_find.proofs.stepping.is_step.Goals as goal

pub returns-in-Some-clause-yes : goal.returns-in-Some-clause-yes
returns-in-Some-clause-yes g c = λ tells store.
    let are = rw c.in-Some.is at c.in_ok-found.ensures.some tells store in
    let there = rw c.in-Some.is at c.in_ok-found.ensures.there tells store in
    let near = neighbours_for (g.R.Reads.state c.args.reads.now) c.args.sought.now in
    OnTrue_from c.has_node.result (IsStep near c.args.node c.args.next) (λ e. record {
      there = there;
      edge = are.only c.args.next (subst (λ (ends : List ℕ). Contains ends c.args.next) c.deref.ensures.value (OnTrue_at e c.has_node.ensures.yes));
    })

pub returns-in-Some-clause-no : goal.returns-in-Some-clause-no
returns-in-Some-clause-no g c = λ tells store.
    let are = rw c.in-Some.is at c.in_ok-found.ensures.some tells store in
    let near = neighbours_for (g.R.Reads.state c.args.reads.now) c.args.sought.now in
    OnFalse_from c.has_node.result (¬ IsStep near c.args.node c.args.next)
    (λ e. λ step. OnFalse_at e c.has_node.ensures.no (subst (λ (ends : List ℕ). Contains ends c.args.next) (sym c.deref.ensures.value)
    (are.all c.args.next step.edge)))

pub returns-in-None-clause-no : goal.returns-in-None-clause-no
returns-in-None-clause-no g c = λ tells store. λ step.
    let gone = rw c.in-None.is at c.in_ok-found.ensures.none tells store in
    false≢true (sym gone ∙ step.there)

pub returns-in_err-found-clause-yes : goal.returns-in_err-found-clause-yes
returns-in_err-found-clause-yes g c _ _ = never_ok c.from_residual.result _ _ c.from_residual.ensures.1

pub returns-in_err-found-clause-no : goal.returns-in_err-found-clause-no
returns-in_err-found-clause-no g c _ _ = never_ok c.from_residual.result _ _ c.from_residual.ensures.1

pub returns-in_err-found-clause-damaged : goal.returns-in_err-found-clause-damaged
returns-in_err-found-clause-damaged g c tells =
    same_has _ c.from_residual.result _ c.from_residual.ensures.1 (c.in_err-found.ensures.damaged tells)

pub returns-in_err-found-clause-read : goal.returns-in_err-found-clause-read
returns-in_err-found-clause-read g c = c.neighbours.ensures.read

pub returns-in_err-found-clause-cause : goal.returns-in_err-found-clause-cause
returns-in_err-found-clause-cause g c =
    cause_passed _ _ _ c.from_residual.result c.in_err-found.field-0.0 (omega arith) c.in_err-found.ensures.cause c.from_residual.ensures.1

pub returns-in_err-found-clause-cost : goal.returns-in_err-found-clause-cost
returns-in_err-found-clause-cost g c = c.neighbours.ensures.cost

pub returns-in-Some-clause-cost : goal.returns-in-Some-clause-cost
returns-in-Some-clause-cost g c = c.neighbours.ensures.cost

pub returns-in-None-clause-cost : goal.returns-in-None-clause-cost
returns-in-None-clause-cost g c = c.neighbours.ensures.cost
