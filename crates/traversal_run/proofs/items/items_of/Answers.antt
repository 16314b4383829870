use Rattle.std.proofs.Common.{◌≡◌, ◌∙◌, ap, subst}
use Rattle.rec_bytes.specs.Space.{State}
use Rattle.store_rules.specs.Graph.{graph_of}
use Rattle.traversal_run.specs.Row.{Stream}
use Rattle.traversal_run.specs.Run.{to_come}
use Rattle.traversal_run.proofs.OnlyReads.{is_read-on, named-read}
use Rattle.rec_bytes.proofs.Causes.{never_ok}
use Rattle.traversal_run.proofs.items.items_of.Goals as goal

pub returns-clause-items : goal.returns-clause-items
returns-clause-items g c = λ tells store.
    let old = c.args.space.now in
    let now = c.new.new.space in
    let items = c.in_ok-items.items.items in
    let read = c.new.ensures.read in
    let run = c.in_ok-run.run' in
    let taken = c.in_ok-items.ensures.items tells (named-read g.R.Reads old now c.args.names.now.names read store) in
    subst (λ (s : State). items ≡ (to_come (graph_of s.records) run).items) read.same taken
    ∙ ap (λ (s : Stream). s.items) (c.in_ok-run.ensures.found tells store)

pub returns-in_err-run-clause-items : goal.returns-in_err-run-clause-items
returns-in_err-run-clause-items g c _ _ = never_ok c.from_residual.result _ _ c.from_residual.ensures.1

pub returns-in_err-run-clause-shown : goal.returns-in_err-run-clause-shown
returns-in_err-run-clause-shown g c = never_ok c.from_residual.result _ _ c.from_residual.ensures.1

pub returns-in_err-run-clause-there : goal.returns-in_err-run-clause-there
returns-in_err-run-clause-there g c _ _ = never_ok c.from_residual.result _ _ c.from_residual.ensures.1

pub returns-in_err-items-clause-items : goal.returns-in_err-items-clause-items
returns-in_err-items-clause-items g c _ _ = never_ok c.from_residual-in_err-items.result _ _ c.from_residual-in_err-items.ensures.1

pub returns-in_err-items-clause-shown : goal.returns-in_err-items-clause-shown
returns-in_err-items-clause-shown g c = never_ok c.from_residual-in_err-items.result _ _ c.from_residual-in_err-items.ensures.1

pub returns-in_err-items-clause-there : goal.returns-in_err-items-clause-there
returns-in_err-items-clause-there g c _ _ = never_ok c.from_residual-in_err-items.result _ _ c.from_residual-in_err-items.ensures.1

pub returns-in_err-run-clause-read : goal.returns-in_err-run-clause-read
returns-in_err-run-clause-read g c = c.in_err-run.ensures.read

pub returns-in_err-items-clause-read : goal.returns-in_err-items-clause-read
returns-in_err-items-clause-read g c =
    is_read-on g.R.Reads g.met.R.Reads.further_onward _ _ _ c.in_ok-run.ensures.read c.in_err-items.ensures.read

pub returns-clause-read : goal.returns-clause-read
returns-clause-read g c =
    is_read-on g.R.Reads g.met.R.Reads.further_onward _ _ _ c.in_ok-run.ensures.read c.in_ok-items.ensures.read
