use Rattle.std.proofs.Common.{◌≡◌, ap, ◌∙◌, subst, sym, rules}
use Rattle.std.proofs.lemmas.Result.{err_from_is_err_and}
use Rattle.rec_bytes.specs.Record.{field}
use Rattle.store_rules.specs.Chains.{prev_in}
use Rattle.chain_edit.specs.Chains.{prev_of}
use Rattle.chain_edit.specs.Walking.{IsStepDamage}
use Rattle.chain_edit.specs.Walking.IsStepDamage.{NoStep}
use Rattle.chain_edit.proofs.Walks.{link_step, reads_none, reads_one}
use Rattle.rec_bytes.proofs.Causes.{never_ok}
use Rattle.chain_edit.proofs.walking.read_next.Goals as goal

pub returns-in_err-test_within-clause-at_most : goal.returns-in_err-test_within-clause-at_most
returns-in_err-test_within-clause-at_most g c = reads_none (g.R.Reads.state c.args.space.now) 1

pub returns-in_err-test_within-clause-damaged : goal.returns-in_err-test_within-clause-damaged
returns-in_err-test_within-clause-damaged g c = λ tells.
    let p = err_from_is_err_and c.from_residual.result c.from_residual.ensures.1 in
    rw (p.1, p.2) (link_step (g.R.Reads.state c.args.space.now) c.args.chain.now.owner c.args.chain.now.node c.args.before c.args.at c.chain_damage.result
    c.in_err-test_within.field-0.0
    c.chain_damage.ensures c.in_err-test_within.ensures.damaged)

pub returns-in_err-get_into-clause-at_most : goal.returns-in_err-get_into-clause-at_most
returns-in_err-get_into-clause-at_most g c = reads_one (g.R.Reads.state c.args.space.now) (g.R.Reads.state c.get_into.new.self) c.in_err-get_into.ensures.state

pub returns-then-link-before-clause-at_most : goal.returns-then-link-before-clause-at_most
returns-then-link-before-clause-at_most g c = reads_one (g.R.Reads.state c.args.space.now) (g.R.Reads.state c.get_into.new.self) c.in_ok-get_into.ensures.state

pub returns-then-link-before-clause-damaged : goal.returns-then-link-before-clause-damaged
returns-then-link-before-clause-damaged g c = λ tells.
    let s = g.R.Reads.state c.args.space.now in
    let link : c.link.result ≡ prev_of s.records c.args.chain.now.node c.args.at =
    c.link.ensures ∙ ap (λ at. field 4 c.get_into.new.rec at) c.place_of.ensures.is ∙ ap (λ r. prev_in r c.args.chain.now.node)
    (c.in_ok-get_into.ensures.got tells) in
    subst (IsStepDamage s c.args.chain.now.owner c.args.chain.now.node c.args.before c.args.at) (sym c.chain_damage-then-link-before.ensures)
    (NoStep (λ lt e. c.if-link-before.true (link ∙ e)))

pub returns-clause-at_most : goal.returns-clause-at_most
returns-clause-at_most g c = reads_one (g.R.Reads.state c.args.space.now) (g.R.Reads.state c.get_into.new.self) c.in_ok-get_into.ensures.state

pub returns-in_err-test_within-clause-got : goal.returns-in_err-test_within-clause-got
returns-in_err-test_within-clause-got g c _ = never_ok c.from_residual.result _ _ c.from_residual.ensures.1

pub returns-in_err-test_within-clause-known : goal.returns-in_err-test_within-clause-known
returns-in_err-test_within-clause-known g c = never_ok c.from_residual.result _ _ c.from_residual.ensures.1

pub returns-in_err-test_within-clause-key : goal.returns-in_err-test_within-clause-key
returns-in_err-test_within-clause-key g c = never_ok c.from_residual.result _ _ c.from_residual.ensures.1

pub returns-in_err-test_within-clause-back : goal.returns-in_err-test_within-clause-back
returns-in_err-test_within-clause-back g c _ = never_ok c.from_residual.result _ _ c.from_residual.ensures.1

pub returns-in_err-test_within-clause-state : goal.returns-in_err-test_within-clause-state
returns-in_err-test_within-clause-state g c = never_ok c.from_residual.result _ _ c.from_residual.ensures.1

pub returns-in_err-test_within-clause-onward : goal.returns-in_err-test_within-clause-onward
returns-in_err-test_within-clause-onward g c = search rules

pub returns-in_err-get_into-clause-got : goal.returns-in_err-get_into-clause-got
returns-in_err-get_into-clause-got g c _ = never_ok c.from_residual-in_err-get_into.result _ _ c.from_residual-in_err-get_into.ensures.1

pub returns-in_err-get_into-clause-known : goal.returns-in_err-get_into-clause-known
returns-in_err-get_into-clause-known g c = never_ok c.from_residual-in_err-get_into.result _ _ c.from_residual-in_err-get_into.ensures.1

pub returns-in_err-get_into-clause-key : goal.returns-in_err-get_into-clause-key
returns-in_err-get_into-clause-key g c = never_ok c.from_residual-in_err-get_into.result _ _ c.from_residual-in_err-get_into.ensures.1

pub returns-in_err-get_into-clause-back : goal.returns-in_err-get_into-clause-back
returns-in_err-get_into-clause-back g c _ = never_ok c.from_residual-in_err-get_into.result _ _ c.from_residual-in_err-get_into.ensures.1

pub returns-in_err-get_into-clause-state : goal.returns-in_err-get_into-clause-state
returns-in_err-get_into-clause-state g c = never_ok c.from_residual-in_err-get_into.result _ _ c.from_residual-in_err-get_into.ensures.1
