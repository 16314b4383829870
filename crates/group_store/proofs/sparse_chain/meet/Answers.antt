use Rattle.std.proofs.Common.{ap, subst, sym, ◌∙◌, rules}
use Rattle.std.proofs.lemmas.Bool.{false≢true}
use Rattle.std.proofs.lemmas.Result.{err_from_is_err_and}
use Rattle.rec_bytes.specs.declared.damage.Damage.{Damage}
use Rattle.rel_store.proofs.Rows.{rel_at-None}
use Rattle.store_rules.specs.Rules.{stands_in}
use Rattle.group_store.specs.SparseChain.{IsStepDamage}
use Rattle.group_store.specs.SparseChain.IsStepDamage.{NotMet}
use Rattle.group_store.proofs.DenseFaults.{row_told}
use Rattle.group_store.proofs.SparseChains.{links_are, row_stands}
use Rattle.group_store.proofs.Spreads.{only_loads}
use Rattle.rec_bytes.proofs.Causes.{never_ok}
use Rattle.group_store.proofs.sparse_chain.meet.Goals as goal

pub returns-in_err-row-clause-damaged : goal.returns-in_err-row-clause-damaged
returns-in_err-row-clause-damaged g c = λ tells.
    let s = g.R.Reads.state c.args.space.now in
    let p = err_from_is_err_and c.from_residual.result c.from_residual.ensures.1 in
    rw (p.1, p.2) (row_told s c.args.node c.args.before c.args.at c.in_err-row.field-0.0 (c.in_err-row.ensures.damaged tells))

pub returns-in_err-row-clause-state : goal.returns-in_err-row-clause-state
returns-in_err-row-clause-state g c = only_loads (g.R.Reads.state c.args.space.now) (g.R.Reads.state c.load.new.space) c.args.at c.load.ensures.state

pub returns-in_default-clause-damaged : goal.returns-in_default-clause-damaged
returns-in_default-clause-damaged g c = λ tells.
    let s = g.R.Reads.state c.args.space.now in
    let none = rel_at-None s.records c.args.at (sym (c.in_ok-row.ensures.found tells) ∙ c.in_default.is) in
    subst (λ (d : Damage). IsStepDamage s c.args.node c.args.before c.args.at d) (sym c.rels_damage.ensures)
    (NotMet (λ m. false≢true (sym (ap (stands_in c.args.node) none) ∙ m.stands)))

pub returns-in_default-clause-state : goal.returns-in_default-clause-state
returns-in_default-clause-state g c = only_loads (g.R.Reads.state c.args.space.now) (g.R.Reads.state c.load.new.space) c.args.at c.load.ensures.state

pub returns-then-not-is_at-clause-damaged : goal.returns-then-not-is_at-clause-damaged
returns-then-not-is_at-clause-damaged g c = λ tells.
    let s = g.R.Reads.state c.args.space.now in
    let stands = row_stands s.records c.args.node c.args.at c.in-Some.row (sym c.in-Some.is ∙ c.in_ok-row.ensures.found tells) in
    subst (λ (d : Damage). IsStepDamage s c.args.node c.args.before c.args.at d) (sym c.rels_damage-then-not-is_at.ensures)
    (NotMet (λ m. false≢true (sym (stands ∙ sym c.is_at.ensures ∙ c.if-not-is_at.true) ∙ m.stands)))

pub returns-then-not-is_at-clause-state : goal.returns-then-not-is_at-clause-state
returns-then-not-is_at-clause-state g c = only_loads (g.R.Reads.state c.args.space.now) (g.R.Reads.state c.load.new.space) c.args.at c.load.ensures.state

pub returns-then-links-before-clause-damaged : goal.returns-then-links-before-clause-damaged
returns-then-links-before-clause-damaged g c = λ tells.
    let s = g.R.Reads.state c.args.space.now in
    let links = links_are s.records c.args.node c.args.at c.in-Some.row c.end_links-links.result (sym c.in-Some.is ∙ c.in_ok-row.ensures.found tells)
    c.end_links-links.ensures.of_record in
    subst (λ (d : Damage). IsStepDamage s c.args.node c.args.before c.args.at d) (sym c.rels_damage-then-links-before.ensures)
    (NotMet (λ m. c.if-links-before.true (links.0 ∙ m.back)))

pub returns-then-links-before-clause-state : goal.returns-then-links-before-clause-state
returns-then-links-before-clause-state g c = only_loads (g.R.Reads.state c.args.space.now) (g.R.Reads.state c.load.new.space) c.args.at c.load.ensures.state

pub returns-clause-met : goal.returns-clause-met
returns-clause-met g c = λ tells.
    let s = g.R.Reads.state c.args.space.now in
    let found = sym c.in-Some.is ∙ c.in_ok-row.ensures.found tells in
    let stands = row_stands s.records c.args.node c.args.at c.in-Some.row found in
    let links = links_are s.records c.args.node c.args.at c.in-Some.row c.end_links-links.result found c.end_links-links.ensures.of_record in
    record { met = record { stands = stands ∙ sym c.is_at.ensures ∙ c.if-not-is_at.false; back = sym links.0 ∙ c.if-links-before.false }; on = sym links.1 }

pub returns-clause-state : goal.returns-clause-state
returns-clause-state g c = only_loads (g.R.Reads.state c.args.space.now) (g.R.Reads.state c.load.new.space) c.args.at c.load.ensures.state

pub returns-in_err-row-clause-met : goal.returns-in_err-row-clause-met
returns-in_err-row-clause-met g c _ = never_ok c.from_residual.result _ _ c.from_residual.ensures.1

pub returns-in_err-row-clause-onward : goal.returns-in_err-row-clause-onward
returns-in_err-row-clause-onward g c = search rules
