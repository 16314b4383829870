use Rattle.std.proofs.Common.{◌≡◌, Some, ◌∙◌, sym, subst, rules}
use Rattle.std.specs.Prelude.{IfSome, Option, ℕ}
use Rattle.rec_bytes.specs.Space.{after_get}
use Rattle.node_store.specs.Loading.{row_at}
use Rattle.group_store.specs.FirstGroup.{IsFirst}
use Rattle.group_store.proofs.FirstGroups.{is_first, load_reads, was_read}
use Rattle.rec_bytes.proofs.Causes.{never_ok}
use Rattle.group_store.proofs.members.first_group.Goals as goal

pub returns-in_err-row-clause-at_most : goal.returns-in_err-row-clause-at_most
returns-in_err-row-clause-at_most g c = load_reads (g.R.Reads.state c.args.space.now) (g.R.Reads.state c.load.new.space) c.args.node c.in_err-row.ensures.state

pub returns-in-Some-clause-first : goal.returns-in-Some-clause-first
returns-in-Some-clause-first g c = λ tells.
    let s = g.R.Reads.state c.args.space.now in
    let found : Some c.in-Some.row ≡ row_at s.records c.args.node = sym c.in-Some.is ∙ c.in_ok-row.ensures.found tells in
    subst (IsFirst s.records c.args.node) (sym c.first_of.ensures) (is_first s.records c.args.node c.in-Some.row found)

pub returns-in-Some-clause-read : goal.returns-in-Some-clause-read
returns-in-Some-clause-read g c = λ tells.
    let s = g.R.Reads.state c.args.space.now in
    let now = g.R.Reads.state c.load.new.space in
    let found : Some c.in-Some.row ≡ row_at s.records c.args.node = sym c.in-Some.is ∙ c.in_ok-row.ensures.found tells in
    subst (λ (first : Option ℕ). IfSome first (λ _. now ≡ after_get s)) (sym c.first_of.ensures)
    (was_read s now c.args.node c.in-Some.row found (c.in_ok-row.ensures.known tells) c.in_ok-row.ensures.state)

pub returns-in-Some-clause-at_most : goal.returns-in-Some-clause-at_most
returns-in-Some-clause-at_most g c = load_reads (g.R.Reads.state c.args.space.now) (g.R.Reads.state c.load.new.space) c.args.node c.in_ok-row.ensures.state

pub returns-in-None-clause-at_most : goal.returns-in-None-clause-at_most
returns-in-None-clause-at_most g c = load_reads (g.R.Reads.state c.args.space.now) (g.R.Reads.state c.load.new.space) c.args.node c.in_ok-row.ensures.state

pub returns-in_err-row-clause-first : goal.returns-in_err-row-clause-first
returns-in_err-row-clause-first g c _ = never_ok c.from_residual.result _ _ c.from_residual.ensures.1

pub returns-in_err-row-clause-key : goal.returns-in_err-row-clause-key
returns-in_err-row-clause-key g c = never_ok c.from_residual.result _ _ c.from_residual.ensures.1

pub returns-in_err-row-clause-read : goal.returns-in_err-row-clause-read
returns-in_err-row-clause-read g c _ = never_ok c.from_residual.result _ _ c.from_residual.ensures.1

pub returns-in_err-row-clause-onward : goal.returns-in_err-row-clause-onward
returns-in_err-row-clause-onward g c = search rules
