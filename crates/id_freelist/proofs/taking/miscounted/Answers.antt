use Rattle.std.specs.Prelude.{Option, IfNone, IfSome}
use Rattle.std.proofs.Common.{ℕ, ◌∙◌, sym, subst, rules}
use Rattle.id_freelist.specs.Taking.{AreAllUsed, IsUnused}
use Rattle.id_freelist.proofs.TakeDamages.{uncounted, undercounted, unlisted}
use Rattle.rec_bytes.proofs.Causes.{never_ok}
use Rattle.id_freelist.proofs.taking.miscounted.Goals as goal

pub returns-then-not-is_undercounted-clause-is : goal.returns-then-not-is_undercounted-clause-is
returns-then-not-is_undercounted-clause-is g c t =
    uncounted (g.R.Reads.state c.args.space.now) c.args.file c.args.meta c.requires.meta c.requires.counted
    (sym c.is_undercounted.ensures ∙ c.if-not-is_undercounted.true)

pub returns-in-Some-clause-is : goal.returns-in-Some-clause-is
returns-in-Some-clause-is g c t =
    let s = g.R.Reads.state c.args.space.now in
    unlisted s c.args.file c.args.meta c.in-Some.id c.requires.meta (sym c.is_undercounted.ensures ∙ c.if-not-is_undercounted.false)
    (subst (λ (found : Option ℕ). IfSome found (IsUnused s.records c.args.file)) c.in-Some.is (c.in_ok-id.ensures.found t))

pub returns-in-None-clause-is : goal.returns-in-None-clause-is
returns-in-None-clause-is g c t =
    let s = g.R.Reads.state c.args.space.now in
    undercounted s c.args.file c.args.meta c.requires.meta (sym c.is_undercounted.ensures ∙ c.if-not-is_undercounted.false)
    (subst (λ (found : Option ℕ). IfNone found (AreAllUsed s.records c.args.file)) c.in-None.is (c.in_ok-id.ensures.none t))

pub returns-in_err-id-clause-is : goal.returns-in_err-id-clause-is
returns-in_err-id-clause-is g c _ = never_ok c.from_residual.result _ _ c.from_residual.ensures.1

pub returns-in_err-id-clause-onward : goal.returns-in_err-id-clause-onward
returns-in_err-id-clause-onward g c = search rules
