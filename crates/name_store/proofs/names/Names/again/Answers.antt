use Rattle.std.proofs.Common.{take, ap, ◌∙◌}
use Rattle.std.proofs.lemmas.Result.{err_from_is_err_and}
use Rattle.name_store.proofs.FirstNames.{names_of-take}
use Rattle.name_store.proofs.NameDamage.{NotDamaged-prefix}
use Rattle.name_store.proofs.names.Names.again.Goals as goal

pub returns-in_err-high-clause-not_damaged : goal.returns-in_err-high-clause-not_damaged
returns-in_err-high-clause-not_damaged g c = λ tells rest is.
    let s = g.R.Reads.state c.args.space.now in
    let p = err_from_is_err_and c.from_residual.result c.from_residual.ensures.1 in
    rw (p.1, p.2) (NotDamaged-prefix s.records c.args.self.now.names rest c.in_err-high.field-0.0 is (c.in_err-high.ensures.damaged tells))

pub returns-clause-same : goal.returns-clause-same
returns-clause-same g c = λ tells.
    let s = g.R.Reads.state c.args.space.now in
    let names = c.args.self.now.names in
    c.cut.ensures ∙ ap (λ n. take n names) c.in_ok-high.ensures.count
    ∙ names_of-take s.records names c.in_ok-high.ensures.kept (c.in_ok-high.ensures.same tells)
