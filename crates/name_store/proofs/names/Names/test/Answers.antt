use Rattle.std.proofs.Common.{◌≡◌, [], ap, length, ◌∙◌, sym, arith}
use Rattle.std.proofs.lemmas.List.{append-nil}
use Rattle.std.proofs.lemmas.Result.{err_from_is_err_and}
use Rattle.store_rules.specs.Graph.{names_of}
use Rattle.name_store.specs.Loading.{name_mark}
use Rattle.name_store.proofs.FirstNames.{length-names_of, names_of-first}
use Rattle.name_store.proofs.NameDamage.{NotDamaged-prefix}
use Rattle.name_store.proofs.names.Names.test.Goals as goal

pub returns-in_err-high-clause-not_damaged : goal.returns-in_err-high-clause-not_damaged
returns-in_err-high-clause-not_damaged g c = λ tells is.
    let s = g.R.Reads.state c.args.space.now in
    let p = err_from_is_err_and c.from_residual.result c.from_residual.ensures.1 in
    rw (p.1, p.2) (NotDamaged-prefix s.records c.args.self.now.names [] c.in_err-high.field-0.0 (is ∙ sym (append-nil (names_of s.records)))
    (c.in_err-high.ensures.damaged tells))

pub returns-then-high-count-clause-not_damaged : goal.returns-then-high-count-clause-not_damaged
returns-then-high-count-clause-not_damaged g c = λ tells is.
    let s = g.R.Reads.state c.args.space.now in
    let long : length c.args.self.now.names ≡ name_mark s.records = ap length is ∙ length-names_of s.records in
    omega (arith, c.in_ok-high.ensures.count, c.count.ensures.value, c.if-high-count.true)

pub returns-clause-same : goal.returns-clause-same
returns-clause-same g c = λ tells.
    let s = g.R.Reads.state c.args.space.now in
    let names = c.args.self.now.names in
    let long : length names ≡ name_mark s.records
    = omega (arith, c.in_ok-high.ensures.count, c.in_ok-high.ensures.kept, c.count.ensures.value, c.if-high-count.false) in
    names_of-first s.records names (λ id lt. c.in_ok-high.ensures.same tells id (omega (arith, long))) long
