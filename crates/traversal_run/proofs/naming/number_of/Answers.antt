use Rattle.std.proofs.Common.{◌≡◌, ◌<◌, ◌≤◌, ap, subst, sym, Option, ℕ, arith}
use Rattle.rec_bytes.specs.declared.meta.Meta.{Meta}
use Rattle.traversal_run.specs.Naming.{FindsName, name_count}
use Rattle.traversal_run.proofs.NamesKnown.{finds_later, finds_number, finds_unknown, names_enough}
use Rattle.traversal_run.proofs.naming.number_of.Goals as goal

pub returns-in_err-number-clause-finds : goal.returns-in_err-number-clause-finds
returns-in_err-number-clause-finds g c = λ store.
    let s = g.R.Reads.state c.args.space.now in
    subst (λ (found : Option ℕ). FindsName s.records found c.args.text.now) (sym c.from_residual.ensures)
    (finds_unknown s.records s.shape c.args.names.now.names store c.args.text.now c.in_err-number.ensures.none)

pub returns-then-number-min-clause-finds : goal.returns-then-number-min-clause-finds
returns-then-number-min-clause-finds g c = λ store.
    let s = g.R.Reads.state c.args.space.now in
    let mark : c.meta.result.high ≡ name_count s.records = ap (λ (m : Meta). m.high) c.meta.ensures in
    let low : c.in_ok-number.number < name_count s.records = let least = c.min.ensures in omega (arith, c.if-number-min.true) in
    finds_number s.records s.shape c.args.names.now.names store c.args.text.now c.in_ok-number.number c.in_ok-number.ensures.some low

pub returns-else-number-min-clause-finds : goal.returns-else-number-min-clause-finds
returns-else-number-min-clause-finds g c = λ store.
    let s = g.R.Reads.state c.args.space.now in
    let mark : c.meta.result.high ≡ name_count s.records = ap (λ (m : Meta). m.high) c.meta.ensures in
    let enough = names_enough s.records s.shape c.args.names.now.names store in
    let high : name_count s.records ≤ c.in_ok-number.number = let least = c.min.ensures in let count = c.count.ensures.value in
    omega (arith, c.if-number-min.false) in
    finds_later s.records s.shape c.args.names.now.names store c.args.text.now c.in_ok-number.number c.count.ensures.are_names.distinct
    c.in_ok-number.ensures.some high
