use Rattle.std.proofs.Common.{◌≡◌, ℕ, List, length, length-take-le, refl, sym, ap, ◌∙◌, subst, arith}
use Rattle.std.proofs.lemmas.Result.{err_from_is_err_and}
use Rattle.gremlin_parse.specs.Symbols.{Sign, Reads, Leaves}
use Rattle.gremlin_parse.proofs.Names.{takes_name}
use Rattle.gremlin_parse.proofs.Closed.{closed_takes, leaves_closed}
use Rattle.gremlin_parse.proofs.Exits.{never_ok}
use Rattle.gremlin_parse.proofs.quoted_name.read_closed_name.Goals as goal

pub returns-in_err-rest-clause-err : goal.returns-in_err-rest-clause-err
returns-in_err-rest-clause-err c =
    let p = err_from_is_err_and c.from_residual.result c.from_residual.ensures.1 in
    let bytes = c.args.bytes.now in
    let name = c.split_at.result.0.now in
    let at_quote = c.split_at.result.1.now in
    let stop = c.in_err-rest.field-0.0 in
    let takes = takes_name bytes name at_quote c.run_len-len.result c.in-len1-up.len_at_least (sym c.is_name_start.ensures ∙ c.if-is_name_start.true)
    c.run_len-len.ensures.count c.split_at.ensures.front c.split_at.ensures.back in
    rw (p.1, p.2) (leaves_closed c.args.double name bytes at_quote stop takes (subst (λ (sign : List ℕ). Leaves (Sign sign) at_quote stop) c.quote.ensures
    c.in_err-rest.ensures.err))

pub returns-then-len-gt-NAME_BYTES-clause-err : goal.returns-then-len-gt-NAME_BYTES-clause-err
returns-then-len-gt-NAME_BYTES-clause-err c =
    let bytes = c.args.bytes.now in
    let n = c.run_len-len.result in
    let name = c.split_at.result.0.now in
    let at_quote = c.split_at.result.1.now in
    let rest = c.in_ok-rest.rest.now in
    let len : length name ≡ n = ap length c.split_at.ensures.front ∙ length-take-le n bytes c.run_len-len.ensures.bound in
    let takes = takes_name bytes name at_quote n c.in-len1-up.len_at_least (sym c.is_name_start.ensures ∙ c.if-is_name_start.true) c.run_len-len.ensures.count
    c.split_at.ensures.front c.split_at.ensures.back in
    let sign = subst (λ (sign : List ℕ). Reads (Sign sign) tt at_quote rest) c.quote.ensures c.in_ok-rest.ensures.ok in
    (name, omega (arith, len), rest, closed_takes c.args.double name bytes at_quote rest takes sign, refl)

pub returns-clause-ok : goal.returns-clause-ok
returns-clause-ok c =
    let bytes = c.args.bytes.now in
    let n = c.run_len-len.result in
    let name = c.split_at.result.0.now in
    let at_quote = c.split_at.result.1.now in
    let rest = c.in_ok-rest.rest.now in
    let len : length name ≡ n = ap length c.split_at.ensures.front ∙ length-take-le n bytes c.run_len-len.ensures.bound in
    let takes = takes_name bytes name at_quote n c.in-len1-up.len_at_least (sym c.is_name_start.ensures ∙ c.if-is_name_start.true) c.run_len-len.ensures.count
    c.split_at.ensures.front c.split_at.ensures.back in
    let sign = subst (λ (sign : List ℕ). Reads (Sign sign) tt at_quote rest) c.quote.ensures c.in_ok-rest.ensures.ok in
    record { takes = closed_takes c.args.double name bytes at_quote rest takes sign; allowed = tt; bounded = omega (arith, len) }

pub returns-in_err-rest-clause-ok : goal.returns-in_err-rest-clause-ok
returns-in_err-rest-clause-ok c = never_ok c.from_residual.result _ _ c.from_residual.ensures.1
