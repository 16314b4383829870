use Rattle.std.proofs.Common.{◌≡◌, ◌∙◌, ap, ltb, is_some, sym, unwrap_or, arith}
use Rattle.rec_bytes.specs.Pairs.{Pairs, find_pair}
use Rattle.txn_core.proofs.Sets.{empty_pairs}
use Rattle.txn_core.proofs.fetching.found_into.Goals as goal

pub returns-else-len-gt0-clause-found : goal.returns-else-len-gt0-clause-found
returns-else-len-gt0-clause-found c =
    let none : c.len.result ≡ 0 = omega arith in
    ap (ltb 0) none
    ∙ sym (ap (λ (pairs : Pairs). is_some (find_pair pairs c.args.key)) (empty_pairs c.args.set.now.pairs (omega (arith, c.len.ensures.value))))

pub returns-else-len-gt0-clause-rec : goal.returns-else-len-gt0-clause-rec
returns-else-len-gt0-clause-rec c =
    sym (ap (λ (pairs : Pairs). unwrap_or (find_pair pairs c.args.key) c.args.rec.now) (empty_pairs c.args.set.now.pairs (omega (arith, c.len.ensures.value))))
