use Rattle.std.proofs.Common.{sym, subst}
use Rattle.std.specs.List.{AllByRecursion}
use Rattle.std.proofs.lemmas.Result.{err_from_is_err_and}
use Rattle.gremlin_parse.specs.Grammar.{IsBounded}
use Rattle.gremlin_parse.specs.Stopping.{IsStop}
use Rattle.gremlin_parse.specs.Lasts.{last_content, last_parts, LastIs, SomeLast, BadInLast, Lacks}
use Rattle.gremlin_parse.specs.declared.last.LastPart.{LastPart}
use Rattle.gremlin_parse.proofs.Lasts.{stop_at_nothing}
use Rattle.gremlin_parse.proofs.Exits.{never_ok}
use Rattle.gremlin_parse.proofs.last.read_last.Goals as goal

pub returns-in_err-read_end-in-End-clause-err : goal.returns-in_err-read_end-in-End-clause-err
returns-in_err-read_end-in-End-clause-err c =
    let p = err_from_is_err_and c.from_residual.result c.from_residual.ensures.1 in
    let stop = c.in_err-read_end-in-End.field-0.0 in
    rw (p.1, p.2) (subst (λ (k : LastPart). IsStop (SomeLast k) (BadInLast k) (Lacks k) c.args.bytes.now stop) (sym c.in-End.is)
    (stop_at_nothing ⊥ c.args.bytes.now c.skip_blanks.result.now stop c.skip_blanks.ensures c.in_err-read_end-in-End.ensures.err))

pub returns-in_err-pairs-in-Pairs-clause-err : goal.returns-in_err-pairs-in-Pairs-clause-err
returns-in_err-pairs-in-Pairs-clause-err c =
    let p = err_from_is_err_and c.from_residual-in_err-pairs-in-Pairs.result c.from_residual-in_err-pairs-in-Pairs.ensures.1 in
    rw (p.1, p.2) (subst (λ (k : LastPart). IsStop (SomeLast k) (BadInLast k) (Lacks k) c.args.bytes.now c.in_err-pairs-in-Pairs.field-0.0) (sym c.in-Pairs.is)
    c.in_err-pairs-in-Pairs.ensures.err)

pub returns-in_err-name-in-MaybeName-clause-err : goal.returns-in_err-name-in-MaybeName-clause-err
returns-in_err-name-in-MaybeName-clause-err c =
    let p = err_from_is_err_and c.from_residual-in_err-name-in-MaybeName.result c.from_residual-in_err-name-in-MaybeName.ensures.1 in
    rw (p.1, p.2) (subst (λ (k : LastPart). IsStop (SomeLast k) (BadInLast k) (Lacks k) c.args.bytes.now c.in_err-name-in-MaybeName.field-0.0)
    (sym c.in-MaybeName.is) c.in_err-name-in-MaybeName.ensures.err)

pub returns-in_err-viewed-in-Viewed-clause-err : goal.returns-in_err-viewed-in-Viewed-clause-err
returns-in_err-viewed-in-Viewed-clause-err c =
    let p = err_from_is_err_and c.from_residual-in_err-viewed-in-Viewed.result c.from_residual-in_err-viewed-in-Viewed.ensures.1 in
    rw (p.1, p.2) (subst (λ (k : LastPart). IsStop (SomeLast k) (BadInLast k) (Lacks k) c.args.bytes.now c.in_err-viewed-in-Viewed.field-0.0)
    (sym c.in-Viewed.is) c.in_err-viewed-in-Viewed.ensures.err)

pub returns-in_ok-pairs-in-Pairs-clause-ok : goal.returns-in_ok-pairs-in-Pairs-clause-ok
returns-in_ok-pairs-in-Pairs-clause-ok c = subst (λ (k : LastPart). LastIs k
    (last_content k (record c.nothing-none.result { pairs = c.in_ok-pairs-in-Pairs.pairs })) c.args.bytes.now) (sym c.in-Pairs.is)
    c.in_ok-pairs-in-Pairs.ensures.ok

pub returns-in_ok-pairs-in-Pairs-clause-bounds : goal.returns-in_ok-pairs-in-Pairs-clause-bounds
returns-in_ok-pairs-in-Pairs-clause-bounds c = subst (λ (k : LastPart). AllByRecursion IsBounded
    (last_parts k (last_content k (record c.nothing-none.result { pairs = c.in_ok-pairs-in-Pairs.pairs })))) (sym c.in-Pairs.is)
    c.in_ok-pairs-in-Pairs.ensures.bounds

pub returns-in_ok-name-in-MaybeName-clause-ok : goal.returns-in_ok-name-in-MaybeName-clause-ok
returns-in_ok-name-in-MaybeName-clause-ok c = subst (λ (k : LastPart). LastIs k (last_content k (record c.nothing-none-in-MaybeName.result
    { name = c.in_ok-name-in-MaybeName.name })) c.args.bytes.now) (sym c.in-MaybeName.is) c.in_ok-name-in-MaybeName.ensures.ok

pub returns-in_ok-name-in-MaybeName-clause-bounds : goal.returns-in_ok-name-in-MaybeName-clause-bounds
returns-in_ok-name-in-MaybeName-clause-bounds c = subst (λ (k : LastPart). AllByRecursion IsBounded
    (last_parts k (last_content k (record c.nothing-none-in-MaybeName.result { name = c.in_ok-name-in-MaybeName.name })))) (sym c.in-MaybeName.is)
    c.in_ok-name-in-MaybeName.ensures.bounds

pub returns-in_ok-viewed-in-Viewed-clause-ok : goal.returns-in_ok-viewed-in-Viewed-clause-ok
returns-in_ok-viewed-in-Viewed-clause-ok c = subst (λ (k : LastPart). LastIs k
    (last_content k (record c.nothing-none-in-Viewed.result { viewed = c.in_ok-viewed-in-Viewed.viewed })) c.args.bytes.now) (sym c.in-Viewed.is)
    c.in_ok-viewed-in-Viewed.ensures.ok

pub returns-in_ok-viewed-in-Viewed-clause-bounds : goal.returns-in_ok-viewed-in-Viewed-clause-bounds
returns-in_ok-viewed-in-Viewed-clause-bounds c = subst (λ (k : LastPart). AllByRecursion IsBounded
    (last_parts k (last_content k (record c.nothing-none-in-Viewed.result { viewed = c.in_ok-viewed-in-Viewed.viewed })))) (sym c.in-Viewed.is)
    c.in_ok-viewed-in-Viewed.ensures.bounds

pub returns-in_err-read_end-in-End-clause-ok : goal.returns-in_err-read_end-in-End-clause-ok
returns-in_err-read_end-in-End-clause-ok c = never_ok c.from_residual.result _ _ c.from_residual.ensures.1

pub returns-in_err-read_end-in-End-clause-bounds : goal.returns-in_err-read_end-in-End-clause-bounds
returns-in_err-read_end-in-End-clause-bounds c = never_ok c.from_residual.result _ _ c.from_residual.ensures.1

pub returns-in_err-pairs-in-Pairs-clause-ok : goal.returns-in_err-pairs-in-Pairs-clause-ok
returns-in_err-pairs-in-Pairs-clause-ok c = never_ok c.from_residual-in_err-pairs-in-Pairs.result _ _ c.from_residual-in_err-pairs-in-Pairs.ensures.1

pub returns-in_err-pairs-in-Pairs-clause-bounds : goal.returns-in_err-pairs-in-Pairs-clause-bounds
returns-in_err-pairs-in-Pairs-clause-bounds c = never_ok c.from_residual-in_err-pairs-in-Pairs.result _ _ c.from_residual-in_err-pairs-in-Pairs.ensures.1

pub returns-in_err-name-in-MaybeName-clause-ok : goal.returns-in_err-name-in-MaybeName-clause-ok
returns-in_err-name-in-MaybeName-clause-ok c = never_ok c.from_residual-in_err-name-in-MaybeName.result _ _ c.from_residual-in_err-name-in-MaybeName.ensures.1

pub returns-in_err-name-in-MaybeName-clause-bounds : goal.returns-in_err-name-in-MaybeName-clause-bounds
returns-in_err-name-in-MaybeName-clause-bounds c = never_ok c.from_residual-in_err-name-in-MaybeName.result _ _
    c.from_residual-in_err-name-in-MaybeName.ensures.1

pub returns-in_err-viewed-in-Viewed-clause-ok : goal.returns-in_err-viewed-in-Viewed-clause-ok
returns-in_err-viewed-in-Viewed-clause-ok c = never_ok c.from_residual-in_err-viewed-in-Viewed.result _ _ c.from_residual-in_err-viewed-in-Viewed.ensures.1

pub returns-in_err-viewed-in-Viewed-clause-bounds : goal.returns-in_err-viewed-in-Viewed-clause-bounds
returns-in_err-viewed-in-Viewed-clause-bounds c = never_ok c.from_residual-in_err-viewed-in-Viewed.result _ _ c.from_residual-in_err-viewed-in-Viewed.ensures.1
