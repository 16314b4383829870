use Rattle.std.proofs.Common.{refl, subst}
use Rattle.std.proofs.lemmas.Result.{err_from_is_err_and, IfOk-weaker, IfErr-weaker}
use Rattle.gremlin_parse.specs.Keywords.{TakesWord}
use Rattle.gremlin_parse.specs.Commands.{head_words, Asks, LacksMemory}
use Rattle.gremlin_parse.specs.declared.head.Head.{Head}
use Rattle.gremlin_parse.specs.declared.head.Head.TheVariants as heads
use Rattle.gremlin_parse.proofs.Runs.{not_empty}
use Rattle.gremlin_parse.proofs.Heads.{tail_at_word, tail_after_word, query_head, is_not, is_so}
use Rattle.gremlin_parse.proofs.Commands.{tail_of_word, lacks_asked, plain_keeps, query_spelled}
use Rattle.gremlin_parse.proofs.QueryLaws.{stops_in_some, query_of_kept}
use Rattle.gremlin_parse.proofs.Exits.{ok_of_both}
use Rattle.gremlin_parse.proofs.Exits.{never_ok}
use Rattle.gremlin_parse.proofs.command.parse_tail.Goals as goal

pub returns-in_err-head-clause-err : goal.returns-in_err-head-clause-err
returns-in_err-head-clause-err c =
    let p = err_from_is_err_and c.from_residual.result c.from_residual.ensures.1 in
    let bytes = c.args.bytes.now in
    rw (p.1, p.2) (tail_at_word (LacksMemory bytes) bytes c.in_err-head.field-0.0 (not_empty bytes c.is_empty.result c.is_empty.ensures c.if-is_empty.false)
    c.in_err-head.ensures.err)

pub parse_command-requires : goal.parse_command-requires
parse_command-requires c = is_so _ c.is_plain.result c.is_plain.ensures c.if-is_plain.true

pub returns-then-is_plain-clause-err : goal.returns-then-is_plain-clause-err
returns-then-is_plain-clause-err c =
    let bytes = c.args.bytes.now in
    let rest = c.in_ok-head.rest.now in
    let head = c.in_ok-head.head in
    let some = not_empty bytes c.is_empty.result c.is_empty.ensures c.if-is_empty.false in
    IfErr-weaker c.parse_command.result _ _
    (λ stop at. tail_after_word (LacksMemory bytes) (Asks head) bytes rest head stop some (λ asks. lacks_asked head asks bytes rest some
    c.in_ok-head.ensures.ok) c.in_ok-head.ensures.ok at)
    c.parse_command.ensures.err

pub returns-then-is_plain-clause-ok : goal.returns-then-is_plain-clause-ok
returns-then-is_plain-clause-ok c =
    IfOk-weaker c.parse_command.result _ _
    (λ command spells. tail_of_word command c.in_ok-head.head c.args.bytes.now c.in_ok-head.rest.now c.in_ok-head.ensures.ok spells)
    c.parse_command.ensures.ok

pub returns-then-is_plain-clause-bounds : goal.returns-then-is_plain-clause-bounds
returns-then-is_plain-clause-bounds c =
    ok_of_both c.parse_command.result _ _ _
    (λ command spells keeps. plain_keeps c.in_ok-head.head (is_so _ c.is_plain.result c.is_plain.ensures c.if-is_plain.true) command c.in_ok-head.rest.now
    c.args.bytes.now spells keeps)
    c.parse_command.ensures.ok c.parse_command.ensures.bounds

pub returns-clause-err : goal.returns-clause-err
returns-clause-err c =
    let bytes = c.args.bytes.now in
    let rest = c.in_ok-head.rest.now in
    let some = not_empty bytes c.is_empty.result c.is_empty.ensures c.if-is_empty.false in
    let query = query_head c.in_ok-head.head (is_not _ c.is_plain.result c.is_plain.ensures c.if-is_plain.false) in
    let takes = subst (λ (h : Head). TakesWord head_words bytes h rest) query c.in_ok-head.ensures.ok in
    IfErr-weaker c.read_query.result _ _
    (λ stop at. tail_after_word (LacksMemory bytes) (Unit {0}) bytes rest heads.Query stop some (λ lack. lacks_asked heads.Query tt bytes rest some takes) takes
    (stops_in_some rest stop at))
    c.read_query.ensures.err

pub returns-clause-ok : goal.returns-clause-ok
returns-clause-ok c =
    let bytes = c.args.bytes.now in
    let rest = c.in_ok-head.rest.now in
    let query = query_head c.in_ok-head.head (is_not _ c.is_plain.result c.is_plain.ensures c.if-is_plain.false) in
    let takes = subst (λ (h : Head). TakesWord head_words bytes h rest) query c.in_ok-head.ensures.ok in
    IfOk-weaker c.read_query.result _ _
    (λ command kept. tail_of_word command heads.Query bytes rest takes (command, refl, query_of_kept command rest kept))
    c.read_query.ensures.ok

pub returns-clause-bounds : goal.returns-clause-bounds
returns-clause-bounds c =
    let bytes = c.args.bytes.now in
    let rest = c.in_ok-head.rest.now in
    let query = query_head c.in_ok-head.head (is_not _ c.is_plain.result c.is_plain.ensures c.if-is_plain.false) in
    let takes = subst (λ (h : Head). TakesWord head_words bytes h rest) query c.in_ok-head.ensures.ok in
    IfOk-weaker c.read_query.result _ _
    (λ command kept. query_spelled command bytes rest takes kept)
    c.read_query.ensures.ok

pub returns-in_err-head-clause-ok : goal.returns-in_err-head-clause-ok
returns-in_err-head-clause-ok c = never_ok c.from_residual.result _ _ c.from_residual.ensures.1

pub returns-in_err-head-clause-bounds : goal.returns-in_err-head-clause-bounds
returns-in_err-head-clause-bounds c = never_ok c.from_residual.result _ _ c.from_residual.ensures.1
