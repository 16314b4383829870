use Rattle.std.specs.Prelude.{Err, IfErr, Ok, Result}
use Rattle.std.proofs.Common.{List, ℕ, sym, subst, ◌≡◌}
use Rattle.std.specs.List.{AllByRecursion}
use Rattle.std.proofs.lemmas.Result.{IfOk-weaker, err_from_is_err_and}
use Rattle.plain_graph.specs.declared.command.Command.{Command}
use Rattle.gremlin_parse.specs.Commands.{Asks, BadLast, IsLast, KeepsBounds, SpellsAfter, StopsAfter, arguments_of, built, last_part}
use Rattle.gremlin_parse.specs.Grammar.{IsBounded}
use Rattle.gremlin_parse.specs.Symbols.{ReadsAll, LeavesOne}
use Rattle.gremlin_parse.specs.Stopping.{IsStop}
use Rattle.gremlin_parse.specs.Arguments.{spaced, contents_in, listed}
use Rattle.gremlin_parse.specs.Lasts.{last_content, last_parts, LastIs, SomeLast, BadInLast, Lacks}
use Rattle.gremlin_parse.specs.declared.argument.Argument.{Argument}
use Rattle.gremlin_parse.specs.declared.head.Head.{Head}
use Rattle.gremlin_parse.specs.declared.last.LastPart.{LastPart}
use Rattle.gremlin_parse.specs.declared.stop.Stop.{Stop}
use Rattle.gremlin_parse.specs.declared.stop.Stop.TheVariants as stops
use Rattle.gremlin_parse.proofs.Heads.{stop_in_head, stop_after_head, stop_lacks}
use Rattle.gremlin_parse.proofs.Commands.{last_asks, spells_read, read_keeps}
use Rattle.gremlin_parse.proofs.Exits.{never_ok}
use Rattle.gremlin_parse.proofs.command.parse_command.Goals as goal

pub returns-in_err-givens-clause-err : goal.returns-in_err-givens-clause-err
returns-in_err-givens-clause-err c =
    let p = err_from_is_err_and c.from_residual.result c.from_residual.ensures.1 in
    let bytes = c.args.bytes.now in
    let stop = c.in_err-givens.field-0.0 in
    rw (p.1, p.2) (stop_in_head c.args.head (Asks c.args.head) bytes stop (subst (λ (list : List Argument). LeavesOne (spaced list) bytes stop)
    c.arguments_of.ensures.are c.in_err-givens.ensures.err))

pub returns-in_err-last-clause-err : goal.returns-in_err-last-clause-err
returns-in_err-last-clause-err c =
    let p = err_from_is_err_and c.from_residual-in_err-last.result c.from_residual-in_err-last.ensures.1 in
    let head = c.args.head in
    let bytes = c.args.bytes.now in
    let rest = c.in_ok-givens.rest.now in
    let stop = c.in_err-last.field-0.0 in
    let givens = listed c.in_ok-givens.givens in
    let reads = subst (λ (list : List Argument). ReadsAll (spaced list) (contents_in list givens) bytes rest) c.arguments_of.ensures.are
    c.in_ok-givens.ensures.ok in
    let at = subst (λ (kind : LastPart). IsStop (SomeLast kind) (BadInLast kind) (Lacks kind) rest stop) c.last_part.ensures c.in_err-last.ensures.err in
    rw (p.1, p.2) (stop_after_head head (Asks head) (contents_in (arguments_of head) givens) bytes rest stop reads (stop_lacks (IsLast head) (BadLast head)
    (Lacks (last_part head)) (Asks head) rest stop (last_asks head) at))

pub returns-clause-ok : goal.returns-clause-ok
unfolding built
returns-clause-ok c =
    let head = c.args.head in
    let bytes = c.args.bytes.now in
    let rest = c.in_ok-givens.rest.now in
    let givens = listed c.in_ok-givens.givens in
    let last = c.in_ok-last.last in
    let reads = subst (λ (list : List Argument). ReadsAll (spaced list) (contents_in list givens) bytes rest) c.arguments_of.ensures.are
    c.in_ok-givens.ensures.ok in
    let made = subst (λ (kind : LastPart). LastIs kind (last_content kind last) rest) c.last_part.ensures c.in_ok-last.ensures.ok in
    IfOk-weaker c.command_of.result _ _
    (λ command is. subst (λ (command : Command). SpellsAfter command head bytes) (sym is)
    (spells_read head (contents_in (arguments_of head) givens) (last_content (last_part head) last) bytes rest reads made))
    c.command_of.ensures.ok

pub returns-clause-bounds : goal.returns-clause-bounds
unfolding built
returns-clause-bounds c =
    let head = c.args.head in
    let bytes = c.args.bytes.now in
    let rest = c.in_ok-givens.rest.now in
    let givens = listed c.in_ok-givens.givens in
    let last = c.in_ok-last.last in
    let reads = subst (λ (list : List Argument). ReadsAll (spaced list) (contents_in list givens) bytes rest) c.arguments_of.ensures.are
    c.in_ok-givens.ensures.ok in
    let within = subst (λ (kind : LastPart). AllByRecursion IsBounded (last_parts kind (last_content kind last))) c.last_part.ensures
    c.in_ok-last.ensures.bounds in
    IfOk-weaker c.command_of.result _ _
    (λ command is. subst KeepsBounds (sym is)
    (read_keeps head c.requires (contents_in (arguments_of head) givens) (last_content (last_part head) last) bytes rest reads within))
    c.command_of.ensures.ok

-- where there was no memory, it was asked for
lacking : (head : Head) (bytes : List ℕ) (r : Result Command Stop) → IfErr r (λ stop. stop ≡ stops.Memory) → IfErr r (λ stop. Asks head)
    → IfErr r (StopsAfter head (Asks head) bytes)
lacking head bytes (Ok command) is asks = tt
lacking head bytes (Err stop) is asks = subst (StopsAfter head (Asks head) bytes) (sym is) asks

pub returns-clause-err : goal.returns-clause-err
returns-clause-err c = lacking c.args.head c.args.bytes.now c.command_of.result c.command_of.ensures.err c.command_of.ensures.asks

pub returns-in_err-givens-clause-ok : goal.returns-in_err-givens-clause-ok
returns-in_err-givens-clause-ok c = never_ok c.from_residual.result _ _ c.from_residual.ensures.1

pub returns-in_err-givens-clause-bounds : goal.returns-in_err-givens-clause-bounds
returns-in_err-givens-clause-bounds c = never_ok c.from_residual.result _ _ c.from_residual.ensures.1

pub returns-in_err-last-clause-ok : goal.returns-in_err-last-clause-ok
returns-in_err-last-clause-ok c = never_ok c.from_residual-in_err-last.result _ _ c.from_residual-in_err-last.ensures.1

pub returns-in_err-last-clause-bounds : goal.returns-in_err-last-clause-bounds
returns-in_err-last-clause-bounds c = never_ok c.from_residual-in_err-last.result _ _ c.from_residual-in_err-last.ensures.1
