use Rattle.std.proofs.Common.{◌≡◌, refl, subst, arith}
use Rattle.path_find.specs.Reading.{AreLevelsInOrder}
use Rattle.path_find.specs.Tree.{level_at, row_count}
use Rattle.path_find.proofs.LevelRows.{levels-sorted}
use Rattle.path_find.proofs.TreeWalks.{level-low}
use Rattle.rec_bytes.proofs.Causes.{never_ok}
use Rattle.path_find.proofs.reading.levels_of.Goals as goal

pub overflow_cast-level : goal.overflow_cast-level
overflow_cast-level c =
    let rows = c.args.tree.now in
    let count = c.len-row-end.ensures.is in
    let few = c.len-row-end.ensures.few in
    let test = c.loop-row-test.true in
    let low = level-low rows c.requires.done c.requires.tree (level_at rows c.loop-row.row) c.loop-row.row (omega (arith, count, test)) refl in
    let is = c.level.ensures in
    omega (arith, low, count, few, test, is)

pub returns : goal.returns
returns c =
    let rows = c.args.tree.now in
    let count = c.len-row-end.ensures.is in
    let test = c.loop-row-test.false in
    let most = c.loop-row.auto.row-end in
    let all : c.loop-row.row ≡ row_count rows = omega (arith, count, test, most) in
    levels-sorted rows c.requires c.loop-row.levels.items c.put_in_order.new.levels.items
    (subst (λ n. AreLevelsInOrder rows n c.loop-row.levels.items) all c.loop-row.invariant)
    c.in_ok-put_in_order.ensures.moved c.in_ok-put_in_order.ensures.sorted

pub returns-in_err-push : goal.returns-in_err-push
returns-in_err-push c = never_ok c.from_residual.result _ _ c.from_residual.ensures.1

pub returns-in_err-put_in_order : goal.returns-in_err-put_in_order
returns-in_err-put_in_order c = never_ok c.from_residual-in_err-put_in_order.result _ _ c.from_residual-in_err-put_in_order.ensures.1
