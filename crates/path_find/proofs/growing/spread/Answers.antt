use Rattle.std.proofs.Common.{◌≡◌, ◌+◌, get_or, length, refl, sym, ap, subst, ◌∙◌, arith}
use Rattle.path_find.specs.Growing.{IsSpanning}
use Rattle.path_find.specs.Tree.{AreNeighbours, Rows, level_at}
use Rattle.path_find.proofs.TreeGrowth.{IsStep, extends-none, extends-on, growing-begin, spanning-begin, spanning-end, step}
use Rattle.path_find.proofs.TreeWalks.{level-low}
use Rattle.rec_bytes.proofs.Causes.{never_ok}
use Rattle.path_find.proofs.growing.spread.Goals as goal

pub overflow_add-level : goal.overflow_add-level
overflow_add-level c =
    let low = level-low c.args.tree.now c.args.row c.requires.tree (level_at c.args.tree.now c.args.row) c.args.row c.requires.low refl in
    let room = c.requires.room in
    let is = c.level-level.ensures in
    omega (arith, low, room, is)

pub loop-end-init : goal.loop-end-init
loop-end-init c = record {
  grows = growing-begin c.args.tree.now c.args.row c.args.ends.now c.requires.tree c.requires.low;
  extends = extends-none c.args.tree.now c.args.row;
  level = ap (λ n. n + 1) c.level-level.ensures;
  spans = λ near spans are. spanning-begin near c.args.tree.now c.args.row c.args.ends.now spans;
}

pub loop-end-preserved : goal.loop-end-preserved
loop-end-preserved c =
    let old = c.loop-end.invariant in
    let rows = c.loop-end.tree in
    let row = c.args.row in
    let ends = c.args.ends.now in
    let node = get_or ends c.loop-end.end-index 0 in
    let level = c.level-level.result + 1 in
    let made = subst (λ (new : Rows). IsStep rows new row ends c.loop-end.end-index) (sym c.in_ok-add.ensures)
    (step rows row ends c.loop-end.end-index old.grows level old.level c.requires.ascending c.loop-end-test.true node refl) in
    record {
      grows = made.grows;
      extends = extends-on c.args.tree.now rows c.add.new.self row old.extends made.extends;
      level = old.level ∙ ap (λ n. n + 1) (sym (made.extends.levels row old.grows.low));
      spans = λ near spans are. made.spans near (subst (λ n. AreNeighbours near n ends) (sym (old.extends.nodes row c.requires.low)) are)
          (old.spans near spans are);
    }

pub returns-clause-spans : goal.returns-clause-spans
returns-clause-spans c = λ near spans are.
    let old = c.loop-end.invariant in
    let test = c.loop-end-test.false in
    let most = c.loop-end.auto.end-index-end in
    let all : c.loop-end.end-index ≡ length c.args.ends.now = omega (arith, test, most) in
    spanning-end near c.loop-end.tree c.args.row c.args.ends.now
    (subst (IsSpanning near c.loop-end.tree c.args.row c.args.ends.now) all (old.spans near spans are))
    (subst (λ n. AreNeighbours near n c.args.ends.now) (sym (old.extends.nodes c.args.row c.requires.low)) are)

pub returns-in_err-add-clause-extends : goal.returns-in_err-add-clause-extends
returns-in_err-add-clause-extends c = never_ok c.from_residual.result _ _ c.from_residual.ensures.1

pub returns-in_err-add-clause-tree : goal.returns-in_err-add-clause-tree
returns-in_err-add-clause-tree c = never_ok c.from_residual.result _ _ c.from_residual.ensures.1

pub returns-in_err-add-clause-spans : goal.returns-in_err-add-clause-spans
returns-in_err-add-clause-spans c = never_ok c.from_residual.result _ _ c.from_residual.ensures.1
