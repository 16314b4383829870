use Rattle.std.proofs.Common.{◌≡◌, ◌<◌, ◌∷◌, [], ◌++◌, reverse, sym, ap, subst, ◌∙◌, arith}
use Rattle.path_find.specs.Tree.{level_at, way_to}
use Rattle.path_find.proofs.WaysBack.{pos_at, way_back}
use Rattle.rec_bytes.proofs.Causes.{never_ok}
use Rattle.path_find.proofs.reading.walk_to.Goals as goal

pub loop-preserved : goal.loop-preserved
loop-preserved c =
    let rows = c.args.tree.now in
    let at = c.loop.at in
    let old = c.loop.invariant in
    let tree = c.requires.tree.tree in
    let test = c.loop-test.true in
    let level = old.level in
    let end = old.end in
    let some : 0 < level_at rows at = omega (arith, level, end, test) in
    let grown = tree.grown at (pos_at rows c.requires.tree.done tree at old.low some) old.low in
    let earlier = grown.earlier in
    let up = grown.level in
    let low = old.low in
    let parent = c.parent-at.ensures in
    let pushed = c.in_ok-push.ensures.items ∙ ap (λ n. c.loop.walk.items ++ n ∷ []) c.node.ensures in
    record {
      low = omega (arith, parent, earlier, low);
      level = let same = ap (level_at rows) parent in omega (arith, level, up, same);
      end = end;
      way = subst (λ p. way_to rows (level_at rows c.args.row) c.args.row ≡ way_to rows (level_at rows p) p ++ reverse c.push.new.self.items) (sym parent)
          (way_back rows c.requires.tree.done tree at old.low (way_to rows (level_at rows c.args.row) c.args.row) c.loop.walk.items c.push.new.self.items some
          old.way pushed);
    }

pub returns-in_err-push : goal.returns-in_err-push
returns-in_err-push c = never_ok c.from_residual.result _ _ c.from_residual.ensures.1

pub returns-in_err-push-2 : goal.returns-in_err-push-2
returns-in_err-push-2 c = never_ok c.from_residual-in_err-push-2.result _ _ c.from_residual-in_err-push-2.ensures.1
