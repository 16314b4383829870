use Rattle.std.proofs.Common.{ap, sym, ◌∙◌, subst}
use Rattle.snap_store.specs.Layers.{SameSights, is_open, released}
use Rattle.snap_store.specs.Marks.{AreMarked}
use Rattle.snap_store.specs.Snaps.{Snapshots, layers_of}
use Rattle.snap_store.specs.Sums.{AreCovered}
use Rattle.snap_store.proofs.HeldLaws.{no_place, rising_all}
use Rattle.snap_store.proofs.LayerLaws.{sights-released}
use Rattle.snap_store.proofs.MarkLaws.{marked_less, only_released}
use Rattle.snap_store.proofs.ShapeLaws.{covered-released, gone-released}
use Rattle.snap_store.proofs.snaps.Snaps.release.Goals as goal

pub invariant_of-self-then-is_open : goal.invariant_of-self-then-is_open
invariant_of-self-then-is_open c =
    let xs = c.self.inside.layers.items in
    record {
      right = c.take_away.ensures.right;
      marked = subst (AreMarked c.self.inside.marks.items) (sym c.take_away.ensures.layers)
          (marked_less c.self.inside.marks.items (released c.args.reader (layers_of xs)) (layers_of xs) (only_released c.args.reader (layers_of xs)
          (rising_all xs c.self.invariant.right.each)) c.self.invariant.marked);
    }

pub returns-then-is_open-clause-sights : goal.returns-then-is_open-clause-sights
returns-then-is_open-clause-sights c =
    let xs = c.self.inside.layers.items in
    subst (λ (s : Snapshots). SameSights s.open_ones (layers_of c.take_away.new.layers.items)) c.self.view_is
    (subst (SameSights (layers_of xs)) (sym c.take_away.ensures.layers) (sights-released (layers_of xs) c.args.reader c.self.invariant.right.distinct
    (rising_all xs c.self.invariant.right.each)))

pub returns-then-is_open-clause-covered : goal.returns-then-is_open-clause-covered
returns-then-is_open-clause-covered c = λ sums covered.
    let xs = c.self.inside.layers.items in
    subst (AreCovered sums) (sym c.take_away.ensures.layers) (covered-released sums c.args.reader (layers_of xs)
    (subst (λ (s : Snapshots). AreCovered sums s.open_ones) (sym c.self.view_is) covered))

pub returns-then-is_open-clause-closed : goal.returns-then-is_open-clause-closed
returns-then-is_open-clause-closed c =
    let xs = c.self.inside.layers.items in
    ap (is_open c.args.reader) c.take_away.ensures.layers ∙ gone-released c.args.reader (layers_of xs) c.self.invariant.right.distinct

pub returns-else-is_open-clause-open_ones : goal.returns-else-is_open-clause-open_ones
returns-else-is_open-clause-open_ones c =
    let closed = sym c.is_open.ensures ∙ c.if-is_open.false in
    sym (no_place c.args.reader (layers_of c.self.inside.layers.items) closed) ∙ ap (λ (s : Snapshots). released c.args.reader s.open_ones) c.self.view_is
