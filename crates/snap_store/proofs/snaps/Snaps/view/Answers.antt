use Rattle.std.proofs.Common.{ap, sym, ◌∙◌, subst}
use Rattle.snap_store.specs.Layers.{from}
use Rattle.snap_store.specs.Marks.{AreMarked}
use Rattle.snap_store.specs.Snaps.{layers_of}
use Rattle.snap_store.proofs.MarkLaws.{marked_less, only_from}
use Rattle.snap_store.proofs.snaps.Snaps.view.Goals as goal

pub invariant_of-result : goal.invariant_of-result
invariant_of-result g c =
    let xs = c.self.inside.layers.items in
    record {
      marked = subst (AreMarked c.self.inside.marks.items) (sym (c.layers_from.ensures ∙ ap (λ ls. from c.args.reader (layers_of ls)) c.deref.ensures.value))
          (marked_less c.self.inside.marks.items (from c.args.reader (layers_of xs)) (layers_of xs) (only_from c.args.reader (layers_of xs))
          c.self.invariant.marked);
    }
