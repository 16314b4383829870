-- Calls of a view, one after the other, leave it over the same space.
use Rattle.std.specs.Prelude.{◌≡◌}
use Rattle.std.proofs.Common.{refl, ◌∙◌}
use Rattle.snap_store.specs.declared.view.View.{View}

module _ {R : Type 0} (onward : R → R → Type 0) where
  -- the view is of the same layers over the same space, in which only such calls were made
  pub record OnwardView (old new : View R) : Type 0 where
    pub same : new.committed.ghost_name ≡ old.committed.ghost_name
    pub layers : new.kept.layers.now ≡ old.kept.layers.now
    pub beneath : onward old.committed.now new.committed.now

  pub onward_none : (v : View R) → onward v.committed.now v.committed.now → OnwardView v v
  onward_none v stays = record { same = refl; layers = refl; beneath = stays }

  pub onward_more : (a b c : View R)
      → (onward a.committed.now b.committed.now → onward b.committed.now c.committed.now
      → onward a.committed.now c.committed.now)
      → OnwardView a b → OnwardView b c → OnwardView a c
  onward_more a b c further first more = record {
    same = more.same ∙ first.same;
    layers = more.layers ∙ first.layers;
    beneath = further first.beneath more.beneath;
  }
