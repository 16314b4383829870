-- Records that are put into an empty set, and which of them a shipment may have.
use Rattle.std.proofs.Common.{◌≡◌, ◌∙◌, ap, refl, true, [], ◌∷◌}
use Rattle.std.specs.declared.cmp.Ordering.TheVariants.{Less, Greater}
use Rattle.rec_bytes.specs.declared.key.Key.{Key}
use Rattle.rec_bytes.specs.declared.record.Rec.{Rec}
use Rattle.rec_bytes.specs.declared.shape.Shape.{Shape}
use Rattle.rec_bytes.specs.Pairs.{Pairs, IsBelow, IsOrdered, merged, with_pair}
use Rattle.rec_bytes.proofs.PairLaws.{all_with, reverse, step}
use Rattle.txn_core.specs.Shipped.{AllShip, is_shipped}

merged-above : (pair : Key × Rec) (ps other : Pairs) → IsBelow pair.0 other → merged (pair ∷ ps) other ≡ pair ∷ merged ps other
merged-above pair ps [] below = refl
merged-above pair ps (next ∷ rest) below =
    ap (λ (put : Pairs). merged put rest) (step pair ps next.0 next.1 Greater (reverse pair.0 next.0 Less below.0))
    ∙ merged-above pair (with_pair ps next.0 next.1) rest below.1

pub merged-none : (ps : Pairs) → IsOrdered ps → merged [] ps ≡ ps
unfolding with_pair
merged-none [] rising = refl
merged-none (pair ∷ rest) rising = merged-above pair [] rest rising.0 ∙ ap (λ (later : Pairs). pair ∷ later) (merged-none rest rising.1)

pub all_ship-merged : (shape : Shape) (ps other : Pairs) → AllShip shape ps → AllShip shape other → AllShip shape (merged ps other)
all_ship-merged shape ps [] all more = all
all_ship-merged shape ps (pair ∷ rest) all more =
    all_ship-merged shape (with_pair ps pair.0 pair.1) rest (all_with (λ (write : Key × Rec). is_shipped shape write.0 ≡ true) ps pair.0 pair.1 all more.0)
    more.1
