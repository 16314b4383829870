-- A file whose live and free identifiers split those below the mark can give one.
use Rattle.std.proofs.Common.{◌≡◌, ℕ, ◌≤◌, Bool, true, false, List, [], ◌∷◌, ◌∙◌, inl, arith, refl}
use Rattle.rec_bytes.specs.RecordFiles.{room_of}
use Rattle.rec_bytes.specs.Space.{State, meta_of}
use Rattle.store_rules.specs.Rules.{IsSplit}
use Rattle.store_rules.specs.Views.{high, is_live, kind_at}
use Rattle.store_rules.proofs.Counts.{ids_all, ids_fewer}
use Rattle.store_rules.proofs.ViewLaws.{not_live}
use Rattle.id_freelist.specs.Taking.{CanTake, IsCounted}

pub can_take : (s : State) (file : ℕ) (free : List ℕ) → high s.records file ≤ room_of s.shape file → IsSplit s.records file (is_live s.records file) free
    → CanTake s file free
can_take s file free mark split = record {
  list = split.walk;
  low = split.low;
  unused = λ x i. not_live (kind_at s.records file x) (split.only x i);
  count = counted free split;
  mark = mark;
}
  where
    in_use : (x : ℕ) (b : Bool) → (b ≡ false → ⊥) → b ≡ true
    in_use x true f = refl
    in_use x false f = absurd (f refl)

    counted : (xs : List ℕ) → IsSplit s.records file (is_live s.records file) xs → IsCounted xs (meta_of s file).live (high s.records file)
    counted [] k = k.exact ∙ ids_all (is_live s.records file) (high s.records file) (λ x lt. in_use x (is_live s.records file x) (λ e. elim (k.all x lt e) [ ]))
    counted (y ∷ later) k = let e = k.exact in let lt = ids_fewer (is_live s.records file) (high s.records file) y (k.low y (inl refl)) (k.only y (inl refl)) in
        omega arith
