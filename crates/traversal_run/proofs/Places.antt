-- Lists that were written back.
use Rattle.std.proofs.Common.{◌≡◌, ℕ, suc, zero, List, [], ◌∷◌, ◌++◌, length, take, drop, refl, ap, sym, ◌∙◌, arith}

take_front : {E : Type 0} (front rest : List E) (n : ℕ) → n ≡ length front → take n (front ++ rest) ≡ front
take_front [] [] zero is = refl
take_front [] (e ∷ rest) zero is = refl
take_front [] rest (suc n) is = absurd (omega arith)
take_front (e ∷ front) rest zero is = absurd (omega arith)
take_front (e ∷ front) rest (suc n) is = ap (λ list. e ∷ list) (take_front front rest n (omega arith))

-- as many elements as before
pub written_back : {E : Type 0} (new old : List E) (len : ℕ) → length new ≡ length old → len ≡ length old → take len (new ++ drop (length new) old) ≡ new
written_back new old len same is = take_front new (drop (length new) old) len (is ∙ sym same)
