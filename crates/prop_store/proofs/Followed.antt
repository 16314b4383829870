-- What a link leads to.
use Rattle.std.proofs.Common.{◌≡◌, ◌≢◌, ℕ, zero, suc, [], ◌∷◌, refl}
use Rattle.rec_bytes.specs.Format as format
use Rattle.store_rules.specs.Properties.{followed}
use Rattle.store_rules.proofs.NumberLaws.{eq_false, eq_true}

pub followed_none : (n : ℕ) (next : ℕ → ℕ) (from : ℕ) → from ≡ format.nil → followed n next from ≡ []
unfolding followed
followed_none zero next from none = refl
followed_none (suc n) next from none = rw (eq_true from format.nil none) refl

pub followed_one : (n : ℕ) (next : ℕ → ℕ) (from : ℕ) → from ≢ format.nil → followed (suc n) next from ≡ from ∷ followed n next (next from)
unfolding followed
followed_one n next from some = rw (eq_false from format.nil some) refl
