-- Rows by ascending identifier.
use Rattle.std.specs.Prelude.{ℕ, zero, suc, Bool, cond, Option, None, Some, List, [], ◌∷◌, ◌++◌}

abbrev pub option_list : {E : Type 0} → Option E → List E
option_list None = []
option_list (Some e) = e ∷ []

-- the rows below a mark, in ascending order
abbrev pub collect : {E : Type 0} → (ℕ → Option E) → ℕ → List E
collect row zero = []
collect row (suc n) = collect row n ++ option_list (row n)

abbrev pub if_test : (ℕ → Bool) → ℕ → Option ℕ
if_test test x = cond (test x) (Some x) None

-- the numbers below a mark that pass a test
abbrev pub ids : (ℕ → Bool) → ℕ → List ℕ
ids test n = collect (if_test test) n
