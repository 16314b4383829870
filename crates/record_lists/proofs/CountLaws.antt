-- Counts of the identifiers below a mark that pass a test.
use Rattle.std.proofs.Common.{◌≡◌, ℕ, suc, ◌+◌, Bool, true, false, cond, Some, None, List, [], ◌∷◌, ◌++◌, length, ap, ◌∙◌, arith}
use Rattle.store_rules.specs.Rows.{ids, option_list}
use Rattle.store_rules.proofs.RowLaws.{append_none}

length-more : (xs : List ℕ) (x : ℕ) → length (xs ++ x ∷ []) ≡ length xs + 1
length-more [] x = omega arith
length-more (y ∷ xs) x = let e = length-more xs x in omega arith

-- one more record is in use, or isn't
pub count_more : (test : ℕ → Bool) (n m : ℕ) → m ≡ n + 1 → test n ≡ true → length (ids test m) ≡ length (ids test n) + 1
count_more test n m e t = ap (λ k. length (ids test k)) (let s : m ≡ suc n = omega arith in s)
    ∙ ap (λ b. length (ids test n ++ option_list (cond b (Some n) None))) t ∙ length-more (ids test n) n

pub count_same : (test : ℕ → Bool) (n m : ℕ) → m ≡ n + 1 → test n ≡ false → length (ids test m) ≡ length (ids test n)
count_same test n m e t = ap (λ k. length (ids test k)) (let s : m ≡ suc n = omega arith in s)
    ∙ ap (λ b. length (ids test n ++ option_list (cond b (Some n) None))) t ∙ ap length (append_none (ids test n))
