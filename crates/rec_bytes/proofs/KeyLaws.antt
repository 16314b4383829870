-- When two keys are the same.
use Rattle.std.proofs.Common.{◌⊎◌, ⊎_elim, inl, inr, ◌<◌, ◌≤◌, ◌≡◌, ℕ, true, false, ◌≢◌, ap, ◌∙◌, arith}
use Rattle.std.proofs.lemmas.Bool.{cases_lt}
use Rattle.std.proofs.lemmas.Bool.Decides.{nat_tests}
use Rattle.rec_bytes.specs.declared.key.Key.{Key}
use Rattle.rec_bytes.specs.Key.{key_eq}

pub key_eq-same : (key : Key) → key_eq key key ≡ true
key_eq-same key = grind (arith, nat_tests)

-- a key that is another is told apart
pub key_eq-other : (a b : Key) → a ≢ b → key_eq a b ≡ false
key_eq-other a b ne = ⊎_elim
    (λ (same : a.file ≡ b.file). ⊎_elim
    (λ (same_id : a.id ≡ b.id). absurd (ne (ap (λ f. record { file = f; id = a.id }) same ∙ ap (λ i. record { file = b.file; id = i }) same_id)))
    (λ (differ : a.id ≢ b.id). grind (arith, nat_tests, differ))
    (nat_cases a.id b.id))
    (λ (differ : a.file ≢ b.file). grind (arith, nat_tests, differ))
    (nat_cases a.file b.file)
  where
    nat_cases : (m n : ℕ) → (m ≡ n) ⊎ (m ≢ n)
    nat_cases m n = ⊎_elim (λ (lt : m < n). inr (λ e. omega arith)) (λ (ge : n ≤ m). ⊎_elim (λ (lt : n < m). inr (λ e. omega arith))
        (λ (le : m ≤ n). inl (omega arith)) (cases_lt n m)) (cases_lt m n)

pub key_eq_true : (a b : Key) → key_eq a b ≡ true → a ≡ b
key_eq_true a b h =
    let file : a.file ≡ b.file = grind (arith, nat_tests) in
    let id : a.id ≡ b.id = grind (arith, nat_tests) in
    ◌∙◌ {b = record { file = b.file; id = a.id }} (ap (λ f. record { file = f; id = a.id }) file) (ap (λ i. record { file = b.file; id = i }) id)
