-- The places of links stand apart.
use Rattle.std.proofs.Common.{◌≡◌, ◌≢◌, ◌⊎◌, ⊎_elim, inl, inr, ℕ, ◌+◌, ◌*◌, ◌<◌, ◌≤◌, true, arith}
use Rattle.std.proofs.lemmas.Bool.{cases_lt}
use Rattle.std.proofs.lemmas.Bool.Decides.{nat_tests}
use Rattle.rec_bytes.proofs.Numbers.{Apart}
use Rattle.rel_store.specs.Linked.{is_link}

-- a link is one of the sixteen numbers of a record
pub link_word : (at : ℕ) → is_link at ≡ true → (word : ℕ) × (at ≡ 4 * word) × (at + 4 ≤ 64)
link_word at link = by (of at link)
  where
    of : (at : ℕ) → is_link at ≡ true → (at ≡ 16) ⊎ ((at ≡ 20) ⊎ ((at ≡ 24) ⊎ (at ≡ 28)))
    of at link = grind (arith, nat_tests)

    by : (at ≡ 16) ⊎ ((at ≡ 20) ⊎ ((at ≡ 24) ⊎ (at ≡ 28))) → (word : ℕ) × (at ≡ 4 * word) × (at + 4 ≤ 64)
    by (inl e) = (4, omega arith, omega arith)
    by (inr (inl e)) = (5, omega arith, omega arith)
    by (inr (inr (inl e))) = (6, omega arith, omega arith)
    by (inr (inr (inr e))) = (7, omega arith, omega arith)

-- two of them stand apart
pub words_apart : (a b i j : ℕ) → a ≡ 4 * i → b ≡ 4 * j → a ≢ b → Apart 4 a 4 b
words_apart a b i j p q ne = ⊎_elim
    (λ (lt : i < j). inl (omega arith))
    (λ (ge : j ≤ i). inr (⊎_elim (λ (lt : j < i). omega arith) (λ (le : i ≤ j). absurd (ne (omega arith))) (cases_lt j i)))
    (cases_lt i j)

pub links_apart : (a b : ℕ) → is_link a ≡ true → is_link b ≡ true → a ≢ b → Apart 4 a 4 b
links_apart a b link other ne =
    let i = link_word a link in
    let j = link_word b other in
    words_apart a b i.0 j.0 i.1 j.1 ne
