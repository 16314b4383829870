-- Laws of a relationship that gets one before it, unless it is none.
use Rattle.std.proofs.Common.{◌≡◌, ◌≢◌, ◌⊎◌, ◌+◌, ◌≤◌, ℕ, ◌<◌, ◌^◌, refl}
use Rattle.rec_bytes.specs.declared.key.Key.{Key}
use Rattle.rec_bytes.specs.Record.{field}
use Rattle.rec_bytes.specs.Format.{nil}
use Rattle.rec_bytes.specs.Space.{State}
use Rattle.store_rules.specs.Chains.{place_of}
use Rattle.chain_edit.specs.Chains.{Differ, next_of, prev_of, prev_place}
use Rattle.chain_edit.specs.Links.{backed, prev_set}
use Rattle.store_rules.proofs.ChainSteps.{on_test}
use Rattle.chain_edit.proofs.LinkLaws.{field-set_other, place-set_prev, prev_of-set_prev_same, prev_of-set_prev_other, next_of-set_prev}
use Rattle.chain_edit.proofs.LinkLaws.{elsewhere-set_prev, rel_rec}

module _ (s : State) (node f to : ℕ) where
  on_backed : (P : State → Type 0) → (f ≡ nil → P s) → (f ≢ nil → P (prev_set s node f to)) → P (backed s node f to)
  unfolding backed
  on_backed P none some = on_test P f nil s (prev_set s node f to) none some

  pub next_of-backed : (m x : ℕ) → next_of (backed s node f to).records m x ≡ next_of s.records m x
  next_of-backed m x = on_backed (λ t. next_of t.records m x ≡ next_of s.records m x) (λ _. refl) (λ _. next_of-set_prev s.records node f to m x)

  pub prev_of-backed_same : to < 2 ^ 32 → f ≢ nil → prev_of (backed s node f to).records node f ≡ to
  prev_of-backed_same small there = on_backed (λ t. prev_of t.records node f ≡ to) (λ e. absurd (there e)) (λ _. prev_of-set_prev_same s.records node f to
      small)

  pub prev_of-backed_other : (m x : ℕ) → (x ≡ f → Differ s.records node m f) → prev_of (backed s node f to).records m x ≡ prev_of s.records m x
  prev_of-backed_other m x ne = on_backed (λ t. prev_of t.records m x ≡ prev_of s.records m x) (λ _. refl) (λ _. prev_of-set_prev_other s.records node f to m x
      ne)

  pub place-backed : (m x : ℕ) → place_of (rel_rec (backed s node f to).records x) m ≡ place_of (rel_rec s.records x) m
  place-backed m x = on_backed (λ t. place_of (rel_rec t.records x) m ≡ place_of (rel_rec s.records x) m) (λ _. refl) (λ _. place-set_prev s.records node f to m
      x)

  pub elsewhere-backed : (key : Key) → key.file ≢ 2 → (backed s node f to).records key ≡ s.records key
  elsewhere-backed key ne = on_backed (λ t. t.records key ≡ s.records key) (λ _. refl) (λ _. elsewhere-set_prev s.records node f to key ne)

  -- each number but the link stays
  pub field-backed : (key : Key) (n at : ℕ) → at + n ≤ 64 → (key ≡ (prev_place s.records node f).key → (at + n ≤ (prev_place s.records node f).field) ⊎
      ((prev_place s.records node f).field + 4 ≤ at))
      → field n ((backed s node f to).records key) at ≡ field n (s.records key) at
  field-backed key n at fits apart = on_backed (λ t. field n (t.records key) at ≡ field n (s.records key) at) (λ _. refl) (λ _. field-set_other s.records
      (prev_place s.records node f) to key n at fits apart)
