-- A walk that seeks one of its members, so far.
use Rattle.std.proofs.Common.{◌≡◌, ◌≢◌, ◌⊎◌, ⊎_elim, ℕ, ◌+◌, ◌≤◌, List, [], ◌∷◌, length, ap, sym, ◌∙◌, subst, inl, inr, arith}
use Rattle.rec_bytes.specs.Format as format
use Rattle.store_rules.specs.Chains.{In, IsWalk}

-- Those that are left, of which there were so many before. None that was passed is sought.
pub record IsSearched (next : ℕ → ℕ) (sought : ℕ → Type 0) (all : List ℕ) (at count : ℕ) : Type 0 where
  pub rest : List ℕ
  pub walk : IsWalk next at rest
  pub counted : length rest + count ≡ length all
  pub part : (x : ℕ) → In x rest → In x all
  pub passed : (x : ℕ) → In x all → In x rest ⊎ (¬ sought x)

-- at first all are left
pub search_begins : (next : ℕ → ℕ) (sought : ℕ → Type 0) (all : List ℕ) (at : ℕ) → IsWalk next at all → IsSearched next sought all at 0
search_begins next sought all at walked = record {
  rest = all;
  walk = walked;
  counted = omega arith;
  part = λ x i. i;
  passed = λ x i. inl i;
}

module _ (next : ℕ → ℕ) (sought : ℕ → Type 0) (all : List ℕ) (at count : ℕ) (h : IsSearched next sought all at count) where
  -- nothing is left at the end
  pub search_over : at ≡ format.nil → (x : ℕ) → In x all → ¬ sought x
  search_over end x i = by h.rest h.walk (h.passed x i)
    where
      by : (rest : List ℕ) → IsWalk next at rest → In x rest ⊎ (¬ sought x) → ¬ sought x
      by [] walk (inl j) = elim j [ ]
      by [] walk (inr k) = k
      by (y ∷ ys) walk k = absurd (walk.1 (sym walk.0 ∙ end))

  -- else the next one is among them, and one is left for it
  pub search_here : at ≢ format.nil → In at all × (count + 1 ≤ length all)
  search_here some = by h.rest h.walk h.counted h.part
    where
      by : (rest : List ℕ) → IsWalk next at rest → length rest + count ≡ length all → ((x : ℕ) → In x rest → In x all) → In at all × (count + 1 ≤ length all)
      by [] walk counted part = absurd (some walk)
      by (y ∷ ys) walk counted part = (part at (inl walk.0), omega arith)

  -- and where it is not sought, it is passed
  pub search_on : (to : ℕ) → at ≢ format.nil → to ≡ next at → (¬ sought at) → IsSearched next sought all to (count + 1)
  search_on to some after other = by h.rest h.walk h.counted h.part h.passed
    where
      by : (rest : List ℕ) → IsWalk next at rest → length rest + count ≡ length all → ((x : ℕ) → In x rest → In x all)
          → ((x : ℕ) → In x all → In x rest ⊎ (¬ sought x)) → IsSearched next sought all to (count + 1)
      by [] walk counted part passed = absurd (some walk)
      by (y ∷ ys) walk counted part passed = record {
        rest = ys;
        walk = subst (λ n. IsWalk next n ys) (ap next (sym walk.0) ∙ sym after) walk.2;
        counted = omega arith;
        part = λ x i. part x (inr i);
        passed = λ x i. ⊎_elim
            (λ (j : In x (y ∷ ys)). ⊎_elim (λ (e : x ≡ y). inr (subst (λ z. ¬ sought z) (walk.0 ∙ sym e) other)) (λ (k : In x ys). inl k) j)
            (λ (k : ¬ sought x). inr k) (passed x i);
      }

  -- where no more are left the walk has ended
  pub search_ends : length all ≤ count → at ≡ format.nil
  search_ends many = by h.rest h.walk h.counted
    where
      by : (rest : List ℕ) → IsWalk next at rest → length rest + count ≡ length all → at ≡ format.nil
      by [] walk counted = walk
      by (y ∷ ys) walk counted = absurd (omega arith)
