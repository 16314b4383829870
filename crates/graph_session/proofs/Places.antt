-- The places of pairs: which comes next, and what they are.
use Rattle.std.proofs.Common.{◌≡◌, ◌⊎◌, ◌∙◌, ◌+◌, ◌*◌, ◌/◌, ◌%◌, ◌<◌, ◌≤◌, inl, inr, ℕ, zero, suc, nat_eq, nat_lt, Bool}
use Rattle.std.proofs.Common.{true, false, ◌&&◌, ◌||◌, if◌then◌else◌, cond, Option, None, Some, List, [], ◌∷◌, ◌++◌}
use Rattle.std.proofs.Common.{append_assoc, length, get_or, take, map, add-one, true≢false, refl, sym, ap, subst}
use Rattle.std.proofs.Common.{⊎_elim, arith}
use Rattle.std.proofs.Math.Nat.{div-mul-le_self, mod-lt, mul-le-mul_right, suc-mul}
use Rattle.std.proofs.Math.Seq.{take-suc}
use Rattle.std.proofs.lemmas.Bool.{cases_lt, eqb-true, ltb-true}
use Rattle.std.proofs.lemmas.List.{append-nil, map-append}
use Rattle.std.proofs.lemmas.List.Folds.{list_any-append}
use Rattle.std.proofs.lemmas.Nat.{div-mul-add, mod-mul-add}
use Rattle.prop_index.specs.declared.listing.IndexPair.{IndexPair}
use Rattle.store_rules.specs.Rows.{ids, if_test, option_list}
use Rattle.store_rules.proofs.NumberLaws.{and_parts, eq_false, eq_true, lt_true}
use Rattle.change_parts.proofs.GraphPairs.{same_truth}
use Rattle.graph_session.specs.Exchange.{AreFirst}
use Rattle.graph_session.specs.IndexLists.{IsNext, is_place, is_taken, lines_below, place_line, place_of, with_place}

-- ---- the first place from one on

or_none : (a : Bool) → (a || false) ≡ a
or_none true = refl
or_none false = refl

either : (a b : Bool) → a ≡ false → b ≡ false → (a || b) ≡ false
either a b first second = (λ i. first i || second i)

module _ (test : ℕ → Bool) (from : ℕ) where
  -- none does, or one that comes before
  pub next-same : (next : Option ℕ) → IsNext test from next → IsNext (with_place test None) from next
  next-same None is = λ x low. or_none (test x) ∙ is x low
  next-same (Some best) is = (is.0, or_none (test best) ∙ is.1, λ x low lt. or_none (test x) ∙ is.2 x low lt)

  pub next-early : (next : Option ℕ) (place : ℕ) → place < from → IsNext test from next → IsNext (with_place test (Some place)) from next
  next-early None place lt is = λ x low. either (test x) (nat_eq place x) (is x low) (eq_false place x (λ e. omega (arith, e, lt, low)))
  next-early (Some best) place lt is = (
    is.0,
    ap (λ (b : Bool). b || nat_eq place best) is.1,
    λ x low less. either (test x) (nat_eq place x) (is.2 x low less) (eq_false place x (λ e. omega (arith, e, lt, low))),
  )

  -- the best one so far stays it
  pub next-stays : (best place : ℕ) → best ≤ place → IsNext test from (Some best) → IsNext (with_place test (Some place)) from (Some best)
  next-stays best place le is = (
    is.0,
    ap (λ (b : Bool). b || nat_eq place best) is.1,
    λ x low less. either (test x) (nat_eq place x) (is.2 x low less) (eq_false place x (λ e. omega (arith, e, le, less))),
  )

  has_own : (place : ℕ) → with_place test (Some place) place ≡ true
  has_own place = ap (λ (b : Bool). test place || b) (eq_true place place refl) ∙ or_true (test place)
    where
      or_true : (a : Bool) → (a || true) ≡ true
      or_true true = refl
      or_true false = refl

  -- or the place is it
  pub next-first : (place : ℕ) → from ≤ place → IsNext test from None → IsNext (with_place test (Some place)) from (Some place)
  next-first place le is = (le, has_own place, λ x low less. either (test x) (nat_eq place x) (is x low) (eq_false place x (λ e. omega (arith, e, less))))

  pub next-nearer : (best place : ℕ) → from ≤ place → place < best → IsNext test from (Some best) → IsNext (with_place test (Some place)) from (Some place)
  next-nearer best place le lt is = (
    le,
    has_own place,
    λ x low less. either (test x) (nat_eq place x) (is.2 x low (omega (arith, less, lt))) (eq_false place x (λ e. omega (arith, e, less))),
  )

-- a test that says the same
next-alike : (test other : ℕ → Bool) (from : ℕ) (next : Option ℕ) → ((x : ℕ) → other x ≡ test x) → IsNext test from next → IsNext other from next
next-alike test other from None alike is = λ x low. alike x ∙ is x low
next-alike test other from (Some place) alike is = (is.0, alike place ∙ is.1, λ x low lt. alike x ∙ is.2 x low lt)

-- what is next among the first pairs, and one more
pub next-more : (count from : ℕ) (pairs : List IndexPair) (n : ℕ) (d : IndexPair) → n < length pairs → (next : Option ℕ)
    → IsNext (with_place (is_taken count (take n pairs)) (place_of count (get_or pairs n d))) from next
    → IsNext (is_taken count (take (n + 1) pairs)) from next
next-more count from pairs n d lt next =
    next-alike (with_place (is_taken count (take n pairs)) (place_of count (get_or pairs n d))) (is_taken count (take (n + 1) pairs)) from next
    (λ x.
    ap (λ (m : ℕ). is_taken count (take m pairs) x) (add-one n)
    ∙ ap (λ (some : List IndexPair). is_taken count some x) (take-suc pairs n d lt)
    ∙ list_any-append (λ pair. is_place (place_of count pair) x) (take n pairs) (get_or pairs n d ∷ [])
    ∙ ap (λ (b : Bool). is_taken count (take n pairs) x || b) (or_none (is_place (place_of count (get_or pairs n d)) x)))

-- ---- the places that are taken

-- a pair of so many numbers
lows : (count : ℕ) (pair : IndexPair) → (nat_lt pair.label count && nat_lt pair.key count) ≡ true → (pair.label < count) × (pair.key < count)
lows count pair both = let parts = and_parts (nat_lt pair.label count) (nat_lt pair.key count) both in
    (ltb-true pair.label count parts.0, ltb-true pair.key count parts.1)

-- the place is below the square of the count
square : (count label key : ℕ) → label < count → key < count → label * count + key < count * count
square count label key label_low key_low =
    let more : suc label * count ≤ count * count = mul-le-mul_right count (omega (arith, label_low)) in
    let next = suc-mul label count in
    omega (arith, more, next, key_low)

pub taken-below : (count : ℕ) (pairs : List IndexPair) (place : ℕ) → is_taken count pairs place ≡ true → place < count * count
taken-below count [] place is = absurd (true≢false (sym is))
taken-below count (pair ∷ pairs) place is = by (is_place (place_of count pair) place) refl (λ more. taken-below count pairs place more) is
  where
    own : (low : Bool) → (nat_lt pair.label count && nat_lt pair.key count) ≡ low
        → is_place (if low then Some (pair.label * count + pair.key) else None) place ≡ true → place < count * count
    own true both is = let low = lows count pair both in subst (λ (p : ℕ). p < count * count) (eqb-true (pair.label * count + pair.key) place is)
        (square count pair.label pair.key low.0 low.1)
    own false both is = absurd (true≢false (sym is))

    by : (b : Bool) → is_place (place_of count pair) place ≡ b → (is_taken count pairs place ≡ true → place < count * count)
        → (b || is_taken count pairs place) ≡ true → place < count * count
    by true own_is later e = own (nat_lt pair.label count && nat_lt pair.key count) refl own_is
    by false own_is later e = later e

-- so both of its numbers are below the count
pub place-parts : (count place : ℕ) → place < count * count → (0 < count) × (place / count < count) × (place % count < count)
place-parts zero place low = absurd (omega (arith, low))
place-parts (suc n) place low = (omega arith, label (cases_lt (place / suc n) (suc n)), mod-lt place (omega arith))
  where
    label : (place / suc n < suc n) ⊎ (suc n ≤ place / suc n) → place / suc n < suc n
    label (inl less) = less
    label (inr more) =
        let whole = div-mul-le_self place (suc n) in
        let square_le : suc n * suc n ≤ place / suc n * suc n = mul-le-mul_right (suc n) more in
        absurd (omega (arith, whole, square_le, low))

-- a pair has the place of two numbers where these are its own
pub pair-at : (count l k : ℕ) (pair : IndexPair) → l < count → k < count
    → is_place (place_of count pair) (l * count + k) ≡ (nat_eq pair.label l && nat_eq pair.key k)
pair-at count l k pair l_low k_low = by (nat_lt pair.label count && nat_lt pair.key count) refl
  where
    same : pair.label ≡ l → pair.key ≡ k → (nat_eq pair.label l && nat_eq pair.key k) ≡ true
    same label key = (λ i. eq_true pair.label l label i && nat_eq pair.key k) ∙ eq_true pair.key k key

    parts : (nat_eq pair.label l && nat_eq pair.key k) ≡ true → (pair.label ≡ l) × (pair.key ≡ k)
    parts is = let both = and_parts (nat_eq pair.label l) (nat_eq pair.key k) is in (eqb-true pair.label l both.0, eqb-true pair.key k both.1)

    by : (low : Bool) → (nat_lt pair.label count && nat_lt pair.key count) ≡ low
        → is_place (if low then Some (pair.label * count + pair.key) else None) (l * count + k) ≡ (nat_eq pair.label l && nat_eq pair.key k)
    by true both =
        let low = lows count pair both in
        same_truth (nat_eq (pair.label * count + pair.key) (l * count + k)) (nat_eq pair.label l && nat_eq pair.key k)
        (λ e.
        let at = eqb-true (pair.label * count + pair.key) (l * count + k) e in
        same (sym (div-mul-add pair.label count pair.key low.1) ∙ ap (λ (p : ℕ). p / count) at ∙ div-mul-add l count k k_low)
        (sym (mod-mul-add pair.label count pair.key low.1) ∙ ap (λ (p : ℕ). p % count) at ∙ mod-mul-add l count k k_low))
        (λ e. let are = parts e in eq_true (pair.label * count + pair.key) (l * count + k) (λ i. are.0 i * count + are.1 i))
    by false both = sym (none (nat_eq pair.label l && nat_eq pair.key k) refl)
      where
        none : (b : Bool) → (nat_eq pair.label l && nat_eq pair.key k) ≡ b → b ≡ false
        none false is = refl
        none true is =
            let are = parts is in
            absurd (true≢false (sym ((λ i. lt_true pair.label count (subst (λ (n : ℕ). n < count) (sym are.0) l_low) i && nat_lt pair.key count)
            ∙ lt_true pair.key count (subst (λ (n : ℕ). n < count) (sym are.1) k_low)) ∙ both))

-- ---- the lines

-- no place is passed over
ids-skip : (test : ℕ → Bool) (from : ℕ) (m : ℕ) → from ≤ m → ((x : ℕ) → from ≤ x → x < m → test x ≡ false) → ids test m ≡ ids test from
ids-skip test from zero le none = let same : zero ≡ from = omega (arith, le) in ap (ids test) same
ids-skip test from (suc m) le none = ⊎_elim
    (λ (low : from < suc m).
    ap (λ (b : Bool). ids test m ++ option_list (cond b (Some m) None)) (none m (omega (arith, low)) (omega arith))
    ∙ append-nil (ids test m)
    ∙ ids-skip test from m (omega (arith, low)) (λ x at lt. none x at (omega (arith, lt))))
    (λ (high : suc m ≤ from). let same : suc m ≡ from = omega (arith, le, high) in ap (ids test) same)
    (cases_lt from (suc m))

module _ (names : List (List ℕ)) (count : ℕ) (pairs : List IndexPair) where
  -- the line of the next place, after those before it
  pub lines-next : (from place : ℕ) → IsNext (is_taken count pairs) from (Some place)
      → lines_below names count pairs (place + 1) ≡ lines_below names count pairs from ++ place_line names count place ∷ []
  lines-next from place is =
      ap (lines_below names count pairs) (add-one place)
      ∙ ap (λ (b : Bool). map (place_line names count) (ids (is_taken count pairs) place ++ option_list (cond b (Some place) None))) is.1
      ∙ ap (λ (places : List ℕ). map (place_line names count) (places ++ place ∷ [])) (ids-skip (is_taken count pairs) from place is.0 is.2)
      ∙ map-append (place_line names count) (ids (is_taken count pairs) from) (place ∷ [])

  -- no line comes after the last one
  pub lines-over : (from : ℕ) → from ≤ count * count → IsNext (is_taken count pairs) from None
      → lines_below names count pairs (count * count) ≡ lines_below names count pairs from
  lines-over from le is = ap (map (place_line names count)) (ids-skip (is_taken count pairs) from (count * count) le (λ x low lt. is x low))

  -- the lines so far are the first of all
  pub lines-begin : (m : ℕ) → m ≤ count * count → AreFirst (lines_below names count pairs m) (lines_below names count pairs (count * count))
  lines-begin m le = begin (count * count) le
    where
      begin : (n : ℕ) → m ≤ n → AreFirst (lines_below names count pairs m) (lines_below names count pairs n)
      begin zero low = let same : m ≡ zero = omega (arith, low) in ([], append-nil (lines_below names count pairs m) ∙ ap (lines_below names count pairs) same)
      begin (suc n) low = ⊎_elim
          (λ (less : m < suc n).
          let some = begin n (omega (arith, less)) in
          let last : List (List ℕ) = map (place_line names count) (option_list (if_test (is_taken count pairs) n)) in (
            some.0 ++ last,
            sym (append_assoc (lines_below names count pairs m) some.0 last)
                ∙ ap (λ (lines : List (List ℕ)). lines ++ last) some.1
                ∙ sym (map-append (place_line names count) (ids (is_taken count pairs) n) (option_list (if_test (is_taken count pairs) n))),
          ))
          (λ (high : suc n ≤ m). let same : m ≡ suc n = omega (arith, low, high) in (
            [],
            append-nil (lines_below names count pairs m) ∙ ap
                (lines_below names count pairs) same,
          ))
          (cases_lt m (suc n))
