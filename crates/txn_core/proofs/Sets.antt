-- How long pairs become.
use Rattle.std.proofs.Common.{◌≡◌, ◌∙◌, ap, subst, sym, ◌≤◌, ◌+◌, cond, false, Some, is_some, [], ◌∷◌, length, refl, arith}
use Rattle.std.specs.declared.cmp.Ordering.TheVariants.{Less, Equal, Greater}
use Rattle.rec_bytes.specs.Key.{key_eq}
use Rattle.rec_bytes.specs.declared.key.Key.{Key}
use Rattle.rec_bytes.specs.declared.record.Rec.{Rec}
use Rattle.rec_bytes.specs.Pairs.{Pairs, IsBelow, IsOrdered, find_pair, growth, growth_by, merged, with_pair}
use Rattle.rec_bytes.proofs.PairLaws.{apart, below_all, by_cmp, exact_keys, growth_by-step, growth_gap, growth_le, ordered_with, reverse, step}

length-with_pair : (ps : Pairs) (key : Key) (rec : Rec) → IsOrdered ps → length (with_pair ps key rec) ≤ length ps + growth ps key
unfolding with_pair
length-with_pair [] key rec rising = omega arith
length-with_pair (pair ∷ rest) key rec rising = by_cmp key pair.0 (length (with_pair (pair ∷ rest) key rec) ≤ length (pair ∷ rest) + growth (pair ∷ rest) key)
    (λ e.
    let new : growth (pair ∷ rest) key ≡ 1 = growth_gap (pair ∷ rest) key 0 (e, below_all key pair.0 rest e rising.0) in
    omega (arith, ap (λ (ps : Pairs). length ps) (step pair rest key rec Less e), new))
    (λ e. omega (arith, ap (λ (ps : Pairs). length ps) (step pair rest key rec Equal e)))
    (λ e.
    let same : growth (pair ∷ rest) key ≡ growth rest key = ap (λ b. cond (is_some (cond b (Some pair.1) (find_pair rest key))) 0 1)
    (apart key pair.0 Greater e (λ x. cc)) in
    omega (arith, ap (λ (ps : Pairs). length ps) (step pair rest key rec Greater e), same, length-with_pair rest key rec rising.1))

-- by a merge
pub length-merged : (ps other : Pairs) → IsOrdered ps → length (merged ps other) ≤ length ps + growth_by ps other
length-merged ps [] rising = omega arith
length-merged ps (pair ∷ rest) rising =
    omega (arith, length-merged (with_pair ps pair.0 pair.1) rest (ordered_with ps pair.0 pair.1 rising), length-with_pair ps pair.0 pair.1 rising)

-- A pair among the first ones makes no difference to greater keys, ..
growth_by-above : (pair : Key × Rec) (ps other : Pairs) → IsBelow pair.0 other → IsOrdered other → growth_by (pair ∷ ps) other ≡ growth_by ps other
growth_by-above pair ps [] below rising = refl
growth_by-above pair ps (next ∷ rest) below rising =
    growth_by-step (pair ∷ ps) next rest rising
    ∙ ap (λ b. cond (is_some (cond b (Some pair.1) (find_pair ps next.0))) 0 1 + growth_by (pair ∷ ps) rest)
    (apart next.0 pair.0 Greater (reverse pair.0 next.0 Less below.0) (λ e. cc))
    ∙ ap (λ n. growth ps next.0 + n) (growth_by-above pair ps rest below.1 rising.1) ∙ sym (growth_by-step ps next rest rising)

-- .. and so at most one of rising keys is there by it.
growth_by-one : (pair : Key × Rec) (ps other : Pairs) → IsOrdered other → growth_by ps other ≤ 1 + growth_by (pair ∷ ps) other
growth_by-one pair ps [] rising = omega arith
growth_by-one pair ps (next ∷ rest) rising = by_cmp next.0 pair.0 (growth_by ps (next ∷ rest) ≤ 1 + growth_by (pair ∷ ps) (next ∷ rest))
    (λ e. another (apart next.0 pair.0 Less e (λ x. cc)) (growth_by-one pair ps rest rising.1))
    (λ e.
    let below = subst (λ (key : Key). IsBelow key rest) (exact_keys next.0 pair.0 e) rising.0 in
    omega (
      arith,
      growth_by-step ps next rest rising,
      growth_by-step (pair ∷ ps) next rest rising,
      growth_le ps next.0,
      growth_by-above pair ps rest below
          rising.1,
    ))
    (λ e. another (apart next.0 pair.0 Greater e (λ x. cc)) (growth_by-one pair ps rest rising.1))
  where
    another : key_eq next.0 pair.0 ≡ false → growth_by ps rest ≤ 1 + growth_by (pair ∷ ps) rest
        → growth_by ps (next ∷ rest) ≤ 1 + growth_by (pair ∷ ps) (next ∷ rest)
    another other later =
        let same : growth (pair ∷ ps) next.0 ≡ growth ps next.0 = ap (λ b. cond (is_some (cond b (Some pair.1) (find_pair ps next.0))) 0 1) other in
        omega (arith, growth_by-step ps next rest rising, growth_by-step (pair ∷ ps) next rest rising, same, later)

-- rising keys are new, or as many as there are others at most
pub length-other : (ps other : Pairs) → IsOrdered other → length other ≤ length ps + growth_by ps other
length-other [] [] rising = omega arith
length-other [] (pair ∷ rest) rising =
    let new : growth [] pair.0 ≡ 1 = refl in
    omega (arith, growth_by-step [] pair rest rising, new, length-other [] rest rising.1)
length-other (pair ∷ ps) other rising = omega (arith, growth_by-one pair ps other rising, length-other ps other rising)

pub empty_pairs : (ps : Pairs) → length ps ≡ 0 → ps ≡ []
empty_pairs [] none = refl
empty_pairs (pair ∷ rest) none = absurd (omega arith)
