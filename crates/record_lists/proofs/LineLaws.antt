-- Lists that follow links, step by step.
use Rattle.std.proofs.Common.{◌≡◌, ◌≢◌, ◌⊎◌, ℕ, ◌<◌, ◌≤◌, Bool, true, false, ◌||◌, List, [], ◌∷◌, ◌++◌, length, map}
use Rattle.std.proofs.Common.{sym, ap, ◌∙◌, subst, inl, inr, ⊎_elim, arith, refl}
use Rattle.std.specs.List.{list_any, IsDistinct, AllByRecursion}
use Rattle.std.proofs.Math.Dec.{eqb}
use Rattle.std.proofs.lemmas.Bool.{eqb-true, eq-eqb, ne_eqb, or_cases, true≢false}
use Rattle.std.proofs.lemmas.Map.Steps.{length-le_from_distinct_below}
use Rattle.rec_bytes.specs.Format.{most_ids, nil}
use Rattle.store_rules.specs.Chains.{In, IsWalk}
use Rattle.store_rules.proofs.ChainLaws.{head_once}
use Rattle.record_lists.specs.Lines.{IsLine}

-- the links lead from one identifier through just these to another one, and the last of them is told too
abbrev pub IsPath : (ℕ → ℕ) → (ℕ → ℕ → Bool) → ℕ → ℕ → ℕ → List ℕ → ℕ → ℕ → Type 0
IsPath next fits high before from [] last to = (before ≡ last) × (from ≡ to)
IsPath next fits high before from (x ∷ xs) last to = (from ≡ x) × (x < high) × (fits before x ≡ true) × IsPath next fits high x (next x) xs last to

-- what a function makes of a member is a member of what it makes of all
pub in_map : (f : ℕ → ℕ) (x : ℕ) (xs : List ℕ) → In x xs → In (f x) (map f xs)
in_map f x [] i = elim i [ ]
in_map f x (y ∷ ys) (inl e) = inl (ap f e)
in_map f x (y ∷ ys) (inr i) = inr (in_map f x ys i)

pub apart_from : (x : ℕ) (xs : List ℕ) → (In x xs → ⊥) → AllByRecursion (λ y. eqb x y ≡ false) xs
apart_from x [] out = tt
apart_from x (y ∷ ys) out = (ne_eqb x y (λ e. out (inl e)), apart_from x ys (λ i. out (inr i)))

module _ (next : ℕ → ℕ) (fits : ℕ → ℕ → Bool) (high : ℕ) where
  -- one more
  pub path_more : (b f : ℕ) (xs : List ℕ) (last to : ℕ) → IsPath next fits high b f xs last to → to < high → fits last to ≡ true
      → IsPath next fits high b f (xs ++ to ∷ []) to (next to)
  path_more b f [] last to h lt ok = (h.1, lt, subst (λ z. fits z to ≡ true) (sym h.0) ok, (refl, refl))
  path_more b f (x ∷ xs) last to h lt ok = (h.0, h.1, h.2, path_more x (next x) xs last to h.3 lt ok)

  pub path_step : (b f : ℕ) (xs : List ℕ) (last to : ℕ) → IsPath next fits high b f xs last to → to < high → fits last to ≡ true
      → (ys : List ℕ) (on : ℕ) → ys ≡ xs ++ to ∷ [] → on ≡ next to → IsPath next fits high b f ys to on
  path_step b f xs last to h lt ok ys on e n = rw (e, n) (path_more b f xs last to h lt ok)

  -- a line is determined
  pub line_one : (b f : ℕ) (xs ys : List ℕ) → high ≤ most_ids → IsLine next fits high b f xs → IsLine next fits high b f ys → xs ≡ ys
  line_one b f [] [] room h k = refl
  line_one b f [] (y ∷ ys) room h k = absurd (let lt : y < high = k.1 in let e : y ≡ nil = sym k.0 ∙ h in omega arith)
  line_one b f (x ∷ xs) [] room h k = absurd (let lt : x < high = h.1 in let e : x ≡ nil = sym h.0 ∙ k in omega arith)
  line_one b f (x ∷ xs) (y ∷ ys) room h k =
      let same : y ≡ x = sym k.0 ∙ h.0 in
      ap (λ z. z ∷ xs) (sym same) ∙ ap (λ zs. y ∷ zs) (line_one y (next y) xs ys room (subst (λ z. IsLine next fits high z (next z) xs) (sym same) h.3) k.3)

  -- at the end
  pub path_ends : (b f : ℕ) (xs : List ℕ) (last to : ℕ) → IsPath next fits high b f xs last to → to ≡ nil → IsLine next fits high b f xs
  path_ends b f [] last to h e = h.1 ∙ e
  path_ends b f (x ∷ xs) last to h e = (h.0, h.1, h.2, path_ends x (next x) xs last to h.3 e)

  module _ (room : high ≤ most_ids) where
    pub walk_of_line : (b f : ℕ) (xs : List ℕ) → IsLine next fits high b f xs → IsWalk next f xs
    walk_of_line b f [] h = h
    walk_of_line b f (x ∷ xs) h = (h.0, (λ e. let lt : x < high = h.1 in omega arith), walk_of_line x (next x) xs h.3)

    -- a line is a path and what comes behind it
    pub behind_path : (b f : ℕ) (xs : List ℕ) (last to : ℕ) (zs : List ℕ) → IsPath next fits high b f xs last to → IsLine next fits high b f zs
        → (ys : List ℕ) × (zs ≡ xs ++ ys) × IsLine next fits high last to ys
    behind_path b f [] last to zs h k = (zs, refl, subst (λ z. IsLine next fits high z to zs) h.0 (subst (λ z. IsLine next fits high b z zs) h.1 k))
    behind_path b f (x ∷ xs) last to [] h k = absurd (let lt : x < high = h.1 in let e : x ≡ nil = sym h.0 ∙ k in omega arith)
    behind_path b f (x ∷ xs) last to (z ∷ zs) h k =
        let same : z ≡ x = sym k.0 ∙ h.0 in
        let r = behind_path x (next x) xs last to zs h.3 (subst (λ w. IsLine next fits high w (next w) zs) same k.3) in
        (r.0, ap (λ w. w ∷ zs) same ∙ ap (λ w. x ∷ w) r.1, r.2)

    -- a path that meets one that may not stand there
    pub no_line : (b f : ℕ) (xs : List ℕ) (last to : ℕ) → IsPath next fits high b f xs last to → to ≢ nil → (high ≤ to) ⊎ (fits last to ≡ false)
        → (zs : List ℕ) → IsLine next fits high b f zs → ⊥
    no_line b f xs last to h there bad zs k = stands (behind_path b f xs last to zs h k)
      where
        stands : ((ys : List ℕ) × (zs ≡ xs ++ ys) × IsLine next fits high last to ys) → ⊥
        stands ([], e, l) = there l
        stands (y ∷ ys, e, l) = ⊎_elim
            (λ (ge : high ≤ to). let lt : y < high = l.1 in let q : to ≡ y = l.0 in omega arith)
            (λ (no : fits last to ≡ false). true≢false (sym l.2 ∙ ap (fits last) (sym l.0) ∙ no))
            bad

    pub below_in : (b f : ℕ) (xs : List ℕ) → IsLine next fits high b f xs → (q : ℕ) → In q xs → q < high
    below_in b f [] h q i = elim i [ ]
    below_in b f (x ∷ xs) h q (inl e) = subst (λ z. z < high) (sym e) h.1
    below_in b f (x ∷ xs) h q (inr i) = below_in x (next x) xs h.3 q i

    line_distinct : (b f : ℕ) (xs : List ℕ) → IsLine next fits high b f xs → IsDistinct eqb xs
    unfolding IsDistinct
    line_distinct b f [] h = tt
    line_distinct b f (x ∷ xs) h =
        let w = walk_of_line b f (x ∷ xs) h in
        (apart_from x xs (λ i. head_once next x xs w.1 w.2 i), line_distinct x (next x) xs h.3)

    in_from_any : (q : ℕ) (xs : List ℕ) → list_any (eqb q) xs ≡ true → In q xs
    in_from_any q [] h = absurd (true≢false (sym h))
    in_from_any q (x ∷ xs) h = ⊎_elim (λ e. inl (eqb-true q x e)) (λ k. inr (in_from_any q xs k)) (or_cases (eqb q x) (list_any (eqb q) xs) h)

    -- a line is no longer than the mark
    pub line_short : (b f : ℕ) (xs : List ℕ) → IsLine next fits high b f xs → length xs ≤ high
    line_short b f xs h = length-le_from_distinct_below xs high (line_distinct b f xs h) (λ q e. below_in b f xs h q (in_from_any q xs e))

    length_two : (xs : List ℕ) (y : ℕ) (ys : List ℕ) → length xs < length (xs ++ y ∷ ys)
    length_two [] y ys = omega arith
    length_two (x ∷ xs) y ys = let k = length_two xs y ys in omega arith

    -- a path as long as the mark that goes on
    pub no_line_so_long : (b f : ℕ) (xs : List ℕ) (last to : ℕ) → IsPath next fits high b f xs last to → to ≢ nil → length xs ≡ high
        → (zs : List ℕ) → IsLine next fits high b f zs → ⊥
    no_line_so_long b f xs last to h there long zs k = stands (behind_path b f xs last to zs h k)
      where
        stands : ((ys : List ℕ) × (zs ≡ xs ++ ys) × IsLine next fits high last to ys) → ⊥
        stands ([], e, l) = there l
        stands (y ∷ ys, e, l) =
            let short = line_short b f zs k in
            let same : length zs ≡ length (xs ++ y ∷ ys) = ap length e in
            let more = length_two xs y ys in
            omega arith

-- what two walks from one identifier meet is the same
pub walk_members : (next : ℕ → ℕ) (f : ℕ) (xs ys : List ℕ) → IsWalk next f xs → IsWalk next f ys → (q : ℕ) → In q xs → In q ys
walk_members next f [] ys h k q i = elim i [ ]
walk_members next f (x ∷ xs) [] h k q i = absurd (h.1 (sym h.0 ∙ k))
walk_members next f (x ∷ xs) (y ∷ ys) h k q (inl e) = inl (e ∙ sym h.0 ∙ k.0)
walk_members next f (x ∷ xs) (y ∷ ys) h k q (inr i) =
    let same : x ≡ y = sym h.0 ∙ k.0 in
    inr (walk_members next (next x) xs ys h.2 (subst (λ z. IsWalk next (next z) ys) (sym same) k.2) q i)

-- what a test of a list finds
pub in_from_among : (q : ℕ) (xs : List ℕ) → list_any (eqb q) xs ≡ true → In q xs
in_from_among q [] h = absurd (true≢false (sym h))
in_from_among q (x ∷ xs) h = ⊎_elim (λ e. inl (eqb-true q x e)) (λ k. inr (in_from_among q xs k)) (or_cases (eqb q x) (list_any (eqb q) xs) h)

or-true : (b : Bool) → (b || true) ≡ true
or-true true = refl
or-true false = refl

pub among_from_in : (q : ℕ) (xs : List ℕ) → In q xs → list_any (eqb q) xs ≡ true
among_from_in q [] i = elim i [ ]
among_from_in q (x ∷ xs) (inl e) = rw (eq-eqb q x e) refl
among_from_in q (x ∷ xs) (inr i) = rw (among_from_in q xs i) (or-true (eqb q x))

-- a list of records that a test of each record lets in
pub line_of_walk : (next : ℕ → ℕ) (test : ℕ → Bool) (high b f : ℕ) (xs : List ℕ) → IsWalk next f xs → ((x : ℕ) → In x xs → x < high)
    → ((x : ℕ) → In x xs → test x ≡ true)
    → IsLine next (λ _ x. test x) high b f xs
line_of_walk next test high b f [] h low ok = h
line_of_walk next test high b f (x ∷ xs) h low ok = (
  h.0,
  low x (inl refl),
  ok x (inl refl),
  line_of_walk next test high x (next x) xs h.2
      (λ y i. low y (inr i)) (λ y i. ok y (inr i)),
)

pub tested_in : (next : ℕ → ℕ) (test : ℕ → Bool) (high b f : ℕ) (xs : List ℕ) → IsLine next (λ _ x. test x) high b f xs → (x : ℕ) → In x xs → test x ≡ true
tested_in next test high b f [] h x i = elim i [ ]
tested_in next test high b f (y ∷ ys) h x (inl e) = ap test e ∙ h.2
tested_in next test high b f (y ∷ ys) h x (inr i) = tested_in next test high y (next y) ys h.3 x i
