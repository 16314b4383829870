-- Which items are seen in lists.
use Rattle.std.proofs.Common.{◌≡◌, ◌⊎◌, ℕ, ◌+◌, ◌<◌, ◌≤◌, Bool, true, false, ◌||◌, List, [], ◌∷◌, sym, ap, ◌∙◌, subst, inl, inr, ⊎_elim, arith, refl}
use Rattle.std.specs.Bool.{Decides}
use Rattle.std.specs.List.{list_any}
use Rattle.std.proofs.lemmas.Bool.{or_cases, cases_Bool, cases_lt, true≢false}
use Rattle.store_rules.specs.Chains.{In}
use Rattle.record_lists.specs.Seen.{is_seen, is_among}
use Rattle.record_lists.proofs.LineLaws.{in_from_among, among_from_in}
use Rattle.record_lists.specs.Heads.{AtHead, AmongHeads, IsOnce, HeadTold}
use Rattle.record_lists.specs.declared.heads.Told.TheVariants.{Seen}

or-left : (a b : Bool) → b ≡ true → (a || b) ≡ true
or-left true b e = refl
or-left false b e = e

or_parts : (a b : Bool) → (a || b) ≡ false → (a ≡ false) × (b ≡ false)
or_parts true b e = absurd (true≢false e)
or_parts false b e = (refl, e)

none_of : (test : ℕ → Bool) (xs : List ℕ) → list_any test xs ≡ false → (x : ℕ) → In x xs → test x ≡ false
none_of test [] h x i = elim i [ ]
none_of test (y ∷ ys) h x (inl e) = ap test e ∙ (or_parts (test y) (list_any test ys) h).0
none_of test (y ∷ ys) h x (inr i) = none_of test ys (or_parts (test y) (list_any test ys) h).1 x i

-- what holds of the first k, and of the next
pub one_more : (P : ℕ → Type 0) (k : ℕ) → ((n : ℕ) → n < k → P n) → P k → (n : ℕ) → n < k + 1 → P n
one_more P k below here n lt = ⊎_elim (λ (l : n < k). below n l) (λ (ge : k ≤ n). let same : k ≡ n = omega arith in subst P same here) (cases_lt n k)

-- what is not seen was not seen earlier
pub not_earlier : (first now : List Bool) (p : ℕ) → (is_seen first p ≡ true → is_seen now p ≡ true) → is_seen now p ≡ false → is_seen first p ≡ false
not_earlier first now p more none = ⊎_elim (λ (t : is_seen first p ≡ true). absurd (true≢false (sym (more t) ∙ none))) (λ (f : is_seen first p ≡ false). f)
    (cases_Bool (is_seen first p))

module _ (has : ℕ → Type 0) (lists : ℕ → List ℕ → Type 0) where
  pub told_seen : (id : ℕ) (items : List ℕ) (old new : List Bool) → has id → lists id items → ((xs : List ℕ) → lists id xs → xs ≡ items)
      → list_any (is_seen old) items ≡ false → ((p : ℕ) → is_seen new p ≡ (is_seen old p || is_among items p)) → HeadTold has lists id old new Seen
  told_seen id items old new must listed one fresh e =
      let inside : (p : ℕ) → AtHead has lists id p → In p items = λ p a. subst (In p) (one a.items a.listed) a.member in (
        record { list = λ _. (items, listed) },
        (λ p. (
          (λ m. ⊎_elim (λ o. inl o) (λ a. inr (record { must = must; items = items; listed = listed; member = in_from_among p items a }))
              (or_cases (is_seen old p) (is_among items p) (sym (e p) ∙ m))),
          (λ i. e p ∙ ⊎_elim (λ o. rw o refl) (λ (a : AtHead has lists id p). or-left (is_seen old p) (is_among items p) (among_from_in p items (inside p a)))
              i),
        )),
        (λ p a. none_of (is_seen old) items fresh p (inside p a)),
      )

  -- before the first record only what was seen earlier is seen
  pub among_none : (seen : List Bool) (p : ℕ) → Decides (is_seen seen p) ((is_seen seen p ≡ true) ⊎ AmongHeads has lists 0 p)
  among_none seen p = (
    (λ m. inl m),
    (λ i. ⊎_elim (λ m. m) (λ (a : AmongHeads has lists 0 p). absurd (let lt : a.id < 0 = a.below in omega arith)) i),
  )

  pub among_and : (k : ℕ) (first old new : List Bool) → ((p : ℕ) → Decides (is_seen old p) ((is_seen first p ≡ true) ⊎ AmongHeads has lists k p))
      → ((p : ℕ) → Decides (is_seen new p) ((is_seen old p ≡ true) ⊎ AtHead has lists k p)) → (p : ℕ)
      → Decides (is_seen new p) ((is_seen first p ≡ true) ⊎ AmongHeads has lists (k + 1) p)
  among_and k first old new before step p = (
    (λ m. ⊎_elim
        (λ (o : is_seen old p ≡ true). ⊎_elim (λ f. inl f) (λ (a : AmongHeads has lists k p). let lt : a.id < k = a.below in inr
        (record { id = a.id; below = omega arith; here = a.here })) ((before p).0 o))
        (λ (h : AtHead has lists k p). inr (record { id = k; below = omega arith; here = h }))
        ((step p).0 m)),
    (λ i. (step p).1 (⊎_elim
        (λ (f : is_seen first p ≡ true). inl ((before p).1 (inl f)))
        (λ (a : AmongHeads has lists (k + 1) p). ⊎_elim
        (λ (lt : a.id < k). inl ((before p).1 (inr (record { id = a.id; below = lt; here = a.here }))))
        (λ (ge : k ≤ a.id). let lt : a.id < k + 1 = a.below in let same : a.id ≡ k = omega arith in inr (subst (λ n. AtHead has lists n p) same a.here))
        (cases_lt a.id k))
        i)),
  )

  pub once_more : (k : ℕ) (first old : List Bool)
      → ((p : ℕ) → Decides (is_seen old p) ((is_seen first p ≡ true) ⊎ AmongHeads has lists k p))
      → ((p : ℕ) → AtHead has lists k p → is_seen old p ≡ false)
      → ((p : ℕ) → IsOnce has lists k p) → (p : ℕ) → IsOnce has lists (k + 1) p
  once_more k first old before fresh once p a b alt blt ha hb =
      let met : (n : ℕ) → n < k → AtHead has lists n p → AtHead has lists k p → ⊥
      = λ n lt hn hk. true≢false (sym ((before p).1 (inr (record { id = n; below = lt; here = hn }))) ∙ fresh p hk) in
      ⊎_elim
      (λ (la : a < k). ⊎_elim
      (λ (lb : b < k). once p a b la lb ha hb)
      (λ (gb : k ≤ b). let same : b ≡ k = omega arith in absurd (met a la ha (subst (λ n. AtHead has lists n p) same hb)))
      (cases_lt b k))
      (λ (ga : k ≤ a). let same : a ≡ k = omega arith in ⊎_elim
      (λ (lb : b < k). absurd (met b lb hb (subst (λ n. AtHead has lists n p) same ha)))
      (λ (gb : k ≤ b). omega arith)
      (cases_lt b k))
      (cases_lt a k)

  -- where nothing was seen at first, just the items are
  pub told_clear : (n : ℕ) (first now : List Bool) → ((p : ℕ) → is_seen first p ≡ false)
      → ((p : ℕ) → Decides (is_seen now p) ((is_seen first p ≡ true) ⊎ AmongHeads has lists n p))
      → (p : ℕ) → Decides (is_seen now p) (AmongHeads has lists n p)
  told_clear n first now clear told p = (
    (λ m. ⊎_elim (λ (f : is_seen first p ≡ true). absurd (true≢false (sym f ∙ clear p))) (λ (a : AmongHeads has lists n p). a) ((told p).0 m)),
    (λ a. (told p).1 (inr a)),
  )
