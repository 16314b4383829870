-- A removal between neighbours that lead to it hides nothing, and loses nothing else.
use Rattle.std.proofs.Common.{◌≡◌, ◌≢◌, ℕ, List, [], ◌∷◌, sym, ap, ◌∙◌, subst, inl, inr, ⊎_elim, refl}
use Rattle.rec_bytes.specs.Format.{nil}
use Rattle.rec_bytes.specs.Space.{State}
use Rattle.store_rules.specs.Chains.{In, IsChain, IsWalk, without}
use Rattle.store_rules.specs.Rules.{Head, first_of}
use Rattle.store_rules.proofs.ChainLaws.{chain_stays, head_once, walk_of_chain, walk_stays}
use Rattle.store_rules.proofs.ChainSteps.{after_in, first_in, nil_out, on_test}
use Rattle.store_rules.proofs.NumberLaws.{eq_true, nat_cases}
use Rattle.chain_edit.specs.Chains.{next_of, prev_of}
use Rattle.chain_edit.specs.Heads.{IsPlace}
use Rattle.chain_edit.specs.Unlinking.{HidesNothing, IsBehind, IsLinkedIn, LosesNoOther, unlinked}
use Rattle.chain_edit.proofs.Removals.{unlinked_first, unlinked_first_stays, unlinked_next, unlinked_next_other, unlinked_prev, unlinked_prev_other}

without_first : (r : ℕ) (xs : List ℕ) → without r (r ∷ xs) ≡ xs
without_first r xs = rw (eq_true r r refl) refl

-- the links before and after the member r is taken out, whose neighbours lead to it
module _ (next prev next' prev' : ℕ → ℕ) (r : ℕ) (there : r ≢ nil)
    (np : prev r ≢ nil → next' (prev r) ≡ next r) (pn : next r ≢ nil → prev' (next r) ≡ prev r)
    (n : (x : ℕ) → x ≢ r → x ≢ prev r → next' x ≡ next x) (p : (x : ℕ) → x ≢ r → x ≢ next r → prev' x ≡ prev x)
    (back : next r ≢ nil → prev (next r) ≡ r) (apart : next r ≢ nil → next r ≢ prev r) where
  -- ---- what is right now was right before

  -- what is behind it
  rest : (b : ℕ) (xs : List ℕ) → (In r xs → ⊥) → (In (prev r) xs → ⊥) → IsChain next' prev' b (next r) xs → IsChain next prev r (next r) xs
  rest b [] ro bo h = h
  rest b (y ∷ ys) ro bo h =
      let some : next r ≢ nil = λ none. h.1 (sym h.0 ∙ none) in
      let once = head_once next' y ys h.1 (walk_of_chain next' prev' y (next' y) ys h.3) in
      let stays : (z : ℕ) → In z (y ∷ ys) → next z ≡ next' z = λ z i. sym (n z (λ e. ro (subst (λ q. In q (y ∷ ys)) e i))
      (λ e. bo (subst (λ q. In q (y ∷ ys)) e i))) in
      let tail = chain_stays next' prev' next prev y (next' y) ys (λ z i. stays z (inr i))
      (λ z i. sym (p z (λ e. ro (inr (subst (λ q. In q ys) e i))) (λ e. once (subst (λ q. In q ys) (e ∙ h.0) i)))) h.3 in
      (h.0, h.1, ap prev (sym h.0) ∙ back some, subst (λ from. IsChain next prev y from ys) (sym (stays y (inl refl))) tail)

  -- where it was the first
  pub was_first : (xs : List ℕ) → prev r ≡ nil → (In r xs → ⊥) → IsChain next' prev' nil (next r) xs → IsChain next prev nil r (r ∷ xs)
  was_first xs none ro h = (
    refl,
    there,
    none,
    rest nil xs ro (λ i. nil_out next' (next r) xs (walk_of_chain next' prev' nil (next r) xs h)
        (subst (λ q. In q xs) none i)) h,
  )

  -- where one is before it, which leads to it
  module _ (some : prev r ≢ nil) (leads : next (prev r) ≡ r) where
    pub was_later : (b f : ℕ) (xs : List ℕ) → b ≢ prev r → (In r xs → ⊥) → IsChain next' prev' b f xs → (ys : List ℕ) × (IsChain next prev b f ys ×
        (xs ≡ without r ys))
    was_later b f [] apart_b ro h = ([], (h, refl))
    was_later b f (x ∷ xs) apart_b ro h = ⊎_elim
        (λ (e : x ≡ prev r).
        let once = head_once next' x xs h.1 (walk_of_chain next' prev' x (next' x) xs h.3) in
        let follows : next' x ≡ next r = ap next' e ∙ np some in
        let behind : IsChain next prev r (next r) xs = rest x xs (λ i. ro (inr i)) (λ i. once (subst (λ q. In q xs) (sym e) i))
        (subst (λ from. IsChain next' prev' x from xs) follows h.3) in
        let to_r : next x ≡ r = ap next e ∙ leads in
        let here : prev x ≡ b = sym (p x xr (λ q. ⊎_elim (λ (none : next r ≡ nil). h.1 (q ∙ none)) (λ (is : next r ≢ nil). apart is (sym q ∙ e))
        (nat_cases (next r) nil))) ∙ h.2 in
        (x ∷ r ∷ xs, ((h.0, h.1, here, (to_r, there, sym e, behind)), sym (skip x (r ∷ xs) xr ∙ ap (λ zs. x ∷ zs) (without_first r xs)))))
        (λ (ne : x ≢ prev r).
        let far : x ≢ next r = λ q. ⊎_elim (λ (none : next r ≡ nil). h.1 (q ∙ none)) (λ (is : next r ≢ nil). apart_b (sym h.2 ∙ ap prev' q ∙ pn is))
        (nat_cases (next r) nil) in
        let more = was_later x (next' x) xs ne (λ i. ro (inr i)) h.3 in (
          x ∷ more.0,
          (
            (h.0, h.1, sym (p x xr far) ∙ h.2, subst (λ from. IsChain next prev x from more.0) (n x xr ne) more.1.0),
            ap (λ zs. x ∷ zs) more.1.1 ∙ sym
                (skip x more.0 xr),
          ),
        ))
        (nat_cases x (prev r))
      where
        xr : x ≢ r
        xr e = ro (inl (sym e))

        skip : (x : ℕ) (ys : List ℕ) → x ≢ r → without r (x ∷ ys) ≡ x ∷ without r ys
        skip x ys ne = on_test (λ zs. zs ≡ x ∷ without r ys) r x ys (x ∷ without r ys) (λ e. absurd (ne (sym e))) (λ _. refl)

    -- ---- what was led to still is
    pub led_later : (f : ℕ) (xs : List ℕ) → IsWalk next f xs → In (prev r) xs → IsWalk next' f (without r xs)
    led_later f [] h i = elim i [ ]
    led_later f (x ∷ xs) h i = ⊎_elim
        (λ (e : x ≡ prev r). cut xs e (subst (λ from. IsWalk next from xs) (ap next e ∙ leads) h.2) (head_once next x xs h.1 h.2))
        (λ (ne : x ≢ prev r).
        let member : In (prev r) xs = ⊎_elim (λ q. absurd (ne (sym q))) (λ k. k) i in
        let r_in : In r xs = ⊎_elim (λ none. absurd (there (sym leads ∙ none))) (λ k. subst (λ q. In q xs) leads k) (after_in next (next x) xs (prev r)
        h.2 member) in
        let xr : x ≢ r = λ e. head_once next x xs h.1 h.2 (subst (λ q. In q xs) (sym e) r_in) in
        on_test (λ zs. IsWalk next' f zs) r x xs (x ∷ without r xs) (λ e. absurd (xr (sym e)))
        (λ _. (h.0, h.1, subst (λ from. IsWalk next' from (without r xs)) (sym (n x xr ne)) (led_later (next x) xs h.2 member))))
        (nat_cases x (prev r))
      where
        cut : (zs : List ℕ) → x ≡ prev r → IsWalk next r zs → (In x zs → ⊥) → IsWalk next' f (without r (x ∷ zs))
        cut [] e w once = absurd (there w)
        cut (z ∷ zs) e w once =
            let xr : x ≢ r = λ q. once (inl (q ∙ w.0)) in
            let tail : IsWalk next (next r) zs = subst (λ q. IsWalk next (next q) zs) (sym w.0) w.2 in
            let r_out = head_once next r zs there tail in
            let kept : IsWalk next' (next r) zs = walk_stays next next' (next r) zs
            (λ y k. n y (λ q. r_out (subst (λ v. In v zs) q k)) (λ q. once (inr (subst (λ v. In v zs) (q ∙ sym e) k)))) tail in
            on_test (λ ws. IsWalk next' f ws) r x (z ∷ zs) (x ∷ without r (z ∷ zs)) (λ q. absurd (xr (sym q)))
            (λ _. (
              h.0,
              h.1,
              subst (λ ws. IsWalk next' (next' x) ws) (sym (ap (λ q. without r (q ∷ zs)) (sym w.0) ∙ without_first r zs))
                  (subst (λ from. IsWalk next' from zs) (sym (ap next' e ∙ np some)) kept),
            ))

    pub out_later : (f : ℕ) (xs : List ℕ) → IsWalk next f xs → (In r xs → ⊥) → IsWalk next' f xs
    out_later f xs h ro = walk_stays next next' f xs (λ y i. n y (λ e. ro (subst (λ v. In v xs) e i))
        (λ e. ⊎_elim (λ none. there (sym leads ∙ none)) (λ k. ro (subst (λ v. In v xs) leads k)) (after_in next f xs (prev r) h (subst (λ v. In v xs) e i)))) h

  pub led_first : (xs : List ℕ) → prev r ≡ nil → IsWalk next r xs → IsWalk next' (next r) (without r xs)
  led_first [] none h = absurd (there h)
  led_first (x ∷ xs) none h =
      let tail : IsWalk next (next r) xs = subst (λ q. IsWalk next (next q) xs) (sym h.0) h.2 in
      let r_out = head_once next r xs there tail in
      subst (λ ws. IsWalk next' (next r) ws) (sym (ap (λ q. without r (q ∷ xs)) (sym h.0) ∙ without_first r xs))
      (walk_stays next next' (next r) xs (λ y k. n y (λ q. r_out (subst (λ v. In v xs) q k)) (λ q. nil_out next (next r) xs tail
      (subst (λ v. In v xs) (q ∙ none) k))) tail)

-- ---- of a space
module _ (s : State) (head : Head) (node rel : ℕ) (place : IsPlace head) (some_rel : rel ≢ nil) (linked : IsLinkedIn s.records head node rel) where
  next : ℕ → ℕ
  next = next_of s.records node

  prev : ℕ → ℕ
  prev = prev_of s.records node

  next' : ℕ → ℕ
  next' = next_of (unlinked s head node rel).records node

  prev' : ℕ → ℕ
  prev' = prev_of (unlinked s head node rel).records node

  np : prev rel ≢ nil → next' (prev rel) ≡ next rel
  unfolding prev next next'
  np = unlinked_next s head node rel place

  pn : next rel ≢ nil → prev' (next rel) ≡ prev rel
  unfolding prev next prev'
  pn = unlinked_prev s head node rel place

  n : (x : ℕ) → x ≢ rel → x ≢ prev rel → next' x ≡ next x
  unfolding prev next next'
  n x nr nb = unlinked_next_other s head node rel place x nr nb

  p : (x : ℕ) → x ≢ rel → x ≢ next rel → prev' x ≡ prev x
  unfolding prev next prev'
  p x nr na = unlinked_prev_other s head node rel place x nr na

  behind : next rel ≢ nil → IsBehind s.records node rel (prev rel) (next rel)
  unfolding prev next
  behind = linked.behind

  back : next rel ≢ nil → prev (next rel) ≡ rel
  unfolding prev next
  back some = (behind some).back

  apart : next rel ≢ nil → next rel ≢ prev rel
  apart some = (behind some).apart

  led_none : prev rel ≡ nil → first_of s.records head ≡ rel
  unfolding prev
  led_none none = on_test (λ v. v ≡ rel → first_of s.records head ≡ rel) (prev_of s.records node rel) nil (first_of s.records head) (next_of s.records node
      (prev_of s.records node rel)) (λ _ e. e) (λ some. absurd (some none)) linked.led

  led_some : prev rel ≢ nil → next (prev rel) ≡ rel
  unfolding prev next
  led_some some = on_test (λ v. v ≡ rel → next_of s.records node (prev_of s.records node rel) ≡ rel) (prev_of s.records node rel) nil (first_of s.records head)
      (next_of s.records node (prev_of s.records node rel)) (λ none. absurd (some none)) (λ _ e. e) linked.led

  leads_on : prev rel ≡ nil → first_of (unlinked s head node rel).records head ≡ next rel
  unfolding prev next
  leads_on none = unlinked_first s head node rel place none

  stays : prev rel ≢ nil → first_of (unlinked s head node rel).records head ≡ first_of s.records head
  unfolding prev
  stays some = unlinked_first_stays s head node rel place some

  pub hides_nothing : HidesNothing s.records (unlinked s head node rel).records head node rel
  unfolding prev next prev' next'
  hides_nothing xs chain ro = ⊎_elim
      (λ (none : prev rel ≡ nil).
      let was = was_first next prev next' prev' rel some_rel np pn n p back apart xs none ro (subst (λ f. IsChain next' prev' nil f xs) (leads_on none)
      chain) in
      (rel ∷ xs, (subst (λ f. IsChain next prev nil f (rel ∷ xs)) (sym (led_none none)) was, sym (without_first rel xs))))
      (λ (some : prev rel ≢ nil). was_later next prev next' prev' rel some_rel np pn n p back apart some (led_some some) nil (first_of s.records head) xs
      (λ e. some (sym e)) ro
      (subst (λ f. IsChain next' prev' nil f xs) (stays some) chain))
      (nat_cases (prev rel) nil)

  pub loses_no_other : LosesNoOther s.records (unlinked s head node rel).records head node rel
  unfolding prev next next'
  loses_no_other = record {
    rest = λ xs walk i. ⊎_elim
        (λ (none : prev rel ≡ nil). subst (λ f. IsWalk next' f (without rel xs)) (sym (leads_on none))
        (led_first next prev next' prev' rel some_rel np pn n p back apart xs none (subst (λ f. IsWalk next f xs) (led_none none) walk)))
        (λ (some : prev rel ≢ nil). subst (λ f. IsWalk next' f (without rel xs)) (sym (stays some))
        (led_later next prev next' prev' rel some_rel np pn n p back apart some (led_some some) (first_of s.records head) xs walk
        (⊎_elim (λ none. absurd (some none)) (λ k. k) i)))
        (nat_cases (prev rel) nil);
    beside = λ xs walk ro. ⊎_elim
        (λ (none : prev rel ≡ nil). ⊎_elim (λ e. absurd (some_rel (sym (led_none none) ∙ e))) (λ k. absurd (ro (subst (λ q. In q xs) (led_none none) k)))
        (first_in next (first_of s.records head) xs walk))
        (λ (some : prev rel ≢ nil). subst (λ f. IsWalk next' f xs) (sym (stays some))
        (out_later next prev next' prev' rel some_rel np pn n p back apart some (led_some some) (first_of s.records head) xs walk ro))
        (nat_cases (prev rel) nil);
  }
