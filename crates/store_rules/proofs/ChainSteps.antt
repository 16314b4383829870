-- What a change of links does to a list that follows them.
use Rattle.std.proofs.Common.{cond, true, false, ◌≡◌, ◌≢◌, ◌⊎◌, ℕ, nat_eq, List, [], ◌∷◌, sym, ap, ◌∙◌, subst, inl, inr, ⊎_elim, refl}
use Rattle.rec_bytes.specs.Format.{nil}
use Rattle.store_rules.specs.Chains.{IsWalk, IsChain, In, without}
use Rattle.store_rules.proofs.ChainLaws.{chain_stays, head_once, walk_of_chain}
use Rattle.store_rules.proofs.NumberLaws.{nat_cases, eq_true, eq_false}

-- two numbers are equal or not, and a test says so
pub eq_cases : (x y : ℕ) → ((x ≡ y) × (nat_eq x y ≡ true)) ⊎ ((x ≢ y) × (nat_eq x y ≡ false))
eq_cases x y = ⊎_elim (λ e. inl (e, eq_true x y e)) (λ ne. inr (ne, eq_false x y ne)) (nat_cases x y)

-- a fact about what a test chooses
pub on_test : {X : Type 0} (P : X → Type 0) (a b : ℕ) (x y : X) → (a ≡ b → P x) → (a ≢ b → P y) → P (cond (nat_eq a b) x y)
on_test P a b x y where_same where_not = ⊎_elim (λ (k : (a ≡ b) × (nat_eq a b ≡ true)). rw k.1 (where_same k.0))
    (λ (k : (a ≢ b) × (nat_eq a b ≡ false)). rw k.1 (where_not k.0)) (eq_cases a b)

-- a new member in front
pub chain_push : (next prev next' prev' : ℕ → ℕ) (f r : ℕ) (xs : List ℕ) → IsChain next prev nil f xs → (In r xs → ⊥) → r ≢ nil
    → next' r ≡ f → prev' r ≡ nil → (f ≢ nil → prev' f ≡ r)
    → ((x : ℕ) → x ≢ r → next' x ≡ next x) → ((x : ℕ) → x ≢ r → x ≢ f → prev' x ≡ prev x)
    → IsChain next' prev' nil r (r ∷ xs)
chain_push next prev next' prev' f r [] h new there nr pr pf n p = (refl, there, pr, nr ∙ h)
chain_push next prev next' prev' f r (x ∷ xs) h new there nr pr pf n p =
    let once = head_once next x xs h.1 (walk_of_chain next prev x (next x) xs h.3) in
    let apart : x ≢ r = λ e. new (inl (sym e)) in
    let rest : IsChain next' prev' x (next x) xs = chain_stays next prev next' prev' x (next x) xs
    (λ y i. n y (λ e. new (inr (subst (λ z. In z xs) e i))))
    (λ y i. p y (λ e. new (inr (subst (λ z. In z xs) e i))) (λ e. once (subst (λ z. In z xs) (e ∙ h.0) i))) h.3 in
    (refl, there, pr, (nr ∙ h.0, h.1, ap prev' (sym h.0) ∙ pf (λ e. h.1 (sym h.0 ∙ e)), subst (λ from. IsChain next' prev' x from xs) (sym (n x apart)) rest))

-- the first of a walk, and what comes after a member, is a member, unless it is none
pub first_in : (next : ℕ → ℕ) (f : ℕ) (xs : List ℕ) → IsWalk next f xs → (f ≡ nil) ⊎ In f xs
first_in next f [] h = inl h
first_in next f (x ∷ xs) h = inr (inl h.0)

-- what comes after a member is another
pub after_other : (next : ℕ → ℕ) (f : ℕ) (xs : List ℕ) (x : ℕ) → IsWalk next f xs → In x xs → next x ≢ x
after_other next f [] x h i q = elim i [ ]
after_other next f (y ∷ ys) x h (inl e) q =
    let at : next y ≡ y = ap next (sym e) ∙ q ∙ e in
    ⊎_elim (λ none. h.1 (sym at ∙ none)) (λ k. head_once next y ys h.1 h.2 (subst (λ z. In z ys) at k)) (first_in next (next y) ys h.2)
after_other next f (y ∷ ys) x h (inr i) q = after_other next (next y) ys x h.2 i q

pub after_in : (next : ℕ → ℕ) (f : ℕ) (xs : List ℕ) (r : ℕ) → IsWalk next f xs → In r xs → (next r ≡ nil) ⊎ In (next r) xs
after_in next f [] r h i = elim i [ ]
after_in next f (x ∷ xs) r h (inl e) = ⊎_elim (λ n. inl (ap next e ∙ n)) (λ k. inr (inr (subst (λ z. In z xs) (ap next (sym e)) k)))
    (first_in next (next x) xs h.2)
after_in next f (x ∷ xs) r h (inr i) = ⊎_elim (λ n. inl n) (λ k. inr (inr k)) (after_in next (next x) xs r h.2 i)

-- what comes after the next one is another
pub twice_other : (next : ℕ → ℕ) (f : ℕ) (xs : List ℕ) (x : ℕ) → IsWalk next f xs → In x xs → next x ≢ nil → next (next x) ≢ x
twice_other next f [] x h i some q = elim i [ ]
twice_other next f (y ∷ ys) x h (inl e) some q =
    let again : next (next y) ≡ y = ap (λ z. next (next z)) (sym e) ∙ q ∙ e in
    ⊎_elim (λ (none : next y ≡ nil). some (ap next e ∙ none))
    (λ (there : In (next y) ys). ⊎_elim (λ (none : next (next y) ≡ nil). h.1 (sym again ∙ none))
    (λ k. head_once next y ys h.1 h.2 (subst (λ z. In z ys) again k)) (after_in next (next y) ys (next y) h.2 there))
    (first_in next (next y) ys h.2)
twice_other next f (y ∷ ys) x h (inr i) some q = twice_other next (next y) ys x h.2 i some q

-- before the first stands what the chain says
pub first_before : (next prev : ℕ → ℕ) (b f : ℕ) (xs : List ℕ) (r : ℕ) → IsChain next prev b f xs → In r xs → f ≡ r → prev r ≡ b
first_before next prev b f [] r h i e = elim i [ ]
first_before next prev b f (x ∷ xs) r h i e = ap prev (sym e ∙ h.0) ∙ h.2

-- what comes before a member is a member, or that one is the first
pub before_in : (next prev : ℕ → ℕ) (b f : ℕ) (xs : List ℕ) (r : ℕ) → IsChain next prev b f xs → In r xs → (f ≡ r) ⊎ In (prev r) xs
before_in next prev b f [] r h i = elim i [ ]
before_in next prev b f (x ∷ xs) r h (inl e) = inl (h.0 ∙ sym e)
before_in next prev b f (x ∷ xs) r h (inr i) = ⊎_elim
    (λ (e : next x ≡ r). inr (inl (first_before next prev x (next x) xs r h.3 i e)))
    (λ (k : In (prev r) xs). inr (inr k))
    (before_in next prev x (next x) xs r h.3 i)

-- what comes before a member leads to it, or that one is the first
pub next_before : (next prev : ℕ → ℕ) (b f : ℕ) (xs : List ℕ) (r : ℕ) → IsChain next prev b f xs → In r xs → ((f ≡ r) × (prev r ≡ b)) ⊎ (next (prev r) ≡ r)
next_before next prev b f [] r h i = elim i [ ]
next_before next prev b f (x ∷ xs) r h (inl e) = inl (h.0 ∙ sym e, ap prev e ∙ h.2)
next_before next prev b f (x ∷ xs) r h (inr i) = inr (⊎_elim
    (λ (k : (next x ≡ r) × (prev r ≡ x)). ap next k.1 ∙ k.0)
    (λ (k : next (prev r) ≡ r). k)
    (next_before next prev x (next x) xs r h.3 i))

-- and what comes before it is another
pub before_other : (next prev : ℕ → ℕ) (b f : ℕ) (xs : List ℕ) (x : ℕ) → (In b xs → ⊥) → IsChain next prev b f xs → In x xs → prev x ≢ x
before_other next prev b f [] x out h i q = elim i [ ]
before_other next prev b f (y ∷ ys) x out h (inl e) q = out (inl (sym h.2 ∙ ap prev (sym e) ∙ q ∙ e))
before_other next prev b f (y ∷ ys) x out h (inr i) q = before_other next prev y (next y) ys x
    (head_once next y ys h.1 (walk_of_chain next prev y (next y) ys h.3)) h.3 i q

-- none is no member
pub nil_out : (next : ℕ → ℕ) (f : ℕ) (xs : List ℕ) → IsWalk next f xs → In nil xs → ⊥
nil_out next f [] h i = elim i [ ]
nil_out next f (x ∷ xs) h (inl e) = h.1 (sym e)
nil_out next f (x ∷ xs) h (inr i) = nil_out next (next x) xs h.2 i

-- the member r is taken out: what was before it and what was behind it become each other's neighbours
module _ (next prev next' prev' : ℕ → ℕ) (r : ℕ)
    (np : prev r ≢ nil → next' (prev r) ≡ next r) (pn : next r ≢ nil → prev' (next r) ≡ prev r)
    (n : (x : ℕ) → x ≢ r → x ≢ prev r → next' x ≡ next x) (p : (x : ℕ) → x ≢ r → x ≢ next r → prev' x ≡ prev x) where
  -- where it is the first
  unlink_first : (b : ℕ) (xs : List ℕ) → prev r ≡ b → r ≢ nil → (In b xs → ⊥) → IsChain next prev r (next r) xs → IsChain next' prev' b (next r) xs
  unlink_first b [] pr there once h = h
  unlink_first b (y ∷ ys) pr there once h =
      let walked = walk_of_chain next prev r (next r) (y ∷ ys) h in
      let r_out = head_once next r (y ∷ ys) there walked in
      let y_out = head_once next y ys h.1 (walk_of_chain next prev y (next y) ys h.3) in
      let stays : (z : ℕ) → In z (y ∷ ys) → next' z ≡ next z = λ z i. n z (λ e. r_out (subst (λ q. In q (y ∷ ys)) e i))
      (λ e. once (subst (λ q. In q (y ∷ ys)) (e ∙ pr) i)) in
      let rest = chain_stays next prev next' prev' y (next y) ys (λ z i. stays z (inr i))
      (λ z i. p z (λ e. r_out (inr (subst (λ q. In q ys) e i))) (λ e. y_out (subst (λ q. In q ys) (e ∙ h.0) i))) h.3 in
      (h.0, h.1, ap prev' (sym h.0) ∙ pn (λ e. h.1 (sym h.0 ∙ e)) ∙ pr, subst (λ from. IsChain next' prev' y from ys) (sym (stays y (inl refl))) rest)

  pub chain_unlink : (b f : ℕ) (xs : List ℕ) → (In b xs → ⊥) → IsChain next prev b f xs → In r xs
      → IsChain next' prev' b (cond (nat_eq f r) (next r) f) (without r xs)
  chain_unlink b f [] once h i = elim i [ ]
  chain_unlink b f (x ∷ xs) once h i = ⊎_elim
      (λ (e : (r ≡ x) × (nat_eq r x ≡ true)).
      let from : nat_eq f r ≡ true = ap (λ q. nat_eq q r) (h.0 ∙ sym e.0) ∙ ap (nat_eq r) e.0 ∙ e.1 in
      rw (e.1, from) (unlink_first b xs (ap prev e.0 ∙ h.2) (λ q. h.1 (sym e.0 ∙ q)) (λ k. once (inr k)) (subst (λ q. IsChain next prev q (next q) xs) (sym e.0)
      h.3)))
      (λ (e : (r ≢ x) × (nat_eq r x ≡ false)).
      let member : In r xs = ⊎_elim (λ q. absurd (e.0 q)) (λ k. k) i in
      let walked = walk_of_chain next prev x (next x) xs h.3 in
      let x_out = head_once next x xs h.1 walked in
      let from : nat_eq f r ≡ false = eq_false f r (λ q. e.0 (sym q ∙ h.0)) in
      let apart : x ≢ r = λ q. e.0 (sym q) in
      let before : prev' x ≡ prev x = p x apart (λ q. ⊎_elim (λ none. h.1 (q ∙ none)) (λ k. x_out (subst (λ z. In z xs) (sym q) k)) (after_in next (next x)
      xs r walked member)) in
      let rest = chain_unlink x (next x) xs x_out h.3 member in
      let after : next' x ≡ cond (nat_eq (next x) r) (next r) (next x) = ⊎_elim
      (λ (k : (next x ≡ r) × (nat_eq (next x) r ≡ true)).
      let pr = first_before next prev x (next x) xs r h.3 member k.0 in
      rw k.1 (ap next' (sym pr) ∙ np (λ none. h.1 (sym pr ∙ none))))
      (λ (k : (next x ≢ r) × (nat_eq (next x) r ≡ false)).
      rw k.1 (n x apart (λ q. ⊎_elim k.0 (λ m. x_out (subst (λ z. In z xs) (sym q) m)) (before_in next prev x (next x) xs r h.3 member))))
      (eq_cases (next x) r) in
      rw (e.1, from) (h.0, h.1, before ∙ h.2, subst (λ q. IsChain next' prev' x q (without r xs)) (sym after) rest))
      (eq_cases r x)

-- what is left after a member was taken out
pub in_without : (r : ℕ) (xs : List ℕ) (x : ℕ) → In x (without r xs) → In x xs
in_without r [] x i = i
in_without r (y ∷ ys) x i = ⊎_elim
    (λ (k : (r ≡ y) × (nat_eq r y ≡ true)). inr (rw k.1 at i))
    (λ (k : (r ≢ y) × (nat_eq r y ≡ false)). let j : In x (y ∷ without r ys) = rw k.1 at i in ⊎_elim (λ e. inl e) (λ m. inr (in_without r ys x m)) j)
    (eq_cases r y)

pub stays_without : (r : ℕ) (xs : List ℕ) (x : ℕ) → x ≢ r → In x xs → In x (without r xs)
stays_without r [] x ne i = i
stays_without r (y ∷ ys) x ne i = ⊎_elim
    (λ (k : (r ≡ y) × (nat_eq r y ≡ true)). rw k.1 (⊎_elim (λ e. absurd (ne (e ∙ sym k.0))) (λ m. m) i))
    (λ (k : (r ≢ y) × (nat_eq r y ≡ false)). rw k.1 (⊎_elim (λ e. inl e) (λ m. inr (stays_without r ys x ne m)) i))
    (eq_cases r y)

pub gone : (next : ℕ → ℕ) (r f : ℕ) (xs : List ℕ) → IsWalk next f xs → In r (without r xs) → ⊥
gone next r f [] h i = i
gone next r f (y ∷ ys) h i = ⊎_elim
    (λ (k : (r ≡ y) × (nat_eq r y ≡ true)). head_once next y ys h.1 h.2 (subst (λ z. In z ys) k.0 (rw k.1 at i)))
    (λ (k : (r ≢ y) × (nat_eq r y ≡ false)). let j : In r (y ∷ without r ys) = rw k.1 at i in ⊎_elim (λ e. k.0 e) (λ m. gone next r (next y) ys h.2 m) j)
    (eq_cases r y)
