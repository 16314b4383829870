-- What the passes over the elements say together.
use Rattle.std.proofs.Common.{◌≡◌, ◌≢◌, ◌⊎◌, ℕ, ◌<◌, Bool, true, false, List, nat_eq, sym, ◌∙◌, subst, inl, inr, ⊎_elim, arith, refl}
use Rattle.std.proofs.lemmas.Bool.{eqb-true, or_cases, true≢false}
use Rattle.rec_bytes.specs.declared.damage.Damage.{Damage}
use Rattle.rec_bytes.specs.declared.shape.Shape.{Shape}
use Rattle.rec_bytes.specs.Format as format
use Rattle.store_rules.specs.Views.{Records, high, is_live}
use Rattle.store_rules.specs.Breaking.{ElementKeeps, HasProperty, IsHeldOnce, damage, is_element_file}
use Rattle.store_rules.specs.Breaking.Breaks.{WrongElement, WrongHolding}
use Rattle.store_check.specs.Holding.{AllListed, AreElementsRight, IsHeld}
use Rattle.store_check.specs.Listing.{AreListed, IsHadTwice, IsOfFile, IsUnlisted}
use Rattle.record_lists.specs.Seen.{is_seen}
use Rattle.record_lists.specs.Deciding.{BreaksRule}
use Rattle.store_rules.proofs.ElementOwners.{owns_is}
use Rattle.record_lists.proofs.LiveLaws.{live_below}
use Rattle.record_lists.proofs.DecidingLaws.{breaks_by}

-- a file of elements is one of two
pub element_cases : (file : ℕ) → is_element_file file ≡ true → (file ≡ 1) ⊎ (file ≡ 2)
element_cases file h = ⊎_elim (λ t. inl (eqb-true file 1 t)) (λ t. inr (eqb-true file 2 t)) (or_cases (nat_eq file 1) (nat_eq file 2) h)

module _ (records : Records) where
  file_of : (file x p : ℕ) → HasProperty records file x p → (file ≡ 1) ⊎ (file ≡ 2)
  file_of file x p h = let o = owns_is records x file h.first h.owns in element_cases file o.known

  -- what a pass over one file finds breaks the rule, where those of other files are seen
  pub unlisted_breaks : (shape : Shape) (file : ℕ) (old : List Bool) (d : Damage) → is_element_file file ≡ true
      → ((p : ℕ) → is_seen old p ≡ true → (other : ℕ) × (x : ℕ) × ((other ≢ file) × HasProperty records other x p))
      → IsUnlisted records file old d → BreaksRule records shape 5 d
  unlisted_breaks shape file old d known others u = ⊎_elim
      (λ (e : (x : ℕ) × (d ≡ damage file x 5) × (x < high records file) × (¬ ElementKeeps records file x)).
      breaks_by records shape 5 d (damage file e.0 5) e.1 refl (WrongElement file e.0 known e.2 e.3))
      (λ (e : (p : ℕ) × (d ≡ damage format.properties_file p 5) × IsHadTwice records file old p).
      breaks_by records shape 5 d (damage format.properties_file e.0 5) e.1 refl (WrongHolding e.0 (λ k. twice e.0 e.2 k)))
      u
    where
      twice : (p : ℕ) → IsHadTwice records file old p → IsHeldOnce records p → ⊥
      twice p t k = ⊎_elim
          (λ (m : is_seen old p ≡ true). let o = others p m in o.2.0 (k.once o.0 o.1 file t.element o.2.1 t.has).0)
          (λ (o : (other : ℕ) × (other < t.element) × HasProperty records file other p). let below : o.0 < t.element = o.1 in let same =
          (k.once file o.0 file t.element o.2 t.has).1 in absurd (omega arith))
          t.before

  module _ (clear m : List Bool) (none : (p : ℕ) → is_seen clear p ≡ false) (a : AreListed records 1 clear m) where
    pub seen_first : (p : ℕ) → is_seen m p ≡ true → IsOfFile records 1 p
    seen_first p t = ⊎_elim (λ (c : is_seen clear p ≡ true). absurd (true≢false (sym c ∙ none p))) (λ (f : IsOfFile records 1 p). f) ((a.seen p).0 t)

  module _ (clear m n : List Bool) (none : (p : ℕ) → is_seen clear p ≡ false) (a : AreListed records 1 clear m) (b : AreListed records 2 m n) where
    apart : (x y p : ℕ) → HasProperty records 1 x p → HasProperty records 2 y p → ⊥
    apart x y p h k = true≢false (sym ((a.seen p).1 (inr (record { element = x; has = h }))) ∙ b.fresh y p k)

    once : (file x other y p : ℕ) → (file ≡ 1) ⊎ (file ≡ 2) → (other ≡ 1) ⊎ (other ≡ 2) → HasProperty records file x p → HasProperty records other y p
        → (file ≡ other) × (x ≡ y)
    once file x other y p (inl e) (inl f) h k = (
      e ∙ sym f,
      a.once x y p (subst (λ z. HasProperty records z x p) e h) (subst (λ z. HasProperty records z y p)
          f k),
    )
    once file x other y p (inr e) (inr f) h k = (
      e ∙ sym f,
      b.once x y p (subst (λ z. HasProperty records z x p) e h) (subst (λ z. HasProperty records z y p)
          f k),
    )
    once file x other y p (inl e) (inr f) h k = absurd (apart x y p (subst (λ z. HasProperty records z x p) e h) (subst (λ z. HasProperty records z y p) f k))
    once file x other y p (inr e) (inl f) h k = absurd (apart y x p (subst (λ z. HasProperty records z y p) f k) (subst (λ z. HasProperty records z x p) e h))

    pub all_listed : AllListed records n
    all_listed = record {
      keeps = λ file x known lt. ⊎_elim
          (λ (e : file ≡ 1). subst (λ f. ElementKeeps records f x) (sym e) (a.keeps x (subst (λ f. x < high records f) e lt)))
          (λ (e : file ≡ 2). subst (λ f. ElementKeeps records f x) (sym e) (b.keeps x (subst (λ f. x < high records f) e lt)))
          (element_cases file known);
      told = λ p. (
        (λ t. ⊎_elim
            (λ (o : is_seen m p ≡ true). let f = seen_first clear m none a p o in record { file = 1; element = f.element; has = f.has })
            (λ (f : IsOfFile records 2 p). record { file = 2; element = f.element; has = f.has })
            ((b.seen p).0 t)),
        (λ (h : IsHeld records p). (b.seen p).1 (⊎_elim
            (λ (e : h.file ≡ 1). inl ((a.seen p).1 (inr (record { element = h.element; has = subst (λ z. HasProperty records z h.element p) e h.has }))))
            (λ (e : h.file ≡ 2). inr (record { element = h.element; has = subst (λ z. HasProperty records z h.element p) e h.has }))
            (file_of h.file h.element p h.has))),
      );
      once = λ file x other y p h k. once file x other y p (file_of file x p h) (file_of other y p k) h k;
    }

  -- then each property that is seen is held once
  pub held_once : (n : List Bool) (p : ℕ) → AllListed records n → (is_live records format.properties_file p ≡ true → is_seen n p ≡ true) → IsHeldOnce records p
  held_once n p l mark = record {
    held = λ live. let h = (l.told p).0 (mark live) in (h.file, h.element, h.has);
    once = λ file x other y h k. l.once file x other y p h k;
  }

  pub elements_right : (n : List Bool) → AllListed records n → ((p : ℕ) → p < high records format.properties_file → is_live records format.properties_file p ≡
      true → is_seen n p ≡ true) → AreElementsRight records
  elements_right n l mark = record { keeps = l.keeps; held = λ p. held_once n p l (λ live. mark p (live_below records format.properties_file p live) live) }

  pub not_held : (n : List Bool) (p : ℕ) → AllListed records n → ¬ (is_live records format.properties_file p ≡ true → is_seen n p ≡ true)
      → ¬ IsHeldOnce records p
  not_held n p l bad k = bad (λ live. let h = k.held live in (l.told p).1 (record { file = h.0; element = h.1; has = h.2 }))
