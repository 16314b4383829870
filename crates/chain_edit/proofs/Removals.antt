-- What a removal leaves of each chain.
use Rattle.std.proofs.Common.{◌≡◌, ◌≢◌, ◌⊎◌, ◌+◌, ◌≤◌, ℕ, ◌<◌, ◌^◌, nat_eq, cond, List, [], ◌∷◌, sym, ap, ◌∙◌, subst, inl, inr, ⊎_elim, arith, refl}
use Rattle.rec_bytes.specs.declared.key.Key.{Key}
use Rattle.rec_bytes.specs.declared.record.Rec.{Rec}
use Rattle.rec_bytes.specs.Format.{nil}
use Rattle.rec_bytes.specs.Record.{field, with_field}
use Rattle.rec_bytes.specs.Space.{State, after_get, after_put, put}
use Rattle.rec_bytes.proofs.Numbers.{field-lt}
use Rattle.rec_bytes.proofs.Spaces.{put_same, put_twice}
use Rattle.store_rules.specs.Chains.{In, IsWalk, next_in, place_of, prev_in, without}
use Rattle.store_rules.specs.Rules.{Head, first_of}
use Rattle.store_rules.specs.Views.{Records, key_in}
use Rattle.store_rules.proofs.ChainLaws.{chain_stays, walk_of_chain}
use Rattle.store_rules.proofs.NumberLaws.{eq_false, eq_true}
use Rattle.chain_edit.specs.Chains.{ChangeOnly, Differ, IsChainAt, IsChainFrom, ShareNoLink, next_of, next_place, prev_of, prev_place}
use Rattle.chain_edit.specs.Heads.{IsPlace}
use Rattle.chain_edit.specs.Links.{backed, next_set, number_set}
use Rattle.chain_edit.specs.Unlinking.{CanUnlink, HasUnlinked, alone, lead_place, led, unlinked}
use Rattle.store_rules.proofs.ChainSteps.{after_in, after_other, before_in, before_other, chain_unlink, first_before, nil_out, on_test}
use Rattle.chain_edit.proofs.Edits.{elsewhere-backed, field-backed, next_of-backed, place-backed, prev_of-backed_same, prev_of-backed_other}
use Rattle.chain_edit.proofs.LinkLaws.{elsewhere-set_next, elsewhere-set_prev, field-set_other, field-set_same, next_of-set_next_same}
use Rattle.chain_edit.proofs.LinkLaws.{next_of-set_next_other, next_of-set_prev, place-set_next, place-set_prev, prev_of-set_next}
use Rattle.chain_edit.proofs.LinkLaws.{prev_of-set_prev_same, prev_of-set_prev_other, rel-set_elsewhere, rel_rec, set_at}

-- a relationship without neighbours
module _ (records : Records) (node rel : ℕ) where
  single : Records
  single = set_at records (prev_place records node rel) nil

  freed : Records
  freed = put records (key_in 2 rel) (alone (records (key_in 2 rel)) node)

  -- its two links are set one after the other
  freed_is : freed ≡ set_at single (next_place single node rel) nil
  unfolding freed single
  freed_is =
      let r = rel_rec records rel in
      let one = with_field 4 r (place_of r node) nil in
      let there : single (key_in 2 rel) ≡ one = put_same records (key_in 2 rel) one in
      let places = place-set_prev records node rel nil node rel in
      sym (ap (λ q. put single (key_in 2 rel) (with_field 4 (single (key_in 2 rel)) (q + 4) nil)) places
      ∙ ap (λ (q : Rec). put single (key_in 2 rel) (with_field 4 q (place_of r node + 4) nil)) there
      ∙ put_twice records (key_in 2 rel) one (with_field 4 one (place_of r node + 4) nil))

  place-freed : (m x : ℕ) → place_of (rel_rec freed x) m ≡ place_of (rel_rec records x) m
  unfolding single
  place-freed m x = ap (λ (r : Records). place_of (rel_rec r x) m) freed_is ∙ place-set_next single node rel nil m x ∙ place-set_prev records node rel nil m x

  next_of-freed_same : next_of freed node rel ≡ nil
  next_of-freed_same = ap (λ (r : Records). next_of r node rel) freed_is ∙ next_of-set_next_same single node rel nil (omega arith)

  next_of-freed_other : (m x : ℕ) → (x ≡ rel → Differ records node m rel) → next_of freed m x ≡ next_of records m x
  unfolding single
  next_of-freed_other m x ne = ap (λ (r : Records). next_of r m x) freed_is ∙ next_of-set_next_other single node rel nil m x
      (λ e. rw (place-set_prev records node rel nil node rel, place-set_prev records node rel nil m rel) (ne e)) ∙ next_of-set_prev records node rel nil m x

  prev_of-freed_same : prev_of freed node rel ≡ nil
  unfolding single
  prev_of-freed_same = ap (λ (r : Records). prev_of r node rel) freed_is ∙ prev_of-set_next single node rel nil node rel ∙ prev_of-set_prev_same records node
      rel nil (omega arith)

  prev_of-freed_other : (m x : ℕ) → (x ≡ rel → Differ records node m rel) → prev_of freed m x ≡ prev_of records m x
  unfolding single
  prev_of-freed_other m x ne = ap (λ (r : Records). prev_of r m x) freed_is ∙ prev_of-set_next single node rel nil m x ∙ prev_of-set_prev_other records node rel
      nil m x ne

  elsewhere-freed : (key : Key) → key.file ≢ 2 → freed key ≡ records key
  unfolding single
  elsewhere-freed key ne = ap (λ (r : Records). r key) freed_is ∙ elsewhere-set_next single node rel nil key ne ∙ elsewhere-set_prev records node rel nil key ne

  field-freed : (key : Key) (n at : ℕ) → at + n ≤ 64
      → (key ≡ key_in 2 rel → (at + n ≤ place_of (rel_rec records rel) node) ⊎ (place_of (rel_rec records rel) node + 4 ≤ at))
      → (key ≡ key_in 2 rel → (at + n ≤ place_of (rel_rec records rel) node + 4) ⊎ (place_of (rel_rec records rel) node + 4 + 4 ≤ at))
      → field n (freed key) at ≡ field n (records key) at
  unfolding single
  field-freed key n at fits prev next = ap (λ (r : Records). field n (r key) at) freed_is
      ∙ field-set_other single (next_place single node rel) nil key n at fits (rw (place-set_prev records node rel nil node rel) next)
      ∙ field-set_other records (prev_place records node rel) nil key n at fits prev

-- the one before gets the one after
module _ (s : State) (head : Head) (elsewhere : head.key.file ≢ 2) (node before after : ℕ) where
  pub on_led : (P : State → Type 0) → (before ≡ nil → P (number_set s head after)) → (before ≢ nil → P (next_set s node before after)) → P
      (led s head node before after)
  unfolding led
  on_led P none some = on_test P before nil (number_set s head after) (next_set s node before after) none some

  rel_stays : (x : ℕ) → rel_rec (number_set s head after).records x ≡ rel_rec s.records x
  rel_stays x = rel-set_elsewhere s.records head after elsewhere x

  prev_of-led : (m x : ℕ) → prev_of (led s head node before after).records m x ≡ prev_of s.records m x
  prev_of-led m x = on_led (λ t. prev_of t.records m x ≡ prev_of s.records m x) (λ _. ap (λ r. prev_in r m) (rel_stays x)) (λ _. prev_of-set_next s.records node
      before after m x)

  next_of-led_same : after < 2 ^ 32 → before ≢ nil → next_of (led s head node before after).records node before ≡ after
  next_of-led_same small there = on_led (λ t. next_of t.records node before ≡ after) (λ e. absurd (there e)) (λ _. next_of-set_next_same s.records node before
      after small)

  next_of-led_other : (m x : ℕ) → (x ≡ before → Differ s.records node m before) → next_of (led s head node before after).records m x ≡ next_of s.records m x
  next_of-led_other m x ne = on_led (λ t. next_of t.records m x ≡ next_of s.records m x) (λ _. ap (λ r. next_in r m) (rel_stays x))
      (λ _. next_of-set_next_other s.records node before after m x ne)

module _ (s : State) (head : Head) (node rel : ℕ) (place : IsPlace head) where
  first : ℕ
  first = first_of s.records head

  before : ℕ
  before = prev_of s.records node rel

  after : ℕ
  after = next_of s.records node rel

  free : State
  free = after_put (after_get s) (key_in 2 rel) (alone (s.records (key_in 2 rel)) node)

  free_is : free.records ≡ freed s.records node rel
  unfolding free freed
  free_is = refl

  back : State
  unfolding before after free
  back = backed free node after before

  new : State
  new = unlinked s head node rel

  new_is : new ≡ led back head node before after
  unfolding new unlinked back before after free
  new_is = refl

  small : (m x : ℕ) → next_of s.records m x < 2 ^ 32
  small m x = field-lt 4 (rel_rec s.records x) (place_of (rel_rec s.records x) m + 4)

  small_before : (m x : ℕ) → prev_of s.records m x < 2 ^ 32
  small_before m x = field-lt 4 (rel_rec s.records x) (place_of (rel_rec s.records x) m)

  place_free : (m x : ℕ) → place_of (rel_rec free.records x) m ≡ place_of (rel_rec s.records x) m
  place_free m x = ap (λ (r : Records). place_of (rel_rec r x) m) free_is ∙ place-freed s.records node rel m x

  place_back : (m x : ℕ) → place_of (rel_rec back.records x) m ≡ place_of (rel_rec s.records x) m
  unfolding back
  place_back m x = place-backed free node after before m x ∙ place_free m x

  differ_free : (m x : ℕ) → Differ s.records node m x → Differ free.records node m x
  differ_free m x ne = rw (place_free node x, place_free m x) ne

  differ_back : (m x : ℕ) → Differ s.records node m x → Differ back.records node m x
  differ_back m x ne = rw (place_back node x, place_back m x) ne

  -- ---- links
  next_same : before ≢ nil → next_of new.records node before ≡ after
  unfolding after
  next_same some = rw new_is (next_of-led_same back head place.elsewhere node before after (small node rel) some)

  next_other : (m x : ℕ) → (x ≡ before → Differ s.records node m before) → (x ≡ rel → Differ s.records node m rel) → next_of new.records m x ≡ next_of s.records
      m x
  unfolding back
  next_other m x nb nr = rw new_is (next_of-led_other back head place.elsewhere node before after m x (λ e. differ_back m before (nb e))
      ∙ next_of-backed free node after before m x ∙ ap (λ (r : Records). next_of r m x) free_is ∙ next_of-freed_other s.records node rel m x nr)

  next_rel : before ≢ rel → next_of new.records node rel ≡ nil
  unfolding back
  next_rel apart = rw new_is (next_of-led_other back head place.elsewhere node before after node rel (λ e. absurd (apart (sym e)))
      ∙ next_of-backed free node after before node rel ∙ ap (λ (r : Records). next_of r node rel) free_is ∙ next_of-freed_same s.records node rel)

  prev_rel : after ≢ rel → prev_of new.records node rel ≡ nil
  unfolding back
  prev_rel apart = rw new_is (prev_of-led back head place.elsewhere node before after node rel
      ∙ prev_of-backed_other free node after before node rel (λ e. absurd (apart (sym e))) ∙ ap (λ (r : Records). prev_of r node rel) free_is
      ∙ prev_of-freed_same s.records node rel)

  prev_same : after ≢ nil → prev_of new.records node after ≡ before
  unfolding back before
  prev_same some = rw new_is (prev_of-led back head place.elsewhere node before after node after ∙ prev_of-backed_same free node after before
      (small_before node rel) some)

  prev_other : (m x : ℕ) → (x ≡ after → Differ s.records node m after) → (x ≡ rel → Differ s.records node m rel) → prev_of new.records m x ≡ prev_of s.records m
      x
  unfolding back
  prev_other m x na nr = rw new_is (prev_of-led back head place.elsewhere node before after m x
      ∙ prev_of-backed_other free node after before m x (λ e. differ_free m after (na e))
      ∙ ap (λ (r : Records). prev_of r m x) free_is ∙ prev_of-freed_other s.records node rel m x nr)

  -- ---- the head
  back_stays : (key : Key) → key.file ≢ 2 → back.records key ≡ s.records key
  unfolding back
  back_stays key ne = elsewhere-backed free node after before key ne ∙ ap (λ (r : Records). r key) free_is ∙ elsewhere-freed s.records node rel key ne

  -- it leads on to the one after where there is none before
  first_led : before ≡ nil → first_of new.records head ≡ after
  unfolding after
  first_led none = rw new_is (on_led back head place.elsewhere node before after (λ t. first_of t.records head ≡ after)
      (λ _. field-set_same back.records head after place.fits (small node rel)) (λ some. absurd (some none)))

  first_stays : before ≢ nil → first_of new.records head ≡ first
  unfolding first
  first_stays some = rw new_is (on_led back head place.elsewhere node before after (λ t. first_of t.records head ≡ first) (λ none. absurd (some none))
      (λ _. ap (λ r. field 4 r head.field) (elsewhere-set_next back.records node before after head.key place.elsewhere ∙ back_stays head.key place.elsewhere)))

  -- ---- the same, of the space as it is left
  pub unlinked_next : prev_of s.records node rel ≢ nil → next_of (unlinked s head node rel).records node (prev_of s.records node rel) ≡ next_of s.records node
      rel
  unfolding new before after
  unlinked_next some = next_same some

  pub unlinked_next_other : (x : ℕ) → x ≢ rel → x ≢ prev_of s.records node rel → next_of (unlinked s head node rel).records node x ≡ next_of s.records node x
  unfolding new before
  unlinked_next_other x nr nb = next_other node x (λ e. absurd (nb e)) (λ e. absurd (nr e))

  pub unlinked_prev : next_of s.records node rel ≢ nil → prev_of (unlinked s head node rel).records node (next_of s.records node rel) ≡ prev_of s.records node
      rel
  unfolding new before after
  unlinked_prev some = prev_same some

  pub unlinked_prev_other : (x : ℕ) → x ≢ rel → x ≢ next_of s.records node rel → prev_of (unlinked s head node rel).records node x ≡ prev_of s.records node x
  unfolding new after
  unlinked_prev_other x nr na = prev_other node x (λ e. absurd (na e)) (λ e. absurd (nr e))

  pub unlinked_first : prev_of s.records node rel ≡ nil → first_of (unlinked s head node rel).records head ≡ next_of s.records node rel
  unfolding new before after
  unlinked_first none = first_led none

  pub unlinked_first_stays : prev_of s.records node rel ≢ nil → first_of (unlinked s head node rel).records head ≡ first_of s.records head
  unfolding new before first
  unlinked_first_stays some = first_stays some

  -- a chain of another node stays, unless it uses a link of the relationship or of what it says is beside it
  pub unlinked_others : (m from : ℕ) (ys : List ℕ) → IsChainFrom s.records m from ys
      → ((x : ℕ) → In x ys → (x ≡ rel) ⊎ ((x ≡ prev_of s.records node rel) ⊎ (x ≡ next_of s.records node rel)) → Differ s.records node m x)
      → IsChainFrom (unlinked s head node rel).records m from ys
  unfolding new before after
  unlinked_others m from ys chain apart =
      let at_rel : (x : ℕ) → In x ys → x ≡ rel → Differ s.records node m rel = λ x i e. subst (Differ s.records node m) e (apart x i (inl e)) in
      chain_stays (next_of s.records m) (prev_of s.records m) (next_of new.records m) (prev_of new.records m) nil from ys
      (λ x i. next_other m x (λ e. subst (Differ s.records node m) e (apart x i (inr (inl e)))) (at_rel x i))
      (λ x i. prev_other m x (λ e. subst (Differ s.records node m) e (apart x i (inr (inr e)))) (at_rel x i)) chain

  -- ---- numbers
  led_none : before ≡ nil → lead_place s.records head node rel ≡ head
  unfolding before
  led_none none = rw (eq_true (prev_of s.records node rel) nil none) refl

  led_some : before ≢ nil → lead_place s.records head node rel ≡ next_place s.records node before
  unfolding before
  led_some some = rw (eq_false (prev_of s.records node rel) nil some) refl

  only : ChangeOnly s.records new.records (lead_place s.records head node rel ∷ prev_place s.records node rel ∷ next_place s.records node rel ∷ prev_place
      s.records node after ∷ [])
  unfolding back before
  only = record {
    same = λ key n at fits apart.
        rw new_is (on_led back head place.elsewhere node before after (λ t. field n (t.records key) at ≡ field n (back.records key) at)
        (λ none. field-set_other back.records head after key n at fits (subst (λ (p : Head). key ≡ p.key → (at + n ≤ p.field) ⊎ (p.field + 4 ≤ at))
        (led_none none) apart.0))
        (λ some. field-set_other back.records (next_place back.records node before) after key n at fits (rw (place_back node before)
        (subst (λ (p : Head). key ≡ p.key → (at + n ≤ p.field) ⊎ (p.field + 4 ≤ at)) (led_some some) apart.0))))
        ∙ field-backed free node after before key n at fits (rw (place_free node after) apart.1.1.1.0)
        ∙ ap (λ (r : Records). field n (r key) at) free_is
        ∙ field-freed s.records node rel key n at fits apart.1.0 apart.1.1.0;
  }

  module _ (xs : List ℕ) (can : CanUnlink s.records head node rel xs) where
    walked : IsWalk (next_of s.records node) first xs
    unfolding first
    walked = walk_of_chain _ _ nil first xs can.chain

    there : (x : ℕ) → In x xs → x ≢ nil
    there x i e = nil_out (next_of s.records node) first xs walked (subst (λ z. In z xs) e i)

    after_member : (after ≡ nil) ⊎ In after xs
    unfolding after
    after_member = after_in (next_of s.records node) first xs rel walked can.member

    -- what is after a member is another, and so is what is before it
    after_apart : after ≢ rel
    unfolding after
    after_apart e = after_other (next_of s.records node) first xs rel walked can.member e

    before_member : (first ≡ rel) ⊎ In before xs
    unfolding first before
    before_member = before_in (next_of s.records node) (prev_of s.records node) nil first xs rel can.chain can.member

    before_nil : first ≡ rel → before ≡ nil
    unfolding first before
    before_nil e = first_before (next_of s.records node) (prev_of s.records node) nil first xs rel can.chain can.member e

    before_apart : before ≢ rel
    unfolding first before
    before_apart = before_other (next_of s.records node) (prev_of s.records node) nil first xs rel (nil_out (next_of s.records node) first xs walked)
        can.chain can.member

    first_new : first_of new.records head ≡ cond (nat_eq first rel) after first
    first_new = ⊎_elim
        (λ (f : first ≡ rel). rw (eq_true first rel f) (first_led (before_nil f)))
        (λ (i : In before xs). rw (eq_false first rel (λ f. there before i (before_nil f))) (first_stays (there before i)))
        before_member

    chain_new : IsChainAt new.records head node (without rel xs)
    unfolding first before after
    chain_new = rw first_new (chain_unlink (next_of s.records node) (prev_of s.records node) (next_of new.records node) (prev_of new.records node) rel
        next_same prev_same (λ x nr nb. next_other node x (λ e. absurd (nb e)) (λ e. absurd (nr e))) (λ x nr na. prev_other node x (λ e. absurd (na e))
        (λ e. absurd (nr e)))
        nil first xs (nil_out _ first xs walked) can.chain can.member)

    others_stay : (m from : ℕ) (ys : List ℕ) → IsChainFrom s.records m from ys → ShareNoLink s.records node xs m ys → IsChainFrom new.records m from ys
    others_stay m from ys chain apart =
        let out = nil_out (next_of s.records m) from ys (walk_of_chain _ _ nil from ys chain) in
        let some : (x : ℕ) → In x ys → x ≢ nil = λ x i e. out (subst (λ z. In z ys) e i) in
        let at_rel : (x : ℕ) → In x ys → x ≡ rel → Differ s.records node m rel = λ x i e. subst (Differ s.records node m) e
        (apart x i (subst (λ z. In z xs) (sym e) can.member)) in
        let at_after : (x : ℕ) → In x ys → x ≡ after → Differ s.records node m after = λ x i e. subst (Differ s.records node m) e
        (apart x i (⊎_elim (λ none. absurd (some x i (e ∙ none))) (λ k. subst (λ z. In z xs) (sym e) k) after_member)) in
        let at_before : (x : ℕ) → In x ys → x ≡ before → Differ s.records node m before = λ x i e. subst (Differ s.records node m) e
        (apart x i (⊎_elim (λ q. absurd (some x i (e ∙ before_nil q))) (λ k. subst (λ z. In z xs) (sym e) k) before_member)) in
        chain_stays (next_of s.records m) (prev_of s.records m) (next_of new.records m) (prev_of new.records m) nil from ys
        (λ x i. next_other m x (at_before x i) (at_rel x i)) (λ x i. prev_other m x (at_after x i) (at_rel x i)) chain

    pub has_unlinked : HasUnlinked s.records (unlinked s head node rel).records head node rel xs
    unfolding new after
    has_unlinked = record {
      chain = chain_new;
      before = prev_rel after_apart;
      after = next_rel before_apart;
      others = others_stay;
      only = only;
    }
