-- What a push leaves of each chain.
use Rattle.std.proofs.Common.{◌≡◌, ◌≢◌, ◌⊎◌, ℕ, ◌<◌, ◌^◌, List, [], ◌∷◌, sym, ap, ◌∙◌, subst, inl, inr, ⊎_elim, arith}
use Rattle.rec_bytes.specs.declared.key.Key.{Key}
use Rattle.rec_bytes.specs.declared.record.Rec.{Rec}
use Rattle.rec_bytes.specs.Format.{nil}
use Rattle.rec_bytes.specs.Record.{field, with_field}
use Rattle.rec_bytes.specs.Space.{State, after_get, put}
use Rattle.rec_bytes.proofs.Numbers.{field-lt}
use Rattle.store_rules.specs.Chains.{In, next_in, prev_in}
use Rattle.store_rules.specs.Rules.{Head, first_of}
use Rattle.store_rules.specs.Views.{Records}
use Rattle.store_rules.proofs.ChainLaws.{chain_stays, walk_of_chain}
use Rattle.chain_edit.specs.Chains.{ChangeOnly, Differ, IsChainFrom, ShareNoLink, next_of, next_place, prev_of, prev_place}
use Rattle.chain_edit.specs.Heads.{IsPlace}
use Rattle.chain_edit.specs.Links.{backed, next_set}
use Rattle.chain_edit.specs.Pushing.{CanPush, HasPushed, pushed}
use Rattle.store_rules.proofs.ChainSteps.{chain_push, first_in, nil_out}
use Rattle.chain_edit.proofs.Edits.{elsewhere-backed, field-backed, next_of-backed, place-backed, prev_of-backed_same, prev_of-backed_other}
use Rattle.chain_edit.proofs.LinkLaws.{elsewhere-set_next, field-set_other, field-set_same, next_of-set_next_same, next_of-set_next_other}
use Rattle.chain_edit.proofs.LinkLaws.{prev_of-set_next, rel-set_elsewhere, rel_rec, set_at}

module _ (s : State) (head : Head) (node rel : ℕ) (place : IsPlace head) where
  first : ℕ
  first = first_of s.records head

  back : State
  unfolding first
  back = backed (after_get s) node first rel

  linked : State
  unfolding first
  linked = next_set back node rel first

  new : Records
  new = (pushed s head node rel).records

  -- the head's record is no relationship
  head_stays : (key : Key) → key.file ≢ 2 → linked.records key ≡ s.records key
  unfolding linked back
  head_stays key ne = elsewhere-set_next back.records node rel first key ne ∙ elsewhere-backed (after_get s) node first rel key ne

  new_is : new ≡ set_at linked.records head rel
  unfolding first back linked new pushed
  new_is = ap (λ (r : Rec). put linked.records head.key (with_field 4 r head.field rel)) (sym (head_stays head.key place.elsewhere))

  new_rel : (x : ℕ) → rel_rec new x ≡ rel_rec linked.records x
  new_rel x = ap (λ (r : Records). rel_rec r x) new_is ∙ rel-set_elsewhere linked.records head rel place.elsewhere x

  differ_back : (m x : ℕ) → Differ s.records node m x → Differ back.records node m x
  unfolding back
  differ_back m x ne = rw (place-backed (after_get s) node first rel node x, place-backed (after_get s) node first rel m x) ne

  next_same : next_of new node rel ≡ first
  unfolding first linked
  next_same = ap (λ r. next_in r node) (new_rel rel) ∙ next_of-set_next_same back.records node rel first (field-lt 4 (s.records head.key) head.field)

  next_other : (m x : ℕ) → (x ≡ rel → Differ s.records node m rel) → next_of new m x ≡ next_of s.records m x
  unfolding back linked
  next_other m x ne = ap (λ r. next_in r m) (new_rel x) ∙ next_of-set_next_other back.records node rel first m x (λ e. differ_back m rel (ne e))
      ∙ next_of-backed (after_get s) node first rel m x

  prev_same : rel < 2 ^ 25 → first ≢ nil → prev_of new node first ≡ rel
  unfolding back linked
  prev_same small there = ap (λ r. prev_in r node) (new_rel first) ∙ prev_of-set_next back.records node rel first node first ∙ prev_of-backed_same (after_get s)
      node first rel (omega arith) there

  prev_other : (m x : ℕ) → (x ≡ first → Differ s.records node m first) → prev_of new m x ≡ prev_of s.records m x
  unfolding back linked
  prev_other m x ne = ap (λ r. prev_in r m) (new_rel x) ∙ prev_of-set_next back.records node rel first m x ∙ prev_of-backed_other (after_get s) node first rel m
      x ne

  -- ---- numbers
  first_new : rel < 2 ^ 25 → first_of new head ≡ rel
  first_new small = ap (λ (r : Records). first_of r head) new_is ∙ field-set_same linked.records head rel place.fits (omega arith)

  only : ChangeOnly s.records new (prev_place s.records node first ∷ next_place s.records node rel ∷ head ∷ [])
  unfolding back linked
  only = record {
    same = λ key n at fits apart.
        ap (λ (r : Records). field n (r key) at) new_is
        ∙ field-set_other linked.records head rel key n at fits apart.1.1.0
        ∙ field-set_other back.records (next_place back.records node rel) first key n at fits (rw (place-backed (after_get s) node first rel node rel)
        apart.1.0)
        ∙ field-backed (after_get s) node first rel key n at fits apart.0;
  }

  module _ (xs : List ℕ) (small : rel < 2 ^ 25) (can : CanPush s.records head node rel xs) where
    -- the old first one is none or a member
    first_member : (first ≡ nil) ⊎ In first xs
    unfolding first
    first_member = first_in (next_of s.records node) first xs (walk_of_chain _ _ nil first xs can.chain)

    not_first : rel ≢ first
    not_first e = ⊎_elim (λ none. omega arith) (λ i. can.new (subst (λ z. In z xs) (sym e) i)) first_member

    chain_new : IsChainFrom new node rel (rel ∷ xs)
    unfolding first
    chain_new = chain_push (next_of s.records node) (prev_of s.records node) (next_of new node) (prev_of new node) first rel xs can.chain can.new
        (λ e. omega arith)
        next_same (prev_other node rel (λ e. absurd (not_first e)) ∙ can.alone) (prev_same small) (λ x ne. next_other node x (λ e. absurd (ne e)))
        (λ x ne ne'. prev_other node x (λ e. absurd (ne' e)))

    others_stay : (m from : ℕ) (ys : List ℕ) → IsChainFrom s.records m from ys → ShareNoLink s.records node (rel ∷ xs) m ys → IsChainFrom new m from ys
    others_stay m from ys chain apart =
        let there : (x : ℕ) → In x ys → x ≢ nil = λ x i e. nil_out (next_of s.records m) from ys (walk_of_chain _ _ nil from ys chain)
        (subst (λ z. In z ys) e i) in
        chain_stays (next_of s.records m) (prev_of s.records m) (next_of new m) (prev_of new m) nil from ys
        (λ x i. next_other m x (λ e. subst (Differ s.records node m) e (apart x i (inl e))))
        (λ x i. prev_other m x (λ e. subst (Differ s.records node m) e
        (apart x i (inr (⊎_elim (λ none. absurd (there x i (e ∙ none))) (λ k. subst (λ z. In z xs) (sym e) k) first_member))))) chain

    pub has_pushed : HasPushed s.records (pushed s head node rel).records head node rel xs
    unfolding new first
    has_pushed = record {
      chain = subst (λ f. IsChainFrom new node f (rel ∷ xs)) (sym (first_new small)) chain_new;
      others = others_stay;
      only = only;
    }
