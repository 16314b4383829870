-- A push keeps all chains listed.
use Rattle.std.proofs.Common.{◌≡◌, ◌≢◌, ◌⊎◌, ◌/◌, ◌+◌, ◌≤◌, ℕ, ◌<◌, ◌^◌, List, ◌∷◌, sym, ap, ◌∙◌, subst, inl, inr, ⊎_elim, arith, refl}
use Rattle.rec_bytes.specs.declared.key.Key.{Key}
use Rattle.rec_bytes.specs.Format.{nil}
use Rattle.rec_bytes.specs.Space.{State}
use Rattle.store_rules.specs.Chains.{In}
use Rattle.store_rules.specs.Rules.{AllListed, Head, IsListed, first_of}
use Rattle.store_rules.specs.Views.{Records}
use Rattle.store_rules.proofs.ChainLaws.{chain_stays}
use Rattle.store_rules.proofs.NumberLaws.{nat_cases}
use Rattle.rel_store.proofs.LinkPlaces.{words_apart}
use Rattle.chain_edit.specs.Chains.{Differ, IsChainFrom, next_of, prev_of}
use Rattle.chain_edit.specs.Heads.{IsPlace}
use Rattle.chain_edit.specs.Listed.{AreHeads, with_one}
use Rattle.chain_edit.specs.Pushing.{CanPush, HasPushed, pushed}
use Rattle.chain_edit.proofs.LinkLaws.{key_cases}
use Rattle.chain_edit.proofs.Pushes.{has_pushed}

-- two heads are one, or differ in the record or in the place in it
pub head_cases : (a b : Head) → (a ≡ b) ⊎ (a ≢ b)
head_cases a b = ⊎_elim
    (λ (k : a.key ≡ b.key). ⊎_elim
    (λ (f : a.field ≡ b.field). inl (ap (λ z. record { key = z; field = a.field }) k ∙ ap (λ z. record { key = b.key; field = z }) f))
    (λ (f : a.field ≢ b.field). inr (λ e. f (ap (λ (h : Head). h.field) e))) (nat_cases a.field b.field))
    (λ (k : a.key ≢ b.key). inr (λ e. k (ap (λ (h : Head). h.key) e))) (key_cases a.key b.key)

-- another head's number stands apart from a head's, and from each link of a relationship
pub apart_head : (h head : Head) → IsPlace h → IsPlace head → h ≢ head → h.key ≡ head.key → (h.field + 4 ≤ head.field) ⊎ (head.field + 4 ≤ h.field)
apart_head h head other place ne same =
    words_apart h.field head.field (h.field / 4) (head.field / 4) (omega (arith, other.whole)) (omega (arith, place.whole))
    (λ e. ne (ap (λ z. record { key = z; field = h.field }) same ∙ ap (λ z. record { key = head.key; field = z }) e))

pub apart_link : {A : Type 0} (h : Head) (x : ℕ) → IsPlace h → h.key ≡ record { file = 2; id = x } → A
apart_link h x other same = absurd (other.elsewhere (ap (λ (k : Key). k.file) same))

-- a push leaves each other head
pub first_pushed_other : (old new : Records) (head h : Head) (node rel : ℕ) (xs : List ℕ) → IsPlace head → IsPlace h → h ≢ head → HasPushed old new head node
    rel xs → first_of new h ≡ first_of old h
first_pushed_other old new head h node rel xs place other ne done =
    done.only.same h.key 4 h.field other.fits
    ((λ e. apart_link h (first_of old head) other e), ((λ e. apart_link h rel other e), ((λ e. apart_head h head other place ne e), tt)))

module _ (s : State) (owns at : Head → ℕ → Type 0) (heads : AreHeads owns) (all : AllListed s.records owns at)
    (head : Head) (node rel : ℕ) (owned : owns head node) (small : rel < 2 ^ 25) (fresh : at head rel → ⊥) (alone : prev_of s.records node rel ≡ nil)
    (apart : (h : Head) (n x : ℕ) → owns h n → h ≢ head → at h x → at head x ⊎ (x ≡ rel) → Differ s.records node n x) where
  place : IsPlace head
  place = heads.place head node owned

  here : IsListed s.records head node (at head)
  here = all.each head node owned

  can : CanPush s.records head node rel (here.members)
  unfolding here
  can = record { chain = here.chain; new = λ i. fresh (here.only rel i); alone = alone }

  new : Records
  new = (pushed s head node rel).records

  done : HasPushed s.records new head node rel here.members
  unfolding new
  done = has_pushed s head node rel place here.members small can

  listed_here : IsListed new head node (with_one at head rel head)
  listed_here = record {
    members = rel ∷ here.members;
    chain = done.chain;
    only = λ x i. ⊎_elim (λ e. inr (refl, e)) (λ k. inl (here.only x k)) i;
    all = λ x a. ⊎_elim (λ k. inr (here.all x k)) (λ k. inl k.1) a;
  }

  listed_other : (h : Head) (n : ℕ) → owns h n → h ≢ head → IsListed new h n (with_one at head rel h)
  unfolding new
  listed_other h n o ne =
      let there = all.each h n o in
      let member : (x : ℕ) → In x (rel ∷ here.members) → at head x ⊎ (x ≡ rel) = λ x i. ⊎_elim (λ e. inr e) (λ k. inl (here.only x k)) i in
      record {
        members = there.members;
        chain = subst (λ f. IsChainFrom new n f there.members) (sym (first_pushed_other s.records new head h node rel here.members place (heads.place h n o)
            ne done))
            (done.others n (first_of s.records h) there.members there.chain (λ x i k. apart h n x o ne (there.only x i) (member x k)));
        only = λ x i. inl (there.only x i);
        all = λ x a. ⊎_elim (λ k. there.all x k) (λ k. absurd (ne k.0)) a;
      }

  -- each head lists what stood there, and this one the new one besides
  pub all_listed_pushed : AllListed (pushed s head node rel).records owns (with_one at head rel)
  unfolding new
  all_listed_pushed = record {
    each = λ h n o. ⊎_elim
        (λ (e : h ≡ head). subst (λ z. IsListed new z n (with_one at head rel z)) (sym e)
        (subst (λ m. IsListed new head m (with_one at head rel head)) (heads.one_node head node n owned (subst (λ z. owns z n) e o)) listed_here))
        (λ (ne : h ≢ head). listed_other h n o ne)
        (head_cases h head);
  }

-- chains that are not touched stay listed
pub all_listed_stays : (old new : Records) (owns at : Head → ℕ → Type 0)
    → ((h : Head) (n x : ℕ) → owns h n → at h x → next_of new n x ≡ next_of old n x)
    → ((h : Head) (n x : ℕ) → owns h n → at h x → prev_of new n x ≡ prev_of old n x)
    → ((h : Head) (n : ℕ) → owns h n → first_of new h ≡ first_of old h)
    → AllListed old owns at → AllListed new owns at
all_listed_stays old new owns at next prev first all = record {
  each = λ h n o. let l = all.each h n o in record {
    members = l.members;
    chain = subst (λ f. IsChainFrom new n f l.members) (sym (first h n o))
        (chain_stays (next_of old n) (prev_of old n) (next_of new n) (prev_of new n) nil (first_of old h) l.members
        (λ x i. next h n x o (l.only x i)) (λ x i. prev h n x o (l.only x i)) l.chain);
    only = l.only;
    all = l.all;
  };
}

-- the same heads, and the same things that stand at them, in other words
pub all_listed_same : (records : Records) (owns at owns' at' : Head → ℕ → Type 0) → ((h : Head) (n : ℕ) → owns' h n → owns h n)
    → ((h : Head) (n x : ℕ) → owns' h n → at h x → at' h x) → ((h : Head) (n x : ℕ) → owns' h n → at' h x → at h x)
    → AllListed records owns at → AllListed records owns' at'
all_listed_same records owns at owns' at' o there back all = record {
  each = λ h n p. let l = all.each h n (o h n p) in record {
    members = l.members;
    chain = l.chain;
    only = λ x i. there h n x p (l.only x i);
    all = λ x a. l.all x (back h n x p a);
  };
}
