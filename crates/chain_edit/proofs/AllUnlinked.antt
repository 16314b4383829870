-- A removal keeps all chains listed.
use Rattle.std.proofs.Common.{◌≡◌, ◌≢◌, ◌⊎◌, ◌+◌, ◌≤◌, ℕ, List, sym, subst, ⊎_elim, refl}
use Rattle.rec_bytes.specs.Format.{nil}
use Rattle.rec_bytes.specs.Space.{State}
use Rattle.store_rules.specs.Chains.{In, without}
use Rattle.store_rules.specs.Rules.{AllListed, Head, IsListed, first_of}
use Rattle.store_rules.specs.Views.{Records}
use Rattle.store_rules.proofs.ChainLaws.{walk_of_chain}
use Rattle.chain_edit.specs.Chains.{Differ, IsChainFrom, next_of, next_place, prev_of}
use Rattle.chain_edit.specs.Heads.{IsPlace}
use Rattle.chain_edit.specs.Listed.{AreHeads, without_one}
use Rattle.chain_edit.specs.Unlinking.{HasUnlinked, lead_place, unlinked}
use Rattle.store_rules.proofs.ChainSteps.{gone, in_without, on_test, stays_without}
use Rattle.chain_edit.proofs.AllPushed.{apart_head, apart_link, head_cases}
use Rattle.chain_edit.proofs.Removals.{has_unlinked}

-- a removal leaves each other head
pub first_unlinked_other : (old new : Records) (head h : Head) (node rel : ℕ) (xs : List ℕ) → IsPlace head → IsPlace h → h ≢ head → HasUnlinked old new head
    node rel xs → first_of new h ≡ first_of old h
first_unlinked_other old new head h node rel xs place other ne done =
    done.only.same h.key 4 h.field other.fits (
      leads,
      (
        (λ e. apart_link h rel other e),
        (
          (λ e. apart_link h rel other e),
          ((λ e. apart_link h (next_of old node rel) other e), tt),
        ),
      ),
    )
  where
    before : ℕ
    before = prev_of old node rel

    leads : h.key ≡ (lead_place old head node rel).key → (h.field + 4 ≤ (lead_place old head node rel).field) ⊎ ((lead_place old head node rel).field + 4 ≤
        h.field)
    leads = on_test (λ (p : Head). h.key ≡ p.key → (h.field + 4 ≤ p.field) ⊎ (p.field + 4 ≤ h.field)) (prev_of old node rel) nil head
        (next_place old node (prev_of old node rel))
        (λ _ e. apart_head h head other place ne e) (λ _ e. apart_link h (prev_of old node rel) other e)

module _ (s : State) (owns at : Head → ℕ → Type 0) (heads : AreHeads owns) (all : AllListed s.records owns at)
    (head : Head) (node rel : ℕ) (owned : owns head node) (member : at head rel)
    (apart : (h : Head) (n x : ℕ) → owns h n → h ≢ head → at h x → at head x → Differ s.records node n x) where
  place : IsPlace head
  place = heads.place head node owned

  here : IsListed s.records head node (at head)
  here = all.each head node owned

  new : Records
  new = (unlinked s head node rel).records

  done : HasUnlinked s.records new head node rel here.members
  unfolding here new
  done = has_unlinked s head node rel place here.members (record { chain = here.chain; member = here.all rel member })

  listed_here : IsListed new head node (without_one at head rel head)
  listed_here = record {
    members = without rel here.members;
    chain = done.chain;
    only = λ x i. (
      here.only x (in_without rel here.members x i),
      λ _ e. gone (next_of s.records node) rel (first_of s.records head) here.members
          (walk_of_chain _ _ nil (first_of s.records head) here.members here.chain) (subst (λ z. In z (without rel here.members)) e i),
    );
    all = λ x a. stays_without rel here.members x (a.1 refl) (here.all x a.0);
  }

  listed_other : (h : Head) (n : ℕ) → owns h n → h ≢ head → IsListed new h n (without_one at head rel h)
  unfolding new
  listed_other h n o ne =
      let there = all.each h n o in
      record {
        members = there.members;
        chain = subst (λ f. IsChainFrom new n f there.members) (sym (first_unlinked_other s.records new head h node rel here.members place (heads.place h n o)
            ne done))
            (done.others n (first_of s.records h) there.members there.chain (λ x i k. apart h n x o ne (there.only x i) (here.only x k)));
        only = λ x i. (there.only x i, λ e. absurd (ne e));
        all = λ x a. there.all x a.0;
      }

  -- each head lists what stood there, but for the one that was taken out of this one
  pub all_listed_unlinked : AllListed (unlinked s head node rel).records owns (without_one at head rel)
  unfolding new
  all_listed_unlinked = record {
    each = λ h n o. ⊎_elim
        (λ (e : h ≡ head). subst (λ z. IsListed new z n (without_one at head rel z)) (sym e)
        (subst (λ m. IsListed new head m (without_one at head rel head)) (heads.one_node head node n owned (subst (λ z. owns z n) e o)) listed_here))
        (λ (ne : h ≢ head). listed_other h n o ne)
        (head_cases h head);
  }
