-- Some lists of a file are given back and some come in their place: each record in use is still in the list of one owner.
use Rattle.std.proofs.Common.{◌≡◌, ◌⊎◌, ℕ, true, Option, Some, List, sym, ap, ◌∙◌, subst, ⊎_elim}
use Rattle.std.proofs.lemmas.Bool.{true≢false}
use Rattle.rec_bytes.specs.declared.record.Rec.{Rec}
use Rattle.rec_bytes.specs.declared.shape.Shape.{Shape}
use Rattle.store_rules.specs.Chains.{In, IsWalk}
use Rattle.store_rules.specs.Rules.{AreHeld}
use Rattle.store_rules.specs.Views.{Records, is_live, rec_at}
use Rattle.store_rules.proofs.ChainLaws.{walk_stays}
use Rattle.store_rules.specs.PropertyChange.{ChangesFile}

-- The owner was there before, with the list that it has, of which nothing was given back.
pub record Stays (owner : ℕ → ℕ → Option ℕ) (was lists : ℕ → ℕ → List ℕ) (old : List ℕ) (f x first : ℕ) : Type 0 where
  pub owned : owner f x ≡ Some first
  pub same : lists f x ≡ was f x
  pub aside : (p : ℕ) → In p (was f x) → ¬ In p old

-- The lists of the owners now, of which some are new. The new ones have just what came, and the others stay.
pub record AreRelisted (owner now : ℕ → ℕ → Option ℕ) (next : ℕ → ℕ) (was lists : ℕ → ℕ → List ℕ) (old new : List ℕ) (is_new : ℕ → ℕ → Type 0) : Type 0 where
  pub sides : (f x first : ℕ) → now f x ≡ Some first → is_new f x ⊎ Stays owner was lists old f x first
  pub walk : (f x first : ℕ) → is_new f x → now f x ≡ Some first → IsWalk next first (lists f x)
  pub come : (f x p : ℕ) → is_new f x → In p (lists f x) → In p new
  pub back : (p : ℕ) → In p new → (f : ℕ) × (x : ℕ) × (first : ℕ) × ((now f x ≡ Some first) × In p (lists f x))
  pub keep : (f x first p : ℕ) → owner f x ≡ Some first → In p (was f x) → ¬ In p old → (now f x ≡ Some first) × (lists f x ≡ was f x)
  pub apart : (f x g y p : ℕ) → is_new f x → is_new g y → In p (lists f x) → In p (lists g y) → (f ≡ g) × (x ≡ y)

module _ (s t : Records) (shape : Shape) (file : ℕ) (old new : List ℕ) (change : ChangesFile s t shape file old new) (link : Rec → ℕ)
    (owner now : ℕ → ℕ → Option ℕ)
    (held : AreHeld owner (λ p. link (rec_at s file p)) (is_live s file)) (lists : ℕ → ℕ → List ℕ) (is_new : ℕ → ℕ → Type 0) where
  -- what a list that stays has is as it was
  pub stays_kept : (f x first p : ℕ) → Stays owner held.lists lists old f x first → In p (held.lists f x) → (is_live t file p ≡ true)
      × (rec_at t file p ≡ rec_at s file p)
  stays_kept f x first p k i = change.kept p (held.only f x first p k.owned i) (k.aside p i)

  -- and none of it is new
  pub stays_old : (f x first p : ℕ) → Stays owner held.lists lists old f x first → In p (held.lists f x) → ¬ In p new
  stays_old f x first p k i n = ⊎_elim (λ (o : In p old). k.aside p i o) (λ dead. true≢false (sym (held.only f x first p k.owned i) ∙ dead)) (change.from p n)

  -- so each record in use is still in the list of one owner
  unfoldable pub relisted : AreRelisted owner now (λ p. link (rec_at t file p)) held.lists lists old new is_new
      → AreHeld now (λ p. link (rec_at t file p)) (is_live t file)
  relisted given = record {
    lists = lists;
    walk = λ f x first e. ⊎_elim
        (λ (o : is_new f x). given.walk f x first o e)
        (λ (k : Stays owner held.lists lists old f x first). subst (IsWalk (λ p. link (rec_at t file p)) first) (sym k.same)
        (walk_stays (λ p. link (rec_at s file p)) (λ p. link (rec_at t file p)) first (held.lists f x) (λ p i. ap link (stays_kept f x first p k i).1)
        (held.walk f x first k.owned)))
        (given.sides f x first e);
    only = λ f x first p e i. ⊎_elim
        (λ (o : is_new f x). change.live p (given.come f x p o i))
        (λ (k : Stays owner held.lists lists old f x first). (stays_kept f x first p k (subst (In p) k.same i)).0)
        (given.sides f x first e);
    held = λ p l. ⊎_elim (λ (i : In p new). given.back p i) (λ (k : (is_live s file p ≡ true) × (¬ In p old)).
        let o = held.held p k.0 in
        let stay = given.keep o.0 o.1 o.2 p o.3.0 o.3.1 k.1 in
        (o.0, o.1, o.2, (stay.0, subst (In p) (sym stay.1) o.3.1))) (change.only p l);
    once = λ f x first g y second p e d i j. ⊎_elim
        (λ (o : is_new f x). ⊎_elim
        (λ (u : is_new g y). given.apart f x g y p o u i j)
        (λ (k : Stays owner held.lists lists old g y second). absurd (stays_old g y second p k (subst (In p) k.same j) (given.come f x p o i)))
        (given.sides g y second d))
        (λ (k : Stays owner held.lists lists old f x first). ⊎_elim
        (λ (u : is_new g y). absurd (stays_old f x first p k (subst (In p) k.same i) (given.come g y p u j)))
        (λ (q : Stays owner held.lists lists old g y second). held.once f x first g y second p k.owned q.owned (subst (In p) k.same i) (subst (In p) q.same j))
        (given.sides g y second d))
        (given.sides f x first e);
  }
