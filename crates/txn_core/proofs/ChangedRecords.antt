-- Records that are put one by one, without those that stand there already; and that such lists have nothing free.
use Rattle.std.proofs.Common.{◌≡◌, ◌∙◌, inl, inr, Bool, true, false, cond, Option, Some, None, is_some, unwrap_or, [], ◌∷◌, refl, sym, ap, subst}
use Rattle.std.specs.Option.{option_or}
use Rattle.std.specs.declared.cmp.Ordering.TheVariants.{Less, Equal, Greater}
use Rattle.rec_bytes.specs.Key.{key_cmp, key_eq}
use Rattle.rec_bytes.specs.Pairs.{IsBelow, IsOrdered, Pairs, find_pair, merged, with_pair}
use Rattle.rec_bytes.specs.Space.{laid_over, put}
use Rattle.rec_bytes.specs.declared.key.Key.{Key}
use Rattle.rec_bytes.specs.declared.record.Rec.{Rec}
use Rattle.rec_bytes.proofs.KeyLaws.{key_eq-same, key_eq_true}
use Rattle.rec_bytes.proofs.PairLaws.{below_all, below_out, by_cmp, exact_keys, find_merged, find_with, reverse, same_cmp}
use Rattle.rec_bytes.proofs.Spaces.{laid_over-at, laid_over-merged, laid_over-other, laid_over-with_pair, put_held}
use Rattle.txn_core.proofs.Shipped.{merged-none}
use Rattle.txn_core.specs.Changed.{AreChanged, HasChanged, PutsChanged}

-- ---- records that are put one by one

-- These were put of all, and the rest is still to come.
pub record IsThinned (tells : Type 0) (records : Key → Rec) (all made rest : Pairs) : Type 0 where
  pub rising : IsOrdered rest
  pub below : (q : Key) → is_some (find_pair made q) ≡ true → IsBelow q rest
  pub fewer : (q : Key) → is_some (find_pair (merged made rest) q) ≡ true → is_some (find_pair all q) ≡ true
  pub read : tells → laid_over records (merged made rest) ≡ laid_over records all
  pub changed : tells → AreChanged records made

module _ (tells : Type 0) (records : Key → Rec) (all : Pairs) where
  pub thinned_none : IsOrdered all → IsThinned tells records all [] all
  thinned_none rising =
      let same = merged-none all rising in
      record {
        rising = rising;
        below = λ q there. absurd cc;
        fewer = λ q there. ap (λ (pairs : Pairs). is_some (find_pair pairs q)) (sym same) ∙ there;
        read = λ told. ap (laid_over records) same;
        changed = λ told q rec is. absurd cc;
      }

  -- where nothing is to come any more, they are the changed ones
  pub thinned_has : (made : Pairs) → IsThinned tells records all made [] → HasChanged tells records all made
  thinned_has made was = record { fewer = was.fewer; read = was.read; changed = was.changed }

  module _ (made : Pairs) (key : Key) (rec : Rec) (rest : Pairs) (was : IsThinned tells records all made ((key, rec) ∷ rest)) where
    -- the next key is new
    fresh : find_pair made key ≡ None
    fresh = by (find_pair made key) refl
      where
        by : (o : Option Rec) → find_pair made key ≡ o → o ≡ None
        by None is = refl
        by (Some other) is =
            let less = (was.below key (ap is_some is)).0 in
            let clash : Equal ≡ Less = sym (same_cmp key key refl) ∙ less in
            absurd cc

    pub thinned_put : (tells → ¬ (rec ≡ records key)) → IsThinned tells records all (with_pair made key rec) rest
    thinned_put differs = record {
      rising = was.rising.1;
      below = λ q there. by q (key_eq q key) refl (sym (ap is_some (find_with made key rec q)) ∙ there);
      fewer = was.fewer;
      read = was.read;
      changed = λ told q other is. new told q other (key_eq q key) refl (sym (find_with made key rec q) ∙ is);
    }
      where
        by : (q : Key) (t : Bool) → key_eq q key ≡ t → is_some (cond t (Some rec) (find_pair made q)) ≡ true → IsBelow q rest
        by q true is there = subst (λ (k : Key). IsBelow k rest) (sym (key_eq_true q key is)) was.rising.0
        by q false is there = (was.below q there).1

        new : tells → (q : Key) (other : Rec) (t : Bool) → key_eq q key ≡ t → cond t (Some rec) (find_pair made q) ≡ Some other → ¬ (other ≡ records q)
        new told q other true is found same =
            let one : rec ≡ other = cc in
            differs told (one ∙ same ∙ ap records (key_eq_true q key is))
        new told q other false is found same = was.changed told q other found same

    pub thinned_same : (tells → rec ≡ records key) → IsThinned tells records all made rest
    thinned_same equal = record {
      rising = was.rising.1;
      below = λ q there. (was.below q there).1;
      fewer = λ q there. was.fewer q (more q there);
      read = λ told. laid_over-merged records made rest was.rising.1
          ∙ ap (λ (r : Key → Rec). laid_over r rest) (sym (held told))
          ∙ sym (laid_over-merged records (with_pair made key rec) rest was.rising.1)
          ∙ was.read told;
      changed = was.changed;
    }
      where
        held : tells → laid_over records (with_pair made key rec) ≡ laid_over records made
        held told = laid_over-with_pair records made key rec
            ∙ put_held (laid_over records made) key rec (laid_over-other records made key fresh ∙ sym (equal told))

        either : (a b : Option Rec) (t : Bool) → is_some (option_or a b) ≡ true → is_some (option_or a (cond t (Some rec) b)) ≡ true
        either (Some x) b t there = refl
        either None b true there = refl
        either None b false there = there

        more : (q : Key) → is_some (find_pair (merged made rest) q) ≡ true → is_some (find_pair (merged (with_pair made key rec) rest) q) ≡ true
        more q there =
            ap is_some (find_merged (with_pair made key rec) rest q was.rising.1 ∙ ap (option_or (find_pair rest q)) (find_with made key rec q))
            ∙ either (find_pair rest q) (find_pair made q) (key_eq q key) (sym (ap is_some (find_merged made rest q was.rising.1)) ∙ there)

    pub thinned_more : (next : Pairs) → PutsChanged tells records key rec made next → IsThinned tells records all next rest
    thinned_more next (inl (is, differs)) = subst (λ (pairs : Pairs). IsThinned tells records all pairs rest) (sym is) (thinned_put differs)
    thinned_more next (inr (is, equal)) = subst (λ (pairs : Pairs). IsThinned tells records all pairs rest) (sym is) (thinned_same equal)
