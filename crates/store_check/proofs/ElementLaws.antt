-- The properties of elements, by the heads of their lists.
use Rattle.std.proofs.Common.{◌≡◌, ◌⊎◌, ℕ, ◌<◌, Bool, true, false, List, sym, subst, inl, inr, ⊎_elim, arith}
use Rattle.std.specs.Bool.{Decides}
use Rattle.rec_bytes.specs.Format as format
use Rattle.store_rules.specs.Views.{Records, high, is_live}
use Rattle.store_rules.proofs.ElementOwners.{owner_of, owns_is}
use Rattle.store_check.specs.declared.elements.ElementHeads.{ElementHeads}
use Rattle.store_rules.specs.PropertyChange.{property_from}
use Rattle.store_rules.specs.Breaking.{ElementKeeps, HasProperty, IsPropertyList, Owns, is_element_file, label_of}
use Rattle.store_check.specs.Elements.{AreItsProperties, IsInUse}
use Rattle.record_lists.specs.Heads.{AmongHeads, AtHead, HeadKeeps, IsOnce, IsTwice}
use Rattle.store_check.specs.Listing.{AreListed, IsHadTwice, IsOfFile}
use Rattle.record_lists.specs.Seen.{is_seen}
use Rattle.record_lists.proofs.LiveLaws.{live_below}

module _ (records : Records) (heads : ElementHeads) (known : is_element_file heads.file ≡ true) where
  abbrev pub Has : ℕ → Type 0
  Has = IsInUse heads records

  abbrev pub Lists : ℕ → List ℕ → Type 0
  Lists = AreItsProperties heads records

  keeps_list : (x : ℕ) → HeadKeeps Has Lists x → (first : ℕ) → Owns records heads.file x first → (members : List ℕ) × IsPropertyList records first members
  keeps_list x h first own =
      let o = owns_is records x heads.file first own in
      let l = h.list o.live in
      (l.0, subst (λ f. IsPropertyList records f l.0) (sym o.first_is) l.1)

  pub element_head : (x : ℕ) → ElementKeeps records heads.file x → HeadKeeps Has Lists x
  element_head x k = record { list = λ live. k.list (property_from records heads.file x) (owner_of records x heads.file known live) }

  pub head_element : (x : ℕ) → HeadKeeps Has Lists x → (is_live records heads.file x ≡ true → label_of records heads.file x < high records format.names_file)
      → ElementKeeps records heads.file x
  head_element x h named = record { list = keeps_list x h; named = named }

  at_has : (x p : ℕ) → AtHead Has Lists x p → HasProperty records heads.file x p
  at_has x p a = record {
    first = property_from records heads.file x;
    owns = owner_of records x heads.file known a.must;
    among = record {
      members = a.items;
      list = a.listed;
      member = a.member;
    };
  }

  has_at : (x p : ℕ) → HasProperty records heads.file x p → AtHead Has Lists x p
  has_at x p h =
      let o = owns_is records x heads.file h.first h.owns in
      record {
        must = o.live;
        items = h.among.members;
        listed = subst (λ f. IsPropertyList records f h.among.members) o.first_is h.among.list;
        member =
            h.among.member;
      }

  has_low : (x p : ℕ) → HasProperty records heads.file x p → x < high records heads.file
  has_low x p h = let o = owns_is records x heads.file h.first h.owns in live_below records heads.file x o.live

  pub had_twice : (n : ℕ) (old : List Bool) (p : ℕ) → IsTwice Has Lists n old p → IsHadTwice records heads.file old p
  had_twice n old p t = record {
    element = t.head;
    has = at_has t.head p t.here;
    before = ⊎_elim (λ m. inl m) (λ (a : AmongHeads Has Lists t.head p). inr (a.id, a.below, at_has a.id p a.here)) t.before;
  }

  pub are_listed : (n : ℕ) (old new : List Bool) → n ≡ high records heads.file
      → ((x : ℕ) → x < n → HeadKeeps Has Lists x) → ((p : ℕ) → Decides (is_seen new p) ((is_seen old p ≡ true) ⊎ AmongHeads Has Lists n p))
      → ((p : ℕ) → IsOnce Has Lists n p) → ((k : ℕ) → k < n → (p : ℕ) → AtHead Has Lists k p → is_seen old p ≡ false)
      → ((x : ℕ) → x < n → is_live records heads.file x ≡ true → label_of records heads.file x < high records format.names_file)
      → AreListed records heads.file old new
  are_listed n old new mark keeps told once fresh named = record {
    keeps = λ x lt. head_element x (keeps x (omega arith)) (named x (omega arith));
    seen = λ p. (
      (λ m. ⊎_elim (λ o. inl o) (λ (a : AmongHeads Has Lists n p). inr (record { element = a.id; has = at_has a.id p a.here })) ((told p).0 m)),
      (λ i. (told p).1 (⊎_elim (λ o. inl o) (λ (f : IsOfFile records heads.file p). let low = has_low f.element p f.has in inr
          (record { id = f.element; below = omega arith; here = has_at f.element p f.has })) i)),
    );
    fresh = λ x p h. let low = has_low x p h in fresh x (omega arith) p (has_at x p h);
    once = λ x y p h k. let a = has_low x p h in let b = has_low y p k in once p x y (omega arith) (omega arith) (has_at x p h) (has_at y p k);
  }
