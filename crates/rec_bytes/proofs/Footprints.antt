-- Laws of what calls write.
use Rattle.std.proofs.Common.{◌≡◌, ◌⊎◌, ℕ, ◌+◌, ◌-◌, ◌≤◌, true, false, Bool, cond, ◌||◌, List, [], ◌∷◌, ◌++◌, sym, ap}
use Rattle.std.proofs.Common.{◌∙◌, subst, inl, inr, ⊎_elim, arith, refl, length-append}
use Rattle.rec_bytes.specs.declared.key.Key.{Key}
use Rattle.rec_bytes.specs.declared.record.Rec.{Rec}
use Rattle.rec_bytes.specs.Key.{key_eq}
use Rattle.rec_bytes.specs.Space.{IsAmong, SameButReads, State, after_get, after_put}
use Rattle.rec_bytes.proofs.KeyLaws.{key_eq_true}
use Rattle.rec_bytes.specs.Footprint.{AreAmong, AreOf, IsSame, Wrote}

among_left : (q : Key) (xs ys : List Key) → IsAmong q xs → IsAmong q (xs ++ ys)
among_left q [] ys i = elim i [ ]
among_left q (x ∷ xs) ys (inl e) = inl e
among_left q (x ∷ xs) ys (inr i) = inr (among_left q xs ys i)

among_right : (q : Key) (xs ys : List Key) → IsAmong q ys → IsAmong q (xs ++ ys)
among_right q [] ys i = i
among_right q (x ∷ xs) ys i = inr (among_right q xs ys i)

among_either : {P : Type 0} (q : Key) (xs ys : List Key) → (IsAmong q xs → P) → (IsAmong q ys → P) → IsAmong q (xs ++ ys) → P
among_either q [] ys left right i = right i
among_either q (x ∷ xs) ys left right (inl e) = left (inl e)
among_either q (x ∷ xs) ys left right (inr i) = among_either q xs ys (λ k. left (inr k)) right i

among_more : (q : Key) (xs ys : List Key) → AreAmong xs ys → IsAmong q xs → IsAmong q ys
among_more q [] ys are i = elim i [ ]
among_more q (x ∷ xs) ys are (inl e) = subst (λ k. IsAmong k ys) (sym e) are.0
among_more q (x ∷ xs) ys are (inr i) = among_more q xs ys are.1 i

of_both : (files : List ℕ) (xs ys : List Key) → AreOf files xs → AreOf files ys → AreOf files (xs ++ ys)
of_both files [] ys a b = b
of_both files (x ∷ xs) ys a b = (a.0, of_both files xs ys a.1 b)

same_then : {s t u : State} (q : Key) → IsSame s t q → IsSame t u q → IsSame s u q
same_then q a b = record { written = b.written ∙ a.written; held = b.held ∙ a.held }

-- only read
pub wrote_none : (s t : State) (keys : List Key) (files : List ℕ) (n : ℕ) → SameButReads s t → Wrote s t keys files n
wrote_none s t keys files n same = record {
  others = [];
  few = omega arith;
  own = tt;
  each = λ q. inl (record { written = ap (λ (z : State). z.written q) same; held = ap (λ (z : State). z.records q) same });
}

-- a record was put
pub wrote_put : (s t : State) (key : Key) (rec : Rec) → t ≡ after_put s key rec → Wrote s t (key ∷ []) [] 0
wrote_put s t key rec is = record { others = []; few = omega arith; own = tt; each = λ q. by q (key_eq q key) refl }
  where
    by : (q : Key) (b : Bool) → key_eq q key ≡ b → IsSame s t q ⊎ IsAmong q (key ∷ [])
    by q true e = inr (inl (key_eq_true q key e))
    by q false e = inl (record {
      written = ap (λ (z : State). z.written q) is ∙ ap (λ (d : Bool). d || s.written q) e;
      held = ap (λ (z : State). z.records q) is ∙ ap (λ (d : Bool). cond d rec (s.records q)) e;
    })

-- a record was read, and put again
pub wrote_edit : (s t : State) (key : Key) (rec : Rec) → t ≡ after_put (after_get s) key rec → Wrote s t (key ∷ []) [] 0
wrote_edit s t key rec is =
    let w = wrote_put (after_get s) t key rec is in
    record { others = w.others; few = w.few; own = w.own; each = λ q. ⊎_elim (λ e. inl (record { written = e.written; held = e.held })) inr (w.each q) }

-- a call that touches fixed records alone is within each footprint that has them
pub wrote_fixed : (s t : State) (xs ys : List Key) (files : List ℕ) (m : ℕ) → Wrote s t xs [] 0 → AreAmong xs ys → Wrote s t ys files m
wrote_fixed s t xs ys files m w are = record {
  others = [];
  few = omega arith;
  own = tt;
  each = λ q. ⊎_elim inl (λ i. inr (among_either q w.others xs (λ k. none q w.others w.own k) (λ k. among_more q xs ys are k) i)) (w.each q);
}
  where
    none : {P : Type 0} (q : Key) (others : List Key) → AreOf [] others → IsAmong q others → P
    none q [] own i = elim i [ ]
    none q (x ∷ xs) own i = absurd cc

-- more of the same files
pub wrote_within : (s t : State) (xs ys : List Key) (files : List ℕ) (n m : ℕ) → Wrote s t xs files n → AreAmong xs ys → n ≤ m → Wrote s t ys files m
wrote_within s t xs ys files n m w are le = record {
  others = w.others;
  few = let f = w.few in omega arith;
  own = w.own;
  each = λ q. ⊎_elim inl (λ i. inr (among_either q w.others xs (λ k. among_left q w.others ys k) (λ k. among_right q w.others ys (among_more q xs ys are k)) i))
      (w.each q);
}

-- a call, and then others
pub wrote_then : (s t u : State) (xs ys : List Key) (files : List ℕ) (n m : ℕ) → Wrote s t xs files n → AreAmong xs ys → n ≤ m → Wrote t u ys files (m - n)
    → Wrote s u ys files m
wrote_then s t u xs ys files n m w are le v = record {
  others = w.others ++ v.others;
  few = let f = w.few in let g = v.few in omega (arith, length-append w.others v.others);
  own = of_both files w.others v.others w.own v.own;
  each = λ q. ⊎_elim
      (λ same. ⊎_elim (λ also. inl (same_then q same also)) (λ i. inr (among_either q v.others ys (λ k. among_left q (w.others ++ v.others) ys
      (among_right q w.others v.others k)) (λ k. among_right q (w.others ++ v.others) ys k) i)) (v.each q))
      (λ i. inr (among_either q w.others xs (λ k. among_left q (w.others ++ v.others) ys (among_left q w.others v.others k))
      (λ k. among_right q (w.others ++ v.others) ys (among_more q xs ys are k)) i)) (w.each q);
}

-- a read, and then others
pub wrote_later : (s t u : State) (ys : List Key) (files : List ℕ) (m : ℕ) → SameButReads s t → Wrote t u ys files m → Wrote s u ys files m
wrote_later s t u ys files m same v = record {
  others = v.others;
  few = v.few;
  own = v.own;
  each = λ q. ⊎_elim (λ e. inl (record { written = e.written ∙ ap (λ (z : State). z.written q) same; held = e.held ∙ ap (λ (z : State). z.records q) same }))
      inr (v.each q);
}

pub ruleset writing = (wrote_none, wrote_put, wrote_edit, wrote_fixed, wrote_within, wrote_then, wrote_later)
