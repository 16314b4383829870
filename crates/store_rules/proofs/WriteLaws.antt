-- How many records became written, call after call.
use Rattle.std.specs.List.{list_any}
use Rattle.std.proofs.Common.{◌≡◌, ℕ, ◌+◌, ◌≤◌, nat_eq, Bool, true, false, ◌||◌, List, [], ◌∷◌, ◌++◌, length, map, ap}
use Rattle.std.proofs.Common.{◌∙◌, subst, inl, inr, ⊎_elim, arith, refl}
use Rattle.std.proofs.lemmas.Bool.Decides.{nat_tests}
use Rattle.std.proofs.lemmas.List.{length-append}
use Rattle.rec_bytes.specs.declared.key.Key.{Key}
use Rattle.rec_bytes.specs.RecordFiles.{is_meta_file, meta_files, meta_key_of}
use Rattle.rec_bytes.specs.Space.{IsAmong, SameButReads, State, WritesOnly}
use Rattle.store_rules.specs.Writes.{AreOwn, WritesAtMost, WritesBeside, meta_keys}

-- ---- lists of keys
pub among_left : (q : Key) (xs ys : List Key) → IsAmong q xs → IsAmong q (xs ++ ys)
among_left q [] ys i = absurd i
among_left q (x ∷ xs) ys i = ⊎_elim (λ e. inl e) (λ j. inr (among_left q xs ys j)) i

pub among_right : (q : Key) (xs ys : List Key) → IsAmong q ys → IsAmong q (xs ++ ys)
among_right q [] ys i = i
among_right q (x ∷ xs) ys i = inr (among_right q xs ys i)

pub among_both : {P : Type 0} (q : Key) (xs ys : List Key) → (IsAmong q xs → P) → (IsAmong q ys → P) → IsAmong q (xs ++ ys) → P
among_both q [] ys left right i = right i
among_both q (x ∷ xs) ys left right i = ⊎_elim (λ e. left (inl e)) (λ j. among_both q xs ys (λ k. left (inr k)) right j) i

own_both : (xs ys : List Key) → AreOwn xs → AreOwn ys → AreOwn (xs ++ ys)
own_both [] ys a b = b
own_both (x ∷ xs) ys a b = (a.0, own_both xs ys a.1 b)

same_number : (a b : ℕ) → nat_eq a b ≡ true → a ≡ b
same_number a b e = grind (arith, nat_tests)

-- the meta record of a file of the list is among those of its files
among_listed : (file : ℕ) (q : Key) → q ≡ meta_key_of file → (files : List ℕ) → list_any (nat_eq file) files ≡ true → IsAmong q (map meta_key_of files)
among_listed file q e [] h = absurd cc
among_listed file q e (first ∷ later) h = by (nat_eq file first) refl h (λ k. among_listed file q e later k)
  where
    by : (b : Bool) → nat_eq file first ≡ b → (b || list_any (nat_eq file) later) ≡ true
        → (list_any (nat_eq file) later ≡ true → IsAmong q (map meta_key_of later)) → IsAmong q (map meta_key_of (first ∷ later))
    by true same k rest = inl (e ∙ ap meta_key_of (same_number file first same))
    by false same k rest = inr (rest k)

pub among_metas : (file : ℕ) (q : Key) → is_meta_file file ≡ true → q ≡ meta_key_of file → IsAmong q meta_keys
among_metas file q is e = among_listed file q e meta_files is

-- ---- the counts

-- nothing was written where records were only read
pub none_written : (s t : State) → SameButReads s t → WritesAtMost 0 s t
none_written s t same = record {
  keys = [];
  few = omega arith;
  own = tt;
  only = record { each = λ q w. inl (subst (λ (z : State). z.written q ≡ true) same w) };
}

-- these keys, and meta records
pub some_written : (s t : State) (keys xs : List Key) → AreOwn keys → ((q : Key) → IsAmong q xs → IsAmong q (keys ++ meta_keys)) → WritesOnly s t xs
    → WritesAtMost (length keys) s t
some_written s t keys xs own are h = record {
  keys = keys;
  few = omega arith;
  own = own;
  only = record {
    each = λ q w. ⊎_elim (λ old. inl old)
        (λ i. inr (are q i)) (h.each q w);
  };
}

pub more_written : {n m : ℕ} {s t : State} → n ≤ m → WritesAtMost n s t → WritesAtMost m s t
more_written le h = record { keys = h.keys; few = let f = h.few in omega arith; own = h.own; only = h.only }

-- calls one after the other
pub then_written : {n m : ℕ} {s t u : State} → WritesAtMost n s t → WritesAtMost m t u → WritesAtMost (n + m) s u
then_written h k = record {
  keys = h.keys ++ k.keys;
  few = let a = h.few in let b = k.few in omega (arith, length-append h.keys k.keys);
  own = own_both h.keys k.keys h.own k.own;
  only = record {
    each = λ q w. ⊎_elim
        (λ old. ⊎_elim (λ older. inl older) (λ i. inr (among_both q h.keys meta_keys (λ j. among_left q (h.keys ++ k.keys) meta_keys
        (among_left q h.keys k.keys j)) (among_right q (h.keys ++ k.keys) meta_keys) i)) (h.only.each q old))
        (λ i. inr (among_both q k.keys meta_keys (λ j. among_left q (h.keys ++ k.keys) meta_keys (among_right q h.keys k.keys j))
        (among_right q (h.keys ++ k.keys) meta_keys) i)) (k.only.each q w);
  };
}

-- ---- besides one record

pub this_written : (key : Key) (s t : State) (xs : List Key) → ((q : Key) → IsAmong q xs → IsAmong q (key ∷ meta_keys)) → WritesOnly s t xs
    → WritesBeside key 0 s t
this_written key s t xs are h = record {
  keys = [];
  few = omega arith;
  own = tt;
  only = record {
    each = λ q w. ⊎_elim (λ old. inl old) (λ i. inr (are q i))
        (h.each q w);
  };
}

pub beside_more : {key : Key} {n m : ℕ} {s t : State} → n ≤ m → WritesBeside key n s t → WritesBeside key m s t
beside_more le h = record { keys = h.keys; few = let f = h.few in omega arith; own = h.own; only = h.only }

pub beside_then : {key : Key} {n m : ℕ} {s t u : State} → WritesBeside key n s t → WritesBeside key m t u → WritesBeside key (n + m) s u
beside_then {key} h k = record {
  keys = h.keys ++ k.keys;
  few = let a = h.few in let b = k.few in omega (arith, length-append h.keys k.keys);
  own = own_both h.keys k.keys h.own k.own;
  only = record {
    each = λ q w. ⊎_elim
        (λ old. ⊎_elim (λ older. inl older)
        (λ i. inr (⊎_elim (λ e. inl e) (λ l. inr (among_both q h.keys meta_keys (λ j. among_left q (h.keys ++ k.keys) meta_keys
        (among_left q h.keys k.keys j)) (among_right q (h.keys ++ k.keys) meta_keys) l)) i)) (h.only.each q old))
        (λ i. inr (⊎_elim (λ e. inl e) (λ l. inr (among_both q k.keys meta_keys (λ j. among_left q (h.keys ++ k.keys) meta_keys (among_right q h.keys k.keys j))
        (among_right q (h.keys ++ k.keys) meta_keys) l)) i)) (k.only.each q w);
  };
}

pub beside_written : {key : Key} {n : ℕ} {s t : State} → is_meta_file key.file ≡ true → WritesBeside key n s t → WritesAtMost (1 + n) s t
beside_written {key} own h = record { keys = key ∷ h.keys; few = let f = h.few in omega arith; own = (own, h.own); only = h.only }

-- this one, these keys, and meta records
pub these_written : (key : Key) (s t : State) (keys xs : List Key) → AreOwn keys → ((q : Key) → IsAmong q xs → IsAmong q (key ∷ keys ++ meta_keys))
    → WritesOnly s t xs → WritesBeside key (length keys) s t
these_written key s t keys xs own are h = record {
  keys = keys;
  few = omega arith;
  own = own;
  only = record {
    each = λ q w. ⊎_elim (λ old. inl old)
        (λ i. inr (are q i)) (h.each q w);
  };
}

pub none_beside : (key : Key) (s t : State) → SameButReads s t → WritesBeside key 0 s t
none_beside key s t same = record {
  keys = [];
  few = omega arith;
  own = tt;
  only = record {
    each = λ q w. inl (subst (λ (z : State). z.written q ≡ true) same w);
  };
}
