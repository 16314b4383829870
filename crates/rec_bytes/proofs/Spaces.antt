-- Laws of the records of a space, and of what calls leave of it.
use Rattle.std.proofs.Common.{◌≡◌, ◌≢◌, ◌⊎◌, ⊎_elim, inl, inr, ℕ, zero, suc, ◌+◌, ◌<◌, ◌^◌, add-one, Bool, true, false}
use Rattle.std.proofs.Common.{cond, ◌||◌, List, [], ◌∷◌, ◌++◌, Option, Some, None, is_some, unwrap_or, Result, Ok, refl}
use Rattle.std.proofs.Common.{ap, sym, subst, ◌∙◌, arith}
use Rattle.std.specs.Option.{option_or}
use Rattle.rec_bytes.specs.declared.record.Rec.{Rec}
use Rattle.rec_bytes.specs.declared.key.Key.{Key}
use Rattle.rec_bytes.specs.declared.space.SpaceFault.{SpaceFault}
use Rattle.rec_bytes.specs.Key.{key_eq}
use Rattle.rec_bytes.specs.Meta as metas
use Rattle.rec_bytes.specs.RecordFiles.{meta_key_of}
use Rattle.rec_bytes.specs.declared.meta.Meta.{Meta}
use Rattle.rec_bytes.proofs.Metas.{meta_reads_back}
use Rattle.rec_bytes.specs.Pairs.{Pairs, IsOrdered, find_pair, merged, with_pair}
use Rattle.rec_bytes.specs.Space.{HasCause, IsAmong, State, WritesOnly, after_get, after_gets, after_meta, after_put}
use Rattle.rec_bytes.specs.Space.{laid_over, laid_state, marked, meta_in, meta_of, put}
use Rattle.rec_bytes.proofs.KeyLaws.{key_eq-same, key_eq-other, key_eq_true}
use Rattle.rec_bytes.proofs.PairLaws.{find_with, find_merged}

-- a record that was put stands there, and at each other key what stood there
pub put_same : (records : Key → Rec) (key : Key) (rec : Rec) → put records key rec key ≡ rec
put_same records key rec = rw (key_eq-same key) refl

pub put_other : (records : Key → Rec) (key : Key) (rec : Rec) (q : Key) → q ≢ key → put records key rec q ≡ records q
put_other records key rec q ne = rw (key_eq-other q key ne) refl

pub put_other_file : (records : Key → Rec) (key : Key) (rec : Rec) (q : Key) → q.file ≢ key.file → put records key rec q ≡ records q
put_other_file records key rec q ne = put_other records key rec q (λ e. ne (ap (λ (k : Key). k.file) e))

-- what the meta records say stays where another record is put
pub meta_in-put_other : (records : Key → Rec) (key : Key) (rec : Rec) (file : ℕ) → meta_key_of file ≢ key
    → meta_in (put records key rec) file ≡ meta_in records file
meta_in-put_other records key rec file ne = ap (λ (r : Rec). metas.meta_of r) (put_other records key rec (meta_key_of file) ne)

pub meta_of-after_meta : (s : State) (file : ℕ) (meta : Meta) → meta.high < 2 ^ 32 → meta.free < 2 ^ 32 → meta.live < 2 ^ 32
    → meta_of (after_meta s file meta) file ≡ meta
meta_of-after_meta s file meta high free live =
    let old = s.records (meta_key_of file) in
    ap (λ (r : Rec). metas.meta_of r) (put_same s.records (meta_key_of file) (metas.with_meta old meta)) ∙ meta_reads_back old meta high free live

pub meta_of-after_meta_other : (s : State) (file : ℕ) (meta : Meta) (other : ℕ) → other ≢ file → meta_of (after_meta s file meta) other ≡ meta_of s other
meta_of-after_meta_other s file meta other ne =
    meta_in-put_other s.records (meta_key_of file) (metas.with_meta (s.records (meta_key_of file)) meta) other (λ e. ne (ap (λ (k : Key). k.id) e))

-- one of two puts at a key counts, and the order of puts at two keys doesn't
pub put_twice : (records : Key → Rec) (key : Key) (a b : Rec) → put (put records key a) key b ≡ put records key b
put_twice records key a b = λ i q. twice (key_eq q key) a b (records q) i
  where
    twice : (t : Bool) (x y z : Rec) → cond t y (cond t x z) ≡ cond t y z
    twice true x y z = refl
    twice false x y z = refl

-- records that were there are put once more, so nothing changes
pub put_held : (records : Key → Rec) (key : Key) (rec : Rec) → records key ≡ rec → put records key rec ≡ records
put_held records key rec e = λ i q. held q (key_eq q key) (λ t. ap records (key_eq_true q key t) ∙ e) i
  where
    held : (q : Key) (t : Bool) → (t ≡ true → records q ≡ rec) → cond t rec (records q) ≡ records q
    held q true h = sym (h refl)
    held q false h = refl

-- written records over others: one more, and those of another set
pub laid_over-with_pair : (records : Key → Rec) (pairs : Pairs) (key : Key) (rec : Rec)
    → laid_over records (with_pair pairs key rec) ≡ put (laid_over records pairs) key rec
laid_over-with_pair records pairs key rec = λ i q. (ap (λ (o : Option Rec). unwrap_or o (records q)) (find_with pairs key rec q) ∙ same (key_eq q key)
    (find_pair pairs q) (records q)) i
  where
    same : (t : Bool) (o : Option Rec) (below : Rec) → unwrap_or (cond t (Some rec) o) below ≡ cond t rec (unwrap_or o below)
    same true o below = refl
    same false o below = refl

pub laid_over-merged : (records : Key → Rec) (pairs later : Pairs) → IsOrdered later
    → laid_over records (merged pairs later) ≡ laid_over (laid_over records pairs) later
laid_over-merged records pairs later rises = λ i q. (ap (λ (o : Option Rec). unwrap_or o (records q)) (find_merged pairs later q rises) ∙ same
    (find_pair later q) (find_pair pairs q) (records q)) i
  where
    same : (o p : Option Rec) (below : Rec) → unwrap_or (option_or o p) below ≡ unwrap_or o (unwrap_or p below)
    same (Some x) p below = refl
    same None p below = refl

-- a key that isn't among the written ones
pub laid_over-other : (records : Key → Rec) (pairs : Pairs) (key : Key) → find_pair pairs key ≡ None → laid_over records pairs key ≡ records key
laid_over-other records pairs key none = ap (λ (o : Option Rec). unwrap_or o (records key)) none

pub laid_over-at : (records : Key → Rec) (pairs : Pairs) (key : Key) (rec : Rec) → find_pair pairs key ≡ Some rec → laid_over records pairs key ≡ rec
laid_over-at records pairs key rec some = ap (λ (o : Option Rec). unwrap_or o (records key)) some

-- a put to a space of written records over another
pub laid_state-with_pair : (base : State) (pairs : Pairs) (key : Key) (rec : Rec)
    → laid_state base (with_pair pairs key rec) ≡ after_put (laid_state base pairs) key rec
laid_state-with_pair base pairs key rec =
    let records = laid_over-with_pair base.records pairs key rec in
    let written : (q : Key) → is_some (find_pair (with_pair pairs key rec) q) ≡ marked (λ k. is_some (find_pair pairs k)) key q
    = λ q. ap (λ (o : Option Rec). is_some o) (find_with pairs key rec q) ∙ same (key_eq q key) (find_pair pairs q) in
    λ i. record { records = records i; written = λ q. written q i; reads = base.reads; shape = base.shape }
  where
    same : (t : Bool) (o : Option Rec) → is_some (cond t (Some rec) o) ≡ (t || is_some o)
    same true o = refl
    same false o = refl

pub laid_state-put : (base : State) (old new : Pairs) (key : Key) (rec : Rec) → new ≡ with_pair old key rec
    → laid_state base new ≡ after_put (laid_state base old) key rec
laid_state-put base old new key rec e = ap (laid_state base) e ∙ laid_state-with_pair base old key rec

-- reads change no record, and come one by one
pub records-after_gets : (n : ℕ) (s : State) → (after_gets n s).records ≡ s.records
unfolding after_gets
records-after_gets zero s = refl
records-after_gets (suc n) s = records-after_gets n s

pub after_gets-zero : (s : State) → after_gets 0 s ≡ s
unfolding after_gets
after_gets-zero s = refl

pub after_gets_more : (n m : ℕ) (s : State) → m ≡ n + 1 → after_gets m s ≡ after_get (after_gets n s)
unfolding after_gets
after_gets_more n m s e = ap (λ k. after_gets k s) (e ∙ add-one n)

-- a call that went well blames nobody
pub no_blame : {T U : Type 0} (before now : ℕ) (r : Result T SpaceFault) (x : U) → HasCause before now r → HasCause {T = U} before now (Ok x)
no_blame before now r x h = record { later = h.later; disk = search arith }

-- what no step, one step and two steps write
pub writes_none : (old new : State) (keys : List Key) → new.written ≡ old.written → WritesOnly old new keys
writes_none old new keys e = record { each = λ q h. inl (subst (λ (w : Key → Bool). w q ≡ true) e h) }

pub writes_one : (old new : State) (key : Key) → new.written ≡ marked old.written key → WritesOnly old new (key ∷ [])
writes_one old new key e = record { each = λ q h. split q (key_eq q key) (old.written q) (λ t. key_eq_true q key t) (sym (ap (λ (w : Key → Bool). w q) e) ∙ h) }
  where
    split : (q : Key) (t w : Bool) → (t ≡ true → q ≡ key) → (t || w) ≡ true → (w ≡ true) ⊎ IsAmong q (key ∷ [])
    split q true w same h = inr (inl (same refl))
    split q false w same h = inl h

pub writes_more : (old new : State) (ks ls : List Key) → ((q : Key) → IsAmong q ks → IsAmong q ls) → WritesOnly old new ks → WritesOnly old new ls
writes_more old new ks ls more only = record { each = λ q w. ⊎_elim inl (λ m. inr (more q m)) (only.each q w) }

pub writes_then : (a b c : State) (ks ls : List Key) → WritesOnly a b ks → WritesOnly b c ls → WritesOnly a c (ks ++ ls)
writes_then a b c ks ls first then = record {
  each = λ q w. ⊎_elim (λ x. ⊎_elim inl (λ m. inr (among_left q ks ls m)) (first.each q x)) (λ m. inr (among_right q ks ls m)) (then.each q w);
}
  where
    among_left : (q : Key) (ks ls : List Key) → IsAmong q ks → IsAmong q (ks ++ ls)
    among_left q [] ls m = elim m [ ]
    among_left q (k ∷ ks) ls (inl e) = inl e
    among_left q (k ∷ ks) ls (inr m) = inr (among_left q ks ls m)

    among_right : (q : Key) (ks ls : List Key) → IsAmong q ls → IsAmong q (ks ++ ls)
    among_right q [] ls m = m
    among_right q (k ∷ ks) ls m = inr (among_right q ks ls m)
