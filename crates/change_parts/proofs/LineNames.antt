-- The names of a line, one after the other.
use Rattle.std.specs.Cmp.Lexicographic.{pointwise}
use Rattle.std.specs.List.{list_any}
use Rattle.std.specs.Prelude.{Contains}
use Rattle.std.proofs.Common.{◌≡◌, ◌≢◌, ℕ, suc, ◌+◌, ◌-◌, ◌<◌, ◌≤◌, nat_eq, Bool, true, false, List, [], ◌∷◌, ◌++◌}
use Rattle.std.proofs.Common.{length, take, drop, sym, ap, ◌∙◌, subst, inl, inr, ⊎_elim, append_assoc, arith, refl}
use Rattle.std.proofs.Math.Seq.{drop-cons}
use Rattle.std.proofs.lemmas.List.{length-append, map-append, take-append-drop, take_more}
use Rattle.plain_graph.specs.Graph.{NeedsNames, UsesName, UsesNames}
use Rattle.plain_graph.specs.Names.{IsShortName}
use Rattle.plain_graph.specs.Properties.{keys_in}
use Rattle.plain_graph.specs.Refusals.{most_names}
use Rattle.plain_graph.specs.declared.pairs.Pair.{Pair}
use Rattle.plain_graph.specs.declared.value.Value.TheVariants as values
use Rattle.name_store.specs.Names.{AreHeldNames}
use Rattle.name_store.proofs.HeldTexts.{Contains-list_any, list_any-Contains}
use Rattle.name_store.proofs.KeptNames.{AreHeldNames-push}
use Rattle.change_parts.specs.Assigning.{LacksNames, pair_at}

-- ---- one name

-- the names after a name are one list
pub name_once : (a : List (List ℕ)) (x : List ℕ) (b c : List (List ℕ)) → UsesName a x b → UsesName a x c → b ≡ c
name_once a x b c h k = ⊎_elim
    (λ (i : Contains a x × (b ≡ a)). ⊎_elim (λ (j : Contains a x × (c ≡ a)). i.1 ∙ sym j.1) (λ (j : (¬ Contains a x) × (c ≡ a ++ x ∷ [])). absurd (j.0 i.0)) k)
    (λ (i : (¬ Contains a x) × (b ≡ a ++ x ∷ [])). ⊎_elim (λ (j : Contains a x × (c ≡ a)). absurd (i.0 j.0)) (λ (j : (¬ Contains a x) × (c ≡ a ++ x ∷ [])). i.1
    ∙ sym j.1) k) h

-- there is one after each name
some_name : (a : List (List ℕ)) (x : List ℕ) → (b : List (List ℕ)) × UsesName a x b
some_name a x = by (list_any (pointwise nat_eq x) a) (λ e. Contains-list_any a x e) (λ e h. clash (sym e ∙ list_any-Contains a x h))
  where
    clash : false ≡ true → ⊥
    clash e = cc

    by : (b : Bool) → (b ≡ true → Contains a x) → (b ≡ false → ¬ Contains a x) → (new : List (List ℕ)) × UsesName a x new
    by true has lacks = (a, inl (has refl, refl))
    by false has lacks = (a ++ x ∷ [], inr (lacks refl, refl))

pub name_prefix : (a : List (List ℕ)) (x : List ℕ) (b : List (List ℕ)) → UsesName a x b → (rest : List (List ℕ)) × (b ≡ a ++ rest)
name_prefix a x b h = ⊎_elim (λ (i : Contains a x × (b ≡ a)). ([], i.1 ∙ sym (nil a))) (λ (i : (¬ Contains a x) × (b ≡ a ++ x ∷ [])). (x ∷ [], i.1)) h
  where
    nil : (xs : List (List ℕ)) → xs ++ [] ≡ xs
    nil [] = refl
    nil (y ∷ ys) = ap (λ l. y ∷ l) (nil ys)

pub name_long : (a : List (List ℕ)) (x : List ℕ) (b : List (List ℕ)) → UsesName a x b → length a ≤ length b
name_long a x b h = let p = name_prefix a x b h in let n = ap length p.1 in omega (arith, length-append a p.0)

-- names that are kept stay such where there is room for one more
pub held_name : (a : List (List ℕ)) (x : List ℕ) (b : List (List ℕ)) → AreHeldNames a → UsesName a x b → IsShortName x
    → (¬ Contains a x → length a ≢ most_names) → AreHeldNames b
held_name a x b held uses short room = ⊎_elim
    (λ (i : Contains a x × (b ≡ a)). subst AreHeldNames (sym i.1) held)
    (λ (i : (¬ Contains a x) × (b ≡ a ++ x ∷ [])). let few = held.few in let ne = room i.0 in subst AreHeldNames (sym i.1) (AreHeldNames-push a x held short i.0
    (omega arith))) uses

-- ---- the names of a line

pub uses_once : (a : List (List ℕ)) (xs b c : List (List ℕ)) → UsesNames a xs b → UsesNames a xs c → b ≡ c
uses_once a [] b c h k = h ∙ sym k
uses_once a (x ∷ xs) b c h k = uses_once k.0 xs b c (subst (λ z. UsesNames z xs b) (name_once a x h.0 k.0 h.1 k.1) h.2) k.2

-- there are some after each line
pub some_names : (a xs : List (List ℕ)) → (b : List (List ℕ)) × UsesNames a xs b
some_names a [] = (a, refl)
some_names a (x ∷ xs) = let one = some_name a x in let rest = some_names one.0 xs in (rest.0, (one.0, one.1, rest.1))

uses_both : (a xs b ys c : List (List ℕ)) → UsesNames a xs b → UsesNames b ys c → UsesNames a (xs ++ ys) c
uses_both a [] b ys c h k = subst (λ z. UsesNames z ys c) h k
uses_both a (x ∷ xs) b ys c h k = (h.0, h.1, uses_both h.0 xs b ys c h.2 k)

pub uses_prefix : (a xs b : List (List ℕ)) → UsesNames a xs b → (rest : List (List ℕ)) × (b ≡ a ++ rest)
uses_prefix a [] b h = ([], h ∙ sym (nil a))
  where
    nil : (ys : List (List ℕ)) → ys ++ [] ≡ ys
    nil [] = refl
    nil (y ∷ ys) = ap (λ l. y ∷ l) (nil ys)
uses_prefix a (x ∷ xs) b h =
    let one = name_prefix a x h.0 h.1 in
    let rest = uses_prefix h.0 xs b h.2 in
    (one.0 ++ rest.0, rest.1 ∙ ap (λ l. l ++ rest.0) one.1 ∙ append_assoc a one.0 rest.0)

pub uses_long : (a xs b : List (List ℕ)) → UsesNames a xs b → length a ≤ length b
uses_long a xs b h = let p = uses_prefix a xs b h in let n = ap length p.1 in omega (arith, length-append a p.0)

pub needs_names : (a xs b : List (List ℕ)) → UsesNames a xs b → NeedsNames a xs (length b - length a)
needs_names a xs b h = (b, h, let le = uses_long a xs b h in omega arith)

-- ---- the keys of pairs

pub keys_more : (pairs : List Pair) (i : ℕ) → i < length pairs → keys_in (take (i + 1) pairs) ≡ keys_in (take i pairs) ++ (pair_at pairs i).key ∷ []
keys_more pairs i lt = ap keys_in (take_more pairs i (record { key = []; value = values.Text [] }) lt)
    ∙ map-append (λ (p : Pair). p.key) (take i pairs) (pair_at pairs i ∷ [])

pub uses_more : (a : List (List ℕ)) (pairs : List Pair) (i : ℕ) (b c : List (List ℕ)) → i < length pairs → UsesNames a (keys_in (take i pairs)) b
    → UsesName b (pair_at pairs i).key c → UsesNames a (keys_in (take (i + 1) pairs)) c
uses_more a pairs i b c lt h k = subst (λ l. UsesNames a l c) (sym (keys_more pairs i lt))
    (uses_both a (keys_in (take i pairs)) b ((pair_at pairs i).key ∷ []) c h (c, k, refl))

-- the keys up to a place and those from there on
keys_split : (pairs : List Pair) (i : ℕ) → i < length pairs → keys_in pairs ≡ keys_in (take i pairs) ++ (pair_at pairs i).key ∷ keys_in (drop (i + 1) pairs)
keys_split pairs i lt =
    ap keys_in (sym (take-append-drop i pairs) ∙ ap (λ l. take i pairs ++ l) (drop-cons pairs i (record { key = []; value = values.Text [] }) lt ∙ ap
    (λ n. pair_at pairs i ∷ drop n pairs) (next i)))
    ∙ map-append (λ (p : Pair). p.key) (take i pairs) (pair_at pairs i ∷ drop (i + 1) pairs)
  where
    next : (n : ℕ) → suc n ≡ n + 1
    next n = omega arith

-- where there are as many names as there may be, a key that is none of them is too many
pub key_lacks : (a : List (List ℕ)) (pairs : List Pair) (i : ℕ) (b : List (List ℕ)) → i < length pairs → UsesNames a (keys_in (take i pairs)) b
    → length b ≡ most_names → ¬ Contains b (pair_at pairs i).key → LacksNames a (keys_in pairs)
key_lacks a pairs i b lt h full lacks =
    let x = (pair_at pairs i).key in
    let rest = some_names (b ++ x ∷ []) (keys_in (drop (i + 1) pairs)) in (
      rest.0,
      subst (λ l. UsesNames a l rest.0) (sym (keys_split pairs i lt)) (uses_both a (keys_in (take i pairs)) b (x ∷ keys_in (drop (i + 1) pairs)) rest.0 h
          (b ++ x ∷ [], inr (lacks, refl), rest.1)),
      let le = uses_long (b ++ x ∷ []) (keys_in (drop (i + 1) pairs)) rest.0 rest.1 in omega (arith, length-append b (x ∷ [])),
    )

-- so is a first name, before a line of others
pub first_lacks : (a : List (List ℕ)) (x : List ℕ) (xs : List (List ℕ)) → length a ≡ most_names → ¬ Contains a x → LacksNames a (x ∷ xs)
first_lacks a x xs full lacks =
    let rest = some_names (a ++ x ∷ []) xs in
    (rest.0, (a ++ x ∷ [], inr (lacks, refl), rest.1), let le = uses_long (a ++ x ∷ []) xs rest.0 rest.1 in omega (arith, length-append a (x ∷ [])))
