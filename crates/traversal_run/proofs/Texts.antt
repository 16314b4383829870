-- Texts that are met one after the other, each taken once.
use Rattle.std.proofs.Common.{◌≡◌, ◌<◌, ◌+◌, ℕ, Bool, true, false, not, ◌||◌, cond, nat_eq, List, [], ◌∷◌, ◌++◌, Vec}
use Rattle.std.proofs.Common.{length, drop, get_or, drop-cons, add-one, append_assoc, refl, sym, ap, ◌∙◌}
use Rattle.std.specs.List.{list_any}
use Rattle.std.specs.Cmp.Lexicographic.{pointwise}
use Rattle.std.specs.declared.alloc.Global.{Global}
use Rattle.std.proofs.lemmas.List.Folds.{list_any-append}
use Rattle.std.proofs.lemmas.Map.Text.{is_eq-slice_cmp}
use Rattle.indexmap.specs.IndexSet.{insert_key}
use Rattle.name_store.proofs.HeldTexts.{known-insert_key, new-insert_key, same_name}
use Rattle.plain_graph.specs.Meaning.{texts_once}
use Rattle.plain_graph.specs.Values.{is_text}
use Rattle.traversal_run.specs.TextSet.{bytes_of}

-- texts are the same by their bytes
pub is_text-pointwise : (a b : List ℕ) → is_text a b ≡ pointwise nat_eq a b
is_text-pointwise a b = is_eq-slice_cmp a b

-- a set has a text as its list has it
pub list_any-bytes_of : (texts : List (Vec ℕ Global)) (text : Vec ℕ Global)
    → list_any (pointwise nat_eq text.items) (bytes_of texts) ≡ list_any (same_name text) texts
list_any-bytes_of [] text = refl
list_any-bytes_of (other ∷ texts) text = ap (λ b. pointwise nat_eq text.items other.items || b) (list_any-bytes_of texts text)

-- and takes it at its end where it hasn't
pub bytes_of-insert_key : (texts : List (Vec ℕ Global)) (text : Vec ℕ Global) (is_new : Bool) → is_new ≡ not (list_any (same_name text) texts)
    → bytes_of (insert_key same_name texts text) ≡ cond is_new (bytes_of texts ++ text.items ∷ []) (bytes_of texts)
bytes_of-insert_key texts text true is = (new-insert_key texts text true is refl).1
bytes_of-insert_key texts text false is = (known-insert_key texts text false is refl).1

-- ---- texts taken once

-- of the texts seen, only which they are counts
texts_once-seen : (seen other : List (List ℕ)) (texts : List (List ℕ)) → ((text : List ℕ) → list_any (is_text text) seen ≡ list_any (is_text text) other)
    → texts_once seen texts ≡ texts_once other texts
texts_once-seen seen other [] same = refl
texts_once-seen seen other (text ∷ texts) same =
    let more = texts_once-seen (text ∷ seen) (text ∷ other) texts (λ t. ap (λ b. is_text t text || b) (same t)) in
    λ i. cond (same text i) (texts_once-seen seen other texts same i) (text ∷ more i)

or_swap : (a b : Bool) → a || (b || false) ≡ b || a
or_swap true true = refl
or_swap true false = refl
or_swap false true = refl
or_swap false false = refl

-- one more text
pub texts_once-more : (seen : List (List ℕ)) (text : List ℕ) (texts : List (List ℕ)) (is_new : Bool) → is_new ≡ not (list_any (pointwise nat_eq text) seen)
    → texts_once seen (text ∷ texts) ≡ cond is_new (text ∷ []) [] ++ texts_once (cond is_new (seen ++ text ∷ []) seen) texts
texts_once-more seen text texts is_new is = by (list_any (is_text text) seen) is_new (is ∙ ap not same)
  where
    same : list_any (pointwise nat_eq text) seen ≡ list_any (is_text text) seen
    same = ap (λ p. list_any p seen) (λ i other. sym (is_text-pointwise text other) i)

    by : (b n : Bool) → n ≡ not b → cond b (texts_once seen texts) (text ∷ texts_once (text ∷ seen) texts) ≡ cond n (text ∷ []) [] ++ texts_once
        (cond n (seen ++ text ∷ []) seen) texts
    by true false e = refl
    by false true e = ap (λ rest. text ∷ rest) (texts_once-seen (text ∷ seen) (seen ++ text ∷ []) texts (λ t. sym (list_any-append (is_text t) seen (text ∷ [])
        ∙ or_swap (list_any (is_text t) seen) (is_text t text))))
    by true true e = absurd cc
    by false false e = absurd cc

-- a text of a list taken once, after those before it
pub texts_once-step : (taken now set kept texts all : List (List ℕ)) (i : ℕ) (text any : List ℕ) (is_new : Bool) → i < length texts → text ≡ get_or texts i any
    → is_new ≡ not (list_any (pointwise nat_eq text) set)
    → kept ≡ cond is_new (set ++ text ∷ []) set → now ≡ taken ++ cond is_new (text ∷ []) [] → taken ++ texts_once set (drop i texts) ≡ all
    → now ++ texts_once kept (drop (i + 1) texts) ≡ all
texts_once-step taken now set kept texts all i text any is_new lt at is is_kept is_now before =
    let later = drop (i + 1) texts in
    let rest : drop i texts ≡ text ∷ later = drop-cons texts i any lt ∙ (λ k. sym at k ∷ drop (sym (add-one i) k) texts) in
    (λ k. is_now k ++ texts_once (is_kept k) later)
    ∙ append_assoc taken (cond is_new (text ∷ []) []) (texts_once (cond is_new (set ++ text ∷ []) set) later)
    ∙ ap (λ xs. taken ++ xs) (sym (texts_once-more set text later is_new is))
    ∙ ap (λ xs. taken ++ texts_once set xs) (sym rest)
    ∙ before
