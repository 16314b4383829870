-- What a word that begins an option looks like, by clap's lexer.
use Rattle.std.proofs.Common.{◌≡◌, ◌⊎◌, ◌∙◌, ◌==◌, ℕ, Bool, true, false, zero, suc, refl, sym, ap, subst, arith, List}
use Rattle.std.proofs.Common.{[], ◌∷◌, ◌++◌, Option, Some, None, inl, inr, cond}
use Rattle.std.specs.Prelude.{option_and_then}
use Rattle.std.proofs.lemmas.Bool.{eqb-true}
use Rattle.clap.specs.Lexer.{long_of, long_of_rest, name_and_value, strip_byte}
use Rattle.clap.proofs.CutLemmas.{Lacks}
use Rattle.clap.proofs.LexerLemmas.{name_and_value-at, name_and_value-without}

-- a text up to its first byte c, and what follows that
pub record Cut (c : ℕ) (text : List ℕ) : Type 0 where
  pub front : List ℕ
  pub back : List ℕ
  pub lacks : Lacks c front
  pub is : text ≡ front ++ c ∷ back

Lacks-cons : (c x : ℕ) (xs : List ℕ) → (x == c) ≡ false → Lacks c xs → Lacks c (x ∷ xs)
Lacks-cons c x xs differs lacks zero low is = let same : (x == c) ≡ true = rw is (refl_test c) in cc
  where
    refl_test : (n : ℕ) → (n == n) ≡ true
    refl_test n = grind arith
Lacks-cons c x xs differs lacks (suc i) low is = lacks i (omega arith) is

cut_at : (c : ℕ) (text : List ℕ) → Lacks c text ⊎ Cut c text
cut_at c [] = inl (λ i low. absurd (omega arith))
cut_at c (x ∷ xs) = go (x == c) refl (cut_at c xs)
  where
    go : (b : Bool) → (x == c) ≡ b → Lacks c xs ⊎ Cut c xs → Lacks c (x ∷ xs) ⊎ Cut c (x ∷ xs)
    go true e rest = inr (record {
      front = [];
      back = xs;
      lacks = λ i low. absurd (omega arith);
      is = ap (λ n. n ∷ xs) (eqb-true x c e);
    })
    go false e (inl lacks) = inl (Lacks-cons c x xs e lacks)
    go false e (inr cut) = inr (record {
      front = x ∷ cut.front;
      back = cut.back;
      lacks = Lacks-cons c x cut.front e cut.lacks;
      is = ap (λ t. x ∷ t) cut.is;
    })

stripped : (c : ℕ) (word rest : List ℕ) → strip_byte c word ≡ Some rest → word ≡ c ∷ rest
stripped c [] rest e = cc
stripped c (x ∷ xs) rest e = go (x == c) refl e
  where
    go : (b : Bool) → (x == c) ≡ b → cond b (Some xs) None ≡ Some rest → (x ∷ xs) ≡ c ∷ rest
    go true is same = let first : x ≡ c = eqb-true x c is in cc
    go false is same = cc

-- the two hyphens of a long option are off
long_rest : (word : List ℕ) (p : List ℕ × Option (List ℕ)) → long_of word ≡ Some p
    → (rest : List ℕ) × (word ≡ 45 ∷ 45 ∷ rest) × (name_and_value rest ≡ p)
long_rest word p e = outer (strip_byte 45 word) refl e
  where
    inner : (first : List ℕ) → word ≡ 45 ∷ first → (o : Option (List ℕ)) → strip_byte 45 first ≡ o → option_and_then long_of_rest o ≡ Some p
        → (rest : List ℕ) × (word ≡ 45 ∷ 45 ∷ rest) × (name_and_value rest ≡ p)
    inner first is None e2 e3 = cc
    inner first is (Some []) e2 e3 = cc
    inner first is (Some (x ∷ xs)) e2 e3 = (x ∷ xs, is ∙ ap (λ t. 45 ∷ t) (stripped 45 first (x ∷ xs) e2), cc)

    outer : (o : Option (List ℕ)) → strip_byte 45 word ≡ o → option_and_then long_of_rest (option_and_then (strip_byte 45) o) ≡ Some p
        → (rest : List ℕ) × (word ≡ 45 ∷ 45 ∷ rest) × (name_and_value rest ≡ p)
    outer None e1 e3 = cc
    outer (Some first) e1 e3 = inner first (stripped 45 word first e1) (strip_byte 45 first) refl e3

-- the word of a long option with a value, and of one without
abbrev pub IsSpelled : List ℕ → List ℕ → Option (List ℕ) → Type 0
IsSpelled word name None = word ≡ 45 ∷ 45 ∷ name
IsSpelled word name (Some value) = word ≡ 45 ∷ 45 ∷ name ++ 61 ∷ value

pub long_of-spelled : (word name : List ℕ) (value : Option (List ℕ)) → long_of word ≡ Some (name, value) → IsSpelled word name value
long_of-spelled word name value e = by (long_rest word (name, value) e)
  where
    by : ((rest : List ℕ) × (word ≡ 45 ∷ 45 ∷ rest) × (name_and_value rest ≡ (name, value))) → IsSpelled word name value
    by (rest, is, parts) = by_cut (cut_at 61 rest)
      where
        by_cut : Lacks 61 rest ⊎ Cut 61 rest → IsSpelled word name value
        by_cut (inl lacks) = let whole : (rest, None) ≡ (name, value) = sym (name_and_value-without rest lacks) ∙ parts in
            let same : rest ≡ name = ap (λ p. p.0) whole in
            let none : None ≡ value = ap (λ p. p.1) whole in
            subst_none none (is ∙ ap (λ t. 45 ∷ 45 ∷ t) same)
          where
            subst_none : None ≡ value → word ≡ 45 ∷ 45 ∷ name → IsSpelled word name value
            subst_none e2 at = subst (λ o. IsSpelled word name o) e2 at
        by_cut (inr cut) = let whole : (cut.front, Some cut.back) ≡ (name, value) =
            sym (ap name_and_value cut.is ∙ name_and_value-at cut.front cut.back cut.lacks) ∙ parts in
            let same : cut.front ≡ name = ap (λ p. p.0) whole in
            let some : Some cut.back ≡ value = ap (λ p. p.1) whole in
            subst_some some (is ∙ ap (λ t. 45 ∷ 45 ∷ t) (cut.is ∙ ap (λ t. t ++ 61 ∷ cut.back) same))
          where
            subst_some : Some cut.back ≡ value → word ≡ 45 ∷ 45 ∷ name ++ 61 ∷ cut.back → IsSpelled word name value
            subst_some e2 at = subst (λ o. IsSpelled word name o) e2 at
