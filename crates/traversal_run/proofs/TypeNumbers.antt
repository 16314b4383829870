-- The numbers of the types that a hop names.
use Rattle.std.proofs.Common.{◌≡◌, ◌<◌, ◌+◌, ℕ, suc, zero, Bool, true, false, ◌||◌, Option, None, Some, List, [], ◌∷◌}
use Rattle.std.proofs.Common.{◌++◌, length, take, get_or, nat_eq, All, refl, sym, ap, ◌∙◌, subst, arith}
use Rattle.std.specs.Prelude.{IfSome}
use Rattle.std.specs.List.{cons_option, list_any}
use Rattle.std.proofs.lemmas.List.{append-nil}
use Rattle.std.proofs.lemmas.List.Elements.{All-push}
use Rattle.std.proofs.lemmas.List.Folds.{list_any-append, list_any_more}
use Rattle.plain_graph.specs.Values.{is_text}
use Rattle.store_rules.specs.Views.{Records}
use Rattle.traversal_run.specs.Naming.{FindsName, FindsNames, is_found, name_at, name_count}
use Rattle.traversal_run.specs.Hopping.{AreTypeNumbers}

pub all_none : (P : ℕ → Type 0) → All P []
all_none P = λ k d lt. absurd (omega arith)

all_one : (P : ℕ → Type 0) (number : ℕ) → P number → All P (number ∷ [])
all_one P number holds zero d lt = holds
all_one P number holds (suc k) d lt = absurd (omega arith)

-- one that names a type of the store
pub one_named : (s : Records) (number : ℕ) (text : List ℕ) → FindsName s (Some number) text → number < name_count s → AreTypeNumbers s (number ∷ []) (text ∷ [])
one_named s number text finds lt = record {
  finds = λ other below. ap (λ b. b || false) (finds other below);
  below = all_one (λ n. n < name_count s) number lt;
  none = λ is. absurd (clash is);
}
  where
    clash : number ∷ [] ≡ [] → ⊥
    clash e = cc

-- one that names a type that the store doesn't have
pub one_unknown : (s : Records) (text : List ℕ) → FindsName s None text → FindsNames s [] (text ∷ [])
one_unknown s text finds = λ other below. ap (λ b. b || false) (finds other below)

pub one_text : (text : List ℕ) → ¬ (text ∷ [] ≡ [])
one_text text e = cc

-- ---- one text more

or_false : (b : Bool) → b || false ≡ b
or_false true = refl
or_false false = refl

any_found : (found : Option ℕ) (number : ℕ) → list_any (nat_eq number) (cons_option found []) ≡ is_found found number
any_found None number = refl
any_found (Some one) number = or_false (nat_eq number one)

pub numbers_more : (s : Records) (numbers : List ℕ) (texts : List (List ℕ)) (i : ℕ) (text : List ℕ) (found : Option ℕ) → i < length texts
    → text ≡ get_or texts i text → FindsName s found text → FindsNames s numbers (take i texts)
    → FindsNames s (numbers ++ cons_option found []) (take (i + 1) texts)
numbers_more s numbers texts i text found lt is finds before = λ number low.
    let here : list_any (nat_eq number) (cons_option found []) ≡ is_text (get_or texts i text) (name_at s number)
    = any_found found number ∙ finds number low ∙ ap (λ (other : List ℕ). is_text other (name_at s number)) is in
    list_any-append (nat_eq number) numbers (cons_option found []) ∙ (λ j. before number low j || here j)
    ∙ sym (list_any_more (λ (other : List ℕ). is_text other (name_at s number)) texts i text lt)

pub all_found : (P : ℕ → Type 0) (numbers : List ℕ) (found : Option ℕ) → All P numbers → IfSome found P → All P (numbers ++ cons_option found [])
all_found P numbers None all has = subst (All P) (sym (append-nil numbers)) all
all_found P numbers (Some one) all has = All-push P numbers one all has
