-- What changes leave of the records, one after the other.
use Rattle.std.specs.Prelude.{Result, Ok, Err, OnOk}
use Rattle.std.proofs.Common.{◌≡◌, ◌∙◌, ℕ, List, [], ◌∷◌, ◌++◌, append_assoc, sym, ap, subst, refl}
use Rattle.plain_graph.specs.Mutations.{new_element, new_elements}
use Rattle.plain_graph.specs.Reply.{Reply}
use Rattle.plain_graph.specs.declared.command.Command.{Command}
use Rattle.plain_graph.specs.declared.item.Item.{Item}
use Rattle.store_rules.specs.Views.{Records}
use Rattle.store_rules.proofs.RowLaws.{append_none}
use Rattle.graph_ops.specs.ChangeLeft.{LeavesChange, LeavesEach}

-- both where there is an answer
pub on_ok_both : {T E : Type 0} (r : Result T E) (P Q : Type 0) → OnOk r P → OnOk r Q → OnOk r (P × Q)
on_ok_both (Ok x) P Q p q = (p, q)
on_ok_both (Err e) P Q p q = tt

pub leaves_one : (command : Command) (reply : Reply) (s t : Records) (names : List (List ℕ)) → LeavesChange command reply s t names
    → LeavesEach (command ∷ []) (reply ∷ []) s t names
leaves_one command reply s t names left = (reply, [], t, names, [], refl, sym (append_none names), left, (refl, refl))

pub leaves_then : (xs ys : List Command) (rs ts : List Reply) (s t u : Records) (m n rest : List (List ℕ)) → n ≡ m ++ rest → LeavesEach xs rs s t m
    → LeavesEach ys ts t u n → LeavesEach (xs ++ ys) (rs ++ ts) s u n
leaves_then [] ys rs ts s t u m n rest is one other =
    subst (λ (l : List Reply). LeavesEach ys (l ++ ts) s u n) (sym one.0) (subst (λ (r : Records). LeavesEach ys ts r u n) one.1 other)
leaves_then (command ∷ later) ys rs ts s t u m n rest is one other = (
  one.0,
  one.1 ++ ts,
  one.2,
  one.3,
  one.4 ++ rest,
  ap (λ (l : List Reply). l ++ ts) one.5,
  is ∙ ap (λ (l : List (List ℕ)). l ++ rest) one.6 ∙ append_assoc one.3 one.4 rest,
  one.7,
  leaves_then later ys one.1 ts one.2 t u m n rest is one.8 other,
)

-- the elements that they made
pub elements_then : (xs ys : List Command) (rs ts : List Reply) (s t : Records) (names : List (List ℕ)) → LeavesEach xs rs s t names
    → new_elements (xs ++ ys) (rs ++ ts) ≡ new_elements xs rs ++ new_elements ys ts
elements_then [] ys rs ts s t names left = ap (λ (l : List Reply). new_elements ys (l ++ ts)) left.0
elements_then (command ∷ later) ys rs ts s t names left =
    let head = new_element command left.0 in
    ap (λ (l : List Reply). new_elements (command ∷ later ++ ys) (l ++ ts)) left.5
    ∙ ap (λ (l : List Item). head ++ l) (elements_then later ys left.1 ts left.2 t names left.8)
    ∙ sym (append_assoc head (new_elements later left.1) (new_elements ys ts))
    ∙ ap (λ (l : List Reply). new_elements (command ∷ later) l ++ new_elements ys ts) (sym left.5)
