-- The names of a store, and those that are kept of it.
use Rattle.std.proofs.Common.{◌≡◌, ◌<◌, ◌≤◌, ℕ, zero, suc, true, false, nat_eq, None, Some, List, [], ◌∷◌, length}
use Rattle.std.proofs.Common.{get_or, slice_get, Contains, refl, sym, ap, ◌∙◌, subst, arith}
use Rattle.std.specs.Cmp.Lexicographic.{same_text}
use borrow.Author.Tests.{eqb-true}
use Rattle.std.proofs.lemmas.Cmp.{nat_eq_equiv, nat_list_eq_equiv}
use Rattle.std.proofs.lemmas.List.{get_or_append_left, length-append}
use Rattle.std.proofs.lemmas.Option.{get_or_from_slice_get, slice_get-get_or, slice_get_within}
use Rattle.name_store.specs.Names.{AreDistinct}
use Rattle.plain_graph.specs.Values.{is_text}
use Rattle.rec_bytes.specs.Format as format
use Rattle.rec_bytes.specs.declared.shape.Shape.{Shape}
use Rattle.store_rules.specs.Graph.{names_of}
use Rattle.store_rules.specs.Views.{Records, rec_at, text_of}
use Rattle.store_rules.proofs.NameRows.{length-rows, row_at}
use Rattle.traversal_run.specs.Naming.{FindsName, name_at, name_count}
use Rattle.traversal_run.specs.Reading.{IsNamedStore}
use Rattle.traversal_run.proofs.Asked.{same_tests}
use Rattle.traversal_run.proofs.Texts.{is_text-pointwise}

-- a text is another where their test says so
pub is_text-same : (a b : List ℕ) → is_text a b ≡ true → a ≡ b
is_text-same a b e = same_text a b (sym (sym (is_text-pointwise a b) ∙ e))

pub is_text-itself : (a : List ℕ) → is_text a a ≡ true
is_text-itself a = is_text-pointwise a a ∙ nat_list_eq_equiv.refl a

-- the place of a text among distinct ones is one
once_contained : (names : List (List ℕ)) (text : List ℕ) (i : ℕ) → slice_get names i ≡ Some text → Contains names text
once_contained names text i at = (i, slice_get_within names i text at, get_or_from_slice_get names i text text at)

once_placed : (names : List (List ℕ)) (text : List ℕ) (i j : ℕ) → AreDistinct names → slice_get names i ≡ Some text → slice_get names j ≡ Some text → i ≡ j
once_placed [] text i j once at there = absurd cc
once_placed (name ∷ names) text zero zero once at there = refl
once_placed (name ∷ names) text zero (suc j) once at there = absurd (once.0 (subst (Contains names) (first at) (once_contained names text j there)))
  where
    first : Some name ≡ Some text → text ≡ name
    first e = cc
once_placed (name ∷ names) text (suc i) zero once at there = absurd (once.0 (subst (Contains names) (first there) (once_contained names text i at)))
  where
    first : Some name ≡ Some text → text ≡ name
    first e = cc
once_placed (name ∷ names) text (suc i) (suc j) once at there = ap suc (once_placed names text i j once.1 at there)

module _ (records : Records) (shape : Shape) (names : List (List ℕ)) (store : IsNamedStore records shape names) where
  names_count : length (names_of records) ≡ name_count records
  names_count = length-rows (λ x. text_of (rec_at records format.names_file x)) (name_count records)

  -- there are at least as many as the store has
  pub names_enough : name_count records ≤ length names
  names_enough =
      let all = ap length store.named in
      let both = length-append (names_of records) store.more in
      let own = names_count in
      omega arith

  -- the first ones are the store's
  pub names_at : (number : ℕ) → number < name_count records → slice_get names number ≡ Some (name_at records number)
  names_at number lt =
      let own = names_count in
      let low = names_enough in
      let d = name_at records number in
      slice_get-get_or names number d (omega arith)
      ∙ ap Some (ap (λ list. get_or list number d) store.named ∙ get_or_append_left (names_of records) store.more d number (omega arith)
      ∙ row_at (λ x. text_of (rec_at records format.names_file x)) (name_count records) number d lt)

  -- the number that is kept of a text is the store's, where it is one of its numbers
  pub finds_number : (text : List ℕ) (found : ℕ) → slice_get names found ≡ Some text → found < name_count records → FindsName records (Some found) text
  finds_number text found at low = λ number lt.
      let own : text ≡ name_at records found = some_same (sym at ∙ names_at found low) in
      same_tests (nat_eq number found) (is_text text (name_at records number))
      (λ e. subst (λ z. is_text text (name_at records z) ≡ true) (sym (eqb-true number found e)) (subst (λ t. is_text text t ≡ true) own (is_text-itself text)))
      (λ e. let one = store.store.names.distinct number found lt low (sym (is_text-same text (name_at records number) e) ∙ own) in ap (λ z. nat_eq z found) one
      ∙ nat_eq_equiv.refl found)
    where
      some_same : {a b : List ℕ} → Some a ≡ Some b → a ≡ b
      some_same e = cc

  -- a text that is none of the first ones is no name of the store
  finds_none : (text : List ℕ) → ((number : ℕ) → number < name_count records → slice_get names number ≡ Some text → ⊥) → FindsName records None text
  finds_none text none = λ number lt. same_tests false (is_text text (name_at records number)) (λ e. absurd cc)
      (λ e. absurd (none number lt (names_at number lt ∙ ap Some (sym (is_text-same text (name_at records number) e)))))

  pub finds_unknown : (text : List ℕ) → ¬ Contains names text → FindsName records None text
  finds_unknown text unknown = finds_none text (λ number lt at. unknown (once_contained names text number at))

  pub finds_later : (text : List ℕ) (found : ℕ) → AreDistinct names → slice_get names found ≡ Some text → name_count records ≤ found
      → FindsName records None text
  finds_later text found once at high = finds_none text (λ number lt there. let same = once_placed names text number found once there at in omega arith)
