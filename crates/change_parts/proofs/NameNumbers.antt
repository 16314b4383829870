-- The numbers of names.
use Rattle.std.specs.Prelude.{slice_get}
use Rattle.std.proofs.lemmas.Option.{slice_get_within}
use Rattle.std.proofs.Common.{◌≡◌, ℕ, ◌<◌, Some, List, length, sym, ap, ◌∙◌, arith}
use Rattle.rec_bytes.specs.Format as format
use Rattle.store_rules.specs.Graph.{names_of}
use Rattle.store_rules.specs.Views.{Records, high, rec_at, text_of}
use Rattle.name_store.proofs.FirstNames.{first-names_of, length-names_of}

-- the number of a name is below their count, and its record says the name
pub number_in : (v : Records) (names : List (List ℕ)) (number : ℕ) (label : List ℕ) → names ≡ names_of v → slice_get names number ≡ Some label
    → (number < high v format.names_file) × (text_of (rec_at v format.names_file number) ≡ label)
number_in v names number label is at =
    let inside = slice_get_within names number label at in
    let long = ap length is ∙ length-names_of v in
    let lt : number < high v format.names_file = omega arith in
    (lt, inner (text_of (rec_at v format.names_file number)) label (sym (first-names_of v number lt) ∙ ap (λ xs. slice_get xs number) (sym is) ∙ at))
  where
    inner : (a b : List ℕ) → Some a ≡ Some b → a ≡ b
    inner a b e = cc
