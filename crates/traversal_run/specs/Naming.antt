-- Names of a query among those of a store.
use Rattle.std.specs.Prelude.{◌≡◌, ◌<◌, ℕ, nat_eq, Bool, false, Option, None, Some, List}
use Rattle.std.specs.List.{list_any}
use Rattle.plain_graph.specs.Values.{is_text}
use Rattle.rec_bytes.specs.Format.{names_file}
use Rattle.store_rules.specs.Views.{Records, high, rec_at, text_of}

-- how many names the store has
abbrev pub name_count : Records → ℕ
name_count records = high records names_file

-- the name of a number
abbrev pub name_at : Records → ℕ → List ℕ
name_at records number = text_of (rec_at records names_file number)

abbrev pub is_found : Option ℕ → ℕ → Bool
is_found None number = false
is_found (Some found) number = nat_eq number found

-- what was found is the one number of a name with this text, if there is one
abbrev pub FindsName : Records → Option ℕ → List ℕ → Type 0
FindsName records found text =
    (number : ℕ) → number < name_count records
    → is_found found number ≡ is_text text (name_at records number)

-- the numbers are those of the names with one of these texts
abbrev pub FindsNames : Records → List ℕ → List (List ℕ) → Type 0
FindsNames records numbers texts = (number : ℕ) → number < name_count records
    → list_any (nat_eq number) numbers
    ≡ list_any (λ text. is_text text (name_at records number)) texts
