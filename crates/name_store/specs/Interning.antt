-- What a name that gets a number leaves.
use Rattle.std.specs.Prelude.{◌≡◌, ℕ, ◌+◌, min, nat_eq, if◌then◌else◌, List, length, Contains}
use Rattle.std.specs.List.{list_any}
use Rattle.std.specs.Cmp.Lexicographic.{pointwise}
use Rattle.rec_bytes.specs.declared.meta.Meta.{Meta}
use Rattle.rec_bytes.specs.Format as format
use Rattle.rec_bytes.specs.Space.{State, after_meta, after_put, meta_of}
use Rattle.name_store.specs.declared.intern_fault.InternFault.{InternFault}
use Rattle.name_store.specs.declared.intern_fault.InternFault.TheVariants.{Memory, Disk, NamesFull}
use Rattle.name_store.specs.NameRecord.{name_key, name_record}

-- a number with one more, which stays at its last value
abbrev pub one_more : ℕ → ℕ
one_more n = min (n + 1) 4294967295

-- one more was given out, and is in use
abbrev pub counted : Meta → Meta
counted meta = record { high = one_more meta.high; free = meta.free; live = one_more meta.live }

-- the space after a new name got this number
unfoldable pub named : State → ℕ → List ℕ → State
named s id text =
    let put = after_put s (name_key id) (name_record text) in
    after_meta put format.names_file (counted (meta_of put format.names_file))

-- the space after a name got its number: a name that is known changes nothing
abbrev pub interned : State → List (List ℕ) → List ℕ → State
interned s names text =
    if list_any (pointwise nat_eq text) names then s else named s (length names) text

-- there are as many names as there may be, and the name is none of them
pub record AreFull (names : List (List ℕ)) (text : List ℕ) (count : ℕ) : Type 0 where
  pub is : count ≡ length names
  pub all : length names ≡ format.most_names
  pub new : ¬ Contains names text

abbrev pub IsFullFault : List (List ℕ) → List ℕ → InternFault → Type 0
IsFullFault names text (NamesFull count) = AreFull names text count
IsFullFault names text Memory = Unit {0}
IsFullFault names text Disk = Unit {0}
