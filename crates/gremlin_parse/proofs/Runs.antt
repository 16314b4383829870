-- Runs of bytes that pass a test, and the byte after a run.
use Rattle.std.proofs.Common.{◌≡◌, ◌≢◌, ◌==◌, ℕ, suc, ◌+◌, Bool, true, false, not, ◌&&◌, ◌-◌, ◌≤◌, List, [], ◌∷◌, ◌++◌}
use Rattle.std.proofs.Common.{length, get_or, take, drop, refl, sym, ap, ◌∙◌, ⊎_elim, subst, arith}
use Rattle.std.specs.List.{prefix_len}
use Rattle.std.proofs.lemmas.Bool.{cases_Bool, cond-true, cond-false, eqb-true}
use Rattle.std.proofs.lemmas.List.{take_rest}
use Rattle.gremlin_parse.specs.Faults.{EndsRun}
use Rattle.gremlin_parse.specs.Reading.{first_byte, Passes, CutsRun}

pub both : (a b : Bool) → a && b ≡ true → (a ≡ true) × (b ≡ true)
both true b is = (refl, is)
both false b is = cc

pub turned : (a : Bool) → not a ≡ true → a ≡ false
turned true is = cc
turned false is = refl

-- bytes by their first one, as a pattern has them
pub first_and_rest : (bytes : List ℕ) → 1 ≤ length bytes → bytes ≡ get_or bytes 0 0 ∷ take (length bytes - 1) (drop 1 bytes)
first_and_rest [] some = absurd (omega arith)
first_and_rest (b ∷ bytes) some = ap (λ rest. b ∷ rest) (sym (take_rest (b ∷ bytes) 1))

-- No line of the language begins with a byte that passes.
abbrev pub Halts : (ℕ → Bool) → (List ℕ → Type 0) → Type 0
Halts p Language = (bytes : List ℕ) → Language bytes → EndsRun p bytes

-- The bytes at the head that pass are a run as long as it can be.
pub cut_run : (p : ℕ → Bool) (bytes : List ℕ) → CutsRun p bytes (take (prefix_len p bytes) bytes) (drop (prefix_len p bytes) bytes)
cut_run p [] = record { bytes_are = refl; passes = tt; ends = tt }
cut_run p (b ∷ bytes) =
    let here = cut_run p bytes in
    let Cut : ℕ → Type 0 = λ n. CutsRun p (b ∷ bytes) (take n (b ∷ bytes)) (drop n (b ∷ bytes)) in
    ⊎_elim
    (λ (yes : p b ≡ true).
    let longer : CutsRun p (b ∷ bytes) (b ∷ take (prefix_len p bytes) bytes) (drop (prefix_len p bytes) bytes) =
    record { bytes_are = ap (λ rest. b ∷ rest) here.bytes_are; passes = (yes, here.passes); ends = here.ends } in
    let n_is : suc (prefix_len p bytes) ≡ prefix_len p (b ∷ bytes) = omega (arith, cond-true (p b) (1 + prefix_len p bytes) 0 yes) in
    let at_suc : Cut (suc (prefix_len p bytes)) = longer in
    subst Cut n_is at_suc)
    (λ (no : p b ≡ false).
    let none : CutsRun p (b ∷ bytes) [] (b ∷ bytes) = record { bytes_are = refl; passes = tt; ends = no } in
    let at_zero : Cut 0 = none in
    subst Cut (sym (cond-false (p b) (1 + prefix_len p bytes) 0 no)) at_zero)
    (cases_Bool (p b))

-- the run of so many bytes
pub cut_run_at : (p : ℕ → Bool) (bytes run rest : List ℕ) (n : ℕ) → n ≡ prefix_len p bytes → run ≡ take n bytes → rest ≡ drop n bytes → CutsRun p bytes run rest
cut_run_at p bytes run rest n count prefix_is rest_is =
    subst (λ list. CutsRun p bytes list rest) (sym prefix_is) (subst (CutsRun p bytes (take n bytes)) (sym rest_is)
    (subst (λ k. CutsRun p bytes (take k bytes) (drop k bytes)) (sym count) (cut_run p bytes)))

-- what ends a run depends on the first byte only
pub EndsRun-first_byte : (p : ℕ → Bool) (bytes more : List ℕ) → first_byte more ≡ first_byte bytes → EndsRun p bytes → EndsRun p more
EndsRun-first_byte p bytes [] same ends = tt
EndsRun-first_byte p [] (c ∷ more) same ends = cc
EndsRun-first_byte p (b ∷ bytes) (c ∷ more) same ends =
    let e : c ≡ b = cc in ap p e ∙ ends

-- A cut into a run as long as it can be and the rest is the only one.
pub run_is_unique : (p : ℕ → Bool) (run other rest more : List ℕ) → Passes p run → Passes p other → EndsRun p rest → EndsRun p more
    → run ++ rest ≡ other ++ more → (run ≡ other) × (rest ≡ more)
run_is_unique p [] [] rest more ps qs ends stops e = (refl, e)
run_is_unique p [] (c ∷ other) [] more ps qs ends stops e = cc
run_is_unique p [] (c ∷ other) (b ∷ rest) more ps qs ends stops e =
    let same : b ≡ c = cc in
    let clash : false ≡ true = sym ends ∙ ap p same ∙ qs.0 in cc
run_is_unique p (b ∷ run) [] rest [] ps qs ends stops e = cc
run_is_unique p (b ∷ run) [] rest (c ∷ more) ps qs ends stops e =
    let same : b ≡ c = cc in
    let clash : true ≡ false = sym ps.0 ∙ ap p same ∙ stops in cc
run_is_unique p (b ∷ run) (c ∷ other) rest more ps qs ends stops e =
    let tails : run ++ rest ≡ other ++ more = cc in
    let heads : b ≡ c = cc in
    let (here, after) = run_is_unique p run other rest more ps.1 qs.1 ends stops tails in
    (cc, after)

-- what a test for no bytes says
pub not_empty : (bytes : List ℕ) (empty : Bool) → empty ≡ (length bytes == 0) → empty ≡ false → bytes ≢ []
not_empty [] empty is fails = λ _. let clash : false ≡ true = sym fails ∙ is in cc
not_empty (b ∷ bytes) empty is fails = λ none. cc

pub is_nothing : (bytes : List ℕ) (empty : Bool) → empty ≡ (length bytes == 0) → empty ≡ true → bytes ≡ []
is_nothing [] empty is holds = refl
is_nothing (b ∷ bytes) empty is holds = let none = eqb-true (length (b ∷ bytes)) 0 (sym is ∙ holds) in absurd (omega (arith, none))
