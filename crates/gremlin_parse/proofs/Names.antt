-- Names that stand whole.
use Rattle.std.proofs.Common.{◌≡◌, ℕ, ◌≤◌, ◌||◌, ◌&&◌, nat_le, true, false, List, [], ◌∷◌, ◌++◌, length, take, drop, get_or, refl, sym, ap, ◌∙◌, arith}
use Rattle.std.specs.List.{prefix_len}
use Rattle.std.proofs.lemmas.Bool.Decides.{nat_tests}
use Rattle.plain_graph.specs.Names.{IsName, is_name_byte, is_name_start}
use Rattle.gremlin_parse.specs.Grammar.{is_blank}
use Rattle.gremlin_parse.specs.Reading.{first_byte, Passes, CutsRun, StartsName}
use Rattle.gremlin_parse.specs.Symbols.{AnyName, Takes}
use Rattle.gremlin_parse.proofs.Runs.{cut_run_at}

pub name_start_is_name_byte : (b : ℕ) → is_name_start b ≡ true → is_name_byte b ≡ true
name_start_is_name_byte b start = ap (λ starts. starts || (nat_le 48 b && nat_le b 57)) start

pub name_start_is_no_blank : (b : ℕ) → is_name_start b ≡ true → is_blank b ≡ false
name_start_is_no_blank b start = grind (arith, nat_tests)

pub blank_is_no_name_byte : (b : ℕ) → is_blank b ≡ true → is_name_byte b ≡ false
blank_is_no_name_byte b blank = grind (arith, nat_tests)

run_is_name : (b : ℕ) (bytes run rest : List ℕ) → is_name_start b ≡ true → CutsRun is_name_byte (b ∷ bytes) run rest → IsName run
run_is_name b bytes [] [] start cut = let whole = cut.bytes_are in cc
run_is_name b bytes [] (c ∷ rest) start cut =
    let whole = cut.bytes_are in
    let same : b ≡ c = cc in
    let clash : true ≡ false = sym (name_start_is_name_byte b start) ∙ ap is_name_byte same ∙ cut.ends in cc
run_is_name b bytes (c ∷ run) rest start cut =
    let whole = cut.bytes_are in
    let same : c ≡ b = cc in
    (ap is_name_start same ∙ start, cut.passes.1)

run_takes_name : (bytes run rest : List ℕ) → 1 ≤ length bytes → is_name_start (get_or bytes 0 0) ≡ true → CutsRun is_name_byte bytes run rest
    → Takes AnyName run bytes rest
run_takes_name [] run rest some start cut = absurd (omega arith)
run_takes_name (b ∷ bytes) run rest some start cut = record {
  prefix = run;
  bytes_are = cut.bytes_are;
  is = (refl, run_is_name b bytes run rest start cut);
  ends = cut.ends;
}

-- the name that begins with these bytes
pub takes_name : (bytes name rest : List ℕ) (n : ℕ) → 1 ≤ length bytes → is_name_start (get_or bytes 0 0) ≡ true → n ≡ prefix_len is_name_byte bytes
    → name ≡ take n bytes → rest ≡ drop n bytes → Takes AnyName name bytes rest
takes_name bytes name rest n some start count name_is rest_is = run_takes_name bytes name rest some start
    (cut_run_at is_name_byte bytes name rest n count name_is rest_is)

pub IsName-passes : (name : List ℕ) → IsName name → Passes is_name_byte name
IsName-passes [] is = absurd is
IsName-passes (b ∷ name) is = (name_start_is_name_byte b is.0, is.1)

-- a name before any bytes
pub name_starts : (name rest : List ℕ) → IsName name → StartsName (name ++ rest)
name_starts [] rest is = absurd is
name_starts (b ∷ name) rest is = is.0

pub StartsName-first_byte : (bytes more : List ℕ) → first_byte bytes ≡ first_byte more → StartsName bytes → StartsName more
StartsName-first_byte [] more same starts = absurd starts
StartsName-first_byte (b ∷ bytes) [] same starts = cc
StartsName-first_byte (b ∷ bytes) (c ∷ more) same starts =
    let e : c ≡ b = cc in ap is_name_start e ∙ starts
