-- Arguments: what follows each ends it, whatever the list, and what was read of them.
use Rattle.std.proofs.Common.{◌≡◌, ◌≤◌, ℕ, true, List, [], ◌∷◌, ◌++◌, length, take, drop, get_or, ◌-◌, inl, inr, refl, ap, ◌∙◌, subst, arith}
use Rattle.std.proofs.lemmas.List.{take_all}
use Rattle.gremlin_parse.specs.Symbols.{AnyGap, Leaves, LeavesOne, Symbol, Reads, ReadsAll}
use Rattle.gremlin_parse.specs.Arguments.{symbol_of, spaced, content_in, contents_in, listed, ReadsArgument}
use Rattle.gremlin_parse.specs.declared.argument.Argument.{Argument}
use Rattle.gremlin_parse.specs.declared.argument.Argument.TheVariants as arguments
use Rattle.gremlin_parse.specs.declared.argument.Given.{Given}
use Rattle.gremlin_parse.specs.declared.argument.Givens.{Givens}
use Rattle.gremlin_parse.specs.declared.stop.Stop.{Stop}
use Rattle.gremlin_parse.proofs.Symbols.{NameByte, no_blanks, halts, class_of}
use Rattle.gremlin_parse.proofs.Productions.{is_production}

-- ---- productions

-- An argument is a symbol, and ended where a blank or the last part is.
one_is : (argument : Argument) (symbols : List Symbol) → is_production no_blanks symbols ≡ true
    → halts (class_of (symbol_of argument)) (no_blanks (class_of (symbol_of argument))) symbols ≡ true
    → is_production no_blanks (AnyGap ∷ symbol_of argument ∷ symbols) ≡ true
one_is arguments.Element symbols is ends = rw (is, ends) refl
one_is arguments.Direction symbols is ends = rw (is, ends) refl
one_is arguments.Name symbols is ends = rw (is, ends) refl
one_is arguments.Number symbols is ends = rw (is, ends) refl
one_is arguments.Value symbols is ends = rw (is, ends) refl

-- what stands after an argument begins with a blank, or with what the last part may begin
after_halts : (argument : Argument) (list : List Argument) → halts (class_of (symbol_of argument)) (no_blanks (class_of (symbol_of argument)))
    (spaced list) ≡ true
after_halts arguments.Element [] = refl
after_halts arguments.Element (next ∷ list) = refl
after_halts arguments.Direction [] = refl
after_halts arguments.Direction (next ∷ list) = refl
after_halts arguments.Name [] = refl
after_halts arguments.Name (next ∷ list) = refl
after_halts arguments.Number [] = refl
after_halts arguments.Number (next ∷ list) = refl
after_halts arguments.Value [] = refl
after_halts arguments.Value (next ∷ list) = refl

pub spaced_is : (list : List Argument) → is_production no_blanks (spaced list) ≡ true
spaced_is [] = refl
spaced_is (argument ∷ list) = one_is argument (spaced list) (spaced_is list) (after_halts argument list)

pub spaced_halts : (list : List Argument) → halts NameByte (no_blanks NameByte) (spaced list) ≡ true
spaced_halts [] = refl
spaced_halts (argument ∷ list) = refl

-- ---- what was read

-- Arguments are told by as many as there are of them.
contents_begin : (list : List Argument) (all more : List Given) → length list ≤ length all → contents_in list (all ++ more) ≡ contents_in list all
contents_begin [] all more few = refl
contents_begin (argument ∷ list) [] more few = absurd (omega arith)
contents_begin (argument ∷ list) (one ∷ all) more few = let later = contents_begin list all more (omega arith) in
    (λ i. (tt, (content_in argument one, later i)))

argument_before : (argument : Argument) (list : List Argument) (one : Given) (others : Givens) (bytes at after rest : List ℕ) → length (argument ∷ list) ≤ 4
    → Reads AnyGap tt bytes at → ReadsArgument argument one at after → ReadsAll (spaced list) (contents_in list (listed others)) after rest
    → ReadsAll (spaced (argument ∷ list)) (contents_in (argument ∷ list) (one ∷ others.first ∷ others.second ∷ others.third ∷ [])) bytes rest
argument_before argument list one others bytes at after rest few gap reads later =
    let same = contents_begin list (others.first ∷ others.second ∷ others.third ∷ []) (others.fourth ∷ []) (omega arith) in
    (at, gap, (after, reads, subst (λ contents. ReadsAll (spaced list) contents after rest) same later))

drop_one : (argument : Argument) (list : List Argument) → drop 1 (argument ∷ list) ≡ list
drop_one argument [] = refl
drop_one argument (next ∷ list) = refl

-- the first argument of some, and the others
pub first_read : (list : List Argument) (one : Given) (others : Givens) (bytes at after rest : List ℕ) → 1 ≤ length list → length list ≤ 4
    → Reads AnyGap tt bytes at → ReadsArgument (get_or list 0 arguments.Element) one at after
    → ReadsAll (spaced (take (length list - 1) (drop 1 list))) (contents_in (take (length list - 1) (drop 1 list)) (listed others)) after rest
    → ReadsAll (spaced list) (contents_in list (one ∷ others.first ∷ others.second ∷ others.third ∷ [])) bytes rest
first_read [] one others bytes at after rest some few gap reads later = absurd (omega arith)
first_read (argument ∷ list) one others bytes at after rest some few gap reads later =
    let tail : take (length (argument ∷ list) - 1) (drop 1 (argument ∷ list)) ≡ list = ap (take (length (argument ∷ list) - 1)) (drop_one argument list)
    ∙ take_all (length (argument ∷ list) - 1) list (omega arith) in
    argument_before argument list one others bytes at after rest few gap reads
    (subst (λ l. ReadsAll (spaced l) (contents_in l (listed others)) after rest) tail later)

-- ---- where reading stops

-- before the first argument of some
pub stop_before : (list : List Argument) (bytes : List ℕ) (stop : Stop) → 1 ≤ length list → Leaves AnyGap bytes stop → LeavesOne (spaced list) bytes stop
stop_before [] bytes stop some leaves = absurd (omega arith)
stop_before (argument ∷ list) bytes stop some leaves = inl leaves

-- in it
pub stop_in : (list : List Argument) (bytes at : List ℕ) (stop : Stop) → 1 ≤ length list → Reads AnyGap tt bytes at
    → Leaves (symbol_of (get_or list 0 arguments.Element)) at stop → LeavesOne (spaced list) bytes stop
stop_in [] bytes at stop some gap leaves = absurd (omega arith)
stop_in (argument ∷ list) bytes at stop some gap leaves = inr (tt, at, gap, inl leaves)

-- and after it
pub stop_after : (list : List Argument) (one : Given) (bytes at after : List ℕ) (stop : Stop) → 1 ≤ length list → Reads AnyGap tt bytes at
    → ReadsArgument (get_or list 0 arguments.Element) one at after → LeavesOne (spaced (take (length list - 1) (drop 1 list))) after stop
    → LeavesOne (spaced list) bytes stop
stop_after [] one bytes at after stop some gap reads leaves = absurd (omega arith)
stop_after (argument ∷ list) one bytes at after stop some gap reads leaves =
    let tail : take (length (argument ∷ list) - 1) (drop 1 (argument ∷ list)) ≡ list = ap (take (length (argument ∷ list) - 1)) (drop_one argument list)
    ∙ take_all (length (argument ∷ list) - 1) list (omega arith) in
    inr (tt, at, gap, inr (content_in argument one, after, reads, subst (λ (l : List Argument). LeavesOne (spaced l) after stop) tail leaves))
