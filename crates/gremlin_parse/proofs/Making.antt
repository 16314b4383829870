-- What is shown of an element that is viewed is a line that makes it again.
use Rattle.std.proofs.Common.{◌≡◌, ◌≢◌, ◌≤◌, ◌<◌, ◌+◌, ◌-◌, ◌*◌, ◌/◌, ◌%◌, ◌^◌, inl, inr, ℕ, ℤ, pos, negsuc, suc}
use Rattle.std.proofs.Common.{nat_eq, Bool, true, false, not, ◌&&◌, if◌then◌else◌, Option, Some, List, [], ◌∷◌}
use Rattle.std.proofs.Common.{◌++◌, codes, decimal, flat_map, refl, sym, ap, ◌∙◌, append_assoc, arith}
use Rattle.std.specs.Fmt.{signed_decimal}
use Rattle.std.specs.List.{AllByRecursion}
use Rattle.std.proofs.lemmas.Bool.Decides.{nat_tests}
use Rattle.std.proofs.lemmas.Fmt.{decimal_by_steps}
use Rattle.std.proofs.lemmas.Int.{ints}
use borrow.Author.Tests.{eqb-true}
use mir.Syntax.{w64}
use Rattle.std.specs.Int.RustNames.{FitsSigned}
use Rattle.plain_graph.specs.ElementMaps.{assigned, making_text}
use Rattle.plain_graph.specs.Forms.{ArePairs, IsKept}
use Rattle.plain_graph.specs.Names.{IsShortName}
use Rattle.plain_graph.specs.Reply.{value_text}
use Rattle.plain_graph.specs.Reply as reply
use Rattle.plain_graph.specs.declared.command.Command.TheVariants as commands
use Rattle.plain_graph.specs.declared.item.Item.TheVariants as items
use Rattle.plain_graph.specs.declared.pairs.Pair.{Pair}
use Rattle.plain_graph.specs.declared.value.Value.{Value}
use Rattle.plain_graph.specs.declared.value.Value.TheVariants as values
use Rattle.gremlin_parse.specs.Commands.{KeepsBounds, parts_of}
use Rattle.gremlin_parse.specs.Grammar.{IsBounded, IsMadeOf, most_id, pairs_to_end}
use Rattle.gremlin_parse.specs.Lines.{Spells}
use Rattle.gremlin_parse.specs.Numbers.{IsNumber, are_digits, is_digit, is_number, value_after}
use Rattle.gremlin_parse.specs.Values.{ArePieces, IsInteger, IsPiece, IsWritten}
use Rattle.gremlin_parse.proofs.Runs.{both}

-- ---- numbers

value_after-push : (n : ℕ) (bytes : List ℕ) (b : ℕ) → value_after n (bytes ++ b ∷ []) ≡ value_after n bytes * 10 + (b - 48)
value_after-push n [] b = refl
value_after-push n (c ∷ bytes) b = value_after-push (n * 10 + (c - 48)) bytes b

digit_is : (d : ℕ) → d < 10 → is_digit (48 + d) ≡ true
digit_is d small = grind (arith, nat_tests)

are_digits-push : (bytes : List ℕ) (d : ℕ) → d < 10 → are_digits bytes ≡ true → are_digits (bytes ++ (48 + d) ∷ []) ≡ true
are_digits-push [] d small are = ap (λ (t : Bool). t && true) (digit_is d small)
are_digits-push (c ∷ bytes) d small are =
    let two = both (is_digit c) (are_digits bytes) are in
    ap (λ (t : Bool). t && are_digits (bytes ++ (48 + d) ∷ [])) two.0 ∙ are_digits-push bytes d small two.1

not_zero : (b : ℕ) → 1 ≤ 0 * 10 + (b - 48) → nat_eq b 48 ≡ false
not_zero b some = grind (arith, nat_tests)

number-push : (bytes : List ℕ) (d : ℕ) → d < 10 → is_number bytes ≡ true → 1 ≤ value_after 0 bytes → is_number (bytes ++ (48 + d) ∷ []) ≡ true
number-push [] d small is some = cc
number-push (b ∷ []) d small is some = rw (is, not_zero b some, digit_is d small) refl
number-push (b ∷ c ∷ bytes) d small is some =
    let one = both (is_digit b) (not (nat_eq b 48) && are_digits (c ∷ bytes)) is in
    let two = both (not (nat_eq b 48)) (are_digits (c ∷ bytes)) one.1 in
    ap (λ (t : Bool). t && (not (nat_eq b 48) && are_digits ((c ∷ bytes) ++ (48 + d) ∷ []))) one.0
    ∙ ap (λ (t : Bool). t && are_digits ((c ∷ bytes) ++ (48 + d) ∷ [])) two.0
    ∙ are_digits-push (c ∷ bytes) d small two.1

one_digit : (n : ℕ) → n < 10 → IsNumber n ((48 + n) ∷ [])
one_digit n small = (digit_is n small, omega arith)

more_digits : (n : ℕ) (digits : List ℕ) → 10 ≤ n → IsNumber (n / 10) digits → IsNumber n (digits ++ (48 + n % 10) ∷ [])
more_digits n digits big (is, same) =
    let pushed = value_after-push 0 digits (48 + n % 10) in
    (number-push digits (n % 10) (omega arith) is (omega (arith, same)), omega (arith, same, pushed))

pub decimal_is_number : (n : ℕ) → n < 2 ^ 64 → IsNumber n (decimal n)
decimal_is_number n small = decimal_by_steps IsNumber one_digit more_digits n small

integer_text : (number : ℤ) → FitsSigned w64 number → IsInteger number (signed_decimal number)
integer_text (pos n) fits = inl (n, refl, decimal_is_number n (omega (arith, ints)))
integer_text (negsuc n) fits = inr (suc n, decimal (suc n), refl, refl, decimal_is_number (suc n) (omega (arith, ints)))

-- ---- texts

-- a byte as it is shown, where it isn't the quote
other_piece : (b : ℕ) → b ≢ 39 → IsPiece 39 b (if nat_eq b 92 then codes "\\\\" else if nat_eq b 10 then codes "\\n" else if nat_eq b 13 then codes "\\r" else
    if nat_eq b 9 then codes "\\t" else b ∷ [])
other_piece b unquoted = backslash (nat_eq b 92) refl
  where
    tab : b ≢ 92 → (t : Bool) → nat_eq b 9 ≡ t → IsPiece 39 b (if t then codes "\\t" else b ∷ [])
    tab plain true is = inr (116, refl, ap (λ (n : ℕ). Some n) (sym (eqb-true b 9 is)))
    tab plain false is = inl (refl, unquoted, plain)

    carriage : b ≢ 92 → (t : Bool) → nat_eq b 13 ≡ t → IsPiece 39 b (if t then codes "\\r" else if nat_eq b 9 then codes "\\t" else b ∷ [])
    carriage plain true is = inr (114, refl, ap (λ (n : ℕ). Some n) (sym (eqb-true b 13 is)))
    carriage plain false is = tab plain (nat_eq b 9) refl

    line : b ≢ 92 → (t : Bool) → nat_eq b 10 ≡ t → IsPiece 39 b (if t then codes "\\n" else if nat_eq b 13 then codes "\\r" else if nat_eq b 9 then codes
        "\\t" else b ∷ [])
    line plain true is = inr (110, refl, ap (λ (n : ℕ). Some n) (sym (eqb-true b 10 is)))
    line plain false is = carriage plain (nat_eq b 13) refl

    unlike : nat_eq b 92 ≡ false → b ≢ 92
    unlike is same = let clash : false ≡ true = sym is ∙ ap (λ (n : ℕ). nat_eq n 92) same in cc

    backslash : (t : Bool) → nat_eq b 92 ≡ t → IsPiece 39 b (if t then codes "\\\\" else if nat_eq b 10 then codes "\\n" else if nat_eq b 13 then codes
        "\\r" else if nat_eq b 9 then codes "\\t" else b ∷ [])
    backslash true is = inr (92, refl, ap (λ (n : ℕ). Some n) (sym (eqb-true b 92 is)))
    backslash false is = line (unlike is) (nat_eq b 10) refl

piece : (b : ℕ) → IsPiece 39 b (reply.escaped b)
piece b = quote (nat_eq b 39) refl
  where
    unlike : nat_eq b 39 ≡ false → b ≢ 39
    unlike is same = let clash : false ≡ true = sym is ∙ ap (λ (n : ℕ). nat_eq n 39) same in cc

    quote : (t : Bool) → nat_eq b 39 ≡ t → IsPiece 39 b (if t then codes "\\'" else if nat_eq b 92 then codes "\\\\" else if nat_eq b 10 then codes "\\n" else
        if nat_eq b 13 then codes "\\r" else if nat_eq b 9 then codes "\\t" else b ∷ [])
    quote true is = inr (39, refl, ap (λ (n : ℕ). Some n) (sym (eqb-true b 39 is)))
    quote false is = other_piece b (unlike is)

pieces : (text : List ℕ) → ArePieces 39 text (flat_map reply.escaped text)
pieces [] = refl
pieces (b ∷ text) = (reply.escaped b, flat_map reply.escaped text, refl, piece b, pieces text)

pub value_text_is : (value : Value) → IsKept value → IsWritten value (value_text value)
value_text_is (values.Int number) kept = integer_text number kept
value_text_is (values.Bool true) kept = refl
value_text_is (values.Bool false) kept = refl
value_text_is (values.Text text) kept = (39, flat_map reply.escaped text, refl, refl, pieces text)

-- ---- pairs

pairs_made : (pairs : List Pair) → ArePairs pairs → IsMadeOf (pairs_to_end pairs) (assigned pairs)
pairs_made [] are = ([], [], refl, tt, refl)
pairs_made (pair ∷ pairs) (short, kept, later) =
    let value = value_text pair.value in (
      codes " ",
      pair.key ++ (codes "=" ++ (value ++ assigned pairs)),
      simp append_assoc,
      ((refl, tt), λ none. cc),
      (
        pair.key,
        codes "=" ++ (value ++ assigned pairs),
        refl,
        (refl, short.0),
        (
          codes "=",
          value ++ assigned pairs,
          refl,
          refl,
          (value, assigned pairs, refl, value_text_is pair.value kept, pairs_made pairs later),
        ),
      ),
    )

pairs_keep : (pairs : List Pair) → ArePairs pairs → AllByRecursion IsBounded (pairs_to_end pairs)
pairs_keep [] are = (tt, tt)
pairs_keep (pair ∷ pairs) (short, kept, later) = (tt, (short.1, (tt, (kept, pairs_keep pairs later))))

-- ---- lines

-- What is shown of a node makes a node of this label with these pairs.
pub node_making_spells : (id : ℕ) (label : List ℕ) (pairs : List Pair) → IsShortName label → ArePairs pairs
    → Spells (making_text (items.Vertex id) (record { label = Some label; pairs = pairs })) (commands.Node label pairs)
node_making_spells id label pairs short are =
    let line = making_text (items.Vertex id) (record { label = Some label; pairs = pairs }) in
    let made : IsMadeOf (parts_of (commands.Node label pairs)) line = (
      codes "node",
      codes " " ++ (label ++ assigned pairs),
      simp append_assoc,
      refl,
      (codes " ", label ++ assigned pairs, refl, ((refl, tt), λ none. cc), (label, assigned pairs, refl, (refl, short.0), pairs_made pairs are)),
    ) in
    let keeps : KeepsBounds (commands.Node label pairs) = (tt, (tt, (short.1, pairs_keep pairs are))) in
    ([], line, refl, tt, (made, keeps))

-- What is shown of an edge makes an edge of this type between these nodes with these pairs.
pub edge_making_spells : (id : ℕ) (label : List ℕ) (from to : ℕ) (shown : Option (List ℕ)) (pairs : List Pair) → from ≤ most_id → to ≤ most_id
    → IsShortName label → ArePairs pairs → Spells (making_text (items.Edge id label from to) (record { label = shown; pairs = pairs }))
    (commands.Edge from label to pairs)
edge_making_spells id label from to shown pairs from_few to_few short are =
    let line = making_text (items.Edge id label from to) (record { label = shown; pairs = pairs }) in
    let first = decimal_is_number from (omega (arith, from_few)) in
    let second = decimal_is_number to (omega (arith, to_few)) in
    let blank : (codes " " ≢ []) = λ none. cc in
    let end = decimal to ++ assigned pairs in
    let middle = label ++ (codes " " ++ end) in
    let made : IsMadeOf (parts_of (commands.Edge from label to pairs)) line = (
      codes "edge",
      codes " " ++ (decimal from ++ (codes " " ++ middle)),
      simp append_assoc,
      refl,
      (
        codes " ",
        decimal from ++ (codes " " ++ middle),
        refl,
        ((refl, tt), blank),
        (
          decimal from,
          codes " " ++ middle,
          refl,
          first,
          (
            codes " ",
            middle,
            refl,
            ((refl, tt), blank),
            (
              label,
              codes " " ++ end,
              refl,
              (refl, short.0),
              (
                codes " ",
                end,
                refl,
                ((refl, tt), blank),
                (decimal to, assigned pairs, refl, second, pairs_made pairs are),
              ),
            ),
          ),
        ),
      ),
    ) in
    let keeps : KeepsBounds (commands.Edge from label to pairs) = (tt, (tt, (from_few, (tt, (short.1, (tt, (to_few, pairs_keep pairs are))))))) in
    ([], line, refl, tt, (made, keeps))
