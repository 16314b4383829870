-- Tokens one after the other, as the look ahead for the key of an order reads them.
use Rattle.std.proofs.Common.{◌≡◌, ◌≢◌, ◌+◌, ◌<◌, ℕ, nat_eq, cond, Bool, true, false, Some, None, List, [], ◌∷◌, ◌++◌}
use Rattle.std.proofs.Common.{length, map, drop, get_or, refl, sym, ap, ◌∙◌, add-one, drop-cons, arith}
use Rattle.std.specs.Prelude.{option_and_then}
use Rattle.std.specs.Borrow.{Bor}
use Rattle.std.proofs.lemmas.Bool.Decides.{nat_tests}
use Rattle.gremlin_parse.specs.Grammar.{is_blank}
use Rattle.gremlin_parse.specs.Faults.{EndsRun}
use Rattle.gremlin_parse.specs.OrderKeys.{after_blanks, after_token, after_tokens}
use Rattle.gremlin_parse.specs.Reading.{first_byte, Passes}
use Rattle.gremlin_parse.specs.Symbols.{Sign, ReadsToken, Leaves}
use Rattle.gremlin_parse.specs.declared.stop.Stop.{Stop}
use Rattle.gremlin_parse.specs.declared.stop.Stop.TheVariants as stops

pub after_blanks-run : (blanks rest : List ℕ) → Passes is_blank blanks → EndsRun is_blank rest → after_blanks (blanks ++ rest) ≡ rest
after_blanks-run [] [] are ends = refl
after_blanks-run [] (b ∷ rest) are ends = ap (λ (t : Bool). cond t (after_blanks rest) (b ∷ rest)) ends
after_blanks-run (b ∷ blanks) rest are ends = ap (λ (t : Bool). cond t (after_blanks (blanks ++ rest)) (b ∷ (blanks ++ rest))) are.0
    ∙ after_blanks-run blanks rest are.1 ends

same_byte : (b : ℕ) → nat_eq b b ≡ true
same_byte b = grind (arith, nat_tests)

-- A token that stands at the head.
pub after_token-append : (token rest : List ℕ) → after_token token (token ++ rest) ≡ Some (after_blanks rest)
after_token-append [] rest = refl
after_token-append (b ∷ token) rest = ap (λ (t : Bool). cond t (after_token token (token ++ rest)) None) (same_byte b) ∙ after_token-append token rest

-- Another byte than the token has.
after_token-differs : (read : List ℕ) (next : ℕ) (more unread : List ℕ) → first_byte unread ≢ Some next
    → after_token (read ++ next ∷ more) (read ++ unread) ≡ None
after_token-differs [] next more [] differs = refl
after_token-differs [] next more (c ∷ unread) differs =
    let other : c ≢ next = λ same. differs (ap (λ (n : ℕ). Some n) same) in
    let fails : nat_eq c next ≡ false = grind (arith, nat_tests) in
    ap (λ (t : Bool). cond t (after_token more unread) None) fails
after_token-differs (b ∷ read) next more unread differs = ap (λ (t : Bool). cond t (after_token (read ++ next ∷ more) (read ++ unread)) None) (same_byte b)
    ∙ after_token-differs read next more unread differs

after_token-read : (token bytes rest : List ℕ) → ReadsToken token bytes rest → after_token token bytes ≡ Some rest
after_token-read token bytes rest (middle, reads, blanks) =
    let whole : bytes ≡ token ++ middle = reads.takes.bytes_are ∙ ap (λ (p : List ℕ). p ++ middle) reads.takes.is in
    let left : after_blanks middle ≡ rest = ap after_blanks blanks.takes.bytes_are
    ∙ after_blanks-run blanks.takes.prefix rest blanks.takes.is blanks.takes.ends in
    ap (after_token token) whole ∙ after_token-append token middle ∙ ap (λ (these : List ℕ). Some these) left

after_token-left : (token bytes : List ℕ) (stop : Stop) → Leaves (Sign token) bytes stop → after_token token bytes ≡ None
after_token-left token bytes stops.Memory leaves = absurd leaves
after_token-left token bytes (stops.Syntax left) leaves =
    ap (after_token token) leaves.bytes_are ∙ ap (λ (these : List ℕ). after_token these (leaves.read ++ leaves.unread)) leaves.word_is
    ∙ after_token-differs leaves.read leaves.next leaves.more leaves.unread leaves.differs
after_token-left token bytes (stops.Bad kind left) leaves = absurd leaves.1

-- ---- several tokens, from one of them on

abbrev pub texts : List (Bor (List ℕ)) → List (List ℕ)
texts tokens = map (λ (t : Bor (List ℕ)). t.now) tokens

texts_from : (tokens : List (Bor (List ℕ))) (i : ℕ) (d : Bor (List ℕ)) (bytes : List ℕ) → i < length tokens
    → after_tokens (texts (drop i tokens)) bytes ≡ option_and_then (λ rest. after_tokens (texts (drop (i + 1) tokens)) rest)
    (after_token (get_or tokens i d).now bytes)
texts_from tokens i d bytes within = rw (add-one, drop-cons tokens i d)

pub token_read : (tokens : List (Bor (List ℕ))) (i : ℕ) (d : Bor (List ℕ)) (bytes rest : List ℕ) → i < length tokens
    → ReadsToken (get_or tokens i d).now bytes rest → after_tokens (texts (drop (i + 1) tokens)) rest ≡ after_tokens (texts (drop i tokens)) bytes
token_read tokens i d bytes rest within reads = sym (texts_from tokens i d bytes within ∙ ap
    (option_and_then (λ rest. after_tokens (texts (drop (i + 1) tokens)) rest)) (after_token-read (get_or tokens i d).now bytes rest reads))

pub token_left : (tokens : List (Bor (List ℕ))) (i : ℕ) (d : Bor (List ℕ)) (bytes : List ℕ) (stop : Stop) → i < length tokens
    → Leaves (Sign (get_or tokens i d).now) bytes stop → after_tokens (texts (drop i tokens)) bytes ≡ None
token_left tokens i d bytes stop within leaves = texts_from tokens i d bytes within
    ∙ ap (option_and_then (λ rest. after_tokens (texts (drop (i + 1) tokens)) rest)) (after_token-left (get_or tokens i d).now bytes stop leaves)
