-- Pairs to the line's end: a pair is an item, and any blanks are the end.
use Rattle.std.proofs.Common.{◌≡◌, ◌≢◌, ◌<◌, ◌+◌, inl, inr, ℕ, true, false, ◌&&◌, List, [], ◌∷◌, ◌++◌, length, codes}
use Rattle.std.proofs.Common.{pos, refl, sym, ap, ◌∙◌, subst, ⊎_elim, append_assoc, length-append, arith}
use Rattle.std.specs.List.{AllByRecursion}
use Rattle.plain_graph.specs.Names.{IsName}
use Rattle.plain_graph.specs.declared.pairs.Pair.{Pair}
use Rattle.plain_graph.specs.declared.value.Value.{Value}
use Rattle.plain_graph.specs.declared.value.Value.TheVariants as values
use Rattle.gremlin_parse.specs.Grammar.{Blanks, IsMadeOf, IsBounded, AreBlanks, is_blank, pair_parts, pairs_to_end}
use Rattle.gremlin_parse.specs.Faults.{EndsRun}
use Rattle.gremlin_parse.specs.Reading.{Then, StartsName, BadParts}
use Rattle.gremlin_parse.specs.Symbols.{AnyBlanks, AnyName, Sign, AnyValue, Takes, ReadsAll, LeavesOne, Follows, BadFollows}
use Rattle.gremlin_parse.specs.Stopping.{IsStop}
use Rattle.gremlin_parse.specs.Pairs.{pair_symbols, pair_contents, pair_of, SpellsPairs, BadInPairs}
use Rattle.gremlin_parse.specs.declared.bad_token.BadToken.{BadToken}
use Rattle.gremlin_parse.specs.declared.stop.Stop.{Stop}
use Rattle.gremlin_parse.proofs.Names.{name_starts, name_start_is_no_blank}
use Rattle.gremlin_parse.proofs.Symbols.{passes, no_blanks, part_halts, takes_unique}
use Rattle.gremlin_parse.proofs.Productions.{HaltsAt, Closes, Then-name-starts, stop_among, stop_after_all, read_within}
use Rattle.gremlin_parse.proofs.Spelling.{HasNoBad, read_parts}
use Rattle.gremlin_parse.proofs.Repeats.{Language, IsItem, IsSpelledBy, IsEndOf, production_item, items_close}
use Rattle.gremlin_parse.proofs.Repeats.{items_agree, no_bad_items, SoFar, one_more, stop_so_far, all_read, all_bounded}

pair_spelled : IsSpelledBy pair_parts pair_symbols
pair_spelled = record {
  contents = λ pair. pair_contents pair.key pair.value;
  allowed = λ pair. (tt, (tt, (tt, (tt, tt))));
  parts = λ pair. refl;
  of = pair_of;
  of_contents = λ pair. refl;
  of_parts = λ these allows. refl;
}

-- ---- the end: any blanks

abbrev pub AtEnd : Language
AtEnd bytes = IsMadeOf (Blanks ∷ []) bytes

pub end_blanks : (bytes : List ℕ) → AtEnd bytes → AreBlanks bytes
end_blanks bytes (prefix, rest, whole, are, end) = subst AreBlanks (sym (whole ∙ ap (λ r. prefix ++ r) end)) (with_nothing prefix are)
  where
    with_nothing : (blanks : List ℕ) → AreBlanks blanks → AreBlanks (blanks ++ [])
    with_nothing [] are = tt
    with_nothing (b ∷ blanks) are = (are.0, with_nothing blanks are.1)

-- A name stands in no blanks.
pub no_name : (gap more : List ℕ) → AreBlanks (gap ++ more) → StartsName more → ⊥
no_name [] [] are starts = starts
no_name [] (b ∷ more) are starts = let clash : true ≡ false = sym are.0 ∙ name_start_is_no_blank b starts in cc
no_name (b ∷ gap) more are starts = no_name gap more are.1 starts

pub first_blanks : (read : List ℕ) (b : ℕ) (more : List ℕ) → AreBlanks (read ++ b ∷ more) → AreBlanks (read ++ b ∷ [])
first_blanks [] b more are = (are.0, tt)
first_blanks (c ∷ read) b more are = (are.0, first_blanks read b more are.1)

pub some_byte : (read : List ℕ) (b : ℕ) → read ++ b ∷ [] ≢ []
some_byte [] b = λ none. cc
some_byte (c ∷ read) b = λ none. cc

pub end_halts : HaltsAt no_blanks AtEnd
end_halts = λ class halts bytes (prefix, rest, whole, are, end).
    subst (EndsRun (passes class)) (sym whole) (part_halts class true AnyBlanks [] (ap (λ t. t && true) halts) tt tt prefix rest are
    (λ _. subst (EndsRun (passes class)) (sym end) tt))

pub end_no_bad : HasNoBad (Blanks ∷ [])
end_no_bad kind left bytes = λ bad. ⊎_elim (λ here. absurd here.5) (λ ((prefix, rest, whole, are, later) : Then Blanks (BadParts [] kind left) bytes). later)
    bad

not_a_pair : (After : Language) (bytes : List ℕ) → AtEnd bytes → ¬ Follows pair_symbols (λ _. After) bytes
not_a_pair After bytes end = λ (content, allows, (gap, more, whole, gap_is, (name, allows_name, then))).
    no_name gap more (subst AreBlanks whole (end_blanks bytes end)) (Then-name-starts _ name more then)

no_bad_pair : (Bad : BadToken → ℕ → Language) (kind : BadToken) (left : ℕ) (bytes : List ℕ) → AtEnd bytes → ¬ BadFollows pair_symbols Bad kind left bytes
no_bad_pair Bad kind left bytes end = λ bad. refuse bad
  where
    refuse : BadFollows pair_symbols Bad kind left bytes → ⊥
    refuse (inl here) = here.1
    refuse (inr (content, allows, (gap, more, whole, gap_is, inl (name, bad, rest, takes, place)))) =
        no_name gap more (subst AreBlanks whole (end_blanks bytes end))
        (subst StartsName (sym takes.bytes_are) (name_starts takes.prefix rest (subst IsName (sym takes.is.0) takes.is.1)))
    refuse (inr (content, allows, (gap, more, whole, gap_is, inr (name, allows_name, then)))) =
        no_name gap more (subst AreBlanks whole (end_blanks bytes end)) (Then-name-starts _ name more then)

-- After blanks a pair may come.
pair_goes_on : (After : Language) (line : List ℕ) → After line → (read : List ℕ) (b : ℕ) (more : List ℕ) → AtEnd (read ++ b ∷ more) → (line : List ℕ)
    × Follows pair_symbols (λ _. After) (read ++ b ∷ line)
pair_goes_on After line some read b more end =
    let blanks = first_blanks read b more (end_blanks (read ++ b ∷ more) end) in (
      codes "a=0" ++ line,
      (
        tt,
        tt,
        (
          read ++ b ∷ [],
          codes "a=0" ++ line,
          sym (append_assoc read (b ∷ []) (codes "a=0" ++ line)),
          (blanks, some_byte read b),
          (
            codes "a",
            tt,
            (
              codes "a",
              codes "=0" ++ line,
              refl,
              (refl, (refl, tt)),
              (
                tt,
                tt,
                (
                  codes "=",
                  codes "0" ++ line,
                  refl,
                  refl,
                  (values.Int (pos 0), tt, (codes "0", line, refl, inl (0, refl, (refl, refl)), some)),
                ),
              ),
            ),
          ),
        ),
      ),
    )

pair_end : IsEndOf pair_parts pair_symbols pair_spelled no_blanks refl (Blanks ∷ [])
pair_end = record {
  ends = λ class halts. halts;
  last_ends = end_halts;
  apart = not_a_pair;
  bads_apart = no_bad_pair;
  goes_on = pair_goes_on;
  last_line = ([], ([], [], refl, tt, refl));
  last_no_bad = end_no_bad;
}

abbrev pub OnePair : Language → Language
OnePair After bytes = Follows pair_symbols (λ _. After) bytes

pub pair_item : IsItem pair_parts (Blanks ∷ []) no_blanks OnePair (BadFollows pair_symbols)
pair_item = production_item pair_parts pair_symbols pair_spelled no_blanks refl (Blanks ∷ []) pair_end

-- ---- what the readers' proofs cite

pub pairs_close : Closes no_blanks SpellsPairs BadInPairs
pairs_close = items_close pair_item

pub pairs_agree : (list others : List Pair) (bytes : List ℕ) → IsMadeOf (pairs_to_end list) bytes → IsMadeOf (pairs_to_end others) bytes → others ≡ list
pairs_agree = items_agree pair_item

pub no_bad_pairs : (list : List Pair) (bytes : List ℕ) → AllByRecursion IsBounded (pairs_to_end list) → IsMadeOf (pairs_to_end list) bytes
    → (kind : BadToken) (left : ℕ) → ¬ BadInPairs kind left bytes
no_bad_pairs = no_bad_items pair_item

-- the pairs that were read, and what is left
abbrev pub PairsSoFar : List ℕ → List Pair → List ℕ → Type 0
PairsSoFar bytes list rest = SoFar pair_item (Unit {0}) bytes list rest

pub pair_more : (bytes rest after : List ℕ) (list : List Pair) (key : List ℕ) (value : Value) → PairsSoFar bytes list rest → ¬ AtEnd rest
    → ReadsAll pair_symbols (pair_contents key value) rest after → PairsSoFar bytes (list ++ pair_of (pair_contents key value) ∷ []) after
pair_more bytes rest after list key value so_far other reads =
    one_more pair_item (Unit {0}) bytes rest after list (pair_of (pair_contents key value)) so_far other
    (λ stop at. stop_after_all no_blanks pair_symbols refl SpellsPairs BadInPairs pairs_close (Unit {0}) (pair_contents key value) rest after stop reads at)
    (λ later made. read_parts pair_symbols (pair_contents key value) (IsMadeOf (pairs_to_end later)) rest after reads made)
    (bounded reads)
  where
    bounded : ReadsAll pair_symbols (pair_contents key value) rest after → AllByRecursion IsBounded (pair_parts (pair_of (pair_contents key value)))
    bounded (gap, gap_reads, (name, name_reads, (sign, sign_reads, (end, value_reads, same)))) = (tt, (name_reads.bounded, (tt, (value_reads.bounded, tt))))

pub pairs_stop : (bytes rest : List ℕ) (list : List Pair) (stop : Stop) → PairsSoFar bytes list rest → ¬ AtEnd rest → LeavesOne pair_symbols rest stop
    → IsStop SpellsPairs BadInPairs (Unit {0}) bytes stop
pairs_stop bytes rest list stop so_far other leaves =
    stop_so_far pair_item (Unit {0}) bytes rest list stop so_far other (stop_among no_blanks pair_symbols refl SpellsPairs BadInPairs pairs_close (Unit {0})
    rest stop leaves)

pub pairs_read : (bytes rest : List ℕ) (list : List Pair) → PairsSoFar bytes list rest → AtEnd rest → IsMadeOf (pairs_to_end list) bytes
pairs_read bytes rest list so_far end = all_read pair_item (Unit {0}) bytes rest list so_far end

pub pairs_bounded : (bytes rest : List ℕ) (list : List Pair) → PairsSoFar bytes list rest → AllByRecursion IsBounded (pairs_to_end list)
pairs_bounded bytes rest list so_far = all_bounded pair_item (Unit {0}) bytes rest list so_far (tt, tt)

-- Bytes that blanks and others begin are not the end.
pub not_at_end : (bytes rest : List ℕ) → Takes AnyBlanks tt bytes rest → rest ≢ [] → ¬ AtEnd bytes
not_at_end bytes rest takes some = λ (prefix, more, whole, are, end).
    let other : Takes AnyBlanks tt bytes more = record { prefix = prefix; bytes_are = whole; is = are; ends = subst (EndsRun is_blank) (sym end) tt } in
    some ((takes_unique AnyBlanks tt tt bytes rest more takes other).1 ∙ end)

pub at_end : (bytes rest : List ℕ) → Takes AnyBlanks tt bytes rest → rest ≡ [] → AtEnd bytes
at_end bytes rest takes end = (takes.prefix, rest, takes.bytes_are, takes.is, end)

-- A pair has some byte.
pub pair_shorter : (key : List ℕ) (value : Value) (bytes rest : List ℕ) → ReadsAll pair_symbols (pair_contents key value) bytes rest
    → length rest < length bytes
pair_shorter key value bytes rest (middle, reads, later) =
    let after = read_within (AnyName ∷ Sign (codes "=") ∷ AnyValue ∷ []) (key, (tt, (value, tt))) middle rest later in
    let len : length bytes ≡ length reads.takes.prefix + length middle = ap length reads.takes.bytes_are ∙ length-append reads.takes.prefix middle in
    let some = not_empty reads.takes.prefix reads.takes.is.1 in
    omega (arith, after, len, some)
  where
    not_empty : (gap : List ℕ) → gap ≢ [] → 0 < length gap
    not_empty [] some = absurd (some refl)
    not_empty (b ∷ gap) some = omega arith
