-- What the readers of a repeat have read, from place to place.
use Rattle.std.proofs.Common.{◌≡◌, ◌≢◌, ◌≤◌, ◌<◌, ◌+◌, ◌-◌, ◌⊎◌, inl, inr, ℕ, zero, suc, max, nat_eq, nat_lt}
use Rattle.std.proofs.Common.{if◌then◌else◌, cond, Bool, true, false, Option, Some, None, List, [], ◌∷◌, ◌++◌, length}
use Rattle.std.proofs.Common.{get_or, map, take, drop, codes, refl, sym, ap, ◌∙◌, subst, ⊎_elim, length-append, arith}
use Rattle.std.specs.Cmp.Lexicographic.{pointwise}
use Rattle.std.proofs.lemmas.Bool.Decides.{nat_tests}
use Rattle.plain_graph.specs.declared.command.Command.{Command}
use Rattle.plain_graph.specs.declared.query.BodyStep.{BodyStep}
use Rattle.plain_graph.specs.declared.query.BodyStep.TheVariants as bodies
use Rattle.plain_graph.specs.declared.query.Query.{Query}
use Rattle.plain_graph.specs.declared.query.Step.{Step}
use Rattle.plain_graph.specs.declared.query.Step.TheVariants as steps
use Rattle.gremlin_parse.specs.Grammar.{IsBounded}
use Rattle.gremlin_parse.specs.Keywords.{Entry, common, lookup, reach, whole_word, TakesWord}
use Rattle.gremlin_parse.specs.Reading.{first_byte}
use Rattle.gremlin_parse.specs.Symbols.{AnyTimes, AnyBlanks, Sign, Reads, ReadsToken, Leaves}
use Rattle.gremlin_parse.specs.Stages.{added_count, fits, is_by, late_fault, name_count, step_count, step_fault, steps_of}
use Rattle.gremlin_parse.specs.Turns.{IsBadWord, LeavesWords, ThenSign, ThenOther, BadOther, Leads, KeptFrom, BadFrom, Loosely}
use Rattle.gremlin_parse.specs.Queries.{body_words, as_step_word, OfBody, Place, Steps, Closing, BodyFirst, Underscore}
use Rattle.gremlin_parse.specs.Queries.{AfterAnonymous, BodyName, OpensBody, InBody, AfterBody, TimesWord, OpensTimes}
use Rattle.gremlin_parse.specs.Queries.{TimesOf, body_name, opened_body, count_before, bare_step, names_step, step_of}
use Rattle.gremlin_parse.specs.Queries.{with_step, LeavesBoth, LeadsTo, StopsFrom, turn, is_loose}
use Rattle.gremlin_parse.specs.declared.bad_token.BadToken.{BadToken}
use Rattle.gremlin_parse.specs.declared.bad_token.BadToken.TheVariants.{LateStep, UnfitStep}
use Rattle.gremlin_parse.specs.declared.stage.Stage.{Stage}
use Rattle.gremlin_parse.specs.declared.step_word.BareStep.{BareStep}
use Rattle.gremlin_parse.specs.declared.step_word.BareStep.TheVariants as bare
use Rattle.gremlin_parse.specs.declared.step_word.NamesStep.{NamesStep}
use Rattle.gremlin_parse.specs.declared.step_word.NamesStep.TheVariants as of_names
use Rattle.gremlin_parse.specs.declared.step_word.BodyWord.{BodyWord}
use Rattle.gremlin_parse.specs.declared.step_word.StepWord.{StepWord}
use Rattle.gremlin_parse.specs.declared.step_word.StepWord.TheVariants as words
use Rattle.gremlin_parse.specs.declared.stop.Stop.{Stop}
use Rattle.gremlin_parse.specs.declared.stop.Stop.TheVariants as stops
use Rattle.gremlin_parse.proofs.Stops.{first_byte-append}
use Rattle.gremlin_parse.proofs.Tables.{word_table, IsWordTable, whole_word_of}
use Rattle.gremlin_parse.proofs.Turns.{NoSign, NoSign-first_byte, sign_refuses}
use Rattle.gremlin_parse.proofs.Moves.{LooseLine, LooseBad, AtEnd, Any, line_split, line_join, bad_split, bad_join}
use Rattle.gremlin_parse.proofs.Walks.{reaches_next}
use Rattle.gremlin_parse.proofs.QueryPlaces.{are, some, no_signs, Line}
use Rattle.gremlin_parse.proofs.QueryReads.{on, stop_at, token_leads, sign_leads, leaves_both, stop_at_sign, no_one_sign, opened_body_loose}

-- ---- the words of a body among those of steps

abbrev Among : List (Entry BodyWord) → List (Entry StepWord)
Among table = map as_step_word table

lookup_some : (table : List (Entry BodyWord)) (run : List ℕ) (word : BodyWord) → lookup table run ≡ Some word
    → lookup (Among table) run ≡ Some (words.Body word)
lookup_some [] run word is = cc
lookup_some (first ∷ table) run word is = here (lookup_some table run word) (pointwise nat_eq first.0 run) is
  where
    here : (lookup table run ≡ Some word → lookup (Among table) run ≡ Some (words.Body word)) → (t : Bool)
        → cond t (Some first.1) (lookup table run) ≡ Some word → cond t (Some (words.Body first.1)) (lookup (Among table) run) ≡ Some (words.Body word)
    here later true is = let same : first.1 ≡ word = cc in ap (λ (w : BodyWord). Some (words.Body w)) same
    here later false is = later is

lookup_none : (table : List (Entry BodyWord)) (run : List ℕ) → lookup table run ≡ None → lookup (Among table) run ≡ None
lookup_none [] run none = refl
lookup_none (first ∷ table) run none = here (lookup_none table run) (pointwise nat_eq first.0 run) none
  where
    here : (lookup table run ≡ None → lookup (Among table) run ≡ None) → (t : Bool) → cond t (Some first.1) (lookup table run) ≡ None
        → cond t (Some (words.Body first.1)) (lookup (Among table) run) ≡ None
    here later true is = cc
    here later false is = later is

reach-among : (table : List (Entry BodyWord)) (run : List ℕ) → reach (Among table) run ≡ reach table run
reach-among [] run = refl
reach-among (first ∷ table) run = ap (max (common first.0 run)) (reach-among table run)

whole_some : (table : List (Entry BodyWord)) (bytes : List ℕ) (word : BodyWord) → whole_word table bytes ≡ Some word
    → whole_word (Among table) bytes ≡ Some (words.Body word)
whole_some table bytes word is = ap (λ n. lookup (Among table) (take n bytes)) (reach-among table bytes)
    ∙ lookup_some table (take (reach table bytes) bytes) word is

whole_none : (table : List (Entry BodyWord)) (bytes : List ℕ) → whole_word table bytes ≡ None → whole_word (Among table) bytes ≡ None
whole_none table bytes none = ap (λ n. lookup (Among table) (take n bytes)) (reach-among table bytes) ∙ lookup_none table (take (reach table bytes) bytes) none

bad_among : (table : List (Entry BodyWord)) (fault : Option BadToken) (kind : BadToken) (left : ℕ) (bytes : List ℕ)
    → IsBadWord table (λ _ _. fault) kind left bytes → IsBadWord (Among table) (λ _ _. fault) kind left bytes
bad_among table fault kind left bytes (word, is, out, at) = (words.Body word, whole_some table bytes word is, out, at)

bad_from_among : (table : List (Entry BodyWord)) (fault : Option BadToken) (kind : BadToken) (left : ℕ) (bytes : List ℕ)
    → IsBadWord (Among table) (λ _ _. fault) kind left bytes → IsBadWord table (λ _ _. fault) kind left bytes
bad_from_among table fault kind left bytes (other, is, out, at) = by_word (whole_word table bytes) refl
  where
    by_word : (found : Option BodyWord) → whole_word table bytes ≡ found → IsBadWord table (λ _ _. fault) kind left bytes
    by_word None none = let clash : None ≡ Some other = sym (whole_none table bytes none) ∙ is in cc
    by_word (Some word) found = (word, found, out, at)

leaves_among : (table : List (Entry BodyWord)) (fault : Option BadToken) (bytes : List ℕ) (stop : Stop) → LeavesWords table (λ _ _. fault) bytes stop
    → LeavesWords (Among table) (λ _ _. fault) bytes stop
leaves_among table fault bytes stops.Memory leaves = leaves
leaves_among table fault bytes (stops.Syntax left) ((run, rest, cut, none, left_is), no_bad) = (
  (run, rest, cut, lookup_none table run none, left_is ∙ ap (λ n. length bytes - n) (sym (reach-among table run))),
  λ kind place bad. no_bad kind place (bad_from_among table fault kind place bytes bad),
)
leaves_among table fault bytes (stops.Bad kind left) leaves = bad_among table fault kind left bytes leaves

-- ---- the fault of a name

body_words_are : IsWordTable body_words
body_words_are = word_table body_words refl

-- A word that was read without a fault is none of a 33rd step.
pub read_in_time : {Word : Type 0} → (table : List (Entry Word)) → IsWordTable table → (before : ℕ) (bytes rest : List ℕ) (word : Word)
    → ((kind : BadToken) (place : ℕ) → ¬ IsBadWord table (λ _ _. late_fault before) kind place bytes) → TakesWord table bytes word rest
    → late_fault before ≡ None
read_in_time table is_table before bytes rest word no_bad takes = by_fault (late_fault before) refl
  where
    by_fault : (found : Option BadToken) → late_fault before ≡ found → late_fault before ≡ None
    by_fault None is = is
    by_fault (Some kind) is = absurd (no_bad kind (length bytes) (word, whole_word_of table is_table bytes rest word takes, is, refl))

pub read_early : (before : ℕ) (bytes rest : List ℕ) (word : BodyWord) → ((kind : BadToken) (place : ℕ) → ¬ IsBadWord body_words (λ _ _. late_fault before)
    kind place bytes) → TakesWord body_words bytes word rest → late_fault before ≡ None
read_early = read_in_time body_words body_words_are

below_33 : (n : ℕ) → nat_lt n 32 ≡ true → n < 32
below_33 n is = grind (arith, nat_tests)

-- A name without that fault is one of the first 32 steps.
pub before_33rd : (n : ℕ) → late_fault n ≡ None → n < 32
before_33rd n none = by_test (nat_lt n 32) refl none
  where
    by_test : (t : Bool) → nat_lt n 32 ≡ t → (if t then None else Some LateStep) ≡ None → n < 32
    by_test true is none = below_33 n is
    by_test false is none = cc

pub early_step : (stage : Stage) (word : StepWord) (bytes : List ℕ) → stage.steps ≤ 32 → step_fault stage word bytes ≡ None → stage.steps + name_count word ≤ 32
early_step stage word bytes early none = by_word (is_by word) none
  where
    by_fit : (t : Bool) → (if t then late_fault stage.steps else Some UnfitStep) ≡ None → stage.steps + 1 ≤ 32
    by_fit true none = let before = before_33rd stage.steps none in omega (arith, before)
    by_fit false none = cc

    by_word : (t : Bool) → (if t then None else (if fits stage.items word bytes then late_fault stage.steps else Some UnfitStep)) ≡ None
        → stage.steps + cond t 0 1 ≤ 32
    by_word true none = omega (arith, early)
    by_word false none = by_fit (fits stage.items word bytes) none

-- A step that counts one is among the first 32 where its name is.
pub one_more : (before : ℕ) (word : StepWord) (step : Step) → step_count step ≡ 1 → before + name_count word ≤ 32 → before + added_count word step ≤ 32
one_more before word step one early = by_word (is_by word) early
  where
    by_word : (t : Bool) → before + cond t 0 1 ≤ 32 → before + cond t 0 (step_count step) ≤ 32
    by_word true early = early
    by_word false early = omega (arith, one, early)

pub repeat_few : (before : ℕ) (word : StepWord) (step : Step) → word ≡ words.Repeat → before + step_count step ≤ 32 → before + added_count word step ≤ 32
repeat_few before word step is few =
    let same : added_count word step ≡ step_count step = ap (λ (w : StepWord). added_count w step) is in
    omega (arith, same, few)

pub one_bare : (step : BareStep) → step_count (bare_step step) ≡ 1
one_bare bare.OutV = refl
one_bare bare.InV = refl
one_bare bare.Id = refl
one_bare bare.Label = refl
one_bare bare.Dedup = refl
one_bare bare.Count = refl

pub one_with_names : (step : NamesStep) (names : List (List ℕ)) → step_count (names_step step names) ≡ 1
one_with_names (of_names.Incident direction) names = refl
one_with_names of_names.Values names = refl

pub one_of_body : (step : BodyStep) → step_count (step_of step) ≡ 1
one_of_body (bodies.Neighbours hop) = refl
one_of_body (bodies.Filter filter) = refl

-- ---- a step of a body

body_word_leads : (query : Query) (body : List BodyStep) (word : BodyWord) (bytes middle rest : List ℕ) → late_fault (count_before query body) ≡ None
    → TakesWord body_words bytes word middle → Reads AnyBlanks tt middle rest → LeadsTo (BodyName query body) bytes (OpensBody query body word) rest
body_word_leads query body word bytes middle rest early (run, cut, is) blanks =
    reaches_next turn is_loose are some (BodyName query body) bytes (OpensBody query body word) middle rest
    (record { prefix = run; bytes_are = cut.bytes_are; how = inr (words.Body word, refl, early, lookup_some body_words run word is, cut.passes, cut.ends) })
    blanks

early_at : (before : ℕ) (query : Query) (body : List BodyStep) → late_fault before ≡ None → count_before query body ≡ before
    → late_fault (count_before query body) ≡ None
early_at before query body early same = ap late_fault same ∙ early

pub stop_at_body_name : (before : ℕ) (bytes : List ℕ) (stop : Stop) → LeavesWords body_words (λ _ _. late_fault before) bytes stop
    → (query : Query) (body : List BodyStep) → count_before query body ≡ before → StopsFrom (BodyName query body) bytes stop
stop_at_body_name before bytes stop leaves query body same =
    stop_at (BodyName query body) bytes stop (record {
      no_end = λ end ends. cc;
      no_sign = no_signs bytes;
      other = subst (λ n. LeavesWords (Among body_words) (λ _ _. late_fault n) bytes stop) (sym same)
          (leaves_among body_words (late_fault before) bytes stop leaves);
    })

pub stop_at_body_opening : (before : ℕ) (bytes after_name at_open : List ℕ) (word : BodyWord) (stop : Stop) → late_fault before ≡ None
    → TakesWord body_words bytes word after_name → Reads AnyBlanks tt after_name at_open → Leaves (Sign (40 ∷ [])) at_open stop
    → (query : Query) (body : List BodyStep) → count_before query body ≡ before → StopsFrom (BodyName query body) bytes stop
stop_at_body_opening before bytes after_name at_open word stop early takes blanks leaves query body same =
    (body_word_leads query body word bytes after_name at_open (early_at before query body early same) takes blanks).stops stop
    (stop_at_sign (OpensBody query body word) 40 (opened_body (OfBody query body) word) at_open stop refl leaves)

pub body_opening_read : (before : ℕ) (bytes after_name at_open rest : List ℕ) (word : BodyWord) → late_fault before ≡ None
    → TakesWord body_words bytes word after_name → Reads AnyBlanks tt after_name at_open → ReadsToken (40 ∷ []) at_open rest
    → (query : Query) (body : List BodyStep) → count_before query body ≡ before
    → LeadsTo (BodyName query body) bytes (opened_body (OfBody query body) word) rest
body_opening_read before bytes after_name at_open rest word early takes blanks opening query body same =
    on (BodyName query body) bytes (OpensBody query body word) at_open (opened_body (OfBody query body) word) rest
    (body_word_leads query body word bytes after_name at_open (early_at before query body early same) takes blanks)
    (token_leads (OpensBody query body word) 40 (opened_body (OfBody query body) word) at_open rest refl (opened_body_loose (OfBody query body) word) opening)

-- ---- where a body begins

to_first : (query : Query) (bytes : List ℕ) → Line (BodyName query []) bytes → Line (BodyFirst query) bytes
to_first query bytes line = pick (line_split turn is_loose (BodyName query []) bytes line)
  where
    pick : AtEnd turn is_loose (BodyName query []) bytes ⊎ (ThenSign [] (LooseLine turn is_loose) bytes ⊎ ThenOther (Any turn is_loose) (body_name query [])
        (LooseLine turn is_loose) bytes) → Line (BodyFirst query) bytes
    pick (inl (end, ends, none)) = cc
    pick (inr (inl sign)) = absurd (sign_refuses [] (LooseLine turn is_loose) bytes (no_signs bytes) sign)
    pick (inr (inr other)) = line_join turn is_loose (BodyFirst query) bytes (inr other)

from_first : (query : Query) (bytes : List ℕ) → NoSign ((95, Underscore query) ∷ []) bytes → Line (BodyFirst query) bytes → Line (BodyName query []) bytes
from_first query bytes no_sign line = pick (line_split turn is_loose (BodyFirst query) bytes line)
  where
    pick : AtEnd turn is_loose (BodyFirst query) bytes ⊎ (ThenSign ((95, Underscore query) ∷ []) (LooseLine turn is_loose) bytes ⊎ ThenOther (Any turn is_loose)
        (body_name query []) (LooseLine turn is_loose) bytes) → Line (BodyName query []) bytes
    pick (inl (end, ends, none)) = cc
    pick (inr (inl sign)) = absurd (sign_refuses ((95, Underscore query) ∷ []) (LooseLine turn is_loose) bytes no_sign sign)
    pick (inr (inr other)) = line_join turn is_loose (BodyName query []) bytes (inr other)

bad_to_first : (query : Query) (kind : BadToken) (left : ℕ) (bytes : List ℕ) → BadFrom turn is_loose (BodyName query []) kind left bytes
    → BadFrom turn is_loose (BodyFirst query) kind left bytes
bad_to_first query kind left bytes bad = ⊎_elim
    (λ (sign : ThenSign [] (LooseBad turn is_loose kind left) bytes). absurd (sign_refuses [] (LooseBad turn is_loose kind left) bytes (no_signs bytes) sign))
    (λ (other : BadOther (body_name query []) kind left (LooseBad turn is_loose kind left) bytes). bad_join turn is_loose (BodyFirst query) kind left bytes
    (inr other))
    (bad_split turn is_loose (BodyName query []) kind left bytes bad)

bad_from_first : (query : Query) (kind : BadToken) (left : ℕ) (bytes : List ℕ) → NoSign ((95, Underscore query) ∷ []) bytes
    → BadFrom turn is_loose (BodyFirst query) kind left bytes → BadFrom turn is_loose (BodyName query []) kind left bytes
bad_from_first query kind left bytes no_sign bad = ⊎_elim
    (λ (sign : ThenSign ((95, Underscore query) ∷ []) (LooseBad turn is_loose kind left) bytes). absurd (sign_refuses ((95, Underscore query) ∷ [])
    (LooseBad turn is_loose kind left) bytes no_sign sign))
    (λ (other : BadOther (body_name query []) kind left (LooseBad turn is_loose kind left) bytes). bad_join turn is_loose (BodyName query []) kind left bytes
    (inr other))
    (bad_split turn is_loose (BodyFirst query) kind left bytes bad)

-- Where no underscore stands, a body begins with its first name.
pub body_begins : (query : Query) (bytes : List ℕ) → first_byte bytes ≢ Some 95 → LeadsTo (BodyFirst query) bytes (BodyName query []) bytes
body_begins query bytes other = record { stops = stays; kept = λ end (n, leads). keeps end n leads }
  where
    no_sign : NoSign ((95, Underscore query) ∷ []) bytes
    no_sign = no_one_sign 95 (Underscore query) bytes other

    stays : (stop : Stop) → StopsFrom (BodyName query []) bytes stop → StopsFrom (BodyFirst query) bytes stop
    stays stops.Memory at = tt
    stays (stops.Syntax left) (stop, none) = (
      record {
        read = stop.read;
        unread = stop.unread;
        bytes_are = stop.bytes_are;
        left_is = stop.left_is;
        viable = (stop.viable.0, to_first query (stop.read ++ stop.viable.0) stop.viable.1);
        none = λ more same line. stop.none more same (from_first query (stop.read ++ more) (NoSign-first_byte ((95, Underscore query) ∷ []) bytes
            (stop.read ++ more) (first_byte-append stop.read more stop.unread same ∙ ap first_byte (sym stop.bytes_are)) no_sign) line);
      },
      λ kind place bad. none kind place (bad_from_first query kind place bytes no_sign bad),
    )
    stays (stops.Bad kind left) stop = record {
      has = bad_to_first query kind left bytes stop.has;
      first = λ kind place bad. stop.first kind place (bad_from_first query kind place bytes no_sign bad);
      read = stop.read;
      unread = stop.unread;
      bytes_are = stop.bytes_are;
      left_is = stop.left_is;
      viable = (stop.viable.0, to_first query (stop.read ++ stop.viable.0) stop.viable.1);
    }

    keeps : (end : Command) (n : ℕ) → Leads turn is_loose IsBounded end n (BodyName query []) bytes → KeptFrom turn is_loose end (BodyFirst query) bytes
    keeps end zero (ends, none) = cc
    keeps end (suc n) (inl sign) = absurd (sign_refuses [] (Loosely turn is_loose (λ next rest. Leads turn is_loose IsBounded end n next rest)) bytes
        (no_signs bytes) sign)
    keeps end (suc n) (inr other) = (suc n, inr other)

-- the first of the two underscores
underscore_leads : (query : Query) (after : List ℕ) → LeadsTo (BodyFirst query) (95 ∷ after) (Underscore query) after
underscore_leads query after = sign_leads (BodyFirst query) 95 (Underscore query) (95 ∷ after) after refl refl
    (record { takes = record { prefix = 95 ∷ []; bytes_are = refl; is = refl; ends = tt }; allowed = tt; bounded = tt })

second_leads : (query : Query) (after at_dot : List ℕ) → ReadsToken (95 ∷ []) after at_dot
    → LeadsTo (BodyFirst query) (95 ∷ after) (AfterAnonymous query) at_dot
second_leads query after at_dot token = on (BodyFirst query) (95 ∷ after) (Underscore query) after (AfterAnonymous query) at_dot (underscore_leads query after)
    (token_leads (Underscore query) 95 (AfterAnonymous query) after at_dot refl refl token)

-- Bytes that begin with another byte begin with no underscore.
pub no_underscore : (bytes : List ℕ) → get_or bytes 0 0 ≢ 95 → first_byte bytes ≢ Some 95
no_underscore [] other = λ same. cc
no_underscore (b ∷ bytes) other = λ same. let is : b ≡ 95 = cc in other is

pub nothing_first : (bytes : List ℕ) → length bytes < 1 → first_byte bytes ≢ Some 95
nothing_first [] none = λ same. cc
nothing_first (b ∷ bytes) none = absurd (omega arith)

-- the bytes after the first one
abbrev pub after_first : List ℕ → List ℕ
after_first bytes = take (length bytes - 1) (drop 1 bytes)

after_first-cons : (b : ℕ) (after : List ℕ) → after_first (b ∷ after) ≡ after
after_first-cons b after = let n : length (b ∷ after) - 1 ≡ length after = omega arith in ap (λ k. take k after) n ∙ all_taken after
  where
    all_taken : (bytes : List ℕ) → take (length bytes) bytes ≡ bytes
    all_taken [] = refl
    all_taken (c ∷ bytes) = ap (λ (r : List ℕ). c ∷ r) (all_taken bytes)

pub stop_at_second : (bytes : List ℕ) (stop : Stop) → 1 ≤ length bytes → get_or bytes 0 0 ≡ 95 → Leaves (Sign (95 ∷ [])) (after_first bytes) stop
    → (query : Query) → StopsFrom (BodyFirst query) bytes stop
stop_at_second [] stop some is leaves query = absurd (omega arith)
stop_at_second (b ∷ after) stop some is leaves query =
    let at = subst (λ (a : List ℕ). Leaves (Sign (95 ∷ [])) a stop) (after_first-cons b after) leaves in
    subst (λ (c : ℕ). StopsFrom (BodyFirst query) (c ∷ after) stop) (sym is)
    ((underscore_leads query after).stops stop (stop_at_sign (Underscore query) 95 (AfterAnonymous query) after stop refl at))

pub stop_after_anonymous : (bytes at_dot : List ℕ) (stop : Stop) → 1 ≤ length bytes → get_or bytes 0 0 ≡ 95 → ReadsToken (95 ∷ []) (after_first bytes) at_dot
    → Leaves (Sign (46 ∷ [])) at_dot stop → (query : Query) → StopsFrom (BodyFirst query) bytes stop
stop_after_anonymous [] at_dot stop some is token leaves query = absurd (omega arith)
stop_after_anonymous (b ∷ after) at_dot stop some is token leaves query =
    let second = subst (λ (a : List ℕ). ReadsToken (95 ∷ []) a at_dot) (after_first-cons b after) token in
    subst (λ (c : ℕ). StopsFrom (BodyFirst query) (c ∷ after) stop) (sym is)
    ((second_leads query after at_dot second).stops stop (stop_at_sign (AfterAnonymous query) 46 (BodyName query []) at_dot stop refl leaves))

pub anonymous_read : (bytes at_dot rest : List ℕ) → 1 ≤ length bytes → get_or bytes 0 0 ≡ 95 → ReadsToken (95 ∷ []) (after_first bytes) at_dot
    → ReadsToken (46 ∷ []) at_dot rest → (query : Query) → LeadsTo (BodyFirst query) bytes (BodyName query []) rest
anonymous_read [] at_dot rest some is token dot query = absurd (omega arith)
anonymous_read (b ∷ after) at_dot rest some is token dot query =
    let second = subst (λ (a : List ℕ). ReadsToken (95 ∷ []) a at_dot) (after_first-cons b after) token in
    subst (λ (c : ℕ). LeadsTo (BodyFirst query) (c ∷ after) (BodyName query []) rest) (sym is)
    (on (BodyFirst query) (95 ∷ after) (AfterAnonymous query) at_dot (BodyName query []) rest (second_leads query after at_dot second)
    (token_leads (AfterAnonymous query) 46 (BodyName query []) at_dot rest refl refl dot))

-- ---- the steps of a body

-- what a dot, or a parenthesis, after a step of a body leads to
abbrev pub after_dot : Query → List BodyStep → Bool → Place
after_dot query body more = cond more (BodyName query body) (AfterBody query body)

dot_leads : (query : Query) (body : List BodyStep) (bytes rest : List ℕ) (more : Bool) → ReadsToken (cond more 46 41 ∷ []) bytes rest
    → LeadsTo (InBody query body) bytes (after_dot query body more) rest
dot_leads query body bytes rest true token = token_leads (InBody query body) 46 (BodyName query body) bytes rest refl refl token
dot_leads query body bytes rest false token = token_leads (InBody query body) 41 (AfterBody query body) bytes rest refl refl token

stop_in_body : (query : Query) (body : List BodyStep) (bytes : List ℕ) (stop : Stop) → LeavesBoth 46 41 bytes stop → StopsFrom (InBody query body) bytes stop
stop_in_body query body bytes stop leaves =
    let left = leaves_both 46 41 (BodyName query body) (AfterBody query body) bytes stop leaves in
    stop_at (InBody query body) bytes stop (record { no_end = λ end ends. cc; no_sign = left.0; other = left.1 })

-- What is kept while the steps of a body are read.
pub record BodySoFar (before : ℕ) (bytes : List ℕ) (more : Bool) (list : List BodyStep) (count : ℕ) (rest : List ℕ) : Type 0 where
  pub counted : before + 1 + length list ≡ count
  pub leads : (query : Query) → steps_of query ≡ before → LeadsTo (BodyFirst query) bytes (after_dot query list more) rest

-- What a step of a body promises.
abbrev pub StepReads : ℕ → BodyStep → List ℕ → List ℕ → Type 0
StepReads count step bytes rest = (query : Query) (body : List BodyStep) → count_before query body ≡ count
    → LeadsTo (BodyName query body) bytes (InBody query (body ++ step ∷ [])) rest

pub no_body_steps : (before count : ℕ) (bytes rest : List ℕ) (list : List BodyStep) → list ≡ [] → before + 1 ≡ count
    → ((query : Query) → LeadsTo (BodyFirst query) bytes (BodyName query []) rest) → BodySoFar before bytes true list count rest
no_body_steps before count bytes rest list none counted leads = record {
  counted = let len : length list ≡ 0 = ap length none in omega (arith, len, counted);
  leads = λ query same. subst (λ (body : List BodyStep). LeadsTo (BodyFirst query) bytes (BodyName query body) rest) (sym none) (leads query);
}

next_count : (before count : ℕ) (query : Query) (list : List BodyStep) → before + 1 + length list ≡ count → steps_of query ≡ before
    → count_before query list ≡ count
next_count before count query list counted same = ap (λ (n : ℕ). n + 1 + length list) same ∙ counted

to_body_name : (before count : ℕ) (bytes rest : List ℕ) (more : Bool) (list : List BodyStep) → more ≡ true → BodySoFar before bytes more list count rest
    → (query : Query) → steps_of query ≡ before → LeadsTo (BodyFirst query) bytes (BodyName query list) rest
to_body_name before count bytes rest more list goes so_far query same =
    subst (λ (t : Bool). LeadsTo (BodyFirst query) bytes (after_dot query list t) rest) goes (so_far.leads query same)

pub stop_in_body_step : (before count : ℕ) (bytes rest : List ℕ) (more : Bool) (list : List BodyStep) (stop : Stop) → more ≡ true
    → BodySoFar before bytes more list count rest → ((query : Query) (body : List BodyStep) → count_before query body ≡ count → StopsFrom (BodyName query body)
    rest stop) → (query : Query) → steps_of query ≡ before → StopsFrom (BodyFirst query) bytes stop
stop_in_body_step before count bytes rest more list stop goes so_far at query same =
    (to_body_name before count bytes rest more list goes so_far query same).stops stop (at query list (next_count before count query list so_far.counted same))

one_body_step : (before count : ℕ) (bytes rest after : List ℕ) (more : Bool) (list : List BodyStep) (step : BodyStep) → more ≡ true
    → BodySoFar before bytes more list count rest → StepReads count step rest after → (query : Query) → steps_of query ≡ before
    → LeadsTo (BodyFirst query) bytes (InBody query (list ++ step ∷ [])) after
one_body_step before count bytes rest after more list step goes so_far reads query same =
    on (BodyFirst query) bytes (BodyName query list) rest (InBody query (list ++ step ∷ [])) after
    (to_body_name before count bytes rest more list goes so_far query same) (reads query list (next_count before count query list so_far.counted same))

pub stop_after_body_step : (before count : ℕ) (bytes rest after : List ℕ) (more : Bool) (list : List BodyStep) (step : BodyStep) (stop : Stop) → more ≡ true
    → BodySoFar before bytes more list count rest → StepReads count step rest after → LeavesBoth 46 41 after stop → (query : Query) → steps_of query ≡ before
    → StopsFrom (BodyFirst query) bytes stop
stop_after_body_step before count bytes rest after more list step stop goes so_far reads leaves query same =
    (one_body_step before count bytes rest after more list step goes so_far reads query same).stops stop
    (stop_in_body query (list ++ step ∷ []) after stop leaves)

pub body_steps_more : (before count next : ℕ) (bytes rest after later : List ℕ) (more again : Bool) (list : List BodyStep) (step : BodyStep) → more ≡ true
    → BodySoFar before bytes more list count rest → StepReads count step rest after → ReadsToken (cond again 46 41 ∷ []) after later → next ≡ count + 1
    → BodySoFar before bytes again (list ++ step ∷ []) next later
body_steps_more before count next bytes rest after later more again list step goes so_far reads token next_is = record {
  counted = let len = length-append list (step ∷ []) in let now = so_far.counted in omega (arith, len, now, next_is);
  leads = λ query same.
      on (BodyFirst query) bytes (InBody query (list ++ step ∷ [])) after (after_dot query (list ++ step ∷ []) again) later
      (one_body_step before count bytes rest after more list step goes so_far reads query same)
      (dot_leads query (list ++ step ∷ []) after later again token);
}

pub body_done : (before count : ℕ) (bytes rest : List ℕ) (more : Bool) (list : List BodyStep) → more ≡ false → BodySoFar before bytes more list count rest
    → (query : Query) → steps_of query ≡ before → LeadsTo (BodyFirst query) bytes (AfterBody query list) rest
body_done before count bytes rest more list ends so_far query same = subst (λ (t : Bool). LeadsTo (BodyFirst query) bytes (after_dot query list t) rest) ends
    (so_far.leads query same)

-- ---- the call of times

-- The word stands there, and any blanks after it.
word_leads : (query : Query) (body : List BodyStep) (bytes rest : List ℕ) → ReadsToken (codes "times") bytes rest
    → LeadsTo (TimesWord query body) bytes (OpensTimes query body) rest
word_leads query body bytes rest (middle, reads, blanks) =
    reaches_next turn is_loose are some (TimesWord query body) bytes (OpensTimes query body) middle rest
    (record { prefix = reads.takes.prefix; bytes_are = reads.takes.bytes_are; how = inr (tt, refl, tt, tt, reads.takes.is, reads.takes.ends) })
    blanks

times_leads : (query : Query) (body : List BodyStep) (times : ℕ) (bytes middle rest : List ℕ) → Reads AnyTimes times bytes middle
    → Reads AnyBlanks tt middle rest → LeadsTo (TimesOf query body) bytes (Closing query (steps.Repeat body times)) rest
times_leads query body times bytes middle rest reads blanks =
    reaches_next turn is_loose are some (TimesOf query body) bytes (Closing query (steps.Repeat body times)) middle rest
    (record { prefix = reads.takes.prefix; bytes_are = reads.takes.bytes_are; how = inr (times, refl, tt, reads.bounded, reads.takes.is, reads.takes.ends) })
    blanks

to_word : (query : Query) (body : List BodyStep) (bytes at_word : List ℕ) → ReadsToken (46 ∷ []) bytes at_word
    → LeadsTo (AfterBody query body) bytes (TimesWord query body) at_word
to_word query body bytes at_word dot = token_leads (AfterBody query body) 46 (TimesWord query body) bytes at_word refl refl dot

to_open : (query : Query) (body : List BodyStep) (bytes at_word at_open : List ℕ) → ReadsToken (46 ∷ []) bytes at_word
    → ReadsToken (codes "times") at_word at_open → LeadsTo (AfterBody query body) bytes (OpensTimes query body) at_open
to_open query body bytes at_word at_open dot word = on (AfterBody query body) bytes (TimesWord query body) at_word (OpensTimes query body) at_open
    (to_word query body bytes at_word dot) (word_leads query body at_word at_open word)

to_number : (query : Query) (body : List BodyStep) (bytes at_word at_open at_number : List ℕ) → ReadsToken (46 ∷ []) bytes at_word
    → ReadsToken (codes "times") at_word at_open → ReadsToken (40 ∷ []) at_open at_number → LeadsTo (AfterBody query body) bytes (TimesOf query body) at_number
to_number query body bytes at_word at_open at_number dot word opening =
    on (AfterBody query body) bytes (OpensTimes query body) at_open (TimesOf query body) at_number (to_open query body bytes at_word at_open dot word)
    (token_leads (OpensTimes query body) 40 (TimesOf query body) at_open at_number refl refl opening)

to_close : (query : Query) (body : List BodyStep) (times : ℕ) (bytes at_word at_open at_number after at_close : List ℕ) → ReadsToken (46 ∷ []) bytes at_word
    → ReadsToken (codes "times") at_word at_open → ReadsToken (40 ∷ []) at_open at_number → Reads AnyTimes times at_number after
    → Reads AnyBlanks tt after at_close → LeadsTo (AfterBody query body) bytes (Closing query (steps.Repeat body times)) at_close
to_close query body times bytes at_word at_open at_number after at_close dot word opening reads blanks =
    on (AfterBody query body) bytes (TimesOf query body) at_number (Closing query (steps.Repeat body times)) at_close
    (to_number query body bytes at_word at_open at_number dot word opening) (times_leads query body times at_number after at_close reads blanks)

pub stop_before_times : (bytes : List ℕ) (stop : Stop) → Leaves (Sign (46 ∷ [])) bytes stop → (query : Query) (body : List BodyStep)
    → StopsFrom (AfterBody query body) bytes stop
stop_before_times bytes stop leaves query body = stop_at_sign (AfterBody query body) 46 (TimesWord query body) bytes stop refl leaves

pub stop_in_times_word : (bytes at_word : List ℕ) (stop : Stop) → ReadsToken (46 ∷ []) bytes at_word → Leaves (Sign (codes "times")) at_word stop
    → (query : Query) (body : List BodyStep) → StopsFrom (AfterBody query body) bytes stop
stop_in_times_word bytes at_word stop dot leaves query body = (to_word query body bytes at_word dot).stops stop
    (stop_at (TimesWord query body) at_word stop (record { no_end = λ end ends. cc; no_sign = no_signs at_word; other = leaves }))

pub stop_after_times_word : (bytes at_word at_open : List ℕ) (stop : Stop) → ReadsToken (46 ∷ []) bytes at_word → ReadsToken (codes "times") at_word at_open
    → Leaves (Sign (40 ∷ [])) at_open stop → (query : Query) (body : List BodyStep) → StopsFrom (AfterBody query body) bytes stop
stop_after_times_word bytes at_word at_open stop dot word leaves query body =
    (to_open query body bytes at_word at_open dot word).stops stop (stop_at_sign (OpensTimes query body) 40 (TimesOf query body) at_open stop refl leaves)

pub stop_in_times : (bytes at_word at_open at_number : List ℕ) (stop : Stop) → ReadsToken (46 ∷ []) bytes at_word → ReadsToken (codes "times") at_word at_open
    → ReadsToken (40 ∷ []) at_open at_number → Leaves AnyTimes at_number stop → (query : Query) (body : List BodyStep)
    → StopsFrom (AfterBody query body) bytes stop
stop_in_times bytes at_word at_open at_number stop dot word opening leaves query body =
    (to_number query body bytes at_word at_open at_number dot word opening).stops stop
    (stop_at (TimesOf query body) at_number stop (record { no_end = λ end ends. cc; no_sign = no_signs at_number; other = leaves }))

pub stop_after_times : (bytes at_word at_open at_number after at_close : List ℕ) (times : ℕ) (stop : Stop) → ReadsToken (46 ∷ []) bytes at_word
    → ReadsToken (codes "times") at_word at_open → ReadsToken (40 ∷ []) at_open at_number → Reads AnyTimes times at_number after
    → Reads AnyBlanks tt after at_close → Leaves (Sign (41 ∷ [])) at_close stop → (query : Query) (body : List BodyStep)
    → StopsFrom (AfterBody query body) bytes stop
stop_after_times bytes at_word at_open at_number after at_close times stop dot word opening reads blanks leaves query body =
    (to_close query body times bytes at_word at_open at_number after at_close dot word opening reads blanks).stops stop
    (stop_at_sign (Closing query (steps.Repeat body times)) 41 (Steps (with_step query (steps.Repeat body times))) at_close stop refl leaves)

pub times_read : (bytes at_word at_open at_number after at_close rest : List ℕ) (times : ℕ) → ReadsToken (46 ∷ []) bytes at_word
    → ReadsToken (codes "times") at_word at_open → ReadsToken (40 ∷ []) at_open at_number → Reads AnyTimes times at_number after
    → Reads AnyBlanks tt after at_close → ReadsToken (41 ∷ []) at_close rest → (query : Query) (body : List BodyStep)
    → LeadsTo (AfterBody query body) bytes (Steps (with_step query (steps.Repeat body times))) rest
times_read bytes at_word at_open at_number after at_close rest times dot word opening reads blanks close query body =
    on (AfterBody query body) bytes (Closing query (steps.Repeat body times)) at_close (Steps (with_step query (steps.Repeat body times))) rest
    (to_close query body times bytes at_word at_open at_number after at_close dot word opening reads blanks)
    (token_leads (Closing query (steps.Repeat body times)) 41 (Steps (with_step query (steps.Repeat body times))) at_close rest refl refl close)
