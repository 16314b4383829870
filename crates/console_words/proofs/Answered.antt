-- The two directions: the words that clap takes ask for something, and the words that do are taken.
use Rattle.std.proofs.Common.{◌≡◌, ◌≢◌, ◌∙◌, ◌||◌, Bool, true, false, codes, inl, inr, refl, sym, ap, subst, List, []}
use Rattle.std.proofs.Common.{◌∷◌, Option, Some, None, ◌-◌, arith, drop, length, map, take}
use Rattle.std.specs.Prelude.{Err, IsErrOf, option_map}
use Rattle.std.specs.List.{list_any}
use Rattle.std.specs.Str.{bytes_eq}
use Rattle.clap.specs.Walk.{Row, Text, nothing_held, rows_of}
use Rattle.std.proofs.lemmas.List.{take_all}
use Rattle.clap.specs.Kinds.{HasKind}
use Rattle.clap.specs.Simple.{App, is_simple, matches_of, subcommand_of, subcommand_rows_of}
use Rattle.clap.specs.Faults.{fault_of, is_simple_and_free, level_fault}
use Rattle.clap.specs.Matches.{one_text, subcommand_name_of}
use Rattle.clap.specs.Values.{kind_of}
use Rattle.clap.specs.declared.parser.matches.ArgMatches.{ArgMatches}
use Rattle.clap.specs.declared.parser.matches.ArgMatches.TheViews.{out-ArgMatches}
use Rattle.clap.specs.declared.parser.matches.Found.{Found}
use Rattle.clap.specs.declared.error.Error.{Error}
use Rattle.clap.specs.declared.error.kind.ErrorKind.TheVariants.{OutOfMemory}
use Rattle.clap.proofs.WalkLemmas.{list_any-map, one_text-rows}
use Rattle.console_words.specs.Command.{program_app}
use Rattle.console_words.specs.Numbers.{ReadsNumber, ReadsSample}
use Rattle.console_words.specs.Words.{AsksFor, AsksForLines, AsksForRun}
use Rattle.console_words.specs.declared.asked.Asked.{Asked}
use Rattle.console_words.specs.declared.asked.Asked.TheVariants.{Follow, Run, Sample}
use Rattle.console_words.specs.declared.words_fault.WordsFault.{WordsFault}
use Rattle.console_words.specs.declared.run_options.RunOptions.{RunOptions}
use Rattle.console_words.specs.declared.sample_options.SampleOptions.{SampleOptions}
use Rattle.console_words.proofs.Turns.{escape, idle_at}
use Rattle.console_words.proofs.Reading.{LacksEscape, LacksEscape-words_of, Reads, back, end_of, level_back, level_from, reads, words_of}
use Rattle.console_words.proofs.Program.{Sub, begins_sub, follows, leaf_of, no_words, runs, samples, sub_back, sub_from, sub_name, sub_rows, subcommand_at}
use Rattle.console_words.proofs.Asks.{RunAnswers, asks_back, asks_for}
use Rattle.console_words.proofs.Sampling.{sample_from}
use Rattle.console_words.proofs.Sampled.{SampleAnswers, asks_for_sample, sample_asked, sample_is_read}

pub list_any-LacksEscape : (ws : List Text) → LacksEscape ws → list_any (λ w. bytes_eq w escape) ws ≡ false
list_any-LacksEscape [] h = refl
list_any-LacksEscape (w ∷ ws) h = rw h.0 (list_any-LacksEscape ws h.1)

pub LacksEscape-from_list_any : (ws : List Text) → list_any (λ w. bytes_eq w escape) ws ≡ false → LacksEscape ws
LacksEscape-from_list_any [] e = tt
LacksEscape-from_list_any (w ∷ ws) e = go (bytes_eq w escape) refl (LacksEscape-from_list_any ws) e
  where
    go : (b : Bool) → bytes_eq w escape ≡ b → (list_any (λ w. bytes_eq w escape) ws ≡ false → LacksEscape ws)
        → (b || list_any (λ w. bytes_eq w escape) ws) ≡ false → LacksEscape (w ∷ ws)
    go true is more h = cc
    go false is more h = (is, more h)

-- the test of the words behind the name, as texts
pub escape_of_texts : {X : Type 0} (f : X → Text) (xs : List X)
    → list_any (λ x. bytes_eq (f x) escape) (take (length xs - 1) (drop 1 xs)) ≡ list_any (λ w. bytes_eq w escape) (drop 1 (map f xs))
escape_of_texts f [] = refl
escape_of_texts f (x ∷ xs) =
    let whole : take (length (x ∷ xs) - 1) xs ≡ xs = take_all (length (x ∷ xs) - 1) xs (omega arith) in
    ap (list_any (λ y. bytes_eq (f y) escape)) whole ∙ list_any-map (λ w. bytes_eq w escape) f xs

-- what the words ask for, as the level of a subcommand
record SubBack (words : List Text) : Type 0 where
  which : Sub
  name : Text
  rest : List Text
  words_are : words ≡ name ∷ sub_name which ∷ rest
  lacks : LacksEscape rest
  level : level_fault (leaf_of which) [] nothing_held rest false [] ≡ []

sub_back_of : (words : List Text) (asked : Asked) → AsksFor words asked → SubBack words
sub_back_of words (Run options) a =
    let b = asks_back words options a in
    let rest = back b.passes.uses [] None refl b.passes.pass in
    record {
      which = runs;
      name = b.name;
      rest = words_of b.passes.uses;
      words_are = b.words_are ∙ ap (λ ws. b.name ∷ codes "run" ∷ ws) b.passes.words_are;
      lacks = LacksEscape-words_of b.passes.uses [] b.passes.pass;
      level = level_back (words_of b.passes.uses) rest;
    }
sub_back_of words (Sample options) a =
    let b = sample_asked (codes "sample") 20000 (omega arith) words options a in
    record { which = samples; name = b.name; rest = b.rest; words_are = b.words_are; lacks = b.lacks; level = b.level }
sub_back_of words (Follow options) a =
    let b = sample_asked (codes "follow") 2000 (omega arith) words options a in
    record { which = follows; name = b.name; rest = b.rest; words_are = b.words_are; lacks = b.lacks; level = b.level }

-- words with a `--` behind the name ask for nothing
pub escape_asks_nothing : (words : List Text) → list_any (λ w. bytes_eq w escape) (drop 1 words) ≡ true → (asked : Asked) → AsksFor words asked → ⊥
escape_asks_nothing words e asked a =
    let b = sub_back_of words asked a in
    let lacks : LacksEscape (sub_name b.which ∷ b.rest) = (no_escape b.which, b.lacks) in
    let none : list_any (λ w. bytes_eq w escape) (drop 1 words) ≡ false =
    ap (λ ws. list_any (λ w. bytes_eq w escape) (drop 1 ws)) b.words_are ∙ list_any-LacksEscape (sub_name b.which ∷ b.rest) lacks in
    let both : true ≡ false = sym e ∙ none in
    cc
  where
    no_escape : (which : Sub) → bytes_eq (sub_name which) escape ≡ false
    no_escape runs = refl
    no_escape samples = refl
    no_escape follows = refl

-- what is asked for is taken
pub asked_is_taken : (words : List Text) (asked : Asked) → AsksFor words asked → fault_of program_app words ≡ []
asked_is_taken words asked a =
    let b = sub_back_of words asked a in
    ap (fault_of program_app) b.words_are ∙ sub_back b.which b.rest b.level

-- a kind that the words give is no want of memory
pub refused_asks_nothing : (words : List Text) (error : Error) (app : App) → app ≡ program_app
    → (is_simple_and_free app ≡ true → HasKind (fault_of app words) error) → kind_of error ≢ OutOfMemory
    → (asked : Asked) → AsksFor words asked → ⊥
refused_asks_nothing words error app is kinds no_memory asked a =
    let none : fault_of app words ≡ [] = ap (λ (x : App). fault_of x words) is ∙ asked_is_taken words asked a in
    let has : HasKind [] error = subst (λ k. HasKind k error) none (kinds (ap is_simple_and_free is)) in
    elim has [ inl memory ↦ no_memory memory | inr among ↦ absurd among ]

-- ---- the words that are taken

-- the words were taken, and their subcommand is this one
pub record IsTaken (words : List Text) (sub : Option (Text × List Row)) : Type 0 where
  pub lacks : LacksEscape (drop 1 words)
  pub no_fault : fault_of program_app words ≡ []
  pub sub_is : subcommand_of program_app words ≡ sub

pub taken_by : (words : List Text) → list_any (λ w. bytes_eq w escape) (drop 1 words) ≡ false → (app : App) → app ≡ program_app
    → (is_simple_and_free app ≡ true → fault_of app words ≡ []) → (top : List Row) (sub : Option (Text × List Row))
    → (is_simple app ≡ true → (top ≡ matches_of app words) × (sub ≡ subcommand_of app words)) → IsTaken words sub
taken_by words lacks app is kinds top sub found = record {
  lacks = LacksEscape-from_list_any (drop 1 words) lacks;
  no_fault = ap (λ (x : App). fault_of x words) (sym is) ∙ kinds (ap is_simple_and_free is);
  sub_is = ap (λ (x : App). subcommand_of x words) (sym is) ∙ sym (found (ap is_simple is)).1;
}

abbrev name_in : Option (Text × List Row) → Option Text
name_in = option_map (λ (p : Text × List Row). p.0)

abbrev rows_in : Option (Text × List Row) → Option (List Row)
rows_in = option_map (λ (p : Text × List Row). p.1)

-- a subcommand's name and rows, each found by itself
same_sub : (sub : Option (Text × List Row)) (name : Text) (rows : List Row) → name_in sub ≡ Some name → rows_in sub ≡ Some rows → sub ≡ Some (name, rows)
same_sub None name rows e f = cc
same_sub (Some p) name rows e f =
    let first : p.0 ≡ name = cc in
    let second : p.1 ≡ rows = cc in
    ap Some (ap (λ n. (n, p.1)) first ∙ ap (λ r. (name, r)) second)

-- the words as the level of a subcommand
record SubTaken (words : List Text) (sub : Option (Text × List Row)) : Type 0 where
  which : Sub
  name : Text
  rest : List Text
  words_are : words ≡ name ∷ sub_name which ∷ rest
  lacks : LacksEscape rest
  level : level_fault (leaf_of which) [] nothing_held rest false [] ≡ []
  sub_is : sub ≡ Some (sub_name which, sub_rows which rest)

sub_taken : (words : List Text) (sub : Option (Text × List Row)) → IsTaken words sub → SubTaken words sub
sub_taken [] sub t = absurd (no_words t.no_fault)
sub_taken (name ∷ ws) sub t =
    let begins = begins_sub ws t.lacks t.no_fault in
    let words_are : (name ∷ ws) ≡ name ∷ sub_name begins.which ∷ begins.rest = ap (λ t. name ∷ t) begins.words_are in
    let lacks : LacksEscape (sub_name begins.which ∷ begins.rest) = subst LacksEscape begins.words_are t.lacks in
    record {
      which = begins.which;
      name = name;
      rest = begins.rest;
      words_are = words_are;
      lacks = lacks.1;
      level = sub_from begins.which begins.rest (ap (fault_of program_app) (sym words_are) ∙ t.no_fault);
      sub_is = sym t.sub_is ∙ (ap (subcommand_of program_app) words_are ∙ subcommand_at begins.which name begins.rest);
    }

-- no other subcommand is met
pub no_other_sub : (words : List Text) (sub : Option (Text × List Row)) → IsTaken words sub
    → (name_in sub ≡ Some (codes "run") → ⊥) → (name_in sub ≡ Some (codes "sample") → ⊥) → (name_in sub ≡ Some (codes "follow") → ⊥) → ⊥
no_other_sub words sub t no_run no_sample no_follow = go s.which (ap name_in s.sub_is)
  where
    s : SubTaken words sub
    s = sub_taken words sub t

    go : (which : Sub) → name_in sub ≡ Some (sub_name which) → ⊥
    go runs e = no_run e
    go samples e = no_sample e
    go follows e = no_follow e

-- the names of the subcommands differ
one_name : (a b : Sub) → sub_name a ≡ sub_name b → a ≡ b
one_name runs runs e = refl
one_name runs samples e = let same : true ≡ false = ap (λ n. bytes_eq n (codes "run")) e in cc
one_name runs follows e = let same : true ≡ false = ap (λ n. bytes_eq n (codes "run")) e in cc
one_name samples runs e = let same : true ≡ false = ap (λ n. bytes_eq n (codes "sample")) e in cc
one_name samples samples e = refl
one_name samples follows e = let same : true ≡ false = ap (λ n. bytes_eq n (codes "sample")) e in cc
one_name follows runs e = let same : true ≡ false = ap (λ n. bytes_eq n (codes "follow")) e in cc
one_name follows samples e = let same : true ≡ false = ap (λ n. bytes_eq n (codes "follow")) e in cc
one_name follows follows e = refl

pair_parts : (a b : Text × List Row) → Some a ≡ Some b → (a.0 ≡ b.0) × (a.1 ≡ b.1)
pair_parts a b e =
    let same : a ≡ b = cc in
    (ap (λ (p : Text × List Row). p.0) same, ap (λ (p : Text × List Row). p.1) same)

module _ (words : List Text) (sub : Option (Text × List Row)) (t : IsTaken words sub) (rows : List Row) (rows_is : rows_in sub ≡ Some rows) where
  s : SubTaken words sub
  s = sub_taken words sub t

  -- the subcommand of the name, in place of the one that was taken
  abbrev IsThat : Sub → Type 0
  IsThat which = (rows ≡ sub_rows which s.rest) × (words ≡ s.name ∷ sub_name which ∷ s.rest)
      × (level_fault (leaf_of which) [] nothing_held s.rest false [] ≡ [])

  is_that : (which : Sub) → name_in sub ≡ Some (sub_name which) → IsThat which
  is_that which name_is = subst IsThat same_which (parts.1, s.words_are, s.level)
    where
      parts : (sub_name which ≡ sub_name s.which) × (rows ≡ sub_rows s.which s.rest)
      parts = pair_parts (sub_name which, rows) (sub_name s.which, sub_rows s.which s.rest)
          (sym (same_sub sub (sub_name which) rows name_is rows_is) ∙ s.sub_is)

      same_which : s.which ≡ which
      same_which = one_name s.which which (sym parts.0)

  pub run_asks : name_in sub ≡ Some (codes "run") → (options : RunOptions) → RunAnswers rows options → AsksFor words (Run options)
  run_asks name_is options answers =
      let run = is_that runs name_is in
      let r : Reads [] None s.rest (end_of (idle_at [] None) s.rest) = (reads s.rest s.lacks).0 [] None (level_from s.rest run.2) in
      let asks = asks_for s.name r.uses options r.pass (subst (λ (rows : List Row). RunAnswers rows options) (run.0 ∙ r.ends) answers) in
      subst (λ (words : List Text). AsksForRun words options) (sym (run.1 ∙ ap (λ t. s.name ∷ codes "run" ∷ t) r.words_are)) asks

  pub sample_asks : name_in sub ≡ Some (codes "sample") → (options : SampleOptions) → SampleAnswers rows (Some options) → AsksFor words (Sample options)
  sample_asks name_is options answers =
      let sample = is_that samples name_is in
      let asks = asks_for_sample (codes "sample") 20000 (omega arith) s.rest (sample_from (codes "sample") 20000 s.rest s.lacks sample.2) s.name options
      (subst (λ (rows : List Row). SampleAnswers rows (Some options)) sample.0 answers) in
      subst (λ (words : List Text). AsksForLines (codes "sample") 20000 words options) (sym sample.1) asks

  pub follow_asks : name_in sub ≡ Some (codes "follow") → (options : SampleOptions) → SampleAnswers rows (Some options) → AsksFor words (Follow options)
  follow_asks name_is options answers =
      let follow = is_that follows name_is in
      let asks = asks_for_sample (codes "follow") 2000 (omega arith) s.rest (sample_from (codes "follow") 2000 s.rest s.lacks follow.2) s.name options
      (subst (λ (rows : List Row). SampleAnswers rows (Some options)) follow.0 answers) in
      subst (λ (words : List Text). AsksForLines (codes "follow") 2000 words options) (sym follow.1) asks

  -- the numbers of a sample that was taken are there
  pub sample_is_given : name_in sub ≡ Some (codes "sample") → SampleAnswers rows None → ⊥
  sample_is_given name_is answers =
      let sample = is_that samples name_is in
      sample_is_read (codes "sample") 20000 (omega arith) s.rest (sample_from (codes "sample") 20000 s.rest s.lacks sample.2)
      (subst (λ (rows : List Row). SampleAnswers rows None) sample.0 answers)

  pub follow_is_given : name_in sub ≡ Some (codes "follow") → SampleAnswers rows None → ⊥
  follow_is_given name_is answers =
      let follow = is_that follows name_is in
      sample_is_read (codes "follow") 2000 (omega arith) s.rest (sample_from (codes "follow") 2000 s.rest s.lacks follow.2)
      (subst (λ (rows : List Row). SampleAnswers rows None) follow.0 answers)

pub same_error : (a b : WordsFault) → IsErrOf {T = Asked} (Err a) b → a ≡ b
same_error a b e = cc

-- what the getters of a subcommand's matches give, by its rows
pub run_found : (f : Found) (options : RunOptions) → ReadsNumber 16 (one_text f (codes "threshold")) options.threshold
    → ReadsNumber 32 (one_text f (codes "limit")) options.limit → RunAnswers (rows_of f) options
run_found f options threshold limit = record {
  threshold = subst (λ o. ReadsNumber 16 o options.threshold) (one_text-rows f (codes "threshold")) threshold;
  limit = subst (λ o. ReadsNumber 32 o options.limit) (one_text-rows f (codes "limit")) limit;
}

pub sample_found : (f : Found) (options : Option SampleOptions) → ReadsSample (one_text f (codes "seed")) (one_text f (codes "count")) options
    → SampleAnswers (rows_of f) options
sample_found f options reads = rw (← one_text-rows f (codes "seed"), ← one_text-rows f (codes "count")) reads

-- a name is that of the rows that stand with it
pub names_of_rows : (m : ArgMatches) → subcommand_name_of m ≡ name_in (subcommand_rows_of m)
names_of_rows m = go (out-ArgMatches m).subcommand _ _
  where
    go : {A : Type 0} (o : Option A) (f : A → Text) (g : A → List Row) → option_map f o ≡ name_in (option_map (λ (a : A). (f a, g a)) o)
    go None f g = refl
    go (Some a) f g = refl
