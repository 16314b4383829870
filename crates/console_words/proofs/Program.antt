-- Where clap takes the program's words: those of `run`, of `sample` and of `follow`, and no others.
use Rattle.std.proofs.Common.{◌≡◌, ◌∙◌, ◌||◌, Bool, true, false, cond, codes, refl, sym, ap, subst, List, [], ◌∷◌, ◌++◌}
use Rattle.std.proofs.Common.{Option, Some, None, is_some, append_assoc, append-nil}
use Rattle.std.specs.Prelude.{fold, option_map}
use Rattle.std.specs.Str.{bytes_eq}
use Rattle.std.proofs.lemmas.Slice.Eq.{bytes_eq-Decides}
use Rattle.clap.specs.Lexer.{long_of}
use Rattle.clap.specs.Kinds.{Kinds, or_else}
use Rattle.clap.specs.Walk.{Held, Names, Row, Step, Text, Walk, finished, idle, long_or_other, nothing_held, settled}
use Rattle.clap.specs.Walk.{subcommand_or_other, trailing, walk, walk_from, walked}
use Rattle.clap.specs.Simple.{App, Shape, built, entered, names_of, subcommand_of}
use Rattle.clap.specs.Faults.{built_fault, check_fault, defaults_fault, entered_fault, flag_word_fault, level_fault}
use Rattle.clap.specs.Faults.{other_fault, settle_fault, step_fault, stray_fault, turn_fault, walk_fault}
use Rattle.clap.proofs.FaultLemmas.{stopped_fault}
use Rattle.console_words.specs.Command.{program_app}
use Rattle.console_words.proofs.Turns.{escape, idle_at, leaf, options, or_else-both, or_else-first, or_else-second, plain_only}
use Rattle.console_words.proofs.Reading.{LacksEscape, end_of, finished-rows}
use Rattle.console_words.proofs.Sampling.{rows_at_end, sample_leaf}

abbrev pub program : App
program = built program_app

abbrev pub top : Shape
top = program.top

abbrev pub subcommands : Names
subcommands = names_of program

-- a subcommand
pub data Sub : Type 0 where
  runs : Sub
  samples : Sub
  follows : Sub

abbrev pub sub_name : Sub → Text
sub_name runs = codes "run"
sub_name samples = codes "sample"
sub_name follows = codes "follow"

abbrev pub leaf_of : Sub → Shape
leaf_of runs = leaf
leaf_of samples = sample_leaf (codes "sample") 20000
leaf_of follows = sample_leaf (codes "follow") 2000

-- ---- the walk stops at a subcommand

stopped_walk : (w : Walk) (name : Text) (front ws : List Text) → fold (walked [] subcommands) (record w { stopped = Some (name, front) }) ws ≡ record w
    { stopped = Some (name, front ++ ws) }
unfolding walked
stopped_walk w name front [] = ap (λ t. record w { stopped = Some (name, t) }) (sym (append-nil front))
stopped_walk w name front (x ∷ xs) = stopped_walk w name (front ++ x ∷ []) xs ∙ ap (λ t. record w { stopped = Some (name, t) }) (append_assoc front (x ∷ []) xs)

abbrev sub_walk : Sub → List Text → Walk
sub_walk which ws = record (walk_from nothing_held) { stopped = Some (sub_name which, ws) }

walk_at_sub : (which : Sub) (ws : List Text) → walk [] subcommands nothing_held (sub_name which ∷ ws) ≡ sub_walk which ws
unfolding walked
walk_at_sub runs ws = stopped_walk (walk_from nothing_held) (sub_name runs) [] ws
walk_at_sub samples ws = stopped_walk (walk_from nothing_held) (sub_name samples) [] ws
walk_at_sub follows ws = stopped_walk (walk_from nothing_held) (sub_name follows) [] ws

-- the faults of the program's words, by the walk over them
abbrev after_walk : Walk → List Text → Kinds
after_walk w words = or_else (walk_fault top subcommands (walk_from nothing_held) words)
    (or_else (entered_fault program w.stopped)
    (or_else (settle_fault [] false w.held)
    (or_else (defaults_fault (settled [] w.held).rows [])
    (check_fault top (finished [] w.held) (is_some (entered program w.stopped))))))

by_walk : (words : List Text) → built_fault program nothing_held words ≡ after_walk (walk [] subcommands nothing_held words) words
by_walk words = refl

sub_fault : (which : Sub) (ws : List Text) → built_fault program nothing_held (sub_name which ∷ ws) ≡ after_walk (sub_walk which ws) (sub_name which ∷ ws)
sub_fault which ws = by_walk (sub_name which ∷ ws) ∙ ap (λ w. after_walk w (sub_name which ∷ ws)) (walk_at_sub which ws)

sub_walk_fault : (which : Sub) (ws : List Text) → walk_fault top subcommands (walk_from nothing_held) (sub_name which ∷ ws) ≡ []
unfolding walk_fault walked
sub_walk_fault runs ws = stopped_fault top subcommands (walk_from nothing_held) (sub_name runs, []) ws
sub_walk_fault samples ws = stopped_fault top subcommands (walk_from nothing_held) (sub_name samples, []) ws
sub_walk_fault follows ws = stopped_fault top subcommands (walk_from nothing_held) (sub_name follows, []) ws

-- the faults after the walk are those of the subcommand
after_sub : (which : Sub) (ws : List Text) → after_walk (sub_walk which ws) (sub_name which ∷ ws)
    ≡ or_else (walk_fault top subcommands (walk_from nothing_held) (sub_name which ∷ ws)) (or_else (level_fault (leaf_of which) [] nothing_held ws false []) [])
unfolding defaults_fault
after_sub runs ws = refl
after_sub samples ws = refl
after_sub follows ws = refl

pub sub_from : (which : Sub) (ws : List Text) → built_fault program nothing_held (sub_name which ∷ ws) ≡ []
    → level_fault (leaf_of which) [] nothing_held ws false [] ≡ []
sub_from which ws e =
    let first = walk_fault top subcommands (walk_from nothing_held) (sub_name which ∷ ws) in
    let level = level_fault (leaf_of which) [] nothing_held ws false [] in
    or_else-first level [] (or_else-second first (or_else level []) (sym (sub_fault which ws ∙ after_sub which ws) ∙ e))

pub sub_back : (which : Sub) (ws : List Text) → level_fault (leaf_of which) [] nothing_held ws false [] ≡ []
    → built_fault program nothing_held (sub_name which ∷ ws) ≡ []
sub_back which ws e =
    let first = walk_fault top subcommands (walk_from nothing_held) (sub_name which ∷ ws) in
    let level = level_fault (leaf_of which) [] nothing_held ws false [] in
    sub_fault which ws ∙ (after_sub which ws ∙ or_else-both first (or_else level []) (sub_walk_fault which ws) (or_else-both level [] e refl))

-- ---- every other word is refused

abbrev sub_by : Bool → Bool → Bool → Option Text
sub_by is_run is_sample is_follow = option_map (λ (s : Text × List Text). s.0)
    (cond (is_run || false) (Some (sub_name runs, []))
    (cond (is_sample || false) (Some (sub_name samples, [])) (cond (is_follow || false) (Some (sub_name follows, [])) None)))

abbrev fault_by : Bool → Option (Text × Option Text) → Text → Kinds
fault_by is_escape long word = or_else (cond is_escape [] (flag_word_fault [] false long word nothing_held))
    (step_fault top 1 (cond is_escape (nothing_held, trailing 1) (long_or_other [] idle word long nothing_held)).0
    (cond is_escape (nothing_held, trailing 1) (long_or_other [] idle word long nothing_held)).1)

no_stray : stray_fault top ≡ [] → ⊥
no_stray e = cc

refused_by : (word : Text) (is_escape : Bool) (long : Option (Text × Option Text)) → is_escape ≡ false → fault_by is_escape long word ≡ [] → ⊥
refused_by word true long n e = cc
refused_by word false (Some p) n e = cc
refused_by word false None n e =
    let plain_is = plain_only [] (λ x. refl) [] None idle word (or_else-first _ _ e) in
    no_stray (subst (λ (p : Held × Step). step_fault top 1 p.0 p.1 ≡ []) plain_is (or_else-second _ _ e))

abbrev turn_by : Bool → Bool → Bool → Text → Kinds
turn_by is_run is_sample is_follow word = or_else (other_fault top (sub_by is_run is_sample is_follow) word nothing_held)
    (step_fault top 1 (subcommand_or_other [] (sub_by is_run is_sample is_follow) idle 1 word nothing_held).0
    (subcommand_or_other [] (sub_by is_run is_sample is_follow) idle 1 word nothing_held).1)

refused_word : (word : Text) → bytes_eq word escape ≡ false → bytes_eq (sub_name runs) word ≡ false → bytes_eq (sub_name samples) word ≡ false
    → bytes_eq (sub_name follows) word ≡ false → turn_fault top subcommands (walk_from nothing_held) word ≡ [] → ⊥
refused_word word other no_run no_sample no_follow e =
    let is_sample = bytes_eq (sub_name samples) word in
    let is_follow = bytes_eq (sub_name follows) word in
    let as_no_run : turn_by false is_sample is_follow word ≡ [] = subst (λ b. turn_by b is_sample is_follow word ≡ []) no_run e in
    let as_no_sample : turn_by false false is_follow word ≡ [] = subst (λ b. turn_by false b is_follow word ≡ []) no_sample as_no_run in
    let as_none : turn_by false false false word ≡ [] = subst (λ b. turn_by false false b word ≡ []) no_follow as_no_sample in
    refused_by word (bytes_eq word escape) (long_of word) other as_none

pub no_words : built_fault program nothing_held [] ≡ [] → ⊥
unfolding defaults_fault walk_fault
no_words e = cc

-- the first word is a subcommand
pub record BeginsSub (words : List Text) : Type 0 where
  pub which : Sub
  pub rest : List Text
  pub words_are : words ≡ sub_name which ∷ rest

pub begins_sub : (words : List Text) → LacksEscape words → built_fault program nothing_held words ≡ [] → BeginsSub words
unfolding walk_fault
begins_sub [] lacks e = absurd (no_words e)
begins_sub (w ∷ ws) lacks e = go (bytes_eq (sub_name runs) w) (bytes_eq (sub_name samples) w) (bytes_eq (sub_name follows) w) refl refl refl
  where
    turn : turn_fault top subcommands (walk_from nothing_held) w ≡ []
    turn =
        let first = turn_fault top subcommands (walk_from nothing_held) w in
        let more = walk_fault top subcommands (walked [] subcommands (walk_from nothing_held) w) ws in
        or_else-first first more (or_else-first (or_else first more) _ e)

    begins : (which : Sub) → bytes_eq (sub_name which) w ≡ true → BeginsSub (w ∷ ws)
    begins which is = record {
      which = which;
      rest = ws;
      words_are = ap (λ t. t ∷ ws) (sym ((bytes_eq-Decides (sub_name which) w).0 is));
    }

    go : (run sample follow : Bool) → bytes_eq (sub_name runs) w ≡ run → bytes_eq (sub_name samples) w ≡ sample → bytes_eq (sub_name follows) w ≡ follow
        → BeginsSub (w ∷ ws)
    go true sample follow is is2 is3 = begins runs is
    go false true follow is is2 is3 = begins samples is2
    go false false true is is2 is3 = begins follows is3
    go false false false is is2 is3 = absurd (refused_word w lacks.0 is is2 is3 turn)

-- the rows of a subcommand at the words after its name
abbrev pub sub_rows : Sub → List Text → List Row
sub_rows runs ws = (settled options (end_of (idle_at [] None) ws).held).rows
sub_rows samples ws = rows_at_end (codes "sample") 20000 ws
sub_rows follows ws = rows_at_end (codes "follow") 2000 ws

-- what the program's words come to
pub subcommand_at : (which : Sub) (name : Text) (ws : List Text) → subcommand_of program_app (name ∷ sub_name which ∷ ws) ≡ Some
    (sub_name which, sub_rows which ws)
subcommand_at runs name ws = ap (λ (w : Walk). entered program w.stopped) (walk_at_sub runs ws)
    ∙ ap (λ rows. Some (sub_name runs, rows)) (finished-rows (end_of (idle_at [] None) ws).held)
subcommand_at samples name ws = ap (λ (w : Walk). entered program w.stopped) (walk_at_sub samples ws)
subcommand_at follows name ws = ap (λ (w : Walk). entered program w.stopped) (walk_at_sub follows ws)
