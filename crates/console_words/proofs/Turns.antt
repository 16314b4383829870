-- What clap's walk over the words of `run` comes to, word by word.
use Rattle.std.proofs.Common.{◌≡◌, ◌⊎◌, ◌∙◌, ◌||◌, ℕ, Bool, true, false, cond, refl, sym, ap, subst, codes, List, []}
use Rattle.std.proofs.Common.{◌∷◌, ◌++◌, Option, Some, None, inl, inr, is_some, length, zero, suc}
use Rattle.std.specs.Prelude.{slice_get}
use Rattle.std.specs.Str.{bytes_eq, chars}
use Rattle.std.specs.Option.{option_map_or}
use Rattle.std.proofs.lemmas.Slice.Eq.{bytes_eq-Decides}
use Rattle.clap.specs.Lexer.{long_of, short_of}
use Rattle.clap.specs.Kinds.{Kinds, or_else}
use Rattle.clap.specs.Walk.{Held, Row, Rule, Step, Text, Waiting, Walk, after_flag, after_step, arg_by_long}
use Rattle.clap.specs.Walk.{arg_by_short, bundle_met, bundle_step, idle, long_met, long_or_other, option, plain}
use Rattle.clap.specs.Walk.{plain_word, settled_rows, short_or_plain, trailing, takes_values, used, walk_from, walked}
use Rattle.clap.specs.Simple.{Shape}
use Rattle.clap.specs.Faults.{bundle_fault, bundle_step_fault, flag_word_fault, flags_fault, long_fault, option_fault}
use Rattle.clap.specs.Faults.{react_fault, settle_fault, short_fault, step_fault, stray_fault, turn_fault, use_fault}
use Rattle.clap.specs.declared.error.kind.ErrorKind.TheVariants.{TooManyValues}
use Rattle.console_words.specs.Command.{number_option, run_app}
use Rattle.console_words.proofs.Spelling.{IsSpelled, long_of-spelled}

-- an option of `run`, as building leaves it: true is the threshold, and false the limit
abbrev pub name_of : Bool → Text
name_of true = codes "threshold"
name_of false = codes "limit"

abbrev pub least_of : Bool → ℕ
least_of true = 2
least_of false = 16

abbrev pub most_of : Bool → ℕ
most_of true = 200
most_of false = 16777216

abbrev pub chosen : Bool → Rule
chosen which = record (number_option (name_of which) (least_of which) (most_of which)) {
  range = Some (record { start_inclusive = 1; end_inclusive = 1 });
}

abbrev pub options : List Rule
options = chosen true ∷ chosen false ∷ []

-- `run`, as building leaves it
abbrev pub leaf : Shape
leaf = record run_app.top {
  rules = options;
  disable_help_flag = true;
  disable_help_subcommand = true;
  is_built = true;
}

-- what is held between two words, and where the walk stands there
abbrev pub held_at : List Row → Option (Text × List Text) → Held
held_at rows pending = record { rows = rows; pending = pending; skip = 0 }

abbrev pub idle_at : List Row → Option (Text × List Text) → Walk
idle_at rows pending = walk_from (held_at rows pending)

abbrev pub waiting_at : List Row → Bool → Walk
waiting_at rows which = record (walk_from (held_at rows (Some (name_of which, [])))) { waiting = option (name_of which) }

abbrev pub settled_at : List Row → Option (Text × List Text) → List Row
settled_at rows pending = settled_rows options pending rows

abbrev pub escape : Text
escape = 45 ∷ 45 ∷ []

pub or_else-first : (a b : Kinds) → or_else a b ≡ [] → a ≡ []
or_else-first [] b e = refl
or_else-first (k ∷ ks) b e = cc

pub or_else-second : (a b : Kinds) → or_else a b ≡ [] → b ≡ []
or_else-second [] b e = e
or_else-second (k ∷ ks) b e = cc

pub or_else-both : (a b : Kinds) → a ≡ [] → b ≡ [] → or_else a b ≡ []
or_else-both [] b e f = f
or_else-both (k ∷ ks) b e f = cc

-- ---- a word where nothing waits for a value

-- the word is an option with its value
pub record Joins (rows : List Row) (pending : Option (Text × List Text)) (word : Text) (next : Walk) : Type 0 where
  pub which : Bool
  pub value : Text
  pub word_is : word ≡ 45 ∷ 45 ∷ name_of which ++ 61 ∷ value
  pub settles : settle_fault options false (held_at rows pending) ≡ []
  pub uses : use_fault false (chosen which) (value ∷ []) (settled_at rows pending) ≡ []
  pub next_is : next ≡ idle_at (used (chosen which) (value ∷ []) (settled_at rows pending)) None

-- the word is an option, whose value is to follow
pub record Begins (rows : List Row) (pending : Option (Text × List Text)) (word : Text) (next : Walk) : Type 0 where
  pub which : Bool
  pub word_is : word ≡ 45 ∷ 45 ∷ name_of which
  pub settles : settle_fault options false (held_at rows pending) ≡ []
  pub next_is : next ≡ waiting_at (settled_at rows pending) which

abbrev pub IsTurn : List Row → Option (Text × List Text) → Text → Walk → Type 0
IsTurn rows pending word next = Joins rows pending word next ⊎ Begins rows pending word next

-- a word, by the argument that its name finds
abbrev named_fault : Option Rule → Option Text → Walk → Text → Kinds
named_fault found value w word = or_else (long_fault options false found value w.held)
    (step_fault leaf 1 (after_flag options w.waiting word (long_met options found value w.held).0 (long_met options found value w.held).1).0
    (after_flag options w.waiting word (long_met options found value w.held).0 (long_met options found value w.held).1).1)

abbrev named_next : Option Rule → Option Text → Walk → Text → Walk
named_next found value w word = after_step options word w
    (after_flag options w.waiting word (long_met options found value w.held).0 (long_met options found value w.held).1).0
    (after_flag options w.waiting word (long_met options found value w.held).0 (long_met options found value w.held).1).1

known_turn : (rows : List Row) (pending : Option (Text × List Text)) (word : Text) (which : Bool) (value : Option Text)
    → IsSpelled word (name_of which) value → named_fault (Some (chosen which)) value (idle_at rows pending) word ≡ []
    → IsTurn rows pending word (named_next (Some (chosen which)) value (idle_at rows pending) word)
known_turn rows pending word which None at e = inr (record {
  which = which;
  word_is = at;
  settles = or_else-first _ _ e;
  next_is = refl;
})
known_turn rows pending word which (Some v) at e = inl (record {
  which = which;
  value = v;
  word_is = at;
  settles = or_else-first _ _ (or_else-first _ _ e);
  uses = or_else-second _ _ (or_else-first _ _ e);
  next_is = refl;
})

abbrev found_by : Bool → Bool → Option Rule
found_by is_threshold is_limit = cond (is_threshold || false) (Some (chosen true)) (cond (is_limit || false) (Some (chosen false)) None)

same_name : (which : Bool) (name : Text) → bytes_eq (name_of which) name ≡ true → name ≡ name_of which
same_name which name e = sym ((bytes_eq-Decides (name_of which) name).0 e)

long_turn : (rows : List Row) (pending : Option (Text × List Text)) (word name : Text) (value : Option Text)
    → IsSpelled word name value → named_fault (arg_by_long options name) value (idle_at rows pending) word ≡ []
    → IsTurn rows pending word (named_next (arg_by_long options name) value (idle_at rows pending) word)
long_turn rows pending word name value at e = go (bytes_eq (name_of true) name) (bytes_eq (name_of false) name) refl refl e
  where
    go : (t l : Bool) → bytes_eq (name_of true) name ≡ t → bytes_eq (name_of false) name ≡ l
        → named_fault (found_by t l) value (idle_at rows pending) word ≡ []
        → IsTurn rows pending word (named_next (found_by t l) value (idle_at rows pending) word)
    go true l et el e2 = known_turn rows pending word true value (subst (λ n. IsSpelled word n value) (same_name true name et) at) e2
    go false true et el e2 = known_turn rows pending word false value (subst (λ n. IsSpelled word n value) (same_name false name el) at) e2
    go false false et el e2 = cc

-- a word, by whether it is `--` and by what it is as a long option
abbrev met_by : Bool → Option (Text × Option Text) → Walk → Text → Held × Step
met_by is_escape long w word = cond is_escape (w.held, trailing 1) (long_or_other options w.waiting word long w.held)

abbrev fault_by : Bool → Option (Text × Option Text) → Walk → Text → Kinds
fault_by is_escape long w word = or_else (cond is_escape [] (flag_word_fault options false long word w.held))
    (step_fault leaf 1 (met_by is_escape long w word).0 (met_by is_escape long w word).1)

abbrev next_by : Bool → Option (Text × Option Text) → Walk → Text → Walk
next_by is_escape long w word = after_step options word w (met_by is_escape long w word).0 (met_by is_escape long w word).1

unknown_short : (c : List Rule) (found : Option Rule) (rest : Text) (h : Held) (next : Held → Kinds) → found ≡ None → short_fault c false found rest h next ≡ []
    → ⊥
unknown_short c None rest h next n e = cc
unknown_short c (Some a) rest h next n e = cc

-- no argument has a short name
abbrev pub LacksShorts : List Rule → Type 0
LacksShorts c = (x : ℕ) → arg_by_short c x ≡ None

no_bundle : (c : List Rule) → LacksShorts c → (k : ℕ) (flags : Text) (h : Held) → flags_fault c false k flags 0 h ≡ []
    → bundle_met c k flags 0 plain h ≡ (h, plain)
unfolding flags_fault bundle_met
no_bundle c lacks zero flags h e = refl
no_bundle c lacks (suc k) flags h e = go (slice_get (chars flags) 0) e
  where
    go : (o : Option ℕ) → bundle_step_fault c false o flags 0 h (flags_fault c false k) ≡ []
        → bundle_step c o flags 0 plain h (bundle_met c k) ≡ (h, plain)
    go None e2 = refl
    go (Some x) e2 = absurd (unknown_short c (arg_by_short c x) _ h _ (lacks x) e2)

-- a word that passes and is no long option is plain
pub plain_only : (c : List Rule) → LacksShorts c → (rows : List Row) (pending : Option (Text × List Text)) (waiting : Waiting) (word : Text)
    → flag_word_fault c false None word (held_at rows pending) ≡ []
    → short_or_plain c waiting word (short_of word) (held_at rows pending) ≡ plain_word c waiting word (held_at rows pending)
plain_only c lacks rows pending waiting word e = go (short_of word) e
  where
    go : (o : Option Text) → option_map_or (λ flags. bundle_fault c false flags (held_at rows pending)) o [] ≡ []
        → short_or_plain c waiting word o (held_at rows pending) ≡ plain_word c waiting word (held_at rows pending)
    go None e2 = refl
    go (Some flags) e2 = ap (λ p. after_flag c waiting word p.0 p.1) (no_bundle c lacks (length flags) flags (held_at rows pending) e2)

no_stray : stray_fault leaf ≡ [] → ⊥
no_stray e = cc

-- a word that passes where nothing waits is an option
pub idle_turn : (rows : List Row) (pending : Option (Text × List Text)) (word : Text) → bytes_eq word escape ≡ false
    → turn_fault leaf [] (idle_at rows pending) word ≡ [] → IsTurn rows pending word (walked options [] (idle_at rows pending) word)
unfolding walked
idle_turn rows pending word other e = go (bytes_eq word escape) (long_of word) other refl e
  where
    go : (b : Bool) (o : Option (Text × Option Text)) → b ≡ false → long_of word ≡ o → fault_by b o (idle_at rows pending) word ≡ []
        → IsTurn rows pending word (next_by b o (idle_at rows pending) word)
    go true o n l e2 = cc
    go false (Some p) n l e2 = long_turn rows pending word p.0 p.1 (long_of-spelled word p.0 p.1 l) e2
    go false None n l e2 =
        let plain_is = plain_only options (λ x. refl) rows pending idle word (or_else-first _ _ e2) in
        let stray : step_fault leaf 1 (plain_word options idle word (held_at rows pending)).0 (plain_word options idle word (held_at rows pending)).1 ≡ [] =
        subst (λ (p : Held × Step). step_fault leaf 1 p.0 p.1 ≡ []) plain_is (or_else-second _ _ e2) in
        absurd (no_stray stray)

-- ---- a word where an option waits for its value

pub settle_fault-given : (which : Bool) (rows : List Row) (values : List Text)
    → settle_fault options false (held_at rows (Some (name_of which, values))) ≡ use_fault false (chosen which) values rows
settle_fault-given true rows values = refl
settle_fault-given false rows values = refl

pub settled-given : (which : Bool) (rows : List Row) (values : List Text)
    → settled_at rows (Some (name_of which, values)) ≡ used (chosen which) values rows
settled-given true rows values = refl
settled-given false rows values = refl

pub no_value : (which : Bool) (rows : List Row) → settle_fault options false (held_at rows (Some (name_of which, []))) ≡ [] → ⊥
no_value true rows e = cc
no_value false rows e = cc

pub waiting_turn : (rows : List Row) (which : Bool) (word : Text) → bytes_eq word escape ≡ false
    → turn_fault leaf [] (waiting_at rows which) word ≡ []
    → walked options [] (waiting_at rows which) word ≡ idle_at rows (Some (name_of which, word ∷ []))
unfolding walked
waiting_turn rows which word other e = go (bytes_eq word escape) (long_of word) other e
  where
    named : (o : Option Rule) (v : Option Text) → long_fault options false o v (held_at rows (Some (name_of which, []))) ≡ [] → ⊥
    named None v e2 = cc
    named (Some a) v e2 = by (takes_values a) e2
      where
        by : (t : Bool) → cond t (option_fault options false a v (held_at rows (Some (name_of which, []))))
            (cond (is_some v) (TooManyValues ∷ []) (react_fault options false a [] (held_at rows (Some (name_of which, []))))) ≡ [] → ⊥
        by true e3 = with_value v e3
          where
            with_value : (v : Option Text) → option_fault options false a v (held_at rows (Some (name_of which, []))) ≡ [] → ⊥
            with_value None e4 = no_value which rows e4
            with_value (Some x) e4 = no_value which rows (or_else-first _ _ e4)
        by false e3 = flag v e3
          where
            flag : (v : Option Text) → cond (is_some v) (TooManyValues ∷ []) (react_fault options false a [] (held_at rows (Some (name_of which, [])))) ≡ [] → ⊥
            flag None e4 = no_value which rows (or_else-first _ _ e4)
            flag (Some x) e4 = cc

    pushed_is : (b : Bool) → after_step options word (waiting_at rows b)
        (plain_word options (option (name_of b)) word (held_at rows (Some (name_of b, [])))).0
        (plain_word options (option (name_of b)) word (held_at rows (Some (name_of b, [])))).1
        ≡ idle_at rows (Some (name_of b, word ∷ []))
    pushed_is true = refl
    pushed_is false = refl

    go : (b : Bool) (o : Option (Text × Option Text)) → b ≡ false → fault_by b o (waiting_at rows which) word ≡ []
        → next_by b o (waiting_at rows which) word ≡ idle_at rows (Some (name_of which, word ∷ []))
    go true o n e2 = cc
    go false (Some p) n e2 = absurd (named (arg_by_long options p.0) p.1 (or_else-first _ _ e2))
    go false None n e2 =
        let plain_is = plain_only options (λ x. refl) rows (Some (name_of which, [])) (option (name_of which)) word (or_else-first _ _ e2) in
        ap (λ (p : Held × Step). after_step options word (waiting_at rows which) p.0 p.1) plain_is ∙ pushed_is which
