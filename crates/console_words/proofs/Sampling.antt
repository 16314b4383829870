-- The words that clap's walk over a subcommand with the numbers of a sample takes, and what they
-- come to.
use Rattle.std.proofs.Common.{◌≡◌, ◌∙◌, ◌<◌, ◌^◌, ℕ, Bool, true, false, cond, refl, sym, ap, subst, arith, List, [], ◌∷◌, Option, Some, None}
use Rattle.std.specs.Prelude.{codes, fold, pos}
use Rattle.std.specs.Str.{bytes_eq}
use Rattle.clap.specs.Kinds.{Kinds, or_else}
use Rattle.clap.specs.Lexer.{long_of}
use Rattle.clap.specs.Values.{refused_kind}
use Rattle.clap.specs.ValueTests.{accepts}
use Rattle.clap.specs.Walk.{Held, Row, Rule, Step, Text, Walk, after_step, finished, idle, settled, long_or_other}
use Rattle.clap.specs.Walk.{nothing_held, trailing, used, value, walk_from, walked}
use Rattle.clap.specs.Simple.{Shape}
use Rattle.clap.specs.Faults.{check_fault, defaults_fault, flag_word_fault, level_fault, settle_fault, step_fault, turn_fault, use_fault, walk_fault}
use Rattle.clap.specs.declared.builder.value_parser.ValueParser.TheVariants as parsers
use Rattle.clap.proofs.ValueTestLemmas.{Accepts-accepts, accepts-Accepts}
use Rattle.console_words.specs.Command.{count_word, lines_app, seed_word}
use Rattle.console_words.proofs.Turns.{escape, held_at, or_else-both, or_else-first, or_else-second, plain_only}
use Rattle.console_words.proofs.Values.{IsNumberIn, IsPlainWord, signed_back, signed_from, unsigned_back, unsigned_from}
use Rattle.console_words.proofs.Reading.{LacksEscape}

-- the two numbers, as building leaves them
abbrev pub seed_rule : Rule
seed_rule = record seed_word {
  index = Some 1;
  range = Some (record { start_inclusive = 1; end_inclusive = 1 });
}

-- a subcommand of this name, with at most so many lines
module _ (name : Text) (most : ℕ) where
  abbrev pub count_rule : Rule
  count_rule = record (count_word most) {
    index = Some 2;
    range = Some (record { start_inclusive = 1; end_inclusive = 1 });
  }

  abbrev pub numbers : List Rule
  numbers = seed_rule ∷ count_rule ∷ []

  -- the subcommand, as building leaves it
  abbrev pub sample_leaf : Shape
  sample_leaf = record (lines_app name most).top {
    rules = numbers;
    disable_help_flag = true;
    disable_help_subcommand = true;
    is_built = true;
  }

  -- where the walk stands before the word of a position
  abbrev word_at : ℕ → List Row → Option (Text × List Text) → Walk
  word_at position rows pending = record (walk_from (held_at rows pending)) { position = position }

  abbrev pub seed_rows : Text → List Row
  seed_rows seed = used seed_rule (seed ∷ []) []

  abbrev pub sample_rows : Text → Text → List Row
  sample_rows seed count = used count_rule (count ∷ []) (seed_rows seed)

  abbrev end_of : Walk → List Text → Walk
  end_of w words = fold (walked numbers []) w words

  -- the rows at the end of the walk
  abbrev pub rows_at_end : List Text → List Row
  rows_at_end words = finished numbers (end_of (word_at 1 [] None) words).held

  -- ---- a word that passes is the value of its position

  abbrev fault_by : Bool → Option (Text × Option Text) → Walk → Text → Kinds
  fault_by is_escape long w word = or_else (cond is_escape [] (flag_word_fault numbers false long word w.held))
      (step_fault sample_leaf w.position (cond is_escape (w.held, trailing w.position) (long_or_other numbers w.waiting word long w.held)).0
      (cond is_escape (w.held, trailing w.position) (long_or_other numbers w.waiting word long w.held)).1)

  abbrev next_by : Bool → Option (Text × Option Text) → Walk → Text → Walk
  next_by is_escape long w word = after_step numbers word w
      (cond is_escape (w.held, trailing w.position) (long_or_other numbers w.waiting word long w.held)).0
      (cond is_escape (w.held, trailing w.position) (long_or_other numbers w.waiting word long w.held)).1

  -- the walk after the word, where it is the value of the position
  abbrev after_value : ℕ → List Row → Option (Text × List Text) → Text → Walk
  after_value position rows pending word = after_step numbers word (word_at position rows pending) (held_at rows pending) value

  record IsValue (position : ℕ) (rows : List Row) (pending : Option (Text × List Text)) (word : Text) (next : Walk) : Type 0 where
    step : step_fault sample_leaf position (held_at rows pending) value ≡ []
    next_is : next ≡ after_value position rows pending word

  is_value : (position : ℕ) (rows : List Row) (pending : Option (Text × List Text)) (word : Text) → bytes_eq word escape ≡ false
      → turn_fault sample_leaf [] (word_at position rows pending) word ≡ []
      → IsValue position rows pending word (walked numbers [] (word_at position rows pending) word)
  unfolding walked
  is_value position rows pending word other e = go (bytes_eq word escape) (long_of word) other e
    where
      go : (b : Bool) (o : Option (Text × Option Text)) → b ≡ false → fault_by b o (word_at position rows pending) word ≡ []
          → IsValue position rows pending word (next_by b o (word_at position rows pending) word)
      go true o n e2 = cc
      go false (Some p) n e2 = cc
      go false None n e2 =
          let plain_is = plain_only numbers (λ x. refl) rows pending idle word (or_else-first _ _ e2) in
          record {
            step = subst (λ (p : Held × Step). step_fault sample_leaf position p.0 p.1 ≡ []) plain_is (or_else-second _ _ e2);
            next_is = ap (λ (p : Held × Step). after_step numbers word (word_at position rows pending) p.0 p.1) plain_is;
          }

  -- ---- the whole level

  -- the faults after the walk
  abbrev last_fault : Held → Kinds
  last_fault end = or_else (settle_fault numbers false end)
      (or_else (defaults_fault (settled numbers end).rows numbers) (check_fault sample_leaf (finished numbers end) false))

  -- the faults from w on
  abbrev rest_fault : Walk → List Text → Kinds
  rest_fault w words = or_else (walk_fault sample_leaf [] w words) (last_fault (end_of w words).held)

  -- the first word is the value of the position, and the others pass after it
  record Goes (position : ℕ) (rows : List Row) (pending : Option (Text × List Text)) (word : Text) (ws : List Text) : Type 0 where
    step : step_fault sample_leaf position (held_at rows pending) value ≡ []
    rest : rest_fault (after_value position rows pending word) ws ≡ []
    ends : end_of (word_at position rows pending) (word ∷ ws) ≡ end_of (after_value position rows pending word) ws

  goes : (position : ℕ) (rows : List Row) (pending : Option (Text × List Text)) (word : Text) (ws : List Text) → bytes_eq word escape ≡ false
      → rest_fault (word_at position rows pending) (word ∷ ws) ≡ [] → Goes position rows pending word ws
  unfolding walk_fault
  goes position rows pending word ws other e =
      let start = word_at position rows pending in
      let turn = turn_fault sample_leaf [] start word in
      let next = walked numbers [] start word in
      let more = walk_fault sample_leaf [] next ws in
      let last = last_fault (end_of next ws).held in
      let walks = or_else-first (or_else turn more) last e in
      let v = is_value position rows pending word other (or_else-first turn more walks) in
      let rest = or_else-both more last (or_else-second turn more walks) (or_else-second (or_else turn more) last e) in
      record {
        step = v.step;
        rest = subst (λ (w : Walk). rest_fault w ws ≡ []) v.next_is rest;
        ends = ap (λ (w : Walk). end_of w ws) v.next_is;
      }

  -- the words are the two numbers, each passes, and these are the rows that they come to
  pub record IsTakenSample (words : List Text) : Type 0 where
    pub seed : Text
    pub count : Text
    pub words_are : words ≡ seed ∷ count ∷ []
    pub seed_passes : use_fault false seed_rule (seed ∷ []) [] ≡ []
    pub count_passes : use_fault false count_rule (count ∷ []) (seed_rows seed) ≡ []
    pub ends : rows_at_end words ≡ sample_rows seed count

  abbrev seed_held : Text → Option (Text × List Text)
  seed_held seed = Some (codes "seed", seed ∷ [])

  abbrev count_held : Text → Option (Text × List Text)
  count_held count = Some (codes "count", count ∷ [])

  no_third : (seed count : Text) → step_fault sample_leaf 3 (held_at (seed_rows seed) (count_held count)) value ≡ [] → ⊥
  no_third seed count e = cc

  -- a count is wanted
  no_count : (seed : Text) → rest_fault (word_at 2 [] (seed_held seed)) [] ≡ [] → ⊥
  unfolding walk_fault defaults_fault
  no_count seed e =
      let settles = settle_fault numbers false (held_at [] (seed_held seed)) in
      let missing = check_fault sample_leaf (seed_rows seed) false in
      let last : missing ≡ [] = or_else-second settles missing e in
      cc

  no_seed : rest_fault (word_at 1 [] None) [] ≡ [] → ⊥
  unfolding walk_fault defaults_fault
  no_seed e = cc

  after_two : (seed count : Text) (ws : List Text) → LacksEscape ws → rest_fault (word_at 3 (seed_rows seed) (count_held count)) ws ≡ []
      → (ws ≡ []) × (use_fault false count_rule (count ∷ []) (seed_rows seed) ≡ [])
      × (finished numbers (end_of (word_at 3 (seed_rows seed) (count_held count)) ws).held ≡ sample_rows seed count)
  unfolding walk_fault
  after_two seed count [] lacks e = (refl, or_else-first _ _ e, refl)
  after_two seed count (w ∷ ws) lacks e = absurd (no_third seed count (goes 3 (seed_rows seed) (count_held count) w ws lacks.0 e).step)

  pub sample_from : (words : List Text) → LacksEscape words → level_fault sample_leaf [] nothing_held words false [] ≡ [] → IsTakenSample words
  sample_from [] lacks e = absurd (no_seed e)
  sample_from (seed ∷ []) lacks e = absurd (no_count seed (goes 1 [] None seed [] lacks.0 e).rest)
  sample_from (seed ∷ count ∷ ws) lacks e =
      let first = goes 1 [] None seed (count ∷ ws) lacks.0 e in
      let second = goes 2 [] (seed_held seed) count ws lacks.1.0 first.rest in
      let third = after_two seed count ws lacks.1.1 second.rest in
      record {
        seed = seed;
        count = count;
        words_are = ap (λ t. seed ∷ count ∷ t) third.0;
        seed_passes = second.step;
        count_passes = third.1;
        ends = ap (λ (w : Walk). finished numbers w.held) (first.ends ∙ second.ends) ∙ third.2;
      }

  -- ---- and the converse

  value_turn : (position : ℕ) (rows : List Row) (pending : Option (Text × List Text)) (word : Text) → IsPlainWord word
      → turn_fault sample_leaf [] (word_at position rows pending) word ≡ step_fault sample_leaf position (held_at rows pending) value
  value_turn position rows pending word p = rw (p.other, p.no_long, p.no_short) refl

  value_next : (position : ℕ) (rows : List Row) (pending : Option (Text × List Text)) (word : Text) → IsPlainWord word
      → walked numbers [] (word_at position rows pending) word ≡ after_value position rows pending word
  unfolding walked
  value_next position rows pending word p = rw (p.other, p.no_long, p.no_short) refl

  goes_back : (position : ℕ) (rows : List Row) (pending : Option (Text × List Text)) (word : Text) (ws : List Text) → IsPlainWord word
      → step_fault sample_leaf position (held_at rows pending) value ≡ [] → rest_fault (after_value position rows pending word) ws ≡ []
      → rest_fault (word_at position rows pending) (word ∷ ws) ≡ []
  unfolding walk_fault
  goes_back position rows pending word ws plain step rest =
      let next = value_next position rows pending word plain in
      let turn = value_turn position rows pending word plain ∙ step in
      let more = subst (λ (w : Walk). rest_fault w ws ≡ []) (sym next) rest in
      or_else-both _ _ (or_else-both _ _ turn (or_else-first _ _ more)) (or_else-second _ _ more)

  last_back : (seed count : Text) → use_fault false count_rule (count ∷ []) (seed_rows seed) ≡ []
      → rest_fault (word_at 3 (seed_rows seed) (count_held count)) [] ≡ []
  unfolding walk_fault defaults_fault
  last_back seed count passes = or_else-both _ _ passes refl

  pub sample_back : (seed count : Text) → IsPlainWord seed → IsPlainWord count → use_fault false seed_rule (seed ∷ []) [] ≡ []
      → use_fault false count_rule (count ∷ []) (seed_rows seed) ≡ [] → level_fault sample_leaf [] nothing_held (seed ∷ count ∷ []) false [] ≡ []
  sample_back seed count plain plain2 passes passes2 =
      goes_back 1 [] None seed (count ∷ []) plain refl
      (goes_back 2 [] (seed_held seed) count [] plain2 passes (last_back seed count passes2))

  -- ---- the texts of the numbers

  abbrev seed_fault : Bool → Kinds
  seed_fault fits = or_else (cond fits [] (refused_kind (parsers.Unsigned 0 18446744073709551615) ∷ [])) []

  pub seed_fits : (text : Text) → use_fault false seed_rule (text ∷ []) [] ≡ [] → IsNumberIn 0 18446744073709551615 text
  seed_fits text e = go (accepts false (parsers.Unsigned 0 18446744073709551615) text) refl e
    where
      go : (fits : Bool) → accepts false (parsers.Unsigned 0 18446744073709551615) text ≡ fits → seed_fault fits ≡ [] → IsNumberIn 0 18446744073709551615 text
      go true f h = unsigned_from 0 18446744073709551615 text (accepts-Accepts false (parsers.Unsigned 0 18446744073709551615) text f)
      go false f h = cc

  pub seed_back : (text : Text) → IsNumberIn 0 18446744073709551615 text → use_fault false seed_rule (text ∷ []) [] ≡ []
  seed_back text t =
      let fits = Accepts-accepts false (parsers.Unsigned 0 18446744073709551615) text (unsigned_back 0 18446744073709551615 text (omega arith) t) in
      ap seed_fault fits

  abbrev count_fault : Bool → Kinds
  count_fault fits = or_else (cond fits [] (refused_kind (parsers.Signed (pos 1) (pos most)) ∷ [])) []

  pub count_fits : (seed text : Text) → use_fault false count_rule (text ∷ []) (seed_rows seed) ≡ [] → IsNumberIn 1 most text
  count_fits seed text e = go (accepts false (parsers.Signed (pos 1) (pos most)) text) refl e
    where
      go : (fits : Bool) → accepts false (parsers.Signed (pos 1) (pos most)) text ≡ fits → count_fault fits ≡ [] → IsNumberIn 1 most text
      go true f h = signed_from 1 most text (omega arith) (accepts-Accepts false (parsers.Signed (pos 1) (pos most)) text f)
      go false f h = cc

  pub count_back : (seed text : Text) → most < 2 ^ 63 → IsNumberIn 1 most text → use_fault false count_rule (text ∷ []) (seed_rows seed) ≡ []
  count_back seed text small t =
      let fits = Accepts-accepts false (parsers.Signed (pos 1) (pos most)) text (signed_back 1 most text small t) in
      ap count_fault fits
