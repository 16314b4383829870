-- The words that clap's walk over `run` takes, and what they come to.
use Rattle.std.proofs.Common.{◌≡◌, ◌∙◌, ◌||◌, Bool, true, false, cond, refl, sym, ap, subst, List, [], ◌∷◌, ◌++◌, Option, Some, None, inl, inr}
use Rattle.std.specs.Prelude.{⊤, fold}
use Rattle.std.specs.Str.{bytes_eq}
use Rattle.console_words.proofs.Values.{IsPlainWord, number_is_plain, use_text}
use Rattle.clap.specs.Kinds.{Kinds, or_else}
use Rattle.clap.specs.Walk.{Held, Row, Text, Walk, finished, has_row, nothing_held, settled, used, walked, with_default}
use Rattle.clap.specs.Faults.{check_fault, default_fault, defaults_fault, given_default_fault, level_fault, settle_fault, turn_fault, use_fault, walk_fault}
use Rattle.console_words.proofs.Turns.{Begins, IsTurn, Joins, chosen, escape, held_at, idle_at, idle_turn, leaf}
use Rattle.console_words.proofs.Turns.{name_of, no_value, options, or_else-both, or_else-first, or_else-second}
use Rattle.console_words.proofs.Turns.{settle_fault-given, settled-given, settled_at, waiting_at, waiting_turn}

-- one use of an option, with its text; joined is `--name=text`, and else the text is the next word
pub record Use : Type 0 where
  pub which : Bool
  pub text : Text
  pub is_joined : Bool

abbrev pub spelled : Bool → Bool → Text → List Text
spelled true which text = (45 ∷ 45 ∷ name_of which ++ 61 ∷ text) ∷ []
spelled false which text = (45 ∷ 45 ∷ name_of which) ∷ text ∷ []

abbrev pub words_of : List Use → List Text
words_of [] = []
words_of (u ∷ us) = spelled u.is_joined u.which u.text ++ words_of us

abbrev pub rows_after_use : Use → List Row → List Row
rows_after_use u rows = used (chosen u.which) (u.text ∷ []) rows

abbrev pub rows_after_uses : List Use → List Row → List Row
rows_after_uses [] rows = rows
rows_after_uses (u ∷ us) rows = rows_after_uses us (rows_after_use u rows)

abbrev pub Passes : Use → List Row → Type 0
Passes u rows = use_fault false (chosen u.which) (u.text ∷ []) rows ≡ []

abbrev pub AllPass : List Use → List Row → Type 0
AllPass [] rows = ⊤
AllPass (u ∷ us) rows = Passes u rows × AllPass us (rows_after_use u rows)

-- no word is `--`
abbrev pub LacksEscape : List Text → Type 0
LacksEscape [] = ⊤
LacksEscape (w ∷ ws) = (bytes_eq w escape ≡ false) × LacksEscape ws

abbrev pub end_of : Walk → List Text → Walk
end_of w words = fold (walked options []) w words

-- the faults from w on
abbrev pub rest_fault : Walk → List Text → Kinds
rest_fault w words = or_else (walk_fault leaf [] w words) (settle_fault options false (end_of w words).held)

-- the words are uses that pass
pub record Reads (rows : List Row) (pending : Option (Text × List Text)) (words : List Text) (end : Walk) : Type 0 where
  pub uses : List Use
  pub words_are : words ≡ words_of uses
  pub settles : settle_fault options false (held_at rows pending) ≡ []
  pub pass : AllPass uses (settled_at rows pending)
  pub ends : (settled options end.held).rows ≡ rows_after_uses uses (settled_at rows pending)

-- the first word is the value that is waited for
pub record Follows (rows : List Row) (which : Bool) (words : List Text) (end : Walk) : Type 0 where
  pub value : Text
  pub rest : List Text
  pub words_are : words ≡ value ∷ rest
  pub reads : Reads rows (Some (name_of which, value ∷ [])) rest end

with_joined : (rows : List Row) (pending : Option (Text × List Text)) (word : Text) (next : Walk) (ws : List Text) (end : Walk)
    (j : Joins rows pending word next)
    → Reads (used (chosen j.which) (j.value ∷ []) (settled_at rows pending)) None ws end → Reads rows pending (word ∷ ws) end
with_joined rows pending word next ws end j r = record {
  uses = record { which = j.which; text = j.value; is_joined = true } ∷ r.uses;
  words_are = ap (λ w. w ∷ ws) j.word_is ∙ ap (λ t. (45 ∷ 45 ∷ name_of j.which ++ 61 ∷ j.value) ∷ t) r.words_are;
  settles = j.settles;
  pass = (j.uses, r.pass);
  ends = r.ends;
}

with_value : (rows : List Row) (pending : Option (Text × List Text)) (word : Text) (next : Walk) (ws : List Text) (end : Walk)
    (b : Begins rows pending word next)
    → Follows (settled_at rows pending) b.which ws end → Reads rows pending (word ∷ ws) end
with_value rows pending word next ws end b f =
    let now = settled_at rows pending in
    let after = settled-given b.which now (f.value ∷ []) in
    record {
      uses = record { which = b.which; text = f.value; is_joined = false } ∷ f.reads.uses;
      words_are = ap (λ w. w ∷ ws) b.word_is ∙ ap (λ t. (45 ∷ 45 ∷ name_of b.which) ∷ t) (f.words_are ∙ ap (λ t. f.value ∷ t) f.reads.words_are);
      settles = b.settles;
      pass = (sym (settle_fault-given b.which now (f.value ∷ [])) ∙ f.reads.settles, subst (AllPass f.reads.uses) after f.reads.pass);
      ends = f.reads.ends ∙ ap (rows_after_uses f.reads.uses) after;
    }

pub reads : (words : List Text) → LacksEscape words
    → ((rows : List Row) (pending : Option (Text × List Text)) → rest_fault (idle_at rows pending) words ≡ [] → Reads rows pending words
    (end_of (idle_at rows pending) words))
    × ((rows : List Row) (which : Bool) → rest_fault (waiting_at rows which) words ≡ [] → Follows rows which words (end_of (waiting_at rows which) words))
unfolding walk_fault
reads [] lacks = (
  λ rows pending e. record { uses = []; words_are = refl; settles = e; pass = tt; ends = refl },
  λ rows which e. absurd (no_value which rows e),
)
reads (w ∷ ws) lacks = (idle_case (reads ws lacks.1), waiting_case (reads ws lacks.1).0)
  where
    turn_of : (s : Walk) → rest_fault s (w ∷ ws) ≡ [] → turn_fault leaf [] s w ≡ []
    turn_of s e =
        let turn = turn_fault leaf [] s w in
        let more = walk_fault leaf [] (walked options [] s w) ws in
        or_else-first turn more (or_else-first (or_else turn more) (settle_fault options false (end_of (walked options [] s w) ws).held) e)

    rest_of : (s : Walk) → rest_fault s (w ∷ ws) ≡ [] → rest_fault (walked options [] s w) ws ≡ []
    rest_of s e =
        let turn = turn_fault leaf [] s w in
        let more = walk_fault leaf [] (walked options [] s w) ws in
        let last = settle_fault options false (end_of (walked options [] s w) ws).held in
        or_else-both more last (or_else-second turn more (or_else-first (or_else turn more) last e)) (or_else-second (or_else turn more) last e)

    waiting_case : ((rows : List Row) (pending : Option (Text × List Text)) → rest_fault (idle_at rows pending) ws ≡ [] → Reads rows pending ws
        (end_of (idle_at rows pending) ws))
        → (rows : List Row) (which : Bool) → rest_fault (waiting_at rows which) (w ∷ ws) ≡ []
        → Follows rows which (w ∷ ws) (end_of (waiting_at rows which) (w ∷ ws))
    waiting_case more rows which e =
        let next = waiting_turn rows which w lacks.0 (turn_of (waiting_at rows which) e) in
        let rest = subst (λ (s : Walk). rest_fault s ws ≡ []) next (rest_of (waiting_at rows which) e) in
        record {
          value = w;
          rest = ws;
          words_are = refl;
          reads = subst (λ (s : Walk). Reads rows (Some (name_of which, w ∷ [])) ws (end_of s ws)) (sym next) (more rows (Some (name_of which, w ∷ [])) rest);
        }

    idle_case : ((rows : List Row) (pending : Option (Text × List Text)) → rest_fault (idle_at rows pending) ws ≡ [] → Reads rows pending ws
        (end_of (idle_at rows pending) ws))
        × ((rows : List Row) (which : Bool) → rest_fault (waiting_at rows which) ws ≡ [] → Follows rows which ws (end_of (waiting_at rows which) ws))
        → (rows : List Row) (pending : Option (Text × List Text)) → rest_fault (idle_at rows pending) (w ∷ ws) ≡ []
        → Reads rows pending (w ∷ ws) (end_of (idle_at rows pending) (w ∷ ws))
    idle_case more rows pending e = by (idle_turn rows pending w lacks.0 (turn_of (idle_at rows pending) e))
      where
        by : IsTurn rows pending w (walked options [] (idle_at rows pending) w) → Reads rows pending (w ∷ ws) (end_of (idle_at rows pending) (w ∷ ws))
        by (inl j) =
            let now = used (chosen j.which) (j.value ∷ []) (settled_at rows pending) in
            let rest = subst (λ (s : Walk). rest_fault s ws ≡ []) j.next_is (rest_of (idle_at rows pending) e) in
            with_joined rows pending w _ ws _ j (subst (λ (s : Walk). Reads now None ws (end_of s ws)) (sym j.next_is) (more.0 now None rest))
        by (inr b) =
            let now = settled_at rows pending in
            let rest = subst (λ (s : Walk). rest_fault s ws ≡ []) b.next_is (rest_of (idle_at rows pending) e) in
            with_value rows pending w _ ws _ b (subst (λ (s : Walk). Follows now b.which ws (end_of s ws)) (sym b.next_is) (more.1 now b.which rest))

-- ---- and the converse

joined_turn : (which : Bool) (rows : List Row) (pending : Option (Text × List Text)) (text : Text)
    → turn_fault leaf [] (idle_at rows pending) (45 ∷ 45 ∷ name_of which ++ 61 ∷ text)
    ≡ or_else (or_else (settle_fault options false (held_at rows pending)) (use_fault false (chosen which) (text ∷ []) (settled_at rows pending))) []
joined_turn true rows pending text = refl
joined_turn false rows pending text = refl

joined_next : (which : Bool) (rows : List Row) (pending : Option (Text × List Text)) (text : Text)
    → walked options [] (idle_at rows pending) (45 ∷ 45 ∷ name_of which ++ 61 ∷ text) ≡ idle_at (used (chosen which) (text ∷ []) (settled_at rows pending)) None
unfolding walked
joined_next true rows pending text = refl
joined_next false rows pending text = refl

begun_turn : (which : Bool) (rows : List Row) (pending : Option (Text × List Text))
    → turn_fault leaf [] (idle_at rows pending) (45 ∷ 45 ∷ name_of which) ≡ or_else (settle_fault options false (held_at rows pending)) []
begun_turn true rows pending = refl
begun_turn false rows pending = refl

begun_next : (which : Bool) (rows : List Row) (pending : Option (Text × List Text))
    → walked options [] (idle_at rows pending) (45 ∷ 45 ∷ name_of which) ≡ waiting_at (settled_at rows pending) which
unfolding walked
begun_next true rows pending = refl
begun_next false rows pending = refl

value_turn : (which : Bool) (rows : List Row) (word : Text) → IsPlainWord word → turn_fault leaf [] (waiting_at rows which) word ≡ []
value_turn true rows word p = rw (p.other, p.no_long, p.no_short) refl
value_turn false rows word p = rw (p.other, p.no_long, p.no_short) refl

value_next : (which : Bool) (rows : List Row) (word : Text) → IsPlainWord word
    → walked options [] (waiting_at rows which) word ≡ idle_at rows (Some (name_of which, word ∷ []))
unfolding walked
value_next true rows word p = rw (p.other, p.no_long, p.no_short) refl
value_next false rows word p = rw (p.other, p.no_long, p.no_short) refl

step_back : (s : Walk) (w : Text) (ws : List Text) → turn_fault leaf [] s w ≡ [] → rest_fault (walked options [] s w) ws ≡ [] → rest_fault s (w ∷ ws) ≡ []
unfolding walk_fault
step_back s w ws turn rest = or_else-both _ _ (or_else-both _ _ turn (or_else-first _ _ rest)) (or_else-second _ _ rest)

-- uses that pass leave no fault
pub back : (us : List Use) (rows : List Row) (pending : Option (Text × List Text)) → settle_fault options false (held_at rows pending) ≡ []
    → AllPass us (settled_at rows pending) → rest_fault (idle_at rows pending) (words_of us) ≡ []
unfolding walk_fault
back [] rows pending settles pass = settles
back (u ∷ us) rows pending settles pass = go u.is_joined (back us)
  where
    now : List Row
    now = settled_at rows pending

    go : (joined : Bool) → ((rows : List Row) (pending : Option (Text × List Text)) → settle_fault options false (held_at rows pending) ≡ []
        → AllPass us (settled_at rows pending) → rest_fault (idle_at rows pending) (words_of us) ≡ [])
        → rest_fault (idle_at rows pending) (spelled joined u.which u.text ++ words_of us) ≡ []
    go true more =
        let turn = joined_turn u.which rows pending u.text ∙ or_else-both _ _ (or_else-both _ _ settles pass.0) refl in
        let rest = more (used (chosen u.which) (u.text ∷ []) (settled_at rows pending)) None refl pass.1 in
        step_back (idle_at rows pending) (45 ∷ 45 ∷ name_of u.which ++ 61 ∷ u.text) (words_of us) turn
        (subst (λ (s : Walk). rest_fault s (words_of us) ≡ []) (sym (joined_next u.which rows pending u.text)) rest)
    go false more =
        let at = settled_at rows pending in
        let turn = begun_turn u.which rows pending ∙ or_else-both _ _ settles refl in
        let plain = number_is_plain u.text (use_text u.which at u.text pass.0) in
        let rest = more at (Some (name_of u.which, u.text ∷ [])) (settle_fault-given u.which at (u.text ∷ []) ∙ pass.0)
        (subst (AllPass us) (sym (settled-given u.which at (u.text ∷ []))) pass.1) in
        let value = step_back (waiting_at at u.which) u.text (words_of us) (value_turn u.which at u.text plain)
        (subst (λ (s : Walk). rest_fault s (words_of us) ≡ []) (sym (value_next u.which at u.text plain)) rest) in
        step_back (idle_at rows pending) (45 ∷ 45 ∷ name_of u.which) (u.text ∷ words_of us) turn
        (subst (λ (s : Walk). rest_fault s (u.text ∷ words_of us) ≡ []) (sym (begun_next u.which rows pending)) value)

-- uses that pass have no word `--`
pub LacksEscape-words_of : (us : List Use) (rows : List Row) → AllPass us rows → LacksEscape (words_of us)
LacksEscape-words_of [] rows pass = tt
LacksEscape-words_of (u ∷ us) rows pass = go u.is_joined u.which (number_is_plain u.text (use_text u.which rows u.text pass.0))
    (LacksEscape-words_of us (rows_after_use u rows) pass.1)
  where
    go : (joined which : Bool) → IsPlainWord u.text → LacksEscape (words_of us) → LacksEscape (spelled joined which u.text ++ words_of us)
    go true true plain rest = (refl, rest)
    go true false plain rest = (refl, rest)
    go false true plain rest = (refl, (plain.other, rest))
    go false false plain rest = (refl, (plain.other, rest))

-- ---- the whole level

no_default : (given : Bool) (kinds : Kinds) → cond (given || true) [] kinds ≡ []
no_default true kinds = refl
no_default false kinds = refl

no_defaults : (rows : List Row) → defaults_fault rows options ≡ []
unfolding defaults_fault
no_defaults rows =
    let next = with_default rows (chosen true) in
    let last = or_else-both (default_fault next (chosen false)) [] (no_default (has_row (name_of false) next) (given_default_fault (chosen false) [])) refl in
    or_else-both (default_fault rows (chosen true)) (or_else (default_fault next (chosen false)) [])
    (no_default (has_row (name_of true) rows) (given_default_fault (chosen true) [])) last

module _ (ws : List Text) where
  abbrev last : Held
  last = (end_of (idle_at [] None) ws).held

  abbrev tail : Kinds
  tail = or_else (defaults_fault (settled options last).rows options) (check_fault leaf (finished options last) false)

  pub level_from : level_fault leaf [] nothing_held ws false [] ≡ [] → rest_fault (idle_at [] None) ws ≡ []
  level_from e =
      let first = walk_fault leaf [] (idle_at [] None) ws in
      let settles = settle_fault options false last in
      let more = or_else-second first (or_else [] (or_else settles tail)) e in
      or_else-both first settles (or_else-first first (or_else [] (or_else settles tail)) e) (or_else-first settles tail more)

  pub level_back : rest_fault (idle_at [] None) ws ≡ [] → level_fault leaf [] nothing_held ws false [] ≡ []
  level_back e =
      let first = walk_fault leaf [] (idle_at [] None) ws in
      let settles = settle_fault options false last in
      let after = or_else-both (defaults_fault (settled options last).rows options) [] (no_defaults (settled options last).rows) refl in
      or_else-both first (or_else [] (or_else settles tail)) (or_else-first first settles e) (or_else-both settles tail (or_else-second first settles e) after)

same_rows : (given : Bool) (rows : List Row) → cond given rows rows ≡ rows
same_rows true rows = refl
same_rows false rows = refl

-- no option has a default
pub finished-rows : (h : Held) → finished options h ≡ (settled options h).rows
finished-rows h =
    let first = same_rows (has_row (name_of true) (settled options h).rows) (settled options h).rows in
    ap (λ rows. with_default rows (chosen false)) first ∙ same_rows (has_row (name_of false) (settled options h).rows) (settled options h).rows
