-- Grammars by places: where reading stops at a place, and that bytes lead to one end.
use Rattle.std.proofs.Common.{◌≡◌, ◌⊎◌, inl, inr, ℕ, zero, suc, nat_eq, cond, Bool, true, false, not, ◌&&◌, Some, None}
use Rattle.std.proofs.Common.{List, [], ◌∷◌, ◌++◌, length, refl, sym, ap, ◌∙◌, subst, ⊎_elim, length-append, arith}
use Rattle.gremlin_parse.specs.Grammar.{Part, Called}
use Rattle.gremlin_parse.specs.Faults.{EndsRun}
use Rattle.gremlin_parse.specs.Reading.{first_byte, StopsBefore, Then}
use Rattle.gremlin_parse.specs.Keywords.{Entry, InTable, ThenWord}
use Rattle.gremlin_parse.specs.Symbols.{Symbol, Content, part, Allows, Takes, IsBad, LeavesAt}
use Rattle.gremlin_parse.specs.Turns.{Other, Nothing, Words, Token, Either, Turn, IsBadWord, sign_at, ThenSign}
use Rattle.gremlin_parse.specs.Turns.{ThenOther, BadOther, AtTurn, BadTurn, WithBlanks, Loosely, Leads, BadLeads}
use Rattle.gremlin_parse.specs.Turns.{LineFrom}
use Rattle.gremlin_parse.specs.declared.bad_token.BadToken.{BadToken}
use borrow.Author.Tests.{eqb-true}
use Rattle.gremlin_parse.proofs.Runs.{both, turned, Halts}
use Rattle.gremlin_parse.proofs.Tables.{IsWordTable, StandsWhole, stands_whole}
use Rattle.gremlin_parse.proofs.Symbols.{One, Class, NameByte, Blank, passes, class_of, no_blanks, blank_fails}
use Rattle.gremlin_parse.proofs.Symbols.{blanks_end, first_fails, first_ends, is_symbol, halts, part_halts, bad_halts}
use Rattle.gremlin_parse.proofs.Symbols.{after_symbol, example}
use Rattle.gremlin_parse.proofs.Productions.{refuses_at}

abbrev pub Language : Type 1
Language = List ℕ → Type 0

-- ---- one symbol, and after it a language that its content has

-- Where reading stops in a small language and in a great one at one place, it stops there in each between the two.
stops_between : (Small Great Both : Language) → ((bytes : List ℕ) → Small bytes → Both bytes) → ((bytes : List ℕ) → Both bytes → Great bytes)
    → (bytes : List ℕ) (left : ℕ) → StopsBefore Small bytes left → StopsBefore Great bytes left → StopsBefore Both bytes left
stops_between Small Great Both onto into bytes left small great =
    let same = same_cut small.read great.read small.unread great.unread (sym small.bytes_are ∙ great.bytes_are) (sym small.left_is ∙ great.left_is) in
    record {
      read = small.read;
      unread = small.unread;
      bytes_are = small.bytes_are;
      left_is = small.left_is;
      viable = (small.viable.0, onto (small.read ++ small.viable.0) small.viable.1);
      none = λ more first is. great.none more (first ∙ ap first_byte same.1) (subst (λ r. Great (r ++ more)) same.0 (into (small.read ++ more) is));
    }
  where
    longer : (bytes more : List ℕ) (b : ℕ) → length more ≡ length ((b ∷ bytes) ++ more) → ⊥
    longer bytes more b same = let len = length-append (b ∷ bytes) more in omega (arith, same, len)

    same_cut : (one two more rest : List ℕ) → one ++ more ≡ two ++ rest → length more ≡ length rest → (one ≡ two) × (more ≡ rest)
    same_cut [] [] more rest same len = (refl, same)
    same_cut [] (b ∷ two) more rest same len = absurd (longer two rest b (sym len ∙ ap length same))
    same_cut (b ∷ one) [] more rest same len = absurd (longer one more b (len ∙ ap length (sym same)))
    same_cut (b ∷ one) (c ∷ two) more rest same len =
        let heads : b ≡ c = cc in
        let tails : one ++ more ≡ two ++ rest = cc in
        let later = same_cut one two more rest tails len in
        ((λ i. heads i ∷ later.0 i), later.1)

module _ (symbol : Symbol) (is : is_symbol symbol ≡ true) (After : Content symbol → Language)
    (ends : (content : Content symbol) → Halts (passes (class_of symbol)) (After content)) where
  -- the symbol, and after it bytes of its content's language
  abbrev pub Each : Language
  Each bytes = (content : Content symbol) × Allows symbol content × Then (part symbol content) (After content) bytes

  pub after_content : (content : Content symbol) (bytes rest : List ℕ) → Takes symbol content bytes rest → Each bytes → After content rest
  after_content content bytes rest takes (other, allows, then) =
      let found = after_symbol symbol is (After other) (ends other) content other allows bytes rest takes then in
      subst (λ c. After c rest) (sym found.0) found.1

  -- Where no part of the symbol goes on so, and some bytes are of each language after it.
  pub each_stops : (line : List ℕ) → ((content : Content symbol) → After content line) → (bytes : List ℕ) (left : ℕ) → LeavesAt symbol bytes left
      → StopsBefore Each bytes left
  each_stops line some bytes left leaves =
      let first : Content symbol = (example symbol is).content in
      let All : Language = λ rest. (content : Content symbol) → After content rest in
      let Any : Language = λ rest. (content : Content symbol) × After content rest in
      let small = refuses_at symbol All is (λ rest all. ends first rest (all first)) line some bytes left leaves in
      let great = refuses_at symbol Any is (λ rest (content, after). ends content rest after) line (first, some first) bytes left leaves in
      stops_between (One symbol All) (One symbol Any) Each
      (λ these (content, allows, (prefix, rest, bytes_are, part_is, all)). (content, allows, (prefix, rest, bytes_are, part_is, all content)))
      (λ these (content, allows, (prefix, rest, bytes_are, part_is, after)). (content, allows, (prefix, rest, bytes_are, part_is, (content, after))))
      bytes left small.stop great.stop

-- ---- what begins with no byte of a class

module _ {Place : Type 0} where
  abbrev pub signs_halt : Class → List (ℕ × Place) → Bool
  signs_halt class [] = true
  signs_halt class (sign ∷ signs) = not (passes class sign.0) && signs_halt class signs

  sign_fails : (class : Class) (signs : List (ℕ × Place)) → signs_halt class signs ≡ true → (b : ℕ) (next : Place) → sign_at signs b ≡ Some next
      → passes class b ≡ false
  sign_fails class [] halts b next is = cc
  sign_fails class (sign ∷ signs) halts b next is =
      let two = both (not (passes class sign.0)) (signs_halt class signs) halts in
      found (turned (passes class sign.0) two.0) (sign_fails class signs two.1 b next) (nat_eq sign.0 b) refl is
    where
      found : passes class sign.0 ≡ false → (sign_at signs b ≡ Some next → passes class b ≡ false) → (t : Bool) → nat_eq sign.0 b ≡ t
          → cond t (Some sign.1) (sign_at signs b) ≡ Some next → passes class b ≡ false
      found fails later true same here = subst (λ a. passes class a ≡ false) (eqb-true sign.0 b same) fails
      found fails later false same here = later here

  -- The bytes begin with none of the signs.
  abbrev pub NoSign : List (ℕ × Place) → List ℕ → Type 0
  NoSign signs [] = Unit {0}
  NoSign signs (b ∷ bytes) = sign_at signs b ≡ None

  pub NoSign-first_byte : (signs : List (ℕ × Place)) (bytes more : List ℕ) → first_byte more ≡ first_byte bytes → NoSign signs bytes → NoSign signs more
  NoSign-first_byte signs bytes [] same none = tt
  NoSign-first_byte signs [] (c ∷ more) same none = cc
  NoSign-first_byte signs (b ∷ bytes) (c ∷ more) same none = let head : c ≡ b = cc in ap (sign_at signs) head ∙ none

  pub sign_refuses : (signs : List (ℕ × Place)) (After : Place → Language) (bytes : List ℕ) → NoSign signs bytes → ¬ ThenSign signs After bytes
  sign_refuses signs After bytes none = λ (b, next, is, (prefix, rest, whole, same, after)).
      let here : NoSign signs (b ∷ rest) = subst (NoSign signs) (whole ∙ ap (λ p. p ++ rest) same) none in
      let clash : None ≡ Some next = sym here ∙ is in cc

  signs_end : (class : Class) (signs : List (ℕ × Place)) → signs_halt class signs ≡ true → (After : Place → Language)
      → Halts (passes class) (ThenSign signs After)
  signs_end class signs fail After = λ bytes (b, next, is, (prefix, rest, whole, same, after)).
      subst (EndsRun (passes class)) (sym (whole ∙ ap (λ p. p ++ rest) same)) (sign_fails class signs fail b next is)

  pub sign_map : (From To : Place → Language) → ((place : Place) (bytes : List ℕ) → From place bytes → To place bytes)
      → (signs : List (ℕ × Place)) (bytes : List ℕ) → ThenSign signs From bytes → ThenSign signs To bytes
  sign_map From To step signs bytes (b, next, is, (prefix, rest, whole, same, after)) = (b, next, is, (prefix, rest, whole, same, step next rest after))

  pub sign_choice : (X : Type 0) (Family : X → Place → Language) (signs : List (ℕ × Place)) (bytes : List ℕ)
      → ThenSign signs (λ place rest. (x : X) × Family x place rest) bytes → (x : X) × ThenSign signs (Family x) bytes
  sign_choice X Family signs bytes (b, next, is, (prefix, rest, whole, same, (x, after))) = (x, (b, next, is, (prefix, rest, whole, same, after)))

module _ {Word : Type 0} where
  abbrev pub words_halt : Class → List (Entry Word) → Bool
  words_halt class [] = true
  words_halt class (entry ∷ table) = first_fails (passes class) entry.0 && words_halt class table

  word_fails : (class : Class) (table : List (Entry Word)) → words_halt class table ≡ true → (entry : Entry Word) → InTable entry table → (rest : List ℕ)
      → EndsRun (passes class) (entry.0 ++ rest)
  word_fails class [] halts entry within rest = absurd within
  word_fails class (first ∷ table) halts entry (inl same) rest =
      let two = both (first_fails (passes class) first.0) (words_halt class table) halts in
      subst (λ (e : Entry Word). EndsRun (passes class) (e.0 ++ rest)) (sym same) (first_ends (passes class) first.0 rest two.0)
  word_fails class (first ∷ table) halts entry (inr later) rest =
      let two = both (first_fails (passes class) first.0) (words_halt class table) halts in
      word_fails class table two.1 entry later rest

module _ {Word Place : Type 0} where
  abbrev pub other_halts : Class → Other Word Place → Bool
  other_halts class Nothing = true
  other_halts class (Words table fault to) = words_halt class table
  other_halts class (Token symbol to) = halts class false (symbol ∷ [])
  other_halts class (Either one two) = other_halts class one && other_halts class two

  abbrev pub turn_halts : {End : Type 0} → Class → Turn Word Place End → Bool
  turn_halts class this = signs_halt class this.signs && other_halts class this.other

  other_ends : (Bound : Part → Type 0) (class : Class) (other : Other Word Place) → other_halts class other ≡ true → (After : Place → Language)
      → Halts (passes class) (ThenOther Bound other After)
  other_ends Bound class Nothing fail After = λ bytes none. absurd none
  other_ends Bound class (Words table fault to) fail After = λ bytes (entry, within, bound, (prefix, rest, whole, same, after)).
      subst (EndsRun (passes class)) (sym (whole ∙ ap (λ p. p ++ rest) same)) (word_fails class table fail entry within rest)
  other_ends Bound class (Token symbol to) fail After = λ bytes (content, allows, bound, (prefix, rest, whole, part_is, after)).
      subst (EndsRun (passes class)) (sym whole) (part_halts class false symbol [] fail content allows prefix rest part_is (λ none. cc))
  other_ends Bound class (Either one two) fail After = λ bytes then.
      let fails = both (other_halts class one) (other_halts class two) fail in
      ⊎_elim (other_ends Bound class one fails.0 After bytes) (other_ends Bound class two fails.1 After bytes) then

  bad_other_ends : (class : Class) (other : Other Word Place) → other_halts class other ≡ true → (kind : BadToken) (left : ℕ) (After : Place → Language)
      → Halts (passes class) (BadOther other kind left After)
  bad_other_ends class Nothing fail kind left After = λ bytes none. absurd none
  bad_other_ends class (Words table fault to) fail kind left After = λ bytes bad. ⊎_elim
      (λ ((word, is, out, at) : IsBadWord table fault kind left bytes).
      let stands = stands_whole table bytes word is in
      subst (EndsRun (passes class)) (sym stands.bytes_are) (word_fails class table fail stands.entry stands.within stands.rest))
      (λ ((entry, within, (prefix, rest, whole, same, after)) : ThenWord table (λ word. After (to word)) bytes).
      subst (EndsRun (passes class)) (sym (whole ∙ ap (λ p. p ++ rest) same)) (word_fails class table fail entry within rest))
      bad
  bad_other_ends class (Token symbol to) fail kind left After = λ bytes bad. ⊎_elim
      (λ (here : IsBad symbol kind left bytes). bad_halts class false symbol [] fail kind left bytes here)
      (λ ((content, allows, (prefix, rest, bytes_are, part_is, after)) : (content : Content symbol) × Allows symbol content × Then (part symbol content)
      (After (to content)) bytes).
      subst (EndsRun (passes class)) (sym bytes_are) (part_halts class false symbol [] fail content allows prefix rest part_is (λ none. cc)))
      bad
  bad_other_ends class (Either one two) fail kind left After = λ bytes bad.
      let fails = both (other_halts class one) (other_halts class two) fail in
      ⊎_elim (bad_other_ends class one fails.0 kind left After bytes) (bad_other_ends class two fails.1 kind left After bytes) bad

  pub at_turn_ends : {End : Type 0} (Bound : Part → Type 0) (class : Class) (this : Turn Word Place End) → turn_halts class this ≡ true
      → (After : Place → Language) → Halts (passes class) (AtTurn Bound this After)
  at_turn_ends Bound class this fail After = λ bytes at.
      let two = both (signs_halt class this.signs) (other_halts class this.other) fail in
      ⊎_elim (signs_end class this.signs two.0 After bytes) (other_ends Bound class this.other two.1 After bytes) at

  pub bad_turn_ends : {End : Type 0} (class : Class) (this : Turn Word Place End) → turn_halts class this ≡ true
      → (kind : BadToken) (left : ℕ) (After : Place → Language) → Halts (passes class) (BadTurn this kind left After)
  bad_turn_ends class this fail kind left After = λ bytes at.
      let two = both (signs_halt class this.signs) (other_halts class this.other) fail in
      ⊎_elim (signs_end class this.signs two.0 After bytes) (bad_other_ends class this.other two.1 kind left After bytes) at

  -- ---- languages to other languages, and a choice brought out

  pub other_map : (Bound Looser : Part → Type 0) → ((this : Part) → Bound this → Looser this) → (From To : Place → Language)
      → ((place : Place) (bytes : List ℕ) → From place bytes → To place bytes) → (other : Other Word Place) (bytes : List ℕ) → ThenOther Bound other From bytes
      → ThenOther Looser other To bytes
  other_map Bound Looser loosen From To step Nothing bytes none = none
  other_map Bound Looser loosen From To step (Words table fault to) bytes (entry, within, bound, (prefix, rest, whole, same, after)) =
      (entry, within, loosen (Called entry.0 (fault entry.1 bytes)) bound, (prefix, rest, whole, same, step (to entry.1) rest after))
  other_map Bound Looser loosen From To step (Token symbol to) bytes (content, allows, bound, (prefix, rest, whole, part_is, after)) =
      (content, allows, loosen (part symbol content) bound, (prefix, rest, whole, part_is, step (to content) rest after))
  other_map Bound Looser loosen From To step (Either one two) bytes (inl then) = inl (other_map Bound Looser loosen From To step one bytes then)
  other_map Bound Looser loosen From To step (Either one two) bytes (inr then) = inr (other_map Bound Looser loosen From To step two bytes then)

  pub bad_other_map : (kind : BadToken) (left : ℕ) (From To : Place → Language) → ((place : Place) (bytes : List ℕ) → From place bytes → To place bytes)
      → (other : Other Word Place) (bytes : List ℕ) → BadOther other kind left From bytes → BadOther other kind left To bytes
  bad_other_map kind left From To step Nothing bytes none = none
  bad_other_map kind left From To step (Words table fault to) bytes (inl here) = inl here
  bad_other_map kind left From To step (Words table fault to) bytes (inr (entry, within, (prefix, rest, whole, same, after))) =
      inr (entry, within, (prefix, rest, whole, same, step (to entry.1) rest after))
  bad_other_map kind left From To step (Token symbol to) bytes (inl here) = inl here
  bad_other_map kind left From To step (Token symbol to) bytes (inr (content, allows, (prefix, rest, whole, part_is, after))) =
      inr (content, allows, (prefix, rest, whole, part_is, step (to content) rest after))
  bad_other_map kind left From To step (Either one two) bytes (inl bad) = inl (bad_other_map kind left From To step one bytes bad)
  bad_other_map kind left From To step (Either one two) bytes (inr bad) = inr (bad_other_map kind left From To step two bytes bad)

  pub other_choice : (Bound : Part → Type 0) (X : Type 0) (Family : X → Place → Language) (other : Other Word Place) (bytes : List ℕ)
      → ThenOther Bound other (λ place rest. (x : X) × Family x place rest) bytes → (x : X) × ThenOther Bound other (Family x) bytes
  other_choice Bound X Family Nothing bytes none = absurd none
  other_choice Bound X Family (Words table fault to) bytes (entry, within, bound, (prefix, rest, whole, same, (x, after))) =
      (x, (entry, within, bound, (prefix, rest, whole, same, after)))
  other_choice Bound X Family (Token symbol to) bytes (content, allows, bound, (prefix, rest, whole, part_is, (x, after))) =
      (x, (content, allows, bound, (prefix, rest, whole, part_is, after)))
  other_choice Bound X Family (Either one two) bytes (inl then) = let (x, found) = other_choice Bound X Family one bytes then in (x, inl found)
  other_choice Bound X Family (Either one two) bytes (inr then) = let (x, found) = other_choice Bound X Family two bytes then in (x, inr found)

  pub bad_other_choice : (kind : BadToken) (left : ℕ) (X : Type 0) → X → (Family : X → Place → Language) (other : Other Word Place) (bytes : List ℕ)
      → BadOther other kind left (λ place rest. (x : X) × Family x place rest) bytes → (x : X) × BadOther other kind left (Family x) bytes
  bad_other_choice kind left X some Family Nothing bytes none = absurd none
  bad_other_choice kind left X some Family (Words table fault to) bytes (inl here) = (some, inl here)
  bad_other_choice kind left X some Family (Words table fault to) bytes (inr (entry, within, (prefix, rest, whole, same, (x, after)))) =
      (x, inr (entry, within, (prefix, rest, whole, same, after)))
  bad_other_choice kind left X some Family (Token symbol to) bytes (inl here) = (some, inl here)
  bad_other_choice kind left X some Family (Token symbol to) bytes (inr (content, allows, (prefix, rest, whole, part_is, (x, after)))) =
      (x, inr (content, allows, (prefix, rest, whole, part_is, after)))
  bad_other_choice kind left X some Family (Either one two) bytes (inl bad) = let (x, found) = bad_other_choice kind left X some Family one bytes bad in
      (x, inl found)
  bad_other_choice kind left X some Family (Either one two) bytes (inr bad) = let (x, found) = bad_other_choice kind left X some Family two bytes bad in
      (x, inr found)

  -- The bytes begin with one of the other parts, within its bounds or not.
  abbrev pub Begins : Other Word Place → List ℕ → Type 0
  Begins Nothing bytes = ⊥
  Begins (Words table fault to) bytes = StandsWhole table bytes
  Begins (Token symbol to) bytes = One symbol (λ rest. Unit {0}) bytes ⊎ ((kind : BadToken) × (left : ℕ) × IsBad symbol kind left bytes)
  Begins (Either one two) bytes = Begins one bytes ⊎ Begins two bytes

  pub begins_then : (Bound : Part → Type 0) (other : Other Word Place) (After : Place → Language) (bytes : List ℕ) → ThenOther Bound other After bytes
      → Begins other bytes
  begins_then Bound Nothing After bytes none = none
  begins_then Bound (Words table fault to) After bytes (entry, within, bound, (prefix, rest, whole, same, after)) =
      record { entry = entry; within = within; rest = rest; bytes_are = whole ∙ ap (λ p. p ++ rest) same }
  begins_then Bound (Token symbol to) After bytes (content, allows, bound, (prefix, rest, whole, part_is, after)) =
      inl (content, allows, (prefix, rest, whole, part_is, tt))
  begins_then Bound (Either one two) After bytes (inl then) = inl (begins_then Bound one After bytes then)
  begins_then Bound (Either one two) After bytes (inr then) = inr (begins_then Bound two After bytes then)

  pub begins_bad : (other : Other Word Place) (kind : BadToken) (left : ℕ) (After : Place → Language) (bytes : List ℕ) → BadOther other kind left After bytes
      → Begins other bytes
  begins_bad Nothing kind left After bytes none = none
  begins_bad (Words table fault to) kind left After bytes (inl (word, is, out, at)) = stands_whole table bytes word is
  begins_bad (Words table fault to) kind left After bytes (inr (entry, within, (prefix, rest, whole, same, after))) =
      record { entry = entry; within = within; rest = rest; bytes_are = whole ∙ ap (λ p. p ++ rest) same }
  begins_bad (Token symbol to) kind left After bytes (inl here) = inr (kind, left, here)
  begins_bad (Token symbol to) kind left After bytes (inr (content, allows, (prefix, rest, whole, part_is, after))) =
      inl (content, allows, (prefix, rest, whole, part_is, tt))
  begins_bad (Either one two) kind left After bytes (inl bad) = inl (begins_bad one kind left After bytes bad)
  begins_bad (Either one two) kind left After bytes (inr bad) = inr (begins_bad two kind left After bytes bad)

pub blanks_map : (t : Bool) (From To : Language) → ((bytes : List ℕ) → From bytes → To bytes) → (bytes : List ℕ) → WithBlanks t From bytes
    → WithBlanks t To bytes
blanks_map true From To step bytes (prefix, rest, whole, are, after) = (prefix, rest, whole, are, step rest after)
blanks_map false From To step bytes after = step bytes after

pub blanks_choice : (t : Bool) (X : Type 0) (Family : X → Language) (bytes : List ℕ) → WithBlanks t (λ rest. (x : X) × Family x rest) bytes → (x : X)
    × WithBlanks t (Family x) bytes
blanks_choice true X Family bytes (prefix, rest, whole, are, (x, after)) = (x, (prefix, rest, whole, are, after))
blanks_choice false X Family bytes after = after

-- Blanks and what follows them begin with no byte of a class that has no blank.
pub blanks_halt : (t : Bool) (class : Class) (turn_is : Bool) → cond t (no_blanks class && turn_is) turn_is ≡ true → (At : Language)
    → (turn_is ≡ true → Halts (passes class) At) → Halts (passes class) (WithBlanks t At)
blanks_halt true class turn_is is At ends = λ bytes (prefix, rest, whole, are, after).
    let two = both (no_blanks class) turn_is is in
    subst (EndsRun (passes class)) (sym whole) (blanks_end (passes class) (blank_fails class two.0) prefix rest are (ends two.1 rest after))
blanks_halt false class turn_is is At ends = ends is

-- ---- what has to hold of each place

module _ {Word Place End : Type 0} (turn : Place → Turn Word Place End) (is_loose : Place → Bool) where
  abbrev pub place_halts : Class → Place → Bool
  place_halts class place = cond (is_loose place) (no_blanks class && turn_halts class (turn place)) (turn_halts class (turn place))

  -- What is no sign of the place begins with none of its signs.
  abbrev pub StartsApart : List (ℕ × Place) → Other Word Place → Type 0
  StartsApart signs other = (bytes : List ℕ) → Begins other bytes → NoSign signs bytes

  -- Something may stand there.
  abbrev pub IsThere : Other Word Place → Type 0
  IsThere Nothing = ⊥
  IsThere (Words table fault to) = Unit {0}
  IsThere (Token symbol to) = Unit {0}
  IsThere (Either one two) = IsThere one × IsThere two

  -- What stands there is ended by what may follow it.
  abbrev pub IsEnded : Other Word Place → Type 0
  IsEnded Nothing = Unit {0}
  IsEnded (Words [] fault to) = ⊥
  IsEnded (Words (first ∷ table) fault to) = IsWordTable (first ∷ table) × ((word : Word) → place_halts NameByte (to word) ≡ true)
  IsEnded (Token symbol to) = (is_symbol symbol ≡ true) × ((content : Content symbol) → place_halts (class_of symbol) (to content) ≡ true)
      × ((line : List ℕ) × ((content : Content symbol) → Loosely turn is_loose (LineFrom turn is_loose) (to content) line))
  IsEnded (Either one two) = IsEnded one × IsEnded two × ((bytes : List ℕ) → Begins one bytes → ¬ Begins two bytes) × IsThere one × IsThere two

  pub record IsPlace (place : Place) : Type 0 where
    pub no_blank : turn_halts Blank (turn place) ≡ true
    pub apart : StartsApart (turn place).signs (turn place).other
    pub ended : IsEnded (turn place).other
    pub alone : (end : End) → (turn place).ends ≡ Some end → (turn place).other ≡ Nothing

  -- A family of languages of places begins with no byte that its places don't begin with.
  abbrev pub Ending : (Place → Language) → Type 0
  Ending After = (class : Class) (place : Place) → place_halts class place ≡ true → Halts (passes class) (After place)

  abbrev pub Bare : (Place → Language) → Type 0
  Bare At = (class : Class) (place : Place) → turn_halts class (turn place) ≡ true → Halts (passes class) (At place)

  pub loose_ending : (At : Place → Language) → Bare At → Ending (Loosely turn is_loose At)
  loose_ending At ends class place is = blanks_halt (is_loose place) class (turn_halts class (turn place)) is (At place) (ends class place)

  pub leads_bare : (Bound : Part → Type 0) (end : End) (n : ℕ) → Bare (Leads turn is_loose Bound end n)
  leads_bare Bound end zero class place is = λ bytes (ends, none). subst (EndsRun (passes class)) (sym none) tt
  leads_bare Bound end (suc n) class place is = λ bytes at. at_turn_ends Bound class (turn place) is
      (Loosely turn is_loose (λ next rest. Leads turn is_loose Bound end n next rest)) bytes at

  pub bad_bare : (kind : BadToken) (left n : ℕ) → Bare (BadLeads turn is_loose kind left n)
  bad_bare kind left zero class place is = λ bytes none. absurd none
  bad_bare kind left (suc n) class place is = λ bytes at. bad_turn_ends class (turn place) is kind left
      (Loosely turn is_loose (λ next rest. BadLeads turn is_loose kind left n next rest)) bytes at
