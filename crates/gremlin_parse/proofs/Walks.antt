-- Where reading stops in a grammar by places, and that bytes lead to one end without a bad token.
use Rattle.std.proofs.Common.{◌≡◌, ◌≢◌, ◌≤◌, ◌+◌, ◌⊎◌, inl, inr, ℕ, zero, suc, Bool, true, false, Option, Some, List}
use Rattle.std.proofs.Common.{[], ◌∷◌, ◌++◌, length, refl, sym, ap, ◌∙◌, subst, ⊎_elim, length-append, arith}
use Rattle.gremlin_parse.specs.Grammar.{Part, Blanks, Exactly, IsBounded, is_blank}
use Rattle.gremlin_parse.specs.Reading.{first_byte, StopsBefore, Then}
use Rattle.gremlin_parse.specs.Keywords.{Entry, ThenWord}
use Rattle.gremlin_parse.specs.Symbols.{Symbol, AnyBlanks, Content, part, Allows, Takes, Reads, IsBad, Leaves}
use Rattle.gremlin_parse.specs.Stopping.{Bads, IsStop, StopsWith}
use Rattle.gremlin_parse.specs.Turns.{Other, Nothing, Words, Token, Either, Turn, IsBadWord, LeavesWords, ThenSign}
use Rattle.gremlin_parse.specs.Turns.{ThenOther, BadOther, AtTurn, BadTurn, WithBlanks, Loosely, Leads, BadLeads}
use Rattle.gremlin_parse.specs.Turns.{LineFrom, KeptFrom, BadFrom, BadLoosely, Reaches}
use Rattle.gremlin_parse.specs.declared.bad_token.BadToken.{BadToken}
use Rattle.gremlin_parse.specs.declared.stop.Stop.{Stop}
use Rattle.gremlin_parse.specs.declared.stop.Stop.TheVariants as stops
use Rattle.gremlin_parse.proofs.Runs.{Halts}
use Rattle.gremlin_parse.proofs.Stops.{first_byte-append, stops_here, stops_in_both, stops_of_same}
use Rattle.gremlin_parse.proofs.Tables.{stops_in_table, no_word}
use Rattle.gremlin_parse.proofs.Symbols.{NameByte, Blank, class_of, takes_again, after_symbol, whole, example}
use Rattle.gremlin_parse.proofs.Productions.{AreWithin, Goes, stop_after, refuses_at, no_one}
use Rattle.gremlin_parse.proofs.Turns.{Language, each_stops, NoSign, NoSign-first_byte, sign_refuses, IsThere, IsPlace}
use Rattle.gremlin_parse.proofs.Turns.{IsEnded, Ending, leads_bare, bad_bare, loose_ending}
use Rattle.gremlin_parse.proofs.Moves.{HowOther, How, Took, took_again, took_join, took_bad_join, after_took}
use Rattle.gremlin_parse.proofs.Moves.{after_took_bad, found_of, Line, LooseLine, LooseBad, AtEnd, Any, line_split}
use Rattle.gremlin_parse.proofs.Moves.{line_join, bad_split, bad_join, line_ending, bad_ending}

-- ---- blanks

-- What is skipped before a place: blanks, or nothing.
abbrev pub Skips : Bool → List ℕ → List ℕ → Type 0
Skips true bytes rest = Reads AnyBlanks tt bytes rest
Skips false bytes rest = bytes ≡ rest

stop_skips : (t : Bool) (At : Language) (Bad : Bads) → Halts is_blank At → ((kind : BadToken) (left : ℕ) → Halts is_blank (Bad kind left))
    → (bytes rest : List ℕ) (stop : Stop) → Skips t bytes rest → IsStop At Bad (Unit {0}) rest stop
    → IsStop (WithBlanks t At) (λ kind left. WithBlanks t (Bad kind left)) (Unit {0}) bytes stop
stop_skips true At Bad ends bads bytes rest stop reads at =
    let takes = reads.takes in
    let here : Takes AnyBlanks tt (takes.prefix ++ rest) rest = takes_again AnyBlanks tt bytes rest rest takes refl in
    let goes : Goes (WithBlanks true At) (λ kind left. WithBlanks true (Bad kind left)) takes.prefix At Bad rest = record {
      line = record {
        onto = λ more after. (takes.prefix, more, refl, takes.is, after);
        back = λ more same then. (after_symbol AnyBlanks refl At ends tt tt tt (takes.prefix ++ more) more (takes_again AnyBlanks tt bytes rest more takes same)
            then).1;
      };
      onto = λ kind left bad. (takes.prefix, rest, refl, takes.is, bad);
      back = λ kind left then. (after_symbol AnyBlanks refl (Bad kind left) (bads kind left) tt tt tt (takes.prefix ++ rest) rest here then).1;
    } in
    stop_after (WithBlanks true At) (λ kind left. WithBlanks true (Bad kind left)) (Unit {0}) At Bad (Unit {0}) bytes takes.prefix rest stop takes.bytes_are
    (λ lack. lack) goes at
stop_skips false At Bad ends bads bytes rest stop same at = subst (λ b. IsStop At Bad (Unit {0}) b stop) (sym same) at

-- Both languages after the same blanks.
pub blanks_agree : (t : Bool) (One Two : Language) → Halts is_blank One → Halts is_blank Two → (bytes : List ℕ) → WithBlanks t One bytes
    → WithBlanks t Two bytes → (rest : List ℕ) × One rest × Two rest
blanks_agree true One Two ones twos bytes one two =
    let first = whole AnyBlanks refl One ones tt tt bytes one in
    (first.rest, first.after, (after_symbol AnyBlanks refl Two twos tt tt tt bytes first.rest first.takes two).1)
blanks_agree false One Two ones twos bytes one two = (bytes, one, two)

skip_blanks : (t : Bool) (At : Language) (bytes rest : List ℕ) → Skips t bytes rest → At rest → WithBlanks t At bytes
skip_blanks true At bytes rest reads at = (reads.takes.prefix, rest, reads.takes.bytes_are, reads.takes.is, at)
skip_blanks false At bytes rest same at = subst At (sym same) at

within_then : (this : Part) (left : ℕ) (After : Language) → ((rest : List ℕ) → After rest → left ≤ length rest) → (bytes : List ℕ) → Then this After bytes
    → left ≤ length bytes
within_then this left After after bytes (prefix, rest, bytes_are, part_is, later) =
    let le = after rest later in
    let len : length bytes ≡ length prefix + length rest = ap length bytes_are ∙ length-append prefix rest in
    omega (arith, le, len)

within_blanks : (t : Bool) (left : ℕ) (After : Language) → ((rest : List ℕ) → After rest → left ≤ length rest) → (bytes : List ℕ) → WithBlanks t After bytes
    → left ≤ length bytes
within_blanks true left After after bytes then = within_then Blanks left After after bytes then
within_blanks false left After after bytes later = after bytes later

module _ {Word Place End : Type 0} (turn : Place → Turn Word Place End) (is_loose : Place → Bool) (are : (place : Place) → IsPlace turn is_loose place)
    (some : (place : Place) → (line : List ℕ) × LineFrom turn is_loose place line) where
  -- ---- places in the line

  within_other : (other : Other Word Place) (kind : BadToken) (left : ℕ) (After : Place → Language)
      → ((place : Place) (rest : List ℕ) → After place rest → left ≤ length rest) → (bytes : List ℕ) → BadOther other kind left After bytes
      → left ≤ length bytes
  within_other Nothing kind left After after bytes none = absurd none
  within_other (Words table fault to) kind left After after bytes (inl (word, stands, bad, at)) = omega (arith, at)
  within_other (Words table fault to) kind left After after bytes (inr (entry, within, then)) =
      within_then (Exactly entry.0) left (After (to entry.1)) (after (to entry.1)) bytes then
  within_other (Token symbol to) kind left After after bytes (inl (content, bad, rest, takes, at)) = omega (arith, at)
  within_other (Token symbol to) kind left After after bytes (inr (content, allows, then)) =
      within_then (part symbol content) left (After (to content)) (after (to content)) bytes then
  within_other (Either one two) kind left After after bytes (inl bad) = within_other one kind left After after bytes bad
  within_other (Either one two) kind left After after bytes (inr bad) = within_other two kind left After after bytes bad

  bad_within : (kind : BadToken) (left n : ℕ) (place : Place) (bytes : List ℕ) → BadLeads turn is_loose kind left n place bytes → left ≤ length bytes
  bad_within kind left zero place bytes none = absurd none
  bad_within kind left (suc n) place bytes at = inside (bad_within kind left n) at
    where
      inside : ((next : Place) (rest : List ℕ) → BadLeads turn is_loose kind left n next rest → left ≤ length rest)
          → BadTurn (turn place) kind left (Loosely turn is_loose (λ next rest. BadLeads turn is_loose kind left n next rest)) bytes → left ≤ length bytes
      inside later (inl (b, next, is, then)) = within_then (Exactly (b ∷ [])) left
          (Loosely turn is_loose (λ next rest. BadLeads turn is_loose kind left n next rest) next)
          (within_blanks (is_loose next) left (BadLeads turn is_loose kind left n next) (later next)) bytes then
      inside later (inr other) = within_other (turn place).other kind left (Loosely turn is_loose (λ next rest. BadLeads turn is_loose kind left n next rest))
          (λ next. within_blanks (is_loose next) left (BadLeads turn is_loose kind left n next) (later next)) bytes other

  pub loose_within : (place : Place) → AreWithin (BadLoosely turn is_loose place)
  loose_within place kind left bytes bad = within_blanks (is_loose place) left (BadFrom turn is_loose place kind left)
      (λ rest (n, later). bad_within kind left n place rest later) bytes bad

  -- ---- after what was taken

  lines_end : Ending turn is_loose (LooseLine turn is_loose)
  lines_end = loose_ending turn is_loose (Line turn is_loose) (line_ending turn is_loose)

  bads_end : (kind : BadToken) (left : ℕ) → Ending turn is_loose (LooseBad turn is_loose kind left)
  bads_end kind left = loose_ending turn is_loose (λ next rest. BadFrom turn is_loose next kind left rest) (bad_ending turn is_loose kind left)

  -- Where the line ends, nothing else but a sign may stand.
  end_alone : (place : Place) (prefix : List ℕ) (next : Place) (rest more : List ℕ) → How IsBounded (turn place) prefix next rest
      → ¬ AtEnd turn is_loose place (prefix ++ more)
  end_alone place prefix next rest more how = λ (end, ends, none). refuse end ends none how
    where
      refuse : (end : End) → (turn place).ends ≡ Some end → prefix ++ more ≡ [] → How IsBounded (turn place) prefix next rest → ⊥
      refuse end ends none (inl (b, is, same)) = let clash : b ∷ more ≡ [] = ap (λ p. p ++ more) (sym same) ∙ none in cc
      refuse end ends none (inr other) = subst (λ o. HowOther IsBounded o prefix next rest) ((are place).alone end ends) other

  goes_took : (place : Place) (bytes : List ℕ) (next : Place) (rest : List ℕ) → (took : Took IsBounded (turn place) bytes next rest)
      → Goes (LineFrom turn is_loose place) (BadFrom turn is_loose place) took.prefix (LooseLine turn is_loose next) (BadLoosely turn is_loose next) rest
  goes_took place bytes next rest took = record {
    line = record {
      onto = λ more line. line_join turn is_loose place (took.prefix ++ more)
          (took_join IsBounded (Any turn is_loose) (λ this bound. tt) (LooseLine turn is_loose) (turn place) bytes next rest more (λ word fault bound. tt)
          took line);
      back = λ more same line. ⊎_elim
          (λ (end : AtEnd turn is_loose place (took.prefix ++ more)). absurd (end_alone place took.prefix next rest more took.how end))
          (λ (at : AtTurn (Any turn is_loose) (turn place) (LooseLine turn is_loose) (took.prefix ++ more)). after_took turn is_loose (Any turn is_loose)
          (Any turn is_loose) (turn place) (are place).apart (are place).ended (LooseLine turn is_loose) lines_end (took.prefix ++ more) next more
          (took_again IsBounded (Any turn is_loose) (λ this bound. tt) (turn place) bytes next rest more (λ word fault bound. tt) took same) at)
          (line_split turn is_loose place (took.prefix ++ more) line);
    };
    onto = λ kind left bad. bad_join turn is_loose place kind left (took.prefix ++ rest)
        (took_bad_join IsBounded kind left (LooseBad turn is_loose kind left) (turn place) bytes next rest rest took bad);
    back = λ kind left bad. after_took_bad turn is_loose (turn place) (are place).apart (are place).ended kind left (LooseBad turn is_loose kind left)
        (bads_end kind left) (took.prefix ++ rest) next rest (took_again IsBounded IsBounded (λ this bound. bound) (turn place) bytes next rest rest
        (λ word fault bound. bound) took refl) (bad_split turn is_loose place kind left (took.prefix ++ rest) bad);
  }

  -- A token leads from its place to the next one.
  pub reaches_next : (place : Place) (bytes : List ℕ) (next : Place) (middle rest : List ℕ) → Took IsBounded (turn place) bytes next middle
      → Skips (is_loose next) middle rest → Reaches turn is_loose place bytes next rest
  reaches_next place bytes next middle rest took skips = record {
    stops = λ stop at.
        stop_after (LineFrom turn is_loose place) (BadFrom turn is_loose place) (Unit {0}) (LooseLine turn is_loose next) (BadLoosely turn is_loose next)
        (Unit {0}) bytes took.prefix middle stop took.bytes_are (λ lack. lack) (goes_took place bytes next middle took)
        (stop_skips (is_loose next) (Line turn is_loose next) (BadFrom turn is_loose next) (line_ending turn is_loose Blank next (are next).no_blank)
        (λ kind left. bad_ending turn is_loose kind left Blank next (are next).no_blank) middle rest stop skips at);
    kept = λ end (n, leads). (
      suc n,
      subst (λ b. AtTurn IsBounded (turn place) (Loosely turn is_loose (λ next rest. Leads turn is_loose IsBounded end n next rest)) b)
          (sym took.bytes_are) (took_join IsBounded IsBounded (λ this bound. bound) (Loosely turn is_loose (λ next rest. Leads turn is_loose IsBounded end n
          next rest)) (turn place) bytes next middle middle (λ word fault bound. bound) took (skip_blanks (is_loose next) (Leads turn is_loose IsBounded end n
          next) middle rest skips leads)),
    );
  }

  -- a stop after the blanks before a place
  pub stop_after_blanks : (place : Place) (bytes rest : List ℕ) (stop : Stop) → Skips (is_loose place) bytes rest
      → IsStop (LineFrom turn is_loose place) (BadFrom turn is_loose place) (Unit {0}) rest stop
      → IsStop (LooseLine turn is_loose place) (BadLoosely turn is_loose place) (Unit {0}) bytes stop
  stop_after_blanks place bytes rest stop skips at = stop_skips (is_loose place) (Line turn is_loose place) (BadFrom turn is_loose place)
      (line_ending turn is_loose Blank place (are place).no_blank) (λ kind left. bad_ending turn is_loose kind left Blank place (are place).no_blank) bytes rest
      stop skips at

  pub reaches_here : (place : Place) (bytes : List ℕ) → Reaches turn is_loose place bytes place bytes
  reaches_here place bytes = record { stops = λ stop at. at; kept = λ end kept. kept }

  pub reaches_on : (place : Place) (bytes : List ℕ) (middle : Place) (left : List ℕ) (next : Place) (rest : List ℕ)
      → Reaches turn is_loose place bytes middle left → Reaches turn is_loose middle left next rest → Reaches turn is_loose place bytes next rest
  reaches_on place bytes middle left next rest one two = record {
    stops = λ stop at. one.stops stop (two.stops stop at);
    kept = λ end kept. one.kept end (two.kept end kept);
  }

  pub kept_end : (place : Place) (end : End) (bytes : List ℕ) → (turn place).ends ≡ Some end → bytes ≡ [] → KeptFrom turn is_loose end place bytes
  kept_end place end bytes ends none = (zero, (ends, none))

  -- ---- a stop at a place

  -- Neither of two goes on so, and reading stops at the later place of the two.
  abbrev pub LeavesEither : (Stop → Type 0) → (Stop → Type 0) → Stop → Type 0
  LeavesEither One Two stops.Memory = ⊥
  LeavesEither One Two (stops.Syntax left) =
      (other : ℕ) × (left ≤ other)
      × ((One (stops.Syntax left) × Two (stops.Syntax other)) ⊎ (One (stops.Syntax other) × Two (stops.Syntax left)))
  LeavesEither One Two (stops.Bad kind left) = One (stops.Bad kind left) ⊎ Two (stops.Bad kind left)

  -- Nothing that may stand beside signs stands there.
  abbrev pub LeavesOther : Other Word Place → List ℕ → Stop → Type 0
  LeavesOther Nothing bytes stop = StopsWith (λ left. left ≡ length bytes) stop
  LeavesOther (Words table fault to) bytes stop = LeavesWords table fault bytes stop
  LeavesOther (Token symbol to) bytes stop = Leaves symbol bytes stop
  LeavesOther (Either one two) bytes stop = LeavesEither (LeavesOther one bytes) (LeavesOther two bytes) stop

  -- Nothing that may stand at the place stands there.
  pub record LeavesPlace (place : Place) (bytes : List ℕ) (stop : Stop) : Type 0 where
    pub no_end : (end : End) → (turn place).ends ≡ Some end → bytes ≢ []
    pub no_sign : NoSign (turn place).signs bytes
    pub other : LeavesOther (turn place).other bytes stop

  abbrev Beside : Place → Language
  Beside place = ThenOther (Any turn is_loose) (turn place).other (LooseLine turn is_loose)

  abbrev BadBeside : Place → Bads
  BadBeside place kind left bytes = BadOther (turn place).other kind left (LooseBad turn is_loose kind left) bytes

  -- What begins with no sign and is not the end is one of the other parts.
  only_other : (place : Place) (bytes more : List ℕ) → ((end : End) → (turn place).ends ≡ Some end → bytes ≢ []) → NoSign (turn place).signs bytes
      → first_byte more ≡ first_byte bytes → LineFrom turn is_loose place more → Beside place more
  only_other place bytes more no_end no_sign same line = pick (line_split turn is_loose place more line)
    where
      pick : AtEnd turn is_loose place more ⊎ AtTurn (Any turn is_loose) (turn place) (LooseLine turn is_loose) more → Beside place more
      pick (inl (end, ends, none)) = absurd (no_end end ends (nothing bytes (ap first_byte (sym none) ∙ same)))
        where
          nothing : (these : List ℕ) → first_byte [] ≡ first_byte these → these ≡ []
          nothing [] same = refl
          nothing (b ∷ these) same = cc
      pick (inr (inl sign)) = absurd (sign_refuses (turn place).signs (LooseLine turn is_loose) more (NoSign-first_byte (turn place).signs bytes more same
          no_sign) sign)
      pick (inr (inr other)) = other

  only_bad_other : (place : Place) (kind : BadToken) (left : ℕ) (bytes : List ℕ) → NoSign (turn place).signs bytes → BadFrom turn is_loose place kind left bytes
      → BadBeside place kind left bytes
  only_bad_other place kind left bytes no_sign bad = ⊎_elim
      (λ (sign : ThenSign (turn place).signs (LooseBad turn is_loose kind left) bytes). absurd (sign_refuses (turn place).signs
      (LooseBad turn is_loose kind left) bytes no_sign sign))
      (λ (other : BadBeside place kind left bytes). other)
      (bad_split turn is_loose place kind left bytes bad)

  -- a stop in the other parts is a stop at the place
  stop_beside : (place : Place) (bytes : List ℕ) (stop : Stop) → ((end : End) → (turn place).ends ≡ Some end → bytes ≢ []) → NoSign (turn place).signs bytes
      → IsStop (Beside place) (BadBeside place) (Unit {0}) bytes stop → IsStop (LineFrom turn is_loose place) (BadFrom turn is_loose place) (Unit {0}) bytes
      stop
  stop_beside place bytes stops.Memory no_end no_sign at = tt
  stop_beside place bytes (stops.Syntax left) no_end no_sign (stop, none) = (
    record {
      read = stop.read;
      unread = stop.unread;
      bytes_are = stop.bytes_are;
      left_is = stop.left_is;
      viable = (stop.viable.0, line_join turn is_loose place (stop.read ++ stop.viable.0) (inr stop.viable.1));
      none = λ more same line. stop.none more same (only_other place bytes (stop.read ++ more) no_end no_sign (first_byte-append stop.read more stop.unread same
          ∙ ap first_byte (sym stop.bytes_are)) line);
    },
    λ kind left bad. none kind left (only_bad_other place kind left bytes no_sign bad),
  )
  stop_beside place bytes (stops.Bad kind left) no_end no_sign stop = record {
    has = bad_join turn is_loose place kind left bytes (inr stop.has);
    first = λ other where_at bad. stop.first other where_at (only_bad_other place other where_at bytes no_sign bad);
    read = stop.read;
    unread = stop.unread;
    bytes_are = stop.bytes_are;
    left_is = stop.left_is;
    viable = (stop.viable.0, line_join turn is_loose place (stop.read ++ stop.viable.0) (inr stop.viable.1));
  }

  loose_some : (place : Place) → (line : List ℕ) × LooseLine turn is_loose place line
  loose_some place = let line = some place in (line.0, no_blanks_first (is_loose place) (LineFrom turn is_loose place) line.0 line.1)
    where
      no_blanks_first : (t : Bool) (At : Language) (bytes : List ℕ) → At bytes → WithBlanks t At bytes
      no_blanks_first true At bytes at = ([], bytes, refl, tt, at)
      no_blanks_first false At bytes at = at

  stop_in_token : (symbol : Symbol) (to : Content symbol → Place) → IsEnded turn is_loose (Token symbol to) → (bytes : List ℕ) (stop : Stop)
      → Leaves symbol bytes stop → IsStop (ThenOther {Word = Word} (Any turn is_loose) (Token symbol to) (LooseLine turn is_loose))
      (λ kind left. BadOther {Word = Word} (Token symbol to) kind left (LooseBad turn is_loose kind left)) (Unit {0}) bytes stop
  stop_in_token symbol to ended bytes stops.Memory leaves = tt
  stop_in_token symbol to ended bytes (stops.Syntax left) leaves =
      let After : Content symbol → Language = λ c. LooseLine turn is_loose (to c) in
      let ends : (c : Content symbol) → Halts _ (After c) = λ c. lines_end (class_of symbol) (to c) (ended.1 c) in
      let line = ended.2 in
      let refused = refuses_at symbol (After (example symbol ended.0).content) ended.0 (ends (example symbol ended.0).content) line.0
      (line.1 (example symbol ended.0).content) bytes left leaves in (
        stops_of_same (ThenOther {Word = Word} (Any turn is_loose) (Token symbol to) (LooseLine turn is_loose)) _ bytes left
            (λ more (content, allows, then). (content, allows, tt, then))
            (λ more same (content, allows, any, then). (content, allows, then))
            (each_stops symbol ended.0 After ends line.0 line.1 bytes left leaves),
        λ kind place bad. ⊎_elim
            (λ (here : IsBad symbol kind place bytes). refused.no_bad kind place here)
            (λ ((content, allows, then) : (content : Content symbol) × Allows symbol content × Then (part symbol content) (LooseBad turn is_loose kind place
            (to content)) bytes).
            no_one symbol (LooseBad turn is_loose kind place (to content)) ended.0 (bads_end kind place (class_of symbol) (to content) (ended.1 content)) bytes
            left leaves (content, allows, then))
            bad,
      )
  stop_in_token symbol to ended bytes (stops.Bad kind left) leaves =
      let one = example symbol ended.0 in
      let line = ended.2 in
      record {
        has = inl leaves;
        first = λ other place bad. let le = within_other (Token symbol to) other place (LooseBad turn is_loose other place)
            (λ next rest later. loose_within next other place rest later) bytes bad in omega (arith, le, leaves.4);
        read = [];
        unread = bytes;
        bytes_are = refl;
        left_is = leaves.4;
        viable = (one.prefix ++ line.0, (one.content, one.allowed, tt, (one.prefix, line.0, refl, one.is, line.1 one.content)));
      }

  stop_in_words : (table : List (Entry Word)) (fault : Word → List ℕ → Option BadToken) (to : Word → Place) → IsEnded turn is_loose (Words table fault to)
      → (bytes : List ℕ) (stop : Stop) → LeavesWords table fault bytes stop
      → IsStop (ThenOther (Any turn is_loose) (Words table fault to) (LooseLine turn is_loose))
      (λ kind left. BadOther (Words table fault to) kind left (LooseBad turn is_loose kind left)) (Unit {0}) bytes stop
  stop_in_words table fault to ended bytes stops.Memory leaves = tt
  stop_in_words [] fault to ended bytes (stops.Syntax left) leaves = absurd ended
  stop_in_words (first ∷ table) fault to ended bytes (stops.Syntax left) (leaves, no_bad) = (
    stops_of_same (ThenOther (Any turn is_loose) (Words (first ∷ table) fault to) (LooseLine turn is_loose)) _ bytes left
        (λ more (entry, within, then). (entry, within, tt, then))
        (λ more same (entry, within, any, then). (entry, within, then))
        (stops_in_table first table ended.0 (λ w. LooseLine turn is_loose (to w)) (λ w. lines_end NameByte (to w) (ended.1 w)) (λ w. loose_some (to w))
        bytes left leaves),
    λ kind place bad. ⊎_elim
        (λ (here : IsBadWord (first ∷ table) fault kind place bytes). no_bad kind place here)
        (λ (then : ThenWord (first ∷ table) (λ w. LooseBad turn is_loose kind place (to w)) bytes).
        no_word (first ∷ table) ended.0 (λ w. LooseBad turn is_loose kind place (to w)) (λ w. bads_end kind place NameByte (to w) (ended.1 w)) bytes left leaves
        then)
        bad,
  )
  stop_in_words [] fault to ended bytes (stops.Bad kind left) leaves = absurd ended
  stop_in_words (first ∷ table) fault to ended bytes (stops.Bad kind left) leaves =
      let line = loose_some (to first.1) in
      record {
        has = inl leaves;
        first = λ other place bad. let le = within_other (Words (first ∷ table) fault to) other place (LooseBad turn is_loose other place)
            (λ next rest later. loose_within next other place rest later) bytes bad in omega (arith, le, leaves.3);
        read = [];
        unread = bytes;
        bytes_are = refl;
        left_is = leaves.3;
        viable = (first.0 ++ line.0, (first, inl refl, tt, (first.0, line.0, refl, refl, line.1)));
      }

  bad_left : (other : Other Word Place) (bytes : List ℕ) (kind : BadToken) (left : ℕ) → LeavesOther other bytes (stops.Bad kind left) → left ≡ length bytes
  bad_left Nothing bytes kind left leaves = absurd leaves
  bad_left (Words table fault to) bytes kind left leaves = leaves.3
  bad_left (Token symbol to) bytes kind left leaves = leaves.4
  bad_left (Either one two) bytes kind left (inl leaves) = bad_left one bytes kind left leaves
  bad_left (Either one two) bytes kind left (inr leaves) = bad_left two bytes kind left leaves

  abbrev Lines : Other Word Place → Language
  Lines other = ThenOther (Any turn is_loose) other (LooseLine turn is_loose)

  abbrev Bad : Other Word Place → Bads
  Bad other kind left bytes = BadOther other kind left (LooseBad turn is_loose kind left) bytes

  bad_is_first : (other : Other Word Place) (bytes : List ℕ) (left : ℕ) → left ≡ length bytes → (kind : BadToken) (place : ℕ) → Bad other kind place bytes
      → place ≤ left
  bad_is_first other bytes left left_is kind place bad = let le = within_other other kind place (LooseBad turn is_loose kind place)
      (λ next rest later. loose_within next kind place rest later) bytes bad in omega (arith, le, left_is)

  -- a stop in one of the other parts
  stop_in_other : (other : Other Word Place) → IsThere turn is_loose other → IsEnded turn is_loose other → (bytes : List ℕ) (stop : Stop)
      → LeavesOther other bytes stop → IsStop (Lines other) (Bad other) (Unit {0}) bytes stop
  stop_in_other Nothing there ended bytes stop leaves = absurd there
  stop_in_other (Words table fault to) there ended bytes stop leaves = stop_in_words table fault to ended bytes stop leaves
  stop_in_other (Token symbol to) there ended bytes stop leaves = stop_in_token symbol to ended bytes stop leaves
  stop_in_other (Either one two) there ended bytes stops.Memory leaves = tt
  stop_in_other (Either one two) there ended bytes (stops.Syntax left) (other, le, inl (first, second)) =
      let a = stop_in_other one there.0 ended.0 bytes (stops.Syntax left) first in
      let b = stop_in_other two there.1 ended.1 bytes (stops.Syntax other) second in
      (stops_in_both (Lines one) (Lines two) bytes left other le a.0 b.0, λ kind place bad. ⊎_elim (a.1 kind place) (b.1 kind place) bad)
  stop_in_other (Either one two) there ended bytes (stops.Syntax left) (other, le, inr (first, second)) =
      let a = stop_in_other one there.0 ended.0 bytes (stops.Syntax other) first in
      let b = stop_in_other two there.1 ended.1 bytes (stops.Syntax left) second in (
        stops_of_same (Lines (Either one two)) (λ these. Lines two these ⊎ Lines one these) bytes left
            (λ more is. ⊎_elim (λ (line : Lines two more). inr line) (λ (line : Lines one more). inl line) is)
            (λ more same is. ⊎_elim (λ (line : Lines one more). inr line) (λ (line : Lines two more). inl line) is)
            (stops_in_both (Lines two) (Lines one) bytes left other le b.0 a.0),
        λ kind place bad. ⊎_elim (a.1 kind place) (b.1 kind place) bad,
      )
  stop_in_other (Either one two) there ended bytes (stops.Bad kind left) (inl leaves) =
      let at = stop_in_other one there.0 ended.0 bytes (stops.Bad kind left) leaves in
      record {
        has = inl at.has;
        first = bad_is_first (Either one two) bytes left (bad_left one bytes kind left leaves);
        read = at.read;
        unread = at.unread;
        bytes_are = at.bytes_are;
        left_is = at.left_is;
        viable = (at.viable.0, inl at.viable.1);
      }
  stop_in_other (Either one two) there ended bytes (stops.Bad kind left) (inr leaves) =
      let at = stop_in_other two there.1 ended.1 bytes (stops.Bad kind left) leaves in
      record {
        has = inr at.has;
        first = bad_is_first (Either one two) bytes left (bad_left two bytes kind left leaves);
        read = at.read;
        unread = at.unread;
        bytes_are = at.bytes_are;
        left_is = at.left_is;
        viable = (at.viable.0, inr at.viable.1);
      }

  -- Where nothing that may stand at a place stands there, reading stops.
  pub stop_at_place : (place : Place) (bytes : List ℕ) (stop : Stop) → LeavesPlace place bytes stop
      → IsStop (LineFrom turn is_loose place) (BadFrom turn is_loose place) (Unit {0}) bytes stop
  stop_at_place place bytes stop leaves = by_other (turn place).other refl (are place).ended leaves.other
    where
      Stops : Type 0
      Stops = IsStop (LineFrom turn is_loose place) (BadFrom turn is_loose place) (Unit {0}) bytes stop

      no_other : (stop : Stop) → (turn place).other ≡ Nothing → StopsWith (λ left. left ≡ length bytes) stop
          → IsStop (LineFrom turn is_loose place) (BadFrom turn is_loose place) (Unit {0}) bytes stop
      no_other stops.Memory is at = tt
      no_other (stops.Syntax left) is at = (
        subst (StopsBefore (LineFrom turn is_loose place) bytes) (sym at)
            (stops_here (LineFrom turn is_loose place) bytes (some place).0 (some place).1 (λ more same line. subst (λ o. ThenOther (Any turn is_loose) o
            (LooseLine turn is_loose) more) is (only_other place bytes more leaves.no_end leaves.no_sign same line))),
        λ kind where_at bad. subst (λ o. BadOther o kind where_at (LooseBad turn is_loose kind where_at) bytes) is
            (only_bad_other place kind where_at bytes leaves.no_sign bad),
      )
      no_other (stops.Bad kind left) is at = absurd at

      beside : (other : Other Word Place) → (turn place).other ≡ other → IsThere turn is_loose other → IsEnded turn is_loose other
          → LeavesOther other bytes stop → Stops
      beside other is there ended at = stop_beside place bytes stop leaves.no_end leaves.no_sign
          (subst (λ o. IsStop (Lines o) (Bad o) (Unit {0}) bytes stop) (sym is) (stop_in_other other there ended bytes stop at))

      by_other : (other : Other Word Place) → (turn place).other ≡ other → IsEnded turn is_loose other → LeavesOther other bytes stop → Stops
      by_other Nothing is ended at = no_other stop is at
      by_other (Words table fault to) is ended at = beside (Words table fault to) is tt ended at
      by_other (Token symbol to) is ended at = beside (Token symbol to) is tt ended at
      by_other (Either one two) is ended at = beside (Either one two) is (ended.3, ended.4) ended at

  -- ---- one way

  -- Nothing is taken where the line ends.
  nothing_taken : (Bound : Part → Type 0) (place : Place) (After : Place → Language) (bytes : List ℕ) → AtEnd turn is_loose place bytes
      → ¬ AtTurn Bound (turn place) After bytes
  nothing_taken Bound place After bytes (end, ends, none) = λ at. ⊎_elim
      (λ ((b, next, is, (prefix, rest, bytes_are, same, after)) : ThenSign (turn place).signs After bytes). let clash : [] ≡ b ∷ rest = sym none ∙ bytes_are
      ∙ ap (λ p. p ++ rest) same in cc)
      (λ (other : ThenOther Bound (turn place).other After bytes). subst (λ o. ThenOther Bound o After bytes) ((are place).alone end ends) other)
      at

  nothing_bad : (place : Place) (kind : BadToken) (left : ℕ) (After : Place → Language) (bytes : List ℕ) → AtEnd turn is_loose place bytes
      → ¬ BadTurn (turn place) kind left After bytes
  nothing_bad place kind left After bytes (end, ends, none) = λ at. ⊎_elim
      (λ ((b, next, is, (prefix, rest, bytes_are, same, after)) : ThenSign (turn place).signs After bytes). let clash : [] ≡ b ∷ rest = sym none ∙ bytes_are
      ∙ ap (λ p. p ++ rest) same in cc)
      (λ (other : BadOther (turn place).other kind left After bytes). subst (λ o. BadOther o kind left After bytes) ((are place).alone end ends) other)
      at

  abbrev LooseLeads : (Part → Type 0) → End → ℕ → Place → Language
  LooseLeads Bound end n = Loosely turn is_loose (λ next rest. Leads turn is_loose Bound end n next rest)

  leads_end : (Bound : Part → Type 0) (end : End) (n : ℕ) → Ending turn is_loose (LooseLeads Bound end n)
  leads_end Bound end n = loose_ending turn is_loose (Leads turn is_loose Bound end n) (leads_bare turn is_loose Bound end n)

  -- The same bytes lead to one end.
  pub leads_agree : (Bound Looser : Part → Type 0) (end other : End) (n m : ℕ) (place : Place) (bytes : List ℕ) → Leads turn is_loose Bound end n place bytes
      → Leads turn is_loose Looser other m place bytes → end ≡ other
  leads_agree Bound Looser end other zero zero place bytes (ends, none) (more, nothing) = let both : Some end ≡ Some other = sym ends ∙ more in cc
  leads_agree Bound Looser end other zero (suc m) place bytes (ends, none) two =
      absurd (nothing_taken Looser place (LooseLeads Looser other m) bytes (end, ends, none) two)
  leads_agree Bound Looser end other (suc n) zero place bytes one (ends, none) =
      absurd (nothing_taken Bound place (LooseLeads Bound end n) bytes (other, ends, none) one)
  leads_agree Bound Looser end other (suc n) (suc m) place bytes one two =
      let found = found_of turn is_loose Bound (turn place) (are place).ended (LooseLeads Bound end n) (leads_end Bound end n) bytes one in
      let next = found.next in
      let second = after_took turn is_loose Bound Looser (turn place) (are place).apart (are place).ended (LooseLeads Looser other m) (leads_end Looser other m)
      bytes next found.rest found.took two in
      let (rest, first_leads, second_leads) = blanks_agree (is_loose next) (Leads turn is_loose Bound end n next) (Leads turn is_loose Looser other m next)
      (leads_bare turn is_loose Bound end n Blank next (are next).no_blank) (leads_bare turn is_loose Looser other m Blank next (are next).no_blank)
      found.rest found.after second in
      leads_agree Bound Looser end other n m next rest first_leads second_leads

  -- What is within its bounds has no bad token.
  pub kept_no_bad : (end : End) (kind : BadToken) (left n m : ℕ) (place : Place) (bytes : List ℕ) → Leads turn is_loose IsBounded end n place bytes
      → ¬ BadLeads turn is_loose kind left m place bytes
  kept_no_bad end kind left n zero place bytes one = λ none. none
  kept_no_bad end kind left zero (suc m) place bytes (ends, none) = nothing_bad place kind left
      (Loosely turn is_loose (λ next rest. BadLeads turn is_loose kind left m next rest)) bytes (end, ends, none)
  kept_no_bad end kind left (suc n) (suc m) place bytes one = λ bad.
      let found = found_of turn is_loose IsBounded (turn place) (are place).ended (LooseLeads IsBounded end n) (leads_end IsBounded end n) bytes one in
      let next = found.next in
      let second = after_took_bad turn is_loose (turn place) (are place).apart (are place).ended kind left
      (Loosely turn is_loose (λ next rest. BadLeads turn is_loose kind left m next rest))
      (loose_ending turn is_loose (BadLeads turn is_loose kind left m) (bad_bare turn is_loose kind left m)) bytes next found.rest found.took bad in
      let (rest, leads, bads) = blanks_agree (is_loose next) (Leads turn is_loose IsBounded end n next) (BadLeads turn is_loose kind left m next)
      (leads_bare turn is_loose IsBounded end n Blank next (are next).no_blank) (bad_bare turn is_loose kind left m Blank next (are next).no_blank)
      found.rest found.after second in
      kept_no_bad end kind left n m next rest leads bads
