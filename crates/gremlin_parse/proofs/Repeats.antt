-- Items, one after the other, and what stands after the last: where reading stops among them, and that bytes spell one list of them.
use Rattle.std.proofs.Common.{◌≡◌, ◌+◌, ◌⊎◌, inl, inr, ℕ, true, false, List, [], ◌∷◌, ◌++◌, length, flat_map, refl, sym}
use Rattle.std.proofs.Common.{ap, ◌∙◌, subst, ⊎_elim, append_assoc, length-append, arith}
use Rattle.std.specs.List.{AllByRecursion}
use Rattle.std.proofs.lemmas.List.{append-nil}
use Rattle.gremlin_parse.specs.Grammar.{Part, IsMadeOf, IsBounded}
use Rattle.gremlin_parse.specs.Reading.{first_byte, Then, IsBadPart, BadThen, BadParts}
use Rattle.gremlin_parse.specs.Symbols.{Symbol, Contents, Follows, BadFollows}
use Rattle.gremlin_parse.specs.Stopping.{Bads, IsStop, IsOneOf, BadInOne}
use Rattle.gremlin_parse.specs.declared.bad_token.BadToken.{BadToken}
use Rattle.gremlin_parse.specs.declared.stop.Stop.{Stop}
use Rattle.gremlin_parse.specs.declared.stop.Stop.TheVariants as stops
use Rattle.gremlin_parse.proofs.Symbols.{Class, halts}
use Rattle.gremlin_parse.proofs.Productions.{Enders, HaltsAt, AreWithin, Closes, is_production, follows_halts, bad_follows_halts}
use Rattle.gremlin_parse.proofs.Spelling.{parts_with, AllowsAll, ThenParts, made_of_then, then_of_made, then_parts_map}
use Rattle.gremlin_parse.proofs.Spelling.{then_parts_choice, bad_then_of_parts, bad_then_map, bad_parts_choice}
use Rattle.gremlin_parse.proofs.Spelling.{HasNoBad, follows_of_parts, parts_of_follows, follows_agree}
use Rattle.gremlin_parse.proofs.Spelling.{bad_follows_of_then, then_of_bad_follows, no_bad_within}

pub bad_parts_within : (parts : List Part) → AreWithin (BadParts parts)
bad_parts_within [] = λ kind place bytes bad. absurd bad
bad_parts_within (this ∷ parts) = λ kind place bytes bad.
    ⊎_elim
    (λ (here : IsBadPart this kind place bytes). omega (arith, here.6))
    (λ ((prefix, rest, whole, part_is, later) : Then this (BadParts parts kind place) bytes).
    let le = bad_parts_within parts kind place rest later in
    let len : length bytes ≡ length prefix + length rest = ap length whole ∙ length-append prefix rest in
    omega (arith, le, len))
    bad

-- ---- the first of two languages, or the second

-- Where the bytes are none of the first language, and what may go on as one of it may go on as one of the second, a stop of the second is a stop of both.
pub stop_of_second : (First Second Both : List ℕ → Type 0) (BadSecond BadBoth : Bads) → ((bytes : List ℕ) → Second bytes → Both bytes)
    → ((bytes : List ℕ) → Both bytes → First bytes ⊎ Second bytes) → ((read : List ℕ) (b : ℕ) (more : List ℕ) → First (read ++ b ∷ more) → (line : List ℕ)
    × Second (read ++ b ∷ line)) → (Lack : Type 0) (bytes : List ℕ) (stop : Stop) → ¬ First bytes → ((kind : BadToken) (left : ℕ) → BadSecond kind left
    bytes → BadBoth kind left bytes) → ((kind : BadToken) (left : ℕ) → BadBoth kind left bytes → BadSecond kind left bytes) → IsStop Second BadSecond Lack
    bytes stop → IsStop Both BadBoth Lack bytes stop
stop_of_second First Second Both BadSecond BadBoth join cases goes_on Lack bytes stops.Memory other bad_join bad_cases stop = stop
stop_of_second First Second Both BadSecond BadBoth join cases goes_on Lack bytes (stops.Syntax left) other bad_join bad_cases (stop, no_bad) = (
  record {
    read = stop.read;
    unread = stop.unread;
    bytes_are = stop.bytes_are;
    left_is = stop.left_is;
    viable = (stop.viable.0, join (stop.read ++ stop.viable.0) stop.viable.1);
    none = λ more same both. ⊎_elim (λ (first : First (stop.read ++ more)). refuse more same first)
        (λ (second : Second (stop.read ++ more)). stop.none more same second) (cases (stop.read ++ more) both);
  },
  λ kind place bad. no_bad kind place (bad_cases kind place bad),
)
  where
    refuse : (more : List ℕ) → first_byte more ≡ first_byte stop.unread → First (stop.read ++ more) → ⊥
    refuse [] same first = other (subst First (ap (λ u. stop.read ++ u) (none_left stop.unread same) ∙ sym stop.bytes_are) first)
      where
        none_left : (unread : List ℕ) → first_byte [] ≡ first_byte unread → [] ≡ unread
        none_left [] same = refl
        none_left (b ∷ unread) same = cc
    refuse (b ∷ more) same first = let found = goes_on stop.read b more first in stop.none (b ∷ found.0) same found.1
stop_of_second First Second Both BadSecond BadBoth join cases goes_on Lack bytes (stops.Bad kind left) other bad_join bad_cases stop = record {
  has = bad_join kind left stop.has;
  first = λ other_kind place bad. stop.first other_kind place (bad_cases other_kind place bad);
  read = stop.read;
  unread = stop.unread;
  bytes_are = stop.bytes_are;
  left_is = stop.left_is;
  viable = (stop.viable.0, join (stop.read ++ stop.viable.0) stop.viable.1);
}

-- ---- a list of items

all_join : (one two : List Part) → AllByRecursion IsBounded one → AllByRecursion IsBounded two → AllByRecursion IsBounded (one ++ two)
all_join [] two all these = these
all_join (this ∷ one) two all these = (all.0, all_join one two all.1 these)

pub all_split : (one two : List Part) → AllByRecursion IsBounded (one ++ two) → AllByRecursion IsBounded one × AllByRecursion IsBounded two
all_split [] two all = (tt, all)
all_split (this ∷ one) two all = let later = all_split one two all.1 in ((all.0, later.0), later.1)

abbrev pub Language : Type 1
Language = List ℕ → Type 0

-- two items that stand there, and what stands after both
pub record SameItem (X : Type 0) (x y : X) (After Other : Language) : Type 0 where
  pub is : y ≡ x
  pub rest : List ℕ
  pub one : After rest
  pub two : Other rest

-- What is to be known of an item: `One` are the bytes of some item and then of a language, `BadOne`
-- is a bad token in an item or after one, and `last` are the parts that stand after all items.
pub record IsItem {X : Type 0} (item : X → List Part) (last : List Part) (enders : Enders) (One : Language → Language) (BadOne : Bads → Bads) : Type 1 where
  -- an item by its parts
  pub join : (After : Language) (x : X) (bytes : List ℕ) → ThenParts (item x) After bytes → One After bytes
  pub split : (After : Language) (bytes : List ℕ) → One After bytes → (x : X) × ThenParts (item x) After bytes
  pub bad_join : (Bad : Bads) (kind : BadToken) (left : ℕ) (x : X) (bytes : List ℕ) → BadThen (item x) Bad kind left bytes → BadOne Bad kind left bytes
  pub bad_split : (Bad : Bads) (kind : BadToken) (left : ℕ) (bytes : List ℕ) → BadOne Bad kind left bytes → (x : X) × BadThen (item x) Bad kind left bytes
  -- the bytes with which an item and the end begin
  pub ends : (After : Language) → HaltsAt enders (One After)
  pub bads_end : (Bad : Bads) (kind : BadToken) (left : ℕ) → HaltsAt enders (BadOne Bad kind left)
  pub last_ends : HaltsAt enders (IsMadeOf last)
  -- An item is not the end, and stands where the end could go on.
  pub apart : (After : Language) (bytes : List ℕ) → IsMadeOf last bytes → ¬ One After bytes
  pub bads_apart : (Bad : Bads) (kind : BadToken) (left : ℕ) (bytes : List ℕ) → IsMadeOf last bytes → ¬ BadOne Bad kind left bytes
  pub goes_on : (After : Language) (line : List ℕ) → After line → (read : List ℕ) (b : ℕ) (more : List ℕ) → IsMadeOf last (read ++ b ∷ more) → (line : List ℕ)
      × One After (read ++ b ∷ line)
  pub last_line : (line : List ℕ) × IsMadeOf last line
  pub last_no_bad : HasNoBad last
  -- one way
  pub one_way : (After Other : Language) → HaltsAt enders After → HaltsAt enders Other → (x y : X) (bytes : List ℕ) → ThenParts (item x) After bytes
      → ThenParts (item y) Other bytes → SameItem X x y After Other
  pub no_bad : (After : Language) (Bad : Bads) (kind : BadToken) (left : ℕ) → HaltsAt enders After → HaltsAt enders (Bad kind left)
      → ((rest : List ℕ) → After rest → ¬ Bad kind left rest) → (x : X) → AllByRecursion IsBounded (item x) → (bytes : List ℕ) → ThenParts (item x) After bytes
      → ¬ BadOne Bad kind left bytes

module _ {X : Type 0} (item : X → List Part) (last : List Part) where
  -- the parts of items, and the last ones
  abbrev pub listed : List X → List Part
  listed list = flat_map item list ++ last

  listed-cons : (x : X) (list : List X) → listed (x ∷ list) ≡ item x ++ listed list
  listed-cons x list = append_assoc (item x) (flat_map item list) last

  -- the first item, and the others
  pub then_listed : (x : X) (list : List X) (bytes : List ℕ) → IsMadeOf (listed (x ∷ list)) bytes → ThenParts (item x) (IsMadeOf (listed list)) bytes
  then_listed x list bytes made = then_of_made (item x) (listed list) bytes (subst (λ parts. IsMadeOf parts bytes) (listed-cons x list) made)

  pub listed_then : (x : X) (list : List X) (bytes : List ℕ) → ThenParts (item x) (IsMadeOf (listed list)) bytes → IsMadeOf (listed (x ∷ list)) bytes
  listed_then x list bytes then = subst (λ parts. IsMadeOf parts bytes) (sym (listed-cons x list)) (made_of_then (item x) (listed list) bytes then)

module _ {X : Type 0} {item : X → List Part} {last : List Part} {enders : Enders} {One : Language → Language} {BadOne : Bads → Bads}
    (is : IsItem item last enders One BadOne) where
  abbrev Items : Language
  Items bytes = IsOneOf (listed item last) bytes

  abbrev BadItems : Bads
  BadItems kind left bytes = BadInOne (listed item last) kind left bytes

  items_of_item : (bytes : List ℕ) → One Items bytes → Items bytes
  items_of_item bytes one =
      let (x, then) = is.split Items bytes one in
      let (list, made) = then_parts_choice (List X) (λ list. IsMadeOf (listed item last list)) (item x) bytes then in
      (x ∷ list, listed_then item last x list bytes made)

  first_item : (x : X) (list : List X) (bytes : List ℕ) → IsMadeOf (listed item last (x ∷ list)) bytes → One Items bytes
  first_item x list bytes made = is.join Items x bytes (then_parts_map (IsMadeOf (listed item last list)) Items (λ rest these. (list, these)) (item x) bytes
      (then_listed item last x list bytes made))

  cases : (bytes : List ℕ) → Items bytes → IsMadeOf last bytes ⊎ One Items bytes
  cases bytes ([], made) = inl made
  cases bytes (x ∷ list, made) = inr (first_item x list bytes made)

  bads_of_item : (kind : BadToken) (left : ℕ) (bytes : List ℕ) → BadOne BadItems kind left bytes → BadItems kind left bytes
  bads_of_item kind left bytes bad =
      let (x, then) = is.bad_split BadItems kind left bytes bad in
      let (list, found) = bad_parts_choice (List X) (listed item last) [] (item x) kind left bytes then in
      (x ∷ list, subst (λ parts. BadParts parts kind left bytes) (sym (listed-cons item last x list)) found)

  bad_cases : (kind : BadToken) (left : ℕ) (bytes : List ℕ) → BadItems kind left bytes → BadOne BadItems kind left bytes
  bad_cases kind left bytes ([], bad) = absurd (is.last_no_bad kind left bytes bad)
  bad_cases kind left bytes (x ∷ list, bad) =
      let then = bad_then_of_parts (item x) (listed item last list) kind left bytes
      (subst (λ parts. BadParts parts kind left bytes) (listed-cons item last x list) bad) in
      is.bad_join BadItems kind left x bytes (bad_then_map (BadParts (listed item last list)) BadItems kind left (λ rest these. (list, these)) (item x)
      bytes then)

  items_end : HaltsAt enders Items
  items_end = λ class halts bytes items. ⊎_elim (λ (end : IsMadeOf last bytes). is.last_ends class halts bytes end)
      (λ (one : One Items bytes). is.ends Items class halts bytes one) (cases bytes items)

  bad_items_end : (kind : BadToken) (left : ℕ) → HaltsAt enders (BadItems kind left)
  bad_items_end kind left = λ class halts bytes bad. is.bads_end BadItems kind left class halts bytes (bad_cases kind left bytes bad)

  -- Items may stand after a production.
  pub items_close : Closes enders Items BadItems
  items_close = record {
    ends = items_end;
    bads_end = bad_items_end;
    within = λ kind place bytes (list, bad). bad_parts_within (listed item last list) kind place bytes bad;
    line = is.last_line.0;
    some = ([], is.last_line.1);
  }

  -- Where the bytes are not the end, a stop in an item is a stop of all.
  pub stop_of_item : (Lack : Type 0) (bytes : List ℕ) (stop : Stop) → ¬ IsMadeOf last bytes → IsStop (One Items) (BadOne BadItems) Lack bytes stop
      → IsStop Items BadItems Lack bytes stop
  stop_of_item Lack bytes stop other at =
      stop_of_second (IsMadeOf last) (One Items) Items (BadOne BadItems) BadItems items_of_item cases (is.goes_on Items is.last_line.0 ([], is.last_line.1))
      Lack bytes stop other (λ kind left bad. bads_of_item kind left bytes bad) (λ kind left bad. bad_cases kind left bytes bad) at

  -- The bytes spell one list of items.
  pub items_agree : (list others : List X) (bytes : List ℕ) → IsMadeOf (listed item last list) bytes → IsMadeOf (listed item last others) bytes → others ≡ list
  items_agree [] [] bytes made other = refl
  items_agree [] (y ∷ others) bytes made other = absurd (is.apart Items bytes made (first_item y others bytes other))
  items_agree (x ∷ list) [] bytes made other = absurd (is.apart Items bytes other (first_item x list bytes made))
  items_agree (x ∷ list) (y ∷ others) bytes made other =
      let same = is.one_way (IsMadeOf (listed item last list)) (IsMadeOf (listed item last others))
      (λ class halts rest these. items_end class halts rest (list, these)) (λ class halts rest these. items_end class halts rest (others, these)) x y bytes
      (then_listed item last x list bytes made) (then_listed item last y others bytes other) in
      let later = items_agree list others same.rest same.one same.two in
      (λ i. same.is i ∷ later i)

  -- Items within their bounds leave no bad token.
  pub no_bad_items : (list : List X) (bytes : List ℕ) → AllByRecursion IsBounded (listed item last list) → IsMadeOf (listed item last list) bytes
      → (kind : BadToken) (left : ℕ) → ¬ BadItems kind left bytes
  no_bad_items [] bytes within made kind left = λ bad. is.bads_apart BadItems kind left bytes made (bad_cases kind left bytes bad)
  no_bad_items (x ∷ list) bytes within made kind left = λ bad.
      let both = all_split (item x) (listed item last list) (subst (AllByRecursion IsBounded) (listed-cons item last x list) within) in
      is.no_bad (IsMadeOf (listed item last list)) BadItems kind left (λ class halts rest these. items_end class halts rest (list, these))
      (bad_items_end kind left) (λ rest these. no_bad_items list rest both.1 these kind left) x both.0 bytes (then_listed item last x list bytes made)
      (bad_cases kind left bytes bad)

  -- ---- read one by one

  -- What a loop over items keeps: a stop in the rest is a stop of all, and what the rest spells comes after the items so far, which are within their bounds.
  pub record SoFar (Lack : Type 0) (bytes : List ℕ) (list : List X) (rest : List ℕ) : Type 0 where
    pub stops : (stop : Stop) → IsStop Items BadItems Lack rest stop → IsStop Items BadItems Lack bytes stop
    pub spells : (later : List X) → IsMadeOf (listed item last later) rest → IsMadeOf (listed item last (list ++ later)) bytes
    pub bounded : (later : List X) → AllByRecursion IsBounded (listed item last later) → AllByRecursion IsBounded (listed item last (list ++ later))

  pub one_more : (Lack : Type 0) (bytes rest after : List ℕ) (list : List X) (x : X) → SoFar Lack bytes list rest → ¬ IsMadeOf last rest
      → ((stop : Stop) → IsStop Items BadItems Lack after stop → IsStop (One Items) (BadOne BadItems) Lack rest stop)
      → ((later : List X) → IsMadeOf (listed item last later) after → ThenParts (item x) (IsMadeOf (listed item last later)) rest)
      → AllByRecursion IsBounded (item x) → SoFar Lack bytes (list ++ x ∷ []) after
  one_more Lack bytes rest after list x so_far other stops spells within = record {
    stops = λ stop at. so_far.stops stop (stop_of_item Lack rest stop other (stops stop at));
    spells = λ later made. subst (λ items. IsMadeOf (listed item last items) bytes) (sym (append_assoc list (x ∷ []) later))
        (so_far.spells (x ∷ later) (listed_then item last x later rest (spells later made)));
    bounded = λ later these. subst (λ items. AllByRecursion IsBounded (listed item last items)) (sym (append_assoc list (x ∷ []) later))
        (so_far.bounded (x ∷ later) (subst (AllByRecursion IsBounded) (sym (listed-cons item last x later)) (all_join (item x) (listed item last later)
        within these)));
  }

  pub stop_so_far : (Lack : Type 0) (bytes rest : List ℕ) (list : List X) (stop : Stop) → SoFar Lack bytes list rest → ¬ IsMadeOf last rest
      → IsStop (One Items) (BadOne BadItems) Lack rest stop → IsStop Items BadItems Lack bytes stop
  stop_so_far Lack bytes rest list stop so_far other at = so_far.stops stop (stop_of_item Lack rest stop other at)

  pub all_read : (Lack : Type 0) (bytes rest : List ℕ) (list : List X) → SoFar Lack bytes list rest → IsMadeOf last rest
      → IsMadeOf (listed item last list) bytes
  all_read Lack bytes rest list so_far end = subst (λ items. IsMadeOf (listed item last items) bytes) (append-nil list) (so_far.spells [] end)

  pub all_bounded : (Lack : Type 0) (bytes rest : List ℕ) (list : List X) → SoFar Lack bytes list rest → AllByRecursion IsBounded last
      → AllByRecursion IsBounded (listed item last list)
  all_bounded Lack bytes rest list so_far within = subst (λ items. AllByRecursion IsBounded (listed item last items)) (append-nil list)
      (so_far.bounded [] within)

-- ---- items of a production

-- An item is spelled by symbols: its contents are the item, and its parts are theirs.
pub record IsSpelledBy {X : Type 0} (item : X → List Part) (symbols : List Symbol) : Type 0 where
  pub contents : X → Contents symbols
  pub allowed : (x : X) → AllowsAll symbols (contents x)
  pub parts : (x : X) → parts_with symbols (contents x) ≡ item x
  pub of : Contents symbols → X
  pub of_contents : (x : X) → of (contents x) ≡ x
  pub of_parts : (these : Contents symbols) → AllowsAll symbols these → parts_with symbols these ≡ item (of these)

module _ {X : Type 0} (item : X → List Part) (symbols : List Symbol) (spelled : IsSpelledBy item symbols) (enders : Enders)
    (is : is_production enders symbols ≡ true) where
  follows_of_item : (After : Contents symbols → Language) (x : X) (bytes : List ℕ) → ThenParts (item x) (After (spelled.contents x)) bytes
      → Follows symbols After bytes
  follows_of_item After x bytes then = follows_of_parts symbols (spelled.contents x) After (spelled.allowed x) bytes
      (subst (λ parts. ThenParts parts (After (spelled.contents x)) bytes) (sym (spelled.parts x)) then)

  item_of_follows : (After : Language) (bytes : List ℕ) → Follows symbols (λ _. After) bytes → (x : X) × ThenParts (item x) After bytes
  item_of_follows After bytes follows =
      let found = parts_of_follows symbols (λ _. After) bytes follows in
      (spelled.of found.contents, subst (λ parts. ThenParts parts After bytes) (spelled.of_parts found.contents found.allowed) found.is)

  bad_of_item : (Bad : Bads) (kind : BadToken) (left : ℕ) (x : X) (bytes : List ℕ) → BadThen (item x) Bad kind left bytes
      → BadFollows symbols Bad kind left bytes
  bad_of_item Bad kind left x bytes bad = bad_follows_of_then symbols (spelled.contents x) (spelled.allowed x) Bad kind left bytes
      (subst (λ parts. BadThen parts Bad kind left bytes) (sym (spelled.parts x)) bad)

  item_of_bad : (Bad : Bads) (kind : BadToken) (left : ℕ) (bytes : List ℕ) → BadFollows symbols Bad kind left bytes → (x : X)
      × BadThen (item x) Bad kind left bytes
  item_of_bad Bad kind left bytes bad =
      let found = then_of_bad_follows enders symbols is Bad kind left bytes bad in
      (spelled.of found.contents, subst (λ parts. BadThen parts Bad kind left bytes) (spelled.of_parts found.contents found.allowed) found.bad)

  one_item : (After Other : Language) → HaltsAt enders After → HaltsAt enders Other → (x y : X) (bytes : List ℕ) → ThenParts (item x) After bytes
      → ThenParts (item y) Other bytes → SameItem X x y After Other
  one_item After Other ends others x y bytes one two =
      let First : Contents symbols → Language = λ these rest. (these ≡ spelled.contents x) × After rest in
      let Second : Contents symbols → Language = λ these rest. (these ≡ spelled.contents y) × Other rest in
      let firsts = follows_of_item First x bytes (then_parts_map After (First (spelled.contents x)) (λ rest these. (refl, these)) (item x) bytes one) in
      let seconds = follows_of_item Second y bytes (then_parts_map Other (Second (spelled.contents y)) (λ rest these. (refl, these)) (item y) bytes two) in
      let found = follows_agree enders symbols is First Second (λ these class halts rest (same, after). ends class halts rest after)
      (λ these class halts rest (same, after). others class halts rest after) bytes firsts seconds in
      record {
        is = sym (spelled.of_contents y) ∙ ap spelled.of (sym found.two.0 ∙ found.one.0) ∙ spelled.of_contents x;
        rest = found.rest;
        one = found.one.1;
        two = found.two.1;
      }

  no_bad_item : (After : Language) (Bad : Bads) (kind : BadToken) (left : ℕ) → HaltsAt enders After → HaltsAt enders (Bad kind left)
      → ((rest : List ℕ) → After rest → ¬ Bad kind left rest) → (x : X) → AllByRecursion IsBounded (item x) → (bytes : List ℕ) → ThenParts (item x) After bytes
      → ¬ BadFollows symbols Bad kind left bytes
  no_bad_item After Bad kind left ends bads none x within bytes then =
      no_bad_within enders symbols is (spelled.contents x) (spelled.allowed x) (subst (AllByRecursion IsBounded) (sym (spelled.parts x)) within) After ends Bad
      kind left bads none bytes (subst (λ parts. ThenParts parts After bytes) (sym (spelled.parts x)) then)

  -- What is to be known of the end beside the item's symbols.
  pub record IsEndOf (last : List Part) : Type 1 where
    pub ends : (class : Class) → enders class ≡ true → halts class false symbols ≡ true
    pub last_ends : HaltsAt enders (IsMadeOf last)
    pub apart : (After : Language) (bytes : List ℕ) → IsMadeOf last bytes → ¬ Follows symbols (λ _. After) bytes
    pub bads_apart : (Bad : Bads) (kind : BadToken) (left : ℕ) (bytes : List ℕ) → IsMadeOf last bytes → ¬ BadFollows symbols Bad kind left bytes
    pub goes_on : (After : Language) (line : List ℕ) → After line → (read : List ℕ) (b : ℕ) (more : List ℕ) → IsMadeOf last (read ++ b ∷ more) → (line : List ℕ)
        × Follows symbols (λ _. After) (read ++ b ∷ line)
    pub last_line : (line : List ℕ) × IsMadeOf last line
    pub last_no_bad : HasNoBad last

  pub production_item : (last : List Part) → IsEndOf last → IsItem item last enders (λ After. Follows symbols (λ _. After)) (BadFollows symbols)
  production_item last end = record {
    join = λ After x bytes then. follows_of_item (λ _. After) x bytes then;
    split = item_of_follows;
    bad_join = bad_of_item;
    bad_split = item_of_bad;
    ends = λ After class halts. follows_halts class false symbols (end.ends class halts) (λ _. After) (λ these impossible. cc);
    bads_end = λ Bad kind left class halts. bad_follows_halts class false symbols (end.ends class halts) Bad kind left (λ impossible. cc);
    last_ends = end.last_ends;
    apart = end.apart;
    bads_apart = end.bads_apart;
    goes_on = end.goes_on;
    last_line = end.last_line;
    last_no_bad = end.last_no_bad;
    one_way = one_item;
    no_bad = no_bad_item;
  }
