-- From a place of a grammar to the next: what was taken there, and what is left.
use Rattle.std.proofs.Common.{◌≡◌, ◌⊎◌, inl, inr, ℕ, zero, suc, Bool, true, Option, Some, None, List, [], ◌∷◌, ◌++◌, refl, sym, ap, ◌∙◌, subst, ⊎_elim}
use Rattle.plain_graph.specs.Names.{is_name_byte}
use Rattle.gremlin_parse.specs.Grammar.{Part, Called, IsPart, IsBounded}
use Rattle.gremlin_parse.specs.Faults.{EndsRun, IsOutOfBounds}
use Rattle.gremlin_parse.specs.Reading.{first_byte, Passes}
use Rattle.gremlin_parse.specs.Keywords.{Entry, lookup, TakesWord}
use Rattle.gremlin_parse.specs.Symbols.{Content, part, Allows, Ends, Takes}
use Rattle.gremlin_parse.specs.Turns.{Other, Nothing, Words, Token, Either, Turn, sign_at, ThenSign, ThenOther}
use Rattle.gremlin_parse.specs.Turns.{BadOther, AtTurn, BadTurn, Loosely, Leads, BadLeads, LineFrom, BadFrom}
use Rattle.gremlin_parse.specs.declared.bad_token.BadToken.{BadToken}
use Rattle.gremlin_parse.proofs.Runs.{EndsRun-first_byte}
use Rattle.gremlin_parse.proofs.Tables.{word_passes, is_word, all_in, lookup_in, whole_word_of, ThenWord-after}
use Rattle.gremlin_parse.proofs.Symbols.{NameByte, class_of, ends_symbol, Ends-first_byte, takes_unique, not_bad}
use Rattle.gremlin_parse.proofs.Turns.{Language, after_content, Begins, begins_then, begins_bad, NoSign, StartsApart}
use Rattle.gremlin_parse.proofs.Turns.{IsEnded, Ending, Bare, leads_bare, bad_bare, sign_map, other_map, bad_other_map}
use Rattle.gremlin_parse.proofs.Turns.{sign_choice, other_choice, bad_other_choice, blanks_map, blanks_choice}

-- ---- what was taken at a place

-- A word with its fault before some bytes is within the bounds before others too.
abbrev pub Carries : (Part → Type 0) → (Part → Type 0) → List ℕ → List ℕ → Type 0
Carries Bound Looser rest more = (word : List ℕ) (fault : List ℕ → Option BadToken) → Bound (Called word (fault (word ++ rest)))
    → Looser (Called word (fault (word ++ more)))

module _ {Word Place : Type 0} where
  abbrev pub HowOther : (Part → Type 0) → Other Word Place → List ℕ → Place → List ℕ → Type 0
  HowOther Bound Nothing prefix next rest = ⊥
  HowOther Bound (Words table fault to) prefix next rest =
      (word : Word) × (next ≡ to word) × Bound (Called prefix (fault word (prefix ++ rest))) × (lookup table prefix ≡ Some word) × Passes is_name_byte prefix
      × EndsRun is_name_byte rest
  HowOther Bound (Token symbol to) prefix next rest =
      (content : Content symbol) × (next ≡ to content) × Allows symbol content × Bound (part symbol content) × IsPart (part symbol content) prefix
      × Ends symbol content prefix rest
  HowOther Bound (Either one two) prefix next rest = HowOther Bound one prefix next rest ⊎ HowOther Bound two prefix next rest

  begins_how : (Bound : Part → Type 0) (other : Other Word Place) (prefix : List ℕ) (next : Place) (rest : List ℕ) → HowOther Bound other prefix next rest
      → Begins other (prefix ++ rest)
  begins_how Bound Nothing prefix next rest none = none
  begins_how Bound (Words table fault to) prefix next rest (word, next_is, bound, is, are, ends) =
      record { entry = (prefix, word); within = lookup_in table prefix word is; rest = rest; bytes_are = refl }
  begins_how Bound (Token symbol to) prefix next rest (content, next_is, allows, bound, part_is, ends) =
      inl (content, allows, (prefix, rest, refl, part_is, tt))
  begins_how Bound (Either one two) prefix next rest (inl how) = inl (begins_how Bound one prefix next rest how)
  begins_how Bound (Either one two) prefix next rest (inr how) = inr (begins_how Bound two prefix next rest how)

  -- a sign, or something else, with the place after it
  abbrev pub How : {End : Type 0} → (Part → Type 0) → Turn Word Place End → List ℕ → Place → List ℕ → Type 0
  How Bound this prefix next rest =
      ((b : ℕ) × (sign_at this.signs b ≡ Some next) × (prefix ≡ b ∷ [])) ⊎ HowOther Bound this.other prefix next rest

  pub record Took {End : Type 0} (Bound : Part → Type 0) (this : Turn Word Place End) (bytes : List ℕ) (next : Place) (rest : List ℕ) : Type 0 where
    pub prefix : List ℕ
    pub bytes_are : bytes ≡ prefix ++ rest
    pub how : How Bound this prefix next rest

  how_again : (Bound Looser : Part → Type 0) → ((this : Part) → Bound this → Looser this)
      → (other : Other Word Place) (prefix : List ℕ) (next : Place) (rest more : List ℕ) → Carries Bound Looser rest more → first_byte more ≡ first_byte rest
      → HowOther Bound other prefix next rest → HowOther Looser other prefix next more
  how_again Bound Looser loosen Nothing prefix next rest more carry same none = none
  how_again Bound Looser loosen (Words table fault to) prefix next rest more carry same (word, next_is, bound, is, are, ends) =
      (word, next_is, carry prefix (fault word) bound, is, are, EndsRun-first_byte is_name_byte rest more same ends)
  how_again Bound Looser loosen (Token symbol to) prefix next rest more carry same (content, next_is, allows, bound, part_is, ends) =
      (content, next_is, allows, loosen (part symbol content) bound, part_is, Ends-first_byte symbol content prefix rest more same ends)
  how_again Bound Looser loosen (Either one two) prefix next rest more carry same (inl how) =
      inl (how_again Bound Looser loosen one prefix next rest more carry same how)
  how_again Bound Looser loosen (Either one two) prefix next rest more carry same (inr how) =
      inr (how_again Bound Looser loosen two prefix next rest more carry same how)

  -- the same before other bytes that begin alike
  pub took_again : {End : Type 0} (Bound Looser : Part → Type 0) → ((this : Part) → Bound this → Looser this)
      → (this : Turn Word Place End) (bytes : List ℕ) (next : Place) (rest more : List ℕ) → Carries Bound Looser rest more
      → (took : Took Bound this bytes next rest) → first_byte more ≡ first_byte rest → Took Looser this (took.prefix ++ more) next more
  took_again Bound Looser loosen this bytes next rest more carry took same = record {
    prefix = took.prefix;
    bytes_are = refl;
    how = ⊎_elim (λ (sign : (b : ℕ) × (sign_at this.signs b ≡ Some next) × (took.prefix ≡ b ∷ [])). inl sign)
        (λ (other : HowOther Bound this.other took.prefix next rest). inr (how_again Bound Looser loosen this.other took.prefix next rest more carry same
        other)) took.how;
  }

  join_other : (Bound Looser : Part → Type 0) → ((this : Part) → Bound this → Looser this)
      → (After : Place → Language) (other : Other Word Place) (prefix : List ℕ) (next : Place) (rest more : List ℕ) → Carries Bound Looser rest more
      → HowOther Bound other prefix next rest → After next more → ThenOther Looser other After (prefix ++ more)
  join_other Bound Looser loosen After Nothing prefix next rest more carry none after = none
  join_other Bound Looser loosen After (Words table fault to) prefix next rest more carry (word, next_is, bound, is, are, ends) after =
      ((prefix, word), lookup_in table prefix word is, carry prefix (fault word) bound, (prefix, more, refl, refl, subst (λ p. After p more) next_is after))
  join_other Bound Looser loosen After (Token symbol to) prefix next rest more carry (content, next_is, allows, bound, part_is, ends) after =
      (content, allows, loosen (part symbol content) bound, (prefix, more, refl, part_is, subst (λ p. After p more) next_is after))
  join_other Bound Looser loosen After (Either one two) prefix next rest more carry (inl how) after =
      inl (join_other Bound Looser loosen After one prefix next rest more carry how after)
  join_other Bound Looser loosen After (Either one two) prefix next rest more carry (inr how) after =
      inr (join_other Bound Looser loosen After two prefix next rest more carry how after)

  -- what was taken, and bytes of the next place
  pub took_join : {End : Type 0} (Bound Looser : Part → Type 0) → ((this : Part) → Bound this → Looser this)
      → (After : Place → Language) (this : Turn Word Place End) (bytes : List ℕ) (next : Place) (rest more : List ℕ) → Carries Bound Looser rest more
      → (took : Took Bound this bytes next rest) → After next more → AtTurn Looser this After (took.prefix ++ more)
  took_join Bound Looser loosen After this bytes next rest more carry took after = ⊎_elim
      (λ ((b, is, same) : (b : ℕ) × (sign_at this.signs b ≡ Some next) × (took.prefix ≡ b ∷ [])). inl (b, next, is, (took.prefix, more, refl, same, after)))
      (λ (other : HowOther Bound this.other took.prefix next rest). inr (join_other Bound Looser loosen After this.other took.prefix next rest more carry other
      after))
      took.how

  bad_join_other : (Bound : Part → Type 0) (kind : BadToken) (left : ℕ) (After : Place → Language) (other : Other Word Place) (prefix : List ℕ) (next : Place)
      (rest more : List ℕ) → HowOther Bound other prefix next rest → After next more → BadOther other kind left After (prefix ++ more)
  bad_join_other Bound kind left After Nothing prefix next rest more none after = none
  bad_join_other Bound kind left After (Words table fault to) prefix next rest more (word, next_is, bound, is, are, ends) after =
      inr ((prefix, word), lookup_in table prefix word is, (prefix, more, refl, refl, subst (λ p. After p more) next_is after))
  bad_join_other Bound kind left After (Token symbol to) prefix next rest more (content, next_is, allows, bound, part_is, ends) after =
      inr (content, allows, (prefix, more, refl, part_is, subst (λ p. After p more) next_is after))
  bad_join_other Bound kind left After (Either one two) prefix next rest more (inl how) after =
      inl (bad_join_other Bound kind left After one prefix next rest more how after)
  bad_join_other Bound kind left After (Either one two) prefix next rest more (inr how) after =
      inr (bad_join_other Bound kind left After two prefix next rest more how after)

  pub took_bad_join : {End : Type 0} (Bound : Part → Type 0) (kind : BadToken) (left : ℕ) (After : Place → Language) (this : Turn Word Place End)
      (bytes : List ℕ) (next : Place) (rest more : List ℕ) → (took : Took Bound this bytes next rest) → After next more
      → BadTurn this kind left After (took.prefix ++ more)
  took_bad_join Bound kind left After this bytes next rest more took after = ⊎_elim
      (λ ((b, is, same) : (b : ℕ) × (sign_at this.signs b ≡ Some next) × (took.prefix ≡ b ∷ [])). inl (b, next, is, (took.prefix, more, refl, same, after)))
      (λ (other : HowOther Bound this.other took.prefix next rest). inr (bad_join_other Bound kind left After this.other took.prefix next rest more other
      after))
      took.how

-- ---- one way

module _ {Word Place End : Type 0} (turn : Place → Turn Word Place End) (is_loose : Place → Bool) where
  sign_clash : (signs : List (ℕ × Place)) (bytes : List ℕ) (b : ℕ) (rest : List ℕ) (next : Place) → NoSign signs bytes → bytes ≡ b ∷ rest
      → sign_at signs b ≡ Some next → ⊥
  sign_clash signs bytes b rest next none same is =
      let here : NoSign signs (b ∷ rest) = subst (NoSign signs) same none in
      let clash : None ≡ Some next = sym here ∙ is in cc

  after_other : (Bound Looser : Part → Type 0) (other : Other Word Place) → IsEnded turn is_loose other → (After : Place → Language)
      → Ending turn is_loose After → (prefix : List ℕ) (next : Place) (bytes rest : List ℕ) → bytes ≡ prefix ++ rest → HowOther Bound other prefix next rest
      → ThenOther Looser other After bytes → After next rest
  after_other Bound Looser Nothing ended After ending prefix next bytes rest bytes_are none then = absurd none
  after_other Bound Looser (Words [] fault to) ended After ending prefix next bytes rest bytes_are how then = absurd ended
  after_other Bound Looser (Words (first ∷ table) fault to) ended After ending prefix next bytes rest bytes_are (word, next_is, bound, is, are, ends)
      (entry, within, bounds, then) =
      let takes : TakesWord (first ∷ table) bytes word rest = (prefix, record { bytes_are = bytes_are; passes = are; ends = ends }, is) in
      subst (λ p. After p rest) (sym next_is) (ThenWord-after (first ∷ table) ended.0 (λ w. After (to w)) (λ w. ending NameByte (to w) (ended.1 w))
      bytes rest word takes (entry, within, then))
  after_other Bound Looser (Token symbol to) ended After ending prefix next bytes rest bytes_are (content, next_is, allows, bound, part_is, ends)
      (other, others, bounds, then) =
      let takes : Takes symbol content bytes rest = record { prefix = prefix; bytes_are = bytes_are; is = part_is; ends = ends } in
      subst (λ p. After p rest) (sym next_is) (after_content symbol ended.0 (λ c. After (to c)) (λ c. ending (class_of symbol) (to c) (ended.1 c)) content bytes
      rest takes (other, others, then))
  after_other Bound Looser (Either one two) ended After ending prefix next bytes rest bytes_are (inl how) (inl then) =
      after_other Bound Looser one ended.0 After ending prefix next bytes rest bytes_are how then
  after_other Bound Looser (Either one two) ended After ending prefix next bytes rest bytes_are (inl how) (inr then) =
      absurd (ended.2 bytes (subst (Begins one) (sym bytes_are) (begins_how Bound one prefix next rest how)) (begins_then Looser two After bytes then))
  after_other Bound Looser (Either one two) ended After ending prefix next bytes rest bytes_are (inr how) (inl then) =
      absurd (ended.2 bytes (begins_then Looser one After bytes then) (subst (Begins two) (sym bytes_are) (begins_how Bound two prefix next rest how)))
  after_other Bound Looser (Either one two) ended After ending prefix next bytes rest bytes_are (inr how) (inr then) =
      after_other Bound Looser two ended.1 After ending prefix next bytes rest bytes_are how then

  after_bad_other : (other : Other Word Place) → IsEnded turn is_loose other → (kind : BadToken) (left : ℕ) (After : Place → Language)
      → Ending turn is_loose After → (prefix : List ℕ) (next : Place) (bytes rest : List ℕ) → bytes ≡ prefix ++ rest → HowOther IsBounded other prefix next rest
      → BadOther other kind left After bytes → After next rest
  after_bad_other Nothing ended kind left After ending prefix next bytes rest bytes_are none then = absurd none
  after_bad_other (Words [] fault to) ended kind left After ending prefix next bytes rest bytes_are how then = absurd ended
  after_bad_other (Words (first ∷ table) fault to) ended kind left After ending prefix next bytes rest bytes_are (word, next_is, bound, is, are, ends)
      (inl (other, stands, bad, at)) =
      let takes : TakesWord (first ∷ table) bytes word rest = (prefix, record { bytes_are = bytes_are; passes = are; ends = ends }, is) in
      let same : Some other ≡ Some word = sym stands ∙ whole_word_of (first ∷ table) ended.0 bytes rest word takes in
      let one : other ≡ word = cc in
      let clash : None ≡ Some kind = sym bound ∙ ap (fault word) (sym bytes_are) ∙ ap (λ w. fault w bytes) (sym one) ∙ bad in
      cc
  after_bad_other (Words (first ∷ table) fault to) ended kind left After ending prefix next bytes rest bytes_are (word, next_is, bound, is, are, ends)
      (inr then) =
      let takes : TakesWord (first ∷ table) bytes word rest = (prefix, record { bytes_are = bytes_are; passes = are; ends = ends }, is) in
      subst (λ p. After p rest) (sym next_is) (ThenWord-after (first ∷ table) ended.0 (λ w. After (to w)) (λ w. ending NameByte (to w) (ended.1 w))
      bytes rest word takes then)
  after_bad_other (Token symbol to) ended kind left After ending prefix next bytes rest bytes_are (content, next_is, allows, bound, part_is, ends)
      (inl (other, bad, more, there, at)) =
      let takes : Takes symbol content bytes rest = record { prefix = prefix; bytes_are = bytes_are; is = part_is; ends = ends } in
      let same = takes_unique symbol content other bytes rest more takes there in
      absurd (not_bad kind (part symbol content) bound (subst (λ v. IsOutOfBounds (part symbol v) kind) (sym same.0) bad))
  after_bad_other (Token symbol to) ended kind left After ending prefix next bytes rest bytes_are (content, next_is, allows, bound, part_is, ends) (inr then) =
      let takes : Takes symbol content bytes rest = record { prefix = prefix; bytes_are = bytes_are; is = part_is; ends = ends } in
      subst (λ p. After p rest) (sym next_is) (after_content symbol ended.0 (λ c. After (to c)) (λ c. ending (class_of symbol) (to c) (ended.1 c)) content bytes
      rest takes then)
  after_bad_other (Either one two) ended kind left After ending prefix next bytes rest bytes_are (inl how) (inl bad) =
      after_bad_other one ended.0 kind left After ending prefix next bytes rest bytes_are how bad
  after_bad_other (Either one two) ended kind left After ending prefix next bytes rest bytes_are (inl how) (inr bad) =
      absurd (ended.2 bytes (subst (Begins one) (sym bytes_are) (begins_how IsBounded one prefix next rest how)) (begins_bad two kind left After bytes bad))
  after_bad_other (Either one two) ended kind left After ending prefix next bytes rest bytes_are (inr how) (inl bad) =
      absurd (ended.2 bytes (begins_bad one kind left After bytes bad) (subst (Begins two) (sym bytes_are) (begins_how IsBounded two prefix next rest how)))
  after_bad_other (Either one two) ended kind left After ending prefix next bytes rest bytes_are (inr how) (inr bad) =
      after_bad_other two ended.1 kind left After ending prefix next bytes rest bytes_are how bad

  -- After what was taken, the bytes are of the next place's language.
  pub after_took : (Bound Looser : Part → Type 0) (this : Turn Word Place End) → StartsApart turn is_loose this.signs this.other
      → IsEnded turn is_loose this.other → (After : Place → Language) → Ending turn is_loose After → (bytes : List ℕ) (next : Place) (rest : List ℕ)
      → Took Bound this bytes next rest → AtTurn Looser this After bytes → After next rest
  after_took Bound Looser this apart ended After ending bytes next rest took at = here took.how at
    where
      here : How Bound this took.prefix next rest → AtTurn Looser this After bytes → After next rest
      here (inl (b, is, prefix_is)) (inl (c, other, found, (prefix, more, whole, same, after))) =
          let heads : b ∷ rest ≡ c ∷ more = ap (λ p. p ++ rest) (sym prefix_is) ∙ sym took.bytes_are ∙ whole ∙ ap (λ p. p ++ more) same in
          let one : c ≡ b = cc in
          let left : more ≡ rest = cc in
          let places : Some other ≡ Some next = sym found ∙ ap (sign_at this.signs) one ∙ is in
          let place : other ≡ next = cc in
          subst (λ p. After p rest) place (subst (After other) left after)
      here (inl (b, is, prefix_is)) (inr then) = absurd (sign_clash this.signs bytes b rest next (apart bytes (begins_then Looser this.other After bytes then))
          (took.bytes_are ∙ ap (λ p. p ++ rest) prefix_is) is)
      here (inr how) (inl (c, other, found, (prefix, more, whole, same, after))) =
          absurd (sign_clash this.signs bytes c more other (subst (NoSign this.signs) (sym took.bytes_are) (apart (took.prefix ++ rest)
          (begins_how Bound this.other took.prefix next rest how))) (whole ∙ ap (λ p. p ++ more) same) found)
      here (inr how) (inr then) = after_other Bound Looser this.other ended After ending took.prefix next bytes rest took.bytes_are how then

  pub after_took_bad : (this : Turn Word Place End) → StartsApart turn is_loose this.signs this.other → IsEnded turn is_loose this.other
      → (kind : BadToken) (left : ℕ) (After : Place → Language) → Ending turn is_loose After → (bytes : List ℕ) (next : Place) (rest : List ℕ)
      → Took IsBounded this bytes next rest → BadTurn this kind left After bytes → After next rest
  after_took_bad this apart ended kind left After ending bytes next rest took at = here took.how at
    where
      here : How IsBounded this took.prefix next rest → BadTurn this kind left After bytes → After next rest
      here (inl (b, is, prefix_is)) (inl (c, other, found, (prefix, more, whole, same, after))) =
          let heads : b ∷ rest ≡ c ∷ more = ap (λ p. p ++ rest) (sym prefix_is) ∙ sym took.bytes_are ∙ whole ∙ ap (λ p. p ++ more) same in
          let one : c ≡ b = cc in
          let left_over : more ≡ rest = cc in
          let places : Some other ≡ Some next = sym found ∙ ap (sign_at this.signs) one ∙ is in
          let place : other ≡ next = cc in
          subst (λ p. After p rest) place (subst (After other) left_over after)
      here (inl (b, is, prefix_is)) (inr then) = absurd (sign_clash this.signs bytes b rest next (apart bytes (begins_bad this.other kind left After bytes
          then)) (took.bytes_are ∙ ap (λ p. p ++ rest) prefix_is) is)
      here (inr how) (inl (c, other, found, (prefix, more, whole, same, after))) =
          absurd (sign_clash this.signs bytes c more other (subst (NoSign this.signs) (sym took.bytes_are) (apart (took.prefix ++ rest)
          (begins_how IsBounded this.other took.prefix next rest how))) (whole ∙ ap (λ p. p ++ more) same) found)
      here (inr how) (inr then) = after_bad_other this.other ended kind left After ending took.prefix next bytes rest took.bytes_are how then

  -- what was taken of the bytes of a turn
  pub record Found (Bound : Part → Type 0) (this : Turn Word Place End) (After : Place → Language) (bytes : List ℕ) : Type 0 where
    pub next : Place
    pub rest : List ℕ
    pub took : Took Bound this bytes next rest
    pub after : After next rest

  pub found_of : (Bound : Part → Type 0) (this : Turn Word Place End) → IsEnded turn is_loose this.other → (After : Place → Language)
      → Ending turn is_loose After → (bytes : List ℕ) → AtTurn Bound this After bytes → Found Bound this After bytes
  found_of Bound this ended After ending bytes at = ⊎_elim
      (λ ((b, next, is, (prefix, rest, whole, same, after)) : ThenSign this.signs After bytes).
      let found : Found Bound this After bytes = record {
        next = next;
        rest = rest;
        took = record {
          prefix = prefix;
          bytes_are = whole;
          how = inl (b, is, same);
        };
        after = after;
      } in found)
      (λ (then : ThenOther Bound this.other After bytes). let found = other_of this.other ended then in
      let one : Found Bound this After bytes = record {
        next = found.0;
        rest = found.1;
        took = record {
          prefix = found.2;
          bytes_are = found.3;
          how = inr found.4;
        };
        after = found.5;
      } in one)
      at
    where
      other_of : (other : Other Word Place) → IsEnded turn is_loose other → ThenOther Bound other After bytes → (next : Place) × (rest : List ℕ)
          × (prefix : List ℕ) × (bytes ≡ prefix ++ rest) × HowOther Bound other prefix next rest × After next rest
      other_of Nothing ended none = absurd none
      other_of (Words [] fault to) ended then = absurd ended
      other_of (Words (first ∷ table) fault to) ended (entry, within, bound, (prefix, rest, whole, same, after)) = (
        to entry.1,
        rest,
        prefix,
        whole,
        (
          entry.1,
          refl,
          subst (λ w. Bound (Called w (fault entry.1 (w ++ rest)))) (sym same)
              (subst (λ b. Bound (Called entry.0 (fault entry.1 b))) (whole ∙ ap (λ w. w ++ rest) same) bound),
          ap (lookup (first ∷ table)) same ∙ all_in (λ (e : Entry Word). lookup (first ∷ table) e.0 ≡ Some e.1) (first ∷ table) entry ended.0.named within,
          subst (Passes is_name_byte) (sym same) (word_passes entry.0 (all_in (λ (e : Entry Word). is_word e.0 ≡ true) (first ∷ table) entry ended.0.words
              within)),
          ending NameByte (to entry.1) (ended.1 entry.1) rest after,
        ),
        after,
      )
      other_of (Token symbol to) ended (content, allows, bound, (prefix, rest, whole, part_is, after)) = (
        to content,
        rest,
        prefix,
        whole,
        (
          content,
          refl,
          allows,
          bound,
          part_is,
          ends_symbol symbol ended.0 content allows prefix part_is rest
              (ending (class_of symbol) (to content) (ended.1 content) rest after),
        ),
        after,
      )
      other_of (Either one two) ended (inl then) = let found = other_of one ended.0 then in (found.0, found.1, found.2, found.3, inl found.4, found.5)
      other_of (Either one two) ended (inr then) = let found = other_of two ended.1 then in (found.0, found.1, found.2, found.3, inr found.4, found.5)

-- ---- lines of places

module _ {Word Place End : Type 0} (turn : Place → Turn Word Place End) (is_loose : Place → Bool) where
  abbrev pub Line : Place → Language
  Line place = LineFrom turn is_loose place

  abbrev pub LooseLine : Place → Language
  LooseLine place = Loosely turn is_loose (LineFrom turn is_loose) place

  -- The line ends at the place.
  abbrev pub AtEnd : Place → Language
  AtEnd place bytes = (end : End) × ((turn place).ends ≡ Some end) × (bytes ≡ [])

  abbrev pub Any : Part → Type 0
  Any this = Unit {0}

  pub line_split : (place : Place) (bytes : List ℕ) → Line place bytes → AtEnd place bytes ⊎ AtTurn Any (turn place) LooseLine bytes
  line_split place bytes (zero, end, (ends, none)) = inl (end, ends, none)
  line_split place bytes (suc n, end, at) = inr (⊎_elim
      (λ (sign : ThenSign (turn place).signs (Loosely turn is_loose (λ next rest. Leads turn is_loose Any end n next rest)) bytes). inl
      (sign_map (Loosely turn is_loose (λ next rest. Leads turn is_loose Any end n next rest)) LooseLine (λ next rest. blanks_map (is_loose next)
      (Leads turn is_loose Any end n next) (Line next) (λ these leads. (n, end, leads)) rest) (turn place).signs bytes sign))
      (λ (other : ThenOther Any (turn place).other (Loosely turn is_loose (λ next rest. Leads turn is_loose Any end n next rest)) bytes). inr
      (other_map Any Any (λ this any. tt) (Loosely turn is_loose (λ next rest. Leads turn is_loose Any end n next rest)) LooseLine (λ next rest. blanks_map
      (is_loose next) (Leads turn is_loose Any end n next) (Line next) (λ these leads. (n, end, leads)) rest) (turn place).other bytes other))
      at)

  -- so many tokens and an end
  abbrev Way : Type 0
  Way = (n : ℕ) × End

  abbrev ByWay : Way → Place → Language
  ByWay way next rest = Leads turn is_loose Any way.1 way.0 next rest

  ways : (next : Place) (rest : List ℕ) → LooseLine next rest → (way : Way) × Loosely turn is_loose (ByWay way) next rest
  ways next rest loose = blanks_choice (is_loose next) Way (λ way. ByWay way next) rest
      (blanks_map (is_loose next) (Line next) (λ these. (way : Way) × ByWay way next these) (λ these (n, end, leads). ((n, end), leads)) rest loose)

  pub line_join : (place : Place) (bytes : List ℕ) → AtTurn Any (turn place) LooseLine bytes → Line place bytes
  line_join place bytes at = ⊎_elim
      (λ (sign : ThenSign (turn place).signs LooseLine bytes).
      let (way, found) = sign_choice Way (λ way. Loosely turn is_loose (ByWay way)) (turn place).signs bytes
      (sign_map LooseLine (λ next rest. (way : Way) × Loosely turn is_loose (ByWay way) next rest) ways (turn place).signs bytes sign) in
      let line : Line place bytes = (suc way.0, way.1, inl found) in line)
      (λ (other : ThenOther Any (turn place).other LooseLine bytes).
      let (way, found) = other_choice Any Way (λ way. Loosely turn is_loose (ByWay way)) (turn place).other bytes
      (other_map Any Any (λ this any. tt) LooseLine (λ next rest. (way : Way) × Loosely turn is_loose (ByWay way) next rest) ways (turn place).other bytes
      other) in
      let line : Line place bytes = (suc way.0, way.1, inr found) in line)
      at

  abbrev pub LooseBad : BadToken → ℕ → Place → Language
  LooseBad kind left = Loosely turn is_loose (λ next rest. BadFrom turn is_loose next kind left rest)

  pub bad_split : (place : Place) (kind : BadToken) (left : ℕ) (bytes : List ℕ) → BadFrom turn is_loose place kind left bytes
      → BadTurn (turn place) kind left (LooseBad kind left) bytes
  bad_split place kind left bytes (zero, bad) = absurd bad
  bad_split place kind left bytes (suc n, at) =
      let From : Place → Language = Loosely turn is_loose (λ next rest. BadLeads turn is_loose kind left n next rest) in
      let step : (next : Place) (rest : List ℕ) → From next rest → LooseBad kind left next rest = λ next rest.
      blanks_map (is_loose next) (BadLeads turn is_loose kind left n next) (BadFrom turn is_loose next kind left) (λ these leads. (n, leads)) rest in
      ⊎_elim
      (λ (sign : ThenSign (turn place).signs From bytes). inl (sign_map From (LooseBad kind left) step (turn place).signs bytes sign))
      (λ (other : BadOther (turn place).other kind left From bytes). inr (bad_other_map kind left From (LooseBad kind left) step (turn place).other bytes
      other))
      at

  pub bad_join : (place : Place) (kind : BadToken) (left : ℕ) (bytes : List ℕ) → BadTurn (turn place) kind left (LooseBad kind left) bytes
      → BadFrom turn is_loose place kind left bytes
  bad_join place kind left bytes at =
      let By : ℕ → Place → Language = λ n. Loosely turn is_loose (λ next rest. BadLeads turn is_loose kind left n next rest) in
      let step : (next : Place) (rest : List ℕ) → LooseBad kind left next rest → (n : ℕ)
      × By n next rest = λ next rest. blanks_choice (is_loose next) ℕ (λ n. BadLeads turn is_loose kind left n next) rest in
      ⊎_elim
      (λ (sign : ThenSign (turn place).signs (LooseBad kind left) bytes).
      let (n, found) = sign_choice ℕ By (turn place).signs bytes (sign_map (LooseBad kind left) (λ next rest. (n : ℕ) × By n next rest) step (turn place).signs
      bytes sign) in
      let bad : BadFrom turn is_loose place kind left bytes = (suc n, inl found) in bad)
      (λ (other : BadOther (turn place).other kind left (LooseBad kind left) bytes).
      let (n, found) = bad_other_choice kind left ℕ 0 By (turn place).other bytes
      (bad_other_map kind left (LooseBad kind left) (λ next rest. (n : ℕ) × By n next rest) step (turn place).other bytes other) in
      let bad : BadFrom turn is_loose place kind left bytes = (suc n, inr found) in bad)
      at

  -- The lines of places begin with no byte that the places don't begin with, and so do bad tokens.
  pub line_ending : Bare turn is_loose Line
  line_ending class place is = λ bytes (n, end, leads). leads_bare turn is_loose Any end n class place is bytes leads

  pub bad_ending : (kind : BadToken) (left : ℕ) → Bare turn is_loose (λ next rest. BadFrom turn is_loose next kind left rest)
  bad_ending kind left class place is = λ bytes (n, bad). bad_bare turn is_loose kind left n class place is bytes bad
