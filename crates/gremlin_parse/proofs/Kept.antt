-- What each place of a line keeps for the next ones, and for the line's end.
use Rattle.std.proofs.Common.{◌≡◌, inl, inr, ℕ, zero, suc, nat_eq, cond, Bool, true, false, Some, List, [], ◌∷◌, subst, ⊎_elim}
use Rattle.gremlin_parse.specs.Grammar.{Part, IsPart}
use Rattle.gremlin_parse.specs.Symbols.{Content, part}
use Rattle.gremlin_parse.specs.Turns.{Other, Nothing, Words, Token, Either, Turn, ThenSign, ThenOther, WithBlanks, Loosely, Leads, sign_at}
use Rattle.gremlin_parse.proofs.Turns.{Language}

unblank : (Goal : Type 0) (t : Bool) (At : Language) → ((rest : List ℕ) → At rest → Goal) → (bytes : List ℕ) → WithBlanks t At bytes → Goal
unblank Goal true At step bytes (prefix, rest, whole, are, after) = step rest after
unblank Goal false At step bytes after = step bytes after

module _ {Place : Type 0} (Fact : Place → Type 0) where
  -- Each place after a sign has the fact.
  abbrev pub EachSign : List (ℕ × Place) → Type 0
  EachSign [] = Unit {0}
  EachSign (sign ∷ signs) = Fact sign.1 × EachSign signs

  at_sign : (signs : List (ℕ × Place)) (b : ℕ) (next : Place) → EachSign signs → sign_at signs b ≡ Some next → Fact next
  at_sign [] b next each is = cc
  at_sign (sign ∷ signs) b next each is = here (at_sign signs b next each.1) (nat_eq sign.0 b) is
    where
      here : (sign_at signs b ≡ Some next → Fact next) → (t : Bool) → cond t (Some sign.1) (sign_at signs b) ≡ Some next → Fact next
      here later true is = let same : sign.1 ≡ next = cc in subst Fact same each.0
      here later false is = later is

module _ {Word Place : Type 0} (Bound : Part → Type 0) (Fact : Place → Type 0) where
  -- Each place after another part has it, where the part is within its bounds.
  abbrev pub EachOther : Other Word Place → Type 0
  EachOther Nothing = Unit {0}
  EachOther (Words table fault to) = (word : Word) → Fact (to word)
  EachOther (Token symbol to) =
      (content : Content symbol) → Bound (part symbol content) → (bytes : List ℕ) → IsPart (part symbol content) bytes → Fact (to content)
  EachOther (Either one two) = EachOther one × EachOther two

  from_other : (Goal : Type 0) (other : Other Word Place) → EachOther other → (After : Place → Language)
      → ((next : Place) (rest : List ℕ) → Fact next → After next rest → Goal) → (bytes : List ℕ) → ThenOther Bound other After bytes → Goal
  from_other Goal Nothing each After step bytes none = absurd none
  from_other Goal (Words table fault to) each After step bytes (entry, within, bound, (prefix, rest, whole, same, after)) =
      step (to entry.1) rest (each entry.1) after
  from_other Goal (Token symbol to) each After step bytes (content, allows, bound, (prefix, rest, whole, is, after)) =
      step (to content) rest (each content bound prefix is) after
  from_other Goal (Either one two) each After step bytes (inl then) = from_other Goal one each.0 After step bytes then
  from_other Goal (Either one two) each After step bytes (inr then) = from_other Goal two each.1 After step bytes then

module _ {Word Place End : Type 0} (turn : Place → Turn Word Place End) (is_loose : Place → Bool) (Bound : Part → Type 0) (Fact : Place → Type 0)
    (EndFact : End → Type 0) where
  -- What each place gives the next ones, and the last one its end, a line's end has.
  pub leads_keep : ((place : Place) → Fact place → EachSign Fact (turn place).signs × EachOther Bound Fact (turn place).other)
      → ((place : Place) (end : End) → Fact place → (turn place).ends ≡ Some end → EndFact end) → (end : End) (n : ℕ) (place : Place) (bytes : List ℕ)
      → Fact place → Leads turn is_loose Bound end n place bytes → EndFact end
  leads_keep each ends end zero place bytes fact (is, none) = ends place end fact is
  leads_keep each ends end (suc n) place bytes fact at =
      let After : Place → Language = Loosely turn is_loose (λ next rest. Leads turn is_loose Bound end n next rest) in
      let step : (next : Place) (rest : List ℕ) → Fact next → After next rest
      → EndFact end = λ next rest kept after. unblank (EndFact end) (is_loose next) (Leads turn is_loose Bound end n next)
      (λ these leads. leads_keep each ends end n next these kept leads) rest after in
      ⊎_elim
      (λ ((b, next, is, (prefix, rest, whole, same, after)) : ThenSign (turn place).signs After bytes). step next rest (at_sign Fact (turn place).signs b next
      (each place fact).0 is) after)
      (λ (other : ThenOther Bound (turn place).other After bytes). from_other Bound Fact (EndFact end) (turn place).other (each place fact).1 After step bytes
      other)
      at

-- where nothing has to be kept
pub each_sign_any : {Place : Type 0} → (signs : List (ℕ × Place)) → EachSign (λ (place : Place). Unit {0}) signs
each_sign_any [] = tt
each_sign_any (sign ∷ signs) = (tt, each_sign_any signs)

pub each_other_any : {Word Place : Type 0} → (Bound : Part → Type 0) (other : Other Word Place) → EachOther Bound (λ (place : Place). Unit {0}) other
each_other_any Bound Nothing = tt
each_other_any Bound (Words table fault to) = λ word. tt
each_other_any Bound (Token symbol to) = λ content bound bytes is. tt
each_other_any Bound (Either one two) = (each_other_any Bound one, each_other_any Bound two)
