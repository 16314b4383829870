-- Grammars by places: what may stand at a place, and the place after it.
use Rattle.std.specs.Prelude.{◌≡◌, ◌⊎◌, ℕ, zero, suc, nat_eq, Bool, true, false, cond}
use Rattle.std.specs.Prelude.{Option, Some, None, List, [], ◌∷◌, length}
use Rattle.gremlin_parse.specs.Grammar.{Part, Blanks, Exactly, Called, IsBounded}
use Rattle.gremlin_parse.specs.Reading.{Then}
use Rattle.gremlin_parse.specs.Keywords.{Entry, InTable, whole_word, LeavesTable, ThenWord}
use Rattle.gremlin_parse.specs.Symbols.{Symbol, Content, part, Allows, IsBad}
use Rattle.gremlin_parse.specs.Stopping.{Bads, IsStop}
use Rattle.gremlin_parse.specs.declared.bad_token.BadToken.{BadToken}
use Rattle.gremlin_parse.specs.declared.stop.Stop.{Stop}
use Rattle.gremlin_parse.specs.declared.stop.Stop.TheVariants as stops

-- What may stand at a place beside signs: nothing, one of several words, each with the fault that
-- it has before the bytes from it on, if any, a part of a symbol, or one thing or another.
pub data Other (Word Place : Type 0) : Type 0 where
  Nothing : Other Word Place
  Words :
      (table : List (Entry Word)) → (fault : Word → List ℕ → Option BadToken)
      → (to : Word → Place) → Other Word Place
  Token : (symbol : Symbol) → (to : Content symbol → Place) → Other Word Place
  Either : (one two : Other Word Place) → Other Word Place

-- What may stand at a place: the line's end, with what the line is then, one of several signs of
-- one byte, or something else; each with the place after it.
pub record Turn (Word Place End : Type 0) : Type 0 where
  pub ends : Option End
  pub signs : List (ℕ × Place)
  pub other : Other Word Place

module _ {Place : Type 0} where
  -- the place after a sign
  abbrev pub sign_at : List (ℕ × Place) → ℕ → Option Place
  sign_at [] b = None
  sign_at (sign ∷ signs) b = cond (nat_eq sign.0 b) (Some sign.1) (sign_at signs b)

  -- one of the signs, and after it bytes of its place
  abbrev pub ThenSign : List (ℕ × Place) → (Place → List ℕ → Type 0) → List ℕ → Type 0
  ThenSign signs After bytes =
      (b : ℕ) × (next : Place) × (sign_at signs b ≡ Some next)
      × Then (Exactly (b ∷ [])) (After next) bytes

module _ {Word : Type 0} where
  -- A word with such a fault stands whole at the head, `left` bytes from the end.
  abbrev pub IsBadWord :
      List (Entry Word) → (Word → List ℕ → Option BadToken) → BadToken → ℕ → List ℕ → Type 0
  IsBadWord table fault kind left bytes =
      (word : Word) × (whole_word table bytes ≡ Some word) × (fault word bytes ≡ Some kind)
      × (left ≡ length bytes)

  -- No word goes on so, or one with a fault stands there.
  abbrev pub LeavesWords :
      List (Entry Word) → (Word → List ℕ → Option BadToken) → List ℕ → Stop → Type 0
  LeavesWords table fault bytes stops.Memory = ⊥
  LeavesWords table fault bytes (stops.Syntax left) =
      LeavesTable table bytes left
      × ((kind : BadToken) (place : ℕ) → ¬ IsBadWord table fault kind place bytes)
  LeavesWords table fault bytes (stops.Bad kind left) = IsBadWord table fault kind left bytes

module _ {Word Place : Type 0} where
  -- one of the other parts, and after it bytes of its place
  abbrev pub ThenOther :
      (Part → Type 0) → Other Word Place → (Place → List ℕ → Type 0) → List ℕ → Type 0
  ThenOther Bound Nothing After bytes = ⊥
  ThenOther Bound (Words table fault to) After bytes =
      (entry : Entry Word) × InTable entry table × Bound (Called entry.0 (fault entry.1 bytes))
      × Then (Called entry.0 (fault entry.1 bytes)) (After (to entry.1)) bytes
  ThenOther Bound (Token symbol to) After bytes =
      (content : Content symbol) × Allows symbol content × Bound (part symbol content)
      × Then (part symbol content) (After (to content)) bytes
  ThenOther Bound (Either one two) After bytes =
      ThenOther Bound one After bytes ⊎ ThenOther Bound two After bytes

  -- a bad token there, or after it
  abbrev pub BadOther :
      Other Word Place → BadToken → ℕ → (Place → List ℕ → Type 0) → List ℕ → Type 0
  BadOther Nothing kind left After bytes = ⊥
  BadOther (Words table fault to) kind left After bytes =
      IsBadWord table fault kind left bytes ⊎ ThenWord table (λ word. After (to word)) bytes
  BadOther (Token symbol to) kind left After bytes =
      IsBad symbol kind left bytes
      ⊎ ((content : Content symbol) × Allows symbol content
      × Then (part symbol content) (After (to content)) bytes)
  BadOther (Either one two) kind left After bytes =
      BadOther one kind left After bytes ⊎ BadOther two kind left After bytes

module _ {Word Place End : Type 0} where
  abbrev pub AtTurn :
      (Part → Type 0) → Turn Word Place End → (Place → List ℕ → Type 0) → List ℕ → Type 0
  AtTurn Bound this After bytes =
      ThenSign this.signs After bytes ⊎ ThenOther Bound this.other After bytes

  abbrev pub BadTurn :
      Turn Word Place End → BadToken → ℕ → (Place → List ℕ → Type 0) → List ℕ → Type 0
  BadTurn this kind left After bytes =
      ThenSign this.signs After bytes ⊎ BadOther this.other kind left After bytes

-- any blanks before the bytes, or none
abbrev pub WithBlanks : Bool → (List ℕ → Type 0) → List ℕ → Type 0
WithBlanks true At bytes = Then Blanks At bytes
WithBlanks false At bytes = At bytes

module _ {Word Place End : Type 0} (turn : Place → Turn Word Place End) (loose : Place → Bool) where
  -- any blanks first, but where a name stands between quotes
  abbrev pub Loosely : (Place → List ℕ → Type 0) → Place → List ℕ → Type 0
  Loosely At place bytes = WithBlanks (loose place) (At place) bytes

  -- So many tokens lead from the place to the end of the line, which is then this.
  abbrev pub Leads : (Part → Type 0) → End → ℕ → Place → List ℕ → Type 0
  Leads Bound end zero place bytes = ((turn place).ends ≡ Some end) × (bytes ≡ [])
  Leads Bound end (suc n) place bytes =
      AtTurn Bound (turn place) (Loosely (λ next rest. Leads Bound end n next rest)) bytes

  -- Among so many tokens from the place on is a bad one.
  abbrev pub BadLeads : BadToken → ℕ → ℕ → Place → List ℕ → Type 0
  BadLeads kind left zero place bytes = ⊥
  BadLeads kind left (suc n) place bytes =
      BadTurn (turn place) kind left (Loosely (λ next rest. BadLeads kind left n next rest)) bytes

  -- what may stand from the place to the line's end
  abbrev pub LineFrom : Place → List ℕ → Type 0
  LineFrom place bytes = (n : ℕ) × (end : End) × Leads (λ _. Unit {0}) end n place bytes

  -- what stands there within its bounds, and is this at its end
  abbrev pub KeptFrom : End → Place → List ℕ → Type 0
  KeptFrom end place bytes = (n : ℕ) × Leads IsBounded end n place bytes

  abbrev pub BadFrom : Place → Bads
  BadFrom place kind left bytes = (n : ℕ) × BadLeads kind left n place bytes

  abbrev pub BadLoosely : Place → Bads
  BadLoosely place kind left bytes = Loosely (λ next rest. BadFrom next kind left rest) place bytes

  -- What was read leads from the place to the next one: a stop in the rest is a stop in the bytes,
  -- and what the rest spells within its bounds is what the bytes spell.
  pub record Reaches (place : Place) (bytes : List ℕ) (next : Place) (rest : List ℕ) : Type 0 where
    pub stops :
        (stop : Stop) → IsStop (LineFrom next) (BadFrom next) (Unit {0}) rest stop
        → IsStop (LineFrom place) (BadFrom place) (Unit {0}) bytes stop
    pub kept : (end : End) → KeptFrom end next rest → KeptFrom end place bytes
