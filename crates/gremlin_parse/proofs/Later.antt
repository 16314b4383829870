-- Where neither of two things stands, reading stops at the later place of the two.
use Rattle.std.proofs.Common.{◌≡◌, ◌≤◌, ◌<◌, inl, inr, ℕ, min, sym, subst, ⊎_elim, arith}
use Rattle.std.proofs.lemmas.Bool.{cases_lt}
use Rattle.gremlin_parse.specs.Comparisons.{later}
use Rattle.gremlin_parse.specs.Queries.{turn, is_loose}
use Rattle.gremlin_parse.specs.declared.bad_token.BadToken.{BadToken}
use Rattle.gremlin_parse.specs.declared.stop.Stop.{Stop}
use Rattle.gremlin_parse.specs.declared.stop.Stop.TheVariants as stops
use Rattle.gremlin_parse.proofs.QueryPlaces.{are, some}
use Rattle.gremlin_parse.proofs.Walks.{LeavesEither}

-- Neither lacks memory, and the first is no bad token.
pub leaves_either : (One Two : Stop → Type 0) → ¬ One stops.Memory → ¬ Two stops.Memory → ((kind : BadToken) (left : ℕ) → ¬ One (stops.Bad kind left))
    → (one two : Stop) → One one → Two two → LeavesEither turn is_loose are some One Two (later one two)
leaves_either One Two kept held faultless stops.Memory two first second = absurd (kept first)
leaves_either One Two kept held faultless (stops.Bad kind left) two first second = absurd (faultless kind left first)
leaves_either One Two kept held faultless (stops.Syntax left) stops.Memory first second = absurd (held second)
leaves_either One Two kept held faultless (stops.Syntax left) (stops.Bad kind other) first second = inr second
leaves_either One Two kept held faultless (stops.Syntax left) (stops.Syntax other) first second = ⊎_elim
    (λ (lt : left < other).
    let least : min left other ≡ left = omega arith in
    let le : left ≤ other = omega arith in
    let found : At left = (other, le, inl (first, second)) in
    subst At (sym least) found)
    (λ (ge : other ≤ left).
    let least : min left other ≡ other = omega arith in
    let found : At other = (left, ge, inr (first, second)) in
    subst At (sym least) found)
    (cases_lt left other)
  where
    At : ℕ → Type 0
    At n = LeavesEither turn is_loose are some One Two (stops.Syntax n)
