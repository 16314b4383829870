-- The line's end, and a stop where the line goes on.
use Rattle.std.proofs.Common.{◌≡◌, ◌≢◌, ℕ, true, List, [], ◌∷◌, length, refl, sym, ap, ◌∙◌, subst}
use Rattle.gremlin_parse.specs.Faults.{EndsRun}
use Rattle.gremlin_parse.specs.Reading.{first_byte, StopsBefore}
use Rattle.gremlin_parse.specs.Stopping.{IsStop, StopsWith, IsEnd, NoBad}
use Rattle.gremlin_parse.specs.declared.stop.Stop.{Stop}
use Rattle.gremlin_parse.specs.declared.stop.Stop.TheVariants as stops
use Rattle.gremlin_parse.proofs.Stops.{stops_here}
use Rattle.gremlin_parse.proofs.Symbols.{passes}
use Rattle.gremlin_parse.proofs.Productions.{Closes, Enders, HaltsAt}

-- each class of bytes
abbrev pub every : Enders
every class = true

-- ---- the line's end

pub end_halts : HaltsAt every IsEnd
end_halts = λ class halts bytes end. subst (EndsRun (passes class)) (sym end) tt

abbrev pub AtEnd : List ℕ → ℕ → Type 0
AtEnd rest left = (left ≡ length rest) × (rest ≢ [])

pub stop_at_end : (Lack : Type 0) (rest : List ℕ) (stop : Stop) → StopsWith (AtEnd rest) stop → IsStop IsEnd NoBad Lack rest stop
stop_at_end Lack rest stops.Memory at = absurd at
stop_at_end Lack [] (stops.Syntax left) at = absurd (at.1 refl)
stop_at_end Lack (b ∷ rest) (stops.Syntax left) at = (
  subst (StopsBefore IsEnd (b ∷ rest)) (sym at.0) (stops_here IsEnd (b ∷ rest) [] refl (λ more same end. let clash = ap first_byte (sym end) ∙ same in cc)),
  λ kind place bad. bad,
)
stop_at_end Lack rest (stops.Bad kind left) at = absurd at

-- after the last symbol the line ends
pub line_closes : Closes every IsEnd NoBad
line_closes = record {
  ends = end_halts;
  bads_end = λ kind left class is rest bad. absurd bad;
  within = λ kind place rest bad. absurd bad;
  line = [];
  some = refl;
}
