-- The text that a page took.
use Rattle.std.proofs.Common.{◌≡◌, ◌≢◌, ◌∙◌, List, ℕ, [], ◌++◌, ap, refl, sym}
use Rattle.graph_session.specs.Answer.{Delivers}
use Rattle.graph_session.specs.declared.turn.Turn.{Turn}
use Rattle.graph_session.specs.declared.turn.Turn.TheVariants.{Go, Quit, SinkFault}

-- what was delivered to an empty sink that did not fail is the text
pub delivered : (turn : Turn) (old new text : List ℕ) → turn ≢ SinkFault → old ≡ [] → Delivers turn old new text → text ≡ new
delivered Go old new text goes none is = sym (is ∙ ap (λ (taken : List ℕ). taken ++ text) none)
delivered Quit old new text goes none is = sym (is ∙ ap (λ (taken : List ℕ). taken ++ text) none)
delivered SinkFault old new text goes none is = absurd (goes refl)
