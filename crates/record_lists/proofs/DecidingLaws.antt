-- What is said of a damage.
use Rattle.std.proofs.Common.{◌≡◌, ℕ, inl, sym, ap, ◌∙◌, subst}
use Rattle.rec_bytes.specs.declared.damage.Damage.{Damage}
use Rattle.rec_bytes.specs.declared.shape.Shape.{Shape}
use Rattle.store_rules.specs.Views.{Records}
use Rattle.store_rules.specs.Breaking.{Breaks}
use Rattle.record_lists.specs.Deciding.{BreaksRule}

-- the damage that was answered is the one that breaks the rule
pub breaks_by : (records : Records) (shape : Shape) (rule : ℕ) (answer named : Damage) → answer ≡ named → named.rule ≡ rule → Breaks records shape named
    → BreaksRule records shape rule answer
breaks_by records shape rule answer named e r b = record { rule_is = ap (λ (d : Damage). d.rule) e ∙ r; breaks = inl (subst (Breaks records shape) (sym e) b) }
