-- Names that a load finds wrong.
use Rattle.std.proofs.Common.{◌≡◌, Some, None, sym, ◌∙◌, arith, refl}
use Rattle.rec_bytes.specs.declared.damage.Damage.{Damage}
use Rattle.rec_bytes.specs.declared.shape.Shape.{Shape}
use Rattle.rec_bytes.specs.Format as format
use Rattle.store_rules.specs.Ranges as ranges
use Rattle.store_rules.specs.Views.{Records, high}
use Rattle.name_store.specs.Loading.{IsNameDamage}
use Rattle.name_store.specs.Loading.IsNameDamage.{HighMark, SameText, WrongForm, WrongText}
use Rattle.store_rules.specs.Breaking.{NameKeeps, damage}
use Rattle.store_rules.specs.Breaking.Breaks.{WrongName}
use Rattle.record_lists.specs.Deciding.{BreaksRule}
use Rattle.record_lists.proofs.DecidingLaws.{breaks_by}

pub name_breaks : (records : Records) (shape : Shape) (d : Damage) → ranges.AreInRange records shape → IsNameDamage records d → BreaksRule records shape 6 d
name_breaks records shape d keeps (HighMark past) = let meta = keeps.metas format.names_file refl in let low = meta.high in absurd (omega arith)
name_breaks records shape d keeps (WrongForm x lt bad) =
    let f = keeps.fit format.names_file x refl lt in
    absurd (none_some f.layout (sym bad ∙ f.is))
  where
    none_some : (l : ranges.Layout) → None ≡ Some l → ⊥
    none_some l e = absurd cc
name_breaks records shape d keeps (WrongText x lt form bad) = breaks_by records shape 6 _ (damage format.names_file x 6) refl refl
    (WrongName x lt (λ (k : NameKeeps records x). bad k.form))
name_breaks records shape d keeps (SameText x earlier lt form below same) =
    breaks_by records shape 6 _ (damage format.names_file x 6) refl refl
    (WrongName x lt (λ (k : NameKeeps records x). let e = k.alone earlier (omega arith) same in absurd (omega arith)))
