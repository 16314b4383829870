use Rattle.std.proofs.Common.{map, ap, subst, ◌∙◌, List, [], ◌∷◌}
use Rattle.store_rules.specs.Ranges.{all_point, bytes_of, laid, may, pointers_from}
use Rattle.store_rules.specs.Views.{high}
use Rattle.store_check.specs.declared.layout.Pointer.{Pointer}
use Rattle.store_check.specs.declared.layout.Range.{Range}
use Rattle.store_check.specs.Layouts.{HasLayoutOf, pointer_like, range_of}
use Rattle.store_check.proofs.LayoutLaws.{laid_and}
use Rattle.store_check.proofs.layout.is_heads.Goals as goal

pub returns-then-is_laid : goal.returns-then-is_laid
returns-then-is_laid g c =
    let seen = high (g.R.Reads.state c.args.space.now).records in
    let r = c.args.rec.now in
    let has : HasLayoutOf seen r (laid [] (bytes_of 0 1 ∷ bytes_of 4 60 ∷ []))
    = subst (λ (used : List Range). HasLayoutOf seen r (laid [] (map range_of used))) (λ i. c.of.ensures i ∷ c.of-2.ensures i ∷ [])
    (c.is_laid.ensures.0 c.if-is_laid.true) in
    laid_and seen r [] (pointers_from 15 (λ place. may place 8) 4) (bytes_of 0 1 ∷ bytes_of 4 60 ∷ []) c.all_from.result has
    (c.all_from.ensures ∙ ap (λ (p : Pointer). all_point seen r (pointers_from 15 (pointer_like p) p.place)) c.may-firsts.ensures)
