use Rattle.std.proofs.Common.{◌≡◌, length, nat_eq, reverse, ap, sym, ◌∙◌, subst, arith}
use Rattle.std.specs.List.{dedup, list_any}
use Rattle.std.proofs.lemmas.List.{reverse-reverse}
use Rattle.std.proofs.lemmas.List.Filters.{dedup_is}
use Rattle.std.proofs.lemmas.List.Sorted.{length_permutation}
use Rattle.traversal_run.specs.AskedIds.{Ascends}
use Rattle.traversal_run.proofs.Asked.{ascends-dedup, asked-dedup, dedup-few}
use Rattle.rec_bytes.proofs.Causes.{never_ok}
use Rattle.traversal_run.proofs.asked_ids.AskedIds.new.Goals as goal

pub invariant_of-result : goal.invariant_of-result
invariant_of-result c =
    let sorted = c.sort.new.self.items in
    let kept : reverse c.reverse.new.self.items ≡ dedup nat_eq sorted = ap reverse c.reverse.ensures.items ∙ reverse-reverse c.dedup.new.self.items
    ∙ dedup_is nat_eq sorted c.dedup.new.self.items c.dedup.ensures.filtered in
    subst Ascends (sym kept) (ascends-dedup sorted c.in_ok-sort.ensures.sorted)

pub returns-clause-asked : goal.returns-clause-asked
returns-clause-asked c = λ id.
    let sorted = c.sort.new.self.items in
    let kept : reverse c.reverse.new.self.items ≡ dedup nat_eq sorted = ap reverse c.reverse.ensures.items ∙ reverse-reverse c.dedup.new.self.items
    ∙ dedup_is nat_eq sorted c.dedup.new.self.items c.dedup.ensures.filtered in
    ap (list_any (nat_eq id)) kept ∙ asked-dedup c.in_ok-ids.ids.items sorted c.in_ok-sort.ensures.permutation id
    ∙ ap (list_any (nat_eq id)) c.in_ok-ids.ensures.items

pub returns-in_err-ids-clause-asked : goal.returns-in_err-ids-clause-asked
returns-in_err-ids-clause-asked c = never_ok c.from_residual.result _ _ c.from_residual.ensures.1

pub returns-in_err-sort-clause-asked : goal.returns-in_err-sort-clause-asked
returns-in_err-sort-clause-asked c = never_ok c.from_residual-in_err-sort.result _ _ c.from_residual-in_err-sort.ensures.1

pub returns-in_err-ids-clause-few : goal.returns-in_err-ids-clause-few
returns-in_err-ids-clause-few c = never_ok c.from_residual.result _ _ c.from_residual.ensures.1

pub returns-in_err-sort-clause-few : goal.returns-in_err-sort-clause-few
returns-in_err-sort-clause-few c = never_ok c.from_residual-in_err-sort.result _ _ c.from_residual-in_err-sort.ensures.1

pub returns-clause-few : goal.returns-clause-few
returns-clause-few c =
    let sorted = c.sort.new.self.items in
    let kept : reverse c.reverse.new.self.items ≡ dedup nat_eq sorted = ap reverse c.reverse.ensures.items ∙ reverse-reverse c.dedup.new.self.items
    ∙ dedup_is nat_eq sorted c.dedup.new.self.items c.dedup.ensures.filtered in
    let fewer = dedup-few sorted in
    let same = length_permutation c.in_ok-ids.ids.items sorted c.in_ok-sort.ensures.permutation in
    let given = ap length c.in_ok-ids.ensures.items in
    let long = ap length kept in
    omega (arith, fewer, same, given, long)
