use Rattle.std.specs.List.{position}
use Rattle.std.proofs.Common.{nat_eq, length, ◌∙◌, ap, sym}
use Rattle.change_parts.specs.declared.assigning.Assignment.{Assignment}
use Rattle.change_parts.proofs.Places.{has_room, no_room, place_known, place_left, place_new}
use Rattle.change_parts.proofs.assigning.assign.Goals as goal

pub returns-in-Some : goal.returns-in-Some
returns-in-Some c =
    place_known c.args.key c.args.pair c.args.assigned.now.items c.deref_mut.result.now c.in-Some.at c.deref_mut.ensures.value c.deref_mut.ensures.fits
    (ap (position (λ (a : Assignment). nat_eq a.key c.args.key)) (sym c.deref.ensures.0) ∙ sym c.place_of.ensures ∙ c.in-Some.is)

pub returns-then-not-is_full : goal.returns-then-not-is_full
returns-then-not-is_full c =
    c.push.ensures.items ∙ place_new c.args.key c.args.pair c.args.assigned.now.items
    (has_room (length c.args.assigned.now.items) c.is_full.ensures.fits (sym c.is_full.ensures.value ∙ c.if-not-is_full.true))
    (ap (position (λ (a : Assignment). nat_eq a.key c.args.key)) (sym c.deref.ensures.0) ∙ sym c.place_of.ensures ∙ c.in-None.is)

pub returns-else-not-is_full : goal.returns-else-not-is_full
returns-else-not-is_full c =
    place_left c.args.key c.args.pair c.args.assigned.now.items (no_room (length c.args.assigned.now.items) (sym c.is_full.ensures.value
    ∙ c.if-not-is_full.false))
    (ap (position (λ (a : Assignment). nat_eq a.key c.args.key)) (sym c.deref.ensures.0) ∙ sym c.place_of.ensures ∙ c.in-None.is)
