use Rattle.std.specs.Prelude.{IfSome, Option}
use Rattle.std.proofs.Common.{map, ap, refl, sym, ◌∙◌, subst, arith}
use Rattle.store_rules.specs.IndexBreaking.{HasDefinitions}
use Rattle.prop_index.proofs.Sparing.{spares_none}
use Rattle.node_changes.specs.declared.entries.IndexedValue.{IndexedValue}
use Rattle.prop_index.specs.Listing.{pair_of}
use Rattle.node_changes.specs.Entries.{WantsHeld, held_is_listed, old_weight}
use Rattle.node_changes.proofs.entries.leave_entry.Goals as goal

pub returns-in-Some-clause-gone : goal.returns-in-Some-clause-gone
returns-in-Some-clause-gone g c tells wanted ix store wants listed some =
    let s = g.S.Reads.state c.args.space.now in
    let weight = ap old_weight c.in-Some.is in
    c.leave_held.ensures.gone tells wanted ix store (subst (WantsHeld wanted) c.in-Some.is wants)
    (sym (ap (held_is_listed (map (pair_of s.records) ix.definitions)) c.in-Some.is) ∙ listed) (omega (arith, weight, some))

pub returns-in-None-clause-gone : goal.returns-in-None-clause-gone
returns-in-None-clause-gone g c tells wanted ix store wants listed some = let none = ap old_weight c.in-None.is in absurd (omega (arith, none, some))

pub returns-in-Some-clause-unlisted : goal.returns-in-Some-clause-unlisted
returns-in-Some-clause-unlisted g c tells wanted ix none =
    let s = g.S.Reads.state c.args.space.now in
    c.leave_held.ensures.unlisted tells wanted ix (sym (ap (held_is_listed (map (pair_of s.records) ix.definitions)) c.in-Some.is) ∙ none)

pub returns-in-Some-clause-calm : goal.returns-in-Some-clause-calm
returns-in-Some-clause-calm g c none = let weight = ap old_weight c.in-Some.is in c.leave_held.ensures.calm (omega (arith, weight, none))

pub returns-in-Some-clause-named : goal.returns-in-Some-clause-named
returns-in-Some-clause-named g c tells has =
    let s = g.S.Reads.state c.args.space.now in
    c.leave_held.ensures.named tells (subst (λ (o : Option IndexedValue). IfSome o (λ _. HasDefinitions s.records)) c.in-Some.is has)

pub returns-in-None-clause-spares : goal.returns-in-None-clause-spares
returns-in-None-clause-spares g c tells = spares_none _ _ refl
