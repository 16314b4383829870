use Rattle.std.specs.Prelude.{IfSome, Option}
use Rattle.std.proofs.Common.{◌<◌, map, ap, sym, ◌∙◌, subst}
use Rattle.prop_index.specs.Listing.{pair_of}
use Rattle.prop_index.proofs.LinkRules.{free_list, store_takes}
use Rattle.rec_bytes.specs.Format.{nodes_file}
use Rattle.store_rules.specs.Indexes.{AreIndexed}
use Rattle.store_rules.specs.Views.{high}
use Rattle.change_parts.specs.ChangeFault.{IsFailure, of_take}
use Rattle.change_parts.specs.Damage.{BlamesEntry, BlamesUntouched, IfBlames}
use Rattle.prop_index.specs.Naming.{IsDefinitionOrList}
use Rattle.store_rules.specs.IndexBreaking.{HasDefinitions}
use Rattle.node_changes.proofs.EntriesNamed.{take_named}
use Rattle.node_changes.specs.Entries.{IsEntryFault, IsEntryUndamaged, LacksHeld, held_is_listed, with_new}
use Rattle.node_changes.specs.declared.entries.IndexedValue.{IndexedValue}
use Rattle.node_changes.proofs.EntriesFaults.{take_blames, take_fails, take_full, take_undamaged, take_untouched}
use Rattle.node_changes.proofs.EntriesHeld.{no_definition}
use Rattle.change_parts.proofs.Exits.{fault_exit}
use Rattle.node_changes.proofs.entries.enter_entry.Goals as goal

pub returns-clause-entered : goal.returns-clause-entered
returns-clause-entered g c tells wanted ix store lacks =
    let s = g.S.Reads.state c.args.space.now in
    let t = g.S.Reads.state c.enter.new.space in
    subst (λ (h : Option IndexedValue). AreIndexed t.records (with_new wanted h c.args.new.now)) (sym c.in-Some.is)
    (c.in_ok-enter.ensures.entered tells wanted (free_list s store).0 ix (store_takes s store)
    (subst (λ (h : Option IndexedValue). LacksHeld wanted h c.args.new.now) c.in-Some.is lacks))

pub returns-clause-keeps : goal.returns-clause-keeps
returns-clause-keeps g c tells wanted ix store low =
    let s = g.S.Reads.state c.args.space.now in
    c.in_ok-enter.ensures.keeps tells wanted ix store (subst (λ (o : Option IndexedValue). IfSome o (λ h. h.node < high s.records nodes_file)) c.in-Some.is low)

pub returns-clause-graph : goal.returns-clause-graph
returns-clause-graph g c tells wanted ix store =
    let s = g.S.Reads.state c.args.space.now in
    c.in_ok-enter.ensures.graph tells wanted (free_list s store).0 ix (store_takes s store)

pub returns-in_err-enter-clause-blames : goal.returns-in_err-enter-clause-blames
returns-in_err-enter-clause-blames g c tells =
    let t = g.S.Reads.state c.enter.new.space in
    fault_exit of_take (BlamesEntry t) c.in_err-enter.field-0.0 c.from_residual.result c.from_residual.ensures.1
    (take_blames t c.in_err-enter.field-0.0 (c.in_err-enter.ensures.damaged_after tells) (c.in_err-enter.ensures.names tells))

pub returns-in_err-enter-clause-untouched : goal.returns-in_err-enter-clause-untouched
returns-in_err-enter-clause-untouched g c tells =
    let s = g.S.Reads.state c.args.space.now in
    let t = g.S.Reads.state c.enter.new.space in
    fault_exit of_take (BlamesUntouched s t) c.in_err-enter.field-0.0 c.from_residual.result c.from_residual.ensures.1
    (take_untouched s t c.in_err-enter.field-0.0 c.in_err-enter.ensures.unwritten)

pub returns-in_err-enter-clause-not_damaged : goal.returns-in_err-enter-clause-not_damaged
returns-in_err-enter-clause-not_damaged g c tells wanted ix store =
    let s = g.S.Reads.state c.args.space.now in
    fault_exit of_take (IsEntryUndamaged s) c.in_err-enter.field-0.0 c.from_residual.result c.from_residual.ensures.1
    (take_undamaged Unit s c.in_err-enter.field-0.0 (c.in_err-enter.ensures.not_damaged tells wanted (free_list s store).0 ix (store_takes s store))
    (c.in_err-enter.ensures.full tells))

pub returns-in_err-enter-clause-full : goal.returns-in_err-enter-clause-full
returns-in_err-enter-clause-full g c tells =
    let t = g.S.Reads.state c.enter.new.space in
    fault_exit of_take (IsEntryFault t) c.in_err-enter.field-0.0 c.from_residual.result c.from_residual.ensures.1
    (take_full t c.in_err-enter.field-0.0 (c.in_err-enter.ensures.crowded tells))

pub returns-in_err-enter-clause-unlisted : goal.returns-in_err-enter-clause-unlisted
returns-in_err-enter-clause-unlisted g c tells wanted ix none =
    let s = g.S.Reads.state c.args.space.now in
    let held = c.in-Some.held in
    fault_exit of_take IsFailure c.in_err-enter.field-0.0 c.from_residual.result c.from_residual.ensures.1
    (take_fails c.in_err-enter.field-0.0 (c.in_err-enter.ensures.unlisted tells wanted ix
    (no_definition s.records ix.definitions held.label held.key (sym (ap (held_is_listed (map (pair_of s.records) ix.definitions)) c.in-Some.is) ∙ none))))

pub returns-in_err-enter-clause-named : goal.returns-in_err-enter-clause-named
returns-in_err-enter-clause-named g c tells has =
    let s = g.S.Reads.state c.args.space.now in
    let h = subst (λ (o : Option IndexedValue). IfSome o (λ _. HasDefinitions s.records)) c.in-Some.is has in
    fault_exit of_take (IfBlames (IsDefinitionOrList s)) c.in_err-enter.field-0.0 c.from_residual.result c.from_residual.ensures.1
    (take_named s c.in_err-enter.field-0.0 (c.in_err-enter.ensures.listed tells h.members h.list))
