use Rattle.std.specs.Prelude.{IfSome, Option}
use Rattle.std.proofs.Common.{◌≡◌, ◌⊎◌, ◌+◌, ◌<◌, ℕ, true, false, None, Some, inl, inr, map, ◌∙◌, subst, arith}
use Rattle.plain_graph.specs.declared.value.Value.{Value}
use Rattle.prop_index.specs.Listing.{pair_of}
use Rattle.rec_bytes.specs.Space.{SameButReads, State}
use Rattle.store_rules.specs.Indexes.{AreIndexed, Entries}
use Rattle.prop_index.proofs.ContentsWanted.{node_mark}
use Rattle.prop_index.proofs.FillSteps.{elsewhere_of}
use Rattle.prop_index.proofs.IndexTouches.{index_then}
use Rattle.prop_index.proofs.LeftValues.{left-unwanted}
use Rattle.change_parts.specs.ChangeFault.{IsFailure}
use Rattle.change_parts.specs.Damage.{IfBlames, IsListOrFound}
use Rattle.node_changes.specs.Entries.{IsEntryFault, IsEntryRefusal, IsEntryUndamaged, LacksHeld, WantsHeld, held_is_listed, old_weight, without_old}
use Rattle.node_changes.specs.declared.entries.IndexedValue.{IndexedValue}
use Rattle.change_parts.proofs.Broken.{blames_more}
use Rattle.node_changes.proofs.EntriesFaults.{entry_refusal, fails_full, undamaged_outside}
use Rattle.change_parts.proofs.Broken.{blames_both}
use Rattle.node_changes.proofs.EntriesNamed.{held_still, named_found}
use Rattle.node_changes.proofs.EntriesHeld.{on_bool, store_live}
use Rattle.change_parts.proofs.Exits.{fault_exit}
use Rattle.node_changes.proofs.entries.change_entry.Goals as goal

-- without the entry of the old value that of the new one isn't wanted
left_lacks : (wanted : Entries) (held : Option IndexedValue) (value : Value) → WantsHeld wanted held → LacksHeld (without_old wanted held) held value
left_lacks wanted None value wants = tt
left_lacks wanted (Some h) value wants = left-unwanted wanted h.label h.key h.node h.value value wants

low_still : (held : Option IndexedValue) (before now : ℕ) → now ≡ before → IfSome held (λ h. h.node < before) → IfSome held (λ h. h.node < now)
low_still None before now same low = tt
low_still (Some h) before now same low = omega (arith, same, low)

pub returns-in_err-entered-clause-at_most : goal.returns-in_err-entered-clause-at_most
returns-in_err-entered-clause-at_most g c = index_then 3 3 6 _ _ _ (omega arith) c.leave_entry.ensures.at_most c.enter_entry.ensures.at_most

pub returns-clause-touches : goal.returns-clause-touches
returns-clause-touches g c = index_then c.in_ok-left.left c.in_ok-entered.entered (c.in_ok-left.left + c.in_ok-entered.entered) _ _ _ (omega arith)
    c.in_ok-left.ensures.touches c.in_ok-entered.ensures.touches

pub returns-clause-at_most : goal.returns-clause-at_most
returns-clause-at_most g c = index_then 3 3 6 _ _ _ (omega arith) c.leave_entry.ensures.at_most c.enter_entry.ensures.at_most

pub returns-clause-changed : goal.returns-clause-changed
returns-clause-changed g c tells wanted ix store wants =
    let left = c.in_ok-left.ensures.left tells wanted ix store in
    let kept = c.in_ok-left.ensures.keeps tells wanted ix store in
    c.in_ok-entered.ensures.entered tells (without_old wanted c.args.held.now) left kept (left_lacks wanted c.args.held.now c.args.new.now wants)

pub returns-clause-keeps : goal.returns-clause-keeps
returns-clause-keeps g c tells wanted ix store low =
    let s = g.S.Reads.state c.args.space.now in
    let m = g.S.Reads.state c.leave_entry.new.space in
    let left = c.in_ok-left.ensures.left tells wanted ix store in
    let kept = c.in_ok-left.ensures.keeps tells wanted ix store in
    let touched = c.in_ok-left.ensures.touches in
    let same = node_mark s.records m.records (elsewhere_of g.S.Reads.tells s m touched.ids tells touched.only) in
    c.in_ok-entered.ensures.keeps tells (without_old wanted c.args.held.now) left kept (low_still c.args.held.now _ _ (omega (arith, same)) low)

pub returns-clause-graph : goal.returns-clause-graph
returns-clause-graph g c tells wanted ix store =
    let left = c.in_ok-left.ensures.left tells wanted ix store in
    let kept = c.in_ok-left.ensures.keeps tells wanted ix store in
    c.in_ok-entered.ensures.graph tells (without_old wanted c.args.held.now) left kept ∙ c.in_ok-left.ensures.graph tells wanted ix store

pub returns-clause-idle : goal.returns-clause-idle
returns-clause-idle g c none = c.enter_entry.ensures.idle none ∙ c.leave_entry.ensures.idle none

pub returns-in_err-entered-clause-idle : goal.returns-in_err-entered-clause-idle
returns-in_err-entered-clause-idle g c none = c.enter_entry.ensures.idle none ∙ c.leave_entry.ensures.idle none

pub returns-in_err-left-clause-full : goal.returns-in_err-left-clause-full
returns-in_err-left-clause-full g c tells =
    let t = g.S.Reads.state c.leave_entry.new.space in
    fault_exit (λ f. f) (IsEntryFault t) c.in_err-left.field-0.0 c.from_residual.result c.from_residual.ensures.1
    (fails_full t c.in_err-left.field-0.0 c.in_err-left.ensures.failure)

pub returns-in_err-entered-clause-full : goal.returns-in_err-entered-clause-full
returns-in_err-entered-clause-full g c tells =
    let t = g.S.Reads.state c.enter_entry.new.space in
    fault_exit (λ f. f) (IsEntryFault t) c.in_err-entered.field-0.0 c.from_residual-in_err-entered.result c.from_residual-in_err-entered.ensures.1
    (c.in_err-entered.ensures.full tells)

pub returns-in_err-left-clause-refused : goal.returns-in_err-left-clause-refused
returns-in_err-left-clause-refused g c tells wanted ix store wants low =
    let s = g.S.Reads.state c.args.space.now in
    let held = c.args.held.now in
    fault_exit (λ f. f) (IsEntryRefusal s held) c.in_err-left.field-0.0 c.from_residual.result c.from_residual.ensures.1
    (inl (c.in_err-left.ensures.not_damaged tells wanted ix store))

pub returns-in_err-entered-clause-refused : goal.returns-in_err-entered-clause-refused
returns-in_err-entered-clause-refused g c tells wanted ix store wants low =
    let s = g.S.Reads.state c.args.space.now in
    let m = g.S.Reads.state c.leave_entry.new.space in
    let held = c.args.held.now in
    let fault = c.in_err-entered.field-0.0 in
    let left = c.in_ok-left.ensures.left tells wanted ix store in
    let kept = c.in_ok-left.ensures.keeps tells wanted ix store in
    let right : IsEntryUndamaged m fault = c.in_err-entered.ensures.not_damaged tells (without_old wanted held) left kept in
    let shape : m.shape ≡ s.shape = g.met.S.Reads.onward_shape _ _ c.leave_entry.ensures.onward in
    let pairs = map (pair_of s.records) ix.definitions in
    let with_index : held_is_listed pairs held ≡ true → IsEntryRefusal s held fault
    = λ is. entry_refusal s m held c.in_err-entered.ensures.some c.in_ok-left.ensures.calm (c.in_ok-left.ensures.gone tells wanted ix store wants is)
    (store_live s store) shape fault right in
    let no_index : held_is_listed pairs held ≡ false → IsEntryRefusal s held fault
    = λ none.
    let same : SameButReads s m = c.in_ok-left.ensures.unlisted tells wanted ix none in
    inl (undamaged_outside m fault right
    (subst (λ (z : State). (iz : AreIndexed z.records wanted) → held_is_listed (map (pair_of z.records) iz.definitions) held ≡ false → IsFailure fault) same
    (c.in_err-entered.ensures.unlisted tells wanted) ix none)) in
    fault_exit (λ f. f) (IsEntryRefusal s held) fault c.from_residual-in_err-entered.result c.from_residual-in_err-entered.ensures.1
    (on_bool (held_is_listed pairs held) with_index no_index)

-- ---- which record is blamed
pub returns-in_err-left-clause-found : goal.returns-in_err-left-clause-found
returns-in_err-left-clause-found g c tells has =
    let s = g.S.Reads.state c.args.space.now in
    let t = g.S.Reads.state c.leave_entry.new.space in
    fault_exit (λ f. f) (IfBlames (IsListOrFound s t)) c.in_err-left.field-0.0 c.from_residual.result c.from_residual.ensures.1
    (blames_more _ _ (λ damage found. inr found) c.in_err-left.field-0.0 (c.in_err-left.ensures.untouched tells))

pub returns-in_err-entered-clause-found : goal.returns-in_err-entered-clause-found
returns-in_err-entered-clause-found g c tells has =
    let s = g.S.Reads.state c.args.space.now in
    let m = g.S.Reads.state c.leave_entry.new.space in
    let t = g.S.Reads.state c.enter_entry.new.space in
    let spared = c.in_ok-left.ensures.spares tells in
    let fault = c.in_err-entered.field-0.0 in
    fault_exit (λ f. f) (IfBlames (IsListOrFound s t)) fault c.from_residual-in_err-entered.result c.from_residual-in_err-entered.ensures.1
    (blames_more _ _ (λ damage k. named_found s m t damage spared k.0 k.1) fault
    (blames_both _ _ fault (c.in_err-entered.ensures.named tells (held_still s m c.args.held.now spared has)) (c.in_err-entered.ensures.untouched tells)))
