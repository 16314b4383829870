use Rattle.std.proofs.Common.{◌≡◌, ◌⊎◌, ◌+◌, ◌<◌, None, Some, List, length, take, get_or, sym, ap, ◌∙◌, subst, refl, inl, arith, []}
use Rattle.std.proofs.lemmas.List.{get_or_read, take_all}
use Rattle.std.proofs.lemmas.List.Sums.{sum_by_more}
use Rattle.prop_index.proofs.IndexTouches.{index_then}
use Rattle.store_rules.specs.Indexes.{AreIndexed}
use Rattle.change_parts.specs.ChangeFault.{IsOutside}
use Rattle.node_changes.specs.Entries.{held_weight, old_weight, without_held, without_old}
use Rattle.node_changes.specs.declared.entries.IndexedValue.{IndexedValue}
use Rattle.change_parts.proofs.DiskCauses.{change_cause_passed}
use Rattle.node_changes.proofs.EntriesHeld.{without_more}
use Rattle.change_parts.specs.Damage.{IfBlames, IsListOrFound}
use Rattle.change_parts.proofs.Broken.{blames_more}
use Rattle.change_parts.proofs.Broken.{blames_both}
use Rattle.node_changes.proofs.EntriesNamed.{named_found, still_has}
use Rattle.prop_index.proofs.Sparing.{spares_none, spares_then}
use Rattle.change_parts.proofs.Exits.{fault_exit}
use Rattle.rec_bytes.proofs.Causes.{never_ok, ok_cause}
use Rattle.node_changes.proofs.entries.leave_values.Goals as goal

pub loop-value-init : goal.loop-value-init
loop-value-init g c = record {
  left = λ tells wanted ix store. (ix, store, refl);
  within = omega arith;
  few = omega arith;
  spared = λ tells. spares_none _ _ refl;
  weighs = refl;
  touched = record { ids = []; few = omega arith; only = record { writes = record { each = λ q w. inl w }; stays = λ told. record { each = λ q. inl refl } } };
  onward = g.met.S.Reads.stays_onward c.args.space.now;
  later = omega arith;
}

pub loop-value-preserved : goal.loop-value-preserved
loop-value-preserved g c =
    let s = g.S.Reads.state c.args.space.now in
    let m = g.S.Reads.state c.loop-value.space in
    let t = g.S.Reads.state c.leave_held.new.space in
    let inv = c.loop-value.invariant in
    let held = c.args.held.now in
    let i = c.loop-value.value-index in
    let lt = c.loop-value-test.true in
    let none : IndexedValue = record { label = 0; key = 0; node = 0; value = None } in
    let item : c.value-item.result ≡ get_or held i none = get_or_read held i c.value-item.result lt c.value-item.is none in
    record {
      left = λ tells wanted ix store.
          let was = inv.left tells wanted ix store in
          let before = without_held wanted (take i held) in (
            subst (AreIndexed t.records) (ap (λ (h : IndexedValue). without_old before (Some h)) item ∙ sym (without_more wanted held i none lt))
                (c.in_ok-more.ensures.left tells before was.0 was.1),
            c.in_ok-more.ensures.keeps tells before was.0 was.1,
            c.in_ok-more.ensures.graph tells before was.0 was.1 ∙ was.2,
          );
      within = omega (arith, lt);
      few = let a = inv.few in let b = c.in_ok-more.ensures.few in omega arith;
      spared = λ tells. spares_then s m t (inv.spared tells) (c.in_ok-more.ensures.spares tells);
      weighs =
          let before = inv.weighs in
          let here = c.in_ok-more.ensures.weight ∙ ap (λ (h : IndexedValue). old_weight (Some h)) item in
          let more = sum_by_more (λ (h : IndexedValue). old_weight (Some h)) held i none lt in
          omega (arith, before, here, more);
      touched = index_then c.loop-value.weight c.in_ok-more.more (c.loop-value.weight + c.in_ok-more.more) s m t (omega arith) inv.touched
          c.in_ok-more.ensures.touches;
      onward = g.met.S.Reads.further_onward _ _ _ inv.onward c.leave_held.ensures.onward;
      later = let a = inv.later in let b = c.leave_held.ensures.cause.later in omega arith;
    }

pub returns-in_err-more-clause-not_damaged : goal.returns-in_err-more-clause-not_damaged
returns-in_err-more-clause-not_damaged g c tells wanted ix store =
    let was = c.loop-value.invariant.left tells wanted ix store in
    fault_exit (λ f. f) IsOutside c.in_err-more.field-0.0 c.from_residual.result c.from_residual.ensures.1
    (c.in_err-more.ensures.not_damaged tells _ was.0 was.1)

pub returns-in_err-more-clause-found : goal.returns-in_err-more-clause-found
returns-in_err-more-clause-found g c tells has =
    let s = g.S.Reads.state c.args.space.now in
    let m = g.S.Reads.state c.loop-value.space in
    let t = g.S.Reads.state c.leave_held.new.space in
    let spared = c.loop-value.invariant.spared tells in
    let fault = c.in_err-more.field-0.0 in
    let h = still_has s m spared (has (omega (arith, c.loop-value-test.true))) in
    fault_exit (λ f. f) (IfBlames (IsListOrFound s t)) fault c.from_residual.result c.from_residual.ensures.1
    (blames_more _ _ (λ damage k. named_found s m t damage spared k.0 k.1) fault
    (blames_both _ _ fault (c.in_err-more.ensures.named tells h) (c.in_err-more.ensures.untouched tells)))

pub returns-in_err-more-clause-at_most : goal.returns-in_err-more-clause-at_most
returns-in_err-more-clause-at_most g c =
    let inv = c.loop-value.invariant in
    index_then c.loop-value.weight 3 48 _ _ _ (let a = inv.few in let b = c.requires in let d = c.loop-value-test.true in omega arith) inv.touched
    c.leave_held.ensures.at_most

pub returns-in_err-more-clause-onward : goal.returns-in_err-more-clause-onward
returns-in_err-more-clause-onward g c = g.met.S.Reads.further_onward _ _ _ c.loop-value.invariant.onward c.leave_held.ensures.onward

pub returns-in_err-more-clause-cause : goal.returns-in_err-more-clause-cause
returns-in_err-more-clause-cause g c = change_cause_passed _ _ _ c.from_residual.result c.in_err-more.field-0.0 c.loop-value.invariant.later
    c.in_err-more.ensures.cause c.from_residual.ensures.1

pub overflow_add-weight : goal.overflow_add-weight
overflow_add-weight g c =
    let inv = c.loop-value.invariant in
    let a = inv.few in let b = c.requires in let d = c.loop-value-test.true in let e = c.in_ok-more.ensures.few in
    omega arith

pub returns-clause-left : goal.returns-clause-left
returns-clause-left g c tells wanted ix store =
    let t = g.S.Reads.state c.loop-value.space in
    let inv = c.loop-value.invariant in
    let all = take_all c.loop-value.value-index c.args.held.now (omega (arith, c.loop-value-test.false)) in
    subst (λ (held : List IndexedValue). AreIndexed t.records (without_held wanted held)) all (inv.left tells wanted ix store).0

pub returns-clause-keeps : goal.returns-clause-keeps
returns-clause-keeps g c tells wanted ix store = (c.loop-value.invariant.left tells wanted ix store).1

pub returns-clause-graph : goal.returns-clause-graph
returns-clause-graph g c tells wanted ix store = (c.loop-value.invariant.left tells wanted ix store).2

pub returns-clause-weight : goal.returns-clause-weight
returns-clause-weight g c =
    let all = take_all c.loop-value.value-index c.args.held.now (omega (arith, c.loop-value-test.false)) in
    c.loop-value.invariant.weighs ∙ ap held_weight all

pub returns-clause-few : goal.returns-clause-few
returns-clause-few g c =
    let inv = c.loop-value.invariant in
    let a = inv.few in let b = c.requires in let d = inv.within in omega arith

pub returns-clause-touches : goal.returns-clause-touches
returns-clause-touches g c = c.loop-value.invariant.touched

pub returns-clause-at_most : goal.returns-clause-at_most
returns-clause-at_most g c =
    let inv = c.loop-value.invariant in
    record {
      ids = inv.touched.ids;
      few = (let a = inv.few in let b = c.requires in let d = inv.within in let e = inv.touched.few in omega arith);
      only =
          inv.touched.only;
    }

pub returns-clause-onward : goal.returns-clause-onward
returns-clause-onward g c = c.loop-value.invariant.onward

pub returns-in_err-more-clause-left : goal.returns-in_err-more-clause-left
returns-in_err-more-clause-left g c _ _ _ _ = never_ok c.from_residual.result _ _ c.from_residual.ensures.1

pub returns-in_err-more-clause-keeps : goal.returns-in_err-more-clause-keeps
returns-in_err-more-clause-keeps g c _ _ _ _ = never_ok c.from_residual.result _ _ c.from_residual.ensures.1

pub returns-in_err-more-clause-graph : goal.returns-in_err-more-clause-graph
returns-in_err-more-clause-graph g c _ _ _ _ = never_ok c.from_residual.result _ _ c.from_residual.ensures.1

pub returns-in_err-more-clause-weight : goal.returns-in_err-more-clause-weight
returns-in_err-more-clause-weight g c = never_ok c.from_residual.result _ _ c.from_residual.ensures.1

pub returns-in_err-more-clause-few : goal.returns-in_err-more-clause-few
returns-in_err-more-clause-few g c = never_ok c.from_residual.result _ _ c.from_residual.ensures.1

pub returns-in_err-more-clause-touches : goal.returns-in_err-more-clause-touches
returns-in_err-more-clause-touches g c = never_ok c.from_residual.result _ _ c.from_residual.ensures.1

pub returns-clause-cause : goal.returns-clause-cause
returns-clause-cause g c = ok_cause _ _ _ _ c.loop-value.invariant.later
