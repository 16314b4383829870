use Rattle.std.proofs.Common.{◌≡◌, ◌≤◌, ◌++◌, length, length-append, get_or, sym, ap, ◌∙◌, subst, arith}
use Rattle.std.proofs.lemmas.List.{take_all}
use Rattle.plain_graph.specs.declared.command.Target.TheVariants as targets
use Rattle.prop_index.specs.declared.listing.IndexPair.{IndexPair}
use Rattle.prop_store.proofs.ReadCounts.{reads_same, same_then}
use Rattle.prop_store.specs.Owner.{IsInUse}
use Rattle.rec_bytes.specs.Format.{node_label, nodes_file}
use Rattle.rec_bytes.specs.Record.{field}
use Rattle.rec_bytes.specs.Space.{State}
use Rattle.store_rules.specs.Indexes.{wanted_in}
use Rattle.store_rules.specs.Rows.{option_list}
use Rattle.store_rules.specs.Rules.{IsWellFormed}
use Rattle.store_rules.specs.Views.{rec_at}
use Rattle.change_parts.specs.ChangeFault.{IsOutside}
use Rattle.change_parts.specs.Damage.{BlamesBroken}
use Rattle.node_changes.specs.Entries.{held_at, held_of}
use Rattle.change_parts.specs.Owners.{owner_of}
use Rattle.change_parts.proofs.DiskCauses.{change_cause_passed}
use Rattle.node_changes.proofs.EntriesHeld.{held_more, option_few}
use Rattle.change_parts.proofs.Exits.{fault_exit}
use Rattle.rec_bytes.proofs.Causes.{never_ok, ok_cause}
use Rattle.node_changes.proofs.entries.held_values.Goals as goal

pub loop-pair-init : goal.loop-pair-init
loop-pair-init g c =
    let s = g.R.Reads.state c.args.space.now in
    let b = g.R.Reads.state c.listed_pairs.new.space in
    let items : c.deref-pair-items.result.now ≡ c.in_ok-listed.listed.items = c.deref-pair-items.ensures.value in
    let few : length c.in_ok-listed.listed.items ≤ 16 = c.in_ok-listed.ensures.few in
    record {
      held = λ tells used is. c.new-held.ensures.items;
      listed = λ tells store. items ∙ c.in_ok-listed.ensures.listed tells (wanted_in s.records) store.indexes store.store;
      pairs = omega (arith, few, ap length items);
      within = omega arith;
      few = let none = ap length c.new-held.ensures.items in omega (arith, none);
      walked = λ tells more. c.in_ok-listed.ensures.walked tells (let len = ap length items in omega (arith, more, len));
      same = reads_same 17 s b c.listed_pairs.ensures.reads;
      onward = c.listed_pairs.ensures.onward;
      later = c.listed_pairs.ensures.cause.later;
    }

pub loop-pair-preserved : goal.loop-pair-preserved
loop-pair-preserved g c =
    let s = g.R.Reads.state c.args.space.now in
    let m = g.R.Reads.state c.loop-pair.space in
    let t = g.R.Reads.state c.held_value.new.space in
    let inv = c.loop-pair.invariant in
    let listed = c.deref-pair-items.result.now in
    let i = c.loop-pair.pair-index in
    let lt = c.loop-pair-test.true in
    let label = c.args.label in
    let node = c.args.node in
    let none : IndexPair = record { label = 0; key = 0 } in
    record {
      held = λ tells used is.
          let before = inv.held tells used is in
          let in_use = subst (λ (z : State). IsInUse z.records (owner_of (targets.Node node))) (sym inv.same) used in
          let labelled = subst (λ (z : State). label ≡ field 4 (rec_at z.records nodes_file node) node_label) (sym inv.same) is in
          let here : c.in_ok-value.value ≡ held_at s.records label node (get_or listed i none) = c.in_ok-value.ensures.held tells in_use labelled
          ∙ ap (λ (z : State). held_at z.records label node (get_or listed i none)) inv.same in
          c.in_ok-hold.ensures.held ∙ (λ k. before k ++ option_list (here k)) ∙ sym (held_more s.records label node listed i none lt);
      walked = inv.walked;
      listed = inv.listed;
      pairs = inv.pairs;
      within = omega (arith, lt);
      few =
          let long = ap length c.in_ok-hold.ensures.held in
          let parts = length-append c.loop-pair.held.items (option_list c.in_ok-value.value) in
          let one = option_few c.in_ok-value.value in
          let before = inv.few in
          omega (arith, long, parts, one, before);
      same = same_then s m t inv.same c.held_value.ensures.same;
      onward = g.met.R.Reads.further_onward _ _ _ inv.onward c.held_value.ensures.onward;
      later = let a = inv.later in let b = c.held_value.ensures.cause.later in omega arith;
    }

pub returns-in_err-listed-clause-not_damaged : goal.returns-in_err-listed-clause-not_damaged
returns-in_err-listed-clause-not_damaged g c tells store used =
    let s = g.R.Reads.state c.args.space.now in
    fault_exit (λ f. f) IsOutside c.in_err-listed.field-0.0 c.from_residual.result c.from_residual.ensures.1
    (c.in_err-listed.ensures.not_damaged tells (wanted_in s.records) store.indexes store.store)

pub returns-in_err-listed-clause-damaged : goal.returns-in_err-listed-clause-damaged
returns-in_err-listed-clause-damaged g c tells used =
    let s = g.R.Reads.state c.args.space.now in
    fault_exit (λ f. f) (BlamesBroken s) c.in_err-listed.field-0.0 c.from_residual.result c.from_residual.ensures.1 (c.in_err-listed.ensures.damaged tells)

pub returns-in_err-listed-clause-same : goal.returns-in_err-listed-clause-same
returns-in_err-listed-clause-same g c = reads_same 17 _ _ c.listed_pairs.ensures.reads

pub returns-in_err-value-clause-not_damaged : goal.returns-in_err-value-clause-not_damaged
returns-in_err-value-clause-not_damaged g c tells store used =
    let inv = c.loop-pair.invariant in
    let in_use = subst (λ (z : State). IsInUse z.records (owner_of (targets.Node c.args.node))) (sym inv.same) used in
    let rules = subst (λ (z : State). IsWellFormed z.records z.shape) (sym inv.same) store.store in
    fault_exit (λ f. f) IsOutside c.in_err-value.field-0.0 c.from_residual-in_err-value.result c.from_residual-in_err-value.ensures.1
    (c.in_err-value.ensures.not_damaged tells rules in_use)

pub returns-in_err-value-clause-damaged : goal.returns-in_err-value-clause-damaged
returns-in_err-value-clause-damaged g c tells used =
    let s = g.R.Reads.state c.args.space.now in
    let inv = c.loop-pair.invariant in
    let in_use = subst (λ (z : State). IsInUse z.records (owner_of (targets.Node c.args.node))) (sym inv.same) used in
    let fault = c.in_err-value.field-0.0 in
    fault_exit (λ f. f) (BlamesBroken s) fault c.from_residual-in_err-value.result c.from_residual-in_err-value.ensures.1
    (subst (λ (z : State). BlamesBroken z fault) inv.same (c.in_err-value.ensures.damaged tells in_use))

pub returns-in_err-value-clause-same : goal.returns-in_err-value-clause-same
returns-in_err-value-clause-same g c = same_then (g.R.Reads.state c.args.space.now) (g.R.Reads.state c.loop-pair.space) (g.R.Reads.state c.held_value.new.space)
    c.loop-pair.invariant.same c.held_value.ensures.same

pub returns-in_err-value-clause-onward : goal.returns-in_err-value-clause-onward
returns-in_err-value-clause-onward g c = g.met.R.Reads.further_onward _ _ _ c.loop-pair.invariant.onward c.held_value.ensures.onward

pub returns-in_err-value-clause-cause : goal.returns-in_err-value-clause-cause
returns-in_err-value-clause-cause g c = change_cause_passed _ _ _ c.from_residual-in_err-value.result c.in_err-value.field-0.0 c.loop-pair.invariant.later
    c.in_err-value.ensures.cause c.from_residual-in_err-value.ensures.1

pub returns-in_err-hold-clause-same : goal.returns-in_err-hold-clause-same
returns-in_err-hold-clause-same g c = same_then (g.R.Reads.state c.args.space.now) (g.R.Reads.state c.loop-pair.space) (g.R.Reads.state c.held_value.new.space)
    c.loop-pair.invariant.same c.held_value.ensures.same

pub returns-in_err-hold-clause-onward : goal.returns-in_err-hold-clause-onward
returns-in_err-hold-clause-onward g c = g.met.R.Reads.further_onward _ _ _ c.loop-pair.invariant.onward c.held_value.ensures.onward

pub returns-clause-held : goal.returns-clause-held
returns-clause-held g c tells store used is =
    let s = g.R.Reads.state c.args.space.now in
    let inv = c.loop-pair.invariant in
    let all = take_all c.loop-pair.pair-index c.deref-pair-items.result.now (omega (arith, c.loop-pair-test.false)) in
    inv.held tells used is ∙ ap (held_of s.records c.args.label c.args.node) (all ∙ inv.listed tells store)

pub returns-clause-few : goal.returns-clause-few
returns-clause-few g c =
    let inv = c.loop-pair.invariant in
    let a = inv.few in let b = inv.pairs in let d = inv.within in omega arith

pub returns-clause-same : goal.returns-clause-same
returns-clause-same g c = c.loop-pair.invariant.same

pub returns-clause-onward : goal.returns-clause-onward
returns-clause-onward g c = c.loop-pair.invariant.onward

pub returns-in_err-listed-clause-held : goal.returns-in_err-listed-clause-held
returns-in_err-listed-clause-held g c _ _ _ _ = never_ok c.from_residual.result _ _ c.from_residual.ensures.1

pub returns-in_err-listed-clause-few : goal.returns-in_err-listed-clause-few
returns-in_err-listed-clause-few g c = never_ok c.from_residual.result _ _ c.from_residual.ensures.1

pub returns-in_err-value-clause-held : goal.returns-in_err-value-clause-held
returns-in_err-value-clause-held g c _ _ _ _ = never_ok c.from_residual-in_err-value.result _ _ c.from_residual-in_err-value.ensures.1

pub returns-in_err-value-clause-few : goal.returns-in_err-value-clause-few
returns-in_err-value-clause-few g c = never_ok c.from_residual-in_err-value.result _ _ c.from_residual-in_err-value.ensures.1

pub returns-in_err-hold-clause-held : goal.returns-in_err-hold-clause-held
returns-in_err-hold-clause-held g c _ _ _ _ = never_ok c.from_residual-in_err-hold.result _ _ c.from_residual-in_err-hold.ensures.1

pub returns-in_err-hold-clause-few : goal.returns-in_err-hold-clause-few
returns-in_err-hold-clause-few g c = never_ok c.from_residual-in_err-hold.result _ _ c.from_residual-in_err-hold.ensures.1

pub returns-clause-cause : goal.returns-clause-cause
returns-clause-cause g c = ok_cause _ _ _ _ c.loop-pair.invariant.later

-- ---- the definitions
pub returns-clause-walked : goal.returns-clause-walked
returns-clause-walked g c tells more =
    let inv = c.loop-pair.invariant in
    let few = inv.few in
    let within = inv.within in
    inv.walked tells (omega (arith, more, few, within))
