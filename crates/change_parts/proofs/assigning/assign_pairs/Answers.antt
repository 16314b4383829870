use Rattle.std.specs.Prelude.{Contains}
use Rattle.std.proofs.Common.{◌≡◌, ◌≢◌, ◌∙◌, ◌<◌, ◌≤◌, nat_eq, Bool, true, false, not, [], length, sym, ap, subst, arith, refl}
use Rattle.std.proofs.lemmas.List.{get_or_read}
use Rattle.plain_graph.specs.Names.{IsShortName}
use Rattle.plain_graph.specs.Refusals.{most_names}
use Rattle.plain_graph.specs.declared.pairs.Pair.{Pair}
use Rattle.plain_graph.specs.declared.value.Value.TheVariants as values
use Rattle.change_parts.specs.Assigning.{IsAssignCount, IsAssignFault, pair_at}
use Rattle.change_parts.specs.ChangeFault.{of_intern}
use Rattle.change_parts.proofs.Assigned.{IsSoFar, all_assigned, all_used, assign_refused, few_after, few_named, few_then}
use Rattle.change_parts.proofs.Assigned.{items_most, none_so_far, one_more, pair_form, too_many}
use Rattle.change_parts.proofs.Counted.{count_full}
use Rattle.change_parts.proofs.Exits.{fault_exit}
use Rattle.change_parts.proofs.Interned.{keeps_interned, keeps_same, keeps_then, metas_same, metas_then, name_written, one_written}
use Rattle.change_parts.proofs.LineNames.{name_long, uses_long, uses_prefix}
use Rattle.change_parts.proofs.NewNames.{placed_grows}
use Rattle.change_parts.proofs.Places.{has_room, no_room}
use Rattle.store_rules.proofs.WriteLaws.{more_written, none_written, then_written}
use Rattle.change_parts.proofs.Adding.{key_beside, names_then}
use Rattle.change_parts.proofs.DiskCauses.{intern_cause_passed}
use Rattle.rec_bytes.proofs.Causes.{never_ok, ok_cause}
use Rattle.change_parts.proofs.assigning.assign_pairs.Goals as goal
use Rattle.change_parts.proofs.assigning.assign_pairs.Goals.{After-as_bytes, After-len}
use Rattle.change_parts.proofs.assigning.assign_pairs.Given.{Over}

pub loop-place-init : goal.loop-place-init
loop-place-init g c =
    let s = g.S.Reads.state c.args.space.now in
    record {
      so_far = subst (IsSoFar c.args.names.now.names c.args.names.now.names c.args.pairs.now 0) (sym c.new-assigned.ensures)
          (none_so_far c.args.names.now.names c.args.pairs.now c.requires.names);
      stays = λ tells q other no_meta. refl;
      kept = λ tells few store. keeps_same s c.args.names.now.names store;
      metas = λ tells. metas_same s;
      shape = λ tells. refl;
      writes = λ few. more_written (omega arith) (none_written s s refl);
      few_writes = more_written (omega arith) (none_written s s refl);
      onward_is = g.met.S.Reads.stays_onward c.args.space.now;
      later = omega arith;
    }

-- the text that gets a number is the key of the pair at the place
key_is : (g : Over) (c : After-as_bytes g) → c.as_bytes.result.now ≡ (pair_at c.args.pairs.now c.loop-place.place).key
key_is g c = c.as_bytes.ensures ∙ ap (λ (p : Pair). p.key) (get_or_read c.args.pairs.now c.loop-place.place c.index-pairs-place.result c.loop-place-test.true
    c.index-pairs-place.is (record { key = []; value = values.Text [] }))

short : (g : Over) (c : After-as_bytes g) → IsShortName c.as_bytes.result.now
short g c = subst IsShortName (sym (key_is g c)) (pair_form c.args.pairs.now c.loop-place.place (record { key = []; value = values.Text [] }) c.requires.pairs
    c.loop-place-test.true).0

pub number_key-requires : goal.number_key-requires
number_key-requires g c = short g c

pub returns-in_err-key-clause-refused : goal.returns-in_err-key-clause-refused
returns-in_err-key-clause-refused g c =
    fault_exit of_intern (IsAssignFault c.args.names.now.names c.args.pairs.now) c.in_err-key.field-0.0 c.from_residual.result c.from_residual.ensures.1
    (assign_refused c.args.names.now.names c.loop-place.names.names c.args.pairs.now c.loop-place.place c.loop-place.assigned.items c.as_bytes.result.now
    (key_is g (goal.at.returns-in_err-key-clause-refused g c).After-as_bytes)
    c.loop-place.invariant.so_far c.loop-place-test.true c.in_err-key.field-0.0 c.in_err-key.ensures.full_only)

pub returns-in_err-key-clause-counts : goal.returns-in_err-key-clause-counts
returns-in_err-key-clause-counts g c = fault_exit of_intern IsAssignCount c.in_err-key.field-0.0 c.from_residual.result c.from_residual.ensures.1
    (count_full c.loop-place.names.names c.as_bytes.result.now c.in_err-key.field-0.0 c.in_err-key.ensures.full_only)

-- the keys are few where there is room for one more
few_true : (g : Over) (c : After-as_bytes g) → length c.loop-place.assigned.items ≤ 32 → not c.is_full-are_few.result ≡ true
few_true g c few = by c.is_full-are_few.result c.is_full-are_few.ensures.value
  where
    by : (b : Bool) → b ≡ nat_eq (length c.loop-place.assigned.items) 33 → not b ≡ true
    by true e = absurd (let all = no_room (length c.loop-place.assigned.items) (sym e) in omega arith)
    by false e = refl

few_false : (g : Over) (c : After-as_bytes g) → 32 < length c.loop-place.assigned.items → not c.is_full-are_few.result ≡ false
few_false g c many = by c.is_full-are_few.result c.is_full-are_few.ensures.value
  where
    by : (b : Bool) → b ≡ nat_eq (length c.loop-place.assigned.items) 33 → not b ≡ false
    by true e = refl
    by false e = absurd (let less = has_room (length c.loop-place.assigned.items) c.is_full-are_few.ensures.fits (sym e) in omega arith)

pub loop-place-preserved : goal.loop-place-preserved
loop-place-preserved g c =
    let inv = c.loop-place.invariant in
    let at = (goal.at.loop-place-preserved g c).After-as_bytes in
    let old = c.args.names.now.names in
    let names = c.loop-place.names.names in
    let new = c.number_key.new.names.names in
    let text = c.as_bytes.result.now in
    let items = c.loop-place.assigned.items in
    let assigned = c.assign.new.assigned.items in
    let s = g.S.Reads.state c.args.space.now in
    let t = g.S.Reads.state c.loop-place.space in
    let u = g.S.Reads.state c.number_key.new.space in
    let uses = c.in_ok-key.ensures.names in
    let room : ¬ Contains names text → length names ≢ most_names = λ lacks all. absurd (let e = c.in_ok-key.ensures.full all lacks in cc) in
    let now = one_more old names new c.args.pairs.now c.loop-place.place c.in_ok-key.key items assigned text (key_is g at) inv.so_far c.loop-place-test.true
    (short g at) uses c.in_ok-key.ensures.number room c.assign.ensures in
    let most = items_most old names c.args.pairs.now c.loop-place.place items inv.so_far in
    let grows = placed_grows c.in_ok-key.key c.loop-place.place items assigned most c.assign.ensures in
    let longer = name_long names text new uses in
    let longest = uses_long old _ names inv.so_far.uses in
    let written = name_written t u names new text uses c.number_key.ensures.known c.number_key.ensures.writes in
    record {
      so_far = now;
      stays = λ tells. names_then s t u (inv.stays tells) (key_beside (not c.is_full-are_few.result) t u names text (λ few. c.in_ok-key.ensures.ok tells few)
          c.number_key.ensures.held);
      kept = λ tells few store.
          let before : length items ≤ 32 = omega arith in
          let kept = inv.kept tells before store in
          keeps_then s t u names new kept (keeps_interned t u names new text (c.in_ok-key.ensures.ok tells (few_true g at before)) uses (short g at)
          room kept.store);
      metas = λ tells. metas_then (inv.metas tells) (c.in_ok-key.ensures.metas tells);
      shape = λ tells. (g.met.S.Reads.onward_shape _ _ c.number_key.ensures.onward) ∙ inv.shape tells;
      writes = λ few.
          let before : length items ≤ 32 = omega arith in
          more_written (omega arith) (then_written (inv.writes before) written);
      few_writes = few_then s t u old names new c.args.pairs.now c.loop-place.place c.in_ok-key.key items assigned text inv.so_far uses
          c.in_ok-key.ensures.number c.assign.ensures inv.few_writes written (λ many. c.number_key.ensures.held (few_false g at many));
      onward_is = g.met.S.Reads.further_onward c.args.space.now c.loop-place.space c.number_key.new.space inv.onward_is c.number_key.ensures.onward;
      later = let a = inv.later in let b = c.number_key.ensures.cause.later in omega arith;
    }

-- all pairs are assigned at the end
whole : (g : Over) (c : After-len g) → IsSoFar c.args.names.now.names c.loop-place.names.names c.args.pairs.now (length c.args.pairs.now)
    c.loop-place.assigned.items
whole g c =
    let ends : c.loop-place.place ≡ length c.args.pairs.now = omega arith in
    subst (λ n. IsSoFar c.args.names.now.names c.loop-place.names.names c.args.pairs.now n c.loop-place.assigned.items) ends c.loop-place.invariant.so_far

pub returns-then-len-clause-refused : goal.returns-then-len-clause-refused
returns-then-len-clause-refused g c =
    let all = whole g (goal.at.returns-then-len-clause-refused g c).After-len in
    let old = c.args.names.now.names in
    let names = c.loop-place.names.names in (
      names,
      all_used old names c.args.pairs.now c.loop-place.assigned.items all,
      all.held.few,
      too_many old names c.args.pairs.now c.loop-place.assigned.items
          all (let e = c.len.ensures.value in omega arith),
    )

pub returns-clause-assigned : goal.returns-clause-assigned
returns-clause-assigned g c =
    all_assigned c.args.names.now.names c.loop-place.names.names c.args.pairs.now c.loop-place.assigned.items
    (whole g (goal.at.returns-clause-assigned g c).After-len) (let e = c.len.ensures.value in omega arith)

pub returns-clause-uses : goal.returns-clause-uses
returns-clause-uses g c = all_used c.args.names.now.names c.loop-place.names.names c.args.pairs.now c.loop-place.assigned.items
    (whole g (goal.at.returns-clause-uses g c).After-len)

pub returns-in_err-key-clause-prefix : goal.returns-in_err-key-clause-prefix
returns-in_err-key-clause-prefix g c =
    let begins = uses_prefix c.args.names.now.names _ c.loop-place.names.names c.loop-place.invariant.so_far.uses in
    (begins.0, c.in_err-key.ensures.err ∙ begins.1)

pub returns-then-len-clause-prefix : goal.returns-then-len-clause-prefix
returns-then-len-clause-prefix g c = uses_prefix c.args.names.now.names _ c.loop-place.names.names c.loop-place.invariant.so_far.uses

pub returns-clause-prefix : goal.returns-clause-prefix
returns-clause-prefix g c = uses_prefix c.args.names.now.names _ c.loop-place.names.names c.loop-place.invariant.so_far.uses

pub returns-clause-few_names : goal.returns-clause-few_names
returns-clause-few_names g c =
    few_named c.args.names.now.names c.loop-place.names.names c.args.pairs.now c.loop-place.assigned.items
    (whole g (goal.at.returns-clause-few_names g c).After-len) (let e = c.len.ensures.value in omega arith)

pub returns-in_err-key-clause-few_writes : goal.returns-in_err-key-clause-few_writes
returns-in_err-key-clause-few_writes g c =
    let inv = c.loop-place.invariant in
    let at = (goal.at.returns-in_err-key-clause-few_writes g c).After-as_bytes in
    few_after (g.S.Reads.state c.args.space.now) (g.S.Reads.state c.loop-place.space) (g.S.Reads.state c.number_key.new.space) c.loop-place.assigned.items
    (items_most c.args.names.now.names c.loop-place.names.names c.args.pairs.now c.loop-place.place c.loop-place.assigned.items inv.so_far) inv.few_writes
    (one_written _ _ _ c.number_key.ensures.writes) (λ many. c.number_key.ensures.held (few_false g at many))

pub returns-clause-stays : goal.returns-clause-stays
returns-clause-stays g c tells = c.loop-place.invariant.stays tells

pub returns-in_err-key-clause-cause : goal.returns-in_err-key-clause-cause
returns-in_err-key-clause-cause g c =
    intern_cause_passed _ _ _ c.from_residual.result c.in_err-key.field-0.0 c.loop-place.invariant.later c.in_err-key.ensures.cause c.from_residual.ensures.1

pub returns-in_err-key-clause-uses : goal.returns-in_err-key-clause-uses
returns-in_err-key-clause-uses g c = never_ok c.from_residual.result _ _ c.from_residual.ensures.1

pub returns-in_err-key-clause-assigned : goal.returns-in_err-key-clause-assigned
returns-in_err-key-clause-assigned g c = never_ok c.from_residual.result _ _ c.from_residual.ensures.1

pub returns-in_err-key-clause-few : goal.returns-in_err-key-clause-few
returns-in_err-key-clause-few g c = never_ok c.from_residual.result _ _ c.from_residual.ensures.1

pub returns-in_err-key-clause-held : goal.returns-in_err-key-clause-held
returns-in_err-key-clause-held g c = never_ok c.from_residual.result _ _ c.from_residual.ensures.1

pub returns-in_err-key-clause-kept : goal.returns-in_err-key-clause-kept
returns-in_err-key-clause-kept g c _ = never_ok c.from_residual.result _ _ c.from_residual.ensures.1

pub returns-in_err-key-clause-few_names : goal.returns-in_err-key-clause-few_names
returns-in_err-key-clause-few_names g c = never_ok c.from_residual.result _ _ c.from_residual.ensures.1

pub returns-in_err-key-clause-metas : goal.returns-in_err-key-clause-metas
returns-in_err-key-clause-metas g c _ = never_ok c.from_residual.result _ _ c.from_residual.ensures.1

pub returns-in_err-key-clause-stays : goal.returns-in_err-key-clause-stays
returns-in_err-key-clause-stays g c _ = never_ok c.from_residual.result _ _ c.from_residual.ensures.1

pub returns-in_err-key-clause-writes : goal.returns-in_err-key-clause-writes
returns-in_err-key-clause-writes g c = never_ok c.from_residual.result _ _ c.from_residual.ensures.1

pub returns-clause-cause : goal.returns-clause-cause
returns-clause-cause g c = ok_cause _ _ _ _ c.loop-place.invariant.later
