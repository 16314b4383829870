use Rattle.std.proofs.Common.{ℕ, List, nat_lt, refl, sym, ap, ◌∙◌, subst, arith}
use Rattle.std.specs.List.{list_all}
use Rattle.std.proofs.lemmas.Result.{err_from_is_err_and}
use Rattle.prop_store.specs.Fault.{BlamesBroken}
use Rattle.prop_store.specs.declared.prop.Prop.{Prop}
use Rattle.prop_store.proofs.ReadCounts.{reads_same}
use Rattle.traversal_run.specs.Naming.{name_count}
use Rattle.traversal_run.proofs.Broken.{owner_unnamed}
use Rattle.traversal_run.proofs.Causes.{cause_passed}
use Rattle.traversal_run.proofs.Owned.{are_read, listed_in}
use Rattle.rec_bytes.proofs.Causes.{never_ok, ok_cause}
use Rattle.traversal_run.proofs.key_values.read_owned.Goals as goal

pub read_all_from-requires-clause-first : goal.read_all_from-requires-clause-first
read_all_from-requires-clause-first g c = λ tells. (c.requires.owns tells).1.first

pub returns-clause-found : goal.returns-clause-found
returns-clause-found g c = λ tells store item owns.
    let s = g.R.Reads.state c.args.space.now in
    let listed = listed_in s s item c.args.owned refl store c.requires.owner owns in
    are_read s.records s.records item c.args.owned.owner listed c.in_ok-props.props.items (c.in_ok-props.ensures.read tells listed.es listed.has.are)

pub returns-clause-read : goal.returns-clause-read
returns-clause-read g c = record {
  same = reads_same 736 (g.R.Reads.state c.args.space.now) (g.R.Reads.state c.read_all_from.new.space) c.in_ok-props.ensures.at_most;
  onward = c.in_ok-props.ensures.onward;
  later = c.in_ok-props.ensures.cause.later;
}

pub returns-in_err-props-clause-read : goal.returns-in_err-props-clause-read
returns-in_err-props-clause-read g c = record {
  same = reads_same 736 (g.R.Reads.state c.args.space.now) (g.R.Reads.state c.read_all_from.new.space) c.in_err-props.ensures.at_most;
  onward = c.in_err-props.ensures.onward;
  later = c.in_err-props.ensures.cause.later;
}

pub returns-in_err-props-clause-damaged : goal.returns-in_err-props-clause-damaged
returns-in_err-props-clause-damaged g c = λ tells.
    let p = err_from_is_err_and c.from_residual.result c.from_residual.ensures.1 in
    rw (p.1, p.2) (c.in_err-props.ensures.damaged tells (c.requires.owns tells).1.used)

pub returns-in_err-props-clause-cause : goal.returns-in_err-props-clause-cause
returns-in_err-props-clause-cause g c =
    cause_passed _ _ _ c.from_residual.result c.in_err-props.field-0.0 (omega arith) c.in_err-props.ensures.cause c.from_residual.ensures.1

-- ---- a key that is no name

pub returns-then-not-have_keys_below-clause-damaged : goal.returns-then-not-have_keys_below-clause-damaged
returns-then-not-have_keys_below-clause-damaged g c = λ tells.
    let s = g.R.Reads.state c.args.space.now in
    let some = ap (λ (list : List Prop). list_all (λ (prop : Prop). nat_lt prop.key (name_count s.records)) list) (sym c.deref.ensures.value)
    ∙ ap (λ (mark : ℕ). list_all (λ (prop : Prop). nat_lt prop.key mark) c.deref.result.now) (sym c.name_mark-mark.ensures)
    ∙ sym c.have_keys_below.ensures ∙ c.if-not-have_keys_below.true in
    subst (BlamesBroken s.records s.shape) (sym c.unnamed.ensures) (owner_unnamed s c.args.owned.owner c.requires.owner (c.requires.owns tells).1.used
    c.in_ok-props.props.items (c.in_ok-props.ensures.met tells) some)

pub returns-then-not-have_keys_below-clause-read : goal.returns-then-not-have_keys_below-clause-read
returns-then-not-have_keys_below-clause-read g c = record {
  same = reads_same 736 (g.R.Reads.state c.args.space.now) (g.R.Reads.state c.read_all_from.new.space) c.in_ok-props.ensures.at_most;
  onward = c.in_ok-props.ensures.onward;
  later = c.in_ok-props.ensures.cause.later;
}

pub returns-in_err-props-clause-found : goal.returns-in_err-props-clause-found
returns-in_err-props-clause-found g c _ _ = never_ok c.from_residual.result _ _ c.from_residual.ensures.1

pub returns-in_err-props-clause-kept : goal.returns-in_err-props-clause-kept
returns-in_err-props-clause-kept g c = never_ok c.from_residual.result _ _ c.from_residual.ensures.1

pub returns-in_err-props-clause-reads : goal.returns-in_err-props-clause-reads
returns-in_err-props-clause-reads g c = never_ok c.from_residual.result _ _ c.from_residual.ensures.1

pub returns-clause-cause : goal.returns-clause-cause
returns-clause-cause g c = ok_cause _ _ _ _ c.in_ok-props.ensures.cause.later
