use Rattle.std.proofs.Common.{rules, arith, ◌≡◌, ◌<◌, ◌∙◌, ℕ, Bool, true, false, ap, sym, subst, ⊎_elim}
use Rattle.std.specs.Bool.{Decides}
use Rattle.std.proofs.lemmas.Bool.{cases_Bool, true≢false}
use Rattle.rec_bytes.specs.Format as format
use Rattle.rec_bytes.specs.declared.meta.Meta.{Meta}
use Rattle.prop_store.proofs.Causes.{cause_passed, later_on}
use Rattle.record_lists.specs.Seen.{is_seen}
use Rattle.record_lists.proofs.HeadLaws.{one_more}
use Rattle.store_rules.specs.Views.{Records, high}
use Rattle.index_check.specs.Nodes.{HasValue, IsMissing}
use Rattle.index_check.specs.Values.{AreReadable}
use Rattle.index_check.specs.declared.definitions.Definition.{Definition}
use Rattle.index_check.proofs.SoundExits.{sound_exit}
use Rattle.index_check.proofs.ValueLaws.{value_low}
use Rattle.rec_bytes.proofs.Causes.{never_ok, ok_cause}
use Rattle.record_lists.proofs.OnlyReads.{is_read-none, is_read-on}
use Rattle.index_check.proofs.nodes.find_missing.Goals as goal

-- a node that isn't missing is met, if it has a value
met_of : (records : Records) (d : Definition) (n : ℕ) (met missing : Bool) → missing ≡ false → Decides missing (IsMissing records d n met)
    → HasValue records d n → met ≡ true
met_of records d n met missing none told h = ⊎_elim
    (λ (t : met ≡ true). t)
    (λ (f : met ≡ false). absurd (true≢false (sym (told.1 (record { unmet = f; has = h })) ∙ none)))
    (cases_Bool met)

pub loop-node-init : goal.loop-node-init
loop-node-init g c = record {
  met = λ tells n lt. absurd (omega arith);
  read = is_read-none g.R.Reads g.met.R.Reads.stays_onward c.args.space.now;
}

pub loop-node-preserved : goal.loop-node-preserved
loop-node-preserved g c =
    let records = (g.R.Reads.state c.args.space.now).records in
    let inv = c.loop-node.invariant in
    let d = c.args.definition.now in
    let n = c.loop-node.node in
    let seen = c.args.seen.now in
    let no : c.in_ok-is_missing.field-0 ≡ false = search rules in
    record {
      met = λ tells. one_more (λ k. HasValue records d k → is_seen seen k ≡ true) n (inv.met tells)
          (met_of records d n (is_seen seen n) c.in_ok-is_missing.field-0 no (subst (λ (r : Records). Decides c.in_ok-is_missing.field-0
          (IsMissing r d n (is_seen seen n))) inv.read.records (c.in_ok-is_missing.ensures.told tells)));
      read = is_read-on g.R.Reads g.met.R.Reads.further_onward c.args.space.now c.loop-node.space c.is_missing.new.space inv.read
          c.in_ok-is_missing.ensures.read;
    }

pub returns-then-branch-clause-found : goal.returns-then-branch-clause-found
returns-then-branch-clause-found g c = λ tells.
    let d = c.args.definition.now in
    let n = c.loop-node.node in
    let seen = c.args.seen.now in
    let yes : c.in_ok-is_missing.field-0 ≡ true = search rules in
    subst (λ (r : Records). IsMissing r d n (is_seen seen n)) c.loop-node.invariant.read.records ((c.in_ok-is_missing.ensures.told tells).0 yes)

pub returns-clause-none : goal.returns-clause-none
returns-clause-none g c = λ tells n h.
    let records = (g.R.Reads.state c.args.space.now).records in
    let d = c.args.definition.now in
    let low : n < high records format.nodes_file = value_low records d.label d.key n h.value h.is in
    let mark : c.meta-node-end.result.high ≡ high records format.nodes_file = ap (λ (m : Meta). m.high) c.meta-node-end.ensures in
    c.loop-node.invariant.met tells n (omega arith) h

pub returns-in_err-is_missing-clause-not_damaged : goal.returns-in_err-is_missing-clause-not_damaged
returns-in_err-is_missing-clause-not_damaged g c = λ tells readable.
    sound_exit c.from_residual.result c.in_err-is_missing.field-0.0 c.from_residual.ensures.1
    (c.in_err-is_missing.ensures.not_damaged tells (subst AreReadable (sym c.loop-node.invariant.read.records) readable))

pub returns-in_err-is_missing-clause-cause : goal.returns-in_err-is_missing-clause-cause
returns-in_err-is_missing-clause-cause g c =
    cause_passed _ _ _ c.from_residual.result c.in_err-is_missing.field-0.0 c.loop-node.invariant.read.later c.in_err-is_missing.ensures.cause
    c.from_residual.ensures.1

pub returns-in_err-is_missing-clause-read : goal.returns-in_err-is_missing-clause-read
returns-in_err-is_missing-clause-read g c =
    is_read-on g.R.Reads g.met.R.Reads.further_onward c.args.space.now c.loop-node.space c.is_missing.new.space c.loop-node.invariant.read
    c.in_err-is_missing.ensures.read

pub returns-in_err-is_missing-clause-none : goal.returns-in_err-is_missing-clause-none
returns-in_err-is_missing-clause-none g c _ = never_ok c.from_residual.result _ _ c.from_residual.ensures.1

pub returns-in_err-is_missing-clause-found : goal.returns-in_err-is_missing-clause-found
returns-in_err-is_missing-clause-found g c _ = never_ok c.from_residual.result _ _ c.from_residual.ensures.1

pub returns-clause-cause : goal.returns-clause-cause
returns-clause-cause g c = ok_cause _ _ _ _ c.loop-node.invariant.read.later

pub returns-then-branch-clause-cause : goal.returns-then-branch-clause-cause
returns-then-branch-clause-cause g c = ok_cause _ _ _ _ (later_on c.loop-node.invariant.read.later c.in_ok-is_missing.ensures.cause.later)
