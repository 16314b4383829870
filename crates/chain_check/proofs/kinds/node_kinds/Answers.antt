use Rattle.std.proofs.Common.{[], ap, arith, length, rules, sym, ℕ, ◌+◌, ◌++◌, ◌<◌, ◌∙◌, ◌∷◌, ◌≡◌}
use Rattle.std.proofs.lemmas.Grind.{common_steps}
use Rattle.rec_bytes.specs.declared.meta.Meta.{Meta}
use Rattle.rec_bytes.specs.Format.{nodes_file}
use Rattle.store_rules.specs.Views.{Records, high, kind_at, rec_at}
use Rattle.record_lists.proofs.Causes.{cause_passed}
use Rattle.chain_check.proofs.Causes.{no_memory}
use Rattle.record_lists.proofs.RecordLaws.{kind_read}
use Rattle.rec_bytes.proofs.Causes.{never_ok, ok_cause}
use Rattle.chain_check.specs.Kinds.{kind_of}
use Rattle.chain_check.proofs.KindLaws.{kinds_all, made_more}
use Rattle.record_lists.proofs.OnlyReads.{is_read-get, is_read-none, is_read-on}
use Rattle.chain_check.proofs.kinds.node_kinds.Goals as goal

pub loop-id-init : goal.loop-id-init
loop-id-init g c = record {
  len = search rules;
  kinds = λ tells n lt. absurd (omega (arith, ap length c.in-Ok.ensures.items));
  read = is_read-none g.R.Reads g.met.R.Reads.stays_onward c.args.space.now;
}

pub loop-id-preserved : goal.loop-id-preserved
loop-id-preserved g c =
    let records = (g.R.Reads.state c.args.space.now).records in
    let inv = c.loop-id.invariant in
    let id = c.loop-id.id in
    let kinds = c.loop-id.kinds.items in
    let mark : c.meta-nodes.result.high ≡ high records nodes_file = ap (λ (m : Meta). m.high) c.meta-nodes.ensures in
    record {
      len = grind (arith, common_steps);
      kinds = λ tells.
          let lt : id < high records nodes_file = omega (arith, c.loop-id-test.true) in
          let got : c.in_ok-rec.rec ≡ rec_at records nodes_file id = c.in_ok-rec.ensures.got tells ∙ ap (λ
          (r : Records). rec_at r nodes_file id) inv.read.records in
          let one : c.byte.result ≡ kind_at records nodes_file (length kinds) = c.byte.ensures ∙ sym (kind_read records nodes_file id c.in_ok-rec.rec lt got)
          ∙ ap (kind_at records nodes_file) (sym inv.len) in
          let more : (n : ℕ) → n < length kinds + 1 → kind_of (kinds ++ c.byte.result ∷ []) n ≡ kind_at records nodes_file n =
          made_more (kind_at records nodes_file) kinds c.byte.result 0 (inv.kinds tells) one in
          λ n low. ap (λ xs. kind_of xs n) c.in-Ok-push.ensures.items ∙ more n (grind (arith, common_steps));
      read = is_read-on g.R.Reads g.met.R.Reads.further_onward c.args.space.now c.loop-id.space c.get.new.self inv.read (is_read-get g.R.Reads _ _
          c.in_ok-rec.ensures.state c.in_ok-rec.ensures.onward c.in_ok-rec.ensures.cause.later);
    }

pub returns-clause-kinds : goal.returns-clause-kinds
returns-clause-kinds g c = λ tells.
    let records = (g.R.Reads.state c.args.space.now).records in
    let mark : c.meta-nodes.result.high ≡ high records nodes_file = ap (λ (m : Meta). m.high) c.meta-nodes.ensures in
    kinds_all records c.loop-id.kinds.items (omega (arith, c.loop-id.invariant.len)) (c.loop-id.invariant.kinds tells)

pub returns-in_err-rec-clause-read : goal.returns-in_err-rec-clause-read
returns-in_err-rec-clause-read g c =
    is_read-on g.R.Reads g.met.R.Reads.further_onward _ _ _ c.loop-id.invariant.read (is_read-get g.R.Reads _ _ c.in_err-rec.ensures.state
    c.in_err-rec.ensures.onward c.in_err-rec.ensures.cause.later)

pub returns-in_err-rec-clause-cause : goal.returns-in_err-rec-clause-cause
returns-in_err-rec-clause-cause g c =
    cause_passed _ _ _ c.from_residual.result c.in_err-rec.field-0.0 c.loop-id.invariant.read.later c.in_err-rec.ensures.cause c.from_residual.ensures.1

pub returns-in_err-rec-clause-kinds : goal.returns-in_err-rec-clause-kinds
returns-in_err-rec-clause-kinds g c _ = never_ok c.from_residual.result _ _ c.from_residual.ensures.1

pub returns-clause-cause : goal.returns-clause-cause
returns-clause-cause g c = ok_cause _ _ _ _ c.loop-id.invariant.read.later

pub returns-clause-read : goal.returns-clause-read
returns-clause-read g c =
    c.loop-id.invariant.read

pub returns-in_default-clause-read : goal.returns-in_default-clause-read
returns-in_default-clause-read g c = is_read-none g.R.Reads g.met.R.Reads.stays_onward c.args.space.now

pub returns-in_default-clause-cause : goal.returns-in_default-clause-cause
returns-in_default-clause-cause g c = no_memory _ _ (returns-in_default-clause-read g c).later

pub returns-in_default-push-clause-read : goal.returns-in_default-push-clause-read
returns-in_default-push-clause-read g c =
    is_read-on g.R.Reads g.met.R.Reads.further_onward _ _ _ c.loop-id.invariant.read (is_read-get g.R.Reads _ _ c.in_ok-rec.ensures.state
    c.in_ok-rec.ensures.onward c.in_ok-rec.ensures.cause.later)

pub returns-in_default-push-clause-cause : goal.returns-in_default-push-clause-cause
returns-in_default-push-clause-cause g c = no_memory _ _ (returns-in_default-push-clause-read g c).later
