use Rattle.std.proofs.Common.{[], ap, arith, length, rules, ℕ, ◌+◌, ◌++◌, ◌<◌, ◌∙◌, ◌∷◌, ◌≡◌, sym}
use Rattle.std.proofs.lemmas.Grind.{common_steps}
use Rattle.rec_bytes.specs.Format.{relationships_file}
use Rattle.store_rules.specs.Views.{Records, rec_at}
use Rattle.record_lists.proofs.Causes.{cause_passed}
use Rattle.chain_check.proofs.Causes.{no_memory}
use Rattle.rec_bytes.proofs.Causes.{never_ok, ok_cause}
use Rattle.chain_check.specs.LinkRows.{free_row, link_row, row_at}
use Rattle.chain_check.proofs.KindLaws.{made_more}
use Rattle.record_lists.proofs.OnlyReads.{is_read-get, is_read-none, is_read-on}
use Rattle.chain_check.proofs.link_rows.link_rows.Goals as goal

pub loop-id-init : goal.loop-id-init
loop-id-init g c = record {
  len = search rules;
  rows = λ tells x lt. absurd (omega (arith, ap length c.in-Ok.ensures.items));
  read = is_read-none g.R.Reads g.met.R.Reads.stays_onward c.args.space.now;
}

pub loop-id-preserved : goal.loop-id-preserved
loop-id-preserved g c =
    let records = (g.R.Reads.state c.args.space.now).records in
    let inv = c.loop-id.invariant in
    let id = c.loop-id.id in
    let rows = c.loop-id.rows.items in
    let row = c.link_row.result in
    record {
      len = grind (arith, common_steps);
      rows = λ tells.
          let got : c.in_ok-rec.rec ≡ rec_at records relationships_file id = c.in_ok-rec.ensures.got tells
          ∙ ap (λ (r : Records). rec_at r relationships_file id) inv.read.records in
          let of = λ (x : ℕ). link_row (rec_at records relationships_file x) in
          let one : row ≡ of (length rows) = c.link_row.ensures ∙ ap link_row got ∙ ap of (sym inv.len) in
          let more : (x : ℕ) → x < length rows + 1 → row_at (rows ++ row ∷ []) x ≡ of x = made_more of rows row free_row (inv.rows tells) one in
          λ x low. ap (λ xs. row_at xs x) c.in-Ok-push.ensures.items ∙ more x (grind (arith, common_steps));
      read = is_read-on g.R.Reads g.met.R.Reads.further_onward c.args.space.now c.loop-id.space c.get.new.self inv.read (is_read-get g.R.Reads _ _
          c.in_ok-rec.ensures.state c.in_ok-rec.ensures.onward c.in_ok-rec.ensures.cause.later);
    }

pub returns-clause-rows : goal.returns-clause-rows
returns-clause-rows g c = λ tells. c.loop-id.invariant.rows tells

pub returns-in_err-rec-clause-read : goal.returns-in_err-rec-clause-read
returns-in_err-rec-clause-read g c =
    is_read-on g.R.Reads g.met.R.Reads.further_onward _ _ _ c.loop-id.invariant.read (is_read-get g.R.Reads _ _ c.in_err-rec.ensures.state
    c.in_err-rec.ensures.onward c.in_err-rec.ensures.cause.later)

pub returns-in_err-rec-clause-cause : goal.returns-in_err-rec-clause-cause
returns-in_err-rec-clause-cause g c =
    cause_passed _ _ _ c.from_residual.result c.in_err-rec.field-0.0 c.loop-id.invariant.read.later c.in_err-rec.ensures.cause c.from_residual.ensures.1

pub returns-in_err-rec-clause-rows : goal.returns-in_err-rec-clause-rows
returns-in_err-rec-clause-rows g c _ = never_ok c.from_residual.result _ _ c.from_residual.ensures.1

pub returns-in_err-rec-clause-len : goal.returns-in_err-rec-clause-len
returns-in_err-rec-clause-len g c = never_ok c.from_residual.result _ _ c.from_residual.ensures.1

pub returns-clause-cause : goal.returns-clause-cause
returns-clause-cause g c = ok_cause _ _ _ _ c.loop-id.invariant.read.later

pub returns-clause-read : goal.returns-clause-read
returns-clause-read g c =
    c.loop-id.invariant.read

pub returns-in_default-clause-read : goal.returns-in_default-clause-read
returns-in_default-clause-read g c = is_read-none g.R.Reads g.met.R.Reads.stays_onward c.args.space.now

pub returns-in_default-clause-cause : goal.returns-in_default-clause-cause
returns-in_default-clause-cause g c = no_memory _ _ (returns-in_default-clause-read g c).later

pub returns-in_default-push-clause-read : goal.returns-in_default-push-clause-read
returns-in_default-push-clause-read g c =
    is_read-on g.R.Reads g.met.R.Reads.further_onward _ _ _ c.loop-id.invariant.read (is_read-get g.R.Reads _ _ c.in_ok-rec.ensures.state
    c.in_ok-rec.ensures.onward c.in_ok-rec.ensures.cause.later)

pub returns-in_default-push-clause-cause : goal.returns-in_default-push-clause-cause
returns-in_default-push-clause-cause g c = no_memory _ _ (returns-in_default-push-clause-read g c).later
