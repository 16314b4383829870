use Rattle.std.proofs.Common.{arith, ap, sym, ◌∙◌}
use Rattle.rec_bytes.specs.Format.{group_next, group_owner, groups_file}
use Rattle.rec_bytes.specs.Record.{field}
use Rattle.record_lists.proofs.RecordLaws.{kind_read}
use Rattle.record_lists.proofs.Causes.{cause_passed}
use Rattle.rec_bytes.proofs.Causes.{never_ok, ok_cause}
use Rattle.record_lists.proofs.OnlyReads.{is_read-get}
use Rattle.chain_check.proofs.chained.next_owned.Goals as goal

pub returns-then-byte-eq-FREE-clause-none : goal.returns-then-byte-eq-FREE-clause-none
returns-then-byte-eq-FREE-clause-none g c = λ tells own.
    let records = (g.R.Reads.state c.args.space.now).records in
    let kind = kind_read records groups_file c.args.id c.in_ok-rec.rec c.requires.id (c.in_ok-rec.ensures.got tells) in
    own.used (kind ∙ sym c.byte.ensures ∙ c.if-byte-eq-FREE.true)

pub returns-clause-owned : goal.returns-clause-owned
returns-clause-owned g c = λ tells.
    let records = (g.R.Reads.state c.args.space.now).records in
    let got = c.in_ok-rec.ensures.got tells in
    let kind = kind_read records groups_file c.args.id c.in_ok-rec.rec c.requires.id got in (
      record {
        used = λ z. c.if-byte-eq-FREE.false (c.byte.ensures ∙ sym kind ∙ z);
        owner = ap (λ r. field 4 r group_owner) (sym got) ∙ sym c.number.ensures ∙ c.if-number-node.false;
      },
      ap (λ r. field 4 r group_next) (sym got) ∙ sym c.number-2.ensures,
    )

pub returns-in_err-rec-clause-cause : goal.returns-in_err-rec-clause-cause
returns-in_err-rec-clause-cause g c =
    cause_passed _ _ _ c.from_residual.result c.in_err-rec.field-0.0 (omega arith) c.in_err-rec.ensures.cause c.from_residual.ensures.1

pub returns-in_err-rec-clause-owned : goal.returns-in_err-rec-clause-owned
returns-in_err-rec-clause-owned g c _ = never_ok c.from_residual.result _ _ c.from_residual.ensures.1

pub returns-in_err-rec-clause-none : goal.returns-in_err-rec-clause-none
returns-in_err-rec-clause-none g c _ = never_ok c.from_residual.result _ _ c.from_residual.ensures.1

pub returns-in_err-rec-clause-read : goal.returns-in_err-rec-clause-read
returns-in_err-rec-clause-read g c =
    is_read-get g.R.Reads _ _ c.in_err-rec.ensures.state c.in_err-rec.ensures.onward c.in_err-rec.ensures.cause.later

pub returns-clause-cause : goal.returns-clause-cause
returns-clause-cause g c = ok_cause _ _ _ _ c.in_ok-rec.ensures.cause.later

pub returns-clause-read : goal.returns-clause-read
returns-clause-read g c =
    is_read-get g.R.Reads _ _ c.in_ok-rec.ensures.state c.in_ok-rec.ensures.onward c.in_ok-rec.ensures.cause.later

pub returns-then-byte-eq-FREE-clause-read : goal.returns-then-byte-eq-FREE-clause-read
returns-then-byte-eq-FREE-clause-read g c =
    is_read-get g.R.Reads _ _ c.in_ok-rec.ensures.state c.in_ok-rec.ensures.onward c.in_ok-rec.ensures.cause.later

pub returns-then-byte-eq-FREE-clause-cause : goal.returns-then-byte-eq-FREE-clause-cause
returns-then-byte-eq-FREE-clause-cause g c = ok_cause _ _ _ _ (returns-then-byte-eq-FREE-clause-read g c).later

pub returns-then-number-node-clause-read : goal.returns-then-number-node-clause-read
returns-then-number-node-clause-read g c =
    is_read-get g.R.Reads _ _ c.in_ok-rec.ensures.state c.in_ok-rec.ensures.onward c.in_ok-rec.ensures.cause.later

pub returns-then-number-node-clause-cause : goal.returns-then-number-node-clause-cause
returns-then-number-node-clause-cause g c = ok_cause _ _ _ _ (returns-then-number-node-clause-read g c).later
