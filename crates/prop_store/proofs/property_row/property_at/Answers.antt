use Rattle.std.proofs.Common.{◌≡◌, ◌<◌, ℕ, sym, ap, ◌∙◌, subst, arith, rules}
use Rattle.std.proofs.lemmas.Result.{err_from_is_err_and}
use Rattle.rec_bytes.specs.Format.{kind, properties_file}
use Rattle.rec_bytes.specs.Record.{field}
use Rattle.rec_bytes.specs.Space.{State}
use Rattle.rec_bytes.specs.declared.fault.Fault.{Fault}
use Rattle.rec_bytes.specs.declared.fault.Fault.TheVariants.{Memory, Disk, Damaged}
use Rattle.rec_bytes.specs.declared.key.Key.{Key}
use Rattle.rec_bytes.specs.declared.record.Rec.{Rec}
use Rattle.store_rules.specs.Views.{high, kind_at, rec_at}
use Rattle.store_rules.proofs.ViewLaws.{kind_low}
use Rattle.prop_store.specs.GivenOut.{IsLinkFault}
use Rattle.prop_store.specs.PropertyRow.{BadLink, HasContent, IsRowFault, Unknown, Unused}
use Rattle.prop_store.proofs.Breaches.{link_cause}
use Rattle.prop_store.proofs.Meanings.{no_form}
use Rattle.prop_store.proofs.ReadCounts.{reads_none, reads_one}
use Rattle.rec_bytes.proofs.Causes.{never_ok, ok_cause}
use Rattle.prop_store.proofs.Causes.{space_cause_passed}
use Rattle.prop_store.proofs.Exits.{space_exit, space_has}
use Rattle.prop_store.proofs.property_row.property_at.Goals as goal

pub returns-in_err-test_link-clause-at_most : goal.returns-in_err-test_link-clause-at_most
returns-in_err-test_link-clause-at_most g c = reads_none 1 _

pub returns-in_err-get_into-clause-at_most : goal.returns-in_err-get_into-clause-at_most
returns-in_err-get_into-clause-at_most g c = reads_one 1 _ _ (omega arith) c.in_err-get_into.ensures.state

pub returns-then-byte-eq-FREE-clause-at_most : goal.returns-then-byte-eq-FREE-clause-at_most
returns-then-byte-eq-FREE-clause-at_most g c = reads_one 1 _ _ (omega arith) c.in_ok-get_into.ensures.state

pub returns-in-Some-clause-at_most : goal.returns-in-Some-clause-at_most
returns-in-Some-clause-at_most g c = reads_one 1 _ _ (omega arith) c.in_ok-get_into.ensures.state

pub returns-in-None-clause-at_most : goal.returns-in-None-clause-at_most
returns-in-None-clause-at_most g c = reads_one 1 _ _ (omega arith) c.in_ok-get_into.ensures.state

-- ---- which record is blamed

row_link : (s : State) (element from : Key) (id : ℕ) (fault : Fault) → IsLinkFault s from properties_file id fault → IsRowFault s element from id fault
row_link s element from id Memory why = tt
row_link s element from id Disk why = tt
row_link s element from id (Damaged d) why = BadLink d why

-- the kind is the one that was read
kind_read : (s : State) (id : ℕ) (rec : Rec) → id < high s.records properties_file → rec ≡ rec_at s.records properties_file id
    → kind_at s.records properties_file id ≡ field 1 rec kind
kind_read s id rec lt is = kind_low (high s.records properties_file) (rec_at s.records properties_file id) id lt ∙ ap (λ r. field 1 r kind) (sym is)

pub returns-in_err-test_link-clause-damaged : goal.returns-in_err-test_link-clause-damaged
returns-in_err-test_link-clause-damaged g c tells =
    let p = err_from_is_err_and c.from_residual.result c.from_residual.ensures.1 in
    rw (p.1, p.2) (row_link (g.R.Reads.state c.args.space.now) c.args.element c.args.from c.args.id c.in_err-test_link.field-0.0
    c.in_err-test_link.ensures.damaged)

pub returns-in_err-test_link-clause-cause : goal.returns-in_err-test_link-clause-cause
returns-in_err-test_link-clause-cause g c =
    link_cause (g.R.Reads.state c.args.space.now) c.args.from properties_file c.args.id (g.R.Reads.faults c.args.space.now) c.from_residual.result
    c.in_err-test_link.field-0.0 c.from_residual.ensures.1 c.in_err-test_link.ensures.damaged

pub returns-then-byte-eq-FREE-clause-damaged : goal.returns-then-byte-eq-FREE-clause-damaged
returns-then-byte-eq-FREE-clause-damaged g c tells =
    let s = g.R.Reads.state c.args.space.now in
    subst (IsRowFault s c.args.element c.args.from c.args.id) (sym c.damaged.ensures)
    (Unused (kind_read s c.args.id c.get_into.new.rec c.in_ok-test_link.ensures.given.low (c.in_ok-get_into.ensures.got tells) ∙ sym c.byte.ensures
    ∙ c.if-byte-eq-FREE.true))

pub returns-in-None-clause-damaged : goal.returns-in-None-clause-damaged
returns-in-None-clause-damaged g c tells =
    let s = g.R.Reads.state c.args.space.now in
    subst (IsRowFault s c.args.element c.args.from c.args.id) (sym c.damaged-in-None.ensures)
    (Unknown (λ e. c.if-byte-eq-FREE.false (c.byte.ensures ∙ sym (kind_read s c.args.id c.get_into.new.rec c.in_ok-test_link.ensures.given.low
    (c.in_ok-get_into.ensures.got tells)) ∙ e))
    (λ has. no_form c.get_into.new.rec (subst HasContent (sym (c.in_ok-get_into.ensures.got tells)) has) (sym c.form_of.ensures.is ∙ c.in-None.is)))

pub returns-in-Some-clause-read : goal.returns-in-Some-clause-read
returns-in-Some-clause-read g c tells =
    let s = g.R.Reads.state c.args.space.now in
    let got = c.in_ok-get_into.ensures.got tells in
    record {
      used = λ e. c.if-byte-eq-FREE.false (c.byte.ensures ∙ sym (kind_read s c.args.id c.get_into.new.rec c.in_ok-test_link.ensures.given.low got) ∙ e);
      rec_is = got;
    }

pub returns-in_err-test_link-clause-row : goal.returns-in_err-test_link-clause-row
returns-in_err-test_link-clause-row g c = never_ok c.from_residual.result _ _ c.from_residual.ensures.1

pub returns-in_err-test_link-clause-got : goal.returns-in_err-test_link-clause-got
returns-in_err-test_link-clause-got g c _ = never_ok c.from_residual.result _ _ c.from_residual.ensures.1

pub returns-in_err-test_link-clause-read : goal.returns-in_err-test_link-clause-read
returns-in_err-test_link-clause-read g c _ = never_ok c.from_residual.result _ _ c.from_residual.ensures.1

pub returns-in_err-test_link-clause-state : goal.returns-in_err-test_link-clause-state
returns-in_err-test_link-clause-state g c = never_ok c.from_residual.result _ _ c.from_residual.ensures.1

pub returns-in_err-test_link-clause-onward : goal.returns-in_err-test_link-clause-onward
returns-in_err-test_link-clause-onward g c = search rules

pub returns-in_err-get_into-clause-row : goal.returns-in_err-get_into-clause-row
returns-in_err-get_into-clause-row g c = never_ok c.from_residual-in_err-get_into.result _ _ c.from_residual-in_err-get_into.ensures.1

pub returns-in_err-get_into-clause-got : goal.returns-in_err-get_into-clause-got
returns-in_err-get_into-clause-got g c _ = never_ok c.from_residual-in_err-get_into.result _ _ c.from_residual-in_err-get_into.ensures.1

pub returns-in_err-get_into-clause-read : goal.returns-in_err-get_into-clause-read
returns-in_err-get_into-clause-read g c _ = never_ok c.from_residual-in_err-get_into.result _ _ c.from_residual-in_err-get_into.ensures.1

pub returns-in_err-get_into-clause-state : goal.returns-in_err-get_into-clause-state
returns-in_err-get_into-clause-state g c = never_ok c.from_residual-in_err-get_into.result _ _ c.from_residual-in_err-get_into.ensures.1

pub returns-in-Some-clause-cause : goal.returns-in-Some-clause-cause
returns-in-Some-clause-cause g c = ok_cause _ _ _ _ (omega arith)

pub returns-in_err-get_into-clause-cause : goal.returns-in_err-get_into-clause-cause
returns-in_err-get_into-clause-cause g c =
    space_cause_passed _ _ _ c.from_residual-in_err-get_into.result c.in_err-get_into.field-0.0 (omega arith) c.in_err-get_into.ensures.cause
    c.from_residual-in_err-get_into.ensures.1

pub returns-in_err-get_into-clause-damaged : goal.returns-in_err-get_into-clause-damaged
returns-in_err-get_into-clause-damaged g c tells =
    space_has (IsRowFault (g.R.Reads.state c.args.space.now) c.args.element c.args.from c.args.id) tt tt c.from_residual-in_err-get_into.result
    c.in_err-get_into.field-0.0 c.from_residual-in_err-get_into.ensures.1

pub returns-in_err-get_into-clause-onward : goal.returns-in_err-get_into-clause-onward
returns-in_err-get_into-clause-onward g c = c.get_into.ensures.onward

pub returns-in_err-get_into-clause-not_damaged : goal.returns-in_err-get_into-clause-not_damaged
returns-in_err-get_into-clause-not_damaged g c tells given has =
    space_exit c.from_residual-in_err-get_into.result c.in_err-get_into.field-0.0 c.from_residual-in_err-get_into.ensures.1

pub returns-then-byte-eq-FREE-clause-onward : goal.returns-then-byte-eq-FREE-clause-onward
returns-then-byte-eq-FREE-clause-onward g c = c.in_ok-get_into.ensures.onward

pub returns-in-None-clause-onward : goal.returns-in-None-clause-onward
returns-in-None-clause-onward g c = c.in_ok-get_into.ensures.onward

pub returns-in-Some-clause-onward : goal.returns-in-Some-clause-onward
returns-in-Some-clause-onward g c = c.in_ok-get_into.ensures.onward

pub returns-in-Some-clause-got : goal.returns-in-Some-clause-got
returns-in-Some-clause-got g c = c.in_ok-get_into.ensures.got

pub returns-in-Some-clause-state : goal.returns-in-Some-clause-state
returns-in-Some-clause-state g c = c.in_ok-get_into.ensures.state
