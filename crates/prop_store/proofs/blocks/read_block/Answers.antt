use Rattle.std.proofs.Common.{◌≡◌, ◌≢◌, ◌↔◌, ◌<◌, ℕ, Bool, true, false, IsTrue, ⊎_elim, sym, ap, ◌∙◌, subst, arith, rules}
use Rattle.std.proofs.lemmas.Bool.{true≢false}
use Rattle.std.proofs.lemmas.Result.{err_from_is_err_and}
use Rattle.rec_bytes.specs.Format.{block, block_length, free_kind, kind, strings_file}
use Rattle.rec_bytes.specs.Record.{field}
use Rattle.rec_bytes.specs.Space.{State}
use Rattle.rec_bytes.specs.declared.fault.Fault.{Fault}
use Rattle.rec_bytes.specs.declared.fault.Fault.TheVariants.{Memory, Disk, Damaged}
use Rattle.rec_bytes.specs.declared.key.Key.{Key}
use Rattle.rec_bytes.specs.declared.record.Rec.{Rec}
use Rattle.store_rules.specs.Views.{high, kind_at, rec_at}
use Rattle.store_rules.proofs.ViewLaws.{kind_low}
use Rattle.prop_store.specs.Blocks.{BadLink, HasBlockForm, IsBlockFault, IsBlockKind, NotSuch, Unknown}
use Rattle.prop_store.specs.GivenOut.{IsLinkFault}
use Rattle.prop_store.proofs.Breaches.{link_cause}
use Rattle.prop_store.proofs.ReadCounts.{reads_none, reads_one}
use Rattle.rec_bytes.proofs.Causes.{never_ok, ok_cause}
use Rattle.prop_store.proofs.Causes.{space_cause_passed}
use Rattle.prop_store.proofs.Exits.{space_exit, space_has}
use Rattle.prop_store.proofs.blocks.read_block.Goals as goal

pub returns-then-id-eq-NIL-clause-at_most : goal.returns-then-id-eq-NIL-clause-at_most
returns-then-id-eq-NIL-clause-at_most g c = reads_none 1 _

pub returns-in_err-test_link-clause-at_most : goal.returns-in_err-test_link-clause-at_most
returns-in_err-test_link-clause-at_most g c = reads_none 1 _

pub returns-in_err-get_into-clause-at_most : goal.returns-in_err-get_into-clause-at_most
returns-in_err-get_into-clause-at_most g c = reads_one 1 _ _ (omega arith) c.in_err-get_into.ensures.state

pub returns-then-not-is_known-clause-at_most : goal.returns-then-not-is_known-clause-at_most
returns-then-not-is_known-clause-at_most g c = reads_one 1 _ _ (omega arith) c.in_ok-get_into.ensures.state

pub returns-then-not-has_form-clause-at_most : goal.returns-then-not-has_form-clause-at_most
returns-then-not-has_form-clause-at_most g c = reads_one 1 _ _ (omega arith) c.in_ok-get_into.ensures.state

pub returns-clause-at_most : goal.returns-clause-at_most
returns-clause-at_most g c = reads_one 1 _ _ (omega arith) c.in_ok-get_into.ensures.state

-- ---- which record is blamed

block_link : (s : State) (p : ℕ) (from : Key) (id size : ℕ) (fault : Fault) → id ≢ 4294967295 → IsLinkFault s from strings_file id fault
    → IsBlockFault s p from id size fault
block_link s p from id size Memory some why = tt
block_link s p from id size Disk some why = tt
block_link s p from id size (Damaged d) some why = BadLink d some why

-- the kind is the one that was read
kind_read : (s : State) (id : ℕ) (rec : Rec) → id < high s.records strings_file → rec ≡ rec_at s.records strings_file id
    → kind_at s.records strings_file id ≡ field 1 rec kind
kind_read s id rec lt is = kind_low (high s.records strings_file) (rec_at s.records strings_file id) id lt ∙ ap (λ r. field 1 r kind) (sym is)

-- a test that failed says that it does not hold
fails : (b : Bool) (P : Type 0) → (IsTrue b ↔ P) → b ≡ false → P → ⊥
fails b P iff e p = true≢false (sym (iff.1 p) ∙ e)

holds : (b : Bool) (P : Type 0) → (IsTrue b ↔ P) → b ≡ true → P
holds b P iff e = iff.0 e

pub returns-then-id-eq-NIL-clause-damaged : goal.returns-then-id-eq-NIL-clause-damaged
returns-then-id-eq-NIL-clause-damaged g c tells =
    let s = g.R.Reads.state c.args.space.now in
    subst (IsBlockFault s c.args.property c.args.from c.args.id c.args.size) (sym c.damaged.ensures) (NotSuch (λ k. k.some c.if-id-eq-NIL.true))

pub returns-in_err-test_link-clause-damaged : goal.returns-in_err-test_link-clause-damaged
returns-in_err-test_link-clause-damaged g c tells =
    let p = err_from_is_err_and c.from_residual.result c.from_residual.ensures.1 in
    rw (p.1, p.2) (block_link (g.R.Reads.state c.args.space.now) c.args.property c.args.from c.args.id c.args.size c.in_err-test_link.field-0.0
    c.if-id-eq-NIL.false c.in_err-test_link.ensures.damaged)

pub returns-in_err-test_link-clause-cause : goal.returns-in_err-test_link-clause-cause
returns-in_err-test_link-clause-cause g c =
    link_cause (g.R.Reads.state c.args.space.now) c.args.from strings_file c.args.id (g.R.Reads.faults c.args.space.now) c.from_residual.result
    c.in_err-test_link.field-0.0 c.from_residual.ensures.1 c.in_err-test_link.ensures.damaged

pub returns-then-not-is_known-clause-damaged : goal.returns-then-not-is_known-clause-damaged
returns-then-not-is_known-clause-damaged g c tells =
    let s = g.R.Reads.state c.args.space.now in
    subst (IsBlockFault s c.args.property c.args.from c.args.id c.args.size) (sym c.damaged-then-not-is_known.ensures)
    (Unknown (λ k. fails c.is_known.result _ c.is_known.ensures c.if-not-is_known.true
    (subst IsBlockKind (kind_read s c.args.id c.get_into.new.rec c.in_ok-test_link.ensures.given.low (c.in_ok-get_into.ensures.got tells) ∙ sym c.byte.ensures)
    k)))

pub returns-then-not-has_form-clause-damaged : goal.returns-then-not-has_form-clause-damaged
returns-then-not-has_form-clause-damaged g c tells =
    let s = g.R.Reads.state c.args.space.now in
    let got = c.in_ok-get_into.ensures.got tells in
    let kind_is = kind_read s c.args.id c.get_into.new.rec c.in_ok-test_link.ensures.given.low got in
    let known : IsBlockKind (field 1 c.get_into.new.rec kind) = subst IsBlockKind c.byte.ensures
    (holds c.is_known.result _ c.is_known.ensures c.if-not-is_known.false) in
    subst (IsBlockFault s c.args.property c.args.from c.args.id c.args.size) (sym c.damaged-then-not-has_form.ensures)
    (NotSuch (λ k. fails c.has_form.result _ c.has_form.ensures c.if-not-has_form.true (record {
      kind = ⊎_elim (λ (e : field 1 c.get_into.new.rec kind ≡ free_kind). absurd (k.used (kind_is ∙ e))) (λ (e : field 1 c.get_into.new.rec kind ≡ block). e)
          known;
      length_is = ap (λ r. field 1 r block_length) got ∙ k.size_is;
    })))

pub returns-clause-block : goal.returns-clause-block
returns-clause-block g c tells =
    let s = g.R.Reads.state c.args.space.now in
    let got = c.in_ok-get_into.ensures.got tells in
    let form : HasBlockForm c.get_into.new.rec c.args.size = holds c.has_form.result _ c.has_form.ensures c.if-not-has_form.false in
    record {
      some = c.if-id-eq-NIL.false;
      used = λ e. absurd (let z : block ≡ free_kind = sym form.kind ∙ sym (kind_read s c.args.id c.get_into.new.rec c.in_ok-test_link.ensures.given.low got)
          ∙ e in omega arith);
      size_is = ap (λ r. field 1 r block_length) (sym got) ∙ form.length_is;
    }

pub returns-in_err-test_link-clause-got : goal.returns-in_err-test_link-clause-got
returns-in_err-test_link-clause-got g c _ = never_ok c.from_residual.result _ _ c.from_residual.ensures.1

pub returns-in_err-test_link-clause-small : goal.returns-in_err-test_link-clause-small
returns-in_err-test_link-clause-small g c = never_ok c.from_residual.result _ _ c.from_residual.ensures.1

pub returns-in_err-test_link-clause-form : goal.returns-in_err-test_link-clause-form
returns-in_err-test_link-clause-form g c = never_ok c.from_residual.result _ _ c.from_residual.ensures.1

pub returns-in_err-test_link-clause-block : goal.returns-in_err-test_link-clause-block
returns-in_err-test_link-clause-block g c _ = never_ok c.from_residual.result _ _ c.from_residual.ensures.1

pub returns-in_err-test_link-clause-state : goal.returns-in_err-test_link-clause-state
returns-in_err-test_link-clause-state g c = never_ok c.from_residual.result _ _ c.from_residual.ensures.1

pub returns-in_err-test_link-clause-onward : goal.returns-in_err-test_link-clause-onward
returns-in_err-test_link-clause-onward g c = search rules

pub returns-in_err-get_into-clause-got : goal.returns-in_err-get_into-clause-got
returns-in_err-get_into-clause-got g c _ = never_ok c.from_residual-in_err-get_into.result _ _ c.from_residual-in_err-get_into.ensures.1

pub returns-in_err-get_into-clause-small : goal.returns-in_err-get_into-clause-small
returns-in_err-get_into-clause-small g c = never_ok c.from_residual-in_err-get_into.result _ _ c.from_residual-in_err-get_into.ensures.1

pub returns-in_err-get_into-clause-form : goal.returns-in_err-get_into-clause-form
returns-in_err-get_into-clause-form g c = never_ok c.from_residual-in_err-get_into.result _ _ c.from_residual-in_err-get_into.ensures.1

pub returns-in_err-get_into-clause-block : goal.returns-in_err-get_into-clause-block
returns-in_err-get_into-clause-block g c _ = never_ok c.from_residual-in_err-get_into.result _ _ c.from_residual-in_err-get_into.ensures.1

pub returns-in_err-get_into-clause-state : goal.returns-in_err-get_into-clause-state
returns-in_err-get_into-clause-state g c = never_ok c.from_residual-in_err-get_into.result _ _ c.from_residual-in_err-get_into.ensures.1

pub returns-clause-cause : goal.returns-clause-cause
returns-clause-cause g c = ok_cause _ _ _ _ (omega arith)

pub returns-in_err-get_into-clause-cause : goal.returns-in_err-get_into-clause-cause
returns-in_err-get_into-clause-cause g c =
    space_cause_passed _ _ _ c.from_residual-in_err-get_into.result c.in_err-get_into.field-0.0 (omega arith) c.in_err-get_into.ensures.cause
    c.from_residual-in_err-get_into.ensures.1

pub returns-in_err-get_into-clause-damaged : goal.returns-in_err-get_into-clause-damaged
returns-in_err-get_into-clause-damaged g c tells =
    space_has (IsBlockFault (g.R.Reads.state c.args.space.now) c.args.property c.args.from c.args.id c.args.size) tt tt c.from_residual-in_err-get_into.result
    c.in_err-get_into.field-0.0 c.from_residual-in_err-get_into.ensures.1

pub returns-in_err-get_into-clause-onward : goal.returns-in_err-get_into-clause-onward
returns-in_err-get_into-clause-onward g c = c.get_into.ensures.onward

pub returns-in_err-get_into-clause-not_damaged : goal.returns-in_err-get_into-clause-not_damaged
returns-in_err-get_into-clause-not_damaged g c tells given has =
    space_exit c.from_residual-in_err-get_into.result c.in_err-get_into.field-0.0 c.from_residual-in_err-get_into.ensures.1

pub returns-then-not-is_known-clause-onward : goal.returns-then-not-is_known-clause-onward
returns-then-not-is_known-clause-onward g c = c.in_ok-get_into.ensures.onward

pub returns-then-not-has_form-clause-onward : goal.returns-then-not-has_form-clause-onward
returns-then-not-has_form-clause-onward g c = c.in_ok-get_into.ensures.onward

pub returns-clause-onward : goal.returns-clause-onward
returns-clause-onward g c = c.in_ok-get_into.ensures.onward

pub returns-clause-got : goal.returns-clause-got
returns-clause-got g c = c.in_ok-get_into.ensures.got

pub returns-clause-state : goal.returns-clause-state
returns-clause-state g c = c.in_ok-get_into.ensures.state

pub returns-clause-form : goal.returns-clause-form
returns-clause-form g c = holds c.has_form.result _ c.has_form.ensures c.if-not-has_form.false

pub returns-clause-small : goal.returns-clause-small
returns-clause-small g c = c.in_ok-test_link.ensures.given.small
