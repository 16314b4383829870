use Rattle.std.proofs.Common.{◌+◌, length, arith, ap, sym, ◌∙◌, subst, rules}
use Rattle.std.proofs.lemmas.Result.{err_from_is_err_and}
use Rattle.rec_bytes.specs.Space.{State}
use Rattle.store_rules.specs.Properties.{first_property}
use Rattle.store_rules.specs.Properties.{property_records}
use Rattle.store_rules.proofs.PropertyLists.{properties_read}
use Rattle.store_rules.specs.Views.{Records}
use Rattle.prop_store.specs.Fault.{BlamesBroken}
use Rattle.prop_store.specs.Finding.{IsMet, IsReadAt, IsSought, value_of}
use Rattle.prop_store.specs.PropertyRow.{IsReadRow}
use Rattle.prop_store.proofs.Ahead.{value_found}
use Rattle.prop_store.proofs.Breaches.{text_blames, text_fault_same}
use Rattle.prop_store.proofs.Exits.{same_has}
use Rattle.prop_store.proofs.ReadCounts.{reads_more, reads_records, reads_same, reads_then}
use Rattle.prop_store.proofs.WalkSteps.{blocks_given, has_value}
use Rattle.prop_store.proofs.Causes.{cause_passed}
use Rattle.rec_bytes.proofs.Causes.{never_ok, ok_cause}
use Rattle.std.specs.Prelude.{IfSome}
use Rattle.rec_bytes.specs.Fault.{damage_of}
use Rattle.prop_store.proofs.reading.read_key_from.Goals as goal

pub returns-in-Absent-clause-cost : goal.returns-in-Absent-clause-cost
returns-in-Absent-clause-cost g c = λ tells es are. reads_more (length es) (length es + 0) _ _ (omega arith) (c.in_ok-find_from.ensures.cost tells es are)

pub returns-in_err-value-in-Found-clause-not_damaged : goal.returns-in_err-value-in-Found-clause-not_damaged
returns-in_err-value-in-Found-clause-not_damaged g c tells es has =
    let old = g.R.Reads.state c.args.space.now in
    let now = g.R.Reads.state c.find_from.new.space in
    let p = err_from_is_err_and c.from_residual-in_err-value-in-Found.result c.from_residual-in_err-value-in-Found.ensures.1 in
    let f = subst (IsSought old.records c.args.owner es c.args.key c.find_from.new.row) c.in-Found.is (c.in_ok-find_from.ensures.found tells es has.are) in
    let same = reads_records 32 old now c.in_ok-find_from.ensures.at_most in
    let value = has_value old.records now.records f.property (first_property f.after) c.find_from.new.row.rec same f.is f.rec_is in
    rw (p.1, p.2) (c.in_err-value-in-Found.ensures.not_damaged tells f.property.value f.property.blocks value
    (blocks_given old.records now.records c.args.owner es
    f.before f.property f.after same has f.all f.is.blocks))

pub returns-in_err-value-in-Found-clause-at_most : goal.returns-in_err-value-in-Found-clause-at_most
returns-in_err-value-in-Found-clause-at_most g c = reads_then 32 22 54 _ _ _ (omega arith) c.in_ok-find_from.ensures.at_most
    c.in_err-value-in-Found.ensures.at_most

pub returns-in_ok-value-in-Found-clause-met : goal.returns-in_ok-value-in-Found-clause-met
returns-in_ok-value-in-Found-clause-met g c tells =
    let old = g.R.Reads.state c.args.space.now in
    value_found old.records (g.R.Reads.state c.find_from.new.space).records c.args.owner c.args.key c.find_from.new.row c.in_ok-value-in-Found.value
    (reads_records 32 old _ c.in_ok-find_from.ensures.at_most)
    (subst (IsMet old.records c.args.owner c.args.key c.find_from.new.row) c.in-Found.is (c.in_ok-find_from.ensures.met tells))
    (c.in_ok-value-in-Found.ensures.met tells)

pub returns-in_ok-value-in-Found-clause-read : goal.returns-in_ok-value-in-Found-clause-read
returns-in_ok-value-in-Found-clause-read g c tells es are =
    returns-in_ok-value-in-Found-clause-met g c tells ∙ ap (λ z. value_of z c.args.key)
    (properties_read (property_records (g.R.Reads.state c.args.space.now).records) _ es are)

pub returns-in_ok-value-in-Found-clause-cost : goal.returns-in_ok-value-in-Found-clause-cost
returns-in_ok-value-in-Found-clause-cost g c tells es are = reads_then _ _ _ _ _ _ (omega arith) (c.in_ok-find_from.ensures.cost tells es are)
    c.in_ok-value-in-Found.ensures.reads

pub returns-in_ok-value-in-Found-clause-reads : goal.returns-in_ok-value-in-Found-clause-reads
returns-in_ok-value-in-Found-clause-reads g c = reads_then 32 _ _ _ _ _ (omega arith) c.in_ok-find_from.ensures.at_most c.in_ok-value-in-Found.ensures.reads

pub returns-in_ok-value-in-Found-clause-at_most : goal.returns-in_ok-value-in-Found-clause-at_most
returns-in_ok-value-in-Found-clause-at_most g c = reads_then 32 22 54 _ _ _ (omega arith) c.in_ok-find_from.ensures.at_most
    c.in_ok-value-in-Found.ensures.at_most

-- ---- which record is blamed

pub returns-in_err-find_from-clause-damaged : goal.returns-in_err-find_from-clause-damaged
returns-in_err-find_from-clause-damaged g c tells used =
    let old = g.R.Reads.state c.args.space.now in
    same_has (BlamesBroken old.records old.shape) c.from_residual.result c.in_err-find_from.field-0.0 c.from_residual.ensures.1
    (c.in_err-find_from.ensures.damaged tells used)

pub returns-in_err-value-in-Found-clause-damaged : goal.returns-in_err-value-in-Found-clause-damaged
returns-in_err-value-in-Found-clause-damaged g c tells used =
    let old = g.R.Reads.state c.args.space.now in
    let now = g.R.Reads.state c.find_from.new.space in
    let reads = c.in_ok-find_from.ensures.at_most in
    let read = subst (λ (r : Records). IsReadRow r c.find_from.new.row) (sym (reads_records 32 old now reads))
    (subst (IsReadAt old.records c.find_from.new.row) c.in-Found.is (c.in_ok-find_from.ensures.read tells)) in
    same_has (BlamesBroken old.records old.shape) c.from_residual-in_err-value-in-Found.result c.in_err-value-in-Found.field-0.0
    c.from_residual-in_err-value-in-Found.ensures.1
    (text_blames old c.find_from.new.row.id c.in_err-value-in-Found.field-0.0
    (text_fault_same old now (reads_records 32 old now reads) (ap (λ (z : State). z.shape) (reads_same 32 old now reads)) c.find_from.new.row.id
    c.in_err-value-in-Found.field-0.0 (c.in_err-value-in-Found.ensures.damaged tells read)))

pub returns-in_err-value-in-Found-clause-cause : goal.returns-in_err-value-in-Found-clause-cause
returns-in_err-value-in-Found-clause-cause g c =
    cause_passed _ _ _ c.from_residual-in_err-value-in-Found.result c.in_err-value-in-Found.field-0.0 c.in_ok-find_from.ensures.cause.later
    c.in_err-value-in-Found.ensures.cause c.from_residual-in_err-value-in-Found.ensures.1

pub returns-in_err-value-in-Found-clause-onward : goal.returns-in_err-value-in-Found-clause-onward
returns-in_err-value-in-Found-clause-onward g c =
    g.met.R.Reads.further_onward _ _ _ c.in_ok-find_from.ensures.onward c.in_err-value-in-Found.ensures.onward

pub returns-in_ok-value-in-Found-clause-onward : goal.returns-in_ok-value-in-Found-clause-onward
returns-in_ok-value-in-Found-clause-onward g c =
    g.met.R.Reads.further_onward _ _ _ c.in_ok-find_from.ensures.onward c.in_ok-value-in-Found.ensures.onward

pub returns-in_err-find_from-clause-read : goal.returns-in_err-find_from-clause-read
returns-in_err-find_from-clause-read g c _ _ _ = never_ok c.from_residual.result _ _ c.from_residual.ensures.1

pub returns-in_err-find_from-clause-met : goal.returns-in_err-find_from-clause-met
returns-in_err-find_from-clause-met g c _ = never_ok c.from_residual.result _ _ c.from_residual.ensures.1

pub returns-in_err-find_from-clause-kept : goal.returns-in_err-find_from-clause-kept
returns-in_err-find_from-clause-kept g c = never_ok c.from_residual.result _ _ c.from_residual.ensures.1

pub returns-in_err-find_from-clause-cost : goal.returns-in_err-find_from-clause-cost
returns-in_err-find_from-clause-cost g c _ _ _ = never_ok c.from_residual.result _ _ c.from_residual.ensures.1

pub returns-in_err-find_from-clause-reads : goal.returns-in_err-find_from-clause-reads
returns-in_err-find_from-clause-reads g c = never_ok c.from_residual.result _ _ c.from_residual.ensures.1

pub returns-in_err-find_from-clause-onward : goal.returns-in_err-find_from-clause-onward
returns-in_err-find_from-clause-onward g c = search rules

pub returns-in_err-value-in-Found-clause-read : goal.returns-in_err-value-in-Found-clause-read
returns-in_err-value-in-Found-clause-read g c _ _ _ = never_ok c.from_residual-in_err-value-in-Found.result _ _ c.from_residual-in_err-value-in-Found.ensures.1

pub returns-in_err-value-in-Found-clause-met : goal.returns-in_err-value-in-Found-clause-met
returns-in_err-value-in-Found-clause-met g c _ = never_ok c.from_residual-in_err-value-in-Found.result _ _ c.from_residual-in_err-value-in-Found.ensures.1

pub returns-in_err-value-in-Found-clause-kept : goal.returns-in_err-value-in-Found-clause-kept
returns-in_err-value-in-Found-clause-kept g c = never_ok c.from_residual-in_err-value-in-Found.result _ _ c.from_residual-in_err-value-in-Found.ensures.1

pub returns-in_err-value-in-Found-clause-cost : goal.returns-in_err-value-in-Found-clause-cost
returns-in_err-value-in-Found-clause-cost g c _ _ _ = never_ok c.from_residual-in_err-value-in-Found.result _ _ c.from_residual-in_err-value-in-Found.ensures.1

pub returns-in_err-value-in-Found-clause-reads : goal.returns-in_err-value-in-Found-clause-reads
returns-in_err-value-in-Found-clause-reads g c = never_ok c.from_residual-in_err-value-in-Found.result _ _ c.from_residual-in_err-value-in-Found.ensures.1

pub returns-in-Absent-clause-cause : goal.returns-in-Absent-clause-cause
returns-in-Absent-clause-cause g c = ok_cause _ _ _ _ (omega arith)

pub returns-in_ok-value-in-Found-clause-cause : goal.returns-in_ok-value-in-Found-clause-cause
returns-in_ok-value-in-Found-clause-cause g c = ok_cause _ _ _ _ (omega arith)

pub returns-in_err-find_from-clause-cause : goal.returns-in_err-find_from-clause-cause
returns-in_err-find_from-clause-cause g c =
    cause_passed _ _ _ c.from_residual.result c.in_err-find_from.field-0.0 (omega arith) c.in_err-find_from.ensures.cause c.from_residual.ensures.1

pub returns-in_err-find_from-clause-at_most : goal.returns-in_err-find_from-clause-at_most
returns-in_err-find_from-clause-at_most g c = reads_more 32 54 _ _ (omega arith) c.in_err-find_from.ensures.at_most

pub returns-in_err-find_from-clause-not_damaged : goal.returns-in_err-find_from-clause-not_damaged
returns-in_err-find_from-clause-not_damaged g c tells es has =
    same_has (λ fault. IfSome (damage_of fault) (λ _. ⊥)) c.from_residual.result c.in_err-find_from.field-0.0 c.from_residual.ensures.1
    (c.in_err-find_from.ensures.not_damaged tells es has)

pub returns-in-Absent-clause-at_most : goal.returns-in-Absent-clause-at_most
returns-in-Absent-clause-at_most g c = reads_more 32 54 _ _ (omega arith) c.in_ok-find_from.ensures.at_most

pub returns-in-Absent-clause-reads : goal.returns-in-Absent-clause-reads
returns-in-Absent-clause-reads g c = c.in_ok-find_from.ensures.at_most

pub returns-in-Absent-clause-onward : goal.returns-in-Absent-clause-onward
returns-in-Absent-clause-onward g c = c.in_ok-find_from.ensures.onward

pub returns-in_ok-value-in-Found-clause-kept : goal.returns-in_ok-value-in-Found-clause-kept
returns-in_ok-value-in-Found-clause-kept g c = c.in_ok-value-in-Found.ensures.kept
