use Rattle.std.proofs.Common.{◌≡◌, ◌≢◌, ◌<◌, ap, ◌∙◌, sym, subst, arith, rules}
use Rattle.std.proofs.lemmas.Result.{err_from_is_err_and}
use Rattle.rec_bytes.specs.declared.fault.Fault.TheVariants.{Damaged}
use Rattle.rec_bytes.specs.declared.record.Rec.{Rec}
use Rattle.rec_bytes.specs.Format as format
use Rattle.rec_bytes.specs.Record.{field}
use Rattle.rec_bytes.specs.Space.{State}
use Rattle.store_rules.specs.Indexes.{has_value}
use Rattle.store_rules.specs.Views.{Records, high, kind_at, rec_at}
use Rattle.store_rules.proofs.ViewLaws.{kind_low}
use Rattle.prop_index.specs.Blaming.{BlamesBroken}
use Rattle.prop_store.specs.Finding.{value_of}
use Rattle.prop_store.specs.Owner.{HasProperties, IsInUse}
use Rattle.prop_store.specs.Reading.{properties_met}
use Rattle.prop_store.specs.declared.owner.Owner.{Owner}
use Rattle.prop_store.proofs.Exits.{same_has, space_exit, space_has}
use Rattle.prop_store.proofs.ReadCounts.{reads_after, reads_none, reads_one, reads_same}
use Rattle.prop_index.specs.Gathering.{node_owner}
use Rattle.prop_index.proofs.EntryNodes.{entry_owner_blames, entry_unwanted, in_use}
use Rattle.prop_index.proofs.IndexBlames.{any_read, blames_before}
use Rattle.prop_index.proofs.Values.{value_in-is}
use Rattle.rec_bytes.proofs.Causes.{never_ok, ok_cause}
use Rattle.prop_store.proofs.Causes.{cause_passed, space_cause_passed}
use Rattle.prop_index.proofs.Causes.{damage_cause, told_cause}
use Rattle.prop_index.proofs.holding.holds.Goals as goal

pub returns-in_err-owner-clause-at_most : goal.returns-in_err-owner-clause-at_most
returns-in_err-owner-clause-at_most g c = reads_none 55 _

pub returns-in_err-get_into-clause-at_most : goal.returns-in_err-get_into-clause-at_most
returns-in_err-get_into-clause-at_most g c = reads_one 55 _ _ (omega arith) c.get_into.ensures.state

pub returns-then-byte-eq-FREE-clause-at_most : goal.returns-then-byte-eq-FREE-clause-at_most
returns-then-byte-eq-FREE-clause-at_most g c = reads_one 55 _ _ (omega arith) c.get_into.ensures.state

pub returns-in_err-held-clause-at_most : goal.returns-in_err-held-clause-at_most
returns-in_err-held-clause-at_most g c = reads_after 54 55 _ _ _ (omega arith) c.get_into.ensures.state c.in_err-held.ensures.at_most

pub returns-clause-at_most : goal.returns-clause-at_most
returns-clause-at_most g c = reads_after 54 55 _ _ _ (omega arith) c.get_into.ensures.state c.in_ok-held.ensures.at_most

pub returns-clause-met : goal.returns-clause-met
returns-clause-met g c tells =
    let gone : (g.R.Reads.state c.get_into.new.self).records ≡ (g.R.Reads.state c.args.space.now).records =
    ap (λ (z : State). z.records) c.get_into.ensures.state in
    c.is_value.ensures
    ∙ ap (has_value c.args.value.now) (c.in_ok-held.ensures.met tells ∙ (λ i. value_of (properties_met (gone i) (c.in_ok-owner.ensures.is i)) c.args.key)
    ∙ sym (value_in-is _ c.args.key))

pub returns-then-byte-eq-FREE-clause-not_damaged : goal.returns-then-byte-eq-FREE-clause-not_damaged
returns-then-byte-eq-FREE-clause-not_damaged g c tells listed =
    let s = (g.R.Reads.state c.args.space.now).records in
    let rec_is : c.get_into.new.rec ≡ rec_at s format.nodes_file c.args.node = c.in_ok-get_into.ensures.got tells
    ∙ ap (λ (o : Owner). s o.key) c.in_ok-owner.ensures.is in
    absurd (in_use s c.args.node c.get_into.new.rec rec_is listed.low listed.used (sym c.byte.ensures ∙ c.if-byte-eq-FREE.true))

pub returns-in_err-held-clause-not_damaged : goal.returns-in_err-held-clause-not_damaged
returns-in_err-held-clause-not_damaged g c tells listed =
    let now = g.R.Reads.state c.get_into.new.self in
    let gone : now.records ≡ (g.R.Reads.state c.args.space.now).records = ap (λ (z : State). z.records) c.get_into.ensures.state in
    let p = err_from_is_err_and c.from_residual-in_err-held.result c.from_residual-in_err-held.ensures.1 in
    rw (p.1, p.2) (c.in_err-held.ensures.not_damaged tells listed.properties (subst (λ (o : Owner). HasProperties now.records o listed.properties)
    (sym c.in_ok-owner.ensures.is)
    (subst (λ (r : Records). HasProperties r (node_owner c.args.node) listed.properties) (sym gone) listed.has)))

pub returns-in_err-owner-clause-damaged : goal.returns-in_err-owner-clause-damaged
returns-in_err-owner-clause-damaged g c tells d b count rec met node_is =
    let s = g.R.Reads.state c.args.space.now in
    same_has (BlamesBroken s.records s.shape) c.from_residual.result (Damaged c.in_err-owner.field-0.0) c.from_residual.ensures.1
    (entry_owner_blames s d b count c.args.entry rec met c.args.node node_is c.out_of_range.result c.out_of_range.ensures c.in_err-owner.field-0.0
    c.in_err-owner.ensures.damaged)

pub returns-in_err-get_into-clause-damaged : goal.returns-in_err-get_into-clause-damaged
returns-in_err-get_into-clause-damaged g c tells d b count rec met node_is =
    let s = g.R.Reads.state c.args.space.now in
    space_has (BlamesBroken s.records s.shape) tt tt c.from_residual-in_err-get_into.result c.in_err-get_into.field-0.0
    c.from_residual-in_err-get_into.ensures.1

pub returns-then-byte-eq-FREE-clause-damaged : goal.returns-then-byte-eq-FREE-clause-damaged
returns-then-byte-eq-FREE-clause-damaged g c tells d b count rec met node_is =
    let s = g.R.Reads.state c.args.space.now in
    let rec_is : c.get_into.new.rec ≡ rec_at s.records format.nodes_file c.args.node = c.in_ok-get_into.ensures.got tells
    ∙ ap (λ (o : Owner). s.records o.key) c.in_ok-owner.ensures.is in
    subst (BlamesBroken s.records s.shape) (sym c.damaged.ensures) (entry_unwanted s d b count c.args.entry rec met c.args.node node_is
    (ap (λ (r : Rec). field 1 r format.kind) (sym rec_is) ∙ sym c.byte.ensures ∙ c.if-byte-eq-FREE.true))

pub returns-in_err-held-clause-damaged : goal.returns-in_err-held-clause-damaged
returns-in_err-held-clause-damaged g c tells d b count rec met node_is =
    let s = g.R.Reads.state c.args.space.now in
    let now = g.R.Reads.state c.get_into.new.self in
    let gone : now.records ≡ s.records = ap (λ (z : State). z.records) c.get_into.ensures.state in
    let rec_is : c.get_into.new.rec ≡ rec_at s.records format.nodes_file c.args.node = c.in_ok-get_into.ensures.got tells
    ∙ ap (λ (o : Owner). s.records o.key) c.in_ok-owner.ensures.is in
    let low : c.args.node < high s.records format.nodes_file = c.in_ok-owner.ensures.low in
    let used : kind_at s.records format.nodes_file c.args.node ≢ format.free_kind = λ e.
    c.if-byte-eq-FREE.false (c.byte.ensures ∙ ap (λ (r : Rec). field 1 r format.kind) rec_is ∙ sym (kind_low (high s.records format.nodes_file)
    (rec_at s.records format.nodes_file c.args.node) c.args.node low) ∙ e) in
    same_has (BlamesBroken s.records s.shape) c.from_residual-in_err-held.result c.in_err-held.field-0.0 c.from_residual-in_err-held.ensures.1
    (blames_before s now c.in_err-held.field-0.0 (reads_same 1 s now (reads_one 1 s now (omega arith) c.get_into.ensures.state))
    (any_read now.records now.shape c.in_err-held.field-0.0 (c.in_err-held.ensures.damaged tells (subst (λ (o : Owner). IsInUse now.records o)
    (sym c.in_ok-owner.ensures.is) (subst (λ (r : Records). IsInUse r (node_owner c.args.node)) (sym gone) used)))))

pub returns-in_err-owner-clause-met : goal.returns-in_err-owner-clause-met
returns-in_err-owner-clause-met g c _ = never_ok c.from_residual.result _ _ c.from_residual.ensures.1

pub returns-in_err-owner-clause-onward : goal.returns-in_err-owner-clause-onward
returns-in_err-owner-clause-onward g c = search rules

pub returns-in_err-get_into-clause-met : goal.returns-in_err-get_into-clause-met
returns-in_err-get_into-clause-met g c _ = never_ok c.from_residual-in_err-get_into.result _ _ c.from_residual-in_err-get_into.ensures.1

pub returns-in_err-held-clause-met : goal.returns-in_err-held-clause-met
returns-in_err-held-clause-met g c _ = never_ok c.from_residual-in_err-held.result _ _ c.from_residual-in_err-held.ensures.1

pub returns-clause-cause : goal.returns-clause-cause
returns-clause-cause g c = ok_cause _ _ _ _ (omega arith)

pub returns-in_err-owner-clause-cause : goal.returns-in_err-owner-clause-cause
returns-in_err-owner-clause-cause g c = damage_cause _ _ c.from_residual.result c.in_err-owner.field-0.0 (omega arith) c.from_residual.ensures.1

pub returns-in_err-get_into-clause-cause : goal.returns-in_err-get_into-clause-cause
returns-in_err-get_into-clause-cause g c =
    space_cause_passed _ _ _ c.from_residual-in_err-get_into.result c.in_err-get_into.field-0.0 (omega arith) c.in_err-get_into.ensures.cause
    c.from_residual-in_err-get_into.ensures.1

pub returns-in_err-get_into-clause-onward : goal.returns-in_err-get_into-clause-onward
returns-in_err-get_into-clause-onward g c = c.get_into.ensures.onward

pub returns-in_err-get_into-clause-not_damaged : goal.returns-in_err-get_into-clause-not_damaged
returns-in_err-get_into-clause-not_damaged g c tells listed =
    space_exit c.from_residual-in_err-get_into.result c.in_err-get_into.field-0.0 c.from_residual-in_err-get_into.ensures.1

pub returns-in_err-held-clause-cause : goal.returns-in_err-held-clause-cause
returns-in_err-held-clause-cause g c =
    cause_passed _ _ _ c.from_residual-in_err-held.result c.in_err-held.field-0.0 c.in_ok-get_into.ensures.cause.later c.in_err-held.ensures.cause
    c.from_residual-in_err-held.ensures.1

pub returns-in_err-held-clause-onward : goal.returns-in_err-held-clause-onward
returns-in_err-held-clause-onward g c = g.met.R.Reads.further_onward _ _ _ c.in_ok-get_into.ensures.onward c.in_err-held.ensures.onward

pub returns-then-byte-eq-FREE-clause-cause : goal.returns-then-byte-eq-FREE-clause-cause
returns-then-byte-eq-FREE-clause-cause g c = told_cause _ _ _ _ c.in_ok-get_into.ensures.cause.later c.damaged.ensures

pub returns-then-byte-eq-FREE-clause-onward : goal.returns-then-byte-eq-FREE-clause-onward
returns-then-byte-eq-FREE-clause-onward g c = c.in_ok-get_into.ensures.onward

pub returns-clause-onward : goal.returns-clause-onward
returns-clause-onward g c = g.met.R.Reads.further_onward _ _ _ c.in_ok-get_into.ensures.onward c.in_ok-held.ensures.onward
