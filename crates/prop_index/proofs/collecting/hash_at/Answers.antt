use Rattle.std.specs.Prelude.{Result, Ok, Err, IfOk}
use Rattle.std.proofs.Common.{◌≡◌, option_map, ap, sym, ◌∙◌, subst, arith, rules}
use Rattle.std.proofs.lemmas.Bool.{true≢false}
use Rattle.rec_bytes.specs.declared.record.Rec.{Rec}
use Rattle.rec_bytes.specs.Format as format
use Rattle.rec_bytes.specs.Record.{field}
use Rattle.rec_bytes.specs.Space.{State}
use Rattle.store_rules.specs.Hashes.{hash_of}
use Rattle.store_rules.specs.Views.{Records, high, kind_at, rec_at}
use Rattle.store_rules.proofs.ViewLaws.{kind_low}
use Rattle.prop_store.specs.Finding.{value_of}
use Rattle.prop_store.specs.Owner.{HasProperties, IsInUse}
use Rattle.prop_store.specs.Reading.{properties_met}
use Rattle.prop_store.specs.declared.owner.Owner.{Owner}
use Rattle.prop_store.proofs.ReadCounts.{reads_after, reads_none, reads_one, reads_same}
use Rattle.prop_index.specs.Gathering.{node_owner}
use Rattle.rec_bytes.specs.declared.fault.Fault.TheVariants.{Damaged}
use Rattle.prop_index.specs.Blaming.{BlamesBroken}
use Rattle.prop_store.proofs.Exits.{same_has, space_exit, space_has}
use Rattle.prop_index.proofs.Counting.{owner_blames}
use Rattle.prop_index.proofs.IndexBlames.{blames_before, if_err}
use Rattle.prop_index.proofs.Collects.{hash_at-labelled, hash_at-none}
use Rattle.rec_bytes.proofs.Causes.{never_ok, ok_cause}
use Rattle.prop_store.proofs.Causes.{cause_after, space_cause_passed}
use Rattle.prop_index.proofs.Causes.{damage_cause}
use Rattle.prop_index.proofs.collecting.hash_at.Goals as goal

pub returns-clause-found : goal.returns-clause-found
returns-clause-found g c tells low =
    let s = (g.R.Reads.state c.args.space.now).records in
    let rec_is : c.get_into.new.rec ≡ rec_at s format.nodes_file c.args.node = c.in_ok-get_into.ensures.got tells
    ∙ ap (λ (o : Owner). s o.key) c.in_ok-owner.ensures.is in
    sym (hash_at-none s c.args.label c.args.key c.args.node low (λ used is.
    true≢false (sym (c.is_labelled.ensures.1 (
      subst (λ (r : Rec). field 1 r format.kind ≡ format.free_kind → ⊥) (sym rec_is) used,
      ap
          (λ (r : Rec). field 4 r format.node_label) rec_is ∙ is,
    )) ∙ c.if-is_labelled.false)))

on_if : {T E : Type 0} {P Q : T → Type 0} (r : Result T E) → ((x : T) → P x → Q x) → IfOk r P → IfOk r Q
on_if (Ok x) f p = f x p
on_if (Err e) f p = tt

pub returns-then-is_labelled-clause-found : goal.returns-then-is_labelled-clause-found
returns-then-is_labelled-clause-found g c tells low =
    let s = (g.R.Reads.state c.args.space.now).records in
    let rec_is : c.get_into.new.rec ≡ rec_at s format.nodes_file c.args.node = c.in_ok-get_into.ensures.got tells
    ∙ ap (λ (o : Owner). s o.key) c.in_ok-owner.ensures.is in
    let gone : (g.R.Reads.state c.get_into.new.self).records ≡ s = ap (λ (z : State). z.records) c.get_into.ensures.state in
    let both = c.is_labelled.ensures.0 c.if-is_labelled.true in
    let is = hash_at-labelled s c.args.label c.args.key c.args.node low (subst (λ (r : Rec). field 1 r format.kind ≡ format.free_kind → ⊥) rec_is both.0)
    (sym (ap (λ (r : Rec). field 4 r format.node_label) rec_is) ∙ both.1) in
    on_if c.value_hash.result (λ h e. e ∙ (λ i. option_map hash_of (value_of (properties_met (gone i) (c.in_ok-owner.ensures.is i)) c.args.key)) ∙ sym is)
    (c.value_hash.ensures.met tells)

pub returns-then-is_labelled-clause-not_damaged : goal.returns-then-is_labelled-clause-not_damaged
returns-then-is_labelled-clause-not_damaged g c tells low readable =
    let s = (g.R.Reads.state c.args.space.now).records in
    let rec_is : c.get_into.new.rec ≡ rec_at s format.nodes_file c.args.node = c.in_ok-get_into.ensures.got tells
    ∙ ap (λ (o : Owner). s o.key) c.in_ok-owner.ensures.is in
    let gone : (g.R.Reads.state c.get_into.new.self).records ≡ s = ap (λ (z : State). z.records) c.get_into.ensures.state in
    let both = c.is_labelled.ensures.0 c.if-is_labelled.true in
    let used : kind_at s format.nodes_file c.args.node ≡ format.free_kind
    → ⊥ = λ e. both.0 (ap (λ (r : Rec). field 1 r format.kind) rec_is ∙ sym (kind_low (high s format.nodes_file) (rec_at s format.nodes_file c.args.node)
    c.args.node low) ∙ e) in
    let listed = readable.each c.args.node used in
    c.value_hash.ensures.not_damaged tells listed.properties (subst (λ (o : Owner). HasProperties
    (g.R.Reads.state c.get_into.new.self).records o listed.properties)
    (sym c.in_ok-owner.ensures.is)
    (subst (λ (r : Records). HasProperties r (node_owner c.args.node) listed.properties) (sym gone) listed.has))

pub returns-in_err-owner-clause-at_most : goal.returns-in_err-owner-clause-at_most
returns-in_err-owner-clause-at_most g c = reads_none 56 _

pub returns-in_err-get_into-clause-at_most : goal.returns-in_err-get_into-clause-at_most
returns-in_err-get_into-clause-at_most g c = reads_one 56 _ _ (omega arith) c.get_into.ensures.state

pub returns-clause-at_most : goal.returns-clause-at_most
returns-clause-at_most g c = reads_one 56 _ _ (omega arith) c.get_into.ensures.state

pub returns-then-is_labelled-clause-at_most : goal.returns-then-is_labelled-clause-at_most
returns-then-is_labelled-clause-at_most g c = reads_after 55 56 _ _ _ (omega arith) c.get_into.ensures.state c.value_hash.ensures.at_most

pub returns-in_err-owner-clause-damaged : goal.returns-in_err-owner-clause-damaged
returns-in_err-owner-clause-damaged g c tells low =
    let s = g.R.Reads.state c.args.space.now in
    same_has (BlamesBroken s.records s.shape) c.from_residual.result (Damaged c.in_err-owner.field-0.0) c.from_residual.ensures.1
    (owner_blames s c.args.node _ c.in_err-owner.field-0.0 low c.in_err-owner.ensures.damaged)

pub returns-in_err-get_into-clause-damaged : goal.returns-in_err-get_into-clause-damaged
returns-in_err-get_into-clause-damaged g c tells low =
    let s = g.R.Reads.state c.args.space.now in
    space_has (BlamesBroken s.records s.shape) tt tt c.from_residual-in_err-get_into.result c.in_err-get_into.field-0.0
    c.from_residual-in_err-get_into.ensures.1

pub returns-then-is_labelled-clause-damaged : goal.returns-then-is_labelled-clause-damaged
returns-then-is_labelled-clause-damaged g c tells low =
    let t = g.R.Reads.state c.args.space.now in
    let now = g.R.Reads.state c.get_into.new.self in
    let s = t.records in
    let rec_is : c.get_into.new.rec ≡ rec_at s format.nodes_file c.args.node = c.in_ok-get_into.ensures.got tells
    ∙ ap (λ (o : Owner). s o.key) c.in_ok-owner.ensures.is in
    let gone : now.records ≡ s = ap (λ (z : State). z.records) c.get_into.ensures.state in
    let both = c.is_labelled.ensures.0 c.if-is_labelled.true in
    let used : kind_at s format.nodes_file c.args.node ≡ format.free_kind
    → ⊥ = λ e. both.0 (ap (λ (r : Rec). field 1 r format.kind) rec_is ∙ sym (kind_low (high s format.nodes_file) (rec_at s format.nodes_file c.args.node)
    c.args.node low) ∙ e) in
    if_err c.value_hash.result (λ fault is. blames_before t now fault (reads_same 1 t now (reads_one 1 t now (omega arith) c.get_into.ensures.state)) is)
    (c.value_hash.ensures.damaged tells (subst (λ (o : Owner). IsInUse now.records o) (sym c.in_ok-owner.ensures.is)
    (subst (λ (r : Records). IsInUse r (node_owner c.args.node)) (sym gone) used)))

pub returns-in_err-owner-clause-found : goal.returns-in_err-owner-clause-found
returns-in_err-owner-clause-found g c _ _ = never_ok c.from_residual.result _ _ c.from_residual.ensures.1

pub returns-in_err-owner-clause-onward : goal.returns-in_err-owner-clause-onward
returns-in_err-owner-clause-onward g c = search rules

pub returns-in_err-get_into-clause-found : goal.returns-in_err-get_into-clause-found
returns-in_err-get_into-clause-found g c _ _ = never_ok c.from_residual-in_err-get_into.result _ _ c.from_residual-in_err-get_into.ensures.1

pub returns-clause-cause : goal.returns-clause-cause
returns-clause-cause g c = ok_cause _ _ _ _ (omega arith)

pub returns-in_err-owner-clause-cause : goal.returns-in_err-owner-clause-cause
returns-in_err-owner-clause-cause g c = damage_cause _ _ c.from_residual.result c.in_err-owner.field-0.0 (omega arith) c.from_residual.ensures.1

pub returns-in_err-get_into-clause-cause : goal.returns-in_err-get_into-clause-cause
returns-in_err-get_into-clause-cause g c =
    space_cause_passed _ _ _ c.from_residual-in_err-get_into.result c.in_err-get_into.field-0.0 (omega arith) c.in_err-get_into.ensures.cause
    c.from_residual-in_err-get_into.ensures.1

pub returns-in_err-get_into-clause-onward : goal.returns-in_err-get_into-clause-onward
returns-in_err-get_into-clause-onward g c = c.get_into.ensures.onward

pub returns-in_err-get_into-clause-not_damaged : goal.returns-in_err-get_into-clause-not_damaged
returns-in_err-get_into-clause-not_damaged g c tells low readable =
    space_exit c.from_residual-in_err-get_into.result c.in_err-get_into.field-0.0 c.from_residual-in_err-get_into.ensures.1

pub returns-then-is_labelled-clause-cause : goal.returns-then-is_labelled-clause-cause
returns-then-is_labelled-clause-cause g c = cause_after _ _ _ c.value_hash.result c.in_ok-get_into.ensures.cause.later c.value_hash.ensures.cause

pub returns-then-is_labelled-clause-onward : goal.returns-then-is_labelled-clause-onward
returns-then-is_labelled-clause-onward g c = g.met.R.Reads.further_onward _ _ _ c.in_ok-get_into.ensures.onward c.value_hash.ensures.onward

pub returns-clause-onward : goal.returns-clause-onward
returns-clause-onward g c = c.in_ok-get_into.ensures.onward
