use Rattle.std.proofs.Common.{length, zero-add, arith, ap, sym, ◌∙◌, ◌≡◌, ◌≢◌, ◌<◌, ℕ, refl, inl, inr, subst, length-append}
use Rattle.std.proofs.lemmas.Result.{err_from_is_err_and}
use Rattle.rec_bytes.specs.Format.{free_kind, most_ids, properties_file, property_key, property_next}
use Rattle.rec_bytes.specs.Record.{field}
use Rattle.store_rules.specs.Properties.{property_records}
use Rattle.rec_bytes.specs.Space.{State}
use Rattle.store_rules.specs.Views.{Records, kind_at, rec_at}
use Rattle.prop_store.specs.Link.{IsLink, IsLinkOf, link_of, next_link}
use Rattle.prop_store.specs.Fault.{BlamesBroken}
use Rattle.prop_store.specs.Finding.{property_of}
use Rattle.prop_store.specs.PropertyRow.{IsReadRow, IsRow}
use Rattle.prop_store.specs.declared.link.Link.{Link}
use Rattle.prop_store.proofs.Ahead.{ahead, ahead_none, ahead_over, all_passed, met_here, passed_by, passed_one}
use Rattle.prop_store.proofs.Breaches.{reached_first, reached_next, row_blames, row_fault_same, too_many}
use Rattle.prop_store.proofs.Exits.{same_has}
use Rattle.prop_store.proofs.ElementSteps.{meta_of_element}
use Rattle.prop_store.proofs.Keys.{absent_key, found_here, keys_passed, link_after-one}
use Rattle.prop_store.proofs.OwnerPlaces.{place_behind, place_within}
use Rattle.prop_store.proofs.ReadCounts.{reads_more, reads_none, reads_records, reads_same, reads_then}
use Rattle.prop_store.proofs.WalkSteps.{fewer_passed, right_property, walk_after, walk_begins, walk_here, walk_over}
use Rattle.prop_store.proofs.Causes.{cause_passed}
use Rattle.rec_bytes.proofs.Causes.{never_ok, ok_cause}
use Rattle.prop_store.proofs.finding.find_from.Goals as goal

pub loop-count-init : goal.loop-count-init
loop-count-init g c = record {
  told = λ tells es are. walk_begins _ _ _ es _ (c.requires.first tells) are (c.of-link.ensures, λ i. i);
  met = λ tells. ap (λ z. property_of (ahead (g.R.Reads.state c.args.space.now).records z 0) c.args.key) (c.requires.first tells);
  passed = λ tells. zero-add _ ∙ ap (λ z. length (ahead (g.R.Reads.state c.args.space.now).records z 0)) (c.requires.first tells);
  reached = λ tells. reached_first (g.R.Reads.state c.args.space.now).records c.args.owner c.of-link.result.key c.args.first
      (ap (λ (z : Link). z.key) c.of-link.ensures) (c.requires.first tells);
  link = subst IsLink (sym c.of-link.ensures) (record {
    key = c.requires.owner.key;
    own = meta_of_element c.args.owner.key.file c.requires.owner.file;
    behind = place_behind c.args.owner c.requires.owner;
    place =
        place_within c.args.owner c.requires.owner;
  });
  from = subst (IsLinkOf c.args.owner) (sym c.of-link.ensures) (inl refl);
  reads = reads_none _ _;
  onward = g.met.R.Reads.stays_onward _;
  later = omega arith;
}

pub returns-then-at-clause-met : goal.returns-then-at-clause-met
returns-then-at-clause-met g c tells =
    let old = g.R.Reads.state c.args.space.now in
    let none = ahead_none old.records c.loop-count.at c.loop-count.count c.if-at.true in (
      sym (c.loop-count.invariant.met tells) ∙ ap (λ es. property_of es c.args.key) none,
      all_passed c.loop-count.count (ahead old.records c.loop-count.at
          c.loop-count.count) none ∙ c.loop-count.invariant.passed tells,
    )

pub returns-then-at-clause-found : goal.returns-then-at-clause-found
returns-then-at-clause-found g c tells es are =
    let over = walk_over _ es _ _ _ c.if-at.true (c.loop-count.invariant.told tells es are) in
    (over.count_is, absent_key es c.args.key over.kept.1)

pub returns-in_err-property_at-clause-not_damaged : goal.returns-in_err-property_at-clause-not_damaged
returns-in_err-property_at-clause-not_damaged g c tells es has =
    let old = g.R.Reads.state c.args.space.now in
    let now = g.R.Reads.state c.loop-count.space in
    let p = err_from_is_err_and c.from_residual.result c.from_residual.ensures.1 in
    let here = walk_here _ es _ _ _ c.if-at.false (c.loop-count.invariant.told tells es has.are) in
    let right = right_property old.records now.records c.args.owner es c.loop-count.at c.loop-count.count _
    (reads_records _ old now c.loop-count.invariant.reads) has here in
    rw (p.1, p.2) (c.in_err-property_at.ensures.not_damaged tells right.0 right.1)

pub returns-in_err-property_at-clause-at_most : goal.returns-in_err-property_at-clause-at_most
returns-in_err-property_at-clause-at_most g c = reads_then _ 1 32 _ _ _ (omega arith) c.loop-count.invariant.reads c.in_err-property_at.ensures.at_most

pub returns-then-number-key-clause-found : goal.returns-then-number-key-clause-found
returns-then-number-key-clause-found g c tells es are =
    let old = g.R.Reads.state c.args.space.now in
    let now = g.R.Reads.state c.loop-count.space in
    let here = walk_here _ es _ _ _ c.if-at.false (c.loop-count.invariant.told tells es are) in
    let rec_is = c.in_ok-property_at.ensures.got tells ∙ ap (λ r. rec_at r properties_file c.loop-count.at)
    (reads_records _ old now c.loop-count.invariant.reads) in
    found_here old.records c.args.owner es c.loop-count.at c.loop-count.count c.args.key c.loop-count.link _ here c.in_ok-property_at.ensures.row.id_is rec_is
    (sym c.number.ensures ∙ c.if-number-key.true)

pub returns-then-number-key-clause-met : goal.returns-then-number-key-clause-met
returns-then-number-key-clause-met g c tells =
    let old = g.R.Reads.state c.args.space.now in
    let now = g.R.Reads.state c.loop-count.space in
    let rec_is = c.in_ok-property_at.ensures.got tells ∙ ap (λ r. rec_at r properties_file c.loop-count.at)
    (reads_records _ old now c.loop-count.invariant.reads) in
    met_here old.records c.args.owner c.args.key c.loop-count.at c.loop-count.count _ c.if-at.false (omega arith) c.in_ok-property_at.ensures.row.id_is rec_is
    (sym c.number.ensures ∙ c.if-number-key.true) (c.loop-count.invariant.met tells)

pub returns-then-number-key-clause-cost : goal.returns-then-number-key-clause-cost
returns-then-number-key-clause-cost g c tells es are =
    let here = walk_here _ es _ _ _ c.if-at.false (c.loop-count.invariant.told tells es are) in
    let few = fewer_passed _ es _ _ _ here in
    reads_then _ 1 _ _ _ _ (omega arith) c.loop-count.invariant.reads c.in_ok-property_at.ensures.at_most

pub returns-then-number-key-clause-at_most : goal.returns-then-number-key-clause-at_most
returns-then-number-key-clause-at_most g c = reads_then _ 1 32 _ _ _ (omega arith) c.loop-count.invariant.reads c.in_ok-property_at.ensures.at_most

pub loop-count-preserved : goal.loop-count-preserved
loop-count-preserved g c =
    let old = g.R.Reads.state c.args.space.now in
    let now = g.R.Reads.state c.loop-count.space in
    record {
      told = λ tells es are.
          let here = walk_here _ es _ _ _ c.if-at.false (c.loop-count.invariant.told tells es are) in
          let rec_is = c.in_ok-property_at.ensures.got tells ∙ ap (λ r. rec_at r properties_file c.loop-count.at)
          (reads_records _ old now c.loop-count.invariant.reads) in
          let its : here.property.key ≡ field 4 c.property_at.new.row.rec property_key = sym here.is.key
          ∙ ap (λ r. field 4 r property_key) (ap (rec_at old.records properties_file) (sym here.at_is) ∙ sym rec_is) in
          walk_after (property_records old.records) es c.loop-count.at c.loop-count.count _ _ here c.property_at.new.row.rec c.number-at.result rec_is
          c.number-at.ensures (
            c.after-link.ensures ∙ ap next_link here.at_is ∙ sym (link_after-one (link_of c.args.owner) here.passed here.property),
            keys_passed here.passed
                here.property c.args.key here.kept.1 (λ e. c.if-number-key.false (c.number.ensures ∙ sym its ∙ e)),
          );
      met = λ tells.
          passed_by old.records c.args.key c.loop-count.at c.loop-count.count c.number-at.result c.property_at.new.row.rec _ c.if-at.false (omega arith)
          (c.in_ok-property_at.ensures.got tells ∙ ap (λ r. rec_at r properties_file c.loop-count.at) (reads_records _ old now c.loop-count.invariant.reads))
          c.number-at.ensures
          (λ e. c.if-number-key.false (c.number.ensures ∙ e)) (c.loop-count.invariant.met tells);
      passed = λ tells.
          passed_one old.records c.loop-count.at c.loop-count.count c.number-at.result c.property_at.new.row.rec c.if-at.false (omega arith)
          (c.in_ok-property_at.ensures.got tells ∙ ap (λ r. rec_at r properties_file c.loop-count.at) (reads_records _ old now c.loop-count.invariant.reads))
          c.number-at.ensures ∙ c.loop-count.invariant.passed tells;
      reached = λ tells.
          let same = reads_records _ old now c.loop-count.invariant.reads in
          let rec_is = c.in_ok-property_at.ensures.got tells ∙ ap (λ r. rec_at r properties_file c.loop-count.at) same in
          reached_next old.records c.args.owner c.loop-count.link.key c.after-link.result.key c.loop-count.at c.loop-count.count c.number-at.result
          (c.loop-count.invariant.reached tells) c.if-at.false
          (subst (λ (z : ℕ). kind_at old.records properties_file z ≢ free_kind) c.in_ok-property_at.ensures.row.id_is
          (subst (λ (r : Records). kind_at r properties_file c.property_at.new.row.id ≢ free_kind) same (c.in_ok-property_at.ensures.read tells).used))
          (c.number-at.ensures ∙ ap (λ r. field 4 r property_next) rec_is) (ap (λ (z : Link). z.key) c.after-link.ensures);
      link = subst IsLink (sym c.after-link.ensures) (record {
        key = record {
          file = refl;
          id = subst (λ z. z < most_ids) c.in_ok-property_at.ensures.row.id_is
              c.in_ok-property_at.ensures.row.small;
        };
        own = refl;
        behind = omega arith;
        place = omega arith;
      });
      from = subst (IsLinkOf c.args.owner) (sym c.after-link.ensures) (inr refl);
      reads = reads_then _ 1 _ _ _ _ (omega arith) c.loop-count.invariant.reads c.in_ok-property_at.ensures.at_most;
      onward = g.met.R.Reads.further_onward _ _ _ c.loop-count.invariant.onward c.in_ok-property_at.ensures.onward;
      later = omega (arith, c.loop-count.invariant.later, c.in_ok-property_at.ensures.cause.later);
    }

pub returns-clause-found : goal.returns-clause-found
returns-clause-found g c tells es are =
    let none : c.loop-count.at ≡ 4294967295 = c.if-at-2.false in
    let over = walk_over _ es _ _ _ none (c.loop-count.invariant.told tells es are) in
    let count = over.count_is in
    (omega arith, absent_key es c.args.key over.kept.1)

pub returns-clause-met : goal.returns-clause-met
returns-clause-met g c tells =
    let old = g.R.Reads.state c.args.space.now in
    let none = ahead_over old.records c.loop-count.at c.loop-count.count (omega arith) in
    let all : 32 ≡ c.loop-count.count = omega (arith, c.loop-count.auto.count-end) in (
      sym (c.loop-count.invariant.met tells) ∙ ap (λ es. property_of es c.args.key) none,
      all ∙ all_passed c.loop-count.count (ahead old.records c.loop-count.at
          c.loop-count.count) none ∙ c.loop-count.invariant.passed tells,
    )

-- ---- which record is blamed

pub returns-in_err-property_at-clause-damaged : goal.returns-in_err-property_at-clause-damaged
returns-in_err-property_at-clause-damaged g c tells used =
    let old = g.R.Reads.state c.args.space.now in
    let now = g.R.Reads.state c.loop-count.space in
    let reads = c.loop-count.invariant.reads in
    same_has (BlamesBroken old.records old.shape) c.from_residual.result c.in_err-property_at.field-0.0 c.from_residual.ensures.1
    (row_blames old c.args.owner c.requires.owner used c.loop-count.link.key c.loop-count.at c.loop-count.count (c.loop-count.invariant.reached tells)
    c.if-at.false c.in_err-property_at.field-0.0
    (row_fault_same old now (reads_records _ old now reads) (ap (λ (z : State). z.shape) (reads_same _ old now reads)) c.args.owner.key c.loop-count.link.key
    c.loop-count.at c.in_err-property_at.field-0.0 (c.in_err-property_at.ensures.damaged tells)))

pub returns-then-number-key-clause-read : goal.returns-then-number-key-clause-read
returns-then-number-key-clause-read g c tells =
    subst (λ (r : Records). IsReadRow r c.property_at.new.row) (reads_records _ (g.R.Reads.state c.args.space.now) (g.R.Reads.state c.loop-count.space)
    c.loop-count.invariant.reads) (c.in_ok-property_at.ensures.read tells)

pub returns-then-at-2-clause-damaged : goal.returns-then-at-2-clause-damaged
returns-then-at-2-clause-damaged g c tells used =
    let old = g.R.Reads.state c.args.space.now in
    subst (BlamesBroken old.records old.shape) (sym c.damaged.ensures)
    (too_many old c.args.owner c.requires.owner used c.loop-count.link.key c.loop-count.at c.loop-count.count (c.loop-count.invariant.reached tells)
    c.if-at-2.true (omega arith))

pub returns-in_err-property_at-clause-cause : goal.returns-in_err-property_at-clause-cause
returns-in_err-property_at-clause-cause g c =
    cause_passed _ _ _ c.from_residual.result c.in_err-property_at.field-0.0 c.loop-count.invariant.later c.in_err-property_at.ensures.cause
    c.from_residual.ensures.1

pub returns-in_err-property_at-clause-onward : goal.returns-in_err-property_at-clause-onward
returns-in_err-property_at-clause-onward g c =
    g.met.R.Reads.further_onward _ _ _ c.loop-count.invariant.onward c.in_err-property_at.ensures.onward

pub returns-then-at-clause-cause : goal.returns-then-at-clause-cause
returns-then-at-clause-cause g c = ok_cause _ _ _ _ (omega arith)

pub returns-in_err-property_at-clause-found : goal.returns-in_err-property_at-clause-found
returns-in_err-property_at-clause-found g c _ _ _ = never_ok c.from_residual.result _ _ c.from_residual.ensures.1

pub returns-in_err-property_at-clause-met : goal.returns-in_err-property_at-clause-met
returns-in_err-property_at-clause-met g c _ = never_ok c.from_residual.result _ _ c.from_residual.ensures.1

pub returns-in_err-property_at-clause-read : goal.returns-in_err-property_at-clause-read
returns-in_err-property_at-clause-read g c _ = never_ok c.from_residual.result _ _ c.from_residual.ensures.1

pub returns-in_err-property_at-clause-placed : goal.returns-in_err-property_at-clause-placed
returns-in_err-property_at-clause-placed g c = never_ok c.from_residual.result _ _ c.from_residual.ensures.1

pub returns-in_err-property_at-clause-cost : goal.returns-in_err-property_at-clause-cost
returns-in_err-property_at-clause-cost g c _ _ _ = never_ok c.from_residual.result _ _ c.from_residual.ensures.1

pub returns-then-number-key-clause-cause : goal.returns-then-number-key-clause-cause
returns-then-number-key-clause-cause g c = ok_cause _ _ _ _ (omega arith)

pub returns-clause-cause : goal.returns-clause-cause
returns-clause-cause g c = ok_cause _ _ _ _ (omega arith)

pub returns-then-at-clause-onward : goal.returns-then-at-clause-onward
returns-then-at-clause-onward g c = c.loop-count.invariant.onward

pub returns-then-at-2-clause-onward : goal.returns-then-at-2-clause-onward
returns-then-at-2-clause-onward g c = c.loop-count.invariant.onward

pub returns-clause-onward : goal.returns-clause-onward
returns-clause-onward g c = c.loop-count.invariant.onward

pub returns-then-number-key-clause-onward : goal.returns-then-number-key-clause-onward
returns-then-number-key-clause-onward g c = g.met.R.Reads.further_onward _ _ _ c.loop-count.invariant.onward c.in_ok-property_at.ensures.onward

pub returns-then-at-clause-at_most : goal.returns-then-at-clause-at_most
returns-then-at-clause-at_most g c = reads_more _ 32 _ _ (omega arith) c.loop-count.invariant.reads

pub returns-then-at-2-clause-at_most : goal.returns-then-at-2-clause-at_most
returns-then-at-2-clause-at_most g c = reads_more _ 32 _ _ (omega arith) c.loop-count.invariant.reads

pub returns-clause-at_most : goal.returns-clause-at_most
returns-clause-at_most g c = reads_more _ 32 _ _ (omega arith) c.loop-count.invariant.reads

pub returns-then-at-clause-cost : goal.returns-then-at-clause-cost
returns-then-at-clause-cost g c tells es are =
    let told = c.loop-count.invariant.told tells es are in
    reads_more _ _ _ _ (omega (arith, told.count_is, ap length told.all, length-append told.passed told.left)) c.loop-count.invariant.reads

pub returns-clause-cost : goal.returns-clause-cost
returns-clause-cost g c tells es are =
    let told = c.loop-count.invariant.told tells es are in
    reads_more _ _ _ _ (omega (arith, told.count_is, ap length told.all, length-append told.passed told.left)) c.loop-count.invariant.reads

pub returns-then-number-key-clause-placed : goal.returns-then-number-key-clause-placed
returns-then-number-key-clause-placed g c = record {
  links = c.loop-count.invariant.link;
  from = c.loop-count.invariant.from;
  is_row = subst (λ (id : ℕ). IsRow id c.property_at.new.row) (sym c.in_ok-property_at.ensures.row.id_is) c.in_ok-property_at.ensures.row;
  key_is = sym c.number.ensures ∙ c.if-number-key.true;
}
