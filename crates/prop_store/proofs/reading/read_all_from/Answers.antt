use Rattle.std.specs.Prelude.{All}
use Rattle.std.proofs.Common.{arith, ap, sym, subst, ◌∙◌, ◌≡◌, ◌≢◌, ◌+◌, ◌++◌, ℕ, List, inl, inr, length, map, refl}
use Rattle.std.proofs.lemmas.List.{length_push}
use Rattle.std.proofs.lemmas.List.Elements.{All-push}
use Rattle.std.proofs.lemmas.Result.{err_from_is_err_and}
use Rattle.plain_graph.specs.Forms.{IsKept}
use Rattle.plain_graph.specs.Properties.{blocks_of}
use Rattle.rec_bytes.specs.Format.{free_kind, properties_file, property_next, strings_file}
use Rattle.rec_bytes.specs.Record.{field}
use Rattle.rec_bytes.specs.Space.{State}
use Rattle.store_rules.specs.Properties.{content_of, first_property, property_records, value_from}
use Rattle.store_rules.specs.Views.{Records, kind_at, rec_at}
use Rattle.store_rules.proofs.PropertyLists.{properties_read}
use Rattle.prop_store.specs.Fault.{BlamesBroken}
use Rattle.prop_store.specs.PropertyRow.{IsReadRow}
use Rattle.prop_store.specs.Reading.{block_total, prop_of}
use Rattle.prop_store.specs.declared.prop.Prop.{Prop}
use Rattle.prop_store.proofs.Ahead.{ahead, all_answered, answered_one}
use Rattle.prop_store.proofs.Answered.{block_total-one, few_blocks}
use Rattle.prop_store.proofs.Breaches.{reached_first, reached_next, row_blames, row_fault_same, text_blames, text_fault_same, too_many}
use Rattle.prop_store.proofs.Exits.{same_has}
use Rattle.prop_store.proofs.ReadCounts.{reads_more, reads_none, reads_records, reads_same, reads_then}
use Rattle.prop_store.proofs.WalkSteps.{blocks_given, has_value, right_property, walk_after, walk_begins, walk_here}
use Rattle.prop_store.proofs.Causes.{cause_passed, memory_cause}
use Rattle.rec_bytes.proofs.Causes.{never_ok, ok_cause}
use Rattle.std.specs.Prelude.{IfSome}
use Rattle.rec_bytes.specs.Fault.{damage_of}
use Rattle.rec_bytes.specs.declared.fault.Fault.TheVariants as faults
use Rattle.prop_store.proofs.reading.read_all_from.Goals as goal

pub loop-init : goal.loop-init
loop-init g c =
    let none = c.new-props.ensures.items in
    let no_length : length c.new-props.result.items ≡ 0 = ap (λ (z : List Prop). length z) none in
    let no_blocks : block_total c.new-props.result.items ≡ 0 = ap block_total none in
    record {
      told = λ tells es are. walk_begins _ _ _ es _ (c.requires.first tells) are tt;
      met = λ tells.
          let old = g.R.Reads.state c.args.space.now in
          ap (λ (z : List Prop). z ++ map prop_of (ahead old.records c.args.first 0)) none
          ∙ ap (λ z. map prop_of (ahead old.records z 0)) (c.requires.first tells);
      reached = λ tells. reached_first (g.R.Reads.state c.args.space.now).records c.args.owner c.args.owner.key c.args.first refl (c.requires.first tells);
      count = no_length;
      few = omega arith;
      kept = subst (All (λ (p : Prop). IsKept p.value)) (sym none) (λ k d lt. absurd (omega (arith, lt)));
      reads = reads_none _ _;
      onward = g.met.R.Reads.stays_onward _;
      later = omega arith;
    }

pub returns-in_err-property_at-clause-not_damaged : goal.returns-in_err-property_at-clause-not_damaged
returns-in_err-property_at-clause-not_damaged g c tells es has =
    let old = g.R.Reads.state c.args.space.now in
    let now = g.R.Reads.state c.loop.space in
    let p = err_from_is_err_and c.from_residual.result c.from_residual.ensures.1 in
    let here = walk_here _ es _ _ _ c.if-at.false (c.loop.invariant.told tells es has.are) in
    let right = right_property old.records now.records c.args.owner es c.loop.at c.loop.counter _ (reads_records _ old now c.loop.invariant.reads) has here in
    rw (p.1, p.2) (c.in_err-property_at.ensures.not_damaged tells right.0 right.1)

pub returns-in_err-property_at-clause-at_most : goal.returns-in_err-property_at-clause-at_most
returns-in_err-property_at-clause-at_most g c = reads_then _ 1 736 _ _ _ (omega (arith, c.loop.invariant.few, c.loop.invariant.count)) c.loop.invariant.reads
    c.in_err-property_at.ensures.at_most

pub returns-in_err-value-clause-not_damaged : goal.returns-in_err-value-clause-not_damaged
returns-in_err-value-clause-not_damaged g c tells es has =
    let old = g.R.Reads.state c.args.space.now in
    let now = g.R.Reads.state c.loop.space in
    let then = g.R.Reads.state c.property_at.new.space in
    let p = err_from_is_err_and c.from_residual-in_err-value.result c.from_residual-in_err-value.ensures.1 in
    let here = walk_here _ es _ _ _ c.if-at.false (c.loop.invariant.told tells es has.are) in
    let same = reads_records _ old now c.loop.invariant.reads in
    let same_then = reads_records 1 now then c.in_ok-property_at.ensures.at_most ∙ same in
    let rec_is = c.in_ok-property_at.ensures.got tells ∙ ap (λ r. rec_at r properties_file c.loop.at) same
    ∙ ap (rec_at old.records properties_file) here.at_is in
    let value = has_value old.records then.records here.property (first_property here.later) c.property_at.new.row.rec same_then here.is rec_is in
    rw (p.1, p.2) (c.in_err-value.ensures.not_damaged tells here.property.value here.property.blocks value
    (blocks_given old.records then.records c.args.owner es
    here.passed here.property here.later same_then has here.all here.is.blocks))

pub returns-in_err-value-clause-at_most : goal.returns-in_err-value-clause-at_most
returns-in_err-value-clause-at_most g c =
    reads_then (1 + length c.loop.props.items + block_total c.loop.props.items) 22 736 _ _ _ (omega (arith, c.loop.invariant.few, c.loop.invariant.count))
    (reads_then _ 1 (1 + length c.loop.props.items + block_total c.loop.props.items) _ _ _ (omega arith) c.loop.invariant.reads
    c.in_ok-property_at.ensures.at_most) c.in_err-value.ensures.at_most

pub returns-in_err-push-clause-at_most : goal.returns-in_err-push-clause-at_most
returns-in_err-push-clause-at_most g c =
    reads_then (1 + length c.loop.props.items + block_total c.loop.props.items) 22 736 _ _ _ (omega (arith, c.loop.invariant.few, c.loop.invariant.count))
    (reads_then _ 1 (1 + length c.loop.props.items + block_total c.loop.props.items) _ _ _ (omega arith) c.loop.invariant.reads
    c.in_ok-property_at.ensures.at_most) c.in_ok-value.ensures.at_most

pub loop-preserved : goal.loop-preserved
loop-preserved g c =
    let old = g.R.Reads.state c.args.space.now in
    let now = g.R.Reads.state c.loop.space in
    let then = g.R.Reads.state c.property_at.new.space in
    let props = c.loop.props.items in
    let prop : Prop = record { key = c.number-key.result; value = c.in_ok-value.value } in
    let pushed = c.in_ok-push.ensures.items in
    let more : length c.push.new.self.items ≡ length props + 1 = ap (λ (z : List Prop). length z) pushed ∙ length_push props prop in
    let total = block_total-one props c.push.new.self.items prop pushed in
    let few = few_blocks c.in_ok-value.value c.in_ok-value.ensures.kept in
    let same = reads_records _ old now c.loop.invariant.reads in
    record {
      told = λ tells es are.
          let here = walk_here _ es _ _ _ c.if-at.false (c.loop.invariant.told tells es are) in
          let got = c.in_ok-property_at.ensures.got tells ∙ ap (λ r. rec_at r properties_file c.loop.at) same in
          walk_after (property_records old.records) es c.loop.at c.loop.counter _ _ here c.property_at.new.row.rec c.number-at.result got c.number-at.ensures
          tt;
      met = λ tells.
          answered_one old.records props c.push.new.self.items _ c.loop.at c.loop.counter c.number-at.result c.number-key.result c.property_at.new.row.rec
          c.in_ok-value.value pushed c.if-at.false (omega arith)
          (c.in_ok-property_at.ensures.got tells ∙ ap (λ r. rec_at r properties_file c.loop.at) same) c.number-at.ensures c.number-key.ensures
          (c.in_ok-value.ensures.met tells ∙ ap (λ r. value_from (rec_at r strings_file) (content_of c.property_at.new.row.rec))
          (reads_records 1 now then c.in_ok-property_at.ensures.at_most ∙ same)) (c.loop.invariant.met tells);
      reached = λ tells.
          let got = c.in_ok-property_at.ensures.got tells ∙ ap (λ r. rec_at r properties_file c.loop.at) same in
          reached_next old.records c.args.owner c.loop.from _ c.loop.at c.loop.counter c.number-at.result (c.loop.invariant.reached tells) c.if-at.false
          (subst (λ (z : ℕ). kind_at old.records properties_file z ≢ free_kind) c.in_ok-property_at.ensures.row.id_is
          (subst (λ (r : Records). kind_at r properties_file c.property_at.new.row.id ≢ free_kind) same (c.in_ok-property_at.ensures.read tells).used))
          (c.number-at.ensures ∙ ap (λ r. field 4 r property_next) got) refl;
      count = omega (arith, more, c.loop.invariant.count);
      few = omega (arith, total, few, c.loop.invariant.few);
      kept = subst (All (λ (p : Prop). IsKept p.value)) (sym pushed) (All-push (λ (p : Prop). IsKept p.value) props prop c.loop.invariant.kept
          c.in_ok-value.ensures.kept);
      reads = reads_then (1 + length props + block_total props) (blocks_of c.in_ok-value.value) _ _ _ _ (omega (arith, more, total))
          (reads_then _ 1 (1 + length c.loop.props.items + block_total c.loop.props.items) _ _ _ (omega arith) c.loop.invariant.reads
          c.in_ok-property_at.ensures.at_most) c.in_ok-value.ensures.reads;
      onward = g.met.R.Reads.further_onward _ _ _ (g.met.R.Reads.further_onward _ _ _ c.loop.invariant.onward c.in_ok-property_at.ensures.onward)
          c.in_ok-value.ensures.onward;
      later = omega (arith, c.loop.invariant.later, c.in_ok-property_at.ensures.cause.later, c.in_ok-value.ensures.cause.later);
    }

pub returns-then-at-clause-met : goal.returns-then-at-clause-met
returns-then-at-clause-met g c tells = all_answered (g.R.Reads.state c.args.space.now).records c.loop.props.items _ c.loop.at c.loop.counter (inl c.if-at.true)
    (c.loop.invariant.met tells)

pub returns-then-at-clause-read : goal.returns-then-at-clause-read
returns-then-at-clause-read g c tells es are =
    returns-then-at-clause-met g c tells ∙ ap (map prop_of) (properties_read (property_records (g.R.Reads.state c.args.space.now).records) _ es are)

pub returns-clause-met : goal.returns-clause-met
returns-clause-met g c tells = all_answered (g.R.Reads.state c.args.space.now).records c.loop.props.items _ c.loop.at c.loop.counter (inr (omega arith))
    (c.loop.invariant.met tells)

pub returns-clause-read : goal.returns-clause-read
returns-clause-read g c tells es are =
    returns-clause-met g c tells ∙ ap (map prop_of) (properties_read (property_records (g.R.Reads.state c.args.space.now).records) _ es are)

-- ---- which record is blamed

pub returns-in_err-property_at-clause-damaged : goal.returns-in_err-property_at-clause-damaged
returns-in_err-property_at-clause-damaged g c tells used =
    let old = g.R.Reads.state c.args.space.now in
    let now = g.R.Reads.state c.loop.space in
    let reads = c.loop.invariant.reads in
    same_has (BlamesBroken old.records old.shape) c.from_residual.result c.in_err-property_at.field-0.0 c.from_residual.ensures.1
    (row_blames old c.args.owner c.requires.owner used c.loop.from c.loop.at c.loop.counter (c.loop.invariant.reached tells) c.if-at.false
    c.in_err-property_at.field-0.0
    (row_fault_same old now (reads_records _ old now reads) (ap (λ (z : State). z.shape) (reads_same _ old now reads)) c.args.owner.key c.loop.from c.loop.at
    c.in_err-property_at.field-0.0 (c.in_err-property_at.ensures.damaged tells)))

pub returns-in_err-value-clause-damaged : goal.returns-in_err-value-clause-damaged
returns-in_err-value-clause-damaged g c tells used =
    let old = g.R.Reads.state c.args.space.now in
    let now = g.R.Reads.state c.loop.space in
    let then = g.R.Reads.state c.property_at.new.space in
    let reads = reads_then _ 1 (1 + length c.loop.props.items + block_total c.loop.props.items) old now then (omega arith) c.loop.invariant.reads
    c.in_ok-property_at.ensures.at_most in
    let read = subst (λ (r : Records). IsReadRow r c.property_at.new.row) (sym (reads_records 1 now then c.in_ok-property_at.ensures.at_most))
    (c.in_ok-property_at.ensures.read tells) in
    same_has (BlamesBroken old.records old.shape) c.from_residual-in_err-value.result c.in_err-value.field-0.0 c.from_residual-in_err-value.ensures.1
    (text_blames old c.property_at.new.row.id c.in_err-value.field-0.0
    (text_fault_same old then (reads_records _ old then reads) (ap (λ (z : State). z.shape) (reads_same _ old then reads)) c.property_at.new.row.id
    c.in_err-value.field-0.0 (c.in_err-value.ensures.damaged tells read)))

pub returns-then-at-2-clause-damaged : goal.returns-then-at-2-clause-damaged
returns-then-at-2-clause-damaged g c tells used =
    let old = g.R.Reads.state c.args.space.now in
    subst (BlamesBroken old.records old.shape) (sym c.damaged.ensures)
    (too_many old c.args.owner c.requires.owner used c.loop.from c.loop.at c.loop.counter (c.loop.invariant.reached tells) c.if-at-2.true (omega arith))

pub returns-in_err-property_at-clause-cause : goal.returns-in_err-property_at-clause-cause
returns-in_err-property_at-clause-cause g c =
    cause_passed _ _ _ c.from_residual.result c.in_err-property_at.field-0.0 c.loop.invariant.later c.in_err-property_at.ensures.cause c.from_residual.ensures.1

pub returns-in_err-value-clause-cause : goal.returns-in_err-value-clause-cause
returns-in_err-value-clause-cause g c =
    let later0 = c.loop.invariant.later in
    let later1 = c.in_ok-property_at.ensures.cause.later in
    cause_passed _ _ _ c.from_residual-in_err-value.result c.in_err-value.field-0.0 (omega (arith, later0, later1)) c.in_err-value.ensures.cause
    c.from_residual-in_err-value.ensures.1

pub returns-in_err-push-clause-cause : goal.returns-in_err-push-clause-cause
returns-in_err-push-clause-cause g c =
    let later0 = c.loop.invariant.later in
    let later1 = c.in_ok-property_at.ensures.cause.later in
    let later2 = c.in_ok-value.ensures.cause.later in
    memory_cause _ _ c.from_residual-in_err-push.result (omega (arith, later0, later1, later2)) c.from_residual-in_err-push.ensures.1

pub returns-in_err-property_at-clause-onward : goal.returns-in_err-property_at-clause-onward
returns-in_err-property_at-clause-onward g c =
    g.met.R.Reads.further_onward _ _ _ c.loop.invariant.onward c.in_err-property_at.ensures.onward

pub returns-in_err-value-clause-onward : goal.returns-in_err-value-clause-onward
returns-in_err-value-clause-onward g c =
    g.met.R.Reads.further_onward _ _ _
    (g.met.R.Reads.further_onward _ _ _ c.loop.invariant.onward c.in_ok-property_at.ensures.onward)
    c.in_err-value.ensures.onward

pub returns-in_err-push-clause-onward : goal.returns-in_err-push-clause-onward
returns-in_err-push-clause-onward g c =
    g.met.R.Reads.further_onward _ _ _
    (g.met.R.Reads.further_onward _ _ _ c.loop.invariant.onward c.in_ok-property_at.ensures.onward)
    c.in_ok-value.ensures.onward

pub returns-then-at-clause-cause : goal.returns-then-at-clause-cause
returns-then-at-clause-cause g c = ok_cause _ _ _ _ (omega arith)

pub returns-in_err-property_at-clause-read : goal.returns-in_err-property_at-clause-read
returns-in_err-property_at-clause-read g c _ _ _ = never_ok c.from_residual.result _ _ c.from_residual.ensures.1

pub returns-in_err-property_at-clause-met : goal.returns-in_err-property_at-clause-met
returns-in_err-property_at-clause-met g c _ = never_ok c.from_residual.result _ _ c.from_residual.ensures.1

pub returns-in_err-property_at-clause-kept : goal.returns-in_err-property_at-clause-kept
returns-in_err-property_at-clause-kept g c = never_ok c.from_residual.result _ _ c.from_residual.ensures.1

pub returns-in_err-property_at-clause-few : goal.returns-in_err-property_at-clause-few
returns-in_err-property_at-clause-few g c = never_ok c.from_residual.result _ _ c.from_residual.ensures.1

pub returns-in_err-property_at-clause-reads : goal.returns-in_err-property_at-clause-reads
returns-in_err-property_at-clause-reads g c = never_ok c.from_residual.result _ _ c.from_residual.ensures.1

pub returns-in_err-value-clause-read : goal.returns-in_err-value-clause-read
returns-in_err-value-clause-read g c _ _ _ = never_ok c.from_residual-in_err-value.result _ _ c.from_residual-in_err-value.ensures.1

pub returns-in_err-value-clause-met : goal.returns-in_err-value-clause-met
returns-in_err-value-clause-met g c _ = never_ok c.from_residual-in_err-value.result _ _ c.from_residual-in_err-value.ensures.1

pub returns-in_err-value-clause-kept : goal.returns-in_err-value-clause-kept
returns-in_err-value-clause-kept g c = never_ok c.from_residual-in_err-value.result _ _ c.from_residual-in_err-value.ensures.1

pub returns-in_err-value-clause-few : goal.returns-in_err-value-clause-few
returns-in_err-value-clause-few g c = never_ok c.from_residual-in_err-value.result _ _ c.from_residual-in_err-value.ensures.1

pub returns-in_err-value-clause-reads : goal.returns-in_err-value-clause-reads
returns-in_err-value-clause-reads g c = never_ok c.from_residual-in_err-value.result _ _ c.from_residual-in_err-value.ensures.1

pub returns-in_err-push-clause-read : goal.returns-in_err-push-clause-read
returns-in_err-push-clause-read g c _ _ _ = never_ok c.from_residual-in_err-push.result _ _ c.from_residual-in_err-push.ensures.1

pub returns-in_err-push-clause-met : goal.returns-in_err-push-clause-met
returns-in_err-push-clause-met g c _ = never_ok c.from_residual-in_err-push.result _ _ c.from_residual-in_err-push.ensures.1

pub returns-in_err-push-clause-kept : goal.returns-in_err-push-clause-kept
returns-in_err-push-clause-kept g c = never_ok c.from_residual-in_err-push.result _ _ c.from_residual-in_err-push.ensures.1

pub returns-in_err-push-clause-few : goal.returns-in_err-push-clause-few
returns-in_err-push-clause-few g c = never_ok c.from_residual-in_err-push.result _ _ c.from_residual-in_err-push.ensures.1

pub returns-in_err-push-clause-reads : goal.returns-in_err-push-clause-reads
returns-in_err-push-clause-reads g c = never_ok c.from_residual-in_err-push.result _ _ c.from_residual-in_err-push.ensures.1

pub returns-clause-cause : goal.returns-clause-cause
returns-clause-cause g c = ok_cause _ _ _ _ (omega arith)

pub returns-in_err-push-clause-damaged : goal.returns-in_err-push-clause-damaged
returns-in_err-push-clause-damaged g c tells used =
    let old = g.R.Reads.state c.args.space.now in
    same_has (BlamesBroken old.records old.shape) c.from_residual-in_err-push.result faults.Memory c.from_residual-in_err-push.ensures.1 tt

pub returns-in_err-push-clause-not_damaged : goal.returns-in_err-push-clause-not_damaged
returns-in_err-push-clause-not_damaged g c tells es has =
    same_has (λ fault. IfSome (damage_of fault) (λ _. ⊥)) c.from_residual-in_err-push.result faults.Memory c.from_residual-in_err-push.ensures.1 tt

pub returns-then-at-clause-at_most : goal.returns-then-at-clause-at_most
returns-then-at-clause-at_most g c = reads_more _ 736 _ _ (omega (arith, c.loop.invariant.few, c.loop.invariant.count)) c.loop.invariant.reads

pub returns-then-at-2-clause-at_most : goal.returns-then-at-2-clause-at_most
returns-then-at-2-clause-at_most g c = reads_more _ 736 _ _ (omega (arith, c.loop.invariant.few, c.loop.invariant.count)) c.loop.invariant.reads

pub returns-clause-at_most : goal.returns-clause-at_most
returns-clause-at_most g c = reads_more _ 736 _ _ (omega (arith, c.loop.invariant.few, c.loop.invariant.count)) c.loop.invariant.reads

pub returns-then-at-clause-few : goal.returns-then-at-clause-few
returns-then-at-clause-few g c = omega (arith, c.loop.invariant.count)

pub returns-clause-few : goal.returns-clause-few
returns-clause-few g c = omega (arith, c.loop.invariant.count)

pub returns-then-at-clause-kept : goal.returns-then-at-clause-kept
returns-then-at-clause-kept g c = c.loop.invariant.kept

pub returns-clause-kept : goal.returns-clause-kept
returns-clause-kept g c = c.loop.invariant.kept

pub returns-then-at-clause-reads : goal.returns-then-at-clause-reads
returns-then-at-clause-reads g c = c.loop.invariant.reads

pub returns-clause-reads : goal.returns-clause-reads
returns-clause-reads g c = c.loop.invariant.reads

pub returns-then-at-clause-onward : goal.returns-then-at-clause-onward
returns-then-at-clause-onward g c = c.loop.invariant.onward

pub returns-then-at-2-clause-onward : goal.returns-then-at-2-clause-onward
returns-then-at-2-clause-onward g c = c.loop.invariant.onward

pub returns-clause-onward : goal.returns-clause-onward
returns-clause-onward g c = c.loop.invariant.onward
