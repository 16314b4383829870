use Rattle.std.specs.Prelude.{IfSome}
use Rattle.std.proofs.Common.{◌≡◌, ◌≢◌, ◌⊎◌, ◌<◌, ◌+◌, ◌*◌, ◌∙◌, ℕ, List, Some, length, length-append, arith, ap, sym, subst, refl}
use Rattle.std.proofs.lemmas.List.{length_push}
use Rattle.std.proofs.lemmas.Result.{err_from_is_err_and}
use Rattle.rec_bytes.specs.Format.{free_kind, most_ids, properties_file, property_next}
use Rattle.rec_bytes.specs.Record.{field}
use Rattle.rec_bytes.specs.Space.{State}
use Rattle.store_rules.specs.Chains.{In}
use Rattle.store_rules.specs.Properties.{first_property, property_records}
use Rattle.store_rules.specs.Views.{Records, kind_at, rec_at}
use Rattle.prop_store.specs.Blocks.{HasBlocks}
use Rattle.prop_store.specs.Fault.{BlamesBroken}
use Rattle.prop_store.specs.GivenOut.{holder_of}
use Rattle.prop_store.specs.PropertyRow.{IsReadRow}
use Rattle.prop_store.proofs.Breaches.{ArePast, IsThere, holder_more, past_more, row_blames, row_fault_same, text_blames, text_fault_same, too_many}
use Rattle.prop_store.proofs.Causes.{cause_passed, later_on}
use Rattle.prop_store.proofs.Exits.{same_has}
use Rattle.prop_store.proofs.HeldSteps.{HeldTwice, Told, owned_more, reached, small_more, told_begins, told_more, twice_breaks, twice_more}
use Rattle.prop_store.proofs.ListLaws.{below_more}
use Rattle.prop_store.proofs.ReadCounts.{reads_more, reads_none, reads_records, reads_same, reads_then}
use Rattle.prop_store.proofs.WalkSteps.{Walked, blocks_given, has_value, right_property, walk_after, walk_ends, walk_here, walk_over}
use Rattle.rec_bytes.proofs.Causes.{never_ok, ok_cause}
use Rattle.prop_store.proofs.held.find_held.Goals as goal

pub loop-at-init : goal.loop-at-init
loop-at-init g c =
    let none = c.new-held.ensures.ids in
    let no_blocks = c.new-held.ensures.blocks in
    let count : length c.new-held.result.ids.items ≡ 0 = ap (λ (z : List ℕ). length z) none in
    let sum : length c.new-held.result.blocks.items ≡ 0 = ap (λ (z : List ℕ). length z) no_blocks in
    let old = g.R.Reads.state c.args.space.now in
    record {
      told = λ tells es has. told_begins old.records c.args.owner c.args.first es c.new-held.result.ids.items c.new-held.result.blocks.items none no_blocks
          (c.requires.first tells) has;
      past = λ tells. subst (λ z. ArePast old.records c.args.first z c.args.first) (sym none) refl;
      from = sym (ap (holder_of properties_file c.args.owner.key) none);
      owned = λ tells b i. elim (subst (In b) no_blocks i) [ ];
      twice = λ tells. tt;
      small = λ x i. elim (subst (In x) none i) [ ];
      small_blocks = λ x i. elim (subst (In x) no_blocks i) [ ];
      few = omega arith;
      few_blocks = omega arith;
      reads = reads_none _ _;
      onward = g.met.R.Reads.stays_onward _;
      later = omega arith;
    }

-- the property at hand was read, and its blocks were found
pub loop-at-preserved : goal.loop-at-preserved
loop-at-preserved g c =
    let old = g.R.Reads.state c.args.space.now in
    let now = g.R.Reads.state c.loop-at.space in
    let read = g.R.Reads.state c.property_at.new.space in
    let i = c.loop-at.invariant in
    let at = c.loop-at.at in
    let ids = c.loop-at.held.ids.items in
    let blocks = c.loop-at.held.blocks.items in
    let pushed = c.push.new.self.ids.items in
    let all = c.push.new.self.blocks.items in
    let own = c.as_slice-own.result.now in
    let row = c.property_at.new.row in
    let same : now.records ≡ old.records = reads_records _ old now i.reads in
    let same_read : read.records ≡ old.records = reads_records 1 now read c.property_at.ensures.at_most ∙ same in
    let id_is = c.in_ok-property_at.ensures.row.id_is in
    let found = subst (λ (xs : List ℕ). IfSome c.shared_block-shared.result (λ b. (c.loop-at.shared ≡ Some b) ⊎ (In b xs × In b own)))
    c.as_slice-passed.ensures.value c.shared_block-shared.ensures in
    let more : length pushed ≡ length ids + 1 = ap (λ (z : List ℕ). length z) c.push.ensures.ids ∙ length_push ids at in
    let total : length all ≡ length blocks + length own = ap (λ (z : List ℕ). length z) c.push.ensures.blocks ∙ length-append blocks own in
    let got : g.R.Reads.tells → row.rec ≡ rec_at old.records properties_file at = λ tells. c.in_ok-property_at.ensures.got tells
    ∙ ap (λ r. rec_at r properties_file at) same in
    let its : g.R.Reads.tells → IsReadRow old.records row = λ tells. subst (λ (r : Records). IsReadRow r row) same (c.in_ok-property_at.ensures.read tells) in
    let there : g.R.Reads.tells → IsThere old.records at = λ tells. record
    { some = c.loop-at-test.true; used = subst (λ z. kind_at old.records properties_file z ≢ free_kind) id_is (its tells).used } in
    let has : g.R.Reads.tells → HasBlocks old.records at own = λ tells.
    subst (HasBlocks old.records at) (sym c.as_slice-own.ensures.is) (subst (λ z. HasBlocks old.records z c.in_ok-blocks.blocks) id_is
    (subst (λ (r : Records). HasBlocks r row.id c.in_ok-blocks.blocks) same_read
    (c.in_ok-blocks.ensures.has tells (subst (λ (r : Records). IsReadRow r row) (sym same_read) (its tells))))) in
    record {
      told = λ tells es has.
          let here = walk_here _ es _ _ _ c.loop-at-test.true (i.told tells es has) in
          let value = has_value old.records read.records here.property (first_property here.later) row.rec same_read here.is
          (got tells ∙ ap (rec_at old.records properties_file) here.at_is) in
          let own_is = c.as_slice-own.ensures.is ∙ c.in_ok-blocks.ensures.followed tells here.property.value here.property.blocks value in
          subst (λ n. Walked (property_records old.records) es c.number-at.result n (Told pushed all c.shared_block-shared.result)) (sym more)
          (walk_after (property_records old.records) es at (length ids) _ (Told pushed all c.shared_block-shared.result) here row.rec c.number-at.result
          (got tells) c.number-at.ensures
          (told_more es here.passed here.property here.later here.all has.are.blocks_once ids blocks pushed all own at c.loop-at.shared
          c.shared_block-shared.result c.push.ensures.ids c.push.ensures.blocks here.at_is own_is
          found here.kept));
      past = λ tells. subst (λ z. ArePast old.records c.args.first z c.number-at.result) (sym c.push.ensures.ids)
          (past_more old.records c.args.first ids at c.number-at.result (i.past tells) (there tells) (c.number-at.ensures ∙ ap (λ r. field 4 r property_next)
          (got tells)));
      from = sym (ap (holder_of properties_file c.args.owner.key) c.push.ensures.ids ∙ holder_more properties_file c.args.owner.key ids at);
      owned = λ tells. owned_more old.records ids pushed blocks all own at c.push.ensures.ids c.push.ensures.blocks (i.owned tells) (has tells);
      twice = λ tells. twice_more old.records ids pushed blocks all own at c.push.ensures.ids c.push.ensures.blocks (i.owned tells) (has tells) c.loop-at.shared
          c.shared_block-shared.result (i.twice tells) found;
      small = below_more most_ids ids pushed at i.small (subst (λ z. z < most_ids) id_is c.in_ok-property_at.ensures.row.small) c.push.ensures.ids;
      small_blocks = small_more blocks own all i.small_blocks c.as_slice-own.ensures.small c.push.ensures.blocks;
      few = let few = i.few in omega (arith, more, few, c.if-count.false);
      few_blocks = let few = i.few_blocks in let less = c.as_slice-own.ensures.few in omega (arith, more, total, few, less);
      reads = reads_then (23 * length ids) 23 _ old now _ (omega (arith, more)) i.reads
          (reads_then 1 22 23 now read _ (omega arith) c.property_at.ensures.at_most c.value_blocks.ensures.at_most);
      onward = g.met.R.Reads.further_onward _ _ _ i.onward (g.met.R.Reads.further_onward _ _ _ c.in_ok-property_at.ensures.onward
          c.in_ok-blocks.ensures.onward);
      later = omega (arith, i.later, c.in_ok-property_at.ensures.cause.later, c.in_ok-blocks.ensures.cause.later);
    }

-- ---- where the properties are known

pub returns-then-count-clause-not_damaged : goal.returns-then-count-clause-not_damaged
returns-then-count-clause-not_damaged g c tells es has =
    absurd (c.loop-at-test.true (walk_ends _ es _ _ _ has.are.few (omega (arith, c.if-count.true)) (c.loop-at.invariant.told tells es has)))

pub returns-in_err-property_at-clause-not_damaged : goal.returns-in_err-property_at-clause-not_damaged
returns-in_err-property_at-clause-not_damaged g c tells es has =
    let old = g.R.Reads.state c.args.space.now in
    let now = g.R.Reads.state c.loop-at.space in
    let p = err_from_is_err_and c.from_residual.result c.from_residual.ensures.1 in
    let here = walk_here _ es _ _ _ c.loop-at-test.true (c.loop-at.invariant.told tells es has) in
    let right = right_property old.records now.records c.args.owner es c.loop-at.at _ _ (reads_records _ old now c.loop-at.invariant.reads) has here in
    rw (p.1, p.2) (c.in_err-property_at.ensures.not_damaged tells right.0 right.1)

pub returns-in_err-blocks-clause-not_damaged : goal.returns-in_err-blocks-clause-not_damaged
returns-in_err-blocks-clause-not_damaged g c tells es has =
    let old = g.R.Reads.state c.args.space.now in
    let now = g.R.Reads.state c.loop-at.space in
    let then = g.R.Reads.state c.property_at.new.space in
    let p = err_from_is_err_and c.from_residual-in_err-blocks.result c.from_residual-in_err-blocks.ensures.1 in
    let here = walk_here _ es _ _ _ c.loop-at-test.true (c.loop-at.invariant.told tells es has) in
    let same = reads_records _ old now c.loop-at.invariant.reads in
    let same_then = reads_records 1 now then c.property_at.ensures.at_most ∙ same in
    let rec_is = c.in_ok-property_at.ensures.got tells ∙ ap (λ r. rec_at r properties_file c.loop-at.at) same
    ∙ ap (rec_at old.records properties_file) here.at_is in
    let value = has_value old.records then.records here.property (first_property here.later) c.property_at.new.row.rec same_then here.is rec_is in
    rw (p.1, p.2) (c.in_err-blocks.ensures.not_damaged tells here.property.value here.property.blocks value
    (blocks_given old.records then.records c.args.owner es
    here.passed here.property here.later same_then has here.all here.is.blocks))

pub returns-in-Some-clause-not_damaged : goal.returns-in-Some-clause-not_damaged
returns-in-Some-clause-not_damaged g c tells es has =
    let told = (walk_over _ es _ _ _ c.loop-at-test.false (c.loop-at.invariant.told tells es has)).kept in
    absurd (let e = sym told.none ∙ c.in-Some.is in cc)

pub returns-in-None-clause-found : goal.returns-in-None-clause-found
returns-in-None-clause-found g c tells es has =
    let told = (walk_over _ es _ _ _ c.loop-at-test.false (c.loop-at.invariant.told tells es has)).kept in
    record { ids = told.ids_are; blocks = told.blocks_are }

pub returns-in-None-clause-fits : goal.returns-in-None-clause-fits
returns-in-None-clause-fits g c =
    let few = c.loop-at.invariant.few in
    let few_blocks = c.loop-at.invariant.few_blocks in
    record { small = c.loop-at.invariant.small; small_blocks = c.loop-at.invariant.small_blocks; few = few; few_blocks = omega arith }

-- ---- which record is blamed

pub returns-then-count-clause-damaged : goal.returns-then-count-clause-damaged
returns-then-count-clause-damaged g c tells used =
    let old = g.R.Reads.state c.args.space.now in
    subst (BlamesBroken old.records old.shape) (sym c.damaged.ensures)
    (too_many old c.args.owner c.requires.owner used c.loop-at.from c.loop-at.at _
    (reached old.records c.args.owner c.loop-at.from c.args.first c.loop-at.at c.loop-at.held.ids.items (c.requires.first tells)
    (c.loop-at.invariant.past tells) c.loop-at.invariant.from) c.loop-at-test.true (omega (arith, c.if-count.true)))

pub returns-in_err-property_at-clause-damaged : goal.returns-in_err-property_at-clause-damaged
returns-in_err-property_at-clause-damaged g c tells used =
    let old = g.R.Reads.state c.args.space.now in
    let now = g.R.Reads.state c.loop-at.space in
    let reads = c.loop-at.invariant.reads in
    same_has (BlamesBroken old.records old.shape) c.from_residual.result c.in_err-property_at.field-0.0 c.from_residual.ensures.1
    (row_blames old c.args.owner c.requires.owner used c.loop-at.from c.loop-at.at _
    (reached old.records c.args.owner c.loop-at.from c.args.first c.loop-at.at c.loop-at.held.ids.items (c.requires.first tells)
    (c.loop-at.invariant.past tells) c.loop-at.invariant.from) c.loop-at-test.true c.in_err-property_at.field-0.0
    (row_fault_same old now (reads_records _ old now reads) (ap (λ (z : State). z.shape) (reads_same _ old now reads)) c.args.owner.key c.loop-at.from
    c.loop-at.at c.in_err-property_at.field-0.0 (c.in_err-property_at.ensures.damaged tells)))

pub returns-in_err-blocks-clause-damaged : goal.returns-in_err-blocks-clause-damaged
returns-in_err-blocks-clause-damaged g c tells used =
    let old = g.R.Reads.state c.args.space.now in
    let now = g.R.Reads.state c.loop-at.space in
    let then = g.R.Reads.state c.property_at.new.space in
    let reads = reads_then _ 1 (1 + 23 * length c.loop-at.held.ids.items) old now then (omega arith) c.loop-at.invariant.reads c.property_at.ensures.at_most in
    let read = subst (λ (r : Records). IsReadRow r c.property_at.new.row) (sym (reads_records 1 now then c.property_at.ensures.at_most))
    (c.in_ok-property_at.ensures.read tells) in
    same_has (BlamesBroken old.records old.shape) c.from_residual-in_err-blocks.result c.in_err-blocks.field-0.0 c.from_residual-in_err-blocks.ensures.1
    (text_blames old c.property_at.new.row.id c.in_err-blocks.field-0.0
    (text_fault_same old then (reads_records _ old then reads) (ap (λ (z : State). z.shape) (reads_same _ old then reads)) c.property_at.new.row.id
    c.in_err-blocks.field-0.0 (c.in_err-blocks.ensures.damaged tells read)))

pub returns-in-Some-clause-damaged : goal.returns-in-Some-clause-damaged
returns-in-Some-clause-damaged g c tells used =
    let old = g.R.Reads.state c.args.space.now in
    let i = c.loop-at.invariant in
    subst (BlamesBroken old.records old.shape) (sym c.damaged-in-Some.ensures)
    (twice_breaks old.records old.shape c.args.first c.loop-at.held.ids.items c.loop-at.at c.in-Some.block (i.past tells) c.loop-at-test.false
    (subst (λ z. IfSome z (HeldTwice old.records c.loop-at.held.ids.items)) c.in-Some.is (i.twice tells)))

-- ---- how much was read

pub returns-then-count-clause-at_most : goal.returns-then-count-clause-at_most
returns-then-count-clause-at_most g c = let few = c.loop-at.invariant.few in reads_more _ 736 _ _ (omega arith) c.loop-at.invariant.reads

pub returns-in_err-property_at-clause-at_most : goal.returns-in_err-property_at-clause-at_most
returns-in_err-property_at-clause-at_most g c = let few = c.loop-at.invariant.few in
    reads_then _ 1 736 _ _ _ (omega (arith, few, c.if-count.false)) c.loop-at.invariant.reads c.in_err-property_at.ensures.at_most

pub returns-in_err-blocks-clause-at_most : goal.returns-in_err-blocks-clause-at_most
returns-in_err-blocks-clause-at_most g c =
    let few = c.loop-at.invariant.few in
    reads_then (1 + 23 * length c.loop-at.held.ids.items) 22 736 _ _ _ (omega (arith, few, c.if-count.false))
    (reads_then _ 1 (1 + 23 * length c.loop-at.held.ids.items) _ _ _ (omega arith) c.loop-at.invariant.reads c.property_at.ensures.at_most)
    c.in_err-blocks.ensures.at_most

pub returns-in-Some-clause-at_most : goal.returns-in-Some-clause-at_most
returns-in-Some-clause-at_most g c = let few = c.loop-at.invariant.few in reads_more _ 736 _ _ (omega arith) c.loop-at.invariant.reads

pub returns-in-None-clause-at_most : goal.returns-in-None-clause-at_most
returns-in-None-clause-at_most g c = let few = c.loop-at.invariant.few in reads_more _ 736 _ _ (omega arith) c.loop-at.invariant.reads

-- ---- exits with an error

pub returns-in_err-property_at-clause-cause : goal.returns-in_err-property_at-clause-cause
returns-in_err-property_at-clause-cause g c =
    cause_passed _ _ _ c.from_residual.result c.in_err-property_at.field-0.0 c.loop-at.invariant.later c.in_err-property_at.ensures.cause
    c.from_residual.ensures.1

pub returns-in_err-blocks-clause-cause : goal.returns-in_err-blocks-clause-cause
returns-in_err-blocks-clause-cause g c =
    cause_passed _ _ _ c.from_residual-in_err-blocks.result c.in_err-blocks.field-0.0
    (later_on c.loop-at.invariant.later c.in_ok-property_at.ensures.cause.later) c.in_err-blocks.ensures.cause c.from_residual-in_err-blocks.ensures.1

pub returns-in-None-clause-cause : goal.returns-in-None-clause-cause
returns-in-None-clause-cause g c = ok_cause _ _ _ _ (omega arith)

pub returns-in_err-property_at-clause-onward : goal.returns-in_err-property_at-clause-onward
returns-in_err-property_at-clause-onward g c = g.met.R.Reads.further_onward _ _ _ c.loop-at.invariant.onward c.in_err-property_at.ensures.onward

pub returns-in_err-blocks-clause-onward : goal.returns-in_err-blocks-clause-onward
returns-in_err-blocks-clause-onward g c =
    g.met.R.Reads.further_onward _ _ _ (g.met.R.Reads.further_onward _ _ _ c.loop-at.invariant.onward c.in_ok-property_at.ensures.onward)
    c.in_err-blocks.ensures.onward

pub returns-in_err-property_at-clause-found : goal.returns-in_err-property_at-clause-found
returns-in_err-property_at-clause-found g c _ _ _ = never_ok c.from_residual.result _ _ c.from_residual.ensures.1

pub returns-in_err-property_at-clause-fits : goal.returns-in_err-property_at-clause-fits
returns-in_err-property_at-clause-fits g c = never_ok c.from_residual.result _ _ c.from_residual.ensures.1

pub returns-in_err-blocks-clause-found : goal.returns-in_err-blocks-clause-found
returns-in_err-blocks-clause-found g c _ _ _ = never_ok c.from_residual-in_err-blocks.result _ _ c.from_residual-in_err-blocks.ensures.1

pub returns-in_err-blocks-clause-fits : goal.returns-in_err-blocks-clause-fits
returns-in_err-blocks-clause-fits g c = never_ok c.from_residual-in_err-blocks.result _ _ c.from_residual-in_err-blocks.ensures.1

pub returns-in-None-clause-onward : goal.returns-in-None-clause-onward
returns-in-None-clause-onward g c = c.loop-at.invariant.onward

pub returns-in-Some-clause-onward : goal.returns-in-Some-clause-onward
returns-in-Some-clause-onward g c = c.loop-at.invariant.onward

pub returns-then-count-clause-onward : goal.returns-then-count-clause-onward
returns-then-count-clause-onward g c = c.loop-at.invariant.onward
