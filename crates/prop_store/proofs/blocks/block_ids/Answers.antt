use Rattle.std.proofs.Common.{arith, rules, ap, sym, subst, ◌∙◌, ◌++◌, ◌+◌, ◌≡◌, List, ℕ, length, inr, refl}
use Rattle.std.proofs.lemmas.Result.{err_from_is_err_and}
use Rattle.std.proofs.lemmas.List.{length_push}
use Rattle.rec_bytes.specs.Format.{block_next, strings_file}
use Rattle.rec_bytes.specs.Record.{field}
use Rattle.rec_bytes.specs.Space.{State}
use Rattle.store_rules.specs.Views.{Records, rec_at}
use Rattle.prop_store.proofs.ListLaws.{append_one}
use Rattle.prop_store.specs.Blocks.{ArePassed, IsBlockOf, IsTextFault}
use Rattle.prop_store.proofs.Breaches.{block_fault, passed_blocks, passed_once, passed_piece, text_begins, text_goes_on, text_too_long}
use Rattle.prop_store.proofs.Exits.{same_has}
use Rattle.prop_store.proofs.ReadCounts.{reads_more, reads_none, reads_one, reads_records, reads_same, reads_then}
use Rattle.prop_store.proofs.TextSteps.{all_left, block_here, right_here, text_after, text_over}
use Rattle.prop_store.proofs.Causes.{cause_passed}
use Rattle.rec_bytes.proofs.Causes.{never_ok, ok_cause}
use Rattle.prop_store.proofs.blocks.block_ids.Goals as goal

pub loop-left-init : goal.loop-left-init
loop-left-init g c = record {
  told = λ tells text blocks has. all_left _ _ _ text blocks _ has (ap (λ (z : List ℕ). z ++ blocks) c.new-ids.ensures);
  not_damaged = λ tells text blocks has given. all_left _ _ _ text blocks _ has given;
  reached = λ tells text. text_begins (g.R.Reads.state c.args.space.now).records c.args.property _ c.args.first c.args.size text refl;
  passed = λ tells. subst (λ (z : List ℕ). ArePassed (g.R.Reads.state c.args.space.now).records c.args.first c.args.size z c.args.first c.args.size)
      (sym c.new-ids.ensures) (refl, refl);
  few = let none : length c.new-ids.result ≡ 0 = ap (λ (z : List ℕ). length z) c.new-ids.ensures in omega arith;
  reads = reads_none _ _;
  onward = search rules;
  later = omega arith;
}

pub returns-in_err-read_block-clause-not_damaged : goal.returns-in_err-read_block-clause-not_damaged
returns-in_err-read_block-clause-not_damaged g c tells text blocks has given =
    let p = err_from_is_err_and c.from_residual.result c.from_residual.ensures.1 in
    let old = g.R.Reads.state c.args.space.now in
    let now = g.R.Reads.state c.loop-left.space in
    let here = block_here (rec_at old.records strings_file) c.loop-left.at c.loop-left.left _ (search rules)
    (c.loop-left.invariant.not_damaged tells text blocks has given) in
    let right = right_here old.records now.records c.loop-left.at c.loop-left.left c.piece_size-piece.result
    (reads_records _ old now c.loop-left.invariant.reads) c.piece_size-piece.ensures here in
    rw (p.1, p.2) (c.in_err-read_block.ensures.not_damaged tells right.0 right.1)

pub returns-in_err-read_block-clause-at_most : goal.returns-in_err-read_block-clause-at_most
returns-in_err-read_block-clause-at_most g c =
    reads_then _ 1 22 _ _ _ (omega (arith, c.loop-left.invariant.few)) c.loop-left.invariant.reads c.in_err-read_block.ensures.at_most

pub loop-left-preserved : goal.loop-left-preserved
loop-left-preserved g c =
    let old = g.R.Reads.state c.args.space.now in
    let now = g.R.Reads.state c.loop-left.space in
    let ids = c.loop-left.ids in
    let same = reads_records _ old now c.loop-left.invariant.reads in
    let more : length c.push.new.self ≡ length ids + 1 = ap (λ (z : List ℕ). length z) c.push.ensures ∙ length_push ids c.loop-left.at in
    record {
      told = λ tells text blocks has.
          let here = block_here (rec_at old.records strings_file) c.loop-left.at c.loop-left.left _ (search rules)
          (c.loop-left.invariant.told tells text blocks has) in
          let got = c.in_ok-read_block.ensures.got tells ∙ ap (λ r. rec_at r strings_file c.loop-left.at) same in
          text_after (rec_at old.records strings_file) c.loop-left.at c.loop-left.left _ _ here c.read_block.new.rec c.piece_size-piece.result
          c.number-at.result got c.piece_size-piece.ensures c.number-at.ensures
          (append_one ids c.loop-left.at here.later c.push.new.self blocks c.push.ensures here.kept);
      not_damaged = λ tells text blocks has given.
          let here = block_here (rec_at old.records strings_file) c.loop-left.at c.loop-left.left _ (search rules)
          (c.loop-left.invariant.not_damaged tells text blocks has given) in
          let got = c.in_ok-read_block.ensures.got tells ∙ ap (λ r. rec_at r strings_file c.loop-left.at) same in
          text_after (rec_at old.records strings_file) c.loop-left.at c.loop-left.left _ _ here c.read_block.new.rec c.piece_size-piece.result
          c.number-at.result got c.piece_size-piece.ensures c.number-at.ensures
          (λ x i. here.kept x (inr i));
      reached = λ tells text.
          let got = c.in_ok-read_block.ensures.got tells ∙ ap (λ r. rec_at r strings_file c.loop-left.at) same in
          text_goes_on old.records c.args.property c.loop-left.from _ c.loop-left.at c.loop-left.left c.piece_size-piece.result c.number-at.result
          (c.loop-left.invariant.reached tells text) (omega (arith, c.loop-left-test.true)) c.piece_size-piece.ensures
          (subst (λ (r : Records). IsBlockOf r c.loop-left.at c.piece_size-piece.result) same (c.in_ok-read_block.ensures.block tells))
          (c.number-at.ensures ∙ ap (λ r. field 4 r block_next) got) refl;
      passed = λ tells.
          let got = c.in_ok-read_block.ensures.got tells ∙ ap (λ r. rec_at r strings_file c.loop-left.at) same in
          passed_piece old.records c.args.first c.args.size ids c.push.new.self c.loop-left.at c.loop-left.left c.piece_size-piece.result c.number-at.result
          (c.loop-left.invariant.passed tells) (omega (arith, c.loop-left-test.true)) c.piece_size-piece.ensures
          (subst (λ (r : Records). IsBlockOf r c.loop-left.at c.piece_size-piece.result) same (c.in_ok-read_block.ensures.block tells))
          (c.number-at.ensures ∙ ap (λ r. field 4 r block_next) got) c.push.ensures;
      few = omega (arith, c.loop-left.invariant.few, c.piece_size-piece.ensures, more);
      reads = reads_then _ 1 _ _ _ _ (omega (arith, more)) c.loop-left.invariant.reads (reads_one 1 _ _ (omega arith) c.in_ok-read_block.ensures.state);
      onward = g.met.R.Reads.further_onward _ _ _ c.loop-left.invariant.onward c.in_ok-read_block.ensures.onward;
      later = omega (arith, c.loop-left.invariant.later, c.in_ok-read_block.ensures.cause.later);
    }

pub returns-then-at-clause-not_damaged : goal.returns-then-at-clause-not_damaged
returns-then-at-clause-not_damaged g c tells text blocks has given =
    absurd (c.if-at.true (text_over _ _ _ _ (omega (arith, c.loop-left-test.false)) (c.loop-left.invariant.not_damaged tells text blocks has given)).none)

pub returns-in_err-read_block-clause-damaged : goal.returns-in_err-read_block-clause-damaged
returns-in_err-read_block-clause-damaged g c tells text =
    let old = g.R.Reads.state c.args.space.now in
    let now = g.R.Reads.state c.loop-left.space in
    let reads = c.loop-left.invariant.reads in
    same_has (IsTextFault old c.args.property) c.from_residual.result c.in_err-read_block.field-0.0 c.from_residual.ensures.1
    (block_fault old now (reads_records _ old now reads) (ap (λ (z : State). z.shape) (reads_same _ old now reads)) c.args.property c.loop-left.from
    c.loop-left.at c.loop-left.left c.piece_size-piece.result c.in_err-read_block.field-0.0 text.long
    (c.loop-left.invariant.reached tells text) (omega (arith, c.loop-left-test.true)) c.piece_size-piece.ensures (c.in_err-read_block.ensures.damaged tells))

pub returns-then-at-clause-damaged : goal.returns-then-at-clause-damaged
returns-then-at-clause-damaged g c tells text =
    let old = g.R.Reads.state c.args.space.now in
    subst (IsTextFault old c.args.property) (sym c.damaged.ensures)
    (text_too_long old c.args.property c.loop-left.from c.loop-left.at c.loop-left.left text.long (c.loop-left.invariant.reached tells text)
    (omega (arith, c.loop-left-test.false)) c.if-at.true)

pub returns-in_err-read_block-clause-cause : goal.returns-in_err-read_block-clause-cause
returns-in_err-read_block-clause-cause g c =
    cause_passed _ _ _ c.from_residual.result c.in_err-read_block.field-0.0 c.loop-left.invariant.later c.in_err-read_block.ensures.cause
    c.from_residual.ensures.1

pub returns-in_err-read_block-clause-onward : goal.returns-in_err-read_block-clause-onward
returns-in_err-read_block-clause-onward g c =
    g.met.R.Reads.further_onward _ _ _ c.loop-left.invariant.onward c.in_err-read_block.ensures.onward

pub returns-in_err-read_block-clause-followed : goal.returns-in_err-read_block-clause-followed
returns-in_err-read_block-clause-followed g c _ _ _ _ = never_ok c.from_residual.result _ _ c.from_residual.ensures.1

pub returns-clause-once : goal.returns-clause-once
returns-clause-once g c tells =
    let old = g.R.Reads.state c.args.space.now in
    passed_once old.records c.args.first c.args.size c.loop-left.ids c.loop-left.at c.loop-left.left (c.loop-left.invariant.passed tells) c.if-at.false

pub returns-in_err-read_block-clause-once : goal.returns-in_err-read_block-clause-once
returns-in_err-read_block-clause-once g c _ = never_ok c.from_residual.result _ _ c.from_residual.ensures.1

pub returns-clause-has : goal.returns-clause-has
returns-clause-has g c tells text =
    passed_blocks (g.R.Reads.state c.args.space.now).records c.args.property c.args.first c.args.size c.loop-left.ids c.loop-left.at c.loop-left.left text
    (c.loop-left.invariant.passed tells) c.if-at.false (omega (arith, c.loop-left-test.false))

pub returns-in_err-read_block-clause-has : goal.returns-in_err-read_block-clause-has
returns-in_err-read_block-clause-has g c _ _ = never_ok c.from_residual.result _ _ c.from_residual.ensures.1

pub returns-clause-cause : goal.returns-clause-cause
returns-clause-cause g c = ok_cause _ _ _ _ (omega arith)

pub returns-then-at-clause-onward : goal.returns-then-at-clause-onward
returns-then-at-clause-onward g c = c.loop-left.invariant.onward

pub returns-clause-onward : goal.returns-clause-onward
returns-clause-onward g c = c.loop-left.invariant.onward

pub returns-then-at-clause-at_most : goal.returns-then-at-clause-at_most
returns-then-at-clause-at_most g c = reads_more _ 22 _ _ (omega (arith, c.loop-left.invariant.few)) c.loop-left.invariant.reads

pub returns-clause-at_most : goal.returns-clause-at_most
returns-clause-at_most g c = reads_more _ 22 _ _ (omega (arith, c.loop-left.invariant.few)) c.loop-left.invariant.reads
