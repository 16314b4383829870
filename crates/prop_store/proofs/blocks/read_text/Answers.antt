use Rattle.std.proofs.Common.{arith, rules, ap, sym, subst, ◌∙◌, ◌++◌, ◌+◌, ◌≡◌, ◌≤◌, List, ℕ, length, inr, length-append, refl}
use Rattle.std.proofs.lemmas.Result.{err_from_is_err_and}
use Rattle.rec_bytes.specs.Format.{block_next, block_text, strings_file}
use Rattle.rec_bytes.specs.Record.{field, text_in}
use Rattle.rec_bytes.proofs.Texts.{length-text_in}
use Rattle.store_rules.specs.Properties.{long_text_from}
use Rattle.rec_bytes.specs.Space.{State}
use Rattle.store_rules.specs.Views.{Records, rec_at}
use Rattle.prop_store.specs.Blocks.{IsBlockOf, IsTextFault}
use Rattle.prop_store.proofs.Breaches.{block_fault, text_begins, text_goes_on, text_too_long}
use Rattle.prop_store.proofs.Exits.{same_has}
use Rattle.prop_store.proofs.ReadCounts.{reads_more, reads_none, reads_one, reads_records, reads_same, reads_then}
use Rattle.prop_store.proofs.TextSteps.{all_left, block_here, piece_read, right_here, text_after, text_over, text_read}
use Rattle.rec_bytes.proofs.Causes.{never_ok, ok_cause}
use Rattle.std.specs.Prelude.{IfSome}
use Rattle.rec_bytes.specs.Fault.{damage_of}
use Rattle.rec_bytes.specs.declared.fault.Fault.TheVariants as faults
use Rattle.prop_store.proofs.Causes.{cause_passed, later_on, memory_cause}
use Rattle.prop_store.proofs.blocks.read_text.Goals as goal

pub loop-left-init : goal.loop-left-init
loop-left-init g c = record {
  met = λ tells. ap (λ (z : List ℕ). z ++ long_text_from (rec_at (g.R.Reads.state c.args.space.now).records strings_file) c.args.size c.args.first)
      c.new-bytes.ensures.items;
  not_damaged = λ tells text blocks has given. all_left _ _ _ text blocks _ has given;
  reached = λ tells text. text_begins (g.R.Reads.state c.args.space.now).records c.args.property _ c.args.first c.args.size text refl;
  size = let none : length c.new-bytes.result.items ≡ 0 = ap (λ (z : List ℕ). length z) c.new-bytes.ensures.items in omega arith;
  reads = reads_none _ _;
  onward = search rules;
  later = omega arith;
}

pub loop-left-preserved : goal.loop-left-preserved
loop-left-preserved g c =
    let old = g.R.Reads.state c.args.space.now in
    let now = g.R.Reads.state c.loop-left.space in
    let left = c.loop-left.left in
    let so_far = c.loop-left.bytes.items in
    let same = reads_records _ old now c.loop-left.invariant.reads in
    let piece = c.piece_size-piece.ensures in
    let pushed = c.in_ok-extend_from_slice.ensures.items in
    let fits : block_text + c.piece_size-piece.result ≤ 64 = omega (arith, piece) in
    let more : length c.extend_from_slice.new.self.items ≡ length so_far + c.piece_size-piece.result
    = ap (λ (z : List ℕ). length z) (pushed ∙ ap (λ z. so_far ++ z) c.text.ensures)
    ∙ length-append so_far (text_in c.read_block.new.rec block_text c.piece_size-piece.result)
    ∙ ap (λ n. length so_far + n) (length-text_in c.read_block.new.rec block_text c.piece_size-piece.result fits) in
    record {
      met = λ tells.
          piece_read (rec_at old.records strings_file) so_far c.extend_from_slice.new.self.items _ c.text.result.now c.loop-left.at left
          c.piece_size-piece.result c.number-at.result c.read_block.new.rec (search rules) c.in_ok-read_block.ensures.small
          (c.in_ok-read_block.ensures.got tells ∙ ap (λ r. rec_at r strings_file c.loop-left.at) same) c.in_ok-read_block.ensures.form piece c.text.ensures
          pushed c.number-at.ensures (c.loop-left.invariant.met tells);
      not_damaged = λ tells text blocks has given.
          let here = block_here (rec_at old.records strings_file) c.loop-left.at left _ (search rules)
          (c.loop-left.invariant.not_damaged tells text blocks has given) in
          let got = c.in_ok-read_block.ensures.got tells ∙ ap (λ r. rec_at r strings_file c.loop-left.at) same in
          text_after (rec_at old.records strings_file) c.loop-left.at left _ _ here c.read_block.new.rec c.piece_size-piece.result c.number-at.result got piece
          c.number-at.ensures
          (λ x i. here.kept x (inr i));
      reached = λ tells text.
          let got = c.in_ok-read_block.ensures.got tells ∙ ap (λ r. rec_at r strings_file c.loop-left.at) same in
          text_goes_on old.records c.args.property c.loop-left.from _ c.loop-left.at c.loop-left.left c.piece_size-piece.result c.number-at.result
          (c.loop-left.invariant.reached tells text) (omega (arith, c.loop-left-test.true)) c.piece_size-piece.ensures
          (subst (λ (r : Records). IsBlockOf r c.loop-left.at c.piece_size-piece.result) same (c.in_ok-read_block.ensures.block tells))
          (c.number-at.ensures ∙ ap (λ r. field 4 r block_next) got) refl;
      size = omega (arith, more, c.loop-left.invariant.size, piece);
      reads = reads_then _ 1 _ _ _ _ (omega (arith, piece)) c.loop-left.invariant.reads (reads_one 1 _ _ (omega arith) c.in_ok-read_block.ensures.state);
      onward = g.met.R.Reads.further_onward _ _ _ c.loop-left.invariant.onward c.in_ok-read_block.ensures.onward;
      later = omega (arith, c.loop-left.invariant.later, c.in_ok-read_block.ensures.cause.later);
    }

pub returns-in_err-read_block-clause-not_damaged : goal.returns-in_err-read_block-clause-not_damaged
returns-in_err-read_block-clause-not_damaged g c tells text blocks has given =
    let p = err_from_is_err_and c.from_residual.result c.from_residual.ensures.1 in
    let old = g.R.Reads.state c.args.space.now in
    let now = g.R.Reads.state c.loop-left.space in
    let here = block_here (rec_at old.records strings_file) c.loop-left.at c.loop-left.left _ (search rules)
    (c.loop-left.invariant.not_damaged tells text blocks has given) in
    let right = right_here old.records now.records c.loop-left.at c.loop-left.left c.piece_size-piece.result
    (reads_records _ old now c.loop-left.invariant.reads) c.piece_size-piece.ensures here in
    rw (p.1, p.2) (c.in_err-read_block.ensures.not_damaged tells right.0 right.1)

pub returns-in_err-read_block-clause-at_most : goal.returns-in_err-read_block-clause-at_most
returns-in_err-read_block-clause-at_most g c =
    reads_then _ 1 _ _ _ _ (omega (arith, c.loop-left.invariant.size)) c.loop-left.invariant.reads c.in_err-read_block.ensures.at_most

pub returns-in_err-extend_from_slice-clause-at_most : goal.returns-in_err-extend_from_slice-clause-at_most
returns-in_err-extend_from_slice-clause-at_most g c = reads_then _ 1 _ _ _ _ (omega (arith, c.loop-left.invariant.size)) c.loop-left.invariant.reads
    (reads_one 1 _ _ (omega arith) c.in_ok-read_block.ensures.state)

pub returns-then-at-clause-not_damaged : goal.returns-then-at-clause-not_damaged
returns-then-at-clause-not_damaged g c tells text blocks has given =
    absurd (c.if-at.true (text_over _ _ _ _ (omega (arith, c.loop-left-test.false)) (c.loop-left.invariant.not_damaged tells text blocks has given)).none)

pub returns-clause-met : goal.returns-clause-met
returns-clause-met g c tells = text_read (rec_at (g.R.Reads.state c.args.space.now).records strings_file) c.loop-left.bytes.items _ c.loop-left.at
    c.loop-left.left (omega (arith, c.loop-left-test.false)) (c.loop-left.invariant.met tells)

pub returns-in_err-read_block-clause-damaged : goal.returns-in_err-read_block-clause-damaged
returns-in_err-read_block-clause-damaged g c tells text =
    let old = g.R.Reads.state c.args.space.now in
    let now = g.R.Reads.state c.loop-left.space in
    let reads = c.loop-left.invariant.reads in
    same_has (IsTextFault old c.args.property) c.from_residual.result c.in_err-read_block.field-0.0 c.from_residual.ensures.1
    (block_fault old now (reads_records _ old now reads) (ap (λ (z : State). z.shape) (reads_same _ old now reads)) c.args.property c.loop-left.from
    c.loop-left.at c.loop-left.left c.piece_size-piece.result c.in_err-read_block.field-0.0 text.long
    (c.loop-left.invariant.reached tells text) (omega (arith, c.loop-left-test.true)) c.piece_size-piece.ensures (c.in_err-read_block.ensures.damaged tells))

pub returns-then-at-clause-damaged : goal.returns-then-at-clause-damaged
returns-then-at-clause-damaged g c tells text =
    let old = g.R.Reads.state c.args.space.now in
    subst (IsTextFault old c.args.property) (sym c.damaged.ensures)
    (text_too_long old c.args.property c.loop-left.from c.loop-left.at c.loop-left.left text.long (c.loop-left.invariant.reached tells text)
    (omega (arith, c.loop-left-test.false)) c.if-at.true)

pub returns-in_err-read_block-clause-met : goal.returns-in_err-read_block-clause-met
returns-in_err-read_block-clause-met g c _ = never_ok c.from_residual.result _ _ c.from_residual.ensures.1

pub returns-in_err-read_block-clause-size : goal.returns-in_err-read_block-clause-size
returns-in_err-read_block-clause-size g c = never_ok c.from_residual.result _ _ c.from_residual.ensures.1

pub returns-in_err-extend_from_slice-clause-met : goal.returns-in_err-extend_from_slice-clause-met
returns-in_err-extend_from_slice-clause-met g c _ =
    never_ok c.from_residual-in_err-extend_from_slice.result _ _ c.from_residual-in_err-extend_from_slice.ensures.1

pub returns-in_err-extend_from_slice-clause-size : goal.returns-in_err-extend_from_slice-clause-size
returns-in_err-extend_from_slice-clause-size g c =
    never_ok c.from_residual-in_err-extend_from_slice.result _ _ c.from_residual-in_err-extend_from_slice.ensures.1

pub returns-clause-cause : goal.returns-clause-cause
returns-clause-cause g c = ok_cause _ _ _ _ (omega arith)

pub returns-in_err-read_block-clause-cause : goal.returns-in_err-read_block-clause-cause
returns-in_err-read_block-clause-cause g c =
    cause_passed _ _ _ c.from_residual.result c.in_err-read_block.field-0.0 c.loop-left.invariant.later c.in_err-read_block.ensures.cause
    c.from_residual.ensures.1

pub returns-in_err-read_block-clause-onward : goal.returns-in_err-read_block-clause-onward
returns-in_err-read_block-clause-onward g c = g.met.R.Reads.further_onward _ _ _ c.loop-left.invariant.onward c.in_err-read_block.ensures.onward

pub returns-in_err-extend_from_slice-clause-cause : goal.returns-in_err-extend_from_slice-clause-cause
returns-in_err-extend_from_slice-clause-cause g c =
    memory_cause _ _ c.from_residual-in_err-extend_from_slice.result (later_on c.loop-left.invariant.later c.in_ok-read_block.ensures.cause.later)
    c.from_residual-in_err-extend_from_slice.ensures.1

pub returns-in_err-extend_from_slice-clause-onward : goal.returns-in_err-extend_from_slice-clause-onward
returns-in_err-extend_from_slice-clause-onward g c = g.met.R.Reads.further_onward _ _ _ c.loop-left.invariant.onward c.in_ok-read_block.ensures.onward

pub returns-in_err-extend_from_slice-clause-damaged : goal.returns-in_err-extend_from_slice-clause-damaged
returns-in_err-extend_from_slice-clause-damaged g c tells text =
    same_has (IsTextFault (g.R.Reads.state c.args.space.now) c.args.property) c.from_residual-in_err-extend_from_slice.result faults.Memory
    c.from_residual-in_err-extend_from_slice.ensures.1 tt

pub returns-in_err-extend_from_slice-clause-not_damaged : goal.returns-in_err-extend_from_slice-clause-not_damaged
returns-in_err-extend_from_slice-clause-not_damaged g c tells text blocks has given =
    same_has (λ fault. IfSome (damage_of fault) (λ _. ⊥)) c.from_residual-in_err-extend_from_slice.result faults.Memory
    c.from_residual-in_err-extend_from_slice.ensures.1 tt

pub returns-then-at-clause-onward : goal.returns-then-at-clause-onward
returns-then-at-clause-onward g c = c.loop-left.invariant.onward

pub returns-clause-onward : goal.returns-clause-onward
returns-clause-onward g c = c.loop-left.invariant.onward

pub returns-clause-size : goal.returns-clause-size
returns-clause-size g c = omega (arith, c.loop-left.invariant.size, c.loop-left-test.false)

pub returns-then-at-clause-at_most : goal.returns-then-at-clause-at_most
returns-then-at-clause-at_most g c = reads_more _ _ _ _ (omega (arith, c.loop-left.invariant.size)) c.loop-left.invariant.reads

pub returns-clause-at_most : goal.returns-clause-at_most
returns-clause-at_most g c = reads_more _ _ _ _ (omega (arith, c.loop-left.invariant.size)) c.loop-left.invariant.reads
