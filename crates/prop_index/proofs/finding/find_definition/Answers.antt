use Rattle.std.proofs.Common.{inl, inr, refl, ◌≡◌, ◌+◌, ℕ, length, arith, ap, sym, ◌∙◌, subst}
use Rattle.std.proofs.lemmas.Bool.{true≢false}
use Rattle.rec_bytes.specs.declared.record.Rec.{Rec}
use Rattle.rec_bytes.specs.Format as format
use Rattle.rec_bytes.specs.Record.{field}
use Rattle.store_rules.specs.Chains.{IsWalk}
use Rattle.store_rules.specs.Indexes.{first_definition, index_rec, next_definition}
use Rattle.store_rules.specs.Views.{Records, kind_at}
use Rattle.prop_store.proofs.ReadCounts.{reads_more, reads_one, reads_records, reads_same, reads_then}
use Rattle.prop_index.specs.Blaming.{BlamesBroken}
use Rattle.prop_store.proofs.Exits.{same_has, space_has}
use Rattle.prop_index.specs.Blaming.{IsDefinitionAt, IsOfIndexes, NamesIndexes}
use Rattle.prop_index.specs.Finding.{IsPair}
use Rattle.prop_index.specs.Naming.{BlamesMark}
use Rattle.prop_index.proofs.IndexNamed.{definition_marks}
use Rattle.prop_index.proofs.IndexBlames.{definition_begins, definition_blames, definition_goes_on, many_break}
use Rattle.prop_index.proofs.IndexBlames.{others_begin, others_end, others_go_on, read_fault_same, read_names}
use Rattle.prop_index.proofs.Searches.{search_begins, search_here, search_on, search_over}
use Rattle.prop_store.proofs.Causes.{cause_passed, later_on, space_cause_passed}
use Rattle.rec_bytes.proofs.Causes.{never_ok, ok_cause}
use Rattle.prop_index.proofs.Causes.{told_cause}
use Rattle.prop_index.proofs.finding.find_definition.Goals as goal

pub returns-in_err-get_into-clause-at_most : goal.returns-in_err-get_into-clause-at_most
returns-in_err-get_into-clause-at_most g c = reads_one 17 _ _ (omega arith) c.get_into.ensures.state

pub returns-in_err-get_into-clause-cost : goal.returns-in_err-get_into-clause-cost
returns-in_err-get_into-clause-cost g c tells ds are = reads_one (1 + length ds) _ _ (omega arith) c.get_into.ensures.state

pub loop-init : goal.loop-init
loop-init g c =
    let s = g.R.Reads.state c.args.space.now in
    let first_is : g.R.Reads.tells → c.number-at.result ≡ first_definition s.records
    = λ tells. c.number-at.ensures ∙ ap (λ (r : Rec). field 4 r format.meta_definition)
    (c.in_ok-get_into.ensures.got tells ∙ ap (λ k. s.records k) c.meta_key.ensures) in
    record {
      told = λ tells ds are. search_begins _ _ ds c.number-at.result (subst (λ (n : ℕ). IsWalk (next_definition s.records) n ds) (sym (first_is tells))
          are.walk);
      named_is = inr (refl, refl);
      at = λ tells. definition_begins s c.number-at.result (first_is tells);
      others = λ tells. others_begin s.records c.args.label c.args.key c.number-at.result (first_is tells);
      reads = reads_one 1 _ _ (omega arith) c.get_into.ensures.state;
      onward = c.get_into.ensures.onward;
      later = c.get_into.ensures.cause.later;
    }

pub returns-then-at-clause-found : goal.returns-then-at-clause-found
returns-then-at-clause-found g c tells ds are = search_over _ _ ds c.loop.at c.loop.counter (c.loop.invariant.told tells ds are) c.if-at.true

pub returns-in_err-record_at-clause-listed : goal.returns-in_err-record_at-clause-listed
returns-in_err-record_at-clause-listed g c tells ds are =
    let s = g.R.Reads.state c.args.space.now in
    let now = g.R.Reads.state c.loop.space in
    let here = search_here _ _ ds c.loop.at c.loop.counter (c.loop.invariant.told tells ds are) c.if-at.false in
    same_has (BlamesMark s) c.from_residual-in_err-record_at.result c.in_err-record_at.field-0.0 c.from_residual-in_err-record_at.ensures.1
    (definition_marks s ds are c.loop.at here.0 c.loop.named c.in_err-record_at.field-0.0
    (read_fault_same s now c.loop.at format.definition c.loop.named (reads_same _ s now c.loop.invariant.reads) c.in_err-record_at.field-0.0
    (c.in_err-record_at.ensures.damaged tells)))

pub returns-in_err-record_at-clause-cost : goal.returns-in_err-record_at-clause-cost
returns-in_err-record_at-clause-cost g c tells ds are =
    let few = (search_here _ _ ds c.loop.at c.loop.counter (c.loop.invariant.told tells ds are) c.if-at.false).1 in
    reads_then _ 1 _ _ _ _ (omega (arith, few)) c.loop.invariant.reads c.in_err-record_at.ensures.at_most

pub returns-in_err-record_at-clause-at_most : goal.returns-in_err-record_at-clause-at_most
returns-in_err-record_at-clause-at_most g c = reads_then _ 1 17 _ _ _ (omega arith) c.loop.invariant.reads c.in_err-record_at.ensures.at_most

pub returns-then-is_of_pair-clause-found : goal.returns-then-is_of_pair-clause-found
returns-then-is_of_pair-clause-found g c tells ds are = (search_here _ _ ds c.loop.at c.loop.counter (c.loop.invariant.told tells ds are) c.if-at.false).0

pub returns-then-is_of_pair-clause-defined : goal.returns-then-is_of_pair-clause-defined
returns-then-is_of_pair-clause-defined g c tells =
    let s = g.R.Reads.state c.args.space.now in
    let now = g.R.Reads.state c.loop.space in
    let same = reads_records _ s now c.loop.invariant.reads in
    let rec_is : c.record_at.new.rec ≡ index_rec s.records c.loop.at = c.in_ok-record_at.ensures.got tells ∙ ap (λ (r : Records). index_rec r c.loop.at) same in
    let says = c.is_of_pair.ensures.0 c.if-is_of_pair.true in
    record {
      rec_is = rec_is;
      leads = (c.loop.invariant.at tells).leads c.if-at.false;
      used = ap (λ (r : Records). kind_at r format.index_file c.loop.at) (sym same) ∙ c.in_ok-record_at.ensures.used tells;
      pair = (
        ap (λ (r : Rec). field 4 r format.definition_label) (sym rec_is) ∙ says.0,
        ap (λ (r : Rec). field 4 r format.definition_key) (sym rec_is)
            ∙ says.1,
      );
    }

pub returns-then-is_of_pair-clause-cost : goal.returns-then-is_of_pair-clause-cost
returns-then-is_of_pair-clause-cost g c tells ds are =
    let few = (search_here _ _ ds c.loop.at c.loop.counter (c.loop.invariant.told tells ds are) c.if-at.false).1 in
    reads_then _ 1 _ _ _ _ (omega (arith, few)) c.loop.invariant.reads c.in_ok-record_at.ensures.at_most

pub returns-then-is_of_pair-clause-at_most : goal.returns-then-is_of_pair-clause-at_most
returns-then-is_of_pair-clause-at_most g c = reads_then _ 1 17 _ _ _ (omega arith) c.loop.invariant.reads c.in_ok-record_at.ensures.at_most

pub loop-preserved : goal.loop-preserved
loop-preserved g c =
    let s = g.R.Reads.state c.args.space.now in
    let now = g.R.Reads.state c.loop.space in
    let same = reads_records _ s now c.loop.invariant.reads in
    let rec_is : g.R.Reads.tells → c.record_at.new.rec ≡ index_rec s.records c.loop.at = λ tells. c.in_ok-record_at.ensures.got tells
    ∙ ap (λ (r : Records). index_rec r c.loop.at) same in
    let next_is : g.R.Reads.tells → c.number-at-in-loop.result ≡ next_definition s.records c.loop.at
    = λ tells. c.number-at-in-loop.ensures ∙ ap (λ (r : Rec). field 4 r format.definition_next) (rec_is tells) in
    let used : g.R.Reads.tells → kind_at s.records format.index_file c.loop.at ≡ format.definition
    = λ tells. ap (λ (r : Records). kind_at r format.index_file c.loop.at) (sym same) ∙ c.in_ok-record_at.ensures.used tells in
    let other : g.R.Reads.tells → ¬ IsPair s.records c.args.label c.args.key c.loop.at
    = λ tells pair. true≢false (sym (c.is_of_pair.ensures.1 (
      ap (λ (r : Rec). field 4 r format.definition_label) (rec_is tells) ∙ pair.0,
      ap
          (λ (r : Rec). field 4 r format.definition_key) (rec_is tells) ∙ pair.1,
    )) ∙ c.if-is_of_pair.false) in
    record {
      told = λ tells ds are. search_on _ _ ds c.loop.at c.loop.counter (c.loop.invariant.told tells ds are) c.number-at-in-loop.result c.if-at.false
          (next_is tells) (other tells);
      named_is = subst IsOfIndexes (sym c.out_of_range-named.ensures) (inl refl);
      at = λ tells. subst (IsDefinitionAt s c.number-at-in-loop.result) (sym c.out_of_range-named.ensures)
          (definition_goes_on s c.loop.at c.loop.named (c.loop.invariant.at tells) c.if-at.false c.number-at-in-loop.result (used tells) (next_is tells));
      others = λ tells. others_go_on s.records c.args.label c.args.key c.loop.at c.number-at-in-loop.result c.loop.counter (c.loop.invariant.others tells)
          c.if-at.false
          (used tells) (next_is tells) (other tells);
      reads = reads_then _ 1 _ _ _ _ (omega arith) c.loop.invariant.reads c.in_ok-record_at.ensures.at_most;
      onward = g.met.R.Reads.further_onward _ _ _ c.loop.invariant.onward c.in_ok-record_at.ensures.onward;
      later = omega (arith, c.loop.invariant.later, c.in_ok-record_at.ensures.cause.later);
    }

pub returns-in_err-record_at-clause-damaged : goal.returns-in_err-record_at-clause-damaged
returns-in_err-record_at-clause-damaged g c tells =
    let s = g.R.Reads.state c.args.space.now in
    let now = g.R.Reads.state c.loop.space in
    same_has (BlamesBroken s.records s.shape) c.from_residual-in_err-record_at.result c.in_err-record_at.field-0.0 c.from_residual-in_err-record_at.ensures.1
    (definition_blames s c.loop.at c.loop.named (c.loop.invariant.at tells) c.if-at.false c.in_err-record_at.field-0.0
    (read_fault_same s now c.loop.at format.definition c.loop.named (reads_same _ s now c.loop.invariant.reads) c.in_err-record_at.field-0.0
    (c.in_err-record_at.ensures.damaged tells)))

pub returns-then-at-2-clause-cost : goal.returns-then-at-2-clause-cost
returns-then-at-2-clause-cost g c tells ds are =
    let counted = (c.loop.invariant.told tells ds are).counted in
    reads_more _ _ _ _ (omega (arith, counted)) c.loop.invariant.reads

pub returns-then-at-2-clause-damaged : goal.returns-then-at-2-clause-damaged
returns-then-at-2-clause-damaged g c tells =
    let s = g.R.Reads.state c.args.space.now in
    subst (BlamesBroken s.records s.shape) (sym c.damaged.ensures) (many_break s (λ has.
    let here = search_here _ _ has.members c.loop.at c.loop.counter (c.loop.invariant.told tells has.members has.list) c.if-at-2.true in
    omega (arith, here.1, has.list.few)))

pub returns-in_err-record_at-clause-names : goal.returns-in_err-record_at-clause-names
returns-in_err-record_at-clause-names g c tells =
    let now = g.R.Reads.state c.loop.space in
    same_has NamesIndexes c.from_residual-in_err-record_at.result c.in_err-record_at.field-0.0 c.from_residual-in_err-record_at.ensures.1
    (read_names now c.loop.at format.definition c.loop.named c.in_err-record_at.field-0.0 c.loop.invariant.named_is (c.in_err-record_at.ensures.damaged tells))

pub returns-then-at-2-clause-names : goal.returns-then-at-2-clause-names
returns-then-at-2-clause-names g c tells = subst NamesIndexes (sym c.damaged.ensures) (inr (refl, refl))

pub returns-then-at-clause-defined : goal.returns-then-at-clause-defined
returns-then-at-clause-defined g c tells = others_end (g.R.Reads.state c.args.space.now).records c.args.label c.args.key c.loop.at
    c.loop.counter (c.loop.invariant.others tells) (omega arith) c.if-at.true

pub returns-clause-defined : goal.returns-clause-defined
returns-clause-defined g c tells = others_end (g.R.Reads.state c.args.space.now).records c.args.label c.args.key c.loop.at c.loop.counter
    (c.loop.invariant.others tells)
    (omega arith) c.if-at-2.false

pub returns-in_err-record_at-clause-onward : goal.returns-in_err-record_at-clause-onward
returns-in_err-record_at-clause-onward g c =
    g.met.R.Reads.further_onward _ _ _ c.loop.invariant.onward c.in_err-record_at.ensures.onward

pub returns-then-is_of_pair-clause-onward : goal.returns-then-is_of_pair-clause-onward
returns-then-is_of_pair-clause-onward g c =
    g.met.R.Reads.further_onward _ _ _ c.loop.invariant.onward c.in_ok-record_at.ensures.onward

pub returns-in_err-record_at-clause-cause : goal.returns-in_err-record_at-clause-cause
returns-in_err-record_at-clause-cause g c =
    cause_passed _ _ _ c.from_residual-in_err-record_at.result c.in_err-record_at.field-0.0
    c.loop.invariant.later c.in_err-record_at.ensures.cause
    c.from_residual-in_err-record_at.ensures.1

pub returns-in_err-get_into-clause-found : goal.returns-in_err-get_into-clause-found
returns-in_err-get_into-clause-found g c _ _ _ = never_ok c.from_residual.result _ _ c.from_residual.ensures.1

pub returns-in_err-get_into-clause-defined : goal.returns-in_err-get_into-clause-defined
returns-in_err-get_into-clause-defined g c _ = never_ok c.from_residual.result _ _ c.from_residual.ensures.1

pub returns-in_err-record_at-clause-found : goal.returns-in_err-record_at-clause-found
returns-in_err-record_at-clause-found g c _ _ _ = never_ok c.from_residual-in_err-record_at.result _ _ c.from_residual-in_err-record_at.ensures.1

pub returns-in_err-record_at-clause-defined : goal.returns-in_err-record_at-clause-defined
returns-in_err-record_at-clause-defined g c _ = never_ok c.from_residual-in_err-record_at.result _ _ c.from_residual-in_err-record_at.ensures.1

pub returns-clause-cause : goal.returns-clause-cause
returns-clause-cause g c = ok_cause _ _ _ _ (omega arith)

pub returns-in_err-get_into-clause-cause : goal.returns-in_err-get_into-clause-cause
returns-in_err-get_into-clause-cause g c =
    space_cause_passed _ _ _ c.from_residual.result c.in_err-get_into.field-0.0 (omega arith) c.in_err-get_into.ensures.cause c.from_residual.ensures.1

pub returns-in_err-get_into-clause-damaged : goal.returns-in_err-get_into-clause-damaged
returns-in_err-get_into-clause-damaged g c tells =
    let s = g.R.Reads.state c.args.space.now in
    space_has (BlamesBroken s.records s.shape) tt tt c.from_residual.result c.in_err-get_into.field-0.0 c.from_residual.ensures.1

pub returns-in_err-get_into-clause-names : goal.returns-in_err-get_into-clause-names
returns-in_err-get_into-clause-names g c tells = space_has NamesIndexes tt tt c.from_residual.result c.in_err-get_into.field-0.0 c.from_residual.ensures.1

pub returns-in_err-get_into-clause-listed : goal.returns-in_err-get_into-clause-listed
returns-in_err-get_into-clause-listed g c tells ds are =
    space_has (BlamesMark (g.R.Reads.state c.args.space.now)) tt tt c.from_residual.result c.in_err-get_into.field-0.0 c.from_residual.ensures.1

pub returns-in_err-get_into-clause-onward : goal.returns-in_err-get_into-clause-onward
returns-in_err-get_into-clause-onward g c = c.get_into.ensures.onward

pub returns-clause-at_most : goal.returns-clause-at_most
returns-clause-at_most g c = reads_more _ 17 _ _ (omega arith) c.loop.invariant.reads

pub returns-then-at-clause-at_most : goal.returns-then-at-clause-at_most
returns-then-at-clause-at_most g c = reads_more _ 17 _ _ (omega arith) c.loop.invariant.reads

pub returns-then-at-2-clause-at_most : goal.returns-then-at-2-clause-at_most
returns-then-at-2-clause-at_most g c = reads_more _ 17 _ _ (omega arith) c.loop.invariant.reads

pub returns-clause-cost : goal.returns-clause-cost
returns-clause-cost g c tells ds are =
    let counted = (c.loop.invariant.told tells ds are).counted in
    reads_more _ _ _ _ (omega (arith, counted)) c.loop.invariant.reads

pub returns-then-at-clause-cost : goal.returns-then-at-clause-cost
returns-then-at-clause-cost g c tells ds are =
    let counted = (c.loop.invariant.told tells ds are).counted in
    reads_more _ _ _ _ (omega (arith, counted)) c.loop.invariant.reads

pub returns-clause-onward : goal.returns-clause-onward
returns-clause-onward g c = c.loop.invariant.onward

pub returns-then-at-clause-onward : goal.returns-then-at-clause-onward
returns-then-at-clause-onward g c = c.loop.invariant.onward

pub returns-then-at-2-clause-onward : goal.returns-then-at-2-clause-onward
returns-then-at-2-clause-onward g c = c.loop.invariant.onward

pub returns-then-at-clause-cause : goal.returns-then-at-clause-cause
returns-then-at-clause-cause g c = ok_cause _ _ _ _ c.loop.invariant.later

pub returns-then-is_of_pair-clause-cause : goal.returns-then-is_of_pair-clause-cause
returns-then-is_of_pair-clause-cause g c = ok_cause _ _ _ _ (later_on c.loop.invariant.later c.in_ok-record_at.ensures.cause.later)

pub returns-then-at-2-clause-cause : goal.returns-then-at-2-clause-cause
returns-then-at-2-clause-cause g c = told_cause _ _ _ _ c.loop.invariant.later c.damaged.ensures

pub returns-then-at-2-clause-listed : goal.returns-then-at-2-clause-listed
returns-then-at-2-clause-listed g c tells ds are =
    let here = search_here _ _ ds c.loop.at c.loop.counter (c.loop.invariant.told tells ds are) c.if-at-2.true in
    absurd (omega (arith, here.1, are.few))
