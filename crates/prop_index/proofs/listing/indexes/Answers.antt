use Rattle.std.proofs.Common.{inl, inr, refl, ◌≡◌, ◌+◌, ◌++◌, [], ◌∷◌, ℕ, map, length, arith, ap, sym, ◌∙◌, subst, length-append}
use Rattle.std.proofs.lemmas.List.{length-map, map-append}
use Rattle.std.proofs.lemmas.Result.{err_from_is_err_and}
use Rattle.rec_bytes.specs.declared.record.Rec.{Rec}
use Rattle.rec_bytes.specs.Format as format
use Rattle.rec_bytes.specs.Record.{field}
use Rattle.store_rules.specs.Chains.{IsWalk}
use Rattle.store_rules.specs.Indexes.{first_definition, index_rec, next_definition}
use Rattle.store_rules.specs.Views.{Records, kind_at}
use Rattle.prop_store.proofs.ReadCounts.{reads_more, reads_one, reads_records, reads_same, reads_then}
use Rattle.prop_index.specs.Blaming.{BlamesBroken}
use Rattle.prop_store.proofs.Exits.{same_has, space_exit, space_has}
use Rattle.prop_index.specs.Blaming.{IsDefinitionAt, IsOfIndexes, NamesIndexes}
use Rattle.prop_index.specs.Listing.{pair_of}
use Rattle.prop_index.proofs.IndexBlames.{definition_begins, definition_blames, definition_goes_on, many_break}
use Rattle.prop_index.proofs.IndexBlames.{pairs_begin, pairs_end, pairs_go_on, read_fault_same, read_names}
use Rattle.prop_index.proofs.Reread.{definitions_of, room_after}
use Rattle.prop_index.proofs.Walks.{walk_begins, walk_here, walk_on, walk_over}
use Rattle.prop_store.proofs.Causes.{cause_passed, later_on, memory_cause, space_cause_passed}
use Rattle.rec_bytes.proofs.Causes.{never_ok, ok_cause}
use Rattle.prop_index.proofs.Causes.{told_cause}
use Rattle.rec_bytes.specs.declared.fault.Fault.TheVariants as faults
use Rattle.prop_index.proofs.listing.indexes.Goals as goal

pub returns-in_err-get_into-clause-at_most : goal.returns-in_err-get_into-clause-at_most
returns-in_err-get_into-clause-at_most g c = reads_one 17 _ _ (omega arith) c.get_into.ensures.state

pub loop-init : goal.loop-init
loop-init g c =
    let s = g.R.Reads.state c.args.space.now in
    let first_is : g.R.Reads.tells → c.number-at.result ≡ first_definition s.records
    = λ tells. c.number-at.ensures ∙ ap (λ (r : Rec). field 4 r format.meta_definition)
    (c.in_ok-get_into.ensures.got tells ∙ ap (λ k. s.records k) c.meta_key.ensures) in
    record {
      told = λ tells ds are. (
        [],
        walk_begins _ ds c.number-at.result (subst (λ (n : ℕ). IsWalk (next_definition s.records) n ds) (sym (first_is tells)) are.walk),
        c.new-pairs.ensures.items,
      );
      named_is = inr (refl, refl);
      at = λ tells. definition_begins s c.number-at.result (first_is tells);
      met = λ tells. pairs_begin s.records c.number-at.result _ (first_is tells) c.new-pairs.ensures.items;
      few = ap length c.new-pairs.ensures.items;
      reads = reads_one 1 _ _ (omega arith) c.get_into.ensures.state;
      onward = c.get_into.ensures.onward;
      later = c.get_into.ensures.cause.later;
    }

pub returns-then-at-clause-listed : goal.returns-then-at-clause-listed
returns-then-at-clause-listed g c tells wanted ix =
    let s = g.R.Reads.state c.args.space.now in
    let told = c.loop.invariant.told tells ix.definitions (definitions_of s.records wanted ix) in
    told.2 ∙ ap (map (pair_of s.records)) (walk_over _ ix.definitions c.loop.at told.0 told.1 c.if-at.true)

pub returns-in_err-record_at-clause-not_damaged : goal.returns-in_err-record_at-clause-not_damaged
returns-in_err-record_at-clause-not_damaged g c tells wanted ix room =
    let s = g.R.Reads.state c.args.space.now in
    let now = g.R.Reads.state c.loop.space in
    let told = c.loop.invariant.told tells ix.definitions (definitions_of s.records wanted ix) in
    let here = walk_here _ ix.definitions c.loop.at told.0 told.1 c.if-at.false in
    let p = err_from_is_err_and c.from_residual-in_err-record_at.result c.from_residual-in_err-record_at.ensures.1 in
    rw (p.1, p.2) (c.in_err-record_at.ensures.not_damaged tells (room_after s now format.index_file (reads_same _ s now c.loop.invariant.reads) room)
    (ap (λ (r : Records). kind_at r format.index_file c.loop.at) (reads_records _ s now c.loop.invariant.reads) ∙ ix.defined c.loop.at here.0))

pub returns-in_err-record_at-clause-at_most : goal.returns-in_err-record_at-clause-at_most
returns-in_err-record_at-clause-at_most g c = reads_then _ 1 17 _ _ _ (omega arith) c.loop.invariant.reads c.in_err-record_at.ensures.at_most

pub loop-preserved : goal.loop-preserved
loop-preserved g c =
    let s = g.R.Reads.state c.args.space.now in
    let now = g.R.Reads.state c.loop.space in
    let same = reads_records _ s now c.loop.invariant.reads in
    let rec_is : g.R.Reads.tells → c.record_at.new.rec ≡ index_rec s.records c.loop.at = λ tells. c.in_ok-record_at.ensures.got tells
    ∙ ap (λ (r : Records). index_rec r c.loop.at) same in
    let used : g.R.Reads.tells → kind_at s.records format.index_file c.loop.at ≡ format.definition
    = λ tells. ap (λ (r : Records). kind_at r format.index_file c.loop.at) (sym same) ∙ c.in_ok-record_at.ensures.used tells in
    let next_is : g.R.Reads.tells → c.number-at-in-loop.result ≡ next_definition s.records c.loop.at
    = λ tells. c.number-at-in-loop.ensures ∙ ap (λ (r : Rec). field 4 r format.definition_next) (rec_is tells) in
    let pair_is : g.R.Reads.tells → record { label = c.number-label.result; key = c.number-key.result } ≡ pair_of s.records c.loop.at
    = λ tells. λ i. record {
      label = (c.number-label.ensures ∙ ap (λ (r : Rec). field 4 r format.definition_label) (rec_is tells)) i;
      key =
          (c.number-key.ensures ∙ ap (λ (r : Rec). field 4 r format.definition_key) (rec_is tells)) i;
    } in
    record {
      told = λ tells ds are.
          let told = c.loop.invariant.told tells ds are in (
            told.0 ++ c.loop.at ∷ [],
            walk_on _ ds c.loop.at told.0 told.1 c.number-at-in-loop.result c.if-at.false (next_is tells),
            c.in_ok-push.ensures.items ∙ (λ i. told.2 i ++ pair_is tells i ∷ []) ∙ sym (map-append (pair_of s.records) told.0 (c.loop.at ∷ [])),
          );
      named_is = subst IsOfIndexes (sym c.out_of_range-named.ensures) (inl refl);
      at = λ tells. subst (IsDefinitionAt s c.number-at-in-loop.result) (sym c.out_of_range-named.ensures)
          (definition_goes_on s c.loop.at c.loop.named (c.loop.invariant.at tells) c.if-at.false c.number-at-in-loop.result (used tells) (next_is tells));
      met = λ tells. pairs_go_on s.records c.loop.at c.number-at-in-loop.result c.loop.pairs.items _ _ (c.loop.invariant.met tells) c.if-at.false (used tells)
          (next_is tells) c.in_ok-push.ensures.items (pair_is tells);
      few = ap length c.in_ok-push.ensures.items ∙ length-append c.loop.pairs.items _ ∙ ap (λ n. n + 1) c.loop.invariant.few;
      reads = reads_then _ 1 _ _ _ _ (omega arith) c.loop.invariant.reads c.in_ok-record_at.ensures.at_most;
      onward = g.met.R.Reads.further_onward _ _ _ c.loop.invariant.onward c.in_ok-record_at.ensures.onward;
      later = omega (arith, c.loop.invariant.later, c.in_ok-record_at.ensures.cause.later);
    }

pub returns-clause-listed : goal.returns-clause-listed
returns-clause-listed g c tells wanted ix =
    let s = g.R.Reads.state c.args.space.now in
    let told = c.loop.invariant.told tells ix.definitions (definitions_of s.records wanted ix) in
    told.2 ∙ ap (map (pair_of s.records)) (walk_over _ ix.definitions c.loop.at told.0 told.1 c.if-at-2.false)

pub returns-in_err-push-clause-at_most : goal.returns-in_err-push-clause-at_most
returns-in_err-push-clause-at_most g c = reads_then _ 1 17 _ _ _ (omega arith) c.loop.invariant.reads c.in_ok-record_at.ensures.at_most

pub returns-then-at-clause-walked : goal.returns-then-at-clause-walked
returns-then-at-clause-walked g c tells =
    let s = g.R.Reads.state c.args.space.now in
    pairs_end s.records c.loop.at c.loop.pairs.items (c.loop.invariant.met tells) c.if-at.true

pub returns-clause-walked : goal.returns-clause-walked
returns-clause-walked g c tells =
    let s = g.R.Reads.state c.args.space.now in
    pairs_end s.records c.loop.at c.loop.pairs.items (c.loop.invariant.met tells) c.if-at-2.false

pub returns-in_err-record_at-clause-damaged : goal.returns-in_err-record_at-clause-damaged
returns-in_err-record_at-clause-damaged g c tells =
    let s = g.R.Reads.state c.args.space.now in
    let now = g.R.Reads.state c.loop.space in
    same_has (BlamesBroken s.records s.shape) c.from_residual-in_err-record_at.result c.in_err-record_at.field-0.0 c.from_residual-in_err-record_at.ensures.1
    (definition_blames s c.loop.at c.loop.named (c.loop.invariant.at tells) c.if-at.false c.in_err-record_at.field-0.0
    (read_fault_same s now c.loop.at format.definition c.loop.named (reads_same _ s now c.loop.invariant.reads) c.in_err-record_at.field-0.0
    (c.in_err-record_at.ensures.damaged tells)))

pub returns-then-at-2-clause-damaged : goal.returns-then-at-2-clause-damaged
returns-then-at-2-clause-damaged g c tells =
    let s = g.R.Reads.state c.args.space.now in
    subst (BlamesBroken s.records s.shape) (sym c.damaged.ensures) (many_break s (λ has.
    let told = c.loop.invariant.told tells has.members has.list in
    let here = walk_here _ has.members c.loop.at told.0 told.1 c.if-at-2.true in
    let passed : length told.0 ≡ 16 = sym (ap length told.2 ∙ length-map told.0 (pair_of s.records)) ∙ c.loop.invariant.few ∙ omega arith in
    omega (arith, here.1, passed, has.list.few)))

pub returns-in_err-record_at-clause-names : goal.returns-in_err-record_at-clause-names
returns-in_err-record_at-clause-names g c tells =
    let now = g.R.Reads.state c.loop.space in
    same_has NamesIndexes c.from_residual-in_err-record_at.result c.in_err-record_at.field-0.0 c.from_residual-in_err-record_at.ensures.1
    (read_names now c.loop.at format.definition c.loop.named c.in_err-record_at.field-0.0 c.loop.invariant.named_is (c.in_err-record_at.ensures.damaged tells))

pub returns-then-at-2-clause-names : goal.returns-then-at-2-clause-names
returns-then-at-2-clause-names g c tells = subst NamesIndexes (sym c.damaged.ensures) (inr (refl, refl))

pub returns-in_err-record_at-clause-onward : goal.returns-in_err-record_at-clause-onward
returns-in_err-record_at-clause-onward g c =
    g.met.R.Reads.further_onward _ _ _ c.loop.invariant.onward c.in_err-record_at.ensures.onward

pub returns-in_err-push-clause-onward : goal.returns-in_err-push-clause-onward
returns-in_err-push-clause-onward g c =
    g.met.R.Reads.further_onward _ _ _ c.loop.invariant.onward c.in_ok-record_at.ensures.onward

pub returns-in_err-record_at-clause-cause : goal.returns-in_err-record_at-clause-cause
returns-in_err-record_at-clause-cause g c =
    cause_passed _ _ _ c.from_residual-in_err-record_at.result c.in_err-record_at.field-0.0
    c.loop.invariant.later c.in_err-record_at.ensures.cause
    c.from_residual-in_err-record_at.ensures.1

pub returns-in_err-push-clause-cause : goal.returns-in_err-push-clause-cause
returns-in_err-push-clause-cause g c =
    memory_cause _ _ c.from_residual-in_err-push.result (later_on c.loop.invariant.later c.in_ok-record_at.ensures.cause.later)
    c.from_residual-in_err-push.ensures.1

pub returns-in_err-get_into-clause-listed : goal.returns-in_err-get_into-clause-listed
returns-in_err-get_into-clause-listed g c _ _ _ = never_ok c.from_residual.result _ _ c.from_residual.ensures.1

pub returns-in_err-get_into-clause-walked : goal.returns-in_err-get_into-clause-walked
returns-in_err-get_into-clause-walked g c _ = never_ok c.from_residual.result _ _ c.from_residual.ensures.1

pub returns-in_err-get_into-clause-few : goal.returns-in_err-get_into-clause-few
returns-in_err-get_into-clause-few g c = never_ok c.from_residual.result _ _ c.from_residual.ensures.1

pub returns-in_err-record_at-clause-listed : goal.returns-in_err-record_at-clause-listed
returns-in_err-record_at-clause-listed g c _ _ _ = never_ok c.from_residual-in_err-record_at.result _ _ c.from_residual-in_err-record_at.ensures.1

pub returns-in_err-record_at-clause-walked : goal.returns-in_err-record_at-clause-walked
returns-in_err-record_at-clause-walked g c _ = never_ok c.from_residual-in_err-record_at.result _ _ c.from_residual-in_err-record_at.ensures.1

pub returns-in_err-record_at-clause-few : goal.returns-in_err-record_at-clause-few
returns-in_err-record_at-clause-few g c = never_ok c.from_residual-in_err-record_at.result _ _ c.from_residual-in_err-record_at.ensures.1

pub returns-in_err-push-clause-listed : goal.returns-in_err-push-clause-listed
returns-in_err-push-clause-listed g c _ _ _ = never_ok c.from_residual-in_err-push.result _ _ c.from_residual-in_err-push.ensures.1

pub returns-in_err-push-clause-walked : goal.returns-in_err-push-clause-walked
returns-in_err-push-clause-walked g c _ = never_ok c.from_residual-in_err-push.result _ _ c.from_residual-in_err-push.ensures.1

pub returns-in_err-push-clause-few : goal.returns-in_err-push-clause-few
returns-in_err-push-clause-few g c = never_ok c.from_residual-in_err-push.result _ _ c.from_residual-in_err-push.ensures.1

pub returns-clause-cause : goal.returns-clause-cause
returns-clause-cause g c = ok_cause _ _ _ _ (omega arith)

pub returns-in_err-get_into-clause-cause : goal.returns-in_err-get_into-clause-cause
returns-in_err-get_into-clause-cause g c =
    space_cause_passed _ _ _ c.from_residual.result c.in_err-get_into.field-0.0 (omega arith) c.in_err-get_into.ensures.cause c.from_residual.ensures.1

pub returns-in_err-get_into-clause-damaged : goal.returns-in_err-get_into-clause-damaged
returns-in_err-get_into-clause-damaged g c tells =
    let s = g.R.Reads.state c.args.space.now in
    space_has (BlamesBroken s.records s.shape) tt tt c.from_residual.result c.in_err-get_into.field-0.0 c.from_residual.ensures.1

pub returns-in_err-get_into-clause-names : goal.returns-in_err-get_into-clause-names
returns-in_err-get_into-clause-names g c tells = space_has NamesIndexes tt tt c.from_residual.result c.in_err-get_into.field-0.0 c.from_residual.ensures.1

pub returns-in_err-get_into-clause-not_damaged : goal.returns-in_err-get_into-clause-not_damaged
returns-in_err-get_into-clause-not_damaged g c tells wanted ix room = space_exit c.from_residual.result c.in_err-get_into.field-0.0 c.from_residual.ensures.1

pub returns-in_err-get_into-clause-onward : goal.returns-in_err-get_into-clause-onward
returns-in_err-get_into-clause-onward g c = c.get_into.ensures.onward

pub returns-in_err-push-clause-damaged : goal.returns-in_err-push-clause-damaged
returns-in_err-push-clause-damaged g c tells =
    let s = g.R.Reads.state c.args.space.now in
    same_has (BlamesBroken s.records s.shape) c.from_residual-in_err-push.result faults.Memory c.from_residual-in_err-push.ensures.1 tt

pub returns-in_err-push-clause-names : goal.returns-in_err-push-clause-names
returns-in_err-push-clause-names g c tells = same_has NamesIndexes c.from_residual-in_err-push.result faults.Memory c.from_residual-in_err-push.ensures.1 tt

pub returns-clause-at_most : goal.returns-clause-at_most
returns-clause-at_most g c = reads_more _ 17 _ _ (omega arith) c.loop.invariant.reads

pub returns-then-at-clause-at_most : goal.returns-then-at-clause-at_most
returns-then-at-clause-at_most g c = reads_more _ 17 _ _ (omega arith) c.loop.invariant.reads

pub returns-then-at-2-clause-at_most : goal.returns-then-at-2-clause-at_most
returns-then-at-2-clause-at_most g c = reads_more _ 17 _ _ (omega arith) c.loop.invariant.reads

pub returns-clause-few : goal.returns-clause-few
returns-clause-few g c = omega (arith, c.loop.invariant.few)

pub returns-then-at-clause-few : goal.returns-then-at-clause-few
returns-then-at-clause-few g c = omega (arith, c.loop.invariant.few)

pub returns-clause-onward : goal.returns-clause-onward
returns-clause-onward g c = c.loop.invariant.onward

pub returns-then-at-clause-onward : goal.returns-then-at-clause-onward
returns-then-at-clause-onward g c = c.loop.invariant.onward

pub returns-then-at-2-clause-onward : goal.returns-then-at-2-clause-onward
returns-then-at-2-clause-onward g c = c.loop.invariant.onward

pub returns-then-at-clause-cause : goal.returns-then-at-clause-cause
returns-then-at-clause-cause g c = ok_cause _ _ _ _ c.loop.invariant.later

pub returns-then-at-2-clause-cause : goal.returns-then-at-2-clause-cause
returns-then-at-2-clause-cause g c = told_cause _ _ _ _ c.loop.invariant.later c.damaged.ensures

pub returns-then-at-2-clause-not_damaged : goal.returns-then-at-2-clause-not_damaged
returns-then-at-2-clause-not_damaged g c tells wanted ix room =
    let s = g.R.Reads.state c.args.space.now in
    let are = definitions_of s.records wanted ix in
    let told = c.loop.invariant.told tells ix.definitions are in
    let here = walk_here _ ix.definitions c.loop.at told.0 told.1 c.if-at-2.true in
    let passed : length told.0 ≡ 16 = sym (ap length told.2 ∙ length-map told.0 (pair_of s.records)) ∙ c.loop.invariant.few ∙ omega arith in
    absurd (omega (arith, here.1, passed, are.few))
