use Rattle.std.proofs.Common.{◌≡◌, ◌≤◌, ◌+◌, ℕ, ap, sym, ◌∙◌, subst, length, List, arith, rules}
use Rattle.std.proofs.lemmas.Bool.{true≢false}
use Rattle.std.proofs.lemmas.Result.{err_from_is_err_and}
use Rattle.rec_bytes.specs.Format as format
use Rattle.rec_bytes.specs.Meta as metas
use Rattle.rec_bytes.specs.RecordFiles.{meta_key_of}
use Rattle.rec_bytes.specs.Space.{SameButReads, State}
use Rattle.store_rules.specs.Indexes.{wanted_in}
use Rattle.store_rules.specs.Views.{Records, high}
use Rattle.prop_store.proofs.ReadCounts.{reads_same}
use Rattle.prop_index.specs.Collecting.{contents_in}
use Rattle.prop_index.specs.Defining.{AreNamesOf, HasLeft}
use Rattle.prop_index.specs.MakeFault.{BlamesBroken, IsCollectCause, IsCollectFault, of_take}
use Rattle.prop_index.specs.Entering.{IsNotFull}
use Rattle.prop_index.specs.Making.{IsMakeCause, IsMakeRefusal, IsPairCause, IsUnwrittenFull, count_of}
use Rattle.prop_index.specs.declared.make_fault.MakeFault.{MakeFault}
use Rattle.prop_index.specs.declared.make_fault.MakeFault.TheVariants as makes
use Rattle.id_freelist.specs.declared.take_fault.TakeFault.{TakeFault}
use Rattle.id_freelist.specs.declared.take_fault.TakeFault.TheVariants as takes
use Rattle.prop_index.specs.declared.entry_row.Content.{Content}
use Rattle.prop_index.proofs.IndexMade.{left_before, left_reread, mishap_reread, written_reread}
use Rattle.prop_index.proofs.IndexTouches.{index_same, index_then}
use Rattle.prop_index.proofs.ListKept.{any_list}
use Rattle.prop_index.proofs.LinkRules.{store_room}
use Rattle.prop_index.proofs.Lookups.{nodes_readable}
use Rattle.prop_index.proofs.Counting.{collect_cause, make_before, make_reread, pair_cause, roomy_cause, take_make}
use Rattle.prop_index.proofs.MakeFaults.{collect_refusal, mishap_refusal, pair_refusal}
use Rattle.prop_index.proofs.Reread.{readable_after, same_records, same_then}
use Rattle.prop_index.specs.Touching.{TouchesIndex}
use Rattle.rec_bytes.proofs.Causes.{never_ok}
use Rattle.prop_index.proofs.Causes.{make_other_cause, make_passed}
use Rattle.prop_store.proofs.Causes.{later_on}
use Rattle.prop_index.proofs.making.make.Goals as goal

pub returns-in_err-test_pair-clause-refused : goal.returns-in_err-test_pair-clause-refused
returns-in_err-test_pair-clause-refused g c tells was named =
    let s = g.S.Reads.state c.args.space.now in
    let p = err_from_is_err_and c.from_residual.result c.from_residual.ensures.1 in
    rw (p.1, p.2) (pair_refusal s was c.args.label c.args.key c.in_err-test_pair.field-0.0 (c.in_err-test_pair.ensures.refused tells (wanted_in s.records)
    was.indexes (store_room s was.store)))

pub returns-in_err-test_pair-clause-touches : goal.returns-in_err-test_pair-clause-touches
returns-in_err-test_pair-clause-touches g c tells = index_same _ _ _ (reads_same 17 (g.S.Reads.state c.args.space.now) (g.S.Reads.state c.test_pair.new.space)
    c.test_pair.ensures.reads)

pub returns-in_err-test_pair-clause-at_most : goal.returns-in_err-test_pair-clause-at_most
returns-in_err-test_pair-clause-at_most g c = index_same _ _ _ (reads_same 17 (g.S.Reads.state c.args.space.now) (g.S.Reads.state c.test_pair.new.space)
    c.test_pair.ensures.reads)

pub returns-in_err-contents-clause-refused : goal.returns-in_err-contents-clause-refused
returns-in_err-contents-clause-refused g c tells was named =
    let s = g.S.Reads.state c.args.space.now in
    let a = g.S.Reads.state c.test_pair.new.space in
    let same_a : SameButReads s a = reads_same 17 s a c.test_pair.ensures.reads in
    let may = c.in_ok-test_pair.ensures.may tells (wanted_in s.records) was.indexes in
    let is = subst (λ (r : Records). IsCollectFault r c.args.label c.args.key c.in_err-contents.field-0.0) (same_records s a same_a)
    (c.in_err-contents.ensures.refused tells (readable_after s a same_a (nodes_readable s was))) in
    let p = err_from_is_err_and c.from_residual-in_err-contents.result c.from_residual-in_err-contents.ensures.1 in
    rw (p.1, p.2) (collect_refusal s was c.args.label c.args.key c.in_err-contents.field-0.0 may is)

pub returns-in_err-contents-clause-touches : goal.returns-in_err-contents-clause-touches
returns-in_err-contents-clause-touches g c tells =
    let s = g.S.Reads.state c.args.space.now in
    let a = g.S.Reads.state c.test_pair.new.space in
    let b = g.S.Reads.state c.collect.new.space in
    index_same _ s b (same_then s a b (reads_same 17 s a c.test_pair.ensures.reads) c.collect.ensures.same)

pub returns-in_err-contents-clause-at_most : goal.returns-in_err-contents-clause-at_most
returns-in_err-contents-clause-at_most g c =
    let s = g.S.Reads.state c.args.space.now in
    let a = g.S.Reads.state c.test_pair.new.space in
    let b = g.S.Reads.state c.collect.new.space in
    index_same _ s b (same_then s a b (reads_same 17 s a c.test_pair.ensures.reads) c.collect.ensures.same)

pub returns-then-not-has_room-clause-touches : goal.returns-then-not-has_room-clause-touches
returns-then-not-has_room-clause-touches g c tells =
    let s = g.S.Reads.state c.args.space.now in
    let a = g.S.Reads.state c.test_pair.new.space in
    let b = g.S.Reads.state c.collect.new.space in
    index_same _ s b (same_then s a b (reads_same 17 s a c.test_pair.ensures.reads) c.collect.ensures.same)

pub returns-then-not-has_room-clause-at_most : goal.returns-then-not-has_room-clause-at_most
returns-then-not-has_room-clause-at_most g c =
    let s = g.S.Reads.state c.args.space.now in
    let a = g.S.Reads.state c.test_pair.new.space in
    let b = g.S.Reads.state c.collect.new.space in
    index_same _ s b (same_then s a b (reads_same 17 s a c.test_pair.ensures.reads) c.collect.ensures.same)

-- names after reads
names_after : (s b : State) (label key : ℕ) → SameButReads s b → AreNamesOf s.records label key → AreNamesOf b.records label key
names_after s b label key same named = subst (λ (r : Records). AreNamesOf r label key) (sym (same_records s b same)) named

-- how many were found
count_found : (s a : State) (label key : ℕ) (items : List Content) → SameButReads s a
    → items ≡ contents_in a.records label key (high a.records format.nodes_file) → items ≡ contents_in s.records label key (high s.records format.nodes_file)
count_found s a label key items same is = is ∙ ap (λ (r : Records). contents_in r label key (high r format.nodes_file)) (same_records s a same)

pub returns-then-not-has_room-clause-refused : goal.returns-then-not-has_room-clause-refused
returns-then-not-has_room-clause-refused g c tells was named =
    let s = g.S.Reads.state c.args.space.now in
    let a = g.S.Reads.state c.test_pair.new.space in
    let b = g.S.Reads.state c.collect.new.space in
    let same_a : SameButReads s a = reads_same 17 s a c.test_pair.ensures.reads in
    let same_b : SameButReads s b = same_then s a b same_a c.collect.ensures.same in
    let may = c.in_ok-test_pair.ensures.may tells (wanted_in s.records) was.indexes in
    let found = ap length (count_found s a c.args.label c.args.key c.in_ok-contents.contents.items same_a (c.in_ok-contents.ensures.found tells)) in
    let few = c.in_ok-contents.ensures.few in
    let len : c.len-count.result ≡ length c.in_ok-contents.contents.items = let e = c.len-count.ensures in let o = c.in_ok-contents.contents.ok.0 in
    omega (arith, e, o) in
    let same_count : c.len-count.result ≡ count_of s.records c.args.label c.args.key = len ∙ found in (
      may,
      omega (arith, found, few),
      ap (λ m. m.live) c.meta-live.ensures ∙ ap (λ (r : Records). (metas.meta_of (r (meta_key_of format.index_file))).live) (same_records s b same_b),
      (λ left. true≢false (sym (c.has_room.ensures.1 (subst (λ n. HasLeft b (13 + n)) (sym same_count)
          (left_reread s b (13 + count_of s.records c.args.label c.args.key) same_b left))) ∙ c.if-not-has_room.true)),
    )

pub returns-in-Ok-clause-made : goal.returns-in-Ok-clause-made
returns-in-Ok-clause-made g c tells was named =
    let s = g.S.Reads.state c.args.space.now in
    let a = g.S.Reads.state c.test_pair.new.space in
    let b = g.S.Reads.state c.collect.new.space in
    let t = g.S.Reads.state c.write_index.new.space in
    let same_a : SameButReads s a = reads_same 17 s a c.test_pair.ensures.reads in
    let same_b : SameButReads s b = same_then s a b same_a c.collect.ensures.same in
    let may = c.in_ok-test_pair.ensures.may tells (wanted_in s.records) was.indexes in
    let items_are = count_found s a c.args.label c.args.key c.in_ok-contents.contents.items same_a (c.in_ok-contents.ensures.found tells) in
    let found = ap length items_are in
    let few = c.in_ok-contents.ensures.few in
    let len : c.len-count.result ≡ length c.in_ok-contents.contents.items = let e = c.len-count.ensures in let o = c.in_ok-contents.contents.ok.0 in
    omega (arith, e, o) in
    record {
      written = written_reread s b t c.args.label c.args.key c.deref.result.now same_b
          (λ w. c.in-Ok.ensures.written tells w (names_after s b c.args.label c.args.key same_b named)) was may (c.deref.ensures.value ∙ items_are);
      may = may;
      count_is = len ∙ found;
      few = omega (arith, len, few);
      room = left_before s b (13 + c.len-count.result) same_b (c.has_room.ensures.0 c.if-not-has_room.false);
    }

touches_of : {tells : Type 0} (n k : ℕ) (s b t : State) → n ≤ k → SameButReads s b → TouchesIndex tells n b t → TouchesIndex tells k s t
touches_of n k s b t le same h = index_then 0 n k s b t (omega arith) (index_same 0 s b same) h

pub returns-in-Ok-clause-touches : goal.returns-in-Ok-clause-touches
returns-in-Ok-clause-touches g c tells =
    let s = g.S.Reads.state c.args.space.now in
    let a = g.S.Reads.state c.test_pair.new.space in
    let b = g.S.Reads.state c.collect.new.space in
    let t = g.S.Reads.state c.write_index.new.space in
    let same_a : SameButReads s a = reads_same 17 s a c.test_pair.ensures.reads in
    let same_b : SameButReads s b = same_then s a b same_a c.collect.ensures.same in
    let found = ap length (count_found s a c.args.label c.args.key c.in_ok-contents.contents.items same_a (c.in_ok-contents.ensures.found tells)) in
    let slice = ap length c.deref.ensures.value in
    touches_of (13 + length c.deref.result.now) (13 + count_of s.records c.args.label c.args.key) s b t (omega (arith, found, slice)) same_b
    c.write_index.ensures.touches

pub returns-in-Ok-clause-at_most : goal.returns-in-Ok-clause-at_most
returns-in-Ok-clause-at_most g c =
    let s = g.S.Reads.state c.args.space.now in
    let a = g.S.Reads.state c.test_pair.new.space in
    let b = g.S.Reads.state c.collect.new.space in
    let t = g.S.Reads.state c.write_index.new.space in
    let same_b : SameButReads s b = same_then s a b (reads_same 17 s a c.test_pair.ensures.reads) c.collect.ensures.same in
    let few = c.in_ok-contents.ensures.few in
    let slice = ap length c.deref.ensures.value in
    touches_of (13 + length c.deref.result.now) 1037 s b t (omega (arith, few, slice)) same_b c.write_index.ensures.touches

pub returns-clause-touches : goal.returns-clause-touches
returns-clause-touches g c tells =
    let s = g.S.Reads.state c.args.space.now in
    let a = g.S.Reads.state c.test_pair.new.space in
    let b = g.S.Reads.state c.collect.new.space in
    let t = g.S.Reads.state c.write_index.new.space in
    let same_a : SameButReads s a = reads_same 17 s a c.test_pair.ensures.reads in
    let same_b : SameButReads s b = same_then s a b same_a c.collect.ensures.same in
    let found = ap length (count_found s a c.args.label c.args.key c.in_ok-contents.contents.items same_a (c.in_ok-contents.ensures.found tells)) in
    let slice = ap length c.deref.ensures.value in
    touches_of (13 + length c.deref.result.now) (13 + count_of s.records c.args.label c.args.key) s b t (omega (arith, found, slice)) same_b
    c.write_index.ensures.touches

pub returns-clause-at_most : goal.returns-clause-at_most
returns-clause-at_most g c =
    let s = g.S.Reads.state c.args.space.now in
    let a = g.S.Reads.state c.test_pair.new.space in
    let b = g.S.Reads.state c.collect.new.space in
    let t = g.S.Reads.state c.write_index.new.space in
    let same_b : SameButReads s b = same_then s a b (reads_same 17 s a c.test_pair.ensures.reads) c.collect.ensures.same in
    let few = c.in_ok-contents.ensures.few in
    let slice = ap length c.deref.ensures.value in
    touches_of (13 + length c.deref.result.now) 1037 s b t (omega (arith, few, slice)) same_b c.write_index.ensures.touches

pub returns-clause-refused : goal.returns-clause-refused
returns-clause-refused g c tells was named =
    let s = g.S.Reads.state c.args.space.now in
    let a = g.S.Reads.state c.test_pair.new.space in
    let b = g.S.Reads.state c.collect.new.space in
    let same_a : SameButReads s a = reads_same 17 s a c.test_pair.ensures.reads in
    let same_b : SameButReads s b = same_then s a b same_a c.collect.ensures.same in
    let may = c.in_ok-test_pair.ensures.may tells (wanted_in s.records) was.indexes in
    let items_are = count_found s a c.args.label c.args.key c.in_ok-contents.contents.items same_a (c.in_ok-contents.ensures.found tells) in
    let len : c.len-count.result ≡ length c.deref.result.now = let e = c.len-count.ensures in let o = c.in_ok-contents.contents.ok.0 in let v =
    ap length c.deref.ensures.value in omega (arith, e, o, v) in
    let room = left_before s b (13 + c.len-count.result) same_b (c.has_room.ensures.0 c.if-not-has_room.false) in
    subst (IsMakeRefusal s was c.args.label c.args.key) (sym c.of_take.ensures)
    (mishap_refusal s was c.args.label c.args.key c.in-Err.fault
    (mishap_reread s b c.args.label c.args.key c.deref.result.now c.in-Err.fault same_b (λ w. c.in-Err.ensures.mishap tells w
    (names_after s b c.args.label c.args.key same_b named)) was may (c.deref.ensures.value ∙ items_are) (subst (λ n. HasLeft s (13 + n)) len room)))

pub returns-in_err-test_pair-clause-caused : goal.returns-in_err-test_pair-clause-caused
returns-in_err-test_pair-clause-caused g c tells =
    let s = g.S.Reads.state c.args.space.now in
    let p = err_from_is_err_and c.from_residual.result c.from_residual.ensures.1 in
    rw (p.1, p.2) (pair_cause s c.args.label c.args.key c.in_err-test_pair.field-0.0 (c.in_err-test_pair.ensures.caused tells))

pub returns-in_err-contents-clause-caused : goal.returns-in_err-contents-clause-caused
returns-in_err-contents-clause-caused g c tells =
    let s = g.S.Reads.state c.args.space.now in
    let a = g.S.Reads.state c.test_pair.new.space in
    let same_a : SameButReads s a = reads_same 17 s a c.test_pair.ensures.reads in
    let is = subst (λ (r : Records). IsCollectCause r c.args.label c.args.key c.in_err-contents.field-0.0) (same_records s a same_a)
    (c.in_err-contents.ensures.caused tells) in
    let p = err_from_is_err_and c.from_residual-in_err-contents.result c.from_residual-in_err-contents.ensures.1 in
    rw (p.1, p.2) (collect_cause s c.args.label c.args.key c.in_err-contents.field-0.0 is)

pub returns-then-not-has_room-clause-caused : goal.returns-then-not-has_room-clause-caused
returns-then-not-has_room-clause-caused g c tells =
    let s = g.S.Reads.state c.args.space.now in
    let a = g.S.Reads.state c.test_pair.new.space in
    let b = g.S.Reads.state c.collect.new.space in
    let same_a : SameButReads s a = reads_same 17 s a c.test_pair.ensures.reads in
    let same_b : SameButReads s b = same_then s a b same_a c.collect.ensures.same in
    let found = ap length (count_found s a c.args.label c.args.key c.in_ok-contents.contents.items same_a (c.in_ok-contents.ensures.found tells)) in
    let len : c.len-count.result ≡ length c.in_ok-contents.contents.items = let e = c.len-count.ensures in let o = c.in_ok-contents.contents.ok.0 in
    omega (arith, e, o) in
    let same_count : c.len-count.result ≡ count_of s.records c.args.label c.args.key = len ∙ found in (
      ap (λ m. m.live) c.meta-live.ensures ∙ ap (λ (r : Records). (metas.meta_of (r (meta_key_of format.index_file))).live) (same_records s b same_b),
      (λ left. true≢false (sym (c.has_room.ensures.1 (subst (λ n. HasLeft b (13 + n)) (sym same_count)
          (left_reread s b (13 + count_of s.records c.args.label c.args.key) same_b left))) ∙ c.if-not-has_room.true)),
    )

pub returns-clause-caused : goal.returns-clause-caused
returns-clause-caused g c tells =
    let s = g.S.Reads.state c.args.space.now in
    let len : c.len-count.result ≡ length c.deref.result.now = let e = c.len-count.ensures in let o = c.in_ok-contents.contents.ok.0 in let v =
    ap length c.deref.ensures.value in omega (arith, e, o, v) in
    subst (IsMakeCause s c.args.label c.args.key) (sym c.of_take.ensures)
    (roomy_cause s c.args.label c.args.key c.in-Err.fault (c.in-Err.ensures.roomy tells (subst (λ n. HasLeft (g.S.Reads.state c.collect.new.space) (13 + n)) len
    (c.has_room.ensures.0 c.if-not-has_room.false))))

pub returns-in_err-test_pair-clause-damaged_after : goal.returns-in_err-test_pair-clause-damaged_after
returns-in_err-test_pair-clause-damaged_after g c tells =
    let s = g.S.Reads.state c.args.space.now in
    let a = g.S.Reads.state c.test_pair.new.space in
    let p = err_from_is_err_and c.from_residual.result c.from_residual.ensures.1 in
    rw (p.1, p.2) (make_reread s a c.in_err-test_pair.field-0.0 (reads_same 17 s a c.test_pair.ensures.reads) (c.in_err-test_pair.ensures.damaged tells))

pub returns-in_err-contents-clause-damaged_after : goal.returns-in_err-contents-clause-damaged_after
returns-in_err-contents-clause-damaged_after g c tells =
    let a = g.S.Reads.state c.test_pair.new.space in
    let b = g.S.Reads.state c.collect.new.space in
    let p = err_from_is_err_and c.from_residual-in_err-contents.result c.from_residual-in_err-contents.ensures.1 in
    rw (p.1, p.2) (make_reread a b c.in_err-contents.field-0.0 c.collect.ensures.same (c.in_err-contents.ensures.damaged tells))

pub returns-clause-damaged_after : goal.returns-clause-damaged_after
returns-clause-damaged_after g c tells =
    let t = g.S.Reads.state c.write_index.new.space in
    subst (BlamesBroken t.records t.shape) (sym c.of_take.ensures) (take_make t.records t.shape c.in-Err.fault (c.in-Err.ensures.damaged_after tells))

-- ---- which record is blamed

pub returns-in_err-test_pair-clause-damaged : goal.returns-in_err-test_pair-clause-damaged
returns-in_err-test_pair-clause-damaged g c tells =
    let s = g.S.Reads.state c.args.space.now in
    let p = err_from_is_err_and c.from_residual.result c.from_residual.ensures.1 in
    rw (p.1, p.2) (c.in_err-test_pair.ensures.damaged tells)

pub returns-in_err-contents-clause-damaged : goal.returns-in_err-contents-clause-damaged
returns-in_err-contents-clause-damaged g c tells =
    let s = g.S.Reads.state c.args.space.now in
    let a = g.S.Reads.state c.test_pair.new.space in
    let p = err_from_is_err_and c.from_residual-in_err-contents.result c.from_residual-in_err-contents.ensures.1 in
    rw (p.1, p.2) (make_before s a c.in_err-contents.field-0.0 (reads_same 17 s a c.test_pair.ensures.reads) (c.in_err-contents.ensures.damaged tells))

pub returns-clause-damaged : goal.returns-clause-damaged
returns-clause-damaged g c tells =
    let s = g.S.Reads.state c.args.space.now in
    let a = g.S.Reads.state c.test_pair.new.space in
    let b = g.S.Reads.state c.collect.new.space in
    let same : SameButReads s b = same_then s a b (reads_same 17 s a c.test_pair.ensures.reads) c.collect.ensures.same in
    subst (BlamesBroken s.records s.shape) (sym c.of_take.ensures) (make_before s b (of_take c.in-Err.fault) same (take_make b.records b.shape c.in-Err.fault
    (any_list b c.in-Err.fault (c.in-Err.ensures.damaged tells))))

pub returns-in-Ok-clause-written : goal.returns-in-Ok-clause-written
returns-in-Ok-clause-written g c =
    let s = g.S.Reads.state c.args.space.now in
    let a = g.S.Reads.state c.test_pair.new.space in
    let b = g.S.Reads.state c.collect.new.space in
    let t = g.S.Reads.state c.write_index.new.space in
    let same_b : SameButReads s b = same_then s a b (reads_same 17 s a c.test_pair.ensures.reads) c.collect.ensures.same in
    let len : c.len-count.result ≡ length c.deref.result.now = let e = c.len-count.ensures in let o = c.in_ok-contents.contents.ok.0 in let v =
    ap length c.deref.ensures.value in omega (arith, e, o, v) in
    touches_of (13 + length c.deref.result.now) (13 + c.len-count.result) s b t (omega (arith, len)) same_b c.write_index.ensures.touches

pub returns-in-Ok-clause-few : goal.returns-in-Ok-clause-few
returns-in-Ok-clause-few g c =
    let e = c.len-count.ensures in
    let o = c.in_ok-contents.contents.ok.0 in
    let few = c.in_ok-contents.ensures.few in
    omega (arith, e, o, few)

-- ---- nothing was written where the file is full

pair_unwritten : (s t : State) (records : Records) (label key : ℕ) (fault : MakeFault) → IsPairCause records label key fault → IsUnwrittenFull s t fault
pair_unwritten s t records label key makes.There why = tt
pair_unwritten s t records label key makes.Many why = tt
pair_unwritten s t records label key (makes.TooLarge count) why = tt
pair_unwritten s t records label key (makes.Full live) why = absurd why
pair_unwritten s t records label key makes.Memory why = tt
pair_unwritten s t records label key makes.Disk why = tt
pair_unwritten s t records label key (makes.Damaged damage) why = tt

collect_unwritten : (s t : State) (records : Records) (label key : ℕ) (fault : MakeFault) → IsCollectCause records label key fault → IsUnwrittenFull s t fault
collect_unwritten s t records label key makes.There why = tt
collect_unwritten s t records label key makes.Many why = tt
collect_unwritten s t records label key (makes.TooLarge count) why = tt
collect_unwritten s t records label key (makes.Full live) why = absurd why
collect_unwritten s t records label key makes.Memory why = tt
collect_unwritten s t records label key makes.Disk why = tt
collect_unwritten s t records label key (makes.Damaged damage) why = tt

roomy_unwritten : (s t : State) (fault : TakeFault) → IsNotFull fault → IsUnwrittenFull s t (of_take fault)
roomy_unwritten s t (takes.Full file live) why = absurd why
roomy_unwritten s t takes.Memory why = tt
roomy_unwritten s t takes.Disk why = tt
roomy_unwritten s t (takes.Damaged damage) why = tt

pub returns-in_err-test_pair-clause-unwritten : goal.returns-in_err-test_pair-clause-unwritten
returns-in_err-test_pair-clause-unwritten g c tells =
    let s = g.S.Reads.state c.args.space.now in
    let a = g.S.Reads.state c.test_pair.new.space in
    let p = err_from_is_err_and c.from_residual.result c.from_residual.ensures.1 in
    rw (p.1, p.2) (pair_unwritten s a s.records c.args.label c.args.key c.in_err-test_pair.field-0.0 (c.in_err-test_pair.ensures.caused tells))

pub returns-in_err-contents-clause-unwritten : goal.returns-in_err-contents-clause-unwritten
returns-in_err-contents-clause-unwritten g c tells =
    let s = g.S.Reads.state c.args.space.now in
    let a = g.S.Reads.state c.test_pair.new.space in
    let b = g.S.Reads.state c.collect.new.space in
    let p = err_from_is_err_and c.from_residual-in_err-contents.result c.from_residual-in_err-contents.ensures.1 in
    rw (p.1, p.2) (collect_unwritten s b a.records c.args.label c.args.key c.in_err-contents.field-0.0 (c.in_err-contents.ensures.caused tells))

pub returns-then-not-has_room-clause-unwritten : goal.returns-then-not-has_room-clause-unwritten
returns-then-not-has_room-clause-unwritten g c tells =
    let s = g.S.Reads.state c.args.space.now in
    let a = g.S.Reads.state c.test_pair.new.space in
    let b = g.S.Reads.state c.collect.new.space in
    same_then s a b (reads_same 17 s a c.test_pair.ensures.reads) c.collect.ensures.same

pub returns-clause-unwritten : goal.returns-clause-unwritten
returns-clause-unwritten g c tells =
    let s = g.S.Reads.state c.args.space.now in
    let t = g.S.Reads.state c.write_index.new.space in
    let len : c.len-count.result ≡ length c.deref.result.now = let e = c.len-count.ensures in let o = c.in_ok-contents.contents.ok.0 in let v =
    ap length c.deref.ensures.value in omega (arith, e, o, v) in
    subst (IsUnwrittenFull s t) (sym c.of_take.ensures)
    (roomy_unwritten s t c.in-Err.fault (c.in-Err.ensures.roomy tells (subst (λ n. HasLeft (g.S.Reads.state c.collect.new.space) (13 + n)) len
    (c.has_room.ensures.0 c.if-not-has_room.false))))

pub returns-in_err-test_pair-clause-made : goal.returns-in_err-test_pair-clause-made
returns-in_err-test_pair-clause-made g c _ _ _ = never_ok c.from_residual.result _ _ c.from_residual.ensures.1

pub returns-in_err-test_pair-clause-written : goal.returns-in_err-test_pair-clause-written
returns-in_err-test_pair-clause-written g c = never_ok c.from_residual.result _ _ c.from_residual.ensures.1

pub returns-in_err-test_pair-clause-few : goal.returns-in_err-test_pair-clause-few
returns-in_err-test_pair-clause-few g c = never_ok c.from_residual.result _ _ c.from_residual.ensures.1

pub returns-in_err-test_pair-clause-onward : goal.returns-in_err-test_pair-clause-onward
returns-in_err-test_pair-clause-onward g c = search rules

pub returns-in_err-contents-clause-made : goal.returns-in_err-contents-clause-made
returns-in_err-contents-clause-made g c _ _ _ = never_ok c.from_residual-in_err-contents.result _ _ c.from_residual-in_err-contents.ensures.1

pub returns-in_err-contents-clause-written : goal.returns-in_err-contents-clause-written
returns-in_err-contents-clause-written g c = never_ok c.from_residual-in_err-contents.result _ _ c.from_residual-in_err-contents.ensures.1

pub returns-in_err-contents-clause-few : goal.returns-in_err-contents-clause-few
returns-in_err-contents-clause-few g c = never_ok c.from_residual-in_err-contents.result _ _ c.from_residual-in_err-contents.ensures.1

pub returns-in_err-test_pair-clause-cause : goal.returns-in_err-test_pair-clause-cause
returns-in_err-test_pair-clause-cause g c =
    make_passed _ _ _ c.from_residual.result c.in_err-test_pair.field-0.0 (omega arith) c.in_err-test_pair.ensures.cause c.from_residual.ensures.1

pub returns-in_err-contents-clause-cause : goal.returns-in_err-contents-clause-cause
returns-in_err-contents-clause-cause g c =
    make_passed _ _ _ c.from_residual-in_err-contents.result c.in_err-contents.field-0.0 c.in_ok-test_pair.ensures.cause.later c.in_err-contents.ensures.cause
    c.from_residual-in_err-contents.ensures.1

pub returns-in_err-contents-clause-onward : goal.returns-in_err-contents-clause-onward
returns-in_err-contents-clause-onward g c = g.met.S.Reads.further_onward _ _ _ c.in_ok-test_pair.ensures.onward c.in_err-contents.ensures.onward

pub returns-then-not-has_room-clause-onward : goal.returns-then-not-has_room-clause-onward
returns-then-not-has_room-clause-onward g c = g.met.S.Reads.further_onward _ _ _ c.in_ok-test_pair.ensures.onward c.in_ok-contents.ensures.onward

pub returns-then-not-has_room-clause-cause : goal.returns-then-not-has_room-clause-cause
returns-then-not-has_room-clause-cause g c =
    make_other_cause _ _ _ (later_on c.in_ok-test_pair.ensures.cause.later c.in_ok-contents.ensures.cause.later) (λ e. absurd cc)

-- ---- the definition stands

pub returns-in-Ok-clause-stands : goal.returns-in-Ok-clause-stands
returns-in-Ok-clause-stands g c tells = c.in-Ok.ensures.stands tells

pub returns-in_err-test_pair-clause-stands : goal.returns-in_err-test_pair-clause-stands
returns-in_err-test_pair-clause-stands g c _ = never_ok c.from_residual.result _ _ c.from_residual.ensures.1

pub returns-in_err-contents-clause-stands : goal.returns-in_err-contents-clause-stands
returns-in_err-contents-clause-stands g c _ = never_ok c.from_residual-in_err-contents.result _ _ c.from_residual-in_err-contents.ensures.1
