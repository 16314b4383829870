use Rattle.std.specs.Prelude.{Result, Ok, Err, OnOk}
use Rattle.std.proofs.Common.{◌≡◌, ℕ, true, ◌-◌, ◌∙◌, ap, sym, subst, arith, rules}
use Rattle.rec_bytes.specs.Format as format
use Rattle.rec_bytes.specs.Space.{SameButReads, State, meta_of}
use Rattle.store_rules.specs.Hashes.{bucket_of}
use Rattle.store_rules.specs.Indexes.{AreIndexed, Entry, without_entry}
use Rattle.store_rules.specs.Views.{Records}
use Rattle.prop_store.proofs.ReadCounts.{reads_same}
use Rattle.prop_index.specs.Entering.{entry_of}
use Rattle.prop_store.proofs.Exits.{same_has}
use Rattle.prop_index.specs.Heads.{IfBucketMet, IsBucketSought}
use Rattle.prop_index.proofs.IndexBlames.{entry_begins, entry_reread, if_err}
use Rattle.store_rules.specs.Graph.{indexes_of}
use Rattle.prop_index.specs.Blaming.{NamesIndexes}
use Rattle.prop_index.proofs.DefinitionsStay.{same_graph}
use Rattle.prop_index.specs.Leaving.{IsDropped, IsNoneOf, SaysContent}
use Rattle.prop_index.specs.declared.entry_row.Content.{Content}
use Rattle.prop_index.proofs.Buckets.{bucket-chain, chain-reread, head-place, head-reread}
use Rattle.prop_index.proofs.Changed.{left_in, none_wanted, unlisted_left}
use Rattle.prop_index.proofs.Reread.{can_after, kept_after, same_records, same_then}
use Rattle.prop_index.proofs.IndexTouches.{index_read, index_then}
use Rattle.prop_store.proofs.Causes.{cause_after, cause_passed}
use Rattle.rec_bytes.proofs.Causes.{never_ok, ok_cause}
use Rattle.prop_index.proofs.Unwritten.{damage_then, on_damage}
use Rattle.prop_index.specs.Naming.{BlamesIndex, BlamesOther}
use Rattle.prop_index.proofs.IndexNamed.{broken_other, bucket_before, bucket_index, bucket_other, other_before}
use Rattle.prop_index.proofs.Sparing.{spares_none, spares_then}
use Rattle.prop_index.proofs.leaving.leave_bucket.Goals as goal

on_ok : {T E : Type 0} {P Q : Type 0} (r : Result T E) → (P → Q) → OnOk r P → OnOk r Q
on_ok (Ok x) f p = f p
on_ok (Err e) f p = tt

pub returns-in_default-clause-left : goal.returns-in_default-clause-left
returns-in_default-clause-left g c tells wanted free ix can =
    let s = g.S.Reads.state c.args.space.now in
    let now = g.S.Reads.state c.find_bucket.new.space in
    let same : SameButReads s now = reads_same 18 s now c.in_ok-bucket.ensures.at_most in
    let content : Content = record { node = c.args.node; hash = c.hash_of-hash.result } in
    let none = subst (IsBucketSought s.records ix.definitions c.args.label c.args.key c.hash_of-hash.result) c.in_default.is
    (c.in_ok-bucket.ensures.found tells wanted ix) in
    subst (λ (r : Records). AreIndexed r (without_entry wanted (entry_of c.args.label c.args.key c.args.node c.args.value.now))) (sym (same_records s now same))
    (subst (λ (h : ℕ). AreIndexed s.records (without_entry wanted (record { label = c.args.label; key = c.args.key; node = c.args.node; hash = h })))
    c.hash_of-hash.ensures
    (unlisted_left s.records wanted ix c.args.label c.args.key content none))

pub returns-clause-left : goal.returns-clause-left
returns-clause-left g c tells wanted free ix can =
    let s = g.S.Reads.state c.args.space.now in
    let now = g.S.Reads.state c.find_bucket.new.space in
    let t = g.S.Reads.state c.drop_entry.new.space in
    let same : SameButReads s now = reads_same 18 s now c.in_ok-bucket.ensures.at_most in
    let records = same_records s now same in
    let content : Content = record { node = c.args.node; hash = c.hash_of-hash.result } in
    let bucket = c.in-Some.bucket in
    let found = subst (IsBucketSought s.records ix.definitions c.args.label c.args.key c.hash_of-hash.result) c.in-Some.is
    (c.in_ok-bucket.ensures.found tells wanted ix) in
    let xs = ix.lists found.definition (bucket_of content.hash) in
    on_ok c.drop_entry.result
    (λ dropped. subst (λ (h : ℕ). AreIndexed t.records (without_entry wanted (record { label = c.args.label; key = c.args.key; node = c.args.node; hash = h })))
    c.hash_of-hash.ensures
    (left_in s.records wanted ix c.args.label c.args.key content bucket found t.records (subst (λ (r : Records). IsDropped r t.records xs bucket.slot content)
    records dropped)))
    (c.drop_entry.ensures.dropped tells xs free (head-reread s now bucket same found.is.head)
    (chain-reread s now bucket.first xs same (bucket-chain s.records wanted ix c.args.label c.args.key content.hash bucket found))
    (can_after s now free same can))

pub returns-in_err-bucket-clause-touches : goal.returns-in_err-bucket-clause-touches
returns-in_err-bucket-clause-touches g c = index_read 3 18 _ _ c.find_bucket.ensures.at_most

pub returns-in_default-clause-touches : goal.returns-in_default-clause-touches
returns-in_default-clause-touches g c = index_read 3 18 _ _ c.find_bucket.ensures.at_most

pub returns-clause-touches : goal.returns-clause-touches
returns-clause-touches g c = index_then 0 3 3 _ _ _ (omega arith) (index_read 0 18 _ _ c.find_bucket.ensures.at_most) c.drop_entry.ensures.touches

pub returns-in_default-clause-keeps : goal.returns-in_default-clause-keeps
returns-in_default-clause-keeps g c tells wanted ix store =
    let s = g.S.Reads.state c.args.space.now in
    let now = g.S.Reads.state c.find_bucket.new.space in
    kept_after s now (reads_same 18 s now c.in_ok-bucket.ensures.at_most) store

pub returns-clause-keeps : goal.returns-clause-keeps
returns-clause-keeps g c tells wanted ix store =
    let s = g.S.Reads.state c.args.space.now in
    let now = g.S.Reads.state c.find_bucket.new.space in
    let same : SameButReads s now = reads_same 18 s now c.in_ok-bucket.ensures.at_most in
    let bucket = c.in-Some.bucket in
    let found = subst (IsBucketSought s.records ix.definitions c.args.label c.args.key c.hash_of-hash.result) c.in-Some.is
    (c.in_ok-bucket.ensures.found tells wanted ix) in
    let xs = ix.lists found.definition (bucket_of c.hash_of-hash.result) in
    c.drop_entry.ensures.keeps tells xs (head-reread s now bucket same found.is.head)
    (chain-reread s now bucket.first xs same (bucket-chain s.records wanted ix c.args.label c.args.key c.hash_of-hash.result bucket found))
    (head-place s.records found.definition _ bucket found.is) (kept_after s now same store)

pub returns-in_default-clause-counted : goal.returns-in_default-clause-counted
returns-in_default-clause-counted g c tells =
    let s = g.S.Reads.state c.args.space.now in
    let now = g.S.Reads.state c.find_bucket.new.space in
    let same : SameButReads s now = reads_same 18 s now c.in_ok-bucket.ensures.at_most in
    let live = ap (λ (z : State). (meta_of z format.index_file).live) same in
    omega (arith, live)

pub returns-clause-counted : goal.returns-clause-counted
returns-clause-counted g c tells =
    let s = g.S.Reads.state c.args.space.now in
    let now = g.S.Reads.state c.find_bucket.new.space in
    let same : SameButReads s now = reads_same 18 s now c.in_ok-bucket.ensures.at_most in
    let live = ap (λ (z : State). (meta_of z format.index_file).live) same in
    on_ok c.drop_entry.result (λ less. omega (arith, live, less)) (c.drop_entry.ensures.counted tells)

pub returns-in_default-clause-kept : goal.returns-in_default-clause-kept
returns-in_default-clause-kept g c tells =
    let s = g.S.Reads.state c.args.space.now in
    let now = g.S.Reads.state c.find_bucket.new.space in
    let same : SameButReads s now = reads_same 18 s now c.in_ok-bucket.ensures.at_most in
    let live = ap (λ (z : State). (meta_of z format.index_file).live) same in
    omega (arith, live)

pub returns-clause-kept : goal.returns-clause-kept
returns-clause-kept g c tells =
    let s = g.S.Reads.state c.args.space.now in
    let now = g.S.Reads.state c.find_bucket.new.space in
    let same : SameButReads s now = reads_same 18 s now c.in_ok-bucket.ensures.at_most in
    let live = ap (λ (z : State). (meta_of z format.index_file).live) same in
    on_ok c.drop_entry.result (λ less. omega (arith, live, less)) (c.drop_entry.ensures.kept tells)

pub returns-in_err-bucket-clause-names : goal.returns-in_err-bucket-clause-names
returns-in_err-bucket-clause-names g c tells = same_has NamesIndexes c.from_residual.result c.in_err-bucket.field-0.0 c.from_residual.ensures.1
    (c.in_err-bucket.ensures.names tells)

pub returns-clause-names : goal.returns-clause-names
returns-clause-names g c tells = c.drop_entry.ensures.names tells

pub returns-in_default-clause-graph : goal.returns-in_default-clause-graph
returns-in_default-clause-graph g c tells wanted free ix can =
    let s = g.S.Reads.state c.args.space.now in
    let now = g.S.Reads.state c.find_bucket.new.space in
    same_graph s.records now.records (same_records s now (reads_same 18 s now c.in_ok-bucket.ensures.at_most))

pub returns-clause-graph : goal.returns-clause-graph
returns-clause-graph g c tells wanted free ix can =
    let s = g.S.Reads.state c.args.space.now in
    let now = g.S.Reads.state c.find_bucket.new.space in
    let same : SameButReads s now = reads_same 18 s now c.in_ok-bucket.ensures.at_most in
    let bucket = c.in-Some.bucket in
    let found = subst (IsBucketSought s.records ix.definitions c.args.label c.args.key c.hash_of-hash.result) c.in-Some.is
    (c.in_ok-bucket.ensures.found tells wanted ix) in
    let xs = ix.lists found.definition (bucket_of c.hash_of-hash.result) in
    on_ok c.drop_entry.result (λ stays. stays ∙ ap indexes_of (same_records s now same))
    (c.drop_entry.ensures.graph tells xs free (head-reread s now bucket same found.is.head)
    (chain-reread s now bucket.first xs same (bucket-chain s.records wanted ix c.args.label c.args.key c.hash_of-hash.result bucket found))
    (head-place s.records found.definition _ bucket found.is) (can_after s now free same can))

pub returns-in_default-clause-gone : goal.returns-in_default-clause-gone
returns-in_default-clause-gone g c tells wanted ix d listed pair there =
    let s = g.S.Reads.state c.args.space.now in
    absurd (subst (IsBucketSought s.records ix.definitions c.args.label c.args.key c.hash_of-hash.result) c.in_default.is (c.in_ok-bucket.ensures.found tells
    wanted ix) d listed pair)

pub returns-clause-gone : goal.returns-clause-gone
returns-clause-gone g c tells wanted ix d listed pair there =
    let s = g.S.Reads.state c.args.space.now in
    let now = g.S.Reads.state c.find_bucket.new.space in
    let same : SameButReads s now = reads_same 18 s now c.in_ok-bucket.ensures.at_most in
    let content : Content = record { node = c.args.node; hash = c.hash_of-hash.result } in
    let one : Entry = record { label = c.args.label; key = c.args.key; node = c.args.node; hash = c.hash_of-hash.result } in
    let bucket = c.in-Some.bucket in
    let found = subst (IsBucketSought s.records ix.definitions c.args.label c.args.key c.hash_of-hash.result) c.in-Some.is
    (c.in_ok-bucket.ensures.found tells wanted ix) in
    let xs = ix.lists found.definition (bucket_of c.hash_of-hash.result) in
    let is : wanted one ≡ true
    = ap (λ (h : ℕ). wanted (record { label = c.args.label; key = c.args.key; node = c.args.node; hash = h })) c.hash_of-hash.ensures ∙ there in
    let has = ix.all found.definition one found.listed (sym found.pair.0) (sym found.pair.1) is in
    let says : SaysContent s.records content has.id = (ap (λ (e : Entry). e.node) has.is, ap (λ (e : Entry). e.hash) has.is) in
    on_ok c.drop_entry.result (λ less. less ∙ ap (λ (z : State). (meta_of z format.index_file).live - 1) same)
    (c.drop_entry.ensures.gone tells xs (chain-reread s now bucket.first xs same (bucket-chain s.records wanted ix c.args.label c.args.key c.hash_of-hash.result
    bucket found))
    has.id has.member (subst (λ (r : Records). SaysContent r content has.id) (sym (same_records s now same)) says))

pub returns-in_default-clause-unlisted : goal.returns-in_default-clause-unlisted
returns-in_default-clause-unlisted g c tells wanted ix none = reads_same 18 (g.S.Reads.state c.args.space.now) (g.S.Reads.state c.find_bucket.new.space)
    c.in_ok-bucket.ensures.at_most

pub returns-clause-unlisted : goal.returns-clause-unlisted
returns-clause-unlisted g c tells wanted ix none =
    let s = g.S.Reads.state c.args.space.now in
    let found = subst (IsBucketSought s.records ix.definitions c.args.label c.args.key c.hash_of-hash.result) c.in-Some.is
    (c.in_ok-bucket.ensures.found tells wanted ix) in
    absurd (none found.definition found.listed found.pair)

pub returns-in_default-clause-absent : goal.returns-in_default-clause-absent
returns-in_default-clause-absent g c tells wanted ix unwanted = reads_same 18 (g.S.Reads.state c.args.space.now) (g.S.Reads.state c.find_bucket.new.space)
    c.in_ok-bucket.ensures.at_most

pub returns-clause-absent : goal.returns-clause-absent
returns-clause-absent g c tells wanted ix unwanted =
    let s = g.S.Reads.state c.args.space.now in
    let now = g.S.Reads.state c.find_bucket.new.space in
    let t = g.S.Reads.state c.drop_entry.new.space in
    let same : SameButReads s now = reads_same 18 s now c.in_ok-bucket.ensures.at_most in
    let content : Content = record { node = c.args.node; hash = c.hash_of-hash.result } in
    let hashed : (h : ℕ) → Entry = λ h. record { label = c.args.label; key = c.args.key; node = c.args.node; hash = h } in
    let bucket = c.in-Some.bucket in
    let found = subst (IsBucketSought s.records ix.definitions c.args.label c.args.key c.hash_of-hash.result) c.in-Some.is
    (c.in_ok-bucket.ensures.found tells wanted ix) in
    let xs = ix.lists found.definition (bucket_of content.hash) in
    on_ok c.drop_entry.result (λ stays. same_then s now t same stays)
    (c.drop_entry.ensures.absent tells xs (chain-reread s now bucket.first xs same (bucket-chain s.records wanted ix c.args.label c.args.key content.hash bucket
    found))
    (subst (λ (r : Records). IsNoneOf r xs content) (sym (same_records s now same))
    (none_wanted s.records wanted ix c.args.label c.args.key content bucket found (ap (λ (h : ℕ). wanted (hashed h)) c.hash_of-hash.ensures ∙ unwanted))))

pub returns-in_err-bucket-clause-left : goal.returns-in_err-bucket-clause-left
returns-in_err-bucket-clause-left g c _ _ _ _ _ = never_ok c.from_residual.result _ _ c.from_residual.ensures.1

pub returns-in_err-bucket-clause-keeps : goal.returns-in_err-bucket-clause-keeps
returns-in_err-bucket-clause-keeps g c _ _ _ _ = never_ok c.from_residual.result _ _ c.from_residual.ensures.1

pub returns-in_err-bucket-clause-graph : goal.returns-in_err-bucket-clause-graph
returns-in_err-bucket-clause-graph g c _ _ _ _ _ = never_ok c.from_residual.result _ _ c.from_residual.ensures.1

pub returns-in_err-bucket-clause-counted : goal.returns-in_err-bucket-clause-counted
returns-in_err-bucket-clause-counted g c _ = never_ok c.from_residual.result _ _ c.from_residual.ensures.1

pub returns-in_err-bucket-clause-kept : goal.returns-in_err-bucket-clause-kept
returns-in_err-bucket-clause-kept g c _ = never_ok c.from_residual.result _ _ c.from_residual.ensures.1

pub returns-in_err-bucket-clause-unlisted : goal.returns-in_err-bucket-clause-unlisted
returns-in_err-bucket-clause-unlisted g c _ _ _ _ = never_ok c.from_residual.result _ _ c.from_residual.ensures.1

pub returns-in_err-bucket-clause-absent : goal.returns-in_err-bucket-clause-absent
returns-in_err-bucket-clause-absent g c _ _ _ _ = never_ok c.from_residual.result _ _ c.from_residual.ensures.1

pub returns-in_err-bucket-clause-gone : goal.returns-in_err-bucket-clause-gone
returns-in_err-bucket-clause-gone g c _ _ _ _ _ _ _ = never_ok c.from_residual.result _ _ c.from_residual.ensures.1

pub returns-in_err-bucket-clause-onward : goal.returns-in_err-bucket-clause-onward
returns-in_err-bucket-clause-onward g c = search rules

pub returns-in_err-bucket-clause-cause : goal.returns-in_err-bucket-clause-cause
returns-in_err-bucket-clause-cause g c =
    cause_passed _ _ _ c.from_residual.result c.in_err-bucket.field-0.0 (omega arith) c.in_err-bucket.ensures.cause c.from_residual.ensures.1

pub returns-in_default-clause-cause : goal.returns-in_default-clause-cause
returns-in_default-clause-cause g c = ok_cause _ _ _ _ c.in_ok-bucket.ensures.cause.later

pub returns-in_default-clause-onward : goal.returns-in_default-clause-onward
returns-in_default-clause-onward g c = c.in_ok-bucket.ensures.onward

pub returns-clause-cause : goal.returns-clause-cause
returns-clause-cause g c = cause_after _ _ _ c.drop_entry.result c.in_ok-bucket.ensures.cause.later c.drop_entry.ensures.cause

pub returns-clause-onward : goal.returns-clause-onward
returns-clause-onward g c = g.met.S.Reads.further_onward _ _ _ c.in_ok-bucket.ensures.onward c.drop_entry.ensures.onward

-- ---- what is blamed

pub returns-in_err-bucket-clause-wrong : goal.returns-in_err-bucket-clause-wrong
returns-in_err-bucket-clause-wrong g c tells =
    same_has (BlamesIndex (g.S.Reads.state c.args.space.now) c.args.label c.args.key) c.from_residual.result c.in_err-bucket.field-0.0
    c.from_residual.ensures.1 (c.in_err-bucket.ensures.wrong tells)

pub returns-clause-wrong : goal.returns-clause-wrong
returns-clause-wrong g c tells =
    let s = g.S.Reads.state c.args.space.now in
    let now = g.S.Reads.state c.find_bucket.new.space in
    let same : SameButReads s now = reads_same 18 s now c.in_ok-bucket.ensures.at_most in
    let number = bucket_of c.hash_of-hash.result in
    let met = subst (IfBucketMet s.records c.args.label c.args.key number) c.in-Some.is (c.in_ok-bucket.ensures.met tells) in
    if_err c.drop_entry.result (λ fault is. bucket_index s c.args.label c.args.key number c.in-Some.bucket met fault (bucket_before s now met.definition number
    fault same is))
    (c.drop_entry.ensures.wrong tells met.definition number (entry_reread s now met.definition number 0 c.in-Some.bucket.first _ same
    (entry_begins s c.args.label c.args.key number c.in-Some.bucket met)))

pub returns-in_err-bucket-clause-other : goal.returns-in_err-bucket-clause-other
returns-in_err-bucket-clause-other g c tells =
    let s = g.S.Reads.state c.args.space.now in
    same_has (BlamesOther s) c.from_residual.result c.in_err-bucket.field-0.0 c.from_residual.ensures.1
    (broken_other s c.in_err-bucket.field-0.0 (c.in_err-bucket.ensures.damaged tells))

pub returns-clause-other : goal.returns-clause-other
returns-clause-other g c tells =
    let s = g.S.Reads.state c.args.space.now in
    let now = g.S.Reads.state c.find_bucket.new.space in
    let same : SameButReads s now = reads_same 18 s now c.in_ok-bucket.ensures.at_most in
    let number = bucket_of c.hash_of-hash.result in
    let met = subst (IfBucketMet s.records c.args.label c.args.key number) c.in-Some.is (c.in_ok-bucket.ensures.met tells) in
    if_err c.drop_entry.result (λ fault is. other_before s now fault same (bucket_other now met.definition number fault is))
    (c.drop_entry.ensures.wrong tells met.definition number (entry_reread s now met.definition number 0 c.in-Some.bucket.first _ same
    (entry_begins s c.args.label c.args.key number c.in-Some.bucket met)))

pub returns-in_err-bucket-clause-spares : goal.returns-in_err-bucket-clause-spares
returns-in_err-bucket-clause-spares g c _ = never_ok c.from_residual.result _ _ c.from_residual.ensures.1

pub returns-in_default-clause-spares : goal.returns-in_default-clause-spares
returns-in_default-clause-spares g c tells = spares_none _ _ (reads_same 18 _ _ c.in_ok-bucket.ensures.at_most)

pub returns-clause-spares : goal.returns-clause-spares
returns-clause-spares g c tells =
    let s = g.S.Reads.state c.args.space.now in
    let now = g.S.Reads.state c.find_bucket.new.space in
    let t = g.S.Reads.state c.drop_entry.new.space in
    let same : SameButReads s now = reads_same 18 s now c.in_ok-bucket.ensures.at_most in
    let number = bucket_of c.hash_of-hash.result in
    let bucket = c.in-Some.bucket in
    let met = subst (IfBucketMet s.records c.args.label c.args.key number) c.in-Some.is (c.in_ok-bucket.ensures.met tells) in
    on_ok c.drop_entry.result (spares_then s now t (spares_none s now same))
    (c.drop_entry.ensures.spares tells met.definition number (entry_reread s now met.definition number 0 bucket.first _ same
    (entry_begins s c.args.label c.args.key number bucket met))
    (head-reread s now bucket same met.is.head) (head-place s.records met.definition _ bucket met.is))

-- ---- what is written where a record is blamed

pub returns-in_err-bucket-clause-unwritten : goal.returns-in_err-bucket-clause-unwritten
returns-in_err-bucket-clause-unwritten g c =
    on_damage c.from_residual.result _ (reads_same 18 (g.S.Reads.state c.args.space.now) (g.S.Reads.state c.find_bucket.new.space)
    c.find_bucket.ensures.at_most)

pub returns-clause-unwritten : goal.returns-clause-unwritten
returns-clause-unwritten g c =
    let s = g.S.Reads.state c.args.space.now in
    let now = g.S.Reads.state c.find_bucket.new.space in
    let t = g.S.Reads.state c.drop_entry.new.space in
    damage_then c.drop_entry.result _ _ (same_then s now t (reads_same 18 s now c.in_ok-bucket.ensures.at_most)) c.drop_entry.ensures.unwritten
