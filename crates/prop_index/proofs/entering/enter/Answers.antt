use Rattle.std.specs.Prelude.{Option, IfSome, Result, Ok, Err, OnOk}
use Rattle.std.proofs.Common.{ℕ, ◌<◌, ap, sym, ◌∙◌, subst, arith}
use Rattle.id_freelist.specs.TakeFault as takes
use Rattle.id_freelist.specs.declared.take_fault.TakeFault.{TakeFault}
use Rattle.rec_bytes.specs.Format as format
use Rattle.rec_bytes.specs.Space.{SameButReads, State, meta_of}
use Rattle.store_rules.specs.Indexes.{AreIndexed, Entry, with_entry}
use Rattle.store_rules.specs.Views.{Records, high}
use Rattle.prop_index.specs.Blaming.{TakeBlamesBroken}
use Rattle.prop_index.specs.Entering.{IsIndexFull, IsMade, IsNotFull, entry_of}
use Rattle.store_rules.specs.Graph.{indexes_of}
use Rattle.prop_index.specs.Blaming.{TakeNamesIndexes}
use Rattle.prop_index.proofs.DefinitionsStay.{same_graph}
use Rattle.prop_index.specs.Heads.{IsBucketSought, IsOpened}
use Rattle.prop_index.proofs.IndexBlames.{blames_reread, if_err, of_read_names, read_blames, take_before}
use Rattle.prop_index.specs.declared.heads.Bucket.{Bucket}
use Rattle.prop_index.proofs.ListKept.{any_list}
use Rattle.prop_index.proofs.IndexNamed.{can_ranged, list_definition, taken_definition, taken_definition_before}
use Rattle.prop_index.proofs.Sparing.{spares_none, spares_then}
use Rattle.prop_index.specs.declared.entry_row.Content.{Content}
use Rattle.prop_index.proofs.Buckets.{head-reread, opened-reread}
use Rattle.prop_index.proofs.Changed.{entered_in, unlisted_entered}
use Rattle.prop_index.proofs.Reread.{can_after, kept_after, same_records, same_then}
use Rattle.prop_index.proofs.IndexFull.{full-reread, read-full, read-sound, read-unfull}
use Rattle.prop_index.proofs.IndexTouches.{index_same, index_then}
use Rattle.prop_index.proofs.Unwritten.{blame_then, read_unwritten}
use Rattle.prop_index.proofs.entering.enter.Goals as goal

on_ok : {T E : Type 0} {P Q : Type 0} (r : Result T E) → (P → Q) → OnOk r P → OnOk r Q
on_ok (Ok x) f p = f p
on_ok (Err e) f p = tt

pub returns-in-Ok-None-clause-entered : goal.returns-in-Ok-None-clause-entered
returns-in-Ok-None-clause-entered g c tells wanted free ix can unwanted =
    let s = g.S.Reads.state c.args.space.now in
    let now = g.S.Reads.state c.open_bucket.new.space in
    let same : SameButReads s now = c.open_bucket.ensures.same in
    let content : Content = record { node = c.args.node; hash = c.hash_of-hash.result } in
    let none = subst (IsBucketSought s.records ix.definitions c.args.label c.args.key c.hash_of-hash.result) c.in-Ok-None.field-0-is
    (c.in-Ok-None.ensures.found tells wanted ix) in
    subst (λ (r : Records). AreIndexed r (with_entry wanted (entry_of c.args.label c.args.key c.args.node c.args.value.now))) (sym (same_records s now same))
    (subst (λ (h : ℕ). AreIndexed s.records (with_entry wanted (record { label = c.args.label; key = c.args.key; node = c.args.node; hash = h })))
    c.hash_of-hash.ensures
    (unlisted_entered s.records wanted ix c.args.label c.args.key content none))

pub returns-clause-entered : goal.returns-clause-entered
returns-clause-entered g c tells wanted free ix can unwanted =
    let s = g.S.Reads.state c.args.space.now in
    let now = g.S.Reads.state c.open_bucket.new.space in
    let t = g.S.Reads.state c.add_entry.new.space in
    let same : SameButReads s now = c.open_bucket.ensures.same in
    let records = same_records s now same in
    let content : Content = record { node = c.args.node; hash = c.hash_of-hash.result } in
    let bucket = c.in-Ok-Some.bucket in
    let found = subst (IsBucketSought s.records ix.definitions c.args.label c.args.key c.hash_of-hash.result) c.in-Ok-Some.field-0-is
    (c.in-Ok-Some.ensures.found tells wanted ix) in
    let hashed : (h : ℕ) → Entry = λ h. record { label = c.args.label; key = c.args.key; node = c.args.node; hash = h } in
    on_ok c.add_entry.result
    (λ made. subst (λ (h : ℕ). AreIndexed t.records (with_entry wanted (hashed h))) c.hash_of-hash.ensures
    (entered_in s.records wanted ix c.args.label c.args.key content bucket found t.records (subst (λ (r : Records). IsMade r t.records bucket content)
    records made)
    (ap (λ (h : ℕ). wanted (hashed h)) c.hash_of-hash.ensures ∙ unwanted)))
    (c.add_entry.ensures.made tells free (head-reread s now bucket same found.is.head) (can_after s now free same can))

pub returns-in-Ok-None-clause-touches : goal.returns-in-Ok-None-clause-touches
returns-in-Ok-None-clause-touches g c = index_same 3 _ _ c.open_bucket.ensures.same

pub returns-in-Err-clause-touches : goal.returns-in-Err-clause-touches
returns-in-Err-clause-touches g c = index_same 3 _ _ c.open_bucket.ensures.same

pub returns-clause-touches : goal.returns-clause-touches
returns-clause-touches g c = index_then 0 3 3 _ _ _ (omega arith) (index_same 0 _ _ c.open_bucket.ensures.same) c.add_entry.ensures.touches

pub returns-in-Ok-None-clause-keeps : goal.returns-in-Ok-None-clause-keeps
returns-in-Ok-None-clause-keeps g c tells wanted ix store known =
    let s = g.S.Reads.state c.args.space.now in
    let now = g.S.Reads.state c.open_bucket.new.space in
    kept_after s now (c.open_bucket.ensures.same) store

pub returns-in-Err-clause-full : goal.returns-in-Err-clause-full
returns-in-Err-clause-full g c tells =
    let s = g.S.Reads.state c.args.space.now in
    subst (IsIndexFull s) (sym c.of_read.ensures) (read-full s c.in-Err.fault)

pub returns-clause-full : goal.returns-clause-full
returns-clause-full g c tells =
    let s = g.S.Reads.state c.args.space.now in
    let now = g.S.Reads.state c.open_bucket.new.space in
    full-reread s now c.add_entry.result (c.open_bucket.ensures.same) (c.add_entry.ensures.full tells)

pub returns-in-Err-clause-damaged : goal.returns-in-Err-clause-damaged
returns-in-Err-clause-damaged g c tells =
    let s = g.S.Reads.state c.args.space.now in
    subst (TakeBlamesBroken s.records s.shape) (sym c.of_read.ensures) (read_blames s.records s.shape c.in-Err.fault (c.in-Err.ensures.damaged tells))

pub returns-in-Err-clause-damaged_after : goal.returns-in-Err-clause-damaged_after
returns-in-Err-clause-damaged_after g c tells =
    let s = g.S.Reads.state c.args.space.now in
    let now = g.S.Reads.state c.open_bucket.new.space in
    subst (TakeBlamesBroken now.records now.shape) (sym c.of_read.ensures)
    (read_blames now.records now.shape c.in-Err.fault (blames_reread s now c.in-Err.fault (c.open_bucket.ensures.same) (c.in-Err.ensures.damaged tells)))

pub returns-in-Ok-None-clause-counted : goal.returns-in-Ok-None-clause-counted
returns-in-Ok-None-clause-counted g c tells =
    let s = g.S.Reads.state c.args.space.now in
    let now = g.S.Reads.state c.open_bucket.new.space in
    let same : SameButReads s now = c.open_bucket.ensures.same in
    let live = ap (λ (z : State). (meta_of z format.index_file).live) same in
    omega (arith, live)

pub returns-clause-counted : goal.returns-clause-counted
returns-clause-counted g c tells =
    let s = g.S.Reads.state c.args.space.now in
    let now = g.S.Reads.state c.open_bucket.new.space in
    let same : SameButReads s now = c.open_bucket.ensures.same in
    let live = ap (λ (z : State). (meta_of z format.index_file).live) same in
    on_ok c.add_entry.result (λ more. omega (arith, live, more)) (c.add_entry.ensures.counted tells)

pub returns-in-Err-clause-names : goal.returns-in-Err-clause-names
returns-in-Err-clause-names g c tells = subst TakeNamesIndexes (sym c.of_read.ensures) (of_read_names c.in-Err.fault (c.in-Err.ensures.names tells))

pub returns-clause-names : goal.returns-clause-names
returns-clause-names g c tells = c.add_entry.ensures.names tells

pub returns-in-Ok-None-clause-graph : goal.returns-in-Ok-None-clause-graph
returns-in-Ok-None-clause-graph g c tells wanted free ix can =
    let s = g.S.Reads.state c.args.space.now in
    let now = g.S.Reads.state c.open_bucket.new.space in
    same_graph s.records now.records (same_records s now (c.open_bucket.ensures.same))

pub returns-in-Err-clause-crowded : goal.returns-in-Err-clause-crowded
returns-in-Err-clause-crowded g c tells =
    let now = g.S.Reads.state c.open_bucket.new.space in
    subst (IsIndexFull now) (sym c.of_read.ensures) (read-full now c.in-Err.fault)

pub returns-clause-crowded : goal.returns-clause-crowded
returns-clause-crowded g c tells = c.add_entry.ensures.crowded tells

pub returns-in-Err-clause-unlisted : goal.returns-in-Err-clause-unlisted
returns-in-Err-clause-unlisted g c tells wanted ix none = subst IsNotFull (sym c.of_read.ensures) (read-unfull c.in-Err.fault)

pub returns-in-Ok-None-clause-unchanged : goal.returns-in-Ok-None-clause-unchanged
returns-in-Ok-None-clause-unchanged g c tells wanted ix none = c.open_bucket.ensures.same

pub returns-clause-unchanged : goal.returns-clause-unchanged
returns-clause-unchanged g c tells wanted ix none =
    let s = g.S.Reads.state c.args.space.now in
    let found = subst (IsBucketSought s.records ix.definitions c.args.label c.args.key c.hash_of-hash.result) c.in-Ok-Some.field-0-is
    (c.in-Ok-Some.ensures.found tells wanted ix) in
    absurd (none found.definition found.listed found.pair)

pub returns-clause-unlisted : goal.returns-clause-unlisted
returns-clause-unlisted g c tells wanted ix none =
    let s = g.S.Reads.state c.args.space.now in
    let found = subst (IsBucketSought s.records ix.definitions c.args.label c.args.key c.hash_of-hash.result) c.in-Ok-Some.field-0-is
    (c.in-Ok-Some.ensures.found tells wanted ix) in
    absurd (none found.definition found.listed found.pair)

pub returns-clause-keeps : goal.returns-clause-keeps
returns-clause-keeps g c tells wanted ix store known =
    let s = g.S.Reads.state c.args.space.now in
    let now = g.S.Reads.state c.open_bucket.new.space in
    let same : SameButReads s now = c.open_bucket.ensures.same in
    let opened = subst (λ (o : Option Bucket). IfSome o (IsOpened s.records)) c.in-Ok-Some.field-0-is (c.in-Ok-Some.ensures.opened tells) in
    c.add_entry.ensures.keeps tells (kept_after s now same store) (opened-reread s now c.in-Ok-Some.bucket same opened)
    (subst (λ (r : Records). c.args.node < high r format.nodes_file) (sym (same_records s now same)) known)

pub returns-in-Err-clause-not_damaged : goal.returns-in-Err-clause-not_damaged
returns-in-Err-clause-not_damaged g c tells wanted free ix can =
    subst (λ (f : TakeFault). takes.NotDamaged {T = ℕ} (Err f)) (sym c.of_read.ensures)
    (read-sound c.in-Err.fault (c.in-Err.ensures.not_damaged tells wanted ix (can_ranged (g.S.Reads.state c.args.space.now) free can)))

pub returns-clause-not_damaged : goal.returns-clause-not_damaged
returns-clause-not_damaged g c tells wanted free ix can =
    let s = g.S.Reads.state c.args.space.now in
    let now = g.S.Reads.state c.open_bucket.new.space in
    c.add_entry.ensures.not_damaged tells free (can_after s now free c.open_bucket.ensures.same can)

pub returns-clause-damaged : goal.returns-clause-damaged
returns-clause-damaged g c tells =
    let s = g.S.Reads.state c.args.space.now in
    let now = g.S.Reads.state c.open_bucket.new.space in
    if_err c.add_entry.result (λ fault is. take_before s now fault c.open_bucket.ensures.same (any_list now fault is)) (c.add_entry.ensures.damaged tells)

pub returns-clause-damaged_after : goal.returns-clause-damaged_after
returns-clause-damaged_after g c tells = c.add_entry.ensures.damaged_after tells

pub returns-clause-graph : goal.returns-clause-graph
returns-clause-graph g c tells wanted free ix can =
    let s = g.S.Reads.state c.args.space.now in
    let now = g.S.Reads.state c.open_bucket.new.space in
    let same : SameButReads s now = c.open_bucket.ensures.same in
    let opened = subst (λ (o : Option Bucket). IfSome o (IsOpened s.records)) c.in-Ok-Some.field-0-is (c.in-Ok-Some.ensures.opened tells) in
    on_ok c.add_entry.result (λ stays. stays ∙ ap indexes_of (same_records s now same))
    (c.add_entry.ensures.graph tells free (opened-reread s now c.in-Ok-Some.bucket same opened) (can_after s now free same can))

-- ---- what is named

pub returns-in-Err-clause-listed : goal.returns-in-Err-clause-listed
returns-in-Err-clause-listed g c tells ds are =
    taken_definition (g.S.Reads.state c.args.space.now) c.in-Err.fault c.of_read.result c.of_read.ensures (c.in-Err.ensures.named tells ds are)

pub returns-clause-listed : goal.returns-clause-listed
returns-clause-listed g c tells ds are =
    let s = g.S.Reads.state c.args.space.now in
    let now = g.S.Reads.state c.open_bucket.new.space in
    if_err c.add_entry.result (λ fault is. taken_definition_before s now fault c.open_bucket.ensures.same (list_definition now fault is))
    (c.add_entry.ensures.damaged tells)

pub returns-in-Ok-None-clause-spares : goal.returns-in-Ok-None-clause-spares
returns-in-Ok-None-clause-spares g c tells = spares_none _ _ c.open_bucket.ensures.same

pub returns-clause-spares : goal.returns-clause-spares
returns-clause-spares g c tells =
    let s = g.S.Reads.state c.args.space.now in
    let now = g.S.Reads.state c.open_bucket.new.space in
    let t = g.S.Reads.state c.add_entry.new.space in
    let same : SameButReads s now = c.open_bucket.ensures.same in
    let opened = subst (λ (o : Option Bucket). IfSome o (IsOpened s.records)) c.in-Ok-Some.field-0-is (c.in-Ok-Some.ensures.opened tells) in
    on_ok c.add_entry.result (spares_then s now t (spares_none s now same))
    (c.add_entry.ensures.spares tells (opened-reread s now c.in-Ok-Some.bucket same opened))

-- ---- what is written where a record is blamed

pub returns-in-Err-clause-unwritten : goal.returns-in-Err-clause-unwritten
returns-in-Err-clause-unwritten g c =
    let s = g.S.Reads.state c.args.space.now in
    let now = g.S.Reads.state c.open_bucket.new.space in
    read_unwritten c.of_read.result c.in-Err.fault _ c.of_read.ensures (c.open_bucket.ensures.same)

pub returns-clause-unwritten : goal.returns-clause-unwritten
returns-clause-unwritten g c =
    let s = g.S.Reads.state c.args.space.now in
    let now = g.S.Reads.state c.open_bucket.new.space in
    let t = g.S.Reads.state c.add_entry.new.space in
    blame_then c.add_entry.result _ _ (same_then s now t (c.open_bucket.ensures.same)) c.add_entry.ensures.unwritten
