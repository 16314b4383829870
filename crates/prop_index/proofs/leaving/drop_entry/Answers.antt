use Rattle.std.proofs.Common.{◌≡◌, ◌≢◌, ◌∙◌, Option, Some, List, ap, sym, subst, ◌-◌, ℕ, arith, rules}
use Rattle.rec_bytes.specs.Fault.{damage_of}
use Rattle.rec_bytes.specs.Space.{SameButReads, State, meta_of}
use Rattle.rec_bytes.specs.Meta.{IsLinkBelow}
use Rattle.prop_store.proofs.Exits.{same_has, space_has}
use Rattle.prop_index.specs.Naming.{BlamesBucket}
use Rattle.prop_index.proofs.EntrySpares.{gone_spares}
use Rattle.prop_index.proofs.Sparing.{spares_none, spares_then}
use Rattle.prop_index.specs.Blaming.{NamesIndexes}
use Rattle.std.specs.Prelude.{IfSome}
use Rattle.rec_bytes.specs.declared.record.Rec.{Rec}
use Rattle.rec_bytes.specs.Format as format
use Rattle.rec_bytes.specs.Key.{IsKey}
use Rattle.rec_bytes.specs.Record.{field}
use Rattle.store_rules.specs.IndexChange.{IsEntryGone}
use Rattle.store_rules.specs.Indexes.{next_entry, previous_entry}
use Rattle.store_rules.specs.Views.{Records, key_in, high, kind_at}
use Rattle.store_rules.specs.Graph.{indexes_of}
use Rattle.prop_index.specs.Defining.{SameElsewhere}
use Rattle.prop_index.specs.Heads.{IsHead, IsHeadPlace}
use Rattle.prop_index.specs.declared.entry_row.Content.{Content}
use Rattle.prop_index.specs.declared.heads.Bucket.{Bucket}
use Rattle.prop_index.proofs.DefinitionsStay.{gone_graph, same_graph}
use Rattle.prop_index.proofs.FillSteps.{elsewhere_of}
use Rattle.prop_index.specs.Leaving.{IsBetween, IsBucketChain, IsDropped, IsEntryRow, IsEntrySought, NoneThere, OneGone}
use Rattle.prop_index.specs.Unlinking.{unlinked_entry}
use Rattle.prop_index.specs.declared.entry_row.EntryRow.{EntryRow}
use Rattle.prop_index.proofs.Buckets.{after-member, before-member, chain-entries, chain-reread, head-reread}
use Rattle.prop_index.proofs.Reread.{can_after, kept_after, same_records}
use Rattle.prop_index.proofs.GoneRules.{entry_gone_kept}
use Rattle.prop_index.proofs.LiveCounts.{unlinked_live}
use Rattle.prop_index.proofs.Unlinked.{entry_unlinked}
use Rattle.prop_store.proofs.Causes.{cause_passed, space_cause_passed}
use Rattle.rec_bytes.proofs.Causes.{never_ok, ok_cause}
use Rattle.prop_index.proofs.IndexTouches.{index_same, index_then}
use Rattle.prop_index.proofs.Unwritten.{on_damage}
use Rattle.prop_index.proofs.leaving.drop_entry.Goals as goal

pub returns-in_default-clause-dropped : goal.returns-in_default-clause-dropped
returns-in_default-clause-dropped g c tells xs free head chain can =
    let s = g.S.Reads.state c.args.space.now in
    let now = g.S.Reads.state c.tested_row.new.space in
    NoneThere (subst (IsEntrySought s.records xs c.args.content) c.in_default.is (c.in_ok-row.ensures.found tells xs (chain-entries s c.args.bucket.first xs
    chain)))
    (same_records s now c.in_ok-row.ensures.same)

pub returns-clause-dropped : goal.returns-clause-dropped
returns-clause-dropped g c tells xs free head chain can =
    let s = g.S.Reads.state c.args.space.now in
    let now = g.S.Reads.state c.tested_row.new.space in
    let t = g.S.Reads.state c.unlink.new.space in
    let same = c.in_ok-row.ensures.same in
    let records = same_records s now same in
    let bucket = c.args.bucket in
    let x = c.in-Some.row.id in
    let row = subst (IsEntrySought s.records xs c.args.content) c.in-Some.is (c.in_ok-row.ensures.found tells xs (chain-entries s bucket.first xs chain)) in
    let key : IsKey (key_in format.index_file x) = subst (λ (o : Option EntryRow). IfSome o (λ row. IsKey (key_in format.index_file row.id))) c.in-Some.is
    c.in_ok-row.ensures.key in
    let before_is : c.number-before.result ≡ previous_entry now.records x
    = c.number-before.ensures ∙ ap (λ (r : Rec). field 4 r format.indexed_previous) row.rec_is ∙ ap (λ (r : Records). previous_entry r x) (sym records) in
    let after_is : c.number-after.result ≡ next_entry now.records x
    = c.number-after.ensures ∙ ap (λ (r : Rec). field 4 r format.indexed_next) row.rec_is ∙ ap (λ (r : Records). next_entry r x) (sym records) in
    OneGone x row.member row.says (subst (λ (r : Records). IsEntryGone r t.records x bucket.slot.id bucket.slot.place) records
    (entry_unlinked now bucket.slot bucket.first x xs free (chain-reread s now bucket.first xs same chain) (head-reread s now bucket same head).heads row.member
    (can_after s now free same can)
    key.id t (c.in_ok-unlink.ensures.ok tells ∙ (λ i. unlinked_entry now bucket.slot x (before_is i) (after_is i)))))

pub returns-in_default-clause-keeps : goal.returns-in_default-clause-keeps
returns-in_default-clause-keeps g c tells xs head chain place store =
    let s = g.S.Reads.state c.args.space.now in
    kept_after s (g.S.Reads.state c.tested_row.new.space) c.in_ok-row.ensures.same store

pub returns-clause-keeps : goal.returns-clause-keeps
returns-clause-keeps g c tells xs head chain place store =
    let s = g.S.Reads.state c.args.space.now in
    let now = g.S.Reads.state c.tested_row.new.space in
    let t = g.S.Reads.state c.unlink.new.space in
    let same = c.in_ok-row.ensures.same in
    let bucket = c.args.bucket in
    let x = c.in-Some.row.id in
    let row = subst (IsEntrySought s.records xs c.args.content) c.in-Some.is (c.in_ok-row.ensures.found tells xs (chain-entries s bucket.first xs chain)) in
    let key : IsKey (key_in format.index_file x) = subst (λ (o : Option EntryRow). IfSome o (λ row. IsKey (key_in format.index_file row.id))) c.in-Some.is
    c.in_ok-row.ensures.key in
    let before_is : c.number-before.result ≡ previous_entry now.records x
    = c.number-before.ensures ∙ ap (λ (r : Rec). field 4 r format.indexed_previous) row.rec_is
    ∙ ap (λ (r : Records). previous_entry r x) (sym (same_records s now same)) in
    let after_is : c.number-after.result ≡ next_entry now.records x
    = c.number-after.ensures ∙ ap (λ (r : Rec). field 4 r format.indexed_next) row.rec_is
    ∙ ap (λ (r : Records). next_entry r x) (sym (same_records s now same)) in
    entry_gone_kept now bucket.slot bucket.first x xs (chain-reread s now bucket.first xs same chain) (head-reread s now bucket same head).heads place
    row.member (kept_after s now same store) key.id
    t (c.in_ok-unlink.ensures.ok tells ∙ (λ i. unlinked_entry now bucket.slot x (before_is i) (after_is i)))
    (g.met.S.Reads.onward_shape _ _ c.in_ok-unlink.ensures.onward)

pub returns-in_default-clause-counted : goal.returns-in_default-clause-counted
returns-in_default-clause-counted g c tells =
    let live = ap (λ (z : State). (meta_of z format.index_file).live) c.in_ok-row.ensures.same in
    omega (arith, live)

pub returns-clause-counted : goal.returns-clause-counted
returns-clause-counted g c tells =
    let now = g.S.Reads.state c.tested_row.new.space in
    let x = c.in-Some.row.id in
    let key : IsKey (key_in format.index_file x) = subst (λ (o : Option EntryRow). IfSome o (λ row. IsKey (key_in format.index_file row.id))) c.in-Some.is
    c.in_ok-row.ensures.key in
    let small = key.id in
    let live = ap (λ (z : State). (meta_of z format.index_file).live) c.in_ok-row.ensures.same in
    let gone = ap (λ (z : State). (meta_of z format.index_file).live) (c.in_ok-unlink.ensures.ok tells)
    ∙ unlinked_live now c.args.bucket.slot x c.number-before.result c.number-after.result (omega (arith, small)) in
    omega (arith, live, gone)

pub returns-in_default-clause-kept : goal.returns-in_default-clause-kept
returns-in_default-clause-kept g c tells =
    let live = ap (λ (z : State). (meta_of z format.index_file).live) c.in_ok-row.ensures.same in
    omega (arith, live)

pub returns-clause-kept : goal.returns-clause-kept
returns-clause-kept g c tells =
    let now = g.S.Reads.state c.tested_row.new.space in
    let x = c.in-Some.row.id in
    let key : IsKey (key_in format.index_file x) = subst (λ (o : Option EntryRow). IfSome o (λ row. IsKey (key_in format.index_file row.id))) c.in-Some.is
    c.in_ok-row.ensures.key in
    let small = key.id in
    let live = ap (λ (z : State). (meta_of z format.index_file).live) c.in_ok-row.ensures.same in
    let gone = ap (λ (z : State). (meta_of z format.index_file).live) (c.in_ok-unlink.ensures.ok tells)
    ∙ unlinked_live now c.args.bucket.slot x c.number-before.result c.number-after.result (omega (arith, small)) in
    omega (arith, live, gone)

pub returns-in_err-unlink-clause-names : goal.returns-in_err-unlink-clause-names
returns-in_err-unlink-clause-names g c tells = space_has NamesIndexes tt tt c.from_residual-in_err-unlink.result c.in_err-unlink.field-0.0
    c.from_residual-in_err-unlink.ensures.1

-- what became of the records of the index
dropped_graph : (s t : Records) (xs : List ℕ) (bucket : Bucket) (content : Content) → IsHead s bucket → IsBucketChain s bucket.first xs
    → IsHeadPlace bucket.slot.place → SameElsewhere s t
    → IsDropped s t xs bucket.slot content → indexes_of t ≡ indexes_of s
dropped_graph s t xs bucket content head chain place elsewhere (NoneThere none same) = same_graph s t same
dropped_graph s t xs bucket content head chain place elsewhere (OneGone x member says gone) =
    let at = place.is in
    gone_graph s t x bucket.slot.id bucket.slot.place gone (chain.kind x member) head.heads
    (λ some. chain.kind (next_entry s x) (after-member s bucket.first x xs chain member some))
    (λ some. chain.kind (previous_entry s x) (before-member s bucket.first x xs chain member some))
    (omega (arith, at)) elsewhere

pub returns-in_default-clause-graph : goal.returns-in_default-clause-graph
returns-in_default-clause-graph g c tells xs free head chain place can =
    let s = g.S.Reads.state c.args.space.now in
    let now = g.S.Reads.state c.tested_row.new.space in
    same_graph s.records now.records (same_records s now c.in_ok-row.ensures.same)

pub returns-clause-graph : goal.returns-clause-graph
returns-clause-graph g c tells xs free head chain place can =
    let s = g.S.Reads.state c.args.space.now in
    let now = g.S.Reads.state c.tested_row.new.space in
    let t = g.S.Reads.state c.unlink.new.space in
    let touched = c.in_ok-unlink.ensures.touches in
    let elsewhere : SameElsewhere s.records t.records = subst (λ (r : Records). SameElsewhere r t.records) (same_records s now c.in_ok-row.ensures.same)
    (elsewhere_of g.S.Reads.tells now t touched.ids tells touched.only) in
    dropped_graph s.records t.records xs c.args.bucket c.args.content head chain place elsewhere (returns-clause-dropped g c tells xs free head chain can)

pub returns-in_default-clause-gone : goal.returns-in_default-clause-gone
returns-in_default-clause-gone g c tells xs chain x member says =
    let s = g.S.Reads.state c.args.space.now in
    absurd (subst (IsEntrySought s.records xs c.args.content) c.in_default.is (c.in_ok-row.ensures.found tells xs (chain-entries s c.args.bucket.first xs
    chain)) x member says)

pub returns-clause-gone : goal.returns-clause-gone
returns-clause-gone g c tells xs chain x member says =
    let now = g.S.Reads.state c.tested_row.new.space in
    let id = c.in-Some.row.id in
    let key : IsKey (key_in format.index_file id) = subst (λ (o : Option EntryRow). IfSome o (λ row. IsKey (key_in format.index_file row.id))) c.in-Some.is
    c.in_ok-row.ensures.key in
    let small = key.id in
    ap (λ (z : State). (meta_of z format.index_file).live) (c.in_ok-unlink.ensures.ok tells)
    ∙ unlinked_live now c.args.bucket.slot id c.number-before.result c.number-after.result (omega (arith, small))
    ∙ ap (λ (z : State). (meta_of z format.index_file).live - 1) c.in_ok-row.ensures.same

pub returns-in_default-clause-absent : goal.returns-in_default-clause-absent
returns-in_default-clause-absent g c tells xs chain none = c.in_ok-row.ensures.same

pub returns-clause-absent : goal.returns-clause-absent
returns-clause-absent g c tells xs chain none =
    let s = g.S.Reads.state c.args.space.now in
    let row = subst (IsEntrySought s.records xs c.args.content) c.in-Some.is
    (c.in_ok-row.ensures.found tells xs (chain-entries s c.args.bucket.first xs chain)) in
    absurd (none c.in-Some.row.id row.member row.says)

pub returns-in_err-unlink-clause-onward : goal.returns-in_err-unlink-clause-onward
returns-in_err-unlink-clause-onward g c =
    g.met.S.Reads.further_onward _ _ _ c.in_ok-row.ensures.onward c.in_err-unlink.ensures.onward

pub returns-clause-onward : goal.returns-clause-onward
returns-clause-onward g c = g.met.S.Reads.further_onward _ _ _ c.in_ok-row.ensures.onward c.in_ok-unlink.ensures.onward

pub returns-in_err-unlink-clause-cause : goal.returns-in_err-unlink-clause-cause
returns-in_err-unlink-clause-cause g c =
    space_cause_passed _ _ _ c.from_residual-in_err-unlink.result c.in_err-unlink.field-0.0
    c.in_ok-row.ensures.cause.later c.in_err-unlink.ensures.cause
    c.from_residual-in_err-unlink.ensures.1

pub returns-in_err-row-clause-dropped : goal.returns-in_err-row-clause-dropped
returns-in_err-row-clause-dropped g c _ _ _ _ _ _ = never_ok c.from_residual.result _ _ c.from_residual.ensures.1

pub returns-in_err-row-clause-keeps : goal.returns-in_err-row-clause-keeps
returns-in_err-row-clause-keeps g c _ _ _ _ _ _ = never_ok c.from_residual.result _ _ c.from_residual.ensures.1

pub returns-in_err-row-clause-graph : goal.returns-in_err-row-clause-graph
returns-in_err-row-clause-graph g c _ _ _ _ _ _ _ = never_ok c.from_residual.result _ _ c.from_residual.ensures.1

pub returns-in_err-row-clause-counted : goal.returns-in_err-row-clause-counted
returns-in_err-row-clause-counted g c _ = never_ok c.from_residual.result _ _ c.from_residual.ensures.1

pub returns-in_err-row-clause-kept : goal.returns-in_err-row-clause-kept
returns-in_err-row-clause-kept g c _ = never_ok c.from_residual.result _ _ c.from_residual.ensures.1

pub returns-in_err-row-clause-absent : goal.returns-in_err-row-clause-absent
returns-in_err-row-clause-absent g c _ _ _ _ = never_ok c.from_residual.result _ _ c.from_residual.ensures.1

pub returns-in_err-row-clause-gone : goal.returns-in_err-row-clause-gone
returns-in_err-row-clause-gone g c _ _ _ _ _ _ = never_ok c.from_residual.result _ _ c.from_residual.ensures.1

pub returns-in_err-row-clause-onward : goal.returns-in_err-row-clause-onward
returns-in_err-row-clause-onward g c = search rules

pub returns-in_err-unlink-clause-dropped : goal.returns-in_err-unlink-clause-dropped
returns-in_err-unlink-clause-dropped g c _ _ _ _ _ _ = never_ok c.from_residual-in_err-unlink.result _ _ c.from_residual-in_err-unlink.ensures.1

pub returns-in_err-unlink-clause-keeps : goal.returns-in_err-unlink-clause-keeps
returns-in_err-unlink-clause-keeps g c _ _ _ _ _ _ = never_ok c.from_residual-in_err-unlink.result _ _ c.from_residual-in_err-unlink.ensures.1

pub returns-in_err-unlink-clause-graph : goal.returns-in_err-unlink-clause-graph
returns-in_err-unlink-clause-graph g c _ _ _ _ _ _ _ = never_ok c.from_residual-in_err-unlink.result _ _ c.from_residual-in_err-unlink.ensures.1

pub returns-in_err-unlink-clause-counted : goal.returns-in_err-unlink-clause-counted
returns-in_err-unlink-clause-counted g c _ = never_ok c.from_residual-in_err-unlink.result _ _ c.from_residual-in_err-unlink.ensures.1

pub returns-in_err-unlink-clause-kept : goal.returns-in_err-unlink-clause-kept
returns-in_err-unlink-clause-kept g c _ = never_ok c.from_residual-in_err-unlink.result _ _ c.from_residual-in_err-unlink.ensures.1

pub returns-in_err-unlink-clause-absent : goal.returns-in_err-unlink-clause-absent
returns-in_err-unlink-clause-absent g c _ _ _ _ = never_ok c.from_residual-in_err-unlink.result _ _ c.from_residual-in_err-unlink.ensures.1

pub returns-in_err-unlink-clause-gone : goal.returns-in_err-unlink-clause-gone
returns-in_err-unlink-clause-gone g c _ _ _ _ _ _ = never_ok c.from_residual-in_err-unlink.result _ _ c.from_residual-in_err-unlink.ensures.1

pub returns-clause-cause : goal.returns-clause-cause
returns-clause-cause g c = ok_cause _ _ _ _ (omega arith)

pub returns-in_err-row-clause-touches : goal.returns-in_err-row-clause-touches
returns-in_err-row-clause-touches g c = index_same 3 _ _ c.in_err-row.ensures.same

pub returns-in_default-clause-touches : goal.returns-in_default-clause-touches
returns-in_default-clause-touches g c = index_same 3 _ _ c.in_ok-row.ensures.same

pub returns-in_err-unlink-clause-touches : goal.returns-in_err-unlink-clause-touches
returns-in_err-unlink-clause-touches g c = index_then 0 3 3 _ _ _ (omega arith) (index_same 0 _ _ c.in_ok-row.ensures.same) c.in_err-unlink.ensures.touches

pub returns-clause-touches : goal.returns-clause-touches
returns-clause-touches g c = index_then 0 3 3 _ _ _ (omega arith) (index_same 0 _ _ c.in_ok-row.ensures.same) c.in_ok-unlink.ensures.touches

pub returns-in_err-row-clause-cause : goal.returns-in_err-row-clause-cause
returns-in_err-row-clause-cause g c =
    cause_passed _ _ _ c.from_residual.result c.in_err-row.field-0.0 (omega arith) c.in_err-row.ensures.cause c.from_residual.ensures.1

pub returns-in_default-clause-cause : goal.returns-in_default-clause-cause
returns-in_default-clause-cause g c = ok_cause _ _ _ _ c.in_ok-row.ensures.cause.later

pub returns-in_default-clause-onward : goal.returns-in_default-clause-onward
returns-in_default-clause-onward g c = c.in_ok-row.ensures.onward

pub unlink-requires-clause-slot : goal.unlink-requires-clause-slot
unlink-requires-clause-slot g c = c.requires.key

pub unlink-requires-clause-place : goal.unlink-requires-clause-place
unlink-requires-clause-place g c = c.requires.place

pub unlink-requires-clause-id : goal.unlink-requires-clause-id
unlink-requires-clause-id g c = subst (λ (o : Option EntryRow). IfSome o (λ row. IsKey (key_in format.index_file row.id))) c.in-Some.is c.in_ok-row.ensures.key

-- ---- what is written where a record is blamed

pub returns-in_err-row-clause-unwritten : goal.returns-in_err-row-clause-unwritten
returns-in_err-row-clause-unwritten g c = on_damage c.from_residual.result _ c.in_err-row.ensures.same

pub returns-in_err-unlink-clause-unwritten : goal.returns-in_err-unlink-clause-unwritten
returns-in_err-unlink-clause-unwritten g c =
    space_has (λ fault. IfSome (damage_of fault) (λ _. SameButReads (g.S.Reads.state c.args.space.now) (g.S.Reads.state c.unlink.new.space))) tt tt
    c.from_residual-in_err-unlink.result c.in_err-unlink.field-0.0 c.from_residual-in_err-unlink.ensures.1

pub unlink-requires-clause-before : goal.unlink-requires-clause-before
unlink-requires-clause-before g c some =
    let key = subst (λ (o : Option EntryRow). IfSome o (λ r. field 4 r.rec format.indexed_previous ≢ format.nil → IsKey (key_in format.index_file
    (field 4 r.rec format.indexed_previous)))) c.in-Some.is c.in_ok-row.ensures.before in
    subst (λ z. IsKey (key_in format.index_file z)) (sym c.number-before.ensures) (key (λ none. some (c.number-before.ensures ∙ none)))

pub unlink-requires-clause-after : goal.unlink-requires-clause-after
unlink-requires-clause-after g c some =
    let key = subst (λ (o : Option EntryRow). IfSome o (λ r. field 4 r.rec format.indexed_next ≢ format.nil → IsKey (key_in format.index_file
    (field 4 r.rec format.indexed_next)))) c.in-Some.is c.in_ok-row.ensures.after in
    subst (λ z. IsKey (key_in format.index_file z)) (sym c.number-after.ensures) (key (λ none. some (c.number-after.ensures ∙ none)))

pub returns-in_err-row-clause-names : goal.returns-in_err-row-clause-names
returns-in_err-row-clause-names g c tells = same_has NamesIndexes c.from_residual.result c.in_err-row.field-0.0 c.from_residual.ensures.1
    (c.in_err-row.ensures.names tells)

pub returns-in_err-row-clause-wrong : goal.returns-in_err-row-clause-wrong
returns-in_err-row-clause-wrong g c tells d b h =
    same_has (BlamesBucket (g.S.Reads.state c.args.space.now) d b) c.from_residual.result c.in_err-row.field-0.0 c.from_residual.ensures.1
    (c.in_err-row.ensures.wrong tells d b h)

pub returns-in_err-unlink-clause-wrong : goal.returns-in_err-unlink-clause-wrong
returns-in_err-unlink-clause-wrong g c tells d b h =
    space_has (BlamesBucket (g.S.Reads.state c.args.space.now) d b) tt tt c.from_residual-in_err-unlink.result c.in_err-unlink.field-0.0
    c.from_residual-in_err-unlink.ensures.1

pub returns-in_err-row-clause-spares : goal.returns-in_err-row-clause-spares
returns-in_err-row-clause-spares g c _ _ _ _ _ _ = never_ok c.from_residual.result _ _ c.from_residual.ensures.1

pub returns-in_err-unlink-clause-spares : goal.returns-in_err-unlink-clause-spares
returns-in_err-unlink-clause-spares g c _ _ _ _ _ _ = never_ok c.from_residual-in_err-unlink.result _ _ c.from_residual-in_err-unlink.ensures.1

pub returns-in_default-clause-spares : goal.returns-in_default-clause-spares
returns-in_default-clause-spares g c tells d b h head place = spares_none _ _ c.in_ok-row.ensures.same

pub returns-clause-spares : goal.returns-clause-spares
returns-clause-spares g c tells d b h head place =
    let s = g.S.Reads.state c.args.space.now in
    let now = g.S.Reads.state c.tested_row.new.space in
    let t = g.S.Reads.state c.unlink.new.space in
    let same = c.in_ok-row.ensures.same in
    let records = same_records s now same in
    let row = c.in-Some.row in
    let is = c.in-Some.is in
    let at = place.is in
    let key : IsKey (key_in format.index_file row.id) = subst (λ (o : Option EntryRow). IfSome o (λ r. IsKey (key_in format.index_file r.id)))
    is c.in_ok-row.ensures.key in
    let read = subst (λ (o : Option EntryRow). IfSome o (IsEntryRow s.records)) is (c.in_ok-row.ensures.row tells) in
    let between = subst (λ (o : Option EntryRow). IfSome o (IsBetween s)) is (c.in_ok-row.ensures.between tells d b h) in
    let kinds : (x kind : ℕ) → kind_at s.records format.index_file x ≡ kind → kind_at now.records format.index_file x ≡ kind
    = λ x kind k. ap (λ (r : Records). kind_at r format.index_file x) records ∙ k in
    let before_is = c.number-before.ensures in
    let after_is = c.number-after.ensures in
    spares_then s now t (spares_none s now same)
    (gone_spares now t c.args.bucket.slot row.id c.number-before.result c.number-after.result (c.in_ok-unlink.ensures.ok tells) key.id
    (kinds row.id format.indexed read.used) (kinds c.args.bucket.slot.id format.heads head.heads)
    (λ some. kinds c.number-before.result format.indexed (ap (kind_at s.records format.index_file) before_is ∙ between.before
    (λ none. some (before_is ∙ none))))
    (λ some. kinds c.number-after.result format.indexed (ap (kind_at s.records format.index_file) after_is ∙ between.after (λ none. some (after_is ∙ none))))
    (λ e. between.other (sym before_is ∙ e)) (λ e. between.another (sym after_is ∙ e))
    (subst (λ (z : State). IsLinkBelow (meta_of z format.index_file).free (meta_of z format.index_file).high) (sym same) between.free) (omega (arith, at)))
